-- How a run over lines goes on from line to line.
use Rattle.std.specs.Prelude.{⊤}
use Rattle.std.proofs.Common.{inl, inr, ◌≡◌, ℕ, ◌+◌, ◌-◌, Bool, true, false, List, [], ◌∷◌, ◌++◌, length, take, Option, Some, None, Result, Ok, Err, refl, sym, ap, subst, ◌∙◌, arith}
use Rattle.std.proofs.lemmas.List.{append-nil, append_assoc}
use Rattle.rpc_record.specs.declared.stream.Failed.{Failed}
use Rattle.rpc_record.specs.declared.stream.Failed.TheVariants.{Fault, NoMemory as Wanted}
use Rattle.line_runs.specs.declared.lines.Ended.TheVariants.{Newline, End, PastBudget as RanOver}
use Rattle.line_runs.specs.declared.end.RunEnd.{RunEnd}
use Rattle.line_runs.specs.declared.end.RunEnd.TheVariants.{Done, BadLine, ReadFault, WriteFault, NoMemory, Limit}
use Rattle.line_runs.specs.Lines.{Line, PastBudget, cut_line, ended_lines, script_lines, Drawn, ReadsLine, CutsLine}
use Rattle.line_runs.specs.Writing.{IsBeginningOf, WritesText}
use Rattle.line_runs.specs.Runs.{RunEffect, at_end, after_text, whole_text}
use Rattle.line_runs.specs.Tasks.{TaskValue, IsAtEnd, IsOutside, IsAtLimit}
use Rattle.line_runs.specs.Playback.{RunState, with_text, Stand, stand, at_line, lines_by, lines_ahead, effect_ahead, state_ahead, over_ahead, text_ahead, Owes, OwesPart, GoesOn, OwesRead, EndsBy, LinesEnd, PlaybackSteps, AdvancesLine, Halts, Breaks, LinePlays, LastPlays}
use Rattle.line_runs.proofs.LineLemmas.{cut_more-line, cut_more-over, script_line, line_length, script_end, script_last, script_over, over_lines, last_length, ended_line, ended_last}
use Rattle.line_runs.proofs.OweLemmas.{owes_same, owes_as, owes_part, whole_part, wrote_owes, broke_off, part_more, begins_more, owes_whole}

-- the run has gone on for some steps
abbrev pub Went : {State : Type 0} → Option (List ℕ) → Option (List ℕ) → Stand State → Option (List ℕ) → Option (List ℕ) → Stand State → Type 0
Went None held old left' held' new = ⊤
Went (Some left) held old left' held' new = GoesOn left held old left' held' new

-- ---- the lines at the front

lines_line : (all : Bool) (n : ℕ) (bs line rest : List ℕ) → cut_line n bs ≡ Line line rest → lines_by all n bs ≡ line ∷ lines_by all (n - (length line + 1)) rest
lines_line true n bs line rest cut = script_line n bs line rest cut
lines_line false n bs line rest cut = ended_line n bs line rest cut

-- where a run stands once these bytes are held
abbrev pub holding : {State : Type 0} → List ℕ → Stand State → Stand State
holding held s = record { ahead = s.ahead; text = s.text; held = held; room = s.room }

-- what was cut off what the source gave is cut off whatever stands behind it
cut_on : (room : ℕ) (old front more line held : List ℕ) → cut_line room (old ++ front) ≡ Line line held → cut_line room (old ++ (front ++ more)) ≡ Line line (held ++ more)
cut_on room old front more line held cut = ap (cut_line room) (sym (append_assoc old front more)) ∙ cut_more-line room (old ++ front) more line held cut

-- the run went past a line
goes_past : {State : Type 0} (left : List ℕ) (held held' left' : Option (List ℕ)) (s new : Stand State) (line held1 : List ℕ) → (drawn : Drawn left left') → cut_line s.room (s.held ++ drawn.front) ≡ Line line held1
    → AdvancesLine held (at_line (length line + 1) line (holding held1 s)) held' new → GoesOn left held s left' held' new
goes_past left held held' left' s new line held1 drawn cut went = record {
  front = drawn.front;
  gave = record { rest = drawn.rest; told = drawn.told; joined = drawn.whole };
  more = went.more;
  same = λ all rest. ap s.ahead.meaning (at all rest) ∙ went.same (behind all rest) ∙ ap (λ ls. after_text went.more (new.ahead.meaning ls)) (sym (now all rest));
  after = λ all rest. ap s.ahead.after (at all rest) ∙ went.after (behind all rest) ∙ ap new.ahead.after (sym (now all rest));
  over = λ rest.
      let long = line_length s.room (s.held ++ (drawn.front ++ rest)) line (held1 ++ rest) (cut_on s.room s.held drawn.front rest line held1 cut) in
      omega (arith, went.same_room, long.0, long.1, ap (λ (h : List ℕ). length (h ++ rest)) went.same_held);
  owes = went.owes;
}
  where
    behind : Bool → List ℕ → List (List ℕ)
    behind all rest = lines_by all (s.room - (length line + 1)) (held1 ++ rest)

    at : (all : Bool) (rest : List ℕ) → lines_ahead all s (drawn.front ++ rest) ≡ line ∷ lines_by all (s.room - (length line + 1)) (held1 ++ rest)
    at all rest = lines_line all s.room (s.held ++ (drawn.front ++ rest)) line (held1 ++ rest) (cut_on s.room s.held drawn.front rest line held1 cut)

    now : (all : Bool) (rest : List ℕ) → lines_ahead all new rest ≡ lines_by all (s.room - (length line + 1)) (held1 ++ rest)
    now all rest = λ i. lines_by all (went.same_room i) (went.same_held i ++ rest)

-- ---- what the first line comes to

-- the text of what is to come, by what it comes to
ahead_is : {State : Type 0} (all : Bool) (s : Stand State) (bytes : List ℕ) (lines : List (List ℕ)) → lines_ahead all s bytes ≡ lines → effect_ahead all s bytes ≡ s.ahead.meaning lines
ahead_is all s bytes lines at = ap s.ahead.meaning at

-- the first line ended the run
halts_at : {State : Type 0} (why : RunEffect → Type 0) (all : Bool) (held held' : Option (List ℕ)) (s : Stand State) (taken : ℕ) (bytes line held1 : List ℕ) (lines : List (List ℕ)) (task : TaskValue State) (text' : List ℕ)
    → lines_ahead all s bytes ≡ line ∷ lines → (halts : Halts why held (at_line taken line (holding held1 s)) held' task text')
    → why (effect_ahead all s bytes) × (task.state ≡ state_ahead all s bytes) × Owes held (text_ahead all s bytes) held' (text' ++ task.closing)
halts_at why all held held' s taken bytes line held1 lines task text' at halts = (
  subst (λ ls. why (s.ahead.meaning ls)) (sym at) (halts.why lines),
  sym (ap s.ahead.after at ∙ halts.after lines),
  owes_whole held held' s.text text' halts.more task.closing (effect_ahead all s bytes)
      (ap (λ ls. (s.ahead.meaning ls).text) at ∙ halts.adds lines) (ap (λ ls. (s.ahead.meaning ls).closing) at ∙ halts.closing lines) halts.owes,
)

-- it was broken off
breaks_at : {State : Type 0} (all : Bool) (held held' : Option (List ℕ)) (s : Stand State) (taken : ℕ) (bytes line held1 : List ℕ) (lines : List (List ℕ)) (owed : List ℕ)
    → lines_ahead all s bytes ≡ line ∷ lines → Breaks held (at_line taken line (holding held1 s)) held' owed → OwesPart held (text_ahead all s bytes) held' owed
breaks_at all held held' s taken bytes line held1 lines owed at breaks =
    let begins : IsBeginningOf breaks.part (effect_ahead all s bytes).text = subst (λ ls. IsBeginningOf breaks.part (s.ahead.meaning ls).text) (sym at) (breaks.begins lines) in
    part_more held held' s.text breaks.part (whole_text (effect_ahead all s bytes)) owed (begins_more breaks.part (effect_ahead all s bytes).text (effect_ahead all s bytes).closing begins) breaks.owes

-- no line is left
none_at : {State : Type 0} (all : Bool) (held : Option (List ℕ)) (s : Stand State) (bytes : List ℕ) (task : TaskValue State) → IsAtEnd task s.ahead → lines_ahead all s bytes ≡ []
    → ((effect_ahead all s bytes).bad ≡ None) × ((effect_ahead all s bytes).past ≡ false) × (task.entries ≡ (effect_ahead all s bytes).count) × ((effect_ahead all s bytes).text ≡ []) × (task.state ≡ state_ahead all s bytes)
    × Owes held (text_ahead all s bytes) held (s.text ++ task.closing)
none_at all held s bytes task ends at =
    let effect : effect_ahead all s bytes ≡ at_end task.entries task.closing = ap s.ahead.meaning at ∙ ends.effect in
    let text = ap (λ (e : RunEffect). e.text) effect in (
      ap (λ (e : RunEffect). e.bad) effect,
      ap (λ (e : RunEffect). e.past) effect,
      sym (ap (λ (e : RunEffect). e.count) effect),
      text,
      sym (ap s.ahead.after at ∙ ends.same),
      owes_whole held held s.text s.text [] task.closing (effect_ahead all s bytes) text (ap (λ (e : RunEffect). e.closing) effect)
          (owes_as held held _ _ _ _ (sym (append-nil s.text)) refl (owes_same held s.text)),
    )

-- what is owed is of what the source gave, or of all
of_front : {State : Type 0} (left : List ℕ) (held held' left' : Option (List ℕ)) (s : Stand State) (owed : List ℕ) (drawn : Drawn left left') → OwesPart held (text_ahead false s drawn.front) held' owed → OwesRead left held s left' held' owed
of_front left held held' left' s owed drawn owes = record {
  front = drawn.front;
  gave = record { rest = drawn.rest; told = drawn.told; joined = drawn.whole };
  owes = inl owes;
}

of_all : {State : Type 0} (left : List ℕ) (held held' left' : Option (List ℕ)) (s : Stand State) (owed : List ℕ) → left' ≡ Some [] → OwesPart held (text_ahead true s left) held' owed → OwesRead left held s left' held' owed
of_all left held held' left' s owed none owes = record {
  front = left;
  gave = record { rest = []; told = none; joined = append-nil left };
  owes = inr (refl, owes);
}

-- ---- what a step did, by what the reading of a line did

pub read_fault : {State : Type 0} (left held left' : Option (List ℕ)) (s : Stand State) (task : TaskValue State) (line held1 : List ℕ) → IsAtEnd task s.ahead → ReadsLine s.room s.held left (Err Fault) line held1 left'
    → PlaybackSteps left held s (Ok (Some ReadFault)) left' held task (holding held1 s)
read_fault None held left' s task line held1 ends read = tt
read_fault (Some b) held left' s task line held1 ends read =
    let drawn = read.keeps.drawn in
    let line_is : line ≡ s.held ++ drawn.front = sym (append-nil line) ∙ ap (λ h. line ++ h) (sym read.none_held) ∙ read.keeps.kept in
    let at : lines_ahead false s drawn.front ≡ [] = ap (λ bs. ended_lines (take s.room bs)) (sym line_is) ∙ ended_last s.room line line read.cut in
    let none = none_at false held s drawn.front task ends at in
    let size : length line ≡ length (s.held ++ drawn.front) = ap (λ (bs : List ℕ). length bs) line_is in record {
      front = drawn.front;
      gave = record { rest = drawn.rest; told = drawn.told; joined = drawn.whole };
      good = none.0;
      within = none.1;
      short = omega (arith, size, (last_length s.room line line read.cut).1);
      owes = owes_as held held _ _ _ _ (sym (append-nil s.text) ∙ ap (λ t. s.text ++ t) (sym none.3)) refl (owes_same held s.text);
    }

pub read_memory : {State : Type 0} (left held left' : Option (List ℕ)) (s : Stand State) (task : TaskValue State) (line held1 : List ℕ) → ReadsLine s.room s.held left (Err Wanted) line held1 left'
    → PlaybackSteps left held s (Ok (Some NoMemory)) left' held task (holding held1 s)
read_memory None held left' s task line held1 read = tt
read_memory (Some b) held left' s task line held1 read =
    of_front b held held left' s s.text read.drawn (owes_part held (text_ahead false s read.drawn.front) s.text (whole_text (effect_ahead false s read.drawn.front)) refl)

pub read_over : {State : Type 0} (left held left' : Option (List ℕ)) (s : Stand State) (task : TaskValue State) (line held1 : List ℕ) (count : ℕ) → IsAtEnd task s.ahead → count ≡ task.entries → ReadsLine s.room s.held left (Ok RanOver) line held1 left'
    → PlaybackSteps left held s (Ok (Some (Limit count))) left' held task (holding held1 s)
read_over None held left' s task line held1 count ends is read = tt
read_over (Some b) held left' s task line held1 count ends is read =
    let drawn = read.keeps.drawn in
    let cut : cut_line s.room (s.held ++ b) ≡ PastBudget = ap (λ bs. cut_line s.room (s.held ++ bs)) (sym drawn.whole) ∙ ap (cut_line s.room) (sym (append_assoc s.held drawn.front drawn.rest)) ∙ cut_more-over s.room (s.held ++ drawn.front) drawn.rest read.cut in
    let over = script_over s.room (s.held ++ b) cut in
    let none = none_at true held s b task ends over.0 in
    let front = none_at false held s drawn.front task ends (over_lines s.room (s.held ++ drawn.front) read.cut) in record {
      why = (inr (none.1, none.0, omega (arith, over.1)), is ∙ none.2);
      after = none.4;
      owes = none.5;
      read = of_front b held held left' s (s.text ++ task.closing) drawn (whole_part held held _ _ front.5);
    }

-- the last line, which ended the run
last_halts : {State : Type 0} (why : RunEffect → Type 0) (end : RunEnd) (b : List ℕ) (held held' left' : Option (List ℕ)) (s : Stand State) (taken : ℕ) (line held1 : List ℕ) (task : TaskValue State) (text' : List ℕ)
    → ((e : RunEffect) (over : ℕ) → why e → EndsBy end e over) → lines_ahead true s b ≡ line ∷ [] → left' ≡ Some [] → Halts why held (at_line taken line (holding held1 s)) held' task text'
    → LinesEnd b held s end left' held' task.state (text' ++ task.closing)
last_halts why end b held held' left' s taken line held1 task text' so at none_left halts =
    let here = halts_at why true held held' s taken b line held1 [] task text' at halts in record {
      why = so (effect_ahead true s b) (over_ahead s b) here.0;
      after = here.1;
      owes = here.2;
      read = of_all b held held' left' s (text' ++ task.closing) none_left (whole_part held held' _ _ here.2);
    }

pub read_last : {State : Type 0} (left held held' left' : Option (List ℕ)) (s new : Stand State) (was task : TaskValue State) (line held1 : List ℕ) (r : Result (Option RunEnd) Failed) → IsAtEnd was s.ahead → (r ≡ Ok (Some Done) → IsAtEnd task new.ahead)
    → ReadsLine s.room s.held left (Ok End) line held1 left' → LastPlays held line was (holding held1 s) r held' task new → PlaybackSteps left held s r left' held' task new
read_last None held held' left' s new was task line held1 r ends ends' read plays = tt
read_last (Some b) held held' left' s new was task [] held1 r ends ends' read plays =
    let last = script_end s.room (s.held ++ b) read.cut in
    let none = none_at true held s b was ends last.1 in
    let short : length (s.held ++ b) - s.room ≡ 0 = (let empty = ap (λ (bs : List ℕ). length bs) last.0 in omega (arith, empty)) in
    let here : PlaybackSteps (Some b) held s (Ok (Some Done)) left' held was (holding held1 s) = (
      record {
        why = (none.0, none.1, short);
        after = none.4;
        owes = none.5;
        read = of_all b held held left' s (s.text ++ was.closing) read.none_left (whole_part held held _ _ none.5);
      },
      read.none_left,
    ) in
    subst (λ q. PlaybackSteps (Some b) held s q left' held' task new) (sym plays.0)
    (subst (λ h. PlaybackSteps (Some b) held s (Ok (Some Done)) left' h task new) (sym plays.1)
    (subst (λ t. PlaybackSteps (Some b) held s (Ok (Some Done)) left' held t new) (sym plays.2)
    (subst (λ n. PlaybackSteps (Some b) held s (Ok (Some Done)) left' held was n) (sym plays.3) here)))
read_last (Some b) held held' left' s new was task (c ∷ rest) held1 (Ok None) ends ends' read plays = absurd plays
read_last (Some b) held held' left' s new was task (c ∷ rest) held1 (Ok (Some Done)) ends ends' read plays =
    let last = script_last s.room (s.held ++ b) (c ∷ rest) read.cut (λ e. absurd (cc)) in
    let at_new = ends' refl in
    let effect : effect_ahead true s b ≡ after_text plays.more (at_end task.entries task.closing) = ap s.ahead.meaning last.0 ∙ plays.same [] ∙ ap (after_text plays.more) at_new.effect in
    let owes = owes_whole held held' s.text new.text plays.more task.closing (effect_ahead true s b) (ap (λ (e : RunEffect). e.text) effect ∙ append-nil plays.more) (ap (λ (e : RunEffect). e.closing) effect) plays.owes in (
      record {
        why = (ap (λ (e : RunEffect). e.bad) effect, ap (λ (e : RunEffect). e.past) effect, omega (arith, last.2));
        after = sym (ap s.ahead.after last.0 ∙ plays.after [] ∙ at_new.same);
        owes = owes;
        read = of_all b held held' left' s (new.text ++ task.closing) read.none_left (whole_part held held' _ _ owes);
      },
      read.none_left,
    )
read_last (Some b) held held' left' s new was task (c ∷ rest) held1 (Ok (Some (BadLine n))) ends ends' read plays =
    let last = script_last s.room (s.held ++ b) (c ∷ rest) read.cut (λ e. absurd (cc)) in
    last_halts (IsOutside n) (BadLine n) b held held' left' s (length (c ∷ rest)) (c ∷ rest) held1 task new.text (λ e over why. (why.0, why.1)) last.0 read.none_left plays
read_last (Some b) held held' left' s new was task (c ∷ rest) held1 (Ok (Some (Limit count))) ends ends' read plays =
    let last = script_last s.room (s.held ++ b) (c ∷ rest) read.cut (λ e. absurd (cc)) in
    last_halts (IsAtLimit count) (Limit count) b held held' left' s (length (c ∷ rest)) (c ∷ rest) held1 task new.text (λ e over why. (inl why.0, why.1)) last.0 read.none_left plays
read_last (Some b) held held' left' s new was task (c ∷ rest) held1 (Ok (Some NoMemory)) ends ends' read plays =
    let last = script_last s.room (s.held ++ b) (c ∷ rest) read.cut (λ e. absurd (cc)) in
    of_all b held held' left' s new.text read.none_left (breaks_at true held held' s (length (c ∷ rest)) b (c ∷ rest) held1 [] new.text last.0 plays)
read_last (Some b) held held' left' s new was task (c ∷ rest) held1 (Ok (Some ReadFault)) ends ends' read plays = absurd plays
read_last (Some b) held held' left' s new was task (c ∷ rest) held1 (Ok (Some WriteFault)) ends ends' read plays = absurd plays
read_last (Some b) held held' left' s new was task (c ∷ rest) held1 (Err e) ends ends' read plays =
    let last = script_last s.room (s.held ++ b) (c ∷ rest) read.cut (λ e. absurd (cc)) in
    of_all b held held' left' s [] read.none_left (breaks_at true held held' s (length (c ∷ rest)) b (c ∷ rest) held1 [] [] last.0 plays)

-- the first line of all that is left
first_of : {State : Type 0} (s : Stand State) (left line held : List ℕ) (left' : Option (List ℕ)) (cuts : CutsLine s.room s.held left line held left')
    → lines_ahead true s left ≡ line ∷ script_lines (s.room - (length line + 1)) (held ++ cuts.drawn.rest)
first_of s left line held left' cuts =
    let cuts_all : cut_line s.room (s.held ++ left) ≡ Line line (held ++ cuts.drawn.rest) = ap (λ bs. cut_line s.room (s.held ++ bs)) (sym cuts.drawn.whole) ∙ cut_on s.room s.held cuts.drawn.front cuts.drawn.rest line held cuts.cut in
    script_line s.room (s.held ++ left) line (held ++ cuts.drawn.rest) cuts_all

-- a line that ended in a newline, and the run
line_halts : {State : Type 0} (why : RunEffect → Type 0) (end : RunEnd) (b : List ℕ) (held held' left' : Option (List ℕ)) (s : Stand State) (line held1 : List ℕ) (task : TaskValue State) (text' : List ℕ)
    → ((e : RunEffect) (over : ℕ) → why e → EndsBy end e over) → CutsLine s.room s.held b line held1 left' → Halts why held (at_line (length line + 1) line (holding held1 s)) held' task text'
    → LinesEnd b held s end left' held' task.state (text' ++ task.closing)
line_halts why end b held held' left' s line held1 task text' so read halts =
    let here = halts_at why true held held' s (length line + 1) b line held1 _ task text' (first_of s b line held1 left' read) halts in
    let front = halts_at why false held held' s (length line + 1) read.drawn.front line held1 _ task text' (ended_line s.room (s.held ++ read.drawn.front) line held1 read.cut) halts in record {
      why = so (effect_ahead true s b) (over_ahead s b) here.0;
      after = here.1;
      owes = here.2;
      read = of_front b held held' left' s (text' ++ task.closing) read.drawn (whole_part held held' _ _ front.2);
    }

line_breaks : {State : Type 0} (b : List ℕ) (held held' left' : Option (List ℕ)) (s : Stand State) (line held1 owed : List ℕ) → CutsLine s.room s.held b line held1 left' → Breaks held (at_line (length line + 1) line (holding held1 s)) held' owed
    → OwesRead b held s left' held' owed
line_breaks b held held' left' s line held1 owed read breaks =
    of_front b held held' left' s owed read.drawn (breaks_at false held held' s (length line + 1) read.drawn.front line held1 _ owed (ended_line s.room (s.held ++ read.drawn.front) line held1 read.cut) breaks)

pub read_ended : {State : Type 0} (left held left' held' : Option (List ℕ)) (s new : Stand State) (task : TaskValue State) (line held1 : List ℕ) (r : Result (Option RunEnd) Failed) → ReadsLine s.room s.held left (Ok Newline) line held1 left'
    → LinePlays held (at_line (length line + 1) line (holding held1 s)) r held' task new → PlaybackSteps left held s r left' held' task new
read_ended None held left' held' s new task line held1 r read plays = tt
read_ended (Some b) held left' held' s new task line held1 (Ok None) read plays = goes_past b held held' left' s new line held1 read.drawn read.cut plays
read_ended (Some b) held left' held' s new task line held1 (Ok (Some (BadLine n))) read plays =
    line_halts (IsOutside n) (BadLine n) b held held' left' s line held1 task new.text (λ e over why. (why.0, why.1)) read plays
read_ended (Some b) held left' held' s new task line held1 (Ok (Some (Limit count))) read plays =
    line_halts (IsAtLimit count) (Limit count) b held held' left' s line held1 task new.text (λ e over why. (inl why.0, why.1)) read plays
read_ended (Some b) held left' held' s new task line held1 (Ok (Some NoMemory)) read plays = line_breaks b held held' left' s line held1 new.text read plays
read_ended (Some b) held left' held' s new task line held1 (Ok (Some Done)) read plays = absurd plays
read_ended (Some b) held left' held' s new task line held1 (Ok (Some ReadFault)) read plays = absurd plays
read_ended (Some b) held left' held' s new task line held1 (Ok (Some WriteFault)) read plays = absurd plays
read_ended (Some b) held left' held' s new task line held1 (Err e) read plays = line_breaks b held held' left' s line held1 [] read plays

-- ---- text that is written before the source is asked

pub flushes : {State : Type 0} (left held held' : Option (List ℕ)) (task : TaskValue State) (s : RunState) (r : Result (Unit {0}) Failed) (x : Unit {0}) → r ≡ Ok x → WritesText held s.text r held'
    → PlaybackSteps left held (stand task s) (Ok None) left held' task (stand task (with_text [] s))
flushes None held held' task s r x is wrote = tt
flushes (Some b) held held' task s r x is wrote = record {
  front = [];
  gave = record { rest = b; told = refl; joined = refl };
  more = [];
  same = λ all rest. refl;
  after = λ all rest. refl;
  over = λ rest. refl;
  owes = wrote_owes held held' s.text [] x (subst (λ q. WritesText held s.text q held') is wrote);
}

pub flush_fails : {State : Type 0} (left held held' : Option (List ℕ)) (task : TaskValue State) (s new : Stand State) (r : Result (Unit {0}) Failed) (q : Result (Option RunEnd) Failed) (e f : Failed) → r ≡ Err e → q ≡ Err f → WritesText held s.text r held'
    → PlaybackSteps left held s q left held' task new
flush_fails None held held' task s new r q e f is so wrote = tt
flush_fails (Some b) held held' task s new r (Ok end) e f is so wrote = absurd (cc)
flush_fails (Some b) held held' task s new r (Err g) e f is so wrote = record {
  front = [];
  gave = record { rest = b; told = refl; joined = refl };
  owes = inl (broke_off held held' s.text (whole_text (effect_ahead false s [])) e (subst (λ z. WritesText held s.text z held') is wrote));
}
