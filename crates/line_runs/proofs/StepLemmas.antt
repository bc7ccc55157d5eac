-- How a line goes on from step to step.
use Rattle.std.proofs.Common.{◌≡◌, ℕ, ◌+◌, ◌-◌, ◌<◌, List, [], ◌∷◌, ◌++◌, length, arith, Option, Some, None, Result, Ok, Err, refl, sym, ap, subst, ◌∙◌}
use Rattle.std.proofs.lemmas.List.{append_assoc}
use Rattle.ff_xdr.specs.declared.error.NoMemory.{NoMemory as WantsMemory}
use Rattle.rpc_record.specs.declared.stream.Failed.{Failed}
use Rattle.line_runs.specs.declared.end.RunEnd.{RunEnd}
use Rattle.line_runs.specs.declared.end.RunEnd.TheVariants.{Done, BadLine, ReadFault, WriteFault, NoMemory, Limit}
use Rattle.line_runs.specs.declared.end.LineStep.{LineStep}
use Rattle.line_runs.specs.declared.end.LineStep.TheVariants as step
use Rattle.line_runs.specs.Runs.{RunEffect, after_text}
use Rattle.line_runs.specs.Tasks.{TaskValue, ahead_of, on_line, Goes, EndsRun, HasPrintedPart, IsOutside, IsAtLimit, StepsFrom, BeginsLine}
use Rattle.line_runs.specs.Playback.{RunState, with_text, Stand, stand, at_line, Owes, OwesPart, Relieves, AdvancesLine, Halts, Breaks, LineSteps, LinePlays, LastPlays}
use Rattle.line_runs.proofs.OweLemmas.{owes_same, owes_as, owes_more, owes_again, whole_part, part_again}

-- text behind text
pub text_again : (a b : List ℕ) (e : RunEffect) → after_text a (after_text b e) ≡ after_text (a ++ b) e
text_again a b e = ap (λ t. record { text = t; bad = e.bad; past = e.past; count = e.count; closing = e.closing }) (sym (append_assoc a b e.text))

-- ---- the first step

goes_first : {State : Type 0} (held : Option (List ℕ)) (old new : Stand State) → Goes old.ahead old.text new.ahead new.text → new.held ≡ old.held → new.room ≡ old.room → AdvancesLine held old held new
goes_first held old new goes same_held same_room = record {
  more = goes.more;
  same = goes.same;
  after = goes.after;
  owes = owes_as held held _ _ _ _ goes.now refl (owes_same held new.text);
  same_held = same_held;
  same_room = same_room;
}

ends_first : {State : Type 0} (why : RunEffect → Type 0) (held : Option (List ℕ)) (old : Stand State) (task : TaskValue State) (text' : List ℕ) → EndsRun why old.ahead old.text task text' → Halts why held old held task text'
ends_first why held old task text' ends = record {
  more = ends.more;
  why = ends.why;
  adds = ends.adds;
  closing = ends.closing;
  after = ends.after;
  owes = owes_as held held _ _ _ _ ends.now refl (owes_same held text');
}

breaks_first : {State : Type 0} (held : Option (List ℕ)) (old : Stand State) (text' : List ℕ) → HasPrintedPart old.ahead old.text text' → Breaks held old held text'
breaks_first held old text' printed = record {
  part = printed.part;
  begins = printed.begins;
  owes = whole_part held held _ _ (owes_as held held _ _ _ _ printed.now refl (owes_same held text'));
}

pub begins : {State : Type 0} (number taken : ℕ) (line : List ℕ) (held : Option (List ℕ)) (s : Stand State) (text' : List ℕ) (r : Result LineStep WantsMemory) (task : TaskValue State)
    → BeginsLine number (on_line line s.ahead) s.text r task text'
    → LineSteps number held (at_line taken line s) r held task (record { ahead = ahead_of (number + 1) task; text = text'; held = s.held; room = s.room - taken })
begins number taken line held s text' (Ok step.Done) task did = goes_first held (at_line taken line s) _ did refl refl
begins number taken line held s text' (Ok step.More) task did = goes_first held (at_line taken line s) _ did refl refl
begins number taken line held s text' (Ok step.Outside) task did = ends_first (IsOutside number) held (at_line taken line s) task text' did
begins number taken line held s text' (Ok (step.Limited count)) task did = ends_first (IsAtLimit count) held (at_line taken line s) task text' did
begins number taken line held s text' (Err e) task did = breaks_first held (at_line taken line s) text' did

-- ---- one step after another

goes_again : {State : Type 0} (held mid_held : Option (List ℕ)) (old mid new : Stand State) → AdvancesLine held old mid_held mid → Goes mid.ahead mid.text new.ahead new.text → new.held ≡ mid.held → new.room ≡ mid.room → AdvancesLine held old mid_held new
goes_again held mid_held old mid new went goes same_held same_room = record {
  more = went.more ++ goes.more;
  same = λ lines. went.same lines ∙ ap (after_text went.more) (goes.same lines) ∙ text_again went.more goes.more (new.ahead.meaning lines);
  after = λ lines. went.after lines ∙ goes.after lines;
  owes = owes_as held mid_held _ _ _ _ (append_assoc old.text went.more goes.more) (sym goes.now) (owes_more held mid_held _ _ goes.more went.owes);
  same_held = same_held ∙ went.same_held;
  same_room = same_room ∙ went.same_room;
}

ends_again : {State : Type 0} (count : ℕ) (held mid_held : Option (List ℕ)) (old mid : Stand State) (task : TaskValue State) (text' : List ℕ) → AdvancesLine held old mid_held mid → EndsRun (IsAtLimit count) mid.ahead mid.text task text'
    → Halts (IsAtLimit count) held old mid_held task text'
ends_again count held mid_held old mid task text' went ends = record {
  more = went.more ++ ends.more;
  why = λ lines. subst (λ e. IsAtLimit count e) (sym (went.same lines)) (ends.why lines);
  adds = λ lines. ap (λ (e : RunEffect). e.text) (went.same lines) ∙ ap (λ t. went.more ++ t) (ends.adds lines);
  closing = λ lines. ap (λ (e : RunEffect). e.closing) (went.same lines) ∙ ends.closing lines;
  after = λ lines. went.after lines ∙ ends.after lines;
  owes = owes_as held mid_held _ _ _ _ (append_assoc old.text went.more ends.more) (sym ends.now) (owes_more held mid_held _ _ ends.more went.owes);
}

breaks_again : {State : Type 0} (held mid_held : Option (List ℕ)) (old mid : Stand State) (text' : List ℕ) → AdvancesLine held old mid_held mid → HasPrintedPart mid.ahead mid.text text' → Breaks held old mid_held text'
breaks_again held mid_held old mid text' went printed = record {
  part = went.more ++ printed.part;
  begins = λ lines.
      let rest = printed.begins lines in record {
        rest = rest.rest;
        whole = append_assoc went.more printed.part rest.rest ∙ ap (λ t. went.more ++ t) rest.whole ∙ sym (ap (λ (e : RunEffect). e.text) (went.same lines));
      };
  owes = whole_part held mid_held _ _ (owes_as held mid_held _ _ _ _ (append_assoc old.text went.more printed.part) (sym printed.now) (owes_more held mid_held _ _ printed.part went.owes));
}

pub steps_again : {State : Type 0} (number next : ℕ) (held mid_held : Option (List ℕ)) (old mid : Stand State) (text' : List ℕ) (r : Result LineStep WantsMemory) (task : TaskValue State)
    → AdvancesLine held old mid_held mid → StepsFrom next mid.ahead mid.text r task text'
    → LineSteps number held old r mid_held task (record { ahead = ahead_of next task; text = text'; held = mid.held; room = mid.room })
steps_again number next held mid_held old mid text' (Ok step.Done) task went did = goes_again held mid_held old mid _ went did refl refl
steps_again number next held mid_held old mid text' (Ok step.More) task went did = goes_again held mid_held old mid _ went did refl refl
steps_again number next held mid_held old mid text' (Ok step.Outside) task went did = absurd did
steps_again number next held mid_held old mid text' (Ok (step.Limited count)) task went did = ends_again count held mid_held old mid task text' went did
steps_again number next held mid_held old mid text' (Err e) task went did = breaks_again held mid_held old mid text' went did

-- ---- text that is written within a line

-- some of the text was written, and nothing else changed
pub written_within : {State : Type 0} (held mid_held held' : Option (List ℕ)) (old : Stand State) (task : TaskValue State) (mid new : RunState) (r : Result (Unit {0}) Failed) (x : Unit {0}) → r ≡ Ok x
    → AdvancesLine held old mid_held (stand task mid) → Relieves mid_held mid r held' new → AdvancesLine held old held' (stand task new)
written_within held mid_held held' old task mid new r x is went relieves =
    let wrote : (new ≡ with_text new.text mid) × Owes mid_held mid.text held' new.text = subst (λ q. Relieves mid_held mid q held' new) is relieves in
    subst (λ (n : RunState). AdvancesLine held old held' (stand task n)) (sym wrote.0) (record {
      more = went.more;
      same = went.same;
      after = went.after;
      owes = owes_again held mid_held held' _ _ _ went.owes wrote.1;
      same_held = went.same_held;
      same_room = went.same_room;
    })

-- it could not be written
pub unwritten_within : {State : Type 0} (held mid_held held' : Option (List ℕ)) (old : Stand State) (task task' : TaskValue State) (mid new : RunState) (after : Stand State) (r : Result (Unit {0}) Failed) (q : Result (Option RunEnd) Failed) (e f : Failed) → r ≡ Err e → q ≡ Err f
    → AdvancesLine held old mid_held (stand task mid) → Relieves mid_held mid r held' new → LinePlays held old q held' task' after
unwritten_within held mid_held held' old task task' mid new after r (Ok end) e f is so went relieves = absurd (cc)
unwritten_within held mid_held held' old task task' mid new after r (Err g) e f is so went relieves =
    let owes : OwesPart mid_held mid.text held' [] = subst (λ q. Relieves mid_held mid q held' new) is relieves in record {
      part = went.more;
      begins = λ lines. record { rest = ((stand task mid).ahead.meaning lines).text; whole = sym (ap (λ (e : RunEffect). e.text) (went.same lines)) };
      owes = part_again held mid_held held' _ _ [] went.owes owes;
    }

-- ---- the last line

-- a line that was played to its end, as the last
pub last_played : {State : Type 0} (held held' : Option (List ℕ)) (line : List ℕ) (was : TaskValue State) (old : Stand State) (task : TaskValue State) (new : Stand State) → 0 < length line
    → LinePlays held (at_line (length line) line old) (Ok None) held' task new → LastPlays held line was old (Ok (Some Done)) held' task new
last_played held held' [] was old task new some plays = absurd (omega (arith, some))
last_played held held' (c ∷ rest) was old task new some plays = plays

pub last_ended : {State : Type 0} (held held' : Option (List ℕ)) (line : List ℕ) (was : TaskValue State) (old : Stand State) (task : TaskValue State) (new : Stand State) (end : RunEnd) → 0 < length line
    → LinePlays held (at_line (length line) line old) (Ok (Some end)) held' task new → LastPlays held line was old (Ok (Some end)) held' task new
last_ended held held' [] was old task new end some plays = absurd (omega (arith, some))
last_ended held held' (c ∷ rest) was old task new Done some plays = absurd plays
last_ended held held' (c ∷ rest) was old task new (BadLine n) some plays = plays
last_ended held held' (c ∷ rest) was old task new (Limit count) some plays = plays
last_ended held held' (c ∷ rest) was old task new NoMemory some plays = plays
last_ended held held' (c ∷ rest) was old task new ReadFault some plays = absurd plays
last_ended held held' (c ∷ rest) was old task new WriteFault some plays = absurd plays

pub last_broken : {State : Type 0} (held held' : Option (List ℕ)) (line : List ℕ) (was : TaskValue State) (old : Stand State) (task : TaskValue State) (new : Stand State) (r q : Result (Option RunEnd) Failed) (e f : Failed) → 0 < length line → r ≡ Err e → q ≡ Err f
    → LinePlays held (at_line (length line) line old) r held' task new → LastPlays held line was old q held' task new
last_broken held held' [] was old task new r q e f some is so plays = absurd (omega (arith, some))
last_broken held held' (c ∷ rest) was old task new r (Ok end) e f some is so plays = absurd (cc)
last_broken held held' (c ∷ rest) was old task new (Ok end) (Err g) e f some is so plays = absurd (cc)
last_broken held held' (c ∷ rest) was old task new (Err h) (Err g) e f some is so plays = plays
