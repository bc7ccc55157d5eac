-- How a run over lines ends.
use Rattle.std.proofs.Common.{inl, inr, ◌≡◌, ℕ, ◌<◌, length, true, false, List, [], ◌++◌, Option, Some, None, Result, Ok, Err, IfOk, IfSome, refl, sym, ap, subst, ◌∙◌, arith, ⊎_elim}
use Rattle.std.proofs.lemmas.List.{append-nil, append_assoc}
use Rattle.rpc_record.specs.declared.stream.Failed.{Failed}
use Rattle.line_runs.specs.declared.end.RunEnd.{RunEnd}
use Rattle.line_runs.specs.declared.end.RunEnd.TheVariants.{Done, BadLine, ReadFault, WriteFault, NoMemory, Limit}
use Rattle.line_runs.specs.Writing.{IsBeginningOf, WritesText}
use Rattle.line_runs.specs.Runs.{RunEffect, after_text, whole_text, ended_effect, IsPastLimit, Ends, HasRead, TookAll, TookPart, TookOfRead, SinkGot, Leaves, Runs, HasBecome, read_faults, write_faults}
use Rattle.line_runs.specs.Tasks.{TaskValue}
use Rattle.line_runs.specs.Playback.{Stand, stand, start, effect_ahead, state_ahead, over_ahead, Owes, OwesPart, GoesOn, OwesRead, Passes, EndsBy, LinesEnd, Stops, closed_text, is_of_lines, PlaybackSteps, Finishes, PlaysAll, ClosesRun, EndFaults, StepFaults, LinesFaults, HasWrittenAll, IsOfLine}
use Rattle.line_runs.proofs.OweLemmas.{owes_same, owes_as, whole_part, wrote_all, wrote_some, some_is, owes_on, part_on, part_more, part_less, begins_whole}
use Rattle.line_runs.proofs.StepLemmas.{text_again}
use Rattle.line_runs.proofs.RunLemmas.{Went}

-- ---- one step after another

-- what the source gave at first and then
gave_again : (a b one two : List ℕ) (left1 left2 : Option (List ℕ)) → left1 ≡ Some b → HasRead a one left1 → HasRead b two left2 → HasRead a (one ++ two) left2
gave_again a b one two left1 left2 is first then =
    let same : b ≡ first.rest = some_is (sym is ∙ first.told) in record {
      rest = then.rest;
      told = then.told;
      joined = append_assoc one two then.rest ∙ ap (λ bs. one ++ bs) (then.joined ∙ same) ∙ first.joined;
    }

-- all that was left then is all that was left at first
all_of : (a b one : List ℕ) (left1 : Option (List ℕ)) → left1 ≡ Some b → HasRead a one left1 → one ++ b ≡ a
all_of a b one left1 is first = let same : b ≡ first.rest = some_is (sym is ∙ first.told) in ap (λ bs. one ++ bs) same ∙ first.joined

pub goes : {State : Type 0} (left held : Option (List ℕ)) (s : Stand State) (left1 held1 : Option (List ℕ)) (s1 : Stand State) (left2 held2 : Option (List ℕ)) (task : TaskValue State) (s2 : Stand State) (r : Result (Option RunEnd) Failed)
    → r ≡ Ok None → Went left held s left1 held1 s1 → PlaybackSteps left1 held1 s1 r left2 held2 task s2 → Went left held s left2 held2 s2
goes None held s left1 held1 s1 left2 held2 task s2 r is went steps = tt
goes (Some a) held s None held1 s1 left2 held2 task s2 r is went steps = let no : Some went.gave.rest ≡ None = sym went.gave.told in absurd (cc)
goes (Some a) held s (Some b) held1 s1 left2 held2 task s2 r is went steps =
    let on : GoesOn b held1 s1 left2 held2 s2 = subst (λ x. PlaybackSteps (Some b) held1 s1 x left2 held2 task s2) is steps in
    let one = went.front in
    let two = on.front in record {
      front = one ++ two;
      gave = gave_again a b one two (Some b) left2 refl went.gave on.gave;
      more = went.more ++ on.more;
      same = λ all rest. ap (λ bs. effect_ahead all s bs) (append_assoc one two rest) ∙ went.same all (two ++ rest) ∙ ap (after_text went.more) (on.same all rest) ∙ text_again went.more on.more (effect_ahead all s2 rest);
      after = λ all rest. ap (λ bs. state_ahead all s bs) (append_assoc one two rest) ∙ went.after all (two ++ rest) ∙ on.after all rest;
      over = λ rest. ap (λ bs. over_ahead s bs) (append_assoc one two rest) ∙ went.over (two ++ rest) ∙ on.over rest;
      owes = owes_on held held1 held2 s.text went.more s1.text on.more _ s2.text went.owes refl on.owes;
    }

-- the whole text behind what was added
whole_on : (more : List ℕ) (e e' : RunEffect) → e ≡ after_text more e' → more ++ whole_text e' ≡ whole_text e
whole_on more e e' is = sym (append_assoc more e'.text e'.closing) ∙ sym (ap whole_text is)

-- a run broken off, from its start
owes_after : {State : Type 0} (a b : List ℕ) (held held1 left2 held2 : Option (List ℕ)) (s s1 : Stand State) (owed : List ℕ) → GoesOn a held s (Some b) held1 s1 → OwesRead b held1 s1 left2 held2 owed → OwesRead a held s left2 held2 owed
owes_after a b held held1 left2 held2 s s1 owed went owes =
    let one = went.front in
    let all_is = all_of a b one (Some b) refl went.gave in record {
      front = one ++ owes.front;
      gave = gave_again a b one owes.front (Some b) left2 refl went.gave owes.gave;
      owes = ⊎_elim
          (λ part. inl (part_on held held1 held2 s.text went.more s1.text _ _ owed went.owes (whole_on went.more _ _ (went.same false owes.front)) part))
          (λ part. inr (ap (λ bs. one ++ bs) part.0 ∙ all_is, part_on held held1 held2 s.text went.more s1.text _ _ owed went.owes (whole_on went.more _ _ (ap (λ bs. effect_ahead true s bs) (sym all_is) ∙ went.same true b)) part.1))
          owes.owes;
    }

-- why lines end a run says nothing of their text
ends_on : (end : RunEnd) (more : List ℕ) (e e' : RunEffect) (over over' : ℕ) → e ≡ after_text more e' → over ≡ over' → EndsBy end e' over' → EndsBy end e over
ends_on Done more e e' over over' is same why = subst (λ x. EndsBy Done x over) (sym is) (subst (λ n. EndsBy Done e' n) (sym same) why)
ends_on (BadLine n) more e e' over over' is same why = subst (λ x. EndsBy (BadLine n) x over) (sym is) why
ends_on (Limit count) more e e' over over' is same why = subst (λ x. EndsBy (Limit count) x over) (sym is) (subst (λ n. EndsBy (Limit count) e' n) (sym same) why)
ends_on ReadFault more e e' over over' is same why = absurd why
ends_on WriteFault more e e' over over' is same why = absurd why
ends_on NoMemory more e e' over over' is same why = absurd why

lines_end_after : {State : Type 0} (a b : List ℕ) (held held1 left2 held2 : Option (List ℕ)) (s s1 : Stand State) (state : State) (owed : List ℕ) (end : RunEnd) → GoesOn a held s (Some b) held1 s1 → LinesEnd b held1 s1 end left2 held2 state owed → LinesEnd a held s end left2 held2 state owed
lines_end_after a b held held1 left2 held2 s s1 state owed end went ends =
    let all_is = all_of a b went.front (Some b) refl went.gave in
    let effect : effect_ahead true s a ≡ after_text went.more (effect_ahead true s1 b) = ap (λ bs. effect_ahead true s bs) (sym all_is) ∙ went.same true b in
    let over : over_ahead s a ≡ over_ahead s1 b = ap (λ bs. over_ahead s bs) (sym all_is) ∙ went.over b in
    let after : state_ahead true s a ≡ state_ahead true s1 b = ap (λ bs. state_ahead true s bs) (sym all_is) ∙ went.after true b in record {
      why = ends_on end went.more _ _ _ _ effect over ends.why;
      after = ends.after ∙ sym after;
      owes = owes_on held held1 held2 s.text went.more s1.text _ _ owed went.owes (whole_on went.more _ _ effect) ends.owes;
      read = owes_after a b held held1 left2 held2 s s1 owed went ends.read;
    }

stops_after : {State : Type 0} (a b : List ℕ) (held held1 left2 held2 : Option (List ℕ)) (s s1 : Stand State) (state : State) (owed : List ℕ) (end : RunEnd) → GoesOn a held s (Some b) held1 s1 → Stops b held1 s1 end left2 held2 state owed → Stops a held s end left2 held2 state owed
stops_after a b held held1 left2 held2 s s1 state owed Done went stops = (lines_end_after a b held held1 left2 held2 s s1 state owed Done went stops.0, stops.1)
stops_after a b held held1 left2 held2 s s1 state owed (BadLine n) went stops = lines_end_after a b held held1 left2 held2 s s1 state owed (BadLine n) went stops
stops_after a b held held1 left2 held2 s s1 state owed (Limit count) went stops = lines_end_after a b held held1 left2 held2 s s1 state owed (Limit count) went stops
stops_after a b held held1 left2 held2 s s1 state owed ReadFault went stops =
    let effect = went.same false stops.front in record {
      front = went.front ++ stops.front;
      gave = gave_again a b went.front stops.front (Some b) left2 refl went.gave stops.gave;
      good = ap (λ (e : RunEffect). e.bad) effect ∙ stops.good;
      within = ap (λ (e : RunEffect). e.past) effect ∙ stops.within;
      short = went.over stops.front ∙ stops.short;
      owes = owes_on held held1 held2 s.text went.more s1.text _ _ owed went.owes (sym (ap (λ (e : RunEffect). e.text) effect)) stops.owes;
    }
stops_after a b held held1 left2 held2 s s1 state owed WriteFault went stops = absurd stops
stops_after a b held held1 left2 held2 s s1 state owed NoMemory went stops = owes_after a b held held1 left2 held2 s s1 owed went stops

pub finishes : {State : Type 0} (left held : Option (List ℕ)) (s : Stand State) (left1 held1 : Option (List ℕ)) (s1 : Stand State) (left2 held2 : Option (List ℕ)) (task : TaskValue State) (s2 : Stand State) (r : Result (Option RunEnd) Failed) (end : RunEnd)
    → r ≡ Ok (Some end) → Went left held s left1 held1 s1 → PlaybackSteps left1 held1 s1 r left2 held2 task s2 → PlaysAll left held s (Ok end) left2 held2 task s2.text
finishes None held s left1 held1 s1 left2 held2 task s2 r end is went steps = tt
finishes (Some a) held s None held1 s1 left2 held2 task s2 r end is went steps = let no : Some went.gave.rest ≡ None = sym went.gave.told in absurd (cc)
finishes (Some a) held s (Some b) held1 s1 left2 held2 task s2 r end is went steps =
    stops_after a b held held1 left2 held2 s s1 task.state (closed_text end task.closing s2.text) end went (subst (λ x. PlaybackSteps (Some b) held1 s1 x left2 held2 task s2) is steps)

pub finishes_err : {State : Type 0} (left held : Option (List ℕ)) (s : Stand State) (left1 held1 : Option (List ℕ)) (s1 : Stand State) (left2 held2 : Option (List ℕ)) (task : TaskValue State) (s2 : Stand State) (r : Result (Option RunEnd) Failed) (e : Failed) (q : Result RunEnd Failed) (f : Failed) (owed : List ℕ)
    → r ≡ Err e → q ≡ Err f → Went left held s left1 held1 s1 → PlaybackSteps left1 held1 s1 r left2 held2 task s2 → PlaysAll left held s q left2 held2 task owed
finishes_err None held s left1 held1 s1 left2 held2 task s2 r e (Ok end) f owed is so went steps = tt
finishes_err None held s left1 held1 s1 left2 held2 task s2 r e (Err g) f owed is so went steps = tt
finishes_err (Some a) held s left1 held1 s1 left2 held2 task s2 r e (Ok end) f owed is so went steps = absurd (cc)
finishes_err (Some a) held s None held1 s1 left2 held2 task s2 r e (Err g) f owed is so went steps = let no : Some went.gave.rest ≡ None = sym went.gave.told in absurd (cc)
finishes_err (Some a) held s (Some b) held1 s1 left2 held2 task s2 r e (Err g) f owed is so went steps =
    owes_after a b held held1 left2 held2 s s1 [] went (subst (λ x. PlaybackSteps (Some b) held1 s1 x left2 held2 task s2) is steps)

-- the run has gone on for no step
pub went_nowhere : {State : Type 0} (left held : Option (List ℕ)) (s : Stand State) → Went left held s left held s
went_nowhere None held s = tt
went_nowhere (Some a) held s = record {
  front = [];
  gave = record { rest = a; told = refl; joined = refl };
  more = [];
  same = λ all rest. refl;
  after = λ all rest. refl;
  over = λ rest. refl;
  owes = owes_as held held _ _ _ _ (sym (append-nil s.text)) refl (owes_same held s.text);
}

-- ---- the closing text

-- a beginning of the closing text
closed_in_part : {State : Type 0} (a : List ℕ) (held left' held' : Option (List ℕ)) (s : Stand State) (text closing part : List ℕ) → IsBeginningOf part closing → OwesRead a held s left' held' (text ++ closing) → OwesRead a held s left' held' (text ++ part)
closed_in_part a held left' held' s text closing part begins owes = record {
  front = owes.front;
  gave = owes.gave;
  owes = ⊎_elim (λ one. inl (part_less held held' _ part closing text begins one)) (λ one. inr (one.0, part_less held held' _ part closing text begins one.1)) owes.owes;
}

pub closed : {State : Type 0} (left held left' held' : Option (List ℕ)) (s : Stand State) (r : Result RunEnd Failed) (end end' : RunEnd) (task : TaskValue State) (state : State) (text text' : List ℕ) → r ≡ Ok end → PlaysAll left held s r left' held' task text
    → ClosesRun end task.closing text end' text' → state ≡ task.state → Finishes left held s (Ok end') left' held' state text'
closed None held left' held' s r end end' task state text text' is plays closes stays = tt
closed (Some a) held left' held' s r end end' task state text text' is plays closes stays =
    let stops : Stops a held s end left' held' task.state (closed_text end task.closing text) = subst (λ q. PlaysAll (Some a) held s q left' held' task text) is plays in
    ⊎_elim
    (λ all. subst (λ e. Stops a held s e left' held' state text') (sym all.0)
    (subst (λ t. Stops a held s end left' held' state t) (sym all.1) (subst (λ x. Stops a held s end left' held' x (closed_text end task.closing text)) (sym stays) stops)))
    (λ part. subst (λ e. Stops a held s e left' held' state text') (sym part.1)
    (subst (λ t. OwesRead a held s left' held' t) (sym part.2.2) (closed_in_part a held left' held' s text task.closing part.2.0 part.2.1 (of_lines end part.0 stops))))
    closes
  where
    of_lines : (e : RunEnd) → is_of_lines e ≡ true → Stops a held s e left' held' task.state (closed_text e task.closing text) → OwesRead a held s left' held' (text ++ task.closing)
    of_lines Done is_lines stops = stops.0.read
    of_lines (BadLine n) is_lines stops = stops.read
    of_lines (Limit count) is_lines stops = stops.read
    of_lines ReadFault is_lines stops = absurd (cc)
    of_lines WriteFault is_lines stops = absurd (cc)
    of_lines NoMemory is_lines stops = absurd (cc)

-- the counts of faults stay
pub closed_faults : (r : Result RunEnd Failed) (end end' : RunEnd) (closing text text' : List ℕ) (old new : ℕ) → r ≡ Ok end → ClosesRun end closing text end' text' → LinesFaults r old new → EndFaults end' old new
closed_faults r end end' closing text text' old new is closes counts =
    let here : EndFaults end old new = subst (λ q. LinesFaults q old new) is counts in
    ⊎_elim (λ all. subst (λ e. EndFaults e old new) (sym all.0) here) (λ part. subst (λ e. EndFaults e old new) (sym part.1) (of_lines end part.0 here)) closes
  where
    of_lines : (e : RunEnd) → is_of_lines e ≡ true → EndFaults e old new → new ≡ old
    of_lines Done is_lines same = same
    of_lines (BadLine n) is_lines same = same
    of_lines (Limit count) is_lines same = same
    of_lines ReadFault is_lines same = absurd (cc)
    of_lines WriteFault is_lines same = absurd (cc)
    of_lines NoMemory is_lines same = absurd (cc)

-- ---- the last writing

-- what was read and is owed is written, or a beginning of it
written : {State : Type 0} (a : List ℕ) (held left2 held2 held3 : Option (List ℕ)) (s : Stand State) (owed : List ℕ) (r : Result (Unit {0}) Failed) → OwesRead a held s left2 held2 owed → WritesText held2 owed r held3 → OwesRead a held s left2 held3 []
written a held left2 held2 held3 s owed r owes wrote = record {
  front = owes.front;
  gave = owes.gave;
  owes = ⊎_elim (λ part. inl (wrote_some held held2 held3 _ owed r part wrote)) (λ part. inr (part.0, wrote_some held held2 held3 _ owed r part.1 wrote)) owes.owes;
}

lines_written : {State : Type 0} (a : List ℕ) (held left2 held2 held3 : Option (List ℕ)) (s : Stand State) (end : RunEnd) (state : State) (owed : List ℕ) (x : Unit {0}) → LinesEnd a held s end left2 held2 state owed → WritesText held2 owed (Ok x) held3 → LinesEnd a held s end left2 held3 state []
lines_written a held left2 held2 held3 s end state owed x ends wrote = record {
  why = ends.why;
  after = ends.after;
  owes = wrote_all held held2 held3 _ _ x ends.owes wrote;
  read = written a held left2 held2 held3 s owed (Ok x) ends.read wrote;
}

pub finished : {State : Type 0} (left held left2 held2 held3 : Option (List ℕ)) (s : Stand State) (end : RunEnd) (state : State) (f : Result (Unit {0}) Failed) (x : Unit {0}) (owed : List ℕ) → f ≡ Ok x
    → Finishes left held s (Ok end) left2 held2 state owed → WritesText held2 owed f held3 → Finishes left held s (Ok end) left2 held3 state []
finished None held left2 held2 held3 s end state f x owed ok finishes wrote = tt
finished (Some a) held left2 held2 held3 s end state f x owed ok finishes wrote = stopped end finishes (subst (λ q. WritesText held2 owed q held3) ok wrote)
  where
    stopped : (e : RunEnd) → Stops a held s e left2 held2 state owed → WritesText held2 owed (Ok x) held3 → Stops a held s e left2 held3 state []
    stopped Done stops w = (lines_written a held left2 held2 held3 s Done state owed x stops.0 w, stops.1)
    stopped (BadLine n) stops w = lines_written a held left2 held2 held3 s (BadLine n) state owed x stops w
    stopped (Limit n) stops w = lines_written a held left2 held2 held3 s (Limit n) state owed x stops w
    stopped ReadFault stops w = record {
      front = stops.front;
      gave = stops.gave;
      good = stops.good;
      within = stops.within;
      short = stops.short;
      owes = wrote_all held held2 held3 _ _ x stops.owes w;
    }
    stopped WriteFault stops w = absurd stops
    stopped NoMemory stops w = written a held left2 held2 held3 s owed (Ok x) stops w

-- what is owed at each end is of what was read
stops_read : {State : Type 0} (a : List ℕ) (held left2 held2 : Option (List ℕ)) (s : Stand State) (state : State) (owed : List ℕ) (end : RunEnd) → Stops a held s end left2 held2 state owed → OwesRead a held s left2 held2 owed
stops_read a held left2 held2 s state owed Done stops = stops.0.read
stops_read a held left2 held2 s state owed (BadLine n) stops = stops.read
stops_read a held left2 held2 s state owed (Limit n) stops = stops.read
stops_read a held left2 held2 s state owed ReadFault stops = record {
  front = stops.front;
  gave = stops.gave;
  owes = inl (part_more held held2 s.text _ _ owed (begins_whole (effect_ahead false s stops.front)) (whole_part held held2 _ owed stops.owes));
}
stops_read a held left2 held2 s state owed WriteFault stops = absurd stops
stops_read a held left2 held2 s state owed NoMemory stops = stops

pub finished_err : {State : Type 0} (left held left2 held2 held3 : Option (List ℕ)) (s : Stand State) (end : RunEnd) (state : State) (f : Result (Unit {0}) Failed) (q : Result RunEnd Failed) (e : Failed) (owed : List ℕ) → q ≡ Err e
    → Finishes left held s (Ok end) left2 held2 state owed → WritesText held2 owed f held3 → Finishes left held s q left2 held3 state []
finished_err None held left2 held2 held3 s end state f q e owed so finishes wrote = tt
finished_err (Some a) held left2 held2 held3 s end state f (Ok y) e owed so finishes wrote = absurd (cc)
finished_err (Some a) held left2 held2 held3 s end state f (Err y) e owed so finishes wrote = written a held left2 held2 held3 s owed f (stops_read a held left2 held2 s state owed end finishes) wrote

-- all steps failed, and nothing was closed
pub unfinished : {State : Type 0} (left held left2 held2 : Option (List ℕ)) (s : Stand State) (task : TaskValue State) (state : State) (r q : Result RunEnd Failed) (e f : Failed) (text owed : List ℕ) → r ≡ Err e → q ≡ Err f
    → PlaysAll left held s r left2 held2 task text → Finishes left held s q left2 held2 state owed
unfinished None held left2 held2 s task state r q e f text owed is so plays = tt
unfinished (Some a) held left2 held2 s task state (Ok x) q e f text owed is so plays = absurd (cc)
unfinished (Some a) held left2 held2 s task state (Err x) (Ok y) e f text owed is so plays = absurd (cc)
unfinished (Some a) held left2 held2 s task state (Err x) (Err y) e f text owed is so plays = plays

-- all text is written where the source failed, closed or not
pub closed_written : (end end' : RunEnd) (closing text text' : List ℕ) → HasWrittenAll end text → ClosesRun end closing text end' text' → HasWrittenAll end' text'
closed_written end end' closing text text' has closes =
    ⊎_elim (λ all. subst (λ e. HasWrittenAll e text') (sym all.0) (subst (λ t. HasWrittenAll end t) (sym all.1) (still end has))) (λ part. subst (λ e. HasWrittenAll e text') (sym part.1) tt) closes
  where
    still : (e : RunEnd) → HasWrittenAll e text → HasWrittenAll e (closed_text e closing text)
    still Done h = tt
    still (BadLine n) h = tt
    still (Limit n) h = tt
    still ReadFault h = h
    still WriteFault h = tt
    still NoMemory h = tt

-- so where the last writing failed, the source had not
pub faults_err : (end : RunEnd) (q : Result RunEnd Failed) (e : Failed) (text : List ℕ) (old new : ℕ) → q ≡ Err e → HasWrittenAll end text → 0 < length text → EndFaults end old new → LinesFaults q old new
faults_err end (Ok y) e text old new so has some counts = absurd (cc)
faults_err end (Err y) e text old new so has some counts = same end has counts
  where
    same : (x : RunEnd) → HasWrittenAll x text → EndFaults x old new → new ≡ old
    same Done h c = c
    same (BadLine n) h c = c
    same (Limit n) h c = c
    same ReadFault h c = absurd (omega (arith, subst (λ (t : List ℕ). 0 < length t) h some))
    same WriteFault h c = absurd c
    same NoMemory h c = c

-- what a line did is not the source's
pub of_line_written : (r : Result (Option RunEnd) Failed) (text : List ℕ) → IfOk r (λ end. IfSome end (λ e. IsOfLine e)) → IfOk r (λ end. IfSome end (λ e. HasWrittenAll e text))
of_line_written (Err e) text h = tt
of_line_written (Ok None) text h = tt
of_line_written (Ok (Some end)) text h = of end h
  where
    of : (x : RunEnd) → IsOfLine x → HasWrittenAll x text
    of Done h = tt
    of (BadLine n) h = tt
    of (Limit n) h = tt
    of ReadFault h = absurd h
    of WriteFault h = tt
    of NoMemory h = tt

-- after all steps, from the last of them
pub written_after : (end : RunEnd) (r : Result (Option RunEnd) Failed) (text : List ℕ) → r ≡ Ok (Some end) → IfOk r (λ x. IfSome x (λ e. HasWrittenAll e text)) → HasWrittenAll end text
written_after end r text is has = subst (λ (q : Result (Option RunEnd) Failed). IfOk q (λ x. IfSome x (λ e. HasWrittenAll e text))) is has

-- ---- a run from the start

-- a sink that owes nothing has taken all, or a beginning
took_all : (h t : List ℕ) (new : Option (List ℕ)) → Owes (Some h) t new [] → TookAll h t new
took_all h t new owes = owes.1 ∙ ap (λ x. Some (h ++ x)) (sym (append-nil owes.0) ∙ owes.2)

took_part : (h t : List ℕ) (new : Option (List ℕ)) → OwesPart (Some h) t new [] → TookPart h t new
took_part h t new owes = let one = owes.1 in (one.0, record { rest = owes.0; whole = one.2 }, one.1)

module _ {State : Type 0} (task : TaskValue State) (budget : ℕ) where
  took_read : (b h : List ℕ) (left' held' : Option (List ℕ)) → OwesRead b (Some h) (stand task (start budget)) left' held' [] → TookOfRead budget (task.meaning 1) b h left' held'
  took_read b h left' held' owes = record {
    read = owes.front;
    gave = owes.gave;
    text = ⊎_elim (λ part. inl (took_part h _ held' part)) (λ part. inr (part.0, took_part h _ held' part.1)) owes.owes;
  }

  passes_start : (b : List ℕ) → Passes (effect_ahead true (stand task (start budget)) b) (over_ahead (stand task (start budget)) b) → IsPastLimit budget (task.meaning 1) b
  passes_start b passes = ⊎_elim (λ past. inl past) (λ over. inr (over.0, over.1, omega (arith, over.2))) passes

  ends_so : (b : List ℕ) (held left' held' : Option (List ℕ)) (state : State) (end : RunEnd) → Stops b held (stand task (start budget)) end left' held' state [] → Ends budget (task.meaning 1) b end × Leaves end left'
  ends_so b held left' held' state Done done = let why = done.0.why in ((why.0, why.1, omega (arith, why.2)), done.1)
  ends_so b held left' held' state (BadLine n) done = (done.why, tt)
  ends_so b held left' held' state (Limit n) done = ((passes_start b done.why.0, done.why.1), tt)
  ends_so b held left' held' state ReadFault done = (tt, tt)
  ends_so b held left' held' state WriteFault done = absurd done
  ends_so b held left' held' state NoMemory done = (tt, tt)

  writes_so : (b h : List ℕ) (left' held' : Option (List ℕ)) (state : State) (end : RunEnd) → Stops b (Some h) (stand task (start budget)) end left' held' state [] → SinkGot budget (task.meaning 1) b h end left' held'
  writes_so b h left' held' state Done done = took_all h _ held' done.0.owes
  writes_so b h left' held' state (BadLine n) done = took_all h _ held' done.owes
  writes_so b h left' held' state (Limit n) done = took_all h _ held' done.owes
  writes_so b h left' held' state ReadFault done = record {
    read = done.front;
    gave = done.gave;
    short = omega (arith, done.short);
    good = done.good;
    within = done.within;
    text = took_all h _ held' done.owes;
  }
  writes_so b h left' held' state WriteFault done = absurd done
  writes_so b h left' held' state NoMemory done = took_read b h left' held' done

  pub ran : (left held left' held' : Option (List ℕ)) (state : State) (end : RunEnd) → Finishes left held (stand task (start budget)) (Ok end) left' held' state [] → Runs budget (task.meaning 1) left held end left' held'
  ran None held left' held' state end done = tt
  ran (Some b) None left' held' state end done = ends_so b None left' held' state end done
  ran (Some b) (Some h) left' held' state end done = let why = ends_so b (Some h) left' held' state end done in (why.0, why.1, writes_so b h left' held' state end done)

  -- what the task has become
  pub became : (left held left' held' : Option (List ℕ)) (state : State) (end : RunEnd) → Finishes left held (stand task (start budget)) (Ok end) left' held' state [] → HasBecome budget task.after left end state
  became None held left' held' state end done = tt
  became (Some b) held left' held' state Done done = done.0.after
  became (Some b) held left' held' state (BadLine n) done = done.after
  became (Some b) held left' held' state (Limit n) done = done.after
  became (Some b) held left' held' state ReadFault done = tt
  became (Some b) held left' held' state WriteFault done = tt
  became (Some b) held left' held' state NoMemory done = tt

  -- the text could not be written
  pub unwritten : (left held left' held' : Option (List ℕ)) (state : State) (r : Result RunEnd Failed) (e : Failed) → r ≡ Err e → Finishes left held (stand task (start budget)) r left' held' state []
      → Runs budget (task.meaning 1) left held WriteFault left' held' × Runs budget (task.meaning 1) left held NoMemory left' held'
  unwritten None held left' held' state r e is done = (tt, tt)
  unwritten (Some b) held left' held' state (Ok end) e is done = absurd (cc)
  unwritten (Some b) None left' held' state (Err y) e is done = ((tt, tt), (tt, tt))
  unwritten (Some b) (Some h) left' held' state (Err y) e is done =
      let took = took_read b h left' held' done in ((tt, tt, took), (tt, tt, took))

  -- there was no memory for a run
  pub unstarted : (left held : Option (List ℕ)) → Runs budget (task.meaning 1) left held NoMemory left held
  unstarted None held = tt
  unstarted (Some b) None = (tt, tt)
  unstarted (Some b) (Some h) = (
    tt,
    tt,
    record {
      read = [];
      gave = record { rest = b; told = refl; joined = refl };
      text = inl ([], record { rest = whole_text (ended_effect budget (task.meaning 1) []); whole = refl }, ap (λ x. Some x) (sym (append-nil h)));
    },
  )

-- ---- the counts of faults

pub sink_faults : (end : RunEnd) (old new mid mid' : ℕ) → EndFaults end mid mid' → new ≡ old → new ≡ write_faults end old
sink_faults Done old new mid mid' reads same = same
sink_faults (BadLine n) old new mid mid' reads same = same
sink_faults (Limit n) old new mid mid' reads same = same
sink_faults ReadFault old new mid mid' reads same = same
sink_faults WriteFault old new mid mid' reads same = absurd reads
sink_faults NoMemory old new mid mid' reads same = same

pub source_faults : (end : RunEnd) (old new : ℕ) → EndFaults end old new → new ≡ read_faults end old
source_faults Done old new reads = reads
source_faults (BadLine n) old new reads = reads
source_faults (Limit n) old new reads = reads
source_faults ReadFault old new reads = reads
source_faults WriteFault old new reads = absurd reads
source_faults NoMemory old new reads = reads

-- after all steps, from the last of them
pub faults_after : (end : RunEnd) (r : Result (Option RunEnd) Failed) (old mid new : ℕ) → r ≡ Ok (Some end) → mid ≡ old → StepFaults r mid new → EndFaults end old new
faults_after end r old mid new is same counts = subst (λ m. EndFaults end m new) same (subst (λ x. StepFaults x mid new) is counts)
