-- A file of which nothing waits sends nothing, and is passed over.
use Rattle.std.proofs.Common.{◌≡◌, ℕ, zero, suc, ◌+◌, ◌-◌, ◌<◌, ◌≤◌, cond, List, [], ◌∷◌, slice_get, Option, Some, None, refl, sym, ap, subst, ◌∙◌, inl, inr, ◌⊎◌, arith}
use Rattle.std.specs.Prelude.{min}
use Rattle.std.specs.List.{range_with_len}
use Rattle.std.proofs.lemmas.Bool.{cases_lt}
use Rattle.cluster_model.specs.declared.ids.FileId.{FileId}
use Rattle.cluster_model.specs.declared.outbox.Outbox.{Outbox}
use Rattle.mds_rule.specs.MdsStates.{ServedFile, MdsValue, MdsStep, sends_none, and_then, served, numbered}
use Rattle.mds_rule.specs.Goes.{each, has_xids, own_next, own_call, own_two, own_calls, read_call_in, read_count, read_calls, place_calls, recall_call, repeats, file_calls}
use Rattle.compound_run.specs.CompoundRuns.{HasMadeStep}
use Rattle.served_files.specs.Quiet.{IsFileQuiet, AreQuiet}
use Rattle.mds_sends.specs.Kept.{kept_in, NoneKept}
use Rattle.mds_sends.specs.Visits.{NoRecalls, AreSilent}
use Rattle.mds_sends.proofs.GoesEach.{each_turn}
use Rattle.mds_sends.proofs.GoesKept.{KeptList, repeats_as}
use Rattle.mds_sends.proofs.GoesOwn.{either_none, steps_none, own_is}
use Rattle.mds_sends.proofs.GoesReads.{none_at, read_is}

-- two steps of which neither does anything
then_none : (s : MdsStep) (next : MdsValue → MdsStep) (m : MdsValue) → s ≡ sends_none m → next m ≡ sends_none m → and_then s next ≡ sends_none m
then_none s next m first second = ap (λ x. and_then x next) first ∙ second

each_silent : (step : ℕ → MdsValue → MdsStep) (list : List ℕ) (m : MdsValue) → ((n : ℕ) → step n m ≡ sends_none m) → each step list m ≡ sends_none m
each_silent step [] m none = refl
each_silent step (n ∷ list) m none = then_none (step n m) (λ k. each step list k) m (none n) (each_silent step list m none)

-- ---- one file, which is quiet, if it is there

module _ (m : MdsValue) (file : FileId) where
  own_by : (place : ℕ) (o : Option ServedFile) → served m file ≡ o → ((s : ServedFile) → o ≡ Some s → IsFileQuiet s) → own_call file place m ≡ sends_none m
  own_by place None is quiet = ap (λ (o : Option ServedFile). cond (has_xids m) (own_next m file place o) (sends_none m)) is ∙ either_none (has_xids m) (sends_none m)
  own_by place (Some s) is quiet = own_is m file place s None is ((quiet s refl).own file m.next_xid) ∙ either_none (has_xids m) (sends_none m)

  read_by : (place n : ℕ) (o : Option ServedFile) → served m file ≡ o → ((s : ServedFile) → o ≡ Some s → IsFileQuiet s) → read_call_in file place n m (served m file) ≡ sends_none m
  read_by place n None is quiet = ap (read_call_in file place n m) is
  read_by place n (Some s) is quiet = read_is m file place n s is ∙ none_at m file s n place (slice_get s.reads n) ((quiet s refl).reads n m.next_xid)

  module _ (quiet : (s : ServedFile) → served m file ≡ Some s → IsFileQuiet s) where
    own_none : (place : ℕ) → own_calls file place m ≡ sends_none m
    own_none place =
        let one = own_by place (served m file) refl quiet in
        let two = then_none (own_call file place m) (own_call file place) m one one in
        then_none (own_two file place m) (own_two file place) m two two

    reads_none : (place : ℕ) → read_calls file place m ≡ sends_none m
    reads_none place = each_silent (λ n k. read_call_in file place n k (served k file)) (range_with_len 0 (read_count (served m file))) m (λ n. read_by place n (served m file) refl quiet)

    places_none : each (place_calls file) (0 ∷ 1 ∷ 2 ∷ 3 ∷ 4 ∷ []) m ≡ sends_none m
    places_none = each_silent (place_calls file) (0 ∷ 1 ∷ 2 ∷ 3 ∷ 4 ∷ []) m (λ place. then_none (own_calls file place m) (read_calls file place) m (own_none place) (reads_none place))

file_none : (list : KeptList) (m : MdsValue) (n : ℕ) → kept_in list (n - 1) ≡ None → recall_call (numbered n) m ≡ sends_none m → ((s : ServedFile) → served m (numbered n) ≡ Some s → IsFileQuiet s) → file_calls list n m ≡ sends_none m
file_none list m n none recall quiet =
    then_none (and_then (recall_call (numbered n) m) (repeats (slice_get list (n - 1)))) (each (place_calls (numbered n)) (0 ∷ 1 ∷ 2 ∷ 3 ∷ 4 ∷ [])) m
    (then_none (recall_call (numbered n) m) (repeats (slice_get list (n - 1))) m recall (sym (repeats_as (slice_get list (n - 1)) None m none)))
    (places_none m (numbered n) quiet)

-- ---- files from one number on

pub lesser : (from a b n end : ℕ) → n ≡ min a b → n < end → (a < end → from ≤ a) → (b < end → from ≤ b) → from ≤ n
lesser from a b n end is below first second = by_order (cases_lt a b)
  where
    by_order : (a < b) ⊎ (b ≤ a) → from ≤ n
    by_order (inl left) = let behind : from ≤ a = first (omega (arith, is, below, left)) in omega (arith, is, left, behind)
    by_order (inr right) = let behind : from ≤ b = second (omega (arith, is, below, right)) in omega (arith, is, right, behind)

-- up to the least of three numbers
pub silent : (list : KeptList) (m : MdsValue) (from due recalled kept next : ℕ) → 1 ≤ from → next ≤ due → next ≤ recalled → next ≤ kept → AreQuiet m.files from due → NoRecalls m from recalled → NoneKept list from kept
    → AreSilent list m from next
silent list m from due recalled kept next some first second third quiet no_recalls none = λ n behind before.
    file_none list m n (none (n - 1) (omega (arith, behind)) (omega (arith, before, third, behind, some))) (no_recalls n behind (omega (arith, before, second)))
    (λ s is. quiet (numbered n) s behind (omega (arith, before, first)) is)

-- what does nothing is passed over
pub passed : (step : ℕ → MdsValue → MdsStep) (m : MdsValue) (from to len left k : ℕ) (out new : Outbox) (n : MdsValue) → from + k ≡ to → len ≡ k + left → ((i : ℕ) → from ≤ i → i < to → step i m ≡ sends_none m)
    → HasMadeStep (each step (range_with_len to left) m) out n new → HasMadeStep (each step (range_with_len from len) m) out n new
passed step m from to len left zero out new n at so none rest =
    let here : to ≡ from = omega (arith, at) in
    let all : left ≡ len = omega (arith, so) in
    subst (λ (i : ℕ). HasMadeStep (each step (range_with_len i len) m) out n new) here (subst (λ (l : ℕ). HasMadeStep (each step (range_with_len to l) m) out n new) all rest)
passed step m from to len left (suc k) out new n at so none rest =
    let more : len ≡ suc (k + left) = omega (arith, so) in
    let below : from < to = omega (arith, at) in
    let on : from + 1 + k ≡ to = omega (arith, at) in
    each_turn step from len (k + left) out out new m m n more (steps_none (step from m) m out (none from (omega arith) below))
    (passed step m (from + 1) to (k + left) left k out new n on refl (λ i behind before. none i (omega (arith, behind)) before) rest)
