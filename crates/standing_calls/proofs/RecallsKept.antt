-- The callback of each recall that is out stands through every part of every event.
use Rattle.std.proofs.Common.{arith, ◌≡◌, ◌≢◌, ◌<◌, ℕ, ◌+◌, Bool, true, false, List, [], ◌∷◌, ◌++◌, Some, None, refl, sym, ap, subst, ◌∙◌, ◌⊎◌, inl, inr, filter}
use Rattle.std.specs.Prelude.{◌==◌, not, nat_lt, slice_set, if◌then◌else◌}
use Rattle.std.specs.List.{find, list_any}
use Rattle.std.proofs.lemmas.Bool.{cond_both, and_parts, eqb-true}
use Rattle.std.proofs.lemmas.Option.{none-some, same_Some}
use Rattle.device_addr.specs.Universal.{AddressValue}
use Rattle.cluster_model.specs.Members.{IsOneOf}
use Rattle.cluster_model.specs.declared.ids.NodeId.{NodeId}
use Rattle.cluster_model.specs.declared.ids.NodeId.TheVariants.{Server}
use Rattle.cluster_model.specs.declared.ids.FileId.{FileId}
use Rattle.cluster_model.specs.Nodes.{is_node}
use Rattle.cluster_model.specs.declared.entry.Entry.{Entry}
use Rattle.file_rule.specs.MdsFiles.{FileStep}
use Rattle.file_rule.specs.FilePhases.{OwnWrite, TimesOut, Answers, phase, AsksLayout, Returns}
use Rattle.mds_rows.specs.Draws.{drawn}
use Rattle.recall.specs.Recalls.{new_recall, after_reply, without_file}
use Rattle.mds_rule.specs.MdsStates.{ServedFile, MdsSend, AwaitedCall, MdsValue, MdsStep, with_call, is_call_to, without_call, with_served, new_mds}
use Rattle.mds_rule.specs.declared.waiter.Waiter.TheVariants.{ForRecall}
use Rattle.mds_rule.specs.ServedFiles.{is_period_end, file_behind, file_stepped}
use Rattle.mds_rule.specs.Answers.{is_awaited_by, is_awaited, own_answer, recall_end}
use Rattle.mds_rule.specs.Goes.{xid_after}
use Rattle.mds_walk.specs.MdsRuns.{MdsEvent, mds_run}
use Rattle.mds_laws.specs.MdsRunLaws.{number_sent}
use Rattle.mds_walk.proofs.Parts.{HeardAny, heard_by, end_input, without_write, Parts, Calls, KeepsBegin, AnyCompound, any_wait, RunParts, GivesAnswers, OutParts, EventParts}
use Rattle.mds_walk.proofs.Lists.{found_in, found_passes}
use Rattle.mds_walk.proofs.EventWalk.{in_each_run}
use Rattle.mds_walk.proofs.TableKept.{IsTable, Table, table_parts, table_calls, new_table, next_is, table_runs, table_answers, table_outs}
use Rattle.standing_calls.specs.RecallCalls.{CallbackStands, WasPassedOver, RecallCallsStand}
use Rattle.standing_calls.proofs.Spots.{Spot, has_number, Once, not_both, is_off, IsLeft, number_set, out_once, got_number, map_get}
use Rattle.standing_calls.proofs.Stands.{found_new}
use Rattle.standing_calls.proofs.FilesKept.{file_of}
use Rattle.standing_calls.proofs.RecallSpots.{recall_spot, recall_spots, out_number, asked_left, ended_left, timed_left, ticked_left, reply_taken, out_awaited, RecallGoes, recall_goes}
use Rattle.mds_rule.specs.LayoutOps.{client_number}
use Rattle.cluster_model.specs.Phases.{holder_of}
use Rattle.layout_report.specs.Reports.{report_of}

-- ---- what stands in a list

by_last : {A : Type 0} (x y : A) (xs : List A) → IsOneOf x (xs ++ y ∷ []) → IsOneOf x xs ⊎ (x ≡ y)
by_last x y [] (inl is) = inr is
by_last x y [] (inr none) = absurd none
by_last x y (z ∷ xs) (inl is) = inl (inl is)
by_last x y (z ∷ xs) (inr inside) = further (by_last x y xs inside)
  where
    further : IsOneOf x xs ⊎ (x ≡ y) → IsOneOf x (z ∷ xs) ⊎ (x ≡ y)
    further (inl old) = inl (inr old)
    further (inr new) = inr new

in_kept : (test : AwaitedCall → Bool) (x : AwaitedCall) (xs : List AwaitedCall) → IsOneOf x xs → test x ≡ true → IsOneOf x (filter test xs)
in_kept test x [] inside passes = absurd inside
in_kept test x (y ∷ ys) (inl is) passes =
    cond_both (test y) (y ∷ filter test ys) (filter test ys) (λ (l : List AwaitedCall). IsOneOf x l) (λ its. inl is) (λ off. absurd (not_both (sym passes ∙ (ap test is ∙ off))))
in_kept test x (y ∷ ys) (inr inside) passes = cond_both (test y) (y ∷ filter test ys) (filter test ys) (λ (l : List AwaitedCall). IsOneOf x l) (λ its. inr (in_kept test x ys inside passes)) (λ off. in_kept test x ys inside passes)

-- one under another number stays where a call goes out
stays_with : (x c : AwaitedCall) (calls : List AwaitedCall) → x.xid ≢ c.xid → IsOneOf x calls → IsOneOf x (with_call c calls)
stays_with x c [] other inside = absurd inside
stays_with x c (d ∷ calls) other inside =
    cond_both (nat_lt c.xid d.xid) (c ∷ d ∷ calls) (if c.xid == d.xid then c ∷ calls else d ∷ with_call c calls) (λ (l : List AwaitedCall). IsOneOf x l) (λ below. inr inside)
    (λ off. cond_both (c.xid == d.xid) (c ∷ calls) (d ∷ with_call c calls) (λ (l : List AwaitedCall). IsOneOf x l) (λ same. instead (eqb-true c.xid d.xid same) inside) (λ away. behind inside (stays_with x c calls other)))
  where
    instead : c.xid ≡ d.xid → IsOneOf x (d ∷ calls) → IsOneOf x (c ∷ calls)
    instead same (inl is) = absurd (other (ap (λ (y : AwaitedCall). y.xid) is ∙ sym same))
    instead same (inr more) = inr more

    behind : IsOneOf x (d ∷ calls) → (IsOneOf x calls → IsOneOf x (with_call c calls)) → IsOneOf x (d ∷ with_call c calls)
    behind (inl is) rest = inl is
    behind (inr more) rest = inr (rest more)

-- ---- the recalls

abbrev pub Stands : List AwaitedCall → List MdsSend → ℕ → Type 0
Stands calls ss n = CallbackStands calls n ⊎ WasPassedOver ss n

-- each callback that is out stands, under a number below the next, and so is each that was sent
pub record RecallsGood (calls : List AwaitedCall) (next : ℕ) (ss : List MdsSend) (xs : List Spot) : Type 0 where
  pub stand : (n : ℕ) → has_number n xs ≡ true → Stands calls ss n
  pub below : not (next == 0) ≡ true → (n : ℕ) → has_number n xs ≡ true → n < next
  pub once : Once xs
  pub sends : not (next == 0) ≡ true → (s : MdsSend) (n : ℕ) → IsOneOf s ss → number_sent s ≡ Some n → n < next

left_number : (ys xs : List Spot) (n : ℕ) → IsLeft ys xs → has_number n ys ≡ true → has_number n xs ≡ true
left_number ys xs n l is = by_test (has_number n xs) refl
  where
    by_test : (b : Bool) → has_number n xs ≡ b → b ≡ true
    by_test true its = refl
    by_test false its = absurd (not_both (sym is ∙ l.number n its))

recalls_left : (calls : List AwaitedCall) (next : ℕ) (ss : List MdsSend) (ys xs : List Spot) → IsLeft ys xs → RecallsGood calls next ss xs → RecallsGood calls next ss ys
recalls_left calls next ss ys xs l g = record {
  stand = λ n is. g.stand n (left_number ys xs n l is);
  below = λ has n is. g.below has n (left_number ys xs n l is);
  once = l.once g.once;
  sends = g.sends;
}

-- ---- more is sent

-- what has no number, or went out before
more_passed : (ss : List MdsSend) (s : MdsSend) (n : ℕ) → number_sent s ≢ Some n → WasPassedOver ss n → WasPassedOver (ss ++ s ∷ []) n
more_passed ss s n other passed x inside = by_case (by_last x s ss inside)
  where
    by_case : IsOneOf x ss ⊎ (x ≡ s) → number_sent x ≢ Some n
    by_case (inl old) = passed x old
    by_case (inr new) = λ its. other (sym (ap number_sent new) ∙ its)

still_stands : (calls : List AwaitedCall) (ss more : List MdsSend) (n : ℕ) → (WasPassedOver ss n → WasPassedOver more n) → Stands calls ss n → Stands calls more n
still_stands calls ss more n passed (inl s) = inl s
still_stands calls ss more n passed (inr p) = inr (passed p)

recalls_send : (calls : List AwaitedCall) (next : ℕ) (ss : List MdsSend) (xs : List Spot) (s : MdsSend) → ((n : ℕ) → WasPassedOver ss n → number_sent s ≢ Some n) → (not (next == 0) ≡ true → (n : ℕ) → number_sent s ≡ Some n → n < next)
    → RecallsGood calls next ss xs → RecallsGood calls next (ss ++ s ∷ []) xs
recalls_send calls next ss xs s other less g = record {
  stand = λ n is. still_stands calls ss (ss ++ s ∷ []) n (λ p. more_passed ss s n (other n p) p) (g.stand n is);
  below = g.below;
  once = g.once;
  sends = λ has x n inside its. by_case has x n its (by_last x s ss inside);
}
  where
    by_case : not (next == 0) ≡ true → (x : MdsSend) (n : ℕ) → number_sent x ≡ Some n → IsOneOf x ss ⊎ (x ≡ s) → n < next
    by_case has x n its (inl old) = g.sends has x n old its
    by_case has x n its (inr new) = less has n (sym (ap number_sent new) ∙ its)

-- ---- calls leave

-- those of recalls that are out stay
recalls_filter : (test : AwaitedCall → Bool) (calls : List AwaitedCall) (next : ℕ) (ss : List MdsSend) (xs : List Spot) → ((call : AwaitedCall) → IsOneOf call calls → call.caller ≡ ForRecall → has_number call.xid xs ≡ true → test call ≡ true)
    → RecallsGood calls next ss xs → RecallsGood (filter test calls) next ss xs
recalls_filter test calls next ss xs stays g = record { stand = λ n is. by_case n is (g.stand n is); below = g.below; once = g.once; sends = g.sends }
  where
    by_case : (n : ℕ) → has_number n xs ≡ true → Stands calls ss n → Stands (filter test calls) ss n
    by_case n is (inl s) = inl (s.0, in_kept test s.0 calls s.1 (stays s.0 s.1 s.3 (subst (λ (k : ℕ). has_number k xs ≡ true) (sym s.2) is)), s.2, s.3)
    by_case n is (inr p) = inr p

not_off : (b : Bool) → b ≡ false → not b ≡ true
not_off b off = ap not off

-- the call that leaves is another
recalls_without : (m : MdsValue) (ss : List MdsSend) (node : NodeId) (xid : ℕ) (call : AwaitedCall) (xs : List Spot) → IsTable m.calls m.next_xid ss → IsOneOf call m.calls → is_call_to node xid call ≡ true
    → (call.caller ≡ ForRecall → has_number xid xs ≡ false) → RecallsGood m.calls m.next_xid ss xs → RecallsGood (without_call node xid m.calls) m.next_xid ss xs
recalls_without m ss node xid call xs t inside its off g =
    recalls_filter (λ (c : AwaitedCall). not (is_call_to node xid c)) m.calls m.next_xid ss xs (λ other there caller is. not_off (is_call_to node xid other) (is_off (is_call_to node xid other) (λ too. never other there caller is too))) g
  where
    never : (other : AwaitedCall) → IsOneOf other m.calls → other.caller ≡ ForRecall → has_number other.xid xs ≡ true → is_call_to node xid other ≡ true → ⊥
    never other there caller is too =
        let a : other.xid ≡ xid = eqb-true other.xid xid (and_parts (is_node other.node node) (other.xid == xid) too).1 in
        let b : call.xid ≡ xid = eqb-true call.xid xid (and_parts (is_node call.node node) (call.xid == xid) its).1 in
        let same : other ≡ call = t.apart other call there inside (a ∙ sym b) in
        not_both (sym (subst (λ (k : ℕ). has_number k xs ≡ true) a is) ∙ off (sym (ap (λ (c : AwaitedCall). c.caller) same) ∙ caller))

awaited_so : (m : MdsValue) (call : AwaitedCall) → call.caller ≡ ForRecall → has_number call.xid (recall_spots m.recalls) ≡ true → is_awaited m call ≡ true
awaited_so m call caller is = ap (is_awaited_by m call.node call.xid) caller ∙ out_awaited m.recalls call.xid is

-- ---- a call goes out

module _ (m : MdsValue) (ss : List MdsSend) (xs : List Spot) (c : AwaitedCall) (number : c.xid ≡ m.next_xid) (its : number_sent c.sent ≡ Some m.next_xid) (has : not (m.next_xid == 0) ≡ true) (g : RecallsGood m.calls m.next_xid ss xs) where
  goes_stands : (n : ℕ) → n < m.next_xid → Stands m.calls ss n → Stands (with_call c m.calls) (ss ++ c.sent ∷ []) n
  goes_stands n less (inl s) = let is : s.0.xid ≡ n = s.2 in inl (s.0, stays_with s.0 c m.calls (λ same. omega (arith, less, same, number, is)) s.1, s.2, s.3)
  goes_stands n less (inr p) = inr (more_passed ss c.sent n (λ new. let same : m.next_xid ≡ n = same_Some m.next_xid n (sym its ∙ new) in omega (arith, less, same)) p)

  goes_sends : not (xid_after m.next_xid == 0) ≡ true → (s : MdsSend) (n : ℕ) → IsOneOf s (ss ++ c.sent ∷ []) → number_sent s ≡ Some n → n < xid_after m.next_xid
  goes_sends some s n inside is = by_case (by_last s c.sent ss inside)
    where
      by_case : IsOneOf s ss ⊎ (s ≡ c.sent) → n < xid_after m.next_xid
      by_case (inl old) = let less : n < m.next_xid = g.sends has s n old is in let on : xid_after m.next_xid ≡ m.next_xid + 1 = next_is m.next_xid some in omega (arith, less, on)
      by_case (inr new) =
          let same : m.next_xid ≡ n = same_Some m.next_xid n (sym its ∙ (sym (ap number_sent new) ∙ is)) in
          let on : xid_after m.next_xid ≡ m.next_xid + 1 = next_is m.next_xid some in
          omega (arith, same, on)

  lower : not (xid_after m.next_xid == 0) ≡ true → (n : ℕ) → n < m.next_xid → n < xid_after m.next_xid
  lower some n less = let on : xid_after m.next_xid ≡ m.next_xid + 1 = next_is m.next_xid some in omega (arith, less, on)

  -- of a file, a READ or a write
  pub other_goes : RecallsGood (with_call c m.calls) (xid_after m.next_xid) (ss ++ c.sent ∷ []) xs
  other_goes = record {
    stand = λ n is. goes_stands n (g.below has n is) (g.stand n is);
    below = λ some n is. lower some n (g.below has n is);
    once = g.once;
    sends = goes_sends;
  }

  -- of a recall
  pub recall_called : (ys : List Spot) (place : ℕ) → ys ≡ slice_set xs place (0, Some m.next_xid) → c.caller ≡ ForRecall → RecallsGood (with_call c m.calls) (xid_after m.next_xid) (ss ++ c.sent ∷ []) ys
  recall_called ys place set caller = record {
    stand = λ n is. by_stand n (number_set n xs place (0, Some m.next_xid) (ap (has_number n) (sym set) ∙ is));
    below = λ some n is. by_below some n (number_set n xs place (0, Some m.next_xid) (ap (has_number n) (sym set) ∙ is));
    once = subst Once (sym set) (out_once m.next_xid xs place (0, Some m.next_xid) refl (is_off (has_number m.next_xid xs) (λ is. let less : m.next_xid < m.next_xid = g.below has m.next_xid is in omega (arith, less))) g.once);
    sends = goes_sends;
  }
    where
      by_stand : (n : ℕ) → ((m.next_xid == n) ≡ true) ⊎ (has_number n xs ≡ true) → Stands (with_call c m.calls) (ss ++ c.sent ∷ []) n
      by_stand n (inl new) = inl (c, found_in (is_call_to c.node c.xid) (with_call c m.calls) c (found_new c m.calls), number ∙ eqb-true m.next_xid n new, caller)
      by_stand n (inr old) = goes_stands n (g.below has n old) (g.stand n old)

      by_below : not (xid_after m.next_xid == 0) ≡ true → (n : ℕ) → ((m.next_xid == n) ≡ true) ⊎ (has_number n xs ≡ true) → n < xid_after m.next_xid
      by_below some n (inl new) = let same : m.next_xid ≡ n = eqb-true m.next_xid n new in let on : xid_after m.next_xid ≡ m.next_xid + 1 = next_is m.next_xid some in omega (arith, same, on)
      by_below some n (inr old) = lower some n (g.below has n old)

-- its number is passed over
recall_skipped : (m : MdsValue) (ss : List MdsSend) (xs ys : List Spot) (place : ℕ) → ys ≡ slice_set xs place (0, Some m.next_xid) → not (m.next_xid == 0) ≡ true → RecallsGood m.calls m.next_xid ss xs → RecallsGood m.calls (xid_after m.next_xid) ss ys
recall_skipped m ss xs ys place set has g = record {
  stand = λ n is. by_stand n (number_set n xs place (0, Some m.next_xid) (ap (has_number n) (sym set) ∙ is));
  below = λ some n is. by_below some n (number_set n xs place (0, Some m.next_xid) (ap (has_number n) (sym set) ∙ is));
  once = subst Once (sym set) (out_once m.next_xid xs place (0, Some m.next_xid) refl (is_off (has_number m.next_xid xs) (λ is. let less : m.next_xid < m.next_xid = g.below has m.next_xid is in omega (arith, less))) g.once);
  sends = λ some s n inside is. let less : n < m.next_xid = g.sends has s n inside is in let on : xid_after m.next_xid ≡ m.next_xid + 1 = next_is m.next_xid some in omega (arith, less, on);
}
  where
    by_stand : (n : ℕ) → ((m.next_xid == n) ≡ true) ⊎ (has_number n xs ≡ true) → Stands m.calls ss n
    by_stand n (inl new) = inr (λ s inside is. let less : n < m.next_xid = g.sends has s n inside is in let same : m.next_xid ≡ n = eqb-true m.next_xid n new in omega (arith, less, same))
    by_stand n (inr old) = g.stand n old

    by_below : not (xid_after m.next_xid == 0) ≡ true → (n : ℕ) → ((m.next_xid == n) ≡ true) ⊎ (has_number n xs ≡ true) → n < xid_after m.next_xid
    by_below some n (inl new) = let same : m.next_xid ≡ n = eqb-true m.next_xid n new in let on : xid_after m.next_xid ≡ m.next_xid + 1 = next_is m.next_xid some in omega (arith, same, on)
    by_below some n (inr old) = let less : n < m.next_xid = g.below has n old in let on : xid_after m.next_xid ≡ m.next_xid + 1 = next_is m.next_xid some in omega (arith, less, on)

-- ---- through the walk

abbrev pub Recalling : MdsValue → List Entry → List MdsSend → Type 0
Recalling m es ss = Table m es ss × RecallsGood m.calls m.next_xid ss (recall_spots m.recalls)

-- an input of a file
stepped_recalls : (m : MdsValue) (file : FileId) (s : ServedFile) (step : FileStep) (ss : List MdsSend) → RecallsGood m.calls m.next_xid ss (recall_spots m.recalls)
    → RecallsGood (file_stepped m file s step).mds.calls (file_stepped m file s step).mds.next_xid ss (recall_spots (file_stepped m file s step).mds.recalls)
stepped_recalls m file s step ss g =
    let n : MdsValue = with_served (record m { fresh = drawn m.fresh step }) file (file_behind s step) in
    cond_both (list_any is_period_end step.entries) (record n { recalls = without_file file n.recalls }) n (λ (x : MdsValue). RecallsGood x.calls x.next_xid ss (recall_spots x.recalls))
    (λ end. recalls_left m.calls m.next_xid ss (recall_spots (without_file file m.recalls)) (recall_spots m.recalls) (ended_left file m.recalls) g) (λ other. g)

unnumbered : (calls : List AwaitedCall) (next : ℕ) (ss : List MdsSend) (xs : List Spot) (s : MdsSend) → number_sent s ≡ None → RecallsGood calls next ss xs → RecallsGood calls next (ss ++ s ∷ []) xs
unnumbered calls next ss xs s none g = recalls_send calls next ss xs s (λ n p is. none-some n (sym none ∙ is)) (λ has n is. absurd (none-some n (sym none ∙ is))) g

pub recalling_parts : Parts Recalling HeardAny AnyCompound
recalling_parts = record {
  wait = λ m es ss j file s there. any_wait s.reads s.write;
  opens = λ m client file es ss j. j;
  closes = λ m client file es ss j. j;
  reclaims = λ m client es ss j. j;
  gone = λ m client es ss j. j;
  tables = λ m move no es ss j. j;
  asks_recall = λ m file s n recalled client now there held off es ss j. (j.0, recalls_left m.calls m.next_xid ss _ (recall_spots m.recalls) (asked_left (new_recall file s.file.layout.cred client now) refl m.recalls) j.1);
  times_recall = λ m xid out es ss j. (j.0, recalls_left m.calls m.next_xid ss _ (recall_spots m.recalls) (timed_left m.recalls xid) j.1);
  ticks_recalls = λ m now es ss j. (j.0, recalls_left m.calls m.next_xid ss _ (recall_spots m.recalls) (ticked_left m.recalls now) j.1);
  later = λ m file p es ss j. j;
  sizes = λ m file s server fileid size there es ss j. j;
  gives_again = λ m file s client there its es ss j. j;
  grants = λ m file s client n from there free left fresh es ss j. (table_parts.grants m file s client n from there free left fresh es ss j.0, stepped_recalls m file s (phase file s.file (AsksLayout n) m.fresh) ss j.1);
  grants_alone = λ m file s client n from there free left spent es ss j. j;
  inputs = λ m file s input unasked there fresh es ss j. (table_parts.inputs m file s input unasked there fresh es ss j.0, stepped_recalls m file s (phase file s.file input m.fresh) ss j.1);
  timeouts = λ m file s node xid out there fresh es ss j. (table_parts.timeouts m file s node xid out there fresh es ss j.0, stepped_recalls m file s (phase file s.file (TimesOut xid) m.fresh) ss j.1);
  learns = λ m file s call server own uid c replies fileid shown heard caller sent named shows there fresh es ss j. j;
  begins_read = λ m file s c at count any there es ss j. j;
  times_read = λ m file s xid place r at on es ss j. j;
  loses_read = λ m file s xid place r e at over es ss j. j;
  begins_write = λ m file s c at bytes any there can fresh es ss j. (table_parts.begins_write m file s c at bytes any there can fresh es ss j.0, stepped_recalls m file s (phase file s.file (OwnWrite at bytes) m.fresh) ss j.1);
  begins_alone = λ m file s c at bytes any there can spent es ss j. j;
  times_write = λ m file s w xid there waits out es ss j. j;
  ends_write = λ m file s w places there waits over fresh es ss j.
      (table_parts.ends_write m file s w places there waits over fresh es ss j.0, stepped_recalls (with_served m file (without_write s)) file (without_write s) (phase file s.file (end_input s w) m.fresh) ss j.1);
  drops_write = λ m file s w places there waits over spent es ss j. j;
  makes = λ m name may es ss j. j;
}

pub recalling_runs : RunParts Recalling
recalling_runs = record {
  confirmed = λ m client node es ss j. j;
  destroys = λ m session es ss j. j;
  returns = λ m file s errors there fresh es ss j.
      (table_runs.returns m file s errors there fresh es ss j.0, stepped_recalls m file s (phase file s.file (Returns (client_number (holder_of s.file.layout.phase)) s.file.layout.cred (report_of errors s.file.layout.live)) m.fresh) ss j.1);
  replies = λ m node xid bytes es ss j. (table_runs.replies m node xid bytes es ss j.0, unnumbered m.calls m.next_xid ss (recall_spots m.recalls) _ refl j.1);
  finishes = λ m pass bytes es ss j. j;
}

pub recalling_answers : GivesAnswers Recalling
recalling_answers m node bytes reply is es ss j = (table_answers m node bytes reply is es ss j.0, unnumbered m.calls m.next_xid ss (recall_spots m.recalls) _ refl j.1)

-- a call of a file is answered
other_heard : (m : MdsValue) (ss : List MdsSend) (node : NodeId) (xid : ℕ) (call : AwaitedCall) (file : FileId) → Table m [] ss → find (is_call_to node xid) m.calls ≡ Some call → file_of call.caller ≡ Some file
    → RecallsGood m.calls m.next_xid ss (recall_spots m.recalls) → RecallsGood (without_call node xid m.calls) m.next_xid ss (recall_spots m.recalls)
other_heard m ss node xid call file t found of g =
    recalls_without m ss node xid call (recall_spots m.recalls) t (found_in (is_call_to node xid) m.calls call found) (found_passes (is_call_to node xid) m.calls call found) (λ is. absurd (none-some file (sym (ap file_of is) ∙ of))) g

-- that of a recall is
recall_heard : (m : MdsValue) (ss : List MdsSend) (node : NodeId) (xid status : ℕ) (call : AwaitedCall) → Table m [] ss → find (is_call_to node xid) m.calls ≡ Some call → RecallsGood m.calls m.next_xid ss (recall_spots m.recalls)
    → RecallsGood (without_call node xid m.calls) m.next_xid ss (recall_spots (after_reply m.recalls xid (recall_end status)).recalls)
recall_heard m ss node xid status call t found g =
    let ys : List Spot = recall_spots (after_reply m.recalls xid (recall_end status)).recalls in
    let taken = reply_taken m.recalls xid (recall_end status) in
    recalls_without m ss node xid call ys t (found_in (is_call_to node xid) m.calls call found) (found_passes (is_call_to node xid) m.calls call found) (λ is. taken.gone g.once)
    (recalls_left m.calls m.next_xid ss ys (recall_spots m.recalls) taken.left g)

-- one that nobody awaits
leaves_so : (m : MdsValue) (ss : List MdsSend) (node : NodeId) (xid : ℕ) (call : AwaitedCall) → Table m [] ss → IsOneOf call m.calls → is_call_to node xid call ≡ true → is_awaited m call ≡ false
    → RecallsGood m.calls m.next_xid ss (recall_spots m.recalls) → RecallsGood (without_call node xid m.calls) m.next_xid ss (recall_spots m.recalls)
leaves_so m ss node xid call t inside its off g =
    recalls_without m ss node xid call (recall_spots m.recalls) t inside its
    (λ caller.
    is_off (has_number xid (recall_spots m.recalls))
    (λ is.
    let number : call.xid ≡ xid = eqb-true call.xid xid (and_parts (is_node call.node node) (call.xid == xid) its).1 in
    not_both (sym (awaited_so m call caller (subst (λ (k : ℕ). has_number k (recall_spots m.recalls) ≡ true) (sym number) is)) ∙ off))) g

-- what went out goes again
sent_before : (m : MdsValue) (ss : List MdsSend) (call : AwaitedCall) → IsOneOf call.sent ss → RecallsGood m.calls m.next_xid ss (recall_spots m.recalls) → RecallsGood m.calls m.next_xid (ss ++ call.sent ∷ []) (recall_spots m.recalls)
sent_before m ss call was g = recalls_send m.calls m.next_xid ss (recall_spots m.recalls) call.sent (λ n p. p call.sent was) (λ has n is. g.sends has call.sent n was is) g

pub recalling_calls : Calls Recalling HeardAny
recalling_calls = record {
  fits = λ m es ss j call inside. inl (j.0.waiters call inside);
  hears = λ m node xid file s call c replies heard its there out fresh es ss j.
      (table_calls.hears m node xid file s call c replies heard its there out fresh es ss j.0, stepped_recalls (heard_by node xid m) file s (phase file s.file (Answers xid (own_answer c (replies c))) m.fresh) ss (other_heard m ss node xid call file j.0 its.found (ap file_of its.waits) j.1));
  unheard = λ m node xid file s call c its there spent es ss j. (table_calls.unheard m node xid file s call c its there spent es ss j.0, other_heard m ss node xid call file j.0 its.found (ap file_of its.waits) j.1);
  hears_read = λ m node xid file s call c replies place r heard its at on es ss j.
      (table_calls.hears_read m node xid file s call c replies place r heard its at on es ss j.0, other_heard m ss node xid call file j.0 its.found (ap file_of its.waits) j.1);
  ends_read = λ m node xid file s call c replies place r e heard its at over es ss j.
      (table_calls.ends_read m node xid file s call c replies place r e heard its at over es ss j.0, other_heard m ss node xid call file j.0 its.found (ap file_of its.waits) j.1);
  hears_write = λ m node xid file s w call c replies heard its there waits out es ss j.
      (table_calls.hears_write m node xid file s w call c replies heard its there waits out es ss j.0, other_heard m ss node xid call file j.0 its.found (ap file_of its.waits) j.1);
  hears_recall = λ m node xid status call found its out es ss j. (table_calls.hears_recall m node xid status call found its out es ss j.0, recall_heard m ss node xid status call j.0 found j.1);
  leaves = λ m node xid call inside its off es ss j. (table_calls.leaves m node xid call inside its off es ss j.0, leaves_so m ss node xid call j.0 inside its off j.1);
  forgets = λ m es ss j. (table_calls.forgets m es ss j.0, recalls_filter (is_awaited m) m.calls m.next_xid ss (recall_spots m.recalls) (λ call inside caller is. awaited_so m call caller is) j.1);
  late = λ m call inside is es ss j. j;
  again = λ m call inside is es ss j. (table_calls.again m call inside is es ss j.0, sent_before m ss call (j.0.sent call inside) j.1);
}

pub recalling_outs : OutParts Recalling
recalling_outs = record {
  calls_file = λ m file s out there has idle its es ss j. (table_outs.calls_file m file s out there has idle its es ss j.0, other_goes m ss (recall_spots m.recalls) _ refl refl has j.1);
  calls_write = λ m file s w out there has waits its es ss j. (table_outs.calls_write m file s w out there has waits its es ss j.0, other_goes m ss (recall_spots m.recalls) _ refl refl has j.1);
  calls_read = λ m file s place r out there has at its es ss j. (table_outs.calls_read m file s place r out there has at its es ss j.0, other_goes m ss (recall_spots m.recalls) _ refl refl has j.1);
  calls_back = λ m sent session has its es ss j.
      let goes : RecallGoes m.recalls m.next_xid sent = recall_goes m.recalls m.next_xid sent its in
      (table_outs.calls_back m sent session has its es ss j.0, recall_called m ss (recall_spots m.recalls) _ refl refl has j.1 (recall_spots sent.recalls) goes.place goes.set refl);
  skips = λ m sent has its es ss j.
      let goes : RecallGoes m.recalls m.next_xid sent = recall_goes m.recalls m.next_xid sent its in
      (table_outs.skips m sent has its es ss j.0, recall_skipped m ss (recall_spots m.recalls) (recall_spots sent.recalls) goes.place goes.set has j.1);
  back = λ m client es ss j. j;
  repeats = λ m server xid call found es ss j. (table_outs.repeats m server xid call found es ss j.0, sent_before m ss call (j.0.sent call (found_in (is_call_to (Server server) xid) m.calls call found)) j.1);
}

pub recalling_begins : KeepsBegin Recalling
recalling_begins m request now es ss j = j

pub recalling_whole : EventParts Recalling HeardAny AnyCompound
recalling_whole = record { parts = recalling_parts; runs = recalling_runs; any = λ c. tt; answers = recalling_answers; calls = recalling_calls; outs = recalling_outs; begins = recalling_begins }

new_recalls : RecallsGood [] 1 [] []
new_recalls = record { stand = λ n is. absurd (not_both (sym is)); below = λ has n is. absurd (not_both (sym is)); once = tt; sends = λ has s n inside is. absurd inside }

pub recalls_stand : (servers : List AddressValue) (mirrors : ℕ) (events : List MdsEvent) → RecallCallsStand (mds_run servers mirrors events)
recalls_stand servers mirrors events place xid r at out =
    let run : MdsStep = mds_run servers mirrors events in
    let j : Recalling run.mds run.entries run.sends = in_each_run Recalling AnyCompound recalling_whole (new_mds servers mirrors) events (new_table, new_recalls) in
    j.1.stand xid (got_number xid (recall_spots run.mds.recalls) place (recall_spot r) (map_get recall_spot run.mds.recalls place r at) (sym (out_number xid r.stage) ∙ out))
