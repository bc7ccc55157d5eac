-- Behind each run the calls that were sent and are not answered stand under their records' numbers, and those were taken.
use Rattle.std.proofs.Common.{arith, ◌≡◌, ℕ, ◌+◌, true, false, List, [], ◌∷◌, ◌++◌, Some, refl, sym, ap, subst, ◌∙◌, inl, inr, ◌⊎◌}
use Rattle.std.specs.Prelude.{not, ◌==◌}
use Rattle.std.specs.List.{list_any}
use Rattle.std.proofs.lemmas.Bool.{cond_both, eq-eqb}
use Rattle.device_addr.specs.Universal.{AddressValue}
use Rattle.cluster_model.specs.Members.{IsOneOf}
use Rattle.cluster_model.specs.declared.ids.NodeId.{NodeId}
use Rattle.cluster_model.specs.declared.ids.FileId.{FileId}
use Rattle.cluster_model.specs.declared.entry.Entry.{Entry}
use Rattle.file_rule.specs.MdsFiles.{FileStep}
use Rattle.file_rule.specs.FilePhases.{Answers as IsAnswer, TimesOut, Sees, phase}
use Rattle.mds_rows.specs.Draws.{drawn}
use Rattle.recall.specs.Recalls.{without_file}
use Rattle.mds_rule.specs.MdsStates.{ServedFile, MdsSend, Replies, Answers, AwaitedCall, MdsValue, with_served, new_mds}
use Rattle.mds_rule.specs.declared.waiter.Waiter.{Waiter}
use Rattle.mds_rule.specs.ServedFiles.{is_period_end, file_behind, file_stepped}
use Rattle.mds_rule.specs.Answers.{own_answer}
use Rattle.mds_rule.specs.Goes.{xid_after, calls_as, has_xids}
use Rattle.mds_walk.specs.MdsRuns.{MdsEvent, mds_run}
use Rattle.mds_laws.specs.MdsRunLaws.{number_sent}
use Rattle.mds_walk.proofs.Lists.{in_with_call, in_filtered}
use Rattle.mds_laws.proofs.Keeping.{Cases}
use Rattle.mds_walk.proofs.Parts.{HeardAny}
use Rattle.mds_laws.proofs.Numbers.{WereSent, sent_more, sent_with, sent_kept}
use Rattle.mds_laws.proofs.GoesWalk.{in_each_run}
use Rattle.mds_progress.specs.TickLaw.{WasTaken}
use Rattle.mds_pace.specs.MdsPace.{NumbersTaken}
use Rattle.mds_pace.proofs.Calling.{AreTaken}

record Taken (next : ℕ) (calls : List AwaitedCall) (ss : List MdsSend) : Type 0 where
  all : AreTaken next calls
  were : WereSent calls ss

abbrev IsSo : MdsValue → List Entry → List MdsSend → Type 0
IsSo m es ss = Taken m.next_xid m.calls ss

more_sent : (next : ℕ) (calls : List AwaitedCall) (ss : List MdsSend) (s : MdsSend) → Taken next calls ss → Taken next calls (ss ++ s ∷ [])
more_sent next calls ss s t = record { all = t.all; were = sent_more calls ss s t.were }

still_taken : (next xid : ℕ) → not (next == 0) ≡ true → WasTaken xid next → WasTaken xid (xid_after next)
still_taken next xid has (inl less) = cond_both (next == 4294967295) 0 (next + 1) (λ (n : ℕ). WasTaken xid n) (λ last. inr refl) (λ off. inl (omega (arith, less)))
still_taken next xid has (inr none) = absurd (not_both (sym has ∙ ap not (eq-eqb next 0 none)))
  where
    not_both : true ≡ false → ⊥
    not_both e = absurd cc

now_taken : (next : ℕ) → WasTaken next (xid_after next)
now_taken next = cond_both (next == 4294967295) 0 (next + 1) (λ (n : ℕ). WasTaken next n) (λ last. inr refl) (λ off. inl (omega arith))

passed : (next : ℕ) (calls : List AwaitedCall) → not (next == 0) ≡ true → AreTaken next calls → AreTaken (xid_after next) calls
passed next calls has all call inside = ((all call inside).0, still_taken next call.xid has (all call inside).1)

called : (m : MdsValue) (node : NodeId) (caller : Waiter) (sent : MdsSend) → has_xids m ≡ true → number_sent sent ≡ Some m.next_xid → (ss : List MdsSend) → Taken m.next_xid m.calls ss
    → Taken (xid_after m.next_xid) (calls_as m node caller sent).mds.calls (ss ++ sent ∷ [])
called m node caller sent has number ss t = record {
  all = λ call inside. by_place call (in_with_call call new m.calls inside);
  were = sent_with m.calls ss new t.were;
}
  where
    new : AwaitedCall
    new = record { node = node; xid = m.next_xid; caller = caller; sent = sent }

    by_place : (call : AwaitedCall) → IsOneOf call m.calls ⊎ (call ≡ new) → (number_sent call.sent ≡ Some call.xid) × WasTaken call.xid (xid_after m.next_xid)
    by_place call (inl old) = passed m.next_xid m.calls has t.all call old
    by_place call (inr is) = subst (λ (c : AwaitedCall). (number_sent c.sent ≡ Some c.xid) × WasTaken c.xid (xid_after m.next_xid)) (sym is) (number, now_taken m.next_xid)

inputs : (m : MdsValue) (file : FileId) (s : ServedFile) (step : FileStep) (es : List Entry) (ss : List MdsSend) → IsSo m es ss → IsSo (file_stepped m file s step).mds (es ++ step.entries) ss
inputs m file s step es ss t =
    let n : MdsValue = with_served (record m { fresh = drawn m.fresh step }) file (file_behind s step) in
    cond_both (list_any is_period_end step.entries) (record n { recalls = without_file file n.recalls }) n (λ (y : MdsValue). Taken y.next_xid y.calls ss) (λ end. t) (λ other. t)

cases : Cases IsSo HeardAny
cases = record {
  quiet = λ m confirmed opens reclaimed recalls es ss t. t;
  tables = λ m move is es ss t. t;
  replies = λ m node reply es ss t. more_sent m.next_xid m.calls ss (Replies node reply) t;
  answers = λ m node bytes reply is es ss t. more_sent m.next_xid m.calls ss (Answers node bytes) t;
  notes = λ m e is es ss t. t;
  puts = λ m file s f at same write es ss t. t;
  inputs = λ m file s input itself at fresh es ss t. inputs m file s (phase file s.file input m.fresh) es ss t;
  timeouts = λ m file s xid at fresh es ss t. inputs m file s (phase file s.file (TimesOut xid) m.fresh) es ss t;
  hears = λ m file s call server own uid c replies heard caller sent out at fresh es ss t. inputs m file s (phase file s.file (IsAnswer call.xid (own_answer c (replies c))) m.fresh) es ss t;
  learns = λ m file s call server own uid c replies fileid shown heard caller sent named shows at fresh es ss t. inputs m file s (phase file s.file (Sees (record { server = server; fileid = fileid }) shown.seen) m.fresh) es ss t;
  makes = λ m name may es ss t. t;
  calls_file = λ m file s c at has its es ss t. called m _ _ _ has refl ss t;
  calls_write = λ m file s w c at has waits its is_write es ss t. called m _ _ _ has refl ss t;
  calls_read = λ m file s f server call at has same write uid is_read es ss t. called m _ _ _ has refl ss t;
  calls_back = λ m node back file stateid has es ss t. called m _ _ _ has refl ss t;
  skips = λ m has es ss t. record { all = passed m.next_xid m.calls has t.all; were = t.were };
  forgets = λ m test es ss t. record { all = λ call inside. t.all call (in_filtered test call m.calls inside); were = sent_kept test m.calls ss t.were };
  was = λ m es ss t. t.were;
  again = λ m s es ss t inside. more_sent m.next_xid m.calls ss s t;
}

pub taken_in_runs : (servers : List AddressValue) (mirrors : ℕ) (events : List MdsEvent) → NumbersTaken (mds_run servers mirrors events).mds
taken_in_runs servers mirrors events =
    (in_each_run IsSo cases (λ m request now es ss t. t) (new_mds servers mirrors) events (record { all = λ call inside. absurd inside; were = λ call inside. absurd inside })).all
