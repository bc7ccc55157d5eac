-- Why each file rests behind each event of every run.
use Rattle.std.proofs.Common.{◌≡◌, inl, inr, ℕ, List, [], ◌∷◌, ◌++◌, length, filter, Option, Some, None, refl, sym, subst, ◌∙◌, length-set}
use Rattle.std.specs.Prelude.{◌-◌, slice_get, slice_set}
use Rattle.std.specs.List.{range_with_len}
use Rattle.std.proofs.lemmas.Option.{none-some, same_Some}
use Rattle.cluster_model.proofs.Elements.{slice_get-set_same}
use Rattle.device_addr.specs.Universal.{AddressValue}
use Rattle.cluster_model.specs.declared.entry.Entry.{Entry}
use Rattle.cluster_model.specs.declared.ids.NodeId.{NodeId}
use Rattle.file_rule.specs.FilePhases.{Resilver, Ticks}
use Rattle.mds_receive.specs.MdsReceive.{IncomingValue, PassedOver, IsReply, IsAnswered, IsCompound, incoming_of}
use Rattle.recall_calls.specs.RecallAnswers.{recall_status}
use Rattle.ds_calls.specs.GivenReplies.{reply_of_call}
use Rattle.mds_rule.specs.MdsStates.{ServedFile, MdsSend, AwaitedCall, MdsValue, MdsStep, new_mds, and_then, numbered}
use Rattle.mds_rule.specs.Compounds.{runs_compound}
use Rattle.mds_rule.specs.ServedFiles.{takes_input, asks_back}
use Rattle.mds_rule.specs.Answers.{is_awaited, takes_answer, timed_out_for}
use Rattle.mds_rule.specs.Goes.{each, file_calls, calls_out}
use Rattle.mds_rule.specs.Events.{takes_incoming, goes_again, times_out, late_call, leases_end, recalls_expire, kept_calls}
use Rattle.mds_walk.specs.MdsRuns.{MdsInput, Hears, IsTimedOut, Ticks as IsTick, RecallsFile, Resilvers, MdsEvent, by_input, after_event, run_from}
use Rattle.mds_walk.proofs.Parts.{HeardAny, AnyCompound}
use Rattle.mds_walk.proofs.Keeping.{hears_any}
use Rattle.mds_laws.proofs.GoesWalk.{each_event}
use Rattle.mds_walk.proofs.EventWalk.{event_walk}
use Rattle.recall.specs.declared.recall.Recall.{Recall}
use Rattle.recall.specs.declared.recall.RecallStage.TheVariants.{Out}
use Rattle.recall.specs.Recalls.{RecallSends, at_stage}
use Rattle.mds_quiet.specs.Resting.{RestsFile, RestReads, RecallsRise, AreRecallsInOrder}
use Rattle.mds_quiet.specs.QuietRuns.{FilesRest, RunsRestFiles, RecallsRest, RunsRestRecalls}
use Rattle.mds_quiet.proofs.OutWalk.{read_sent, OutCases, each_so, file_so}
use Rattle.mds_quiet.proofs.FileOuts.{FileCases, At, out_cases}
use Rattle.mds_quiet.proofs.ReadsOut.{NoFile, none_there, reads_go}
use Rattle.mds_quiet.proofs.OwnOut.{files_go}
use Rattle.mds_quiet.proofs.RecallsOut.{IsSent, sent_of, rise_set, recalls_go}
use Rattle.mds_quiet.proofs.Standing.{Stands, set_back, own_back, waits_in_order}
use Rattle.mds_quiet.proofs.RunsStand.{IsSo, cases, begun, each_stands}
use Rattle.mds_quiet.proofs.RunsRecall as recall

-- each file of it stands so that its calls wait in order
abbrev AllStand : MdsValue → Type 0
AllStand m = (place : ℕ) (s : ServedFile) → slice_get m.files place ≡ Some s → Stands s

-- ---- it stood so before the calls that went out

module _ (p : ℕ) (old : ServedFile) where
  abbrev Stood : ServedFile → Type 0
  Stood s = Stands s → Stands old

  stood : FileCases Stood
  stood = record { reads = λ s n r sent xid at goes q i. q (record { file_stands = i.file_stands; writes = i.writes }); own = λ file s xid c is q i. q (own_back file s xid s.write refl c is i) }

  stood_behind : (kept : List (Option (ℕ × ℕ))) (m : MdsValue) → slice_get m.files p ≡ Some old → At p Stood (calls_out kept m).mds
  stood_behind kept m is =
      each_so (At p Stood) (out_cases p Stood stood) (file_calls kept) (λ n x. file_so (At p Stood) (out_cases p Stood stood) kept n x) (range_with_len 1 (length m.files)) m
      (inr (λ u at i. subst Stands (same_Some u old (sym at ∙ is)) i))

-- ---- behind the calls that go out

out_rests : (kept : List (Option (ℕ × ℕ))) (m : MdsValue) → AllStand (calls_out kept m).mds → FilesRest (calls_out kept m).mds
out_rests kept m all some p s at = by_file (slice_get m.files p) refl
  where
    its : Stands s
    its = all p s at

    by_file : (o : Option ServedFile) → slice_get m.files p ≡ o → RestsFile s × RestReads s
    by_file None none = absurd (by_none (none_there p kept m none))
      where
        by_none : At p (NoFile p) (calls_out kept m).mds → ⊥
        by_none (inl end) = some end
        by_none (inr no_such) = no_such s at
    by_file (Some old) is = by_stood (stood_behind p old kept m is)
      where
        by_stood : At p (Stood p old) (calls_out kept m).mds → RestsFile s × RestReads s
        by_stood (inl end) = absurd (some end)
        by_stood (inr back) =
            let k : Stands s = all p s at in
            (files_go kept m p old s is (waits_in_order old (back s at k)) at some, reads_go kept m p s at k.file_stands.few.mirrors.few_live some)

-- ---- behind each event

-- what holds of each server behind the calls that go out, where something does, and says nothing of the calls that were sent
module _ (A P : MdsValue → Type 0) (out : (kept : List (Option (ℕ × ℕ))) (m : MdsValue) → A (calls_out kept m).mds → P (calls_out kept m).mds) (forgets : (m : MdsValue) (calls : List AwaitedCall) → P m → P (record m { calls = calls }))
    (was : (m : MdsValue) (calls : List AwaitedCall) → A (record m { calls = calls }) → A m) where
  incoming_so : (now : ℕ) (m : MdsValue) (node : NodeId) (v : IncomingValue) → P m → A (takes_incoming now m node v).mds → P (takes_incoming now m node v).mds
  incoming_so now m node PassedOver p all = p
  incoming_so now m node (IsReply reply) p all = out [] (takes_answer now m node reply.xid (λ call. reply_of_call call reply) (recall_status reply.stat reply.results)).mds all
  incoming_so now m node (IsAnswered bytes) p all = p
  incoming_so now m node (IsCompound xid v) p all = out [] (runs_compound now m node xid v).mds all

  late_so : (now : ℕ) (m : MdsValue) (o : Option AwaitedCall) → P m → A (times_out now m o).mds → P (times_out now m o).mds
  late_so now m None p all = p
  late_so now m (Some call) p all = out [] (and_then (timed_out_for now m call.xid call.caller) (goes_again call)).mds all

  pub event_so : (now : ℕ) (input : MdsInput) (m : MdsValue) → P m → A (by_input now input m).mds → P (by_input now input m).mds
  event_so now (Hears from bytes) m p all = incoming_so now m from (incoming_of bytes) p all
  event_so now (IsTimedOut to which) m p all = late_so now m (late_call m to which) p all
  event_so now IsTick m p all =
      let ended : MdsValue = (and_then (leases_end now (length m.sessions.clients) m) (λ n. recalls_expire now (length n.recalls) n)).mds in
      let ticked : MdsValue = (each (λ n k. takes_input k (numbered n) Ticks) (range_with_len 1 (length ended.files)) ended).mds in
      let went : MdsValue = (calls_out (kept_calls ended) ticked).mds in
      forgets went (filter (is_awaited went) went.calls) (out (kept_calls ended) ticked (was went (filter (is_awaited went) went.calls) all))
  event_so now (RecallsFile file) m p all = out [] (asks_back m file now).mds all
  event_so now (Resilvers file) m p all = out [] (takes_input m file Resilver).mds all

-- ---- files

files_event : (now : ℕ) (input : MdsInput) (m : MdsValue) → FilesRest m → AllStand (by_input now input m).mds → FilesRest (by_input now input m).mds
files_event = event_so AllStand FilesRest out_rests (λ m calls p. p) (λ m calls all. all)

run_rests : (events : List MdsEvent) (m : MdsValue) (es : List Entry) (ss : List MdsSend) → IsSo m es ss → FilesRest m → FilesRest (run_from m events).mds
run_rests [] m es ss i p = p
run_rests (e ∷ events) m es ss i p =
    let step : MdsStep = after_event e m in
    let next : IsSo step.mds (es ++ step.entries) (ss ++ step.sends) = each_event IsSo HeardAny cases (λ n request now fs ts k. k) e (hears_any IsSo e.input) m es ss i in
    run_rests events step.mds (es ++ step.entries) (ss ++ step.sends) next (files_event e.now e.input m p (each_stands step.mds (es ++ step.entries) (ss ++ step.sends) next))

pub runs_rest : (servers : List AddressValue) (mirrors : ℕ) (events : List MdsEvent) → RunsRestFiles servers mirrors events
runs_rest servers mirrors events few there = run_rests events (new_mds servers mirrors) [] [] (begun servers mirrors few there) (λ some place s at. absurd (none-some s at))

-- ---- recalls

-- recalls were in order before the calls that went out
ordered : (m : MdsValue) → OutCases (λ (x : MdsValue). AreRecallsInOrder x → AreRecallsInOrder m)
ordered m = record {
  called = λ x node caller sent some q i. q i;
  skips = λ x some q i. q i;
  sessions = λ x table q i. q i;
  recalls = λ x sent goes q i. q (before x sent (sent_of x.recalls x.next_xid sent goes) i);
  reads = λ x file s n r sent is at goes q i. q (shorter x (file.0 - 1) (read_sent s n r sent) i);
  own = λ x file s c is its q i. q (shorter x (file.0 - 1) c.served i);
}
  where
    before : (x : MdsValue) (sent : RecallSends) → IsSent x.recalls sent → RecallsRise 0 (length x.files) sent.recalls → RecallsRise 0 (length x.files) x.recalls
    before x sent s i =
        let new : Recall = at_stage (Out s.xid 0) s.r in
        subst (RecallsRise 0 (length x.files)) (set_back x.recalls s.place s.r new s.at)
        (rise_set 0 (length x.files) (slice_set x.recalls s.place new) s.place new s.r (slice_get-set_same x.recalls s.place s.r new s.at) refl (subst (RecallsRise 0 (length x.files)) s.behind i))

    shorter : (x : MdsValue) (place : ℕ) (t : ServedFile) → RecallsRise 0 (length (slice_set x.files place t)) x.recalls → RecallsRise 0 (length x.files) x.recalls
    shorter x place t i = subst (λ (n : ℕ). RecallsRise 0 n x.recalls) (length-set x.files place t) i

out_recalls : (kept : List (Option (ℕ × ℕ))) (m : MdsValue) → AreRecallsInOrder (calls_out kept m).mds → RecallsRest (calls_out kept m).mds
out_recalls kept m all =
    let back : AreRecallsInOrder (calls_out kept m).mds → AreRecallsInOrder m =
    each_so (λ (x : MdsValue). AreRecallsInOrder x → AreRecallsInOrder m) (ordered m) (file_calls kept) (λ n x. file_so (λ (y : MdsValue). AreRecallsInOrder y → AreRecallsInOrder m) (ordered m) kept n x) (range_with_len 1 (length m.files)) m (λ i. i) in
    recalls_go kept m (back all)

recalls_event : (now : ℕ) (input : MdsInput) (m : MdsValue) → RecallsRest m → AreRecallsInOrder (by_input now input m).mds → RecallsRest (by_input now input m).mds
recalls_event = event_so AreRecallsInOrder RecallsRest out_recalls (λ m calls p. p) (λ m calls all. all)

run_recalls : (events : List MdsEvent) (m : MdsValue) (es : List Entry) (ss : List MdsSend) → recall.IsSo m es ss → RecallsRest m → RecallsRest (run_from m events).mds
run_recalls [] m es ss i p = p
run_recalls (e ∷ events) m es ss i p =
    let step : MdsStep = after_event e m in
    let next : recall.IsSo step.mds (es ++ step.entries) (ss ++ step.sends) = event_walk recall.IsSo HeardAny AnyCompound recall.whole e (hears_any recall.IsSo e.input) m es ss i in
    run_recalls events step.mds (es ++ step.entries) (ss ++ step.sends) next (recalls_event e.now e.input m p (recall.in_order step.mds (es ++ step.entries) (ss ++ step.sends) next))

pub recalls_rest : (servers : List AddressValue) (mirrors : ℕ) (events : List MdsEvent) → RunsRestRecalls servers mirrors events
recalls_rest servers mirrors events = run_recalls events (new_mds servers mirrors) [] [] (recall.begun servers mirrors) (λ some xid. refl)
