-- A period ends as returned only by a LAYOUTRETURN of its client that takes effect in the event and names it.
use Rattle.std.proofs.Common.{◌≡◌, ℕ, Bool, true, false, cond, List, [], ◌∷◌, ◌++◌, Some, None, refl, sym, ap, subst, ◌∙◌, inl, inr, ◌⊎◌}
use Rattle.std.specs.Prelude.{map}
use Rattle.std.proofs.lemmas.List.{append-nil}
use Rattle.std.proofs.lemmas.Option.{same_Some}
use Rattle.ff_xdr.specs.Form.{Value}
use Rattle.rpc_record.specs.Replies.{RpcReply}
use Rattle.compound_reply.specs.Replied.{success_reply}
use Rattle.cluster_model.specs.declared.ids.NodeId.{NodeId}
use Rattle.cluster_model.specs.declared.ids.FileId.{FileId}
use Rattle.cluster_model.specs.declared.ids.Cred.{Cred}
use Rattle.cluster_model.specs.declared.ids.Mirror.{Mirror}
use Rattle.cluster_model.specs.declared.phase.EndCause.TheVariants.{Returned, AllReported}
use Rattle.cluster_model.specs.declared.entry.Entry.{Entry}
use Rattle.cluster_model.specs.declared.entry.Entry.TheVariants as entry
use Rattle.cluster_model.specs.declared.layout_state.LayoutState.{LayoutState}
use Rattle.cluster_model.specs.Phases.{unreported, left_entries, reported_cause, end_entries, left_with}
use Rattle.device_addr.specs.Universal.{AddressValue}
use Rattle.std.specs.List.{list_any}
use Rattle.std.proofs.lemmas.Bool.{cond_both}
use Rattle.mds_rows.specs.Draws.{drawn}
use Rattle.recall.specs.Recalls.{without_file}
use Rattle.file_rule.specs.MdsFiles.{FileStep, a_uid}
use Rattle.ff_xdr.specs.Arms.{arm}
use Rattle.cluster_model.specs.Members.{IsOneOf}
use Rattle.layout_report.specs.Reports.{report_of}
use Rattle.nfs4_types.specs.declared.ids.SessionId.{SessionId}
use Rattle.nfs4_types.specs.declared.sequence.Sequence.{Sequence}
use Rattle.nfs4_types.specs.declared.stateid.Stateid.{Stateid}
use Rattle.nfs4_types.specs.declared.status.Stat4.{Stat4}
use Rattle.nfs4_types.specs.declared.status.Stat4.TheVariants as stat
use Rattle.nfs4_compound.specs.declared.stop.Stop.TheVariants as stop
use Rattle.nfs4_compound.specs.Args.{argop4}
use Rattle.nfs4_compound.specs.Results.{resop4}
use Rattle.nfs4_session.specs.Clients.{SessionsState, client_in}
use Rattle.nfs4_session.specs.Slots.{SlotAnswer, TakesEffect, Repeats, Refuses}
use Rattle.nfs4_session.specs.Requests.{request_answer, after_request, pass_of}
use Rattle.nfs4_session.specs.Bindings.{after_binding}
use Rattle.client_session_calls.specs.SessionOps.{exchange_id_op, create_session_op}
use Rattle.client_file_calls.specs.declared.layout_return.FailedMirror.{FailedMirror}
use Rattle.client_mds_calls.specs.FittingCalls.{FitsRequest}
use Rattle.client_mds_calls.specs.MdsCalls.{SlotCallValue, MdsCallValue, ExchangeId, CreateSession, OnSlot}
use Rattle.client_mds_calls.specs.MdsCalls as slot
use Rattle.client_mds_calls.specs.MdsCompounds.{slot_ops, mds_ops}
use Rattle.mds_rule.specs.MdsStates.{CompoundRun, ServedFile, MdsSend, Replies, MdsValue, MdsStep, served, with_served, new_mds}
use Rattle.mds_rule.specs.ServedFiles.{file_behind, file_stepped, is_period_end}
use Rattle.mds_rule.specs.OpSteps.{with_result, refused_as}
use Rattle.mds_rule.specs.LayoutOps.{no_stateid}
use Rattle.mds_rule.specs.Compounds.{finishes, in_slot, sequenced, sequence_result}
use Rattle.mds_rule.specs.Goes.{calls_out}
use Rattle.mds_walk.specs.MdsRuns.{MdsInput, MdsEvent, Hears, IsTimedOut, Ticks, RecallsFile, Resilvers, after_event, run_from}
use Rattle.mds_walk.proofs.Lists.{AllOf}
use Rattle.mds_walk.proofs.Parts.{HeardAny, Keeps}
use Rattle.mds_walk.proofs.Served.{served_again}
use Rattle.mds_replies.specs.ClientCalls.{IsCallFrom, server_after, IsEventOf}
use Rattle.mds_replies.specs.SlotReplies.{request_of, EffectsAreNumbered}
use Rattle.mds_replies.specs.AnsweredRequests.{HearsFitCall, AreFitCalls, StaysRoomy}
use Rattle.mds_replies.specs.ReturnedPeriods.{IsReturned, ReturnsCome}
use Rattle.mds_replies.proofs.WaitingCompounds.{in_joined}
use Rattle.mds_replies.proofs.PeriodKept.{sent_with_calls, in_sent}
use Rattle.mds_replies.proofs.ReplySent.{run_of_call, event_is}
use Rattle.mds_replies.proofs.EndCauses.{IsNoReturn, NoneReturned, left_none}
use Rattle.mds_replies.proofs.KeptFiles.{FileStandsAs}
use Rattle.mds_replies.proofs.ReportedMirrors.{errors_for, unreported_off, returned_step}
use Rattle.mds_replies.proofs.LayoutReturnRuns.{HasGiven, given_step, ReturnEnds, Accepts}
use Rattle.mds_replies.proofs.LayoutReturnRuns as giving
use Rattle.mds_replies.proofs.TakenRequests.{taken_mds, taken_compound, HasEnded}
use Rattle.mds_replies.proofs.TakenMeans.{after_is, stands_then, return_of, step_of, same_report}
use Rattle.mds_replies.proofs.CallEvents.{Brings, ACall, Nothing, brings, is_return_call, FitsOps, ops_fit}
use Rattle.mds_replies.proofs.Turns.{AnyLeft, says_any, IsSo, cases, finish_keeps, AreFine, run_keeps, alone_keeps, out_keeps, BringsNone, other_keeps}

-- ---- compounds that wait have no operation left

abbrev Left : CompoundRun → Type 0
Left c = (c.ops ≡ []) × (c.stop ≡ stop.End None)

abbrev AnyTable : SessionsState → Type 0
AnyTable s = Unit {0}

abbrev AnyReply : SessionsState → NodeId → RpcReply → Type 0
AnyReply s node reply = Unit {0}

abbrev AnyEntry : Entry → Type 0
AnyEntry e = Unit {0}

module _ (E : Entry → Type 0) (plain : (e : Entry) → IsNoReturn e → E e) where
  abbrev So : MdsValue → List Entry → List MdsSend → Type 0
  So = IsSo Left (λ c l. l) AnyTable (λ s move is i. tt) AnyReply (λ t move is node reply a. tt) (λ t q x result status read l. (tt, tt)) E plain

  fine_ops : (returns : Bool) → (returns ≡ true → (e : Entry) → E e) → (ops : List (Value argop4)) → FitsOps returns ops → AreFine Left (λ c l. l) AnyTable (λ s move is i. tt) AnyReply (λ t move is node reply a. tt) (λ t q x result status read l. (tt, tt)) E plain ops
  fine_ops returns any [] fit = tt
  fine_ops returns any (op ∷ ops) fit = (record { last = fit.0.0; any = λ is. any (fit.0.1 is) }, fine_ops returns any ops fit.1)

  -- another table of clients
  with_table : (m : MdsValue) (sessions : SessionsState) (es : List Entry) (ss : List MdsSend) → So m es ss → So (record m { sessions = sessions }) es ss
  with_table m sessions es ss i = record { waits = i.waits; table = tt; entries = i.entries; replies = i.replies; were = i.were }

  sends_reply : (m : MdsValue) (node : NodeId) (reply : RpcReply) → Keeps So m (record { mds = m; entries = []; sends = Replies node reply ∷ [] })
  sends_reply m node reply es ss i = record {
    waits = i.waits;
    table = tt;
    entries = subst (λ (l : List Entry). AllOf E l) (sym (append-nil es)) i.entries;
    replies = λ other said inside. tt;
    were = Rattle.mds_laws.proofs.Numbers.sent_more m.calls ss (Replies node reply) i.were;
  }

  finish_so : (m : MdsValue) (c : CompoundRun) (status : Stat4) → Keeps So m (finishes m c status)
  finish_so m c status = finish_keeps Left (λ x l. l) AnyTable (λ s move is i. tt) AnyReply (λ t move is node reply a. tt) (λ t q x result status read l. (tt, tt)) E plain m c status (λ q. (tt, tt))

  slot_keeps : (now : ℕ) (m : MdsValue) (c : CompoundRun) (ops : List (Value argop4)) (s : Sequence) → c.stop ≡ stop.End None → (a : SlotAnswer)
      → (a ≡ TakesEffect → AreFine Left (λ x l. l) AnyTable (λ t move is i. tt) AnyReply (λ t move is node reply a. tt) (λ t q x result status read l. (tt, tt)) E plain ops) → Keeps So m (sequenced now m c ops s a)
  slot_keeps now m c ops s end TakesEffect fine =
      λ es ss i. run_keeps Left (λ x l. l) AnyTable (λ t move is j. tt) AnyReply (λ t move is node reply a. tt) (λ t q x result status read l. (tt, tt)) E plain AnyLeft (λ left some x its. tt) now ops (fine refl) (says_any ops) (record m { sessions = after_request m.sessions s now }) (in_slot c s) tt end (λ left d status l its t q. (tt, tt))
      (λ d op l its none some. (none, l.stop ∙ end)) es ss (with_table m (after_request m.sessions s now) es ss i)
  slot_keeps now m c ops s end (Repeats reply) fine = sends_reply m c.node (success_reply c.xid reply)
  slot_keeps now m c ops s end (Refuses status) fine = finish_so m (with_result c (refused_as 53 status)) status

  abbrev new_of : NodeId → ℕ → List ℕ → MdsCallValue → CompoundRun
  new_of node xid name call = record { node = node; xid = xid; tag = []; ops = mds_ops name call; stop = stop.End None; results = []; slot = None; is_kept = false; current = None }

  -- where it is a LAYOUTRETURN that takes effect, anything may be entered
  abbrev AnyWhere : MdsValue → NodeId → MdsCallValue → Type 0
  AnyWhere m node (OnSlot session number call) = is_return_call call ≡ true → request_answer (after_binding m.sessions session node) (request_of session number call) ≡ TakesEffect → (e : Entry) → E e
  AnyWhere m node (ExchangeId verifier) = Unit {0}
  AnyWhere m node (CreateSession client sequence) = Unit {0}

  call_keeps : (now : ℕ) (m : MdsValue) (node : NodeId) (xid : ℕ) (name : List ℕ) (call : MdsCallValue) → AnyWhere m node call → Keeps So m (run_of_call now m node xid name call)
  call_keeps now m node xid name (ExchangeId verifier) any =
      alone_keeps Left (λ x l. l) AnyTable (λ t move is i. tt) AnyReply (λ t move is node reply a. tt) (λ t q x result status read l. (tt, tt)) E plain now m (new_of node xid name (ExchangeId verifier)) (exchange_id_op name verifier) refl refl refl (λ d status l its t q. (tt, tt))
  call_keeps now m node xid name (CreateSession client sequence) any =
      alone_keeps Left (λ x l. l) AnyTable (λ t move is i. tt) AnyReply (λ t move is node reply a. tt) (λ t q x result status read l. (tt, tt)) E plain now m (new_of node xid name (CreateSession client sequence)) (create_session_op client sequence) refl refl refl (λ d status l its t q. (tt, tt))
  call_keeps now m node xid name (OnSlot session number call) any =
      let n : MdsValue = record m { sessions = after_binding m.sessions session node } in
      λ es ss i.
      slot_keeps now n (new_of node xid name (OnSlot session number call)) (slot_ops name call) (request_of session number call) refl (request_answer (after_binding m.sessions session node) (request_of session number call))
      (λ effect. fine_ops (is_return_call call) (λ is. any is effect) (slot_ops name call) (ops_fit name call)) es ss (with_table m (after_binding m.sessions session node) es ss i)

  none_brought : (e : MdsEvent) → ((node : NodeId) (bytes : List ℕ) → e.input ≡ Hears node bytes → (xid : ℕ) (c : Rattle.nfs4_compound.specs.Compounds.CompoundValue) → Rattle.mds_receive.specs.MdsReceive.incoming_of bytes ≡ Rattle.mds_receive.specs.MdsReceive.IsCompound xid c → ⊥)
      → (input : MdsInput) → e.input ≡ input → BringsNone Left (λ x l. l) AnyTable (λ t move is i. tt) AnyReply (λ t move is node reply a. tt) (λ t q x result status read l. (tt, tt)) E plain input
  none_brought e none (Hears node bytes) at = none node bytes at
  none_brought e none (IsTimedOut to which) at = tt
  none_brought e none Ticks at = tt
  none_brought e none (RecallsFile file) at = tt
  none_brought e none (Resilvers file) at = tt

  abbrev AnyBrought : (e : MdsEvent) → MdsValue → Brings e → Type 0
  AnyBrought e m (ACall node xid name call came fits) = AnyWhere m node call
  AnyBrought e m (Nothing none) = Unit {0}

  event_keeps : (e : MdsEvent) (m : MdsValue) (b : Brings e) → AnyBrought e m b → Keeps So m (after_event e m)
  event_keeps e m (ACall node xid name call came fits) any =
      subst (λ (s : MdsStep). Keeps So m s) (sym (event_is e m node xid name call came))
      (out_keeps Left (λ x l. l) AnyTable (λ t move is i. tt) AnyReply (λ t move is node reply a. tt) (λ t q x result status read l. (tt, tt)) E plain m (run_of_call e.now m node xid name call) (call_keeps e.now m node xid name call any))
  event_keeps e m (Nothing none) any = other_keeps Left (λ x l. l) AnyTable (λ t move is i. tt) AnyReply (λ t move is node reply a. tt) (λ t q x result status read l. (tt, tt)) E plain e m (none_brought e none e.input refl)

-- ---- behind each run

record WaitsLeft (m : MdsValue) : Type 0 where
  pub waits : AllOf (λ (s : ServedFile). Rattle.mds_walk.proofs.Parts.AllWait Left s.reads s.write) m.files

starts : (E : Entry → Type 0) (plain : (e : Entry) → IsNoReturn e → E e) (m : MdsValue) → WaitsLeft m → So E plain m [] (sent_with_calls m.calls)
starts E plain m w = record { waits = w.waits; table = tt; entries = tt; replies = λ node reply inside. tt; were = λ call inside. in_sent call m.calls inside }

any_where : (m : MdsValue) (node : NodeId) (call : MdsCallValue) → AnyWhere AnyEntry (λ e none. tt) m node call
any_where m node (ExchangeId verifier) = tt
any_where m node (CreateSession client sequence) = tt
any_where m node (OnSlot session number call) = λ is effect e. tt

any_brought : (e : MdsEvent) (m : MdsValue) (b : Brings e) → AnyBrought AnyEntry (λ x none. tt) e m b
any_brought e m (ACall node xid name call came fits) = any_where m node call
any_brought e m (Nothing none) = tt

event_left : (e : MdsEvent) (m : MdsValue) → HearsFitCall e.input → WaitsLeft m → WaitsLeft (after_event e m).mds
event_left e m fit w =
    record { waits = (event_keeps AnyEntry (λ x none. tt) e m (brings e fit) (any_brought e m (brings e fit)) [] (sent_with_calls m.calls) (starts AnyEntry (λ x none. tt) m w)).waits }

run_left : (m : MdsValue) (events : List MdsEvent) → AreFitCalls events → WaitsLeft m → WaitsLeft (run_from m events).mds
run_left m [] fit w = w
run_left m (e ∷ events) fit w = run_left (after_event e m).mds events fit.1 (event_left e m fit.0 w)

-- ---- what is entered

none_in : (es : List Entry) → AllOf IsNoReturn es → (file : FileId) (cred : Cred) → IsOneOf (entry.Ended file cred Returned) es → ⊥
none_in [] all file cred inside = absurd inside
none_in (x ∷ es) all file cred (inl is) = subst IsNoReturn (sym is) all.0
none_in (x ∷ es) all file cred (inr inside) = none_in es all.1 file cred inside

as_all : (es : List Entry) → NoneReturned es → AllOf IsNoReturn es
as_all [] none = tt
as_all (e ∷ es) none = (none.0, as_all es none.1)

abbrev end_in : Entry → FileId × Cred
end_in (entry.Ended file cred cause) = (file, cred)
end_in other = (record { 0 = 0 }, record { 0 = 0 })

abbrev cause_in : Entry → Bool
cause_in (entry.Ended file cred AllReported) = true
cause_in other = false

record IsEndOf (file : FileId) (cred : Cred) (other : FileId) (its : Cred) (live : List Mirror) : Type 0 where
  pub one : file ≡ other
  pub same : cred ≡ its
  pub first : Mirror
  pub rest : List Mirror
  pub some : live ≡ first ∷ rest

in_ends : (file : FileId) (cred : Cred) (other : FileId) (its : Cred) (left : List Entry) (live : List Mirror) → AllOf IsNoReturn left → IsOneOf (entry.Ended file cred Returned) (end_entries other its left Returned live) → IsEndOf file cred other its live
in_ends file cred other its left [] none (inl is) = absurd (not_so (sym (ap cause_in is)))
  where
    not_so : true ≡ false → ⊥
    not_so e = absurd cc
in_ends file cred other its left [] none (inr inside) = absurd inside
in_ends file cred other its left (x ∷ live) none inside = by_place (Rattle.mds_replies.proofs.Turns.in_pushed (entry.Ended file cred Returned) (entry.Ended other its Returned) left inside)
  where
    by_place : IsOneOf (entry.Ended file cred Returned) left ⊎ (entry.Ended file cred Returned ≡ entry.Ended other its Returned) → IsEndOf file cred other its (x ∷ live)
    by_place (inl was) = absurd (none_in left none file cred was)
    by_place (inr is) = record { one = ap (λ (e : Entry). (end_in e).0) is; same = ap (λ (e : Entry). (end_in e).1) is; first = x; rest = live; some = refl }

live_left : (s : LayoutState) (next : Cred) (live : List Mirror) (first : Mirror) (rest : List Mirror) → live ≡ first ∷ rest → (left_with s next live).live ≡ live
live_left s next live first rest is = subst (λ (l : List Mirror). (left_with s next l).live ≡ l) (sym is) refl

unreported_from : (places : List Bool) (live : List Mirror) (m : Mirror) → IsOneOf m (unreported places live) → IsOneOf m live
unreported_from places [] m inside = absurd inside
unreported_from [] (x ∷ live) m inside = inside
unreported_from (b ∷ places) (x ∷ live) m inside = by_flag b inside (λ its. unreported_from places live m its)
  where
    by_flag : (c : Bool) → IsOneOf m (cond c (unreported places live) (x ∷ unreported places live)) → (IsOneOf m (unreported places live) → IsOneOf m live) → IsOneOf m (x ∷ live)
    by_flag true its rest = inr (rest its)
    by_flag false (inl is) rest = inl is
    by_flag false (inr its) rest = inr (rest its)

stepped_served : (m : MdsValue) (file : FileId) (s : ServedFile) (step : FileStep) → served m file ≡ Some s → served (file_stepped m file s step).mds file ≡ Some (file_behind s step)
stepped_served m file s step at =
    let n : MdsValue = with_served (record m { fresh = drawn m.fresh step }) file (file_behind s step) in
    let there : served n file ≡ Some (file_behind s step) = served_again (record m { fresh = drawn m.fresh step }) file s (file_behind s step) at in
    cond_both (list_any is_period_end step.entries) (record n { recalls = without_file file n.recalls }) n (λ (x : MdsValue). served x file ≡ Some (file_behind s step)) (λ end. there) (λ off. there)

fit_parts : (before more : List MdsEvent) → AreFitCalls (before ++ more) → AreFitCalls before × AreFitCalls more
fit_parts [] more fit = (tt, fit)
fit_parts (e ∷ before) more fit = let rest = fit_parts before more fit.1 in ((fit.0, rest.0), rest.1)

-- ---- the returns

module _ (numbered : EffectsAreNumbered) (servers : List AddressValue) (mirrors : ℕ) (events before after : List MdsEvent) (e : MdsEvent) (fit : AreFitCalls events) (roomy : StaysRoomy servers mirrors events)
    (split : IsEventOf events before e after) (waits : WaitsLeft (server_after servers mirrors before)) (file : FileId) (cred : Cred)
    (inside : IsOneOf (entry.Ended file cred Returned) (after_event e (server_after servers mirrors before)).entries) where
  -- in another event nothing ends so
  not_other : (b : Brings e) → AnyBrought IsNoReturn (λ x none. none) e (server_after servers mirrors before) b → ⊥
  not_other b any =
      none_in (after_event e (server_after servers mirrors before)).entries
      (event_keeps IsNoReturn (λ x none. none) e (server_after servers mirrors before) b any [] (sent_with_calls (server_after servers mirrors before).calls) (starts IsNoReturn (λ x none. none) (server_after servers mirrors before) waits)).entries file cred inside

  -- by a LAYOUTRETURN that takes effect
  module _ (node : NodeId) (xid : ℕ) (name : List ℕ) (session : SessionId) (number : ℕ) (f : FileId) (stateid : Stateid) (failed : List FailedMirror)
      (came : IsCallFrom e node xid name (OnSlot session number (slot.LayoutReturn f stateid failed))) (fits : FitsRequest (OnSlot session number (slot.LayoutReturn f stateid failed)))
      (effect : request_answer (after_binding (server_after servers mirrors before).sessions session node) (request_of session number (slot.LayoutReturn f stateid failed)) ≡ TakesEffect) where
    abbrev call : SlotCallValue
    call = slot.LayoutReturn f stateid failed

    abbrev m : MdsValue
    m = server_after servers mirrors before

    abbrev m1 : MdsValue
    m1 = taken_mds e.now (server_after servers mirrors before) node session number (slot.LayoutReturn f stateid failed)

    abbrev step : MdsStep
    step = Rattle.mds_rule.specs.Compounds.runs e.now (slot_ops name (slot.LayoutReturn f stateid failed)) (taken_mds e.now (server_after servers mirrors before) node session number (slot.LayoutReturn f stateid failed))
        (taken_compound node xid name session number (slot.LayoutReturn f stateid failed))

    step_waits : WaitsLeft step.mds
    step_waits = record {
      waits = subst (λ (s : MdsStep). AllOf (λ (x : ServedFile). Rattle.mds_walk.proofs.Parts.AllWait Left x.reads x.write) s.mds.files)
          (Rattle.mds_replies.proofs.TakenRequests.taken_is e.now (server_after servers mirrors before) node xid name session number call effect)
          (call_keeps AnyEntry (λ x none. tt) e.now (server_after servers mirrors before) node xid name (OnSlot session number call) (λ is takes x. tt) [] (sent_with_calls (server_after servers mirrors before).calls)
          (starts AnyEntry (λ x none. tt) (server_after servers mirrors before) waits)).waits;
    }

    not_out : IsOneOf (entry.Ended file cred Returned) (calls_out [] step.mds).entries → ⊥
    not_out there =
        none_in (calls_out [] step.mds).entries
        (Rattle.mds_replies.proofs.GoesWalk.out_walk (So IsNoReturn (λ x none. none)) (Rattle.mds_replies.proofs.HolderCases.out_of (So IsNoReturn (λ x none. none)) HeardAny Left
        (cases Left (λ x l. l) AnyTable (λ t move is i. tt) AnyReply (λ t move is node reply a. tt) (λ t q x result status read l. (tt, tt)) IsNoReturn (λ x none. none))) [] step.mds [] (sent_with_calls step.mds.calls)
        (starts IsNoReturn (λ x none. none) step.mds step_waits)).entries file cred there

    given_back : (g : HasGiven m1 (client_in session) f stateid)
        → HasEnded m1 (given_step m1 f g.its (errors_for stateid failed)).mds node xid (pass_of (request_of session number call)) (sequence_result (request_of session number call) ∷ arm 22 resop4 (inl tt) ∷ no_stateid ∷ []) stat.Ok step
        → IsEndOf file cred f g.its.file.layout.cred (unreported (report_of (errors_for stateid failed) g.its.file.layout.live) g.its.file.layout.live) → IsReturned servers mirrors before e file cred
    given_back g ended its =
        let live : List Mirror = unreported (report_of (errors_for stateid failed) g.its.file.layout.live) g.its.file.layout.live in
        let stepped : FileStep = returned_step m1 f g.its (report_of (errors_for stateid failed) g.its.file.layout.live) in
        let there : served (given_step m1 f g.its (errors_for stateid failed)).mds f ≡ Some (file_behind g.its stepped) =
        subst (λ (s : MdsStep). served s.mds f ≡ Some (file_behind g.its stepped)) (sym (step_of numbered servers mirrors events before after e fit roomy split node xid name session number f stateid failed came effect fits.0 fits.1 g))
        (stepped_served m1 f g.its stepped g.there) in
        let k : FileStandsAs (file_behind g.its stepped).file.layout (file_behind g.its stepped).holder (file_behind g.its stepped).seqid (server_after servers mirrors (before ++ e ∷ [])).files f =
        stands_then numbered servers mirrors events before after e fit roomy split node xid name session number call came effect fits.0 (given_step m1 f g.its (errors_for stateid failed)).mds
        (sequence_result (request_of session number call) ∷ arm 22 resop4 (inl tt) ∷ no_stateid ∷ []) stat.Ok ended f (file_behind g.its stepped) there in
        let few = (roomy.room before (e ∷ after) split).few f g.its g.there in
        subst (λ (x : FileId). IsReturned servers mirrors before e x cred) (sym its.one)
        (subst (λ (x : Cred). IsReturned servers mirrors before e f x) (sym its.same)
        (record {
          node = node;
          xid = xid;
          name = name;
          session = session;
          number = number;
          stateid = stateid;
          failed = failed;
          came = came;
          effect = effect;
          names = g.names;
          had = record { file_is = g.its; there = g.there; holder = g.holder; node = g.held.node; is_recalled = g.held.is_recalled; phase = g.held.is; its_uid = refl };
          left = λ s x at inside.
              let same : s.file.layout.live ≡ live =
              ap (λ (y : ServedFile). y.file.layout.live) (same_Some s k.its (sym at ∙ k.there)) ∙ ap (λ (l : LayoutState). l.live) k.layout_is ∙ live_left g.its.file.layout (a_uid m1.fresh.uid) live its.first its.rest its.some in
              let among : IsOneOf x live = subst (λ (l : List Mirror). IsOneOf x l) same inside in
              sym (same_report numbered servers mirrors events before after e fit roomy split node xid name session number f stateid failed came effect fits.0 fits.1 g x
              (unreported_from (report_of (errors_for stateid failed) g.its.file.layout.live) g.its.file.layout.live x among))
              ∙ unreported_off (errors_for stateid failed) g.its.file.layout.live few x among;
        }))

    by_end : ReturnEnds m1 node xid (pass_of (request_of session number call)) (sequence_result (request_of session number call)) f stateid failed step → IsOneOf (entry.Ended file cred Returned) step.entries → IsReturned servers mirrors before e file cred
    by_end (giving.IsRefused n results status ended some none entries) there = absurd (subst (λ (l : List Entry). IsOneOf (entry.Ended file cred Returned) l) entries there)
    by_end (Accepts g ended entries) there =
        given_back g ended
        (in_ends file cred f g.its.file.layout.cred (left_entries f (map reported_cause (report_of (errors_for stateid failed) g.its.file.layout.live)) g.its.file.layout.live) (unreported (report_of (errors_for stateid failed) g.its.file.layout.live) g.its.file.layout.live)
        (as_all (left_entries f (map reported_cause (report_of (errors_for stateid failed) g.its.file.layout.live)) g.its.file.layout.live) (left_none f (map reported_cause (report_of (errors_for stateid failed) g.its.file.layout.live)) g.its.file.layout.live))
        (subst (λ (l : List Entry). IsOneOf (entry.Ended file cred Returned) l)
        (entries ∙ append-nil (given_step m1 f g.its (errors_for stateid failed)).entries
        ∙ ap (λ (s : MdsStep). s.entries) (step_of numbered servers mirrors events before after e fit roomy split node xid name session number f stateid failed came effect fits.0 fits.1 g)) there))

    by_return : IsReturned servers mirrors before e file cred
    by_return =
        by_part (in_joined (entry.Ended file cred Returned) step.entries (calls_out [] step.mds).entries
        (subst (λ (s : MdsStep). IsOneOf (entry.Ended file cred Returned) s.entries) (after_is numbered servers mirrors events before after e fit roomy split node xid name session number call came effect fits.0) inside))
      where
        by_part : IsOneOf (entry.Ended file cred Returned) step.entries ⊎ IsOneOf (entry.Ended file cred Returned) (calls_out [] step.mds).entries → IsReturned servers mirrors before e file cred
        by_part (inl there) = by_end (return_of numbered servers mirrors events before after e fit roomy split node xid name session number f stateid failed came effect fits.0 fits.1) there
        by_part (inr there) = absurd (not_out there)

  by_call : (node : NodeId) (xid : ℕ) (name : List ℕ) (session : SessionId) (number : ℕ) (c : SlotCallValue) (came : IsCallFrom e node xid name (OnSlot session number c)) (fits : FitsRequest (OnSlot session number c)) → IsReturned servers mirrors before e file cred
  by_call node xid name session number (slot.LayoutReturn f stateid failed) came fits = by_answer (request_answer (after_binding (server_after servers mirrors before).sessions session node) (request_of session number (slot.LayoutReturn f stateid failed))) refl
    where
      other : (a : SlotAnswer) → request_answer (after_binding (server_after servers mirrors before).sessions session node) (request_of session number (slot.LayoutReturn f stateid failed)) ≡ a → (a ≡ TakesEffect → ⊥) → IsReturned servers mirrors before e file cred
      other a is none = absurd (not_other (ACall node xid name (OnSlot session number (slot.LayoutReturn f stateid failed)) came fits) (λ returns effect. absurd (none (sym is ∙ effect))))

      by_answer : (a : SlotAnswer) → request_answer (after_binding (server_after servers mirrors before).sessions session node) (request_of session number (slot.LayoutReturn f stateid failed)) ≡ a → IsReturned servers mirrors before e file cred
      by_answer TakesEffect is = by_return node xid name session number f stateid failed came fits is
      by_answer (Repeats reply) is = other (Repeats reply) is (λ same. absurd cc)
      by_answer (Refuses status) is = other (Refuses status) is (λ same. absurd cc)
  by_call node xid name session number c came fits = absurd (not_other (ACall node xid name (OnSlot session number c) came fits) (λ returns. absurd cc))

  by_brought : Brings e → IsReturned servers mirrors before e file cred
  by_brought (ACall node xid name (OnSlot session number c) came fits) = by_call node xid name session number c came fits
  by_brought (ACall node xid name (ExchangeId verifier) came fits) = absurd (not_other (ACall node xid name (ExchangeId verifier) came fits) tt)
  by_brought (ACall node xid name (CreateSession client sequence) came fits) = absurd (not_other (ACall node xid name (CreateSession client sequence) came fits) tt)
  by_brought (Nothing none) = absurd (not_other (Nothing none) tt)

pub returns_come : EffectsAreNumbered → ReturnsCome
returns_come numbered servers mirrors events before after e fit roomy split file cred inside =
    let parts = fit_parts before (e ∷ after) (subst AreFitCalls split fit) in
    by_brought numbered servers mirrors events before after e fit roomy split (run_left (new_mds servers mirrors) before parts.0 (record { waits = tt })) file cred inside (brings e parts.1.0)
