-- A period is entered as ended by a return only in the event of a LAYOUTRETURN of its client, behind the mirrors that it reports.
use Rattle.std.proofs.Common.{◌≡◌, ℕ, Bool, true, false, cond, List, [], ◌∷◌, ◌++◌, Some, None, refl, sym, ap, subst, ◌∙◌, inl, inr}
use Rattle.std.specs.Prelude.{◌==◌, map}
use Rattle.std.proofs.lemmas.List.{append-nil}
use Rattle.ff_xdr.specs.Form.{Value, arm_of}
use Rattle.cluster_model.specs.declared.ids.NodeId.{NodeId}
use Rattle.cluster_model.specs.declared.ids.FileId.{FileId}
use Rattle.cluster_model.specs.declared.ids.Cred.{Cred}
use Rattle.cluster_model.specs.declared.ids.Mirror.{Mirror}
use Rattle.cluster_model.specs.declared.ids.MirrorId.{MirrorId}
use Rattle.cluster_model.specs.declared.phase.EndCause.TheVariants.{Returned}
use Rattle.cluster_model.specs.declared.entry.Entry.{Entry}
use Rattle.cluster_model.specs.declared.entry.Entry.TheVariants as entry
use Rattle.cluster_model.specs.declared.layout_state.LayoutPhase.{LayoutPhase}
use Rattle.cluster_model.specs.Phases.{ids_of, unreported, left_entries, reported_cause}
use Rattle.cluster_model.specs.Members.{IsOneOf}
use Rattle.device_addr.specs.Universal.{AddressValue}
use Rattle.layout_report.specs.Reports.{report_of}
use Rattle.nfs4_types.specs.declared.ids.SessionId.{SessionId}
use Rattle.nfs4_types.specs.declared.stateid.Stateid.{Stateid}
use Rattle.nfs4_types.specs.Stateids.{three_words}
use Rattle.nfs4_compound.specs.Args.{argop4}
use Rattle.nfs4_session.specs.Clients.{client_in}
use Rattle.nfs4_session.specs.Slots.{TakesEffect}
use Rattle.nfs4_session.specs.Requests.{request_answer, pass_of}
use Rattle.nfs4_session.specs.Bindings.{after_binding}
use Rattle.client_file_calls.specs.declared.layout_return.FailedMirror.{FailedMirror}
use Rattle.client_mds_calls.specs.FittingCalls.{reports_server, FitsRequest}
use Rattle.client_mds_calls.specs.MdsCalls.{SlotCallValue, MdsCallValue, ExchangeId, CreateSession, OnSlot}
use Rattle.client_mds_calls.specs.MdsCalls as slot
use Rattle.client_mds_calls.specs.MdsCompounds.{slot_ops, mds_ops}
use Rattle.mds_rule.specs.MdsStates.{ServedFile, MdsValue, MdsStep}
use Rattle.mds_rule.specs.Compounds.{runs, sequence_result}
use Rattle.cluster_laws.specs.FenceLaw.{live_in}
use Rattle.cluster_laws.proofs.Invariant.{live_of}
use Rattle.cluster_laws.proofs.Journals.{live_append}
use Rattle.mds_walk.specs.MdsRuns.{MdsEvent, after_event, mds_run}
use Rattle.mds_replies.specs.ClientCalls.{IsCallFrom, server_after, IsEventOf}
use Rattle.mds_replies.specs.SlotReplies.{request_of, TookEffect, EffectsAreNumbered}
use Rattle.mds_replies.specs.LayoutReplies.{HasPeriod}
use Rattle.mds_replies.specs.AnsweredRequests.{AreFitCalls, StaysRoomy}
use Rattle.mds_replies.specs.ReturnedPeriods.{IsReturned, ReturnsCome}
use Rattle.mds_replies.proofs.EndCauses.{left_none}
use Rattle.mds_replies.proofs.ReportedMirrors.{errors_for, unreported_off}
use Rattle.mds_replies.proofs.LayoutReturnRuns.{HasGiven, given_step, ReturnEnds, Accepts}
use Rattle.mds_replies.proofs.LayoutReturnRuns as giving
use Rattle.mds_replies.proofs.TakenRequests.{taken_mds, taken_compound}
use Rattle.mds_replies.proofs.TakenMeans.{after_is, return_of, step_of, same_report}
use Rattle.mds_replies.proofs.CallEvents.{Brings, ACall, Nothing, brings}
use Rattle.mds_replies.proofs.SlotHistories.{same_ops, effect_too}
use Rattle.mds_returns.specs.ReturnedEnds.{ReturnsAtEnd, ReturnsComeAtEnds}
use Rattle.mds_returns.proofs.LiveWithin.{Within, IsLeft, behind_left, places_again}
use Rattle.mds_returns.proofs.WithinRuns.{run_within}
use Rattle.mds_returns.proofs.EndPlaces.{not_empty, in_middle, IsPlaced, placed, out_none}

-- ---- the operations of a LAYOUTRETURN

returns_third : List (Value argop4) → Bool
returns_third (a ∷ b ∷ c ∷ rest) = arm_of argop4 c == 51
returns_third ops = false

abbrev is_return : MdsCallValue → Bool
is_return (OnSlot session number (slot.LayoutReturn file stateid failed)) = true
is_return call = false

third_is : (name : List ℕ) (call : MdsCallValue) → returns_third (mds_ops name call) ≡ is_return call
unfolding returns_third
third_is name (ExchangeId verifier) = refl
third_is name (CreateSession client sequence) = refl
third_is name (OnSlot session number slot.ReclaimComplete) = refl
third_is name (OnSlot session number (slot.Open file)) = refl
third_is name (OnSlot session number (slot.LayoutGet file)) = refl
third_is name (OnSlot session number (slot.DeviceInfo [])) = refl
third_is name (OnSlot session number (slot.DeviceInfo (a ∷ []))) = refl
third_is name (OnSlot session number (slot.DeviceInfo (a ∷ b ∷ servers))) = refl
third_is name (OnSlot session number (slot.Write file at bytes)) = refl
third_is name (OnSlot session number (slot.Read file at count)) = refl
third_is name (OnSlot session number (slot.LayoutReturn file stateid failed)) = refl
third_is name (OnSlot session number slot.Renew) = refl

-- ---- lists

fit_parts : (before more : List MdsEvent) → AreFitCalls (before ++ more) → AreFitCalls more
fit_parts [] more fit = fit
fit_parts (e ∷ before) more fit = fit_parts before more fit.1

record IsOfMirror (id : MirrorId) (live : List Mirror) : Type 0 where
  pub its : Mirror
  pub there : IsOneOf its live
  pub same : id ≡ its.id

mirror_of : (id : MirrorId) (live : List Mirror) → IsOneOf id (ids_of live) → IsOfMirror id live
mirror_of id [] inside = absurd inside
mirror_of id (m ∷ live) (inl is) = record { its = m; there = inl refl; same = is }
mirror_of id (m ∷ live) (inr inside) = let x = mirror_of id live inside in record { its = x.its; there = inr x.there; same = x.same }

unreported_from : (places : List Bool) (live : List Mirror) (m : Mirror) → IsOneOf m (unreported places live) → IsOneOf m live
unreported_from places [] m inside = absurd inside
unreported_from [] (x ∷ live) m inside = inside
unreported_from (b ∷ places) (x ∷ live) m inside = by_flag b inside (λ its. unreported_from places live m its)
  where
    by_flag : (c : Bool) → IsOneOf m (cond c (unreported places live) (x ∷ unreported places live)) → (IsOneOf m (unreported places live) → IsOneOf m live) → IsOneOf m (x ∷ live)
    by_flag true its rest = inr (rest its)
    by_flag false (inl is) rest = inl is
    by_flag false (inr its) rest = inr (rest its)

abbrev end_in : Entry → FileId × Cred
end_in (entry.Ended file cred cause) = (file, cred)
end_in other = (record { 0 = 0 }, record { 0 = 0 })

-- ---- an end that is entered, by a reading of the event's call

module _ (servers : List AddressValue) (mirrors : ℕ) (before : List MdsEvent) (session : SessionId) (stateid : Stateid) (failed : List FailedMirror) where
  pub record EndsSo (front : List Entry) (file : FileId) (uid : ℕ) : Type 0 where
    pub had : HasPeriod (server_after servers mirrors before) file (client_in session) uid
    pub names : stateid.other ≡ three_words file.0 uid 0
    pub live : (ids : List MirrorId) → live_in ((mds_run servers mirrors before).entries ++ front) file ≡ Some ids → (id : MirrorId) → IsOneOf id ids → IsOneOf id (ids_of had.file_is.file.layout.live)
    pub kept : (ids : List MirrorId) → live_in ((mds_run servers mirrors before).entries ++ front) file ≡ Some ids → (id : MirrorId) → IsOneOf id ids → reports_server failed id.server ≡ false

module _ (numbered : EffectsAreNumbered) (servers : List AddressValue) (mirrors : ℕ) (events before after : List MdsEvent) (e : MdsEvent) (fit : AreFitCalls events) (roomy : StaysRoomy servers mirrors events)
    (split : IsEventOf events before e after) (file : FileId) (uid : ℕ) (front back : List Entry) (entered : (after_event e (server_after servers mirrors before)).entries ≡ front ++ entry.Ended file (record { 0 = uid }) Returned ∷ back) where
  module _ (node : NodeId) (xid : ℕ) (name : List ℕ) (session : SessionId) (number : ℕ) (f : FileId) (stateid : Stateid) (failed : List FailedMirror)
      (came : IsCallFrom e node xid name (OnSlot session number (slot.LayoutReturn f stateid failed))) (fits : FitsRequest (OnSlot session number (slot.LayoutReturn f stateid failed)))
      (effect : request_answer (after_binding (server_after servers mirrors before).sessions session node) (request_of session number (slot.LayoutReturn f stateid failed)) ≡ TakesEffect) where
    abbrev call : SlotCallValue
    call = slot.LayoutReturn f stateid failed

    abbrev m1 : MdsValue
    m1 = taken_mds e.now (server_after servers mirrors before) node session number (slot.LayoutReturn f stateid failed)

    abbrev step : MdsStep
    step = runs e.now (slot_ops name (slot.LayoutReturn f stateid failed)) (taken_mds e.now (server_after servers mirrors before) node session number (slot.LayoutReturn f stateid failed))
        (taken_compound node xid name session number (slot.LayoutReturn f stateid failed))

    -- which places of a file's live list are reported, and the entries of the mirrors that leave
    abbrev places : ServedFile → List Bool
    places s = report_of (errors_for stateid failed) s.file.layout.live

    abbrev left : ServedFile → List Entry
    left s = left_entries f (map reported_cause (report_of (errors_for stateid failed) s.file.layout.live)) s.file.layout.live

    -- the entries of the event are those of its operations
    step_entered : step.entries ≡ front ++ entry.Ended file (record { 0 = uid }) Returned ∷ back
    step_entered =
        sym (append-nil step.entries) ∙ ap (λ (l : List Entry). step.entries ++ l) (sym (out_none step.mds))
        ∙ sym (ap (λ (s : MdsStep). s.entries) (after_is numbered servers mirrors events before after e fit roomy split node xid name session number call came effect fits.0)) ∙ entered

    given_back : (g : HasGiven m1 (client_in session) f stateid) → EndsSo servers mirrors before session stateid failed (left g.its) f g.its.file.layout.cred.0
    given_back g = record {
      had = record { file_is = g.its; there = g.there; holder = g.holder; node = g.held.node; is_recalled = g.held.is_recalled; phase = g.held.is; its_uid = refl };
      names = g.names;
      live = λ ids is id inside. (left_so ids is id inside).was;
      kept = λ ids is id inside.
          by_mirror id
          (mirror_of id (unreported (places g.its) g.its.file.layout.live)
          (subst (λ (l : List Bool). IsOneOf id (ids_of (unreported l g.its.file.layout.live))) (places_again (places g.its)) (left_so ids is id inside).stays));
    }
      where
        past_within : Within (live_in (mds_run servers mirrors before).entries f) (Some (ids_of g.its.file.layout.live))
        past_within =
            subst (λ (p : LayoutPhase). Within (live_in (mds_run servers mirrors before).entries f) (live_of p (ids_of g.its.file.layout.live))) g.held.is (run_within servers mirrors before f g.its g.there)

        left_so : (ids : List MirrorId) → live_in ((mds_run servers mirrors before).entries ++ left g.its) f ≡ Some ids → (id : MirrorId) → IsOneOf id ids → IsLeft (map reported_cause (places g.its)) g.its.file.layout.live id
        left_so ids is id inside =
            behind_left f (map reported_cause (places g.its)) g.its.file.layout.live (live_in (mds_run servers mirrors before).entries f) past_within ids
            (sym (live_append f None (mds_run servers mirrors before).entries (left g.its)) ∙ is) id inside

        by_mirror : (id : MirrorId) → IsOfMirror id (unreported (places g.its) g.its.file.layout.live) → reports_server failed id.server ≡ false
        by_mirror id x =
            ap (λ (k : MirrorId). reports_server failed k.server) x.same
            ∙ sym (same_report numbered servers mirrors events before after e fit roomy split node xid name session number f stateid failed came effect fits.0 fits.1 g x.its
            (unreported_from (places g.its) g.its.file.layout.live x.its x.there))
            ∙ unreported_off (errors_for stateid failed) g.its.file.layout.live ((roomy.room before (e ∷ after) split).few f g.its g.there) x.its x.there

    by_end : ReturnEnds m1 node xid (pass_of (request_of session number call)) (sequence_result (request_of session number call)) f stateid failed step → EndsSo servers mirrors before session stateid failed front file uid
    by_end (giving.IsRefused n results status ended some none entries) = absurd (not_empty front (entry.Ended file (record { 0 = uid }) Returned) back (sym entries ∙ step_entered))
    by_end (Accepts g ended entries) =
        let p : IsPlaced (left g.its) front (entry.Ended f g.its.file.layout.cred Returned) (entry.Ended file (record { 0 = uid }) Returned) =
        placed file f (record { 0 = uid }) g.its.file.layout.cred (left g.its) (unreported (places g.its) g.its.file.layout.live) front back (left_none f (map reported_cause (places g.its)) g.its.file.layout.live)
        (sym (entries ∙ append-nil (given_step m1 f g.its (errors_for stateid failed)).entries
        ∙ ap (λ (s : MdsStep). s.entries) (step_of numbered servers mirrors events before after e fit roomy split node xid name session number f stateid failed came effect fits.0 fits.1 g)) ∙ step_entered) in
        subst (λ (l : List Entry). EndsSo servers mirrors before session stateid failed l file uid) (sym p.before)
        (subst (λ (x : FileId). EndsSo servers mirrors before session stateid failed (left g.its) x uid) (sym (ap (λ (x : Entry). (end_in x).0) p.one))
        (subst (λ (n : ℕ). EndsSo servers mirrors before session stateid failed (left g.its) f n) (sym (ap (λ (x : Entry). (end_in x).1.0) p.one)) (given_back g)))

    pub ends_so : EndsSo servers mirrors before session stateid failed front file uid
    ends_so = by_end (return_of numbered servers mirrors events before after e fit roomy split node xid name session number f stateid failed came effect fits.0 fits.1)

  -- ---- the event's call

  module _ (r : IsReturned servers mirrors before e file (record { 0 = uid })) where
    took : TookEffect servers mirrors before e r.session r.number
    took = record { node = r.node; xid = r.xid; name = r.name; call = slot.LayoutReturn file r.stateid r.failed; came = r.came; effect = r.effect }

    -- in each reading that is one of a slot it takes effect
    effect_of : (node : NodeId) (xid : ℕ) (name : List ℕ) (session : SessionId) (number : ℕ) (c : SlotCallValue) → IsCallFrom e node xid name (OnSlot session number c)
        → request_answer (after_binding (server_after servers mirrors before).sessions session node) (request_of session number c) ≡ TakesEffect
    effect_of node xid name session number c came = effect_too servers mirrors before e r.session r.number took node xid name session number c came

    by_return : (node : NodeId) (xid : ℕ) (name : List ℕ) (session : SessionId) (number : ℕ) (f : FileId) (stateid : Stateid) (failed : List FailedMirror) → IsCallFrom e node xid name (OnSlot session number (slot.LayoutReturn f stateid failed))
        → FitsRequest (OnSlot session number (slot.LayoutReturn f stateid failed)) → ReturnsAtEnd servers mirrors before e front file uid
    by_return node xid name session number f stateid failed came fits =
        let so : (owner : List ℕ) (own : FileId) (its : Stateid) (reports : List FailedMirror) → IsCallFrom e node xid owner (OnSlot session number (slot.LayoutReturn own its reports)) → FitsRequest (OnSlot session number (slot.LayoutReturn own its reports))
        → EndsSo servers mirrors before session its reports front file uid =
        λ owner own its reports comes suits. ends_so node xid owner session number own its reports comes suits (effect_of node xid owner session number (slot.LayoutReturn own its reports) comes) in
        let mine : EndsSo servers mirrors before session stateid failed front file uid = so name f stateid failed came fits in
        record {
          node = node;
          xid = xid;
          name = name;
          session = session;
          number = number;
          other = f;
          stateid = stateid;
          failed = failed;
          came = came;
          had = mine.had;
          names = λ owner own its reports comes suits. (so owner own its reports comes suits).names;
          live = mine.live;
          kept = λ owner own its reports comes suits. (so owner own its reports comes suits).kept;
        }

    -- another call has other operations
    not_other : (node : NodeId) (xid : ℕ) (name : List ℕ) (call : MdsCallValue) → IsCallFrom e node xid name call → is_return call ≡ false → ⊥
    not_other node xid name call came off =
        not_so (sym off ∙ sym (third_is name call)
        ∙ ap returns_third (same_ops e node r.node xid r.xid name r.name call (OnSlot r.session r.number (slot.LayoutReturn file r.stateid r.failed)) came r.came)
        ∙ third_is r.name (OnSlot r.session r.number (slot.LayoutReturn file r.stateid r.failed)))
      where
        not_so : false ≡ true → ⊥
        not_so e = absurd cc

    by_call : (node : NodeId) (xid : ℕ) (name : List ℕ) (session : SessionId) (number : ℕ) (c : SlotCallValue) → IsCallFrom e node xid name (OnSlot session number c) → FitsRequest (OnSlot session number c) → ReturnsAtEnd servers mirrors before e front file uid
    by_call node xid name session number (slot.LayoutReturn f stateid failed) came fits = by_return node xid name session number f stateid failed came fits
    by_call node xid name session number c came fits = absurd (not_other node xid name (OnSlot session number c) came refl)

    by_brought : Brings e → ReturnsAtEnd servers mirrors before e front file uid
    by_brought (ACall node xid name (OnSlot session number c) came fits) = by_call node xid name session number c came fits
    by_brought (ACall node xid name (ExchangeId verifier) came fits) = absurd (not_other node xid name (ExchangeId verifier) came refl)
    by_brought (ACall node xid name (CreateSession client sequence) came fits) = absurd (not_other node xid name (CreateSession client sequence) came refl)
    by_brought (Nothing none) = absurd (none r.node r.came.bytes r.came.input r.xid r.came.v r.came.compound)

pub returns_at_ends : EffectsAreNumbered → ReturnsCome → ReturnsComeAtEnds
returns_at_ends numbered come servers mirrors events before after e fit roomy split file uid front back entered =
    by_brought numbered servers mirrors events before after e fit roomy split file uid front back entered
    (come servers mirrors events before after e fit roomy split file (record { 0 = uid })
    (subst (λ (l : List Entry). IsOneOf (entry.Ended file (record { 0 = uid }) Returned) l) (sym entered) (in_middle (entry.Ended file (record { 0 = uid }) Returned) front back)))
    (brings e (fit_parts before (e ∷ after) (subst AreFitCalls split fit)).0)
