-- What the reply to a client's LAYOUTGET or LAYOUTRETURN means in the event in which it takes effect.
use Rattle.std.proofs.Common.{◌≡◌, ◌≤◌, ◌<◌, ℕ, ◌^◌, true, List, [], ◌∷◌, ◌++◌, length, Option, Some, None, refl, sym, ap, subst, ◌∙◌, arith, inl, inr, ◌⊎◌}
use Rattle.std.specs.List.{AllByRecursion}
use Rattle.std.proofs.lemmas.List.{append_assoc, append-nil}
use Rattle.ff_xdr.specs.Arms.{arm}
use Rattle.ff_xdr.specs.Form.{Value, Fits, spelling}
use Rattle.rpc_record.specs.Replies.{RpcReply}
use Rattle.compound_reply.specs.Replied.{success_reply}
use Rattle.cluster_model.specs.declared.ids.NodeId.{NodeId}
use Rattle.cluster_model.specs.declared.ids.FileId.{FileId}
use Rattle.cluster_model.specs.declared.ids.Mirror.{Mirror}
use Rattle.cluster_model.specs.declared.phase.EndCause.TheVariants.{Returned as AsReturned}
use Rattle.cluster_model.specs.declared.entry.Entry.{Entry}
use Rattle.cluster_model.specs.declared.entry.Entry.TheVariants as entry
use Rattle.cluster_model.specs.declared.layout_state.LayoutState.{LayoutState}
use Rattle.cluster_model.specs.Phases.{unreported, end_cause, left_entries, reported_cause}
use Rattle.std.specs.Prelude.{map}
use Rattle.cluster_model.specs.Members.{IsOneOf}
use Rattle.device_addr.specs.Universal.{AddressValue}
use Rattle.layout_report.specs.Reports.{is_reported, report_of}
use Rattle.same_layout.specs.SameLayout.{unseen}
use Rattle.nfs4_types.specs.declared.ids.SessionId.{SessionId}
use Rattle.nfs4_types.specs.declared.stateid.Stateid.{Stateid}
use Rattle.nfs4_types.specs.declared.status.Stat4.{Stat4}
use Rattle.nfs4_types.specs.declared.status.Stat4.TheVariants as stat
use Rattle.nfs4_types.specs.Status.{stat4_number}
use Rattle.nfs4_types.specs.Stateids.{layout_stateid_of}
use Rattle.nfs4_compound.specs.Results.{resop4}
use Rattle.nfs4_compound.specs.Compounds.{compound4_res}
use Rattle.nfs4_session.specs.Slots.{SlotState, TakesEffect, kept_as, slot_begun}
use Rattle.nfs4_session.specs.Clients.{SessionsState, client_in, session_of}
use Rattle.nfs4_session.specs.Requests.{request_answer, pass_of}
use Rattle.nfs4_session.specs.Bindings.{after_binding}
use Rattle.client_file_calls.specs.declared.grant.LayoutGrant.{LayoutGrant}
use Rattle.client_file_calls.specs.declared.layout_return.FailedMirror.{FailedMirror}
use Rattle.client_file_calls.specs.declared.open.OpenFile.{OpenFile}
use Rattle.client_file_calls.specs.FileResults.{layout_get_ok}
use Rattle.client_mds_calls.specs.declared.ask.MdsAsk.TheVariants as ask
use Rattle.client_mds_calls.specs.FittingCalls.{reports_server, FitsSlotCall, FitsRequest}
use Rattle.client_mds_calls.specs.MdsCalls.{SlotCallValue, OnSlot, ask_on_slot}
use Rattle.client_mds_calls.specs.MdsCalls as slot
use Rattle.client_mds_calls.specs.MdsCompounds.{slot_ops, mds_ops}
use Rattle.client_mds_calls.specs.MdsReplies.{MdsAnswerValue, Granted, answer_where, reply_of_ask}
use Rattle.mds_rule.specs.MdsStates.{ServedFile, Replies, MdsValue, MdsStep, and_then, served, new_mds}
use Rattle.mds_rule.specs.ServedFiles.{file_stepped}
use Rattle.mds_rule.specs.LayoutOps.{layout_of_file, no_stateid}
use Rattle.mds_rule.specs.Compounds.{runs, sequence_result}
use Rattle.mds_rule.specs.Goes.{calls_out}
use Rattle.mds_walk.specs.MdsRuns.{MdsEvent, MdsInput, Hears, IsTimedOut, Ticks, RecallsFile, Resilvers, after_event}
use Rattle.mds_walk.proofs.Lists.{in_more}
use Rattle.mds_replies.specs.ClientCalls.{IsCallFrom, HearsCall, AreCalls, server_after, IsEventOf}
use Rattle.mds_replies.specs.SlotReplies.{request_of, TookEffect, EffectsAreNumbered}
use Rattle.mds_replies.specs.LayoutReplies.{HasPeriod}
use Rattle.mds_replies.specs.AnsweredRequests.{HearsFitCall, AreFitCalls, FitsMirrorId, HasSpareNumbers, StaysRoomy, first_slot, slot_of, KeepsAnswer, IsGrantedNow, GrantsSo, GrantsIfGranted, ReturnsSo, MeansSo}
use Rattle.mds_replies.proofs.Periods.{run_behind}
use Rattle.mds_replies.proofs.OutCalls.{AreCalled, are_called}
use Rattle.mds_replies.proofs.ReplySent.{event_is, reply_is}
use Rattle.mds_replies.proofs.HoldersHold.{HolderHolds, holder_holds, uid_was_drawn, seqid_fits}
use Rattle.mds_replies.proofs.KeptFiles.{FileStandsAs, out_kept}
use Rattle.mds_replies.proofs.GrantRead.{grant_read}
use Rattle.mds_replies.proofs.KeptReplies.{has_begun, has_finished, kept_short, out_leaves}
use Rattle.mds_replies.proofs.GetSizes.{refused_short, granted_short}
use Rattle.mds_replies.proofs.ReplyForms.{sequence_fits, refused_says, done_says}
use Rattle.mds_replies.proofs.TakenRequests.{taken_mds, taken_compound, taken_is, HasEnded}
use Rattle.mds_replies.proofs.LayoutGetRuns.{HasGot, GetEnds, IsRefused, Grants, get_ends}
use Rattle.mds_replies.proofs.ReportedMirrors.{errors_for, reports_same, unreported_has, ends_as, ends_returned, returned_step, returned_is}
use Rattle.mds_replies.proofs.LayoutReturnRuns.{HasGiven, given_step, ReturnEnds, Accepts, return_ends}
use Rattle.mds_replies.proofs.LayoutReturnRuns as giving

-- ---- calls that fit are calls

hears_call : (input : MdsInput) → HearsFitCall input → HearsCall input
hears_call (Hears node bytes) fit = λ xid v is. let c = fit xid v is in (c.0, c.1, c.2)
hears_call (IsTimedOut to which) fit = tt
hears_call Ticks fit = tt
hears_call (RecallsFile file) fit = tt
hears_call (Resilvers file) fit = tt

pub are_calls : (events : List MdsEvent) → AreFitCalls events → AreCalls events
are_calls [] fit = tt
are_calls (e ∷ events) fit = (hears_call e.input fit.0, are_calls events fit.1)

-- ---- moments

pub one_more : (servers : List AddressValue) (mirrors : ℕ) (early : List MdsEvent) (f : MdsEvent) → server_after servers mirrors (early ++ f ∷ []) ≡ (after_event f (server_after servers mirrors early)).mds
one_more servers mirrors early f = run_behind (new_mds servers mirrors) early (f ∷ [])

pub split_behind : (events early late : List MdsEvent) (f : MdsEvent) → IsEventOf events early f late → events ≡ (early ++ f ∷ []) ++ late
split_behind events early late f split = split ∙ sym (append_assoc early (f ∷ []) late)

-- a list's only element, in front of others
pub first_in : {A : Type 0} (x : A) (xs ys more : List A) → ys ≡ x ∷ [] → IsOneOf x (ys ++ more)
first_in x xs ys more is = subst (λ l. IsOneOf x (l ++ more)) (sym is) (inl refl)

-- the layout that is read, by how the file stands
abbrev read_as_of : FileId → LayoutState → ℕ → LayoutGrant
read_as_of file layout seqid = record { stateid = layout_stateid_of file.0 layout.cred.0 seqid; uid = layout.cred; mirrors = map unseen layout.live }

module _ (numbered : EffectsAreNumbered) (servers : List AddressValue) (mirrors : ℕ) (events early late : List MdsEvent) (f : MdsEvent) (fit : AreFitCalls events) (roomy : StaysRoomy servers mirrors events)
    (split : IsEventOf events early f late) (node : NodeId) (xid : ℕ) (name : List ℕ) (session : SessionId) (number : ℕ) where
  abbrev m : MdsValue
  m = server_after servers mirrors early

  now_room : HasSpareNumbers (server_after servers mirrors early)
  now_room = roomy.room early (f ∷ late) split

  then_room : HasSpareNumbers (server_after servers mirrors (early ++ f ∷ []))
  then_room = roomy.room (early ++ f ∷ []) late (split_behind events early late f split)

  pub took_fits : TookEffect servers mirrors early f session number → number < 2 ^ 32
  took_fits took =
      let few = roomy.counts early (f ∷ late) split session in
      let is = (numbered servers mirrors events early late f session number (are_calls events fit) split few took).0 in omega (arith, few, is)

  module _ (call : SlotCallValue) (came : IsCallFrom f node xid name (OnSlot session number call))
      (effect : request_answer (after_binding (server_after servers mirrors early).sessions session node) (request_of session number call) ≡ TakesEffect) (its_id : length session.0 ≡ 16) where
    abbrev m1 : MdsValue
    m1 = taken_mds f.now (server_after servers mirrors early) node session number call

    abbrev step : MdsStep
    step = runs f.now (slot_ops name call) (taken_mds f.now (server_after servers mirrors early) node session number call) (taken_compound node xid name session number call)

    pub after_is : after_event f (server_after servers mirrors early) ≡ and_then step (calls_out [])
    after_is = event_is f (server_after servers mirrors early) node xid name (OnSlot session number call) came
        ∙ ap (λ (s : MdsStep). and_then s (calls_out [])) (taken_is f.now (server_after servers mirrors early) node xid name session number call effect)

    pub first_fits : Fits resop4 (sequence_result (request_of session number call))
    first_fits = sequence_fits (request_of session number call) its_id (took_fits (record { node = node; xid = xid; name = name; call = call; came = came; effect = effect })) refl

    holds : (file : FileId) (s : ServedFile) → served (server_after servers mirrors early) file ≡ Some s → HolderHolds s
    holds file s at = holder_holds servers mirrors early now_room.fresh file s at

    -- the reply is the compound's
    pub own_reply : (n : MdsValue) (results : List (Value resop4)) (status : Stat4) → HasEnded m1 n node xid (pass_of (request_of session number call)) results status step → (reply : RpcReply)
        → IsOneOf (Replies node reply) (after_event f (server_after servers mirrors early)).sends → reply ≡ success_reply xid (spelling compound4_res (stat4_number status, ([], results)))
    own_reply n results status ended reply sent =
        reply_is f (server_after servers mirrors early) step node node reply (success_reply xid (spelling compound4_res (stat4_number status, ([], results)))) after_is ended.sends
        (subst AreCalled (sym (ap (λ (x : MdsValue). x.calls) ended.mds ∙ ended.same.calls)) (are_called servers mirrors early)) sent

    -- behind the event a file stands as behind the operations
    pub stands_then : (n : MdsValue) (results : List (Value resop4)) (status : Stat4) → HasEnded m1 n node xid (pass_of (request_of session number call)) results status step → (file : FileId) (s : ServedFile) → served n file ≡ Some s
        → FileStandsAs s.file.layout s.holder s.seqid (server_after servers mirrors (early ++ f ∷ [])).files file
    stands_then n results status ended file s at =
        subst (λ (x : MdsValue). FileStandsAs s.file.layout s.holder s.seqid x.files file) (sym (one_more servers mirrors early f ∙ ap (λ (x : MdsStep). x.mds) after_is))
        (out_kept s.file.layout s.holder s.seqid file step.mds
        (subst (λ (x : MdsValue). FileStandsAs s.file.layout s.holder s.seqid x.files file) (sym ended.mds) (record { its = s; there = at; layout_is = refl; holder_is = refl; seqid_is = refl })))

    -- the slot keeps the reply behind the event
    pub keeps_then : (n : MdsValue) (results : List (Value resop4)) (status : Stat4) → HasEnded m1 n node xid (pass_of (request_of session number call)) results status step
        → length (spelling compound4_res (stat4_number status, ([], results))) ≤ 32768
        → KeepsAnswer (server_after servers mirrors (early ++ f ∷ [])) session call (reply_of_ask (ask_on_slot call) (success_reply xid (spelling compound4_res (stat4_number status, ([], results))))).answer
    keeps_then n results status ended short =
        let bytes : List ℕ = spelling compound4_res (stat4_number status, ([], results)) in
        let bound : SessionsState = after_binding (server_after servers mirrors early).sessions session node in
        let kept : SlotState = record { last = number; reply = kept_as bytes } in
        let begun : slot_of n session ≡ Some (slot_begun number) = subst (λ (s : SessionsState). first_slot (session_of s.clients session) ≡ Some (slot_begun number)) (sym ended.same.sessions) (has_begun session bound number call f.now effect) in
        let done : slot_of step.mds session ≡ Some kept = subst (λ (x : MdsValue). slot_of x session ≡ Some kept) (sym ended.mds) (has_finished session bound number call f.now n.sessions bytes begun) in
        record {
          slot = kept;
          there = subst (λ (x : MdsValue). slot_of x session ≡ Some kept) (sym (one_more servers mirrors early f ∙ ap (λ (x : MdsStep). x.mds) after_is)) (out_leaves session kept step.mds done);
          bytes = bytes;
          kept = kept_short bytes short;
          says = refl;
        }

    entered_then : (x : Entry) → IsOneOf x step.entries → IsOneOf x (after_event f (server_after servers mirrors early)).entries
    entered_then x inside = subst (λ (s : MdsStep). IsOneOf x s.entries) (sym after_is) (in_more x step.entries (calls_out [] step.mds).entries inside)

  -- ---- LAYOUTGET

  module _ (file : OpenFile) (came : IsCallFrom f node xid name (OnSlot session number (slot.LayoutGet file)))
      (effect : request_answer (after_binding (server_after servers mirrors early).sessions session node) (request_of session number (slot.LayoutGet file)) ≡ TakesEffect) (its_id : length session.0 ≡ 16)
      (small : file.file.0 < 2 ^ 64) where
    abbrev GotStep : MdsStep
    GotStep = runs f.now (slot_ops name (slot.LayoutGet file)) (taken_mds f.now (server_after servers mirrors early) node session number (slot.LayoutGet file)) (taken_compound node xid name session number (slot.LayoutGet file))

    pub get_of : GetEnds (taken_mds f.now (server_after servers mirrors early) node session number (slot.LayoutGet file)) node xid (pass_of (request_of session number (slot.LayoutGet file)))
        (sequence_result (request_of session number (slot.LayoutGet file))) file.file GotStep
    get_of =
        get_ends f.now (taken_mds f.now (server_after servers mirrors early) node session number (slot.LayoutGet file)) node xid (pass_of (request_of session number (slot.LayoutGet file))) true
        (mds_ops name (OnSlot session number (slot.LayoutGet file))) (sequence_result (request_of session number (slot.LayoutGet file))) (first_fits (slot.LayoutGet file) came effect its_id) refl file.file small file.stateid
        now_room.fresh (λ g s at. holder_holds servers mirrors early now_room.fresh g s at) (λ g s at. seqid_fits servers mirrors early g s at)

    granted_so : (n : MdsValue) (got : HasGot (taken_mds f.now (server_after servers mirrors early) node session number (slot.LayoutGet file)) n (client_in session) file.file GotStep.entries)
        → HasEnded (taken_mds f.now (server_after servers mirrors early) node session number (slot.LayoutGet file)) n node xid (pass_of (request_of session number (slot.LayoutGet file)))
        (sequence_result (request_of session number (slot.LayoutGet file)) ∷ arm 22 resop4 (inl tt) ∷ layout_of_file file.file got.its ∷ []) stat.Ok GotStep
        → (grant : LayoutGrant) → layout_get_ok (layout_of_file file.file got.its) ≡ Some grant → GrantsSo servers mirrors early f (client_in session) file.file grant
    granted_so n got ended grant is =
        let k : FileStandsAs got.its.file.layout got.its.holder got.its.seqid (server_after servers mirrors (early ++ f ∷ [])).files file.file = stands_then (slot.LayoutGet file) came effect its_id n (sequence_result (request_of session number (slot.LayoutGet file)) ∷ arm 22 resop4 (inl tt) ∷ layout_of_file file.file got.its ∷ []) stat.Ok ended file.file got.its got.there in
        let small_uid : got.its.file.layout.cred.0 < 2 ^ 32 = subst (λ (l : LayoutState). l.cred.0 < 2 ^ 32) k.layout_is (then_room.creds file.file k.its k.there) in
        let live : AllByRecursion FitsMirrorId got.its.file.layout.live = subst (λ (l : LayoutState). AllByRecursion FitsMirrorId l.live) k.layout_is (then_room.live file.file k.its k.there) in
        let short : Rattle.granted_layouts.specs.GrantedBodies.layout_length got.its.file.layout.cred.0 got.its.file.layout.live ≤ 4294967295 = let four = got.short in omega (arith, four) in
        let read : grant ≡ read_as_of file.file got.its.file.layout got.its.seqid =
        grant_read (layout_stateid_of file.file.0 got.its.file.layout.cred.0 got.its.seqid) got.its.file.layout.cred.0 got.its.file.layout.live small_uid live short grant is in
        let uid : grant.uid.0 ≡ got.its.file.layout.cred.0 = ap (λ (g : LayoutGrant). g.uid.0) read in
        record {
          file_is = k.its;
          there = k.there;
          is = read ∙ sym (ap (λ (l : LayoutState). read_as_of file.file l got.its.seqid) k.layout_is) ∙ sym (ap (read_as_of file.file k.its.file.layout) k.seqid_is);
          has = record {
            file_is = k.its;
            there = k.there;
            holder = k.holder_is ∙ got.holder;
            node = got.held.node;
            is_recalled = got.held.is_recalled;
            phase = ap (λ (l : LayoutState). l.phase) k.layout_is ∙ got.held.is;
            its_uid = ap (λ (l : LayoutState). l.cred.0) k.layout_is ∙ sym uid;
          };
          whence = subst (λ (u : ℕ). IsGrantedNow (after_event f (server_after servers mirrors early)).entries file.file u ⊎ HasPeriod (server_after servers mirrors early) file.file (client_in session) u) (sym uid) (by_whence got.whence);
        }
      where
        by_whence : IsGrantedNow GotStep.entries file.file got.its.file.layout.cred.0 ⊎ HasPeriod (taken_mds f.now (server_after servers mirrors early) node session number (slot.LayoutGet file)) file.file (client_in session) got.its.file.layout.cred.0
            → IsGrantedNow (after_event f (server_after servers mirrors early)).entries file.file got.its.file.layout.cred.0 ⊎ HasPeriod (server_after servers mirrors early) file.file (client_in session) got.its.file.layout.cred.0
        by_whence (inl now) = inl (now.0, entered_then (slot.LayoutGet file) came effect its_id _ now.1)
        by_whence (inr p) = inr (record { file_is = p.file_is; there = p.there; holder = p.holder; node = p.node; is_recalled = p.is_recalled; phase = p.phase; its_uid = p.its_uid })

    means_of : (reply : RpcReply) (n : MdsValue) (results : List (Value resop4)) (status : Stat4)
        → HasEnded (taken_mds f.now (server_after servers mirrors early) node session number (slot.LayoutGet file)) n node xid (pass_of (request_of session number (slot.LayoutGet file))) results status GotStep
        → reply ≡ success_reply xid (spelling compound4_res (stat4_number status, ([], results))) → length (spelling compound4_res (stat4_number status, ([], results))) ≤ 32768
        → KeepsAnswer (server_after servers mirrors (early ++ f ∷ [])) session (slot.LayoutGet file) (reply_of_ask ask.LayoutGet reply).answer
    means_of reply n results status ended is short =
        subst (λ (r : RpcReply). KeepsAnswer (server_after servers mirrors (early ++ f ∷ [])) session (slot.LayoutGet file) (reply_of_ask ask.LayoutGet r).answer) (sym is)
        (keeps_then (slot.LayoutGet file) came effect its_id n results status ended short)

    pub get_means : (reply : RpcReply) → IsOneOf (Replies node reply) (after_event f (server_after servers mirrors early)).sends → MeansSo servers mirrors early f session (slot.LayoutGet file) (reply_of_ask ask.LayoutGet reply).answer
    get_means reply sent = by_end get_of
      where
        by_end : GetEnds (taken_mds f.now (server_after servers mirrors early) node session number (slot.LayoutGet file)) node xid (pass_of (request_of session number (slot.LayoutGet file)))
            (sequence_result (request_of session number (slot.LayoutGet file))) file.file GotStep → MeansSo servers mirrors early f session (slot.LayoutGet file) (reply_of_ask ask.LayoutGet reply).answer
        by_end (IsRefused n results status ended some few) = (
          means_of reply n results status ended (own_reply (slot.LayoutGet file) came effect its_id n results status ended reply sent)
              (refused_short (request_of session number (slot.LayoutGet file)) (stat4_number status) results its_id few),
          subst (λ (a : MdsAnswerValue). GrantsIfGranted servers mirrors early f (client_in session) file.file a)
              (sym (ap (λ (r : RpcReply). (reply_of_ask ask.LayoutGet r).answer) (own_reply (slot.LayoutGet file) came effect its_id n results status ended reply sent) ∙ refused_says ask.LayoutGet xid (stat4_number status) results ended.fits some)) tt,
        )
        by_end (Grants n got ended) = (
          means_of reply n (sequence_result (request_of session number (slot.LayoutGet file)) ∷ arm 22 resop4 (inl tt) ∷ layout_of_file file.file got.its ∷ []) stat.Ok ended
              (own_reply (slot.LayoutGet file) came effect its_id n (sequence_result (request_of session number (slot.LayoutGet file)) ∷ arm 22 resop4 (inl tt) ∷ layout_of_file file.file got.its ∷ []) stat.Ok ended reply sent)
              (granted_short (request_of session number (slot.LayoutGet file)) file.file got.its its_id got.short),
          subst (λ (a : MdsAnswerValue). GrantsIfGranted servers mirrors early f (client_in session) file.file a)
              (sym (ap (λ (r : RpcReply). (reply_of_ask ask.LayoutGet r).answer) (own_reply (slot.LayoutGet file) came effect its_id n (sequence_result (request_of session number (slot.LayoutGet file)) ∷ arm 22 resop4 (inl tt) ∷ layout_of_file file.file got.its ∷ []) stat.Ok ended reply sent) ∙ done_says ask.LayoutGet xid (sequence_result (request_of session number (slot.LayoutGet file)) ∷ arm 22 resop4 (inl tt) ∷ layout_of_file file.file got.its ∷ []) ended.fits))
              (by_read (layout_get_ok (layout_of_file file.file got.its)) refl),
        )
          where
            by_read : (o : Option LayoutGrant) → layout_get_ok (layout_of_file file.file got.its) ≡ o → GrantsIfGranted servers mirrors early f (client_in session) file.file (answer_where Granted o)
            by_read None is = tt
            by_read (Some grant) is = granted_so n got ended grant is

  -- ---- LAYOUTRETURN

  module _ (file : FileId) (stateid : Stateid) (failed : List FailedMirror) (came : IsCallFrom f node xid name (OnSlot session number (slot.LayoutReturn file stateid failed)))
      (effect : request_answer (after_binding (server_after servers mirrors early).sessions session node) (request_of session number (slot.LayoutReturn file stateid failed)) ≡ TakesEffect) (its_id : length session.0 ≡ 16)
      (fits : FitsSlotCall (slot.LayoutReturn file stateid failed)) where
    abbrev call : SlotCallValue
    call = slot.LayoutReturn file stateid failed

    abbrev GivenMds : MdsValue
    GivenMds = taken_mds f.now (server_after servers mirrors early) node session number (slot.LayoutReturn file stateid failed)

    abbrev GivenStep : MdsStep
    GivenStep = runs f.now (slot_ops name (slot.LayoutReturn file stateid failed)) (taken_mds f.now (server_after servers mirrors early) node session number (slot.LayoutReturn file stateid failed))
        (taken_compound node xid name session number (slot.LayoutReturn file stateid failed))

    pub return_of : ReturnEnds GivenMds node xid (pass_of (request_of session number (slot.LayoutReturn file stateid failed))) (sequence_result (request_of session number (slot.LayoutReturn file stateid failed))) file stateid failed GivenStep
    return_of =
        return_ends f.now GivenMds node xid (pass_of (request_of session number call)) true (mds_ops name (OnSlot session number call)) (sequence_result (request_of session number call))
        (first_fits call came effect its_id) refl file fits.0 stateid failed fits.1.1 (λ g s at. holder_holds servers mirrors early now_room.fresh g s at)
        (λ g s at held. (uid_was_drawn servers mirrors early g s at held, now_room.creds g s at))

    -- the input of the table of phases
    pub step_of : (g : HasGiven GivenMds (client_in session) file stateid)
        → given_step GivenMds file g.its (errors_for stateid failed) ≡ file_stepped GivenMds file g.its (returned_step GivenMds file g.its (report_of (errors_for stateid failed) g.its.file.layout.live))
    step_of g = returned_is GivenMds file g.its g.held.node g.held.is_recalled (report_of (errors_for stateid failed) g.its.file.layout.live) g.there g.held.is now_room.fresh

    -- a mirror of the file is reported where the report names its server
    pub same_report : (g : HasGiven GivenMds (client_in session) file stateid) (x : Mirror) → IsOneOf x g.its.file.layout.live → is_reported (errors_for stateid failed) x.id.server ≡ reports_server failed x.id.server
    same_report g x inside = reports_same stateid failed x.id.server fits.1.0 (of_all g.its.file.layout.live (now_room.live file g.its g.there) inside)
      where
        of_all : (live : List Mirror) → AllByRecursion FitsMirrorId live → IsOneOf x live → x.id.server < 2 ^ 64
        of_all [] all its = absurd its
        of_all (y ∷ live) all (inl same) = subst (λ (z : Mirror). z.id.server < 2 ^ 64) (sym same) all.0.0
        of_all (y ∷ live) all (inr its) = of_all live all.1 its

    returned_so : (g : HasGiven GivenMds (client_in session) file stateid) → GivenStep.entries ≡ (given_step GivenMds file g.its (errors_for stateid failed)).entries ++ []
        → ReturnsSo servers mirrors early f (client_in session) file stateid failed
    returned_so g entries =
        let live : List Mirror = unreported (report_of (errors_for stateid failed) g.its.file.layout.live) g.its.file.layout.live in
        record {
          uid = g.its.file.layout.cred.0;
          names = g.names;
          had = record { file_is = g.its; there = g.there; holder = g.holder; node = g.held.node; is_recalled = g.held.is_recalled; phase = g.held.is; its_uid = refl };
          cause = end_cause AsReturned live;
          ended = entered_then call came effect its_id (entry.Ended file g.its.file.layout.cred (end_cause AsReturned live))
              (subst (λ (l : List Entry). IsOneOf (entry.Ended file g.its.file.layout.cred (end_cause AsReturned live)) l) (sym (entries ∙ append-nil (given_step GivenMds file g.its (errors_for stateid failed)).entries ∙ ap (λ (s : MdsStep). s.entries) (step_of g)))
              (ends_as file g.its.file.layout.cred (left_entries file (map reported_cause (report_of (errors_for stateid failed) g.its.file.layout.live)) g.its.file.layout.live) live));
          clean = λ x inside off. ends_returned live x (unreported_has (errors_for stateid failed) g.its.file.layout.live x inside (same_report g x inside ∙ off));
        }

    pub return_means : (reply : RpcReply) → IsOneOf (Replies node reply) (after_event f (server_after servers mirrors early)).sends → MeansSo servers mirrors early f session call (reply_of_ask ask.LayoutReturn reply).answer
    return_means reply sent = by_end return_of
      where
        by_end : ReturnEnds GivenMds node xid (pass_of (request_of session number call)) (sequence_result (request_of session number call)) file stateid failed GivenStep
            → MeansSo servers mirrors early f session call (reply_of_ask ask.LayoutReturn reply).answer
        by_end (giving.IsRefused n results status ended some none entries) =
            subst (λ (a : MdsAnswerValue). MeansSo servers mirrors early f session call a)
            (sym (ap (λ (r : RpcReply). (reply_of_ask ask.LayoutReturn r).answer) (own_reply call came effect its_id n results status ended reply sent) ∙ refused_says ask.LayoutReturn xid (stat4_number status) results ended.fits some))
            (λ number uid own p. none number uid own (record { file_is = p.file_is; there = p.there; holder = p.holder; node = p.node; is_recalled = p.is_recalled; phase = p.phase; its_uid = p.its_uid }))
        by_end (Accepts given ended entries) =
            subst (λ (a : MdsAnswerValue). MeansSo servers mirrors early f session call a)
            (sym (ap (λ (r : RpcReply). (reply_of_ask ask.LayoutReturn r).answer) (own_reply call came effect its_id (given_step GivenMds file given.its (errors_for stateid failed)).mds (sequence_result (request_of session number (slot.LayoutReturn file stateid failed)) ∷ arm 22 resop4 (inl tt) ∷ no_stateid ∷ []) stat.Ok ended reply sent) ∙ done_says ask.LayoutReturn xid (sequence_result (request_of session number (slot.LayoutReturn file stateid failed)) ∷ arm 22 resop4 (inl tt) ∷ no_stateid ∷ []) ended.fits)) (returned_so given entries)

  -- ---- any call

  pub effect_means : (call : SlotCallValue) → IsCallFrom f node xid name (OnSlot session number call)
      → request_answer (after_binding (server_after servers mirrors early).sessions session node) (request_of session number call) ≡ TakesEffect → FitsRequest (OnSlot session number call)
      → (reply : RpcReply) → IsOneOf (Replies node reply) (after_event f (server_after servers mirrors early)).sends → MeansSo servers mirrors early f session call (reply_of_ask (ask_on_slot call) reply).answer
  effect_means (slot.LayoutGet file) came effect fits reply sent = get_means file came effect fits.0 fits.1 reply sent
  effect_means (slot.LayoutReturn file stateid failed) came effect fits reply sent = return_means file stateid failed came effect fits.0 fits.1 reply sent
  effect_means other came effect fits reply sent = tt
