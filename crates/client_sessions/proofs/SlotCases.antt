-- Who a client says that it is, and the slot of its session, in each case of what an event can do.
use Rattle.std.proofs.Common.{◌≡◌, ℕ, true, false, inl, List, [], ◌∷◌, ◌++◌, length, Option, Some, None, refl, sym, ap, subst, ◌∙◌}
use Rattle.std.specs.Prelude.{◌==◌}
use Rattle.std.proofs.lemmas.Bool.{eqb-true}
use Rattle.rpc_record.specs.Replies.{RpcReply}
use Rattle.nfs4_session.specs.CallbackSlot.{CbSlotState}
use Rattle.cluster_model.specs.declared.ids.NodeId.TheVariants.{Mds, Server, Client as AClient}
use Rattle.cluster_model.specs.declared.entry.Entry.TheVariants.{Sent, Rogue, Told, TimedOut, Answer}
use Rattle.cluster_model.specs.DsCalls as ds
use Rattle.mirror_writer.specs.Writers.{WriterAfter, commit_wanted, with_write}
use Rattle.client_file_calls.specs.declared.open.OpenFile.{OpenFile}
use Rattle.client_mds_calls.specs.declared.ask.MdsAsk.{MdsAsk}
use Rattle.client_mds_calls.specs.declared.ask.MdsAsk.TheVariants as ask
use Rattle.client_mds_calls.specs.MdsCalls.{MdsCallValue, ExchangeId, CreateSession, OnSlot, takes_slot}
use Rattle.client_mds_calls.specs.MdsCompounds.{mds_call_bytes}
use Rattle.client_mds_calls.specs.MdsReplies.{Client, Session, Complete, Opened, Granted, Devices, Returned, Refused}
use Rattle.client_state.specs.declared.stage.LayoutStage.{LayoutStage}
use Rattle.client_state.specs.declared.stage.LayoutStage.TheVariants.{Writing, Ending, Deferred, Returning}
use Rattle.client_state.specs.declared.layout.Layout.{Layout}
use Rattle.client_state.specs.declared.asked.Asked.{Asked}
use Rattle.client_state.specs.declared.tie.OwnSession.{OwnSession}
use Rattle.client_state.specs.declared.tie.Tie.{Tie}
use Rattle.client_state.specs.declared.tie.Tie.TheVariants.{NoClient, HasClient, HasSession}
use Rattle.client_state.specs.ClientStates.{ClientValue}
use Rattle.client_state.specs.ClientQueue.{with_writer, ends_layout, ending}
use Rattle.client_state.specs.ClientSends.{CallsServer, CallsMds, RepeatsToServer, RepeatsToMds, RepliesToMds}
use Rattle.client_calls.specs.ClientCalls.{returning, layout_asked, asked_by}
use Rattle.client_answers.specs.ClientMirrors.{with_failed, has_writer}
use Rattle.client_answers.specs.ClientAnswers.{moved_tie, fresh_session, completed_tie, new_layout, deferred}
use Rattle.mirror_client.specs.ClientRule.{layout_at_tick}
use Rattle.client_laws.specs.ClientHistory.{ClientInput, Requested, Recorded, LeftProtocol, HistoryItem, Hears, Enters, Sends, entered}
use Rattle.client_laws.proofs.Stands.{IfThere}
use Rattle.client_records.proofs.Cases.{Adds, IsAnswered, said, IsTieBehind, free, heard_mds, heard_late, IsLayoutBehind, ComesTo, comes_layout, IsDue, Cases}
use Rattle.client_records.proofs.Told.{any_tells, any_covers}
use Rattle.client_records.proofs.EachRun.{Base}
use Rattle.client_sessions.specs.ClientSessions.{IsAskedAs, SaysWho, KeepsSlot}
use Rattle.client_sessions.proofs.CallsMade.{IsBy, IsOnSession, IsMade, KindStands}
use Rattle.client_sessions.proofs.AnswerKinds.{refused_apart, answer_to, uncached_slot, IsAnswerTo}
use Rattle.client_sessions.proofs.SlotStands.{AskedOut, file_of, asked_now, TieStands, stands_on, client_stands, session_stands, tie_stands, uncached_stands}
use Rattle.client_sessions.proofs.Slots.{AskStands, AgainStands, SlotsOf, Slots, KeepsMirrors, slots_later, same_layout, later, there_layout, with_layout_of, out_of, no_again, kind_of, same_out, made, freed, by_answer, complete_stands, learned, served_stands, idle_stands, refused_stands, kind_so}

-- ---- the layout

pub ending_mirrors : (l : Layout) → (ending l).mirrors ≡ l.mirrors
ending_mirrors l = by_stage l.stage
  where
    by_stage : (stage : LayoutStage) → (ends_layout l stage).mirrors ≡ l.mirrors
    by_stage Writing = refl
    by_stage Ending = refl
    by_stage Deferred = refl
    by_stage Returning = refl

ticked_mirrors : (layout : Option Layout) → KeepsMirrors layout (layout_at_tick layout)
ticked_mirrors None = tt
ticked_mirrors (Some l) = refl

asked_mirrors : (kind : MdsAsk) (layout : Option Layout) → KeepsMirrors layout (layout_asked kind layout)
asked_mirrors ask.LayoutReturn None = tt
asked_mirrors ask.LayoutReturn (Some l) = refl
asked_mirrors ask.ExchangeId None = tt
asked_mirrors ask.ExchangeId (Some l) = refl
asked_mirrors ask.CreateSession None = tt
asked_mirrors ask.CreateSession (Some l) = refl
asked_mirrors ask.ReclaimComplete None = tt
asked_mirrors ask.ReclaimComplete (Some l) = refl
asked_mirrors ask.Open None = tt
asked_mirrors ask.Open (Some l) = refl
asked_mirrors ask.LayoutGet None = tt
asked_mirrors ask.LayoutGet (Some l) = refl
asked_mirrors (ask.DeviceInfo count) None = tt
asked_mirrors (ask.DeviceInfo count) (Some l) = refl
asked_mirrors ask.Write None = tt
asked_mirrors ask.Write (Some l) = refl
asked_mirrors (ask.Read at count) None = tt
asked_mirrors (ask.Read at count) (Some l) = refl
asked_mirrors ask.Renew None = tt
asked_mirrors ask.Renew (Some l) = refl

-- ---- a callback

pub by_callback : (tie : Tie) (s : OwnSession) (slot : CbSlotState) → tie ≡ HasSession s → (call : MdsCallValue) → IsBy tie call → IsBy (HasSession (record s { callbacks = slot })) call
by_callback tie s slot is (ExchangeId verifier) by = absurd (cc (by, is))
by_callback tie s slot is (CreateSession clientid sequence) by = absurd (cc (by, is))
by_callback tie s slot is (OnSlot session sequence call) by = subst (λ (t : Tie). IsOnSession t session sequence) is by

module _ (number verifier : ℕ) where
  called_back : (past : List HistoryItem) (c : ClientValue) (s : OwnSession) (slot : CbSlotState) → c.tie ≡ HasSession s → Slots number verifier past c → SlotsOf number verifier past c.name c.verifier (HasSession (record s { callbacks = slot })) c.file c.layout c.devices c.asked c.again
  called_back past c s slot is i = record {
    name_is = i.name_is;
    own_is = i.own_is;
    stands = of_ask c.asked i.stands;
    asked_kind = i.asked_kind;
    again_kind = i.again_kind;
    alone = i.alone;
  }
    where
      of_ask : (o : Option Asked) → AskStands past c.name c.tie c.file o → AskStands past c.name (HasSession (record s { callbacks = slot })) c.file o
      of_ask None stands = subst (TieStands past) is stands
      of_ask (Some a) out = record {
        call = out.call;
        before = out.before;
        until = out.until;
        split = out.split;
        quiet = out.quiet;
        kind_is = out.kind_is;
        by = by_callback c.tie s slot is out.call out.by;
        its_file = out.its_file;
      }

  -- ---- what is said

  told_so : (past : List HistoryItem) (c : ClientValue) (file : OpenFile) (cred at : ℕ) (bytes : List ℕ) → Slots number verifier past c
      → Adds (Slots number verifier) (λ past item. SaysWho number verifier past item × KeepsSlot past item) past (Enters (Told file.file (record { 0 = cred }) at bytes)) c
  told_so past c file cred at bytes i = ((tt, tt), later number verifier past c i (Enters (Told file.file (record { 0 = cred }) at bytes)) tt)

  asks_so : (past : List HistoryItem) (c : ClientValue) (kind : MdsAsk) (call : MdsCallValue) → c.asked ≡ None → IsMade c kind call → KindStands c.file c.layout c.devices kind → Slots number verifier past c
      → Adds (Slots number verifier) (λ past item. SaysWho number verifier past item × KeepsSlot past item) past (Sends (CallsMds c.next_xid c.name call)) (asked_by c kind (mds_call_bytes c.next_xid c.name call))
  asks_so past c kind call none m stands i = (
    ((i.name_is, who call m.who), stands_on past c.tie call m.by (subst (AskStands past c.name c.tie c.file) none i.stands)),
    record {
      name_is = i.name_is;
      own_is = i.own_is;
      stands = asked_now past c.name c.tie c.file c.next_xid kind call m.kind_is m.by (file_of c.file c.layout call m.its);
      asked_kind = kind_so c.file c.devices c.layout (layout_asked kind c.layout) (asked_mirrors kind c.layout) kind stands;
      again_kind = tt;
      alone = refl;
    },
  )
    where
      who : (call : MdsCallValue) → IsAskedAs c.verifier call → IsAskedAs verifier call
      who (ExchangeId own) is = is ∙ i.own_is
      who (CreateSession clientid sequence) is = tt
      who (OnSlot session sequence call) is = tt

  came : (past : List HistoryItem) (c : ClientValue) (file : OpenFile) (l : Layout) (after : WriterAfter) → ComesTo Base (λ (input : ClientInput). Unit {0}) (Slots number verifier) past c file l after → Slots number verifier past c
      → (new : Layout) → new.mirrors ≡ l.mirrors → KeepsMirrors c.layout (Some new)
  came past c file l after comes i new same = there_layout number verifier past c i l new (comes_layout Base (λ (input : ClientInput). Unit {0}) (Slots number verifier) past c file l after comes) same

  gone_stands : (h : List HistoryItem) (c : ClientValue) (a : Asked) (bytes : List ℕ) (now : ℕ) (reply : RpcReply) → IsAnswered Base (λ (input : ClientInput). Unit {0}) h c a bytes now reply → Slots number verifier h c → (tie : Tie)
      → IsTieBehind now (said a reply).slot c.tie tie → (status : ℕ) → (said a reply).answer ≡ Refused status → (status == 10025) ≡ true → a.ask ≡ ask.LayoutReturn → TieStands (heard_mds h bytes now) tie
  gone_stands h c a bytes now reply s i tie behind status is bad kind =
      tie_stands h c.name c.tie c.file a.xid a.ask (out_of number verifier h c i a s.out) bytes now reply s.reply_is s.number tie behind (λ lost. refused_apart 10025 10052 refl (sym (is ∙ ap Refused (eqb-true status 10025 bad)) ∙ lost)) (inl (ap takes_slot kind))

  pub slot_cases : Cases Base (λ (input : ClientInput). Unit {0}) (Slots number verifier) (λ past item. SaysWho number verifier past item × KeepsSlot past item)
  slot_cases = record {
    heard = λ past input. (tt, tt);
    hears = λ h c input stays q i. later number verifier h c i (Hears input) tt;
    requests = λ h c request q i. later number verifier h c i (Hears (Requested request)) tt;
    leaves = λ h c i. later number verifier h c i (Hears LeftProtocol) tt;
    ticks = λ past c i. with_layout_of number verifier past c i (layout_at_tick c.layout) (ticked_mirrors c.layout);
    answers = λ past c a answers told i. ((tt, tt), later number verifier past c i (Enters (Answer c.number a)) tt);
    done = λ past c request rest at may i. i;
    takes = λ past c file l at bytes rest taking i. (
      (tt, tt),
      slots_later number verifier past c i (Enters (Sent file.file (record { 0 = l.writer.cred }) at bytes) ∷ []) (Some (record l { writer = with_write l.writer at bytes; untold = l.untold ++ length l.writer.taken ∷ [] })) (tt, tt)
          (there_layout number verifier past c i l (record l { writer = with_write l.writer at bytes; untold = l.untold ++ length l.writer.taken ∷ [] }) taking.layout refl),
    );
    ends = λ past c l at i. with_layout_of number verifier past c i (Some (ending l)) (there_layout number verifier past c i l (ending l) at (ending_mirrors l));
    commits = λ past c l at i. with_layout_of number verifier past c i (Some (with_writer l (commit_wanted l.writer))) (there_layout number verifier past c i l (with_writer l (commit_wanted l.writer)) at refl);
    calls = λ past c l s at some is i. (
      (tt, tt),
      slots_later number verifier past c i (Sends (CallsServer s.id.server c.next_xid c.name l.writer.cred s.call) ∷ []) (Some (record l { writer = s.writer })) (tt, tt) (there_layout number verifier past c i l (record l { writer = s.writer }) at refl),
    );
    asks = λ past c kind call none some due is i.
        (let m = made number verifier past c i kind call due is in asks_so past c kind call none m.0 m.1 i);
    client = λ h c a bytes now reply tie s behind i clientid sequence is.
        freed number verifier h c a bytes now reply s i (HasClient clientid sequence) c.file c.layout c.devices
        (client_stands h c.name c.tie c.file a.xid a.ask (out_of number verifier h c i a s.out) bytes now reply s.reply_is s.number clientid sequence (subst (IsAnswerTo a.ask) is (answer_to a.ask reply)) is);
    session = λ h c a bytes now reply tie s behind i session is.
        freed number verifier h c a bytes now reply s i (HasSession (fresh_session session)) c.file c.layout c.devices
        (session_stands h c.name c.tie c.file a.xid a.ask (out_of number verifier h c i a s.out) bytes now reply s.reply_is s.number session (subst (IsAnswerTo a.ask) is (answer_to a.ask reply)) is);
    complete = λ h c a bytes now reply tie s behind i is.
        freed number verifier h c a bytes now reply s i (completed_tie tie) c.file c.layout c.devices
        (complete_stands number verifier h c a bytes now reply s i tie (by_answer number verifier h c a bytes now reply s i tie behind Complete is (λ takes. takes) (λ e. absurd cc)));
    opened = λ h c a bytes now reply tie s behind i file is.
        freed number verifier h c a bytes now reply s i tie (Some file) c.layout c.devices (by_answer number verifier h c a bytes now reply s i tie behind (Opened file) is (λ kind. ap takes_slot kind) (λ e. absurd cc));
    granted = λ h c a bytes now reply tie s behind i grant is.
        freed number verifier h c a bytes now reply s i tie c.file (Some (new_layout grant)) c.devices (by_answer number verifier h c a bytes now reply s i tie behind (Granted grant) is (λ takes. takes) (λ e. absurd cc));
    learns = λ h c a bytes now reply tie s behind i addresses is.
        learned number verifier h c a bytes now reply s i tie (by_answer number verifier h c a bytes now reply s i tie behind (Devices addresses) is (λ takes. takes) (λ e. absurd cc)) addresses c.layout refl;
    served = λ h c a bytes now reply tie s behind i is. freed number verifier h c a bytes now reply s i tie c.file c.layout c.devices (served_stands number verifier h c a bytes now reply s i tie behind _ refl is);
    idle = λ h c a bytes now reply tie s behind i is. freed number verifier h c a bytes now reply s i tie c.file c.layout c.devices (idle_stands number verifier h c a bytes now reply s i tie behind _ refl is);
    returned = λ h c a bytes now reply tie s behind i file l is there at.
        any_tells (Slots number verifier) (λ past item. SaysWho number verifier past item × KeepsSlot past item) told_so (heard_mds h bytes now) file l.writer l.untold (record (free tie c) { layout = None })
        (freed number verifier h c a bytes now reply s i tie c.file None c.devices (by_answer number verifier h c a bytes now reply s i tie behind Returned is (λ takes. takes) (λ e. absurd cc)));
    refused = λ h c a bytes now reply tie s behind i status queue waits layout is shorter kept.
        freed number verifier h c a bytes now reply s i tie c.file layout c.devices (refused_stands number verifier h c a bytes now reply s i tie behind status is);
    gone = λ h c a bytes now reply tie s behind i status is bad kind.
        freed number verifier h c a bytes now reply s i tie c.file None c.devices (gone_stands h c a bytes now reply s i tie behind status is bad kind);
    starts_over = λ h c a bytes now reply tie s behind i queue over shorter. record { name_is = i.name_is; own_is = i.own_is; stands = tt; asked_kind = tt; again_kind = tt; alone = tt };
    again = λ h c a bytes now reply s at i. record {
      name_is = i.name_is;
      own_is = i.own_is;
      stands = uncached_stands h c.name c.tie c.file a.xid a.ask (out_of number verifier h c i a s.out) bytes now reply s.reply_is s.number at (uncached_slot a.ask reply at);
      asked_kind = tt;
      again_kind = (kind_of number verifier h c i a s.out, uncached_slot a.ask reply at);
      alone = tt;
    };
    delays = λ h c a bytes now reply s at i. same_out number verifier (heard_mds h bytes now) c (later number verifier h c i (Hears (Recorded Mds bytes now)) tt) a (record a { is_late = true }) s.out refl refl;
    wakes = λ past c a at i. same_out number verifier past c i a (record a { is_late = false }) at refl refl;
    repeats_mds = λ past c a at i. ((tt, tt), later number verifier past c i (Sends (RepeatsToMds a.xid a.message)) tt);
    timed = λ past c xid i. ((tt, tt), later number verifier past c i (Enters (TimedOut (AClient c.number) xid)) tt);
    moves = λ past c file l after comes quiet i. with_layout_of number verifier past c i (Some (with_writer l after.writer)) (came past c file l after comes i (with_writer l after.writer) refl);
    covers = λ past c file l after comes quiet i.
        any_covers (Slots number verifier) (λ past item. SaysWho number verifier past item × KeepsSlot past item) told_so past file (with_writer l after.writer) (has_writer c l after)
        (λ untold told. with_layout_of number verifier past (has_writer c l after) i (Some (record (with_writer l after.writer) { untold = untold })) refl);
    fails = λ past c file l after id cause comes is some i.
        with_layout_of number verifier past c i (Some (ending (with_failed (with_writer l after.writer) id cause))) (came past c file l after comes i (ending (with_failed (with_writer l after.writer) id cause)) (ending_mirrors (with_failed (with_writer l after.writer) id cause)));
    loses = λ past c file l after id cause comes is i.
        with_layout_of number verifier past c i (Some (record (ending (with_failed (with_writer l after.writer) id cause)) { untold = [] }))
        (came past c file l after comes i (record (ending (with_failed (with_writer l after.writer) id cause)) { untold = [] }) (ending_mirrors (with_failed (with_writer l after.writer) id cause)));
    fenced = λ past c file l after id status comes is i. with_layout_of number verifier past c i None tt;
    repeats_server = λ h c file l server out late entries d j. ((tt, tt), later number verifier (heard_late h server ++ entered entries) d j (Sends (RepeatsToServer server out.xid c.name l.writer.cred out.call)) tt);
    callbacks = λ past c s slot at i. called_back past c s slot at i;
    replies = λ past d bytes now reply q call i. ((tt, tt), later number verifier past d i (Sends (RepliesToMds reply)) tt);
    strays = λ past c file l place at bytes m q straying i. (
      (tt, tt),
      (
        (tt, tt),
        later number verifier (past ++ Enters (Rogue file.file (record { 0 = l.writer.cred }) at bytes) ∷ []) c (later number verifier past c i (Enters (Rogue file.file (record { 0 = l.writer.cred }) at bytes)) tt)
            (Sends (CallsServer m.id.server c.next_xid c.name l.writer.cred (ds.Write m.id.fileid at false bytes))) tt,
      ),
    );
  }
