-- What keeps the layout that a client holds, step by step.
use Rattle.std.proofs.Common.{◌≡◌, ℕ, Bool, true, false, List, [], ◌∷◌, ◌++◌, length, Option, Some, None, refl, sym, ap, subst, ◌∙◌, inl, inr, ◌⊎◌}
use Rattle.std.specs.Prelude.{◌==◌}
use Rattle.std.specs.List.{AllByRecursion}
use Rattle.std.proofs.lemmas.Bool.{eqb-true}
use Rattle.std.proofs.lemmas.List.{append-nil}
use Rattle.std.proofs.lemmas.Option.{none-some}
use Rattle.rpc_record.specs.Replies.{RpcReply}
use Rattle.nfs4_types.specs.declared.ids.SessionId.{SessionId}
use Rattle.nfs4_types.specs.declared.stateid.Stateid.{Stateid}
use Rattle.nfs4_session.specs.CallbackSlot.{CbSlotState}
use Rattle.device_addr.specs.declared.net_addr.NetAddr.{NetAddr}
use Rattle.cluster_model.specs.declared.ids.NodeId.TheVariants.{Mds, Server, Client as AClient}
use Rattle.cluster_model.specs.declared.ids.FileId.{FileId}
use Rattle.cluster_model.specs.declared.entry.Entry.{Entry}
use Rattle.cluster_model.specs.declared.entry.Entry.TheVariants.{Sent, Rogue, Told, TimedOut, Answer}
use Rattle.cluster_model.specs.DsCalls as ds
use Rattle.mirror_writer.specs.Writers.{WriterValue, WriterAfter, commit_wanted, with_write}
use Rattle.client_file_calls.specs.declared.open.OpenFile.{OpenFile}
use Rattle.client_file_calls.specs.declared.grant.LayoutGrant.{LayoutGrant}
use Rattle.client_mds_calls.specs.declared.ask.MdsAsk.{MdsAsk}
use Rattle.client_mds_calls.specs.declared.ask.MdsAsk.TheVariants as ask
use Rattle.client_mds_calls.specs.declared.reply.SlotReport.{SlotReport}
use Rattle.client_mds_calls.specs.declared.reply.SlotReport.TheVariants.{Taken, Uncached, Delayed, Unknown}
use Rattle.client_mds_calls.specs.MdsCalls.{MdsCallValue, ExchangeId, CreateSession, OnSlot, SlotCallValue, ask_on_slot, ask_of, takes_slot}
use Rattle.client_mds_calls.specs.MdsCalls as slot
use Rattle.client_mds_calls.specs.MdsCompounds.{mds_call_bytes}
use Rattle.client_mds_calls.specs.MdsReplies.{MdsAnswerValue, Client, Session, Complete, Opened, Granted, Devices, Written, Bytes, Returned, Renewed, Refused}
use Rattle.client_state.specs.declared.layout.Layout.{Layout}
use Rattle.client_state.specs.declared.asked.Asked.{Asked}
use Rattle.client_state.specs.declared.tie.OwnSession.{OwnSession}
use Rattle.client_state.specs.declared.tie.Tie.{Tie}
use Rattle.client_state.specs.declared.tie.Tie.TheVariants.{NoClient, HasClient, HasSession}
use Rattle.client_state.specs.ClientStates.{ClientValue}
use Rattle.client_state.specs.ClientQueue.{with_writer, ending, unknown_servers}
use Rattle.client_state.specs.ClientSends.{CallsServer, CallsMds, RepeatsToServer, RepeatsToMds, RepliesToMds}
use Rattle.client_answers.specs.ClientMirrors.{with_failed, has_writer}
use Rattle.client_answers.specs.ClientAnswers.{moved_tie, fresh_session, completed_tie, new_layout, with_addresses, learns_devices, has_session, deferred}
use Rattle.mirror_client.specs.ClientRule.{layout_at_tick}
use Rattle.client_laws.specs.ClientHistory.{ClientInput, Requested, Recorded, LeftProtocol, HistoryItem, Hears, Enters, Sends, entered}
use Rattle.client_laws.proofs.GrantFacts.{granted_kind, returned_kind}
use Rattle.client_laws.proofs.Stands.{WriterStands, IfThere}
use Rattle.client_laws.proofs.WriterMoves.{write_taken, writer_later, send_moves}
use Rattle.client_records.proofs.Cases.{Adds, IsAnswered, said, IsTieBehind, free, heard_mds, heard_late, IsServed, IsIdle, StartsOver, IsRefused, IsLayoutBehind, Cases}
use Rattle.client_records.proofs.Told.{any_tells, any_covers}
use Rattle.client_records.proofs.EachRun.{Base}
use Rattle.client_sessions.specs.HeardReplies.{IsNoCompound}
use Rattle.client_sessions.specs.LayoutEnds.{AsksForOne, ReturnsOwn, HasGrant, HasNotLeft}
use Rattle.client_sessions.specs.EnteredFiles.{EntersForFile}
use Rattle.client_sessions.proofs.AnswerKinds.{granted_taken, refused_apart, IsAnswerTo, answer_to}
use Rattle.client_sessions.proofs.CallsMade.{KindStands, IsBy}
use Rattle.client_sessions.proofs.SlotStands.{AskedOut}
use Rattle.client_sessions.proofs.Slots.{Slots, KeepsMirrors, made, out_of, kind_of, freed, by_answer, with_layout_of}
use Rattle.client_sessions.proofs.SlotCases.{by_callback, slot_cases}
use Rattle.client_sessions.proofs.Settling.{ended_session, ended_return}
use Rattle.client_sessions.proofs.WritersSince.{HasWriter, other_layout, came_layout, fenced_layout}
use Rattle.client_sessions.proofs.LayoutAsks.{asks_one, returns_own, layouts_asked}
use Rattle.client_sessions.proofs.LayoutAnswers.{KeepsHold, answered, ended, granted}
use Rattle.client_sessions.proofs.LayoutsHeld.{any_server, IsHere, AskedSince, LayoutOf, LayoutsOf, Layouts, settles_later, some_later, KeepsLayout, keeps_itself, ending_keeps, KeepsSome, layouts_later, same_some, there_some, later, relayout, its_layout, has_grant, stays_item}

-- ---- what is said

abbrev pub HeldEntry : List HistoryItem → Entry → Type 0
HeldEntry past (Sent file uid at bytes) = HasGrant past uid.0 × AllByRecursion HasNotLeft past
HeldEntry past (Rogue file uid at bytes) = HasGrant past uid.0
HeldEntry past entry = Unit {0}

-- a write is taken and strays, and a data server is called, under a layout that was granted, and none is taken once the client left the protocol
abbrev pub EntersHeld : List HistoryItem → HistoryItem → Type 0
EntersHeld past (Enters entry) = HeldEntry past entry
EntersHeld past (Sends (CallsServer server xid name uid call)) = HasGrant past uid
EntersHeld past item = Unit {0}

abbrev pub SaysHeld : List HistoryItem → HistoryItem → Type 0
SaysHeld past item = AsksForOne past item × ReturnsOwn past item × EntersHeld past item × EntersForFile past item

abbrev pub Holds : ℕ → ℕ → List HistoryItem → ClientValue → Type 0
Holds number verifier past c = Slots number verifier past c × Layouts past c

-- ---- the layout

pub ticked_some : (name : List ℕ) (layout : Option Layout) → KeepsSome name layout (layout_at_tick layout)
ticked_some name None = tt
ticked_some name (Some l) = record { stateid = refl; cred = refl; ids = refl; stands = λ h s. s }

pub behind_some : (name : List ℕ) (kind : MdsAsk) (old new : Option Layout) → IsLayoutBehind kind old new → KeepsSome name old new
behind_some name kind old new (inl same) = subst (KeepsSome name old) (sym same) (itself old)
  where
    itself : (layout : Option Layout) → KeepsSome name layout layout
    itself None = tt
    itself (Some l) = keeps_itself name l
behind_some name kind old new (inr (back, same)) = subst (KeepsSome name old) (sym same) (put_off old)
  where
    put_off : (layout : Option Layout) → KeepsSome name layout (deferred layout)
    put_off None = tt
    put_off (Some l) = record { stateid = refl; cred = refl; ids = refl; stands = λ h s. s }

-- ---- the tie

pub behind_here : (now : ℕ) (slot : SlotReport) (old new : Tie) → IsTieBehind now slot old new → (session : SessionId) → IsHere old session → IsHere new session
behind_here now Taken old new is session here = subst (λ (t : Tie). IsHere t session) (sym is) (by_tie old here)
  where
    by_tie : (old : Tie) → IsHere old session → IsHere (moved_tie now old) session
    by_tie NoClient here = here
    by_tie (HasClient clientid sequence) here = here
    by_tie (HasSession s) here = here
behind_here now Unknown old new is session here = subst (λ (t : Tie). IsHere t session) (sym is) here
behind_here now Uncached old new is session here = absurd is
behind_here now Delayed old new is session here = absurd is

pub moved_here : (now : ℕ) (old : Tie) (session : SessionId) → IsHere old session → IsHere (moved_tie now old) session
moved_here now NoClient session here = here
moved_here now (HasClient clientid sequence) session here = here
moved_here now (HasSession s) session here = here

pub completed_here : (tie : Tie) (session : SessionId) → IsHere tie session → IsHere (completed_tie tie) session
completed_here NoClient session here = here
completed_here (HasClient clientid sequence) session here = here
completed_here (HasSession s) session here = here

-- the reply is final
pub behind_final : (now : ℕ) (slot : SlotReport) (old new : Tie) → IsTieBehind now slot old new → slot ≡ Delayed → ⊥
behind_final now slot old new is late = subst (λ (r : SlotReport). IsTieBehind now r old new) late is

-- a session is there where a layout is held
pub has_here : (tie : Tie) (session : SessionId) → IsHere tie session → has_session tie ≡ true
has_here NoClient session here = absurd here
has_here (HasClient clientid sequence) session here = absurd here
has_here (HasSession s) session here = refl

-- ---- a compound that is out

-- the same record, late or not
same_asked : (past : List HistoryItem) (held : ℕ) (name : List ℕ) (tie : Tie) (file : Option OpenFile) (a : Asked) (late : Bool) (stateid : Stateid) (writer : WriterValue)
    → LayoutOf past held name tie file (Some a) stateid writer → LayoutOf past held name tie file (Some (record a { is_late = late })) stateid writer
same_asked past held name tie file a late stateid writer o = record {
  session = o.session;
  sequence = o.sequence;
  other = o.other;
  says = o.says;
  behind = o.behind;
  heard = o.heard;
  quiet = o.quiet;
  final = o.final;
  grant = o.grant;
  is = o.is;
  stateid_is = o.stateid_is;
  uid_is = o.uid_is;
  ids_are = o.ids_are;
  file_is = o.file_is;
  on = o.on;
  stands = o.stands;
  since = o.since;
}

pub same_out : (past : List HistoryItem) (c : ClientValue) (a : Asked) (late : Bool) → c.asked ≡ Some a → Layouts past c → LayoutsOf past c.name c.tie c.file c.layout (Some (record a { is_late = late })) c.has_left
same_out past c a late at i =
    let k : LayoutsOf past c.name c.tie c.file c.layout (Some a) c.has_left = subst (λ (o : Option Asked). LayoutsOf past c.name c.tie c.file c.layout o c.has_left) at i in
    record { held = k.held; layout_of = of_layout k.held c.layout k.layout_of; settles = k.settles; left = k.left }
  where
    of_layout : (held : ℕ) (layout : Option Layout) → IfThere layout (λ l. LayoutOf past held c.name c.tie c.file (Some a) l.stateid l.writer) → IfThere layout (λ l. LayoutOf past held c.name c.tie c.file (Some (record a { is_late = late })) l.stateid l.writer)
    of_layout held None o = tt
    of_layout held (Some l) o = same_asked past held c.name c.tie c.file a late l.stateid l.writer o

-- a callback
pub called_back : (past : List HistoryItem) (c : ClientValue) (s : OwnSession) (slot : CbSlotState) → c.tie ≡ HasSession s → Layouts past c → LayoutsOf past c.name (HasSession (record s { callbacks = slot })) c.file c.layout c.asked c.has_left
called_back past c s slot is i = record { held = i.held; layout_of = of_layout c.layout i.layout_of; settles = i.settles; left = i.left }
  where
    since_so : (behind : List HistoryItem) (id : FileId) (stateid : Stateid) (asked : Option Asked) → IfThere asked (λ a. AskedSince behind c.name c.tie c.file id stateid a.xid a.ask)
        → IfThere asked (λ a. AskedSince behind c.name (HasSession (record s { callbacks = slot })) c.file id stateid a.xid a.ask)
    since_so behind id stateid None k = tt
    since_so behind id stateid (Some a) k = record {
      out = record {
        call = k.out.call;
        before = k.out.before;
        until = k.out.until;
        split = k.out.split;
        quiet = k.out.quiet;
        kind_is = k.out.kind_is;
        by = by_callback c.tie s slot is k.out.call k.out.by;
        its_file = k.out.its_file;
      };
      returns = k.returns;
    }

    of_layout : (layout : Option Layout) → IfThere layout (λ l. LayoutOf past i.held c.name c.tie c.file c.asked l.stateid l.writer) → IfThere layout (λ l. LayoutOf past i.held c.name (HasSession (record s { callbacks = slot })) c.file c.asked l.stateid l.writer)
    of_layout None o = tt
    of_layout (Some l) o = record {
      session = o.session;
      sequence = o.sequence;
      other = o.other;
      says = o.says;
      behind = o.behind;
      heard = o.heard;
      quiet = o.quiet;
      final = o.final;
      grant = o.grant;
      is = o.is;
      stateid_is = o.stateid_is;
      uid_is = o.uid_is;
      ids_are = o.ids_are;
      file_is = o.file_is;
      on = subst (λ (t : Tie). IsHere t o.session) is o.on;
      stands = o.stands;
      since = since_so o.behind o.other.file o.grant.stateid c.asked o.since;
    }

-- ---- answers that grant nothing

abbrev pub GrantsNone : MdsAnswerValue → Type 0
GrantsNone (Granted grant) = ⊥
GrantsNone answer = Unit {0}

pub none_granted : (says : MdsAnswerValue) → GrantsNone says → (answer : MdsAnswerValue) → answer ≡ says → (g : LayoutGrant) → answer ≡ Granted g → ⊥
none_granted says none answer is g other = subst GrantsNone (sym is ∙ other) none

pub served_none : (says : MdsAnswerValue) → IsServed says → GrantsNone says
served_none Written served = tt
served_none (Bytes eof data_of) served = tt
served_none (Client clientid sequence) served = tt
served_none (Session session) served = tt
served_none Complete served = tt
served_none (Opened file) served = tt
served_none (Granted grant) served = absurd served
served_none (Devices addresses) served = tt
served_none Returned served = tt
served_none Renewed served = tt
served_none (Refused status) served = tt

pub idle_none : (says : MdsAnswerValue) → IsIdle says → GrantsNone says
idle_none Returned idle = tt
idle_none Renewed idle = tt
idle_none Written idle = tt
idle_none (Bytes eof data_of) idle = tt
idle_none (Client clientid sequence) idle = tt
idle_none (Session session) idle = tt
idle_none Complete idle = tt
idle_none (Opened file) idle = tt
idle_none (Granted grant) idle = absurd idle
idle_none (Devices addresses) idle = tt
idle_none (Refused status) idle = tt

-- ---- no layout is held while the client has no session

slot_takes : (call : SlotCallValue) → takes_slot (ask_on_slot call) ≡ true
slot_takes slot.ReclaimComplete = refl
slot_takes (slot.Open name) = refl
slot_takes (slot.LayoutGet file) = refl
slot_takes (slot.DeviceInfo servers) = refl
slot_takes (slot.Write file at bytes) = refl
slot_takes (slot.Read file at count) = refl
slot_takes (slot.LayoutReturn file stateid failed) = refl
slot_takes slot.Renew = refl

not_both : (b : Bool) → b ≡ true → b ≡ false → ⊥
not_both true is other = absurd cc
not_both false is other = absurd cc

pub no_session_no_layout : (past : List HistoryItem) (c : ClientValue) (xid : ℕ) (kind : MdsAsk) → AskedOut past c.name c.tie c.file xid kind → takes_slot kind ≡ false → (i : Layouts past c) (l : Layout) → c.layout ≡ Some l → ⊥
no_session_no_layout past c xid kind out none i l at = by_call out.call refl out.by
  where
    has : has_session c.tie ≡ true
    has = has_here c.tie (its_layout past c i l at).session (its_layout past c i l at).on

    by_call : (call : MdsCallValue) → out.call ≡ call → IsBy c.tie call → ⊥
    by_call (ExchangeId verifier) same by = not_both (has_session c.tie) has (ap has_session by)
    by_call (CreateSession clientid sequence) same by = not_both (has_session c.tie) has (ap has_session by)
    by_call (OnSlot session sequence call) same by = not_both (takes_slot kind) (ap takes_slot (sym out.kind_is) ∙ ap (λ k. takes_slot (ask_of k)) same ∙ slot_takes call) none

-- the client is as new: its layout, if it holds one, ends with its session
pub new_ends : (past : List HistoryItem) (c : ClientValue) (now : ℕ) (r : SlotReport) (tie : Tie) → IsTieBehind now r c.tie tie → has_session tie ≡ false → (i : Layouts past c) (l : Layout) → c.layout ≡ Some l → ⊥
new_ends past c now r tie behind none i l at =
    let o : LayoutOf past i.held c.name c.tie c.file c.asked l.stateid l.writer = its_layout past c i l at in
    not_both (has_session tie) (has_here tie o.session (behind_here now r c.tie tie behind o.session o.on)) none
