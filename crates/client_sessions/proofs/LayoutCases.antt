-- What a client asks for, gives back and enters under its layouts, in each case of what an event can do.
use Rattle.std.proofs.Common.{◌≡◌, ◌≢◌, ℕ, Bool, true, false, List, [], ◌∷◌, ◌++◌, length, Option, Some, None, refl, sym, ap, subst, ◌∙◌, inl, inr, ◌⊎◌}
use Rattle.std.specs.Prelude.{◌==◌, slice_get}
use Rattle.std.specs.List.{AllByRecursion, filter}
use Rattle.std.proofs.lemmas.Bool.{eqb-true}
use Rattle.std.proofs.lemmas.Option.{none-some}
use Rattle.rpc_record.specs.Replies.{RpcReply}
use Rattle.nfs4_types.specs.declared.ids.SessionId.{SessionId}
use Rattle.device_addr.specs.declared.net_addr.NetAddr.{NetAddr}
use Rattle.cluster_model.specs.declared.ids.NodeId.TheVariants.{Mds, Server, Client as AClient}
use Rattle.cluster_model.specs.declared.entry.Entry.TheVariants.{Sent, Rogue, Told, TimedOut, Answer}
use Rattle.cluster_model.specs.DsCalls as ds
use Rattle.cluster_model.specs.declared.ids.FileId.{FileId}
use Rattle.cluster_model.specs.declared.ids.MirrorId.{MirrorId}
use Rattle.cluster_model.specs.declared.phase.LeftCause.{LeftCause}
use Rattle.mirror_writer.specs.declared.call.TakenWrite.{TakenWrite}
use Rattle.mirror_writer.specs.Outstanding.{is_covered_everywhere}
use Rattle.mirror_writer.specs.Writers.{WriterValue, WriterAfter, WriterSends, commit_wanted, next_sent, with_write}
use Rattle.client_file_calls.specs.declared.open.OpenFile.{OpenFile}
use Rattle.client_file_calls.specs.declared.grant.LayoutGrant.{LayoutGrant}
use Rattle.client_mds_calls.specs.declared.ask.MdsAsk.{MdsAsk}
use Rattle.client_mds_calls.specs.declared.ask.MdsAsk.TheVariants as ask
use Rattle.client_mds_calls.specs.declared.reply.SlotReport.{SlotReport}
use Rattle.client_mds_calls.specs.declared.reply.SlotReport.TheVariants.{Taken, Uncached, Delayed, Unknown}
use Rattle.client_mds_calls.specs.MdsCalls.{MdsCallValue, takes_slot}
use Rattle.client_mds_calls.specs.MdsCompounds.{mds_call_bytes}
use Rattle.client_mds_calls.specs.MdsReplies.{MdsAnswerValue, Client, Session, Complete, Opened, Granted, Devices, Returned, Refused}
use Rattle.client_state.specs.declared.layout.Layout.{Layout}
use Rattle.client_state.specs.declared.asked.Asked.{Asked}
use Rattle.client_state.specs.declared.tie.Tie.{Tie}
use Rattle.client_state.specs.declared.tie.Tie.TheVariants.{NoClient, HasClient, HasSession}
use Rattle.client_state.specs.ClientStates.{ClientValue}
use Rattle.client_state.specs.ClientQueue.{with_writer, ending}
use Rattle.client_state.specs.ClientSends.{CallsServer, CallsMds, RepeatsToServer, RepeatsToMds, RepliesToMds}
use Rattle.client_calls.specs.ClientCalls.{xid_after}
use Rattle.client_answers.specs.ClientMirrors.{told_entry, told_entries, counted_on, tells, tells_covered, with_failed, has_writer}
use Rattle.client_answers.specs.ClientAnswers.{moved_tie, fresh_session, completed_tie, new_layout, learns_devices, has_session}
use Rattle.mirror_client.specs.ClientRule.{layout_at_tick}
use Rattle.client_laws.specs.ClientHistory.{ClientInput, Requested, Recorded, LeftProtocol, HistoryItem, Hears, Enters, Sends, entered, Each}
use Rattle.client_laws.proofs.Later.{granted_later}
use Rattle.client_laws.proofs.GrantFacts.{granted_kind, returned_kind}
use Rattle.client_laws.proofs.Stands.{WriterStands, IfThere}
use Rattle.client_laws.proofs.WriterMoves.{write_taken, writer_later, send_moves}
use Rattle.client_records.proofs.Joins.{RunKeeps}
use Rattle.client_records.proofs.Cases.{ComesTo, ByReply, ByTimeout, comes_by, Adds, IsAnswered, said, IsTieBehind, free, heard_mds, heard_late, IsTaking, IsServed, IsIdle, StartsOver, Cases}
use Rattle.client_records.proofs.Told.{any_tells, any_covers}
use Rattle.client_records.proofs.EachRun.{Base}
use Rattle.client_sessions.specs.ClientSessions.{SaysWho, KeepsSlot}
use Rattle.client_sessions.specs.LayoutEnds.{HasLayoutEnded, AsksForOne, ReturnsOwn, HasGrant, HasNotLeft}
use Rattle.client_sessions.specs.EnteredFiles.{HasGrantFor}
use Rattle.client_sessions.proofs.AnswerKinds.{granted_taken, IsAnswerTo, answer_to}
use Rattle.client_sessions.proofs.CallsMade.{KindStands}
use Rattle.client_sessions.proofs.SlotStands.{AskedOut}
use Rattle.client_sessions.proofs.Slots as slots
use Rattle.client_sessions.proofs.Slots.{Slots, made, out_of, kind_of, freed, by_answer, with_layout_of, there_layout}
use Rattle.client_sessions.proofs.SlotCases.{slot_cases}
use Rattle.client_sessions.proofs.Settling.{ended_session, ended_return}
use Rattle.client_sessions.proofs.WriterIds.{taken_ids}
use Rattle.client_sessions.proofs.WritersSince.{HasWriter, other_layout, came_layout, fenced_layout}
use Rattle.client_sessions.proofs.LayoutAsks.{asks_one, returns_own, layouts_asked}
use Rattle.client_sessions.proofs.LayoutAnswers.{KeepsHold, answered, ended, granted}
use Rattle.client_sessions.proofs.LayoutsHeld.{any_server, IsHere, LayoutOf, LayoutsOf, Layouts, settles_later, some_later, some_held, KeepsLayout, ending_keeps, KeepsSome, layouts_later, same_some, there_some, later, relayout, its_layout, has_grant, has_grant_for, stays_item}
use Rattle.client_sessions.proofs.LayoutSteps.{EntersHeld, SaysHeld, Holds, ticked_some, behind_some, behind_here, moved_here, completed_here, behind_final, same_out, called_back, GrantsNone, none_granted, served_none, idle_none, no_session_no_layout, new_ends}

-- a layout of which a mirror failed
failed_writer : (name : List ℕ) (l : Layout) (after : WriterAfter) (id : MirrorId) (cause : LeftCause) → HasWriter name l after.writer (ending (with_failed (with_writer l after.writer) id cause))
failed_writer name l after id cause =
    let keeps : KeepsLayout name (with_failed (with_writer l after.writer) id cause) (ending (with_failed (with_writer l after.writer) id cause)) = ending_keeps name (with_failed (with_writer l after.writer) id cause) in
    record { stateid = keeps.stateid; cred = keeps.cred; ids = keeps.ids; stands = keeps.stands }

lost_writer : (name : List ℕ) (l : Layout) (after : WriterAfter) (id : MirrorId) (cause : LeftCause) → HasWriter name l after.writer (record (ending (with_failed (with_writer l after.writer) id cause)) { untold = [] })
lost_writer name l after id cause =
    let keeps : HasWriter name l after.writer (ending (with_failed (with_writer l after.writer) id cause)) = failed_writer name l after id cause in
    record { stateid = keeps.stateid; cred = keeps.cred; ids = keeps.ids; stands = keeps.stands }

abbrev AnyItem : List HistoryItem → HistoryItem → Type 0
AnyItem past item = Unit {0}

grant_for_later : (past more : List HistoryItem) (file : FileId) (uid : ℕ) → HasGrantFor past file uid → HasGrantFor (past ++ more) file uid
grant_for_later past more file uid g = record { grant = g.grant; granted = granted_later past more g.grant g.granted; its_uid = g.its_uid; its_file = g.its_file }

-- each write that is told is so for the file of the layout
each_told : (past : List HistoryItem) (file : OpenFile) (w : WriterValue) (ns : List ℕ) → HasGrantFor past file.file w.cred → Each SaysHeld past (entered (told_entries file w ns))
each_told past file w [] g = tt
each_told past file w (n ∷ ns) g = by_write (slice_get w.taken n) (each_told past file w ns g) (λ item. each_told (past ++ item ∷ []) file w ns (grant_for_later past (item ∷ []) file.file w.cred g))
  where
    by_write : (o : Option TakenWrite) → Each SaysHeld past (entered (told_entries file w ns)) → ((item : HistoryItem) → Each SaysHeld (past ++ item ∷ []) (entered (told_entries file w ns)))
        → Each SaysHeld past (entered (told_entry file w.cred o ++ told_entries file w ns))
    by_write None rest further = rest
    by_write (Some t) rest further = ((tt, tt, tt, g), further (Enters (Told file.file (record { 0 = w.cred }) t.at t.bytes)))

-- the file is the one that is open
comes_file : (B : List HistoryItem → ClientValue → Type 0) (Q : ClientInput → Type 0) (I : List HistoryItem → ClientValue → Type 0) (past : List HistoryItem) (c : ClientValue) (file : OpenFile) (l : Layout) (after : WriterAfter) → ComesTo B Q I past c file l after → c.file ≡ Some file
comes_file B Q I past c file l after (ByReply h server bytes now reply out s past_is is) = s.file_is
comes_file B Q I past c file l after (ByTimeout h server out s past_is is) = s.file_is

module _ (number verifier : ℕ) where
  told_so : (past : List HistoryItem) (c : ClientValue) (file : OpenFile) (cred at : ℕ) (bytes : List ℕ) → Holds number verifier past c → Adds (Holds number verifier) AnyItem past (Enters (Told file.file (record { 0 = cred }) at bytes)) c
  told_so past c file cred at bytes i = (tt, (slots.later number verifier past c i.0 (Enters (Told file.file (record { 0 = cred }) at bytes)) tt, later past c i.1 (Enters (Told file.file (record { 0 = cred }) at bytes)) tt tt))

  tells_held : (past : List HistoryItem) (file : OpenFile) (w : WriterValue) (ns : List ℕ) (c : ClientValue) → HasGrantFor past file.file w.cred → Holds number verifier past (record c { told = counted_on c.told (length ns) }) → RunKeeps (Holds number verifier) SaysHeld past (tells file w ns c)
  tells_held past file w ns c g i = record { entries = each_told past file w ns g; keeps = (any_tells (Holds number verifier) AnyItem told_so past file w ns c i).keeps }

  covers_held : (past : List HistoryItem) (file : OpenFile) (l : Layout) (c : ClientValue) → HasGrantFor past file.file l.writer.cred → ((untold : List ℕ) (told : ℕ) → Holds number verifier past (record c { layout = Some (record l { untold = untold }); told = told }))
      → RunKeeps (Holds number verifier) SaysHeld past (tells_covered file (Some l) c)
  covers_held past file l c g i = record { entries = each_told past file l.writer (filter (is_covered_everywhere l.writer) l.untold) g; keeps = (any_covers (Holds number verifier) AnyItem told_so past file l c i).keeps }

  -- another layout in the place of the one that is there
  its_some : (past : List HistoryItem) (c : ClientValue) (l new : Layout) → c.layout ≡ Some l → KeepsLayout c.name l new → Layouts past c → LayoutsOf past c.name c.tie c.file (Some new) c.asked c.has_left
  its_some past c l new at keeps i = relayout past c i (Some new) (there_some past c i l new at keeps)

  -- the client leaves the protocol
  left_so : (h : List HistoryItem) (c : ClientValue) → Layouts h c → LayoutsOf (h ++ Hears LeftProtocol ∷ []) c.name c.tie c.file c.layout c.asked true
  left_so h c i = record {
    held = i.held;
    layout_of = some_later h (Hears LeftProtocol ∷ []) i.held c.name c.tie c.file c.asked c.layout c.layout (tt, tt) (same_some h c i) i.layout_of;
    settles = settles_later h (Hears LeftProtocol ∷ []) c.layout c.layout c.asked c.asked i.held i.held (tt, tt) (λ xid out. out) (λ xid holding. holding) i.settles;
    left = λ stays. absurd cc;
  }

  -- a write is taken
  takes_so : (past : List HistoryItem) (c : ClientValue) (file : OpenFile) (l : Layout) (at : ℕ) (bytes untold : List ℕ) → c.layout ≡ Some l → Layouts past c
      → LayoutsOf (past ++ Enters (Sent file.file (record { 0 = l.writer.cred }) at bytes) ∷ []) c.name c.tie c.file (Some (record l { writer = with_write l.writer at bytes; untold = untold })) c.asked c.has_left
  takes_so past c file l at bytes untold there i =
      let o : LayoutOf past i.held c.name c.tie c.file c.asked l.stateid l.writer = its_layout past c i l there in
      other_layout past c l there i (Enters (Sent file.file (record { 0 = l.writer.cred }) at bytes) ∷ []) (tt, tt) (λ stays. (tt, tt)) (record l { writer = with_write l.writer at bytes; untold = untold }) refl refl
      (taken_ids l.writer at bytes) (writer_later o.behind c.name any_server (with_write l.writer at bytes) (write_taken o.behind c.name any_server l.writer o.stands at bytes) (Enters (Sent file.file (record { 0 = l.writer.cred }) at bytes) ∷ []) any_server (λ server is. is))

  -- a call goes out
  calls_so : (past : List HistoryItem) (c : ClientValue) (l : Layout) (s : WriterSends) → c.layout ≡ Some l → next_sent l.writer c.next_xid ≡ Some s → Layouts past c
      → LayoutsOf (past ++ Sends (CallsServer s.id.server c.next_xid c.name l.writer.cred s.call) ∷ []) c.name c.tie c.file (Some (record l { writer = s.writer })) c.asked c.has_left
  calls_so past c l s there is i =
      let o : LayoutOf past i.held c.name c.tie c.file c.asked l.stateid l.writer = its_layout past c i l there in
      let moves = send_moves o.behind c.name any_server l.writer o.stands c.next_xid s is in
      other_layout past c l there i (Sends (CallsServer s.id.server c.next_xid c.name l.writer.cred s.call) ∷ []) (tt, tt) (λ stays. (tt, tt)) (record l { writer = s.writer }) refl moves.cred moves.ids moves.stands

  -- ---- answers

  module _ (h : List HistoryItem) (c : ClientValue) (a : Asked) (bytes : List ℕ) (now : ℕ) (reply : RpcReply) (s : IsAnswered Base (λ (input : ClientInput). Unit {0}) h c a bytes now reply) (i : Holds number verifier h c) where
    out : AskedOut h c.name c.tie c.file a.xid a.ask
    out = out_of number verifier h c i.0 a s.out

    -- the client goes on with its session, its file and its layout
    goes_on : (tie : Tie) → IsTieBehind now (said a reply).slot c.tie tie → (layout : Option Layout) → KeepsSome c.name c.layout layout → GrantsNone (said a reply).answer → LayoutsOf (heard_mds h bytes now) c.name tie c.file layout None c.has_left
    goes_on tie behind layout keeps none =
        answered h c a bytes now reply s out i.1 tie c.file layout keeps (λ l at. record { here = behind_here now (said a reply).slot c.tie tie behind; there = λ f there. there }) (behind_final now (said a reply).slot c.tie tie behind)
        (none_granted (said a reply).answer none (said a reply).answer refl)

    -- its layout has ended, if it held one
    ends_so : (tie new : Tie) → IsTieBehind now (said a reply).slot c.tie tie → (file : Option OpenFile) → GrantsNone (said a reply).answer
        → ((l : Layout) (at : c.layout ≡ Some l) → HasLayoutEnded ((its_layout h c i.1 l at).behind ++ Hears (Recorded Mds bytes now) ∷ []) (its_layout h c i.1 l at).session (its_layout h c i.1 l at).other.file (its_layout h c i.1 l at).grant)
        → LayoutsOf (heard_mds h bytes now) c.name new file None None c.has_left
    ends_so tie new behind file none ends =
        ended h c a bytes now reply s out i.1 new file ends (behind_final now (said a reply).slot c.tie tie behind) (none_granted (said a reply).answer none (said a reply).answer refl)

    return_ends : a.ask ≡ ask.LayoutReturn → ((said a reply).answer ≡ Returned) ⊎ ((said a reply).answer ≡ Refused 10025) → (l : Layout) (at : c.layout ≡ Some l)
        → HasLayoutEnded ((its_layout h c i.1 l at).behind ++ Hears (Recorded Mds bytes now) ∷ []) (its_layout h c i.1 l at).session (its_layout h c i.1 l at).other.file (its_layout h c i.1 l at).grant
    return_ends kind is l at = ended_return h i.1.held c.name c.tie c.file c.asked a s.out l.stateid l.writer (its_layout h c i.1 l at) bytes now reply s.reply_is s.number kind is

    -- a client or a session is made: no layout is held
    made_so : (new : Tie) → takes_slot a.ask ≡ false → ((said a reply).slot ≡ Delayed → ⊥) → GrantsNone (said a reply).answer → LayoutsOf (heard_mds h bytes now) c.name new c.file c.layout None c.has_left
    made_so new first final none =
        answered h c a bytes now reply s out i.1 new c.file c.layout (same_some h c i.1) (λ l at. absurd (no_session_no_layout h c a.xid a.ask out first i.1 l at)) final (none_granted (said a reply).answer none (said a reply).answer refl)

    learned_so : (tie : Tie) → IsTieBehind now (said a reply).slot c.tie tie → (addresses : List NetAddr) → GrantsNone (said a reply).answer → (layout : Option Layout) → c.layout ≡ layout → Layouts (heard_mds h bytes now) (learns_devices layout addresses (free tie c))
    learned_so tie behind addresses none None at = goes_on tie behind c.layout (same_some h c i.1) none
    learned_so tie behind addresses none (Some l) at = goes_on tie behind c.layout (same_some h c i.1) none

    starts_so : (tie : Tie) → IsTieBehind now (said a reply).slot c.tie tie → StartsOver (said a reply) tie → LayoutsOf (heard_mds h bytes now) c.name NoClient None None None c.has_left
    starts_so tie behind (inl is) =
        ends_so tie NoClient behind None (subst GrantsNone (sym is) tt) (λ l at. ended_session h i.1.held c.name c.tie c.file c.asked a s.out l.stateid l.writer (its_layout h c i.1 l at) bytes now reply s.reply_is s.number is)
    starts_so tie behind (inr (status, is, none)) = ends_so tie NoClient behind None (subst GrantsNone (sym is) tt) (λ l at. absurd (new_ends h c now (said a reply).slot tie behind none i.1 l at))

    opened_so : (tie : Tie) → IsTieBehind now (said a reply).slot c.tie tie → (file : OpenFile) → (said a reply).answer ≡ Opened file → LayoutsOf (heard_mds h bytes now) c.name tie (Some file) c.layout None c.has_left
    opened_so tie behind file is =
        answered h c a bytes now reply s out i.1 tie (Some file) c.layout (same_some h c i.1) (λ l at. record { here = behind_here now (said a reply).slot c.tie tie behind; there = λ f there. absurd (none-some f (sym closed ∙ there)) })
        (behind_final now (said a reply).slot c.tie tie behind) (none_granted (Opened file) tt (said a reply).answer is)
      where
        closed : c.file ≡ None
        closed = subst (KindStands c.file c.layout c.devices) (subst (IsAnswerTo a.ask) is (answer_to a.ask reply)) (kind_of number verifier h c i.0 a s.out)

    granted_so : (tie : Tie) → IsTieBehind now (said a reply).slot c.tie tie → (g : LayoutGrant) → (said a reply).answer ≡ Granted g → LayoutsOf (heard_mds h bytes now) c.name tie c.file (Some (new_layout g)) None c.has_left
    granted_so tie behind g is =
        granted h c a bytes now reply s out i.1 tie (behind_here now (said a reply).slot c.tie tie behind) (subst (KindStands c.file c.layout c.devices) (granted_kind a.ask reply g is) (kind_of number verifier h c i.0 a s.out))
        (behind_final now (said a reply).slot c.tie tie behind) g is

    again_so : (said a reply).slot ≡ Uncached → LayoutsOf (heard_mds h bytes now) c.name (moved_tie now c.tie) c.file c.layout None c.has_left
    again_so at =
        answered h c a bytes now reply s out i.1 (moved_tie now c.tie) c.file c.layout (same_some h c i.1) (λ l there. record { here = moved_here now c.tie; there = λ f is. is }) (λ late. absurd (cc (sym at ∙ late)))
        (λ g is. absurd (cc (sym at ∙ granted_taken a.ask reply g is)))

  -- ---- all of them

  k : Cases Base (λ (input : ClientInput). Unit {0}) (Slots number verifier) (λ past item. SaysWho number verifier past item × KeepsSlot past item)
  k = slot_cases number verifier

  its : (h : List HistoryItem) (c : ClientValue) → Holds number verifier h c → Layouts h c
  its h c i = i.1

  its_slots : (past : List HistoryItem) (c : ClientValue) (file : OpenFile) (l : Layout) (after : WriterAfter) → ComesTo Base (λ (input : ClientInput). Unit {0}) (Holds number verifier) past c file l after → ComesTo Base (λ (input : ClientInput). Unit {0}) (Slots number verifier) past c file l after
  its_slots = comes_by Base (λ (input : ClientInput). Unit {0}) (Holds number verifier) (Slots number verifier) (λ h c i. i.0)

  untold_so : (past : List HistoryItem) (c : ClientValue) (l : Layout) (untold : List ℕ) → c.layout ≡ Some l → Holds number verifier past c → Slots number verifier past (record c { layout = Some (record l { untold = untold }) }) × Layouts past (record c { layout = Some (record l { untold = untold }) })
  untold_so past c l untold at i = (
    with_layout_of number verifier past c i.0 (Some (record l { untold = untold })) (there_layout number verifier past c i.0 l (record l { untold = untold }) at refl),
    its_some past c l (record l { untold = untold }) at (record { stateid = refl; cred = refl; ids = refl; stands = λ h s. s }) i.1,
  )

  pub layout_cases : Cases Base (λ (input : ClientInput). Unit {0}) (Holds number verifier) SaysHeld
  layout_cases = record {
    heard = λ past input. (tt, tt, tt, tt);
    hears = λ h c input stays q i. (k.hears h c input stays q i.0, later h c i.1 (Hears input) tt (stays_item input stays));
    requests = λ h c request q i. (k.requests h c request q i.0, later h c i.1 (Hears (Requested request)) tt tt);
    leaves = λ h c i. (k.leaves h c i.0, left_so h c i.1);
    ticks = λ past c i. (k.ticks past c i.0, relayout past c i.1 (layout_at_tick c.layout) (ticked_some c.name c.layout));
    answers = λ past c a answers told i. ((tt, tt, tt, tt), ((k.answers past c a answers told i.0).1, later past c i.1 (Enters (Answer c.number a)) tt tt));
    done = λ past c request rest at may i. (k.done past c request rest at may i.0, i.1);
    takes = λ past c file l at bytes rest taking i. (
      (tt, tt, (has_grant past c i.1 l taking.layout, i.1.left taking.stays), has_grant_for past c i.1 file l taking.file_is taking.layout),
      ((k.takes past c file l at bytes rest taking i.0).1, takes_so past c file l at bytes (l.untold ++ length l.writer.taken ∷ []) taking.layout i.1),
    );
    ends = λ past c l at i. (k.ends past c l at i.0, its_some past c l (ending l) at (ending_keeps c.name l) i.1);
    commits = λ past c l at i. (k.commits past c l at i.0, its_some past c l (with_writer l (commit_wanted l.writer)) at (record { stateid = refl; cred = refl; ids = refl; stands = λ h s. s }) i.1);
    calls = λ past c l s at some is i. ((tt, tt, has_grant past c i.1 l at, tt), ((k.calls past c l s at some is i.0).1, calls_so past c l s at is i.1));
    asks = λ past c kind call none some due is i.
        (let m = made number verifier past c i.0 kind call due is in (
          (asks_one past c kind call none m.0 m.1 i.1, returns_own past c kind call none m.0 m.1 i.1, tt, tt),
          ((k.asks past c kind call none some due is i.0).1, layouts_asked past c kind call none m.0 m.1 i.1),
        ));
    client = λ h c a bytes now reply tie s behind i clientid sequence is. (
      k.client h c a bytes now reply tie s behind i.0 clientid sequence is,
      made_so h c a bytes now reply s i (HasClient clientid sequence) (ap takes_slot (subst (IsAnswerTo a.ask) is (answer_to a.ask reply))) (behind_final now (said a reply).slot c.tie tie behind) (subst GrantsNone (sym is) tt),
    );
    session = λ h c a bytes now reply tie s behind i session is. (
      k.session h c a bytes now reply tie s behind i.0 session is,
      made_so h c a bytes now reply s i (HasSession (fresh_session session)) (ap takes_slot (subst (IsAnswerTo a.ask) is (answer_to a.ask reply))) (behind_final now (said a reply).slot c.tie tie behind) (subst GrantsNone (sym is) tt),
    );
    complete = λ h c a bytes now reply tie s behind i is. (
      k.complete h c a bytes now reply tie s behind i.0 is,
      answered h c a bytes now reply s (out h c a bytes now reply s i) i.1 (completed_tie tie) c.file c.layout (same_some h c i.1)
          (λ l at. record { here = λ session here. completed_here tie session (behind_here now (said a reply).slot c.tie tie behind session here); there = λ f there. there }) (behind_final now (said a reply).slot c.tie tie behind) (none_granted Complete tt (said a reply).answer is),
    );
    opened = λ h c a bytes now reply tie s behind i file is. (k.opened h c a bytes now reply tie s behind i.0 file is, opened_so h c a bytes now reply s i tie behind file is);
    granted = λ h c a bytes now reply tie s behind i grant is. (k.granted h c a bytes now reply tie s behind i.0 grant is, granted_so h c a bytes now reply s i tie behind grant is);
    learns = λ h c a bytes now reply tie s behind i addresses is. (k.learns h c a bytes now reply tie s behind i.0 addresses is, learned_so h c a bytes now reply s i tie behind addresses (subst GrantsNone (sym is) tt) c.layout refl);
    served = λ h c a bytes now reply tie s behind i is. (k.served h c a bytes now reply tie s behind i.0 is, goes_on h c a bytes now reply s i tie behind c.layout (same_some h c i.1) (served_none (said a reply).answer is));
    idle = λ h c a bytes now reply tie s behind i is. (k.idle h c a bytes now reply tie s behind i.0 is, goes_on h c a bytes now reply s i tie behind c.layout (same_some h c i.1) (idle_none (said a reply).answer is));
    returned = λ h c a bytes now reply tie s behind i file l is there at.
        tells_held (heard_mds h bytes now) file l.writer l.untold (record (free tie c) { layout = None }) (grant_for_later h (Hears (Recorded Mds bytes now) ∷ []) file.file l.writer.cred (has_grant_for h c i.1 file l there at)) (
          freed number verifier h c a bytes now reply s i.0 tie c.file None c.devices (by_answer number verifier h c a bytes now reply s i.0 tie behind Returned is (λ takes. takes) (λ e. absurd cc)),
          ends_so h c a bytes now reply s i tie tie behind c.file (subst GrantsNone (sym is) tt) (return_ends h c a bytes now reply s i (returned_kind a.ask reply is) (inl is)),
        );
    refused = λ h c a bytes now reply tie s behind i status queue waits layout is shorter kept. (
      k.refused h c a bytes now reply tie s behind i.0 status queue waits layout is shorter kept,
      goes_on h c a bytes now reply s i tie behind layout (behind_some c.name a.ask c.layout layout kept) (subst GrantsNone (sym is.0) tt),
    );
    gone = λ h c a bytes now reply tie s behind i status is bad kind. (
      k.gone h c a bytes now reply tie s behind i.0 status is bad kind,
      ends_so h c a bytes now reply s i tie tie behind c.file (subst GrantsNone (sym is) tt) (return_ends h c a bytes now reply s i kind (inr (is ∙ ap Refused (eqb-true status 10025 bad)))),
    );
    starts_over = λ h c a bytes now reply tie s behind i queue over shorter. (k.starts_over h c a bytes now reply tie s behind i.0 queue over shorter, starts_so h c a bytes now reply s i tie behind over);
    again = λ h c a bytes now reply s at i. (k.again h c a bytes now reply s at i.0, again_so h c a bytes now reply s i at);
    delays = λ h c a bytes now reply s at i. (k.delays h c a bytes now reply s at i.0, same_out (heard_mds h bytes now) c a true s.out (later h c i.1 (Hears (Recorded Mds bytes now)) tt tt));
    wakes = λ past c a at i. (k.wakes past c a at i.0, same_out past c a false at i.1);
    repeats_mds = λ past c a at i. ((tt, tt, tt, tt), ((k.repeats_mds past c a at i.0).1, later past c i.1 (Sends (RepeatsToMds a.xid a.message)) tt tt));
    timed = λ past c xid i. ((tt, tt, tt, tt), ((k.timed past c xid i.0).1, later past c i.1 (Enters (TimedOut (AClient c.number) xid)) tt tt));
    moves = λ past c file l after comes quiet i. (
      k.moves past c file l after (its_slots past c file l after comes) quiet i.0,
      came_layout (λ (input : ClientInput). Unit {0}) (Holds number verifier) its past c file l after comes i.1 (with_writer l after.writer) (record { stateid = refl; cred = refl; ids = refl; stands = λ h s. s }),
    );
    covers = λ past c file l after comes quiet i.
        covers_held past file (with_writer l after.writer) (has_writer c l after)
        (has_grant_for past (has_writer c l after) i.1 file (with_writer l after.writer) (comes_file Base (λ (input : ClientInput). Unit {0}) (Holds number verifier) past c file l after comes) refl)
        (λ untold told. untold_so past (has_writer c l after) (with_writer l after.writer) untold refl i);
    fails = λ past c file l after id cause comes is some i. (
      k.fails past c file l after id cause (its_slots past c file l after comes) is some i.0,
      came_layout (λ (input : ClientInput). Unit {0}) (Holds number verifier) its past c file l after comes i.1 (ending (with_failed (with_writer l after.writer) id cause)) (failed_writer c.name l after id cause),
    );
    loses = λ past c file l after id cause comes is i. (
      k.loses past c file l after id cause (its_slots past c file l after comes) is i.0,
      came_layout (λ (input : ClientInput). Unit {0}) (Holds number verifier) its past c file l after comes i.1 (record (ending (with_failed (with_writer l after.writer) id cause)) { untold = [] }) (lost_writer c.name l after id cause),
    );
    fenced = λ past c file l after id status comes is i. (
      k.fenced past c file l after id status (its_slots past c file l after comes) is i.0,
      fenced_layout (λ (input : ClientInput). Unit {0}) (Holds number verifier) its past c file l after comes id status is,
    );
    repeats_server = λ h c file l server out late entries d j. (
      (tt, tt, tt, tt),
      (
        slots.later number verifier (heard_late h server ++ entered entries) d j.0 (Sends (RepeatsToServer server out.xid c.name l.writer.cred out.call)) tt,
        later (heard_late h server ++ entered entries) d j.1 (Sends (RepeatsToServer server out.xid c.name l.writer.cred out.call)) tt tt,
      ),
    );
    callbacks = λ past c s slot at i. (k.callbacks past c s slot at i.0, called_back past c s slot at i.1);
    replies = λ past d bytes now reply q call i. ((tt, tt, tt, tt), ((k.replies past d bytes now reply q call i.0).1, later past d i.1 (Sends (RepliesToMds reply)) tt tt));
    strays = λ past c file l place at bytes m q straying i.
        (let rogue : HistoryItem = Enters (Rogue file.file (record { 0 = l.writer.cred }) at bytes) in
        let next : Slots number verifier (past ++ rogue ∷ []) c × Layouts (past ++ rogue ∷ []) c = (slots.later number verifier past c i.0 rogue tt, later past c i.1 rogue tt tt) in (
          (tt, tt, has_grant past c i.1 l straying.layout, has_grant_for past c i.1 file l straying.file_is straying.layout),
          (
            (tt, tt, has_grant (past ++ rogue ∷ []) c next.1 l straying.layout, tt),
            (
              slots.later number verifier (past ++ rogue ∷ []) c next.0 (Sends (CallsServer m.id.server c.next_xid c.name l.writer.cred (ds.Write m.id.fileid at false bytes))) tt,
              later (past ++ rogue ∷ []) c next.1 (Sends (CallsServer m.id.server c.next_xid c.name l.writer.cred (ds.Write m.id.fileid at false bytes))) tt tt,
            ),
          ),
        ));
  }
