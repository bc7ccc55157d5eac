-- A packet comes to a data server.
use Rattle.std.proofs.Common.{◌≡◌, ◌≢◌, ◌<◌, ℕ, ◌^◌, ◌+◌, ◌-◌, Bool, true, false, List, [], ◌∷◌, ◌++◌, length, Option, Some, None, refl, sym, ap, subst, ◌∙◌, inl, inr, ◌⊎◌, arith}
use Rattle.std.specs.Prelude.{slice_get, slice_set}
use Rattle.std.specs.List.{AllByRecursion}
use Rattle.std.proofs.lemmas.List.{append_assoc, append-nil}
use Rattle.ff_xdr.specs.Form.{word}
use Rattle.rpc_record.specs.Calls.{RpcCall, call_bytes}
use Rattle.rpc_record.specs.Replies.{RpcReply, reply_bytes}
use Rattle.cluster_model.specs.declared.ids.NodeId.{NodeId}
use Rattle.cluster_model.specs.declared.ids.NodeId.TheVariants.{Mds, Server, Client}
use Rattle.cluster_model.specs.declared.ids.FileId.{FileId}
use Rattle.cluster_model.specs.declared.entry.Entry.{Entry}
use Rattle.cluster_model.specs.declared.entry.Entry.TheVariants as entry
use Rattle.cluster_model.specs.Server.{ServerState, Caller}
use Rattle.cluster_model.specs.DsCalls.{DsCallValue, Create, SetAttr, Write, Commit, Read, DsReplyValue, ds_plan, ds_step}
use Rattle.cluster_model.specs.Members.{IsOneOf}
use Rattle.ds_files.specs.Receive.{Outcome, outcome_of}
use Rattle.ds_files.specs.Records.{sent_to}
use Rattle.ds_calls.specs.MadeCalls.{ds_rpc_call, ds_call_bytes}
use Rattle.ds_calls.specs.DsCallLaws.{IsSpeakable, DsMessage, HasRecord, record_of}
use Rattle.cluster_laws.specs.Machine.{PacketValue, Call, Reply, Machine, numbered_at, caller_by, may_use}
use Rattle.cluster_laws.specs.Holders.{IsBoundCall}
use Rattle.machine_moves.specs.MachineGoesOn.{HasCalled}
use Rattle.cluster_laws.specs.Telling.{telling}
use Rattle.nfs4_types.specs.declared.stateid.Stateid.{Stateid}
use Rattle.nfs4_session.specs.declared.back.BackCall.{BackCall}
use Rattle.recall_calls.specs.RecallCalls.{recall_rpc_call, recall_bytes}
use Rattle.mds_receive.specs.MdsReceive.{of_reply}
use Rattle.mds_rule.specs.MdsStates.{MdsSend, MdsValue, CallsServer, CallsBack, Replies, Answers}
use Rattle.mds_rule.specs.Spelled.{mds_name, spelled_send}
use Rattle.mds_laws.specs.MdsRunLaws.{number_sent}
use Rattle.mds_walk.proofs.Lists.{AllOf, all_in}
use Rattle.mds_laws.proofs.Keeping.{is_read_call}
use Rattle.mds_moves.specs.MdsMoves.{message_of, IsSpoken, IsSentIn, IsSendAnswered, MayComeFrom}
use Rattle.mds_forms.specs.Forms.{IsNoPacket, IsInForm}
use Rattle.proper_servers.specs.ProperServers.{IsProper}
use Rattle.same_server.specs.SameServer.{DoesTheCall}
use Rattle.user_records.specs.UserRecords.{procedure_word, IsUserRecord, IsReaderRecord, LeavesAll, ReadersDoNothing}
use Rattle.world_journal.specs.SentPackets.{packets_of as posted}
use Rattle.world_moves.specs.WorldMoves.{WasSent, IsCarried}
use Rattle.world_moves.proofs.ServerMoves.{at_end}
use Rattle.world_moves.proofs.PlainReplies.{plain_answer}
use Rattle.world_moves.proofs.ReplyRecords.{incoming_reply, silence, reply_silent, RepliesUnder, replies_under}
use Rattle.world_moves.proofs.ServerActs.{effect_none, procedure_is, same_word, recall_user, under_comes}
use Rattle.holder_parts.specs.CoveredRecords.{WasPosted}
use Rattle.holder_parts.specs.HolderParts.{IsPostedCall, PostsInPlace, HoldersKeepParts}
use Rattle.bound_worlds.specs.MatchedPackets.{Matches, IsServedCall}
use Rattle.bound_worlds.specs.BoundWorlds.{IsBoundRun}
use Rattle.bound_worlds.proofs.CoveredCalls.{still_posted}
use Rattle.bound_worlds.proofs.Notes.{BoundLaws}
use Rattle.bound_worlds.proofs.BoundServers.{ServesSo, bound_more, serves_silently, serves_with}
use Rattle.bound_worlds.proofs.BoundCalls.{delivers_so, uses_so, stays_so}

-- the laws of data servers
pub record RecordLaws : Type 0 where
  pub same : (s : ServerState) (m : DsMessage) → IsProper s → HasRecord m → DoesTheCall s m
  pub steps : (s : ServerState) (caller : Caller) (call : DsCallValue) → IsProper s → IsSpeakable call → IsProper (ds_step s caller call).server
  pub readers : (s : ServerState) (bytes : List ℕ) → ReadersDoNothing s bytes

-- a READ's record, and a callback's, are readers'
read_is : (xid uid : ℕ) (call : DsCallValue) → is_read_call call ≡ true → IsReaderRecord (ds_call_bytes xid mds_name uid call)
read_is xid uid (Create name owner) is = absurd cc
read_is xid uid (SetAttr fileid owner guard) is = absurd cc
read_is xid uid (Write fileid at synced bytes) is = absurd cc
read_is xid uid (Commit fileid) is = absurd cc
read_is xid uid (Read fileid at count) is = (
  (
    λ e. let one : 6 ≡ 2 = same_word 6 2 (omega arith) (omega arith) (sym (procedure_is (ds_rpc_call xid mds_name uid (Read fileid at count))) ∙ e) in absurd (omega (arith, one)),
    λ e. let one : 6 ≡ 8 = same_word 6 8 (omega arith) (omega arith) (sym (procedure_is (ds_rpc_call xid mds_name uid (Read fileid at count))) ∙ e) in absurd (omega (arith, one)),
  ),
  λ e. let one : 6 ≡ 7 = same_word 6 7 (omega arith) (omega arith) (sym (procedure_is (ds_rpc_call xid mds_name uid (Read fileid at count))) ∙ e) in absurd (omega (arith, one)),
  λ e. let one : 6 ≡ 21 = same_word 6 21 (omega arith) (omega arith) (sym (procedure_is (ds_rpc_call xid mds_name uid (Read fileid at count))) ∙ e) in absurd (omega (arith, one)),
)

recall_is : (xid : ℕ) (back : BackCall) (file : FileId) (stateid : Stateid) → IsReaderRecord (recall_bytes xid back file stateid)
recall_is xid back file stateid = (
  recall_user xid back file stateid,
  λ e. let one : 1 ≡ 7 = same_word 1 7 (omega arith) (omega arith) (sym (procedure_is (recall_rpc_call xid back file stateid)) ∙ e) in absurd (omega (arith, one)),
  λ e. let one : 1 ≡ 21 = same_word 1 21 (omega arith) (omega arith) (sym (procedure_is (recall_rpc_call xid back file stateid)) ∙ e) in absurd (omega (arith, one)),
)

module _ (laws : BoundLaws) (by : RecordLaws) (boots : List ℕ) (servers : List ServerState) (mds : MdsValue) (journal : List Entry) (i : IsBoundRun boots servers mds journal) (n : ℕ) (s : ServerState) (at : numbered_at i.machine.servers n ≡ Some s) (proper : IsProper s) (sent : ℕ) where
  abbrev Serves : NodeId → Outcome → Type 0
  Serves from o = IsBoundRun boots (slice_set servers (n - 1) o.server) mds (journal ++ (o.entries ++ posted (Server n) sent (sent_to from o.reply)))

  -- with a reply, or none, for the metadata server
  replies_so : (o : Outcome) (more : List PacketValue) (d : ServesSo i.machine (telling journal) n o more) → IsProper o.server → AllByRecursion IsNoPacket o.entries
      → AllByRecursion (λ (x : NodeId × List ℕ). IsCarried d.machine i.sends (Server n) x.0 x.1) (sent_to Mds o.reply) → IsBoundRun boots (slice_set servers (n - 1) o.server) mds (journal ++ (o.entries ++ posted (Server n) sent (sent_to Mds o.reply)))
  replies_so o more d well none carried = by_reply o.reply carried
    where
      by_reply : (r : Option (List ℕ)) → AllByRecursion (λ (x : NodeId × List ℕ). IsCarried d.machine i.sends (Server n) x.0 x.1) (sent_to Mds r) → IsBoundRun boots (slice_set servers (n - 1) o.server) mds (journal ++ (o.entries ++ posted (Server n) sent (sent_to Mds r)))
      by_reply None carried = subst (λ (l : List Entry). IsBoundRun boots (slice_set servers (n - 1) o.server) mds (journal ++ l)) (sym (append-nil o.entries)) (serves_silently laws boots servers mds journal i n o more d well none)
      by_reply (Some bytes) carried = serves_with laws boots servers mds journal i n o more d well none (sent + 1) Mds bytes tt carried.0

  -- ---- from a client

  call_so : (c : ℕ) (m : DsMessage) → HasRecord m → may_use m.call ≡ true → IsBoundCall (telling journal) m.user m.call → WasPosted journal (Client c) (Server n) (record_of m) → Serves (Client c) (outcome_of s (record_of m))
  call_so c m fits may bound there =
      let o : Outcome = outcome_of s (record_of m) in
      let d : DoesTheCall s m = by.same s m proper fits in
      let serves = uses_so i.machine c n m.xid m.user m.user m.call s may at (telling journal) bound (outcome_of s (record_of m)) d.server d.entries in
      let well : IsProper (outcome_of s (record_of m)).server = subst IsProper (sym d.server) (by.steps s (caller_by m.user m.user) m.call proper fits.call_fits) in
      let none : AllByRecursion IsNoPacket (outcome_of s (record_of m)).entries = subst (AllByRecursion IsNoPacket) (sym d.entries) (effect_none s m.user (ds_plan s (caller_by m.user m.user) m.call).effect) in
      let served : IsServedCall (journal ++ (outcome_of s (record_of m)).entries) (length i.machine.packets) n c (reply_bytes d.reply)
      (Call (Client c) n m.xid m.user m.user m.call ∷ (Reply (length i.machine.packets) n (Client c) m.xid (ds_step s (caller_by m.user m.user) m.call).reply ∷ [])) = record {
        message = m;
        posted = still_posted journal (outcome_of s (record_of m)).entries (Client c) (Server n) (record_of m) there;
        fits = fits;
        given = (ds_step s (caller_by m.user m.user) m.call).reply;
        brought = refl;
        reply = d.reply;
        reads = d.again;
        number = d.number;
        answer = d.answer;
      } in
      subst (λ (r : Option (List ℕ)). IsBoundRun boots (slice_set servers (n - 1) (outcome_of s (record_of m)).server) mds (journal ++ ((outcome_of s (record_of m)).entries ++ posted (Server n) sent (sent_to (Client c) r)))) (sym d.bytes)
      (serves_with laws boots servers mds journal i n (outcome_of s (record_of m)) _ serves well none (sent + 1) (Client c) (reply_bytes d.reply) served tt)

  pub from_client : (c : ℕ) (bytes : List ℕ) (past more : List Entry) → journal ≡ past ++ more → IsPostedCall past bytes → WasPosted journal (Client c) (Server n) bytes → Serves (Client c) (outcome_of s bytes)
  from_client c bytes past more split k there =
      subst (λ (b : List ℕ). Serves (Client c) (outcome_of s b)) (sym k.is)
      (call_so c k.message k.fits k.may (subst (λ (l : List Entry). IsBoundCall (telling l) k.message.user k.message.call) (sym split) (bound_more k.message.user k.message.call past more k.bound))
      (subst (WasPosted journal (Client c) (Server n)) k.is there))

  -- ---- from the metadata server

  spoken_so : (xid uid : ℕ) (call : DsCallValue) → IsOneOf (CallsServer n xid uid call) i.sends → (h : HasCalled i.machine n xid uid call) → HasRecord (message_of xid uid call) → Serves Mds (outcome_of s (ds_call_bytes xid mds_name uid call))
  spoken_so xid uid call inside h has =
      let o : Outcome = outcome_of s (ds_call_bytes xid mds_name uid call) in
      let d : DoesTheCall s (message_of xid uid call) = by.same s (message_of xid uid call) proper has in
      let serves = delivers_so i.machine h.place Mds n xid uid uid call s h.there at (telling journal) (outcome_of s (ds_call_bytes xid mds_name uid call)) d.server d.entries in
      let well : IsProper (outcome_of s (ds_call_bytes xid mds_name uid call)).server = subst IsProper (sym d.server) (by.steps s (caller_by uid uid) call proper has.call_fits) in
      let none : AllByRecursion IsNoPacket (outcome_of s (ds_call_bytes xid mds_name uid call)).entries = subst (AllByRecursion IsNoPacket) (sym d.entries) (effect_none s uid (ds_plan s (caller_by uid uid) call).effect) in
      let last : slice_get serves.machine.packets (length i.machine.packets) ≡ Some (Reply h.place n Mds xid (ds_step s (caller_by uid uid) call).reply) =
      ap (λ (l : List PacketValue). slice_get l (length i.machine.packets)) serves.packets ∙ at_end i.machine.packets (Reply h.place n Mds xid (ds_step s (caller_by uid uid) call).reply) in
      let comes : MayComeFrom serves.machine i.sends n (reply_bytes d.reply) =
      inr (record {
        reply = d.reply;
        reads = incoming_reply d.reply ∙ ap of_reply d.again;
        sent = CallsServer n xid uid call;
        inside = inside;
        number = ap Some (sym d.number);
        answers = λ fits same. record {
          given = (ds_step s (caller_by uid uid) call).reply;
          stands = record { uid = uid; called = h.place; call_there = serves.like.packets h.place _ h.there; place = length i.machine.packets; there = last };
          same = d.answer;
          plain = plain_answer s (caller_by uid uid) call;
        };
      }) in
      subst (λ (r : Option (List ℕ)). IsBoundRun boots (slice_set servers (n - 1) (outcome_of s (ds_call_bytes xid mds_name uid call)).server) mds (journal ++ ((outcome_of s (ds_call_bytes xid mds_name uid call)).entries ++ posted (Server n) sent (sent_to Mds r)))) (sym d.bytes)
      (serves_with laws boots servers mds journal i n (outcome_of s (ds_call_bytes xid mds_name uid call)) _ serves well none (sent + 1) Mds (reply_bytes d.reply) tt comes)

  -- what reads does nothing, and to its reply nothing is asked but its number
  reader_so : (c : RpcCall) (send : MdsSend) → IsOneOf send i.sends → number_sent send ≡ Some c.xid → c.xid < 2 ^ 32 → ((m : Machine) (says : DsCallValue → DsReplyValue) → IsSendAnswered m n says send) → IsReaderRecord (call_bytes c) → Serves Mds (outcome_of s (call_bytes c))
  reader_so c send inside number small any reader =
      let l : LeavesAll s (outcome_of s (call_bytes c)) = by.readers s (call_bytes c) reader in
      let serves = stays_so i.machine (telling journal) n s (outcome_of s (call_bytes c)) at l.server l.entries in
      replies_so (outcome_of s (call_bytes c)) [] serves (subst IsProper (sym l.server) proper) (subst (AllByRecursion IsNoPacket) (sym l.entries) tt)
      (under_comes serves.machine i.sends n send inside c.xid number small (any serves.machine) (outcome_of s (call_bytes c)) (replies_under s c small))

  silent_so : (r : RpcReply) → Serves Mds (outcome_of s (reply_bytes r))
  silent_so r = subst (Serves Mds) (sym (reply_silent s r)) (replies_so (silence s) [] (stays_so i.machine (telling journal) n s (silence s) at refl refl) proper tt tt)

  by_send : (bytes : List ℕ) (send : MdsSend) → IsOneOf send i.sends → IsSentIn i.machine send → IsInForm send → spelled_send send ≡ (Server n, bytes) → Serves Mds (outcome_of s bytes)
  by_send bytes (CallsServer server xid uid call) inside stands form is =
      let node : Server server ≡ Server n = ap (λ (x : NodeId × List ℕ). x.0) is in
      let same : server ≡ n = cc (node) in
      subst (λ (b : List ℕ). Serves Mds (outcome_of s b)) (ap (λ (x : NodeId × List ℕ). x.1) is)
      (spoken_or xid uid call (subst (λ (k : ℕ). IsOneOf (CallsServer k xid uid call) i.sends) same inside) (subst (λ (k : ℕ). HasCalled i.machine k xid uid call) same stands.0) stands.1 form)
    where
      spoken_or : (xid uid : ℕ) (call : DsCallValue) → IsOneOf (CallsServer n xid uid call) i.sends → HasCalled i.machine n xid uid call → IsSpoken (message_of xid uid call) → xid < 2 ^ 32
          → Serves Mds (outcome_of s (ds_call_bytes xid mds_name uid call))
      spoken_or xid uid call inside h (inl has) small = spoken_so xid uid call inside h has
      spoken_or xid uid call inside h (inr (hasnt, reads)) small =
          reader_so (ds_rpc_call xid mds_name uid call) (CallsServer n xid uid call) inside refl small (λ m says. λ has same. absurd (hasnt has)) (read_is xid uid call reads)
  by_send bytes (CallsBack xid back file stateid) inside stands form is =
      subst (λ (b : List ℕ). Serves Mds (outcome_of s b)) (ap (λ (x : NodeId × List ℕ). x.1) is)
      (reader_so (recall_rpc_call xid back file stateid) (CallsBack xid back file stateid) inside refl form (λ m says. tt) (recall_is xid back file stateid))
  by_send bytes (Replies node reply) inside stands form is = subst (λ (b : List ℕ). Serves Mds (outcome_of s b)) (ap (λ (x : NodeId × List ℕ). x.1) is) (silent_so reply)
  by_send bytes (Answers node given) inside stands form is = subst (λ (b : List ℕ). Serves Mds (outcome_of s b)) (sym form.is ∙ ap (λ (x : NodeId × List ℕ). x.1) is) (silent_so form.reply)

  pub from_mds : (bytes : List ℕ) → WasSent i.sends (Server n) bytes → Serves Mds (outcome_of s bytes)
  from_mds bytes was =
      by_send bytes was.sent was.inside (all_in (IsSentIn i.machine) i.sends was.sent i.mds_is.sent was.inside) (all_in IsInForm i.sends was.sent i.forms was.inside) was.is
