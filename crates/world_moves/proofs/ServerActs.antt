-- What a data server makes of a packet, by who sent it.
use Rattle.std.proofs.Common.{◌≡◌, ◌<◌, ℕ, ◌^◌, ◌-◌, Bool, true, false, List, [], ◌∷◌, ◌++◌, length, Option, Some, None, refl, sym, ap, subst, ◌∙◌, inl, inr, arith}
use Rattle.std.specs.Prelude.{slice_get, slice_set}
use Rattle.std.specs.Int.{w32, from_be_bytes}
use Rattle.std.specs.List.{AllByRecursion}
use Rattle.std.proofs.lemmas.Nat.{from_be_bytes-to_be_bytes_4}
use Rattle.ff_xdr.specs.Form.{word}
use Rattle.rpc_record.specs.Calls.{RpcCall, call_bytes}
use Rattle.rpc_record.specs.Replies.{RpcReply, reply_bytes}
use Rattle.cluster_model.specs.declared.ids.NodeId.{NodeId}
use Rattle.cluster_model.specs.declared.ids.NodeId.TheVariants.{Mds, Server, Client}
use Rattle.cluster_model.specs.declared.ids.FileId.{FileId}
use Rattle.cluster_model.specs.declared.ids.MirrorId.{MirrorId}
use Rattle.cluster_model.specs.declared.entry.Entry.{Entry}
use Rattle.cluster_model.specs.File.{Writes, Commits, Sets, Restarts}
use Rattle.cluster_model.specs.Server.{ServerState, Caller, Effect, NoEffect, OnFile, NewFile, applied_entries, committed_entries, owner_entries, entries_of, mirror_of}
use Rattle.cluster_model.specs.DsCalls.{DsCallValue, Create, SetAttr, Write, Commit, Read, DsReplyValue, ds_plan, ds_step}
use Rattle.cluster_model.specs.Members.{IsOneOf}
use Rattle.ds_files.specs.Receive.{Outcome, outcome_of}
use Rattle.ds_files.specs.Records.{sent_to}
use Rattle.cluster_laws.specs.Machine.{Machine, Reply, numbered_at, caller_by, may_use}
use Rattle.machine_moves.specs.MachineGoesOn.{MachineGoesOn, HasCalled}
use Rattle.nfs4_types.specs.declared.stateid.Stateid.{Stateid}
use Rattle.nfs4_session.specs.declared.back.BackCall.{BackCall}
use Rattle.recall_calls.specs.RecallCalls.{recall_rpc_call, recall_bytes}
use Rattle.ds_calls.specs.MadeCalls.{ds_rpc_call, ds_call_bytes}
use Rattle.ds_calls.specs.DsCallLaws.{IsSpeakable, DsMessage, HasRecord}
use Rattle.same_server.specs.SameServer.{DoesTheCall}
use Rattle.proper_servers.specs.ProperServers.{IsProper, is_of_bytes}
use Rattle.user_records.specs.UserRecords.{procedure_word, IsUserRecord, DoesAsUser, DoesNothing, DoesCall, UsersDoNoMore}
use Rattle.client_state.specs.ClientSends as client
use Rattle.client_sends.specs.SendsOfUsers.{IsRecordOfUser}
use Rattle.mds_receive.specs.MdsReceive.{of_reply}
use Rattle.mds_rule.specs.MdsStates.{MdsSend, CallsServer, CallsBack, Replies, Answers}
use Rattle.mds_rule.specs.Spelled.{mds_name, spelled_send}
use Rattle.mds_laws.specs.MdsRunLaws.{number_sent}
use Rattle.mds_laws.proofs.Keeping.{is_read_call}
use Rattle.mds_moves.specs.MdsMoves.{message_of, IsSpoken, IsSentIn, IsSendAnswered, MayComeFrom}
use Rattle.mds_forms.specs.Forms.{IsNoPacket, IsInForm}
use Rattle.world_moves.specs.WorldMoves.{IsCarried}
use Rattle.world_moves.proofs.ServerMoves.{GoesAt, stays_at, delivers, answered, as_user}
use Rattle.world_moves.proofs.PlainReplies.{plain_answer}
use Rattle.world_moves.proofs.ReplyRecords.{incoming_reply, reply_silent, ReadsUnder, Passes, Reads, reads_under, RepliesUnder, NoReply, HasReply, replies_under}

-- ---- entries of a data server are no packets

applied_none : (m : MirrorId) (uid at : ℕ) (bytes : List ℕ) (more : List Entry) → AllByRecursion IsNoPacket more → AllByRecursion IsNoPacket (applied_entries m uid at bytes ++ more)
applied_none m uid at [] more none = none
applied_none m uid at (b ∷ bytes) more none = (tt, none)

committed_none : (m : MirrorId) (synced : Bool) → AllByRecursion IsNoPacket (committed_entries m synced)
committed_none m true = (tt, tt)
committed_none m false = tt

owner_none : (m : MirrorId) (owner : Option ℕ) → AllByRecursion IsNoPacket (owner_entries m owner)
owner_none m None = tt
owner_none m (Some uid) = (tt, tt)

pub effect_none : (s : ServerState) (uid : ℕ) (does : Effect) → AllByRecursion IsNoPacket (entries_of s uid does)
effect_none s uid NoEffect = tt
effect_none s uid (OnFile index (Writes at synced bytes)) = applied_none (mirror_of s index) uid at bytes (committed_entries (mirror_of s index) synced) (committed_none (mirror_of s index) synced)
effect_none s uid (OnFile index Commits) = (tt, tt)
effect_none s uid (OnFile index (Sets changes)) = owner_none (mirror_of s index) changes.owner
effect_none s uid (OnFile index (Restarts pieces)) = tt
effect_none s uid (NewFile name owner group mode) = (tt, tt)

user_none : (s : ServerState) (o : Outcome) → DoesAsUser s o → AllByRecursion IsNoPacket o.entries
user_none s o (DoesNothing server entries) = subst (AllByRecursion IsNoPacket) (sym entries) tt
user_none s o (DoesCall uid gid call may server entries) = subst (AllByRecursion IsNoPacket) (sym entries) (effect_none s uid (ds_plan s (caller_by uid gid) call).effect)

-- ---- a server stays proper

bytes_call : (call : DsCallValue) → may_use call ≡ true → is_of_bytes call ≡ true
bytes_call (Create name owner) may = may
bytes_call (SetAttr fileid owner guard) may = may
bytes_call (Write fileid at synced bytes) may = refl
bytes_call (Commit fileid) may = refl
bytes_call (Read fileid at count) may = refl

-- who reads may do so
read_used : (call : DsCallValue) → is_read_call call ≡ true → may_use call ≡ true
read_used (Create name owner) is = is
read_used (SetAttr fileid owner guard) is = is
read_used (Write fileid at synced bytes) is = refl
read_used (Commit fileid) is = refl
read_used (Read fileid at count) is = refl

-- ---- what is known of servers and records

-- the laws of crates below
pub record ServerLaws : Type 0 where
  pub does : (s : ServerState) (bytes : List ℕ) → UsersDoNoMore s bytes
  pub record_of : (s : client.ClientSend) (server : ℕ) (bytes : List ℕ) → IsRecordOfUser s server bytes
  pub same : (s : ServerState) (m : DsMessage) → IsProper s → HasRecord m → DoesTheCall s m
  pub steps : (s : ServerState) (caller : Caller) (call : DsCallValue) → IsProper s → IsSpeakable call → IsProper (ds_step s caller call).server
  pub users : (s : ServerState) (caller : Caller) (call : DsCallValue) → is_of_bytes call ≡ true → IsProper s → IsProper (ds_step s caller call).server

user_proper : ServerLaws → (s : ServerState) (o : Outcome) → DoesAsUser s o → IsProper s → IsProper o.server
user_proper laws s o (DoesNothing server entries) i = subst IsProper (sym server) i
user_proper laws s o (DoesCall uid gid call may server entries) i = subst IsProper (sym server) (laws.users s (caller_by uid gid) call (bytes_call call may) i)

-- what comes of a packet at a data server: the machine goes on, and the reply is carried
pub record Serves (mc : Machine) (ss : List MdsSend) (n : ℕ) (from : NodeId) (o : Outcome) : Type 0 where
  pub at : GoesAt mc n o.server o.entries
  pub proper : IsProper o.server
  pub none : AllByRecursion IsNoPacket o.entries
  pub sends : AllByRecursion (λ (x : NodeId × List ℕ). IsCarried at.machine ss (Server n) x.0 x.1) (sent_to from o.reply)

-- ---- a client's packet

to_client : (mc : Machine) (ss : List MdsSend) (n c : ℕ) (reply : Option (List ℕ)) → AllByRecursion (λ (x : NodeId × List ℕ). IsCarried mc ss (Server n) x.0 x.1) (sent_to (Client c) reply)
to_client mc ss n c None = tt
to_client mc ss n c (Some bytes) = (tt, tt)

pub serves_client : ServerLaws → (mc : Machine) (ss : List MdsSend) (n c : ℕ) (s : ServerState) (bytes : List ℕ) → numbered_at mc.servers n ≡ Some s → IsProper s → IsUserRecord bytes
    → Serves mc ss n (Client c) (outcome_of s bytes)
serves_client laws mc ss n c s bytes at i user =
    let d : DoesAsUser s (outcome_of s bytes) = laws.does s bytes user in
    let g : GoesAt mc n (outcome_of s bytes).server (outcome_of s bytes).entries = as_user mc c n s (outcome_of s bytes) at d in
    record { at = g; proper = user_proper laws s (outcome_of s bytes) d i; none = user_none s (outcome_of s bytes) d; sends = to_client g.machine ss n c (outcome_of s bytes).reply }

-- ---- the metadata server's packet

-- the word at place 20 is that of the procedure, whatever the numbers are
pub procedure_is : (c : RpcCall) → procedure_word (call_bytes c) ≡ word c.procedure
unfolding word
procedure_is c = refl

pub same_word : (a b : ℕ) → a < 2 ^ 32 → b < 2 ^ 32 → word a ≡ word b → a ≡ b
unfolding word
same_word a b first second e = sym (from_be_bytes-to_be_bytes_4 a first) ∙ ap (λ (w : List ℕ). from_be_bytes w32 w) e ∙ from_be_bytes-to_be_bytes_4 b second

-- a callback is a user's record: its procedure is 1
pub recall_user : (xid : ℕ) (back : BackCall) (file : FileId) (stateid : Stateid) → IsUserRecord (recall_bytes xid back file stateid)
recall_user xid back file stateid = (
  λ e. let one : 1 ≡ 2 = same_word 1 2 (omega arith) (omega arith) (sym (procedure_is (recall_rpc_call xid back file stateid)) ∙ e) in absurd (omega (arith, one)),
  λ e. let one : 1 ≡ 8 = same_word 1 8 (omega arith) (omega arith) (sym (procedure_is (recall_rpc_call xid back file stateid)) ∙ e) in absurd (omega (arith, one)),
)

-- what is replied under the number of a send is passed over, or read as its reply
module _ (mc : Machine) (ss : List MdsSend) (n : ℕ) (sent : MdsSend) (inside : IsOneOf sent ss) (xid : ℕ) (number : number_sent sent ≡ Some xid) (small : xid < 2 ^ 32)
    (any : (says : DsCallValue → DsReplyValue) → IsSendAnswered mc n says sent) where
  comes_read : (bytes : List ℕ) → ReadsUnder bytes xid → MayComeFrom mc ss n bytes
  comes_read bytes (Passes is) = inl is
  comes_read bytes (Reads reply is its) = inr (record { reply = reply; reads = is; sent = sent; inside = inside; number = number ∙ ap Some (sym its); answers = any _ })

  reply_comes : (r : RpcReply) → r.xid ≡ xid → MayComeFrom mc ss n (reply_bytes r)
  reply_comes r is = comes_read (reply_bytes r) (subst (ReadsUnder (reply_bytes r)) is (reads_under r (subst (λ (x : ℕ). x < 2 ^ 32) (sym is) small)))

  pub under_comes : (o : Outcome) → RepliesUnder o xid → AllByRecursion (λ (x : NodeId × List ℕ). IsCarried mc ss (Server n) x.0 x.1) (sent_to Mds o.reply)
  under_comes o (NoReply none) = subst (λ (r : Option (List ℕ)). AllByRecursion (λ (x : NodeId × List ℕ). IsCarried mc ss (Server n) x.0 x.1) (sent_to Mds r)) (sym none) tt
  under_comes o (HasReply r is its) = subst (λ (b : Option (List ℕ)). AllByRecursion (λ (x : NodeId × List ℕ). IsCarried mc ss (Server n) x.0 x.1) (sent_to Mds b)) (sym is) (reply_comes r its, tt)

module _ (laws : ServerLaws) (mc : Machine) (ss : List MdsSend) (n : ℕ) (s : ServerState) (at : numbered_at mc.servers n ≡ Some s) (i : IsProper s) where
  -- a record of a user's, to whose reply nothing is asked but its number
  serves_user : (c : RpcCall) (sent : MdsSend) → IsOneOf sent ss → number_sent sent ≡ Some c.xid → c.xid < 2 ^ 32 → ((m : Machine) (says : DsCallValue → DsReplyValue) → IsSendAnswered m n says sent)
      → IsUserRecord (call_bytes c) → Serves mc ss n Mds (outcome_of s (call_bytes c))
  serves_user c sent inside number small any user =
      let o : Outcome = outcome_of s (call_bytes c) in
      let d : DoesAsUser s (outcome_of s (call_bytes c)) = laws.does s (call_bytes c) user in
      let g : GoesAt mc n (outcome_of s (call_bytes c)).server (outcome_of s (call_bytes c)).entries = as_user mc 0 n s (outcome_of s (call_bytes c)) at d in
      record {
        at = g;
        proper = user_proper laws s (outcome_of s (call_bytes c)) d i;
        none = user_none s (outcome_of s (call_bytes c)) d;
        sends = under_comes g.machine ss n sent inside c.xid number small (any g.machine) (outcome_of s (call_bytes c)) (replies_under s c small);
      }

  -- a call whose numbers fit
  serves_call : (xid uid : ℕ) (call : DsCallValue) → IsOneOf (CallsServer n xid uid call) ss → HasCalled mc n xid uid call → HasRecord (message_of xid uid call) → Serves mc ss n Mds (outcome_of s (ds_call_bytes xid mds_name uid call))
  serves_call xid uid call inside h has =
      let d : DoesTheCall s (message_of xid uid call) = laws.same s (message_of xid uid call) i has in
      let g : GoesAt mc n (ds_step s (caller_by uid uid) call).server (ds_step s (caller_by uid uid) call).entries = delivers mc h.place Mds n xid uid uid call s h.there at in
      let last : slice_get g.machine.packets (length mc.packets) ≡ Some (Reply h.place n Mds xid (ds_step s (caller_by uid uid) call).reply) = answered mc h.place Mds n xid uid uid call s h.there at in
      let comes : MayComeFrom g.machine ss n (reply_bytes d.reply) =
      inr (record {
        reply = d.reply;
        reads = incoming_reply d.reply ∙ ap of_reply d.again;
        sent = CallsServer n xid uid call;
        inside = inside;
        number = ap Some (sym d.number);
        answers = λ fits same. record {
          given = (ds_step s (caller_by uid uid) call).reply;
          stands = record { uid = uid; called = h.place; call_there = g.like.packets h.place _ h.there; place = length mc.packets; there = last };
          same = d.answer;
          plain = plain_answer s (caller_by uid uid) call;
        };
      }) in
      record {
        at = record {
          machine = g.machine;
          goes = subst (λ (l : List Entry). MachineGoesOn mc l g.machine) (sym d.entries) g.goes;
          servers = g.servers ∙ ap (λ (x : ServerState). slice_set mc.servers (n - 1) x) (sym d.server);
          like = g.like;
        };
        proper = subst IsProper (sym d.server) (laws.steps s (caller_by uid uid) call i has.call_fits);
        none = subst (AllByRecursion IsNoPacket) (sym d.entries) (effect_none s uid (ds_plan s (caller_by uid uid) call).effect);
        sends = subst (λ (r : Option (List ℕ)). AllByRecursion (λ (x : NodeId × List ℕ). IsCarried g.machine ss (Server n) x.0 x.1) (sent_to Mds r)) (sym d.bytes) (comes, tt);
      }

  serves_spoken : (xid uid : ℕ) (call : DsCallValue) → IsOneOf (CallsServer n xid uid call) ss → HasCalled mc n xid uid call → IsSpoken (message_of xid uid call) → xid < 2 ^ 32 → Serves mc ss n Mds (outcome_of s (ds_call_bytes xid mds_name uid call))
  serves_spoken xid uid call inside h (inl has) small = serves_call xid uid call inside h has
  serves_spoken xid uid call inside h (inr (hasnt, reads)) small =
      serves_user (ds_rpc_call xid mds_name uid call) (CallsServer n xid uid call) inside refl small (λ m says. λ has same. absurd (hasnt has))
      (laws.record_of (client.CallsServer n xid mds_name uid call) n (ds_call_bytes xid mds_name uid call) (read_used call reads) refl)

  serves_silent : (r : RpcReply) → Serves mc ss n Mds (outcome_of s (reply_bytes r))
  serves_silent r = subst (λ (o : Outcome). Serves mc ss n Mds o) (sym (reply_silent s r)) (record { at = stays_at mc n s [] at refl; proper = i; none = tt; sends = tt })

abbrev Sent : Type 0
Sent = NodeId × List ℕ

-- what the metadata server sent
pub serves_mds : ServerLaws → (mc : Machine) (ss : List MdsSend) (n : ℕ) (s : ServerState) → numbered_at mc.servers n ≡ Some s → IsProper s → (bytes : List ℕ) (sent : MdsSend) → IsOneOf sent ss → IsSentIn mc sent → IsInForm sent
    → spelled_send sent ≡ (Server n, bytes) → Serves mc ss n Mds (outcome_of s bytes)
serves_mds laws mc ss n s at i bytes (CallsServer server xid uid call) inside stands form is =
    let node : Server server ≡ Server n = ap (λ (x : Sent). x.0) is in
    let same : server ≡ n = cc (node) in
    subst (λ (b : List ℕ). Serves mc ss n Mds (outcome_of s b)) (ap (λ (x : Sent). x.1) is)
    (subst (λ (k : ℕ). numbered_at mc.servers k ≡ Some s → Serves mc ss k Mds (outcome_of s (ds_call_bytes xid mds_name uid call))) same
    (λ there. serves_spoken laws mc ss server s there i xid uid call inside stands.0 stands.1 form) at)
serves_mds laws mc ss n s at i bytes (CallsBack xid back file stateid) inside stands form is =
    subst (λ (b : List ℕ). Serves mc ss n Mds (outcome_of s b)) (ap (λ (x : Sent). x.1) is)
    (serves_user laws mc ss n s at i (recall_rpc_call xid back file stateid) (CallsBack xid back file stateid) inside refl form (λ m says. tt) (recall_user xid back file stateid))
serves_mds laws mc ss n s at i bytes (Replies node reply) inside stands form is =
    subst (λ (b : List ℕ). Serves mc ss n Mds (outcome_of s b)) (ap (λ (x : Sent). x.1) is) (serves_silent laws mc ss n s at i reply)
serves_mds laws mc ss n s at i bytes (Answers node given) inside stands form is =
    subst (λ (b : List ℕ). Serves mc ss n Mds (outcome_of s b)) (sym form.is ∙ ap (λ (x : Sent). x.1) is) (serves_silent laws mc ss n s at i form.reply)
