-- A record that a client heard from a data server is its answer to what came in the same event, under the number of that call (RFC 5531, section 9).
use Rattle.std.proofs.Common.{◌≡◌, ℕ, true, List, ◌∷◌, ◌++◌, Some, Result, Ok, refl, sym, ap, subst, ◌∙◌}
use Rattle.std.proofs.lemmas.Option.{same_Some}
use Rattle.ff_xdr.specs.declared.error.XdrError.{XdrError}
use Rattle.rpc_record.specs.Replies.{RpcReply, reply_bytes, reply_at}
use Rattle.cluster_model.specs.declared.ids.NodeId.{NodeId}
use Rattle.cluster_model.specs.declared.ids.NodeId.TheVariants.{Mds, Server, Client}
use Rattle.cluster_model.specs.declared.entry.Entry.{Entry}
use Rattle.cluster_model.specs.declared.entry.Entry.TheVariants as entry
use Rattle.cluster_model.specs.Server.{ServerState}
use Rattle.cluster_model.specs.DsCalls.{ds_step}
use Rattle.world_rule.specs.ClusterWorlds.{ClusterState}
use Rattle.ds_files.specs.Receive.{outcome_of}
use Rattle.ds_calls.specs.GivenReplies.{reply_of_call}
use Rattle.ds_calls.specs.DsCallLaws.{DsMessage, HasRecord, record_of}
use Rattle.same_server.specs.SameServer.{DoesTheCall, caller_of_user}
use Rattle.proper_servers.specs.ProperServers.{IsProper}
use Rattle.node_histories.specs.NodeHistories.{AnswersArrival, is_client_entry, is_mds_entry, is_server_entry, is_world_entry, Origin, EnteredByClient, EnteredByMds, EnteredByServer, EnteredByWorld, SentByClient, SentByMds, SentByServer, IsToldByNodes}
use Rattle.world_reads.proofs.OwnEntries.{no_true}

-- ---- the reply to a record

-- it has the number of the call, and is read as its answer
pub record SaysAnswer (s : ServerState) (m : DsMessage) (reply : RpcReply) : Type 0 where
  pub number : reply.xid ≡ m.xid
  pub answer : reply_of_call m.call reply ≡ (ds_step s (caller_of_user m.user) m.call).reply

abbrev read_well : RpcReply → Result RpcReply XdrError
read_well reply = Ok reply

same_reply : (x y : RpcReply) → read_well x ≡ read_well y → x ≡ y
same_reply x y is = cc

pub answer_to : ((s : ServerState) (m : DsMessage) → IsProper s → HasRecord m → DoesTheCall s m) → (s : ServerState) (m : DsMessage) → IsProper s → HasRecord m → (bytes : List ℕ) (reply : RpcReply)
    → (outcome_of s (record_of m)).reply ≡ Some bytes → reply_at bytes ≡ Ok reply → SaysAnswer s m reply
answer_to same s m proper has bytes reply is reads =
    let d : DoesTheCall s m = same s m proper has in
    let spelled : reply_bytes d.reply ≡ bytes = same_Some (reply_bytes d.reply) bytes (sym d.bytes ∙ is) in
    let one : d.reply ≡ reply = same_reply d.reply reply (sym d.again ∙ (ap reply_at spelled ∙ reads)) in
    record { number = sym (ap (λ (r : RpcReply). r.xid) one) ∙ d.number; answer = ap (λ (r : RpcReply). reply_of_call m.call r) (sym one) ∙ d.answer }

-- ---- in the journal

module _ (w : ClusterState) (t : IsToldByNodes w) where
  by_origin : (past : List Entry) (number k n : ℕ) (bytes : List ℕ) (e : Entry) → e ≡ entry.Packet number (Server k) (Client n) bytes → Origin t.stories t.mds past e → AnswersArrival past k (Client n) bytes
  by_origin past number k n bytes e is (EnteredByClient m l life kind stands) = no_true (subst (λ (x : Entry). is_client_entry x ≡ true) is kind)
  by_origin past number k n bytes e is (EnteredByMds kind stands) = no_true (subst (λ (x : Entry). is_mds_entry x ≡ true) is kind)
  by_origin past number k n bytes e is (EnteredByServer kind) = no_true (subst (λ (x : Entry). is_server_entry x ≡ true) is kind)
  by_origin past number k n bytes e is (EnteredByWorld kind) = no_true (subst (λ (x : Entry). is_world_entry x ≡ true) is kind)
  by_origin past number k n bytes e is (SentByClient m other to sent l send same life stands) = not_client other m to sent (sym is ∙ same)
    where
      not_client : (other m : ℕ) (to : NodeId) (sent : List ℕ) → entry.Packet number (Server k) (Client n) bytes ≡ entry.Packet other (Client m) to sent → AnswersArrival past k (Client n) bytes
      not_client other m to sent two = absurd cc
  by_origin past number k n bytes e is (SentByMds other to sent send same stands) = not_mds other to sent (sym is ∙ same)
    where
      not_mds : (other : ℕ) (to : NodeId) (sent : List ℕ) → entry.Packet number (Server k) (Client n) bytes ≡ entry.Packet other Mds to sent → AnswersArrival past k (Client n) bytes
      not_mds other to sent two = absurd cc
  by_origin past number k n bytes e is (SentByServer m other to sent same answers) =
      let two : entry.Packet other (Server m) to sent ≡ entry.Packet number (Server k) (Client n) bytes = sym same ∙ is in
      subst (λ (x : ℕ). AnswersArrival past x (Client n) bytes) (server_is other m to sent two) (subst (λ (x : NodeId). AnswersArrival past m x bytes) (to_is other m to sent two)
      (subst (λ (x : List ℕ). AnswersArrival past m to x) (bytes_are other m to sent two) answers))
    where
      server_is : (other m : ℕ) (to : NodeId) (sent : List ℕ) → entry.Packet other (Server m) to sent ≡ entry.Packet number (Server k) (Client n) bytes → m ≡ k
      server_is other m to sent two = cc

      to_is : (other m : ℕ) (to : NodeId) (sent : List ℕ) → entry.Packet other (Server m) to sent ≡ entry.Packet number (Server k) (Client n) bytes → to ≡ Client n
      to_is other m to sent two = cc

      bytes_are : (other m : ℕ) (to : NodeId) (sent : List ℕ) → entry.Packet other (Server m) to sent ≡ entry.Packet number (Server k) (Client n) bytes → sent ≡ bytes
      bytes_are other m to sent two = cc

  -- what a data server sent a client answers what came
  pub answers_arrival : (past behind : List Entry) (number k n : ℕ) (bytes : List ℕ) → w.journal ≡ past ++ entry.Packet number (Server k) (Client n) bytes ∷ behind → AnswersArrival past k (Client n) bytes
  answers_arrival past behind number k n bytes is = by_origin past number k n bytes (entry.Packet number (Server k) (Client n) bytes) refl (t.origins past behind (entry.Packet number (Server k) (Client n) bytes) is)
