-- A reply that a life of a client heard from the metadata server under the number of its compound answers this compound (RFC 5531, section 9).
use Rattle.std.proofs.Common.{◌≡◌, ◌<◌, ℕ, ◌^◌, length, List, [], ◌∷◌, ◌++◌, Result, Ok, refl, sym, ap, subst, ◌∙◌, inl, inr, arith, append-nil, append_assoc}
use Rattle.std.specs.Prelude.{map}
use Rattle.std.proofs.lemmas.Nat.{from_be_bytes-to_be_bytes_4}
use Rattle.ff_xdr.specs.declared.error.XdrError.{XdrError}
use Rattle.ff_xdr.specs.Form.{word}
use Rattle.rpc_record.specs.Calls.{RpcCall, call_bytes, word_of}
use Rattle.recall_calls.specs.RecallCalls.{recall_rpc_call}
use Rattle.rpc_record.specs.Replies.{RpcReply, ReplyFits, reply_bytes, reply_at}
use Rattle.cluster_model.specs.declared.ids.NodeId.{NodeId}
use Rattle.cluster_model.specs.declared.ids.NodeId.TheVariants.{Mds, Server, Client}
use Rattle.cluster_model.specs.declared.entry.Entry.{Entry}
use Rattle.cluster_model.specs.declared.entry.Entry.TheVariants as entry
use Rattle.cluster_model.specs.Members.{IsOneOf}
use Rattle.world_rule.specs.ClusterWorlds.{ClusterState}
use Rattle.compound_reply.specs.Replied.{success_reply}
use Rattle.mds_rule.specs.MdsStates.{MdsSend, CallsServer, CallsBack, Replies, Answers, new_mds}
use Rattle.mds_rule.specs.Spelled.{spelled_send}
use Rattle.mds_walk.specs.MdsRuns.{MdsEvent, Hears, after_event}
use Rattle.mds_histories.specs.MdsHistory.{MdsItem, Comes, Enters, Sends, mds_history}
use Rattle.mds_replies.specs.ClientCalls.{server_after, IsEventOf}
use Rattle.node_histories.specs.Weaves.{WeaveStep, Seen, entries_in, items_in}
use Rattle.node_histories.specs.NodeHistories.{IsToldByNodes}
use Rattle.node_histories.proofs.WeaveLemmas.{items_join}
use Rattle.world_moves.specs.WorldMoves.{IsRunOf}
use Rattle.client_records.specs.ClientRecords.{AreBytes}
use Rattle.client_records.proofs.HeldBytes.{by_place}
use Rattle.cluster_laws.proofs.Lists.{all_split}
use Rattle.world_journal.specs.Journal.{IsEntryInRange, IsJournalInRange}
use Rattle.world_reads.proofs.LifeRecords.{are_bytes}
use Rattle.world_reads.proofs.MdsPlaces.{Steps, SentIn, sent_in}
use Rattle.mds_replies.specs.GivenAnswers.{EachReplyIsWhole, IsAnsweredNow, EachAnswerIsNow, EachReplyIsAsked}
use Rattle.world_layouts.proofs.MdsMoments.{IsSentBy, sent_by}
use Rattle.mds_replies.specs.AnsweredRequests.{StaysRoomy, AnswersRequest, EachReplyStands}
use Rattle.world_layouts.proofs.HeardCalls.{CompoundLaws, CameFrom, Arrival, came_at, caller_of, are_fit_calls, none_answered}

in_middle : {A : Type 0} (front back : List A) (x : A) → IsOneOf x (front ++ x ∷ back)
in_middle [] back x = inl refl
in_middle (y ∷ front) back x = inr (in_middle front back x)

-- A packet of the metadata server to a client is of a send of it, in an event; what it entered by then stands before the packet.
pub record SentTo {w : ClusterState} (t : IsToldByNodes w) (past : List Entry) (number n : ℕ) (bytes : List ℕ) : Type 0 where
  pub before : List MdsEvent
  pub e : MdsEvent
  pub after : List MdsEvent
  pub split : IsEventOf t.mds.events before e after
  pub send : MdsSend
  pub sent : IsOneOf send (after_event e (server_after t.mds.servers t.mds.mirrors before)).sends
  pub spelled : spelled_send send ≡ (Client n, bytes)
  pub earlier : Steps
  pub later : Steps
  pub steps : t.mds.steps ≡ earlier ++ later
  pub front : List MdsSend
  pub items : items_in earlier ≡ mds_history (new_mds t.mds.servers t.mds.mirrors) before ++ Comes e ∷ (map Enters (after_event e (server_after t.mds.servers t.mds.mirrors before)).entries ++ map Sends front)
  pub place : entries_in earlier ≡ past

pub sent_to : (w : ClusterState) (t : IsToldByNodes w) (past behind : List Entry) (number n : ℕ) (bytes : List ℕ) → w.journal ≡ past ++ entry.Packet number Mds (Client n) bytes ∷ behind → SentTo t past number n bytes
sent_to w t past behind number n bytes is =
    let r : SentIn w t t.mds.steps past number (Client n) bytes = sent_in w t t.mds.steps [] (sym (append-nil t.mds.steps)) past behind number (Client n) bytes (t.mds_is.told ∙ is) in
    let step : WeaveStep MdsItem = Seen (Sends r.send) (entry.Packet number Mds (Client n) bytes) in
    let history : mds_history (new_mds t.mds.servers t.mds.mirrors) t.mds.events ≡ items_in r.earlier ++ Sends r.send ∷ items_in r.later =
    t.mds_is.history ∙ (ap (λ (l : Steps). items_in l) r.split ∙ items_join r.earlier (step ∷ r.later)) in
    let s : IsSentBy (new_mds t.mds.servers t.mds.mirrors) t.mds.events (items_in r.earlier) r.send = sent_by (new_mds t.mds.servers t.mds.mirrors) t.mds.events (items_in r.earlier) r.send (items_in r.later) history in
    record {
      before = s.before;
      e = s.e;
      after = s.after;
      split = s.split;
      send = r.send;
      sent = subst (λ (l : List MdsSend). IsOneOf r.send l) (sym s.sends) (in_middle s.front s.back r.send);
      spelled = r.spelled;
      earlier = r.earlier;
      later = step ∷ r.later;
      steps = r.split;
      front = s.front;
      items = s.items;
      place = r.place;
    }

-- ---- a reply

call_kind : (c : RpcCall) → word_of (call_bytes c) 4 ≡ 0
unfolding word word_of
call_kind c = from_be_bytes-to_be_bytes_4 0 (omega arith)

reply_kind : (r : RpcReply) → word_of (reply_bytes r) 4 ≡ 1
unfolding word word_of
reply_kind r = from_be_bytes-to_be_bytes_4 1 (omega arith)

call_is_no_reply : {A : Type 0} (c : RpcCall) (r : RpcReply) → call_bytes c ≡ reply_bytes r → A
call_is_no_reply c r same =
    let zero_is : word_of (call_bytes c) 4 ≡ 0 = call_kind c in
    let one_is : word_of (reply_bytes r) 4 ≡ 1 = reply_kind r in
    let both : 0 ≡ 1 = sym zero_is ∙ (ap (λ (l : List ℕ). word_of l 4) same ∙ one_is) in
    absurd cc

-- the reply that was sent, by the bytes that were heard
pub record SentReply (sends : List MdsSend) (n : ℕ) (bytes : List ℕ) : Type 0 where
  pub reply : RpcReply
  pub sent : IsOneOf (Replies (Client n) reply) sends
  pub is : bytes ≡ reply_bytes reply

abbrev fine : RpcReply → Result RpcReply XdrError
fine r = Ok r

same_reply : (x y : RpcReply) → fine x ≡ fine y → x ≡ y
same_reply x y is = cc

replies_fit : (xid : ℕ) (results : List ℕ) → xid < 2 ^ 32 → ReplyFits (success_reply xid results)
replies_fit xid results small = ((small, (refl, ((omega arith, omega arith), tt))), tt, tt)

client_is : (n k : ℕ) → Client n ≡ Client k → n ≡ k
client_is n k is = cc

-- what the metadata server replied to a life, to which call of a client, and when this came
pub record AnswersCall {w : ClusterState} (t : IsToldByNodes w) (past : List Entry) (n : ℕ) (reply : RpcReply) : Type 0 where
  pub before : List MdsEvent
  pub e : MdsEvent
  pub after : List MdsEvent
  pub split : IsEventOf t.mds.events before e after
  pub sent : IsOneOf (Replies (Client n) reply) (after_event e (server_after t.mds.servers t.mds.mirrors before)).sends
  pub earlier : Steps
  pub later : Steps
  pub steps : t.mds.steps ≡ earlier ++ later
  pub front : List MdsSend
  pub items : items_in earlier ≡ mds_history (new_mds t.mds.servers t.mds.mirrors) before ++ Comes e ∷ (map Enters (after_event e (server_after t.mds.servers t.mds.mirrors before)).entries ++ map Sends front)
  pub since : List Entry
  pub place : past ≡ entries_in earlier ++ since
  pub answers : AnswersRequest t.mds.servers t.mds.mirrors (before ++ e ∷ []) (Client n) reply
  pub asked_split : IsEventOf t.mds.events answers.early answers.f (answers.late ++ after)
  pub arrival : Arrival t answers.early (answers.late ++ after) answers.f (Client n) answers.came.bytes
  pub caller : CameFrom t (entries_in arrival.earlier) (Client n) answers.came.bytes reply.xid answers.came.v

pub record ReplyLaws : Type 0 where
  pub calls : CompoundLaws
  pub stands : EachReplyStands
  pub whole : EachReplyIsWhole
  pub now : EachAnswerIsNow
  pub asked : EachReplyIsAsked

module _ (laws : ReplyLaws) (boots : List ℕ) (w : ClusterState) (run : IsRunOf boots w) (t : IsToldByNodes w) (few : length w.machines.clients < 2 ^ 32) (range : IsJournalInRange w.journal) (roomy : StaysRoomy t.mds.servers t.mds.mirrors t.mds.events) where
  reply_of_send : (before after : List MdsEvent) (e : MdsEvent) → IsEventOf t.mds.events before e after → (n : ℕ) (bytes : List ℕ) → AreBytes bytes → (reply : RpcReply) → reply_at bytes ≡ Ok reply → (send : MdsSend)
      → IsOneOf send (after_event e (server_after t.mds.servers t.mds.mirrors before)).sends → spelled_send send ≡ (Client n, bytes) → SentReply (after_event e (server_after t.mds.servers t.mds.mirrors before)).sends n bytes
  reply_of_send before after e split n bytes are reply is (CallsServer server xid uid call) inside spelled = absurd (two_nodes (ap (λ (p : NodeId × List ℕ). p.0) spelled))
    where
      two_nodes : Server server ≡ Client n → ⊥
      two_nodes same = absurd cc
  reply_of_send before after e split n bytes are reply is (CallsBack xid back file stateid) inside spelled =
      call_is_no_reply (recall_rpc_call xid back file stateid) reply (ap (λ (p : NodeId × List ℕ). p.1) spelled ∙ (laws.calls.spells bytes reply (by_place bytes are) is).0)
  reply_of_send before after e split n bytes are reply is (Replies node r) inside spelled =
      record {
        reply = r;
        sent = subst (λ (x : NodeId). IsOneOf (Replies x r) (after_event e (server_after t.mds.servers t.mds.mirrors before)).sends) (ap (λ (p : NodeId × List ℕ). p.0) spelled) inside;
        is = sym (ap (λ (p : NodeId × List ℕ). p.1) spelled);
      }
  reply_of_send before after e split n bytes are reply is (Answers node b) inside spelled =
      let r : IsAnsweredNow e node b = laws.now t.mds.servers t.mds.mirrors before e node b inside in
      absurd
      (none_answered laws.calls boots w run t few range before after e split n r.asked b (subst (λ (x : NodeId). e.input ≡ Hears x r.asked) (ap (λ (p : NodeId × List ℕ). p.0) spelled) r.input) r.reads)

  pub asked_place : (before after early late : List MdsEvent) (e f : MdsEvent) → IsEventOf t.mds.events before e after → IsEventOf (before ++ e ∷ []) early f late → IsEventOf t.mds.events early f (late ++ after)
  asked_place before after early late e f split inside =
      split ∙ (sym (append_assoc before (e ∷ []) after) ∙ (ap (λ (l : List MdsEvent). l ++ after) inside ∙ append_assoc early (f ∷ late) after))

  -- a packet that came from the metadata server, and reads as a reply
  pub answers_call : (past behind : List Entry) (number n : ℕ) (bytes : List ℕ) → w.journal ≡ past ++ entry.Packet number Mds (Client n) bytes ∷ behind → (reply : RpcReply) → reply_at bytes ≡ Ok reply → AnswersCall t past n reply
  answers_call past behind number n bytes whole reply is =
      let s : SentTo t past number n bytes = sent_to w t past behind number n bytes whole in
      let are : AreBytes bytes = are_bytes bytes (all_split IsEntryInRange past (entry.Packet number Mds (Client n) bytes) behind (subst IsJournalInRange whole range)) in
      let r : SentReply (after_event s.e (server_after t.mds.servers t.mds.mirrors s.before)).sends n bytes = reply_of_send s.before s.after s.e s.split n bytes are reply is s.send s.sent s.spelled in
      let a : AnswersRequest t.mds.servers t.mds.mirrors (s.before ++ s.e ∷ []) (Client n) r.reply =
      laws.stands t.mds.servers t.mds.mirrors t.mds.events s.before s.after s.e (are_fit_calls laws.calls boots w run t few range) roomy s.split (Client n) r.reply r.sent in
      let asked : IsEventOf t.mds.events a.early a.f (a.late ++ s.after) = asked_place s.before s.after a.early a.late s.e a.f s.split a.split in
      let arrival : Arrival t a.early (a.late ++ s.after) a.f (Client n) a.came.bytes = came_at laws.calls boots w run t few range a.early (a.late ++ s.after) a.f asked (Client n) a.came.bytes a.came.input in
      let k : CameFrom t (entries_in arrival.earlier) (Client n) a.came.bytes r.reply.xid a.came.v =
      caller_of laws.calls boots w run t few range a.early (a.late ++ s.after) a.f (Client n) a.came.bytes arrival r.reply.xid a.came.v a.came.compound in
      let form : r.reply ≡ success_reply r.reply.xid r.reply.results = laws.whole t.mds.servers t.mds.mirrors s.before s.e (Client n) r.reply r.sent in
      let again : reply_at (reply_bytes r.reply) ≡ Ok (success_reply r.reply.xid r.reply.results) =
      ap (λ (x : RpcReply). reply_at (reply_bytes x)) form ∙ laws.calls.replies (success_reply r.reply.xid r.reply.results) (replies_fit r.reply.xid r.reply.results k.has_record.xid_fits) in
      let same : r.reply ≡ reply = form ∙ same_reply (success_reply r.reply.xid r.reply.results) reply (sym again ∙ (ap reply_at (sym r.is) ∙ is)) in
      subst (λ (x : RpcReply). AnswersCall t past n x) same
      (record {
        before = s.before;
        e = s.e;
        after = s.after;
        split = s.split;
        sent = r.sent;
        earlier = s.earlier;
        later = s.later;
        steps = s.steps;
        front = s.front;
        items = s.items;
        since = [];
        place = sym s.place ∙ sym (append-nil (entries_in s.earlier));
        answers = a;
        asked_split = asked;
        arrival = arrival;
        caller = k;
      })
