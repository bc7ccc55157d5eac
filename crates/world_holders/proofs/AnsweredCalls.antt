-- A reply that a life heard to a call to a data server answers it in the journal: all that its client sent there under this number is this call's
-- record (RFC 5531, section 9).
use Rattle.std.proofs.Common.{◌≡◌, ◌<◌, ℕ, ◌^◌, List, [], ◌∷◌, ◌++◌, Some, refl, sym, ap, subst, ◌∙◌, append_assoc}
use Rattle.std.specs.Prelude.{take}
use Rattle.std.specs.Int.{w32, from_be_bytes}
use Rattle.std.proofs.lemmas.Nat.{from_be_bytes-to_be_bytes_4}
use Rattle.ff_xdr.specs.Form.{word}
use Rattle.rpc_record.specs.Calls.{RpcCall, call_bytes}
use Rattle.cluster_model.specs.declared.ids.NodeId.{NodeId}
use Rattle.cluster_model.specs.declared.ids.NodeId.TheVariants.{Server, Client}
use Rattle.cluster_model.specs.declared.entry.Entry.{Entry}
use Rattle.cluster_model.specs.declared.entry.Entry.TheVariants.{Packet}
use Rattle.cluster_model.specs.DsCalls.{DsCallValue, DsReplyValue}
use Rattle.world_rule.specs.ClusterWorlds.{ClusterState}
use Rattle.ds_calls.specs.MadeCalls.{ds_rpc_call}
use Rattle.ds_calls.specs.DsCallLaws.{DsMessage, record_of}
use Rattle.client_state.specs.ClientSends.{ClientSend, CallsServer, spelled_send}
use Rattle.client_laws.specs.ClientHistory.{HistoryItem, Hears, Enters, Sends, HasItem}
use Rattle.client_laws.specs.ClientRunLaws.{IsDsReply}
use Rattle.node_histories.specs.Weaves.{Seen, items_in, HasPacket}
use Rattle.node_histories.specs.ClientLives.{Life}
use Rattle.node_histories.specs.NodeHistories.{HasLife, IsToldByNodes}
use Rattle.node_histories.proofs.WeaveLemmas.{items_join}
use Rattle.holder_parts.specs.CoveredRecords.{WasPosted, IsAnsweredSo}
use Rattle.world_layouts.specs.WorldLayouts.{journal_at}
use Rattle.world_holders.proofs.LowerLaws.{HasCallLaws}
use Rattle.world_holders.proofs.CallNumbers.{HasCall, same_call}
use Rattle.world_holders.proofs.LifePlaces.{LifeSteps, has_front, LifeIs, life_of, AreOfStory, of_story}
use Rattle.world_holders.proofs.PostedCalls.{calling, PostedCall, posted_call, send_fits}

-- ---- the number of a record

number_is : (c : RpcCall) → take 4 (call_bytes c) ≡ word c.xid
unfolding word
number_is c = refl

same_word : (a b : ℕ) → a < 2 ^ 32 → b < 2 ^ 32 → word a ≡ word b → a ≡ b
unfolding word
same_word a b first second is = sym (from_be_bytes-to_be_bytes_4 a first) ∙ ap (λ (w : List ℕ). from_be_bytes w32 w) is ∙ from_be_bytes-to_be_bytes_4 b second

pub record_number : (m : DsMessage) → take 4 (record_of m) ≡ word m.xid
record_number m = number_is (ds_rpc_call m.xid m.machine m.user m.call)

abbrev bytes_of_item : HistoryItem → List ℕ
bytes_of_item (Sends send) = (spelled_send send).1
bytes_of_item (Hears input) = []
bytes_of_item (Enters e) = []

-- ---- a packet in a longer journal

pub posted_later : (journal more : List Entry) (from to : NodeId) (bytes : List ℕ) → WasPosted journal from to bytes → WasPosted (journal ++ more) from to bytes
posted_later journal more from to bytes p = record {
  number = p.number;
  before = p.before;
  behind = p.behind ++ more;
  split = ap (λ (l : List Entry). l ++ more) p.split ∙ append_assoc p.before (Packet p.number from to bytes ∷ p.behind) more;
}

pub posted_by : (journal : List Entry) (number : ℕ) (from to : NodeId) (bytes : List ℕ) → HasPacket journal number from to bytes → WasPosted journal from to bytes
posted_by journal number from to bytes p = record { number = number; before = p.before; behind = p.behind; split = p.split }

-- ---- all that was sent under the number

module _ (w : ClusterState) (t : IsToldByNodes w) (laws : HasCallLaws w) where
  -- a packet under the number of a call of a life is this life's, and of this call
  pub record IsItsPacket (n server : ℕ) (l : Life) (xid : ℕ) (name : List ℕ) (uid : ℕ) (call : DsCallValue) (journal : List Entry) (bytes : List ℕ) : Type 0 where
    pub is : bytes ≡ record_of (record { xid = xid; machine = name; user = uid; call = call })
    pub earlier : LifeSteps
    pub later : LifeSteps
    pub send : ClientSend
    pub packet : Entry
    pub behind : List Entry
    pub split : l.steps ≡ earlier ++ Seen (Sends send) packet ∷ later
    pub place : journal ≡ journal_at l earlier ++ packet ∷ behind
    pub called : HasItem (items_in (earlier ++ Seen (Sends send) packet ∷ [])) (calling server xid name uid call)

  pub its_packet : (n server : ℕ) (l : Life) → HasLife t.stories n l → (xid : ℕ) (name : List ℕ) (uid : ℕ) (call : DsCallValue) → HasItem (items_in l.steps) (calling server xid name uid call) → (journal rest : List Entry) → w.journal ≡ journal ++ rest → (bytes : List ℕ)
      → WasPosted journal (Client n) (Server server) bytes → take 4 bytes ≡ word xid → IsItsPacket n server l xid name uid call journal bytes
  its_packet n server l its xid name uid call has journal rest whole bytes p number = by_same (same_call laws.numbered n o.story.newest o.story.older o.lives.lives q.life l o.first o.second sends mine xid its_call (has, refl))
    where
      packet : Entry
      packet = Packet p.number (Client n) (Server server) bytes

      mine : ClientSend
      mine = CallsServer server xid name uid call

      at : w.journal ≡ p.before ++ packet ∷ (p.behind ++ rest)
      at = whole ∙ (ap (λ (x : List Entry). x ++ rest) p.split ∙ append_assoc p.before (packet ∷ p.behind) rest)

      q : PostedCall t n server p.before packet bytes
      q = posted_call w t laws p.before (p.behind ++ rest) p.number n server bytes at

      sends : ClientSend
      sends = CallsServer server q.xid q.name q.uid q.call

      i : LifeIs w t laws.numbered n l
      i = life_of w t laws.numbered n l its

      o : AreOfStory w t n q.life l
      o = of_story w t n q.life l q.its its

      xid_fits : xid < 2 ^ 32
      xid_fits = (send_fits w t laws n l i mine has).0.xid_fits

      same_number : q.xid ≡ xid
      same_number = same_word q.xid xid q.fits.xid_fits xid_fits (sym (record_number (record { xid = q.xid; machine = q.name; user = q.uid; call = q.call })) ∙ (ap (λ (b : List ℕ). take 4 b) (sym q.is) ∙ number))

      within : HasItem (items_in q.life.steps) (Sends sends)
      within =
          subst (λ (h : List HistoryItem). HasItem h (Sends sends))
          (sym (items_join (q.earlier ++ Seen (Sends q.send) packet ∷ []) q.later) ∙ ap (λ (s : LifeSteps). items_in s) (append_assoc q.earlier (Seen (Sends q.send) packet ∷ []) q.later ∙ sym q.split))
          (has_front (items_in (q.earlier ++ Seen (Sends q.send) packet ∷ [])) (items_in q.later) (Sends sends) q.called)

      its_call : HasCall q.life sends xid
      its_call = (within, ap (λ (x : ℕ). Some x) same_number)

      by_same : (q.life ≡ l) × (Sends sends ≡ Sends mine) → IsItsPacket n server l xid name uid call journal bytes
      by_same (life, item) = record {
        is = q.is ∙ ap bytes_of_item item;
        earlier = q.earlier;
        later = q.later;
        send = q.send;
        packet = packet;
        behind = p.behind;
        split = ap (λ (x : Life). x.steps) (sym life) ∙ q.split;
        place = p.split ∙ ap (λ (x : List Entry). x ++ packet ∷ p.behind) (q.place ∙ ap (λ (x : Life). journal_at x q.earlier) life);
        called = subst (λ (x : HistoryItem). HasItem (items_in (q.earlier ++ Seen (Sends q.send) packet ∷ [])) x) item q.called;
      }

  -- ---- a call is answered

  pub has_answered : (n server : ℕ) (l : Life) → HasLife t.stories n l → (xid : ℕ) (name : List ℕ) (uid : ℕ) (call : DsCallValue) → HasItem (items_in l.steps) (calling server xid name uid call) → (journal rest : List Entry) → w.journal ≡ journal ++ rest → (bytes : List ℕ)
      → WasPosted journal (Server server) (Client n) bytes → (says : DsReplyValue) → IsDsReply bytes xid call says → IsAnsweredSo journal n server (record { xid = xid; machine = name; user = uid; call = call }) says
  has_answered n server l its xid name uid call has journal rest whole bytes came says reply = record {
    fits = (send_fits w t laws n l (life_of w t laws.numbered n l its) (CallsServer server xid name uid call) has).0;
    only = λ other posted number. (its_packet n server l its xid name uid call has journal rest whole other posted number).is;
    bytes = bytes;
    came = came;
    reply = reply.reply;
    reply_is = reply.reply_is;
    number = reply.number;
    says_so = reply.says_so;
  }
