-- What holds of the metadata server and of packets stays, when the machine goes on and more is sent.
use Rattle.std.proofs.Common.{◌≡◌, ◌<◌, ℕ, List, [], ◌∷◌, sym, subst, ◌∙◌, inl, inr, ◌⊎◌}
use Rattle.std.specs.List.{AllByRecursion}
use Rattle.cluster_model.specs.declared.ids.NodeId.{NodeId}
use Rattle.cluster_model.specs.declared.ids.NodeId.TheVariants.{Mds, Server, Client}
use Rattle.cluster_model.specs.declared.entry.Entry.{Entry}
use Rattle.cluster_model.specs.declared.entry.Entry.TheVariants.{Packet}
use Rattle.cluster_model.specs.DsCalls.{DsCallValue, DsReplyValue}
use Rattle.cluster_model.specs.Members.{IsOneOf}
use Rattle.cluster_laws.specs.Machine.{Machine, fresh_of}
use Rattle.machine_moves.specs.MachineMoves.{KeepsPackets}
use Rattle.machine_moves.proofs.Packets.{still_called, still_answered}
use Rattle.mds_rule.specs.MdsStates.{MdsSend, CallsServer, CallsBack, Replies, Answers, MdsValue}
use Rattle.mds_walk.proofs.Lists.{AllOf}
use Rattle.mds_moves.specs.MdsMoves.{IsSentIn, IsMdsOf, WasAnswered, IsSendAnswered, MayComeFrom}
use Rattle.world_moves.specs.WorldMoves.{IsFromServer, IsCarried, IsEntryCarried}
use Rattle.world_moves.proofs.ServerMoves.{IsLike}

still_sent : (mc n : Machine) → KeepsPackets mc n → (s : MdsSend) → IsSentIn mc s → IsSentIn n s
still_sent mc n keeps (CallsServer server xid uid call) is = (still_called mc n server xid uid call keeps is.0, is.1)
still_sent mc n keeps (CallsBack xid back file stateid) is = tt
still_sent mc n keeps (Replies node reply) is = tt
still_sent mc n keeps (Answers node bytes) is = tt

all_still : (mc n : Machine) → KeepsPackets mc n → (ss : List MdsSend) → AllOf (IsSentIn mc) ss → AllOf (IsSentIn n) ss
all_still mc n keeps [] all = tt
all_still mc n keeps (s ∷ ss) all = (still_sent mc n keeps s all.0, all_still mc n keeps ss all.1)

same_fresh : (mc n : Machine) → IsLike mc n → fresh_of mc ≡ fresh_of n
same_fresh mc n like = let a = like.uid in let b = like.name in let c = like.count in cc

-- the metadata server of a machine is that of each machine which it does not tell apart from it
pub mds_like : (mc n : Machine) (m : MdsValue) (ss : List MdsSend) → IsLike mc n → IsMdsOf mc m ss → IsMdsOf n m ss
mds_like mc n m ss like i = record {
  files = i.files ∙ sym like.files;
  fresh = i.fresh ∙ same_fresh mc n like;
  setup = record { some = i.setup.some; few = i.setup.few; there = i.setup.there; same = i.setup.same ∙ sym like.count };
  numbers = subst (λ (x : ℕ). (m.next_xid ≡ 0) ⊎ (x < m.next_xid)) (sym like.last) i.numbers;
  below = i.below;
  few = i.few;
  once = i.once;
  calls = i.calls;
  writes = i.writes;
  sent = all_still mc n like.packets ss i.sent;
}

-- ---- what was carried

still_answers : (mc n : Machine) → KeepsPackets mc n → (server : ℕ) (says : DsCallValue → DsReplyValue) (s : MdsSend) → IsSendAnswered mc server says s → IsSendAnswered n server says s
still_answers mc n keeps server says (CallsServer other xid uid call) is = λ has same. again (is has same)
  where
    again : WasAnswered mc server xid call (says call) → WasAnswered n server xid call (says call)
    again w = record { given = w.given; stands = still_answered mc n server xid call w.given keeps w.stands; same = w.same; plain = w.plain }
still_answers mc n keeps server says (CallsBack xid back file stateid) is = tt
still_answers mc n keeps server says (Replies node reply) is = tt
still_answers mc n keeps server says (Answers node bytes) is = tt

module _ (mc n : Machine) (keeps : KeepsPackets mc n) (ss all : List MdsSend) (longer : (s : MdsSend) → IsOneOf s ss → IsOneOf s all) where
  pub still_comes : (server : ℕ) (bytes : List ℕ) → MayComeFrom mc ss server bytes → MayComeFrom n all server bytes
  still_comes server bytes (inl passed) = inl passed
  still_comes server bytes (inr a) = inr (record { reply = a.reply; reads = a.reads; sent = a.sent; inside = longer a.sent a.inside; number = a.number; answers = still_answers mc n keeps server _ a.sent a.answers })

  pub still_from : (k : ℕ) (to : NodeId) (bytes : List ℕ) → IsFromServer mc ss k to bytes → IsFromServer n all k to bytes
  still_from k Mds bytes is = still_comes k bytes is
  still_from k (Server j) bytes is = is
  still_from k (Client c) bytes is = is

  pub still_carried : (from to : NodeId) (bytes : List ℕ) → IsCarried mc ss from to bytes → IsCarried n all from to bytes
  still_carried Mds to bytes was = record { sent = was.sent; inside = longer was.sent was.inside; is = was.is }
  still_carried (Server k) to bytes is = still_from k to bytes is
  still_carried (Client c) to bytes is = is

  still_entry : (e : Entry) → IsEntryCarried mc ss e → IsEntryCarried n all e
  still_entry (Packet number from to bytes) is = still_carried from to bytes is
  still_entry e is = tt

  pub all_carried : (journal : List Entry) → AllByRecursion (IsEntryCarried mc ss) journal → AllByRecursion (IsEntryCarried n all) journal
  all_carried [] each = tt
  all_carried (e ∷ journal) each = (still_entry e each.0, all_carried journal each.1)
