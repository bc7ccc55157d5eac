-- A call of the metadata server that is outstanding: which call has its number, and what holds of each reply to it.
use Rattle.std.proofs.Common.{◌≡◌, ℕ, ◌<◌, ◌≤◌, List, [], ◌∷◌, ◌++◌, Some, refl, arith}
use Rattle.std.specs.Prelude.{slice_get}
use Rattle.std.specs.List.{AllByRecursion}
use Rattle.cluster_model.specs.declared.ids.NodeId.{NodeId}
use Rattle.cluster_model.specs.declared.ids.NodeId.TheVariants.{Mds, Server, Client}
use Rattle.cluster_model.specs.DsCalls.{DsCallValue, DsReplyValue}
use Rattle.cluster_laws.specs.Machine.{PacketValue, Call, Reply}
use Rattle.cluster_laws.proofs.Lists.{all_append, all_more, all_at}
use Rattle.cluster_laws.proofs.Invariant.{Net, IsThisCall, AreThisCall, IsPacket}
use Rattle.cluster_laws.proofs.CallsOut.{only_call}
use Rattle.machine_walk.proofs.MoveCases.{HasReply}

abbrev pub IsReplySo : (DsReplyValue → Type 0) → ℕ → PacketValue → Type 0
IsReplySo R xid (Call from server number uid gid call) = Unit {0}
IsReplySo R xid (Reply place server Mds number reply) = number ≡ xid → R reply
IsReplySo R xid (Reply place server (Server k) number reply) = Unit {0}
IsReplySo R xid (Reply place server (Client k) number reply) = Unit {0}

pub record IsOutSo (packets : List PacketValue) (last xid server : ℕ) (call : DsCallValue) (R : DsReplyValue → Type 0) : Type 0 where
  pub used : xid ≤ last
  pub calls : AreThisCall packets xid server call
  pub replies : AllByRecursion (IsReplySo R xid) packets

-- what a reply says, by one that stands among the packets
pub reply_so : (packets : List PacketValue) (last xid server : ℕ) (call : DsCallValue) (R : DsReplyValue → Type 0) (reply : DsReplyValue) → IsOutSo packets last xid server call R → HasReply packets xid reply → R reply
reply_so packets last xid server call R reply h k = all_at (IsReplySo R xid) packets k.place (Reply k.call k.server Mds xid reply) h.replies k.there refl

module _ (R Q : DsReplyValue → Type 0) (more : (reply : DsReplyValue) → R reply → Q reply) (xid : ℕ) where
  weaker_reply : (p : PacketValue) → IsReplySo R xid p → IsReplySo Q xid p
  weaker_reply (Call from server number uid gid call) h = tt
  weaker_reply (Reply place server Mds number reply) h = λ e. more reply (h e)
  weaker_reply (Reply place server (Server k) number reply) h = tt
  weaker_reply (Reply place server (Client k) number reply) h = tt

  pub out_more : (packets : List PacketValue) (last server : ℕ) (call : DsCallValue) → IsOutSo packets last xid server call R → IsOutSo packets last xid server call Q
  out_more packets last server call h = record { used = h.used; calls = h.calls; replies = all_more (IsReplySo R xid) (IsReplySo Q xid) packets weaker_reply h.replies }

-- one packet more
pub out_push : (packets : List PacketValue) (last next xid server : ℕ) (call : DsCallValue) (R : DsReplyValue → Type 0) (p : PacketValue) → IsOutSo packets last xid server call R → last ≤ next → IsThisCall xid server call p → IsReplySo R xid p
    → IsOutSo (packets ++ p ∷ []) next xid server call R
out_push packets last next xid server call R p h up this so =
    let used = h.used in
    record { used = omega (arith, used, up); calls = all_append (IsThisCall xid server call) packets (p ∷ []) h.calls (this, tt); replies = all_append (IsReplySo R xid) packets (p ∷ []) h.replies (so, tt) }

-- a packet that is sent again
pub out_again : (packets : List PacketValue) (last xid server : ℕ) (call : DsCallValue) (R : DsReplyValue → Type 0) (place : ℕ) (p : PacketValue) → slice_get packets place ≡ Some p → IsOutSo packets last xid server call R → IsOutSo (packets ++ p ∷ []) last xid server call R
out_again packets last xid server call R place p there h = out_push packets last last xid server call R p h (omega arith) (all_at (IsThisCall xid server call) packets place p h.calls there) (all_at (IsReplySo R xid) packets place p h.replies there)

-- a new call: of another number, where it is the metadata server's
new_this : (xid server last : ℕ) (call asked : DsCallValue) (node : NodeId) (to number uid gid : ℕ) → xid ≤ last → (node ≡ Mds → last < number) → IsThisCall xid server call (Call node to number uid gid asked)
new_this xid server last call asked Mds to number uid gid used new = λ e. let less = new refl in absurd (omega (arith, used, less, e))
new_this xid server last call asked (Server k) to number uid gid used new = tt
new_this xid server last call asked (Client k) to number uid gid used new = tt

pub out_call : (packets : List PacketValue) (last next xid server : ℕ) (call : DsCallValue) (R : DsReplyValue → Type 0) (node : NodeId) (to number uid gid : ℕ) (asked : DsCallValue) → IsOutSo packets last xid server call R → last ≤ next → (node ≡ Mds → last < number)
    → IsOutSo (packets ++ Call node to number uid gid asked ∷ []) next xid server call R
out_call packets last next xid server call R node to number uid gid asked h up new =
    out_push packets last next xid server call R (Call node to number uid gid asked) h up (new_this xid server last call asked node to number uid gid h.used new) tt

-- the call itself goes out: nothing was replied to it
module _ (net : Net) (packets : AllByRecursion (IsPacket net) net.packets) (xid : ℕ) (new : net.last_xid < xid) where
  sent_used : (server number k uid gid : ℕ) (call : DsCallValue) → slice_get net.packets k ≡ Some (Call Mds server number uid gid call) → number ≤ net.last_xid
  sent_used server number k uid gid call there = (all_at (IsPacket net) net.packets k (Call Mds server number uid gid call) packets there).0

  none_yet : (R : DsReplyValue → Type 0) (p : PacketValue) → IsPacket net p → IsReplySo R xid p
  none_yet R (Call from server number uid gid call) h = tt
  none_yet R (Reply place server Mds number reply) h = λ e.
      let used = sent_used server number h.answer.sent.place h.answer.sent.uid h.answer.sent.gid h.answer.call h.answer.sent.there in
      absurd (omega (arith, used, new, e))
  none_yet R (Reply place server (Server k) number reply) h = tt
  none_yet R (Reply place server (Client k) number reply) h = tt

  pub out_new : (server uid : ℕ) (call : DsCallValue) (R : DsReplyValue → Type 0) → IsOutSo (net.packets ++ Call Mds server xid uid uid call ∷ []) xid xid server call R
  out_new server uid call R = record {
    used = omega arith;
    calls = only_call net xid server uid call new packets;
    replies = all_append (IsReplySo R xid) net.packets (Call Mds server xid uid uid call ∷ []) (all_more (IsPacket net) (IsReplySo R xid) net.packets (none_yet R) packets) (tt, tt);
  }

-- a call is answered: if it is this one, its reply says so
answered_so : (xid server : ℕ) (call : DsCallValue) (R : DsReplyValue → Type 0) (place n : ℕ) (from : NodeId) (number uid gid : ℕ) (asked : DsCallValue) (reply : DsReplyValue)
    → IsThisCall xid server call (Call from n number uid gid asked) → (from ≡ Mds → n ≡ server → asked ≡ call → R reply) → IsReplySo R xid (Reply place n from number reply)
answered_so xid server call R place n Mds number uid gid asked reply this so = λ e. so refl (this e).0 (this e).1
answered_so xid server call R place n (Server k) number uid gid asked reply this so = tt
answered_so xid server call R place n (Client k) number uid gid asked reply this so = tt

no_call : (xid server : ℕ) (call : DsCallValue) (place n : ℕ) (from : NodeId) (number : ℕ) (reply : DsReplyValue) → IsThisCall xid server call (Reply place n from number reply)
no_call xid server call place n from number reply = tt

pub out_answered : (packets : List PacketValue) (last xid server : ℕ) (call : DsCallValue) (R Q : DsReplyValue → Type 0) (place n : ℕ) (from : NodeId) (number uid gid : ℕ) (asked : DsCallValue) (reply : DsReplyValue)
    → slice_get packets place ≡ Some (Call from n number uid gid asked) → IsOutSo packets last xid server call R → ((r : DsReplyValue) → R r → Q r) → (from ≡ Mds → n ≡ server → asked ≡ call → Q reply)
    → IsOutSo (packets ++ Reply place n from number reply ∷ []) last xid server call Q
out_answered packets last xid server call R Q place n from number uid gid asked reply sent h more so =
    out_push packets last last xid server call Q (Reply place n from number reply) (out_more R Q more xid packets last server call h) (omega arith) tt
    (answered_so xid server call Q place n from number uid gid asked reply (all_at (IsThisCall xid server call) packets place (Call from n number uid gid asked) h.calls sent) so)
