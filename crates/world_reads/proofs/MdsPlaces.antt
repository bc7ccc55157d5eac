-- Where the items of the metadata server's history stand in the journal, and of which items its packets there are.
use Rattle.std.proofs.Common.{◌≡◌, ℕ, true, List, [], ◌∷◌, ◌++◌, refl, sym, ap, subst, ◌∙◌, append_assoc, inl, inr}
use Rattle.std.specs.List.{AllByRecursion}
use Rattle.cluster_model.specs.declared.ids.NodeId.{NodeId}
use Rattle.cluster_model.specs.declared.ids.NodeId.TheVariants.{Mds, Server, Client}
use Rattle.cluster_model.specs.declared.entry.Entry.{Entry}
use Rattle.cluster_model.specs.declared.entry.Entry.TheVariants as entry
use Rattle.cluster_model.specs.Members.{IsOneOf}
use Rattle.cluster_laws.proofs.Lists.{all_split}
use Rattle.world_rule.specs.ClusterWorlds.{ClusterState}
use Rattle.mds_rule.specs.MdsStates.{MdsSend}
use Rattle.mds_rule.specs.Spelled.{spelled_send}
use Rattle.mds_walk.specs.MdsRuns.{MdsEvent, Hears}
use Rattle.mds_histories.specs.MdsHistory.{MdsItem, Comes, Enters, Sends, sends_in}
use Rattle.node_histories.specs.Weaves.{ItemShown, IsUnseen, IsArrival, IsEntry, IsSending, WeaveStep, Passes, Unseen, Seen, entries_in, items_in, HasPacket, IsSendingOf, IsShownAs, AreWoven, StandsInWeave}
use Rattle.node_histories.specs.NodeHistories.{mds_shown, is_client_entry, is_mds_entry, is_server_entry, is_world_entry, Origin, EnteredByClient, EnteredByMds, EnteredByServer, EnteredByWorld, SentByClient, SentByMds, SentByServer, IsToldByNodes}
use Rattle.node_histories.proofs.WeaveLemmas.{IsPlaced, OfItem, OfOthers, is_placed, IsSeenAt, seen_at, items_join}
use Rattle.world_reads.proofs.Steps.{HasItemIn, ItemStep, item_step, HasEntry, SamePlace, same_place}
use Rattle.world_reads.proofs.OwnEntries.{is_own, no_true, IsSaid, IsToldStep, all_told, journal_at}

abbrev pub Steps : Type 0
Steps = List (WeaveStep MdsItem)

-- ---- an entry of its history

pub record EnteredAt (part : Steps) (before : List MdsItem) (e : Entry) (behind : List MdsItem) : Type 0 where
  pub earlier : Steps
  pub later : Steps
  pub split : part ≡ earlier ++ Seen (Enters e) e ∷ later
  pub earlier_items : items_in earlier ≡ before
  pub later_items : items_in later ≡ behind

entered_by : (part : Steps) (before : List MdsItem) (e : Entry) (behind : List MdsItem) (r : ItemStep part before (Enters e) behind) (s : WeaveStep MdsItem) → HasItemIn (Enters e) s → IsToldStep s → part ≡ r.earlier ++ s ∷ r.later
    → EnteredAt part before e behind
entered_by part before e behind r (Passes x) is told split = absurd is
entered_by part before e behind r (Unseen other) is told split = absurd (unseen_not (ap mds_shown (sym is) ∙ told))
  where
    unseen_not : IsEntry e ≡ IsUnseen → ⊥
    unseen_not same = absurd cc
entered_by part before e behind r (Seen other x) is told split =
    let said : x ≡ e = subst (λ (i : MdsItem). IsSaid i x) is told in
    let first : part ≡ r.earlier ++ Seen (Enters e) x ∷ r.later = subst (λ (i : MdsItem). part ≡ r.earlier ++ Seen i x ∷ r.later) is split in
    record {
      earlier = r.earlier;
      later = r.later;
      split = subst (λ (y : Entry). part ≡ r.earlier ++ Seen (Enters e) y ∷ r.later) said first;
      earlier_items = r.earlier_items;
      later_items = r.later_items;
    }

pub entered_at : (part : Steps) (before : List MdsItem) (e : Entry) (behind : List MdsItem) → AllByRecursion IsToldStep part → items_in part ≡ before ++ Enters e ∷ behind → EnteredAt part before e behind
entered_at part before e behind told is =
    let r : ItemStep part before (Enters e) behind = item_step part before (Enters e) behind is in
    entered_by part before e behind r r.step r.is (all_split IsToldStep r.earlier r.step r.later (subst (λ (l : Steps). AllByRecursion IsToldStep l) r.split told)) r.split

-- ---- what it sends

-- it is this packet
pub record IsPacketOf (to : NodeId) (bytes : List ℕ) (e : Entry) : Type 0 where
  pub number : ℕ
  pub is : e ≡ entry.Packet number Mds to bytes

packet_of : (to : NodeId) (bytes : List ℕ) (e : Entry) → IsSendingOf Mds to bytes e → IsPacketOf to bytes e
packet_of to bytes (entry.Packet number from at sent) is =
    let a : from ≡ Mds = is.0 in
    let b : at ≡ to = is.1 in
    let c : sent ≡ bytes = is.2 in
    record { number = number; is = cc (a, b, c) }
packet_of to bytes e is = absurd is

pub record SentAt (part : Steps) (before : List MdsItem) (send : MdsSend) (behind : List MdsItem) : Type 0 where
  pub earlier : Steps
  pub number : ℕ
  pub later : Steps
  pub split : part ≡ earlier ++ Seen (Sends send) (entry.Packet number Mds (spelled_send send).0 (spelled_send send).1) ∷ later
  pub earlier_items : items_in earlier ≡ before
  pub later_items : items_in later ≡ behind

sent_by : (part : Steps) (before : List MdsItem) (send : MdsSend) (behind : List MdsItem) (r : ItemStep part before (Sends send) behind) (s : WeaveStep MdsItem) → HasItemIn (Sends send) s → IsToldStep s → part ≡ r.earlier ++ s ∷ r.later
    → SentAt part before send behind
sent_by part before send behind r (Passes x) is told split = absurd is
sent_by part before send behind r (Unseen other) is told split = absurd (unseen_not (spelled_send send).0 (spelled_send send).1 (ap mds_shown (sym is) ∙ told))
  where
    unseen_not : (to : NodeId) (bytes : List ℕ) → IsSending to bytes ≡ IsUnseen → ⊥
    unseen_not to bytes same = absurd cc
sent_by part before send behind r (Seen other x) is told split =
    let p : IsPacketOf (spelled_send send).0 (spelled_send send).1 x = packet_of (spelled_send send).0 (spelled_send send).1 x (subst (λ (i : MdsItem). IsSaid i x) is told) in
    let first : part ≡ r.earlier ++ Seen (Sends send) x ∷ r.later = subst (λ (i : MdsItem). part ≡ r.earlier ++ Seen i x ∷ r.later) is split in
    record {
      earlier = r.earlier;
      number = p.number;
      later = r.later;
      split = subst (λ (y : Entry). part ≡ r.earlier ++ Seen (Sends send) y ∷ r.later) p.is first;
      earlier_items = r.earlier_items;
      later_items = r.later_items;
    }

pub sent_at : (part : Steps) (before : List MdsItem) (send : MdsSend) (behind : List MdsItem) → AllByRecursion IsToldStep part → items_in part ≡ before ++ Sends send ∷ behind → SentAt part before send behind
sent_at part before send behind told is =
    let r : ItemStep part before (Sends send) behind = item_step part before (Sends send) behind is in
    sent_by part before send behind r r.step r.is (all_split IsToldStep r.earlier r.step r.later (subst (λ (l : Steps). AllByRecursion IsToldStep l) r.split told)) r.split

-- ---- what came

abbrev pub hearing : ℕ → NodeId → List ℕ → MdsEvent
hearing now from bytes = record { now = now; input = Hears from bytes }

pub record ArrivedAt (part : Steps) (before : List MdsItem) (now : ℕ) (from : NodeId) (bytes : List ℕ) (behind : List MdsItem) : Type 0 where
  pub earlier : Steps
  pub number : ℕ
  pub later : Steps
  pub split : part ≡ earlier ++ Seen (Comes (hearing now from bytes)) (entry.Delivered number) ∷ later
  pub packet : HasPacket (entries_in earlier) number from Mds bytes
  pub earlier_items : items_in earlier ≡ before
  pub later_items : items_in later ≡ behind

module _ (w : ClusterState) (t : IsToldByNodes w) where
  woven_to : (part rest : Steps) → t.mds.steps ≡ part ++ rest → (earlier later : Steps) (s : WeaveStep MdsItem) → part ≡ earlier ++ s ∷ later → AreWoven mds_shown Mds [] (earlier ++ s ∷ (later ++ rest))
  woven_to part rest whole earlier later s split =
      let all : t.mds.steps ≡ earlier ++ s ∷ (later ++ rest) = whole ∙ (ap (λ (l : Steps). l ++ rest) split ∙ append_assoc earlier (s ∷ later) rest) in
      subst (λ (l : Steps). AreWoven mds_shown Mds [] l) all t.mds_is.woven

  arrived_by : (part rest : Steps) → t.mds.steps ≡ part ++ rest → (before : List MdsItem) (now : ℕ) (from : NodeId) (bytes : List ℕ) (behind : List MdsItem) (r : ItemStep part before (Comes (hearing now from bytes)) behind) (s : WeaveStep MdsItem)
      → HasItemIn (Comes (hearing now from bytes)) s → IsToldStep s → part ≡ r.earlier ++ s ∷ r.later → ArrivedAt part before now from bytes behind
  arrived_by part rest whole before now from bytes behind r (Passes x) is told split = absurd is
  arrived_by part rest whole before now from bytes behind r (Unseen other) is told split = absurd (unseen_not (ap mds_shown (sym is) ∙ told))
    where
      unseen_not : IsArrival from bytes ≡ IsUnseen → ⊥
      unseen_not same = absurd cc
  arrived_by part rest whole before now from bytes behind r (Seen other x) is told split =
      let seen : IsSeenAt mds_shown Mds [] r.earlier other x (r.later ++ rest) = seen_at mds_shown Mds [] r.earlier other x (r.later ++ rest) (woven_to part rest whole r.earlier r.later (Seen other x) split) in
      let shown : IsShownAs Mds (entries_in r.earlier) (IsArrival from bytes) x = subst (λ (i : MdsItem). IsShownAs Mds (entries_in r.earlier) (mds_shown i) x) is seen.is in
      let first : part ≡ r.earlier ++ Seen (Comes (hearing now from bytes)) x ∷ r.later = subst (λ (i : MdsItem). part ≡ r.earlier ++ Seen i x ∷ r.later) is split in
      by_entry x shown first
    where
      by_entry : (y : Entry) → IsShownAs Mds (entries_in r.earlier) (IsArrival from bytes) y → part ≡ r.earlier ++ Seen (Comes (hearing now from bytes)) y ∷ r.later → ArrivedAt part before now from bytes behind
      by_entry (entry.Delivered number) packet so =
          record { earlier = r.earlier; number = number; later = r.later; split = so; packet = packet; earlier_items = r.earlier_items; later_items = r.later_items }
      by_entry y packet so = absurd packet

  pub arrived_at : (part rest : Steps) → t.mds.steps ≡ part ++ rest → (before : List MdsItem) (now : ℕ) (from : NodeId) (bytes : List ℕ) (behind : List MdsItem) → AllByRecursion IsToldStep part
      → items_in part ≡ before ++ Comes (hearing now from bytes) ∷ behind → ArrivedAt part before now from bytes behind
  arrived_at part rest whole before now from bytes behind told is =
      let r : ItemStep part before (Comes (hearing now from bytes)) behind = item_step part before (Comes (hearing now from bytes)) behind is in
      arrived_by part rest whole before now from bytes behind r r.step r.is (all_split IsToldStep r.earlier r.step r.later (subst (λ (l : Steps). AllByRecursion IsToldStep l) r.split told)) r.split

  -- ---- the item of a packet

  -- a packet of the metadata server that stands in a part of the journal is of a send there
  pub record SentIn (part : Steps) (past : List Entry) (number : ℕ) (to : NodeId) (bytes : List ℕ) : Type 0 where
    pub send : MdsSend
    pub earlier : Steps
    pub later : Steps
    pub split : part ≡ earlier ++ Seen (Sends send) (entry.Packet number Mds to bytes) ∷ later
    pub place : entries_in earlier ≡ past
    pub spelled : spelled_send send ≡ (to, bytes)

  record HasSend (past : List Entry) (number : ℕ) (to : NodeId) (bytes : List ℕ) : Type 0 where
    send : MdsSend
    stands : StandsInWeave [] t.mds.steps past (Sends send) (entry.Packet number Mds to bytes)

  send_of : (past : List Entry) (number : ℕ) (to : NodeId) (bytes : List ℕ) (e : Entry) → e ≡ entry.Packet number Mds to bytes → Origin t.stories t.mds past e → HasSend past number to bytes
  send_of past number to bytes e is (EnteredByClient n l life kind stands) = no_true (subst (λ (x : Entry). is_client_entry x ≡ true) is kind)
  send_of past number to bytes e is (EnteredByMds kind stands) = no_true (subst (λ (x : Entry). is_mds_entry x ≡ true) is kind)
  send_of past number to bytes e is (EnteredByServer kind) = no_true (subst (λ (x : Entry). is_server_entry x ≡ true) is kind)
  send_of past number to bytes e is (EnteredByWorld kind) = no_true (subst (λ (x : Entry). is_world_entry x ≡ true) is kind)
  send_of past number to bytes e is (SentByClient n other at sent l send same life stands) = no_true (subst (λ (x : Entry). is_own x ≡ true) (sym is ∙ same) refl)
  send_of past number to bytes e is (SentByMds other at sent send same stands) = record { send = send; stands = subst (λ (x : Entry). StandsInWeave [] t.mds.steps past (Sends send) x) is stands }
  send_of past number to bytes e is (SentByServer n other at sent same answers) = no_true (subst (λ (x : Entry). is_own x ≡ true) (sym is ∙ same) refl)

  sent_behind : (part rest : Steps) → t.mds.steps ≡ part ++ rest → (past : List Entry) (number : ℕ) (to : NodeId) (bytes : List ℕ) (h : HasSend past number to bytes) (earlier later : Steps) (s : WeaveStep MdsItem)
      → part ≡ earlier ++ s ∷ later → entries_in earlier ≡ past → SamePlace earlier (later ++ rest) h.stands.earlier h.stands.later s (Seen (Sends h.send) (entry.Packet number Mds to bytes)) → SentIn part past number to bytes
  sent_behind part rest whole past number to bytes h earlier later s split place same =
      let here : part ≡ earlier ++ Seen (Sends h.send) (entry.Packet number Mds to bytes) ∷ later = subst (λ (x : WeaveStep MdsItem). part ≡ earlier ++ x ∷ later) same.step split in
      let seen : IsSeenAt mds_shown Mds [] earlier (Sends h.send) (entry.Packet number Mds to bytes) (later ++ rest) =
      seen_at mds_shown Mds [] earlier (Sends h.send) (entry.Packet number Mds to bytes) (later ++ rest) (woven_to part rest whole earlier later (Seen (Sends h.send) (entry.Packet number Mds to bytes)) here) in
      record { send = h.send; earlier = earlier; later = later; split = here; place = place; spelled = pair_of (spelled_send h.send) to bytes seen.is.1 seen.is.2 }
    where
      pair_of : (p : NodeId × List ℕ) (to : NodeId) (bytes : List ℕ) → to ≡ p.0 → bytes ≡ p.1 → p ≡ (to, bytes)
      pair_of (x, y) to bytes first second = cc (first, second)

  pub sent_in : (part rest : Steps) → t.mds.steps ≡ part ++ rest → (past more : List Entry) (number : ℕ) (to : NodeId) (bytes : List ℕ) → entries_in part ≡ past ++ entry.Packet number Mds to bytes ∷ more → SentIn part past number to bytes
  sent_in part rest whole past more number to bytes is = by_place (is_placed part past more packet is)
    where
      packet : Entry
      packet = entry.Packet number Mds to bytes

      sender : HasSend past number to bytes
      sender =
          send_of past number to bytes packet refl
          (t.origins past (more ++ entries_in rest) packet (journal_at w t part rest whole ∙ (ap (λ (l : List Entry). l ++ entries_in rest) is ∙ append_assoc past (packet ∷ more) (entries_in rest))))

      step_is : (earlier later : Steps) (s : WeaveStep MdsItem) → part ≡ earlier ++ s ∷ later → entries_in earlier ≡ past → HasEntry s → SentIn part past number to bytes
      step_is earlier later s split place has =
          let all : t.mds.steps ≡ earlier ++ s ∷ (later ++ rest) = whole ∙ (ap (λ (l : Steps). l ++ rest) split ∙ append_assoc earlier (s ∷ later) rest) in
          sent_behind part rest whole past number to bytes sender earlier later s split place
          (same_place earlier (later ++ rest) sender.stands.earlier sender.stands.later s (Seen (Sends sender.send) packet) (sym all ∙ sender.stands.split) (place ∙ sender.stands.place) has tt)

      by_place : IsPlaced MdsItem part past packet → SentIn part past number to bytes
      by_place (OfItem earlier later item split place) = step_is earlier later (Seen item packet) split place tt
      by_place (OfOthers earlier later split place) = step_is earlier later (Passes packet) split place tt

-- a send that stands in a part is one of its sends
pub in_sends : (items : List MdsItem) (before behind : List MdsItem) (send : MdsSend) → items ≡ before ++ Sends send ∷ behind → IsOneOf send (sends_in items)
in_sends items before behind send is = subst (λ (l : List MdsItem). IsOneOf send (sends_in l)) (sym is) (there before)
  where
    there : (l : List MdsItem) → IsOneOf send (sends_in (l ++ Sends send ∷ behind))
    there [] = inl refl
    there (Comes event ∷ l) = there l
    there (Enters e ∷ l) = there l
    there (Sends other ∷ l) = inr (there l)
