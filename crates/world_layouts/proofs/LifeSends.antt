-- What stands in the journal of a life's items: each packet of a client to the metadata server is of a compound that the life sent before or with
-- it, or of a reply; and each record that it heard is a packet.
use Rattle.std.proofs.Common.{◌≡◌, ◌<◌, ◌≤◌, ℕ, ◌^◌, true, length, List, [], ◌∷◌, ◌++◌, refl, sym, ap, subst, ◌∙◌, inl, inr, arith, append-nil, append_assoc}
use Rattle.cluster_model.specs.declared.ids.NodeId.{NodeId}
use Rattle.cluster_model.specs.declared.ids.NodeId.TheVariants.{Mds, Server, Client}
use Rattle.cluster_model.specs.declared.entry.Entry.{Entry}
use Rattle.cluster_model.specs.declared.entry.Entry.TheVariants as entry
use Rattle.rpc_record.specs.Replies.{RpcReply, reply_bytes}
use Rattle.world_rule.specs.ClusterWorlds.{ClusterState}
use Rattle.client_mds_calls.specs.MdsCalls.{MdsCallValue}
use Rattle.client_mds_calls.specs.MdsCompounds.{mds_call_bytes}
use Rattle.client_mds_calls.specs.MdsCallLaws.{HasCompoundRecord}
use Rattle.client_state.specs.ClientSends.{ClientSend, CallsServer, CallsMds, RepeatsToServer, RepeatsToMds, RepliesToMds, spelled_send}
use Rattle.client_laws.specs.ClientHistory.{HistoryItem, Hears, Enters, Sends, Recorded, HasItem, Each, client_history}
use Rattle.client_laws.specs.ClientHistory as client
use Rattle.client_laws.proofs.Orders.{in_more, in_end}
use Rattle.client_records.specs.ClientRecords.{NumbersOn, WasAskedAs, EachRunIsSpelled, EachRunIsNumbered}
use Rattle.node_histories.specs.Weaves.{ItemShown, IsUnseen, IsArrival, WeaveStep, Passes, Unseen, Seen, entries_in, items_in, HasPacket, IsShownAs, AreWoven, StandsInWeave}
use Rattle.node_histories.specs.ClientLives.{client_shown, Life, journal_of, IsLife}
use Rattle.node_histories.specs.NodeHistories.{ClientStory, HasLife, is_client_entry, is_mds_entry, is_server_entry, is_world_entry, Origin, EnteredByClient, EnteredByMds, EnteredByServer, EnteredByWorld, SentByClient, SentByMds, SentByServer, IsToldByNodes}
use Rattle.node_histories.proofs.WeaveLemmas.{items_join, IsSeenAt, seen_at}
use Rattle.world_journal.specs.Journal.{IsJournalInRange}
use Rattle.world_reads.proofs.Steps.{HasItemIn, ItemStep, item_step}
use Rattle.world_reads.proofs.OwnEntries.{no_true}
use Rattle.world_reads.proofs.Lives.{LifeFacts, life_facts, LivesOf, lives_of}
use Rattle.world_reads.proofs.LifeRecords.{compound, life_spelled}

abbrev pub LifeSteps : Type 0
LifeSteps = List (WeaveStep HistoryItem)

-- ---- items of a history

has_middle : (a b : List HistoryItem) (item : HistoryItem) → HasItem (a ++ item ∷ b) item
has_middle [] b item = inl (refl, tt)
has_middle (x ∷ a) b item = inr (has_middle a b item)

pub each_at : (P : List HistoryItem → HistoryItem → Type 0) (past a b : List HistoryItem) (item : HistoryItem) → Each P past (a ++ item ∷ b) → P (past ++ a) item
each_at P past [] b item each = subst (λ (l : List HistoryItem). P l item) (sym (append-nil past)) each.0
each_at P past (x ∷ a) b item each = subst (λ (l : List HistoryItem). P l item) (append_assoc past (x ∷ []) a) (each_at P (past ++ x ∷ []) a b item each.1)

-- ---- a packet of a life

-- a reply to a callback, or a compound that it sent by then
pub data SaysThen (upto : LifeSteps) (bytes : List ℕ) : Type 0 where
  SaysReply : (r : RpcReply) → bytes ≡ reply_bytes r → SaysThen upto bytes
  SaysCall : (xid : ℕ) (name : List ℕ) (call : MdsCallValue) → HasItem (items_in upto) (compound xid name call) → bytes ≡ mds_call_bytes xid name call → SaysThen upto bytes

no_server : (k : ℕ) → Mds ≡ Server k → ⊥
no_server k same = absurd cc

abbrev up_to : LifeSteps → ClientSend → Entry → LifeSteps
up_to earlier send e = earlier ++ Seen (Sends send) e ∷ []

says_then : (first : ℕ) (k : Life) → Each (NumbersOn first) [] (items_in k.steps) → (bytes : List ℕ) (earlier later : LifeSteps) (e : Entry) (send : ClientSend) → k.steps ≡ earlier ++ Seen (Sends send) e ∷ later
    → Mds ≡ (spelled_send send).0 → bytes ≡ (spelled_send send).1 → SaysThen (earlier ++ Seen (Sends send) e ∷ []) bytes
says_then first k numbers bytes earlier later e (CallsServer server xid name uid call) split to is = absurd (no_server server to)
says_then first k numbers bytes earlier later e (RepeatsToServer server xid name uid call) split to is = absurd (no_server server to)
says_then first k numbers bytes earlier later e (RepliesToMds reply) split to is = SaysReply reply is
says_then first k numbers bytes earlier later e (CallsMds xid name call) split to is =
    let items : items_in (earlier ++ Seen (compound xid name call) e ∷ []) ≡ items_in earlier ++ compound xid name call ∷ [] = items_join earlier (Seen (compound xid name call) e ∷ []) in
    SaysCall xid name call (subst (λ (l : List HistoryItem). HasItem l (compound xid name call)) (sym items) (in_end (items_in earlier) (compound xid name call))) is
says_then first k numbers bytes earlier later e (RepeatsToMds xid message) split to is =
    let again : HistoryItem = Sends (RepeatsToMds xid message) in
    let whole : items_in k.steps ≡ items_in earlier ++ again ∷ items_in later = ap (λ (l : LifeSteps). items_in l) split ∙ items_join earlier (Seen again e ∷ later) in
    let items : items_in (earlier ++ Seen again e ∷ []) ≡ items_in earlier ++ again ∷ [] = items_join earlier (Seen again e ∷ []) in
    let was : WasAskedAs (items_in earlier) xid message = each_at (NumbersOn first) [] (items_in earlier) (items_in later) again (subst (λ (l : List HistoryItem). Each (NumbersOn first) [] l) whole numbers) in
    SaysCall xid was.name was.call
    (subst (λ (l : List HistoryItem). HasItem l (compound xid was.name was.call)) (sym items) (in_more (compound xid was.name was.call ∷ []) (items_in earlier) (again ∷ []) was.sent)) (is ∙ was.same)

-- ---- what a life heard

pub unseen_in : {I : Type 0} (shown : I → ItemShown) (node : NodeId) (begun : List Entry) (a b : List (WeaveStep I)) (item : I) → AreWoven shown node begun (a ++ Unseen item ∷ b) → shown item ≡ IsUnseen
unseen_in shown node begun [] b item so = so.0
unseen_in shown node begun (Passes e ∷ a) b item so = unseen_in shown node (begun ++ e ∷ []) a b item so
unseen_in shown node begun (Unseen x ∷ a) b item so = unseen_in shown node begun a b item so.1
unseen_in shown node begun (Seen x e ∷ a) b item so = unseen_in shown node (begun ++ e ∷ []) a b item so.1

abbrev pub hearing_from : NodeId → List ℕ → ℕ → HistoryItem
hearing_from node bytes now = Hears (Recorded node bytes now)

-- a record that came stands as the delivery of a packet
pub record HeardAt (n : ℕ) (l : Life) (past : List HistoryItem) (node : NodeId) (bytes : List ℕ) (now : ℕ) (behind : List HistoryItem) : Type 0 where
  pub earlier : LifeSteps
  pub number : ℕ
  pub later : LifeSteps
  pub split : l.steps ≡ earlier ++ Seen (hearing_from node bytes now) (entry.Delivered number) ∷ later
  pub packet : HasPacket (l.begun ++ entries_in earlier) number node (Client n) bytes
  pub earlier_items : items_in earlier ≡ past
  pub later_items : items_in later ≡ behind

arrival_not : (node : NodeId) (bytes : List ℕ) → IsArrival node bytes ≡ IsUnseen → ⊥
arrival_not node bytes same = absurd cc

heard_by : (n : ℕ) (l : Life) → IsLife n l → (past : List HistoryItem) (node : NodeId) (bytes : List ℕ) (now : ℕ) (behind : List HistoryItem) (r : ItemStep l.steps past (hearing_from node bytes now) behind) (s : WeaveStep HistoryItem)
    → HasItemIn (hearing_from node bytes now) s → l.steps ≡ r.earlier ++ s ∷ r.later → HeardAt n l past node bytes now behind
heard_by n l life past node bytes now behind r (Passes x) is split = absurd is
heard_by n l life past node bytes now behind r (Unseen other) is split =
    absurd (arrival_not node bytes (ap client_shown (sym is) ∙ unseen_in client_shown (Client n) l.begun r.earlier r.later other (subst (λ (k : LifeSteps). AreWoven client_shown (Client n) l.begun k) split life.woven)))
heard_by n l life past node bytes now behind r (Seen other x) is split =
    let so : l.steps ≡ r.earlier ++ Seen (hearing_from node bytes now) x ∷ r.later = subst (λ (i : HistoryItem). l.steps ≡ r.earlier ++ Seen i x ∷ r.later) is split in
    let seen : IsSeenAt client_shown (Client n) l.begun r.earlier (hearing_from node bytes now) x r.later =
    seen_at client_shown (Client n) l.begun r.earlier (hearing_from node bytes now) x r.later (subst (λ (k : LifeSteps). AreWoven client_shown (Client n) l.begun k) so life.woven) in
    by_entry x seen.is so
  where
    by_entry : (y : Entry) → IsShownAs (Client n) (l.begun ++ entries_in r.earlier) (IsArrival node bytes) y → l.steps ≡ r.earlier ++ Seen (hearing_from node bytes now) y ∷ r.later → HeardAt n l past node bytes now behind
    by_entry (entry.Delivered number) packet so =
        record { earlier = r.earlier; number = number; later = r.later; split = so; packet = packet; earlier_items = r.earlier_items; later_items = r.later_items }
    by_entry y packet so = absurd packet

pub heard_at : (n : ℕ) (l : Life) → IsLife n l → (past : List HistoryItem) (node : NodeId) (bytes : List ℕ) (now : ℕ) (behind : List HistoryItem) → items_in l.steps ≡ past ++ hearing_from node bytes now ∷ behind
    → HeardAt n l past node bytes now behind
heard_at n l life past node bytes now behind is =
    let r : ItemStep l.steps past (hearing_from node bytes now) behind = item_step l.steps past (hearing_from node bytes now) behind is in
    heard_by n l life past node bytes now behind r r.step r.is r.split

-- ---- the lives of a world

-- a packet of a client is what one of its lives sent
pub record ClientSent (stories : List ClientStory) (past : List Entry) (number n : ℕ) (to : NodeId) (bytes : List ℕ) : Type 0 where
  pub life : Life
  pub its : HasLife stories n life
  pub send : ClientSend
  pub stands : StandsInWeave life.begun life.steps past (client.Sends send) (entry.Packet number (Client n) to bytes)

module _ (w : ClusterState) (t : IsToldByNodes w) where
  by_origin : (past : List Entry) (number n : ℕ) (to : NodeId) (bytes : List ℕ) (e : Entry) → e ≡ entry.Packet number (Client n) to bytes → Origin t.stories t.mds past e → ClientSent t.stories past number n to bytes
  by_origin past number n to bytes e is (EnteredByClient m l life kind stands) = no_true (subst (λ (x : Entry). is_client_entry x ≡ true) is kind)
  by_origin past number n to bytes e is (EnteredByMds kind stands) = no_true (subst (λ (x : Entry). is_mds_entry x ≡ true) is kind)
  by_origin past number n to bytes e is (EnteredByServer kind) = no_true (subst (λ (x : Entry). is_server_entry x ≡ true) is kind)
  by_origin past number n to bytes e is (EnteredByWorld kind) = no_true (subst (λ (x : Entry). is_world_entry x ≡ true) is kind)
  by_origin past number n to bytes e is (SentByClient m other at sent l send same life stands) =
      let node : m ≡ n = who other m at sent (sym is ∙ same) in
      record { life = l; its = subst (λ (x : ℕ). HasLife t.stories x l) node life; send = send; stands = subst (λ (x : Entry). StandsInWeave l.begun l.steps past (client.Sends send) x) is stands }
    where
      who : (other m : ℕ) (at : NodeId) (sent : List ℕ) → entry.Packet number (Client n) to bytes ≡ entry.Packet other (Client m) at sent → m ≡ n
      who other m at sent two = cc
  by_origin past number n to bytes e is (SentByMds other at sent send same stands) = not_mds other at sent (sym is ∙ same)
    where
      not_mds : (other : ℕ) (at : NodeId) (sent : List ℕ) → entry.Packet number (Client n) to bytes ≡ entry.Packet other Mds at sent → ClientSent t.stories past number n to bytes
      not_mds other at sent two = absurd cc
  by_origin past number n to bytes e is (SentByServer m other at sent same answers) = not_server other m at sent (sym is ∙ same)
    where
      not_server : (other m : ℕ) (at : NodeId) (sent : List ℕ) → entry.Packet number (Client n) to bytes ≡ entry.Packet other (Server m) at sent → ClientSent t.stories past number n to bytes
      not_server other m at sent two = absurd cc

  pub client_sent : (past behind : List Entry) (number n : ℕ) (to : NodeId) (bytes : List ℕ) → w.journal ≡ past ++ entry.Packet number (Client n) to bytes ∷ behind → ClientSent t.stories past number n to bytes
  client_sent past behind number n to bytes is = by_origin past number n to bytes (entry.Packet number (Client n) to bytes) refl (t.origins past behind (entry.Packet number (Client n) to bytes) is)

  -- what is known of a life, by the numbers and ranges of its client
  pub record LifeIs (n : ℕ) (numbered : EachRunIsNumbered) (l : Life) : Type 0 where
    pub facts : LifeFacts numbered n w.journal l
    pub few : n ≤ length w.machines.clients
    pub numbers : Each (NumbersOn l.first_xid) [] (items_in l.steps)

  pub life_is : (numbered : EachRunIsNumbered) (n : ℕ) (l : Life) → HasLife t.stories n l → LifeIs n numbered l
  life_is numbered n l its =
      let s : LivesOf t.stories w.machines.clients w.journal n its.story = lives_of t.stories w.machines.clients w.verifiers w.journal n its.story t.clients t.asked its.there in
      let f : LifeFacts numbered n w.journal l = life_facts numbered n w.journal its.story.newest its.story.older s.lives s.asked [] (sym s.told ∙ sym (append-nil (journal_of its.story.newest))) l its.life in
      record {
        facts = f;
        few = s.within;
        numbers = subst (λ (h : List HistoryItem). Each (NumbersOn l.first_xid) [] h) f.is.history (numbered n l.verifier l.first_xid l.inputs f.first).0;
      }

  -- a compound that a life sent has a record
  pub has_record : (spelled : EachRunIsSpelled) (numbered : EachRunIsNumbered) → length w.machines.clients < 2 ^ 32 → IsJournalInRange w.journal → (n : ℕ) (l : Life) → HasLife t.stories n l → (xid : ℕ) (name : List ℕ) (call : MdsCallValue)
      → HasItem (items_in l.steps) (compound xid name call) → HasCompoundRecord (record { xid = xid; owner = name; call = call })
  has_record spelled numbered few range n l its xid name call has =
      let i : LifeIs n numbered l = life_is numbered n l its in
      let within = i.few in
      life_spelled spelled w.journal range n (omega (arith, few, within)) l numbered i.facts (CallsMds xid name call) has

  -- what a packet to the metadata server says
  pub packet_says : (numbered : EachRunIsNumbered) (past : List Entry) (number n : ℕ) (bytes : List ℕ) (s : ClientSent t.stories past number n Mds bytes)
      → SaysThen (s.stands.earlier ++ Seen (Sends s.send) (entry.Packet number (Client n) Mds bytes) ∷ []) bytes
  packet_says numbered past number n bytes s =
      let i : LifeIs n numbered s.life = life_is numbered n s.life s.its in
      let packet : Entry = entry.Packet number (Client n) Mds bytes in
      let seen : IsSeenAt client_shown (Client n) s.life.begun s.stands.earlier (Sends s.send) packet s.stands.later =
      seen_at client_shown (Client n) s.life.begun s.stands.earlier (Sends s.send) packet s.stands.later (subst (λ (l : LifeSteps). AreWoven client_shown (Client n) s.life.begun l) s.stands.split i.facts.is.woven) in
      says_then s.life.first_xid s.life i.numbers bytes s.stands.earlier s.stands.later packet s.send s.stands.split seen.is.1 seen.is.2
