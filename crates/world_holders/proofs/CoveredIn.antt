-- A write that a life saw covered at a mirror is covered there by the journal (RFC 1813, sections 3.3.7 and 3.3.21).
use Rattle.std.proofs.Common.{◌≡◌, ℕ, false, List, [], ◌∷◌, ◌++◌, refl, sym, ap, subst, ◌∙◌, append_assoc}
use Rattle.std.specs.Prelude.{take}
use Rattle.ff_xdr.specs.Form.{word}
use Rattle.cluster_model.specs.declared.ids.NodeId.{NodeId}
use Rattle.cluster_model.specs.declared.ids.NodeId.TheVariants.{Server, Client}
use Rattle.cluster_model.specs.declared.ids.MirrorId.{MirrorId}
use Rattle.cluster_model.specs.declared.entry.Entry.{Entry}
use Rattle.cluster_model.specs.declared.entry.Entry.TheVariants as entry
use Rattle.cluster_model.specs.DsCalls.{DsCallValue, Write, Commit, Written, Committed}
use Rattle.cluster_laws.specs.Holders.{the_write}
use Rattle.world_rule.specs.ClusterWorlds.{ClusterState}
use Rattle.client_state.specs.ClientSends.{ClientSend, CallsServer}
use Rattle.client_laws.specs.ClientHistory.{HistoryItem, Hears, Sends, Recorded, HasItem, Each}
use Rattle.client_laws.specs.ClientRunLaws.{WasCovered}
use Rattle.client_records.specs.ClientRecords.{NumbersOn}
use Rattle.node_histories.specs.Weaves.{IsUnseen, IsArrival, WeaveStep, Seen, entries_in, items_in, IsShownAs, AreWoven}
use Rattle.node_histories.specs.ClientLives.{client_shown, Life}
use Rattle.node_histories.specs.NodeHistories.{HasLife, IsToldByNodes}
use Rattle.node_histories.proofs.WeaveLemmas.{items_join}
use Rattle.world_reads.proofs.Steps.{HasItemIn}
use Rattle.holder_parts.specs.CoveredRecords.{WasPosted, IsCoveredIn}
use Rattle.world_layouts.specs.WorldLayouts.{journal_at}
use Rattle.world_holders.proofs.LowerLaws.{HasLaws, call_laws}
use Rattle.world_holders.proofs.CallNumbers.{none_before}
use Rattle.world_holders.proofs.LifePlaces.{LifeSteps, has_middle, has_front, OrderStep, order_step, SeenStep, seen_step, journal_on, StandsBefore, stands_before, LifeIs, life_of, life_journal}
use Rattle.world_holders.proofs.PostedCalls.{calling}
use Rattle.world_holders.proofs.AnsweredCalls.{posted_later, posted_by, IsItsPacket, its_packet, has_answered}

abbrev heard_from : NodeId → List ℕ → ℕ → HistoryItem
heard_from node bytes now = Hears (Recorded node bytes now)

-- ---- the next step in order

-- behind steps that are split at one, the next of the items in order
further : (steps front later a b : LifeSteps) (step next : WeaveStep HistoryItem) → steps ≡ front ++ step ∷ later → later ≡ a ++ next ∷ b → steps ≡ (front ++ step ∷ a) ++ next ∷ b
further steps front later a b step next first second = first ∙ (ap (λ (l : LifeSteps). front ++ step ∷ l) second ∙ sym (append_assoc front (step ∷ a) (next ∷ b)))

hears_not : (node : NodeId) (bytes : List ℕ) (now : ℕ) → client_shown (heard_from node bytes now) ≡ IsUnseen → ⊥
hears_not node bytes now is = absurd cc

sends_not : (send : ClientSend) → client_shown (Sends send) ≡ IsUnseen → ⊥
sends_not send is = absurd cc

-- what came is a packet that was sent
came_by : (n : ℕ) (journal : List Entry) (node : NodeId) (bytes : List ℕ) (e : Entry) → IsShownAs (Client n) journal (IsArrival node bytes) e → WasPosted journal node (Client n) bytes
came_by n journal node bytes (entry.Delivered number) packet = posted_by journal number node (Client n) bytes packet
came_by n journal node bytes e none = absurd none

module _ (w : ClusterState) (t : IsToldByNodes w) (laws : HasLaws t) where
  module _ (n : ℕ) (l : Life) (its : HasLife t.stories n l) (earlier later : LifeSteps) (split : l.steps ≡ earlier ++ later) where
    i : LifeIs w t laws.clients.numbered n l
    i = life_of w t laws.clients.numbered n l its

    whole : (front back : LifeSteps) (step : WeaveStep HistoryItem) → earlier ≡ front ++ step ∷ back → l.steps ≡ front ++ step ∷ (back ++ later)
    whole front back step is = split ∙ (ap (λ (s : LifeSteps). s ++ later) is ∙ append_assoc front (step ∷ back) later)

    woven : (front back : LifeSteps) (step : WeaveStep HistoryItem) → earlier ≡ front ++ step ∷ back → AreWoven client_shown (Client n) l.begun (front ++ step ∷ (back ++ later))
    woven front back step is = subst (λ (s : LifeSteps). AreWoven client_shown (Client n) l.begun s) (whole front back step is) i.facts.is.woven

    -- a record that was heard there was sent before
    heard_posted : (front back : LifeSteps) (step : WeaveStep HistoryItem) → earlier ≡ front ++ step ∷ back → (node : NodeId) (bytes : List ℕ) (now : ℕ) → HasItemIn (heard_from node bytes now) step → WasPosted (journal_at l front) node (Client n) bytes
    heard_posted front back step is node bytes now item =
        let s : SeenStep (Client n) l.begun front (heard_from node bytes now) (back ++ later) step = seen_step (Client n) l.begun front (back ++ later) (heard_from node bytes now) step (woven front back step is) item (hears_not node bytes now) in
        came_by n (journal_at l front) node bytes s.entry s.shown

    -- what was sent there has an entry
    sent_step : (front back : LifeSteps) (step : WeaveStep HistoryItem) → earlier ≡ front ++ step ∷ back → (send : ClientSend) → HasItemIn (Sends send) step → (packet : Entry) × (step ≡ Seen (Sends send) packet)
    sent_step front back step is send item =
        let s : SeenStep (Client n) l.begun front (Sends send) (back ++ later) step = seen_step (Client n) l.begun front (back ++ later) (Sends send) step (woven front back step is) item (sends_not send) in
        (s.entry, s.step_is)

    -- the item of a step is one of the life
    step_item : (front back : LifeSteps) (step : WeaveStep HistoryItem) → earlier ≡ front ++ step ∷ back → (send : ClientSend) → HasItemIn (Sends send) step → HasItem (items_in l.steps) (Sends send)
    step_item front back step is send item =
        let p : (packet : Entry) × (step ≡ Seen (Sends send) packet) = sent_step front back step is send item in
        let at : items_in l.steps ≡ items_in front ++ Sends send ∷ items_in (back ++ later) =
        ap (λ (s : LifeSteps). items_in s) (whole front back step is) ∙ (ap (λ (s : WeaveStep HistoryItem). items_in (front ++ s ∷ (back ++ later))) p.1 ∙ items_join front (Seen (Sends send) p.0 ∷ (back ++ later))) in
        subst (λ (h : List HistoryItem). HasItem h (Sends send)) (sym at) (has_middle (items_in front) (items_in (back ++ later)) (Sends send))

    -- no packet under the number of a call went out before it
    new_there : (front back : LifeSteps) (step : WeaveStep HistoryItem) → earlier ≡ front ++ step ∷ back → (server xid : ℕ) (name : List ℕ) (uid : ℕ) (call : DsCallValue) → HasItemIn (calling server xid name uid call) step
        → (bytes : List ℕ) → WasPosted (journal_at l front) (Client n) (Server server) bytes → take 4 bytes ≡ word xid → ⊥
    new_there front back step is server xid name uid call item bytes posted number =
        none_before l.first_xid (items_in front) (items_in (back ++ later)) xid mine mine each refl before refl
      where
        mine : ClientSend
        mine = CallsServer server xid name uid call

        p : (packet : Entry) × (step ≡ Seen (Sends mine) packet)
        p = sent_step front back step is mine item

        at : l.steps ≡ front ++ Seen (Sends mine) p.0 ∷ (back ++ later)
        at = whole front back step is ∙ ap (λ (s : WeaveStep HistoryItem). front ++ s ∷ (back ++ later)) p.1

        each : Each (NumbersOn l.first_xid) [] (items_in front ++ Sends mine ∷ items_in (back ++ later))
        each =
            subst (λ (h : List HistoryItem). Each (NumbersOn l.first_xid) [] h)
            (i.facts.is.history ∙ (ap (λ (s : LifeSteps). items_in s) at ∙ items_join front (Seen (Sends mine) p.0 ∷ (back ++ later))))
            (laws.clients.numbered n l.verifier l.first_xid l.inputs i.facts.first).0

        q : IsItsPacket w t (call_laws w t laws) n server l xid name uid call (journal_at l front) bytes
        q =
            its_packet w t (call_laws w t laws) n server l its xid name uid call (step_item front back step is mine item) (journal_at l front) (entries_in (step ∷ (back ++ later)) ++ i.facts.rest)
            (life_journal w t laws.clients.numbered n l i front (step ∷ (back ++ later)) (whole front back step is)) bytes posted number

        r : StandsBefore q.earlier front (Sends q.send) q.packet
        r = stands_before l.begun q.earlier q.later front (back ++ later) (Sends q.send) (Sends mine) q.packet p.0 q.behind (sym q.split ∙ at) q.place

        before : HasItem (items_in front) (Sends mine)
        before =
            subst (λ (h : List HistoryItem). HasItem h (Sends mine))
            (sym (items_join (q.earlier ++ Seen (Sends q.send) q.packet ∷ []) r.middle) ∙ ap (λ (s : LifeSteps). items_in s) (append_assoc q.earlier (Seen (Sends q.send) q.packet ∷ []) r.middle ∙ sym r.is))
            (has_front (items_in (q.earlier ++ Seen (Sends q.send) q.packet ∷ [])) (items_in r.middle) (Sends mine) q.called)

    -- ---- a write is covered

    pub covered_in : (past more behind : List Entry) → past ≡ journal_at l earlier ++ more → w.journal ≡ past ++ behind → (id : MirrorId) (uid at : ℕ) (bytes : List ℕ) (items : List HistoryItem) → WasCovered (items_in earlier) id uid at bytes items
        → IsCoveredIn past uid id (the_write at bytes)
    covered_in past more behind past_is journal id uid at bytes items c =
        record {
          client = n;
          wrote = record { xid = c.written.xid; machine = c.written.name; user = uid; call = wrote };
          its_user = refl;
          its_call = refl;
          verifier = c.verifier;
          first = journal_at l front3;
          later = entries_in (o3.step ∷ o3.later) ++ more;
          split = past_is ∙ (ap (λ (x : List Entry). x ++ more) (journal_to front3 (o3.step ∷ o3.later) at3) ∙ append_assoc (journal_at l front3) (entries_in (o3.step ∷ o3.later)) more);
          write_shown = c.written.shown;
          written =
              has_answered w t (call_laws w t laws) n id.server l its c.written.xid c.written.name uid wrote (step_item o1.earlier o1.later o1.step o1.split (CallsServer id.server c.written.xid c.written.name uid wrote) o1.is)
              (journal_at l front3) (entries_in (o3.step ∷ (o3.later ++ later)) ++ i.facts.rest) (life_journal w t laws.clients.numbered n l i front3 (o3.step ∷ (o3.later ++ later)) (whole front3 o3.later o3.step at3)) c.written.bytes written_came
              (Written c.written.shown c.verifier) c.written.says;
          commit = record { xid = c.xid; machine = c.name; user = uid; call = commits };
          commit_is = refl;
          new = λ other posted number. new_there front3 o3.later o3.step at3 id.server c.xid c.name uid commits o3.is other posted number;
          commit_shown = c.shown;
          committed =
              has_answered w t (call_laws w t laws) n id.server l its c.xid c.name uid commits (step_item front3 o3.later o3.step at3 (CallsServer id.server c.xid c.name uid commits) o3.is)
              past behind journal c.bytes committed_came (Committed c.shown c.verifier) c.says;
        }
      where
        wrote : DsCallValue
        wrote = Write id.fileid at false bytes

        commits : DsCallValue
        commits = Commit id.fileid

        heard1 : HistoryItem
        heard1 = heard_from (Server id.server) c.written.bytes c.written.now

        heard2 : HistoryItem
        heard2 = heard_from (Server id.server) c.bytes c.now

        o1 : OrderStep earlier (calling id.server c.written.xid c.written.name uid wrote) (heard1 ∷ calling id.server c.xid c.name uid commits ∷ heard2 ∷ items)
        o1 = order_step earlier (calling id.server c.written.xid c.written.name uid wrote) (heard1 ∷ calling id.server c.xid c.name uid commits ∷ heard2 ∷ items) c.written.order

        o2 : OrderStep o1.later heard1 (calling id.server c.xid c.name uid commits ∷ heard2 ∷ items)
        o2 = order_step o1.later heard1 (calling id.server c.xid c.name uid commits ∷ heard2 ∷ items) o1.rest

        o3 : OrderStep o2.later (calling id.server c.xid c.name uid commits) (heard2 ∷ items)
        o3 = order_step o2.later (calling id.server c.xid c.name uid commits) (heard2 ∷ items) o2.rest

        o4 : OrderStep o3.later heard2 items
        o4 = order_step o3.later heard2 items o3.rest

        front2 : LifeSteps
        front2 = o1.earlier ++ o1.step ∷ o2.earlier

        at2 : earlier ≡ front2 ++ o2.step ∷ o2.later
        at2 = further earlier o1.earlier o1.later o2.earlier o2.later o1.step o2.step o1.split o2.split

        front3 : LifeSteps
        front3 = front2 ++ o2.step ∷ o3.earlier

        at3 : earlier ≡ front3 ++ o3.step ∷ o3.later
        at3 = further earlier front2 o2.later o3.earlier o3.later o2.step o3.step at2 o3.split

        front4 : LifeSteps
        front4 = front3 ++ o3.step ∷ o4.earlier

        at4 : earlier ≡ front4 ++ o4.step ∷ o4.later
        at4 = further earlier front3 o3.later o4.earlier o4.later o3.step o4.step at3 o4.split

        journal_to : (front back : LifeSteps) → earlier ≡ front ++ back → journal_at l earlier ≡ journal_at l front ++ entries_in back
        journal_to front back is = ap (λ (s : LifeSteps). journal_at l s) is ∙ journal_on l.begun front back

        written_came : WasPosted (journal_at l front3) (Server id.server) (Client n) c.written.bytes
        written_came =
            subst (λ (j : List Entry). WasPosted j (Server id.server) (Client n) c.written.bytes) (sym (journal_on l.begun front2 (o2.step ∷ o3.earlier)))
            (posted_later (journal_at l front2) (entries_in (o2.step ∷ o3.earlier)) (Server id.server) (Client n) c.written.bytes (heard_posted front2 o2.later o2.step at2 (Server id.server) c.written.bytes c.written.now o2.is))

        committed_came : WasPosted past (Server id.server) (Client n) c.bytes
        committed_came =
            subst (λ (j : List Entry). WasPosted j (Server id.server) (Client n) c.bytes) (sym (past_is ∙ (ap (λ (x : List Entry). x ++ more) (journal_to front4 (o4.step ∷ o4.later) at4) ∙ append_assoc (journal_at l front4) (entries_in (o4.step ∷ o4.later)) more)))
            (posted_later (journal_at l front4) (entries_in (o4.step ∷ o4.later) ++ more) (Server id.server) (Client n) c.bytes (heard_posted front4 o4.later o4.step at4 (Server id.server) c.bytes c.now o4.is))
