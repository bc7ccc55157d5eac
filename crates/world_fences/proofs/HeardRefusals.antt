-- A life that heard such a refusal did so behind the end of the layout's period.
use Rattle.std.proofs.Common.{◌≡◌, ◌<◌, ◌≤◌, ℕ, zero, suc, List, [], ◌∷◌, ◌++◌, Some, refl, sym, ap, subst, ◌∙◌, inl, inr, append_assoc}
use Rattle.std.specs.Prelude.{slice_get, take}
use Rattle.std.specs.List.{AllByRecursion}
use Rattle.std.proofs.lemmas.List.Concat.{flat_map-append}
use Rattle.std.proofs.lemmas.Option.{none-some, same_Some}
use Rattle.ff_xdr.specs.Form.{word}
use Rattle.cluster_model.specs.declared.ids.NodeId.{NodeId}
use Rattle.cluster_model.specs.declared.ids.NodeId.TheVariants.{Server, Client}
use Rattle.cluster_model.specs.declared.ids.FileId.{FileId}
use Rattle.cluster_model.specs.declared.ids.Mirror.{Mirror}
use Rattle.cluster_model.specs.declared.ids.MirrorId.{MirrorId}
use Rattle.cluster_model.specs.declared.entry.Entry.{Entry}
use Rattle.cluster_model.specs.declared.entry.Entry.TheVariants as entry
use Rattle.cluster_model.specs.Journal.{content_of}
use Rattle.cluster_model.specs.Phases.{ids_of}
use Rattle.cluster_model.specs.Server.{ServerState}
use Rattle.cluster_model.specs.DsCalls.{DsCallValue, Failed, ds_plan}
use Rattle.cluster_laws.specs.FenceLaw.{live_in}
use Rattle.cluster_laws.specs.Periods.{ArePeriodsFenced}
use Rattle.cluster_laws.specs.Agreement.{cause_in, causes_of}
use Rattle.world_rule.specs.ClusterWorlds.{ClusterState}
use Rattle.ds_files.specs.Receive.{outcome_of}
use Rattle.ds_calls.specs.DsCallLaws.{DsMessage, HasRecord}
use Rattle.client_file_calls.specs.declared.grant.LayoutGrant.{LayoutGrant}
use Rattle.same_server.specs.SameServer.{DoesTheCall, caller_of_user}
use Rattle.proper_servers.specs.ProperServers.{IsProper}
use Rattle.client_state.specs.ClientSends.{ClientSend, CallsServer}
use Rattle.client_laws.specs.ClientHistory.{HistoryItem, Hears, Sends, Recorded, InOrder, HasItem, Each}
use Rattle.client_laws.specs.ClientRunLaws.{WasGranted, InEachRun}
use Rattle.client_sessions.specs.LayoutEnds.{WasFenced, HasGrant, CallsGranted}
use Rattle.node_histories.specs.Weaves.{IsUnseen, IsArrival, WeaveStep, Seen, entries_in, items_in, IsShownAs, AreWoven}
use Rattle.node_histories.specs.ClientLives.{client_shown, Life}
use Rattle.node_histories.specs.NodeHistories.{AnswersArrival, HasLife, IsToldByNodes}
use Rattle.node_histories.proofs.WeaveLemmas.{items_join}
use Rattle.holder_parts.specs.CoveredRecords.{WasPosted}
use Rattle.holder_parts.specs.HeldOwners.{BelongTo}
use Rattle.world_layouts.specs.WorldLayouts.{journal_at, GrantsAreTold, WasBegunFor, HasPeriodEnded, HoldersOwnAtDeliveries}
use Rattle.world_holders.proofs.LowerLaws.{HasCallLaws}
use Rattle.world_holders.proofs.LifePlaces.{LifeSteps, has_front, each_at, OrderStep, order_step, SeenStep, seen_step, journal_split, journal_on, LifeIs, life_of, life_journal}
use Rattle.world_holders.proofs.PostedCalls.{calling, PostedCall, posted_call, send_fits}
use Rattle.world_holders.proofs.AnsweredCalls.{posted_by, record_number, IsItsPacket, its_packet}
use Rattle.world_holders.proofs.JournalGrants.{grant_to, IsOneGrant, one_grant}
use Rattle.world_fences.proofs.GrantsOfRuns.{AreAboveRoot}
use Rattle.world_fences.proofs.GrantsOfWorlds.{AreGrantsPlaced}
use Rattle.world_fences.proofs.RefusedCalls.{not_refused}
use Rattle.world_fences.proofs.AnsweredRecords.{SaysAnswer, answer_to, answers_arrival}

-- ---- a part of a journal in which no period ended

no_part : {A : Type 0} (a b : List A) → a ++ b ≡ [] → (a ≡ []) × (b ≡ [])
no_part [] b is = (refl, is)
no_part (x ∷ a) b is = absurd cc

causes_join : (uid : ℕ) (a b : List Entry) → causes_of uid (a ++ b) ≡ causes_of uid a ++ causes_of uid b
causes_join uid a b = flat_map-append (cause_in uid) a b

causes_within : (uid : ℕ) (a b c : List Entry) → causes_of uid (a ++ (b ++ c)) ≡ [] → causes_of uid b ≡ []
causes_within uid a b c none =
    let behind : causes_of uid (b ++ c) ≡ [] = (no_part (causes_of uid a) (causes_of uid (b ++ c)) (sym (causes_join uid a (b ++ c)) ∙ none)).1 in
    (no_part (causes_of uid b) (causes_of uid c) (sym (causes_join uid b c) ∙ behind)).0

-- ---- one of the mirrors of a grant

id_at : (P : MirrorId → Type 0) (mirrors : List Mirror) (place : ℕ) (m : Mirror) → slice_get mirrors place ≡ Some m → AllByRecursion P (ids_of mirrors) → P m.id
id_at P [] place m there all = absurd (none-some m there)
id_at P (x ∷ mirrors) zero m there all = subst (λ (k : Mirror). P k.id) (same_Some x m there) all.0
id_at P (x ∷ mirrors) (suc place) m there all = id_at P mirrors place m there all.1

-- ---- places of a life

first_of : (x y : HistoryItem) (h : List HistoryItem) → InOrder (x ∷ y ∷ []) h → HasItem h x
first_of x y [] order = absurd order
first_of x y (z ∷ h) (inl (same, rest)) = inl (same, tt)
first_of x y (z ∷ h) (inr order) = inr (first_of x y h order)

further : (steps front later a b : LifeSteps) (step next : WeaveStep HistoryItem) → steps ≡ front ++ step ∷ later → later ≡ a ++ next ∷ b → steps ≡ (front ++ step ∷ a) ++ next ∷ b
further steps front later a b step next first second = first ∙ (ap (λ (l : LifeSteps). front ++ step ∷ l) second ∙ sym (append_assoc front (step ∷ a) (next ∷ b)))

hears_not : (node : NodeId) (bytes : List ℕ) (now : ℕ) → client_shown (Hears (Recorded node bytes now)) ≡ IsUnseen → ⊥
hears_not node bytes now is = absurd cc

sends_not : (send : ClientSend) → client_shown (Sends send) ≡ IsUnseen → ⊥
sends_not send is = absurd cc

came_by : (n : ℕ) (journal : List Entry) (node : NodeId) (bytes : List ℕ) (e : Entry) → IsShownAs (Client n) journal (IsArrival node bytes) e → WasPosted journal node (Client n) bytes
came_by n journal node bytes (entry.Delivered number) packet = posted_by journal number node (Client n) bytes packet
came_by n journal node bytes e none = absurd none

-- a journal that goes on in two steps
joined : (whole past middle front rest : List Entry) (e : Entry) → whole ≡ past ++ rest → past ≡ front ++ e ∷ middle → whole ≡ front ++ e ∷ (middle ++ rest)
joined whole past middle front rest e first second = first ∙ (ap (λ (l : List Entry). l ++ rest) second ∙ append_assoc front (e ∷ middle) rest)

grant_file : (f g : FileId) (uid n : ℕ) → grant_to f uid (Client n) ≡ grant_to g uid (Client n) → f ≡ g
grant_file f g uid n is = cc

-- what is known of a world
pub record HasFenceLaws {w : ClusterState} (told : IsToldByNodes w) : Type 0 where
  pub calls : HasCallLaws w
  pub granted_calls : InEachRun CallsGranted
  pub same : (s : ServerState) (m : DsMessage) → IsProper s → HasRecord m → DoesTheCall s m
  pub periods : ArePeriodsFenced w.journal
  pub placed : AreGrantsPlaced w.journal
  pub granted : GrantsAreTold told
  pub owns : HoldersOwnAtDeliveries w.journal

module _ (w : ClusterState) (t : IsToldByNodes w) (laws : HasFenceLaws t) (n : ℕ) (l : Life) (its : HasLife t.stories n l) where
  i : LifeIs w t laws.calls.numbered n l
  i = life_of w t laws.calls.numbered n l its

  -- ---- a call was made under a layout

  -- the grant under whose uid a call was made, and its period, behind these steps
  record MadeUnder (steps : LifeSteps) (uid : ℕ) : Type 0 where
    file : FileId
    before : List Entry
    behind : List Entry
    split : journal_at l steps ≡ before ++ grant_to file uid (Client n) ∷ behind

  made_under : (steps rest : LifeSteps) → l.steps ≡ steps ++ rest → (server xid : ℕ) (name : List ℕ) (uid : ℕ) (call : DsCallValue) → HasItem (items_in steps) (calling server xid name uid call) → MadeUnder steps uid
  made_under steps rest split server xid name uid call has = record {
    file = b_file;
    before = b.before;
    behind = b.behind ++ entries_in (o.step ∷ o.later);
    split = joined (journal_at l steps) (journal_at l o.earlier) b.behind b.before (entries_in (o.step ∷ o.later)) (grant_to b_file uid (Client n)) (ap (λ (s : LifeSteps). journal_at l s) o.split ∙ journal_on l.begun o.earlier (o.step ∷ o.later))
        (b.split ∙ ap (λ (u : ℕ). b.before ++ grant_to b_file u (Client n) ∷ b.behind) g.its_uid);
  }
    where
      mine : ClientSend
      mine = CallsServer server xid name uid call

      o : OrderStep steps (Sends mine) []
      o = order_step steps (Sends mine) [] has

      at : l.steps ≡ o.earlier ++ o.step ∷ (o.later ++ rest)
      at = split ∙ (ap (λ (s : LifeSteps). s ++ rest) o.split ∙ append_assoc o.earlier (o.step ∷ o.later) rest)

      s : SeenStep (Client n) l.begun o.earlier (Sends mine) (o.later ++ rest) o.step
      s = seen_step (Client n) l.begun o.earlier (o.later ++ rest) (Sends mine) o.step (subst (λ (x : LifeSteps). AreWoven client_shown (Client n) l.begun x) at i.facts.is.woven) o.is (sends_not mine)

      items : items_in l.steps ≡ items_in o.earlier ++ Sends mine ∷ items_in (o.later ++ rest)
      items =
          ap (λ (x : LifeSteps). items_in x) at
          ∙ (ap (λ (x : WeaveStep HistoryItem). items_in (o.earlier ++ x ∷ (o.later ++ rest))) s.step_is ∙ items_join o.earlier (Seen (Sends mine) s.entry ∷ (o.later ++ rest)))

      g : HasGrant (items_in o.earlier) uid
      g =
          each_at CallsGranted [] (items_in o.earlier) (items_in (o.later ++ rest)) (Sends mine)
          (subst (λ (h : List HistoryItem). Each CallsGranted [] h) (i.facts.is.history ∙ items) (laws.granted_calls n l.verifier l.first_xid l.inputs))

      b : WasBegunFor (journal_at l o.earlier) n g.granted.file.file g.grant
      b = laws.granted n l o.earlier (o.step ∷ (o.later ++ rest)) g.grant its at g.granted

      b_file : FileId
      b_file = g.granted.file.file

  -- ---- a refusal that was heard

  module _ (earlier later : LifeSteps) (split : l.steps ≡ earlier ++ later) (grant : LayoutGrant) (granted : WasGranted (items_in earlier) grant) (f : WasFenced (items_in earlier) grant) where
    abbrev uid : ℕ
    uid = grant.uid.0

    abbrev server : ℕ
    server = f.mirror.id.server

    abbrev called : HistoryItem
    called = calling server f.xid f.name uid f.call

    abbrev coming : HistoryItem
    coming = Hears (Recorded (Server server) f.bytes f.now)

    o1 : OrderStep earlier called (coming ∷ [])
    o1 = order_step earlier called (coming ∷ []) f.order

    o2 : OrderStep o1.later coming []
    o2 = order_step o1.later coming [] o1.rest

    abbrev front : LifeSteps
    front = o1.earlier ++ o1.step ∷ o2.earlier

    at : earlier ≡ front ++ o2.step ∷ o2.later
    at = further earlier o1.earlier o1.later o2.earlier o2.later o1.step o2.step o1.split o2.split

    whole : l.steps ≡ front ++ o2.step ∷ (o2.later ++ later)
    whole = split ∙ (ap (λ (s : LifeSteps). s ++ later) at ∙ append_assoc front (o2.step ∷ o2.later) later)

    -- it is a packet of the data server
    posted : WasPosted (journal_at l front) (Server server) (Client n) f.bytes
    posted =
        let s : SeenStep (Client n) l.begun front coming (o2.later ++ later) o2.step =
        seen_step (Client n) l.begun front (o2.later ++ later) coming o2.step (subst (λ (x : LifeSteps). AreWoven client_shown (Client n) l.begun x) whole i.facts.is.woven) o2.is (hears_not (Server server) f.bytes f.now) in
        came_by n (journal_at l front) (Server server) f.bytes s.entry s.shown

    abbrev rest : List Entry
    rest = entries_in (o2.step ∷ (o2.later ++ later)) ++ i.facts.rest

    abbrev replied : Entry
    replied = entry.Packet posted.number (Server server) (Client n) f.bytes

    journal_is : w.journal ≡ posted.before ++ replied ∷ (posted.behind ++ rest)
    journal_is =
        joined w.journal (journal_at l front) posted.behind posted.before rest replied (life_journal w t laws.calls.numbered n l i front (o2.step ∷ (o2.later ++ later)) whole) posted.split

    -- which answers what came to it
    a : AnswersArrival posted.before server (Client n) f.bytes
    a = answers_arrival w t posted.before (posted.behind ++ rest) posted.number server n f.bytes journal_is

    abbrev since : List Entry
    since = (outcome_of a.server a.asked).entries

    delivered : w.journal ≡ a.before ++ entry.Delivered a.number ∷ (since ++ replied ∷ (posted.behind ++ rest))
    delivered = joined w.journal posted.before since a.before (replied ∷ (posted.behind ++ rest)) (entry.Delivered a.number) journal_is a.split

    asked : WasPosted a.before (Client n) (Server server) a.asked
    asked = posted_by a.before a.number (Client n) (Server server) a.asked a.came

    -- and that is the call
    call_of_record : PostedCall t n server asked.before (entry.Packet asked.number (Client n) (Server server) a.asked) a.asked
    call_of_record =
        posted_call w t laws.calls asked.before (asked.behind ++ (entry.Delivered a.number ∷ (since ++ replied ∷ (posted.behind ++ rest)))) asked.number n server a.asked
        (joined w.journal a.before asked.behind asked.before (entry.Delivered a.number ∷ (since ++ replied ∷ (posted.behind ++ rest))) (entry.Packet asked.number (Client n) (Server server) a.asked) delivered asked.split)

    abbrev came_as : DsMessage
    came_as = record { xid = call_of_record.xid; machine = call_of_record.name; user = call_of_record.uid; call = call_of_record.call }

    number : take 4 a.asked ≡ word f.xid
    number =
        let r : SaysAnswer a.server came_as f.says.reply =
        answer_to laws.same a.server came_as a.proper call_of_record.fits f.bytes f.says.reply (ap (λ (b : List ℕ). (outcome_of a.server b).reply) (sym call_of_record.is) ∙ a.reply) f.says.reply_is in
        ap (λ (b : List ℕ). take 4 b) call_of_record.is ∙ (record_number came_as ∙ ap word (sym r.number ∙ f.says.number))

    has_called : HasItem (items_in l.steps) called
    has_called =
        subst (λ (h : List HistoryItem). HasItem h called) (sym (ap (λ (s : LifeSteps). items_in s) split ∙ items_join earlier later))
        (has_front (items_in earlier) (items_in later) called (first_of called coming (items_in earlier) f.order))

    p : IsItsPacket w t laws.calls n server l f.xid f.name uid f.call a.before a.asked
    p = its_packet w t laws.calls n server l its f.xid f.name uid f.call has_called a.before (entry.Delivered a.number ∷ (since ++ replied ∷ (posted.behind ++ rest))) delivered a.asked asked number

    -- ---- the period of the layout, before that

    abbrev upto : LifeSteps
    upto = p.earlier ++ Seen (Sends p.send) p.packet ∷ []

    u : MadeUnder upto uid
    u = made_under upto p.later (p.split ∙ sym (append_assoc p.earlier (Seen (Sends p.send) p.packet ∷ []) p.later)) server f.xid f.name uid f.call p.called

    before_is : a.before ≡ u.before ++ grant_to u.file uid (Client n) ∷ (u.behind ++ p.behind)
    before_is =
        joined a.before (journal_at l upto) u.behind u.before p.behind (grant_to u.file uid (Client n))
        (p.place ∙ (sym (append_assoc (journal_at l p.earlier) (p.packet ∷ []) p.behind) ∙ ap (λ (j : List Entry). j ++ p.behind) (sym (journal_split l.begun p.earlier [] (Sends p.send) p.packet)))) u.split

    b : WasBegunFor (journal_at l earlier) n granted.file.file grant
    b = laws.granted n l earlier later grant its split granted

    began : w.journal ≡ u.before ++ grant_to u.file uid (Client n) ∷ ((u.behind ++ p.behind) ++ (entry.Delivered a.number ∷ (since ++ replied ∷ (posted.behind ++ rest))))
    began = joined w.journal a.before (u.behind ++ p.behind) u.before (entry.Delivered a.number ∷ (since ++ replied ∷ (posted.behind ++ rest))) (grant_to u.file uid (Client n)) delivered before_is

    also : w.journal ≡ b.before ++ grant_to granted.file.file uid (Client n) ∷ (b.behind ++ (entries_in later ++ i.facts.rest))
    also = joined w.journal (journal_at l earlier) b.behind b.before (entries_in later ++ i.facts.rest) (grant_to granted.file.file uid (Client n)) (life_journal w t laws.calls.numbered n l i earlier later split) b.split

    one : IsOneGrant u.before b.before (grant_to u.file uid (Client n)) (grant_to granted.file.file uid (Client n))
    one =
        one_grant w.journal laws.periods u.before ((u.behind ++ p.behind) ++ (entry.Delivered a.number ∷ (since ++ replied ∷ (posted.behind ++ rest)))) b.before (b.behind ++ (entries_in later ++ i.facts.rest)) u.file granted.file.file uid (Client n)
        (Client n) began also

    live : live_in u.before u.file ≡ Some (ids_of grant.mirrors)
    live =
        subst (λ (j : List Entry). live_in j u.file ≡ Some (ids_of grant.mirrors)) (sym one.before)
        (subst (λ (k : FileId). live_in b.before k ≡ Some (ids_of grant.mirrors)) (sym (grant_file u.file granted.file.file uid n one.is)) b.live)

    placed : (0 < uid) × ((ids : List MirrorId) → live_in u.before u.file ≡ Some ids → AreAboveRoot ids)
    placed = laws.placed u.before ((u.behind ++ p.behind) ++ (entry.Delivered a.number ∷ (since ++ replied ∷ (posted.behind ++ rest)))) u.file grant.uid (Client n) began

    -- ---- nothing ended it

    heard_by : journal_at l earlier ≡ (u.before ++ grant_to u.file uid (Client n) ∷ []) ++ ((u.behind ++ p.behind) ++ (entry.Delivered a.number ∷ (since ++ replied ∷ (posted.behind ++ entries_in (o2.step ∷ o2.later)))))
    heard_by =
        let to_heard : journal_at l earlier ≡ journal_at l front ++ entries_in (o2.step ∷ o2.later) = ap (λ (s : LifeSteps). journal_at l s) at ∙ journal_on l.begun front (o2.step ∷ o2.later) in
        let to_reply : journal_at l earlier ≡ posted.before ++ replied ∷ (posted.behind ++ entries_in (o2.step ∷ o2.later)) =
        joined (journal_at l earlier) (journal_at l front) posted.behind posted.before (entries_in (o2.step ∷ o2.later)) replied to_heard posted.split in
        let to_delivery : journal_at l earlier ≡ a.before ++ entry.Delivered a.number ∷ (since ++ replied ∷ (posted.behind ++ entries_in (o2.step ∷ o2.later))) =
        joined (journal_at l earlier) posted.before since a.before (replied ∷ (posted.behind ++ entries_in (o2.step ∷ o2.later))) (entry.Delivered a.number) to_reply a.split in
        let to_grant : journal_at l earlier ≡ u.before ++ grant_to u.file uid (Client n) ∷ ((u.behind ++ p.behind) ++ (entry.Delivered a.number ∷ (since ++ replied ∷ (posted.behind ++ entries_in (o2.step ∷ o2.later))))) =
        joined (journal_at l earlier) a.before (u.behind ++ p.behind) u.before (entry.Delivered a.number ∷ (since ++ replied ∷ (posted.behind ++ entries_in (o2.step ∷ o2.later)))) (grant_to u.file uid (Client n)) to_delivery before_is in
        to_grant ∙ sym (append_assoc u.before (grant_to u.file uid (Client n) ∷ []) ((u.behind ++ p.behind) ++ (entry.Delivered a.number ∷ (since ++ replied ∷ (posted.behind ++ entries_in (o2.step ∷ o2.later))))))

    module _ (none : causes_of uid (journal_at l earlier) ≡ []) where
      open_then : causes_of uid (u.behind ++ p.behind) ≡ []
      open_then =
          causes_within uid (u.before ++ grant_to u.file uid (Client n) ∷ []) (u.behind ++ p.behind) (entry.Delivered a.number ∷ (since ++ replied ∷ (posted.behind ++ entries_in (o2.step ∷ o2.later))))
          (sym (ap (λ (j : List Entry). causes_of uid j) heard_by) ∙ none)

      belongs : BelongTo a.before uid (ids_of grant.mirrors)
      belongs = laws.owns a.before (since ++ replied ∷ (posted.behind ++ rest)) a.number delivered u.before (u.behind ++ p.behind) u.file uid (Client n) (ids_of grant.mirrors) before_is live open_then

      owner : (content_of a.before f.mirror.id).owner ≡ uid
      owner = id_at (λ (id : MirrorId). (content_of a.before id).owner ≡ uid) grant.mirrors f.place f.mirror f.there belongs

      above : 2 ≤ f.mirror.id.fileid
      above = id_at (λ (id : MirrorId). 2 ≤ id.fileid) grant.mirrors f.place f.mirror f.there (placed.1 (ids_of grant.mirrors) live)

      abbrev message : DsMessage
      message = record { xid = f.xid; machine = f.name; user = uid; call = f.call }

      answered : SaysAnswer a.server message f.says.reply
      answered =
          answer_to laws.same a.server message a.proper (send_fits w t laws.calls n l i (CallsServer server f.xid f.name uid f.call) has_called).0 f.bytes f.says.reply
          (ap (λ (x : List ℕ). (outcome_of a.server x).reply) (sym p.is) ∙ a.reply) f.says.reply_is

      refused : (ds_plan a.server (caller_of_user uid) f.call).reply ≡ Failed f.status f.shown
      refused = sym answered.answer ∙ f.says.says_so

      pub no_refusal : ⊥
      no_refusal = not_refused a.server a.before a.truth a.proper uid placed.0 f.mirror.id a.its_number above owner f.call f.to_mirror f.status f.shown f.fence refused

  pub had_ended : (earlier later : LifeSteps) (grant : LayoutGrant) → l.steps ≡ earlier ++ later → WasGranted (items_in earlier) grant → WasFenced (items_in earlier) grant → HasPeriodEnded (journal_at l earlier) grant.uid.0
  had_ended earlier later grant split granted f none = no_refusal earlier later split grant granted f none
