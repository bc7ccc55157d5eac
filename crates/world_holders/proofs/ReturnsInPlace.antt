-- A period that ends as returned: nothing strayed under its uid, and all that was taken is covered (RFC 8435, sections 6 and 8).
use Rattle.std.proofs.Common.{◌≡◌, ℕ, zero, suc, false, List, [], ◌∷◌, ◌++◌, Some, refl, sym, ap, subst, ◌∙◌, inl, inr, append_assoc, append-nil}
use Rattle.std.specs.Prelude.{slice_get}
use Rattle.std.specs.List.{AllByRecursion}
use Rattle.cluster_model.specs.declared.ids.NodeId.TheVariants.{Client}
use Rattle.cluster_model.specs.declared.ids.FileId.{FileId}
use Rattle.cluster_model.specs.declared.ids.Mirror.{Mirror}
use Rattle.cluster_model.specs.declared.ids.MirrorId.{MirrorId}
use Rattle.cluster_model.specs.declared.phase.EndCause.TheVariants.{Returned}
use Rattle.cluster_model.specs.declared.entry.Entry.{Entry}
use Rattle.cluster_model.specs.declared.entry.Entry.TheVariants.{Sent, Rogue, Ended}
use Rattle.cluster_model.specs.DsCalls.{Write}
use Rattle.cluster_model.specs.Phases.{ids_of}
use Rattle.cluster_model.specs.Members.{IsOneOf}
use Rattle.cluster_laws.specs.Agreement.{sent_of}
use Rattle.cluster_laws.specs.Holders.{the_write}
use Rattle.world_rule.specs.ClusterWorlds.{ClusterState}
use Rattle.nfs4_types.specs.declared.stateid.Stateid.{Stateid}
use Rattle.client_file_calls.specs.declared.grant.LayoutGrant.{LayoutGrant}
use Rattle.client_file_calls.specs.declared.layout_return.FailedMirror.{FailedMirror}
use Rattle.client_mds_calls.specs.FittingCalls.{reports_server}
use Rattle.client_mds_calls.specs.MdsCalls.{OnSlot}
use Rattle.client_mds_calls.specs.MdsCalls as slot
use Rattle.client_state.specs.ClientSends.{ClientSend, CallsServer, CallsMds, spelled_send}
use Rattle.client_laws.specs.ClientHistory.{HistoryItem, Hears, LeftProtocol, Enters, Sends, HasItem, Each, client_history}
use Rattle.client_laws.specs.ClientRunLaws.{WasGranted, AreGrantedOnce, IsSilent, KeepsSilent, WasCovered, CoveredUnreported, MayReturn, ReturnsCommitted}
use Rattle.client_laws.proofs.Later.{granted_later}
use Rattle.client_sessions.specs.LayoutEnds.{GoesAtOnce}
use Rattle.node_histories.specs.Weaves.{Seen, items_in, IsSendingOf, AreWoven}
use Rattle.node_histories.specs.ClientLives.{client_shown, Life, start_of}
use Rattle.node_histories.specs.NodeHistories.{IsToldByNodes}
use Rattle.node_histories.proofs.WeaveLemmas.{items_join, seen_at}
use Rattle.world_reads.proofs.Steps.{Splits, Longer, Shorter, splits}
use Rattle.holder_parts.specs.CoveredRecords.{IsCoveredIn}
use Rattle.holder_parts.specs.HolderParts.{ReturnsInPlace}
use Rattle.world_layouts.specs.WorldLayouts.{journal_at, WasReturnedBy}
use Rattle.world_holders.proofs.LowerLaws.{HasLaws}
use Rattle.client_sessions.specs.EnteredFiles.{HasGrantFor, EntersForFile}
use Rattle.world_holders.proofs.LifePlaces.{LifeSteps, has_middle, has_front, each_at, StandsBefore, stands_before, LifeIs, life_of}
use Rattle.world_holders.proofs.UserEntries.{each_sent, no_rogue}
use Rattle.world_holders.proofs.PostsInPlace.{law_at}
use Rattle.world_holders.proofs.CoveredIn.{covered_in}
use Rattle.world_holders.proofs.HeldEntries.{ClientEntry, IsWhose, OfClient, OfMds, whose_sent, whose_rogue, client_period, items_at, once_at, granted_whole, one_life, not_own, silent_not}
use Rattle.world_holders.proofs.OwnEnds.{OwnGrant, sent_grant}
use Rattle.world_holders.proofs.LeftClients.{AsksNothing, rogue_left, behind_left}

-- ---- an entry before another place, at it, or behind it

data Side (a b front since : List Entry) (x posted : Entry) : Type 0 where
  Before : (middle : List Entry) → front ≡ a ++ x ∷ middle → Side a b front since x posted
  There : posted ≡ x → Side a b front since x posted
  Behind : (middle : List Entry) → a ≡ front ++ posted ∷ middle → Side a b front since x posted

head_entry : (x y : Entry) (a b : List Entry) → x ∷ a ≡ y ∷ b → x ≡ y
head_entry x y a b is = cc

side_of : (a b front since : List Entry) (x posted : Entry) → a ++ x ∷ b ≡ front ++ posted ∷ since → Side a b front since x posted
side_of a b front since x posted is = by_place (splits a (x ∷ b) front (posted ∷ since) is)
  where
    by_middle : (middle : List Entry) → front ≡ a ++ middle → x ∷ b ≡ middle ++ posted ∷ since → Side a b front since x posted
    by_middle [] first second = There (sym (head_entry x posted b since second))
    by_middle (y ∷ middle) first second = Before middle (first ∙ ap (λ (z : Entry). a ++ z ∷ middle) (sym (head_entry x y b (middle ++ posted ∷ since) second)))

    by_place : Splits a (x ∷ b) front (posted ∷ since) → Side a b front since x posted
    by_place (Longer middle first second) = by_middle middle first second
    by_place (Shorter y middle first second) = Behind middle (first ∙ ap (λ (z : Entry). front ++ z ∷ middle) (sym (head_entry posted y since (middle ++ x ∷ b) second)))

-- ---- what a return covers

-- by a layout under this uid
record CoversAt (items : List HistoryItem) (uid : ℕ) (failed : List FailedMirror) (at : ℕ) (bytes : List ℕ) : Type 0 where
  grant : LayoutGrant
  granted : WasGranted items grant
  its_uid : grant.uid.0 ≡ uid
  covered : CoveredUnreported items grant failed at bytes []

covers_front : (front middle : List HistoryItem) (f : FileId) (uid at : ℕ) (bytes : List ℕ) (stateid : Stateid) (failed : List FailedMirror) → MayReturn (front ++ Enters (Sent f (record { 0 = uid }) at bytes) ∷ middle) stateid failed
    → AreGrantedOnce (front ++ Enters (Sent f (record { 0 = uid }) at bytes) ∷ middle) → ((grant : LayoutGrant) → WasGranted (front ++ Enters (Sent f (record { 0 = uid }) at bytes) ∷ middle) grant → grant.stateid ≡ stateid → grant.uid.0 ≡ uid)
    → HasGrantFor front f uid → CoversAt (front ++ Enters (Sent f (record { 0 = uid }) at bytes) ∷ middle) uid failed at bytes
covers_front front middle f uid at bytes stateid failed may once its h = record { grant = may.grant; granted = may.granted; its_uid = own; covered = may.covered f at bytes since }
  where
    own : may.grant.uid.0 ≡ uid
    own = its may.grant may.granted may.its_stateid

    same : (h.granted.since ++ Enters (Sent f (record { 0 = uid }) at bytes) ∷ middle) ≡ may.granted.since
    same = (once h.grant may.grant (granted_later front (Enters (Sent f (record { 0 = uid }) at bytes) ∷ middle) h.grant h.granted) may.granted (h.its_uid ∙ sym own)).1

    since : HasItem may.granted.since (Enters (Sent f may.grant.uid at bytes))
    since =
        subst (λ (u : ℕ). HasItem may.granted.since (Enters (Sent f (record { 0 = u }) at bytes))) (sym own)
        (subst (λ (l : List HistoryItem). HasItem l (Enters (Sent f (record { 0 = uid }) at bytes))) same (has_middle h.granted.since middle (Enters (Sent f (record { 0 = uid }) at bytes))))

covers_so : (items front middle : List HistoryItem) (f : FileId) (uid at : ℕ) (bytes : List ℕ) (stateid : Stateid) (failed : List FailedMirror) → items ≡ front ++ Enters (Sent f (record { 0 = uid }) at bytes) ∷ middle → MayReturn items stateid failed
    → AreGrantedOnce items → ((grant : LayoutGrant) → WasGranted items grant → grant.stateid ≡ stateid → grant.uid.0 ≡ uid) → HasGrantFor front f uid → CoversAt items uid failed at bytes
covers_so items front middle f uid at bytes stateid failed is may once its h =
    subst (λ (l : List HistoryItem). CoversAt l uid failed at bytes) (sym is)
    (covers_front front middle f uid at bytes stateid failed (subst (λ (l : List HistoryItem). MayReturn l stateid failed) is may) (subst AreGrantedOnce is once)
    (λ grant granted state. its grant (subst (λ (l : List HistoryItem). WasGranted l grant) (sym is) granted) state) h)

-- the place of a mirror's id
record HasPlace (mirrors : List Mirror) (id : MirrorId) : Type 0 where
  place : ℕ
  mirror : Mirror
  there : slice_get mirrors place ≡ Some mirror
  is : mirror.id ≡ id

place_of : (mirrors : List Mirror) (id : MirrorId) → IsOneOf id (ids_of mirrors) → HasPlace mirrors id
place_of [] id inside = absurd inside
place_of (m ∷ mirrors) id (inl is) = record { place = zero; mirror = m; there = refl; is = sym is }
place_of (m ∷ mirrors) id (inr inside) = let p : HasPlace mirrors id = place_of mirrors id inside in record { place = suc p.place; mirror = p.mirror; there = p.there; is = p.is }

each_in : (P : MirrorId → Type 0) (ids : List MirrorId) → ((id : MirrorId) → IsOneOf id ids → P id) → AllByRecursion P ids
each_in P [] each = tt
each_in P (id ∷ ids) each = (each id (inl refl), each_in P ids (λ k inside. each k (inr inside)))

module _ (w : ClusterState) (t : IsToldByNodes w) (laws : HasLaws t) where
  module _ (past behind : List Entry) (f : FileId) (uid : ℕ) (is : w.journal ≡ past ++ Ended f (record { 0 = uid }) Returned ∷ behind) where
    r : WasReturnedBy t past f uid
    r = laws.sent past behind f uid is

    abbrev returns : HistoryItem
    returns = Sends (CallsMds r.xid r.name (OnSlot r.session r.sequence (slot.LayoutReturn f r.stateid r.failed)))

    i : LifeIs w t laws.clients.numbered r.n r.life
    i = life_of w t laws.clients.numbered r.n r.life r.its

    -- the return is a packet
    posted_is : IsSendingOf (Client r.n) (spelled_send (CallsMds r.xid r.name (OnSlot r.session r.sequence (slot.LayoutReturn f r.stateid r.failed)))).0 (spelled_send (CallsMds r.xid r.name (OnSlot r.session r.sequence (slot.LayoutReturn f r.stateid r.failed)))).1 r.posted
    posted_is = (seen_at client_shown (Client r.n) r.life.begun r.earlier returns r.posted r.later (subst (λ (s : LifeSteps). AreWoven client_shown (Client r.n) r.life.begun s) r.split i.facts.is.woven)).is

    abbrev IsPacketOf : Entry → Type 0
    IsPacketOf e = IsSendingOf (Client r.n) (spelled_send (CallsMds r.xid r.name (OnSlot r.session r.sequence (slot.LayoutReturn f r.stateid r.failed)))).0 (spelled_send (CallsMds r.xid r.name (OnSlot r.session r.sequence (slot.LayoutReturn f r.stateid r.failed)))).1 e

    abbrev h_r : HasGrantFor (items_in r.earlier) r.granted.file.file uid
    h_r = record { grant = r.grant; granted = r.granted; its_uid = r.its_uid; its_file = refl }

    at_front : (a b : List Entry) (x : Entry) → past ≡ a ++ x ∷ b → w.journal ≡ a ++ x ∷ (b ++ Ended f (record { 0 = uid }) Returned ∷ behind)
    at_front a b x split = is ∙ (ap (λ (j : List Entry). j ++ Ended f (record { 0 = uid }) Returned ∷ behind) split ∙ append_assoc a (x ∷ b) (Ended f (record { 0 = uid }) Returned ∷ behind))

    same_life : (a : List Entry) (x : Entry) (g : FileId) (k : ClientEntry t a x) → HasGrantFor (items_in k.earlier) g uid → k.life ≡ r.life
    same_life a x g k its = (one_life w t laws k.n r.n k.life r.life k.its r.its k.earlier (Seen (Enters x) x ∷ k.later) r.earlier (Seen returns r.posted ∷ r.later) k.split r.split its.grant r.grant its.granted r.granted (its.its_uid ∙ sym r.its_uid)).1

    -- an entry of the life before the return
    before_return : (a middle : List Entry) (x : Entry) (k : ClientEntry t a x) → k.life ≡ r.life → journal_at r.life r.earlier ≡ a ++ x ∷ middle → StandsBefore k.earlier r.earlier (Enters x) x
    before_return a middle x k same front =
        stands_before r.life.begun k.earlier k.later r.earlier r.later (Enters x) returns x r.posted middle (sym k.split ∙ (ap (λ (y : Life). y.steps) same ∙ r.split))
        (front ∙ ap (λ (j : List Entry). j ++ x ∷ middle) (k.place ∙ ap (λ (y : Life). journal_at y k.earlier) same))

    behind_return : (a middle : List Entry) (x : Entry) (k : ClientEntry t a x) → a ≡ journal_at r.life r.earlier ++ r.posted ∷ middle → journal_at k.life k.earlier ≡ (journal_at r.life r.earlier ++ r.posted ∷ []) ++ middle
    behind_return a middle x k at = sym k.place ∙ (at ∙ sym (append_assoc (journal_at r.life r.earlier) (r.posted ∷ []) middle))

    -- ---- nothing strayed

    stray_not : (a b : List Entry) (g : FileId) (at : ℕ) (bytes : List ℕ) → past ≡ a ++ Rogue g (record { 0 = uid }) at bytes ∷ b → ClientEntry t a (Rogue g (record { 0 = uid }) at bytes) → ⊥
    stray_not a b g at bytes split k = by_side (side_of a b (journal_at r.life r.earlier) r.since (Rogue g (record { 0 = uid }) at bytes) r.posted (sym split ∙ r.before))
      where
        h : HasGrantFor (items_in k.earlier) g uid
        h = law_at w t laws EntersForFile laws.clients.files k.n k.life (life_of w t laws.clients.numbered k.n k.life k.its) k.earlier k.later (Enters (Rogue g (record { 0 = uid }) at bytes)) (Rogue g (record { 0 = uid }) at bytes) k.split

        same : k.life ≡ r.life
        same = same_life a (Rogue g (record { 0 = uid }) at bytes) g k h

        history : client_history (start_of k.n k.life) k.life.inputs ≡ items_in k.earlier ++ Enters (Rogue g (record { 0 = uid }) at bytes) ∷ items_in k.later
        history = items_at w t laws k.n k.life k.its k.earlier (Seen (Enters (Rogue g (record { 0 = uid }) at bytes)) (Rogue g (record { 0 = uid }) at bytes) ∷ k.later) k.split

        left : HasItem (items_in k.earlier) (Hears LeftProtocol)
        left = rogue_left k.life.inputs (start_of k.n k.life) (laws.left k.n k.life k.its) (items_in k.earlier) (items_in k.later) g (record { 0 = uid }) at bytes history

        at_once : GoesAtOnce (items_in k.later) uid at bytes
        at_once = laws.clients.strays k.n k.life.verifier k.life.first_xid k.life.inputs (items_in k.earlier) (items_in k.later) g uid at bytes history

        call : ClientSend
        call = CallsServer at_once.id.server at_once.xid at_once.name uid (Write at_once.id.fileid at false bytes)

        next : client_history (start_of k.n k.life) k.life.inputs ≡ (items_in k.earlier ++ Enters (Rogue g (record { 0 = uid }) at bytes) ∷ []) ++ Sends call ∷ at_once.more
        next =
            history ∙ (ap (λ (l : List HistoryItem). items_in k.earlier ++ Enters (Rogue g (record { 0 = uid }) at bytes) ∷ l) at_once.is
            ∙ sym (append_assoc (items_in k.earlier) (Enters (Rogue g (record { 0 = uid }) at bytes) ∷ []) (Sends call ∷ at_once.more)))

        silent : IsSilent (items_in k.earlier ++ Enters (Rogue g (record { 0 = uid }) at bytes) ∷ []) uid
        silent =
            each_at KeepsSilent [] (items_in k.earlier ++ Enters (Rogue g (record { 0 = uid }) at bytes) ∷ []) at_once.more (Sends call)
            (subst (λ (l : List HistoryItem). Each KeepsSilent [] l) next (laws.clients.silent k.n k.life.verifier k.life.first_xid k.life.inputs))

        by_side : Side a b (journal_at r.life r.earlier) r.since (Rogue g (record { 0 = uid }) at bytes) r.posted → ⊥
        by_side (There posted) = subst IsPacketOf posted posted_is
        by_side (Behind middle front) =
            silent_not w t laws past f uid r k.n k.life k.its same k.earlier k.later (Enters (Rogue g (record { 0 = uid }) at bytes)) (Rogue g (record { 0 = uid }) at bytes) k.split middle (behind_return a middle (Rogue g (record { 0 = uid }) at bytes) k front)
            (Enters (Rogue g (record { 0 = uid }) at bytes) ∷ []) (Sends call ∷ at_once.more) next silent
        by_side (Before middle front) =
            let s : StandsBefore k.earlier r.earlier (Enters (Rogue g (record { 0 = uid }) at bytes)) (Rogue g (record { 0 = uid }) at bytes) = before_return a middle (Rogue g (record { 0 = uid }) at bytes) k same front in
            let gone : HasItem (items_in r.earlier) (Hears LeftProtocol) =
            subst (λ (l : List HistoryItem). HasItem l (Hears LeftProtocol)) (sym (ap (λ (l : LifeSteps). items_in l) s.is ∙ items_join k.earlier (Seen (Enters (Rogue g (record { 0 = uid }) at bytes)) (Rogue g (record { 0 = uid }) at bytes) ∷ s.middle)))
            (has_front (items_in k.earlier) (Enters (Rogue g (record { 0 = uid }) at bytes) ∷ items_in s.middle) (Hears LeftProtocol) left) in
            let asks : AllByRecursion AsksNothing (returns ∷ items_in r.later) =
            behind_left r.life.inputs (start_of r.n r.life) (items_in r.earlier) (returns ∷ items_in r.later) (items_at w t laws r.n r.life r.its r.earlier (Seen returns r.posted ∷ r.later) r.split) gone in
            asks.0

    -- ---- all is covered

    covered_at : (id : MirrorId) → IsOneOf id (ids_of r.grant.mirrors) → reports_server r.failed id.server ≡ false → (a b : List Entry) (g : FileId) (at : ℕ) (bytes : List ℕ) → past ≡ a ++ Sent g (record { 0 = uid }) at bytes ∷ b → ClientEntry t a (Sent g (record { 0 = uid }) at bytes)
        → IsCoveredIn past uid id (the_write at bytes)
    covered_at id inside kept a b g at bytes split k = by_side (side_of a b (journal_at r.life r.earlier) r.since (Sent g (record { 0 = uid }) at bytes) r.posted (sym split ∙ r.before))
      where
        h : HasGrantFor (items_in k.earlier) g uid
        h = law_at w t laws EntersForFile laws.clients.files k.n k.life (life_of w t laws.clients.numbered k.n k.life k.its) k.earlier k.later (Enters (Sent g (record { 0 = uid }) at bytes)) (Sent g (record { 0 = uid }) at bytes) k.split

        same : k.life ≡ r.life
        same = same_life a (Sent g (record { 0 = uid }) at bytes) g k h

        silent : IsSilent (items_in k.earlier ++ []) uid
        silent =
            subst (λ (l : List HistoryItem). IsSilent l uid) (sym (append-nil (items_in k.earlier)))
            (law_at w t laws KeepsSilent laws.clients.silent k.n k.life (life_of w t laws.clients.numbered k.n k.life k.its) k.earlier k.later (Enters (Sent g (record { 0 = uid }) at bytes)) (Sent g (record { 0 = uid }) at bytes) k.split)

        history : client_history (start_of k.n k.life) k.life.inputs ≡ (items_in k.earlier ++ []) ++ Enters (Sent g (record { 0 = uid }) at bytes) ∷ items_in k.later
        history =
            items_at w t laws k.n k.life k.its k.earlier (Seen (Enters (Sent g (record { 0 = uid }) at bytes)) (Sent g (record { 0 = uid }) at bytes) ∷ k.later) k.split
            ∙ ap (λ (l : List HistoryItem). l ++ Enters (Sent g (record { 0 = uid }) at bytes) ∷ items_in k.later) (sym (append-nil (items_in k.earlier)))

        once : AreGrantedOnce (items_in r.earlier)
        once = once_at w t laws r.n r.life r.its (items_in r.earlier) (returns ∷ items_in r.later) (items_at w t laws r.n r.life r.its r.earlier (Seen returns r.posted ∷ r.later) r.split)

        may : MayReturn (items_in r.earlier) r.stateid r.failed
        may = law_at w t laws ReturnsCommitted laws.clients.returns r.n r.life i r.earlier r.later returns r.posted r.split

        by_stateid : (grant : LayoutGrant) → WasGranted (items_in r.earlier) grant → grant.stateid ≡ r.stateid → grant.uid.0 ≡ uid
        by_stateid grant granted state =
            laws.stateids r.n r.life grant r.grant r.its (granted_whole w t laws r.n r.life r.its r.earlier (Seen returns r.posted ∷ r.later) r.split grant granted) (granted_whole w t laws r.n r.life r.its r.earlier (Seen returns r.posted ∷ r.later) r.split r.grant r.granted) (state ∙ sym r.its_stateid)
            ∙ r.its_uid

        by_covers : CoversAt (items_in r.earlier) uid r.failed at bytes → IsCoveredIn past uid id (the_write at bytes)
        by_covers c =
            let one : c.grant ≡ r.grant = (once c.grant r.grant c.granted r.granted (c.its_uid ∙ sym r.its_uid)).0 in
            let p : HasPlace c.grant.mirrors id = place_of c.grant.mirrors id (subst (λ (x : LayoutGrant). IsOneOf id (ids_of x.mirrors)) (sym one) inside) in
            let was : WasCovered (items_in r.earlier) p.mirror.id c.grant.uid.0 at bytes [] = c.covered p.place p.mirror p.there (subst (λ (x : MirrorId). reports_server r.failed x.server ≡ false) (sym p.is) kept) in
            covered_in w t laws r.n r.life r.its r.earlier (Seen returns r.posted ∷ r.later) r.split past (r.posted ∷ r.since) (Ended f (record { 0 = uid }) Returned ∷ behind) r.before is id uid at bytes []
            (subst (λ (u : ℕ). WasCovered (items_in r.earlier) id u at bytes []) c.its_uid (subst (λ (x : MirrorId). WasCovered (items_in r.earlier) x c.grant.uid.0 at bytes []) p.is was))

        by_side : Side a b (journal_at r.life r.earlier) r.since (Sent g (record { 0 = uid }) at bytes) r.posted → IsCoveredIn past uid id (the_write at bytes)
        by_side (There posted) = absurd (subst IsPacketOf posted posted_is)
        by_side (Behind middle front) =
            absurd
            (silent_not w t laws past f uid r k.n k.life k.its same k.earlier k.later (Enters (Sent g (record { 0 = uid }) at bytes)) (Sent g (record { 0 = uid }) at bytes) k.split middle (behind_return a middle (Sent g (record { 0 = uid }) at bytes) k front)
            [] (Enters (Sent g (record { 0 = uid }) at bytes) ∷ items_in k.later) history silent)
        by_side (Before middle front) =
            let s : StandsBefore k.earlier r.earlier (Enters (Sent g (record { 0 = uid }) at bytes)) (Sent g (record { 0 = uid }) at bytes) = before_return a middle (Sent g (record { 0 = uid }) at bytes) k same front in
            by_covers
            (covers_so (items_in r.earlier) (items_in k.earlier) (items_in s.middle) g uid at bytes r.stateid r.failed
            (ap (λ (l : LifeSteps). items_in l) s.is ∙ items_join k.earlier (Seen (Enters (Sent g (record { 0 = uid }) at bytes)) (Sent g (record { 0 = uid }) at bytes) ∷ s.middle)) may once by_stateid h)

    by_whose : (id : MirrorId) → IsOneOf id (ids_of r.grant.mirrors) → reports_server r.failed id.server ≡ false → (a b : List Entry) (g : FileId) (at : ℕ) (bytes : List ℕ) → past ≡ a ++ Sent g (record { 0 = uid }) at bytes ∷ b → IsWhose t a (Sent g (record { 0 = uid }) at bytes)
        → IsCoveredIn past uid id (the_write at bytes)
    by_whose id inside kept a b g at bytes split (OfClient k) = covered_at id inside kept a b g at bytes split k
    by_whose id inside kept a b g at bytes split (OfMds s) =
        let o : OwnGrant w t laws g uid = sent_grant w t laws a (Sent g (record { 0 = uid }) at bytes ∷ (b ++ Ended f (record { 0 = uid }) Returned ∷ behind)) g uid at bytes s (at_front a b (Sent g (record { 0 = uid }) at bytes) split) in
        absurd
        (not_own w t laws (journal_at r.life r.earlier) (r.posted ∷ (r.since ++ Ended f (record { 0 = uid }) Returned ∷ behind))
        (is ∙ (ap (λ (j : List Entry). j ++ Ended f (record { 0 = uid }) Returned ∷ behind) r.before ∙ append_assoc (journal_at r.life r.earlier) (r.posted ∷ r.since) (Ended f (record { 0 = uid }) Returned ∷ behind))) r.n r.granted.file.file g uid r.grant
        (client_period w t laws r.n r.life r.its r.earlier (Seen returns r.posted ∷ r.later) r.split r.granted.file.file uid h_r) o.before o.behind o.is)

    pub returns_so : ReturnsInPlace past f uid
    returns_so = record {
      follows = no_rogue uid past (λ a b g at bytes split. stray_not a b g at bytes split (whose_rogue w t a (b ++ Ended f (record { 0 = uid }) Returned ∷ behind) g (record { 0 = uid }) at bytes (at_front a b (Rogue g (record { 0 = uid }) at bytes) split)));
      covered = λ ids live. each_in (λ (id : MirrorId). AllByRecursion (IsCoveredIn past uid id) (sent_of uid past)) ids
          (λ id there. each_sent (IsCoveredIn past uid id) uid past
          (λ a b g at bytes split. by_whose id (r.live ids live id there).0 (r.live ids live id there).1 a b g at bytes split (whose_sent w t a (b ++ Ended f (record { 0 = uid }) Returned ∷ behind) g (record { 0 = uid }) at bytes (at_front a b (Sent g (record { 0 = uid }) at bytes) split))));
    }
