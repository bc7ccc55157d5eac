-- What a client tells is covered at each mirror of its layout, or its period has ended clean (RFC 8435, section 5).
use Rattle.std.proofs.Common.{◌≡◌, ◌<◌, ℕ, zero, suc, length, List, [], ◌∷◌, ◌++◌, Some, refl, sym, subst, ◌∙◌, inl, inr, ◌⊎◌, append-nil}
use Rattle.std.specs.Prelude.{slice_get}
use Rattle.std.specs.List.{AllByRecursion}
use Rattle.cluster_model.specs.declared.ids.FileId.{FileId}
use Rattle.cluster_model.specs.declared.ids.Mirror.{Mirror}
use Rattle.cluster_model.specs.declared.ids.MirrorId.{MirrorId}
use Rattle.cluster_model.specs.declared.entry.Entry.{Entry}
use Rattle.cluster_model.specs.declared.entry.Entry.TheVariants.{Sent, Told}
use Rattle.cluster_model.specs.Phases.{ids_of}
use Rattle.cluster_laws.specs.Agreement.{sent_of}
use Rattle.cluster_laws.specs.Holders.{IsIn, the_write, HasEndedClean}
use Rattle.cluster_laws.proofs.Lists.{all_more}
use Rattle.world_rule.specs.ClusterWorlds.{ClusterState}
use Rattle.client_file_calls.specs.declared.grant.LayoutGrant.{LayoutGrant}
use Rattle.client_laws.specs.ClientHistory.{HistoryItem, Enters, HasItem, Each, client_history}
use Rattle.client_laws.specs.ClientRunLaws.{WasCovered, CoveredAtEach, CoveredByReturn, WasTakenUnder}
use Rattle.client_sessions.specs.LayoutEnds.{HasUnreported, IsToldOf, EntersGranted, IsInputOfBytes, TakesBytes}
use Rattle.node_histories.specs.Weaves.{Seen, entries_in, items_in}
use Rattle.node_histories.specs.ClientLives.{Life, start_of}
use Rattle.node_histories.specs.NodeHistories.{HasLife, IsInputOfScript, IsToldByNodes}
use Rattle.holder_parts.specs.CoveredRecords.{IsCoveredIn}
use Rattle.holder_parts.specs.HolderParts.{WasBegun, IsCoveredWhereBegun, TellsInPlace}
use Rattle.world_layouts.specs.WorldLayouts.{journal_at}
use Rattle.world_holders.proofs.LowerLaws.{HasLaws}
use Rattle.client_sessions.specs.EnteredFiles.{HasGrantFor, EntersForFile}
use Rattle.world_holders.proofs.LifePlaces.{LifeSteps, has_front, EnteredIn, LifeIs, life_of}
use Rattle.world_holders.proofs.UserEntries.{sent_there}
use Rattle.world_holders.proofs.PostsInPlace.{law_at, entered_then}
use Rattle.world_holders.proofs.CoveredIn.{covered_in}
use Rattle.world_holders.proofs.HeldEntries.{ClientEntry, ClientPeriod, was_begun, client_period, items_at, once_at}
use Rattle.world_holders.proofs.TakesInPlace.{input_of_bytes}

pub each_id : (P : MirrorId → Type 0) (mirrors : List Mirror) → ((place : ℕ) (m : Mirror) → slice_get mirrors place ≡ Some m → P m.id) → AllByRecursion P (ids_of mirrors)
each_id P [] each = tt
each_id P (m ∷ mirrors) each = (each zero m refl, each_id P mirrors (λ place k is. each (suc place) k is))

each_item : (P : List HistoryItem → HistoryItem → Type 0) (past items : List HistoryItem) (item : HistoryItem) (Q : Type 0) → Each P past items → HasItem items item → ((before : List HistoryItem) → P before item → Q) → Q
each_item P past [] item Q each has so = absurd has
each_item P past (x ∷ items) item Q each (inl here) so = so past (subst (λ (y : HistoryItem). P past y) (sym here.0) each.0)
each_item P past (x ∷ items) item Q each (inr has) so = each_item P (past ++ x ∷ []) items item Q each.1 has so

module _ (w : ClusterState) (t : IsToldByNodes w) (laws : HasLaws t) where
  -- what a life took has bytes
  taken_some : (n : ℕ) (l : Life) → HasLife t.stories n l → (earlier later : LifeSteps) → l.steps ≡ earlier ++ later → (uid at : ℕ) (bytes : List ℕ) → WasTakenUnder (items_in earlier) uid at bytes → 0 < length bytes
  taken_some n l its earlier later split uid at bytes taken =
      each_item TakesBytes [] (client_history (start_of n l) l.inputs) (Enters (Sent taken.file (record { 0 = uid }) at bytes)) (0 < length bytes)
      (laws.clients.bytes n l.verifier l.first_xid l.inputs (all_more IsInputOfScript IsInputOfBytes l.inputs input_of_bytes (life_of w t laws.clients.numbered n l its).facts.asked))
      (subst (λ (h : List HistoryItem). HasItem h (Enters (Sent taken.file (record { 0 = uid }) at bytes))) (sym (items_at w t laws n l its earlier later split))
      (has_front (items_in earlier) (items_in later) (Enters (Sent taken.file (record { 0 = uid }) at bytes)) taken.there)) (λ before some. some)

  module _ (past behind : List Entry) (f : FileId) (uid at : ℕ) (bytes : List ℕ) (is : w.journal ≡ past ++ Told f (record { 0 = uid }) at bytes ∷ behind) (c : ClientEntry t past (Told f (record { 0 = uid }) at bytes)) where
    i : LifeIs w t laws.clients.numbered c.n c.life
    i = life_of w t laws.clients.numbered c.n c.life c.its

    abbrev rest : LifeSteps
    rest = Seen (Enters (Told f (record { 0 = uid }) at bytes)) (Told f (record { 0 = uid }) at bytes) ∷ c.later

    h : HasGrantFor (items_in c.earlier) f uid
    h = law_at w t laws EntersForFile laws.clients.files c.n c.life i c.earlier c.later (Enters (Told f (record { 0 = uid }) at bytes)) (Told f (record { 0 = uid }) at bytes) c.split

    told : IsToldOf (items_in c.earlier) uid at bytes
    told = law_at w t laws EntersGranted laws.clients.enters c.n c.life i c.earlier c.later (Enters (Told f (record { 0 = uid }) at bytes)) (Told f (record { 0 = uid }) at bytes) c.split

    same_grant : told.grant ≡ h.grant
    same_grant = (once_at w t laws c.n c.life c.its (items_in c.earlier) (items_in rest) (items_at w t laws c.n c.life c.its c.earlier rest c.split) told.grant h.grant told.granted h.granted (told.its_uid ∙ sym h.its_uid)).0

    period : ClientPeriod past c.n f uid h.grant
    period = subst (λ (j : List Entry). ClientPeriod j c.n f uid h.grant) (sym c.place) (client_period w t laws c.n c.life c.its c.earlier rest c.split f uid h)

    abbrev begun : WasBegun past f uid
    begun = was_begun past c.n f uid h.grant period

    sent_so : IsIn (the_write at bytes) (sent_of uid past)
    sent_so =
        let e : EnteredIn c.life.begun c.earlier (Sent told.taken.file (record { 0 = uid }) at bytes) = entered_then w t laws c.n c.life i c.earlier rest c.split (Sent told.taken.file (record { 0 = uid }) at bytes) told.taken.there in
        subst (λ (j : List Entry). IsIn (the_write at bytes) (sent_of uid j)) (sym (c.place ∙ e.journal)) (sent_there uid (c.life.begun ++ entries_in e.earlier) (entries_in e.later) told.taken.file at bytes)

    covered_at : CoveredAtEach (items_in c.earlier) told.grant at bytes → (place : ℕ) (m : Mirror) → slice_get h.grant.mirrors place ≡ Some m → IsCoveredIn past uid m.id (the_write at bytes)
    covered_at each place m there =
        covered_in w t laws c.n c.life c.its c.earlier rest c.split past [] (Told f (record { 0 = uid }) at bytes ∷ behind) (c.place ∙ sym (append-nil (journal_at c.life c.earlier))) is m.id uid at bytes []
        (subst (λ (u : ℕ). WasCovered (items_in c.earlier) m.id u at bytes []) told.its_uid (each place m (subst (λ (g : LayoutGrant). slice_get g.mirrors place ≡ Some m) (sym same_grant) there)))

    by_way : CoveredAtEach (items_in c.earlier) told.grant at bytes ⊎ ((r : CoveredByReturn (items_in c.earlier) told.grant at bytes) × HasUnreported told.grant r.failed) → HasEndedClean past uid ⊎ IsCoveredWhereBegun past f uid at bytes
    by_way (inl each) =
        inr
        (record {
          some = taken_some c.n c.life c.its c.earlier rest c.split uid at bytes told.taken;
          sent = sent_so;
          begun = begun;
          covered = each_id (λ (id : MirrorId). IsCoveredIn past uid id (the_write at bytes)) h.grant.mirrors (covered_at each);
        })
    by_way (inr (r, some)) =
        inl
        (subst (λ (u : ℕ). HasEndedClean past u) told.its_uid
        (subst (λ (j : List Entry). HasEndedClean j told.grant.uid.0) (sym c.place) (laws.ended c.n c.life c.earlier rest told.grant at bytes c.its c.split told.granted r some)))

    pub client_tells : TellsInPlace past f uid at bytes
    client_tells = record { begun = begun; may = by_way told.covered }
