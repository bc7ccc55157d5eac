-- A mirror of a layout that did not fail is not reported, and one of them did not while a write is not told.
use Rattle.std.proofs.Common.{◌≡◌, ℕ, zero, suc, Bool, true, false, List, [], ◌∷◌, Option, Some, None, refl, sym, ap, subst, ◌∙◌, inl, inr, ◌⊎◌}
use Rattle.std.specs.Prelude.{slice_get, slice_set, map, position, replicate, not, ◌||◌, ◌&&◌, ◌==◌}
use Rattle.std.specs.List.{list_all}
use Rattle.std.proofs.lemmas.Bool.{eqb-true, eq-eqb}
use Rattle.std.proofs.lemmas.Option.{none-some, same_Some}
use Rattle.cluster_model.specs.declared.ids.Mirror.{Mirror}
use Rattle.cluster_model.specs.declared.ids.MirrorId.{MirrorId}
use Rattle.cluster_model.specs.declared.phase.LeftCause.{LeftCause}
use Rattle.cluster_model.specs.Journal.{is_mirror}
use Rattle.cluster_model.specs.Mirrors.{has_server, are_on_different_servers}
use Rattle.mirror_writer.specs.Writers.{new_mirror}
use Rattle.client_file_calls.specs.declared.layout_return.FailedMirror.{FailedMirror}
use Rattle.client_state.specs.declared.stage.LayoutStage.{LayoutStage}
use Rattle.client_state.specs.ClientQueue.{is_writing}
use Rattle.client_calls.specs.ClientCalls.{failed_mirrors}
use Rattle.client_answers.specs.ClientMirrors.{with_status_at, reported_status}
use Rattle.client_mds_calls.specs.FittingCalls.{reports_server}
use Rattle.client_laws.proofs.GrantFacts.{IsSome}
use Rattle.client_laws.proofs.Places.{map_set, position_passes}
use Rattle.client_laws.proofs.Stands.{mirror_ids}
use Rattle.client_sessions.proofs.Marks.{mark, is_marked, FailsAt}

-- ---- two truths

neither : (a b : Bool) → (a || b) ≡ false → (a ≡ false) × (b ≡ false)
neither false b is = (refl, is)
neither true b is = absurd cc

joined : (a b : Bool) → a ≡ false → b ≡ false → (a || b) ≡ false
joined false b first second = second
joined true b first second = absurd cc

both : (a b : Bool) → (a && b) ≡ true → (a ≡ true) × (b ≡ true)
both true b is = (refl, is)
both false b is = absurd cc

not_both : (b : Bool) → b ≡ true → not b ≡ true → ⊥
not_both true is other = absurd cc
not_both false is other = absurd cc

-- ---- no two mirrors are on one server

has_there : (mirrors : List Mirror) (place : ℕ) (m : Mirror) (server : ℕ) → slice_get mirrors place ≡ Some m → m.id.server ≡ server → has_server mirrors server ≡ true
has_there [] place m server there on = absurd (none-some m there)
has_there (x ∷ mirrors) zero m server there on = first (x.id.server == server) (has_server mirrors server) (eq-eqb x.id.server server (ap (λ (k : Mirror). k.id.server) (same_Some x m there) ∙ on))
  where
    first : (a b : Bool) → a ≡ true → (a || b) ≡ true
    first true b is = refl
    first false b is = absurd cc
has_there (x ∷ mirrors) (suc place) m server there on = further (x.id.server == server) (has_server mirrors server) (has_there mirrors place m server there on)
  where
    further : (a b : Bool) → b ≡ true → (a || b) ≡ true
    further true b is = refl
    further false b is = is

one_place : (mirrors : List Mirror) → are_on_different_servers mirrors ≡ true → (i j : ℕ) (a b : Mirror) → slice_get mirrors i ≡ Some a → slice_get mirrors j ≡ Some b → a.id.server ≡ b.id.server → i ≡ j
one_place [] apart i j a b first second same = absurd (none-some a first)
one_place (m ∷ mirrors) apart zero zero a b first second same = refl
one_place (m ∷ mirrors) apart zero (suc j) a b first second same =
    absurd (not_both (has_server mirrors m.id.server) (has_there mirrors j b m.id.server second (sym same ∙ ap (λ (k : Mirror). k.id.server) (sym (same_Some m a first)))) (both (not (has_server mirrors m.id.server)) (are_on_different_servers mirrors) apart).0)
one_place (m ∷ mirrors) apart (suc i) zero a b first second same =
    absurd (not_both (has_server mirrors m.id.server) (has_there mirrors i a m.id.server first (same ∙ ap (λ (k : Mirror). k.id.server) (sym (same_Some m b second)))) (both (not (has_server mirrors m.id.server)) (are_on_different_servers mirrors) apart).0)
one_place (m ∷ mirrors) apart (suc i) (suc j) a b first second same = ap suc (one_place mirrors (both (not (has_server mirrors m.id.server)) (are_on_different_servers mirrors) apart).1 i j a b first second same)

-- ---- what is not reported

none_reported : (mirrors : List Mirror) (n server : ℕ) → reports_server (failed_mirrors mirrors (replicate n None)) server ≡ false
none_reported [] zero server = refl
none_reported [] (suc n) server = refl
none_reported (m ∷ mirrors) zero server = refl
none_reported (m ∷ mirrors) (suc n) server = none_reported mirrors n server

-- a status that is set reports its mirror alone
set_alone : (mirrors : List Mirror) (statuses : List (Option ℕ)) (place status server : ℕ) → ((m : Mirror) → slice_get mirrors place ≡ Some m → (m.id.server == server) ≡ false) → reports_server (failed_mirrors mirrors statuses) server ≡ false
    → reports_server (failed_mirrors mirrors (slice_set statuses place (Some status))) server ≡ false
set_alone [] [] place status server other was = was
set_alone [] (o ∷ statuses) zero status server other was = refl
set_alone [] (o ∷ statuses) (suc place) status server other was = refl
set_alone (x ∷ mirrors) [] place status server other was = was
set_alone (x ∷ mirrors) (None ∷ statuses) zero status server other was = joined (x.id.server == server) (reports_server (failed_mirrors mirrors statuses) server) (other x refl) was
set_alone (x ∷ mirrors) (Some old ∷ statuses) zero status server other was = was
set_alone (x ∷ mirrors) (None ∷ statuses) (suc place) status server other was = set_alone mirrors statuses place status server other was
set_alone (x ∷ mirrors) (Some old ∷ statuses) (suc place) status server other was =
    joined (x.id.server == server) (reports_server (failed_mirrors mirrors (slice_set statuses place (Some status))) server) (neither (x.id.server == server) (reports_server (failed_mirrors mirrors statuses) server) was).0
    (set_alone mirrors statuses place status server other (neither (x.id.server == server) (reports_server (failed_mirrors mirrors statuses) server) was).1)

-- nor is a mirror on another server by that one's failure
failed_alone : (mirrors : List Mirror) (statuses : List (Option ℕ)) (id : MirrorId) (status server : ℕ) → (id.server == server) ≡ false → reports_server (failed_mirrors mirrors statuses) server ≡ false
    → reports_server (failed_mirrors mirrors (with_status_at statuses (position (λ (m : Mirror). is_mirror id m.id) mirrors) status)) server ≡ false
failed_alone mirrors statuses id status server other was = by_place (position (λ (m : Mirror). is_mirror id m.id) mirrors) refl
  where
    its : (m : Mirror) → is_mirror id m.id ≡ true → (m.id.server == server) ≡ false
    its m passes = subst (λ (k : ℕ). (k == server) ≡ false) (eqb-true id.server m.id.server (both (id.server == m.id.server) (id.fileid == m.id.fileid) passes).0) other

    by_place : (o : Option ℕ) → position (λ (m : Mirror). is_mirror id m.id) mirrors ≡ o → reports_server (failed_mirrors mirrors (with_status_at statuses o status)) server ≡ false
    by_place None at = was
    by_place (Some place) at = set_alone mirrors statuses place status server (λ m there. its m (position_passes (λ (m : Mirror). is_mirror id m.id) mirrors place m at there)) was

-- ---- marks

-- the mirror at the place of a mark
mirror_at : (marks : List (MirrorId × Bool)) (mirrors : List Mirror) → map (λ (k : MirrorId × Bool). k.0) marks ≡ mirror_ids mirrors → (place : ℕ) (id : MirrorId) (failed : Bool) → slice_get marks place ≡ Some (id, failed)
    → (m : Mirror) × (slice_get mirrors place ≡ Some m) × (m.id ≡ id)
mirror_at [] mirrors same place id failed there = absurd (none-some (id, failed) there)
mirror_at (k ∷ marks) [] same place id failed there = absurd cc
mirror_at (k ∷ marks) (m ∷ mirrors) same zero id failed there = (m, refl, sym (ap (head_id m.id) same) ∙ ap (λ (k : MirrorId × Bool). k.0) (same_Some k (id, failed) there))
  where
    head_id : MirrorId → List MirrorId → MirrorId
    head_id other [] = other
    head_id other (id ∷ ids) = id
mirror_at (k ∷ marks) (m ∷ mirrors) same (suc place) id failed there = mirror_at marks mirrors (ap tail_ids same) place id failed there
  where
    tail_ids : List MirrorId → List MirrorId
    tail_ids [] = []
    tail_ids (id ∷ ids) = ids

-- one that did not fail
unmarked : (marks : List (MirrorId × Bool)) → list_all is_marked marks ≡ false → (place : ℕ) × (id : MirrorId) × (slice_get marks place ≡ Some (id, false))
unmarked [] none = absurd cc
unmarked ((id, false) ∷ marks) none = (0, id, refl)
unmarked ((id, true) ∷ marks) none = further (unmarked marks none)
  where
    further : (place : ℕ) × (id : MirrorId) × (slice_get marks place ≡ Some (id, false)) → (place : ℕ) × (other : MirrorId) × (slice_get ((id, true) ∷ marks) place ≡ Some (other, false))
    further (place, other, there) = (suc place, other, there)

-- it stands elsewhere than the one that failed
elsewhere : (marks : List (MirrorId × Bool)) (i place : ℕ) (failed id : MirrorId) → slice_get (slice_set marks i (failed, true)) place ≡ Some (id, false) → (place ≡ i → ⊥) × (slice_get marks place ≡ Some (id, false))
elsewhere [] i place failed id there = absurd (none-some (id, false) there)
elsewhere (k ∷ marks) zero zero failed id there = absurd (cc (ap (λ (p : MirrorId × Bool). p.1) (same_Some (failed, true) (id, false) there)))
elsewhere (k ∷ marks) zero (suc place) failed id there = (λ same. absurd cc, there)
elsewhere (k ∷ marks) (suc i) zero failed id there = (λ same. absurd cc, there)
elsewhere (k ∷ marks) (suc i) (suc place) failed id there = further (elsewhere marks i place failed id there)
  where
    before : ℕ → ℕ
    before zero = zero
    before (suc n) = n

    further : (place ≡ i → ⊥) × (slice_get marks place ≡ Some (id, false)) → (suc place ≡ suc i → ⊥) × (slice_get marks place ≡ Some (id, false))
    further rest = (λ same. rest.0 (ap before same), rest.1)

fresh_ids : (mirrors : List Mirror) → map (λ (k : MirrorId × Bool). k.0) (map mark (map new_mirror mirrors)) ≡ mirror_ids mirrors
fresh_ids [] = refl
fresh_ids (m ∷ mirrors) = ap (λ (l : List MirrorId). m.id ∷ l) (fresh_ids mirrors)

fresh_live : (mirrors : List Mirror) → IsSome mirrors → list_all is_marked (map mark (map new_mirror mirrors)) ≡ false
fresh_live [] some = absurd some
fresh_live (m ∷ mirrors) some = refl

-- ---- a layout

-- some mirror is not reported
pub record HasKept (mirrors : List Mirror) (failed : List FailedMirror) : Type 0 where
  pub place : ℕ
  pub mirror : Mirror
  pub there : slice_get mirrors place ≡ Some mirror
  pub kept : reports_server failed mirror.id.server ≡ false

-- by its marks, its mirrors and their statuses, its stage, and what is not told
pub record UnreportedOf (marks : List (MirrorId × Bool)) (mirrors : List Mirror) (statuses : List (Option ℕ)) (stage : LayoutStage) (untold : List ℕ) : Type 0 where
  pub ids : map (λ (k : MirrorId × Bool). k.0) marks ≡ mirror_ids mirrors
  pub apart : are_on_different_servers mirrors ≡ true
  pub kept : (place : ℕ) (id : MirrorId) → slice_get marks place ≡ Some (id, false) → reports_server (failed_mirrors mirrors statuses) id.server ≡ false
  pub live : is_writing stage ≡ true → list_all is_marked marks ≡ false
  pub told : (untold ≡ []) ⊎ (list_all is_marked marks ≡ false)

pub fresh_unreported : (mirrors : List Mirror) (stage : LayoutStage) → are_on_different_servers mirrors ≡ true → IsSome mirrors → UnreportedOf (map mark (map new_mirror mirrors)) mirrors (replicate 4 None) stage []
fresh_unreported mirrors stage apart some = record {
  ids = fresh_ids mirrors;
  apart = apart;
  kept = λ place id there. none_reported mirrors 4 id.server;
  live = λ writing. fresh_live mirrors some;
  told = inl refl;
}

module _ (marks : List (MirrorId × Bool)) (mirrors : List Mirror) (statuses : List (Option ℕ)) (stage : LayoutStage) (untold : List ℕ) (u : UnreportedOf marks mirrors statuses stage untold) where
  -- with another stage, and less that is not told
  pub staged_unreported : (later : LayoutStage) (left : List ℕ) → (is_writing later ≡ true → is_writing stage ≡ true) → (untold ≡ [] → left ≡ []) → UnreportedOf marks mirrors statuses later left
  staged_unreported later left writing less = record { ids = u.ids; apart = u.apart; kept = u.kept; live = λ is. u.live (writing is); told = by_told u.told }
    where
      by_told : (untold ≡ []) ⊎ (list_all is_marked marks ≡ false) → (left ≡ []) ⊎ (list_all is_marked marks ≡ false)
      by_told (inl none) = inl (less none)
      by_told (inr live) = inr live

  -- a write is taken
  pub taken_unreported : is_writing stage ≡ true → (more : List ℕ) → UnreportedOf marks mirrors statuses stage more
  taken_unreported writing more = record { ids = u.ids; apart = u.apart; kept = u.kept; live = u.live; told = inr (u.live writing) }

  -- where one did not fail, one is not reported
  pub some_kept : list_all is_marked marks ≡ false → HasKept mirrors (failed_mirrors mirrors statuses)
  some_kept live = by_mark (unmarked marks live)
    where
      by_mirror : (place : ℕ) (id : MirrorId) → slice_get marks place ≡ Some (id, false) → (m : Mirror) × (slice_get mirrors place ≡ Some m) × (m.id ≡ id) → HasKept mirrors (failed_mirrors mirrors statuses)
      by_mirror place id there (m, found, same) = record { place = place; mirror = m; there = found; kept = ap (λ (k : MirrorId). reports_server (failed_mirrors mirrors statuses) k.server) same ∙ u.kept place id there }

      by_mark : (place : ℕ) × (id : MirrorId) × (slice_get marks place ≡ Some (id, false)) → HasKept mirrors (failed_mirrors mirrors statuses)
      by_mark (place, id, there) = by_mirror place id there (mirror_at marks mirrors u.ids place id false there)

  -- a mirror failed
  module _ (id : MirrorId) (cause : LeftCause) (new : List (MirrorId × Bool)) (f : FailsAt marks id new) where
    abbrev after : List (Option ℕ)
    after = with_status_at statuses (position (λ (m : Mirror). is_mirror id m.id) mirrors) (reported_status cause)

    -- it is on another server
    other_server : (place : ℕ) (other : MirrorId) → (place ≡ f.place → ⊥) → slice_get marks place ≡ Some (other, false) → (id.server == other.server) ≡ false
    other_server place other apart there = by_test (id.server == other.server) refl
      where
        ones : (a : Mirror) × (slice_get mirrors f.place ≡ Some a) × (a.id ≡ id) → (b : Mirror) × (slice_get mirrors place ≡ Some b) × (b.id ≡ other) → id.server ≡ other.server → place ≡ f.place
        ones (a, first, its) (b, second, its_other) same =
            one_place mirrors u.apart place f.place b a second first (ap (λ (k : MirrorId). k.server) its_other ∙ sym same ∙ ap (λ (k : MirrorId). k.server) (sym its))

        by_test : (b : Bool) → (id.server == other.server) ≡ b → b ≡ false
        by_test false is = refl
        by_test true is = absurd (apart (ones (mirror_at marks mirrors u.ids f.place id f.was f.there) (mirror_at marks mirrors u.ids place other false there) (eqb-true id.server other.server is)))

    pub failed_unreported : (later : LayoutStage) (left : List ℕ) → is_writing later ≡ false → (left ≡ []) ⊎ (list_all is_marked new ≡ false) → UnreportedOf new mirrors after later left
    failed_unreported later left ends told = record {
      ids = ap (map (λ (k : MirrorId × Bool). k.0)) f.marks_are ∙ map_set (λ (k : MirrorId × Bool). k.0) marks f.place (id, f.was) (id, true) f.there refl ∙ u.ids;
      apart = u.apart;
      kept = λ place other there. (let e = elsewhere marks f.place place id other (ap (λ (l : List (MirrorId × Bool)). slice_get l place) (sym f.marks_are) ∙ there) in failed_alone mirrors statuses id (reported_status cause) other.server (other_server place other e.0 e.1) (u.kept place other e.1));
      live = λ writing. absurd (cc (sym writing ∙ ends));
      told = told;
    }
