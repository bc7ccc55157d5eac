-- Mirrors that leave by what is said of their ids: the live list that the entries tell is the one that is left, whether or not two of its
-- mirrors are one.
use Rattle.std.proofs.Common.{◌≡◌, ◌≤◌, Bool, true, false, cond, List, [], ◌∷◌, length, Option, Some, None, refl, sym, ap, subst, ◌∙◌, inl, inr, arith}
use Rattle.std.specs.Prelude.{◌&&◌, ◌||◌, ◌==◌, not, map, filter, is_some, slice_get}
use Rattle.std.specs.Option.{option_map}
use Rattle.std.specs.List.{find}
use Rattle.std.proofs.lemmas.Bool.{and_parts, eqb-true}
use Rattle.ff_xdr.specs.Form.{Value}
use Rattle.cluster_model.specs.declared.ids.FileId.{FileId}
use Rattle.cluster_model.specs.declared.ids.Mirror.{Mirror}
use Rattle.cluster_model.specs.declared.ids.MirrorId.{MirrorId}
use Rattle.cluster_model.specs.declared.phase.LeftCause.{LeftCause}
use Rattle.cluster_model.specs.Journal.{is_mirror}
use Rattle.cluster_model.specs.Phases.{ids_of, unreported, left_entries, reported_cause}
use Rattle.cluster_model.specs.Members.{IsOneOf}
use Rattle.cluster_laws.specs.FenceLaw.{live_by, changed_live}
use Rattle.cluster_laws.proofs.KnownNow.{id_by}
use Rattle.cluster_laws.proofs.Lives.{itself, own_file}
use Rattle.ff_layout.specs.IoError.{ff_ioerr4}
use Rattle.layout_report.specs.Reports.{is_reported, reported_mirror, report_of}
use Rattle.mds_rule.specs.Answers.{cause_there, failures_by_place, is_failure_of}

-- ---- lists of ids

filter_twice : (p q : MirrorId → Bool) (ks : List MirrorId) → filter p (filter q ks) ≡ filter (λ k. q k && p k) ks
filter_twice p q [] = refl
filter_twice p q (k ∷ ks) = by_test (q k) (filter_twice p q ks)
  where
    by_test : (b : Bool) → filter p (filter q ks) ≡ filter (λ x. q x && p x) ks
        → filter p (cond b (k ∷ filter q ks) (filter q ks)) ≡ cond (b && p k) (k ∷ filter (λ x. q x && p x) ks) (filter (λ x. q x && p x) ks)
    by_test true rest = ap (λ (l : List MirrorId). cond (p k) (k ∷ l) l) rest
    by_test false rest = rest

filter_same : (p q : MirrorId → Bool) (ks : List MirrorId) → ((k : MirrorId) → IsOneOf k ks → p k ≡ q k) → filter p ks ≡ filter q ks
filter_same p q [] same = refl
filter_same p q (k ∷ ks) same =
    ap (λ (b : Bool). cond b (k ∷ filter p ks) (filter p ks)) (same k (inl refl))
    ∙ ap (λ (l : List MirrorId). cond (q k) (k ∷ l) l) (filter_same p q ks (λ x inside. same x (inr inside)))

filter_all : (ks : List MirrorId) → filter (λ k. true) ks ≡ ks
filter_all [] = refl
filter_all (k ∷ ks) = ap (λ l. k ∷ l) (filter_all ks)

is_that : (a b : MirrorId) → is_mirror a b ≡ true → a ≡ b
is_that a b is =
    let parts = and_parts (a.server == b.server) (a.fileid == b.fileid) is in
    id_by a b.server b.fileid (eqb-true a.server b.server parts.0) (eqb-true a.fileid b.fileid parts.1)

alike : (a b : Bool) → (a ≡ true → b ≡ true) → (b ≡ true → a ≡ true) → a ≡ b
alike true true up down = refl
alike true false up down = sym (up refl)
alike false true up down = down refl
alike false false up down = refl

neither : (a b : Bool) → not (a || b) ≡ (not a && not b)
neither true b = refl
neither false b = refl

-- ---- by what is said of an id

module _ (gone : MirrorId → Option LeftCause) where
  -- each mirror has what is said of its id
  abbrev pub AreCauses : List (Option LeftCause) → List Mirror → Type 0
  AreCauses causes [] = Unit {0}
  AreCauses [] (m ∷ live) = ⊥
  AreCauses (c ∷ causes) (m ∷ live) = (c ≡ gone m.id) × AreCauses causes live

  -- one of these mirrors goes, and is this one
  abbrev goes_among : List Mirror → MirrorId → Bool
  goes_among [] k = false
  goes_among (m ∷ live) k = (is_some (gone m.id) && is_mirror k m.id) || goes_among live k

  -- the live list behind their entries
  left_by : (file : FileId) (causes : List (Option LeftCause)) (live : List Mirror) (ks : List MirrorId) → AreCauses causes live
      → live_by file (Some ks) (left_entries file causes live) ≡ Some (filter (λ k. not (goes_among live k)) ks)
  left_by file causes [] ks all = sym (ap Some (filter_all ks))
  left_by file [] (m ∷ live) ks all = absurd all
  left_by file (c ∷ causes) (m ∷ live) ks all =
      subst (λ (o : Option LeftCause). live_by file (Some ks) (left_entries file (o ∷ causes) (m ∷ live)) ≡ Some (filter (λ k. not ((is_some (gone m.id) && is_mirror k m.id) || goes_among live k)) ks)) (sym all.0)
      (by_cause (gone m.id) (λ xs. left_by file causes live xs all.1))
    where
      by_cause : (o : Option LeftCause) → ((xs : List MirrorId) → live_by file (Some xs) (left_entries file causes live) ≡ Some (filter (λ k. not (goes_among live k)) xs))
          → live_by file (Some ks) (left_entries file (o ∷ causes) (m ∷ live)) ≡ Some (filter (λ k. not ((is_some o && is_mirror k m.id) || goes_among live k)) ks)
      by_cause None rest = rest ks
      by_cause (Some cause) rest =
          ap (λ (b : Bool). live_by file (cond b (changed_live (filter (λ x. not (is_mirror x m.id))) (Some ks)) (Some ks)) (left_entries file causes live)) (own_file file)
          ∙ rest (filter (λ x. not (is_mirror x m.id)) ks) ∙ ap Some (filter_twice (λ k. not (goes_among live k)) (λ x. not (is_mirror x m.id)) ks)
          ∙ ap Some (filter_same (λ k. not (is_mirror k m.id) && not (goes_among live k)) (λ k. not (is_mirror k m.id || goes_among live k)) ks (λ k inside. sym (neither (is_mirror k m.id) (goes_among live k))))

  goes_up : (live : List Mirror) (k : MirrorId) → IsOneOf k (ids_of live) → is_some (gone k) ≡ true → goes_among live k ≡ true
  goes_up [] k inside is = absurd inside
  goes_up (m ∷ live) k (inl same) is =
      ap (λ (b : Bool). (b && is_mirror k m.id) || goes_among live k) (ap (λ (x : MirrorId). is_some (gone x)) (sym same) ∙ is)
      ∙ ap (λ (b : Bool). b || goes_among live k) (ap (λ (x : MirrorId). is_mirror k x) (sym same) ∙ itself k)
  goes_up (m ∷ live) k (inr inside) is = or_second (is_some (gone m.id) && is_mirror k m.id) (goes_among live k) (goes_up live k inside is)
    where
      or_second : (a b : Bool) → b ≡ true → (a || b) ≡ true
      or_second true b its = refl
      or_second false b its = its

  goes_down : (live : List Mirror) (k : MirrorId) → goes_among live k ≡ true → is_some (gone k) ≡ true
  goes_down [] k is = absurd cc
  goes_down (m ∷ live) k is = by_first (is_some (gone m.id) && is_mirror k m.id) refl is (goes_down live k)
    where
      by_first : (b : Bool) → (is_some (gone m.id) && is_mirror k m.id) ≡ b → (b || goes_among live k) ≡ true → (goes_among live k ≡ true → is_some (gone k) ≡ true) → is_some (gone k) ≡ true
      by_first true here its more =
          let parts = and_parts (is_some (gone m.id)) (is_mirror k m.id) here in
          ap (λ (x : MirrorId). is_some (gone x)) (is_that k m.id parts.1) ∙ parts.0
      by_first false here its more = more its

  unreported_is : (causes : List (Option LeftCause)) (live : List Mirror) → AreCauses causes live → unreported (map is_some causes) live ≡ filter (λ m. not (is_some (gone m.id))) live
  unreported_is causes [] all = refl
  unreported_is [] (m ∷ live) all = absurd all
  unreported_is (c ∷ causes) (m ∷ live) all =
      ap (λ (o : Option LeftCause). cond (is_some o) (unreported (map is_some causes) live) (m ∷ unreported (map is_some causes) live)) all.0
      ∙ by_test (is_some (gone m.id)) (unreported_is causes live all.1)
    where
      by_test : (b : Bool) → unreported (map is_some causes) live ≡ filter (λ x. not (is_some (gone x.id))) live
          → cond b (unreported (map is_some causes) live) (m ∷ unreported (map is_some causes) live) ≡ cond (not b) (m ∷ filter (λ x. not (is_some (gone x.id))) live) (filter (λ x. not (is_some (gone x.id))) live)
      by_test true rest = rest
      by_test false rest = ap (λ l. m ∷ l) rest

  ids_kept : (live : List Mirror) → ids_of (filter (λ m. not (is_some (gone m.id))) live) ≡ filter (λ k. not (is_some (gone k))) (ids_of live)
  ids_kept [] = refl
  ids_kept (m ∷ live) = by_test (not (is_some (gone m.id))) (ids_kept live)
    where
      by_test : (b : Bool) → ids_of (filter (λ x. not (is_some (gone x.id))) live) ≡ filter (λ k. not (is_some (gone k))) (ids_of live)
          → ids_of (cond b (m ∷ filter (λ x. not (is_some (gone x.id))) live) (filter (λ x. not (is_some (gone x.id))) live))
          ≡ cond b (m.id ∷ filter (λ k. not (is_some (gone k))) (ids_of live)) (filter (λ k. not (is_some (gone k))) (ids_of live))
      by_test true rest = ap (λ ks. m.id ∷ ks) rest
      by_test false rest = rest

  pub all_leave : (file : FileId) (causes : List (Option LeftCause)) (live : List Mirror) → AreCauses causes live
      → live_by file (Some (ids_of live)) (left_entries file causes live) ≡ Some (ids_of (unreported (map is_some causes) live))
  all_leave file causes live all =
      left_by file causes live (ids_of live) all
      ∙ ap Some
      (filter_same (λ k. not (goes_among live k)) (λ k. not (is_some (gone k))) (ids_of live) (λ k inside. ap not (alike (goes_among live k) (is_some (gone k)) (goes_down live k) (goes_up live k inside)))
      ∙ sym (ids_kept live) ∙ ap ids_of (sym (unreported_is causes live all)))

  -- ---- by four places

  abbrev cause_of : Option Mirror → Option LeftCause
  cause_of None = None
  cause_of (Some m) = gone m.id

  abbrev pub four_causes : List Mirror → List (Option LeftCause)
  four_causes live = cause_of (slice_get live 0) ∷ cause_of (slice_get live 1) ∷ cause_of (slice_get live 2) ∷ cause_of (slice_get live 3) ∷ []

  pub four_are : (live : List Mirror) → length live ≤ 4 → AreCauses (four_causes live) live
  four_are [] few = tt
  four_are (a ∷ []) few = (refl, tt)
  four_are (a ∷ b ∷ []) few = (refl, (refl, tt))
  four_are (a ∷ b ∷ c ∷ []) few = (refl, (refl, (refl, tt)))
  four_are (a ∷ b ∷ c ∷ d ∷ []) few = (refl, (refl, (refl, (refl, tt))))
  four_are (a ∷ b ∷ c ∷ d ∷ e ∷ live) few = absurd (omega (arith, few))

-- ---- an own write that failed at some

abbrev cause_by : List (MirrorId × LeftCause) → MirrorId → Option LeftCause
cause_by failures id = option_map (λ (failure : MirrorId × LeftCause). failure.1) (find (is_failure_of id) failures)

there_by : (failures : List (MirrorId × LeftCause)) (o : Option Mirror) → cause_there failures o ≡ cause_of (cause_by failures) o
there_by failures None = refl
there_by failures (Some m) = refl

pub failures_leave : (file : FileId) (failures : List (MirrorId × LeftCause)) (live : List Mirror) → length live ≤ 4
    → live_by file (Some (ids_of live)) (left_entries file (failures_by_place failures live) live) ≡ Some (ids_of (unreported (map is_some (failures_by_place failures live)) live))
failures_leave file failures live few =
    all_leave (cause_by failures) file (failures_by_place failures live) live
    (subst (λ (causes : List (Option LeftCause)). AreCauses (cause_by failures) causes live)
    (sym (λ i. there_by failures (slice_get live 0) i ∷ there_by failures (slice_get live 1) i ∷ there_by failures (slice_get live 2) i ∷ there_by failures (slice_get live 3) i ∷ []))
    (four_are (cause_by failures) live few))

-- ---- what a return reports

abbrev report_by : List (Value ff_ioerr4) → MirrorId → Option LeftCause
report_by errors id = reported_cause (is_reported errors id.server)

reported_by : (errors : List (Value ff_ioerr4)) (o : Option Mirror) → reported_cause (reported_mirror errors o) ≡ cause_of (report_by errors) o
reported_by errors None = refl
reported_by errors (Some m) = refl

caused_so : (places : List Bool) → map is_some (map reported_cause places) ≡ places
caused_so [] = refl
caused_so (true ∷ places) = ap (λ l. true ∷ l) (caused_so places)
caused_so (false ∷ places) = ap (λ l. false ∷ l) (caused_so places)

pub reports_leave : (file : FileId) (errors : List (Value ff_ioerr4)) (live : List Mirror) → length live ≤ 4
    → live_by file (Some (ids_of live)) (left_entries file (map reported_cause (report_of errors live)) live) ≡ Some (ids_of (unreported (report_of errors live) live))
reports_leave file errors live few =
    all_leave (report_by errors) file (map reported_cause (report_of errors live)) live
    (subst (λ (causes : List (Option LeftCause)). AreCauses (report_by errors) causes live)
    (sym (λ i. reported_by errors (slice_get live 0) i ∷ reported_by errors (slice_get live 1) i ∷ reported_by errors (slice_get live 2) i ∷ reported_by errors (slice_get live 3) i ∷ []))
    (four_are (report_by errors) live few))
    ∙ ap (λ (places : List Bool). Some (ids_of (unreported places live))) (caused_so (report_of errors live))
