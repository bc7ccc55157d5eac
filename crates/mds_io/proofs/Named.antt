-- The mirrors that failed, as the first of the live ones.
use Rattle.std.proofs.Common.{◌≡◌, ◌+◌, List, [], ◌∷◌, ◌++◌, length, Some, None, refl, sym, ap, ◌∙◌, arith, append-nil}
use Rattle.std.specs.Prelude.{slice_get, option_map}
use Rattle.std.proofs.lemmas.List.{length-append, length-map, append_assoc, map-append}
use Rattle.std.proofs.lemmas.Option.{slice_get-map, same_Some, none-some}
use Rattle.cluster_model.specs.declared.ids.Mirror.{Mirror}
use Rattle.cluster_model.specs.declared.ids.MirrorId.{MirrorId}
use Rattle.cluster_model.specs.Phases.{ids_of}
use Rattle.mds_io.specs.declared.read_end.Failure.{Failure}
use Rattle.mds_io.specs.ReadLaws.{ids_failed}

-- these begin a list
abbrev pub Begins : List MirrorId → List MirrorId → Type 0
Begins front all = (behind : List MirrorId) × (all ≡ front ++ behind)

-- the list goes on with this one
abbrev pub GoesOnWith : List MirrorId → MirrorId → List MirrorId → Type 0
GoesOnWith front id all = (behind : List MirrorId) × (all ≡ front ++ id ∷ behind)

first_is : (id : MirrorId) (list : List MirrorId) → slice_get list 0 ≡ Some id → (behind : List MirrorId) × (list ≡ id ∷ behind)
first_is id [] is = absurd (none-some id is)
first_is id (x ∷ behind) is = (behind, ap (λ (y : MirrorId). y ∷ behind) (same_Some x id is))

first_none : (list : List MirrorId) → slice_get list 0 ≡ None → list ≡ []
first_none [] is = refl
first_none (x ∷ behind) is = absurd (none-some x (sym is))

at_end : (front behind : List MirrorId) → slice_get (front ++ behind) (length front) ≡ slice_get behind 0
at_end [] behind = refl
at_end (x ∷ front) behind = at_end front behind

-- the mirror that has its turn is the next of the list
turn_is : (live : List Mirror) (failures : List Failure) → slice_get (ids_of live) (length (ids_failed failures)) ≡ option_map (λ (m : Mirror). m.id) (slice_get live (length failures))
turn_is live failures = ap (slice_get (ids_of live)) (length-map failures (λ (f : Failure). f.id)) ∙ slice_get-map (λ (m : Mirror). m.id) live (length failures)

pub next_named : (live : List Mirror) (failures : List Failure) (m : Mirror) → slice_get live (length failures) ≡ Some m → Begins (ids_failed failures) (ids_of live) → GoesOnWith (ids_failed failures) m.id (ids_of live)
next_named live failures m found (behind, all) =
    let first : slice_get behind 0 ≡ Some m.id =
    sym (at_end (ids_failed failures) behind) ∙ ap (λ l. slice_get l (length (ids_failed failures))) (sym all) ∙ turn_is live failures ∙ ap (option_map (λ (m : Mirror). m.id)) found in
    let next : (others : List MirrorId) × (behind ≡ m.id ∷ others) = first_is m.id behind first in
    (next.0, all ∙ ap (λ l. ids_failed failures ++ l) next.1)

ids_push : (failures : List Failure) (f : Failure) → ids_failed (failures ++ f ∷ []) ≡ ids_failed failures ++ f.id ∷ []
ids_push failures f = map-append (λ (f : Failure). f.id) failures (f ∷ [])

-- the mirror that had its turn has failed
pub one_failed : (all : List MirrorId) (failures : List Failure) (f : Failure) → GoesOnWith (ids_failed failures) f.id all → Begins (ids_failed (failures ++ f ∷ [])) all
one_failed all failures f (behind, goes) =
    (behind, goes ∙ sym (append_assoc (ids_failed failures) (f.id ∷ []) behind) ∙ ap (λ l. l ++ behind) (sym (ids_push failures f)))

-- none has its turn where all have failed
pub all_failed : (live : List Mirror) (failures : List Failure) → slice_get live (length failures) ≡ None → Begins (ids_failed failures) (ids_of live) → ids_failed failures ≡ ids_of live
all_failed live failures none (behind, all) =
    let nothing : behind ≡ [] = first_none behind
    (sym (at_end (ids_failed failures) behind) ∙ ap (λ l. slice_get l (length (ids_failed failures))) (sym all) ∙ turn_is live failures ∙ ap (option_map (λ (m : Mirror). m.id)) none) in
    sym (append-nil (ids_failed failures)) ∙ ap (λ l. ids_failed failures ++ l) (sym nothing) ∙ sym all

-- and not all have where one has
pub one_left : (live : List Mirror) (failures : List Failure) (m : Mirror) → slice_get live (length failures) ≡ Some m → Begins (ids_failed failures) (ids_of live) → ids_failed failures ≡ ids_of live → ⊥
one_left live failures m found begins all =
    let next : GoesOnWith (ids_failed failures) m.id (ids_of live) = next_named live failures m found begins in
    let size : length (ids_of live) ≡ length (ids_failed failures) + length (m.id ∷ next.0) = ap length next.1 ∙ length-append (ids_failed failures) (m.id ∷ next.0) in
    let more : length (m.id ∷ next.0) ≡ length next.0 + 1 = omega arith in
    omega (arith, size, more, ap length all)
