-- What one more note tells.
use Rattle.std.proofs.Common.{◌≡◌, ◌⊎◌, inl, inr, ℕ, Bool, true, false, ◌&&◌, cond, eqb, List, ◌∷◌, Option, Some, None, refl, sym, ap, ◌∙◌}
use Rattle.std.specs.Prelude.{find}
use Rattle.std.proofs.lemmas.Bool.{eq-eqb, eqb-true, and_parts, and_from, and_left, and_right, or_cases, or_left, or_right}
use Rattle.std.proofs.lemmas.Option.{same_Some, none-some}
use Rattle.cluster_model.specs.declared.ids.FileId.{FileId}
use Rattle.open_state.specs.declared.open.Open.{Open}
use Rattle.open_state.specs.Opens.{OpensValue, opens_of, open_of, is_of}
use Rattle.open_state.specs.OneClient.{HasOpens}
use Rattle.open_state.specs.OpensLaws.{OpenNote, WasOpened, standing, was_given, stands_as}
use Rattle.open_state.proofs.OfClients.{turned}
use Rattle.open_state.proofs.Finds.{same_file, is_own}

-- where one client's opens have changed, and of the files that pass a test they are now these
pub shown : (old new : OpensValue) (notes : List OpenNote) (client : ℕ) (now : Option Open) (test : FileId → Bool) (opens : List Open) → HasOpens old client opens new
    → ((f : FileId) → test f ≡ true → find (is_of f) opens ≡ now) → ((f : FileId) → test f ≡ false → find (is_of f) opens ≡ find (is_of f) (opens_of old client))
    → ((c : ℕ) (f : FileId) → open_of old c f ≡ standing c f notes) → (c : ℕ) (f : FileId) → open_of new c f ≡ cond (eqb client c && test f) now (standing c f notes)
shown old new notes client now test opens has its others stands c f = by_case (eqb client c) (test f) refl refl
  where
    by_case : (a b : Bool) → eqb client c ≡ a → test f ≡ b → open_of new c f ≡ cond (eqb client c && test f) now (standing c f notes)
    by_case true true one here =
        ap (λ k. open_of new k f) (sym (eqb-true client c one))
        ∙ ap (find (is_of f)) has.its
        ∙ its f here
        ∙ sym (ap (λ t. cond t now (standing c f notes)) (and_from (eqb client c) (test f) one here))
    by_case true false one other =
        ap (λ k. open_of new k f) (sym (eqb-true client c one))
        ∙ ap (find (is_of f)) has.its
        ∙ others f other
        ∙ ap (λ k. open_of old k f) (eqb-true client c one)
        ∙ stands c f
        ∙ sym (ap (λ t. cond t now (standing c f notes)) (and_right (eqb client c) (test f) other))
    by_case false b another t =
        ap (find (is_of f)) (has.others c (turned c client ∙ another))
        ∙ stands c f
        ∙ sym (ap (λ t. cond t now (standing c f notes)) (and_left (eqb client c) (test f) another))

pub always : (b : Bool) → (b && true) ≡ b
always true = refl
always false = refl

-- a number of one more open is its own, or was given before
pub was_or_is : (c : ℕ) (f : FileId) (n client : ℕ) (o : Open) (notes : List OpenNote) → was_given c f n (WasOpened client o ∷ notes) ≡ true
    → ((client ≡ c) × (o.file ≡ f) × (o.number ≡ n)) ⊎ (was_given c f n notes ≡ true)
was_or_is c f n client o notes given = by_case (or_cases _ _ given)
  where
    by_case : ((eqb client c && (is_of f o && eqb o.number n)) ≡ true) ⊎ (was_given c f n notes ≡ true) → ((client ≡ c) × (o.file ≡ f) × (o.number ≡ n)) ⊎ (was_given c f n notes ≡ true)
    by_case (inl now) =
        let one = and_parts (eqb client c) (is_of f o && eqb o.number n) now in
        let two = and_parts (is_of f o) (eqb o.number n) one.1 in
        inl (eqb-true client c one.0, same_file f o two.0, eqb-true o.number n two.1)
    by_case (inr before) = inr before

pub is_given : (client : ℕ) (o : Open) (notes : List OpenNote) → was_given client o.file o.number (WasOpened client o ∷ notes) ≡ true
is_given client o notes =
    or_left _ (was_given client o.file o.number notes)
    (and_from (eqb client client) (is_of o.file o && eqb o.number o.number) (eq-eqb client client refl) (and_from (is_of o.file o) (eqb o.number o.number) (is_own o) (eq-eqb o.number o.number refl)))

pub still_given : (c : ℕ) (f : FileId) (n client : ℕ) (o : Open) (notes : List OpenNote) → was_given c f n notes ≡ true → was_given c f n (WasOpened client o ∷ notes) ≡ true
still_given c f n client o notes given = or_right _ (was_given c f n notes) given

-- what stands behind one more open is it, or stood before
pub stands_or_is : (c : ℕ) (f : FileId) (x : Open) (client : ℕ) (o : Open) (notes : List OpenNote) → standing c f (WasOpened client o ∷ notes) ≡ Some x
    → ((client ≡ c) × (o.file ≡ f) × (o ≡ x)) ⊎ (standing c f notes ≡ Some x)
stands_or_is c f x client o notes is = by_case (eqb client c && is_of f o) refl
  where
    by_case : (b : Bool) → (eqb client c && is_of f o) ≡ b → ((client ≡ c) × (o.file ≡ f) × (o ≡ x)) ⊎ (standing c f notes ≡ Some x)
    by_case true now =
        let both = and_parts (eqb client c) (is_of f o) now in
        inl (eqb-true client c both.0, same_file f o both.1, same_Some o x (sym (ap (λ b. cond b (Some o) (standing c f notes)) now) ∙ is))
    by_case false before = inr (sym (ap (λ b. cond b (Some o) (standing c f notes)) before) ∙ is)

-- what stands behind an end stood before
pub stood : (b : Bool) (before : Option Open) (x : Open) → cond b None before ≡ Some x → before ≡ Some x
stood true before x is = absurd (none-some x is)
stood false before x is = is

pub stands_so : (n : ℕ) (r : Option Open) (o : Open) → r ≡ Some o → o.number ≡ n → stands_as n r ≡ true
stands_so n r o is same = ap (stands_as n) is ∙ eq-eqb o.number n same
