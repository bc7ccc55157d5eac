-- Reading values one after the other, as a loop does.
use Rattle.std.proofs.Common.{◌≡◌, ℕ, zero, suc, Bool, true, false, List, [], ◌∷◌, ◌++◌, length, Ok, Err, is_ok, refl, sym, ap, ◌∙◌, append_assoc}
use Rattle.std.proofs.lemmas.Bool.{false≢true}
use Rattle.ff_xdr.specs.declared.error.XdrError.{XdrError}
use Rattle.ff_xdr.specs.Reading.{Read, ◌>>=◌, many_at, reading}
use Rattle.std.specs.Borrow.{Bor}
use Rattle.std.specs.Prelude.{IsTrue, ◌&&◌}
use Rattle.ff_xdr.specs.declared.place.ItemsPlace.{ItemsPlace}
use Rattle.ff_xdr.specs.declared.place.ItemsPlace.TheVariants.{InBytes}
use Rattle.ff_xdr.specs.Form.{Form, Value}
use Rattle.ff_xdr.specs.Items.{values_of, contents, is_list}

-- values that were read before, and what is still read
abbrev pub with_front : {M : Type 0} → List M → Read (List M) → Read (List M)
with_front front read = read >>= λ x. Ok (front ++ x.0, x.1)

abbrev onto : {M : Type 0} → M → Read (List M) → Read (List M)
onto v read = read >>= λ x. Ok (v ∷ x.0, x.1)

regroup : {M : Type 0} (front : List M) (v : M) (read : Read (List M)) → with_front front (onto v read) ≡ with_front (front ++ v ∷ []) read
regroup front v (Ok x) = ap (λ (vs : List _). Ok (vs, x.1)) (simp append_assoc)
regroup front v (Err e) = refl

module _ {M : Type 0} (each : ℕ → Read M) where
  pub many_at_more : (m n at : ℕ) (v : M) (to : ℕ) → m ≡ suc n → each at ≡ Ok (v, to) → many_at each m at ≡ onto v (many_at each n to)
  many_at_more m n at v to k e = rw k (rw e refl)

  pub many_at_refused : (m n at : ℕ) (e : XdrError) → m ≡ suc n → each at ≡ Err e → many_at each m at ≡ Err e
  many_at_refused m n at e k h = rw k (rw h refl)

  pub goes_on : (front : List M) (m n at : ℕ) (v : M) (to : ℕ) (total : Read (List M)) → m ≡ suc n → each at ≡ Ok (v, to)
      → with_front front (many_at each m at) ≡ total → with_front (front ++ v ∷ []) (many_at each n to) ≡ total
  goes_on front m n at v to total k e so_far =
      sym (regroup front v (many_at each n to)) ∙ sym (ap (with_front front) (many_at_more m n at v to k e)) ∙ so_far

  pub stops : (front : List M) (m n at : ℕ) (e : XdrError) (total : Read (List M)) → m ≡ suc n → each at ≡ Err e
      → with_front front (many_at each m at) ≡ total → total ≡ Err e
  stops front m n at e total k h so_far = sym so_far ∙ ap (with_front front) (many_at_refused m n at e k h)

  pub ends : (front : List M) (m at : ℕ) (total : Read (List M)) → m ≡ 0 → with_front front (many_at each m at) ≡ total → total ≡ Ok (values_of total, at)
  ends front m at total k so_far =
      let is : total ≡ Ok (front ++ [], at) = sym so_far ∙ ap (λ (n : ℕ). with_front front (many_at each n at)) k in
      rw is refl

  length_onto : (v : M) (read : Read (List M)) (n : ℕ) → (is_ok read ≡ true → length (values_of read) ≡ n) → is_ok (onto v read) ≡ true → length (values_of (onto v read)) ≡ suc n
  length_onto v (Ok x) n h e = ap suc (h refl)
  length_onto v (Err d) n h e = absurd (false≢true e)

  length_after : (n : ℕ) → ((to : ℕ) → is_ok (many_at each n to) ≡ true → length (values_of (many_at each n to)) ≡ n) → (first : Read M)
      → is_ok (first >>= λ f. onto f.0 (many_at each n f.1)) ≡ true → length (values_of (first >>= λ f. onto f.0 (many_at each n f.1))) ≡ suc n
  length_after n h (Ok f) e = length_onto f.0 (many_at each n f.1) n (h f.1) e
  length_after n h (Err d) e = absurd (false≢true e)

  -- as many values were read as were wanted
  pub length-many_at : (n at : ℕ) → is_ok (many_at each n at) ≡ true → length (values_of (many_at each n at)) ≡ n
  length-many_at zero at e = refl
  length-many_at (suc n) at e = length_after n (λ to. length-many_at n to) (each at) e

both_true : (a b : Bool) → (a && b) ≡ true → b ≡ true
both_true true b e = e
both_true false b e = absurd (false≢true e)

-- as many values stand in the bytes as the list counts
pub length-contents : {T : Type 0} (form : Form) (meaning : T → Value form) (place : ItemsPlace T) (bytes : Bor (List ℕ)) (at count : ℕ) → place ≡ InBytes bytes at count
    → IsTrue (is_list form place) → length (contents form meaning place) ≡ count
length-contents {T} form meaning place bytes at count e checked =
    let there : IsTrue (is_list {T = T} form (InBytes bytes at count)) = rw e at checked in
    ap (λ (p : ItemsPlace _). length (contents form meaning p)) e ∙ length-many_at (λ (p : ℕ). reading form bytes.now p) count at (both_true _ _ there)
