-- Texts that stand in bytes, one after the other; and steps that did not fail.
use Rattle.std.proofs.Common.{◌≡◌, ℕ, ◌+◌, ◌≤◌, Bool, true, false, cond, List, [], ◌++◌, length, take, drop, Result, Ok, Err, refl, sym, ap, ◌∙◌, append_assoc, arith, inl, inr}
use Rattle.std.proofs.lemmas.Bool.{cases_lt}
use Rattle.std.proofs.lemmas.List.{take_at, drop_at, take-take, drop-take, drop-drop, length-append, length-take, get_or-drop, get_or-take, get_or_past}
use Rattle.std.proofs.Math.Seq.{take-add}
use Rattle.ff_xdr.specs.declared.error.XdrError.{XdrError}
use Rattle.ff_xdr.specs.Laws.{IsBytes, Stands}
use Rattle.ff_xdr.specs.Reading.{◌>>=◌}

pub IsBytes-drop : (n : ℕ) (bytes : List ℕ) → IsBytes bytes → IsBytes (drop n bytes)
IsBytes-drop n bytes h i = rw get_or-drop (h (n + i))

pub IsBytes-take : (n : ℕ) (bytes : List ℕ) → IsBytes bytes → IsBytes (take n bytes)
IsBytes-take n bytes h i =
    elim (cases_lt i n) [
      | inl lt ↦ rw (get_or-take n bytes i 0 lt) (h i)
      | inr le ↦ rw (get_or_past (take n bytes) i 0 (omega (arith, length-take n bytes))) (omega arith)
    ]

-- the value of a step that did not fail
pub bind_ok : {A B : Type 0} (r : Result A XdrError) (f : A → Result B XdrError) (y : B) → (r >>= f) ≡ Ok y → (x : A) × (r ≡ Ok x) × (f x ≡ Ok y)
bind_ok (Ok x) f y e = (x, refl, e)
bind_ok (Err d) f y e = absurd cc

-- and what such a step gives
pub bind_is : {A B : Type 0} (r : Result A XdrError) (f : A → Result B XdrError) (x : A) → r ≡ Ok x → (r >>= f) ≡ f x
bind_is r f x e = ap (λ (s : Result _ XdrError). s >>= f) e

-- a test that refuses where it holds, and did not
pub guard_ok : {A : Type 0} (b : Bool) (d : XdrError) (r : Result A XdrError) (y : A) → cond b (Err d) r ≡ Ok y → (b ≡ false) × (r ≡ Ok y)
guard_ok true d r y e = absurd cc
guard_ok false d r y e = (refl, e)

-- a test that refuses where it does not hold, and held
pub passed : {A : Type 0} (b : Bool) (d : XdrError) (r : Result A XdrError) (y : A) → cond b r (Err d) ≡ Ok y → (b ≡ true) × (r ≡ Ok y)
passed true d r y e = (refl, e)
passed false d r y e = absurd cc

abbrev pub done : {A : Type 0} → A → Result A XdrError
done x = Ok x

pub ok_is : {A : Type 0} (x y : A) → done x ≡ done y → x ≡ y
ok_is x y e = cc

abbrev failed : {A : Type 0} → XdrError → Result A XdrError
failed e = Err e

pub err_is : {A : Type 0} (d e : XdrError) → failed {A = A} d ≡ failed {A = A} e → e ≡ d
err_is d e is = cc

-- no text stands everywhere
pub stands_nothing : (bytes : List ℕ) (at : ℕ) → at ≤ length bytes → Stands bytes at [] at
stands_nothing bytes at le = record { stands = refl; ends = omega arith; within = le }

-- a text that is joined of two stands where both stand
pub stands_join : (bytes : List ℕ) (at : ℕ) (a : List ℕ) (m : ℕ) (b : List ℕ) (to : ℕ) → Stands bytes at a m → Stands bytes m b to → Stands bytes at (a ++ b) to
stands_join bytes at a m b to p q =
    let len = length-append a b in
    let there : drop (length a) (drop at bytes) ≡ drop m bytes = drop-drop (length a) at bytes ∙ ap (λ (k : ℕ). drop k bytes) (sym p.ends) in
    record {
      stands = rw (len, take-add (length a) (length b) (drop at bytes), p.stands, there, q.stands) refl;
      ends = omega (arith, len, p.ends, q.ends);
      within = q.within;
    }

pub stands_first : (bytes : List ℕ) (at : ℕ) (a b : List ℕ) (to : ℕ) → Stands bytes at (a ++ b) to → Stands bytes at a (at + length a)
stands_first bytes at a b to p =
    let len = length-append a b in
    let le : length a ≤ length (a ++ b) = omega (arith, len) in
    record {
      stands = sym (take-take (length a) (length (a ++ b)) (drop at bytes) le) ∙ ap (λ (t : List ℕ). take (length a) t) p.stands ∙ take_at a b (length a) refl;
      ends = refl;
      within = omega (arith, len, p.ends, p.within);
    }

pub stands_second : (bytes : List ℕ) (at : ℕ) (a b : List ℕ) (to : ℕ) → Stands bytes at (a ++ b) to → Stands bytes (at + length a) b to
stands_second bytes at a b to p =
    let len = length-append a b in
    let whole : take (length a + length b) (drop at bytes) ≡ a ++ b = ap (λ (k : ℕ). take k (drop at bytes)) (sym len) ∙ p.stands in
    record {
      stands = ap (λ (t : List ℕ). take (length b) t) (sym (drop-drop (length a) at bytes)) ∙ sym (drop-take (length a) (length b) (drop at bytes)) ∙ ap (λ (t : List ℕ). drop (length a) t) whole ∙ drop_at a b (length a) refl;
      ends = omega (arith, len, p.ends);
      within = p.within;
    }

-- a text stands behind what stands before it
pub stands_between : (front text rest : List ℕ) → Stands (front ++ text ++ rest) (length front) text (length front + length text)
stands_between front text rest =
    record {
      stands = rw (append_assoc front text rest, drop_at front (text ++ rest) (length front) refl) (take_at text rest (length text) refl);
      ends = refl;
      within = omega (arith, length-append (front ++ text) rest, length-append front text);
    }
