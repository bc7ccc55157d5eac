-- What stands is read, of every form.
use Rattle.std.proofs.Common.{◌≡◌, ℕ, ◌+◌, ◌^◌, ◌<◌, Bool, true, false, not, ◌&&◌, eqb, ltb, List, [], ◌∷◌, ◌++◌, length, Some, None, Ok, refl, sym, ap, subst, ◌∙◌, arith, inl, inr}
use Rattle.std.specs.Prelude.{IsTrue}
use Rattle.std.specs.Int.{w32}
use Rattle.std.specs.List.{AllByRecursion, list_any, list_all, flat_map}
use Rattle.std.proofs.lemmas.Bool.{eqb-true, eq-eqb, ne_eqb, ltb-true, or_cases, and_parts, not-true, both_ways, false≢true}
use Rattle.ff_xdr.specs.Form.{Form, Void, Number32, Number64, Hyper, Boolean, Enum, Optional, Fixed, Opaque, Text, Pair, Array, Arm, NoArm, Default, Value, Fits, spelling, is_sound, avoids, word}
use Rattle.ff_xdr.specs.Laws.{IsReadAgain, Stands}
use Rattle.ff_xdr.specs.Reading.{Read, number_at, fixed_at, reading, many_at}
use Rattle.ff_xdr.proofs.Places.{stands_first, stands_second, stands_between}
use Rattle.ff_xdr.proofs.Fields.{word_again, long_again, hyper_again, fixed_again, length_again, opaque_again, text_again, flag_again}

-- where the spelling of a value stands, the value is read
abbrev pub IsReadWhereItStands : Form → Type 0
IsReadWhereItStands form = (v : Value form) (bytes : List ℕ) (at to : ℕ) → Fits form v → Stands bytes at (spelling form v) to → reading form bytes at ≡ Ok (v, to)

-- a number that some test of a list takes passes a test that all of the list pass
among : (p : ℕ → Bool) (n : ℕ) (numbers : List ℕ) → list_all p numbers ≡ true → list_any (eqb n) numbers ≡ true → p n ≡ true
among p n [] all some = absurd cc
among p n (k ∷ numbers) all some =
    let a = and_parts (p k) (list_all p numbers) all in
    elim (or_cases (eqb n k) (list_any (eqb n) numbers) some) [
      | inl same ↦ ap p (eqb-true n k same) ∙ a.0
      | inr rest ↦ among p n numbers a.1 rest
    ]

pub enum_below : (n : ℕ) (numbers : List ℕ) → list_all (λ k. ltb k (2 ^ 32)) numbers ≡ true → list_any (eqb n) numbers ≡ true → n < 2 ^ 32
enum_below n numbers all some = ltb-true n (2 ^ 32) (among (λ k. ltb k (2 ^ 32)) n numbers all some)

-- what soundness says of a union
pub sound_case : (number : ℕ) (body others : Form) → IsTrue (is_sound (Arm number body others)) → (number < 2 ^ 32) × IsTrue (avoids number others) × IsTrue (is_sound body) × IsTrue (is_sound others)
sound_case number body others sound =
    let a = and_parts (ltb number (2 ^ 32) && avoids number others && is_sound body) (is_sound others) sound in
    let b = and_parts (ltb number (2 ^ 32) && avoids number others) (is_sound body) a.0 in
    let c = and_parts (ltb number (2 ^ 32)) (avoids number others) b.0 in
    (ltb-true number (2 ^ 32) c.0, c.1, b.1, a.1)

-- the first word of a text is another than n
record StartsApart (n : ℕ) (bytes : List ℕ) (at : ℕ) : Type 0 where
  number : ℕ
  next : ℕ
  read : number_at w32 bytes at ≡ Ok (number, next)
  apart : eqb number n ≡ false

starts_apart : (form : Form) (n : ℕ) (v : Value form) (bytes : List ℕ) (at to : ℕ) → IsTrue (is_sound form) → IsTrue (avoids n form) → Fits form v → Stands bytes at (spelling form v) to → StartsApart n bytes at
starts_apart (Enum numbers) n v bytes at to sound away fits s =
    let other = not-true (list_any (eqb n) numbers) away in
    record {
      number = v;
      next = to;
      read = word_again bytes at v to (enum_below v numbers sound fits) s;
      apart = ne_eqb v n (λ same. both_ways _ other (subst (λ (k : ℕ). list_any (eqb k) numbers ≡ true) same fits));
    }
starts_apart (Pair first second) n (a, b) bytes at to sound away fits s =
    starts_apart first n a bytes at _ (and_parts (is_sound first) (is_sound second) sound).0 away fits.0 (stands_first bytes at (spelling first a) (spelling second b) to s)
starts_apart (Arm number body others) n (inl v) bytes at to sound away fits s =
    let other = not-true (eqb n number) (and_parts (not (eqb n number)) (avoids n others) away).0 in
    let first = stands_first bytes at (word number) (spelling body v) to s in
    record {
      number = number;
      next = at + length (word number);
      read = word_again bytes at number _ (sound_case number body others sound).0 first;
      apart = ne_eqb number n (λ same. both_ways _ other (eq-eqb n number (sym same)));
    }
starts_apart (Arm number body others) n (inr v) bytes at to sound away fits s =
    starts_apart others n v bytes at to (sound_case number body others sound).3 (and_parts (not (eqb n number)) (avoids n others) away).1 fits s
starts_apart NoArm n v bytes at to sound away fits s = absurd v
starts_apart (Default numbers) n v bytes at to sound away fits s =
    let other = not-true (list_any (eqb v) numbers) fits.1 in
    record {
      number = v;
      next = to;
      read = word_again bytes at v to fits.0 s;
      apart = ne_eqb v n (λ same. both_ways _ other (subst (λ (k : ℕ). list_any (eqb k) numbers ≡ true) (sym same) away));
    }
starts_apart _ n v bytes at to sound away fits s = absurd (false≢true away)

-- values one after the other
many_again : {M : Type 0} (each : ℕ → Read M) (spell : M → List ℕ) (P : M → Type 0) (bytes : List ℕ)
    → ((v : M) (at to : ℕ) → P v → Stands bytes at (spell v) to → each at ≡ Ok (v, to))
    → (vs : List M) (at to : ℕ) → AllByRecursion P vs → Stands bytes at (flat_map spell vs) to → many_at each (length vs) at ≡ Ok (vs, to)
many_again each spell P bytes one [] at to fit s =
    let same : at ≡ to = omega (arith, s.ends) in
    ap (λ (k : ℕ). Ok ([], k)) same
many_again each spell P bytes one (v ∷ vs) at to fit s =
    let first = stands_first bytes at (spell v) (flat_map spell vs) to s in
    let second = stands_second bytes at (spell v) (flat_map spell vs) to s in
    let read = one v at _ fit.0 first in
    let others = many_again each spell P bytes one vs (at + length (spell v)) to fit.1 second in
    rw (read, others) refl

pub again_where : (form : Form) → IsTrue (is_sound form) → IsReadWhereItStands form
again_where Void sound v bytes at to fits s =
    let same : at ≡ to = omega (arith, s.ends) in
    ap (λ (k : ℕ). Ok (tt, k)) same
again_where Number32 sound v bytes at to fits s = word_again bytes at v to fits s
again_where Number64 sound v bytes at to fits s = long_again bytes at v to fits s
again_where Hyper sound v bytes at to fits s = hyper_again bytes at v to fits s
again_where Boolean sound false bytes at to fits s = flag_again bytes at false to s
again_where Boolean sound true bytes at to fits s = flag_again bytes at true to s
again_where (Enum numbers) sound v bytes at to fits s =
    let read = word_again bytes at v to (enum_below v numbers sound fits) s in
    rw (read, fits) refl
again_where (Optional each) sound None bytes at to fits s =
    let read = flag_again bytes at false to s in
    rw read refl
again_where (Optional each) sound (Some v) bytes at to fits s =
    let first = stands_first bytes at (word 1) (spelling each v) to s in
    let second = stands_second bytes at (word 1) (spelling each v) to s in
    let there = flag_again bytes at true _ first in
    let read = again_where each sound v bytes _ to fits second in
    rw (there, read) refl
again_where (Fixed count) sound v bytes at to fits s = subst (λ (n : ℕ). fixed_at n bytes at ≡ Ok (v, to)) fits (fixed_again bytes at v to s)
again_where (Opaque max) sound v bytes at to fits s = opaque_again max bytes at v to (ltb-true max (2 ^ 32) sound) fits s
again_where (Text max) sound v bytes at to fits s = text_again max bytes at v to (ltb-true max (2 ^ 32) sound) fits.0 fits.1 s
again_where (Pair first second) sound (a, b) bytes at to fits s =
    let sounds = and_parts (is_sound first) (is_sound second) sound in
    let left = again_where first sounds.0 a bytes at _ fits.0 (stands_first bytes at (spelling first a) (spelling second b) to s) in
    let right = again_where second sounds.1 b bytes _ to fits.1 (stands_second bytes at (spelling first a) (spelling second b) to s) in
    rw (left, right) refl
again_where (Array max each) sound vs bytes at to fits s =
    let sounds = and_parts (ltb max (2 ^ 32)) (is_sound each) sound in
    let first = stands_first bytes at (word (length vs)) (flat_map (λ v. spelling each v) vs) to s in
    let second = stands_second bytes at (word (length vs)) (flat_map (λ v. spelling each v) vs) to s in
    let count = length_again max bytes at (length vs) _ (ltb-true max (2 ^ 32) sounds.0) fits.0 first in
    let one : (v : Value each) (place next : ℕ) → Fits each v → Stands bytes place (spelling each v) next → reading each bytes place ≡ Ok (v, next) = λ v place next fit there. again_where each sounds.1 v bytes place next fit there in
    let read = many_again (λ place. reading each bytes place) (λ v. spelling each v) (λ v. Fits each v) bytes one vs _ to fits.1 second in
    rw (count, read) refl
again_where (Arm number body others) sound (inl v) bytes at to fits s =
    let sounds = sound_case number body others sound in
    let first = stands_first bytes at (word number) (spelling body v) to s in
    let second = stands_second bytes at (word number) (spelling body v) to s in
    let here : eqb number number ≡ true = eq-eqb number number refl in
    let there = word_again bytes at number _ sounds.0 first in
    let read = again_where body sounds.2 v bytes _ to fits second in
    rw (there, here, read) refl
again_where (Arm number body others) sound (inr v) bytes at to fits s =
    let sounds = sound_case number body others sound in
    let start = starts_apart others number v bytes at to sounds.3 sounds.1 fits s in
    let there : number_at w32 bytes at ≡ Ok (start.number, start.next) = start.read in
    let other : eqb start.number number ≡ false = start.apart in
    let read = again_where others sounds.3 v bytes at to fits s in
    rw (there, other, read) refl
again_where NoArm sound v bytes at to fits s = absurd v
again_where (Default numbers) sound v bytes at to fits s =
    let read = word_again bytes at v to fits.0 s in
    let other = not-true (list_any (eqb v) numbers) fits.1 in
    rw (read, other) refl

pub again : (form : Form) → IsTrue (is_sound form) → IsReadAgain form
again form sound = λ v front rest fits. again_where form sound v (front ++ spelling form v ++ rest) (length front) (length front + length (spelling form v)) fits (stands_between front (spelling form v) rest)
