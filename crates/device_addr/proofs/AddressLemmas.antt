-- How the text of an address is taken apart.
use Rattle.std.proofs.Common.{◌≡◌, ◌≢◌, ℕ, suc, ◌+◌, ◌/◌, ◌%◌, ◌<◌, ◌==◌, List, [], ◌∷◌, ◌++◌, length, take, drop, Option, Some, None, Result, Ok, Err, refl, sym, ap, ◌∙◌, arith}
use Rattle.std.specs.Prelude.{decimal, MatchOption}
use Rattle.std.specs.List.{All, before_first, after_first, position_or_len}
use Rattle.std.specs.Result.{result_ok}
use Rattle.std.specs.Str.Parse.{AllDigits}
use Rattle.std.proofs.Math.Seq.{take-append_seam, drop-append-add}
use Rattle.std.proofs.lemmas.Bool.{ne_eqb}
use Rattle.std.proofs.lemmas.Fmt.{decimal_is_IsNumeral}
use Rattle.std.proofs.lemmas.List.{length-append}
use Rattle.std.proofs.lemmas.List.Elements.{All-head, All-tail, All-nil, All-cons, All-append}
use Rattle.std.proofs.lemmas.Str.Parse.{digit_at}
use Rattle.device_addr.specs.Universal.{AddressValue, IsAddress, IsNumberBefore, dotted, address_text}

pub when_none : {A : Type 0} (P : Type 0) (Q : A → Type 0) (r : Option A) → r ≡ None → P → MatchOption r P Q
when_none P Q None e p = p
when_none P Q (Some a) e p = absurd (cc)

pub ok_none : {E : Type 0} (r : Result ℕ E) (n : ℕ) → r ≡ Ok n → None ≡ result_ok r → ⊥
ok_none (Ok m) n is none = cc
ok_none (Err e) n is none = cc

pub ok_some : {E : Type 0} (r : Result ℕ E) (m n : ℕ) → r ≡ Ok n → Some m ≡ result_ok r → m ≡ n
ok_some (Ok k) m n is some = cc
ok_some (Err e) m n is some = absurd (cc)

abbrev pub IsByte : ℕ → Type 0
IsByte n = n < 256

-- ---- the first dot

-- digits have no dot
dot_at : (ds rest : List ℕ) → AllDigits 10 ds → position_or_len (λ b. b == 46) (ds ++ 46 ∷ rest) ≡ length ds
dot_at [] rest all = refl
dot_at (d ∷ ds) rest all =
    let range = digit_at (d ∷ ds) 0 all (omega arith) in
    let other : d ≢ 46 = λ e. absurd (omega (arith, range.0, e)) in
    let ih = dot_at ds rest all.1 in
    rw (ne_eqb d 46 other) (omega (arith, ih))

digits : (n : ℕ) → n < 256 → AllDigits 10 (decimal n)
digits n small = (decimal_is_IsNumeral n (omega arith)).0.1

pub before_dot : (n : ℕ) (rest text : List ℕ) → n < 256 → text ≡ decimal n ++ 46 ∷ rest → before_first (λ b. b == 46) text ≡ decimal n
before_dot n rest text small is =
    ap (before_first (λ b. b == 46)) is
    ∙ ap (λ k. take k (decimal n ++ 46 ∷ rest)) (dot_at (decimal n) rest (digits n small))
    ∙ take-append_seam (decimal n) (46 ∷ rest)

pub after_dot : (n : ℕ) (rest text : List ℕ) → n < 256 → text ≡ decimal n ++ 46 ∷ rest → after_first (λ b. b == 46) text ≡ rest
after_dot n rest text small is =
    ap (after_first (λ b. b == 46)) is
    ∙ ap (λ k. drop (k + 1) (decimal n ++ 46 ∷ rest)) (dot_at (decimal n) rest (digits n small))
    ∙ drop-append-add (decimal n) (46 ∷ rest) 1

-- a text with no dot begins with no number and a dot
pub no_dot : (text : List ℕ) → position_or_len (λ b. b == 46) text ≡ length text → (n : ℕ) (rest : List ℕ) → n < 256 → text ≡ decimal n ++ 46 ∷ rest → ⊥
no_dot text none n rest small is =
    let place : position_or_len (λ b. b == 46) text ≡ length (decimal n) = ap (position_or_len (λ b. b == 46)) is ∙ dot_at (decimal n) rest (digits n small) in
    let size : length text ≡ length (decimal n) + suc (length rest) = ap length is ∙ length-append (decimal n) (46 ∷ rest) in
    absurd (omega (arith, place, size, none))

-- ---- numbers with dots between

-- the text is so many numbers of a byte, with a dot between two
pub record IsDotted (count : ℕ) (text : List ℕ) : Type 0 where
  pub numbers : List ℕ
  pub many : length numbers ≡ count
  pub bytes : All (λ n. n < 256) numbers
  pub is : text ≡ dotted numbers

-- the numbers behind the first
pub dotted_behind : (k m : ℕ) (text rest : List ℕ) → IsDotted (suc (suc k)) text → (m < 256) × IsNumberBefore text m rest → IsDotted (suc k) rest
dotted_behind k m text rest d begins = of d.numbers d.many d.bytes d.is
  where
    of : (ns : List ℕ) → length ns ≡ suc (suc k) → All (λ n. n < 256) ns → text ≡ dotted ns → IsDotted (suc k) rest
    of [] many bytes is = absurd (omega arith)
    of (n ∷ []) many bytes is = absurd (omega arith)
    of (n ∷ p ∷ ns) many bytes is = record {
      numbers = p ∷ ns;
      many = omega arith;
      bytes = All-tail IsByte n (p ∷ ns) bytes;
      is = sym (after_dot m rest text begins.0 begins.1) ∙ after_dot n (dotted (p ∷ ns)) text (All-head IsByte n (p ∷ ns) bytes) is;
    }

pub none_first : (k : ℕ) (text : List ℕ) → IsDotted (suc (suc k)) text → ((n : ℕ) (rest : List ℕ) → n < 256 → IsNumberBefore text n rest → ⊥) → ⊥
none_first k text d none = of d.numbers d.many d.bytes d.is
  where
    of : (ns : List ℕ) → length ns ≡ suc (suc k) → All (λ n. n < 256) ns → text ≡ dotted ns → ⊥
    of [] many bytes is = absurd (omega arith)
    of (n ∷ []) many bytes is = absurd (omega arith)
    of (n ∷ p ∷ ns) many bytes is = none n (dotted (p ∷ ns)) (All-head IsByte n (p ∷ ns) bytes) is

pub none_last : (text : List ℕ) → IsDotted 1 text → ((n : ℕ) → n < 256 → text ≡ decimal n → ⊥) → ⊥
none_last text d none = of d.numbers d.many d.bytes d.is
  where
    of : (ns : List ℕ) → length ns ≡ 1 → All (λ n. n < 256) ns → text ≡ dotted ns → ⊥
    of [] many bytes is = absurd (omega arith)
    of (n ∷ []) many bytes is = none n (All-head IsByte n [] bytes) is
    of (n ∷ p ∷ ns) many bytes is = absurd (omega arith)

-- the numbers of an address: six of a byte
pub six_many : (a : AddressValue) → IsAddress a → length (a.host ++ (a.port / 256) ∷ (a.port % 256) ∷ []) ≡ 6
six_many a good = omega (arith, length-append a.host ((a.port / 256) ∷ (a.port % 256) ∷ []), good.four)

pub six_bytes : (a : AddressValue) → IsAddress a → All IsByte (a.host ++ (a.port / 256) ∷ (a.port % 256) ∷ [])
six_bytes a good =
    All-append IsByte a.host (a.port / 256 ∷ a.port % 256 ∷ []) good.bytes (All-cons IsByte (a.port / 256) (a.port % 256 ∷ []) high (All-cons IsByte (a.port % 256) [] low (All-nil IsByte)))
  where
    high : a.port / 256 < 256
    high = let small = good.number in omega arith

    low : a.port % 256 < 256
    low = omega arith

pub six : (text : List ℕ) (a : AddressValue) → IsAddress a → text ≡ address_text a → IsDotted 6 text
six text a good is = record {
  numbers = a.host ++ (a.port / 256) ∷ (a.port % 256) ∷ [];
  many = six_many a good;
  bytes = six_bytes a good;
  is = is;
}
