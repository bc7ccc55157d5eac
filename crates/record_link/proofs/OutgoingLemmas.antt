-- Bytes that wait.
use Rattle.std.proofs.Common.{◌≡◌, ℕ, zero, suc, ◌+◌, ◌-◌, ◌≤◌, min, List, [], ◌∷◌, ◌++◌, length, take, drop, refl, sym, ap, ◌∙◌, arith, Option, Some, None, Result, Ok, Err, IfOk, append_assoc}
use Rattle.std.proofs.lemmas.List.{take_at, append-nil, length-append, length-take-le, length-drop, take-append-drop, take-append-le}
use Rattle.std.proofs.Math.Seq.{take-append-add}
use Rattle.record_link.specs.declared.stream.Halt.{Halt}
use Rattle.record_link.specs.declared.stream.Halt.TheVariants.{WouldBlock, Ended, Lost, NoMemory}
use Rattle.record_link.specs.Memory.{size_of}
use Rattle.record_link.specs.Stream.{Comes, ReadsStream, ReadsAt, gone_more}

pub gone_nil : (gone : Option (List ℕ)) → gone ≡ gone_more gone []
gone_nil None = refl
gone_nil (Some bytes) = ap Some (sym (append-nil bytes))

pub gone_gone : (gone : Option (List ℕ)) (xs ys : List ℕ) → gone_more (gone_more gone xs) ys ≡ gone_more gone (xs ++ ys)
gone_gone None xs ys = refl
gone_gone (Some bytes) xs ys = ap Some (append_assoc bytes xs ys)

-- some more of what waits went
pub more_went : (old now new went : List ℕ) (gone before after : Option (List ℕ)) (n : ℕ) → old ≡ went ++ now → before ≡ gone_more gone went → new ≡ drop n now → after ≡ gone_more before (take n now)
    → (went' : List ℕ) × (old ≡ went' ++ new) × (after ≡ gone_more gone went')
more_went old now new went gone before after n stands told rest more = (
  went ++ take n now,
  stands ∙ ap (λ l. went ++ l) (sym (take-append-drop n now)) ∙ sym (append_assoc went (take n now) (drop n now)) ∙ ap (λ l. (went ++ take n now) ++ l) (sym rest),
  more ∙ ap (λ g. gone_more g (take n now)) told ∙ gone_gone gone went (take n now),
)

-- a piece stands behind a list
pub stands_behind : (mark : ℕ) (old piece rest : List ℕ) (n : ℕ) → mark ≤ length old → n ≤ length piece → take (mark + n) (take mark old ++ (piece ++ rest)) ≡ take mark old ++ take n piece
stands_behind mark old piece rest n within some =
    let size : length (take mark old) ≡ mark = length-take-le mark old within in
    ap (λ (k : ℕ). take (k + n) (take mark old ++ (piece ++ rest))) (sym size)
    ∙ take-append-add (take mark old) (piece ++ rest) n
    ∙ ap (λ l. take mark old ++ l) (take-append-le n piece rest some)

-- what was read into a buffer stands there
module _ (mark : ℕ) (old piece rest : List ℕ) (within : mark ≤ length old) (size : length (take mark old ++ (piece ++ rest)) ≡ length old) (coming coming' : Option (List ℕ)) where
  before : take mark (take mark old ++ (piece ++ rest)) ≡ take mark old
  before = take_at (take mark old) (piece ++ rest) mark (length-take-le mark old within)

  fits : (n : ℕ) → n ≤ length piece → mark + n ≤ length (take mark old ++ (piece ++ rest))
  fits n some = omega (arith, some, length-append (take mark old) (piece ++ rest), length-append piece rest, length-take-le mark old within)

  pub reads_at : (r : Result ℕ Halt) → IfOk r (λ n. n ≤ length piece) → ReadsStream coming piece r coming' → ReadsAt mark old coming r (take mark old ++ (piece ++ rest)) coming'
  reads_at (Ok n) some came = (take n piece, length-take-le n piece some, stands_behind mark old piece rest n within some, fits n some, size, came)
  reads_at (Err Ended) some came = (before, came.0, came.1)
  reads_at (Err WouldBlock) some came = (before, came)
  reads_at (Err Lost) some came = (before, came)
  reads_at (Err NoMemory) some came = (before, came)

drop_none : (n : ℕ) → drop {A = ℕ} n [] ≡ []
drop_none zero = refl
drop_none (suc n) = refl

pub drop_add : (a b : ℕ) (xs : List ℕ) → drop (a + b) xs ≡ drop b (drop a xs)
drop_add zero b xs = let none : 0 + b ≡ b = omega arith in ap (λ (n : ℕ). drop n xs) none
drop_add (suc a) b [] = drop_none (suc a + b) ∙ sym (drop_none b)
drop_add (suc a) b (x ∷ xs) = let more : suc a + b ≡ suc (a + b) = omega arith in ap (λ (n : ℕ). drop n (x ∷ xs)) more ∙ drop_add a b xs

-- what was given from a place on
pub given_at : (bytes piece : List ℕ) (taken count : ℕ) → piece ≡ take count (drop taken bytes) → Comes (Some (drop taken bytes)) piece (Some (drop (taken + count) bytes))
given_at bytes piece taken count is =
    let more : drop (taken + count) bytes ≡ drop count (drop taken bytes) = drop_add taken count bytes in
    (drop (taken + count) bytes, sym (ap (λ l. l ++ drop (taken + count) bytes) is ∙ ap (λ l. take count (drop taken bytes) ++ l) more ∙ take-append-drop count (drop taken bytes)), refl)

size_le : (sizes : List ℕ) (most : ℕ) → size_of sizes most ≤ most
size_le [] most = omega arith
size_le (size ∷ sizes) most = omega arith

pub piece_is : (bytes copied more : List ℕ) (sizes : List ℕ) (room left most taken count : ℕ) → count ≡ size_of sizes most → most ≡ min room left → left ≡ length bytes - taken → copied ≡ take ((taken + count) - taken) (drop taken bytes)
    → take count (copied ++ more) ≡ take count (drop taken bytes)
piece_is bytes copied more sizes room left most taken count size least all is =
    let small : count ≤ left = omega (arith, size, least, size_le sizes most) in
    let same : (taken + count) - taken ≡ count = omega arith in
    let now : copied ≡ take count (drop taken bytes) = is ∙ ap (λ (n : ℕ). take n (drop taken bytes)) same in
    let long : length (take count (drop taken bytes)) ≡ count = length-take-le count (drop taken bytes) (omega (arith, small, all, length-drop taken bytes)) in
    take_at copied more count (ap length now ∙ long) ∙ now
