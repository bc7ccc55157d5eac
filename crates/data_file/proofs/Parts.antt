-- Some of the bytes that pages show, taken page by page.
use Rattle.std.proofs.Common.{◌≡◌, ℕ, ◌+◌, ◌-◌, ◌/◌, ◌%◌, ◌<◌, ◌≤◌, min, max, List, [], ◌++◌, length, take, drop, get_or, replicate, Some, None, Result, Ok, Err, refl, sym, ap, ◌∙◌, arith, ⊎_elim}
use Rattle.std.proofs.Math.Seq.{take-append_seam}
use Rattle.std.proofs.lemmas.Bool.{cases_lt}
use Rattle.std.proofs.lemmas.List.{ext_get_or, length-take, length-drop, append_assoc, length-append, take-take, length-replicate, get_or-replicate, get_or-take, get_or-drop, get_or_append_left, get_or-append_right}
use Rattle.std.specs.Prelude.{OnOk, OnErr}
use Rattle.ff_xdr.specs.Form.{word, padded, pad_len}
use Rattle.ff_xdr.specs.Calls.{Puts}
use Rattle.ff_xdr.specs.declared.error.NoMemory.{NoMemory}
use Rattle.file_pages.specs.Pages.{PagesValue, page_over, byte_in, byte_over, first_bytes, bytes_over}
use Rattle.file_pages.proofs.PageBytes.{length_first_bytes, get_first_bytes}
use Rattle.data_file.specs.Paged.{part_of}

-- what is asked for, and what of it there is
pub part_is : (xs : List ℕ) (at count from end : ℕ) → from ≡ min at (length xs) → end ≡ min (length xs) (from + count) → take (end - from) (drop from xs) ≡ take count (drop at xs)
part_is xs at count from end f e =
    let one : length (take (end - from) (drop from xs)) ≡ min (end - from) (length xs - from) = length-take (end - from) (drop from xs) ∙ ap (min (end - from)) (length-drop from xs) in
    let other : length (take count (drop at xs)) ≡ min count (length xs - at) = length-take count (drop at xs) ∙ ap (min count) (length-drop at xs) in
    ext_get_or 0 (take (end - from) (drop from xs)) (take count (drop at xs)) (omega (arith, one, other, f, e)) (λ i less.
    let same : from ≡ at = omega (arith, one, f, e, less) in
    get_or-take (end - from) (drop from xs) i 0 (omega (arith, one, less)) ∙ get_or-drop from xs i 0
    ∙ ap (λ n. get_or xs (n + i) 0) same
    ∙ sym (get_or-take count (drop at xs) i 0 (omega (arith, one, f, e, less)) ∙ get_or-drop at xs i 0))

pub part_length : (s d : PagesValue) (from end : ℕ) → end ≤ max s.size d.size → length (part_of s d from end) ≡ end - from
part_length s d from end within =
    let xs = bytes_over s d in
    let size = length_first_bytes (byte_over s.kept d.kept) (max s.size d.size) in
    let long : length (part_of s d from end) ≡ min (end - from) (length xs - from) = length-take (end - from) (drop from xs) ∙ ap (min (end - from)) (length-drop from xs) in
    omega (arith, size, long, within)

-- a byte of a part
part_byte : (s d : PagesValue) (from end i : ℕ) → end ≤ max s.size d.size → i < end - from → get_or (part_of s d from end) i 0 ≡ byte_over s.kept d.kept (from + i)
part_byte s d from end i within less =
    get_or-take (end - from) (drop from (bytes_over s d)) i 0 less
    ∙ get_or-drop from (bytes_over s d) i 0
    ∙ get_first_bytes (byte_over s.kept d.kept) (max s.size d.size) (from + i) 0 (omega (arith, within, less))

pub no_part : (s d : PagesValue) (from : ℕ) → part_of s d from from ≡ []
no_part s d from = let none : from - from ≡ 0 = omega arith in rw none refl

-- the bytes of a page, and the zeros of one that is not kept
pub page_piece : (page : List ℕ) (from count : ℕ) → from + count ≤ length page → take count (drop from page) ≡ first_bytes (λ i. byte_in (Some page) (from + i)) count
page_piece page from count within =
    let byte : ℕ → ℕ = λ i. byte_in (Some page) (from + i) in
    let long : length (take count (drop from page)) ≡ min count (length page - from) = length-take count (drop from page) ∙ ap (min count) (length-drop from page) in
    ext_get_or 0 (take count (drop from page)) (first_bytes byte count) (omega (arith, long, length_first_bytes byte count, within)) (λ i less.
    let small : i < count = omega (arith, less, long) in
    get_or-take count (drop from page) i 0 small ∙ get_or-drop from page i 0 ∙ sym (get_first_bytes byte count i 0 small))

pub zeros_piece : (from count : ℕ) → replicate count 0 ≡ first_bytes (λ i. byte_in None (from + i)) count
zeros_piece from count =
    let byte : ℕ → ℕ = λ i. byte_in None (from + i) in
    let zero_byte : ℕ = 0 in
    let long = length-replicate count zero_byte in
    ext_get_or 0 (replicate count 0) (first_bytes byte count) (long ∙ sym (length_first_bytes byte count)) (λ i less.
    let small : i < count = omega (arith, less, long) in
    get_or-replicate count i zero_byte zero_byte small ∙ sym (get_first_bytes byte count i 0 small))

pub shown_size : (s d : PagesValue) → length (bytes_over s d) ≡ max s.size d.size
shown_size s d = length_first_bytes (byte_over s.kept d.kept) (max s.size d.size)

-- ---- bytes as opaque data

pub padded_is : (bytes : List ℕ) → padded bytes ≡ bytes ++ replicate ((4 - length bytes % 4) % 4) 0
unfolding padded pad_len
padded_is bytes = refl

-- a front that stands before more stands in it
pub front_stands : (front more bytes : List ℕ) → take (length (front ++ more)) bytes ≡ front ++ more → take (length front) bytes ≡ front
front_stands front more bytes is =
    let size = length-append front more in
    sym (take-take (length front) (length (front ++ more)) bytes (omega (arith, size)))
    ∙ ap (take (length front)) is
    ∙ take-append_seam front more

pub spelled : (old numbered grown new bytes zeros : List ℕ) (result : Result (Unit {0}) NoMemory) → numbered ≡ old ++ word (length bytes) → grown ≡ numbered ++ bytes → zeros ≡ replicate ((4 - length bytes % 4) % 4) 0
    → Puts grown result new zeros → OnOk result (new ≡ old ++ word (length bytes) ++ padded bytes)
spelled old numbered grown new bytes zeros (Err e) n g z puts = tt
spelled old numbered grown new bytes zeros (Ok done) n g z puts =
    let pad : List ℕ = replicate ((4 - length bytes % 4) % 4) 0 in
    puts
    ∙ ap (λ (xs : List ℕ). xs ++ zeros) g
    ∙ ap (λ (xs : List ℕ). numbered ++ bytes ++ xs) z
    ∙ append_assoc numbered bytes pad
    ∙ ap (λ (xs : List ℕ). xs ++ (bytes ++ pad)) n
    ∙ ap (λ (xs : List ℕ). old ++ word (length bytes) ++ xs) (sym (padded_is bytes))

pub if_err : {T E P : Type 0} (result : Result T E) → P → OnErr result P
if_err (Ok value) p = tt
if_err (Err e) p = p

-- the bytes of one page that a part goes on with
pub part_on : (s d : PagesValue) (from at next : ℕ) → from ≤ at → at < next → next ≤ max s.size d.size → next ≤ at - at % 4096 + 4096
    → part_of s d from at ++ first_bytes (λ i. byte_in (page_over s.kept d.kept (at / 4096)) (at % 4096 + i)) (next - at) ≡ part_of s d from next
part_on s d from at next low more within same =
    let byte : ℕ → ℕ = λ i. byte_in (page_over s.kept d.kept (at / 4096)) (at % 4096 + i) in
    let front = part_length s d from at (omega (arith, more, within)) in
    let back = length_first_bytes byte (next - at) in
    let all = part_length s d from next within in
    let both = length-append (part_of s d from at) (first_bytes byte (next - at)) in
    ext_get_or 0 (part_of s d from at ++ first_bytes byte (next - at)) (part_of s d from next) (omega (arith, both, front, back, all, low, more)) (λ i less.
    ⊎_elim
    (λ before.
    get_or_append_left (part_of s d from at) (first_bytes byte (next - at)) 0 i (omega (arith, front, before))
    ∙ part_byte s d from at i (omega (arith, more, within)) before
    ∙ sym (part_byte s d from next i within (omega (arith, before, more))))
    (λ behind.
    let k : ℕ = i - (at - from) in
    let there : k < next - at = omega (arith, less, both, front, back, behind) in
    let page : (at + k) / 4096 ≡ at / 4096 = omega (arith, there, same) in
    let place : (at + k) % 4096 ≡ at % 4096 + k = omega (arith, there, same) in
    let is : at + k ≡ from + i = omega (arith, low, behind) in
    get_or-append_right (part_of s d from at) (first_bytes byte (next - at)) (at - from) i 0 front behind
    ∙ get_first_bytes byte (next - at) k 0 there
    ∙ ap (λ (n : ℕ). byte_in (page_over s.kept d.kept n) (at % 4096 + k)) (sym page)
    ∙ ap (λ (n : ℕ). byte_in (page_over s.kept d.kept ((at + k) / 4096)) n) (sym place)
    ∙ ap (byte_over s.kept d.kept) is
    ∙ sym (part_byte s d from next i within (omega (arith, less, both, front, back, low, more))))
    (cases_lt i (at - from)))
