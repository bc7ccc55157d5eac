-- How the text of an address is put together, and that it is told from others.
use Rattle.std.proofs.Common.{◌≡◌, ℕ, ◌+◌, ◌/◌, ◌%◌, ◌<◌, List, [], ◌∷◌, ◌++◌, length, take, drop, slice_index, Result, Ok, Err, refl, sym, ap, subst, ◌∙◌, append_assoc, append-nil, arith}
use Rattle.std.specs.Prelude.{decimal}
use Rattle.std.specs.List.{All, flat_map}
use Rattle.std.proofs.Math.Seq.{take-append_seam, drop-append-add}
use Rattle.std.proofs.lemmas.Fmt.{decimal_injective}
use Rattle.std.proofs.lemmas.List.Elements.{All-head, All-tail}
use Rattle.ff_xdr.specs.declared.error.NoMemory.{NoMemory}
use Rattle.ff_xdr.specs.Calls.{Grows}
use Rattle.device_addr.specs.Universal.{AddressValue, IsAddress, dotted, address_text}
use Rattle.device_addr.proofs.AddressLemmas.{IsByte, before_dot, after_dot, six_bytes, six_many}

-- ---- different addresses have different texts

same_byte : (m n : ℕ) → m < 256 → n < 256 → decimal m ≡ decimal n → m ≡ n
same_byte m n low small same = decimal_injective m n (omega (arith, low)) (omega (arith, small)) same

-- numbers with dots between are told by their text
same_numbers : (ms ns : List ℕ) → length ms ≡ length ns → All IsByte ms → All IsByte ns → dotted ms ≡ dotted ns → ms ≡ ns
same_numbers [] [] size bytes others same = refl
same_numbers [] (n ∷ ns) size bytes others same = absurd (omega arith)
same_numbers (m ∷ ms) [] size bytes others same = absurd (omega arith)
same_numbers (m ∷ []) (n ∷ []) size bytes others same =
    ap (λ k. k ∷ []) (same_byte m n (All-head IsByte m [] bytes) (All-head IsByte n [] others) same)
same_numbers (m ∷ []) (n ∷ q ∷ ns) size bytes others same = absurd (omega arith)
same_numbers (m ∷ p ∷ ms) (n ∷ []) size bytes others same = absurd (omega arith)
same_numbers (m ∷ p ∷ ms) (n ∷ q ∷ ns) size bytes others same =
    let text = dotted (m ∷ p ∷ ms) in
    let low = All-head IsByte m (p ∷ ms) bytes in
    let small = All-head IsByte n (q ∷ ns) others in
    let first : decimal m ≡ decimal n = sym (before_dot m (dotted (p ∷ ms)) text low refl) ∙ before_dot n (dotted (q ∷ ns)) text small same in
    let rest : dotted (p ∷ ms) ≡ dotted (q ∷ ns) = sym (after_dot m (dotted (p ∷ ms)) text low refl) ∙ after_dot n (dotted (q ∷ ns)) text small same in
    let number = same_byte m n low small first in
    let more = same_numbers (p ∷ ms) (q ∷ ns) (omega arith) (All-tail IsByte m (p ∷ ms) bytes) (All-tail IsByte n (q ∷ ns) others) rest in
    (λ i. number i ∷ more i)

-- a port by its two bytes
port_bytes : ℕ → List ℕ
port_bytes port = (port / 256) ∷ (port % 256) ∷ []

same_port : (p q : ℕ) → port_bytes p ≡ port_bytes q → p ≡ q
unfolding port_bytes
same_port p q same =
    let high : p / 256 ≡ q / 256 = cc same in
    let low : p % 256 ≡ q % 256 = cc same in
    omega (arith, high, low)

-- a list by its first four elements and what is behind them
same_front : (xs ys s t : List ℕ) → length xs ≡ length ys → xs ++ s ≡ ys ++ t → xs ≡ ys
same_front xs ys s t size same =
    sym (take-append_seam xs s) ∙ ap (take (length xs)) same ∙ ap (λ k. take k (ys ++ t)) size ∙ take-append_seam ys t

same_behind : (xs ys s t : List ℕ) → length xs ≡ length ys → xs ++ s ≡ ys ++ t → s ≡ t
same_behind xs ys s t size same =
    sym (drop-append-add xs s 0) ∙ ap (drop (length xs + 0)) same ∙ ap (λ k. drop (k + 0) (ys ++ t)) size ∙ drop-append-add ys t 0

pub same_address : (a b : AddressValue) → IsAddress a → IsAddress b → address_text a ≡ address_text b → a ≡ b
unfolding port_bytes
same_address a b good other same =
    let size = good.four ∙ sym other.four in
    let numbers = same_numbers (a.host ++ port_bytes a.port) (b.host ++ port_bytes b.port) (six_many a good ∙ sym (six_many b other)) (six_bytes a good) (six_bytes b other) same in
    let host = same_front a.host b.host (port_bytes a.port) (port_bytes b.port) size numbers in
    let port = same_port a.port b.port (same_behind a.host b.host (port_bytes a.port) (port_bytes b.port) size numbers) in
    (λ i. record { host = host i; port = port i })

-- ---- the text, number by number

-- the first number, and the others each behind a dot
dotted_more : (n : ℕ) (ns : List ℕ) → dotted (n ∷ ns) ≡ decimal n ++ flat_map (λ k. 46 ∷ decimal k) ns
dotted_more n [] = sym (append-nil (decimal n))
dotted_more n (m ∷ ns) = ap (λ l. decimal n ++ 46 ∷ l) (dotted_more m ns)

grows_numbers : (old mid new : List ℕ) (n : ℕ) (ns : List ℕ) (r : Result (Unit {0}) NoMemory) → mid ≡ old ++ decimal n → Grows mid r new (flat_map (λ k. 46 ∷ decimal k) ns)
    → Grows old r new (dotted (n ∷ ns))
grows_numbers old mid new n ns (Ok done) one more =
    more ∙ ap (λ l. l ++ flat_map (λ k. 46 ∷ decimal k) ns) one ∙ append_assoc old (decimal n) _ ∙ ap (λ l. old ++ l) (sym (dotted_more n ns))
grows_numbers old mid new n ns (Err e) one more =
    (decimal n ++ more.0, more.1 ∙ ap (λ l. l ++ more.0) one ∙ append_assoc old (decimal n) more.0)

-- the numbers that are put are those of the address
pub grows_address : (old mid new host ends : List ℕ) (port : ℕ) (r : Result (Unit {0}) NoMemory) → length host ≡ 4 → port < 65536 → ends ≡ (port / 256 % 256) ∷ (port % 256) ∷ []
    → mid ≡ old ++ decimal (slice_index host 0)
    → Grows mid r new (flat_map (λ k. 46 ∷ decimal k) (slice_index host 1 ∷ slice_index host 2 ∷ slice_index host 3 ∷ slice_index ends 0 ∷ slice_index ends 1 ∷ []))
    → Grows old r new (dotted (host ++ (port / 256) ∷ (port % 256) ∷ []))
grows_address old mid new [] ends port r four small are one more = absurd (omega arith)
grows_address old mid new (a ∷ []) ends port r four small are one more = absurd (omega arith)
grows_address old mid new (a ∷ b ∷ []) ends port r four small are one more = absurd (omega arith)
grows_address old mid new (a ∷ b ∷ c ∷ []) ends port r four small are one more = absurd (omega arith)
grows_address old mid new (a ∷ b ∷ c ∷ d ∷ []) ends port r four small are one more =
    let high : slice_index ends 0 ≡ port / 256 = ap (λ l. slice_index l 0) are ∙ omega (arith, small) in
    let low : slice_index ends 1 ≡ port % 256 = ap (λ l. slice_index l 1) are in
    let all = grows_numbers old mid new a (b ∷ c ∷ d ∷ slice_index ends 0 ∷ slice_index ends 1 ∷ []) r one more in
    subst (λ l. Grows old r new (dotted (a ∷ b ∷ c ∷ d ∷ l))) (λ i. high i ∷ low i ∷ []) all
grows_address old mid new (a ∷ b ∷ c ∷ d ∷ e ∷ rest) ends port r four small are one more = absurd (omega arith)
