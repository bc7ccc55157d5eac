-- The address that a text is.
use Rattle.std.proofs.Common.{◌≡◌, ◌≢◌, ℕ, ◌+◌, ◌*◌, ◌/◌, ◌%◌, ◌<◌, Bool, true, false, cond, List, [], ◌∷◌, ◌++◌, length, map, Option, Some, None, refl, sym, ap, ◌∙◌, arith}
use Rattle.std.specs.Prelude.{decimal, nat_lt, ◌&&◌, MatchOption}
use Rattle.std.specs.List.{All}
use Rattle.std.specs.Str.Parse.{AllDigits, digits_value}
use Rattle.std.proofs.lemmas.Bool.{lt-ltb, ltb-true, ne_eqb, and_parts}
use Rattle.std.proofs.lemmas.Fmt.{decimal_is_IsNumeral}
use Rattle.std.proofs.lemmas.List.Elements.{All-head, All-tail, All-nil, All-cons}
use Rattle.std.proofs.lemmas.Slice.Eq.{bytes_eq-Decides}
use Rattle.std.proofs.lemmas.Str.Parse.{digit_at}
use Rattle.device_addr.specs.declared.net_addr.NetAddr.{NetAddr}
use Rattle.device_addr.specs.Universal.{AddressValue, IsAddress, dotted, address_text, address_value}
use Rattle.device_addr.proofs.AddressLemmas.{IsByte, six_bytes}
use Rattle.client_file_calls.specs.MdsDevices.{onto_part, dot_parts, address_of_parts, is_text_of, are_bytes, spelled_address, universal_address}

-- ---- the parts between dots

no_dot : (d : ℕ) (ds : List ℕ) → AllDigits 10 (d ∷ ds) → d ≢ 46
no_dot d ds all = let range = digit_at (d ∷ ds) 0 all (omega arith) in λ e. absurd (omega (arith, range.0, e))

parts_behind : (ds rest : List ℕ) → AllDigits 10 ds → dot_parts (ds ++ 46 ∷ rest) ≡ ds ∷ dot_parts rest
parts_behind [] rest all = refl
parts_behind (d ∷ ds) rest all = rw (ne_eqb d 46 (no_dot d ds all)) (ap (onto_part d) (parts_behind ds rest all.1))

parts_last : (ds : List ℕ) → AllDigits 10 ds → dot_parts ds ≡ ds ∷ []
parts_last [] all = refl
parts_last (d ∷ ds) all = rw (ne_eqb d 46 (no_dot d ds all)) (ap (onto_part d) (parts_last ds all.1))

digits : (n : ℕ) → n < 256 → AllDigits 10 (decimal n)
digits n small = (decimal_is_IsNumeral n (omega arith)).0.1

value : (n : ℕ) → n < 256 → digits_value 10 (decimal n) ≡ n
value n small = (decimal_is_IsNumeral n (omega arith)).1

parts_are : (n : ℕ) (ns : List ℕ) → All IsByte (n ∷ ns) → dot_parts (dotted (n ∷ ns)) ≡ map decimal (n ∷ ns)
parts_are n [] bytes = parts_last (decimal n) (digits n (All-head IsByte n [] bytes))
parts_are n (m ∷ ns) bytes =
    parts_behind (decimal n) (dotted (m ∷ ns)) (digits n (All-head IsByte n (m ∷ ns) bytes))
    ∙ ap (λ (ps : List (List ℕ)). decimal n ∷ ps) (parts_are m ns (All-tail IsByte n (m ∷ ns) bytes))

-- ---- the text of an address

six_again : (a b c d h l port : ℕ) → All IsByte (a ∷ b ∷ c ∷ d ∷ h ∷ l ∷ []) → h * 256 + l ≡ port
    → address_of_parts (map decimal (a ∷ b ∷ c ∷ d ∷ h ∷ l ∷ [])) ≡ Some (record { host = a ∷ b ∷ c ∷ d ∷ []; port = port })
six_again a b c d h l port bytes is =
    let bytes1 = All-tail IsByte a (b ∷ c ∷ d ∷ h ∷ l ∷ []) bytes in
    let bytes2 = All-tail IsByte b (c ∷ d ∷ h ∷ l ∷ []) bytes1 in
    let bytes3 = All-tail IsByte c (d ∷ h ∷ l ∷ []) bytes2 in
    let bytes4 = All-tail IsByte d (h ∷ l ∷ []) bytes3 in
    let bytes5 = All-tail IsByte h (l ∷ []) bytes4 in
    let first = value a (All-head IsByte a (b ∷ c ∷ d ∷ h ∷ l ∷ []) bytes) in
    let second = value b (All-head IsByte b (c ∷ d ∷ h ∷ l ∷ []) bytes1) in
    let third = value c (All-head IsByte c (d ∷ h ∷ l ∷ []) bytes2) in
    let fourth = value d (All-head IsByte d (h ∷ l ∷ []) bytes3) in
    let high = value h (All-head IsByte h (l ∷ []) bytes4) in
    let low = value l (All-head IsByte l [] bytes5) in
    let number : digits_value 10 (decimal h) * 256 + digits_value 10 (decimal l) ≡ port = omega (arith, high, low, is) in
    λ i. Some (record { host = first i ∷ second i ∷ third i ∷ fourth i ∷ []; port = number i })

parts_again : (host : List ℕ) (port : ℕ) → length host ≡ 4 → All IsByte (host ++ (port / 256) ∷ (port % 256) ∷ [])
    → address_of_parts (dot_parts (dotted (host ++ (port / 256) ∷ (port % 256) ∷ []))) ≡ Some (record { host = host; port = port })
parts_again [] port four bytes = absurd (omega arith)
parts_again (a ∷ []) port four bytes = absurd (omega arith)
parts_again (a ∷ b ∷ []) port four bytes = absurd (omega arith)
parts_again (a ∷ b ∷ c ∷ []) port four bytes = absurd (omega arith)
parts_again (a ∷ b ∷ c ∷ d ∷ []) port four bytes =
    ap address_of_parts (parts_are a (b ∷ c ∷ d ∷ (port / 256) ∷ (port % 256) ∷ []) bytes)
    ∙ six_again a b c d (port / 256) (port % 256) port bytes (omega arith)
parts_again (a ∷ b ∷ c ∷ d ∷ e ∷ rest) port four bytes = absurd (omega arith)

bytes_test : (ns : List ℕ) → All IsByte ns → are_bytes ns ≡ true
bytes_test [] bytes = refl
bytes_test (n ∷ ns) bytes = rw (lt-ltb n 256 (All-head IsByte n ns bytes)) (bytes_test ns (All-tail IsByte n ns bytes))

bytes_from : (ns : List ℕ) → are_bytes ns ≡ true → All IsByte ns
bytes_from [] test = All-nil IsByte
bytes_from (n ∷ ns) test =
    let both = and_parts (nat_lt n 256) (are_bytes ns) test in
    All-cons IsByte n ns (ltb-true n 256 both.0) (bytes_from ns both.1)

address_again : (text : List ℕ) (a : NetAddr) → IsAddress (address_value a) → text ≡ address_text (address_value a) → Some a ≡ universal_address text
address_again text a good is =
    let found : address_of_parts (dot_parts text) ≡ Some a = ap (λ (t : List ℕ). address_of_parts (dot_parts t)) is ∙ parts_again a.host a.port good.four (six_bytes (address_value a) good) in
    let same : is_text_of text a ≡ true = (bytes_eq-Decides (address_text (address_value a)) text).1 (sym is) in
    let tests : spelled_address text (Some a) ≡ Some a = rw (bytes_test a.host good.bytes, lt-ltb a.port 65536 good.number, same) refl in
    sym (ap (spelled_address text) found ∙ tests)

-- ---- a text that is none of an address

abbrev HasFour : Option NetAddr → Type 0
HasFour None = Unit {0}
HasFour (Some a) = length a.host ≡ 4

has_four : (parts : List (List ℕ)) → HasFour (address_of_parts parts)
has_four (a ∷ b ∷ c ∷ d ∷ h ∷ l ∷ []) = refl
has_four parts = tt

none_spelled : (text : List ℕ) → ((a : AddressValue) → IsAddress a → text ≡ address_text a → ⊥) → (o : Option NetAddr) → HasFour o → None ≡ spelled_address text o
none_spelled text none None four = refl
none_spelled text none (Some a) four = by (are_bytes a.host) refl (nat_lt a.port 65536) refl (is_text_of text a) refl
  where
    by : (bytes : Bool) → are_bytes a.host ≡ bytes → (small : Bool) → nat_lt a.port 65536 ≡ small → (same : Bool) → is_text_of text a ≡ same
        → None ≡ cond (bytes && small && same) (Some a) None
    by true b true l true s =
        absurd (none (address_value a) (record { four = four; bytes = bytes_from a.host b; number = ltb-true a.port 65536 l }) (sym ((bytes_eq-Decides (address_text (address_value a)) text).0 s)))
    by true b true l false s = refl
    by true b false l same s = refl
    by false b small l same s = refl

pub address_is : (text : List ℕ) (r : Option NetAddr)
    → MatchOption r ((a : AddressValue) → IsAddress a → text ≡ address_text a → ⊥) (λ a. text ≡ address_text (address_value a))
    → MatchOption r (Unit {0}) (λ a. IsAddress (address_value a)) → r ≡ universal_address text
address_is text None says good = none_spelled text says (address_of_parts (dot_parts text)) (has_four (dot_parts text))
address_is text (Some a) says good = address_again text a good says
