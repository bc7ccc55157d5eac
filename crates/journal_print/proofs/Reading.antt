-- What a text was written of. Each reading gives back what was written, and makes up a value for any other text.
use Rattle.std.proofs.Common.{◌≡◌, ℕ, ◌+◌, ◌%◌, ◌<◌, ◌≤◌, ◌^◌, ◌==◌, nat_lt, eqb, Bool, true, false, cond, if◌then◌else◌, List, [], ◌∷◌, ◌++◌, drop, get_or, codes, map, Option, Some, None, refl, ap, ◌∙◌, arith, append_assoc}
use Rattle.std.specs.Prelude.{decimal}
use Rattle.std.specs.List.{list_all, AllByRecursion}
use Rattle.std.specs.Result.{result_unwrap_or}
use Rattle.std.specs.Str.{bytes_eq}
use Rattle.std.specs.Str.Parse.{digits_value}
use Rattle.std.proofs.lemmas.Bool.{and_parts, eq-eqb, ne_eqb}
use Rattle.std.proofs.lemmas.Bool.Decides.{nat_tests}
use Rattle.std.proofs.lemmas.List.Elements.{All-weaker}
use Rattle.std.proofs.lemmas.List.Folds.{list_all-append}
use Rattle.std.proofs.lemmas.List.Sums.{list_all-from_AllPass}
use Rattle.std.proofs.lemmas.Fmt.{decimal_by_steps, decimal_is_IsNumeral}
use Rattle.hex.specs.Hex.{IsBytes, encode_lower, decode_of, is_hex_digit}
use Rattle.hex.proofs.HexLemmas.{decode_of-encode_lower, decode_of-ok, decode_of-odd}
use Rattle.cluster_model.specs.declared.ids.NodeId.{NodeId}
use Rattle.cluster_model.specs.declared.ids.NodeId.TheVariants.{Mds, Server, Client}
use Rattle.cluster_model.specs.declared.ids.MirrorId.{MirrorId}
use Rattle.cluster_model.specs.declared.piece.Piece.{Piece}
use Rattle.cluster_model.specs.Wordings.{text_of_bytes, flag_text}
use Rattle.cluster_model.specs.Print.{node_text, mirror_text, joined, list_text, piece_text, pieces_text, mirrors_text, old_text}
use Rattle.cluster_model.specs.Prints.{Fits32, Fits64, FitsNode, FitsMirror, FitsOld, FitsPiece}

-- ---- which bytes a text has

-- each byte is above k
abbrev pub Above : ℕ → List ℕ → Type 0
Above k xs = list_all (nat_lt k) xs ≡ true

pub Above-append : (k : ℕ) (xs ys : List ℕ) → Above k xs → Above k ys → Above k (xs ++ ys)
Above-append k xs ys hx hy = list_all-append (nat_lt k) xs ys ∙ rw (hx, hy) refl

-- the same of a lower bound, and of joined texts
Above-weaker : (j k : ℕ) (xs : List ℕ) → j ≤ k → Above k xs → Above j xs
Above-weaker j k [] le h = refl
Above-weaker j k (x ∷ xs) le h =
    let both = and_parts (nat_lt k x) (list_all (nat_lt k) xs) h in
    let first : nat_lt j x ≡ true = grind (arith, nat_tests) in
    rw (first, Above-weaker j k xs le both.1) refl

Above-joined : (k sep : ℕ) → nat_lt k sep ≡ true → (w : List ℕ) (ws : List (List ℕ)) → AllByRecursion (Above k) (w ∷ ws) → Above k (joined sep (w ∷ ws))
Above-joined k sep lt w [] h = h.0
Above-joined k sep lt w (v ∷ vs) h = Above-append k w (sep ∷ joined sep (v ∷ vs)) h.0 (rw (lt, Above-joined k sep lt v vs h.1) refl)

Above-digit : (k n : ℕ) → k < 48 → n < 10 → Above k ((48 + n) ∷ [])
Above-digit k n h d = grind (arith, nat_tests)

pub Above-decimal : (k n : ℕ) → k < 48 → n < 2 ^ 64 → Above k (decimal n)
Above-decimal k n h =
    decimal_by_steps (λ m ds. Above k ds) (λ m d. Above-digit k m h d)
    (λ m ds big ih. Above-append k ds ((48 + m % 10) ∷ []) ih (Above-digit k (m % 10) h (omega arith))) n

-- a hexadecimal digit is no space
above_hex : (c : ℕ) → is_hex_digit c ≡ true → nat_lt 32 c ≡ true
above_hex c h = grind (arith, nat_tests)

Above-encode : (xs : List ℕ) → IsBytes xs → Above 32 (encode_lower xs)
Above-encode xs h =
    let digits = (decode_of-ok (encode_lower xs) xs (decode_of-encode_lower xs h)).1 in
    list_all-from_AllPass (nat_lt 32) (encode_lower xs)
    (All-weaker (λ c. is_hex_digit c ≡ true) (λ c. nat_lt 32 c ≡ true) above_hex (encode_lower xs) digits)

-- no byte is this one
abbrev Without : ℕ → List ℕ → Type 0
Without sep [] = Unit {0}
Without sep (b ∷ bs) = (eqb b sep ≡ false) × Without sep bs

Without-append : (sep : ℕ) (xs ys : List ℕ) → Without sep xs → Without sep ys → Without sep (xs ++ ys)
Without-append sep [] ys hx hy = hy
Without-append sep (x ∷ xs) ys hx hy = (hx.0, Without-append sep xs ys hx.1 hy)

Without-above : (k : ℕ) (xs : List ℕ) → Above k xs → Without k xs
Without-above k [] h = tt
Without-above k (x ∷ xs) h =
    let parts = and_parts (nat_lt k x) (list_all (nat_lt k) xs) h in (grind (arith, nat_tests), Without-above k xs parts.1)

-- no digit is a colon (58)
no_colon : (n : ℕ) → n < 10 → Without 58 ((48 + n) ∷ [])
no_colon n d = (ne_eqb (48 + n) 58 (omega arith), tt)

Without-decimal : (n : ℕ) → n < 2 ^ 64 → Without 58 (decimal n)
Without-decimal =
    decimal_by_steps (λ m ds. Without 58 ds) no_colon (λ m ds big ih. Without-append 58 ds ((48 + m % 10) ∷ []) ih (no_colon (m % 10) (omega arith)))

-- ---- parts of a text

-- a byte in front of the first text
abbrev onto_first : ℕ → List (List ℕ) → List (List ℕ)
onto_first b [] = (b ∷ []) ∷ []
onto_first b (text ∷ texts) = (b ∷ text) ∷ texts

-- the parts of a text between separators
abbrev parts : ℕ → List ℕ → List (List ℕ)
parts sep [] = [] ∷ []
parts sep (b ∷ bs) = if b == sep then [] ∷ parts sep bs else onto_first b (parts sep bs)

parts-last : (sep : ℕ) (w : List ℕ) → Without sep w → parts sep w ≡ w ∷ []
parts-last sep [] h = refl
parts-last sep (b ∷ bs) h = rw (h.0, parts-last sep bs h.1) refl

parts-more : (sep : ℕ) (w rest : List ℕ) → Without sep w → parts sep (w ++ sep ∷ rest) ≡ w ∷ parts sep rest
parts-more sep [] rest h = rw (eq-eqb sep sep refl) refl
parts-more sep (b ∷ bs) rest h = rw (h.0, parts-more sep bs rest h.1) refl

parts-joined : (sep : ℕ) (w : List ℕ) (ws : List (List ℕ)) → AllByRecursion (Without sep) (w ∷ ws) → parts sep (joined sep (w ∷ ws)) ≡ w ∷ ws
parts-joined sep w [] h = parts-last sep w h.0
parts-joined sep w (v ∷ vs) h = parts-more sep w (joined sep (v ∷ vs)) h.0 ∙ ap (λ l. w ∷ l) (parts-joined sep v vs h.1)

-- ---- numbers, bytes and machines

pub number_in : List ℕ → ℕ
number_in s = digits_value 10 s

pub number_again : (n : ℕ) → Fits64 n → number_in (decimal n) ≡ n
unfolding number_in
number_again n h = (decimal_is_IsNumeral n h).1

pub wide : (n : ℕ) → Fits32 n → Fits64 n
wide n h = omega (arith, h)

pub bytes_in : List ℕ → List ℕ
bytes_in s = result_unwrap_or (decode_of s) []

pub bytes_again : (xs : List ℕ) → IsBytes xs → bytes_in (text_of_bytes xs) ≡ xs
unfolding bytes_in
bytes_again [] h = ap (λ r. result_unwrap_or r []) (decode_of-odd (codes "-") refl)
bytes_again (x ∷ xs) h = ap (λ r. result_unwrap_or r []) (decode_of-encode_lower (x ∷ xs) h)

pub bytes_word : (xs : List ℕ) → IsBytes xs → Above 32 (text_of_bytes xs)
bytes_word [] h = refl
bytes_word (x ∷ xs) h = Above-encode (x ∷ xs) h

pub flag_in : List ℕ → Bool
flag_in s = bytes_eq s (codes "1")

pub flag_again : (b : Bool) → flag_in (flag_text b) ≡ b
unfolding flag_in
flag_again true = refl
flag_again false = refl

pub flag_word : (b : Bool) → Above 32 (flag_text b)
flag_word true = refl
flag_word false = refl

pub node_in : List ℕ → NodeId
node_in [] = Mds
node_in (c ∷ digits) = if c == 100 then Server (number_in digits) else if c == 99 then Client (number_in digits) else Mds

pub node_again : (n : NodeId) → FitsNode n → node_in (node_text n) ≡ n
unfolding node_in
node_again Mds h = refl
node_again (Server n) h = ap Server (number_again n (wide n h))
node_again (Client n) h = ap Client (number_again n (wide n h))

pub node_word : (n : NodeId) → FitsNode n → Above 32 (node_text n)
node_word Mds h = refl
node_word (Server n) h = Above-append 32 (codes "d") (decimal n) refl (Above-decimal 32 n (omega arith) (wide n h))
node_word (Client n) h = Above-append 32 (codes "c") (decimal n) refl (Above-decimal 32 n (omega arith) (wide n h))

-- ---- mirrors and pieces

-- a server behind its letter, and a number
abbrev mirror_from : List (List ℕ) → MirrorId
mirror_from texts = record { server = number_in (drop 1 (get_or texts 0 [])); fileid = number_in (get_or texts 1 []) }

pub mirror_in : List ℕ → MirrorId
mirror_in s = mirror_from (parts 46 s)

mirror_parts : (m : MirrorId) → FitsMirror m → parts 46 (mirror_text m) ≡ (100 ∷ decimal m.server) ∷ decimal m.fileid ∷ []
mirror_parts m h =
    let same : mirror_text m ≡ (100 ∷ decimal m.server) ++ 46 ∷ decimal m.fileid = ap (λ l. 100 ∷ l) (append_assoc (decimal m.server) (codes ".") (decimal m.fileid)) in
    let server = Without-above 46 (decimal m.server) (Above-decimal 46 m.server (omega arith) (wide m.server h.0)) in
    let fileid = Without-above 46 (decimal m.fileid) (Above-decimal 46 m.fileid (omega arith) h.1) in
    ap (parts 46) same ∙ parts-more 46 (100 ∷ decimal m.server) (decimal m.fileid) (refl, server)
    ∙ ap (λ l. (100 ∷ decimal m.server) ∷ l) (parts-last 46 (decimal m.fileid) fileid)

pub mirror_again : (m : MirrorId) → FitsMirror m → mirror_in (mirror_text m) ≡ m
unfolding mirror_in
mirror_again m h = ap mirror_from (mirror_parts m h) ∙ rw (number_again m.server (wide m.server h.0), number_again m.fileid h.1) refl

mirror_above : (m : MirrorId) → FitsMirror m → Above 45 (mirror_text m)
mirror_above m h =
    Above-append 45 (codes "d" ++ decimal m.server ++ codes ".") (decimal m.fileid)
    (Above-append 45 (codes "d" ++ decimal m.server) (codes ".") (Above-append 45 (codes "d") (decimal m.server) refl (Above-decimal 45 m.server (omega arith) (wide m.server h.0))) refl)
    (Above-decimal 45 m.fileid (omega arith) h.1)

pub mirror_word : (m : MirrorId) → FitsMirror m → Above 32 (mirror_text m)
mirror_word m h = Above-weaker 32 45 (mirror_text m) (omega arith) (mirror_above m h)

pub old_in : List ℕ → Option MirrorId
old_in s = if bytes_eq s (codes "-") then None else Some (mirror_in s)

pub old_again : (m : Option MirrorId) → FitsOld m → old_in (old_text m) ≡ m
unfolding old_in
old_again None h = refl
old_again (Some m) h = ap Some (mirror_again m h)

pub old_word : (m : Option MirrorId) → FitsOld m → Above 32 (old_text m)
old_word None h = refl
old_word (Some m) h = mirror_word m h

abbrev piece_from : List (List ℕ) → Piece
piece_from texts = record { fileid = number_in (get_or texts 0 []); index = number_in (get_or texts 1 []); from = number_in (get_or texts 2 []); count = number_in (get_or texts 3 []) }

piece_in : List ℕ → Piece
piece_in s = piece_from (parts 58 s)

piece_again : (p : Piece) → FitsPiece p → piece_in (piece_text p) ≡ p
unfolding piece_in
piece_again p h =
    let index = wide p.index h.1 in
    let from = wide p.from h.2 in
    let count = wide p.count h.3 in
    let apart : AllByRecursion (Without 58) (decimal p.fileid ∷ decimal p.index ∷ decimal p.from ∷ decimal p.count ∷ []) = (Without-decimal p.fileid h.0, (Without-decimal p.index index, (Without-decimal p.from from, (Without-decimal p.count count, tt)))) in
    ap piece_from (parts-joined 58 (decimal p.fileid) (decimal p.index ∷ decimal p.from ∷ decimal p.count ∷ []) apart)
    ∙ rw (number_again p.fileid h.0, number_again p.index index, number_again p.from from, number_again p.count count) refl

piece_above : (p : Piece) → FitsPiece p → Above 45 (piece_text p)
piece_above p h =
    Above-joined 45 58 refl (decimal p.fileid) (decimal p.index ∷ decimal p.from ∷ decimal p.count ∷ [])
    (Above-decimal 45 p.fileid (omega arith) h.0, (Above-decimal 45 p.index (omega arith) (wide p.index h.1), (Above-decimal 45 p.from (omega arith) (wide p.from h.2), (Above-decimal 45 p.count (omega arith) (wide p.count h.3), tt))))

-- ---- lists of what has a text above `-` (45)

list_in : {T : Type 0} → (List ℕ → T) → List ℕ → List T
list_in item s = if bytes_eq s (codes "-") then [] else map item (parts 44 s)

not_dash : (text : List ℕ) (rest : List (List ℕ)) → Above 45 text → bytes_eq (joined 44 (text ∷ rest)) (codes "-") ≡ false
not_dash [] [] h = refl
not_dash [] (t ∷ ts) h = refl
not_dash (b ∷ bs) [] h = let other : eqb b 45 ≡ false = (Without-above 45 (b ∷ bs) h).0 in rw other refl
not_dash (b ∷ bs) (t ∷ ts) h = let other : eqb b 45 ≡ false = (Without-above 45 (b ∷ bs) h).0 in rw other refl

module _ {T : Type 0} (Fits : T → Type 0) (text : T → List ℕ) (item : List ℕ → T) (above : (x : T) → Fits x → Above 45 (text x)) (again : (x : T) → Fits x → item (text x) ≡ x) where
  all_again : (xs : List T) → AllByRecursion Fits xs → map item (map text xs) ≡ xs
  all_again [] h = refl
  all_again (x ∷ xs) h = rw (again x h.0, all_again xs h.1) refl

  all_above : (k : ℕ) → k ≤ 45 → (xs : List T) → AllByRecursion Fits xs → AllByRecursion (Above k) (map text xs)
  all_above k small [] h = tt
  all_above k small (x ∷ xs) h = (Above-weaker k 45 (text x) small (above x h.0), all_above k small xs h.1)

  all_apart : (xs : List T) → AllByRecursion Fits xs → AllByRecursion (Without 44) (map text xs)
  all_apart [] h = tt
  all_apart (x ∷ xs) h = (Without-above 44 (text x) (Above-weaker 44 45 (text x) (omega arith) (above x h.0)), all_apart xs h.1)

  list_again : (xs : List T) → AllByRecursion Fits xs → list_in item (list_text (map text xs)) ≡ xs
  unfolding list_in
  list_again [] h = refl
  list_again (x ∷ xs) h =
      ap (λ b. cond b [] (map item (parts 44 (joined 44 (map text (x ∷ xs)))))) (not_dash (text x) (map text xs) (above x h.0))
      ∙ ap (map item) (parts-joined 44 (text x) (map text xs) (all_apart (x ∷ xs) h)) ∙ all_again (x ∷ xs) h

  list_word : (xs : List T) → AllByRecursion Fits xs → Above 32 (list_text (map text xs))
  list_word [] h = refl
  list_word (x ∷ xs) h = Above-joined 32 44 refl (text x) (map text xs) (all_above 32 (omega arith) (x ∷ xs) h)

pub mirrors_in : List ℕ → List MirrorId
mirrors_in s = list_in mirror_in s

pub mirrors_again : (ms : List MirrorId) → AllByRecursion FitsMirror ms → mirrors_in (mirrors_text ms) ≡ ms
unfolding mirrors_in
mirrors_again = list_again FitsMirror mirror_text mirror_in mirror_above mirror_again

pub mirrors_word : (ms : List MirrorId) → AllByRecursion FitsMirror ms → Above 32 (mirrors_text ms)
mirrors_word = list_word FitsMirror mirror_text mirror_in mirror_above mirror_again

pub pieces_in : List ℕ → List Piece
pieces_in s = list_in piece_in s

pub pieces_again : (ps : List Piece) → AllByRecursion FitsPiece ps → pieces_in (pieces_text ps) ≡ ps
unfolding pieces_in
pieces_again = list_again FitsPiece piece_text piece_in piece_above piece_again

pub pieces_word : (ps : List Piece) → AllByRecursion FitsPiece ps → Above 32 (pieces_text ps)
pieces_word = list_word FitsPiece piece_text piece_in piece_above piece_again
