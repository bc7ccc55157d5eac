-- How pieces are cut out of a text.
use Rattle.std.proofs.Common.{◌≡◌, ◌≢◌, ℕ, zero, suc, ◌+◌, ◌<◌, ◌≤◌, ◌==◌, true, false, List, [], ◌∷◌, ◌++◌, length, take, drop, get_or, Option, Some, None, is_some, cond, nat_le, ◌&&◌, ◌^◌, refl, sym, ap, ◌∙◌, arith, append_assoc, eqb}
use Rattle.std.proofs.lemmas.Bool.{eq-eqb, eqb-true, ne_eqb, cond-true, cond-false, lt-leb, le-leb, le-ltb, lt-ltb}
use Rattle.memchr.specs.Find.{IsFirstByte, is_byte}
use Rattle.cluster_model.specs.declared.piece.Piece.{Piece}
use Rattle.line_runs.specs.Lines.{onto_first}
use Rattle.std.specs.Prelude.{decimal, IfSome, IfNone}
use Rattle.std.specs.Str.{bytes_eq}
use Rattle.ff_script.specs.Pieces.{◌>>=◌, decimal_value, decimal_at, parts, piece_from, piece_at, pieces_from, pieces_at, listed, all_listed, spelled_pieces}

-- ---- parts between separators

parts_nil : (sep : ℕ) → parts sep [] ≡ [] ∷ []
unfolding parts
parts_nil sep = refl

parts_sep : (sep b : ℕ) (bs : List ℕ) → b ≡ sep → parts sep (b ∷ bs) ≡ [] ∷ parts sep bs
unfolding parts
parts_sep sep b bs is = cond-true (eqb b sep) _ _ (eq-eqb b sep is)

parts_other : (sep b : ℕ) (bs : List ℕ) → b ≢ sep → parts sep (b ∷ bs) ≡ onto_first b (parts sep bs)
unfolding parts
parts_other sep b bs not = cond-false (eqb b sep) _ _ (ne_eqb b sep not)

-- by the place of the first separator
parts_at : (sep k : ℕ) (bs : List ℕ) → k < length bs → ((j : ℕ) → j < k → get_or bs j 0 ≢ sep) → get_or bs k 0 ≡ sep
    → parts sep bs ≡ take k bs ∷ parts sep (drop (suc k) bs)
parts_at sep k [] within none is = absurd (omega arith)
parts_at sep zero (b ∷ bs) within none is = parts_sep sep b bs is
parts_at sep (suc k) (b ∷ bs) within none is =
    parts_other sep b bs (none 0 (omega arith)) ∙ ap (onto_first b) (parts_at sep k bs (omega arith) (λ j below. none (suc j) (omega arith)) is)

parts_none : (sep : ℕ) (bs : List ℕ) → ((j : ℕ) → j < length bs → get_or bs j 0 ≢ sep) → parts sep bs ≡ bs ∷ []
parts_none sep [] none = parts_nil sep
parts_none sep (b ∷ bs) none =
    parts_other sep b bs (none 0 (omega arith)) ∙ ap (onto_first b) (parts_none sep bs (λ j below. none (suc j) (omega arith)))

-- the same, of what a search for the first separator found
pub parts_found : (sep at : ℕ) (bs : List ℕ) → IsFirstByte (is_byte sep) bs (Some at) → parts sep bs ≡ take at bs ∷ parts sep (drop (at + 1) bs)
parts_found sep at bs found =
    let next : suc at ≡ at + 1 = omega arith in
    parts_at sep at bs found.0.high (λ j below is. found.0.before j (omega arith) below (eq-eqb _ sep is)) (eqb-true _ sep found.1)
    ∙ ap (λ k. take at bs ∷ parts sep (drop k bs)) next

pub parts_not_found : (sep : ℕ) (bs : List ℕ) → IsFirstByte (is_byte sep) bs None → parts sep bs ≡ bs ∷ []
parts_not_found sep bs found = parts_none sep bs (λ j below is. found j (omega arith) below (eq-eqb _ sep is))

-- there is a part
onto_first-some : (b : ℕ) (texts : List (List ℕ)) → onto_first b texts ≡ [] → ⊥
onto_first-some b [] h = cc
onto_first-some b (text ∷ texts) h = cc

-- ---- a piece

pub piece_one : (text : List ℕ) → parts 58 text ≡ text ∷ [] → piece_at text ≡ None
unfolding piece_at
piece_one text whole = ap piece_from whole

pub piece_two : (text f rest : List ℕ) → parts 58 text ≡ f ∷ parts 58 rest → parts 58 rest ≡ rest ∷ [] → piece_at text ≡ None
unfolding piece_at
piece_two text f rest one two = ap piece_from (one ∙ ap (λ l. f ∷ l) two)

pub piece_three : (text f rest i more : List ℕ) → parts 58 text ≡ f ∷ parts 58 rest → parts 58 rest ≡ i ∷ parts 58 more → parts 58 more ≡ more ∷ [] → piece_at text ≡ None
unfolding piece_at
piece_three text f rest i more one two three = ap piece_from (one ∙ ap (λ l. f ∷ l) (two ∙ ap (λ l. i ∷ l) three))

pub piece_four : (text f rest i more a n : List ℕ) → parts 58 text ≡ f ∷ parts 58 rest → parts 58 rest ≡ i ∷ parts 58 more → parts 58 more ≡ a ∷ parts 58 n
    → parts 58 n ≡ n ∷ [] → piece_at text ≡ piece_from (f ∷ i ∷ a ∷ n ∷ [])
unfolding piece_at
piece_four text f rest i more a n one two three four =
    ap piece_from (one ∙ ap (λ l. f ∷ l) (two ∙ ap (λ l. i ∷ l) (three ∙ ap (λ l. a ∷ l) four)))

five : (f i a n : List ℕ) (texts : List (List ℕ)) → (texts ≡ [] → ⊥) → piece_from (f ∷ i ∷ a ∷ n ∷ texts) ≡ None
five f i a n [] some = absurd (some refl)
five f i a n (text ∷ texts) some = refl

pub parts_some : (sep : ℕ) (bs : List ℕ) → parts sep bs ≡ [] → ⊥
unfolding parts
parts_some sep [] h = cc
parts_some sep (b ∷ bs) h =
    elim (eqb b sep) as (λ c. cond c ([] ∷ parts sep bs) (onto_first b (parts sep bs)) ≡ [] → ⊥) [
      | true ↦ λ e. cc
      | false ↦ λ e. onto_first-some b (parts sep bs) e
    ] h

pub piece_more : (text f rest i more a n c d : List ℕ) → parts 58 text ≡ f ∷ parts 58 rest → parts 58 rest ≡ i ∷ parts 58 more → parts 58 more ≡ a ∷ parts 58 n
    → parts 58 n ≡ c ∷ parts 58 d → piece_at text ≡ None
unfolding piece_at
piece_more text f rest i more a n c d one two three four =
    ap piece_from (one ∙ ap (λ l. f ∷ l) (two ∙ ap (λ l. i ∷ l) (three ∙ ap (λ l. a ∷ l) four))) ∙ five f i a c (parts 58 d) (parts_some 58 d)

-- ---- pieces

-- a piece in front of pieces, where both are there
abbrev pub onto_pieces : Option Piece → Option (List Piece) → Option (List Piece)
onto_pieces None pieces = None
onto_pieces (Some p) None = None
onto_pieces (Some p) (Some pieces) = Some (p ∷ pieces)

onto_is : (piece : Option Piece) (pieces : Option (List Piece)) → (piece >>= λ p. pieces >>= λ ps. Some (p ∷ ps)) ≡ onto_pieces piece pieces
onto_is None pieces = refl
onto_is (Some p) None = refl
onto_is (Some p) (Some pieces) = refl

pub pieces_cut : (text part rest : List ℕ) → parts 44 text ≡ part ∷ parts 44 rest → pieces_at text ≡ onto_pieces (piece_at part) (pieces_at rest)
unfolding pieces_at
pieces_cut text part rest is = ap pieces_from is ∙ onto_is (piece_at part) (pieces_from (parts 44 rest))

pub pieces_last : (text : List ℕ) → parts 44 text ≡ text ∷ [] → pieces_at text ≡ onto_pieces (piece_at text) (Some [])
unfolding pieces_at
pieces_last text is = ap pieces_from is ∙ onto_is (piece_at text) (Some [])

-- ---- numbers

pub number_long : (text : List ℕ) → 10 < length text → decimal_at text ≡ None
unfolding decimal_at
number_long text long = rw (lt-leb (length text) 10 long) refl

pub number_big : (text : List ℕ) → 2 ^ 32 ≤ decimal_value 0 text → decimal_at text ≡ None
unfolding decimal_at
number_big text big =
    rw (le-ltb (decimal_value 0 text) (2 ^ 32) big) (elim (nat_le (length text) 10) as (λ b. cond (b && false && bytes_eq (decimal (decimal_value 0 text)) text) (Some (decimal_value 0 text)) None ≡ None) [ true ↦ refl | false ↦ refl ])

pub number_fits : (text : List ℕ) → length text ≤ 10 → decimal_value 0 text < 2 ^ 32
    → decimal_at text ≡ cond (bytes_eq (decimal (decimal_value 0 text)) text) (Some (decimal_value 0 text)) None
unfolding decimal_at
number_fits text short fits = rw (le-leb (length text) 10 short, lt-ltb (decimal_value 0 text) (2 ^ 32) fits) refl

-- ---- what a cut shows

pub cut_some : {A : Type 0} (r : Option A) (F : A → Type 0) → IfSome r F → is_some r ≡ true → (a : A) × F a
cut_some None F h is = absurd (cc)
cut_some (Some a) F h is = (a, h)

pub cut_none : {A : Type 0} {P : Type 0} (r : Option A) → IfNone r P → is_some r ≡ false → P
cut_none None h is = h
cut_none (Some a) h is = absurd (cc)

-- ---- pieces, step by step

pub none_of_pieces : (piece : Option Piece) (pieces : Option (List Piece)) → is_some piece ≡ false → is_some (onto_pieces piece pieces) ≡ false
none_of_pieces None pieces is = refl
none_of_pieces (Some p) pieces is = absurd (cc)

pub some_of_pieces : (piece : Option Piece) (pieces : Option (List Piece)) → is_some piece ≡ true → is_some (onto_pieces piece pieces) ≡ is_some pieces
some_of_pieces None pieces is = absurd (cc)
some_of_pieces (Some p) None is = refl
some_of_pieces (Some p) (Some pieces) is = refl

pub last_of_pieces : (piece : Option Piece) → is_some (onto_pieces piece (Some [])) ≡ is_some piece
last_of_pieces None = refl
last_of_pieces (Some p) = refl

-- one piece was listed, and the others are left
pub moves : (done all left : List Piece) (piece : Option Piece) (pieces : Option (List Piece)) → onto_pieces piece pieces ≡ Some left → done ++ left ≡ all
    → (rest : List Piece) × (pieces ≡ Some rest) × ((done ++ listed piece) ++ rest ≡ all)
moves done all left None pieces is whole = absurd (cc)
moves done all left (Some p) None is whole = absurd (cc)
moves done all left (Some p) (Some rest) is whole =
    let same : p ∷ rest ≡ left = cc in (rest, refl, append_assoc done (p ∷ []) rest ∙ ap (λ l. done ++ l) same ∙ whole)

pub last_moves : (done all left : List Piece) (piece : Option Piece) → onto_pieces piece (Some []) ≡ Some left → done ++ left ≡ all → done ++ listed piece ≡ all
last_moves done all left None is whole = absurd (cc)
last_moves done all left (Some p) is whole = let same : p ∷ [] ≡ left = cc in ap (λ l. done ++ l) same ∙ whole

pub empty_text : (s : List ℕ) → true ≡ (length s == 0) → s ≡ []
empty_text [] h = refl
empty_text (c ∷ s) h = let none : length (c ∷ s) ≡ 0 = eqb-true (length (c ∷ s)) 0 (sym h) in absurd (omega arith)

pub all_of_empty : spelled_pieces [] ≡ []
all_of_empty = ap all_listed (pieces_last [] (parts_nil 44) ∙ ap (λ p. onto_pieces p (Some [])) (piece_one [] (parts_nil 58)))

pub spelled_some : (text : List ℕ) → is_some (pieces_at text) ≡ true → pieces_at text ≡ Some (spelled_pieces text)
spelled_some text is = of (pieces_at text) is
  where
    of : (o : Option (List Piece)) → is_some o ≡ true → o ≡ Some (all_listed o)
    of None h = absurd (cc)
    of (Some pieces) h = refl
