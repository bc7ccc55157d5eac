-- Pieces of pending writes as text: `F:I:A:N`, with commas between two. F is the file, I the index of the write among the file's
-- pending ones, A its first byte that is meant, and N how many.
use Rattle.std.specs.Prelude.{◌≡◌, ◌⊎◌, true, ℕ, ◌+◌, ◌-◌, ◌*◌, ◌^◌, ◌&&◌, ◌==◌, nat_le, nat_lt, if◌then◌else◌, List, [], ◌∷◌, length, decimal, Option, Some, None, is_some}
use Rattle.std.specs.Str.{bytes_eq}
use Rattle.ff_script.specs.declared.pieces.TheConstants.{DIGITS}
use Rattle.cluster_model.specs.declared.piece.Piece.{Piece}
use Rattle.line_runs.specs.Lines.{onto_first}

infixl 10 ◌>>=◌
abbrev pub ◌>>=◌ : {A B : Type 0} → Option A → (A → Option B) → Option B
None >>= f = None
(Some a) >>= f = f a

-- what digits come to behind a number
abbrev pub decimal_value : ℕ → List ℕ → ℕ
decimal_value n [] = n
decimal_value n (c ∷ cs) = decimal_value (n * 10 + (c - 48)) cs

-- A number of at most ten digits and below 2^32: the text is its decimal, so it has no leading zero.
unfoldable pub decimal_at : List ℕ → Option ℕ
decimal_at text =
    let n = decimal_value 0 text in
    if nat_le (length text) DIGITS && nat_lt n (2 ^ 32) && bytes_eq (decimal n) text then Some n else None

-- the parts of a text between separators
unfoldable pub parts : ℕ → List ℕ → List (List ℕ)
parts sep [] = [] ∷ []
parts sep (b ∷ bs) = if b == sep then [] ∷ parts sep bs else onto_first b (parts sep bs)

-- four numbers with colons (58) between
abbrev pub piece_from : List (List ℕ) → Option Piece
piece_from (f ∷ i ∷ a ∷ n ∷ []) = do
  fileid ← decimal_at f
  index ← decimal_at i
  from ← decimal_at a
  count ← decimal_at n
  Some (record { fileid = fileid; index = index; from = from; count = count })
piece_from _ = None

unfoldable pub piece_at : List ℕ → Option Piece
piece_at text = piece_from (parts 58 text)

abbrev pub pieces_from : List (List ℕ) → Option (List Piece)
pieces_from [] = Some []
pieces_from (text ∷ texts) = do
  piece ← piece_at text
  pieces ← pieces_from texts
  Some (piece ∷ pieces)

-- one piece or more, with commas (44) between
unfoldable pub pieces_at : List ℕ → Option (List Piece)
pieces_at text = pieces_from (parts 44 text)

-- a piece, if there is one, as a list
abbrev pub listed : Option Piece → List Piece
listed None = []
listed (Some piece) = piece ∷ []

abbrev pub all_listed : Option (List Piece) → List Piece
all_listed None = []
all_listed (Some pieces) = pieces

-- the pieces that a text spells: none where it spells none
abbrev pub spelled_pieces : List ℕ → List Piece
spelled_pieces text = all_listed (pieces_at text)

-- the text is empty, or spells pieces
abbrev pub SpellsPieces : List ℕ → Type 0
SpellsPieces text = (text ≡ []) ⊎ (is_some (pieces_at text) ≡ true)
