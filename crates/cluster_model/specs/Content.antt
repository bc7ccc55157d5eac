-- The bytes of a data file: those that are stable, and the writes that are not yet (RFC 1813, sections 3.3.7 and 3.3.21).
use Rattle.std.specs.Prelude.{ℕ, ◌+◌, ◌-◌, nat_le, ◌==◌, if◌then◌else◌, List, [], ◌∷◌, ◌++◌, length, take, drop, replicate, filter, Option, Some, None, slice_get}
use Rattle.std.specs.List.{flat_map}
use Rattle.cluster_model.specs.declared.piece.Piece.{Piece}

-- bytes put at a place: the list grows where they need it, with zeros in a gap. With no bytes it stays
abbrev pub overlay : List ℕ → ℕ → List ℕ → List ℕ
overlay old at [] = old
overlay old at (b ∷ bytes) =
    take at old ++ replicate (at - length old) 0 ++ (b ∷ bytes) ++ drop (at + length (b ∷ bytes)) old

-- a write that is not yet stable
pub record Pending : Type 0 where
  pub at : ℕ
  pub bytes : List ℕ

-- the writes in order, the first first
abbrev pub overlay_all : List ℕ → List Pending → List ℕ
overlay_all old [] = old
overlay_all old (w ∷ ws) = overlay_all (overlay old w.at w.bytes) ws

pub record Content : Type 0 where
  pub stable : List ℕ
  pub pending : List Pending

abbrev pub no_content : Content
no_content = record { stable = []; pending = [] }

-- what a reader sees
abbrev pub shown_of : Content → List ℕ
shown_of c = overlay_all c.stable c.pending

-- a write of at least one byte joins the pending writes; one of no bytes changes nothing
abbrev pub joined : Content → ℕ → List ℕ → Content
joined c at [] = c
joined c at (b ∷ bytes) = record c { pending = c.pending ++ record { at = at; bytes = b ∷ bytes } ∷ [] }

-- all that is shown becomes stable
abbrev pub settled : Content → Content
settled c = record { stable = shown_of c; pending = [] }

-- What a restart keeps of a pending write: the bytes that a piece names, where all of them are bytes of that write.
abbrev pub piece_of : Piece → Option Pending → List Pending
piece_of p None = []
piece_of p (Some w) =
    if nat_le (p.from + p.count) (length w.bytes)
    then record { at = w.at + p.from; bytes = take p.count (drop p.from w.bytes) } ∷ []
    else []

abbrev pub kept_of : List Pending → List Piece → List Pending
kept_of pending pieces = flat_map (λ p. piece_of p (slice_get pending p.index)) pieces

-- The pieces reach the stable bytes in their order. Then nothing is pending.
abbrev pub survived : Content → List Piece → Content
survived c pieces = record { stable = overlay_all c.stable (kept_of c.pending pieces); pending = [] }

-- the pieces of one file
abbrev pub pieces_of : ℕ → List Piece → List Piece
pieces_of fileid pieces = filter (λ p. p.fileid == fileid) pieces
