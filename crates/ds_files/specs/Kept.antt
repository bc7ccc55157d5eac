-- What a restart keeps of each file, on its way.
use Rattle.std.specs.Prelude.{◌≡◌, ◌≢◌, ℕ, ◌+◌, ◌<◌, List, [], ◌∷◌, ◌++◌, length, Option, Some, None, slice_get}
use Rattle.cluster_model.specs.declared.piece.Piece.{Piece}
use Rattle.cluster_model.specs.Content.{Content, survived, pieces_of}
use Rattle.cluster_model.specs.File.{StoredFile}
use Rattle.data_file.specs.Kept.{kept_content, IsKeptOf, crashed}

-- what the disk of a file has, by what was kept for it
abbrev pub disk_of : StoredFile → Option Content → List ℕ
disk_of f kept = (kept_content f.content kept).stable

-- what was kept of each file is of it
pub record AreBounded (files : List StoredFile) (kept : List (Option Content)) : Type 0 where
  pub size : length kept ≡ length files
  pub each : (i : ℕ) (f : StoredFile) (k : Option Content) → slice_get files i ≡ Some f → slice_get kept i ≡ Some k → IsKeptOf f k

-- each file's disk has what these pieces have brought to it
abbrev pub AreKept : List StoredFile → List Piece → List (Option Content) → Type 0
AreKept files pieces kept = (i : ℕ) (f : StoredFile) (k : Option Content) → slice_get files i ≡ Some f → slice_get kept i ≡ Some k → disk_of f k ≡ (survived f.content (pieces_of (i + 2) pieces)).stable

-- one piece more
pub record KeepsPiece (files : List StoredFile) (piece : Piece) (old new : List (Option Content)) : Type 0 where
  pub bounded : AreBounded files new
  pub kept : (pieces : List Piece) → AreKept files pieces old → AreKept files (pieces ++ piece ∷ []) new

-- the file that a piece is of
abbrev pub IsOf : List StoredFile → Piece → Option ℕ → Type 0
IsOf files piece (Some index) = (index < length files) × (piece.fileid ≡ index + 2)
IsOf files piece None = (index : ℕ) → index < length files → piece.fileid ≢ index + 2

-- all files after a restart that left these disks
abbrev pub all_crashed : List StoredFile → List (Option Content) → List StoredFile
all_crashed (f ∷ files) (k ∷ kept) = crashed f (disk_of f k) ∷ all_crashed files kept
all_crashed _ _ = []
