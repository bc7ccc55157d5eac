-- A snapshot: the bodies that say what lasts of a server, from nothing.
use Rattle.std.specs.Prelude.{⊤, ◌≡◌, ℕ, zero, suc, ◌+◌, ◌*◌, ◌/◌, List, [], ◌∷◌, ◌++◌, length, map, take, drop, Some}
use Rattle.ff_xdr.specs.Form.{spelling}
use Rattle.cluster_model.specs.Content.{Pending}
use Rattle.cluster_model.specs.File.{StoredFile}
use Rattle.cluster_model.specs.Server.{ServerState}
use Rattle.ds_log.specs.Bodies.{Logged, Boots, HoldsBytes, HoldsFile, HoldsRoot, body_form, body_in, body_value}

-- ---- bodies as bytes

abbrev pub body_text : Logged → List ℕ
body_text body = spelling body_form (body_value body)

-- the bytes are those of the body, and are read as it
pub record IsBodyOf (bytes : List ℕ) (body : Logged) : Type 0 where
  pub text : bytes ≡ body_text body
  pub read : body_in bytes ≡ Some body

-- each of the one list are those of its body in the other
abbrev pub AreBodiesOf : List (List ℕ) → List Logged → Type 0
AreBodiesOf [] [] = ⊤
AreBodiesOf [] (body ∷ bodies) = ⊥
AreBodiesOf (bytes ∷ texts) [] = ⊥
AreBodiesOf (bytes ∷ texts) (body ∷ bodies) = IsBodyOf bytes body × AreBodiesOf texts bodies

-- ---- a snapshot

-- how many bytes of a file one body has at most; its chunks begin at multiples of it
abbrev pub chunk_size : ℕ
chunk_size = 1048576

abbrev pub chunk_at : List ℕ → ℕ → Pending
chunk_at bytes k = record { at = k * chunk_size; bytes = take chunk_size (drop (k * chunk_size) bytes) }

unfoldable pub first_chunks : List ℕ → ℕ → List Pending
first_chunks bytes zero = []
first_chunks bytes (suc n) = first_chunks bytes n ++ chunk_at bytes n ∷ []

-- how many chunks so many bytes are
abbrev pub chunk_count : ℕ → ℕ
chunk_count size = (size + 1048575) / chunk_size

-- bytes as chunks, the first first
abbrev pub chunks_of : List ℕ → List Pending
chunks_of bytes = first_chunks bytes (chunk_count (length bytes))

-- the bodies of a file's bytes
abbrev pub chunk_bodies : ℕ → StoredFile → List Logged
chunk_bodies fileid f = map (λ w. HoldsBytes fileid f.times.mtime f.times.ctime (w ∷ [])) (chunks_of f.content.stable)

abbrev pub file_body : ℕ → List ℕ → StoredFile → Logged
file_body fileid name f = HoldsFile name fileid f.owner f.group f.mode f.times

-- a file, and behind it its bytes
abbrev pub file_bodies : ℕ → List ℕ → StoredFile → List Logged
file_bodies fileid name f = file_body fileid name f ∷ chunk_bodies fileid f

-- files with their names, from this fileid on
abbrev pub files_bodies : ℕ → List (List ℕ) → List StoredFile → List Logged
files_bodies fileid [] files = []
files_bodies fileid (name ∷ names) [] = []
files_bodies fileid (name ∷ names) (f ∷ files) = file_bodies fileid name f ++ files_bodies (fileid + 1) names files

-- of a server that lasts
abbrev pub snapshot_of : ServerState → List Logged
snapshot_of s = Boots s.clock.boot ∷ HoldsRoot s.root ∷ files_bodies 2 s.names s.files
