-- What is left of a snapshot that is on the way.
use Rattle.std.specs.Prelude.{◌≡◌, ℕ, ◌+◌, List, [], ◌∷◌, ◌++◌, drop, Option, Some, None, Result, Ok, Err, slice_get}
use Rattle.ff_xdr.specs.declared.error.NoMemory.{NoMemory}
use Rattle.cluster_model.specs.File.{StoredFile}
use Rattle.cluster_model.specs.Server.{ServerState}
use Rattle.ds_log.specs.Bodies.{Logged, HoldsRoot}
use Rattle.ds_snapshot.specs.declared.snapshot.NextBody.{NextBody}
use Rattle.ds_snapshot.specs.declared.snapshot.NextBody.TheVariants as next
use Rattle.ds_snapshot.specs.Snapshots.{IsBodyOf, chunk_bodies, files_bodies, snapshot_of}

-- the bodies of the files from an index on
abbrev pub files_from : ServerState → ℕ → List Logged
files_from s index = files_bodies (index + 2) (drop index s.names) (drop index s.files)

-- those of the bytes of the file at an index, from a chunk on
abbrev pub chunks_from : ℕ → ℕ → Option StoredFile → List Logged
chunks_from index chunk None = []
chunks_from index chunk (Some f) = drop chunk (chunk_bodies (index + 2) f)

-- the bodies of a snapshot of a server that lasts, from the next one on
abbrev pub bodies_from : NextBody → ServerState → List Logged
bodies_from next.Boot s = snapshot_of s
bodies_from next.Root s = HoldsRoot s.root ∷ files_bodies 2 s.names s.files
bodies_from (next.File index) s = files_from s index
bodies_from (next.Chunk index chunk) s = chunks_from index chunk (slice_get s.files index) ++ files_from s (index + 1)

-- The first of those that were left, as bytes, and those that are left behind it; or none were left. At an error nothing is said.
abbrev pub GivesBody : List Logged → Result (Option (List ℕ)) NoMemory → List Logged → Type 0
GivesBody old (Ok (Some bytes)) new = (body : Logged) × (old ≡ body ∷ new) × IsBodyOf bytes body
GivesBody old (Ok None) new = old ≡ []
GivesBody old (Err e) new = Unit {0}

-- the same where it is told which body comes behind it
abbrev pub GivesBodyThen : List Logged → ServerState → Result (Option (List ℕ × NextBody)) NoMemory → Type 0
GivesBodyThen old s (Ok (Some (bytes, after))) = (body : Logged) × (old ≡ body ∷ bodies_from after s) × IsBodyOf bytes body
GivesBodyThen old s (Ok None) = old ≡ []
GivesBodyThen old s (Err e) = Unit {0}
