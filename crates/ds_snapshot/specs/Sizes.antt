-- How many bytes a snapshot has in a log.
use Rattle.std.specs.Prelude.{◌≡◌, ℕ, ◌+◌, List, [], map, Option, Some, None}
use Rattle.gate_log.specs.Logs.{log_size}
use Rattle.cluster_model.specs.Server.{ServerState}
use Rattle.ds_log.specs.Bodies.{Logged}
use Rattle.ds_snapshot.specs.Snapshots.{body_text, snapshot_of}
use Rattle.ds_snapshot.specs.NextBodies.{files_from}

-- the bytes of the records of bodies
abbrev pub bodies_size : List Logged → ℕ
bodies_size bodies = log_size (map body_text bodies)

-- of a server that lasts
abbrev pub snapshot_size : ServerState → ℕ
snapshot_size s = bodies_size (snapshot_of s)

-- the bodies of the files from an index on have so many bytes more than those behind it; or there are none
abbrev pub CountsFile : ServerState → ℕ → Option ℕ → Type 0
CountsFile s index None = files_from s index ≡ []
CountsFile s index (Some size) = bodies_size (files_from s index) ≡ size + bodies_size (files_from s (index + 1))
