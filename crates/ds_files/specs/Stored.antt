-- A data file by its fileid: the first has 2, since the root has 1 (RFC 1813, section 2.5).
use Rattle.std.specs.Prelude.{ℕ, ◌-◌, List, Option, None, nat_lt, if◌then◌else◌, slice_get}
use Rattle.cluster_model.specs.File.{StoredFile}

abbrev pub stored_at : List StoredFile → ℕ → Option StoredFile
stored_at files fileid = if nat_lt fileid 2 then None else slice_get files (fileid - 2)
