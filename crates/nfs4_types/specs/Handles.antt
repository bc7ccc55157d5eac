-- Handles of files (RFC 8881, sections 3.1 and 3.2). The definition says its limit as a number again, so that an edit of the code's
-- constant is refused.
use Rattle.std.specs.Prelude.{ℕ, List, length, Option, Some, None, ◌==◌, if◌then◌else◌}
use Rattle.std.specs.Int.{w64, from_be_bytes}
use Rattle.nfs4_types.specs.declared.handle.TheConstants.{MAX_HANDLE4}
use Rattle.ff_xdr.specs.Form.{Form, Opaque, long}

-- nfs_fh4: at most 128 bytes
abbrev pub nfs_fh4 : Form
nfs_fh4 = Opaque MAX_HANDLE4

-- The handle of a file of the metadata server is its number as eight bytes, the highest first. The layout is the project's own.
abbrev pub file_handle_of : ℕ → List ℕ
file_handle_of file = long file

-- the number that a handle has, where it has eight bytes
abbrev pub file_number_of : List ℕ → Option ℕ
file_number_of handle = if length handle == 8 then Some (from_be_bytes w64 handle) else None
