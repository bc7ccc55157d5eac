-- What an object is (RFC 1813, section 2.5).
use Rattle.std.specs.Prelude.{ℕ, [], ◌∷◌}
use Rattle.ff_xdr.specs.Form.{Form, Enum}
use Rattle.nfs3_wire.specs.declared.file_type.FileType.{FileType}
use Rattle.nfs3_wire.specs.declared.file_type.FileType.TheVariants.{Regular, Directory}

-- ftype3: NF3REG, NF3DIR
abbrev pub ftype3 : Form
ftype3 = Enum (1 ∷ 2 ∷ [])

abbrev pub file_type_number : FileType → ℕ
file_type_number Regular = 1
file_type_number Directory = 2
