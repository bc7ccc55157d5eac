-- How stable written data are (RFC 8881, section 18.32).
use Rattle.std.specs.Prelude.{ℕ, [], ◌∷◌}
use Rattle.ff_xdr.specs.Form.{Form, Enum}
use Rattle.nfs4_file_ops.specs.declared.stable_how4.StableHow4.{StableHow4}
use Rattle.nfs4_file_ops.specs.declared.stable_how4.StableHow4.TheVariants.{Unstable, DataSync, FileSync}

-- UNSTABLE4, DATA_SYNC4, FILE_SYNC4
abbrev pub stable_how4 : Form
stable_how4 = Enum (0 ∷ 1 ∷ 2 ∷ [])

abbrev pub stable_how4_number : StableHow4 → ℕ
stable_how4_number Unstable = 0
stable_how4_number DataSync = 1
stable_how4_number FileSync = 2
