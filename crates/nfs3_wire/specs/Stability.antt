-- How stable written data are (RFC 1813, section 3.3.7).
use Rattle.std.specs.Prelude.{ℕ, [], ◌∷◌, ◌==◌, if◌then◌else◌}
use Rattle.ff_xdr.specs.Form.{Form, Enum}
use Rattle.nfs3_wire.specs.declared.stable_how.StableHow.{StableHow}
use Rattle.nfs3_wire.specs.declared.stable_how.StableHow.TheVariants.{Unstable, DataSync, FileSync}

-- UNSTABLE, DATA_SYNC, FILE_SYNC
abbrev pub stable_how : Form
stable_how = Enum (0 ∷ 1 ∷ 2 ∷ [])

abbrev pub stable_how_number : StableHow → ℕ
stable_how_number Unstable = 0
stable_how_number DataSync = 1
stable_how_number FileSync = 2

abbrev pub stable_how_of : ℕ → StableHow
stable_how_of n = if n == 0 then Unstable else (if n == 1 then DataSync else FileSync)
