-- The order in which an operation tries what may be wrong (RFC 8881, section 15.1: any status that fits may be given; the order is
-- the project's own).
use Rattle.std.specs.Prelude.{◌≡◌, ℕ, Bool, true, false, not, ◌||◌, List, [], ◌∷◌, Option, Some, None, Result, Ok, Err, is_none, if◌then◌else◌}
use Rattle.cluster_model.specs.declared.ids.FileId.{FileId}
use Rattle.nfs4_types.specs.declared.status.Stat4.{Stat4}
use Rattle.nfs4_types.specs.declared.status.Stat4.TheVariants as stat
use Rattle.mds_refusals.specs.declared.object.Object.{Object}
use Rattle.mds_refusals.specs.declared.object.Object.TheVariants.{Root, File}

-- what may be wrong, each with its status, in the order tried
abbrev pub Order : Type 0
Order = List (Bool × Stat4)

-- the first that holds
abbrev pub refusal : Order → Option Stat4
refusal [] = None
refusal (fault ∷ rest) = if fault.0 then Some fault.1 else refusal rest

abbrev pub is_file : Option Object → Bool
is_file None = false
is_file (Some Root) = false
is_file (Some (File file)) = true

abbrev pub is_root : Option Object → Bool
is_root None = false
is_root (Some Root) = true
is_root (Some (File file)) = false

abbrev pub file_of : Option Object → Option FileId
file_of None = None
file_of (Some Root) = None
file_of (Some (File file)) = Some file

-- what an operation comes to: the first fault, or what it was told of
abbrev pub Takes : {A : Type 0} → Order → Option A → Result A Stat4 → Type 0
Takes order found (Ok it) = (refusal order ≡ None) × (found ≡ Some it)
Takes order found (Err status) = refusal order ≡ Some status

abbrev pub no_handle : Option Object → Order
no_handle current = (is_none current, stat.NoFileHandle) ∷ []

-- the same of an operation that is told of nothing
abbrev pub Permits : Order → Result (Unit {0}) Stat4 → Type 0
Permits order (Ok done) = refusal order ≡ None
Permits order (Err status) = refusal order ≡ Some status
