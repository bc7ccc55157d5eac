-- OPEN (RFC 8881, section 18.16).
use Rattle.std.specs.Prelude.{◌≡◌, ℕ, Bool, true, false, not, ◌||◌, ◌&&◌, List, [], ◌∷◌, ◌==◌, ◌%◌, length, Option, Some, None, Result, Ok, Err, is_none, is_some}
use Rattle.nfs4_types.specs.declared.status.Stat4.{Stat4}
use Rattle.cluster_model.specs.declared.ids.FileId.{FileId}
use Rattle.nfs4_types.specs.declared.status.Stat4.TheVariants as stat
use Rattle.mds_refusals.specs.declared.object.Object.{Object}
use Rattle.mds_refusals.specs.declared.open.Creation.{Creation}
use Rattle.mds_refusals.specs.declared.open.Creation.TheVariants.{NoCreate, Unchecked, Guarded}
use Rattle.mds_refusals.specs.declared.open.OpenFound.{OpenFound}
use Rattle.mds_refusals.specs.declared.open.OpenStep.{OpenStep}
use Rattle.mds_refusals.specs.declared.open.OpenStep.TheVariants as step
use Rattle.mds_refusals.specs.Orders.{Order, refusal, is_file}
use Rattle.mds_refusals.specs.Lookup.{is_no_name, is_long_name}

abbrev pub makes_none : Creation → Bool
makes_none NoCreate = true
makes_none Unchecked = false
makes_none Guarded = false

abbrev pub is_guarded : Creation → Bool
is_guarded NoCreate = false
is_guarded Unchecked = false
is_guarded Guarded = true

-- the low two bits of share_access ask for reading, and for writing
abbrev pub asks_no_access : ℕ → Bool
asks_no_access share_access = share_access % 4 == 0

-- for an open, and where there is no file yet for one
abbrev pub has_room : OpenFound → Bool
has_room found = found.can_open && (is_some found.file || found.can_make)

abbrev pub open_order : Option Object → List ℕ → ℕ → Creation → OpenFound → Order
open_order current name share_access creation found =
    (is_none current, stat.NoFileHandle)
    ∷ (is_file current, stat.NotDir)
    ∷ (is_no_name name || asks_no_access share_access, stat.Inval)
    ∷ (is_long_name name, stat.NameTooLong)
    ∷ (is_none found.file && makes_none creation, stat.NoEnt)
    ∷ (is_some found.file && is_guarded creation, stat.Exist)
    ∷ (not (has_room found), stat.ServerFault)
    ∷ []

abbrev pub open_step : Option FileId → OpenStep
open_step None = step.Makes
open_step (Some file) = step.Opens file

abbrev pub OpensOrMakes : Option Object → List ℕ → ℕ → Creation → OpenFound → Result OpenStep Stat4 → Type 0
OpensOrMakes current name share_access creation found (Ok it) = (refusal (open_order current name share_access creation found) ≡ None) × (it ≡ open_step found.file)
OpensOrMakes current name share_access creation found (Err status) = refusal (open_order current name share_access creation found) ≡ Some status
