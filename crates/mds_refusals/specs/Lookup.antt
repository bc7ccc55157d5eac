-- LOOKUP (RFC 8881, section 18.13).
use Rattle.std.specs.Prelude.{ℕ, Bool, not, ◌||◌, List, [], ◌∷◌, ◌==◌, length, Option, is_none, nat_lt}
use Rattle.std.specs.Str.{is_utf8}
use Rattle.cluster_model.specs.declared.ids.FileId.{FileId}
use Rattle.nfs4_types.specs.declared.status.Stat4.TheVariants as stat
use Rattle.mds_refusals.specs.declared.object.Object.{Object}
use Rattle.mds_refusals.specs.declared.lookup.TheConstants.{MAX_NAME}
use Rattle.mds_refusals.specs.Orders.{Order, is_file}

abbrev pub is_no_name : List ℕ → Bool
is_no_name name = (length name == 0) || not (is_utf8 name)

abbrev pub is_long_name : List ℕ → Bool
is_long_name name = nat_lt MAX_NAME (length name)

abbrev pub lookup_order : Option Object → List ℕ → Option FileId → Order
lookup_order current name found =
    (is_none current, stat.NoFileHandle)
    ∷ (is_file current, stat.NotDir)
    ∷ (is_no_name name, stat.Inval)
    ∷ (is_long_name name, stat.NameTooLong)
    ∷ (is_none found, stat.NoEnt)
    ∷ []
