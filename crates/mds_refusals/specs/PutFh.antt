-- PUTFH (RFC 8881, section 18.19).
use Rattle.std.specs.Prelude.{ℕ, Bool, ◌==◌, List, [], ◌∷◌, Option, Some, None, is_none, nat_lt, IsSomeAnd, if◌then◌else◌}
use Rattle.cluster_model.specs.declared.ids.FileId.{FileId}
use Rattle.nfs4_types.specs.declared.status.Stat4.TheVariants as stat
use Rattle.nfs4_types.specs.Handles.{file_number_of}
use Rattle.mds_refusals.specs.declared.object.Object.{Object}
use Rattle.mds_refusals.specs.declared.object.Object.TheVariants.{Root, File}
use Rattle.mds_refusals.specs.Orders.{Order}

-- the root has number 0
abbrev pub object_numbered : ℕ → Object
object_numbered n = if n == 0 then Root else File (record { 0 = n })

abbrev pub object_at : Option ℕ → Option Object
object_at None = None
object_at (Some n) = Some (object_numbered n)

abbrev pub object_of : List ℕ → Option Object
object_of handle = object_at (file_number_of handle)

abbrev pub is_past : ℕ → Option ℕ → Bool
is_past files None = Rattle.std.specs.Prelude.false
is_past files (Some n) = nat_lt files n

abbrev pub put_fh_order : List ℕ → ℕ → Order
put_fh_order handle files =
    (is_none (file_number_of handle), stat.BadHandle)
    ∷ (is_past files (file_number_of handle), stat.Stale)
    ∷ []
