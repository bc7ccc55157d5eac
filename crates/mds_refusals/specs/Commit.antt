-- COMMIT (RFC 8881, section 18.3).
use Rattle.std.specs.Prelude.{[], ◌∷◌, Option, is_none}
use Rattle.nfs4_types.specs.declared.status.Stat4.TheVariants as stat
use Rattle.mds_refusals.specs.declared.object.Object.{Object}
use Rattle.mds_refusals.specs.Orders.{Order, is_root}

abbrev pub commit_order : Option Object → Order
commit_order current = (is_none current, stat.NoFileHandle) ∷ (is_root current, stat.IsDir) ∷ []
