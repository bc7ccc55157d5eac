-- CLOSE (RFC 8881, section 18.2).
use Rattle.std.specs.Prelude.{not, ◌&&◌, [], ◌∷◌, Option, is_none}
use Rattle.nfs4_types.specs.declared.status.Stat4.TheVariants as stat
use Rattle.mds_refusals.specs.declared.object.Object.{Object}
use Rattle.mds_refusals.specs.declared.named.Named.{Named}
use Rattle.mds_refusals.specs.Orders.{Order, is_file}
use Rattle.mds_refusals.specs.Stateids.{is_open}

abbrev pub close_order : Option Object → Named → Order
close_order current named = (is_none current, stat.NoFileHandle) ∷ (not (is_file current && is_open named), stat.BadStateid) ∷ []
