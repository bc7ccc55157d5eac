-- WRITE (RFC 8881, section 18.32).
use Rattle.std.specs.Prelude.{ℕ, ◌+◌, Bool, true, false, not, ◌&&◌, ◌==◌, [], ◌∷◌, Option, is_none, nat_lt}
use Rattle.cluster_model.specs.declared.limits.TheConstants.{MAX_FILE, PIECE_SIZE, SPARE_UIDS}
use Rattle.cluster_model.specs.declared.phase.Phase.{Phase}
use Rattle.cluster_model.specs.declared.phase.Phase.TheVariants as phase
use Rattle.nfs4_types.specs.declared.status.Stat4.TheVariants as stat
use Rattle.mds_refusals.specs.declared.object.Object.{Object}
use Rattle.mds_refusals.specs.declared.write.WriteAsk.{WriteAsk}
use Rattle.mds_refusals.specs.Orders.{Order, is_root}
use Rattle.mds_refusals.specs.Stateids.{may_write}

abbrev pub is_free : Phase → Bool
is_free phase.Making = false
is_free phase.Free = true
is_free phase.Held = false
is_free phase.Fencing = false
is_free phase.Settling = false
is_free phase.Copying = false

-- one without bytes has no end and wants no period
abbrev pub has_bytes : WriteAsk → Bool
has_bytes ask = not (ask.length == 0)

abbrev pub write_order : Option Object → WriteAsk → Order
write_order current ask =
    (is_none current, stat.NoFileHandle)
    ∷ (is_root current, stat.IsDir)
    ∷ (not (may_write ask.named), stat.BadStateid)
    ∷ (nat_lt PIECE_SIZE ask.length, stat.Inval)
    ∷ (has_bytes ask && nat_lt MAX_FILE (ask.offset + ask.length), stat.Fbig)
    ∷ (has_bytes ask && not (is_free ask.phase), stat.Delay)
    ∷ (has_bytes ask && nat_lt ask.uids_left SPARE_UIDS, stat.ServerFault)
    ∷ []
