-- READ (RFC 8881, section 18.22).
use Rattle.std.specs.Prelude.{ℕ, ◌+◌, Bool, true, false, not, [], ◌∷◌, Option, Some, None, is_none, nat_lt}
use Rattle.cluster_model.specs.declared.phase.Phase.{Phase}
use Rattle.cluster_model.specs.declared.phase.Phase.TheVariants as phase
use Rattle.nfs4_types.specs.declared.status.Stat4.TheVariants as stat
use Rattle.mds_refusals.specs.declared.object.Object.{Object}
use Rattle.mds_refusals.specs.declared.read.ReadAsk.{ReadAsk}
use Rattle.mds_refusals.specs.declared.read.TheConstants.{MAX_KEPT_READ}
use Rattle.mds_refusals.specs.Orders.{Order, is_root}
use Rattle.mds_refusals.specs.Stateids.{may_read}

abbrev pub is_made : Phase → Bool
is_made phase.Making = false
is_made phase.Free = true
is_made phase.Held = true
is_made phase.Fencing = true
is_made phase.Settling = true
is_made phase.Copying = true

-- with the results that stand before it, where the reply is to be kept
abbrev pub is_too_big_to_keep : ℕ → Option ℕ → Bool
is_too_big_to_keep count None = false
is_too_big_to_keep count (Some before) = nat_lt MAX_KEPT_READ (before + count)

abbrev pub read_order : Option Object → ReadAsk → Order
read_order current ask =
    (is_none current, stat.NoFileHandle)
    ∷ (is_root current, stat.IsDir)
    ∷ (not (may_read ask.named), stat.BadStateid)
    ∷ (is_too_big_to_keep ask.count ask.kept, stat.RepTooBigToCache)
    ∷ (not (is_made ask.phase), stat.Delay)
    ∷ []
