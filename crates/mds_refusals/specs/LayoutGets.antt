-- LAYOUTGET (RFC 8881, section 18.43; RFC 8435, section 2.2).
use Rattle.std.specs.Prelude.{ℕ, Bool, true, false, not, ◌||◌, ◌==◌, [], ◌∷◌, Option, Some, None, is_none, nat_lt}
use Rattle.layout_state.specs.declared.grant.GrantFault.{GrantFault}
use Rattle.layout_state.specs.declared.grant.GrantFault.TheVariants.{Later, Recalling, Spent}
use Rattle.nfs4_file_ops.specs.declared.layout_get.LayoutGetArgs.{LayoutGetArgs}
use Rattle.nfs4_types.specs.declared.status.Stat4.TheVariants as stat
use Rattle.mds_refusals.specs.declared.object.Object.{Object}
use Rattle.mds_refusals.specs.declared.layout_get.LayoutGetFound.{LayoutGetFound}
use Rattle.mds_refusals.specs.declared.layout_get.TheConstants.{FLEX_FILES, IOMODE_READ, IOMODE_RW}
use Rattle.mds_refusals.specs.Orders.{Order, is_root}
use Rattle.mds_refusals.specs.Stateids.{is_open, is_layout}

abbrev pub is_later : Option GrantFault → Bool
is_later None = false
is_later (Some (Later phase)) = true
is_later (Some Recalling) = false
is_later (Some Spent) = false

abbrev pub is_recalled : Option GrantFault → Bool
is_recalled None = false
is_recalled (Some (Later phase)) = false
is_recalled (Some Recalling) = true
is_recalled (Some Spent) = false

abbrev pub is_spent : Option GrantFault → Bool
is_spent None = false
is_spent (Some (Later phase)) = false
is_spent (Some Recalling) = false
is_spent (Some Spent) = true

abbrev pub layout_get_order : Option Object → LayoutGetArgs → LayoutGetFound → Order
layout_get_order current args found =
    (is_none current, stat.NoFileHandle)
    ∷ (is_root current, stat.WrongType)
    ∷ (not (args.layout_type == FLEX_FILES), stat.UnknownLayoutType)
    ∷ (not ((args.iomode == IOMODE_READ) || (args.iomode == IOMODE_RW)), stat.BadIoMode)
    ∷ (args.iomode == IOMODE_READ, stat.LayoutUnavailable)
    ∷ (nat_lt args.length args.minlength, stat.Inval)
    ∷ (not (is_open found.named || is_layout found.named), stat.BadStateid)
    ∷ (is_later found.fault, stat.LayoutTryLater)
    ∷ (is_recalled found.fault, stat.RecallConflict)
    ∷ (is_spent found.fault, stat.LayoutUnavailable)
    ∷ (nat_lt args.maxcount found.size, stat.TooSmall)
    ∷ []
