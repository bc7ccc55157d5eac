-- LAYOUTRETURN (RFC 8881, section 18.44).
use Rattle.std.specs.Prelude.{ℕ, ◌-◌, ◌^◌, Bool, not, ◌||◌, ◌&&◌, ◌==◌, [], ◌∷◌, Option, is_none}
use Rattle.nfs4_types.specs.declared.status.Stat4.TheVariants as stat
use Rattle.mds_refusals.specs.declared.object.Object.{Object}
use Rattle.mds_refusals.specs.declared.layout_get.TheConstants.{FLEX_FILES}
use Rattle.mds_refusals.specs.declared.layout_return.FileReturn.{FileReturn}
use Rattle.mds_refusals.specs.Orders.{Order, is_file}
use Rattle.mds_refusals.specs.Stateids.{is_layout}

-- from the first byte to the last that any file can have
abbrev pub is_whole : FileReturn → Bool
is_whole asked = (asked.offset == 0) && (asked.length == 2 ^ 64 - 1)

abbrev pub layout_return_order : Option Object → FileReturn → Order
layout_return_order current asked =
    (is_none current, stat.NoFileHandle)
    ∷ (not (asked.layout_type == FLEX_FILES), stat.UnknownLayoutType)
    ∷ (asked.reclaim || not (is_whole asked), stat.Inval)
    ∷ (not asked.has_body, stat.BadXdr)
    ∷ (not (is_file current && is_layout asked.named), stat.BadStateid)
    ∷ []

abbrev pub layout_return_all_order : ℕ → Bool → Order
layout_return_all_order layout_type reclaim = (not (layout_type == FLEX_FILES), stat.UnknownLayoutType) ∷ (reclaim, stat.Inval) ∷ []
