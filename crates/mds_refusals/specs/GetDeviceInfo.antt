-- GETDEVICEINFO (RFC 8881, section 18.40).
use Rattle.std.specs.Prelude.{◌≡◌, ℕ, Bool, not, ◌&&◌, ◌==◌, [], ◌∷◌, Some, None, Result, Ok, Err, nat_lt, if◌then◌else◌}
use Rattle.nfs4_types.specs.declared.status.Stat4.{Stat4}
use Rattle.nfs4_types.specs.declared.status.Stat4.TheVariants as stat
use Rattle.mds_refusals.specs.declared.layout_get.TheConstants.{FLEX_FILES}
use Rattle.mds_refusals.specs.declared.get_device_info.DeviceInfo.{DeviceInfo}
use Rattle.mds_refusals.specs.declared.get_device_info.DeviceInfo.TheVariants.{Address, Empty}
use Rattle.mds_refusals.specs.Orders.{Order, refusal}

abbrev pub device_info_order : ℕ → Bool → ℕ → ℕ → Order
device_info_order layout_type is_known maxcount size =
    (not (layout_type == FLEX_FILES), stat.UnknownLayoutType)
    ∷ (not is_known, stat.NoEnt)
    ∷ (nat_lt 0 maxcount && nat_lt maxcount size, stat.TooSmall)
    ∷ []

-- a count of 0 asks for no byte of the address
abbrev pub GivesDevice : ℕ → Bool → ℕ → ℕ → Result DeviceInfo Stat4 → Type 0
GivesDevice layout_type is_known maxcount size (Ok info) = (refusal (device_info_order layout_type is_known maxcount size) ≡ None) × (info ≡ (if maxcount == 0 then Empty else Address))
GivesDevice layout_type is_known maxcount size (Err status) = refusal (device_info_order layout_type is_known maxcount size) ≡ Some status
