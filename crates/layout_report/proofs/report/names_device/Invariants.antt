use Rattle.std.proofs.Common.{◌≡◌}
use Rattle.std.specs.List.{list_any}
use Rattle.ff_xdr.specs.Items.{contents}
use Rattle.ff_layout.specs.DeviceError.{device_error4, device_error4_value}
use Rattle.layout_report.specs.Reports.{is_of_device}
use Rattle.layout_report.proofs.report.names_device.Given as goal

-- one of all errors is of the device where one of those that are left is
abbrev pub invariant-loop-failed : goal.invariant-loop-failed
invariant-loop-failed l =
    (goal.iterator-loop-failed).can_next l.failed-iterator
    × (goal.iterator-loop-failed).is_finite l.failed-iterator
    × (list_any (is_of_device l.device.0) (contents device_error4 device_error4_value l.failed-iterator.rest) ≡ list_any (is_of_device l.device.0) (contents device_error4 device_error4_value l.error.errors.place))
