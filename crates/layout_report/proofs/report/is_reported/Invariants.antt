use Rattle.std.proofs.Common.{◌≡◌}
use Rattle.std.specs.List.{list_any}
use Rattle.ff_xdr.specs.Items.{contents}
use Rattle.ff_layout.specs.IoError.{ff_ioerr4, ff_ioerr4_value}
use Rattle.layout_report.specs.Reports.{names_device}
use Rattle.layout_report.proofs.report.is_reported.Given as goal

-- one of all errors names the device where one of those that are left does
abbrev pub invariant-loop-error : goal.invariant-loop-error
invariant-loop-error l =
    (goal.iterator-loop-error).can_next l.error-iterator
    × (goal.iterator-loop-error).is_finite l.error-iterator
    × (list_any (names_device l.device.0) (contents ff_ioerr4 ff_ioerr4_value l.error-iterator.rest) ≡ list_any (names_device l.device.0) (contents ff_ioerr4 ff_ioerr4_value l.fn.errors.place))
