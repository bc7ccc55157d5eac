use Rattle.std.proofs.Common.{◌≡◌, length, arith}
use Rattle.client_file_calls.proofs.Reports.{report_end}
use Rattle.client_file_calls.proofs.layout_return.put_report.Goals as goal

pub returns : goal.returns
returns c =
    let all : c.loop-mirror.mirror-index ≡ length c.args.failed.now = omega arith in
    report_end c.args.stateid c.args.failed.now c.args.out.now c.loop-mirror.out c.number32-2.new.self c.loop-mirror.mirror-index all c.loop-mirror.invariant c.in_ok-number32-2.ensures
