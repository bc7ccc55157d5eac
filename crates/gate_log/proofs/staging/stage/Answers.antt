use Rattle.std.proofs.Common.{◌+◌, ◌-◌, length, take, drop, arith}
use Rattle.std.proofs.lemmas.Result.{err_from_is_err_and}
use Rattle.gate_log.specs.Bodies.{with_gates}
use Rattle.gate_log.proofs.StageLemmas.{sliced, staged_more, staged_none}
use Rattle.gate_log.proofs.staging.stage.Goals as goal

pub returns-in_err-write_at-clause-stages : goal.returns-in_err-write_at-clause-stages
returns-in_err-write_at-clause-stages g c = λ bodies staged stages.
    let p = err_from_is_err_and c.from_residual.result c.from_residual.ensures.1 in
    let e = c.left_out-from.ensures in
    staged_none bodies staged c.args.body.now c.args.end c.args.at c.left_out-from.result e.first e.later e.range c.requires.order c.bytes-bytes.ensures.short
    (take (length c.bytes-bytes.result.now - c.left_out-from.result) (drop c.left_out-from.result c.bytes-bytes.result.now))
    (sliced c.left_out-from.result c.bytes-bytes.result.now (with_gates c.args.body.now) c.bytes-bytes.ensures.bytes)
    (g.D.Disk.told c.args.disk.now) c.from_residual.result p.0 c.in_err-write_at.field-0.0 (g.D.Disk.told c.write_at.new.self) p.1 stages c.in_err-write_at.ensures.told

pub returns-clause-stages : goal.returns-clause-stages
returns-clause-stages g c = λ bodies staged stages.
    let e = c.left_out-from.ensures in
    staged_more bodies staged c.args.body.now c.args.end c.args.at c.left_out-from.result e.first e.later e.range c.requires.order c.bytes-bytes.ensures.short
    (take (length c.bytes-bytes.result.now - c.left_out-from.result) (drop c.left_out-from.result c.bytes-bytes.result.now))
    (sliced c.left_out-from.result c.bytes-bytes.result.now (with_gates c.args.body.now) c.bytes-bytes.ensures.bytes)
    (g.D.Disk.told c.args.disk.now) c.in_ok-write_at.field-0 (g.D.Disk.told c.write_at.new.self) stages c.in_ok-write_at.ensures.told
    (c.args.at + (length c.bytes-bytes.result.now - 1)) (omega (arith, c.bytes-bytes.ensures.count))
