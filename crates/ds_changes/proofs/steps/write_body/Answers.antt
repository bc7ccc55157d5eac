use Rattle.std.proofs.Common.{sym}
use Rattle.cluster_model.specs.File.{Writes}
use Rattle.ds_changes.proofs.StepBodies.{logs_unstable, not_there}
use Rattle.ds_changes.proofs.steps.write_body.Goals as goal

pub returns-then-not-synced : goal.returns-then-not-synced
returns-then-not-synced c = logs_unstable c.args.server.now c.args.index c.args.at c.args.synced c.args.bytes.now c.if-not-synced.true c.requires.can

pub returns-in_default : goal.returns-in_default
returns-in_default c = absurd (not_there c.args.server.now c.args.index (Writes c.args.at c.args.synced c.args.bytes.now) c.requires.can c.in_default.ensures.exact)

pub written-requires-clause-short : goal.written-requires-clause-short
written-requires-clause-short c = (c.requires.can.ready.1 c.in-Some.file.now (sym c.in-Some.ensures.exact)).short

pub written-requires-clause-tick : goal.written-requires-clause-tick
written-requires-clause-tick c = rw c.clock.ensures (c.requires.can.ready.1 c.in-Some.file.now (sym c.in-Some.ensures.exact)).tick
