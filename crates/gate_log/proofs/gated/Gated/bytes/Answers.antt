use Rattle.std.proofs.Common.{◌≡◌, ◌∙◌, ap, length}
use Rattle.gate_log.specs.Bodies.{with_gates}
use Rattle.gate_log.proofs.BodyLemmas.{length-with_gates}
use Rattle.gate_log.proofs.gated.Gated.bytes.Goals as goal

pub returns-clause-count : goal.returns-clause-count
returns-clause-count c = let is : c.deref.result.now ≡ with_gates c.args.self.now = cc in ap length is ∙ length-with_gates c.args.self.now
