use Rattle.std.proofs.Common.{arith}
use Rattle.gate_log.proofs.BodyLemmas.{body_length}
use Rattle.gate_log.proofs.gated.Gated.len.Goals as goal

pub overflow_sub-result : goal.overflow_sub-result
overflow_sub-result c = let size = body_length c.self.inside.bytes.items c.self.invariant in omega (arith, size)

pub overflow_sub-result-2 : goal.overflow_sub-result-2
overflow_sub-result-2 c = let size = body_length c.self.inside.bytes.items c.self.invariant in omega (arith, size)
