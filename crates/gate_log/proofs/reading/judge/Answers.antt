use Rattle.std.proofs.Common.{arith, sym, ◌∙◌}
use Rattle.gate_log.proofs.HeadLemmas.{head_broken, head_opens}
use Rattle.gate_log.proofs.reading.judge.Goals as goal

pub returns-then-from-left-clause-says : goal.returns-then-from-left-clause-says
returns-then-from-left-clause-says c = λ bytes size is.
    head_broken c.in-Some.gate.now c.in-Some.counted.now c.from_be_bytes-length.result (omega arith) (omega arith) c.from_be_bytes-length.ensures bytes (sym c.in-Some.ensures.cases.0 ∙ is) (omega arith)

pub returns-clause-says : goal.returns-clause-says
returns-clause-says c = λ bytes size is.
    head_opens c.in-Some.gate.now c.in-Some.counted.now c.from_be_bytes-length.result (omega arith) (omega arith) c.from_be_bytes-length.ensures bytes (sym c.in-Some.ensures.cases.0 ∙ is) (omega arith)
