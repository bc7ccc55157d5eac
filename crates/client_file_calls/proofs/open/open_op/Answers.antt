use Rattle.std.proofs.Common.{ℕ, List, length, ap, arith}
use Rattle.client_file_calls.proofs.open.open_op.Goals as goal

pub returns-clause-fits : goal.returns-clause-fits
returns-clause-fits c =
    let size = ap (λ (bs : List ℕ). length bs) c.as_bytes.ensures.value in
    rw (c.made.ensures) (omega arith, (omega arith, (omega arith, (omega arith, (c.requires.owner, (((omega arith, tt), omega arith), omega (arith, c.requires.name, size)))))))
