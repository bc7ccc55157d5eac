use Rattle.std.proofs.Common.{ℕ}
use Rattle.std.proofs.lemmas.List.{take-replicate}
use Rattle.data_file.proofs.part.zeros.Goals as goal

pub returns : goal.returns
returns c = let zero_byte : ℕ = 0 in take-replicate c.args.count 4096 zero_byte c.requires
