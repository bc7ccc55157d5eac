use Rattle.std.proofs.Common.{arith}
use Rattle.ds_procedures.proofs.Places.{named_file}
use Rattle.ds_procedures.proofs.objects.named.Goals as goal

pub returns-clause-at : goal.returns-clause-at
returns-clause-at c = named_file c.args.files.now c.args.fileid (omega arith) (omega arith)
