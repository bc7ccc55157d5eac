use Rattle.std.proofs.lemmas.Iterator.Adapters.{position_from-zero}
use Rattle.mds_rule.specs.Answers.{is_read_out}
use Rattle.served_files.proofs.reading.walk_out.Goals as goal

pub loop-place-init : goal.loop-place-init
loop-place-init c = position_from-zero (is_read_out c.args.xid) c.args.reads.now
