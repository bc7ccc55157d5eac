use Rattle.std.proofs.Common.{sym}
use Rattle.std.proofs.lemmas.Bool.{eqb-true}
use Rattle.mds_transfers.proofs.NoBytes.{write_none}
use Rattle.mds_transfers.proofs.writes.begin_write.Goals as goal

pub returns-then-is_empty-clause-op : goal.returns-then-is_empty-clause-op
returns-then-is_empty-clause-op c =
    write_none c.args.state.now c.args.run.now c.give.new.self c.args.file c.args.at c.args.bytes.now _ c.give.result c.args.out.now (eqb-true _ 0 (sym c.if-is_empty.ensures)) c.write_result.ensures.value c.give.ensures.goes c.give.ensures.run
