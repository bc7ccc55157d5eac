use Rattle.std.proofs.Common.{◌<◌, length, arith}
use Rattle.std.proofs.lemmas.Grind.{common_steps}
use Rattle.std.proofs.lemmas.Result.{on_ok_weaker}
use Rattle.data_file.proofs.Paging.{put_stored, written_bytes}
use Rattle.data_file.proofs.keeping.put_bytes.Goals as goal

pub returns-clause-ok : goal.returns-clause-ok
returns-clause-ok c =
    let some : 0 < length c.args.bytes.now = grind (arith, common_steps) in
    on_ok_weaker c.write.result (written_bytes c.new-none.result c.args.disk.now c.write.new.self c.args.at c.args.bytes.now some c.new-none.ensures c.requires.stored) c.write.ensures.ok

pub returns-clause-stored : goal.returns-clause-stored
returns-clause-stored c =
    let some : 0 < length c.args.bytes.now = grind (arith, common_steps) in
    put_stored c.new-none.result c.args.disk.now c.write.new.self c.args.at c.args.bytes.now c.write.result some c.new-none.ensures c.requires.stored c.write.ensures.ok c.write.ensures.err
