use Rattle.std.proofs.Common.{get_or, ap}
use Rattle.cluster_model.specs.File.{StoredFile}
use Rattle.ds_files.proofs.Carried.{sets}
use Rattle.ds_files.proofs.carry.set_file.Goals as goal

pub returns : goal.returns
returns c =
    let x = get_or c.args.files.now c.args.index c.index-files-index.result in
    let is = ap (λ (y : StoredFile). get_or c.args.files.now c.args.index y) c.index-files-index.is in
    let made = rw c.next-tick.ensures at c.set.ensures in
    rw c.next-tick.ensures (sets c.args.head.now c.args.files.now c.args.index x c.set.new.self c.args.changes.now c.requires.server is c.requires.within c.requires.ticks made)
