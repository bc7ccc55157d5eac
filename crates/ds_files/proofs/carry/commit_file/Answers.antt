use Rattle.std.proofs.Common.{get_or, ap}
use Rattle.cluster_model.specs.File.{StoredFile}
use Rattle.ds_files.proofs.Carried.{commits}
use Rattle.ds_files.proofs.carry.commit_file.Goals as goal

pub returns : goal.returns
returns c =
    let x = get_or c.args.files.now c.args.index c.index-files-index.result in
    let is = ap (λ (y : StoredFile). get_or c.args.files.now c.args.index y) c.index-files-index.is in
    commits c.args.head.now c.args.files.now c.args.index x c.commit.new.self c.requires.server is c.requires.within c.commit.ensures
