use Rattle.std.proofs.Common.{get_or, ap, arith}
use Rattle.cluster_model.specs.File.{StoredFile}
use Rattle.ds_log.proofs.LastingLemmas.{attributed_keeps}
use Rattle.ds_log.proofs.storing.set_attributes.Goals as goal

pub returns-clause-keeps : goal.returns-clause-keeps
returns-clause-keeps c =
    let x = get_or c.args.files.now c.in-Some.index c.index-files-index.result in
    let is = ap (λ (y : StoredFile). get_or c.args.files.now c.in-Some.index y) c.index-files-index.is in
    attributed_keeps c.args.head.now c.args.files.now c.in-Some.index x c.set.new.self c.requires (omega arith) is c.args.owner c.args.group c.args.mode c.args.times.now (omega arith) (omega arith) c.set.ensures
