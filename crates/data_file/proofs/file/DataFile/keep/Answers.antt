use Rattle.std.proofs.Common.{ap, ◌∙◌}
use Rattle.cluster_model.specs.File.{StoredFile}
use Rattle.data_file.specs.Kept.{kept_content}
use Rattle.data_file.proofs.KeptMore.{kept_more}
use Rattle.data_file.proofs.file.DataFile.keep.Goals as goal

pub returns-clause-bounded : goal.returns-clause-bounded
returns-clause-bounded c =
    kept_more c.args.self.now c.args.piece.now c.args.kept c.in_ok-after.after c.add.new.self c.requires (c.in_ok-after.ensures ∙ ap (λ (f : StoredFile). kept_content f.content c.args.kept) c.self.view_is) c.in_ok-add.ensures
