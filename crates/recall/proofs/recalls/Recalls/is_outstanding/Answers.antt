use Rattle.std.proofs.Common.{List, ap, ◌∙◌}
use Rattle.std.specs.Prelude.{is_some}
use Rattle.std.specs.List.{position}
use Rattle.recall.specs.declared.kept_recall.KeptRecall.{KeptRecall}
use Rattle.recall.specs.Recalls.{is_out_as}
use Rattle.recall.proofs.Standing.{position_in}
use Rattle.recall.proofs.recalls.Recalls.is_outstanding.Goals as goal

pub returns : goal.returns
returns c =
    let found = c.outstanding.ensures ∙ ap (λ (l : List KeptRecall). position (λ e. is_out_as c.args.xid e.recall.stage) l) c.as_slice.ensures.value in
    rw (← c.self.view_is) (c.is_some.ensures ∙ ap is_some (found ∙ position_in (λ r. is_out_as c.args.xid r.stage) c.self.inside.entries.items))
