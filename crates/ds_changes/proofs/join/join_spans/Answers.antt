use Rattle.std.proofs.Common.{[], ◌∷◌, ◌++◌}
use Rattle.ds_changes.proofs.Spanning.{joining_next, joining_done}
use Rattle.ds_changes.proofs.join.join_spans.Goals as goal

pub loop-span-preserved : goal.loop-span-preserved
loop-span-preserved c =
    joining_next c.args.spans.now (c.loop-span.done.items ++ c.loop-span.last ∷ []) c.loop-span.last.at c.loop-span.rest.now c.in-Some-split_first.span.now c.in-Some-split_first.others.now (c.add.new.done.items ++ c.in_ok-last.last ∷ []) c.in_ok-last.last.at
    c.loop-span.invariant c.in-Some-split_first.ensures.cases.0 c.in_ok-last.ensures.added c.in_ok-last.ensures.behind

pub returns : goal.returns
returns c =
    let done = c.loop-span.done.items ++ c.loop-span.last ∷ [] in
    rw c.in_ok-push.ensures.items (joining_done c.args.spans.now done c.loop-span.last.at c.loop-span.rest.now c.loop-span.invariant c.in_default-split_first.ensures.cases)
