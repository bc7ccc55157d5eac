use Rattle.std.proofs.Common.{◌≡◌, length, arith}
use Rattle.std.proofs.lemmas.Grind.{common_steps}
use Rattle.ds_changes.specs.Spans.{IsSpan}
use Rattle.ds_changes.proofs.Spanning.{all_push, taken_next, taken_all}
use Rattle.ds_changes.proofs.span.pending_spans.Goals as goal

pub loop-at-preserved : goal.loop-at-preserved
loop-at-preserved c =
    let ws = c.args.file.now.content.pending in
    let spans = c.loop-at.spans.items in
    let n : c.len.result ≡ length c.loop-at.spans.items = grind (arith, common_steps) in
    let some = c.in-Some.ensures.some in
    record {
      taken = taken_next ws spans c.push.new.self.items c.len.result c.in-Some.at c.in-Some.count c.pending_at.result c.loop-at.invariant.taken n c.pending_at.ensures.exact c.in-Some.is c.in_ok-push.ensures.items;
      sound = rw c.in_ok-push.ensures.items (all_push IsSpan spans _ c.loop-at.invariant.sound (record { some = omega (arith, some); bounded = c.in-Some.ensures.bounded }));
    }

pub returns-clause-exact : goal.returns-clause-exact
returns-clause-exact c =
    let n : c.len.result ≡ length c.loop-at.spans.items = grind (arith, common_steps) in
    taken_all c.args.file.now.content.pending c.loop-at.spans.items c.len.result c.pending_at.result c.loop-at.invariant.taken n c.pending_at.ensures.exact c.in_default.is
