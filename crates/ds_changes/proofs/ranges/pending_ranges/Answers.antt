use Rattle.std.proofs.Common.{sym, subst}
use Rattle.std.proofs.lemmas.Result.{IfOk-weaker}
use Rattle.cluster_model.specs.File.{shown}
use Rattle.ds_changes.specs.Joined.{AreJoined}
use Rattle.ds_changes.proofs.Spanning.{rising}
use Rattle.ds_changes.proofs.Joins.{sound_sorted, joined_ranges}
use Rattle.ds_changes.proofs.ranges.pending_ranges.Goals as goal

pub join_spans-requires-clause-rising : goal.join_spans-requires-clause-rising
join_spans-requires-clause-rising c = rw c.deref.ensures.value (rising c.sort_spans.new.spans.items c.sort_spans.ensures.sorted)

pub join_spans-requires-clause-sound : goal.join_spans-requires-clause-sound
join_spans-requires-clause-sound c = rw c.deref.ensures.value (sound_sorted c.in_ok-spans.spans.items c.sort_spans.new.spans.items c.sort_spans.ensures.permutation c.in_ok-spans.ensures.sound)

pub returns : goal.returns
returns c =
    let f = c.args.file.now in
    let made = rw c.deref-2.ensures.value at c.ranges_at.ensures in
    let joins = rw c.deref.ensures.value at c.in_ok-joined.ensures in
    let all = joined_ranges f.content.stable f.content.pending c.in_ok-spans.spans.items c.sort_spans.new.spans.items c.in_ok-joined.joined.items c.in_ok-spans.ensures.exact c.sort_spans.ensures.permutation joins in
    IfOk-weaker c.ranges_at.result _ _ (λ ranges is. subst (AreJoined f.content.pending (shown f)) (sym is) all) made
