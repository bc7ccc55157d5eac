use Rattle.std.proofs.Common.{sym, arith, ◌∙◌}
use Rattle.mds_rows.proofs.RowLemmas.{left_more, few_mirrors}
use Rattle.mds_rows.proofs.rows.note_left.Goals as goal

pub loop-place-preserved : goal.loop-place-preserved
loop-place-preserved c =
    let below = c.loop-place-test.true in
    let few = few_mirrors c.args.live c.len-place-end.ensures.mirrors in
    let count = c.len-place-end.ensures.count in
    let size = c.note_one.ensures.len in
    let so_far = c.loop-place.invariant.size in
    record {
      items = left_more c.args.file c.args.causes c.args.live c.loop-place.place c.in-Some.mirror _ c.loop-place.entries.items c.note_one.new.entries.items _ (sym c.get.ensures ∙ c.in-Some.is) (omega (arith, below, few, count)) c.loop-place.invariant.items c.note_one.ensures.left;
      size = omega (arith, size, so_far);
      room = c.note_one.ensures.capacity ∙ c.loop-place.invariant.room;
    }
