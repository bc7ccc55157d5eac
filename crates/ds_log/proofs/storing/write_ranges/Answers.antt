use Rattle.std.proofs.Common.{List, subst}
use Rattle.cluster_model.specs.Content.{Pending}
use Rattle.ds_log.specs.PlainRanges.{plain_range}
use Rattle.ds_log.specs.PlainBodies.{plain_ranges}
use Rattle.ds_log.proofs.HeldRanges.{Written, next_range, next_ends, written_more}
use Rattle.ds_log.proofs.storing.write_ranges.Goals as goal

pub write-requires : goal.write-requires
write-requires c =
    let next = next_range c.loop-range.range-iterator.rest c.next.new.self.rest c.in-Some.range c.in-Some.ensures.steps in
    let so = subst (λ (ws : List Pending). Written c.args.file.now c.args.tick (plain_ranges c.args.ranges.now.place) ws c.loop-range.file) next c.loop-range.invariant.2 in
    next_ends so.done (plain_ranges c.next.new.self.rest) (plain_ranges c.args.ranges.now.place) (plain_range c.in-Some.range) so.parts c.requires

pub loop-range-preserved : goal.loop-range-preserved
loop-range-preserved c =
    let next = next_range c.loop-range.range-iterator.rest c.next.new.self.rest c.in-Some.range c.in-Some.ensures.steps in
    let so = subst (λ (ws : List Pending). Written c.args.file.now c.args.tick (plain_ranges c.args.ranges.now.place) ws c.loop-range.file) next c.loop-range.invariant.2 in
    (tt, tt, written_more c.args.file.now c.loop-range.file c.write.new.self c.args.tick (plain_ranges c.args.ranges.now.place) (plain_ranges c.next.new.self.rest) (plain_range c.in-Some.range) so c.in_ok-write.ensures.ok)
