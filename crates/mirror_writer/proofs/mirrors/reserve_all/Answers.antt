use Rattle.std.proofs.Common.{arith, ◌∙◌}
use Rattle.std.proofs.lemmas.List.Elements.{AllWithin-more_set}
use Rattle.mirror_writer.specs.Rooms.{HasSpareRoom}
use Rattle.mirror_writer.proofs.Shown.{same_shown}
use Rattle.mirror_writer.proofs.mirrors.reserve_all.Goals as goal

pub returns-in_err-reserve-clause-same : goal.returns-in_err-reserve-clause-same
returns-in_err-reserve-clause-same c =
    same_shown c.loop-mirror.mirror-items c.loop-mirror.mirror-index c.mirror-item.result c.reserve.new.self c.reserve.ensures.same ∙ c.loop-mirror.invariant.same

pub loop-mirror-preserved : goal.loop-mirror-preserved
loop-mirror-preserved c = record {
  same = same_shown c.loop-mirror.mirror-items c.loop-mirror.mirror-index c.mirror-item.result c.reserve.new.self c.reserve.ensures.same ∙ c.loop-mirror.invariant.same;
  room = AllWithin-more_set c.loop-mirror.mirror-items c.loop-mirror.mirror-index c.reserve.new.self (omega (arith, c.loop-mirror-test.true, c.loop-mirror.auto.mirror-items)) HasSpareRoom c.loop-mirror.invariant.room c.in_ok-reserve.ensures.ok;
}

pub returns-clause-ok : goal.returns-clause-ok
returns-clause-ok c = λ k d within. c.loop-mirror.invariant.room k d (omega arith) (omega (arith, within, c.loop-mirror-test.false, c.loop-mirror.auto.mirror-items))
