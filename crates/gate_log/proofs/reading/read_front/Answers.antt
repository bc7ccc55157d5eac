use Rattle.std.proofs.Common.{◌≡◌, ◌≤◌, ◌-◌, ◌∙◌, length, arith}
use Rattle.gate_log.proofs.FrontLemmas.{put_length, filled_on}
use Rattle.gate_log.proofs.reading.read_front.Goals as goal

pub loop-done-preserved : goal.loop-done-preserved
loop-done-preserved g c =
    let piece = c.loop-done.piece in
    let new = c.read.new.piece in
    let within : c.loop-done.done ≤ length piece = omega arith in
    let long : length new ≡ length piece - c.loop-done.done = omega arith in
    let size = put_length piece new c.loop-done.done within long in
    record {
      filled = filled_on piece new c.loop-done.done within long (g.D.Disk.told c.loop-done.disk) (g.D.Disk.told c.read.new.self) c.in_ok-count.count c.args.at c.in_ok-count.ensures.same c.loop-done.invariant.filled c.in_ok-count.ensures.within c.in_ok-count.ensures.told;
      within = omega (arith, size, c.in_ok-count.ensures.within);
      same = c.in_ok-count.ensures.same ∙ c.loop-done.invariant.same;
      faults = c.in_ok-count.ensures.faults ∙ c.loop-done.invariant.faults;
      long = size ∙ c.loop-done.invariant.long;
    }
