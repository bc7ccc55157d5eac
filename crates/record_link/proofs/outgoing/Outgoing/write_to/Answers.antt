use Rattle.std.proofs.Common.{◌∙◌}
use Rattle.record_link.proofs.OutgoingLemmas.{more_went}
use Rattle.record_link.proofs.outgoing.Outgoing.write_to.Goals as goal

pub loop-self-preserved : goal.loop-self-preserved
loop-self-preserved g c = (
  more_went c.args.self.now c.loop-self.self c.drop_front.new.self c.loop-self.invariant.0.0 (g.S.Stream.gone c.args.stream.now) (g.S.Stream.gone c.loop-self.stream) (g.S.Stream.gone c.write_some.new.stream) c.in_ok-count.count
      c.loop-self.invariant.0.1 c.loop-self.invariant.0.2 c.drop_front.ensures c.in_ok-count.ensures.told,
  c.in_ok-count.ensures.coming ∙ c.loop-self.invariant.1,
  c.in_ok-count.ensures.faults ∙ c.loop-self.invariant.2,
)
