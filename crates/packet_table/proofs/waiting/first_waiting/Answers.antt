use Rattle.std.proofs.Common.{not, arith, sym, ◌∙◌}
use Rattle.std.proofs.lemmas.List.Sums.{prefix_len-le-length}
use Rattle.packet_table.specs.Packets.{waits}
use Rattle.packet_table.proofs.FirstWaiting.{further, is_there}
use Rattle.packet_table.proofs.waiting.first_waiting.Goals as goal

pub returns-then-waits : goal.returns-then-waits
returns-then-waits c = is_there (waits c.args.held.now) c.args.notes.now c.loop-place.place _ c.loop-place-test.true c.loop-place.invariant (sym c.waits.ensures ∙ c.if-waits.true)

pub loop-place-preserved : goal.loop-place-preserved
loop-place-preserved c = further (waits c.args.held.now) c.args.notes.now c.loop-place.place _ c.loop-place-test.true c.loop-place.invariant (sym c.waits.ensures ∙ c.if-waits.false)

pub returns : goal.returns
returns c = omega (arith, c.loop-place.invariant, c.loop-place-test.false, prefix_len-le-length (λ x. not (waits c.args.held.now x)) c.args.notes.now)
