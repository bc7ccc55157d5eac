use Rattle.client_state.proofs.Names.{short_name}
use Rattle.client_state.proofs.name.ClientName.of.Goals as goal

pub invariant_of-result : goal.invariant_of-result
invariant_of-result c = short_name c.args.number _ c.ranges.number.fits c.in_ok-name.ensures.ok
