use Rattle.std.proofs.Common.{ap}
use Rattle.client_mds_calls.specs.MdsCalls.{Open}
use Rattle.client_calls.proofs.Spelled.{spelled_as}
use Rattle.client_calls.proofs.compounds.spell_name.Goals as goal

pub returns : goal.returns
returns c = spelled_as c.args.client.now c.args.session _ _ c.spell_on_slot.result (ap Open c.text.ensures.text) c.spell_on_slot.ensures
