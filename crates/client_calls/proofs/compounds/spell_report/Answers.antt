use Rattle.std.proofs.Common.{ap, ◌∙◌}
use Rattle.client_mds_calls.specs.MdsCalls.{LayoutReturn}
use Rattle.client_calls.proofs.Spelled.{spelled_as}
use Rattle.client_calls.proofs.compounds.spell_report.Goals as goal

pub returns : goal.returns
returns c = spelled_as c.args.client.now c.args.session _ _ c.spell_on_slot.result (ap (LayoutReturn c.args.file.file c.args.layout.now.stateid) (c.deref.ensures.value ∙ c.in_ok-failed.ensures.failed)) c.spell_on_slot.ensures
