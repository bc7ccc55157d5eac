use Rattle.std.proofs.Common.{ap, ◌∙◌}
use Rattle.client_mds_calls.specs.MdsCalls.{DeviceInfo}
use Rattle.client_state.specs.ClientStates.{ClientValue}
use Rattle.client_state.specs.ClientQueue.{unknown_in, unknown_servers}
use Rattle.client_calls.proofs.Spelled.{spelled_as}
use Rattle.client_calls.proofs.compounds.spell_unknown.Goals as goal

pub returns : goal.returns
returns c =
    let servers = c.deref.ensures.value ∙ c.in_ok-servers.ensures.servers ∙ ap (λ (v : ClientValue). unknown_in v.devices c.args.layout.now.mirrors) c.client.view_is in
    spelled_as c.args.client.now c.args.session (DeviceInfo c.deref.result.now) (DeviceInfo (unknown_servers c.args.client.now c.args.layout.now)) c.spell_on_slot.result (ap DeviceInfo servers) c.spell_on_slot.ensures
