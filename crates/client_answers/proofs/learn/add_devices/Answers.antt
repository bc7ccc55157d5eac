use Rattle.std.proofs.Common.{drop, sym, ◌∙◌}
use Rattle.client_answers.proofs.OverAnswers.{addresses_done}
use Rattle.client_answers.proofs.learn.add_devices.Goals as goal

pub returns : goal.returns
returns c =
    sym (addresses_done c.loop-address.devices (drop c.loop-address.place c.args.servers.now) c.args.addresses.now c.loop-address.address-index c.loop-address-test.false) ∙ c.loop-address.invariant.0
