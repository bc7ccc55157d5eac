use Rattle.std.proofs.Common.{ap, ◌∙◌}
use Rattle.device_addr.specs.Table.{device_at}
use Rattle.device_addr.proofs.TableLemmas.{found}
use Rattle.device_addr.proofs.table.DeviceTable.get.Goals as goal

pub returns : goal.returns
returns c =
    c.copied.ensures ∙ c.get.ensures.value ∙ found c.self.inside.devices.entries c.args.id ∙ ap (λ t. device_at t c.args.id) c.self.view_is
