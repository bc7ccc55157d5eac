use Rattle.std.proofs.Common.{◌≡◌}
use Rattle.serde_json.specs.View.{view}
use Rattle.ff_node.specs.Config.{config_fields, five_members}
use Rattle.ff_node.proofs.config.read_config.Goals as goal

pub returns-in_default : goal.returns-in_default
returns-in_default c = λ v configures.
    let same : view c.in_ok-value_of.field-0 ≡ five_members (config_fields v) = cc (c.in_ok-value_of.ensures.1, configures.value) in
    c.in_default.ensures (config_fields v) same
