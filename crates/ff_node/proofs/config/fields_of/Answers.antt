use Rattle.std.proofs.Common.{refl, ap, ◌∙◌}
use Rattle.serde_json.specs.View.{view, members_view}
use Rattle.serde_json.proofs.Views.{view-Object}
use Rattle.ff_node.specs.Config.{field_values}
use Rattle.ff_node.proofs.ConfigLemmas.{nothing_left, all_members, no_entries, of_no_entries}
use Rattle.ff_node.proofs.config.fields_of.Goals as goal

pub returns-then-not-is_empty : goal.returns-then-not-is_empty
returns-then-not-is_empty c = λ f is.
    let none = nothing_left c.args.value (members_view c.in-Object.members.entries) (members_view c.take_fields.new.members.entries) (field_values c.in_ok-fields.fields) f
    (ap view c.in-Object.is ∙ view-Object c.in-Object.members) c.in_ok-fields.ensures is in
    let zero = no_entries c.take_fields.new.members.entries none in
    let never = c.if-not-is_empty.ensures.1 zero in cc never

pub returns : goal.returns
returns c =
    all_members c.args.value (members_view c.in-Object.members.entries) (members_view c.take_fields.new.members.entries) (field_values c.in_ok-fields.fields)
    (ap view c.in-Object.is ∙ view-Object c.in-Object.members) c.in_ok-fields.ensures
    (of_no_entries c.take_fields.new.members.entries (c.if-not-is_empty.ensures.0 refl))
