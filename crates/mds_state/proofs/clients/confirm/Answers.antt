use Rattle.std.proofs.Common.{nat_eq, sym, ap, ◌∙◌}
use Rattle.std.specs.Prelude.{is_some}
use Rattle.indexmap.proofs.CallerLemmas.{insert_entry-new}
use Rattle.mds_rule.specs.MdsStates.{MdsValue, confirmed_node}
use Rattle.mds_state.proofs.ClientNotes.{none_there, confirmed_so}
use Rattle.mds_state.proofs.clients.confirm.Goals as goal

pub returns : goal.returns
returns c =
    let client = c.args.client in
    let was = ap (λ (m : MdsValue). confirmed_node m client) c.state.view_is in
    let absent = ap is_some (was ∙ sym c.confirmed_node.ensures) ∙ sym c.is_some.ensures ∙ c.if-is_some.false in
    rw (← c.state.view_is) (confirmed_so client c.args.node _ _ absent
    (c.in_ok-insert.ensures.entries ∙ insert_entry-new nat_eq c.state.inside.confirmed client c.args.node (none_there _ absent)))
