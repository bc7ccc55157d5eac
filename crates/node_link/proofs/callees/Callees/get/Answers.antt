use Rattle.std.proofs.Common.{position, sym, ap, ◌∙◌}
use Rattle.node_link.specs.Callees.{callee_in}
use Rattle.node_link.proofs.CalleeLemmas.{is_of, found, missing, no_entry, reads_there}
use Rattle.node_link.proofs.callees.Callees.get.Goals as goal

pub returns-in-Some : goal.returns-in-Some
returns-in-Some c =
    let is = ap (position (is_of c.args.node)) (sym c.deref.ensures.value) ∙ sym c.place_of.ensures ∙ c.in-Some.is in
    reads_there c.args.node c.self.inside.entries.items c.in-Some.place c.index.result.now (found c.args.node c.self.inside.entries.items c.in-Some.place is) c.index.ensures
    ∙ ap (λ xs. callee_in xs c.args.node) c.self.view_is

pub returns-in-None : goal.returns-in-None
returns-in-None c =
    let is = ap (position (is_of c.args.node)) (sym c.deref.ensures.value) ∙ sym c.place_of.ensures ∙ c.in-None.is in
    c.own_connection.ensures ∙ sym (no_entry c.args.node c.self.inside.entries.items (missing c.args.node c.self.inside.entries.items is)) ∙ ap (λ xs. callee_in xs c.args.node) c.self.view_is
