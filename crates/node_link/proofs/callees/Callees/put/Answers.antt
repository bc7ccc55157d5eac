use Rattle.std.proofs.Common.{position, sym, ap, subst, ◌∙◌}
use Rattle.node_link.specs.Callees.{AreOnce, SetsCallee}
use Rattle.node_link.proofs.CalleeLemmas.{is_of, found, missing, pushed_sets, pushed_once}
use Rattle.node_link.proofs.callees.Callees.put.Goals as goal

pub invariant_of-self : goal.invariant_of-self
invariant_of-self c =
    let is = ap (position (is_of c.args.node)) (sym c.deref.ensures.value) ∙ sym c.place_of.ensures ∙ c.in-Some.is in
    (found c.args.node c.self.inside.entries.items c.in-Some.place is).set_once c.args.number c.self.invariant

pub returns-in-Some : goal.returns-in-Some
returns-in-Some c =
    let is = ap (position (is_of c.args.node)) (sym c.deref.ensures.value) ∙ sym c.place_of.ensures ∙ c.in-Some.is in
    rw (← c.self.view_is) ((found c.args.node c.self.inside.entries.items c.in-Some.place is).sets c.args.number)

pub invariant_of-self-2 : goal.invariant_of-self-2
invariant_of-self-2 c =
    let is = ap (position (is_of c.args.node)) (sym c.deref.ensures.value) ∙ sym c.place_of.ensures ∙ c.in_default.is in
    subst AreOnce (sym c.in_ok-push.ensures.items) (pushed_once c.args.node c.args.number c.self.inside.entries.items (missing c.args.node c.self.inside.entries.items is) c.self.invariant)

pub returns : goal.returns
returns c =
    let is = ap (position (is_of c.args.node)) (sym c.deref.ensures.value) ∙ sym c.place_of.ensures ∙ c.in_default.is in
    subst (λ xs. SetsCallee c.args.node c.args.number xs c.push.new.self.items) c.self.view_is
    (subst (SetsCallee c.args.node c.args.number c.self.inside.entries.items) (sym c.in_ok-push.ensures.items) (pushed_sets c.args.node c.args.number c.self.inside.entries.items (missing c.args.node c.self.inside.entries.items is)))
