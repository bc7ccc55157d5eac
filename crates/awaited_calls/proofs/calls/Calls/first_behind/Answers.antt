use Rattle.std.proofs.Common.{◌≡◌, ◌∙◌, ℕ, List, [], ◌∷◌, nat_cmp, sym, ap}
use Rattle.std.specs.declared.ops.Bound.{Bound}
use Rattle.std.specs.declared.ops.Bound.TheVariants.{Unbounded}
use Rattle.std.specs.BTreeMap.Range.{entries_between}
use Rattle.awaited_calls.specs.Awaited.{start_behind}
use Rattle.awaited_calls.proofs.NumberedCalls.{none_there, first_there, are_ordered}
use Rattle.awaited_calls.proofs.calls.Calls.first_behind.Goals as goal

pub returns-in-None-clause-next : goal.returns-in-None-clause-next
returns-in-None-clause-next c =
    let es = c.self.inside.calls.entries in
    let none : entries_between nat_cmp (start_behind c.args.after) Unbounded es ≡ [] =
    ap (λ (b : Bound ℕ). entries_between nat_cmp b Unbounded es) (sym c.start_behind-start.ensures) ∙ sym (c.range.ensures.between tt) ∙ c.in-None.ensures.steps.0 in
    rw (← c.self.view_is) (sym (none_there c.args.after es c.self.invariant.0 none))

pub returns-in-None-clause-ordered : goal.returns-in-None-clause-ordered
returns-in-None-clause-ordered c = are_ordered c.args.self.now c.self.inside.calls.entries (sym c.self.view_is) c.self.invariant

pub returns-in-Some-clause-next : goal.returns-in-Some-clause-next
returns-in-Some-clause-next c =
    let es = c.self.inside.calls.entries in
    let first = ap (λ (b : Bound ℕ). entries_between nat_cmp b Unbounded es) (sym c.start_behind-start.ensures) ∙ sym (c.range.ensures.between tt) ∙ c.in-Some.ensures.steps in
    rw (← c.self.view_is) (sym (first_there c.args.after (c.in-Some.field-0-0.now, c.in-Some.call.now) _ es c.self.invariant.0 first))

pub returns-in-Some-clause-ordered : goal.returns-in-Some-clause-ordered
returns-in-Some-clause-ordered c = are_ordered c.args.self.now c.self.inside.calls.entries (sym c.self.view_is) c.self.invariant
