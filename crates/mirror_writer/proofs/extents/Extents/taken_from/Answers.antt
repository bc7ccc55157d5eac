use Rattle.std.proofs.Common.{arith, ℕ, true, subst, sym, Option}
use Rattle.mirror_writer.specs.Extents.{max_place}
use Rattle.mirror_writer.specs.Runs.{RunsOn, LastUpTo}
use Rattle.mirror_writer.proofs.RunLemmas.{ends_by}
use Rattle.mirror_writer.proofs.Stretches.{taken_on, taken_none, last_ends, none_up_to}
use Rattle.mirror_writer.proofs.extents.Extents.taken_from.Goals as goal

pub returns-in-Some-clause-on : goal.returns-in-Some-clause-on
returns-in-Some-clause-on c =
    rw (← c.self.view_is) (subst (λ (n : ℕ). RunsOn c.self.inside.runs.entries true c.args.place c.args.left n) (sym c.min.ensures)
    (taken_on c.self.inside.runs.entries c.args.place c.args.left (c.in-Some.field-0-0, c.in-Some.end) c.self.invariant.0 c.in-Some.ensures c.if-place-end.true))

pub returns-in-Some-clause-fits : goal.returns-in-Some-clause-fits
returns-in-Some-clause-fits c = λ some. omega (arith, c.min.ensures, c.if-place-end.true, ends_by c.self.inside.runs.entries max_place c.in-Some.field-0-0 c.in-Some.end c.self.invariant.1 c.in-Some.ensures.there)

pub returns-in_default-clause-on : goal.returns-in_default-clause-on
returns-in_default-clause-on c =
    rw (← c.self.view_is) (taken_none c.self.inside.runs.entries c.args.place c.args.left
    (last_ends c.self.inside.runs.entries c.args.place (c.in-Some.field-0-0, c.in-Some.end) c.self.invariant.0 c.in-Some.ensures c.args.place (omega (arith, c.if-place-end.false)) (omega arith)))

pub returns-in_default-2-clause-on : goal.returns-in_default-2-clause-on
returns-in_default-2-clause-on c =
    let none = subst (λ (o : Option (ℕ × ℕ)). LastUpTo c.self.inside.runs.entries c.args.place o) c.in_default.is c.last_up_to.ensures in
    rw (← c.self.view_is) (taken_none c.self.inside.runs.entries c.args.place c.args.left (none_up_to c.self.inside.runs.entries c.args.place c.self.invariant.0 none c.args.place (omega arith)))
