use Rattle.std.proofs.Common.{arith, refl, subst, inr, ℕ, Option}
use Rattle.mirror_writer.specs.Runs.{LastUpTo}
use Rattle.mirror_writer.proofs.Begins.{none_ends_at, none_before}
use Rattle.mirror_writer.proofs.extents.Extents.begins.Goals as goal

pub returns-in_default : goal.returns-in_default
returns-in_default c =
    rw (← c.self.view_is) (inr (refl, none_ends_at c.self.inside.runs.entries c.args.place (c.in-Some.first, c.in-Some.end) c.self.invariant.0 c.in-Some.ensures (λ same. omega (arith, same, c.if-end-place.false))))

pub returns-in_default-2 : goal.returns-in_default-2
returns-in_default-2 c =
    let none = subst (λ (o : Option (ℕ × ℕ)). LastUpTo c.self.inside.runs.entries c.args.place o) c.in_default.is c.last_up_to.ensures in
    rw (← c.self.view_is) (inr (refl, none_before c.self.inside.runs.entries c.args.place c.self.invariant.0 none))
