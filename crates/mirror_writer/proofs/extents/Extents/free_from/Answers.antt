use Rattle.std.proofs.Common.{arith, ◌<◌, ◌≡◌, ℕ, List, false, subst, sym}
use Rattle.mirror_writer.specs.Extents.{is_place}
use Rattle.mirror_writer.specs.Runs.{RunsOn}
use Rattle.mirror_writer.proofs.Stretches.{free_on, free_all, first_bound}
use Rattle.mirror_writer.proofs.extents.Extents.free_from.Goals as goal

pub returns-in-None-clause-on : goal.returns-in-None-clause-on
returns-in-None-clause-on c =
    let free = subst (λ (l : List (ℕ × ℕ)). 0 < c.args.left → is_place l c.args.place ≡ false) (sym c.self.view_is) c.requires in
    rw (← c.self.view_is) (free_all c.self.inside.runs.entries c.args.place c.args.left c.self.invariant.0 free c.in-None.ensures)

pub returns-in-Some-clause-on : goal.returns-in-Some-clause-on
returns-in-Some-clause-on c =
    let free = subst (λ (l : List (ℕ × ℕ)). 0 < c.args.left → is_place l c.args.place ≡ false) (sym c.self.view_is) c.requires in
    rw (← c.self.view_is) (subst (λ (n : ℕ). RunsOn c.self.inside.runs.entries false c.args.place c.args.left n) (sym c.min.ensures)
    (free_on c.self.inside.runs.entries c.args.place c.args.left c.in-Some.first c.self.invariant.0 free c.in-Some.ensures))

pub returns-in-Some-clause-fits : goal.returns-in-Some-clause-fits
returns-in-Some-clause-fits c = λ short. omega (arith, short, c.min.ensures, c.in-Some.ensures.behind, first_bound c.self.inside.runs.entries c.args.place c.in-Some.first c.self.invariant.0 c.self.invariant.1 c.in-Some.ensures)
