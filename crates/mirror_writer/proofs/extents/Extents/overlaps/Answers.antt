use Rattle.std.proofs.Common.{arith, refl, ◌≤◌, ◌<◌, ◌+◌, ℕ}
use Rattle.mirror_writer.specs.Extents.{max_place}
use Rattle.mirror_writer.proofs.Stretches.{share_by, none_share}
use Rattle.mirror_writer.proofs.extents.Extents.overlaps.Goals as goal

pub returns-in-None : goal.returns-in-None
returns-in-None c =
    let reach : (p : ℕ) → p < c.args.at + c.args.count → p < max_place → p ≤ c.saturating_add-last.result = λ p there below. omega (arith, there, below, c.saturating_add-last.ensures) in
    rw (← c.self.view_is) (none_share c.self.inside.runs.entries c.args.at c.args.count c.saturating_add-last.result c.self.invariant.0 c.self.invariant.1 reach c.in-None.ensures)

pub returns-in-Some : goal.returns-in-Some
returns-in-Some c =
    let reach : (p : ℕ) → p < c.args.at + c.args.count → p < max_place → p ≤ c.saturating_add-last.result = λ p there below. omega (arith, there, below, c.saturating_add-last.ensures) in
    rw (← c.self.view_is) (share_by c.self.inside.runs.entries c.args.at c.args.count c.saturating_add-last.result (c.in-Some.field-0-0, c.in-Some.end) _ c.self.invariant.0 c.self.invariant.1 (omega (arith, c.if-count-eq0.false)) reach
    (omega (arith, c.saturating_add-last.ensures, c.ranges.at)) (omega (arith, c.saturating_add-last.ensures, c.if-count-eq0.false)) c.in-Some.ensures refl)
