use Rattle.std.proofs.Common.{◌≡◌, ◌+◌, ◌-◌, ◌≤◌, length, drop, slice_range, arith, rules}
use Rattle.std.proofs.lemmas.Grind.{common_steps}
use Rattle.line_runs.proofs.LineLemmas.{moved_out}
use Rattle.line_runs.proofs.lines.LineBuffer.move_out.Goals as goal

pub returns-clause-moves : goal.returns-clause-moves
returns-clause-moves c =
    let inside = c.self.inside in
    let n = c.min-count.result in
    let few = c.min-count.ensures in
    let held : length c.args.self.now ≡ inside.end - inside.start = rw (← c.self.view_is) grind (arith, common_steps) in
    let within : n ≤ inside.end - inside.start = omega (arith, few) in
    let copied : c.copy_from_slice.new.self ≡ slice_range inside.piece.items inside.start (inside.start + n) = search rules in
    let size : length c.copy_from_slice.new.self ≡ n = grind (arith, common_steps) in
    moved_out inside.piece.items inside.start inside.end n c.args.self.now c.copy_from_slice.new.self (drop n c.args.piece.now) c.self.view_is copied size within (omega (arith, within, held))
