use Rattle.std.proofs.Common.{◌≡◌, ◌-◌, ◌<◌, [], length, take, slice_range, ap, sym, ◌∙◌, arith}
use Rattle.std.specs.Vec.{with_items}
use Rattle.std.proofs.lemmas.List.{with_items_is}
use Rattle.std.proofs.lemmas.Grind.{common_steps}
use Rattle.line_runs.proofs.LineLemmas.{empty_range, refills_held, refills_read}
use Rattle.line_runs.proofs.lines.LineBuffer.refill.Goals as goal

pub returns-then-self-clause-told : goal.returns-then-self-clause-told
returns-then-self-clause-told g c = refills_held c.args.self.now (g.S.Source.left c.args.source.now)

pub returns-clause-told : goal.returns-clause-told
returns-clause-told g c =
    let inside = c.self.inside in
    let none : c.args.self.now ≡ [] = sym c.self.view_is ∙ empty_range inside.piece.items inside.start inside.end c.if-self.false in
    let some : 0 < length c.read.new.piece = grind (arith, common_steps) in
    let size : c.in_ok-count.count - 0 ≡ c.in_ok-count.count = omega arith in
    let piece_is : (with_items inside.piece c.read.new.piece).items ≡ c.read.new.piece = with_items_is inside.piece c.read.new.piece (grind (arith, common_steps)) in
    refills_read c.args.self.now _ (g.S.Source.left c.args.source.now) (g.S.Source.left c.read.new.self) c.read.new.piece c.in_ok-count.count none (ap (λ bs. slice_range bs 0 c.in_ok-count.count) piece_is ∙ ap (λ k. take k c.read.new.piece) size) some c.in_ok-count.ensures.told
