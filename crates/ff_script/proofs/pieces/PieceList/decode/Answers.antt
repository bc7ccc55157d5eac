use Rattle.std.proofs.Common.{◌++◌, sym, ap, ◌∙◌}
use Rattle.ff_script.specs.Pieces.{spelled_pieces}
use Rattle.ff_script.proofs.PieceLemmas.{all_of_empty, pieces_cut, pieces_last, moves, last_moves, empty_text}
use Rattle.ff_script.proofs.pieces.PieceList.decode.Goals as goal

pub returns-then-is_empty : goal.returns-then-is_empty
returns-then-is_empty c = c.new-pieces.ensures.items ∙ sym all_of_empty ∙ ap spelled_pieces (sym (empty_text _ (c.if-is_empty.ensures))) ∙ c.self.view_is

pub loop-part-preserved : goal.loop-part-preserved
loop-part-preserved c =
    let left = c.loop-part.invariant in
    let one = moves _ _ left.0 _ _ (sym (pieces_cut c.loop-part.rest.now _ _ c.in-Some.ensures.cut) ∙ left.1) left.2 in
    (one.0, one.1, ap (λ l. l ++ one.0) c.in_ok-push.ensures ∙ one.2)

pub returns : goal.returns
returns c =
    let left = c.loop-part.invariant in
    c.in_ok-push-2.ensures
    ∙ last_moves _ _ left.0 _ (sym (pieces_last c.loop-part.rest.now c.in_default.ensures.whole) ∙ left.1) left.2
