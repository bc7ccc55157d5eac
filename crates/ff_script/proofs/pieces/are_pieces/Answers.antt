use Rattle.std.proofs.Common.{is_some, sym, ap, ◌∙◌}
use Rattle.ff_script.proofs.PieceLemmas.{pieces_cut, pieces_last, none_of_pieces, some_of_pieces, last_of_pieces}
use Rattle.ff_script.proofs.pieces.are_pieces.Goals as goal

pub returns-then-is_none : goal.returns-then-is_none
returns-then-is_none c =
    sym (c.loop-part.invariant ∙ ap is_some (pieces_cut c.loop-part.rest.now _ _ c.in-Some.ensures.cut) ∙ none_of_pieces _ _ (sym (ap is_some c.piece_at.ensures) ∙ c.if-is_none.ensures))

pub loop-part-preserved : goal.loop-part-preserved
loop-part-preserved c =
    c.loop-part.invariant ∙ ap is_some (pieces_cut c.loop-part.rest.now _ _ c.in-Some.ensures.cut) ∙ some_of_pieces _ _ (sym (ap is_some c.piece_at.ensures) ∙ c.if-is_none.ensures)

pub returns : goal.returns
returns c =
    c.is_some.ensures ∙ ap is_some c.piece_at-2.ensures
    ∙ sym (c.loop-part.invariant ∙ ap is_some (pieces_last c.loop-part.rest.now c.in_default.ensures.whole) ∙ last_of_pieces _)
