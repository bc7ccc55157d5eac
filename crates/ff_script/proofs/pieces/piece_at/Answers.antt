use Rattle.std.proofs.Common.{sym, ◌∙◌}
use Rattle.ff_script.proofs.PieceLemmas.{piece_one, piece_two, piece_three, piece_four, piece_more, cut_some, cut_none}
use Rattle.ff_script.proofs.pieces.piece_at.Goals as goal

pub returns-in_err-file : goal.returns-in_err-file
returns-in_err-file c = c.from_residual.ensures ∙ sym (piece_one c.args.text.now c.in_err-file.ensures.whole)

pub returns-in_err-index : goal.returns-in_err-index
returns-in_err-index c =
    c.from_residual-in_err-index.ensures ∙ sym (piece_two c.args.text.now _ _ c.in_ok-file.ensures.cut c.in_err-index.ensures.whole)

pub returns-in_err-from : goal.returns-in_err-from
returns-in_err-from c =
    c.from_residual-in_err-from.ensures
    ∙ sym (piece_three c.args.text.now _ _ _ _ c.in_ok-file.ensures.cut c.in_ok-index.ensures.cut c.in_err-from.ensures.whole)

pub returns-then-is_some : goal.returns-then-is_some
returns-then-is_some c =
    let more = cut_some c.cut-4.result _ c.cut-4.ensures.cut (sym c.is_some.ensures ∙ c.if-is_some.true) in
    sym (piece_more c.args.text.now _ _ _ _ _ _ _ _ c.in_ok-file.ensures.cut c.in_ok-index.ensures.cut c.in_ok-from.ensures.cut more.1)

pub returns : goal.returns
returns c =
    let last = cut_none c.cut-4.result c.cut-4.ensures.whole (sym c.is_some.ensures ∙ c.if-is_some.false) in
    c.piece_from.ensures
    ∙ sym (piece_four c.args.text.now _ _ _ _ _ _ c.in_ok-file.ensures.cut c.in_ok-index.ensures.cut c.in_ok-from.ensures.cut last)
