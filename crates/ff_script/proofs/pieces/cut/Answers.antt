use Rattle.std.proofs.Common.{◌∷◌, Option, Some, None, take, ◌+◌, ap, sym, ◌∙◌, arith}
use Rattle.std.proofs.lemmas.List.{length-drop, take_all}
use Rattle.std.specs.Prelude.{IfNone}
use Rattle.ff_script.specs.Pieces.{parts}
use Rattle.ff_script.proofs.PieceLemmas.{parts_found, parts_not_found}
use Rattle.ff_script.proofs.pieces.cut.Goals as goal

where_none : {A : Type 0} {P : Type 0} (r : Option A) → P → IfNone r P
where_none None p = p
where_none (Some a) p = tt

pub returns-in_err-at-clause-whole : goal.returns-in_err-at-clause-whole
returns-in_err-at-clause-whole c = where_none c.from_residual.result (parts_not_found c.args.sep c.args.text.now c.in_err-at.ensures)

pub returns-clause-cut : goal.returns-clause-cut
returns-clause-cut c = parts_found c.args.sep c.in_ok-at.at c.args.text.now c.in_ok-at.ensures ∙ ap (λ bs. take c.in_ok-at.at c.args.text.now ∷ parts c.args.sep bs) (sym (take_all _ _ (omega (arith, length-drop (c.in_ok-at.at + 1) c.args.text.now))))
