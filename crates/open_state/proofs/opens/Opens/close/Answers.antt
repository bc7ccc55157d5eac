use Rattle.std.proofs.Common.{sym, ◌∙◌}
use Rattle.open_state.proofs.Values.{closed_none, closed_one}
use Rattle.open_state.proofs.opens.Opens.close.Goals as goal

pub returns-in_err-was : goal.returns-in_err-was
returns-in_err-was c =
    rw (← c.self.view_is, c.from_residual.ensures) (closed_none _ c.args.client c.args.file (sym c.sought.ensures ∙ c.in_err-was.was))

pub returns : goal.returns
returns c =
    rw (← c.self.view_is) (closed_one _ c.args.client c.args.file c.in_ok-was.was' c.again.result _ (sym c.sought.ensures ∙ c.in_ok-was.was) c.again.ensures c.remove.ensures)
