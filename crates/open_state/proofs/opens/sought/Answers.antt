use Rattle.std.proofs.Common.{find, ap, sym, ◌∙◌}
use Rattle.open_state.specs.Opens.{is_of}
use Rattle.open_state.proofs.OfClients.{found_some, found_none}
use Rattle.open_state.proofs.opens.sought.Goals as goal

pub returns-in_err-get : goal.returns-in_err-get
returns-in_err-get c =
    c.from_residual.ensures ∙ ap (find (is_of c.args.file)) (sym (found_none c.args.clients.now.entries c.args.client c.in_err-get.ensures.value))

pub returns : goal.returns
returns c =
    c.find.ensures ∙ ap (find (is_of c.args.file)) (sym (found_some c.args.clients.now.entries c.args.client _ c.in_ok-get.ensures.value))
