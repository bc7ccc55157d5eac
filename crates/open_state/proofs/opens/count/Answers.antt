use Rattle.std.proofs.Common.{length, ap, sym, ◌∙◌}
use Rattle.open_state.proofs.OfClients.{found_some, found_none}
use Rattle.open_state.proofs.opens.count.Goals as goal

pub returns-in-Some : goal.returns-in-Some
returns-in-Some c = c.len.ensures ∙ ap length (sym (found_some c.args.clients.now.entries c.args.client _ c.in-Some.ensures.value))

pub returns-in-None : goal.returns-in-None
returns-in-None c = ap length (sym (found_none c.args.clients.now.entries c.args.client c.in-None.ensures.value))
