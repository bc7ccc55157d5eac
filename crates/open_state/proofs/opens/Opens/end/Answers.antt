use Rattle.std.proofs.Common.{nat_eq, None, ◌∙◌, refl}
use Rattle.std.specs.Map.{lookup}
use Rattle.std.proofs.lemmas.Bool.{eq-eqb, cond-true}
use Rattle.open_state.proofs.OfClients.{removed}
use Rattle.open_state.proofs.Values.{ended_so}
use Rattle.open_state.proofs.opens.Opens.end.Goals as goal

pub returns : goal.returns
returns c =
    let client = c.args.client in
    let es = c.self.inside.clients.entries in
    rw (← c.self.view_is) (ended_so _ client _ (removed client es c.shift_remove.new.self.entries c.shift_remove.ensures.entries
    (c.shift_remove.ensures.updates.0 client ∙ cond-true _ None (lookup (nat_eq client) es) (eq-eqb client client refl))))
