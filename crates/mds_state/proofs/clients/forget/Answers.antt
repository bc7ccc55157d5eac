use Rattle.std.proofs.Common.{◌∙◌, refl, false}
use Rattle.std.proofs.lemmas.Bool.{eq-eqb, cond-true}
use Rattle.mds_state.proofs.Numbers.{gone_of}
use Rattle.mds_state.proofs.ClientNotes.{forgotten_so}
use Rattle.mds_state.proofs.clients.forget.Goals as goal

pub returns : goal.returns
returns c =
    let client = c.args.client in
    rw (← c.state.view_is)
    (forgotten_so client _ c.end.new.self c.shift_remove.new.self.entries c.shift_remove-2.new.self.keys c.end.ensures c.shift_remove.ensures.entries
    (gone_of client c.state.inside.reclaimed.keys c.shift_remove-2.new.self.keys c.shift_remove-2.ensures.keys (c.shift_remove-2.ensures.updates.0 client ∙ cond-true _ false _ (eq-eqb client client refl))))
