use Rattle.std.proofs.lemmas.Iterator.Adapters.{position_from-zero}
use Rattle.nfs4_session.specs.Clients.{has_number}
use Rattle.nfs4_session.proofs.client_sessions.place_of.Goals as goal

pub loop-place-init : goal.loop-place-init
loop-place-init c = position_from-zero (has_number c.args.number) c.args.sessions.now
