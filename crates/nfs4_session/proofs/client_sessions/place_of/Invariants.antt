use Rattle.std.proofs.Common.{◌≡◌, drop}
use Rattle.std.specs.List.{position, position_from}
use Rattle.nfs4_session.specs.Clients.{has_number}
use Rattle.nfs4_session.proofs.client_sessions.place_of.Given as goal

abbrev pub invariant-loop-place : goal.invariant-loop-place
invariant-loop-place l = position (has_number l.number) l.sessions ≡ position_from (has_number l.number) l.place (drop l.place l.sessions)
