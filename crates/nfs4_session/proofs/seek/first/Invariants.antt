use Rattle.std.proofs.Common.{◌≡◌, drop}
use Rattle.std.specs.List.{position, position_from}
use Rattle.nfs4_session.specs.Seeks.{is_sought}
use Rattle.nfs4_session.proofs.seek.first.Given as goal

abbrev pub invariant-loop-place : goal.invariant-loop-place
invariant-loop-place l = position (is_sought l.seek) l.clients ≡ position_from (is_sought l.seek) l.place (drop l.place l.clients)
