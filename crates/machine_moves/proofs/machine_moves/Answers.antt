use Rattle.machine_moves.proofs.Going.{goes_by, goes_then}
use Rattle.machine_moves.proofs.Packets.{moves_keep}
use Rattle.machine_moves.proofs.machine_moves.Goals as goal

pub returns-clause-moves : goal.returns-clause-moves
returns-clause-moves c = goes_by

pub returns-clause-joins : goal.returns-clause-joins
returns-clause-joins c = goes_then

pub returns-clause-packets : goal.returns-clause-packets
returns-clause-packets c = moves_keep
