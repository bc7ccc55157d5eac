use Rattle.mds_room.proofs.RoomKept.{runs_have_room}
use Rattle.mds_room.proofs.UidsFew.{short_runs}
use Rattle.mds_room.proofs.SetupStays.{setup_stays}
use Rattle.mds_room.proofs.laws.room_law.Goals as goal

pub returns : goal.returns
returns c = record { room = runs_have_room; short = short_runs runs_have_room; setup = setup_stays }
