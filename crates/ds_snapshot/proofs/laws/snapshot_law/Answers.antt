use Rattle.ds_snapshot.proofs.Playing.{snapshot_plays}
use Rattle.ds_snapshot.proofs.laws.snapshot_law.Goals as goal

pub returns : goal.returns
returns c = record { plays = snapshot_plays }
