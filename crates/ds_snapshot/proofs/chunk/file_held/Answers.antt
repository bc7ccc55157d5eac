use Rattle.ds_snapshot.proofs.Written.{file_short}
use Rattle.ds_snapshot.proofs.chunk.file_held.Goals as goal

pub spelled-requires-clause-short : goal.spelled-requires-clause-short
spelled-requires-clause-short c = file_short c.args.fileid c.args.name.now c.owner.result c.group.result c.mode.result c.stable_times.result c.requires
