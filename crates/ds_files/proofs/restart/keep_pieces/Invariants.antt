use Rattle.std.proofs.Common.{take}
use Rattle.ds_files.specs.Kept.{AreBounded, AreKept}
use Rattle.ds_files.proofs.restart.keep_pieces.Given as goal

abbrev pub invariant-loop-piece : goal.invariant-loop-piece
invariant-loop-piece l = AreBounded l.files l.kept.items × AreKept l.files (take l.piece-index l.pieces) l.kept.items
