use Rattle.std.proofs.Common.{◌≡◌, List, ◌++◌, Some, length}
use Rattle.cluster_model.specs.declared.piece.Piece.{Piece}
use Rattle.ff_script.specs.Pieces.{pieces_at}
use Rattle.ff_script.proofs.pieces.PieceList.decode.Given as goal

abbrev pub invariant-loop-part : goal.invariant-loop-part
invariant-loop-part l =
    (left : List Piece) × (pieces_at l.rest ≡ Some left) × (l.pieces.items ++ left ≡ l.fn.self)

abbrev pub decreases-loop-part : goal.decreases-loop-part
decreases-loop-part l = length l.rest
