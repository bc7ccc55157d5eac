use Rattle.std.proofs.Common.{◌≡◌, is_some, length}
use Rattle.ff_script.specs.Pieces.{pieces_at}
use Rattle.ff_script.proofs.pieces.are_pieces.Given as goal

abbrev pub invariant-loop-part : goal.invariant-loop-part
invariant-loop-part l = is_some (pieces_at l.fn.text) ≡ is_some (pieces_at l.rest)

abbrev pub decreases-loop-part : goal.decreases-loop-part
decreases-loop-part l = length l.rest
