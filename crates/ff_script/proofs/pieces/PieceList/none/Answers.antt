use Rattle.ff_script.proofs.PieceLemmas.{all_of_empty}
use Rattle.ff_script.proofs.pieces.PieceList.none.Goals as goal

pub returns : goal.returns
returns c = all_of_empty
