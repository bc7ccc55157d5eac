use Rattle.mds_laws.proofs.Handed.{hands_layouts}
use Rattle.mds_laws.proofs.TakesNone.{takes_no_layout_away}
use Rattle.mds_laws.proofs.handed_layouts_law.Goals as goal

pub returns : goal.returns
returns c = record { hands = hands_layouts; own = takes_no_layout_away }
