use Rattle.client_progress.proofs.PaceLemmas.{paces}
use Rattle.client_progress.proofs.laws.pace_law.Goals as goal

pub returns : goal.returns
returns c = paces c.client_law.ensures.numbers
