use Rattle.node_histories.proofs.Told.{told_so, of_told}
use Rattle.node_histories.proofs.Starts.{begins}
use Rattle.node_histories.proofs.Events.{goes_on}
use Rattle.node_histories.proofs.laws.node_histories.Goals as goal

pub returns-clause-starts : goal.returns-clause-starts
returns-clause-starts c = begins

pub returns-clause-goes_on : goal.returns-clause-goes_on
returns-clause-goes_on c = λ w event i truth fits. of_told _ (goes_on event w (told_so w i) truth fits)
