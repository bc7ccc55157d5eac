use Rattle.cluster_model.proofs.Moments.{keeps_times}
use Rattle.cluster_model.proofs.laws.stable_times.Goals as goal

pub returns : goal.returns
returns c = keeps_times
