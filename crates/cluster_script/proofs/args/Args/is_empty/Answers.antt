use Rattle.cluster_script.proofs.ArgLemmas.{none_seen}
use Rattle.cluster_script.proofs.args.Args.is_empty.Goals as goal

pub returns : goal.returns
returns c = none_seen c.self.inside.text c.args.self.now c.is_none.result c.self.view_is c.is_none.ensures
