use Rattle.std.proofs.Common.{◌∙◌}
use Rattle.cluster_model.specs.Server.{new_server}
use Rattle.cluster_machines.proofs.Numbered.{one_more_as_it_is}
use Rattle.cluster_machines.proofs.first.new_servers.Goals as goal

pub loop-index-preserved : goal.loop-index-preserved
loop-index-preserved c = c.in_ok-push.ensures.items ∙ one_more_as_it_is (λ n. new_server n 1) c.loop-index.servers.items c.new.result c.loop-index.index c.loop-index.invariant c.new.ensures
