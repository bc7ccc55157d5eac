use Rattle.mds_rule.specs.Events.{takes_tick}
use Rattle.cluster_machines.proofs.Acting.{mds_acted}
use Rattle.cluster_machines.proofs.machines.Machines.tick_mds.Goals as goal

pub returns : goal.returns
returns c = mds_acted c.args.self.now c.self.inside.mds c.tick.new.self c.self.inside.servers.items c.self.inside.clients.items c.self.view_is (takes_tick c.args.now) c.args.out.now c.tick.result c.tick.new.out c.tick.ensures
