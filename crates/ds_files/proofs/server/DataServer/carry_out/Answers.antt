use Rattle.ds_procedures.specs.CodePlans.{plain_effect}
use Rattle.ds_files.proofs.Deciding.{ready_of}
use Rattle.ds_files.proofs.server.DataServer.carry_out.Goals as goal

pub carry_out-requires-clause-ready : goal.carry_out-requires-clause-ready
carry_out-requires-clause-ready c =
    ready_of c.self.inside.head c.self.inside.files.items c.args.self.now (plain_effect c.args.effect.now) c.self.invariant c.self.view_is c.requires
