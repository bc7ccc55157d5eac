use Rattle.std.proofs.Common.{ap, ◌∙◌}
use Rattle.rpc_record.specs.Rpc.{plain_credential}
use Rattle.nfs3_wire.specs.Calls.{plain_call}
use Rattle.cluster_model.specs.Server.{server_after}
use Rattle.ds_procedures.specs.CodePlans.{plain_effect}
use Rattle.ds_files.proofs.Deciding.{call_refused}
use Rattle.ds_files.proofs.server.DataServer.apply.Goals as goal

pub returns-clause-ok : goal.returns-clause-ok
returns-clause-ok c = c.in_ok-carry_out.ensures.ok ∙ ap (server_after c.args.self.now) c.in_ok-decision.ensures.effect_is

pub returns-clause-refused : goal.returns-clause-refused
returns-clause-refused c =
    call_refused c.args.self.now c.carry_out.new.self (plain_call c.args.call.now) (plain_credential c.args.cred.now) c.in_ok-decision.decision.answer (plain_effect c.in_ok-decision.decision.effect) c.in_ok-decision.ensures c.in_ok-carry_out.ensures.ok
