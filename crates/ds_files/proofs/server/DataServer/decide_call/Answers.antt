use Rattle.rpc_record.specs.Rpc.{plain_credential}
use Rattle.nfs3_wire.specs.Calls.{plain_call}
use Rattle.ds_procedures.specs.CodePlans.{plain_plan}
use Rattle.ds_files.proofs.Deciding.{decides_call}
use Rattle.ds_files.proofs.server.DataServer.decide_call.Goals as goal

pub returns : goal.returns
returns c =
    let head = c.self.inside.head in
    let files = c.self.inside.files.items in
    let is = rw c.deref.ensures.value at c.plan_of-plan.ensures.plan in
    let ready = rw c.deref.ensures.value at c.plan_of-plan.ensures.ready in
    let made = rw c.deref-2.ensures.value at c.in_ok-entries.ensures in
    decides_call head files c.args.self.now (plain_call c.args.call.now) (plain_credential c.args.cred.now) (plain_plan c.plan_of-plan.result) c.self.invariant c.self.view_is is ready
    c.in_ok-answer.answer c.in_ok-entries.entries.items c.in_ok-answer.ensures made
