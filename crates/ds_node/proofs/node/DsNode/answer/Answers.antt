use Rattle.std.proofs.Common.{rules, ◌≡◌, ◌++◌, subst}
use Rattle.cluster_model.specs.Server.{ServerState}
use Rattle.ds_files.specs.Receive.{outcome_of}
use Rattle.ds_files.specs.Records.{sent_to}
use Rattle.ds_store.specs.Kept.{KeptState}
use Rattle.ds_node.specs.DsNodes.{KeepsSettled, server_leaves}
use Rattle.ds_node.proofs.Answering.{leaves_settled, none_given}
use Rattle.ds_node.proofs.node.DsNode.answer.Goals as goal

pub returns-in-Err-clause-keeps : goal.returns-in-Err-clause-keeps
returns-in-Err-clause-keeps g c =
    let disk = g.D.Disk.told c.args.disk.now in
    let spare = g.D.Disk.told c.args.spare.now in
    let new = c.take_record.new in
    subst (λ (k : KeptState). (settled : ServerState) → KeepsSettled settled k disk spare → (broken : ServerState) → server_leaves settled broken (g.D.Disk.told new.disk) (g.D.Disk.told new.spare)) c.self.view_is
    (λ settled kept broken. leaves_settled settled broken c.self.inside.kept new.self disk spare (g.D.Disk.told new.disk) (g.D.Disk.told new.spare) c.take_record.result c.take_record.ensures.waits kept)

pub returns-clause-none : goal.returns-clause-none
returns-clause-none g c =
    none_given c.args.out.now.sends.items c.args.from (outcome_of c.args.self.now.server c.args.bytes.now).reply c.take_record.new.out.sends.items c.len-before.result c.len.result (search rules) (search rules)
    (subst (λ (k : KeptState). c.take_record.new.out.sends.items ≡ c.args.out.now.sends.items ++ sent_to c.args.from (outcome_of k.server c.args.bytes.now).reply) c.self.view_is c.in_default.ensures.posts.1)
