use Rattle.std.proofs.Common.{Option, sym, subst}
use Rattle.std.specs.Prelude.{IfOk, OnErr}
use Rattle.cluster_model.specs.Server.{ServerState}
use Rattle.ds_procedures.specs.ServerBases.{server_of}
use Rattle.ds_log.specs.Bodies.{Logged}
use Rattle.ds_log.specs.Applies.{Applies, NeedsMemory}
use Rattle.ds_log.proofs.Reread.{read_applies, read_is}
use Rattle.ds_log.proofs.replay.Replayed.apply.Goals as goal

pub returns-clause-applied : goal.returns-clause-applied
returns-clause-applied c =
    let old = server_of c.self.inside.head c.self.inside.files.items in
    let new = server_of c.apply_body.new.head c.apply_body.new.files.items in
    subst (λ (s : ServerState). IfOk c.apply_body.result (λ fits. Applies s c.args.body.now fits new)) c.self.view_is (read_applies old new c.args.body.now c.in-Ok.body c.apply_body.result c.in-Ok.ensures c.apply_body.ensures.came)

pub returns-clause-wanted : goal.returns-clause-wanted
returns-clause-wanted c = subst (λ (o : Option Logged). OnErr c.apply_body.result (NeedsMemory o)) (sym (read_is c.args.body.now c.in-Ok.body c.in-Ok.ensures)) c.apply_body.ensures.wanted
