use Rattle.std.proofs.Common.{◌∙◌}
use Rattle.std.proofs.lemmas.Result.{err_from_is_err_and}
use Rattle.ds_procedures.specs.CodePlans.{plain_effect}
use Rattle.ds_store.proofs.Keeping.{after_decision}
use Rattle.ds_store.proofs.Waiting.{takes_not}
use Rattle.ds_store.proofs.kept.KeptServer.stage_record.Goals as goal

pub returns-in_err-decision-clause-waits : goal.returns-in_err-decision-clause-waits
returns-in_err-decision-clause-waits g c = λ settled began began_spare w.
    let p = err_from_is_err_and c.from_residual.result c.from_residual.ensures.1 in
    takes_not settled c.args.self.now began began_spare (g.D.Disk.told c.args.disk.now) (g.D.Disk.told c.args.spare.now) c.from_residual.result p.0 _ p.1 w

pub returns-in_err-post-clause-waits : goal.returns-in_err-post-clause-waits
returns-in_err-post-clause-waits g c = λ settled began began_spare w.
    let p = err_from_is_err_and c.from_residual-in_err-post.result c.from_residual-in_err-post.ensures.1 in
    takes_not settled c.args.self.now began began_spare (g.D.Disk.told c.args.disk.now) (g.D.Disk.told c.args.spare.now) c.from_residual-in_err-post.result p.0 _ p.1 w

pub returns-clause-becomes : goal.returns-clause-becomes
returns-clause-becomes g c = (
  c.in_default.ensures.becomes.0
      ∙ after_decision _ c.args.self.now (plain_effect c.in_ok-decision.decision.effect) c.args.message.now c.self.view_is c.in_ok-decision.ensures.effect_is,
  c.in_default.ensures.becomes.1,
)
