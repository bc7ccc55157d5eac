use Rattle.std.proofs.Common.{ℕ, Option, None, Some, ap, subst, ◌∙◌, Vec, Global}
use Rattle.std.specs.Option.{option_map}
use Rattle.std.specs.Prelude.{vec_items}
use Rattle.ds_procedures.specs.CodePlans.{plain_effect}
use Rattle.ds_log.specs.Durable.{applied_bytes, durable}
use Rattle.ds_changes.specs.Logging.{Logs}
use Rattle.ds_store.proofs.Keeping.{record_made}
use Rattle.ds_store.proofs.staging.record_of.Goals as goal

pub returns-in_ok-new-in-Some : goal.returns-in_ok-new-in-Some
returns-in_ok-new-in-Some c =
    let server = c.args.server.now in
    let what = plain_effect c.args.effect.now in
    let logs = subst (λ (o : Option (Vec ℕ Global)). Logs server what (option_map vec_items o)) c.in-Some.is c.in_ok-body.ensures in
    ap (applied_bytes (durable server)) (c.in_ok-new-in-Some.ensures ∙ c.deref.ensures.value) ∙ record_made server what (Some c.in-Some.body.items) c.requires.steady c.requires.can logs

pub returns-in-None : goal.returns-in-None
returns-in-None c =
    let server = c.args.server.now in
    let what = plain_effect c.args.effect.now in
    record_made server what None c.requires.steady c.requires.can (subst (λ (o : Option (Vec ℕ Global)). Logs server what (option_map vec_items o)) c.in-None.is c.in_ok-body.ensures)
