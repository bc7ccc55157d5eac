use Rattle.std.proofs.Common.{◌+◌, Some, length, refl}
use Rattle.std.proofs.lemmas.Result.{IfOk-weaker}
use Rattle.cluster_model.specs.Ticks.{next_tick}
use Rattle.cluster_model.specs.Server.{NewFile}
use Rattle.ds_log.specs.Bodies.{Logged, Creates}
use Rattle.ds_changes.specs.Changes.{BodyOf}
use Rattle.ds_changes.proofs.BodySizes.{spells, create_short}
use Rattle.ds_changes.proofs.body.created.Goals as goal

pub returns : goal.returns
returns c =
    let s = c.args.server.now in
    let name = c.args.name.now in
    let effect = NewFile name c.args.owner c.args.group c.args.mode in
    let body : Logged = Creates name (length s.files + 2) c.args.owner c.args.group c.args.mode (next_tick s.clock) in
    let made = rw (c.file_count.ensures.exact, c.next-tick.ensures, c.clock.ensures) at c.spelled.ensures in
    IfOk-weaker c.spelled.result _ _ (λ bytes is. spells (λ (b : Logged). BodyOf s effect (Some b)) body bytes.items refl (create_short name (length s.files + 2) c.args.owner c.args.group c.args.mode (next_tick s.clock) c.requires.made.short) is) made
