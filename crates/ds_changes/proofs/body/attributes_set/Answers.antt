use Rattle.std.proofs.Common.{◌+◌, Some, refl}
use Rattle.std.proofs.lemmas.Result.{IfOk-weaker}
use Rattle.cluster_model.specs.Ticks.{next_tick}
use Rattle.cluster_model.specs.File.{StoredFile, Sets, set}
use Rattle.ds_log.specs.Bodies.{Logged}
use Rattle.ds_changes.specs.Changes.{OpBody, attributes_body}
use Rattle.ds_changes.proofs.BodySizes.{spells, set_short}
use Rattle.ds_changes.proofs.body.attributes_set.Goals as goal

pub returns : goal.returns
returns c =
    let f = c.args.file.now in
    let g : StoredFile = set f (next_tick c.args.clock) c.args.changes.now in
    let made = rw (c.unwrap_or.ensures, c.unwrap_or-2.ensures, c.unwrap_or-3.ensures, c.owner.ensures, c.group.ensures, c.mode.ensures, c.times_set.ensures, c.times.ensures, c.next.ensures) at c.spelled.ensures in
    IfOk-weaker c.spelled.result _ _ (λ bytes is. spells (λ (b : Logged). OpBody c.args.clock c.args.index f (Sets c.args.changes.now) (Some b)) (attributes_body c.args.index g) bytes.items refl (set_short (c.args.index + 2) g.owner g.group g.mode g.times) is) made
