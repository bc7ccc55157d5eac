use Rattle.std.proofs.Common.{map}
use Rattle.cluster_model.specs.File.{shown}
use Rattle.ds_changes.specs.HeldRanges.{plain_held}
use Rattle.ds_changes.specs.Logging.{own_of}
use Rattle.ds_changes.proofs.BodySizes.{few_joined}
use Rattle.ds_changes.proofs.StepBodies.{stable_spelled}
use Rattle.ds_changes.proofs.stable.stable_body.Goals as goal

pub bytes_held-requires-clause-few : goal.bytes_held-requires-clause-few
bytes_held-requires-clause-few c =
    let f = c.args.file.now in
    rw c.deref.ensures.value (few_joined f.content.pending (shown f) (map plain_held c.in_ok-ranges.ranges.items) (own_of c.args.own) c.requires.size c.in_ok-ranges.ensures c.requires.own)

pub returns : goal.returns
returns c =
    let held = rw c.deref.ensures.value at c.in_ok-bytes.ensures in
    stable_spelled c.args.index c.args.file.now c.args.times (own_of c.args.own) (map plain_held c.in_ok-ranges.ranges.items) c.in_ok-bytes.bytes.items c.if-is_settled.ensures.no c.in_ok-ranges.ensures held
