use Rattle.std.proofs.Common.{◌∷◌, [], map, length, length-append, ap, ◌∙◌, arith}
use Rattle.device_addr.specs.Universal.{address_value}
use Rattle.world_rule.specs.Machines.{address_of}
use Rattle.cluster_machines.proofs.Numbered.{one_more}
use Rattle.cluster_machines.proofs.first.addresses.Goals as goal

pub loop-index-preserved : goal.loop-index-preserved
loop-index-preserved c =
    let xs = c.loop-index.servers.items in
    let x = c.local.result in
    let pushed = c.in_ok-push.ensures.items in
    record {
      values = ap (map address_value) pushed ∙ one_more address_value address_of xs x c.loop-index.index c.loop-index.invariant.values c.local.ensures;
      count = omega (arith, ap length pushed, length-append xs (x ∷ []), c.loop-index.invariant.count);
    }
