use Rattle.std.proofs.Common.{◌∷◌, [], map, length, length-append, ap, ◌∙◌, arith}
use Rattle.client_state.specs.ClientStates.{fresh_client}
use Rattle.mirror_client.specs.ClientSteps.{ClientOfUser}
use Rattle.cluster_machines.proofs.Numbered.{one_more}
use Rattle.cluster_machines.proofs.first.new_clients.Goals as goal

pub loop-index-preserved : goal.loop-index-preserved
loop-index-preserved c =
    let xs = c.loop-index.clients.items in
    let x = c.in_ok-new_client.field-0 in
    let pushed = c.in_ok-push.ensures.items in
    record {
      fresh = ap (map (λ (d : ClientOfUser). d.client)) pushed ∙ one_more (λ (d : ClientOfUser). d.client) (λ n. fresh_client n 1 1) xs x c.loop-index.index c.loop-index.invariant.fresh c.in_ok-new_client.ensures;
      count = omega (arith, ap length pushed, length-append xs (x ∷ []), c.loop-index.invariant.count);
    }
