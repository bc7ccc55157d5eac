use Rattle.std.proofs.Common.{◌≡◌, length, map}
use Rattle.std.specs.List.{range_with_len}
use Rattle.client_state.specs.ClientStates.{fresh_client}
use Rattle.cluster_machines.proofs.first.new_clients.Given as goal

abbrev pub invariant-loop-index : goal.invariant-loop-index
invariant-loop-index l = record {
  fresh : map (λ c. c.client) l.clients.items ≡ map (λ n. fresh_client n 1 1) (range_with_len 1 l.index);
  count : length l.clients.items ≡ l.index;
}
