use Rattle.std.proofs.Common.{◌≡◌, map}
use Rattle.std.specs.List.{range_with_len}
use Rattle.cluster_model.specs.Server.{new_server}
use Rattle.cluster_machines.proofs.first.new_servers.Given as goal

abbrev pub invariant-loop-index : goal.invariant-loop-index
invariant-loop-index l = l.servers.items ≡ map (λ n. new_server n 1) (range_with_len 1 l.index)
