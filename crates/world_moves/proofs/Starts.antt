-- A new world is a new machine's.
use Rattle.std.proofs.Common.{◌≡◌, ◌<◌, ◌≤◌, ℕ, zero, suc, ◌+◌, ◌^◌, List, [], ◌∷◌, length, refl, sym, ap, subst, ◌∙◌, arith}
use Rattle.std.specs.Prelude.{map, replicate}
use Rattle.std.specs.List.{range_with_len, AllByRecursion}
use Rattle.cluster_model.specs.Server.{ServerState, new_server}
use Rattle.cluster_laws.specs.Machine.{new_machine}
use Rattle.cluster_laws.specs.FenceLaw.{new_servers}
use Rattle.mds_moves.specs.MdsMoves.{NewIsMdsOf}
use Rattle.proper_servers.specs.ProperServers.{IsProper}
use Rattle.world_rule.specs.Machines.{address_of}
use Rattle.world_rule.specs.ClusterWorlds.{new_cluster}
use Rattle.world_moves.specs.WorldMoves.{IsRunOf}

abbrev pub at_boot_1 : ℕ → ServerState
at_boot_1 n = new_server n 1

pub servers_are : (first count : ℕ) → map at_boot_1 (range_with_len first count) ≡ new_servers first (replicate count 1)
servers_are first zero = refl
servers_are first (suc count) = ap (λ (l : List ServerState). at_boot_1 first ∷ l) (servers_are (first + 1) count)

pub length_there : {A : Type 0} (f : ℕ → A) (first count : ℕ) → length (map f (range_with_len first count)) ≡ count
length_there f first zero = refl
length_there f first (suc count) = ap suc (length_there f (first + 1) count)

pub length_boots : (count : ℕ) → length {A = ℕ} (replicate count 1) ≡ count
length_boots zero = refl
length_boots (suc count) = ap suc (length_boots count)

module _ (new : NewIsMdsOf) (starts : (number boot : ℕ) → number < 2 ^ 32 → boot < 2 ^ 32 → IsProper (new_server number boot)) where
  pub all_proper : (first count : ℕ) → first + count ≤ 2 ^ 32 → AllByRecursion IsProper (map at_boot_1 (range_with_len first count))
  all_proper first zero few = tt
  all_proper first (suc count) few = (starts first 1 (omega (arith, few)) (omega arith), all_proper (first + 1) count (omega (arith, few)))

  -- of fewer than 2^32 data servers
  pub begins : (servers mirrors clients : ℕ) → servers < 2 ^ 32 → 1 ≤ mirrors → mirrors ≤ 4 → mirrors ≤ servers → IsRunOf (replicate servers 1) (new_cluster servers mirrors clients)
  begins servers mirrors clients few some most there = record {
    moves = [];
    machine = new_machine (new_servers 1 (replicate servers 1));
    reached = refl;
    told = refl;
    servers = servers_are 1 servers;
    proper = all_proper 1 servers (omega (arith, few));
    sends = [];
    mds =
        new (replicate servers 1) (map address_of (range_with_len 1 servers)) mirrors some most (subst (λ (n : ℕ). mirrors ≤ n) (sym (length_there address_of 1 servers)) there)
        (length_there address_of 1 servers ∙ sym (length_boots servers));
    forms = tt;
    packets = tt;
  }
