-- Which machines are the same.
use Rattle.std.specs.Prelude.{ℕ, Bool, true, false, ◌==◌}
use Rattle.cluster_model.specs.declared.ids.NodeId.{NodeId}
use Rattle.cluster_model.specs.declared.ids.NodeId.TheVariants.{Mds, Server, Client}

abbrev pub is_mds : NodeId → Bool
is_mds Mds = true
is_mds (Server n) = false
is_mds (Client n) = false

abbrev pub is_server : ℕ → NodeId → Bool
is_server k Mds = false
is_server k (Server n) = k == n
is_server k (Client n) = false

abbrev pub is_client : ℕ → NodeId → Bool
is_client k Mds = false
is_client k (Server n) = false
is_client k (Client n) = k == n

abbrev pub is_node : NodeId → NodeId → Bool
is_node Mds node = is_mds node
is_node (Server k) node = is_server k node
is_node (Client k) node = is_client k node
