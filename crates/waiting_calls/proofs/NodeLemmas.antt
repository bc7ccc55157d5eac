-- Nodes that are the same.
use Rattle.std.proofs.Common.{◌≡◌, true, false, refl, ap}
use Rattle.std.proofs.lemmas.Bool.{eq-eqb, eqb-true}
use Rattle.cluster_model.specs.declared.ids.NodeId.{NodeId}
use Rattle.cluster_model.specs.declared.ids.NodeId.TheVariants.{Mds, Server, Client}
use Rattle.cluster_model.specs.Nodes.{is_node}

pub is_one : (a b : NodeId) → is_node a b ≡ true → a ≡ b
is_one Mds Mds is = refl
is_one Mds (Server m) is = absurd (cc)
is_one Mds (Client m) is = absurd (cc)
is_one (Server n) Mds is = absurd (cc)
is_one (Server n) (Server m) is = ap Server (eqb-true n m is)
is_one (Server n) (Client m) is = absurd (cc)
is_one (Client n) Mds is = absurd (cc)
is_one (Client n) (Server m) is = absurd (cc)
is_one (Client n) (Client m) is = ap Client (eqb-true n m is)

pub is_itself : (a : NodeId) → is_node a a ≡ true
is_itself Mds = refl
is_itself (Server n) = eq-eqb n n refl
is_itself (Client n) = eq-eqb n n refl
