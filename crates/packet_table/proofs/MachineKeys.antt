-- Two machines have a number that no other two have.
use Rattle.std.proofs.Common.{◌≡◌, ◌<◌, Bool, true, false, nat_eq, refl, sym, ap, ◌∙◌, arith}
use Rattle.std.specs.Prelude.{◌&&◌}
use Rattle.std.proofs.lemmas.Bool.{eq-eqb, ne_eqb, eqb-true, and_parts, and_from}
use Rattle.cluster_model.specs.declared.ids.NodeId.{NodeId}
use Rattle.cluster_model.specs.declared.ids.NodeId.TheVariants.{Mds, Server, Client}
use Rattle.cluster_model.specs.Nodes.{is_node}
use Rattle.packet_table.specs.PacketLines.{node_key, pair_key, IsMachine}

pub key_small : (a : NodeId) → IsMachine a → node_key a < 17179869184
key_small Mds is = omega (arith)
key_small (Server n) is = let small : n < 4294967296 = is in omega (arith, small)
key_small (Client n) is = let small : n < 4294967296 = is in omega (arith, small)

-- machines of one number are the same
pub same_machine : (a b : NodeId) → IsMachine a → IsMachine b → node_key a ≡ node_key b → is_node a b ≡ true
same_machine Mds Mds is is' same = refl
same_machine Mds (Server m) is is' same = absurd (omega (arith, same))
same_machine Mds (Client m) is is' same = absurd (omega (arith, same))
same_machine (Server n) Mds is is' same = absurd (omega (arith, same))
same_machine (Server n) (Server m) is is' same = eq-eqb n m (omega (arith, same))
same_machine (Server n) (Client m) is is' same = let small : n < 4294967296 = is in absurd (omega (arith, same, small))
same_machine (Client n) Mds is is' same = absurd (omega (arith, same))
same_machine (Client n) (Server m) is is' same = let small : m < 4294967296 = is' in absurd (omega (arith, same, small))
same_machine (Client n) (Client m) is is' same = eq-eqb n m (omega (arith, same))

pub is_one : (a b : NodeId) → is_node a b ≡ true → a ≡ b
is_one Mds Mds is = refl
is_one Mds (Server m) is = absurd (cc)
is_one Mds (Client m) is = absurd (cc)
is_one (Server n) Mds is = absurd (cc)
is_one (Server n) (Server m) is = ap Server (eqb-true n m is)
is_one (Server n) (Client m) is = absurd (cc)
is_one (Client n) Mds is = absurd (cc)
is_one (Client n) (Server m) is = absurd (cc)
is_one (Client n) (Client m) is = ap Client (eqb-true n m is)

-- the test of their numbers is the test of both machines
pub key_test : (a b a' b' : NodeId) → IsMachine a → IsMachine b → IsMachine a' → IsMachine b' → nat_eq (pair_key a b) (pair_key a' b') ≡ (is_node a a' && is_node b b')
key_test a b a' b' is_a is_b is_a' is_b' = by_case (is_node a a' && is_node b b') refl
  where
    both_same : pair_key a b ≡ pair_key a' b' → (is_node a a' && is_node b b') ≡ true
    both_same same =
        let small = key_small b is_b in
        let small' = key_small b' is_b' in
        and_from (is_node a a') (is_node b b')
        (same_machine a a' is_a is_a' (omega (arith, small, small', same)))
        (same_machine b b' is_b is_b' (omega (arith, small, small', same)))

    by_case : (t : Bool) → (is_node a a' && is_node b b') ≡ t → nat_eq (pair_key a b) (pair_key a' b') ≡ (is_node a a' && is_node b b')
    by_case true is =
        let parts = and_parts (is_node a a') (is_node b b') is in
        eq-eqb (pair_key a b) (pair_key a' b') (ap (λ m. pair_key m b) (is_one a a' parts.0) ∙ ap (pair_key a') (is_one b b' parts.1)) ∙ sym is
    by_case false other = ne_eqb (pair_key a b) (pair_key a' b') (λ same. absurd (cc (both_same same, other))) ∙ sym other
