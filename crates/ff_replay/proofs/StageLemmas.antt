-- What a delivery of a flow does to a cluster.
use Rattle.std.proofs.Common.{◌≡◌, ℕ, ◌+◌, ◌-◌, ◌<◌, ◌≤◌, Bool, true, length, Option, Some, None, Result, Ok, Err, refl, sym, subst, arith}
use Rattle.world_journal.specs.declared.fault.WorldFault.{WorldFault}
use Rattle.world_journal.specs.Journal.{max_entries}
use Rattle.packet_table.specs.Packets.{next_waiting}
use Rattle.world_rule.specs.ClusterWorlds.{ClusterState, packets, delivering}
use Rattle.cluster_world.specs.WorldSteps.{ClusterValue, Flows}
use Rattle.ff_replay.proofs.Flows.{delivered_more, few_within}

falls_by : (old new : ClusterValue) (o : Option ℕ) → next_waiting (packets old.world) ≡ o → Flows old.world o (Ok true) new → max_entries - length new.world.journal < max_entries - length old.world.journal
falls_by old new None at flows = absurd (cc (flows.0))
falls_by old new (Some number) at flows =
    let happened = flows.1 in
    let few : length new.world.journal ≤ max_entries = subst (λ (w : ClusterState). length w.journal ≤ max_entries) (sym happened.world) (few_within (delivering number old.world) happened.within) in
    let grown : length old.world.journal + 1 ≤ length new.world.journal = subst (λ (w : ClusterState). length old.world.journal + 1 ≤ length w.journal) (sym happened.world) (delivered_more old.world number at) in
    omega (arith, few, grown)

falls_for : (old new : ClusterValue) (r : Result Bool WorldFault) → r ≡ Ok true → Flows old.world (next_waiting (packets old.world)) r new → max_entries - length new.world.journal < max_entries - length old.world.journal
falls_for old new r is flows = falls_by old new (next_waiting (packets old.world)) refl (subst (λ q. Flows old.world (next_waiting (packets old.world)) q new) is flows)

-- where a packet came, fewer entries fit
pub falls : (old new : ClusterValue) (r : Result Bool WorldFault) → r ≡ Ok true → (old.spent ≡ None → Flows old.world (next_waiting (packets old.world)) r new) → ((fault : WorldFault) → old.spent ≡ Some fault → (r ≡ Err fault) × (new ≡ old))
    → max_entries - length new.world.journal < max_entries - length old.world.journal
falls old new r is flows spent = by_spent old.spent refl
  where
    by_spent : (o : Option WorldFault) → old.spent ≡ o → max_entries - length new.world.journal < max_entries - length old.world.journal
    by_spent None fresh = falls_for old new r is (flows fresh)
    by_spent (Some fault) at = absurd (cc (is, (spent fault at).0))
