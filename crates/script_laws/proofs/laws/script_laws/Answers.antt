use Rattle.std.proofs.Common.{ℕ, ◌-◌, ◌≤◌, length, replicate, subst, arith}
use Rattle.world_rule.specs.ClusterWorlds.{ClusterState, behind}
use Rattle.cluster_model.specs.Event.{EventValue}
use Rattle.world_journal.specs.Journal.{IsJournalInRange}
use Rattle.proper_servers.specs.ProperServers.{IsProper}
use Rattle.world_moves.specs.WorldMoves.{IsRunOf, TellsTruth}
use Rattle.world_moves.proofs.ServerMoves.{all_at, at_place}
use Rattle.node_histories.specs.NodeHistories.{IsToldByNodes}
use Rattle.node_histories.specs.NodeHistories as node
use Rattle.holder_parts.specs.HolderParts.{HoldersKeepParts}
use Rattle.bound_worlds.specs.BoundWorlds.{IsBoundRunOf, BeginsOtherwise, MayHappen, EventsBeginOtherwise}
use Rattle.world_layouts.specs.WorldLayouts.{HoldersOwnAtDeliveries}
use Rattle.world_room.specs.WorldRoom.{IsWorldSmall}
use Rattle.mds_rule.specs.MdsStates.{MdsValue}
use Rattle.mds_walk.specs.MdsRuns.{MdsEvent, Ticks, after_event}
use Rattle.script_laws.specs.ScriptLaws.{ObeysPeriods}
use Rattle.script_laws.proofs.ClientCounts.{counts_still, new_count}
use Rattle.script_laws.proofs.DeliveriesFirst.{own_at_first, own_behind}
use Rattle.script_laws.proofs.KeptParts.{WorldLaws, keeps_parts, few_within, range_before}
use Rattle.script_laws.proofs.Scripts.{laws_of_scripts}
use Rattle.script_laws.proofs.laws.script_laws.Goals as goal

-- A world is a run of the machine, is told by its nodes, and has as many clients and data servers as a script may choose; where its journal is in
-- range it is a bound run, and the mirrors of each period that had not ended belonged to its uid whenever a record came.
record IsWorld (servers : ℕ) (w : ClusterState) : Type 0 where
  run : IsRunOf (replicate servers 1) w
  told : IsToldByNodes w
  few : length w.machines.clients ≤ 256
  some : length w.machines.servers ≤ 16
  bound : IsJournalInRange w.journal → IsBoundRunOf (replicate servers 1) w × HoldersOwnAtDeliveries w.journal

-- what the journal says is so, and each data server's numbers have room in their fields
proper_truth : (servers : ℕ) (w : ClusterState) → IsRunOf (replicate servers 1) w → TellsTruth w → node.TellsTruth w
proper_truth servers w run truth n s at = let t = truth n s at in (t.0, t.1, all_at IsProper w.machines.servers (n - 1) s run.proper (at_place w.machines.servers n s at))

-- an event may happen where holders keep their part behind it: no event of a metadata server begins with the end of a write of its own
may_happen : EventsBeginOtherwise → (event : EventValue) (w : ClusterState) → IsToldByNodes w → HoldersKeepParts (behind event w).journal → MayHappen event w
may_happen otherwise event w told parts = record {
  parts = parts;
  other = λ now.
      let e : MdsEvent = record { now = now; input = Ticks } in
      subst (λ (m : MdsValue). BeginsOtherwise (after_event e m).entries) told.mds_is.mds (otherwise told.mds.servers told.mds.mirrors told.mds.events e);
}

pub returns : goal.returns
returns c =
    let laws : WorldLaws = record {
      roomy = c.world_room.ensures.roomy;
      in_order = c.world_layouts.ensures.in_order;
      refusals = c.world_fences.ensures.refusals;
      once = c.world_grants.ensures.once;
      parts = c.world_holders.ensures.parts;
    } in
    laws_of_scripts IsWorld
    (λ servers mirrors clients most some few there count. record {
      run = c.world_moves.ensures.starts servers mirrors clients (omega (arith, most)) some few there;
      told = c.node_histories.ensures.starts servers mirrors clients;
      few = omega (arith, count, (new_count servers mirrors clients).0);
      some = omega (arith, most, (new_count servers mirrors clients).1);
      bound = λ range. (c.bound_worlds.ensures.starts servers mirrors clients (omega (arith, most)) some few there, own_at_first);
    })
    (λ servers event w fits within is.
    let run = c.world_moves.ensures.goes_on (replicate servers 1) event w is.run in
    let told = c.node_histories.ensures.goes_on w event is.told (proper_truth servers w is.run (c.world_moves.ensures.truth (replicate servers 1) w is.run)) fits in
    let few : length (behind event w).machines.clients ≤ 256 = omega (arith, is.few, (counts_still event w).0) in
    let some : length (behind event w).machines.servers ≤ 16 = omega (arith, is.some, (counts_still event w).1) in
    record {
      run = run;
      told = told;
      few = few;
      some = some;
      bound = λ range.
          let before = is.bound (range_before event w range) in
          let own = own_behind event w before.1 (c.bound_worlds.ensures.owners (replicate servers 1) w before.0) in
          let small : IsWorldSmall (behind event w) = record {
            few_clients = omega (arith, few);
            few_servers = omega (arith, some);
            few_entries = few_within (behind event w).journal within;
            range = range;
          } in
          let parts = keeps_parts laws (replicate servers 1) (behind event w) run told small own in
          (c.bound_worlds.ensures.goes_on (replicate servers 1) event w before.0 (may_happen c.bound_worlds.ensures.otherwise event w is.told parts), own);
    })
    (λ servers w is.
    let periods : ObeysPeriods w.journal = record {
      fences = c.world_moves.ensures.fences (replicate servers 1) w is.run;
      periods = c.world_moves.ensures.periods (replicate servers 1) w is.run;
      owners = c.world_moves.ensures.owners (replicate servers 1) w is.run;
    } in (
      periods,
      λ range. record {
        of_periods = periods;
        reads = c.world_reads.ensures.reads (replicate servers 1) w is.run is.told (omega (arith, is.few)) range;
        agreement = c.bound_worlds.ensures.agrees (replicate servers 1) w (is.bound range).0;
      },
    ))
    (λ servers w is. c.world_moves.ensures.truth (replicate servers 1) w is.run)
