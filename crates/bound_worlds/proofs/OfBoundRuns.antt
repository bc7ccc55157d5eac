-- A new world is a bound run, and what holds of the journal of a bound run.
use Rattle.std.proofs.Common.{◌≡◌, ◌<◌, ◌≤◌, ℕ, ◌+◌, ◌^◌, List, [], ◌∷◌, ◌++◌, length, Some, refl, sym, ap, subst, ◌∙◌, arith}
use Rattle.std.specs.Prelude.{map, replicate}
use Rattle.std.specs.List.{range_with_len, AllByRecursion}
use Rattle.cluster_model.specs.declared.ids.NodeId.{NodeId}
use Rattle.cluster_model.specs.declared.ids.FileId.{FileId}
use Rattle.cluster_model.specs.declared.ids.MirrorId.{MirrorId}
use Rattle.cluster_model.specs.declared.entry.Entry.{Entry}
use Rattle.cluster_model.specs.declared.entry.Entry.TheVariants as entry
use Rattle.cluster_model.specs.Journal.{Copy, content_of}
use Rattle.cluster_model.specs.Server.{ServerState, new_server}
use Rattle.cluster_laws.specs.Machine.{Move, new_machine, journal_of}
use Rattle.cluster_laws.specs.FenceLaw.{live_in, new_servers}
use Rattle.cluster_laws.specs.Agreement.{causes_of, AgreesAlways}
use Rattle.cluster_laws.specs.Holders.{AgreementLaw}
use Rattle.cluster_laws.specs.Telling.{telling, SaysTheSame}
use Rattle.cluster_laws.proofs.SameTold.{TellSame, same_told}
use Rattle.cluster_laws.proofs.Lists.{all_more}
use Rattle.machine_moves.proofs.Going.{telling_append}
use Rattle.mds_moves.specs.MdsMoves.{NewIsMdsOf}
use Rattle.mds_moves.specs.MdsBinds.{NewHasOwnWrites}
use Rattle.mds_rule.specs.MdsStates.{new_mds}
use Rattle.proper_servers.specs.ProperServers.{IsProper}
use Rattle.world_rule.specs.Machines.{address_of}
use Rattle.world_rule.specs.ClusterWorlds.{ClusterState, new_cluster}
use Rattle.world_moves.proofs.Starts.{servers_are, length_there, length_boots, all_proper}
use Rattle.holder_parts.specs.HeldOwners.{BelongTo, DoHoldersOwn}
use Rattle.held_mirrors.specs.HeldMirrors.{EachHolderOwns}
use Rattle.bound_worlds.specs.BoundWorlds.{IsBoundRunOf, NewIsBoundRun, BoundRunsAgree, BoundRunsOwn}

pub begins : NewIsMdsOf → NewHasOwnWrites → ((number boot : ℕ) → number < 2 ^ 32 → boot < 2 ^ 32 → IsProper (new_server number boot)) → NewIsBoundRun
begins new own starts servers mirrors clients few some most there = record {
  moves = [];
  machine = new_machine (new_servers 1 (replicate servers 1));
  reached = refl;
  told = refl;
  bound = tt;
  servers_are = servers_are 1 servers;
  proper = all_proper new starts 1 servers (omega (arith, few));
  sends = [];
  mds_is =
      new (replicate servers 1) (map address_of (range_with_len 1 servers)) mirrors some most (subst (λ (n : ℕ). mirrors ≤ n) (sym (length_there address_of 1 servers)) there)
      (length_there address_of 1 servers ∙ sym (length_boots servers));
  own = own [] [] (map address_of (range_with_len 1 servers)) mirrors;
  forms = tt;
  carried = tt;
  stages = [];
  stages_are = refl;
  brought = refl;
  matched = tt;
}

pub agree : ((journal : List Entry) → SaysTheSame journal) → ((boots : List ℕ) (moves : List Move) → AgreementLaw boots moves) → BoundRunsAgree
agree same law boots w i f =
    (((same w.journal).agreement f).0) (subst (λ (l : List Entry). AgreesAlways l f) i.told (law boots i.moves i.bound f))

pub own : ((boots : List ℕ) (moves : List Move) → EachHolderOwns boots moves) → BoundRunsOwn
own law boots w i before since f uid holder live split at_live none =
    let told : journal_of (new_machine (new_servers 1 boots)) i.moves ≡ telling before ++ entry.Granted f (record { 0 = uid }) holder ∷ telling since =
    i.told ∙ (ap telling split ∙ telling_append before (entry.Granted f (record { 0 = uid }) holder ∷ since)) in
    let belong : BelongTo (telling w.journal) uid live =
    subst (λ (l : List Entry). BelongTo l uid live) i.told
    (law boots i.moves i.bound (telling before) (telling since) f uid holder live told ((same_told before).live f ∙ at_live) ((same_told since).causes uid ∙ none)) in
    all_more (λ m. (content_of (telling w.journal) m).owner ≡ uid) (λ m. (content_of w.journal m).owner ≡ uid) live (λ m is. ap (λ (c : Copy). c.owner) (sym ((same_told w.journal).content m)) ∙ is) belong
