-- A bound run goes on: by moves with the entries that they tell, by entries that tell nothing, and by one note.
use Rattle.std.proofs.Common.{◌≡◌, ℕ, ◌+◌, Bool, true, false, List, [], ◌∷◌, ◌++◌, length, Some, refl, sym, ap, subst, ◌∙◌, arith}
use Rattle.std.specs.Prelude.{slice_get}
use Rattle.std.specs.List.{AllByRecursion}
use Rattle.std.proofs.lemmas.List.{append_assoc, append-nil}
use Rattle.cluster_model.specs.declared.entry.Entry.{Entry}
use Rattle.cluster_model.specs.Server.{ServerState}
use Rattle.cluster_model.specs.Members.{IsOneOf}
use Rattle.cluster_laws.specs.Machine.{PacketValue, Machine, Move, MachineStep, new_machine, moved, machine_after, journal_of}
use Rattle.cluster_laws.specs.FenceLaw.{new_servers}
use Rattle.cluster_laws.specs.Holders.{AreBound, AreBoundFrom}
use Rattle.cluster_laws.specs.Telling.{telling}
use Rattle.machine_moves.specs.MachineMoves.{KeepsPackets}
use Rattle.machine_moves.proofs.Going.{telling_append, after_append, journal_append}
use Rattle.machine_moves.proofs.Bound.{bound_join}
use Rattle.mds_rule.specs.MdsStates.{MdsSend, MdsValue}
use Rattle.mds_walk.proofs.Lists.{AllOf}
use Rattle.mds_forms.specs.Forms.{IsInForm}
use Rattle.mds_forms.proofs.FormedSends.{all_join}
use Rattle.mds_moves.specs.MdsMoves.{IsMdsOf}
use Rattle.mds_moves.specs.MdsBinds.{MdsHasOwnWrites}
use Rattle.proper_servers.specs.ProperServers.{IsProper}
use Rattle.world_moves.specs.WorldMoves.{IsEntryCarried}
use Rattle.world_moves.proofs.MdsLike.{all_carried}
use Rattle.bound_worlds.specs.MatchedPackets.{Stage, Shows, Hides, entries_of, packets_of, AreMatched}
use Rattle.bound_worlds.specs.BoundWorlds.{IsBoundRun}
use Rattle.bound_worlds.proofs.StageLists.{packets_join, entries_join, matched_join}

-- what more there is of a run: moves, with the stages of what they enter and send
pub record GoesFurther (boots : List ℕ) (old : Machine) (journal : List Entry) (more : List Entry) (sends : List MdsSend) (n : Machine) : Type 0 where
  pub moves : List Move
  pub machine : machine_after old moves ≡ n
  pub told : journal_of old moves ≡ telling more
  pub bound : AreBoundFrom old (telling journal) moves
  pub stages : List Stage
  pub stages_are : entries_of stages ≡ more
  pub brought : old.packets ++ packets_of stages ≡ n.packets
  pub matched : AreMatched journal (length old.packets) stages
  pub carried : AllByRecursion (IsEntryCarried n sends) more

module _ (boots : List ℕ) (servers : List ServerState) (mds : MdsValue) (journal : List Entry) (i : IsBoundRun boots servers mds journal) where
  abbrev begun : Machine
  begun = new_machine (new_servers 1 boots)

  pub goes : (more : List Entry) (sends : List MdsSend) (n : Machine) (then : List ServerState) (m : MdsValue) → GoesFurther boots i.machine journal more sends n → ((s : MdsSend) → IsOneOf s i.sends → IsOneOf s sends) → KeepsPackets i.machine n
      → then ≡ n.servers → AllByRecursion IsProper then → IsMdsOf n m sends → MdsHasOwnWrites n.packets (telling (journal ++ more)) m sends → AllOf IsInForm sends → IsBoundRun boots then m (journal ++ more)
  goes more sends n then m g longer keeps servers_are proper mds_is own forms =
      let told : journal_of begun (i.moves ++ g.moves) ≡ telling (journal ++ more) =
      journal_append begun i.moves g.moves
      ∙ (ap (λ (x : Machine). journal_of begun i.moves ++ journal_of x g.moves) i.reached ∙ (ap (λ (l : List Entry). l ++ journal_of i.machine g.moves) i.told ∙ (ap (λ (l : List Entry). telling journal ++ l) g.told ∙ sym (telling_append journal more)))) in
      let bound : AreBoundFrom (machine_after begun i.moves) ([] ++ journal_of begun i.moves) g.moves =
      subst (λ (x : Machine). AreBoundFrom x ([] ++ journal_of begun i.moves) g.moves) (sym i.reached) (subst (λ (l : List Entry). AreBoundFrom i.machine l g.moves) (sym i.told) g.bound) in
      record {
        moves = i.moves ++ g.moves;
        machine = n;
        reached = after_append begun i.moves g.moves ∙ (ap (λ (x : Machine). machine_after x g.moves) i.reached ∙ g.machine);
        told = told;
        bound = bound_join begun [] i.moves g.moves i.bound bound;
        servers_are = servers_are;
        proper = proper;
        sends = sends;
        mds_is = mds_is;
        own = own;
        forms = forms;
        carried = all_join (IsEntryCarried n sends) journal more (all_carried i.machine n keeps i.sends sends longer journal i.carried) g.carried;
        stages = i.stages ++ g.stages;
        stages_are = entries_join i.stages g.stages ∙ (ap (λ (l : List Entry). l ++ entries_of g.stages) i.stages_are ∙ ap (λ (l : List Entry). journal ++ l) g.stages_are);
        brought = packets_join i.stages g.stages ∙ (ap (λ (l : List PacketValue). l ++ packets_of g.stages) i.brought ∙ g.brought);
        matched =
            matched_join [] 0 i.stages g.stages i.matched
            (subst (λ (l : List Entry). AreMatched l (0 + length (packets_of i.stages)) g.stages) (sym i.stages_are)
            (subst (λ (l : List PacketValue). AreMatched journal (0 + length l) g.stages) (sym i.brought) (subst (λ (k : ℕ). AreMatched journal k g.stages) (sym (zero_plus (length i.machine.packets))) g.matched)));
      }
    where
      zero_plus : (k : ℕ) → 0 + k ≡ k
      zero_plus k = omega (arith)
