-- A machine's part of an event: the run goes on, and its packets are carried.
use Rattle.std.proofs.Common.{◌≡◌, ℕ, ◌+◌, List, [], ◌∷◌, ◌++◌, refl, sym}
use Rattle.std.specs.List.{AllByRecursion}
use Rattle.cluster_model.specs.declared.ids.NodeId.{NodeId}
use Rattle.cluster_model.specs.declared.entry.Entry.{Entry}
use Rattle.cluster_model.specs.declared.entry.Entry.TheVariants.{Packet}
use Rattle.cluster_model.specs.Members.{IsOneOf}
use Rattle.cluster_laws.specs.Machine.{Machine, new_machine}
use Rattle.cluster_laws.specs.FenceLaw.{new_servers}
use Rattle.cluster_laws.specs.Telling.{telling}
use Rattle.machine_moves.specs.MachineGoesOn.{MachineGoesOn}
use Rattle.machine_moves.proofs.Going.{goes_quiet, goes_then}
use Rattle.machine_moves.proofs.Packets.{goes_keep}
use Rattle.mds_rule.specs.MdsStates.{MdsSend}
use Rattle.mds_walk.proofs.Lists.{AllOf}
use Rattle.mds_moves.specs.MdsMoves.{IsMdsOf}
use Rattle.proper_servers.specs.ProperServers.{IsProper}
use Rattle.world_rule.specs.Machines.{MachinesValue, Act}
use Rattle.world_journal.specs.SentPackets.{packets_of}
use Rattle.mds_forms.specs.Forms.{IsNoPacket, IsInForm}
use Rattle.mds_forms.proofs.FormedSends.{all_join}
use Rattle.world_moves.specs.WorldMoves.{IsCarried, IsEntryCarried, IsMachineRun}
use Rattle.world_moves.proofs.MdsLike.{all_carried}

-- packets tell nothing
packets_quiet : (from : NodeId) (sent : ℕ) (sends : List (NodeId × List ℕ)) → telling (packets_of from sent sends) ≡ []
packets_quiet from sent [] = refl
packets_quiet from sent ((to, bytes) ∷ sends) = packets_quiet from (sent + 1) sends

module _ (n : Machine) (ss : List MdsSend) where
  plain_carried : (e : Entry) → IsNoPacket e → IsEntryCarried n ss e
  plain_carried (Packet number from to bytes) none = absurd none
  plain_carried e none = tt

  pub entries_carried : (entries : List Entry) → AllByRecursion IsNoPacket entries → AllByRecursion (IsEntryCarried n ss) entries
  entries_carried [] none = tt
  entries_carried (e ∷ entries) none = (plain_carried e none.0, entries_carried entries none.1)

  packets_carried : (from : NodeId) (sent : ℕ) (sends : List (NodeId × List ℕ)) → AllByRecursion (λ (x : NodeId × List ℕ). IsCarried n ss from x.0 x.1) sends → AllByRecursion (IsEntryCarried n ss) (packets_of from sent sends)
  packets_carried from sent [] all = tt
  packets_carried from sent ((to, bytes) ∷ sends) all = (all.0, packets_carried from (sent + 1) sends all.1)

module _ (boots : List ℕ) (machines : MachinesValue) (journal : List Entry) (i : IsMachineRun boots machines journal) where
  so_far : MachineGoesOn (new_machine (new_servers 1 boots)) journal i.machine
  so_far = record { moves = i.moves; machine = i.reached; journal = sym i.told }

  -- the run goes on by what an act enters, to a machine whose servers and metadata server are those behind it
  pub acts : (node : NodeId) (sent : ℕ) (a : Act) (n : Machine) (ss : List MdsSend) → ((s : MdsSend) → IsOneOf s i.sends → IsOneOf s ss) → MachineGoesOn i.machine a.entries n → a.machines.servers ≡ n.servers
      → AllByRecursion IsProper a.machines.servers → IsMdsOf n a.machines.mds ss → AllOf IsInForm ss → AllByRecursion IsNoPacket a.entries
      → AllByRecursion (λ (x : NodeId × List ℕ). IsCarried n ss node x.0 x.1) a.sends → IsMachineRun boots a.machines (journal ++ (a.entries ++ packets_of node sent a.sends))
  acts node sent a n ss longer goes servers proper mds forms none carried =
      let both : MachineGoesOn i.machine (a.entries ++ packets_of node sent a.sends) n =
      goes_then i.machine n n a.entries (packets_of node sent a.sends) goes (goes_quiet n (packets_of node sent a.sends) (packets_quiet node sent a.sends)) in
      let all : MachineGoesOn (new_machine (new_servers 1 boots)) (journal ++ (a.entries ++ packets_of node sent a.sends)) n =
      goes_then (new_machine (new_servers 1 boots)) i.machine n journal (a.entries ++ packets_of node sent a.sends) so_far both in
      record {
        moves = all.moves;
        machine = n;
        reached = all.machine;
        told = sym all.journal;
        servers = servers;
        proper = proper;
        sends = ss;
        mds = mds;
        forms = forms;
        packets =
            all_join (IsEntryCarried n ss) journal (a.entries ++ packets_of node sent a.sends) (all_carried i.machine n (goes_keep i.machine n a.entries goes) i.sends ss longer journal i.packets)
            (all_join (IsEntryCarried n ss) a.entries (packets_of node sent a.sends) (entries_carried n ss a.entries none) (packets_carried n ss node sent a.sends carried));
      }

  -- entries that tell nothing
  pub enters : (entries : List Entry) → telling entries ≡ [] → AllByRecursion IsNoPacket entries → IsMachineRun boots machines (journal ++ entries)
  enters entries quiet none =
      let all : MachineGoesOn (new_machine (new_servers 1 boots)) (journal ++ entries) i.machine =
      goes_then (new_machine (new_servers 1 boots)) i.machine i.machine journal entries so_far (goes_quiet i.machine entries quiet) in
      record {
        moves = all.moves;
        machine = i.machine;
        reached = all.machine;
        told = sym all.journal;
        servers = i.servers;
        proper = i.proper;
        sends = i.sends;
        mds = i.mds;
        forms = i.forms;
        packets = all_join (IsEntryCarried i.machine i.sends) journal entries i.packets (entries_carried i.machine i.sends entries none);
      }
