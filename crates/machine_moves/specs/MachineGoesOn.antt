-- How a run of the machine goes on from a machine, and what of it stays.
use Rattle.std.specs.Prelude.{◌≡◌, ℕ, List, Some, slice_get}
use Rattle.cluster_model.specs.declared.ids.NodeId.TheVariants.{Mds}
use Rattle.cluster_model.specs.declared.entry.Entry.{Entry}
use Rattle.cluster_model.specs.DsCalls.{DsCallValue, DsReplyValue}
use Rattle.cluster_laws.specs.Machine.{Machine, Move, Call, Reply, machine_after, journal_of}
use Rattle.cluster_laws.specs.Telling.{telling}

-- Moves lead from a machine to another, and their journal tells what these entries tell.
pub record MachineGoesOn (m : Machine) (entries : List Entry) (n : Machine) : Type 0 where
  pub moves : List Move
  pub machine : machine_after m moves ≡ n
  pub journal : telling (journal_of m moves) ≡ telling entries

-- The metadata server sent this call to a data server, under this number and uid.
pub record HasCalled (m : Machine) (server xid uid : ℕ) (call : DsCallValue) : Type 0 where
  pub place : ℕ
  pub there : slice_get m.packets place ≡ Some (Call Mds server xid uid uid call)

-- The data server sent it this answer to the call that stands at a place.
pub record HasServerAnswered (m : Machine) (server xid : ℕ) (call : DsCallValue) (reply : DsReplyValue) : Type 0 where
  pub uid : ℕ
  pub called : ℕ
  pub call_there : slice_get m.packets called ≡ Some (Call Mds server xid uid uid call)
  pub place : ℕ
  pub there : slice_get m.packets place ≡ Some (Reply called server Mds xid reply)
