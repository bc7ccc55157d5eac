-- Runs of a metadata server to which clients of this cluster call (RFC 8881, section 16.2).
use Rattle.std.specs.Prelude.{◌≡◌, ℕ, List, [], ◌∷◌, ◌++◌, length, None}
use Rattle.std.specs.List.{AllByRecursion}
use Rattle.cluster_model.specs.declared.ids.NodeId.{NodeId}
use Rattle.nfs4_compound.specs.declared.stop.Stop.TheVariants as stop
use Rattle.nfs4_compound.specs.Compounds.{CompoundValue}
use Rattle.client_mds_calls.specs.MdsCalls.{MdsCallValue}
use Rattle.client_mds_calls.specs.MdsCompounds.{mds_ops}
use Rattle.device_addr.specs.Universal.{AddressValue}
use Rattle.mds_receive.specs.MdsReceive.{IsCompound, incoming_of}
use Rattle.mds_rule.specs.MdsStates.{MdsValue}
use Rattle.mds_walk.specs.MdsRuns.{MdsInput, MdsEvent, Hears, mds_run}

-- ---- calls

-- a compound is this call of a client of this name, with nothing behind it, and without a tag
pub record IsCallIn (v : CompoundValue) (name : List ℕ) (call : MdsCallValue) : Type 0 where
  pub tag : v.tag ≡ []
  pub ops : v.ops.values ≡ mds_ops name call
  pub stop : v.ops.stop ≡ stop.End None
  pub count : v.count ≡ length (mds_ops name call)

-- the call came from a node, under a number
pub record IsCallFrom (e : MdsEvent) (node : NodeId) (xid : ℕ) (name : List ℕ) (call : MdsCallValue) : Type 0 where
  pub bytes : List ℕ
  pub input : e.input ≡ Hears node bytes
  pub v : CompoundValue
  pub compound : incoming_of bytes ≡ IsCompound xid v
  pub is : IsCallIn v name call

-- each compound that comes is a client's call
abbrev pub HearsCall : MdsInput → Type 0
HearsCall (Hears node bytes) = (xid : ℕ) (v : CompoundValue) → incoming_of bytes ≡ IsCompound xid v → (name : List ℕ) × (call : MdsCallValue) × IsCallIn v name call
HearsCall input = Unit {0}

abbrev pub AreCalls : List MdsEvent → Type 0
AreCalls events = AllByRecursion (λ (e : MdsEvent). HearsCall e.input) events

-- ---- moments

-- the server behind events
abbrev pub server_after : List AddressValue → ℕ → List MdsEvent → MdsValue
server_after servers mirrors events = (mds_run servers mirrors events).mds

-- an event of a run, behind these
abbrev pub IsEventOf : List MdsEvent → List MdsEvent → MdsEvent → List MdsEvent → Type 0
IsEventOf events before e after = events ≡ before ++ e ∷ after
