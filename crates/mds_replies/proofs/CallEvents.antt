-- The events of a run to which clients of this cluster call, by their compounds.
use Rattle.std.proofs.Common.{◌≡◌, ℕ, Bool, true, false, List, [], ◌∷◌, refl, sym, ap, ◌∙◌}
use Rattle.std.specs.Prelude.{◌==◌, map}
use Rattle.ff_xdr.specs.Form.{Value, arm_of}
use Rattle.cluster_model.specs.declared.ids.NodeId.{NodeId}
use Rattle.nfs4_compound.specs.Args.{argop4}
use Rattle.nfs4_compound.specs.Compounds.{CompoundValue}
use Rattle.client_file_calls.specs.FileOps.{device_info_op}
use Rattle.client_mds_calls.specs.FittingCalls.{FitsRequest}
use Rattle.client_mds_calls.specs.MdsCalls.{SlotCallValue, MdsCallValue}
use Rattle.client_mds_calls.specs.MdsCalls as slot
use Rattle.client_mds_calls.specs.MdsCompounds.{slot_ops}
use Rattle.mds_receive.specs.MdsReceive.{IncomingValue, PassedOver, IsReply, IsAnswered, IsCompound, incoming_of}
use Rattle.mds_walk.specs.MdsRuns.{MdsInput, MdsEvent, Hears, IsTimedOut, Ticks, RecallsFile, Resilvers}
use Rattle.mds_replies.specs.ClientCalls.{IsCallIn, IsCallFrom}
use Rattle.mds_replies.specs.AnsweredRequests.{HearsFitCall}
use Rattle.mds_walk.proofs.Parts.{is_waiting_op}

-- ---- what an event brings

-- a compound of a client, or none
pub data Brings (e : MdsEvent) : Type 0 where
  ACall : (node : NodeId) (xid : ℕ) (name : List ℕ) (call : MdsCallValue) → IsCallFrom e node xid name call → FitsRequest call → Brings e
  Nothing : ((node : NodeId) (bytes : List ℕ) → e.input ≡ Hears node bytes → (xid : ℕ) (c : CompoundValue) → incoming_of bytes ≡ IsCompound xid c → ⊥) → Brings e

abbrev bytes_of : MdsInput → List ℕ
bytes_of (Hears node bytes) = bytes
bytes_of other = []

abbrev is_compound : IncomingValue → Bool
is_compound (IsCompound xid c) = true
is_compound other = false

not_both : false ≡ true → ⊥
not_both is = absurd cc

module _ (e : MdsEvent) (node : NodeId) (bytes : List ℕ) (input : e.input ≡ Hears node bytes)
    (fit : (xid : ℕ) (v : CompoundValue) → incoming_of bytes ≡ IsCompound xid v → (name : List ℕ) × (call : MdsCallValue) × IsCallIn v name call × FitsRequest call) where
  none_of : (v : IncomingValue) → incoming_of bytes ≡ v → is_compound v ≡ false → Brings e
  none_of v at off =
      Nothing (λ other more same xid c is.
      not_both (sym off ∙ sym (ap is_compound at) ∙ ap (λ (b : List ℕ). is_compound (incoming_of b)) (ap bytes_of (sym input ∙ same)) ∙ ap is_compound is))

  by_incoming : (v : IncomingValue) → incoming_of bytes ≡ v → Brings e
  by_incoming PassedOver at = none_of PassedOver at refl
  by_incoming (IsReply reply) at = none_of (IsReply reply) at refl
  by_incoming (IsAnswered given) at = none_of (IsAnswered given) at refl
  by_incoming (IsCompound xid v) at = let c = fit xid v at in ACall node xid c.0 c.1 (record { bytes = bytes; input = input; v = v; compound = at; is = c.2 }) c.3

abbrev hears_there : MdsInput → Bool
hears_there (Hears node bytes) = true
hears_there (IsTimedOut to which) = false
hears_there Ticks = false
hears_there (RecallsFile file) = false
hears_there (Resilvers file) = false

pub brings : (e : MdsEvent) → HearsFitCall e.input → Brings e
brings e fit = by_input e.input refl fit
  where
    silent : (input : MdsInput) → e.input ≡ input → hears_there input ≡ false → Brings e
    silent input at off = Nothing (λ node bytes same xid c is. not_both (sym off ∙ sym (ap hears_there at) ∙ ap hears_there same))

    by_input : (input : MdsInput) → e.input ≡ input → HearsFitCall input → Brings e
    by_input (Hears node bytes) at fit = by_incoming e node bytes at fit (incoming_of bytes) refl
    by_input (IsTimedOut to which) at fit = silent (IsTimedOut to which) at refl
    by_input Ticks at fit = silent Ticks at refl
    by_input (RecallsFile file) at fit = silent (RecallsFile file) at refl
    by_input (Resilvers file) at fit = silent (Resilvers file) at refl

-- ---- which operations it has

abbrev pub is_return_call : SlotCallValue → Bool
is_return_call (slot.LayoutReturn file stateid failed) = true
is_return_call other = false

-- the last one may be a READ or a WRITE; one is a LAYOUTRETURN where the call is one
abbrev pub FitsOps : Bool → List (Value argop4) → Type 0
FitsOps returns [] = Unit {0}
FitsOps returns (op ∷ ops) = ((is_waiting_op (arm_of argop4 op) ≡ true → ops ≡ []) × ((arm_of argop4 op == 51) ≡ true → returns ≡ true)) × FitsOps returns ops

devices_fit : (servers : List ℕ) → FitsOps false (map device_info_op servers)
devices_fit [] = tt
devices_fit (n ∷ servers) = ((λ is. absurd (not_both is), λ is. absurd (not_both is)), devices_fit servers)

pub ops_fit : (name : List ℕ) (call : SlotCallValue) → FitsOps (is_return_call call) (slot_ops name call)
ops_fit name slot.ReclaimComplete = ((λ is. absurd (not_both is), λ is. is), tt)
ops_fit name (slot.Open file) = ((λ is. absurd (not_both is), λ is. is), ((λ is. absurd (not_both is), λ is. is), ((λ is. absurd (not_both is), λ is. is), tt)))
ops_fit name (slot.LayoutGet file) = ((λ is. absurd (not_both is), λ is. is), ((λ is. absurd (not_both is), λ is. is), tt))
ops_fit name (slot.DeviceInfo servers) = devices_fit servers
ops_fit name (slot.Write file at bytes) = ((λ is. absurd (not_both is), λ is. is), ((λ is. refl, λ is. is), tt))
ops_fit name (slot.Read file at count) = ((λ is. absurd (not_both is), λ is. is), ((λ is. refl, λ is. is), tt))
ops_fit name (slot.LayoutReturn file stateid failed) = ((λ is. absurd (not_both is), λ is. refl), ((λ is. absurd (not_both is), λ is. refl), tt))
ops_fit name slot.Renew = tt
