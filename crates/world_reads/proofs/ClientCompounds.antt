-- What a client asks of the metadata server is read in form: by a compound of SEQUENCE, PUTFH and READ, or without a READ.
use Rattle.std.proofs.Common.{◌≡◌, ℕ, ◌+◌, ◌<◌, ◌≤◌, ◌^◌, Bool, false, List, [], ◌∷◌, length, Ok, refl, sym, ap, subst, ◌∙◌, inl, inr, ◌⊎◌, arith}
use Rattle.std.specs.Prelude.{map, ◌==◌}
use Rattle.std.specs.List.{AllByRecursion}
use Rattle.ff_xdr.specs.Form.{Value, Fits, arm_of}
use Rattle.ff_xdr.specs.Arms.{arm}
use Rattle.rpc_record.specs.Calls.{RpcCall, call_at}
use Rattle.cluster_model.specs.declared.ids.FileId.{FileId}
use Rattle.nfs4_types.specs.Stateids.{stateid4_value}
use Rattle.nfs4_compound.specs.declared.stop.Stop.TheVariants as stop
use Rattle.nfs4_compound.specs.Args.{argop4}
use Rattle.nfs4_compound.specs.Compounds.{CompoundValue}
use Rattle.mds_receive.specs.MdsReceive.{IsCompound, incoming_of}
use Rattle.mds_receive.specs.MdsReceiveLaws.{compound_with, AsksCompound, IsTakenWhole}
use Rattle.client_file_calls.specs.FileOps.{device_info_op}
use Rattle.nfs4_types.specs.declared.ids.SessionId.{SessionId}
use Rattle.client_mds_calls.specs.MdsCalls.{MdsCallValue, ExchangeId, CreateSession, OnSlot, SlotCallValue, ReclaimComplete, Open, LayoutGet, DeviceInfo, Write, Read, LayoutReturn, Renew}
use Rattle.client_mds_calls.specs.MdsCompounds.{mds_ops}
use Rattle.client_mds_calls.specs.MdsCallLaws.{MdsMessage, HasCompoundRecord, IsCompoundUnderstood, compound_record_of, compound_message_call}
use Rattle.read_runs.specs.ReadRuns.{ReadsFile, HasNoRead, ReadsInForm}

-- no operation of these is a READ
abbrev NoReads : List (Value argop4) → Type 0
NoReads ops = AllByRecursion (λ op. (arm_of argop4 op == 25) ≡ false) ops

devices_asked : (servers : List ℕ) → NoReads (map device_info_op servers)
devices_asked [] = tt
devices_asked (n ∷ servers) = (refl, devices_asked servers)

slot_in_form : (owner : List ℕ) (call : SlotCallValue) (session : SessionId) (sequence : ℕ) → ReadsInForm (compound_with [] (mds_ops owner (OnSlot session sequence call)))
slot_in_form owner ReclaimComplete session sequence = inl (refl, (refl, tt))
slot_in_form owner (Open name) session sequence = inl (refl, (refl, (refl, (refl, tt))))
slot_in_form owner (LayoutGet file) session sequence = inl (refl, (refl, (refl, tt)))
slot_in_form owner (DeviceInfo servers) session sequence = inl (refl, devices_asked servers)
slot_in_form owner (Write file at bytes) session sequence = inl (refl, (refl, (refl, tt)))
slot_in_form owner (Read file at count) session sequence =
    inr (file.file, at, count, record { sequence = (session.0, (sequence, (0, (0, false)))); stateid = stateid4_value file.stateid; ops = refl; stop = refl })
slot_in_form owner (LayoutReturn file stateid failed) session sequence = inl (refl, (refl, (refl, tt)))
slot_in_form owner Renew session sequence = inl (refl, tt)

pub ops_in_form : (owner : List ℕ) (call : MdsCallValue) → ReadsInForm (compound_with [] (mds_ops owner call))
ops_in_form owner (ExchangeId verifier) = inl (refl, tt)
ops_in_form owner (CreateSession clientid sequence) = inl (refl, tt)
ops_in_form owner (OnSlot session sequence call) = slot_in_form owner call session sequence
