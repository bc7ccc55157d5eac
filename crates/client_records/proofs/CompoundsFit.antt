-- The compounds of a client have a spelling where their numbers and lengths are in range.
use Rattle.std.proofs.Common.{◌≡◌, ℕ, ◌+◌, ◌<◌, ◌≤◌, ◌^◌, List, [], ◌∷◌, length, map, replicate, refl, ap, ◌∙◌, arith, length-append}
use Rattle.std.specs.Prelude.{IsTrue}
use Rattle.std.specs.List.{AllByRecursion}
use Rattle.std.specs.Str.{is_utf8}
use Rattle.std.proofs.lemmas.List.{length-map}
use Rattle.std.proofs.lemmas.Str.{is_utf8-from_IsUtf8, IsUtf8-from_ascii}
use Rattle.ff_xdr.specs.Form.{Fits, long}
use Rattle.ff_xdr.proofs.CutShort.{length-long}
use Rattle.nfs4_types.specs.Channels.{channel_attrs4}
use Rattle.nfs4_compound.specs.Args.{argop4}
use Rattle.nfs4_compound.specs.Compounds.{compound4_args}
use Rattle.cluster_model.specs.declared.ids.FileId.{FileId}
use Rattle.client_file_calls.specs.FileOps.{put_fh_op, device_info_op}
use Rattle.client_file_calls.proofs.Reports.{report_size}
use Rattle.client_session_calls.specs.SessionOps.{fore_channel, back_channel}
use Rattle.client_mds_calls.specs.MdsCalls.{MdsCallValue, ExchangeId, CreateSession, OnSlot, SlotCallValue, ReclaimComplete, Open, LayoutGet, DeviceInfo, Write, Read, LayoutReturn, Renew}
use Rattle.client_mds_calls.specs.MdsCompounds.{slot_ops, mds_ops}
use Rattle.client_records.proofs.AnswersFit.{IsStateidInRange}

-- ---- ranges

abbrev pub IsSlotCallInRange : List ℕ → SlotCallValue → Type 0
IsSlotCallInRange owner (Open name) = (length owner ≤ 1024) × (length name ≤ 4294967295)
IsSlotCallInRange owner (LayoutGet file) = IsStateidInRange file.stateid
IsSlotCallInRange owner (DeviceInfo servers) = length servers ≤ 4
IsSlotCallInRange owner (Write file at bytes) = IsStateidInRange file.stateid × (at < 2 ^ 64) × (length bytes ≤ 4294967295)
IsSlotCallInRange owner (Read file at count) = IsStateidInRange file.stateid × (at < 2 ^ 64) × (count < 2 ^ 32)
IsSlotCallInRange owner (LayoutReturn file stateid failed) = IsStateidInRange stateid × (length failed ≤ 4)
IsSlotCallInRange owner ReclaimComplete = Unit {0}
IsSlotCallInRange owner Renew = Unit {0}

abbrev pub IsCallInRange : List ℕ → MdsCallValue → Type 0
IsCallInRange owner (ExchangeId verifier) = (verifier < 2 ^ 64) × (length owner ≤ 1024)
IsCallInRange owner (CreateSession clientid sequence) = (clientid < 2 ^ 64) × (sequence < 2 ^ 32)
IsCallInRange owner (OnSlot session sequence call) = (length session.0 ≡ 16) × (sequence < 2 ^ 32) × IsSlotCallInRange owner call

-- ---- operations

handle_fits : (file : FileId) → Fits argop4 (put_fh_op file)
handle_fits file = omega (arith, length-long file.0)

device_fits : (server : ℕ) → Fits argop4 (device_info_op server)
device_fits server = (length-append (replicate 8 0) (long server) ∙ ap (λ n. 8 + n) (length-long server), (omega arith, (omega arith, (omega arith, tt))))

devices_fit : (servers : List ℕ) → AllByRecursion (λ op. Fits argop4 op) (map device_info_op servers)
devices_fit [] = tt
devices_fit (server ∷ servers) = (device_fits server, devices_fit servers)

slot_fits : (owner : List ℕ) (call : SlotCallValue) → IsSlotCallInRange owner call → AllByRecursion (λ op. Fits argop4 op) (slot_ops owner call)
slot_fits owner ReclaimComplete in_range = (tt, tt)
slot_fits owner (Open name) in_range = (tt, ((omega arith, (omega arith, (omega arith, (omega arith, (in_range.0, (((omega arith, tt), omega arith), in_range.1)))))), (tt, tt)))
slot_fits owner (LayoutGet file) in_range = (handle_fits file.file, ((tt, (omega arith, (omega arith, (omega arith, (omega arith, (omega arith, (in_range, omega arith))))))), tt))
slot_fits owner (DeviceInfo servers) in_range = devices_fit servers
slot_fits owner (Write file at bytes) in_range = (handle_fits file.file, ((in_range.0, (in_range.1, (refl, in_range.2))), tt))
slot_fits owner (Read file at count) in_range = (handle_fits file.file, ((in_range.0, (in_range.1, in_range.2)), tt))
slot_fits owner (LayoutReturn file stateid failed) in_range =
    (handle_fits file, ((tt, (omega arith, (omega arith, (omega arith, (omega arith, (in_range.0, omega (arith, report_size stateid failed in_range.0.1 in_range.1))))))), tt))
slot_fits owner Renew in_range = tt

slot_few : (owner : List ℕ) (call : SlotCallValue) → IsSlotCallInRange owner call → length (slot_ops owner call) ≤ 4
slot_few owner ReclaimComplete in_range = omega arith
slot_few owner (Open name) in_range = omega arith
slot_few owner (LayoutGet file) in_range = omega arith
slot_few owner (DeviceInfo servers) in_range = omega (arith, length-map servers device_info_op, in_range)
slot_few owner (Write file at bytes) in_range = omega arith
slot_few owner (Read file at count) in_range = omega arith
slot_few owner (LayoutReturn file stateid failed) in_range = omega arith
slot_few owner Renew in_range = omega arith

channel_fits : Fits channel_attrs4 fore_channel
channel_fits = (omega arith, (omega arith, (omega arith, (omega arith, (omega arith, (omega arith, (omega arith, tt)))))))

back_fits : Fits channel_attrs4 back_channel
back_fits = (omega arith, (omega arith, (omega arith, (omega arith, (omega arith, (omega arith, (omega arith, tt)))))))

ops_fit : (owner : List ℕ) (call : MdsCallValue) → IsCallInRange owner call → AllByRecursion (λ op. Fits argop4 op) (mds_ops owner call)
ops_fit owner (ExchangeId verifier) in_range = ((in_range.0, (in_range.1, (omega arith, (tt, (omega arith, tt))))), tt)
ops_fit owner (CreateSession clientid sequence) in_range = ((in_range.0, (in_range.1, (omega arith, (channel_fits, (back_fits, (omega arith, (omega arith, (tt, tt)))))))), tt)
ops_fit owner (OnSlot session sequence call) in_range = ((in_range.0, (in_range.1, (omega arith, (omega arith, tt)))), slot_fits owner call in_range.2)

ops_few : (owner : List ℕ) (call : MdsCallValue) → IsCallInRange owner call → length (mds_ops owner call) ≤ 5
ops_few owner (ExchangeId verifier) in_range = omega arith
ops_few owner (CreateSession clientid sequence) in_range = omega arith
ops_few owner (OnSlot session sequence call) in_range = omega (arith, slot_few owner call in_range.2)

-- ---- the compound

no_tag : IsTrue (is_utf8 [])
no_tag = is_utf8-from_IsUtf8 [] (IsUtf8-from_ascii [] (λ i. omega arith))

pub compound_fits : (owner : List ℕ) (call : MdsCallValue) → IsCallInRange owner call → Fits compound4_args ([], (1, mds_ops owner call))
compound_fits owner call in_range = ((omega arith, no_tag), (omega arith, (omega (arith, ops_few owner call in_range), ops_fit owner call in_range)))
