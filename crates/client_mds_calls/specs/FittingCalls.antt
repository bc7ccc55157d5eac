-- Calls whose numbers fit their forms (RFC 8881, sections 18.43, 18.44 and 18.46; RFC 8435, section 9.1.1).
use Rattle.std.specs.Prelude.{◌≡◌, ℕ, ◌<◌, ◌≤◌, ◌^◌, Bool, ◌==◌, List, [], length, map}
use Rattle.std.specs.List.{AllByRecursion, list_any}
use Rattle.ff_xdr.specs.Form.{Fits}
use Rattle.ff_layout.specs.ReturnBody.{ff_layoutreturn4}
use Rattle.client_file_calls.specs.declared.layout_return.FailedMirror.{FailedMirror}
use Rattle.client_file_calls.specs.FileOps.{io_error_of}
use Rattle.client_mds_calls.specs.MdsCalls.{SlotCallValue, MdsCallValue, OnSlot}
use Rattle.client_mds_calls.specs.MdsCalls as slot
use Rattle.client_mds_calls.specs.MdsCompounds.{mds_ops}

-- a return reports that the mirror on this data server failed
abbrev pub reports_server : List FailedMirror → ℕ → Bool
reports_server failed server = list_any (λ (f : FailedMirror). f.server == server) failed

-- the number of a file is one that its handle says; what is reported has a spelling
abbrev pub FitsSlotCall : SlotCallValue → Type 0
FitsSlotCall (slot.LayoutGet file) = file.file.0 < 2 ^ 64
FitsSlotCall (slot.LayoutReturn file stateid failed) =
    (file.0 < 2 ^ 64) × (AllByRecursion (λ (f : FailedMirror). f.server < 2 ^ 64) failed × Fits ff_layoutreturn4 (map (io_error_of stateid) failed, []))
FitsSlotCall call = Unit {0}

-- the session's id has sixteen bytes
abbrev pub FitsRequest : MdsCallValue → Type 0
FitsRequest (OnSlot session number call) = (length session.0 ≡ 16) × FitsSlotCall call
FitsRequest call = Unit {0}

-- and its compound has at most sixteen operations
abbrev pub FitsAsked : List ℕ → MdsCallValue → Type 0
FitsAsked name call = FitsRequest call × (length (mds_ops name call) ≤ 16)
