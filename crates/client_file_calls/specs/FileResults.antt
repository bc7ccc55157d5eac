-- What the results of a client's calls on files and layouts say (RFC 8881, section 18): those of the call's operations, in order, each OK.
use Rattle.std.specs.Prelude.{ℕ, ◌+◌, ◌^◌, Bool, false, ◌&&◌, ◌==◌, nat_le, nat_lt, List, [], ◌∷◌, length, Option, Some, None, if◌then◌else◌}
use Rattle.cluster_model.specs.declared.limits.TheConstants.{MAX_FILE}
use Rattle.client_file_calls.specs.declared.layouts.TheConstants.{FLEX_FILES, READS_AND_WRITES}
use Rattle.ff_xdr.specs.Form.{Value}
use Rattle.ff_xdr.specs.Reading.{reading, whole}
use Rattle.nfs4_types.specs.declared.stateid.Stateid.{Stateid}
use Rattle.nfs4_types.specs.Handles.{file_number_of}
use Rattle.nfs4_types.specs.Stateids.{stateid4}
use Rattle.nfs4_file_ops.specs.Layout4.{layout4}
use Rattle.nfs4_compound.specs.Results.{resop4}
use Rattle.device_addr.specs.declared.net_addr.NetAddr.{NetAddr}
use Rattle.ff_layout.specs.Layout.{ff_layout4}
use Rattle.client_compounds.specs.MdsResults.{in_arm, is_done_result, done_as, sequence_ok}
use Rattle.client_file_calls.specs.declared.open.OpenFile.{OpenFile}
use Rattle.client_file_calls.specs.declared.grant.LayoutGrant.{LayoutGrant}
use Rattle.client_file_calls.specs.declared.read.BytesRead.{BytesRead}
use Rattle.client_file_calls.specs.LayoutGrants.{layout_grant_of}
use Rattle.client_file_calls.specs.MdsDevices.{device_info_ok}

abbrev pub put_fh_ok : Value resop4 → Bool
put_fh_ok = in_arm 22 resop4 is_done_result false

-- ---- OPEN (section 18.16)

abbrev pub put_root_fh_ok : Value resop4 → Bool
put_root_fh_ok = in_arm 24 resop4 is_done_result false

abbrev pub stateid_of : Value stateid4 → Stateid
stateid_of (seqid, other) = record { seqid = seqid; other = other }

-- the stateid of the open
abbrev pub open_ok : Value resop4 → Option Stateid
open_ok = in_arm 18 resop4 (done_as (λ (stateid, rest). Some (stateid_of stateid))) None

-- the file's number, which its handle says in eight bytes; it is below 2^32 (section 18.8)
abbrev pub small_number : Option ℕ → Option ℕ
small_number None = None
small_number (Some n) = if nat_lt n (2 ^ 32) then Some n else None

abbrev pub get_fh_ok : Value resop4 → Option ℕ
get_fh_ok = in_arm 10 resop4 (done_as (λ handle. small_number (file_number_of handle))) None

abbrev pub opened_file : Option Stateid → Option ℕ → Option OpenFile
opened_file (Some stateid) (Some file) = Some (record { file = record { 0 = file }; stateid = stateid })
opened_file stateid file = None

abbrev pub open_results : List (Value resop4) → Option OpenFile
open_results (s ∷ p ∷ o ∷ g ∷ []) = if sequence_ok s && put_root_fh_ok p then opened_file (open_ok o) (get_fh_ok g) else None
open_results results = None

-- ---- LAYOUTGET (section 18.43; RFC 8435, section 5.1)

-- exactly one layout, for reading and writing and of flexible files
abbrev pub one_layout : Stateid → List (Value layout4) → Option LayoutGrant
one_layout stateid ((offset, (length, (iomode, (kind, body)))) ∷ []) = if iomode == READS_AND_WRITES && kind == FLEX_FILES then layout_grant_of stateid (whole body (reading ff_layout4 body 0)) else None
one_layout stateid layouts = None

abbrev pub layout_get_ok : Value resop4 → Option LayoutGrant
layout_get_ok = in_arm 50 resop4 (done_as (λ (on_close, (stateid, layouts)). one_layout (stateid_of stateid) layouts)) None

abbrev pub layout_get_results : List (Value resop4) → Option LayoutGrant
layout_get_results (s ∷ p ∷ l ∷ []) = if sequence_ok s && put_fh_ok p then layout_get_ok l else None
layout_get_results results = None

-- ---- GETDEVICEINFO (section 18.40)

-- one address for each data server that was asked for; there are at most four
abbrev pub joined_address : Option NetAddr → Option (List NetAddr) → Option (List NetAddr)
joined_address (Some address) (Some addresses) = Some (address ∷ addresses)
joined_address address addresses = None

abbrev pub device_addresses : List (Value resop4) → Option (List NetAddr)
device_addresses [] = Some []
device_addresses (d ∷ results) = joined_address (device_info_ok d) (device_addresses results)

abbrev pub device_info_results : ℕ → List (Value resop4) → Option (List NetAddr)
device_info_results count (s ∷ results) = if sequence_ok s && ((length results == count) && nat_le count 4) then device_addresses results else None
device_info_results count [] = None

-- ---- WRITE (section 18.32)

abbrev pub write4_done : Value resop4 → Bool
write4_done = in_arm 38 resop4 is_done_result false

abbrev pub write_results : List (Value resop4) → Bool
write_results (s ∷ p ∷ w ∷ []) = sequence_ok s && put_fh_ok p && write4_done w
write_results results = false

-- ---- READ (section 18.22)

-- the bytes, and whether the file ends behind them; there are no more than was asked for, and none past 67,108,864
pub record BytesReadValue : Type 0 where
  pub eof : Bool
  pub bytes : List ℕ

abbrev pub plain_bytes_read : BytesRead → BytesReadValue
plain_bytes_read r = record { eof = r.eof; bytes = r.bytes.now }

abbrev pub read4_done : ℕ → ℕ → Value resop4 → Option BytesReadValue
read4_done at count = in_arm 25 resop4 (done_as (λ (eof, bytes). if nat_le (length bytes) count && nat_le (at + length bytes) MAX_FILE then Some (record { eof = eof; bytes = bytes }) else None)) None

abbrev pub read_results : ℕ → ℕ → List (Value resop4) → Option BytesReadValue
read_results at count (s ∷ p ∷ r ∷ []) = if sequence_ok s && put_fh_ok p then read4_done at count r else None
read_results at count results = None

-- ---- LAYOUTRETURN (section 18.44)

abbrev pub layout_return_ok : Value resop4 → Bool
layout_return_ok = in_arm 51 resop4 is_done_result false

abbrev pub layout_return_results : List (Value resop4) → Bool
layout_return_results (s ∷ p ∷ r ∷ []) = sequence_ok s && put_fh_ok p && layout_return_ok r
layout_return_results results = false
