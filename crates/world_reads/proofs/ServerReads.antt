-- A READ of a mirror is read so by the bytes of its record.
use Rattle.std.proofs.Common.{◌≡◌, ℕ, ◌^◌, ◌<◌, Bool, true, cond, List, Option, Some, None, Result, Ok, refl, sym, ap, subst, ◌∙◌}
use Rattle.std.specs.Prelude.{◌==◌, length}
use Rattle.std.specs.Int.{w64, from_be_bytes}
use Rattle.std.proofs.lemmas.Nat.{from_be_bytes-to_be_bytes_8}
use Rattle.ff_xdr.specs.declared.error.XdrError.{XdrError}
use Rattle.ff_xdr.specs.Form.{Value, spelling, long}
use Rattle.ff_xdr.specs.Reading.{reading, whole}
use Rattle.ff_xdr.proofs.CutShort.{length-long}
use Rattle.rpc_record.specs.declared.call.CallFault.{CallFault}
use Rattle.rpc_record.specs.Calls.{RpcCall, call_at}
use Rattle.nfs3_wire.specs.Read.{read_args}
use Rattle.cluster_model.specs.DsCalls.{Read}
use Rattle.ds_calls.specs.MadeCalls.{fileid_handle}
use Rattle.ds_calls.specs.DsCallLaws.{DsMessage, HasRecord, IsUnderstood, record_of, message_call}
use Rattle.ds_calls.proofs.DsCallsAgain.{whole_spelled, speakable_fits}
use Rattle.ff_laws.specs.declared.read_call.ReadCall.{ReadCall}
use Rattle.ff_laws.specs.ReadCalls.{handle_number, read_by, nfs3_read, nfs3_read_of, with_nfs3_call, server_read_of}

-- eight bytes spell their number
number_again : (n : ℕ) → n < 2 ^ 64 → from_be_bytes w64 (long n) ≡ n
unfolding long
number_again n below = from_be_bytes-to_be_bytes_8 n below

-- the handle of a fileid has its number
pub handle_again : (fileid : ℕ) → fileid < 2 ^ 64 → handle_number (long fileid) ≡ Some fileid
handle_again fileid fits =
    let eight : (length (long fileid) == 8) ≡ true = ap (λ (n : ℕ). n == 8) (length-long fileid) in
    let number : from_be_bytes w64 (long fileid) ≡ fileid = number_again fileid fits in
    ap (λ (b : Bool). cond b (Some (from_be_bytes w64 (long fileid))) None) eight ∙ ap (λ (n : ℕ). Some n) number

-- a READ as a message
abbrev pub read_message : ℕ → List ℕ → ℕ → ℕ → ℕ → ℕ → DsMessage
read_message xid machine user fileid at count = record { xid = xid; machine = machine; user = user; call = Read fileid at count }

pub server_reads : (xid : ℕ) (machine : List ℕ) (user fileid at count : ℕ) → HasRecord (read_message xid machine user fileid at count) → IsUnderstood (read_message xid machine user fileid at count)
    → server_read_of (record_of (read_message xid machine user fileid at count)) ≡ Some (record { xid = xid; handle = fileid; offset = at; count = count })
server_reads xid machine user fileid at count has understood =
    let m = read_message xid machine user fileid at count in
    let head : with_nfs3_call (call_at (record_of m)) ≡ nfs3_read_of (message_call m) = ap with_nfs3_call (understood has).header in
    let args : nfs3_read_of (message_call m) ≡ nfs3_read xid (whole (spelling read_args (long fileid, (at, count))) (reading read_args (spelling read_args (long fileid, (at, count))) 0)) = refl in
    let read : whole (spelling read_args (long fileid, (at, count))) (reading read_args (spelling read_args (long fileid, (at, count))) 0) ≡ Ok (long fileid, (at, count)) =
    whole_spelled read_args refl (long fileid, (at, count)) (speakable_fits (Read fileid at count) has.call_fits) in
    let said : nfs3_read xid (Ok (long fileid, (at, count))) ≡ Some (record { xid = xid; handle = fileid; offset = at; count = count }) =
    ap (λ (h : Option ℕ). read_by xid h at count) (handle_again fileid has.call_fits.0) in
    head ∙ (args ∙ (ap (nfs3_read xid) read ∙ said))
