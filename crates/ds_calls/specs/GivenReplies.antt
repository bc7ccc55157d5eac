-- What the reply of a data server to a call comes to (RFC 1813, section 3.3; RFC 5531, section 9).
use Rattle.std.specs.Prelude.{ℕ, ◌<◌, ◌^◌, ⊤, Bool, ◌&&◌, ◌||◌, not, nat_le, ◌==◌, if◌then◌else◌, List, length, Option, Some, None, Result, Ok, Err}
use Rattle.std.proofs.Common.{inl, inr}
use Rattle.std.specs.Int.{w64, from_be_bytes}
use Rattle.std.specs.Option.{option_map}
use Rattle.ff_xdr.specs.declared.error.XdrError.{XdrError}
use Rattle.ff_xdr.specs.Form.{Form, Value}
use Rattle.ff_xdr.specs.Reading.{reading, whole}
use Rattle.rpc_record.specs.Replies.{RpcReply, is_success}
use Rattle.nfs3_wire.specs.Attributes.{fattr3}
use Rattle.nfs3_wire.specs.Wcc.{post_op_attr}
use Rattle.nfs3_wire.specs.Create.{create_result}
use Rattle.nfs3_wire.specs.Setattr.{setattr_result}
use Rattle.nfs3_wire.specs.Write.{write_result}
use Rattle.nfs3_wire.specs.Commit.{commit_result}
use Rattle.nfs3_wire.specs.Read.{read_result}
use Rattle.cluster_model.specs.declared.ds_call.Shown.{Shown}
use Rattle.cluster_model.specs.DsCalls.{DsCallValue, DsReplyValue, Created, Set, Written, Committed, Bytes, NotSync, Failed}
use Rattle.cluster_model.specs.DsCalls as ds
use Rattle.cluster_model.specs.Fences.{odd_status}

-- a reply that no server gives by the standard counts as SERVERFAULT (section 2.6), and nothing in it is relied on
abbrev pub odd_answer : DsReplyValue
odd_answer = Failed odd_status None

-- ---- what attributes show (section 2.5): the user, the ctime as a tick, the size

abbrev pub shown_in : Value fattr3 → Shown
shown_in ((kind, (mode, (nlink, (uid, gid)))), ((size, (used, (rdev, (fsid, fileid)))), (atime, (mtime, (seconds, nanos))))) =
    record { owner = record { 0 = uid }; seen = record { boot = seconds; count = nanos }; size = size }

abbrev pub shown_where : Value post_op_attr → Option Shown
shown_where attributes = option_map shown_in attributes

-- the fileid that a handle of eight bytes is
abbrev pub handle_fileid : List ℕ → Option ℕ
handle_fileid handle = if length handle == 8 then Some (from_be_bytes w64 handle) else None

-- ---- the results of each call

-- CREATE (section 3.3.8): the file's handle and its attributes are wanted; a refusal has those of the directory
abbrev pub created_as : Option ℕ → Shown → DsReplyValue
created_as (Some fileid) shown = Created fileid shown
created_as None shown = odd_answer

abbrev pub create_answer : Value create_result → DsReplyValue
create_answer (inl (Some file, (Some attributes, directory))) = created_as (handle_fileid file) (shown_in attributes)
create_answer (inl (file, (attributes, directory))) = odd_answer
create_answer (inr (status, directory)) = Failed status None

-- SETATTR (section 3.3.2): NOT_SYNC is wanted with the attributes, whose ctime was not the guard
abbrev pub unsynced_answer : Option Shown → DsReplyValue
unsynced_answer (Some shown) = NotSync shown
unsynced_answer None = odd_answer

abbrev pub setattr_answer : Value setattr_result → DsReplyValue
setattr_answer (inl (before, after)) = Set (shown_where after)
setattr_answer (inr (status, (before, after))) = if status == 10002 then unsynced_answer (shown_where after) else Failed status (shown_where after)

-- WRITE (section 3.3.7): all of the data were written, and are FILE_SYNC 2 where that was asked for
abbrev pub write_answer : Bool → ℕ → Value write_result → DsReplyValue
write_answer synced size (inl ((before, after), (count, (committed, verifier)))) =
    if count == size && (not synced || committed == 2) then Written (shown_where after) verifier else odd_answer
write_answer synced size (inr (status, (before, after))) = Failed status (shown_where after)

-- COMMIT (section 3.3.21)
abbrev pub commit_answer : Value commit_result → DsReplyValue
commit_answer (inl ((before, after), verifier)) = Committed (shown_where after) verifier
commit_answer (inr (status, (before, after))) = Failed status (shown_where after)

-- READ (section 3.3.6): the count is that of the data, and no more than was asked for
abbrev pub read_answer : ℕ → Value read_result → DsReplyValue
read_answer asked (inl (attributes, (count, (eof, bytes)))) =
    if count == length bytes && nat_le count asked then Bytes (shown_where attributes) eof bytes else odd_answer
read_answer asked (inr (status, attributes)) = Failed status (shown_where attributes)

-- ---- a reply

-- all the bytes in the form; else the answer is odd
abbrev pub answer_by : {A : Type 0} → (A → DsReplyValue) → Result A XdrError → DsReplyValue
answer_by answer (Ok v) = answer v
answer_by answer (Err e) = odd_answer

abbrev pub in_form : (form : Form) → (Value form → DsReplyValue) → List ℕ → DsReplyValue
in_form form answer bytes = answer_by answer (whole bytes (reading form bytes 0))

abbrev pub results_of_call : DsCallValue → List ℕ → DsReplyValue
results_of_call (ds.Create name owner) results = in_form create_result create_answer results
results_of_call (ds.SetAttr fileid owner guard) results = in_form setattr_result setattr_answer results
results_of_call (ds.Write fileid at synced bytes) results = in_form write_result (write_answer synced (length bytes)) results
results_of_call (ds.Commit fileid) results = in_form commit_result commit_answer results
results_of_call (ds.Read fileid at count) results = in_form read_result (read_answer count) results

-- results stand behind SUCCESS alone
abbrev pub reply_of_call : DsCallValue → RpcReply → DsReplyValue
reply_of_call call reply = if is_success reply.stat then results_of_call call reply.results else odd_answer

-- a READ gives fewer bytes than a number of 32 bits can count, as its count is one
abbrev pub HasFewBytes : DsReplyValue → Type 0
HasFewBytes (Created fileid shown) = ⊤
HasFewBytes (Set shown) = ⊤
HasFewBytes (Written shown verifier) = ⊤
HasFewBytes (Committed shown verifier) = ⊤
HasFewBytes (Bytes shown eof bytes) = length bytes < 2 ^ 32
HasFewBytes (NotSync shown) = ⊤
HasFewBytes (Failed status shown) = ⊤
