-- The record of a user's call is a user's record.
use Rattle.std.proofs.Common.{◌≡◌, ◌≢◌, ℕ, ◌^◌, ◌<◌, true, List, refl, sym, ap, subst, ◌∙◌, arith}
use Rattle.std.specs.Int.{w32, from_be_bytes}
use Rattle.std.proofs.lemmas.Nat.{from_be_bytes-to_be_bytes_4}
use Rattle.ff_xdr.specs.Form.{word}
use Rattle.rpc_record.specs.Calls.{RpcCall, call_bytes}
use Rattle.cluster_model.specs.declared.ids.NodeId.{NodeId}
use Rattle.cluster_model.specs.declared.ids.NodeId.TheVariants.{Mds, Server}
use Rattle.cluster_model.specs.DsCalls.{DsCallValue, Create, SetAttr, Write, Commit, Read}
use Rattle.cluster_laws.specs.Machine.{may_use}
use Rattle.ds_calls.specs.MadeCalls.{ds_rpc_call, ds_call_bytes}
use Rattle.client_state.specs.ClientSends.{ClientSend, CallsServer, CallsMds, RepeatsToServer, RepeatsToMds, RepliesToMds, SendValue}
use Rattle.user_records.specs.UserRecords.{procedure_word, IsUserRecord}
use Rattle.client_sends.specs.SendsOfUsers.{IsRecordOfUser}

-- the word at place 20 is that of the procedure, whatever the numbers are
procedure_is : (c : RpcCall) → procedure_word (call_bytes c) ≡ word c.procedure
unfolding word
procedure_is c = refl

same_word : (a b : ℕ) → a < 2 ^ 32 → b < 2 ^ 32 → word a ≡ word b → a ≡ b
unfolding word
same_word a b first second e = sym (from_be_bytes-to_be_bytes_4 a first) ∙ ap (λ (w : List ℕ). from_be_bytes w32 w) e ∙ from_be_bytes-to_be_bytes_4 b second

named_user : (c : RpcCall) → c.procedure < 2 ^ 32 → c.procedure ≢ 2 → c.procedure ≢ 8 → IsUserRecord (call_bytes c)
named_user c small other another = (
  λ e. other (same_word c.procedure 2 small (omega arith) (sym (procedure_is c) ∙ e)),
  λ e. another (same_word c.procedure 8 small (omega arith) (sym (procedure_is c) ∙ e)),
)

call_record : (xid : ℕ) (name : List ℕ) (uid : ℕ) (call : DsCallValue) → may_use call ≡ true → IsUserRecord (ds_call_bytes xid name uid call)
call_record xid name uid (Write fileid at synced bytes) may = named_user (ds_rpc_call xid name uid (Write fileid at synced bytes)) (omega arith) (λ e. absurd (omega arith)) (λ e. absurd (omega arith))
call_record xid name uid (Commit fileid) may = named_user (ds_rpc_call xid name uid (Commit fileid)) (omega arith) (λ e. absurd (omega arith)) (λ e. absurd (omega arith))
call_record xid name uid (Read fileid at count) may = named_user (ds_rpc_call xid name uid (Read fileid at count)) (omega arith) (λ e. absurd (omega arith)) (λ e. absurd (omega arith))
call_record xid name uid (Create number owner) may = absurd cc
call_record xid name uid (SetAttr fileid owner guard) may = absurd cc

-- no record for the metadata server is one for a data server
to_mds : {P : Type 0} (server : ℕ) (bytes made : List ℕ) → ◌≡◌ {A = SendValue} (Mds, made) (Server server, bytes) → P
to_mds server bytes made e =
    let node : ◌≡◌ {A = NodeId} Mds (Server server) = ap (λ (p : SendValue). p.0) e in
    absurd (cc node)

pub record_of_user : (s : ClientSend) (server : ℕ) (bytes : List ℕ) → IsRecordOfUser s server bytes
record_of_user (CallsServer to xid name uid call) server bytes may e = subst IsUserRecord (ap (λ (p : SendValue). p.1) e) (call_record xid name uid call may)
record_of_user (RepeatsToServer to xid name uid call) server bytes may e = subst IsUserRecord (ap (λ (p : SendValue). p.1) e) (call_record xid name uid call may)
record_of_user (CallsMds xid name call) server bytes may e = to_mds server bytes _ e
record_of_user (RepeatsToMds xid message) server bytes may e = to_mds server bytes _ e
record_of_user (RepliesToMds reply) server bytes may e = to_mds server bytes _ e
