-- A user's record does nothing, or what a user's call does; and one that names no WRITE and no COMMIT does nothing.
use Rattle.std.proofs.Common.{◌≡◌, ◌≢◌, ℕ, Bool, true, false, List, [], Result, Ok, Err, refl, sym, ap, ◌∙◌}
use Rattle.std.specs.Prelude.{not, ◌==◌, if◌then◌else◌}
use Rattle.std.proofs.lemmas.Bool.{cond_both}
use Rattle.rpc_record.specs.declared.call.TheConstants.{NFS_PROGRAM}
use Rattle.rpc_record.specs.declared.auth.TheConstants.{AUTH_SYS}
use Rattle.ds_files.specs.declared.receive.TheConstants.{AUTH_BADCRED, AUTH_TOOWEAK, NFS_VERSION}
use Rattle.ff_xdr.specs.declared.error.XdrError.{XdrError}
use Rattle.ff_xdr.specs.Form.{Value, arm_of, has_arm}
use Rattle.ff_xdr.specs.Reading.{reading, arm_reading, whole}
use Rattle.rpc_record.specs.declared.call.CallFault.{CallFault}
use Rattle.rpc_record.specs.declared.call.CallFault.TheVariants.{NotACall, RpcVersion, Bad}
use Rattle.rpc_record.specs.Rpc.{Credential, credential_of, authsys_parms}
use Rattle.rpc_record.specs.Calls.{RpcCall, call_at}
use Rattle.rpc_record.specs.Replies as rpc_reply
use Rattle.nfs3_wire.specs.Calls.{Nfs3Call, calls, call_of}
use Rattle.cluster_model.specs.Server.{ServerState, NoEffect, server_after, entries_of}
use Rattle.ds_procedures.specs.Objects.{caller_of}
use Rattle.ds_procedures.specs.Steps.{plan_of}
use Rattle.ds_files.specs.Receive.{Received, Asked, Outcome, refuses, nobody, asked, with_args, with_cred, authenticated, dispatched, with_call, outcome_by}
use Rattle.user_records.specs.UserRecords.{DoesAsUser, DoesNothing, DoesCall, UsersDoNoMore, LeavesAll, ReadersDoNothing}
use Rattle.user_records.proofs.Procedures.{is_call, not_setattr, not_create, not_write, not_commit, whole_arm_read}
use Rattle.user_records.proofs.Effects.{UsersEffect, NoneOf, OfCall, users_effect, quiet_effect}

-- the tests of a call from one on
abbrev by_procedure : RpcCall → Received
by_procedure c = if not (has_arm c.procedure calls) then refuses c.xid rpc_reply.proc_unavail else authenticated c

abbrev by_version : RpcCall → Received
by_version c = if not (c.version == NFS_VERSION) then refuses c.xid (rpc_reply.prog_mismatch NFS_VERSION NFS_VERSION) else by_procedure c

abbrev by_credential : RpcCall → Received
by_credential c = with_cred c (whole c.cred.body (reading authsys_parms c.cred.body 0))

abbrev by_flavor : RpcCall → Received
by_flavor c = if not (c.cred.flavor == AUTH_SYS) then refuses c.xid (rpc_reply.auth_error AUTH_TOOWEAK) else by_credential c

-- what was received comes to this
record Does (D : Outcome → Type 0) (s : ServerState) (what : Received) : Type 0 where
  does : D (outcome_by s what)

module _ (D : Outcome → Type 0) (s : ServerState) (none : (o : Outcome) → o.server ≡ s → o.entries ≡ [] → D o) where
  refused_does : (xid : ℕ) (stat : rpc_reply.ReplyStat) → Does D s (refuses xid stat)
  refused_does xid stat = record { does = none (outcome_by s (refuses xid stat)) refl refl }

  -- a test, behind which RPC refuses
  refused_or : (t : Bool) (xid : ℕ) (stat : rpc_reply.ReplyStat) (what : Received) → Does D s what → Does D s (if t then refuses xid stat else what)
  refused_or true xid stat what d = refused_does xid stat
  refused_or false xid stat what d = d

  -- the arguments are of the arm of the procedure
  module _ (c : RpcCall) (asks : (cred : Credential) (v : Value calls) → arm_of calls v ≡ c.procedure → Does D s (Asked c.xid (call_of v) cred)) where
    args_do : (cred : Credential) (r : Result (Value calls) XdrError) → whole c.args (arm_reading calls c.procedure c.args 0) ≡ r → Does D s (with_args c.xid cred r)
    args_do cred (Err e) read = refused_does c.xid rpc_reply.garbage_args
    args_do cred (Ok v) read = asks cred v (whole_arm_read calls refl c.procedure c.args v read)

    asked_does : (cred : Credential) → Does D s (asked c cred)
    asked_does cred = args_do cred (whole c.args (arm_reading calls c.procedure c.args 0)) refl

    cred_does : (r : Result (Value authsys_parms) XdrError) → Does D s (with_cred c r)
    cred_does (Ok v) = asked_does (credential_of v)
    cred_does (Err e) = refused_does c.xid (rpc_reply.auth_error AUTH_BADCRED)

    authenticated_does : Does D s (authenticated c)
    authenticated_does =
        cond_both (c.procedure == 0) (asked c nobody) (by_flavor c) (Does D s) (λ e. asked_does nobody)
        (λ e. refused_or (not (c.cred.flavor == AUTH_SYS)) c.xid (rpc_reply.auth_error AUTH_TOOWEAK) (by_credential c) (cred_does (whole c.cred.body (reading authsys_parms c.cred.body 0))))

    dispatched_does : Does D s (dispatched c)
    dispatched_does =
        refused_or (not (c.program == NFS_PROGRAM)) c.xid rpc_reply.prog_unavail (by_version c)
        (refused_or (not (c.version == NFS_VERSION)) c.xid (rpc_reply.prog_mismatch NFS_VERSION NFS_VERSION) (by_procedure c)
        (refused_or (not (has_arm c.procedure calls)) c.xid rpc_reply.proc_unavail (authenticated c) authenticated_does))

  call_does : (bytes : List ℕ) (r : Result RpcCall CallFault) → call_at bytes ≡ r → ((c : RpcCall) → call_at bytes ≡ is_call c → (cred : Credential) (v : Value calls) → arm_of calls v ≡ c.procedure → Does D s (Asked c.xid (call_of v) cred))
      → Does D s (with_call r)
  call_does bytes (Ok c) read asks = dispatched_does c (asks c read)
  call_does bytes (Err NotACall) read asks = record { does = none _ refl refl }
  call_does bytes (Err (RpcVersion xid)) read asks = record { does = none _ refl refl }
  call_does bytes (Err (Bad xid e)) read asks = record { does = none _ refl refl }

-- a call whose effect is a user's
effect_does : (s : ServerState) (xid : ℕ) (cred : Credential) (call : Nfs3Call) → UsersEffect s cred.uid (plan_of s call (caller_of cred)).effect → Does (DoesAsUser s) s (Asked xid call cred)
effect_does s xid cred call (NoneOf none) = record { does = DoesNothing (ap (server_after s) none) (ap (entries_of s cred.uid) none) }
effect_does s xid cred call (OfCall used may same) = record { does = DoesCall cred.uid cred.uid used may (ap (server_after s) same) (ap (entries_of s cred.uid) same) }

pub users : (s : ServerState) (bytes : List ℕ) → UsersDoNoMore s bytes
users s bytes user = (call_does (DoesAsUser s) s (λ o server entries. DoesNothing server entries) bytes (call_at bytes) refl asks).does
  where
    asks : (c : RpcCall) → call_at bytes ≡ is_call c → (cred : Credential) (v : Value calls) → arm_of calls v ≡ c.procedure → Does (DoesAsUser s) s (Asked c.xid (call_of v) cred)
    asks c read cred v arm = effect_does s c.xid cred (call_of v) (users_effect s (caller_of cred) v (λ is. not_setattr bytes c read user.0 (sym arm ∙ is)) (λ is. not_create bytes c read user.1 (sym arm ∙ is)))

-- a call that has no effect
quiet_does : (s : ServerState) (xid : ℕ) (cred : Credential) (call : Nfs3Call) → (plan_of s call (caller_of cred)).effect ≡ NoEffect → Does (LeavesAll s) s (Asked xid call cred)
quiet_does s xid cred call none = record { does = record { server = ap (server_after s) none; entries = ap (entries_of s cred.uid) none } }

pub readers : (s : ServerState) (bytes : List ℕ) → ReadersDoNothing s bytes
readers s bytes reader = (call_does (LeavesAll s) s (λ o server entries. record { server = server; entries = entries }) bytes (call_at bytes) refl asks).does
  where
    asks : (c : RpcCall) → call_at bytes ≡ is_call c → (cred : Credential) (v : Value calls) → arm_of calls v ≡ c.procedure → Does (LeavesAll s) s (Asked c.xid (call_of v) cred)
    asks c read cred v arm =
        quiet_does s c.xid cred (call_of v)
        (quiet_effect s (caller_of cred) v (λ is. not_setattr bytes c read reader.0.0 (sym arm ∙ is)) (λ is. not_create bytes c read reader.0.1 (sym arm ∙ is)) (λ is. not_write bytes c read reader.1 (sym arm ∙ is)) (λ is. not_commit bytes c read reader.2 (sym arm ∙ is)))
