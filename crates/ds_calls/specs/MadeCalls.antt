-- The calls of a cluster to its data servers, as NFSv3 calls (RFC 1813, section 3.3) in records of RPC (RFC 5531, section 9).
use Rattle.std.specs.Prelude.{ℕ, Bool, true, false, List, [], length, Option, Some, None}
use Rattle.rpc_record.specs.declared.call.TheConstants.{NFS_PROGRAM}
use Rattle.rpc_record.specs.declared.auth.TheConstants.{AUTH_SYS}
use Rattle.ds_calls.specs.declared.header.TheConstants.{NFS_VERSION}
use Rattle.ds_calls.specs.declared.handle.TheConstants.{ROOT}
use Rattle.cluster_model.specs.declared.limits.TheConstants.{FILE_MODE}
use Rattle.ff_xdr.specs.Form.{spelling, arm_spelling, arm_of, long}
use Rattle.rpc_record.specs.Rpc.{Credential, authsys_parms, credential_value}
use Rattle.rpc_record.specs.Calls.{RpcCall, call_bytes}
use Rattle.rpc_record.specs.Replies.{auth_none}
use Rattle.nfs3_wire.specs.declared.attributes.Time3.{Time3}
use Rattle.nfs3_wire.specs.declared.sattr.SetTime.TheVariants.{Keep}
use Rattle.nfs3_wire.specs.declared.sattr.Sattr3.{Sattr3}
use Rattle.nfs3_wire.specs.declared.stable_how.StableHow.{StableHow}
use Rattle.nfs3_wire.specs.declared.stable_how.StableHow.TheVariants.{Unstable, FileSync}
use Rattle.nfs3_wire.specs.declared.create.CreateHow.TheVariants.{Unchecked}
use Rattle.nfs3_wire.specs.Calls.{Nfs3Call, Create, SetAttr, Write, Commit, Read, calls, call_value}
use Rattle.cluster_model.specs.declared.tick.Tick.{Tick}
use Rattle.cluster_model.specs.DsCalls.{DsCallValue, mirror_name}
use Rattle.cluster_model.specs.DsCalls as ds

-- a handle is the fileid as eight bytes; the root's fileid is 1
abbrev pub fileid_handle : ℕ → List ℕ
fileid_handle fileid = long fileid

-- a tick as a time: the boot in the seconds, the count in the nanoseconds
abbrev pub guard_time : Tick → Time3
guard_time t = record { seconds = t.boot; nanos = t.count }

-- the user and the group are set to the owner, the mode where it is named, and nothing else
abbrev pub owner_set : Option ℕ → ℕ → Sattr3
owner_set mode owner = record { mode = mode; uid = Some owner; gid = Some owner; size = None; atime = Keep; mtime = Keep }

abbrev pub asked_stability : Bool → StableHow
asked_stability true = FileSync
asked_stability false = Unstable

-- Each call with its arguments: CREATE in the root, UNCHECKED (section 3.3.8); SETATTR with the guard (3.3.2);
-- WRITE, whose count is its data's (3.3.7); COMMIT of the whole file (3.3.21); READ (3.3.6).
abbrev pub nfs_call_of : DsCallValue → Nfs3Call
nfs_call_of (ds.Create name owner) = Create (fileid_handle ROOT) (mirror_name name) (Unchecked (owner_set (Some FILE_MODE) owner))
nfs_call_of (ds.SetAttr fileid owner guard) = SetAttr (fileid_handle fileid) (owner_set None owner) (Some (guard_time guard))
nfs_call_of (ds.Write fileid at synced bytes) = Write (fileid_handle fileid) at (length bytes) (asked_stability synced) bytes
nfs_call_of (ds.Commit fileid) = Commit (fileid_handle fileid) 0 0
nfs_call_of (ds.Read fileid at count) = Read (fileid_handle fileid) at count

-- who calls: a user, whose group has the same number, on a machine (RFC 5531, appendix A)
abbrev pub user_credential : List ℕ → ℕ → Credential
user_credential machine user = record { stamp = 0; machine = machine; uid = user; gid = user; gids = [] }

abbrev pub credential_body : List ℕ → ℕ → List ℕ
credential_body machine user = spelling authsys_parms (credential_value (user_credential machine user))

-- NFS version 3 (RFC 1813, section 2.1) by AUTH_SYS, with no verifier
abbrev pub ds_rpc_call : ℕ → List ℕ → ℕ → DsCallValue → RpcCall
ds_rpc_call xid machine user call =
    let value = call_value (nfs_call_of call) in
    record {
      xid = xid;
      program = NFS_PROGRAM;
      version = NFS_VERSION;
      procedure = arm_of calls value;
      cred = record { flavor = AUTH_SYS; body = credential_body machine user };
      verf = auth_none;
      args = arm_spelling calls value;
    }

abbrev pub ds_call_bytes : ℕ → List ℕ → ℕ → DsCallValue → List ℕ
ds_call_bytes xid machine user call = call_bytes (ds_rpc_call xid machine user call)
