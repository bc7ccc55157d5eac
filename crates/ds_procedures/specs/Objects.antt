-- The objects of a data server as NFSv3 speaks of them: handles, attributes, statuses (RFC 1813, sections 2.5 and 2.6).
use Rattle.std.specs.Prelude.{ℕ, ◌+◌, List, length, Option, Some, None, ◌==◌, if◌then◌else◌, slice_get}
use Rattle.std.specs.Option.{option_map}
use Rattle.std.specs.Int.{w64, from_be_bytes}
use Rattle.ff_xdr.specs.Form.{long}
use Rattle.rpc_record.specs.declared.auth.AuthSys.{AuthSys}
use Rattle.rpc_record.specs.Rpc.{Credential, plain_credential}
use Rattle.nfs3_wire.specs.declared.file_type.FileType.TheVariants.{Regular, Directory}
use Rattle.nfs3_wire.specs.declared.status.Stat3.{Stat3}
use Rattle.nfs3_wire.specs.declared.status.Stat3.TheVariants as stat
use Rattle.nfs3_wire.specs.declared.attributes.Time3.{Time3}
use Rattle.nfs3_wire.specs.declared.attributes.Fattr3.{Fattr3}
use Rattle.nfs3_wire.specs.declared.wcc.WccAttr.{WccAttr}
use Rattle.nfs3_wire.specs.declared.wcc.WccData.{WccData}
use Rattle.cluster_model.specs.declared.tick.Tick.{Tick}
use Rattle.cluster_model.specs.declared.tick.Times.{Times}
use Rattle.cluster_model.specs.File.{StoredFile, shown}
use Rattle.cluster_model.specs.Server.{ServerState, Named, Caller, Refusal, Acces, Inval, NotSync, Fbig, NoSpc, Jukebox, named}
use Rattle.cluster_model.specs.Server as model

-- ---- handles: the fileid as eight bytes

pub data Object : Type 0 where
  -- the handle is none, or names nothing
  Missing : (status : Stat3) → Object
  Root : Object
  File : (index : ℕ) (file : StoredFile) → Object

abbrev pub object_by : Named → Object
object_by model.Nothing = Missing stat.Stale
object_by model.Root = Root
object_by (model.File index f) = File index f

abbrev pub object_of : List StoredFile → List ℕ → Object
object_of files handle = if length handle == 8 then object_by (named files (from_be_bytes w64 handle)) else Missing stat.BadHandle

-- the handle of the file at an index
abbrev pub handle_of : ℕ → List ℕ
handle_of index = long (index + 2)

-- ---- attributes

-- a tick as a time: the boot in the seconds, the count in the nanoseconds
abbrev pub time_of : Tick → Time3
time_of t = record { seconds = t.boot; nanos = t.count }

abbrev pub root_attributes : Times → Fattr3
root_attributes times = record {
  kind = Directory;
  mode = 493;
  nlink = 2;
  uid = 0;
  gid = 0;
  size = 4096;
  used = 4096;
  rdev = record { major = 0; minor = 0 };
  fsid = 1;
  fileid = 1;
  atime = time_of times.atime;
  mtime = time_of times.mtime;
  ctime = time_of times.ctime;
}

abbrev pub file_attributes : ℕ → StoredFile → Fattr3
file_attributes fileid f = record {
  kind = Regular;
  mode = f.mode;
  nlink = 1;
  uid = f.owner;
  gid = f.group;
  size = length (shown f);
  used = length (shown f);
  rdev = record { major = 0; minor = 0 };
  fsid = 1;
  fileid = fileid;
  atime = time_of f.times.atime;
  mtime = time_of f.times.mtime;
  ctime = time_of f.times.ctime;
}

-- of what a handle names: none where it names nothing
abbrev pub attributes_of : ServerState → Object → Option Fattr3
attributes_of s (Missing status) = None
attributes_of s Root = Some (root_attributes s.root)
attributes_of s (File index f) = Some (file_attributes (index + 2) f)

-- of the file at an index
abbrev pub attributes_at : List StoredFile → ℕ → Option Fattr3
attributes_at files index = option_map (file_attributes (index + 2)) (slice_get files index)

-- ---- wcc_data: the attributes before an operation and after it

abbrev pub wcc_attr_of : Fattr3 → WccAttr
wcc_attr_of a = record { size = a.size; mtime = a.mtime; ctime = a.ctime }

abbrev pub wcc_between : Fattr3 → Fattr3 → WccData
wcc_between before after = record { before = Some (wcc_attr_of before); after = Some after }

-- where the object stays as it is, or there is none
abbrev pub wcc_same : Option Fattr3 → WccData
wcc_same None = record { before = None; after = None }
wcc_same (Some a) = wcc_between a a

-- ---- statuses and callers

abbrev pub stat_of : Refusal → Stat3
stat_of Acces = stat.Acces
stat_of Inval = stat.Inval
stat_of NotSync = stat.NotSync
stat_of Fbig = stat.Fbig
stat_of NoSpc = stat.NoSpc
stat_of Jukebox = stat.Jukebox

-- the caller that a credential names
abbrev pub caller_of : Credential → Caller
caller_of cred = record { uid = cred.uid; gid = cred.gid; gids = cred.gids }

abbrev pub caller : AuthSys → Caller
caller cred = caller_of (plain_credential cred)
