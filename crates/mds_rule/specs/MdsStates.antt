-- What a metadata server has: files, clients, what waits, and the calls that were sent.
use Rattle.std.specs.Prelude.{ℕ, ◌+◌, ◌-◌, Bool, not, ◌==◌, ◌&&◌, List, [], ◌∷◌, ◌++◌, length, filter, position, find, bytes_eq, Option, Some, None, nat_lt, if◌then◌else◌, nat_eq, slice_get, slice_set}
use Rattle.std.specs.Map.{lookup}
use Rattle.std.specs.Option.{option_map}
use Rattle.ff_xdr.specs.Form.{Value}
use Rattle.rpc_record.specs.Replies.{RpcReply}
use Rattle.cluster_model.specs.declared.ids.NodeId.{NodeId}
use Rattle.cluster_model.specs.declared.ids.FileId.{FileId}
use Rattle.cluster_model.specs.declared.ids.Mirror.{Mirror}
use Rattle.cluster_model.specs.declared.ids.MirrorId.{MirrorId}
use Rattle.cluster_model.specs.declared.phase.LeftCause.{LeftCause}
use Rattle.cluster_model.specs.declared.entry.Entry.{Entry}
use Rattle.cluster_model.specs.declared.limits.TheConstants.{FIRST_UID}
use Rattle.cluster_model.specs.DsCalls.{DsCallValue}
use Rattle.cluster_model.specs.Journal.{is_mirror}
use Rattle.cluster_model.specs.Nodes.{is_node}
use Rattle.file_rule.specs.MdsFiles.{MdsFile}
use Rattle.file_rule.specs.declared.fresh.Fresh.{Fresh}
use Rattle.mds_io.specs.Reads.{ReadState}
use Rattle.mirror_writer.specs.Writers.{WriterValue}
use Rattle.nfs4_types.specs.declared.stateid.Stateid.{Stateid}
use Rattle.nfs4_compound.specs.declared.stop.Stop.{Stop}
use Rattle.nfs4_compound.specs.Args.{argop4}
use Rattle.nfs4_compound.specs.Results.{resop4}
use Rattle.nfs4_session.specs.declared.begin.SlotPass.{SlotPass}
use Rattle.nfs4_session.specs.declared.back.BackCall.{BackCall}
use Rattle.nfs4_session.specs.Clients.{SessionsState, no_clients}
use Rattle.recall.specs.declared.recall.Recall.{Recall}
use Rattle.open_state.specs.Opens.{OpensValue}
use Rattle.device_addr.specs.Universal.{AddressValue}
use Rattle.mds_refusals.specs.declared.object.Object.{Object}
use Rattle.mds_rule.specs.declared.waiter.Waiter.{Waiter}

-- ---- compounds

-- A compound that is run (RFC 8881, section 16.2.3): where its reply goes, and under which number; the operations that are still to come,
-- and why none is read behind them; the results so far; the slot that it has, but for one without a SEQUENCE; the current filehandle.
pub record CompoundRun : Type 0 where
  pub node : NodeId
  pub xid : ℕ
  pub tag : List ℕ
  pub ops : List (Value argop4)
  pub stop : Stop
  pub results : List (Value resop4)
  pub slot : Option SlotPass
  -- its reply is to be kept
  pub is_kept : Bool
  pub current : Option Object

-- ---- files

-- a READ whose compound waits for it
pub record WaitingRead : Type 0 where
  pub compound : CompoundRun
  pub read : ReadState

-- a WRITE whose compound waits for it, and why mirrors failed it so far
pub record WaitingWrite : Type 0 where
  pub compound : CompoundRun
  pub at : ℕ
  pub bytes : List ℕ
  pub writer : WriterValue
  pub failures : List (MirrorId × LeftCause)

pub record ServedFile : Type 0 where
  pub name : List ℕ
  pub file : MdsFile
  -- the size last seen at each mirror that has shown one
  pub sizes : List (MirrorId × ℕ)
  -- how many periods were granted and ended, as a number of 64 bits
  pub periods : ℕ
  -- the client that has the layout, by its id, and the seqid that the layout's stateid was last given with
  pub holder : Option ℕ
  pub seqid : ℕ
  pub write : Option WaitingWrite
  -- in the order in which they began
  pub reads : List WaitingRead

-- ---- what is sent

pub data MdsSend : Type 0 where
  -- a call to a data server under a number, under this uid (RFC 1813)
  CallsServer : (server xid uid : ℕ) (call : DsCallValue) → MdsSend
  -- a callback that recalls the layout with this stateid (RFC 8881, section 20.3)
  CallsBack : (xid : ℕ) (back : BackCall) (file : FileId) (stateid : Stateid) → MdsSend
  Replies : (node : NodeId) (reply : RpcReply) → MdsSend
  -- the reply to a call of which nothing is run, as a record
  Answers : (node : NodeId) (bytes : List ℕ) → MdsSend

-- a call that was sent
pub record AwaitedCall : Type 0 where
  pub node : NodeId
  pub xid : ℕ
  pub caller : Waiter
  pub sent : MdsSend

-- ---- the whole

pub record MdsValue : Type 0 where
  -- the addresses of the data servers, by their numbers from 1; how many mirrors a new file is to have
  pub servers : List AddressValue
  pub mirrors : ℕ
  pub sessions : SessionsState
  -- the nodes from which the clients' ids were confirmed (RFC 8881, section 18.36.3)
  pub confirmed : List (ℕ × NodeId)
  pub opens : OpensValue
  -- the clients that have sent RECLAIM_COMPLETE
  pub reclaimed : List ℕ
  -- by their numbers from 1
  pub files : List ServedFile
  pub recalls : List Recall
  -- by their numbers
  pub calls : List AwaitedCall
  pub fresh : Fresh
  -- the number of the next call, and 0 when all are used
  pub next_xid : ℕ

-- a server after an event or a part of it, the entries of the journal that it made, and what it sends
pub record MdsStep : Type 0 where
  pub mds : MdsValue
  pub entries : List Entry
  pub sends : List MdsSend

abbrev pub sends_none : MdsValue → MdsStep
sends_none m = record { mds = m; entries = []; sends = [] }

abbrev pub enters : List Entry → MdsStep → MdsStep
enters entries s = record { mds = s.mds; entries = entries ++ s.entries; sends = s.sends }

abbrev pub and_then : MdsStep → (MdsValue → MdsStep) → MdsStep
and_then s next = record { mds = (next s.mds).mds; entries = s.entries ++ (next s.mds).entries; sends = s.sends ++ (next s.mds).sends }

-- ---- a new one: no clients and no files

abbrev pub new_mds : List AddressValue → ℕ → MdsValue
new_mds servers mirrors = record {
  servers = servers;
  mirrors = mirrors;
  sessions = no_clients 1;
  confirmed = [];
  opens = record { clients = []; last = 0 };
  reclaimed = [];
  files = [];
  recalls = [];
  calls = [];
  fresh = record { uid = FIRST_UID; name = 1; servers = length servers };
  next_xid = 1;
}

-- ---- its clients

abbrev pub confirmed_node : MdsValue → ℕ → Option NodeId
confirmed_node m client = lookup (nat_eq client) m.confirmed

-- ---- the calls that were sent

-- each number stands once
abbrev pub with_call : AwaitedCall → List AwaitedCall → List AwaitedCall
with_call call [] = call ∷ []
with_call call (c ∷ calls) =
    if nat_lt call.xid c.xid then call ∷ c ∷ calls
    else if call.xid == c.xid then call ∷ calls
    else c ∷ with_call call calls

abbrev pub is_call_to : NodeId → ℕ → AwaitedCall → Bool
is_call_to node xid call = is_node call.node node && (call.xid == xid)

abbrev pub without_call : NodeId → ℕ → List AwaitedCall → List AwaitedCall
without_call node xid calls = filter (λ call. not (is_call_to node xid call)) calls

-- ---- one file of it

abbrev pub served_in : List ServedFile → FileId → Option ServedFile
served_in files file = if file.0 == 0 then None else slice_get files (file.0 - 1)

abbrev pub with_file : List ServedFile → FileId → ServedFile → List ServedFile
with_file files file s = slice_set files (file.0 - 1) s

abbrev pub served : MdsValue → FileId → Option ServedFile
served m file = served_in m.files file

abbrev pub with_served : MdsValue → FileId → ServedFile → MdsValue
with_served m file s = record m { files = with_file m.files file s }

abbrev pub numbered : ℕ → FileId
numbered n = record { 0 = n }

-- the file that has a name
abbrev pub has_name : List ℕ → ServedFile → Bool
has_name name s = bytes_eq name s.name

abbrev pub file_in_place : Option ℕ → Option FileId
file_in_place place = option_map (λ n. numbered (n + 1)) place

abbrev pub named_among : List ServedFile → List ℕ → Option FileId
named_among files name = file_in_place (position (has_name name) files)

abbrev pub file_named : MdsValue → List ℕ → Option FileId
file_named m name = named_among m.files name

-- the size last seen at the first live mirror
abbrev pub is_size_of : MirrorId → MirrorId × ℕ → Bool
is_size_of id size = is_mirror size.0 id

abbrev pub size_or_none : Option (MirrorId × ℕ) → ℕ
size_or_none None = 0
size_or_none (Some size) = size.1

abbrev pub size_of_first : List Mirror → List (MirrorId × ℕ) → ℕ
size_of_first [] sizes = 0
size_of_first (m ∷ live) sizes = size_or_none (find (is_size_of m.id) sizes)

abbrev pub size_served : ServedFile → ℕ
size_served s = size_of_first s.file.layout.live s.sizes

abbrev pub with_size : MirrorId → ℕ → List (MirrorId × ℕ) → List (MirrorId × ℕ)
with_size id size sizes = filter (λ s. not (is_size_of id s)) sizes ++ (id, size) ∷ []
