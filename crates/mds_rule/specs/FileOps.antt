-- The operations on names, opens and bytes (RFC 8881, sections 18.2, 18.3, 18.7, 18.8, 18.13, 18.16, 18.19, 18.21, 18.22 and 18.32): each
-- is refused by the order of its statuses, or comes to what stands here.
use Rattle.std.specs.Prelude.{ℕ, ◌+◌, ◌-◌, ◌%◌, Bool, true, false, not, ◌==◌, ◌&&◌, List, [], ◌∷◌, ◌++◌, length, map, Option, Some, None, is_none, nat_lt, if◌then◌else◌, get_or}
use Rattle.std.specs.Option.{option_map}
use Rattle.std.specs.List.{range_with_len}
use Rattle.std.proofs.Common.{inl, inr}
use Rattle.ff_xdr.specs.Form.{Value}
use Rattle.ff_xdr.specs.Arms.{arm, by_arm}
use Rattle.cluster_model.specs.declared.ids.FileId.{FileId}
use Rattle.cluster_model.specs.declared.ids.Cred.{Cred}
use Rattle.cluster_model.specs.declared.ids.Mirror.{Mirror}
use Rattle.cluster_model.specs.declared.phase.Phase.{Phase}
use Rattle.cluster_model.specs.declared.limits.TheConstants.{PIECE_SIZE, SPARE_UIDS}
use Rattle.cluster_model.specs.Phases.{phase_of}
use Rattle.file_rule.specs.MdsFiles.{MdsFile}
use Rattle.file_rule.specs.FilePhases.{OwnWrite, new_mds_file, end_of_uids}
use Rattle.mds_io.specs.Reads.{new_read}
use Rattle.mds_io.specs.OwnWrites.{own_write}
use Rattle.nfs4_types.specs.declared.stateid.Stateid.{Stateid}
use Rattle.nfs4_types.specs.declared.status.Stat4.{Stat4}
use Rattle.nfs4_types.specs.declared.status.Stat4.TheVariants as stat
use Rattle.nfs4_types.specs.Stateids.{stateid4, stateid4_value}
use Rattle.nfs4_types.specs.Handles.{file_handle_of}
use Rattle.nfs4_file_ops.specs.Close.{close4_args}
use Rattle.nfs4_file_ops.specs.OpenHow.{createhow4, openflag4}
use Rattle.nfs4_file_ops.specs.Open.{open4_args}
use Rattle.nfs4_file_ops.specs.Read.{read4_args}
use Rattle.nfs4_file_ops.specs.Write.{write4_args}
use Rattle.nfs4_compound.specs.Results.{resop4}
use Rattle.compound_reply.specs.Replied.{results_text}
use Rattle.nfs4_session.specs.declared.begin.SlotPass.{SlotPass}
use Rattle.nfs4_session.specs.Clients.{client_in}
use Rattle.open_state.specs.declared.open.Open.{Open}
use Rattle.open_state.specs.Opens.{opens_of, open_of, open_fault, fault_at, given, again, opened, closed, stateid_of}
use Rattle.mds_refusals.specs.declared.object.Object.{Object}
use Rattle.mds_refusals.specs.declared.object.Object.TheVariants.{Root, File}
use Rattle.mds_refusals.specs.declared.named.Named.{Named}
use Rattle.mds_refusals.specs.declared.attributes.Attributes.{Attributes}
use Rattle.mds_refusals.specs.declared.attributes.AskedAttributes.{AskedAttributes}
use Rattle.mds_refusals.specs.declared.open.Creation.{Creation}
use Rattle.mds_refusals.specs.declared.open.Creation.TheVariants.{NoCreate, Unchecked, Guarded}
use Rattle.mds_refusals.specs.Orders.{file_of}
use Rattle.mds_refusals.specs.Stateids.{named_by}
use Rattle.mds_refusals.specs.PutFh.{put_fh_order, object_of}
use Rattle.mds_refusals.specs.Lookup.{lookup_order}
use Rattle.mds_refusals.specs.Opens.{open_order}
use Rattle.mds_refusals.specs.Close.{close_order}
use Rattle.mds_refusals.specs.Commit.{commit_order}
use Rattle.mds_refusals.specs.Attributes.{asked_of, first_word, second_word, values_of}
use Rattle.mds_refusals.specs.Reads.{read_order}
use Rattle.mds_refusals.specs.Writes.{write_order}
use Rattle.mds_refusals.specs.declared.read.ReadAsk.{ReadAsk}
use Rattle.mds_refusals.specs.declared.write.WriteAsk.{WriteAsk}
use Rattle.mds_rule.specs.MdsStates.{CompoundRun, WaitingWrite, ServedFile, MdsValue, MdsStep, served, with_served, numbered, file_named, size_served}
use Rattle.mds_rule.specs.OpSteps.{OpStep, Ends, Waits, with_result, at_object, gives, refuses, refused_as, by_order, refused_or}
use Rattle.mds_rule.specs.ServedFiles.{takes_input, asks_back, has_fresh}

-- ---- who asks, and what its stateid names

abbrev pub client_by : Option SlotPass → ℕ
client_by None = 0
client_by (Some slot) = client_in slot.session

abbrev pub client_of : CompoundRun → ℕ
client_of c = client_by c.slot

-- the uid of the layout that the client has of a file
abbrev pub granted_if : ℕ → Cred → Option ℕ → Option Cred
granted_if client cred None = None
granted_if client cred (Some holder) = if holder == client then Some cred else None

abbrev pub granted_of : Option ServedFile → ℕ → Option Cred
granted_of None client = None
granted_of (Some s) client = granted_if client s.file.layout.cred s.holder

abbrev pub open_number : MdsValue → ℕ → FileId → Option ℕ
open_number m client file = option_map (λ (o : Open). o.number) (open_of m.opens client file)

abbrev pub file_zero : FileId
file_zero = record { 0 = 0 }

abbrev pub file_or_none : Option FileId → FileId
file_or_none None = file_zero
file_or_none (Some file) = file

-- the current file, where it is one
abbrev pub current_file : CompoundRun → FileId
current_file c = file_or_none (file_of c.current)

abbrev pub stateid_in : Value stateid4 → Stateid
stateid_in (seqid, other) = record { seqid = seqid; other = other }

abbrev pub named_in : MdsValue → CompoundRun → Stateid → Named
named_in m c stateid = named_by stateid (current_file c) (open_number m (client_of c) (current_file c)) (granted_of (served m (current_file c)) (client_of c))

abbrev pub phase_or_free : Option ServedFile → Phase
phase_or_free None = Rattle.cluster_model.specs.declared.phase.Phase.TheVariants.Free
phase_or_free (Some s) = phase_of s.file.layout.phase

abbrev pub phase_now : MdsValue → CompoundRun → Phase
phase_now m c = phase_or_free (served m (current_file c))

abbrev pub uids_left : MdsValue → ℕ
uids_left m = end_of_uids - m.fresh.uid

-- ---- PUTFH 22, PUTROOTFH 24, GETFH 10, LOOKUP 15

abbrev pub put_object : MdsValue → CompoundRun → Option Object → OpStep
put_object m c None = refuses m c 22 stat.BadHandle
put_object m c (Some object) = gives m (at_object c object) (arm 22 resop4 (inl tt))

abbrev pub runs_put_fh : MdsValue → CompoundRun → List ℕ → OpStep
runs_put_fh m c handle = by_order m c 22 (put_fh_order handle (length m.files)) (put_object m c (object_of handle))

abbrev pub runs_put_root_fh : MdsValue → CompoundRun → OpStep
runs_put_root_fh m c = gives m (at_object c Root) (arm 24 resop4 (inl tt))

abbrev pub object_handle : Object → List ℕ
object_handle Root = file_handle_of 0
object_handle (File file) = file_handle_of file.0

abbrev pub get_object : MdsValue → CompoundRun → Option Object → OpStep
get_object m c None = refuses m c 10 stat.NoFileHandle
get_object m c (Some object) = gives m c (arm 10 resop4 (inl (object_handle object)))

abbrev pub runs_get_fh : MdsValue → CompoundRun → OpStep
runs_get_fh m c = get_object m c c.current

abbrev pub runs_lookup : MdsValue → CompoundRun → List ℕ → OpStep
runs_lookup m c name = by_order m c 15 (lookup_order c.current name (file_named m name)) (gives m (at_object c (File (file_or_none (file_named m name)))) (arm 15 resop4 (inl tt)))

-- ---- GETATTR 9

-- the root's change is the number of files
abbrev pub root_size : ℕ
root_size = 4096

abbrev pub attributes_served : FileId → Option ServedFile → Attributes
attributes_served file None = record { object = File file; change = 0; size = 0 }
attributes_served file (Some s) = record { object = File file; change = s.periods; size = size_served s }

abbrev pub object_attributes : MdsValue → Object → Attributes
object_attributes m Root = record { object = Root; change = length m.files; size = root_size }
object_attributes m (File file) = attributes_served file (served m file)

-- a bitmap has no words behind the last that is not 0
abbrev pub bitmap_words : ℕ → ℕ → List ℕ
bitmap_words first second = if second == 0 then (if first == 0 then [] else first ∷ []) else first ∷ second ∷ []

abbrev pub attributes_result : AskedAttributes → Attributes → Value resop4
attributes_result asked a = arm 9 resop4 (inl (bitmap_words (first_word asked) (second_word asked), values_of asked a))

abbrev pub get_attributes : MdsValue → CompoundRun → List ℕ → Option Object → OpStep
get_attributes m c words None = refuses m c 9 stat.NoFileHandle
get_attributes m c words (Some object) = gives m c (attributes_result (asked_of (get_or words 0 0) (get_or words 1 0)) (object_attributes m object))

abbrev pub runs_get_attr : MdsValue → CompoundRun → List ℕ → OpStep
runs_get_attr m c words = get_attributes m c words c.current

-- ---- OPEN 18

abbrev pub max_files : ℕ
max_files = 4096

-- a file's mirrors are on as many servers, from one of its own on, and go round behind the last
abbrev pub nth_server : ℕ → ℕ → ℕ → ℕ
nth_server servers file place = (file - 1 + place) % servers + 1

abbrev pub servers_of : ℕ → ℕ → ℕ → List ℕ
servers_of servers mirrors file = map (nth_server servers file) (range_with_len 0 mirrors)

abbrev pub new_served : List ℕ → MdsFile → ServedFile
new_served name file = record { name = name; file = file; sizes = []; periods = 0; holder = None; seqid = 0; write = None; reads = [] }

-- a file of this name is made: a uid and a number of a name are drawn
abbrev pub with_new_file : MdsValue → List ℕ → MdsValue
with_new_file m name = record m {
  files = m.files ++ new_served name (new_mds_file m.fresh (servers_of (length m.servers) m.mirrors (length m.files + 1))) ∷ [];
  fresh = record { uid = m.fresh.uid + 1; name = m.fresh.name + 1; servers = m.fresh.servers };
}

abbrev pub may_make : MdsValue → Bool
may_make m = (nat_lt (length m.files) max_files && not (nat_lt (uids_left m) SPARE_UIDS)) && has_fresh m.fresh

abbrev pub can_open : MdsValue → ℕ → Option FileId → Bool
can_open m client None = is_none (fault_at None (length (opens_of m.opens client)) m.opens.last)
can_open m client (Some file) = is_none (open_fault m.opens client file)

abbrev pub creation_in : Value openflag4 → Creation
creation_in how = by_arm openflag4 ((λ nothing. NoCreate), ((λ create. by_arm createhow4 ((λ attributes. Unchecked), ((λ attributes. Guarded), tt)) create), tt)) how

abbrev pub open_result : Open → Value resop4
open_result o = arm 18 resop4 (inl (stateid4_value (stateid_of o), (true, (0, (0, (0, ([], inl tt)))))))

abbrev pub opens_file : MdsValue → CompoundRun → FileId → OpStep
opens_file m c file =
    gives (record m { opens = opened m.opens (client_of c) file }) (at_object c (File file)) (open_result (given (open_of m.opens (client_of c) file) file m.opens.last))

abbrev pub opens_or_makes : MdsValue → CompoundRun → List ℕ → Option FileId → OpStep
opens_or_makes m c name (Some file) = opens_file m c file
opens_or_makes m c name None = opens_file (with_new_file m name) c (numbered (length m.files + 1))

abbrev pub open_named : MdsValue → CompoundRun → ℕ → Creation → List ℕ → Option FileId → OpStep
open_named m c access creation name found =
    by_order m c 18 (open_order c.current name access creation (record { file = found; can_open = can_open m (client_of c) found; can_make = may_make m })) (opens_or_makes m c name found)

abbrev pub name_in : Value (Rattle.nfs4_types.specs.ArmZero.arm_zero Rattle.nfs4_types.specs.Objects.component4) → List ℕ
name_in (inl name) = name
name_in (inr other) = []

abbrev pub runs_open : MdsValue → CompoundRun → Value open4_args → OpStep
runs_open m c (seqid, (access, (deny, (clientid, (owner, (how, claim)))))) = open_named m c access (creation_in how) (name_in claim) (file_named m (name_in claim))

-- ---- CLOSE 4

abbrev pub closes : MdsValue → CompoundRun → FileId → Option Open → OpStep
closes m c file None = refuses m c 4 stat.BadStateid
closes m c file (Some o) = gives (record m { opens = closed m.opens (client_of c) file }) c (arm 4 resop4 (inl (stateid4_value (stateid_of (again o)))))

abbrev pub runs_close : MdsValue → CompoundRun → Value close4_args → OpStep
runs_close m c (seqid, stateid) = by_order m c 4 (close_order c.current (named_in m c (stateid_in stateid))) (closes m c (current_file c) (open_of m.opens (client_of c) (current_file c)))

-- ---- COMMIT 5: all is on disks already

abbrev pub write_verifier : ℕ
write_verifier = 1

abbrev pub runs_commit : MdsValue → CompoundRun → OpStep
runs_commit m c = by_order m c 5 (commit_order c.current) (gives m c (arm 5 resop4 (inl write_verifier)))

-- ---- READ 25

-- the bytes of the results before it, where the reply is to be kept
abbrev pub kept_so_far : CompoundRun → Option ℕ
kept_so_far c = if c.is_kept then Some (length (results_text c.results)) else None

abbrev pub read_ask : MdsValue → CompoundRun → Value read4_args → ReadAsk
read_ask m c (stateid, (offset, count)) = record { named = named_in m c (stateid_in stateid); count = count; kept = kept_so_far c; phase = phase_now m c }

-- at most 65,536 bytes are read
abbrev pub read_length : ℕ → ℕ
read_length count = if nat_lt PIECE_SIZE count then PIECE_SIZE else count

abbrev pub with_read : CompoundRun → ℕ → ℕ → ServedFile → ServedFile
with_read c at count s = record s { reads = s.reads ++ (record { compound = c; read = new_read s.file.layout.live at count }) ∷ [] }

abbrev pub reads_at : MdsValue → CompoundRun → FileId → ℕ → ℕ → Option ServedFile → OpStep
reads_at m c file at count None = refuses m c 25 stat.Stale
reads_at m c file at count (Some s) =
    Waits (with_served m file (with_read c at count s)) []

abbrev pub reads_file : MdsValue → CompoundRun → Value read4_args → OpStep
reads_file m c (stateid, (offset, count)) = reads_at m c (current_file c) offset (read_length count) (served m (current_file c))

abbrev pub runs_read : MdsValue → CompoundRun → Value read4_args → OpStep
runs_read m c args = by_order m c 25 (read_order c.current (read_ask m c args)) (reads_file m c args)

-- ---- WRITE 38

abbrev pub write_ask : MdsValue → CompoundRun → Value write4_args → WriteAsk
write_ask m c (stateid, (offset, (stable, bytes))) =
    record { named = named_in m c (stateid_in stateid); offset = offset; length = length bytes; phase = phase_now m c; uids_left = uids_left m }

-- FILE_SYNC4
abbrev pub write_result : ℕ → Value resop4
write_result count = arm 38 resop4 (inl (count, (2, write_verifier)))

-- A period of the metadata server's own begins, and its write goes to each live mirror.
abbrev pub new_write : CompoundRun → List Mirror → ℕ → ℕ → List ℕ → WaitingWrite
new_write c live cred at bytes = record { compound = c; at = at; bytes = bytes; writer = own_write live cred at bytes; failures = [] }

abbrev pub with_write : CompoundRun → ℕ → List ℕ → ServedFile → ServedFile
with_write c at bytes s = record s { write = Some (new_write c s.file.layout.live s.file.layout.cred.0 at bytes) }

abbrev pub writes_at : MdsValue → CompoundRun → FileId → ℕ → List ℕ → Option ServedFile → MdsValue
writes_at m c file at bytes None = m
writes_at m c file at bytes (Some s) = with_served m file (with_write c at bytes s)

abbrev pub begins_write : MdsStep → CompoundRun → FileId → ℕ → List ℕ → OpStep
begins_write s c file at bytes = Waits (writes_at s.mds c file at bytes (served s.mds file)) s.entries

abbrev pub writes_file : MdsValue → CompoundRun → Value write4_args → OpStep
writes_file m c (stateid, (offset, (stable, []))) = gives m c (write_result 0)
writes_file m c (stateid, (offset, (stable, (b ∷ bytes)))) = begins_write (takes_input m (current_file c) (OwnWrite offset (b ∷ bytes))) c (current_file c) offset (b ∷ bytes)

-- where a client holds the file its layout is asked back
abbrev pub ends_by : MdsStep → CompoundRun → ℕ → Stat4 → OpStep
ends_by s c number status = Ends s.mds s.entries (with_result c (refused_as number status)) status

abbrev pub is_delay : Option Stat4 → Bool
is_delay (Some stat.Delay) = true
is_delay status = false

abbrev pub write_refused : MdsValue → CompoundRun → ℕ → Value write4_args → Option Stat4 → OpStep
write_refused m c now args status =
    if is_delay status then ends_by (asks_back m (current_file c) now) c 38 stat.Delay
    else refused_or m c 38 status (writes_file m c args)

abbrev pub runs_write : MdsValue → CompoundRun → ℕ → Value write4_args → OpStep
runs_write m c now args = write_refused m c now args (Rattle.mds_refusals.specs.Orders.refusal (write_order c.current (write_ask m c args)))
