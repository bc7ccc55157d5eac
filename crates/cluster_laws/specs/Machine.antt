-- The machine of the fence law: data servers, the files of the metadata server, and a network that keeps every packet. A run is a list of
-- moves, and all choice is in it: what is delivered, and how often; what is called, repeated or given up; what a restart keeps. A move
-- that cannot be made does nothing. The journal has no packets (RFC 8435, section 2.2; RFC 1813; RFC 8881, section 12).
use Rattle.std.specs.Prelude.{ℕ, ◌+◌, ◌-◌, Bool, true, false, ◌==◌, ◌&&◌, not, List, [], ◌∷◌, ◌++◌, length, position, Option, Some, None, nat_lt, if◌then◌else◌, slice_get, slice_set}
use Rattle.std.specs.List.{list_any, flat_map}
use Rattle.cluster_model.specs.declared.tick.Tick.{Tick}
use Rattle.cluster_model.specs.declared.limits.TheConstants.{FIRST_UID}
use Rattle.cluster_model.specs.declared.ids.NodeId.{NodeId}
use Rattle.cluster_model.specs.declared.ids.NodeId.TheVariants.{Mds, Server, Client}
use Rattle.cluster_model.specs.declared.ids.FileId.{FileId}
use Rattle.cluster_model.specs.declared.ids.MirrorId.{MirrorId}
use Rattle.cluster_model.specs.declared.piece.Piece.{Piece}
use Rattle.cluster_model.specs.declared.ds_call.Shown.{Shown}
use Rattle.cluster_model.specs.declared.entry.Entry.{Entry}
use Rattle.cluster_model.specs.declared.entry.Entry.TheVariants as entry
use Rattle.cluster_model.specs.Nodes.{is_node}
use Rattle.cluster_model.specs.Server.{ServerState, Caller, restart_of}
use Rattle.cluster_model.specs.Phases.{ids_of}
use Rattle.cluster_model.specs.DsCalls.{DsCallValue, Create, SetAttr, Write, Commit, Read, DsReplyValue, Created, Set, Written, Committed, Bytes, NotSync, Failed, DsStep, ds_step}
use Rattle.file_rule.specs.MdsFiles.{MdsFile, FileStep, a_uid}
use Rattle.file_rule.specs.declared.fresh.Fresh.{Fresh}
use Rattle.file_rule.specs.FilePhases.{FileInput, AsksLayout, OwnWrite, Recall, Returns, Revokes, OwnEnds, Resilver, Answers, TimesOut, Ticks, Sees, new_mds_file, end_of_uids, are_spent, phase, CallOut, call_out, is_outstanding}

-- ---- packets

-- A call of a user and a group, and a reply, which tells the place of its call's packet. Both have the number of the call (RFC 5531,
-- section 9).
pub data PacketValue : Type 0 where
  Call : (from : NodeId) (server xid uid gid : ℕ) (call : DsCallValue) → PacketValue
  Reply : (place server : ℕ) (to : NodeId) (xid : ℕ) (reply : DsReplyValue) → PacketValue

-- a uid that a node was granted, with the mirrors of its layout
pub record Holding : Type 0 where
  pub node : NodeId
  pub file : FileId
  pub uid : ℕ
  pub mirrors : List MirrorId

pub record Machine : Type 0 where
  -- data server n stands at place n - 1, file f at place f - 1
  pub servers : List ServerState
  pub files : List MdsFile
  pub next_uid : ℕ
  pub next_name : ℕ
  -- the number of each node's last new call
  pub last_xid : NodeId → ℕ
  pub packets : List PacketValue
  pub holdings : List Holding

-- the machine after a move, and the entries of it
pub record MachineStep : Type 0 where
  pub machine : Machine
  pub entries : List Entry

abbrev pub no_move : Machine → MachineStep
no_move m = record { machine = m; entries = [] }

-- new data servers, numbered from 1, and no files
abbrev pub new_machine : List ServerState → Machine
new_machine servers = record { servers = servers; files = []; next_uid = FIRST_UID; next_name = 1; last_xid = λ node. 0; packets = []; holdings = [] }

-- ---- moves

pub data Move : Type 0 where
  -- the packet at this place arrives; it may have come before
  Deliver : (place : ℕ) → Move
  -- a client creates a file, with a mirror at each of these servers
  Creates : (at_servers : List ℕ) → Move
  -- an input of the table of phases that is no answer and no timeout
  Happens : (file : ℕ) (input : FileInput) → Move
  -- the next call of a file goes out under a new number
  CallsOut : (file xid : ℕ) → Move
  -- a packet is sent again
  SendsAgain : (place : ℕ) → Move
  -- an outstanding call of a file times out
  GivesUpWaiting : (file xid : ℕ) → Move
  -- an answer is taken by a file whose call it answers
  Hears : (file place : ℕ) → Move
  -- a node sends a WRITE, a COMMIT or a READ under any uid, be it granted or not; the metadata server under a new number
  Uses : (node : NodeId) (server xid uid gid : ℕ) (call : DsCallValue) → Move
  -- an own write's answer showed the ctime of a mirror
  Learns : (file place : ℕ) (id : MirrorId) → Move
  -- It is noted that a write under a uid was taken; that one strayed; that one is committed. Who may note what is said of holders.
  Takes : (file : FileId) (uid at : ℕ) (bytes : List ℕ) → Move
  Strays : (file : FileId) (uid at : ℕ) (bytes : List ℕ) → Move
  Tells : (file : FileId) (uid at : ℕ) (bytes : List ℕ) → Move
  -- a data server starts again; these pieces of its pending writes had reached its disk
  Restarts : (server : ℕ) (pieces : List Piece) → Move

-- ---- parts of the machine

-- what has a number from 1, in a list
abbrev pub numbered_at : {A : Type 0} → List A → ℕ → Option A
numbered_at all n = if n == 0 then None else slice_get all (n - 1)

abbrev pub with_server : Machine → ℕ → ServerState → List PacketValue → Machine
with_server m n s packets = record {
  servers = slice_set m.servers (n - 1) s;
  files = m.files;
  next_uid = m.next_uid;
  next_name = m.next_name;
  last_xid = m.last_xid;
  packets = packets;
  holdings = m.holdings;
}

abbrev pub with_packets : Machine → List PacketValue → Machine
with_packets m packets = record {
  servers = m.servers;
  files = m.files;
  next_uid = m.next_uid;
  next_name = m.next_name;
  last_xid = m.last_xid;
  packets = packets;
  holdings = m.holdings;
}

-- this number is the last one of the node
abbrev pub with_number : (NodeId → ℕ) → NodeId → ℕ → NodeId → ℕ
with_number last node xid other = if is_node node other then xid else last other

-- a new call of a node goes out
abbrev pub puts_out : Machine → NodeId → ℕ → PacketValue → Machine
puts_out m node xid packet = record {
  servers = m.servers;
  files = m.files;
  next_uid = m.next_uid;
  next_name = m.next_name;
  last_xid = with_number m.last_xid node xid;
  packets = m.packets ++ packet ∷ [];
  holdings = m.holdings;
}

-- a file after a step, with what was drawn, and what is held from then on
abbrev pub with_file : Machine → ℕ → FileStep → List Holding → Machine
with_file m n s held = record {
  servers = m.servers;
  files = slice_set m.files (n - 1) s.file;
  next_uid = m.next_uid + s.uids;
  next_name = m.next_name + s.names;
  last_xid = m.last_xid;
  packets = m.packets;
  holdings = m.holdings ++ held;
}

abbrev pub fresh_of : Machine → Fresh
fresh_of m = record { uid = m.next_uid; name = m.next_name; servers = length m.servers }

-- what the entries of a file's step let a node hold: a grant, whose layout has these mirrors
abbrev pub held_by_entry : List MirrorId → Entry → List Holding
held_by_entry mirrors (entry.Granted file cred holder) = record { node = holder; file = file; uid = cred.0; mirrors = mirrors } ∷ []
held_by_entry mirrors _ = []

abbrev pub held_by : List MirrorId → List Entry → List Holding
held_by mirrors entries = flat_map (held_by_entry mirrors) entries

abbrev pub file_id : ℕ → FileId
file_id n = record { 0 = n }

-- what is to be drawn is there: uids end at 4,294,967,293, and the numbers of names at 2^64 - 1
abbrev pub can_draw : Machine → ℕ → ℕ → Bool
can_draw m uids names = nat_lt (m.next_uid + uids) (end_of_uids + 1) && nat_lt (m.next_name + names) 18446744073709551616

abbrev pub file_stepped : Machine → ℕ → FileStep → MachineStep
file_stepped m n s =
    if can_draw m s.uids s.names
    then record { machine = with_file m n s (held_by (ids_of s.file.layout.live) s.entries); entries = s.entries }
    else no_move m

abbrev pub file_takes : Machine → ℕ → FileInput → Option MdsFile → MachineStep
file_takes m n input None = no_move m
file_takes m n input (Some f) = file_stepped m n (phase (file_id n) f input (fresh_of m))

-- ---- deliveries

-- Who calls, by the user and the group that a call has: there are no further groups (RFC 5531, appendix A).
abbrev pub caller_by : ℕ → ℕ → Caller
caller_by uid gid = record { uid = uid; gid = gid; gids = [] }

-- the reply to the call at a place
abbrev pub served : Machine → ℕ → NodeId → ℕ → ℕ → DsStep → MachineStep
served m place from n xid step = record { machine = with_server m n step.server (m.packets ++ Reply place n from xid step.reply ∷ []); entries = step.entries }

abbrev pub arrives_at : Machine → ℕ → NodeId → ℕ → ℕ → Caller → DsCallValue → Option ServerState → MachineStep
arrives_at m place from n xid caller call None = no_move m
arrives_at m place from n xid caller call (Some s) = served m place from n xid (ds_step s caller call)

-- the file whose call of this number to this server is outstanding
abbrev pub file_of : List MdsFile → ℕ → ℕ → Option ℕ
file_of files server xid = position (λ f. is_outstanding f server xid) files

-- An answer is taken by the file whose call it answers; any other reply is passed over.
abbrev pub answers_at : Machine → ℕ → DsReplyValue → Option ℕ → MachineStep
answers_at m xid reply None = no_move m
answers_at m xid reply (Some place) = file_takes m (place + 1) (Answers xid reply) (slice_get m.files place)

abbrev pub comes_to : Machine → ℕ → ℕ → DsReplyValue → NodeId → MachineStep
comes_to m server xid reply Mds = answers_at m xid reply (file_of m.files server xid)
comes_to m server xid reply (Server n) = no_move m
comes_to m server xid reply (Client n) = no_move m

abbrev pub delivered : Machine → ℕ → Option PacketValue → MachineStep
delivered m place None = no_move m
delivered m place (Some (Call from server xid uid gid call)) = arrives_at m place from server xid (caller_by uid gid) call (numbered_at m.servers server)
delivered m place (Some (Reply call server to xid reply)) = comes_to m server xid reply to

-- ---- the other moves

-- an input that comes from nowhere is none of those that a packet or the clock brings
abbrev pub comes_by_itself : FileInput → Bool
comes_by_itself (AsksLayout client) = true
comes_by_itself (OwnWrite at bytes) = true
comes_by_itself Recall = true
comes_by_itself (Returns client claimed places) = true
comes_by_itself (Revokes cause) = true
comes_by_itself (OwnEnds causes at bytes) = true
comes_by_itself Resilver = true
comes_by_itself (Answers xid reply) = false
comes_by_itself (TimesOut xid) = false
comes_by_itself Ticks = true
comes_by_itself (Sees id seen) = false

-- the servers are there, and no two are the same
abbrev pub are_servers : ℕ → List ℕ → Bool
are_servers count [] = true
are_servers count (n ∷ servers) = nat_lt 0 n && nat_lt n (count + 1) && not (list_any (λ k. k == n) servers) && are_servers count servers

abbrev pub may_create : Machine → List ℕ → Bool
may_create m servers = nat_lt 0 (length servers) && nat_lt (length servers) 5 && are_servers (length m.servers) servers && not (are_spent (fresh_of m)) && can_draw m 1 1

abbrev pub created : Machine → List ℕ → MachineStep
created m servers = if may_create m servers then record {
  machine = record {
    servers = m.servers;
    files = m.files ++ new_mds_file (fresh_of m) servers ∷ [];
    next_uid = m.next_uid + 1;
    next_name = m.next_name + 1;
    last_xid = m.last_xid;
    packets = m.packets;
    holdings = m.holdings;
  };
  entries = [];
} else no_move m

-- a node's numbers rise from one new call to its next
abbrev pub is_new_number : Machine → NodeId → ℕ → Bool
is_new_number m node xid = nat_lt (m.last_xid node) xid

abbrev pub goes_out : Machine → ℕ → ℕ → Option CallOut → MachineStep
goes_out m n xid None = no_move m
goes_out m n xid (Some c) = record {
  machine = record {
    servers = m.servers;
    files = slice_set m.files (n - 1) c.file;
    next_uid = m.next_uid;
    next_name = m.next_name;
    last_xid = with_number m.last_xid Mds xid;
    packets = m.packets ++ Call Mds c.server xid c.uid c.uid c.call ∷ [];
    holdings = m.holdings;
  };
  entries = [];
}

abbrev pub call_out_from : Machine → ℕ → ℕ → Option MdsFile → MachineStep
call_out_from m n xid None = no_move m
call_out_from m n xid (Some f) = if is_new_number m Mds xid then goes_out m n xid (call_out f xid) else no_move m

abbrev pub sent_again : Machine → Option PacketValue → MachineStep
sent_again m None = no_move m
sent_again m (Some packet) = record { machine = with_packets m (m.packets ++ packet ∷ []); entries = [] }

-- What a node may send whatever it was granted: it writes, commits and reads. Files are made and given to others by the metadata server's
-- own calls alone.
abbrev pub may_use : DsCallValue → Bool
may_use (Create name owner) = false
may_use (SetAttr fileid owner guard) = false
may_use (Write fileid at synced bytes) = true
may_use (Commit fileid) = true
may_use (Read fileid at count) = true

-- the calls of the metadata server have numbers of their own; how a client numbers its calls is its own affair
abbrev pub may_number : Machine → NodeId → ℕ → Bool
may_number m Mds xid = is_new_number m Mds xid
may_number m (Server n) xid = true
may_number m (Client n) xid = true

abbrev pub used : Machine → NodeId → ℕ → ℕ → ℕ → ℕ → DsCallValue → MachineStep
used m node server xid uid gid call =
    if may_use call && may_number m node xid
    then record { machine = puts_out m node xid (Call node server xid uid gid call); entries = [] }
    else no_move m

-- an answer that is taken by this file
abbrev pub heard_at : Machine → ℕ → ℕ → ℕ → DsReplyValue → NodeId → Option MdsFile → MachineStep
heard_at m n server xid reply to None = no_move m
heard_at m n server xid reply Mds (Some f) = if is_outstanding f server xid then file_takes m n (Answers xid reply) (Some f) else no_move m
heard_at m n server xid reply (Server k) (Some f) = no_move m
heard_at m n server xid reply (Client k) (Some f) = no_move m

abbrev pub heard : Machine → ℕ → Option PacketValue → MachineStep
heard m n None = no_move m
heard m n (Some (Call from server xid uid gid call)) = no_move m
heard m n (Some (Reply call server to xid reply)) = heard_at m n server xid reply to (numbered_at m.files n)

-- the ctime that a reply shows
abbrev pub ctime_of : Option Shown → Option Tick
ctime_of None = None
ctime_of (Some shown) = Some shown.seen

abbrev pub ctime_in : DsReplyValue → Option Tick
ctime_in (Created fileid shown) = Some shown.seen
ctime_in (Set shown) = ctime_of shown
ctime_in (Written shown verifier) = ctime_of shown
ctime_in (Committed shown verifier) = ctime_of shown
ctime_in (Bytes shown eof bytes) = None
ctime_in (NotSync shown) = Some shown.seen
ctime_in (Failed status shown) = ctime_of shown

abbrev pub learns_tick : Machine → ℕ → MirrorId → Option MdsFile → Option Tick → MachineStep
learns_tick m n id file None = no_move m
learns_tick m n id file (Some tick) = file_takes m n (Sees id tick) file

-- a call writes to this fileid, or commits it
abbrev pub writes_to : ℕ → DsCallValue → Bool
writes_to fileid (Create name owner) = false
writes_to fileid (SetAttr other owner guard) = false
writes_to fileid (Write other at synced bytes) = other == fileid
writes_to fileid (Commit other) = other == fileid
writes_to fileid (Read other at count) = false

abbrev pub was_write_to : ℕ → Option PacketValue → Bool
was_write_to fileid None = false
was_write_to fileid (Some (Call from server xid uid gid call)) = writes_to fileid call
was_write_to fileid (Some (Reply place server to xid reply)) = false

abbrev pub learns_from : Machine → ℕ → MirrorId → Option MdsFile → ℕ → ℕ → NodeId → DsReplyValue → MachineStep
learns_from m n id file call server Mds reply = if server == id.server && was_write_to id.fileid (slice_get m.packets call) then learns_tick m n id file (ctime_in reply) else no_move m
learns_from m n id file call server (Server k) reply = no_move m
learns_from m n id file call server (Client k) reply = no_move m

abbrev pub learnt : Machine → ℕ → MirrorId → Option MdsFile → Option PacketValue → MachineStep
learnt m n id file None = no_move m
learnt m n id file (Some (Call from server xid uid gid call)) = no_move m
learnt m n id file (Some (Reply call server to xid reply)) = learns_from m n id file call server to reply

-- an entry, and nothing else
abbrev pub noted : Machine → Entry → MachineStep
noted m e = record { machine = m; entries = e ∷ [] }

abbrev pub started_again : Machine → ℕ → List Piece → Option ServerState → MachineStep
started_again m n pieces None = no_move m
started_again m n pieces (Some s) = record { machine = with_server m n s m.packets; entries = entry.Restarted n pieces ∷ [] }

abbrev pub restarts_at : Machine → ℕ → List Piece → Option ServerState → MachineStep
restarts_at m n pieces None = no_move m
restarts_at m n pieces (Some s) = started_again m n pieces (restart_of s pieces)

-- ---- a move, and a run

abbrev pub moved : Machine → Move → MachineStep
moved m (Deliver place) = delivered m place (slice_get m.packets place)
moved m (Creates at_servers) = created m at_servers
moved m (Happens n input) = if comes_by_itself input then file_takes m n input (numbered_at m.files n) else no_move m
moved m (CallsOut n xid) = call_out_from m n xid (numbered_at m.files n)
moved m (SendsAgain place) = sent_again m (slice_get m.packets place)
moved m (GivesUpWaiting n xid) = file_takes m n (TimesOut xid) (numbered_at m.files n)
moved m (Hears n place) = heard m n (slice_get m.packets place)
moved m (Uses node server xid uid gid call) = used m node server xid uid gid call
moved m (Learns n place id) = learnt m n id (numbered_at m.files n) (slice_get m.packets place)
moved m (Takes file uid at bytes) = noted m (entry.Sent file (a_uid uid) at bytes)
moved m (Strays file uid at bytes) = noted m (entry.Rogue file (a_uid uid) at bytes)
moved m (Tells file uid at bytes) = noted m (entry.Told file (a_uid uid) at bytes)
moved m (Restarts n pieces) = restarts_at m n pieces (numbered_at m.servers n)

abbrev pub machine_after : Machine → List Move → Machine
machine_after m [] = m
machine_after m (move ∷ moves) = machine_after (moved m move).machine moves

-- the journal of a run
abbrev pub journal_of : Machine → List Move → List Entry
journal_of m [] = []
journal_of m (move ∷ moves) = (moved m move).entries ++ journal_of (moved m move).machine moves
