-- A data server without handles: its files, who may do what to them, and what that leaves (RFC 1813, sections 2.5 and 3.3).
use Rattle.std.specs.Prelude.{ℕ, ◌+◌, ◌-◌, Bool, true, false, ◌&&◌, ◌||◌, not, List, [], ◌∷◌, ◌++◌, length, codes, sum_by, take, drop, min, position, Option, Some, None, nat_lt, nat_le, ◌==◌, if◌then◌else◌, slice_get, slice_set, bit_and}
use Rattle.std.specs.Str.{bytes_eq}
use Rattle.std.specs.List.{list_any}
use Rattle.cluster_model.specs.declared.limits.TheConstants.{FILE_MODE, FIRST_UID, MAX_BOOT, MAX_FILE, MAX_READ, MAX_TICKS, MAX_TOTAL}
use Rattle.cluster_model.specs.declared.ids.MirrorId.{MirrorId}
use Rattle.cluster_model.specs.declared.entry.Entry.{Entry}
use Rattle.cluster_model.specs.declared.entry.Entry.TheVariants.{Applied, Committed, Owner}
use Rattle.cluster_model.specs.declared.piece.Piece.{Piece}
use Rattle.cluster_model.specs.declared.tick.Tick.{Tick}
use Rattle.cluster_model.specs.declared.tick.Times.{Times}
use Rattle.cluster_model.specs.Content.{pieces_of}
use Rattle.cluster_model.specs.File.{StoredFile, FileOp, Writes, Commits, Sets, Restarts, shown, all_at, new_file, taken, restarted, file_after, clock_after}
use Rattle.cluster_model.specs.Ticks.{next_tick, rebooted}

-- A data server: its number; the last tick that it gave, of count 0 where it gave none in this boot; the root's times; and its
-- files with their names in the root, in the order in which they were made. The root has fileid 1, the files have 2, 3, and so on.
pub record ServerState : Type 0 where
  pub number : ℕ
  pub clock : Tick
  pub root : Times
  pub names : List (List ℕ)
  pub files : List StoredFile

-- a root and no files
abbrev pub new_server : ℕ → ℕ → ServerState
new_server number boot =
    let start : Tick = record { boot = boot; count = 0 } in
    record { number = number; clock = start; root = all_at start; names = []; files = [] }

-- Number 1, boot 1, and one empty file m1 of user and group 65,536, mode 0640, made at the first tick: so mtime and ctime of the
-- root are that tick too.
abbrev pub preset_server : ServerState
preset_server =
    let start : Tick = record { boot = 1; count = 0 } in
    let first : Tick = record { boot = 1; count = 1 } in
    record {
      number = 1;
      clock = first;
      root = record { atime = start; mtime = first; ctime = first };
      names = codes "m1" ∷ [];
      files = new_file FIRST_UID FIRST_UID FILE_MODE first ∷ [];
    }

-- the limits of a server: data in one READ, all files together, one file, ticks in one boot, boots
abbrev pub max_read : ℕ
max_read = MAX_READ

abbrev pub max_total : ℕ
max_total = MAX_TOTAL

abbrev pub max_file : ℕ
max_file = MAX_FILE

abbrev pub max_ticks : ℕ
max_ticks = MAX_TICKS

abbrev pub max_boot : ℕ
max_boot = MAX_BOOT

-- ---- files

-- what a fileid names
pub data Named : Type 0 where
  Nothing : Named
  Root : Named
  File : (index : ℕ) (file : StoredFile) → Named

abbrev pub file_at : ℕ → Option StoredFile → Named
file_at index None = Nothing
file_at index (Some f) = File index f

abbrev pub named : List StoredFile → ℕ → Named
named files fileid = if fileid == 1 then Root else (if nat_lt fileid 2 then Nothing else file_at (fileid - 2) (slice_get files (fileid - 2)))

-- the mirror that the file at an index is
abbrev pub mirror_of : ServerState → ℕ → MirrorId
mirror_of s index = record { server = s.number; fileid = index + 2 }

-- the index of the file with a name in the root
abbrev pub index_of : List (List ℕ) → List ℕ → Option ℕ
index_of names name = position (bytes_eq name) names

-- the shown bytes of all files together
abbrev pub total_size : List StoredFile → ℕ
total_size files = sum_by (λ f. length (shown f)) files

-- ---- access (sections 3.3.6 and 3.3.7)

-- who calls: a user, a group, and further groups (RFC 5531, appendix A)
pub record Caller : Type 0 where
  pub uid : ℕ
  pub gid : ℕ
  pub gids : List ℕ

-- the mode has this bit
abbrev pub allows : ℕ → ℕ → Bool
allows mode bit = not (bit_and mode bit == 0)

abbrev pub is_member : Caller → ℕ → Bool
is_member caller group = caller.gid == group || list_any (λ gid. gid == group) caller.gids

-- uid 0, the owner by bit 0400, the group's members by bit 0040
abbrev pub may_read : StoredFile → Caller → Bool
may_read f caller = caller.uid == 0 || (caller.uid == f.owner && allows f.mode 256) || (is_member caller f.group && allows f.mode 32)

-- uid 0, the owner by bit 0200
abbrev pub may_write : StoredFile → Caller → Bool
may_write f caller = caller.uid == 0 || (caller.uid == f.owner && allows f.mode 128)

-- ---- refusals of a call on a file, behind what names the file: access, the arguments, the guard, the room, the ticks

pub data Refusal : Type 0 where
  Acces : Refusal
  Inval : Refusal
  NotSync : Refusal
  Fbig : Refusal
  NoSpc : Refusal
  Jukebox : Refusal

-- no tick is left for a change
abbrev pub tick_refusal : Tick → Option Refusal
tick_refusal clock = if clock.count == max_ticks then Some Jukebox else None

abbrev pub read_refusal : StoredFile → Caller → Option Refusal
read_refusal f caller = if may_read f caller then None else Some Acces

-- what a WRITE of at least one byte is refused for, once its caller and its arguments are good
abbrev pub room_refusal : ServerState → ℕ → StoredFile → ℕ → List ℕ → Option Refusal
room_refusal s index f at [] = None
room_refusal s index f at (b ∷ bytes) =
    if nat_lt max_file (at + length (b ∷ bytes)) then Some Fbig
    else (if nat_lt max_total (total_size (slice_set s.files index (taken f (next_tick s.clock) at (b ∷ bytes)))) then Some NoSpc
    else tick_refusal s.clock)

-- of a WRITE, whose arguments agree with each other or not
abbrev pub write_refusal : ServerState → ℕ → StoredFile → Caller → Bool → ℕ → List ℕ → Option Refusal
write_refusal s index f caller agree at bytes =
    if not (may_write f caller) then Some Acces
    else (if not agree then Some Inval
    else room_refusal s index f at bytes)

abbrev pub commit_refusal : StoredFile → Caller → Option Refusal
commit_refusal f caller = if may_write f caller then None else Some Acces

-- the guard asks for another ctime (section 3.3.2)
abbrev pub differs : Option Tick → Tick → Bool
differs None ctime = false
differs (Some guard) ctime = not (guard.boot == ctime.boot && guard.count == ctime.count)

-- of a SETATTR, whose arguments are such as can be set or not: only uid 0 may
abbrev pub set_refusal : ServerState → StoredFile → Caller → Bool → Option Tick → Option Refusal
set_refusal s f caller agree guard =
    if not (caller.uid == 0) then Some Acces
    else (if not agree then Some Inval
    else (if differs guard f.times.ctime then Some NotSync
    else tick_refusal s.clock))

-- at most `count` bytes of those that are shown, and whether they end where the file does
abbrev pub bytes_read : StoredFile → ℕ → ℕ → List ℕ
bytes_read f at count = take (min count max_read) (drop at (shown f))

abbrev pub ends_at : StoredFile → ℕ → List ℕ → Bool
ends_at f at bytes = nat_le (length (shown f)) (at + length bytes)

-- ---- what a call does

-- one thing to the file at an index, or a new file in the root
pub data Effect : Type 0 where
  NoEffect : Effect
  OnFile : (index : ℕ) (op : FileOp) → Effect
  NewFile : (name : List ℕ) (owner group mode : ℕ) → Effect

-- the server with another file in one's place, and another last tick
abbrev pub with_file : ServerState → ℕ → StoredFile → Tick → ServerState
with_file s index f clock = record { number = s.number; clock = clock; root = s.root; names = s.names; files = slice_set s.files index f }

abbrev pub on_file : ServerState → ℕ → FileOp → Option StoredFile → ServerState
on_file s index op None = s
on_file s index op (Some f) = with_file s index (file_after f s.clock op) (clock_after s.clock op)

-- mtime and ctime of a directory in which a name was made
abbrev pub root_after : Times → Tick → Times
root_after root tick = record { atime = root.atime; mtime = tick; ctime = tick }

abbrev pub with_new : ServerState → List ℕ → StoredFile → ServerState
with_new s name f = record { number = s.number; clock = next_tick s.clock; root = root_after s.root (next_tick s.clock); names = s.names ++ name ∷ []; files = s.files ++ f ∷ [] }

abbrev pub server_after : ServerState → Effect → ServerState
server_after s NoEffect = s
server_after s (OnFile index op) = on_file s index op (slice_get s.files index)
server_after s (NewFile name owner group mode) = with_new s name (new_file owner group mode (next_tick s.clock))

-- ---- the entries of it

-- a write was applied, where it has bytes; and the file was committed, where it is synced
abbrev pub applied_entries : MirrorId → ℕ → ℕ → List ℕ → List Entry
applied_entries mirror uid at [] = []
applied_entries mirror uid at (b ∷ bytes) = Applied mirror (record { 0 = uid }) at (b ∷ bytes) ∷ []

abbrev pub committed_entries : MirrorId → Bool → List Entry
committed_entries mirror false = []
committed_entries mirror true = Committed mirror ∷ []

-- a new owner, where one is named
abbrev pub owner_entries : MirrorId → Option ℕ → List Entry
owner_entries mirror None = []
owner_entries mirror (Some uid) = Owner mirror (record { 0 = uid }) ∷ []

-- of what is done to a mirror for a user
abbrev pub op_entries : MirrorId → ℕ → FileOp → List Entry
op_entries m uid (Writes at synced bytes) = applied_entries m uid at bytes ++ committed_entries m synced
op_entries m uid Commits = Committed m ∷ []
op_entries m uid (Sets changes) = owner_entries m changes.owner
op_entries m uid (Restarts pieces) = []

abbrev pub entries_of : ServerState → ℕ → Effect → List Entry
entries_of s uid NoEffect = []
entries_of s uid (OnFile index op) = op_entries (mirror_of s index) uid op
entries_of s uid (NewFile name owner group mode) = Owner (mirror_of s (length s.files)) (record { 0 = owner }) ∷ []

-- ---- a restart

-- each file with its own pieces, from this fileid on
abbrev pub files_restarted : ℕ → List StoredFile → List Piece → List StoredFile
files_restarted fileid [] pieces = []
files_restarted fileid (f ∷ files) pieces = restarted f (pieces_of fileid pieces) ∷ files_restarted (fileid + 1) files pieces

-- The next boot, with no tick given. What these pieces name of the pending writes had reached the disk; all else that was not
-- stable is gone. The root's times are always stable.
abbrev pub server_restarted : ServerState → List Piece → ServerState
server_restarted s pieces = record {
  number = s.number;
  clock = rebooted s.clock;
  root = s.root;
  names = s.names;
  files = files_restarted 2 s.files pieces;
}

-- none where the boots are spent
abbrev pub restart_of : ServerState → List Piece → Option ServerState
restart_of s pieces = if s.clock.boot == max_boot then None else Some (server_restarted s pieces)
