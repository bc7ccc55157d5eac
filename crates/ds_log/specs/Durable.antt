-- What a data server's log says: the state that is left of a server after a stop.
use Rattle.std.specs.Prelude.{ℕ, ◌+◌, ◌-◌, ◌==◌, nat_lt, nat_le, Bool, ◌&&◌, if◌then◌else◌, List, [], ◌∷◌, ◌++◌, length, map, Option, Some, None, is_none, Result, Ok, Err, slice_get, slice_set}
use Rattle.std.specs.List.{list_all}
use Rattle.cluster_model.specs.declared.tick.Tick.{Tick}
use Rattle.cluster_model.specs.declared.tick.Times.{Times}
use Rattle.cluster_model.specs.Content.{Pending, no_content, overlay_all}
use Rattle.cluster_model.specs.File.{StoredFile, all_at, new_file, restarted}
use Rattle.cluster_model.specs.Server.{ServerState, index_of, total_size, max_file, max_total, root_after}
use Rattle.ds_procedures.specs.declared.setattr.TheConstants.{MODE_BITS}
use Rattle.ds_procedures.specs.declared.lookup.TheConstants.{MAX_NAME}
use Rattle.gate_log.specs.Logs.{Log, log_of, log_size}
use Rattle.ds_log.specs.Bodies.{Logged, Boots, Creates, SetsAttributes, HoldsBytes, HoldsFile, HoldsRoot, body_in}

-- ---- what lasts of a server

-- the start of a boot, before any of its ticks
abbrev pub start_of : ℕ → Tick
start_of boot = record { boot = boot; count = 0 }

-- All that a stop leaves: of each file what is stable, the names, the root's times and the boot number. Ticks that were given, and writes
-- that are pending, are gone.
abbrev pub durable : ServerState → ServerState
durable s = record s { clock = start_of s.clock.boot; files = map (λ f. restarted f []) s.files }

-- a server before its first boot: the root's times are the first boot's start
abbrev pub unbooted : ℕ → ServerState
unbooted number = record { number = number; clock = start_of 0; root = all_at (start_of 1); names = []; files = [] }

-- ---- one body

abbrev pub is_good_name : List (List ℕ) → List ℕ → Bool
is_good_name names name = nat_lt 0 (length name) && nat_le (length name) MAX_NAME && is_none (index_of names name)

-- no tick is of a boot that has not begun
abbrev pub has_begun : ServerState → Tick → Bool
has_begun s tick = nat_le tick.boot s.clock.boot

-- a file with a name, whose fileid is the next
abbrev pub created : ServerState → List ℕ → ℕ → ℕ → ℕ → Tick → ServerState
created s name owner group mode tick =
    record s { root = root_after s.root tick; names = s.names ++ name ∷ []; files = s.files ++ new_file owner group mode tick ∷ [] }

-- with a file more, which has no bytes and whose attributes last; the root stays as it is
abbrev pub with_lasting_file : ServerState → List ℕ → ℕ → ℕ → ℕ → Times → ServerState
with_lasting_file s name owner group mode times = record s {
  names = s.names ++ name ∷ [];
  files = s.files ++ record { content = no_content; owner = owner; group = group; mode = mode; times = times; stable_times = times } ∷ [];
}

-- the file at an index is this one
abbrev pub with_stored : ServerState → ℕ → StoredFile → ServerState
with_stored s index f = record s { files = slice_set s.files index f }

-- with these attributes, which last
abbrev pub attributed : StoredFile → ℕ → ℕ → ℕ → Times → StoredFile
attributed f owner group mode times = record f { owner = owner; group = group; mode = mode; times = times; stable_times = times }

-- with these bytes over its own, each range behind the one before, which last
abbrev pub holding : StoredFile → Tick → Tick → List Pending → StoredFile
holding f mtime ctime ranges =
    let times : Times = record { atime = f.times.atime; mtime = mtime; ctime = ctime } in
    record f { content = record { stable = overlay_all f.content.stable ranges; pending = [] }; times = times; stable_times = times }

abbrev pub ends_in_file : Pending → Bool
ends_in_file w = nat_le (w.at + length w.bytes) max_file

-- what a body makes of the data file with a fileid, where there is one and the body fits
abbrev pub on_stored : ServerState → ℕ → Option StoredFile → (StoredFile → Bool) → (StoredFile → StoredFile) → Option ServerState
on_stored s index None fits change = None
on_stored s index (Some f) fits change = if fits f then Some (with_stored s index (change f)) else None

abbrev pub at_fileid : ServerState → ℕ → (StoredFile → Bool) → (StoredFile → StoredFile) → Option ServerState
at_fileid s fileid fits change = if nat_lt fileid 2 then None else on_stored s (fileid - 2) (slice_get s.files (fileid - 2)) fits change

-- What a body makes of what the log said so far; nothing where it does not fit it.
abbrev pub applied : ServerState → Logged → Option ServerState
applied s (Boots boot) = if nat_lt s.clock.boot boot then Some (record s { clock = start_of boot }) else None
applied s (Creates name fileid owner group mode tick) =
    if is_good_name s.names name && fileid == length s.files + 2 && nat_lt mode MODE_BITS && has_begun s tick then Some (created s name owner group mode tick) else None
applied s (SetsAttributes fileid owner group mode times) =
    at_fileid s fileid (λ f. nat_lt mode MODE_BITS && has_begun s times.ctime) (λ f. attributed f owner group mode times)
applied s (HoldsBytes fileid mtime ctime ranges) =
    at_fileid s fileid
    (λ f. list_all ends_in_file ranges && nat_le (total_size (slice_set s.files (fileid - 2) (holding f mtime ctime ranges))) max_total && has_begun s ctime)
    (λ f. holding f mtime ctime ranges)
applied s (HoldsFile name fileid owner group mode times) =
    if is_good_name s.names name && fileid == length s.files + 2 && nat_lt mode MODE_BITS && has_begun s times.ctime then Some (with_lasting_file s name owner group mode times) else None
applied s (HoldsRoot times) = if has_begun s times.ctime then Some (record s { root = times }) else None

-- ---- a log

abbrev pub then_all : Option ServerState → (ServerState → Option ServerState) → Option ServerState
then_all None next = None
then_all (Some s) next = next s

-- what bodies make in their order, where each fits
abbrev pub all_applied : ServerState → List Logged → Option ServerState
all_applied s [] = Some s
all_applied s (body ∷ bodies) = then_all (applied s body) (λ next. all_applied next bodies)

abbrev pub applied_as : ServerState → Option Logged → Option ServerState
applied_as s None = None
applied_as s (Some body) = applied s body

-- what the bytes of a body make of it
abbrev pub applied_bytes : ServerState → List ℕ → Option ServerState
applied_bytes s bytes = applied_as s (body_in bytes)

-- The state that bodies make in their order; or the place of the first record that is bad, where the first of them begins at a place.
abbrev pub played_on : ℕ → List (List ℕ) → Option ServerState → (ServerState → Result ServerState ℕ) → Result ServerState ℕ
played_on place bodies None next = Err place
played_on place bodies (Some s) next = next s

abbrev pub played : ServerState → ℕ → List (List ℕ) → Result ServerState ℕ
played s place [] = Ok s
played s place (body ∷ bodies) = played_on place bodies (applied_bytes s body) (λ next. played next (place + 5 + length body) bodies)

-- where a log does not end in a gate byte it is bad there
abbrev pub ended_well : Log → Result ServerState ℕ → Result ServerState ℕ
ended_well log (Ok s) = if log.is_whole then Ok s else Err (log_size log.bodies)
ended_well log (Err place) = Err place

abbrev pub log_state_of : ℕ → Log → Result ServerState ℕ
log_state_of number log = ended_well log (played (unbooted number) 0 log.bodies)

-- What the log on a disk with these bytes says of the data server with a number; or where it is bad.
abbrev pub log_state : ℕ → List ℕ → Result ServerState ℕ
log_state number bytes = log_state_of number (log_of bytes)
