-- A data file, and what is done to it (RFC 1813, sections 3.3.2, 3.3.7, 3.3.8 and 3.3.21).
use Rattle.std.specs.Prelude.{ℕ, Bool, true, false, List, [], ◌∷◌, unwrap_or}
use Rattle.cluster_model.specs.declared.piece.Piece.{Piece}
use Rattle.cluster_model.specs.declared.tick.Tick.{Tick}
use Rattle.cluster_model.specs.declared.tick.Times.{Times}
use Rattle.cluster_model.specs.declared.change.NewTime.{NewTime}
use Rattle.cluster_model.specs.declared.change.NewTime.TheVariants.{Keep, Now, At}
use Rattle.cluster_model.specs.declared.change.Changes.{Changes}
use Rattle.cluster_model.specs.Content.{Content, no_content, shown_of, joined, settled, survived}
use Rattle.cluster_model.specs.Ticks.{next_tick, rebooted}

-- The owner, the group and the mode are stable at once; the times may be ahead of those that a restart leaves.
pub record StoredFile : Type 0 where
  pub content : Content
  pub owner : ℕ
  pub group : ℕ
  pub mode : ℕ
  pub times : Times
  pub stable_times : Times

-- what a reader sees
abbrev pub shown : StoredFile → List ℕ
shown f = shown_of f.content

abbrev pub all_at : Tick → Times
all_at tick = record { atime = tick; mtime = tick; ctime = tick }

-- CREATE: no bytes, and every time is the tick
abbrev pub new_file : ℕ → ℕ → ℕ → Tick → StoredFile
new_file owner group mode tick = record {
  content = no_content;
  owner = owner;
  group = group;
  mode = mode;
  times = all_at tick;
  stable_times = all_at tick;
}

-- the times after a write: it sets mtime and ctime where it has bytes
abbrev pub times_after : Times → Tick → List ℕ → Times
times_after times tick [] = times
times_after times tick (b ∷ bytes) = record times { mtime = tick; ctime = tick }

-- an unstable WRITE
abbrev pub taken : StoredFile → Tick → ℕ → List ℕ → StoredFile
taken f tick at bytes = record f { content = joined f.content at bytes; times = times_after f.times tick bytes }

-- COMMIT: all that is shown becomes stable, and so do the times
abbrev pub committed : StoredFile → StoredFile
committed f = record f { content = settled f.content; stable_times = f.times }

-- WRITE, which is committed with all before it where it is to be stable
abbrev pub written : StoredFile → Tick → ℕ → Bool → List ℕ → StoredFile
written f tick at false bytes = taken f tick at bytes
written f tick at true bytes = committed (taken f tick at bytes)

-- SETATTR: what is named is set, and ctime is the tick, also where nothing is named. The times are stable then, all of them;
-- pending writes stay pending.
abbrev pub time_set : NewTime → Tick → Tick → Tick
time_set Keep tick old = old
time_set Now tick old = tick
time_set (At t) tick old = t

abbrev pub times_set : Times → Tick → Changes → Times
times_set times tick c = record { atime = time_set c.atime tick times.atime; mtime = time_set c.mtime tick times.mtime; ctime = tick }

abbrev pub set : StoredFile → Tick → Changes → StoredFile
set f tick c = record {
  content = f.content;
  owner = unwrap_or c.owner f.owner;
  group = unwrap_or c.group f.group;
  mode = unwrap_or c.mode f.mode;
  times = times_set f.times tick c;
  stable_times = times_set f.times tick c;
}

-- a restart, before which these pieces of the file's pending writes had reached the disk
abbrev pub restarted : StoredFile → List Piece → StoredFile
restarted f pieces = record f { content = survived f.content pieces; times = f.stable_times }

-- ---- whatever is done to a file

pub data FileOp : Type 0 where
  Writes : (at : ℕ) (synced : Bool) (bytes : List ℕ) → FileOp
  Commits : FileOp
  Sets : Changes → FileOp
  Restarts : List Piece → FileOp

-- the file after it, by the last tick that the server gave; and the last tick then
abbrev pub file_after : StoredFile → Tick → FileOp → StoredFile
file_after f clock (Writes at synced bytes) = written f (next_tick clock) at synced bytes
file_after f clock Commits = committed f
file_after f clock (Sets c) = set f (next_tick clock) c
file_after f clock (Restarts pieces) = restarted f pieces

abbrev pub clock_after : Tick → FileOp → Tick
clock_after clock (Writes at synced []) = clock
clock_after clock (Writes at synced (b ∷ bytes)) = next_tick clock
clock_after clock Commits = clock
clock_after clock (Sets c) = next_tick clock
clock_after clock (Restarts pieces) = rebooted clock
