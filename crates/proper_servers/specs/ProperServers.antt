-- What every data server meets: each of its numbers has room in its field, so that each of its replies has a spelling (RFC 1813,
-- sections 2.5 and 3.3).
use Rattle.std.specs.Prelude.{◌≡◌, ◌+◌, ◌*◌, ◌^◌, ◌<◌, ◌≤◌, Bool, true, false, length}
use Rattle.std.specs.List.{AllByRecursion}
use Rattle.cluster_model.specs.declared.limits.TheConstants.{FILE_MODE}
use Rattle.cluster_model.specs.declared.tick.Tick.{Tick}
use Rattle.cluster_model.specs.declared.tick.Times.{Times}
use Rattle.cluster_model.specs.Content.{Content, Pending}
use Rattle.cluster_model.specs.File.{StoredFile}
use Rattle.cluster_model.specs.Server.{ServerState, max_boot, max_file, max_ticks}
use Rattle.cluster_model.specs.DsCalls.{DsCallValue, Create, SetAttr, Write, Commit, Read}

-- a tick is told as a time: the boot in the seconds, the count in the nanoseconds
pub record IsProperTick (t : Tick) : Type 0 where
  pub boot : t.boot < 2 ^ 32
  pub count : t.count < 2 ^ 32

pub record AreProperTimes (t : Times) : Type 0 where
  pub atime : IsProperTick t.atime
  pub mtime : IsProperTick t.mtime
  pub ctime : IsProperTick t.ctime

-- a write ends within the longest file
abbrev pub EndsInLongestFile : Pending → Type 0
EndsInLongestFile w = w.at + length w.bytes ≤ max_file

-- so do the stable bytes, and each write that is not yet stable
pub record IsProperContent (c : Content) : Type 0 where
  pub stable : length c.stable ≤ max_file
  pub pending : AllByRecursion EndsInLongestFile c.pending

-- its owner may read and write it: the mode is 0640, with which the cluster makes it
pub record IsProperFile (f : StoredFile) : Type 0 where
  pub content : IsProperContent f.content
  pub owner : f.owner < 2 ^ 32
  pub group : f.group < 2 ^ 32
  pub mode : f.mode ≡ FILE_MODE
  pub times : AreProperTimes f.times
  pub stable_times : AreProperTimes f.stable_times

-- the last tick is one of those that a server gives, each file has a name, and each took a tick when it was made
pub record IsProper (s : ServerState) : Type 0 where
  pub number : s.number < 2 ^ 32
  pub boot : s.clock.boot ≤ max_boot
  pub count : s.clock.count ≤ max_ticks
  pub root : AreProperTimes s.root
  pub named : length s.names ≡ length s.files
  pub few : length s.files ≤ s.clock.boot * max_ticks + s.clock.count
  pub files : AllByRecursion IsProperFile s.files

-- a call that makes no file and gives none to another: whatever its numbers are
abbrev pub is_of_bytes : DsCallValue → Bool
is_of_bytes (Create name owner) = false
is_of_bytes (SetAttr fileid owner guard) = false
is_of_bytes (Write fileid at synced bytes) = true
is_of_bytes (Commit fileid) = true
is_of_bytes (Read fileid at count) = true
