-- What carries the fence law at one data server: a SETATTR under an earlier user than a file's owner never succeeds again, so that the
-- owner never falls (RFC 1813, section 3.3.2).
use Rattle.std.specs.Prelude.{◌≡◌, ℕ, ◌+◌, ◌<◌, ◌≤◌, ◌⊎◌, List, [], ◌∷◌, ◌++◌, length, Option, Some, None, slice_get}
use Rattle.std.specs.List.{AllByRecursion}
use Rattle.cluster_model.specs.declared.tick.Tick.{Tick}
use Rattle.cluster_model.specs.declared.ids.Cred.{Cred}
use Rattle.cluster_model.specs.declared.ids.MirrorId.{MirrorId}
use Rattle.cluster_model.specs.declared.entry.Entry.{Entry}
use Rattle.cluster_model.specs.declared.entry.Entry.TheVariants.{Applied, Committed as AllCommitted, Owner, Restarted}
use Rattle.cluster_model.specs.declared.piece.Piece.{Piece}
use Rattle.cluster_model.specs.Journal.{no_copy, content_of}
use Rattle.cluster_model.specs.declared.ds_call.Shown.{Shown}
use Rattle.cluster_model.specs.Ticks.{IsBefore, IsUpTo}
use Rattle.cluster_model.specs.File.{StoredFile}
use Rattle.cluster_model.specs.Server.{ServerState, Caller, mirror_of}
use Rattle.cluster_model.specs.ServerLaws.{AreClocked, copy_of}
use Rattle.cluster_model.specs.DsCalls.{DsCallValue, Create, SetAttr, Write, Commit, Read, DsReplyValue, Created, Set, Written, Committed, Bytes, NotSync, Failed, mirror_name}

-- no ctime is above the last tick, and each file has its name
pub record IsInOrder (s : ServerState) : Type 0 where
  pub files : AreClocked s
  pub root : IsUpTo s.root.ctime s.clock
  pub names : length s.names ≡ length s.files

-- The file that a fileid names was asked to be given to a user, under this guard: a tick of the server was seen, and where the file
-- belongs to a later user the guard is shut out for ever.
pub record WasAsked (s : ServerState) (fileid uid : ℕ) (guard : Tick) : Type 0 where
  pub index : ℕ
  pub place : fileid ≡ index + 2
  pub file : StoredFile
  pub there : slice_get s.files index ≡ Some file
  pub given : IsUpTo guard s.clock
  pub shut : uid < file.owner → IsBefore guard file.stable_times.ctime

-- a call may come: a SETATTR that was asked, or any other
abbrev pub MayCome : ServerState → DsCallValue → Type 0
MayCome s (Create name owner) = Unit {0}
MayCome s (SetAttr fileid owner guard) = WasAsked s fileid owner guard
MayCome s (Write fileid at synced bytes) = Unit {0}
MayCome s (Commit fileid) = Unit {0}
MayCome s (Read fileid at count) = Unit {0}

-- The server later on: no name is lost, no owner falls, and what was asked and shut out stays so.
pub record Follows (s new : ServerState) : Type 0 where
  pub number : new.number ≡ s.number
  pub clock : IsUpTo s.clock new.clock
  pub in_order : IsInOrder new
  pub names : (index : ℕ) (name : List ℕ) → slice_get s.names index ≡ Some name → slice_get new.names index ≡ Some name
  pub owners : (index : ℕ) (file : StoredFile) → slice_get s.files index ≡ Some file → (later : StoredFile) × (slice_get new.files index ≡ Some later) × (file.owner ≤ later.owner)
  pub asked : (fileid uid : ℕ) (guard : Tick) → WasAsked s fileid uid guard → WasAsked new fileid uid guard

-- where the owner of a file is from: it stayed, a SETATTR of the file named it, or a CREATE made the file for it
pub data Came (s : ServerState) (call : DsCallValue) (new : ServerState) (index : ℕ) (file : StoredFile) : Type 0 where
  Stayed : (before : StoredFile) → slice_get s.files index ≡ Some before → file.owner ≡ before.owner → slice_get new.names index ≡ slice_get s.names index → Came s call new index file
  WasGiven : (before : StoredFile) (guard : Tick) → slice_get s.files index ≡ Some before → call ≡ SetAttr (index + 2) file.owner guard → slice_get new.names index ≡ slice_get s.names index → Came s call new index file
  WasMade : (name : ℕ) → call ≡ Create name file.owner → slice_get new.names index ≡ Some (mirror_name name) → slice_get s.files index ≡ None → Came s call new index file

-- ---- what a reply shows is so behind the call

abbrev pub target : DsCallValue → ℕ
target (Create name owner) = 0
target (SetAttr fileid owner guard) = fileid
target (Write fileid at synced bytes) = fileid
target (Commit fileid) = fileid
target (Read fileid at count) = fileid

pub record IsShownAt (new : ServerState) (fileid : ℕ) (shown : Shown) : Type 0 where
  pub index : ℕ
  pub place : fileid ≡ index + 2
  pub file : StoredFile
  pub there : slice_get new.files index ≡ Some file
  pub owner : shown.owner.0 ≡ file.owner
  pub seen : IsUpTo shown.seen new.clock

pub record WasCreated (new : ServerState) (call : DsCallValue) (fileid : ℕ) (shown : Shown) : Type 0 where
  pub name : ℕ
  pub owner : ℕ
  pub asked : call ≡ Create name owner
  pub at : IsShownAt new fileid shown
  pub named : slice_get new.names at.index ≡ Some (mirror_name name)

pub record WasSet (new : ServerState) (call : DsCallValue) : Type 0 where
  pub fileid : ℕ
  pub uid : ℕ
  pub guard : Tick
  pub asked : call ≡ SetAttr fileid uid guard
  pub index : ℕ
  pub place : fileid ≡ index + 2
  pub file : StoredFile
  pub there : slice_get new.files index ≡ Some file
  pub owner : file.owner ≡ uid

-- the ctime that is shown, if one is, was given
abbrev pub IsSeen : ServerState → Option Shown → Type 0
IsSeen new None = Unit {0}
IsSeen new (Some shown) = IsUpTo shown.seen new.clock

abbrev pub Shows : ServerState → DsCallValue → DsReplyValue → Type 0
Shows new call (Created fileid shown) = WasCreated new call fileid shown
Shows new call (Set shown) = WasSet new call × IsSeen new shown
Shows new call (Written shown verifier) = IsSeen new shown
Shows new call (Committed shown verifier) = IsSeen new shown
Shows new call (Bytes shown eof bytes) = IsSeen new shown
Shows new call (NotSync shown) = IsShownAt new (target call) shown
Shows new call (Failed status shown) = IsSeen new shown

-- ---- who writes

-- an entry of a write is of a file that is there, under the caller's uid, which is 0 or its owner
pub record IsOwners (s : ServerState) (caller : Caller) (mirror : MirrorId) (cred : Cred) : Type 0 where
  pub index : ℕ
  pub is : mirror ≡ mirror_of s index
  pub file : StoredFile
  pub there : slice_get s.files index ≡ Some file
  pub uid : cred.0 ≡ caller.uid
  pub owner : (caller.uid ≡ 0) ⊎ (caller.uid ≡ file.owner)

abbrev pub IsByOwner : ServerState → Caller → Entry → Type 0
IsByOwner s caller (Applied mirror cred at bytes) = IsOwners s caller mirror cred
IsByOwner s caller _ = Unit {0}

-- ---- what a journal says

-- each file is what the journal says, which says nothing where there is no file
pub record IsTold (s : ServerState) (journal : List Entry) : Type 0 where
  pub each : (index : ℕ) (file : StoredFile) → slice_get s.files index ≡ Some file → copy_of file ≡ content_of journal (mirror_of s index)
  pub none : (index : ℕ) → length s.files ≤ index → content_of journal (mirror_of s index) ≡ no_copy

-- an entry of this data server's files
abbrev pub IsOfServer : ℕ → Entry → Type 0
IsOfServer n (Applied mirror cred at bytes) = mirror.server ≡ n
IsOfServer n (AllCommitted mirror) = mirror.server ≡ n
IsOfServer n (Owner mirror cred) = mirror.server ≡ n
IsOfServer n (Restarted server pieces) = server ≡ n
IsOfServer n _ = ⊥

-- all that holds of a call
pub record CallLaws (s : ServerState) (caller : Caller) (call : DsCallValue) (new : ServerState) (reply : DsReplyValue) (entries : List Entry) : Type 0 where
  pub follows : MayCome s call → Follows s new
  pub came : (index : ℕ) (file : StoredFile) → slice_get new.files index ≡ Some file → Came s call new index file
  pub shows : Shows new call reply
  pub owners : AllByRecursion (IsByOwner s caller) entries
  pub of_server : AllByRecursion (IsOfServer s.number) entries
  pub told : (journal : List Entry) → IsTold s journal → IsTold new (journal ++ entries)

-- and of a restart
pub record RestartLaws (s : ServerState) (pieces : List Piece) (new : ServerState) : Type 0 where
  pub follows : Follows s new
  pub owners : (index : ℕ) (file : StoredFile) → slice_get new.files index ≡ Some file → (before : StoredFile) × (slice_get s.files index ≡ Some before) × (file.owner ≡ before.owner)
  pub names : new.names ≡ s.names
  pub told : (journal : List Entry) → IsTold s journal → IsTold new (journal ++ Restarted s.number pieces ∷ [])
