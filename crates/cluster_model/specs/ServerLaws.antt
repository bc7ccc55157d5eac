-- What holds of a data server, whatever is done to it.
use Rattle.std.specs.Prelude.{◌≡◌, ◌≢◌, ℕ, ◌+◌, ◌≤◌, true, List, [], ◌∷◌, ◌++◌, length, Some, slice_get, ◌⊎◌}
use Rattle.cluster_model.specs.declared.piece.Piece.{Piece}
use Rattle.cluster_model.specs.declared.tick.Tick.{Tick}
use Rattle.cluster_model.specs.declared.entry.Entry.{Entry}
use Rattle.cluster_model.specs.declared.entry.Entry.TheVariants.{Restarted}
use Rattle.cluster_model.specs.Ticks.{IsBefore, IsRising, next_tick}
use Rattle.cluster_model.specs.File.{StoredFile, FileOp, Writes, Commits, Sets, Restarts}
use Rattle.cluster_model.specs.Journal.{Copy, no_copy, copy_by, content_of}
use Rattle.cluster_model.specs.Laws.{IsClocked}
use Rattle.cluster_model.specs.Server.{ServerState, Caller, may_write, max_ticks, max_boot, mirror_of, Effect, NoEffect, OnFile, NewFile, server_after, entries_of, server_restarted}

-- who may do it to a file, and that a tick is left where it takes one
abbrev pub MayDo : Tick → StoredFile → Caller → FileOp → Type 0
MayDo clock f caller (Writes at synced []) = may_write f caller ≡ true
MayDo clock f caller (Writes at synced (b ∷ bytes)) = (may_write f caller ≡ true) × (clock.count ≢ max_ticks)
MayDo clock f caller Commits = may_write f caller ≡ true
MayDo clock f caller (Sets changes) = (caller.uid ≡ 0) × (clock.count ≢ max_ticks)
MayDo clock f caller (Restarts pieces) = ⊥

-- a caller may do it to a server
abbrev pub IsPermitted : ServerState → Caller → Effect → Type 0
IsPermitted s caller NoEffect = Unit {0}
IsPermitted s caller (OnFile index op) = (f : StoredFile) × (slice_get s.files index ≡ Some f) × MayDo s.clock f caller op
IsPermitted s caller (NewFile name owner group mode) = (caller.uid ≡ 0) × (s.clock.count ≢ max_ticks)

-- a file stays as it is when one calls who is neither uid 0 nor its owner
abbrev pub IsSafe : ServerState → Caller → ℕ → StoredFile → ServerState → Type 0
IsSafe s caller index f new = slice_get s.files index ≡ Some f → caller.uid ≢ 0 → caller.uid ≢ f.owner → slice_get new.files index ≡ Some f

-- One tick is taken or none, and never past the last. The server stays the same one in the same boot.
pub record IsTimed (s new : ServerState) : Type 0 where
  pub number : new.number ≡ s.number
  pub boot : new.clock.boot ≡ s.clock.boot
  pub ticks : (new.clock.count ≡ s.clock.count) ⊎ (new.clock.count ≡ s.clock.count + 1)
  pub bounded : s.clock.count ≤ max_ticks → new.clock.count ≤ max_ticks

-- No file shows a ctime above the last tick, and a restart brings back none above the one that is shown.
abbrev pub AreClocked : ServerState → Type 0
AreClocked s = (index : ℕ) (f : StoredFile) → slice_get s.files index ≡ Some f → IsClocked f s.clock

-- ---- what the journal says of each file

abbrev pub copy_of : StoredFile → Copy
copy_of f = record { content = f.content; owner = f.owner }

-- the bytes of a file and its owner, before and after, are what the entries make of them
abbrev pub TellsOld : ServerState → ServerState → List Entry → Type 0
TellsOld s new entries = (index : ℕ) (f : StoredFile) → slice_get s.files index ≡ Some f
    → (g : StoredFile) × (slice_get new.files index ≡ Some g) × (copy_of g ≡ copy_by (mirror_of s index) (copy_of f) entries)

-- the same of a file that was not there before
abbrev pub TellsNew : ServerState → ServerState → List Entry → Type 0
TellsNew s new entries = (index : ℕ) (g : StoredFile) → length s.files ≤ index → slice_get new.files index ≡ Some g → copy_of g ≡ copy_by (mirror_of s index) no_copy entries

-- ---- restarts

-- A restart is in the next boot, before any of its ticks and behind all of those before. Each file keeps its owner, and its bytes are
-- what the entry makes of them.
pub record IsRestarted (s : ServerState) (pieces : List Piece) (new : ServerState) : Type 0 where
  pub number : new.number ≡ s.number
  pub later : IsBefore s.clock new.clock
  pub clocked : AreClocked s → AreClocked new
  pub tells : TellsOld s new (Restarted s.number pieces ∷ [])
  pub same_count : length new.files ≡ length s.files

-- ---- runs: what is done to a server, by those who may, and restarts

pub data Turn : Type 0 where
  Does : (caller : Caller) (effect : Effect) → Turn
  StartsAgain : (pieces : List Piece) → Turn

abbrev pub turn_after : ServerState → Turn → ServerState
turn_after s (Does caller effect) = server_after s effect
turn_after s (StartsAgain pieces) = server_restarted s pieces

abbrev pub turn_entries : ServerState → Turn → List Entry
turn_entries s (Does caller effect) = entries_of s caller.uid effect
turn_entries s (StartsAgain pieces) = Restarted s.number pieces ∷ []

abbrev pub IsAllowed : ServerState → Turn → Type 0
IsAllowed s (Does caller effect) = IsPermitted s caller effect
IsAllowed s (StartsAgain pieces) = s.clock.boot ≢ max_boot

abbrev pub AreAllowed : ServerState → List Turn → Type 0
AreAllowed s [] = Unit {0}
AreAllowed s (turn ∷ turns) = IsAllowed s turn × AreAllowed (turn_after s turn) turns

abbrev pub run_after : ServerState → List Turn → ServerState
run_after s [] = s
run_after s (turn ∷ turns) = run_after (turn_after s turn) turns

abbrev pub run_entries : ServerState → List Turn → List Entry
run_entries s [] = []
run_entries s (turn ∷ turns) = turn_entries s turn ++ run_entries (turn_after s turn) turns

-- the ticks that are given
abbrev pub op_ticks : Tick → FileOp → List Tick
op_ticks clock (Writes at synced []) = []
op_ticks clock (Writes at synced (b ∷ bytes)) = next_tick clock ∷ []
op_ticks clock Commits = []
op_ticks clock (Sets changes) = next_tick clock ∷ []
op_ticks clock (Restarts pieces) = []

abbrev pub effect_ticks : ServerState → Effect → List Tick
effect_ticks s NoEffect = []
effect_ticks s (OnFile index op) = op_ticks s.clock op
effect_ticks s (NewFile name owner group mode) = next_tick s.clock ∷ []

abbrev pub turn_ticks : ServerState → Turn → List Tick
turn_ticks s (Does caller effect) = effect_ticks s effect
turn_ticks s (StartsAgain pieces) = []

abbrev pub run_ticks : ServerState → List Turn → List Tick
run_ticks s [] = []
run_ticks s (turn ∷ turns) = turn_ticks s turn ++ run_ticks (turn_after s turn) turns

-- Each tick is after all that were given before.
abbrev pub HasRisingTicks : ServerState → List Turn → Type 0
HasRisingTicks s turns = AreAllowed s turns → IsRising (run_ticks s turns)

-- The bytes and the owner of each file of a server that began with none are what its journal says.
abbrev pub IsToldByJournal : ServerState → List Turn → Type 0
IsToldByJournal s turns = AreAllowed s turns → (index : ℕ) (f : StoredFile) → slice_get (run_after s turns).files index ≡ Some f → copy_of f ≡ content_of (run_entries s turns) (mirror_of s index)
