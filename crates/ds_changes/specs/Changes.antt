-- What of a step of a data server is to be logged: what is to last of it, and nothing where what lasts stays as it is.
use Rattle.std.specs.Prelude.{◌≡◌, ◌≢◌, ℕ, ◌+◌, true, false, List, [], ◌∷◌, ◌++◌, length, Option, Some, None, slice_get, ◌⊎◌}
use Rattle.cluster_model.specs.declared.tick.Tick.{Tick}
use Rattle.cluster_model.specs.declared.tick.Times.{Times}
use Rattle.cluster_model.specs.Ticks.{next_tick}
use Rattle.cluster_model.specs.Content.{Pending}
use Rattle.cluster_model.specs.File.{StoredFile, FileOp, Writes, Commits, Sets, Restarts, shown, set, times_after}
use Rattle.cluster_model.specs.Server.{ServerState, Effect, NoEffect, OnFile, NewFile}
use Rattle.ds_log.specs.Bodies.{Logged, Creates, SetsAttributes, HoldsBytes}
use Rattle.ds_changes.specs.Joined.{AreJoined}

-- the attributes of the file at an index
abbrev pub attributes_body : ℕ → StoredFile → Logged
attributes_body index f = SetsAttributes (index + 2) f.owner f.group f.mode f.times

-- a write's own range, where it has bytes
abbrev pub own_range : ℕ → List ℕ → List Pending
own_range at [] = []
own_range at (b ∷ bytes) = record { at = at; bytes = b ∷ bytes } ∷ []

-- The bytes that are made stable of the file at an index: those of the pending writes as they are shown, and behind them a write's
-- own. The times are those behind it.
pub record HoldsOf (index : ℕ) (f : StoredFile) (times : Times) (own : List Pending) (body : Logged) : Type 0 where
  pub some : (f.content.pending ≢ []) ⊎ (own ≢ [])
  pub ranges : List Pending
  pub joined : AreJoined f.content.pending (shown f) ranges
  pub is : body ≡ HoldsBytes (index + 2) times.mtime times.ctime (ranges ++ own)

-- with nothing pending and no bytes of its own, nothing becomes stable
abbrev pub StableBody : ℕ → StoredFile → Times → List Pending → Option Logged → Type 0
StableBody index f times own None = (f.content.pending ≡ []) × (own ≡ [])
StableBody index f times own (Some body) = HoldsOf index f times own body

abbrev pub OpBody : Tick → ℕ → StoredFile → FileOp → Option Logged → Type 0
OpBody clock index f (Writes at false bytes) body = body ≡ None
OpBody clock index f (Writes at true bytes) body = StableBody index f (times_after f.times (next_tick clock) bytes) (own_range at bytes) body
OpBody clock index f Commits body = StableBody index f f.times [] body
OpBody clock index f (Sets changes) body = body ≡ Some (attributes_body index (set f (next_tick clock) changes))
OpBody clock index f (Restarts pieces) body = ⊥

-- The body that is to be logged before an effect is carried out and answered.
abbrev pub BodyOf : ServerState → Effect → Option Logged → Type 0
BodyOf s NoEffect body = body ≡ None
BodyOf s (NewFile name owner group mode) body = body ≡ Some (Creates name (length s.files + 2) owner group mode (next_tick s.clock))
BodyOf s (OnFile index op) body = (f : StoredFile) × (slice_get s.files index ≡ Some f) × OpBody s.clock index f op body
