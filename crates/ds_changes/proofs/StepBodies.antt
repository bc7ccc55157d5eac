-- The body of a step, by the file that it is about.
use Rattle.std.proofs.Common.{◌≡◌, ◌≢◌, ◌⊎◌, ℕ, ◌+◌, Bool, true, false, List, [], ◌++◌, Option, Some, None, refl, ◌∙◌}
use Rattle.std.specs.Prelude.{slice_get}
use Rattle.cluster_model.specs.File.{StoredFile, FileOp, Writes, shown}
use Rattle.cluster_model.specs.Server.{ServerState, OnFile}
use Rattle.cluster_model.specs.declared.tick.Times.{Times}
use Rattle.cluster_model.specs.Content.{Pending}
use Rattle.ds_files.specs.Decisions.{CanDo}
use Rattle.ds_log.specs.Bodies.{HoldsBytes}
use Rattle.ds_changes.specs.Joined.{AreJoined}
use Rattle.ds_changes.specs.Changes.{StableBody, OpBody, BodyOf}
use Rattle.ds_changes.specs.Logging.{Spells, LogsBy, Logs}
use Rattle.ds_changes.proofs.Keeping.{at_index}

pub logs_op : (s : ServerState) (index : ℕ) (f : StoredFile) (op : FileOp) (bytes : Option (List ℕ)) → slice_get s.files index ≡ Some f → LogsBy (OpBody s.clock index f op) bytes → Logs s (OnFile index op) bytes
logs_op s index f op None there is = (f, there, is)
logs_op s index f op (Some bytes) there is = record { body = is.body; of = (f, there, is.of); spelled = is.spelled; short = is.short }

-- an unstable WRITE has none
pub logs_unstable : (s : ServerState) (index at : ℕ) (synced : Bool) (bytes : List ℕ) → synced ≡ false → CanDo s (OnFile index (Writes at synced bytes)) → BodyOf s (OnFile index (Writes at synced bytes)) None
logs_unstable s index at false bytes is can = let found = at_index s index can.ready.0 in (found.0, found.1, refl)
logs_unstable s index at true bytes is can = absurd cc

-- what is done to a file is done to one that is there
pub not_there : (s : ServerState) (index : ℕ) (op : FileOp) → CanDo s (OnFile index op) → None ≡ slice_get s.files index → ⊥
not_there s index op can none = let found = at_index s index can.ready.0 in absurd (none_some found.0 (none ∙ found.1))
  where
    none_some : (f : StoredFile) → None ≡ Some f → ⊥
    none_some f e = absurd cc

-- ---- what becomes stable

pub stable_spelled : (index : ℕ) (f : StoredFile) (times : Times) (own ranges : List Pending) (bytes : List ℕ) → (f.content.pending ≢ []) ⊎ (own ≢ []) → AreJoined f.content.pending (shown f) ranges → Spells (λ b. b ≡ HoldsBytes (index + 2) times.mtime times.ctime (ranges ++ own)) bytes
    → Spells (λ b. StableBody index f times own (Some b)) bytes
stable_spelled index f times own ranges bytes some joined h = record {
  body = h.body;
  of = record { some = some; ranges = ranges; joined = joined; is = h.of };
  spelled = h.spelled;
  short = h.short;
}
