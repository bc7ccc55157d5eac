-- What holds of every server that serves from a log, and of what its log says.
use Rattle.std.specs.Prelude.{◌≡◌, ℕ, ◌<◌, ◌≤◌, IsTrue, List, [], ◌∷◌, ◌++◌, length, Some, slice_get}
use Rattle.cluster_model.specs.declared.tick.Tick.{Tick}
use Rattle.cluster_model.specs.File.{StoredFile, shown}
use Rattle.cluster_model.specs.Server.{ServerState, total_size, max_file, max_total}
use Rattle.ds_procedures.specs.declared.setattr.TheConstants.{MODE_BITS}
use Rattle.ds_log.specs.Durable.{is_good_name}

-- With nothing pending all of its times are stable, and its atime always is. Its mode is permission bits, and its ctime was given, as
-- the stable one was.
pub record IsSteadyFile (clock : Tick) (f : StoredFile) : Type 0 where
  pub atime : f.stable_times.atime ≡ f.times.atime
  pub settled : f.content.pending ≡ [] → f.stable_times ≡ f.times
  pub mode : f.mode < MODE_BITS
  pub ctime : f.times.ctime.boot ≤ clock.boot
  pub stable_ctime : f.stable_times.ctime.boot ≤ clock.boot
  pub size : length (shown f) ≤ max_file

-- each name has 1 to 255 bytes, and is not among those before it
abbrev pub AreGoodNames : List (List ℕ) → List (List ℕ) → Type 0
AreGoodNames front [] = Unit {0}
AreGoodNames front (name ∷ names) = IsTrue (is_good_name front name) × AreGoodNames (front ++ name ∷ []) names

pub record IsSteady (s : ServerState) : Type 0 where
  pub each : (index : ℕ) (f : StoredFile) → slice_get s.files index ≡ Some f → IsSteadyFile s.clock f
  pub named : length s.names ≡ length s.files
  pub names : AreGoodNames [] s.names
  pub root : s.root.ctime.boot ≤ s.clock.boot
  pub room : total_size s.files ≤ max_total
