-- What holds of the server that a log says.
use Rattle.std.specs.Prelude.{◌≡◌, ℕ, ◌<◌, ◌≤◌, List, [], length, max, Some, slice_get}
use Rattle.cluster_model.specs.File.{StoredFile, shown}
use Rattle.cluster_model.specs.Server.{max_file}
use Rattle.ds_procedures.specs.declared.setattr.TheConstants.{MODE_BITS}
use Rattle.ds_procedures.specs.declared.server_base.ServerBase.{ServerBase}
use Rattle.ds_procedures.specs.ServerBases.{IsServer}
use Rattle.ds_log.specs.Steady.{AreGoodNames}

-- All of a file lasts: nothing is pending, and its times are the stable ones. Its ctime is of a boot that has begun.
pub record IsLastingFile (boot : ℕ) (f : StoredFile) : Type 0 where
  pub settled : f.content.pending ≡ []
  pub times : f.times ≡ f.stable_times
  pub mode : f.mode < MODE_BITS
  pub ctime : f.times.ctime.boot ≤ boot
  pub size : length (shown f) ≤ max_file

-- So does all of a server, and no tick was given in its boot. The root's times are of a boot that has begun, or of the first.
pub record IsLasting (h : ServerBase) (files : List StoredFile) : Type 0 where
  pub server : IsServer h files
  pub count : h.clock.count ≡ 0
  pub names : AreGoodNames [] h.names
  pub root : h.root.ctime.boot ≤ max h.clock.boot 1
  pub each : (index : ℕ) (f : StoredFile) → slice_get files index ≡ Some f → IsLastingFile h.clock.boot f
