-- A server that lasts starts as it is.
use Rattle.std.proofs.Common.{◌≡◌, ℕ, suc, ◌+◌, ◌<◌, ◌≤◌, false, eqb, List, [], ◌∷◌, Some, refl, sym, ap, subst, arith}
use Rattle.std.specs.Prelude.{slice_get}
use Rattle.std.proofs.lemmas.Bool.{ne_eqb}
use Rattle.cluster_model.specs.declared.tick.Times.{Times}
use Rattle.cluster_model.specs.File.{StoredFile, restarted}
use Rattle.cluster_model.specs.Server.{files_restarted, restart_of, max_boot}
use Rattle.ds_procedures.specs.declared.server_base.ServerBase.{ServerBase}
use Rattle.ds_procedures.specs.ServerBases.{server_of}
use Rattle.ds_log.specs.Durable.{start_of}
use Rattle.ds_log.specs.Lasting.{IsLastingFile, IsLasting}
use Rattle.ds_log.specs.Steady.{IsSteadyFile, IsSteady}

file_again : (boot : ℕ) (f : StoredFile) → IsLastingFile boot f → restarted f [] ≡ f
file_again boot f k =
    λ i. record {
      content = record { stable = f.content.stable; pending = sym k.settled i };
      owner = f.owner;
      group = f.group;
      mode = f.mode;
      times = sym k.times i;
      stable_times = f.stable_times;
    }

files_again : (boot fileid : ℕ) (files : List StoredFile) → ((index : ℕ) (f : StoredFile) → slice_get files index ≡ Some f → IsLastingFile boot f) → files_restarted fileid files [] ≡ files
files_again boot fileid [] each = refl
files_again boot fileid (f ∷ files) each =
    λ i. file_again boot f (each 0 f refl) i ∷ files_again boot (fileid + 1) files (λ index g there. each (suc index) g there) i

module _ (h : ServerBase) (files : List StoredFile) (k : IsLasting h files) where
  pub started : h.clock.boot < max_boot → restart_of (server_of h files) [] ≡ Some (server_of (record h { clock = start_of (h.clock.boot + 1) }) files)
  started less =
      let other : eqb h.clock.boot max_boot ≡ false = ne_eqb h.clock.boot max_boot (λ same. omega (arith, same, less)) in
      rw (other, files_again h.clock.boot 2 files k.each) refl

  steady_file : (f : StoredFile) → IsLastingFile h.clock.boot f → IsSteadyFile (start_of (h.clock.boot + 1)) f
  steady_file f lasts =
      let begun : f.times.ctime.boot ≤ h.clock.boot + 1 = omega (arith, lasts.ctime) in
      record {
        atime = ap (λ t. t.atime) (sym lasts.times);
        settled = λ none. sym lasts.times;
        mode = lasts.mode;
        ctime = begun;
        stable_ctime = subst (λ (t : Times). t.ctime.boot ≤ h.clock.boot + 1) lasts.times begun;
        size = lasts.size;
      }

  pub steady : IsSteady (server_of (record h { clock = start_of (h.clock.boot + 1) }) files)
  steady = record {
    each = λ index f there. steady_file f (k.each index f there);
    named = k.server.named;
    names = k.names;
    root = omega (arith, k.root);
    room = omega (arith, k.server.total, k.server.bounded);
  }
