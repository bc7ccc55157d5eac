-- What holds of a call whatever object its handle names: of none, of the root, and of each file.
use Rattle.std.proofs.Common.{◌≡◌, ℕ, eqb, List, length, Some}
use Rattle.std.specs.Prelude.{slice_get}
use Rattle.std.specs.Int.{w64, from_be_bytes}
use Rattle.std.proofs.lemmas.Bool.{cond_both}
use Rattle.nfs3_wire.specs.declared.status.Stat3.{Stat3}
use Rattle.nfs3_wire.specs.declared.status.Stat3.TheVariants as stat
use Rattle.cluster_model.specs.File.{StoredFile}
use Rattle.cluster_model.specs.Server.{Named, named}
use Rattle.cluster_model.proofs.Permitted.{at_fileid}
use Rattle.ds_procedures.specs.Objects.{Object, Missing, Root, File, object_by, object_of}

module _ (files : List StoredFile) (P : Object → Type 0) (missing : (status : Stat3) → P (Missing status)) (root : P Root) (file : (index : ℕ) (f : StoredFile) → slice_get files index ≡ Some f → P (File index f)) where
  pub at_object : (handle : List ℕ) → P (object_of files handle)
  at_object handle =
      cond_both (eqb (length handle) 8) (object_by (named files (from_be_bytes w64 handle))) (Missing stat.BadHandle) P
      (λ e. at_fileid files (λ (n : Named). P (object_by n)) (missing stat.Stale) root file (from_be_bytes w64 handle)) (λ e. missing stat.BadHandle)
