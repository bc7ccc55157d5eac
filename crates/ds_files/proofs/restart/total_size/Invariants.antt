use Rattle.std.proofs.Common.{◌≡◌, take}
use Rattle.cluster_model.specs.Server.{total_size}
use Rattle.ds_files.proofs.restart.total_size.Given as goal

abbrev pub invariant-loop-file : goal.invariant-loop-file
invariant-loop-file l = l.total ≡ total_size (take l.file-index l.files)
