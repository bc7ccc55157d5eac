-- What a step of a file draws.
use Rattle.std.specs.Prelude.{◌<◌, ◌+◌, ◌^◌}
use Rattle.file_rule.specs.declared.fresh.Fresh.{Fresh}
use Rattle.file_rule.specs.MdsFiles.{FileStep}
use Rattle.file_rule.specs.FilePhases.{end_of_uids}

-- what one step may draw is there: a uid, and a number of a name for each target of a copy
pub record HasFresh (fresh : Fresh) : Type 0 where
  pub uid : fresh.uid < end_of_uids
  pub names : fresh.name + 4 < 2 ^ 64

abbrev pub drawn : Fresh → FileStep → Fresh
drawn fresh s = record { uid = fresh.uid + s.uids; name = fresh.name + s.names; servers = fresh.servers }
