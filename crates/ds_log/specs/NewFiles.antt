-- A file that is made, or that there is, as a body names it.
use Rattle.cluster_model.specs.declared.tick.Tick.{Tick}
use Rattle.cluster_model.specs.declared.tick.Times.{Times}
use Rattle.ds_log.specs.declared.creating.NewFile.{NewFile}
use Rattle.ds_log.specs.Bodies.{Logged, Creates, HoldsFile}

abbrev pub creation : NewFile → Tick → Logged
creation new tick = Creates new.name.now new.fileid new.owner new.group new.mode tick

abbrev pub held_file : NewFile → Times → Logged
held_file new times = HoldsFile new.name.now new.fileid new.owner new.group new.mode times
