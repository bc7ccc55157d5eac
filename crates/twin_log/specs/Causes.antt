-- How a failed call of a disk ends opening a log.
use Rattle.rpc_record.specs.declared.stream.Failed.{Failed}
use Rattle.rpc_record.specs.declared.stream.Failed.TheVariants as failed
use Rattle.twin_log.specs.declared.fault.LogCause.{LogCause}
use Rattle.twin_log.specs.declared.fault.LogCause.TheVariants as cause

abbrev pub log_cause : Failed → LogCause
log_cause failed.Fault = cause.Disk
log_cause failed.NoMemory = cause.NoMemory
