-- What a call on a log answers, by what its disks did.
use Rattle.std.specs.Prelude.{Bool, Option, Some, Result, Ok, Err}
use Rattle.rpc_record.specs.declared.stream.Failed.{Failed}
use Rattle.rpc_record.specs.declared.stream.Failed.TheVariants as failed
use Rattle.twin_log.specs.declared.fault.LogCause.{LogCause}
use Rattle.twin_log.specs.declared.fault.LogCause.TheVariants as cause
use Rattle.twin_log.specs.declared.fault.LogError.{LogError}
use Rattle.twin_log.specs.declared.fault.LogError.TheVariants as error

abbrev pub log_answer : Result (Unit {0}) Failed → Result (Unit {0}) LogError
log_answer (Ok x) = Ok x
log_answer (Err failed.Fault) = Err error.Disk
log_answer (Err failed.NoMemory) = Err error.NoMemory

-- what is answered from then on
abbrev pub spent_behind : Result (Unit {0}) Failed → Option LogError → Option LogError
spent_behind (Ok x) spent = spent
spent_behind (Err failed.Fault) spent = Some error.Broken
spent_behind (Err failed.NoMemory) spent = Some error.NoMemory

-- of a reading: want of memory changes nothing, and a disk that gives other bytes than before has failed
abbrev pub read_answer : Result Bool LogCause → Result Bool LogError
read_answer (Ok is_one) = Ok is_one
read_answer (Err cause.Disk) = Err error.Disk
read_answer (Err (cause.BadLog place)) = Err error.Disk
read_answer (Err cause.NoMemory) = Err error.NoMemory

abbrev pub spent_by_reading : Result Bool LogCause → Option LogError → Option LogError
spent_by_reading (Err cause.Disk) spent = Some error.Broken
spent_by_reading (Err (cause.BadLog place)) spent = Some error.Broken
spent_by_reading result spent = spent
