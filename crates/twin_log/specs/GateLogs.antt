-- A log together with its two disks.
use Rattle.std.specs.Prelude.{⊤, ◌≡◌, ◌⊎◌, ℕ, ◌++◌, List, Bool, true, if◌then◌else◌, is_some, Option, Some, None, Result, Ok, Err}
use Rattle.rpc_record.specs.Stream.{one_more}
use Rattle.store_disk.specs.Disks.{DiskLife}
use Rattle.twin_log.specs.declared.fault.LogCause.{LogCause}
use Rattle.twin_log.specs.declared.fault.LogCause.TheVariants as cause
use Rattle.twin_log.specs.declared.fault.LogError.{LogError}
use Rattle.twin_log.specs.declared.fault.LogError.TheVariants as error
use Rattle.twin_log.specs.declared.on_disks.LogFault.{LogFault}
use Rattle.twin_log.specs.declared.on_disks.LogFault.TheVariants as back
use Rattle.twin_log.specs.Twins.{Has, at_side}
use Rattle.twin_log.specs.KeptLogs.{KeptLogState, StandsTwin, can_append, can_begin}
use Rattle.twin_log.specs.LogCalls.{CountsTwins, IsReadTo, LeavesAsBefore, OpensTwin, ReadsOn, WhereTold, plain_cause}

-- The log; how its two disks stand and stood, where they tell; how many calls of each have met a fault; and what is answered from now on, where a
-- call failed.
pub record GateLogState : Type 0 where
  pub log : KeptLogState
  pub disk : Option DiskLife
  pub spare : Option DiskLife
  pub disk_faults : ℕ
  pub spare_faults : ℕ
  pub spent : Option LogError

-- what may be answered from then on: a disk failed in an earlier call, and not in this one
abbrev pub IsLastingError : Option LogError → Type 0
IsLastingError (Some error.Disk) = ⊥
IsLastingError (Some error.Broken) = ⊤
IsLastingError (Some error.NoMemory) = ⊤
IsLastingError None = ⊤

-- ---- what a call asks of its caller, where none failed before

abbrev pub may_append : GateLogState → Bool
may_append l = if is_some l.spent then true else can_append l.log

abbrev pub may_begin : GateLogState → Bool
may_begin l = if is_some l.spent then true else can_begin l.log

-- a renewal is under way
abbrev pub may_put : GateLogState → Bool
may_put l = if is_some l.spent then true else is_some l.log.renewed

-- ---- what a call answers

-- A call of a disk failed, and each later call says so. Or: memory was wanted before one was made, and nothing has changed. One behind a failed call
-- answers so, and changes nothing.
abbrev pub AnswersLog : {T : Type 0} → Option LogError → GateLogState → Result T LogError → GateLogState → Type 0
AnswersLog (Some error) old result new = (result ≡ Err error) × (new ≡ old)
AnswersLog None old (Ok x) new = new.spent ≡ None
AnswersLog None old (Err error.Disk) new = new.spent ≡ Some error.Broken
AnswersLog None old (Err error.Broken) new = ⊥
AnswersLog None old (Err error.NoMemory) new = (new.spent ≡ Some error.NoMemory) ⊎ (new ≡ old)

-- The count of faults: that of one of the two disks is one more exactly where a disk failed.
abbrev pub CountsLog : {T : Type 0} → Result T LogError → GateLogState → GateLogState → Type 0
CountsLog (Err error.Disk) old new =
    ((new.disk_faults ≡ one_more old.disk_faults) × (new.spare_faults ≡ old.spare_faults)) ⊎ ((new.disk_faults ≡ old.disk_faults) × (new.spare_faults ≡ one_more old.spare_faults))
CountsLog result old new = (new.disk_faults ≡ old.disk_faults) × (new.spare_faults ≡ old.spare_faults)

-- the same of a reading, which also fails where a disk gives other bytes than when the log was opened
abbrev pub CountsReading : Result Bool LogError → GateLogState → GateLogState → Type 0
CountsReading (Err error.Disk) old new = CountsLog {T = Bool} (Err error.Disk) old new ⊎ ((new.disk_faults ≡ old.disk_faults) × (new.spare_faults ≡ old.spare_faults))
CountsReading result old new = CountsLog result old new

-- ---- reading

-- The next body is in the buffer; or there is none.
abbrev pub ReadsBodyOn : ℕ → List (List ℕ) → List (List ℕ) → GateLogState → Result Bool LogError → List ℕ → GateLogState → Type 0
ReadsBodyOn start done rest old (Ok is_one) body new = ReadsOn start done rest old.log (Ok is_one) body new.log
ReadsBodyOn start done rest old (Err error.Disk) body new = (new.log ≡ old.log) × CountsLog {T = Bool} (Err error.Disk) old new
ReadsBodyOn start done rest old (Err e) body new = new.log ≡ old.log

abbrev pub ReadsGateLog : GateLogState → Result Bool LogError → List ℕ → GateLogState → Type 0
ReadsGateLog old result body new =
    (generation start : ℕ) (done rest : List (List ℕ)) → StandsTwin old.log (Has generation start (done ++ rest)) old.disk old.spare → IsReadTo start done old.log
    → WhereTold (at_side old.log.side old.disk old.spare) (ReadsBodyOn start done rest old result body new)

-- ---- opening

-- The log of two disks was opened, or not, and this is how they stand then.
pub record OpensDisks (disk spare : Option DiskLife) (disk_faults spare_faults : ℕ) (result : Result KeptLogState LogCause) (disk' spare' : Option DiskLife) (disk_faults' spare_faults' : ℕ) : Type 0 where
  pub opens : OpensTwin disk spare result disk' spare'
  pub crash : LeavesAsBefore disk disk'
  pub crash_spare : LeavesAsBefore spare spare'
  pub faults : CountsTwins (plain_cause result) disk_faults spare_faults disk_faults' spare_faults'

-- the same of disks that the log has then, or that are given back
abbrev pub OpensGateLog : {D : Type 0} → (D → Option DiskLife) → (D → ℕ) → Option DiskLife → Option DiskLife → ℕ → ℕ → Result GateLogState (LogFault D) → Type 0
OpensGateLog told faults a b n m (Ok l) = OpensDisks a b n m (Ok l.log) l.disk l.spare l.disk_faults l.spare_faults × (l.spent ≡ None)
OpensGateLog told faults a b n m (Err (back.Disk disk spare)) = OpensDisks a b n m (Err cause.Disk) (told disk) (told spare) (faults disk) (faults spare)
OpensGateLog told faults a b n m (Err (back.BadLog disk spare place)) = OpensDisks a b n m (Err (cause.BadLog place)) (told disk) (told spare) (faults disk) (faults spare)
OpensGateLog told faults a b n m (Err (back.NoMemory disk spare)) = OpensDisks a b n m (Err cause.NoMemory) (told disk) (told spare) (faults disk) (faults spare)
