-- What the calls on a log in two files do.
use Rattle.std.specs.Prelude.{⊤, ◌≡◌, ◌⊎◌, ℕ, ◌+◌, List, [], ◌∷◌, ◌++◌, length, max, Bool, true, false, Option, Some, None, Result, Ok, Err}
use Rattle.rpc_record.specs.Stream.{one_more}
use Rattle.rpc_record.specs.declared.stream.Failed.{Failed}
use Rattle.rpc_record.specs.declared.stream.Failed.TheVariants as failed
use Rattle.store_disk.specs.Disks.{DiskLife, IsImage, LeavesSince}
use Rattle.gate_log.specs.Logs.{log_size}
use Rattle.gate_log.specs.Appends.{IsSynced}
use Rattle.gate_log.specs.Staging.{ClearsDisk, SealsLog, Stages, StagesMore}
use Rattle.twin_log.specs.declared.side.Side.{Side}
use Rattle.twin_log.specs.declared.fault.LogCause.{LogCause}
use Rattle.twin_log.specs.declared.fault.LogCause.TheVariants as cause
use Rattle.twin_log.specs.Twins.{TwinLog, New, Has, Bad, at_side, opposite, generation_body, twin_log}
use Rattle.twin_log.specs.KeptLogs.{IsFileOf, IsPassed, IsSyncedFrom, KeptLogState, RenewsTwin, StandsTwin, WaitsTwin, next_generation}

-- The count of faults: that of one of the two disks is one more exactly at a fault.
abbrev pub CountsTwins : {T : Type 0} → Result T Failed → ℕ → ℕ → ℕ → ℕ → Type 0
CountsTwins (Ok x) disk spare disk' spare' = (disk' ≡ disk) × (spare' ≡ spare)
CountsTwins (Err failed.Fault) disk spare disk' spare' = ((disk' ≡ one_more disk) × (spare' ≡ spare)) ⊎ ((disk' ≡ disk) × (spare' ≡ one_more spare))
CountsTwins (Err failed.NoMemory) disk spare disk' spare' = (disk' ≡ disk) × (spare' ≡ spare)

-- disks that tell nothing tell nothing later
abbrev pub TellsAsBefore : Option DiskLife → Option DiskLife → Type 0
TellsAsBefore None new = new ≡ None
TellsAsBefore (Some old) new = ⊤

abbrev pub TellAsBefore : Option DiskLife → Option DiskLife → Option DiskLife → Option DiskLife → Type 0
TellAsBefore disk spare disk' spare' = TellsAsBefore disk disk' × TellsAsBefore spare spare'

-- what was done to the file of a side, and to no other
pub record OnSide (side : Side) (disk spare disk' spare' : Option DiskLife) (P : List ℕ → Type 0) : Type 0 where
  pub leaves : LeavesSince (at_side side disk spare) (at_side side disk' spare') P
  pub others : at_side (opposite side) disk' spare' ≡ at_side (opposite side) disk spare

-- ---- opening

-- the count of one disk's faults
abbrev pub cause_counted : {T : Type 0} → Result T LogCause → ℕ → ℕ
cause_counted (Err cause.Disk) n = one_more n
cause_counted result n = n

-- the result of a call by what its disks answered
abbrev pub plain_cause : {T : Type 0} → Result T LogCause → Result (Unit {0}) Failed
plain_cause (Ok x) = Ok tt
plain_cause (Err cause.Disk) = Err failed.Fault
plain_cause (Err (cause.BadLog place)) = Ok tt
plain_cause (Err cause.NoMemory) = Err failed.NoMemory

-- the first body is the next
abbrev pub IsAtFirst : TwinLog → KeptLogState → Type 0
IsAtFirst New log = ⊤
IsAtFirst (Has generation start bodies) log = (log.next ≡ start) × (log.place ≡ 0)
IsAtFirst (Bad place) log = ⊤

-- The log is the one that the files say, and its first body is the next; or it is bad, and nothing but a sync was done to them.
abbrev pub OpensAs : TwinLog → DiskLife → DiskLife → Result KeptLogState LogCause → Option DiskLife → Option DiskLife → Type 0
OpensAs says disk spare (Err cause.Disk) disk' spare' = ⊤
OpensAs says disk spare (Err cause.NoMemory) disk' spare' = ⊤
OpensAs says disk spare (Err (cause.BadLog place)) disk' spare' = (says ≡ Bad place) × IsSyncedFrom disk disk' × IsSyncedFrom spare spare'
OpensAs says disk spare (Ok log) disk' spare' = StandsTwin log says disk' spare' × IsAtFirst says log × IsSyncedFrom disk disk' × IsSyncedFrom spare spare'

abbrev pub OpensTwin : Option DiskLife → Option DiskLife → Result KeptLogState LogCause → Option DiskLife → Option DiskLife → Type 0
OpensTwin None spare result disk' spare' = ⊤
OpensTwin (Some disk) None result disk' spare' = ⊤
OpensTwin (Some disk) (Some spare) result disk' spare' = OpensAs (twin_log disk.now.seen spare.now.seen) disk spare result disk' spare'

-- ---- steps of it

abbrev pub IsSyncedTold : Option DiskLife → Option DiskLife → Type 0
IsSyncedTold None new = new ≡ None
IsSyncedTold (Some old) new = IsSyncedFrom old new

-- the log of two disks of which all is synced
abbrev pub FindsAs : TwinLog → DiskLife → DiskLife → Result KeptLogState LogCause → Type 0
FindsAs says disk spare (Err cause.Disk) = ⊤
FindsAs says disk spare (Err cause.NoMemory) = ⊤
FindsAs says disk spare (Err (cause.BadLog place)) = says ≡ Bad place
FindsAs says disk spare (Ok log) = StandsTwin log says (Some disk) (Some spare) × IsAtFirst says log

abbrev pub FindsTwin : Option DiskLife → Option DiskLife → Result KeptLogState LogCause → Type 0
FindsTwin None spare result = ⊤
FindsTwin (Some disk) None result = ⊤
FindsTwin (Some disk) (Some spare) result = IsSynced disk → IsSynced spare → FindsAs (twin_log disk.now.seen spare.now.seen) disk spare result

-- whatever a crash left on the way, it would have left before
abbrev pub LeavesAsBefore : Option DiskLife → Option DiskLife → Type 0
LeavesAsBefore None new = new ≡ None
LeavesAsBefore (Some old) new = LeavesSince (Some old) new (IsImage old.now)

-- ---- reading

-- the next body of these is due there
abbrev pub IsReadTo : ℕ → List (List ℕ) → KeptLogState → Type 0
IsReadTo start done log = log.next ≡ start + log_size done

-- The next body is in the buffer, and stands at its place; or there is none.
abbrev pub ReadsOn : ℕ → List (List ℕ) → List (List ℕ) → KeptLogState → Result Bool LogCause → List ℕ → KeptLogState → Type 0
ReadsOn start done rest old (Ok true) body new = (behind : List (List ℕ)) × (rest ≡ body ∷ behind) × (new ≡ record old { next = old.next + (5 + length body); place = old.next })
ReadsOn start done rest old (Ok false) body new = (rest ≡ []) × (new ≡ old)
ReadsOn start done rest old (Err (cause.BadLog place)) body new = ⊥
ReadsOn start done rest old (Err cause.Disk) body new = new ≡ old
ReadsOn start done rest old (Err cause.NoMemory) body new = new ≡ old

-- this holds where a disk tells
abbrev pub WhereTold : Option DiskLife → Type 0 → Type 0
WhereTold None P = ⊤
WhereTold (Some life) P = P

abbrev pub ReadsTwin : KeptLogState → Option DiskLife → Option DiskLife → Result Bool LogCause → List ℕ → KeptLogState → Type 0
ReadsTwin old disk spare result body new =
    (generation start : ℕ) (done rest : List (List ℕ)) → StandsTwin old (Has generation start (done ++ rest)) disk spare → IsReadTo start done old → WhereTold (at_side old.side disk spare) (ReadsOn start done rest old result body new)

-- ---- the same calls on the file of a side

abbrev pub StagesOn : Side → Option DiskLife → Option DiskLife → ℕ → ℕ → List ℕ → Result ℕ Failed → Option DiskLife → Option DiskLife → Type 0
StagesOn side disk spare end at body result disk' spare' =
    ((bodies staged : List (List ℕ)) → Stages (at_side side disk spare) bodies staged end at → StagesMore (at_side side disk spare) bodies staged body end result (at_side side disk' spare'))
    × (at_side (opposite side) disk' spare' ≡ at_side (opposite side) disk spare)

abbrev pub SealsOn : Side → Option DiskLife → Option DiskLife → ℕ → ℕ → Result (Unit {0}) Failed → Option DiskLife → Option DiskLife → Type 0
SealsOn side disk spare end at result disk' spare' =
    ((bodies staged : List (List ℕ)) → Stages (at_side side disk spare) bodies staged end at → SealsLog (at_side side disk spare) bodies staged at result (at_side side disk' spare'))
    × (at_side (opposite side) disk' spare' ≡ at_side (opposite side) disk spare)

abbrev pub ClearsOn : Side → Option DiskLife → Option DiskLife → Result (Unit {0}) Failed → Option DiskLife → Option DiskLife → Type 0
ClearsOn side disk spare result disk' spare' = ClearsDisk (at_side side disk spare) result (at_side side disk' spare') × (at_side (opposite side) disk' spare' ≡ at_side (opposite side) disk spare)

-- ---- records that wait

-- One more waits; a crash leaves the log without those that wait.
pub record WaitsMore (old : KeptLogState) (disk spare : Option DiskLife) (generation start : ℕ) (bodies staged : List (List ℕ)) (body : List ℕ) (result : Result (Unit {0}) Failed) (new : KeptLogState) (disk' spare' : Option DiskLife) : Type 0 where
  pub crash : OnSide old.side disk spare disk' spare' (IsFileOf generation start bodies)
  pub kept : (x : Unit {0}) → result ≡ Ok x → WaitsTwin new generation start bodies (staged ++ body ∷ []) disk' spare'

-- They are part of it; a crash leaves it without them, or with all.
pub record SealsTwin (old : KeptLogState) (disk spare : Option DiskLife) (generation start : ℕ) (bodies staged : List (List ℕ)) (result : Result (Unit {0}) Failed) (new : KeptLogState) (disk' spare' : Option DiskLife) : Type 0 where
  pub crash : OnSide old.side disk spare disk' spare' (λ left. IsFileOf generation start bodies left ⊎ IsFileOf generation start (bodies ++ staged) left)
  pub kept : (x : Unit {0}) → result ≡ Ok x → StandsTwin new (Has generation start (bodies ++ staged)) disk' spare'

-- Appending a body: a crash leaves the log with it or without it; and once it is done, with it.
pub record AppendsTwin {E : Type 0} (old : KeptLogState) (disk spare : Option DiskLife) (generation start : ℕ) (bodies : List (List ℕ)) (body : List ℕ) (result : Result (Unit {0}) E) (new : KeptLogState) (disk' spare' : Option DiskLife) : Type 0 where
  pub crash : OnSide old.side disk spare disk' spare' (λ left. IsFileOf generation start bodies left ⊎ IsFileOf generation start (bodies ++ body ∷ []) left)
  pub kept : (x : Unit {0}) → result ≡ Ok x → StandsTwin new (Has generation start (bodies ++ body ∷ [])) disk' spare'

-- the numbers of a log behind which a record with a body of so many bytes was written, which waits
abbrev pub staged_log : KeptLogState → ℕ → KeptLogState
staged_log log count = record log { at = log.at + 5 + count; size = max log.size (log.at + 6 + count) }

-- those of one whose waiting records became part of it
abbrev pub sealed_log : KeptLogState → KeptLogState
sealed_log log = record log { end = log.at; next = log.at }

-- ---- a renewal

-- It has begun, and has no body yet; a crash leaves the other file passed.
pub record BeginsRenewal {E : Type 0} (old : KeptLogState) (disk spare : Option DiskLife) (says : TwinLog) (result : Result (Unit {0}) E) (new : KeptLogState) (disk' spare' : Option DiskLife) : Type 0 where
  pub crash : OnSide (opposite old.side) disk spare disk' spare' (IsPassed old.generation)
  pub kept : (x : Unit {0}) → result ≡ Ok x → RenewsTwin new says [] disk' spare'

pub record PutsMore {E : Type 0} (old : KeptLogState) (disk spare : Option DiskLife) (says : TwinLog) (put : List (List ℕ)) (body : List ℕ) (result : Result (Unit {0}) E) (new : KeptLogState) (disk' spare' : Option DiskLife) : Type 0 where
  pub crash : OnSide (opposite old.side) disk spare disk' spare' (IsPassed old.generation)
  pub kept : (x : Unit {0}) → result ≡ Ok x → RenewsTwin new says (put ++ body ∷ []) disk' spare'

-- where the first body stands in a file of a generation
abbrev pub renewed_place : ℕ → ℕ
renewed_place generation = 5 + length (generation_body generation)

-- The numbers of a log that took another's place: all of its bodies count as read.
pub record HasRenewed (old new : KeptLogState) : Type 0 where
  pub side : new.side ≡ opposite old.side
  pub generation : new.generation ≡ Some (next_generation old.generation)
  pub size : new.size ≡ new.end + 1
  pub next : new.next ≡ new.end
  pub place : new.place ≡ 0
  pub none_renews : new.renewed ≡ None

-- The other file has the log, with the next generation; a crash leaves that file passed, or with the new log.
pub record EndsRenewal {E : Type 0} (old : KeptLogState) (disk spare : Option DiskLife) (put : List (List ℕ)) (result : Result (Unit {0}) E) (new : KeptLogState) (disk' spare' : Option DiskLife) : Type 0 where
  pub crash : OnSide (opposite old.side) disk spare disk' spare' (λ left. IsPassed old.generation left ⊎ IsFileOf (next_generation old.generation) (renewed_place (next_generation old.generation)) put left)
  pub kept : (x : Unit {0}) → result ≡ Ok x → StandsTwin new (Has (next_generation old.generation) (renewed_place (next_generation old.generation)) put) disk' spare'
