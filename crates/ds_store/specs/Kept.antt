-- A data server that is kept on two disks: what they say together, at any moment.
use Rattle.std.specs.Prelude.{⊤, ◌≡◌, ◌⊎◌, ℕ, List, [], ◌∷◌, ◌++◌, length, Option, Some, None, Result, Ok, Err}
use Rattle.rpc_record.specs.declared.stream.Failed.TheVariants as failed
use Rattle.rpc_record.specs.declared.stream.Failed.{Failed}
use Rattle.cluster_model.specs.declared.ids.NodeId.{NodeId}
use Rattle.cluster_model.specs.declared.outbox.Outbox.{Outbox}
use Rattle.cluster_model.specs.Server.{ServerState, Effect, server_after}
use Rattle.ds_files.specs.declared.logging.Logging.{Logging}
use Rattle.ds_files.specs.Posts.{IsAsBefore, entries_made}
use Rattle.ds_files.specs.Receive.{Outcome}
use Rattle.ds_files.specs.Records.{sent_to}
use Rattle.store_disk.specs.Disks.{DiskLife, LeavesNow, LeavesSince}
use Rattle.twin_log.specs.Twins.{TwinLog, New, Has, Bad, twin_log}
use Rattle.twin_log.specs.KeptLogs.{IsFileOf, KeptLogState, StandsTwin, WaitsTwin}
use Rattle.twin_log.specs.LogCalls.{OnSide, staged_log}
use Rattle.ds_log.specs.Durable.{applied_bytes, durable, played, unbooted}
use Rattle.ds_store.specs.declared.fault.StoreFault.{StoreFault}
use Rattle.ds_store.specs.declared.fault.StoreFault.TheVariants.{Disk, Broken, NoMemory}

-- The server; its log; and why it is to be opened again, where it is.
pub record KeptState : Type 0 where
  pub server : ServerState
  pub log : KeptLogState
  pub spent : Option StoreFault

-- what may be answered from then on: a disk failed in an earlier call, and not in this one
abbrev pub IsSpentBy : Option StoreFault → Type 0
IsSpentBy (Some Disk) = ⊥
IsSpentBy (Some Broken) = ⊤
IsSpentBy (Some NoMemory) = ⊤
IsSpentBy None = ⊤

-- ---- what two disks say

-- The state that a log of two files says of the data server with a number; or where it is bad.
abbrev pub said_by : ℕ → TwinLog → Result ServerState ℕ
said_by number New = Ok (unbooted number)
said_by number (Has generation start bodies) = played (unbooted number) start bodies
said_by number (Bad place) = Err place

abbrev pub log_says : ℕ → List ℕ → List ℕ → Result ServerState ℕ
log_says number disk spare = said_by number (twin_log disk spare)

-- The log of two disks with these bytes says what lasts of the server.
abbrev pub SaysServer : ServerState → List ℕ → List ℕ → Type 0
SaysServer s disk spare = log_says s.number disk spare ≡ Ok (durable s)

-- It says it of the one or of the other.
abbrev pub SaysEither : ServerState → ServerState → List ℕ → List ℕ → Type 0
SaysEither before after disk spare = SaysServer before disk spare ⊎ SaysServer after disk spare

-- ---- what crashes leave of two disks

-- Whenever a crash came from the one moment to the other, it left pairs of bytes with P, the disk's and the spare's. No common clock is needed: P
-- holds of what the one had at any of these moments with what the other had at any. A disk that tells nothing tells nothing later.
abbrev pub LeavesBoth : Option DiskLife → Option DiskLife → Option DiskLife → Option DiskLife → (List ℕ → List ℕ → Type 0) → Type 0
LeavesBoth None spare disk' spare' P = disk' ≡ None
LeavesBoth (Some disk) None disk' spare' P = spare' ≡ None
LeavesBoth (Some disk) (Some spare) disk' spare' P = LeavesSince (Some disk) disk' (λ left. LeavesSince (Some spare) spare' (P left))

-- a crash now leaves pairs with P
abbrev pub LeavesBothNow : Option DiskLife → Option DiskLife → (List ℕ → List ℕ → Type 0) → Type 0
LeavesBothNow None spare P = ⊤
LeavesBothNow (Some disk) None P = ⊤
LeavesBothNow (Some disk) (Some spare) P = LeavesNow (Some disk) (λ left. LeavesNow (Some spare) (P left))

-- ---- two disks that have the log of a server

-- All of it is synced.
pub record KeepsServer (s : ServerState) (log : KeptLogState) (disk spare : Option DiskLife) : Type 0 where
  pub generation : ℕ
  pub start : ℕ
  pub bodies : List (List ℕ)
  pub stands : StandsTwin log (Has generation start bodies) disk spare
  pub says : played (unbooted s.number) start bodies ≡ Ok (durable s)

-- the same of disks that may tell nothing
abbrev pub IsLogOf : ServerState → KeptLogState → Option DiskLife → Option DiskLife → Type 0
IsLogOf s log None spare = ⊤
IsLogOf s log (Some disk) None = ⊤
IsLogOf s log (Some disk) (Some spare) = KeepsServer s log (Some disk) (Some spare)

-- unless it is to be opened again, the disks hold its log
abbrev pub StandsOnDisks : KeptState → Option DiskLife → Option DiskLife → Type 0
StandsOnDisks k disk spare = k.spent ≡ None → IsLogOf k.server k.log disk spare

-- ---- records that wait

-- the log, and behind it records that wait, where there are some
abbrev pub StandsOrWaits : KeptLogState → ℕ → ℕ → List (List ℕ) → List (List ℕ) → Option DiskLife → Option DiskLife → Type 0
StandsOrWaits log generation start bodies [] disk spare = StandsTwin log (Has generation start bodies) disk spare
StandsOrWaits log generation start bodies (body ∷ waiting) disk spare = WaitsTwin log generation start bodies (body ∷ waiting) disk spare

-- The log says what lasts of the settled server, and has since a moment, whatever a crash did; with the records that wait behind it, what lasts of
-- this one.
pub record WaitsServer (settled s : ServerState) (log : KeptLogState) (began began_spare disk spare : Option DiskLife) : Type 0 where
  pub number : settled.number ≡ s.number
  pub generation : ℕ
  pub start : ℕ
  pub bodies : List (List ℕ)
  pub waiting : List (List ℕ)
  pub stands : StandsOrWaits log generation start bodies waiting disk spare
  pub crash : OnSide log.side began began_spare disk spare (IsFileOf generation start bodies)
  pub says : played (unbooted settled.number) start bodies ≡ Ok (durable settled)
  pub says_then : played (unbooted settled.number) start (bodies ++ waiting) ≡ Ok (durable s)

-- the same of disks that may tell nothing
abbrev pub WaitsSince : ServerState → ServerState → KeptLogState → Option DiskLife → Option DiskLife → Option DiskLife → Option DiskLife → Type 0
WaitsSince settled s log None began_spare disk spare = disk ≡ None
WaitsSince settled s log (Some began) None disk spare = spare ≡ None
WaitsSince settled s log (Some began) (Some began_spare) disk spare = WaitsServer settled s log (Some began) (Some began_spare) disk spare

-- ---- what a call does

-- Whenever a crash comes, during a call that makes the one server of the other or behind it, it leaves the one or the other; and once it is
-- answered, the other.
pub record IsCrashSafe {T : Type 0} (before after : ServerState) (disk spare : Option DiskLife) (result : Result T StoreFault) (disk' spare' : Option DiskLife) : Type 0 where
  pub since : LeavesBoth disk spare disk' spare' (SaysEither before after)
  pub answered : (x : T) → result ≡ Ok x → LeavesBothNow disk' spare' (SaysServer after)

-- nothing was done to the disks
abbrev pub AreSameDisks : Option DiskLife → Option DiskLife → Option DiskLife → Option DiskLife → Type 0
AreSameDisks disk spare disk' spare' = (disk' ≡ disk) × (spare' ≡ spare)

-- The server is the one that a call makes of it. Or: a disk failed, or it had no memory; or memory was wanted, and nothing has changed.
abbrev pub Becomes : {T : Type 0} → ServerState → KeptState → Option DiskLife → Option DiskLife → Result T StoreFault → KeptState → Option DiskLife → Option DiskLife → Type 0
Becomes after old disk spare (Ok x) new disk' spare' = (new.server ≡ after) × (new.spent ≡ None)
Becomes after old disk spare (Err Disk) new disk' spare' = new.spent ≡ Some Broken
Becomes after old disk spare (Err Broken) new disk' spare' = ⊥
Becomes after old disk spare (Err NoMemory) new disk' spare' = (new.spent ≡ Some NoMemory) ⊎ ((new ≡ old) × AreSameDisks disk spare disk' spare')

-- What a call did that makes this server of it. One that is to be opened again answers why, and nothing has changed.
abbrev pub StepsSafely : {T : Type 0} → Option StoreFault → ServerState → KeptState → Option DiskLife → Option DiskLife → Result T StoreFault → KeptState → Option DiskLife → Option DiskLife → Type 0
StepsSafely None after old disk spare result new disk' spare' = Becomes after old disk spare result new disk' spare' × IsCrashSafe old.server after disk spare result disk' spare'
StepsSafely (Some fault) after old disk spare result new disk' spare' = (result ≡ Err fault) × (new ≡ old) × AreSameDisks disk spare disk' spare'

-- What a call did that makes this server of it, and whose record waits then. One that is to be opened again answers why, and nothing has changed.
abbrev pub TakesCall : {T : Type 0} → Option StoreFault → ServerState → KeptState → Option DiskLife → Option DiskLife → Result T StoreFault → KeptState → Option DiskLife → Option DiskLife → Type 0
TakesCall None after old disk spare result new disk' spare' = Becomes after old disk spare result new disk' spare'
TakesCall (Some fault) after old disk spare result new disk' spare' = (result ≡ Err fault) × (new ≡ old) × AreSameDisks disk spare disk' spare'

-- Crashes since a moment leave the settled server; and once the call is taken, its record waits behind those that did.
pub record TakesSince {T : Type 0} (settled : ServerState) (began began_spare : Option DiskLife) (result : Result T StoreFault) (new : KeptState) (disk' spare' : Option DiskLife) : Type 0 where
  pub since : LeavesBoth began began_spare disk' spare' (SaysServer settled)
  pub waits : (x : T) → result ≡ Ok x → WaitsSince settled new.server new.log began began_spare disk' spare'

-- the log is as it was; or a record waits behind it with which it says the server behind the call
abbrev pub WaitsForOne : ServerState → KeptLogState → ServerState → KeptLogState → Type 0
WaitsForOne before old after new = (new ≡ old) ⊎ ((body : List ℕ) × (applied_bytes (durable before) body ≡ Some (durable after)) × (new ≡ staged_log old (length body)))

-- how a failed call of the log ends a call, and what is answered from then on
abbrev pub fault_of : Failed → StoreFault
fault_of failed.Fault = Disk
fault_of failed.NoMemory = NoMemory

abbrev pub spent_of : Failed → StoreFault
spent_of failed.Fault = Broken
spent_of failed.NoMemory = NoMemory

abbrev pub SpendsBy : {T : Type 0} → Result T StoreFault → Option StoreFault → Type 0
SpendsBy (Ok x) spent = spent ≡ None
SpendsBy (Err Disk) spent = spent ≡ Some Broken
SpendsBy (Err Broken) spent = ⊥
SpendsBy (Err NoMemory) spent = spent ≡ Some NoMemory

-- What settling the records did that wait: the server is as it was. One that is to be opened again answers why, and nothing has changed.
abbrev pub SettlesCall : Option StoreFault → KeptState → Option DiskLife → Option DiskLife → Result (Unit {0}) StoreFault → KeptState → Option DiskLife → Option DiskLife → Type 0
SettlesCall None old disk spare result new disk' spare' = (new.server ≡ old.server) × SpendsBy result new.spent
SettlesCall (Some fault) old disk spare result new disk' spare' = (result ≡ Err fault) × (new ≡ old) × AreSameDisks disk spare disk' spare'

-- Crashes since a moment leave the settled server or this one; and once it is done the disks hold its log.
pub record LogsStep {E : Type 0} (settled s : ServerState) (began began_spare : Option DiskLife) (result : Result (Unit {0}) E) (log : KeptLogState) (disk' spare' : Option DiskLife) : Type 0 where
  pub since : LeavesBoth began began_spare disk' spare' (SaysEither settled s)
  pub kept : (x : Unit {0}) → result ≡ Ok x → IsLogOf s log disk' spare'

-- a result by what the calls of the disks answered
abbrev pub plain_fault : {T : Type 0} → Result T StoreFault → Result (Unit {0}) Failed
plain_fault (Ok x) = Ok tt
plain_fault (Err Disk) = Err failed.Fault
plain_fault (Err Broken) = Ok tt
plain_fault (Err NoMemory) = Err failed.NoMemory

-- ---- parts of a call

-- what a call puts out: what comes of it, or nothing
abbrev pub Posts : Logging → Outcome → NodeId → Result (Unit {0}) StoreFault → Outbox → Outbox → Type 0
Posts logging outcome node (Ok x) old new =
    (new.entries.items ≡ old.entries.items ++ entries_made logging outcome.entries) × (new.sends.items ≡ old.sends.items ++ sent_to node outcome.reply)
Posts logging outcome node (Err e) old new = IsAsBefore old new

-- the record of what is to be done, where it is to be logged: with it the log says the server behind it
abbrev pub IsRecordOf : ServerState → Effect → Option (List ℕ) → Type 0
IsRecordOf s effect None = durable (server_after s effect) ≡ durable s
IsRecordOf s effect (Some body) = applied_bytes (durable s) body ≡ Some (durable (server_after s effect))
