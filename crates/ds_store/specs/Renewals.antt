-- A renewal: the snapshot of a server in the other file takes the log's place.
use Rattle.std.specs.Prelude.{⊤, ◌≡◌, ◌⊎◌, ℕ, ◌+◌, ◌*◌, ◌≤◌, Bool, true, false, nat_lt, ◌&&◌, List, length, Option, Some, None, Result, Ok, Err}
use Rattle.rpc_record.specs.declared.stream.Failed.{Failed}
use Rattle.cluster_model.specs.Server.{ServerState}
use Rattle.store_disk.specs.Disks.{DiskLife}
use Rattle.twin_log.specs.Twins.{TwinLog, opposite}
use Rattle.twin_log.specs.KeptLogs.{IsFileOf, IsPassed, KeptLogState, RenewsTwin, has_next, has_waiting, next_generation}
use Rattle.twin_log.specs.LogCalls.{HasRenewed, OnSide, renewed_place, sealed_log, staged_log}
use Rattle.ds_log.specs.Durable.{applied_bytes, durable, played, unbooted}
use Rattle.ds_snapshot.specs.Snapshots.{AreBodiesOf, snapshot_of}
use Rattle.ds_snapshot.specs.Sizes.{snapshot_size}
use Rattle.ds_store.specs.Kept.{IsLogOf}

-- The bodies of the snapshot were put; a crash leaves the other file passed.
pub record PutsAll (s : ServerState) (old : KeptLogState) (disk spare : Option DiskLife) (says : TwinLog) (result : Result (Unit {0}) Failed) (new : KeptLogState) (disk' spare' : Option DiskLife) : Type 0 where
  pub crash : OnSide (opposite old.side) disk spare disk' spare' (IsPassed old.generation)
  pub put : List (List ℕ)
  pub bodies : (x : Unit {0}) → result ≡ Ok x → AreBodiesOf put (snapshot_of (durable s))
  pub kept : (x : Unit {0}) → result ≡ Ok x → RenewsTwin new says put disk' spare'

-- The bytes are those of a file of a generation, which says what lasts of the server.
pub record SaysRenewed (s : ServerState) (generation : ℕ) (left : List ℕ) : Type 0 where
  pub bodies : List (List ℕ)
  pub file : IsFileOf generation (renewed_place generation) bodies left
  pub says : played (unbooted s.number) (renewed_place generation) bodies ≡ Ok (durable s)

-- the bytes of a file with the generation and the snapshot of the server, and with its last gate byte
abbrev pub renewed_size : ServerState → ℕ
renewed_size s = 18 + snapshot_size (durable s)

-- the file has so many, where both disks tell
abbrev pub HasRenewedSize : ServerState → KeptLogState → Option DiskLife → Option DiskLife → Type 0
HasRenewedSize s log None spare = ⊤
HasRenewedSize s log (Some disk) None = ⊤
HasRenewedSize s log (Some disk) (Some spare) = log.size ≡ renewed_size s

-- A log was renewed as the server's; a crash leaves the other file passed, or with the new log.
pub record Renews (s : ServerState) (old : KeptLogState) (disk spare : Option DiskLife) (result : Result (Unit {0}) Failed) (new : KeptLogState) (disk' spare' : Option DiskLife) : Type 0 where
  pub crash : OnSide (opposite old.side) disk spare disk' spare' (λ left. IsPassed old.generation left ⊎ SaysRenewed s (next_generation old.generation) left)
  pub kept : (x : Unit {0}) → result ≡ Ok x → IsLogOf s new disk' spare'
  pub size : (x : Unit {0}) → result ≡ Ok x → HasRenewedSize s new disk' spare'

-- ---- when a log is renewed

-- A log is renewed behind an append that leaves more bytes.
abbrev pub log_limit : ServerState → ℕ
log_limit s = 16777216 + 2 * renewed_size s

-- The file that records are appended to is no longer, unless its generation is the last.
abbrev pub IsWithinLimit : ServerState → KeptLogState → Type 0
IsWithinLimit s log = has_next log.generation ≡ true → log.size ≤ log_limit s

-- it is renewed where it is longer
abbrev pub is_to_renew : ServerState → KeptLogState → Bool
is_to_renew s log = has_next log.generation && nat_lt (log_limit s) log.size

-- What settling makes of a log: where records wait they are part of it, and where it is longer than its limit then, and not else, it is renewed.
abbrev pub RenewsIf : Bool → KeptLogState → KeptLogState → Type 0
RenewsIf true old new = HasRenewed old new
RenewsIf false old new = new ≡ sealed_log old

abbrev pub SettlesIf : Bool → ServerState → KeptLogState → KeptLogState → Type 0
SettlesIf true s old new = RenewsIf (is_to_renew s old) old new
SettlesIf false s old new = new ≡ old

abbrev pub SettlesLog : ServerState → KeptLogState → KeptLogState → Type 0
SettlesLog s old new = SettlesIf (has_waiting old) s old new

-- Where records waited, the file is within its limit then; the same of disks that may tell nothing.
abbrev pub IsWithinThen : {E : Type 0} → ServerState → KeptLogState → Result (Unit {0}) E → KeptLogState → Option DiskLife → Option DiskLife → Type 0
IsWithinThen s old (Err e) new disk spare = ⊤
IsWithinThen s old (Ok x) new None spare = ⊤
IsWithinThen s old (Ok x) new (Some disk) None = ⊤
IsWithinThen s old (Ok x) new (Some disk) (Some spare) = has_waiting old ≡ true → IsWithinLimit s new

-- A record was appended with which the log says the server behind a call, and the log is renewed where it is longer than its limit then; so it is
-- within it.
pub record AppendsCall (before after : ServerState) (old new : KeptLogState) : Type 0 where
  pub body : List ℕ
  pub made : applied_bytes (durable before) body ≡ Some (durable after)
  pub settles : SettlesLog after (staged_log old (length body)) new
  pub within : IsWithinLimit after new

-- A call appended nothing, or its record; the same of disks that may tell nothing.
abbrev pub IsLogBounded : {T E : Type 0} → ServerState → KeptLogState → Result T E → ServerState → KeptLogState → Option DiskLife → Option DiskLife → Type 0
IsLogBounded before old (Err e) after new disk spare = ⊤
IsLogBounded before old (Ok x) after new None spare = ⊤
IsLogBounded before old (Ok x) after new (Some disk) None = ⊤
IsLogBounded before old (Ok x) after new (Some disk) (Some spare) = (new ≡ old) ⊎ AppendsCall before after old new
