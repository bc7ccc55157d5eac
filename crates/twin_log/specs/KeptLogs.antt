-- A log in two files that is open: how it stands on the two disks.
use Rattle.std.specs.Prelude.{⊤, ◌≡◌, ◌≢◌, ℕ, ◌+◌, ◌-◌, ◌^◌, ◌<◌, ◌≤◌, Bool, true, false, if◌then◌else◌, is_none, is_some, nat_le, nat_lt, List, [], ◌∷◌, Option, Some, None, IfSome}
use Rattle.store_disk.specs.Disks.{DiskLife, synced_state}
use Rattle.gate_log.specs.Logs.{log_of}
use Rattle.gate_log.specs.Appends.{HoldsLog, IsSynced, whole_log}
use Rattle.gate_log.specs.Staging.{HasSize, Stages}
use Rattle.twin_log.specs.declared.side.Side.{Side}
use Rattle.twin_log.specs.declared.side.Side.TheVariants.{Spare}
use Rattle.twin_log.specs.Twins.{TwinLog, New, Has, Bad, at_side, opposite, first_place, generation_body, generation_by, generation_of, without_generation}

-- The file that has the log, or that a new log does not go to; the generation, where there is a log; how many bytes the file has; where its last
-- gate byte stands, and the closed gate behind records that wait; where the next body to be read has its record, and where the last one had;
-- and where the closed gate stands behind what was renewed in the other file, while that is under way.
pub record KeptLogState : Type 0 where
  pub side : Side
  pub generation : Option ℕ
  pub size : ℕ
  pub end : ℕ
  pub at : ℕ
  pub next : ℕ
  pub place : ℕ
  pub renewed : Option ℕ

-- the places of its numbers
pub record IsOrdered (log : KeptLogState) : Type 0 where
  pub order : log.end ≤ log.at
  pub bounded : log.at < 2 ^ 64 - 1
  pub next : log.next ≤ log.size
  pub within : log.at ≤ log.size
  pub renewed : IfSome log.renewed (λ at. (0 < at) × (at < 2 ^ 64 - 1))
  pub room : log.renewed ≢ None → IfSome log.generation (λ generation. generation < 2 ^ 64 - 1)

-- of two files that have none: a renewal goes into the disk
abbrev pub new_pair : KeptLogState
new_pair = record { side = Spare; generation = None; size = 0; end = 0; at = 0; next = 0; place = 0; renewed = None }

-- a record may be appended: there is a generation, no renewal is under way, and all bodies were read
abbrev pub can_append : KeptLogState → Bool
can_append log = if is_none log.generation then false else (if is_some log.renewed then false else nat_le log.end log.next)

-- records wait behind it
abbrev pub has_waiting : KeptLogState → Bool
has_waiting log = nat_lt log.end log.at

-- a generation has one behind it
abbrev pub has_next : Option ℕ → Bool
has_next None = true
has_next (Some generation) = nat_lt generation (2 ^ 64 - 1)

-- a renewal may begin: none is under way
abbrev pub can_begin : KeptLogState → Bool
can_begin log = if is_some log.renewed then false else has_next log.generation

-- ---- one file

-- the bodies of a file say this generation, place and bodies
pub record SaysLog (all : List (List ℕ)) (generation start : ℕ) (bodies : List (List ℕ)) : Type 0 where
  pub generation_is : generation_by all true ≡ Some generation
  pub start_is : first_place all ≡ start
  pub bodies_are : without_generation all ≡ bodies

-- a file with these bytes does
pub record IsFileOf (generation start : ℕ) (bodies : List (List ℕ)) (left : List ℕ) : Type 0 where
  pub all : List (List ℕ)
  pub log : log_of left ≡ whole_log all
  pub says : SaysLog all generation start bodies

-- it has no record, or a generation below this one, where there is one
abbrev pub IsGenerationBelow : Option ℕ → Option ℕ → Type 0
IsGenerationBelow generation None = ⊤
IsGenerationBelow None (Some h) = ⊥
IsGenerationBelow (Some g) (Some h) = h < g

abbrev pub IsPassed : Option ℕ → List ℕ → Type 0
IsPassed generation left = IsGenerationBelow generation (generation_of (log_of left))

-- the same of a disk of which all is synced, and which may tell nothing
abbrev pub StandsPassed : Option ℕ → Option DiskLife → Type 0
StandsPassed generation None = ⊤
StandsPassed generation (Some life) = IsSynced life × IsPassed generation life.now.seen

-- ---- the two files

-- the generation of what they say
abbrev pub generation_said : TwinLog → Option ℕ
generation_said New = None
generation_said (Has generation start bodies) = Some generation
generation_said (Bad place) = None

-- a file of so many bytes holds the log, all of it synced
pub record HoldsFile (told : Option DiskLife) (generation start : ℕ) (bodies : List (List ℕ)) (end size : ℕ) : Type 0 where
  pub all : List (List ℕ)
  pub log : HoldsLog told all end
  pub says : SaysLog all generation start bodies
  pub size_is : HasSize told size

-- The file of the log's side holds what is said; where nothing is, it has no record.
abbrev pub HoldsSaid : TwinLog → KeptLogState → Option DiskLife → Type 0
HoldsSaid New log told = StandsPassed None told
HoldsSaid (Has generation start bodies) log told = HoldsFile told generation start bodies log.end log.size
HoldsSaid (Bad place) log told = ⊥

-- The two disks have this log between them, all of it synced; no record waits, and no renewal is under way.
pub record StandsTwin (log : KeptLogState) (says : TwinLog) (disk spare : Option DiskLife) : Type 0 where
  pub generation_is : log.generation ≡ generation_said says
  pub own : HoldsSaid says log (at_side log.side disk spare)
  pub other : StandsPassed log.generation (at_side (opposite log.side) disk spare)
  pub none_waits : log.at ≡ log.end
  pub none_renews : log.renewed ≡ None

-- Behind the log records wait.
pub record WaitsTwin (log : KeptLogState) (generation start : ℕ) (bodies staged : List (List ℕ)) (disk spare : Option DiskLife) : Type 0 where
  pub generation_is : log.generation ≡ Some generation
  pub all : List (List ℕ)
  pub own : Stages (at_side log.side disk spare) all staged log.end log.at
  pub says : SaysLog all generation start bodies
  pub other : StandsPassed log.generation (at_side (opposite log.side) disk spare)
  pub size : HasSize (at_side log.side disk spare) log.size
  pub none_renews : log.renewed ≡ None

-- the generation behind this one
abbrev pub next_generation : Option ℕ → ℕ
next_generation None = 1
next_generation (Some generation) = generation + 1

-- A log with these bodies is being made in the other file.
pub record RenewsTwin (log : KeptLogState) (says : TwinLog) (put : List (List ℕ)) (disk spare : Option DiskLife) : Type 0 where
  pub generation_is : log.generation ≡ generation_said says
  pub own : HoldsSaid says log (at_side log.side disk spare)
  pub renewed : ℕ
  pub renewed_is : log.renewed ≡ Some renewed
  pub target : Stages (at_side (opposite log.side) disk spare) [] (generation_body (next_generation log.generation) ∷ put) 0 renewed
  pub target_size : HasSize (at_side (opposite log.side) disk spare) (renewed + 1)
  pub none_waits : log.at ≡ log.end

-- ---- opening

-- all was synced, and nothing else was done
abbrev pub IsSyncedFrom : DiskLife → Option DiskLife → Type 0
IsSyncedFrom old new = (life : DiskLife) × (new ≡ Some life) × (life.now ≡ synced_state old.now.seen)
