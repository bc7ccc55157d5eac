-- What two disks leave together, by what each of them leaves.
use Rattle.std.proofs.Common.{◌≡◌, ℕ, ◌+◌, List, Option, Some, None, Ok, sym, ap, subst, ◌∙◌, arith}
use Rattle.cluster_model.specs.Server.{ServerState}
use Rattle.store_disk.specs.Disks.{DiskLife, AllImages, LeavesNow, LeavesSince}
use Rattle.store_disk.proofs.Leaving.{Told, since_new, since_weaker}
use Rattle.store_disk.proofs.Images.{images_of}
use Rattle.twin_log.specs.declared.side.Side.{Side}
use Rattle.twin_log.specs.declared.side.Side.TheVariants as side
use Rattle.twin_log.specs.Twins.{TwinLog, New, Has, Bad, at_side, opposite, twin_log}
use Rattle.twin_log.specs.KeptLogs.{HoldsSaid, IsFileOf, IsGenerationBelow, IsPassed, KeptLogState, StandsPassed, StandsTwin, generation_said, next_generation}
use Rattle.twin_log.proofs.Sides.{at_twice, file_passed, says_new, says_own}
use Rattle.ds_log.specs.Durable.{durable, played, unbooted}
use Rattle.ds_store.specs.Kept.{IsLogOf, LeavesBoth, LeavesBothNow, SaysServer, said_by}
use Rattle.ds_store.specs.Renewals.{SaysRenewed}

-- ---- each file by itself

-- P holds of a pair where this holds of the file of a side and that of the other
module _ (log_side : Side) (Own Other : List ℕ → Type 0) (P : List ℕ → List ℕ → Type 0)
    (joins : (left left_spare : List ℕ) → Own (at_side log_side left left_spare) → Other (at_side (opposite log_side) left left_spare) → P left left_spare) where
  pub both_since : (disk spare disk' spare' : Option DiskLife) → LeavesSince (at_side log_side disk spare) (at_side log_side disk' spare') Own
      → LeavesSince (at_side (opposite log_side) disk spare) (at_side (opposite log_side) disk' spare') Other → LeavesBoth disk spare disk' spare' P
  both_since None spare disk' spare' own other = first log_side own other
    where
      first : (x : Side) → LeavesSince (at_side x None spare) (at_side x disk' spare') Own → LeavesSince (at_side (opposite x) None spare) (at_side (opposite x) disk' spare') Other → disk' ≡ None
      first side.Disk own other = own
      first side.Spare own other = other
  both_since (Some d) None disk' spare' own other = second log_side own other
    where
      second : (x : Side) → LeavesSince (at_side x (Some d) None) (at_side x disk' spare') Own → LeavesSince (at_side (opposite x) (Some d) None) (at_side (opposite x) disk' spare') Other → spare' ≡ None
      second side.Disk own other = other
      second side.Spare own other = own
  both_since (Some d) (Some s) disk' spare' own other = by_side log_side joins own other
    where
      by_side : (x : Side) → ((left left_spare : List ℕ) → Own (at_side x left left_spare) → Other (at_side (opposite x) left left_spare) → P left left_spare)
          → LeavesSince (at_side x (Some d) (Some s)) (at_side x disk' spare') Own → LeavesSince (at_side (opposite x) (Some d) (Some s)) (at_side (opposite x) disk' spare') Other
          → LeavesSince (Some d) disk' (λ left. LeavesSince (Some s) spare' (P left))
      by_side side.Disk f own other = since_weaker Own (λ left. LeavesSince (Some s) spare' (P left)) (Some d) disk' (λ left h. since_weaker Other (P left) (Some s) spare' (λ left_spare k. f left left_spare h k) other) own
      by_side side.Spare f own other = since_weaker Other (λ left. LeavesSince (Some s) spare' (P left)) (Some d) disk' (λ left k. since_weaker Own (P left) (Some s) spare' (λ left_spare h. f left left_spare h k) own) other

  pub both_now : (disk spare : Option DiskLife) → Told (at_side log_side disk spare) (λ life. AllImages Own life.now) → Told (at_side (opposite log_side) disk spare) (λ life. AllImages Other life.now) → LeavesBothNow disk spare P
  both_now None spare own other = tt
  both_now (Some d) None own other = tt
  both_now (Some d) (Some s) own other = by_side log_side joins own other
    where
      by_side : (x : Side) → ((left left_spare : List ℕ) → Own (at_side x left left_spare) → Other (at_side (opposite x) left left_spare) → P left left_spare)
          → Told (at_side x (Some d) (Some s)) (λ life. AllImages Own life.now) → Told (at_side (opposite x) (Some d) (Some s)) (λ life. AllImages Other life.now)
          → LeavesNow (Some d) (λ left. LeavesNow (Some s) (P left))
      by_side side.Disk f own other = λ left image left_spare image_spare. f left left_spare (own left image) (other left_spare image_spare)
      by_side side.Spare f own other = λ left image left_spare image_spare. f left left_spare (own left_spare image_spare) (other left image)

-- less is said of it
pub both_weaker : (P Q : List ℕ → List ℕ → Type 0) → ((left left_spare : List ℕ) → P left left_spare → Q left left_spare) → (disk spare disk' spare' : Option DiskLife) → LeavesBoth disk spare disk' spare' P → LeavesBoth disk spare disk' spare' Q
both_weaker P Q w None spare disk' spare' h = h
both_weaker P Q w (Some d) None disk' spare' h = h
both_weaker P Q w (Some d) (Some s) disk' spare' h =
    since_weaker (λ left. LeavesSince (Some s) spare' (P left)) (λ left. LeavesSince (Some s) spare' (Q left)) (Some d) disk' (λ left. since_weaker (P left) (Q left) (Some s) spare' (w left)) h

-- ---- a crash that comes now

-- a disk whose spare tells nothing
untold_now : (P : List ℕ → List ℕ → Type 0) (disk : Option DiskLife) → LeavesBothNow disk None P
untold_now P None = tt
untold_now P (Some disk) = tt

at_images : (P : List ℕ → List ℕ → Type 0) (spare : DiskLife) (disk' spare' : Option DiskLife) → Told disk' (λ life. AllImages (λ left. LeavesSince (Some spare) spare' (P left)) life.now) → LeavesBothNow disk' spare' P
at_images P spare None spare' h = tt
at_images P spare (Some life) None h = tt
at_images P spare (Some life) (Some other) h = λ left image. since_new (P left) (Some spare) (Some other) (h left image)

-- what holds whenever a crash came holds of one that comes now
pub both_new : (P : List ℕ → List ℕ → Type 0) (disk spare disk' spare' : Option DiskLife) → LeavesBoth disk spare disk' spare' P → LeavesBothNow disk' spare' P
both_new P None spare disk' spare' leaves = subst (λ (t : Option DiskLife). LeavesBothNow t spare' P) (sym leaves) tt
both_new P (Some disk) None disk' spare' leaves = subst (λ (t : Option DiskLife). LeavesBothNow disk' t P) (sym leaves) (untold_now P disk')
both_new P (Some disk) (Some spare) disk' spare' leaves = at_images P spare disk' spare' (since_new (λ left. LeavesSince (Some spare) spare' (P left)) (Some disk) disk' leaves)

-- less is said of what crashes leave now
pub now_weaker : (P Q : List ℕ → List ℕ → Type 0) → ((left left_spare : List ℕ) → P left left_spare → Q left left_spare) → (disk spare : Option DiskLife) → LeavesBothNow disk spare P → LeavesBothNow disk spare Q
now_weaker P Q w None spare h = tt
now_weaker P Q w (Some d) None h = tt
now_weaker P Q w (Some d) (Some s) h = λ left image left_spare image_spare. w left left_spare (h left image left_spare image_spare)

-- ---- what a file says of a log

-- The file of a log's side has it; where nothing is said, it has no record.
abbrev pub OwnSays : TwinLog → List ℕ → Type 0
OwnSays New left = IsPassed None left
OwnSays (Has generation start bodies) left = IsFileOf generation start bodies left
OwnSays (Bad place) left = ⊥

pub own_images : (says : TwinLog) (log : KeptLogState) (told : Option DiskLife) → HoldsSaid says log told → Told told (λ life. AllImages (OwnSays says) life.now)
own_images says log None h = tt
own_images New log (Some life) h = images_of (IsPassed None) life.now life.now.seen h.0 h.1
own_images (Has generation start bodies) log (Some life) h = images_of (IsFileOf generation start bodies) life.now life.now.seen h.log.synced (record { all = h.all; log = h.log.log; says = h.says })
own_images (Bad place) log (Some life) h = absurd h

pub passed_images : (generation : Option ℕ) (told : Option DiskLife) → StandsPassed generation told → Told told (λ life. AllImages (IsPassed generation) life.now)
passed_images generation None h = tt
passed_images generation (Some life) h = images_of (IsPassed generation) life.now life.now.seen h.0 h.1

module _ (log : KeptLogState) (says : TwinLog) (disk spare : Option DiskLife) (stands : StandsTwin log says disk spare) where
  pub own_now : Told (at_side log.side disk spare) (λ life. AllImages (OwnSays says) life.now)
  own_now = own_images says log (at_side log.side disk spare) stands.own

  pub other_now : Told (at_side (opposite log.side) disk spare) (λ life. AllImages (IsPassed log.generation) life.now)
  other_now = passed_images log.generation (at_side (opposite log.side) disk spare) stands.other

-- the pair says it, where the other file is passed
pub says_together : (log_side : Side) (says : TwinLog) (left left_spare : List ℕ) → OwnSays says (at_side log_side left left_spare) → IsPassed (generation_said says) (at_side (opposite log_side) left left_spare) → twin_log left left_spare ≡ says
says_together side.Disk New left left_spare own other = says_new left left_spare own other
says_together side.Spare New left left_spare own other = says_new left left_spare other own
says_together log_side (Has generation start bodies) left left_spare own other = says_own log_side generation start bodies left left_spare own other
says_together log_side (Bad place) left left_spare own other = absurd own

-- the file is passed by the next generation
passed_next : (says : TwinLog) (left : List ℕ) → OwnSays says left → IsPassed (Some (next_generation (generation_said says))) left
passed_next New left own = passed_more own
  where
    below_more : (g : Option ℕ) → IsGenerationBelow None g → IsGenerationBelow (Some 1) g
    below_more None below = tt
    below_more (Some h) below = absurd below

    passed_more : IsPassed None left → IsPassed (Some 1) left
    passed_more own = below_more _ own
passed_next (Has generation start bodies) left own = file_passed generation start bodies (generation + 1) left own (omega arith)
passed_next (Bad place) left own = absurd own

-- the pair says the server whose snapshot took the log's place
pub says_renewed : (s : ServerState) (log_side : Side) (says : TwinLog) (left left_spare : List ℕ) → OwnSays says (at_side log_side left left_spare)
    → SaysRenewed s (next_generation (generation_said says)) (at_side (opposite log_side) left left_spare) → SaysServer s left left_spare
says_renewed s log_side says left left_spare own renewed =
    let next = next_generation (generation_said says) in
    let passed : IsPassed (Some next) (at_side (opposite (opposite log_side)) left left_spare) =
    subst (IsPassed (Some next)) (sym (at_twice log_side left left_spare)) (passed_next says (at_side log_side left left_spare) own) in
    ap (said_by s.number) (says_own (opposite log_side) next _ renewed.bodies left left_spare renewed.file passed) ∙ renewed.says

-- ---- two disks that hold a server's log

pub log_of : (s : ServerState) (log : KeptLogState) (generation start : ℕ) (bodies : List (List ℕ)) (disk spare : Option DiskLife) → StandsTwin log (Has generation start bodies) disk spare
    → played (unbooted s.number) start bodies ≡ Ok (durable s) → IsLogOf s log disk spare
log_of s log generation start bodies None spare stands says = tt
log_of s log generation start bodies (Some d) None stands says = tt
log_of s log generation start bodies (Some d) (Some sp) stands says = record { generation = generation; start = start; bodies = bodies; stands = stands; says = says }

pub says_now : (s : ServerState) (log : KeptLogState) (disk spare : Option DiskLife) → IsLogOf s log disk spare → LeavesBothNow disk spare (SaysServer s)
says_now s log None spare keeps = tt
says_now s log (Some d) None keeps = tt
says_now s log (Some d) (Some sp) keeps =
    let says = Has keeps.generation keeps.start keeps.bodies in
    both_now log.side (OwnSays says) (IsPassed log.generation) (SaysServer s)
    (λ left left_spare own other. ap (said_by s.number) (says_together log.side says left left_spare own (subst (λ (g : Option ℕ). IsPassed g (at_side (opposite log.side) left left_spare)) keeps.stands.generation_is other)) ∙ keeps.says)
    (Some d) (Some sp) (own_now log says (Some d) (Some sp) keeps.stands) (other_now log says (Some d) (Some sp) keeps.stands)
