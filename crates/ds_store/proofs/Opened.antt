-- What a log was opened as, and what crashes leave on the way.
use Rattle.std.proofs.Common.{◌≡◌, ℕ, Option, Some, None, Result, Ok, Err, inl, inr, refl, sym, subst, ◌∙◌}
use Rattle.cluster_model.specs.Server.{ServerState}
use Rattle.store_disk.specs.Disks.{DiskLife}
use Rattle.twin_log.specs.Twins.{TwinLog, twin_log}
use Rattle.twin_log.specs.KeptLogs.{IsSyncedFrom, KeptLogState, StandsTwin}
use Rattle.twin_log.specs.LogCalls.{LeavesAsBefore, OpensTwin, TellAsBefore, TellsAsBefore}
use Rattle.ds_store.specs.declared.fault.OpenCause.{OpenCause}
use Rattle.ds_store.specs.declared.fault.OpenCause.TheVariants.{Disk, BadLog, BootsSpent, NoMemory}
use Rattle.ds_store.specs.Kept.{KeptState, LeavesBoth, said_by}
use Rattle.ds_store.specs.Opens.{LeavesOpened, LeavesRefused, OpensLog, SaysBooting, StandsOpened}
use Rattle.ds_store.specs.Reading.{BeginsBoot, HasLasting, HasSaid, ReadsWhole, ReadsLog}

-- ---- nothing was logged

-- the same of disks that tell the same
pub at_told : (P : Option DiskLife → Option DiskLife → Type 0) (disk spare disk' spare' : Option DiskLife) → disk' ≡ disk → spare' ≡ spare → P disk' spare' → P disk spare
at_told P disk spare disk' spare' same same_spare h = subst (λ (t : Option DiskLife). P disk t) same_spare (subst (λ (t : Option DiskLife). P t spare') same h)

-- nothing but a sync was done to them
pub leaves_not : (number : ℕ) (disk spare mid mid_spare disk' spare' : Option DiskLife) → LeavesAsBefore disk mid → LeavesAsBefore spare mid_spare → disk' ≡ mid → spare' ≡ mid_spare → LeavesOpened number disk spare disk' spare'
leaves_not number None spare mid mid_spare disk' spare' before before_spare same same_spare = same ∙ before
leaves_not number (Some d) None mid mid_spare disk' spare' before before_spare same same_spare = same_spare ∙ before_spare
leaves_not number (Some d) (Some s) mid mid_spare disk' spare' before before_spare same same_spare =
    record { mid = mid; mid_spare = mid_spare; before = before; before_spare = before_spare; behind = inl (same, same_spare) }

-- ---- it was opened, and read

module _ (number : ℕ) (opened log : KeptLogState) (mid mid_spare : Option DiskLife) where
  -- what was read is what the files say
  read_all : (d s : DiskLife) (result : Result ServerState OpenCause) → OpensTwin (Some d) (Some s) (Ok opened) mid mid_spare → ReadsLog number opened mid mid_spare result log
      → ReadsWhole number (twin_log d.now.seen s.now.seen) mid mid_spare result log
  read_all d s result opens reads =
      let says : TwinLog = twin_log d.now.seen s.now.seen in
      let life : IsSyncedFrom d mid = opens.2 in
      let life_spare : IsSyncedFrom s mid_spare = opens.3 in
      let here : ReadsLog number opened (Some life.0) (Some life_spare.0) result log =
      subst (λ (t : Option DiskLife). ReadsLog number opened (Some life.0) t result log) life_spare.1 (subst (λ (t : Option DiskLife). ReadsLog number opened t mid_spare result log) life.1 reads) in
      let stands : StandsTwin opened says (Some life.0) (Some life_spare.0) =
      subst (λ (t : Option DiskLife). StandsTwin opened says (Some life.0) t) life_spare.1 (subst (λ (t : Option DiskLife). StandsTwin opened says t mid_spare) life.1 opens.0) in
      let all : ReadsWhole number says (Some life.0) (Some life_spare.0) result log = here says stands opens.1 in
      subst (λ (t : Option DiskLife). ReadsWhole number says t mid_spare result log) (sym life.1) (subst (λ (t : Option DiskLife). ReadsWhole number says (Some life.0) t result log) (sym life_spare.1) all)

  -- ---- the next boot

  module _ (said : ServerState) (reads : ReadsLog number opened mid mid_spare (Ok said) log) where
    lasting : (d s : DiskLife) → OpensTwin (Some d) (Some s) (Ok opened) mid mid_spare → HasLasting said log mid mid_spare
    lasting d s opens =
        let all = read_all d s (Ok said) opens reads in
        record { says = twin_log d.now.seen s.now.seen; stands = all.1; is_said = subst (λ (n : ℕ). HasSaid n (twin_log d.now.seen s.now.seen) said) (sym all.0.numbered) all.0 }

    pub boots_opens : (disk spare : Option DiskLife) (result : Result KeptState OpenCause) → OpensTwin disk spare (Ok opened) mid mid_spare → BeginsBoot said result → OpensLog number disk spare result
    boots_opens None spare result opens begins = tt
    boots_opens (Some d) None result opens begins = tt
    boots_opens (Some d) (Some s) (Ok k) opens begins = record { said = said; log = (read_all d s (Ok said) opens reads).0.said; started = begins.0; is_new = begins.1 }
    boots_opens (Some d) (Some s) (Err (BadLog place)) opens begins = absurd begins
    boots_opens (Some d) (Some s) (Err BootsSpent) opens begins = (said, (read_all d s (Ok said) opens reads).0.said, begins)
    boots_opens (Some d) (Some s) (Err Disk) opens begins = tt
    boots_opens (Some d) (Some s) (Err NoMemory) opens begins = tt

    module _ (disk' spare' : Option DiskLife) where
      pub boots_leaves : (disk spare : Option DiskLife) → OpensTwin disk spare (Ok opened) mid mid_spare → LeavesAsBefore disk mid → LeavesAsBefore spare mid_spare
          → (HasLasting said log mid mid_spare → LeavesBoth mid mid_spare disk' spare' (SaysBooting said.number (Ok said))) → TellAsBefore mid mid_spare disk' spare' → LeavesOpened number disk spare disk' spare'
      boots_leaves None spare opens before before_spare crash tells = subst (λ (t : Option DiskLife). TellsAsBefore t disk') before tells.0
      boots_leaves (Some d) None opens before before_spare crash tells = subst (λ (t : Option DiskLife). TellsAsBefore t spare') before_spare tells.1
      boots_leaves (Some d) (Some s) opens before before_spare crash tells =
          let is : HasSaid number (twin_log d.now.seen s.now.seen) said = (read_all d s (Ok said) opens reads).0 in
          let leaves : LeavesBoth mid mid_spare disk' spare' (SaysBooting number (said_by number (twin_log d.now.seen s.now.seen))) =
          subst (λ (r : Result ServerState ℕ). LeavesBoth mid mid_spare disk' spare' (SaysBooting number r)) (sym is.said)
          (subst (λ (n : ℕ). LeavesBoth mid mid_spare disk' spare' (SaysBooting n (Ok said))) is.numbered (crash (lasting d s opens))) in
          record { mid = mid; mid_spare = mid_spare; before = before; before_spare = before_spare; behind = inr (opens.2, opens.3, leaves) }

      pub boots_refuses : (disk spare : Option DiskLife) (result : Result KeptState OpenCause) → OpensTwin disk spare (Ok opened) mid mid_spare → BeginsBoot said result → (result ≡ Err BootsSpent → disk' ≡ mid)
          → (result ≡ Err BootsSpent → spare' ≡ mid_spare) → LeavesRefused disk spare result disk' spare'
      boots_refuses None spare result opens begins same same_spare = tt
      boots_refuses (Some d) None result opens begins same same_spare = tt
      boots_refuses (Some d) (Some s) (Ok k) opens begins same same_spare = tt
      boots_refuses (Some d) (Some s) (Err Disk) opens begins same same_spare = tt
      boots_refuses (Some d) (Some s) (Err NoMemory) opens begins same same_spare = tt
      boots_refuses (Some d) (Some s) (Err BootsSpent) opens begins same same_spare = (subst (IsSyncedFrom d) (sym (same refl)) opens.2, subst (IsSyncedFrom s) (sym (same_spare refl)) opens.3)
      boots_refuses (Some d) (Some s) (Err (BadLog place)) opens begins same same_spare = absurd begins

      pub boots_stands : (disk spare : Option DiskLife) (result : Result KeptState OpenCause) → OpensTwin disk spare (Ok opened) mid mid_spare → LeavesAsBefore disk mid → LeavesAsBefore spare mid_spare
          → (HasLasting said log mid mid_spare → StandsOpened result disk' spare') → TellAsBefore mid mid_spare disk' spare' → StandsOpened result disk' spare'
      boots_stands (Some d) (Some s) result opens before before_spare stands tells = stands (lasting d s opens)
      boots_stands None spare result opens before before_spare stands tells = no_disk disk' (subst (λ (t : Option DiskLife). TellsAsBefore t disk') before tells.0) result
        where
          no_disk : (t : Option DiskLife) → t ≡ None → (r : Result KeptState OpenCause) → StandsOpened r t spare'
          no_disk None is (Ok k) = λ unspent. tt
          no_disk None is (Err cause) = tt
          no_disk (Some life) is r = absurd (cc (is))
      boots_stands (Some d) None result opens before before_spare stands tells = no_spare disk' spare' (subst (λ (t : Option DiskLife). TellsAsBefore t spare') before_spare tells.1) result
        where
          no_spare : (t u : Option DiskLife) → u ≡ None → (r : Result KeptState OpenCause) → StandsOpened r t u
          no_spare None u is (Ok k) = λ unspent. tt
          no_spare (Some life) None is (Ok k) = λ unspent. tt
          no_spare (Some life) (Some other) is r = absurd (cc (is))
          no_spare t u is (Err cause) = tt
