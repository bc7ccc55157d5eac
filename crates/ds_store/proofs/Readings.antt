-- The bodies of a log are read one by one, and say a server.
use Rattle.std.proofs.Common.{◌≡◌, ℕ, ◌+◌, Bool, true, false, List, [], ◌∷◌, ◌++◌, length, append-nil, Option, Some, None, Result, Ok, Err, sym, ap, subst, ◌∙◌, arith}
use Rattle.std.specs.Prelude.{⊤}
use Rattle.std.proofs.lemmas.List.{append_assoc}
use Rattle.cluster_model.specs.Server.{ServerState}
use Rattle.store_disk.specs.Disks.{DiskLife}
use Rattle.gate_log.specs.Logs.{log_size}
use Rattle.twin_log.specs.declared.fault.LogCause.{LogCause}
use Rattle.twin_log.specs.declared.fault.LogCause.TheVariants as log_cause
use Rattle.twin_log.specs.declared.side.Side.{Side}
use Rattle.twin_log.specs.declared.side.Side.TheVariants as side
use Rattle.twin_log.specs.Twins.{TwinLog, New, Has, Bad, at_side}
use Rattle.twin_log.specs.KeptLogs.{KeptLogState, StandsTwin}
use Rattle.twin_log.specs.LogCalls.{IsAtFirst, IsReadTo, ReadsOn, ReadsTwin, WhereTold}
use Rattle.ds_log.specs.Applies.{Applies}
use Rattle.ds_log.specs.Durable.{applied_bytes, played, unbooted}
use Rattle.ds_log.proofs.Plays.{played_push, played_bad}
use Rattle.ds_log.proofs.Lasts.{played_lasts, unbooted_lasts}
use Rattle.ds_store.specs.declared.fault.OpenCause.TheVariants.{BadLog}
use Rattle.ds_store.specs.Opens.{cause_of_log}
use Rattle.ds_store.specs.Reading.{HasSaid, ReadsWhole, ReadsLog}
use Rattle.ds_store.proofs.Numbers.{played_number}

-- So many bodies of the log were read, and they say this server.
pub record HasPlayed (number generation start : ℕ) (bodies : List (List ℕ)) (disk spare : DiskLife) (log : KeptLogState) (s : ServerState) : Type 0 where
  pub done : List (List ℕ)
  pub rest : List (List ℕ)
  pub split : bodies ≡ done ++ rest
  pub read : IsReadTo start done log
  pub says : played (unbooted number) start done ≡ Ok s
  pub stands : StandsTwin log (Has generation start bodies) (Some disk) (Some spare)

-- where nothing is said, nothing is read
abbrev pub Played : ℕ → TwinLog → DiskLife → DiskLife → KeptLogState → ServerState → Type 0
Played number New disk spare log s = ⊥
Played number (Has generation start bodies) disk spare log s = HasPlayed number generation start bodies disk spare log s
Played number (Bad place) disk spare log s = ⊥

-- the same behind a log whose first body was the next, on disks that may tell nothing
abbrev pub PlayedLog : ℕ → KeptLogState → Option DiskLife → Option DiskLife → KeptLogState → ServerState → Type 0
PlayedLog number old None spare log s = ⊤
PlayedLog number old (Some disk) None log s = ⊤
PlayedLog number old (Some disk) (Some spare) log s = (says : TwinLog) → StandsTwin old says (Some disk) (Some spare) → IsAtFirst says old → Played number says disk spare log s

-- ---- a step

-- where both disks tell, that of a side does
told_both : (x : Side) (disk spare : DiskLife) (P : Type 0) → WhereTold (at_side x (Some disk) (Some spare)) P → P
told_both side.Disk disk spare P h = h
told_both side.Spare disk spare P h = h

-- where the next body stands is not looked at
moved : (log : KeptLogState) (next place generation start : ℕ) (bodies : List (List ℕ)) (disk spare : Option DiskLife) → StandsTwin log (Has generation start bodies) disk spare
    → StandsTwin (record log { next = next; place = place }) (Has generation start bodies) disk spare
moved log next place generation start bodies disk spare stands = record {
  generation_is = stands.generation_is;
  own = stands.own;
  other = stands.other;
  none_waits = stands.none_waits;
  none_renews = stands.none_renews;
}

size_push : (done : List (List ℕ)) (body : List ℕ) → log_size (done ++ body ∷ []) ≡ log_size done + (5 + length body)
size_push [] body = omega arith
size_push (first ∷ done) body = omega (arith, size_push done body)

module _ (number generation start : ℕ) (bodies : List (List ℕ)) (disk spare : DiskLife) (log : KeptLogState) (s : ServerState) (p : HasPlayed number generation start bodies disk spare log s) (body : List ℕ) (new : KeptLogState) where
  reads_of : (result : Result Bool LogCause) → ReadsTwin log (Some disk) (Some spare) result body new → ReadsOn start p.done p.rest log result body new
  reads_of result reads =
      told_both log.side disk spare (ReadsOn start p.done p.rest log result body new)
      (reads generation start p.done p.rest (subst (λ (bs : List (List ℕ)). StandsTwin log (Has generation start bs) (Some disk) (Some spare)) p.split p.stands) p.read)

  -- there was none more
  ended : ReadsOn start p.done p.rest log (Ok false) body new → ReadsWhole number (Has generation start bodies) (Some disk) (Some spare) (Ok s) new
  ended reads =
      let all : bodies ≡ p.done = p.split ∙ ap (λ (rest : List (List ℕ)). p.done ++ rest) reads.0 ∙ append-nil p.done in
      let here : HasSaid number (Has generation start bodies) s = record {
        said = subst (λ (bs : List (List ℕ)). played (unbooted number) start bs ≡ Ok s) (sym all) p.says;
        numbered = played_number (unbooted number) s start p.done p.says;
        lasts = played_lasts (unbooted number) s start p.done (unbooted_lasts number) p.says;
      } in
      (here, subst (λ (l : KeptLogState). StandsTwin l (Has generation start bodies) (Some disk) (Some spare)) (sym reads.1) p.stands)

  -- one more, which fits
  more : (next : ServerState) → ReadsOn start p.done p.rest log (Ok true) body new → applied_bytes s body ≡ Some next → HasPlayed number generation start bodies disk spare new next
  more next (behind, is, new_is) made =
      let later : new.next ≡ log.next + (5 + length body) = ap (λ (l : KeptLogState). l.next) new_is in
      record {
        done = p.done ++ body ∷ [];
        rest = behind;
        split = p.split ∙ ap (λ (rest : List (List ℕ)). p.done ++ rest) is ∙ sym (append_assoc p.done (body ∷ []) behind);
        read = omega (arith, later, p.read, size_push p.done body);
        says = played_push (unbooted number) s next start p.done body p.says made;
        stands = subst (λ (l : KeptLogState). StandsTwin l (Has generation start bodies) (Some disk) (Some spare)) (sym new_is)
            (moved log (log.next + (5 + length body)) log.next generation start bodies (Some disk) (Some spare) p.stands);
      }

  -- one more, which does not
  unfit : ReadsOn start p.done p.rest log (Ok true) body new → applied_bytes s body ≡ None → played (unbooted number) start bodies ≡ Err new.place
  unfit (behind, is, new_is) none =
      let bad : played (unbooted number) start (p.done ++ body ∷ behind) ≡ Err (start + log_size p.done) = played_bad (unbooted number) s start p.done behind body p.says none in
      let all : bodies ≡ p.done ++ body ∷ behind = p.split ∙ ap (λ (rest : List (List ℕ)). p.done ++ rest) is in
      let place : start + log_size p.done ≡ new.place = sym p.read ∙ sym (ap (λ (l : KeptLogState). l.place) new_is) in
      ap (played (unbooted number) start) all ∙ bad ∙ ap (λ (k : ℕ). Err k) place

-- ---- a log, on disks that may tell nothing

module _ (number : ℕ) (old log : KeptLogState) (s : ServerState) (body : List ℕ) (new : KeptLogState) where
  fails_as : (e : LogCause) (says : TwinLog) (disk spare : DiskLife) → Played number says disk spare log s → ReadsTwin log (Some disk) (Some spare) (Err e) body new → ReadsWhole number says (Some disk) (Some spare) (Err (cause_of_log e)) new
  fails_as log_cause.Disk says disk spare p reads = tt
  fails_as log_cause.NoMemory says disk spare p reads = tt
  fails_as (log_cause.BadLog place) New disk spare p reads = absurd p
  fails_as (log_cause.BadLog place) (Has generation start bodies) disk spare p reads = absurd (reads_of number generation start bodies disk spare log s p body new (Err (log_cause.BadLog place)) reads)
  fails_as (log_cause.BadLog place) (Bad at) disk spare p reads = absurd p

  -- a reading failed
  pub reads_fails : (disk spare : Option DiskLife) (e : LogCause) → PlayedLog number old disk spare log s → ReadsTwin log disk spare (Err e) body new → ReadsLog number old disk spare (Err (cause_of_log e)) new
  reads_fails None spare e p reads = tt
  reads_fails (Some disk) None e p reads = tt
  reads_fails (Some disk) (Some spare) e p reads = λ says stands first. fails_as e says disk spare (p says stands first) reads

  ended_as : (says : TwinLog) (disk spare : DiskLife) → Played number says disk spare log s → ReadsTwin log (Some disk) (Some spare) (Ok false) body new → ReadsWhole number says (Some disk) (Some spare) (Ok s) new
  ended_as New disk spare p reads = absurd p
  ended_as (Has generation start bodies) disk spare p reads = ended number generation start bodies disk spare log s p body new (reads_of number generation start bodies disk spare log s p body new (Ok false) reads)
  ended_as (Bad place) disk spare p reads = absurd p

  -- all was read
  pub reads_ended : (disk spare : Option DiskLife) → PlayedLog number old disk spare log s → ReadsTwin log disk spare (Ok false) body new → ReadsLog number old disk spare (Ok s) new
  reads_ended None spare p reads = tt
  reads_ended (Some disk) None p reads = tt
  reads_ended (Some disk) (Some spare) p reads = λ says stands first. ended_as says disk spare (p says stands first) reads

  bad_as : (says : TwinLog) (disk spare : DiskLife) → Played number says disk spare log s → ReadsTwin log (Some disk) (Some spare) (Ok true) body new → applied_bytes s body ≡ None → ReadsWhole number says (Some disk) (Some spare) (Err (BadLog new.place)) new
  bad_as New disk spare p reads none = absurd p
  bad_as (Has generation start bodies) disk spare p reads none = unfit number generation start bodies disk spare log s p body new (reads_of number generation start bodies disk spare log s p body new (Ok true) reads) none
  bad_as (Bad place) disk spare p reads none = absurd p

  -- a body does not fit
  pub reads_bad : (disk spare : Option DiskLife) → PlayedLog number old disk spare log s → ReadsTwin log disk spare (Ok true) body new → applied_bytes s body ≡ None → ReadsLog number old disk spare (Err (BadLog new.place)) new
  reads_bad None spare p reads none = tt
  reads_bad (Some disk) None p reads none = tt
  reads_bad (Some disk) (Some spare) p reads none = λ says stands first. bad_as says disk spare (p says stands first) reads none

  more_as : (next : ServerState) (says : TwinLog) (disk spare : DiskLife) → Played number says disk spare log s → ReadsTwin log (Some disk) (Some spare) (Ok true) body new → applied_bytes s body ≡ Some next → Played number says disk spare new next
  more_as next New disk spare p reads made = absurd p
  more_as next (Has generation start bodies) disk spare p reads made = more number generation start bodies disk spare log s p body new next (reads_of number generation start bodies disk spare log s p body new (Ok true) reads) made
  more_as next (Bad place) disk spare p reads made = absurd p

  -- a body fits
  pub played_more : (next : ServerState) (disk spare : Option DiskLife) → PlayedLog number old disk spare log s → ReadsTwin log disk spare (Ok true) body new → applied_bytes s body ≡ Some next → PlayedLog number old disk spare new next
  played_more next None spare p reads made = tt
  played_more next (Some disk) None p reads made = tt
  played_more next (Some disk) (Some spare) p reads made = λ says stands first. more_as next says disk spare (p says stands first) reads made

-- ---- as the code has it

-- the same of disks that tell the same
pub reads_told : (log : KeptLogState) (result : Result Bool LogCause) (body : List ℕ) (new : KeptLogState) (disk spare disk' spare' : Option DiskLife) → disk' ≡ disk → spare' ≡ spare → ReadsTwin log disk' spare' result body new
    → ReadsTwin log disk spare result body new
reads_told log result body new disk spare disk' spare' same same_spare reads =
    subst (λ (t : Option DiskLife). ReadsTwin log disk t result body new) same_spare (subst (λ (t : Option DiskLife). ReadsTwin log t spare' result body new) same reads)

pub read_is : (log : KeptLogState) (is_one : Bool) (wanted : Bool) (body : List ℕ) (new : KeptLogState) (disk spare : Option DiskLife) → is_one ≡ wanted → ReadsTwin log disk spare (Ok is_one) body new → ReadsTwin log disk spare (Ok wanted) body new
read_is log is_one wanted body new disk spare is reads = subst (λ (b : Bool). ReadsTwin log disk spare (Ok b) body new) is reads

pub fits_so : (s : ServerState) (seen body : List ℕ) (fits : Bool) (new : ServerState) → seen ≡ body → fits ≡ true → Applies s seen fits new → applied_bytes s body ≡ Some new
fits_so s seen body fits new same is applies = ap (applied_bytes s) (sym same) ∙ subst (λ (b : Bool). Applies s seen b new) is applies

pub fits_not : (s : ServerState) (seen body : List ℕ) (fits : Bool) (new : ServerState) → seen ≡ body → fits ≡ false → Applies s seen fits new → applied_bytes s body ≡ None
fits_not s seen body fits new same is applies = ap (applied_bytes s) (sym same) ∙ (subst (λ (b : Bool). Applies s seen b new) is applies).0
