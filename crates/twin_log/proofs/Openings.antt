-- The log that two files have between them is found.
use Rattle.std.proofs.Common.{◌≡◌, ℕ, ◌<◌, true, false, List, length, drop, Option, Some, None, Result, Ok, Err, refl, sym, ap, subst, ◌∙◌, arith, inl, inr}
use Rattle.std.proofs.lemmas.Bool.{cases_lt}
use Rattle.std.proofs.lemmas.List.{length-drop}
use Rattle.gate_log.proofs.LogLemmas.{few_log}
use Rattle.store_disk.specs.Disks.{DiskLife}
use Rattle.gate_log.specs.Logs.{Log, Closed, gate_of, log_of, log_size}
use Rattle.gate_log.specs.Appends.{IsSynced}
use Rattle.gate_log.proofs.GateLemmas.{closed_some}
use Rattle.twin_log.specs.declared.side.Side.TheVariants.{Disk, Spare}
use Rattle.twin_log.specs.declared.fault.LogCause.{LogCause}
use Rattle.twin_log.specs.declared.fault.LogCause.TheVariants as cause
use Rattle.twin_log.specs.declared.kept_log.FileHead.{FileHead}
use Rattle.twin_log.specs.Twins.{LogHolder, Neither, On, Both, TwinLog, New, Has, Bad, file_says, first_generation, first_place, generation_by, generation_of, log_holder, says_by, twin_log, without_generation}
use Rattle.twin_log.specs.KeptLogs.{HoldsFile, IsGenerationBelow, KeptLogState, StandsPassed, StandsTwin, new_pair}
use Rattle.twin_log.specs.Opening.{BeginsAs, HeadOf, OpensFile, OpensSide, opened_on}
use Rattle.twin_log.specs.LogCalls.{FindsAs, FindsTwin}
use Rattle.twin_log.proofs.Holders.{Passes, disk_has, neither_has, spare_has}
use Rattle.twin_log.proofs.Files.{generation_some, whole_is}

-- what the two files say, by which has the log
says_so : (a b : List ℕ) (ours theirs : FileHead) (h : LogHolder) → BeginsAs a ours → BeginsAs b theirs → log_holder ours.generation theirs.generation ≡ h → twin_log a b ≡ says_by h (log_of a) (log_of b)
says_so a b ours theirs h first second is =
    ap (λ (x : LogHolder). says_by x (log_of a) (log_of b))
    (ap (λ (g : Option ℕ). log_holder g (generation_of (log_of b))) (sym first.generation) ∙ ap (λ (g : Option ℕ). log_holder ours.generation g) (sym second.generation) ∙ is)

-- a file that has a generation has more than one byte
many_of : (bytes : List ℕ) (g : ℕ) → generation_of (log_of bytes) ≡ Some g → 1 < length bytes
many_of bytes g is = elim (cases_lt 1 (length bytes)) [
  | inl many ↦ many
  | inr few ↦ let none : generation_of (log_of bytes) ≡ None = ap generation_of (few_log bytes few) in absurd (cc (is, none))
]

-- the file that has it
module _ (head : FileHead) (life : DiskLife) (begins : BeginsAs life.now.seen head) (synced : IsSynced life) (other : Option ℕ) (passes : Passes head.generation other) where
  abbrev log : Log
  log = log_of life.now.seen

  has_generation : log.is_whole ≡ true → (generation_by log.bodies true ≡ Some passes.generation) × (first_generation log.bodies ≡ passes.generation)
  has_generation whole = generation_some log.bodies log.is_whole passes.generation (sym begins.generation ∙ passes.is) whole

  pub generation_is : log.is_whole ≡ true → head.generation ≡ Some (first_generation log.bodies)
  generation_is whole = passes.is ∙ ap (λ (g : ℕ). Some g) (sym (has_generation whole).1)

  pub many : 1 < length life.now.seen
  many = many_of life.now.seen passes.generation (sym begins.generation ∙ passes.is)

  pub holds : log.is_whole ≡ true → (1 < length life.now.seen → gate_of (drop (log_size log.bodies) life.now.seen) ≡ Closed) → HoldsFile (Some life) (first_generation log.bodies) (first_place log.bodies) (without_generation log.bodies) (log_size log.bodies) head.size
  holds whole closed =
      let end : ℕ = log_size log.bodies in
      let shut = closed many in
      record {
        all = log.bodies;
        log = record { synced = synced; log = whole_is log whole; end_is = refl; within = omega (arith, closed_some (drop end life.now.seen) shut, length-drop end life.now.seen); closed = shut };
        says = record { generation_is = let both = has_generation whole in both.0 ∙ ap (λ (g : ℕ). Some g) (sym both.1); start_is = refl; bodies_are = refl };
        size_is = sym begins.size;
      }

  pub says_whole : log.is_whole ≡ true → file_says log ≡ Has (first_generation log.bodies) (first_place log.bodies) (without_generation log.bodies)
  says_whole whole = rw whole refl

  pub says_cut : log.is_whole ≡ false → file_says log ≡ Bad (log_size log.bodies)
  says_cut cut = rw cut refl

-- what is passed
stands_passed : (own : Option ℕ) (life : DiskLife) (head : FileHead) → BeginsAs life.now.seen head → IsSynced life → IsGenerationBelow own head.generation → StandsPassed own (Some life)
stands_passed own life head begins synced below = (synced, subst (IsGenerationBelow own) begins.generation below)

pub finds_none : (disk spare : Option DiskLife) (ours theirs : FileHead) (log : KeptLogState) → HeadOf disk (Ok ours) → HeadOf spare (Ok theirs) → log_holder ours.generation theirs.generation ≡ Neither → log ≡ new_pair
    → FindsTwin disk spare (Ok log)
finds_none None spare ours theirs log first second h is = tt
finds_none (Some a) None ours theirs log first second h is = tt
finds_none (Some a) (Some b) ours theirs log first second h is = λ sa sb.
    let none = neither_has ours.generation theirs.generation h in
    let below_disk : IsGenerationBelow None ours.generation = subst (IsGenerationBelow None) (sym none.0) tt in
    let below_spare : IsGenerationBelow None theirs.generation = subst (IsGenerationBelow None) (sym none.1) tt in
    let stands : StandsTwin new_pair New (Some a) (Some b) = record {
      generation_is = refl;
      own = stands_passed None b theirs second sb below_spare;
      other = stands_passed None a ours first sa below_disk;
      none_waits = refl;
      none_renews = refl;
    } in
    let says = says_so a.now.seen b.now.seen ours theirs Neither first second h in
    subst (λ (l : KeptLogState). FindsAs (twin_log a.now.seen b.now.seen) a b (Ok l)) (sym is) (subst (λ (t : TwinLog). FindsAs t a b (Ok new_pair)) (sym says) (stands, tt))

pub finds_both : (disk spare : Option DiskLife) (ours theirs : FileHead) → HeadOf disk (Ok ours) → HeadOf spare (Ok theirs) → log_holder ours.generation theirs.generation ≡ Both → FindsTwin disk spare (Err (cause.BadLog 0))
finds_both None spare ours theirs first second h = tt
finds_both (Some a) None ours theirs first second h = tt
finds_both (Some a) (Some b) ours theirs first second h = λ sa sb. says_so a.now.seen b.now.seen ours theirs Both first second h

module _ (ours theirs : FileHead) where
  pub finds_disk : (disk spare : Option DiskLife) (result : Result KeptLogState LogCause) → HeadOf disk (Ok ours) → HeadOf spare (Ok theirs) → log_holder ours.generation theirs.generation ≡ On Disk → OpensSide Disk ours disk result
      → FindsTwin disk spare result
  finds_disk None spare result first second h opens = tt
  finds_disk (Some a) None result first second h opens = tt
  finds_disk (Some a) (Some b) result first second h opens = λ sa sb.
      subst (λ (t : TwinLog). FindsAs t a b result) (sym (says_so a.now.seen b.now.seen ours theirs (On Disk) first second h)) (by_result result (opens first.size) sa sb)
    where
      passes : Passes ours.generation theirs.generation
      passes = disk_has ours.generation theirs.generation h

      by_result : (r : Result KeptLogState LogCause) → OpensFile Disk ours a.now.seen r → IsSynced a → IsSynced b → FindsAs (file_says (log_of a.now.seen)) a b r
      by_result (Ok log) o sa sb =
          let is = generation_is ours a first sa theirs.generation passes o.1 in
          let stands : StandsTwin (opened_on Disk ours (log_size (log_of a.now.seen).bodies)) (Has (first_generation (log_of a.now.seen).bodies) (first_place (log_of a.now.seen).bodies) (without_generation (log_of a.now.seen).bodies)) (Some a) (Some b) = record {
            generation_is = is;
            own = holds ours a first sa theirs.generation passes o.1 o.2;
            other = stands_passed ours.generation b theirs second sb passes.below;
            none_waits = refl;
            none_renews = refl;
          } in
          subst (λ (l : KeptLogState). FindsAs (file_says (log_of a.now.seen)) a b (Ok l)) (sym o.0)
          (subst (λ (t : TwinLog). FindsAs t a b (Ok (opened_on Disk ours (log_size (log_of a.now.seen).bodies)))) (sym (says_whole ours a first sa theirs.generation passes o.1)) (stands, (first.start, refl)))
      by_result (Err (cause.BadLog place)) o sa sb = says_cut ours a first sa theirs.generation passes o.0 ∙ ap (λ (p : ℕ). Bad p) (sym o.1)
      by_result (Err cause.Disk) o sa sb = tt
      by_result (Err cause.NoMemory) o sa sb = tt

  pub finds_spare : (disk spare : Option DiskLife) (result : Result KeptLogState LogCause) → HeadOf disk (Ok ours) → HeadOf spare (Ok theirs) → log_holder ours.generation theirs.generation ≡ On Spare → OpensSide Spare theirs spare result
      → FindsTwin disk spare result
  finds_spare None spare result first second h opens = tt
  finds_spare (Some a) None result first second h opens = tt
  finds_spare (Some a) (Some b) result first second h opens = λ sa sb.
      subst (λ (t : TwinLog). FindsAs t a b result) (sym (says_so a.now.seen b.now.seen ours theirs (On Spare) first second h)) (by_result result (opens second.size) sa sb)
    where
      passes : Passes theirs.generation ours.generation
      passes = spare_has ours.generation theirs.generation h

      by_result : (r : Result KeptLogState LogCause) → OpensFile Spare theirs b.now.seen r → IsSynced a → IsSynced b → FindsAs (file_says (log_of b.now.seen)) a b r
      by_result (Ok log) o sa sb =
          let is = generation_is theirs b second sb ours.generation passes o.1 in
          let stands : StandsTwin (opened_on Spare theirs (log_size (log_of b.now.seen).bodies)) (Has (first_generation (log_of b.now.seen).bodies) (first_place (log_of b.now.seen).bodies) (without_generation (log_of b.now.seen).bodies)) (Some a) (Some b) = record {
            generation_is = is;
            own = holds theirs b second sb ours.generation passes o.1 o.2;
            other = stands_passed theirs.generation a ours first sa passes.below;
            none_waits = refl;
            none_renews = refl;
          } in
          subst (λ (l : KeptLogState). FindsAs (file_says (log_of b.now.seen)) a b (Ok l)) (sym o.0)
          (subst (λ (t : TwinLog). FindsAs t a b (Ok (opened_on Spare theirs (log_size (log_of b.now.seen).bodies)))) (sym (says_whole theirs b second sb ours.generation passes o.1)) (stands, (second.start, refl)))
      by_result (Err (cause.BadLog place)) o sa sb = says_cut theirs b second sb ours.generation passes o.0 ∙ ap (λ (p : ℕ). Bad p) (sym o.1)
      by_result (Err cause.Disk) o sa sb = tt
      by_result (Err cause.NoMemory) o sa sb = tt
