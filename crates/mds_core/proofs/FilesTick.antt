-- A file that is still is left by a tick as it is, so it is passed over.
use Rattle.std.proofs.Common.{◌≡◌, ℕ, ◌+◌, ◌-◌, ◌<◌, ◌≤◌, ◌%◌, ◌^◌, Bool, true, false, cond, List, [], ◌∷◌, length, set, Option, Some, None, refl, sym, ap, subst, ◌∙◌, arith}
use Rattle.std.specs.Prelude.{slice_get}
use Rattle.std.proofs.lemmas.List.{length-set}
use Rattle.cluster_model.specs.declared.ids.FileId.{FileId}
use Rattle.cluster_model.specs.declared.entry.Entry.{Entry}
use Rattle.cluster_model.specs.declared.outbox.Outbox.{Outbox}
use Rattle.file_rule.specs.declared.fresh.Fresh.{Fresh}
use Rattle.file_rule.specs.MdsFiles.{MdsFile, Activity, FileStep, stays}
use Rattle.file_rule.specs.FilePhases.{FileInput, Ticks, ticked, phase}
use Rattle.std.specs.List.{list_any}
use Rattle.recall.specs.Recalls.{without_file}
use Rattle.mds_rule.specs.MdsStates.{ServedFile, MdsValue, MdsStep, sends_none, served, served_in, with_file, numbered}
use Rattle.mds_rule.specs.ServedFiles.{has_fresh, is_period_end, file_behind, file_stepped, recalls_behind, input_at, takes_input}
use Rattle.compound_run.specs.CompoundRuns.{HasMadeStep}
use Rattle.served_files.specs.Quiet.{IsFileStill, AreStill}
use Rattle.mds_sends.proofs.GoesOwn.{either_none, with_same}

-- ---- a file that is still

module _ (s : ServedFile) (still : IsFileStill s) where
  abbrev step : FileStep
  step = stays s.file.layout (ticked s.file.activity)

  stays_so : file_behind s step ≡ s
  stays_so =
      let count : s.periods + 0 ≡ s.periods = omega arith in
      let periods : (s.periods + 0) % (2 ^ 64) ≡ s.periods = ap (λ (n : ℕ). n % (2 ^ 64)) count ∙ still.periods in
      ap (λ (a : Activity). file_behind s (stays s.file.layout a)) still.activity
      ∙ ap (λ (n : ℕ). record (file_behind s (stays s.file.layout s.file.activity)) { periods = n }) periods
      ∙ ap (λ l. record (file_behind s (stays s.file.layout s.file.activity)) { periods = s.periods; sizes = l }) still.sizes
      ∙ ap (λ h. record s { holder = h }) still.holder

  tick_none : (m : MdsValue) (file : FileId) → served m file ≡ Some s → takes_input m file Ticks ≡ sends_none m
  tick_none m file is = ap (input_at m file Ticks) is ∙ ap (λ (x : MdsStep). cond (has_fresh m.fresh) x (sends_none m)) stepped ∙ either_none (has_fresh m.fresh) (sends_none m)
    where
      drawn_none : (fresh : Fresh) → ◌≡◌ {A = Fresh} (record { uid = fresh.uid + 0; name = fresh.name + 0; servers = fresh.servers }) fresh
      drawn_none fresh =
          let uid : fresh.uid + 0 ≡ fresh.uid = omega arith in
          let name : fresh.name + 0 ≡ fresh.name = omega arith in
          ap (λ (n : ℕ). record { uid = n; name = fresh.name + 0; servers = fresh.servers }) uid ∙ ap (λ (n : ℕ). record fresh { name = n }) name

      stepped : file_stepped m file s (phase file s.file Ticks m.fresh) ≡ sends_none m
      stepped =
          ap (λ (f : Fresh). sends_none (record m { fresh = f; files = with_file m.files file (file_behind s step) })) (drawn_none m.fresh)
          ∙ ap (λ (t : ServedFile). sends_none (record m { files = with_file m.files file t })) stays_so
          ∙ ap (λ (files : List ServedFile). sends_none (record m { files = files })) (with_same m.files file s is)

pub still_ticks : (m : MdsValue) (from end : ℕ) → AreStill m.files from end → (n : ℕ) → from ≤ n → n < end → takes_input m (numbered n) Ticks ≡ sends_none m
still_ticks m from end still n behind before = by_file (served m (numbered n)) refl
  where
    by_file : (o : Option ServedFile) → served m (numbered n) ≡ o → takes_input m (numbered n) Ticks ≡ sends_none m
    by_file None is = ap (input_at m (numbered n) Ticks) is
    by_file (Some s) is = tick_none s (still (numbered n) s behind before is) m (numbered n) is

-- ---- how many files there are

same_recalls : (m : MdsValue) (file : FileId) (entries : List Entry) → (recalls_behind m file entries).files ≡ m.files
same_recalls m file entries = by_test (list_any is_period_end entries)
  where
    by_test : (b : Bool) → (cond b (record m { recalls = without_file file m.recalls }) m).files ≡ m.files
    by_test true = refl
    by_test false = refl

pub input_length : (m : MdsValue) (file : FileId) (input : FileInput) → length (takes_input m file input).mds.files ≡ length m.files
input_length m file input = by_file (served m file)
  where
    by_fresh : (s : ServedFile) (b : Bool) → length (cond b (file_stepped m file s (phase file s.file input m.fresh)) (sends_none m)).mds.files ≡ length m.files
    by_fresh s true =
        let step = phase file s.file input m.fresh in
        ap (λ (files : List ServedFile). length files) (same_recalls _ file step.entries) ∙ length-set m.files (file.0 - 1) (file_behind s step)
    by_fresh s false = refl

    by_file : (o : Option ServedFile) → length (input_at m file input o).mds.files ≡ length m.files
    by_file None = refl
    by_file (Some s) = by_fresh s (has_fresh m.fresh)
