-- The journals of worked runs are sound.
use Rattle.std.proofs.Common.{◌≡◌, Bool, true, false, ◌&&◌, cond, [], ◌∷◌, ◌++◌, refl, arith, inl, inr}
use Rattle.cluster_model.specs.declared.phase.EndCause.TheVariants.{Returned, Own, Lease}
use Rattle.cluster_model.specs.Journal.{is_mirror}
use Rattle.file_rule.specs.MdsFiles.{a_uid}
use Rattle.cluster_laws.specs.Machine.{file_id}
use Rattle.cluster_laws.specs.Holders.{the_write}
use Rattle.cluster_laws.specs.WorkedRuns.{at_server, two_periods_journal, late_write_journal, own_write_journal, strays_journal, reported_journal, resilver_journal}
use Rattle.cluster_laws.specs.CopyRuns.{copy_run_journal, source_fails_journal, target_fails_journal}
use Rattle.sound_journals.specs.Marks.{UserMarks, no_marks}
use Rattle.sound_journals.specs.Views.{no_view}
use Rattle.sound_journals.specs.Sound.{First, Again, BehindClean, BehindDirty, OfPeriod, AfterEnd, AtEnd, AreSoundEntries, AreToldEntries}
use Rattle.sound_journals.proofs.Lists.{◌◂◌}

-- a write and a COMMIT of another user, at the same mirror or not
abbrev applied_by : Bool → UserMarks
applied_by b = cond (b && false) (record { here = the_write 0 (65 ∷ []) ∷ []; covered = [] }) no_marks

none_by : (b : Bool) → cond b (record { here = (applied_by b).here; covered = (applied_by b).here ++ (applied_by b).covered }) (applied_by b) ≡ no_marks
none_by true = refl
none_by false = refl

pub two_periods_sound : AreSoundEntries (file_id 1) no_view two_periods_journal
two_periods_sound =
    omega arith
    ◂ (λ is. First refl refl (refl, tt) (record { shown = refl; stable = refl; pending = tt }, tt))
    ◂ (λ is. record { free = refl; base = []; freed = refl; sent = refl; rogue = refl; causes = refl; marks = λ m. refl })
    ◂ (record { not_clean = tt; none_strayed = refl; apart = λ w is. absurd is })
    ◂ (refl, (λ is. OfPeriod refl (inl (inl refl)), tt))
    ◂ tt
    ◂ tt
    ◂ (refl, λ is. record { period = refl; covered = λ clean. (refl, ((inl refl, tt), tt)) }, λ wrong period. absurd cc)
    ◂ omega arith
    ◂ tt
    ◂ (λ is. BehindClean 65536 (record { period = refl; cause = Returned; causes = refl; is_so = refl }))
    ◂ (λ is. record { free = refl; base = 65 ∷ []; freed = refl; sent = refl; rogue = refl; causes = refl; marks = λ m. none_by (is_mirror (at_server 1 2) m) })
    ◂ (record { not_clean = tt; none_strayed = refl; apart = λ w is. absurd is })
    ◂ (refl, (λ is. OfPeriod refl (inl (inl refl)), tt))
    ◂ tt
    ◂ tt
    ◂ (refl, λ is. record { period = refl; covered = λ clean. (refl, ((inl refl, tt), tt)) }, λ wrong period. absurd cc)
    ◂ omega arith
    ◂ tt
    ◂ (λ is. BehindClean 65537 (record { period = refl; cause = Returned; causes = refl; is_so = refl }))
    ◂ tt

pub two_periods_told : AreToldEntries (file_id 1) no_view two_periods_journal
two_periods_told =
    tt ◂ tt ◂ tt ◂ tt ◂ tt ◂ tt ◂ AtEnd (record { file = file_id 1; cred = a_uid 65536; cause = Returned; more = _; are = refl; uid_is = refl; clean = refl }) ◂ tt ◂ tt ◂ tt ◂ tt ◂ tt ◂ tt ◂ tt ◂ tt ◂ AtEnd (record { file = file_id 1; cred = a_uid 65537; cause = Returned; more = _; are = refl; uid_is = refl; clean = refl }) ◂ tt ◂ tt ◂ tt ◂ tt ◂ tt

pub late_write_sound : AreSoundEntries (file_id 1) no_view late_write_journal
late_write_sound =
    omega arith
    ◂ omega arith
    ◂ (λ is. First refl refl (refl, (refl, tt)) (record { shown = refl; stable = refl; pending = tt }, (record { shown = refl; stable = refl; pending = tt }, tt)))
    ◂ (λ is. record { free = refl; base = []; freed = refl; sent = refl; rogue = refl; causes = refl; marks = λ m. refl })
    ◂ (record { not_clean = tt; none_strayed = refl; apart = λ w is. absurd is })
    ◂ (refl, λ is. record { period = refl; covered = λ clean. absurd cc }, λ wrong period. absurd cc)
    ◂ omega arith
    ◂ (refl, (λ is. absurd cc, (λ is. OfPeriod refl (inl (inl refl)), tt)))
    ◂ omega arith
    ◂ tt
    ◂ tt

pub late_write_told : AreToldEntries (file_id 1) no_view late_write_journal
late_write_told =
    tt ◂ tt ◂ tt ◂ tt ◂ tt ◂ tt ◂ tt ◂ tt ◂ tt ◂ tt ◂ tt

pub own_write_sound : AreSoundEntries (file_id 1) no_view own_write_journal
own_write_sound =
    omega arith
    ◂ (λ is. First refl refl (refl, tt) (record { shown = refl; stable = refl; pending = tt }, tt))
    ◂ (λ is. record { free = refl; base = []; freed = refl; sent = refl; rogue = refl; causes = refl; marks = λ m. refl })
    ◂ (record { not_clean = tt; none_strayed = refl; apart = λ w is. absurd is })
    ◂ (refl, (λ is. OfPeriod refl (inl (inl refl)), tt))
    ◂ tt
    ◂ tt
    ◂ (refl, λ is. record { period = refl; covered = λ clean. (refl, ((inl refl, tt), tt)) }, λ wrong period. absurd cc)
    ◂ omega arith
    ◂ tt
    ◂ (λ is. BehindClean 65536 (record { period = refl; cause = Own; causes = refl; is_so = refl }))
    ◂ tt

pub own_write_told : AreToldEntries (file_id 1) no_view own_write_journal
own_write_told =
    tt ◂ tt ◂ tt ◂ tt ◂ tt ◂ tt ◂ AtEnd (record { file = file_id 1; cred = a_uid 65536; cause = Own; more = _; are = refl; uid_is = refl; clean = refl }) ◂ tt ◂ tt ◂ tt ◂ tt ◂ tt

pub strays_sound : AreSoundEntries (file_id 1) no_view strays_journal
strays_sound =
    omega arith
    ◂ (λ is. First refl refl (refl, tt) (record { shown = refl; stable = refl; pending = tt }, tt))
    ◂ (λ is. record { free = refl; base = []; freed = refl; sent = refl; rogue = refl; causes = refl; marks = λ m. refl })
    ◂ (record { not_clean = tt; none_strayed = refl; apart = λ w is. absurd is })
    ◂ (refl, (λ is. OfPeriod refl (inl (inl refl)), tt))
    ◂ tt
    ◂ (refl, (λ is. OfPeriod refl (inr (inl refl)), tt))
    ◂ tt
    ◂ (refl, λ is. record { period = refl; covered = λ clean. absurd cc }, λ wrong period. absurd cc)
    ◂ omega arith
    ◂ tt
    ◂ tt
    ◂ (λ is. BehindDirty 65536 (record { period = refl; cause = Lease; causes = refl; is_so = refl }) ((record { shown = refl; stable = refl; pending = tt }, omega arith), tt))
    ◂ tt

pub strays_told : AreToldEntries (file_id 1) no_view strays_journal
strays_told =
    tt ◂ tt ◂ tt ◂ tt ◂ tt ◂ tt ◂ tt ◂ tt ◂ tt ◂ tt ◂ tt ◂ tt ◂ tt ◂ tt

pub reported_sound : AreSoundEntries (file_id 1) no_view reported_journal
reported_sound =
    omega arith
    ◂ omega arith
    ◂ (λ is. First refl refl (refl, (refl, tt)) (record { shown = refl; stable = refl; pending = tt }, (record { shown = refl; stable = refl; pending = tt }, tt)))
    ◂ (λ is. record { free = refl; base = []; freed = refl; sent = refl; rogue = refl; causes = refl; marks = λ m. refl })
    ◂ (record { not_clean = tt; none_strayed = refl; apart = λ w is. absurd is })
    ◂ (refl, (λ is. OfPeriod refl (inl (inl refl)), (λ is. absurd cc, tt)))
    ◂ tt
    ◂ (λ is. (refl, tt))
    ◂ (refl, λ is. record { period = refl; covered = λ clean. (refl, ((inl refl, tt), tt)) }, λ wrong period. absurd cc)
    ◂ tt
    ◂ omega arith
    ◂ tt
    ◂ (λ is. BehindClean 65536 (record { period = refl; cause = Returned; causes = refl; is_so = refl }))
    ◂ (refl, (λ is. absurd cc, tt))
    ◂ tt

pub reported_told : AreToldEntries (file_id 1) no_view reported_journal
reported_told =
    tt ◂ tt ◂ tt ◂ tt ◂ tt ◂ tt ◂ tt ◂ tt ◂ tt ◂ AfterEnd (record { cause = Returned; more = []; causes = refl; clean = refl }) ◂ tt ◂ tt ◂ tt ◂ tt ◂ tt

pub resilver_sound : AreSoundEntries (file_id 1) no_view resilver_journal
resilver_sound =
    omega arith
    ◂ omega arith
    ◂ (λ is. First refl refl (refl, (refl, tt)) (record { shown = refl; stable = refl; pending = tt }, (record { shown = refl; stable = refl; pending = tt }, tt)))
    ◂ (λ is. record { free = refl; base = []; freed = refl; sent = refl; rogue = refl; causes = refl; marks = λ m. refl })
    ◂ (record { not_clean = tt; none_strayed = refl; apart = λ w is. absurd is })
    ◂ (refl, (λ is. OfPeriod refl (inl (inl refl)), (λ is. absurd cc, tt)))
    ◂ tt
    ◂ (λ is. (refl, tt))
    ◂ tt
    ◂ (refl, λ is. record { period = refl; covered = λ clean. (refl, ((inl refl, tt), tt)) }, λ wrong period. absurd cc)
    ◂ omega arith
    ◂ tt
    ◂ (λ is. BehindClean 65536 (record { period = refl; cause = Own; causes = refl; is_so = refl }))
    ◂ tt
    ◂ omega arith
    ◂ (refl, (λ is. absurd cc, tt))
    ◂ tt
    ◂ (λ is. record { same = record { shown = refl; stable = refl; pending = tt }; fine = (refl, (refl, tt)); out = tt })
    ◂ omega arith
    ◂ omega arith
    ◂ tt
    ◂ (λ is. Again refl (65 ∷ []) refl)
    ◂ tt

pub resilver_told : AreToldEntries (file_id 1) no_view resilver_journal
resilver_told =
    tt ◂ tt ◂ tt ◂ tt ◂ tt ◂ tt ◂ tt ◂ tt ◂ AtEnd (record { file = file_id 1; cred = a_uid 65536; cause = Own; more = _; are = refl; uid_is = refl; clean = refl }) ◂ tt ◂ tt ◂ tt ◂ tt ◂ tt ◂ tt ◂ tt ◂ tt ◂ tt ◂ tt ◂ tt ◂ tt ◂ tt ◂ tt

pub copy_run_sound : AreSoundEntries (file_id 1) no_view copy_run_journal
copy_run_sound =
    omega arith
    ◂ omega arith
    ◂ (λ is. First refl refl (refl, (refl, tt)) (record { shown = refl; stable = refl; pending = tt }, (record { shown = refl; stable = refl; pending = tt }, tt)))
    ◂ (λ is. record { free = refl; base = []; freed = refl; sent = refl; rogue = refl; causes = refl; marks = λ m. refl })
    ◂ (record { not_clean = tt; none_strayed = refl; apart = λ w is. absurd is })
    ◂ (refl, (λ is. OfPeriod refl (inl (inl refl)), (λ is. absurd cc, tt)))
    ◂ (refl, λ is. record { period = refl; covered = λ clean. absurd cc }, λ wrong period. absurd cc)
    ◂ omega arith
    ◂ omega arith
    ◂ tt
    ◂ tt
    ◂ omega arith
    ◂ (refl, (λ is. absurd cc, (λ is. absurd cc, tt)))
    ◂ tt
    ◂ (λ is. record { same = record { shown = refl; stable = refl; pending = tt }; fine = (refl, (refl, tt)); out = (record { period = refl; cause = Lease; causes = refl; is_so = refl }, omega arith, omega arith) })
    ◂ omega arith
    ◂ omega arith
    ◂ tt
    ◂ (λ is. BehindDirty 65536 (record { period = refl; cause = Lease; causes = refl; is_so = refl }) ((record { shown = refl; stable = refl; pending = tt }, omega arith), ((record { shown = refl; stable = refl; pending = tt }, omega arith), tt)))
    ◂ tt

pub copy_run_told : AreToldEntries (file_id 1) no_view copy_run_journal
copy_run_told =
    tt ◂ tt ◂ tt ◂ tt ◂ tt ◂ tt ◂ tt ◂ tt ◂ tt ◂ tt ◂ tt ◂ tt ◂ tt ◂ tt ◂ tt ◂ tt ◂ tt ◂ tt ◂ tt ◂ tt

pub source_fails_sound : AreSoundEntries (file_id 1) no_view source_fails_journal
source_fails_sound =
    omega arith
    ◂ omega arith
    ◂ (λ is. First refl refl (refl, (refl, tt)) (record { shown = refl; stable = refl; pending = tt }, (record { shown = refl; stable = refl; pending = tt }, tt)))
    ◂ (λ is. record { free = refl; base = []; freed = refl; sent = refl; rogue = refl; causes = refl; marks = λ m. refl })
    ◂ (record { not_clean = tt; none_strayed = refl; apart = λ w is. absurd is })
    ◂ (refl, (λ is. OfPeriod refl (inl (inl refl)), (λ is. absurd cc, tt)))
    ◂ (refl, λ is. record { period = refl; covered = λ clean. absurd cc }, λ wrong period. absurd cc)
    ◂ omega arith
    ◂ omega arith
    ◂ tt
    ◂ tt
    ◂ omega arith
    ◂ (λ is. (refl, tt))
    ◂ tt
    ◂ (λ is. BehindDirty 65536 (record { period = refl; cause = Lease; causes = refl; is_so = refl }) ((record { shown = refl; stable = refl; pending = tt }, omega arith), tt))
    ◂ tt

pub source_fails_told : AreToldEntries (file_id 1) no_view source_fails_journal
source_fails_told =
    tt ◂ tt ◂ tt ◂ tt ◂ tt ◂ tt ◂ tt ◂ tt ◂ tt ◂ tt ◂ tt ◂ tt ◂ tt ◂ tt ◂ tt ◂ tt

pub target_fails_sound : AreSoundEntries (file_id 1) no_view target_fails_journal
target_fails_sound =
    omega arith
    ◂ omega arith
    ◂ (λ is. First refl refl (refl, (refl, tt)) (record { shown = refl; stable = refl; pending = tt }, (record { shown = refl; stable = refl; pending = tt }, tt)))
    ◂ (λ is. record { free = refl; base = []; freed = refl; sent = refl; rogue = refl; causes = refl; marks = λ m. refl })
    ◂ (record { not_clean = tt; none_strayed = refl; apart = λ w is. absurd is })
    ◂ (refl, (λ is. OfPeriod refl (inl (inl refl)), (λ is. absurd cc, tt)))
    ◂ (refl, λ is. record { period = refl; covered = λ clean. absurd cc }, λ wrong period. absurd cc)
    ◂ omega arith
    ◂ omega arith
    ◂ tt
    ◂ tt
    ◂ (λ is. (refl, tt))
    ◂ (λ is. BehindDirty 65536 (record { period = refl; cause = Lease; causes = refl; is_so = refl }) ((record { shown = refl; stable = refl; pending = tt }, omega arith), tt))
    ◂ omega arith
    ◂ tt

pub target_fails_told : AreToldEntries (file_id 1) no_view target_fails_journal
target_fails_told =
    tt ◂ tt ◂ tt ◂ tt ◂ tt ◂ tt ◂ tt ◂ tt ◂ tt ◂ tt ◂ tt ◂ tt ◂ tt ◂ tt ◂ tt
