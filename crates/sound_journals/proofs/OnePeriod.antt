-- The journal of one period is sound.
use Rattle.std.proofs.Common.{◌≡◌, Bool, true, false, ◌||◌, List, [], ◌∷◌, refl, subst, arith, inl}
use Rattle.cluster_model.specs.declared.ids.MirrorId.{MirrorId}
use Rattle.cluster_model.specs.declared.ids.NodeId.TheVariants.{Client}
use Rattle.cluster_model.specs.declared.phase.EndCause.TheVariants.{Returned}
use Rattle.cluster_model.specs.declared.entry.Entry.{Entry}
use Rattle.cluster_model.specs.declared.entry.Entry.TheVariants.{Granted, Sent, Free, Applied, Committed, Owner}
use Rattle.cluster_model.specs.Journal.{is_mirror}
use Rattle.file_rule.specs.MdsFiles.{a_uid}
use Rattle.cluster_laws.specs.Machine.{file_id}
use Rattle.cluster_laws.specs.WorkedRuns.{at_server}
use Rattle.cluster_laws.specs.Holders.{IsIn, the_write}
use Rattle.sound_journals.specs.Marks.{marks_of}
use Rattle.sound_journals.specs.Views.{no_view}
use Rattle.sound_journals.specs.Sound.{First, BehindClean, OfPeriod, AtAll, AreSoundEntries, AreToldEntries}
use Rattle.sound_journals.specs.SoundRuns.{one_period_journal}
use Rattle.sound_journals.proofs.Lists.{◌◂◌}
use Rattle.sound_journals.proofs.Turns.{mirror_is}

-- one of two mirrors
of_two : (a b m : MirrorId) (P : MirrorId → Type 0) → ((is_mirror a m || (is_mirror b m || false)) || false) ≡ true → P a → P b → P m
of_two a b m P = by_tests (is_mirror a m) (is_mirror b m) (λ e. mirror_is a m e) (λ e. mirror_is b m e)
  where
    by_tests : (s t : Bool) → (s ≡ true → a ≡ m) → (t ≡ true → b ≡ m) → ((s || (t || false)) || false) ≡ true → P a → P b → P m
    by_tests true t first second there x y = subst P (first refl) x
    by_tests false true first second there x y = subst P (second refl) y
    by_tests false false first second there x y = absurd cc

-- the entries before the write is told
abbrev one_told : List Entry
one_told =
    Owner (at_server 1 2) (a_uid 65536)
    ∷ Owner (at_server 2 2) (a_uid 65536)
    ∷ Free (file_id 1) (at_server 1 2 ∷ at_server 2 2 ∷ [])
    ∷ Granted (file_id 1) (a_uid 65536) (Client 1)
    ∷ Sent (file_id 1) (a_uid 65536) 0 (65 ∷ [])
    ∷ Applied (at_server 1 2) (a_uid 65536) 0 (65 ∷ [])
    ∷ Applied (at_server 2 2) (a_uid 65536) 0 (65 ∷ [])
    ∷ Committed (at_server 1 2)
    ∷ Committed (at_server 2 2)
    ∷ []

pub one_period_sound : AreSoundEntries (file_id 1) no_view one_period_journal
one_period_sound =
    omega arith
    ◂ omega arith
    ◂ (λ is. First refl refl (refl, (refl, tt)) (record { shown = refl; stable = refl; pending = tt }, (record { shown = refl; stable = refl; pending = tt }, tt)))
    ◂ (λ is. record { free = refl; base = []; freed = refl; sent = refl; rogue = refl; causes = refl; marks = λ m. refl })
    ◂ (record { not_clean = tt; none_strayed = refl; apart = λ w is. absurd is })
    ◂ (refl, (λ is. OfPeriod refl (inl (inl refl)), (λ is. absurd cc, tt)))
    ◂ (refl, (λ is. absurd cc, (λ is. OfPeriod refl (inl (inl refl)), tt)))
    ◂ tt
    ◂ tt
    ◂ tt
    ◂ (refl, λ is. record { period = refl; covered = λ clean. (refl, ((inl refl, tt), ((inl refl, tt), tt))) }, λ wrong period. absurd cc)
    ◂ omega arith
    ◂ omega arith
    ◂ tt
    ◂ (λ is. BehindClean 65536 (record { period = refl; cause = Returned; causes = refl; is_so = refl }))
    ◂ tt

pub one_period_told : AreToldEntries (file_id 1) no_view one_period_journal
one_period_told =
    tt ◂ tt ◂ tt ◂ tt ◂ tt ◂ tt ◂ tt ◂ tt ◂ tt ◂ AtAll (record { some = omega arith; sent = inl refl; covered = λ m there. of_two (at_server 1 2) (at_server 2 2) m (λ k. IsIn (the_write 0 (65 ∷ [])) (marks_of one_told 65536 k).covered) there (inl refl) (inl refl) }) ◂ tt ◂ tt ◂ tt ◂ tt ◂ tt ◂ tt
