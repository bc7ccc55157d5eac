-- A journal whose entries are sound, told ones too, agrees always.
use Rattle.std.proofs.Common.{◌≡◌, ℕ, Bool, true, false, List, [], ◌∷◌, ◌++◌, Some, None, sym, ap, subst, ◌∙◌}
use Rattle.std.specs.List.{AllByRecursion}
use Rattle.std.proofs.lemmas.Bool.{cond-true}
use Rattle.std.proofs.lemmas.Option.{same_Some}
use Rattle.cluster_model.specs.declared.ids.FileId.{FileId}
use Rattle.cluster_model.specs.declared.ids.MirrorId.{MirrorId}
use Rattle.cluster_model.specs.declared.entry.Entry.{Entry}
use Rattle.cluster_model.specs.declared.entry.Entry.TheVariants.{Free}
use Rattle.cluster_model.specs.Content.{overlay_all}
use Rattle.cluster_model.specs.Journal.{Copy, content_of}
use Rattle.cluster_laws.specs.FenceLaw.{is_file, first_free, live_in}
use Rattle.cluster_laws.specs.Agreement.{sent_of, rogue_of, causes_of, periods_of, has_free, ArePairwiseDisjoint, IsCleanStep, IsDirtyStep, IsEndBy, IsEndStep, IsFlatStep, bytes_of, Has, Agree}
use Rattle.sound_journals.specs.Views.{FileView, first_shown, view_after, view_by, no_view, view_of}
use Rattle.sound_journals.specs.Sound.{IsFineList, shows_first, EndsPeriod, IsFreedSoundly, First, Again, BehindClean, BehindDirty, AreSoundEntries, AreToldEntries, SoundAgrees}
use Rattle.cluster_laws.proofs.Lists.{all_more}
use Rattle.sound_journals.proofs.Turns.{one_user, no_user}
use Rattle.sound_journals.proofs.Sources.{IsDirtyFrom}
use Rattle.sound_journals.proofs.Standing.{Stand, NotYet, Agreed, InPeriod, clean_end_of}
use Rattle.sound_journals.proofs.Steps.{first_is}
use Rattle.sound_journals.proofs.Folds.{view_append, sound_front, sound_behind, stands, live_is, copy_is, bytes_are, sent_is, rogue_is, causes_are, periods_are, base_stays, own_file, base_free, periods_free}
use Rattle.sound_journals.proofs.Telling.{IsToldAt, told_all}
use Rattle.sound_journals.proofs.Flat.{same_step, CleanBytes, clean_bytes, dirty_bytes, causes_rest, sent_rest, rogue_rest, source_rest, not_clean, dirty_step}

-- ---- the first time

never_ended : (v : FileView) (uid : ℕ) (clean : Bool) → Stand v → v.base ≡ None → EndsPeriod v uid clean → ⊥
never_ended v uid clean (NotYet _ p l) none ended = no_user v.periods uid p ended.period
never_ended v uid clean (Agreed base live b p l fine has) none ended = no_user v.periods uid p ended.period
never_ended v uid clean (InPeriod base other live b p l fine ending) none ended = let wrong : None ≡ Some base = sym none ∙ b in absurd (cc (wrong))

emptied : (f : FileId) (v : FileView) (live : List MirrorId) → Stand v → v.base ≡ None → IsFreedSoundly v live → shows_first (view_after f v (Free f live)) ≡ []
emptied f v live st none (First _ l fine has) = ap (first_shown v.copy) (cond-true (is_file f f) (first_free live v.live) v.live (own_file f) ∙ ap (first_free live) l) ∙ first_is v.copy live [] fine has
emptied f v live st none (Again free base b) = let wrong : None ≡ Some base = sym none ∙ b in absurd (cc (wrong))
emptied f v live st none (BehindClean uid ended) = absurd (never_ended v uid true st none ended)
emptied f v live st none (BehindDirty uid ended all) = absurd (never_ended v uid false st none ended)

first_so : (f : FileId) (before behind : List Entry) (live : List MirrorId) → AreSoundEntries f no_view (before ++ Free f live ∷ behind) → has_free f before ≡ false → bytes_of (before ++ Free f live ∷ []) f ≡ []
first_so f before behind live s none =
    bytes_are f (before ++ Free f live ∷ []) ∙ ap shows_first (view_append f no_view before (Free f live ∷ []))
    ∙ emptied f (view_of before f) live (stands f before (sound_front f no_view before (Free f live ∷ behind) s)) (base_stays f no_view before none) ((sound_behind f no_view before (Free f live ∷ behind) s).0 (own_file f))

-- ---- behind an entry free

module _ (f : FileId) (before between : List Entry) (live : List MirrorId) (none : has_free f between ≡ false) where
  then_view : view_of (before ++ Free f live ∷ between) f ≡ view_by f (view_after f (view_of before f) (Free f live)) between
  then_view = view_append f no_view before (Free f live ∷ between)

  old_is : (view_after f (view_of before f) (Free f live)).base ≡ Some (bytes_of (before ++ Free f live ∷ []) f)
  old_is = base_free f (view_of before f) live ∙ ap Some (sym (ap shows_first (view_append f no_view before (Free f live ∷ []))) ∙ sym (bytes_are f (before ++ Free f live ∷ [])))

  pub base_then : (view_of (before ++ Free f live ∷ between) f).base ≡ Some (bytes_of (before ++ Free f live ∷ []) f)
  base_then = ap (λ (v : FileView). v.base) then_view ∙ base_stays f (view_after f (view_of before f) (Free f live)) between none ∙ old_is

  pub periods_then : (view_of (before ++ Free f live ∷ between) f).periods ≡ periods_of f between
  periods_then =
      ap (λ (v : FileView). v.periods) then_view ∙ periods_are f (view_after f (view_of before f) (Free f live)) between none
      ∙ ap (λ (ps : List ℕ). ps ++ periods_of f between) (periods_free f (view_of before f) live)

-- ---- while it is free

agree_by : (f : FileId) (journal : List Entry) (base : List ℕ) (live : List MirrorId) → IsFineList live → AllByRecursion (λ m. Has base ((view_of journal f).copy m).content) live → Agree journal base (Some live)
agree_by f journal base [] fine has = absurd fine
agree_by f journal base (m ∷ live) fine has =
    (fine, all_more (λ k. Has base ((view_of journal f).copy k).content) (λ k. Has base (content_of journal k).content) (m ∷ live) (λ k h. subst (λ (c : Copy). Has base c.content) (copy_is f no_view k journal) h) has)

agrees_now : (f : FileId) (journal : List Entry) (bytes : List ℕ) → Stand (view_of journal f) → (view_of journal f).base ≡ Some bytes → (view_of journal f).periods ≡ [] → Agree journal bytes (live_in journal f)
agrees_now f journal bytes (NotYet none p l) there free = let wrong : None ≡ Some bytes = sym none ∙ there in absurd (cc (wrong))
agrees_now f journal bytes (Agreed base live b p l fine has) there free =
    subst (Agree journal bytes) (sym l ∙ live_is f no_view journal) (subst (λ (x : List ℕ). Agree journal x (Some live)) (same_Some base bytes (sym b ∙ there)) (agree_by f journal base live fine has))
agrees_now f journal bytes (InPeriod base uid live b p l fine ending) there free = absurd (no_user (view_of journal f).periods uid free p)

-- ---- steps

module _ (f : FileId) (until behind : List Entry) (next : List MirrorId) (s : AreSoundEntries f no_view (until ++ Free f next ∷ behind)) (t : AreToldEntries f no_view (until ++ Free f next ∷ behind)) (old : List ℕ) (there : (view_of until f).base ≡ Some old) where
  rest_sound : AreSoundEntries f (view_of until f) (Free f next ∷ behind)
  rest_sound = sound_behind f no_view until (Free f next ∷ behind) s

  last_view : view_of (until ++ Free f next ∷ behind) f ≡ view_by f (view_of until f) (Free f next ∷ behind)
  last_view = view_append f no_view until (Free f next ∷ behind)

  stand : Stand (view_of until f)
  stand = stands f until (sound_front f no_view until (Free f next ∷ behind) s)

  clean_so : (uid : ℕ) → EndsPeriod (view_of until f) uid true → IsCleanStep (until ++ Free f next ∷ behind) uid old (bytes_of until f)
  clean_so uid ended = by_bytes (clean_bytes (view_of until f) uid old stand ended there)
    where
      sent_same : sent_of uid (until ++ Free f next ∷ behind) ≡ (view_of until f).sent uid
      sent_same = sym (sent_is f uid (until ++ Free f next ∷ behind)) ∙ ap (λ (v : FileView). v.sent uid) last_view ∙ sent_rest f (view_of until f) (Free f next ∷ behind) uid rest_sound (clean_end_of (view_of until f) uid ended)

      rogue_same : rogue_of uid (until ++ Free f next ∷ behind) ≡ (view_of until f).rogue uid
      rogue_same = sym (rogue_is f uid (until ++ Free f next ∷ behind)) ∙ ap (λ (v : FileView). v.rogue uid) last_view ∙ rogue_rest f (view_of until f) (Free f next ∷ behind) uid rest_sound (clean_end_of (view_of until f) uid ended)

      by_bytes : CleanBytes (view_of until f) uid old → IsCleanStep (until ++ Free f next ∷ behind) uid old (bytes_of until f)
      by_bytes c = record {
        disjoint = subst ArePairwiseDisjoint (sym sent_same) c.apart;
        none_strayed = rogue_same ∙ c.none;
        bytes = bytes_are f until ∙ c.bytes ∙ ap (overlay_all old) (sym sent_same);
      }

  dirty_so : (uid : ℕ) → (ended : EndsPeriod (view_of until f) uid false) → IsDirtyFrom (view_of until f) uid old (shows_first (view_of until f)) → IsDirtyStep (until ++ Free f next ∷ behind) until uid old (bytes_of until f)
  dirty_so uid ended d =
      subst (IsDirtyStep (until ++ Free f next ∷ behind) until uid old) (sym (bytes_are f until))
      (dirty_step (until ++ Free f next ∷ behind) until uid old (shows_first (view_of until f)) (view_of until f) (view_by f (view_of until f) (Free f next ∷ behind)) (sent_is f uid until) (rogue_is f uid until) d
      (source_rest f (view_of until f) (Free f next ∷ behind) uid d.source d.sent d.rogue (shows_first (view_of until f)) rest_sound d.at_source)
      (not_clean (view_by f (view_of until f) (Free f next ∷ behind)) uid ended.cause (causes_rest f (view_of until f) (Free f next ∷ behind) uid ended.cause [] rest_sound ended.causes) ended.is_so)
      (λ w is. subst (λ (v : FileView). IsToldAt v uid w) last_view (told_all f no_view (until ++ Free f next ∷ behind) uid w s t is)))

  ends_so : (uid : ℕ) (clean : Bool) → EndsPeriod (view_of until f) uid clean → IsEndBy (until ++ Free f next ∷ behind) until uid old (bytes_of until f) clean
      → IsEndStep (until ++ Free f next ∷ behind) until uid old (bytes_of until f) (causes_of uid until)
  ends_so uid clean ended step =
      subst (IsEndStep (until ++ Free f next ∷ behind) until uid old (bytes_of until f)) (sym ended.causes ∙ causes_are f uid until)
      (subst (IsEndBy (until ++ Free f next ∷ behind) until uid old (bytes_of until f)) (sym ended.is_so) step)

  one_period : (uid : ℕ) → (view_of until f).periods ≡ uid ∷ [] → IsFreedSoundly (view_of until f) next → IsEndStep (until ++ Free f next ∷ behind) until uid old (bytes_of until f) (causes_of uid until)
  one_period uid period (First none l fine has) = let wrong : None ≡ Some old = sym none ∙ there in absurd (cc (wrong))
  one_period uid period (Again free base b) = absurd (no_user (view_of until f).periods uid free period)
  one_period uid period (BehindClean other ended) =
      subst (λ (u : ℕ). IsEndStep (until ++ Free f next ∷ behind) until u old (bytes_of until f) (causes_of u until)) (one_user (view_of until f).periods other uid ended.period period)
      (ends_so other true ended (clean_so other ended))
  one_period uid period (BehindDirty other ended all) =
      subst (λ (u : ℕ). IsEndStep (until ++ Free f next ∷ behind) until u old (bytes_of until f) (causes_of u until)) (one_user (view_of until f).periods other uid ended.period period)
      (ends_so other false ended (dirty_so other ended (dirty_bytes (view_of until f) other old stand ended all there)))

  two_periods : (uid another : ℕ) (more : List ℕ) → (view_of until f).periods ≡ uid ∷ another ∷ more → Stand (view_of until f) → ⊥
  two_periods uid another more are (NotYet none p l) = let wrong : [] ≡ uid ∷ another ∷ more = sym p ∙ are in absurd (cc (wrong))
  two_periods uid another more are (Agreed base live b p l fine has) = let wrong : [] ≡ uid ∷ another ∷ more = sym p ∙ are in absurd (cc (wrong))
  two_periods uid another more are (InPeriod base other live b p l fine ending) = let wrong : other ∷ [] ≡ uid ∷ another ∷ more = sym p ∙ are in absurd (cc (wrong))

  pub step_so : (periods : List ℕ) → (view_of until f).periods ≡ periods → IsFlatStep (until ++ Free f next ∷ behind) until old (bytes_of until f) periods
  step_so [] are = bytes_are f until ∙ same_step (view_of until f) old stand are there
  step_so (uid ∷ []) are = one_period uid are (rest_sound.0 (own_file f))
  step_so (uid ∷ another ∷ more) are = two_periods uid another more are stand

-- ---- the law

pub agrees : (f : FileId) (journal : List Entry) → SoundAgrees f journal
agrees f journal s t = record {
  first = λ before behind live are none. first_so f before behind live (subst (AreSoundEntries f no_view) are s) none;
  steps = λ before between behind live next are none.
      let until : List Entry = before ++ Free f live ∷ between in
      subst (λ (j : List Entry). IsFlatStep j until (bytes_of (before ++ Free f live ∷ []) f) (bytes_of until f) (periods_of f between)) (sym are)
      (step_so f until behind next (subst (AreSoundEntries f no_view) are s) (subst (AreToldEntries f no_view) are t) (bytes_of (before ++ Free f live ∷ []) f) (base_then f before between live none) (periods_of f between) (periods_then f before between live none));
  free = λ before between behind live are none free_yet.
      agrees_now f (before ++ Free f live ∷ between) (bytes_of (before ++ Free f live ∷ []) f) (stands f (before ++ Free f live ∷ between) (sound_front f no_view (before ++ Free f live ∷ between) behind (subst (AreSoundEntries f no_view) are s)))
      (base_then f before between live none) (periods_then f before between live none ∙ free_yet);
}
