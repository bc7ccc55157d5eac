-- From one moment in which a file is free to the next, by its view: no step, a clean one or a dirty one.
use Rattle.std.proofs.Common.{◌≡◌, ℕ, ◌+◌, ◌-◌, ◌<◌, ◌≤◌, true, false, List, [], ◌∷◌, ◌++◌, length, max, Option, Some, None, refl, sym, ap, subst, ◌∙◌, arith, ◌⊎◌, inl, inr}
use Rattle.std.specs.List.{AllByRecursion}
use Rattle.std.proofs.lemmas.Option.{same_Some}
use Rattle.cluster_model.specs.declared.ids.FileId.{FileId}
use Rattle.cluster_model.specs.declared.ids.MirrorId.{MirrorId}
use Rattle.cluster_model.specs.declared.phase.EndCause.{EndCause}
use Rattle.cluster_model.specs.declared.entry.Entry.{Entry}
use Rattle.cluster_model.specs.Content.{Pending, overlay_all}
use Rattle.cluster_model.specs.Laws.{byte_at}
use Rattle.cluster_model.specs.Phases.{is_clean}
use Rattle.cluster_laws.specs.Agreement.{sent_of, rogue_of, told_of, covers, IsByteOfOne, furthest_end, ArePairwiseDisjoint, IsDirtyStep, Has}
use Rattle.cluster_laws.specs.Holders.{IsIn}
use Rattle.sound_journals.specs.Views.{FileView, first_shown, view_after, view_by}
use Rattle.sound_journals.specs.Sound.{AllLive, IsFineList, shows_first, EndsPeriod, HasCleanEnd, IsCoveredByAll, AreSoundEntries}
use Rattle.cluster_laws.proofs.Putting.{is_at, ends_furthest, furthest_by, in_left, in_right}
use Rattle.sound_journals.proofs.Holding.{IsNew, IsBeyond, StandsWith, of_more, is_of_more}
use Rattle.sound_journals.proofs.Turns.{one_user, no_user}
use Rattle.sound_journals.proofs.Sources.{IsSourceAt, IsDirtyFrom, source_on}
use Rattle.sound_journals.proofs.Standing.{IsCleanOne, IsDirtyOne, Open, EndedClean, EndedDirty, Stand, NotYet, Agreed, InPeriod, same_end, not_ended, causes_stay, clean_end_on, sent_still, rogue_still}
use Rattle.sound_journals.proofs.Steps.{first_is, whole_one, first_one}
use Rattle.sound_journals.proofs.Telling.{IsToldAt}

-- ---- how it stands

pub same_step : (v : FileView) (old : List ℕ) → Stand v → v.periods ≡ [] → v.base ≡ Some old → shows_first v ≡ old
same_step v old (NotYet none p l) free there = let wrong : None ≡ Some old = sym none ∙ there in absurd (cc (wrong))
same_step v old (Agreed base live b p l fine has) free there = ap (first_shown v.copy) l ∙ first_is v.copy live base fine has ∙ same_Some base old (sym b ∙ there)
same_step v old (InPeriod base uid live b p l fine ending) free there = absurd (no_user v.periods uid free p)

pub record CleanBytes (v : FileView) (uid : ℕ) (old : List ℕ) : Type 0 where
  pub apart : ArePairwiseDisjoint (v.sent uid)
  pub none : v.rogue uid ≡ []
  pub bytes : shows_first v ≡ overlay_all old (v.sent uid)

clean_by : (v : FileView) (uid : ℕ) (base : List ℕ) (live : List MirrorId) → v.live ≡ Some live → IsFineList live → v.rogue uid ≡ [] → AllByRecursion (IsCleanOne v uid base) live → CleanBytes v uid base
clean_by v uid base [] l fine none cs = absurd fine
clean_by v uid base (m ∷ live) l fine none cs = record { apart = cs.0.original.held.apart; none = none; bytes = ap (first_shown v.copy) l ∙ (whole_one v uid base m none cs.0).shown }

pub clean_bytes : (v : FileView) (uid : ℕ) (old : List ℕ) → Stand v → EndsPeriod v uid true → v.base ≡ Some old → CleanBytes v uid old
clean_bytes v uid old (NotYet none p l) ended there = absurd (no_user v.periods uid p ended.period)
clean_bytes v uid old (Agreed base live b p l fine has) ended there = absurd (no_user v.periods uid p ended.period)
clean_bytes v uid old (InPeriod base other live b p l fine (Open none os)) ended there = absurd (not_ended v other uid true p none ended)
clean_bytes v uid old (InPeriod base other live b p l fine (EndedClean mine none cs)) ended there =
    subst (λ (u : ℕ). CleanBytes v u old) (one_user v.periods other uid p ended.period)
    (subst (CleanBytes v other) (same_Some base old (sym b ∙ there)) (clean_by v other base live l fine none cs))
clean_bytes v uid old (InPeriod base other live b p l fine (EndedDirty mine ds)) ended there = let wrong : true ≡ false = same_end v uid other true false ended mine in absurd (cc (wrong))

dirty_by : (v : FileView) (uid : ℕ) (base : List ℕ) (live : List MirrorId) → v.live ≡ Some live → IsFineList live → AllByRecursion (λ m. Has (shows_first v) (v.copy m).content × (uid < (v.copy m).owner)) live → AllByRecursion (IsDirtyOne v uid base) live
    → IsDirtyFrom v uid base (shows_first v)
dirty_by v uid base [] l fine all ds = absurd fine
dirty_by v uid base (m ∷ live) l fine all ds = subst (IsDirtyFrom v uid base) (sym (ap (first_shown v.copy) l)) (first_one v uid base m all.0.1 ds.0)

pub dirty_bytes : (v : FileView) (uid : ℕ) (old : List ℕ) → Stand v → EndsPeriod v uid false → AllLive v.live (λ m. Has (shows_first v) (v.copy m).content × (uid < (v.copy m).owner)) → v.base ≡ Some old → IsDirtyFrom v uid old (shows_first v)
dirty_bytes v uid old (NotYet none p l) ended all there = absurd (no_user v.periods uid p ended.period)
dirty_bytes v uid old (Agreed base live b p l fine has) ended all there = absurd (no_user v.periods uid p ended.period)
dirty_bytes v uid old (InPeriod base other live b p l fine (Open none os)) ended all there = absurd (not_ended v other uid false p none ended)
dirty_bytes v uid old (InPeriod base other live b p l fine (EndedClean mine none cs)) ended all there = let wrong : false ≡ true = same_end v uid other false true ended mine in absurd (cc (wrong))
dirty_bytes v uid old (InPeriod base other live b p l fine (EndedDirty mine ds)) ended all there =
    let same : other ≡ uid = one_user v.periods other uid p ended.period in
    subst (λ (x : List ℕ). IsDirtyFrom v uid x (shows_first v)) (same_Some base old (sym b ∙ there))
    (dirty_by v uid base live l fine (subst (λ (o : Option (List MirrorId)). AllLive o (λ m. Has (shows_first v) (v.copy m).content × (uid < (v.copy m).owner))) l all)
    (subst (λ (u : ℕ). AllByRecursion (IsDirtyOne v u base) live) same ds))

-- ---- what comes behind

pub causes_rest : (f : FileId) (v : FileView) (entries : List Entry) (uid : ℕ) (cause : EndCause) (more : List EndCause) → AreSoundEntries f v entries → v.causes uid ≡ cause ∷ more → (view_by f v entries).causes uid ≡ cause ∷ more
causes_rest f v [] uid cause more s are = are
causes_rest f v (e ∷ entries) uid cause more s are = causes_rest f (view_after f v e) entries uid cause more s.1 (causes_stay f v e uid cause more are s.0 ∙ are)

pub sent_rest : (f : FileId) (v : FileView) (entries : List Entry) (uid : ℕ) → AreSoundEntries f v entries → HasCleanEnd v uid → (view_by f v entries).sent uid ≡ v.sent uid
sent_rest f v [] uid s h = refl
sent_rest f v (e ∷ entries) uid s h = sent_rest f (view_after f v e) entries uid s.1 (clean_end_on f v e uid s.0 h) ∙ sent_still f v e uid s.0 h

pub rogue_rest : (f : FileId) (v : FileView) (entries : List Entry) (uid : ℕ) → AreSoundEntries f v entries → HasCleanEnd v uid → (view_by f v entries).rogue uid ≡ v.rogue uid
rogue_rest f v [] uid s h = refl
rogue_rest f v (e ∷ entries) uid s h = rogue_rest f (view_after f v e) entries uid s.1 (clean_end_on f v e uid s.0 h) ∙ rogue_still f v e uid s.0 h

pub source_rest : (f : FileId) (v : FileView) (entries : List Entry) (uid : ℕ) (m : MirrorId) (sent rogue : List Pending) (bytes : List ℕ) → AreSoundEntries f v entries → IsSourceAt v uid m sent rogue bytes → IsSourceAt (view_by f v entries) uid m sent rogue bytes
source_rest f v [] uid m sent rogue bytes s h = h
source_rest f v (e ∷ entries) uid m sent rogue bytes s h = source_rest f (view_after f v e) entries uid m sent rogue bytes s.1 (source_on f v e uid m sent rogue bytes s.0 h)

pub not_clean : (v : FileView) (uid : ℕ) (cause : EndCause) → v.causes uid ≡ cause ∷ [] → is_clean cause ≡ false → HasCleanEnd v uid → ⊥
not_clean v uid cause are dirty h =
    let causes : cause ∷ [] ≡ h.cause ∷ h.more = sym are ∙ h.causes in
    let same : cause ≡ h.cause = cc (causes) in
    let wrong : false ≡ true = sym dirty ∙ ap is_clean same ∙ h.clean in
    absurd (cc (wrong))

-- ---- the step of a dirty end

module _ (journal until : List Entry) (uid : ℕ) (old new : List ℕ) (v last : FileView) (sent_are : v.sent uid ≡ sent_of uid until) (rogue_are : v.rogue uid ≡ rogue_of uid until) (d : IsDirtyFrom v uid old new) (at_last : IsSourceAt last uid d.source d.sent d.rogue new) (dirty : HasCleanEnd last uid → ⊥) (told : (w : Pending) → IsIn w (told_of uid journal) → IsToldAt last uid w) where
  sent_among : (w : Pending) → IsIn w d.sent → IsIn w (sent_of uid until)
  sent_among w is = subst (IsIn w) sent_are (d.at_source.is_source.sent_more w is)

  rogue_among : (w : Pending) → IsIn w d.rogue → IsIn w (rogue_of uid until)
  rogue_among w is = subst (IsIn w) rogue_are (d.at_source.is_source.rogue_more w is)

  covered_told : (w : Pending) → IsIn w (told_of uid journal) → IsCoveredByAll last uid w.at w.bytes
  covered_told w is = from (told w is)
    where
      from : IsToldAt last uid w → IsCoveredByAll last uid w.at w.bytes
      from (inl wrong) = absurd (dirty wrong)
      from (inr c) = c

  stands_told : (w : Pending) → IsIn w (told_of uid journal) → StandsWith d.rogue w new
  stands_told w is = let c = covered_told w is in at_last.is_source.stands w c.sent (inr (c.covered d.source at_last.of_layout))

  told_byte : (w : Pending) (place : ℕ) → IsIn w (told_of uid journal) → covers w place → (byte_at new place ≡ byte_at w.bytes (place - w.at)) ⊎ IsByteOfOne (rogue_of uid until) place (byte_at new place)
  told_byte w place is c = from ((stands_told w is).by place ((stands_told w is).within place c) c)
    where
      from : (byte_at new place ≡ byte_at w.bytes (place - w.at)) ⊎ IsByteOfOne d.rogue place (byte_at new place) → (byte_at new place ≡ byte_at w.bytes (place - w.at)) ⊎ IsByteOfOne (rogue_of uid until) place (byte_at new place)
      from (inl e) = inl e
      from (inr b) = inr (of_more d.rogue (rogue_of uid until) rogue_among place (byte_at new place) b)

  told_end : (w : Pending) → IsIn w (told_of uid journal) → w.at + length w.bytes ≤ length new
  told_end w is =
      let some = (covered_told w is).some in
      let last = (stands_told w is).within (w.at + length w.bytes - 1) (omega (arith, some), omega (arith, some)) in
      omega (arith, some, last)

  beyond : IsBeyond old d.sent d.rogue (max (length old) (furthest_end (sent_of uid until ++ rogue_of uid until)))
  beyond = record { base_is = omega arith; writes_are = λ w is some. let up = ends w is in omega (arith, up) }
    where
      ends : (w : Pending) → IsNew d.sent d.rogue w → w.at + length w.bytes ≤ furthest_end (sent_of uid until ++ rogue_of uid until)
      ends w (inl is) = ends_furthest (sent_of uid until ++ rogue_of uid until) w (in_left w (sent_of uid until) (rogue_of uid until) (sent_among w is))
      ends w (inr is) = ends_furthest (sent_of uid until ++ rogue_of uid until) w (in_right w (sent_of uid until) (rogue_of uid until) (rogue_among w is))

  pub dirty_step : IsDirtyStep journal until uid old new
  dirty_step = record {
    bytes = λ place less. is_of_more old d.sent (sent_of uid until) d.rogue (rogue_of uid until) sent_among rogue_among place (byte_at new place) (d.dirty.of place less);
    told = λ k place w there c. told_byte w place (is_at (told_of uid journal) k w there) c;
    least =
        let first = d.dirty.least in
        let far = furthest_by (told_of uid journal) (length new) told_end in
        omega (arith, first, far);
    most = d.dirty.up (max (length old) (furthest_end (sent_of uid until ++ rogue_of uid until))) beyond;
  }
