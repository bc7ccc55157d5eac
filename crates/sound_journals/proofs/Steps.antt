-- A sound entry leads from a view in which a file stands so to another one.
use Rattle.std.proofs.Common.{◌≡◌, ℕ, ◌<◌, Bool, true, false, ◌&&◌, ◌||◌, eqb, cond, not, List, [], ◌∷◌, ◌++◌, filter, Option, Some, None, refl, sym, ap, subst, ◌∙◌, inl, inr, eq-eqb}
use Rattle.std.specs.List.{AllByRecursion, list_any}
use Rattle.std.proofs.lemmas.Bool.{cond-true, cond-false, cond_both, eqb-true}
use Rattle.cluster_model.specs.declared.ids.FileId.{FileId}
use Rattle.cluster_model.specs.declared.ids.Cred.{Cred}
use Rattle.cluster_model.specs.declared.ids.NodeId.{NodeId}
use Rattle.cluster_model.specs.declared.ids.MirrorId.{MirrorId}
use Rattle.cluster_model.specs.declared.phase.EndCause.{EndCause}
use Rattle.cluster_model.specs.declared.phase.LeftCause.{LeftCause}
use Rattle.cluster_model.specs.declared.entry.Entry.{Entry}
use Rattle.cluster_model.specs.declared.entry.Entry.TheVariants.{Free, Granted, Ended, Left, Swapped}
use Rattle.cluster_model.specs.Content.{Pending, shown_of, overlay_all}
use Rattle.cluster_model.specs.Journal.{Copy, is_mirror}
use Rattle.cluster_model.specs.Phases.{is_clean}
use Rattle.cluster_laws.specs.FenceLaw.{is_file, is_among, swapped_in, first_free, changed_live, live_after}
use Rattle.cluster_laws.specs.Agreement.{Has}
use Rattle.cluster_laws.specs.Holders.{IsIn}
use Rattle.sound_journals.specs.Marks.{UserMarks}
use Rattle.sound_journals.specs.Views.{FileView, first_shown, base_after, periods_after, causes_after, view_after}
use Rattle.sound_journals.specs.Sound.{AllLive, IsFineList, IsFineLive, shows_first, EndsPeriod, IsFreedSoundly, First, Again, BehindClean, BehindDirty, IsGrantedSoundly, IsEndedSoundly, IsOutOfReach, IsSwappedSoundly, IsSoundEntry}
use Rattle.cluster_laws.proofs.Lists.{all_more, all_append}
use Rattle.sound_journals.proofs.Lists.{all_both, all_filter, all_map}
use Rattle.sound_journals.proofs.Holding.{IsHeld, held_begins}
use Rattle.sound_journals.proofs.Whole.{held_whole}
use Rattle.sound_journals.proofs.Turns.{one_user, no_user, trace_at}
use Rattle.sound_journals.proofs.Sources.{IsDirtyFrom, dirty_from}
use Rattle.sound_journals.proofs.Standing.{IsOriginal, IsCleanOne, IsCopied, IsDirtyOne, Ending, Open, EndedClean, EndedDirty, Stand, NotYet, Agreed, InPeriod, same_end, not_ended, clean_end_of, rogue_still, hass_on, originals_on, cleans_on, dirties_on, dirty_one_on, ends_on}

-- ---- live lists that change

-- what holds of each mirror of a list holds of each of another
abbrev IsAmongst : List MirrorId → List MirrorId → Type 1
IsAmongst live new = (P : MirrorId → Type 0) → AllByRecursion P live → AllByRecursion P new

-- the entry makes of the live list one with no other mirrors
record Narrows (f : FileId) (v : FileView) (e : Entry) : Type 1 where
  none : v.live ≡ None → live_after f v.live e ≡ None
  some : (live : List MirrorId) → v.live ≡ Some live → IsFineList live → (new : List MirrorId) × (live_after f v.live e ≡ Some new) × IsFineList new × IsAmongst live new

-- an entry that is none of grants and ends, and changes neither base nor periods
module _ (f : FileId) (v : FileView) (e : Entry) (s : IsSoundEntry f v e) (base_same : base_after f v e ≡ v.base) (periods_same : periods_after f v.periods e ≡ v.periods) (causes_same : (uid : ℕ) → v.periods ≡ uid ∷ [] → causes_after uid (v.causes uid) e ≡ v.causes uid) (narrows : Narrows f v e) where
  ending_on : (base : List ℕ) (uid : ℕ) (live new : List MirrorId) → v.live ≡ Some live → v.periods ≡ uid ∷ [] → IsAmongst live new → Ending v uid base live → Ending (view_after f v e) uid base new
  ending_on base uid live new are period among (Open none os) = Open (causes_same uid period ∙ none) (among (IsOriginal (view_after f v e) uid base) (originals_on f v e s uid base live are period os))
  ending_on base uid live new are period among (EndedClean ended none cs) =
      EndedClean (ends_on f v e s uid true periods_same ended) (rogue_none ended none) (among (IsCleanOne (view_after f v e) uid base) (cleans_on f v e s uid base live are period (clean_end_of v uid ended) cs))
    where
      rogue_none : EndsPeriod v uid true → v.rogue uid ≡ [] → (view_after f v e).rogue uid ≡ []
      rogue_none ended none = rogue_still f v e uid s (clean_end_of v uid ended) ∙ none
  ending_on base uid live new are period among (EndedDirty ended ds) = EndedDirty (ends_on f v e s uid false periods_same ended) (among (IsDirtyOne (view_after f v e) uid base) (dirties_on f v e s uid base live are period ds))

  narrow_on : Stand v → Stand (view_after f v e)
  narrow_on (NotYet b p l) = NotYet (base_same ∙ b) (periods_same ∙ p) (narrows.none l)
  narrow_on (Agreed base live b p l fine has) =
      let n = narrows.some live l fine in
      Agreed base n.0 (base_same ∙ b) (periods_same ∙ p) n.1 n.2 (n.3 (λ m. Has base ((view_after f v e).copy m).content) (hass_on f v e s live base l p has))
  narrow_on (InPeriod base uid live b p l fine ending) =
      let n = narrows.some live l fine in
      InPeriod base uid n.0 (base_same ∙ b) (periods_same ∙ p) n.1 n.2 (ending_on base uid live n.0 l p n.3 ending)

same_list : (f : FileId) (v : FileView) (e : Entry) → live_after f v.live e ≡ v.live → Narrows f v e
same_list f v e same = record { none = λ l. same ∙ l; some = λ live l fine. (live, same ∙ l, fine, λ P h. h) }

same_on : (f : FileId) (v : FileView) (e : Entry) → IsSoundEntry f v e → base_after f v e ≡ v.base → periods_after f v.periods e ≡ v.periods → ((uid : ℕ) → v.periods ≡ uid ∷ [] → causes_after uid (v.causes uid) e ≡ v.causes uid) → live_after f v.live e ≡ v.live → Stand v → Stand (view_after f v e)
same_on f v e s base periods causes live st = narrow_on f v e s base periods causes (same_list f v e live) st

-- ---- free

pub first_is : (copy : MirrorId → Copy) (live : List MirrorId) (base : List ℕ) → IsFineList live → AllByRecursion (λ m. Has base (copy m).content) live → first_shown copy (Some live) ≡ base
first_is copy [] base fine h = absurd fine
first_is copy (m ∷ live) base fine h = h.0.shown

pub whole_one : (v : FileView) (uid : ℕ) (base : List ℕ) (m : MirrorId) → v.rogue uid ≡ [] → IsCleanOne v uid base m → Has (overlay_all base (v.sent uid)) (v.copy m).content
whole_one v uid base m none c = held_whole base (v.sent uid) (trace_at v uid m) (subst (λ (r : List Pending). IsHeld base (v.sent uid) r (trace_at v uid m)) none c.original.held) c.all_covered

module _ (f : FileId) (v : FileView) (file : FileId) (mirrors : List MirrorId) (is : is_file file f ≡ true) where
  agreed_by : (base : List ℕ) (live : List MirrorId) → first_free mirrors v.live ≡ Some live → IsFineList live → AllByRecursion (λ m. Has base (v.copy m).content) live → Stand (view_after f v (Free file mirrors))
  agreed_by base live are fine has =
      let live_is : live_after f v.live (Free file mirrors) ≡ Some live = cond-true (is_file file f) (first_free mirrors v.live) v.live is ∙ are in
      Agreed base live (cond-true (is_file file f) (Some (first_shown v.copy (live_after f v.live (Free file mirrors)))) v.base is ∙ ap (λ (l : Option (List MirrorId)). Some (first_shown v.copy l)) live_is ∙ ap Some (first_is v.copy live base fine has))
      (cond-true (is_file file f) [] v.periods is) live_is fine has

  kept_list : (live : List MirrorId) → v.live ≡ Some live → first_free mirrors v.live ≡ Some live
  kept_list live l = ap (first_free mirrors) l

  free_again : v.periods ≡ [] → (b : List ℕ) → v.base ≡ Some b → Stand v → Stand (view_after f v (Free file mirrors))
  free_again free b there (NotYet none p l) = let wrong : None ≡ Some b = sym none ∙ there in absurd (cc (wrong))
  free_again free b there (Agreed base live _ p l fine has) = agreed_by base live (kept_list live l) fine has
  free_again free b there (InPeriod base uid live _ p l fine ending) = absurd (no_user v.periods uid free p)

  free_clean : (uid : ℕ) → EndsPeriod v uid true → Stand v → Stand (view_after f v (Free file mirrors))
  free_clean uid ended (NotYet none p l) = absurd (no_user v.periods uid p ended.period)
  free_clean uid ended (Agreed base live _ p l fine has) = absurd (no_user v.periods uid p ended.period)
  free_clean uid ended (InPeriod base other live _ p l fine (Open none os)) = absurd (not_ended v other uid true p none ended)
  free_clean uid ended (InPeriod base other live _ p l fine (EndedClean mine none cs)) =
      agreed_by (overlay_all base (v.sent other)) live (kept_list live l) fine (all_more (IsCleanOne v other base) (λ m. Has (overlay_all base (v.sent other)) (v.copy m).content) live (λ m c. whole_one v other base m none c) cs)
  free_clean uid ended (InPeriod base other live _ p l fine (EndedDirty mine ds)) = let wrong : true ≡ false = same_end v uid other true false ended mine in absurd (cc (wrong))

  free_dirty : (uid : ℕ) → EndsPeriod v uid false → AllLive v.live (λ m. Has (shows_first v) (v.copy m).content × (uid < (v.copy m).owner)) → Stand v → Stand (view_after f v (Free file mirrors))
  free_dirty uid ended all (NotYet none p l) = absurd (no_user v.periods uid p ended.period)
  free_dirty uid ended all (Agreed base live _ p l fine has) = absurd (no_user v.periods uid p ended.period)
  free_dirty uid ended all (InPeriod base other live _ p l fine ending) =
      agreed_by (shows_first v) live (kept_list live l) fine
      (all_more (λ m. Has (shows_first v) (v.copy m).content × (uid < (v.copy m).owner)) (λ m. Has (shows_first v) (v.copy m).content) live (λ m both. both.0)
      (subst (λ (o : Option (List MirrorId)). AllLive o (λ m. Has (shows_first v) (v.copy m).content × (uid < (v.copy m).owner))) l all))

  freed : IsFreedSoundly v mirrors → Stand v → Stand (view_after f v (Free file mirrors))
  freed (First none l fine has) st = agreed_by [] mirrors (ap (first_free mirrors) l) fine has
  freed (Again free b there) st = free_again free b there st
  freed (BehindClean uid ended) st = free_clean uid ended st
  freed (BehindDirty uid ended all) st = free_dirty uid ended all st

-- ---- granted

any_self : (m : MirrorId) (live : List MirrorId) → list_any (λ k. is_mirror k m) (m ∷ live) ≡ true
any_self m live = ap (λ (b : Bool). (b && eqb m.fileid m.fileid) || list_any (λ k. is_mirror k m) live) (eq-eqb m.server m.server refl) ∙ ap (λ (b : Bool). b || list_any (λ k. is_mirror k m) live) (eq-eqb m.fileid m.fileid refl)

any_more : (m x : MirrorId) (live : List MirrorId) → list_any (λ k. is_mirror k m) live ≡ true → list_any (λ k. is_mirror k m) (x ∷ live) ≡ true
any_more m x live h = by_test (is_mirror x m)
  where
    by_test : (b : Bool) → (b || list_any (λ k. is_mirror k m) live) ≡ true
    by_test true = refl
    by_test false = h

all_among : (live : List MirrorId) → AllByRecursion (λ m. list_any (λ k. is_mirror k m) live ≡ true) live
all_among [] = tt
all_among (x ∷ live) = (any_self x live, all_more (λ m. list_any (λ k. is_mirror k m) live ≡ true) (λ m. list_any (λ k. is_mirror k m) (x ∷ live) ≡ true) live (λ m h. any_more m x live h) (all_among live))

module _ (f : FileId) (v : FileView) (file : FileId) (cred : Cred) (holder : NodeId) (is : is_file file f ≡ true) where
  in_layout : (m : MirrorId) (live : List MirrorId) → v.live ≡ Some live → list_any (λ k. is_mirror k m) live ≡ true → (view_after f v (Granted file cred holder)).layout cred.0 m ≡ true
  in_layout m live l h =
      ap (λ (b : Bool). cond (b && eqb cred.0 cred.0) (is_among m v.live || v.layout cred.0 m) (v.layout cred.0 m)) is
      ∙ ap (λ (b : Bool). cond b (is_among m v.live || v.layout cred.0 m) (v.layout cred.0 m)) (eq-eqb cred.0 cred.0 refl)
      ∙ ap (λ (o : Option (List MirrorId)). is_among m o || v.layout cred.0 m) l
      ∙ ap (λ (b : Bool). b || v.layout cred.0 m) h

  begins : (base : List ℕ) (m : MirrorId) → IsGrantedSoundly v cred.0 → Has base (v.copy m).content → IsHeld base (v.sent cred.0) (v.rogue cred.0) (trace_at v cred.0 m)
  begins base m g has =
      subst (λ (s : List Pending). IsHeld base s (v.rogue cred.0) (trace_at v cred.0 m)) (sym g.sent)
      (subst (λ (r : List Pending). IsHeld base [] r (trace_at v cred.0 m)) (sym g.rogue)
      (subst (λ (k : UserMarks). IsHeld base [] [] (record { content = (v.copy m).content; here = k.here; covered = k.covered })) (sym (g.marks m)) (held_begins base (v.copy m).content has)))

  granted : IsGrantedSoundly v cred.0 → Stand v → Stand (view_after f v (Granted file cred holder))
  granted g (NotYet none p l) = let wrong : None ≡ Some g.base = sym none ∙ g.freed in absurd (cc (wrong))
  granted g (Agreed base live b p l fine has) =
      InPeriod base cred.0 live b (cond-true (is_file file f) (v.periods ++ cred.0 ∷ []) v.periods is ∙ ap (λ (ps : List ℕ). ps ++ cred.0 ∷ []) p) l fine
      (Open g.causes
      (all_both (λ m. list_any (λ k. is_mirror k m) live ≡ true) (λ m. Has base (v.copy m).content) (IsOriginal (view_after f v (Granted file cred holder)) cred.0 base) live
      (λ m there has_it. record { of_layout = in_layout m live l there; held = begins base m g has_it }) (all_among live) has))
  granted g (InPeriod base uid live b p l fine ending) = absurd (no_user v.periods uid g.free p)

-- ---- ended

module _ (f : FileId) (v : FileView) (file : FileId) (cred : Cred) (cause : EndCause) (s : IsSoundEntry f v (Ended file cred cause)) where
  ended_so : (clean : Bool) → v.periods ≡ cred.0 ∷ [] → is_clean cause ≡ clean → EndsPeriod (view_after f v (Ended file cred cause)) cred.0 clean
  ended_so clean period is_so = record {
    period = period;
    cause = cause;
    causes = cond-true (eqb cred.0 cred.0) (v.causes cred.0 ++ cause ∷ []) (v.causes cred.0) (eq-eqb cred.0 cred.0 refl) ∙ ap (λ (cs : List EndCause). cs ++ cause ∷ []) s.0;
    is_so = is_so;
  }

  cover_all : (base : List ℕ) (live : List MirrorId) → AllByRecursion (IsOriginal (view_after f v (Ended file cred cause)) cred.0 base) live → AllByRecursion (λ m. AllByRecursion (λ w. IsIn w (v.marks cred.0 m).covered) (v.sent cred.0)) live
      → AllByRecursion (IsCleanOne (view_after f v (Ended file cred cause)) cred.0 base) live
  cover_all base live os cs = all_both (IsOriginal (view_after f v (Ended file cred cause)) cred.0 base) (λ m. AllByRecursion (λ w. IsIn w (v.marks cred.0 m).covered) (v.sent cred.0)) (IsCleanOne (view_after f v (Ended file cred cause)) cred.0 base) live (λ m o c. record { original = o; all_covered = c }) os cs

  ends_now : (base : List ℕ) (live : List MirrorId) → v.live ≡ Some live → IsEndedSoundly v cred.0 (is_clean cause) → Ending v cred.0 base live → Ending (view_after f v (Ended file cred cause)) cred.0 base live
  ends_now base live l now (Open none os) = by_test (is_clean cause) refl
    where
      os_on : AllByRecursion (IsOriginal (view_after f v (Ended file cred cause)) cred.0 base) live
      os_on = originals_on f v (Ended file cred cause) s cred.0 base live l now.period os

      by_test : (clean : Bool) → is_clean cause ≡ clean → Ending (view_after f v (Ended file cred cause)) cred.0 base live
      by_test true is_so =
          let both = now.covered is_so in
          EndedClean (ended_so true now.period is_so) both.0 (cover_all base live os_on (subst (λ (o : Option (List MirrorId)). AllLive o (λ m. AllByRecursion (λ w. IsIn w (v.marks cred.0 m).covered) (v.sent cred.0))) l both.1))
      by_test false is_so =
          EndedDirty (ended_so false now.period is_so) (all_more (IsOriginal (view_after f v (Ended file cred cause)) cred.0 base) (IsDirtyOne (view_after f v (Ended file cred cause)) cred.0 base) live (λ m o. inl o) os_on)
  ends_now base live l now (EndedClean ended none cs) = absurd (not_ended v cred.0 cred.0 true now.period s.0 ended)
  ends_now base live l now (EndedDirty ended ds) = absurd (not_ended v cred.0 cred.0 false now.period s.0 ended)

  ended : IsEndedSoundly v cred.0 (is_clean cause) → Stand v → Stand (view_after f v (Ended file cred cause))
  ended now (NotYet none p l) = absurd (no_user v.periods cred.0 p now.period)
  ended now (Agreed base live b p l fine has) = absurd (no_user v.periods cred.0 p now.period)
  ended now (InPeriod base uid live b p l fine ending) =
      InPeriod base cred.0 live b now.period l fine (ends_now base live l now (subst (λ (u : ℕ). Ending v u base live) (one_user v.periods uid cred.0 p now.period) ending))

  other_end : (v.periods ≡ cred.0 ∷ [] → ⊥) → (uid : ℕ) → v.periods ≡ uid ∷ [] → causes_after uid (v.causes uid) (Ended file cred cause) ≡ v.causes uid
  other_end other uid period = by_test (eqb cred.0 uid) refl
    where
      by_test : (b : Bool) → eqb cred.0 uid ≡ b → cond b (v.causes uid ++ cause ∷ []) (v.causes uid) ≡ v.causes uid
      by_test true same = absurd (other (period ∙ ap (λ (u : ℕ). u ∷ []) (sym (eqb-true cred.0 uid same))))
      by_test false differ = refl

-- ---- left

left_list : (f : FileId) (v : FileView) (file : FileId) (mirror : MirrorId) (cause : LeftCause) → is_file file f ≡ true → IsFineLive (live_after f v.live (Left file mirror cause)) → Narrows f v (Left file mirror cause)
left_list f v file mirror cause is fine = record {
  none = λ l. now ∙ ap (changed_live (filter (λ m. not (is_mirror m mirror)))) l;
  some = λ live l _.
      let are : live_after f v.live (Left file mirror cause) ≡ Some (filter (λ m. not (is_mirror m mirror)) live) = now ∙ ap (changed_live (filter (λ m. not (is_mirror m mirror)))) l in
      (filter (λ m. not (is_mirror m mirror)) live, are, subst IsFineLive are fine, λ P h. all_filter P (λ m. not (is_mirror m mirror)) live h);
}
  where
    now : live_after f v.live (Left file mirror cause) ≡ changed_live (filter (λ m. not (is_mirror m mirror))) v.live
    now = cond-true (is_file file f) (changed_live (filter (λ m. not (is_mirror m mirror))) v.live) v.live is

-- ---- swapped

all_swapped : (P : MirrorId → Type 0) (old : Option MirrorId) (new : MirrorId) (live : List MirrorId) → AllByRecursion P live → P new → AllByRecursion P (swapped_in old new live)
all_swapped P None new live h k = all_append P live (new ∷ []) h (k, tt)
all_swapped P (Some old) new live h k = all_map P (λ m. cond (is_mirror m old) new m) live (λ m p. cond_both (is_mirror m old) new m P (λ e. k) (λ e. p)) h

pub first_one : (v : FileView) (uid : ℕ) (base : List ℕ) (m : MirrorId) → uid < (v.copy m).owner → IsDirtyOne v uid base m → IsDirtyFrom v uid base (shown_of (v.copy m).content)
first_one v uid base m past (inl o) = dirty_from v uid base m o.of_layout past o.held
first_one v uid base m past (inr c) = subst (IsDirtyFrom v uid base) (sym c.has.shown) c.dirty

module _ (f : FileId) (v : FileView) (file : FileId) (old : Option MirrorId) (new : MirrorId) (s : IsSoundEntry f v (Swapped file old new)) (is : is_file file f ≡ true) where
  list_now : (live : Option (List MirrorId)) → v.live ≡ live → live_after f v.live (Swapped file old new) ≡ changed_live (swapped_in old new) live
  list_now live l = cond-true (is_file file f) (changed_live (swapped_in old new) v.live) v.live is ∙ ap (changed_live (swapped_in old new)) l

  comes_in : (uid : ℕ) (base : List ℕ) (live : List MirrorId) → v.live ≡ Some live → Has (first_shown v.copy (Some live)) (v.copy new).content → IsOutOfReach v new (uid ∷ []) (Some live) → AllByRecursion (IsDirtyOne v uid base) live → IsCopied v uid base new
  comes_in uid base [] l has out ds = absurd out
  comes_in uid base (m ∷ live) l has out ds = record { past = out.2; bytes = shown_of (v.copy m).content; has = has; dirty = first_one v uid base m out.1 ds.0 }

  out_ended : (uid : ℕ) (live : List MirrorId) → IsOutOfReach v new (uid ∷ []) (Some live) → EndsPeriod v uid false
  out_ended uid [] out = absurd out
  out_ended uid (m ∷ live) out = out.0

  swap_ending : (uid : ℕ) (base : List ℕ) (live : List MirrorId) → v.live ≡ Some live → v.periods ≡ uid ∷ [] → Has (first_shown v.copy (Some live)) (v.copy new).content → IsOutOfReach v new (uid ∷ []) (Some live) → Ending v uid base live
      → Ending (view_after f v (Swapped file old new)) uid base (swapped_in old new live)
  swap_ending uid base live l period has out (Open none os) = absurd (not_ended v uid uid false period none (out_ended uid live out))
  swap_ending uid base live l period has out (EndedClean ended none cs) = let wrong : true ≡ false = same_end v uid uid true false ended (out_ended uid live out) in absurd (cc (wrong))
  swap_ending uid base live l period has out (EndedDirty ended ds) =
      EndedDirty (ends_on f v (Swapped file old new) s uid false refl ended)
      (all_swapped (IsDirtyOne (view_after f v (Swapped file old new)) uid base) old new live (dirties_on f v (Swapped file old new) s uid base live l period ds)
      (dirty_one_on f v (Swapped file old new) s uid base new period tt (inr (comes_in uid base live l has out ds))))

  swapped : IsSwappedSoundly v new (live_after f v.live (Swapped file old new)) → Stand v → Stand (view_after f v (Swapped file old new))
  swapped w (NotYet b p l) = NotYet b p (list_now None l)
  swapped w (Agreed base live b p l fine has) =
      Agreed base (swapped_in old new live) b p (list_now (Some live) l) (subst IsFineLive (list_now (Some live) l) w.fine)
      (all_swapped (λ m. Has base (v.copy m).content) old new live has
      (subst (λ (bytes : List ℕ). Has bytes (v.copy new).content) (ap (first_shown v.copy) l ∙ first_is v.copy live base fine has) w.same))
  swapped w (InPeriod base uid live b p l fine ending) =
      InPeriod base uid (swapped_in old new live) b p (list_now (Some live) l) (subst IsFineLive (list_now (Some live) l) w.fine)
      (swap_ending uid base live l p (subst (λ (o : Option (List MirrorId)). Has (first_shown v.copy o) (v.copy new).content) l w.same)
      (subst (λ (o : Option (List MirrorId)). IsOutOfReach v new (uid ∷ []) o) l (subst (λ (ps : List ℕ). IsOutOfReach v new ps v.live) p w.out)) ending)

-- ---- any entry

pub step_on : (f : FileId) (v : FileView) (e : Entry) → IsSoundEntry f v e → Stand v → Stand (view_after f v e)
step_on f v (Free file mirrors) s st = by_test (is_file file f) refl
  where
    by_test : (b : Bool) → is_file file f ≡ b → Stand (view_after f v (Free file mirrors))
    by_test true is = freed f v file mirrors is (s is) st
    by_test false is =
        same_on f v (Free file mirrors) s (cond-false (is_file file f) (Some (first_shown v.copy (live_after f v.live (Free file mirrors)))) v.base is) (cond-false (is_file file f) [] v.periods is) (λ uid p. refl) (cond-false (is_file file f) (first_free mirrors v.live) v.live is) st
step_on f v (Granted file cred holder) s st = by_test (is_file file f) refl
  where
    by_test : (b : Bool) → is_file file f ≡ b → Stand (view_after f v (Granted file cred holder))
    by_test true is = granted f v file cred holder is (s is) st
    by_test false is = same_on f v (Granted file cred holder) s refl (cond-false (is_file file f) (v.periods ++ cred.0 ∷ []) v.periods is) (λ uid p. refl) refl st
step_on f v (Ended file cred cause) s st = by_test (is_file file f) refl
  where
    by_test : (b : Bool) → is_file file f ≡ b → Stand (view_after f v (Ended file cred cause))
    by_test true is = ended f v file cred cause s (s.1 is) st
    by_test false is = same_on f v (Ended file cred cause) s refl refl (other_end f v file cred cause s (s.2 is)) refl st
step_on f v (Left file mirror cause) s st = by_test (is_file file f) refl
  where
    by_test : (b : Bool) → is_file file f ≡ b → Stand (view_after f v (Left file mirror cause))
    by_test true is = narrow_on f v (Left file mirror cause) s refl refl (λ uid p. refl) (left_list f v file mirror cause is (s is)) st
    by_test false is = same_on f v (Left file mirror cause) s refl refl (λ uid p. refl) (cond-false (is_file file f) (changed_live (filter (λ m. not (is_mirror m mirror))) v.live) v.live is) st
step_on f v (Swapped file old new) s st = by_test (is_file file f) refl
  where
    by_test : (b : Bool) → is_file file f ≡ b → Stand (view_after f v (Swapped file old new))
    by_test true is = swapped f v file old new s is (s is) st
    by_test false is = same_on f v (Swapped file old new) s refl refl (λ uid p. refl) (cond-false (is_file file f) (changed_live (swapped_in old new) v.live) v.live is) st
step_on f v e s st = same_on f v e s refl refl (λ uid p. refl) refl st
