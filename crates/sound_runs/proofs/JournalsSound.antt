-- The journal of a run is sound, by its entries one by one.
use Rattle.std.proofs.Common.{◌≡◌, ◌≢◌, ℕ, ◌<◌, ◌≤◌, ◌⊎◌, Bool, true, false, ◌&&◌, ◌||◌, eqb, cond, List, [], ◌∷◌, ◌++◌, Option, Some, None, refl, sym, ap, subst, ◌∙◌, inl, inr, arith, append_assoc, eq-eqb}
use Rattle.std.specs.List.{AllByRecursion, list_any}
use Rattle.std.proofs.lemmas.Bool.{cond_both, eqb-true, eqb-false, ne_eqb}
use Rattle.cluster_model.specs.declared.ids.FileId.{FileId}
use Rattle.cluster_model.specs.declared.ids.NodeId.{NodeId}
use Rattle.cluster_model.specs.declared.ids.Cred.{Cred}
use Rattle.cluster_model.specs.declared.ids.MirrorId.{MirrorId}
use Rattle.cluster_model.specs.declared.phase.EndCause.{EndCause}
use Rattle.cluster_model.specs.declared.entry.Entry.{Entry}
use Rattle.cluster_model.specs.declared.entry.Entry.TheVariants as entry
use Rattle.cluster_model.specs.Content.{shown_of}
use Rattle.cluster_model.specs.Journal.{Copy, is_mirror, content_of}
use Rattle.cluster_model.specs.Phases.{is_clean}
use Rattle.cluster_laws.specs.FenceLaw.{is_file, live_after, live_in, is_among}
use Rattle.cluster_laws.specs.Periods.{was_granted, ArePeriodsFenced}
use Rattle.cluster_laws.specs.Agreement.{sent_of, rogue_of, bytes_of, IsNoChange, Has}
use Rattle.cluster_laws.specs.Holders.{IsIn, the_write}
use Rattle.sound_journals.specs.Marks.{UserMarks, no_marks, marks_after, marks_by}
use Rattle.sound_journals.specs.Views.{FileView, no_view, view_of}
use Rattle.sound_journals.specs.Sound.{AllLive, IsFineLive, IsOutOfReach, shows_first, IsFreedSoundly, First, Again, BehindClean, BehindDirty, IsSentSoundly, IsEndedSoundly, IsAppliedSoundly, OfPeriod, NoChange, IsSoundEntry, AreSoundEntries}
use Rattle.machine_walk.specs.Owners.{IsUsersWrite}
use Rattle.sound_runs.specs.BoundJournals.{IsQuietWrite, IsAppliedInPlace, AreCopiesSound}
use Rattle.cluster_laws.proofs.Lists.{all_more, all_by_split}
use Rattle.cluster_laws.proofs.Lives.{itself}
use Rattle.cluster_laws.proofs.PeriodFacts.{AreInPlace, periods_fenced}
use Rattle.machine_walk.proofs.Stories.{AreEach}
use Rattle.sound_runs.proofs.ViewFolds.{view_push, users_of, live_is, copy_is, bytes_are, sent_is, rogue_is, causes_are, marks_are}
use Rattle.sound_runs.proofs.FileSo.{CannotReach, IsReached, IsFreedSo, FirstSo, AgainSo, CleanSo, DirtySo, IsEntrySo}
use Rattle.sound_runs.proofs.StaySo.{same_mirror}
use Rattle.sound_runs.proofs.OnceGranted.{IsUser, once, granted_more, granted_behind, not_both, period_user}
use Rattle.sound_runs.proofs.SoFar.{IsNotedSo}
use Rattle.sound_runs.proofs.FirstFrees.{AreNewMirrorsEmpty}
use Rattle.sound_runs.proofs.AllCases.{FindsUser, FindsAt, IsAllNoted}

-- ---- small facts

place_front : (before a b : List Entry) → AreInPlace before (a ++ b) → AreInPlace before a
place_front before [] b h = tt
place_front before (e ∷ a) b h = (h.0, place_front (before ++ e ∷ []) a b h.1)

same_file : (file f : FileId) → is_file file f ≡ true → file ≡ f
same_file file f e = ap (λ (n : ℕ). record { 0 = n }) (eqb-true file.0 f.0 e)

live_both : (live : Option (List MirrorId)) (P Q R : MirrorId → Type 0) → ((m : MirrorId) → P m → Q m → R m) → AllLive live P → AllLive live Q → AllLive live R
live_both None P Q R f h k = tt
live_both (Some live) P Q R f h k = both live h k
  where
    both : (l : List MirrorId) → AllByRecursion P l → AllByRecursion Q l → AllByRecursion R l
    both [] h k = tt
    both (m ∷ l) h k = (f m h.0 k.0, both l h.1 k.1)

live_each : (live : Option (List MirrorId)) (P : MirrorId → Type 0) → ((m : MirrorId) → is_among m live ≡ true → P m) → AllLive live P
live_each None P f = tt
live_each (Some live) P f = each live (λ m e. f m e)
  where
    each : (l : List MirrorId) → ((m : MirrorId) → list_any (λ k. is_mirror k m) l ≡ true → P m) → AllByRecursion P l
    each [] g = tt
    each (m ∷ l) g = (g m (ap (λ b. b || list_any (λ k. is_mirror k m) l) (itself m)), each l (λ k e. g k (or_right (is_mirror m k) (list_any (λ x. is_mirror x k) l) e)))
      where
        or_right : (a b : Bool) → b ≡ true → (a || b) ≡ true
        or_right true b e = refl
        or_right false b e = e

live_at : (live : Option (List MirrorId)) (P : MirrorId → Type 0) → AllLive live P → (m : MirrorId) → is_among m live ≡ true → P m
live_at None P h m e = absurd cc
live_at (Some live) P h m e = at live h e
  where
    at : (l : List MirrorId) → AllByRecursion P l → list_any (λ k. is_mirror k m) l ≡ true → P m
    at [] h e = absurd cc
    at (k ∷ l) h e = by_test (is_mirror k m) refl e (at l h.1)
      where
        by_test : (b : Bool) → is_mirror k m ≡ b → (b || list_any (λ x. is_mirror x m) l) ≡ true → (list_any (λ x. is_mirror x m) l ≡ true → P m) → P m
        by_test true is on rest = subst P (same_mirror k m is) h.0
        by_test false is on rest = rest on

all_users : (P : ℕ → Type 0) (users : List ℕ) → AllByRecursion P users → (u : ℕ) → IsUser u users → P u
all_users P [] h u i = absurd i
all_users P (x ∷ users) h u (inl e) = subst P e h.0
all_users P (x ∷ users) h u (inr i) = all_users P users h.1 u i

-- ---- marks of a user under whom nothing was applied

abbrev IsNotUnder : ℕ → Entry → Type 0
IsNotUnder uid (entry.Applied mirror cred at bytes) = cred.0 ≢ uid
IsNotUnder uid _ = Unit {0}

and_false : (a b : Bool) → b ≡ false → (a && b) ≡ false
and_false true b e = e
and_false false b e = refl

marks_one : (uid : ℕ) (m : MirrorId) (e : Entry) → IsNotUnder uid e → marks_after uid m no_marks e ≡ no_marks
marks_one uid m (entry.Applied mirror cred at bytes) other = ap (λ b. cond b (record { here = the_write at bytes ∷ []; covered = [] }) no_marks) (and_false (is_mirror mirror m) (eqb cred.0 uid) (ne_eqb cred.0 uid other))
marks_one uid m (entry.Committed mirror) other = cond_both (is_mirror mirror m) no_marks no_marks (λ (k : UserMarks). k ≡ no_marks) (λ e. refl) (λ e. refl)
marks_one uid m (entry.Restarted server pieces) other = cond_both (eqb server m.server) no_marks no_marks (λ (k : UserMarks). k ≡ no_marks) (λ e. refl) (λ e. refl)
marks_one uid m _ other = refl

marks_none : (uid : ℕ) (m : MirrorId) (entries : List Entry) → AllByRecursion (IsNotUnder uid) entries → marks_by uid m no_marks entries ≡ no_marks
marks_none uid m [] h = refl
marks_none uid m (e ∷ entries) h = ap (λ (k : UserMarks). marks_by uid m k entries) (marks_one uid m e h.0) ∙ marks_none uid m entries h.1

-- ---- each entry

module _ (journal : List Entry) (place : AreInPlace [] journal) (empty : AreNewMirrorsEmpty journal) (copies : AreCopiesSound journal) (f : FileId) where
  fenced : ArePeriodsFenced journal
  fenced = periods_fenced journal place

  has_so : (before : List Entry) (m : MirrorId) → Has (bytes_of before f) (content_of before m).content → Has (shows_first (view_of before f)) ((view_of before f).copy m).content
  has_so before m h = subst (λ (c : Copy). Has (shows_first (view_of before f)) c.content) (sym (copy_is f m before)) (subst (λ (b : List ℕ). Has b (content_of before m).content) (bytes_are f before) h)

  module _ (before behind : List Entry) (e : Entry) (is : journal ≡ before ++ e ∷ behind) where
    abbrev v : FileView
    v = view_of before f

    freed : (mirrors : List MirrorId) → e ≡ entry.Free f mirrors → IsFreedSo v mirrors → IsFreedSoundly v mirrors
    freed mirrors it (FirstSo base live fine) =
        First base live fine (all_more (λ m. Has [] (content_of before m).content) (λ m. Has [] (v.copy m).content) mirrors (λ m h. subst (λ (c : Copy). Has [] c.content) (sym (copy_is f m before)) h)
        (empty before behind f mirrors (is ∙ ap (λ x. before ++ x ∷ behind) it) (sym (live_is f before) ∙ live)))
    freed mirrors it (AgainSo still) = Again still.none still.base still.freed
    freed mirrors it (CleanSo uid ends) = BehindClean uid ends
    freed mirrors it (DirtySo uid ends reach) =
        BehindDirty uid ends (live_both v.live (λ m. Has (bytes_of before f) (content_of before m).content) (λ m. uid < (v.copy m).owner) (λ m. Has (shows_first v) (v.copy m).content × (uid < (v.copy m).owner)) (λ m h less. (has_so before m h, less))
        (subst (λ (l : Option (List MirrorId)). AllLive l (λ m. Has (bytes_of before f) (content_of before m).content)) (sym (live_is f before)) (copies.freed before behind f mirrors uid (is ∙ ap (λ x. before ++ x ∷ behind) it) ends)) reach)

    -- nothing was applied under a user that is granted now
    not_under : (file : FileId) (cred : Cred) (holder : NodeId) → e ≡ entry.Granted file cred holder → AllByRecursion (IsNotUnder cred.0) before
    not_under file cred holder it = all_by_split (IsNotUnder cred.0) [] before one
      where
        at : journal ≡ before ++ entry.Granted file cred holder ∷ behind
        at = is ∙ ap (λ x. before ++ x ∷ behind) it

        new : was_granted before cred.0 ≡ false
        new = (fenced before behind (entry.Granted file cred holder) at).new

        granted : was_granted journal cred.0 ≡ true
        granted = subst (λ (j : List Entry). was_granted j cred.0 ≡ true) (sym at) (granted_behind cred.0 before (entry.Granted file cred holder ∷ behind) (ap (λ b. b || was_granted behind cred.0) (eq-eqb cred.0 cred.0 refl)))

        under : (front rest : List Entry) (m : MirrorId) (c : Cred) (pos : ℕ) (bytes : List ℕ) → before ≡ front ++ entry.Applied m c pos bytes ∷ rest → c.0 ≢ cred.0
        under front rest m c pos bytes split same =
            let whole : journal ≡ front ++ entry.Applied m c pos bytes ∷ (rest ++ entry.Granted file cred holder ∷ behind) = at ∙ (ap (λ l. l ++ entry.Granted file cred holder ∷ behind) split ∙ append_assoc front (entry.Applied m c pos bytes ∷ rest) (entry.Granted file cred holder ∷ behind)) in
            by_whose (copies.applied front (rest ++ entry.Granted file cred holder ∷ behind) m c pos bytes whole).whose
          where
            by_whose : IsUsersWrite front c.0 (the_write pos bytes) ⊎ IsQuietWrite journal front m c.0 (the_write pos bytes) → ⊥
            by_whose (inl w) =
                not_both (was_granted before cred.0)
                (subst (λ (j : List Entry). was_granted j cred.0 ≡ true) (sym split) (granted_more cred.0 front (entry.Applied m c pos bytes ∷ rest) (ap (was_granted front) (sym same) ∙ w.granted))) new
            by_whose (inr w) = not_both (was_granted journal cred.0) granted (ap (was_granted journal) (sym same) ∙ w.never)

        one : (front : List Entry) (x : Entry) (rest : List Entry) → before ≡ front ++ x ∷ rest → IsNotUnder cred.0 x
        one front (entry.Applied m c pos bytes) rest split = under front rest m c pos bytes split
        one front (entry.Granted a b c) rest split = tt
        one front _ rest split = tt

    applied : (mirror : MirrorId) (cred : Cred) (pos : ℕ) (bytes : List ℕ) → IsAppliedInPlace journal before mirror cred.0 (the_write pos bytes) → IsReached v (users_of before f) → FindsUser before
        → AllLive v.live (λ m. is_mirror mirror m ≡ true → IsAppliedSoundly v m cred.0 pos bytes)
    applied mirror cred pos bytes a reached finds = live_each v.live (λ m. is_mirror mirror m ≡ true → IsAppliedSoundly v m cred.0 pos bytes) (λ m among same. by_whose m among same a.whose)
      where
        owner_is : (m : MirrorId) → is_mirror mirror m ≡ true → cred.0 ≡ (content_of before m).owner
        owner_is m same = a.owner ∙ ap (λ (k : MirrorId). (content_of before k).owner) (same_mirror mirror m same)

        by_period : (m : MirrorId) → is_among m v.live ≡ true → is_mirror mirror m ≡ true → IsUsersWrite before cred.0 (the_write pos bytes) → (v.periods ≡ cred.0 ∷ []) ⊎ CannotReach v cred.0 → IsAppliedSoundly v m cred.0 pos bytes
        by_period m among same w (inl period) = OfPeriod period (noted w.noted)
          where
            noted : IsIn (the_write pos bytes) (sent_of cred.0 before) ⊎ IsIn (the_write pos bytes) (rogue_of cred.0 before) → IsIn (the_write pos bytes) (v.sent cred.0) ⊎ IsIn (the_write pos bytes) (v.rogue cred.0)
            noted (inl i) = inl (subst (IsIn (the_write pos bytes)) (sym (sent_is f cred.0 before)) i)
            noted (inr i) = inr (subst (IsIn (the_write pos bytes)) (sym (rogue_is f cred.0 before)) i)
        by_period m among same w (inr reach) =
            let less : cred.0 < (v.copy m).owner = live_at v.live (λ k. cred.0 < (v.copy k).owner) reach m among in
            let its : (v.copy m).owner ≡ cred.0 = ap (λ (c : Copy). c.owner) (copy_is f m before) ∙ sym (owner_is m same) in
            absurd (omega (arith, less, its))

        by_whose : (m : MirrorId) → is_among m v.live ≡ true → is_mirror mirror m ≡ true → IsUsersWrite before cred.0 (the_write pos bytes) ⊎ IsQuietWrite journal before mirror cred.0 (the_write pos bytes) → IsAppliedSoundly v m cred.0 pos bytes
        by_whose m among same (inl w) =
            let its = owner_is m same in
            let user : IsUser (content_of before m).owner (users_of before f) = finds f m (ap (is_among m) (sym (live_is f before)) ∙ among) (ap (was_granted before) (sym its) ∙ w.granted) in
            by_period m among same w (all_users (λ u. (v.periods ≡ u ∷ []) ⊎ CannotReach v u) (users_of before f) reached cred.0 (subst (λ (u : ℕ). IsUser u (users_of before f)) (sym its) user))
        by_whose m among same (inr w) =
            NoChange (λ period. not_both (was_granted journal cred.0)
            (subst (λ (j : List Entry). was_granted j cred.0 ≡ true) (sym is) (granted_more cred.0 before (e ∷ behind) ((once before (place_front [] before (e ∷ behind) (subst (AreInPlace []) is place))).granted f cred.0 (period_user before f cred.0 period)))) w.never)
            (subst (λ (c : Copy). IsNoChange (shown_of c.content) (the_write pos bytes)) (sym (copy_is f m before))
            (live_at (live_in before f) (λ k. is_mirror mirror k ≡ true → IsNoChange (shown_of (content_of before k).content) (the_write pos bytes)) (w.same f) m (ap (is_among m) (sym (live_is f before)) ∙ among) same))

  sent_for : (before : List Entry) (file : FileId) (uid pos : ℕ) (bytes : List ℕ) → IsSentSoundly (view_of before file) uid pos bytes → IsSentSoundly (view_of before f) uid pos bytes
  sent_for before file uid pos bytes h = record {
    not_clean = subst (λ (l : List EndCause). AllByRecursion (λ c. is_clean c ≡ false) l) (causes_are file uid before ∙ sym (causes_are f uid before)) h.not_clean;
    none_strayed = rogue_is f uid before ∙ (sym (rogue_is file uid before) ∙ h.none_strayed);
    apart = λ w i. h.apart w (subst (IsIn w) (sent_is f uid before ∙ sym (sent_is file uid before)) i);
  }

  other_period : (before behind : List Entry) (file : FileId) (cred : Cred) (cause : EndCause) → journal ≡ before ++ entry.Ended file cred cause ∷ behind → (view_of before file).periods ≡ cred.0 ∷ [] → is_file file f ≡ false → (view_of before f).periods ≡ cred.0 ∷ [] → ⊥
  other_period before behind file cred cause is period other mine =
      let one = once before (place_front [] before (entry.Ended file cred cause ∷ behind) (subst (AreInPlace []) is place)) in
      eqb-false file.0 f.0 other (one.once file f cred.0 (period_user before file cred.0 period) (period_user before f cred.0 mine))

  sound_one : (before behind : List Entry) (e : Entry) → journal ≡ before ++ e ∷ behind → IsNotedSo before e → FindsAt before e → IsSoundEntry f (view_of before f) e
  sound_one before behind (entry.Free file mirrors) is k finds = λ it.
      let same = same_file file f it in
      freed before behind (entry.Free file mirrors) is mirrors (ap (λ (x : FileId). entry.Free x mirrors) same) (subst (λ (x : FileId). IsFreedSo (view_of before x) mirrors) same k.so)
  sound_one before behind (entry.Granted file cred holder) is k finds = λ it.
      let so = subst (λ (x : FileId). IsEntrySo (view_of before x) (entry.Granted file cred holder)) (same_file file f it) k.so in
      record {
        free = so.0.none;
        base = so.0.base;
        freed = so.0.freed;
        sent = so.1.sent;
        rogue = so.1.rogue;
        causes = so.1.causes;
        marks = λ m. marks_are f cred.0 m before ∙ marks_none cred.0 m before (not_under before behind (entry.Granted file cred holder) is file cred holder refl);
      }
  sound_one before behind (entry.Sent file cred pos bytes) is k finds = sent_for before file cred.0 pos bytes k.so
  sound_one before behind (entry.Rogue file cred pos bytes) is k finds = subst (λ (l : List EndCause). AllByRecursion (λ c. is_clean c ≡ false) l) (causes_are file cred.0 before ∙ sym (causes_are f cred.0 before)) k.so
  sound_one before behind (entry.Ended file cred cause) is k finds = (
    causes_are f cred.0 before ∙ (sym (causes_are file cred.0 before) ∙ k.so.0),
    λ it. subst (λ (x : FileId). IsEndedSoundly (view_of before x) cred.0 (is_clean cause)) (same_file file f it) k.so.1,
    λ other mine. other_period before behind file cred cause is k.so.1.period other mine,
  )
  sound_one before behind (entry.Left file mirror cause) is k finds = λ it. subst (λ (x : FileId). IsFineLive (live_after x (view_of before x).live (entry.Left file mirror cause))) (same_file file f it) k.so
  sound_one before behind (entry.Swapped file old new) is k finds = λ it.
      let same = same_file file f it in
      let so = subst (λ (x : FileId). IsFineLive (live_after x (view_of before x).live (entry.Swapped file old new)) × IsOutOfReach (view_of before x) new (view_of before x).periods (view_of before x).live) same k.so in
      record {
        same = has_so before new (copies.swapped before behind f old new (is ∙ ap (λ (x : FileId). before ++ entry.Swapped x old new ∷ behind) same));
        fine = so.0;
        out = so.1;
      }
  sound_one before behind (entry.Applied mirror cred pos bytes) is k finds =
      let a = copies.applied before behind mirror cred pos bytes is in
      (a.owner ∙ ap (λ (c : Copy). c.owner) (sym (copy_is f mirror before)), applied before behind (entry.Applied mirror cred pos bytes) is mirror cred pos bytes a (k.finds f) finds)
  sound_one before behind (entry.Owner mirror cred) is k finds = subst (λ (c : Copy). c.owner ≤ cred.0) (copy_is _ mirror before ∙ sym (copy_is f mirror before)) k.so
  sound_one before behind _ is k finds = tt

  sound_from : (before rest : List Entry) → journal ≡ before ++ rest → AreEach IsAllNoted before rest → AreSoundEntries f (view_of before f) rest
  sound_from before [] is k = tt
  sound_from before (e ∷ rest) is k = (
    sound_one before rest e is k.0.noted k.0.finds,
    subst (λ (w : FileView). AreSoundEntries f w rest) (view_push f before e) (sound_from (before ++ e ∷ []) rest (is ∙ sym (append_assoc before (e ∷ []) rest)) k.1),
  )

  pub all_sound : AreEach IsAllNoted [] journal → AreSoundEntries f no_view journal
  all_sound k = sound_from [] journal refl k
