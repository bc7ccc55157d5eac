-- The view of a file says what the journal's own folds say.
use Rattle.std.proofs.Common.{◌≡◌, ℕ, Bool, true, false, ◌||◌, eqb, cond, List, [], ◌∷◌, ◌++◌, Option, Some, None, refl, sym, ap, ◌∙◌, append-nil, append_assoc, eq-eqb}
use Rattle.std.proofs.lemmas.Bool.{cond-true, cond-false}
use Rattle.cluster_model.specs.declared.ids.FileId.{FileId}
use Rattle.cluster_model.specs.declared.ids.MirrorId.{MirrorId}
use Rattle.cluster_model.specs.declared.phase.EndCause.{EndCause}
use Rattle.cluster_model.specs.declared.entry.Entry.{Entry}
use Rattle.cluster_model.specs.declared.entry.Entry.TheVariants.{Free, Granted, Sent, Rogue, Ended}
use Rattle.cluster_model.specs.Content.{Pending, shown_of}
use Rattle.cluster_model.specs.Journal.{Copy, copy_by, content_of}
use Rattle.cluster_laws.specs.FenceLaw.{is_file, live_by, live_in}
use Rattle.cluster_laws.specs.Agreement.{a_write, sent_in, strayed_in, sent_of, rogue_of, cause_in, causes_of, period_in, periods_of, is_free_entry, has_free, shown_at, bytes_of}
use Rattle.sound_journals.specs.Marks.{marks_by, marks_of}
use Rattle.sound_journals.specs.Views.{FileView, first_shown, base_after, periods_after, sent_after, rogue_after, causes_after, view_after, view_by, no_view, view_of}
use Rattle.sound_journals.specs.Sound.{shows_first, AreSoundEntries}
use Rattle.sound_journals.proofs.Standing.{Stand, NotYet}
use Rattle.sound_journals.proofs.Steps.{step_on}

-- ---- joined journals

pub view_append : (f : FileId) (v : FileView) (a b : List Entry) → view_by f v (a ++ b) ≡ view_by f (view_by f v a) b
view_append f v [] b = refl
view_append f v (e ∷ a) b = view_append f (view_after f v e) a b

pub sound_front : (f : FileId) (v : FileView) (a b : List Entry) → AreSoundEntries f v (a ++ b) → AreSoundEntries f v a
sound_front f v [] b s = tt
sound_front f v (e ∷ a) b s = (s.0, sound_front f (view_after f v e) a b s.1)

pub sound_behind : (f : FileId) (v : FileView) (a b : List Entry) → AreSoundEntries f v (a ++ b) → AreSoundEntries f (view_by f v a) b
sound_behind f v [] b s = s
sound_behind f v (e ∷ a) b s = sound_behind f (view_after f v e) a b s.1

run_on : (f : FileId) (v : FileView) (entries : List Entry) → AreSoundEntries f v entries → Stand v → Stand (view_by f v entries)
run_on f v [] s st = st
run_on f v (e ∷ entries) s st = run_on f (view_after f v e) entries s.1 (step_on f v e s.0 st)

pub stands : (f : FileId) (journal : List Entry) → AreSoundEntries f no_view journal → Stand (view_of journal f)
stands f journal s = run_on f no_view journal s (NotYet refl refl refl)

-- ---- live lists and bytes

pub live_is : (f : FileId) (v : FileView) (journal : List Entry) → (view_by f v journal).live ≡ live_by f v.live journal
live_is f v [] = refl
live_is f v (e ∷ journal) = live_is f (view_after f v e) journal

pub copy_is : (f : FileId) (v : FileView) (m : MirrorId) (journal : List Entry) → (view_by f v journal).copy m ≡ copy_by m (v.copy m) journal
copy_is f v m [] = refl
copy_is f v m (e ∷ journal) = copy_is f (view_after f v e) m journal

pub bytes_are : (f : FileId) (journal : List Entry) → bytes_of journal f ≡ shows_first (view_of journal f)
bytes_are f journal = first (live_in journal f) ∙ ap (first_shown (view_of journal f).copy) (sym (live_is f no_view journal))
  where
    first : (live : Option (List MirrorId)) → shown_at journal live ≡ first_shown (view_of journal f).copy live
    first None = refl
    first (Some []) = refl
    first (Some (m ∷ live)) = ap (λ (c : Copy). shown_of c.content) (sym (copy_is f no_view m journal))

pub live_now : (f : FileId) (journal : List Entry) → (view_of journal f).live ≡ live_in journal f
live_now f journal = live_is f no_view journal

pub copy_now : (f : FileId) (m : MirrorId) (journal : List Entry) → (view_of journal f).copy m ≡ content_of journal m
copy_now f m journal = copy_is f no_view m journal

marks_by_journal : (f : FileId) (v : FileView) (uid : ℕ) (m : MirrorId) (journal : List Entry) → (view_by f v journal).marks uid m ≡ marks_by uid m (v.marks uid m) journal
marks_by_journal f v uid m [] = refl
marks_by_journal f v uid m (e ∷ journal) = marks_by_journal f (view_after f v e) uid m journal

pub marks_are : (f : FileId) (uid : ℕ) (m : MirrorId) (journal : List Entry) → (view_of journal f).marks uid m ≡ marks_of journal uid m
marks_are f uid m journal = marks_by_journal f no_view uid m journal

-- ---- users

sent_one : (uid : ℕ) (all : List Pending) (e : Entry) → sent_after uid all e ≡ all ++ sent_in uid e
sent_one uid all (Sent file cred at bytes) = by_test (eqb cred.0 uid)
  where
    by_test : (b : Bool) → cond b (all ++ a_write at bytes) all ≡ all ++ cond b (a_write at bytes) []
    by_test true = refl
    by_test false = sym (append-nil all)
sent_one uid all _ = sym (append-nil all)

rogue_one : (uid : ℕ) (all : List Pending) (e : Entry) → rogue_after uid all e ≡ all ++ strayed_in uid e
rogue_one uid all (Rogue file cred at bytes) = by_test (eqb cred.0 uid)
  where
    by_test : (b : Bool) → cond b (all ++ a_write at bytes) all ≡ all ++ cond b (a_write at bytes) []
    by_test true = refl
    by_test false = sym (append-nil all)
rogue_one uid all _ = sym (append-nil all)

cause_one : (uid : ℕ) (all : List EndCause) (e : Entry) → causes_after uid all e ≡ all ++ cause_in uid e
cause_one uid all (Ended file cred cause) = by_test (eqb cred.0 uid)
  where
    by_test : (b : Bool) → cond b (all ++ cause ∷ []) all ≡ all ++ cond b (cause ∷ []) []
    by_test true = refl
    by_test false = sym (append-nil all)
cause_one uid all _ = sym (append-nil all)

sent_by : (f : FileId) (v : FileView) (uid : ℕ) (journal : List Entry) → (view_by f v journal).sent uid ≡ v.sent uid ++ sent_of uid journal
sent_by f v uid [] = sym (append-nil (v.sent uid))
sent_by f v uid (e ∷ journal) = sent_by f (view_after f v e) uid journal ∙ ap (λ (all : List Pending). all ++ sent_of uid journal) (sent_one uid (v.sent uid) e) ∙ append_assoc (v.sent uid) (sent_in uid e) (sent_of uid journal)

rogue_by : (f : FileId) (v : FileView) (uid : ℕ) (journal : List Entry) → (view_by f v journal).rogue uid ≡ v.rogue uid ++ rogue_of uid journal
rogue_by f v uid [] = sym (append-nil (v.rogue uid))
rogue_by f v uid (e ∷ journal) = rogue_by f (view_after f v e) uid journal ∙ ap (λ (all : List Pending). all ++ rogue_of uid journal) (rogue_one uid (v.rogue uid) e) ∙ append_assoc (v.rogue uid) (strayed_in uid e) (rogue_of uid journal)

causes_by : (f : FileId) (v : FileView) (uid : ℕ) (journal : List Entry) → (view_by f v journal).causes uid ≡ v.causes uid ++ causes_of uid journal
causes_by f v uid [] = sym (append-nil (v.causes uid))
causes_by f v uid (e ∷ journal) = causes_by f (view_after f v e) uid journal ∙ ap (λ (all : List EndCause). all ++ causes_of uid journal) (cause_one uid (v.causes uid) e) ∙ append_assoc (v.causes uid) (cause_in uid e) (causes_of uid journal)

pub sent_is : (f : FileId) (uid : ℕ) (journal : List Entry) → (view_of journal f).sent uid ≡ sent_of uid journal
sent_is f uid journal = sent_by f no_view uid journal

pub rogue_is : (f : FileId) (uid : ℕ) (journal : List Entry) → (view_of journal f).rogue uid ≡ rogue_of uid journal
rogue_is f uid journal = rogue_by f no_view uid journal

pub causes_are : (f : FileId) (uid : ℕ) (journal : List Entry) → (view_of journal f).causes uid ≡ causes_of uid journal
causes_are f uid journal = causes_by f no_view uid journal

-- ---- between two entries free

or_no : (a b : Bool) → (a || b) ≡ false → (a ≡ false) × (b ≡ false)
or_no true b h = absurd (cc)
or_no false b h = (refl, h)

period_one : (f : FileId) (periods : List ℕ) (e : Entry) → is_free_entry f e ≡ false → periods_after f periods e ≡ periods ++ period_in f e
period_one f periods (Free file live) none = cond-false (is_file file f) [] periods none ∙ sym (append-nil periods)
period_one f periods (Granted file cred holder) none = by_test (is_file file f)
  where
    by_test : (b : Bool) → cond b (periods ++ cred.0 ∷ []) periods ≡ periods ++ cond b (cred.0 ∷ []) []
    by_test true = refl
    by_test false = sym (append-nil periods)
period_one f periods _ none = sym (append-nil periods)

base_one : (f : FileId) (v : FileView) (e : Entry) → is_free_entry f e ≡ false → base_after f v e ≡ v.base
base_one f v (Free file live) none = cond-false (is_file file f) _ _ none
base_one f v _ none = refl

pub periods_are : (f : FileId) (v : FileView) (entries : List Entry) → has_free f entries ≡ false → (view_by f v entries).periods ≡ v.periods ++ periods_of f entries
periods_are f v [] none = sym (append-nil v.periods)
periods_are f v (e ∷ entries) none =
    let parts = or_no (is_free_entry f e) (has_free f entries) none in
    periods_are f (view_after f v e) entries parts.1 ∙ ap (λ (all : List ℕ). all ++ periods_of f entries) (period_one f v.periods e parts.0) ∙ append_assoc v.periods (period_in f e) (periods_of f entries)

pub base_stays : (f : FileId) (v : FileView) (entries : List Entry) → has_free f entries ≡ false → (view_by f v entries).base ≡ v.base
base_stays f v [] none = refl
base_stays f v (e ∷ entries) none =
    let parts = or_no (is_free_entry f e) (has_free f entries) none in
    base_stays f (view_after f v e) entries parts.1 ∙ base_one f v e parts.0

-- ---- at an entry free

pub own_file : (f : FileId) → is_file f f ≡ true
own_file f = eq-eqb f.0 f.0 refl

pub base_free : (f : FileId) (v : FileView) (live : List MirrorId) → (view_after f v (Free f live)).base ≡ Some (shows_first (view_after f v (Free f live)))
base_free f v live = cond-true (is_file f f) (Some (shows_first (view_after f v (Free f live)))) v.base (own_file f)

pub periods_free : (f : FileId) (v : FileView) (live : List MirrorId) → (view_after f v (Free f live)).periods ≡ []
periods_free f v live = cond-true (is_file f f) [] v.periods (own_file f)
