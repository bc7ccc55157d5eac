-- The view of a file says what the journal's own folds say.
use Rattle.std.proofs.Common.{◌≡◌, ℕ, Bool, true, false, eqb, cond, List, [], ◌∷◌, ◌++◌, Option, Some, None, refl, sym, ap, ◌∙◌, append-nil, append_assoc}
use Rattle.cluster_model.specs.declared.ids.FileId.{FileId}
use Rattle.cluster_model.specs.declared.ids.MirrorId.{MirrorId}
use Rattle.cluster_model.specs.declared.phase.EndCause.{EndCause}
use Rattle.cluster_model.specs.declared.entry.Entry.{Entry}
use Rattle.cluster_model.specs.declared.entry.Entry.TheVariants.{Granted, Sent, Rogue, Ended}
use Rattle.cluster_model.specs.Content.{Pending, shown_of}
use Rattle.cluster_model.specs.Journal.{Copy, copy_by, content_of}
use Rattle.cluster_laws.specs.FenceLaw.{is_file, live_by, live_in}
use Rattle.cluster_laws.specs.Agreement.{a_write, sent_in, strayed_in, sent_of, rogue_of, cause_in, causes_of, shown_at, bytes_of}
use Rattle.sound_journals.specs.Marks.{marks_by}
use Rattle.sound_journals.specs.Views.{FileView, first_shown, sent_after, rogue_after, causes_after, view_after, view_by, no_view, view_of}
use Rattle.sound_journals.specs.Sound.{shows_first}

-- ---- joined journals

pub view_append : (f : FileId) (v : FileView) (a b : List Entry) → view_by f v (a ++ b) ≡ view_by f (view_by f v a) b
view_append f v [] b = refl
view_append f v (e ∷ a) b = view_append f (view_after f v e) a b

pub view_push : (f : FileId) (journal : List Entry) (e : Entry) → view_of (journal ++ e ∷ []) f ≡ view_after f (view_of journal f) e
view_push f journal e = view_append f no_view journal (e ∷ [])

-- ---- the users that a file was granted to, the last one first

abbrev pub users_after : FileId → List ℕ → Entry → List ℕ
users_after f users (Granted file cred holder) = cond (is_file file f) (cred.0 ∷ users) users
users_after f users _ = users

abbrev pub users_by : FileId → List ℕ → List Entry → List ℕ
users_by f users [] = users
users_by f users (e ∷ entries) = users_by f (users_after f users e) entries

abbrev pub users_of : List Entry → FileId → List ℕ
users_of journal f = users_by f [] journal

pub users_append : (f : FileId) (users : List ℕ) (a b : List Entry) → users_by f users (a ++ b) ≡ users_by f (users_by f users a) b
users_append f users [] b = refl
users_append f users (e ∷ a) b = users_append f (users_after f users e) a b

-- ---- live lists and bytes

live_on : (f : FileId) (v : FileView) (journal : List Entry) → (view_by f v journal).live ≡ live_by f v.live journal
live_on f v [] = refl
live_on f v (e ∷ journal) = live_on f (view_after f v e) journal

copy_on : (f : FileId) (v : FileView) (m : MirrorId) (journal : List Entry) → (view_by f v journal).copy m ≡ copy_by m (v.copy m) journal
copy_on f v m [] = refl
copy_on f v m (e ∷ journal) = copy_on f (view_after f v e) m journal

pub live_is : (f : FileId) (journal : List Entry) → (view_of journal f).live ≡ live_in journal f
live_is f journal = live_on f no_view journal

pub copy_is : (f : FileId) (m : MirrorId) (journal : List Entry) → (view_of journal f).copy m ≡ content_of journal m
copy_is f m journal = copy_on f no_view m journal

pub bytes_are : (f : FileId) (journal : List Entry) → bytes_of journal f ≡ shows_first (view_of journal f)
bytes_are f journal = first (live_in journal f) ∙ ap (first_shown (view_of journal f).copy) (sym (live_is f journal))
  where
    first : (live : Option (List MirrorId)) → shown_at journal live ≡ first_shown (view_of journal f).copy live
    first None = refl
    first (Some []) = refl
    first (Some (m ∷ live)) = ap (λ (c : Copy). shown_of c.content) (sym (copy_is f m journal))

-- ---- users

sent_one : (uid : ℕ) (all : List Pending) (e : Entry) → sent_after uid all e ≡ all ++ sent_in uid e
sent_one uid all (Sent file cred at bytes) = by_test (eqb cred.0 uid)
  where
    by_test : (b : Bool) → cond b (all ++ a_write at bytes) all ≡ all ++ cond b (a_write at bytes) []
    by_test true = refl
    by_test false = sym (append-nil all)
sent_one uid all _ = sym (append-nil all)

rogue_one : (uid : ℕ) (all : List Pending) (e : Entry) → rogue_after uid all e ≡ all ++ strayed_in uid e
rogue_one uid all (Rogue file cred at bytes) = by_test (eqb cred.0 uid)
  where
    by_test : (b : Bool) → cond b (all ++ a_write at bytes) all ≡ all ++ cond b (a_write at bytes) []
    by_test true = refl
    by_test false = sym (append-nil all)
rogue_one uid all _ = sym (append-nil all)

cause_one : (uid : ℕ) (all : List EndCause) (e : Entry) → causes_after uid all e ≡ all ++ cause_in uid e
cause_one uid all (Ended file cred cause) = by_test (eqb cred.0 uid)
  where
    by_test : (b : Bool) → cond b (all ++ cause ∷ []) all ≡ all ++ cond b (cause ∷ []) []
    by_test true = refl
    by_test false = sym (append-nil all)
cause_one uid all _ = sym (append-nil all)

sent_by : (f : FileId) (v : FileView) (uid : ℕ) (journal : List Entry) → (view_by f v journal).sent uid ≡ v.sent uid ++ sent_of uid journal
sent_by f v uid [] = sym (append-nil (v.sent uid))
sent_by f v uid (e ∷ journal) = sent_by f (view_after f v e) uid journal ∙ ap (λ (all : List Pending). all ++ sent_of uid journal) (sent_one uid (v.sent uid) e) ∙ append_assoc (v.sent uid) (sent_in uid e) (sent_of uid journal)

rogue_by : (f : FileId) (v : FileView) (uid : ℕ) (journal : List Entry) → (view_by f v journal).rogue uid ≡ v.rogue uid ++ rogue_of uid journal
rogue_by f v uid [] = sym (append-nil (v.rogue uid))
rogue_by f v uid (e ∷ journal) = rogue_by f (view_after f v e) uid journal ∙ ap (λ (all : List Pending). all ++ rogue_of uid journal) (rogue_one uid (v.rogue uid) e) ∙ append_assoc (v.rogue uid) (strayed_in uid e) (rogue_of uid journal)

causes_by : (f : FileId) (v : FileView) (uid : ℕ) (journal : List Entry) → (view_by f v journal).causes uid ≡ v.causes uid ++ causes_of uid journal
causes_by f v uid [] = sym (append-nil (v.causes uid))
causes_by f v uid (e ∷ journal) = causes_by f (view_after f v e) uid journal ∙ ap (λ (all : List EndCause). all ++ causes_of uid journal) (cause_one uid (v.causes uid) e) ∙ append_assoc (v.causes uid) (cause_in uid e) (causes_of uid journal)

pub sent_is : (f : FileId) (uid : ℕ) (journal : List Entry) → (view_of journal f).sent uid ≡ sent_of uid journal
sent_is f uid journal = sent_by f no_view uid journal

pub rogue_is : (f : FileId) (uid : ℕ) (journal : List Entry) → (view_of journal f).rogue uid ≡ rogue_of uid journal
rogue_is f uid journal = rogue_by f no_view uid journal

pub causes_are : (f : FileId) (uid : ℕ) (journal : List Entry) → (view_of journal f).causes uid ≡ causes_of uid journal
causes_are f uid journal = causes_by f no_view uid journal

marks_on : (f : FileId) (v : FileView) (uid : ℕ) (m : MirrorId) (journal : List Entry) → (view_by f v journal).marks uid m ≡ marks_by uid m (v.marks uid m) journal
marks_on f v uid m [] = refl
marks_on f v uid m (e ∷ journal) = marks_on f (view_after f v e) uid m journal

pub marks_are : (f : FileId) (uid : ℕ) (m : MirrorId) (journal : List Entry) → (view_of journal f).marks uid m ≡ marks_by uid m (no_view.marks uid m) journal
marks_are f uid m journal = marks_on f no_view uid m journal
