-- A uid is granted once, for one file.
use Rattle.std.proofs.Common.{◌≡◌, ℕ, ◌⊎◌, Bool, true, false, ◌||◌, eqb, cond, List, [], ◌∷◌, ◌++◌, refl, sym, ap, subst, ◌∙◌, inl, inr, append_assoc, append-nil}
use Rattle.std.proofs.lemmas.Bool.{cond_both, eqb-true, eq-eqb}
use Rattle.cluster_model.specs.declared.ids.FileId.{FileId}
use Rattle.cluster_model.specs.declared.ids.NodeId.{NodeId}
use Rattle.cluster_model.specs.declared.ids.Cred.{Cred}
use Rattle.cluster_model.specs.declared.entry.Entry.{Entry}
use Rattle.cluster_model.specs.declared.entry.Entry.TheVariants as entry
use Rattle.cluster_laws.specs.FenceLaw.{is_file}
use Rattle.cluster_laws.specs.Periods.{grants, was_granted, IsInPlace}
use Rattle.sound_journals.specs.Views.{FileView, periods_after, view_after, view_by, no_view, view_of}
use Rattle.cluster_laws.proofs.PeriodFacts.{AreInPlace}
use Rattle.sound_runs.proofs.ViewFolds.{users_after, users_by, users_of, users_append}

abbrev pub IsUser : ℕ → List ℕ → Type 0
IsUser u [] = ⊥
IsUser u (x ∷ users) = (x ≡ u) ⊎ IsUser u users

or_left : (a b : Bool) → a ≡ true → (a || b) ≡ true
or_left true b e = refl
or_left false b e = absurd cc

or_right : (a b : Bool) → b ≡ true → (a || b) ≡ true
or_right true b e = refl
or_right false b e = e

or_none : (a b : Bool) → (a || b) ≡ false → (a ≡ false) × (b ≡ false)
or_none true b e = absurd cc
or_none false b e = (refl, e)

pub granted_more : (uid : ℕ) (a b : List Entry) → was_granted a uid ≡ true → was_granted (a ++ b) uid ≡ true
granted_more uid [] b h = absurd cc
granted_more uid (e ∷ a) b h = by_test (grants uid e) refl h (granted_more uid a b)
  where
    by_test : (t : Bool) → grants uid e ≡ t → (t || was_granted a uid) ≡ true → (was_granted a uid ≡ true → was_granted (a ++ b) uid ≡ true) → (grants uid e || was_granted (a ++ b) uid) ≡ true
    by_test true is k more = or_left (grants uid e) (was_granted (a ++ b) uid) is
    by_test false is k more = or_right (grants uid e) (was_granted (a ++ b) uid) (more k)

pub granted_behind : (uid : ℕ) (a b : List Entry) → was_granted b uid ≡ true → was_granted (a ++ b) uid ≡ true
granted_behind uid [] b h = h
granted_behind uid (e ∷ a) b h = or_right (grants uid e) (was_granted (a ++ b) uid) (granted_behind uid a b h)

-- neither part
pub granted_none : (uid : ℕ) (a b : List Entry) → was_granted (a ++ b) uid ≡ false → (was_granted a uid ≡ false) × (was_granted b uid ≡ false)
granted_none uid [] b h = (refl, h)
granted_none uid (e ∷ a) b h =
    let parts = or_none (grants uid e) (was_granted (a ++ b) uid) h in
    let rest = granted_none uid a b parts.1 in
    (ap (λ t. t || was_granted a uid) parts.0 ∙ rest.0, rest.1)

pub not_both : (b : Bool) → b ≡ true → b ≡ false → ⊥
not_both true e f = cc
not_both false e f = cc

-- ---- users were granted, each for one file

pub record IsOnce (journal : List Entry) : Type 0 where
  pub granted : (f : FileId) (u : ℕ) → IsUser u (users_of journal f) → was_granted journal u ≡ true
  pub once : (f g : FileId) (u : ℕ) → IsUser u (users_of journal f) → IsUser u (users_of journal g) → f.0 ≡ g.0

pub users_push : (journal : List Entry) (e : Entry) (f : FileId) → users_of (journal ++ e ∷ []) f ≡ users_after f (users_of journal f) e
users_push journal e f = users_append f [] journal (e ∷ [])

-- a user behind an entry
pub data IsNewUser (u : ℕ) (f : FileId) (users : List ℕ) (e : Entry) : Type 0 where
  Old : IsUser u users → IsNewUser u f users e
  New : (file : FileId) (cred : Cred) (holder : NodeId) → e ≡ entry.Granted file cred holder → cred.0 ≡ u → file.0 ≡ f.0 → IsNewUser u f users e

user_by : (u : ℕ) (f : FileId) (users : List ℕ) (e : Entry) → IsUser u (users_after f users e) → IsNewUser u f users e
user_by u f users (entry.Granted file cred holder) h = by_test (is_file file f) refl h
  where
    by_test : (b : Bool) → is_file file f ≡ b → IsUser u (cond b (cred.0 ∷ users) users) → IsNewUser u f users (entry.Granted file cred holder)
    by_test true is (inl e) = New file cred holder refl e (eqb-true file.0 f.0 is)
    by_test true is (inr k) = Old k
    by_test false is k = Old k
user_by u f users _ h = Old h

module _ (before : List Entry) (e : Entry) (here : IsInPlace before e) (k : IsOnce before) where
  pushed_granted : (f : FileId) (u : ℕ) → IsNewUser u f (users_of before f) e → was_granted (before ++ e ∷ []) u ≡ true
  pushed_granted f u (Old h) = granted_more u before (e ∷ []) (k.granted f u h)
  pushed_granted f u (New file cred holder is same at) =
      granted_behind u before (e ∷ []) (subst (λ (x : Entry). (grants u x || false) ≡ true) (sym is) (or_left (eqb cred.0 u) false (eq-eqb cred.0 u same)))

  unused : (file : FileId) (cred : Cred) (holder : NodeId) → e ≡ entry.Granted file cred holder → was_granted before cred.0 ≡ false
  unused file cred holder is = (subst (IsInPlace before) is here).new

  pushed_once : (f g : FileId) (u : ℕ) → IsNewUser u f (users_of before f) e → IsNewUser u g (users_of before g) e → f.0 ≡ g.0
  pushed_once f g u (Old a) (Old b) = k.once f g u a b
  pushed_once f g u (Old a) (New file cred holder is same at) = absurd (not_both (was_granted before u) (k.granted f u a) (ap (was_granted before) (sym same) ∙ unused file cred holder is))
  pushed_once f g u (New file cred holder is same at) (Old b) = absurd (not_both (was_granted before u) (k.granted g u b) (ap (was_granted before) (sym same) ∙ unused file cred holder is))
  pushed_once f g u (New file cred holder is same at) (New file2 cred2 holder2 is2 same2 at2) = sym at ∙ (ap file_of (sym is ∙ is2) ∙ at2)
    where
      file_of : Entry → ℕ
      file_of (entry.Granted x c h) = x.0
      file_of _ = 0

  pushed : IsOnce (before ++ e ∷ [])
  pushed = record {
    granted = λ f u h. pushed_granted f u (user_by u f (users_of before f) e (subst (IsUser u) (users_push before e f) h));
    once = λ f g u a b. pushed_once f g u (user_by u f (users_of before f) e (subst (IsUser u) (users_push before e f) a)) (user_by u g (users_of before g) e (subst (IsUser u) (users_push before e g) b));
  }

once_from : (before rest : List Entry) → AreInPlace before rest → IsOnce before → IsOnce (before ++ rest)
once_from before [] place k = subst IsOnce (sym (append-nil before)) k
once_from before (e ∷ rest) place k = subst IsOnce (append_assoc before (e ∷ []) rest) (once_from (before ++ e ∷ []) rest place.1 (pushed before e place.0 k))

pub once : (journal : List Entry) → AreInPlace [] journal → IsOnce journal
once journal place = once_from [] journal place (record { granted = λ f u h. absurd h; once = λ f g u a b. absurd a })

-- ---- a period's user is one

abbrev pub AreUsers : List ℕ → List ℕ → Type 0
AreUsers [] users = Unit {0}
AreUsers (u ∷ periods) users = IsUser u users × AreUsers periods users

users_more : (periods : List ℕ) (u : ℕ) (users : List ℕ) → AreUsers periods users → AreUsers periods (u ∷ users)
users_more [] u users h = tt
users_more (p ∷ periods) u users h = (inr h.0, users_more periods u users h.1)

users_last : (periods : List ℕ) (u : ℕ) (users : List ℕ) → AreUsers periods users → AreUsers (periods ++ u ∷ []) (u ∷ users)
users_last [] u users h = (inl refl, tt)
users_last (p ∷ periods) u users h = (inr h.0, users_last periods u users h.1)

one_on : (f : FileId) (periods users : List ℕ) (e : Entry) → AreUsers periods users → AreUsers (periods_after f periods e) (users_after f users e)
one_on f periods users (entry.Free file mirrors) h = cond_both (is_file file f) [] periods (λ (p : List ℕ). AreUsers p users) (λ e. tt) (λ e. h)
one_on f periods users (entry.Granted file cred holder) h = by_test (is_file file f)
  where
    by_test : (b : Bool) → AreUsers (cond b (periods ++ cred.0 ∷ []) periods) (cond b (cred.0 ∷ users) users)
    by_test true = users_last periods cred.0 users h
    by_test false = h
one_on f periods users _ h = h

all_on : (f : FileId) (v : FileView) (users : List ℕ) (entries : List Entry) → AreUsers v.periods users → AreUsers (view_by f v entries).periods (users_by f users entries)
all_on f v users [] h = h
all_on f v users (e ∷ entries) h = all_on f (view_after f v e) (users_after f users e) entries (one_on f v.periods users e h)

pub period_user : (journal : List Entry) (f : FileId) (u : ℕ) → (view_of journal f).periods ≡ u ∷ [] → IsUser u (users_of journal f)
period_user journal f u is = (subst (λ (p : List ℕ). AreUsers p (users_of journal f)) is (all_on f no_view [] journal tt)).0
