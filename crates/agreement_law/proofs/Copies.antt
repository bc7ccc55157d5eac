-- What copies do in a bound run is sound.
use Rattle.std.proofs.Common.{◌≡◌, ℕ, false, List, [], ◌∷◌, ◌++◌, Option, Some, None, refl, sym, ap, ◌∙◌, ◌⊎◌, inl, inr}
use Rattle.std.specs.List.{AllByRecursion}
use Rattle.cluster_model.specs.declared.ids.FileId.{FileId}
use Rattle.cluster_model.specs.declared.ids.Cred.{Cred}
use Rattle.cluster_model.specs.declared.ids.MirrorId.{MirrorId}
use Rattle.cluster_model.specs.declared.entry.Entry.{Entry}
use Rattle.cluster_model.specs.declared.entry.Entry.TheVariants.{Free, Granted}
use Rattle.cluster_model.specs.Content.{Pending}
use Rattle.cluster_laws.specs.Periods.{was_granted}
use Rattle.copied_bytes.specs.CopiedBytes as copied
use Rattle.sound_journals.specs.Views.{FileView, periods_after, view_after, view_by, view_of, no_view}
use Rattle.sound_journals.specs.Sound.{AllLive, EndsPeriod}
use Rattle.sound_journals.proofs.Folds.{causes_are}
use Rattle.machine_walk.specs.Owners.{IsUsersWrite, IsAppliedByOwner, AppliesByOwners}
use Rattle.sound_runs.specs.BoundJournals.{IsQuietWrite, IsAppliedInPlace, AreCopiesSound}

all_live : (o : Option (List MirrorId)) (P : MirrorId → Type 0) → ((live : List MirrorId) → o ≡ Some live → AllByRecursion P live) → AllLive o P
all_live None P h = tt
all_live (Some live) P h = h live refl

-- the users since a file was free are those of its view
same_users : (f : FileId) (users : List ℕ) (e : Entry) → periods_after f users e ≡ copied.users_behind f users e
same_users f users (Free file mirrors) = refl
same_users f users (Granted file cred holder) = refl
same_users f users e = refl

users_by : (f : FileId) (v : FileView) (users : List ℕ) (entries : List Entry) → v.periods ≡ users → (view_by f v entries).periods ≡ copied.users_by f users entries
users_by f v users [] is = is
users_by f v users (e ∷ entries) is = users_by f (view_after f v e) (copied.users_behind f users e) entries (ap (λ (p : List ℕ). periods_after f p e) is ∙ same_users f users e)

ended : (before : List Entry) (f : FileId) (uid : ℕ) → EndsPeriod (view_of before f) uid false → copied.EndedDirty before f uid
ended before f uid end = record {
  user = sym (users_by f no_view [] before refl) ∙ end.period;
  cause = end.cause;
  causes = sym (causes_are f uid before) ∙ end.causes;
  dirty = end.is_so;
}

module _ (journal : List Entry) (applied : AppliesByOwners journal) (late : copied.CopiesLeaveAsShown journal) (swapped : copied.SwapsInAlike journal) (freed : copied.FreesAlike journal) where
  placed : (before behind : List Entry) (m : MirrorId) (cred : Cred) (w : Pending) → IsAppliedByOwner journal before m cred w → (was_granted journal cred.0 ≡ false → copied.LeavesAsShown before m w) → IsAppliedInPlace journal before m cred.0 w
  placed before behind m cred w a quiet = record { owner = a.owner; whose = whose a.whose }
    where
      whose : IsUsersWrite before cred.0 w ⊎ (was_granted journal cred.0 ≡ false) → IsUsersWrite before cred.0 w ⊎ IsQuietWrite journal before m cred.0 w
      whose (inl users) = inl users
      whose (inr never) = inr (record { never = never; same = λ f. all_live _ _ (quiet never f) })

  pub copies_sound : AreCopiesSound journal
  copies_sound = record {
    applied = λ before behind m cred at bytes is. placed before behind m cred _ (applied before behind m cred at bytes is) (late before behind m cred at bytes is);
    swapped = λ before behind f old new is. (swapped before behind f old new is).has;
    freed = λ before behind f live uid is end. all_live _ _ (freed before behind f live uid is (ended before f uid end));
  }
