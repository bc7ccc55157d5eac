-- Sound entries of a journal, part by part and one by one.
use Rattle.std.proofs.Common.{◌≡◌, ℕ, List, [], ◌∷◌, ◌++◌, refl, sym, ap, subst, ◌∙◌, append_assoc}
use Rattle.cluster_model.specs.declared.ids.FileId.{FileId}
use Rattle.cluster_model.specs.declared.entry.Entry.{Entry}
use Rattle.cluster_model.specs.declared.entry.Entry.TheVariants.{Told}
use Rattle.sound_journals.specs.Views.{FileView, view_after, view_by, no_view, view_of}
use Rattle.sound_journals.specs.Sound.{IsSoundEntry, AreSoundEntries, IsToldSoundly, AfterEnd, AtAll, AtEnd, IsToldEntry, AreToldEntries}
use Rattle.sound_journals.proofs.Folds.{view_append}

pub sound_join : (f : FileId) (v : FileView) (a b : List Entry) → AreSoundEntries f v a → AreSoundEntries f (view_by f v a) b → AreSoundEntries f v (a ++ b)
sound_join f v [] b s t = t
sound_join f v (e ∷ a) b s t = (s.0, sound_join f (view_after f v e) a b s.1 t)

-- what is told soundly before some entries is so before more of them
told_longer : (v : FileView) (uid at : ℕ) (bytes : List ℕ) (a b : List Entry) → IsToldSoundly v uid at bytes a → IsToldSoundly v uid at bytes (a ++ b)
told_longer v uid at bytes a b (AfterEnd h) = AfterEnd h
told_longer v uid at bytes a b (AtAll c) = AtAll c
told_longer v uid at bytes a b (AtEnd n) = AtEnd (record { file = n.file; cred = n.cred; cause = n.cause; more = n.more ++ b; are = ap (λ (es : List Entry). es ++ b) n.are; uid_is = n.uid_is; clean = n.clean })

told_more : (v : FileView) (e : Entry) (a b : List Entry) → IsToldEntry v e a → IsToldEntry v e (a ++ b)
told_more v (Told file cred at bytes) a b t = told_longer v cred.0 at bytes a b t
told_more v _ a b t = tt

pub told_join : (f : FileId) (v : FileView) (a b : List Entry) → AreToldEntries f v a → AreToldEntries f (view_by f v a) b → AreToldEntries f v (a ++ b)
told_join f v [] b s t = t
told_join f v (e ∷ a) b s t = (told_more v e a b s.0, told_join f (view_after f v e) a b s.1 t)

-- a journal that goes on
pub sound_on : (f : FileId) (journal entries : List Entry) → AreSoundEntries f no_view journal → AreSoundEntries f (view_of journal f) entries → AreSoundEntries f no_view (journal ++ entries)
sound_on f journal entries s t = sound_join f no_view journal entries s t

pub told_onward : (f : FileId) (journal entries : List Entry) → AreToldEntries f no_view journal → AreToldEntries f (view_of journal f) entries → AreToldEntries f no_view (journal ++ entries)
told_onward f journal entries s t = told_join f no_view journal entries s t

-- each entry behind those before it
each_by : (f : FileId) (before entries : List Entry) → ((front : List Entry) (e : Entry) (rest : List Entry) → before ++ entries ≡ front ++ e ∷ rest → IsSoundEntry f (view_of front f) e) → AreSoundEntries f (view_of before f) entries
each_by f before [] h = tt
each_by f before (e ∷ entries) h =
    (h before e entries refl, subst (λ (v : FileView). AreSoundEntries f v entries) (view_append f no_view before (e ∷ [])) (each_by f (before ++ e ∷ []) entries (λ front x rest are. h front x rest (sym (append_assoc before (e ∷ []) entries) ∙ are))))

pub sound_each : (f : FileId) (journal : List Entry) → ((front : List Entry) (e : Entry) (rest : List Entry) → journal ≡ front ++ e ∷ rest → IsSoundEntry f (view_of front f) e) → AreSoundEntries f no_view journal
sound_each f journal h = each_by f [] journal h
