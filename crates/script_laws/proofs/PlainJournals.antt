-- A journal of packets, deliveries and what data servers enter tells of no period, no fence and no READ, and so obeys all laws of them.
use Rattle.std.proofs.Common.{◌≡◌, ℕ, Bool, true, false, List, [], ◌∷◌, ◌++◌, subst, ◌∙◌}
use Rattle.std.specs.List.{AllByRecursion}
use Rattle.std.proofs.lemmas.List.{append_assoc}
use Rattle.cluster_model.specs.declared.ids.FileId.{FileId}
use Rattle.cluster_model.specs.declared.ids.Cred.{Cred}
use Rattle.cluster_model.specs.declared.ids.MirrorId.{MirrorId}
use Rattle.cluster_model.specs.declared.entry.Entry.{Entry}
use Rattle.cluster_model.specs.declared.entry.Entry.TheVariants as entry
use Rattle.world_journal.specs.Journal.{IsJournalInRange}
use Rattle.cluster_laws.specs.Periods.{IsInPlace}
use Rattle.cluster_laws.specs.Agreement.{AgreesAlways}
use Rattle.script_laws.specs.ScriptLaws.{ObeysPeriods, ObeysLaws}

abbrev pub is_plain : Entry → Bool
is_plain (entry.Granted file cred holder) = false
is_plain (entry.Ended file cred cause) = false
is_plain (entry.Fenced file old new live) = false
is_plain (entry.Free file live) = false
is_plain (entry.ReadAnswer file status bytes) = false
is_plain e = true

abbrev pub ArePlain : List Entry → Type 0
ArePlain journal = AllByRecursion (λ e. is_plain e ≡ true) journal

pub plain_both : (a b : List Entry) → ArePlain a → ArePlain b → ArePlain (a ++ b)
plain_both [] b first second = second
plain_both (e ∷ a) b first second = (first.0, plain_both a b first.1 second)

plain_there : (before : List Entry) (e : Entry) (behind : List Entry) → ArePlain (before ++ e ∷ behind) → is_plain e ≡ true
plain_there [] e behind all = all.0
plain_there (x ∷ before) e behind all = plain_there before e behind all.1

plain_in_place : (before : List Entry) (e : Entry) → is_plain e ≡ true → IsInPlace before e
plain_in_place before (entry.Granted file cred holder) is = absurd cc
plain_in_place before (entry.Ended file cred cause) is = absurd cc
plain_in_place before (entry.Fenced file old new live) is = absurd cc
plain_in_place before (entry.Free file live) is = absurd cc
plain_in_place before (entry.ReadAnswer file status bytes) is = absurd cc
plain_in_place before e is = tt

no_fence : (journal before behind : List Entry) (f : FileId) (old new : Cred) (live : List MirrorId) → ArePlain journal → journal ≡ before ++ entry.Fenced f old new live ∷ behind → false ≡ true
no_fence journal before behind f old new live all is = plain_there before (entry.Fenced f old new live) behind (subst ArePlain is all)

no_read : (journal before behind : List Entry) (file : FileId) (status : ℕ) (bytes : List ℕ) → ArePlain journal → journal ≡ before ++ entry.ReadAnswer file status bytes ∷ behind → false ≡ true
no_read journal before behind file status bytes all is = plain_there before (entry.ReadAnswer file status bytes) behind (subst ArePlain is all)

no_free : (journal before behind : List Entry) (f : FileId) (live : List MirrorId) → ArePlain journal → journal ≡ before ++ entry.Free f live ∷ behind → false ≡ true
no_free journal before behind f live all is = plain_there before (entry.Free f live) behind (subst ArePlain is all)

-- no file is free, so there is nothing to agree on
plain_agrees : (journal : List Entry) → ArePlain journal → (f : FileId) → AgreesAlways journal f
plain_agrees journal all f = record {
  first = λ before behind live is none. let wrong = no_free journal before behind f live all is in absurd cc;
  steps = λ before between behind live next is none. let wrong = no_free journal (before ++ entry.Free f live ∷ between) behind f next all is in absurd cc;
  free = λ before between behind live is none periods. let wrong = no_free journal before (between ++ behind) f live all (is ∙ append_assoc before (entry.Free f live ∷ between) behind) in absurd cc;
}

-- the laws of periods, and all of them where the journal is in range
abbrev pub JournalObeys : List Entry → Type 0
JournalObeys journal = ObeysPeriods journal × (IsJournalInRange journal → ObeysLaws journal)

pub plain_obeys : (journal : List Entry) → ArePlain journal → JournalObeys journal
plain_obeys journal all = (
  periods,
  λ range. record {
    of_periods = periods;
    reads = λ before behind file status bytes is. let wrong = no_read journal before behind file status bytes all is in absurd cc;
    agreement = λ f. plain_agrees journal all f;
  },
)
  where
    periods : ObeysPeriods journal
    periods = record {
      fences = λ before behind f old new live is. let wrong = no_fence journal before behind f old new live all is in absurd cc;
      periods = λ before behind e is. plain_in_place before e (plain_there before e behind (subst ArePlain is all));
      owners = λ before behind f old new live is. let wrong = no_fence journal before behind f old new live all is in absurd cc;
    }
