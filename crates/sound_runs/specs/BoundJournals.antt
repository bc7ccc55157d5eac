-- The journal of a bound run is sound, where its copies are (RFC 8435, sections 2.2 and 8; RFC 1813, sections 3.3.7 and 3.3.21).
use Rattle.std.specs.Prelude.{◌≡◌, ℕ, ◌⊎◌, true, false, List, ◌∷◌, ◌++◌, Option}
use Rattle.cluster_model.specs.declared.ids.FileId.{FileId}
use Rattle.cluster_model.specs.declared.ids.Cred.{Cred}
use Rattle.cluster_model.specs.declared.ids.MirrorId.{MirrorId}
use Rattle.cluster_model.specs.declared.entry.Entry.{Entry}
use Rattle.cluster_model.specs.declared.entry.Entry.TheVariants.{Free, Swapped, Applied}
use Rattle.cluster_model.specs.Content.{Pending, shown_of}
use Rattle.cluster_model.specs.Journal.{is_mirror, content_of}
use Rattle.cluster_laws.specs.Machine.{Move, new_machine, journal_of}
use Rattle.cluster_laws.specs.FenceLaw.{live_in, new_servers}
use Rattle.cluster_laws.specs.Periods.{was_granted}
use Rattle.cluster_laws.specs.Agreement.{bytes_of, IsNoChange, Has}
use Rattle.cluster_laws.specs.Holders.{the_write, AreBound}
use Rattle.machine_walk.specs.Owners.{IsUsersWrite}
use Rattle.sound_journals.specs.Views.{no_view, view_of}
use Rattle.sound_journals.specs.Sound.{AllLive, EndsPeriod, AreSoundEntries, AreToldEntries}

-- ---- what is asked of copies

-- a write under a user that nobody is ever granted, which changes nothing wherever the mirror is live
pub record IsQuietWrite (journal before : List Entry) (mirror : MirrorId) (uid : ℕ) (w : Pending) : Type 0 where
  pub never : was_granted journal uid ≡ false
  pub same : (f : FileId) → AllLive (live_in before f) (λ m. is_mirror mirror m ≡ true → IsNoChange (shown_of (content_of before m).content) w)

-- A write is applied under the user that the mirror belongs to: a user's own, or one of a copy.
pub record IsAppliedInPlace (journal before : List Entry) (mirror : MirrorId) (uid : ℕ) (w : Pending) : Type 0 where
  pub owner : uid ≡ (content_of before mirror).owner
  pub whose : IsUsersWrite before uid w ⊎ IsQuietWrite journal before mirror uid w

-- Of a journal: so each write is applied; a mirror comes in with the bytes of the first live one; and behind a dirty end a file is free
-- with the same bytes at all live mirrors.
pub record AreCopiesSound (journal : List Entry) : Type 0 where
  pub applied : (before behind : List Entry) (m : MirrorId) (cred : Cred) (at : ℕ) (bytes : List ℕ) → journal ≡ before ++ Applied m cred at bytes ∷ behind → IsAppliedInPlace journal before m cred.0 (the_write at bytes)
  pub swapped : (before behind : List Entry) (f : FileId) (old : Option MirrorId) (new : MirrorId) → journal ≡ before ++ Swapped f old new ∷ behind → Has (bytes_of before f) (content_of before new).content
  pub freed : (before behind : List Entry) (f : FileId) (live : List MirrorId) (uid : ℕ) → journal ≡ before ++ Free f live ∷ behind → EndsPeriod (view_of before f) uid false
      → AllLive (live_in before f) (λ m. Has (bytes_of before f) (content_of before m).content)

-- ---- the law

abbrev pub IsWhollySound : List Entry → FileId → Type 0
IsWhollySound journal f = AreSoundEntries f no_view journal × AreToldEntries f no_view journal

abbrev pub BoundRunsAreSound : List ℕ → List Move → Type 0
BoundRunsAreSound boots moves =
    AreBound boots moves → AreCopiesSound (journal_of (new_machine (new_servers 1 boots)) moves) → (f : FileId) → IsWhollySound (journal_of (new_machine (new_servers 1 boots)) moves) f
