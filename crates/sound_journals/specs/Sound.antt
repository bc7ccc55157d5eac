-- Which entries are sound behind those before them, so that a file's mirrors agree whenever it is free (RFC 8435, sections 2.2 and 8;
-- RFC 1813, sections 3.3.7 and 3.3.21).
use Rattle.std.specs.Prelude.{◌≡◌, ℕ, ◌<◌, ◌≤◌, ◌⊎◌, Bool, true, false, List, [], ◌∷◌, length, Option, Some, None}
use Rattle.std.specs.List.{AllByRecursion}
use Rattle.cluster_model.specs.declared.ids.FileId.{FileId}
use Rattle.cluster_model.specs.declared.ids.Cred.{Cred}
use Rattle.cluster_model.specs.declared.ids.MirrorId.{MirrorId}
use Rattle.cluster_model.specs.declared.phase.EndCause.{EndCause}
use Rattle.cluster_model.specs.declared.entry.Entry.{Entry}
use Rattle.cluster_model.specs.declared.entry.Entry.TheVariants.{Free, Granted, Sent, Rogue, Told, Ended, Left, Swapped, Applied, Owner}
use Rattle.cluster_model.specs.Content.{Pending, shown_of}
use Rattle.cluster_model.specs.Journal.{is_mirror}
use Rattle.cluster_model.specs.Laws.{AreDisjoint}
use Rattle.cluster_model.specs.Phases.{is_clean}
use Rattle.cluster_laws.specs.FenceLaw.{is_file, live_after}
use Rattle.cluster_laws.specs.Agreement.{AreOnDifferentServers, IsNoChange, Has, AgreesAlways}
use Rattle.cluster_laws.specs.Holders.{IsIn, the_write}
use Rattle.sound_journals.specs.Marks.{no_marks}
use Rattle.sound_journals.specs.Views.{FileView, first_shown, view_after, no_view}

-- ---- live lists

abbrev pub AllLive : Option (List MirrorId) → (MirrorId → Type 0) → Type 0
AllLive None P = Unit {0}
AllLive (Some live) P = AllByRecursion P live

-- there is a mirror, and no two are on one server
abbrev pub IsFineList : List MirrorId → Type 0
IsFineList [] = ⊥
IsFineList (m ∷ live) = AreOnDifferentServers (m ∷ live)

abbrev pub IsFineLive : Option (List MirrorId) → Type 0
IsFineLive None = Unit {0}
IsFineLive (Some live) = IsFineList live

abbrev pub shows_first : FileView → List ℕ
shows_first v = first_shown v.copy v.live

-- ---- ends

-- The period of this user is the one since the file was free, and it ended so.
pub record EndsPeriod (v : FileView) (uid : ℕ) (clean : Bool) : Type 0 where
  pub period : v.periods ≡ uid ∷ []
  pub cause : EndCause
  pub causes : v.causes uid ≡ cause ∷ []
  pub is_so : is_clean cause ≡ clean

abbrev pub IsNotEndedClean : FileView → ℕ → Type 0
IsNotEndedClean v uid = AllByRecursion (λ (c : EndCause). is_clean c ≡ false) (v.causes uid)

-- the user's first end was a clean one
pub record HasCleanEnd (v : FileView) (uid : ℕ) : Type 0 where
  pub cause : EndCause
  pub more : List EndCause
  pub causes : v.causes uid ≡ cause ∷ more
  pub clean : is_clean cause ≡ true

-- ---- kinds of entries

-- A file is free for the first time, with empty mirrors; again, with nothing granted since; behind a clean end; or behind a dirty one: then
-- all live mirrors are the same, and out of the user's reach.
pub data IsFreedSoundly (v : FileView) (mirrors : List MirrorId) : Type 0 where
  First : v.base ≡ None → v.live ≡ None → IsFineList mirrors → AllByRecursion (λ m. Has [] (v.copy m).content) mirrors → IsFreedSoundly v mirrors
  Again : v.periods ≡ [] → (base : List ℕ) → v.base ≡ Some base → IsFreedSoundly v mirrors
  BehindClean : (uid : ℕ) → EndsPeriod v uid true → IsFreedSoundly v mirrors
  BehindDirty : (uid : ℕ) → EndsPeriod v uid false → AllLive v.live (λ m. Has (shows_first v) (v.copy m).content × (uid < (v.copy m).owner)) → IsFreedSoundly v mirrors

-- the file is free, and the user is a new one
pub record IsGrantedSoundly (v : FileView) (uid : ℕ) : Type 0 where
  pub free : v.periods ≡ []
  pub base : List ℕ
  pub freed : v.base ≡ Some base
  pub sent : v.sent uid ≡ []
  pub rogue : v.rogue uid ≡ []
  pub causes : v.causes uid ≡ []
  pub marks : (m : MirrorId) → v.marks uid m ≡ no_marks

pub record IsSentSoundly (v : FileView) (uid at : ℕ) (bytes : List ℕ) : Type 0 where
  pub not_clean : IsNotEndedClean v uid
  pub none_strayed : v.rogue uid ≡ []
  pub apart : (w : Pending) → IsIn w (v.sent uid) → AreDisjoint w.at w.bytes at bytes

-- The period's first end. Where it is clean, none strayed, and each write is covered at each mirror that stays.
pub record IsEndedSoundly (v : FileView) (uid : ℕ) (clean : Bool) : Type 0 where
  pub period : v.periods ≡ uid ∷ []
  pub covered : clean ≡ true → (v.rogue uid ≡ []) × AllLive v.live (λ m. AllByRecursion (λ w. IsIn w (v.marks uid m).covered) (v.sent uid))

-- while the file is free; or behind a dirty end, with the first mirror and the new one out of the user's reach
abbrev pub IsOutOfReach : FileView → MirrorId → List ℕ → Option (List MirrorId) → Type 0
IsOutOfReach v new [] live = Unit {0}
IsOutOfReach v new (uid ∷ more) None = ⊥
IsOutOfReach v new (uid ∷ more) (Some []) = ⊥
IsOutOfReach v new (uid ∷ more) (Some (m ∷ live)) = EndsPeriod v uid false × (uid < (v.copy m).owner) × (uid < (v.copy new).owner)

-- A mirror comes in with the bytes of the first one.
pub record IsSwappedSoundly (v : FileView) (new : MirrorId) (live : Option (List MirrorId)) : Type 0 where
  pub same : Has (shows_first v) (v.copy new).content
  pub fine : IsFineLive live
  pub out : IsOutOfReach v new v.periods v.live

-- A write at a live mirror is one of the period's, or changes nothing.
pub data IsAppliedSoundly (v : FileView) (m : MirrorId) (uid at : ℕ) (bytes : List ℕ) : Type 0 where
  OfPeriod : v.periods ≡ uid ∷ [] → IsIn (the_write at bytes) (v.sent uid) ⊎ IsIn (the_write at bytes) (v.rogue uid) → IsAppliedSoundly v m uid at bytes
  NoChange : (v.periods ≡ uid ∷ [] → ⊥) → IsNoChange (shown_of (v.copy m).content) (the_write at bytes) → IsAppliedSoundly v m uid at bytes

-- ---- sound entries

abbrev pub IsSoundEntry : FileId → FileView → Entry → Type 0
IsSoundEntry f v (Free file mirrors) = is_file file f ≡ true → IsFreedSoundly v mirrors
IsSoundEntry f v (Granted file cred holder) = is_file file f ≡ true → IsGrantedSoundly v cred.0
IsSoundEntry f v (Sent file cred at bytes) = IsSentSoundly v cred.0 at bytes
IsSoundEntry f v (Rogue file cred at bytes) = IsNotEndedClean v cred.0
IsSoundEntry f v (Ended file cred cause) = (v.causes cred.0 ≡ []) × (is_file file f ≡ true → IsEndedSoundly v cred.0 (is_clean cause)) × (is_file file f ≡ false → v.periods ≡ cred.0 ∷ [] → ⊥)
IsSoundEntry f v (Left file mirror cause) = is_file file f ≡ true → IsFineLive (live_after f v.live (Left file mirror cause))
IsSoundEntry f v (Swapped file old new) = is_file file f ≡ true → IsSwappedSoundly v new (live_after f v.live (Swapped file old new))
IsSoundEntry f v (Applied mirror cred at bytes) = (cred.0 ≡ (v.copy mirror).owner) × AllLive v.live (λ m. is_mirror mirror m ≡ true → IsAppliedSoundly v m cred.0 at bytes)
IsSoundEntry f v (Owner mirror cred) = (v.copy mirror).owner ≤ cred.0
IsSoundEntry f v _ = Unit {0}

abbrev pub AreSoundEntries : FileId → FileView → List Entry → Type 0
AreSoundEntries f v [] = Unit {0}
AreSoundEntries f v (e ∷ entries) = IsSoundEntry f v e × AreSoundEntries f (view_after f v e) entries

-- ---- told entries

-- it was sent, and is covered at each mirror of the layout
pub record IsCoveredByAll (v : FileView) (uid at : ℕ) (bytes : List ℕ) : Type 0 where
  pub some : 0 < length bytes
  pub sent : IsIn (the_write at bytes) (v.sent uid)
  pub covered : (m : MirrorId) → v.layout uid m ≡ true → IsIn (the_write at bytes) (v.marks uid m).covered

-- the next entry is a clean end of the user
pub record EndsNow (uid : ℕ) (entries : List Entry) : Type 0 where
  pub file : FileId
  pub cred : Cred
  pub cause : EndCause
  pub more : List Entry
  pub are : entries ≡ Ended file cred cause ∷ more
  pub uid_is : cred.0 ≡ uid
  pub clean : is_clean cause ≡ true

-- A write is told behind a clean end of its user, right before it, or while it is covered at each mirror of the layout.
pub data IsToldSoundly (v : FileView) (uid at : ℕ) (bytes : List ℕ) (entries : List Entry) : Type 0 where
  AfterEnd : HasCleanEnd v uid → IsToldSoundly v uid at bytes entries
  AtAll : IsCoveredByAll v uid at bytes → IsToldSoundly v uid at bytes entries
  AtEnd : EndsNow uid entries → IsToldSoundly v uid at bytes entries

abbrev pub IsToldEntry : FileView → Entry → List Entry → Type 0
IsToldEntry v (Told file cred at bytes) entries = IsToldSoundly v cred.0 at bytes entries
IsToldEntry v _ entries = Unit {0}

abbrev pub AreToldEntries : FileId → FileView → List Entry → Type 0
AreToldEntries f v [] = Unit {0}
AreToldEntries f v (e ∷ entries) = IsToldEntry v e entries × AreToldEntries f (view_after f v e) entries

-- ---- the law

-- Where each entry is sound and each told one too, the file agrees always.
abbrev pub SoundAgrees : FileId → List Entry → Type 0
SoundAgrees f journal = AreSoundEntries f no_view journal → AreToldEntries f no_view journal → AgreesAlways journal f
