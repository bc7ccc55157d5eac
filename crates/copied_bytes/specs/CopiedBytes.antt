-- What copies do, and which writes reach a live mirror, by the journal of a run (RFC 8435, sections 2.2 and 8.3; RFC 1813, section 3.3.7).
use Rattle.std.specs.Prelude.{[], if◌then◌else◌, ◌≡◌, ℕ, true, false, List, ◌∷◌, ◌++◌, Option, Some}
use Rattle.std.specs.List.{AllByRecursion}
use Rattle.cluster_model.specs.declared.ids.FileId.{FileId}
use Rattle.cluster_model.specs.declared.ids.Cred.{Cred}
use Rattle.cluster_model.specs.declared.ids.MirrorId.{MirrorId}
use Rattle.cluster_model.specs.declared.phase.EndCause.{EndCause}
use Rattle.cluster_model.specs.declared.entry.Entry.{Entry}
use Rattle.cluster_model.specs.declared.entry.Entry.TheVariants.{Free, Granted, Applied, Swapped}
use Rattle.cluster_model.specs.Content.{Pending, shown_of}
use Rattle.cluster_model.specs.Journal.{is_mirror, content_of}
use Rattle.cluster_model.specs.Phases.{is_clean}
use Rattle.cluster_laws.specs.FenceLaw.{is_file, live_in}
use Rattle.cluster_laws.specs.Periods.{was_granted}
use Rattle.cluster_laws.specs.Agreement.{causes_of, bytes_of, IsNoChange, Has}
use Rattle.cluster_laws.specs.Holders.{the_write}

-- Wherever the mirror is live, the write would change nothing of what is shown there.
abbrev pub LeavesAsShown : List Entry → MirrorId → Pending → Type 0
LeavesAsShown before m w =
    (f : FileId) (live : List MirrorId) → live_in before f ≡ Some live → AllByRecursion (λ k. is_mirror m k ≡ true → IsNoChange (shown_of (content_of before k).content) w) live

-- so it is with each write under a uid that nobody is ever granted
abbrev pub CopiesLeaveAsShown : List Entry → Type 0
CopiesLeaveAsShown journal =
    (before behind : List Entry) (m : MirrorId) (cred : Cred) (at : ℕ) (bytes : List ℕ) → journal ≡ before ++ Applied m cred at bytes ∷ behind
    → was_granted journal cred.0 ≡ false → LeavesAsShown before m (the_write at bytes)

-- ---- copies

-- The first live mirror of a file has bytes that are all stable, with no write pending that would change them.
pub record HasStableSource (before : List Entry) (f : FileId) : Type 0 where
  pub first : MirrorId
  pub rest : List MirrorId
  pub live : live_in before f ≡ Some (first ∷ rest)
  pub has : Has (bytes_of before f) (content_of before first).content

-- so it is at each swap of a copy
abbrev pub SwapsFromStable : List Entry → Type 0
SwapsFromStable journal =
    (before behind : List Entry) (f : FileId) (old : Option MirrorId) (new : MirrorId) → journal ≡ before ++ Swapped f old new ∷ behind → HasStableSource before f

-- A mirror has the same bytes, which are those of its file, all stable; it belongs to a uid that nobody is ever granted, and no live one to a uid that was granted.
pub record IsCopyOfAll (journal before : List Entry) (f : FileId) (new : MirrorId) : Type 0 where
  pub has : Has (bytes_of before f) (content_of before new).content
  pub owner : was_granted journal (content_of before new).owner ≡ false
  pub others : (live : List MirrorId) → live_in before f ≡ Some live → AllByRecursion (λ m. was_granted before (content_of before m).owner ≡ false) live

-- so is each that a swap brings in
abbrev pub SwapsInAlike : List Entry → Type 0
SwapsInAlike journal =
    (before behind : List Entry) (f : FileId) (old : Option MirrorId) (new : MirrorId) → journal ≡ before ++ Swapped f old new ∷ behind → IsCopyOfAll journal before f new

-- ---- behind a dirty end

-- the users that a file was granted to since its last entry free
abbrev pub users_behind : FileId → List ℕ → Entry → List ℕ
users_behind f users (Free file mirrors) = if is_file file f then [] else users
users_behind f users (Granted file cred holder) = if is_file file f then users ++ cred.0 ∷ [] else users
users_behind f users _ = users

abbrev pub users_by : FileId → List ℕ → List Entry → List ℕ
users_by f users [] = users
users_by f users (e ∷ entries) = users_by f (users_behind f users e) entries

abbrev pub users_since : List Entry → FileId → List ℕ
users_since journal f = users_by f [] journal

-- There is one such user, and its one end was a dirty one.
pub record EndedDirty (before : List Entry) (f : FileId) (uid : ℕ) : Type 0 where
  pub user : users_since before f ≡ uid ∷ []
  pub cause : EndCause
  pub causes : causes_of uid before ≡ cause ∷ []
  pub dirty : is_clean cause ≡ false

-- Behind a dirty end a file is free again with the same bytes at each live mirror.
abbrev pub FreesAlike : List Entry → Type 0
FreesAlike journal =
    (before behind : List Entry) (f : FileId) (mirrors : List MirrorId) (uid : ℕ) → journal ≡ before ++ Free f mirrors ∷ behind → EndedDirty before f uid
    → (live : List MirrorId) → live_in before f ≡ Some live → AllByRecursion (λ m. Has (bytes_of before f) (content_of before m).content) live
