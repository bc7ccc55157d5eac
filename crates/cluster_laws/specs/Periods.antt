-- What stands beside the fence law, of every run: each period is fenced before the next one, owners stay, and the journal tells the truth
-- (RFC 8435, section 2.2).
use Rattle.std.specs.Prelude.{◌≡◌, ℕ, ◌<◌, ◌≤◌, Bool, false, ◌==◌, List, [], ◌∷◌, ◌++◌, length, Option, Some, None, if◌then◌else◌}
use Rattle.std.specs.List.{list_any, AllByRecursion}
use Rattle.cluster_model.specs.declared.ids.FileId.{FileId}
use Rattle.cluster_model.specs.declared.ids.Cred.{Cred}
use Rattle.cluster_model.specs.declared.ids.MirrorId.{MirrorId}
use Rattle.cluster_model.specs.declared.entry.Entry.{Entry}
use Rattle.cluster_model.specs.declared.entry.Entry.TheVariants.{Granted, Ended, Fenced, Free}
use Rattle.cluster_model.specs.Journal.{content_of}
use Rattle.cluster_model.specs.Server.{ServerState}
use Rattle.cluster_model.specs.GuardLaws.{IsTold}
use Rattle.cluster_laws.specs.Machine.{Move, new_machine, numbered_at, machine_after, journal_of}
use Rattle.cluster_laws.specs.FenceLaw.{is_file, live_in, new_servers}

-- ---- each period is fenced

-- a user that is owed a fence, behind a fence of a user at these mirrors
abbrev pub still_owed : ℕ → Option ℕ → Option ℕ
still_owed old None = None
still_owed old (Some uid) = if uid == old then None else Some uid

abbrev pub owed_behind : ℕ → List MirrorId → Option ℕ → Option ℕ
owed_behind old [] owed = owed
owed_behind old (m ∷ live) owed = still_owed old owed

-- the user of a file whose period ended, as long as no fence of it at a live mirror stands behind
abbrev pub owed_after : FileId → Option ℕ → Entry → Option ℕ
owed_after f owed (Ended file cred cause) = if is_file file f then Some cred.0 else owed
owed_after f owed (Fenced file old new live) = if is_file file f then owed_behind old.0 live owed else owed
owed_after f owed _ = owed

abbrev pub owed_by : FileId → Option ℕ → List Entry → Option ℕ
owed_by f owed [] = owed
owed_by f owed (e ∷ entries) = owed_by f (owed_after f owed e) entries

abbrev pub owed_in : List Entry → FileId → Option ℕ
owed_in journal f = owed_by f None journal

-- whom the first of some mirrors belongs to
abbrev pub first_owner : List Entry → List MirrorId → Option ℕ
first_owner journal [] = None
first_owner journal (m ∷ live) = Some (content_of journal m).owner

-- The user of a file's periods: that of its last fence, and before the first one that of the CREATEs, to whom the mirrors belonged when the
-- file was first free.
abbrev pub user_when_free : List Entry → List MirrorId → Option ℕ → Option ℕ
user_when_free journal live None = first_owner journal live
user_when_free journal live (Some uid) = Some uid

abbrev pub user_after : FileId → List Entry → Option ℕ → Entry → Option ℕ
user_after f journal uid (Free file live) = if is_file file f then user_when_free journal live uid else uid
user_after f journal uid (Fenced file old new live) = if is_file file f then Some new.0 else uid
user_after f journal uid _ = uid

abbrev pub user_by : FileId → List Entry → Option ℕ → List Entry → Option ℕ
user_by f journal uid [] = uid
user_by f journal uid (e ∷ entries) = user_by f (journal ++ e ∷ []) (user_after f journal uid e) entries

abbrev pub user_in : List Entry → FileId → Option ℕ
user_in journal f = user_by f [] None journal

abbrev pub grants : ℕ → Entry → Bool
grants uid (Granted file cred holder) = cred.0 == uid
grants uid _ = false

abbrev pub was_granted : List Entry → ℕ → Bool
was_granted journal uid = list_any (grants uid) journal

-- A grant: no user of the file is owed a fence, the uid is granted for the first time, and it is that of the last fence or of the CREATEs.
pub record IsGrantedOnce (before : List Entry) (f : FileId) (uid : ℕ) : Type 0 where
  pub fenced : owed_in before f ≡ None
  pub new : was_granted before uid ≡ false
  pub user : user_in before f ≡ Some uid

-- the mirrors belong to one user
abbrev pub AreAlike : List Entry → List MirrorId → Type 0
AreAlike journal [] = Unit {0}
AreAlike journal (m ∷ live) = AllByRecursion (λ k. (content_of journal k).owner ≡ (content_of journal m).owner) live

pub record IsFreedInPlace (before : List Entry) (f : FileId) (live : List MirrorId) : Type 0 where
  pub fenced : owed_in before f ≡ None
  pub some : 0 < length live
  pub alike : user_in before f ≡ None → AreAlike before live

-- the end is of the user that was granted, and none before it is owed a fence
pub record IsEndedInPlace (before : List Entry) (f : FileId) (uid : ℕ) : Type 0 where
  pub fenced : owed_in before f ≡ None
  pub user : user_in before f ≡ Some uid

abbrev pub IsInPlace : List Entry → Entry → Type 0
IsInPlace before (Granted file cred holder) = IsGrantedOnce before file cred.0
IsInPlace before (Ended file cred cause) = IsEndedInPlace before file cred.0
IsInPlace before (Fenced file old new live) = 0 < length live
IsInPlace before (Free file live) = IsFreedInPlace before file live
IsInPlace before _ = Unit {0}

abbrev pub ArePeriodsFenced : List Entry → Type 0
ArePeriodsFenced journal = (before behind : List Entry) (e : Entry) → journal ≡ before ++ e ∷ behind → IsInPlace before e

-- ---- owners stay

abbrev pub OwnedFromAll : List Entry → ℕ → Option (List MirrorId) → Type 0
OwnedFromAll journal uid None = Unit {0}
OwnedFromAll journal uid (Some live) = AllByRecursion (λ m. uid ≤ (content_of journal m).owner) live

-- behind a fence each mirror that is live belongs to the fresh uid or to a later one
abbrev pub DoOwnersStay : List Entry → Type 0
DoOwnersStay journal =
    (before behind : List Entry) (f : FileId) (old new : Cred) (live : List MirrorId) → journal ≡ before ++ Fenced f old new live ∷ behind → OwnedFromAll journal new.0 (live_in journal f)

-- ---- over every run

abbrev pub EachPeriodIsFenced : List ℕ → List Move → Type 0
EachPeriodIsFenced boots moves = ArePeriodsFenced (journal_of (new_machine (new_servers 1 boots)) moves)

abbrev pub OwnersStay : List ℕ → List Move → Type 0
OwnersStay boots moves = DoOwnersStay (journal_of (new_machine (new_servers 1 boots)) moves)

-- what the journal says of the bytes, the pending writes and the owner of each mirror is so at its data server
abbrev pub TellsTheTruth : List ℕ → List Move → Type 0
TellsTheTruth boots moves =
    (n : ℕ) (s : ServerState) → numbered_at (machine_after (new_machine (new_servers 1 boots)) moves).servers n ≡ Some s
    → (s.number ≡ n) × IsTold s (journal_of (new_machine (new_servers 1 boots)) moves)
