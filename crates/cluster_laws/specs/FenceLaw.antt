-- The fence law: a client that has lost its layout can no longer change the file (RFC 8435, section 2.2).
use Rattle.std.specs.Prelude.{◌≡◌, ℕ, ◌+◌, Bool, false, not, ◌==◌, List, [], ◌∷◌, ◌++◌, map, filter, Option, Some, None, if◌then◌else◌}
use Rattle.std.specs.List.{list_any, AllByRecursion}
use Rattle.cluster_model.specs.declared.ids.FileId.{FileId}
use Rattle.cluster_model.specs.declared.ids.Cred.{Cred}
use Rattle.cluster_model.specs.declared.ids.MirrorId.{MirrorId}
use Rattle.cluster_model.specs.declared.entry.Entry.{Entry}
use Rattle.cluster_model.specs.declared.entry.Entry.TheVariants.{Free, Left, Swapped, Fenced, Applied}
use Rattle.cluster_model.specs.Journal.{is_mirror, content_of}
use Rattle.cluster_model.specs.Server.{ServerState, new_server}
use Rattle.cluster_laws.specs.Machine.{Move, new_machine, journal_of}

-- ---- what a journal says of a file's live mirrors

abbrev pub is_file : FileId → FileId → Bool
is_file a b = a.0 == b.0

-- a new mirror in the old one's place, or at the end
abbrev pub swapped_in : Option MirrorId → MirrorId → List MirrorId → List MirrorId
swapped_in None new live = live ++ new ∷ []
swapped_in (Some old) new live = map (λ m. if is_mirror m old then new else m) live

abbrev pub first_free : List MirrorId → Option (List MirrorId) → Option (List MirrorId)
first_free live None = Some live
first_free live (Some before) = Some before

abbrev pub changed_live : (List MirrorId → List MirrorId) → Option (List MirrorId) → Option (List MirrorId)
changed_live change None = None
changed_live change (Some live) = Some (change live)

-- The mirrors of the first entry free, from which each that leaves is taken, and into which each that is swapped comes; none before it.
abbrev pub live_after : FileId → Option (List MirrorId) → Entry → Option (List MirrorId)
live_after f live (Free file mirrors) = if is_file file f then first_free mirrors live else live
live_after f live (Left file mirror cause) = if is_file file f then changed_live (filter (λ m. not (is_mirror m mirror))) live else live
live_after f live (Swapped file old new) = if is_file file f then changed_live (swapped_in old new) live else live
live_after f live _ = live

abbrev pub live_by : FileId → Option (List MirrorId) → List Entry → Option (List MirrorId)
live_by f live [] = live
live_by f live (e ∷ entries) = live_by f (live_after f live e) entries

abbrev pub live_in : List Entry → FileId → Option (List MirrorId)
live_in journal f = live_by f None journal

abbrev pub is_among : MirrorId → Option (List MirrorId) → Bool
is_among m None = false
is_among m (Some live) = list_any (λ k. is_mirror k m) live

-- ---- the law

-- At each fence the live list is what the entry says, each mirror of it belongs to the fresh uid, and no write under the fenced uid is
-- applied later to a mirror that is live then, whatever its place and its bytes.
abbrev pub IsShutOut : List Entry → FileId → Cred → List Entry → Type 0
IsShutOut before f old behind =
    (between rest : List Entry) (m : MirrorId) (at : ℕ) (bytes : List ℕ) → behind ≡ between ++ Applied m old at bytes ∷ rest → is_among m (live_in (before ++ between) f) ≡ false

pub record IsFencedAt (before : List Entry) (f : FileId) (old new : Cred) (live : List MirrorId) (behind : List Entry) : Type 0 where
  pub live_list : live_in before f ≡ Some live
  pub owners : AllByRecursion (λ m. (content_of before m).owner ≡ new.0) live
  pub shut_out : IsShutOut (before ++ Fenced f old new live ∷ []) f old behind

abbrev pub ObeysFences : List Entry → Type 0
ObeysFences journal =
    (before behind : List Entry) (f : FileId) (old new : Cred) (live : List MirrorId) → journal ≡ before ++ Fenced f old new live ∷ behind → IsFencedAt before f old new live behind

-- data servers numbered from 1, without files
abbrev pub new_servers : ℕ → List ℕ → List ServerState
new_servers n [] = []
new_servers n (boot ∷ boots) = new_server n boot ∷ new_servers (n + 1) boots

-- of every run of the machine, from data servers that begin in these boots
abbrev pub FenceLaw : List ℕ → List Move → Type 0
FenceLaw boots moves = ObeysFences (journal_of (new_machine (new_servers 1 boots)) moves)
