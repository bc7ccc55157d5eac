-- The agreement law: whenever a file is free all its live mirrors have the bytes of one flat file, which knows of no mirrors, users,
-- packets or phases (RFC 8435, section 8).
use Rattle.std.specs.Prelude.{◌≡◌, ℕ, ◌+◌, ◌-◌, ◌<◌, ◌≤◌, ◌⊎◌, Bool, true, false, ◌==◌, List, [], ◌∷◌, ◌++◌, length, max, Option, Some, None, if◌then◌else◌, slice_get}
use Rattle.std.specs.List.{flat_map, list_any, AllByRecursion}
use Rattle.cluster_model.specs.declared.ids.FileId.{FileId}
use Rattle.cluster_model.specs.declared.ids.MirrorId.{MirrorId}
use Rattle.cluster_model.specs.declared.phase.EndCause.{EndCause}
use Rattle.cluster_model.specs.declared.entry.Entry.{Entry}
use Rattle.cluster_model.specs.declared.entry.Entry.TheVariants.{Free, Granted, Sent, Rogue, Told, Ended}
use Rattle.cluster_model.specs.Content.{Pending, Content, shown_of, overlay_all}
use Rattle.cluster_model.specs.Journal.{content_of}
use Rattle.cluster_model.specs.Laws.{AreDisjoint, byte_at}
use Rattle.cluster_model.specs.Phases.{is_clean}
use Rattle.cluster_laws.specs.FenceLaw.{is_file, live_in}

-- ---- what a journal says of a user

abbrev pub a_write : ℕ → List ℕ → List Pending
a_write at bytes = record { at = at; bytes = bytes } ∷ []

abbrev pub sent_in : ℕ → Entry → List Pending
sent_in uid (Sent file cred at bytes) = if cred.0 == uid then a_write at bytes else []
sent_in uid _ = []

abbrev pub strayed_in : ℕ → Entry → List Pending
strayed_in uid (Rogue file cred at bytes) = if cred.0 == uid then a_write at bytes else []
strayed_in uid _ = []

abbrev pub told_in : ℕ → Entry → List Pending
told_in uid (Told file cred at bytes) = if cred.0 == uid then a_write at bytes else []
told_in uid _ = []

-- the writes of a user that its holder took, that it sent after it left the protocol, and that were told as committed
abbrev pub sent_of : ℕ → List Entry → List Pending
sent_of uid journal = flat_map (sent_in uid) journal

abbrev pub rogue_of : ℕ → List Entry → List Pending
rogue_of uid journal = flat_map (strayed_in uid) journal

abbrev pub told_of : ℕ → List Entry → List Pending
told_of uid journal = flat_map (told_in uid) journal

abbrev pub cause_in : ℕ → Entry → List EndCause
cause_in uid (Ended file cred cause) = if cred.0 == uid then cause ∷ [] else []
cause_in uid _ = []

abbrev pub causes_of : ℕ → List Entry → List EndCause
causes_of uid journal = flat_map (cause_in uid) journal

abbrev pub period_in : FileId → Entry → List ℕ
period_in f (Granted file cred holder) = if is_file file f then cred.0 ∷ [] else []
period_in f _ = []

-- the users of a file's periods
abbrev pub periods_of : FileId → List Entry → List ℕ
periods_of f journal = flat_map (period_in f) journal

abbrev pub is_free_entry : FileId → Entry → Bool
is_free_entry f (Free file live) = is_file file f
is_free_entry f _ = false

abbrev pub has_free : FileId → List Entry → Bool
has_free f journal = list_any (is_free_entry f) journal

-- ---- the flat file

abbrev pub covers : Pending → ℕ → Type 0
covers w place = (w.at ≤ place) × (place < w.at + length w.bytes)

-- the byte is one that a write has at the place
abbrev pub IsByteOfOne : List Pending → ℕ → ℕ → Type 0
IsByteOfOne writes place byte = (k : ℕ) × (w : Pending) × (slice_get writes k ≡ Some w) × covers w place × (byte ≡ byte_at w.bytes (place - w.at))

abbrev pub furthest_end : List Pending → ℕ
furthest_end [] = 0
furthest_end (w ∷ writes) = max (w.at + length w.bytes) (furthest_end writes)

abbrev pub ArePairwiseDisjoint : List Pending → Type 0
ArePairwiseDisjoint [] = Unit {0}
ArePairwiseDisjoint (w ∷ writes) = AllByRecursion (λ v. AreDisjoint w.at w.bytes v.at v.bytes) writes × ArePairwiseDisjoint writes

-- A clean end: what was sent has no byte twice, nothing strayed, and the file is what it was with all that was sent.
pub record IsCleanStep (journal : List Entry) (uid : ℕ) (old new : List ℕ) : Type 0 where
  pub disjoint : ArePairwiseDisjoint (sent_of uid journal)
  pub none_strayed : rogue_of uid journal ≡ []
  pub bytes : new ≡ overlay_all old (sent_of uid journal)

-- A dirty end, by what was written until the file is free again: each byte is the old one or a written one; where a write was told,
-- it is that write's, or one that strayed until then; and the length is between those that were told and those that were written.
pub record IsDirtyStep (journal until : List Entry) (uid : ℕ) (old new : List ℕ) : Type 0 where
  pub bytes : (place : ℕ) → place < length new → (byte_at new place ≡ byte_at old place) ⊎ IsByteOfOne (sent_of uid until ++ rogue_of uid until) place (byte_at new place)
  pub told : (k place : ℕ) (w : Pending) → slice_get (told_of uid journal) k ≡ Some w → covers w place
      → (byte_at new place ≡ byte_at w.bytes (place - w.at)) ⊎ IsByteOfOne (rogue_of uid until) place (byte_at new place)
  pub least : max (length old) (furthest_end (told_of uid journal)) ≤ length new
  pub most : length new ≤ max (length old) (furthest_end (sent_of uid until ++ rogue_of uid until))

abbrev pub IsEndBy : List Entry → List Entry → ℕ → List ℕ → List ℕ → Bool → Type 0
IsEndBy journal until uid old new true = IsCleanStep journal uid old new
IsEndBy journal until uid old new false = IsDirtyStep journal until uid old new

abbrev pub IsEndStep : List Entry → List Entry → ℕ → List ℕ → List ℕ → List EndCause → Type 0
IsEndStep journal until uid old new [] = ⊥
IsEndStep journal until uid old new (cause ∷ causes) = IsEndBy journal until uid old new (is_clean cause)

-- from one moment in which a file is free to the next, by the periods between them: there is at most one
abbrev pub IsFlatStep : List Entry → List Entry → List ℕ → List ℕ → List ℕ → Type 0
IsFlatStep journal until old new [] = new ≡ old
IsFlatStep journal until old new (uid ∷ []) = IsEndStep journal until uid old new (causes_of uid until)
IsFlatStep journal until old new (uid ∷ next ∷ more) = ⊥

-- ---- the law

abbrev pub shown_at : List Entry → Option (List MirrorId) → List ℕ
shown_at journal None = []
shown_at journal (Some []) = []
shown_at journal (Some (m ∷ live)) = shown_of (content_of journal m).content

-- what the first live mirror of a file shows
abbrev pub bytes_of : List Entry → FileId → List ℕ
bytes_of journal f = shown_at journal (live_in journal f)

-- a pending write would change nothing
abbrev pub IsNoChange : List ℕ → Pending → Type 0
IsNoChange bytes w = (w.at + length w.bytes ≤ length bytes) × ((place : ℕ) → place < length w.bytes → byte_at w.bytes place ≡ byte_at bytes (w.at + place))

pub record Has (bytes : List ℕ) (c : Content) : Type 0 where
  pub shown : shown_of c ≡ bytes
  pub stable : c.stable ≡ bytes
  pub pending : AllByRecursion (IsNoChange bytes) c.pending

abbrev pub is_on : ℕ → List MirrorId → Bool
is_on server live = list_any (λ m. m.server == server) live

abbrev pub AreOnDifferentServers : List MirrorId → Type 0
AreOnDifferentServers [] = Unit {0}
AreOnDifferentServers (m ∷ live) = (is_on m.server live ≡ false) × AreOnDifferentServers live

abbrev pub Agree : List Entry → List ℕ → Option (List MirrorId) → Type 0
Agree journal bytes None = ⊥
Agree journal bytes (Some []) = ⊥
Agree journal bytes (Some (m ∷ live)) = AreOnDifferentServers (m ∷ live) × AllByRecursion (λ k. Has bytes (content_of journal k).content) (m ∷ live)

-- At a file's first entry free it is empty; from each to the next it takes a step of the flat file; and from each until it is granted all
-- its live mirrors have its bytes.
pub record AgreesAlways (journal : List Entry) (f : FileId) : Type 0 where
  pub first : (before behind : List Entry) (live : List MirrorId) → journal ≡ before ++ Free f live ∷ behind → has_free f before ≡ false
      → bytes_of (before ++ Free f live ∷ []) f ≡ []
  pub steps : (before between behind : List Entry) (live next : List MirrorId)
      → journal ≡ (before ++ Free f live ∷ between) ++ Free f next ∷ behind → has_free f between ≡ false
      → IsFlatStep journal (before ++ Free f live ∷ between) (bytes_of (before ++ Free f live ∷ []) f) (bytes_of (before ++ Free f live ∷ between) f) (periods_of f between)
  pub free : (before between behind : List Entry) (live : List MirrorId)
      → journal ≡ (before ++ Free f live ∷ between) ++ behind → has_free f between ≡ false → periods_of f between ≡ []
      → Agree (before ++ Free f live ∷ between) (bytes_of (before ++ Free f live ∷ []) f) (live_in (before ++ Free f live ∷ between) f)
