-- What one mirror keeps of the writes of a period, which are applied, committed and lost there in any order (RFC 1813, sections 3.3.7 and
-- 3.3.21).
use Rattle.std.specs.Prelude.{◌≡◌, ℕ, ◌-◌, ◌<◌, ◌≤◌, ◌⊎◌, ◌==◌, List, [], ◌∷◌, ◌++◌, length, max, if◌then◌else◌}
use Rattle.std.specs.List.{AllByRecursion, flat_map}
use Rattle.cluster_model.specs.declared.ids.MirrorId.{MirrorId}
use Rattle.cluster_model.specs.declared.entry.Entry.{Entry}
use Rattle.cluster_model.specs.declared.entry.Entry.TheVariants.{Applied, Committed, Restarted}
use Rattle.cluster_model.specs.declared.piece.Piece.{Piece}
use Rattle.cluster_model.specs.Content.{Pending, Content, overlay_all, shown_of, joined, settled, survived, pieces_of}
use Rattle.cluster_model.specs.Journal.{is_mirror, content_of}
use Rattle.cluster_model.specs.Laws.{byte_at}
use Rattle.cluster_laws.specs.Agreement.{covers, sent_of, rogue_of, told_of, IsByteOfOne, furthest_end, ArePairwiseDisjoint, IsCleanStep, IsDirtyStep, Has}
use Rattle.cluster_laws.specs.Holders.{IsIn, the_write}

-- ---- what happens to a mirror

pub data MirrorTurn : Type 0 where
  -- a write is applied, and is not stable yet
  Applies : (w : Pending) → MirrorTurn
  Commits : MirrorTurn
  -- its server starts again; these pieces of its pending writes had reached the disk
  Loses : (pieces : List Piece) → MirrorTurn

-- the bytes; what was applied since the last restart; and what was applied before a COMMIT, in the same boot
pub record MirrorTrace : Type 0 where
  pub content : Content
  pub here : List Pending
  pub covered : List Pending

abbrev pub kept_from : Content → MirrorTrace
kept_from c = record { content = c; here = []; covered = [] }

abbrev pub after_turn : MirrorTrace → MirrorTurn → MirrorTrace
after_turn k (Applies w) = record { content = joined k.content w.at w.bytes; here = w ∷ k.here; covered = k.covered }
after_turn k Commits = record { content = settled k.content; here = k.here; covered = k.here ++ k.covered }
after_turn k (Loses pieces) = record { content = survived k.content pieces; here = []; covered = k.covered }

abbrev pub after_turns : MirrorTrace → List MirrorTurn → MirrorTrace
after_turns k [] = k
after_turns k (turn ∷ turns) = after_turns (after_turn k turn) turns

-- ---- a period

-- what is applied was taken, or strayed
abbrev pub IsTurnOf : List Pending → List Pending → MirrorTurn → Type 0
IsTurnOf sent rogue (Applies w) = IsIn w sent ⊎ IsIn w rogue
IsTurnOf sent rogue Commits = Unit {0}
IsTurnOf sent rogue (Loses pieces) = Unit {0}

-- a user's writes: those that were taken have no byte twice, and each write has a byte
pub record IsPeriodOf (sent rogue : List Pending) (turns : List MirrorTurn) : Type 0 where
  pub apart : ArePairwiseDisjoint sent
  pub sent_some : AllByRecursion (λ w. 0 < length w.bytes) sent
  pub rogue_some : AllByRecursion (λ w. 0 < length w.bytes) rogue
  pub turns_of : AllByRecursion (IsTurnOf sent rogue) turns

-- ---- what is kept

-- Each stable byte is one from before, or a written one. A write that was taken and is covered stands, but for bytes that strayed.
pub record KeepsWrites (base : List ℕ) (sent rogue : List Pending) (k : MirrorTrace) : Type 0 where
  pub bytes : (place : ℕ) → place < length k.content.stable → (byte_at k.content.stable place ≡ byte_at base place) ⊎ IsByteOfOne (sent ++ rogue) place (byte_at k.content.stable place)
  pub least : length base ≤ length k.content.stable
  pub most : length k.content.stable ≤ max (length base) (furthest_end (sent ++ rogue))
  pub within : (w : Pending) (place : ℕ) → IsIn w sent → IsIn w k.covered → covers w place → place < length k.content.stable
  pub stands : (w : Pending) (place : ℕ) → IsIn w sent → IsIn w k.covered → covers w place → (byte_at k.content.stable place ≡ byte_at w.bytes (place - w.at)) ⊎ IsByteOfOne rogue place (byte_at k.content.stable place)

-- from a mirror that has the file's bytes, whatever happens
abbrev pub KeepsAlways : List ℕ → List Pending → List Pending → Content → List MirrorTurn → Type 0
KeepsAlways base sent rogue c turns = Has base c → IsPeriodOf sent rogue turns → KeepsWrites base sent rogue (after_turns (kept_from c) turns)

-- Where nothing strayed and all that was taken is covered, the mirror has the file's bytes with all that was taken: so do all such mirrors.
abbrev pub KeepsAll : List ℕ → List Pending → Content → List MirrorTurn → Type 0
KeepsAll base sent c turns =
    Has base c → IsPeriodOf sent [] turns → AllByRecursion (λ w. IsIn w (after_turns (kept_from c) turns).covered) sent → Has (overlay_all base sent) (after_turns (kept_from c) turns).content

-- ---- by a journal

-- what an entry says of a mirror's bytes
abbrev pub turns_in : MirrorId → Entry → List MirrorTurn
turns_in m (Applied mirror cred at bytes) = if is_mirror mirror m then Applies (the_write at bytes) ∷ [] else []
turns_in m (Committed mirror) = if is_mirror mirror m then Commits ∷ [] else []
turns_in m (Restarted server pieces) = if server == m.server then Loses (pieces_of m.fileid pieces) ∷ [] else []
turns_in m _ = []

abbrev pub turns_of : MirrorId → List Entry → List MirrorTurn
turns_of m entries = flat_map (turns_in m) entries

-- a mirror behind entries that follow others
abbrev pub kept_behind : List Entry → List Entry → MirrorId → MirrorTrace
kept_behind before entries m = after_turns (kept_from (content_of before m).content) (turns_of m entries)

-- its bytes are what its turns make of them
abbrev pub IsMadeByTurns : List Entry → List Entry → MirrorId → Type 0
IsMadeByTurns before entries m = (content_of (before ++ entries) m).content ≡ (kept_behind before entries m).content

-- a mirror that had the file's bytes, where a user's writes alone were applied, and each that was taken is covered
pub record HasHeld (base : List ℕ) (sent : List Pending) (before entries : List Entry) (m : MirrorId) : Type 0 where
  pub first : Has base (content_of before m).content
  pub period : IsPeriodOf sent [] (turns_of m entries)
  pub covered : AllByRecursion (λ w. IsIn w (kept_behind before entries m).covered) sent

-- all such mirrors have the same bytes: the file's with all that was taken
abbrev pub HeldAgree : List ℕ → List Pending → List Entry → List Entry → List MirrorId → Type 0
HeldAgree base sent before entries mirrors = AllByRecursion (HasHeld base sent before entries) mirrors → AllByRecursion (λ m. Has (overlay_all base sent) (content_of (before ++ entries) m).content) mirrors

-- ---- steps of the flat file

abbrev pub shown_behind : List Entry → List Entry → MirrorId → List ℕ
shown_behind before entries m = shown_of (content_of (before ++ entries) m).content

-- where none of a user strayed, such a mirror takes the step of a clean end
abbrev pub TakesCleanStep : List Entry → ℕ → List ℕ → List Entry → List Entry → MirrorId → Type 0
TakesCleanStep journal uid base before entries m = rogue_of uid journal ≡ [] → HasHeld base (sent_of uid journal) before entries m → IsCleanStep journal uid base (shown_behind before entries m)

-- a mirror that had the file's bytes, where writes of one user alone were applied, taken or strayed; what was told is covered; and nothing
-- is pending
pub record HasSettled (journal : List Entry) (uid : ℕ) (base : List ℕ) (before entries : List Entry) (m : MirrorId) : Type 0 where
  pub first : Has base (content_of before m).content
  pub period : IsPeriodOf (sent_of uid (before ++ entries)) (rogue_of uid (before ++ entries)) (turns_of m entries)
  pub told : AllByRecursion (λ w. IsIn w (sent_of uid (before ++ entries)) × IsIn w (kept_behind before entries m).covered) (told_of uid journal)
  pub settled : (content_of (before ++ entries) m).content.pending ≡ []

-- it takes the step of a dirty end
abbrev pub TakesDirtyStep : List Entry → ℕ → List ℕ → List Entry → List Entry → MirrorId → Type 0
TakesDirtyStep journal uid base before entries m = HasSettled journal uid base before entries m → IsDirtyStep journal (before ++ entries) uid base (shown_behind before entries m)
