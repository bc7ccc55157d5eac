-- Whatever is done to a proper file leaves it proper.
use Rattle.std.proofs.Common.{◌≡◌, ℕ, zero, suc, ◌+◌, ◌^◌, ◌<◌, ◌≤◌, true, false, List, [], ◌∷◌, ◌++◌, length, take, drop, set, Option, Some, None, refl, ap, subst, ◌∙◌, arith, leb-true, length-take}
use Rattle.std.specs.Prelude.{slice_get, nat_le, unwrap_or}
use Rattle.std.specs.List.{AllByRecursion}
use Rattle.std.proofs.lemmas.Bool.{cond_both}
use Rattle.std.proofs.lemmas.Option.{same_Some}
use Rattle.cluster_model.specs.declared.limits.TheConstants.{FILE_MODE}
use Rattle.cluster_model.specs.declared.piece.Piece.{Piece}
use Rattle.cluster_model.specs.declared.tick.Tick.{Tick}
use Rattle.cluster_model.specs.declared.tick.Times.{Times}
use Rattle.cluster_model.specs.declared.change.NewTime.{NewTime}
use Rattle.cluster_model.specs.declared.change.NewTime.TheVariants.{Keep, Now, At}
use Rattle.cluster_model.specs.declared.change.Changes.{Changes}
use Rattle.cluster_model.specs.Content.{Content, Pending, overlay, overlay_all, shown_of, joined, settled, survived, piece_of, kept_of}
use Rattle.cluster_model.specs.File.{StoredFile, FileOp, Writes, Commits, Sets, Restarts, all_at, new_file, times_after, taken, committed, time_set, times_set, restarted, file_after}
use Rattle.cluster_model.specs.Ticks.{next_tick}
use Rattle.cluster_model.specs.Server.{max_file}
use Rattle.cluster_model.proofs.Placing.{length-overlay-le}
use Rattle.proper_servers.specs.ProperServers.{IsProperTick, AreProperTimes, EndsInLongestFile, IsProperContent, IsProperFile}

-- ---- lists

pub all_append : {A : Type 0} (P : A → Type 0) (xs ys : List A) → AllByRecursion P xs → AllByRecursion P ys → AllByRecursion P (xs ++ ys)
all_append P [] ys h k = k
all_append P (x ∷ xs) ys h k = (h.0, all_append P xs ys h.1 k)

pub each_at : {A : Type 0} (P : A → Type 0) (xs : List A) (i : ℕ) (x : A) → AllByRecursion P xs → slice_get xs i ≡ Some x → P x
each_at P [] i x h e = absurd cc
each_at P (y ∷ xs) zero x h e = subst P (same_Some y x e) h.0
each_at P (y ∷ xs) (suc i) x h e = each_at P xs i x h.1 e

pub all_set : {A : Type 0} (P : A → Type 0) (xs : List A) (i : ℕ) (x : A) → AllByRecursion P xs → P x → AllByRecursion P (set xs i x)
all_set P [] i x h p = tt
all_set P (y ∷ xs) zero x h p = (p, h.1)
all_set P (y ∷ xs) (suc i) x h p = (h.0, all_set P xs i x h.1 p)

-- ---- bytes

overlay_within : (xs : List ℕ) (ws : List Pending) → length xs ≤ max_file → AllByRecursion EndsInLongestFile ws → length (overlay_all xs ws) ≤ max_file
overlay_within xs [] h g = h
overlay_within xs (w ∷ ws) h g = overlay_within (overlay xs w.at w.bytes) ws (length-overlay-le xs w.at w.bytes max_file h g.0) g.1

-- a reader sees no more than the longest file
pub shown_within : (c : Content) → IsProperContent c → length (shown_of c) ≤ max_file
shown_within c i = overlay_within c.stable c.pending i.stable i.pending

joined_proper : (c : Content) (at : ℕ) (bytes : List ℕ) → (0 < length bytes → at + length bytes ≤ max_file) → IsProperContent c → IsProperContent (joined c at bytes)
joined_proper c at [] ends i = i
joined_proper c at (b ∷ bytes) ends i = record { stable = i.stable; pending = all_append EndsInLongestFile c.pending (record { at = at; bytes = b ∷ bytes } ∷ []) i.pending (ends (omega arith), tt) }

settled_proper : (c : Content) → IsProperContent c → IsProperContent (settled c)
settled_proper c i = record { stable = shown_within c i; pending = tt }

-- a piece is a part of its write
piece_within : (p : Piece) (o : Option Pending) → ((w : Pending) → o ≡ Some w → EndsInLongestFile w) → AllByRecursion EndsInLongestFile (piece_of p o)
piece_within p None all = tt
piece_within p (Some w) all =
    cond_both (nat_le (p.from + p.count) (length w.bytes)) (record { at = w.at + p.from; bytes = take p.count (drop p.from w.bytes) } ∷ []) [] (AllByRecursion EndsInLongestFile)
    (λ e.
    let fits = leb-true (p.from + p.count) (length w.bytes) e in
    let size = length-take p.count (drop p.from w.bytes) in
    let ends = all w refl in
    (omega (arith, fits, size, ends), tt))
    (λ e. tt)

kept_within : (pending : List Pending) (pieces : List Piece) → AllByRecursion EndsInLongestFile pending → AllByRecursion EndsInLongestFile (kept_of pending pieces)
kept_within pending [] all = tt
kept_within pending (p ∷ pieces) all =
    all_append EndsInLongestFile (piece_of p (slice_get pending p.index)) (kept_of pending pieces) (piece_within p (slice_get pending p.index) (λ w is. each_at EndsInLongestFile pending p.index w all is)) (kept_within pending pieces all)

survived_proper : (c : Content) (pieces : List Piece) → IsProperContent c → IsProperContent (survived c pieces)
survived_proper c pieces i = record { stable = overlay_within c.stable (kept_of c.pending pieces) i.stable (kept_within c.pending pieces i.pending); pending = tt }

-- ---- times

pub all_proper : (t : Tick) → IsProperTick t → AreProperTimes (all_at t)
all_proper t i = record { atime = i; mtime = i; ctime = i }

times_after_proper : (times : Times) (t : Tick) (bytes : List ℕ) → IsProperTick t → AreProperTimes times → AreProperTimes (times_after times t bytes)
times_after_proper times t [] next i = i
times_after_proper times t (b ∷ bytes) next i = record { atime = i.atime; mtime = next; ctime = next }

-- ---- what is set

abbrev pub NewTimeFits : NewTime → Type 0
NewTimeFits Keep = Unit {0}
NewTimeFits Now = Unit {0}
NewTimeFits (At t) = IsProperTick t

abbrev pub NumberFits : Option ℕ → Type 0
NumberFits None = Unit {0}
NumberFits (Some n) = n < 2 ^ 32

pub record ChangesFit (c : Changes) : Type 0 where
  pub new_owner : NumberFits c.owner
  pub new_group : NumberFits c.group
  pub new_mode : c.mode ≡ None
  pub new_atime : NewTimeFits c.atime
  pub new_mtime : NewTimeFits c.mtime

set_time_proper : (n : NewTime) (t old : Tick) → NewTimeFits n → IsProperTick t → IsProperTick old → IsProperTick (time_set n t old)
set_time_proper Keep t old fits next i = i
set_time_proper Now t old fits next i = next
set_time_proper (At at) t old fits next i = fits

set_number : (o : Option ℕ) (old : ℕ) → NumberFits o → old < 2 ^ 32 → unwrap_or o old < 2 ^ 32
set_number None old fits i = i
set_number (Some n) old fits i = fits

set_times_proper : (times : Times) (t : Tick) (c : Changes) → ChangesFit c → IsProperTick t → AreProperTimes times → AreProperTimes (times_set times t c)
set_times_proper times t c fits next i = record {
  atime = set_time_proper c.atime t times.atime fits.new_atime next i.atime;
  mtime = set_time_proper c.mtime t times.mtime fits.new_mtime next i.mtime;
  ctime = next;
}

-- ---- a file

pub new_proper : (owner group mode : ℕ) (t : Tick) → owner < 2 ^ 32 → group < 2 ^ 32 → mode ≡ FILE_MODE → IsProperTick t → IsProperFile (new_file owner group mode t)
new_proper owner group mode t owns groups modes next = record {
  content = record { stable = omega arith; pending = tt };
  owner = owns;
  group = groups;
  mode = modes;
  times = all_proper t next;
  stable_times = all_proper t next;
}

abbrev pub OpFits : FileOp → Type 0
OpFits (Writes at synced bytes) = 0 < length bytes → at + length bytes ≤ max_file
OpFits Commits = Unit {0}
OpFits (Sets c) = ChangesFit c
OpFits (Restarts pieces) = Unit {0}

committed_proper : (f : StoredFile) → IsProperFile f → IsProperFile (committed f)
committed_proper f i = record { content = settled_proper f.content i.content; owner = i.owner; group = i.group; mode = i.mode; times = i.times; stable_times = i.times }

taken_proper : (f : StoredFile) (t : Tick) (at : ℕ) (bytes : List ℕ) → (0 < length bytes → at + length bytes ≤ max_file) → IsProperTick t → IsProperFile f → IsProperFile (taken f t at bytes)
taken_proper f t at bytes ends next i = record {
  content = joined_proper f.content at bytes ends i.content;
  owner = i.owner;
  group = i.group;
  mode = i.mode;
  times = times_after_proper f.times t bytes next i.times;
  stable_times = i.stable_times;
}

pub restarted_proper : (f : StoredFile) (pieces : List Piece) → IsProperFile f → IsProperFile (restarted f pieces)
restarted_proper f pieces i = record { content = survived_proper f.content pieces i.content; owner = i.owner; group = i.group; mode = i.mode; times = i.stable_times; stable_times = i.stable_times }

pub op_proper : (f : StoredFile) (clock : Tick) (op : FileOp) → IsProperTick (next_tick clock) → OpFits op → IsProperFile f → IsProperFile (file_after f clock op)
op_proper f clock (Writes at false bytes) next ends i = taken_proper f (next_tick clock) at bytes ends next i
op_proper f clock (Writes at true bytes) next ends i = committed_proper (taken f (next_tick clock) at bytes) (taken_proper f (next_tick clock) at bytes ends next i)
op_proper f clock Commits next fits i = committed_proper f i
op_proper f clock (Sets c) next fits i = record {
  content = i.content;
  owner = set_number c.owner f.owner fits.new_owner i.owner;
  group = set_number c.group f.group fits.new_group i.group;
  mode = ap (λ (o : Option ℕ). unwrap_or o f.mode) fits.new_mode ∙ i.mode;
  times = set_times_proper f.times (next_tick clock) c fits next i.times;
  stable_times = set_times_proper f.times (next_tick clock) c fits next i.times;
}
op_proper f clock (Restarts pieces) next fits i = restarted_proper f pieces i
