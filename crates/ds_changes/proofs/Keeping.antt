-- A steady server stays one.
use Rattle.std.proofs.Common.{◌≡◌, ℕ, zero, suc, ◌⊎◌, ◌+◌, ◌-◌, ◌<◌, ◌≤◌, Bool, true, false, List, [], ◌∷◌, ◌++◌, length, set, max, Option, Some, None, refl, sym, ap, subst, ◌∙◌, arith, inl, inr}
use Rattle.std.specs.Prelude.{slice_get, unwrap_or, IsTrue, nat_lt, nat_le}
use Rattle.std.proofs.lemmas.Bool.{cases_eq, lt-ltb, le-leb}
use Rattle.std.proofs.lemmas.List.{length-set, length-append}
use Rattle.std.proofs.lemmas.Option.{same_Some}
use Rattle.cluster_model.specs.declared.tick.Tick.{Tick}
use Rattle.cluster_model.specs.Ticks.{next_tick}
use Rattle.cluster_model.specs.Content.{overlay}
use Rattle.cluster_model.specs.File.{StoredFile, FileOp, Writes, Commits, Sets, Restarts, shown, new_file, file_after, clock_after, written}
use Rattle.cluster_model.specs.Server.{ServerState, Effect, NoEffect, OnFile, NewFile, on_file, server_after, total_size, max_file, max_total, index_of}
use Rattle.cluster_model.proofs.Elements.{slice_get-set_same, slice_get-set_other, Pushed, Old, New, pushed}
use Rattle.cluster_model.proofs.Files.{shown-written}
use Rattle.cluster_model.proofs.Placing.{length-overlay, length-overlay-le}
use Rattle.ds_procedures.specs.declared.lookup.TheConstants.{MAX_NAME}
use Rattle.ds_procedures.specs.declared.setattr.TheConstants.{MODE_BITS}
use Rattle.ds_procedures.specs.CodePlans.{HasRoom, HasRoomFor}
use Rattle.ds_procedures.proofs.Places.{size_le_total}
use Rattle.ds_files.specs.Decisions.{CanDo, superblock_of, IsMakeable, IsMode, IsWellMadeOp}
use Rattle.ds_log.specs.Durable.{is_good_name}
use Rattle.ds_log.specs.Steady.{IsSteady, IsSteadyFile}
use Rattle.ds_log.proofs.LastingLemmas.{good_push}
use Rattle.ds_changes.proofs.Sizes.{total_set, total_push}

-- a file is steady at each later tick of the boot
later : (clock next : Tick) (f : StoredFile) → next.boot ≡ clock.boot → IsSteadyFile clock f → IsSteadyFile next f
later clock next f same k = record { atime = k.atime; settled = k.settled; mode = k.mode; ctime = omega (arith, same, k.ctime); stable_ctime = omega (arith, same, k.stable_ctime); size = k.size }

-- no effect but a restart begins a boot
pub same_boot : (clock : Tick) (op : FileOp) (s : ServerState) (f : StoredFile) → HasRoomFor (superblock_of s) f op → (clock_after clock op).boot ≡ clock.boot
same_boot clock (Writes at synced []) s f room = refl
same_boot clock (Writes at synced (b ∷ bytes)) s f room = refl
same_boot clock Commits s f room = refl
same_boot clock (Sets changes) s f room = refl
same_boot clock (Restarts pieces) s f room = absurd room

-- ---- one file

not_empty : {A : Type 0} (xs : List A) (x : A) → xs ++ x ∷ [] ≡ [] → ⊥
not_empty [] x e = absurd cc
not_empty (y ∷ xs) x e = absurd cc

mode_after : (mode : Option ℕ) (old : ℕ) → IsMode mode → old < MODE_BITS → unwrap_or mode old < MODE_BITS
mode_after None old is h = h
mode_after (Some mode) old is h = is

-- a write that has room ends within a file
written_size : (s : ServerState) (f : StoredFile) (tick : Tick) (at : ℕ) (synced : Bool) (b : ℕ) (bytes : List ℕ) → length (shown f) ≤ max_file → HasRoom (superblock_of s) (length (shown f)) at (length (b ∷ bytes)) → length (shown (written f tick at synced (b ∷ bytes))) ≤ max_file
written_size s f tick at synced b bytes size room =
    rw (shown-written f tick at synced (b ∷ bytes)) (length-overlay-le (shown f) at (b ∷ bytes) max_file size (room.short (omega arith)))

pub file_keeps : (s : ServerState) (f : StoredFile) (op : FileOp) → IsSteadyFile s.clock f → HasRoomFor (superblock_of s) f op → IsWellMadeOp op → IsSteadyFile (clock_after s.clock op) (file_after f s.clock op)
file_keeps s f (Writes at false []) k room made = k
file_keeps s f (Writes at false (b ∷ bytes)) k room made = record {
  atime = k.atime;
  settled = λ none. absurd (not_empty f.content.pending (record { at = at; bytes = b ∷ bytes }) none);
  mode = k.mode;
  ctime = omega arith;
  stable_ctime = k.stable_ctime;
  size = written_size s f (next_tick s.clock) at false b bytes k.size room;
}
file_keeps s f (Writes at true []) k room made = record { atime = refl; settled = λ none. refl; mode = k.mode; ctime = k.ctime; stable_ctime = k.ctime; size = k.size }
file_keeps s f (Writes at true (b ∷ bytes)) k room made = record {
  atime = refl;
  settled = λ none. refl;
  mode = k.mode;
  ctime = omega arith;
  stable_ctime = omega arith;
  size = written_size s f (next_tick s.clock) at true b bytes k.size room;
}
file_keeps s f Commits k room made = record { atime = refl; settled = λ none. refl; mode = k.mode; ctime = k.ctime; stable_ctime = k.ctime; size = k.size }
file_keeps s f (Sets changes) k room made = record { atime = refl; settled = λ none. refl; mode = mode_after changes.mode f.mode made k.mode; ctime = omega arith; stable_ctime = omega arith; size = k.size }
file_keeps s f (Restarts pieces) k room made = absurd room

-- ---- the files together

-- the files have room for one whose size changed
write_room : (s : ServerState) (index : ℕ) (f : StoredFile) (tick : Tick) (at : ℕ) (synced : Bool) (bytes : List ℕ) → slice_get s.files index ≡ Some f → total_size s.files ≤ max_total → HasRoom (superblock_of s) (length (shown f)) at (length bytes)
    → total_size s.files + length (shown (written f tick at synced bytes)) ≤ max_total + length (shown f)
write_room s index f tick at synced [] there most room =
    let same : length (shown (written f tick at synced [])) ≡ length (shown f) = ap length (shown-written f tick at synced []) in
    omega (arith, most, same)
write_room s index f tick at synced (b ∷ bytes) there most room =
    let new : length (shown (written f tick at synced (b ∷ bytes))) ≡ length (overlay (shown f) at (b ∷ bytes)) = ap length (shown-written f tick at synced (b ∷ bytes)) in
    let long = length-overlay (shown f) at b bytes in
    let part = size_le_total s.files index f there in
    let left : total_size s.files - length (shown f) + max (length (shown f)) (at + length (b ∷ bytes)) ≤ max_total = room.room (omega arith) in
    omega (arith, new, long, part, left)

op_room : (s : ServerState) (index : ℕ) (f : StoredFile) (op : FileOp) → slice_get s.files index ≡ Some f → total_size s.files ≤ max_total → HasRoomFor (superblock_of s) f op
    → total_size s.files + length (shown (file_after f s.clock op)) ≤ max_total + length (shown f)
op_room s index f (Writes at synced bytes) there most room = write_room s index f (next_tick s.clock) at synced bytes there most room
op_room s index f Commits there most room = omega (arith, most)
op_room s index f (Sets changes) there most room = omega (arith, most)
op_room s index f (Restarts pieces) there most room = absurd room

pub total_after : (s : ServerState) (index : ℕ) (f : StoredFile) (op : FileOp) → slice_get s.files index ≡ Some f → total_size s.files ≤ max_total → HasRoomFor (superblock_of s) f op → total_size (set s.files index (file_after f s.clock op)) ≤ max_total
total_after s index f op there most room =
    let sum = total_set s.files index f (file_after f s.clock op) there in
    let all = op_room s index f op there most room in
    omega (arith, sum, all)

-- ---- the server

file_set : (s : ServerState) (index : ℕ) (f : StoredFile) (op : FileOp) → slice_get s.files index ≡ Some f → IsSteady s → HasRoomFor (superblock_of s) f op → IsWellMadeOp op → IsSteady (on_file s index op (Some f))
file_set s index f op there k room made = record {
  each = λ i g found. by_place i g found (cases_eq i index);
  named = k.named ∙ sym (length-set s.files index (file_after f s.clock op));
  names = k.names;
  root = omega (arith, k.root, same_boot s.clock op s f room);
  room = total_after s index f op there k.room room;
}
  where
    by_place : (i : ℕ) (g : StoredFile) → slice_get (set s.files index (file_after f s.clock op)) i ≡ Some g → (i ≡ index) ⊎ ((i ≡ index) → ⊥) → IsSteadyFile (clock_after s.clock op) g
    by_place i g found (inl same) =
        let here : slice_get (set s.files index (file_after f s.clock op)) i ≡ Some (file_after f s.clock op) = ap (slice_get (set s.files index (file_after f s.clock op))) same ∙ slice_get-set_same s.files index f (file_after f s.clock op) there in
        subst (IsSteadyFile (clock_after s.clock op)) (same_Some (file_after f s.clock op) g (sym here ∙ found)) (file_keeps s f op (k.each index f there) room made)
    by_place i g found (inr other) =
        later s.clock (clock_after s.clock op) g (same_boot s.clock op s f room) (k.each i g (sym (slice_get-set_other s.files index i (file_after f s.clock op) other) ∙ found))

-- a name that may be made is a good one
good_name : (names : List (List ℕ)) (name : List ℕ) (mode : ℕ) → IsMakeable name mode → index_of names name ≡ None → IsTrue (is_good_name names name)
good_name names name mode made absent =
    let some : nat_lt 0 (length name) ≡ true = lt-ltb _ _ made.some in
    let short : nat_le (length name) MAX_NAME ≡ true = le-leb _ _ made.short in
    rw (some, short, absent) refl

file_push : (s : ServerState) (name : List ℕ) (owner group mode : ℕ) → IsSteady s → IsMakeable name mode → index_of s.names name ≡ None → IsSteady (server_after s (NewFile name owner group mode))
file_push s name owner group mode k made absent = record {
  each = λ i g found. by_place i g (pushed s.files (new_file owner group mode (next_tick s.clock)) i g found);
  named =
      let names = length-append s.names (name ∷ []) in
      let files = length-append s.files (new_file owner group mode (next_tick s.clock) ∷ []) in
      omega (arith, names, files, k.named);
  names = good_push [] s.names name k.names (good_name s.names name mode made absent);
  root = omega arith;
  room = let sum = total_push s.files (new_file owner group mode (next_tick s.clock)) in omega (arith, sum, k.room);
}
  where
    by_place : (i : ℕ) (g : StoredFile) → Pushed s.files (new_file owner group mode (next_tick s.clock)) i g → IsSteadyFile (next_tick s.clock) g
    by_place i g (Old there) = later s.clock (next_tick s.clock) g refl (k.each i g there)
    by_place i g (New at is) = subst (IsSteadyFile (next_tick s.clock)) (sym is) (record { atime = refl; settled = λ none. refl; mode = made.bits; ctime = omega arith; stable_ctime = omega arith; size = omega arith })

-- what is done to the file at an index is done to one that is there
pub at_index : (s : ServerState) (index : ℕ) → index < length s.files → (f : StoredFile) × (slice_get s.files index ≡ Some f)
at_index s index lt = by_get (slice_get s.files index) refl
  where
    by_get : (found : Option StoredFile) → slice_get s.files index ≡ found → (f : StoredFile) × (slice_get s.files index ≡ Some f)
    by_get (Some f) e = (f, e)
    by_get None e = absurd (not_past s.files index lt e)
      where
        not_past : (files : List StoredFile) (i : ℕ) → i < length files → slice_get files i ≡ None → ⊥
        not_past [] i less none = absurd (omega (arith, less))
        not_past (g ∷ files) zero less none = absurd cc
        not_past (g ∷ files) (suc i) less none = not_past files i (omega (arith, less)) none

pub steady_after : (s : ServerState) (effect : Effect) → IsSteady s → CanDo s effect → IsSteady (server_after s effect)
steady_after s NoEffect k can = k
steady_after s (NewFile name owner group mode) k can = file_push s name owner group mode k can.made can.ready.1
steady_after s (OnFile index op) k can =
    let found = at_index s index can.ready.0 in
    subst (λ (o : Option StoredFile). IsSteady (on_file s index op o)) (sym found.1) (file_set s index found.0 op found.1 k (can.ready.1 found.0 found.1) can.made)
