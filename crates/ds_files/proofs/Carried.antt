-- What is carried out keeps what holds of every server.
use Rattle.std.proofs.Common.{◌≡◌, ℕ, ◌+◌, ◌-◌, ◌<◌, ◌≤◌, Bool, List, [], ◌∷◌, length, get_or, set, Some, max, refl, sym, ap, ◌∙◌, arith}
use Rattle.std.specs.Prelude.{slice_get}
use Rattle.std.proofs.lemmas.List.{length-set}
use Rattle.std.proofs.lemmas.List.Sums.{sum_by-set}
use Rattle.std.proofs.lemmas.Option.{slice_get_read}
use Rattle.cluster_model.specs.declared.tick.Tick.{Tick}
use Rattle.cluster_model.specs.declared.change.Changes.{Changes}
use Rattle.cluster_model.specs.Ticks.{next_tick}
use Rattle.cluster_model.specs.Content.{overlay}
use Rattle.cluster_model.specs.File.{StoredFile, FileOp, Writes, Commits, Sets, shown, written, committed, file_after, clock_after, set as set_attributes}
use Rattle.cluster_model.specs.Server.{max_total, max_ticks, OnFile, on_file}
use Rattle.cluster_model.proofs.Placing.{length-overlay}
use Rattle.cluster_model.proofs.Files.{shown-written}
use Rattle.ds_procedures.specs.declared.server_base.ServerBase.{ServerBase}
use Rattle.ds_procedures.specs.ServerBases.{IsServer, server_of}
use Rattle.ds_procedures.specs.CodePlans.{HasRoom, IsReady}
use Rattle.ds_files.specs.CarriedOut.{IsCarriedOut, head_after, clock_by}
use Rattle.ds_procedures.proofs.Places.{size_le_total}

-- one file is changed: the sizes together, and the count of ticks
pub keeps_sizes : (h : ServerBase) (files : List StoredFile) (index : ℕ) (f file : StoredFile) (clock : Tick) → IsServer h files → f ≡ get_or files index f → index < length files
    → h.total - length (shown f) + length (shown file) ≤ max_total → clock.count ≤ max_ticks → IsServer (record h { clock = clock; total = h.total - length (shown f) + length (shown file) }) (set files index file)
keeps_sizes h files index f file clock k is lt room le =
    let there = slice_get_read files (length files) index f refl lt is in
    let one = sum_by-set (λ (g : StoredFile). length (shown g)) files index file f lt in
    let old : length (shown (get_or files index f)) ≡ length (shown f) = ap (λ (g : StoredFile). length (shown g)) (sym is) in
    let total = k.total in
    let part = size_le_total files index f there in
    record { total = omega (arith, one, old, total, part); bounded = room; ticks = le; named = k.named ∙ sym (length-set files index file) }

-- the state after what is done to the file at an index
state_is : (h h' : ServerBase) (files : List StoredFile) (index : ℕ) (f file : StoredFile) (op : FileOp) → f ≡ get_or files index f → index < length files → file ≡ file_after f h.clock op
    → h'.number ≡ h.number → h'.clock ≡ clock_after h.clock op → h'.root ≡ h.root → h'.names ≡ h.names → server_of h' (set files index file) ≡ on_file (server_of h files) index op (slice_get files index)
state_is h h' files index f file op is lt made number clock root names =
    let there : slice_get files index ≡ Some f = slice_get_read files (length files) index f refl lt is in
    rw there cc

-- ---- WRITE

-- the size of a file after a write for which there is room
room_after : (h : ServerBase) (at : ℕ) (old bytes : List ℕ) → length old ≤ h.total → h.total ≤ max_total → HasRoom h (length old) at (length bytes) → h.total - length old + length (overlay old at bytes) ≤ max_total
room_after h at old [] part bounded g = omega arith
room_after h at old (b ∷ bytes) part bounded g =
    let room : h.total - length old + max (length old) (at + length (b ∷ bytes)) ≤ max_total = g.room (omega arith) in
    omega (arith, room, length-overlay old at b bytes)

ticks_after : (h : ServerBase) (size at : ℕ) (bytes : List ℕ) → h.clock.count ≤ max_ticks → HasRoom h size at (length bytes) → (clock_by h.clock bytes).count ≤ max_ticks
ticks_after h size at [] le g = le
ticks_after h size at (b ∷ bytes) le g =
    let less : h.clock.count < max_ticks = g.tick (omega arith) in
    omega (arith, less)

clock_is : (clock : Tick) (at : ℕ) (synced : Bool) (bytes : List ℕ) → clock_by clock bytes ≡ clock_after clock (Writes at synced bytes)
clock_is clock at synced [] = refl
clock_is clock at synced (b ∷ bytes) = refl

module _ (h : ServerBase) (files : List StoredFile) (index : ℕ) (f : StoredFile) (at : ℕ) (synced : Bool) (bytes : List ℕ) (k : IsServer h files) (is : f ≡ get_or files index f) (ready : IsReady h files (OnFile index (Writes at synced bytes))) where
  pub room_of : HasRoom h (length (shown f)) at (length bytes)
  room_of = ready.1 f (slice_get_read files (length files) index f refl ready.0 is)

  pub bounded_after : (file : StoredFile) → file ≡ written f (next_tick h.clock) at synced bytes → h.total - length (shown f) + length (shown file) ≤ max_total
  bounded_after file made =
      let there = slice_get_read files (length files) index f refl ready.0 is in
      let size : length (shown file) ≡ length (overlay (shown f) at bytes) = ap (λ (g : StoredFile). length (shown g)) made ∙ ap length (shown-written f (next_tick h.clock) at synced bytes) in
      let total = k.total in
      let part : length (shown f) ≤ h.total = omega (arith, size_le_total files index f there, total) in
      omega (arith, size, room_after h at (shown f) bytes part k.bounded room_of)

  pub writes : (file : StoredFile) → file ≡ written f (next_tick h.clock) at synced bytes → IsCarriedOut h files (OnFile index (Writes at synced bytes)) (head_after h (length (shown f)) (length (shown file)) bytes) (set files index file)
  writes file made =
      let h' = head_after h (length (shown f)) (length (shown file)) bytes in
      record {
        state = state_is h h' files index f file (Writes at synced bytes) is ready.0 made refl (clock_is h.clock at synced bytes) refl refl;
        keeps = keeps_sizes h files index f file (clock_by h.clock bytes) k is ready.0 (bounded_after file made) (ticks_after h (length (shown f)) at bytes k.ticks room_of);
      }

-- ---- COMMIT and SETATTR, which show as many bytes as before

same_total : (h : ServerBase) (files : List StoredFile) (index : ℕ) (f file : StoredFile) (clock : Tick) → IsServer h files → f ≡ get_or files index f → index < length files → length (shown file) ≡ length (shown f) → clock.count ≤ max_ticks
    → IsServer (record h { clock = clock }) (set files index file)
same_total h files index f file clock k is lt same le =
    let there = slice_get_read files (length files) index f refl lt is in
    let one = sum_by-set (λ (g : StoredFile). length (shown g)) files index file f lt in
    let old : length (shown (get_or files index f)) ≡ length (shown f) = ap (λ (g : StoredFile). length (shown g)) (sym is) in
    let total = k.total in
    let part = size_le_total files index f there in
    record { total = omega (arith, one, old, total, part, same); bounded = k.bounded; ticks = le; named = k.named ∙ sym (length-set files index file) }

pub commits : (h : ServerBase) (files : List StoredFile) (index : ℕ) (f file : StoredFile) → IsServer h files → f ≡ get_or files index f → index < length files → file ≡ committed f → IsCarriedOut h files (OnFile index Commits) h (set files index file)
commits h files index f file k is lt made =
    let size : length (shown file) ≡ length (shown f) = ap (λ (x : StoredFile). length (shown x)) made in
    record { state = state_is h h files index f file Commits is lt made refl refl refl refl; keeps = same_total h files index f file h.clock k is lt size k.ticks }

pub sets : (h : ServerBase) (files : List StoredFile) (index : ℕ) (f file : StoredFile) (changes : Changes) → IsServer h files → f ≡ get_or files index f → index < length files → h.clock.count < max_ticks
    → file ≡ set_attributes f (next_tick h.clock) changes → IsCarriedOut h files (OnFile index (Sets changes)) (record h { clock = next_tick h.clock }) (set files index file)
sets h files index f file changes k is lt less made =
    let size : length (shown file) ≡ length (shown f) = ap (λ (x : StoredFile). length (shown x)) made in
    let h' : ServerBase = record h { clock = next_tick h.clock } in
    record { state = state_is h h' files index f file (Sets changes) is lt made refl refl refl refl; keeps = same_total h files index f file (next_tick h.clock) k is lt size (omega (arith, less)) }
