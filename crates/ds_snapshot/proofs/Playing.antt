-- The bodies of a snapshot, from nothing, make what lasts of the server.
use Rattle.std.proofs.Common.{◌≡◌, ℕ, zero, suc, ◌+◌, ◌-◌, ◌*◌, ◌<◌, ◌≤◌, true, List, [], ◌∷◌, ◌++◌, length, map, take, drop, set, min, Option, Some, refl, sym, ap, ◌∙◌, arith}
use Rattle.std.specs.Prelude.{⊤, IsTrue, slice_get, nat_lt, nat_le, nat_eq}
use Rattle.std.proofs.lemmas.Bool.{le-leb, lt-ltb, eq-eqb}
use Rattle.std.proofs.lemmas.List.{append-nil, append_assoc, length_push, length-take, length-drop, map-append, take_all}
use Rattle.std.proofs.lemmas.List.Sums.{sum_by-cons}
use Rattle.std.proofs.Math.Seq.{set-append_seam}
use Rattle.cluster_model.specs.declared.tick.Tick.{Tick}
use Rattle.cluster_model.specs.declared.tick.Times.{Times}
use Rattle.cluster_model.specs.Content.{Pending}
use Rattle.cluster_model.specs.File.{StoredFile, shown}
use Rattle.cluster_model.specs.Server.{ServerState, total_size, max_file, max_total}
use Rattle.ds_procedures.specs.declared.setattr.TheConstants.{MODE_BITS}
use Rattle.ds_log.specs.Bodies.{Logged, Boots, HoldsBytes, HoldsRoot}
use Rattle.ds_log.specs.Durable.{start_of, durable, unbooted, is_good_name, holding, applied, then_all, all_applied}
use Rattle.ds_log.specs.Steady.{IsSteady, IsSteadyFile, AreGoodNames}
use Rattle.ds_log.proofs.Rooms.{at_some}
use Rattle.ds_log.proofs.Plays.{all_append}
use Rattle.ds_changes.proofs.Covering.{all_longer}
use Rattle.ds_changes.proofs.Sizes.{total_left, total_push}
use Rattle.ds_snapshot.specs.Snapshots.{chunk_size, chunk_at, first_chunks, chunk_count, chunk_bodies, file_body, file_bodies, files_bodies, snapshot_of}
use Rattle.ds_snapshot.proofs.Chunks.{joined_at, at_seam, none_first, one_more, holds}
use Rattle.ds_snapshot.proofs.Left.{left}

-- the first bytes of what lasts of a file
abbrev first_of : StoredFile → ℕ → StoredFile
first_of g m = record {
  content = record { stable = take m g.content.stable; pending = [] };
  owner = g.owner;
  group = g.group;
  mode = g.mode;
  times = g.stable_times;
  stable_times = g.stable_times;
}

-- what a body asks of a file
record CanLast (boot : ℕ) (g : StoredFile) : Type 0 where
  mode : g.mode < MODE_BITS
  ctime : g.stable_times.ctime.boot ≤ boot
  size : length g.content.stable ≤ max_file

abbrev AllCanLast : ℕ → List StoredFile → Type 0
AllCanLast boot [] = ⊤
AllCanLast boot (g ∷ files) = CanLast boot g × AllCanLast boot files

module _ (number boot : ℕ) (root : Times) where
  -- a server in a boot, with the root's times
  abbrev serving : List (List ℕ) → List StoredFile → ServerState
  serving names files = record { number = number; clock = start_of boot; root = root; names = names; files = files }

  -- ---- a file

  file_made : (names : List (List ℕ)) (files : List StoredFile) (name : List ℕ) (g : StoredFile) → IsTrue (is_good_name names name) → CanLast boot g
      → applied (serving names files) (file_body (length files + 2) name (left g)) ≡ Some (serving (names ++ name ∷ []) (files ++ first_of g 0 ∷ []))
  file_made names files name g good can =
      let next : nat_eq (length files + 2) (length files + 2) ≡ true = eq-eqb (length files + 2) (length files + 2) refl in
      let bits : nat_lt g.mode MODE_BITS ≡ true = lt-ltb g.mode MODE_BITS can.mode in
      let begun : nat_le g.stable_times.ctime.boot boot ≡ true = le-leb g.stable_times.ctime.boot boot can.ctime in
      rw (good, next, bits, begun) refl

  module _ (names : List (List ℕ)) (files : List StoredFile) (g : StoredFile) (can : CanLast boot g) (room : total_size files + length g.content.stable ≤ max_total) where
    -- some bytes more, behind those that are there
    more_made : (m c : ℕ) → m ≤ length g.content.stable
        → applied (serving names (files ++ first_of g m ∷ [])) (HoldsBytes (length files + 2) g.stable_times.mtime g.stable_times.ctime (record { at = m; bytes = take c (drop m g.content.stable) } ∷ [])) ≡ Some (serving names (files ++ first_of g (m + c) ∷ []))
    more_made m c le =
        let bytes = g.content.stable in
        let w : Pending = record { at = m; bytes = take c (drop m bytes) } in
        let s : ServerState = serving names (files ++ first_of g m ∷ []) in
        let p : StoredFile = first_of g m in
        let q : StoredFile = first_of g (m + c) in
        let back : length files + 2 - 2 ≡ length files = omega arith in
        let made : holding p g.stable_times.mtime g.stable_times.ctime (w ∷ []) ≡ q = ap (λ (bs : List ℕ). record p { content = record { stable = bs; pending = [] } }) (joined_at bytes m c le) in
        let changed : set (files ++ p ∷ []) (length files) q ≡ files ++ q ∷ [] = set-append_seam files p [] q in
        let size : length (take c (drop m bytes)) ≡ min c (length bytes - m) = length-take c (drop m bytes) ∙ ap (min c) (length-drop m bytes) in
        let ends : nat_le (m + length w.bytes) max_file ≡ true = le-leb (m + length w.bytes) max_file (omega (arith, size, can.size, le)) in
        let all : length (take (m + c) bytes) ≡ min (m + c) (length bytes) = length-take (m + c) bytes in
        let total : nat_le (total_size (files ++ q ∷ [])) max_total ≡ true = le-leb (total_size (files ++ q ∷ [])) max_total (omega (arith, total_push files q, all, room)) in
        let begun : nat_le g.stable_times.ctime.boot boot ≡ true = le-leb g.stable_times.ctime.boot boot can.ctime in
        at_some s (length files + 2) (length files) p _ (λ (h : StoredFile). holding h g.stable_times.mtime g.stable_times.ctime (w ∷ [])) (omega arith) (omega arith) (at_seam files p [])
        ∙ rw (back, made, changed, ends, total, begun) refl

    -- the first chunks
    chunks_made : (n : ℕ) → ((k : ℕ) → k < n → k * chunk_size ≤ length g.content.stable)
        → all_applied (serving names (files ++ first_of g 0 ∷ [])) (map (holds (length files + 2) (left g)) (first_chunks g.content.stable n)) ≡ Some (serving names (files ++ first_of g (n * chunk_size) ∷ []))
    chunks_made zero within = ap (λ (ws : List Pending). all_applied (serving names (files ++ first_of g 0 ∷ [])) (map (holds (length files + 2) (left g)) ws)) (none_first g.content.stable)
    chunks_made (suc n) within =
        let bytes = g.content.stable in
        let start : ServerState = serving names (files ++ first_of g 0 ∷ []) in
        let mid : ServerState = serving names (files ++ first_of g (n * chunk_size) ∷ []) in
        let last : Logged = holds (length files + 2) (left g) (chunk_at bytes n) in
        let front : List Logged = map (holds (length files + 2) (left g)) (first_chunks bytes n) in
        let end : n * chunk_size + chunk_size ≡ suc n * chunk_size = omega arith in
        ap (λ (ws : List Pending). all_applied start (map (holds (length files + 2) (left g)) ws)) (one_more bytes n)
        ∙ ap (all_applied start) (map-append (holds (length files + 2) (left g)) (first_chunks bytes n) (chunk_at bytes n ∷ []))
        ∙ all_append start mid front (last ∷ []) (chunks_made n (λ k less. within k (omega (arith, less))))
        ∙ ap (λ (o : Option ServerState). then_all o (λ next. all_applied next [])) (more_made (n * chunk_size) chunk_size (within n (omega arith)))
        ∙ ap (λ (m : ℕ). Some (serving names (files ++ first_of g m ∷ []))) end

  -- with all chunks its bytes are all there
  whole_made : (names : List (List ℕ)) (files : List StoredFile) (name : List ℕ) (g : StoredFile) → IsTrue (is_good_name names name) → CanLast boot g → total_size files + length g.content.stable ≤ max_total
      → all_applied (serving names files) (file_bodies (length files + 2) name (left g)) ≡ Some (serving (names ++ name ∷ []) (files ++ left g ∷ []))
  whole_made names files name g good can room =
      let bytes = g.content.stable in
      let count = chunk_count (length bytes) in
      ap (λ (o : Option ServerState). then_all o (λ next. all_applied next (chunk_bodies (length files + 2) (left g)))) (file_made names files name g good can)
      ∙ chunks_made (names ++ name ∷ []) files g can room count (λ k less. omega (arith, less))
      ∙ ap (λ (bs : List ℕ). Some (serving (names ++ name ∷ []) (files ++ record (first_of g 0) { content = record { stable = bs; pending = [] } } ∷ []))) (take_all (count * chunk_size) bytes (omega arith))

  -- ---- all files

  files_made : (front names : List (List ℕ)) (done files : List StoredFile) → length names ≡ length files → AreGoodNames front names → AllCanLast boot files → total_size done + total_size (map left files) ≤ max_total
      → all_applied (serving front done) (files_bodies (length done + 2) names (map left files)) ≡ Some (serving (front ++ names) (done ++ map left files))
  files_made front [] done [] named good can room = λ i. Some (serving (sym (append-nil front) i) (sym (append-nil done) i))
  files_made front [] done (g ∷ files) named good can room = absurd (omega (arith, named))
  files_made front (name ∷ names) done [] named good can room = absurd (omega (arith, named))
  files_made front (name ∷ names) done (g ∷ files) named good can room =
      let rest : total_size (left g ∷ map left files) ≡ length g.content.stable + total_size (map left files) = sum_by-cons (λ (f : StoredFile). length (shown f)) (left g) (map left files) in
      let pushed : total_size (done ++ left g ∷ []) ≡ total_size done + length g.content.stable = total_push done (left g) in
      let next : length done + 2 + 1 ≡ length (done ++ left g ∷ []) + 2 = omega (arith, length_push done (left g)) in
      let mid : ServerState = serving (front ++ name ∷ []) (done ++ left g ∷ []) in
      all_append (serving front done) mid (file_bodies (length done + 2) name (left g)) (files_bodies (length done + 2 + 1) names (map left files)) (whole_made front done name g good.0 can.0 (omega (arith, room, rest)))
      ∙ ap (λ (n : ℕ). all_applied mid (files_bodies n names (map left files))) next
      ∙ files_made (front ++ name ∷ []) names (done ++ left g ∷ []) files (omega (arith, named)) good.1 can.1 (omega (arith, room, rest, pushed))
      ∙ (λ i. Some (serving (append_assoc front (name ∷ []) names i) (append_assoc done (left g ∷ []) (map left files) i)))

-- ---- a server

can_last : (clock : Tick) (g : StoredFile) → IsSteadyFile clock g → CanLast clock.boot g
can_last clock g k = record { mode = k.mode; ctime = k.stable_ctime; size = omega (arith, all_longer g.content.pending g.content.stable, k.size) }

all_can_last : (clock : Tick) (files : List StoredFile) → ((index : ℕ) (g : StoredFile) → slice_get files index ≡ Some g → IsSteadyFile clock g) → AllCanLast clock.boot files
all_can_last clock [] each = tt
all_can_last clock (g ∷ files) each = (can_last clock g (each 0 g refl), all_can_last clock files (λ index f there. each (suc index) f there))

pub snapshot_plays : (s : ServerState) → IsSteady s → 0 < s.clock.boot → all_applied (unbooted s.number) (snapshot_of (durable s)) ≡ Some (durable s)
snapshot_plays s k some =
    let boots : nat_lt 0 s.clock.boot ≡ true = lt-ltb 0 s.clock.boot some in
    let begun : nat_le s.root.ctime.boot s.clock.boot ≡ true = le-leb s.root.ctime.boot s.clock.boot k.root in
    let bodies = files_bodies 2 s.names (map left s.files) in
    let start : ServerState = record (unbooted s.number) { clock = start_of s.clock.boot } in
    let first : applied (unbooted s.number) (Boots s.clock.boot) ≡ Some start = rw boots refl in
    let second : applied start (HoldsRoot s.root) ≡ Some (serving s.number s.clock.boot s.root [] []) = rw begun refl in
    ap (λ (o : Option ServerState). then_all o (λ next. all_applied next (HoldsRoot s.root ∷ bodies))) first
    ∙ ap (λ (o : Option ServerState). then_all o (λ next. all_applied next bodies)) second
    ∙ files_made s.number s.clock.boot s.root [] s.names [] s.files k.named k.names (all_can_last s.clock s.files k.each) (omega (arith, total_left s.files, k.room))
