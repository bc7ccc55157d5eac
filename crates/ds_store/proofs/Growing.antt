-- What a server's snapshot has of bytes does not fall.
use Rattle.std.proofs.Common.{◌≡◌, ℕ, zero, suc, ◌+◌, ◌*◌, ◌≤◌, true, false, List, [], ◌∷◌, ◌++◌, length, map, set, Option, Some, sym, subst, arith}
use Rattle.std.specs.Prelude.{slice_get}
use Rattle.std.proofs.lemmas.Option.{same_Some}
use Rattle.ff_xdr.specs.Form.{pad_len}
use Rattle.cluster_model.specs.declared.tick.Times.{Times}
use Rattle.cluster_model.specs.Ticks.{next_tick}
use Rattle.cluster_model.specs.File.{StoredFile, FileOp, Writes, Commits, Sets, Restarts, new_file, file_after}
use Rattle.cluster_model.specs.Server.{ServerState, Effect, NoEffect, OnFile, NewFile, on_file, server_after}
use Rattle.ds_procedures.specs.CodePlans.{HasRoomFor}
use Rattle.ds_files.specs.Decisions.{CanDo, superblock_of}
use Rattle.ds_log.specs.Bodies.{Logged, Boots, HoldsRoot}
use Rattle.ds_log.specs.Durable.{durable}
use Rattle.ds_log.specs.Steady.{IsSteady}
use Rattle.ds_changes.proofs.Covering.{all_longer}
use Rattle.ds_changes.proofs.Keeping.{at_index}
use Rattle.ds_snapshot.specs.Snapshots.{chunk_count, file_bodies, files_bodies}
use Rattle.ds_snapshot.specs.Sizes.{bodies_size, snapshot_size}
use Rattle.ds_snapshot.proofs.Left.{left}
use Rattle.ds_snapshot.proofs.Sizing.{boot_size, root_size, pad_up, file_bodies_size}

-- ---- bodies together

sum_of : (xs ys : List Logged) → bodies_size (xs ++ ys) ≡ bodies_size xs + bodies_size ys
sum_of [] ys = omega arith
sum_of (x ∷ xs) ys = omega (arith, sum_of xs ys)

behind_head : (boot : ℕ) (root : Times) (bodies : List Logged) → bodies_size (Boots boot ∷ HoldsRoot root ∷ bodies) ≡ 46 + bodies_size bodies
behind_head boot root bodies = omega (arith, boot_size boot, root_size root)

-- ---- one file

-- more stable bytes have no fewer chunks and no fewer bytes with their zeros
rises : (n m : ℕ) → n ≤ m → chunk_count n * 49 + (n + pad_len n) ≤ chunk_count m * 49 + (m + pad_len m)
rises n m le = omega (arith, le, pad_up n, pad_up m)

abbrev Lengthens : StoredFile → StoredFile → Type 0
Lengthens f g = length f.content.stable ≤ length g.content.stable

file_rises : (fileid : ℕ) (name : List ℕ) (f g : StoredFile) → Lengthens f g → bodies_size (file_bodies fileid name (left f)) ≤ bodies_size (file_bodies fileid name (left g))
file_rises fileid name f g le = omega (arith, file_bodies_size fileid (left f) name, file_bodies_size fileid (left g) name, rises (length f.content.stable) (length g.content.stable) le)

-- no stable byte is lost but by a restart
lengthens : (s : ServerState) (f : StoredFile) (op : FileOp) → HasRoomFor (superblock_of s) f op → Lengthens f (file_after f s.clock op)
lengthens s f (Writes at false []) room = omega arith
lengthens s f (Writes at false (b ∷ bytes)) room = omega arith
lengthens s f (Writes at true []) room = all_longer f.content.pending f.content.stable
lengthens s f (Writes at true (b ∷ bytes)) room = all_longer (f.content.pending ++ record { at = at; bytes = b ∷ bytes } ∷ []) f.content.stable
lengthens s f Commits room = all_longer f.content.pending f.content.stable
lengthens s f (Sets changes) room = omega arith
lengthens s f (Restarts pieces) room = absurd room

-- ---- the files together

-- one in another's place
set_rises : (fileid : ℕ) (names : List (List ℕ)) (files : List StoredFile) (index : ℕ) (f g : StoredFile) → slice_get files index ≡ Some f → Lengthens f g
    → bodies_size (files_bodies fileid names (map left files)) ≤ bodies_size (files_bodies fileid names (map left (set files index g)))
set_rises fileid [] files index f g there le = omega arith
set_rises fileid (name ∷ names) [] index f g there le = omega arith
set_rises fileid (name ∷ names) (h ∷ files) zero f g there le =
    let here : Lengthens h g = subst (λ (x : StoredFile). Lengthens x g) (sym (same_Some h f there)) le in
    let rest = files_bodies (fileid + 1) names (map left files) in
    omega (arith, sum_of (file_bodies fileid name (left h)) rest, sum_of (file_bodies fileid name (left g)) rest, file_rises fileid name h g here)
set_rises fileid (name ∷ names) (h ∷ files) (suc index) f g there le =
    let one = file_bodies fileid name (left h) in
    omega (
      arith,
      sum_of one (files_bodies (fileid + 1) names (map left files)),
      sum_of one (files_bodies (fileid + 1) names (map left (set files index g))),
      set_rises (fileid + 1) names files index f g there le,
    )

-- one at the end
push_rises : (fileid : ℕ) (names : List (List ℕ)) (files : List StoredFile) (name : List ℕ) (g : StoredFile)
    → bodies_size (files_bodies fileid names (map left files)) ≤ bodies_size (files_bodies fileid (names ++ name ∷ []) (map left (files ++ g ∷ [])))
push_rises fileid [] files name g = omega arith
push_rises fileid (n ∷ names) [] name g = omega arith
push_rises fileid (n ∷ names) (h ∷ files) name g =
    let one = file_bodies fileid n (left h) in
    omega (
      arith,
      sum_of one (files_bodies (fileid + 1) names (map left files)),
      sum_of one (files_bodies (fileid + 1) (names ++ name ∷ []) (map left (files ++ g ∷ []))),
      push_rises (fileid + 1) names files name g,
    )

-- ---- the server

-- its snapshot is as large as its files are
by_files : (s t : ServerState) → bodies_size (files_bodies 2 s.names (map left s.files)) ≤ bodies_size (files_bodies 2 t.names (map left t.files)) → snapshot_size (durable s) ≤ snapshot_size (durable t)
by_files s t le =
    let old = behind_head s.clock.boot s.root (files_bodies 2 s.names (map left s.files)) in
    let new = behind_head t.clock.boot t.root (files_bodies 2 t.names (map left t.files)) in
    omega (arith, old, new, le)

-- no effect makes it smaller
pub grows : (s : ServerState) (what : Effect) → IsSteady s → CanDo s what → snapshot_size (durable s) ≤ snapshot_size (durable (server_after s what))
grows s NoEffect steady can = omega arith
grows s (NewFile name owner group mode) steady can =
    let next = server_after s (NewFile name owner group mode) in
    by_files s next (push_rises 2 s.names s.files name (new_file owner group mode (next_tick s.clock)))
grows s (OnFile index op) steady can =
    let found = at_index s index can.ready.0 in
    let more = set_rises 2 s.names s.files index found.0 (file_after found.0 s.clock op) found.1 (lengthens s found.0 op (can.ready.1 found.0 found.1)) in
    subst (λ (o : Option StoredFile). snapshot_size (durable s) ≤ snapshot_size (durable (on_file s index op o))) (sym found.1)
    (by_files s (on_file s index op (Some found.0)) more)
