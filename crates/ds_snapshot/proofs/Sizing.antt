-- How many bytes the bodies of a snapshot have.
use Rattle.std.proofs.Common.{◌≡◌, ℕ, zero, suc, ◌+◌, ◌*◌, ◌-◌, ◌^◌, ◌/◌, ◌<◌, ◌≤◌, List, [], ◌∷◌, ◌++◌, length, map, min, Some, None, ap, ◌∙◌, arith}
use Rattle.std.specs.Prelude.{slice_get}
use Rattle.std.proofs.lemmas.List.{length-append, map-append}
use Rattle.ff_xdr.specs.Form.{word, long, padded, pad_len, spelling}
use Rattle.ff_xdr.proofs.Fields.{length-word}
use Rattle.ff_xdr.proofs.CutShort.{length-long}
use Rattle.ff_xdr.proofs.StoppedText.{length-padded}
use Rattle.cluster_model.specs.declared.tick.Tick.{Tick}
use Rattle.cluster_model.specs.declared.tick.Times.{Times}
use Rattle.cluster_model.specs.Content.{Pending}
use Rattle.cluster_model.specs.File.{StoredFile}
use Rattle.cluster_model.specs.Server.{ServerState}
use Rattle.ds_log.specs.Bodies.{Logged, Boots, HoldsBytes, HoldsFile, HoldsRoot, times_form, times_value, tick_form, tick_value}
use Rattle.ds_log.specs.Durable.{durable}
use Rattle.ds_snapshot.specs.Snapshots.{body_text, chunk_size, chunk_at, first_chunks, chunk_count, chunk_bodies, file_bodies}
use Rattle.ds_snapshot.specs.NextBodies.{files_from}
use Rattle.ds_snapshot.specs.Sizes.{bodies_size, snapshot_size, CountsFile}
use Rattle.ds_snapshot.proofs.Chunks.{chunk_length, none_first, one_more, holds}
use Rattle.ds_snapshot.proofs.Left.{left, file_there}

-- ---- one body

tick_size : (t : Tick) → length (spelling tick_form (tick_value t)) ≡ 8
tick_size t = omega (arith, length-append (word t.boot) (word t.count), length-word t.boot, length-word t.count)

times_size : (t : Times) → length (spelling times_form (times_value t)) ≡ 24
times_size t =
    let a = spelling tick_form (tick_value t.atime) in
    let m = spelling tick_form (tick_value t.mtime) in
    let c = spelling tick_form (tick_value t.ctime) in
    omega (arith, length-append a (m ++ c), length-append m c, tick_size t.atime, tick_size t.mtime, tick_size t.ctime)

opaque_size : (bytes : List ℕ) → length (word (length bytes) ++ padded bytes) ≡ 4 + length bytes + pad_len (length bytes)
opaque_size bytes = omega (arith, length-append (word (length bytes)) (padded bytes), length-word (length bytes), length-padded bytes)

pub boot_size : (boot : ℕ) → length (body_text (Boots boot)) ≡ 8
boot_size boot = omega (arith, length-append (word 1) (word boot), length-word 1, length-word boot)

pub root_size : (times : Times) → length (body_text (HoldsRoot times)) ≡ 28
root_size times = omega (arith, length-append (word 7) (spelling times_form (times_value times)), length-word 7, times_size times)

pub file_body_size : (fileid : ℕ) (name : List ℕ) (owner group mode : ℕ) (times : Times) → length (body_text (HoldsFile name fileid owner group mode times)) ≡ 52 + (length name + pad_len (length name))
file_body_size fileid name owner group mode times =
    let t = spelling times_form (times_value times) in
    let n = word (length name) ++ padded name in
    omega (
      arith,
      length-append (word 6) (n ++ (long fileid ++ (word owner ++ (word group ++ (word mode ++ t))))),
      length-word 6,
      length-append n (long fileid ++ (word owner ++ (word group ++ (word mode ++ t)))),
      opaque_size name,
      length-append (long fileid) (word owner ++ (word group ++ (word mode ++ t))),
      length-long fileid,
      length-append (word owner) (word group ++ (word mode ++ t)),
      length-word owner,
      length-append (word group) (word mode ++ t),
      length-word group,
      length-append (word mode) t,
      length-word mode,
      times_size times,
    )

pub chunk_body_size : (fileid : ℕ) (mtime ctime : Tick) (w : Pending) → length (body_text (HoldsBytes fileid mtime ctime (w ∷ []))) ≡ 44 + (length w.bytes + pad_len (length w.bytes))
chunk_body_size fileid mtime ctime w =
    let b = word (length w.bytes) ++ padded w.bytes in
    let all = (long w.at ++ b) ++ [] in
    let m = spelling tick_form (tick_value mtime) in
    let c = spelling tick_form (tick_value ctime) in
    omega (
      arith,
      length-append (word 4) (long fileid ++ (m ++ (c ++ (word 1 ++ all)))),
      length-word 4,
      length-append (long fileid) (m ++ (c ++ (word 1 ++ all))),
      length-long fileid,
      length-append m (c ++ (word 1 ++ all)),
      tick_size mtime,
      length-append c (word 1 ++ all),
      tick_size ctime,
      length-append (word 1) all,
      length-word 1,
      length-append (long w.at ++ b) [],
      length-append (long w.at) b,
      length-long w.at,
      opaque_size w.bytes,
    )

-- ---- bodies together

sizes_append : (xs ys : List Logged) → bodies_size (xs ++ ys) ≡ bodies_size xs + bodies_size ys
sizes_append [] ys = omega arith
sizes_append (x ∷ xs) ys = omega (arith, sizes_append xs ys)

pad_whole : (k : ℕ) → pad_len (k * 4) ≡ 0
unfolding pad_len
pad_whole k = omega arith

pub pad_up : (n : ℕ) → (n + 3) / 4 * 4 ≡ n + pad_len n
unfolding pad_len
pad_up n = omega arith

pad_chunks : (n rest : ℕ) → pad_len (n * chunk_size + rest) ≡ pad_len rest
unfolding pad_len
pad_chunks n rest = omega arith

push_size : (front : List Logged) (fileid : ℕ) (f : StoredFile) (w : Pending) → bodies_size (front ++ holds fileid f w ∷ []) ≡ bodies_size front + (49 + (length w.bytes + pad_len (length w.bytes)))
push_size front fileid f w = omega (arith, sizes_append front (holds fileid f w ∷ []), chunk_body_size fileid f.times.mtime f.times.ctime w)

-- full chunks have no zeros behind them
full_size : (n size : ℕ) → n * chunk_size ≤ size → n * 49 + (min (n * chunk_size) size + pad_len (min (n * chunk_size) size)) ≡ n * 49 + n * chunk_size
full_size n size start =
    let full : min (n * chunk_size) size ≡ n * chunk_size + 0 = omega (arith, start) in
    let none : pad_len (min (n * chunk_size) size) ≡ 0 = ap pad_len full ∙ pad_chunks n 0 ∙ pad_whole 0 in
    omega (arith, full, none)

last_size : (n size last front : ℕ) → n * chunk_size ≤ size → last ≡ min chunk_size (size - n * chunk_size) → front ≡ n * 49 + n * chunk_size
    → front + (49 + (last + pad_len last)) ≡ suc n * 49 + (min (suc n * chunk_size) size + pad_len (min (suc n * chunk_size) size))
last_size n size last front start is before =
    let whole : min (suc n * chunk_size) size ≡ n * chunk_size + last = omega (arith, start, is) in
    let padding : pad_len (min (suc n * chunk_size) size) ≡ pad_len last = ap pad_len whole ∙ pad_chunks n last in
    omega (arith, before, whole, padding)

module _ (fileid : ℕ) (f : StoredFile) where
  first_size : (n : ℕ) → ((k : ℕ) → k < n → k * chunk_size ≤ length f.content.stable)
      → bodies_size (map (holds fileid f) (first_chunks f.content.stable n)) ≡ n * 49 + (min (n * chunk_size) (length f.content.stable) + pad_len (min (n * chunk_size) (length f.content.stable)))
  first_size zero within =
      let none : bodies_size (map (holds fileid f) (first_chunks f.content.stable zero)) ≡ 0 = ap (λ (ws : List Pending). bodies_size (map (holds fileid f) ws)) (none_first f.content.stable) in
      let low : min (zero * chunk_size) (length f.content.stable) ≡ 0 = omega arith in
      let padding : pad_len (min (zero * chunk_size) (length f.content.stable)) ≡ 0 = ap pad_len low ∙ pad_whole 0 in
      omega (arith, none, low, padding)
  first_size (suc n) within =
      let bytes = f.content.stable in
      let size = length bytes in
      let last = chunk_at bytes n in
      let front : List Logged = map (holds fileid f) (first_chunks bytes n) in
      let start : n * chunk_size ≤ size = within n (omega arith) in
      let before : bodies_size front ≡ n * 49 + n * chunk_size = first_size n (λ k less. within k (omega (arith, less))) ∙ full_size n size start in
      ap (λ (ws : List Pending). bodies_size (map (holds fileid f) ws)) (one_more bytes n)
      ∙ ap bodies_size (map-append (holds fileid f) (first_chunks bytes n) (last ∷ []))
      ∙ push_size front fileid f last
      ∙ last_size n size (length last.bytes) (bodies_size front) start (chunk_length bytes n) before

  pub chunks_size : bodies_size (chunk_bodies fileid f) ≡ chunk_count (length f.content.stable) * 49 + (length f.content.stable + pad_len (length f.content.stable))
  chunks_size =
      let size = length f.content.stable in
      let all : min (chunk_count size * chunk_size) size ≡ size = omega arith in
      first_size (chunk_count size) (λ k less. omega (arith, less)) ∙ ap (λ (n : ℕ). chunk_count size * 49 + (n + pad_len n)) all

  pub file_bodies_size : (name : List ℕ) → bodies_size (file_bodies fileid name f) ≡ 57 + (length name + pad_len (length name)) + (chunk_count (length f.content.stable) * 49 + (length f.content.stable + pad_len (length f.content.stable)))
  file_bodies_size name = omega (arith, file_body_size fileid name f.owner f.group f.mode f.times, chunks_size)

-- ---- a server

pub counts_file : (s : ServerState) (index size : ℕ) (name : List ℕ) (f : StoredFile) → Some name ≡ slice_get s.names index → Some f ≡ slice_get s.files index
    → size ≡ bodies_size (file_bodies (index + 2) name (left f)) → CountsFile (durable s) index (Some size)
counts_file s index size name f named there is =
    omega (arith, ap bodies_size (file_there s index name f named there), sizes_append (file_bodies (index + 2) name (left f)) (files_from (durable s) (index + 1)), is)

pub head_size : (s : ServerState) → snapshot_size (durable s) ≡ 46 + bodies_size (files_from (durable s) 0)
head_size s = omega (arith, boot_size s.clock.boot, root_size s.root)

pub total_is : (s : ServerState) (index size : ℕ) → CountsFile (durable s) index None → size ≤ 2 ^ 64 - 1 → min (size + bodies_size (files_from (durable s) index)) (2 ^ 64 - 1) ≡ min (46 + bodies_size (files_from (durable s) 0)) (2 ^ 64 - 1) → size ≡ min (snapshot_size (durable s)) (2 ^ 64 - 1)
total_is s index size none most same =
    let last : bodies_size (files_from (durable s) index) ≡ 0 = ap bodies_size none in
    omega (arith, last, most, same, head_size s)
