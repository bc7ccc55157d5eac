-- Bodies as bytes, behind the bytes that stand before them.
use Rattle.std.proofs.Common.{◌≡◌, ℕ, zero, suc, ◌+◌, ◌*◌, ◌-◌, ◌^◌, ◌<◌, ◌≤◌, List, [], ◌∷◌, ◌++◌, length, drop, replicate, min, Some, sym, ap, ◌∙◌, arith}
use Rattle.std.specs.Prelude.{slice_get, nat_lt, nat_le, is_none, ◌&&◌}
use Rattle.std.proofs.lemmas.Bool.{and_parts, leb-true}
use Rattle.std.proofs.lemmas.List.{length-append}
use Rattle.std.proofs.lemmas.Option.{same_Some}
use Rattle.ff_xdr.specs.Form.{Fits, pad_len}
use Rattle.cluster_model.specs.declared.tick.Times.{Times}
use Rattle.cluster_model.specs.Content.{Pending}
use Rattle.cluster_model.specs.Server.{ServerState, max_file, index_of}
use Rattle.ds_log.specs.Bodies.{Logged, Boots, HoldsBytes, HoldsFile, HoldsRoot, body_form, body_value, body_in}
use Rattle.ds_log.specs.Steady.{IsSteady, AreGoodNames}
use Rattle.ds_log.proofs.Reread.{body_again}
use Rattle.ds_changes.specs.Logging.{AreFewRanges, TimesFit}
use Rattle.ds_changes.proofs.BodySizes.{bytes_fit, bytes_short}
use Rattle.ds_snapshot.specs.Snapshots.{body_text, chunk_size, chunk_at, chunk_count}
use Rattle.ds_snapshot.proofs.Chunks.{chunk_length}
use Rattle.ds_snapshot.proofs.Sizing.{boot_size, root_size, file_body_size}

-- ---- a body behind five bytes

pub framed_text : (body : Logged) (out new gated : List ℕ) → out ≡ replicate 5 0 → new ≡ out ++ body_text body → gated ≡ drop 5 new → gated ≡ body_text body
framed_text body out new gated front text is = is ∙ ap (drop 5) (text ∙ ap (λ (o : List ℕ). o ++ body_text body) front)

pub framed_body : (body : Logged) (out new gated : List ℕ) → Fits body_form (body_value body) → out ≡ replicate 5 0 → new ≡ out ++ body_text body → gated ≡ drop 5 new → body_in gated ≡ Some body
framed_body body out new gated fits front text is = ap body_in (framed_text body out new gated front text is) ∙ body_again body fits

pub framed_short : (body : Logged) (out new : List ℕ) → length (body_text body) < 2 ^ 32 → length out ≡ 5 → new ≡ out ++ body_text body → length new < 2 ^ 32 + 5
framed_short body out new short front text =
    let all : length new ≡ length (out ++ body_text body) = ap length text in
    omega (arith, all, length-append out (body_text body), front, short)

-- ---- how long they are

pad_few : (n : ℕ) → pad_len n ≤ 3
unfolding pad_len
pad_few n = omega arith

pub boot_short : (boot : ℕ) → length (body_text (Boots boot)) < 2 ^ 32
boot_short boot = omega (arith, boot_size boot)

pub root_short : (times : Times) → length (body_text (HoldsRoot times)) < 2 ^ 32
root_short times = omega (arith, root_size times)

pub file_short : (fileid : ℕ) (name : List ℕ) (owner group mode : ℕ) (times : Times) → length name ≤ 255 → length (body_text (HoldsFile name fileid owner group mode times)) < 2 ^ 32
file_short fileid name owner group mode times short = omega (arith, file_body_size fileid name owner group mode times, pad_few (length name), short)

-- ---- a chunk

few_range : (w : Pending) → 0 < length w.bytes → w.at + length w.bytes ≤ max_file → AreFewRanges (w ∷ [])
few_range w some ends = record { each = (record { some = some; ends = ends }, tt); few = omega (arith, ends) }

chunk_some : (size k count : ℕ) → count ≡ min chunk_size (size - k * chunk_size) → k < chunk_count size → 0 < count
chunk_some size k count is less = omega (arith, is, less)

chunk_ends : (size k count : ℕ) → count ≡ min chunk_size (size - k * chunk_size) → k < chunk_count size → size ≤ max_file → k * chunk_size + count ≤ max_file
chunk_ends size k count is less most = omega (arith, is, less, most)

pub chunk_few : (bytes : List ℕ) (k : ℕ) → k < chunk_count (length bytes) → length bytes ≤ max_file → AreFewRanges (chunk_at bytes k ∷ [])
chunk_few bytes k less size =
    few_range (chunk_at bytes k) (chunk_some (length bytes) k (length (chunk_at bytes k).bytes) (chunk_length bytes k) less) (chunk_ends (length bytes) k (length (chunk_at bytes k).bytes) (chunk_length bytes k) less size)

module _ (fileid : ℕ) (times : Times) (w : Pending) (few : AreFewRanges (w ∷ [])) where
  pub range_fits : fileid < 2 ^ 64 → TimesFit times → Fits body_form (body_value (HoldsBytes fileid times.mtime times.ctime (w ∷ [])))
  range_fits id fit = bytes_fit fileid times.mtime times.ctime (w ∷ []) few id fit.0 fit.1

  pub range_short : length (body_text (HoldsBytes fileid times.mtime times.ctime (w ∷ []))) < 2 ^ 32
  range_short = bytes_short fileid times.mtime times.ctime (w ∷ []) few

-- ---- names of a steady server

names_short : (front names : List (List ℕ)) (index : ℕ) (name : List ℕ) → AreGoodNames front names → slice_get names index ≡ Some name → length name ≤ 255
names_short front [] index name good there = absurd (cc (there))
names_short front (first ∷ names) zero name good there =
    let parts = and_parts (nat_lt 0 (length first) && nat_le (length first) 255) (is_none (index_of front first)) good.0 in
    let short = and_parts (nat_lt 0 (length first)) (nat_le (length first) 255) parts.0 in
    let same : first ≡ name = same_Some first name there in
    omega (arith, leb-true (length first) 255 short.1, ap length same)
names_short front (first ∷ names) (suc index) name good there = names_short (front ++ first ∷ []) names index name good.1 there

pub name_short : (s : ServerState) (index : ℕ) (name : List ℕ) → IsSteady s → Some name ≡ slice_get s.names index → length name ≤ 255
name_short s index name k there = names_short [] s.names index name k.names (sym there)
