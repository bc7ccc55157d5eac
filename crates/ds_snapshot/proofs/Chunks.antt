-- Bytes as chunks.
use Rattle.std.proofs.Common.{◌≡◌, ℕ, zero, suc, ◌+◌, ◌*◌, ◌-◌, ◌<◌, ◌≤◌, List, [], ◌∷◌, ◌++◌, length, take, drop, min, Some, refl, sym, ap, subst, ◌∙◌, ◌⊎◌, arith, inl, inr}
use Rattle.std.specs.Prelude.{slice_get, option_map}
use Rattle.std.proofs.lemmas.Bool.{cases_lt}
use Rattle.std.proofs.lemmas.List.{append-nil, length_push, length-map, length-take, length-take-le, length-drop, take_all, drop_more, drop_all}
use Rattle.std.proofs.lemmas.Option.{slice_get-map, slice_get_within, get_or_from_slice_get}
use Rattle.std.proofs.Math.Seq.{take-add}
use Rattle.cluster_model.specs.Content.{Pending, overlay}
use Rattle.cluster_model.specs.File.{StoredFile}
use Rattle.cluster_model.proofs.Elements.{slice_get-push}
use Rattle.ds_log.specs.Bodies.{Logged, HoldsBytes}
use Rattle.ds_snapshot.specs.Snapshots.{chunk_size, chunk_at, first_chunks, chunk_count, chunks_of, chunk_bodies}

-- ---- bytes put at the end

pub overlay_end : (old new : List ℕ) → overlay old (length old) new ≡ old ++ new
overlay_end old [] = sym (append-nil old)
overlay_end old (b ∷ new) =
    let none : length old - length old ≡ 0 = omega arith in
    let past : drop (length old + length (b ∷ new)) old ≡ [] = drop_all (length old + length (b ∷ new)) old (omega arith) in
    rw (take_all (length old) old (omega arith), none, past) (append-nil (old ++ [] ++ b ∷ new) ∙ ap (λ (xs : List ℕ). xs ++ b ∷ new) (append-nil old))

pub joined_at : (bytes : List ℕ) (m c : ℕ) → m ≤ length bytes → overlay (take m bytes) m (take c (drop m bytes)) ≡ take (m + c) bytes
joined_at bytes m c le =
    subst (λ (k : ℕ). overlay (take m bytes) k (take c (drop m bytes)) ≡ take m bytes ++ take c (drop m bytes)) (length-take-le m bytes le) (overlay_end (take m bytes) (take c (drop m bytes)))
    ∙ sym (take-add m c bytes)

pub cut_length : (bytes : List ℕ) (m c : ℕ) → length (take c (drop m bytes)) ≡ min c (length bytes - m)
cut_length bytes m c = length-take c (drop m bytes) ∙ ap (min c) (length-drop m bytes)

pub chunk_length : (bytes : List ℕ) (k : ℕ) → length (chunk_at bytes k).bytes ≡ min chunk_size (length bytes - k * chunk_size)
chunk_length bytes k = cut_length bytes (k * chunk_size) chunk_size

-- ---- the element at a place

pub at_seam : {X : Type 0} (xs : List X) (y : X) (ys : List X) → slice_get (xs ++ y ∷ ys) (length xs) ≡ Some y
at_seam [] y ys = refl
at_seam (x ∷ xs) y ys = at_seam xs y ys

pub drop_at_place : {X : Type 0} (xs : List X) (i : ℕ) (x : X) → slice_get xs i ≡ Some x → drop i xs ≡ x ∷ drop (i + 1) xs
drop_at_place xs i x e = drop_more xs i x (slice_get_within xs i x e) ∙ ap (λ y. y ∷ drop (i + 1) xs) (get_or_from_slice_get xs i x x e)

-- ---- the first chunks

pub none_first : (bytes : List ℕ) → first_chunks bytes zero ≡ []
unfolding first_chunks
none_first bytes = refl

pub one_more : (bytes : List ℕ) (n : ℕ) → first_chunks bytes (suc n) ≡ first_chunks bytes n ++ chunk_at bytes n ∷ []
unfolding first_chunks
one_more bytes n = refl

pub chunks_length : (bytes : List ℕ) (n : ℕ) → length (first_chunks bytes n) ≡ n
chunks_length bytes zero = ap length (none_first bytes)
chunks_length bytes (suc n) =
    let all : length (first_chunks bytes (suc n)) ≡ length (first_chunks bytes n ++ chunk_at bytes n ∷ []) = ap length (one_more bytes n) in
    omega (arith, all, length_push (first_chunks bytes n) (chunk_at bytes n), chunks_length bytes n)

pub chunk_there : (bytes : List ℕ) (n k : ℕ) → k < n → slice_get (first_chunks bytes n) k ≡ Some (chunk_at bytes k)
chunk_there bytes zero k less = absurd (omega (arith, less))
chunk_there bytes (suc n) k less = ap (λ (ws : List Pending). slice_get ws k) (one_more bytes n) ∙ by_place (chunk_there bytes n k) (cases_lt k n)
  where
    by_place : (k < n → slice_get (first_chunks bytes n) k ≡ Some (chunk_at bytes k)) → (k < n) ⊎ (n ≤ k) → slice_get (first_chunks bytes n ++ chunk_at bytes n ∷ []) k ≡ Some (chunk_at bytes k)
    by_place earlier (inl before) = slice_get-push (first_chunks bytes n) k (chunk_at bytes k) (chunk_at bytes n) (earlier before)
    by_place earlier (inr here) =
        let same : n ≡ k = omega (arith, here, less) in
        let place : length (first_chunks bytes n) ≡ k = chunks_length bytes n ∙ same in
        ap (slice_get (first_chunks bytes n ++ chunk_at bytes n ∷ [])) (sym place) ∙ at_seam (first_chunks bytes n) (chunk_at bytes n) [] ∙ ap (λ (i : ℕ). Some (chunk_at bytes i)) same

-- ---- the bodies of a file's bytes

module _ (fileid : ℕ) (f : StoredFile) where
  abbrev pub holds : Pending → Logged
  holds w = HoldsBytes fileid f.times.mtime f.times.ctime (w ∷ [])

  pub chunk_next : (k : ℕ) → k < chunk_count (length f.content.stable) → drop k (chunk_bodies fileid f) ≡ holds (chunk_at f.content.stable k) ∷ drop (k + 1) (chunk_bodies fileid f)
  chunk_next k less =
      let there = chunk_there f.content.stable (chunk_count (length f.content.stable)) k less in
      drop_at_place (chunk_bodies fileid f) k (holds (chunk_at f.content.stable k)) (slice_get-map holds (chunks_of f.content.stable) k ∙ ap (option_map holds) there)

  pub chunks_done : (k : ℕ) → chunk_count (length f.content.stable) ≤ k → drop k (chunk_bodies fileid f) ≡ []
  chunks_done k le = drop_all k (chunk_bodies fileid f) (omega (arith, le, length-map (chunks_of f.content.stable) holds, chunks_length f.content.stable (chunk_count (length f.content.stable))))
