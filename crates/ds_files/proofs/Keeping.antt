-- What a restart keeps of the files.
use Rattle.std.proofs.Common.{◌≡◌, ◌≢◌, ℕ, zero, suc, ◌+◌, ◌<◌, ◌≤◌, Bool, true, false, eqb, cond, List, [], ◌∷◌, ◌++◌, length, take, drop, replicate, set, Option, Some, None, refl, sym, ap, ◌∙◌, arith, inl, inr}
use Rattle.std.specs.Prelude.{slice_get, filter}
use Rattle.std.specs.List.{flat_map}
use Rattle.std.proofs.lemmas.Bool.{cases_eq, eq-eqb, ne_eqb, cond-true, cond-false}
use Rattle.std.proofs.lemmas.List.{append-nil, append_assoc, length-set, length-append, length-replicate}
use Rattle.std.proofs.Math.Seq.{take-length}
use Rattle.std.proofs.lemmas.Option.{same_Some, slice_get_within, slice_get_past}
use Rattle.cluster_model.specs.declared.piece.Piece.{Piece}
use Rattle.cluster_model.specs.Content.{Content, Pending, overlay, overlay_all, piece_of, kept_of, survived, pieces_of}
use Rattle.cluster_model.specs.File.{StoredFile}
use Rattle.data_file.specs.Kept.{IsKeptOf, crashed}
use Rattle.ds_files.specs.Kept.{disk_of, AreBounded, AreKept, KeepsPiece, IsOf, all_crashed}
use Rattle.cluster_model.proofs.Elements.{slice_get-set_other}
use Rattle.cluster_model.proofs.Elements.{slice_get-set_same}

-- ---- nothing is kept yet

is_none : (n i : ℕ) (k : Option Content) → slice_get (replicate {A = Option Content} n None) i ≡ Some k → k ≡ None
is_none zero i k e = absurd (cc)
is_none (suc n) zero k e = sym (same_Some None k e)
is_none (suc n) (suc i) k e = is_none n i k e

pub none_bounded : (files : List StoredFile) (kept : List (Option Content)) → kept ≡ replicate {A = Option Content} (length files) None → AreBounded files kept
none_bounded files kept is = record {
  size = ap length is ∙ length-replicate (length files) None;
  each = λ i f k there found. rw (is_none (length files) i k (sym (ap (λ (ks : List (Option Content)). slice_get ks i) is) ∙ found)) tt;
}

pub none_kept : (files : List StoredFile) (kept : List (Option Content)) → kept ≡ replicate {A = Option Content} (length files) None → AreKept files [] kept
none_kept files kept is i f k there found = rw (is_none (length files) i k (sym (ap (λ (ks : List (Option Content)). slice_get ks i) is) ∙ found)) refl

-- ---- one piece more

filter_push : {X : Type 0} (p : X → Bool) (xs : List X) (y : X) → filter p (xs ++ y ∷ []) ≡ filter p xs ++ cond (p y) (y ∷ []) []
filter_push p [] y = refl
filter_push {X = X} p (x ∷ xs) y = by_case (p x) (filter p (xs ++ y ∷ [])) (filter p xs) (cond (p y) (y ∷ []) []) (filter_push p xs y)
  where
    by_case : (b : Bool) (all front : List X) (last : List X) → all ≡ front ++ last → cond b (x ∷ all) all ≡ cond b (x ∷ front) front ++ last
    by_case true all front last e = ap (λ ys. x ∷ ys) e
    by_case false all front last e = e

pieces_other : (fileid : ℕ) (pieces : List Piece) (p : Piece) → p.fileid ≢ fileid → pieces_of fileid (pieces ++ p ∷ []) ≡ pieces_of fileid pieces
pieces_other fileid pieces p other =
    filter_push (λ q. eqb q.fileid fileid) pieces p
    ∙ ap (λ ps. pieces_of fileid pieces ++ ps) (cond-false (eqb p.fileid fileid) (p ∷ []) [] (ne_eqb p.fileid fileid other))
    ∙ append-nil (pieces_of fileid pieces)

pieces_same : (fileid : ℕ) (pieces : List Piece) (p : Piece) → p.fileid ≡ fileid → pieces_of fileid (pieces ++ p ∷ []) ≡ pieces_of fileid pieces ++ p ∷ []
pieces_same fileid pieces p same =
    filter_push (λ q. eqb q.fileid fileid) pieces p
    ∙ ap (λ ps. pieces_of fileid pieces ++ ps) (cond-true (eqb p.fileid fileid) (p ∷ []) [] (eq-eqb p.fileid fileid same))

flat_map_push : {X Y : Type 0} (f : X → List Y) (xs : List X) (x : X) → flat_map f (xs ++ x ∷ []) ≡ flat_map f xs ++ f x
flat_map_push f [] x = append-nil (f x)
flat_map_push f (y ∷ xs) x = ap (λ ys. f y ++ ys) (flat_map_push f xs x) ∙ sym (append_assoc (f y) (flat_map f xs) (f x))

overlay_all_append : (s : List ℕ) (a b : List Pending) → overlay_all s (a ++ b) ≡ overlay_all (overlay_all s a) b
overlay_all_append s [] b = refl
overlay_all_append s (w ∷ a) b = overlay_all_append (overlay s w.at w.bytes) a b

-- what the stable bytes are once one piece more has reached them
survived_push : (f : StoredFile) (pieces : List Piece) (p : Piece) → (survived f.content (pieces ++ p ∷ [])).stable ≡ overlay_all (survived f.content pieces).stable (piece_of p (slice_get f.content.pending p.index))
survived_push f pieces p =
    ap (overlay_all f.content.stable) (flat_map_push (λ q. piece_of q (slice_get f.content.pending q.index)) pieces p)
    ∙ overlay_all_append f.content.stable (kept_of f.content.pending pieces) (piece_of p (slice_get f.content.pending p.index))

-- the piece is of no file
pub keeps_none : (files : List StoredFile) (p : Piece) (kept : List (Option Content)) → AreBounded files kept → IsOf files p None → KeepsPiece files p kept kept
keeps_none files p kept bounded of = record {
  bounded = bounded;
  kept = λ pieces all i f k there found. all i f k there found ∙ ap (λ ps. (survived f.content ps).stable) (sym (pieces_other (i + 2) pieces p (of i (slice_get_within files i f there))));
}

-- it is of a file
module _ (files : List StoredFile) (p : Piece) (old new : List (Option Content)) (j : ℕ) (g : StoredFile) (before after : Option Content) (bounded : AreBounded files old)
    (of : p.fileid ≡ j + 2) (file : slice_get files j ≡ Some g) (was : slice_get old j ≡ Some before) (size : length new ≡ length old) (here : slice_get new j ≡ Some after) (others : (i : ℕ) → i ≢ j → slice_get new i ≡ slice_get old i)
    (bytes : disk_of g after ≡ overlay_all (disk_of g before) (piece_of p (slice_get g.content.pending p.index))) (of_it : IsKeptOf g after) where
  bounded_at : (i : ℕ) (f : StoredFile) (k : Option Content) → slice_get files i ≡ Some f → slice_get new i ≡ Some k → IsKeptOf f k
  bounded_at i f k there found =
      elim (cases_eq i j) [
        | inl same ↦
            let f_is : g ≡ f = same_Some g f (sym file ∙ sym (ap (slice_get files) same) ∙ there) in
            let k_is : after ≡ k = same_Some after k (sym here ∙ sym (ap (slice_get new) same) ∙ found) in
            rw (← f_is, ← k_is) of_it
        | inr other ↦ bounded.each i f k there (sym (others i other) ∙ found)
      ]

  kept_at : (pieces : List Piece) → AreKept files pieces old → (i : ℕ) (f : StoredFile) (k : Option Content) → slice_get files i ≡ Some f → slice_get new i ≡ Some k → disk_of f k ≡ (survived f.content (pieces_of (i + 2) (pieces ++ p ∷ []))).stable
  kept_at pieces all i f k there found =
      elim (cases_eq i j) [
        | inl same ↦
            let f_is : g ≡ f = same_Some g f (sym file ∙ sym (ap (slice_get files) same) ∙ there) in
            let k_is : after ≡ k = same_Some after k (sym here ∙ sym (ap (slice_get new) same) ∙ found) in
            let fileid : p.fileid ≡ i + 2 = of ∙ sym (ap (λ n. n + 2) same) in
            let old_disk : disk_of g before ≡ (survived g.content (pieces_of (j + 2) pieces)).stable = all j g before file was in
            let result : disk_of g after ≡ (survived g.content (pieces_of (j + 2) pieces ++ p ∷ [])).stable = bytes ∙ ap (λ s. overlay_all s (piece_of p (slice_get g.content.pending p.index))) old_disk ∙ sym (survived_push g (pieces_of (j + 2) pieces) p) in
            let whole : disk_of g after ≡ (survived g.content (pieces_of (j + 2) (pieces ++ p ∷ []))).stable = result ∙ ap (λ ps. (survived g.content ps).stable) (sym (pieces_same (j + 2) pieces p of)) in
            let at_i : disk_of g after ≡ (survived g.content (pieces_of (i + 2) (pieces ++ p ∷ []))).stable = whole ∙ ap (λ n. (survived g.content (pieces_of (n + 2) (pieces ++ p ∷ []))).stable) (sym same) in
            rw (← f_is, ← k_is) at_i
        | inr other ↦
            let fileid : p.fileid ≢ i + 2 = λ e. other (omega (arith, e, of)) in
            all i f k there (sym (others i other) ∙ found) ∙ ap (λ ps. (survived f.content ps).stable) (sym (pieces_other (i + 2) pieces p fileid))
      ]

  pub keeps_one : KeepsPiece files p old new
  keeps_one = record { bounded = record { size = size ∙ bounded.size; each = bounded_at }; kept = kept_at }

-- ---- all files, from the last to the first

-- the last are done, and the first are as they were
pub record IsHalfDone (old : List StoredFile) (all : List (Option Content)) (files : List StoredFile) (kept : List (Option Content)) : Type 0 where
  pub size : length files ≡ length old
  pub within : length kept ≤ length old
  pub left : kept ≡ take (length kept) all
  pub first : (i : ℕ) → i < length kept → slice_get files i ≡ slice_get old i
  pub last : (i : ℕ) → length kept ≤ i → slice_get files i ≡ slice_get (all_crashed old all) i

pub length-all_crashed : (files : List StoredFile) (kept : List (Option Content)) → length kept ≡ length files → length (all_crashed files kept) ≡ length files
length-all_crashed [] [] e = refl
length-all_crashed [] (k ∷ kept) e = absurd (omega arith)
length-all_crashed (f ∷ files) [] e = absurd (omega arith)
length-all_crashed (f ∷ files) (k ∷ kept) e = ap suc (length-all_crashed files kept (omega arith))

pub crashed_at : (files : List StoredFile) (kept : List (Option Content)) (i : ℕ) (f : StoredFile) (k : Option Content) → slice_get files i ≡ Some f → slice_get kept i ≡ Some k → slice_get (all_crashed files kept) i ≡ Some (crashed f (disk_of f k))
crashed_at [] kept i f k there found = absurd (cc)
crashed_at (g ∷ files) [] i f k there found = absurd (cc)
crashed_at (g ∷ files) (h ∷ kept) zero f k there found = rw (same_Some g f there, same_Some h k found) refl
crashed_at (g ∷ files) (h ∷ kept) (suc i) f k there found = crashed_at files kept i f k there found

same_elements : {X : Type 0} (xs ys : List X) → ((i : ℕ) → slice_get xs i ≡ slice_get ys i) → xs ≡ ys
same_elements [] [] h = refl
same_elements [] (y ∷ ys) h = let first : None ≡ Some y = h 0 in absurd (cc)
same_elements (x ∷ xs) [] h = let first : Some x ≡ None = h 0 in absurd (cc)
same_elements (x ∷ xs) (y ∷ ys) h = rw (same_Some x y (h 0), same_elements xs ys (λ i. h (suc i))) refl

-- the last of a front of a list, and what stands before it
front_of : {X : Type 0} (all rest : List X) (k : X) → rest ++ k ∷ [] ≡ take (suc (length rest)) all → (rest ≡ take (length rest) all) × (slice_get all (length rest) ≡ Some k)
front_of [] [] k e = absurd (cc)
front_of [] (r ∷ rest) k e = absurd (cc)
front_of (a ∷ all) [] k e = (refl, ap (λ (x : List _). slice_get x 0) (sym e))
front_of (a ∷ all) (r ∷ rest) k e =
    let tail = front_of all rest k (ap (drop 1) e) in
    let head : Some r ≡ Some a = ap (λ (x : List _). slice_get x 0) e in
    (rw (same_Some r a head, ← tail.0) refl, tail.1)

-- before the first
pub begins : (files : List StoredFile) (kept : List (Option Content)) → length kept ≡ length files → IsHalfDone files kept files kept
begins files kept e = record {
  size = refl;
  within = omega (arith, e);
  left = sym (take-length kept);
  first = λ i h. refl;
  last = λ i h. slice_get_past files i (omega (arith, h, e)) ∙ sym (slice_get_past (all_crashed files kept) i (omega (arith, h, e, length-all_crashed files kept e)));
}

-- once all are done
pub ends : (old : List StoredFile) (all : List (Option Content)) (files : List StoredFile) (kept : List (Option Content)) → length kept ≡ 0 → IsHalfDone old all files kept → files ≡ all_crashed old all
ends old all files kept e h = same_elements files (all_crashed old all) (λ i. h.last i (omega (arith, e)))

-- one file more
pub one_more : (old : List StoredFile) (all : List (Option Content)) (files : List StoredFile) (kept rest : List (Option Content)) (f : StoredFile) (k : Option Content) → IsHalfDone old all files kept → kept ≡ rest ++ k ∷ []
    → slice_get files (length rest) ≡ Some f → IsHalfDone old all (set files (length rest) (crashed f (disk_of f k))) rest
one_more old all files kept rest f k h is there =
    let n = length rest in
    let long : length kept ≡ suc n = ap length is ∙ length-append rest (k ∷ []) ∙ omega arith in
    let front = front_of all rest k (sym is ∙ h.left ∙ ap (λ m. take m all) long) in
    let was : slice_get old n ≡ Some f = sym (h.first n (omega (arith, long))) ∙ there in
    let within = h.within in
    let done : StoredFile = crashed f (disk_of f k) in
    record {
      size = length-set files n done ∙ h.size;
      within = omega (arith, long, within);
      left = front.0;
      first = λ i lt. slice_get-set_other files n i done (λ e. absurd (omega (arith, e, lt))) ∙ h.first i (omega (arith, long, lt));
      last = λ i le. elim (cases_eq i n) [
        | inl same ↦ ap (slice_get (set files n done)) same ∙ slice_get-set_same files n f done there ∙ sym (crashed_at old all n f k was front.1) ∙ sym (ap (slice_get (all_crashed old all)) same)
        | inr other ↦ slice_get-set_other files n i done other ∙ h.last i (omega (arith, long, le, other))
      ];
    }

-- what was kept for a file that is not yet done is of it
pub bounded_next : (old : List StoredFile) (all : List (Option Content)) (files : List StoredFile) (kept rest : List (Option Content)) (f : StoredFile) (k : Option Content) → IsHalfDone old all files kept → kept ≡ rest ++ k ∷ [] → AreBounded old all
    → slice_get files (length rest) ≡ Some f → IsKeptOf f k
bounded_next old all files kept rest f k h is bounded there =
    let n = length rest in
    let long : length kept ≡ suc n = ap length is ∙ length-append rest (k ∷ []) ∙ omega arith in
    let front = front_of all rest k (sym is ∙ h.left ∙ ap (λ m. take m all) long) in
    bounded.each n f k (sym (h.first n (omega (arith, long))) ∙ there) front.1
