-- The entries of rows.
use Rattle.std.proofs.Common.{◌≡◌, ℕ, zero, suc, ◌+◌, ◌<◌, ◌≤◌, true, List, [], ◌∷◌, ◌++◌, length, drop, get_or, Option, Some, None, refl, sym, ap, ◌∙◌, arith, append_assoc}
use Rattle.std.specs.Prelude.{slice_get}
use Rattle.std.proofs.lemmas.Bool.{and_parts, leb-true}
use Rattle.std.proofs.lemmas.Option.{same_Some}
use Rattle.cluster_model.specs.declared.ids.FileId.{FileId}
use Rattle.cluster_model.specs.declared.ids.Mirror.{Mirror}
use Rattle.cluster_model.specs.declared.phase.LeftCause.{LeftCause}
use Rattle.cluster_model.specs.declared.entry.Entry.{Entry}
use Rattle.cluster_model.specs.Mirrors.{are_mirrors}
use Rattle.cluster_model.specs.Phases.{left_entries}

-- the first mirror's entry, and those of the others
one_left : (file : FileId) (cause : Option LeftCause) (m : Mirror) (causes : List (Option LeftCause)) (live : List Mirror)
    → left_entries file (cause ∷ []) (m ∷ []) ++ left_entries file causes live ≡ left_entries file (cause ∷ causes) (m ∷ live)
one_left file None m causes live = refl
one_left file (Some cause) m causes live = refl

left_at : (file : FileId) (causes : List (Option LeftCause)) (live : List Mirror) (place : ℕ) (m : Mirror) (d : Option LeftCause) → slice_get live place ≡ Some m → place < length causes
    → left_entries file (get_or causes place d ∷ []) (m ∷ []) ++ left_entries file (drop (suc place) causes) (drop (suc place) live) ≡ left_entries file (drop place causes) (drop place live)
left_at file causes [] place m d there within = absurd cc
left_at file [] (x ∷ live) place m d there within = absurd (omega (arith, within))
left_at file (c ∷ causes) (x ∷ live) zero m d there within = ap (λ (y : Mirror). left_entries file (c ∷ []) (y ∷ []) ++ left_entries file causes live) (sym (same_Some x m there)) ∙ one_left file c x causes live
left_at file (c ∷ causes) (x ∷ live) (suc place) m d there within = left_at file causes live place m d there (omega (arith, within))

pub left_more : (file : FileId) (causes : List (Option LeftCause)) (live : List Mirror) (place : ℕ) (m : Mirror) (d : Option LeftCause) (items new whole : List Entry) → slice_get live place ≡ Some m → place < length causes
    → items ++ left_entries file (drop place causes) (drop place live) ≡ whole
    → new ≡ items ++ left_entries file (get_or causes place d ∷ []) (m ∷ [])
    → new ++ left_entries file (drop (place + 1) causes) (drop (place + 1) live) ≡ whole
left_more file causes live place m d items new whole there within so_far more =
    let next : place + 1 ≡ suc place = omega arith in
    ap (λ k. new ++ left_entries file (drop k causes) (drop k live)) next
    ∙ ap (λ l. l ++ left_entries file (drop (suc place) causes) (drop (suc place) live)) more
    ∙ append_assoc items _ _
    ∙ ap (λ l. items ++ l) (left_at file causes live place m d there within)
    ∙ so_far

-- a file has at most four mirrors
pub few_mirrors : (live : List Mirror) → are_mirrors live ≡ true → length live ≤ 4
few_mirrors live are = leb-true (length live) 4 (and_parts _ _ are).0
