-- A bound session stands last.
use Rattle.std.proofs.Common.{◌≡◌, ℕ, suc, ◌<◌, List, [], ◌∷◌, ◌++◌, length, take, drop, get_or, set, Some, sym, ap, ◌∙◌, arith}
use Rattle.std.specs.Prelude.{◌-◌, remove}
use Rattle.std.specs.List.{find, position}
use borrow.Rule.Slice.PartMut.{put_mid, mid_of}
use Rattle.std.proofs.lemmas.Slice.{put_mid-rotated}
use Rattle.std.proofs.lemmas.List.{length-set, take-set, drop-set-lt, get_or-set_same}
use Rattle.cluster_model.specs.declared.ids.NodeId.{NodeId}
use Rattle.nfs4_session.specs.Clients.{SessionState, has_number, remove_first}
use Rattle.nfs4_session.specs.Bindings.{bound_to, bound_last}
use Rattle.nfs4_session.proofs.FirstLemmas.{FoundAt, found, first_is}

-- what is taken out is not read before
removed_set : {X : Type 0} (xs : List X) (i : ℕ) (y : X) → remove (set xs i y) i ≡ remove xs i
removed_set xs i y = ap (λ front. front ++ drop (suc i) (set xs i y)) (take-set xs i y) ∙ ap (λ back. take i xs ++ back) (drop-set-lt (suc i) xs i y (omega arith))

pub bound_there : (number : ℕ) (node : NodeId) (xs : List SessionState) (place : ℕ) (x new : SessionState) (ys : List SessionState)
    → position (has_number number) xs ≡ Some place → x ≡ get_or xs place x → new ≡ bound_to node (get_or xs place x)
    → ys ≡ drop 1 (mid_of place (length (set xs place new) - place) (set xs place new)) ++ take 1 (mid_of place (length (set xs place new) - place) (set xs place new))
    → put_mid place (length (set xs place new) - place) (set xs place new) ys ≡ bound_last number node xs (find (has_number number) xs)
bound_there number node xs place x new ys is read does turned =
    let there : FoundAt (has_number number) xs place = found (has_number number) xs place is in
    let size : length (set xs place new) ≡ length xs = length-set xs place new in
    let within : place < length xs = there.within in
    let same : new ≡ bound_to node there.item = does ∙ ap (bound_to node) (first_is (has_number number) xs place x there read) in
    put_mid-rotated place (length (set xs place new) - place) (set xs place new) ys new (omega (arith, within, size)) (omega (arith, within, size)) turned
    ∙ ap (λ front. front ++ get_or (set xs place new) place new ∷ []) (removed_set xs place new ∙ sym there.removes)
    ∙ ap (λ last. remove_first (has_number number) xs ++ last ∷ []) (get_or-set_same xs place new new within ∙ same)
    ∙ sym (ap (bound_last number node xs) there.finds)
