-- What a COMMIT's answer makes of one mirror.
use Rattle.std.proofs.Common.{◌≡◌, ℕ, ◌+◌, ◌<◌, Bool, true, false, List, ◌∷◌, length, drop, get_or, drop-cons, add-one, cond, sym, ap, ◌∙◌, set}
use Rattle.std.specs.List.{filter}
use Rattle.mirror_writer.specs.declared.call.WriteAnswer.{WriteAnswer}
use Rattle.mirror_writer.specs.Writers.{has_verifier, covered_by}

by_test : (b : Bool) (x : WriteAnswer) (rest : List WriteAnswer) (flags new : List Bool) → new ≡ cond b (set flags x.write true) flags → covered_by (cond b (x ∷ rest) rest) flags ≡ covered_by rest new
by_test true x rest flags new is = ap (covered_by rest) (sym is)
by_test false x rest flags new is = ap (covered_by rest) (sym is)

here : {X : Type 0} (xs : List X) (i : ℕ) (d : X) → i < length xs → drop i xs ≡ get_or xs i d ∷ drop (i + 1) xs
here xs i d within = drop-cons xs i d within ∙ ap (λ k. get_or xs i d ∷ drop k xs) (sym (add-one i))

-- the next answer is looked at
pub covers_next : (verifier : ℕ) (answered : List WriteAnswer) (i : ℕ) (d : WriteAnswer) (flags new all : List Bool) → i < length answered
    → new ≡ cond (has_verifier verifier (get_or answered i d)) (set flags (get_or answered i d).write true) flags
    → covered_by (filter (has_verifier verifier) (drop i answered)) flags ≡ all
    → covered_by (filter (has_verifier verifier) (drop (i + 1) answered)) new ≡ all
covers_next verifier answered i d flags new all within is so_far =
    let x : WriteAnswer = get_or answered i d in
    let rest : List WriteAnswer = filter (has_verifier verifier) (drop (i + 1) answered) in
    sym (by_test (has_verifier verifier x) x rest flags new is)
    ∙ ap (λ xs. covered_by (filter (has_verifier verifier) xs) flags) (sym (here answered i d within))
    ∙ so_far
