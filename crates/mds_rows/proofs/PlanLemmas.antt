-- The plan of a copy, one target after the other.
use Rattle.std.proofs.Common.{◌≡◌, ℕ, zero, suc, ◌+◌, ◌-◌, ◌<◌, Bool, true, false, cond, List, [], ◌∷◌, ◌++◌, filter, take, Some, None, refl, sym, ap, ◌∙◌, arith, append_assoc}
use Rattle.std.specs.Prelude.{slice_get, ◌||◌}
use Rattle.std.specs.List.{range_with_len}
use Rattle.std.proofs.lemmas.Bool.{eq-eqb}
use Rattle.std.proofs.lemmas.Option.{same_Some}
use Rattle.cluster_model.specs.declared.ids.Mirror.{Mirror}
use Rattle.cluster_model.specs.Mirrors.{has_server}
use Rattle.copy_rule.specs.declared.copy_target.Target.{Target}
use Rattle.file_rule.specs.MdsFiles.{adding}

-- a live mirror is on the server
or_first : (a b : Bool) → a ≡ true → true ≡ (a || b)
or_first true b h = refl
or_first false b h = absurd cc

or_rest : (a b : Bool) → true ≡ b → true ≡ (a || b)
or_rest true b h = refl
or_rest false b h = h

pub on_server : (live : List Mirror) (place : ℕ) (m : Mirror) (server : ℕ) → slice_get live place ≡ Some m → m.id.server ≡ server → true ≡ has_server live server
on_server [] place m server there on = absurd cc
on_server (x ∷ live) zero m server there on = or_first _ _ (eq-eqb x.id.server server (ap (λ (y : Mirror). y.id.server) (same_Some x m there) ∙ on))
on_server (x ∷ live) (suc place) m server there on = or_rest _ _ (on_server live place m server there on)

-- the servers from the next one on
servers_from : (p : ℕ → Bool) (below servers : ℕ) → below < servers → filter p (range_with_len (below + 1) (servers - below)) ≡ cond (p (below + 1)) ((below + 1) ∷ filter p (range_with_len (below + 1 + 1) (servers - (below + 1)))) (filter p (range_with_len (below + 1 + 1) (servers - (below + 1))))
servers_from p below servers less =
    let count : servers - below ≡ suc (servers - (below + 1)) = omega (arith, less) in
    ap (λ n. filter p (range_with_len (below + 1) n)) count

-- a server with a live mirror is passed
pub passed_more : (p : ℕ → Bool) (name missing below servers : ℕ) (items whole : List Target) → p (below + 1) ≡ false → below < servers
    → items ++ adding name (take missing (filter p (range_with_len (below + 1) (servers - below)))) ≡ whole
    → items ++ adding name (take missing (filter p (range_with_len (below + 1 + 1) (servers - (below + 1))))) ≡ whole
passed_more p name missing below servers items whole fails less so_far =
    let rest : List ℕ = filter p (range_with_len (below + 1 + 1) (servers - (below + 1))) in
    ap (λ l. items ++ adding name (take missing l)) (sym (servers_from p below servers less ∙ ap (λ b. cond b ((below + 1) ∷ rest) rest) fails)) ∙ so_far

-- one without is a target
pub added_more : (p : ℕ → Bool) (name missing size next number below servers : ℕ) (items new whole : List Target) → p (below + 1) ≡ true → below < servers → size < missing → next ≡ size + 1 → number ≡ name + size
    → items ++ adding (name + size) (take (missing - size) (filter p (range_with_len (below + 1) (servers - below)))) ≡ whole
    → new ≡ items ++ record { server = below + 1; name = number; replaced = None } ∷ []
    → new ++ adding (name + next) (take (missing - next) (filter p (range_with_len (below + 1 + 1) (servers - (below + 1))))) ≡ whole
added_more p name missing size next number below servers items new whole passes less room one named so_far more =
    let rest : List ℕ = filter p (range_with_len (below + 1 + 1) (servers - (below + 1))) in
    let target : ℕ → Target = λ k. record { server = below + 1; name = k; replaced = None } in
    let name_next : name + next ≡ name + size + 1 = omega (arith, one) in
    let left : missing - size ≡ suc (missing - next) = omega (arith, one, room) in
    ap (λ k. new ++ adding k (take (missing - next) rest)) name_next
    ∙ ap (λ l. l ++ adding (name + size + 1) (take (missing - next) rest)) more
    ∙ append_assoc items _ _
    ∙ ap (λ k. items ++ target k ∷ adding (name + size + 1) (take (missing - next) rest)) named
    ∙ ap (λ n. items ++ adding (name + size) (take n ((below + 1) ∷ rest))) (sym left)
    ∙ ap (λ l. items ++ adding (name + size) (take (missing - size) l)) (sym (servers_from p below servers less ∙ ap (λ b. cond b ((below + 1) ∷ rest) rest) passes))
    ∙ so_far
