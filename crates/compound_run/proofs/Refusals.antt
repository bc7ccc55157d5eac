-- A status other than OK, as the result of an operation that is not carried out, has a spelling.
use Rattle.std.proofs.Common.{◌≡◌, ◌≢◌, ℕ, ◌<◌, ◌^◌, Bool, true, false, ◌||◌, not, cond, eqb, List, [], ◌∷◌, refl, sym, ap, arith}
use Rattle.std.proofs.lemmas.Bool.{cond_both}
use Rattle.std.specs.Prelude.{IsTrue}
use Rattle.std.specs.List.{list_any}
use Rattle.ff_xdr.specs.Form.{Value, Fits}
use Rattle.nfs4_types.specs.declared.status.Stat4.{Stat4}
use Rattle.nfs4_types.specs.declared.status.Stat4.TheVariants as stat
use Rattle.nfs4_types.specs.Status.{refusal4, stat4_number}
use Rattle.nfs4_unserved_ops.specs.Results.{result_numbers, unserved_resop4, unserved_refused}
use Rattle.nfs4_compound.specs.Results.{op_numbers}
use Rattle.nfs4_compound.proofs.Statuses.{stat_fits}

refusal_fits : (s : Stat4) → s ≢ stat.Ok → Fits refusal4 (stat4_number s)
refusal_fits stat.Ok other = absurd (other refl)
refusal_fits _ other = refl

abbrev Spelled : Value unserved_resop4 → Type 0
Spelled v = Fits unserved_resop4 v

or_none : (a b : Bool) → a || b ≡ false → (a ≡ false) × (b ≡ false)
or_none true b h = absurd cc
or_none false b h = (refl, h)

-- the number is none of those that are carried out
abbrev IsFormless : ℕ → Type 0
IsFormless number = list_any (eqb number) op_numbers ≡ false

formless : (number : ℕ) → IsFormless number → eqb number 3 ≡ false → eqb number 21 ≡ false → eqb number 31 ≡ false → eqb number 32 ≡ false → eqb number 34 ≡ false
    → eqb number 45 ≡ false → eqb number 52 ≡ false → eqb number 55 ≡ false → not (list_any (eqb number) result_numbers) ≡ true
formless number none a b c d e f g h =
    let p4 = or_none (eqb number 4) (list_any (eqb number) (5 ∷ 9 ∷ 10 ∷ 15 ∷ 18 ∷ 22 ∷ 24 ∷ 25 ∷ 38 ∷ 41 ∷ 42 ∷ 43 ∷ 44 ∷ 47 ∷ 49 ∷ 50 ∷ 51 ∷ 53 ∷ 57 ∷ 58 ∷ [])) none in
    let p5 = or_none (eqb number 5) (list_any (eqb number) (9 ∷ 10 ∷ 15 ∷ 18 ∷ 22 ∷ 24 ∷ 25 ∷ 38 ∷ 41 ∷ 42 ∷ 43 ∷ 44 ∷ 47 ∷ 49 ∷ 50 ∷ 51 ∷ 53 ∷ 57 ∷ 58 ∷ [])) p4.1 in
    let p9 = or_none (eqb number 9) (list_any (eqb number) (10 ∷ 15 ∷ 18 ∷ 22 ∷ 24 ∷ 25 ∷ 38 ∷ 41 ∷ 42 ∷ 43 ∷ 44 ∷ 47 ∷ 49 ∷ 50 ∷ 51 ∷ 53 ∷ 57 ∷ 58 ∷ [])) p5.1 in
    let p10 = or_none (eqb number 10) (list_any (eqb number) (15 ∷ 18 ∷ 22 ∷ 24 ∷ 25 ∷ 38 ∷ 41 ∷ 42 ∷ 43 ∷ 44 ∷ 47 ∷ 49 ∷ 50 ∷ 51 ∷ 53 ∷ 57 ∷ 58 ∷ [])) p9.1 in
    let p15 = or_none (eqb number 15) (list_any (eqb number) (18 ∷ 22 ∷ 24 ∷ 25 ∷ 38 ∷ 41 ∷ 42 ∷ 43 ∷ 44 ∷ 47 ∷ 49 ∷ 50 ∷ 51 ∷ 53 ∷ 57 ∷ 58 ∷ [])) p10.1 in
    let p18 = or_none (eqb number 18) (list_any (eqb number) (22 ∷ 24 ∷ 25 ∷ 38 ∷ 41 ∷ 42 ∷ 43 ∷ 44 ∷ 47 ∷ 49 ∷ 50 ∷ 51 ∷ 53 ∷ 57 ∷ 58 ∷ [])) p15.1 in
    let p22 = or_none (eqb number 22) (list_any (eqb number) (24 ∷ 25 ∷ 38 ∷ 41 ∷ 42 ∷ 43 ∷ 44 ∷ 47 ∷ 49 ∷ 50 ∷ 51 ∷ 53 ∷ 57 ∷ 58 ∷ [])) p18.1 in
    let p24 = or_none (eqb number 24) (list_any (eqb number) (25 ∷ 38 ∷ 41 ∷ 42 ∷ 43 ∷ 44 ∷ 47 ∷ 49 ∷ 50 ∷ 51 ∷ 53 ∷ 57 ∷ 58 ∷ [])) p22.1 in
    let p25 = or_none (eqb number 25) (list_any (eqb number) (38 ∷ 41 ∷ 42 ∷ 43 ∷ 44 ∷ 47 ∷ 49 ∷ 50 ∷ 51 ∷ 53 ∷ 57 ∷ 58 ∷ [])) p24.1 in
    let p38 = or_none (eqb number 38) (list_any (eqb number) (41 ∷ 42 ∷ 43 ∷ 44 ∷ 47 ∷ 49 ∷ 50 ∷ 51 ∷ 53 ∷ 57 ∷ 58 ∷ [])) p25.1 in
    let p41 = or_none (eqb number 41) (list_any (eqb number) (42 ∷ 43 ∷ 44 ∷ 47 ∷ 49 ∷ 50 ∷ 51 ∷ 53 ∷ 57 ∷ 58 ∷ [])) p38.1 in
    let p42 = or_none (eqb number 42) (list_any (eqb number) (43 ∷ 44 ∷ 47 ∷ 49 ∷ 50 ∷ 51 ∷ 53 ∷ 57 ∷ 58 ∷ [])) p41.1 in
    let p43 = or_none (eqb number 43) (list_any (eqb number) (44 ∷ 47 ∷ 49 ∷ 50 ∷ 51 ∷ 53 ∷ 57 ∷ 58 ∷ [])) p42.1 in
    let p44 = or_none (eqb number 44) (list_any (eqb number) (47 ∷ 49 ∷ 50 ∷ 51 ∷ 53 ∷ 57 ∷ 58 ∷ [])) p43.1 in
    let p47 = or_none (eqb number 47) (list_any (eqb number) (49 ∷ 50 ∷ 51 ∷ 53 ∷ 57 ∷ 58 ∷ [])) p44.1 in
    let p49 = or_none (eqb number 49) (list_any (eqb number) (50 ∷ 51 ∷ 53 ∷ 57 ∷ 58 ∷ [])) p47.1 in
    let p50 = or_none (eqb number 50) (list_any (eqb number) (51 ∷ 53 ∷ 57 ∷ 58 ∷ [])) p49.1 in
    let p51 = or_none (eqb number 51) (list_any (eqb number) (53 ∷ 57 ∷ 58 ∷ [])) p50.1 in
    let p53 = or_none (eqb number 53) (list_any (eqb number) (57 ∷ 58 ∷ [])) p51.1 in
    let p57 = or_none (eqb number 57) (list_any (eqb number) (58 ∷ [])) p53.1 in
    let p58 = or_none (eqb number 58) (list_any (eqb number) ([])) p57.1 in
    rw (p4.0, p5.0, p9.0, p10.0, p15.0, p18.0, p22.0, p24.0, p25.0, p38.0, p41.0, p42.0, p43.0, p44.0, p47.0, p49.0, p50.0, p51.0, p53.0, p57.0, p58.0, a, b, c, d, e, f, g, h) refl

pub unserved_fits : (number : ℕ) (s : Stat4) → number < 2 ^ 32 → s ≢ stat.Ok → IsFormless number → Fits unserved_resop4 (unserved_refused number s)
unserved_fits number s below other none =
    let r = refusal_fits s other in
    cond_both (eqb number 3) _ _ Spelled (λ is. r) (λ a.
    cond_both (eqb number 21) _ _ Spelled (λ is. r) (λ b.
    cond_both (eqb number 31) _ _ Spelled (λ is. r) (λ c.
    cond_both (eqb number 32) _ _ Spelled (λ is. r) (λ d.
    cond_both (eqb number 34) _ _ Spelled (λ is. (stat_fits s, (omega arith, tt))) (λ e.
    cond_both (eqb number 45) _ _ Spelled (λ is. r) (λ f.
    cond_both (eqb number 52) _ _ Spelled (λ is. r) (λ g.
    cond_both (eqb number 55) _ _ Spelled (λ is. r) (λ h. ((below, formless number none a b c d e f g h), r)))))))))
