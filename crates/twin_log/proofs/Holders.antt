-- Which of two files has the log.
use Rattle.std.proofs.Common.{◌≡◌, ℕ, eqb, ltb, cond, Option, Some, None, refl, arith}
use Rattle.std.proofs.lemmas.Bool.{cond_both, ltb-true, ltb-false, eqb-false}
use Rattle.twin_log.specs.declared.side.Side.TheVariants.{Disk, Spare}
use Rattle.twin_log.specs.Twins.{LogHolder, Neither, On, Both, log_holder}
use Rattle.twin_log.specs.KeptLogs.{IsGenerationBelow}

pub neither_has : (d s : Option ℕ) → log_holder d s ≡ Neither → (d ≡ None) × (s ≡ None)
neither_has None None e = (refl, refl)
neither_has (Some g) None e = absurd (cc (e))
neither_has None (Some h) e = absurd (cc (e))
neither_has (Some g) (Some h) e =
    cond_both (eqb g h) Both (cond (ltb h g) (On Disk) (On Spare)) (λ (x : LogHolder). x ≡ Neither → (Some g ≡ None) × (Some h ≡ None)) (λ _ bad. absurd (cc (bad)))
    (λ _. cond_both (ltb h g) (On Disk) (On Spare) (λ (x : LogHolder). x ≡ Neither → (Some g ≡ None) × (Some h ≡ None)) (λ _ bad. absurd (cc (bad))) (λ _ bad. absurd (cc (bad)))) e

-- the other one is passed
pub record Passes (own other : Option ℕ) : Type 0 where
  pub generation : ℕ
  pub is : own ≡ Some generation
  pub below : IsGenerationBelow own other

pub disk_has : (d s : Option ℕ) → log_holder d s ≡ On Disk → Passes d s
disk_has None None e = absurd (cc (e))
disk_has (Some g) None e = record { generation = g; is = refl; below = tt }
disk_has None (Some h) e = absurd (cc (e))
disk_has (Some g) (Some h) e =
    cond_both (eqb g h) Both (cond (ltb h g) (On Disk) (On Spare)) (λ (x : LogHolder). x ≡ On Disk → Passes (Some g) (Some h)) (λ _ bad. absurd (cc (bad)))
    (λ _. cond_both (ltb h g) (On Disk) (On Spare) (λ (x : LogHolder). x ≡ On Disk → Passes (Some g) (Some h)) (λ less _. record { generation = g; is = refl; below = ltb-true h g less }) (λ _ bad. absurd (cc (bad)))) e

pub spare_has : (d s : Option ℕ) → log_holder d s ≡ On Spare → Passes s d
spare_has None None e = absurd (cc (e))
spare_has (Some g) None e = absurd (cc (e))
spare_has None (Some h) e = record { generation = h; is = refl; below = tt }
spare_has (Some g) (Some h) e =
    cond_both (eqb g h) Both (cond (ltb h g) (On Disk) (On Spare)) (λ (x : LogHolder). x ≡ On Spare → Passes (Some h) (Some g)) (λ _ bad. absurd (cc (bad)))
    (λ other. cond_both (ltb h g) (On Disk) (On Spare) (λ (x : LogHolder). x ≡ On Spare → Passes (Some h) (Some g)) (λ _ bad. absurd (cc (bad)))
    (λ more _. let le = ltb-false h g more in let ne = eqb-false g h other in record { generation = h; is = refl; below = grind (arith) })) e
