-- The numbers in names.
use Rattle.std.proofs.Common.{◌≡◌, ℕ, ◌<◌}
use Rattle.std.specs.Prelude.{decimal}
use Rattle.std.proofs.lemmas.Fmt.{decimal_injective}
use Rattle.cluster_model.specs.DsCalls.{mirror_name}

pub name_is : (a b : ℕ) → a < 18446744073709551616 → b < 18446744073709551616 → mirror_name a ≡ mirror_name b → a ≡ b
name_is a b ha hb e = let digits : decimal a ≡ decimal b = cc in decimal_injective a b ha hb digits
