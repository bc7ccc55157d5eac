use Rattle.std.proofs.Common.{◌≡◌, ℕ, ◌<◌, ◌^◌, List, length, sym, ap, subst, ◌∙◌, arith}
use Rattle.mds_names.proofs.Values.{all_fit}
use Rattle.std.specs.List.{AllByRecursion}
use Rattle.std.proofs.lemmas.List.{map-id}
use Rattle.nfs4_types.specs.Bitmaps.{bitmap4_value}
use Rattle.mds_names.proofs.attributes.give_words.Goals as goal

pub give-requires-clause-fits : goal.give-requires-clause-fits
give-requires-clause-fits c =
    let same : bitmap4_value (record { words = c.made.result }) ≡ c.args.words.now = c.made.ensures ∙ map-id c.args.words.now in
    ((omega (arith, ap {A = List ℕ} length same, c.requires.words), subst (λ (xs : List ℕ). AllByRecursion (λ (v : ℕ). v < 2 ^ 32) xs) (sym same) (all_fit c.args.words.now (λ i. (c.type_inv.words i).fits))), omega (arith, c.requires.values))
