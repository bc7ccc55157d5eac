-- No run ends at a place.
use Rattle.std.proofs.Common.{◌≡◌, ◌≢◌, ℕ, ◌<◌, ◌≤◌, List, Some, None, sym, ◌∙◌, arith, inl, inr, ◌⊎◌}
use Rattle.std.proofs.lemmas.Bool.{cases_lt}
use Rattle.std.proofs.lemmas.Option.{none-some}
use Rattle.mirror_writer.specs.Extents.{AreApart}
use Rattle.mirror_writer.specs.Runs.{run_at, IsLastUpTo}
use Rattle.mirror_writer.proofs.RunLemmas.{full, are_apart, same_run}
use Rattle.mirror_writer.proofs.Stretches.{some_run}

pub none_ends_at : (es : List (ℕ × ℕ)) (place : ℕ) (run : ℕ × ℕ) → AreApart es → IsLastUpTo es place run → run.1 ≢ place → (k : ℕ) → run_at es k ≢ Some place
none_ends_at es place run apart last differs k is = by_order (last.last k (omega (arith, full es k place apart is)) (some_run es k place is)) (cases_lt k run.0)
  where
    by_order : k ≤ run.0 → (k < run.0) ⊎ (run.0 ≤ k) → ⊥
    by_order up (inl below) = omega (arith, last.first, are_apart es k place run.0 run.1 apart is last.there below)
    by_order up (inr above) = differs (sym (same_run es k run.0 place run.1 is last.there (omega (arith, up, above))))

pub none_before : (es : List (ℕ × ℕ)) (place : ℕ) → AreApart es → ((k : ℕ) → k ≤ place → run_at es k ≡ None) → (k : ℕ) → run_at es k ≢ Some place
none_before es place apart none k is = none-some place (sym (none k (omega (arith, full es k place apart is))) ∙ is)
