use Rattle.std.proofs.Common.{◌≡◌, List, ℕ, ◌++◌, length}
use Rattle.hex.specs.Hex.{encode_lower}
use Rattle.journal_print.proofs.hex_text.put_chunks.Given as goal

abbrev pub invariant-loop-rest : goal.invariant-loop-rest
invariant-loop-rest l =
    (done : List ℕ) × (l.initial.rest ≡ done ++ l.rest) × (l.out ≡ l.initial.out ++ encode_lower done)

abbrev pub decreases-loop-rest : goal.decreases-loop-rest
decreases-loop-rest l = length l.rest
