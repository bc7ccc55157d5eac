use Rattle.std.proofs.Common.{◌≡◌, ◌++◌, length, take, map}
use Rattle.journal_print.specs.Counts.{kind_lines}
use Rattle.journal_print.proofs.counts.put_kinds.Given as goal

abbrev pub invariant-loop-word : goal.invariant-loop-word
invariant-loop-word l = l.out ≡ l.fn.out ++ kind_lines (map (λ word. word.now) (take (length l.yielded) l.words)) (take (length l.yielded) l.counts)
