use Rattle.std.proofs.Common.{◌≡◌, ◌+◌, not, drop, count_by}
use Rattle.std.specs.List.{filter}
use Rattle.mirror_writer.specs.Writers.{has_verifier, covered_by}
use Rattle.mirror_writer.proofs.covering.cover.Given as goal

abbrev pub invariant-loop-answer : goal.invariant-loop-answer
invariant-loop-answer l = record {
  flags : covered_by (filter (has_verifier l.verifier) (drop l.answer-index l.answered)) l.covered ≡ covered_by (filter (has_verifier l.verifier) l.answered) l.fn.covered;
  count : l.count + count_by not l.covered ≡ count_by not l.fn.covered;
}
