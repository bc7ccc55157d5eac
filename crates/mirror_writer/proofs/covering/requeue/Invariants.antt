use Rattle.std.proofs.Common.{◌≡◌, ◌+◌, ◌≤◌, ◌++◌, map, not, take}
use Rattle.std.specs.List.{filter}
use Rattle.std.specs.VecDeque.{deque_len, deque_capacity}
use Rattle.mirror_writer.specs.Writers.{has_verifier}
use Rattle.mirror_writer.proofs.covering.requeue.Given as goal

abbrev pub invariant-loop-answer : goal.invariant-loop-answer
invariant-loop-answer l = record {
  items : l.queue.items ≡ l.fn.queue.items ++ map (λ a. a.write) (filter (λ a. not (has_verifier l.verifier a)) (take l.answer-index l.answered));
  room : deque_capacity l.queue ≡ deque_capacity l.fn.queue;
  size : deque_len l.queue ≤ deque_len l.fn.queue + l.answer-index;
}
