use Rattle.std.proofs.Common.{◌≡◌, ◌+◌, ◌-◌, ◌≤◌, ◌++◌, take}
use Rattle.std.specs.List.{filter}
use Rattle.std.specs.VecDeque.{deque_len, deque_capacity}
use Rattle.waiting_calls.specs.LinkCalls.{is_read_of}
use Rattle.waiting_calls.proofs.link_calls.copy_reads.Given as goal

abbrev pub invariant-loop-place : goal.invariant-loop-place
invariant-loop-place l = record {
  items : l.at_once.items ≡ l.fn.at_once.items ++ filter (λ call. is_read_of l.number call) (take l.place l.waiting.items);
  room : deque_len l.at_once + (deque_len l.waiting - l.place) ≤ deque_capacity l.at_once;
  capacity : deque_capacity l.at_once ≡ deque_capacity l.fn.at_once;
}
