-- Which files are passed over at the end of an event.
use Rattle.std.specs.Prelude.{◌≡◌, ℕ, ◌<◌, ◌≤◌, List, Option, Some, None}
use Rattle.mds_rule.specs.MdsStates.{MdsValue, sends_none, numbered}
use Rattle.mds_rule.specs.Goes.{recall_call, file_calls}

-- no recall is of a file with a number from the first on and below the second
abbrev pub NoRecalls : MdsValue → ℕ → ℕ → Type 0
NoRecalls m from end = (n : ℕ) → from ≤ n → n < end → recall_call (numbered n) m ≡ sends_none m

-- the files with these numbers have nothing to send; this is what files have kept until a tick
abbrev pub AreSilent : List (Option (ℕ × ℕ)) → MdsValue → ℕ → ℕ → Type 0
AreSilent kept m from end = (n : ℕ) → from ≤ n → n < end → file_calls kept n m ≡ sends_none m

-- the next file from a number on and below an end that may have a call to send: all that are passed over are silent
abbrev pub NextFile : List (Option (ℕ × ℕ)) → MdsValue → ℕ → ℕ → Option ℕ → Type 0
NextFile kept m from end None = AreSilent kept m from end
NextFile kept m from end (Some n) = AreSilent kept m from n
