-- The calls that were sent, as the rule of a metadata server has them.
use Rattle.std.specs.Prelude.{ℕ, ◌≡◌, Bool, true, List, [], ◌∷◌, ⊤, map, nat_lt, Option, Some, None}
use Rattle.std.specs.declared.ops.Bound.{Bound}
use Rattle.std.specs.declared.ops.Bound.TheVariants.{Excluded, Unbounded}
use Rattle.std.specs.Map.{keys_of, values_of}
use Rattle.std.specs.Ordering.{nat_cmp}
use Rattle.std.specs.List.Sorted.{IsStrictlySortedBy}
use Rattle.mds_rule.specs.MdsStates.{MdsSend, CallsServer, CallsBack, AwaitedCall}
use Rattle.awaited_calls.specs.declared.awaited_call.SentTo.{SentTo}
use Rattle.awaited_calls.specs.declared.awaited_call.SentTo.TheVariants.{ToServer, ToClient}

-- what went out, under its number
abbrev pub sent_under : ℕ → SentTo → MdsSend
sent_under xid (ToServer server uid call) = CallsServer server xid uid.0 call
sent_under xid (ToClient back file stateid) = CallsBack xid back file stateid

-- the calls of a map
abbrev pub calls_of : List (ℕ × AwaitedCall) → List AwaitedCall
calls_of entries = values_of entries

-- each stands at its number
abbrev pub AtNumbers : List (ℕ × AwaitedCall) → Type 0
AtNumbers [] = ⊤
AtNumbers (e ∷ entries) = (e.0 ≡ e.1.xid) × AtNumbers entries

-- a number is behind another one; behind none all are
abbrev pub is_behind : Option ℕ → ℕ → Bool
is_behind None xid = true
is_behind (Some after) xid = nat_lt after xid

-- where the numbers behind another one begin in a map
abbrev pub start_behind : Option ℕ → Bound ℕ
start_behind None = Unbounded
start_behind (Some after) = Excluded after

-- the calls are in the order of their numbers, and no number stands twice
abbrev pub AreOrdered : List AwaitedCall → Type 0
AreOrdered calls = IsStrictlySortedBy nat_cmp (map (λ (c : AwaitedCall). c.xid) calls)

-- and each number stands once, in order
abbrev pub AtOwnNumbers : List (ℕ × AwaitedCall) → Type 0
AtOwnNumbers entries = AtNumbers entries × IsStrictlySortedBy nat_cmp (keys_of entries)
