-- What a tick does with calls that were kept for it, and leaves of those that nobody awaits.
use Rattle.std.specs.Prelude.{◌≡◌, ◌⊎◌, ℕ, ◌<◌, true, length, find, Some, None, slice_get}
use Rattle.cluster_model.specs.Members.{IsOneOf}
use Rattle.cluster_model.specs.declared.ids.NodeId.TheVariants.{Server}
use Rattle.mds_activity.specs.FileCalls.{kept_out}
use Rattle.mds_rule.specs.MdsStates.{ServedFile, AwaitedCall, MdsValue, MdsStep, and_then, is_call_to}
use Rattle.mds_rule.specs.ServedFiles.{has_fresh}
use Rattle.mds_rule.specs.Answers.{is_awaited}
use Rattle.mds_rule.specs.Events.{leases_end, recalls_expire, takes_tick}

-- the leases and recalls that end with a tick, and the server behind them
abbrev pub ends_with : ℕ → MdsValue → MdsStep
ends_with now m = and_then (leases_end now (length m.sessions.clients) m) (λ n. recalls_expire now (length n.recalls) n)

abbrev pub behind_ends : ℕ → MdsValue → MdsValue
behind_ends now m = (ends_with now m).mds

-- no file keeps a call until the next tick
abbrev pub KeepsNothing : MdsValue → Type 0
KeepsNothing m = (place : ℕ) (s : ServedFile) → slice_get m.files place ≡ Some s → kept_out s.file ≡ None

-- While uids and names are left, no file keeps a call behind a tick.
abbrev pub TickKeepsNothing : ℕ → MdsValue → Type 0
TickKeepsNothing now m = has_fresh (behind_ends now m).fresh ≡ true → KeepsNothing (takes_tick now m).mds

-- the number was taken by a call: it is below the next, or none is left
abbrev pub WasTaken : ℕ → ℕ → Type 0
WasTaken xid next = (xid < next) ⊎ (next ≡ 0)

-- The record of each call that a file kept for the tick, by its server and number, goes out in it, as it was sent.
abbrev pub SendsKept : ℕ → MdsValue → Type 0
SendsKept now m =
    (place : ℕ) (s : ServedFile) (server xid : ℕ) (call : AwaitedCall) → slice_get (behind_ends now m).files place ≡ Some s → kept_out s.file ≡ Some (server, xid)
    → find (is_call_to (Server server) xid) (behind_ends now m).calls ≡ Some call → WasTaken xid (behind_ends now m).next_xid → IsOneOf call.sent (takes_tick now m).sends

-- Each call that is kept behind a tick is awaited.
abbrev pub AwaitsEach : ℕ → MdsValue → Type 0
AwaitsEach now m = (call : AwaitedCall) → IsOneOf call (takes_tick now m).mds.calls → is_awaited (takes_tick now m).mds call ≡ true
