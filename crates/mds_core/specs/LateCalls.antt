-- A call that timed out.
use Rattle.std.specs.Prelude.{◌≡◌}
use Rattle.mds_rule.specs.MdsStates.{AwaitedCall}
use Rattle.mds_rule.specs.Spelled.{spelled_send}
use Rattle.mds_core.specs.declared.timeouts.LateCall.{LateCall}

-- what the code has of it, with its record as it went out
pub record IsLateCall (call : AwaitedCall) (late : LateCall) : Type 0 where
  pub node : late.node ≡ call.node
  pub xid : late.xid ≡ call.xid
  pub caller : late.caller ≡ call.caller
  pub sent : late.sent ≡ spelled_send call.sent
