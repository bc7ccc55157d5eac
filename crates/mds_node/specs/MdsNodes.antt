-- What a metadata server does as a node: where the moment is above the last that it was given, that comes first, as a tick; and then what arrived.
use Rattle.std.specs.Prelude.{ℕ, true, if◌then◌else◌, [], Option, None, Some}
use Rattle.node_link.specs.declared.link.Arrival.{Arrival}
use Rattle.node_link.specs.declared.link.Arrival.TheVariants.{Record, TimedOut, Quiet, Closed}
use Rattle.mds_rule.specs.MdsStates.{MdsValue, MdsStep, sends_none, and_then}
use Rattle.mds_rule.specs.Events.{takes_record, takes_timeout, takes_tick}
use Rattle.mds_rule.specs.Spelled.{records_sent}
use Rattle.ff_node.specs.Nodes.{NodeEvent, NodeRule, is_new_moment}

-- a metadata server, and the last moment that it was given, in seconds
pub record MdsNodeValue : Type 0 where
  pub mds : MdsValue
  pub last : Option ℕ

-- one that was given no moment yet
abbrev pub fresh_mds_node : MdsValue → MdsNodeValue
fresh_mds_node m = record { mds = m; last = None }

-- time passes to a new moment
abbrev pub mds_passes : Option ℕ → ℕ → MdsValue → MdsStep
mds_passes last moment m = if is_new_moment last moment then takes_tick moment m else sends_none m

-- a record, or that the call of this number to a node timed out; where nothing came, nothing is done
abbrev pub mds_hears : ℕ → Arrival → MdsValue → MdsStep
mds_hears now (Record from bytes) m = takes_record now m from bytes
mds_hears now (TimedOut node xid) m = takes_timeout now m node (Some xid)
mds_hears now Quiet m = sends_none m
mds_hears now Closed m = sends_none m

abbrev pub mds_does : NodeEvent → MdsNodeValue → MdsStep
mds_does e n = and_then (mds_passes n.last e.moment n.mds) (mds_hears e.moment e.arrival)

-- what an event leaves of it: it was given the event's moment, by this event or before it
abbrev pub mds_node_after : NodeEvent → MdsNodeValue → MdsNodeValue
mds_node_after e n = record { mds = (mds_does e n).mds; last = Some e.moment }

-- it does not end by itself, and writes nothing
abbrev pub mds_node_rule : NodeRule MdsNodeValue
mds_node_rule = record {
  step = λ n e. record { state = mds_node_after e n; sends = records_sent (mds_does e n); text = [] };
  outcome = λ n. None;
  is_server = true;
  more_at_once = 0;
}
