-- Runs of a metadata server, with any events in any order.
use Rattle.std.specs.Prelude.{ℕ, List, [], ◌∷◌, Option}
use Rattle.cluster_model.specs.declared.ids.NodeId.{NodeId}
use Rattle.cluster_model.specs.declared.ids.FileId.{FileId}
use Rattle.device_addr.specs.Universal.{AddressValue}
use Rattle.mds_rule.specs.MdsStates.{MdsValue, MdsStep, sends_none, and_then, new_mds}
use Rattle.mds_rule.specs.Events.{takes_record, takes_timeout, takes_tick, takes_recall, takes_resilver}

-- what comes to it
pub data MdsInput : Type 0 where
  -- a record, of whatever bytes
  Hears : (from : NodeId) (bytes : List ℕ) → MdsInput
  -- of the calls to this node the one with this number times out, or else the one that was sent first
  IsTimedOut : (to : NodeId) (which : Option ℕ) → MdsInput
  Ticks : MdsInput
  -- the layout of a file is to be recalled, and mirrors are to be added to it
  RecallsFile : (file : FileId) → MdsInput
  Resilvers : (file : FileId) → MdsInput

-- at its moment, in seconds
pub record MdsEvent : Type 0 where
  pub now : ℕ
  pub input : MdsInput

abbrev pub by_input : ℕ → MdsInput → MdsValue → MdsStep
by_input now (Hears from bytes) m = takes_record now m from bytes
by_input now (IsTimedOut to which) m = takes_timeout now m to which
by_input now Ticks m = takes_tick now m
by_input now (RecallsFile file) m = takes_recall now m file
by_input now (Resilvers file) m = takes_resilver m file

abbrev pub after_event : MdsEvent → MdsValue → MdsStep
after_event e m = by_input e.now e.input m

-- the server behind all of them, what it has entered and what it has sent, in order
abbrev pub run_from : MdsValue → List MdsEvent → MdsStep
run_from m [] = sends_none m
run_from m (e ∷ events) = and_then (after_event e m) (λ n. run_from n events)

abbrev pub mds_run : List AddressValue → ℕ → List MdsEvent → MdsStep
mds_run servers mirrors events = run_from (new_mds servers mirrors) events
