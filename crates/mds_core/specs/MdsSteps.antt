-- The metadata server of a cluster.
use Rattle.std.specs.Prelude.{◌≡◌, Bool, true, false, Result, Ok, Err}
use Rattle.ff_xdr.specs.declared.error.NoMemory.{NoMemory}
use Rattle.cluster_model.specs.declared.outbox.Outbox.{Outbox}
use Rattle.node_config.specs.Configs.{ConfigValue}
use Rattle.mds_rule.specs.MdsStates.{MdsValue, MdsStep, new_mds}
use Rattle.compound_run.specs.CompoundRuns.{HasMadeStep}

-- what it has, and whether it is spent: memory was wanted in a step
pub record ServerValue : Type 0 where
  pub mds : MdsValue
  pub is_spent : Bool

abbrev pub fresh_server : ConfigValue → ServerValue
fresh_server c = record { mds = new_mds c.servers c.mirrors; is_spent = false }

-- It stepped by this rule. Where memory was wanted it is spent, and what was put out stands as before; one that is spent makes no step.
abbrev pub MdsStepsBy : (MdsValue → MdsStep) → ServerValue → Outbox → Result (Unit {0}) NoMemory → ServerValue → Outbox → Type 0
MdsStepsBy rule old before (Ok done) new after = (old.is_spent ≡ false) × (new.is_spent ≡ false) × HasMadeStep (rule old.mds) before new.mds after
MdsStepsBy rule old before (Err wanted) new after = (new.is_spent ≡ true) × (after.entries.items ≡ before.entries.items) × (after.sends.items ≡ before.sends.items)
