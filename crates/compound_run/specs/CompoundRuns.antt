-- A compound while it is run: what the code has of it, and what an operation comes to.
use Rattle.std.specs.Prelude.{◌≡◌, ℕ, ◌+◌, ◌<◌, Bool, true, false, List, ◌++◌, length, map, Result, Ok, Err, ⊤}
use Rattle.cluster_model.specs.declared.entry.Entry.{Entry}
use Rattle.cluster_model.specs.declared.outbox.Outbox.{Outbox}
use Rattle.ff_xdr.specs.declared.error.NoMemory.{NoMemory}
use Rattle.nfs4_compound.specs.Args.{argop4}
use Rattle.nfs4_compound.specs.Operations.{OpList}
use Rattle.mds_rule.specs.MdsStates.{CompoundRun, MdsValue, MdsStep}
use Rattle.mds_rule.specs.OpSteps.{OpStep, Goes, Ends, Waits}
use Rattle.mds_rule.specs.Spelled.{spelled_send}
use Rattle.compound_run.specs.declared.run.Progress.{Progress}
use Rattle.compound_run.specs.declared.op_end.OpEnd.{OpEnd}
use Rattle.compound_run.specs.declared.op_end.OpEnd.TheVariants as end

-- a compound with this tag and these operations still to come
abbrev pub run_of : List ℕ → OpList argop4 → Progress → CompoundRun
run_of tag ops p = record {
  node = p.node;
  xid = p.xid;
  tag = tag;
  ops = ops.values;
  stop = ops.stop;
  results = p.results;
  slot = p.slot;
  is_kept = p.is_kept;
  current = p.current;
}

-- its results are at most 17: each operation has one, and so has what is not read behind them
abbrev pub HasRoomForResults : CompoundRun → Type 0
HasRoomForResults c = length c.results + length c.ops < 17

-- where a test holds, this
abbrev pub Where : Bool → Type 0 → Type 0
Where true P = P
Where false P = ⊤

-- a compound's text as it is kept: its tag, and the operations that are still to come
pub record TextValue : Type 0 where
  pub tag : List ℕ
  pub ops : OpList argop4

-- it became this, and entered this
pub record HasEntered (m : MdsValue) (list : List Entry) (old : Outbox) (n : MdsValue) (new : Outbox) : Type 0 where
  pub mds : n ≡ m
  pub entries : new.entries.items ≡ old.entries.items ++ list
  pub sends : new.sends.items ≡ old.sends.items

-- an operation came to this; the compound that it is of, then
abbrev pub HasOperated : OpStep → Outbox → Result OpEnd NoMemory → MdsValue → CompoundRun → Outbox → Type 0
HasOperated (Goes m entries c) old (Ok end.Goes) n d new = (d ≡ c) × HasEntered m entries old n new
HasOperated (Goes m entries c) old (Ok (end.Ends status)) n d new = ⊥
HasOperated (Goes m entries c) old (Ok end.Waits) n d new = ⊥
HasOperated (Ends m entries c status) old (Ok end.Goes) n d new = ⊥
HasOperated (Ends m entries c status) old (Ok (end.Ends given)) n d new = (given ≡ status) × (d ≡ c) × HasEntered m entries old n new
HasOperated (Ends m entries c status) old (Ok end.Waits) n d new = ⊥
HasOperated (Waits m entries) old (Ok end.Goes) n d new = ⊥
HasOperated (Waits m entries) old (Ok (end.Ends status)) n d new = ⊥
HasOperated (Waits m entries) old (Ok end.Waits) n d new = HasEntered m entries old n new
HasOperated step old (Err e) n d new = ⊤

-- behind an operation that is done the same operations are still to come, and there is one result more
abbrev pub AddsResult : CompoundRun → Result OpEnd NoMemory → CompoundRun → Type 0
AddsResult c (Ok end.Goes) d = (d.ops ≡ c.ops) × (length d.results ≡ length c.results + 1)
AddsResult c (Ok (end.Ends status)) d = ⊤
AddsResult c (Ok end.Waits) d = ⊤
AddsResult c (Err e) d = ⊤

-- it made this step, and what the step entered and sent stands behind what there was
pub record HasMadeStep (s : MdsStep) (old : Outbox) (n : MdsValue) (new : Outbox) : Type 0 where
  pub mds : n ≡ s.mds
  pub entries : new.entries.items ≡ old.entries.items ++ s.entries
  pub sends : new.sends.items ≡ old.sends.items ++ map spelled_send s.sends

-- where an operation is done, this
abbrev pub OnGoes : Result OpEnd NoMemory → Type 0 → Type 0
OnGoes (Ok end.Goes) P = P
OnGoes (Ok (end.Ends status)) P = ⊥
OnGoes (Ok end.Waits) P = ⊥
OnGoes (Err e) P = ⊤
