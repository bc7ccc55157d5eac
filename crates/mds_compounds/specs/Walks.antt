-- The next operation of a compound, or what ends it.
use Rattle.std.specs.Prelude.{◌≡◌, ℕ, ◌+◌, ◌<◌, ◌==◌, not, List, [], ◌∷◌, length, Result, Ok, Err, ⊤, if◌then◌else◌}
use Rattle.ff_xdr.specs.Form.{Value, arm_of}
use Rattle.ff_xdr.specs.declared.error.NoMemory.{NoMemory}
use Rattle.nfs4_types.specs.declared.status.Stat4.TheVariants as stat
use Rattle.nfs4_compound.specs.Args.{argop4}
use Rattle.mds_rule.specs.MdsStates.{CompoundRun, MdsValue, MdsStep, sends_none}
use Rattle.mds_rule.specs.OpSteps.{OpStep, refuses, stopped}
use Rattle.mds_rule.specs.Compounds.{with_ops, operate, operates, finishes, runs_on, may_stand_alone}
use Rattle.compound_run.specs.declared.op_end.OpEnd.{OpEnd}
use Rattle.compound_run.specs.declared.op_end.OpEnd.TheVariants as end

abbrev pub next_step : ℕ → MdsValue → CompoundRun → List (Value argop4) → OpStep
next_step now m c [] = stopped m c c.stop
next_step now m c (op ∷ ops) = operates now m (with_ops c ops) op

-- an operation that is done leaves the others, and one result more
abbrev pub HasWalked : CompoundRun → Result OpEnd NoMemory → CompoundRun → Type 0
HasWalked c (Ok end.Goes) d = (op : Value argop4) × (c.ops ≡ op ∷ d.ops) × (length d.results ≡ length c.results + 1)
HasWalked c (Ok (end.Ends status)) d = ⊤
HasWalked c (Ok end.Waits) d = ⊤
HasWalked c (Err e) d = ⊤

-- Its results are at most 17: each operation that is still to come has one, and so has what is not read behind them. It may have one more
-- than a compound that runs an operation, which has waited for that one's result.
abbrev pub HasRoomToGoOn : CompoundRun → Type 0
HasRoomToGoOn c = length c.results + length c.ops < 18

-- what is left of a compound behind an operation that came to this
abbrev pub goes_on : ℕ → OpEnd → MdsValue → CompoundRun → MdsStep
goes_on now end.Goes m c = runs_on now m c
goes_on now (end.Ends status) m c = finishes m c status
goes_on now end.Waits m c = sends_none m

-- how many steps there are still at the most
abbrev pub steps_left : OpEnd → CompoundRun → ℕ
steps_left end.Goes c = length c.ops + 1
steps_left (end.Ends status) c = 0
steps_left end.Waits c = 0

-- the first operation, of so many, where it is no SEQUENCE
abbrev pub alone_step : ℕ → MdsValue → CompoundRun → ℕ → Value argop4 → OpStep
alone_step now m c count op =
    if may_stand_alone (arm_of argop4 op) then (if count == 1 then operate now m c op else refuses m c (arm_of argop4 op) stat.NotOnlyOp)
    else refuses m c (arm_of argop4 op) stat.OpNotInSession
