-- A compound goes on behind an operation.
use Rattle.std.proofs.Common.{◌≡◌, ℕ, ◌+◌, ◌<◌, List, [], ◌∷◌, ◌++◌, length, map, Result, Ok, Err, refl, sym, ap, subst, ◌∙◌, OnOk, arith}
use Rattle.std.specs.Prelude.{⊤, Bool, true, false}
use Rattle.std.proofs.lemmas.List.{append_assoc}
use Rattle.ff_xdr.specs.Form.{Value}
use Rattle.ff_xdr.specs.declared.error.NoMemory.{NoMemory}
use Rattle.cluster_model.specs.declared.entry.Entry.{Entry}
use Rattle.cluster_model.specs.declared.outbox.Outbox.{Outbox}
use Rattle.nfs4_compound.specs.Args.{argop4}
use Rattle.nfs4_compound.specs.declared.stop.Stop.{Stop}
use Rattle.nfs4_compound.specs.declared.stop.Stop.TheVariants as stop
use Rattle.nfs4_types.specs.declared.status.Stat4.{Stat4}
use Rattle.mds_rule.specs.MdsStates.{CompoundRun, MdsSend, MdsValue, MdsStep, sends_none, enters}
use Rattle.mds_rule.specs.Spelled.{spelled_send}
use Rattle.mds_rule.specs.OpSteps.{OpStep, Goes, Ends, Waits, is_operation_number, unread, stopped}
use Rattle.mds_rule.specs.Compounds.{with_ops, operates, finishes, op_then, runs, runs_on}
use Rattle.compound_run.specs.declared.op_end.OpEnd.{OpEnd}
use Rattle.compound_run.specs.declared.op_end.OpEnd.TheVariants as end
use Rattle.compound_run.specs.CompoundRuns.{HasRoomForResults, AddsResult, HasEntered, HasOperated, HasMadeStep}
use Rattle.mds_compounds.specs.Walks.{next_step, HasRoomToGoOn, HasWalked, goes_on}

-- it entered these, and then made a step
entered_then : (next : MdsValue → MdsStep) (es : List Entry) (m k n : MdsValue) (old mid new : Outbox) → HasEntered m es old k mid → HasMadeStep (next k) mid n new → HasMadeStep (enters es (next m)) old n new
entered_then next es m k n old mid new first second = record {
  mds = second.mds ∙ ap (λ x. (next x).mds) first.mds;
  entries =
      second.entries
      ∙ ap (λ l. l ++ (next k).entries) first.entries
      ∙ append_assoc old.entries.items es (next k).entries
      ∙ ap (λ x. old.entries.items ++ (es ++ (next x).entries)) first.mds;
  sends = second.sends ∙ ap (λ l. l ++ map spelled_send (next k).sends) first.sends ∙ ap (λ x. old.sends.items ++ map spelled_send (next x).sends) first.mds;
}

-- what is left behind an operation that came to this, if the next one is done so
abbrev left_by : (MdsValue → CompoundRun → MdsStep) → OpEnd → MdsValue → CompoundRun → MdsStep
left_by next end.Goes m c = next m c
left_by next (end.Ends status) m c = finishes m c status
left_by next end.Waits m c = sends_none m

pub walked_then : (next : MdsValue → CompoundRun → MdsStep) (s : OpStep) (e : OpEnd) (old mid new : Outbox) (m n : MdsValue) (c : CompoundRun) → HasOperated s old (Ok e) m c mid
    → HasMadeStep (left_by next e m c) mid n new → HasMadeStep (op_then s next) old n new
walked_then next (Goes k es d) end.Goes old mid new m n c done rest = entered_then (λ x. next x d) es k m n old mid new done.1 (subst (λ (x : CompoundRun). HasMadeStep (next m x) mid n new) done.0 rest)
walked_then next (Goes k es d) (end.Ends status) old mid new m n c done rest = absurd done
walked_then next (Goes k es d) end.Waits old mid new m n c done rest = absurd done
walked_then next (Ends k es d status) end.Goes old mid new m n c done rest = absurd done
walked_then next (Ends k es d status) (end.Ends given) old mid new m n c done rest =
    entered_then (λ x. finishes x d status) es k m n old mid new done.2
    (subst (λ (x : Stat4). HasMadeStep (finishes m d x) mid n new) done.0 (subst (λ (x : CompoundRun). HasMadeStep (finishes m x given) mid n new) done.1 rest))
walked_then next (Ends k es d status) end.Waits old mid new m n c done rest = absurd done
walked_then next (Waits k es) end.Goes old mid new m n c done rest = absurd done
walked_then next (Waits k es) (end.Ends status) old mid new m n c done rest = absurd done
walked_then next (Waits k es) end.Waits old mid new m n c done rest = entered_then sends_none es k m n old mid new done rest

-- where it is done, these operations are still to come
abbrev pub OpsLeft : OpEnd → CompoundRun → List (Value argop4) → Type 0
OpsLeft end.Goes c ops = c.ops ≡ ops
OpsLeft (end.Ends status) c ops = ⊤
OpsLeft end.Waits c ops = ⊤

pub op_goes : (now : ℕ) (ops : List (Value argop4)) (s : OpStep) (e : OpEnd) (old mid new : Outbox) (m n : MdsValue) (c : CompoundRun) → HasOperated s old (Ok e) m c mid → OpsLeft e c ops
    → HasMadeStep (goes_on now e m c) mid n new → HasMadeStep (op_then s (λ k d. runs now ops k d)) old n new
op_goes now ops s e old mid new m n c done left rest = walked_then (λ k d. runs now ops k d) s e old mid new m n c done (by_end e left rest)
  where
    by_end : (f : OpEnd) → OpsLeft f c ops → HasMadeStep (goes_on now f m c) mid n new → HasMadeStep (left_by (λ k d. runs now ops k d) f m c) mid n new
    by_end end.Goes is behind = subst (λ (x : List (Value argop4)). HasMadeStep (runs now x m c) mid n new) is behind
    by_end (end.Ends status) is behind = behind
    by_end end.Waits is behind = behind

-- what ends a compound never goes on, and waits for nothing
stops : (s : Stop) (m k : MdsValue) (c d : CompoundRun) (e : OpEnd) (old mid : Outbox) → HasOperated (stopped m c s) old (Ok e) k d mid → (x : Stat4) × (e ≡ end.Ends x)
stops (stop.End rest) m k c d (end.Ends given) old mid done = (given, refl)
stops (stop.End rest) m k c d end.Goes old mid done = absurd done
stops (stop.End rest) m k c d end.Waits old mid done = absurd done
stops (stop.Bad e) m k c d (end.Ends given) old mid done = (given, refl)
stops (stop.Bad e) m k c d end.Goes old mid done = absurd done
stops (stop.Bad e) m k c d end.Waits old mid done = absurd done
stops (stop.Unread number) m k c d (end.Ends given) old mid done = (given, refl)
stops (stop.Unread number) m k c d end.Goes old mid done = absurd (by_test (is_operation_number number) done)
  where
    by_test : (b : Bool) → HasOperated (unread m c number b) old (Ok end.Goes) k d mid → ⊥
    by_test true it = it
    by_test false it = it
stops (stop.Unread number) m k c d end.Waits old mid done = absurd (by_test (is_operation_number number) done)
  where
    by_test : (b : Bool) → HasOperated (unread m c number b) old (Ok end.Waits) k d mid → ⊥
    by_test true it = it
    by_test false it = it

-- the next operation, or what ends the compound
module _ (now : ℕ) (m k n : MdsValue) (c d : CompoundRun) (e : OpEnd) (old mid new : Outbox) where
  left_of : (f : OpEnd) (op : Value argop4) (ops : List (Value argop4)) → c.ops ≡ op ∷ ops → HasWalked c (Ok f) d → OpsLeft f d ops
  left_of end.Goes op ops is walked = sym (ap tail (sym is ∙ walked.1))
    where
      tail : List (Value argop4) → List (Value argop4)
      tail [] = []
      tail (x ∷ xs) = xs
  left_of (end.Ends status) op ops is walked = tt
  left_of end.Waits op ops is walked = tt

  ends_so : (x : Stat4) → e ≡ end.Ends x → HasMadeStep (goes_on now e k d) mid n new → HasMadeStep (left_by (λ i j. sends_none i) e k d) mid n new
  ends_so x is rest = subst (λ (f : OpEnd). HasMadeStep (left_by (λ i j. sends_none i) f k d) mid n new) (sym is) (subst (λ (f : OpEnd). HasMadeStep (goes_on now f k d) mid n new) is rest)

  by_ops : (ops : List (Value argop4)) → c.ops ≡ ops → HasOperated (next_step now m c ops) old (Ok e) k d mid → HasWalked c (Ok e) d → HasMadeStep (goes_on now e k d) mid n new → HasMadeStep (runs now ops m c) old n new
  by_ops [] is done walked rest =
      let same : HasOperated (stopped m (with_ops c []) c.stop) old (Ok e) k d mid = subst (λ (x : List (Value argop4)). HasOperated (stopped m (with_ops c x) c.stop) old (Ok e) k d mid) is done in
      let ended = stops c.stop m k (with_ops c []) d e old mid same in
      walked_then (λ i j. sends_none i) (stopped m (with_ops c []) c.stop) e old mid new k n d same (ends_so ended.0 ended.1 rest)
  by_ops (op ∷ ops) is done walked rest = op_goes now ops (operates now m (with_ops c ops) op) e old mid new k n d done (left_of e op ops is walked) rest

  pub walk_goes : HasOperated (next_step now m c c.ops) old (Ok e) k d mid → HasWalked c (Ok e) d → HasMadeStep (goes_on now e k d) mid n new → HasMadeStep (runs_on now m c) old n new
  walk_goes done walked rest = by_ops c.ops refl done walked rest

-- behind an operation that adds its result the same ones are still to come
pub adds_left : (c d : CompoundRun) (e : OpEnd) → AddsResult c (Ok e) d → OpsLeft e d c.ops
adds_left c d end.Goes on = on.0
adds_left c d (end.Ends status) on = tt
adds_left c d end.Waits on = tt

-- ---- room, and what an answer says where it is no want of memory

pub walked_room : (c d : CompoundRun) (e : OpEnd) → HasWalked c (Ok e) d → HasRoomToGoOn c → e ≡ end.Goes → HasRoomToGoOn d
walked_room c d end.Goes walked room is = let ops = ap length walked.1 in let more = walked.2 in omega (arith, ops, more, room)
walked_room c d (end.Ends status) walked room is = absurd cc
walked_room c d end.Waits walked room is = absurd cc

pub adds_room : (c d : CompoundRun) (e : OpEnd) → AddsResult c (Ok e) d → length c.ops < 16 → c.results ≡ [] → e ≡ end.Goes → HasRoomToGoOn d
adds_room c d end.Goes on few first is = let ops = ap length on.0 in let results = on.1 in let none = ap length first in omega (arith, ops, results, none, few)
adds_room c d (end.Ends status) on few first is = absurd cc
adds_room c d end.Waits on few first is = absurd cc

pub on_ok : {A B : Type 0} (result : Result (Unit {0}) NoMemory) → OnOk result A → (A → B) → OnOk result B
on_ok (Ok done) it next = next it
on_ok (Err e) it next = tt

-- a compound that waited, behind the result that it waited for
pub resumed_room : (c d : CompoundRun) (e : OpEnd) → HasRoomForResults c → AddsResult c (Ok e) d → e ≡ end.Goes → HasRoomToGoOn d
resumed_room c d end.Goes room on is = let ops = ap length on.0 in let results = on.1 in omega (arith, ops, results, room)
resumed_room c d (end.Ends status) room on is = absurd cc
resumed_room c d end.Waits room on is = absurd cc
