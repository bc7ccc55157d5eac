-- The result that bears a layout.
use Rattle.std.proofs.Common.{◌≡◌, ℕ, List, [], ◌∷◌, Result, Ok, Err, sym, ap, subst, ◌∙◌, IfOk, OnOk}
use Rattle.ff_xdr.specs.declared.error.NoMemory.{NoMemory}
use Rattle.ff_xdr.specs.Arms.{arm}
use Rattle.ff_xdr.specs.Form.{Value}
use Rattle.cluster_model.specs.declared.ids.Mirror.{Mirror}
use Rattle.nfs4_types.specs.declared.stateid.Stateid.{Stateid}
use Rattle.nfs4_file_ops.specs.Layout4.{layout4}
use Rattle.nfs4_file_ops.specs.LayoutGet.{layoutget4_res}
use Rattle.nfs4_compound.specs.Results.{resop4}
use Rattle.granted_layouts.specs.GrantedBodies.{layout_body, whole_layout, layout_result}
use Rattle.mds_rule.specs.MdsStates.{CompoundRun}
use Rattle.mds_rule.specs.OpSteps.{with_result}
use Rattle.compound_run.specs.declared.op_end.OpEnd.{OpEnd}
use Rattle.compound_run.specs.declared.op_end.OpEnd.TheVariants as end
use Rattle.compound_run.specs.CompoundRuns.{OnGoes}

-- an operation is done, with this result in other words
pub gives_as : (result : Result OpEnd NoMemory) (c d : CompoundRun) (v w : Value resop4) → v ≡ w → IfOk result (λ e. e ≡ end.Goes) → OnOk result (d ≡ with_result c v) → OnGoes result (d ≡ with_result c w)
gives_as (Err e) c d v w is goes run = tt
gives_as (Ok e) c d v w is goes run = subst (λ (x : OpEnd). OnGoes (Ok x) (d ≡ with_result c w)) (sym goes) (run ∙ ap (with_result c) is)

-- one layout of a whole file, of these mirrors
pub layout_result_as : (stateid : Stateid) (r : Value layoutget4_res) (layout : Value layout4) (bytes : List ℕ) (uid : ℕ) (mirrors : List Mirror) → r ≡ layout_result stateid (layout ∷ []) → layout ≡ whole_layout bytes
    → bytes ≡ layout_body uid mirrors → arm 50 resop4 r ≡ arm 50 resop4 (layout_result stateid (whole_layout (layout_body uid mirrors) ∷ []))
layout_result_as stateid r layout bytes uid mirrors bears is spelled =
    ap (λ (x : Value layoutget4_res). arm 50 resop4 x)
    (bears ∙ ap (λ (x : Value layout4). layout_result stateid (x ∷ [])) is ∙ ap (λ (x : List ℕ). layout_result stateid (whole_layout x ∷ [])) spelled)
