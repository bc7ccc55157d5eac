-- A WRITE without bytes is done.
use Rattle.std.proofs.Common.{◌≡◌, ℕ, List, [], ◌∷◌, length, Result, refl, sym, subst, arith, IfOk, OnOk}
use Rattle.std.proofs.lemmas.List.{append-nil}
use Rattle.ff_xdr.specs.declared.error.NoMemory.{NoMemory}
use Rattle.ff_xdr.specs.Form.{Value}
use Rattle.cluster_model.specs.declared.ids.FileId.{FileId}
use Rattle.cluster_model.specs.declared.outbox.Outbox.{Outbox}
use Rattle.nfs4_compound.specs.Results.{resop4}
use Rattle.mds_rule.specs.MdsStates.{CompoundRun, MdsValue}
use Rattle.mds_rule.specs.OpSteps.{with_result}
use Rattle.mds_rule.specs.FileOps.{write_result}
use Rattle.compound_run.specs.declared.op_end.OpEnd.{OpEnd}
use Rattle.compound_run.specs.declared.op_end.OpEnd.TheVariants as end
use Rattle.compound_run.specs.CompoundRuns.{HasOperated}
use Rattle.mds_state.proofs.OpLemmas.{done_so}
use Rattle.mds_transfers.specs.WrittenBytes.{writes_bytes}

pub write_none : (m : MdsValue) (c d : CompoundRun) (file : FileId) (at : ℕ) (bytes : List ℕ) (v : Value resop4) (result : Result OpEnd NoMemory) (out : Outbox) → length bytes ≡ 0 → v ≡ write_result 0
    → IfOk result (λ e. e ≡ end.Goes) → OnOk result (d ≡ with_result c v) → HasOperated (writes_bytes m c file at bytes) out result m d out
write_none m c d file at [] v result out none is goes run =
    done_so m m [] (with_result c (write_result 0)) d result out out goes (subst (λ (x : Value resop4). OnOk result (d ≡ with_result c x)) is run)
    (record { mds = refl; entries = sym (append-nil out.entries.items); sends = refl })
write_none m c d file at (b ∷ bytes) v result out none is goes run = absurd (omega (arith, none))
