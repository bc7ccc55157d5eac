-- To which mirror a READ waits.
use Rattle.std.proofs.Common.{◌≡◌, ℕ, true, cond, Some, None, refl, ap, ◌∙◌}
use Rattle.cluster_model.specs.declared.ids.Mirror.{Mirror}
use Rattle.cluster_model.specs.declared.call_stage.CallStage.TheVariants.{Out}
use Rattle.cluster_model.specs.DsCalls.{Read}
use Rattle.cluster_model.specs.Fences.{waits}
use Rattle.mds_io.specs.Reads.{ReadState, at_stage, in_turn, sends_to}
use Rattle.mds_io.specs.Calls.{WaitsAt}

pub waits_at : (r : ReadState) (xid : ℕ) (m : Mirror) → waits r.stage ≡ true → in_turn r ≡ Some m → WaitsAt r xid (Some m.id)
waits_at r xid m waiting turn = (
  record { read = at_stage r (Out xid 0); id = m.id; call = Read m.id.fileid r.at r.count },
  ap (λ b. cond b (sends_to r xid (in_turn r)) None) waiting ∙ ap (sends_to r xid) turn,
  refl,
)
