use Rattle.std.proofs.Common.{arith}
use Rattle.std.proofs.lemmas.Grind.{common_steps}
use Rattle.store_disk.proofs.Placed.{overlay_grown}
use Rattle.store_disk.proofs.overlay.overlay_onto.Goals as goal

pub returns-clause-ok : goal.returns-clause-ok
returns-clause-ok c =
    let whole = overlay_grown c.args.old.now.items c.args.at c.args.bytes.now (grind (arith, common_steps)) in
    grind (arith, common_steps)
