use Rattle.std.proofs.Common.{ap, ◌∙◌, sym}
use Rattle.twin_log.specs.Twins.{On}
use Rattle.twin_log.proofs.Openings.{finds_none, finds_both, finds_disk, finds_spare}
use Rattle.twin_log.proofs.kept_log.find_log.Goals as goal

pub returns-in-Neither-clause-finds : goal.returns-in-Neither-clause-finds
returns-in-Neither-clause-finds g c =
    finds_none (g.D.Disk.told c.args.disk.now) (g.D.Disk.told c.args.spare.now) c.in_ok-ours.ours c.in_ok-theirs.theirs c.new_pair.result c.in_ok-ours.ensures.head c.in_ok-theirs.ensures.head (sym c.in-Neither.ensures) c.new_pair.ensures

pub returns-in-Both-clause-finds : goal.returns-in-Both-clause-finds
returns-in-Both-clause-finds g c =
    finds_both (g.D.Disk.told c.args.disk.now) (g.D.Disk.told c.args.spare.now) c.in_ok-ours.ours c.in_ok-theirs.theirs c.in_ok-ours.ensures.head c.in_ok-theirs.ensures.head (sym c.in-Both.ensures)

pub returns-in-On-Disk-clause-finds : goal.returns-in-On-Disk-clause-finds
returns-in-On-Disk-clause-finds g c =
    let opens = rw (c.in_ok-ours.ensures.same) at c.open_side.ensures.opens in
    let held = sym c.in-On-Disk.ensures ∙ ap (λ side. On side) c.in-On-Disk.field-0-is in
    finds_disk c.in_ok-ours.ours c.in_ok-theirs.theirs (g.D.Disk.told c.args.disk.now) (g.D.Disk.told c.args.spare.now) c.open_side.result c.in_ok-ours.ensures.head c.in_ok-theirs.ensures.head held opens

pub returns-in-On-Spare-clause-finds : goal.returns-in-On-Spare-clause-finds
returns-in-On-Spare-clause-finds g c =
    let opens = rw (c.in_ok-theirs.ensures.same) at c.open_side-in-On-Spare.ensures.opens in
    let held = sym c.in-On-Spare.ensures ∙ ap (λ side. On side) c.in-On-Spare.field-0-is in
    finds_spare c.in_ok-ours.ours c.in_ok-theirs.theirs (g.D.Disk.told c.args.disk.now) (g.D.Disk.told c.args.spare.now) c.open_side-in-On-Spare.result c.in_ok-ours.ensures.head c.in_ok-theirs.ensures.head held opens
