use Rattle.std.proofs.Common.{refl}
use Rattle.twin_log.specs.declared.side.Side.TheVariants.{Disk, Spare}
use Rattle.twin_log.proofs.Sides.{seals_tell}
use Rattle.twin_log.proofs.appending.seal_on.Goals as goal

pub returns-in-Disk-clause-tells : goal.returns-in-Disk-clause-tells
returns-in-Disk-clause-tells g c =
    seals_tell Disk (g.D.Disk.told c.args.disk.now) (g.D.Disk.told c.args.spare.now) c.args.end c.args.at c.seal.result (g.D.Disk.told c.seal.new.disk) (g.D.Disk.told c.args.spare.now) (c.seal.ensures.seals, refl)

pub returns-in-Spare-clause-tells : goal.returns-in-Spare-clause-tells
returns-in-Spare-clause-tells g c =
    seals_tell Spare (g.D.Disk.told c.args.disk.now) (g.D.Disk.told c.args.spare.now) c.args.end c.args.at c.seal-in-Spare.result (g.D.Disk.told c.args.disk.now) (g.D.Disk.told c.seal-in-Spare.new.disk) (c.seal-in-Spare.ensures.seals, refl)
