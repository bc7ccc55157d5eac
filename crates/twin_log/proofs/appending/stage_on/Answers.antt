use Rattle.std.proofs.Common.{refl}
use Rattle.twin_log.specs.declared.side.Side.TheVariants.{Disk, Spare}
use Rattle.twin_log.proofs.Sides.{stages_tell}
use Rattle.twin_log.proofs.appending.stage_on.Goals as goal

pub returns-in-Disk-clause-tells : goal.returns-in-Disk-clause-tells
returns-in-Disk-clause-tells g c =
    stages_tell Disk (g.D.Disk.told c.args.disk.now) (g.D.Disk.told c.args.spare.now) c.args.end c.args.at c.args.body.now c.stage.result (g.D.Disk.told c.stage.new.disk) (g.D.Disk.told c.args.spare.now) (c.stage.ensures.stages, refl)

pub returns-in-Spare-clause-tells : goal.returns-in-Spare-clause-tells
returns-in-Spare-clause-tells g c =
    stages_tell Spare (g.D.Disk.told c.args.disk.now) (g.D.Disk.told c.args.spare.now) c.args.end c.args.at c.args.body.now c.stage-in-Spare.result (g.D.Disk.told c.args.disk.now) (g.D.Disk.told c.stage-in-Spare.new.disk) (c.stage-in-Spare.ensures.stages, refl)
