use Rattle.mds_activity.proofs.CopyFits.{late_copy, late_loses}
use Rattle.mds_activity.proofs.copying.take_timeout.Goals as goal

pub returns-clause-copying : goal.returns-clause-copying
returns-clause-copying c = late_copy c.args.layout c.args.copier c.args.copies c.args.copy.now c.args.xid c.on_timeout.result c.on_timeout.new.self c.requires c.on_timeout.ensures

pub returns-clause-loses : goal.returns-clause-loses
returns-clause-loses c = late_loses c.args.layout c.args.copier c.args.copies c.args.copy.now c.args.xid c.on_timeout.result c.on_timeout.new.self c.requires c.on_timeout.ensures
