use Rattle.cluster_model.specs.DsCalls.{plain_ds_reply}
use Rattle.mds_activity.proofs.CopyFits.{replied_copy, replied_loses}
use Rattle.mds_activity.proofs.copying.take_reply.Goals as goal

pub returns-clause-copying : goal.returns-clause-copying
returns-clause-copying c = replied_copy c.args.layout c.args.copier c.args.copies c.args.copy.now c.args.xid (plain_ds_reply c.args.reply.now) c.on_reply.result c.on_reply.new.self c.requires c.on_reply.ensures.takes

pub returns-clause-loses : goal.returns-clause-loses
returns-clause-loses c = replied_loses c.args.layout c.args.copier c.args.copies c.args.copy.now c.args.xid (plain_ds_reply c.args.reply.now) c.on_reply.result c.on_reply.new.self c.requires c.on_reply.ensures.takes
