use Rattle.mds_receive.proofs.TagWithin.{tag_within}
use Rattle.mds_receive.proofs.compound.read_compound.Goals as goal

pub count_ops-requires : goal.count_ops-requires
count_ops-requires c = tag_within c.args.args.now c.in-Ok.compound c.in-Ok.ensures
