use Rattle.mds_activity.proofs.SeenFits.{seen_file}
use Rattle.mds_file.proofs.mds_file.MdsFile.see.Goals as goal

pub invariant_of-self : goal.invariant_of-self
invariant_of-self c = seen_file _ _ c.args.id c.args.seen _ c.saw.ensures c.self.invariant
