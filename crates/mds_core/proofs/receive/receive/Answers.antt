use Rattle.mds_core.proofs.CompoundsWithin.{compound_within}
use Rattle.mds_core.proofs.receive.receive.Goals as goal

pub run_compound-requires-clause-few : goal.run_compound-requires-clause-few
run_compound-requires-clause-few c = (compound_within c.in_ok-receive_record.field-0 c.in-Compound.xid c.in-Compound.compound c.args.message.now c.in_ok-receive_record.ensures c.in-Compound.is).0

pub run_compound-requires-clause-tag : goal.run_compound-requires-clause-tag
run_compound-requires-clause-tag c = (compound_within c.in_ok-receive_record.field-0 c.in-Compound.xid c.in-Compound.compound c.args.message.now c.in_ok-receive_record.ensures c.in-Compound.is).1
