use Rattle.nfs4_types.specs.Bitmaps.{bitmap4_value}
use Rattle.mds_names.proofs.Values.{gives_as, open_result_as}
use Rattle.mds_names.proofs.opening.give_open.Goals as goal

pub returns-clause-run : goal.returns-clause-run
returns-clause-run c =
    gives_as c.give.result c.args.run.now c.give.new.self _ _ (open_result_as c.args.given c.stateid.result (bitmap4_value (record { words = c.made.result })) c.stateid.ensures c.made.ensures) c.give.ensures.goes c.give.ensures.run
