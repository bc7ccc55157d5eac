use Rattle.std.proofs.Common.{sym, ◌∙◌}
use Rattle.mds_state.specs.contracts.state.State as state
use Rattle.mds_names.proofs.ClosesNone.{not_closed}
use Rattle.mds_names.proofs.closing.close_file.Goals as goal

pub returns-in_default-clause-op : goal.returns-in_default-clause-op
returns-in_default-clause-op c out =
    rw (← c.state.view_is)
    (not_closed (state.the_view c.state.inside) c.args.run.now c.refuse.new.self c.args.client c.args.file c.close.new.self c.refuse.result out (sym c.in_default.is ∙ c.close.ensures.told) c.close.ensures.leaves c.refuse.ensures.ends c.refuse.ensures.run)
