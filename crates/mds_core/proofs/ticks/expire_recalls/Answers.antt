use Rattle.mds_core.proofs.RecallLemmas.{recall_turn, recall_fewer, recall_none}
use Rattle.mds_core.proofs.ticks.expire_recalls.Goals as goal

pub loop-file-smaller : goal.loop-file-smaller
loop-file-smaller c =
    recall_fewer c.args.now (c.in-Some.file, c.in-Some.field-0-1) c.tick.new.self _ c.loop-file.state c.take_input.new.state c.loop-file.out c.take_input.new.out c.state.view_is c.in-Some.ensures
    c.in_ok-take_input.ensures.steps

pub loop-file-preserved : goal.loop-file-preserved
loop-file-preserved c =
    recall_turn c.args.now (c.in-Some.file, c.in-Some.field-0-1) c.tick.new.self _ c.loop-file.state c.take_input.new.state c.args.state.now c.loop-file.out c.take_input.new.out c.args.out.now c.state.view_is
    c.in-Some.ensures c.in_ok-take_input.ensures.steps c.loop-file.invariant

pub returns : goal.returns
returns c = recall_none c.args.now c.tick.new.self _ c.loop-file.state c.args.state.now c.loop-file.out c.args.out.now c.state.view_is c.in_default.ensures c.loop-file.invariant
