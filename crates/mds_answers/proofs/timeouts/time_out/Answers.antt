use Rattle.std.proofs.Common.{refl}
use Rattle.mds_io.specs.Reads as read
use Rattle.mirror_writer.specs.Writers as writer
use Rattle.mds_state.specs.contracts.state.State as state
use Rattle.mds_compounds.proofs.WalkLemmas.{on_ok}
use Rattle.mds_answers.proofs.AnswerLemmas.{read_so, write_so}
use Rattle.mds_answers.proofs.timeouts.time_out.Goals as goal

pub returns-in_ok-ended-in-ForRead : goal.returns-in_ok-ended-in-ForRead
returns-in_ok-ended-in-ForRead c =
    let m = state.the_view c.state.inside in
    rw (← c.state.view_is, c.in-ForRead.is)
    (on_ok c.resume_read.result c.resume_read.ensures
    (λ made.
    read_so c.args.now m c.resume_read.new.state c.in-ForRead.file c.args.xid (λ r. read.after_timeout r c.args.xid) c.args.out.now _ c.resume_read.new.out c.time_out_read.new.self c.in_ok-ended-in-ForRead.ended refl made c.in_ok-ended-in-ForRead.ensures.steps))

pub returns-in_ok-ended-in-ForWrite : goal.returns-in_ok-ended-in-ForWrite
returns-in_ok-ended-in-ForWrite c =
    let m = state.the_view c.state-in-ForWrite.inside in
    rw (← c.state-in-ForWrite.view_is, c.in-ForWrite.is)
    (on_ok c.resume_write.result c.resume_write.ensures
    (λ made. write_so c.args.now m c.resume_write.new.state c.in-ForWrite.file (λ w. writer.after_timeout w c.args.xid) c.args.out.now c.resume_write.new.out c.time_out_write.new.self c.in_ok-ended-in-ForWrite.ended made c.in_ok-ended-in-ForWrite.ensures))
