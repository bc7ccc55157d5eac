use Rattle.std.proofs.Common.{refl, ◌∷◌, []}
use Rattle.cluster_model.specs.declared.entry.Entry.TheVariants.{ReadAnswer}
use Rattle.mds_rule.specs.OpSteps.{with_result}
use Rattle.mds_rule.specs.Answers.{read_result}
use Rattle.mds_state.proofs.OpLemmas.{done_so}
use Rattle.mds_answers.proofs.reads.end_read.Goals as goal

pub returns-in_ok-enter_answer-in-Bytes-clause-op : goal.returns-in_ok-enter_answer-in-Bytes-clause-op
returns-in_ok-enter_answer-in-Bytes-clause-op c m =
    let bytes = c.bytes-bytes.result.now in
    rw (c.in-Bytes.is, ← c.bytes-bytes.ensures)
    (done_so m m (ReadAnswer c.args.file 0 bytes ∷ []) (with_result c.args.run.now (read_result c.in-Bytes.eof bytes)) c.give.new.self c.give.result c.args.out.now c.enter_answer.new.out c.give.ensures.goes c.give.ensures.run
    (record { mds = refl; entries = c.in_ok-enter_answer-in-Bytes.ensures.entries; sends = c.enter_answer.ensures.sends }))
