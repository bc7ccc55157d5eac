use Rattle.world_reads.proofs.AnsweredReads.{reads_obey}
use Rattle.world_reads.proofs.laws.world_reads.Goals as goal

pub returns : goal.returns
returns c = record {
  reads = λ boots w run told few range.
      reads_obey
      (record {
        spelled = c.client_records.ensures.spelled;
        numbered = c.client_records.ensures.numbered;
        given = c.every_listing.ensures.whole;
        asks = c.every_mds_call.ensures.understood;
        calls = c.every_ds_call.ensures.understood;
        replies = c.every_message.ensures.reply_again;
        same = c.proper_servers.ensures.same;
        ascend = c.mds_run_law.ensures.numbers;
        fit = c.mds_run_law.ensures.words;
        answered = c.read_runs.ensures.answered;
      })
      boots w run told few range;
}
