use Rattle.std.proofs.Common.{is_some, ap, ◌∙◌}
use Rattle.mds_rule.specs.Answers.{is_read_out}
use Rattle.served_files.proofs.FoundReads.{any_there}
use Rattle.served_files.proofs.waiting_reads.WaitingReads.has_out.Goals as goal

pub returns : goal.returns
returns c = c.is_some.ensures ∙ ap is_some c.place_out.ensures.place ∙ any_there (is_read_out c.args.xid) c.args.self.now
