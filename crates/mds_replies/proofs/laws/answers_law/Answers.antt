use Rattle.mds_replies.proofs.AskedRuns.{each_reply_is_asked}
use Rattle.mds_replies.proofs.GivenSends.{each_reply_is_whole, each_answer_is_now}
use Rattle.mds_replies.proofs.laws.answers_law.Goals as goal

pub returns-clause-whole : goal.returns-clause-whole
returns-clause-whole c = each_reply_is_whole

pub returns-clause-now : goal.returns-clause-now
returns-clause-now c = each_answer_is_now

pub returns-clause-asked : goal.returns-clause-asked
returns-clause-asked c = each_reply_is_asked
