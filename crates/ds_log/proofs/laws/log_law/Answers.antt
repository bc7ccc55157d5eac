use Rattle.ds_log.proofs.Reread.{body_again}
use Rattle.ds_log.proofs.Lasts.{durable_again, durable_starts, applied_lasts}
use Rattle.ds_log.proofs.Plays.{played_push}
use Rattle.ds_log.proofs.laws.log_law.Goals as goal

pub returns-clause-again : goal.returns-clause-again
returns-clause-again c = durable_again

pub returns-clause-starts : goal.returns-clause-starts
returns-clause-starts c = durable_starts

pub returns-clause-lasts : goal.returns-clause-lasts
returns-clause-lasts c = applied_lasts

pub returns-clause-reread : goal.returns-clause-reread
returns-clause-reread c = body_again

pub returns-clause-plays : goal.returns-clause-plays
returns-clause-plays c = played_push
