use Rattle.resilver.proofs.Turns.{in_turn}
use Rattle.resilver.proofs.Quiet.{quiet_reply, quiet_timeout, callers}
use Rattle.resilver.proofs.Outcomes.{outcomes, goes_on}
use Rattle.resilver.proofs.Ended.{quiet_outcome, outcome_stays}
use Rattle.resilver.proofs.laws.copy_law.Goals as goal

pub returns : goal.returns
returns c = record {
  in_turn = in_turn;
  outcomes = outcomes;
  goes_on = goes_on;
  quiet_reply = quiet_reply;
  quiet_timeout = quiet_timeout;
  outcome_stays = outcome_stays;
  quiet_outcome = quiet_outcome;
  callers = callers;
}
