use Rattle.client_sends.proofs.SpelledCalls.{record_of_user}
use Rattle.client_sends.proofs.RuleSteps.{input_sends}
use Rattle.client_sends.proofs.laws.client_sends.Goals as goal

pub returns : goal.returns
returns c = record {
  sends = λ d input. (input_sends input d).sends;
  entries = λ d input. (input_sends input d).entries;
  records = record_of_user;
}
