use Rattle.client_mds_calls.proofs.MdsCallsAgain.{understood, told_apart}
use Rattle.client_mds_calls.proofs.laws.every_mds_call.Goals as goal

pub returns-clause-understood : goal.returns-clause-understood
returns-clause-understood c = understood c.every_message.ensures.call_again

pub returns-clause-told_apart : goal.returns-clause-told_apart
returns-clause-told_apart c = told_apart c.every_message.ensures.call_again
