use Rattle.recall_calls.proofs.RecallsAgain.{understood, told_apart, told}
use Rattle.recall_calls.proofs.laws.every_recall_call.Goals as goal

pub returns-clause-understood : goal.returns-clause-understood
returns-clause-understood c = understood c.every_message.ensures.call_again

pub returns-clause-told_apart : goal.returns-clause-told_apart
returns-clause-told_apart c = told_apart c.every_message.ensures.call_again

pub returns-clause-told : goal.returns-clause-told
returns-clause-told c = told c.every_message.ensures.reply_again
