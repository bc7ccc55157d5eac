use Rattle.ds_calls.proofs.DsCallsAgain.{understood, told_apart}
use Rattle.ds_calls.proofs.DsRepliesAgain.{is_answered}
use Rattle.ds_calls.proofs.RuleAnswers.{rule_answers}
use Rattle.ds_calls.proofs.laws.every_ds_call.Goals as goal

pub returns-clause-understood : goal.returns-clause-understood
returns-clause-understood c = understood c.every_message.ensures.call_again c.every_call.ensures.exact.whole_again c.every_call.ensures.known

pub returns-clause-told_apart : goal.returns-clause-told_apart
returns-clause-told_apart c = told_apart c.every_message.ensures.call_again c.every_call.ensures.exact.whole_again c.every_call.ensures.known

pub returns-clause-answered : goal.returns-clause-answered
returns-clause-answered c = is_answered c.every_message.ensures.reply_again

pub returns-clause-ruled : goal.returns-clause-ruled
returns-clause-ruled c = rule_answers
