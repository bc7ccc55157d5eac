use Rattle.rpc_record.proofs.CallLaws.{call_again, call_spelled, no_call, another_version}
use Rattle.rpc_record.proofs.ReplyLaws.{reply_again, reply_spelled}
use Rattle.rpc_record.proofs.CallRefusals.{bad_call, call_short, call_stops}
use Rattle.rpc_record.proofs.ReplyRefusals.{reply_short, reply_stops}
use Rattle.rpc_record.proofs.FirstFaults.{call_least, reply_least}
use Rattle.rpc_record.proofs.laws.every_message.Goals as goal

pub returns-clause-call_again : goal.returns-clause-call_again
returns-clause-call_again c = call_again (λ form sound. (c.every_form.ensures form sound).again)

pub returns-clause-call_spelled : goal.returns-clause-call_spelled
returns-clause-call_spelled c = call_spelled (λ form sound. (c.every_form.ensures form sound).spelled)

pub returns-clause-no_call : goal.returns-clause-no_call
returns-clause-no_call c = no_call

pub returns-clause-another_version : goal.returns-clause-another_version
returns-clause-another_version c = another_version

pub returns-clause-reply_again : goal.returns-clause-reply_again
returns-clause-reply_again c = reply_again (λ form sound. (c.every_form.ensures form sound).again)

pub returns-clause-reply_spelled : goal.returns-clause-reply_spelled
returns-clause-reply_spelled c = reply_spelled (λ form sound. (c.every_form.ensures form sound).spelled)

pub returns-clause-bad_call : goal.returns-clause-bad_call
returns-clause-bad_call c = bad_call

pub returns-clause-call_short : goal.returns-clause-call_short
returns-clause-call_short c = call_short (λ form sound. (c.every_form.ensures form sound).short)

pub returns-clause-call_stops : goal.returns-clause-call_stops
returns-clause-call_stops c = call_stops (λ form sound. (c.every_form.ensures form sound).stops)

pub returns-clause-reply_short : goal.returns-clause-reply_short
returns-clause-reply_short c = reply_short (λ form sound. (c.every_form.ensures form sound).short)

pub returns-clause-reply_stops : goal.returns-clause-reply_stops
returns-clause-reply_stops c = reply_stops (λ form sound. (c.every_form.ensures form sound).stops)

pub returns-clause-call_least : goal.returns-clause-call_least
returns-clause-call_least c = call_least (λ form sound. (c.every_form.ensures form sound).spelled) (λ form sound. (c.every_form.ensures form sound).least)

pub returns-clause-reply_least : goal.returns-clause-reply_least
returns-clause-reply_least c = reply_least (λ form sound. (c.every_form.ensures form sound).spelled) (λ form sound. (c.every_form.ensures form sound).least)
