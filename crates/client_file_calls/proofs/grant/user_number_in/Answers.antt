use Rattle.client_file_calls.proofs.Numbers.{number_is}
use Rattle.client_file_calls.proofs.grant.user_number_in.Goals as goal

pub returns : goal.returns
returns c = number_is c.args.text.now c.user_number.result c.user_number.ensures
