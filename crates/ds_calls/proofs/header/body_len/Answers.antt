use Rattle.std.proofs.Common.{sym, ap, ◌∙◌, ◌+◌, ℕ}
use Rattle.ds_calls.proofs.CallHeaders.{body_length}
use Rattle.ds_calls.proofs.header.body_len.Goals as goal

pub returns : goal.returns
returns c = ap (λ (n : ℕ). 20 + n) c.next_multiple_of.ensures.value ∙ sym (body_length c.args.machine.now c.args.user.0)
