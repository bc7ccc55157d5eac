use Rattle.std.proofs.Common.{◌≡◌, length, ◌==◌, ◌∙◌, lit<}
use Rattle.std.specs.List.{before_first, position_or_len}
use Rattle.device_addr.proofs.AddressLemmas.{when_none, no_dot, before_dot}
use Rattle.device_addr.proofs.net_addr.first_byte.Goals as goal

pub returns-in_err-first : goal.returns-in_err-first
returns-in_err-first c =
    let none : position_or_len (λ b. b == 46) c.args.text.now ≡ length c.args.text.now = c.in_err-first.ensures.byte (lit< tt) (λ w o f. f) in
    when_none _ _ c.from_residual.result c.from_residual.ensures (no_dot c.args.text.now none)

pub returns-in_err-byte_at : goal.returns-in_err-byte_at
returns-in_err-byte_at c =
    let cut = c.in_ok-first.ensures.byte (lit< tt) (λ w o f. f) in
    let first : c.in_ok-first.first.now ≡ before_first (λ b. b == 46) c.args.text.now = cut.0 in
    when_none _ _ c.from_residual-in_err-byte_at.result c.from_residual-in_err-byte_at.ensures
    (λ n rest small is. c.in_err-byte_at.ensures n small (first ∙ before_dot n rest c.args.text.now small is))
