use Rattle.std.proofs.Common.{◌≡◌, length, ap, arith}
use Rattle.ff_script.specs.Digits.{bytes_of_pairs}
use Rattle.ff_script.proofs.Spelling.{length_of_pairs, is_ok-from_digits}
use Rattle.ff_script.proofs.digits.Digits.len.Goals as goal

pub returns : goal.returns
returns c =
    let twice = length_of_pairs c.self.inside.digits.now (is_ok-from_digits c.self.inside.digits.now c.self.invariant.0 c.self.invariant.1) in
    let seen : bytes_of_pairs c.self.inside.digits.now ≡ c.args.self.now = c.self.view_is in
    omega (arith, ap length seen)
