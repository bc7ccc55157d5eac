use Rattle.std.proofs.Common.{◌≡◌, ◌≢◌, ℕ, ◌*◌, ◌+◌, length, get_or, Some, sym, ap, ◌∙◌, arith}
use Rattle.ff_script.specs.Digits.{bytes_of_pairs, one_byte}
use Rattle.ff_script.proofs.Spelling.{length_of_pairs, is_ok-from_digits}
use Rattle.ff_script.proofs.Pairs.{value, pairs_are, not_one, one_pair, value_is}
use Rattle.ff_script.proofs.digits.Digits.only.Goals as goal

pub returns-then-self-ne2 : goal.returns-then-self-ne2
returns-then-self-ne2 c =
    let twice = length_of_pairs c.self.inside.digits.now (is_ok-from_digits c.self.inside.digits.now c.self.invariant.0 c.self.invariant.1) in
    let seen : bytes_of_pairs c.self.inside.digits.now ≡ c.args.self.now = c.self.view_is in
    let same = ap length seen in
    let other : length c.args.self.now ≢ 1 = λ one. c.if-self-ne2.true (omega (arith, twice, same, one)) in
    sym (not_one c.args.self.now other)

pub returns : goal.returns
returns c =
    let digits = c.self.inside.digits.now in
    let seen : bytes_of_pairs digits ≡ c.args.self.now = c.self.view_is in
    let spelled = pairs_are digits c.self.invariant.0 c.self.invariant.1 in
    let one : one_byte c.args.self.now ≡ Some (value (get_or digits 0 0) * 16 + value (get_or digits 1 0)) = ap one_byte (sym seen ∙ spelled) ∙ one_pair digits c.if-self-ne2.false in
    let high : value (get_or digits 0 0) ≡ c.digit_value.result = value_is (get_or digits 0 0) _ c.digit_value.ensures.value in
    let low : value (get_or digits 1 0) ≡ c.digit_value-2.result = value_is (get_or digits 1 0) _ c.digit_value-2.ensures.value in
    sym (one ∙ ap (λ (v : ℕ). Some (v * 16 + value (get_or digits 1 0))) high ∙ ap (λ (v : ℕ). Some (c.digit_value.result * 16 + v)) low)
