use Rattle.std.proofs.Common.{◌<◌, length, Some, [], refl, sym, ap, ◌∙◌}
use Rattle.std.specs.Result.{result_unwrap_or}
use Rattle.ff_script.proofs.Spelling.{decode_of-nil, some_text, bytes_of_digits-dash, bytes_of_digits-pairs}
use Rattle.ff_script.proofs.digits.Digits.read.Goals as goal

pub invariant_of-result : goal.invariant_of-result
invariant_of-result c = (refl, refl)

pub returns-then-eq : goal.returns-then-eq
returns-then-eq c =
    ap (λ r. Some (result_unwrap_or r [])) decode_of-nil
    ∙ sym (bytes_of_digits-dash c.args.text.now (rw c.as_slice.ensures at c.if-eq.ensures))

pub invariant_of-result-2 : goal.invariant_of-result-2
invariant_of-result-2 c = (c.if-text-ne0.false, sym c.if-not-are_digits.ensures)

pub returns : goal.returns
returns c =
    let some : 0 < length c.args.text.now = some_text _ c.if-is_empty.ensures in
    sym (bytes_of_digits-pairs c.args.text.now some (sym (rw c.as_slice.ensures at c.if-eq.ensures)) c.if-text-ne0.false (sym c.if-not-are_digits.ensures))
