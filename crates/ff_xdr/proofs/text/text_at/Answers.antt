use Rattle.std.proofs.Common.{◌≡◌, ℕ, ◌<◌, List, length, take, drop, Ok, Err, true, sym, ap, ◌∙◌}
use Rattle.ff_xdr.specs.Reading.{may_begin_text}
use Rattle.ff_xdr.proofs.Utf8.{text_at_fixed, fixed_at_short, fixed_at_part}
use Rattle.ff_xdr.proofs.text.text_at.Goals as goal

pub returns-in_ok-end-in-Ok-clause-value : goal.returns-in_ok-end-in-Ok-clause-value
returns-in_ok-end-in-Ok-clause-value c =
    let begins : may_begin_text c.in_ok-count.count (take c.in_ok-count.count (drop c.in_ok-count.to c.args.bytes.now)) ≡ true = rw c.front.ensures at c.in-Ok.ensures.1 in
    let same : c.in_ok-end-in-Ok.field-0-0.now ≡ c.in-Ok.text.now = fixed_at_part _ _ _ _ _ c.in_ok-end-in-Ok.ensures.value ∙ sym c.front.ensures ∙ sym c.in-Ok.ensures.0 in
    text_at_fixed c.args.max c.args.bytes.now c.args.at _ _ c.in_ok-count.ensures.value begins ∙ (c.in_ok-end-in-Ok.ensures.value ∙ ap (λ (s : List ℕ). Ok (s, c.in_ok-end-in-Ok.end)) same)

pub returns-in-Err-None-clause-value : goal.returns-in-Err-None-clause-value
returns-in-Err-None-clause-value c =
    let cut = rw c.in-Err-None.field-0-is at c.in-Err-None.ensures in
    let begins : may_begin_text c.in_ok-count.count (take c.in_ok-count.count (drop c.in_ok-count.to c.args.bytes.now)) ≡ true = rw c.front.ensures at cut.1 in
    let few : length (take c.in_ok-count.count (drop c.in_ok-count.to c.args.bytes.now)) < c.in_ok-count.count = rw c.front.ensures at cut.0 in
    text_at_fixed c.args.max c.args.bytes.now c.args.at _ _ c.in_ok-count.ensures.value begins ∙ fixed_at_short _ _ _ few ∙ ap Err (sym c.short.ensures)
