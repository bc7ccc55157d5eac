use Rattle.std.proofs.Common.{◌≡◌, ◌*◌, ◌%◌, length, sym, ap, ◌∙◌, arith}
use Rattle.std.proofs.lemmas.List.{same_lists, get_or_default}
use Rattle.ff_script.proofs.Spelling.{length_of_pairs, is_ok-from_digits}
use Rattle.ff_script.proofs.Pairs.{pairs, pairs_are, pair_at}
use Rattle.ff_script.proofs.digits.put_bytes.Goals as goal

pub returns : goal.returns
returns c =
    let digits = c.args.digits.now in
    let bytes = c.loop-place.bytes in
    let all : c.loop-place.place ≡ length c.args.bytes.now = omega (arith, c.loop-place.auto.place-end, c.loop-place-test.false) in
    let even : length digits % 2 ≡ 0 = omega (arith, c.requires.pairs) in
    let spelled = pairs_are digits even c.requires.digits in
    let twice : length digits ≡ 2 * length (pairs digits) = length_of_pairs digits (is_ok-from_digits digits even c.requires.digits) ∙ ap (λ bs. 2 * length bs) spelled in
    let size : length bytes ≡ length (pairs digits) = omega (arith, c.loop-place.invariant.size, c.requires.pairs, twice) in
    same_lists bytes (pairs digits) size (λ j d within.
    let done = c.loop-place.invariant.done j (omega (arith, within, all, c.loop-place.invariant.size)) in
    let there = pair_at digits j (omega (arith, within, size, twice)) in
    get_or_default bytes j d 0 within ∙ done ∙ sym there ∙ get_or_default (pairs digits) j 0 d (omega (arith, within, size))) ∙ sym spelled
