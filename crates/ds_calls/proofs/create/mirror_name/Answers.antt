use Rattle.std.proofs.Common.{◌≡◌, ◌+◌, ◌-◌, ◌≤◌, length, drop, arith, ◌∙◌, append-nil}
use Rattle.std.specs.Fmt.{decimal}
use Rattle.std.proofs.Math.ListN.{drop_of_length-le}
use Rattle.ds_calls.proofs.MirrorNames.{twenty_digits, named_from}
use Rattle.ds_calls.proofs.create.mirror_name.Goals as goal

pub write_digits-digits-requires : goal.write_digits-digits-requires
write_digits-digits-requires c = (omega (arith, twenty_digits c.args.number c.ranges.number.fits), omega (arith, c.fits-name))

pub overflow_sub-name : goal.overflow_sub-name
overflow_sub-name c = omega (arith, twenty_digits c.args.number c.ranges.number.fits, c.write_digits-digits.ensures.start)

pub overflow_sub-result : goal.overflow_sub-result
overflow_sub-result c = omega (arith, twenty_digits c.args.number c.ranges.number.fits, c.write_digits-digits.ensures.start)

pub returns-clause-exact : goal.returns-clause-exact
returns-clause-exact c =
    let start = c.write_digits-digits.result - 1 in
    let few = twenty_digits c.args.number c.ranges.number.fits in
    let next : start + 1 ≡ c.write_digits-digits.result = omega (arith, few, c.write_digits-digits.ensures.start) in
    let short : length c.args.name.now ≤ 21 = omega (arith, c.fits-name) in
    let none = drop_of_length-le c.args.name.now short in
    let stands : drop (start + 1) c.write_digits-digits.new.buf ≡ decimal c.args.number = rw next (c.write_digits-digits.ensures.written ∙ rw none (append-nil (decimal c.args.number))) in
    let size : length c.write_digits-digits.new.buf ≡ 21 = omega (arith, c.fits-name, c.write_digits-digits.auto.buf) in
    let whole : start + 1 + length (decimal c.args.number) ≡ 21 = omega (arith, next, c.write_digits-digits.ensures.start) in
    named_from c.write_digits-digits.new.buf start (decimal c.args.number) size whole stands
