use Rattle.std.proofs.Common.{◌+◌, ◌≤◌, length, ap, ◌∙◌, arith}
use Rattle.file_pages.specs.Pages.{byte_at, first_bytes}
use Rattle.file_pages.specs.Steps.{end_touched}
use Rattle.file_pages.proofs.ReadLemmas.{all_read}
use Rattle.file_pages.proofs.read.read_pages.Goals as goal

pub returns : goal.returns
returns c =
    let i = c.loop-number.invariant in
    let same = i.long in
    let end = c.end_of-number-end.ensures in
    let behind : end_touched c.args.at (length c.loop-number.piece) ≤ c.loop-number.number = rw same (omega (arith, end, c.loop-number-test.false)) in
    all_read c.args.pages.now c.args.at c.loop-number.number c.loop-number.piece behind i.bytes
    ∙ ap (first_bytes (λ k. byte_at c.args.pages.now (c.args.at + k))) same
