use Rattle.ff_xdr.specs.Form.{word}
use Rattle.data_file.proofs.Parts.{front_stands, spelled, if_err}
use Rattle.data_file.proofs.part.FilePart.spell.Goals as goal

pub returns-in_err-grow-clause-err : goal.returns-in_err-grow-clause-err
returns-in_err-grow-clause-err c =
    let left = rw (c.in_ok-number32.ensures, c.reserve.ensures) at c.in_err-grow.ensures.err in
    if_err c.from_residual-in_err-grow.result (front_stands c.args.out.now (word c.count-count.result) c.grow.new.out left)

pub returns-clause-ok : goal.returns-clause-ok
returns-clause-ok c =
    let numbered = rw (c.count-count.ensures, c.reserve.ensures) at c.in_ok-number32.ensures in
    let zeros = rw (c.count-count.ensures) at c.zeros.ensures in
    spelled c.args.out.now c.number32.new.self c.grow.new.out c.raw.new.self c.args.self.now c.zeros.result.now c.raw.result numbered c.in_ok-grow.ensures.ok zeros c.raw.ensures
