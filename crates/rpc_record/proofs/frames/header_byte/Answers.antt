use Rattle.std.proofs.Common.{◌∙◌, ℕ, arith, ap, sym}
use Rattle.rpc_record.specs.Frames.{Front}
use Rattle.rpc_record.specs.FramesView.{front_behind, resume}
use Rattle.rpc_record.proofs.FrameSteps.{byte_more, byte_last}
use Rattle.rpc_record.proofs.frames.header_byte.Goals as goal

pub returns-then-count-lt3-clause-steps : goal.returns-then-count-lt3-clause-steps
returns-then-count-lt3-clause-steps c = λ before size. byte_more c.args.headers before c.args.bytes c.args.count c.args.byte (omega (arith, c.if-count-lt3.true, c.requires.four))

pub returns-else-count-lt3-clause-steps : goal.returns-else-count-lt3-clause-steps
returns-else-count-lt3-clause-steps c = λ before size more.
    let front = c.behind_header.ensures.front before size in
    byte_last c.args.headers before c.args.bytes c.args.count c.args.byte c.requires.four (omega (arith, c.if-count-lt3.false, c.requires.count)) more
    ∙ ap (λ (w : ℕ). resume (front_behind before c.args.headers w) more) (sym c.from_be_bytes.ensures)
    ∙ ap (λ (f : Front). resume f more) (sym front)
