use Rattle.std.proofs.Common.{sym, ◌∙◌, arith}
use Rattle.ff_xdr.proofs.Padding.{padding_at_more}
use Rattle.ff_xdr.proofs.slices.padding_end.Goals as goal

pub loop-preserved : goal.loop-preserved
loop-preserved c = (
  omega arith,
  sym (padding_at_more _ _ c.args.bytes.now c.loop.place (omega arith) (omega arith) c.if-bytes-place-ne0.false) ∙ c.loop.invariant.1,
)
