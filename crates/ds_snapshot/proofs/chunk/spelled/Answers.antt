use Rattle.std.proofs.lemmas.Result.{IfOk-weaker}
use Rattle.ds_log.specs.PlainBodies.{plain_body}
use Rattle.ds_snapshot.proofs.Written.{framed_body, framed_text}
use Rattle.ds_snapshot.proofs.chunk.spelled.Goals as goal

pub returns-clause-read : goal.returns-clause-read
returns-clause-read c = IfOk-weaker c.framed.result _ _ (λ gated is. framed_body (plain_body c.args.body.now) c.in_ok-out.out c.write.new.out gated c.requires.fits c.in_ok-out.ensures.0 c.in_ok-write.ensures is) c.framed.ensures

pub returns-clause-text : goal.returns-clause-text
returns-clause-text c = IfOk-weaker c.framed.result _ _ (λ gated is. framed_text (plain_body c.args.body.now) c.in_ok-out.out c.write.new.out gated c.in_ok-out.ensures.0 c.in_ok-write.ensures is) c.framed.ensures
