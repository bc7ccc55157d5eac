use Rattle.gate_log.proofs.BodyLemmas.{body_again, has_body}
use Rattle.gate_log.proofs.gated.Gated.new.Goals as goal

pub invariant_of-result : goal.invariant_of-result
invariant_of-result c = has_body c.in_ok-bytes.bytes.items c.args.body.now c.in_ok-bytes.ensures c.requires

pub returns : goal.returns
returns c = body_again c.in_ok-bytes.bytes.items c.args.body.now c.in_ok-bytes.ensures
