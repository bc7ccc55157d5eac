use Rattle.std.proofs.Common.{rules}
use Rattle.std.specs.Vec.Iter.{into_iter_items}
use Rattle.ff_node.proofs.ServeLemmas.{stopped, sends_err}
use Rattle.ff_node.proofs.serve.send_all.Goals as goal

pub returns-in_err-send-clause-sent : goal.returns-in_err-send-clause-sent
returns-in_err-send-clause-sent g c =
    stopped (g.L.Link.sent c.args.link.now) (g.L.Link.sent c.loop-to.link) (g.L.Link.sent c.send.new.self) c.args.records.items c.loop-to.yielded (into_iter_items c.next.new.self) (c.in-Some.to, c.in-Some.bytes) c.from_residual.result
    c.from_residual.ensures.0 (search rules) c.loop-to.invariant.0 (sends_err (g.L.Link.sent c.loop-to.link) c.in-Some.to c.in-Some.bytes c.in_err-send.field-0.0 (g.L.Link.sent c.send.new.self) c.in_err-send.ensures.told)
