use Rattle.std.proofs.Common.{◌<◌, ◌≤◌, sym, ap, refl, ◌∙◌, arith}
use Rattle.ff_node.specs.Nodes.{event_at}
use Rattle.ff_node.specs.Serve.{beside, last_end}
use Rattle.ff_node.proofs.ServeLemmas.{link_only, turn_broken, turn_closed, turn_done, turn_ended, turn_failed}
use Rattle.ff_node.proofs.serve.take_turn.Goals as goal

pub returns-in-Some-clause-told : goal.returns-in-Some-clause-told
returns-in-Some-clause-told g c =
    let s = g.N.Node.state c.args.node.now in
    let b = beside (g.L.Link.coming c.args.link.now) (g.L.Link.sent c.args.link.now) (g.C.Clock.coming c.args.clock.now) (g.C.Clock.moment c.args.clock.now) (g.K.Sink.held c.args.sink.now) in
    let disk = g.D.Disk.told c.args.disk.now in
    let spare = g.D.Disk.told c.args.spare.now in
    turn_ended g.N.Node.rule g.N.Node.leaves disk spare c.args.left s b c.of_outcome.result c.in-Some.outcome (sym c.in-Some.ensures) c.of_outcome.ensures (g.met.N.Node.stood s s c.args.node.now disk spare c.requires.keeps)

pub returns-in-Err-clause-told : goal.returns-in-Err-clause-told
returns-in-Err-clause-told g c =
    let s = g.N.Node.state c.args.node.now in
    let b = beside (g.L.Link.coming c.args.link.now) (g.L.Link.sent c.args.link.now) (g.C.Clock.coming c.args.clock.now) (g.C.Clock.moment c.args.clock.now) (g.K.Sink.held c.args.sink.now) in
    let after = beside (g.L.Link.coming c.next.new.self) (g.L.Link.sent c.next.new.self) (g.C.Clock.coming c.args.clock.now) (g.C.Clock.moment c.args.clock.now) (g.K.Sink.held c.args.sink.now) in
    let disk = g.D.Disk.told c.args.disk.now in
    let spare = g.D.Disk.told c.args.spare.now in
    turn_failed g.N.Node.rule g.N.Node.leaves disk spare c.args.left s b after c.of_link.result c.in-Err.failed c.requires.left (sym c.in_default.ensures) c.of_link.ensures c.in-Err.ensures.told
    (link_only b (g.L.Link.coming c.next.new.self) (g.L.Link.sent c.next.new.self) c.in-Err.ensures.sent) (g.met.N.Node.stood s s c.args.node.now disk spare c.requires.keeps)

pub returns-then-is_closed-clause-told : goal.returns-then-is_closed-clause-told
returns-then-is_closed-clause-told g c =
    let s = g.N.Node.state c.args.node.now in
    let b = beside (g.L.Link.coming c.args.link.now) (g.L.Link.sent c.args.link.now) (g.C.Clock.coming c.args.clock.now) (g.C.Clock.moment c.args.clock.now) (g.K.Sink.held c.args.sink.now) in
    let after = beside (g.L.Link.coming c.next.new.self) (g.L.Link.sent c.next.new.self) (g.C.Clock.coming c.args.clock.now) (g.C.Clock.moment c.args.clock.now) (g.K.Sink.held c.args.sink.now) in
    let disk = g.D.Disk.told c.args.disk.now in
    let spare = g.D.Disk.told c.args.spare.now in
    turn_closed g.N.Node.rule g.N.Node.leaves disk spare c.args.left s b after c.of_last.result c.in-Ok.arrival c.requires.left (sym c.in_default.ensures) (c.of_last.ensures ∙ ap last_end c.is_server.ensures)
    (sym c.is_closed.ensures ∙ c.if-is_closed.true) c.in-Ok.ensures.told (link_only b (g.L.Link.coming c.next.new.self) (g.L.Link.sent c.next.new.self) c.in-Ok.ensures.sent) (g.met.N.Node.stood s s c.args.node.now disk spare c.requires.keeps)

pub returns-in-Ok-take_together-clause-told : goal.returns-in-Ok-take_together-clause-told
returns-in-Ok-take_together-clause-told g c =
    let s = g.N.Node.state c.args.node.now in
    let b = beside (g.L.Link.coming c.args.link.now) (g.L.Link.sent c.args.link.now) (g.C.Clock.coming c.args.clock.now) (g.C.Clock.moment c.args.clock.now) (g.K.Sink.held c.args.sink.now) in
    let b1 = beside (g.L.Link.coming c.next.new.self) (g.L.Link.sent c.next.new.self) (g.C.Clock.coming c.now-moment.new.self) (g.C.Clock.moment c.now-moment.new.self) (g.K.Sink.held c.args.sink.now) in
    let after = beside (g.L.Link.coming c.take_together.new.link) (g.L.Link.sent c.take_together.new.link) (g.C.Clock.coming c.take_together.new.clock) (g.C.Clock.moment c.take_together.new.clock) (g.K.Sink.held c.take_together.new.sink) in
    let e = event_at c.now-moment.result c.in-Ok.arrival in
    let few : c.min-more.result < c.args.left = omega (arith, c.min-more.ensures, c.requires.left) in
    turn_done g.N.Node.rule _ s e c.min-more.result c.args.left b b1 after (g.N.Node.state c.take_together.new.node) (sym c.in_default.ensures) (sym c.is_closed.ensures ∙ c.if-is_closed.false) c.in-Ok.ensures.told
    (c.now-moment.ensures.rises, c.now-moment.ensures.told, c.now-moment.ensures.kept) c.in-Ok.ensures.sent refl c.in-Ok-take_together.taken few c.in-Ok-take_together.ensures.does

pub returns-in-Err-take_together-clause-told : goal.returns-in-Err-take_together-clause-told
returns-in-Err-take_together-clause-told g c =
    let s = g.N.Node.state c.args.node.now in
    let b = beside (g.L.Link.coming c.args.link.now) (g.L.Link.sent c.args.link.now) (g.C.Clock.coming c.args.clock.now) (g.C.Clock.moment c.args.clock.now) (g.K.Sink.held c.args.sink.now) in
    let b1 = beside (g.L.Link.coming c.next.new.self) (g.L.Link.sent c.next.new.self) (g.C.Clock.coming c.now-moment.new.self) (g.C.Clock.moment c.now-moment.new.self) (g.K.Sink.held c.args.sink.now) in
    let after = beside (g.L.Link.coming c.take_together.new.link) (g.L.Link.sent c.take_together.new.link) (g.C.Clock.coming c.take_together.new.clock) (g.C.Clock.moment c.take_together.new.clock) (g.K.Sink.held c.take_together.new.sink) in
    let e = event_at c.now-moment.result c.in-Ok.arrival in
    let few : c.min-more.result < c.args.left = omega (arith, c.min-more.ensures, c.requires.left) in
    let most : c.min-more.result ≤ g.N.Node.rule.more_at_once = omega (arith, c.min-more.ensures, c.more_at_once.ensures) in
    turn_broken g.N.Node.rule _ s e c.min-more.result c.args.left b b1 after (g.N.Node.state c.take_together.new.node) (sym c.in_default.ensures) (sym c.is_closed.ensures ∙ c.if-is_closed.false) c.in-Ok.ensures.told
    (c.now-moment.ensures.rises, c.now-moment.ensures.told, c.now-moment.ensures.kept) c.in-Ok.ensures.sent refl g.N.Node.leaves (g.D.Disk.told c.take_together.new.disk) (g.D.Disk.told c.take_together.new.spare) c.of_event.result
    c.in-Err-take_together.fault few most c.of_event.ensures c.in-Err-take_together.ensures.does (λ broken left. left c.requires.keeps)
