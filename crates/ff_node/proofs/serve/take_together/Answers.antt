use Rattle.std.proofs.Common.{◌++◌, refl, sym, ap, subst, ◌∙◌}
use Rattle.ff_node.specs.Nodes.{SentRecords, event_at}
use Rattle.ff_node.specs.Serve.{beside}
use Rattle.ff_node.proofs.ServeLemmas.{all_done, first_failed, later_failed, sent_in_part, unsettled}
use Rattle.ff_node.proofs.serve.take_together.Goals as goal

pub returns-in_err-take_event-clause-does : goal.returns-in_err-take_event-clause-does
returns-in_err-take_event-clause-does g c =
    let s = g.N.Node.state c.args.node.now in
    let e = event_at c.args.moment c.args.arrival in
    let b = beside (g.L.Link.coming c.args.link.now) (g.L.Link.sent c.args.link.now) (g.C.Clock.coming c.args.clock.now) (g.C.Clock.moment c.args.clock.now) (g.K.Sink.held c.args.sink.now) in
    let last = beside (g.L.Link.coming c.take_event.new.link) (g.L.Link.sent c.take_event.new.link) (g.C.Clock.coming c.args.clock.now) (g.C.Clock.moment c.args.clock.now) (g.K.Sink.held c.take_event.new.sink) in
    let failed = c.in_err-take_event.ensures in
    first_failed g.N.Node.rule _ s e c.args.more b (g.N.Node.state c.take_event.new.node) last c.from_residual.result c.from_residual.ensures.0 failed.coming refl refl failed.sent failed.text
    (λ kept. failed.keeps s kept (g.N.Node.rule.step s e).state)

pub returns-in_err-taken-clause-does : goal.returns-in_err-taken-clause-does
returns-in_err-taken-clause-does g c =
    let s = g.N.Node.state c.args.node.now in
    let e = event_at c.args.moment c.args.arrival in
    let b = beside (g.L.Link.coming c.args.link.now) (g.L.Link.sent c.args.link.now) (g.C.Clock.coming c.args.clock.now) (g.C.Clock.moment c.args.clock.now) (g.K.Sink.held c.args.sink.now) in
    let b1 = beside (g.L.Link.coming c.take_event.new.link) (g.L.Link.sent c.take_event.new.link) (g.C.Clock.coming c.args.clock.now) (g.C.Clock.moment c.args.clock.now) (g.K.Sink.held c.take_event.new.sink) in
    let last = beside (g.L.Link.coming c.take_ready.new.link) (g.L.Link.sent c.take_ready.new.link) (g.C.Clock.coming c.take_ready.new.clock) (g.C.Clock.moment c.take_ready.new.clock) (g.K.Sink.held c.take_ready.new.sink) in
    let failed = c.in_err-taken.ensures in
    later_failed g.N.Node.rule _ s e c.args.more b (g.N.Node.state c.take_ready.new.node) last c.from_residual-in_err-taken.result (g.N.Node.state c.take_event.new.node) b1 c.from_residual-in_err-taken.ensures.0
    c.in_ok-take_event.ensures.state c.in_ok-take_event.ensures.coming refl refl c.in_ok-take_event.ensures.sent c.in_ok-take_event.ensures.text failed.takes (λ broken kept. failed.keeps s (c.in_ok-take_event.ensures.keeps s kept) broken)

pub returns-in-Err-clause-does : goal.returns-in-Err-clause-does
returns-in-Err-clause-does g c =
    let s = g.N.Node.state c.args.node.now in
    let e = event_at c.args.moment c.args.arrival in
    let b = beside (g.L.Link.coming c.args.link.now) (g.L.Link.sent c.args.link.now) (g.C.Clock.coming c.args.clock.now) (g.C.Clock.moment c.args.clock.now) (g.K.Sink.held c.args.sink.now) in
    let b1 = beside (g.L.Link.coming c.take_event.new.link) (g.L.Link.sent c.take_event.new.link) (g.C.Clock.coming c.args.clock.now) (g.C.Clock.moment c.args.clock.now) (g.K.Sink.held c.take_event.new.sink) in
    let b2 = beside (g.L.Link.coming c.take_ready.new.link) (g.L.Link.sent c.take_ready.new.link) (g.C.Clock.coming c.take_ready.new.clock) (g.C.Clock.moment c.take_ready.new.clock) (g.K.Sink.held c.take_ready.new.sink) in
    let more = c.in_ok-taken.ensures in
    unsettled g.N.Node.rule _ s e c.args.more b (g.N.Node.state c.settle.new.self) b2 (g.N.Node.state c.take_event.new.node) b1 b2 c.take_event.new.out.sends.items c.in_ok-taken.taken (g.N.Node.state c.take_ready.new.node)
    c.take_ready.new.out.sends.items c.in_ok-take_event.ensures.state c.in_ok-take_event.ensures.coming refl refl c.in_ok-take_event.ensures.sent c.in_ok-take_event.ensures.text (c.in_ok-take_event.ensures.sends ∙ ap (λ (l : SentRecords). l ++ (g.N.Node.rule.step s e).sends) c.new-out.ensures.sends) more.takes.0 more.takes.1 refl refl refl refl
    c.of_disk.result refl (λ kept. c.in-Err.ensures.broken s (more.keeps s (c.in_ok-take_event.ensures.keeps s kept)))

pub returns-then-is_err-clause-does : goal.returns-then-is_err-clause-does
returns-then-is_err-clause-does g c =
    let s = g.N.Node.state c.args.node.now in
    let e = event_at c.args.moment c.args.arrival in
    let b = beside (g.L.Link.coming c.args.link.now) (g.L.Link.sent c.args.link.now) (g.C.Clock.coming c.args.clock.now) (g.C.Clock.moment c.args.clock.now) (g.K.Sink.held c.args.sink.now) in
    let b1 = beside (g.L.Link.coming c.take_event.new.link) (g.L.Link.sent c.take_event.new.link) (g.C.Clock.coming c.args.clock.now) (g.C.Clock.moment c.args.clock.now) (g.K.Sink.held c.take_event.new.sink) in
    let b2 = beside (g.L.Link.coming c.take_ready.new.link) (g.L.Link.sent c.take_ready.new.link) (g.C.Clock.coming c.take_ready.new.clock) (g.C.Clock.moment c.take_ready.new.clock) (g.K.Sink.held c.take_ready.new.sink) in
    let last = beside (g.L.Link.coming c.send_all.new.link) (g.L.Link.sent c.send_all.new.link) (g.C.Clock.coming c.take_ready.new.clock) (g.C.Clock.moment c.take_ready.new.clock) (g.K.Sink.held c.take_ready.new.sink) in
    let more = c.in_ok-taken.ensures in
    let settled = g.N.Node.state c.settle.new.self in
    let disk = g.D.Disk.told c.settle.new.disk in
    let spare = g.D.Disk.told c.settle.new.spare in
    sent_in_part g.N.Node.rule _ s e c.args.more b settled last (g.N.Node.state c.take_event.new.node) b1 b2 c.take_event.new.out.sends.items c.in_ok-taken.taken (g.N.Node.state c.take_ready.new.node)
    c.take_ready.new.out.sends.items c.in_ok-take_event.ensures.state c.in_ok-take_event.ensures.coming refl refl c.in_ok-take_event.ensures.sent c.in_ok-take_event.ensures.text (c.in_ok-take_event.ensures.sends ∙ ap (λ (l : SentRecords). l ++ (g.N.Node.rule.step s e).sends) c.new-out.ensures.sends) more.takes.0 more.takes.1
    c.send_all.ensures.coming refl refl refl c.send_all.result (sym c.is_err.ensures.value ∙ c.if-is_err.true) c.send_all.ensures.sent
    (λ kept. subst (λ (x : g.N.Node.State). g.N.Node.leaves s x disk spare) c.in_default.ensures.state
    (g.met.N.Node.turned settled s disk spare (g.met.N.Node.stood settled s c.settle.new.self disk spare (c.in_default.ensures.keeps s (more.keeps s (c.in_ok-take_event.ensures.keeps s kept))))))

pub returns-clause-does : goal.returns-clause-does
returns-clause-does g c =
    let s = g.N.Node.state c.args.node.now in
    let e = event_at c.args.moment c.args.arrival in
    let b = beside (g.L.Link.coming c.args.link.now) (g.L.Link.sent c.args.link.now) (g.C.Clock.coming c.args.clock.now) (g.C.Clock.moment c.args.clock.now) (g.K.Sink.held c.args.sink.now) in
    let b1 = beside (g.L.Link.coming c.take_event.new.link) (g.L.Link.sent c.take_event.new.link) (g.C.Clock.coming c.args.clock.now) (g.C.Clock.moment c.args.clock.now) (g.K.Sink.held c.take_event.new.sink) in
    let b2 = beside (g.L.Link.coming c.take_ready.new.link) (g.L.Link.sent c.take_ready.new.link) (g.C.Clock.coming c.take_ready.new.clock) (g.C.Clock.moment c.take_ready.new.clock) (g.K.Sink.held c.take_ready.new.sink) in
    let last = beside (g.L.Link.coming c.send_all.new.link) (g.L.Link.sent c.send_all.new.link) (g.C.Clock.coming c.take_ready.new.clock) (g.C.Clock.moment c.take_ready.new.clock) (g.K.Sink.held c.take_ready.new.sink) in
    let more = c.in_ok-taken.ensures in
    let settled = g.N.Node.state c.settle.new.self in
    all_done g.N.Node.rule _ s e c.args.more b settled last (g.N.Node.state c.take_event.new.node) b1 b2 c.take_event.new.out.sends.items c.in_ok-taken.taken (g.N.Node.state c.take_ready.new.node)
    c.take_ready.new.out.sends.items c.in_ok-take_event.ensures.state c.in_ok-take_event.ensures.coming refl refl c.in_ok-take_event.ensures.sent c.in_ok-take_event.ensures.text (c.in_ok-take_event.ensures.sends ∙ ap (λ (l : SentRecords). l ++ (g.N.Node.rule.step s e).sends) c.new-out.ensures.sends) more.takes.0 more.takes.1
    c.send_all.ensures.coming refl refl refl c.send_all.result (sym c.is_err.ensures.value ∙ c.if-is_err.false) c.send_all.ensures.sent c.in_default.ensures.state _ refl
