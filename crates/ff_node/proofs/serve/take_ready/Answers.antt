use Rattle.std.proofs.Common.{Some, Option, List, refl, sym, subst, ◌∙◌, arith}
use Rattle.node_link.specs.declared.link.Arrival.{Arrival}
use Rattle.node_link.specs.Link.{GivesReady}
use Rattle.ff_node.specs.Serve.{beside}
use Rattle.ff_node.proofs.ServeLemmas.{in_part, takes_in_part, takes_more, takes_none}
use Rattle.ff_node.proofs.serve.take_ready.Goals as goal

pub loop-taken-init : goal.loop-taken-init
loop-taken-init g c =
    let b = beside (g.L.Link.coming c.args.link.now) (g.L.Link.sent c.args.link.now) (g.C.Clock.coming c.args.clock.now) (g.C.Clock.moment c.args.clock.now) (g.K.Sink.held c.args.sink.now) in
    (takes_none g.N.Node.rule (g.N.Node.state c.args.node.now) b c.args.out.now.sends.items, omega arith, c.requires, λ settled kept. kept, refl, refl, refl, refl)

pub returns-in_err-take_event-clause-takes : goal.returns-in_err-take_event-clause-takes
returns-in_err-take_event-clause-takes g c =
    let w = c.loop-taken in
    let s = g.N.Node.state c.args.node.now in
    let b = beside (g.L.Link.coming c.args.link.now) (g.L.Link.sent c.args.link.now) (g.C.Clock.coming c.args.clock.now) (g.C.Clock.moment c.args.clock.now) (g.K.Sink.held c.args.sink.now) in
    let b1 = beside (g.L.Link.coming w.link) (g.L.Link.sent w.link) (g.C.Clock.coming w.clock) (g.C.Clock.moment w.clock) (g.K.Sink.held w.sink) in
    let b2 = beside (g.L.Link.coming c.take_event.new.link) (g.L.Link.sent c.take_event.new.link) (g.C.Clock.coming c.now-moment.new.self) (g.C.Clock.moment c.now-moment.new.self) (g.K.Sink.held c.take_event.new.sink) in
    let gives = subst (λ (l : Option (List Arrival)). GivesReady (g.L.Link.coming w.link) (Some (c.in-Some.from, c.in-Some.bytes)) l) (sym c.in_err-take_event.ensures.coming) c.in-Some.ensures.told in
    in_part g.N.Node.rule s b c.args.out.now.sends.items c.args.most c.from_residual.result (g.N.Node.state c.take_event.new.node) b2 c.take_event.new.out.sends.items c.from_residual.ensures.0
    (takes_in_part g.N.Node.rule s b c.args.out.now.sends.items w.taken (g.N.Node.state w.node) b1 w.out.sends.items w.invariant.0 c.in-Some.from c.in-Some.bytes c.now-moment.result b2 (c.takes_more.ensures c.if-takes_more.true) gives
    (c.now-moment.ensures.rises, c.now-moment.ensures.told, c.now-moment.ensures.kept) (c.in_err-take_event.ensures.sent ∙ c.in-Some.ensures.sent) c.args.most c.loop-taken-test.true c.in_err-take_event.ensures.text)

pub loop-taken-preserved : goal.loop-taken-preserved
loop-taken-preserved g c =
    let w = c.loop-taken in
    let s = g.N.Node.state c.args.node.now in
    let b = beside (g.L.Link.coming c.args.link.now) (g.L.Link.sent c.args.link.now) (g.C.Clock.coming c.args.clock.now) (g.C.Clock.moment c.args.clock.now) (g.K.Sink.held c.args.sink.now) in
    let b1 = beside (g.L.Link.coming w.link) (g.L.Link.sent w.link) (g.C.Clock.coming w.clock) (g.C.Clock.moment w.clock) (g.K.Sink.held w.sink) in
    let b2 = beside (g.L.Link.coming c.take_event.new.link) (g.L.Link.sent c.take_event.new.link) (g.C.Clock.coming c.now-moment.new.self) (g.C.Clock.moment c.now-moment.new.self) (g.K.Sink.held c.take_event.new.sink) in
    let gives = subst (λ (l : Option (List Arrival)). GivesReady (g.L.Link.coming w.link) (Some (c.in-Some.from, c.in-Some.bytes)) l) (sym c.in_ok-take_event.ensures.coming) c.in-Some.ensures.told in (
      takes_more g.N.Node.rule s b c.args.out.now.sends.items w.taken (g.N.Node.state w.node) b1 w.out.sends.items c.loop-taken.invariant.0 c.in-Some.from c.in-Some.bytes c.now-moment.result b2 (c.takes_more.ensures c.if-takes_more.true) gives
          (c.now-moment.ensures.rises, c.now-moment.ensures.told, c.now-moment.ensures.kept) (c.in_ok-take_event.ensures.sent ∙ c.in-Some.ensures.sent) (g.N.Node.state c.take_event.new.node) c.take_event.new.out.sends.items c.in_ok-take_event.ensures.state c.in_ok-take_event.ensures.sends c.in_ok-take_event.ensures.text,
      omega (arith, c.loop-taken-test.true),
      c.in_ok-take_event.ensures.usable,
      λ settled kept. c.in_ok-take_event.ensures.keeps settled (c.loop-taken.invariant.3 settled kept),
      c.in_ok-take_event.ensures.opened ∙ c.in-Some.ensures.opened ∙ c.loop-taken.invariant.4,
      c.in_ok-take_event.ensures.faults ∙ c.in-Some.ensures.faults ∙ c.loop-taken.invariant.5,
      c.in_ok-take_event.ensures.writes ∙ c.loop-taken.invariant.6,
      c.in_ok-take_event.ensures.disk_faults ∙ c.loop-taken.invariant.7,
    )
