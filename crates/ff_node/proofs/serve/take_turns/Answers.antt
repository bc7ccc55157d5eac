use Rattle.std.proofs.Common.{◌≡◌, ℕ, refl, subst, ◌∙◌, arith}
use Rattle.ff_node.specs.Serve.{NodeServesOn, beside}
use Rattle.ff_node.proofs.ServeLemmas.{served_more, served_start, serves_then, turns_end}
use Rattle.ff_node.proofs.serve.take_turns.Goals as goal

pub loop-left-init : goal.loop-left-init
loop-left-init g c =
    let b = beside (g.L.Link.coming c.args.link.now) (g.L.Link.sent c.args.link.now) (g.C.Clock.coming c.args.clock.now) (g.C.Clock.moment c.args.clock.now) (g.K.Sink.held c.args.sink.now) in
    (served_start g.N.Node.rule (g.N.Node.state c.args.node.now) b c.args.turns, c.requires.usable, c.requires.keeps, refl, refl, refl, refl)

pub loop-left-preserved : goal.loop-left-preserved
loop-left-preserved g c =
    let w = c.loop-left in
    let s = g.N.Node.state c.args.node.now in
    let b = beside (g.L.Link.coming c.args.link.now) (g.L.Link.sent c.args.link.now) (g.C.Clock.coming c.args.clock.now) (g.C.Clock.moment c.args.clock.now) (g.K.Sink.held c.args.sink.now) in
    let now = beside (g.L.Link.coming w.link) (g.L.Link.sent w.link) (g.C.Clock.coming w.clock) (g.C.Clock.moment w.clock) (g.K.Sink.held w.sink) in
    let after = beside (g.L.Link.coming c.take_turn.new.link) (g.L.Link.sent c.take_turn.new.link) (g.C.Clock.coming c.take_turn.new.clock) (g.C.Clock.moment c.take_turn.new.clock) (g.K.Sink.held c.take_turn.new.sink) in (
      served_more g.N.Node.rule s (g.N.Node.state w.node) (g.N.Node.state c.take_turn.new.node) b now after c.args.turns w.left c.in-Ok.taken w.invariant.0.0 w.invariant.0.1 c.in-Ok.ensures.told.0 c.in-Ok.ensures.told.1 c.in-Ok.ensures.told.3,
      c.in-Ok.ensures.usable,
      c.in-Ok.ensures.keeps,
      c.in-Ok.ensures.opened ∙ c.loop-left.invariant.3,
      c.in-Ok.ensures.faults ∙ c.loop-left.invariant.4,
      c.in-Ok.ensures.writes ∙ c.loop-left.invariant.5,
      c.in-Ok.ensures.disk_faults ∙ c.loop-left.invariant.6,
    )

pub returns-in-Err-clause-told : goal.returns-in-Err-clause-told
returns-in-Err-clause-told g c =
    let w = c.loop-left in
    let s = g.N.Node.state c.args.node.now in
    let b = beside (g.L.Link.coming c.args.link.now) (g.L.Link.sent c.args.link.now) (g.C.Clock.coming c.args.clock.now) (g.C.Clock.moment c.args.clock.now) (g.K.Sink.held c.args.sink.now) in
    let now = beside (g.L.Link.coming w.link) (g.L.Link.sent w.link) (g.C.Clock.coming w.clock) (g.C.Clock.moment w.clock) (g.K.Sink.held w.sink) in
    let after = beside (g.L.Link.coming c.take_turn.new.link) (g.L.Link.sent c.take_turn.new.link) (g.C.Clock.coming c.take_turn.new.clock) (g.C.Clock.moment c.take_turn.new.clock) (g.K.Sink.held c.take_turn.new.sink) in
    serves_then g.N.Node.rule g.N.Node.leaves (g.D.Disk.told c.take_turn.new.disk) (g.D.Disk.told c.take_turn.new.spare) s (g.N.Node.state w.node) (g.N.Node.state c.take_turn.new.node) b now after c.args.turns w.left c.in-Err.end
    w.invariant.0.0 w.invariant.0.1 c.in-Err.ensures.told

pub returns-clause-told : goal.returns-clause-told
returns-clause-told g c =
    let w = c.loop-left in
    let none : 0 ≡ w.left = omega (arith, c.loop-left-test.false) in
    let s = g.N.Node.state c.args.node.now in
    let mid = g.N.Node.state w.node in
    let b = beside (g.L.Link.coming c.args.link.now) (g.L.Link.sent c.args.link.now) (g.C.Clock.coming c.args.clock.now) (g.C.Clock.moment c.args.clock.now) (g.K.Sink.held c.args.sink.now) in
    let now = beside (g.L.Link.coming w.link) (g.L.Link.sent w.link) (g.C.Clock.coming w.clock) (g.C.Clock.moment w.clock) (g.K.Sink.held w.sink) in
    let disk = g.D.Disk.told w.disk in
    let spare = g.D.Disk.told w.spare in
    serves_then g.N.Node.rule g.N.Node.leaves disk spare s mid mid b now now c.args.turns w.left c.end_after_turns.result w.invariant.0.0 w.invariant.0.1
    (subst (λ (n : ℕ). NodeServesOn g.N.Node.leaves g.N.Node.rule mid n now c.end_after_turns.result mid now disk spare) none
    (turns_end g.N.Node.rule g.N.Node.leaves disk spare mid now c.end_after_turns.result (g.N.Node.rule.outcome mid) refl c.end_after_turns.ensures (g.met.N.Node.stood mid mid w.node disk spare w.invariant.2)))
