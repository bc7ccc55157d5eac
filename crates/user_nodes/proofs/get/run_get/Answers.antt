use Rattle.std.proofs.Common.{refl, ◌∙◌}
use Rattle.rpc_record.specs.declared.stream.Failed.TheVariants as failed
use Rattle.ff_node.specs.declared.end.NodeEnd.TheVariants as ends
use Rattle.ff_node.specs.Serve.{beside}
use Rattle.user_nodes.proofs.RunLemmas.{get_unopened, get_served, same_beside}
use Rattle.user_nodes.proofs.get.run_get.Goals as goal

pub returns-clause-told : goal.returns-clause-told
returns-clause-told g c =
    let link = c.args.link.now in
    let ready = c.open.new.self in
    let after = c.serve_node.new.link in
    let clock = c.now-moment in
    let later = c.serve_node.new.clock in
    get_served c.args.config.now c.args.name.now (g.L.Link.opened link) (g.L.Link.coming link) (g.L.Link.sent link) (g.C.Clock.coming c.args.clock.now) (g.C.Clock.moment c.args.clock.now) (g.K.Sink.held c.args.sink.now)
    clock.result (g.C.Clock.coming clock.new.self) clock.ensures.rises clock.ensures.told
    c.in-Ok.node c.serve_node.new.node c.new-out.result.sends.items c.begin.new.out.sends.items
    (beside (g.L.Link.coming ready) (g.L.Link.sent ready) (g.C.Clock.coming clock.new.self) (g.C.Clock.moment clock.new.self) (g.K.Sink.held c.args.sink.now))
    (beside (g.L.Link.coming after) (g.L.Link.sent after) (g.C.Clock.coming later) (g.C.Clock.moment later) (g.K.Sink.held c.serve_node.new.sink))
    c.serve_node.result (g.L.Link.opened after) c.in-Ok.ensures.node c.new-out.ensures.sends c.in-Ok.ensures.sends
    (c.serve_node.ensures.opened ∙ c.in_default-open.ensures.opened)
    (same_beside (g.L.Link.coming link) (g.L.Link.coming ready) (g.L.Link.sent link) (g.L.Link.sent ready) (g.C.Clock.coming clock.new.self) clock.result (g.C.Clock.moment clock.new.self) (g.K.Sink.held c.args.sink.now)
    c.in_default-open.ensures.coming c.in_default-open.ensures.sent clock.ensures.kept)
    c.serve_node.ensures.told

pub returns-in_default-clause-told : goal.returns-in_default-clause-told
returns-in_default-clause-told g c =
    let link = c.args.link.now in
    let after = c.finish.new.self in
    let clock = c.now-moment in
    let held = g.K.Sink.held c.args.sink.now in
    get_unopened c.args.config.now c.args.name.now (g.L.Link.opened link) (g.L.Link.coming link) (g.L.Link.sent link) (g.C.Clock.coming c.args.clock.now) (g.C.Clock.moment c.args.clock.now) held
    clock.result (g.C.Clock.coming clock.new.self) clock.ensures.rises clock.ensures.told
    failed.NoMemory ends.NoMemory (g.L.Link.opened after) (beside (g.L.Link.coming after) (g.L.Link.sent after) (g.C.Clock.coming clock.new.self) (g.C.Clock.moment clock.new.self) held)
    refl c.finish.ensures.opened
    (same_beside (g.L.Link.coming link) (g.L.Link.coming after) (g.L.Link.sent link) (g.L.Link.sent after) (g.C.Clock.coming clock.new.self) clock.result (g.C.Clock.moment clock.new.self) held c.finish.ensures.coming c.finish.ensures.sent
    clock.ensures.kept)

pub returns-in-Err-clause-told : goal.returns-in-Err-clause-told
returns-in-Err-clause-told g c =
    let link = c.args.link.now in
    let after = c.finish-in-Err.new.self in
    let done = c.finish-in-Err.ensures in
    let clock = c.now-moment in
    let held = g.K.Sink.held c.args.sink.now in
    get_unopened c.args.config.now c.args.name.now (g.L.Link.opened link) (g.L.Link.coming link) (g.L.Link.sent link) (g.C.Clock.coming c.args.clock.now) (g.C.Clock.moment c.args.clock.now) held
    clock.result (g.C.Clock.coming clock.new.self) clock.ensures.rises clock.ensures.told
    c.in-Err.failed c.of_link.result (g.L.Link.opened after) (beside (g.L.Link.coming after) (g.L.Link.sent after) (g.C.Clock.coming clock.new.self) (g.C.Clock.moment clock.new.self) held)
    c.of_link.ensures (done.opened ∙ c.in-Err.ensures.opened)
    (same_beside (g.L.Link.coming link) (g.L.Link.coming after) (g.L.Link.sent link) (g.L.Link.sent after) (g.C.Clock.coming clock.new.self) clock.result (g.C.Clock.moment clock.new.self) held (done.coming ∙ c.in-Err.ensures.coming)
    (done.sent ∙ c.in-Err.ensures.sent) clock.ensures.kept)
