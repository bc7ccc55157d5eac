use Rattle.std.proofs.Common.{None, Ok, subst, ◌∙◌}
use Rattle.ff_node.specs.Nodes.{SentRecords}
use Rattle.line_runs.specs.Lines.{all_left}
use Rattle.ff_node.specs.Serve.{beside}
use Rattle.user_nodes.specs.Puts.{BeginsPut}
use Rattle.user_nodes.proofs.RunLemmas.{put_nothing, put_unopened, put_served, same_beside}
use Rattle.user_nodes.proofs.put.run_put.Goals as goal

pub returns-in-Err-clause-told : goal.returns-in-Err-clause-told
returns-in-Err-clause-told g c =
    let link = c.args.link.now in
    let after = c.finish.new.self in
    let clock = c.now-moment in
    put_nothing c.args.config.now c.args.name.now (all_left c.args.buffer.now (g.S.Source.left c.args.source.now)) (g.L.Link.opened link) (g.L.Link.coming link) (g.L.Link.sent link)
    (g.C.Clock.coming c.args.clock.now) (g.C.Clock.moment c.args.clock.now) clock.result (g.C.Clock.coming clock.new.self) clock.ensures.rises clock.ensures.told
    c.in-Err.failed c.end_of_source.result (all_left c.begin.new.buffer (g.S.Source.left c.begin.new.source)) (g.L.Link.opened after)
    (beside (g.L.Link.coming after) (g.L.Link.sent after) (g.C.Clock.coming clock.new.self) (g.C.Clock.moment clock.new.self) None)
    c.end_of_source.ensures c.finish.ensures.opened
    (same_beside (g.L.Link.coming link) (g.L.Link.coming after) (g.L.Link.sent link) (g.L.Link.sent after) (g.C.Clock.coming clock.new.self) clock.result (g.C.Clock.moment clock.new.self) None c.finish.ensures.coming c.finish.ensures.sent clock.ensures.kept)

pub returns-in-Err-open-clause-told : goal.returns-in-Err-open-clause-told
returns-in-Err-open-clause-told g c =
    let link = c.args.link.now in
    let after = c.finish-in-Err-open.new.self in
    let clock = c.now-moment in
    let done = c.finish-in-Err-open.ensures in
    put_unopened c.args.config.now c.args.name.now (all_left c.args.buffer.now (g.S.Source.left c.args.source.now)) (g.L.Link.opened link) (g.L.Link.coming link) (g.L.Link.sent link)
    (g.C.Clock.coming c.args.clock.now) (g.C.Clock.moment c.args.clock.now) clock.result (g.C.Clock.coming clock.new.self) clock.ensures.rises clock.ensures.told
    c.in-Ok.node (all_left c.begin.new.buffer (g.S.Source.left c.begin.new.source)) c.begin.new.out.sends.items
    c.in-Err-open.failed c.of_link.result (g.L.Link.opened after)
    (beside (g.L.Link.coming after) (g.L.Link.sent after) (g.C.Clock.coming clock.new.self) (g.C.Clock.moment clock.new.self) None)
    (subst (λ (sends : SentRecords). BeginsPut c.args.config.now.own clock.result c.args.name.now (all_left c.args.buffer.now (g.S.Source.left c.args.source.now)) sends (Ok c.in-Ok.node) (all_left c.begin.new.buffer (g.S.Source.left c.begin.new.source)) c.begin.new.out.sends.items) c.new-out.ensures.sends c.in-Ok.ensures.begins)
    c.of_link.ensures (done.opened ∙ c.in-Err-open.ensures.opened)
    (same_beside (g.L.Link.coming link) (g.L.Link.coming after) (g.L.Link.sent link) (g.L.Link.sent after) (g.C.Clock.coming clock.new.self) clock.result (g.C.Clock.moment clock.new.self) None (done.coming ∙ c.in-Err-open.ensures.coming)
    (done.sent ∙ c.in-Err-open.ensures.sent) clock.ensures.kept)

pub returns-clause-told : goal.returns-clause-told
returns-clause-told g c =
    let link = c.args.link.now in
    let ready = c.open.new.self in
    let after = c.serve_node.new.link in
    let clock = c.now-moment in
    let later = c.serve_node.new.clock in
    put_served c.args.config.now c.args.name.now (all_left c.args.buffer.now (g.S.Source.left c.args.source.now)) (g.L.Link.opened link) (g.L.Link.coming link) (g.L.Link.sent link)
    (g.C.Clock.coming c.args.clock.now) (g.C.Clock.moment c.args.clock.now) clock.result (g.C.Clock.coming clock.new.self) clock.ensures.rises clock.ensures.told
    c.in-Ok.node c.serve_node.new.node (all_left c.begin.new.buffer (g.S.Source.left c.begin.new.source)) c.begin.new.out.sends.items
    (beside (g.L.Link.coming ready) (g.L.Link.sent ready) (g.C.Clock.coming clock.new.self) (g.C.Clock.moment clock.new.self) None)
    (beside (g.L.Link.coming after) (g.L.Link.sent after) (g.C.Clock.coming later) (g.C.Clock.moment later) None)
    c.serve_node.result (g.L.Link.opened after)
    (subst (λ (sends : SentRecords). BeginsPut c.args.config.now.own clock.result c.args.name.now (all_left c.args.buffer.now (g.S.Source.left c.args.source.now)) sends (Ok c.in-Ok.node) (all_left c.begin.new.buffer (g.S.Source.left c.begin.new.source)) c.begin.new.out.sends.items) c.new-out.ensures.sends c.in-Ok.ensures.begins)
    (c.serve_node.ensures.opened ∙ c.in_default.ensures.opened)
    (same_beside (g.L.Link.coming link) (g.L.Link.coming ready) (g.L.Link.sent link) (g.L.Link.sent ready) (g.C.Clock.coming clock.new.self) clock.result (g.C.Clock.moment clock.new.self) None c.in_default.ensures.coming c.in_default.ensures.sent clock.ensures.kept)
    c.serve_node.ensures.told
