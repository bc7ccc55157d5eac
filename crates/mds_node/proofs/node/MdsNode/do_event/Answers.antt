use Rattle.std.proofs.Common.{◌≡◌, ◌++◌, subst}
use Rattle.mds_rule.specs.Spelled.{records_sent}
use Rattle.ff_node.specs.Nodes.{event_at}
use Rattle.mds_node.specs.MdsNodes.{MdsNodeValue, mds_does, mds_node_after}
use Rattle.mds_node.proofs.DoesLemmas.{with_moment, state_does, sends_does}
use Rattle.mds_node.proofs.node.MdsNode.do_event.Goals as goal

pub returns-clause-state : goal.returns-clause-state
returns-clause-state c =
    let e = event_at c.args.now c.args.arrival in
    let was : MdsNodeValue = record { mds = c.self.inside.mds.mds; last = c.self.inside.last } in
    subst (λ (n : MdsNodeValue). with_moment c.args.now c.hear.new.mds.mds ≡ mds_node_after e n) c.self.view_is
    (state_does e was c.pass_time.new.mds.mds c.hear.new.mds.mds c.in_ok-pass_time.ensures.state c.in_ok-hear.ensures.state)

pub returns-clause-sends : goal.returns-clause-sends
returns-clause-sends c =
    let e = event_at c.args.now c.args.arrival in
    let was : MdsNodeValue = record { mds = c.self.inside.mds.mds; last = c.self.inside.last } in
    subst (λ (n : MdsNodeValue). c.hear.new.out.sends.items ≡ c.args.out.now.sends.items ++ records_sent (mds_does e n)) c.self.view_is
    (sends_does e was c.pass_time.new.mds.mds c.args.out.now.sends.items c.pass_time.new.out.sends.items c.hear.new.out.sends.items
    c.in_ok-pass_time.ensures.state c.in_ok-pass_time.ensures.sends c.in_ok-hear.ensures.sends)
