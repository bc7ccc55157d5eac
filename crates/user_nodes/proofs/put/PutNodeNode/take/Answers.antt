use Rattle.std.proofs.Common.{◌≡◌, ◌++◌, Some, subst}
use Rattle.ff_node.specs.Nodes.{event_at}
use Rattle.ff_node.proofs.ServeLemmas.{began_none}
use Rattle.user_nodes.specs.Users.{client_does, records_of}
use Rattle.user_nodes.specs.Puts.{PutValue, put_after}
use Rattle.user_nodes.proofs.AskLemmas.{held_at_ok}
use Rattle.user_nodes.proofs.AnswerLemmas.{after_answers}
use Rattle.user_nodes.proofs.put.PutNodeNode.take.Goals as goal

pub returns-then-is_err-clause-writes : goal.returns-then-is_err-clause-writes
returns-then-is_err-clause-writes g c = began_none (g.K.Sink.held c.args._sink.now)

pub returns-clause-state : goal.returns-clause-state
returns-clause-state g c =
    let e = event_at c.args.moment c.args.arrival in
    let s = client_does c.self.inside.last e c.self.inside.client.client in
    let stepped = held_at_ok (c.client_does.new.client.client ≡ s.client) c.client_does.result c.if-is_err.ensures.negation c.client_does.ensures.client in
    subst (λ (n : PutValue). c.take_answers.new.self ≡ put_after (client_does n.last e n.client) n.progress (Some c.args.moment)) c.self.view_is
    (after_answers s c.self.inside.progress (Some c.args.moment) c.client_does.new.client.client c.take_answers.new.self stepped c.take_answers.ensures.client c.take_answers.ensures.progress c.take_answers.ensures.last)

pub returns-clause-sends : goal.returns-clause-sends
returns-clause-sends g c =
    let e = event_at c.args.moment c.args.arrival in
    subst (λ (n : PutValue). c.client_does.new.out.sends.items ≡ c.args.out.now.sends.items ++ records_of (client_does n.last e n.client)) c.self.view_is
    (held_at_ok (c.client_does.new.out.sends.items ≡ c.args.out.now.sends.items ++ records_of (client_does c.self.inside.last e c.self.inside.client.client)) c.client_does.result c.if-is_err.ensures.negation c.client_does.ensures.sends)
