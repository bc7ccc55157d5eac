use Rattle.std.proofs.Common.{◌≡◌, ◌++◌, Result, Ok, Err, subst}
use Rattle.rpc_record.specs.declared.stream.Failed.{Failed}
use Rattle.ff_node.specs.Nodes.{event_at}
use Rattle.ff_node.specs.Serve.{TookBeginning, behind}
use Rattle.user_nodes.specs.Users.{client_does, records_of}
use Rattle.user_nodes.specs.declared.get.Seen.{Seen}
use Rattle.user_nodes.specs.Gets.{GetValue, get_does, goes_on_after, reads_next}
use Rattle.user_nodes.proofs.AskLemmas.{held_at_ok}
use Rattle.user_nodes.proofs.GetLemmas.{step_fails, bytes_after, all_then_fails, state_after_step, sends_after_step}
use Rattle.user_nodes.proofs.get.GetNodeNode.take.Goals as goal

-- what the answers came to, as a result
abbrev err_of : Failed → Result Seen Failed
err_of e = Err e

abbrev ok_of : Seen → Result Seen Failed
ok_of seen = Ok seen

pub returns-then-is_err-clause-writes : goal.returns-then-is_err-clause-writes
returns-then-is_err-clause-writes g c = step_fails (client_does c.args.self.now.last (event_at c.args.moment c.args.arrival) c.args.self.now.client) c.args.self.now c.args.moment (g.K.Sink.held c.args.sink.now)

pub returns-in-Err-clause-writes : goal.returns-in-Err-clause-writes
returns-in-Err-clause-writes g c =
    let e = event_at c.args.moment c.args.arrival in
    let was : GetValue = record { client = c.self.inside.client.client; size = c.self.inside.size; outcome = c.self.inside.outcome; last = c.self.inside.last } in
    let s = client_does was.last e was.client in
    let done = c.client_does.new.client.client in
    let stepped = held_at_ok (done ≡ s.client) c.client_does.result c.if-is_err.ensures.negation c.client_does.ensures.client in
    let held = g.K.Sink.held c.args.sink.now in
    let after = g.K.Sink.held c.take_answers.new.sink in
    subst (λ (n : GetValue). TookBeginning held (get_does (client_does n.last e n.client) n.size n.outcome c.args.moment).text after) c.self.view_is
    (bytes_after s was c.args.moment done stepped held after (err_of c.in-Err.failed) c.in-Err.ensures.writes)

pub returns-then-is_err-2-clause-writes : goal.returns-then-is_err-2-clause-writes
returns-then-is_err-2-clause-writes g c =
    let e = event_at c.args.moment c.args.arrival in
    let was : GetValue = record { client = c.self.inside.client.client; size = c.self.inside.size; outcome = c.self.inside.outcome; last = c.self.inside.last } in
    let s = client_does was.last e was.client in
    let done = c.client_does.new.client.client in
    let stepped = held_at_ok (done ≡ s.client) c.client_does.result c.if-is_err.ensures.negation c.client_does.ensures.client in
    let held = g.K.Sink.held c.args.sink.now in
    let after = g.K.Sink.held c.take_answers.new.sink in
    subst (λ (n : GetValue). TookBeginning held (get_does (client_does n.last e n.client) n.size n.outcome c.args.moment).text after) c.self.view_is
    (all_then_fails s was c.args.moment done stepped Failed held after c.in-Ok.seen c.in-Ok.ensures.writes)

pub returns-clause-state : goal.returns-clause-state
returns-clause-state g c =
    let e = event_at c.args.moment c.args.arrival in
    let was : GetValue = record { client = c.self.inside.client.client; size = c.self.inside.size; outcome = c.self.inside.outcome; last = c.self.inside.last } in
    let s = client_does was.last e was.client in
    let done = c.client_does.new.client.client in
    let stepped = held_at_ok (done ≡ s.client) c.client_does.result c.if-is_err.ensures.negation c.client_does.ensures.client in
    let seen = c.in-Ok.seen in
    let mid = c.take_answers.new.self in
    let next = reads_next mid.size (goes_on_after seen) mid.client in
    let read = held_at_ok (c.go_on.new.self.client ≡ next.client) c.go_on.result c.if-is_err-2.ensures.negation c.go_on.ensures.client in
    subst (λ (n : GetValue). c.go_on.new.self ≡ (get_does (client_does n.last e n.client) n.size n.outcome c.args.moment).state) c.self.view_is
    (state_after_step s was c.args.moment done stepped seen c.in-Ok.ensures.seen mid c.in-Ok.ensures.state c.go_on.new.self read c.go_on.ensures.size c.go_on.ensures.outcome c.go_on.ensures.last)

pub returns-clause-sends : goal.returns-clause-sends
returns-clause-sends g c =
    let e = event_at c.args.moment c.args.arrival in
    let was : GetValue = record { client = c.self.inside.client.client; size = c.self.inside.size; outcome = c.self.inside.outcome; last = c.self.inside.last } in
    let s = client_does was.last e was.client in
    let done = c.client_does.new.client.client in
    let stepped = held_at_ok (done ≡ s.client) c.client_does.result c.if-is_err.ensures.negation c.client_does.ensures.client in
    let seen = c.in-Ok.seen in
    let mid = c.take_answers.new.self in
    let next = reads_next mid.size (goes_on_after seen) mid.client in
    let before = c.args.out.now.sends.items in
    let between = c.client_does.new.out.sends.items in
    let after = c.go_on.new.out.sends.items in
    let first = held_at_ok (between ≡ before ++ records_of s) c.client_does.result c.if-is_err.ensures.negation c.client_does.ensures.sends in
    let second = held_at_ok (after ≡ between ++ records_of next) c.go_on.result c.if-is_err-2.ensures.negation c.go_on.ensures.sends in
    subst (λ (n : GetValue). after ≡ before ++ (get_does (client_does n.last e n.client) n.size n.outcome c.args.moment).sends) c.self.view_is
    (sends_after_step s was c.args.moment done stepped seen c.in-Ok.ensures.seen mid c.in-Ok.ensures.state before between after first second)

pub returns-clause-writes : goal.returns-clause-writes
returns-clause-writes g c =
    let e = event_at c.args.moment c.args.arrival in
    let was : GetValue = record { client = c.self.inside.client.client; size = c.self.inside.size; outcome = c.self.inside.outcome; last = c.self.inside.last } in
    let s = client_does was.last e was.client in
    let done = c.client_does.new.client.client in
    let stepped = held_at_ok (done ≡ s.client) c.client_does.result c.if-is_err.ensures.negation c.client_does.ensures.client in
    let held = g.K.Sink.held c.args.sink.now in
    let after = g.K.Sink.held c.take_answers.new.sink in
    subst (λ (n : GetValue). after ≡ behind held (get_does (client_does n.last e n.client) n.size n.outcome c.args.moment).text) c.self.view_is
    (bytes_after s was c.args.moment done stepped held after (ok_of c.in-Ok.seen) c.in-Ok.ensures.writes)
