use Rattle.std.proofs.Common.{◌≡◌, ◌<◌, ◌^◌, length}
use Rattle.user_nodes.specs.Users.{answers_taken}
use Rattle.user_nodes.specs.Gets.{answered_bytes, saw_more, saw_none, size_behind}
use Rattle.user_nodes.proofs.GetLemmas.{HasWrittenFor}
use Rattle.user_nodes.proofs.get.GetNode.take_answers.Given as goal

abbrev pub invariant-answers : goal.invariant-answers
invariant-answers g l =
    let left = l.self-inside.client.client.answers in
    let all = l.fn.self.client.answers in
    record {
      client : answers_taken l.self-inside.client.client ≡ answers_taken l.fn.self.client;
      outcome : l.self-inside.outcome ≡ l.fn.self.outcome;
      last : l.self-inside.last ≡ l.fn.self.last;
      seen : saw_more l.seen left ≡ saw_more saw_none all;
      size : size_behind l.size left ≡ size_behind l.fn.self.size all;
      fits : l.size < 2 ^ 64;
      written : HasWrittenFor (g.K.Sink.held l.fn.sink) (answered_bytes all) (answered_bytes left) (g.K.Sink.held l.sink);
      faults : g.K.Sink.faults l.sink ≡ g.K.Sink.faults l.fn.sink;
    }

abbrev pub decreases-answers : goal.decreases-answers
decreases-answers g l = length l.self-inside.client.client.answers
