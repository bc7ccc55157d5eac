use Rattle.std.proofs.Common.{◌≡◌, length}
use Rattle.user_nodes.specs.Users.{answers_taken}
use Rattle.user_nodes.specs.Puts.{with_answers}
use Rattle.user_nodes.proofs.put.PutNode.take_answers.Given as goal

abbrev pub invariant-answers : goal.invariant-answers
invariant-answers l = record {
  client : answers_taken l.self-inside.client.client ≡ answers_taken l.fn.self.client;
  progress : with_answers l.self-inside.progress l.self-inside.client.client.answers ≡ with_answers l.fn.self.progress l.fn.self.client.answers;
  last : l.self-inside.last ≡ l.fn.self.last;
}

abbrev pub decreases-answers : goal.decreases-answers
decreases-answers l = length l.self-inside.client.client.answers
