use Rattle.std.proofs.Common.{sym, ap, ◌∙◌}
use Rattle.mirror_client.specs.ClientSteps.{ClientOfUser}
use Rattle.user_nodes.specs.Users.{answers_taken}
use Rattle.user_nodes.specs.Puts.{with_answers}
use Rattle.user_nodes.proofs.AnswerLemmas.{counts_first}
use Rattle.user_nodes.proofs.put.PutNode.take_answers.Goals as goal

pub answers-preserved : goal.answers-preserved
answers-preserved c =
    let was = c.answers.self-inside in
    record {
      client = ap (λ (s : ClientOfUser). answers_taken s.client) c.in-Some.ensures.rest ∙ c.answers.invariant.client;
      progress =
          ap (λ (s : ClientOfUser). with_answers c.note.new.self s.client.answers) c.in-Some.ensures.rest
          ∙ counts_first was.progress c.note.new.self c.in-Some.answer was.client.client.answers (sym c.in-Some.ensures.oldest) c.note.ensures ∙ c.answers.invariant.progress;
      last = c.answers.invariant.last;
    }
