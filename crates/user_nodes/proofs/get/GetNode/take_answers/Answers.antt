use Rattle.std.proofs.Common.{sym, ap, subst, ◌∙◌, rules}
use Rattle.mirror_client.specs.ClientSteps.{ClientOfUser}
use Rattle.user_nodes.specs.Users.{answers_taken}
use Rattle.user_nodes.specs.Gets.{answered_bytes, saw_more, size_behind}
use Rattle.user_nodes.proofs.GetLemmas.{HasWrittenFor, saw_first, size_first, written_first, written_part, all_taken}
use Rattle.user_nodes.proofs.get.GetNode.take_answers.Goals as goal

pub returns-in_err-write_all-clause-writes : goal.returns-in_err-write_all-clause-writes
returns-in_err-write_all-clause-writes g c =
    written_part c.in-Some.answer c.answers.self-inside.client.client.answers (sym c.in-Some.ensures.oldest) (g.K.Sink.held c.args.sink.now) (g.K.Sink.held c.answers.sink) (g.K.Sink.held c.write_all.new.sink)
    (answered_bytes c.args.self.now.client.answers) c.answer_bytes-bytes.result.now c.in_err-write_all.field-0.0 c.from_residual.result c.answer_bytes-bytes.ensures c.answers.invariant.written
    c.in_err-write_all.ensures.told c.from_residual.ensures.0

pub answers-preserved-in_ok-write_all : goal.answers-preserved-in_ok-write_all
answers-preserved-in_ok-write_all g c =
    let was = c.answers.self-inside.client.client.answers in
    let held = g.K.Sink.held c.args.sink.now in
    let all = answered_bytes c.args.self.now.client.answers in
    let oldest = sym c.in-Some.ensures.oldest in
    let left = ap (λ (s : ClientOfUser). s.client.answers) c.in-Some.ensures.rest in
    record {
      client = ap (λ (s : ClientOfUser). answers_taken s.client) c.in-Some.ensures.rest ∙ c.answers.invariant.client;
      outcome = c.answers.invariant.outcome;
      last = c.answers.invariant.last;
      seen = ap (saw_more c.note.new.self) left ∙ saw_first c.in-Some.answer was oldest c.answers.seen c.note.new.self c.note.ensures ∙ c.answers.invariant.seen;
      size = ap (size_behind c.saturating_add-size.result) left ∙ size_first c.in-Some.answer was oldest c.answers.size c.saturating_add-size.result c.answer_bytes-bytes.result.now c.answer_bytes-bytes.ensures c.saturating_add-size.ensures ∙ c.answers.invariant.size;
      fits = search rules;
      written =
          subst (λ (s : ClientOfUser). HasWrittenFor held all (answered_bytes s.client.answers) (g.K.Sink.held c.write_all.new.sink)) (sym c.in-Some.ensures.rest)
          (written_first c.in-Some.answer was oldest held (g.K.Sink.held c.answers.sink) (g.K.Sink.held c.write_all.new.sink) all c.answer_bytes-bytes.result.now c.in_ok-write_all.field-0 c.answer_bytes-bytes.ensures
          c.answers.invariant.written c.in_ok-write_all.ensures.told);
      faults = search rules;
    }

-- the same where the answer's bytes have other owners, and are not let go with it
pub answers-preserved-in_ok-write_all-2 : goal.answers-preserved-in_ok-write_all-2
answers-preserved-in_ok-write_all-2 g c =
    let was = c.answers.self-inside.client.client.answers in
    let held = g.K.Sink.held c.args.sink.now in
    let all = answered_bytes c.args.self.now.client.answers in
    let oldest = sym c.in-Some.ensures.oldest in
    let left = ap (λ (s : ClientOfUser). s.client.answers) c.in-Some.ensures.rest in
    record {
      client = ap (λ (s : ClientOfUser). answers_taken s.client) c.in-Some.ensures.rest ∙ c.answers.invariant.client;
      outcome = c.answers.invariant.outcome;
      last = c.answers.invariant.last;
      seen = ap (saw_more c.note.new.self) left ∙ saw_first c.in-Some.answer was oldest c.answers.seen c.note.new.self c.note.ensures ∙ c.answers.invariant.seen;
      size = ap (size_behind c.saturating_add-size.result) left ∙ size_first c.in-Some.answer was oldest c.answers.size c.saturating_add-size.result c.answer_bytes-bytes.result.now c.answer_bytes-bytes.ensures c.saturating_add-size.ensures ∙ c.answers.invariant.size;
      fits = search rules;
      written =
          subst (λ (s : ClientOfUser). HasWrittenFor held all (answered_bytes s.client.answers) (g.K.Sink.held c.write_all.new.sink)) (sym c.in-Some.ensures.rest)
          (written_first c.in-Some.answer was oldest held (g.K.Sink.held c.answers.sink) (g.K.Sink.held c.write_all.new.sink) all c.answer_bytes-bytes.result.now c.in_ok-write_all.field-0 c.answer_bytes-bytes.ensures
          c.answers.invariant.written c.in_ok-write_all.ensures.told);
      faults = search rules;
    }

pub returns-clause-state : goal.returns-clause-state
returns-clause-state g c =
    all_taken c.args.self.now c.answers.self-inside.client.client c.answers-in-answers.new.self.client c.answers.size (sym c.in_default.ensures.oldest) c.answers.invariant.fits
    (ap (λ (s : ClientOfUser). s.client) c.in_default.ensures.rest) c.answers.invariant.client c.answers.invariant.size c.answers.self-inside.outcome c.answers.invariant.outcome c.answers.self-inside.last c.answers.invariant.last
