use Rattle.client_callbacks.proofs.CallbackLemmas.{tag_within, count_within}
use Rattle.client_callbacks.proofs.callback.answer_compound.Goals as goal

pub answer_counted-requires-clause-tag : goal.answer_counted-requires-clause-tag
answer_counted-requires-clause-tag c = tag_within c.args.args.now c.in-Ok.compound c.in-Ok.ensures

pub answer_counted-requires-clause-few : goal.answer_counted-requires-clause-few
answer_counted-requires-clause-few c = count_within c.args.args.now c.in-Ok.compound c.in-Ok.ensures
