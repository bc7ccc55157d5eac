use Rattle.client_callbacks.proofs.CallbackLemmas.{few_results}
use Rattle.client_callbacks.proofs.callback.answer_ops.Goals as goal

pub spell_results-requires-clause-count : goal.spell_results-requires-clause-count
spell_results-requires-clause-count c =
    few_results _ c.do_callbacks.new.results c.in_ok-status.status c.do_callbacks.new.client c.ops.result c.args.compound.now.ops _ c.in_ok-status.ensures c.new-results.ensures c.ops.ensures c.requires.few
