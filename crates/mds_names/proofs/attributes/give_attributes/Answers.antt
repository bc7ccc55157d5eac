use Rattle.mds_names.proofs.Values.{values_short}
use Rattle.mds_names.proofs.attributes.give_attributes.Goals as goal

pub give_words-requires-clause-values : goal.give_words-requires-clause-values
give_words-requires-clause-values c = values_short c.args.asked c.args.of c.bytes.result.now _ _ c.bytes.ensures c.in_ok-put.ensures c.new-values.ensures

pub give_words-requires-then-first-ne0-clause-values : goal.give_words-requires-then-first-ne0-clause-values
give_words-requires-then-first-ne0-clause-values c = values_short c.args.asked c.args.of c.bytes-then-first-ne0.result.now _ _ c.bytes-then-first-ne0.ensures c.in_ok-put.ensures c.new-values.ensures
