use Rattle.std.proofs.Common.{◌≤◌, get_or, arith, rules}
use Rattle.journal_print.proofs.CountLemmas.{counts_more, counts_few}
use Rattle.journal_print.proofs.counts.count_kinds.Goals as goal

pub overflow_add-counts : goal.overflow_add-counts
overflow_add-counts c =
    let few : get_or c.loop-entry.counts c.kind_of.result 0 ≤ c.loop-entry.entry-index = counts_few c.args.entries.now c.loop-entry.entry-index c.kind_of.result _ c.loop-entry.counts (omega arith) c.kind_of.ensures.word c.loop-entry.invariant in
    search rules

pub loop-entry-preserved : goal.loop-entry-preserved
loop-entry-preserved c =
    counts_more c.args.entries.now c.loop-entry.entry-index c.entry-item.result c.kind_of.result c.loop-entry.counts (omega arith) c.entry-item.is c.kind_of.ensures.word c.loop-entry.invariant
