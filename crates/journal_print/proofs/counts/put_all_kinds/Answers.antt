use Rattle.std.proofs.Common.{ap, subst, ◌∙◌}
use Rattle.ff_xdr.specs.Calls.{Grows}
use Rattle.journal_print.specs.Counts.{kinds, kind_lines}
use Rattle.journal_print.proofs.CountLemmas.{lines_of_kinds}
use Rattle.journal_print.proofs.counts.put_all_kinds.Goals as goal

pub returns : goal.returns
returns c = subst (Grows c.args.out.now c.put_kinds.result c.put_kinds.new.out) (ap (kind_lines kinds) c.count_kinds.ensures ∙ lines_of_kinds c.args.entries.now) c.put_kinds.ensures
