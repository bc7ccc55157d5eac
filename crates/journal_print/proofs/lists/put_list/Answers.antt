use Rattle.journal_print.proofs.Joins.{grows_list}
use Rattle.journal_print.proofs.lists.put_list.Goals as goal

pub returns : goal.returns
returns g c =
    grows_list _ c.args.out.now c.put.new.out c.put_more.new.out _ _ c.args.items.now c.put_more.result
    c.in-Some.ensures.cases.0 c.in_ok-put.ensures c.put_more.ensures
