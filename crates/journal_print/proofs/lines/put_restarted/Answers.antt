use Rattle.std.proofs.Common.{◌++◌, codes}
use Rattle.cluster_model.specs.declared.ids.NodeId.TheVariants.{Server}
use Rattle.cluster_model.specs.Print.{node_text}
use Rattle.journal_print.proofs.Joins.{grows_behind}
use Rattle.journal_print.proofs.lines.put_restarted.Goals as goal

pub returns : goal.returns
returns c =
    grows_behind c.args.out.now _ c.put_last_list.new.out (codes "restarted") _ c.put_last_list.result c.in_ok-raw.ensures
    (grows_behind _ _ c.put_last_list.new.out (codes " " ++ node_text (Server c.args.server)) _ c.put_last_list.result c.in_ok-put_next_node.ensures c.put_last_list.ensures)
