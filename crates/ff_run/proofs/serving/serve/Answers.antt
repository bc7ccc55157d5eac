use Rattle.ff_run.specs.Node.{task_command}
use Rattle.ff_run.proofs.ServeLemmas.{draws_for}
use Rattle.ff_run.proofs.serving.serve.Goals as goal

pub returns-clause-told : goal.returns-clause-told
returns-clause-told g c =
    let left = g.S.Source.left in
    let read = c.in_ok-config.ensures in (
      c.in_ok-config.config,
      read.told,
      c.run_node.ensures.told (left c.args.source.now) read.rest,
      draws_for (task_command c.args.task) (left c.args.source.now) (left c.read_first.new.source) (left c.run_node.new.source) c.in_ok-config.config c.run_node.result read.drawn c.run_node.ensures.drawn,
    )
