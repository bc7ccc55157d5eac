use Rattle.std.proofs.Common.{sym}
use Rattle.user_nodes.specs.Gets.{goes_on_after}
use Rattle.user_nodes.proofs.GetLemmas.{read_stepped}
use Rattle.user_nodes.proofs.get.read_on.Goals as goal

pub returns-then-goes_on : goal.returns-then-goes_on
returns-then-goes_on c = read_stepped c.args.at (goes_on_after c.args.seen) c.args.client.now c.read.new.self c.args.out.now c.read.new.out c.read.result (sym c.if-goes_on.ensures) c.read.ensures
