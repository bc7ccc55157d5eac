use Rattle.std.proofs.Common.{ap, ◌∙◌, ◌/◌, ◌%◌}
use Rattle.script_gen.specs.Generated.{next_state}
use Rattle.script_gen.proofs.DrawLemmas.{next_by_steps}
use Rattle.script_gen.proofs.draws.Draws.draw.Goals as goal

pub returns-clause-drawn : goal.returns-clause-drawn
returns-clause-drawn c = λ i. (next_by_steps c.self.inside.state ∙ ap next_state c.self.view_is) i / 8589934592 % c.from.ensures i

pub returns-clause-on : goal.returns-clause-on
returns-clause-on c = next_by_steps c.self.inside.state ∙ ap next_state c.self.view_is
