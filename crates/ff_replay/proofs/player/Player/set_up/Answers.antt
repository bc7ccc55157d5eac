use Rattle.std.proofs.Common.{Some, None, ap, refl, ◌∙◌}
use Rattle.ff_replay.specs.Player.{with_trace}
use Rattle.ff_replay.proofs.LineLemmas.{read_so, sets_up}
use Rattle.ff_replay.proofs.player.Player.set_up.Goals as goal

pub returns-clause-does : goal.returns-clause-does
returns-clause-does c fresh none trace =
    sets_up c.args.self.now.mode (with_trace c.args.self.now trace) _ c.args.line.now c.in-Some-Setup.setup
    (read_so None c.args.line.now c.parse_line.result c.parse_line.ensures.said _ (c.in-Some-Setup.is ∙ ap Some c.in-Some-Setup.field-0-is))
    (ap Some c.in_ok-new.ensures.world) c.in_ok-new.ensures.fresh refl
