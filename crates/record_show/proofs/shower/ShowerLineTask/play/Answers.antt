use Rattle.record_show.proofs.ShowLemmas.{shows_line}
use Rattle.record_show.proofs.shower.ShowerLineTask.play.Goals as goal

pub returns-clause-does : goal.returns-clause-does
returns-clause-does c =
    λ fresh number. shows_line number c.args.line.now c.args.text.now c.show_line.new.text c.show_line.result c.show_line.ensures
