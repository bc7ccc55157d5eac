use Rattle.script_laws.proofs.LawfulPlays.{plays_lawfully, prints_lawfully}
use Rattle.ff_run.proofs.program.replay_lawfully.Goals as goal

pub returns-clause-lawful : goal.returns-clause-lawful
returns-clause-lawful g c = plays_lawfully c.script_laws.ensures.scripts (g.S.Source.left c.args.source.now) c.replay.result c.replay.ensures.range

pub returns-clause-prints : goal.returns-clause-prints
returns-clause-prints g c = prints_lawfully c.script_laws.ensures.reached c.args.mode (g.K.Sink.held c.args.sink.now) (g.K.Sink.held c.replay.new.sink) c.replay.ensures.printed
