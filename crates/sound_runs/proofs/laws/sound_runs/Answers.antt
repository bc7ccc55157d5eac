use Rattle.sound_runs.proofs.RunsSound.{runs_sound}
use Rattle.sound_runs.proofs.laws.sound_runs.Goals as goal

pub returns : goal.returns
returns c = record { sound = λ boots moves. runs_sound c.covered_writes.ensures.covered c.server_guards.ensures.calls c.server_guards.ensures.restarts c.server_guards.ensures.new boots moves }
