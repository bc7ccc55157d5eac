use Rattle.client_sessions.proofs.InRuns.{enters_for_file}
use Rattle.client_sessions.proofs.laws.entered_files.Goals as goal

pub returns : goal.returns
returns c = record { files = enters_for_file }
