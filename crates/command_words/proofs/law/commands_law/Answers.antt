use Rattle.command_words.proofs.Spellings.{one_command}
use Rattle.command_words.proofs.law.commands_law.Goals as goal

pub returns : goal.returns
returns c = one_command
