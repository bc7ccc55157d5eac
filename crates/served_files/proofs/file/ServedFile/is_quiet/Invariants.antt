use Rattle.served_files.proofs.QuietLemmas.{ReadsRest}
use Rattle.served_files.proofs.file.ServedFile.is_quiet.Given as goal

abbrev pub invariant-loop-n : goal.invariant-loop-n
invariant-loop-n l = ReadsRest l.self l.n
