use Rattle.std.proofs.Common.{◌≡◌, take}
use Rattle.std.specs.List.{list_all}
use Rattle.cluster_script.specs.ScriptWords.{is_of_name}
use Rattle.cluster_script.proofs.words.are_of_name.Given as goal

abbrev pub invariant-loop-c : goal.invariant-loop-c
invariant-loop-c l = l.all ≡ list_all is_of_name (take l.c-index l.word)
