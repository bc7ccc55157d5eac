use Rattle.std.proofs.Common.{◌≡◌, ◌++◌, drop}
use Rattle.client_answers.specs.ClientMirrors.{told_entries}
use Rattle.client_answers.proofs.told.tell_all.Given as goal

abbrev pub invariant-loop-number : goal.invariant-loop-number
invariant-loop-number l =
    (l.out.entries.items ++ told_entries l.file l.writer (drop l.number-index l.numbers) ≡ l.fn.out.entries.items ++ told_entries l.file l.writer l.numbers)
    × (l.out.sends.items ≡ l.fn.out.sends.items)
