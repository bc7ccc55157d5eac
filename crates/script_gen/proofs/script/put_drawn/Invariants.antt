use Rattle.std.proofs.Common.{◌≡◌, ℕ, ◌-◌, List, ◌++◌}
use Rattle.script_gen.specs.Generated.{drawn_text}
use Rattle.script_gen.proofs.script.put_drawn.Given as goal

-- what is drawn so far and what is left make the whole
abbrev pub invariant-loop : goal.invariant-loop
invariant-loop l = (text : List ℕ) × (l.out ≡ l.fn.out ++ text) × (text ++ drawn_text (l.count - l.counter) l.draws ≡ drawn_text l.count l.fn.draws)
