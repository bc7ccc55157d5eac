-- Moments of a data server, and their order over its boots.
use Rattle.std.specs.Prelude.{◌≡◌, ◌<◌, ◌≤◌, ◌+◌, List, [], ◌∷◌, ◌⊎◌}
use Rattle.std.specs.List.{AllByRecursion}
use Rattle.cluster_model.specs.declared.tick.Tick.{Tick}

-- the boot is compared first
abbrev pub IsBefore : Tick → Tick → Type 0
IsBefore a b = (a.boot < b.boot) ⊎ ((a.boot ≡ b.boot) × (a.count < b.count))

-- before it, or the same
abbrev pub IsUpTo : Tick → Tick → Type 0
IsUpTo a b = (a.boot < b.boot) ⊎ ((a.boot ≡ b.boot) × (a.count ≤ b.count))

-- the tick that the next change takes, by the last one that was given; and where the count stands after a restart
abbrev pub next_tick : Tick → Tick
next_tick t = record { boot = t.boot; count = t.count + 1 }

abbrev pub rebooted : Tick → Tick
rebooted t = record { boot = t.boot + 1; count = 0 }

-- each is before all that come after it
abbrev pub IsRising : List Tick → Type 0
IsRising [] = Unit {0}
IsRising (t ∷ ts) = AllByRecursion (λ u. IsBefore t u) ts × IsRising ts
