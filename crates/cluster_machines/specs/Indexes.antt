-- Where a number is in a list.
use Rattle.std.specs.Prelude.{ℕ, ◌-◌, Option, Some, None, if◌then◌else◌, ◌==◌, nat_le}

-- the index, from 0, of a number from 1 in a list of so many
abbrev pub index_at : ℕ → ℕ → Option ℕ
index_at n count = if n == 0 then None else (if nat_le count (n - 1) then None else Some (n - 1))
