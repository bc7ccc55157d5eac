-- The numbers of calls, which are xids (RFC 5531, section 9).
use Rattle.std.specs.Prelude.{ℕ, ◌<◌, Option, Some, None}

-- the number of a call is below this one; what is no call has none
abbrev pub IsBelow : ℕ → Option ℕ → Type 0
IsBelow xid None = Unit {0}
IsBelow xid (Some other) = other < xid
