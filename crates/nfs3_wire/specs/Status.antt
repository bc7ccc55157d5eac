-- The statuses of results (RFC 1813, section 2.6).
use Rattle.std.specs.Prelude.{◌≡◌, ℕ, true, false, List, [], ◌∷◌, Option, Some, None, nat_eq}
use Rattle.std.specs.List.{list_any}
use Rattle.ff_xdr.specs.Form.{Form, Enum}
use Rattle.nfs3_wire.specs.declared.status.Stat3.{Stat3}
use Rattle.nfs3_wire.specs.declared.status.Stat3.TheVariants as stat

-- nfsstat3
abbrev pub stat_number : Stat3 → ℕ
stat_number stat.Ok = 0
stat_number stat.NoEnt = 2
stat_number stat.Io = 5
stat_number stat.Acces = 13
stat_number stat.Exist = 17
stat_number stat.NotDir = 20
stat_number stat.IsDir = 21
stat_number stat.Inval = 22
stat_number stat.Fbig = 27
stat_number stat.NoSpc = 28
stat_number stat.NameTooLong = 63
stat_number stat.Stale = 70
stat_number stat.BadHandle = 10001
stat_number stat.NotSync = 10002
stat_number stat.NotSupp = 10004
stat_number stat.ServerFault = 10006
stat_number stat.Jukebox = 10008

-- the statuses of a refused call, all but OK
abbrev pub refusals : List ℕ
refusals = 2 ∷ 5 ∷ 13 ∷ 17 ∷ 20 ∷ 21 ∷ 22 ∷ 27 ∷ 28 ∷ 63 ∷ 70 ∷ 10001 ∷ 10002 ∷ 10004 ∷ 10006 ∷ 10008 ∷ []

abbrev pub refusal : Form
refusal = Enum refusals

-- the refusal with this number, where there is one
abbrev pub IsRefusalNumbered : ℕ → Option Stat3 → Type 0
IsRefusalNumbered number (Some status) = (stat_number status ≡ number) × (list_any (nat_eq number) refusals ≡ true)
IsRefusalNumbered number None = list_any (nat_eq number) refusals ≡ false
