-- The statuses of operations and of compounds (RFC 8881, section 15.1).
use Rattle.std.specs.Prelude.{◌≡◌, ℕ, true, false, List, [], ◌∷◌, Option, Some, None, nat_eq}
use Rattle.std.specs.List.{list_any}
use Rattle.ff_xdr.specs.Form.{Form, Enum}
use Rattle.nfs4_types.specs.declared.status.Stat4.{Stat4}
use Rattle.nfs4_types.specs.declared.status.Stat4.TheVariants as stat

-- the numbers of nfsstat4
abbrev pub stat4_number : Stat4 → ℕ
stat4_number stat.Ok = 0
stat4_number stat.Perm = 1
stat4_number stat.NoEnt = 2
stat4_number stat.Io = 5
stat4_number stat.Access = 13
stat4_number stat.Exist = 17
stat4_number stat.NotDir = 20
stat4_number stat.IsDir = 21
stat4_number stat.Inval = 22
stat4_number stat.Fbig = 27
stat4_number stat.NoSpc = 28
stat4_number stat.Rofs = 30
stat4_number stat.NameTooLong = 63
stat4_number stat.Stale = 70
stat4_number stat.BadHandle = 10001
stat4_number stat.BadCookie = 10003
stat4_number stat.NotSupp = 10004
stat4_number stat.TooSmall = 10005
stat4_number stat.ServerFault = 10006
stat4_number stat.Delay = 10008
stat4_number stat.NoFileHandle = 10020
stat4_number stat.MinorVersMismatch = 10021
stat4_number stat.StaleClientId = 10022
stat4_number stat.OldStateid = 10024
stat4_number stat.BadStateid = 10025
stat4_number stat.NotSame = 10027
stat4_number stat.AttrNotSupp = 10032
stat4_number stat.NoGrace = 10033
stat4_number stat.BadXdr = 10036
stat4_number stat.LocksHeld = 10037
stat4_number stat.BadOwner = 10039
stat4_number stat.OpIllegal = 10044
stat4_number stat.BadIoMode = 10049
stat4_number stat.BadSession = 10052
stat4_number stat.BadSlot = 10053
stat4_number stat.CompleteAlready = 10054
stat4_number stat.LayoutTryLater = 10058
stat4_number stat.LayoutUnavailable = 10059
stat4_number stat.NoMatchingLayout = 10060
stat4_number stat.RecallConflict = 10061
stat4_number stat.UnknownLayoutType = 10062
stat4_number stat.SeqMisordered = 10063
stat4_number stat.SequencePos = 10064
stat4_number stat.RepTooBigToCache = 10067
stat4_number stat.RetryUncachedRep = 10068
stat4_number stat.TooManyOps = 10070
stat4_number stat.OpNotInSession = 10071
stat4_number stat.ClientIdBusy = 10074
stat4_number stat.NotOnlyOp = 10081
stat4_number stat.WrongType = 10083

-- the statuses of an operation that was not done, all but OK
abbrev pub refusals4 : List ℕ
refusals4 =
    1 ∷ 2 ∷ 5 ∷ 13 ∷ 17 ∷ 20 ∷ 21 ∷ 22 ∷ 27 ∷ 28 ∷
    30 ∷ 63 ∷ 70 ∷ 10001 ∷ 10003 ∷ 10004 ∷ 10005 ∷ 10006 ∷ 10008 ∷ 10020 ∷
    10021 ∷ 10022 ∷ 10024 ∷ 10025 ∷ 10027 ∷ 10032 ∷ 10033 ∷ 10036 ∷ 10037 ∷ 10039 ∷
    10044 ∷ 10049 ∷ 10052 ∷ 10053 ∷ 10054 ∷ 10058 ∷ 10059 ∷ 10060 ∷ 10061 ∷ 10062 ∷
    10063 ∷ 10064 ∷ 10067 ∷ 10068 ∷ 10070 ∷ 10071 ∷ 10074 ∷ 10081 ∷ 10083 ∷ []

abbrev pub refusal4 : Form
refusal4 = Enum refusals4

-- nfsstat4
abbrev pub stats4 : List ℕ
stats4 = 0 ∷ refusals4

abbrev pub nfsstat4 : Form
nfsstat4 = Enum stats4

-- the status with this number, where there is one
abbrev pub IsStat4 : ℕ → Option Stat4 → Type 0
IsStat4 number (Some status) = (stat4_number status ≡ number) × (list_any (nat_eq number) stats4 ≡ true)
IsStat4 number None = list_any (nat_eq number) stats4 ≡ false
