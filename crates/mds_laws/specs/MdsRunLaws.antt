-- What holds of every run of a metadata server, told by what it was sent, what it sent and what it entered.
use Rattle.std.specs.Prelude.{◌≡◌, ◌<◌, ◌≤◌, ℕ, Bool, true, false, ◌==◌, List, [], ◌∷◌, ◌++◌, Option, Some, None, if◌then◌else◌}
use Rattle.std.specs.List.{list_any}
use Rattle.cluster_model.specs.declared.entry.Entry.{Entry}
use Rattle.cluster_model.specs.declared.entry.Entry.TheVariants as entry
use Rattle.cluster_model.specs.DsCalls.{DsCallValue, Create, SetAttr, Write, Commit, Read}
use Rattle.rpc_record.specs.CallNumbers.{IsBelow}
use Rattle.device_addr.specs.Universal.{AddressValue}
use Rattle.mds_rule.specs.MdsStates.{MdsSend, CallsServer, CallsBack, Replies, Answers}
use Rattle.mds_walk.specs.MdsRuns.{MdsEvent, mds_run}

-- ---- the numbers of its calls

abbrev pub number_sent : MdsSend → Option ℕ
number_sent (CallsServer server xid uid call) = Some xid
number_sent (CallsBack xid back file stateid) = Some xid
number_sent (Replies node reply) = None
number_sent (Answers node bytes) = None

abbrev pub AreBelow : ℕ → List MdsSend → Type 0
AreBelow xid [] = Unit {0}
AreBelow xid (s ∷ sends) = IsBelow xid (number_sent s) × AreBelow xid sends

-- A call has a number of its own, above those of all calls before it; or it is one that went out before, the same again.
pub data IsNewOrAgain (before : List MdsSend) (s : MdsSend) (xid : ℕ) : Type 0 where
  IsNew : AreBelow xid before → IsNewOrAgain before s xid
  IsAgain : (front behind : List MdsSend) → before ≡ front ++ s ∷ behind → IsNewOrAgain before s xid

abbrev pub NumbersAscend : List AddressValue → ℕ → List MdsEvent → Type 0
NumbersAscend servers mirrors events =
    (before after : List MdsSend) (s : MdsSend) (xid : ℕ) → (mds_run servers mirrors events).sends ≡ before ++ s ∷ after → number_sent s ≡ Some xid → IsNewOrAgain before s xid

-- The number of a call is one of 32 bits, and not 0: behind the last, no new call goes out.
abbrev pub FitsNumber : Option ℕ → Type 0
FitsNumber None = Unit {0}
FitsNumber (Some xid) = (1 ≤ xid) × (xid ≤ 4294967295)

abbrev pub NumbersFit : List AddressValue → ℕ → List MdsEvent → Type 0
NumbersFit servers mirrors events = (before after : List MdsSend) (s : MdsSend) → (mds_run servers mirrors events).sends ≡ before ++ s ∷ after → FitsNumber (number_sent s)

-- ---- under which uid its calls go out

-- CREATE, SETATTR and READ by uid 0, a WRITE by a uid that was drawn, which are 65,536 and above
abbrev pub IsUidOf : DsCallValue → ℕ → Type 0
IsUidOf (Create name owner) uid = uid ≡ 0
IsUidOf (SetAttr fileid owner guard) uid = uid ≡ 0
IsUidOf (Write fileid at synced bytes) uid = 65536 ≤ uid
IsUidOf (Commit fileid) uid = Unit {0}
IsUidOf (Read fileid at count) uid = uid ≡ 0

abbrev pub IsByItsUid : MdsSend → Type 0
IsByItsUid (CallsServer server xid uid call) = IsUidOf call uid
IsByItsUid (CallsBack xid back file stateid) = Unit {0}
IsByItsUid (Replies node reply) = Unit {0}
IsByItsUid (Answers node bytes) = Unit {0}

abbrev pub CallsByUids : List AddressValue → ℕ → List MdsEvent → Type 0
CallsByUids servers mirrors events = (before after : List MdsSend) (s : MdsSend) → (mds_run servers mirrors events).sends ≡ before ++ s ∷ after → IsByItsUid s

-- ---- when a file is granted

-- how a file stands by what was entered of it last: free, or not
abbrev pub stands_if : ℕ → ℕ → Bool → Bool → Bool
stands_if file other is_free was = if file == other then is_free else was

abbrev pub stands_by : ℕ → Bool → Entry → Bool
stands_by file was (entry.Free other live) = stands_if file other.0 true was
stands_by file was (entry.Granted other cred holder) = stands_if file other.0 false was
stands_by file was (entry.Ended other cred cause) = stands_if file other.0 false was
stands_by file was e = was

abbrev pub stands_free : ℕ → Bool → List Entry → Bool
stands_free file was [] = was
stands_free file was (e ∷ entries) = stands_free file (stands_by file was e) entries

abbrev pub IsOfFree : List Entry → Entry → Type 0
IsOfFree before (entry.Granted file cred holder) = stands_free file.0 false before ≡ true
IsOfFree before e = Unit {0}

-- A file is granted where it was entered last as free: never while it is made, held, or while the fence behind a period is not done.
abbrev pub GrantsFreeFiles : List AddressValue → ℕ → List MdsEvent → Type 0
GrantsFreeFiles servers mirrors events =
    (before after : List Entry) (e : Entry) → (mds_run servers mirrors events).entries ≡ before ++ e ∷ after → IsOfFree before e

-- ---- to whom a uid is granted

abbrev pub grants_uid : ℕ → Entry → Bool
grants_uid uid (entry.Granted file cred holder) = cred.0 == uid
grants_uid uid e = false

abbrev pub IsFirstGrant : List Entry → Entry → Type 0
IsFirstGrant before (entry.Granted file cred holder) = list_any (grants_uid cred.0) before ≡ false
IsFirstGrant before e = Unit {0}

-- A uid is granted once: for one file, to one holder, for one period (RFC 8435, section 2.2).
abbrev pub GrantsUidsOnce : List AddressValue → ℕ → List MdsEvent → Type 0
GrantsUidsOnce servers mirrors events =
    (before after : List Entry) (e : Entry) → (mds_run servers mirrors events).entries ≡ before ++ e ∷ after → IsFirstGrant before e
