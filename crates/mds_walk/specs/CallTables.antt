-- The table of the calls that were sent and are not answered, in every run.
use Rattle.std.specs.Prelude.{◌≡◌, ◌<◌, true, List}
use Rattle.cluster_model.specs.Members.{IsOneOf}
use Rattle.mds_rule.specs.MdsStates.{MdsSend, CallsServer, CallsBack, Replies, Answers, AwaitedCall, MdsValue, MdsStep}
use Rattle.mds_rule.specs.Goes.{has_xids}
use Rattle.mds_rule.specs.declared.waiter.Waiter.{Waiter}
use Rattle.mds_rule.specs.declared.waiter.Waiter.TheVariants.{ForFile, ForRead, ForWrite, ForRecall}

-- The calls to data servers are those of files, READs and own writes, and the callbacks those of recalls.
abbrev pub IsOfServers : Waiter → Type 0
IsOfServers (ForFile file) = Unit {0}
IsOfServers (ForRead file) = Unit {0}
IsOfServers (ForWrite file) = Unit {0}
IsOfServers ForRecall = ⊥

abbrev pub IsOfClients : Waiter → Type 0
IsOfClients (ForFile file) = ⊥
IsOfClients (ForRead file) = ⊥
IsOfClients (ForWrite file) = ⊥
IsOfClients ForRecall = Unit {0}

abbrev pub IsSentFor : MdsSend → Waiter → Type 0
IsSentFor (CallsServer server xid uid call) caller = IsOfServers caller
IsSentFor (CallsBack xid back file stateid) caller = IsOfClients caller
IsSentFor (Replies node reply) caller = ⊥
IsSentFor (Answers node bytes) caller = ⊥

-- each of them went out
abbrev pub WereSent : MdsValue → List MdsSend → Type 0
WereSent m sends = (call : AwaitedCall) → IsOneOf call m.calls → IsOneOf call.sent sends

-- a call to a data server is waited for by a file, a READ or an own write, a callback by a recall
abbrev pub AreFor : MdsValue → Type 0
AreFor m = (call : AwaitedCall) → IsOneOf call m.calls → IsSentFor call.sent call.caller

-- no two have the same number
abbrev pub HaveOwnNumbers : MdsValue → Type 0
HaveOwnNumbers m = (a b : AwaitedCall) → IsOneOf a m.calls → IsOneOf b m.calls → a.xid ≡ b.xid → a ≡ b

-- while numbers are left, each has one below the next
abbrev pub AreBelowNext : MdsValue → Type 0
AreBelowNext m = has_xids m ≡ true → (call : AwaitedCall) → IsOneOf call m.calls → call.xid < m.next_xid

pub record TableStands (s : MdsStep) : Type 0 where
  pub sent : WereSent s.mds s.sends
  pub waiters : AreFor s.mds
  pub apart : HaveOwnNumbers s.mds
  pub below : AreBelowNext s.mds
