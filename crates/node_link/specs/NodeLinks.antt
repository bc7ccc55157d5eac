-- The link of a node over a network: which node is on which connection, when a call is given up, and when time passes.
use Rattle.std.specs.Prelude.{⊤, ◌≡◌, ◌⊎◌, ℕ, ◌≤◌, min, Bool, true, false, List, Option, Some, None, Result, Ok, Err}
use Rattle.ff_xdr.specs.declared.error.NoMemory.{NoMemory}
use Rattle.rpc_record.specs.Calls.{word_of}
use Rattle.rpc_record.specs.declared.stream.Failed.{Failed}
use Rattle.rpc_record.specs.declared.stream.Failed.TheVariants as failed
use Rattle.cluster_model.specs.declared.ids.NodeId.{NodeId}
use Rattle.cluster_model.specs.declared.ids.NodeId.TheVariants.{Mds, Server, Client}
use Rattle.record_link.specs.Messages.{is_call_record}
use Rattle.record_server.specs.Server.{ServingState, no_connections, IsListed, GivesRecord, SendsRecord, Connects, ExcusesCall, Flushes, HasGivenAll}
use Rattle.record_server.specs.Network.{Waiting, Made}
use Rattle.device_addr.specs.declared.net_addr.NetAddr.{NetAddr}
use Rattle.node_config.specs.declared.config.Config.{Config}
use Rattle.node_link.specs.Link.{address_numbered}
use Rattle.node_link.specs.declared.link.Arrival.{Arrival}
use Rattle.node_link.specs.declared.link.Arrival.TheVariants.{Record, TimedOut, Quiet, Closed}
use Rattle.node_link.specs.declared.link.Opening.{Opening}
use Rattle.node_link.specs.declared.link.Role.{Role}
use Rattle.node_link.specs.declared.silence.Silence.{Silence}
use Rattle.node_link.specs.Callees.{CalleesValue, AreSame, callee_in, own_connection, SetsCallee, IsFrom}
use Rattle.waiting_calls.specs.LinkCalls.{LinkCallsValue, no_link_calls, is_read_to, replied_number, call_over, earliest}
use Rattle.waiting_calls.specs.LinkMoves.{CallGoesOut, RecordComesIn, CallIsGivenUp, DoesMove}
use Rattle.node_link.specs.Silence.{first_pause, new_silence, silence_end, is_silence_over, behind_arrival, behind_timeout, behind_pause}

-- What it was opened with; where the metadata server and the data servers listen; its connections, where it is open; on which of them each node
-- is called; its calls that got no answer yet; how long it bears that nothing comes; and how many calls have met a fault.
pub record LinkState : Type 0 where
  pub opened : Option Opening
  pub mds : Option NetAddr
  pub servers : List NetAddr
  pub server : Option ServingState
  pub callees : CalleesValue
  pub calls : LinkCallsValue
  pub silence : Silence
  pub faults : ℕ

-- ---- opening

-- no connection was made
abbrev pub AreNew : CalleesValue → Type 0
AreNew callees = (node : NodeId) → callee_in callees node ≡ own_connection node

-- It has no connection and no call, and no time has passed; other nodes are where the configuration says. Or it is as it was, but for its count
-- of faults.
abbrev pub OpensNetwork : Config → Role → LinkState → Result (Unit {0}) Failed → LinkState → Type 0
OpensNetwork config role old (Ok x) new =
    (new.mds ≡ Some config.mds) × (new.servers ≡ config.servers.items) × AreNew new.callees × (new.calls ≡ no_link_calls) × (new.silence ≡ new_silence (first_pause role))
    × ((waiting : Waiting) × (made : Made) × (reported : List ℕ) × (moment : ℕ) × (faults : ℕ) × (new.server ≡ Some (no_connections waiting made reported moment faults)))
OpensNetwork config role old (Err e) new = new ≡ record old { faults = new.faults }

-- ---- what comes

-- until when a record is waited for: up to the moment at which something is given up, and no longer than it is borne that nothing comes
abbrev pub wait_end : ℕ → LinkCallsValue → Silence → ℕ
wait_end now calls silence = min (earliest now calls) (silence_end silence)

-- Nothing was to be given up before, and this came of the wait for a record.
abbrev pub WaitsForRecord : LinkState → ServingState → Result (Option (ℕ × List ℕ)) Failed → ServingState → Type 0
WaitsForRecord l s result s' = (call_over s.time l.calls ≡ None) × GivesRecord (wait_end s.time l.calls l.silence) s result s'

-- nothing is to be given up by this moment, and all is as it was; or a call is given up
abbrev pub GivesUp : ℕ → LinkCallsValue → Silence → Option Arrival → LinkCallsValue → Silence → Type 0
GivesUp now calls silence None calls' silence' = (call_over now calls ≡ None) × (calls' ≡ calls) × (silence' ≡ silence)
GivesUp now calls silence (Some (TimedOut node xid)) calls' silence' = DoesMove (CallIsGivenUp now node xid) calls calls' × (silence' ≡ behind_timeout now silence)
GivesUp now calls silence (Some (Record from bytes)) calls' silence' = ⊥
GivesUp now calls silence (Some Quiet) calls' silence' = ⊥
GivesUp now calls silence (Some Closed) calls' silence' = ⊥

-- What comes where no record did: a call is given up; or none is to be, and time passes, or it is not yet to be told that.
abbrev pub EndsWait : ℕ → LinkCallsValue → Silence → Arrival → LinkCallsValue → Silence → Type 0
EndsWait now calls silence (TimedOut node xid) calls' silence' = GivesUp now calls silence (Some (TimedOut node xid)) calls' silence'
EndsWait now calls silence Quiet calls' silence' = (call_over now calls ≡ None) × (is_silence_over now silence ≡ true) × (calls' ≡ calls) × (silence' ≡ behind_pause now silence)
EndsWait now calls silence Closed calls' silence' = (call_over now calls ≡ None) × (is_silence_over now silence ≡ false) × (calls' ≡ calls) × (silence' ≡ silence)
EndsWait now calls silence (Record from bytes) calls' silence' = ⊥

-- its calls and how long it bears silence are as they were
abbrev pub KeepsCalls : LinkState → LinkState → Type 0
KeepsCalls old new = (new.calls ≡ old.calls) × (new.silence ≡ old.silence)

-- What asking for the next arrival did, where it is open: a call is given up without a wait; or nothing was to be, and a record came, of the node
-- whose connection brought it, or none did, or the connections met a fault.
abbrev pub Arrives : LinkState → ServingState → Result Arrival Failed → ServingState → LinkState → Type 0
Arrives old s (Ok (Record from bytes)) s' new =
    ((number : ℕ) × WaitsForRecord old s (Ok (Some (number, bytes))) s' × IsFrom number old.callees from)
    × DoesMove (RecordComesIn s'.time from (replied_number bytes)) old.calls new.calls × (new.silence ≡ behind_arrival s'.time old.silence)
Arrives old s (Ok (TimedOut node xid)) s' new =
    ((s' ≡ s) ⊎ WaitsForRecord old s (Ok None) s') × GivesUp s'.time old.calls old.silence (Some (TimedOut node xid)) new.calls new.silence
Arrives old s (Ok Quiet) s' new = WaitsForRecord old s (Ok None) s' × EndsWait s'.time old.calls old.silence Quiet new.calls new.silence
Arrives old s (Ok Closed) s' new = WaitsForRecord old s (Ok None) s' × EndsWait s'.time old.calls old.silence Closed new.calls new.silence
Arrives old s (Err e) s' new = WaitsForRecord old s (Err e) s' × KeepsCalls old new

-- Where it is not open that is a fault.
abbrev pub GivesArrival : LinkState → Result Arrival Failed → LinkState → Type 0
GivesArrival old result new =
    ((old.server ≡ None) × (result ≡ Err failed.Fault) × (new.server ≡ None) × KeepsCalls old new)
    ⊎ ((s : ServingState) × (s' : ServingState) × (old.server ≡ Some s) × (new.server ≡ Some s') × Arrives old s result s' new)

-- ---- what has come already

-- What asking for a record did that came already, where it is open: one came, of the node whose connection brought it; or none did, or memory was
-- wanted for it; or a call is to be given up first.
abbrev pub IsReady : LinkState → ServingState → Option (NodeId × List ℕ) → ServingState → LinkState → Type 0
IsReady old s (Some (from, bytes)) s' new =
    ((number : ℕ) × GivesRecord 0 s (Ok (Some (number, bytes))) s' × IsFrom number old.callees from)
    × DoesMove (RecordComesIn s'.time from (replied_number bytes)) old.calls new.calls × (new.silence ≡ behind_arrival s'.time old.silence)
IsReady old s None s' new = (((s' ≡ s) × (earliest s.time old.calls ≤ s.time)) ⊎ GivesRecord 0 s (Ok None) s' ⊎ ((e : Failed) × GivesRecord 0 s (Err e) s')) × KeepsCalls old new

abbrev pub GivesOneReady : LinkState → Option (NodeId × List ℕ) → LinkState → Type 0
GivesOneReady old result new =
    ((old.server ≡ None) × (result ≡ None) × (new ≡ old))
    ⊎ ((s : ServingState) × (s' : ServingState) × (old.server ≡ Some s) × (new.server ≡ Some s') × IsReady old s result s' new)

-- ---- what goes, by connections

-- where a node listens
abbrev pub address_to : LinkState → NodeId → Option NetAddr
address_to s Mds = s.mds
address_to s (Server n) = address_numbered s.servers n
address_to s (Client k) = None

-- a connection was made to an address, under this number; or none was, as there is no address, or it cannot be made
abbrev pub ConnectsOrNot : Option NetAddr → ServingState → Option ℕ → ServingState → Type 0
ConnectsOrNot None s number s' = (number ≡ None) × (s' ≡ s)
ConnectsOrNot (Some to) s number s' = Connects to s (Ok number) s'

-- no connection to a node at this address was made
abbrev pub IsUnreached : Option NetAddr → ServingState → ServingState → Type 0
IsUnreached address s s' = ConnectsOrNot address s None s'

-- A connection to the node's address is made for a call; where none can be, the call is lost. Where memory was wanted nothing was sent: before a
-- connection was tried, or on the one that was made.
abbrev pub ReachesOr : NodeId → Option NetAddr → List ℕ → ServingState → CalleesValue → Result (Unit {0}) NoMemory → ServingState → CalleesValue → Type 0
ReachesOr node address message s callees (Ok x) s' callees' =
    ((number : ℕ) × (mid : ServingState) × ConnectsOrNot address s (Some number) mid × SendsRecord number message mid (Ok tt) s' × SetsCallee node number callees callees')
    ⊎ (IsUnreached address s s' × AreSame callees callees')
ReachesOr node address message s callees (Err e) s' callees' =
    ((s' ≡ s) × AreSame callees callees')
    ⊎ ((number : ℕ) × ConnectsOrNot address s (Some number) s' × (AreSame callees callees' ⊎ SetsCallee node number callees callees'))

-- the same for any record: one that is no call is lost with its connection
abbrev pub ReachesIf : Bool → NodeId → Option NetAddr → List ℕ → ServingState → CalleesValue → Result (Unit {0}) NoMemory → ServingState → CalleesValue → Type 0
ReachesIf false node address message s callees result s' callees' = (result ≡ Ok tt) × (s' ≡ s) × AreSame callees callees'
ReachesIf true node address message s callees result s' callees' = ReachesOr node address message s callees result s' callees'

-- to a node that is called on a connection that is made: on that one, where it is open
abbrev pub SendsMadeOr : NodeId → Option NetAddr → List ℕ → ServingState → CalleesValue → Result (Unit {0}) NoMemory → ServingState → CalleesValue → Type 0
SendsMadeOr node address message s callees result s' callees' =
    (IsListed true (callee_in callees node) s.peers × SendsRecord (callee_in callees node) message s result s' × AreSame callees callees')
    ⊎ (IsListed false (callee_in callees node) s.peers × ReachesIf (is_call_record message) node address message s callees result s' callees')

abbrev pub SendsWhere : LinkState → NodeId → List ℕ → ServingState → CalleesValue → Result (Unit {0}) NoMemory → ServingState → CalleesValue → Type 0
SendsWhere l (Client k) message s callees result s' callees' = SendsRecord k message s result s' × AreSame callees callees'
SendsWhere l Mds message s callees result s' callees' = SendsMadeOr Mds (address_to l Mds) message s callees result s' callees'
SendsWhere l (Server n) message s callees result s' callees' = SendsMadeOr (Server n) (address_to l (Server n)) message s callees result s' callees'

-- ---- what goes, and what waits then

-- a call waits, whether its record could be sent or not; other records change nothing of the calls
abbrev pub CallGoesOutIf : Bool → ℕ → NodeId → List ℕ → LinkCallsValue → LinkCallsValue → Type 0
CallGoesOutIf false now node message old new = new ≡ old
CallGoesOutIf true now node message old new = DoesMove (CallGoesOut now node (word_of message 0) (is_read_to node message)) old new

-- What sending did: where it is open, the message went on the node's connection, or memory was wanted, before it was to wait or behind; else it
-- is lost.
abbrev pub SendsTo : LinkState → NodeId → List ℕ → Result (Unit {0}) NoMemory → LinkState → Type 0
SendsTo old to message result new =
    ((old.server ≡ None) × (result ≡ Ok tt) × (new ≡ old))
    ⊎ ((e : NoMemory) × (result ≡ Err e) × (new ≡ old))
    ⊎ ((s : ServingState) × (s' : ServingState) × (old.server ≡ Some s) × (new.server ≡ Some s') × SendsWhere old to message s old.callees result s' new.callees
    × CallGoesOutIf (is_call_record message) s.time to message old.calls new.calls)

-- what excusing a call of a node did
abbrev pub ExcusesFrom : NodeId → LinkState → LinkState → Type 0
ExcusesFrom from old new =
    ((old.server ≡ None) × (new.server ≡ None))
    ⊎ ((s : ServingState) × (s' : ServingState) × (old.server ≡ Some s) × (new.server ≡ Some s') × ExcusesCall (callee_in old.callees from) s s')

-- ---- the end

abbrev pub HasGivenIn : Option ServingState → Type 0
HasGivenIn None = ⊤
HasGivenIn (Some s) = HasGivenAll s

abbrev pub FinishesLink : LinkState → LinkState → Type 0
FinishesLink old new =
    ((old.server ≡ None) × (new.server ≡ None))
    ⊎ ((s : ServingState) × (s' : ServingState) × (old.server ≡ Some s) × (new.server ≡ Some s') × Flushes s s')
