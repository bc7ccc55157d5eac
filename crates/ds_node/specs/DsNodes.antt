-- What a data server does as a node: its log is opened, and each record is answered by its rule, behind its record in the log.
use Rattle.std.specs.Prelude.{◌≡◌, ◌⊎◌, ℕ, Bool, true, false, ◌&&◌, List, [], Option, Some, None, Ok, Err}
use Rattle.cluster_model.specs.Server.{ServerState}
use Rattle.record_link.specs.Messages.{is_call_record}
use Rattle.node_config.specs.declared.config.Config.{Config}
use Rattle.node_link.specs.declared.link.Arrival.{Arrival}
use Rattle.node_link.specs.declared.link.Arrival.TheVariants.{Record, TimedOut, Quiet, Closed}
use Rattle.store_disk.specs.Disks.{DiskLife}
use Rattle.ds_files.specs.Receive.{outcome_of}
use Rattle.ds_files.specs.Records.{sent_to}
use Rattle.ds_store.specs.declared.fault.OpenCause.{OpenCause}
use Rattle.ds_store.specs.declared.fault.OpenCause.TheVariants as cause
use Rattle.ds_store.specs.declared.fault.StoreFault.{StoreFault}
use Rattle.ds_store.specs.declared.fault.StoreFault.TheVariants as store
use Rattle.ds_store.specs.Kept.{KeptState, LeavesBothNow, SaysEither, WaitsSince}
use Rattle.ds_store.specs.Opens.{LeavesOpened, OpensLog}
use Rattle.ff_node.specs.declared.end.NodeEnd.{NodeEnd}
use Rattle.ff_node.specs.declared.end.NodeEnd.TheVariants as ends
use Rattle.ff_node.specs.declared.fault.EventFault.{EventFault}
use Rattle.ff_node.specs.declared.fault.EventFault.TheVariants as event
use Rattle.ff_node.specs.Nodes.{NodeRule, SentRecords}
use Rattle.ff_node.specs.Serve.{Beside, NodeRunsOn, end_of_link}
use Rattle.rpc_record.specs.declared.stream.Failed.{Failed}
use Rattle.rpc_record.specs.declared.stream.Failed.TheVariants as failed
use Rattle.node_link.specs.declared.link.Opening.{Opening}
use Rattle.node_link.specs.declared.link.Role.TheVariants as role
use Rattle.node_link.specs.Link.{opening_of}

-- A record is answered to the node that it comes from, by the rule of the data server; no other arrival does anything. Moments do not
-- count, and it does not end by itself.
abbrev pub server_takes : ServerState → Arrival → ServerState × SentRecords
server_takes s (Record from bytes) = ((outcome_of s bytes).server, sent_to from (outcome_of s bytes).reply)
server_takes s (TimedOut node xid) = (s, [])
server_takes s Quiet = (s, [])
server_takes s Closed = (s, [])

abbrev pub server_rule : NodeRule ServerState
server_rule = record {
  step = λ s e. record { state = (server_takes s e.arrival).0; sends = (server_takes s e.arrival).1; text = [] };
  outcome = λ s. None;
  is_server = true;
  more_at_once = 63;
}

-- A call is not answered where the rule gives no reply to it.
abbrev pub gives_none : Option (List ℕ) → Bool
gives_none None = true
gives_none (Some reply) = false

abbrev pub server_excuses : ServerState → Arrival → Bool
server_excuses s (Record from bytes) = is_call_record bytes && gives_none (outcome_of s bytes).reply
server_excuses s (TimedOut node xid) = false
server_excuses s Quiet = false
server_excuses s Closed = false

-- A crash leaves the log of the one server or of the other: of the one that it was when it was last settled, or of the one behind the events at
-- which it broke off, none of which was answered.
abbrev pub server_leaves : ServerState → ServerState → Option DiskLife → Option DiskLife → Type 0
server_leaves settled broken disk spare = LeavesBothNow disk spare (SaysEither settled broken)

-- how a call that was not done ends an event
abbrev pub event_fault : StoreFault → EventFault
event_fault store.Disk = event.Disk
event_fault store.Broken = event.Disk
event_fault store.NoMemory = event.NoMemory

-- the same of settling
abbrev pub settle_fault : StoreFault → Failed
settle_fault store.Disk = failed.Fault
settle_fault store.Broken = failed.Fault
settle_fault store.NoMemory = failed.NoMemory

-- how a log that could not be opened ends it
abbrev pub end_of_opening : OpenCause → NodeEnd
end_of_opening cause.Disk = ends.DiskFault
end_of_opening (cause.BadLog place) = ends.BadLog place
end_of_opening cause.BootsSpent = ends.BootsSpent
end_of_opening cause.NoMemory = ends.NoMemory

-- The log was opened, and the server that it says served, in its next boot.
pub record ServesLog (config : Config) (disk spare : Option DiskLife) (b : Beside) (end : NodeEnd) (b' : Beside) (disk' spare' : Option DiskLife) : Type 0 where
  pub kept : KeptState
  pub opened : OpensLog config.own disk spare (Ok kept)
  pub last : ServerState
  pub runs : NodeRunsOn server_leaves server_rule [] kept.server config.turns b end last b' disk' spare'

-- The log could not be opened, and nothing was served.
pub record OpensNoLog (config : Config) (disk spare : Option DiskLife) (b : Beside) (end : NodeEnd) (b' : Beside) (disk' spare' : Option DiskLife) : Type 0 where
  pub cause : OpenCause
  pub opens : OpensLog config.own disk spare (Err cause)
  pub end_is : end ≡ end_of_opening cause
  pub same : b' ≡ b
  pub left : LeavesOpened config.own disk spare disk' spare'

-- The disks have the log of the settled server, and had since a moment; what the server is to remember since waits behind it.
abbrev pub KeepsSettled : ServerState → KeptState → Option DiskLife → Option DiskLife → Type 0
KeepsSettled settled k disk spare = (began began_spare : Option DiskLife) × WaitsSince settled k.server k.log began began_spare disk spare

-- it is not to be opened again
abbrev pub IsUnspent : KeptState → Type 0
IsUnspent k = k.spent ≡ None

abbrev pub ServesDisks : Config → Option DiskLife → Option DiskLife → Beside → NodeEnd → Beside → Option DiskLife → Option DiskLife → Type 0
ServesDisks config disk spare b end b' disk' spare' = ServesLog config disk spare b end b' disk' spare' ⊎ OpensNoLog config disk spare b end b' disk' spare'

-- The link was opened, and this was done over it; or opening it failed, and nothing was done.
abbrev pub ServesAsDs : Config → Option Opening → Option DiskLife → Option DiskLife → Beside → NodeEnd → Option Opening → Option DiskLife → Option DiskLife → Beside → Type 0
ServesAsDs config opened disk spare b end opened' disk' spare' b' =
    ((opened' ≡ Some (opening_of config role.Server)) × ServesDisks config disk spare b end b' disk' spare')
    ⊎ ((e : Failed) × (end ≡ end_of_link e) × (opened' ≡ opened) × (disk' ≡ disk) × (spare' ≡ spare) × (b' ≡ b))
