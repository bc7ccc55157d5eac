-- What a link gives and takes: arrivals, and records that are sent.
use Rattle.std.specs.Prelude.{◌≡◌, ℕ, ◌-◌, ◌==◌, Bool, true, false, if◌then◌else◌, slice_get, List, [], ◌∷◌, ◌++◌, Option, Some, None, Result, Ok, Err}
use Rattle.ff_xdr.specs.declared.error.NoMemory.{NoMemory}
use Rattle.rpc_record.specs.declared.stream.Failed.{Failed}
use Rattle.cluster_model.specs.declared.ids.NodeId.{NodeId}
use Rattle.device_addr.specs.declared.net_addr.NetAddr.{NetAddr}
use Rattle.node_config.specs.declared.config.Config.{Config}
use Rattle.node_link.specs.declared.link.Opening.{Opening}
use Rattle.node_link.specs.declared.link.Role.{Role}
use Rattle.node_link.specs.declared.link.Role.TheVariants.{Mds, Server, Client}
use Rattle.node_link.specs.declared.link.Arrival.{Arrival}
use Rattle.node_link.specs.declared.link.Arrival.TheVariants.{Record, TimedOut, Quiet, Closed}

-- What asking for the next arrival did, where a link tells those still to come: the first of them came; where there is none
-- it is closed; a failing call takes none.
abbrev pub Gives : Option (List Arrival) → Result Arrival Failed → Option (List Arrival) → Type 0
Gives None result new = new ≡ None
Gives (Some []) (Ok arrival) new = (arrival ≡ Closed) × (new ≡ Some [])
Gives (Some (first ∷ rest)) (Ok arrival) new = (arrival ≡ first) × (new ≡ Some rest)
Gives (Some coming) (Err e) new = new ≡ Some coming

abbrev pub is_record : Arrival → Bool
is_record (Record from bytes) = true
is_record (TimedOut node xid) = false
is_record Quiet = false
is_record Closed = false

-- What asking for a record that has come already did: the first of those to come was one, and came; or none is taken.
abbrev pub GivesReady : Option (List Arrival) → Option (NodeId × List ℕ) → Option (List Arrival) → Type 0
GivesReady None result new = new ≡ None
GivesReady (Some []) (Some (from, bytes)) new = ⊥
GivesReady (Some (first ∷ rest)) (Some (from, bytes)) new = (first ≡ Record from bytes) × (new ≡ Some rest)
GivesReady (Some coming) None new = new ≡ Some coming

-- What sending did, where a link tells what was handed to it: the record stands behind the others; want of memory has done
-- nothing.
abbrev pub HandsOver : Option (List (NodeId × List ℕ)) → NodeId → List ℕ → Result (Unit {0}) NoMemory → Option (List (NodeId × List ℕ)) → Type 0
HandsOver None to bytes result new = new ≡ None
HandsOver (Some sent) to bytes (Ok x) new = new ≡ Some (sent ++ (to, bytes) ∷ [])
HandsOver (Some sent) to bytes (Err e) new = new ≡ Some sent

-- the address of this number in a list, from 1
abbrev pub address_numbered : List NetAddr → ℕ → Option NetAddr
address_numbered servers number = if number == 0 then None else slice_get servers (number - 1)

-- the address where a node in this role listens; a client has none
abbrev pub own_address : Config → Role → Option NetAddr
own_address config Mds = Some config.mds
own_address config Server = address_numbered config.servers.items config.own
own_address config Client = None

abbrev pub opening_of : Config → Role → Opening
opening_of config role = record { role = role; own = config.own; address = own_address config role }

-- what opening did to what a link was last opened with
abbrev pub OpensLink : Option Opening → Config → Role → Result (Unit {0}) Failed → Option Opening → Type 0
OpensLink old config role (Ok x) new = new ≡ Some (opening_of config role)
OpensLink old config role (Err e) new = new ≡ old

-- a link over memory: what it was opened with, what is still to come, and what was sent
pub record SureLinkState : Type 0 where
  pub opened : Option Opening
  pub coming : List Arrival
  pub sent : List (NodeId × List ℕ)

-- the same, with the numbers of the calls that fail, how many calls were made and have failed, and whether all of what is still to come is there at
-- once
pub record MemoryLinkState : Type 0 where
  pub opened : Option Opening
  pub coming : List Arrival
  pub sent : List (NodeId × List ℕ)
  pub failing : List ℕ
  pub calls : ℕ
  pub faults : ℕ
  pub is_at_once : Bool
