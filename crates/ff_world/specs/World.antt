-- The world of a script: its machines, the packets between them, and the journal. Of a bare script it has one data server, and
-- records come to it from client 0. One event is one delivery.
use Rattle.std.specs.Prelude.{◌≡◌, ℕ, ◌+◌, ◌≤◌, Bool, true, false, ◌==◌, if◌then◌else◌, List, [], ◌∷◌, ◌++◌, length, Option, Some, None, Result, Ok, Err}
use Rattle.cluster_model.specs.declared.ids.NodeId.{NodeId}
use Rattle.cluster_model.specs.declared.ids.NodeId.TheVariants.{Server, Client}
use Rattle.cluster_model.specs.declared.entry.Entry.{Entry}
use Rattle.cluster_model.specs.declared.entry.Entry.TheVariants.{Packet, Delivered, Restarted}
use Rattle.cluster_model.specs.declared.piece.Piece.{Piece}
use Rattle.cluster_model.specs.Event.{EventValue, Deliver, Restart}
use Rattle.cluster_model.specs.Server.{ServerState, preset_server, restart_of}
use Rattle.ds_files.specs.Receive.{Outcome, outcome_of}
use Rattle.ds_files.specs.Records.{sent_to}
use Rattle.world_journal.specs.declared.fault.WorldFault.{WorldFault}
use Rattle.world_journal.specs.declared.fault.WorldFault.TheVariants.{Limit, NoMemory}
use Rattle.world_journal.specs.Journal.{max_entries, is_within}
use Rattle.world_journal.specs.SentPackets.{packets_of}

-- ---- the world

-- The data server, how many packets were sent so far, and the journal.
pub record WorldState : Type 0 where
  pub server : ServerState
  pub sent : ℕ
  pub journal : List Entry

-- before any event
abbrev pub preset_world : WorldState
preset_world = record { server = preset_server; sent = 0; journal = [] }

-- the data server of a number, where it is the one
abbrev pub server_at : WorldState → ℕ → Option ServerState
server_at w number = if number == 1 then Some w.server else None

-- ---- what an event does

-- What an event does where the limits let it: the data server then, how many packets there are, and the entries that it adds.
pub record WorldEffect : Type 0 where
  pub server : ServerState
  pub sent : ℕ
  pub entries : List Entry

abbrev pub no_effect : WorldState → WorldEffect
no_effect w = record { server = w.server; sent = w.sent; entries = [] }

-- what a data server sends to client 0: its reply, where there is one
abbrev pub sends_of : Outcome → List (NodeId × List ℕ)
sends_of o = sent_to (Client 0) o.reply

-- A delivery adds the packet with the next number, its delivery, what the data server does with it, and a packet for each record
-- that it sends.
abbrev pub deliver_entries : ℕ → List ℕ → List Entry → List (NodeId × List ℕ) → List Entry
deliver_entries sent bytes entries sends = Packet (sent + 1) (Client 0) (Server 1) bytes ∷ Delivered (sent + 1) ∷ (entries ++ packets_of (Server 1) (sent + 1) sends)

abbrev pub deliver_effect : ℕ → List ℕ → Outcome → WorldEffect
deliver_effect sent bytes o = record {
  server = o.server;
  sent = sent + 1 + length (sends_of o);
  entries = deliver_entries sent bytes o.entries (sends_of o);
}

-- a restart adds its entry; where the boots are spent it does nothing
abbrev pub restart_effect : WorldState → List Piece → Option ServerState → WorldEffect
restart_effect w pieces None = no_effect w
restart_effect w pieces (Some server) = record { server = server; sent = w.sent; entries = Restarted 1 pieces ∷ [] }

-- A delivery or a restart of the one data server. Nothing else is in a bare world, so nothing comes of the other events.
abbrev pub effect_of : WorldState → EventValue → WorldEffect
effect_of w (Deliver bytes) = deliver_effect w.sent bytes (outcome_of w.server bytes)
effect_of w (Restart server pieces) = restart_effect w pieces (restart_of w.server pieces)
effect_of w _ = no_effect w

-- the world afterwards: the entries stand behind those of the journal
abbrev pub world_after : WorldState → WorldEffect → WorldState
world_after w effect = record { server = effect.server; sent = effect.sent; journal = w.journal ++ effect.entries }

-- what an event leaves, and the entries that it adds to the journal
pub record WorldStep : Type 0 where
  pub world : WorldState
  pub entries : List Entry

abbrev pub step_by_effect : WorldState → WorldEffect → WorldStep
step_by_effect w effect = record { world = world_after w effect; entries = effect.entries }

-- One event. None is an event with which the journal would pass a limit: it does not happen.
abbrev pub step_within : WorldStep → Option WorldStep
step_within step = if is_within step.world.journal then Some step else None

abbrev pub world_step : WorldState → EventValue → Option WorldStep
world_step w event = step_within (step_by_effect w (effect_of w event))

-- ---- a run of events

-- the entries that events add up to the first that would pass a limit, and whether one would
pub record Run : Type 0 where
  pub entries : List Entry
  pub over : Bool

abbrev pub with_step : Option WorldStep → (WorldState → Run) → Run
with_step None rest = record { entries = []; over = true }
with_step (Some step) rest = record { entries = step.entries ++ (rest step.world).entries; over = (rest step.world).over }

-- Each event happens in the world that the events before it left.
abbrev pub run_of : WorldState → List EventValue → Run
run_of w [] = record { entries = []; over = false }
run_of w (event ∷ events) = with_step (world_step w event) (λ next. run_of next events)

-- ---- the world in the code

-- a world, and what it is spent by
pub record WorldValue : Type 0 where
  pub world : WorldState
  pub spent : Option WorldFault

-- the journal is within the limits, and so is the number of packets
pub record IsSound (packets : ℕ) (journal : List Entry) : Type 0 where
  pub sent : packets ≤ length journal
  pub count : length journal ≤ max_entries
  pub within : is_within journal ≡ true

-- the journal is as before
pub record KeepsJournal (old new : WorldState) : Type 0 where
  pub journal : new.journal ≡ old.journal

-- The event happened, and its entries stand behind those of the journal.
pub record Occurs (old : WorldState) (event : EventValue) (new : WorldValue) : Type 0 where
  pub step : WorldStep
  pub is : world_step old event ≡ Some step
  pub world : new ≡ record { world = step.world; spent = None }
  pub entries : new.world.journal ≡ old.journal ++ step.entries

-- The event would pass a limit, and the world is spent by it.
pub record Stays (old : WorldState) (event : EventValue) (count : ℕ) (new : WorldValue) : Type 0 where
  pub is : world_step old event ≡ None
  pub told : count ≡ length old.journal
  pub kept : KeepsJournal old new.world
  pub spent : new.spent ≡ Some (Limit count)

-- What an event did in a world that was not spent: it happened; it would pass a limit; or memory was wanted.
abbrev pub Meets : WorldState → EventValue → Result (Unit {0}) WorldFault → WorldValue → Type 0
Meets old event (Ok x) new = Occurs old event new
Meets old event (Err (Limit count)) new = Stays old event count new
Meets old event (Err NoMemory) new = KeepsJournal old new.world × (new.spent ≡ Some NoMemory)

-- The same of the world's state, before a fault is kept.
abbrev pub Happens : WorldState → EventValue → Result (Unit {0}) WorldFault → WorldState → Type 0
Happens old event (Ok x) new = (is_within new.journal ≡ true) × (new ≡ world_after old (effect_of old event))
Happens old event (Err (Limit count)) new = (world_step old event ≡ None) × (count ≡ length old.journal) × KeepsJournal old new
Happens old event (Err NoMemory) new = KeepsJournal old new

-- these entries stand behind those of the journal, and so many packets were sent
abbrev pub with_journaled : WorldValue → ℕ → List Entry → WorldValue
with_journaled old sent entries = record {
  world = record { server = old.world.server; sent = sent; journal = old.world.journal ++ entries };
  spent = old.spent;
}

-- How entries were added to the journal of a world: they are; it would pass a limit with them; or memory was wanted.
abbrev pub Enters : WorldValue → ℕ → List Entry → Result (Unit {0}) WorldFault → WorldValue → Type 0
Enters old sent entries (Ok x) new = (is_within (old.world.journal ++ entries) ≡ true) × (new ≡ with_journaled old sent entries)
Enters old sent entries (Err (Limit count)) new = (is_within (old.world.journal ++ entries) ≡ false) × (count ≡ length old.world.journal) × (new ≡ old)
Enters old sent entries (Err NoMemory) new = new ≡ old
