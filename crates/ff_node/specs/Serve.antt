-- What serving as a node did: what came and at which moments, what was sent, and why it ended.
use Rattle.std.specs.Prelude.{⊤, ◌⊎◌, ◌≡◌, ℕ, ◌+◌, ◌<◌, ◌≤◌, Bool, true, false, List, [], ◌∷◌, ◌++◌, length, map, take, Option, Some, None, Result, Ok, Err}
use Rattle.std.proofs.Common.{inl, inr}
use Rattle.ff_xdr.specs.declared.error.NoMemory.{NoMemory}
use Rattle.rpc_record.specs.declared.stream.Failed.{Failed}
use Rattle.rpc_record.specs.declared.stream.Failed.TheVariants as failed
use Rattle.ff_node.specs.declared.fault.EventFault.{EventFault}
use Rattle.ff_node.specs.declared.fault.EventFault.TheVariants as fault
use Rattle.rpc_record.specs.Stream.{one_more}
use Rattle.cluster_model.specs.declared.answer.FailCause.{FailCause}
use Rattle.node_link.specs.declared.link.Arrival.{Arrival}
use Rattle.node_link.specs.declared.link.Arrival.TheVariants.{Record, TimedOut, Quiet, Closed}
use Rattle.node_config.specs.declared.config.Config.{Config}
use Rattle.node_link.specs.declared.link.Opening.{Opening}
use Rattle.node_link.specs.declared.link.Role.{Role}
use Rattle.node_link.specs.Clock.{GivesMoment}
use Rattle.node_link.specs.Link.{opening_of}
use Rattle.line_runs.specs.Writing.{IsBeginningOf}
use Rattle.store_disk.specs.Disks.{DiskLife}
use Rattle.ff_node.specs.declared.end.NodeEnd.{NodeEnd}
use Rattle.ff_node.specs.declared.end.NodeEnd.TheVariants as ends
use Rattle.ff_node.specs.Nodes.{NodeEvent, NodeRule, SentRecords, state_after, sends_over, HasNotEndedBefore, text_over}

-- ---- what is beside a node

-- what is still to come over its link and what was sent, as far as the link tells it; the moments that its clock will give, as far as it
-- tells them, and the last that it gave; and what its sink holds, as far as that tells it
pub record Beside : Type 0 where
  pub coming : Option (List Arrival)
  pub sent : Option SentRecords
  pub moments : Option (List ℕ)
  pub moment : ℕ
  pub held : Option (List ℕ)

abbrev pub beside : Option (List Arrival) → Option SentRecords → Option (List ℕ) → ℕ → Option (List ℕ) → Beside
beside coming sent moments moment held = record { coming = coming; sent = sent; moments = moments; moment = moment; held = held }

-- what was sent, or is held, with more behind it
abbrev pub behind : {X : Type 0} → Option (List X) → List X → Option (List X)
behind None more = None
behind (Some old) more = Some (old ++ more)

abbrev pub with_sent : Beside → SentRecords → Beside
with_sent b more = record b { sent = behind b.sent more }

-- these came from the front of what was to come
abbrev pub TakesFront : Option (List Arrival) → List Arrival → Option (List Arrival) → Type 0
TakesFront None arrivals new = new ≡ None
TakesFront (Some coming) arrivals new = (rest : List Arrival) × (arrivals ++ rest ≡ coming) × (new ≡ Some rest)

-- a clock was asked so many times, and gave these moments, which do not fall
abbrev pub GivesMoments : Option (List ℕ) → ℕ → List ℕ → Option (List ℕ) → ℕ → Type 0
GivesMoments coming last [] coming' last' = (coming' ≡ coming) × (last' ≡ last)
GivesMoments coming last (m ∷ moments) coming' last' = (last ≤ m) × ((next : Option (List ℕ)) × GivesMoment coming last m next × GivesMoments next m moments coming' last')

-- the arrival says that nothing more comes
abbrev pub is_closed : Arrival → Bool
is_closed (Record from bytes) = false
is_closed (TimedOut node xid) = false
is_closed Quiet = false
is_closed Closed = true

-- none of these does
abbrev pub AreOpen : List NodeEvent → Type 0
AreOpen [] = ⊤
AreOpen (e ∷ events) = (is_closed e.arrival ≡ false) × AreOpen events

-- ---- events that were taken and done

-- Each was an arrival, at a moment that the clock gave for it; the node, what is sent and what is written are by its rule.
pub record Served {S : Type 0} (rule : NodeRule S) (s : S) (b : Beside) (s' : S) (b' : Beside) : Type 0 where
  pub taken : List NodeEvent
  pub came : TakesFront b.coming (map (λ (e : NodeEvent). e.arrival) taken) b'.coming
  pub moments : GivesMoments b.moments b.moment (map (λ (e : NodeEvent). e.moment) taken) b'.moments b'.moment
  pub live : AreOpen taken
  pub going : HasNotEndedBefore rule s taken
  pub state : s' ≡ state_after rule s taken
  pub sends : b'.sent ≡ behind b.sent (sends_over rule s taken)
  pub text : b'.held ≡ behind b.held (text_over rule s taken)

-- ---- why it ended

-- a node that ended by itself, and one to which nothing more comes
abbrev pub end_of_outcome : Result (Unit {0}) FailCause → NodeEnd
end_of_outcome (Ok x) = ends.Done
end_of_outcome (Err cause) = ends.Failed cause

abbrev pub last_end : Bool → NodeEnd
last_end true = ends.Done
last_end false = ends.Turns

-- a call of a link, and an event, that failed
abbrev pub end_of_link : Failed → NodeEnd
end_of_link failed.Fault = ends.LinkFault
end_of_link failed.NoMemory = ends.NoMemory

abbrev pub fault_of_sink : Failed → EventFault
fault_of_sink failed.Fault = fault.Sink
fault_of_sink failed.NoMemory = fault.NoMemory

abbrev pub fault_of_disk : Failed → EventFault
fault_of_disk failed.Fault = fault.Disk
fault_of_disk failed.NoMemory = fault.NoMemory

abbrev pub end_of_event : EventFault → NodeEnd
end_of_event fault.Sink = ends.WriteFault
end_of_event fault.Disk = ends.DiskFault
end_of_event fault.NoMemory = ends.NoMemory

abbrev pub IsUnchanged : {S : Type 0} → S → Beside → S → Beside → Type 0
IsUnchanged s b s' b' = (s' ≡ s) × (b' ≡ b)

-- asking for one more found the link closed: by an arrival, or since there are no more
abbrev pub FindsClosed : Option (List Arrival) → Option (List Arrival) → Type 0
FindsClosed None new = new ≡ None
FindsClosed (Some []) new = new ≡ Some []
FindsClosed (Some (a ∷ rest)) new = (is_closed a ≡ true) × (new ≡ Some rest)

abbrev pub ClosedFor : {S : Type 0} → S → Beside → S → Beside → Type 0
ClosedFor s b s' b' = (s' ≡ s) × FindsClosed b.coming b'.coming × (b' ≡ record b { coming = b'.coming })

-- Nothing more came to it: its turns are over, or the link is closed.
abbrev pub NoMoreComes : {S : Type 0} → ℕ → S → Beside → S → Beside → Type 0
NoMoreComes left s b s' b' = ((left ≡ 0) × IsUnchanged s b s' b') ⊎ ((0 < left) × ClosedFor s b s' b')

-- the sink took a beginning of these bytes
abbrev pub TookBeginning : Option (List ℕ) → List ℕ → Option (List ℕ) → Type 0
TookBeginning None text new = new ≡ None
TookBeginning (Some held) text new = (part : List ℕ) × IsBeginningOf part text × (new ≡ Some (held ++ part))

-- Events were taken together, and not all done: one failed, or what is to be kept of them could not be, nothing was sent for any and a beginning of
-- their bytes was written; or, for want of memory, fewer records were sent than the node sends for them.
abbrev pub FailsIn : {S : Type 0} → NodeRule S → S → List NodeEvent → Option SentRecords → Option (List ℕ) → EventFault → Option SentRecords → Option (List ℕ) → Type 0
FailsIn rule s events sent held e sent' held' =
    (TookBeginning held (text_over rule s events) held' × (sent' ≡ sent))
    ⊎ ((e ≡ fault.NoMemory) × (held' ≡ behind held (text_over rule s events))
    × ((part : ℕ) × (part < length (sends_over rule s events)) × (sent' ≡ behind sent (take part (sends_over rule s events)))))

pub record NodeBreaksOff {S : Type 0} (rule : NodeRule S) (left : ℕ) (s : S) (b : Beside) (end : NodeEnd) (b' : Beside) : Type 0 where
  pub events : List NodeEvent
  pub some : 0 < length events
  pub few : length events ≤ 1 + rule.more_at_once
  pub within : length events ≤ left
  pub came : TakesFront b.coming (map (λ (e : NodeEvent). e.arrival) events) b'.coming
  pub moments : GivesMoments b.moments b.moment (map (λ (e : NodeEvent). e.moment) events) b'.moments b'.moment
  pub live : AreOpen events
  pub going : HasNotEndedBefore rule s events
  pub error : EventFault
  pub fails : FailsIn rule s events b.sent b.held error b'.sent b'.held
  pub end_is : end ≡ end_of_event error

-- It had ended by itself; nothing more came to it; asking the link for more failed; or events were not all done.
abbrev pub Stops : {S : Type 0} → NodeRule S → ℕ → S → Beside → NodeEnd → S → Beside → Type 0
Stops rule left s b end s' b' =
    ((r : Result (Unit {0}) FailCause) × (rule.outcome s ≡ Some r) × (end ≡ end_of_outcome r) × IsUnchanged s b s' b')
    ⊎ ((rule.outcome s ≡ None)
    × (((end ≡ last_end rule.is_server) × NoMoreComes left s b s' b')
    ⊎ ((0 < left)
    × (((e : Failed) × (end ≡ end_of_link e) × IsUnchanged s b s' b')
    ⊎ NodeBreaksOff rule left s b end b'))))

-- ---- what serving did

-- the events at which it broke off, where it did
abbrev pub broken_at : {S : Type 0} {rule : NodeRule S} {left : ℕ} {s : S} {b : Beside} {end : NodeEnd} {s' : S} {b' : Beside} → Stops rule left s b end s' b' → List NodeEvent
broken_at (inl ended) = []
broken_at (inr (goes, inl none)) = []
broken_at (inr (goes, inr (more, inl failed))) = []
broken_at (inr (goes, inr (more, inr breaks))) = breaks.events

-- Events were taken and done, fewer than there were turns or as many; and then it stopped. `leaves` holds of the state that it had come to, the one
-- behind the events at which it broke off, where it did, and the disks then.
pub record NodeServesOn {S : Type 0} (leaves : S → S → Option DiskLife → Option DiskLife → Type 0) (rule : NodeRule S) (s : S) (turns : ℕ) (b : Beside) (end : NodeEnd) (s' : S) (b' : Beside) (disk spare : Option DiskLife) : Type 0 where
  pub mid : S
  pub beside_mid : Beside
  pub served : Served rule s b mid beside_mid
  pub left : ℕ
  pub turns_are : length served.taken + left ≡ turns
  pub stops : Stops rule left mid beside_mid end s' b'
  pub stands : leaves mid (state_after rule mid (broken_at stops)) disk spare

-- Before all events these records were sent; or, for want of memory, fewer of them, and no event was taken.
abbrev pub NodeRunsOn : {S : Type 0} → (S → S → Option DiskLife → Option DiskLife → Type 0) → NodeRule S → SentRecords → S → ℕ → Beside → NodeEnd → S → Beside → Option DiskLife → Option DiskLife → Type 0
NodeRunsOn leaves rule first s turns b end s' b' disk spare =
    NodeServesOn leaves rule s turns (with_sent b first) end s' b' disk spare
    ⊎ ((end ≡ ends.NoMemory) × (s' ≡ s) × ((part : ℕ) × (part < length first) × (b' ≡ with_sent b (take part first))) × leaves s s disk spare)

-- the same of a node that keeps nothing on disks
abbrev pub LeavesNothing : {S : Type 0} → S → S → Option DiskLife → Option DiskLife → Type 0
LeavesNothing s broken disk spare = ⊤

abbrev pub NodeServes : {S : Type 0} → NodeRule S → S → ℕ → Beside → NodeEnd → S → Beside → Type 0
NodeServes rule s turns b end s' b' = NodeServesOn LeavesNothing rule s turns b end s' b' None None

abbrev pub NodeRuns : {S : Type 0} → NodeRule S → SentRecords → S → ℕ → Beside → NodeEnd → S → Beside → Type 0
NodeRuns rule first s turns b end s' b' = NodeRunsOn LeavesNothing rule first s turns b end s' b' None None

-- The link was opened so, and this was done over it; or opening it failed, and nothing was done.
abbrev pub OpensThen : Option Opening → Config → Role → Beside → NodeEnd → Option Opening → Beside → Type 0 → Type 0
OpensThen opened config role b end opened' b' Done =
    ((opened' ≡ Some (opening_of config role)) × Done) ⊎ ((e : Failed) × (end ≡ end_of_link e) × (opened' ≡ opened) × (b' ≡ b))

-- the counts of the link's faults and of the sink's: one more exactly at LinkFault, and at WriteFault
abbrev pub link_faults : NodeEnd → ℕ → ℕ
link_faults ends.LinkFault n = one_more n
link_faults end n = n

abbrev pub sink_faults : NodeEnd → ℕ → ℕ
sink_faults ends.WriteFault n = one_more n
sink_faults end n = n

-- the count of the disks'
abbrev pub disk_faults : NodeEnd → ℕ → ℕ
disk_faults ends.DiskFault n = one_more n
disk_faults end n = n

-- the counts of the sink's faults and of the disks' after an event with this result
abbrev pub sink_counted : {T : Type 0} → Result T EventFault → ℕ → ℕ
sink_counted (Err fault.Sink) n = one_more n
sink_counted result n = n

abbrev pub disk_counted : {T : Type 0} → Result T EventFault → ℕ → ℕ
disk_counted (Err fault.Disk) n = one_more n
disk_counted result n = n

-- ---- parts of it

-- All of some records were sent, or, for want of memory, fewer from their front.
abbrev pub SendsAll : Option SentRecords → SentRecords → Result (Unit {0}) NoMemory → Option SentRecords → Type 0
SendsAll sent records (Ok x) sent' = sent' ≡ behind sent records
SendsAll sent records (Err e) sent' = (n : ℕ) × (n < length records) × (sent' ≡ behind sent (take n records))

-- So many events were taken and done, of which none was answered yet: what is to be sent for them stands behind what was to be.
pub record TakesAll {S : Type 0} (rule : NodeRule S) (s : S) (b : Beside) (waiting : SentRecords) (n : ℕ) (s' : S) (b' : Beside) (waiting' : SentRecords) : Type 0 where
  pub taken : List NodeEvent
  pub count : length taken ≡ n
  pub came : TakesFront b.coming (map (λ (e : NodeEvent). e.arrival) taken) b'.coming
  pub moments : GivesMoments b.moments b.moment (map (λ (e : NodeEvent). e.moment) taken) b'.moments b'.moment
  pub live : AreOpen taken
  pub going : HasNotEndedBefore rule s taken
  pub state : s' ≡ state_after rule s taken
  pub sends : waiting' ≡ waiting ++ sends_over rule s taken
  pub sent : b'.sent ≡ b.sent
  pub text : b'.held ≡ behind b.held (text_over rule s taken)

-- At most so many were taken, and the last of them failed.
pub record TakesInPart {S : Type 0} (rule : NodeRule S) (s : S) (b : Beside) (most : ℕ) (b' : Beside) : Type 0 where
  pub taken : List NodeEvent
  pub some : 0 < length taken
  pub few : length taken ≤ most
  pub came : TakesFront b.coming (map (λ (e : NodeEvent). e.arrival) taken) b'.coming
  pub moments : GivesMoments b.moments b.moment (map (λ (e : NodeEvent). e.moment) taken) b'.moments b'.moment
  pub live : AreOpen taken
  pub going : HasNotEndedBefore rule s taken
  pub sent : b'.sent ≡ b.sent
  pub text : TookBeginning b.held (text_over rule s taken) b'.held

abbrev pub TakesMore : {S : Type 0} → NodeRule S → S → Beside → SentRecords → ℕ → Result ℕ EventFault → S → Beside → SentRecords → Type 0
TakesMore rule s b sends most (Ok n) s' b' sends' = TakesAll rule s b sends n s' b' sends' × (n ≤ most)
TakesMore rule s b sends most (Err e) s' b' sends' = TakesInPart rule s b most b'

-- What a node did that took an event, and more with it: the node, what is sent and what is written are by its rule; or it failed, and `Left` holds of
-- the state behind them.
pub record DoesTogether {S : Type 0} (rule : NodeRule S) (Left : S → Type 0) (s : S) (first : NodeEvent) (more : ℕ) (b : Beside) (result : Result ℕ EventFault) (s' : S) (b' : Beside) : Type 0 where
  pub taken : List NodeEvent
  pub few : length taken ≤ more
  pub came : TakesFront b.coming (map (λ (e : NodeEvent). e.arrival) taken) b'.coming
  pub moments : GivesMoments b.moments b.moment (map (λ (e : NodeEvent). e.moment) taken) b'.moments b'.moment
  pub live : AreOpen taken
  pub going : HasNotEndedBefore rule (rule.step s first).state taken
  pub done : (n : ℕ) → result ≡ Ok n → (n ≡ 1 + length taken) × (s' ≡ state_after rule s (first ∷ taken)) × (b'.sent ≡ behind b.sent (sends_over rule s (first ∷ taken))) × (b'.held ≡ behind b.held (text_over rule s (first ∷ taken)))
  pub broken : (e : EventFault) → result ≡ Err e → FailsIn rule s (first ∷ taken) b.sent b.held e b'.sent b'.held
  pub left : (e : EventFault) → result ≡ Err e → Left (state_after rule s (first ∷ taken))

-- the settled state is kept on the disks, and what is to be kept since waits; or, where it failed, a crash leaves that state, whatever it broke off at
abbrev pub KeepsOr : {S N T E : Type 0} → (S → N → Option DiskLife → Option DiskLife → Type 0) → (S → S → Option DiskLife → Option DiskLife → Type 0) → S → N → Result T E → Option DiskLife → Option DiskLife → Type 0
KeepsOr keeps leaves settled node (Ok x) disk spare = keeps settled node disk spare
KeepsOr keeps leaves settled node (Err e) disk spare = (broken : _) → leaves settled broken disk spare

-- what a node wrote for an event: its bytes, or at an error a beginning of them
abbrev pub WritesFor : {T E : Type 0} → Option (List ℕ) → List ℕ → Result T E → Option (List ℕ) → Type 0
WritesFor held text (Ok x) new = new ≡ behind held text
WritesFor held text (Err e) new = TookBeginning held text new

-- What a turn of serving did, of which so many arrivals may be taken at most: so many were, and done; or it ended the serving.
abbrev pub TakesTurn : {S : Type 0} → (S → S → Option DiskLife → Option DiskLife → Type 0) → NodeRule S → S → ℕ → Beside → Result ℕ NodeEnd → S → Beside → Option DiskLife → Option DiskLife → Type 0
TakesTurn leaves rule s left b (Ok n) s' b' disk spare = (served : Served rule s b s' b') × (length served.taken ≡ n) × (0 < n) × (n ≤ left)
TakesTurn leaves rule s left b (Err end) s' b' disk spare = NodeServesOn leaves rule s left b end s' b' disk spare

-- the counts of faults after a turn
abbrev pub turn_faults : (NodeEnd → ℕ → ℕ) → Result ℕ NodeEnd → ℕ → ℕ
turn_faults faults (Ok taken) n = n
turn_faults faults (Err end) n = faults end n
