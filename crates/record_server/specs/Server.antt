-- What a server of connections does: rounds over its connections, made of steps.
--
-- A round begins when each connection was visited in the one before: those that are over are closed, the network is asked what may be done,
-- and what waits is accepted. Then each connection in order is visited: what is to go on it is written, and it is read once. Records that
-- are whole are handed out of the one that was visited last, so many at most, and what was put on it then is written before the next visit.
use Rattle.std.specs.Prelude.{◌≡◌, ◌≢◌, ◌⊎◌, ⊤, ℕ, ◌+◌, ◌-◌, ◌^◌, ◌<◌, ◌≤◌, ◌==◌, ◌||◌, max, Bool, true, false, not, if◌then◌else◌, List, [], ◌∷◌, ◌++◌, length, map, take, drop, slice_get, slice_set, Option, None, Some, Result, Ok, Err}
use Rattle.std.specs.List.{filter, list_all, list_any, All}
use Rattle.ff_xdr.specs.declared.error.NoMemory.{NoMemory}
use Rattle.device_addr.specs.declared.net_addr.NetAddr.{NetAddr}
use Rattle.rpc_record.specs.declared.stream.Failed.{Failed}
use Rattle.rpc_record.specs.declared.stream.Failed.TheVariants as failed
use Rattle.rpc_record.specs.Stream.{one_more}
use Rattle.rpc_record.specs.Frames.{max_record}
use Rattle.record_link.specs.Peers.{PeerState, new_peer, is_ready, is_to_close, is_spare, is_to_write, resumed, excused_peer, HandsPeer, PutsPeer, WritesIf, VisitsPeer}
use Rattle.record_server.specs.declared.server.TheConstants.{MAX_CONNECTIONS, MOST_HANDED, MOST_OPEN}
use Rattle.record_server.specs.Network.{Waiting, Made, ComesNext, made_more, waited_more}

-- The connections in the order of their numbers, each with what its own stream tells; how many numbers are given; the time in
-- milliseconds; how many connections were visited in this round; how many records were handed out of the last of them since; what those
-- that are still to be accepted will give; the tries to make one, and to which addresses;
-- what the network reported last, and the last moment that it gave; and how many calls of the network have met a fault.
pub record ServingState : Type 0 where
  pub peers : List PeerState
  pub given : ℕ
  pub time : ℕ
  pub place : ℕ
  pub handed : ℕ
  pub waiting : Waiting
  pub made : Made
  pub reported : List ℕ
  pub moment : ℕ
  pub faults : ℕ

abbrev pub no_connections : Waiting → Made → List ℕ → ℕ → ℕ → ServingState
no_connections waiting made reported moment faults = record { peers = []; given = 0; time = 0; place = 0; handed = 0; waiting = waiting; made = made; reported = reported; moment = moment; faults = faults }

-- the numbers are above this one, and rise
abbrev pub AreRising : ℕ → List PeerState → Type 0
AreRising low [] = ⊤
AreRising low (e ∷ es) = (low < e.number) × AreRising e.number es

-- they are among those that are given
abbrev pub AreGiven : ℕ → List PeerState → Type 0
AreGiven given [] = ⊤
AreGiven given (e ∷ es) = (e.number ≤ given) × AreGiven given es

pub record IsOrderly (peers : List PeerState) (given place : ℕ) : Type 0 where
  pub rising : AreRising 0 peers
  pub numbered : AreGiven given peers
  pub within : place ≤ length peers

-- ---- one connection of them

-- the connection of this number stands at this place
pub record IsPlaceOf (number : ℕ) (peers : List PeerState) (place : ℕ) : Type 0 where
  pub peer : PeerState
  pub at : slice_get peers place ≡ Some peer
  pub numbered : peer.number ≡ number

abbrev pub HasNoNumber : ℕ → List PeerState → Type 0
HasNoNumber number peers = (i : ℕ) (e : PeerState) → slice_get peers i ≡ Some e → e.number ≢ number

-- the connection of this number is open, or is not
abbrev pub IsListed : Bool → ℕ → List PeerState → Type 0
IsListed true number peers = (place : ℕ) × IsPlaceOf number peers place
IsListed false number peers = HasNoNumber number peers

abbrev pub with_peer : ServingState → ℕ → PeerState → ServingState
with_peer s place e = record s { peers = slice_set s.peers place e }

-- ---- the beginning of a round

-- what the network reported may be tried; where it reported nothing, and its wait was over, all may be
abbrev pub was_reported : List ℕ → ℕ → Bool
was_reported [] number = true
was_reported (first ∷ rest) number = list_any (λ n. n == number) (first ∷ rest)

abbrev pub resumed_by : List ℕ → PeerState → PeerState
resumed_by reported e = if was_reported reported e.number then resumed e else e

-- What is tried again of these connections: what was reported. Where nothing was, they stay as they are, or a wait was over.
abbrev pub TriesAgain : List ℕ → List PeerState → List PeerState → Type 0
TriesAgain reported old new = (new ≡ map (resumed_by reported) old) ⊎ ((reported ≡ []) × (new ≡ old))

abbrev pub swept : ServingState → ServingState
swept s = record s { peers = filter (λ e. not (is_to_close e)) s.peers; place = 0; handed = 0 }

-- There was room for another, or of those that may be closed for it the one that was silent for the longest time was closed.
abbrev pub HasNoSpare : ℕ → List PeerState → Type 0
HasNoSpare time peers = (i : ℕ) (e : PeerState) → slice_get peers i ≡ Some e → is_spare time e ≡ false

pub record IsLongestSpare (time : ℕ) (peers : List PeerState) (place : ℕ) : Type 0 where
  pub peer : PeerState
  pub at : slice_get peers place ≡ Some peer
  pub spare : is_spare time peer ≡ true
  pub longest : (i : ℕ) (e : PeerState) → slice_get peers i ≡ Some e → is_spare time e ≡ true → peer.heard ≤ e.heard

abbrev pub MakesRoom : ℕ → List PeerState → List PeerState → Type 0
MakesRoom time old new =
    ((length old < MAX_CONNECTIONS) × (new ≡ old))
    ⊎ ((MAX_CONNECTIONS ≤ length old) × (place : ℕ) × IsLongestSpare time old place × (new ≡ take place old ++ drop (place + 1) old))

-- whether there is room, and at which place one is to be closed for it
abbrev pub FindsRoom : ℕ → List PeerState → Option (Option ℕ) → Type 0
FindsRoom time peers None = (MAX_CONNECTIONS ≤ length peers) × HasNoSpare time peers
FindsRoom time peers (Some None) = length peers < MAX_CONNECTIONS
FindsRoom time peers (Some (Some place)) = (MAX_CONNECTIONS ≤ length peers) × IsLongestSpare time peers place

-- one more connection, under this number
abbrev pub with_opened : ServingState → List PeerState → ℕ → Option (List ℕ) → Option (List ℕ) → ℕ → ServingState
with_opened s peers number coming went faults = record s { peers = peers ++ new_peer number s.time coming went faults ∷ []; given = number }

-- ---- the steps

pub data ServingStep : Type 0 where
  -- a round begins at this moment, and the network reported these
  Begins : (time : ℕ) (reported : List ℕ) → ServingStep
  -- a connection was accepted under this number, whose stream tells this
  Accepts : (number : ℕ) (coming went : Option (List ℕ)) (faults : ℕ) → ServingStep
  -- the next connection of the round was visited; bytes came or none
  Visits : (came : Bool) → ServingStep
  -- the one that was visited last was written once more
  Leaves : ServingStep
  -- a connection was made to an address under this number, whose stream tells this
  Makes : (number : ℕ) (address : NetAddr) (coming went : Option (List ℕ)) (faults : ℕ) → ServingStep
  -- one was to be made to an address, and none was
  Misses : (address : NetAddr) → ServingStep
  -- at the end of all: what is to go on the connection at this place was written
  Pushes : (place : ℕ) → ServingStep
  -- at the end of all: it was waited, or could not be, and the clock shows this
  Passes : (could : Bool) (time : ℕ) → ServingStep
  -- at the end of all: those on which something is still to go were closed
  Ends : ServingStep

abbrev pub DoesStep : ServingStep → ServingState → ServingState → Type 0
DoesStep (Begins time reported) old new =
    (length old.peers ≤ old.place) × (old.moment ≤ time)
    × ((tries : List PeerState) × TriesAgain reported (swept old).peers tries × (new ≡ record (swept old) { peers = tries; time = max old.time time; reported = reported; moment = time }))
DoesStep (Accepts number coming went faults) old new =
    (old.place ≡ 0) × (number ≡ old.given + 1) × (number < 2 ^ 32) × ComesNext old.waiting coming new.waiting
    × ((room : List PeerState) × MakesRoom old.time old.peers room × (new ≡ record (with_opened old room number coming went faults) { waiting = new.waiting }))
DoesStep (Visits came) old new =
    (e : PeerState) × (after : PeerState) × (slice_get old.peers old.place ≡ Some e) × VisitsPeer old.time e (Ok came) after
    × (new ≡ record (with_peer old old.place after) { place = old.place + 1; handed = 0 })
DoesStep Leaves old new =
    (p : ℕ) × (e : PeerState) × (after : PeerState) × (old.place ≡ p + 1) × (slice_get old.peers p ≡ Some e)
    × WritesIf (is_to_write old.time e) old.time e after × (new ≡ with_peer old p after)
DoesStep (Makes number address coming went faults) old new =
    (length old.peers < MOST_OPEN) × (number ≡ old.given + 1) × (number < 2 ^ 32) × (new ≡ record (with_opened old old.peers number coming went faults) { made = made_more old.made number address })
DoesStep (Misses address) old new = new ≡ record old { made = made_more old.made 0 address }
DoesStep (Pushes place) old new =
    (e : PeerState) × (after : PeerState) × (slice_get old.peers place ≡ Some e)
    × WritesIf (is_to_write old.time (resumed e)) old.time (resumed e) after × (new ≡ with_peer old place after)
DoesStep (Passes could time) old new =
    (old.moment ≤ time) × (new ≡ record old { time = max old.time time; reported = new.reported; moment = time; faults = waited_more could old.faults })
DoesStep Ends old new = new ≡ record old { peers = filter (λ e. length e.connection.to_go == 0) old.peers; place = 0; handed = 0 }

-- it is one of a round
abbrev pub IsOfRound : ServingStep → Type 0
IsOfRound (Begins time reported) = ⊤
IsOfRound (Accepts number coming went faults) = ⊤
IsOfRound (Visits came) = ⊤
IsOfRound Leaves = ⊤
IsOfRound (Makes number address coming went faults) = ⊥
IsOfRound (Misses address) = ⊥
IsOfRound (Pushes place) = ⊥
IsOfRound (Passes could time) = ⊥
IsOfRound Ends = ⊥

-- it is one of a turn at the end, before the last of all
abbrev pub IsOfEnd : ServingStep → Type 0
IsOfEnd (Begins time reported) = ⊥
IsOfEnd (Accepts number coming went faults) = ⊥
IsOfEnd (Visits came) = ⊥
IsOfEnd Leaves = ⊥
IsOfEnd (Makes number address coming went faults) = ⊥
IsOfEnd (Misses address) = ⊥
IsOfEnd (Pushes place) = ⊤
IsOfEnd (Passes could time) = ⊤
IsOfEnd Ends = ⊥

-- what steps do, one after the other
abbrev pub RunsSteps : List ServingStep → ServingState → ServingState → Type 0
RunsSteps [] old new = new ≡ old
RunsSteps (step ∷ steps) old new = (mid : ServingState) × DoesStep step old mid × RunsSteps steps mid new

-- steps of these kinds were done, so many at least
pub record GoesBy (kind : ServingStep → Type 0) (n : ℕ) (old new : ServingState) : Type 0 where
  pub steps : List ServingStep
  pub kinds : All kind steps
  pub many : n ≤ length steps
  pub runs : RunsSteps steps old new

-- a server went on by rounds alone
abbrev pub GoesRound : ServingState → ServingState → Type 0
GoesRound old new = GoesBy IsOfRound 0 old new

-- ---- what its calls do

-- the record that is whole was handed out of the connection that was visited last, which has this number
pub record HandsOn (number : ℕ) (message : List ℕ) (old new : ServingState) : Type 0 where
  pub place : ℕ
  pub peer : PeerState
  pub after : PeerState
  pub last : old.place ≡ place + 1
  pub at : slice_get old.peers place ≡ Some peer
  pub numbered : peer.number ≡ number
  pub ready : is_ready peer ≡ true
  pub few : old.handed < MOST_HANDED
  pub hands : HandsPeer peer (Ok (Some message)) after
  pub rest : new ≡ record (with_peer old place after) { handed = old.handed + 1 }

-- for what memory was wanted
pub data Want : Type 0 where
  -- behind a record that was to be handed out of the one visited last: the record is lost
  ToHand : Want
  -- to read the next connection of the round: bytes may have come that are still ahead
  ToRead : Want
  -- to open one that was accepted, and for which room was made: it is dropped
  ToOpen : Want
  -- to accept one: nothing was done
  ToAccept : Want

abbrev pub Wants : Want → ServingState → ServingState → Type 0
Wants ToHand old new =
    (x : NoMemory) × (p : ℕ) × (e : PeerState) × (after : PeerState) × (old.place ≡ p + 1) × (slice_get old.peers p ≡ Some e) × HandsPeer e (Err x) after × (new ≡ with_peer old p after)
Wants ToRead old new =
    (x : NoMemory) × (e : PeerState) × (after : PeerState) × (slice_get old.peers old.place ≡ Some e) × VisitsPeer old.time e (Err x) after × (new ≡ with_peer old old.place after)
Wants ToOpen old new =
    (coming : Option (List ℕ)) × ComesNext old.waiting coming new.waiting
    × ((room : List PeerState) × MakesRoom old.time old.peers room × (new ≡ record old { peers = room; waiting = new.waiting }))
Wants ToAccept old new = new ≡ old

-- How it ends at an error: the network could not accept, or could not wait at the beginning of a round; or memory was wanted.
abbrev pub StopsBy : Failed → ServingState → ServingState → Type 0
StopsBy failed.Fault old new = (new ≡ record old { faults = one_more old.faults }) ⊎ (new ≡ record (swept old) { reported = new.reported; faults = one_more old.faults })
StopsBy failed.NoMemory old new = (want : Want) × Wants want old new

abbrev pub GoesAndEnds : Failed → ServingState → ServingState → Type 0
GoesAndEnds e old new = (mid : ServingState) × GoesRound old mid × StopsBy e mid new

-- ---- what the parts of a round do

-- no record may be handed out of the one visited last; or one was
abbrev pub HandsOrNot : ServingState → Result (Option (ℕ × List ℕ)) NoMemory → ServingState → Type 0
HandsOrNot old (Ok None) new = new ≡ old
HandsOrNot old (Ok (Some handed)) new = HandsOn handed.0 handed.1 old new
HandsOrNot old (Err e) new = Wants ToHand old new

-- the one visited last was written once more, where there is one
abbrev pub LeavesOrNot : ServingState → ServingState → Type 0
LeavesOrNot old new = ((old.place ≡ 0) × (new ≡ old)) ⊎ DoesStep Leaves old new

-- the next of the round was visited
abbrev pub VisitsNext : ServingState → Result (Unit {0}) NoMemory → ServingState → Type 0
VisitsNext old (Ok x) new = (came : Bool) × DoesStep (Visits came) old new
VisitsNext old (Err e) new = Wants ToRead old new

-- the network was asked what may be done
abbrev pub Asks : ServingState → Bool → ServingState → Type 0
Asks old true new =
    (time : ℕ) × (reported : List ℕ) × (old.moment ≤ time)
    × ((tries : List PeerState) × TriesAgain reported old.peers tries × (new ≡ record old { peers = tries; time = max old.time time; reported = reported; moment = time }))
Asks old false new = new ≡ record old { reported = new.reported; faults = one_more old.faults }

-- what keeping a connection that was accepted did, whose stream tells this
abbrev pub Admits : ServingState → Option (List ℕ) → Option (List ℕ) → ℕ → Result (Unit {0}) NoMemory → ServingState → Type 0
Admits old coming went faults (Ok x) new = (room : List PeerState) × MakesRoom old.time old.peers room × (new ≡ with_opened old room (old.given + 1) coming went faults)
Admits old coming went faults (Err e) new = (room : List PeerState) × MakesRoom old.time old.peers room × (new ≡ record old { peers = room })

-- one that waits was accepted, or none
abbrev pub AcceptsOne : ServingState → Result Bool Failed → ServingState → Type 0
AcceptsOne old (Ok more) new =
    (new ≡ old) ⊎ ((number : ℕ) × (coming : Option (List ℕ)) × (went : Option (List ℕ)) × (faults : ℕ) × DoesStep (Accepts number coming went faults) old new)
AcceptsOne old (Err failed.Fault) new = new ≡ record old { faults = one_more old.faults }
AcceptsOne old (Err failed.NoMemory) new = Wants ToAccept old new ⊎ Wants ToOpen old new

-- all that wait were, as far as there is room
abbrev pub AcceptsAll : ServingState → Result (Unit {0}) Failed → ServingState → Type 0
AcceptsAll old (Ok x) new = GoesRound old new
AcceptsAll old (Err e) new = GoesAndEnds e old new

-- no connection is left, and all numbers are given
abbrev pub IsSpent : ServingState → Type 0
IsSpent s = (length s.peers ≡ 0) × (s.given ≡ 2 ^ 32 - 1)

-- a whole round that began at this time or behind it was gone through
abbrev pub IsTimeOver : ℕ → ServingState → Type 0
IsTimeOver until s = (until ≤ s.time) × (length s.peers ≤ s.place)

-- What asking for the next record did, until a time: rounds, and in the last of them the record was handed out. There is none where the
-- time is over, where no connection is left and all numbers are given, or after very many steps.
abbrev pub GivesRecord : ℕ → ServingState → Result (Option (ℕ × List ℕ)) Failed → ServingState → Type 0
GivesRecord until old (Ok (Some handed)) new = (mid : ServingState) × GoesRound old mid × HandsOn handed.0 handed.1 mid new
GivesRecord until old (Ok None) new = (GoesRound old new × (IsTimeOver until new ⊎ IsSpent new)) ⊎ GoesBy IsOfRound (2 ^ 64 - 1) old new
GivesRecord until old (Err e) new = GoesAndEnds e old new

-- The same of the rest of a round, behind which all were visited.
abbrev pub EndsRound : ServingState → Result (Option (ℕ × List ℕ)) NoMemory → ServingState → Type 0
EndsRound old (Ok (Some handed)) new = GivesRecord 0 old (Ok (Some handed)) new
EndsRound old (Ok None) new = GoesRound old new × (length new.peers ≤ new.place)
EndsRound old (Err e) new = GoesAndEnds failed.NoMemory old new

-- What beginning a round did: a first step at least.
abbrev pub BeginsRound : ServingState → Result (Unit {0}) Failed → ServingState → Type 0
BeginsRound old (Ok x) new = GoesBy IsOfRound 1 old new
BeginsRound old (Err e) new = GoesAndEnds e old new

-- a message was put on the connection of this number, which is open
pub record PutsOn (number : ℕ) (message : List ℕ) (old new : ServingState) : Type 0 where
  pub place : ℕ
  pub found : IsPlaceOf number old.peers place
  pub after : PeerState
  pub puts : PutsPeer found.peer message (Ok tt) after
  pub rest : new ≡ with_peer old place after

-- What sending did: the message stands behind what is to go on the connection of this number. Where that is gone, or the message is longer
-- than a record may be, it is lost.
abbrev pub SendsRecord : ℕ → List ℕ → ServingState → Result (Unit {0}) NoMemory → ServingState → Type 0
SendsRecord number message old (Ok x) new = PutsOn number message old new ⊎ ((HasNoNumber number old.peers ⊎ (max_record < length message)) × (new ≡ old))
SendsRecord number message old (Err e) new = new ≡ old

-- what excusing a call did
pub record ExcusesOn (number : ℕ) (old new : ServingState) : Type 0 where
  pub place : ℕ
  pub found : IsPlaceOf number old.peers place
  pub rest : new ≡ with_peer old place (excused_peer found.peer)

abbrev pub ExcusesCall : ℕ → ServingState → ServingState → Type 0
ExcusesCall number old new = ExcusesOn number old new ⊎ (HasNoNumber number old.peers × (new ≡ old))

-- What making a connection to an address did: it is open under the next number. Or there is none: as many are open as may be, or all
-- numbers are given; or the network was asked for it and made none.
abbrev pub Connects : NetAddr → ServingState → Result (Option ℕ) NoMemory → ServingState → Type 0
Connects address old (Ok (Some number)) new =
    (coming : Option (List ℕ)) × (went : Option (List ℕ)) × (faults : ℕ) × DoesStep (Makes number address coming went faults) old new
Connects address old (Ok None) new = (((MOST_OPEN ≤ length old.peers) ⊎ (old.given ≡ 2 ^ 32 - 1)) × (new ≡ old)) ⊎ DoesStep (Misses address) old new
Connects address old (Err e) new = new ≡ old

-- nothing is to go on any connection
abbrev pub HasGivenAll : ServingState → Type 0
HasGivenAll s = (i : ℕ) (e : PeerState) → slice_get s.peers i ≡ Some e → length e.connection.to_go ≡ 0

-- what is to go on the connection at a place was written, if it would go
abbrev pub PushesAt : ℕ → ℕ → List PeerState → List PeerState → Type 0
PushesAt place time old new =
    (e : PeerState) × (after : PeerState) × (slice_get old place ≡ Some e) × WritesIf (is_to_write time (resumed e)) time (resumed e) after × (new ≡ slice_set old place after)

-- nothing is to go, but on connections that are to be closed
abbrev pub has_settled : List PeerState → Bool
has_settled peers = list_all (λ e. length e.connection.to_go == 0 || is_to_close e) peers

-- a push for each of these connections, in order, of which the first stands at a place
abbrev pub pushes_from : ℕ → List PeerState → List ServingStep
pushes_from place [] = []
pushes_from place (e ∷ es) = Pushes place ∷ pushes_from (place + 1) es

-- what is to go on each connection was written, in order, if it would go
abbrev pub PushesAll : ServingState → ServingState → Type 0
PushesAll old new = RunsSteps (pushes_from 0 old.peers) old new

-- Where all is settled nothing more was done, and none is to come. Else it was waited, and the answer is whether it could be.
abbrev pub PassesUnless : Bool → ServingState → Bool → ServingState → Type 0
PassesUnless true old goes_on new = (goes_on ≡ false) × (new ≡ old)
PassesUnless false old goes_on new = (time : ℕ) × DoesStep (Passes goes_on time) old new

-- what one turn of flushing did, and whether another is to come
abbrev pub PushesOn : ServingState → Bool → ServingState → Type 0
PushesOn old goes_on new = (mid : ServingState) × PushesAll old mid × PassesUnless (has_settled mid.peers) mid goes_on new

-- turns behind each of which another is to come, with what each of them left
abbrev pub PushesTurns : List ServingState → ServingState → ServingState → Type 0
PushesTurns [] old new = new ≡ old
PushesTurns (mid ∷ mids) old new = PushesOn old true mid × PushesTurns mids mid new

-- turns of flushing, up to one behind which none is to come, or very many
abbrev pub PushesOut : ServingState → ServingState → Type 0
PushesOut old new =
    (mids : List ServingState) × (last : ServingState) × PushesTurns mids old last × (PushesOn last false new ⊎ ((length mids ≡ 2 ^ 64 - 1) × (new ≡ last)))

-- What flushing did: turns, and behind them those on which something is still to go were closed. So nothing is to go.
abbrev pub Flushes : ServingState → ServingState → Type 0
Flushes old new = ((last : ServingState) × PushesOut old last × DoesStep Ends last new) × HasGivenAll new
