-- Whole histories of a server, and what they say of each connection.
use Rattle.std.specs.Prelude.{⊤, ◌≡◌, ℕ, ◌==◌, Bool, true, false, if◌then◌else◌, List, [], ◌∷◌, ◌++◌, length, map, ◌<◌, ◌≤◌, ◌⊎◌, slice_get, Option, None, Some, Ok}
use Rattle.std.specs.List.{All}
use Rattle.record_link.specs.Stream.{Comes, gone_more}
use Rattle.record_link.specs.Connection.{HasCome, HasGone, is_refused}
use Rattle.record_link.specs.Peers.{PeerState}
use Rattle.rpc_record.specs.Frames.{max_record}
use Rattle.device_addr.specs.declared.net_addr.NetAddr.{NetAddr}
use Rattle.record_server.specs.declared.server.TheConstants.{MOST_OPEN}
use Rattle.record_server.specs.Network.{Waiting, Made}
use Rattle.record_server.specs.Server.{ServingState, no_connections, ServingStep, Begins, Accepts, Visits, Leaves, Makes, Misses, Pushes, Passes, Ends, DoesStep, IsOfEnd, HandsOn, PutsOn, ExcusesOn, GivesRecord, SendsRecord, Connects, Flushes, HasNoNumber}

-- what a server does
pub data Event : Type 0 where
  -- a step
  Does : (step : ServingStep) → Event
  -- this record was handed out, of the connection of this number
  Hands : (number : ℕ) (message : List ℕ) → Event
  -- this message was put behind what is to go on the connection of this number, which is open
  Puts : (number : ℕ) (message : List ℕ) → Event
  -- a call of the connection of this number, which is open, gets no answer
  Excuses : (number : ℕ) → Event

-- what an event does
abbrev pub DoesEvent : Event → ServingState → ServingState → Type 0
DoesEvent (Does step) old new = DoesStep step old new
DoesEvent (Hands number message) old new = HandsOn number message old new
DoesEvent (Puts number message) old new = PutsOn number message old new
DoesEvent (Excuses number) old new = ExcusesOn number old new

-- events, one after the other
abbrev pub HasHappened : List Event → ServingState → ServingState → Type 0
HasHappened [] old new = new ≡ old
HasHappened (event ∷ events) old new = (mid : ServingState) × DoesEvent event old mid × HasHappened events mid new

-- What was done under a number: what the stream told when it was opened under it, of the bytes to come and of those that went;
-- the records that were handed out since, and the messages that were put, in order.
pub record Account : Type 0 where
  pub to_come : Option (List ℕ)
  pub went : Option (List ℕ)
  pub messages : List (List ℕ)
  pub sent : List (List ℕ)

abbrev pub new_account : Option (List ℕ) → Option (List ℕ) → Account
new_account to_come went = record { to_come = to_come; went = went; messages = []; sent = [] }

-- one more record, and one more message that was put
abbrev pub with_message : Account → List ℕ → Account
with_message a message = record { to_come = a.to_come; went = a.went; messages = a.messages ++ message ∷ []; sent = a.sent }

abbrev pub with_sent : Account → List ℕ → Account
with_sent a message = record { to_come = a.to_come; went = a.went; messages = a.messages; sent = a.sent ++ message ∷ [] }

-- the account of each number
abbrev pub Accounts : Type 0
Accounts = ℕ → Account

abbrev pub no_accounts : Accounts
no_accounts number = new_account None None

-- the accounts with this one of this number
abbrev pub with_account : Accounts → ℕ → Account → Accounts
with_account accounts number a k = if k == number then a else accounts k

-- the accounts after an event
abbrev pub account_step : ServingStep → Accounts → Accounts
account_step (Accepts number to_come went faults) accounts = with_account accounts number (new_account to_come went)
account_step (Makes number address to_come went faults) accounts = with_account accounts number (new_account to_come went)
account_step (Misses address) accounts = accounts
account_step (Begins time reported) accounts = accounts
account_step (Visits came) accounts = accounts
account_step Leaves accounts = accounts
account_step (Pushes place) accounts = accounts
account_step (Passes could time) accounts = accounts
account_step Ends accounts = accounts

abbrev pub account_event : Event → Accounts → Accounts
account_event (Does step) accounts = account_step step accounts
account_event (Hands number message) accounts = with_account accounts number (with_message (accounts number) message)
account_event (Puts number message) accounts = with_account accounts number (with_sent (accounts number) message)
account_event (Excuses number) accounts = accounts

abbrev pub accounts_after : List Event → Accounts → Accounts
accounts_after [] accounts = accounts
accounts_after (event ∷ events) accounts = accounts_after events (account_event event accounts)

-- A connection stands as its account says: the bytes that came on it are the next of those that were to come, and the records
-- that were handed out are those of them, in order, each once; the bytes that went on it, and behind them those that are to go,
-- are the records of the messages that were put, in order, each once. Of one that is refused only these are told.
pub record StandsAs (a : Account) (e : PeerState) : Type 0 where
  pub came : List ℕ
  pub of_stream : Comes a.to_come came e.coming
  pub handed : is_refused e.connection.front ≡ false → HasCome came a.messages e.connection
  pub left : List ℕ
  pub to_stream : e.gone ≡ gone_more a.went left
  pub put : HasGone left a.sent e.connection

-- so stands each connection that is open after this history of a server that began with none
abbrev pub AllStand : Waiting → Made → List ℕ → ℕ → ℕ → List Event → ServingState → Type 0
AllStand waiting made reported moment faults events new =
    HasHappened events (no_connections waiting made reported moment faults) new → (i : ℕ) (e : PeerState) → slice_get new.peers i ≡ Some e
    → StandsAs (accounts_after events no_accounts e.number) e

-- no more connections than may be are open after it
abbrev pub FewOpen : Waiting → Made → List ℕ → ℕ → ℕ → List Event → ServingState → Type 0
FewOpen waiting made reported moment faults events new = HasHappened events (no_connections waiting made reported moment faults) new → length new.peers ≤ MOST_OPEN

-- ---- the calls of a server as events

-- only steps
abbrev pub OnlySteps : ServingState → ServingState → Type 0
OnlySteps old new = (steps : List ServingStep) × HasHappened (map Does steps) old new

-- a record was handed out behind steps
abbrev pub NextHappens : Type 0
NextHappens = (until : ℕ) (old new : ServingState) (number : ℕ) (message : List ℕ) → GivesRecord until old (Ok (Some (number, message))) new
    → (steps : List ServingStep) × HasHappened (map Does steps ++ Hands number message ∷ []) old new

-- no record was
abbrev pub WaitHappens : Type 0
WaitHappens = (until : ℕ) (old new : ServingState) → GivesRecord until old (Ok None) new → OnlySteps old new

-- a message that is kept, or is lost
abbrev pub put_events : Bool → ℕ → List ℕ → List Event
put_events true number message = Puts number message ∷ []
put_events false number message = []

-- why a message is lost
abbrev pub IsLost : Bool → ℕ → List ℕ → ServingState → Type 0
IsLost true number message old = ⊤
IsLost false number message old = HasNoNumber number old.peers ⊎ (max_record < length message)

-- a message was put on its connection, where that is open and the message is no longer than a record may be
abbrev pub SendHappens : Type 0
SendHappens = (old new : ServingState) (number : ℕ) (message : List ℕ) → SendsRecord number message old (Ok tt) new
    → (kept : Bool) × IsLost kept number message old × HasHappened (put_events kept number message) old new

-- a connection was made, or was to be made, or neither
abbrev pub ConnectHappens : Type 0
ConnectHappens = (address : NetAddr) (old new : ServingState) (result : Option ℕ) → Connects address old (Ok result) new → OnlySteps old new

-- turns of the end, and behind them those on which something was still to go were closed
abbrev pub FlushHappens : Type 0
FlushHappens = (old new : ServingState) → Flushes old new → (steps : List ServingStep) × All IsOfEnd steps × HasHappened (map Does steps ++ Does Ends ∷ []) old new
