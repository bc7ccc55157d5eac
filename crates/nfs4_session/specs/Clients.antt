-- The clients that a server knows, and their sessions (RFC 8881, sections 2.4 and 2.10.3).
use Rattle.std.specs.Prelude.{ℕ, ◌+◌, ◌*◌, Bool, ◌==◌, List, [], ◌∷◌, ◌++◌, Option, Some, None, if◌then◌else◌, take, drop, replicate}
use Rattle.std.specs.Int.{w64, from_be_bytes}
use Rattle.std.specs.List.{find}
use Rattle.std.specs.Str.{bytes_eq}
use Rattle.nfs4_session.specs.declared.session.TheConstants.{SLOTS}
use Rattle.ff_xdr.specs.Form.{long}
use Rattle.cluster_model.specs.declared.ids.NodeId.{NodeId}
use Rattle.nfs4_types.specs.declared.ids.SessionId.{SessionId}
use Rattle.nfs4_session.specs.Slots.{SlotState, new_slot}

pub record SessionState : Type 0 where
  -- sessions are numbered from 1, over all clients
  pub number : ℕ
  pub slots : List SlotState
  -- where its last record came from
  pub node : NodeId
  -- the program of its callbacks, and the number of the last of them
  pub program : ℕ
  pub callback : ℕ

-- what a client's last CREATE_SESSION made, and the number of that call
pub record MadeSession : Type 0 where
  pub sequence : ℕ
  pub number : ℕ

pub record ClientState : Type 0 where
  pub id : ℕ
  pub owner : List ℕ
  pub verifier : List ℕ
  -- the number of its next CREATE_SESSION
  pub sequence : ℕ
  pub made : Option MadeSession
  pub confirmed : Bool
  -- the moment of its last renewal, in seconds
  pub renewed : ℕ
  -- in the order in which they were made or bound last
  pub sessions : List SessionState

pub record SessionsState : Type 0 where
  pub boot : ℕ
  -- in order of arrival
  pub clients : List ClientState
  -- how many client ids, and how many sessions, were given so far
  pub ids : ℕ
  pub numbers : ℕ

abbrev pub no_clients : ℕ → SessionsState
no_clients boot = record { boot = boot; clients = []; ids = 0; numbers = 0 }

abbrev pub with_clients : SessionsState → List ClientState → SessionsState
with_clients s clients = record { boot = s.boot; clients = clients; ids = s.ids; numbers = s.numbers }

-- ---- which one is meant

abbrev pub has_id : ℕ → ClientState → Bool
has_id id c = c.id == id

abbrev pub has_number : ℕ → SessionState → Bool
has_number number session = session.number == number

abbrev pub is_owned_by : List ℕ → ClientState → Bool
is_owned_by owner c = bytes_eq c.owner owner

-- the numbers of the nth client and of the server's boot make an id
abbrev pub client_id : ℕ → ℕ → ℕ
client_id boot n = boot * 4294967296 + n

-- a session's id is its client's and its number, eight bytes each
abbrev pub session_id : ℕ → ℕ → SessionId
session_id client number = record { 0 = long client ++ long number }

abbrev pub client_in : SessionId → ℕ
client_in id = from_be_bytes w64 (take 8 id.0)

abbrev pub number_in : SessionId → ℕ
number_in id = from_be_bytes w64 (drop 8 id.0)

abbrev pub session_of_client : ℕ → Option ClientState → Option SessionState
session_of_client number None = None
session_of_client number (Some c) = find (has_number number) c.sessions

-- the session that has this id
abbrev pub session_of : List ClientState → SessionId → Option SessionState
session_of clients id = session_of_client (number_in id) (find (has_id (client_in id)) clients)

-- ---- changes of one of them

-- the first that passes the test is changed, and no other
abbrev pub change_first : {X : Type 0} → (X → Bool) → (X → X) → List X → List X
change_first test change [] = []
change_first test change (x ∷ xs) = if test x then change x ∷ xs else x ∷ change_first test change xs

-- the first that passes the test is taken out
abbrev pub remove_first : {X : Type 0} → (X → Bool) → List X → List X
remove_first test [] = []
remove_first test (x ∷ xs) = if test x then xs else x ∷ remove_first test xs

abbrev pub with_sessions : ClientState → List SessionState → ClientState
with_sessions c sessions = record { id = c.id; owner = c.owner; verifier = c.verifier; sequence = c.sequence; made = c.made; confirmed = c.confirmed; renewed = c.renewed; sessions = sessions }

abbrev pub renewed_at : ℕ → ClientState → ClientState
renewed_at now c = record { id = c.id; owner = c.owner; verifier = c.verifier; sequence = c.sequence; made = c.made; confirmed = c.confirmed; renewed = now; sessions = c.sessions }

abbrev pub with_slots : SessionState → List SlotState → SessionState
with_slots session slots = record { number = session.number; slots = slots; node = session.node; program = session.program; callback = session.callback }

-- a session has eight slots
abbrev pub new_session : ℕ → NodeId → ℕ → SessionState
new_session number node program = record { number = number; slots = replicate SLOTS new_slot; node = node; program = program; callback = 0 }

-- one session is changed, and no other
abbrev pub change_session : SessionId → (SessionState → SessionState) → List ClientState → List ClientState
change_session id change clients =
    change_first (has_id (client_in id)) (λ c. with_sessions c (change_first (has_number (number_in id)) change c.sessions)) clients
