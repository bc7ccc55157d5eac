-- What EXCHANGE_ID comes to, one row a case (RFC 8881, section 18.35.4). The flags are passed over, so there are no updates.
use Rattle.std.specs.Prelude.{◌≡◌, ℕ, ◌+◌, Bool, true, false, ◌==◌, ◌&&◌, not, List, [], ◌∷◌, ◌++◌, Option, Some, None, Result, Ok, Err, nat_lt, if◌then◌else◌}
use Rattle.std.specs.List.{find, list_any}
use Rattle.std.specs.Str.{bytes_eq}
use Rattle.nfs4_session.specs.declared.exchange.TheConstants.{MAX_OWNERS}
use Rattle.nfs4_session.specs.declared.faults.Exchanged.{Exchanged}
use Rattle.nfs4_session.specs.declared.faults.IdFault.{IdFault}
use Rattle.nfs4_session.specs.declared.faults.IdFault.TheVariants.{Full, NoMemory}
use Rattle.nfs4_session.specs.Clients.{ClientState, SessionsState, client_id, has_id, is_owned_by, change_first, remove_first, renewed_at, with_clients}

-- ---- the cases

pub data ExchangeCase : Type 0 where
  -- a confirmed record has this owner and this verifier
  IsKnown : (client : ClientState) → ExchangeCase
  -- an unconfirmed one has: the call came before
  IsAgain : (client : ClientState) → ExchangeCase
  -- an unconfirmed record of this owner has another verifier; it is thrown away
  ReplacesUnconfirmed : ExchangeCase
  -- a confirmed one has: the client has restarted
  Restarts : ExchangeCase
  IsNewOwner : ExchangeCase

abbrev pub is_by : Bool → List ℕ → List ℕ → ClientState → Bool
is_by confirmed verifier owner c = (is_owned_by owner c && bytes_eq c.verifier verifier) && (if confirmed then c.confirmed else not c.confirmed)

abbrev pub is_unconfirmed_of : List ℕ → ClientState → Bool
is_unconfirmed_of owner c = is_owned_by owner c && not c.confirmed

abbrev pub is_confirmed_of : List ℕ → ClientState → Bool
is_confirmed_of owner c = is_owned_by owner c && c.confirmed

abbrev pub case_of_others : List ClientState → List ℕ → ExchangeCase
case_of_others clients owner =
    if list_any (is_unconfirmed_of owner) clients then ReplacesUnconfirmed
    else (if list_any (is_confirmed_of owner) clients then Restarts else IsNewOwner)

abbrev pub case_of_unconfirmed : List ClientState → List ℕ → Option ClientState → ExchangeCase
case_of_unconfirmed clients owner (Some client) = IsAgain client
case_of_unconfirmed clients owner None = case_of_others clients owner

abbrev pub case_of_confirmed : List ClientState → List ℕ → List ℕ → Option ClientState → ExchangeCase
case_of_confirmed clients verifier owner (Some client) = IsKnown client
case_of_confirmed clients verifier owner None = case_of_unconfirmed clients owner (find (is_by false verifier owner) clients)

abbrev pub exchange_case : List ClientState → List ℕ → List ℕ → ExchangeCase
exchange_case clients verifier owner = case_of_confirmed clients verifier owner (find (is_by true verifier owner) clients)

-- ---- whether it is refused

-- how many owners have a record
abbrev pub known_owners : List ClientState → ℕ
known_owners [] = 0
known_owners (c ∷ clients) = (if list_any (is_owned_by c.owner) clients then 0 else 1) + known_owners clients

abbrev pub ids_are_spent : SessionsState → Bool
ids_are_spent s = s.ids == 4294967295

abbrev pub new_id_fault : SessionsState → Option IdFault
new_id_fault s = if ids_are_spent s then Some Full else None

-- at most 256 owners are known
abbrev pub exchange_fault : SessionsState → ExchangeCase → Option IdFault
exchange_fault s (IsKnown client) = None
exchange_fault s (IsAgain client) = None
exchange_fault s ReplacesUnconfirmed = new_id_fault s
exchange_fault s Restarts = new_id_fault s
exchange_fault s IsNewOwner = if nat_lt (known_owners s.clients) MAX_OWNERS then new_id_fault s else Some Full

-- ---- what is given, and what it leaves

abbrev pub new_client : SessionsState → List ℕ → List ℕ → ℕ → ClientState
new_client s verifier owner now = record {
  id = client_id s.boot (s.ids + 1);
  owner = owner;
  verifier = verifier;
  sequence = 1;
  made = None;
  confirmed = false;
  renewed = now;
  sessions = [];
}

-- the record that is given
abbrev pub given_client : SessionsState → List ℕ → List ℕ → ℕ → ExchangeCase → ClientState
given_client s verifier owner now (IsKnown client) = renewed_at now client
given_client s verifier owner now (IsAgain client) = renewed_at now client
given_client s verifier owner now ReplacesUnconfirmed = new_client s verifier owner now
given_client s verifier owner now Restarts = new_client s verifier owner now
given_client s verifier owner now IsNewOwner = new_client s verifier owner now

abbrev pub exchanged : ClientState → Exchanged
exchanged c = record { client = c.id; sequence = c.sequence; confirmed = c.confirmed }

-- a new record stands behind the others
abbrev pub with_new_client : SessionsState → List ClientState → ClientState → SessionsState
with_new_client s others client = record { boot = s.boot; clients = others ++ client ∷ []; ids = s.ids + 1; numbers = s.numbers }

abbrev pub after_exchange : SessionsState → List ℕ → List ℕ → ℕ → ExchangeCase → SessionsState
after_exchange s verifier owner now (IsKnown client) = with_clients s (change_first (has_id client.id) (renewed_at now) s.clients)
after_exchange s verifier owner now (IsAgain client) = with_clients s (change_first (has_id client.id) (renewed_at now) s.clients)
after_exchange s verifier owner now ReplacesUnconfirmed = with_new_client s (remove_first (is_unconfirmed_of owner) s.clients) (new_client s verifier owner now)
after_exchange s verifier owner now Restarts = with_new_client s s.clients (new_client s verifier owner now)
after_exchange s verifier owner now IsNewOwner = with_new_client s s.clients (new_client s verifier owner now)

-- ---- the whole call

abbrev pub ExchangesBy : SessionsState → List ℕ → List ℕ → ℕ → ExchangeCase → Result Exchanged IdFault → SessionsState → Type 0
ExchangesBy old verifier owner now case (Ok answer) new =
    (exchange_fault old case ≡ None) × (answer ≡ exchanged (given_client old verifier owner now case)) × (new ≡ after_exchange old verifier owner now case)
ExchangesBy old verifier owner now case (Err Full) new = (exchange_fault old case ≡ Some Full) × (new ≡ old)
ExchangesBy old verifier owner now case (Err NoMemory) new = new ≡ old

abbrev pub Exchanges : SessionsState → List ℕ → List ℕ → ℕ → Result Exchanged IdFault → SessionsState → Type 0
Exchanges old verifier owner now result new = ExchangesBy old verifier owner now (exchange_case old.clients verifier owner) result new
