-- What holds of the code's table: each id beside its record, and how many owners are known.
use Rattle.std.specs.Prelude.{◌≡◌, ℕ, ◌≤◌, List, map}
use Rattle.std.specs.List.{AllByRecursion}
use Rattle.nfs4_session.specs.Clients.{ClientState, SessionsState, client_id}
use Rattle.nfs4_session.specs.ExchangeIds.{known_owners}

abbrev pub client_ids : List ClientState → List ℕ
client_ids clients = map (λ (c : ClientState). c.id) clients

pub record IsStanding (keys : List ℕ) (clients : List ClientState) (boot given known : ℕ) : Type 0 where
  pub ids : keys ≡ client_ids clients
  pub below : AllByRecursion (λ id. id ≤ client_id boot given) keys
  pub owners : known ≡ known_owners clients

-- so many numbers of sessions are given
abbrev pub with_numbers : SessionsState → ℕ → SessionsState
with_numbers s numbers = record { boot = s.boot; clients = s.clients; ids = s.ids; numbers = numbers }
