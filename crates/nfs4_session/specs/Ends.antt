-- How sessions, clients and leases end (RFC 8881, sections 18.37, 18.50 and 8.3).
use Rattle.std.specs.Prelude.{◌≡◌, ℕ, ◌+◌, Bool, List, [], ◌∷◌, Option, Some, None, Result, Ok, Err, nat_lt}
use Rattle.std.specs.List.{find}
use Rattle.nfs4_session.specs.declared.seek.TheConstants.{LEASE}
use Rattle.nfs4_types.specs.declared.ids.SessionId.{SessionId}
use Rattle.nfs4_types.specs.declared.status.Stat4.{Stat4}
use Rattle.nfs4_types.specs.declared.status.Stat4.TheVariants.{StaleClientId, ClientIdBusy}
use Rattle.nfs4_session.specs.Clients.{ClientState, SessionState, SessionsState, has_id, has_number, client_in, number_in, change_first, remove_first, with_clients, with_sessions}

-- a session is destroyed
abbrev pub without_session : SessionsState → SessionId → SessionsState
without_session s id = with_clients s (change_first (has_id (client_in id)) (λ c. with_sessions c (remove_first (has_number (number_in id)) c.sessions)) s.clients)

abbrev pub without_client : SessionsState → ℕ → SessionsState
without_client s client = with_clients s (remove_first (has_id client) s.clients)

abbrev pub busy_with : List SessionState → Option Stat4
busy_with [] = None
busy_with (session ∷ sessions) = Some ClientIdBusy

-- A client's record is destroyed, where no session stands.
abbrev pub destroy_client_fault : Option ClientState → Option Stat4
destroy_client_fault None = Some StaleClientId
destroy_client_fault (Some c) = busy_with c.sessions

abbrev pub DestroysClientBy : SessionsState → ℕ → Option Stat4 → Result (Unit {0}) Stat4 → SessionsState → Type 0
DestroysClientBy old client None result new = (result ≡ Ok tt) × (new ≡ without_client old client)
DestroysClientBy old client (Some status) result new = (result ≡ Err status) × (new ≡ old)

abbrev pub DestroysClient : SessionsState → ℕ → Result (Unit {0}) Stat4 → SessionsState → Type 0
DestroysClient old client result new = DestroysClientBy old client (destroy_client_fault (find (has_id client) old.clients)) result new

-- A lease has ended where it was renewed last more than 90 s before.
abbrev pub has_ended : ℕ → ClientState → Bool
has_ended now c = nat_lt (c.renewed + LEASE) now

abbrev pub ExpiresBy : SessionsState → Option ClientState → Option ℕ → SessionsState → Type 0
ExpiresBy old None result new = (result ≡ None) × (new ≡ old)
ExpiresBy old (Some c) result new = (result ≡ Some c.id) × (new ≡ without_client old c.id)

-- the first of those whose lease has ended, in order of arrival
abbrev pub Expires : SessionsState → ℕ → Option ℕ → SessionsState → Type 0
Expires old now result new = ExpiresBy old (find (has_ended now) old.clients) result new
