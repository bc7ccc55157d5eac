-- Where a session's records come from, and callbacks to its client (RFC 8881, sections 2.10.3.1, 18.34 and 20.9).
use Rattle.std.specs.Prelude.{◌≡◌, ℕ, List, [], ◌∷◌, ◌++◌, Option, Some, None, Result, Ok, Err}
use Rattle.std.specs.List.{find, last_or}
use Rattle.cluster_model.specs.declared.ids.NodeId.{NodeId}
use Rattle.nfs4_types.specs.declared.ids.SessionId.{SessionId}
use Rattle.nfs4_types.specs.declared.status.Stat4.{Stat4}
use Rattle.nfs4_types.specs.declared.status.Stat4.TheVariants.{BadSession}
use Rattle.nfs4_session.specs.declared.back.BackCall.{BackCall}
use Rattle.nfs4_session.specs.Slots.{sequence_after}
use Rattle.nfs4_session.specs.Clients.{ClientState, SessionState, SessionsState, has_id, has_number, client_in, number_in, session_id, change_first, remove_first, with_clients, with_sessions}

-- ---- binding

-- its last record came from this node
abbrev pub bound_to : NodeId → SessionState → SessionState
bound_to node session = record { number = session.number; slots = session.slots; node = node; program = session.program; callback = session.callback }

-- a bound session stands behind the client's others
abbrev pub bound_last : ℕ → NodeId → List SessionState → Option SessionState → List SessionState
bound_last number node sessions None = sessions
bound_last number node sessions (Some session) = remove_first (has_number number) sessions ++ bound_to node session ∷ []

abbrev pub client_bound : ℕ → NodeId → ClientState → ClientState
client_bound number node c = with_sessions c (bound_last number node c.sessions (find (has_number number) c.sessions))

abbrev pub after_binding : SessionsState → SessionId → NodeId → SessionsState
after_binding s id node = with_clients s (change_first (has_id (client_in id)) (client_bound (number_in id) node) s.clients)

-- what a call on a session comes to where it is there, and where it is not
abbrev pub OnSession : Option SessionState → Result (Unit {0}) Stat4 → SessionsState → SessionsState → SessionsState → Type 0
OnSession (Some session) result old after new = (result ≡ Ok tt) × (new ≡ after)
OnSession None result old after new = (result ≡ Err BadSession) × (new ≡ old)

-- ---- callbacks

-- the session of a client that was made or bound last
abbrev pub last_session : Option ClientState → Option SessionState
last_session None = None
last_session (Some c) = last_or None c.sessions

abbrev pub called_back : SessionState → SessionState
called_back session = record { number = session.number; slots = session.slots; node = session.node; program = session.program; callback = sequence_after session.callback }

abbrev pub back_call : ℕ → SessionState → BackCall
back_call client session = record { session = session_id client session.number; node = session.node; program = session.program; sequence = sequence_after session.callback }

abbrev pub client_called_back : ℕ → ClientState → ClientState
client_called_back number c = with_sessions c (change_first (has_number number) called_back c.sessions)

abbrev pub CallsBackOn : SessionsState → ℕ → Option SessionState → Option BackCall → SessionsState → Type 0
CallsBackOn old client None result new = (result ≡ None) × (new ≡ old)
CallsBackOn old client (Some session) result new =
    (result ≡ Some (back_call client session)) × (new ≡ with_clients old (change_first (has_id client) (client_called_back session.number) old.clients))

abbrev pub CallsBack : SessionsState → ℕ → Option BackCall → SessionsState → Type 0
CallsBack old client result new = CallsBackOn old client (last_session (find (has_id client) old.clients)) result new
