-- What a table of clients comes to over every list of calls: ids and sessions' numbers are given once, and an owner has at most one
-- confirmed record and one that is not (RFC 8881, sections 2.4 and 2.10.3).
use Rattle.std.specs.Prelude.{◌≡◌, ℕ, ◌+◌, ◌≤◌, ◌<◌, ◌==◌, List, [], ◌∷◌, ◌++◌, length, Option, Some, None, fold, slice_get, if◌then◌else◌}
use Rattle.std.specs.List.{All, AllPairs, find}
use Rattle.nfs4_session.specs.declared.session.TheConstants.{SLOTS}
use Rattle.nfs4_session.specs.declared.exchange.TheConstants.{MAX_OWNERS}
use Rattle.nfs4_session.specs.declared.client.TheConstants.{MAX_SESSIONS}
use Rattle.cluster_model.specs.declared.ids.NodeId.{NodeId}
use Rattle.nfs4_types.specs.declared.ids.SessionId.{SessionId}
use Rattle.nfs4_types.specs.declared.sequence.Sequence.{Sequence}
use Rattle.nfs4_types.specs.declared.status.Stat4.{Stat4}
use Rattle.nfs4_session.specs.declared.begin.SlotPass.{SlotPass}
use Rattle.nfs4_session.specs.declared.faults.IdFault.{IdFault}
use Rattle.nfs4_session.specs.Clients.{ClientState, SessionState, SessionsState, no_clients, client_id, has_id, change_first, with_clients}
use Rattle.nfs4_session.specs.ExchangeIds.{ExchangeCase, exchange_case, exchange_fault, given_client, after_exchange, known_owners}
use Rattle.nfs4_session.specs.CreateSessions.{CreateSessionCase, IsDue, IsReplay, IsMisordered, HasNoRoom, IsStale, create_session_case, after_creating}
use Rattle.nfs4_session.specs.Requests.{request_answer, after_request, after_finish}
use Rattle.nfs4_session.specs.Beginning.{table_begun}
use Rattle.nfs4_session.specs.Bindings.{after_binding, last_session, client_called_back}
use Rattle.nfs4_session.specs.Ends.{without_session, without_client, destroy_client_fault, has_ended}

pub data TableMove : Type 0 where
  ExchangeId : (verifier owner : List ℕ) (now : ℕ) → TableMove
  CreateSession : (client sequence program : ℕ) (node : NodeId) (now : ℕ) → TableMove
  BeginRequest : (request : Sequence) (now : ℕ) → TableMove
  FinishRequest : (pass : SlotPass) (reply : List ℕ) → TableMove
  Bind : (session : SessionId) (node : NodeId) → TableMove
  CallBack : (client : ℕ) → TableMove
  DestroySession : (session : SessionId) → TableMove
  DestroyClient : (client : ℕ) → TableMove
  Expire : (now : ℕ) → TableMove

-- ---- the table behind a call

abbrev pub exchanged_unless : SessionsState → SessionsState → Option IdFault → SessionsState
exchanged_unless s after None = after
exchanged_unless s after (Some fault) = s

abbrev pub exchanged_by : SessionsState → List ℕ → List ℕ → ℕ → ExchangeCase → SessionsState
exchanged_by s verifier owner now case = exchanged_unless s (after_exchange s verifier owner now case) (exchange_fault s case)

abbrev pub called_back_by : SessionsState → ℕ → Option SessionState → SessionsState
called_back_by s client None = s
called_back_by s client (Some session) = with_clients s (change_first (has_id client) (client_called_back session.number) s.clients)

abbrev pub destroyed_unless : SessionsState → SessionsState → Option Stat4 → SessionsState
destroyed_unless s after None = after
destroyed_unless s after (Some status) = s

abbrev pub expired_by : SessionsState → Option ClientState → SessionsState
expired_by s None = s
expired_by s (Some c) = without_client s c.id

abbrev pub table_after : SessionsState → TableMove → SessionsState
table_after s (ExchangeId verifier owner now) = exchanged_by s verifier owner now (exchange_case s.clients verifier owner)
table_after s (CreateSession client sequence program node now) = after_creating s program node now (create_session_case s client sequence)
table_after s (BeginRequest request now) = table_begun s (after_request s request now) (request_answer s request)
table_after s (FinishRequest pass reply) = after_finish s pass reply
table_after s (Bind session node) = after_binding s session node
table_after s (CallBack client) = called_back_by s client (last_session (find (has_id client) s.clients))
table_after s (DestroySession session) = without_session s session
table_after s (DestroyClient client) = destroyed_unless s (without_client s client) (destroy_client_fault (find (has_id client) s.clients))
table_after s (Expire now) = expired_by s (find (has_ended now) s.clients)

-- ---- what is given to a new record and to a new session

abbrev pub new_id_in : SessionsState → SessionsState → ℕ → List ℕ
new_id_in s after id = if after.ids == s.ids then [] else id ∷ []

abbrev pub new_number_in : SessionsState → CreateSessionCase → List ℕ
new_number_in s (IsDue client) = (s.numbers + 1) ∷ []
new_number_in s (IsReplay session) = []
new_number_in s IsMisordered = []
new_number_in s HasNoRoom = []
new_number_in s IsStale = []

abbrev pub ids_given : SessionsState → TableMove → List ℕ
ids_given s (ExchangeId verifier owner now) =
    new_id_in s (exchanged_by s verifier owner now (exchange_case s.clients verifier owner)) (given_client s verifier owner now (exchange_case s.clients verifier owner)).id
ids_given s (CreateSession client sequence program node now) = []
ids_given s (BeginRequest request now) = []
ids_given s (FinishRequest pass reply) = []
ids_given s (Bind session node) = []
ids_given s (CallBack client) = []
ids_given s (DestroySession session) = []
ids_given s (DestroyClient client) = []
ids_given s (Expire now) = []

abbrev pub numbers_given : SessionsState → TableMove → List ℕ
numbers_given s (ExchangeId verifier owner now) = []
numbers_given s (CreateSession client sequence program node now) = new_number_in s (create_session_case s client sequence)
numbers_given s (BeginRequest request now) = []
numbers_given s (FinishRequest pass reply) = []
numbers_given s (Bind session node) = []
numbers_given s (CallBack client) = []
numbers_given s (DestroySession session) = []
numbers_given s (DestroyClient client) = []
numbers_given s (Expire now) = []

pub record TableRun : Type 0 where
  pub table : SessionsState
  -- the ids and the numbers that were given, in order
  pub ids : List ℕ
  pub numbers : List ℕ

abbrev pub table_moved : TableRun → TableMove → TableRun
table_moved run move = record {
  table = table_after run.table move;
  ids = run.ids ++ ids_given run.table move;
  numbers = run.numbers ++ numbers_given run.table move;
}

abbrev pub table_run : ℕ → List TableMove → TableRun
table_run boot moves = fold table_moved (record { table = no_clients boot; ids = []; numbers = [] }) moves

-- ---- the law

pub record IsTable (s : SessionsState) : Type 0 where
  pub ids : AllPairs (λ a b. ¬ (a.id ≡ b.id)) s.clients
  -- an owner has at most one record of each kind
  pub owners : AllPairs (λ a b. ¬ ((a.owner ≡ b.owner) × (a.confirmed ≡ b.confirmed))) s.clients
  pub known : known_owners s.clients ≤ MAX_OWNERS
  pub sessions : All (λ c. length c.sessions ≤ MAX_SESSIONS) s.clients
  pub numbers : All (λ c. AllPairs (λ a b. ¬ (a.number ≡ b.number)) c.sessions) s.clients
  pub slots : All (λ c. All (λ session. length session.slots ≡ SLOTS) c.sessions) s.clients

-- they are given in order, each once
pub record GivesOnce (boot : ℕ) (run : TableRun) : Type 0 where
  pub ids : (k : ℕ) → k < length run.ids → slice_get run.ids k ≡ Some (client_id boot (k + 1))
  pub numbers : (k : ℕ) → k < length run.numbers → slice_get run.numbers k ≡ Some (k + 1)

abbrev pub KeepsTable : Type 0
KeepsTable = (boot : ℕ) (moves : List TableMove) → IsTable (table_run boot moves).table × GivesOnce boot (table_run boot moves)
