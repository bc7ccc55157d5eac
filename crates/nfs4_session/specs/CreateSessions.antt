-- What CREATE_SESSION comes to, one row a case (RFC 8881, section 18.36.4).
use Rattle.std.specs.Prelude.{◌≡◌, ℕ, ◌+◌, Bool, true, false, ◌==◌, ◌&&◌, not, [], ◌∷◌, ◌++◌, length, Option, Some, None, Result, Ok, Err, nat_lt, if◌then◌else◌}
use Rattle.std.specs.List.{find}
use Rattle.std.specs.Option.{option_map}
use Rattle.nfs4_session.specs.declared.client.TheConstants.{MAX_SESSIONS}
use Rattle.cluster_model.specs.declared.ids.NodeId.{NodeId}
use Rattle.nfs4_session.specs.declared.faults.Created.{Created}
use Rattle.nfs4_session.specs.declared.faults.SessionFault.{SessionFault}
use Rattle.nfs4_session.specs.declared.faults.SessionFault.TheVariants.{StaleClient, Misordered, Full, NoMemory}
use Rattle.nfs4_session.specs.Slots.{sequence_after}
use Rattle.nfs4_session.specs.Clients.{ClientState, SessionState, MadeSession, SessionsState, has_id, is_owned_by, session_id, change_first, remove_first, new_session}

-- ---- the cases

pub data CreateSessionCase : Type 0 where
  -- the record has its next number, and there is room: its session is made
  IsDue : (client : ClientState) → CreateSessionCase
  -- it has the number of the call that made this session: the call came before
  IsReplay : (session : ℕ) → CreateSessionCase
  IsMisordered : CreateSessionCase
  -- a session is due, and four stand, or the numbers of sessions are spent
  HasNoRoom : CreateSessionCase
  -- the id is unknown
  IsStale : CreateSessionCase

abbrev pub numbers_are_spent : SessionsState → Bool
numbers_are_spent s = s.numbers == 18446744073709551615

abbrev pub case_by_next : SessionsState → ClientState → ℕ → CreateSessionCase
case_by_next s c sequence =
    if not (sequence == c.sequence) then IsMisordered
    else (if nat_lt (length c.sessions) MAX_SESSIONS && not (numbers_are_spent s) then IsDue c else HasNoRoom)

abbrev pub case_by_last : SessionsState → ClientState → ℕ → Option MadeSession → CreateSessionCase
case_by_last s c sequence (Some made) = if sequence == made.sequence then IsReplay made.number else case_by_next s c sequence
case_by_last s c sequence None = case_by_next s c sequence

abbrev pub case_by_client : SessionsState → ℕ → Option ClientState → CreateSessionCase
case_by_client s sequence (Some c) = case_by_last s c sequence c.made
case_by_client s sequence None = IsStale

abbrev pub create_session_case : SessionsState → ℕ → ℕ → CreateSessionCase
create_session_case s client sequence = case_by_client s sequence (find (has_id client) s.clients)

abbrev pub create_session_fault : CreateSessionCase → Option SessionFault
create_session_fault (IsDue client) = None
create_session_fault (IsReplay session) = None
create_session_fault IsMisordered = Some Misordered
create_session_fault HasNoRoom = Some Full
create_session_fault IsStale = Some StaleClient

-- ---- a session that is made

-- another confirmed record of the same owner: the client before its restart
abbrev pub is_before_restart : ClientState → ClientState → Bool
is_before_restart client other = (is_owned_by client.owner other && other.confirmed) && not (has_id client.id other)

abbrev pub with_new_session : SessionState → ℕ → ClientState → ClientState
with_new_session session now c = record {
  id = c.id;
  owner = c.owner;
  verifier = c.verifier;
  sequence = sequence_after c.sequence;
  made = Some (record { sequence = c.sequence; number = session.number });
  confirmed = true;
  renewed = now;
  sessions = c.sessions ++ session ∷ [];
}

abbrev pub created_session : SessionsState → ℕ → NodeId → SessionState
created_session s program node = new_session (s.numbers + 1) node program

abbrev pub created_answer : SessionsState → ℕ → CreateSessionCase → Option Created
created_answer s client (IsDue c) =
    Some (record { session = session_id client (s.numbers + 1); gone = option_map (λ other. other.id) (find (is_before_restart c) s.clients); replayed = false })
created_answer s client (IsReplay session) = Some (record { session = session_id client session; gone = None; replayed = true })
created_answer s client IsMisordered = None
created_answer s client HasNoRoom = None
created_answer s client IsStale = None

abbrev pub after_creating : SessionsState → ℕ → NodeId → ℕ → CreateSessionCase → SessionsState
after_creating s program node now (IsDue c) = record {
  boot = s.boot;
  clients = change_first (has_id c.id) (with_new_session (created_session s program node) now) (remove_first (is_before_restart c) s.clients);
  ids = s.ids;
  numbers = s.numbers + 1;
}
after_creating s program node now (IsReplay session) = s
after_creating s program node now IsMisordered = s
after_creating s program node now HasNoRoom = s
after_creating s program node now IsStale = s

-- ---- the whole call

abbrev pub CreatesBy : SessionsState → ℕ → ℕ → NodeId → ℕ → CreateSessionCase → Result Created SessionFault → SessionsState → Type 0
CreatesBy old client program node now case (Ok answer) new = (created_answer old client case ≡ Some answer) × (new ≡ after_creating old program node now case)
CreatesBy old client program node now case (Err StaleClient) new = (create_session_fault case ≡ Some StaleClient) × (new ≡ old)
CreatesBy old client program node now case (Err Misordered) new = (create_session_fault case ≡ Some Misordered) × (new ≡ old)
CreatesBy old client program node now case (Err Full) new = (create_session_fault case ≡ Some Full) × (new ≡ old)
CreatesBy old client program node now case (Err NoMemory) new = new ≡ old

abbrev pub CreatesSession : SessionsState → ℕ → ℕ → ℕ → NodeId → ℕ → Result Created SessionFault → SessionsState → Type 0
CreatesSession old client sequence program node now result new = CreatesBy old client program node now (create_session_case old client sequence) result new
