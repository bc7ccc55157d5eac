-- How the code names a case of CREATE_SESSION.
use Rattle.std.specs.Prelude.{position, remove, slice_get, ℕ, Bool, false, ◌==◌, ◌&&◌, not, List, [], length, nat_lt, if◌then◌else◌, Option, Some, None, Result, Ok, Err}
use Rattle.std.specs.Option.{option_map}
use Rattle.nfs4_session.specs.declared.client.TheConstants.{MAX_SESSIONS}
use Rattle.cluster_model.specs.declared.ids.NodeId.{NodeId}
use Rattle.nfs4_session.specs.declared.faults.Created.{Created}
use Rattle.nfs4_session.specs.declared.faults.SessionFault.{SessionFault}
use Rattle.nfs4_session.specs.declared.faults.SessionFault.TheVariants.{StaleClient, Misordered, Full}
use Rattle.nfs4_session.specs.declared.client.Made.{Made}
use Rattle.nfs4_session.specs.Clients.{ClientState, MadeSession, SessionsState}
use Rattle.nfs4_session.specs.CreateSessions.{CreateSessionCase, IsDue, IsReplay, IsMisordered, HasNoRoom, IsStale, CreatesBy, is_before_restart}

-- the session that is made already, or a fault
abbrev pub case_result : CreateSessionCase → Result (Option ℕ) SessionFault
case_result (IsDue client) = Ok None
case_result (IsReplay session) = Ok (Some session)
case_result IsMisordered = Err Misordered
case_result HasNoRoom = Err Full
case_result IsStale = Err StaleClient

abbrev pub last_made : Option Made → Option MadeSession
last_made None = None
last_made (Some made) = Some (record { sequence = made.sequence; number = made.number })

-- a session of this client is due
abbrev pub CreatesDue : SessionsState → Option ClientState → ℕ → ℕ → NodeId → ℕ → Result Created SessionFault → SessionsState → Type 0
CreatesDue old None client program node now result new = ⊥
CreatesDue old (Some c) client program node now result new = CreatesBy old client program node now (IsDue c) result new

-- a new client's record
abbrev pub fresh_record : ℕ → List ℕ → List ℕ → ℕ → ClientState
fresh_record id owner verifier now = record { id = id; owner = owner; verifier = verifier; sequence = 1; made = None; confirmed = false; renewed = now; sessions = [] }

-- the case of a record, where it is known whether the numbers of sessions are spent
abbrev pub case_by_room : ClientState → ℕ → Bool → CreateSessionCase
case_by_room c sequence are_spent =
    if not (sequence == c.sequence) then IsMisordered
    else (if nat_lt (length c.sessions) MAX_SESSIONS && not are_spent then IsDue c else HasNoRoom)

abbrev pub case_by_made : ClientState → ℕ → Bool → Option MadeSession → CreateSessionCase
case_by_made c sequence are_spent (Some made) = if sequence == made.sequence then IsReplay made.number else case_by_room c sequence are_spent
case_by_made c sequence are_spent None = case_by_room c sequence are_spent

abbrev pub case_in : ClientState → ℕ → Bool → CreateSessionCase
case_in c sequence are_spent = case_by_made c sequence are_spent c.made

-- the place of the record that a client had before its restart
abbrev pub place_before_restart : List ClientState → Option ClientState → Option ℕ
place_before_restart clients None = None
place_before_restart clients (Some c) = position (is_before_restart c) clients

-- the id of the record at a place
abbrev pub id_at : List ClientState → Option ℕ → Option ℕ
id_at clients None = None
id_at clients (Some place) = option_map (λ (c : ClientState). c.id) (slice_get clients place)

-- the records, but for the one at a place
abbrev pub without_place : List ClientState → Option ℕ → List ClientState
without_place clients None = clients
without_place clients (Some place) = remove clients place
