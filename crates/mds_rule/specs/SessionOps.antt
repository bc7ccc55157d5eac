-- The operations on clients and sessions (RFC 8881, sections 18.34 to 18.37, 18.46, 18.50 and 18.51): their results, and what comes of a
-- client that is gone.
use Rattle.std.specs.Prelude.{ℕ, ◌+◌, Bool, false, ◌==◌, List, [], ◌∷◌, ◌++◌, nat_lt, nat_eq, Option, Some, None, is_some, if◌then◌else◌}
use Rattle.std.specs.List.{find, list_any}
use Rattle.std.specs.Map.{lookup}
use Rattle.std.proofs.Common.{inl}
use Rattle.ff_xdr.specs.Form.{Value, long}
use Rattle.ff_xdr.specs.Arms.{arm}
use Rattle.cluster_model.specs.declared.ids.NodeId.{NodeId}
use Rattle.cluster_model.specs.declared.phase.EndCause.TheVariants.{ClientGone}
use Rattle.nfs4_types.specs.declared.ids.SessionId.{SessionId}
use Rattle.nfs4_types.specs.declared.status.Stat4.{Stat4}
use Rattle.nfs4_types.specs.declared.status.Stat4.TheVariants as stat
use Rattle.nfs4_types.specs.Channels.{channel_attrs4}
use Rattle.nfs4_session_ops.specs.BindConn.{bind_conn4_args}
use Rattle.nfs4_session_ops.specs.ExchangeId.{exchange_id4_args}
use Rattle.nfs4_session_ops.specs.CreateSession.{create_session4_args}
use Rattle.nfs4_compound.specs.Results.{resop4}
use Rattle.nfs4_session.specs.declared.begin.SlotPass.{SlotPass}
use Rattle.nfs4_session.specs.declared.faults.Created.{Created}
use Rattle.nfs4_session.specs.declared.faults.Exchanged.{Exchanged}
use Rattle.nfs4_session.specs.declared.faults.IdFault.{IdFault}
use Rattle.nfs4_session.specs.declared.faults.SessionFault.{SessionFault}
use Rattle.nfs4_session.specs.declared.faults.SessionFault.TheVariants.{StaleClient, Misordered, Full, NoMemory}
use Rattle.nfs4_session.specs.Clients.{SessionsState, has_id, client_in, session_of}
use Rattle.nfs4_session.specs.ExchangeIds.{ExchangeCase, exchange_case, exchange_fault, given_client, exchanged, after_exchange}
use Rattle.nfs4_session.specs.CreateSessions.{CreateSessionCase, create_session_case, create_session_fault, created_answer, after_creating}
use Rattle.nfs4_session.specs.Bindings.{after_binding}
use Rattle.nfs4_session.specs.Ends.{without_session, without_client, destroy_client_fault}
use Rattle.mds_rule.specs.MdsStates.{CompoundRun, MdsValue, MdsStep}
use Rattle.mds_rule.specs.OpSteps.{OpStep, Goes, with_result, refuses, refused_or}
use Rattle.mds_rule.specs.ServedFiles.{ends_client}

-- ---- EXCHANGE_ID 42 (section 18.35)

-- EXCHGID4_FLAG_USE_PNFS_MDS, and EXCHGID4_FLAG_CONFIRMED_R of a client that is confirmed
abbrev pub exchange_flags : Bool → ℕ
exchange_flags confirmed = if confirmed then 2147614720 else 131072

abbrev pub exchange_result : Exchanged → Value resop4
exchange_result e = arm 42 resop4 (inl (e.client, (e.sequence, (exchange_flags e.confirmed, (inl tt, (0, ([], ([], []))))))))

abbrev pub with_exchange : MdsValue → CompoundRun → List ℕ → List ℕ → ℕ → ExchangeCase → Option IdFault → OpStep
with_exchange m c verifier owner now case None =
    Goes (record m { sessions = after_exchange m.sessions verifier owner now case }) [] (with_result c (exchange_result (exchanged (given_client m.sessions verifier owner now case))))
with_exchange m c verifier owner now case (Some fault) = refuses m c 42 stat.ServerFault

abbrev pub exchange_in : MdsValue → CompoundRun → List ℕ → List ℕ → ℕ → ExchangeCase → OpStep
exchange_in m c verifier owner now case = with_exchange m c verifier owner now case (exchange_fault m.sessions case)

abbrev pub runs_exchange : MdsValue → CompoundRun → ℕ → Value exchange_id4_args → OpStep
runs_exchange m c now (verifier, (owner, (flags, rest))) = exchange_in m c (long verifier) owner now (exchange_case m.sessions.clients (long verifier) owner)

-- ---- CREATE_SESSION 43 (section 18.36)

abbrev pub at_most : ℕ → ℕ → ℕ
at_most limit n = if nat_lt limit n then limit else n

-- a channel has what was asked for, up to what there is; no padding, and no RDMA
abbrev pub fore_channel : Value channel_attrs4 → Value channel_attrs4
fore_channel (padding, (request, (response, (cached, (operations, (requests, rdma)))))) =
    (0, (at_most 1179648 request, (at_most 1179648 response, (at_most 32768 cached, (at_most 16 operations, (at_most 8 requests, []))))))

abbrev pub back_channel : Value channel_attrs4 → Value channel_attrs4
back_channel (padding, (request, (response, (cached, (operations, (requests, rdma)))))) =
    (0, (at_most 4096 request, (at_most 4096 response, (at_most 0 cached, (at_most 2 operations, (at_most 1 requests, []))))))

-- CREATE_SESSION4_FLAG_CONN_BACK_CHAN
abbrev pub session_flags : ℕ
session_flags = 2

abbrev pub create_result : SessionId → ℕ → Value channel_attrs4 → Value channel_attrs4 → Value resop4
create_result session sequence fore back = arm 43 resop4 (inl (session.0, (sequence, (session_flags, (fore_channel fore, back_channel back)))))

abbrev pub session_fault : SessionFault → Stat4
session_fault StaleClient = stat.StaleClientId
session_fault Misordered = stat.SeqMisordered
session_fault Full = stat.ServerFault
session_fault NoMemory = stat.ServerFault

-- an id is confirmed with its first session, from the node that asks for it
abbrev pub confirmed_by : ℕ → NodeId → List (ℕ × NodeId) → List (ℕ × NodeId)
confirmed_by client node confirmed = if is_some (lookup (nat_eq client) confirmed) then confirmed else confirmed ++ (client, node) ∷ []

abbrev pub confirms : ℕ → NodeId → MdsValue → MdsValue
confirms client node m = record m { confirmed = confirmed_by client node m.confirmed }

-- the client that was there before a restart is gone
abbrev pub gone_with : Option ℕ → MdsValue → MdsStep
gone_with None m = record { mds = m; entries = []; sends = [] }
gone_with (Some client) m = ends_client m client ClientGone

abbrev pub goes_with : MdsStep → CompoundRun → OpStep
goes_with s c = Goes s.mds s.entries c

abbrev pub with_session : MdsValue → CompoundRun → ℕ → ℕ → Value channel_attrs4 → Value channel_attrs4 → SessionsState → Option Created → OpStep
with_session m c client sequence fore back sessions None = refuses m c 43 stat.ServerFault
with_session m c client sequence fore back sessions (Some created) =
    goes_with (gone_with created.gone (confirms client c.node (record m { sessions = sessions }))) (with_result c (create_result created.session sequence fore back))

abbrev pub with_create : MdsValue → CompoundRun → ℕ → ℕ → Value channel_attrs4 → Value channel_attrs4 → ℕ → ℕ → CreateSessionCase → Option SessionFault → OpStep
with_create m c client sequence fore back program now case (Some fault) = refuses m c 43 (session_fault fault)
with_create m c client sequence fore back program now case None = with_session m c client sequence fore back (after_creating m.sessions program c.node now case) (created_answer m.sessions client case)

abbrev pub create_in : MdsValue → CompoundRun → ℕ → ℕ → Value channel_attrs4 → Value channel_attrs4 → ℕ → ℕ → CreateSessionCase → OpStep
create_in m c client sequence fore back program now case = with_create m c client sequence fore back program now case (create_session_fault case)

abbrev pub runs_create : MdsValue → CompoundRun → ℕ → Value create_session4_args → OpStep
runs_create m c now (client, (sequence, (flags, (fore, (back, (program, security)))))) = create_in m c client sequence fore back program now (create_session_case m.sessions client sequence)

-- ---- BIND_CONN_TO_SESSION 41, DESTROY_SESSION 44 (sections 18.34 and 18.37)

abbrev pub direction_given : ℕ → ℕ
direction_given asked = if asked == 7 then 3 else asked

abbrev pub on_session : MdsValue → CompoundRun → ℕ → SessionId → OpStep → OpStep
on_session m c number session step = if is_some (session_of m.sessions.clients session) then step else refuses m c number stat.BadSession

abbrev pub runs_bind : MdsValue → CompoundRun → Value bind_conn4_args → OpStep
runs_bind m c (session, (direction, rdma)) =
    on_session m c 41 (record { 0 = session }) (Goes (record m { sessions = after_binding m.sessions (record { 0 = session }) c.node }) [] (with_result c (arm 41 resop4 (inl (session, (direction_given direction, false))))))

abbrev pub runs_destroy_session : MdsValue → CompoundRun → List ℕ → OpStep
runs_destroy_session m c session =
    on_session m c 44 (record { 0 = session }) (Goes (record m { sessions = without_session m.sessions (record { 0 = session }) }) [] (with_result c (arm 44 resop4 (inl tt))))

-- ---- DESTROY_CLIENTID 57 (section 18.50)

abbrev pub runs_destroy_client : MdsValue → CompoundRun → ℕ → OpStep
runs_destroy_client m c client =
    refused_or m c 57 (destroy_client_fault (find (has_id client) m.sessions.clients))
    (goes_with (ends_client (record m { sessions = without_client m.sessions client }) client ClientGone) (with_result c (arm 57 resop4 (inl tt))))

-- ---- RECLAIM_COMPLETE 58 (section 18.51)

abbrev pub reclaims : MdsValue → CompoundRun → Option SlotPass → OpStep
reclaims m c None = refuses m c 58 stat.OpNotInSession
reclaims m c (Some slot) =
    if list_any (nat_eq (client_in slot.session)) m.reclaimed then refuses m c 58 stat.CompleteAlready
    else Goes (record m { reclaimed = m.reclaimed ++ client_in slot.session ∷ [] }) [] (with_result c (arm 58 resop4 (inl tt)))
