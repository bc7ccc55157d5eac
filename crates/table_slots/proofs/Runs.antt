-- Over every list of calls the effects of a slot are those of a list of requests of one slot.
use Rattle.std.proofs.Common.{◌≡◌, ℕ, List, [], ◌∷◌, ◌++◌, refl, sym, ◌∙◌, subst, append-nil, append_assoc}
use Rattle.std.specs.Prelude.{◌==◌, ◌&&◌, fold}
use Rattle.std.specs.List.{find}
use Rattle.nfs4_types.specs.declared.ids.SessionId.{SessionId}
use Rattle.nfs4_session.specs.SlotsLaw.{SlotMove, slot_run, EachOnce, AreNumbered, TakeEffectOnce}
use Rattle.nfs4_session.specs.Clients.{SessionsState, no_clients, has_id, client_in, number_in}
use Rattle.nfs4_session.specs.ExchangeIds.{exchange_case, exchange_fault}
use Rattle.nfs4_session.specs.CreateSessions.{create_session_case}
use Rattle.nfs4_session.specs.Requests.{request_answer}
use Rattle.nfs4_session.specs.Bindings.{last_session}
use Rattle.nfs4_session.specs.Ends.{destroy_client_fault, has_ended}
use Rattle.nfs4_session.specs.TableLaw.{TableMove, ExchangeId, CreateSession, BeginRequest, FinishRequest, Bind, CallBack, DestroySession, DestroyClient, Expire, table_after, IsTable, TableRun, table_moved, KeepsTable}
use Rattle.table_slots.specs.TableSlots.{is_of_session, is_of_slot, effect_of, effects_from, UsesSlotsOnce}
use Rattle.table_slots.proofs.Changes.{bound, destroyed}
use Rattle.table_slots.proofs.Tracking.{Tracks, kept, exchanged, created, called_so, ended, expired}
use Rattle.table_slots.proofs.Answering.{finished, begun}

-- ---- any call

moved : (id : SessionId) (place : ℕ) (s : SessionsState) (effects : List ℕ) → IsTable s → Tracks id place s effects → (move : TableMove) → Tracks id place (table_after s move) (effects ++ effect_of id place s move)
moved id place s effects table t (ExchangeId verifier owner now) =
    exchanged id place s effects t verifier owner now (exchange_case s.clients verifier owner) (exchange_fault s (exchange_case s.clients verifier owner))
moved id place s effects table t (CreateSession client sequence program node now) = created id place s effects t program node now (create_session_case s client sequence)
moved id place s effects table t (BeginRequest request now) = begun id place s effects table t request now (is_of_slot id place request) refl (request_answer s request) refl
moved id place s effects table t (FinishRequest pass reply) = finished id place s effects table t pass reply (is_of_session id pass.session && (pass.slot == place)) refl
moved id place s effects table t (Bind session node) =
    kept id place s effects t _ refl (bound (client_in id) (number_in id) place (slot_run t.moves).slot s.numbers (client_in session) (number_in session) node s.clients t.stands)
moved id place s effects table t (CallBack client) = called_so id place s effects t client (last_session (find (has_id client) s.clients))
moved id place s effects table t (DestroySession session) =
    kept id place s effects t _ refl (destroyed (client_in id) (number_in id) place (slot_run t.moves).slot s.numbers (client_in session) (number_in session) s.clients t.stands)
moved id place s effects table t (DestroyClient client) = ended id place s effects t client (destroy_client_fault (find (has_id client) s.clients))
moved id place s effects table t (Expire now) = expired id place s effects t (find (has_ended now) s.clients)

-- ---- any list of calls

-- the table stays one, whatever comes
abbrev StaysTable : TableRun → Type 0
StaysTable run = (moves : List TableMove) → IsTable (fold table_moved run moves).table

moved_all : (id : SessionId) (place : ℕ) (run : TableRun) (effects : List ℕ) → StaysTable run → Tracks id place run.table effects → (moves : List TableMove)
    → (ms : List SlotMove) × (effects ++ effects_from id place run.table moves ≡ (slot_run ms).effects)
moved_all id place run effects always t [] = (t.moves, append-nil effects ∙ t.told)
moved_all id place run effects always t (move ∷ moves) =
    let rest = moved_all id place (table_moved run move) (effects ++ effect_of id place run.table move) (λ more. always (move ∷ more)) (moved id place run.table effects (always []) t move) moves in
    (rest.0, sym (append_assoc effects (effect_of id place run.table move) (effects_from id place (table_after run.table move) moves)) ∙ rest.1)

first : (id : SessionId) (place boot : ℕ) → Tracks id place (no_clients boot) []
first id place boot = record { moves = []; told = refl; stands = tt; fresh = λ low. refl }

pub uses_slots_once : EachOnce → KeepsTable → UsesSlotsOnce
uses_slots_once each keeps boot moves session slot =
    let run = moved_all session slot (record { table = no_clients boot; ids = []; numbers = [] }) [] (λ more. (keeps boot more).0) (first session slot boot) moves in
    let once = each run.0 in (subst AreNumbered (sym run.1) once.0, subst TakeEffectOnce (sym run.1) once.1)
