-- What the code does to one client's record.
use Rattle.std.specs.Prelude.{ℕ, List}
use Rattle.nfs4_session.specs.declared.change.Change.{Change}
use Rattle.nfs4_session.specs.declared.change.Change.TheVariants as change
use Rattle.nfs4_session.specs.Slots.{slot_begun, slot_finished}
use Rattle.nfs4_session.specs.Clients.{ClientState, SessionState, has_number, change_first, remove_first, with_sessions, renewed_at}
use Rattle.nfs4_session.specs.Requests.{change_slot}
use Rattle.nfs4_session.specs.Bindings.{client_bound, client_called_back}

abbrev pub sessions_begun : ℕ → ℕ → ℕ → List SessionState → List SessionState
sessions_begun session slot number = change_first (has_number session) (change_slot slot (λ s. slot_begun number))

abbrev pub sessions_finished : ℕ → ℕ → ℕ → List ℕ → List SessionState → List SessionState
sessions_finished session slot number reply = change_first (has_number session) (change_slot slot (slot_finished number reply))

abbrev pub changed : Change → ClientState → ClientState
changed (change.Renew now) c = renewed_at now c
changed (change.Begin session slot number now) c = renewed_at now (with_sessions c (sessions_begun session slot number c.sessions))
changed (change.Finish session slot number reply) c = with_sessions c (sessions_finished session slot number reply.now c.sessions)
changed (change.Bind session node) c = client_bound session node c
changed (change.CallBack session) c = client_called_back session c
changed (change.Destroy session) c = with_sessions c (remove_first (has_number session) c.sessions)
