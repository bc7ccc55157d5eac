-- How the code answers a request.
use Rattle.std.specs.Prelude.{◌≡◌}
use Rattle.nfs4_types.specs.declared.sequence.Sequence.{Sequence}
use Rattle.nfs4_session.specs.declared.begin.Begin.{Begin}
use Rattle.nfs4_session.specs.declared.begin.Begin.TheVariants.{New, Refused}
use Rattle.nfs4_session.specs.declared.slot.Turn.{Turn}
use Rattle.nfs4_session.specs.declared.slot.Turn.TheVariants as turn
use Rattle.nfs4_session.specs.Slots.{SlotAnswer, TakesEffect, Repeats, Refuses}
use Rattle.nfs4_session.specs.Clients.{SessionsState, client_in, session_of}
use Rattle.nfs4_session.specs.Requests.{IsReplayOf, pass_of}
use Rattle.nfs4_session.specs.Turns.{kept_in_session}

-- the table behind a request, where this is what comes of it when it takes effect
abbrev pub table_begun : SessionsState → SessionsState → SlotAnswer → SessionsState
table_begun s after TakesEffect = after
table_begun s after (Repeats reply) = s
table_begun s after (Refuses status) = s

abbrev pub AnswersTurn : SessionsState → Sequence → Turn → Begin → Type 0
AnswersTurn s request turn.TakesEffect result = result ≡ New (client_in request.session) (pass_of request)
AnswersTurn s request turn.Repeats result = IsReplayOf (kept_in_session request.slot (session_of s.clients request.session)) result
AnswersTurn s request (turn.Refuses status) result = result ≡ Refused status
