-- How the code has a slot, and which answer of a slot it names.
use Rattle.std.specs.Prelude.{ℕ, List, [], Option, Some, None, slice_get}
use Rattle.nfs4_session.specs.declared.slot.Stage.{Stage}
use Rattle.nfs4_session.specs.declared.slot.Stage.TheVariants as stage
use Rattle.nfs4_session.specs.declared.slot.Turn.{Turn}
use Rattle.nfs4_session.specs.declared.slot.Turn.TheVariants as turn
use Rattle.nfs4_session.specs.Slots.{SlotReply, NoRequest, InProgress, Cached, Uncached, SlotState, SlotAnswer, TakesEffect, Repeats, Refuses}
use Rattle.nfs4_session.specs.Clients.{SessionState}

-- the reply is in the slot's room
abbrev pub reply_in : Stage → List ℕ → SlotReply
reply_in stage.NoRequest room = NoRequest
reply_in stage.InProgress room = InProgress
reply_in stage.Cached room = Cached room
reply_in stage.Uncached room = Uncached

-- an answer, but for the reply
abbrev pub turn_of : SlotAnswer → Turn
turn_of TakesEffect = turn.TakesEffect
turn_of (Repeats reply) = turn.Repeats
turn_of (Refuses status) = turn.Refuses status

-- the bytes of a kept reply
abbrev pub kept_bytes : SlotReply → List ℕ
kept_bytes NoRequest = []
kept_bytes InProgress = []
kept_bytes (Cached reply) = reply
kept_bytes Uncached = []

abbrev pub kept_at_slot : Option SlotState → List ℕ
kept_at_slot None = []
kept_at_slot (Some slot) = kept_bytes slot.reply

abbrev pub kept_in_session : ℕ → Option SessionState → List ℕ
kept_in_session slot None = []
kept_in_session slot (Some session) = kept_at_slot (slice_get session.slots slot)
