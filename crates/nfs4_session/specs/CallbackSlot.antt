-- The one slot for callbacks, at the client (RFC 8881, sections 2.10.6 and 20.9).
use Rattle.std.specs.Prelude.{ℕ, ◌==◌, Option, Some, None, if◌then◌else◌}
use Rattle.nfs4_types.specs.declared.ids.SessionId.{SessionId}
use Rattle.nfs4_types.specs.declared.status.Stat4.{Stat4}
use Rattle.nfs4_session.specs.declared.cb_slot.CbBegin.{CbBegin}
use Rattle.nfs4_session.specs.declared.cb_slot.CbBegin.TheVariants.{New, Again, Misordered}
use Rattle.nfs4_session.specs.Slots.{sequence_after}

pub record CbSlotState : Type 0 where
  pub session : SessionId
  -- the number of the last callback that took effect, and 0 before any
  pub last : ℕ
  -- the status that its recall was answered with
  pub kept : Option Stat4

abbrev pub new_cb_slot : SessionId → CbSlotState
new_cb_slot session = record { session = session; last = 0; kept = None }

-- the last number comes again
abbrev pub cb_again : Option Stat4 → CbBegin
cb_again (Some status) = Again status
cb_again None = Misordered

abbrev pub cb_begin : CbSlotState → ℕ → CbBegin
cb_begin s number = if number == s.last then cb_again s.kept else (if number == sequence_after s.last then New else Misordered)

abbrev pub after_cb_begin : CbSlotState → ℕ → CbBegin → CbSlotState
after_cb_begin s number New = record { session = s.session; last = number; kept = None }
after_cb_begin s number (Again status) = s
after_cb_begin s number Misordered = s

abbrev pub with_cb_status : CbSlotState → Stat4 → CbSlotState
with_cb_status s status = record { session = s.session; last = s.last; kept = Some status }
