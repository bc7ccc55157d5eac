-- A slot of a session: a request takes effect once, and one that comes again is answered by what is kept of it (RFC 8881, section
-- 2.10.6).
use Rattle.std.specs.Prelude.{ℕ, ◌+◌, Bool, true, false, ◌==◌, ◌&&◌, not, List, length, nat_lt, if◌then◌else◌}
use Rattle.nfs4_session.specs.declared.slot.TheConstants.{MAX_KEPT}
use Rattle.nfs4_types.specs.declared.status.Stat4.{Stat4}
use Rattle.nfs4_types.specs.declared.status.Stat4.TheVariants.{SeqMisordered, Delay, RetryUncachedRep}

-- what a slot has of the last request that took effect on it
pub data SlotReply : Type 0 where
  -- none has, so far
  NoRequest : SlotReply
  InProgress : SlotReply
  Cached : (reply : List ℕ) → SlotReply
  -- its reply was too long
  Uncached : SlotReply

pub record SlotState : Type 0 where
  -- the number of that request, and 0 before any
  pub last : ℕ
  pub reply : SlotReply

abbrev pub new_slot : SlotState
new_slot = record { last = 0; reply = NoRequest }

-- The number behind a number. They go round (section 2.10.6.1).
abbrev pub sequence_after : ℕ → ℕ
sequence_after last = if last == 4294967295 then 0 else last + 1

-- ---- what a request comes to

pub data SlotAnswer : Type 0 where
  TakesEffect : SlotAnswer
  Repeats : (reply : List ℕ) → SlotAnswer
  Refuses : (status : Stat4) → SlotAnswer

-- the last number comes again
abbrev pub answer_again : SlotReply → SlotAnswer
answer_again NoRequest = Refuses SeqMisordered
answer_again InProgress = Refuses Delay
answer_again (Cached reply) = Repeats reply
answer_again Uncached = Refuses RetryUncachedRep

abbrev pub is_in_progress : SlotReply → Bool
is_in_progress NoRequest = false
is_in_progress InProgress = true
is_in_progress (Cached reply) = false
is_in_progress Uncached = false

abbrev pub slot_answer : SlotState → ℕ → SlotAnswer
slot_answer s number =
    if number == s.last then answer_again s.reply
    else (if (number == sequence_after s.last) && not (is_in_progress s.reply) then TakesEffect else Refuses SeqMisordered)

-- ---- what it leaves

abbrev pub slot_begun : ℕ → SlotState
slot_begun number = record { last = number; reply = InProgress }

-- a kept reply has at most 32,768 bytes
abbrev pub kept_as : List ℕ → SlotReply
kept_as reply = if nat_lt MAX_KEPT (length reply) then Uncached else Cached reply

-- the request of this number is done, where it is in progress
abbrev pub slot_finished : ℕ → List ℕ → SlotState → SlotState
slot_finished number reply s = if (s.last == number) && is_in_progress s.reply then record { last = number; reply = kept_as reply } else s
