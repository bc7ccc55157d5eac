-- What slots come to over every list of requests, with all their repeats (RFC 8881, section 2.10.6): each request takes effect once.
use Rattle.std.specs.Prelude.{◌≡◌, ℕ, ◌+◌, ◌%◌, ◌<◌, List, [], ◌∷◌, ◌++◌, length, Some, fold, slice_get}
use Rattle.nfs4_session.specs.Slots.{SlotState, SlotAnswer, TakesEffect, Repeats, Refuses, new_slot, slot_answer, slot_begun, slot_finished}

pub data SlotMove : Type 0 where
  -- a request of this number comes, for the first time or again
  Requests : (number : ℕ) → SlotMove
  -- the request of this number is done, with this reply
  Finishes : (number : ℕ) (reply : List ℕ) → SlotMove

pub record SlotRun : Type 0 where
  pub slot : SlotState
  -- the numbers of the requests that took effect, in order
  pub effects : List ℕ

abbrev pub requested : SlotRun → ℕ → SlotAnswer → SlotRun
requested run number TakesEffect = record { slot = slot_begun number; effects = run.effects ++ number ∷ [] }
requested run number (Repeats reply) = run
requested run number (Refuses status) = run

abbrev pub slot_moved : SlotRun → SlotMove → SlotRun
slot_moved run (Requests number) = requested run number (slot_answer run.slot number)
slot_moved run (Finishes number reply) = record { slot = slot_finished number reply run.slot; effects = run.effects }

abbrev pub slot_run : List SlotMove → SlotRun
slot_run moves = fold slot_moved (record { slot = new_slot; effects = [] }) moves

-- the kth that takes effect, counted from 1, has the number k modulo 2^32
abbrev pub AreNumbered : List ℕ → Type 0
AreNumbered effects = (k : ℕ) → k < length effects → slice_get effects k ≡ Some ((k + 1) % 4294967296)

-- among 2^32 that follow each other no number takes effect twice
abbrev pub TakeEffectOnce : List ℕ → Type 0
TakeEffectOnce effects = (i j : ℕ) → i < j → j < i + 4294967296 → j < length effects → ¬ (slice_get effects i ≡ slice_get effects j)

abbrev pub EachOnce : Type 0
EachOnce = (moves : List SlotMove) → AreNumbered (slot_run moves).effects × TakeEffectOnce (slot_run moves).effects
