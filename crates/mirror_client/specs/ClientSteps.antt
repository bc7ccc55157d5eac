-- A client, for its user.
use Rattle.std.specs.Prelude.{◌≡◌, ℕ, Bool, true, false, List, drop, Result, Ok, Err}
use Rattle.std.specs.Int.{w64, from_be_bytes}
use Rattle.ff_xdr.specs.declared.error.NoMemory.{NoMemory}
use Rattle.cluster_model.specs.declared.outbox.Outbox.{Outbox}
use Rattle.client_state.specs.ClientStates.{ClientValue, fresh_client}
use Rattle.client_state.specs.ClientSends.{ClientStep}
use Rattle.client_state.specs.QueueSteps.{HasStepped}
use Rattle.mirror_client.specs.ClientRule.{turned}

-- what it has, and whether it is spent: memory was wanted in a step
pub record ClientOfUser : Type 0 where
  pub client : ClientValue
  pub is_spent : Bool

-- a new one, with the verifier as EXCHANGE_ID has it (RFC 8881, section 18.35)
abbrev pub fresh_client_of_user : ℕ → List ℕ → ℕ → ClientOfUser
fresh_client_of_user number verifier first_xid = record { client = fresh_client number (from_be_bytes w64 verifier) first_xid; is_spent = false }

-- It stepped by this rule. Where memory was wanted it is spent, and what was put out stands as before; one that is spent makes no step.
abbrev pub StepsBy : (ClientValue → ClientStep) → ClientOfUser → Outbox → Result (Unit {0}) NoMemory → ClientOfUser → Outbox → Type 0
StepsBy rule old before (Ok done) new after = (old.is_spent ≡ false) × (new.is_spent ≡ false) × HasStepped (rule old.client) before new.client after
StepsBy rule old before (Err wanted) new after = (new.is_spent ≡ true) × (after.entries.items ≡ before.entries.items) × (after.sends.items ≡ before.sends.items)

-- its oldest answer was taken
abbrev pub answer_taken : ClientOfUser → ClientOfUser
answer_taken s = record s { client = record s.client { answers = drop 1 s.client.answers } }

-- it left the protocol
abbrev pub left_protocol : ClientOfUser → ClientOfUser
left_protocol s = record s { client = turned s.client }
