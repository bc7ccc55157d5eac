-- The requests of a slot that take effect, in every run of a metadata server to which clients of this cluster call (RFC 8881, sections
-- 2.10.6 and 18.46).
use Rattle.std.specs.Prelude.{◌≡◌, ℕ, ◌+◌, ◌<◌, List, [], ◌∷◌, ◌++◌, length}
use Rattle.cluster_model.specs.declared.ids.NodeId.{NodeId}
use Rattle.nfs4_types.specs.declared.ids.SessionId.{SessionId}
use Rattle.nfs4_types.specs.declared.sequence.Sequence.{Sequence}
use Rattle.nfs4_session.specs.Slots.{TakesEffect}
use Rattle.nfs4_session.specs.Requests.{request_answer}
use Rattle.nfs4_session.specs.Bindings.{after_binding}
use Rattle.client_mds_calls.specs.MdsCalls.{SlotCallValue, OnSlot, is_kept_reply}
use Rattle.device_addr.specs.Universal.{AddressValue}
use Rattle.mds_rule.specs.MdsStates.{new_mds}
use Rattle.mds_walk.specs.MdsRuns.{MdsEvent}
use Rattle.mds_laws.specs.SlotUses.{effects_in}
use Rattle.mds_replies.specs.ClientCalls.{IsCallFrom, AreCalls, server_after, IsEventOf}

-- ---- a request that takes effect

-- a client's request on slot 0
abbrev pub request_of : SessionId → ℕ → SlotCallValue → Sequence
request_of session number call = record { session = session; sequence = number; slot = 0; highest = 0; cachethis = is_kept_reply call }

-- the request of this number of a session came in this event, and took effect
pub record TookEffect (servers : List AddressValue) (mirrors : ℕ) (before : List MdsEvent) (e : MdsEvent) (session : SessionId) (number : ℕ) : Type 0 where
  pub node : NodeId
  pub xid : ℕ
  pub name : List ℕ
  pub call : SlotCallValue
  pub came : IsCallFrom e node xid name (OnSlot session number call)
  pub effect : request_answer (after_binding (server_after servers mirrors before).sessions session node) (request_of session number call) ≡ TakesEffect

-- how many requests of a session have taken effect
abbrev pub count_taken : List AddressValue → ℕ → List MdsEvent → SessionId → ℕ
count_taken servers mirrors events session = length (effects_in session 0 (new_mds servers mirrors) events)

-- each that takes effect has the number behind those before it, of which there are fewer than 2^32 - 1
abbrev pub EffectsAreNumbered : Type 0
EffectsAreNumbered =
    (servers : List AddressValue) (mirrors : ℕ) (events before after : List MdsEvent) (e : MdsEvent) (session : SessionId) (number : ℕ) → AreCalls events → IsEventOf events before e after
    → count_taken servers mirrors before session + 1 < 4294967296 → TookEffect servers mirrors before e session number
    → (number ≡ count_taken servers mirrors before session + 1) × (count_taken servers mirrors (before ++ e ∷ []) session ≡ count_taken servers mirrors before session + 1)
