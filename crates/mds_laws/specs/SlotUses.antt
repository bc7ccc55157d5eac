-- Which requests of a slot take effect in a run of a metadata server (RFC 8881, sections 2.10.6.1 and 18.46).
use Rattle.std.specs.Prelude.{◌≡◌, ℕ, List, [], ◌∷◌, ◌++◌, Option, Some, None}
use Rattle.ff_xdr.specs.Form.{spelling}
use Rattle.rpc_record.specs.Replies.{RpcReply}
use Rattle.cluster_model.specs.declared.ids.NodeId.{NodeId}
use Rattle.nfs4_types.specs.declared.ids.SessionId.{SessionId}
use Rattle.nfs4_types.specs.declared.sequence.Sequence.{Sequence}
use Rattle.nfs4_types.specs.declared.status.Stat4.{Stat4}
use Rattle.nfs4_types.specs.Status.{stat4_number}
use Rattle.compound_reply.specs.Replied.{success_reply}
use Rattle.nfs4_compound.specs.Compounds.{CompoundValue, compound4_res}
use Rattle.nfs4_session.specs.Slots.{SlotAnswer, TakesEffect, Repeats, Refuses}
use Rattle.nfs4_session.specs.SlotsLaw.{AreNumbered, TakeEffectOnce}
use Rattle.nfs4_session.specs.Requests.{request_answer}
use Rattle.nfs4_session.specs.Bindings.{after_binding}
use Rattle.table_slots.specs.TableSlots.{effect_on}
use Rattle.device_addr.specs.Universal.{AddressValue}
use Rattle.mds_receive.specs.MdsReceive.{incoming_of}
use Rattle.mds_rule.specs.MdsStates.{Replies, MdsValue, MdsStep, new_mds}
use Rattle.mds_rule.specs.OpSteps.{refused_as}
use Rattle.mds_rule.specs.Compounds.{runs_compound}
use Rattle.mds_walk.specs.FirstRequests.{first_request, request_in}
use Rattle.mds_walk.specs.MdsRuns.{MdsEvent, MdsInput, Hears, IsTimedOut, Ticks, RecallsFile, Resilvers, after_event}

-- ---- those that take effect

-- its session is bound to the node that it came from, before it is judged
abbrev pub effect_asked : SessionId → ℕ → MdsValue → NodeId → Option Sequence → List ℕ
effect_asked session slot m from None = []
effect_asked session slot m from (Some request) = effect_on session slot (after_binding m.sessions request.session from) request

abbrev pub effect_in : SessionId → ℕ → MdsValue → MdsInput → List ℕ
effect_in session slot m (Hears from bytes) = effect_asked session slot m from (request_in (incoming_of bytes))
effect_in session slot m (IsTimedOut to which) = []
effect_in session slot m Ticks = []
effect_in session slot m (RecallsFile file) = []
effect_in session slot m (Resilvers file) = []

-- the numbers of this slot that took effect with events, in order
abbrev pub effects_in : SessionId → ℕ → MdsValue → List MdsEvent → List ℕ
effects_in session slot m [] = []
effects_in session slot m (e ∷ events) = effect_in session slot m e.input ++ effects_in session slot (after_event e m).mds events

-- ---- what holds

-- Of each slot of each session, the kth request that takes effect has the number k modulo 2^32: among 2^32 that follow each other no
-- number takes effect twice, whatever is sent again.
abbrev pub RequestsTakeEffectOnce : List AddressValue → ℕ → List MdsEvent → Type 0
RequestsTakeEffectOnce servers mirrors events =
    (session : SessionId) (slot : ℕ)
    → AreNumbered (effects_in session slot (new_mds servers mirrors) events) × TakeEffectOnce (effects_in session slot (new_mds servers mirrors) events)

-- nothing is changed but the node that the session is bound to, and this reply alone is sent there
pub record IsAnsweredBy (reply : RpcReply) (m : MdsValue) (node : NodeId) (request : Sequence) (step : MdsStep) : Type 0 where
  pub mds : step.mds ≡ record m { sessions = after_binding m.sessions request.session node }
  pub entries : step.entries ≡ []
  pub sends : step.sends ≡ Replies node reply ∷ []

-- the reply to a compound whose SEQUENCE is refused
abbrev pub refusal_of : ℕ → CompoundValue → Stat4 → RpcReply
refusal_of xid v status = success_reply xid (spelling compound4_res (stat4_number status, (v.tag, refused_as 53 status ∷ [])))

abbrev pub OnlyEffectsChange : MdsValue → NodeId → ℕ → CompoundValue → Sequence → MdsStep → SlotAnswer → Type 0
OnlyEffectsChange m node xid v request step TakesEffect = Unit {0}
OnlyEffectsChange m node xid v request step (Repeats kept) = IsAnsweredBy (success_reply xid kept) m node request step
OnlyEffectsChange m node xid v request step (Refuses status) = IsAnsweredBy (refusal_of xid v status) m node request step

-- A request that does not take effect is answered by the reply that is kept, or by its refusal, and changes nothing.
abbrev pub RepeatsChangeNothing : Type 0
RepeatsChangeNothing =
    (now : ℕ) (m : MdsValue) (node : NodeId) (xid : ℕ) (v : CompoundValue) (request : Sequence) → first_request v.ops.values ≡ Some request
    → OnlyEffectsChange m node xid v request (runs_compound now m node xid v) (request_answer (after_binding m.sessions request.session node) request)
