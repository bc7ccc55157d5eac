-- A compound that begins with a SEQUENCE.
use Rattle.std.proofs.Common.{◌≡◌, ℕ, ◌+◌, ◌<◌, List, [], ◌∷◌, ◌++◌, length, map, Result, Ok, Err, refl, sym, ap, subst, ◌∙◌, IfOk, OnOk, arith}
use Rattle.std.proofs.lemmas.List.{append-nil}
use Rattle.cluster_model.specs.declared.outbox.Outbox.{Outbox}
use Rattle.compound_reply.specs.Replied.{success_reply}
use Rattle.nfs4_types.specs.declared.sequence.Sequence.{Sequence}
use Rattle.nfs4_types.specs.declared.status.Stat4.{Stat4}
use Rattle.cluster_model.specs.declared.ids.NodeId.{NodeId}
use Rattle.nfs4_compound.specs.Args.{argop4}
use Rattle.nfs4_compound.specs.Operations.{OpList}
use Rattle.compound_run.specs.declared.run.Progress.{Progress}
use Rattle.nfs4_session.specs.declared.begin.SlotPass.{SlotPass}
use Rattle.nfs4_session.specs.declared.begin.Begin.{Begin}
use Rattle.nfs4_session.specs.declared.begin.Begin.TheVariants.{New, Replay, Refused}
use Rattle.nfs4_session.specs.Slots.{SlotAnswer, TakesEffect, Repeats, Refuses}
use Rattle.nfs4_session.specs.Clients.{SessionsState}
use Rattle.nfs4_session.specs.Bindings.{after_binding}
use Rattle.nfs4_session.specs.Requests.{request_answer, after_request, IsReplayOf, BeginsBy, BeginsRequest}
use Rattle.mds_rule.specs.MdsStates.{CompoundRun, Replies, MdsValue, MdsStep}
use Rattle.mds_rule.specs.Spelled.{spelled_send}
use Rattle.mds_rule.specs.OpSteps.{with_result, refused_as}
use Rattle.mds_rule.specs.Compounds.{in_slot, runs, sequenced, begins_sequence, finishes}
use Rattle.compound_run.specs.declared.op_end.OpEnd.{OpEnd}
use Rattle.compound_run.specs.declared.op_end.OpEnd.TheVariants as end
use Rattle.compound_run.specs.CompoundRuns.{run_of, HasMadeStep, OnGoes}
use Rattle.mds_compounds.specs.Walks.{HasRoomToGoOn, goes_on}

-- the result of the SEQUENCE has its room
pub slot_room : (c d : CompoundRun) (s : Sequence) (e : OpEnd) → OnGoes (Ok e) (d ≡ in_slot c s) → length c.ops < 16 → HasRoomToGoOn d
slot_room c d s end.Goes is few = subst HasRoomToGoOn (sym is) (omega (arith, few))
slot_room c d s (end.Ends status) is few = absurd is
slot_room c d s end.Waits is few = absurd is

module _ (now : ℕ) (m : MdsValue) (c : CompoundRun) (s : Sequence) (s1 s2 : SessionsState) (bound : s1 ≡ after_binding m.sessions s.session c.node) (old new : Outbox) (n : MdsValue) where
  abbrev as_bound : SlotAnswer → MdsStep
  as_bound answer = sequenced now (record m { sessions = s1 }) c c.ops s answer

  from_bound : HasMadeStep (as_bound (request_answer s1 s)) old n new → HasMadeStep (begins_sequence now m c c.ops s) old n new
  from_bound made = subst (λ (x : SessionsState). HasMadeStep (sequenced now (record m { sessions = x }) c c.ops s (request_answer x s)) old n new) bound made

  -- it takes effect
  pub new_so : (client : ℕ) (slot : SlotPass) (e : OpEnd) (d : CompoundRun) → BeginsRequest s1 s now (New client slot) s2 → OnGoes (Ok e) (d ≡ in_slot c s)
      → HasMadeStep (goes_on now e (record m { sessions = s2 }) d) old n new → HasMadeStep (begins_sequence now m c c.ops s) old n new
  new_so client slot e d begins goes made = from_bound (by_answer (request_answer s1 s) begins)
    where
      by_end : (f : OpEnd) → OnGoes (Ok f) (d ≡ in_slot c s) → HasMadeStep (goes_on now f (record m { sessions = s2 }) d) old n new → HasMadeStep (runs now c.ops (record m { sessions = s2 }) (in_slot c s)) old n new
      by_end end.Goes is it = subst (λ (x : CompoundRun). HasMadeStep (runs now x.ops (record m { sessions = s2 }) x) old n new) is it
      by_end (end.Ends status) is it = absurd is
      by_end end.Waits is it = absurd is

      by_answer : (a : SlotAnswer) → BeginsBy s1 s now (New client slot) s2 a → HasMadeStep (as_bound a) old n new
      by_answer TakesEffect b = subst (λ (x : SessionsState). HasMadeStep (runs now c.ops (record m { sessions = x }) (in_slot c s)) old n new) b.1 (by_end e goes made)
      by_answer (Repeats reply) b = absurd b.0
      by_answer (Refuses status) b = let no = b.0 in absurd cc

  -- it is refused
  pub refused_so : (status : Stat4) (e : OpEnd) (d : CompoundRun) → BeginsRequest s1 s now (Refused status) s2 → e ≡ end.Ends status → d ≡ with_result c (refused_as 53 status)
      → HasMadeStep (goes_on now e (record m { sessions = s2 }) d) old n new → HasMadeStep (begins_sequence now m c c.ops s) old n new
  refused_so status e d begins ends run made = from_bound (by_answer (request_answer s1 s) begins)
    where
      finished : HasMadeStep (finishes (record m { sessions = s2 }) (with_result c (refused_as 53 status)) status) old n new
      finished =
          subst (λ (x : CompoundRun). HasMadeStep (finishes (record m { sessions = s2 }) x status) old n new) run (subst (λ (x : OpEnd). HasMadeStep (goes_on now x (record m { sessions = s2 }) d) old n new) ends made)

      same : (a b : Stat4) → Refused a ≡ Refused b → a ≡ b
      same a b is = ap status_in is
        where
          status_in : Begin → Stat4
          status_in (Refused x) = x
          status_in (New client slot) = a
          status_in (Replay kept) = a

      by_answer : (a : SlotAnswer) → BeginsBy s1 s now (Refused status) s2 a → HasMadeStep (as_bound a) old n new
      by_answer TakesEffect b = let no = b.0 in absurd cc
      by_answer (Repeats reply) b = absurd b.0
      by_answer (Refuses given) b =
          subst (λ (x : SessionsState). HasMadeStep (finishes (record m { sessions = x }) (with_result c (refused_as 53 given)) given) old n new) b.1
          (subst (λ (x : Stat4). HasMadeStep (finishes (record m { sessions = s2 }) (with_result c (refused_as 53 x)) x) old n new) (same status given b.0) finished)

  -- its reply was kept
  pub replayed_so : (b : Begin) (kept : List ℕ) → ((client : ℕ) (slot : SlotPass) → b ≡ New client slot → ⊥) → ((status : Stat4) → b ≡ Refused status → ⊥) → ((r : List ℕ) → IsReplayOf r b → r ≡ kept) → BeginsRequest s1 s now b s2
      → new.entries.items ≡ old.entries.items → new.sends.items ≡ old.sends.items ++ spelled_send (Replies c.node (success_reply c.xid kept)) ∷ [] → n ≡ record m { sessions = s2 } → HasMadeStep (begins_sequence now m c c.ops s) old n new
  replayed_so b kept no_new no_refused replays begins entries sends is = from_bound (by_answer (request_answer s1 s) begins)
    where
      by_answer : (a : SlotAnswer) → BeginsBy s1 s now b s2 a → HasMadeStep (as_bound a) old n new
      by_answer TakesEffect it = absurd (no_new _ _ it.0)
      by_answer (Repeats reply) it = record {
        mds = is ∙ ap (λ (x : SessionsState). record m { sessions = x }) it.1;
        entries = entries ∙ sym (append-nil old.entries.items);
        sends = sends ∙ ap (λ (r : List ℕ). old.sends.items ++ spelled_send (Replies c.node (success_reply c.xid r)) ∷ []) (sym (replays reply it.0));
      }
      by_answer (Refuses status) it = absurd (no_refused status it.0)

-- the reply goes to who sent the compound
pub sends_kept : (old new : Outbox) (node : NodeId) (xid : ℕ) (c : CompoundRun) {tag : List ℕ} {ops : OpList argop4} {p : Progress} → run_of tag ops p ≡ c → (kept : List ℕ)
    → new.sends.items ≡ old.sends.items ++ spelled_send (Replies p.node (success_reply p.xid kept)) ∷ [] → new.sends.items ≡ old.sends.items ++ spelled_send (Replies c.node (success_reply c.xid kept)) ∷ []
sends_kept old new node xid c is kept sends = subst (λ (r : CompoundRun). new.sends.items ≡ old.sends.items ++ spelled_send (Replies r.node (success_reply r.xid kept)) ∷ []) is sends
