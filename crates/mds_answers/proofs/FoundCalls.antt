-- The call that an answer is to.
use Rattle.std.proofs.Common.{◌≡◌, ℕ, Bool, true, false, not, cond, List, [], ◌∷◌, filter, Option, Some, None, refl, sym, ap, subst, ◌∙◌}
use Rattle.std.specs.Prelude.{find}
use Rattle.cluster_model.specs.declared.ids.NodeId.{NodeId}
use Rattle.cluster_model.specs.declared.ids.FileId.{FileId}
use Rattle.cluster_model.specs.declared.outbox.Outbox.{Outbox}
use Rattle.cluster_model.specs.DsCalls.{DsCallValue, DsReplyValue}
use Rattle.nfs4_types.specs.declared.stateid.Stateid.{Stateid}
use Rattle.nfs4_session.specs.declared.back.BackCall.{BackCall}
use Rattle.recall.specs.Recalls.{after_reply}
use Rattle.mds_rule.specs.MdsStates.{AwaitedCall, CallsBack, MdsSend, MdsValue, MdsStep, sends_none, is_call_to, without_call}
use Rattle.mds_rule.specs.Answers.{is_awaited, recall_end, recalls_after, answered_as, answers_found, takes_answer}
use Rattle.compound_run.specs.CompoundRuns.{HasMadeStep}
use Rattle.mds_state.proofs.StepLemmas.{stepped_none}

nothing_less : {A : Type 0} (test : A → Bool) (xs : List A) → find test xs ≡ None → filter (λ x. not (test x)) xs ≡ xs
nothing_less test [] none = refl
nothing_less test (x ∷ xs) none = by_test (test x) none (nothing_less test xs)
  where
    by_test : (b : Bool) → cond b (Some x) (find test xs) ≡ None → (find test xs ≡ None → filter (λ y. not (test y)) xs ≡ xs) → cond (not b) (x ∷ filter (λ y. not (test y)) xs) (filter (λ y. not (test y)) xs) ≡ x ∷ xs
    by_test true is rest = absurd cc
    by_test false is rest = ap (λ ys. x ∷ ys) (rest is)

module _ (now : ℕ) (m : MdsValue) (node : NodeId) (xid : ℕ) (reply : DsCallValue → DsReplyValue) (status : ℕ) (calls : List AwaitedCall) where
  -- there is none
  pub nobody_so : (out : Outbox) → find (is_call_to node xid) m.calls ≡ None → calls ≡ without_call node xid m.calls → HasMadeStep (takes_answer now m node xid reply status) out (record m { calls = calls }) out
  nobody_so out none rest =
      subst (λ (o : Option AwaitedCall). HasMadeStep (answers_found now m node xid reply status o) out (record m { calls = calls }) out) (sym none)
      (subst (λ (cs : List AwaitedCall). HasMadeStep (sends_none m) out (record m { calls = cs }) out) (sym (rest ∙ nothing_less (is_call_to node xid) m.calls none)) (stepped_none m out))

  -- it is a callback, and it is waited for
  pub client_so : (old new : Outbox) (n : MdsValue) (call : AwaitedCall) (own : ℕ) (back : BackCall) (file : FileId) (stateid : Stateid) → find (is_call_to node xid) m.calls ≡ Some call → is_awaited m call ≡ true
      → call.sent ≡ CallsBack own back file stateid → calls ≡ without_call node xid m.calls
      → HasMadeStep (recalls_after (record m { calls = calls }) (after_reply m.recalls xid (recall_end status))) old n new → HasMadeStep (takes_answer now m node xid reply status) old n new
  client_so old new n call own back file stateid found waited sent rest made =
      let k : MdsValue = record m { calls = without_call node xid m.calls } in
      subst (λ (o : Option AwaitedCall). HasMadeStep (answers_found now m node xid reply status o) old n new) (sym found)
      (subst (λ b. HasMadeStep (cond b (answered_as now k xid reply status call.caller call.sent) (sends_none k)) old n new) (sym waited)
      (subst (λ (s : MdsSend). HasMadeStep (answered_as now k xid reply status call.caller s) old n new) (sym sent)
      (subst (λ (cs : List AwaitedCall). HasMadeStep (recalls_after (record m { calls = cs }) (after_reply m.recalls xid (recall_end status))) old n new) rest made)))
