-- Behind a tick each call that is kept is awaited.
use Rattle.std.proofs.Common.{◌≡◌, ℕ, Bool, true, false, List, [], ◌∷◌, refl, ◌∙◌, ap, inl, inr}
use Rattle.std.specs.Prelude.{filter, if◌then◌else◌}
use Rattle.cluster_model.specs.Members.{IsOneOf}
use Rattle.cluster_model.specs.declared.ids.NodeId.{NodeId}
use Rattle.mds_rule.specs.MdsStates.{AwaitedCall, MdsValue}
use Rattle.mds_rule.specs.declared.waiter.Waiter.{Waiter}
use Rattle.mds_rule.specs.declared.waiter.Waiter.TheVariants.{ForFile, ForRead, ForWrite, ForRecall}
use Rattle.mds_rule.specs.Answers.{is_awaited_by, is_awaited}
use Rattle.mds_rule.specs.Events.{files_tick}
use Rattle.mds_progress.specs.TickLaw.{behind_ends, AwaitsEach}

-- what is left by a test passes it
passes : {X : Type 0} (test : X → Bool) (x : X) (xs : List X) → IsOneOf x (filter test xs) → test x ≡ true
passes test x [] inside = absurd inside
passes {X = X} test x (y ∷ ys) inside = by_test (test y) refl inside (passes test x ys)
  where
    by_test : (b : Bool) → test y ≡ b → IsOneOf x (if b then y ∷ filter test ys else filter test ys) → (IsOneOf x (filter test ys) → test x ≡ true) → test x ≡ true
    by_test true is (inl same) rest = ap test same ∙ is
    by_test true is (inr behind) rest = rest behind
    by_test false is behind rest = rest behind

-- who waits is not told by the calls
awaits_by : (m : MdsValue) (calls : List AwaitedCall) (node : NodeId) (xid : ℕ) (caller : Waiter) → is_awaited_by (record m { calls = calls }) node xid caller ≡ is_awaited_by m node xid caller
awaits_by m calls node xid (ForFile file) = refl
awaits_by m calls node xid (ForRead file) = refl
awaits_by m calls node xid (ForWrite file) = refl
awaits_by m calls node xid ForRecall = refl

pub awaits_each : (now : ℕ) (m : MdsValue) → AwaitsEach now m
awaits_each now m call inside =
    let n : MdsValue = (files_tick (behind_ends now m)).mds in
    awaits_by n (filter (is_awaited n) n.calls) call.node call.xid call.caller ∙ passes (is_awaited n) call n.calls inside
