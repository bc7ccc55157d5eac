-- A LAYOUTGET goes through only where the file was free, or was the client's already.
use Rattle.std.proofs.Common.{◌≡◌, ℕ, Bool, true, false, cond, [], ◌∷◌, Option, Some, None, refl, ap, subst, inl, inr, ◌⊎◌}
use Rattle.std.proofs.lemmas.Bool.{cond_both, eqb-true}
use Rattle.cluster_model.specs.declared.ids.NodeId.{NodeId}
use Rattle.cluster_model.specs.declared.layout_state.LayoutState.{LayoutState}
use Rattle.cluster_model.specs.declared.layout_state.LayoutPhase.{LayoutPhase}
use Rattle.cluster_model.specs.declared.layout_state.LayoutPhase.TheVariants.{Making, Free, Held, Fencing, Settling, Copying}
use Rattle.cluster_model.specs.declared.phase.Phase.{Phase}
use Rattle.cluster_model.specs.Phases.{holder_of}
use Rattle.layout_state.specs.declared.grant.GrantFault.{GrantFault}
use Rattle.layout_state.specs.declared.grant.GrantFault.TheVariants.{Later, Recalling, Spent}
use Rattle.layout_state.specs.Grants.{grant_fault_by}
use Rattle.nfs4_types.specs.declared.status.Stat4.{Stat4}
use Rattle.mds_refusals.specs.Orders.{Order, refusal}
use Rattle.mds_refusals.specs.LayoutGets.{is_later, is_recalled, is_spent, layout_get_order}
use Rattle.mds_refusals.specs.declared.layout_get.LayoutGetFound.{LayoutGetFound}
use Rattle.mds_rule.specs.MdsStates.{CompoundRun, ServedFile, MdsValue, confirmed_node, served}
use Rattle.mds_rule.specs.OpSteps.{OpStep, Goes, Ends, Waits, refused_or}
use Rattle.mds_rule.specs.FileOps.{client_of, current_file, uids_left}
use Rattle.mds_rule.specs.LayoutOps.{layout_asked, holds_by, fault_of_holder, layout_fault, layout_found, grants_to, is_granted, phase_behind, is_try_later, later_by, layout_answer}
use Rattle.mds_laws.specs.HandedLayouts.{WasFreeOrIts, WasFree, WasIts, WhereItGoes, TakesNoLayoutAway}
use Rattle.mds_walk.proofs.Lists.{AllOf}

-- ---- where nothing refuses it

holds_none : (order : Order) → refusal order ≡ None → AllOf (λ (f : Bool × Stat4). f.0 ≡ false) order
holds_none [] is = tt
holds_none (f ∷ order) is = by_test f.0 refl is (λ its. holds_none order its)
  where
    by_test : (b : Bool) → f.0 ≡ b → cond b (Some f.1) (refusal order) ≡ None → (refusal order ≡ None → AllOf (λ (g : Bool × Stat4). g.0 ≡ false) order) → (f.0 ≡ false) × AllOf (λ (g : Bool × Stat4). g.0 ≡ false) order
    by_test true at its rest = absurd cc
    by_test false at its rest = (at, rest its)

no_fault : (o : Option GrantFault) → is_later o ≡ false → is_recalled o ≡ false → is_spent o ≡ false → o ≡ None
no_fault None later recalled spent = refl
no_fault (Some (Later phase)) later recalled spent = absurd cc
no_fault (Some Recalling) later recalled spent = absurd cc
no_fault (Some Spent) later recalled spent = absurd cc

its_holder : (client : ℕ) (o : Option ℕ) → holds_by client o ≡ true → o ≡ Some client
its_holder client None is = absurd cc
its_holder client (Some holder) is = ap (λ (n : ℕ). Some n) (eqb-true holder client is)

-- a file that nobody holds is free, and one that is held is this client's
free_or_its : (layout : LayoutState) (left : ℕ) (its : Bool) (node : NodeId) (p : LayoutPhase) → layout.phase ≡ p → fault_of_holder layout left its (holder_of p) node ≡ None → (p ≡ Free) ⊎ (its ≡ true)
free_or_its layout left its node Making at is = absurd (later (subst (λ (p : LayoutPhase). grant_fault_by p node left ≡ None) at is))
  where
    later : grant_fault_by Making node left ≡ None → ⊥
    later is = absurd cc
free_or_its layout left its node Free at is = inl refl
free_or_its layout left true node (Held holder recalled) at is = inr refl
free_or_its layout left false node (Held holder recalled) at is = absurd cc
free_or_its layout left its node (Fencing next end) at is = absurd (later (subst (λ (p : LayoutPhase). grant_fault_by p node left ≡ None) at is))
  where
    later : grant_fault_by (Fencing next end) node left ≡ None → ⊥
    later is = absurd cc
free_or_its layout left its node (Settling copies) at is = absurd (later (subst (λ (p : LayoutPhase). grant_fault_by p node left ≡ None) at is))
  where
    later : grant_fault_by (Settling copies) node left ≡ None → ⊥
    later is = absurd cc
free_or_its layout left its node (Copying copier copies) at is = absurd (later (subst (λ (p : LayoutPhase). grant_fault_by p node left ≡ None) at is))
  where
    later : grant_fault_by (Copying copier copies) node left ≡ None → ⊥
    later is = absurd cc

was_so : (m : MdsValue) (c : CompoundRun) (o : Option ServedFile) → served m (current_file c) ≡ o → layout_fault m c o ≡ None → WasFreeOrIts m c
was_so m c None at is = absurd cc
was_so m c (Some s) at is = by_case (free_or_its s.file.layout (uids_left m) (holds_by (client_of c) s.holder) c.node s.file.layout.phase refl is)
  where
    by_case : (s.file.layout.phase ≡ Free) ⊎ (holds_by (client_of c) s.holder ≡ true) → WasFreeOrIts m c
    by_case (inl free) = WasFree s at free
    by_case (inr its) = WasIts s at (its_holder (client_of c) s.holder its)

-- ---- the operation

goes_so : (A : Type 0) (x : OpStep) → A → WhereItGoes A x
goes_so A (Goes n entries d) a = a
goes_so A (Ends n entries d status) a = tt
goes_so A (Waits n entries) a = tt

later_so : (A : Type 0) (m : MdsValue) (c : CompoundRun) (now : ℕ) (p : Option Phase) → WhereItGoes A (later_by m c now p)
later_so A m c now None = tt
later_so A m c now (Some p) = tt

refused_so : (A : Type 0) (m : MdsValue) (c : CompoundRun) (number : ℕ) (status : Option Stat4) (step : OpStep) → (status ≡ None → A) → WhereItGoes A (refused_or m c number status step)
refused_so A m c number None step all = goes_so A step (all refl)
refused_so A m c number (Some status) step all = tt

answer_so : (A : Type 0) (m : MdsValue) (c : CompoundRun) (now : ℕ) (found : LayoutGetFound) (status : Option Stat4) → (status ≡ None → A) → WhereItGoes A (layout_answer m c now found status)
answer_so A m c now found status all =
    let step : OpStep = grants_to m c (current_file c) (is_granted (served m (current_file c))) (confirmed_node m (client_of c)) in
    cond_both (is_try_later status) (later_by m c now (phase_behind found.fault)) (refused_or m c 50 status step) (λ (x : OpStep). WhereItGoes A x) (λ is. later_so A m c now (phase_behind found.fault))
    (λ off. refused_so A m c 50 status step all)

pub takes_no_layout_away : TakesNoLayoutAway
takes_no_layout_away now m c args = answer_so (WasFreeOrIts m c) m c now (layout_found m c (layout_asked args)) (refusal (layout_get_order c.current (layout_asked args) (layout_found m c (layout_asked args)))) was
  where
    was : refusal (layout_get_order c.current (layout_asked args) (layout_found m c (layout_asked args))) ≡ None → WasFreeOrIts m c
    was is =
        let found : LayoutGetFound = layout_found m c (layout_asked args) in
        let all = holds_none (layout_get_order c.current (layout_asked args) (layout_found m c (layout_asked args))) is in
        was_so m c (served m (current_file c)) refl (no_fault (layout_fault m c (served m (current_file c))) all.1.1.1.1.1.1.1.0 all.1.1.1.1.1.1.1.1.0 all.1.1.1.1.1.1.1.1.1.0)
