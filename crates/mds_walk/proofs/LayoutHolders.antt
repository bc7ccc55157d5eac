-- Whose a file is that a LAYOUTGET is let through to: where it is held, it is the client's that asks.
use Rattle.std.proofs.Common.{◌≡◌, ◌≤◌, ℕ, ◌+◌, Bool, true, false, cond, arith, [], ◌∷◌, Option, Some, None, refl, sym, ap, subst, ◌∙◌, inl, inr, ◌⊎◌}
use Rattle.std.specs.Prelude.{◌-◌, nat_lt, if◌then◌else◌}
use Rattle.std.proofs.lemmas.Bool.{eqb-true, le-ltb, ltb-false}
use Rattle.cluster_model.specs.declared.limits.TheConstants.{SPARE_UIDS}
use Rattle.file_rule.specs.declared.fresh.Fresh.{Fresh}
use Rattle.file_rule.specs.FilePhases.{are_spent, end_of_uids}
use Rattle.cluster_model.specs.declared.ids.NodeId.{NodeId}
use Rattle.cluster_model.specs.declared.layout_state.LayoutState.{LayoutState}
use Rattle.cluster_model.specs.declared.layout_state.LayoutPhase.{LayoutPhase}
use Rattle.cluster_model.specs.declared.layout_state.LayoutPhase.TheVariants.{Making, Free, Held, Fencing, Settling, Copying}
use Rattle.cluster_model.specs.Phases.{holder_of}
use Rattle.layout_state.specs.declared.grant.GrantFault.{GrantFault}
use Rattle.layout_state.specs.declared.grant.GrantFault.TheVariants.{Later, Recalling, Spent}
use Rattle.layout_state.specs.Grants.{grant_fault_by, is_held}
use Rattle.nfs4_types.specs.declared.status.Stat4.{Stat4}
use Rattle.mds_refusals.specs.Orders.{Order, refusal}
use Rattle.mds_refusals.specs.LayoutGets.{is_later, is_recalled, is_spent, layout_get_order}
use Rattle.nfs4_file_ops.specs.declared.layout_get.LayoutGetArgs.{LayoutGetArgs}
use Rattle.mds_rule.specs.MdsStates.{CompoundRun, ServedFile, MdsValue, served}
use Rattle.mds_rule.specs.FileOps.{client_of, current_file, uids_left}
use Rattle.mds_rule.specs.LayoutOps.{holds_by, fault_of_holder, layout_fault, layout_found, is_granted}
use Rattle.mds_walk.proofs.Lists.{AllOf}
use Rattle.std.proofs.lemmas.Option.{same_Some}

pub holds_none : (order : Order) → refusal order ≡ None → AllOf (λ (f : Bool × Stat4). f.0 ≡ false) order
holds_none [] is = tt
holds_none (f ∷ order) is = by_test f.0 refl is (λ its. holds_none order its)
  where
    by_test : (b : Bool) → f.0 ≡ b → cond b (Some f.1) (refusal order) ≡ None → (refusal order ≡ None → AllOf (λ (g : Bool × Stat4). g.0 ≡ false) order) → (f.0 ≡ false) × AllOf (λ (g : Bool × Stat4). g.0 ≡ false) order
    by_test true at its rest = absurd cc
    by_test false at its rest = (at, rest its)

no_fault : (o : Option GrantFault) → is_later o ≡ false → is_recalled o ≡ false → is_spent o ≡ false → o ≡ None
no_fault None later recalled spent = refl
no_fault (Some (Later phase)) later recalled spent = absurd cc
no_fault (Some Recalling) later recalled spent = absurd cc
no_fault (Some Spent) later recalled spent = absurd cc

its_holder : (client : ℕ) (o : Option ℕ) → holds_by client o ≡ true → o ≡ Some client
its_holder client None is = absurd cc
its_holder client (Some holder) is = ap (λ (n : ℕ). Some n) (eqb-true holder client is)

-- a file that nobody holds is free, and one that is held is this client's
free_or_its : (layout : LayoutState) (left : ℕ) (its : Bool) (node : NodeId) (p : LayoutPhase) → layout.phase ≡ p → fault_of_holder layout left its (holder_of p) node ≡ None → (p ≡ Free) ⊎ (its ≡ true)
free_or_its layout left its node Making at is = absurd (later (subst (λ (p : LayoutPhase). grant_fault_by p node left ≡ None) at is))
  where
    later : grant_fault_by Making node left ≡ None → ⊥
    later is = absurd cc
free_or_its layout left its node Free at is = inl refl
free_or_its layout left true node (Held holder recalled) at is = inr refl
free_or_its layout left false node (Held holder recalled) at is = absurd cc
free_or_its layout left its node (Fencing next end) at is = absurd (later (subst (λ (p : LayoutPhase). grant_fault_by p node left ≡ None) at is))
  where
    later : grant_fault_by (Fencing next end) node left ≡ None → ⊥
    later is = absurd cc
free_or_its layout left its node (Settling copies) at is = absurd (later (subst (λ (p : LayoutPhase). grant_fault_by p node left ≡ None) at is))
  where
    later : grant_fault_by (Settling copies) node left ≡ None → ⊥
    later is = absurd cc
free_or_its layout left its node (Copying copier copies) at is = absurd (later (subst (λ (p : LayoutPhase). grant_fault_by p node left ≡ None) at is))
  where
    later : grant_fault_by (Copying copier copies) node left ≡ None → ⊥
    later is = absurd cc

not_held : (p : LayoutPhase) → p ≡ Free → is_held p ≡ true → ⊥
not_held p free held = not_so (sym (ap is_held free) ∙ held)
  where
    not_so : false ≡ true → ⊥
    not_so is = absurd cc

was_its : (m : MdsValue) (c : CompoundRun) (o : Option ServedFile) → layout_fault m c o ≡ None → (s : ServedFile) → o ≡ Some s → is_granted o ≡ true → s.holder ≡ Some (client_of c)
was_its m c None none s at granted = absurd cc
was_its m c (Some t) none s at granted = subst (λ (x : ServedFile). x.holder ≡ Some (client_of c)) (same_Some t s at) (by_case (free_or_its t.file.layout (uids_left m) (holds_by (client_of c) t.holder) c.node t.file.layout.phase refl none))
  where
    by_case : (t.file.layout.phase ≡ Free) ⊎ (holds_by (client_of c) t.holder ≡ true) → t.holder ≡ Some (client_of c)
    by_case (inl free) = absurd (not_held t.file.layout.phase free granted)
    by_case (inr its) = its_holder (client_of c) t.holder its

-- A LAYOUTGET that is not refused, of a file that is held, comes from the client that has the layout.
pub again_holds : (m : MdsValue) (c : CompoundRun) (args : LayoutGetArgs) → refusal (layout_get_order c.current args (layout_found m c args)) ≡ None → (s : ServedFile) → served m (current_file c) ≡ Some s
    → is_granted (served m (current_file c)) ≡ true → s.holder ≡ Some (client_of c)
again_holds m c args is s at granted =
    let all = holds_none (layout_get_order c.current args (layout_found m c args)) is in
    was_its m c (served m (current_file c)) (no_fault (layout_fault m c (served m (current_file c))) all.1.1.1.1.1.1.1.0 all.1.1.1.1.1.1.1.1.0 all.1.1.1.1.1.1.1.1.1.0) s at granted

-- ---- where nobody holds it, it is free, and uids are left

not_spent : (b : Bool) → (if b then Some Spent else None) ≡ None → b ≡ false
not_spent true is = absurd cc
not_spent false is = refl

spare_left : (fresh : Fresh) → nat_lt (end_of_uids - fresh.uid) SPARE_UIDS ≡ false → are_spent fresh ≡ false
spare_left fresh is = let many : SPARE_UIDS ≤ end_of_uids - fresh.uid = ltb-false (end_of_uids - fresh.uid) SPARE_UIDS is in le-ltb end_of_uids (fresh.uid + SPARE_UIDS) (grind (arith, many))

free_so : (m : MdsValue) (c : CompoundRun) (o : Option ServedFile) → layout_fault m c o ≡ None → (s : ServedFile) → o ≡ Some s → is_granted o ≡ false → (s.file.layout.phase ≡ Free) × (are_spent m.fresh ≡ false)
free_so m c None none s at free = absurd cc
free_so m c (Some t) none s at free =
    subst (λ (x : ServedFile). (x.file.layout.phase ≡ Free) × (are_spent m.fresh ≡ false)) (same_Some t s at) (by_phase t.file.layout.phase refl none free)
  where
    by_phase : (p : LayoutPhase) → t.file.layout.phase ≡ p → fault_of_holder t.file.layout (uids_left m) (holds_by (client_of c) t.holder) (holder_of p) c.node ≡ None → is_held p ≡ false → (t.file.layout.phase ≡ Free) × (are_spent m.fresh ≡ false)
    by_phase (Held holder recalled) at none free = absurd cc
    by_phase Making at none free = absurd (made (subst (λ (p : LayoutPhase). grant_fault_by p c.node (uids_left m) ≡ None) at none))
      where
        made : grant_fault_by Making c.node (uids_left m) ≡ None → ⊥
        made is = absurd cc
    by_phase Free at none free = (at, spare_left m.fresh (not_spent (nat_lt (uids_left m) SPARE_UIDS) (subst (λ (p : LayoutPhase). grant_fault_by p c.node (uids_left m) ≡ None) at none)))
    by_phase (Fencing next end) at none free = absurd (made (subst (λ (p : LayoutPhase). grant_fault_by p c.node (uids_left m) ≡ None) at none))
      where
        made : grant_fault_by (Fencing next end) c.node (uids_left m) ≡ None → ⊥
        made is = absurd cc
    by_phase (Settling copies) at none free = absurd (made (subst (λ (p : LayoutPhase). grant_fault_by p c.node (uids_left m) ≡ None) at none))
      where
        made : grant_fault_by (Settling copies) c.node (uids_left m) ≡ None → ⊥
        made is = absurd cc
    by_phase (Copying copier copies) at none free = absurd (made (subst (λ (p : LayoutPhase). grant_fault_by p c.node (uids_left m) ≡ None) at none))
      where
        made : grant_fault_by (Copying copier copies) c.node (uids_left m) ≡ None → ⊥
        made is = absurd cc

pub new_free : (m : MdsValue) (c : CompoundRun) (args : LayoutGetArgs) → refusal (layout_get_order c.current args (layout_found m c args)) ≡ None → (s : ServedFile) → served m (current_file c) ≡ Some s
    → is_granted (served m (current_file c)) ≡ false → (s.file.layout.phase ≡ Free) × (are_spent m.fresh ≡ false)
new_free m c args is s at free =
    let all = holds_none (layout_get_order c.current args (layout_found m c args)) is in
    free_so m c (served m (current_file c)) (no_fault (layout_fault m c (served m (current_file c))) all.1.1.1.1.1.1.1.0 all.1.1.1.1.1.1.1.1.0 all.1.1.1.1.1.1.1.1.1.0) s at free
