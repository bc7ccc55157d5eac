-- A LAYOUTGET that goes through puts the layout of the file into the compound of the client that then holds it.
use Rattle.std.proofs.Common.{◌≡◌, ℕ, ◌-◌, Bool, true, false, cond, Option, Some, None, refl, sym, subst}
use Rattle.std.specs.Prelude.{slice_get, slice_set}
use Rattle.std.proofs.lemmas.Bool.{cond_both}
use Rattle.cluster_model.specs.declared.ids.NodeId.{NodeId}
use Rattle.cluster_model.specs.declared.ids.NodeId.TheVariants.{Mds, Server, Client}
use Rattle.cluster_model.specs.declared.ids.FileId.{FileId}
use Rattle.cluster_model.specs.declared.phase.Phase.{Phase}
use Rattle.cluster_model.proofs.Elements.{slice_get-set_same}
use Rattle.file_rule.specs.FilePhases.{AsksLayout}
use Rattle.nfs4_types.specs.declared.status.Stat4.{Stat4}
use Rattle.mds_refusals.specs.declared.layout_get.LayoutGetFound.{LayoutGetFound}
use Rattle.mds_refusals.specs.Orders.{refusal}
use Rattle.mds_refusals.specs.LayoutGets.{layout_get_order}
use Rattle.mds_rule.specs.MdsStates.{CompoundRun, ServedFile, MdsValue, MdsStep, sends_none, confirmed_node, served, with_served}
use Rattle.mds_rule.specs.OpSteps.{OpStep, refused_or}
use Rattle.mds_rule.specs.ServedFiles.{takes_input}
use Rattle.mds_rule.specs.FileOps.{client_of, current_file}
use Rattle.mds_rule.specs.LayoutOps.{layout_asked, layout_found, with_holder, granted_in, grants_to, is_granted, phase_behind, is_try_later, later_by, layout_answer}
use Rattle.mds_laws.specs.HandedLayouts.{HandsLayout, HandsLayoutsToHolders}
use Rattle.mds_walk.proofs.Served.{place_served}

-- a file that was put in its place stands there
served_again : (m : MdsValue) (file : FileId) (s t : ServedFile) → served m file ≡ Some s → served (with_served m file t) file ≡ Some t
served_again m file s t at =
    let there = place_served m file s at in
    subst (λ (b : Bool). cond b None (slice_get (slice_set m.files (file.0 - 1) t) (file.0 - 1)) ≡ Some t) (sym there.0) (slice_get-set_same m.files (file.0 - 1) s t there.1)

granted_hands : (s : MdsStep) (c : CompoundRun) (again : Bool) (o : Option ServedFile) → served s.mds (current_file c) ≡ o → HandsLayout c (granted_in s c (current_file c) again o)
granted_hands s c again None at = tt
granted_hands s c again (Some t) at = record {
  file = with_holder (client_of c) again t;
  is = served_again s.mds (current_file c) t (with_holder (client_of c) again t) at;
  holder = refl;
  result = refl;
}

grants_hands : (m : MdsValue) (c : CompoundRun) (again : Bool) (from : Option NodeId) → HandsLayout c (grants_to m c (current_file c) again from)
grants_hands m c true from = granted_hands (sends_none m) c true (served m (current_file c)) refl
grants_hands m c false None = tt
grants_hands m c false (Some Mds) = tt
grants_hands m c false (Some (Server n)) = tt
grants_hands m c false (Some (Client n)) =
    let s : MdsStep = takes_input m (current_file c) (AsksLayout n) in
    granted_hands s c false (served s.mds (current_file c)) refl

refused_hands : (m : MdsValue) (c : CompoundRun) (number : ℕ) (status : Option Stat4) (step : OpStep) → HandsLayout c step → HandsLayout c (refused_or m c number status step)
refused_hands m c number None step its = its
refused_hands m c number (Some status) step its = tt

later_hands : (m : MdsValue) (c : CompoundRun) (now : ℕ) (p : Option Phase) → HandsLayout c (later_by m c now p)
later_hands m c now None = tt
later_hands m c now (Some p) = tt

answer_hands : (m : MdsValue) (c : CompoundRun) (now : ℕ) (found : LayoutGetFound) (status : Option Stat4) → HandsLayout c (layout_answer m c now found status)
answer_hands m c now found status =
    let step : OpStep = grants_to m c (current_file c) (is_granted (served m (current_file c))) (confirmed_node m (client_of c)) in
    cond_both (is_try_later status) (later_by m c now (phase_behind found.fault)) (refused_or m c 50 status step) (λ (x : OpStep). HandsLayout c x) (λ is. later_hands m c now (phase_behind found.fault))
    (λ off. refused_hands m c 50 status step (grants_hands m c (is_granted (served m (current_file c))) (confirmed_node m (client_of c))))

pub hands_layouts : HandsLayoutsToHolders
hands_layouts now m c args = answer_hands m c now (layout_found m c (layout_asked args)) (refusal (layout_get_order c.current (layout_asked args) (layout_found m c (layout_asked args))))
