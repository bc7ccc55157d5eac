-- A LAYOUTRETURN of a file that a client holds ends the period, as returned or with each mirror reported, where a uid is left to draw.
use Rattle.std.proofs.Common.{◌≡◌, ℕ, Bool, true, cond, List, [], ◌∷◌, Option, Some, refl, sym, ap, subst, ◌∙◌, inl, inr, ◌⊎◌}
use Rattle.std.specs.Prelude.{◌==◌, ◌&&◌, map}
use Rattle.std.proofs.lemmas.Bool.{eq-eqb}
use Rattle.cluster_model.specs.declared.ids.NodeId.TheVariants.{Client}
use Rattle.cluster_model.specs.declared.ids.FileId.{FileId}
use Rattle.cluster_model.specs.declared.ids.Cred.{Cred}
use Rattle.cluster_model.specs.declared.ids.Mirror.{Mirror}
use Rattle.cluster_model.specs.declared.phase.EndCause.TheVariants.{Returned, AllReported}
use Rattle.cluster_model.specs.declared.entry.Entry.{Entry}
use Rattle.cluster_model.specs.declared.entry.Entry.TheVariants as entry
use Rattle.cluster_model.specs.declared.layout_state.LayoutPhase.{LayoutPhase}
use Rattle.cluster_model.specs.declared.layout_state.LayoutPhase.TheVariants.{Held}
use Rattle.cluster_model.specs.Phases.{holder_of, unreported, left_entries, reported_cause, end_entries, returned}
use Rattle.cluster_model.specs.Members.{IsOneOf}
use Rattle.file_rule.specs.declared.fresh.Fresh.{Fresh}
use Rattle.file_rule.specs.MdsFiles.{MdsFile, FileStep, nothing, a_uid, goes_fencing}
use Rattle.file_rule.specs.FilePhases.{Returns, held_in, by_client, returned_row, phase}
use Rattle.mds_rule.specs.MdsStates.{ServedFile, MdsValue, MdsStep, sends_none, served}
use Rattle.mds_rule.specs.ServedFiles.{has_fresh, file_stepped, input_at, takes_input}
use Rattle.mds_rule.specs.LayoutOps.{client_number}
use Rattle.mds_walk.proofs.Lists.{in_last}

abbrev pub EndsSo : FileId → Cred → List Entry → Type 0
EndsSo file cred entries = IsOneOf (entry.Ended file cred Returned) entries ⊎ IsOneOf (entry.Ended file cred AllReported) entries

end_so : (file : FileId) (cred : Cred) (left : List Entry) (live : List Mirror) → EndsSo file cred (end_entries file cred left Returned live)
end_so file cred left [] = inr (inl refl)
end_so file cred left (m ∷ live) = inl (in_last (entry.Ended file cred Returned) left)

row_ends : (file : FileId) (fresh : Fresh) (f : MdsFile) (n : ℕ) (places : List Bool) → EndsSo file f.layout.cred (returned_row file f n f.layout.cred places fresh n).entries
row_ends file fresh f n places =
    let cred : ℕ = f.layout.cred.0 in
    let same : (n == n && (f.layout.cred.0 == f.layout.cred.0)) ≡ true = ap (λ (b : Bool). b && (f.layout.cred.0 == f.layout.cred.0)) (eq-eqb n n refl) ∙ eq-eqb f.layout.cred.0 f.layout.cred.0 refl in
    subst (λ (b : Bool). EndsSo file f.layout.cred (cond {A = FileStep} b (goes_fencing (returned file f.layout places (a_uid fresh.uid)) fresh.uid) (nothing f)).entries) (sym same)
    (end_so file f.layout.cred (left_entries file (map reported_cause places) f.layout.live) (unreported places f.layout.live))

-- what LAYOUTRETURN asks of the table of phases
pub return_ends : (m : MdsValue) (file : FileId) (s : ServedFile) (n : ℕ) (is_recalled : Bool) (places : List Bool) → served m file ≡ Some s → s.file.layout.phase ≡ Held (Client n) is_recalled → has_fresh m.fresh ≡ true
    → EndsSo file s.file.layout.cred (takes_input m file (Returns (client_number (holder_of s.file.layout.phase)) s.file.layout.cred places)).entries
return_ends m file s n is_recalled places at held fresh =
    let f : MdsFile = s.file in
    let row : EndsSo file f.layout.cred (phase file f (Returns (client_number (holder_of f.layout.phase)) f.layout.cred places) m.fresh).entries =
    subst (λ (p : LayoutPhase). EndsSo file s.file.layout.cred (held_in s.file (by_client s.file (returned_row file s.file (client_number (holder_of p)) s.file.layout.cred places m.fresh)) p).entries) (sym held) (row_ends file m.fresh s.file n places) in
    subst (λ (o : Option ServedFile). EndsSo file s.file.layout.cred (input_at m file (Returns (client_number (holder_of s.file.layout.phase)) s.file.layout.cred places) o).entries) (sym at)
    (subst (λ (b : Bool). EndsSo file s.file.layout.cred (cond {A = MdsStep} b (file_stepped m file s (phase file s.file (Returns (client_number (holder_of s.file.layout.phase)) s.file.layout.cred places) m.fresh)) (sends_none m)).entries) (sym fresh) row)
