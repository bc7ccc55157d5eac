-- A file that is served, behind a change of it and behind an input of the table of phases.
use Rattle.std.proofs.Common.{◌≡◌, Bool, true, false, cond, Option, Some, None, refl, ap, ◌∙◌}
use Rattle.std.specs.Prelude.{◌-◌, ◌==◌, slice_get, slice_set}
use Rattle.std.specs.List.{list_any}
use Rattle.std.proofs.lemmas.Bool.{cond_both}
use Rattle.cluster_model.proofs.Elements.{slice_get-set_same}
use Rattle.cluster_model.specs.declared.ids.FileId.{FileId}
use Rattle.file_rule.specs.MdsFiles.{FileStep}
use Rattle.mds_rows.specs.Draws.{drawn}
use Rattle.recall.specs.Recalls.{without_file}
use Rattle.mds_rule.specs.MdsStates.{ServedFile, MdsValue, served, with_served}
use Rattle.mds_rule.specs.ServedFiles.{is_period_end, file_behind, file_stepped}

served_at : (b : Bool) (x : Option ServedFile) (s : ServedFile) → cond b None x ≡ Some s → (b ≡ false) × (x ≡ Some s)
served_at true x s is = absurd cc
served_at false x s is = (refl, is)

pub place_served : (m : MdsValue) (file : FileId) (s : ServedFile) → served m file ≡ Some s → ((file.0 == 0) ≡ false) × (slice_get m.files (file.0 - 1) ≡ Some s)
place_served m file s is = served_at (file.0 == 0) (slice_get m.files (file.0 - 1)) s is

-- what is known behind a change of it
pub served_again : (m : MdsValue) (file : FileId) (s t : ServedFile) → served m file ≡ Some s → served (with_served m file t) file ≡ Some t
served_again m file s t is =
    let there = place_served m file s is in
    ap (λ (b : Bool). cond b None (slice_get (slice_set m.files (file.0 - 1) t) (file.0 - 1))) there.0 ∙ slice_get-set_same m.files (file.0 - 1) s t there.1

-- a file behind an input of it
pub stepped_there : (m : MdsValue) (file : FileId) (s : ServedFile) (step : FileStep) → served m file ≡ Some s → served (file_stepped m file s step).mds file ≡ Some (file_behind s step)
stepped_there m file s step is =
    let n : MdsValue = with_served (record m { fresh = drawn m.fresh step }) file (file_behind s step) in
    cond_both (list_any is_period_end step.entries) (record n { recalls = without_file file n.recalls }) n (λ (x : MdsValue). served x file ≡ Some (file_behind s step))
    (λ end. served_again m file s (file_behind s step) is) (λ other. served_again m file s (file_behind s step) is)
