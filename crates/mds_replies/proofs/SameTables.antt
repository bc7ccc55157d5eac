-- Inputs of the table of phases leave the table of clients and the calls that are awaited as they are, and so does the end of a client.
use Rattle.std.proofs.Common.{◌≡◌, ℕ, Bool, true, false, List, [], ◌∷◌, Option, Some, None, refl, ◌∙◌}
use Rattle.std.specs.Prelude.{is_some}
use Rattle.std.specs.List.{list_any}
use Rattle.std.proofs.lemmas.Bool.{cond_both}
use Rattle.cluster_model.specs.declared.ids.FileId.{FileId}
use Rattle.cluster_model.specs.declared.ids.Cred.{Cred}
use Rattle.cluster_model.specs.declared.phase.EndCause.TheVariants.{ClientGone}
use Rattle.file_rule.specs.MdsFiles.{FileStep}
use Rattle.file_rule.specs.FilePhases.{FileInput, Recall as ToRecall, Revokes, phase}
use Rattle.layout_state.specs.Grants.{holder_to_recall}
use Rattle.mds_rows.specs.Draws.{drawn}
use Rattle.recall.specs.Recalls.{is_under_way, new_recall, with_recall, without_file}
use Rattle.mds_rule.specs.MdsStates.{ServedFile, MdsValue, MdsStep, sends_none, served, with_served}
use Rattle.mds_rule.specs.ServedFiles.{has_fresh, is_period_end, file_behind, file_stepped, input_at, takes_input, with_new_recall, recall_by, recall_at, held_from, one_by_one, ends_periods}
use Rattle.mds_rule.specs.SessionOps.{gone_with}

pub record SameTable (m n : MdsValue) : Type 0 where
  pub sessions : n.sessions ≡ m.sessions
  pub calls : n.calls ≡ m.calls

pub same_table : (m : MdsValue) → SameTable m m
same_table m = record { sessions = refl; calls = refl }

stepped_same : (m : MdsValue) (file : FileId) (s : ServedFile) (step : FileStep) → SameTable m (file_stepped m file s step).mds
stepped_same m file s step =
    let n : MdsValue = with_served (record m { fresh = drawn m.fresh step }) file (file_behind s step) in
    cond_both (list_any is_period_end step.entries) (record n { recalls = without_file file n.recalls }) n (λ (x : MdsValue). SameTable m x) (λ end. record { sessions = refl; calls = refl }) (λ off. record { sessions = refl; calls = refl })

pub input_same : (m : MdsValue) (file : FileId) (input : FileInput) (o : Option ServedFile) → SameTable m (input_at m file input o).mds
input_same m file input None = same_table m
input_same m file input (Some s) =
    cond_both (has_fresh m.fresh) (file_stepped m file s (phase file s.file input m.fresh)) (sends_none m) (λ (x : MdsStep). SameTable m x.mds) (λ fresh. stepped_same m file s (phase file s.file input m.fresh)) (λ off. same_table m)

recall_same : (m n : MdsValue) (file : FileId) (cred : Cred) (client : Option ℕ) (now : ℕ) → SameTable m n → SameTable m (with_new_recall n file cred client now)
recall_same m n file cred None now i = i
recall_same m n file cred (Some client) now i =
    cond_both (is_under_way file cred n.recalls) n (record n { recalls = with_recall (new_recall file cred client now) n.recalls }) (λ (x : MdsValue). SameTable m x) (λ is. i) (λ off. record { sessions = i.sessions; calls = i.calls })

back_same : (m : MdsValue) (file : FileId) (s : ServedFile) (now : ℕ) (held : Bool) → SameTable m (recall_by m file s now held).mds
back_same m file s now false = same_table m
back_same m file s now true = recall_same m (takes_input m file ToRecall).mds file s.file.layout.cred s.holder now (input_same m file ToRecall (served m file))

pub asks_same : (m : MdsValue) (file : FileId) (now : ℕ) (o : Option ServedFile) → SameTable m (recall_at m file now o).mds
asks_same m file now None = same_table m
asks_same m file now (Some s) = back_same m file s now (is_some (holder_to_recall s.file.layout.phase))

-- ---- a client that is gone

turns_same : (step : MdsValue → FileId → MdsStep) → ((m : MdsValue) (file : FileId) → SameTable m (step m file).mds) → (files : List FileId) (m : MdsValue) → SameTable m (one_by_one step files m).mds
turns_same step one [] m = same_table m
turns_same step one (file ∷ files) m =
    let a : SameTable m (step m file).mds = one m file in
    let b : SameTable (step m file).mds (one_by_one step files (step m file).mds).mds = turns_same step one files (step m file).mds in
    record { sessions = b.sessions ∙ a.sessions; calls = b.calls ∙ a.calls }

pub gone_same : (client : Option ℕ) (m : MdsValue) → SameTable m (gone_with client m).mds
gone_same None m = same_table m
gone_same (Some client) m =
    let a : SameTable m (ends_periods m client ClientGone).mds = turns_same (λ n file. takes_input n file (Revokes ClientGone)) (λ n file. input_same n file (Revokes ClientGone) (served n file)) (held_from client 1 m.files) m in
    record { sessions = a.sessions; calls = a.calls }
