-- Inputs of the table of phases, recalls and the ends of clients leave a server that knows no node as itself, and send nothing.
use Rattle.std.proofs.Common.{◌≡◌, ℕ, Bool, true, false, List, [], ◌∷◌, Option, Some, None, refl}
use Rattle.std.specs.Prelude.{is_some, map}
use Rattle.std.specs.List.{list_any}
use Rattle.std.proofs.lemmas.Bool.{cond_both}
use Rattle.cluster_model.specs.declared.ids.FileId.{FileId}
use Rattle.cluster_model.specs.declared.ids.Mirror.{Mirror}
use Rattle.cluster_model.specs.declared.phase.EndCause.{EndCause}
use Rattle.cluster_model.specs.declared.entry.Entry.{Entry}
use Rattle.file_rule.specs.MdsFiles.{FileStep}
use Rattle.file_rule.specs.FilePhases.{FileInput, Recall as ToRecall, Revokes, phase}
use Rattle.layout_state.specs.Grants.{holder_to_recall}
use Rattle.mds_rows.specs.Draws.{drawn}
use Rattle.recall.specs.Recalls.{without_file, is_under_way, new_recall, with_recall}
use Rattle.cluster_model.specs.declared.ids.Cred.{Cred}
use Rattle.mds_rule.specs.MdsStates.{WaitingRead, ServedFile, MdsValue, MdsStep, sends_none, served, with_served}
use Rattle.mds_rule.specs.ServedFiles.{has_fresh, is_swap, is_period_end, begins_again, reads_behind, file_behind, file_stepped, input_at, takes_input, with_new_recall, recall_by, recall_at, asks_back, held_from, one_by_one, ends_periods, forgotten, ends_client}
use Rattle.mds_walk.proofs.Lists.{AllOf}
use Rattle.node_histories.proofs.Elsewhere.{ReadElse, FileElse, Else, StepElse, with_file_else, served_else, none_goes, then_goes}

again_else : (live : List Mirror) (reads : List WaitingRead) → AllOf ReadElse reads → AllOf ReadElse (map (begins_again live) reads)
again_else live [] all = tt
again_else live (r ∷ reads) all = (all.0, again_else live reads all.1)

reads_else : (entries : List Entry) (live : List Mirror) (reads : List WaitingRead) → AllOf ReadElse reads → AllOf ReadElse (reads_behind entries live reads)
reads_else entries live reads all = cond_both (list_any is_swap entries) (map (begins_again live) reads) reads (λ (l : List WaitingRead). AllOf ReadElse l) (λ is. again_else live reads all) (λ off. all)

stepped_else : (m : MdsValue) (file : FileId) (s : ServedFile) (x : FileStep) → Else m → served m file ≡ Some s → StepElse (file_stepped m file s x)
stepped_else m file s x e at =
    let its : FileElse s = served_else m file s e at in
    let n : MdsValue = with_served (record m { fresh = drawn m.fresh x }) file (file_behind s x) in
    let k : Else (with_served (record m { fresh = drawn m.fresh x }) file (file_behind s x)) =
    with_file_else (record m { fresh = drawn m.fresh x }) file (file_behind s x) (record { table = e.table; files_else = e.files_else; calls_else = e.calls_else })
    (its.0, reads_else x.entries x.file.layout.live s.reads its.1) in (
      cond_both (list_any is_period_end x.entries) (record n { recalls = without_file file n.recalls }) n (λ (y : MdsValue). Else y) (λ end. record { table = k.table; files_else = k.files_else; calls_else = k.calls_else }) (λ other. k),
      tt,
    )

input_else : (m : MdsValue) (file : FileId) (input : FileInput) → Else m → (o : Option ServedFile) → served m file ≡ o → StepElse (input_at m file input o)
input_else m file input e None at = none_goes m e
input_else m file input e (Some s) at =
    cond_both (has_fresh m.fresh) (file_stepped m file s (phase file s.file input m.fresh)) (sends_none m) (λ (x : MdsStep). StepElse x) (λ fresh. stepped_else m file s (phase file s.file input m.fresh) e at) (λ off. none_goes m e)

pub takes_else : (m : MdsValue) (file : FileId) (input : FileInput) → Else m → StepElse (takes_input m file input)
takes_else m file input e = input_else m file input e (served m file) refl

-- ---- recalls

recalled_else : (m : MdsValue) (file : FileId) (cred : Cred) (client : Option ℕ) (now : ℕ) → Else m → Else (with_new_recall m file cred client now)
recalled_else m file cred None now e = e
recalled_else m file cred (Some client) now e =
    cond_both (is_under_way file cred m.recalls) m (record m { recalls = with_recall (new_recall file cred client now) m.recalls }) (λ (n : MdsValue). Else n) (λ is. e)
    (λ off. record { table = e.table; files_else = e.files_else; calls_else = e.calls_else })

back_else : (m : MdsValue) (file : FileId) (s : ServedFile) (now : ℕ) (held : Bool) → Else m → StepElse (recall_by m file s now held)
back_else m file s now false e = none_goes m e
back_else m file s now true e =
    then_goes (takes_input m file ToRecall) (λ n. sends_none (with_new_recall n file s.file.layout.cred s.holder now)) (takes_else m file ToRecall e)
    (λ n k. none_goes (with_new_recall n file s.file.layout.cred s.holder now) (recalled_else n file s.file.layout.cred s.holder now k))

back_at_else : (m : MdsValue) (file : FileId) (now : ℕ) (o : Option ServedFile) → Else m → StepElse (recall_at m file now o)
back_at_else m file now None e = none_goes m e
back_at_else m file now (Some s) e = back_else m file s now (is_some (holder_to_recall s.file.layout.phase)) e

pub asks_else : (m : MdsValue) (file : FileId) (now : ℕ) → Else m → StepElse (asks_back m file now)
asks_else m file now e = back_at_else m file now (served m file) e

-- ---- the periods of a client

turns_else : (step : MdsValue → FileId → MdsStep) → ((m : MdsValue) (file : FileId) → Else m → StepElse (step m file)) → (files : List FileId) (m : MdsValue) → Else m → StepElse (one_by_one step files m)
turns_else step one [] m e = none_goes m e
turns_else step one (file ∷ files) m e = then_goes (step m file) (λ n. one_by_one step files n) (one m file e) (λ n k. turns_else step one files n k)

pub periods_else : (m : MdsValue) (client : ℕ) (end : EndCause) → Else m → StepElse (ends_periods m client end)
periods_else m client end e = turns_else (λ n file. takes_input n file (Revokes end)) (λ n file k. takes_else n file (Revokes end) k) (held_from client 1 m.files) m e

pub client_ends_else : (m : MdsValue) (client : ℕ) (end : EndCause) → Else m → StepElse (ends_client m client end)
client_ends_else m client end e =
    then_goes (ends_periods m client end) (λ n. sends_none (forgotten client n)) (periods_else m client end e) (λ n k. none_goes (forgotten client n) (record { table = k.table; files_else = k.files_else; calls_else = k.calls_else }))
