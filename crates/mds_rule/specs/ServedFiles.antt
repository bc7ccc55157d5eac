-- What comes of the inputs of the table of phases at a metadata server: to the file, its readers, and recalls (RFC 8881, sections 12.5.5
-- and 18.43; RFC 8435, section 2.2).
use Rattle.std.specs.Prelude.{ℕ, ◌+◌, ◌^◌, ◌%◌, Bool, true, false, not, ◌==◌, ◌&&◌, List, [], ◌∷◌, length, filter, map, Option, Some, None, is_some, nat_lt, nat_eq, if◌then◌else◌}
use Rattle.std.specs.List.{list_any}
use Rattle.std.specs.Map.{remove_entry}
use Rattle.cluster_model.specs.declared.ids.NodeId.{NodeId}
use Rattle.cluster_model.specs.declared.ids.FileId.{FileId}
use Rattle.cluster_model.specs.declared.ids.Cred.{Cred}
use Rattle.cluster_model.specs.declared.ids.Mirror.{Mirror}
use Rattle.cluster_model.specs.declared.ids.MirrorId.{MirrorId}
use Rattle.cluster_model.specs.declared.phase.EndCause.{EndCause}
use Rattle.cluster_model.specs.declared.entry.Entry.{Entry}
use Rattle.cluster_model.specs.declared.entry.Entry.TheVariants as entry
use Rattle.cluster_model.specs.declared.layout_state.LayoutState.{LayoutState}
use Rattle.cluster_model.specs.declared.layout_state.LayoutPhase.{LayoutPhase}
use Rattle.cluster_model.specs.declared.layout_state.LayoutPhase.TheVariants.{Free}
use Rattle.cluster_model.specs.Phases.{holder_of, is_one_of}
use Rattle.file_rule.specs.declared.fresh.Fresh.{Fresh}
use Rattle.file_rule.specs.MdsFiles.{FileStep}
use Rattle.mds_rows.specs.Draws.{drawn}
use Rattle.file_rule.specs.FilePhases.{FileInput, Recall as ToRecall, Revokes, phase, end_of_uids}
use Rattle.layout_state.specs.Grants.{holder_to_recall}
use Rattle.mds_io.specs.Reads.{begun_again}
use Rattle.recall.specs.Recalls.{is_under_way, new_recall, with_recall, without_file}
use Rattle.open_state.specs.Opens.{ended}
use Rattle.mds_rule.specs.MdsStates.{ServedFile, WaitingRead, MdsValue, MdsStep, sends_none, and_then, served, with_served, numbered}

-- ---- one input

-- what one input may draw is there: a uid, and a number of a name for each of four targets
abbrev pub has_fresh : Fresh → Bool
has_fresh fresh = nat_lt fresh.uid end_of_uids && nat_lt (fresh.name + 4) (2 ^ 64)

abbrev pub is_of_period : Entry → Bool
is_of_period (entry.Granted file cred holder) = true
is_of_period (entry.Ended file cred cause) = true
is_of_period e = false

abbrev pub is_period_end : Entry → Bool
is_period_end (entry.Ended file cred cause) = true
is_period_end e = false

abbrev pub is_swap : Entry → Bool
is_swap (entry.Swapped file old new) = true
is_swap e = false

-- a client holds it
abbrev pub kept_holder : Option NodeId → Option ℕ → Option ℕ
kept_holder None holder = None
kept_holder (Some node) holder = holder

-- reads begin again where a mirror came into the live list
abbrev pub begins_again : List Mirror → WaitingRead → WaitingRead
begins_again live r = record { compound = r.compound; read = begun_again r.read live }

abbrev pub reads_behind : List Entry → List Mirror → List WaitingRead → List WaitingRead
reads_behind entries live reads = if list_any is_swap entries then map (begins_again live) reads else reads

-- sizes of mirrors that are live no more are forgotten where the file is free
abbrev pub is_live_size : List Mirror → MirrorId × ℕ → Bool
is_live_size live size = is_one_of size.0 live

abbrev pub sizes_in : LayoutState → LayoutPhase → List (MirrorId × ℕ) → List (MirrorId × ℕ)
sizes_in layout Free sizes = filter (is_live_size layout.live) sizes
sizes_in layout other sizes = sizes

abbrev pub file_behind : ServedFile → FileStep → ServedFile
file_behind s step = record s {
  file = step.file;
  sizes = sizes_in step.file.layout step.file.layout.phase s.sizes;
  periods = (s.periods + length (filter is_of_period step.entries)) % (2 ^ 64);
  holder = kept_holder (holder_of step.file.layout.phase) s.holder;
  reads = reads_behind step.entries step.file.layout.live s.reads;
}

-- a recall is over with the period
abbrev pub recalls_behind : MdsValue → FileId → List Entry → MdsValue
recalls_behind m file entries = if list_any is_period_end entries then record m { recalls = without_file file m.recalls } else m

abbrev pub file_stepped : MdsValue → FileId → ServedFile → FileStep → MdsStep
file_stepped m file s step = record {
  mds = recalls_behind (with_served (record m { fresh = drawn m.fresh step }) file (file_behind s step)) file step.entries;
  entries = step.entries;
  sends = [];
}

-- what would be drawn past the end is not drawn, and nothing comes of the input then
abbrev pub input_at : MdsValue → FileId → FileInput → Option ServedFile → MdsStep
input_at m file input None = sends_none m
input_at m file input (Some s) = if has_fresh m.fresh then file_stepped m file s (phase file s.file input m.fresh) else sends_none m

abbrev pub takes_input : MdsValue → FileId → FileInput → MdsStep
takes_input m file input = input_at m file input (served m file)

-- ---- recalls

abbrev pub with_new_recall : MdsValue → FileId → Cred → Option ℕ → ℕ → MdsValue
with_new_recall m file cred None now = m
with_new_recall m file cred (Some client) now = if is_under_way file cred m.recalls then m else record m { recalls = with_recall (new_recall file cred client now) m.recalls }

abbrev pub recall_by : MdsValue → FileId → ServedFile → ℕ → Bool → MdsStep
recall_by m file s now false = sends_none m
recall_by m file s now true = and_then (takes_input m file ToRecall) (λ n. sends_none (with_new_recall n file s.file.layout.cred s.holder now))

abbrev pub recall_at : MdsValue → FileId → ℕ → Option ServedFile → MdsStep
recall_at m file now None = sends_none m
recall_at m file now (Some s) = recall_by m file s now (is_some (holder_to_recall s.file.layout.phase))

-- the layout of a client is asked back, where it is not yet
abbrev pub asks_back : MdsValue → FileId → ℕ → MdsStep
asks_back m file now = recall_at m file now (served m file)

-- ---- the periods of a client

abbrev pub is_holder : ℕ → Option ℕ → Bool
is_holder client None = false
is_holder client (Some holder) = holder == client

-- the files that it holds, of those from a number on, in order
abbrev pub held_from : ℕ → ℕ → List ServedFile → List FileId
held_from client n [] = []
held_from client n (s ∷ files) = if is_holder client s.holder then numbered n ∷ held_from client (n + 1) files else held_from client (n + 1) files

abbrev pub one_by_one : (MdsValue → FileId → MdsStep) → List FileId → MdsValue → MdsStep
one_by_one step [] m = sends_none m
one_by_one step (file ∷ files) m = and_then (step m file) (λ n. one_by_one step files n)

-- each of them ends, in the order of the files
abbrev pub ends_periods : MdsValue → ℕ → EndCause → MdsStep
ends_periods m client end = one_by_one (λ n file. takes_input n file (Revokes end)) (held_from client 1 m.files) m

-- its opens end too; where it was confirmed from and what it reclaimed is forgotten
abbrev pub forgotten : ℕ → MdsValue → MdsValue
forgotten client m = record m {
  opens = ended m.opens client;
  confirmed = remove_entry (nat_eq client) m.confirmed;
  reclaimed = filter (λ id. not (id == client)) m.reclaimed;
}

-- a client is gone: its lease ended, it restarted, or it was destroyed
abbrev pub ends_client : MdsValue → ℕ → EndCause → MdsStep
ends_client m client end = and_then (ends_periods m client end) (λ n. sends_none (forgotten client n))
