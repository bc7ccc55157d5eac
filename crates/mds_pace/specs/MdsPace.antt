-- When a record of a metadata server goes out again.
use Rattle.std.specs.Prelude.{⊤, ◌≡◌, ℕ, ◌==◌, ◌||◌, Bool, false, nat_lt, List, [], ◌∷◌, Option, Some, None}
use Rattle.std.specs.List.{filter, find, flat_map}
use Rattle.cluster_model.specs.Members.{IsOneOf}
use Rattle.cluster_model.specs.declared.ids.NodeId.{NodeId}
use Rattle.cluster_model.specs.declared.ids.NodeId.TheVariants.{Server}
use Rattle.mds_activity.specs.FileCalls.{kept_out}
use Rattle.mds_rule.specs.MdsStates.{ServedFile, MdsSend, AwaitedCall, MdsValue, MdsStep, is_call_to}
use Rattle.mds_rule.specs.Events.{late_call, takes_tick}
use Rattle.mds_walk.specs.MdsRuns.{MdsInput, Hears, IsTimedOut, Ticks, RecallsFile, Resilvers, by_input}
use Rattle.mds_laws.specs.MdsRunLaws.{number_sent}
use Rattle.mds_progress.specs.TickLaw.{behind_ends, WasTaken}

-- the number was taken by a call before: it is below the next, or none is left
abbrev pub was_taken : ℕ → Option ℕ → Bool
was_taken next None = false
was_taken next (Some xid) = nat_lt xid next || (next == 0)

-- the record of a call that went before
abbrev pub went_before : ℕ → MdsSend → Bool
went_before next s = was_taken next (number_sent s)

-- those that go out again in a step of this server: no call has taken their numbers in it
abbrev pub repeats_in : MdsValue → MdsStep → List MdsSend
repeats_in m step = filter (went_before m.next_xid) step.sends

-- there is none, or one, of which this holds
abbrev pub IsOneAtMost : (MdsSend → Type 0) → List MdsSend → Type 0
IsOneAtMost P [] = ⊤
IsOneAtMost P (s ∷ []) = P s
IsOneAtMost P (s ∷ t ∷ more) = ⊥

-- it is the record of the call that timed out
abbrev pub IsOfLate : MdsValue → NodeId → Option ℕ → MdsSend → Type 0
IsOfLate m to which s = (call : AwaitedCall) × (late_call m to which ≡ Some call) × (s ≡ call.sent)

-- the record of a call, where there is one
abbrev pub record_of : Option AwaitedCall → List MdsSend
record_of None = []
record_of (Some call) = call.sent ∷ []

-- of the call that a file kept, by its server and number, where it is among those that were sent
abbrev pub kept_record : List AwaitedCall → Option (ℕ × ℕ) → List MdsSend
kept_record calls None = []
kept_record calls (Some kept) = record_of (find (is_call_to (Server kept.0) kept.1) calls)

-- of each file at most one, in the order of the files
abbrev pub kept_records : MdsValue → List MdsSend
kept_records m = flat_map (λ (s : ServedFile). kept_record m.calls (kept_out s.file)) m.files

-- each call that was sent and is not answered stands under its record's number, and that was taken
abbrev pub NumbersTaken : MdsValue → Type 0
NumbersTaken m = (call : AwaitedCall) → IsOneOf call m.calls → (number_sent call.sent ≡ Some call.xid) × WasTaken call.xid m.next_xid

-- Those that go out again in a tick are those of the calls that files kept for it, each once for its file, in the order of the files.
abbrev pub RepeatsKept : ℕ → MdsValue → Type 0
RepeatsKept now m = repeats_in m (takes_tick now m) ≡ kept_records (behind_ends now m)

-- What goes out again, by what came.
abbrev pub PacesEvent : ℕ → MdsInput → MdsValue → Type 0
PacesEvent now (Hears from bytes) m = repeats_in m (by_input now (Hears from bytes) m) ≡ []
PacesEvent now (IsTimedOut to which) m = IsOneAtMost (IsOfLate m to which) (repeats_in m (by_input now (IsTimedOut to which) m))
PacesEvent now Ticks m = NumbersTaken m → RepeatsKept now m
PacesEvent now (RecallsFile file) m = repeats_in m (by_input now (RecallsFile file) m) ≡ []
PacesEvent now (Resilvers file) m = repeats_in m (by_input now (Resilvers file) m) ≡ []
