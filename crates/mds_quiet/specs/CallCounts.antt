-- How many calls are sent and not answered behind a tick, by who waits for them.
use Rattle.std.specs.Prelude.{◌≡◌, ◌⊎◌, ℕ, ◌≤◌, ◌==◌, Bool, true, false, List, length, filter}
use Rattle.device_addr.specs.Universal.{AddressValue}
use Rattle.cluster_model.specs.declared.ids.NodeId.{NodeId}
use Rattle.cluster_model.specs.declared.ids.FileId.{FileId}
use Rattle.cluster_model.specs.declared.layout_state.LayoutPhase.{LayoutPhase}
use Rattle.cluster_model.specs.declared.layout_state.LayoutPhase.TheVariants.{Free, Held}
use Rattle.mds_rule.specs.MdsStates.{ServedFile, AwaitedCall, MdsValue}
use Rattle.mds_rule.specs.declared.waiter.Waiter.{Waiter}
use Rattle.mds_rule.specs.declared.waiter.Waiter.TheVariants.{ForFile, ForRead, ForWrite, ForRecall}
use Rattle.mds_rule.specs.Events.{takes_tick}
use Rattle.mds_walk.specs.MdsRuns.{MdsEvent, mds_run}
use Rattle.standing_calls.specs.Standing.{OfEachFile}

-- ---- the calls of one waiter

-- for the file's own activity
abbrev pub is_for_file : FileId → Waiter → Bool
is_for_file file (ForFile own) = own.0 == file.0
is_for_file file (ForRead own) = false
is_for_file file (ForWrite own) = false
is_for_file file ForRecall = false

-- for a READ of the file
abbrev pub is_for_read : FileId → Waiter → Bool
is_for_read file (ForFile own) = false
is_for_read file (ForRead own) = own.0 == file.0
is_for_read file (ForWrite own) = false
is_for_read file ForRecall = false

-- for the metadata server's own write to the file
abbrev pub is_for_write : FileId → Waiter → Bool
is_for_write file (ForFile own) = false
is_for_write file (ForRead own) = false
is_for_write file (ForWrite own) = own.0 == file.0
is_for_write file ForRecall = false

-- for a recall
abbrev pub is_for_recall : Waiter → Bool
is_for_recall (ForFile own) = false
is_for_recall (ForRead own) = false
is_for_recall (ForWrite own) = false
is_for_recall ForRecall = true

abbrev pub is_of : Waiter → AwaitedCall → Bool
is_of (ForFile file) call = is_for_file file call.caller
is_of (ForRead file) call = is_for_read file call.caller
is_of (ForWrite file) call = is_for_write file call.caller
is_of ForRecall call = is_for_recall call.caller

-- how many of them are sent and not answered
abbrev pub calls_of : Waiter → MdsValue → ℕ
calls_of caller m = length (filter (is_of caller) m.calls)

-- ---- few

abbrev pub IsFreeOrHeld : LayoutPhase → Type 0
IsFreeOrHeld p = (p ≡ Free) ⊎ ((holder : NodeId) × (recalled : Bool) × (p ≡ Held holder recalled))

-- Of a file at most four are of its own activity, and none where it is free or held; no more of READs than it has, and four of its own write.
pub record FileCallsAreFew (m : MdsValue) (file : FileId) (s : ServedFile) : Type 0 where
  pub own : calls_of (ForFile file) m ≤ 4
  pub none : IsFreeOrHeld s.file.layout.phase → calls_of (ForFile file) m ≡ 0
  pub reads : calls_of (ForRead file) m ≤ length s.reads
  pub write : calls_of (ForWrite file) m ≤ 4

-- no more than there are recalls
pub record CallsAreFew (m : MdsValue) : Type 0 where
  pub files : OfEachFile FileCallsAreFew m
  pub recalls : calls_of ForRecall m ≤ length m.recalls

-- Behind a tick, whatever run of a metadata server came before it, with at most four mirrors to a file and as many data servers, they are few.
abbrev pub TicksLeaveFew : List AddressValue → ℕ → List MdsEvent → ℕ → Type 0
TicksLeaveFew servers mirrors events now = mirrors ≤ 4 → mirrors ≤ length servers → CallsAreFew (takes_tick now (mds_run servers mirrors events).mds).mds
