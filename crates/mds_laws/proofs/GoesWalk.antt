-- Each event, and so each run, keeps what is kept in each of the cases.
use Rattle.std.proofs.Common.{ℕ, List, []}
use Rattle.cluster_model.specs.declared.entry.Entry.{Entry}
use Rattle.mds_rule.specs.MdsStates.{MdsSend, MdsValue}
use Rattle.mds_walk.specs.MdsRuns.{MdsInput, MdsEvent, by_input, after_event, run_from}
use Rattle.mds_walk.proofs.Parts.{Keeps, HeardOf, HeardAny, HearsSo, AnyCompound, KeepsBegin}
use Rattle.mds_walk.proofs.Requested.{behind_begin}
use Rattle.mds_walk.proofs.EventWalk as walk
use Rattle.mds_laws.proofs.Keeping.{Cases}
use Rattle.mds_laws.proofs.EachCases.{EachCase}
use Rattle.mds_laws.proofs.CasesOfEach.{each_case}
use Rattle.mds_laws.proofs.EachParts.{each_parts, each_runs, each_calls, each_outs, each_event_part}

module _ (I : MdsValue → List Entry → List MdsSend → Type 0) (Heard : HeardOf) (k : EachCase I Heard) where
  -- of an event, behind what the request that it makes leaves of the table of clients
  pub input_walk : (now : ℕ) (input : MdsInput) (m : MdsValue) → HearsSo I Heard input → Keeps I (behind_begin now input m) (by_input now input m)
  input_walk now input m hears = walk.begun_walk I Heard AnyCompound (each_parts I Heard k) (each_runs I Heard k) (λ c. tt) k.answers (each_calls I Heard k) (each_outs I Heard k) now input m hears

  pub each_event : KeepsBegin I → (e : MdsEvent) → HearsSo I Heard e.input → (m : MdsValue) → Keeps I m (after_event e m)
  each_event begins e hears m = walk.event_walk I Heard AnyCompound (each_event_part I Heard k begins) e hears m

module _ (I : MdsValue → List Entry → List MdsSend → Type 0) (k : EachCase I HeardAny) (begins : KeepsBegin I) where
  -- what holds of a new server holds behind every run
  pub behind_each_run : (m : MdsValue) (events : List MdsEvent) → I m [] [] → I (run_from m events).mds (run_from m events).entries (run_from m events).sends
  behind_each_run m events i = walk.in_each_run I AnyCompound (each_event_part I HeardAny k begins) m events i

-- where it is kept in each of the cases
module _ (I : MdsValue → List Entry → List MdsSend → Type 0) (Heard : HeardOf) (k : Cases I Heard) (begins : KeepsBegin I) where
  pub event_walk : (e : MdsEvent) → HearsSo I Heard e.input → (m : MdsValue) → Keeps I m (after_event e m)
  event_walk e hears m = each_event I Heard (each_case I Heard k) begins e hears m

module _ (I : MdsValue → List Entry → List MdsSend → Type 0) (k : Cases I HeardAny) (begins : KeepsBegin I) where
  pub in_each_run : (m : MdsValue) (events : List MdsEvent) → I m [] [] → I (run_from m events).mds (run_from m events).entries (run_from m events).sends
  in_each_run m events i = behind_each_run I (each_case I HeardAny k) begins m events i
