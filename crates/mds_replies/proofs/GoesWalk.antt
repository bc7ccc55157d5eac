-- Each event, and so each run, keeps what is kept in each of the cases.
use Rattle.std.proofs.Common.{ℕ, List, [], Option}
use Rattle.cluster_model.specs.declared.entry.Entry.{Entry}
use Rattle.mds_rule.specs.MdsStates.{CompoundRun, MdsSend, MdsValue}
use Rattle.mds_rule.specs.Goes.{calls_out}
use Rattle.mds_walk.specs.MdsRuns.{MdsInput, MdsEvent, by_input, after_event, run_from}
use Rattle.mds_walk.proofs.Parts.{Becomes, Keeps, HeardOf, HeardAny, HearsSo, GivesAnswers, KeepsBegin, EventParts}
use Rattle.mds_walk.proofs.Requested as requested
use Rattle.mds_walk.proofs.Requested.{behind_begin}
use Rattle.mds_walk.proofs.GoesWalk as goes
use Rattle.mds_walk.proofs.EventWalk as walk
use Rattle.mds_walk.proofs.EventWalk.{RunsSo}
use Rattle.mds_replies.proofs.HolderCases.{Cases, RunCases, WaitCases, OutCases}
use Rattle.mds_replies.proofs.HolderParts.{out_parts, case_runs, case_resumes, case_parts, case_calls, case_outs}

pub out_walk : (I : MdsValue → List Entry → List MdsSend → Type 0) → OutCases I → (kept : List (Option (ℕ × ℕ))) (m : MdsValue) → Keeps I m (calls_out kept m)
out_walk I k kept m = goes.out_walk I (out_parts I k) kept m

module _ (I : MdsValue → List Entry → List MdsSend → Type 0) (Heard : HeardOf) (W : CompoundRun → Type 0) (k : Cases I Heard W) where
  -- of an event, behind what the request that it makes leaves of the table of clients
  pub input_walk : WaitCases I W → (now : ℕ) (input : MdsInput) (m : MdsValue) → HearsSo I Heard input → RunsSo I now input m → Keeps I (behind_begin now input m) (by_input now input m)
  input_walk g now input m hears run = walk.input_walk I Heard W (case_parts I Heard W k) (case_resumes I W g) (case_calls I Heard W k) (case_outs I Heard W k) now input m hears run

  -- what is kept from before the request is so behind its calls
  pub begin_kept : KeepsBegin I → (now : ℕ) (input : MdsInput) (m : MdsValue) → Becomes I m (behind_begin now input m)
  begin_kept begins now input m = requested.begin_kept I Heard W (case_parts I Heard W k) begins now input m

module _ (I : MdsValue → List Entry → List MdsSend → Type 0) (Heard : HeardOf) (W : CompoundRun → Type 0) (k : Cases I Heard W) (r : RunCases I W) (gives : GivesAnswers I) (begins : KeepsBegin I) where
  all_parts : EventParts I Heard W
  all_parts = record { parts = case_parts I Heard W k; runs = case_runs I W r; any = r.any; answers = gives; calls = case_calls I Heard W k; outs = case_outs I Heard W k; begins = begins }

  pub event_walk : (e : MdsEvent) → HearsSo I Heard e.input → (m : MdsValue) → Keeps I m (after_event e m)
  event_walk e hears m = walk.event_walk I Heard W all_parts e hears m

module _ (I : MdsValue → List Entry → List MdsSend → Type 0) (W : CompoundRun → Type 0) (k : Cases I HeardAny W) (r : RunCases I W) (gives : GivesAnswers I) (begins : KeepsBegin I) where
  pub run_walk : (events : List MdsEvent) (m : MdsValue) → Keeps I m (run_from m events)
  run_walk events m = walk.each_run I W (all_parts I HeardAny W k r gives begins) events m

  -- what holds of a new server holds behind every run
  pub in_each_run : (m : MdsValue) (events : List MdsEvent) → I m [] [] → I (run_from m events).mds (run_from m events).entries (run_from m events).sends
  in_each_run m events i = run_walk events m [] [] i
