-- A copy that has an outcome keeps it, and has no further call.
use Rattle.std.proofs.Common.{◌≡◌, ℕ, Bool, true, false, cond, List, [], Option, Some, None, refl, sym, ap, ◌∙◌}
use Rattle.std.specs.Prelude.{◌&&◌, ◌||◌, not, slice_get, fold}
use Rattle.std.proofs.lemmas.Bool.{and_parts}
use Rattle.std.proofs.lemmas.Option.{none-some}
use Rattle.cluster_model.specs.declared.ids.MirrorId.{MirrorId}
use Rattle.cluster_model.specs.declared.limits.TheConstants.{PIECE_SIZE}
use Rattle.cluster_model.specs.declared.targets.SwappedIn.{SwappedIn}
use Rattle.cluster_model.specs.declared.call_stage.CallStage.{CallStage}
use Rattle.cluster_model.specs.declared.call_stage.CallStage.TheVariants.{Waits, Out, KeptOut, KeptBack, Done, GivenUp}
use Rattle.cluster_model.specs.DsCalls.{Read}
use Rattle.cluster_model.specs.Fences.{waits, is_out, is_over, stage_at_tick}
use Rattle.copy_rule.specs.declared.copy_target.Target.{Target}
use Rattle.copy_rule.specs.declared.copy_target.CopyTarget.{CopyTarget}
use Rattle.copy_rule.specs.Copies.{CopyState, CopyCall, new_copy, with_read, have_answered, is_none_left, has_outcome, may_read_on, swaps_of, outcome, call_from, next_call}
use Rattle.copy_rule.proofs.ReadOn.{answered_of}
use Rattle.resilver.specs.CopyLaws.{CopyMove, CopyNote, copy_moved, copy_run}
use Rattle.resilver.proofs.Lists.{apart, all_at, over_not_out, waits_not_over}
use Rattle.resilver.proofs.Moves.{Cases, IsUnfinished, run_keeps}
use Rattle.resilver.proofs.Quiet.{none_waits}
use Rattle.resilver.proofs.Outcomes.{given_up_over}

pub all_answered : (c : CopyState) → has_outcome c ≡ true → have_answered c ≡ true
all_answered c ended = by_left (is_none_left c) refl ended
  where
    by_left : (b : Bool) → is_none_left c ≡ b → (b || (c.ended && have_answered c)) ≡ true → have_answered c ≡ true
    by_left true none so = given_up_over c.targets none
    by_left false left so = (and_parts c.ended (have_answered c) so).1

pub quiet_outcome : (c : CopyState) (xid : ℕ) → has_outcome c ≡ true → next_call c xid ≡ None
quiet_outcome c xid ended =
    ap (call_from c xid) (none_waits c.targets (all_answered c ended))
    ∙ ap (λ (b : Bool). cond {A = Option CopyCall} b (Some (record { copy = with_read c (Out xid 0); server = c.source.server; uid = 0; call = Read c.source.fileid c.at PIECE_SIZE })) None)
    (ap (λ (b : Bool). waits c.read && (have_answered c && not b)) ended ∙ off (waits c.read) (have_answered c))
  where
    off : (a b : Bool) → (a && (b && false)) ≡ false
    off true true = refl
    off true false = refl
    off false b = refl

-- ---- it stays

-- a READ that is out went out before there was an outcome
abbrev ReadsOn : CopyState → List CopyNote → Type 0
ReadsOn c notes = (y : ℕ) → is_out y c.read ≡ true → may_read_on c ≡ true

tick_out : (y : ℕ) (s : CallStage) → is_out y (stage_at_tick s) ≡ true → is_out y s ≡ true
tick_out y Waits so = so
tick_out y (Out own n) so = so
tick_out y (KeptOut own) so = so
tick_out y KeptBack so = absurd cc
tick_out y Done so = so
tick_out y GivenUp so = so

module _ (c : CopyState) (notes : List CopyNote) (on : ReadsOn c notes) where
  -- no target waits while it is out, and to none a call is out
  none_busy : (place : ℕ) (t : CopyTarget) → slice_get c.targets place ≡ Some t → (is_over t.stage ≡ true → ⊥) → (y : ℕ) → is_out y c.read ≡ true → ⊥
  none_busy place t there busy y out = busy (all_at (λ k. is_over k.stage) c.targets place t (answered_of c (on y out)) there)

  reads_on_cases : Cases ReadsOn c notes
  reads_on_cases = record {
    sent = λ place x t fresh there waiting y out. absurd (none_busy place t there (λ over. apart (is_over t.stage) over (waits_not_over t.stage waiting)) y out);
    reads = λ x fresh waiting may y out. may;
    answered = λ place x t reply there asked y out. absurd (none_busy place t there (λ over. apart (is_out x t.stage) asked (over_not_out x t.stage over)) y out);
    late = λ place x t there asked y out. absurd (none_busy place t there (λ over. apart (is_out x t.stage) asked (over_not_out x t.stage over)) y out);
    piece = λ x shown eof bytes away out fits y so. absurd cc;
    failed = λ x reply away out none y so. absurd cc;
    late_read = λ x stage away out alike not_done y so. on y (sym (alike y) ∙ so);
    stray = λ x reply away other. on;
    stray_late = λ x away other. on;
    ticked = λ y so. on y (tick_out y c.read so);
  }

-- it has this outcome, and no READ is out
record IsEnded (targets : List SwappedIn) (c : CopyState) (notes : List CopyNote) : Type 0 where
  came : outcome c ≡ Some targets
  on : ReadsOn c notes

ended_by : (c : CopyState) (targets : List SwappedIn) → outcome c ≡ Some targets → has_outcome c ≡ true
ended_by c targets is = by_end (has_outcome c) is
  where
    by_end : (b : Bool) → cond {A = Option (List SwappedIn)} b (Some (swaps_of c)) None ≡ Some targets → b ≡ true
    by_end true is = refl
    by_end false is = absurd (none-some targets is)

no_reading : (c : CopyState) → has_outcome c ≡ true → may_read_on c ≡ true → ⊥
no_reading c ended may = apart (not (has_outcome c)) (and_parts (have_answered c) (not (has_outcome c)) may).1 (ap not ended)

module _ (targets : List SwappedIn) where
  module _ (c : CopyState) (notes : List CopyNote) (e : IsEnded targets c notes) where
    has_ended : has_outcome c ≡ true
    has_ended = ended_by c targets e.came

    over : (place : ℕ) (t : CopyTarget) → slice_get c.targets place ≡ Some t → is_over t.stage ≡ true
    over place t there = all_at (λ k. is_over k.stage) c.targets place t (all_answered c has_ended) there

    none_out : (x : ℕ) → is_out x c.read ≡ true → ⊥
    none_out x out = no_reading c has_ended (e.on x out)

    ended_cases : Cases (IsEnded targets) c notes
    ended_cases = record {
      sent = λ place x t fresh there waiting. absurd (apart (is_over t.stage) (over place t there) (waits_not_over t.stage waiting));
      reads = λ x fresh waiting may. absurd (no_reading c has_ended may);
      answered = λ place x t reply there asked. absurd (apart (is_out x t.stage) asked (over_not_out x t.stage (over place t there)));
      late = λ place x t there asked. absurd (apart (is_out x t.stage) asked (over_not_out x t.stage (over place t there)));
      piece = λ x shown eof bytes away out fits. absurd (none_out x out);
      failed = λ x reply away out none. absurd (none_out x out);
      late_read = λ x stage away out alike not_done. absurd (none_out x out);
      stray = λ x reply away other. record { came = e.came; on = e.on };
      stray_late = λ x away other. record { came = e.came; on = e.on };
      ticked = record { came = e.came; on = (reads_on_cases c notes e.on).ticked };
    }

  ended_goes : IsUnfinished (IsEnded targets)
  ended_goes c notes over open' all e = record { came = e.came; on = λ y so. absurd cc }

reads_on_run : (source : MirrorId) (plan : List Target) (copier : ℕ) (moves : List CopyMove) → ReadsOn (copy_run source plan copier moves).copy (copy_run source plan copier moves).notes
reads_on_run source plan copier moves =
    run_keeps ReadsOn reads_on_cases (λ c notes over open' all on y so. absurd cc) moves (record { copy = new_copy source plan copier; notes = [] }) (λ y so. absurd cc)

pub outcome_stays : (source : MirrorId) (plan : List Target) (copier : ℕ) (before behind : List CopyMove) (targets : List SwappedIn)
    → outcome (copy_run source plan copier before).copy ≡ Some targets → outcome (fold copy_moved (copy_run source plan copier before) behind).copy ≡ Some targets
outcome_stays source plan copier before behind targets is =
    (run_keeps (IsEnded targets) (ended_cases targets) (ended_goes targets) behind (copy_run source plan copier before) (record { came = is; on = reads_on_run source plan copier before })).came
