-- In every run of a copy its READs are in turn.
use Rattle.std.proofs.Common.{◌≡◌, ◌≢◌, ◌⊎◌, inl, inr, ℕ, ◌+◌, Bool, true, false, cond, List, [], ◌∷◌, ◌++◌, length, Option, Some, None, refl, sym, ap, subst, ◌∙◌, append-nil, arith}
use Rattle.std.specs.Prelude.{◌==◌, ◌||◌, nat_lt, slice_get}
use Rattle.std.proofs.lemmas.Bool.{cases_eq}
use Rattle.cluster_model.specs.declared.limits.TheConstants.{MAX_TIMEOUTS, PIECE_SIZE}
use Rattle.cluster_model.specs.declared.ids.MirrorId.{MirrorId}
use Rattle.cluster_model.specs.declared.ids.Mirror.{Mirror}
use Rattle.cluster_model.specs.declared.ds_call.Shown.{Shown}
use Rattle.cluster_model.specs.declared.call_stage.CallStage.{CallStage}
use Rattle.cluster_model.specs.declared.call_stage.CallStage.TheVariants.{Waits, Out, KeptOut, KeptBack, Done, GivenUp}
use Rattle.cluster_model.specs.declared.phase.LeftCause.TheVariants.{Timeouts}
use Rattle.cluster_model.specs.DsCalls.{DsCallValue, Read, DsReplyValue, Created, Set, Written, Committed, Bytes, NotSync, Failed}
use Rattle.cluster_model.specs.Fences.{waits, is_out, is_over, stage_at_tick}
use Rattle.copy_rule.specs.declared.copy_target.Target.{Target}
use Rattle.copy_rule.specs.declared.copy_target.CopyTarget.{CopyTarget}
use Rattle.copy_rule.specs.Copies.{CopyState, TargetStep, new_copy, to_make, with_target, with_read, with_piece, with_next, have_answered, at_stage, is_given_up, to_write, stage_for, target_call, target_answered, target_late, target_fails, goes_on_with, is_long}
use Rattle.copy_rule.proofs.ReadOn.{answered_of}
use Rattle.resilver.specs.CopyLaws.{CopyMove, CopyNote, WasSent, WasAnswered, WasLate, HasTicked, CopyCallOut, was_sent, call_out, late_once, Piece, piece_in, pieces_read, AreInTurn, copy_run, said_end}
use Rattle.resilver.proofs.Lists.{equal, apart, all_at, mapped_at, out_same, over_not_out, waits_not_out, waits_not_over, AfterSet, Here, There, after_set}
use Rattle.resilver.proofs.Moves.{read_out, NotAtTarget, is_done, Cases, IsUnfinished, run_keeps}
use Rattle.resilver.proofs.CallsOut.{reads_out, not_sent, sent_same, answered_other, answered_same, late_other, late_same, reads_sent, reads_answered, reads_timed_out, no_read, piece_none}

-- ---- one target

-- behind an answer no call to it is out
pub answered_not_out : (y : ℕ) (t : CopyTarget) (reply : DsReplyValue) (made : Option Mirror) → is_out y (target_answered t reply made).target.stage ≡ false
answered_not_out y t (Created fileid shown) None = refl
answered_not_out y t (Set shown) None = refl
answered_not_out y t (Written shown verifier) None = refl
answered_not_out y t (Committed shown verifier) None = refl
answered_not_out y t (Bytes shown eof bytes) None = refl
answered_not_out y t (NotSync shown) None = refl
answered_not_out y t (Failed status shown) None = refl
answered_not_out y t (Created fileid shown) (Some m) = refl
answered_not_out y t (Set shown) (Some m) = refl
answered_not_out y t (Written shown verifier) (Some m) = refl
answered_not_out y t (Committed shown verifier) (Some m) = refl
answered_not_out y t (Bytes shown eof bytes) (Some m) = refl
answered_not_out y t (NotSync shown) (Some m) = refl
answered_not_out y t (Failed status shown) (Some m) = refl

-- a timeout puts no other call out
pub late_out : (y : ℕ) (t : CopyTarget) (s : CallStage) → t.stage ≡ s → is_out y (target_late t s).target.stage ≡ true → is_out y t.stage ≡ true
late_out y t (Out xid n) is out = by_count (nat_lt (n + 1) MAX_TIMEOUTS) out
  where
    by_count : (b : Bool) → is_out y (cond {A = TargetStep} b (goes_on_with (at_stage t (Out xid (n + 1)))) (target_fails t Timeouts)).target.stage ≡ true → is_out y t.stage ≡ true
    by_count true out = ap (is_out y) is ∙ out
    by_count false out = absurd cc
late_out y t Waits is out = out
late_out y t (KeptOut xid) is out = out
late_out y t KeptBack is out = out
late_out y t Done is out = out
late_out y t GivenUp is out = out

-- a piece puts no call out
pub write_not_out : (y : ℕ) (bytes : List ℕ) (t : CopyTarget) → is_out y (to_write bytes t).stage ≡ false
write_not_out y bytes t = by_left (is_given_up t.stage) refl
  where
    given_up : (s : CallStage) → is_given_up s ≡ true → is_out y s ≡ false
    given_up GivenUp is = refl
    given_up Waits is = absurd cc
    given_up (Out xid n) is = absurd cc
    given_up (KeptOut xid) is = absurd cc
    given_up KeptBack is = absurd cc
    given_up Done is = absurd cc

    by_bytes : (l : List ℕ) → is_out y (stage_for l) ≡ false
    by_bytes [] = refl
    by_bytes (b ∷ l) = refl

    by_left : (b : Bool) → is_given_up t.stage ≡ b → is_out y (cond b t (at_stage t (stage_for bytes))).stage ≡ false
    by_left true is = given_up t.stage is
    by_left false is = by_bytes bytes

-- ---- pieces

-- the piece in hand
abbrev hand_at : CallStage → ℕ → List ℕ → Bool → List Piece
hand_at Done at bytes eof = record { at = at; bytes = bytes; eof = eof } ∷ []
hand_at Waits at bytes eof = []
hand_at (Out xid timeouts) at bytes eof = []
hand_at (KeptOut xid) at bytes eof = []
hand_at KeptBack at bytes eof = []
hand_at GivenUp at bytes eof = []

pub hand : CopyState → List Piece
hand c = hand_at c.read c.at c.piece c.ended

none_in_hand : (c : CopyState) → is_done c.read ≡ false → hand c ≡ []
unfolding hand
none_in_hand c is = by_stage c.read is
  where
    by_stage : (s : CallStage) → is_done s ≡ false → hand_at s c.at c.piece c.ended ≡ []
    by_stage Done is = absurd cc
    by_stage Waits is = refl
    by_stage (Out xid timeouts) is = refl
    by_stage (KeptOut xid) is = refl
    by_stage KeptBack is = refl
    by_stage GivenUp is = refl

-- Pieces of which each stands where the one before it ends, from here to there, and none ends the source.
abbrev pub Runs : ℕ → List Piece → ℕ → Type 0
Runs from [] to = from ≡ to
Runs from (p ∷ pieces) to = (p.at ≡ from) × (p.eof ≡ false) × Runs (from + length p.bytes) pieces to

runs_more : (from to : ℕ) (pieces : List Piece) (p : Piece) → Runs from pieces to → p.at ≡ to → p.eof ≡ false → Runs from (pieces ++ p ∷ []) (to + length p.bytes)
runs_more from to [] p run at eof = (at ∙ sym run, eof, ap (λ n. n + length p.bytes) run)
runs_more from to (q ∷ pieces) p run at eof = (run.0, run.1, runs_more (from + length q.bytes) to pieces p run.2 at eof)

turn_of : (from to : ℕ) (pieces : List Piece) → Runs from pieces to → AreInTurn from pieces
turn_of from to [] run = tt
turn_of from to (p ∷ pieces) run = (run.0, ((λ is. absurd (apart p.eof is run.1)), turn_of (from + length p.bytes) to pieces run.2))

turn_then : (from to : ℕ) (pieces : List Piece) (p : Piece) → Runs from pieces to → p.at ≡ to → AreInTurn from (pieces ++ p ∷ [])
turn_then from to [] p run at = (at ∙ sym run, ((λ is. refl), tt))
turn_then from to (q ∷ pieces) p run at = (run.0, ((λ is. absurd (apart q.eof is run.1)), turn_then (from + length q.bytes) to pieces p run.2 at))

pub no_end : (from to : ℕ) (pieces : List Piece) → Runs from pieces to → said_end pieces ≡ false
no_end from to [] run = refl
no_end from to (p ∷ pieces) run = ap (λ b. b || said_end pieces) run.1 ∙ no_end (from + length p.bytes) to pieces run.2

pub end_last : (pieces : List Piece) (p : Piece) → said_end pieces ≡ false → said_end (pieces ++ p ∷ []) ≡ p.eof
end_last [] p none = or_false p.eof
  where
    or_false : (b : Bool) → (b || false) ≡ b
    or_false true = refl
    or_false false = refl
end_last (q ∷ pieces) p none = by_first q.eof none (end_last pieces p)
  where
    by_first : (b : Bool) → (b || said_end pieces) ≡ false → (said_end pieces ≡ false → said_end (pieces ++ p ∷ []) ≡ p.eof) → (b || said_end (pieces ++ p ∷ [])) ≡ p.eof
    by_first true none more = absurd cc
    by_first false none more = more none

-- ---- the invariant

pub record Turn (c : CopyState) (notes : List CopyNote) : Type 0 where
  pub before : List Piece
  pub pieces : pieces_read notes ≡ before ++ hand c
  pub runs : Runs 0 before c.at
  pub idle : is_done c.read ≡ false → (c.ended ≡ false) × (c.piece ≡ [])
  pub read : (y : ℕ) → is_out y c.read ≡ true → call_out notes y ≡ Some (read_out c)
  pub asked : (y : ℕ) → is_out y c.read ≡ true → have_answered c ≡ true
  -- a call that is out at a target is no READ
  pub alone : (y q : ℕ) (u : CopyTarget) → slice_get c.targets q ≡ Some u → is_out y u.stage ≡ true → (was_sent notes y ≡ true) × (reads_out (call_out notes y) ≡ false)
  pub only : (y : ℕ) → is_out y c.read ≡ false → reads_out (call_out notes y) ≡ false

-- nothing is READ while a target has not answered
pub busy : (c : CopyState) (notes : List CopyNote) → Turn c notes → (place : ℕ) (t : CopyTarget) → slice_get c.targets place ≡ Some t → is_over t.stage ≡ false → (y : ℕ) → is_out y c.read ≡ false
busy c notes turn place t there open' y = by_out (is_out y c.read) refl
  where
    by_out : (b : Bool) → is_out y c.read ≡ b → b ≡ false
    by_out false is = refl
    by_out true is = absurd (apart (is_over t.stage) (all_at (λ k. is_over k.stage) c.targets place t (turn.asked y is) there) open')

pub out_not_over : (x : ℕ) (s : CallStage) → is_out x s ≡ true → is_over s ≡ false
out_not_over x (Out own n) is = refl
out_not_over x (KeptOut own) is = refl
out_not_over x Waits is = absurd cc
out_not_over x KeptBack is = absurd cc
out_not_over x Done is = absurd cc
out_not_over x GivenUp is = absurd cc

out_not_done : (x : ℕ) (s : CallStage) → is_out x s ≡ true → is_done s ≡ false
out_not_done x (Out own n) is = refl
out_not_done x (KeptOut own) is = refl
out_not_done x Waits is = absurd cc
out_not_done x KeptBack is = absurd cc
out_not_done x Done is = absurd cc
out_not_done x GivenUp is = absurd cc

waits_not_done : (s : CallStage) → waits s ≡ true → is_done s ≡ false
waits_not_done Waits is = refl
waits_not_done (Out own n) is = absurd cc
waits_not_done (KeptOut own) is = absurd cc
waits_not_done KeptBack is = absurd cc
waits_not_done Done is = absurd cc
waits_not_done GivenUp is = absurd cc

or_true : (b : Bool) → (b || true) ≡ true
or_true true = refl
or_true false = refl

-- the READ is at another stage, and none is in hand before or then
no_hand : (c : CopyState) (stage : CallStage) → is_done c.read ≡ false → is_done stage ≡ false → hand c ≡ hand (with_read c stage)
no_hand c stage was is = none_in_hand c was ∙ sym (none_in_hand (with_read c stage) is)

module _ (c : CopyState) (notes : List CopyNote) (turn : Turn c notes) where
  -- a target is at another stage: the READ is not out meanwhile
  at_target : (place : ℕ) (t new : CopyTarget) (note : CopyNote) → slice_get c.targets place ≡ Some t → is_over t.stage ≡ false → pieces_read (note ∷ notes) ≡ pieces_read notes
      → ((y : ℕ) → was_sent notes y ≡ true → was_sent (note ∷ notes) y ≡ true)
      → ((y : ℕ) → reads_out (call_out notes y) ≡ false → reads_out (call_out (note ∷ notes) y) ≡ false)
      → ((y : ℕ) → is_out y new.stage ≡ true → (was_sent (note ∷ notes) y ≡ true) × (reads_out (call_out notes y) ≡ false)) → Turn (with_target c place new) (note ∷ notes)
  unfolding hand
  at_target place t new note there open' same stays none its = record {
    before = turn.before;
    pieces = same ∙ turn.pieces;
    runs = turn.runs;
    idle = turn.idle;
    read = λ y out. absurd (apart (is_out y c.read) out (busy c notes turn place t there open' y));
    asked = λ y out. absurd (apart (is_out y c.read) out (busy c notes turn place t there open' y));
    alone = λ y q u at out. by_place y q u (after_set c.targets place t new q u there at) out;
    only = λ y away. none y (turn.only y away);
  }
    where
      by_place : (y q : ℕ) (u : CopyTarget) → AfterSet c.targets place new q u → is_out y u.stage ≡ true → (was_sent (note ∷ notes) y ≡ true) × (reads_out (call_out (note ∷ notes) y) ≡ false)
      by_place y q u (Here is same) out = let p = its y (subst (λ (k : CopyTarget). is_out y k.stage ≡ true) same out) in (p.0, none y p.1)
      by_place y q u (There other at) out = let p = turn.alone y q u at out in (stays y p.0, none y p.1)

  -- the READ is at another stage, and no piece came
  at_read : (stage : CallStage) (note : CopyNote) → is_done c.read ≡ false → is_done stage ≡ false → pieces_read (note ∷ notes) ≡ pieces_read notes
      → ((y : ℕ) → was_sent notes y ≡ true → was_sent (note ∷ notes) y ≡ true)
      → ((y : ℕ) → is_out y stage ≡ true → (call_out (note ∷ notes) y ≡ Some (read_out c)) × (have_answered c ≡ true))
      → ((y q : ℕ) (u : CopyTarget) → slice_get c.targets q ≡ Some u → is_out y u.stage ≡ true → reads_out (call_out (note ∷ notes) y) ≡ false)
      → ((y : ℕ) → is_out y stage ≡ false → reads_out (call_out (note ∷ notes) y) ≡ false) → Turn (with_read c stage) (note ∷ notes)
  at_read stage note was is same stays out away none = record {
    before = turn.before;
    pieces = same ∙ turn.pieces ∙ ap (λ l. turn.before ++ l) (no_hand c stage was is);
    runs = turn.runs;
    idle = λ so. turn.idle was;
    read = λ y so. (out y so).0;
    asked = λ y so. (out y so).1;
    alone = λ y q u at so. (stays y (turn.alone y q u at so).0, away y q u at so);
    only = none;
  }

  -- a note that changes nothing
  unmoved : (note : CopyNote) → pieces_read (note ∷ notes) ≡ pieces_read notes → ((y : ℕ) → was_sent notes y ≡ true → was_sent (note ∷ notes) y ≡ true)
      → ((y : ℕ) → is_out y c.read ≡ true → call_out (note ∷ notes) y ≡ call_out notes y) → ((y : ℕ) → reads_out (call_out notes y) ≡ false → reads_out (call_out (note ∷ notes) y) ≡ false)
      → Turn c (note ∷ notes)
  unmoved note same stays out none = record {
    before = turn.before;
    pieces = same ∙ turn.pieces;
    runs = turn.runs;
    idle = turn.idle;
    read = λ y so. out y so ∙ turn.read y so;
    asked = turn.asked;
    alone = λ y q u at so. let p = turn.alone y q u at so in (stays y p.0, none y p.1);
    only = λ y so. none y (turn.only y so);
  }

  -- no piece came with an answer
  no_piece : (x : ℕ) (reply : DsReplyValue) → piece_in reply (call_out notes x) ≡ [] → pieces_read (WasAnswered x reply ∷ notes) ≡ pieces_read notes
  no_piece x reply none = ap (λ l. pieces_read notes ++ l) none ∙ append-nil (pieces_read notes)

  turn_sent : (place x : ℕ) (t : CopyTarget) → was_sent notes x ≡ false → slice_get c.targets place ≡ Some t → waits t.stage ≡ true
      → Turn (with_target c place (at_stage t (Out x 0))) (WasSent t.server x (target_call c.copier c.at c.piece t.name t.made) ∷ notes)
  turn_sent place x t fresh there waiting =
      at_target place t (at_stage t (Out x 0)) (WasSent t.server x call) there (waits_not_over t.stage waiting) refl
      (λ y was. ap (λ b. (x == y) || b) was ∙ or_true (x == y))
      (λ y none. reads_sent notes t.server x y call (no_read c.copier c.at c.piece t.name t.made) none)
      (λ y out. (ap (λ b. b || was_sent notes y) out, subst (λ k. reads_out (call_out notes k) ≡ false) (out_same x y (Out x 0) (equal x x refl) out) (ap reads_out (not_sent notes x fresh))))
    where
      call : DsCallValue
      call = target_call c.copier c.at c.piece t.name t.made

  turn_answered : (place x : ℕ) (t : CopyTarget) (reply : DsReplyValue) → slice_get c.targets place ≡ Some t → is_out x t.stage ≡ true
      → Turn (with_target c place (target_answered t reply t.made).target) (WasAnswered x reply ∷ notes)
  turn_answered place x t reply there out =
      at_target place t (target_answered t reply t.made).target (WasAnswered x reply) there (out_not_over x t.stage out)
      (no_piece x reply (piece_none reply (call_out notes x) (turn.alone x place t there out).1))
      (λ y was. was) (λ y none. reads_answered notes x y reply none)
      (λ y so. absurd (apart (is_out y (target_answered t reply t.made).target.stage) so (answered_not_out y t reply t.made)))

  turn_late : (place x : ℕ) (t : CopyTarget) → slice_get c.targets place ≡ Some t → is_out x t.stage ≡ true → Turn (with_target c place (target_late t t.stage).target) (WasLate x ∷ notes)
  turn_late place x t there out =
      at_target place t (target_late t t.stage).target (WasLate x) there (out_not_over x t.stage out) refl
      (λ y was. was) (λ y none. reads_timed_out notes x y none)
      (λ y so. turn.alone y place t there (late_out y t t.stage refl so))

  turn_reads : (x : ℕ) → was_sent notes x ≡ false → waits c.read ≡ true → have_answered c ≡ true → Turn (with_read c (Out x 0)) (WasSent c.source.server x (Read c.source.fileid c.at PIECE_SIZE) ∷ notes)
  turn_reads x fresh waiting all =
      at_read (Out x 0) (WasSent c.source.server x (Read c.source.fileid c.at PIECE_SIZE)) (waits_not_done c.read waiting) refl refl
      (λ y was. ap (λ b. (x == y) || b) was ∙ or_true (x == y))
      (λ y out. (sent_same notes c.source.server x y (Read c.source.fileid c.at PIECE_SIZE) (out_same x y (Out x 0) (equal x x refl) out), all))
      (λ y q u at out. absurd (apart (is_out y u.stage) out (over_not_out y u.stage (all_at (λ k. is_over k.stage) c.targets q u all at))))
      (λ y away. ap (λ (b : Bool). reads_out (cond {A = Option CopyCallOut} b (Some (read_out c)) (call_out notes y))) away ∙ turn.only y (waits_not_out y c.read waiting))

  -- the READ that was answered is out no longer
  read_gone : (x : ℕ) (reply : DsReplyValue) → is_out x c.read ≡ true → (y : ℕ) → reads_out (call_out (WasAnswered x reply ∷ notes) y) ≡ false
  read_gone x reply out y = by_number (cases_eq x y)
    where
      by_out : x ≢ y → (b : Bool) → is_out y c.read ≡ b → reads_out (call_out notes y) ≡ false
      by_out other true is = absurd (other (out_same x y c.read out is))
      by_out other false is = turn.only y is

      by_number : (x ≡ y) ⊎ (x ≢ y) → reads_out (call_out (WasAnswered x reply ∷ notes) y) ≡ false
      by_number (inl same) = ap reads_out (answered_same notes x y reply same)
      by_number (inr other) = reads_answered notes x y reply (by_out other (is_out y c.read) refl)

  turn_failed : (x : ℕ) (reply : DsReplyValue) → NotAtTarget c x → is_out x c.read ≡ true → piece_in reply (Some (read_out c)) ≡ [] → Turn (with_read c KeptBack) (WasAnswered x reply ∷ notes)
  turn_failed x reply away out none =
      at_read KeptBack (WasAnswered x reply) (out_not_done x c.read out) refl (no_piece x reply (ap (piece_in reply) (turn.read x out) ∙ none))
      (λ y was. was)
      (λ y so. absurd cc)
      (λ y q u at so. reads_answered notes x y reply (turn.alone y q u at so).1)
      (λ y so. read_gone x reply out y)

  turn_late_read : (x : ℕ) (stage : CallStage) → NotAtTarget c x → is_out x c.read ≡ true → ((y : ℕ) → is_out y stage ≡ is_out y c.read) → is_done stage ≡ false → Turn (with_read c stage) (WasLate x ∷ notes)
  turn_late_read x stage away out alike is =
      at_read stage (WasLate x) (out_not_done x c.read out) is refl
      (λ y was. was)
      (λ y so.
      let was : is_out y c.read ≡ true = sym (alike y) ∙ so in
      (late_same notes x y (out_same x y c.read out was) ∙ ap late_once (turn.read y was), turn.asked y was))
      (λ y q u at so. reads_timed_out notes x y (turn.alone y q u at so).1)
      (λ y so. reads_timed_out notes x y (turn.only y (sym (alike y) ∙ so)))

  -- a number that is out at the READ is not this one
  other_number : (x y : ℕ) → is_out x c.read ≡ false → is_out y c.read ≡ true → x ≢ y
  other_number x y away out same = apart (is_out y c.read) out (ap (λ k. is_out k c.read) (sym same) ∙ away)

  turn_stray : (x : ℕ) (reply : DsReplyValue) → NotAtTarget c x → is_out x c.read ≡ false → Turn c (WasAnswered x reply ∷ notes)
  turn_stray x reply away other =
      unmoved (WasAnswered x reply) (no_piece x reply (piece_none reply (call_out notes x) (turn.only x other))) (λ y was. was)
      (λ y so. answered_other notes x y reply (other_number x y other so)) (λ y none. reads_answered notes x y reply none)

  turn_stray_late : (x : ℕ) → NotAtTarget c x → is_out x c.read ≡ false → Turn c (WasLate x ∷ notes)
  turn_stray_late x away other = unmoved (WasLate x) refl (λ y was. was) (λ y so. late_other notes x y (other_number x y other so)) (λ y none. reads_timed_out notes x y none)

  -- what was READ behind a piece
  pub one_read : (x : ℕ) (shown : Option Shown) (eof : Bool) (bytes : List ℕ) → is_out x c.read ≡ true → is_long c bytes ≡ false
      → pieces_read (WasAnswered x (Bytes shown eof bytes) ∷ notes) ≡ pieces_read notes ++ record { at = c.at; bytes = bytes; eof = eof } ∷ []
  one_read x shown eof bytes out fits =
      ap (λ (o : Option CopyCallOut). pieces_read notes ++ piece_in (Bytes shown eof bytes) o) (turn.read x out)
      ∙ ap (λ (b : Bool). pieces_read notes ++ cond {A = List Piece} b [] (record { at = c.at; bytes = bytes; eof = eof } ∷ [])) fits

  turn_piece : (x : ℕ) (shown : Option Shown) (eof : Bool) (bytes : List ℕ) → NotAtTarget c x → is_out x c.read ≡ true → is_long c bytes ≡ false
      → Turn (with_piece c eof bytes) (WasAnswered x (Bytes shown eof bytes) ∷ notes)
  unfolding hand
  turn_piece x shown eof bytes away out fits = record {
    before = turn.before;
    pieces = one_read x shown eof bytes out fits ∙ ap (λ l. l ++ record { at = c.at; bytes = bytes; eof = eof } ∷ []) (turn.pieces ∙ ap (λ l. turn.before ++ l) (none_in_hand c (out_not_done x c.read out)) ∙ append-nil turn.before);
    runs = turn.runs;
    idle = λ so. absurd cc;
    read = λ y so. absurd cc;
    asked = λ y so. absurd cc;
    alone = λ y q u at so.
        let m = mapped_at (to_write bytes) c.targets q u at in
        absurd (apart (is_out y u.stage) so (ap (λ (k : CopyTarget). is_out y k.stage) (sym m.2) ∙ write_not_out y bytes m.0));
    only = λ y so. read_gone x (Bytes shown eof bytes) out y;
  }

  turn_ticked : Turn (with_read c (stage_at_tick c.read)) (HasTicked ∷ notes)
  unfolding hand
  turn_ticked = record {
    before = turn.before;
    pieces = turn.pieces ∙ ap (λ l. turn.before ++ l) (same_hand c.read);
    runs = turn.runs;
    idle = λ so. turn.idle (sym (same_done c.read) ∙ so);
    read = λ y so. turn.read y (sym (same_out y c.read) ∙ so);
    asked = λ y so. turn.asked y (sym (same_out y c.read) ∙ so);
    alone = turn.alone;
    only = λ y so. turn.only y (sym (same_out y c.read) ∙ so);
  }
    where
      same_hand : (s : CallStage) → hand_at s c.at c.piece c.ended ≡ hand_at (stage_at_tick s) c.at c.piece c.ended
      same_hand Waits = refl
      same_hand (Out xid n) = refl
      same_hand (KeptOut xid) = refl
      same_hand KeptBack = refl
      same_hand Done = refl
      same_hand GivenUp = refl

      same_done : (s : CallStage) → is_done (stage_at_tick s) ≡ is_done s
      same_done Waits = refl
      same_done (Out xid n) = refl
      same_done (KeptOut xid) = refl
      same_done KeptBack = refl
      same_done Done = refl
      same_done GivenUp = refl

      same_out : (y : ℕ) (s : CallStage) → is_out y (stage_at_tick s) ≡ is_out y s
      same_out y Waits = refl
      same_out y (Out xid n) = refl
      same_out y (KeptOut xid) = refl
      same_out y KeptBack = refl
      same_out y Done = refl
      same_out y GivenUp = refl

  turn_next : is_over c.read ≡ true → c.ended ≡ false → have_answered c ≡ true → Turn (with_next c) notes
  unfolding hand
  turn_next over open' all = record {
    before = turn.before ++ hand c;
    pieces = turn.pieces ∙ sym (append-nil (turn.before ++ hand c));
    runs = by_stage c.read refl;
    idle = λ so. (open', refl);
    read = λ y so. absurd cc;
    asked = λ y so. absurd cc;
    alone = turn.alone;
    only = λ y so. turn.only y (over_not_out y c.read over);
  }
    where
      ends : (s : CallStage) → is_done s ≡ false → c.read ≡ s → Runs 0 (turn.before ++ []) (c.at + length c.piece)
      ends s none is =
          let empty : c.piece ≡ [] = (turn.idle (ap is_done is ∙ none)).1 in
          let size : length c.piece ≡ 0 = ap length empty in
          let at : c.at ≡ c.at + length c.piece = omega (arith, size) in
          subst (λ (l : List Piece). Runs 0 l (c.at + length c.piece)) (sym (append-nil turn.before)) (subst (λ (n : ℕ). Runs 0 turn.before n) at turn.runs)

      by_stage : (s : CallStage) → c.read ≡ s → Runs 0 (turn.before ++ hand_at c.read c.at c.piece c.ended) (c.at + length c.piece)
      by_stage Done is =
          subst (λ (k : CallStage). Runs 0 (turn.before ++ hand_at k c.at c.piece c.ended) (c.at + length c.piece)) (sym is)
          (runs_more 0 c.at turn.before (record { at = c.at; bytes = c.piece; eof = c.ended }) turn.runs refl open')
      by_stage Waits is = subst (λ (k : CallStage). Runs 0 (turn.before ++ hand_at k c.at c.piece c.ended) (c.at + length c.piece)) (sym is) (ends Waits refl is)
      by_stage (Out x n) is = subst (λ (k : CallStage). Runs 0 (turn.before ++ hand_at k c.at c.piece c.ended) (c.at + length c.piece)) (sym is) (ends (Out x n) refl is)
      by_stage (KeptOut x) is = subst (λ (k : CallStage). Runs 0 (turn.before ++ hand_at k c.at c.piece c.ended) (c.at + length c.piece)) (sym is) (ends (KeptOut x) refl is)
      by_stage KeptBack is = subst (λ (k : CallStage). Runs 0 (turn.before ++ hand_at k c.at c.piece c.ended) (c.at + length c.piece)) (sym is) (ends KeptBack refl is)
      by_stage GivenUp is = subst (λ (k : CallStage). Runs 0 (turn.before ++ hand_at k c.at c.piece c.ended) (c.at + length c.piece)) (sym is) (ends GivenUp refl is)

pub turn_cases : (c : CopyState) (notes : List CopyNote) → Turn c notes → Cases Turn c notes
turn_cases c notes turn = record {
  sent = turn_sent c notes turn;
  reads = λ x fresh waiting may. turn_reads c notes turn x fresh waiting (answered_of c may);
  answered = turn_answered c notes turn;
  late = turn_late c notes turn;
  piece = turn_piece c notes turn;
  failed = turn_failed c notes turn;
  late_read = turn_late_read c notes turn;
  stray = turn_stray c notes turn;
  stray_late = turn_stray_late c notes turn;
  ticked = turn_ticked c notes turn;
}

pub turn_goes : IsUnfinished Turn
turn_goes c notes over open' all turn = turn_next c notes turn over open' all

pub turn_start : (source : MirrorId) (plan : List Target) (copier : ℕ) → Turn (new_copy source plan copier) []
unfolding hand
turn_start source plan copier = record {
  before = [];
  pieces = refl;
  runs = refl;
  idle = λ so. (refl, refl);
  read = λ y so. absurd cc;
  asked = λ y so. absurd cc;
  alone = λ y q u at so.
      let m = mapped_at to_make plan q u at in
      absurd (apart (is_out y u.stage) so (ap (λ (k : CopyTarget). is_out y k.stage) (sym m.2)));
  only = λ y so. refl;
}

-- ---- the law

pub in_turn_of : (c : CopyState) (notes : List CopyNote) → Turn c notes → AreInTurn 0 (pieces_read notes)
unfolding hand
in_turn_of c notes turn = subst (λ (l : List Piece). AreInTurn 0 l) (sym turn.pieces) (by_stage c.read)
  where
    none : AreInTurn 0 (turn.before ++ [])
    none = subst (λ (l : List Piece). AreInTurn 0 l) (sym (append-nil turn.before)) (turn_of 0 c.at turn.before turn.runs)

    by_stage : (s : CallStage) → AreInTurn 0 (turn.before ++ hand_at s c.at c.piece c.ended)
    by_stage Done = turn_then 0 c.at turn.before (record { at = c.at; bytes = c.piece; eof = c.ended }) turn.runs refl
    by_stage Waits = none
    by_stage (Out x n) = none
    by_stage (KeptOut x) = none
    by_stage KeptBack = none
    by_stage GivenUp = none

pub turn_run : (source : MirrorId) (plan : List Target) (copier : ℕ) (moves : List CopyMove) → Turn (copy_run source plan copier moves).copy (copy_run source plan copier moves).notes
turn_run source plan copier moves = run_keeps Turn turn_cases turn_goes moves (record { copy = new_copy source plan copier; notes = [] }) (turn_start source plan copier)

pub in_turn : (source : MirrorId) (plan : List Target) (copier : ℕ) (moves : List CopyMove) → AreInTurn 0 (pieces_read (copy_run source plan copier moves).notes)
in_turn source plan copier moves = in_turn_of _ _ (turn_run source plan copier moves)

-- that the source said end
pub said_so : (c : CopyState) (notes : List CopyNote) → Turn c notes → said_end (pieces_read notes) ≡ c.ended
unfolding hand
said_so c notes turn = ap said_end turn.pieces ∙ by_stage c.read refl
  where
    none : (s : CallStage) → is_done s ≡ false → c.read ≡ s → said_end (turn.before ++ []) ≡ c.ended
    none s not_done is = ap said_end (append-nil turn.before) ∙ no_end 0 c.at turn.before turn.runs ∙ sym (turn.idle (ap is_done is ∙ not_done)).0

    by_stage : (s : CallStage) → c.read ≡ s → said_end (turn.before ++ hand_at c.read c.at c.piece c.ended) ≡ c.ended
    by_stage Done is = ap (λ (k : CallStage). said_end (turn.before ++ hand_at k c.at c.piece c.ended)) is ∙ end_last turn.before (record { at = c.at; bytes = c.piece; eof = c.ended }) (no_end 0 c.at turn.before turn.runs)
    by_stage Waits is = ap (λ (k : CallStage). said_end (turn.before ++ hand_at k c.at c.piece c.ended)) is ∙ none Waits refl is
    by_stage (Out x n) is = ap (λ (k : CallStage). said_end (turn.before ++ hand_at k c.at c.piece c.ended)) is ∙ none (Out x n) refl is
    by_stage (KeptOut x) is = ap (λ (k : CallStage). said_end (turn.before ++ hand_at k c.at c.piece c.ended)) is ∙ none (KeptOut x) refl is
    by_stage KeptBack is = ap (λ (k : CallStage). said_end (turn.before ++ hand_at k c.at c.piece c.ended)) is ∙ none KeptBack refl is
    by_stage GivenUp is = ap (λ (k : CallStage). said_end (turn.before ++ hand_at k c.at c.piece c.ended)) is ∙ none GivenUp refl is
