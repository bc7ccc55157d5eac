-- What a move makes of a copy and its notes: a predicate is kept by every move where it is in each of these cases.
use Rattle.std.proofs.Common.{◌≡◌, ℕ, ◌+◌, Bool, true, false, cond, List, [], ◌∷◌, Option, Some, None, refl, sym, ap, subst}
use Rattle.std.specs.Prelude.{◌&&◌, not, nat_lt, slice_get, fold}
use Rattle.std.proofs.lemmas.Bool.{and_parts, cond_both}
use Rattle.cluster_model.specs.declared.limits.TheConstants.{MAX_TIMEOUTS, PIECE_SIZE}
use Rattle.cluster_model.specs.declared.ds_call.Shown.{Shown}
use Rattle.cluster_model.specs.declared.call_stage.CallStage.{CallStage}
use Rattle.cluster_model.specs.declared.call_stage.CallStage.TheVariants.{Waits, Out, KeptOut, KeptBack, Done, GivenUp}
use Rattle.cluster_model.specs.declared.phase.LeftCause.TheVariants.{Error, Timeouts}
use Rattle.cluster_model.specs.DsCalls.{Read, DsReplyValue, Created, Set, Written, Committed, Bytes, NotSync, Failed}
use Rattle.cluster_model.specs.Fences.{waits, is_out, is_over, stage_at_tick, odd_status}
use Rattle.copy_rule.specs.declared.copy_target.CopyTarget.{CopyTarget}
use Rattle.copy_rule.specs.declared.copy_target.CopyStep.TheVariants.{Waiting}
use Rattle.copy_rule.specs.Copies.{CopyState, CopyCall, CopyAfter, TargetStep, with_target, with_read, with_piece, with_next, goes_on, have_answered, may_read_on, at_stage, target_call, target_call_at, call_from, waiting_at, next_call, target_of, target_answered, target_late, read_answered, read_late, is_long, source_fails, copy_then, stranger, step_at, step_from, by_read, on_reply, on_timeout}
use Rattle.resilver.specs.CopyLaws.{CopyMove, SendsOne, TakesReply, TakesTimeout, Ticks, CopyNote, WasSent, WasAnswered, WasLate, HasTicked, CopyRun, CopyCallOut, was_sent, sent_noted, copy_moved, Piece, piece_in}
use Rattle.resilver.proofs.Lists.{found_at, none_at}

-- the READ that is out
abbrev pub read_out : CopyState → CopyCallOut
read_out c = record { server = c.source.server; call = Read c.source.fileid c.at PIECE_SIZE; timeouts = 0 }

-- no call to a target has this number
abbrev pub NotAtTarget : CopyState → ℕ → Type 0
NotAtTarget c x = (place : ℕ) (t : CopyTarget) → slice_get c.targets place ≡ Some t → is_out x t.stage ≡ false

abbrev pub is_done : CallStage → Bool
is_done Waits = false
is_done (Out xid timeouts) = false
is_done (KeptOut xid) = false
is_done KeptBack = false
is_done Done = true
is_done GivenUp = false

pub record Cases (P : CopyState → List CopyNote → Type 0) (c : CopyState) (notes : List CopyNote) : Type 0 where
  -- a call goes to a target, or to the source
  pub sent : (place x : ℕ) (t : CopyTarget) → was_sent notes x ≡ false → slice_get c.targets place ≡ Some t → waits t.stage ≡ true
      → P (with_target c place (at_stage t (Out x 0))) (WasSent t.server x (target_call c.copier c.at c.piece t.name t.made) ∷ notes)
  pub reads : (x : ℕ) → was_sent notes x ≡ false → waits c.read ≡ true → may_read_on c ≡ true → P (with_read c (Out x 0)) (WasSent c.source.server x (Read c.source.fileid c.at PIECE_SIZE) ∷ notes)
  -- an answer or a timeout at a target
  pub answered : (place x : ℕ) (t : CopyTarget) (reply : DsReplyValue) → slice_get c.targets place ≡ Some t → is_out x t.stage ≡ true
      → P (with_target c place (target_answered t reply t.made).target) (WasAnswered x reply ∷ notes)
  pub late : (place x : ℕ) (t : CopyTarget) → slice_get c.targets place ≡ Some t → is_out x t.stage ≡ true → P (with_target c place (target_late t t.stage).target) (WasLate x ∷ notes)
  -- a piece of the source, another answer to the READ, and a timeout of it
  pub piece : (x : ℕ) (shown : Option Shown) (eof : Bool) (bytes : List ℕ) → NotAtTarget c x → is_out x c.read ≡ true → is_long c bytes ≡ false
      → P (with_piece c eof bytes) (WasAnswered x (Bytes shown eof bytes) ∷ notes)
  pub failed : (x : ℕ) (reply : DsReplyValue) → NotAtTarget c x → is_out x c.read ≡ true → piece_in reply (Some (read_out c)) ≡ [] → P (with_read c KeptBack) (WasAnswered x reply ∷ notes)
  pub late_read : (x : ℕ) (stage : CallStage) → NotAtTarget c x → is_out x c.read ≡ true → ((y : ℕ) → is_out y stage ≡ is_out y c.read) → is_done stage ≡ false
      → P (with_read c stage) (WasLate x ∷ notes)
  -- no call of this number is out
  pub stray : (x : ℕ) (reply : DsReplyValue) → NotAtTarget c x → is_out x c.read ≡ false → P c (WasAnswered x reply ∷ notes)
  pub stray_late : (x : ℕ) → NotAtTarget c x → is_out x c.read ≡ false → P c (WasLate x ∷ notes)
  pub ticked : P (with_read c (stage_at_tick c.read)) (HasTicked ∷ notes)

-- it is kept where the next piece is to be read
abbrev pub IsUnfinished : (P : CopyState → List CopyNote → Type 0) → Type 0
IsUnfinished P = (c : CopyState) (notes : List CopyNote) → is_over c.read ≡ true → c.ended ≡ false → have_answered c ≡ true → P c notes → P (with_next c) notes

not_false : (b : Bool) → not b ≡ true → b ≡ false
not_false false is = refl
not_false true is = absurd cc

module _ (P : CopyState → List CopyNote → Type 0) (cases : (c : CopyState) (notes : List CopyNote) → P c notes → Cases P c notes) (next : IsUnfinished P) where
  goes : (c : CopyState) (notes : List CopyNote) → P c notes → P (goes_on c) notes
  goes c notes p =
      cond_both (is_over c.read && not c.ended && have_answered c) (with_next c) c (λ (new : CopyState). P new notes)
      (λ is.
      let first = and_parts (is_over c.read && not c.ended) (have_answered c) is in
      let second = and_parts (is_over c.read) (not c.ended) first.0 in
      next c notes second.0 (not_false c.ended second.1) first.1 p)
      (λ is. p)

  module _ (c : CopyState) (notes : List CopyNote) (p : P c notes) where
    send_keeps : (xid : ℕ) → was_sent notes xid ≡ false → P (sent_noted (record { copy = c; notes = notes }) xid (next_call c xid)).copy (sent_noted (record { copy = c; notes = notes }) xid (next_call c xid)).notes
    send_keeps xid fresh = by_place (waiting_at c) refl
      where
        Kept : Option CopyCall → Type 0
        Kept call = P (sent_noted (record { copy = c; notes = notes }) xid call).copy (sent_noted (record { copy = c; notes = notes }) xid call).notes

        by_target : (place : ℕ) (t : CopyTarget) → slice_get c.targets place ≡ Some t → waits t.stage ≡ true
            → P (sent_noted (record { copy = c; notes = notes }) xid (target_call_at c xid place (slice_get c.targets place))).copy (sent_noted (record { copy = c; notes = notes }) xid (target_call_at c xid place (slice_get c.targets place))).notes
        by_target place t there waiting =
            subst (λ (o : Option CopyTarget). P (sent_noted (record { copy = c; notes = notes }) xid (target_call_at c xid place o)).copy (sent_noted (record { copy = c; notes = notes }) xid (target_call_at c xid place o)).notes)
            (sym there) ((cases c notes p).sent place xid t fresh there waiting)

        by_read' : (b : Bool) → (waits c.read && may_read_on c) ≡ b
            → P (sent_noted (record { copy = c; notes = notes }) xid (cond b (Some (record { copy = with_read c (Out xid 0); server = c.source.server; uid = 0; call = Read c.source.fileid c.at PIECE_SIZE })) None)).copy
            (sent_noted (record { copy = c; notes = notes }) xid (cond b (Some (record { copy = with_read c (Out xid 0); server = c.source.server; uid = 0; call = Read c.source.fileid c.at PIECE_SIZE })) None)).notes
        by_read' true is = let both = and_parts (waits c.read) (may_read_on c) is in (cases c notes p).reads xid fresh both.0 both.1
        by_read' false is = p

        by_place : (o : Option ℕ) → waiting_at c ≡ o → P (sent_noted (record { copy = c; notes = notes }) xid (call_from c xid o)).copy (sent_noted (record { copy = c; notes = notes }) xid (call_from c xid o)).notes
        by_place None is = by_read' (waits c.read && may_read_on c) refl
        by_place (Some place) is =
            let found = found_at (λ t. waits t.stage) c.targets place is in
            by_target place found.0 found.1 found.2

    -- a step of the target whose call has this number, or of the READ
    at_target : (xid : ℕ) (step : CopyTarget → TargetStep) (reads : CopyAfter) (new : List CopyNote)
        → ((place : ℕ) (t : CopyTarget) → slice_get c.targets place ≡ Some t → is_out xid t.stage ≡ true → P (with_target c place (step t).target) new)
        → (NotAtTarget c xid → P reads.copy new) → P (step_from c step reads (target_of c xid)).copy new
    at_target xid step reads new at none = by_found (target_of c xid) refl
      where
        by_place : (place : ℕ) (t : CopyTarget) → slice_get c.targets place ≡ Some t → is_out xid t.stage ≡ true → P (step_at c step place (slice_get c.targets place)).copy new
        by_place place t there out =
            subst (λ (o : Option CopyTarget). P (step_at c step place o).copy new) (sym there) (goes (with_target c place (step t).target) new (at place t there out))

        by_found : (o : Option ℕ) → target_of c xid ≡ o → P (step_from c step reads o).copy new
        by_found None is = none (λ place t there. none_at (λ k. is_out xid k.stage) c.targets place t is there)
        by_found (Some place) is = let found = found_at (λ t. is_out xid t.stage) c.targets place is in by_place place found.0 found.1 found.2

    -- the answer to the READ
    read_keeps : (xid : ℕ) (reply : DsReplyValue) → NotAtTarget c xid → is_out xid c.read ≡ true → P (read_answered c reply).copy (WasAnswered xid reply ∷ notes)
    read_keeps xid (Bytes shown eof bytes) away out = by_size (is_long c bytes) refl
      where
        by_size : (b : Bool) → is_long c bytes ≡ b
            → P (cond {A = CopyAfter} b (source_fails c KeptBack (Error odd_status)) (copy_then (with_piece c eof bytes) Waiting)).copy (WasAnswered xid (Bytes shown eof bytes) ∷ notes)
        by_size true is =
            (cases c notes p).failed xid (Bytes shown eof bytes) away out (ap (λ (b : Bool). cond {A = List Piece} b [] (record { at = c.at; bytes = bytes; eof = eof } ∷ [])) is)
        by_size false is = goes (with_piece c eof bytes) (WasAnswered xid (Bytes shown eof bytes) ∷ notes) ((cases c notes p).piece xid shown eof bytes away out is)
    read_keeps xid (Created fileid shown) away out = (cases c notes p).failed xid (Created fileid shown) away out refl
    read_keeps xid (Set shown) away out = (cases c notes p).failed xid (Set shown) away out refl
    read_keeps xid (Written shown verifier) away out = (cases c notes p).failed xid (Written shown verifier) away out refl
    read_keeps xid (Committed shown verifier) away out = (cases c notes p).failed xid (Committed shown verifier) away out refl
    read_keeps xid (NotSync shown) away out = (cases c notes p).failed xid (NotSync shown) away out refl
    read_keeps xid (Failed status shown) away out = (cases c notes p).failed xid (Failed status shown) away out refl

    reply_keeps : (xid : ℕ) (reply : DsReplyValue) → P (on_reply c xid reply).copy (WasAnswered xid reply ∷ notes)
    reply_keeps xid reply =
        at_target xid (λ t. target_answered t reply t.made) (by_read c xid (read_answered c reply)) (WasAnswered xid reply ∷ notes)
        (λ place t there out. (cases c notes p).answered place xid t reply there out)
        (λ away. cond_both (is_out xid c.read) (read_answered c reply) (stranger c) (λ (a : CopyAfter). P a.copy (WasAnswered xid reply ∷ notes))
        (λ out. read_keeps xid reply away out) (λ other. (cases c notes p).stray xid reply away other))

    -- a timeout of the READ
    late_keeps : (xid : ℕ) (s : CallStage) → c.read ≡ s → NotAtTarget c xid → is_out xid c.read ≡ true → P (read_late c s).copy (WasLate xid ∷ notes)
    late_keeps xid (Out own n) is away out = by_count (nat_lt (n + 1) MAX_TIMEOUTS)
      where
        by_count : (b : Bool) → P (cond {A = CopyAfter} b (record { copy = with_read c (Out own (n + 1)); step = Waiting }) (source_fails c (KeptOut own) Timeouts)).copy (WasLate xid ∷ notes)
        by_count true = (cases c notes p).late_read xid (Out own (n + 1)) away out (λ y. ap (is_out y) (sym is)) refl
        by_count false = (cases c notes p).late_read xid (KeptOut own) away out (λ y. ap (is_out y) (sym is)) refl
    late_keeps xid (KeptOut own) is away out = (cases c notes p).late_read xid c.read away out (λ y. refl) (ap is_done is)
    late_keeps xid Waits is away out = absurd (cc (out, is))
    late_keeps xid KeptBack is away out = absurd (cc (out, is))
    late_keeps xid Done is away out = absurd (cc (out, is))
    late_keeps xid GivenUp is away out = absurd (cc (out, is))

    timeout_keeps : (xid : ℕ) → P (on_timeout c xid).copy (WasLate xid ∷ notes)
    timeout_keeps xid =
        at_target xid (λ t. target_late t t.stage) (by_read c xid (read_late c c.read)) (WasLate xid ∷ notes)
        (λ place t there out. (cases c notes p).late place xid t there out)
        (λ away. cond_both (is_out xid c.read) (read_late c c.read) (stranger c) (λ (a : CopyAfter). P a.copy (WasLate xid ∷ notes))
        (λ out. late_keeps xid c.read refl away out) (λ other. (cases c notes p).stray_late xid away other))

  move_keeps : (run : CopyRun) (move : CopyMove) → P run.copy run.notes → P (copy_moved run move).copy (copy_moved run move).notes
  move_keeps run (SendsOne xid) p =
      cond_both (was_sent run.notes xid) run (sent_noted run xid (next_call run.copy xid)) (λ (r : CopyRun). P r.copy r.notes)
      (λ is. p) (λ fresh. send_keeps run.copy run.notes p xid fresh)
  move_keeps run (TakesReply xid reply) p = reply_keeps run.copy run.notes p xid reply
  move_keeps run (TakesTimeout xid) p = timeout_keeps run.copy run.notes p xid
  move_keeps run Ticks p = (cases run.copy run.notes p).ticked

  pub run_keeps : (moves : List CopyMove) (run : CopyRun) → P run.copy run.notes → P (fold copy_moved run moves).copy (fold copy_moved run moves).notes
  run_keeps [] run p = p
  run_keeps (move ∷ moves) run p = run_keeps moves (copy_moved run move) (move_keeps run move p)
