-- What holds of a read in every run of it.
use Rattle.std.proofs.Common.{◌≡◌, ℕ, ◌+◌, ◌<◌, Bool, true, false, cond, List, [], ◌∷◌, ◌++◌, length, Option, Some, None, refl, sym, ap, subst, ◌∙◌, arith, append-nil}
use Rattle.std.specs.Prelude.{slice_get, nat_lt, ◌==◌, fold, if◌then◌else◌}
use Rattle.std.proofs.lemmas.Bool.{eqb-true, eqb-false, eq-eqb, ne_eqb, ltb-true, ltb-false}
use Rattle.std.proofs.lemmas.Option.{same_Some, none-some}
use Rattle.cluster_model.specs.declared.ids.Mirror.{Mirror}
use Rattle.cluster_model.specs.declared.ids.MirrorId.{MirrorId}
use Rattle.cluster_model.specs.declared.phase.LeftCause.{LeftCause}
use Rattle.cluster_model.specs.declared.phase.LeftCause.TheVariants.{Error, Timeouts}
use Rattle.cluster_model.specs.declared.ds_call.Shown.{Shown}
use Rattle.cluster_model.specs.declared.call_stage.CallStage.{CallStage}
use Rattle.cluster_model.specs.declared.call_stage.CallStage.TheVariants.{Waits, Out, KeptOut, KeptBack, Done, GivenUp}
use Rattle.cluster_model.specs.DsCalls.{DsReplyValue, Created, Set, Written, Committed, Bytes, NotSync, Failed}
use Rattle.cluster_model.specs.Fences.{odd_status}
use Rattle.cluster_model.specs.Phases.{ids_of}
use Rattle.mds_io.specs.declared.read_end.Failure.{Failure}
use Rattle.mds_io.specs.declared.read_end.ReadEnd.TheVariants as end
use Rattle.mds_io.specs.Reads.{ReadState, ReadSends, ReadAfter, new_read, begun_again, goes_on, fails, sends_to, next_sent, answered, after_reply, after_timeout}
use Rattle.mds_io.specs.ReadLaws.{ReadMove, SendsOne, TakesReply, TakesTimeout, BeginsAgain, ReadNote, WasAnswered, WasLate, ReadRun, sent_noted, read_moved, read_run, OutRead, answered_once, late_once, read_out, error_of, failed_for, failed_by_answer, failed_by_timeout, failures_told, is_read_out, ids_failed, EndsAs, GivesBytes, IsNextRead, live_then, live_last, ReadLaw}
use Rattle.mds_io.proofs.Named.{Begins, next_named}
use Rattle.mds_io.proofs.ReadSteps.{out_as, IsOutAs, state_of, Stands, AfterSo, no_failure, has_bytes, one_fails}

flipped : (a b : ℕ) (t : Bool) → (a == b) ≡ t → (b == a) ≡ t
flipped a b true is = eq-eqb b a (sym (eqb-true a b is))
flipped a b false is = ne_eqb b a (λ same. eqb-false a b is (sym same))

module _ (live : List Mirror) (at count : ℕ) (failures : List Failure) (notes : List ReadNote) (told : failures ≡ failures_told notes) (named : Begins (ids_failed failures) (ids_of live)) where
  abbrev state : CallStage → ReadState
  state stage = state_of live at count failures stage

  abbrev AnsweredSo : ℕ → DsReplyValue → ReadAfter → Type 0
  AnsweredSo xid reply a = AfterSo live at count notes (WasAnswered xid reply ∷ notes) (Some reply) a

  abbrev LateSo : ℕ → ReadAfter → Type 0
  LateSo xid a = AfterSo live at count notes (WasLate xid ∷ notes) None a

  -- ---- an answer

  -- no READ is out
  idle_answer : (stage : CallStage) (xid : ℕ) (reply : DsReplyValue) → read_out notes ≡ None → IsOutAs live failures stage (answered_once xid (read_out notes)) → AnsweredSo xid reply (goes_on (state stage))
  idle_answer stage xid reply none out =
      no_failure live at count failures notes (WasAnswered xid reply ∷ notes) (Some reply) told named stage
      (ap (λ l. failures_told notes ++ l) (ap (failed_by_answer xid reply) none) ∙ append-nil (failures_told notes)) out

  -- it is the READ that is out
  module _ (m : Mirror) (own timeouts : ℕ) (found : slice_get live (length failures) ≡ Some m) (out : read_out notes ≡ Some (out_as m.id own timeouts)) where
    answer_gone : answered_once own (read_out notes) ≡ None
    answer_gone = ap (answered_once own) out ∙ ap (λ b. cond {A = Option OutRead} b None (Some (out_as m.id own timeouts))) (eq-eqb own own refl)

    answer_told : (reply : DsReplyValue) → failures_told (WasAnswered own reply ∷ notes) ≡ failures_told notes ++ failed_for (out_as m.id own timeouts) (error_of reply)
    answer_told reply =
        ap (λ l. failures_told notes ++ l) (ap (failed_by_answer own reply) out ∙ ap (λ b. cond b (failed_for (out_as m.id own timeouts) (error_of reply)) []) (eq-eqb own own refl))

    answer_fails : (reply : DsReplyValue) (cause : LeftCause) → error_of reply ≡ Some cause → AnsweredSo own reply (fails (state (Out own timeouts)) own cause (slice_get live (length failures)))
    answer_fails reply cause is =
        subst (λ (o : Option Mirror). AnsweredSo own reply (fails (state (Out own timeouts)) own cause o)) (sym found)
        (one_fails live at count failures notes (WasAnswered own reply ∷ notes) (Some reply) told named m (record { id = m.id; xid = own; cause = cause }) found refl
        (answer_told reply ∙ ap (λ e. failures_told notes ++ failed_for (out_as m.id own timeouts) e) is) answer_gone)

    own_answer : (reply : DsReplyValue) → AnsweredSo own reply (answered (state (Out own timeouts)) own reply)
    own_answer (Bytes shown eof bytes) =
        has_bytes live at count failures notes (WasAnswered own (Bytes shown eof bytes) ∷ notes) (Some (Bytes shown eof bytes)) told named shown eof bytes refl
        (answer_told (Bytes shown eof bytes) ∙ append-nil (failures_told notes)) answer_gone
    own_answer (Failed status shown) = answer_fails (Failed status shown) (Error status) refl
    own_answer (Created fileid shown) = answer_fails (Created fileid shown) (Error odd_status) refl
    own_answer (Set shown) = answer_fails (Set shown) (Error odd_status) refl
    own_answer (Written shown verifier) = answer_fails (Written shown verifier) (Error odd_status) refl
    own_answer (Committed shown verifier) = answer_fails (Committed shown verifier) (Error odd_status) refl
    own_answer (NotSync shown) = answer_fails (NotSync shown) (Error odd_status) refl

    -- it is of another number
    other_answer : (xid : ℕ) (reply : DsReplyValue) → timeouts < 3 → (own == xid) ≡ false → AnsweredSo xid reply (goes_on (state (Out own timeouts)))
    other_answer xid reply few is =
        no_failure live at count failures notes (WasAnswered xid reply ∷ notes) (Some reply) told named (Out own timeouts)
        (ap (λ l. failures_told notes ++ l) (ap (failed_by_answer xid reply) out ∙ ap (λ b. cond b (failed_for (out_as m.id own timeouts) (error_of reply)) []) (flipped own xid false is)) ∙ append-nil (failures_told notes))
        (m, found, ap (answered_once xid) out ∙ ap (λ b. cond {A = Option OutRead} b None (Some (out_as m.id own timeouts))) (flipped own xid false is), few)

    out_answer : (xid : ℕ) (reply : DsReplyValue) → timeouts < 3 → (b : Bool) → (own == xid) ≡ b → AnsweredSo xid reply (cond b (answered (state (Out own timeouts)) xid reply) (goes_on (state (Out own timeouts))))
    out_answer xid reply few true is = subst (λ (k : ℕ). AnsweredSo k reply (answered (state (Out own timeouts)) k reply)) (eqb-true own xid is) (own_answer reply)
    out_answer xid reply few false is = other_answer xid reply few is

  answer_so : (stage : CallStage) → IsOutAs live failures stage (read_out notes) → (xid : ℕ) (reply : DsReplyValue) → AnsweredSo xid reply (after_reply (state stage) xid reply)
  answer_so Waits out xid reply = idle_answer Waits xid reply out (ap (answered_once xid) out)
  answer_so Done out xid reply = idle_answer Done xid reply out (ap (answered_once xid) out)
  answer_so (Out own timeouts) (m, found, out, few) xid reply = out_answer m own timeouts found out xid reply few (own == xid) refl
  answer_so (KeptOut own) out xid reply = absurd out
  answer_so KeptBack out xid reply = absurd out
  answer_so GivenUp out xid reply = absurd out

  -- the bytes end it
  gives_so : (stage : CallStage) → IsOutAs live failures stage (read_out notes) → (xid : ℕ) (reply : DsReplyValue) → GivesBytes notes xid reply (after_reply (state stage) xid reply).end
  gives_so Waits out xid reply = λ shown eof bytes is. sym (ap (λ o. cond (is_read_out xid o) (Some (end.Bytes eof bytes)) None) out)
  gives_so Done out xid reply = λ shown eof bytes is. sym (ap (λ o. cond (is_read_out xid o) (Some (end.Bytes eof bytes)) None) out)
  gives_so (Out own timeouts) (m, found, out, few) xid reply = λ shown eof bytes is.
      ap (λ (r : DsReplyValue). (cond (own == xid) (answered (state (Out own timeouts)) xid r) (goes_on (state (Out own timeouts)))).end) is ∙ by_test shown eof bytes (own == xid) refl
    where
      by_test : (shown : Option Shown) (eof : Bool) (bytes : List ℕ) (b : Bool) → (own == xid) ≡ b
          → (cond b (answered (state (Out own timeouts)) xid (Bytes shown eof bytes)) (goes_on (state (Out own timeouts)))).end ≡ cond (is_read_out xid (read_out notes)) (Some (end.Bytes eof bytes)) None
      by_test shown eof bytes true is = sym (ap (λ o. cond (is_read_out xid o) (Some (end.Bytes eof bytes)) None) out ∙ ap (λ b. cond b (Some (end.Bytes eof bytes)) None) (flipped own xid true is))
      by_test shown eof bytes false is = sym (ap (λ o. cond (is_read_out xid o) (Some (end.Bytes eof bytes)) None) out ∙ ap (λ b. cond b (Some (end.Bytes eof bytes)) None) (flipped own xid false is))
  gives_so (KeptOut own) out xid reply = absurd out
  gives_so KeptBack out xid reply = absurd out
  gives_so GivenUp out xid reply = absurd out

  -- ---- a timeout

  idle_late : (stage : CallStage) (xid : ℕ) → read_out notes ≡ None → IsOutAs live failures stage (late_once xid (read_out notes)) → LateSo xid (goes_on (state stage))
  idle_late stage xid none out =
      no_failure live at count failures notes (WasLate xid ∷ notes) None told named stage
      (ap (λ l. failures_told notes ++ l) (ap (failed_by_timeout xid) none) ∙ append-nil (failures_told notes)) out

  module _ (m : Mirror) (own timeouts : ℕ) (found : slice_get live (length failures) ≡ Some m) (out : read_out notes ≡ Some (out_as m.id own timeouts)) (few : timeouts < 3) where
    abbrev later : Option OutRead
    later = if nat_lt (timeouts + 1) 3 then Some (out_as m.id own (timeouts + 1)) else None

    abbrev late_failures : List Failure
    late_failures = if timeouts + 1 == 3 then failed_for (out_as m.id own timeouts) (Some Timeouts) else []

    late_out : (xid : ℕ) (b : Bool) → (own == xid) ≡ b → late_once xid (read_out notes) ≡ cond b later (Some (out_as m.id own timeouts))
    late_out xid b is = ap (late_once xid) out ∙ ap (λ b. cond b later (Some (out_as m.id own timeouts))) (flipped own xid b is)

    late_told : (xid : ℕ) (b : Bool) → (own == xid) ≡ b → failures_told (WasLate xid ∷ notes) ≡ failures_told notes ++ cond b late_failures []
    late_told xid b is = ap (λ l. failures_told notes ++ l) (ap (failed_by_timeout xid) out ∙ ap (λ b. cond b late_failures []) (flipped own xid b is))

    own_late : (b : Bool) → nat_lt (timeouts + 1) 3 ≡ b → LateSo own (cond b (goes_on (state (Out own (timeouts + 1)))) (fails (state (Out own timeouts)) own Timeouts (slice_get live (length failures))))
    own_late true is =
        no_failure live at count failures notes (WasLate own ∷ notes) None told named (Out own (timeouts + 1))
        (late_told own true (eq-eqb own own refl)
        ∙ ap (λ b. failures_told notes ++ cond b (failed_for (out_as m.id own timeouts) (Some Timeouts)) []) (ne_eqb (timeouts + 1) 3 (λ three. omega (arith, ltb-true (timeouts + 1) 3 is, three)))
        ∙ append-nil (failures_told notes))
        (m, found, late_out own true (eq-eqb own own refl) ∙ ap (λ b. cond {A = Option OutRead} b (Some (out_as m.id own (timeouts + 1))) None) is, ltb-true (timeouts + 1) 3 is)
    own_late false is =
        subst (λ (o : Option Mirror). LateSo own (fails (state (Out own timeouts)) own Timeouts o)) (sym found)
        (one_fails live at count failures notes (WasLate own ∷ notes) None told named m (record { id = m.id; xid = own; cause = Timeouts }) found refl
        (late_told own true (eq-eqb own own refl)
        ∙ ap (λ b. failures_told notes ++ cond b (failed_for (out_as m.id own timeouts) (Some Timeouts)) []) (eq-eqb (timeouts + 1) 3 (omega (arith, few, ltb-false (timeouts + 1) 3 is))))
        (late_out own true (eq-eqb own own refl) ∙ ap (λ b. cond {A = Option OutRead} b (Some (out_as m.id own (timeouts + 1))) None) is))

    out_late : (xid : ℕ) (b : Bool) → (own == xid) ≡ b
        → LateSo xid (cond b (cond (nat_lt (timeouts + 1) 3) (goes_on (state (Out own (timeouts + 1)))) (fails (state (Out own timeouts)) xid Timeouts (slice_get live (length failures)))) (goes_on (state (Out own timeouts))))
    out_late xid true is =
        subst (λ (k : ℕ). LateSo k (cond (nat_lt (timeouts + 1) 3) (goes_on (state (Out own (timeouts + 1)))) (fails (state (Out own timeouts)) k Timeouts (slice_get live (length failures))))) (eqb-true own xid is)
        (own_late (nat_lt (timeouts + 1) 3) refl)
    out_late xid false is =
        no_failure live at count failures notes (WasLate xid ∷ notes) None told named (Out own timeouts)
        (late_told xid false is ∙ append-nil (failures_told notes)) (m, found, late_out xid false is, few)

  late_so : (stage : CallStage) → IsOutAs live failures stage (read_out notes) → (xid : ℕ) → LateSo xid (after_timeout (state stage) xid)
  late_so Waits out xid = idle_late Waits xid out (ap (late_once xid) out)
  late_so Done out xid = idle_late Done xid out (ap (late_once xid) out)
  late_so (Out own timeouts) (m, found, out, few) xid = out_late m own timeouts found out few xid (own == xid) refl
  late_so (KeptOut own) out xid = absurd out
  late_so KeptBack out xid = absurd out
  late_so GivenUp out xid = absurd out

  -- ---- a READ that goes out

  next_so : (stage : CallStage) → IsOutAs live failures stage (read_out notes) → (xid : ℕ) (s : ReadSends) → next_sent (state stage) xid ≡ Some s → IsNextRead live at count notes s
  next_so Waits out xid s is = by_turn (slice_get live (length failures)) refl is
    where
      by_turn : (o : Option Mirror) → slice_get live (length failures) ≡ o → sends_to (state Waits) xid o ≡ Some s → IsNextRead live at count notes s
      by_turn None found is = absurd (none-some s is)
      by_turn (Some m) found is = subst (λ (x : ReadSends). IsNextRead live at count notes x) (same_Some _ s is) (record {
        alone = out;
        asks = refl;
        others = subst (λ (l : List Failure). (behind : List MirrorId) × (ids_of live ≡ ids_failed l ++ m.id ∷ behind)) told (next_named live failures m found named);
      })
  next_so (Out own timeouts) out xid s is = absurd (none-some s is)
  next_so Done out xid s is = absurd (none-some s is)
  next_so (KeptOut own) out xid s is = absurd out
  next_so KeptBack out xid s is = absurd out
  next_so GivenUp out xid s is = absurd out

  stays : (stage : CallStage) → IsOutAs live failures stage (read_out notes) → Stands live at count (record { read = state stage; notes = notes })
  stays stage out = record { failures = failures; stage = stage; is = refl; good = record { told = told; named = named; out = out } }

  sent_so : (stage : CallStage) → IsOutAs live failures stage (read_out notes) → (xid : ℕ) → Stands live at count (sent_noted (record { read = state stage; notes = notes }) xid (next_sent (state stage) xid))
  sent_so Waits out xid = by_turn (slice_get live (length failures)) refl
    where
      by_turn : (o : Option Mirror) → slice_get live (length failures) ≡ o → Stands live at count (sent_noted (record { read = state Waits; notes = notes }) xid (sends_to (state Waits) xid o))
      by_turn None found = stays Waits out
      by_turn (Some m) found = record { failures = failures; stage = Out xid 0; is = refl; good = record { told = told; named = named; out = (m, found, refl, omega arith) } }
  sent_so (Out own timeouts) out xid = stays (Out own timeouts) out
  sent_so Done out xid = stays Done out
  sent_so (KeptOut own) out xid = absurd out
  sent_so KeptBack out xid = absurd out
  sent_so GivenUp out xid = absurd out

-- ---- runs

begun : (live : List Mirror) (at count : ℕ) → Stands live at count (record { read = new_read live at count; notes = [] })
begun live at count = record { failures = []; stage = Waits; is = refl; good = record { told = refl; named = (ids_of live, refl); out = refl } }

move_so : (live : List Mirror) (at count : ℕ) (run : ReadRun) (move : ReadMove) → Stands live at count run → Stands (live_then live move) at count (read_moved run move)
move_so live at count run (SendsOne xid) s =
    subst (λ (r : ReadState). Stands live at count (sent_noted (record { read = r; notes = run.notes }) xid (next_sent r xid))) (sym s.is)
    (sent_so live at count s.failures run.notes s.good.told s.good.named s.stage s.good.out xid)
move_so live at count run (TakesReply xid reply) s =
    subst (λ (r : ReadState). Stands live at count (record { read = (after_reply r xid reply).read; notes = WasAnswered xid reply ∷ run.notes })) (sym s.is)
    (answer_so live at count s.failures run.notes s.good.told s.good.named s.stage s.good.out xid reply).stands
move_so live at count run (TakesTimeout xid) s =
    subst (λ (r : ReadState). Stands live at count (record { read = (after_timeout r xid).read; notes = WasLate xid ∷ run.notes })) (sym s.is)
    (late_so live at count s.failures run.notes s.good.told s.good.named s.stage s.good.out xid).stands
move_so live at count run (BeginsAgain mirrors) s =
    subst (λ (r : ReadState). Stands mirrors at count (record { read = begun_again r mirrors; notes = [] })) (sym s.is) (begun mirrors at count)

run_so : (moves : List ReadMove) (live : List Mirror) (at count : ℕ) (run : ReadRun) → Stands live at count run → Stands (live_last live moves) at count (fold read_moved run moves)
run_so [] live at count run s = s
run_so (move ∷ moves) live at count run s = run_so moves (live_then live move) at count (read_moved run move) (move_so live at count run move s)

every_run : (live : List Mirror) (at count : ℕ) (moves : List ReadMove) → Stands (live_last live moves) at count (read_run live at count moves)
every_run live at count moves = run_so moves live at count (record { read = new_read live at count; notes = [] }) (begun live at count)

pub read_law : ReadLaw
read_law = record {
  failures = λ live at count moves.
      let s : Stands (live_last live moves) at count (read_run live at count moves) = every_run live at count moves in
      ap (λ (r : ReadState). r.failures) s.is ∙ s.good.told;
  answers = λ live at count moves xid reply.
      let s : Stands (live_last live moves) at count (read_run live at count moves) = every_run live at count moves in
      let notes : List ReadNote = (read_run live at count moves).notes in
      subst (λ (r : ReadState). EndsAs (live_last live moves) notes (WasAnswered xid reply ∷ notes) (Some reply) (after_reply r xid reply).end × GivesBytes notes xid reply (after_reply r xid reply).end) (sym s.is)
      ((answer_so (live_last live moves) at count s.failures notes s.good.told s.good.named s.stage s.good.out xid reply).ends, gives_so (live_last live moves) at count s.failures notes s.good.told s.good.named s.stage s.good.out xid reply);
  timeouts = λ live at count moves xid.
      let s : Stands (live_last live moves) at count (read_run live at count moves) = every_run live at count moves in
      let notes : List ReadNote = (read_run live at count moves).notes in
      subst (λ (r : ReadState). EndsAs (live_last live moves) notes (WasLate xid ∷ notes) None (after_timeout r xid).end) (sym s.is)
      (late_so (live_last live moves) at count s.failures notes s.good.told s.good.named s.stage s.good.out xid).ends;
  sends = λ live at count moves xid sent is.
      let s : Stands (live_last live moves) at count (read_run live at count moves) = every_run live at count moves in
      next_so (live_last live moves) at count s.failures (read_run live at count moves).notes s.good.told s.good.named s.stage s.good.out xid sent
      (ap (λ (r : ReadState). next_sent r xid) (sym s.is) ∙ is);
}
