-- In every run of a fence a mirror is over just where the notes say so.
use Rattle.std.proofs.Common.{◌≡◌, ◌⊎◌, inl, inr, ℕ, ◌+◌, ◌<◌, Bool, true, false, ◌||◌, ◌&&◌, cond, eqb, ltb, List, [], ◌∷◌, ◌++◌, length, map, get_or, Option, Some, None, refl, sym, ap, subst, ◌∙◌, append-nil}
use Rattle.std.specs.Prelude.{◌≢◌, slice_get, slice_set, option_map, fold, position}
use Rattle.std.specs.List.{list_any}
use Rattle.std.proofs.lemmas.Bool.{eq-eqb, ne_eqb, cases_eq}
use Rattle.std.proofs.lemmas.List.Folds.{list_any-append}
use Rattle.std.proofs.lemmas.List.Quantifiers.{position-Some}
use Rattle.std.proofs.lemmas.Option.{slice_get-map, slice_get-get_or, same_Some, none-some}
use Rattle.cluster_model.specs.declared.ids.Mirror.{Mirror}
use Rattle.cluster_model.specs.declared.ids.MirrorId.{MirrorId}
use Rattle.cluster_model.specs.declared.phase.LeftCause.{LeftCause}
use Rattle.cluster_model.specs.declared.phase.LeftCause.TheVariants.{Unsynced, Timeouts}
use Rattle.cluster_model.specs.declared.ds_call.Shown.{Shown}
use Rattle.cluster_model.specs.declared.call_stage.CallStage.{CallStage}
use Rattle.cluster_model.specs.declared.call_stage.CallStage.TheVariants.{Waits, Out, KeptOut, KeptBack, Done, GivenUp}
use Rattle.cluster_model.specs.declared.fence_mirror.FenceMirror.{FenceMirror}
use Rattle.cluster_model.specs.declared.fence_mirror.FenceStep.TheVariants.{Again, Failed as HasFailed}
use Rattle.cluster_model.specs.DsCalls.{DsReplyValue, Created, Set, Written, Committed, Bytes, NotSync, Failed}
use Rattle.cluster_model.specs.Journal.{is_mirror}
use Rattle.cluster_model.specs.Fences.{FenceState, FenceCall, FenceAfter, MirrorStep, is_over, is_out, waits, stage_at_tick, max_unsynced, with_stage, having_seen, acknowledged, failed_by, out_of_sync, answered, stage_timed_out, timed_out, at_tick, dropped_if, to_fence, fence_of, waiting_at, outstanding_at, with_mirror, call_from, fence_call_at, next_call, step_at, step_from, on_reply, on_timeout, after_tick, without}
use Rattle.cluster_model.proofs.Elements.{slice_get-set_other, slice_get-set_same}
use Rattle.fence.specs.FenceLaws.{FenceMove, SendsOne, TakesReply, TakesTimeout, Ticks, Drops, FenceNote, Answered, Dropped, FenceRun, call_sent, sends_new, answer_noted, fence_moved, fence_run, acknowledges, ends_mirror, IsOverJustWhere}

-- ---- one mirror

-- it is over behind a step just where `ended`, and keeps its name
record Ends (m new : FenceMirror) (ended : Bool) : Type 0 where
  over : is_over new.stage ≡ ended
  id : new.id ≡ m.id

unsynced_again : (m : FenceMirror) → Ends m (out_of_sync m).mirror false
unsynced_again m = by_test (ltb (m.unsynced + 1) max_unsynced)
  where
    by_test : (t : Bool) → Ends m (cond {A = MirrorStep} t (record { mirror = record { id = m.id; seen = m.seen; unsynced = m.unsynced + 1; stage = Waits }; step = Again }) (failed_by m Unsynced)).mirror false
    by_test true = record { over = refl; id = refl }
    by_test false = record { over = refl; id = refl }

-- an answer to its call
answer_ends : (fresh : ℕ) (m : FenceMirror) (reply : DsReplyValue) → Ends m (answered fresh m reply).mirror (acknowledges fresh reply)
answer_ends fresh m (Set None) = record { over = refl; id = refl }
answer_ends fresh m (Set (Some shown)) = record { over = refl; id = refl }
answer_ends fresh m (NotSync shown) = by_test (eqb shown.owner.0 fresh)
  where
    by_test : (t : Bool) → Ends m (cond {A = MirrorStep} t (acknowledged (having_seen m (Some shown))) (out_of_sync (having_seen m (Some shown)))).mirror t
    by_test true = record { over = refl; id = refl }
    by_test false = let again = unsynced_again (having_seen m (Some shown)) in record { over = again.over; id = again.id }
answer_ends fresh m (Failed status None) = record { over = refl; id = refl }
answer_ends fresh m (Failed status (Some shown)) = record { over = refl; id = refl }
answer_ends fresh m (Created fileid shown) = record { over = refl; id = refl }
answer_ends fresh m (Written shown verifier) = record { over = refl; id = refl }
answer_ends fresh m (Committed shown verifier) = record { over = refl; id = refl }
answer_ends fresh m (Bytes shown eof bytes) = record { over = refl; id = refl }

-- a timeout ends nothing
timeout_ends : (m : FenceMirror) → Ends m (timed_out m).mirror (is_over m.stage)
timeout_ends m = by_stage m.stage refl
  where
    by_test : (xid timeouts : ℕ) (t : Bool) → Ends m (cond {A = MirrorStep} t (record { mirror = with_stage m (Out xid (timeouts + 1)); step = Again }) (record { mirror = with_stage m (KeptOut xid); step = HasFailed m.id Timeouts })).mirror false
    by_test xid timeouts true = record { over = refl; id = refl }
    by_test xid timeouts false = record { over = refl; id = refl }

    by_stage : (s : CallStage) → m.stage ≡ s → Ends m (stage_timed_out m s).mirror (is_over m.stage)
    by_stage (Out xid timeouts) is = subst (λ (b : Bool). Ends m (stage_timed_out m (Out xid timeouts)).mirror b) (sym (ap is_over is)) (by_test xid timeouts (ltb (timeouts + 1) 3))
    by_stage (KeptOut xid) is = record { over = refl; id = refl }
    by_stage Waits is = record { over = refl; id = refl }
    by_stage KeptBack is = record { over = refl; id = refl }
    by_stage Done is = record { over = refl; id = refl }
    by_stage GivenUp is = record { over = refl; id = refl }

-- nor does a tick
over_at_tick : (s : CallStage) → is_over (stage_at_tick s) ≡ is_over s
over_at_tick Waits = refl
over_at_tick (Out xid timeouts) = refl
over_at_tick (KeptOut xid) = refl
over_at_tick KeptBack = refl
over_at_tick Done = refl
over_at_tick GivenUp = refl

or_true : (b : Bool) → b || true ≡ true
or_true true = refl
or_true false = refl

or_false : (b : Bool) → b || false ≡ b
or_false true = refl
or_false false = refl

-- a mirror that is dropped is over
drop_ends : (id : MirrorId) (m : FenceMirror) → Ends m (dropped_if id m) (is_over m.stage || is_mirror m.id id)
drop_ends id m = by_test (is_mirror m.id id)
  where
    by_test : (t : Bool) → Ends m (cond {A = FenceMirror} t (with_stage m GivenUp) m) (is_over m.stage || t)
    by_test true = record { over = sym (or_true (is_over m.stage)); id = refl }
    by_test false = record { over = sym (or_false (is_over m.stage)); id = refl }

-- what is out, or waits, is not over
out_not_over : (xid : ℕ) (s : CallStage) → is_out xid s ≡ true → is_over s ≡ false
out_not_over xid (Out own timeouts) is = refl
out_not_over xid (KeptOut own) is = refl
out_not_over xid Waits is = absurd cc
out_not_over xid KeptBack is = absurd cc
out_not_over xid Done is = absurd cc
out_not_over xid GivenUp is = absurd cc

waits_not_over : (s : CallStage) → waits s ≡ true → is_over s ≡ false
waits_not_over Waits is = refl
waits_not_over (Out own timeouts) is = absurd cc
waits_not_over (KeptOut own) is = absurd cc
waits_not_over KeptBack is = absurd cc
waits_not_over Done is = absurd cc
waits_not_over GivenUp is = absurd cc

-- ---- notes

ended : ℕ → ℕ → MirrorId → List FenceNote → Bool
ended fresh place id notes = list_any (ends_mirror fresh place id) notes

one_more : (fresh place : ℕ) (id : MirrorId) (notes : List FenceNote) (note : FenceNote) → ended fresh place id (notes ++ note ∷ []) ≡ (ended fresh place id notes || ends_mirror fresh place id note)
unfolding ended
one_more fresh place id notes note =
    list_any-append (ends_mirror fresh place id) notes (note ∷ []) ∙ ap (λ b. list_any (ends_mirror fresh place id) notes || b) (or_false (ends_mirror fresh place id note))

-- ---- a run

-- the fence is to this uid, and each mirror of it is over just where the notes say so
record Told (fresh : ℕ) (run : FenceRun) : Type 0 where
  cred : run.fence.cred ≡ fresh
  over : (place : ℕ) (m : FenceMirror) → slice_get run.fence.mirrors place ≡ Some m → is_over m.stage ≡ ended fresh place m.id run.notes

-- where one mirror of a list was put anew, another one is as it was
module _ (fresh : ℕ) (f : FenceState) (notes : List FenceNote) (cred : f.cred ≡ fresh)
    (over : (place : ℕ) (m : FenceMirror) → slice_get f.mirrors place ≡ Some m → is_over m.stage ≡ ended fresh place m.id notes) where
  -- a mirror takes a step at its place, and this is noted of it
  put_told : (at : ℕ) (m new : FenceMirror) (b : Bool) (noted : List FenceNote) → slice_get f.mirrors at ≡ Some m → Ends m new b → b ≡ ended fresh at m.id noted
      → ((place : ℕ) (id : MirrorId) → place ≢ at → ended fresh place id noted ≡ ended fresh place id notes) → Told fresh (record { fence = with_mirror f at new; notes = noted })
  put_told at m new b noted found ends here others = record {
    cred = cred;
    over = λ place x there. by_place place x (cases_eq place at) there;
  }
    where
      at_it : (x : FenceMirror) → slice_get (slice_set f.mirrors at new) at ≡ Some x → is_over x.stage ≡ ended fresh at x.id noted
      at_it x there =
          let same : new ≡ x = same_Some new x (sym (slice_get-set_same f.mirrors at m new found) ∙ there) in
          subst (λ (y : FenceMirror). is_over y.stage ≡ ended fresh at y.id noted) same (ends.over ∙ here ∙ ap (λ (k : MirrorId). ended fresh at k noted) (sym ends.id))

      by_place : (place : ℕ) (x : FenceMirror) → (place ≡ at) ⊎ (place ≢ at) → slice_get (slice_set f.mirrors at new) place ≡ Some x → is_over x.stage ≡ ended fresh place x.id noted
      by_place place x (inl is) there = subst (λ (k : ℕ). slice_get (slice_set f.mirrors at new) k ≡ Some x → is_over x.stage ≡ ended fresh k x.id noted) (sym is) (at_it x) there
      by_place place x (inr other) there = over place x (sym (slice_get-set_other f.mirrors at place new other) ∙ there) ∙ sym (others place x.id other)

  -- nothing was put, and nothing that ends a mirror is noted
  kept_told : Told fresh (record { fence = f; notes = notes })
  kept_told = record { cred = cred; over = over }

  -- each mirror becomes what this makes of it
  all_told : (change : FenceMirror → FenceMirror) (noted : List FenceNote)
      → ((place : ℕ) (m : FenceMirror) → slice_get f.mirrors place ≡ Some m → Ends m (change m) (ended fresh place m.id noted)) → Told fresh (record { fence = record { cred = f.cred; mirrors = map change f.mirrors }; notes = noted })
  all_told change noted each = record {
    cred = cred;
    over = λ place x there. by_old place x (slice_get f.mirrors place) refl (sym (slice_get-map change f.mirrors place) ∙ there);
  }
    where
      by_old : (place : ℕ) (x : FenceMirror) (o : Option FenceMirror) → slice_get f.mirrors place ≡ o → option_map change o ≡ Some x → is_over x.stage ≡ ended fresh place x.id noted
      by_old place x None found is = absurd (none-some x is)
      by_old place x (Some m) found is =
          let e = each place m found in
          let same : change m ≡ x = same_Some (change m) x is in
          subst (λ (y : FenceMirror). is_over y.stage ≡ ended fresh place y.id noted) same (e.over ∙ ap (λ (k : MirrorId). ended fresh place k noted) (sym e.id))

-- the mirror that a search found passes its test
passes_at : (test : FenceMirror → Bool) (mirrors : List FenceMirror) (at : ℕ) (m : FenceMirror) → position test mirrors ≡ Some at → slice_get mirrors at ≡ Some m → test m ≡ true
passes_at test mirrors at m found there =
    let p = position-Some test mirrors at m found in
    let same : get_or mirrors at m ≡ m = same_Some (get_or mirrors at m) m (sym (slice_get-get_or mirrors at m p.0) ∙ there) in
    subst (λ (x : FenceMirror). test x ≡ true) same p.1

found_there : (test : FenceMirror → Bool) (mirrors : List FenceMirror) (at : ℕ) → position test mirrors ≡ Some at → slice_get mirrors at ≡ None → (d : FenceMirror) → ⊥
found_there test mirrors at found none d =
    let p = position-Some test mirrors at d found in
    none-some (get_or mirrors at d) (sym none ∙ slice_get-get_or mirrors at d p.0)

-- ---- a move

module _ (fresh : ℕ) (run : FenceRun) (told : Told fresh run) where
  no_note : (place at : ℕ) (id : MirrorId) (reply : DsReplyValue) → place ≢ at → ended fresh place id (run.notes ++ Answered at reply ∷ []) ≡ ended fresh place id run.notes
  no_note place at id reply other =
      one_more fresh place id run.notes (Answered at reply)
      ∙ ap (λ b. ended fresh place id run.notes || (b && acknowledges fresh reply)) (ne_eqb at place (λ e. other (sym e)))
      ∙ or_false (ended fresh place id run.notes)

  its_note : (at : ℕ) (m : FenceMirror) (reply : DsReplyValue) → slice_get run.fence.mirrors at ≡ Some m → is_over m.stage ≡ false
      → acknowledges fresh reply ≡ ended fresh at m.id (run.notes ++ Answered at reply ∷ [])
  its_note at m reply found open' =
      let none : ended fresh at m.id run.notes ≡ false = sym (told.over at m found) ∙ open' in
      sym (one_more fresh at m.id run.notes (Answered at reply)
      ∙ ap (λ b. b || ((eqb at at) && acknowledges fresh reply)) none
      ∙ ap (λ b. b && acknowledges fresh reply) (eq-eqb at at refl))

  reply_told : (xid : ℕ) (reply : DsReplyValue) → Told fresh (fence_moved run (TakesReply xid reply))
  reply_told xid reply = by_found (outstanding_at run.fence xid) refl
    where
      result : Option ℕ → FenceRun
      result found = record { fence = (step_from run.fence (λ m. answered run.fence.cred m reply) found).fence; notes = run.notes ++ answer_noted found reply }

      by_mirror : (at : ℕ) → outstanding_at run.fence xid ≡ Some at → (o : Option FenceMirror) → slice_get run.fence.mirrors at ≡ o
          → Told fresh (record { fence = (step_at run.fence (λ m. answered run.fence.cred m reply) at o).fence; notes = run.notes ++ Answered at reply ∷ [] })
      by_mirror at is None none = record {
        cred = told.cred;
        over = λ place x there. absurd (found_there (λ m. is_out xid m.stage) run.fence.mirrors at is none x);
      }
      by_mirror at is (Some m) found =
          put_told fresh run.fence run.notes told.cred told.over at m (answered run.fence.cred m reply).mirror (acknowledges fresh reply) (run.notes ++ Answered at reply ∷ []) found
          (subst (λ (u : ℕ). Ends m (answered u m reply).mirror (acknowledges fresh reply)) (sym told.cred) (answer_ends fresh m reply))
          (its_note at m reply found (out_not_over xid m.stage (passes_at (λ k. is_out xid k.stage) run.fence.mirrors at m is found)))
          (λ place id other. no_note place at id reply other)

      by_found : (o : Option ℕ) → outstanding_at run.fence xid ≡ o → Told fresh (fence_moved run (TakesReply xid reply))
      by_found None is =
          subst (λ (found : Option ℕ). Told fresh (result found)) (sym is)
          (subst (λ (l : List FenceNote). Told fresh (record { fence = run.fence; notes = l })) (sym (append-nil run.notes)) (kept_told fresh run.fence run.notes told.cred told.over))
      by_found (Some at) is =
          subst (λ (found : Option ℕ). Told fresh (result found)) (sym is)
          (by_mirror at is (slice_get run.fence.mirrors at) refl)

  timeout_told : (xid : ℕ) → Told fresh (fence_moved run (TakesTimeout xid))
  timeout_told xid = by_found (outstanding_at run.fence xid)
    where
      by_mirror : (at : ℕ) (o : Option FenceMirror) → slice_get run.fence.mirrors at ≡ o → Told fresh (record { fence = (step_at run.fence timed_out at o).fence; notes = run.notes })
      by_mirror at None none = kept_told fresh run.fence run.notes told.cred told.over
      by_mirror at (Some m) found =
          put_told fresh run.fence run.notes told.cred told.over at m (timed_out m).mirror (is_over m.stage) run.notes found (timeout_ends m) (told.over at m found) (λ place id other. refl)

      by_found : (o : Option ℕ) → Told fresh (record { fence = (step_from run.fence timed_out o).fence; notes = run.notes })
      by_found None = kept_told fresh run.fence run.notes told.cred told.over
      by_found (Some at) = by_mirror at (slice_get run.fence.mirrors at) refl

  send_told : (xid : ℕ) → Told fresh (fence_moved run (SendsOne xid))
  send_told xid = by_new (outstanding_at run.fence xid)
    where
      by_mirror : (at : ℕ) → waiting_at run.fence ≡ Some at → (o : Option FenceMirror) → slice_get run.fence.mirrors at ≡ o → Told fresh (record { fence = call_sent run.fence (fence_call_at run.fence xid at o); notes = run.notes })
      by_mirror at is None none = kept_told fresh run.fence run.notes told.cred told.over
      by_mirror at is (Some m) found =
          put_told fresh run.fence run.notes told.cred told.over at m (with_stage m (Out xid 0)) false run.notes found (record { over = refl; id = refl })
          (sym (waits_not_over m.stage (passes_at (λ k. waits k.stage) run.fence.mirrors at m is found)) ∙ told.over at m found) (λ place id other. refl)

      by_found : (o : Option ℕ) → waiting_at run.fence ≡ o → Told fresh (record { fence = call_sent run.fence (call_from run.fence xid o); notes = run.notes })
      by_found None is = kept_told fresh run.fence run.notes told.cred told.over
      by_found (Some at) is = by_mirror at is (slice_get run.fence.mirrors at) refl

      by_new : (o : Option ℕ) → Told fresh (sends_new run xid o)
      by_new None = by_found (waiting_at run.fence) refl
      by_new (Some place) = told

  tick_told : Told fresh (fence_moved run Ticks)
  tick_told = all_told fresh run.fence run.notes told.cred told.over at_tick run.notes (λ place m found. record { over = over_at_tick m.stage ∙ told.over place m found; id = refl })

  drop_told : (id : MirrorId) → Told fresh (fence_moved run (Drops id))
  drop_told id = all_told fresh run.fence run.notes told.cred told.over (dropped_if id) (run.notes ++ Dropped id ∷ []) (λ place m found.
      let e = drop_ends id m in
      record {
        over = e.over ∙ ap (λ b. b || is_mirror m.id id) (told.over place m found) ∙ sym (one_more fresh place m.id run.notes (Dropped id));
        id = e.id;
      })

  move_told : (move : FenceMove) → Told fresh (fence_moved run move)
  move_told (SendsOne xid) = send_told xid
  move_told (TakesReply xid reply) = reply_told xid reply
  move_told (TakesTimeout xid) = timeout_told xid
  move_told Ticks = tick_told
  move_told (Drops id) = drop_told id

-- ---- the law

run_told : (fresh : ℕ) (moves : List FenceMove) (run : FenceRun) → Told fresh run → Told fresh (fold fence_moved run moves)
run_told fresh [] run told = told
run_told fresh (move ∷ moves) run told = run_told fresh moves (fence_moved run move) (move_told fresh run told move)

start_told : (mirrors : List Mirror) (fresh : ℕ) → Told fresh (record { fence = fence_of mirrors fresh; notes = [] })
unfolding ended
start_told mirrors fresh = record {
  cred = refl;
  over = λ place x there. by_old place x (slice_get mirrors place) (sym (slice_get-map to_fence mirrors place) ∙ there);
}
  where
    none_ended : (place : ℕ) (id : MirrorId) → false ≡ ended fresh place id []
    none_ended place id = refl

    by_old : (place : ℕ) (x : FenceMirror) (o : Option Mirror) → option_map to_fence o ≡ Some x → is_over x.stage ≡ ended fresh place x.id []
    by_old place x None is = absurd (none-some x is)
    by_old place x (Some m) is = ap (λ (y : FenceMirror). is_over y.stage) (sym (same_Some (to_fence m) x is)) ∙ none_ended place x.id

pub over_just_where : (mirrors : List Mirror) (fresh : ℕ) (moves : List FenceMove) → IsOverJustWhere mirrors fresh moves
unfolding ended
over_just_where mirrors fresh moves = (run_told fresh moves (record { fence = fence_of mirrors fresh; notes = [] }) (start_told mirrors fresh)).over
