-- By which answers of a data server a layout is lost.
use Rattle.std.proofs.Common.{◌≡◌, ℕ, ◌+◌, Bool, true, false, Option, Some, None, refl, ap, subst, inl, inr, ◌⊎◌}
use Rattle.std.specs.Prelude.{slice_get, ◌==◌, ◌||◌, if◌then◌else◌}
use Rattle.std.proofs.lemmas.Bool.{eqb-true}
use Rattle.cluster_model.specs.declared.ids.MirrorId.{MirrorId}
use Rattle.cluster_model.specs.declared.ds_call.Shown.{Shown}
use Rattle.cluster_model.specs.DsCalls.{DsReplyValue, Created, Set, Written, Committed, Bytes, NotSync, Failed}
use Rattle.mirror_writer.specs.declared.call.WriterCall.{WriterCall}
use Rattle.mirror_writer.specs.declared.call.WriterCall.TheVariants.{NoCall, OutWrite, OutCommit}
use Rattle.mirror_writer.specs.declared.step.WriterStep.{WriterStep}
use Rattle.mirror_writer.specs.declared.step.WriterStep.TheVariants as step
use Rattle.mirror_writer.specs.Writers.{WriterMirror, WriterValue, WriterAfter, with_writer_mirror, with_writer_call, with_commit, fails, is_fenced_by, refused_by, write_answered, after_commit, open_committed, commit_answered, call_answered, mirror_answered, answered_at, mirror_of_call, after_reply, timed_out_as, call_timed_out, mirror_timed_out, timed_out_at, after_timeout}
use Rattle.cluster_model.specs.declared.phase.LeftCause.TheVariants.{Error, Timeouts}
use Rattle.client_mds_calls.specs.MdsCalls as slot
use Rattle.client_sessions.specs.LayoutEnds.{IsFenceStatus}

-- ---- by which answer a layout is lost

pub record FencedBy (r : DsReplyValue) (status : ℕ) : Type 0 where
  pub shown : Option Shown
  pub is : r ≡ Failed status shown
  pub fence : IsFenceStatus status

abbrev fence_status : WriterStep → ℕ
fence_status (step.Fenced id status) = status
fence_status came = 0

either : (a b : Bool) → (a || b) ≡ true → (a ≡ true) ⊎ (b ≡ true)
either true b is = inl refl
either false b is = inr is

module _ (w : WriterValue) (id : MirrorId) (status : ℕ) where
  refused_fence : (place : ℕ) (m : WriterMirror) (number : ℕ) (shown : Option Shown) → (refused_by w place m number).step ≡ step.Fenced id status → FencedBy (Failed number shown) status
  refused_fence place m number shown = by_test ((number == 13) || (number == 70)) refl
    where
      same : step.Fenced m.id number ≡ step.Fenced id status → number ≡ status
      same is = ap fence_status is

      by_number : (number ≡ status) → (number ≡ 13) ⊎ (number ≡ 70) → FencedBy (Failed number shown) status
      by_number same fence = record { shown = shown; is = ap (λ (n : ℕ). Failed n shown) same; fence = subst IsFenceStatus same fence }

      by_either : (number ≡ status) → ((number == 13) ≡ true) ⊎ ((number == 70) ≡ true) → FencedBy (Failed number shown) status
      by_either same (inl is) = by_number same (inl (eqb-true number 13 is))
      by_either same (inr is) = by_number same (inr (eqb-true number 70 is))

      by_test : (b : Bool) → ((number == 13) || (number == 70)) ≡ b → (let a : WriterAfter = if b then is_fenced_by w place m number else fails w place m (Error number) in a.step ≡ step.Fenced id status → FencedBy (Failed number shown) status)
      by_test true so = λ is. by_either (same is) (either (number == 13) (number == 70) so)
      by_test false so = λ is. absurd (cc (is))

  write_fence : (place : ℕ) (m : WriterMirror) (n : ℕ) (r : DsReplyValue) → (write_answered w place m n r).step ≡ step.Fenced id status → FencedBy r status
  write_fence place m n (Written shown verifier) is = absurd (cc (is))
  write_fence place m n (Failed number shown) is = refused_fence place m number shown is
  write_fence place m n (Created fileid shown) is = absurd (cc (is))
  write_fence place m n (Set shown) is = absurd (cc (is))
  write_fence place m n (Committed shown verifier) is = absurd (cc (is))
  write_fence place m n (Bytes shown eof bytes) is = absurd (cc (is))
  write_fence place m n (NotSync shown) is = absurd (cc (is))

  none_committed : (v : WriterValue) → (after_commit v).step ≡ step.Fenced id status → ⊥
  none_committed v = by_test (open_committed v.mirrors)
    where
      by_test : (b : Bool) → (let a : WriterAfter = if b then record { writer = record { cred = v.cred; taken = v.taken; mirrors = v.mirrors; wants_commit = false; is_fenced = v.is_fenced }; step = step.Committed } else record { writer = v; step = step.Waiting } in a.step ≡ step.Fenced id status → ⊥)
      by_test true = λ is. absurd (cc (is))
      by_test false = λ is. absurd (cc (is))

  commit_fence : (place : ℕ) (m : WriterMirror) (r : DsReplyValue) → (commit_answered w place m r).step ≡ step.Fenced id status → FencedBy r status
  commit_fence place m (Committed shown verifier) is = absurd (none_committed (with_writer_mirror w place (with_commit verifier m)) is)
  commit_fence place m (Failed number shown) is = refused_fence place m number shown is
  commit_fence place m (Created fileid shown) is = absurd (cc (is))
  commit_fence place m (Set shown) is = absurd (cc (is))
  commit_fence place m (Written shown verifier) is = absurd (cc (is))
  commit_fence place m (Bytes shown eof bytes) is = absurd (cc (is))
  commit_fence place m (NotSync shown) is = absurd (cc (is))

  call_fence : (place : ℕ) (m : WriterMirror) (r : DsReplyValue) (call : WriterCall) → (call_answered w place m r call).step ≡ step.Fenced id status → FencedBy r status
  call_fence place m r NoCall is = absurd (cc (is))
  call_fence place m r (OutWrite xid n timeouts) is = write_fence place m n r is
  call_fence place m r (OutCommit xid timeouts) is = commit_fence place m r is

  mirror_fence : (r : DsReplyValue) (place : ℕ) (o : Option WriterMirror) → (mirror_answered w r place o).step ≡ step.Fenced id status → FencedBy r status
  mirror_fence r place None is = absurd (cc (is))
  mirror_fence r place (Some m) is = call_fence place m r m.call is

  pub reply_fence : (xid : ℕ) (r : DsReplyValue) → (after_reply w xid r).step ≡ step.Fenced id status → FencedBy r status
  reply_fence xid r = by_place (mirror_of_call w xid)
    where
      by_place : (o : Option ℕ) → (answered_at w r o).step ≡ step.Fenced id status → FencedBy r status
      by_place None = λ is. absurd (cc (is))
      by_place (Some place) = mirror_fence r place (slice_get w.mirrors place)

  again_none : (place : ℕ) (m : WriterMirror) (timeouts : ℕ) (call : WriterCall) → (timed_out_as w place m timeouts call).step ≡ step.Fenced id status → ⊥
  again_none place m timeouts call = by_test (timeouts == 2)
    where
      by_test : (b : Bool) → (let a : WriterAfter = if b then fails w place m Timeouts else record { writer = with_writer_mirror w place (with_writer_call call m); step = step.Waiting } in a.step ≡ step.Fenced id status → ⊥)
      by_test true = λ is. absurd (cc (is))
      by_test false = λ is. absurd (cc (is))

  late_call : (place : ℕ) (m : WriterMirror) (call : WriterCall) → (call_timed_out w place m call).step ≡ step.Fenced id status → ⊥
  late_call place m NoCall is = absurd (cc (is))
  late_call place m (OutWrite xid n timeouts) is = again_none place m timeouts (OutWrite xid n (timeouts + 1)) is
  late_call place m (OutCommit xid timeouts) is = again_none place m timeouts (OutCommit xid (timeouts + 1)) is

  late_mirror : (place : ℕ) (o : Option WriterMirror) → (mirror_timed_out w place o).step ≡ step.Fenced id status → ⊥
  late_mirror place None is = absurd (cc (is))
  late_mirror place (Some m) is = late_call place m m.call is

  pub timeout_none : (xid : ℕ) → (after_timeout w xid).step ≡ step.Fenced id status → ⊥
  timeout_none xid = by_place (mirror_of_call w xid)
    where
      by_place : (o : Option ℕ) → (timed_out_at w o).step ≡ step.Fenced id status → ⊥
      by_place None = λ is. absurd (cc (is))
      by_place (Some place) = late_mirror place (slice_get w.mirrors place)
