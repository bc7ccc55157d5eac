-- The status by which a mirror failed has four bytes, where a data server's reply is of bytes.
use Rattle.std.proofs.Common.{◌≡◌, ℕ, ◌+◌, ◌<◌, ◌^◌, Bool, true, false, List, [], ◌∷◌, length, Option, Some, None, Result, Ok, Err, refl, sym, subst, arith, inl, inr}
use Rattle.std.specs.Prelude.{IsTrue, nat_eq, nat_le, nat_lt, ◌==◌, ◌&&◌, ◌||◌, not, slice_get, if◌then◌else◌}
use Rattle.std.specs.List.{list_any, list_all}
use Rattle.std.proofs.lemmas.Bool.{eqb-true, ltb-true}
use Rattle.ff_xdr.specs.declared.error.XdrError.{XdrError}
use Rattle.ff_xdr.specs.Form.{Form, Value, Fits, is_sound}
use Rattle.ff_xdr.specs.Reading.{reading, whole}
use Rattle.rpc_record.specs.Replies.{RpcReply, is_success}
use Rattle.nfs3_wire.specs.Status.{refusals}
use Rattle.nfs3_wire.specs.Create.{create_result}
use Rattle.nfs3_wire.specs.Setattr.{setattr_result}
use Rattle.nfs3_wire.specs.Write.{write_result}
use Rattle.nfs3_wire.specs.Commit.{commit_result}
use Rattle.nfs3_wire.specs.Read.{read_result}
use Rattle.cluster_model.specs.declared.ds_call.Shown.{Shown}
use Rattle.cluster_model.specs.declared.phase.LeftCause.TheVariants.{Error, Timeouts}
use Rattle.cluster_model.specs.DsCalls.{DsCallValue, DsReplyValue, Created, Set, Written, Committed, Bytes, NotSync, Failed}
use Rattle.cluster_model.specs.DsCalls as ds
use Rattle.cluster_model.specs.Fences.{odd_status}
use Rattle.ds_calls.specs.GivenReplies.{shown_in, shown_where, handle_fileid, created_as, create_answer, unsynced_answer, setattr_answer, write_answer, commit_answer, read_answer, odd_answer, answer_by, in_form, results_of_call, reply_of_call}
use Rattle.mirror_writer.specs.declared.call.WriterCall.{WriterCall}
use Rattle.mirror_writer.specs.declared.call.WriterCall.TheVariants.{NoCall, OutWrite, OutCommit}
use Rattle.mirror_writer.specs.declared.mirror.TheConstants.{ACCES, STALE}
use Rattle.mirror_writer.specs.declared.step.WriterStep.{WriterStep}
use Rattle.mirror_writer.specs.declared.step.WriterStep.TheVariants as step
use Rattle.mirror_writer.specs.Writers.{WriterMirror, WriterValue, WriterAfter, with_writer_call, with_writer_mirror, with_commit, open_committed, mirror_of_call, after_reply, answered_at, mirror_answered, call_answered, write_answered, commit_answered, after_commit, fails, refused_by, is_fenced_by, after_timeout, timed_out_at, mirror_timed_out, call_timed_out, timed_out_as}
use Rattle.client_answers.specs.ClientMirrors.{reported_status}
use Rattle.client_records.specs.ClientRecords.{AreBytes}
use Rattle.client_records.proofs.HeldBytes.{whole_holds}

-- ---- numbers of an enum

both : (a b : Bool) → (a && b) ≡ true → (a ≡ true) × (b ≡ true)
both true b is = (refl, is)
both false b is = absurd cc

-- one of numbers of four bytes
one_fits : (n : ℕ) (numbers : List ℕ) → list_all (λ m. nat_lt m (2 ^ 32)) numbers ≡ true → list_any (nat_eq n) numbers ≡ true → n < 2 ^ 32
one_fits n [] all is = absurd cc
one_fits n (m ∷ numbers) all is =
    let parts : (nat_lt m (2 ^ 32) ≡ true) × (list_all (λ m. nat_lt m (2 ^ 32)) numbers ≡ true) = both (nat_lt m (2 ^ 32)) (list_all (λ m. nat_lt m (2 ^ 32)) numbers) all in
    by_test (nat_eq n m) refl (ltb-true m (2 ^ 32) parts.0) (one_fits n numbers parts.1) is
  where
    by_test : (b : Bool) → nat_eq n m ≡ b → m < 2 ^ 32 → (list_any (nat_eq n) numbers ≡ true → n < 2 ^ 32) → (b || list_any (nat_eq n) numbers) ≡ true → n < 2 ^ 32
    by_test true same small further is = subst (λ (k : ℕ). k < 2 ^ 32) (sym (eqb-true n m same)) small
    by_test false same small further is = further is

refusal_fits : (status : ℕ) → list_any (nat_eq status) refusals ≡ true → status < 2 ^ 32
refusal_fits status is = one_fits status refusals refl is

-- ---- a data server's reply

abbrev pub IsStatusShort : DsReplyValue → Type 0
IsStatusShort (Failed status shown) = status < 2 ^ 32
IsStatusShort answer = Unit {0}

odd_short : IsStatusShort odd_answer
odd_short = omega arith

created_short : (o : Option ℕ) (shown : Shown) → IsStatusShort (created_as o shown)
created_short None shown = odd_short
created_short (Some fileid) shown = tt

create_short : (v : Value create_result) → Fits create_result v → IsStatusShort (create_answer v)
create_short (inl (Some file, (Some attributes, directory))) fits = created_short (handle_fileid file) (shown_in attributes)
create_short (inl (Some file, (None, directory))) fits = odd_short
create_short (inl (None, (attributes, directory))) fits = odd_short
create_short (inr (status, directory)) fits = refusal_fits status fits.0

unsynced_short : (o : Option Shown) → IsStatusShort (unsynced_answer o)
unsynced_short None = odd_short
unsynced_short (Some shown) = tt

setattr_short : (v : Value setattr_result) → Fits setattr_result v → IsStatusShort (setattr_answer v)
setattr_short (inl (before, after)) fits = tt
setattr_short (inr (status, (before, after))) fits = by_test (status == 10002)
  where
    by_test : (b : Bool) → IsStatusShort (if b then unsynced_answer (shown_where after) else Failed status (shown_where after))
    by_test true = unsynced_short (shown_where after)
    by_test false = refusal_fits status fits.0

write_short : (synced : Bool) (size : ℕ) (v : Value write_result) → Fits write_result v → IsStatusShort (write_answer synced size v)
write_short synced size (inl ((before, after), (count, (committed, verifier)))) fits = by_test (count == size && (not synced || committed == 2))
  where
    by_test : (b : Bool) → IsStatusShort (if b then Written (shown_where after) verifier else odd_answer)
    by_test true = tt
    by_test false = odd_short
write_short synced size (inr (status, (before, after))) fits = refusal_fits status fits.0

commit_short : (v : Value commit_result) → Fits commit_result v → IsStatusShort (commit_answer v)
commit_short (inl ((before, after), verifier)) fits = tt
commit_short (inr (status, (before, after))) fits = refusal_fits status fits.0

read_short : (asked : ℕ) (v : Value read_result) → Fits read_result v → IsStatusShort (read_answer asked v)
read_short asked (inl (attributes, (count, (eof, bytes)))) fits = by_test (count == length bytes && nat_le count asked)
  where
    by_test : (b : Bool) → IsStatusShort (if b then Bytes (shown_where attributes) eof bytes else odd_answer)
    by_test true = tt
    by_test false = odd_short
read_short asked (inr (status, attributes)) fits = refusal_fits status fits.0

form_short : (form : Form) → IsTrue (is_sound form) → (answer : Value form → DsReplyValue) → ((v : Value form) → Fits form v → IsStatusShort (answer v)) → (results : List ℕ) → AreBytes results → IsStatusShort (in_form form answer results)
form_short form sound answer each results are = by_read (whole results (reading form results 0)) refl
  where
    by_read : (r : Result (Value form) XdrError) → whole results (reading form results 0) ≡ r → IsStatusShort (answer_by answer r)
    by_read (Ok v) is = each v (whole_holds form sound results are v is).0
    by_read (Err e) is = odd_short

results_short : (call : DsCallValue) (results : List ℕ) → AreBytes results → IsStatusShort (results_of_call call results)
results_short (ds.Create name owner) results are = form_short create_result refl create_answer create_short results are
results_short (ds.SetAttr fileid owner guard) results are = form_short setattr_result refl setattr_answer setattr_short results are
results_short (ds.Write fileid at synced bytes) results are = form_short write_result refl (write_answer synced (length bytes)) (write_short synced (length bytes)) results are
results_short (ds.Commit fileid) results are = form_short commit_result refl commit_answer commit_short results are
results_short (ds.Read fileid at count) results are = form_short read_result refl (read_answer count) (read_short count) results are

pub reply_short : (call : DsCallValue) (reply : RpcReply) → AreBytes reply.results → IsStatusShort (reply_of_call call reply)
reply_short call reply are = by_test (is_success reply.stat)
  where
    by_test : (b : Bool) → IsStatusShort (if b then results_of_call call reply.results else odd_answer)
    by_test true = results_short call reply.results are
    by_test false = odd_short

-- ---- what a writer comes to

abbrev pub IsFailureShort : WriterStep → Type 0
IsFailureShort (step.Failed id cause) = reported_status cause < 2 ^ 32
IsFailureShort came = Unit {0}

abbrev IsAfterShort : WriterAfter → Type 0
IsAfterShort after = IsFailureShort after.step

module _ (w : WriterValue) where
  committing : (new : WriterValue) → IsAfterShort (after_commit new)
  committing new = by_test (open_committed new.mirrors)
    where
      by_test : (b : Bool) → IsAfterShort (if b then record { writer = record { cred = new.cred; taken = new.taken; mirrors = new.mirrors; wants_commit = false; is_fenced = new.is_fenced }; step = step.Committed } else record { writer = new; step = step.Waiting })
      by_test true = tt
      by_test false = tt

  module _ (place : ℕ) (m : WriterMirror) where
    odd_fails : IsAfterShort (fails w place m (Error odd_status))
    odd_fails = omega arith

    refused : (status : ℕ) → status < 2 ^ 32 → IsAfterShort (refused_by w place m status)
    refused status small = by_test ((status == ACCES) || (status == STALE))
      where
        by_test : (b : Bool) → IsAfterShort (if b then is_fenced_by w place m status else fails w place m (Error status))
        by_test true = tt
        by_test false = small

    writes : (n : ℕ) (r : DsReplyValue) → IsStatusShort r → IsAfterShort (write_answered w place m n r)
    writes n (Written shown verifier) short = tt
    writes n (Failed status shown) short = refused status short
    writes n (Created fileid shown) short = odd_fails
    writes n (Set shown) short = odd_fails
    writes n (Committed shown verifier) short = odd_fails
    writes n (Bytes shown eof bytes) short = odd_fails
    writes n (NotSync shown) short = odd_fails

    commits : (r : DsReplyValue) → IsStatusShort r → IsAfterShort (commit_answered w place m r)
    commits (Committed shown verifier) short = committing (with_writer_mirror w place (with_commit verifier m))
    commits (Failed status shown) short = refused status short
    commits (Created fileid shown) short = odd_fails
    commits (Set shown) short = odd_fails
    commits (Written shown verifier) short = odd_fails
    commits (Bytes shown eof bytes) short = odd_fails
    commits (NotSync shown) short = odd_fails

    answers : (r : DsReplyValue) → IsStatusShort r → (call : WriterCall) → IsAfterShort (call_answered w place m r call)
    answers r short NoCall = tt
    answers r short (OutWrite xid n timeouts) = writes n r short
    answers r short (OutCommit xid timeouts) = commits r short

    late : (timeouts : ℕ) (call : WriterCall) → IsAfterShort (timed_out_as w place m timeouts call)
    late timeouts call = by_test (timeouts == 2)
      where
        by_test : (b : Bool) → IsAfterShort (if b then fails w place m Timeouts else record { writer = with_writer_mirror w place (with_writer_call call m); step = step.Waiting })
        by_test true = omega arith
        by_test false = tt

    late_call : (call : WriterCall) → IsAfterShort (call_timed_out w place m call)
    late_call NoCall = tt
    late_call (OutWrite xid n timeouts) = late timeouts (OutWrite xid n (timeouts + 1))
    late_call (OutCommit xid timeouts) = late timeouts (OutCommit xid (timeouts + 1))

  reply_at_place : (r : DsReplyValue) → IsStatusShort r → (o : Option ℕ) → IsAfterShort (answered_at w r o)
  reply_at_place r short None = tt
  reply_at_place r short (Some place) = by_mirror (slice_get w.mirrors place)
    where
      by_mirror : (o : Option WriterMirror) → IsAfterShort (mirror_answered w r place o)
      by_mirror None = tt
      by_mirror (Some m) = answers place m r short m.call

  timeout_at_place : (o : Option ℕ) → IsAfterShort (timed_out_at w o)
  timeout_at_place None = tt
  timeout_at_place (Some place) = by_mirror (slice_get w.mirrors place)
    where
      by_mirror : (o : Option WriterMirror) → IsAfterShort (mirror_timed_out w place o)
      by_mirror None = tt
      by_mirror (Some m) = late_call place m m.call

  pub reply_failure : (xid : ℕ) (r : DsReplyValue) → IsStatusShort r → IsFailureShort (after_reply w xid r).step
  reply_failure xid r short = reply_at_place r short (mirror_of_call w xid)

  pub timeout_failure : (xid : ℕ) → IsFailureShort (after_timeout w xid).step
  timeout_failure xid = timeout_at_place (mirror_of_call w xid)
