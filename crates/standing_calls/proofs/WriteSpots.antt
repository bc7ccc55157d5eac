-- The places to which the calls of an own write go: its mirrors.
use Rattle.std.proofs.Common.{◌≡◌, ℕ, ◌+◌, Bool, true, false, List, [], ◌∷◌, Option, Some, None, refl, sym, ap, subst, ◌∙◌, inl, inr}
use Rattle.std.specs.Prelude.{◌==◌, ◌&&◌, ◌||◌, map, slice_get, slice_set}
use Rattle.std.specs.List.{list_any}
use Rattle.std.proofs.lemmas.Bool.{cond_both}
use Rattle.cluster_model.specs.declared.ids.Mirror.{Mirror}
use Rattle.cluster_model.specs.declared.phase.LeftCause.TheVariants.{Error, Timeouts}
use Rattle.cluster_model.specs.DsCalls.{DsCallValue, DsReplyValue, Created, Set, Written, Committed, Bytes, NotSync, Failed}
use Rattle.cluster_model.specs.Fences.{odd_status}
use Rattle.mds_io.specs.OwnWrites.{after_own_reply}
use Rattle.mirror_writer.specs.declared.call.WriterCall.{WriterCall}
use Rattle.mirror_writer.specs.declared.call.WriterCall.TheVariants.{NoCall, OutWrite, OutCommit}
use Rattle.mirror_writer.specs.declared.call.NextCall.{NextCall}
use Rattle.mirror_writer.specs.declared.call.NextCall.TheVariants.{SendsWrite, SendsCommit}
use Rattle.mirror_writer.specs.declared.mirror.TheConstants.{ACCES, STALE}
use Rattle.mirror_writer.specs.declared.step.WriterStep.TheVariants as step
use Rattle.mirror_writer.specs.Writers as writer
use Rattle.mirror_writer.specs.Writers.{WriterMirror, WriterValue, WriterAfter, WriterSends, is_call, with_writer_mirror}
use Rattle.mds_rule.specs.MdsStates.{CompoundRun, WaitingWrite}
use Rattle.mds_rule.specs.FileOps.{new_write}
use Rattle.mds_rule.specs.Answers.{is_writer_out}
use Rattle.mds_progress.specs.FirstOut.{is_called_at}
use Rattle.mds_walk.proofs.Lists.{none_there, first_there}
use Rattle.standing_calls.proofs.Spots.{Spot, is_number, is_at, has_at, has_number, is_spot_of, IsLeft, left_same, Less, thin_left, AreNone, none_left, map_set, first_passes, map_any, any_same, not_both}
use Rattle.standing_calls.proofs.OwnSpots.{item_left}
use Rattle.standing_calls.proofs.OwnSteps.{Taken, item_gone, never_out}

abbrev pub number_in : WriterCall → Option ℕ
number_in NoCall = None
number_in (OutWrite xid write timeouts) = Some xid
number_in (OutCommit xid timeouts) = Some xid

abbrev pub writer_spot : WriterMirror → Spot
writer_spot m = (m.id.server, number_in m.call)

abbrev pub writer_spots : WriterValue → List Spot
writer_spots w = map writer_spot w.mirrors

abbrev pub write_spots : Option WaitingWrite → List Spot
write_spots None = []
write_spots (Some w) = writer_spots w.writer

call_number : (n : ℕ) (call : WriterCall) → is_call n call ≡ is_number n (number_in call)
call_number n NoCall = refl
call_number n (OutWrite xid write timeouts) = refl
call_number n (OutCommit xid timeouts) = refl

pub called_at : (server n : ℕ) (mirrors : List WriterMirror) → list_any (is_called_at server n) mirrors ≡ has_at server n (map writer_spot mirrors)
called_at server n mirrors =
    any_same (is_called_at server n) (λ (m : WriterMirror). is_at server n (writer_spot m)) (λ m. ap (λ (b : Bool). (m.id.server == server) && b) (call_number n m.call)) mirrors ∙ sym (map_any (is_at server n) writer_spot mirrors)

called_any : (n : ℕ) (mirrors : List WriterMirror) → list_any (λ (m : WriterMirror). is_call n m.call) mirrors ≡ has_number n (map writer_spot mirrors)
called_any n mirrors =
    any_same (λ (m : WriterMirror). is_call n m.call) (λ (m : WriterMirror). is_number n (number_in m.call)) (λ m. call_number n m.call) mirrors ∙ sym (map_any (is_spot_of n) writer_spot mirrors)

pub writer_out : (n : ℕ) (o : Option WaitingWrite) → is_writer_out n o ≡ has_number n (write_spots o)
writer_out n None = refl
writer_out n (Some w) = called_any n w.writer.mirrors

-- ---- a new one

new_none : (n : ℕ) (live : List Mirror) → AreNone (map writer_spot (map (writer.queued n) (map writer.new_mirror live)))
new_none n [] = tt
new_none n (m ∷ live) = (refl, new_none n live)

pub new_left : (c : CompoundRun) (live : List Mirror) (cred at : ℕ) (bytes : List ℕ) (xs : List Spot) → IsLeft (write_spots (Some (new_write c live cred at bytes))) xs
new_left c live cred at bytes xs = none_left (write_spots (Some (new_write c live cred at bytes))) xs (new_none 0 live)

-- ---- a timeout

module _ (w : WriterValue) (place : ℕ) (m : WriterMirror) (there : slice_get w.mirrors place ≡ Some m) where
  put_left : (n : WriterMirror) → Less (writer_spot m) (writer_spot n) → IsLeft (writer_spots (with_writer_mirror w place n)) (writer_spots w)
  put_left n less = thin_left (writer_spots (with_writer_mirror w place n)) (writer_spots w) (item_left writer_spot w.mirrors place m n there less)

  again_left : (timeouts xid : ℕ) (again : WriterCall) → number_in m.call ≡ Some xid → number_in again ≡ Some xid → IsLeft (writer_spots (writer.timed_out_as w place m timeouts again).writer) (writer_spots w)
  again_left timeouts xid again was is =
      cond_both (timeouts == 2) (writer.fails w place m Timeouts) (record { writer = with_writer_mirror w place (writer.with_writer_call again m); step = step.Waiting }) (λ (a : WriterAfter). IsLeft (writer_spots a.writer) (writer_spots w))
      (λ last. put_left (writer.with_failure m) (inl refl)) (λ few. put_left (writer.with_writer_call again m) (inr (ap (λ (o : Option ℕ). (m.id.server, o)) (is ∙ sym was))))

  call_left : (call : WriterCall) → m.call ≡ call → IsLeft (writer_spots (writer.call_timed_out w place m call).writer) (writer_spots w)
  call_left NoCall is = left_same (writer_spots w)
  call_left (OutWrite xid write timeouts) is = again_left timeouts xid (OutWrite xid write (timeouts + 1)) (ap number_in is) refl
  call_left (OutCommit xid timeouts) is = again_left timeouts xid (OutCommit xid (timeouts + 1)) (ap number_in is) refl

mirror_left : (w : WriterValue) (place : ℕ) (o : Option WriterMirror) → slice_get w.mirrors place ≡ o → IsLeft (writer_spots (writer.mirror_timed_out w place o).writer) (writer_spots w)
mirror_left w place None there = left_same (writer_spots w)
mirror_left w place (Some m) there = call_left w place m there m.call refl

late_at : (w : WriterValue) (o : Option ℕ) → IsLeft (writer_spots (writer.timed_out_at w o).writer) (writer_spots w)
late_at w None = left_same (writer_spots w)
late_at w (Some place) = mirror_left w place (slice_get w.mirrors place) refl

pub write_late : (w : WriterValue) (xid : ℕ) → IsLeft (writer_spots (writer.after_timeout w xid).writer) (writer_spots w)
write_late w xid = late_at w (writer.mirror_of_call w xid)

-- ---- an answer

module _ (w : WriterValue) (xid place : ℕ) (m : WriterMirror) (there : slice_get w.mirrors place ≡ Some m) (out : is_call xid m.call ≡ true) where
  abbrev Gone : WriterAfter → Type 0
  Gone a = Taken xid (writer_spots w) (writer_spots a.writer)

  put_gone : (n : WriterMirror) → (writer_spot n).1 ≡ None → Taken xid (writer_spots w) (writer_spots (with_writer_mirror w place n))
  put_gone n none = item_gone writer_spot xid w.mirrors place m n there (sym (call_number xid m.call) ∙ out) none

  refused_gone : (status : ℕ) → Gone (writer.refused_by w place m status)
  refused_gone status =
      cond_both ((status == ACCES) || (status == STALE)) (writer.is_fenced_by w place m status) (writer.fails w place m (Error status)) (λ (a : WriterAfter). Gone a) (λ is. put_gone (writer.without_call m) refl) (λ off. put_gone (writer.with_failure m) refl)

  write_gone : (write : ℕ) (reply : DsReplyValue) → Gone (writer.write_answered w place m write reply)
  write_gone write (Written shown verifier) = put_gone (writer.with_write_answer write verifier m) refl
  write_gone write (Failed status shown) = refused_gone status
  write_gone write (Created fileid shown) = put_gone (writer.with_failure m) refl
  write_gone write (Set shown) = put_gone (writer.with_failure m) refl
  write_gone write (Committed shown verifier) = put_gone (writer.with_failure m) refl
  write_gone write (Bytes shown eof bytes) = put_gone (writer.with_failure m) refl
  write_gone write (NotSync shown) = put_gone (writer.with_failure m) refl

  commit_gone : (reply : DsReplyValue) → Gone (writer.commit_answered w place m reply)
  commit_gone (Committed shown verifier) =
      let n : WriterValue = with_writer_mirror w place (writer.with_commit verifier m) in
      cond_both (writer.open_committed n.mirrors) (record { writer = record { cred = n.cred; taken = n.taken; mirrors = n.mirrors; wants_commit = false; is_fenced = n.is_fenced }; step = step.Committed }) (record { writer = n; step = step.Waiting })
      (λ (a : WriterAfter). Gone a) (λ is. put_gone (writer.with_commit verifier m) refl) (λ off. put_gone (writer.with_commit verifier m) refl)
  commit_gone (Failed status shown) = refused_gone status
  commit_gone (Created fileid shown) = put_gone (writer.with_failure m) refl
  commit_gone (Set shown) = put_gone (writer.with_failure m) refl
  commit_gone (Written shown verifier) = put_gone (writer.with_failure m) refl
  commit_gone (Bytes shown eof bytes) = put_gone (writer.with_failure m) refl
  commit_gone (NotSync shown) = put_gone (writer.with_failure m) refl

  call_gone : (reply : DsReplyValue) (call : WriterCall) → m.call ≡ call → Gone (writer.call_answered w place m reply call)
  call_gone reply NoCall is = absurd (not_both (sym out ∙ ap (is_call xid) is))
  call_gone reply (OutWrite own write timeouts) is = write_gone write reply
  call_gone reply (OutCommit own timeouts) is = commit_gone reply

mirror_gone : (w : WriterValue) (xid : ℕ) (reply : DsReplyValue) (place : ℕ) → writer.mirror_of_call w xid ≡ Some place → (o : Option WriterMirror) → slice_get w.mirrors place ≡ o
    → Taken xid (writer_spots w) (writer_spots (writer.mirror_answered w reply place o).writer)
mirror_gone w xid reply place first None there = absurd (first_there (λ (m : WriterMirror). is_call xid m.call) w.mirrors place first there)
mirror_gone w xid reply place first (Some m) there = call_gone w xid place m there (first_passes (λ (m : WriterMirror). is_call xid m.call) w.mirrors place m first there) reply m.call refl

gone_at : (w : WriterValue) (xid : ℕ) (reply : DsReplyValue) (o : Option ℕ) → writer.mirror_of_call w xid ≡ o → Taken xid (writer_spots w) (writer_spots (writer.answered_at w reply o).writer)
gone_at w xid reply None first = never_out xid (writer_spots w) (sym (called_any xid w.mirrors) ∙ none_there (λ (m : WriterMirror). is_call xid m.call) w.mirrors first)
gone_at w xid reply (Some place) first = mirror_gone w xid reply place first (slice_get w.mirrors place) refl

after_gone : (w : WriterValue) (xid : ℕ) (reply : DsReplyValue) → Taken xid (writer_spots w) (writer_spots (writer.after_reply w xid reply).writer)
after_gone w xid reply = gone_at w xid reply (writer.mirror_of_call w xid) refl

pub write_taken : (w : WriterValue) (xid : ℕ) (reply : DsReplyValue) → Taken xid (writer_spots w) (writer_spots (after_own_reply w xid reply).writer)
write_taken w xid (Failed status shown) = after_gone w xid (Failed odd_status shown)
write_taken w xid (Created fileid shown) = after_gone w xid (Created fileid shown)
write_taken w xid (Set shown) = after_gone w xid (Set shown)
write_taken w xid (Written shown verifier) = after_gone w xid (Written shown verifier)
write_taken w xid (Committed shown verifier) = after_gone w xid (Committed shown verifier)
write_taken w xid (Bytes shown eof bytes) = after_gone w xid (Bytes shown eof bytes)
write_taken w xid (NotSync shown) = after_gone w xid (NotSync shown)

-- ---- a call goes out

pub record WriteGoes (w : WriterValue) (xid : ℕ) (c : WriterSends) : Type 0 where
  pub place : ℕ
  pub set : writer_spots c.writer ≡ slice_set (writer_spots w) place (c.id.server, Some xid)

abbrev MayGo : WriterValue → ℕ → Option WriterSends → Type 0
MayGo w xid None = Unit {0}
MayGo w xid (Some c) = WriteGoes w xid c

out_spot : (xid : ℕ) (m : WriterMirror) (next : NextCall) → writer_spot (writer.with_out xid next m) ≡ (m.id.server, Some xid)
out_spot xid m (SendsWrite n) = refl
out_spot xid m SendsCommit = refl

as_goes : (w : WriterValue) (xid place : ℕ) (m : WriterMirror) (next : NextCall) (o : Option DsCallValue) → MayGo w xid (writer.sends_as w xid place m next o)
as_goes w xid place m next None = tt
as_goes w xid place m next (Some call) = record {
  place = place;
  set = map_set writer_spot w.mirrors place (writer.with_out xid next m) ∙ ap (λ (p : Spot). slice_set (writer_spots w) place p) (out_spot xid m next);
}

next_goes : (w : WriterValue) (xid place : ℕ) (m : WriterMirror) (o : Option NextCall) → MayGo w xid (writer.sends_next w xid place m o)
next_goes w xid place m None = tt
next_goes w xid place m (Some next) = as_goes w xid place m next (writer.call_for w m.id next)

to_goes : (w : WriterValue) (xid place : ℕ) (o : Option WriterMirror) → MayGo w xid (writer.sends_to w xid place o)
to_goes w xid place None = tt
to_goes w xid place (Some m) = next_goes w xid place m (writer.next_at w.wants_commit m)

at_goes : (w : WriterValue) (xid : ℕ) (o : Option ℕ) → MayGo w xid (writer.sends_at w xid o)
at_goes w xid None = tt
at_goes w xid (Some place) = to_goes w xid place (slice_get w.mirrors place)

pub write_goes : (w : WriterValue) (xid : ℕ) (c : WriterSends) → writer.next_sent w xid ≡ Some c → WriteGoes w xid c
write_goes w xid c is = subst (MayGo w xid) is (at_goes w xid (writer.next_place w))
