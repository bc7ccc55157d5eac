-- What a call, an answer and a timeout leave of how a layout's writer is.
use Rattle.client_progress.proofs.FlagLists.{all_set, covers}
use Rattle.client_progress.proofs.Fits.{not_both, IsUncovered, WriterFits, IsSound}
use Rattle.std.proofs.Common.{◌≡◌, ℕ, ◌≤◌, Bool, true, false, List, length, Option, Some, None, refl, sym, ap, subst, ◌∙◌, inl, inr, ◌⊎◌}
use Rattle.std.specs.Prelude.{slice_get, slice_set, ◌==◌, ◌||◌, if◌then◌else◌}
use Rattle.std.specs.List.{list_all, find}
use Rattle.std.proofs.lemmas.Option.{none-some}
use Rattle.nfs4_types.specs.declared.ids.DeviceId.{DeviceId}
use Rattle.device_addr.specs.declared.net_addr.NetAddr.{NetAddr}
use Rattle.cluster_model.specs.declared.ids.Mirror.{Mirror}
use Rattle.cluster_model.specs.declared.ids.MirrorId.{MirrorId}
use Rattle.cluster_model.specs.declared.phase.LeftCause.{LeftCause}
use Rattle.cluster_model.specs.declared.phase.LeftCause.TheVariants.{Error, Timeouts}
use Rattle.cluster_model.specs.DsCalls.{DsCallValue, DsReplyValue, Commit, Created, Set, Written, Committed, Bytes, NotSync, Failed}
use Rattle.cluster_model.specs.Fences.{odd_status}
use Rattle.mirror_writer.specs.declared.call.WriterCall.{WriterCall}
use Rattle.mirror_writer.specs.declared.call.WriterCall.TheVariants.{NoCall, OutWrite, OutCommit}
use Rattle.mirror_writer.specs.declared.call.NextCall.{NextCall}
use Rattle.mirror_writer.specs.declared.call.NextCall.TheVariants.{SendsWrite, SendsCommit}
use Rattle.mirror_writer.specs.declared.step.WriterStep.{WriterStep}
use Rattle.mirror_writer.specs.declared.step.WriterStep.TheVariants as step
use Rattle.mirror_writer.specs.Writers.{WriterMirror, WriterValue, WriterSends, WriterAfter, with_out, with_write_answer, with_commit, with_failure, without_call, with_writer_call, with_writer_mirror, with_writer_mirrors, is_covered, is_committed, open_committed, is_call, mirror_of_call, after_reply, answered_at, mirror_answered, call_answered, write_answered, commit_answered, after_commit, is_stranger, fails, refused_by, is_fenced_by, after_timeout, timed_out_at, mirror_timed_out, call_timed_out, timed_out_as, next_sent}
use Rattle.mirror_writer.specs.Outstanding.{OutCall, out_at_mirror, out_at, is_covered_everywhere}
use Rattle.client_answers.specs.ClientMirrors.{is_commit}
use Rattle.client_state.specs.declared.stage.LayoutStage.{LayoutStage}
use Rattle.client_state.specs.ClientSends.{ClientSend, CallsServer}
use Rattle.client_laws.specs.ClientHistory.{HistoryItem, Sends, HasItem}
use Rattle.client_laws.proofs.Later.{every_map}
use Rattle.client_laws.proofs.NextSent.{Sending, sending}
use Rattle.client_laws.proofs.Places.{at_set, map_set, Found, found, position_passes, same_number}
use Rattle.client_laws.proofs.Stands.{CallStands, CommitItem, WriterStands, NumbersStand, is_settled_there}
use Rattle.client_laws.proofs.WriterMoves.{out_sent}

-- ---- a mirror that has failed as little, and covers as much

module _ (w : WriterValue) (place : ℕ) (m new : WriterMirror) (there : slice_get w.mirrors place ≡ Some m) (id_is : new.id ≡ m.id) (failed_is : new.has_failed ≡ m.has_failed) (covered_is : new.covered ≡ m.covered) where
  pub same_covers : (n : ℕ) → list_all (covers n) (slice_set w.mirrors place new) ≡ list_all (covers n) w.mirrors
  same_covers n = all_set (covers n) w.mirrors place m new there (ap (λ (l : List Bool). is_flag l) covered_is)
    where
      is_flag : List Bool → Bool
      is_flag l = covers n (record m { covered = l })

  settled_is : is_settled_there new ≡ is_settled_there m
  settled_is = ap (λ b. b || is_committed new) failed_is ∙ ap (λ (l : List Bool). m.has_failed || list_all is_covered l) covered_is

  pub same_settled : open_committed (slice_set w.mirrors place new) ≡ open_committed w.mirrors
  same_settled = all_set is_settled_there w.mirrors place m new there settled_is

  pub same_sound : IsSound w.mirrors → IsSound (slice_set w.mirrors place new)
  same_sound sound = at_set (λ k. k.has_failed ≡ false) w.mirrors place new sound (failed_is ∙ sound place m there)

  pub set_fits : (devices : List (DeviceId × NetAddr)) (mirrors : List Mirror) (untold : List ℕ) (stage : LayoutStage) → WriterFits devices mirrors w untold stage → WriterFits devices mirrors (with_writer_mirrors w (slice_set w.mirrors place new)) untold stage
  set_fits devices mirrors untold stage fits = record {
    apart = fits.apart;
    some = subst (λ (ids : List MirrorId). 1 ≤ length ids) (sym (map_set (λ (k : WriterMirror). k.id) w.mirrors place m new there id_is)) fits.some;
    unfenced = fits.unfenced;
    sizes = at_set (λ k. length k.covered ≡ length w.taken) w.mirrors place new fits.sizes (ap (λ (l : List Bool). length l) covered_is ∙ fits.sizes place m there);
    wanted = λ ends. by_wish (fits.wanted ends);
    untold_fit = every_map (IsUncovered w) (IsUncovered (with_writer_mirrors w (slice_set w.mirrors place new))) (λ n is. (is.0, same_covers n ∙ is.1)) untold fits.untold_fit;
    known = fits.known;
  }
    where
      by_wish : (w.wants_commit ≡ true) ⊎ (open_committed w.mirrors ≡ true) → (w.wants_commit ≡ true) ⊎ (open_committed (slice_set w.mirrors place new) ≡ true)
      by_wish (inl wants) = inl wants
      by_wish (inr all) = inr (same_settled ∙ all)

-- ---- a call goes out

-- the writer, its mirrors and its wish
pub record SentFits (devices : List (DeviceId × NetAddr)) (mirrors : List Mirror) (w new : WriterValue) (untold : List ℕ) (stage : LayoutStage) : Type 0 where
  pub fits : WriterFits devices mirrors w untold stage → WriterFits devices mirrors new untold stage
  pub sound : IsSound w.mirrors → IsSound new.mirrors
  pub wants : new.wants_commit ≡ w.wants_commit
  pub settled : open_committed new.mirrors ≡ open_committed w.mirrors

pub sent_fits : (devices : List (DeviceId × NetAddr)) (mirrors : List Mirror) (w : WriterValue) (untold : List ℕ) (stage : LayoutStage) (xid : ℕ) (s : WriterSends) → next_sent w xid ≡ Some s → SentFits devices mirrors w s.writer untold stage
sent_fits devices mirrors w untold stage xid s is =
    let how : Sending w xid s = sending w xid s is in
    subst (λ (x : WriterValue). SentFits devices mirrors w x untold stage) (sym how.writer_is) (by_next how.place how.mirror how.found how.next)
  where
    by_next : (place : ℕ) (m : WriterMirror) → slice_get w.mirrors place ≡ Some m → (next : NextCall) → SentFits devices mirrors w (with_writer_mirrors w (slice_set w.mirrors place (with_out xid next m))) untold stage
    by_next place m there (SendsWrite n) = record {
      fits = set_fits w place m (with_out xid (SendsWrite n) m) there refl refl refl devices mirrors untold stage;
      sound = same_sound w place m (with_out xid (SendsWrite n) m) there refl refl refl;
      wants = refl;
      settled = same_settled w place m (with_out xid (SendsWrite n) m) there refl refl refl;
    }
    by_next place m there SendsCommit = record {
      fits = set_fits w place m (with_out xid SendsCommit m) there refl refl refl devices mirrors untold stage;
      sound = same_sound w place m (with_out xid SendsCommit m) there refl refl refl;
      wants = refl;
      settled = same_settled w place m (with_out xid SendsCommit m) there refl refl refl;
    }

-- ---- an answer, and a timeout

abbrev pub is_fenced_step : WriterStep → Bool
is_fenced_step step.Stranger = false
is_fenced_step step.Waiting = false
is_fenced_step step.Committed = false
is_fenced_step (step.Failed id cause) = false
is_fenced_step (step.Fenced id status) = true

abbrev pub is_failed_step : WriterStep → Bool
is_failed_step step.Stranger = false
is_failed_step step.Waiting = false
is_failed_step step.Committed = false
is_failed_step (step.Failed id cause) = true
is_failed_step (step.Fenced id status) = false

-- the writer goes on, and the writes that are covered by now are told
abbrev pub is_told_step : WriterStep → Bool
is_told_step step.Stranger = false
is_told_step step.Waiting = true
is_told_step step.Committed = true
is_told_step (step.Failed id cause) = false
is_told_step (step.Fenced id status) = false

-- A writer is fenced where it says so; its wish ends where all is committed; a COMMIT alone covers; and a mirror fails where it says so.
pub record AfterGoes (commit : Bool) (w : WriterValue) (after : WriterAfter) : Type 0 where
  pub fenced : is_fenced_step after.step ≡ false → after.writer.is_fenced ≡ w.is_fenced
  pub wants : (after.writer.wants_commit ≡ w.wants_commit) ⊎ (open_committed after.writer.mirrors ≡ true)
  pub covered : ((commit ≡ true) × (is_told_step after.step ≡ true)) ⊎ ((n : ℕ) → is_covered_everywhere after.writer n ≡ is_covered_everywhere w n)
  pub sound : is_failed_step after.step ≡ false → IsSound w.mirrors → IsSound after.writer.mirrors

module _ (commit : Bool) (w : WriterValue) where
  stranger_goes : AfterGoes commit w (is_stranger w)
  stranger_goes = record { fenced = λ is. refl; wants = inl refl; covered = inr (λ n. refl); sound = λ is all. all }

  module _ (place : ℕ) (m : WriterMirror) (there : slice_get w.mirrors place ≡ Some m) where
    -- it has as many flags set, and goes on
    waits_goes : (new : WriterMirror) → new.id ≡ m.id → new.has_failed ≡ m.has_failed → new.covered ≡ m.covered → AfterGoes commit w (record { writer = with_writer_mirror w place new; step = step.Waiting })
    waits_goes new id failed covered = record {
      fenced = λ is. refl;
      wants = inl refl;
      covered = inr (same_covers w place m new there id failed covered);
      sound = λ is all. same_sound w place m new there id failed covered all;
    }

    fails_goes : (cause : LeftCause) → AfterGoes commit w (fails w place m cause)
    fails_goes cause = record {
      fenced = λ is. refl;
      wants = inl refl;
      covered = inr (λ n. all_set (covers n) w.mirrors place m (with_failure m) there refl);
      sound = λ is all. absurd (not_both is);
    }

    refused_goes : (status : ℕ) → AfterGoes commit w (refused_by w place m status)
    refused_goes status = by_test ((status == 13) || (status == 70))
      where
        by_test : (b : Bool) → AfterGoes commit w (if b then is_fenced_by w place m status else fails w place m (Error status))
        by_test true = record {
          fenced = λ is. absurd (not_both is);
          wants = inl refl;
          covered = inr (same_covers w place m (without_call m) there refl refl refl);
          sound = λ is all. same_sound w place m (without_call m) there refl refl refl all;
        }
        by_test false = fails_goes (Error status)

    written_goes : (n : ℕ) (r : DsReplyValue) → AfterGoes commit w (write_answered w place m n r)
    written_goes n (Written shown v) = waits_goes (with_write_answer n v m) refl refl refl
    written_goes n (Failed status shown) = refused_goes status
    written_goes n (Created fileid shown) = fails_goes (Error odd_status)
    written_goes n (Set shown) = fails_goes (Error odd_status)
    written_goes n (Committed shown v) = fails_goes (Error odd_status)
    written_goes n (Bytes shown eof bytes) = fails_goes (Error odd_status)
    written_goes n (NotSync shown) = fails_goes (Error odd_status)

    covered_goes : (new : WriterValue) → commit ≡ true → new.wants_commit ≡ w.wants_commit → new.is_fenced ≡ w.is_fenced → (IsSound w.mirrors → IsSound new.mirrors) → AfterGoes commit w (after_commit new)
    covered_goes new is wants fence sound = by_test (open_committed new.mirrors) refl
      where
        by_test : (b : Bool) → open_committed new.mirrors ≡ b
            → AfterGoes commit w (if b then record { writer = record { cred = new.cred; taken = new.taken; mirrors = new.mirrors; wants_commit = false; is_fenced = new.is_fenced }; step = step.Committed } else record { writer = new; step = step.Waiting })
        by_test true all = record { fenced = λ no_fence. fence; wants = inr all; covered = inl (is, refl); sound = λ none. sound }
        by_test false all = record { fenced = λ no_fence. fence; wants = inl wants; covered = inl (is, refl); sound = λ none. sound }

    committed_goes : commit ≡ true → (r : DsReplyValue) → AfterGoes commit w (commit_answered w place m r)
    committed_goes is (Committed shown v) = covered_goes (with_writer_mirror w place (with_commit v m)) is refl refl (λ sound. at_set (λ k. k.has_failed ≡ false) w.mirrors place (with_commit v m) sound (sound place m there))
    committed_goes is (Failed status shown) = refused_goes status
    committed_goes is (Created fileid shown) = fails_goes (Error odd_status)
    committed_goes is (Set shown) = fails_goes (Error odd_status)
    committed_goes is (Written shown v) = fails_goes (Error odd_status)
    committed_goes is (Bytes shown eof bytes) = fails_goes (Error odd_status)
    committed_goes is (NotSync shown) = fails_goes (Error odd_status)

    late_goes : (timeouts : ℕ) (again : WriterCall) → AfterGoes commit w (timed_out_as w place m timeouts again)
    late_goes timeouts again = by_test (timeouts == 2)
      where
        by_test : (b : Bool) → AfterGoes commit w (if b then fails w place m Timeouts else record { writer = with_writer_mirror w place (with_writer_call again m); step = step.Waiting })
        by_test true = fails_goes Timeouts
        by_test false = waits_goes (with_writer_call again m) refl refl refl

    late_call : (call : WriterCall) → AfterGoes commit w (call_timed_out w place m call)
    late_call NoCall = stranger_goes
    late_call (OutWrite xid n timeouts) = late_goes timeouts _
    late_call (OutCommit xid timeouts) = late_goes timeouts _

  late_mirror : (place : ℕ) (o : Option WriterMirror) → slice_get w.mirrors place ≡ o → AfterGoes commit w (mirror_timed_out w place o)
  late_mirror place None there = stranger_goes
  late_mirror place (Some m) there = late_call place m there m.call

  late_place : (o : Option ℕ) → AfterGoes commit w (timed_out_at w o)
  late_place None = stranger_goes
  late_place (Some place) = late_mirror place (slice_get w.mirrors place) refl

  pub timeout_goes : (xid : ℕ) → AfterGoes commit w (after_timeout w xid)
  timeout_goes xid = late_place (mirror_of_call w xid)

-- ---- the answer to a COMMIT is to a COMMIT

abbrev call_of : DsCallValue → ClientSend → DsCallValue
call_of other (CallsServer server xid name uid call) = call
call_of other send = other

module _ (h : List HistoryItem) (name : List ℕ) (reports : ℕ → Bool) (w : WriterValue) (s : WriterStands h name reports w) (next : ℕ) (numbers : NumbersStand h next) (server : ℕ) (out : OutCall) (out_is : out_at w server ≡ Some out) where
  at_server : (o : Option WriterMirror) → find (λ (m : WriterMirror). m.id.server == server) w.mirrors ≡ o → out_at_mirror w o ≡ Some out → HasItem h (Sends (CallsServer server out.xid name w.cred out.call))
  at_server None is its = absurd (none-some _ its)
  at_server (Some m) is its =
      let f : Found (λ (m : WriterMirror). m.id.server == server) w.mirrors m = found (λ (m : WriterMirror). m.id.server == server) w.mirrors m is in
      subst (λ (k : ℕ). HasItem h (Sends (CallsServer k out.xid name w.cred out.call))) (same_number m.id.server server f.passes) (out_sent h name reports w s m m.call out (s f.place m f.there).call its)

  its_commit : (place : ℕ) (m : WriterMirror) → slice_get w.mirrors place ≡ Some m → (xid timeouts : ℕ) → m.call ≡ OutCommit xid timeouts → xid ≡ out.xid → is_commit out.call ≡ true
  its_commit place m there xid timeouts at same =
      let stands : CallStands h name w.cred w.taken m.id m.answered (OutCommit xid timeouts) = subst (CallStands h name w.cred w.taken m.id m.answered) at (s place m there).call in
      let sent : HasItem h (CommitItem name w.cred m.id out.xid) = subst (λ (k : ℕ). HasItem h (CommitItem name w.cred m.id k)) same stands.0 in
      let one : CallsServer server out.xid name w.cred out.call ≡ CallsServer m.id.server out.xid name w.cred (Commit m.id.fileid) = numbers.once _ _ out.xid (at_server (find (λ (m : WriterMirror). m.id.server == server) w.mirrors) refl out_is) sent refl refl in
      ap (λ (k : ClientSend). is_commit (call_of out.call k)) one

  pub reply_goes : (reply : DsReplyValue) → AfterGoes (is_commit out.call) w (after_reply w out.xid reply)
  reply_goes reply = by_place (mirror_of_call w out.xid) refl
    where
      by_call : (place : ℕ) (m : WriterMirror) → slice_get w.mirrors place ≡ Some m → (call : WriterCall) → m.call ≡ call → is_call out.xid call ≡ true → AfterGoes (is_commit out.call) w (call_answered w place m reply call)
      by_call place m there NoCall at its = stranger_goes (is_commit out.call) w
      by_call place m there (OutWrite xid n timeouts) at its = written_goes (is_commit out.call) w place m there n reply
      by_call place m there (OutCommit xid timeouts) at its = committed_goes (is_commit out.call) w place m there (its_commit place m there xid timeouts at (same_number xid out.xid its)) reply

      by_mirror : (place : ℕ) → mirror_of_call w out.xid ≡ Some place → (o : Option WriterMirror) → slice_get w.mirrors place ≡ o → AfterGoes (is_commit out.call) w (mirror_answered w reply place o)
      by_mirror place is None there = stranger_goes (is_commit out.call) w
      by_mirror place is (Some m) there = by_call place m there m.call refl (position_passes (λ x. is_call out.xid x.call) w.mirrors place m is there)

      by_place : (o : Option ℕ) → mirror_of_call w out.xid ≡ o → AfterGoes (is_commit out.call) w (answered_at w reply o)
      by_place None is = stranger_goes (is_commit out.call) w
      by_place (Some place) is = by_mirror place is (slice_get w.mirrors place) refl
