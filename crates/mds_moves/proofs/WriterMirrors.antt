-- What stands of the mirrors of an own write stands as the machine goes on, and behind each answer and timeout.
use Rattle.std.proofs.Common.{◌≡◌, ◌<◌, ◌≤◌, ◌⊎◌, ℕ, zero, suc, ◌+◌, Bool, true, false, List, [], ◌∷◌, length, Option, Some, None, refl, sym, ap, subst, ◌∙◌, inl, inr, arith}
use Rattle.std.specs.Prelude.{slice_get, slice_set, map, is_some, ◌==◌, ◌||◌}
use Rattle.std.specs.List.{find, filter}
use Rattle.std.proofs.lemmas.Bool.{cond_both, cases_lt, eqb-true}
use Rattle.std.proofs.lemmas.Option.{same_Some}
use Rattle.cluster_model.specs.declared.ids.NodeId.TheVariants.{Mds}
use Rattle.cluster_model.specs.declared.ids.MirrorId.{MirrorId}
use Rattle.cluster_model.specs.declared.phase.LeftCause.{LeftCause}
use Rattle.cluster_model.specs.declared.phase.LeftCause.TheVariants.{Error, Timeouts}
use Rattle.cluster_model.specs.declared.ds_call.Shown.{Shown}
use Rattle.cluster_model.specs.DsCalls.{DsCallValue, Write, Commit, DsReplyValue, Created, Set, Written, Committed, Bytes, NotSync, Failed}
use Rattle.cluster_model.specs.Fences.{odd_status}
use Rattle.cluster_model.specs.Members.{IsOneOf}
use Rattle.cluster_laws.specs.Machine.{PacketValue, Call, Reply}
use Rattle.cluster_laws.specs.Holders.{IsPacketAt, IsCovered, the_write}
use Rattle.cluster_laws.proofs.Lists.{at_place, found_at}
use Rattle.mirror_writer.specs.declared.call.WriteAnswer.{WriteAnswer}
use Rattle.mirror_writer.specs.declared.call.WriterCall.{WriterCall}
use Rattle.mirror_writer.specs.declared.call.WriterCall.TheVariants.{NoCall, OutWrite, OutCommit}
use Rattle.mirror_writer.specs.declared.mirror.TheConstants.{ACCES, STALE}
use Rattle.mirror_writer.specs.declared.step.WriterStep.{WriterStep}
use Rattle.mirror_writer.specs.declared.step.WriterStep.TheVariants as step
use Rattle.mirror_writer.specs.Writers.{WriterMirror, WriterValue, WriterAfter, is_call, mirror_of_call, with_writer_mirror, with_writer_call, with_failure, without_call, with_write_answer, fails, is_fenced_by, refused_by, write_answered, has_verifier, covered_by, with_commit, after_commit, commit_answered, call_answered, mirror_answered, answered_at, after_reply, open_committed, timed_out_as, call_timed_out, mirror_timed_out, timed_out_at, after_timeout}
use Rattle.mds_io.specs.OwnWrites.{after_own_reply, told_by, step_by}
use Rattle.mds_rule.specs.MdsStates.{MdsSend, CallsServer}
use Rattle.mds_rule.specs.Answers.{is_failure_of}
use Rattle.mds_walk.proofs.Lists.{AllOf, all_push, all_set, all_got}
use Rattle.mds_moves.specs.MdsBinds.{IsWriteAnswered, AreCallsBehind, IsAnsweredBefore, IsAnswerKept, IsCallOut, IsWrittenTo}

abbrev pub MirrorFailures : Type 0
MirrorFailures = List (MirrorId × LeftCause)

-- who failed by these failed by those
abbrev pub HasMoreFailures : MirrorFailures → MirrorFailures → Type 0
HasMoreFailures fs gs = (id : MirrorId) → is_some (find (is_failure_of id) fs) ≡ true → is_some (find (is_failure_of id) gs) ≡ true

-- ---- as the machine goes on

pub within : {A : Type 0} (xs : List A) (place : ℕ) (x : A) → slice_get xs place ≡ Some x → place < length xs
within [] place x is = absurd cc
within (y ∷ ys) zero x is = omega arith
within (y ∷ ys) (suc place) x is = let less = within ys place x is in omega (arith, less)

pub all_more : {A : Type 0} (P Q : A → Type 0) → ((x : A) → P x → Q x) → (xs : List A) → AllOf P xs → AllOf Q xs
all_more P Q more [] all = tt
all_more P Q more (x ∷ xs) all = (more x all.0, all_more P Q more xs all.1)

abbrev pub PacketsKept : List PacketValue → List PacketValue → Type 0
PacketsKept old new = (place : ℕ) (packet : PacketValue) → slice_get old place ≡ Some packet → slice_get new place ≡ Some packet

module _ (old new : List PacketValue) (keeps : PacketsKept old new) where
  pub before_still : (place xid : ℕ) (packet : PacketValue) → IsPacketAt old place packet → AreCallsBehind old place xid → AreCallsBehind new place xid
  before_still place xid packet there before p server uid gid call at = by_place (cases_lt p (length old))
    where
      by_place : (p < length old) ⊎ (length old ≤ p) → place < p
      by_place (inl less) =
          let was = at_place old p less in
          let same : was.0 ≡ Call Mds server xid uid gid call = same_Some was.0 (Call Mds server xid uid gid call) (sym (keeps p was.0 was.1) ∙ at) in
          before p server uid gid call (was.1 ∙ ap Some same)
      by_place (inr more) = let less = within old place packet there in omega (arith, less, more)

  pub covered_still : (uid : ℕ) (id : MirrorId) (at : ℕ) (bytes : List ℕ) → IsCovered old uid id (the_write at bytes) → IsCovered new uid id (the_write at bytes)
  covered_still uid id at bytes c = record {
    writer = c.writer;
    write_xid = c.write_xid;
    write_gid = c.write_gid;
    synced = c.synced;
    write_place = c.write_place;
    verifier = c.verifier;
    write_shown = c.write_shown;
    written_place = c.written_place;
    committer = c.committer;
    commit_xid = c.commit_xid;
    commit_uid = c.commit_uid;
    commit_gid = c.commit_gid;
    commit_place = c.commit_place;
    behind = c.behind;
    commit_shown = c.commit_shown;
    committed_place = c.committed_place;
    write = keeps c.write_place _ c.write;
    written = keeps c.written_place _ c.written;
    commit = keeps c.commit_place _ c.commit;
    committed = keeps c.committed_place _ c.committed;
  }

  abbrev pub answer_still : (uid : ℕ) (id : MirrorId) (at : ℕ) (bytes : List ℕ) (verifier : ℕ) → IsWriteAnswered old uid id at bytes verifier → IsWriteAnswered new uid id at bytes verifier
  answer_still uid id at bytes verifier a = record {
    xid = a.xid;
    synced = a.synced;
    called = a.called;
    call = keeps a.called _ a.call;
    shown = a.shown;
    place = a.place;
    there = keeps a.place _ a.there;
  }

  pub so_before : (uid : ℕ) (id : MirrorId) (at : ℕ) (bytes : List ℕ) (verifier xid : ℕ) → IsAnsweredBefore old uid id at bytes verifier xid → IsAnsweredBefore new uid id at bytes verifier xid
  so_before uid id at bytes verifier xid a = record { answer = answer_still uid id at bytes verifier a.answer; before = before_still a.answer.place xid _ a.answer.there a.before }

  module _ (ss ts : List MdsSend) (sent : (s : MdsSend) → IsOneOf s ss → IsOneOf s ts) (uid at : ℕ) (bytes : List ℕ) where
    out_still : (m : WriterMirror) (call : WriterCall) → IsCallOut old ss uid at bytes m call → IsCallOut new ts uid at bytes m call
    out_still m NoCall out = tt
    out_still m (OutWrite xid write timeouts) out = sent (CallsServer m.id.server xid uid (Write m.id.fileid at false bytes)) out
    out_still m (OutCommit xid timeouts) out = (
      sent (CallsServer m.id.server xid uid (Commit m.id.fileid)) out.0,
      all_more (λ (a : WriteAnswer). IsAnsweredBefore old uid m.id at bytes a.verifier xid) (λ (a : WriteAnswer). IsAnsweredBefore new uid m.id at bytes a.verifier xid) (λ a its. so_before uid m.id at bytes a.verifier xid its) m.answered out.1,
    )

    pub mirror_still : (fs : MirrorFailures) (m : WriterMirror) → IsWrittenTo old ss uid at bytes fs m → IsWrittenTo new ts uid at bytes fs m
    mirror_still fs m i = record {
      out = out_still m m.call i.out;
      answered = all_more (IsAnswerKept old uid m.id at bytes) (IsAnswerKept new uid m.id at bytes) (λ a its. answer_still uid m.id at bytes a.verifier its) m.answered i.answered;
      is_covered = i.is_covered;
      flag = i.flag;
      covers = λ is. covered_still uid m.id at bytes (i.covers is);
      failed = i.failed;
    }

-- ---- answers and timeouts

-- a call of the metadata server stands there, and this reply to it
pub record IsGivenTo (packets : List PacketValue) (server xid uid : ℕ) (call : DsCallValue) (reply : DsReplyValue) : Type 0 where
  pub called : ℕ
  pub call_there : IsPacketAt packets called (Call Mds server xid uid uid call)
  pub place : ℕ
  pub there : IsPacketAt packets place (Reply called server Mds xid reply)

-- to whatever was sent under the number
abbrev pub AnswersSent : List PacketValue → List MdsSend → ℕ → DsReplyValue → Type 0
AnswersSent packets ss xid reply = (server uid : ℕ) (call : DsCallValue) → IsOneOf (CallsServer server xid uid call) ss → IsGivenTo packets server xid uid call reply

-- the replies on which something of an own write rests: the others fail it
abbrev pub RestsOn : List PacketValue → List MdsSend → ℕ → DsReplyValue → Type 0
RestsOn packets ss xid (Written shown verifier) = AnswersSent packets ss xid (Written shown verifier)
RestsOn packets ss xid (Committed shown verifier) = AnswersSent packets ss xid (Committed shown verifier)
RestsOn packets ss xid (Created fileid shown) = Unit {0}
RestsOn packets ss xid (Set shown) = Unit {0}
RestsOn packets ss xid (Bytes shown eof bytes) = Unit {0}
RestsOn packets ss xid (NotSync shown) = Unit {0}
RestsOn packets ss xid (Failed status shown) = Unit {0}

rests_on : (packets : List PacketValue) (ss : List MdsSend) (xid : ℕ) (reply : DsReplyValue) → AnswersSent packets ss xid reply → RestsOn packets ss xid reply
rests_on packets ss xid (Written shown verifier) answers = answers
rests_on packets ss xid (Committed shown verifier) answers = answers
rests_on packets ss xid (Created fileid shown) answers = tt
rests_on packets ss xid (Set shown) answers = tt
rests_on packets ss xid (Bytes shown eof bytes) answers = tt
rests_on packets ss xid (NotSync shown) answers = tt
rests_on packets ss xid (Failed status shown) answers = tt

abbrev pub ids_in : List WriterMirror → List MirrorId
ids_in mirrors = map (λ (m : WriterMirror). m.id) mirrors

pub ids_set : (mirrors : List WriterMirror) (place : ℕ) (m n : WriterMirror) → slice_get mirrors place ≡ Some m → n.id ≡ m.id → ids_in (slice_set mirrors place n) ≡ ids_in mirrors
ids_set [] place m n there is = absurd cc
ids_set (y ∷ ys) zero m n there is = ap (λ (k : MirrorId). k ∷ ids_in ys) (is ∙ ap (λ (x : WriterMirror). x.id) (sym (same_Some y m there)))
ids_set (y ∷ ys) (suc place) m n there is = ap (λ (l : List MirrorId). y.id ∷ l) (ids_set ys place m n there is)

-- what a step tells of a failure is among the failures
abbrev pub IsAmongFailures : WriterStep → MirrorFailures → Type 0
IsAmongFailures (step.Failed id cause) fs = is_some (find (is_failure_of id) fs) ≡ true
IsAmongFailures step.Stranger fs = Unit {0}
IsAmongFailures step.Waiting fs = Unit {0}
IsAmongFailures (step.Fenced id status) fs = Unit {0}
IsAmongFailures step.Committed fs = Unit {0}

noted_by : (status : ℕ) (s : WriterStep) (fs : MirrorFailures) → IsAmongFailures (step_by status s) fs → IsAmongFailures s fs
noted_by status (step.Failed id cause) fs n = n
noted_by status step.Stranger fs n = tt
noted_by status step.Waiting fs n = tt
noted_by status (step.Fenced id s) fs n = tt
noted_by status step.Committed fs n = tt

module _ (packets : List PacketValue) (ss : List MdsSend) (uid at : ℕ) (bytes : List ℕ) where
  abbrev pub So : MirrorFailures → WriterMirror → Type 0
  So fs m = IsWrittenTo packets ss uid at bytes fs m

  more_failed : (fs gs : MirrorFailures) → HasMoreFailures fs gs → (m : WriterMirror) → So fs m → So gs m
  more_failed fs gs more m i = record { out = i.out; answered = i.answered; is_covered = i.is_covered; flag = i.flag; covers = i.covers; failed = λ is. more m.id (i.failed is) }

  -- the mirrors behind a step, with the failures by then
  abbrev pub WriterStandsAfter : WriterValue → MirrorFailures → WriterAfter → Type 0
  WriterStandsAfter w fs a = (gs : MirrorFailures) → HasMoreFailures fs gs → IsAmongFailures a.step gs → AllOf (So gs) a.writer.mirrors × (ids_in a.writer.mirrors ≡ ids_in w.mirrors)

  -- the flag of the one write that was taken
  record IsFlagged (id : MirrorId) (covered : List Bool) : Type 0 where
    is_covered : Bool
    flag : covered ≡ is_covered ∷ []
    covers : is_covered ≡ true → IsCovered packets uid id (the_write at bytes)

  set_flag : (id : MirrorId) (covered : List Bool) (write : ℕ) → IsCovered packets uid id (the_write at bytes) → IsFlagged id covered → IsFlagged id (slice_set covered write true)
  set_flag id covered zero c f = record { is_covered = true; flag = ap (λ (l : List Bool). slice_set l 0 true) f.flag; covers = λ is. c }
  set_flag id covered (suc k) c f = record { is_covered = f.is_covered; flag = ap (λ (l : List Bool). slice_set l (suc k) true) f.flag; covers = f.covers }

  module _ (id : MirrorId) (xid verifier : ℕ) (shown : Option Shown) (given : IsGivenTo packets id.server xid uid (Commit id.fileid) (Committed shown verifier)) where
    covers_now : (v : ℕ) → v ≡ verifier → IsAnsweredBefore packets uid id at bytes v xid → IsCovered packets uid id (the_write at bytes)
    covers_now v same a = record {
      writer = Mds;
      write_xid = a.answer.xid;
      write_gid = uid;
      synced = a.answer.synced;
      write_place = a.answer.called;
      write = a.answer.call;
      verifier = verifier;
      write_shown = a.answer.shown;
      written_place = a.answer.place;
      written = subst (λ (x : ℕ). IsPacketAt packets a.answer.place (Reply a.answer.called id.server Mds a.answer.xid (Written a.answer.shown x))) same a.answer.there;
      committer = Mds;
      commit_xid = xid;
      commit_uid = uid;
      commit_gid = uid;
      commit_place = given.called;
      behind = a.before given.called id.server uid uid (Commit id.fileid) given.call_there;
      commit = given.call_there;
      commit_shown = shown;
      committed_place = given.place;
      committed = given.there;
    }

    flags : (answered : List WriteAnswer) → AllOf (λ (a : WriteAnswer). IsAnsweredBefore packets uid id at bytes a.verifier xid) answered → (covered : List Bool) → IsFlagged id covered
        → IsFlagged id (covered_by (filter (has_verifier verifier) answered) covered)
    flags [] all covered f = f
    flags (a ∷ answered) all covered f =
        cond_both (has_verifier verifier a) (a ∷ filter (has_verifier verifier) answered) (filter (has_verifier verifier) answered) (λ (l : List WriteAnswer). IsFlagged id (covered_by l covered))
        (λ is. flags answered all.1 (slice_set covered a.write true) (set_flag id covered a.write (covers_now a.verifier (eqb-true a.verifier verifier is) all.0) f))
        (λ off. flags answered all.1 covered f)

  module _ (w : WriterValue) (fs : MirrorFailures) (all : AllOf (So fs) w.mirrors) where
    same_so : (s : WriterStep) → WriterStandsAfter w fs (record { writer = w; step = s })
    same_so s gs more noted = (all_more (So fs) (So gs) (more_failed fs gs more) w.mirrors all, refl)

    module _ (place : ℕ) (m : WriterMirror) (there : slice_get w.mirrors place ≡ Some m) where
      was : So fs m
      was = all_got (So fs) w.mirrors place m all there

      put : (n : WriterMirror) → n.id ≡ m.id → (gs : MirrorFailures) → HasMoreFailures fs gs → So gs n → AllOf (So gs) (slice_set w.mirrors place n) × (ids_in (slice_set w.mirrors place n) ≡ ids_in w.mirrors)
      put n same gs more its = (all_set (So gs) w.mirrors place n (all_more (So fs) (So gs) (more_failed fs gs more) w.mirrors all) its, ids_set w.mirrors place m n there same)

      fails_so : (cause : LeftCause) → WriterStandsAfter w fs (fails w place m cause)
      fails_so cause gs more noted =
          put (with_failure m) refl gs more (record { out = tt; answered = was.answered; is_covered = was.is_covered; flag = was.flag; covers = was.covers; failed = λ is. noted })

      fenced_so : (status : ℕ) → WriterStandsAfter w fs (is_fenced_by w place m status)
      fenced_so status gs more noted =
          put (without_call m) refl gs more (record { out = tt; answered = was.answered; is_covered = was.is_covered; flag = was.flag; covers = was.covers; failed = λ is. more m.id (was.failed is) })

      refused_so : (status : ℕ) → WriterStandsAfter w fs (refused_by w place m status)
      refused_so status =
          cond_both ((status == ACCES) || (status == STALE)) (is_fenced_by w place m status) (fails w place m (Error status)) (λ (a : WriterAfter). WriterStandsAfter w fs a) (λ is. fenced_so status) (λ off. fails_so (Error status))

      write_so : (xid write : ℕ) (reply : DsReplyValue) → IsOneOf (CallsServer m.id.server xid uid (Write m.id.fileid at false bytes)) ss → RestsOn packets ss xid reply → WriterStandsAfter w fs (write_answered w place m write reply)
      write_so xid write (Written shown verifier) sent answers =
          let given : IsGivenTo packets m.id.server xid uid (Write m.id.fileid at false bytes) (Written shown verifier) = answers m.id.server uid (Write m.id.fileid at false bytes) sent in
          let answer : IsWriteAnswered packets uid m.id at bytes verifier =
          record { xid = xid; synced = false; called = given.called; call = given.call_there; shown = shown; place = given.place; there = given.there } in
          λ gs more noted.
          put (with_write_answer write verifier m) refl gs more (record {
            out = tt;
            answered = all_push (IsAnswerKept packets uid m.id at bytes) m.answered (record { write = write; verifier = verifier }) was.answered answer;
            is_covered = was.is_covered;
            flag = was.flag;
            covers = was.covers;
            failed = λ is. more m.id (was.failed is);
          })
      write_so xid write (Failed status shown) sent answers = refused_so status
      write_so xid write (Created fileid shown) sent answers = fails_so (Error odd_status)
      write_so xid write (Set shown) sent answers = fails_so (Error odd_status)
      write_so xid write (Committed shown verifier) sent answers = fails_so (Error odd_status)
      write_so xid write (Bytes shown eof b) sent answers = fails_so (Error odd_status)
      write_so xid write (NotSync shown) sent answers = fails_so (Error odd_status)

      committed_so : (xid : ℕ) (shown : Option Shown) (verifier : ℕ) → IsCallOut packets ss uid at bytes m (OutCommit xid 0) → AnswersSent packets ss xid (Committed shown verifier)
          → WriterStandsAfter w fs (after_commit (with_writer_mirror w place (with_commit verifier m)))
      committed_so xid shown verifier out answers =
          let n : WriterValue = with_writer_mirror w place (with_commit verifier m) in
          let given : IsGivenTo packets m.id.server xid uid (Commit m.id.fileid) (Committed shown verifier) = answers m.id.server uid (Commit m.id.fileid) out.0 in
          let f : IsFlagged m.id (with_commit verifier m).covered = flags m.id xid verifier shown given m.answered out.1 m.covered (record { is_covered = was.is_covered; flag = was.flag; covers = was.covers }) in
          let now : (gs : MirrorFailures) → HasMoreFailures fs gs → AllOf (So gs) n.mirrors × (ids_in n.mirrors ≡ ids_in w.mirrors) =
          λ gs more. put (with_commit verifier m) refl gs more (record { out = tt; answered = tt; is_covered = f.is_covered; flag = f.flag; covers = f.covers; failed = λ is. more m.id (was.failed is) }) in
          cond_both (open_committed n.mirrors) (record { writer = record { cred = n.cred; taken = n.taken; mirrors = n.mirrors; wants_commit = false; is_fenced = n.is_fenced }; step = step.Committed })
          (record { writer = n; step = step.Waiting }) (λ (a : WriterAfter). WriterStandsAfter w fs a) (λ is. λ gs more noted. now gs more) (λ off. λ gs more noted. now gs more)

      commit_so : (xid : ℕ) (reply : DsReplyValue) → IsCallOut packets ss uid at bytes m (OutCommit xid 0) → RestsOn packets ss xid reply → WriterStandsAfter w fs (commit_answered w place m reply)
      commit_so xid (Committed shown verifier) out answers = committed_so xid shown verifier out answers
      commit_so xid (Failed status shown) out answers = refused_so status
      commit_so xid (Created fileid shown) out answers = fails_so (Error odd_status)
      commit_so xid (Set shown) out answers = fails_so (Error odd_status)
      commit_so xid (Written shown verifier) out answers = fails_so (Error odd_status)
      commit_so xid (Bytes shown eof b) out answers = fails_so (Error odd_status)
      commit_so xid (NotSync shown) out answers = fails_so (Error odd_status)

      call_so : (xid : ℕ) (reply : DsReplyValue) → RestsOn packets ss xid reply → (call : WriterCall) → IsCallOut packets ss uid at bytes m call → is_call xid call ≡ true → WriterStandsAfter w fs (call_answered w place m reply call)
      call_so xid reply answers NoCall out its = same_so step.Stranger
      call_so xid reply answers (OutWrite x write timeouts) out its =
          write_so xid write reply (subst (λ (k : ℕ). IsOneOf (CallsServer m.id.server k uid (Write m.id.fileid at false bytes)) ss) (eqb-true x xid its) out) answers
      call_so xid reply answers (OutCommit x timeouts) out its = commit_so xid reply (subst (λ (k : ℕ). IsCallOut packets ss uid at bytes m (OutCommit k 0)) (eqb-true x xid its) out) answers

      late_so : (timeouts : ℕ) (again : WriterCall) → IsCallOut packets ss uid at bytes m again → WriterStandsAfter w fs (timed_out_as w place m timeouts again)
      late_so timeouts again out =
          cond_both (timeouts == 2) (fails w place m Timeouts) (record { writer = with_writer_mirror w place (with_writer_call again m); step = step.Waiting }) (λ (a : WriterAfter). WriterStandsAfter w fs a)
          (λ is. fails_so Timeouts)
          (λ off. λ gs more noted.
          put (with_writer_call again m) refl gs more (record { out = out; answered = was.answered; is_covered = was.is_covered; flag = was.flag; covers = was.covers; failed = λ is. more m.id (was.failed is) }))

      call_late : (call : WriterCall) → IsCallOut packets ss uid at bytes m call → WriterStandsAfter w fs (call_timed_out w place m call)
      call_late NoCall out = same_so step.Stranger
      call_late (OutWrite xid write timeouts) out = late_so timeouts (OutWrite xid write (timeouts + 1)) out
      call_late (OutCommit xid timeouts) out = late_so timeouts (OutCommit xid (timeouts + 1)) out

    mirror_so : (xid : ℕ) (reply : DsReplyValue) → RestsOn packets ss xid reply → (place : ℕ) (m : WriterMirror) → slice_get w.mirrors place ≡ Some m → is_call xid m.call ≡ true → WriterStandsAfter w fs (mirror_answered w reply place (slice_get w.mirrors place))
    mirror_so xid reply answers place m there its =
        subst (λ (o : Option WriterMirror). WriterStandsAfter w fs (mirror_answered w reply place o)) (sym there) (call_so place m there xid reply answers m.call (was place m there).out its)

    at_so : (xid : ℕ) (reply : DsReplyValue) → RestsOn packets ss xid reply → (o : Option ℕ) → mirror_of_call w xid ≡ o → WriterStandsAfter w fs (answered_at w reply o)
    at_so xid reply answers None found = same_so step.Stranger
    at_so xid reply answers (Some place) found =
        let at_it = found_at (λ (m : WriterMirror). is_call xid m.call) w.mirrors place found in
        mirror_so xid reply answers place at_it.0 at_it.1 at_it.2

    reply_so : (xid : ℕ) (reply : DsReplyValue) → RestsOn packets ss xid reply → WriterStandsAfter w fs (after_reply w xid reply)
    reply_so xid reply answers = at_so xid reply answers (mirror_of_call w xid) refl

    told_so : (status : ℕ) (a : WriterAfter) → WriterStandsAfter w fs a → WriterStandsAfter w fs (told_by status a)
    told_so status a so gs more noted = so gs more (noted_by status a.step gs noted)

    own_so : (xid : ℕ) (reply : DsReplyValue) → RestsOn packets ss xid reply → WriterStandsAfter w fs (after_own_reply w xid reply)
    own_so xid (Failed status shown) answers = told_so status (after_reply w xid (Failed odd_status shown)) (reply_so xid (Failed odd_status shown) tt)
    own_so xid (Created fileid shown) answers = reply_so xid (Created fileid shown) tt
    own_so xid (Set shown) answers = reply_so xid (Set shown) tt
    own_so xid (Written shown verifier) answers = reply_so xid (Written shown verifier) answers
    own_so xid (Committed shown verifier) answers = reply_so xid (Committed shown verifier) answers
    own_so xid (Bytes shown eof b) answers = reply_so xid (Bytes shown eof b) tt
    own_so xid (NotSync shown) answers = reply_so xid (NotSync shown) tt

    pub answer_so : (xid : ℕ) (reply : DsReplyValue) → AnswersSent packets ss xid reply → WriterStandsAfter w fs (after_own_reply w xid reply)
    answer_so xid reply answers = own_so xid reply (rests_on packets ss xid reply answers)

    mirror_late : (place : ℕ) (o : Option WriterMirror) → slice_get w.mirrors place ≡ o → WriterStandsAfter w fs (mirror_timed_out w place o)
    mirror_late place None there = same_so step.Stranger
    mirror_late place (Some m) there = call_late place m there m.call (was place m there).out

    late_at : (o : Option ℕ) → WriterStandsAfter w fs (timed_out_at w o)
    late_at None = same_so step.Stranger
    late_at (Some place) = mirror_late place (slice_get w.mirrors place) refl

    pub timeout_so : (xid : ℕ) → WriterStandsAfter w fs (after_timeout w xid)
    timeout_so xid = late_at (mirror_of_call w xid)
