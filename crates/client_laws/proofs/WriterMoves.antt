-- What an answer, a timeout, a new call and a new write leave of what a writer has.
use Rattle.std.proofs.Common.{◌≡◌, ℕ, ◌+◌, Bool, true, false, List, [], ◌∷◌, ◌++◌, length, Option, Some, None, refl, sym, ap, subst, ◌∙◌}
use Rattle.std.specs.Prelude.{slice_get, option_map, ◌||◌, ◌==◌, if◌then◌else◌, Ok}
use Rattle.std.specs.List.{find, list_all}
use Rattle.std.proofs.lemmas.Option.{none-some, same_Some, slice_get-map}
use Rattle.rpc_record.specs.Replies.{RpcReply, reply_at}
use Rattle.cluster_model.specs.declared.ids.MirrorId.{MirrorId}
use Rattle.cluster_model.specs.declared.ids.NodeId.TheVariants.{Server}
use Rattle.cluster_model.specs.declared.phase.LeftCause.{LeftCause}
use Rattle.cluster_model.specs.declared.phase.LeftCause.TheVariants.{Error, Timeouts}
use Rattle.cluster_model.specs.DsCalls.{DsCallValue, Write, Commit, DsReplyValue, Created, Set, Written, Committed, Bytes, NotSync, Failed}
use Rattle.cluster_model.specs.Fences.{odd_status}
use Rattle.ds_calls.specs.GivenReplies.{reply_of_call}
use Rattle.mirror_writer.specs.declared.call.TakenWrite.{TakenWrite}
use Rattle.mirror_writer.specs.declared.call.WriterCall.{WriterCall}
use Rattle.mirror_writer.specs.declared.call.WriterCall.TheVariants.{NoCall, OutWrite, OutCommit}
use Rattle.mirror_writer.specs.declared.call.NextCall.{NextCall}
use Rattle.mirror_writer.specs.declared.call.NextCall.TheVariants.{SendsWrite, SendsCommit}
use Rattle.mirror_writer.specs.declared.step.WriterStep.{WriterStep}
use Rattle.mirror_writer.specs.declared.step.WriterStep.TheVariants as step
use Rattle.mirror_writer.specs.Writers.{WriterMirror, WriterValue, WriterSends, WriterAfter, with_write, queued, with_out, with_write_answer, with_commit, with_failure, without_call, with_writer_call, with_writer_mirror, open_committed, mirror_of_call, is_call, after_reply, answered_at, mirror_answered, call_answered, write_answered, commit_answered, after_commit, is_stranger, fails, refused_by, is_fenced_by, after_timeout, timed_out_at, mirror_timed_out, call_timed_out, timed_out_as, next_sent, call_for, write_of_taken}
use Rattle.mirror_writer.specs.Outstanding.{OutCall, out_as, out_call, out_at_mirror, out_at}
use Rattle.client_laws.proofs.NextSent.{Sending, sending}
use Rattle.client_state.specs.ClientSends.{ClientSend, CallsServer}
use Rattle.client_laws.specs.ClientHistory.{HistoryItem, Hears, Sends, Recorded, HasItem}
use Rattle.client_laws.specs.ClientRunLaws.{IsDsReply}
use Rattle.client_laws.proofs.Later.{mirror_later}
use Rattle.client_laws.proofs.Counting.{IsWaiting, waits, still}
use Rattle.client_laws.proofs.Places.{at_set, map_set, Found, found, position_passes, same_number, or_left}
use Rattle.client_laws.proofs.MirrorMoves.{write_stands, commit_stands, failure_stands, no_call_stands, again_stands, write_out, commit_out, taken_stands, reported_stands, commit_settles}
use Rattle.client_laws.proofs.Stands.{CallStands, WriteOut, CommitItem, MirrorStands, WriterStands, IsSettled, is_settled_there, writer_ids, NumbersStand, AtEach, times_out, is_commit_out, is_idle_call, CountsOnce}

-- the server of the mirror that failed by a step
abbrev pub failed_by : WriterStep → ℕ → Bool
failed_by (step.Failed id cause) server = id.server == server
failed_by step.Stranger server = false
failed_by step.Waiting server = false
failed_by step.Committed server = false
failed_by (step.Fenced id status) server = false

abbrev pub also : (ℕ → Bool) → WriterStep → ℕ → Bool
also reports came server = reports server || failed_by came server

-- the same layout's writer, which stands in this history
pub record WriterMoves (h : List HistoryItem) (name : List ℕ) (reports : ℕ → Bool) (old new : WriterValue) : Type 0 where
  pub cred : new.cred ≡ old.cred
  pub taken : new.taken ≡ old.taken
  pub ids : writer_ids new ≡ writer_ids old
  pub stands : WriterStands h name reports new
  pub settled : IsSettled old.mirrors → IsSettled new.mirrors

-- a mirror that failed by a step is one of these
pub record HasMirror (w : WriterValue) (id : MirrorId) : Type 0 where
  pub place : ℕ
  pub mirror : WriterMirror
  pub there : slice_get w.mirrors place ≡ Some mirror
  pub its_id : mirror.id ≡ id

abbrev pub FailedThere : WriterValue → WriterStep → Type 0
FailedThere w (step.Failed id cause) = HasMirror w id
FailedThere w step.Stranger = Unit {0}
FailedThere w step.Waiting = Unit {0}
FailedThere w step.Committed = Unit {0}
FailedThere w (step.Fenced id status) = Unit {0}

pub record AfterMoves (h : List HistoryItem) (name : List ℕ) (reports : ℕ → Bool) (w : WriterValue) (after : WriterAfter) : Type 0 where
  pub moves : WriterMoves h name (also reports after.step) w after.writer
  pub failed : FailedThere w after.step

-- the call of this number, which was answered, is that of this mirror
pub record ItsCall (server xid : ℕ) (call : DsCallValue) (its_server : ℕ) (its_call : DsCallValue) : Type 0 where
  pub server_is : server ≡ its_server
  pub call_is : call ≡ its_call

abbrev server_of : ClientSend → ℕ
server_of (CallsServer server xid name uid call) = server
server_of send = 0

abbrev call_of : DsCallValue → ClientSend → DsCallValue
call_of other (CallsServer server xid name uid call) = call
call_of other send = other

module _ (h : List HistoryItem) (name : List ℕ) (reports : ℕ → Bool) (w : WriterValue) (s : WriterStands h name reports w) where
  pub writer_later : (more : List HistoryItem) (wider : ℕ → Bool) → ((server : ℕ) → reports server ≡ true → wider server ≡ true) → WriterStands (h ++ more) name wider w
  writer_later more wider widens place m there =
      reported_stands (h ++ more) name w.cred w.taken reports m (mirror_later h more name w.cred w.taken reports m (s place m there)) wider widens

  stranger_moves : (more : List HistoryItem) → AfterMoves (h ++ more) name reports w (is_stranger w)
  stranger_moves more = record {
    moves = record {
      cred = refl;
      taken = refl;
      ids = refl;
      stands = writer_later more (also reports step.Stranger) (λ server is. or_left (reports server) false is);
      settled = λ all. all;
    };
    failed = tt;
  }

  set_moves : (more : List HistoryItem) (wider : ℕ → Bool) → ((server : ℕ) → reports server ≡ true → wider server ≡ true) → (place : ℕ) (m new : WriterMirror) → slice_get w.mirrors place ≡ Some m → new.id ≡ m.id
      → MirrorStands (h ++ more) name w.cred w.taken wider new → (is_settled_there m ≡ true → is_settled_there new ≡ true) → WriterMoves (h ++ more) name wider w (with_writer_mirror w place new)
  set_moves more wider widens place m new there same stands settles = record {
    cred = refl;
    taken = refl;
    ids = map_set (λ (x : WriterMirror). x.id) w.mirrors place m new there same;
    stands = at_set (MirrorStands (h ++ more) name w.cred w.taken wider) w.mirrors place new (writer_later more wider widens) stands;
    settled = λ all. at_set (λ x. is_settled_there x ≡ true) w.mirrors place new all (settles (all place m there));
  }

  fails_moves : (more : List HistoryItem) (place : ℕ) (m : WriterMirror) (cause : LeftCause) → slice_get w.mirrors place ≡ Some m → AfterMoves (h ++ more) name reports w (fails w place m cause)
  fails_moves more place m cause there = record {
    moves =
        set_moves more (also reports (step.Failed m.id cause)) (λ server is. or_left (reports server) (m.id.server == server) is) place m (with_failure m) there refl
        (failure_stands h name w.cred w.taken reports m (s place m there) more) (λ settled. refl);
    failed = record { place = place; mirror = m; there = there; its_id = refl };
  }

  stays_settled : (m new : WriterMirror) → new.has_failed ≡ m.has_failed → new.covered ≡ m.covered → is_settled_there m ≡ true → is_settled_there new ≡ true
  stays_settled m new same covered is = subst (λ (b : Bool). b || all new.covered ≡ true) (sym same) (subst (λ (l : List Bool). m.has_failed || all l ≡ true) (sym covered) is)
    where
      all : List Bool → Bool
      all l = list_all (λ b. b) l

  refused_moves : (more : List HistoryItem) (place : ℕ) (m : WriterMirror) (status : ℕ) → slice_get w.mirrors place ≡ Some m → AfterMoves (h ++ more) name reports w (refused_by w place m status)
  refused_moves more place m status there = by_test ((status == 13) || (status == 70))
    where
      fenced_moves : WriterMoves (h ++ more) name (also reports (step.Fenced m.id status)) w (with_writer_mirror w place (without_call m))
      fenced_moves =
          set_moves more (also reports (step.Fenced m.id status)) (λ server is. or_left (reports server) false is) place m (without_call m) there refl
          (reported_stands (h ++ more) name w.cred w.taken reports (without_call m) (no_call_stands h name w.cred w.taken reports m (s place m there) more) (also reports (step.Fenced m.id status)) (λ server is. or_left (reports server) false is))
          (λ is. is)

      by_test : (b : Bool) → AfterMoves (h ++ more) name reports w (if b then is_fenced_by w place m status else fails w place m (Error status))
      by_test true = record { moves = record { cred = refl; taken = refl; ids = fenced_moves.ids; stands = fenced_moves.stands; settled = fenced_moves.settled }; failed = tt }
      by_test false = fails_moves more place m (Error status) there

  -- behind a COMMIT's answer
  commit_moves : (more : List HistoryItem) (new : WriterValue) → WriterMoves (h ++ more) name reports w new → AfterMoves (h ++ more) name reports w (after_commit new)
  commit_moves more new moves = by_test (open_committed new.mirrors)
    where
      wide : (came : WriterStep) → WriterStands (h ++ more) name (also reports came) new
      wide came place m there = reported_stands (h ++ more) name new.cred new.taken reports m (moves.stands place m there) (also reports came) (λ server is. or_left (reports server) (failed_by came server) is)

      by_test : (b : Bool)
          → AfterMoves (h ++ more) name reports w (if b then record { writer = record { cred = new.cred; taken = new.taken; mirrors = new.mirrors; wants_commit = false; is_fenced = new.is_fenced }; step = step.Committed } else record { writer = new; step = step.Waiting })
      by_test true = record { moves = record { cred = moves.cred; taken = moves.taken; ids = moves.ids; stands = wide step.Committed; settled = moves.settled }; failed = tt }
      by_test false = record { moves = record { cred = moves.cred; taken = moves.taken; ids = moves.ids; stands = wide step.Waiting; settled = moves.settled }; failed = tt }

  -- ---- an answer

  pub out_sent : (m : WriterMirror) (call : WriterCall) (out : OutCall) → CallStands h name w.cred w.taken m.id m.answered call → out_call w m.id call ≡ Some out
      → HasItem h (Sends (CallsServer m.id.server out.xid name w.cred out.call))
  out_sent m NoCall out stands is = absurd (none-some out is)
  out_sent m (OutWrite xid n timeouts) out stands is =
      let same : ◌≡◌ {A = OutCall} (record { xid = xid; call = Write m.id.fileid stands.write.at false stands.write.bytes }) out = same_Some _ out (sym (ap (λ t. out_as xid (write_of_taken m.id t)) stands.there) ∙ is) in
      subst (λ (o : OutCall). HasItem h (Sends (CallsServer m.id.server o.xid name w.cred o.call))) same stands.sent
  out_sent m (OutCommit xid timeouts) out stands is =
      let same : ◌≡◌ {A = OutCall} (record { xid = xid; call = Commit m.id.fileid }) out = same_Some _ out is in
      subst (λ (o : OutCall). HasItem h (Sends (CallsServer m.id.server o.xid name w.cred o.call))) same stands.0

  one_call : (next : ℕ) → NumbersStand h next → (server xid : ℕ) (call : DsCallValue) (its_server : ℕ) (its_call : DsCallValue)
      → HasItem h (Sends (CallsServer server xid name w.cred call)) → HasItem h (Sends (CallsServer its_server xid name w.cred its_call)) → ItsCall server xid call its_server its_call
  one_call next numbers server xid call its_server its_call one other =
      let same : CallsServer server xid name w.cred call ≡ CallsServer its_server xid name w.cred its_call = numbers.once _ _ xid one other refl refl in
      record { server_is = ap server_of same; call_is = ap (call_of call) same }

  -- it was heard from a data server
  module _ (next : ℕ) (numbers : NumbersStand h next) (server : ℕ) (bytes : List ℕ) (now : ℕ) (reply : RpcReply) (reply_is : reply_at bytes ≡ Ok reply) (out : OutCall)
      (out_is : out_at w server ≡ Some out) (number : out.xid ≡ reply.xid) where
    abbrev item : HistoryItem
    item = Hears (Recorded (Server server) bytes now)

    at_server : (o : Option WriterMirror) → find (λ (m : WriterMirror). m.id.server == server) w.mirrors ≡ o → out_at_mirror w o ≡ Some out → HasItem h (Sends (CallsServer server out.xid name w.cred out.call))
    at_server None is out = absurd (none-some _ out)
    at_server (Some m) is its =
        let f : Found (λ (m : WriterMirror). m.id.server == server) w.mirrors m = found (λ (m : WriterMirror). m.id.server == server) w.mirrors m is in
        subst (λ (k : ℕ). HasItem h (Sends (CallsServer k out.xid name w.cred out.call))) (same_number m.id.server server f.passes) (out_sent m m.call out (s f.place m f.there).call its)

    answered : HasItem h (Sends (CallsServer server reply.xid name w.cred out.call))
    answered = subst (λ (k : ℕ). HasItem h (Sends (CallsServer server k name w.cred out.call))) number (at_server (find (λ (m : WriterMirror). m.id.server == server) w.mirrors) refl out_is)

    abbrev Moves : WriterAfter → Type 0
    Moves after = AfterMoves (h ++ Hears (Recorded (Server server) bytes now) ∷ []) name reports w after

    abbrev says : DsReplyValue
    says = reply_of_call out.call reply

    -- of the mirror at this place
    module _ (place : ℕ) (m : WriterMirror) (there : slice_get w.mirrors place ≡ Some m) where
      by_write : (xid n timeouts : ℕ) → m.call ≡ OutWrite xid n timeouts → xid ≡ reply.xid → (o : WriteOut h name w.cred w.taken m.id xid n) → (r : DsReplyValue) → says ≡ r → Moves (write_answered w place m n r)
      by_write xid n timeouts at its o (Written shown v) is =
          let i : ItsCall server reply.xid out.call m.id.server (Write m.id.fileid o.write.at false o.write.bytes) = one_call next numbers server reply.xid out.call m.id.server (Write m.id.fileid o.write.at false o.write.bytes) answered (subst (λ (k : ℕ). HasItem h (Sends (CallsServer m.id.server k name w.cred (Write m.id.fileid o.write.at false o.write.bytes)))) its o.sent) in
          let so : IsDsReply bytes xid (Write m.id.fileid o.write.at false o.write.bytes) (Written shown v) = record { reply = reply; reply_is = reply_is; number = sym its; says_so = ap (λ k. reply_of_call k reply) (sym i.call_is) ∙ is } in
          let stands : MirrorStands (h ++ item ∷ []) name w.cred w.taken reports (with_write_answer n v m) =
          subst (λ (k : ℕ). MirrorStands (h ++ Hears (Recorded (Server k) bytes now) ∷ []) name w.cred w.taken reports (with_write_answer n v m)) (sym i.server_is) (write_stands h name w.cred w.taken reports m (s place m there) bytes now xid n timeouts v shown at o so) in
          record {
            moves =
                set_moves (item ∷ []) (also reports step.Waiting) (λ k is. or_left (reports k) false is) place m (with_write_answer n v m) there refl
                (reported_stands (h ++ item ∷ []) name w.cred w.taken reports (with_write_answer n v m) stands (also reports step.Waiting) (λ k is. or_left (reports k) false is)) (λ is. is);
            failed = tt;
          }
      by_write xid n timeouts at its o (Failed status shown) is = refused_moves (item ∷ []) place m status there
      by_write xid n timeouts at its o (Created fileid shown) is = fails_moves (item ∷ []) place m (Error odd_status) there
      by_write xid n timeouts at its o (Set shown) is = fails_moves (item ∷ []) place m (Error odd_status) there
      by_write xid n timeouts at its o (Committed shown v) is = fails_moves (item ∷ []) place m (Error odd_status) there
      by_write xid n timeouts at its o (Bytes shown eof data_of) is = fails_moves (item ∷ []) place m (Error odd_status) there
      by_write xid n timeouts at its o (NotSync shown) is = fails_moves (item ∷ []) place m (Error odd_status) there

      by_commit : (xid timeouts : ℕ) → xid ≡ reply.xid → CallStands h name w.cred w.taken m.id m.answered (OutCommit xid timeouts) → (r : DsReplyValue) → says ≡ r → Moves (commit_answered w place m r)
      by_commit xid timeouts its o (Committed shown v) is =
          let i : ItsCall server reply.xid out.call m.id.server (Commit m.id.fileid) = one_call next numbers server reply.xid out.call m.id.server (Commit m.id.fileid) answered (subst (λ (k : ℕ). HasItem h (Sends (CallsServer m.id.server k name w.cred (Commit m.id.fileid)))) its o.0) in
          let so : IsDsReply bytes xid (Commit m.id.fileid) (Committed shown v) = record { reply = reply; reply_is = reply_is; number = sym its; says_so = ap (λ k. reply_of_call k reply) (sym i.call_is) ∙ is } in
          let stands : MirrorStands (h ++ item ∷ []) name w.cred w.taken reports (with_commit v m) =
          subst (λ (k : ℕ). MirrorStands (h ++ Hears (Recorded (Server k) bytes now) ∷ []) name w.cred w.taken reports (with_commit v m)) (sym i.server_is) (commit_stands h name w.cred w.taken reports m (s place m there) bytes now xid timeouts v shown o so) in
          commit_moves (item ∷ []) (with_writer_mirror w place (with_commit v m)) (set_moves (item ∷ []) reports (λ k is. is) place m (with_commit v m) there refl stands (commit_settles v m))
      by_commit xid timeouts its o (Failed status shown) is = refused_moves (item ∷ []) place m status there
      by_commit xid timeouts its o (Created fileid shown) is = fails_moves (item ∷ []) place m (Error odd_status) there
      by_commit xid timeouts its o (Set shown) is = fails_moves (item ∷ []) place m (Error odd_status) there
      by_commit xid timeouts its o (Written shown v) is = fails_moves (item ∷ []) place m (Error odd_status) there
      by_commit xid timeouts its o (Bytes shown eof data_of) is = fails_moves (item ∷ []) place m (Error odd_status) there
      by_commit xid timeouts its o (NotSync shown) is = fails_moves (item ∷ []) place m (Error odd_status) there

      by_call : (call : WriterCall) → m.call ≡ call → is_call reply.xid call ≡ true → CallStands h name w.cred w.taken m.id m.answered call → Moves (call_answered w place m says call)
      by_call NoCall at its o = absurd (cc (its))
      by_call (OutWrite xid n timeouts) at its o = by_write xid n timeouts at (same_number xid reply.xid its) o says refl
      by_call (OutCommit xid timeouts) at its o = by_commit xid timeouts (same_number xid reply.xid its) o says refl

    by_mirror : (place : ℕ) → mirror_of_call w reply.xid ≡ Some place → (o : Option WriterMirror) → slice_get w.mirrors place ≡ o → Moves (mirror_answered w says place o)
    by_mirror place is None there = stranger_moves (item ∷ [])
    by_mirror place is (Some m) there = by_call place m there m.call refl (position_passes (λ x. is_call reply.xid x.call) w.mirrors place m is there) (s place m there).call

    by_place : (o : Option ℕ) → mirror_of_call w reply.xid ≡ o → Moves (answered_at w says o)
    by_place None is = stranger_moves (item ∷ [])
    by_place (Some place) is = by_mirror place is (slice_get w.mirrors place) refl

    pub reply_moves : AfterMoves (h ++ Hears (Recorded (Server server) bytes now) ∷ []) name reports w (after_reply w reply.xid (reply_of_call out.call reply))
    reply_moves = by_place (mirror_of_call w reply.xid) refl

  -- ---- a timeout

  module _ (more : List HistoryItem) (xid : ℕ) where
    again_moves : (place : ℕ) (m : WriterMirror) → slice_get w.mirrors place ≡ Some m → (timeouts : ℕ) (call : WriterCall) → ((n : ℕ) → times_out n call ≡ times_out n m.call) → is_commit_out call ≡ is_commit_out m.call → is_idle_call call ≡ is_idle_call m.call
        → CallStands h name w.cred w.taken m.id m.answered call → AfterMoves (h ++ more) name reports w (timed_out_as w place m timeouts call)
    again_moves place m there timeouts call times commit idle o = by_test (timeouts == 2)
      where
        by_test : (b : Bool) → AfterMoves (h ++ more) name reports w (if b then fails w place m Timeouts else record { writer = with_writer_mirror w place (with_writer_call call m); step = step.Waiting })
        by_test true = fails_moves more place m Timeouts there
        by_test false = record {
          moves =
              set_moves more (also reports step.Waiting) (λ k is. or_left (reports k) false is) place m (with_writer_call call m) there refl
              (reported_stands (h ++ more) name w.cred w.taken reports (with_writer_call call m) (again_stands h name w.cred w.taken reports m (s place m there) more call times commit idle o) (also reports step.Waiting) (λ k is. or_left (reports k) false is)) (λ is. is);
          failed = tt;
        }

    late_call : (place : ℕ) (m : WriterMirror) → slice_get w.mirrors place ≡ Some m → (call : WriterCall) → m.call ≡ call → CallStands h name w.cred w.taken m.id m.answered call → AfterMoves (h ++ more) name reports w (call_timed_out w place m call)
    late_call place m there NoCall at o = stranger_moves more
    late_call place m there (OutWrite k n timeouts) at o = again_moves place m there timeouts (OutWrite k n (timeouts + 1)) (λ i. sym (ap (times_out i) at)) (sym (ap is_commit_out at)) (sym (ap is_idle_call at)) o
    late_call place m there (OutCommit k timeouts) at o = again_moves place m there timeouts (OutCommit k (timeouts + 1)) (λ i. sym (ap (times_out i) at)) (sym (ap is_commit_out at)) (sym (ap is_idle_call at)) o

    late_mirror : (place : ℕ) (o : Option WriterMirror) → slice_get w.mirrors place ≡ o → AfterMoves (h ++ more) name reports w (mirror_timed_out w place o)
    late_mirror place None there = stranger_moves more
    late_mirror place (Some m) there = late_call place m there m.call refl (s place m there).call

    late_place : (o : Option ℕ) → AfterMoves (h ++ more) name reports w (timed_out_at w o)
    late_place None = stranger_moves more
    late_place (Some place) = late_mirror place (slice_get w.mirrors place) refl

    pub timeout_moves : AfterMoves (h ++ more) name reports w (after_timeout w xid)
    timeout_moves = late_place (mirror_of_call w xid)

  -- ---- a call goes out

  send_at : (xid place : ℕ) (m : WriterMirror) → slice_get w.mirrors place ≡ Some m → (next : NextCall) (call : DsCallValue) → IsWaiting m next → call_for w m.id next ≡ Some call
      → WriterMoves (h ++ Sends (CallsServer m.id.server xid name w.cred call) ∷ []) name reports w (with_writer_mirror w place (with_out xid next m))
  send_at xid place m there (SendsWrite n) call waiting is = by_taken (slice_get w.taken n) refl is
    where
      by_taken : (o : Option TakenWrite) → slice_get w.taken n ≡ o → write_of_taken m.id o ≡ Some call
          → WriterMoves (h ++ Sends (CallsServer m.id.server xid name w.cred call) ∷ []) name reports w (with_writer_mirror w place (with_out xid (SendsWrite n) m))
      by_taken None taken is = absurd (none-some call is)
      by_taken (Some t) taken is =
          subst (λ (k : DsCallValue). WriterMoves (h ++ Sends (CallsServer m.id.server xid name w.cred k) ∷ []) name reports w (with_writer_mirror w place (with_out xid (SendsWrite n) m))) (same_Some _ call is)
          (set_moves (Sends (CallsServer m.id.server xid name w.cred (Write m.id.fileid t.at false t.bytes)) ∷ []) reports (λ k is. is) place m (with_out xid (SendsWrite n) m) there refl
          (write_out h name w.cred w.taken reports m (s place m there) xid n t waiting taken) (λ is. is))
  send_at xid place m there SendsCommit call waiting is =
      subst (λ (k : DsCallValue). WriterMoves (h ++ Sends (CallsServer m.id.server xid name w.cred k) ∷ []) name reports w (with_writer_mirror w place (with_out xid SendsCommit m))) (same_Some _ call is)
      (set_moves (CommitItem name w.cred m.id xid ∷ []) reports (λ k is. is) place m (with_out xid SendsCommit m) there refl (commit_out h name w.cred w.taken reports m (s place m there) xid waiting) (λ is. is))

  pub send_moves : (xid : ℕ) (sends : WriterSends) → next_sent w xid ≡ Some sends → WriterMoves (h ++ Sends (CallsServer sends.id.server xid name w.cred sends.call) ∷ []) name reports w sends.writer
  send_moves xid sends is =
      let one : Sending w xid sends = sending w xid sends is in
      subst (λ (x : WriterValue). WriterMoves (h ++ Sends (CallsServer sends.id.server xid name w.cred sends.call) ∷ []) name reports w x) (sym one.writer_is)
      (subst (λ (id : MirrorId). WriterMoves (h ++ Sends (CallsServer id.server xid name w.cred sends.call) ∷ []) name reports w (with_writer_mirror w one.place (with_out xid one.next one.mirror))) one.id_is
      (send_at xid one.place one.mirror one.found one.next sends.call (waits w.wants_commit one.mirror one.next one.next_is) one.call_is))

  -- ---- a write is taken

  pub write_taken : (at : ℕ) (bytes : List ℕ) → WriterStands h name reports (with_write w at bytes)
  write_taken at bytes place m there = by_old (slice_get w.mirrors place) refl (sym (slice_get-map (queued (length w.taken)) w.mirrors place) ∙ there)
    where
      by_old : (o : Option WriterMirror) → slice_get w.mirrors place ≡ o → option_map (queued (length w.taken)) o ≡ Some m → MirrorStands h name w.cred (w.taken ++ (record { at = at; bytes = bytes }) ∷ []) reports m
      by_old None old is = absurd (none-some m is)
      by_old (Some k) old is =
          subst (MirrorStands h name w.cred (w.taken ++ (record { at = at; bytes = bytes }) ∷ []) reports) (same_Some (queued (length w.taken) k) m is)
          (taken_stands h name w.cred w.taken reports k (s place k old) (length w.taken) (record { at = at; bytes = bytes }) refl)

-- ---- a writer that is settled

-- what its mirrors have, and that each is settled
pub record IsDone (w : WriterValue) : Type 0 where
  pub counts : AtEach w.mirrors CountsOnce
  pub settled : IsSettled w.mirrors

-- sends nothing
pub sends_nothing : (w : WriterValue) (xid : ℕ) (sends : WriterSends) → IsDone w → next_sent w xid ≡ Some sends → ⊥
sends_nothing w xid sends d is =
    let one : Sending w xid sends = sending w xid sends is in
    (still one.mirror (d.counts one.place one.mirror one.found) (d.settled one.place one.mirror one.found)).next w.wants_commit one.next one.next_is

-- and has nothing out
pub nothing_out : (w : WriterValue) (server : ℕ) (out : OutCall) → IsDone w → out_at w server ≡ Some out → ⊥
nothing_out w server out d is = by_mirror (find (λ (m : WriterMirror). m.id.server == server) w.mirrors) refl is
  where
    not_both : false ≡ true → ⊥
    not_both e = absurd cc

    by_call : (m : WriterMirror) (call : WriterCall) → is_idle_call call ≡ true → out_call w m.id call ≡ Some out → ⊥
    by_call m NoCall idle is = none-some out is
    by_call m (OutWrite xid n timeouts) idle is = not_both idle
    by_call m (OutCommit xid timeouts) idle is = not_both idle

    by_mirror : (o : Option WriterMirror) → find (λ (m : WriterMirror). m.id.server == server) w.mirrors ≡ o → out_at_mirror w o ≡ Some out → ⊥
    by_mirror None at is = none-some out is
    by_mirror (Some m) at is =
        let f : Found (λ (m : WriterMirror). m.id.server == server) w.mirrors m = found (λ (m : WriterMirror). m.id.server == server) w.mirrors m at in
        by_call m m.call (still m (d.counts f.place m f.there) (d.settled f.place m f.there)).call is

-- ---- what goes out

-- a WRITE that goes out, or is out, is one of those that were taken
abbrev pub IsOfTaken : WriterValue → DsCallValue → Type 0
IsOfTaken w (Write fileid at synced bytes) = (n : ℕ) × (slice_get w.taken n ≡ Some (record { at = at; bytes = bytes }))
IsOfTaken w call = Unit {0}

of_write : (w : WriterValue) (id : MirrorId) (n : ℕ) (o : Option TakenWrite) (call : DsCallValue) → slice_get w.taken n ≡ o → write_of_taken id o ≡ Some call → IsOfTaken w call
of_write w id n None call at is = absurd (none-some call is)
of_write w id n (Some t) call at is = subst (IsOfTaken w) (same_Some _ call is) (n, at)

pub sends_taken : (w : WriterValue) (xid : ℕ) (sends : WriterSends) → next_sent w xid ≡ Some sends → IsOfTaken w sends.call
sends_taken w xid sends is = by_next (sending w xid sends is).next (sending w xid sends is).call_is
  where
    by_next : (next : NextCall) → call_for w (sending w xid sends is).mirror.id next ≡ Some sends.call → IsOfTaken w sends.call
    by_next (SendsWrite n) its = of_write w (sending w xid sends is).mirror.id n (slice_get w.taken n) sends.call refl its
    by_next SendsCommit its = subst (IsOfTaken w) (same_Some _ sends.call its) tt

pub out_taken : (w : WriterValue) (server : ℕ) (out : OutCall) → out_at w server ≡ Some out → IsOfTaken w out.call
out_taken w server out is = by_mirror (find (λ (m : WriterMirror). m.id.server == server) w.mirrors) is
  where
    by_taken : (id : MirrorId) (xid n : ℕ) (o : Option TakenWrite) → slice_get w.taken n ≡ o → out_as xid (write_of_taken id o) ≡ Some out → IsOfTaken w out.call
    by_taken id xid n None at is = absurd (none-some out is)
    by_taken id xid n (Some t) at is = subst (λ (o : OutCall). IsOfTaken w o.call) (same_Some _ out is) (n, at)

    by_call : (id : MirrorId) (call : WriterCall) → out_call w id call ≡ Some out → IsOfTaken w out.call
    by_call id NoCall is = absurd (none-some out is)
    by_call id (OutWrite xid n timeouts) is = by_taken id xid n (slice_get w.taken n) refl is
    by_call id (OutCommit xid timeouts) is = subst (λ (o : OutCall). IsOfTaken w o.call) (same_Some _ out is) tt

    by_mirror : (o : Option WriterMirror) → out_at_mirror w o ≡ Some out → IsOfTaken w out.call
    by_mirror None is = absurd (none-some out is)
    by_mirror (Some m) is = by_call m.id m.call is
