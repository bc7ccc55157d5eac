-- What an answer, a timeout, a new call and a new write leave of what a mirror has.
use Rattle.std.proofs.Common.{◌≡◌, ℕ, zero, suc, ◌+◌, Bool, true, false, List, [], ◌∷◌, ◌++◌, Option, Some, refl, sym, ap, subst, ◌∙◌, inl, inr, ◌⊎◌, length}
use Rattle.std.specs.Prelude.{slice_get, ◌||◌, ◌==◌}
use Rattle.std.specs.List.{filter}
use Rattle.std.proofs.lemmas.List.{length-append}
use Rattle.cluster_model.specs.declared.ids.NodeId.TheVariants.{Server}
use Rattle.cluster_model.specs.declared.ds_call.Shown.{Shown}
use Rattle.cluster_model.specs.DsCalls.{Write, Commit, Written, Committed}
use Rattle.cluster_model.proofs.Elements.{slice_get-push}
use Rattle.mirror_writer.specs.declared.call.TakenWrite.{TakenWrite}
use Rattle.mirror_writer.specs.declared.call.WriteAnswer.{WriteAnswer}
use Rattle.mirror_writer.specs.declared.call.WriterCall.{WriterCall}
use Rattle.mirror_writer.specs.declared.call.WriterCall.TheVariants.{NoCall, OutWrite, OutCommit}
use Rattle.mirror_writer.specs.declared.call.NextCall.TheVariants.{SendsWrite, SendsCommit}
use Rattle.mirror_writer.specs.Writers.{WriterMirror, queued, with_out, with_write_answer, with_commit, with_failure, without_call, with_writer_call, has_verifier, covered_flag, is_committed}
use Rattle.client_state.specs.ClientSends.{CallsServer}
use Rattle.client_laws.specs.ClientHistory.{HistoryItem, Hears, Sends, Recorded}
use Rattle.client_laws.specs.ClientRunLaws.{IsDsReply}
use Rattle.client_laws.proofs.Orders.{in_next, in_end}
use Rattle.client_laws.proofs.Later.{every_map, every_append, call_later, mirror_later, taken_written_next, taken_covered_later, written_next}
use Rattle.client_laws.proofs.Counting.{IsWaiting, taken_counts, out_counts, answer_counts, dropped_counts, again_counts, commit_counts}
use Rattle.client_laws.proofs.Places.{covered_now, covered_length, all_covered, every_filter, same_number, or_right, equal}
use Rattle.client_laws.proofs.Stands.{TakenWritten, TakenCovered, WriteOut, CommitItem, CallStands, MirrorStands, is_settled_there, times_out, is_commit_out, is_idle_call}

module _ (h : List HistoryItem) (name : List ℕ) (cred : ℕ) (taken : List TakenWrite) (reports : ℕ → Bool) (m : WriterMirror) (s : MirrorStands h name cred taken reports m) where
  -- ---- an answer

  abbrev answer_item : List ℕ → ℕ → HistoryItem
  answer_item bytes now = Hears (Recorded (Server m.id.server) bytes now)

  abbrev Answered : List ℕ → ℕ → WriterMirror → Type 0
  Answered bytes now new = MirrorStands (h ++ answer_item bytes now ∷ []) name cred taken reports new

  pub write_stands : (bytes : List ℕ) (now xid n timeouts v : ℕ) (shown : Option Shown) → m.call ≡ OutWrite xid n timeouts → (out : WriteOut h name cred taken m.id xid n)
      → IsDsReply bytes xid (Write m.id.fileid out.write.at false out.write.bytes) (Written shown v) → MirrorStands (h ++ Hears (Recorded (Server m.id.server) bytes now) ∷ []) name cred taken reports (with_write_answer n v m)
  write_stands bytes now xid n timeouts v shown at out says =
      let later : Answered bytes now m = mirror_later h (answer_item bytes now ∷ []) name cred taken reports m s in
      record {
        size = s.size;
        call = tt;
        answered = every_append (TakenWritten (h ++ answer_item bytes now ∷ []) cred taken m.id []) m.answered (record { write = n; verifier = v } ∷ []) later.answered (one, tt);
        covered = later.covered;
        reported = s.reported;
        counts = answer_counts m xid n timeouts v at s.counts;
      }
    where
      one : TakenWritten (h ++ answer_item bytes now ∷ []) cred taken m.id [] (record { write = n; verifier = v })
      one = record {
        write = out.write;
        there = out.there;
        written = record {
          xid = xid;
          name = name;
          bytes = bytes;
          now = now;
          shown = shown;
          says = says;
          order = in_next (Sends (CallsServer m.id.server xid name cred (Write m.id.fileid out.write.at false out.write.bytes)) ∷ []) h (answer_item bytes now) out.sent;
        };
      }

  pub commit_stands : (bytes : List ℕ) (now xid timeouts v : ℕ) (shown : Option Shown) → CallStands h name cred taken m.id m.answered (OutCommit xid timeouts)
      → IsDsReply bytes xid (Commit m.id.fileid) (Committed shown v) → MirrorStands (h ++ Hears (Recorded (Server m.id.server) bytes now) ∷ []) name cred taken reports (with_commit v m)
  commit_stands bytes now xid timeouts v shown out says = record {
    size = covered_length (filter (has_verifier v) m.answered) m.covered ∙ s.size;
    call = tt;
    answered = tt;
    covered = λ n is. by_answer n (covered_now HasAnswer (filter (has_verifier v) m.answered) m.covered n (every_filter (TakenWritten h cred taken m.id (CommitItem name cred m.id xid ∷ [])) (has_verifier v) m.answered out.1) is);
    reported = s.reported;
    counts = commit_counts m v refl s.counts;
  }
    where
      HasAnswer : WriteAnswer → Type 0
      HasAnswer a = TakenWritten h cred taken m.id (CommitItem name cred m.id xid ∷ []) a × (has_verifier v a ≡ true)

      its : (n : ℕ) (a : WriteAnswer) → a.write ≡ n → TakenWritten h cred taken m.id (CommitItem name cred m.id xid ∷ []) a → has_verifier v a ≡ true → TakenCovered (h ++ answer_item bytes now ∷ []) cred taken m.id n
      its n a at t same = record {
        write = t.write;
        there = ap (slice_get taken) (sym at) ∙ t.there;
        covered = record {
          verifier = a.verifier;
          xid = xid;
          name = name;
          bytes = bytes;
          now = now;
          shown = shown;
          says = subst (λ (k : ℕ). IsDsReply bytes xid (Commit m.id.fileid) (Committed shown k)) (sym (same_number a.verifier v same)) says;
          written = written_next h (answer_item bytes now) m.id cred t.write.at t.write.bytes a.verifier (CommitItem name cred m.id xid ∷ []) t.written;
        };
      }

      by_answer : (n : ℕ) → (covered_flag (slice_get m.covered n) ≡ true) ⊎ ((a : WriteAnswer) × (a.write ≡ n) × HasAnswer a) → TakenCovered (h ++ answer_item bytes now ∷ []) cred taken m.id n
      by_answer n (inl is) = taken_covered_later h (answer_item bytes now ∷ []) cred taken m.id n (s.covered n is)
      by_answer n (inr (a, at, has)) = its n a at has.0 has.1

  -- ---- without an answer

  pub failure_stands : (more : List HistoryItem) → MirrorStands (h ++ more) name cred taken (λ server. reports server || (m.id.server == server)) (with_failure m)
  failure_stands more =
      let later : MirrorStands (h ++ more) name cred taken reports m = mirror_later h more name cred taken reports m s in
      record { size = s.size; call = tt; answered = later.answered; covered = later.covered; reported = λ failed. or_right (reports m.id.server) (m.id.server == m.id.server) (equal_there m.id.server); counts = dropped_counts m (with_failure m) refl refl refl refl s.counts }
    where
      equal_there : (n : ℕ) → (n == n) ≡ true
      equal_there n = equal n

  pub no_call_stands : (more : List HistoryItem) → MirrorStands (h ++ more) name cred taken reports (without_call m)
  no_call_stands more =
      let later : MirrorStands (h ++ more) name cred taken reports m = mirror_later h more name cred taken reports m s in
      record { size = s.size; call = tt; answered = later.answered; covered = later.covered; reported = s.reported; counts = dropped_counts m (without_call m) refl refl refl refl s.counts }

  pub again_stands : (more : List HistoryItem) (call : WriterCall) → ((n : ℕ) → times_out n call ≡ times_out n m.call) → is_commit_out call ≡ is_commit_out m.call → is_idle_call call ≡ is_idle_call m.call
      → CallStands h name cred taken m.id m.answered call → MirrorStands (h ++ more) name cred taken reports (with_writer_call call m)
  again_stands more call times commit idle out =
      let later : MirrorStands (h ++ more) name cred taken reports m = mirror_later h more name cred taken reports m s in
      record { size = s.size; call = call_later h more name cred taken m.id m.answered call out; answered = later.answered; covered = later.covered; reported = s.reported; counts = again_counts m call times commit idle s.counts }

  -- ---- a call goes out

  pub write_out : (xid n : ℕ) (w : TakenWrite) → IsWaiting m (SendsWrite n) → slice_get taken n ≡ Some w
      → MirrorStands (h ++ Sends (CallsServer m.id.server xid name cred (Write m.id.fileid w.at false w.bytes)) ∷ []) name cred taken reports (with_out xid (SendsWrite n) m)
  write_out xid n w waits there =
      let item : HistoryItem = Sends (CallsServer m.id.server xid name cred (Write m.id.fileid w.at false w.bytes)) in
      let later : MirrorStands (h ++ item ∷ []) name cred taken reports m = mirror_later h (item ∷ []) name cred taken reports m s in
      record { size = s.size; call = record { write = w; there = there; sent = in_end h item }; answered = later.answered; covered = later.covered; reported = s.reported; counts = out_counts m xid (SendsWrite n) waits s.counts }

  pub commit_out : (xid : ℕ) → IsWaiting m SendsCommit → MirrorStands (h ++ CommitItem name cred m.id xid ∷ []) name cred taken reports (with_out xid SendsCommit m)
  commit_out xid waits =
      let later : MirrorStands (h ++ CommitItem name cred m.id xid ∷ []) name cred taken reports m = mirror_later h (CommitItem name cred m.id xid ∷ []) name cred taken reports m s in
      record {
        size = s.size;
        call = (
          in_end h (CommitItem name cred m.id xid),
          every_map (TakenWritten h cred taken m.id []) (TakenWritten (h ++ CommitItem name cred m.id xid ∷ []) cred taken m.id (CommitItem name cred m.id xid ∷ [])) (taken_written_next h (CommitItem name cred m.id xid) cred taken m.id []) m.answered s.answered,
        );
        answered = later.answered;
        covered = later.covered;
        reported = s.reported;
        counts = out_counts m xid SendsCommit waits s.counts;
      }

  -- ---- a write is taken

  grown : (w : TakenWrite) (behind : List HistoryItem) (a : WriteAnswer) → TakenWritten h cred taken m.id behind a → TakenWritten h cred (taken ++ w ∷ []) m.id behind a
  grown w behind a t = record { write = t.write; there = slice_get-push taken a.write t.write w t.there; written = t.written }

  call_grown : (w : TakenWrite) (call : WriterCall) → CallStands h name cred taken m.id m.answered call → CallStands h name cred (taken ++ w ∷ []) m.id m.answered call
  call_grown w NoCall out = tt
  call_grown w (OutWrite xid n timeouts) out = record { write = out.write; there = slice_get-push taken n out.write w out.there; sent = out.sent }
  call_grown w (OutCommit xid timeouts) out =
      (out.0, every_map (TakenWritten h cred taken m.id (CommitItem name cred m.id xid ∷ [])) (TakenWritten h cred (taken ++ w ∷ []) m.id (CommitItem name cred m.id xid ∷ [])) (grown w (CommitItem name cred m.id xid ∷ [])) m.answered out.1)

  flag_before : (flags : List Bool) (n : ℕ) → covered_flag (slice_get (flags ++ false ∷ []) n) ≡ true → covered_flag (slice_get flags n) ≡ true
  flag_before [] zero is = absurd cc
  flag_before [] (suc n) is = is
  flag_before (b ∷ flags) zero is = is
  flag_before (b ∷ flags) (suc n) is = flag_before flags n is

  covered_grown : (w : TakenWrite) (n : ℕ) → TakenCovered h cred taken m.id n → TakenCovered h cred (taken ++ w ∷ []) m.id n
  covered_grown w n t = record { write = t.write; there = slice_get-push taken n t.write w t.there; covered = t.covered }

  pub taken_stands : (n : ℕ) (w : TakenWrite) → n ≡ length taken → MirrorStands h name cred (taken ++ w ∷ []) reports (queued n m)
  taken_stands n w at = record {
    size = length-append m.covered (false ∷ []) ∙ ap (λ k. k + 1) s.size ∙ sym (length-append taken (w ∷ []));
    call = call_grown w m.call s.call;
    answered = every_map (TakenWritten h cred taken m.id []) (TakenWritten h cred (taken ++ w ∷ []) m.id []) (grown w []) m.answered s.answered;
    covered = λ k is. covered_grown w k (s.covered k (flag_before m.covered k is));
    reported = s.reported;
    counts = taken_counts m n (at ∙ sym s.size) s.counts;
  }

  -- ---- more is reported

  pub reported_stands : (more : ℕ → Bool) → ((server : ℕ) → reports server ≡ true → more server ≡ true) → MirrorStands h name cred taken more m
  reported_stands more wider = record { size = s.size; call = s.call; answered = s.answered; covered = s.covered; reported = λ failed. wider m.id.server (s.reported failed); counts = s.counts }

-- a mirror that was settled is so behind a COMMIT's answer
pub commit_settles : (v : ℕ) (m : WriterMirror) → is_settled_there m ≡ true → is_settled_there (with_commit v m) ≡ true
commit_settles v m is = by_failure m.has_failed is
  where
    by_failure : (b : Bool) → (b || is_committed m) ≡ true → (b || is_committed (with_commit v m)) ≡ true
    by_failure true is = refl
    by_failure false is = all_covered (filter (has_verifier v) m.answered) m.covered is
