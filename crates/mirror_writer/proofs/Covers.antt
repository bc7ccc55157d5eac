-- A taken write counts as covered at a mirror just where the notes say so.
use Rattle.std.proofs.Common.{◌≡◌, ℕ, ◌+◌, ◌<◌, ◌≤◌, Bool, true, false, List, [], ◌∷◌, ◌++◌, length, cond, Some, refl, sym, ap, subst, ◌∙◌, arith, inl, inr, ◌⊎◌, append_assoc}
use Rattle.std.specs.Prelude.{slice_get, not, ◌==◌}
use Rattle.std.specs.List.{filter}
use Rattle.std.proofs.lemmas.Bool.{cases_eq, cases_lt, both_ways}
use Rattle.std.proofs.lemmas.List.{length-append, append-nil}
use Rattle.std.proofs.lemmas.Option.{same_Some}
use Rattle.mirror_writer.specs.declared.call.WriteAnswer.{WriteAnswer}
use Rattle.mirror_writer.specs.declared.call.WriterCall.{WriterCall}
use Rattle.mirror_writer.specs.declared.call.WriterCall.TheVariants.{NoCall, OutWrite, OutCommit}
use Rattle.mirror_writer.specs.Writers.{WriterMirror, WriterValue, queued, with_write_answer, with_commit, unqueued, has_verifier, covered_flag}
use Rattle.mirror_writer.specs.WriterLaws.{WriterNote, CommitSent, WriteAnswered, CommitAnswered, last_verifier, is_commit_at, IsCoveredBy}
use Rattle.mirror_writer.proofs.Moved.{Turned, Queues, Moves, Moved, Rests, SentWrite, SentCommit, TookAnswer, TookCommit, Drops, Fails, LateWrite, LateCommit, IsAway}
use Rattle.mirror_writer.proofs.PlainLaws.{flag_stays, flag_pushed}
use Rattle.mirror_writer.proofs.Noted.{last_away, last_sent, last_commit, last_written, last_other, same_last, is_this_commit, still_covered, CoveredNow, ByLast, Before, covered_now, IsQuiet, covered_before, away_quiet, SentNow, sent_still, sent_first}
use Rattle.mirror_writer.proofs.Answered.{IsAnswered, answered_push, answered_last, answered_back, in_queue, in_call, in_answers, places_of, counted, uncounted, queue_push, queue_append, answers_push, answered_counts, again, again_fewer, covered_or_again, flag_covered, flag_from, length-covered_by}

abbrev pub is_commit_out : WriterCall → Bool
is_commit_out NoCall = false
is_commit_out (OutWrite xid write timeouts) = false
is_commit_out (OutCommit xid timeouts) = true

abbrev pub IsCovered : WriterMirror → ℕ → Type 0
IsCovered m k = covered_flag (slice_get m.covered k) ≡ true

-- an answered write is covered, is among the answers, or waits to go out again
abbrev pub IsKnown : WriterMirror → ℕ → ℕ → Type 0
IsKnown m k v = IsCovered m k ⊎ (IsAnswered m.answered k v ⊎ (0 < in_queue k m.queue + in_call k m.call))

pub record CoversSo (m : WriterMirror) (place k : ℕ) (notes : List WriterNote) : Type 0 where
  pub only : IsCovered m k → IsCoveredBy place k notes
  pub where_so : IsCoveredBy place k notes → IsCovered m k

-- what holds of one mirror in every run: `taken` writes are taken, and `free` says that the writer is not fenced
pub record Holds (taken : ℕ) (free : Bool) (place : ℕ) (m : WriterMirror) (notes : List WriterNote) : Type 0 where
  pub size : length m.covered ≡ taken
  pub once : (k : ℕ) → places_of k m ≤ 1
  pub below : (k : ℕ) → taken ≤ k → places_of k m ≡ 0
  pub sound : (k v : ℕ) → IsAnswered m.answered k v → last_verifier place k notes ≡ Some v
  pub known : free ≡ true → m.has_failed ≡ false → (k v : ℕ) → last_verifier place k notes ≡ Some v → IsKnown m k v
  pub sent : is_commit_out m.call ≡ true → SentNow place notes
  pub settled : is_commit_out m.call ≡ true → (k v : ℕ) → last_verifier place k notes ≡ Some v → IsCovered m k ⊎ IsAnswered m.answered k v
  pub covers : (k : ℕ) → CoversSo m place k notes

-- nothing of this place is noted, and the mirror rests
rests_hold : (taken : ℕ) (free free' : Bool) (place : ℕ) (m : WriterMirror) (notes added : List WriterNote) → (free' ≡ true → free ≡ true) → IsAway place added → Holds taken free place m notes
    → Holds taken free' place m (notes ++ added)
rests_hold taken free free' place m notes added was away h = record {
  size = h.size;
  once = h.once;
  below = h.below;
  sound = λ k v is. last_away place k notes added away ∙ h.sound k v is;
  known = λ is_free open' k v last. h.known (was is_free) open' k v (sym (last_away place k notes added away) ∙ last);
  sent = λ out. sent_still place notes added away (h.sent out);
  settled = λ out k v last. h.settled out k v (sym (last_away place k notes added away) ∙ last);
  covers = λ k. record {
    only = λ so. still_covered place k notes added ((h.covers k).only so);
    where_so = λ so. (h.covers k).where_so (covered_before place k notes added (away_quiet place added away) so);
  };
}

-- the same, where another mirror has the same flags, and the covers follow
same_covers : (place : ℕ) (m m' : WriterMirror) (notes added : List WriterNote) → m'.covered ≡ m.covered → IsQuiet place added → ((k : ℕ) → CoversSo m place k notes) → (k : ℕ) → CoversSo m' place k (notes ++ added)
same_covers place m m' notes added same quiet covers k = record {
  only = λ so. still_covered place k notes added ((covers k).only (sym (ap (λ l. covered_flag (slice_get l k)) same) ∙ so));
  where_so = λ so. ap (λ l. covered_flag (slice_get l k)) same ∙ (covers k).where_so (covered_before place k notes added quiet so);
}

-- a write is taken
queues_hold : (taken : ℕ) (free free' : Bool) (place : ℕ) (m : WriterMirror) (notes : List WriterNote) → (free' ≡ true → free ≡ true) → Holds taken free place m notes → Holds (taken + 1) free' place (queued taken m) notes
queues_hold taken free free' place m notes was h = record {
  size = length-append m.covered (false ∷ []) ∙ ap (λ (n : ℕ). n + 1) h.size;
  once = λ k. by_same k (cases_eq taken k);
  below = λ k past. omega (arith, queue_push k taken m.queue, h.below k (omega (arith, past)), uncounted taken k (λ same. omega (arith, same, past)));
  sound = h.sound;
  known = λ is_free open' k v last. by_known k v (h.known (was is_free) open' k v last);
  sent = h.sent;
  settled = λ out k v last. by_settled k v (h.settled out k v last);
  covers = λ k. record {
    only = λ so. (h.covers k).only (flag_pushed m.covered k ∙ so);
    where_so = λ so. sym (flag_pushed m.covered k) ∙ (h.covers k).where_so so;
  };
}
  where
    by_same : (k : ℕ) → (taken ≡ k) ⊎ (taken ≡ k → ⊥) → places_of k (queued taken m) ≤ 1
    by_same k (inl same) = omega (arith, queue_push k taken m.queue, h.below k (omega (arith, same)), counted taken k same)
    by_same k (inr other) = omega (arith, queue_push k taken m.queue, h.once k, uncounted taken k other)

    by_known : (k v : ℕ) → IsKnown m k v → IsKnown (queued taken m) k v
    by_known k v (inl so) = inl (sym (flag_pushed m.covered k) ∙ so)
    by_known k v (inr (inl is)) = inr (inl is)
    by_known k v (inr (inr waits)) = inr (inr (omega (arith, waits, queue_push k taken m.queue)))

    by_settled : (k v : ℕ) → IsCovered m k ⊎ IsAnswered m.answered k v → IsCovered (queued taken m) k ⊎ IsAnswered m.answered k v
    by_settled k v (inl so) = inl (sym (flag_pushed m.covered k) ∙ so)
    by_settled k v (inr is) = inr is

-- where the mirror's answers and flags stay, nothing is noted, and each write stands where it stood or not at all
calm : (taken : ℕ) (free free' : Bool) (place : ℕ) (m m' : WriterMirror) (notes : List WriterNote) → (free' ≡ true → free ≡ true) → m'.covered ≡ m.covered → m'.answered ≡ m.answered
    → ((k : ℕ) → in_queue k m'.queue + in_call k m'.call ≤ in_queue k m.queue + in_call k m.call)
    → (free' ≡ true → m'.has_failed ≡ false → (m.has_failed ≡ false) × ((k : ℕ) → in_queue k m.queue + in_call k m.call ≤ in_queue k m'.queue + in_call k m'.call))
    → (is_commit_out m'.call ≡ true → is_commit_out m.call ≡ true) → Holds taken free place m notes → Holds taken free' place m' (notes ++ [])
calm taken free free' place m m' notes was flags answers fewer same out h =
    subst (λ l. Holds taken free' place m' l) (sym (append-nil notes)) (record {
      size = ap length flags ∙ h.size;
      once = λ k. omega (arith, fewer k, ap (in_answers k) answers, h.once k);
      below = λ k past. omega (arith, fewer k, ap (in_answers k) answers, h.below k past);
      sound = λ k v is. h.sound k v (subst (λ (l : List WriteAnswer). IsAnswered l k v) answers is);
      known = λ is_free open' k v last. by_known k v ((same is_free open').1 k) (h.known (was is_free) (same is_free open').0 k v last);
      sent = λ is. h.sent (out is);
      settled = λ is k v last. by_settled k v (h.settled (out is) k v last);
      covers = λ k. record {
        only = λ so. (h.covers k).only (sym (ap (λ l. covered_flag (slice_get l k)) flags) ∙ so);
        where_so = λ so. ap (λ l. covered_flag (slice_get l k)) flags ∙ (h.covers k).where_so so;
      };
    })
  where
    by_known : (k v : ℕ) → in_queue k m.queue + in_call k m.call ≤ in_queue k m'.queue + in_call k m'.call → IsKnown m k v → IsKnown m' k v
    by_known k v more (inl so) = inl (ap (λ l. covered_flag (slice_get l k)) flags ∙ so)
    by_known k v more (inr (inl is)) = inr (inl (subst (λ (l : List WriteAnswer). IsAnswered l k v) (sym answers) is))
    by_known k v more (inr (inr waits)) = inr (inr (omega (arith, waits, more)))

    by_settled : (k v : ℕ) → IsCovered m k ⊎ IsAnswered m.answered k v → IsCovered m' k ⊎ IsAnswered m'.answered k v
    by_settled k v (inl so) = inl (ap (λ l. covered_flag (slice_get l k)) flags ∙ so)
    by_settled k v (inr is) = inr (subst (λ (l : List WriteAnswer). IsAnswered l k v) (sym answers) is)

-- a COMMIT goes out
commit_sent : (taken : ℕ) (free free' : Bool) (place xid : ℕ) (m m' : WriterMirror) (notes : List WriterNote) → free ≡ true → m.has_failed ≡ false → m.call ≡ NoCall → m.queue ≡ []
    → m'.covered ≡ m.covered → m'.answered ≡ m.answered → m'.queue ≡ m.queue → m'.call ≡ OutCommit xid 0 → Holds taken free place m notes → Holds taken free' place m' (notes ++ CommitSent place ∷ [])
commit_sent taken free free' place xid m m' notes is_free open' idle empty flags answers queue call h = record {
  size = ap length flags ∙ h.size;
  once = λ k. omega (arith, fewer k, h.once k);
  below = λ k past. omega (arith, fewer k, h.below k past);
  sound = λ k v is. last_sent place k notes ∙ h.sound k v (subst (λ (l : List WriteAnswer). IsAnswered l k v) answers is);
  known = λ was open'' k v last. by_settled k v (settle k v (sym (last_sent place k notes) ∙ last));
  sent = λ is. sent_first place notes;
  settled = λ is k v last. moved k v (settle k v (sym (last_sent place k notes) ∙ last));
  covers = same_covers place m m' notes (CommitSent place ∷ []) flags (inr (CommitSent place, refl, λ v same. absurd (cc (same)))) h.covers;
}
  where
    fewer : (k : ℕ) → places_of k m' ≤ places_of k m
    fewer k = omega (arith, ap (in_queue k) queue, ap (in_call k) call, ap (in_answers k) answers)

    by_known : (k v : ℕ) → IsKnown m k v → IsCovered m k ⊎ IsAnswered m.answered k v
    by_known k v (inl so) = inl so
    by_known k v (inr (inl is)) = inr is
    by_known k v (inr (inr waits)) = absurd (omega (arith, waits, ap (in_queue k) empty, ap (in_call k) idle))

    settle : (k v : ℕ) → last_verifier place k notes ≡ Some v → IsCovered m k ⊎ IsAnswered m.answered k v
    settle k v last = by_known k v (h.known is_free open' k v last)

    moved : (k v : ℕ) → IsCovered m k ⊎ IsAnswered m.answered k v → IsCovered m' k ⊎ IsAnswered m'.answered k v
    moved k v (inl so) = inl (ap (λ l. covered_flag (slice_get l k)) flags ∙ so)
    moved k v (inr is) = inr (subst (λ (l : List WriteAnswer). IsAnswered l k v) (sym answers) is)

    by_settled : (k v : ℕ) → IsCovered m k ⊎ IsAnswered m.answered k v → IsKnown m' k v
    by_settled k v (inl so) = inl (ap (λ l. covered_flag (slice_get l k)) flags ∙ so)
    by_settled k v (inr is) = inr (inl (subst (λ (l : List WriteAnswer). IsAnswered l k v) (sym answers) is))

-- a WRITE is answered
write_taken : (taken : ℕ) (free free' : Bool) (place xid w t v : ℕ) (m : WriterMirror) (notes : List WriterNote) → (free' ≡ true → free ≡ true) → m.call ≡ OutWrite xid w t → Holds taken free place m notes
    → Holds taken free' place (with_write_answer w v m) (notes ++ WriteAnswered place w v ∷ [])
write_taken taken free free' place xid w t v m notes was call h = record {
  size = h.size;
  once = λ k. omega (arith, answers_push k w v m.answered, ap (in_call k) call, h.once k);
  below = λ k past. omega (arith, answers_push k w v m.answered, ap (in_call k) call, h.below k past);
  sound = λ k u is. by_sound k u (answered_back m.answered (record { write = w; verifier = v }) k u is);
  known = λ is_free open' k u last. by_same k u (h.known (was is_free) open' k u) last (cases_eq w k);
  sent = λ out. absurd (cc (out));
  settled = λ out k u last. absurd (cc (out));
  covers = same_covers place m (with_write_answer w v m) notes (WriteAnswered place w v ∷ []) refl (inr (WriteAnswered place w v, refl, λ u same. absurd (cc (same)))) h.covers;
}
  where
    by_old : (k u : ℕ) → IsAnswered m.answered k u → (w ≡ k) ⊎ (w ≡ k → ⊥) → last_verifier place k (notes ++ WriteAnswered place w v ∷ []) ≡ Some u
    by_old k u is (inl same) = absurd (omega (arith, h.once k, ap (in_call k) call, counted w k same, answered_counts m.answered k u is))
    by_old k u is (inr other) = last_other place k w v notes other ∙ h.sound k u is

    by_sound : (k u : ℕ) → IsAnswered m.answered k u ⊎ ((w ≡ k) × (v ≡ u)) → last_verifier place k (notes ++ WriteAnswered place w v ∷ []) ≡ Some u
    by_sound k u (inl is) = by_old k u is (cases_eq w k)
    by_sound k u (inr (same, ends)) = subst (λ (n : ℕ). last_verifier place n (notes ++ WriteAnswered place w v ∷ []) ≡ Some u) same (last_written place w v notes ∙ ap (λ n. Some n) ends)

    by_known : (k u : ℕ) → (w ≡ k → ⊥) → IsKnown m k u → IsKnown (with_write_answer w v m) k u
    by_known k u other (inl so) = inl so
    by_known k u other (inr (inl is)) = inr (inl (answered_push m.answered (record { write = w; verifier = v }) k u is))
    by_known k u other (inr (inr waits)) = inr (inr (omega (arith, waits, ap (in_call k) call, uncounted w k other)))

    by_same : (k u : ℕ) → (last_verifier place k notes ≡ Some u → IsKnown m k u) → last_verifier place k (notes ++ WriteAnswered place w v ∷ []) ≡ Some u → (w ≡ k) ⊎ (w ≡ k → ⊥) → IsKnown (with_write_answer w v m) k u
    by_same k u old last (inl same) =
        let ends : v ≡ u = same_Some v u (sym (last_written place w v notes) ∙ subst (λ (n : ℕ). last_verifier place n (notes ++ WriteAnswered place w v ∷ []) ≡ Some u) (sym same) last) in
        inr (inl (subst (λ (n : ℕ). IsAnswered (m.answered ++ (record { write = w; verifier = v }) ∷ []) n u) same (subst (λ (n : ℕ). IsAnswered (m.answered ++ (record { write = w; verifier = v }) ∷ []) w n) ends (answered_last m.answered w v))))
    by_same k u old last (inr other) = by_known k u other (old (sym (last_other place k w v notes other) ∙ last))

-- a COMMIT is answered
commit_taken : (taken : ℕ) (free free' : Bool) (place xid t v : ℕ) (m : WriterMirror) (notes : List WriterNote) → (free' ≡ true → free ≡ true) → m.call ≡ OutCommit xid t → Holds taken free place m notes
    → Holds taken free' place (with_commit v m) (notes ++ CommitAnswered place v ∷ [])
commit_taken taken free free' place xid t v m notes was call h = record {
  size = length-covered_by (filter (has_verifier v) m.answered) m.covered ∙ h.size;
  once = λ k. omega (arith, queue_append k m.queue (again v m.answered), again_fewer k v m.answered, h.once k);
  below = λ k past. omega (arith, queue_append k m.queue (again v m.answered), again_fewer k v m.answered, h.below k past);
  sound = λ k u is. absurd is;
  known = λ is_free open' k u last. by_known k u (h.known (was is_free) open' k u (sym (last_commit place k v notes) ∙ last));
  sent = λ is. absurd (cc (is));
  settled = λ is k u last. absurd (cc (is));
  covers = λ k. record {
    only = λ so. by_flag k (flag_from m.answered m.covered k v so);
    where_so = λ so. by_now k (covered_now place k notes (CommitAnswered place v) so);
  };
}
  where
    out : is_commit_out m.call ≡ true
    out = ap is_commit_out call

    within : (k u : ℕ) → IsAnswered m.answered k u → k < length m.covered
    within k u is = by_order (cases_lt k taken)
      where
        by_order : (k < taken) ⊎ (taken ≤ k) → k < length m.covered
        by_order (inl low) = omega (arith, low, h.size)
        by_order (inr past) = absurd (omega (arith, h.below k past, answered_counts m.answered k u is))

    by_again : (k u : ℕ) → (IsCovered (with_commit v m) k) ⊎ (0 < in_queue k (again v m.answered)) → IsKnown (with_commit v m) k u
    by_again k u (inl so) = inl so
    by_again k u (inr waits) = inr (inr (omega (arith, waits, queue_append k m.queue (again v m.answered))))

    by_known : (k u : ℕ) → IsKnown m k u → IsKnown (with_commit v m) k u
    by_known k u (inl so) = inl (flag_stays (filter (has_verifier v) m.answered) m.covered k so)
    by_known k u (inr (inl is)) = by_again k u (covered_or_again m.answered m.covered k u v is (within k u is))
    by_known k u (inr (inr waits)) = inr (inr (omega (arith, waits, ap (in_call k) call, queue_append k m.queue (again v m.answered))))

    by_flag : (k : ℕ) → IsCovered m k ⊎ IsAnswered m.answered k v → IsCoveredBy place k (notes ++ CommitAnswered place v ∷ [])
    by_flag k (inl so) = still_covered place k notes (CommitAnswered place v ∷ []) ((h.covers k).only so)
    by_flag k (inr is) =
        let now : SentNow place notes = h.sent out in
        record {
          before = now.before;
          between = now.between;
          behind = [];
          verifier = v;
          split = ap (λ l. l ++ CommitAnswered place v ∷ []) now.split ∙ append_assoc now.before (CommitSent place ∷ now.between) (CommitAnswered place v ∷ []);
          its_answer = now.quiet;
          last = now.same k ∙ h.sound k v is;
        }

    by_settled : (k : ℕ) → IsCovered m k ⊎ IsAnswered m.answered k v → IsCovered (with_commit v m) k
    by_settled k (inl so) = flag_stays (filter (has_verifier v) m.answered) m.covered k so
    by_settled k (inr is) = flag_covered m.answered m.covered k v is (within k v is)

    verifier_in : WriterNote → ℕ
    verifier_in (CommitSent p) = 0
    verifier_in (WriteAnswered p w u) = 0
    verifier_in (CommitAnswered p u) = u

    by_now : (k : ℕ) → CoveredNow place k notes (CommitAnswered place v) → IsCovered (with_commit v m) k
    by_now k (Before so) = flag_stays (filter (has_verifier v) m.answered) m.covered k ((h.covers k).where_so so)
    by_now k (ByLast before between u split quiet last is) =
        let now : SentNow place notes = h.sent out in
        let same : before ≡ now.before = same_last (is_commit_at place) before (CommitSent place) between now.before (CommitSent place) now.between (sym split ∙ now.split) (is_this_commit place) (is_this_commit place) quiet now.quiet in
        let ends : v ≡ u = same_verifier is in
        by_settled k (h.settled out k v (sym (now.same k) ∙ sym (ap (last_verifier place k) same) ∙ last ∙ ap (λ n. Some n) (sym ends)))
      where
        same_verifier : CommitAnswered place v ≡ CommitAnswered place u → v ≡ u
        same_verifier is = cc (is)

-- ---- each move

moved_holds : (taken : ℕ) (free free' : Bool) (place : ℕ) (m m' : WriterMirror) (notes added : List WriterNote) → (free' ≡ true → free ≡ true) → Moved free free' place m m' added → Holds taken free place m notes
    → Holds taken free' place m' (notes ++ added)
moved_holds taken free free' place m m' notes added was (Rests is away) h = subst (λ (x : WriterMirror). Holds taken free' place x (notes ++ added)) (sym is) (rests_hold taken free free' place m notes added was away h)
moved_holds taken free free' place m m' notes added was (SentWrite xid k rest idle queue is noted) h =
    subst (λ l. Holds taken free' place m' (notes ++ l)) (sym noted)
    (calm taken free free' place m m' notes was (ap (λ (x : WriterMirror). x.covered) is) (ap (λ (x : WriterMirror). x.answered) is) (λ n. omega (arith, sizes n)) (λ is_free open'. (sym (ap (λ (x : WriterMirror). x.has_failed) is) ∙ open', λ n. omega (arith, sizes n)))
    (λ out. absurd (cc (ap (λ (x : WriterMirror). is_commit_out x.call) is, out))) h)
  where
    sizes : (n : ℕ) → in_queue n m'.queue + in_call n m'.call ≡ in_queue n m.queue + in_call n m.call
    sizes n =
        let now : in_queue n m'.queue ≡ in_queue n (unqueued m.queue) = ap (λ (x : WriterMirror). in_queue n x.queue) is in
        let call : in_call n m'.call ≡ cond (k == n) 1 0 = ap (λ (x : WriterMirror). in_call n x.call) is in
        omega (arith, now, call, ap (λ l. in_queue n (unqueued l)) queue, ap (in_queue n) queue, ap (in_call n) idle)
moved_holds taken free free' place m m' notes added was (SentCommit xid is_free open' idle queue is noted) h =
    subst (λ l. Holds taken free' place m' (notes ++ l)) (sym noted)
    (commit_sent taken free free' place xid m m' notes is_free open' idle queue (ap (λ (x : WriterMirror). x.covered) is) (ap (λ (x : WriterMirror). x.answered) is) (ap (λ (x : WriterMirror). x.queue) is) (ap (λ (x : WriterMirror). x.call) is) h)
moved_holds taken free free' place m m' notes added was (TookAnswer xid k t v call is noted) h =
    subst (λ l. Holds taken free' place m' (notes ++ l)) (sym noted) (subst (λ (x : WriterMirror). Holds taken free' place x (notes ++ WriteAnswered place k v ∷ [])) (sym is) (write_taken taken free free' place xid k t v m notes was call h))
moved_holds taken free free' place m m' notes added was (TookCommit xid t v call is noted) h =
    subst (λ l. Holds taken free' place m' (notes ++ l)) (sym noted) (subst (λ (x : WriterMirror). Holds taken free' place x (notes ++ CommitAnswered place v ∷ [])) (sym is) (commit_taken taken free free' place xid t v m notes was call h))
moved_holds taken free free' place m m' notes added was (Drops ended is noted) h =
    subst (λ l. Holds taken free' place m' (notes ++ l)) (sym noted)
    (calm taken free free' place m m' notes was (ap (λ (x : WriterMirror). x.covered) is) (ap (λ (x : WriterMirror). x.answered) is) (λ n. omega (arith, ap (λ (x : WriterMirror). in_queue n x.queue) is, ap (λ (x : WriterMirror). in_call n x.call) is))
    (λ is_free open'. absurd (both_ways free' ended is_free)) (λ out. absurd (cc (ap (λ (x : WriterMirror). is_commit_out x.call) is, out))) h)
moved_holds taken free free' place m m' notes added was (Fails is noted) h =
    subst (λ l. Holds taken free' place m' (notes ++ l)) (sym noted)
    (calm taken free free' place m m' notes was (ap (λ (x : WriterMirror). x.covered) is) (ap (λ (x : WriterMirror). x.answered) is) (λ n. omega (arith, ap (λ (x : WriterMirror). in_queue n x.queue) is, ap (λ (x : WriterMirror). in_call n x.call) is))
    (λ is_free open'. absurd (cc (ap (λ (x : WriterMirror). x.has_failed) is, open'))) (λ out. absurd (cc (ap (λ (x : WriterMirror). is_commit_out x.call) is, out))) h)
moved_holds taken free free' place m m' notes added was (LateWrite xid k t u call is noted) h =
    subst (λ l. Holds taken free' place m' (notes ++ l)) (sym noted)
    (calm taken free free' place m m' notes was (ap (λ (x : WriterMirror). x.covered) is) (ap (λ (x : WriterMirror). x.answered) is) (λ n. omega (arith, sizes n)) (λ is_free open'. (sym (ap (λ (x : WriterMirror). x.has_failed) is) ∙ open', λ n. omega (arith, sizes n)))
    (λ out. absurd (cc (ap (λ (x : WriterMirror). is_commit_out x.call) is, out))) h)
  where
    sizes : (n : ℕ) → in_queue n m'.queue + in_call n m'.call ≡ in_queue n m.queue + in_call n m.call
    sizes n = omega (arith, ap (λ (x : WriterMirror). in_queue n x.queue) is, ap (λ (x : WriterMirror). in_call n x.call) is, ap (in_call n) call)
moved_holds taken free free' place m m' notes added was (LateCommit xid t u call is noted) h =
    subst (λ l. Holds taken free' place m' (notes ++ l)) (sym noted)
    (calm taken free free' place m m' notes was (ap (λ (x : WriterMirror). x.covered) is) (ap (λ (x : WriterMirror). x.answered) is) (λ n. omega (arith, sizes n)) (λ is_free open'. (sym (ap (λ (x : WriterMirror). x.has_failed) is) ∙ open', λ n. omega (arith, sizes n)))
    (λ out. ap is_commit_out call) h)
  where
    sizes : (n : ℕ) → in_queue n m'.queue + in_call n m'.call ≡ in_queue n m.queue + in_call n m.call
    sizes n = omega (arith, ap (λ (x : WriterMirror). in_queue n x.queue) is, ap (λ (x : WriterMirror). in_call n x.call) is, ap (in_call n) call)

pub turned_holds : (old new : WriterValue) (place : ℕ) (m m' : WriterMirror) (notes added : List WriterNote) → (not new.is_fenced ≡ true → not old.is_fenced ≡ true) → Turned old new place m m' added
    → Holds (length old.taken) (not old.is_fenced) place m notes → Holds (length new.taken) (not new.is_fenced) place m' (notes ++ added)
turned_holds old new place m m' notes added was (Queues size is noted) h =
    subst (λ l. Holds (length new.taken) (not new.is_fenced) place m' (notes ++ l)) (sym noted)
    (subst (λ l. Holds (length new.taken) (not new.is_fenced) place m' l) (sym (append-nil notes))
    (subst (λ (x : WriterMirror). Holds (length new.taken) (not new.is_fenced) place x notes) (sym is)
    (subst (λ (n : ℕ). Holds n (not new.is_fenced) place (queued (length old.taken) m) notes) (sym size) (queues_hold (length old.taken) (not old.is_fenced) (not new.is_fenced) place m notes was h))))
turned_holds old new place m m' notes added was (Moves size moved) h =
    subst (λ (n : ℕ). Holds n (not new.is_fenced) place m' (notes ++ added)) (sym size) (moved_holds (length old.taken) (not old.is_fenced) (not new.is_fenced) place m m' notes added was moved h)
