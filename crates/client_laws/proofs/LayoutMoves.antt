-- What becomes of a layout, and of the LAYOUTRETURN that is out.
use Rattle.client_laws.specs.RecallLaws.{RecalledSince}
use Rattle.std.proofs.Common.{◌≡◌, ℕ, zero, suc, ◌≤◌, Bool, true, false, List, [], ◌∷◌, ◌++◌, length, Option, Some, None, refl, sym, ap, subst, ◌∙◌, inl, inr, ◌⊎◌, arith}
use Rattle.std.specs.Prelude.{slice_get, slice_set, map, ◌||◌, ◌&&◌, ◌==◌, option_map}
use Rattle.std.specs.List.{list_any}
use Rattle.std.proofs.lemmas.Option.{none-some, same_Some, slice_get-map}
use Rattle.cluster_model.proofs.Elements.{slice_get-push, Pushed, Old, New, pushed}
use Rattle.cluster_model.specs.declared.ids.FileId.{FileId}
use Rattle.cluster_model.specs.declared.ids.Mirror.{Mirror}
use Rattle.cluster_model.specs.declared.ids.MirrorId.{MirrorId}
use Rattle.cluster_model.specs.declared.phase.LeftCause.{LeftCause}
use Rattle.cluster_model.specs.declared.entry.Entry.TheVariants.{Sent, Answer}
use Rattle.cluster_model.specs.declared.answer.UserAnswer.TheVariants as answer
use Rattle.cluster_model.specs.declared.answer.FailCause.TheVariants as failing
use Rattle.nfs4_types.specs.declared.ids.SessionId.{SessionId}
use Rattle.client_mds_calls.specs.FittingCalls.{reports_server}
use Rattle.client_mds_calls.specs.MdsCalls.{OnSlot}
use Rattle.client_mds_calls.specs.MdsCalls as slot
use Rattle.client_state.specs.ClientSends.{CallsMds}
use Rattle.cluster_model.specs.Journal.{is_mirror}
use Rattle.mirror_writer.specs.declared.call.TakenWrite.{TakenWrite}
use Rattle.mirror_writer.specs.declared.step.WriterStep.TheVariants as step
use Rattle.mirror_writer.specs.Writers.{WriterMirror, WriterValue, commit_wanted, new_mirror, with_write, queued}
use Rattle.client_file_calls.specs.declared.grant.LayoutGrant.{LayoutGrant}
use Rattle.client_file_calls.specs.declared.layout_return.FailedMirror.{FailedMirror}
use Rattle.client_state.specs.declared.stage.LayoutStage.{LayoutStage}
use Rattle.client_state.specs.declared.stage.LayoutStage.TheVariants.{Writing, Ending, Deferred, Returning}
use Rattle.client_state.specs.declared.layout.Layout.{Layout}
use Rattle.client_state.specs.ClientQueue.{with_writer, ends_layout, ending, is_writing}
use Rattle.client_calls.specs.ClientCalls.{failed_mirrors, failed_at}
use Rattle.client_answers.specs.ClientMirrors.{with_failed, with_status_at, reported_status}
use Rattle.client_answers.specs.ClientAnswers.{new_layout}
use Rattle.mirror_client.specs.ClientRule.{stage_after_tick}
use Rattle.client_laws.specs.ClientHistory.{HistoryItem, Enters, Sends, HasItem}
use Rattle.client_laws.specs.ClientRunLaws.{WasGranted, WasTakenUnder}
use Rattle.client_laws.proofs.Orders.{in_either, in_end}
use Rattle.client_laws.proofs.Later.{granted_later, mirror_later, under_uid_later, AreQuiet, every_in, recalled_before}
use Rattle.client_laws.proofs.Places.{FirstPlace, first_place, equal, same_number, or_left, or_right, length_set}
use Rattle.client_laws.proofs.MirrorMoves.{reported_stands}
use Rattle.client_laws.proofs.WriterMoves.{WriterMoves, HasMirror, also, write_taken}
use Rattle.client_laws.proofs.Stands.{LayoutStands, MirrorStands, IsSettled, IsTaken, reported_of, writer_ids, mirror_ids, QuietItem}

-- ---- the writer moved

pub layout_after : (h h' : List HistoryItem) (name : List ℕ) (reports wider : ℕ → Bool) (l : Layout) (w : WriterValue) → LayoutStands h' name reports l → WriterMoves h' name wider l.writer w
    → LayoutStands h' name wider (with_writer l w)
layout_after h h' name reports wider l w s m = record {
  grant = s.grant;
  granted = s.granted;
  stateid = s.stateid;
  mirrors = s.mirrors;
  uid = m.cred ∙ s.uid;
  taken = λ file at bytes i. subst (λ (t : List TakenWrite). IsTaken t at bytes) (sym m.taken) (s.taken file at bytes (subst (λ (k : ℕ). HasItem s.granted.since (Enters (Sent file (record { 0 = k }) at bytes))) m.cred i));
  ids = m.ids ∙ s.ids;
  few = s.few;
  statuses = s.statuses;
  writer = m.stands;
  entered = λ n t there. subst (λ (k : ℕ). WasTakenUnder h' k t.at t.bytes) (sym m.cred) (s.entered n t (ap (λ k. slice_get k n) (sym m.taken) ∙ there));
  was_taken = s.was_taken;
  was_given = s.was_given;
  settled = λ is. m.settled (s.settled is);
  not_writing = s.not_writing;
  returning = s.returning;
  recalled = s.recalled;
}

-- ---- a mirror is reported

any_append : (test : FailedMirror → Bool) (xs ys : List FailedMirror) → list_any test ys ≡ true → list_any test (xs ++ ys) ≡ true
any_append test [] ys is = is
any_append test (x ∷ xs) ys is = or_right (test x) (list_any test (xs ++ ys)) (any_append test xs ys is)

-- a status that is set reports its mirror, and leaves the others reported
set_reports : (mirrors : List Mirror) (statuses : List (Option ℕ)) (place status server : ℕ) (m : Mirror) → slice_get mirrors place ≡ Some m → length mirrors ≤ length statuses → (m.id.server == server) ≡ true
    → reports_server (failed_mirrors mirrors (slice_set statuses place (Some status))) server ≡ true
set_reports [] statuses place status server m there few is = absurd (none-some m there)
set_reports (x ∷ mirrors) [] place status server m there few is = absurd (omega (arith, few))
set_reports (x ∷ mirrors) (o ∷ statuses) zero status server m there few is = or_left (x.id.server == server) _ (ap (λ (k : Mirror). k.id.server == server) (same_Some x m there) ∙ is)
set_reports (x ∷ mirrors) (o ∷ statuses) (suc place) status server m there few is =
    any_append (λ f. f.server == server) (failed_at x.id.server o) (failed_mirrors mirrors (slice_set statuses place (Some status))) (set_reports mirrors statuses place status server m there (omega (arith, few)) is)

still_reports : (mirrors : List Mirror) (statuses : List (Option ℕ)) (place status server : ℕ) → reports_server (failed_mirrors mirrors statuses) server ≡ true
    → reports_server (failed_mirrors mirrors (slice_set statuses place (Some status))) server ≡ true
still_reports [] statuses place status server is = absurd (no_mirrors statuses is)
  where
    no_mirrors : (statuses : List (Option ℕ)) → reports_server (failed_mirrors [] statuses) server ≡ true → ⊥
    no_mirrors [] is = absurd cc
    no_mirrors (o ∷ statuses) is = absurd cc
still_reports (x ∷ mirrors) [] place status server is = absurd cc
still_reports (x ∷ mirrors) (None ∷ statuses) zero status server is = or_right (x.id.server == server) _ is
still_reports (x ∷ mirrors) (Some was ∷ statuses) zero status server is = is
still_reports (x ∷ mirrors) (None ∷ statuses) (suc place) status server is = still_reports mirrors statuses place status server is
still_reports (x ∷ mirrors) (Some was ∷ statuses) (suc place) status server is = by_first (x.id.server == server) is (still_reports mirrors statuses place status server)
  where
    by_first : (b : Bool) → (b || reports_server (failed_mirrors mirrors statuses) server) ≡ true → (reports_server (failed_mirrors mirrors statuses) server ≡ true → reports_server (failed_mirrors mirrors (slice_set statuses place (Some status))) server ≡ true)
        → (b || reports_server (failed_mirrors mirrors (slice_set statuses place (Some status))) server) ≡ true
    by_first true is rest = refl
    by_first false is rest = rest is

both_first : (a b : Bool) → (a && b) ≡ true → a ≡ true
both_first true b is = refl
both_first false b is = absurd cc

-- the mirror of this place has this name
pub record HasId (mirrors : List Mirror) (id : MirrorId) : Type 0 where
  pub place : ℕ
  pub mirror : Mirror
  pub there : slice_get mirrors place ≡ Some mirror
  pub its_id : mirror.id ≡ id

pub has_id : (w : WriterValue) (mirrors : List Mirror) (id : MirrorId) → writer_ids w ≡ mirror_ids mirrors → HasMirror w id → HasId mirrors id
has_id w mirrors id same m = by_mirror (slice_get mirrors m.place) refl (sym (slice_get-map (λ (x : Mirror). x.id) mirrors m.place) ∙ ap (λ l. slice_get l m.place) (sym same) ∙ slice_get-map (λ (x : WriterMirror). x.id) w.mirrors m.place ∙ ap (option_map (λ (x : WriterMirror). x.id)) m.there)
  where
    by_mirror : (o : Option Mirror) → slice_get mirrors m.place ≡ o → option_map (λ (x : Mirror). x.id) o ≡ Some m.mirror.id → HasId mirrors id
    by_mirror None at is = absurd (none-some _ is)
    by_mirror (Some x) at is = record { place = m.place; mirror = x; there = at; its_id = same_Some x.id m.mirror.id is ∙ m.its_id }

is_its_own : (a b : MirrorId) → b ≡ a → is_mirror a b ≡ true
is_its_own a b same = subst (λ (k : MirrorId). is_mirror a k ≡ true) (sym same) (joined (a.server == a.server) (a.fileid == a.fileid) (equal a.server) (equal a.fileid))
  where
    joined : (a b : Bool) → a ≡ true → b ≡ true → (a && b) ≡ true
    joined true b first second = second
    joined false b first second = first

-- more is reported
layout_reports : (h : List HistoryItem) (name : List ℕ) (reports : ℕ → Bool) (l : Layout) (statuses : List (Option ℕ)) → length statuses ≡ 4
    → ((server : ℕ) → reports server ≡ true → reports_server (failed_mirrors l.mirrors statuses) server ≡ true) → LayoutStands h name reports l
    → LayoutStands h name (reports_server (failed_mirrors l.mirrors statuses)) (record l { statuses = statuses })
layout_reports h name reports l statuses four wider s = record {
  grant = s.grant;
  granted = s.granted;
  stateid = s.stateid;
  mirrors = s.mirrors;
  uid = s.uid;
  taken = s.taken;
  ids = s.ids;
  few = s.few;
  statuses = four;
  writer = λ place m there. reported_stands h name l.writer.cred l.writer.taken reports m (s.writer place m there) (reports_server (failed_mirrors l.mirrors statuses)) wider;
  entered = s.entered;
  was_taken = s.was_taken;
  was_given = s.was_given;
  settled = s.settled;
  not_writing = s.not_writing;
  returning = s.returning;
  recalled = s.recalled;
}

pub layout_wider : (h : List HistoryItem) (name : List ℕ) (reports wider : ℕ → Bool) (l : Layout) → ((server : ℕ) → reports server ≡ true → wider server ≡ true) → LayoutStands h name reports l → LayoutStands h name wider l
layout_wider h name reports wider l widens s = record {
  grant = s.grant;
  granted = s.granted;
  stateid = s.stateid;
  mirrors = s.mirrors;
  uid = s.uid;
  taken = s.taken;
  ids = s.ids;
  few = s.few;
  statuses = s.statuses;
  writer = λ place m there. reported_stands h name l.writer.cred l.writer.taken reports m (s.writer place m there) wider widens;
  entered = s.entered;
  was_taken = s.was_taken;
  was_given = s.was_given;
  settled = s.settled;
  not_writing = s.not_writing;
  returning = s.returning;
  recalled = s.recalled;
}

pub failed_stands : (h : List HistoryItem) (name : List ℕ) (l : Layout) (id : MirrorId) (cause : LeftCause) → HasId l.mirrors id → LayoutStands h name (also (reports_server (reported_of l)) (step.Failed id cause)) l
    → LayoutStands h name (reports_server (reported_of (with_failed l id cause))) (with_failed l id cause)
failed_stands h name l id cause has s =
    let first : FirstPlace (λ (m : Mirror). is_mirror id m.id) l.mirrors = first_place (λ (m : Mirror). is_mirror id m.id) l.mirrors has.place has.mirror has.there (is_its_own id has.mirror.id has.its_id) in
    let on : id.server ≡ first.element.id.server = same_number id.server first.element.id.server (both_first (id.server == first.element.id.server) (id.fileid == first.element.id.fileid) first.passes) in
    subst (λ (o : Option ℕ). LayoutStands h name (reports_server (failed_mirrors l.mirrors (with_status_at l.statuses o (reported_status cause)))) (record l { statuses = with_status_at l.statuses o (reported_status cause) })) (sym first.first)
    (layout_reports h name (also (reports_server (reported_of l)) (step.Failed id cause)) l (slice_set l.statuses first.place (Some (reported_status cause))) (length_set l.statuses first.place (Some (reported_status cause)) ∙ s.statuses) (wider first.place first.element first.there on) s)
  where
    by_or : (place : ℕ) (m : Mirror) → slice_get l.mirrors place ≡ Some m → id.server ≡ m.id.server → (server : ℕ) (b : Bool) → reports_server (reported_of l) server ≡ b → (b || (id.server == server)) ≡ true
        → reports_server (failed_mirrors l.mirrors (slice_set l.statuses place (Some (reported_status cause)))) server ≡ true
    by_or place m there on server true was is = still_reports l.mirrors l.statuses place (reported_status cause) server was
    by_or place m there on server false was is = set_reports l.mirrors l.statuses place (reported_status cause) server m there (omega (arith, s.few, s.statuses)) (ap (λ k. k == server) (sym on) ∙ is)

    wider : (place : ℕ) (m : Mirror) → slice_get l.mirrors place ≡ Some m → id.server ≡ m.id.server → (server : ℕ) → also (reports_server (reported_of l)) (step.Failed id cause) server ≡ true
        → reports_server (failed_mirrors l.mirrors (slice_set l.statuses place (Some (reported_status cause)))) server ≡ true
    wider place m there on server is = by_or place m there on server (reports_server (reported_of l) server) refl is

-- ---- its stage, and what is told of it

module _ (h : List HistoryItem) (name : List ℕ) (reports : ℕ → Bool) (l : Layout) (s : LayoutStands h name reports l) where
  -- with another stage, the same mirrors and another wish to commit
  staged : (w : WriterValue) (untold : List ℕ) (stage : LayoutStage) → w.cred ≡ l.writer.cred → w.taken ≡ l.writer.taken → w.mirrors ≡ l.writer.mirrors → (l.was_sent ≡ true → is_writing stage ≡ false) → (stage ≡ Returning → l.was_sent ≡ true) → (RecalledSince s.granted → is_writing stage ≡ false)
      → LayoutStands h name reports (record l { writer = w; untold = untold; stage = stage })
  staged w untold stage cred taken mirrors not_writing returning recalled = record {
    grant = s.grant;
    granted = s.granted;
    stateid = s.stateid;
    mirrors = s.mirrors;
    uid = cred ∙ s.uid;
    taken = λ file at bytes i. subst (λ (t : List TakenWrite). IsTaken t at bytes) (sym taken) (s.taken file at bytes (subst (λ (k : ℕ). HasItem s.granted.since (Enters (Sent file (record { 0 = k }) at bytes))) cred i));
    ids = ap (λ (x : List WriterMirror). map (λ (m : WriterMirror). m.id) x) mirrors ∙ s.ids;
    few = s.few;
    statuses = s.statuses;
    writer = λ place m there.
        subst (λ (k : ℕ). MirrorStands h name k w.taken reports m) (sym cred) (subst (λ (t : List TakenWrite). MirrorStands h name l.writer.cred t reports m) (sym taken) (s.writer place m (ap (λ x. slice_get x place) (sym mirrors) ∙ there)));
    entered = λ n t there. subst (λ (k : ℕ). WasTakenUnder h k t.at t.bytes) (sym cred) (s.entered n t (ap (λ k. slice_get k n) (sym taken) ∙ there));
    was_taken = s.was_taken;
    was_given = s.was_given;
    settled = λ is. subst IsSettled (sym mirrors) (s.settled is);
    not_writing = not_writing;
    returning = returning;
    recalled = recalled;
  }

  pub ending_stands : LayoutStands h name reports (ending l)
  ending_stands = by_stage l.stage
    where
      by_stage : (stage : LayoutStage) → LayoutStands h name reports (ends_layout l stage)
      by_stage Writing = staged (commit_wanted l.writer) l.untold Ending refl refl refl (λ is. refl) (λ is. absurd (cc (is))) (λ r. refl)
      by_stage Ending = s
      by_stage Deferred = s
      by_stage Returning = s

  pub committing_stands : LayoutStands h name reports (with_writer l (commit_wanted l.writer))
  committing_stands = staged (commit_wanted l.writer) l.untold l.stage refl refl refl s.not_writing s.returning s.recalled

  pub untold_stands : (untold : List ℕ) → LayoutStands h name reports (record l { untold = untold })
  untold_stands untold = staged l.writer untold l.stage refl refl refl s.not_writing s.returning s.recalled

  pub deferred_stands : LayoutStands h name reports (record l { stage = Deferred })
  deferred_stands = staged l.writer l.untold Deferred refl refl refl (λ is. refl) (λ is. absurd (cc (is))) (λ r. refl)

  pub ticked_stands : LayoutStands h name reports (record l { stage = stage_after_tick l.stage })
  ticked_stands = by_stage l.stage refl
    where
      by_stage : (stage : LayoutStage) → l.stage ≡ stage → LayoutStands h name reports (record l { stage = stage_after_tick stage })
      by_stage Writing at = staged l.writer l.untold Writing refl refl refl (λ is. subst (λ (k : LayoutStage). is_writing k ≡ false) at (s.not_writing is)) (λ is. absurd (cc (is))) (λ r. subst (λ (k : LayoutStage). is_writing k ≡ false) at (s.recalled r))
      by_stage Ending at = staged l.writer l.untold Ending refl refl refl (λ is. refl) (λ is. absurd (cc (is))) (λ r. refl)
      by_stage Deferred at = staged l.writer l.untold Ending refl refl refl (λ is. refl) (λ is. absurd (cc (is))) (λ r. refl)
      by_stage Returning at = staged l.writer l.untold Returning refl refl refl (λ is. refl) (λ is. s.returning at) (λ r. refl)

  -- ---- a write is taken

  pub taking_stands : l.stage ≡ Writing → (file : FileId) (at : ℕ) (bytes untold : List ℕ)
      → LayoutStands (h ++ Enters (Sent file (record { 0 = l.writer.cred }) at bytes) ∷ []) name reports (record l { writer = with_write l.writer at bytes; untold = untold })
  taking_stands writing file at bytes untold = record {
    grant = s.grant;
    granted = granted_later h (Enters (Sent file (record { 0 = l.writer.cred }) at bytes) ∷ []) s.grant s.granted;
    stateid = s.stateid;
    mirrors = s.mirrors;
    uid = s.uid;
    taken = λ file' at' bytes' i. by_place file' at' bytes' (in_either s.granted.since (Enters (Sent file (record { 0 = l.writer.cred }) at bytes) ∷ []) (Enters (Sent file' (record { 0 = l.writer.cred }) at' bytes')) i);
    ids = queued_ids l.writer.mirrors ∙ s.ids;
    few = s.few;
    statuses = s.statuses;
    writer = write_taken later name reports l.writer (λ place m there. mirror_later h (Enters (Sent file (record { 0 = l.writer.cred }) at bytes) ∷ []) name l.writer.cred l.writer.taken reports m (s.writer place m there)) at bytes;
    entered = λ n t there. by_write n t (pushed l.writer.taken (record { at = at; bytes = bytes }) n t there);
    was_taken = λ client i. not_taken client (in_either s.granted.since (Enters (Sent file (record { 0 = l.writer.cred }) at bytes) ∷ []) (Enters (Answer client (answer.Failed failing.Revoked))) i);
    was_given = λ xid caller session sequence other failed i. given xid caller session sequence other failed (in_either s.granted.since (Enters (Sent file (record { 0 = l.writer.cred }) at bytes) ∷ []) (Sends (CallsMds xid caller (OnSlot session sequence (slot.LayoutReturn other s.grant.stateid failed)))) i);
    settled = λ is. absurd (true_false (sym (ap is_writing writing) ∙ s.not_writing is));
    not_writing = s.not_writing;
    returning = s.returning;
    recalled = λ r. s.recalled (recalled_before h (item ∷ []) name reports l s (tt, tt) r);
  }
    where
      later : List HistoryItem
      later = h ++ Enters (Sent file (record { 0 = l.writer.cred }) at bytes) ∷ []

      true_false : true ≡ false → ⊥
      true_false e = absurd cc

      item : HistoryItem
      item = Enters (Sent file (record { 0 = l.writer.cred }) at bytes)

      by_write : (n : ℕ) (t : TakenWrite) → Pushed l.writer.taken (record { at = at; bytes = bytes }) n t → WasTakenUnder (h ++ Enters (Sent file (record { 0 = l.writer.cred }) at bytes) ∷ []) l.writer.cred t.at t.bytes
      by_write n t (Old there) = under_uid_later h (Enters (Sent file (record { 0 = l.writer.cred }) at bytes) ∷ []) l.writer.cred t.at t.bytes (s.entered n t there)
      by_write n t (New at_end is) = subst (λ (k : TakenWrite). WasTakenUnder (h ++ Enters (Sent file (record { 0 = l.writer.cred }) at bytes) ∷ []) l.writer.cred k.at k.bytes) (sym is) (record { file = file; there = in_end h (Enters (Sent file (record { 0 = l.writer.cred }) at bytes)) })

      not_taken : (client : ℕ) → HasItem s.granted.since (Enters (Answer client (answer.Failed failing.Revoked))) ⊎ HasItem (Enters (Sent file (record { 0 = l.writer.cred }) at bytes) ∷ []) (Enters (Answer client (answer.Failed failing.Revoked))) → ⊥
      not_taken client (inl i) = s.was_taken client i
      not_taken client (inr (inl (same, rest))) = absurd (cc (same))
      not_taken client (inr (inr i)) = i

      given : (xid : ℕ) (caller : List ℕ) (session : SessionId) (sequence : ℕ) (other : FileId) (failed : List FailedMirror)
          → HasItem s.granted.since (Sends (CallsMds xid caller (OnSlot session sequence (slot.LayoutReturn other s.grant.stateid failed)))) ⊎ HasItem (Enters (Sent file (record { 0 = l.writer.cred }) at bytes) ∷ []) (Sends (CallsMds xid caller (OnSlot session sequence (slot.LayoutReturn other s.grant.stateid failed)))) → l.was_sent ≡ true
      given xid caller session sequence other failed (inl i) = s.was_given xid caller session sequence other failed i
      given xid caller session sequence other failed (inr (inl (same, rest))) = absurd (cc (same))
      given xid caller session sequence other failed (inr (inr i)) = absurd i

      queued_ids : (mirrors : List WriterMirror) → map (λ (m : WriterMirror). m.id) (map (queued (length l.writer.taken)) mirrors) ≡ map (λ (m : WriterMirror). m.id) mirrors
      queued_ids [] = refl
      queued_ids (m ∷ mirrors) = ap (λ k. m.id ∷ k) (queued_ids mirrors)

      last : (taken : List TakenWrite) (w : TakenWrite) → slice_get (taken ++ w ∷ []) (length taken) ≡ Some w
      last [] w = refl
      last (x ∷ taken) w = last taken w

      grown : (at' : ℕ) (bytes' : List ℕ) → IsTaken l.writer.taken at' bytes' → IsTaken (l.writer.taken ++ (record { at = at; bytes = bytes }) ∷ []) at' bytes'
      grown at' bytes' (n, there) = (n, slice_get-push l.writer.taken n (record { at = at'; bytes = bytes' }) (record { at = at; bytes = bytes }) there)

      by_place : (file' : FileId) (at' : ℕ) (bytes' : List ℕ) → HasItem s.granted.since (Enters (Sent file' (record { 0 = l.writer.cred }) at' bytes')) ⊎ HasItem (Enters (Sent file (record { 0 = l.writer.cred }) at bytes) ∷ []) (Enters (Sent file' (record { 0 = l.writer.cred }) at' bytes'))
          → IsTaken (l.writer.taken ++ (record { at = at; bytes = bytes }) ∷ []) at' bytes'
      by_place file' at' bytes' (inl i) = grown at' bytes' (s.taken file' at' bytes' i)
      by_place file' at' bytes' (inr (inl (same, rest))) =
          (length l.writer.taken, last l.writer.taken (record { at = at; bytes = bytes }) ∙ ap Some (cc (same)))
      by_place file' at' bytes' (inr (inr i)) = absurd i

-- ---- a layout is granted

pub new_stands : (h : List HistoryItem) (name : List ℕ) (g : LayoutGrant) (granted : WasGranted h g) → AreQuiet granted.since → (RecalledSince granted → ⊥) → length g.mirrors ≤ 4 → LayoutStands h name (reports_server (reported_of (new_layout g))) (new_layout g)
new_stands h name g granted quiet unrecalled few = record {
  grant = g;
  granted = granted;
  stateid = refl;
  mirrors = refl;
  uid = refl;
  taken = λ file at bytes i. absurd (every_in QuietItem granted.since (Enters (Sent file (record { 0 = g.uid.0 }) at bytes)) quiet i);
  ids = new_ids g.mirrors;
  few = few;
  statuses = refl;
  writer = λ place m there. by_mirror place m (slice_get g.mirrors place) (sym (slice_get-map new_mirror g.mirrors place) ∙ there);
  entered = λ n t there. absurd (none-some t there);
  was_taken = λ client i. every_in QuietItem granted.since (Enters (Answer client (answer.Failed failing.Revoked))) quiet i;
  was_given = λ xid caller session sequence file failed i. absurd (every_in QuietItem granted.since (Sends (CallsMds xid caller (OnSlot session sequence (slot.LayoutReturn file g.stateid failed)))) quiet i);
  settled = λ is. absurd (cc (is));
  not_writing = λ is. absurd (cc (is));
  returning = λ is. absurd (cc (is));
  recalled = λ r. absurd (unrecalled r);
}
  where
    new_ids : (mirrors : List Mirror) → map (λ (m : WriterMirror). m.id) (map new_mirror mirrors) ≡ map (λ (m : Mirror). m.id) mirrors
    new_ids [] = refl
    new_ids (m ∷ mirrors) = ap (λ k. m.id ∷ k) (new_ids mirrors)

    fresh : (m : Mirror) → MirrorStands h name g.uid.0 [] (reports_server (reported_of (new_layout g))) (new_mirror m)
    fresh m = record { size = refl; call = tt; answered = tt; covered = λ n is. absurd (cc (is)); reported = λ is. absurd (cc (is)); counts = record { once = λ n. omega arith; taken = λ n past. refl; wanted = λ is. absurd (cc (is)); idle = λ is. refl } }

    by_mirror : (place : ℕ) (m : WriterMirror) (o : Option Mirror) → option_map new_mirror o ≡ Some m → MirrorStands h name g.uid.0 [] (reports_server (reported_of (new_layout g))) m
    by_mirror place m None is = absurd (none-some m is)
    by_mirror place m (Some x) is = subst (MirrorStands h name g.uid.0 [] (reports_server (reported_of (new_layout g)))) (same_Some (new_mirror x) m is) (fresh x)
