-- The source of a copy is committed, and a copy ends or is given up: the periods of its file.
use Rattle.std.proofs.Common.{◌≡◌, ℕ, suc, ◌+◌, ◌<◌, ◌≤◌, Bool, true, false, ltb, cond, not, List, [], ◌∷◌, ◌++◌, length, map, Option, Some, None, refl, sym, ap, subst, ◌∙◌, arith}
use Rattle.std.specs.List.{AllByRecursion}
use Rattle.std.proofs.lemmas.Bool.{cond_both}
use Rattle.cluster_model.specs.declared.ids.MirrorId.{MirrorId}
use Rattle.cluster_model.specs.declared.ids.Mirror.{Mirror}
use Rattle.cluster_model.specs.declared.phase.LeftCause.{LeftCause}
use Rattle.cluster_model.specs.declared.phase.LeftCause.TheVariants.{Error, Timeouts}
use Rattle.cluster_model.specs.declared.entry.Entry.{Entry}
use Rattle.cluster_model.specs.declared.entry.Entry.TheVariants as entry
use Rattle.cluster_model.specs.declared.call_stage.CallStage.{CallStage}
use Rattle.cluster_model.specs.declared.call_stage.CallStage.TheVariants.{Waits, Out, KeptOut, KeptBack, Done, GivenUp}
use Rattle.cluster_model.specs.declared.layout_state.LayoutState.{LayoutState}
use Rattle.cluster_model.specs.declared.layout_state.LayoutPhase.TheVariants.{Free, Copying}
use Rattle.cluster_model.specs.declared.layout_state.FenceEnd.TheVariants.{Copied}
use Rattle.cluster_model.specs.declared.layout_state.CopyKind.{CopyKind}
use Rattle.cluster_model.specs.Journal.{is_mirror}
use Rattle.cluster_model.specs.Mirrors.{are_on_different_servers}
use Rattle.cluster_model.specs.DsCalls.{DsReplyValue, Created, Set, Written, Committed, Bytes, NotSync, Failed}
use Rattle.cluster_model.specs.Fences.{is_out, odd_status}
use Rattle.cluster_model.specs.Phases.{ids_of, but_for, is_last_live, is_source, after_loss, mirror_left, with_phase, freed, has_targets, in_place, with_targets, swapped_entries}
use Rattle.cluster_model.specs.declared.targets.SwappedIn.{SwappedIn}
use Rattle.copy_rule.specs.Copies.{CopyState, at_stage, TargetStep, goes_on_with, target_fails, create_answered, write_answered, target_answered, target_late, with_target, with_read, with_next, with_piece, has_outcome, goes_on, swaps_of, CopyAfter, step_told, stranger, source_fails, is_long, copy_then, read_answered, read_late, target_of, step_at, step_from, by_read, on_reply, on_timeout}
use Rattle.copy_rule.specs.declared.copy_target.CopyTarget.{CopyTarget}
use Rattle.copy_rule.specs.declared.copy_target.CopyStep.{CopyStep}
use Rattle.copy_rule.specs.declared.copy_target.CopyStep.TheVariants.{Stranger, Waiting, SourceFailed, TargetFailed, Done as AllHold}
use Rattle.file_rule.specs.MdsFiles.{Activity, Idle, Settles, Copies, FileStep, stays, a_uid, goes_idle, with_entries, plan_of, copying, settled, source_left, settling_answered, settling_timed_out, copied_by, copied_on, target_left, copy_stepped}
use Rattle.file_rule.specs.declared.fresh.Fresh.{Fresh}
use Rattle.cluster_laws.specs.Machine.{file_id}
use Rattle.cluster_laws.specs.Periods.{user_when_free, user_in}
use Rattle.cluster_laws.proofs.Lists.{all_at, found_at}
use Rattle.cluster_laws.proofs.Invariant.{If, IsNotSource}
use Rattle.cluster_laws.proofs.Lives.{own_file}
use Rattle.cluster_laws.proofs.PeriodFacts.{granted_in, none_granted, granted_append, owed_same, owed_then, user_then, free_of, IsStill, left_still, swapped_still}
use Rattle.cluster_laws.proofs.PeriodStates.{IsMine, IsUnused, IsFenced, IsSettlingSo, IsCopyingSo, IsActive, drawn_for, mine_drawn, new_mine, PeriodRow, PeriodOk, Plain, Draws, still_none, still_unused, still_row, new_unused}
use Rattle.cluster_laws.proofs.PeriodRows.{as_before}
use Rattle.cluster_laws.proofs.PeriodFences.{some_more, length_ids, but_for_some, behind_left}

-- ---- live lists

-- one mirror more, or one in another's place
place_length : (t : SwappedIn) (old : Option MirrorId) (live : List Mirror) → length live ≤ length (in_place t old live)
place_length t None live = pushed live
  where
    pushed : (xs : List Mirror) → length xs ≤ length (xs ++ t.new ∷ [])
    pushed [] = omega arith
    pushed (x ∷ xs) = let rest = pushed xs in omega (arith, rest)
place_length t (Some old) live = let same = mapped live in omega (arith, same)
  where
    mapped : (xs : List Mirror) → length (map (λ m. cond (is_mirror m.id old) t.new m) xs) ≡ length xs
    mapped [] = refl
    mapped (x ∷ xs) = ap suc (mapped xs)

targets_length : (targets : List SwappedIn) (live : List Mirror) → length live ≤ length (with_targets targets live)
targets_length [] live = omega arith
targets_length (t ∷ targets) live =
    let one = place_length t t.old live in
    let rest = targets_length targets (in_place t t.old live) in
    omega (arith, one, rest)

swapped_stills : (n : ℕ) (targets : List SwappedIn) → AllByRecursion IsStill (swapped_entries (file_id n) targets)
swapped_stills n [] = tt
swapped_stills n (t ∷ targets) = (swapped_still (file_id n) t.old t.new.id, swapped_stills n targets)

-- where a mirror leaves that is not the first, the first stays
first_stays : (id : MirrorId) (live : List Mirror) → 0 < length live → is_source id live ≡ false → 0 < length (but_for id live)
first_stays id [] some other = absurd (omega (arith, some))
first_stays id (m ∷ live) some other = subst (λ (b : Bool). 0 < length (cond (not b) (m ∷ but_for id live) (but_for id live))) (sym other) (some_more m (but_for id live))

-- ---- what a step of a copy tells

abbrev pub Tells : List Mirror → CopyStep → Type 0
Tells live Stranger = Unit {0}
Tells live Waiting = Unit {0}
Tells live (SourceFailed cause) = Unit {0}
Tells live (TargetFailed server replaced cause) = IsNotSource live replaced
Tells live AllHold = Unit {0}

module _ (live : List Mirror) (t : CopyTarget) (k : IsNotSource live t.replaced) where
  created_tells : (reply : DsReplyValue) → Tells live (create_answered t reply).step
  created_tells (Created fileid shown) = tt
  created_tells (Set shown) = k
  created_tells (Written shown verifier) = k
  created_tells (Committed shown verifier) = k
  created_tells (Bytes shown eof bytes) = k
  created_tells (NotSync shown) = k
  created_tells (Failed status shown) = k

  written_tells : (reply : DsReplyValue) → Tells live (write_answered t reply).step
  written_tells (Created fileid shown) = k
  written_tells (Set shown) = k
  written_tells (Written shown verifier) = tt
  written_tells (Committed shown verifier) = k
  written_tells (Bytes shown eof bytes) = k
  written_tells (NotSync shown) = k
  written_tells (Failed status shown) = k

  answer_tells : (reply : DsReplyValue) (made : Option Mirror) → Tells live (target_answered t reply made).step
  answer_tells reply None = created_tells reply
  answer_tells reply (Some m) = written_tells reply

  late_tells : (stage : CallStage) → Tells live (target_late t stage).step
  late_tells Waits = tt
  late_tells (Out xid timeouts) = cond_both (ltb (timeouts + 1) 3) (goes_on_with (at_stage t (Out xid (timeouts + 1)))) (target_fails t Timeouts) (λ (x : TargetStep). Tells live x.step) (λ e. tt) (λ e. k)
  late_tells (KeptOut xid) = tt
  late_tells KeptBack = tt
  late_tells Done = tt
  late_tells GivenUp = tt

-- the copy then is under the same uid
pub record IsStep (live : List Mirror) (copier : ℕ) (a : CopyAfter) : Type 0 where
  pub same : a.copy.copier ≡ copier
  pub tells : Tells live a.step

told_tells : (live : List Mirror) (c : CopyState) (step : CopyStep) → Tells live step → Tells live (step_told c step)
told_tells live c Stranger k = tt
told_tells live c Waiting k = cond_both (has_outcome c) AllHold Waiting (Tells live) (λ e. tt) (λ e. tt)
told_tells live c (SourceFailed cause) k = tt
told_tells live c (TargetFailed server replaced cause) k = k
told_tells live c AllHold k = tt

goes_on_copier : (c : CopyState) → (goes_on c).copier ≡ c.copier
goes_on_copier c = cond_both _ (with_next c) c (λ (x : CopyState). x.copier ≡ c.copier) (λ e. refl) (λ e. refl)

module _ (live : List Mirror) (c : CopyState) (sources : AllByRecursion (λ t. IsNotSource live t.replaced) c.targets) where
  no_step : IsStep live c.copier (stranger c)
  no_step = record { same = refl; tells = tt }

  by_target : (step : CopyTarget → TargetStep) → ((t : CopyTarget) → IsNotSource live t.replaced → Tells live (step t).step) → (xid : ℕ) (reads : CopyAfter) → IsStep live c.copier reads → IsStep live c.copier (step_from c step (by_read c xid reads) (target_of c xid))
  by_target step tells xid reads ok = by_found (target_of c xid) refl
    where
      by_found : (found : Option ℕ) → target_of c xid ≡ found → IsStep live c.copier (step_from c step (by_read c xid reads) found)
      by_found None is = cond_both (is_out xid c.read) reads (stranger c) (IsStep live c.copier) (λ e. ok) (λ e. no_step)
      by_found (Some place) is =
          let t = found_at (λ (x : CopyTarget). is_out xid x.stage) c.targets place is in
          subst (λ (got : Option CopyTarget). IsStep live c.copier (step_at c step place got)) (sym t.1)
          (record {
            same = goes_on_copier (with_target c place (step t.0).target);
            tells = told_tells live (with_target c place (step t.0).target) (step t.0).step (tells t.0 (all_at (λ x. IsNotSource live x.replaced) c.targets place t.0 sources t.1));
          })

  read_step : (reply : DsReplyValue) → IsStep live c.copier (read_answered c reply)
  read_step (Created fileid shown) = record { same = refl; tells = tt }
  read_step (Set shown) = record { same = refl; tells = tt }
  read_step (Written shown verifier) = record { same = refl; tells = tt }
  read_step (Committed shown verifier) = record { same = refl; tells = tt }
  read_step (Bytes shown eof bytes) =
      cond_both (is_long c bytes) (source_fails c KeptBack (Error odd_status)) (copy_then (with_piece c eof bytes) Waiting) (IsStep live c.copier) (λ e. record { same = refl; tells = tt })
      (λ e. record { same = goes_on_copier (with_piece c eof bytes); tells = told_tells live (with_piece c eof bytes) Waiting tt })
  read_step (NotSync shown) = record { same = refl; tells = tt }
  read_step (Failed status shown) = record { same = refl; tells = tt }

  late_step : (stage : CallStage) → IsStep live c.copier (read_late c stage)
  late_step Waits = no_step
  late_step (Out xid timeouts) =
      cond_both (ltb (timeouts + 1) 3) (record { copy = with_read c (Out xid (timeouts + 1)); step = Waiting }) (source_fails c (KeptOut xid) Timeouts) (IsStep live c.copier) (λ e. record { same = refl; tells = tt }) (λ e. record { same = refl; tells = tt })
  late_step (KeptOut xid) = record { same = refl; tells = tt }
  late_step KeptBack = no_step
  late_step Done = no_step
  late_step GivenUp = no_step

  pub reply_step : (xid : ℕ) (reply : DsReplyValue) → IsStep live c.copier (on_reply c xid reply)
  reply_step xid reply = by_target (λ t. target_answered t reply t.made) (λ t k. answer_tells live t k reply t.made) xid (read_answered c reply) (read_step reply)

  pub timeout_step : (xid : ℕ) → IsStep live c.copier (on_timeout c xid)
  timeout_step xid = by_target (λ t. target_late t t.stage) (λ t k. late_tells live t k t.stage) xid (read_late c c.read) (late_step c.read)

-- ---- rows

module _ (whose : ℕ → ℕ) (n next_uid name servers : ℕ) where
  abbrev Ok : List Entry → FileStep → Type 0
  Ok journal x = PeriodOk whose next_uid journal n x

  abbrev fresh : Fresh
  fresh = record { uid = next_uid; name = name; servers = servers }

  -- a file that nobody was granted is free
  free_row : (journal : List Entry) (s : LayoutState) → IsMine whose next_uid n s.cred.0 → IsFenced journal n s → IsUnused journal s.cred.0 → PeriodRow whose next_uid journal n (record { layout = with_phase s Free; activity = Idle }) (entry.Free (file_id n) (ids_of s.live) ∷ [])
  free_row journal s mine so unused =
      let free : Entry = entry.Free (file_id n) (ids_of s.live) in
      let some = so.some in
      let same = length_ids s.live in
      record {
        place = (record { fenced = so.owed; some = omega (arith, some, same); alike = λ none. absurd (some_none (sym so.user ∙ none)) }, tt);
        of_file = (free_of n (ids_of s.live), tt);
        grants = (tt, tt);
        tells = (refl, tt);
        period = record {
          mine = mine;
          active = record {
            fenced = record {
              some = so.some;
              owed = owed_then (file_id n) journal free ∙ so.owed;
              user = user_then (file_id n) journal free
                  ∙ ap (λ (b : Bool). cond b (user_when_free journal (ids_of s.live) (user_in journal (file_id n))) (user_in journal (file_id n))) (own_file (file_id n))
                  ∙ ap (user_when_free journal (ids_of s.live)) so.user;
            };
            unused = λ e. granted_append s.cred.0 journal (free ∷ []) unused (none_granted s.cred.0 (free ∷ []) (tt, tt));
          };
        };
      }
    where
      some_none : Some s.cred.0 ≡ None → ⊥
      some_none e = absurd cc

  -- behind the entry of a mirror that leaves
  left_fenced : (journal : List Entry) (s : LayoutState) (id : MirrorId) (cause : LeftCause) → IsFenced journal n s → 0 < length (but_for id s.live) → IsFenced (journal ++ entry.Left (file_id n) id cause ∷ []) n (after_loss s id)
  left_fenced journal s id cause so some = record { some = some; owed = owed_then (file_id n) journal (entry.Left (file_id n) id cause) ∙ so.owed; user = user_then (file_id n) journal (entry.Left (file_id n) id cause) ∙ so.user }

  left_unused : (journal : List Entry) (id : MirrorId) (cause : LeftCause) (uid : ℕ) → IsUnused journal uid → IsUnused (journal ++ entry.Left (file_id n) id cause ∷ []) uid
  left_unused journal id cause uid k = still_unused journal (entry.Left (file_id n) id cause ∷ []) (left_still (file_id n) id cause, tt) uid k

  module _ (journal : List Entry) (s : LayoutState) (mine : IsMine whose next_uid n s.cred.0) (apart : are_on_different_servers s.live ≡ true) where
    stays_row : (activity : Activity) → IsActive whose next_uid journal n s activity → Ok journal (stays s activity)
    stays_row activity a = Plain refl (as_before whose next_uid journal n _ (record { mine = mine; active = a }))

    source_row : IsFenced journal n s → IsUnused journal s.cred.0 → (live : List Mirror) (cause : LeftCause) (kept : Activity) → IsActive whose next_uid journal n s kept → Ok journal (source_left (file_id n) s live cause kept)
    source_row so unused [] cause kept a = stays_row kept a
    source_row so unused (m ∷ live) cause kept a =
        let e : Entry = entry.Left (file_id n) m.id cause in
        cond_both (is_last_live s.live) (stays s kept) (record { file = record { layout = (mirror_left (file_id n) s m.id cause).file; activity = Settles Waits }; entries = (mirror_left (file_id n) s m.id cause).entries; uids = 0; names = 0 }) (Ok journal)
        (λ w. stays_row kept a)
        (λ w. Plain refl (still_row whose next_uid journal n _ (e ∷ []) (left_still (file_id n) m.id cause, tt)
        (record { mine = mine; active = record { fenced = left_fenced journal s m.id cause so (but_for_some m.id s.live apart w); unused = left_unused journal m.id cause s.cred.0 unused } })))

    -- ---- settling

    module _ (below : AllByRecursion (λ e. If (granted_in e) (λ u. u < next_uid)) journal) (so : IsSettlingSo journal n s) where
      begins : (copies : CopyKind) → PeriodRow (drawn_for whose next_uid n) (next_uid + 1) journal n (copying (with_phase s (Copying (a_uid next_uid) copies)) fresh (plan_of copies s fresh)).file []
      begins copies = as_before (drawn_for whose next_uid n) (next_uid + 1) journal n _ (record {
        mine = mine_drawn whose next_uid n n s.cred.0 mine;
        active = record { fenced = record { some = so.fenced.some; owed = so.fenced.owed; user = so.fenced.user }; unused = so.unused; mine = new_mine whose next_uid n; new = new_unused next_uid journal below };
      })

      settled_row : (copies : CopyKind) → Ok journal (settled (file_id n) s copies fresh)
      settled_row copies = by_targets (has_targets copies (length s.live) s.wanted) refl
        where
          by_targets : (b : Bool) → has_targets copies (length s.live) s.wanted ≡ b
              → Ok journal (cond b (copying (cond b (record { file = with_phase s (Copying (a_uid next_uid) copies); entries = [] }) (freed (file_id n) s)).file fresh (plan_of copies s fresh)) (goes_idle (cond b (record { file = with_phase s (Copying (a_uid next_uid) copies); entries = [] }) (freed (file_id n) s)) 0))
          by_targets true e = Draws refl (begins copies)
          by_targets false e = Plain refl (free_row journal s mine so.fenced so.unused)

      lost : (cause : LeftCause) → Ok journal (source_left (file_id n) s s.live cause (Settles KeptBack))
      lost cause = source_row so.fenced so.unused s.live cause (Settles KeptBack) so

      pub settling_row : (copies : CopyKind) (reply : DsReplyValue) → Ok journal (settling_answered (file_id n) s copies fresh reply)
      settling_row copies (Created fileid shown) = lost (Error odd_status)
      settling_row copies (Set shown) = lost (Error odd_status)
      settling_row copies (Written shown verifier) = lost (Error odd_status)
      settling_row copies (Committed shown verifier) = settled_row copies
      settling_row copies (Bytes shown eof bytes) = lost (Error odd_status)
      settling_row copies (NotSync shown) = lost (Error odd_status)
      settling_row copies (Failed status shown) = lost (Error status)

    pub settling_late_row : (stage : CallStage) → IsSettlingSo journal n s → Ok journal (settling_timed_out (file_id n) s stage)
    settling_late_row Waits so = stays_row (Settles Waits) so
    settling_late_row (Out xid timeouts) so =
        cond_both (ltb (timeouts + 1) 3) (stays s (Settles (Out xid (timeouts + 1)))) (source_left (file_id n) s s.live Timeouts (Settles (KeptOut xid))) (Ok journal)
        (λ e. stays_row (Settles (Out xid (timeouts + 1))) so) (λ e. source_row so.fenced so.unused s.live Timeouts (Settles (KeptOut xid)) so)
    settling_late_row (KeptOut xid) so = stays_row (Settles (KeptOut xid)) so
    settling_late_row KeptBack so = stays_row (Settles KeptBack) so
    settling_late_row Done so = stays_row (Settles Done) so
    settling_late_row GivenUp so = stays_row (Settles GivenUp) so

  -- ---- a copy

  copied_row : (journal : List Entry) (s : LayoutState) → IsMine whose next_uid n s.cred.0 → AllByRecursion (λ e. If (granted_in e) (λ u. u < next_uid)) journal → (c : CopyState) → IsCopyingSo whose next_uid journal n s c.copier → Ok journal (copied_on (file_id n) s c fresh)
  copied_row journal s mine below c so =
      cond_both (has_outcome c) (copied_by (file_id n) s (a_uid c.copier) (swaps_of c) fresh) (stays s (Copies c)) (Ok journal)
      (λ e. by_targets (swaps_of c)) (λ e. Plain refl (as_before whose next_uid journal n _ (record { mine = mine; active = so })))
    where
      by_targets : (targets : List SwappedIn) → Ok journal (copied_by (file_id n) s (a_uid c.copier) targets fresh)
      by_targets [] = Plain refl (free_row journal s mine so.fenced so.unused)
      by_targets (t ∷ targets) =
          let entries : List Entry = swapped_entries (file_id n) (t ∷ targets) in
          let still = swapped_stills n (t ∷ targets) in
          let some = so.fenced.some in
          let more = targets_length (t ∷ targets) s.live in
          Draws refl (still_row (drawn_for whose next_uid n) (next_uid + 1) journal n _ entries still (record {
            mine = mine_drawn whose next_uid n n c.copier so.mine;
            active = record {
              some = omega (arith, some, more);
              next = a_uid next_uid;
              end = Copied;
              phase = refl;
              owed = owed_same (file_id n) journal entries (still_none n entries still) ∙ so.fenced.owed;
              fresh = refl;
              mine = new_mine whose next_uid n;
              unused = still_unused journal entries still next_uid (new_unused next_uid journal below);
            };
          }))

  behind : (journal : List Entry) (id : MirrorId) (cause : LeftCause) (x : FileStep) → Ok (journal ++ entry.Left (file_id n) id cause ∷ []) x → Ok journal (with_entries (entry.Left (file_id n) id cause ∷ []) x)
  behind journal id cause x (Plain uids row) = Plain uids (behind_left whose next_uid journal n x.file id cause x.entries row)
  behind journal id cause x (Draws uids row) = Draws uids (behind_left (drawn_for whose next_uid n) (next_uid + 1) journal n x.file id cause x.entries row)

  below_left : (journal : List Entry) (id : MirrorId) (cause : LeftCause) → AllByRecursion (λ e. If (granted_in e) (λ u. u < next_uid)) journal → AllByRecursion (λ e. If (granted_in e) (λ u. u < next_uid)) (journal ++ entry.Left (file_id n) id cause ∷ [])
  below_left [] id cause k = (tt, tt)
  below_left (e ∷ journal) id cause k = (k.0, below_left journal id cause k.1)

  module _ (journal : List Entry) (s : LayoutState) (mine : IsMine whose next_uid n s.cred.0) (apart : are_on_different_servers s.live ≡ true) (below : AllByRecursion (λ e. If (granted_in e) (λ u. u < next_uid)) journal) where
    thrown_row : (c : CopyState) → IsCopyingSo whose next_uid journal n s c.copier → (replaced : Option MirrorId) (cause : LeftCause) → IsNotSource s.live replaced → Ok journal (target_left (file_id n) s c fresh cause replaced)
    thrown_row c so None cause other = copied_row journal s mine below c so
    thrown_row c so (Some id) cause other =
        behind journal id cause _ (copied_row (journal ++ entry.Left (file_id n) id cause ∷ []) (after_loss s id) mine (below_left journal id cause below) c (record {
          fenced = left_fenced journal s id cause so.fenced (first_stays id s.live so.fenced.some other);
          unused = left_unused journal id cause s.cred.0 so.unused;
          mine = so.mine;
          new = left_unused journal id cause c.copier so.new;
        }))

    pub copy_row : (copier : ℕ) → IsCopyingSo whose next_uid journal n s copier → (a : CopyAfter) → IsStep s.live copier a → Ok journal (copy_stepped (file_id n) s a.copy fresh a.step)
    copy_row copier so a step = by_step a.step step.tells
      where
        so_now : IsCopyingSo whose next_uid journal n s a.copy.copier
        so_now = subst (IsCopyingSo whose next_uid journal n s) (sym step.same) so

        by_step : (x : CopyStep) → Tells s.live x → Ok journal (copy_stepped (file_id n) s a.copy fresh x)
        by_step Stranger k = stays_row journal s mine apart (Copies a.copy) so_now
        by_step Waiting k = stays_row journal s mine apart (Copies a.copy) so_now
        by_step (SourceFailed cause) k = source_row journal s mine apart so.fenced so.unused s.live cause (Copies a.copy) so_now
        by_step (TargetFailed server replaced cause) k = thrown_row a.copy so_now replaced cause k
        by_step AllHold k = copied_row journal s mine below a.copy so_now
