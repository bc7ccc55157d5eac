-- Answers and timeouts of a fence.
use Rattle.std.proofs.Common.{◌≡◌, ℕ, suc, zero, ◌+◌, ◌<◌, Bool, true, false, eqb, ltb, cond, not, List, [], ◌∷◌, ◌++◌, map, filter, set, Option, Some, None, refl, sym, ap, subst, ◌∙◌, append_assoc, append-nil}
use Rattle.std.specs.Prelude.{slice_get}
use Rattle.std.proofs.lemmas.Bool.{cond_both, eqb-true}
use Rattle.std.proofs.lemmas.Option.{same_Some}
use Rattle.cluster_model.specs.declared.tick.Tick.{Tick}
use Rattle.cluster_model.specs.declared.ids.MirrorId.{MirrorId}
use Rattle.cluster_model.specs.declared.phase.LeftCause.{LeftCause}
use Rattle.cluster_model.specs.declared.phase.LeftCause.TheVariants.{Unsynced, Error}
use Rattle.cluster_model.specs.Fences.{odd_status}
use Rattle.cluster_model.specs.declared.entry.Entry.{Entry}
use Rattle.cluster_model.specs.declared.entry.Entry.TheVariants as entry
use Rattle.cluster_model.specs.declared.ds_call.Shown.{Shown}
use Rattle.cluster_model.specs.declared.call_stage.CallStage.{CallStage}
use Rattle.cluster_model.specs.declared.call_stage.CallStage.TheVariants.{Waits, Out, KeptOut, KeptBack, Done, GivenUp}
use Rattle.cluster_model.specs.declared.fence_mirror.FenceMirror.{FenceMirror}
use Rattle.cluster_model.specs.declared.fence_mirror.FenceStep.{FenceStep}
use Rattle.cluster_model.specs.declared.fence_mirror.FenceStep.TheVariants.{Stranger, Acked, Again, Failed as HasFailed}
use Rattle.cluster_model.specs.declared.layout_state.LayoutState.{LayoutState}
use Rattle.cluster_model.specs.declared.layout_state.LayoutPhase.TheVariants.{Fencing}
use Rattle.cluster_model.specs.Journal.{is_mirror}
use Rattle.cluster_model.specs.DsCalls.{DsCallValue, SetAttr, DsReplyValue, Created, Set, Written, Committed, Bytes, NotSync, Failed}
use Rattle.cluster_model.specs.GuardLaws.{target}
use Rattle.cluster_model.specs.Fences.{is_out, stage_at_tick, max_unsynced, MirrorStep, with_stage, having_seen, acknowledged, failed_by, out_of_sync, answered, stage_timed_out, timed_out, at_tick, dropped_if, FenceState, without, is_done}
use Rattle.cluster_model.specs.Phases.{ids_of, but_for, is_last_live, is_source, phase_without, after_loss, mirror_left, fence_done}
use Rattle.copy_rule.specs.Copies.{is_given_up}
use Rattle.file_rule.specs.MdsFiles.{Fences, MdsFile, FileStep, stays, goes_on, with_entries, fenced_on, fence_failed, fence_stepped}
use Rattle.cluster_laws.specs.Machine.{file_id}
use Rattle.cluster_laws.specs.FenceLaw.{live_by, changed_live}
use Rattle.cluster_laws.proofs.Facts.{OwnedFrom}
use Rattle.cluster_laws.proofs.Lists.{all_append, all_more}
use Rattle.cluster_laws.proofs.Invariant.{Net, at_server, IsGiven, IsReplyTo, IsMirrorOf, IsInFence, is_answered, kept_ids, live_of, IsFile}
use Rattle.cluster_laws.proofs.Journals.{live_append}
use Rattle.cluster_laws.proofs.Rows.{RowOk, left_note}
use Rattle.cluster_laws.proofs.Lives.{own_file, apart_filter, all_filter, all_map, ids_but_for}
use Rattle.cluster_laws.proofs.FenceDone.{IsExact, exact_on, done_ok}

-- ---- a step without entries, and one behind an entry

pub nothing_new : (net : Net) (journal : List Entry) (n next_uid : ℕ) (g : MdsFile) → IsFile net journal n g → RowOk net journal n next_uid g []
nothing_new net journal n next_uid g h = record { notes = tt; right = tt; file = subst (λ (j : List Entry). IsFile net j n g) (sym (append-nil journal)) h }

pub behind_left : (net : Net) (journal : List Entry) (n next_uid : ℕ) (g : MdsFile) (id : MirrorId) (cause : LeftCause) (entries : List Entry)
    → RowOk net (journal ++ entry.Left (file_id n) id cause ∷ []) n next_uid g entries → RowOk net journal n next_uid g (entry.Left (file_id n) id cause ∷ entries)
behind_left net journal n next_uid g id cause entries h = record {
  notes = (left_note n next_uid id cause, h.notes);
  right = (tt, h.right);
  file = subst (λ (j : List Entry). IsFile net j n g) (append_assoc journal (entry.Left (file_id n) id cause ∷ []) entries) h.file;
}

-- ---- one mirror of a fence

module _ (net : Net) (n fresh : ℕ) (m : FenceMirror) (h : IsInFence net n fresh m) where
  -- it waits, was answered otherwise, or was given up: no call is out, and nothing was acknowledged
  pub rests : (stage : CallStage) (unsynced : ℕ) → ((xid : ℕ) → is_out xid stage ≡ true → ⊥) → (is_answered stage ≡ true → ⊥) → IsInFence net n fresh (record { id = m.id; seen = m.seen; unsynced = unsynced; stage = stage })
  rests stage unsynced not_out not_done = record { name = h.name; drawn = h.drawn; bears = h.bears; home = h.home; seen = h.seen; out = λ xid is. absurd (not_out xid is); done = λ is. absurd (not_done is) }

  pub is_acknowledged : OwnedFrom net.servers m.id fresh → IsInFence net n fresh (with_stage m Done)
  is_acknowledged o = record { name = h.name; drawn = h.drawn; bears = h.bears; home = h.home; seen = h.seen; out = λ xid is. absurd cc; done = λ is. o }

  -- its call is out still, or again
  pub out_still : (stage : CallStage) (unsynced : ℕ) → ((xid : ℕ) → is_out xid stage ≡ true → is_out xid m.stage ≡ true) → (is_answered stage ≡ true → is_answered m.stage ≡ true) → IsInFence net n fresh (record { id = m.id; seen = m.seen; unsynced = unsynced; stage = stage })
  out_still stage unsynced outs dones = record { name = h.name; drawn = h.drawn; bears = h.bears; home = h.home; seen = h.seen; out = λ xid is. h.out xid (outs xid is); done = λ is. h.done (dones is) }

  pub sees : (shown : Option Shown) → IsGiven net.servers m.id.server shown → IsInFence net n fresh (having_seen m shown)
  sees None g = h
  sees (Some shown) g = record { name = h.name; drawn = h.drawn; bears = h.bears; home = h.home; seen = g; out = h.out; done = h.done }

-- a mirror's answer, by what is known of the call
failed_ok : (net : Net) (n fresh : ℕ) (m : FenceMirror) (cause : LeftCause) → IsInFence net n fresh m → IsInFence net n fresh (failed_by m cause).mirror
failed_ok net n fresh m cause h = rests net n fresh m h KeptBack m.unsynced (λ xid is. absurd cc) (λ is. absurd cc)

unsynced_ok : (net : Net) (n fresh : ℕ) (m : FenceMirror) → IsInFence net n fresh m → IsInFence net n fresh (out_of_sync m).mirror
unsynced_ok net n fresh m h =
    cond_both (ltb (m.unsynced + 1) max_unsynced) _ _ (λ (s : MirrorStep). IsInFence net n fresh s.mirror)
    (λ e. rests net n fresh m h Waits (m.unsynced + 1) (λ xid is. absurd cc) (λ is. absurd cc))
    (λ e. failed_ok net n fresh m Unsynced h)

set_same_call : (a b : ℕ) (u v : ℕ) (g k : Tick) → SetAttr a u g ≡ SetAttr b v k → (a ≡ b) × (u ≡ v)
set_same_call a b u v g k e = (cc, cc)

pub answered_ok : (net : Net) (n fresh : ℕ) (m : FenceMirror) (guard : Tick) (call : DsCallValue) (reply : DsReplyValue) → call ≡ SetAttr m.id.fileid fresh guard → IsReplyTo net.servers m.id.server call reply → IsInFence net n fresh m
    → IsInFence net n fresh (answered fresh m reply).mirror
answered_ok net n fresh m guard call (Created fileid shown) is k h = failed_ok net n fresh m (Error odd_status) h
answered_ok net n fresh m guard call (Set shown) is k h =
    let same = set_same_call k.0.fileid m.id.fileid k.0.uid fresh k.0.guard guard (sym k.0.asked ∙ is) in
    let owned : OwnedFrom net.servers (at_server m.id.server m.id.fileid) fresh =
    subst (λ (uid : ℕ). OwnedFrom net.servers (at_server m.id.server m.id.fileid) uid) same.1 (subst (λ (f : ℕ). OwnedFrom net.servers (at_server m.id.server f) k.0.uid) same.0 k.0.owned) in
    acked shown k.1 owned
  where
    acked : (s : Option Shown) → IsGiven net.servers m.id.server s → OwnedFrom net.servers m.id fresh → IsInFence net n fresh (acknowledged (having_seen m s)).mirror
    acked None g o = is_acknowledged net n fresh m h o
    acked (Some s) g o = is_acknowledged net n fresh (having_seen m (Some s)) (sees net n fresh m h (Some s) g) o
answered_ok net n fresh m guard call (Written shown verifier) is k h = failed_ok net n fresh m (Error odd_status) h
answered_ok net n fresh m guard call (Committed shown verifier) is k h = failed_ok net n fresh m (Error odd_status) h
answered_ok net n fresh m guard call (Bytes shown eof bytes) is k h = failed_ok net n fresh m (Error odd_status) h
answered_ok net n fresh m guard call (NotSync shown) is k h =
    let seen = sees net n fresh m h (Some shown) k.1 in
    let fileid : target call ≡ m.id.fileid = ap target is in
    cond_both (eqb shown.owner.0 fresh) _ _ (λ (s : MirrorStep). IsInFence net n fresh s.mirror)
    (λ e. is_acknowledged net n fresh (having_seen m (Some shown)) seen
    (subst (λ (uid : ℕ). OwnedFrom net.servers m.id uid) (eqb-true shown.owner.0 fresh e) (subst (λ (f : ℕ). OwnedFrom net.servers (at_server m.id.server f) shown.owner.0) fileid k.0)))
    (λ e. unsynced_ok net n fresh (having_seen m (Some shown)) seen)
answered_ok net n fresh m guard call (Failed status shown) is k h = back shown k
  where
    back : (s : Option Shown) → IsGiven net.servers m.id.server s → IsInFence net n fresh (failed_by (having_seen m s) (Error status)).mirror
    back None g = failed_ok net n fresh m (Error status) h
    back (Some s) g = failed_ok net n fresh (having_seen m (Some s)) (Error status) (sees net n fresh m h (Some s) g)

pub timed_ok : (net : Net) (n fresh : ℕ) (m : FenceMirror) → IsInFence net n fresh m → IsInFence net n fresh (timed_out m).mirror
timed_ok net n fresh m h = by_stage m.stage refl
  where
    by_stage : (stage : CallStage) → m.stage ≡ stage → IsInFence net n fresh (stage_timed_out m stage).mirror
    by_stage Waits is = h
    by_stage (Out xid timeouts) is =
        cond_both (ltb (timeouts + 1) 3) _ _ (λ (s : MirrorStep). IsInFence net n fresh s.mirror)
        (λ e. out_still net n fresh m h (Out xid (timeouts + 1)) m.unsynced (λ x o. ap (is_out x) is ∙ o) (λ o. absurd cc))
        (λ e. out_still net n fresh m h (KeptOut xid) m.unsynced (λ x o. ap (is_out x) is ∙ o) (λ o. absurd cc))
    by_stage (KeptOut xid) is = h
    by_stage KeptBack is = h
    by_stage Done is = h
    by_stage GivenUp is = h

pub ticked_ok : (net : Net) (n fresh : ℕ) (m : FenceMirror) → IsInFence net n fresh m → IsInFence net n fresh (at_tick m)
ticked_ok net n fresh m h = out_still net n fresh m h (stage_at_tick m.stage) _ (λ xid o. outs m.stage xid o) (λ o. dones m.stage o)
  where
    outs : (stage : CallStage) (xid : ℕ) → is_out xid (stage_at_tick stage) ≡ true → is_out xid stage ≡ true
    outs Waits xid o = o
    outs (Out x timeouts) xid o = o
    outs (KeptOut x) xid o = o
    outs KeptBack xid o = absurd cc
    outs Done xid o = o
    outs GivenUp xid o = o

    dones : (stage : CallStage) → is_answered (stage_at_tick stage) ≡ true → is_answered stage ≡ true
    dones Waits o = o
    dones (Out x timeouts) o = o
    dones (KeptOut x) o = absurd cc
    dones KeptBack o = absurd cc
    dones Done o = o
    dones GivenUp o = o

-- ---- which mirrors a fence has not given up

pub head_ids : (b : Bool) (x : FenceMirror) (rest : List FenceMirror) → map (λ y. y.id) (cond (not b) (x ∷ rest) rest) ≡ cond (not b) (x.id ∷ map (λ y. y.id) rest) (map (λ y. y.id) rest)
head_ids true x rest = refl
head_ids false x rest = refl

pub kept_set : (mirrors : List FenceMirror) (place : ℕ) (m new : FenceMirror) → slice_get mirrors place ≡ Some m → new.id ≡ m.id → is_given_up new.stage ≡ is_given_up m.stage → kept_ids (set mirrors place new) ≡ kept_ids mirrors
kept_set [] place m new e id stage = absurd cc
kept_set (x ∷ mirrors) zero m new e id stage =
    let x_is : x ≡ m = same_Some x m e in
    let rest : List FenceMirror = filter (λ y. not (is_given_up y.stage)) mirrors in
    head_ids (is_given_up new.stage) new rest
    ∙ ap (λ b. cond (not b) (new.id ∷ map (λ y. y.id) rest) (map (λ y. y.id) rest)) (stage ∙ ap (λ (y : FenceMirror). is_given_up y.stage) (sym x_is))
    ∙ ap (λ k. cond (not (is_given_up x.stage)) (k ∷ map (λ y. y.id) rest) (map (λ y. y.id) rest)) (id ∙ ap (λ (y : FenceMirror). y.id) (sym x_is))
    ∙ sym (head_ids (is_given_up x.stage) x rest)
kept_set (x ∷ mirrors) (suc place) m new e id stage = by_test (is_given_up x.stage) (kept_set mirrors place m new e id stage)
  where
    by_test : (b : Bool) → kept_ids (set mirrors place new) ≡ kept_ids mirrors
        → map (λ y. y.id) (cond (not b) (x ∷ filter (λ y. not (is_given_up y.stage)) (set mirrors place new)) (filter (λ y. not (is_given_up y.stage)) (set mirrors place new)))
        ≡ map (λ y. y.id) (cond (not b) (x ∷ filter (λ y. not (is_given_up y.stage)) mirrors) (filter (λ y. not (is_given_up y.stage)) mirrors))
    by_test true rest = rest
    by_test false rest = ap (λ ks. x.id ∷ ks) rest

kept_dropped : (id : MirrorId) (mirrors : List FenceMirror) → kept_ids (map (dropped_if id) mirrors) ≡ filter (λ k. not (is_mirror k id)) (kept_ids mirrors)
kept_dropped id [] = refl
kept_dropped id (m ∷ mirrors) =
    let rest : List FenceMirror = filter (λ y. not (is_given_up y.stage)) mirrors in
    let dropped : List FenceMirror = filter (λ y. not (is_given_up y.stage)) (map (dropped_if id) mirrors) in
    by_test (is_mirror m.id id) (is_given_up m.stage) refl refl (kept_dropped id mirrors)
  where
    by_test : (here gone : Bool) → is_mirror m.id id ≡ here → is_given_up m.stage ≡ gone → kept_ids (map (dropped_if id) mirrors) ≡ filter (λ k. not (is_mirror k id)) (kept_ids mirrors)
        → kept_ids (cond here (with_stage m GivenUp) m ∷ map (dropped_if id) mirrors) ≡ filter (λ k. not (is_mirror k id)) (map (λ y. y.id) (cond (not gone) (m ∷ filter (λ y. not (is_given_up y.stage)) mirrors) (filter (λ y. not (is_given_up y.stage)) mirrors)))
    by_test true true here gone ih = ih
    by_test true false here gone ih = ih ∙ sym (ap (λ (b : Bool). cond (not b) (m.id ∷ filter (λ k. not (is_mirror k id)) (kept_ids mirrors)) (filter (λ k. not (is_mirror k id)) (kept_ids mirrors))) here)
    by_test false true here gone ih = ap (λ (b : Bool). map (λ y. y.id) (cond (not b) (m ∷ filter (λ y. not (is_given_up y.stage)) (map (dropped_if id) mirrors)) (filter (λ y. not (is_given_up y.stage)) (map (dropped_if id) mirrors)))) gone ∙ ih
    by_test false false here gone ih =
        ap (λ (b : Bool). map (λ y. y.id) (cond (not b) (m ∷ filter (λ y. not (is_given_up y.stage)) (map (dropped_if id) mirrors)) (filter (λ y. not (is_given_up y.stage)) (map (dropped_if id) mirrors)))) gone
        ∙ ap (λ ks. m.id ∷ ks) ih
        ∙ sym (ap (λ (b : Bool). cond (not b) (m.id ∷ filter (λ k. not (is_mirror k id)) (kept_ids mirrors)) (filter (λ k. not (is_mirror k id)) (kept_ids mirrors))) here)

dropped_ok : (net : Net) (n fresh : ℕ) (id : MirrorId) (m : FenceMirror) → IsInFence net n fresh m → IsInFence net n fresh (dropped_if id m)
dropped_ok net n fresh id m h =
    cond_both (is_mirror m.id id) (with_stage m GivenUp) m (λ (x : FenceMirror). IsInFence net n fresh x) (λ e. rests net n fresh m h GivenUp m.unsynced (λ xid is. absurd cc) (λ is. absurd cc)) (λ e. h)

-- ---- a file in a fence

module _ (net : Net) (n next_uid : ℕ) (tops : net.drawn.top n < next_uid) where
  -- it is done, or goes on
  pub goes_on_ok : (journal : List Entry) (s : LayoutState) (fence : FenceState) → IsFile net journal n (record { layout = s; activity = Fences fence }) → IsExact net journal
      → RowOk net journal n next_uid (fenced_on (file_id n) s fence).file (fenced_on (file_id n) s fence).entries
  goes_on_ok journal s fence h exact =
      cond_both (is_done fence) (goes_on (fence_done (file_id n) s)) (stays s (Fences fence)) (λ (x : FileStep). RowOk net journal n next_uid x.file x.entries)
      (λ e. done_ok net n next_uid tops journal s fence h exact e) (λ e. nothing_new net journal n next_uid _ h)

  module _ (journal : List Entry) (s : LayoutState) (fence : FenceState) (h : IsFile net journal n (record { layout = s; activity = Fences fence })) (exact : IsExact net journal) where
    left_file : (id : MirrorId) (cause : LeftCause) → IsFile net (journal ++ entry.Left (file_id n) id cause ∷ []) n (record { layout = after_loss s id; activity = Fences (without fence id) })
    left_file id cause =
        let e : Entry = entry.Left (file_id n) id cause in
        let phase : phase_without s.phase (is_source id s.live) ≡ Fencing h.busy.next h.busy.end = ap (λ p. phase_without p (is_source id s.live)) h.busy.phase in
        record {
          live = live_append (file_id n) None journal (e ∷ []) ∙ ap (λ x. live_by (file_id n) x (e ∷ [])) (h.live ∙ ap (λ p. live_of p (ids_of s.live)) h.busy.phase)
              ∙ ap (λ (b : Bool). cond b (changed_live (filter (λ k. not (is_mirror k id))) (Some (ids_of s.live))) (Some (ids_of s.live))) (own_file (file_id n))
              ∙ ap Some (sym (ids_but_for id s.live)) ∙ sym (ap (λ p. live_of p (ids_of (but_for id s.live))) phase);
          apart = apart_filter (λ m. not (is_mirror m.id id)) s.live h.apart;
          mirrors = all_filter (IsMirrorOf net n (journal ++ e ∷ [])) (λ m. not (is_mirror m.id id)) s.live
              (all_more (IsMirrorOf net n journal) (IsMirrorOf net n (journal ++ e ∷ [])) s.live (λ m k. record { name = k.name; drawn = k.drawn; bears = k.bears; home = k.home; seen = k.seen; owned = all_append _ journal (e ∷ []) k.owned (tt, tt) }) h.mirrors);
          cred = h.cred;
          top = h.top;
          busy = record {
            next = h.busy.next;
            end = h.busy.end;
            phase = phase;
            fresh = h.busy.fresh;
            top = h.busy.top;
            later = h.busy.later;
            mirrors = all_map (IsInFence net n fence.cred) (IsInFence net n fence.cred) (dropped_if id) fence.mirrors (dropped_ok net n fence.cred id) h.busy.mirrors;
            ids = ids_but_for id s.live ∙ ap (filter (λ k. not (is_mirror k id))) h.busy.ids ∙ sym (kept_dropped id fence.mirrors);
          };
        }

    failed_step : (id : MirrorId) (cause : LeftCause) → RowOk net journal n next_uid (fence_failed (file_id n) s fence id cause).file (fence_failed (file_id n) s fence id cause).entries
    failed_step id cause =
        cond_both (is_last_live s.live) (stays s (Fences fence)) (with_entries (mirror_left (file_id n) s id cause).entries (fenced_on (file_id n) (mirror_left (file_id n) s id cause).file (without fence id)))
        (λ (x : FileStep). RowOk net journal n next_uid x.file x.entries)
        (λ e. nothing_new net journal n next_uid _ h)
        (λ e. behind_left net journal n next_uid _ id cause _
        (goes_on_ok (journal ++ entry.Left (file_id n) id cause ∷ []) (after_loss s id) (without fence id) (left_file id cause) (exact_on net journal (entry.Left (file_id n) id cause ∷ []) (λ k c. refl, tt) exact)))

    pub stepped_ok : (step : FenceStep) → RowOk net journal n next_uid (fence_stepped (file_id n) s fence step).file (fence_stepped (file_id n) s fence step).entries
    stepped_ok Stranger = nothing_new net journal n next_uid _ h
    stepped_ok Acked = goes_on_ok journal s fence h exact
    stepped_ok Again = nothing_new net journal n next_uid _ h
    stepped_ok (HasFailed id cause) = failed_step id cause
