-- A fence whose mirrors acknowledged or left is done: they belong to the fresh uid, and no other.
use Rattle.std.proofs.Common.{◌≡◌, ℕ, ◌<◌, ◌≤◌, Bool, true, false, cond, not, List, [], ◌∷◌, ◌++◌, map, filter, Option, Some, None, refl, sym, ap, subst, ◌∙◌, arith}
use Rattle.std.specs.List.{AllByRecursion, list_all}
use Rattle.std.proofs.lemmas.Bool.{and_parts}
use Rattle.cluster_model.specs.declared.ids.MirrorId.{MirrorId}
use Rattle.cluster_model.specs.declared.ids.Mirror.{Mirror}
use Rattle.cluster_model.specs.declared.entry.Entry.{Entry}
use Rattle.cluster_model.specs.declared.entry.Entry.TheVariants as entry
use Rattle.cluster_model.specs.declared.call_stage.CallStage.{CallStage}
use Rattle.cluster_model.specs.declared.call_stage.CallStage.TheVariants.{Waits, Out, KeptOut, KeptBack, Done, GivenUp}
use Rattle.cluster_model.specs.declared.fence_mirror.FenceMirror.{FenceMirror}
use Rattle.cluster_model.specs.declared.layout_state.LayoutState.{LayoutState}
use Rattle.cluster_model.specs.declared.layout_state.LayoutPhase.{LayoutPhase}
use Rattle.cluster_model.specs.declared.layout_state.LayoutPhase.TheVariants.{Fencing}
use Rattle.cluster_model.specs.declared.layout_state.FenceEnd.{FenceEnd}
use Rattle.cluster_model.specs.declared.layout_state.FenceEnd.TheVariants.{Clean, Dirty, Copied}
use Rattle.cluster_model.specs.declared.layout_state.CopyKind.TheVariants.{Replacing}
use Rattle.cluster_model.specs.Journal.{Copy, copy_after, content_of}
use Rattle.cluster_model.specs.Fences.{FenceState, is_over, is_done}
use Rattle.cluster_model.specs.Phases.{ids_of, fenced_to, fence_entries}
use Rattle.copy_rule.specs.Copies.{is_given_up}
use Rattle.file_rule.specs.MdsFiles.{Idle, Fences, begun_by}
use Rattle.cluster_laws.specs.Machine.{file_id}
use Rattle.cluster_laws.specs.FenceLaw.{live_in, live_by, first_free}
use Rattle.cluster_laws.proofs.Facts.{Bears, OwnedFrom}
use Rattle.cluster_laws.proofs.Lists.{all_append, all_more}
use Rattle.cluster_laws.proofs.Invariant.{Net, FenceNote, fence_in, If, KeepsOwner, IsMirrorOf, IsInFence, is_answered, kept_ids, IsFencing, live_of, IsFile}
use Rattle.cluster_laws.proofs.Journals.{live_append, content_same}
use Rattle.cluster_laws.proofs.Moved.{IsNote}
use Rattle.cluster_laws.proofs.Rows.{RowOk, fenced_note, free_note}
use Rattle.cluster_laws.proofs.Lives.{own_file}

-- ---- what the journal says of an owner who is bounded on both sides

pub IsExact : (net : Net) (journal : List Entry) → Type 0
IsExact net journal = (id : MirrorId) (name uid : ℕ) → Bears net.servers id name → name < net.next_name → OwnedFrom net.servers id uid → net.drawn.top (net.drawn.home name) ≤ uid → (content_of journal id).owner ≡ uid

pub exact_by : (net : Net) (journal : List Entry) → ((id : MirrorId) (name uid : ℕ) → Bears net.servers id name → name < net.next_name → OwnedFrom net.servers id uid → net.drawn.top (net.drawn.home name) ≤ uid → (content_of journal id).owner ≡ uid) → IsExact net journal
unfolding IsExact
exact_by net journal h = h

pub exact_at : (net : Net) (journal : List Entry) → IsExact net journal → (id : MirrorId) (name uid : ℕ) → Bears net.servers id name → name < net.next_name → OwnedFrom net.servers id uid → net.drawn.top (net.drawn.home name) ≤ uid → (content_of journal id).owner ≡ uid
unfolding IsExact
exact_at net journal h = h

pub exact_on : (net : Net) (journal entries : List Entry) → AllByRecursion (λ e. (id : MirrorId) (c : Copy) → copy_after id c e ≡ c) entries → IsExact net journal → IsExact net (journal ++ entries)
unfolding IsExact
exact_on net journal entries same h id name uid bears drawn owned most =
    ap (λ (c : Copy). c.owner) (content_same id journal entries (all_more (λ e. (k : MirrorId) (c : Copy) → copy_after k c e ≡ c) (λ e. (c : Copy) → copy_after id c e ≡ c) entries (λ e f. f id) same))
    ∙ h id name uid bears drawn owned most

-- ---- the mirrors of a fence that is done

answered_by : (stage : CallStage) → is_over stage ≡ true → is_given_up stage ≡ false → is_answered stage ≡ true
answered_by Waits over kept = absurd cc
answered_by (Out xid timeouts) over kept = absurd cc
answered_by (KeptOut xid) over kept = absurd cc
answered_by KeptBack over kept = absurd cc
answered_by Done over kept = refl
answered_by GivenUp over kept = absurd cc

kept_owned : (net : Net) (n fresh : ℕ) (mirrors : List FenceMirror) → AllByRecursion (IsInFence net n fresh) mirrors → list_all (λ m. is_over m.stage) mirrors ≡ true → AllByRecursion (λ id. OwnedFrom net.servers id fresh) (kept_ids mirrors)
kept_owned net n fresh [] h over = tt
kept_owned net n fresh (m ∷ mirrors) h over =
    let parts = and_parts _ _ over in
    by_stage (is_given_up m.stage) refl parts.0 (kept_owned net n fresh mirrors h.1 parts.1)
  where
    by_stage : (b : Bool) → is_given_up m.stage ≡ b → is_over m.stage ≡ true → AllByRecursion (λ id. OwnedFrom net.servers id fresh) (kept_ids mirrors)
        → AllByRecursion (λ id. OwnedFrom net.servers id fresh) (map (λ x. x.id) (cond (not b) (m ∷ filter (λ x. not (is_given_up x.stage)) mirrors) (filter (λ x. not (is_given_up x.stage)) mirrors)))
    by_stage true is done rest = rest
    by_stage false is done rest = (h.0.done (answered_by m.stage done is), rest)

by_ids : (P : MirrorId → Type 0) (live : List Mirror) → AllByRecursion P (ids_of live) → AllByRecursion (λ m. P m.id) live
by_ids P [] h = tt
by_ids P (m ∷ live) h = (h.0, by_ids P live h.1)

to_ids : (P : MirrorId → Type 0) (live : List Mirror) → AllByRecursion (λ m. P m.id) live → AllByRecursion P (ids_of live)
to_ids P [] h = tt
to_ids P (m ∷ live) h = (h.0, to_ids P live h.1)

two : {A : Type 0} (P Q : A → Type 0) (xs : List A) → AllByRecursion P xs → AllByRecursion Q xs → AllByRecursion (λ x. P x × Q x) xs
two P Q [] h k = tt
two P Q (x ∷ xs) h k = ((h.0, k.0), two P Q xs h.1 k.1)

-- ---- done

module _ (net : Net) (n next_uid : ℕ) (tops : net.drawn.top n < next_uid) (journal : List Entry) (s : LayoutState) (fence : FenceState) (h : IsFile net journal n (record { layout = s; activity = Fences fence })) (exact : IsExact net journal) (over : is_done fence ≡ true) where
  abbrev busy : IsFencing net n s fence
  busy = h.busy

  owned : AllByRecursion (λ m. OwnedFrom net.servers m.id fence.cred) s.live
  owned = by_ids (λ id. OwnedFrom net.servers id fence.cred) s.live (subst (λ (ids : List MirrorId). AllByRecursion (λ id. OwnedFrom net.servers id fence.cred) ids) (sym h.busy.ids) (kept_owned net n fence.cred fence.mirrors h.busy.mirrors over))

  live_now : live_in journal (file_id n) ≡ Some (ids_of s.live)
  live_now = h.live ∙ ap (λ (p : LayoutPhase). live_of p (ids_of s.live)) h.busy.phase

  exactly : AllByRecursion (λ id. (content_of journal id).owner ≡ h.busy.next.0) (ids_of s.live)
  unfolding IsExact
  exactly =
      to_ids (λ id. (content_of journal id).owner ≡ h.busy.next.0) s.live
      (all_more (λ m. IsMirrorOf net n journal m × OwnedFrom net.servers m.id fence.cred) (λ m. (content_of journal m.id).owner ≡ h.busy.next.0) s.live
      (λ m k. let top = h.busy.top in
      exact m.id k.0.name fence.cred k.0.bears k.0.drawn k.1 (subst (λ (g : ℕ). net.drawn.top g ≤ fence.cred) (sym k.0.home) (omega (arith, top))) ∙ sym h.busy.fresh)
      (two (IsMirrorOf net n journal) (λ m. OwnedFrom net.servers m.id fence.cred) s.live h.mirrors owned))

  -- the mirrors belong to the fresh uid from then on
  kept : (entries : List Entry) → AllByRecursion (λ e. If (fence_in e) (λ x. x.new ≡ fence.cred)) entries → AllByRecursion (IsMirrorOf net n (journal ++ entries)) s.live
  kept entries news =
      all_more (λ m. IsMirrorOf net n journal m × OwnedFrom net.servers m.id fence.cred) (IsMirrorOf net n (journal ++ entries)) s.live
      (λ m k. record {
        name = k.0.name;
        drawn = k.0.drawn;
        bears = k.0.bears;
        home = k.0.home;
        seen = k.0.seen;
        owned = all_append (KeepsOwner net.servers n m.id) journal entries k.0.owned (all_more (λ e. If (fence_in e) (λ x. x.new ≡ fence.cred)) (KeepsOwner net.servers n m.id) entries (λ e. is_owner m.id k.1 (fence_in e)) news);
      }) (two (IsMirrorOf net n journal) (λ m. OwnedFrom net.servers m.id fence.cred) s.live h.mirrors owned)
    where
      is_owner : (id : MirrorId) → OwnedFrom net.servers id fence.cred → (x : Option FenceNote) → If x (λ y. y.new ≡ fence.cred) → If x (λ y. y.file ≡ n → OwnedFrom net.servers id y.new)
      is_owner id o None k = tt
      is_owner id o (Some x) k = λ e. subst (λ (uid : ℕ). OwnedFrom net.servers id uid) (sym k) o

  next_later : (0 < h.busy.next.0) × (s.cred.0 < h.busy.next.0) × (h.busy.next.0 < next_uid) × (h.busy.next.0 ≤ net.drawn.top n)
  next_later =
      let later = h.busy.later in
      let fresh = h.busy.fresh in
      let top = h.busy.top in
      (omega (arith, later, fresh), omega (arith, later, fresh), omega (arith, fresh, top, tops), omega (arith, fresh, top))

  fence_note : IsNote n next_uid (entry.Fenced (file_id n) s.cred h.busy.next (ids_of s.live))
  fence_note = fenced_note n next_uid s.cred h.busy.next (ids_of s.live) h.cred next_later.1 next_later.2

  freed : RowOk net journal n next_uid (record { layout = fenced_to s (Fencing h.busy.next Clean); activity = Idle }) (fence_entries (file_id n) s (Fencing h.busy.next Clean))
  freed = record {
    notes = (fence_note, (free_note n next_uid (ids_of s.live), tt));
    right = ((live_now, exactly), (tt, tt));
    file = record {
      live = live_append (file_id n) None journal (fence_entries (file_id n) s (Fencing h.busy.next Clean)) ∙ ap (λ x. live_by (file_id n) x (fence_entries (file_id n) s (Fencing h.busy.next Clean))) live_now ∙ ap (λ (b : Bool). cond b (first_free (ids_of s.live) (Some (ids_of s.live))) (Some (ids_of s.live))) (own_file (file_id n));
      apart = h.apart;
      mirrors = kept _ (h.busy.fresh, (tt, tt));
      cred = next_later.0;
      top = next_later.3;
      busy = refl;
    };
  }

  -- by what comes behind it
  by_end : (end : FenceEnd) → RowOk net journal n next_uid (record { layout = fenced_to s (Fencing h.busy.next end); activity = begun_by (fenced_to s (Fencing h.busy.next end)).phase }) (fence_entries (file_id n) s (Fencing h.busy.next end))
  by_end Clean = freed
  by_end Dirty = record {
    notes = (fence_note, tt);
    right = ((live_now, exactly), tt);
    file = record {
      live = live_append (file_id n) None journal (fence_entries (file_id n) s (Fencing h.busy.next Dirty)) ∙ live_now;
      apart = h.apart;
      mirrors = kept _ (h.busy.fresh, tt);
      cred = next_later.0;
      top = next_later.3;
      busy = record { copies = Replacing; phase = refl };
    };
  }
  by_end Copied = freed

  pub done_ok : RowOk net journal n next_uid (record { layout = fenced_to s s.phase; activity = begun_by (fenced_to s s.phase).phase }) (fence_entries (file_id n) s s.phase)
  done_ok =
      subst (λ (p : LayoutPhase). RowOk net journal n next_uid (record { layout = fenced_to s p; activity = begun_by (fenced_to s p).phase }) (fence_entries (file_id n) s p)) (sym h.busy.phase) (by_end h.busy.end)
