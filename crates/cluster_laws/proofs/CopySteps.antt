-- The source of a copy is committed, the targets are made and come in, and any of them may fail.
use Rattle.std.proofs.Common.{◌≡◌, ℕ, ◌+◌, Bool, ltb, cond, not, List, [], ◌∷◌, ◌++◌, filter, Some, None, refl, sym, ap, ◌∙◌}
use Rattle.std.specs.List.{AllByRecursion}
use Rattle.std.proofs.lemmas.Bool.{cond_both}
use Rattle.cluster_model.specs.declared.ids.MirrorId.{MirrorId}
use Rattle.cluster_model.specs.declared.ids.Mirror.{Mirror}
use Rattle.cluster_model.specs.declared.phase.LeftCause.{LeftCause}
use Rattle.cluster_model.specs.declared.phase.LeftCause.TheVariants.{Timeouts}
use Rattle.cluster_model.specs.declared.entry.Entry.{Entry}
use Rattle.cluster_model.specs.declared.entry.Entry.TheVariants as entry
use Rattle.cluster_model.specs.declared.call_stage.CallStage.{CallStage}
use Rattle.cluster_model.specs.declared.call_stage.CallStage.TheVariants.{Waits, Out, KeptOut, KeptBack, Done, GivenUp}
use Rattle.cluster_model.specs.declared.layout_state.LayoutState.{LayoutState}
use Rattle.cluster_model.specs.declared.layout_state.LayoutPhase.TheVariants.{Free, Settling}
use Rattle.cluster_model.specs.declared.layout_state.CopyKind.{CopyKind}
use Rattle.cluster_model.specs.Journal.{is_mirror}
use Rattle.cluster_model.specs.Phases.{ids_of, but_for, is_last_live, is_source, phase_without, with_phase, after_loss}
use Rattle.file_rule.specs.MdsFiles.{Activity, Idle, Settles, FileStep, stays, source_left, settling_timed_out}
use Rattle.cluster_laws.specs.Machine.{file_id}
use Rattle.cluster_laws.specs.FenceLaw.{live_by, changed_live, first_free}
use Rattle.cluster_laws.proofs.Lists.{all_append, all_more}
use Rattle.cluster_laws.proofs.Invariant.{Net, KeepsOwner, IsMirrorOf, IsBusyWith, live_of, IsFile}
use Rattle.cluster_laws.proofs.Journals.{live_append}
use Rattle.cluster_laws.proofs.Rows.{RowOk, left_note, free_note}
use Rattle.cluster_laws.proofs.Lives.{own_file, apart_filter, all_filter, ids_but_for}
use Rattle.cluster_laws.proofs.FenceSteps.{nothing_new}
use Rattle.cluster_laws.proofs.Draws.{drawn_net}

-- ---- a mirror leaves

left_mirrors : (net : Net) (n : ℕ) (journal : List Entry) (id gone : MirrorId) (cause : LeftCause) (live : List Mirror) → AllByRecursion (IsMirrorOf net n journal) live → AllByRecursion (IsMirrorOf net n (journal ++ entry.Left (file_id n) id cause ∷ [])) (but_for gone live)
left_mirrors net n journal id gone cause live h =
    all_filter (IsMirrorOf net n (journal ++ entry.Left (file_id n) id cause ∷ [])) (λ m. not (is_mirror m.id gone)) live
    (all_more (IsMirrorOf net n journal) (IsMirrorOf net n (journal ++ entry.Left (file_id n) id cause ∷ [])) live
    (λ m k. record { name = k.name; drawn = k.drawn; bears = k.bears; home = k.home; seen = k.seen; owned = all_append (KeepsOwner net.servers n m.id) journal (entry.Left (file_id n) id cause ∷ []) k.owned (tt, tt) }) h)

-- a file that loses a mirror, in a phase before and behind in which it has a live list
pub loses : (net : Net) (n next_uid : ℕ) (journal : List Entry) (s : LayoutState) (was activity : Activity) (id : MirrorId) (cause : LeftCause) → IsFile net journal n (record { layout = s; activity = was })
    → live_of s.phase (ids_of s.live) ≡ Some (ids_of s.live) → live_of (phase_without s.phase (is_source id s.live)) (ids_of (but_for id s.live)) ≡ Some (ids_of (but_for id s.live))
    → IsBusyWith net (journal ++ entry.Left (file_id n) id cause ∷ []) n (after_loss s id) activity
    → RowOk net journal n next_uid (record { layout = after_loss s id; activity = activity }) (entry.Left (file_id n) id cause ∷ [])
loses net n next_uid journal s was activity id cause h before behind busy =
    let e : Entry = entry.Left (file_id n) id cause in
    record {
      notes = (left_note n next_uid id cause, tt);
      right = (tt, tt);
      file = record {
        live = live_append (file_id n) None journal (e ∷ []) ∙ ap (λ x. live_by (file_id n) x (e ∷ [])) (h.live ∙ before)
            ∙ ap (λ (b : Bool). cond b (changed_live (filter (λ k. not (is_mirror k id))) (Some (ids_of s.live))) (Some (ids_of s.live))) (own_file (file_id n))
            ∙ ap Some (sym (ids_but_for id s.live)) ∙ sym behind;
        apart = apart_filter (λ m. not (is_mirror m.id id)) s.live h.apart;
        mirrors = left_mirrors net n journal id id cause s.live h.mirrors;
        cred = h.cred;
        top = h.top;
        busy = busy;
      };
    }

-- a file that has a live list is free, with the same mirrors
pub frees : (net : Net) (n next_uid : ℕ) (journal : List Entry) (s : LayoutState) (was : Activity) → IsFile net journal n (record { layout = s; activity = was }) → live_of s.phase (ids_of s.live) ≡ Some (ids_of s.live)
    → RowOk net journal n next_uid (record { layout = with_phase s Free; activity = Idle }) (entry.Free (file_id n) (ids_of s.live) ∷ [])
frees net n next_uid journal s was h before =
    let e : Entry = entry.Free (file_id n) (ids_of s.live) in
    record {
      notes = (free_note n next_uid (ids_of s.live), tt);
      right = (tt, tt);
      file = record {
        live = live_append (file_id n) None journal (e ∷ []) ∙ ap (λ x. live_by (file_id n) x (e ∷ [])) (h.live ∙ before)
            ∙ ap (λ (b : Bool). cond b (first_free (ids_of s.live) (Some (ids_of s.live))) (Some (ids_of s.live))) (own_file (file_id n));
        apart = h.apart;
        mirrors = all_more (IsMirrorOf net n journal) (IsMirrorOf net n (journal ++ e ∷ [])) s.live
            (λ m k. record { name = k.name; drawn = k.drawn; bears = k.bears; home = k.home; seen = k.seen; owned = all_append (KeepsOwner net.servers n m.id) journal (e ∷ []) k.owned (tt, tt) }) h.mirrors;
        cred = h.cred;
        top = h.top;
        busy = refl;
      };
    }

-- ---- settling

module _ (net : Net) (n next_uid : ℕ) (journal : List Entry) (s : LayoutState) (stage : CallStage) (h : IsFile net journal n (record { layout = s; activity = Settles stage })) where
  pub staged_settling : (other : CallStage) → IsFile net journal n (record { layout = s; activity = Settles other })
  staged_settling other = record { live = h.live; apart = h.apart; mirrors = h.mirrors; cred = h.cred; top = h.top; busy = h.busy }

  live_settling : (copies : CopyKind) → s.phase ≡ Settling copies → live_of s.phase (ids_of s.live) ≡ Some (ids_of s.live)
  live_settling copies is = ap (λ p. live_of p (ids_of s.live)) is

  pub source_ok : (live : List Mirror) (cause : LeftCause) (kept : CallStage) → RowOk net journal n next_uid (source_left (file_id n) s live cause (Settles kept)).file (source_left (file_id n) s live cause (Settles kept)).entries
  source_ok [] cause kept = nothing_new net journal n next_uid _ (staged_settling kept)
  source_ok (m ∷ live) cause kept =
      let e : Entry = entry.Left (file_id n) m.id cause in
      let phase : phase_without s.phase (is_source m.id s.live) ≡ Settling h.busy.copies = ap (λ p. phase_without p (is_source m.id s.live)) h.busy.phase in
      cond_both (is_last_live s.live) (stays s (Settles kept)) (record { file = record { layout = after_loss s m.id; activity = Settles Waits }; entries = e ∷ []; uids = 0; names = 0 })
      (λ (x : FileStep). RowOk net journal n next_uid x.file x.entries)
      (λ w. nothing_new net journal n next_uid _ (staged_settling kept))
      (λ w. loses net n next_uid journal s (Settles stage) (Settles Waits) m.id cause h (live_settling h.busy.copies h.busy.phase) (ap (λ p. live_of p (ids_of (but_for m.id s.live))) phase) (record { copies = h.busy.copies; phase = phase }))

  pub settling_late : RowOk net journal n next_uid (settling_timed_out (file_id n) s stage).file (settling_timed_out (file_id n) s stage).entries
  settling_late = by_stage stage
    where
      by_stage : (x : CallStage) → RowOk net journal n next_uid (settling_timed_out (file_id n) s x).file (settling_timed_out (file_id n) s x).entries
      by_stage Waits = nothing_new net journal n next_uid _ (staged_settling Waits)
      by_stage (Out xid timeouts) =
          cond_both (ltb (timeouts + 1) 3) (stays s (Settles (Out xid (timeouts + 1)))) (source_left (file_id n) s s.live Timeouts (Settles (KeptOut xid))) (λ (x : FileStep). RowOk net journal n next_uid x.file x.entries)
          (λ e. nothing_new net journal n next_uid _ (staged_settling (Out xid (timeouts + 1)))) (λ e. source_ok s.live Timeouts (KeptOut xid))
      by_stage (KeptOut xid) = nothing_new net journal n next_uid _ (staged_settling (KeptOut xid))
      by_stage KeptBack = nothing_new net journal n next_uid _ (staged_settling KeptBack)
      by_stage Done = nothing_new net journal n next_uid _ (staged_settling Done)
      by_stage GivenUp = nothing_new net journal n next_uid _ (staged_settling GivenUp)

-- ---- a step that draws nothing, or a uid and names

pub data StepOk (net : Net) (journal : List Entry) (n next_uid : ℕ) (s : FileStep) : Type 0 where
  Plain : s.uids ≡ 0 → s.names ≡ 0 → RowOk net journal n next_uid s.file s.entries → StepOk net journal n next_uid s
  Draws : s.uids ≡ 1 → RowOk (drawn_net net n next_uid s.names) journal n (next_uid + 1) s.file s.entries → StepOk net journal n next_uid s
