-- A copy ends: its targets come into the live list, and a fence begins.
use Rattle.std.proofs.Common.{◌≡◌, ◌≢◌, ℕ, ◌+◌, ◌≤◌, true, List, [], ◌∷◌, ◌++◌, Option, Some, None, refl, ap, subst, ◌∙◌, arith}
use Rattle.std.specs.List.{AllByRecursion, flat_map}
use Rattle.std.proofs.lemmas.Bool.{cond_both}
use Rattle.cluster_model.specs.declared.ids.MirrorId.{MirrorId}
use Rattle.cluster_model.specs.declared.ids.Mirror.{Mirror}
use Rattle.cluster_model.specs.declared.entry.Entry.{Entry}
use Rattle.cluster_model.specs.declared.entry.Entry.TheVariants as entry
use Rattle.cluster_model.specs.declared.layout_state.LayoutState.{LayoutState}
use Rattle.cluster_model.specs.declared.layout_state.FenceEnd.TheVariants.{Copied}
use Rattle.cluster_model.specs.Mirrors.{are_on_different_servers}
use Rattle.cluster_model.specs.Phases.{ids_of, with_targets, swapped_entries}
use Rattle.cluster_model.specs.declared.targets.SwappedIn.{SwappedIn}
use Rattle.copy_rule.specs.Copies.{CopyState, has_outcome, swap_of, swaps_of}
use Rattle.copy_rule.specs.declared.copy_target.CopyTarget.{CopyTarget}
use Rattle.file_rule.specs.MdsFiles.{Copies, stays, a_uid, copied_by, copied_on}
use Rattle.cluster_laws.specs.Machine.{file_id}
use Rattle.cluster_laws.specs.FenceLaw.{live_in, live_by}
use Rattle.cluster_laws.proofs.Facts.{OwnedFrom, owned_less}
use Rattle.cluster_laws.proofs.Lists.{all_more}
use Rattle.cluster_laws.proofs.Invariant.{Net, FenceNote, fence_in, If, KeepsOwner, IsFencedTo, IsMirrorOf, IsTargetOf, live_of, IsFile, AreRight}
use Rattle.cluster_laws.proofs.Journals.{live_append}
use Rattle.cluster_laws.proofs.Moved.{IsNote}
use Rattle.cluster_laws.proofs.Rows.{swapped_note, fence_begins}
use Rattle.cluster_laws.proofs.Lives.{all_swapped, all_targets}
use Rattle.cluster_laws.proofs.FenceSteps.{nothing_new}
use Rattle.cluster_laws.proofs.CopySteps.{frees, StepOk, Plain, Draws}
use Rattle.cluster_laws.proofs.Draws.{drawn_net, later_drawn, top_here}
use Rattle.cluster_laws.proofs.Known.{Known, fresh_from}
use Rattle.cluster_laws.proofs.Plans.{IsOnServer, swap_apart}

-- ---- the entries of targets that come in

swapped_notes : (n next_uid : ℕ) (targets : List SwappedIn) → AllByRecursion (IsNote n next_uid) (swapped_entries (file_id n) targets)
swapped_notes n next_uid [] = tt
swapped_notes n next_uid (t ∷ targets) = (swapped_note n next_uid t.old t.new.id, swapped_notes n next_uid targets)

swapped_no_fences : (n : ℕ) (targets : List SwappedIn) → AllByRecursion (λ e. If (fence_in e) (λ x. x.file ≢ n)) (swapped_entries (file_id n) targets)
swapped_no_fences n [] = tt
swapped_no_fences n (t ∷ targets) = (tt, swapped_no_fences n targets)

swapped_right : (n : ℕ) (before : List Entry) (targets : List SwappedIn) → AreRight before (swapped_entries (file_id n) targets)
swapped_right n before [] = tt
swapped_right n before (t ∷ targets) = (tt, swapped_right n (before ++ entry.Swapped (file_id n) t.old t.new.id ∷ []) targets)

-- ---- the targets that were made

all_swaps : (net : Net) (n copier at : ℕ) (piece : List ℕ) (P : Mirror → Type 0) (targets : List CopyTarget) → AllByRecursion (IsTargetOf net n copier at piece) targets → ((t : CopyTarget) (m : Mirror) → IsTargetOf net n copier at piece t → t.made ≡ Some m → P m)
    → AllByRecursion (λ x. P x.new) (flat_map (λ t. swap_of t t.made) targets)
all_swaps net n copier at piece P [] h f = tt
all_swaps net n copier at piece P (t ∷ targets) h f = by_made t.made refl (all_swaps net n copier at piece P targets h.1 f)
  where
    by_made : (o : Option Mirror) → t.made ≡ o → AllByRecursion (λ x. P x.new) (flat_map (λ y. swap_of y y.made) targets) → AllByRecursion (λ x. P x.new) (swap_of t o ++ flat_map (λ y. swap_of y y.made) targets)
    by_made None is ih = ih
    by_made (Some m) is ih = (f t m h.0 is, ih)

-- a mirror that belongs to a uid, or a later one, keeps its owner where the file was fenced up to that uid
keeps_up_to : (net : Net) (n uid : ℕ) (id : MirrorId) → OwnedFrom net.servers id uid → (x : Option FenceNote) → If x (λ y. y.file ≡ n → y.new ≤ uid) → If x (λ y. y.file ≡ n → OwnedFrom net.servers id y.new)
keeps_up_to net n uid id owned None up = tt
keeps_up_to net n uid id owned (Some x) up = λ e. owned_less net.servers id uid x.new (up e) owned

module _ (net : Net) (n next_uid files : ℕ) (journal : List Entry) (known : Known net next_uid files journal) where
  -- a target that was made is a mirror of the file
  made_mirror : (owner at : ℕ) (piece : List ℕ) → AllByRecursion (IsFencedTo n owner) journal → (c : CopyTarget) (m : Mirror) → IsTargetOf net n owner at piece c → c.made ≡ Some m → IsMirrorOf net n journal m
  made_mirror owner at piece fences c m h is =
      let made = h.made m is in
      let owned : OwnedFrom net.servers m.id owner = subst (λ (uid : ℕ). OwnedFrom net.servers m.id uid) h.low (known.lowest m.id c.name made.1 h.drawn) in
      record {
        name = c.name;
        drawn = h.drawn;
        bears = made.1;
        home = h.home;
        seen = made.2;
        owned = all_more (IsFencedTo n owner) (KeepsOwner net.servers n m.id) journal (λ e k. keeps_up_to net n owner m.id owned (fence_in e) k) fences;
      }

  module _ (servers : ℕ) (s : LayoutState) (c : CopyState) (h : IsFile net journal n (record { layout = s; activity = Copies c })) where
    live_copying : live_of s.phase (ids_of s.live) ≡ Some (ids_of s.live)
    live_copying = ap (λ p. live_of p (ids_of s.live)) h.busy.phase

    swapped_live : (targets : List SwappedIn) → live_in (journal ++ swapped_entries (file_id n) targets) (file_id n) ≡ Some (ids_of (with_targets targets s.live))
    swapped_live targets =
        live_append (file_id n) None journal (swapped_entries (file_id n) targets)
        ∙ ap (λ x. live_by (file_id n) x (swapped_entries (file_id n) targets)) (h.live ∙ live_copying)
        ∙ all_swapped (file_id n) targets s.live

    -- with these targets the copy ends
    swaps : (targets : List SwappedIn) → AllByRecursion (λ t. IsMirrorOf net n journal t.new) targets → are_on_different_servers (with_targets targets s.live) ≡ true
        → StepOk net journal n next_uid (copied_by (file_id n) s (a_uid c.copier) targets (fresh_from net next_uid servers))
    swaps [] mirrors apart = Plain refl refl (frees net n next_uid journal s (Copies c) h live_copying)
    swaps (t ∷ targets) mirrors apart =
        let copied : LayoutState = record { wanted = s.wanted; cred = a_uid c.copier; live = s.live; phase = s.phase } in
        let later = h.busy.later in
        let up = h.busy.top in
        let less = known.tops n in
        Draws refl (record {
          notes = swapped_notes n (next_uid + 1) (t ∷ targets);
          right = swapped_right n journal (t ∷ targets);
          file = fence_begins net (drawn_net net n next_uid 0) (later_drawn net n next_uid 0 known.same known.tops) n journal copied next_uid (with_targets (t ∷ targets) s.live) Copied (swapped_entries (file_id n) (t ∷ targets))
              (swapped_no_fences n (t ∷ targets)) (top_here net.drawn net.next_name n next_uid) (omega (arith, later)) (omega (arith, up, less))
              (swapped_live (t ∷ targets)) apart (all_targets (IsMirrorOf net n journal) (t ∷ targets) s.live h.mirrors mirrors);
        })

-- where the copy has its outcome
pub copied_on_ok : (net : Net) (n next_uid files servers : ℕ) (journal : List Entry) → Known net next_uid files journal → (s : LayoutState) (c : CopyState)
    → IsFile net journal n (record { layout = s; activity = Copies c })
    → StepOk net journal n next_uid (copied_on (file_id n) s c (fresh_from net next_uid servers))
copied_on_ok net n next_uid files servers journal known s c h =
    cond_both (has_outcome c) (copied_by (file_id n) s (a_uid c.copier) (swaps_of c) (fresh_from net next_uid servers)) (stays s (Copies c)) (StepOk net journal n next_uid)
    (λ e. swaps net n next_uid files journal known servers s c h (swaps_of c)
    (all_swaps net n c.copier c.at c.piece (IsMirrorOf net n journal) c.targets h.busy.targets (made_mirror net n next_uid files journal known c.copier c.at c.piece h.busy.fences)) (swap_apart c.targets s.live (all_more (IsTargetOf net n c.copier c.at c.piece) IsOnServer c.targets (λ t k m is. (k.made m is).0) h.busy.targets) h.apart h.busy.plan))
    (λ e. Plain refl refl (nothing_new net journal n next_uid _ h))
