-- A call of a file goes out, and files that are not there have no users.
use Rattle.std.proofs.Common.{◌≡◌, ◌≢◌, ℕ, ◌+◌, ◌-◌, ◌⊎◌, ◌&&◌, List, [], ◌∷◌, ◌++◌, length, set, Option, Some, None, refl, sym, ap, ◌∙◌, inl, inr, arith}
use Rattle.std.specs.Prelude.{slice_get}
use Rattle.std.specs.List.{AllByRecursion}
use Rattle.std.proofs.lemmas.Bool.{cases_eq, cond_both}
use Rattle.cluster_model.specs.declared.ids.MirrorId.{MirrorId}
use Rattle.cluster_model.specs.declared.ids.Mirror.{Mirror}
use Rattle.cluster_model.specs.declared.entry.Entry.{Entry}
use Rattle.cluster_model.specs.declared.layout_state.LayoutState.{LayoutState}
use Rattle.cluster_model.specs.Phases.{ids_of}
use Rattle.cluster_model.specs.DsCalls.{Read}
use Rattle.cluster_model.specs.declared.limits.TheConstants.{PIECE_SIZE}
use Rattle.cluster_model.specs.declared.call_stage.CallStage.{CallStage}
use Rattle.cluster_model.specs.declared.call_stage.CallStage.TheVariants.{Out}
use Rattle.cluster_model.specs.declared.fence_mirror.FenceMirror.{FenceMirror}
use Rattle.cluster_model.specs.Fences.{FenceState, waits, fence_call_at, call_from, waiting_at}
use Rattle.copy_rule.specs.Copies.{CopyState, CopyCall, with_read, with_target, at_stage, may_read_on, target_call_at, waiting_at as copy_waiting, call_from as copy_call_from}
use Rattle.copy_rule.specs.declared.copy_target.CopyTarget.{CopyTarget}
use Rattle.file_rule.specs.MdsFiles.{Creations, Activity, Idle, Makes, Fences, Settles, Copies, MdsFile}
use Rattle.file_rule.specs.declared.creation.Creation.{Creation}
use Rattle.file_rule.specs.FilePhases.{CallOut, call_out, call_out_of, create_out, create_out_at, creation_waiting, fence_out, settle_out, copy_out}
use Rattle.cluster_laws.specs.Machine.{Machine, numbered_at, file_id}
use Rattle.cluster_laws.proofs.Lists.{put_same, put_other, within_number}
use Rattle.copied_bytes.specs.CopiedBytes.{users_since}
use Rattle.machine_walk.proofs.Stories.{Story}
use Rattle.machine_walk.proofs.Placed.{files_set, IfCall, its_call}
use Rattle.copied_bytes.proofs.Replaced.{IsReplaced, NoneLost, covered_set, are_replaced_by}
use Rattle.copied_bytes.proofs.SinceFree.{IsUserless, users_same}
use Rattle.copied_bytes.proofs.AlikeKinds.{ReplacedIn, alike_by}
use Rattle.copied_bytes.proofs.AlikeSteps.{AreSteadyAt, IsFileAlike, KnowsAlike}

module _ (t : Story) (uid : ℕ) (journal : List Entry) (n xid : ℕ) (s : LayoutState) where
  abbrev At : Activity → Type 0
  At a = IsFileAlike t uid journal n s a

  abbrev Goes : CallOut → Type 0
  Goes c = IsFileAlike t uid journal n c.file.layout c.file.activity

  act_on : (a b : Activity) → (ReplacedIn NoneLost a (ids_of s.live) → ReplacedIn NoneLost b (ids_of s.live)) → At a → At b
  act_on a b r h = record { users = h.users; alike = alike_by n (AreSteadyAt t uid journal n) NoneLost NoneLost journal journal (ids_of s.live) a b (λ e. e) r s.phase h.alike }

  making : (all : Creations) → At (Makes all) → (found : Option ℕ) → IfCall Goes (create_out (record { layout = s; activity = Makes all }) all xid found)
  making all h None = tt
  making all h (Some place) = at_place (slice_get all.items place)
    where
      at_place : (got : Option Creation) → IfCall Goes (create_out_at (record { layout = s; activity = Makes all }) all xid place got)
      at_place None = tt
      at_place (Some c) = act_on (Makes all) _ (λ r. tt) h

  fencing : (fence : FenceState) → At (Fences fence) → (found : Option ℕ) → IfCall Goes (fence_out (record { layout = s; activity = Fences fence }) (call_from fence xid found))
  fencing fence h None = tt
  fencing fence h (Some place) = at_place (slice_get fence.mirrors place)
    where
      at_place : (got : Option FenceMirror) → IfCall Goes (fence_out (record { layout = s; activity = Fences fence }) (fence_call_at fence xid place got))
      at_place None = tt
      at_place (Some x) = record { users = h.users; alike = alike_by n (AreSteadyAt t uid journal n) NoneLost NoneLost journal journal (ids_of s.live) (Fences fence) _ (λ e. e) (λ r. tt) s.phase h.alike }

  settling : (stage : CallStage) → At (Settles stage) → (live : List Mirror) → IfCall Goes (settle_out (record { layout = s; activity = Settles stage }) xid live)
  settling stage h [] = tt
  settling stage h (x ∷ live) = act_on (Settles stage) (Settles (Out xid 0)) (λ r. tt) h

  copying : (c : CopyState) → At (Copies c) → (found : Option ℕ) → IfCall Goes (copy_out (record { layout = s; activity = Copies c }) (copy_call_from c xid found))
  copying c h None =
      cond_both (waits c.read && may_read_on c) (Some (record { copy = with_read c (Out xid 0); server = c.source.server; uid = 0; call = Read c.source.fileid c.at PIECE_SIZE })) None (λ (o : Option CopyCall). IfCall Goes (copy_out (record { layout = s; activity = Copies c }) o))
      (λ e. act_on (Copies c) (Copies (with_read c (Out xid 0))) (λ r. r) h) (λ e. tt)
  copying c h (Some place) = at_place (slice_get c.targets place) refl
    where
      at_place : (got : Option CopyTarget) → slice_get c.targets place ≡ got → IfCall Goes (copy_out (record { layout = s; activity = Copies c }) (target_call_at c xid place got))
      at_place None is = tt
      at_place (Some x) is = act_on (Copies c) (Copies (with_target c place (at_stage x (Out xid 0)))) (are_replaced_by NoneLost NoneLost c.targets (with_target c place (at_stage x (Out xid 0))).targets by_one (ids_of s.live)) h
        where
          by_one : (id : MirrorId) → IsReplaced c.targets id ⊎ NoneLost id → IsReplaced (with_target c place (at_stage x (Out xid 0))).targets id ⊎ NoneLost id
          by_one id (inl z) = covered_set (NoneLost id) (at_stage x (Out xid 0)) x id (λ k. inl (record { replaces = k.replaces; up = refl })) c.targets place is z
          by_one id (inr l) = inr l

  pub out_alike : (a : Activity) → At a → IfCall Goes (call_out_of (record { layout = s; activity = a }) xid a)
  out_alike Idle h = tt
  out_alike (Makes all) h = making all h (creation_waiting all)
  out_alike (Fences fence) h = fencing fence h (waiting_at fence)
  out_alike (Settles stage) h = cond_both (waits stage) (settle_out (record { layout = s; activity = Settles stage }) xid s.live) None (IfCall Goes) (λ e. settling stage h s.live) (λ e. tt)
  out_alike (Copies c) h = copying c h (copy_waiting c)

pub called_alike : (t : Story) (m : Machine) (journal : List Entry) → KnowsAlike t m.next_uid m.files journal → (n xid : ℕ) (f : MdsFile) (c : CallOut) → numbered_at m.files n ≡ Some f → call_out f xid ≡ Some c → KnowsAlike t m.next_uid (set m.files (n - 1) c.file) journal
called_alike t m journal r n xid f c there is =
    record { files = files_set (λ k g. IsFileAlike t m.next_uid journal k g.layout g.activity) m.files n f c.file there (its_call (Goes t m.next_uid journal n xid f.layout) (call_out f xid) c (out_alike t m.next_uid journal n xid f.layout f.activity (r.files n f there)) is) (λ k g other found. r.files k g found) }

-- ---- files that are not there

pub record KnowsNoUsers (all : List MdsFile) (journal : List Entry) : Type 0 where
  pub none : (n : ℕ) → numbered_at all n ≡ None → users_since journal (file_id n) ≡ []

pub unused_behind : (all : List MdsFile) (journal entries : List Entry) → ((k : ℕ) → AllByRecursion (IsUserless (file_id k)) entries) → KnowsNoUsers all journal → KnowsNoUsers all (journal ++ entries)
unused_behind all journal entries users h = record { none = λ k e. users_same (file_id k) journal entries (users k) ∙ h.none k e }

pub unused_stepped : (all : List MdsFile) (n : ℕ) (f g : MdsFile) (journal entries : List Entry) → numbered_at all n ≡ Some f → ((k : ℕ) → k ≢ n → AllByRecursion (IsUserless (file_id k)) entries) → KnowsNoUsers all journal → KnowsNoUsers (set all (n - 1) g) (journal ++ entries)
unused_stepped all n f g journal entries there users h = record {
  none = λ k e.
      elim (cases_eq k n) [
        | inl same ↦ absurd (wrong (sym (put_same all n f g there) ∙ (sym (ap (numbered_at (set all (n - 1) g)) same) ∙ e)))
        | inr other ↦ users_same (file_id k) journal entries (users k other) ∙ h.none k (sym (put_other all n k f g there other) ∙ e)
      ];
}
  where
    wrong : Some g ≡ None → ⊥
    wrong e = cc

pub past_last : (all : List MdsFile) → numbered_at all (length all + 1) ≡ None
past_last all = by_found (numbered_at all (length all + 1)) refl
  where
    by_found : (x : Option MdsFile) → numbered_at all (length all + 1) ≡ x → x ≡ None
    by_found None is = refl
    by_found (Some f) is = let within = within_number all (length all + 1) f is in absurd (omega (arith, within.1))
