-- What a step of a file and a call that goes out do to the users that may write.
use Rattle.std.proofs.Common.{◌≡◌, ℕ, ◌+◌, ◌<◌, ◌⊎◌, Bool, true, false, cond, ◌&&◌, List, [], ◌∷◌, ◌++◌, Option, Some, None, refl, sym, ap, subst, arith, inl, inr}
use Rattle.std.specs.Prelude.{slice_get, ◌||◌}
use Rattle.std.specs.List.{AllByRecursion}
use Rattle.std.proofs.lemmas.Bool.{cond_both, eq-eqb}
use Rattle.cluster_model.specs.declared.ids.NodeId.{NodeId}
use Rattle.cluster_model.specs.declared.ids.Cred.{Cred}
use Rattle.cluster_model.specs.declared.ids.MirrorId.{MirrorId}
use Rattle.cluster_model.specs.declared.ids.Mirror.{Mirror}
use Rattle.cluster_model.specs.declared.entry.Entry.{Entry}
use Rattle.cluster_model.specs.declared.entry.Entry.TheVariants as entry
use Rattle.cluster_model.specs.declared.call_stage.CallStage.{CallStage}
use Rattle.cluster_model.specs.declared.call_stage.CallStage.TheVariants.{Out}
use Rattle.cluster_model.specs.declared.fence_mirror.FenceMirror.{FenceMirror}
use Rattle.cluster_model.specs.declared.layout_state.LayoutState.{LayoutState}
use Rattle.cluster_model.specs.declared.limits.TheConstants.{PIECE_SIZE}
use Rattle.cluster_model.specs.DsCalls.{Read}
use Rattle.cluster_model.specs.Fences.{FenceState, waits, fence_call_at, call_from, waiting_at}
use Rattle.copy_rule.specs.Copies.{CopyState, CopyCall, with_read, may_read_on, target_call, target_caller, target_call_at, waiting_at as copy_waiting, call_from as copy_call_from}
use Rattle.copy_rule.specs.declared.copy_target.CopyTarget.{CopyTarget}
use Rattle.file_rule.specs.MdsFiles.{Creations, Activity, Idle, Makes, Fences, Settles, Copies, FileStep}
use Rattle.file_rule.specs.declared.creation.Creation.{Creation}
use Rattle.file_rule.specs.FilePhases.{CallOut, call_out_of, create_out, create_out_at, creation_waiting, fence_out, settle_out, copy_out}
use Rattle.cluster_laws.specs.Machine.{Machine, held_by_entry, held_by, file_id}
use Rattle.cluster_laws.specs.Periods.{was_granted}
use Rattle.cluster_laws.proofs.Lists.{all_append, all_more}
use Rattle.cluster_laws.proofs.Invariant.{If}
use Rattle.cluster_laws.proofs.PeriodFacts.{granted_in}
use Rattle.machine_walk.proofs.Stories.{Story, begun_copy, IsOnward, onward_same, onward_drawn}
use Rattle.machine_walk.proofs.MoveCases.{Drew, DrewNone, DrewOne}
use Rattle.machine_walk.proofs.StepKinds.{IsTakenWith, NoWrite, OneWrite}
use Rattle.machine_walk.proofs.Placed.{IfCall}
use Rattle.machine_walk.proofs.Writers.{IsPlainUid, HasUids, IsNewUid, is_applied, IsSilent, IsGrantOf}
use Rattle.machine_walk.proofs.Noted.{granted_behind, IsByUser, silent_users}
use Rattle.machine_walk.proofs.WriterFacts.{IsWriteCall, IsNoWrite}

-- ---- what is drawn

pub drew_on : (t : Story) (m : Machine) (journal : List Entry) (n : ℕ) (x : FileStep) (then : Story) → Drew t m journal n x then → IsOnward t m.next_uid m.next_name then
drew_on t m journal n x then (DrewNone uids names) = onward_same t m.next_uid m.next_name
drew_on t m journal n x then (DrewOne uids) = onward_drawn t m.next_uid m.next_name n (begun_copy journal n x.file.activity)

pub drew_new : (t : Story) (m : Machine) (journal : List Entry) (n : ℕ) (x : FileStep) (then : Story) → Drew t m journal n x then → x.uids ≡ 1 → IsNewUid journal n m.next_uid then (m.next_uid + x.uids) x.file.activity
drew_new t m journal n x then (DrewNone uids names) one = absurd (omega (arith, uids, one))
drew_new t m journal n x then (DrewOne uids) one = record {
  mine = record { mine = ap (λ (b : Bool). cond b n (t.whose m.next_uid)) (eq-eqb m.next_uid m.next_uid refl); drawn = omega (arith, one) };
  copied = ap (λ (b : Bool). cond b (begun_copy journal n x.file.activity) (t.copied m.next_uid)) (eq-eqb m.next_uid m.next_uid refl);
}

-- ---- entries of a step

pub no_write : (e : Entry) → is_applied e ≡ false → IsNoWrite e
no_write (entry.Applied m cred at bytes) h = absurd cc
no_write _ h = record { so = λ t uid before. tt }

pub record AreKnown (t : Story) (uid n : ℕ) (journal entries : List Entry) : Type 0 where
  pub grants : AllByRecursion (λ e. If (granted_in e) (λ u. IsPlainUid t uid n u × (0 < u) × (was_granted (journal ++ entries) u ≡ true))) entries
  pub writers : AllByRecursion (IsByUser (journal ++ entries)) entries
  pub quiet : AllByRecursion IsNoWrite entries

silent_known : (t : Story) (uid n : ℕ) (journal entries : List Entry) → AllByRecursion IsSilent entries → AreKnown t uid n journal entries
silent_known t uid n journal entries h = record {
  grants = all_more IsSilent (λ e. If (granted_in e) (λ u. IsPlainUid t uid n u × (0 < u) × (was_granted (journal ++ entries) u ≡ true))) entries
      (λ e k. subst (λ (x : Option ℕ). If x (λ u. IsPlainUid t uid n u × (0 < u) × (was_granted (journal ++ entries) u ≡ true))) (sym k.grant) tt) h;
  writers = silent_users (journal ++ entries) entries h;
  quiet = all_more IsSilent IsNoWrite entries (λ e k. no_write e k.applied) h;
}

granted_first : (journal : List Entry) (n : ℕ) (cred : Cred) (holder : NodeId) (writes : List Entry) → was_granted (journal ++ entry.Granted (file_id n) cred holder ∷ writes) cred.0 ≡ true
granted_first journal n cred holder writes = granted_behind cred.0 journal (entry.Granted (file_id n) cred holder ∷ writes) (ap (λ (b : Bool). b || was_granted writes cred.0) (eq-eqb cred.0 cred.0 refl))

granted_known : (t : Story) (uid n : ℕ) (journal : List Entry) (cred : Cred) (holder : NodeId) (writes : List Entry) → IsPlainUid t uid n cred.0 → 0 < cred.0 → IsTakenWith n cred writes → AreKnown t uid n journal (entry.Granted (file_id n) cred holder ∷ writes)
granted_known t uid n journal cred holder _ plain some NoWrite = record {
  grants = ((plain, some, granted_first journal n cred holder []), tt);
  writers = (tt, tt);
  quiet = (record { so = λ y more before. tt }, tt);
}
granted_known t uid n journal cred holder _ plain some (OneWrite at bytes) =
    let g = granted_first journal n cred holder (entry.Sent (file_id n) cred at bytes ∷ []) in
    record {
      grants = ((plain, some, g), (tt, tt));
      writers = (tt, (g, tt));
      quiet = (record { so = λ y more before. tt }, (record { so = λ y more before. tt }, tt));
    }

pub step_known : (t : Story) (uid n : ℕ) (journal : List Entry) (s : LayoutState) (entries : List Entry) → 0 < s.cred.0 → IsGrantOf t uid n s entries ⊎ AllByRecursion IsSilent entries → AreKnown t uid n journal entries
step_known t uid n journal s entries some (inl g) =
    subst (AreKnown t uid n journal) (sym g.is) (granted_known t uid n journal g.cred g.holder g.writes g.plain (subst (λ (c : Cred). 0 < c.0) (sym g.own) some) g.taken)
step_known t uid n journal s entries some (inr silent) = silent_known t uid n journal entries silent

-- what is held then
pub held_known : (P : ℕ → Type 0) (mirrors : List MirrorId) (entries : List Entry) → AllByRecursion (λ e. If (granted_in e) P) entries → AllByRecursion (λ h. P h.uid) (held_by mirrors entries)
held_known P mirrors [] h = tt
held_known P mirrors (e ∷ entries) h = all_append (λ x. P x.uid) (held_by_entry mirrors e) (held_by mirrors entries) (by_entry e h.0) (held_known P mirrors entries h.1)
  where
    by_entry : (x : Entry) → If (granted_in x) P → AllByRecursion (λ k. P k.uid) (held_by_entry mirrors x)
    by_entry (entry.Granted file cred holder) k = (k, tt)
    by_entry _ k = tt

-- ---- a call that goes out

module _ (t : Story) (uid : ℕ) (journal : List Entry) (n xid : ℕ) (s : LayoutState) where
  abbrev GoesOut : CallOut → Type 0
  GoesOut c = IsWriteCall t uid journal c.uid c.call × HasUids t uid n c.file.layout c.file.activity

  making_out : (all : Creations) → HasUids t uid n s (Makes all) → (found : Option ℕ) → IfCall GoesOut (create_out (record { layout = s; activity = Makes all }) all xid found)
  making_out all h None = tt
  making_out all h (Some place) = at_place (slice_get all.items place)
    where
      at_place : (got : Option Creation) → IfCall GoesOut (create_out_at (record { layout = s; activity = Makes all }) all xid place got)
      at_place None = tt
      at_place (Some c) = (tt, h)

  fencing_out : (fence : FenceState) → HasUids t uid n s (Fences fence) → (found : Option ℕ) → IfCall GoesOut (fence_out (record { layout = s; activity = Fences fence }) (call_from fence xid found))
  fencing_out fence h None = tt
  fencing_out fence h (Some place) = at_place (slice_get fence.mirrors place)
    where
      at_place : (got : Option FenceMirror) → IfCall GoesOut (fence_out (record { layout = s; activity = Fences fence }) (fence_call_at fence xid place got))
      at_place None = tt
      at_place (Some m) = (tt, h)

  settling_out : (stage : CallStage) → HasUids t uid n s (Settles stage) → (live : List Mirror) → IfCall GoesOut (settle_out (record { layout = s; activity = Settles stage }) xid live)
  settling_out stage h [] = tt
  settling_out stage h (m ∷ live) = (tt, h)

  copying_out : (c : CopyState) → HasUids t uid n s (Copies c) → (found : Option ℕ) → IfCall GoesOut (copy_out (record { layout = s; activity = Copies c }) (copy_call_from c xid found))
  copying_out c h None =
      cond_both (waits c.read && may_read_on c) (Some (record { copy = with_read c (Out xid 0); server = c.source.server; uid = 0; call = Read c.source.fileid c.at PIECE_SIZE })) None
      (λ (o : Option CopyCall). IfCall GoesOut (copy_out (record { layout = s; activity = Copies c }) o)) (λ e. (tt, h)) (λ e. tt)
  copying_out c h (Some place) = at_place (slice_get c.targets place)
    where
      by_made : (name : ℕ) (made : Option Mirror) → IsWriteCall t uid journal (target_caller c.copier made) (target_call c.copier c.at c.piece name made)
      by_made name None = tt
      by_made name (Some m) = inr (record { by = record { drawn = h.copier.mine.drawn; bytes = h.copier.bytes; copy = h.copier.copy }; at_once = refl })

      at_place : (got : Option CopyTarget) → IfCall GoesOut (copy_out (record { layout = s; activity = Copies c }) (target_call_at c xid place got))
      at_place None = tt
      at_place (Some x) = (by_made x.name x.made, h)

  pub out_known : (a : Activity) → HasUids t uid n s a → IfCall GoesOut (call_out_of (record { layout = s; activity = a }) xid a)
  out_known Idle h = tt
  out_known (Makes all) h = making_out all h (creation_waiting all)
  out_known (Fences fence) h = fencing_out fence h (waiting_at fence)
  out_known (Settles stage) h = cond_both (waits stage) (settle_out (record { layout = s; activity = Settles stage }) xid s.live) None (IfCall GoesOut) (λ e. settling_out stage h s.live) (λ e. tt)
  out_known (Copies c) h = copying_out c h (copy_waiting c)
