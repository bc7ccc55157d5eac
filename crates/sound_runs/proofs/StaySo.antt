-- What stays of a file's view behind an entry that is not its own.
use Rattle.std.proofs.Common.{◌≡◌, ◌≢◌, ℕ, ◌<◌, ◌≤◌, ◌⊎◌, Bool, true, false, eqb, cond, not, filter, List, [], ◌∷◌, ◌++◌, Option, Some, refl, sym, ap, subst, ◌∙◌, inl, inr, arith}
use Rattle.std.specs.List.{AllByRecursion}
use Rattle.std.proofs.lemmas.Bool.{cond_both, and_parts, eqb-true, ne_eqb}
use Rattle.cluster_model.specs.declared.ids.FileId.{FileId}
use Rattle.cluster_model.specs.declared.ids.Cred.{Cred}
use Rattle.cluster_model.specs.declared.ids.MirrorId.{MirrorId}
use Rattle.cluster_model.specs.declared.phase.EndCause.{EndCause}
use Rattle.cluster_model.specs.declared.piece.Piece.{Piece}
use Rattle.cluster_model.specs.declared.entry.Entry.{Entry}
use Rattle.cluster_model.specs.declared.entry.Entry.TheVariants as entry
use Rattle.cluster_model.specs.declared.layout_state.LayoutState.{LayoutState}
use Rattle.cluster_model.specs.declared.layout_state.LayoutPhase.{LayoutPhase}
use Rattle.cluster_model.specs.declared.layout_state.LayoutPhase.TheVariants.{Making, Free, Held, Fencing, Settling, Copying}
use Rattle.cluster_model.specs.declared.layout_state.FenceEnd.TheVariants.{Clean, Dirty, Copied}
use Rattle.cluster_model.specs.declared.layout_state.CopyKind.{CopyKind}
use Rattle.cluster_model.specs.declared.layout_state.CopyKind.TheVariants.{Replacing, Adding}
use Rattle.cluster_model.specs.Journal.{Copy, is_mirror}
use Rattle.cluster_laws.specs.Machine.{file_id}
use Rattle.cluster_laws.specs.FenceLaw.{is_file, first_free, changed_live, swapped_in}
use Rattle.cluster_laws.specs.Agreement.{cause_in}
use Rattle.sound_journals.specs.Views.{FileView, first_shown, view_after, view_by}
use Rattle.sound_journals.specs.Sound.{AllLive, IsFineLive, EndsPeriod}
use Rattle.cluster_laws.proofs.Lists.{all_more}
use Rattle.sound_runs.proofs.ViewFolds.{users_after, users_by}
use Rattle.sound_runs.proofs.FileSo.{IsStillFree, HasDirtyEnd, IsCopySo, IsPhaseSo, CannotReach, IsReached, IsFileSo}
use Rattle.sound_runs.proofs.TurnKept.{all_live}
use Rattle.sound_runs.proofs.TurnSays.{IsEntryOf}

pub record StaysFor (v w : FileView) : Type 0 where
  pub base : w.base ≡ v.base
  pub periods : w.periods ≡ v.periods
  pub live : w.live ≡ v.live
  pub causes : (u : ℕ) → v.periods ≡ u ∷ [] → w.causes u ≡ v.causes u
  pub owners : (m : MirrorId) → (v.copy m).owner ≤ (w.copy m).owner

pub stays_same : (v : FileView) → StaysFor v v
stays_same v = record { base = refl; periods = refl; live = refl; causes = λ u is. refl; owners = λ m. omega arith }

pub stays_then : (v w x : FileView) → StaysFor v w → StaysFor w x → StaysFor v x
stays_then v w x a b = record {
  base = b.base ∙ a.base;
  periods = b.periods ∙ a.periods;
  live = b.live ∙ a.live;
  causes = λ u is. b.causes u (a.periods ∙ is) ∙ a.causes u is;
  owners = λ m. let one = a.owners m in let two = b.owners m in omega (arith, one, two);
}

module _ (v w : FileView) (k : StaysFor v w) where
  still_stays : IsStillFree v → IsStillFree w
  still_stays h = record { none = k.periods ∙ h.none; base = h.base; freed = k.base ∙ h.freed }

  ends_stay : (uid : ℕ) (clean : Bool) → EndsPeriod v uid clean → EndsPeriod w uid clean
  ends_stay uid clean h = record { period = k.periods ∙ h.period; cause = h.cause; causes = k.causes uid h.period ∙ h.causes; is_so = h.is_so }

  pub reach_stays : (u : ℕ) → CannotReach v u → CannotReach w u
  reach_stays u h =
      subst (λ (l : Option (List MirrorId)). AllLive l (λ m. u < (w.copy m).owner)) (sym k.live)
      (all_live v.live (λ m. u < (v.copy m).owner) (λ m. u < (w.copy m).owner) (λ m less. let up = k.owners m in omega (arith, less, up)) h)

  dirty_stays : (next : ℕ) → HasDirtyEnd v next → HasDirtyEnd w next
  dirty_stays next h = record { uid = h.uid; ends = ends_stay h.uid false h.ends; less = h.less }

  copy_stays : (copies : CopyKind) (cred : ℕ) → IsCopySo v copies cred → IsCopySo w copies cred
  copy_stays Replacing cred h = record { dirty = record { uid = h.dirty.uid; ends = ends_stay h.dirty.uid false h.dirty.ends; less = h.dirty.less }; reach = reach_stays h.dirty.uid h.reach }
  copy_stays Adding cred h = still_stays h

  phase_stays : (p : LayoutPhase) (cred : ℕ) → IsPhaseSo v p cred → IsPhaseSo w p cred
  phase_stays Making cred h = k.base ∙ h
  phase_stays Free cred h = still_stays h
  phase_stays (Held holder is_recalled) cred h = (k.periods ∙ h.0, k.causes cred h.0 ∙ h.1)
  phase_stays (Fencing next Clean) cred h = (h.0, ends_stay cred true h.1)
  phase_stays (Fencing next Dirty) cred h = (h.0, ends_stay cred false h.1)
  phase_stays (Fencing next Copied) cred h = (h.0, by_end h.1)
    where
      by_end : IsStillFree v ⊎ HasDirtyEnd v next.0 → IsStillFree w ⊎ HasDirtyEnd w next.0
      by_end (inl x) = inl (still_stays x)
      by_end (inr x) = inr (dirty_stays next.0 x)
  phase_stays (Settling copies) cred h = copy_stays copies cred h
  phase_stays (Copying copier copies) cred h = copy_stays copies cred h

  pub reached_stays : (users : List ℕ) → IsReached v users → IsReached w users
  reached_stays users h = all_more (λ u. (v.periods ≡ u ∷ []) ⊎ CannotReach v u) (λ u. (w.periods ≡ u ∷ []) ⊎ CannotReach w u) users by_user h
    where
      by_user : (u : ℕ) → (v.periods ≡ u ∷ []) ⊎ CannotReach v u → (w.periods ≡ u ∷ []) ⊎ CannotReach w u
      by_user u (inl e) = inl (k.periods ∙ e)
      by_user u (inr x) = inr (reach_stays u x)

  pub stay_so : (users : List ℕ) (s : LayoutState) → IsFileSo v users s → IsFileSo w users s
  stay_so users s h = record {
    live = k.live ∙ h.live;
    fine = subst IsFineLive (sym k.live) h.fine;
    phase = phase_stays s.phase s.cred.0 h.phase;
    least = h.least;
    reach = reached_stays users h.reach;
    made = h.made;
  }

-- ---- entries that are of no file's phases

pub same_mirror : (a b : MirrorId) → is_mirror a b ≡ true → a ≡ b
same_mirror a b e =
    let parts = and_parts (eqb a.server b.server) (eqb a.fileid b.fileid) e in
    ap (λ (n : ℕ). record { server = n; fileid = a.fileid }) (eqb-true a.server b.server parts.0) ∙ ap (λ (n : ℕ). record { server = b.server; fileid = n }) (eqb-true a.fileid b.fileid parts.1)

up_from : (a b : ℕ) → a ≡ b → b ≤ a
up_from a b e = omega (arith, e)

pub applied_stays : (f : FileId) (v : FileView) (mirror : MirrorId) (cred : Cred) (at : ℕ) (bytes : List ℕ) → StaysFor v (view_after f v (entry.Applied mirror cred at bytes))
applied_stays f v mirror cred at bytes = record {
  base = refl;
  periods = refl;
  live = refl;
  causes = λ u is. refl;
  owners = λ m. cond_both (is_mirror mirror m) _ (v.copy m) (λ (c : Copy). (v.copy m).owner ≤ c.owner) (λ e. omega arith) (λ e. omega arith);
}

pub committed_stays : (f : FileId) (v : FileView) (mirror : MirrorId) → StaysFor v (view_after f v (entry.Committed mirror))
committed_stays f v mirror = record {
  base = refl;
  periods = refl;
  live = refl;
  causes = λ u is. refl;
  owners = λ m. cond_both (is_mirror mirror m) _ (v.copy m) (λ (c : Copy). (v.copy m).owner ≤ c.owner) (λ e. omega arith) (λ e. omega arith);
}

pub restarted_stays : (f : FileId) (v : FileView) (server : ℕ) (pieces : List Piece) → StaysFor v (view_after f v (entry.Restarted server pieces))
restarted_stays f v server pieces = record {
  base = refl;
  periods = refl;
  live = refl;
  causes = λ u is. refl;
  owners = λ m. cond_both (eqb server m.server) _ (v.copy m) (λ (c : Copy). (v.copy m).owner ≤ c.owner) (λ e. omega arith) (λ e. omega arith);
}

pub owner_stays : (f : FileId) (v : FileView) (mirror : MirrorId) (cred : Cred) → (v.copy mirror).owner ≤ cred.0 → StaysFor v (view_after f v (entry.Owner mirror cred))
owner_stays f v mirror cred up = record {
  base = refl;
  periods = refl;
  live = refl;
  causes = λ u is. refl;
  owners = λ m. cond_both (is_mirror mirror m) _ (v.copy m) (λ (c : Copy). (v.copy m).owner ≤ c.owner) (λ e. subst (λ (k : MirrorId). (v.copy k).owner ≤ cred.0) (same_mirror mirror m e) up) (λ e. omega arith);
}

pub sent_stays : (f file : FileId) (v : FileView) (cred : Cred) (at : ℕ) (bytes : List ℕ) → StaysFor v (view_after f v (entry.Sent file cred at bytes))
sent_stays f file v cred at bytes = record { base = refl; periods = refl; live = refl; causes = λ u is. refl; owners = λ m. omega arith }

pub rogue_stays : (f file : FileId) (v : FileView) (cred : Cred) (at : ℕ) (bytes : List ℕ) → StaysFor v (view_after f v (entry.Rogue file cred at bytes))
rogue_stays f file v cred at bytes = record { base = refl; periods = refl; live = refl; causes = λ u is. refl; owners = λ m. omega arith }

-- ---- entries of another file

module _ (n c k : ℕ) (other : k ≢ n) where
  off : (file : FileId) → file ≡ file_id n → is_file file (file_id k) ≡ false
  off file e = ap (λ (x : FileId). is_file x (file_id k)) e ∙ ne_eqb n k (λ same. other (sym same))

  unended : (all : List EndCause) (cause : EndCause) (b : Bool) → cond b (cause ∷ []) [] ≡ [] → cond b (all ++ cause ∷ []) all ≡ all
  unended all cause true e = absurd cc
  unended all cause false e = refl

  pub other_stays : (v : FileView) (e : Entry) → ((u : ℕ) → v.periods ≡ u ∷ [] → cause_in u e ≡ []) → IsEntryOf n c e → StaysFor v (view_after (file_id k) v e)
  other_stays v (entry.Free file mirrors) apart of = record {
    base = ap (λ b. cond b (Some (first_shown v.copy (cond b (first_free mirrors v.live) v.live))) v.base) (off file of);
    periods = ap (λ b. cond b [] v.periods) (off file of);
    live = ap (λ b. cond b (first_free mirrors v.live) v.live) (off file of);
    causes = λ u is. refl;
    owners = λ m. omega arith;
  }
  other_stays v (entry.Granted file cred holder) apart of = record { base = refl; periods = ap (λ b. cond b (v.periods ++ cred.0 ∷ []) v.periods) (off file of); live = refl; causes = λ u is. refl; owners = λ m. omega arith }
  other_stays v (entry.Sent file cred at bytes) apart of = sent_stays (file_id k) file v cred at bytes
  other_stays v (entry.Told file cred at bytes) apart of = record { base = refl; periods = refl; live = refl; causes = λ u is. refl; owners = λ m. omega arith }
  other_stays v (entry.Ended file cred cause) apart of = record {
    base = refl;
    periods = refl;
    live = refl;
    causes = λ u is. unended (v.causes u) cause (eqb cred.0 u) (apart u is);
    owners = λ m. omega arith;
  }
  other_stays v (entry.Left file mirror cause) apart of = record { base = refl; periods = refl; live = ap (λ b. cond b (changed_live (filter (λ m. not (is_mirror m mirror))) v.live) v.live) (off file of); causes = λ u is. refl; owners = λ m. omega arith }
  other_stays v (entry.Swapped file old new) apart of = record { base = refl; periods = refl; live = ap (λ b. cond b (changed_live (swapped_in old new) v.live) v.live) (off file of); causes = λ u is. refl; owners = λ m. omega arith }
  other_stays v (entry.Fenced file old new live) apart of = record { base = refl; periods = refl; live = refl; causes = λ u is. refl; owners = λ m. omega arith }
  other_stays v _ apart of = absurd of

  other_users : (users : List ℕ) (e : Entry) → IsEntryOf n c e → users_after (file_id k) users e ≡ users
  other_users users (entry.Granted file cred holder) of = ap (λ b. cond b (cred.0 ∷ users) users) (off file of)
  other_users users _ of = refl

  pub others_stay : (v : FileView) (entries : List Entry) → ((u : ℕ) → v.periods ≡ u ∷ [] → AllByRecursion (λ e. cause_in u e ≡ []) entries) → AllByRecursion (IsEntryOf n c) entries → StaysFor v (view_by (file_id k) v entries)
  others_stay v [] apart all = stays_same v
  others_stay v (e ∷ entries) apart all =
      let one = other_stays v e (λ u is. (apart u is).0) all.0 in
      stays_then v (view_after (file_id k) v e) (view_by (file_id k) (view_after (file_id k) v e) entries) one (others_stay (view_after (file_id k) v e) entries (λ u is. (apart u (sym one.periods ∙ is)).1) all.1)

  pub others_users : (users : List ℕ) (entries : List Entry) → AllByRecursion (IsEntryOf n c) entries → users_by (file_id k) users entries ≡ users
  others_users users [] all = refl
  others_users users (e ∷ entries) all = ap (λ (us : List ℕ). users_by (file_id k) us entries) (other_users users e all.0) ∙ others_users users entries all.1
