-- To whom a file was granted since it was last free, by its phase, and how that period ended (RFC 8435, section 2.2).
use Rattle.std.proofs.Common.{◌≡◌, ◌≢◌, ℕ, ◌⊎◌, Bool, true, false, eqb, cond, List, [], ◌∷◌, ◌++◌, refl, sym, ap, subst, ◌∙◌, inl, inr, append-nil, append_assoc}
use Rattle.std.specs.List.{AllByRecursion}
use Rattle.std.proofs.lemmas.Bool.{ne_eqb, eq-eqb}
use Rattle.std.proofs.lemmas.Grind.{flat_map-append}
use Rattle.cluster_model.specs.declared.ids.Cred.{Cred}
use Rattle.cluster_model.specs.declared.ids.FileId.{FileId}
use Rattle.cluster_model.specs.declared.ids.MirrorId.{MirrorId}
use Rattle.cluster_model.specs.declared.ids.Mirror.{Mirror}
use Rattle.cluster_model.specs.declared.phase.EndCause.{EndCause}
use Rattle.cluster_model.specs.declared.entry.Entry.{Entry}
use Rattle.cluster_model.specs.declared.entry.Entry.TheVariants as entry
use Rattle.cluster_model.specs.declared.layout_state.LayoutState.{LayoutState}
use Rattle.cluster_model.specs.declared.layout_state.LayoutPhase.{LayoutPhase}
use Rattle.cluster_model.specs.declared.layout_state.LayoutPhase.TheVariants.{Making, Free, Held, Fencing, Settling, Copying}
use Rattle.cluster_model.specs.declared.layout_state.FenceEnd.{FenceEnd}
use Rattle.cluster_model.specs.declared.layout_state.FenceEnd.TheVariants.{Clean, Dirty, Copied}
use Rattle.cluster_model.specs.declared.layout_state.CopyKind.TheVariants.{Replacing, Adding}
use Rattle.cluster_model.specs.declared.targets.SwappedIn.{SwappedIn}
use Rattle.cluster_model.specs.Phases.{ids_of, is_clean, phase_without, is_source, free_entries, swapped_entries, phase_fenced}
use Rattle.file_rule.specs.MdsFiles.{Activity, FileStep}
use Rattle.file_rule.specs.declared.fresh.Fresh.{Fresh}
use Rattle.file_rule.specs.FilePhases.{FileInput}
use Rattle.cluster_laws.specs.Machine.{file_id}
use Rattle.cluster_laws.specs.Agreement.{cause_in, causes_of}
use Rattle.cluster_laws.proofs.Lists.{all_append, all_more}
use Rattle.cluster_laws.proofs.Lives.{own_file}
use Rattle.copied_bytes.specs.CopiedBytes.{users_behind, users_by, users_since, EndedDirty}
use Rattle.machine_walk.proofs.StepKinds.{IsEndOf, IsLeaving, OneLeft, OneTold, IsTakenWith, NoWrite, OneWrite, StepKind, Rests, Learnt, Recalled, Grants, Ends, Resilvers, MakingTurns, MakingDone, FenceTurns, FenceLoses, FenceDone, SettleTurns, SettleLoses, SettleFrees, CopyBegins, CopyTurns, CopyLoses, TargetLost, CopyFrees, CopySwaps}

-- ---- joined journals

pub users_append : (f : FileId) (users : List ℕ) (a b : List Entry) → users_by f users (a ++ b) ≡ users_by f (users_by f users a) b
users_append f users [] b = refl
users_append f users (e ∷ a) b = users_append f (users_behind f users e) a b

-- entries that say nothing of a file's users
abbrev pub IsUserless : FileId → Entry → Type 0
IsUserless f e = (users : List ℕ) → users_behind f users e ≡ users

pub users_stay : (f : FileId) (entries : List Entry) → AllByRecursion (IsUserless f) entries → (users : List ℕ) → users_by f users entries ≡ users
users_stay f [] h users = refl
users_stay f (e ∷ entries) h users = ap (λ us. users_by f us entries) (h.0 users) ∙ users_stay f entries h.1 users

pub users_same : (f : FileId) (journal entries : List Entry) → AllByRecursion (IsUserless f) entries → users_since (journal ++ entries) f ≡ users_since journal f
users_same f journal entries h = users_append f [] journal entries ∙ users_stay f entries h (users_since journal f)

-- ---- a clean end among those of a user

abbrev pub HasCleanOne : List EndCause → Type 0
HasCleanOne [] = ⊥
HasCleanOne (cause ∷ causes) = (is_clean cause ≡ true) ⊎ HasCleanOne causes

clean_more : (a b : List EndCause) → HasCleanOne a → HasCleanOne (a ++ b)
clean_more [] b h = absurd h
clean_more (x ∷ a) b (inl h) = inl h
clean_more (x ∷ a) b (inr h) = inr (clean_more a b h)

clean_last : (a : List EndCause) (cause : EndCause) → is_clean cause ≡ true → HasCleanOne (a ++ cause ∷ [])
clean_last [] cause h = inl h
clean_last (x ∷ a) cause h = inr (clean_last a cause h)

causes_append : (uid : ℕ) (a b : List Entry) → causes_of uid (a ++ b) ≡ causes_of uid a ++ causes_of uid b
causes_append uid a b = flat_map-append (cause_in uid) a b

clean_on : (uid : ℕ) (a b : List Entry) → HasCleanOne (causes_of uid a) → HasCleanOne (causes_of uid (a ++ b))
clean_on uid a b h = subst HasCleanOne (sym (causes_append uid a b)) (clean_more (causes_of uid a) (causes_of uid b) h)

-- ---- by the phase

pub record EndedClean (journal : List Entry) (n uid : ℕ) : Type 0 where
  pub user : users_since journal (file_id n) ≡ uid ∷ []
  pub clean : HasCleanOne (causes_of uid journal)

abbrev pub HasUsers : List Entry → ℕ → LayoutPhase → ℕ → Type 0
HasUsers journal n Making uid = users_since journal (file_id n) ≡ []
HasUsers journal n Free uid = users_since journal (file_id n) ≡ []
HasUsers journal n (Held holder is_recalled) uid = users_since journal (file_id n) ≡ uid ∷ []
HasUsers journal n (Fencing next Clean) uid = EndedClean journal n uid
HasUsers journal n (Fencing next Dirty) uid = Unit {0}
HasUsers journal n (Fencing next Copied) uid = Unit {0}
HasUsers journal n (Settling Replacing) uid = Unit {0}
HasUsers journal n (Settling Adding) uid = users_since journal (file_id n) ≡ []
HasUsers journal n (Copying copier Replacing) uid = Unit {0}
HasUsers journal n (Copying copier Adding) uid = users_since journal (file_id n) ≡ []

-- what goes on with entries that say nothing of the file's users
pub users_on : (journal entries : List Entry) (n uid : ℕ) → AllByRecursion (IsUserless (file_id n)) entries → (p : LayoutPhase) → HasUsers journal n p uid → HasUsers (journal ++ entries) n p uid
users_on journal entries n uid none Making h = users_same (file_id n) journal entries none ∙ h
users_on journal entries n uid none Free h = users_same (file_id n) journal entries none ∙ h
users_on journal entries n uid none (Held holder is_recalled) h = users_same (file_id n) journal entries none ∙ h
users_on journal entries n uid none (Fencing next Clean) h = record { user = users_same (file_id n) journal entries none ∙ h.user; clean = clean_on uid journal entries h.clean }
users_on journal entries n uid none (Fencing next Dirty) h = tt
users_on journal entries n uid none (Fencing next Copied) h = tt
users_on journal entries n uid none (Settling Replacing) h = tt
users_on journal entries n uid none (Settling Adding) h = users_same (file_id n) journal entries none ∙ h
users_on journal entries n uid none (Copying copier Replacing) h = tt
users_on journal entries n uid none (Copying copier Adding) h = users_same (file_id n) journal entries none ∙ h

pub users_without : (journal : List Entry) (n uid : ℕ) (p : LayoutPhase) (b : Bool) → HasUsers journal n p uid → HasUsers journal n (phase_without p b) uid
users_without journal n uid Making b h = h
users_without journal n uid Free b h = h
users_without journal n uid (Held holder is_recalled) b h = h
users_without journal n uid (Fencing next end) b h = h
users_without journal n uid (Settling copies) b h = h
users_without journal n uid (Copying copier copies) false h = h
users_without journal n uid (Copying copier Replacing) true h = tt
users_without journal n uid (Copying copier Adding) true h = h

-- ---- no dirty end

pub none_dirty : (journal : List Entry) (f : FileId) (uid : ℕ) → users_since journal f ≡ [] → EndedDirty journal f uid → ⊥
none_dirty journal f uid none h = let wrong : [] ≡ uid ∷ [] = sym none ∙ h.user in cc

pub clean_dirty : (journal : List Entry) (n own uid : ℕ) → EndedClean journal n own → EndedDirty journal (file_id n) uid → ⊥
clean_dirty journal n own uid h d =
    let same : own ≡ uid = first_is own uid (sym h.user ∙ d.user) in
    by_list (subst HasCleanOne d.causes (subst (λ (u : ℕ). HasCleanOne (causes_of u journal)) same h.clean))
  where
    first_is : (a b : ℕ) → a ∷ [] ≡ b ∷ [] → a ≡ b
    first_is a b e = cc

    both : (b : Bool) → b ≡ true → b ≡ false → ⊥
    both true e f = cc
    both false e f = cc

    by_list : HasCleanOne (d.cause ∷ []) → ⊥
    by_list (inl e) = both (is_clean d.cause) e d.dirty
    by_list (inr e) = absurd e

-- ---- entries

left_userless : (f : FileId) (n : ℕ) (e : Entry) → IsLeaving n e → IsUserless f e
left_userless f n e (OneLeft id cause) = λ users. refl
left_userless f n e (OneTold cred at bytes) = λ users. refl

pub swaps_userless : (f : FileId) (n : ℕ) (targets : List SwappedIn) → AllByRecursion (IsUserless f) (swapped_entries (file_id n) targets)
swaps_userless f n [] = tt
swaps_userless f n (o ∷ targets) = (λ users. refl, swaps_userless f n targets)

free_now : (journal : List Entry) (n : ℕ) (ids : List MirrorId) → users_since (journal ++ entry.Free (file_id n) ids ∷ []) (file_id n) ≡ []
free_now journal n ids = users_append (file_id n) [] journal (entry.Free (file_id n) ids ∷ []) ∙ ap (λ (b : Bool). cond b [] (users_since journal (file_id n))) (own_file (file_id n))

fenced_free : (journal : List Entry) (n : ℕ) (old next : Cred) (ids : List MirrorId) → users_since (journal ++ entry.Fenced (file_id n) old next ids ∷ entry.Free (file_id n) ids ∷ []) (file_id n) ≡ []
fenced_free journal n old next ids = users_append (file_id n) [] journal (entry.Fenced (file_id n) old next ids ∷ entry.Free (file_id n) ids ∷ []) ∙ ap (λ (b : Bool). cond b [] (users_since journal (file_id n))) (own_file (file_id n))

taken_userless : (f : FileId) (n : ℕ) (cred : Cred) (writes : List Entry) → IsTakenWith n cred writes → AllByRecursion (IsUserless f) writes
taken_userless f n cred _ NoWrite = tt
taken_userless f n cred _ (OneWrite at bytes) = (λ users. refl, tt)

granted_now : (journal : List Entry) (n : ℕ) (cred : Cred) (holder : _) (writes : List Entry) → IsTakenWith n cred writes → users_since journal (file_id n) ≡ [] → users_since (journal ++ entry.Granted (file_id n) cred holder ∷ writes) (file_id n) ≡ cred.0 ∷ []
granted_now journal n cred holder writes taken none =
    users_append (file_id n) [] journal (entry.Granted (file_id n) cred holder ∷ writes)
    ∙ ap (λ (b : Bool). users_by (file_id n) (cond b (users_since journal (file_id n) ++ cred.0 ∷ []) (users_since journal (file_id n))) writes) (own_file (file_id n))
    ∙ users_stay (file_id n) writes (taken_userless (file_id n) n cred writes taken) (users_since journal (file_id n) ++ cred.0 ∷ [])
    ∙ ap (λ us. us ++ cred.0 ∷ []) none

own_cause : (uid : ℕ) (cause : EndCause) → cond (eqb uid uid) (cause ∷ []) [] ≡ cause ∷ []
own_cause uid cause = ap (λ (b : Bool). cond b (cause ∷ []) []) (eq-eqb uid uid refl)

-- a clean end is noted last
ended_now : (journal left : List Entry) (n : ℕ) (cred : Cred) (cause : EndCause) → is_clean cause ≡ true → HasCleanOne (causes_of cred.0 (journal ++ (left ++ entry.Ended (file_id n) cred cause ∷ [])))
ended_now journal left n cred cause clean =
    let one : causes_of cred.0 (entry.Ended (file_id n) cred cause ∷ []) ≡ cause ∷ [] = ap (λ (x : List EndCause). x ++ []) (own_cause cred.0 cause) in
    subst HasCleanOne (sym (causes_append cred.0 journal (left ++ entry.Ended (file_id n) cred cause ∷ [])))
    (clean_after (causes_of cred.0 journal) _ (subst HasCleanOne (sym (causes_append cred.0 left (entry.Ended (file_id n) cred cause ∷ []))) (subst (λ (x : List EndCause). HasCleanOne (causes_of cred.0 left ++ x)) (sym one) (clean_last (causes_of cred.0 left) cause clean))))
  where
    clean_after : (a b : List EndCause) → HasCleanOne b → HasCleanOne (a ++ b)
    clean_after [] b h = h
    clean_after (x ∷ a) b h = inr (clean_after a b h)

module _ (n : ℕ) (fresh : Fresh) (input : FileInput) where
  ends_users : (front left : List Entry) (s : LayoutState) (cause : EndCause) (next : Cred) (end : FenceEnd) → users_since front (file_id n) ≡ s.cred.0 ∷ [] → AllByRecursion (IsLeaving n) left → IsEndOf end cause
      → HasUsers (front ++ (left ++ entry.Ended (file_id n) s.cred cause ∷ [])) n (Fencing next end) s.cred.0
  ends_users front left s cause next Clean h leaving of =
      record {
        user = users_same (file_id n) front (left ++ entry.Ended (file_id n) s.cred cause ∷ []) (all_append (IsUserless (file_id n)) left (entry.Ended (file_id n) s.cred cause ∷ []) (all_more (IsLeaving n) (IsUserless (file_id n)) left (left_userless (file_id n) n) leaving) (λ users. refl, tt)) ∙ h;
        clean = ended_now front left n s.cred cause of;
      }
  ends_users front left s cause next Dirty h leaving of = tt
  ends_users front left s cause next Copied h leaving of = tt

  pub lost_users : (front : List Entry) (s : LayoutState) (id : MirrorId) (cause : _) → HasUsers front n s.phase s.cred.0 → HasUsers (front ++ entry.Left (file_id n) id cause ∷ []) n (phase_without s.phase (is_source id s.live)) s.cred.0
  lost_users front s id cause h = users_without (front ++ entry.Left (file_id n) id cause ∷ []) n s.cred.0 s.phase (is_source id s.live) (users_on front (entry.Left (file_id n) id cause ∷ []) n s.cred.0 (λ users. refl, tt) s.phase h)

  abbrev At : List Entry → LayoutState → Type 0
  At front s = HasUsers front n s.phase s.cred.0

  none_more : (front : List Entry) (s : LayoutState) → At front s → At (front ++ []) s
  none_more front s h = subst (λ (j : List Entry). At j s) (sym (append-nil front)) h

  moved_on : (front : List Entry) (e : Entry) (entries : List Entry) (s : LayoutState) → At ((front ++ e ∷ []) ++ entries) s → At (front ++ e ∷ entries) s
  moved_on front e entries s h = subst (λ (j : List Entry). At j s) (append_assoc front (e ∷ []) entries) h

  phase_users : (front : List Entry) (s : LayoutState) (p : LayoutPhase) → s.phase ≡ p → At front s → HasUsers front n p s.cred.0
  phase_users front s p is h = subst (λ (x : LayoutPhase). HasUsers front n x s.cred.0) is h

  fence_users : (front : List Entry) (s : LayoutState) (next : Cred) (end : FenceEnd) → At (front ++ entry.Fenced (file_id n) s.cred next (ids_of s.live) ∷ free_entries (file_id n) end s.live) (record { wanted = s.wanted; cred = next; live = s.live; phase = phase_fenced end })
  fence_users front s next Clean = fenced_free front n s.cred next (ids_of s.live)
  fence_users front s next Dirty = tt
  fence_users front s next Copied = fenced_free front n s.cred next (ids_of s.live)

  begun_users : (front : List Entry) (copies : _) (copier : Cred) (uid : ℕ) → HasUsers front n (Settling copies) uid → HasUsers (front ++ []) n (Copying copier copies) uid
  begun_users front Replacing copier uid h = tt
  begun_users front Adding copier uid h = ap (λ (j : List Entry). users_since j (file_id n)) (append-nil front) ∙ h

  pub users_kind : {s : LayoutState} {a : Activity} {x : FileStep} → StepKind n fresh input s a x → (front : List Entry) → At front s → At (front ++ x.entries) x.file.layout
  users_kind (Rests s a) front h = none_more front s h
  users_kind (Learnt s y a x e k) front h = users_kind k front (subst (λ (p : LayoutPhase). HasUsers front n p y.cred.0) (sym e.phase) (subst (λ (c : Cred). HasUsers front n s.phase c.0) (sym e.cred) h))
  users_kind (Recalled s holder is_recalled is) front h = ap (λ (j : List Entry). users_since j (file_id n)) (append-nil front) ∙ phase_users front s (Held holder is_recalled) is h
  users_kind (Grants s holder writes is taken) front h = granted_now front n s.cred holder writes taken (phase_users front s Free is h)
  users_kind (Ends s holder is_recalled left cause live end is leaving of kept) front h = ends_users front left s cause (record { 0 = fresh.uid }) end (phase_users front s (Held holder is_recalled) is h) leaving of
  users_kind (Resilvers s is) front h = ap (λ (j : List Entry). users_since j (file_id n)) (append-nil front) ∙ phase_users front s Free is h
  users_kind (MakingTurns s all next x same k) front h = users_kind k front h
  users_kind (MakingDone s all is) front h = free_now front n _
  users_kind (FenceTurns s fence next x same k) front h = users_kind k front h
  users_kind (FenceLoses s fence id cause x some k) front h = moved_on front (entry.Left (file_id n) id cause) x.entries x.file.layout (users_kind k (front ++ entry.Left (file_id n) id cause ∷ []) (lost_users front s id cause h))
  users_kind (FenceDone s fence next end is same done) front h = fence_users front s next end
  users_kind (SettleTurns s stage next x outs k) front h = users_kind k front h
  users_kind (SettleLoses s stage m live cause is some) front h = lost_users front s m.id cause h
  users_kind (SettleFrees s stage copies is none by) front h = free_now front n (ids_of s.live)
  users_kind (CopyBegins s stage copies is some by) front h = begun_users front copies (record { 0 = fresh.uid }) s.cred.0 (phase_users front s (Settling copies) is h)
  users_kind (CopyTurns s c x k shown) front h = users_kind k front h
  users_kind (CopyLoses s c m live cause is some) front h = lost_users front s m.id cause h
  users_kind (TargetLost s c id cause x other k) front h = moved_on front (entry.Left (file_id n) id cause) x.entries x.file.layout (users_kind k (front ++ entry.Left (file_id n) id cause ∷ []) (lost_users front s id cause h))
  users_kind (CopyFrees s c by copies is over none) front h = free_now front n (ids_of s.live)
  users_kind (CopySwaps s c by copies is o targets over some) front h = tt

  -- ---- what it says of another file

  module _ (k : ℕ) (other : k ≢ n) where
    others : (a b : List ℕ) → cond (eqb n k) a b ≡ b
    others a b = ap (λ (t : Bool). cond t a b) (ne_eqb n k (λ e. other (sym e)))

    free_others : (end : FenceEnd) (live : List Mirror) → AllByRecursion (IsUserless (file_id k)) (free_entries (file_id n) end live)
    free_others Clean live = (λ users. others [] users, tt)
    free_others Dirty live = tt
    free_others Copied live = (λ users. others [] users, tt)

    pub others_kind : {s : LayoutState} {a : Activity} {x : FileStep} → StepKind n fresh input s a x → AllByRecursion (IsUserless (file_id k)) x.entries
    others_kind (Rests s a) = tt
    others_kind (Learnt s y a x e q) = others_kind q
    others_kind (Recalled s holder is_recalled is) = tt
    others_kind (Grants s holder writes is taken) = (λ users. others (users ++ s.cred.0 ∷ []) users, taken_userless (file_id k) n s.cred writes taken)
    others_kind (Ends s holder is_recalled left cause live end is leaving of kept) = all_append (IsUserless (file_id k)) left (entry.Ended (file_id n) s.cred cause ∷ []) (all_more (IsLeaving n) (IsUserless (file_id k)) left (left_userless (file_id k) n) leaving) (λ users. refl, tt)
    others_kind (Resilvers s is) = tt
    others_kind (MakingTurns s all next x same q) = others_kind q
    others_kind (MakingDone s all is) = (λ users. others [] users, tt)
    others_kind (FenceTurns s fence next x same q) = others_kind q
    others_kind (FenceLoses s fence id cause x some q) = (λ users. refl, others_kind q)
    others_kind (FenceDone s fence next end is same done) = (λ users. refl, free_others end s.live)
    others_kind (SettleTurns s stage next x outs q) = others_kind q
    others_kind (SettleLoses s stage m live cause is some) = (λ users. refl, tt)
    others_kind (SettleFrees s stage copies is none by) = (λ users. others [] users, tt)
    others_kind (CopyBegins s stage copies is some by) = tt
    others_kind (CopyTurns s c x q shown) = others_kind q
    others_kind (CopyLoses s c m live cause is some) = (λ users. refl, tt)
    others_kind (TargetLost s c id cause x not_source q) = (λ users. refl, others_kind q)
    others_kind (CopyFrees s c by copies is over none) = (λ users. others [] users, tt)
    others_kind (CopySwaps s c by copies is o targets over some) = swaps_userless (file_id k) n (o ∷ targets)
