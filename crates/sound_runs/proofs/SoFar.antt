-- What holds of all files and users behind a bound run, and of each entry behind those before it.
use Rattle.std.proofs.Common.{◌≡◌, ◌≢◌, ℕ, ◌+◌, ◌-◌, true, false, List, [], ◌∷◌, ◌++◌, set, Some, None, refl, sym, ap, subst, ◌∙◌, inl, inr, arith}
use Rattle.std.specs.List.{AllByRecursion}
use Rattle.std.proofs.lemmas.Bool.{cases_eq}
use Rattle.cluster_model.specs.declared.ids.FileId.{FileId}
use Rattle.cluster_model.specs.declared.ids.NodeId.{NodeId}
use Rattle.cluster_model.specs.declared.entry.Entry.{Entry}
use Rattle.cluster_model.specs.declared.entry.Entry.TheVariants as entry
use Rattle.cluster_model.specs.declared.layout_state.LayoutState.{LayoutState}
use Rattle.cluster_model.specs.declared.layout_state.LayoutPhase.{LayoutPhase}
use Rattle.cluster_model.specs.declared.layout_state.LayoutPhase.TheVariants.{Making, Free, Held, Fencing, Settling, Copying}
use Rattle.cluster_model.specs.Phases.{ids_of}
use Rattle.cluster_laws.specs.Machine.{Machine, Holding, numbered_at, file_id, held_by}
use Rattle.cluster_laws.specs.Periods.{grants, was_granted}
use Rattle.cluster_laws.specs.Agreement.{cause_in}
use Rattle.file_rule.specs.MdsFiles.{MdsFile}
use Rattle.sound_journals.specs.Views.{FileView, view_by, no_view, view_of}
use Rattle.sound_journals.specs.Sound.{AreToldEntries}
use Rattle.cluster_laws.proofs.Lists.{all_append, all_more, put_same, put_other, same_numbered}
use Rattle.cluster_laws.proofs.Invariant.{live_of}
use Rattle.machine_walk.proofs.Stories.{Story, AreEach}
use Rattle.sound_runs.proofs.ViewFolds.{view_append, view_push, users_by, users_of, users_append}
use Rattle.sound_runs.proofs.FileTurns.{IsGrantWith, NoWrite, OneWrite}
use Rattle.sound_runs.proofs.FileSo.{IsPhaseSo, IsReached, IsFileSo, IsEntrySo, AreEntriesSo, file_in}
use Rattle.sound_runs.proofs.TurnKept.{TurnKept}
use Rattle.sound_runs.proofs.TurnSays.{IsEntryOf, IsPlain, is_held, TurnSays, SaysGrant, SaysEnd, SaysNone, told_more}
use Rattle.sound_runs.proofs.StaySo.{StaysFor, stay_so, others_stay, others_users}
use Rattle.sound_runs.proofs.OnceGranted.{IsUser, IsOnce, granted_none, not_both, period_user}
use Rattle.sound_runs.proofs.UserNotes.{IsUnnoted, IsHeldSo, AreSome, IsApartFrom, plain_apart, held_none, unnoted_on, held_on, plain_grants, some_plain, unnoted_grant, some_grant, held_grant, held_new}

-- ---- entries

-- a write finds each user that a file was granted to in its period, or out of reach
abbrev pub FindsReach : List Entry → Entry → Type 0
FindsReach before (entry.Applied mirror cred at bytes) = (f : FileId) → IsReached (view_of before f) (users_of before f)
FindsReach before _ = Unit {0}

pub record IsNotedSo (before : List Entry) (e : Entry) : Type 0 where
  pub so : IsEntrySo (view_of before (file_in e)) e
  pub finds : FindsReach before e

noted_of : (n c : ℕ) (before : List Entry) (e : Entry) → IsEntryOf n c e → IsEntrySo (view_of before (file_id n)) e → IsNotedSo before e
noted_of n c before (entry.Free file mirrors) of k = record { so = subst (λ f. IsEntrySo (view_of before f) (entry.Free file mirrors)) (sym of) k; finds = tt }
noted_of n c before (entry.Granted file cred holder) of k = record { so = subst (λ f. IsEntrySo (view_of before f) (entry.Granted file cred holder)) (sym of) k; finds = tt }
noted_of n c before (entry.Sent file cred at bytes) of k = record { so = subst (λ f. IsEntrySo (view_of before f) (entry.Sent file cred at bytes)) (sym of) k; finds = tt }
noted_of n c before (entry.Told file cred at bytes) of k = record { so = tt; finds = tt }
noted_of n c before (entry.Ended file cred cause) of k = record { so = subst (λ f. IsEntrySo (view_of before f) (entry.Ended file cred cause)) (sym of.0) k; finds = tt }
noted_of n c before (entry.Left file mirror cause) of k = record { so = subst (λ f. IsEntrySo (view_of before f) (entry.Left file mirror cause)) (sym of) k; finds = tt }
noted_of n c before (entry.Swapped file old new) of k = record { so = subst (λ f. IsEntrySo (view_of before f) (entry.Swapped file old new)) (sym of) k; finds = tt }
noted_of n c before (entry.Fenced file old new live) of k = record { so = tt; finds = tt }
noted_of n c before _ of k = absurd of

pub each_noted : (n c : ℕ) (before entries : List Entry) → AllByRecursion (IsEntryOf n c) entries → AreEntriesSo (file_id n) (view_of before (file_id n)) entries → AreEach IsNotedSo before entries
each_noted n c before [] of k = tt
each_noted n c before (e ∷ entries) of k =
    (noted_of n c before e of.0 k.0, each_noted n c (before ++ e ∷ []) entries of.1 (subst (λ (v : FileView). AreEntriesSo (file_id n) v entries) (sym (view_push (file_id n) before e)) k.1))

-- ---- moments

-- a file that is not there yet
pub record IsUnseen (journal : List Entry) (n : ℕ) : Type 0 where
  pub base : (view_of journal (file_id n)).base ≡ None
  pub live : (view_of journal (file_id n)).live ≡ None
  pub users : users_of journal (file_id n) ≡ []

pub record IsSoFar (t : Story) (m : Machine) (journal : List Entry) : Type 0 where
  pub files : (n : ℕ) (f : MdsFile) → numbered_at m.files n ≡ Some f → IsFileSo (view_of journal (file_id n)) (users_of journal (file_id n)) f.layout
  pub past : (n : ℕ) → numbered_at m.files n ≡ None → IsUnseen journal n
  pub users : (uid : ℕ) → was_granted journal uid ≡ false → IsUnnoted journal uid
  pub some : AreSome journal
  pub held : AllByRecursion (IsHeldSo journal) m.holdings
  pub told : (f : FileId) → AreToldEntries f no_view journal

-- ---- views behind joined journals

module _ (journal es : List Entry) (f : FileId) where
  view_joined : view_of (journal ++ es) f ≡ view_by f (view_of journal f) es
  view_joined = view_append f no_view journal es

  users_joined : users_of (journal ++ es) f ≡ users_by f (users_of journal f) es
  users_joined = users_append f [] journal es

  pub so_joined : (x : LayoutState) → IsFileSo (view_by f (view_of journal f) es) (users_by f (users_of journal f) es) x → IsFileSo (view_of (journal ++ es) f) (users_of (journal ++ es) f) x
  so_joined x h = subst (λ (v : FileView). IsFileSo v (users_of (journal ++ es) f) x) (sym view_joined) (subst (λ (us : List ℕ). IsFileSo (view_by f (view_of journal f) es) us x) (sym users_joined) h)

  pub stays_joined : StaysFor (view_of journal f) (view_by f (view_of journal f) es) → users_by f (users_of journal f) es ≡ users_of journal f → (x : LayoutState) → IsFileSo (view_of journal f) (users_of journal f) x → IsFileSo (view_of (journal ++ es) f) (users_of (journal ++ es) f) x
  stays_joined k same x h = so_joined x (subst (λ (us : List ℕ). IsFileSo (view_by f (view_of journal f) es) us x) (sym same) (stay_so (view_of journal f) (view_by f (view_of journal f) es) k (users_of journal f) x h))

  pub told_joined : AreToldEntries f no_view journal → AreToldEntries f (view_of journal f) es → AreToldEntries f no_view (journal ++ es)
  told_joined a b = told_more f no_view journal es a b

pub unseen_joined : (journal es : List Entry) (n : ℕ) → StaysFor (view_of journal (file_id n)) (view_by (file_id n) (view_of journal (file_id n)) es) → users_by (file_id n) (users_of journal (file_id n)) es ≡ users_of journal (file_id n) → IsUnseen journal n → IsUnseen (journal ++ es) n
unseen_joined journal es n k same h = record {
  base = ap (λ (v : FileView). v.base) (view_joined journal es (file_id n)) ∙ (k.base ∙ h.base);
  live = ap (λ (v : FileView). v.live) (view_joined journal es (file_id n)) ∙ (k.live ∙ h.live);
  users = users_joined journal es (file_id n) ∙ (same ∙ h.users);
}

-- ---- entries that change no file

module _ (t then : Story) (m : Machine) (journal : List Entry) (p : IsSoFar t m journal) (next : Machine) (files_are : next.files ≡ m.files) (holdings_are : next.holdings ≡ m.holdings) (es : List Entry)
    (stays : (f : FileId) → StaysFor (view_of journal f) (view_by f (view_of journal f) es)) (same : (f : FileId) → users_by f (users_of journal f) es ≡ users_of journal f)
    (users : (uid : ℕ) → was_granted journal uid ≡ false → IsUnnoted (journal ++ es) uid) (none : (u : ℕ) → AllByRecursion (λ e. grants u e ≡ false) es) (some : AreSome (journal ++ es)) (told : (f : FileId) → AreToldEntries f (view_of journal f) es) where
  pub quiet_on : IsSoFar then next (journal ++ es)
  quiet_on = record {
    files = λ n f is. stays_joined journal es (file_id n) (stays (file_id n)) (same (file_id n)) f.layout (p.files n f (ap (λ fs. numbered_at fs n) (sym files_are) ∙ is));
    past = λ n is. unseen_joined journal es n (stays (file_id n)) (same (file_id n)) (p.past n (ap (λ fs. numbered_at fs n) (sym files_are) ∙ is));
    users = λ uid not_granted. users uid (granted_none uid journal es not_granted).0;
    some = some;
    held = subst (λ (hs : List Holding). AllByRecursion (IsHeldSo (journal ++ es)) hs) (sym holdings_are) (all_more (IsHeldSo journal) (IsHeldSo (journal ++ es)) m.holdings (λ h k. held_on journal es h (none h.uid) k) p.held);
    told = λ f. told_joined journal es f (p.told f) (told f);
  }

-- of no user at all
pub plain_on : (t then : Story) (m : Machine) (journal : List Entry) → IsSoFar t m journal → (next : Machine) → next.files ≡ m.files → next.holdings ≡ m.holdings → (es : List Entry)
    → ((f : FileId) → StaysFor (view_of journal f) (view_by f (view_of journal f) es)) → ((f : FileId) → users_by f (users_of journal f) es ≡ users_of journal f) → ((c : ℕ) → AllByRecursion (IsPlain c) es)
    → ((f : FileId) → AreToldEntries f (view_of journal f) es) → IsSoFar then next (journal ++ es)
plain_on t then m journal p next files_are holdings_are es stays same plain told =
    quiet_on t then m journal p next files_are holdings_are es stays same
    (λ uid none. unnoted_on journal es uid (all_more (IsPlain (uid + 1)) (IsApartFrom uid) es (plain_apart (uid + 1) uid (λ e. absurd (omega (arith, e)))) (plain (uid + 1))) (p.users uid none))
    (λ u. plain_grants 0 u es (plain 0)) (some_plain 0 journal es (plain 0) p.some) told

-- ---- one file takes a turn

module _ (t then : Story) (m : Machine) (journal : List Entry) (once : IsOnce journal) (p : IsSoFar t m journal) (n uid : ℕ) (f g : MdsFile) (there : numbered_at m.files n ≡ Some f) (es : List Entry)
    (turn : TurnKept n (view_of journal (file_id n)) (users_of journal (file_id n)) g.layout es) (of : AllByRecursion (IsEntryOf n f.layout.cred.0) es) (says : TurnSays n f.layout g.layout es)
    (told : (k : FileId) → AreToldEntries k (view_of journal k) es) (unused : (holder : NodeId) (writes : List Entry) → es ≡ entry.Granted (file_id n) f.layout.cred holder ∷ writes → was_granted journal f.layout.cred.0 ≡ false)
    (next : Machine) (files_are : next.files ≡ set m.files (n - 1) g) (holdings_are : next.holdings ≡ m.holdings ++ held_by (ids_of g.layout.live) es) where
  held_user : (p : LayoutPhase) → is_held p ≡ true → f.layout.phase ≡ p → (view_of journal (file_id n)).periods ≡ f.layout.cred.0 ∷ []
  held_user Making h is = absurd cc
  held_user Free h is = absurd cc
  held_user (Held holder is_recalled) h is = (subst (λ (q : LayoutPhase). IsPhaseSo (view_of journal (file_id n)) q f.layout.cred.0) is (p.files n f there).phase).0
  held_user (Fencing next end) h is = absurd cc
  held_user (Settling copies) h is = absurd cc
  held_user (Copying copier copies) h is = absurd cc

  its_user : is_held f.layout.phase ≡ true → IsUser f.layout.cred.0 (users_of journal (file_id n))
  its_user h = period_user journal (file_id n) f.layout.cred.0 (held_user f.layout.phase h refl)

  grant_quiet : (writes : List Entry) (u : ℕ) → IsGrantWith n f.layout.cred writes → AllByRecursion (λ e. cause_in u e ≡ []) writes
  grant_quiet writes u NoWrite = tt
  grant_quiet writes u (OneWrite at bytes some) = (refl, tt)

  -- the entries end no period of another file
  quiet_for : (k : ℕ) → k ≢ n → (u : ℕ) → IsUser u (users_of journal (file_id k)) → TurnSays n f.layout g.layout es → AllByRecursion (λ e. cause_in u e ≡ []) es
  quiet_for k other u is (SaysGrant a) = subst (λ (l : List Entry). AllByRecursion (λ e. cause_in u e ≡ []) l) (sym a.is) (refl, grant_quiet a.writes u a.taken)
  quiet_for k other u is (SaysEnd held all) =
      all_more (IsPlain f.layout.cred.0) (λ e. cause_in u e ≡ []) es
      (λ e a. a.causes u (λ same. other (once.once (file_id k) (file_id n) u is (subst (λ (x : ℕ). IsUser x (users_of journal (file_id n))) (sym same) (its_user held))))) all
  quiet_for k other u is (SaysNone all) = all_more (IsPlain (u + 1)) (λ e. cause_in u e ≡ []) es (λ e a. a.causes u (λ e. absurd (omega (arith, e)))) (all (u + 1))

  stays : (k : ℕ) → k ≢ n → StaysFor (view_of journal (file_id k)) (view_by (file_id k) (view_of journal (file_id k)) es)
  stays k other = others_stay n f.layout.cred.0 k other (view_of journal (file_id k)) es (λ u is. quiet_for k other u (period_user journal (file_id k) u is) says) of

  same : (k : ℕ) → k ≢ n → users_by (file_id k) (users_of journal (file_id k)) es ≡ users_of journal (file_id k)
  same k other = others_users n f.layout.cred.0 k other (users_of journal (file_id k)) es of

  files_now : (k : ℕ) (x : MdsFile) → numbered_at (set m.files (n - 1) g) k ≡ Some x → IsFileSo (view_of (journal ++ es) (file_id k)) (users_of (journal ++ es) (file_id k)) x.layout
  files_now k x is =
      elim (cases_eq k n) [
        | inl it ↦
            let x_is : g ≡ x = same_numbered (set m.files (n - 1) g) n g x (put_same m.files n f g there) (sym (ap (numbered_at (set m.files (n - 1) g)) it) ∙ is) in
            rw (← x_is, it) (so_joined journal es (file_id n) g.layout turn.so)
        | inr other ↦ stays_joined journal es (file_id k) (stays k other) (same k other) x.layout (p.files k x (sym (put_other m.files n k f g there other) ∙ is))
      ]

  past_now : (k : ℕ) → numbered_at (set m.files (n - 1) g) k ≡ None → IsUnseen (journal ++ es) k
  past_now k is =
      elim (cases_eq k n) [
        | inl it ↦ absurd (none_some (sym (ap (numbered_at (set m.files (n - 1) g)) it ∙ put_same m.files n f g there) ∙ is))
        | inr other ↦ unseen_joined journal es k (stays k other) (same k other) (p.past k (sym (put_other m.files n k f g there other) ∙ is))
      ]
    where
      none_some : {A : Type 0} {x : A} → Some x ≡ None → ⊥
      none_some e = cc

  users_now : TurnSays n f.layout g.layout es → (u : ℕ) → was_granted (journal ++ es) u ≡ false → IsUnnoted (journal ++ es) u
  users_now (SaysGrant a) u none =
      let parts = granted_none u journal es none in
      subst (λ (l : List Entry). IsUnnoted (journal ++ l) u) (sym a.is) (unnoted_grant n f.layout.cred a.holder journal a.writes a.taken u (sym (ap (λ (l : List Entry). was_granted l u) a.is) ∙ parts.1) (p.users u parts.0))
  users_now (SaysEnd held all) u none =
      let parts = granted_none u journal es none in
      unnoted_on journal es u
      (all_more (IsPlain f.layout.cred.0) (IsApartFrom u) es (plain_apart f.layout.cred.0 u (λ it. not_both (was_granted journal u) (subst (λ (x : ℕ). was_granted journal x ≡ true) (sym it) (once.granted (file_id n) f.layout.cred.0 (its_user held))) parts.0)) all)
      (p.users u parts.0)
  users_now (SaysNone all) u none = let parts = granted_none u journal es none in unnoted_on journal es u (all_more (IsPlain (u + 1)) (IsApartFrom u) es (plain_apart (u + 1) u (λ e. absurd (omega (arith, e)))) (all (u + 1))) (p.users u parts.0)

  some_now : TurnSays n f.layout g.layout es → AreSome (journal ++ es)
  some_now (SaysGrant a) = subst (λ (l : List Entry). AreSome (journal ++ l)) (sym a.is) (some_grant n f.layout.cred a.holder journal a.writes a.taken p.some)
  some_now (SaysEnd held all) = some_plain f.layout.cred.0 journal es all p.some
  some_now (SaysNone all) = some_plain 0 journal es (all 0) p.some

  held_now : TurnSays n f.layout g.layout es → AllByRecursion (IsHeldSo (journal ++ es)) (m.holdings ++ held_by (ids_of g.layout.live) es)
  held_now (SaysGrant a) =
      let none : was_granted journal f.layout.cred.0 ≡ false = unused a.holder a.writes a.is in
      let file = p.files n f there in
      let now : (view_of journal (file_id n)).live ≡ Some (ids_of g.layout.live) = file.live ∙ (ap (λ (q : LayoutPhase). live_of q (ids_of f.layout.live)) a.free ∙ ap Some (sym a.live)) in
      subst (λ (l : List Entry). AllByRecursion (IsHeldSo (journal ++ l)) (m.holdings ++ held_by (ids_of g.layout.live) l)) (sym a.is)
      (all_append (IsHeldSo (journal ++ entry.Granted (file_id n) f.layout.cred a.holder ∷ a.writes)) m.holdings (held_by (ids_of g.layout.live) (entry.Granted (file_id n) f.layout.cred a.holder ∷ a.writes))
      (all_more (IsHeldSo journal) (IsHeldSo (journal ++ entry.Granted (file_id n) f.layout.cred a.holder ∷ a.writes)) m.holdings (held_grant n f.layout.cred a.holder journal a.writes a.taken none) p.held)
      (held_new n f.layout.cred a.holder journal a.writes (ids_of g.layout.live) a.taken (p.users f.layout.cred.0 none) now))
  held_now (SaysEnd held all) = old f.layout.cred.0 all
    where
      old : (c : ℕ) → AllByRecursion (IsPlain c) es → AllByRecursion (IsHeldSo (journal ++ es)) (m.holdings ++ held_by (ids_of g.layout.live) es)
      old c plain =
          subst (λ (hs : List Holding). AllByRecursion (IsHeldSo (journal ++ es)) (m.holdings ++ hs)) (sym (held_none (ids_of g.layout.live) c es plain))
          (all_append (IsHeldSo (journal ++ es)) m.holdings [] (all_more (IsHeldSo journal) (IsHeldSo (journal ++ es)) m.holdings (λ h k. held_on journal es h (plain_grants c h.uid es plain) k) p.held) tt)
  held_now (SaysNone all) = old 0 (all 0)
    where
      old : (c : ℕ) → AllByRecursion (IsPlain c) es → AllByRecursion (IsHeldSo (journal ++ es)) (m.holdings ++ held_by (ids_of g.layout.live) es)
      old c plain =
          subst (λ (hs : List Holding). AllByRecursion (IsHeldSo (journal ++ es)) (m.holdings ++ hs)) (sym (held_none (ids_of g.layout.live) c es plain))
          (all_append (IsHeldSo (journal ++ es)) m.holdings [] (all_more (IsHeldSo journal) (IsHeldSo (journal ++ es)) m.holdings (λ h k. held_on journal es h (plain_grants c h.uid es plain) k) p.held) tt)

  pub turned_on : IsSoFar then next (journal ++ es)
  turned_on = record {
    files = λ k x is. files_now k x (ap (λ fs. numbered_at fs k) (sym files_are) ∙ is);
    past = λ k is. past_now k (ap (λ fs. numbered_at fs k) (sym files_are) ∙ is);
    users = users_now says;
    some = some_now says;
    held = subst (λ (hs : List Holding). AllByRecursion (IsHeldSo (journal ++ es)) hs) (sym holdings_are) (held_now says);
    told = λ k. told_joined journal es k (p.told k) (told k);
  }
