-- A step of a file, and whether its live mirrors are alike behind a copy (RFC 8435, section 8.3).
use Rattle.std.proofs.Common.{◌≡◌, ℕ, ◌<◌, ◌⊎◌, Bool, true, false, cond, ltb, not, ◌&&◌, ◌||◌, List, [], ◌∷◌, ◌++◌, filter, length, Some, is_some, refl, sym, ap, subst, ◌∙◌, inl, inr, append-nil, append_assoc, arith}
use Rattle.std.specs.List.{AllByRecursion, list_all}
use Rattle.std.proofs.lemmas.Bool.{and_parts, ltb-false}
use Rattle.cluster_model.specs.declared.ids.Cred.{Cred}
use Rattle.cluster_model.specs.declared.ids.MirrorId.{MirrorId}
use Rattle.cluster_model.specs.declared.ids.Mirror.{Mirror}
use Rattle.cluster_model.specs.declared.phase.LeftCause.{LeftCause}
use Rattle.cluster_model.specs.declared.entry.Entry.{Entry}
use Rattle.cluster_model.specs.declared.entry.Entry.TheVariants as entry
use Rattle.cluster_model.specs.declared.call_stage.CallStage.{CallStage}
use Rattle.cluster_model.specs.declared.call_stage.CallStage.TheVariants.{Waits, Out, KeptOut, KeptBack, Done, GivenUp}
use Rattle.cluster_model.specs.declared.layout_state.LayoutState.{LayoutState}
use Rattle.cluster_model.specs.declared.layout_state.LayoutPhase.{LayoutPhase}
use Rattle.cluster_model.specs.declared.layout_state.LayoutPhase.TheVariants.{Making, Free, Held, Fencing, Settling, Copying}
use Rattle.cluster_model.specs.declared.layout_state.FenceEnd.{FenceEnd}
use Rattle.cluster_model.specs.declared.layout_state.FenceEnd.TheVariants.{Clean, Dirty, Copied}
use Rattle.cluster_model.specs.declared.layout_state.CopyKind.{CopyKind}
use Rattle.cluster_model.specs.declared.layout_state.CopyKind.TheVariants.{Replacing, Adding}
use Rattle.cluster_model.specs.declared.targets.SwappedIn.{SwappedIn}
use Rattle.cluster_model.specs.Journal.{Copy, is_mirror, content_of}
use Rattle.cluster_model.specs.DsCalls.{Commit, Committed}
use Rattle.cluster_model.specs.Fences.{is_out, is_over, fence_of}
use Rattle.cluster_model.specs.Phases.{ids_of, but_for, is_source, after_loss, phase_without, has_targets, with_targets, free_entries, swapped_entries}
use Rattle.copy_rule.specs.Copies.{CopyState, new_copy, swaps_of, is_given_up, is_none_left, have_answered, has_outcome}
use Rattle.copy_rule.specs.declared.copy_target.CopyTarget.{CopyTarget}
use Rattle.file_rule.specs.MdsFiles.{Activity, Idle, Makes, Fences, Settles, Copies, FileStep, source_of, plan_of}
use Rattle.file_rule.specs.declared.fresh.Fresh.{Fresh}
use Rattle.file_rule.specs.FilePhases.{FileInput}
use Rattle.cluster_laws.specs.Machine.{PacketValue, file_id}
use Rattle.cluster_laws.specs.FenceLaw.{live_in, changed_live}
use Rattle.cluster_laws.proofs.Lists.{all_append, all_more, all_any}
use Rattle.cluster_laws.proofs.Lives.{own_file, ids_but_for}
use Rattle.cluster_laws.proofs.Invariant.{live_of, is_answered}
use Rattle.copied_bytes.specs.CopiedBytes.{users_since}
use Rattle.machine_walk.proofs.Stories.{Story, AreEach}
use Rattle.machine_walk.proofs.MoveCases.{IsHeard}
use Rattle.machine_walk.proofs.Placed.{each_anywhere}
use Rattle.copied_bytes.proofs.CallsKept.{reply_so}
use Rattle.machine_walk.proofs.StepKinds.{IsEndOf, copy_turned, lost_by, BeginsWithLoss, IsAlike, IsLeaving, OneLeft, OneTold, IsTakenWith, NoWrite, OneWrite, IsSettledBy, StepKind, Rests, Learnt, Recalled, Grants, Ends, Resilvers, MakingTurns, MakingDone, FenceTurns, FenceLoses, FenceDone, SettleTurns, SettleLoses, SettleFrees, CopyBegins, CopyTurns, CopyLoses, TargetLost, CopyFrees, CopySwaps}
use Rattle.machine_walk.proofs.Writers.{same_copier}
use Rattle.copied_bytes.proofs.Wholes.{IsWhole}
use Rattle.copied_bytes.proofs.Sources.{owner_of, is_shut_phase, IsCommitReply, SettlesSo, CopiesSo}
use Rattle.copied_bytes.proofs.SourceKinds.{but_for_all, turned_copy, shut_without}
use Rattle.copied_bytes.proofs.SwapKinds.{live_then, same_behind}
use Rattle.copied_bytes.proofs.TargetTurns.{IsSiteOf, IsTargetKept, IsMadeThen, all_both, all_over_of}
use Rattle.copied_bytes.proofs.TargetFacts.{CopiesTargets}
use Rattle.copied_bytes.proofs.WholeSwaps.{IsBrought, CopiesAt, alike_copies, turned_targets, left_copies, swaps_brought, swaps_owned}
use Rattle.copied_bytes.proofs.LiveCopies.{ids_to}
use Rattle.copied_bytes.proofs.Replaced.{IsReplaced, OrLost, AllReplaced, AreReplaced, NoneLost, IsSwappedOut, turn_or, swapped_out, swapped_good, are_replaced_by, lost_replaced, begun_replaced}
use Rattle.copied_bytes.proofs.SinceFree.{HasUsers, users_same, users_on, none_dirty, clean_dirty}
use Rattle.copied_bytes.proofs.SinceFree.{lost_users, swaps_userless}
use Rattle.copied_bytes.proofs.AlikeKinds.{ReplacedIn, AreAlikeBy, alike_by, alike_without, IsFreedAlike, all_has}

abbrev IsUnfree : Entry → Type 0
IsUnfree e = (b : List Entry) → IsFreedAlike b e

leaving_unfree : (n : ℕ) (e : Entry) → IsLeaving n e → IsUnfree e
leaving_unfree n e (OneLeft id cause) = λ b. tt
leaving_unfree n e (OneTold cred at bytes) = λ b. tt

taken_unfree : (n : ℕ) (cred : Cred) (front writes : List Entry) → IsTakenWith n cred writes → AreEach IsFreedAlike front writes
taken_unfree n cred front _ NoWrite = tt
taken_unfree n cred front _ (OneWrite at bytes) = (tt, tt)

swaps_unfree : (n : ℕ) (front : List Entry) (targets : List SwappedIn) → AreEach IsFreedAlike front (swapped_entries (file_id n) targets)
swaps_unfree n front [] = tt
swaps_unfree n front (o ∷ targets) = (tt, swaps_unfree n (front ++ entry.Swapped (file_id n) o.old o.new.id ∷ []) targets)

-- no live list, or one that has lost a mirror
live_lost : (p : LayoutPhase) (b : Bool) (change : List MirrorId → List MirrorId) (ids : List MirrorId) → changed_live change (live_of p ids) ≡ live_of (phase_without p b) (change ids)
live_lost Making b change ids = refl
live_lost Free b change ids = refl
live_lost (Held holder is_recalled) b change ids = refl
live_lost (Fencing next end) b change ids = refl
live_lost (Settling copies) b change ids = refl
live_lost (Copying copier copies) true change ids = refl
live_lost (Copying copier copies) false change ids = refl

-- a target of a copy that has its outcome was made, or is given up
made_or_up : (c : CopyState) → has_outcome c ≡ true → (x : CopyTarget) → (is_none_left c ≡ true → is_given_up x.stage ≡ true) → (have_answered c ≡ true → is_over x.stage ≡ true) → (is_answered x.stage ≡ true → is_some x.made ≡ true) → is_given_up x.stage ≡ false → is_some x.made ≡ true
made_or_up c over x none all done up = by_outcome (is_none_left c) refl over
  where
    both : (b : Bool) → b ≡ true → b ≡ false → ⊥
    both true e f = cc
    both false e f = cc

    by_stage : (stage : CallStage) → is_over stage ≡ true → is_given_up stage ≡ false → (is_answered stage ≡ true → is_some x.made ≡ true) → is_some x.made ≡ true
    by_stage Waits e u d = absurd cc
    by_stage (Out xid timeouts) e u d = absurd cc
    by_stage (KeptOut xid) e u d = absurd cc
    by_stage KeptBack e u d = absurd cc
    by_stage Done e u d = d refl
    by_stage GivenUp e u d = absurd cc

    by_outcome : (b : Bool) → is_none_left c ≡ b → (b || (c.ended && have_answered c)) ≡ true → is_some x.made ≡ true
    by_outcome true e o = absurd (both (is_given_up x.stage) (none e) up)
    by_outcome false e o = by_stage x.stage (all (and_parts c.ended (have_answered c) o).1) up done

if_all : (P : CopyTarget → Type 0) (b : Bool) (targets : List CopyTarget) → (b ≡ true → AllByRecursion P targets) → AllByRecursion (λ x. b ≡ true → P x) targets
if_all P true targets h = all_more P (λ x. true ≡ true → P x) targets (λ x k e. k) (h refl)
if_all P false targets h = all_any (λ x. false ≡ true → P x) targets (λ x e. absurd (wrong e))
  where
    wrong : false ≡ true → ⊥
    wrong e = cc

all_given : (targets : List CopyTarget) → list_all (λ (y : CopyTarget). is_given_up y.stage) targets ≡ true → AllByRecursion (λ (y : CopyTarget). is_given_up y.stage ≡ true) targets
all_given [] h = tt
all_given (x ∷ targets) h = let parts = and_parts (is_given_up x.stage) (list_all (λ (y : CopyTarget). is_given_up y.stage) targets) h in (parts.0, all_given targets parts.1)

module _ (n : ℕ) (fresh : Fresh) (input : FileInput) (t : Story) (uid names : ℕ) (packets : List PacketValue) (last : ℕ) (journal : List Entry) (heard : IsHeard packets input) (made : (bytes : List ℕ) (by : ℕ) → t.copied by ≡ Some bytes → IsMadeThen t uid names packets last journal n bytes input by)
    (bound : (id : MirrorId) → owner_of journal id < uid) (U : MirrorId → Type 0) where
  abbrev IsWith : List ℕ → MirrorId → Type 0
  IsWith bytes id = IsWhole bytes (content_of journal id).content × U id

  abbrev pub Steady : List MirrorId → Type 0
  Steady ids = (bytes : List ℕ) × AllByRecursion (IsWith bytes) ids

  abbrev Copying_ : List Entry → LayoutState → Activity → Type 0
  Copying_ front s a = CopiesAt n fresh input t uid names packets last journal heard made bound front s a

  abbrev pub IsNewFor : Activity → Type 0
  IsNewFor Idle = Unit {0}
  IsNewFor (Makes all) = Unit {0}
  IsNewFor (Fences fence) = Unit {0}
  IsNewFor (Settles stage) = Unit {0}
  IsNewFor (Copies c) = (id : MirrorId) → owner_of journal id ≡ c.copier → U id

  abbrev pub SettlesIn : Activity → List MirrorId → Type 0
  SettlesIn Idle ids = Unit {0}
  SettlesIn (Makes all) ids = Unit {0}
  SettlesIn (Fences fence) ids = Unit {0}
  SettlesIn (Settles stage) ids = SettlesSo packets last journal stage ids
  SettlesIn (Copies c) ids = Unit {0}

  pub record Known (front : List Entry) (s : LayoutState) (a : Activity) : Type 0 where
    pub users : HasUsers front n s.phase s.cred.0
    pub live : live_in front (file_id n) ≡ live_of s.phase (ids_of s.live)
    pub shut : is_shut_phase s.phase ≡ true → AllByRecursion U (ids_of s.live)
    pub copies : Copying_ front s a
    pub new : IsNewFor a
    pub settles : SettlesIn a (ids_of s.live)

  abbrev Alike : (MirrorId → Type 0) → List Entry → LayoutPhase → List MirrorId → Activity → Type 0
  Alike L front p ids a = AreAlikeBy n Steady L front p ids a

  settles_alike : (a : Activity) (x y : List MirrorId) → y ≡ x → SettlesIn a x → SettlesIn a y
  settles_alike a x y e h = subst (SettlesIn a) (sym e) h

  known_alike : (front : List Entry) (s y : LayoutState) (a : Activity) → IsAlike s y → Known front s a → Known front y a
  known_alike front s y a e h = record {
    users = subst (λ (p : LayoutPhase). HasUsers front n p y.cred.0) (sym e.phase) (subst (λ (c : Cred). HasUsers front n s.phase c.0) (sym e.cred) h.users);
    live = h.live ∙ ap (λ (p : LayoutPhase). live_of p (ids_of s.live)) (sym e.phase) ∙ ap (live_of y.phase) (sym e.ids);
    shut = λ p. subst (AllByRecursion U) (sym e.ids) (h.shut (sym (ap is_shut_phase e.phase) ∙ p));
    copies = alike_copies n fresh input t uid names packets last journal heard made bound front s y a e h.copies;
    new = h.new;
    settles = settles_alike a (ids_of s.live) (ids_of y.live) e.ids h.settles;
  }

  lost_live : (front : List Entry) (s : LayoutState) (id : MirrorId) (cause : LeftCause) → live_in front (file_id n) ≡ live_of s.phase (ids_of s.live)
      → live_in (front ++ entry.Left (file_id n) id cause ∷ []) (file_id n) ≡ live_of (phase_without s.phase (is_source id s.live)) (ids_of (but_for id s.live))
  lost_live front s id cause h =
      live_then n front (entry.Left (file_id n) id cause) ∙ ap (λ (b : Bool). cond b (changed_live (filter (λ k. not (is_mirror k id))) (live_in front (file_id n))) (live_in front (file_id n))) (own_file (file_id n))
      ∙ ap (changed_live (filter (λ k. not (is_mirror k id)))) h ∙ live_lost s.phase (is_source id s.live) (filter (λ k. not (is_mirror k id))) (ids_of s.live)
      ∙ ap (live_of (phase_without s.phase (is_source id s.live))) (sym (ids_but_for id s.live))

  less_steady : (id : MirrorId) (live : List Mirror) → Steady (ids_of live) → Steady (ids_of (but_for id live))
  less_steady id live st = (st.0, but_for_all (IsWith st.0) id live st.1)

  left_users : (front : List Entry) (id : MirrorId) (cause : LeftCause) → users_since front (file_id n) ≡ [] → users_since (front ++ entry.Left (file_id n) id cause ∷ []) (file_id n) ≡ []
  left_users front id cause none = users_same (file_id n) front (entry.Left (file_id n) id cause ∷ []) (λ users. refl, tt) ∙ none

  unlost : (L : MirrorId → Type 0) → ((id : MirrorId) → L id → ⊥) → (a : Activity) (ids : List MirrorId) → ReplacedIn L a ids → ReplacedIn NoneLost a ids
  unlost L none Idle ids h = tt
  unlost L none (Makes all) ids h = tt
  unlost L none (Fences fence) ids h = tt
  unlost L none (Settles stage) ids h = tt
  unlost L none (Copies c) ids h = are_replaced_by L NoneLost c.targets c.targets by_one ids h
    where
      by_one : (id : MirrorId) → IsReplaced c.targets id ⊎ L id → IsReplaced c.targets id ⊎ NoneLost id
      by_one id (inl k) = inl k
      by_one id (inr l) = absurd (none id l)

  -- ---- a file that is free

  same_content : (front : List Entry) → ((id : MirrorId) → content_of front id ≡ content_of journal id) → (bytes : List ℕ) (ids : List MirrorId) → AllByRecursion (λ id. IsWhole bytes (content_of journal id).content) ids → AllByRecursion (λ id. IsWhole bytes (content_of front id).content) ids
  same_content front alike bytes ids h = all_more (λ id. IsWhole bytes (content_of journal id).content) (λ id. IsWhole bytes (content_of front id).content) ids (λ id w. subst (λ (c : Copy). IsWhole bytes c.content) (sym (alike id)) w) h

  freed_copied : (front : List Entry) (s : LayoutState) (next : Cred) → ((id : MirrorId) → content_of front id ≡ content_of journal id) → live_in front (file_id n) ≡ Some (ids_of s.live) → (users_since front (file_id n) ≡ []) ⊎ Steady (ids_of s.live)
      → IsFreedAlike (front ++ entry.Fenced (file_id n) s.cred next (ids_of s.live) ∷ []) (entry.Free (file_id n) (ids_of s.live))
  freed_copied front s next alike live (inl none) = λ user d. absurd (none_dirty (front ++ entry.Fenced (file_id n) s.cred next (ids_of s.live) ∷ []) (file_id n) user (users_same (file_id n) front (entry.Fenced (file_id n) s.cred next (ids_of s.live) ∷ []) (λ users. refl, tt) ∙ none) d)
  freed_copied front s next alike live (inr st) = λ user d.
      let e : Entry = entry.Fenced (file_id n) s.cred next (ids_of s.live) in
      all_has (front ++ e ∷ []) (file_id n) (ids_of s.live) (live_then n front e ∙ live) st.0
      (same_content (front ++ e ∷ []) (λ id. same_behind n front e id (λ c. refl) ∙ alike id) st.0 (ids_of s.live) (all_more (IsWith st.0) (λ id. IsWhole st.0 (content_of journal id).content) (ids_of s.live) (λ id k. k.0) st.1))

  settled_first : (stage : CallStage) (id : MirrorId) (ids : List MirrorId) → IsSettledBy input stage → SettlesSo packets last journal stage (id ∷ ids) → (bytes : List ℕ) × IsWhole bytes (content_of journal id).content
  settled_first stage id ids by h = reply_so packets last by.xid id.server (Commit id.fileid) (IsCommitReply journal id) (Committed by.shown by.verifier) (h by.xid by.out) (subst (IsHeard packets) by.answers heard)

  freed_settled : (front : List Entry) (stage : CallStage) (live : List Mirror) → ((id : MirrorId) → content_of front id ≡ content_of journal id) → live_in front (file_id n) ≡ Some (ids_of live) → ltb 1 (length live) ≡ false → IsSettledBy input stage → SettlesSo packets last journal stage (ids_of live)
      → IsFreedAlike front (entry.Free (file_id n) (ids_of live))
  freed_settled front stage [] alike is few by h = λ user d. all_has front (file_id n) [] is [] tt
  freed_settled front stage (m ∷ []) alike is few by h = λ user d. let k = settled_first stage m.id [] by h in all_has front (file_id n) (m.id ∷ []) is k.0 (same_content front alike k.0 (m.id ∷ []) (k.1, tt))
  freed_settled front stage (m ∷ k ∷ live) alike is few by h = let le = ltb-false 1 (length (m ∷ k ∷ live)) few in absurd (omega (arith, le))

  -- each mirror but the first goes
  goes_out : (c : CopyState) → CopiesTargets t uid names packets last journal n c → has_outcome c ≡ true → (id : MirrorId) → IsReplaced c.targets id → IsSwappedOut (swaps_of c) id
  goes_out c k over id h =
      swapped_out id c.targets
      (all_both (λ (x : CopyTarget). is_none_left c ≡ true → is_given_up x.stage ≡ true) _ (λ (x : CopyTarget). is_given_up x.stage ≡ false → is_some x.made ≡ true) c.targets (λ x none q up. made_or_up c over x none q.0 q.1.done up)
      (if_all (λ y. is_given_up y.stage ≡ true) (is_none_left c) c.targets (all_given c.targets))
      (all_both (λ (x : CopyTarget). have_answered c ≡ true → is_over x.stage ≡ true) (IsTargetKept (IsSiteOf t names n c.copier) packets last journal c.copier k.bytes c.at c.piece) (λ (x : CopyTarget). (have_answered c ≡ true → is_over x.stage ≡ true) × IsTargetKept (IsSiteOf t names n c.copier) packets last journal c.copier k.bytes c.at c.piece x) c.targets
      (λ x a q. (a, q)) (if_all (λ y. is_over y.stage ≡ true) (have_answered c) c.targets (all_over_of c.targets)) k.kept.each)) h

  freed_alone : (front : List Entry) (c : CopyState) (ids : List MirrorId) → ((id : MirrorId) → content_of front id ≡ content_of journal id) → live_in front (file_id n) ≡ Some ids → CopiesSo t packets last journal c ids → CopiesTargets t uid names packets last journal n c → has_outcome c ≡ true → swaps_of c ≡ [] → AreReplaced NoneLost c.targets ids
      → IsFreedAlike front (entry.Free (file_id n) ids)
  freed_alone front c [] alike is h k over none r = absurd h
  freed_alone front c (id ∷ []) alike is h k over none r = λ user d. all_has front (file_id n) (id ∷ []) is h.bytes (same_content front alike h.bytes (id ∷ []) (h.whole, tt))
  freed_alone front c (id ∷ other ∷ ids) alike is h k over none r = absurd (by_one r.0)
    where
      by_one : IsReplaced c.targets other ⊎ NoneLost other → ⊥
      by_one (inl q) = subst (λ (os : List SwappedIn). IsSwappedOut os other) none (goes_out c k over other q)
      by_one (inr l) = l

  -- ---- a file whose copy has ended

  module _ (c : CopyState) (k : CopiesTargets t uid names packets last journal n c) (over : has_outcome c ≡ true) (new : IsNewFor (Copies c)) where
    swapped_steady : (all : List Mirror) → CopiesSo t packets last journal c (ids_of all) → AllByRecursion U (ids_of all) → AreReplaced NoneLost c.targets (ids_of all) → Steady (ids_of (with_targets (swaps_of c) all))
    swapped_steady [] h shut r = absurd h
    swapped_steady (m ∷ all) h shut r = (
      h.bytes,
      ids_to (IsWith h.bytes) (with_targets (swaps_of c) (m ∷ all))
          (swapped_good (IsWith h.bytes) (swaps_of c) (m ∷ all)
          (all_both (λ (o : SwappedIn). IsBrought t uid h.bytes (content_of journal o.new.id)) (λ (o : SwappedIn). owner_of journal o.new.id ≡ c.copier) (λ (o : SwappedIn). IsWith h.bytes o.new.id) (swaps_of c) (λ o b own. (b.whole, new o.new.id own))
          (swaps_brought n fresh input t uid names packets last journal heard made bound c m.id (ids_of all) h k over) (swaps_owned n fresh input t uid names packets last journal heard made bound c k))
          (inl (h.whole, shut.0), rest all r)),
    )
      where
        one : (id : MirrorId) → IsReplaced c.targets id ⊎ NoneLost id → IsWith h.bytes id ⊎ IsSwappedOut (swaps_of c) id
        one id (inl q) = inr (goes_out c k over id q)
        one id (inr l) = absurd l

        rest : (more : List Mirror) → AllReplaced NoneLost c.targets (ids_of more) → AllByRecursion (λ (x : Mirror). IsWith h.bytes x.id ⊎ IsSwappedOut (swaps_of c) x.id) more
        rest [] q = tt
        rest (x ∷ more) q = (one x.id q.0, rest more q.1)

  -- ---- each step

  more_left : (front : List Entry) (id : MirrorId) (cause : LeftCause) (x : FileStep) → Alike NoneLost ((front ++ entry.Left (file_id n) id cause ∷ []) ++ x.entries) x.file.layout.phase (ids_of x.file.layout.live) x.file.activity
      → Alike NoneLost (front ++ entry.Left (file_id n) id cause ∷ x.entries) x.file.layout.phase (ids_of x.file.layout.live) x.file.activity
  more_left front id cause x h = subst (λ (j : List Entry). Alike NoneLost j x.file.layout.phase (ids_of x.file.layout.live) x.file.activity) (append_assoc front (entry.Left (file_id n) id cause ∷ []) x.entries) h

  by_phase : (front : List Entry) (s : LayoutState) (p : LayoutPhase) → s.phase ≡ p → HasUsers front n s.phase s.cred.0 → HasUsers front n p s.cred.0
  by_phase front s p is h = subst (λ (x : LayoutPhase). HasUsers front n x s.cred.0) is h

  live_by : (front : List Entry) (s : LayoutState) (p : LayoutPhase) → s.phase ≡ p → live_in front (file_id n) ≡ live_of s.phase (ids_of s.live) → live_in front (file_id n) ≡ live_of p (ids_of s.live)
  live_by front s p is h = h ∙ ap (λ (x : LayoutPhase). live_of x (ids_of s.live)) is

  alike_at : (L : MirrorId → Type 0) (front : List Entry) (s : LayoutState) (a : Activity) (p : LayoutPhase) → s.phase ≡ p → Alike L front s.phase (ids_of s.live) a → Alike L front p (ids_of s.live) a
  alike_at L front s a p is h = subst (λ (x : LayoutPhase). Alike L front x (ids_of s.live) a) is h

  ends_alike : (front : List Entry) (next : Cred) (end : FenceEnd) (cause : _) (ids : List MirrorId) (a : Activity) → IsEndOf end cause → Alike NoneLost front (Fencing next end) ids a
  ends_alike front next Clean cause ids a of = tt
  ends_alike front next Dirty cause ids a of = tt
  ends_alike front next Copied cause ids a of = absurd of

  fenced_fits : (front : List Entry) (s : LayoutState) (next : Cred) (end : FenceEnd) (a : Activity) → ((id : MirrorId) → content_of front id ≡ content_of journal id) → s.phase ≡ Fencing next end → Known front s a → (L : MirrorId → Type 0) → Alike L front s.phase (ids_of s.live) a
      → AreEach IsFreedAlike front (entry.Fenced (file_id n) s.cred next (ids_of s.live) ∷ free_entries (file_id n) end s.live)
  fenced_fits front s next Clean a alike is k L h =
      let e : Entry = entry.Fenced (file_id n) s.cred next (ids_of s.live) in
      (tt, (λ user d. absurd (clean_dirty (front ++ e ∷ []) n s.cred.0 user (users_on front (e ∷ []) n s.cred.0 (λ users. refl, tt) (Fencing next Clean) (by_phase front s (Fencing next Clean) is k.users)) d), tt))
  fenced_fits front s next Dirty a alike is k L h = (tt, tt)
  fenced_fits front s next Copied a alike is k L h = (tt, (freed_copied front s next alike (live_by front s (Fencing next Copied) is k.live) (alike_at L front s a (Fencing next Copied) is h), tt))

  settled_fits : (front : List Entry) (s : LayoutState) (stage : CallStage) (copies : CopyKind) → ((id : MirrorId) → content_of front id ≡ content_of journal id) → s.phase ≡ Settling copies → has_targets copies (length s.live) s.wanted ≡ false → IsSettledBy input stage → Known front s (Settles stage)
      → IsFreedAlike front (entry.Free (file_id n) (ids_of s.live))
  settled_fits front s stage Replacing alike is none by k = freed_settled front stage s.live alike (live_by front s (Settling Replacing) is k.live) none by k.settles
  settled_fits front s stage Adding alike is none by k = λ user d. absurd (none_dirty front (file_id n) user (by_phase front s (Settling Adding) is k.users) d)

  copied_fits : (front : List Entry) (s : LayoutState) (c : CopyState) (by : Cred) (copies : CopyKind) → ((id : MirrorId) → content_of front id ≡ content_of journal id) → s.phase ≡ Copying by copies → has_outcome c ≡ true → swaps_of c ≡ [] → Known front s (Copies c) → Alike NoneLost front s.phase (ids_of s.live) (Copies c)
      → IsFreedAlike front (entry.Free (file_id n) (ids_of s.live))
  copied_fits front s c by Replacing alike is over none k h = freed_alone front c (ids_of s.live) alike k.copies.1 k.copies.0 k.copies.2 over none (alike_at NoneLost front s (Copies c) (Copying by Replacing) is h)
  copied_fits front s c by Adding alike is over none k h = λ user d. absurd (none_dirty front (file_id n) user (by_phase front s (Copying by Adding) is k.users) d)

  swapped_fits : (front : List Entry) (s : LayoutState) (c : CopyState) (by next : Cred) (copies : CopyKind) (a : Activity) (targets : List SwappedIn) → s.phase ≡ Copying by copies → has_outcome c ≡ true → swaps_of c ≡ targets → Known front s (Copies c) → Alike NoneLost front s.phase (ids_of s.live) (Copies c)
      → Alike NoneLost (front ++ swapped_entries (file_id n) targets) (Fencing next Copied) (ids_of (with_targets targets s.live)) a
  swapped_fits front s c by next Replacing a targets is over some k h =
      inr (subst (λ (os : List SwappedIn). Steady (ids_of (with_targets os s.live))) some
      (swapped_steady c k.copies.2 over k.new s.live k.copies.0 (k.shut (ap is_shut_phase is)) (alike_at NoneLost front s (Copies c) (Copying by Replacing) is h)))
  swapped_fits front s c by next Adding a targets is over some k h = inl (users_same (file_id n) front (swapped_entries (file_id n) targets) (swaps_userless (file_id n) n targets) ∙ by_phase front s (Copying by Adding) is k.users)

  begun_fits : (front : List Entry) (copier : Cred) (copies : CopyKind) (s : LayoutState) → Alike NoneLost (front ++ []) (Copying copier copies) (ids_of s.live) (Copies (new_copy (source_of s.live) (plan_of copies s fresh) fresh.uid))
  begun_fits front copier Replacing s = begun_replaced fresh.name s.live
  begun_fits front copier Adding s = tt

  turned_new : (c : CopyState) → IsNewFor (Copies c) → IsNewFor (Copies (copy_turned input c).copy)
  turned_new c h = λ id is. h id (is ∙ same_copier input c)

  stage_on : (stage next : CallStage) → ((xid : ℕ) → is_out xid next ≡ true → is_out xid stage ≡ true) → (ids : List MirrorId) → SettlesSo packets last journal stage ids → SettlesSo packets last journal next ids
  stage_on stage next outs [] h = tt
  stage_on stage next outs (id ∷ ids) h = λ xid e. h xid (outs xid e)

  no_loss : (L : MirrorId → Type 0) (front : List Entry) (s : LayoutState) (a : Activity) → ((id : MirrorId) → L id → ⊥) → Alike L front s.phase (ids_of s.live) a → Alike NoneLost front s.phase (ids_of s.live) a
  no_loss L front s a none h = alike_by n Steady L NoneLost front front (ids_of s.live) a a (λ u. u) (unlost L none a (ids_of s.live)) s.phase h

  left_alike_now : (front : List Entry) (id : MirrorId) (cause : LeftCause) → ((k : MirrorId) → content_of front k ≡ content_of journal k) → (k : MirrorId) → content_of (front ++ entry.Left (file_id n) id cause ∷ []) k ≡ content_of journal k
  left_alike_now front id cause alike k = same_behind n front (entry.Left (file_id n) id cause) k (λ c. refl) ∙ alike k

  lost_alike : (L M : MirrorId → Type 0) (front : List Entry) (s : LayoutState) (id : MirrorId) (cause : LeftCause) (a b : Activity) → (is_source id s.live ≡ false → ReplacedIn L a (ids_of s.live) → ReplacedIn M b (ids_of (but_for id s.live))) → Alike L front s.phase (ids_of s.live) a
      → Alike M (front ++ entry.Left (file_id n) id cause ∷ []) (phase_without s.phase (is_source id s.live)) (ids_of (but_for id s.live)) b
  lost_alike L M front s id cause a b r h = alike_without n Steady L M front (front ++ entry.Left (file_id n) id cause ∷ []) (ids_of s.live) (ids_of (but_for id s.live)) a b (is_source id s.live) (left_users front id cause) (less_steady id s.live) r s.phase h

  pub alike_kind : {s : LayoutState} {a : Activity} {x : FileStep} → StepKind n fresh input s a x → (front : List Entry) → ((id : MirrorId) → content_of front id ≡ content_of journal id) → Known front s a → (L : MirrorId → Type 0) → ((id : MirrorId) → L id → BeginsWithLoss id x.entries) → Alike L front s.phase (ids_of s.live) a
      → Alike NoneLost (front ++ x.entries) x.file.layout.phase (ids_of x.file.layout.live) x.file.activity × AreEach IsFreedAlike front x.entries
  alike_kind (Rests s a) front alike k L loss h = (alike_by n Steady L NoneLost front (front ++ []) (ids_of s.live) a a (λ none. ap (λ (j : List Entry). users_since j (file_id n)) (append-nil front) ∙ none) (unlost L loss a (ids_of s.live)) s.phase h, tt)
  alike_kind (Learnt s y a x e q) front alike k L loss h = alike_kind q front alike (known_alike front s y a e k) L loss (subst (λ (ids : List MirrorId). Alike L front y.phase ids a) (sym e.ids) (subst (λ (p : LayoutPhase). Alike L front p (ids_of s.live) a) (sym e.phase) h))
  alike_kind (Recalled s holder is_recalled is) front alike k L loss h = (tt, tt)
  alike_kind (Grants s holder writes is taken) front alike k L loss h = (tt, (tt, taken_unfree n s.cred _ writes taken))
  alike_kind (Ends s holder is_recalled left cause live end is leaving of kept) front alike k L loss h = (
    ends_alike (front ++ (left ++ entry.Ended (file_id n) s.cred cause ∷ [])) (record { 0 = fresh.uid }) end cause (ids_of live) (Fences (fence_of live fresh.uid)) of,
    each_anywhere IsFreedAlike front (left ++ entry.Ended (file_id n) s.cred cause ∷ []) (all_append IsUnfree left (entry.Ended (file_id n) s.cred cause ∷ []) (all_more (IsLeaving n) IsUnfree left (leaving_unfree n) leaving) (λ b. tt, tt)),
  )
  alike_kind (Resilvers s is) front alike k L loss h = (tt, tt)
  alike_kind (MakingTurns s all next x same q) front alike k L loss h =
      alike_kind q front alike (record { users = k.users; live = k.live; shut = k.shut; copies = tt; new = tt; settles = tt }) L loss (alike_by n Steady L L front front (ids_of s.live) (Makes all) (Makes next) (λ u. u) (λ r. tt) s.phase h)
  alike_kind (MakingDone s all is) front alike k L loss h = (tt, (λ user d. absurd (none_dirty front (file_id n) user (by_phase front s Making is k.users) d), tt))
  alike_kind (FenceTurns s fence next x same q) front alike k L loss h =
      alike_kind q front alike (record { users = k.users; live = k.live; shut = k.shut; copies = tt; new = tt; settles = tt }) L loss (alike_by n Steady L L front front (ids_of s.live) (Fences fence) (Fences next) (λ u. u) (λ r. tt) s.phase h)
  alike_kind (FenceLoses s fence id cause x some q) front alike k L loss h =
      let r = alike_kind q (front ++ entry.Left (file_id n) id cause ∷ []) (left_alike_now front id cause alike)
      (record { users = lost_users n fresh input front s id cause k.users; live = lost_live front s id cause k.live; shut = λ p. but_for_all U id s.live (k.shut (shut_without s.phase (is_source id s.live) p)); copies = tt; new = tt; settles = tt })
      NoneLost (λ i l. absurd l) (lost_alike L NoneLost front s id cause (Fences fence) (Fences fence) (λ e z. tt) h) in
      (more_left front id cause x r.0, (tt, r.1))
  alike_kind (FenceDone s fence next Clean is same done) front alike k L loss h = (tt, fenced_fits front s next Clean (Fences fence) alike is k L h)
  alike_kind (FenceDone s fence next Dirty is same done) front alike k L loss h = (tt, fenced_fits front s next Dirty (Fences fence) alike is k L h)
  alike_kind (FenceDone s fence next Copied is same done) front alike k L loss h = (tt, fenced_fits front s next Copied (Fences fence) alike is k L h)
  alike_kind (SettleTurns s stage next x outs q) front alike k L loss h =
      alike_kind q front alike (record { users = k.users; live = k.live; shut = k.shut; copies = tt; new = tt; settles = stage_on stage next outs (ids_of s.live) k.settles }) L loss
      (alike_by n Steady L L front front (ids_of s.live) (Settles stage) (Settles next) (λ u. u) (λ r. tt) s.phase h)
  alike_kind (SettleLoses s stage m live cause is some) front alike k L loss h = (lost_alike L NoneLost front s m.id cause (Settles stage) (Settles Waits) (λ e z. tt) h, (tt, tt))
  alike_kind (SettleFrees s stage copies is none by) front alike k L loss h = (tt, (settled_fits front s stage copies alike is none by k, tt))
  alike_kind (CopyBegins s stage copies is some by) front alike k L loss h = (begun_fits front (record { 0 = fresh.uid }) copies s, tt)
  alike_kind (CopyTurns s c x q shown) front alike k L loss h =
      alike_kind q front alike
      (record { users = k.users; live = k.live; shut = k.shut; copies = (turned_copy n fresh input t uid packets last journal heard c (ids_of s.live) k.copies.0, k.copies.1, turned_targets n fresh input t uid names packets last journal heard made bound c k.copies.2, k.copies.3, k.copies.4); new = turned_new c k.new; settles = tt })
      (λ id. L id ⊎ (lost_by (copy_turned input c).step ≡ Some id)) (λ id l. lost_now id l)
      (alike_by n Steady L (λ id. L id ⊎ (lost_by (copy_turned input c).step ≡ Some id)) front front (ids_of s.live) (Copies c) (Copies (copy_turned input c).copy) (λ u. u)
      (are_replaced_by L (λ id. L id ⊎ (lost_by (copy_turned input c).step ≡ Some id)) c.targets (copy_turned input c).copy.targets by_one (ids_of s.live)) s.phase h)
    where
      lost_now : (id : MirrorId) → L id ⊎ (lost_by (copy_turned input c).step ≡ Some id) → BeginsWithLoss id x.entries
      lost_now id (inl l) = loss id l
      lost_now id (inr e) = shown id e

      or_lost : (id : MirrorId) → OrLost (copy_turned input c).copy.targets (copy_turned input c).step id → IsReplaced (copy_turned input c).copy.targets id ⊎ (L id ⊎ (lost_by (copy_turned input c).step ≡ Some id))
      or_lost id (inl z) = inl z
      or_lost id (inr e) = inr (inr e)

      by_one : (id : MirrorId) → IsReplaced c.targets id ⊎ L id → IsReplaced (copy_turned input c).copy.targets id ⊎ (L id ⊎ (lost_by (copy_turned input c).step ≡ Some id))
      by_one id (inl z) = or_lost id (turn_or c id z input)
      by_one id (inr l) = inr (inl l)
  alike_kind (CopyLoses s c m live cause is some) front alike k L loss h = (lost_alike L NoneLost front s m.id cause (Copies c) (Settles Waits) (λ e z. tt) h, (tt, tt))
  alike_kind (TargetLost s c id cause x other q) front alike k L loss h =
      let r = alike_kind q (front ++ entry.Left (file_id n) id cause ∷ []) (left_alike_now front id cause alike)
      (record {
        users = lost_users n fresh input front s id cause k.users;
        live = lost_live front s id cause k.live;
        shut = λ p. but_for_all U id s.live (k.shut (shut_without s.phase (is_source id s.live) p));
        copies = left_copies n fresh input t uid names packets last journal heard made bound s c front id cause (after_loss s id) other refl k.copies;
        new = k.new;
        settles = tt;
      })
      NoneLost (λ i l. absurd l) (lost_alike L NoneLost front s id cause (Copies c) (Copies c) (λ e z. lost_replaced c.targets L id (λ i l. loss i l) s.live other z) h) in
      (more_left front id cause x r.0, (tt, r.1))
  alike_kind (CopyFrees s c by copies is over none) front alike k L loss h = (tt, (copied_fits front s c by copies alike is over none k (no_loss L front s (Copies c) loss h), tt))
  alike_kind (CopySwaps s c by copies is o targets over some) front alike k L loss h = (swapped_fits front s c by (record { 0 = fresh.uid }) copies (Fences (fence_of (with_targets (o ∷ targets) s.live) fresh.uid)) (o ∷ targets) is over some k (no_loss L front s (Copies c) loss h), swaps_unfree n front (o ∷ targets))
