-- What each kind of step makes of a file whose mirrors are shut, and of the source that it settles or copies.
use Rattle.std.proofs.Common.{◌≡◌, ℕ, ◌≤◌, Bool, true, false, cond, not, List, [], ◌∷◌, ◌++◌, Option, Some, None, refl, sym, ap, subst, ◌∙◌, arith}
use Rattle.std.specs.List.{AllByRecursion}
use Rattle.cluster_model.specs.declared.ids.Cred.{Cred}
use Rattle.cluster_model.specs.declared.ids.MirrorId.{MirrorId}
use Rattle.cluster_model.specs.declared.ids.Mirror.{Mirror}
use Rattle.cluster_model.specs.declared.phase.LeftCause.{LeftCause}
use Rattle.cluster_model.specs.declared.entry.Entry.{Entry}
use Rattle.cluster_model.specs.declared.entry.Entry.TheVariants as entry
use Rattle.cluster_model.specs.declared.call_stage.CallStage.{CallStage}
use Rattle.cluster_model.specs.declared.call_stage.CallStage.TheVariants.{Waits}
use Rattle.cluster_model.specs.declared.layout_state.LayoutState.{LayoutState}
use Rattle.cluster_model.specs.declared.layout_state.LayoutPhase.{LayoutPhase}
use Rattle.cluster_model.specs.declared.layout_state.LayoutPhase.TheVariants.{Making, Free, Held, Fencing, Settling, Copying}
use Rattle.cluster_model.specs.declared.layout_state.FenceEnd.TheVariants.{Clean, Dirty, Copied}
use Rattle.cluster_model.specs.Content.{shown_of}
use Rattle.cluster_model.specs.Journal.{Copy, no_copy, is_mirror, content_of}
use Rattle.cluster_model.specs.DsCalls.{Commit, Committed}
use Rattle.cluster_model.specs.Fences.{is_out}
use Rattle.cluster_model.specs.Phases.{ids_of, but_for, is_source, phase_without}
use Rattle.copy_rule.specs.Copies.{CopyState, new_copy}
use Rattle.copy_rule.specs.declared.copy_target.Target.{Target}
use Rattle.copy_rule.specs.declared.copy_target.CopyTarget.{CopyTarget}
use Rattle.file_rule.specs.MdsFiles.{Activity, Idle, Makes, Fences, Settles, Copies, FileStep, source_of, plan_of}
use Rattle.file_rule.specs.declared.fresh.Fresh.{Fresh}
use Rattle.file_rule.specs.FilePhases.{FileInput}
use Rattle.cluster_laws.specs.Machine.{PacketValue, file_id}
use Rattle.cluster_laws.specs.Agreement.{bytes_of}
use Rattle.cluster_laws.proofs.Lists.{all_more}
use Rattle.cluster_laws.proofs.Lives.{all_filter, ids_but_for}
use Rattle.cluster_laws.proofs.Journals.{copy_append}
use Rattle.cluster_laws.proofs.Invariant.{IsNotSource, AreRight}
use Rattle.machine_walk.proofs.MoveCases.{IsHeard}
use Rattle.machine_walk.proofs.Stories.{Story, begun_copy}
use Rattle.machine_walk.proofs.StepKinds.{copy_turned, IsAlike, IsSettledBy, StepKind, Rests, Learnt, Recalled, Grants, Ends, Resilvers, MakingTurns, MakingDone, FenceTurns, FenceLoses, FenceDone, SettleTurns, SettleLoses, SettleFrees, CopyBegins, CopyTurns, CopyLoses, TargetLost, CopyFrees, CopySwaps}
use Rattle.machine_walk.proofs.Writers.{HasFenceUids, HasCopyUids, HasUids, alike_uids, same_copier}
use Rattle.copied_bytes.proofs.Wholes.{IsWhole, whole_shown}
use Rattle.copied_bytes.proofs.CallsKept.{reply_so}
use Rattle.copied_bytes.proofs.Slices.{slice_none}
use Rattle.copied_bytes.proofs.Sources.{owner_of, is_shut_phase, IsCommitReply, SettlesSo, IsNotFirst, CopiesSo, IsBusySo}
use Rattle.copied_bytes.proofs.CopyTurns.{copy_turn}
use Rattle.copied_bytes.proofs.SourceCarry.{is_making}

-- a step that begins with a grant
abbrev pub is_grant : List Entry → Bool
is_grant [] = false
is_grant (entry.Granted file cred holder ∷ entries) = true
is_grant (_ ∷ entries) = false

pub but_for_all : (P : MirrorId → Type 0) (id : MirrorId) (live : List Mirror) → AllByRecursion P (ids_of live) → AllByRecursion P (ids_of (but_for id live))
but_for_all P id live h = subst (AllByRecursion P) (sym (ids_but_for id live)) (all_filter P (λ k. not (is_mirror k id)) (ids_of live) h)

left_same : (front : List Entry) (n : ℕ) (gone id : MirrorId) (cause : LeftCause) → owner_of (front ++ entry.Left (file_id n) gone cause ∷ []) id ≡ owner_of front id
left_same front n gone id cause = ap (λ (c : Copy). c.owner) (copy_append id no_copy front (entry.Left (file_id n) gone cause ∷ []))

pub shut_without : (p : LayoutPhase) (b : Bool) → is_shut_phase (phase_without p b) ≡ true → is_shut_phase p ≡ true
shut_without Making b e = e
shut_without Free b e = e
shut_without (Held holder is_recalled) b e = e
shut_without (Fencing next end) b e = e
shut_without (Settling copies) b e = refl
shut_without (Copying copier copies) b e = refl

-- ---- uids never fall

module _ (n : ℕ) (fresh : Fresh) (input : FileInput) (t : Story) (uid : ℕ) where
  pub cred_kind : {s : LayoutState} {a : Activity} {x : FileStep} → StepKind n fresh input s a x → HasUids t uid n s a → s.cred.0 ≤ x.file.layout.cred.0
  cred_kind (Rests s a) h = omega arith
  cred_kind (Learnt s y a x e k) h = subst (λ (c : Cred). c.0 ≤ x.file.layout.cred.0) e.cred (cred_kind k (alike_uids t uid n s y a e h))
  cred_kind (Recalled s holder is_recalled is) h = omega arith
  cred_kind (Grants s holder writes is taken) h = omega arith
  cred_kind (Ends s holder is_recalled left cause live end is leaving of kept) h = omega arith
  cred_kind (Resilvers s is) h = omega arith
  cred_kind (MakingTurns s all next x same k) h = cred_kind k h
  cred_kind (MakingDone s all is) h = omega arith
  cred_kind (FenceTurns s fence next x same k) h = cred_kind k (subst (λ (u : ℕ). HasFenceUids t uid n s.cred.0 u) (sym same) h)
  cred_kind (FenceLoses s fence id cause x some k) h = cred_kind k h
  cred_kind (FenceDone s fence next end is same done) h = let later = h.later in omega (arith, same, later)
  cred_kind (SettleTurns s stage next x outs k) h = cred_kind k h
  cred_kind (SettleLoses s stage m live cause is some) h = omega arith
  cred_kind (SettleFrees s stage copies is none by) h = omega arith
  cred_kind (CopyBegins s stage copies is some by) h = omega arith
  cred_kind (CopyTurns s c x k shown) h = cred_kind k (subst (λ (u : ℕ). HasCopyUids t uid n s.cred.0 u) (sym (same_copier input c)) h)
  cred_kind (CopyLoses s c m live cause is some) h = omega arith
  cred_kind (TargetLost s c id cause x other k) h = cred_kind k h
  cred_kind (CopyFrees s c by copies is over none) h = omega arith
  cred_kind (CopySwaps s c by copies is o targets over some) h = let later = h.later in omega (arith, later)

-- while a file is made nothing is drawn for it
pub making_draws : (n : ℕ) (fresh : Fresh) (input : FileInput) {s : LayoutState} {a : Activity} {x : FileStep} → StepKind n fresh input s a x → is_making a ≡ true → x.uids ≡ 0
making_draws n fresh input (Rests s a) e = refl
making_draws n fresh input (Learnt s y a x same k) e = making_draws n fresh input k e
making_draws n fresh input (Recalled s holder is_recalled is) e = refl
making_draws n fresh input (Grants s holder writes is taken) e = refl
making_draws n fresh input (Ends s holder is_recalled left cause live end is leaving of kept) e = absurd cc
making_draws n fresh input (Resilvers s is) e = refl
making_draws n fresh input (MakingTurns s all next x same k) e = making_draws n fresh input k refl
making_draws n fresh input (MakingDone s all is) e = refl
making_draws n fresh input (FenceTurns s fence next x same k) e = absurd cc
making_draws n fresh input (FenceLoses s fence id cause x some k) e = absurd cc
making_draws n fresh input (FenceDone s fence next end is same done) e = refl
making_draws n fresh input (SettleTurns s stage next x outs k) e = absurd cc
making_draws n fresh input (SettleLoses s stage m live cause is some) e = refl
making_draws n fresh input (SettleFrees s stage copies is none by) e = refl
making_draws n fresh input (CopyBegins s stage copies is some by) e = absurd cc
making_draws n fresh input (CopyTurns s c x k shown) e = absurd cc
making_draws n fresh input (CopyLoses s c m live cause is some) e = refl
making_draws n fresh input (TargetLost s c id cause x other k) e = absurd cc
making_draws n fresh input (CopyFrees s c by copies is over none) e = refl
making_draws n fresh input (CopySwaps s c by copies is o targets over some) e = absurd cc

-- ---- mirrors that are shut

module _ (n : ℕ) (fresh : Fresh) (input : FileInput) (Sh : MirrorId → Type 0) (journal : List Entry) where
  -- whoever belongs to this uid then is shut
  abbrev pub IsShutOf : ℕ → Type 0
  IsShutOf u = (id : MirrorId) → owner_of journal id ≡ u → Sh id

  abbrev pub Given : Activity → FileStep → Type 0
  Given Idle x = Unit {0}
  Given (Makes all) x = AllByRecursion Sh (ids_of x.file.layout.live)
  Given (Fences fence) x = IsShutOf fence.cred
  Given (Settles stage) x = Unit {0}
  Given (Copies c) x = Unit {0}

  abbrev ShutThen : FileStep → Type 0
  ShutThen x = is_shut_phase x.file.layout.phase ≡ true → AllByRecursion Sh (ids_of x.file.layout.live)

  same_given : (a : Activity) (x : FileStep) → Given a x → Given a x
  same_given a x g = g

  exact_all : (u : ℕ) (front : List Entry) → IsShutOf u → ((id : MirrorId) → owner_of front id ≡ owner_of journal id) → (ids : List MirrorId) → AllByRecursion (λ m. (content_of front m).owner ≡ u) ids → AllByRecursion Sh ids
  exact_all u front of alike ids h = all_more (λ m. (content_of front m).owner ≡ u) Sh ids (λ m k. of m (sym (alike m) ∙ k)) h

  pub shut_kind : {s : LayoutState} {a : Activity} {x : FileStep} → StepKind n fresh input s a x → (is_grant x.entries ≡ false → is_shut_phase s.phase ≡ true → AllByRecursion Sh (ids_of s.live)) → Given a x
      → (front : List Entry) → ((id : MirrorId) → owner_of front id ≡ owner_of journal id) → AreRight front x.entries → ShutThen x
  shut_kind (Rests s a) h g front alike right = h refl
  shut_kind (Learnt s y Idle x e k) h g front alike right = shut_kind k (λ b p. subst (AllByRecursion Sh) (sym e.ids) (h b (sym (ap is_shut_phase e.phase) ∙ p))) tt front alike right
  shut_kind (Learnt s y (Makes all) x e k) h g front alike right = shut_kind k (λ b p. subst (AllByRecursion Sh) (sym e.ids) (h b (sym (ap is_shut_phase e.phase) ∙ p))) g front alike right
  shut_kind (Learnt s y (Fences fence) x e k) h g front alike right = shut_kind k (λ b p. subst (AllByRecursion Sh) (sym e.ids) (h b (sym (ap is_shut_phase e.phase) ∙ p))) g front alike right
  shut_kind (Learnt s y (Settles stage) x e k) h g front alike right = shut_kind k (λ b p. subst (AllByRecursion Sh) (sym e.ids) (h b (sym (ap is_shut_phase e.phase) ∙ p))) tt front alike right
  shut_kind (Learnt s y (Copies c) x e k) h g front alike right = shut_kind k (λ b p. subst (AllByRecursion Sh) (sym e.ids) (h b (sym (ap is_shut_phase e.phase) ∙ p))) tt front alike right
  shut_kind (Recalled s holder is_recalled is) h g front alike right = λ p. absurd cc
  shut_kind (Grants s holder writes is taken) h g front alike right = λ p. absurd cc
  shut_kind (Ends s holder is_recalled left cause live end is leaving of kept) h g front alike right = λ p. absurd cc
  shut_kind (Resilvers s is) h g front alike right = λ p. h refl (ap is_shut_phase is)
  shut_kind (MakingTurns s all next x same k) h g front alike right = shut_kind k h g front alike right
  shut_kind (MakingDone s all is) h g front alike right = λ p. g
  shut_kind (FenceTurns s fence next x same k) h g front alike right = shut_kind k h (λ id e. g id (e ∙ same)) front alike right
  shut_kind (FenceLoses s fence id cause x some k) h g front alike right =
      shut_kind k (λ b p. but_for_all Sh id s.live (h refl (shut_without s.phase (is_source id s.live) p))) g (front ++ entry.Left (file_id n) id cause ∷ []) (λ m. left_same front n id m cause ∙ alike m) right.1
  shut_kind (FenceDone s fence next end is same done) h g front alike right =
      λ p. exact_all fence.cred front g alike (ids_of s.live) (all_more (λ m. (content_of front m).owner ≡ next.0) (λ m. (content_of front m).owner ≡ fence.cred) (ids_of s.live) (λ m k. k ∙ same) right.0.1)
  shut_kind (SettleTurns s stage next x outs k) h g front alike right = shut_kind k h tt front alike right
  shut_kind (SettleLoses s stage m live cause is some) h g front alike right = λ p. but_for_all Sh m.id s.live (h refl (shut_without s.phase (is_source m.id s.live) p))
  shut_kind (SettleFrees s stage copies is none by) h g front alike right = λ p. h refl (ap is_shut_phase is)
  shut_kind (CopyBegins s stage copies is some by) h g front alike right = λ p. h refl (ap is_shut_phase is)
  shut_kind (CopyTurns s c x k shown) h g front alike right = shut_kind k h tt front alike right
  shut_kind (CopyLoses s c m live cause is some) h g front alike right = λ p. but_for_all Sh m.id s.live (h refl (shut_without s.phase (is_source m.id s.live) p))
  shut_kind (TargetLost s c id cause x other k) h g front alike right =
      shut_kind k (λ b p. but_for_all Sh id s.live (h refl (shut_without s.phase (is_source id s.live) p))) tt (front ++ entry.Left (file_id n) id cause ∷ []) (λ m. left_same front n id m cause ∙ alike m) right.1
  shut_kind (CopyFrees s c by copies is over none) h g front alike right = λ p. h refl (ap is_shut_phase is)
  shut_kind (CopySwaps s c by copies is o targets over some) h g front alike right = λ p. absurd cc

-- ---- the source

abbrev pub first_bytes_of : List Entry → List MirrorId → List ℕ
first_bytes_of journal [] = []
first_bytes_of journal (id ∷ ids) = shown_of (content_of journal id).content

module _ (n : ℕ) (fresh : Fresh) (input : FileInput) (t : Story) (uid : ℕ) (packets : List PacketValue) (last : ℕ) (journal : List Entry) (heard : IsHeard packets input) where
  abbrev Busy : LayoutState → Activity → Type 0
  Busy s a = IsBusySo t uid packets last journal n s a

  waits_so : (ids : List MirrorId) → SettlesSo packets last journal Waits ids
  waits_so [] = tt
  waits_so (id ∷ ids) = λ xid e. absurd cc

  turned_stage : (stage next : CallStage) → ((xid : ℕ) → is_out xid next ≡ true → is_out xid stage ≡ true) → (ids : List MirrorId) → SettlesSo packets last journal stage ids → SettlesSo packets last journal next ids
  turned_stage stage next outs [] h = tt
  turned_stage stage next outs (id ∷ ids) h = λ xid e. h xid (outs xid e)

  alike_busy : (s y : LayoutState) (a : Activity) → IsAlike s y → Busy s a → Busy y a
  alike_busy s y Idle e h = tt
  alike_busy s y (Makes all) e h = λ u mine. h u mine ∙ ap (λ (c : Cred). c.0) (sym e.cred)
  alike_busy s y (Fences fence) e h = tt
  alike_busy s y (Settles stage) e h = subst (SettlesSo packets last journal stage) (sym e.ids) h
  alike_busy s y (Copies c) e h = subst (CopiesSo t packets last journal c) (sym e.ids) h

  pub turned_copy : (c : CopyState) (ids : List MirrorId) → CopiesSo t packets last journal c ids → CopiesSo t packets last journal (copy_turned input c).copy ids
  turned_copy c [] h = h
  turned_copy c (id ∷ ids) h = copy_turn t packets last journal id c h input heard

  -- a mirror leaves that is not the first
  pub left_copy : (c : CopyState) (gone : MirrorId) (live : List Mirror) → is_source gone live ≡ false → CopiesSo t packets last journal c (ids_of live) → CopiesSo t packets last journal c (ids_of (but_for gone live))
  left_copy c gone [] other h = h
  left_copy c gone (m ∷ live) other h = subst (λ (b : Bool). CopiesSo t packets last journal c (ids_of (cond (not b) (m ∷ but_for gone live) (but_for gone live)))) (sym other) h

  -- a copy begins of what the COMMIT left stable
  begun_so : (stage : CallStage) (c : CopyState) (ids : List MirrorId) → IsSettledBy input stage → SettlesSo packets last journal stage ids → (id : MirrorId) (rest : List MirrorId) → ids ≡ id ∷ rest
      → (bytes : List ℕ) × IsWhole bytes (content_of journal id).content
  begun_so stage c ids by h id rest is =
      let out = subst (SettlesSo packets last journal stage) is h by.xid by.out in
      reply_so packets last by.xid id.server (Commit id.fileid) (IsCommitReply journal id) (Committed by.shown by.verifier) out (subst (IsHeard packets) by.answers heard)

  not_first : (live : List Mirror) (id : MirrorId) (rest : List MirrorId) (replaced : Option MirrorId) → ids_of live ≡ id ∷ rest → IsNotSource live replaced → IsNotFirst id replaced
  not_first live id rest None is h = tt
  not_first [] id rest (Some old) is h = absurd cc
  not_first (m ∷ live) id rest (Some old) is h = let same : m.id ≡ id = cc in subst (λ (k : MirrorId). is_mirror k old ≡ false) same h

  source_first : (live : List Mirror) (id : MirrorId) (rest : List MirrorId) → ids_of live ≡ id ∷ rest → source_of live ≡ id
  source_first [] id rest is = absurd cc
  source_first (m ∷ live) id rest is = cc

abbrev pub IsSome : List MirrorId → Type 0
IsSome [] = ⊥
IsSome (id ∷ ids) = Unit {0}

module _ (n : ℕ) (names servers : ℕ) (input : FileInput) (t : Story) (uid more : ℕ) (packets : List PacketValue) (last : ℕ) (was journal : List Entry) (heard : IsHeard packets input) where
  abbrev its_fresh : Fresh
  its_fresh = record { uid = uid; name = names; servers = servers }

  abbrev BusyThen : LayoutState → Activity → Type 0
  BusyThen s a = IsBusySo t more packets last journal n s a

  -- what is known of a file that settles
  abbrev pub HasFirst : LayoutState → Activity → Type 0
  HasFirst s Idle = Unit {0}
  HasFirst s (Makes all) = Unit {0}
  HasFirst s (Fences fence) = Unit {0}
  HasFirst s (Settles stage) = IsSome (ids_of s.live) × (bytes_of was (file_id n) ≡ first_bytes_of journal (ids_of s.live))
  HasFirst s (Copies c) = Unit {0}

  abbrev pub NotSources : List Mirror → Activity → Type 0
  NotSources live Idle = Unit {0}
  NotSources live (Makes all) = Unit {0}
  NotSources live (Fences fence) = Unit {0}
  NotSources live (Settles stage) = Unit {0}
  NotSources live (Copies c) = AllByRecursion (λ (z : CopyTarget). IsNotSource live z.replaced) c.targets

  alike_first : (s y : LayoutState) (a : Activity) → IsAlike s y → HasFirst s a → HasFirst y a
  alike_first s y Idle e h = tt
  alike_first s y (Makes all) e h = tt
  alike_first s y (Fences fence) e h = tt
  alike_first s y (Settles stage) e h = subst (λ (ids : List MirrorId). IsSome ids × (bytes_of was (file_id n) ≡ first_bytes_of journal ids)) (sym e.ids) h
  alike_first s y (Copies c) e h = tt

  begins : (stage : CallStage) (s : LayoutState) (plan : List Target) → IsSettledBy input stage → SettlesSo packets last journal stage (ids_of s.live) → HasFirst s (Settles stage) → t.copied uid ≡ Some (bytes_of was (file_id n))
      → AllByRecursion (λ (z : CopyTarget). IsNotSource s.live z.replaced) (new_copy (source_of s.live) plan uid).targets → CopiesSo t packets last journal (new_copy (source_of s.live) plan uid) (ids_of s.live)
  begins stage s plan by h first copied other = by_ids (ids_of s.live) refl
    where
      by_ids : (ids : List MirrorId) → ids_of s.live ≡ ids → CopiesSo t packets last journal (new_copy (source_of s.live) plan uid) ids
      by_ids [] is = subst IsSome is first.0
      by_ids (id ∷ rest) is =
          let k = begun_so n its_fresh input t more packets last journal heard stage (new_copy (source_of s.live) plan uid) (ids_of s.live) by h id rest is in
          let shown : bytes_of was (file_id n) ≡ k.0 = first.1 ∙ ap (first_bytes_of journal) is ∙ whole_shown k.0 (content_of journal id).content k.1 in
          record {
            from = source_first n its_fresh input t more packets last journal heard s.live id rest is;
            bytes = k.0;
            copy = copied ∙ ap Some shown;
            whole = k.1;
            slice = slice_none k.0 0 (omega arith);
            over = λ wrong. absurd cc;
            reads = λ xid wrong. absurd cc;
            replaced = all_more (λ (z : CopyTarget). IsNotSource s.live z.replaced) (λ (z : CopyTarget). IsNotFirst id z.replaced) (new_copy (source_of s.live) plan uid).targets (λ z q. not_first n its_fresh input t more packets last journal heard s.live id rest z.replaced is q) other;
          }

  waits_then : (ids : List MirrorId) → SettlesSo packets last journal Waits ids
  waits_then ids = waits_so n its_fresh input t more packets last journal heard ids

  pub busy_kind : {s : LayoutState} {a : Activity} {x : FileStep} → StepKind n its_fresh input s a x → BusyThen s a → HasFirst s a → (x.uids ≡ 1 → t.copied uid ≡ begun_copy was n x.file.activity) → NotSources x.file.layout.live x.file.activity
      → BusyThen x.file.layout x.file.activity
  busy_kind (Rests s a) h first copied other = h
  busy_kind (Learnt s y a x e k) h first copied other = busy_kind k (alike_busy n its_fresh input t more packets last journal heard s y a e h) (alike_first s y a e first) copied other
  busy_kind (Recalled s holder is_recalled is) h first copied other = tt
  busy_kind (Grants s holder writes is taken) h first copied other = tt
  busy_kind (Ends s holder is_recalled left cause live end is leaving of kept) h first copied other = tt
  busy_kind (Resilvers s is) h first copied other = waits_then (ids_of s.live)
  busy_kind (MakingTurns s all next x same k) h first copied other = busy_kind k h first copied other
  busy_kind (MakingDone s all is) h first copied other = tt
  busy_kind (FenceTurns s fence next x same k) h first copied other = busy_kind k tt tt copied other
  busy_kind (FenceLoses s fence id cause x some k) h first copied other = busy_kind k tt tt copied other
  busy_kind (FenceDone s fence next Clean is same done) h first copied other = tt
  busy_kind (FenceDone s fence next Dirty is same done) h first copied other = waits_then (ids_of s.live)
  busy_kind (FenceDone s fence next Copied is same done) h first copied other = tt
  busy_kind (SettleTurns s stage next x outs k) h first copied other = busy_kind k (turned_stage n its_fresh input t more packets last journal heard stage next outs (ids_of s.live) h) first copied other
  busy_kind (SettleLoses s stage m live cause is some) h first copied other = waits_then (ids_of (but_for m.id s.live))
  busy_kind (SettleFrees s stage copies is none by) h first copied other = tt
  busy_kind (CopyBegins s stage copies is some by) h first copied other = begins stage s (plan_of copies s its_fresh) by h first (copied refl) other
  busy_kind (CopyTurns s c x k shown) h first copied other = busy_kind k (turned_copy n its_fresh input t more packets last journal heard c (ids_of s.live) h) tt copied other
  busy_kind (CopyLoses s c m live cause is some) h first copied other = waits_then (ids_of (but_for m.id s.live))
  busy_kind (TargetLost s c id cause x not_source k) h first copied other = busy_kind k (left_copy n its_fresh input t more packets last journal heard c id s.live not_source h) tt copied other
  busy_kind (CopyFrees s c by copies is over none) h first copied other = tt
  busy_kind (CopySwaps s c by copies is o targets over some) h first copied other = tt
