-- A live mirror that belongs to a copy's uid has all bytes of the copy, from the swap on (RFC 8435, section 8.3).
use Rattle.std.proofs.Common.{◌≡◌, ℕ, ◌⊎◌, Bool, true, false, List, [], ◌∷◌, ◌++◌, Some, None, refl, sym, ap, subst, ◌∙◌, inl, inr}
use Rattle.std.specs.List.{AllByRecursion}
use Rattle.std.proofs.lemmas.Option.{same_Some}
use Rattle.cluster_model.specs.declared.ids.MirrorId.{MirrorId}
use Rattle.cluster_model.specs.declared.ids.Mirror.{Mirror}
use Rattle.cluster_model.specs.declared.phase.LeftCause.{LeftCause}
use Rattle.cluster_model.specs.declared.entry.Entry.{Entry}
use Rattle.cluster_model.specs.declared.entry.Entry.TheVariants as entry
use Rattle.cluster_model.specs.declared.layout_state.LayoutState.{LayoutState}
use Rattle.cluster_model.specs.declared.layout_state.LayoutPhase.{LayoutPhase}
use Rattle.cluster_model.specs.declared.layout_state.LayoutPhase.TheVariants.{Making, Free, Held, Fencing, Settling, Copying}
use Rattle.cluster_model.specs.declared.targets.SwappedIn.{SwappedIn}
use Rattle.cluster_model.specs.Journal.{Copy, content_of}
use Rattle.cluster_model.specs.Phases.{ids_of, unreported, is_source, phase_without, with_targets, swapped_entries}
use Rattle.file_rule.specs.MdsFiles.{Activity, FileStep}
use Rattle.file_rule.specs.declared.fresh.Fresh.{Fresh}
use Rattle.file_rule.specs.FilePhases.{FileInput}
use Rattle.cluster_laws.specs.Machine.{Machine, numbered_at, file_id}
use Rattle.cluster_laws.specs.FenceLaw.{live_in}
use Rattle.cluster_laws.proofs.Lives.{all_unreported, all_targets}
use Rattle.cluster_laws.proofs.Invariant.{live_of}
use Rattle.machine_walk.proofs.Stories.{Story, AreEach}
use Rattle.machine_walk.proofs.StepKinds.{StepKind, Rests, Learnt, Recalled, Grants, Ends, Resilvers, MakingTurns, MakingDone, FenceTurns, FenceLoses, FenceDone, SettleTurns, SettleLoses, SettleFrees, CopyBegins, CopyTurns, CopyLoses, TargetLost, CopyFrees, CopySwaps}
use Rattle.copied_bytes.proofs.Wholes.{IsWhole}
use Rattle.copied_bytes.proofs.Sources.{is_shut_phase}
use Rattle.copied_bytes.proofs.SourceKinds.{but_for_all}
use Rattle.copied_bytes.proofs.SwapKinds.{same_behind}
use Rattle.copied_bytes.proofs.WholeSwaps.{IsBrought, IsSwapWhole}

-- where it belongs to a copy's uid, it has the copy's bytes
abbrev pub IsWholeCopy : Story → Copy → Type 0
IsWholeCopy t c = (bytes : List ℕ) → t.copied c.owner ≡ Some bytes → IsWhole bytes c.content

pub record KnowsLive (t : Story) (m : Machine) (journal : List Entry) : Type 0 where
  pub copies : (n : ℕ) (ids : List MirrorId) → live_in journal (file_id n) ≡ Some ids → AllByRecursion (λ id. IsWholeCopy t (content_of journal id)) ids
  pub absent : (n : ℕ) → numbered_at m.files n ≡ None → live_in journal (file_id n) ≡ None

-- ---- phases with a live list

abbrev pub is_made : LayoutPhase → Bool
is_made Making = false
is_made _ = true

pub made_of : (p : LayoutPhase) (a b : List MirrorId) → live_of p a ≡ Some b → (is_made p ≡ true) × (a ≡ b)
made_of Making a b e = absurd cc
made_of Free a b e = (refl, same_Some a b e)
made_of (Held holder is_recalled) a b e = (refl, same_Some a b e)
made_of (Fencing next end) a b e = (refl, same_Some a b e)
made_of (Settling copies) a b e = (refl, same_Some a b e)
made_of (Copying copier copies) a b e = (refl, same_Some a b e)

pub live_made : (p : LayoutPhase) (a : List MirrorId) → is_made p ≡ true → live_of p a ≡ Some a
live_made Making a e = absurd cc
live_made Free a e = refl
live_made (Held holder is_recalled) a e = refl
live_made (Fencing next end) a e = refl
live_made (Settling copies) a e = refl
live_made (Copying copier copies) a e = refl

made_without : (p : LayoutPhase) (b : Bool) → is_made (phase_without p b) ≡ true → is_made p ≡ true
made_without Making b e = e
made_without Free b e = refl
made_without (Held holder is_recalled) b e = refl
made_without (Fencing next end) b e = refl
made_without (Settling copies) b e = refl
made_without (Copying copier copies) b e = refl

-- ---- mirrors and their ids

pub ids_to : (P : MirrorId → Type 0) (live : List Mirror) → AllByRecursion (λ m. P m.id) live → AllByRecursion P (ids_of live)
ids_to P [] h = tt
ids_to P (m ∷ live) h = (h.0, ids_to P live h.1)

pub ids_from : (P : MirrorId → Type 0) (live : List Mirror) → AllByRecursion P (ids_of live) → AllByRecursion (λ m. P m.id) live
ids_from P [] h = tt
ids_from P (m ∷ live) h = (h.0, ids_from P live h.1)

-- ---- steps

brought : (t : Story) (uid : ℕ) (bytes : List ℕ) (c : Copy) → IsBrought t uid bytes c → IsWholeCopy t c
brought t uid bytes c h = λ other copy. subst (λ (b : List ℕ). IsWhole b c.content) (same_Some bytes other (sym h.copy ∙ copy)) h.whole

module _ (n : ℕ) (fresh : Fresh) (input : FileInput) (t : Story) (uid : ℕ) (journal : List Entry) where
  abbrev P : MirrorId → Type 0
  P id = IsWholeCopy t (content_of journal id)

  swapped_copies : (front : List Entry) (targets : List SwappedIn) → ((id : MirrorId) → content_of front id ≡ content_of journal id) → AreEach (IsSwapWhole t uid) front (swapped_entries (file_id n) targets) → AllByRecursion (λ (o : SwappedIn). P o.new.id) targets
  swapped_copies front [] alike h = tt
  swapped_copies front (o ∷ targets) alike h = (
    subst (IsWholeCopy t) (alike o.new.id) (brought t uid h.0.bytes (content_of front o.new.id) h.0.target),
    swapped_copies (front ++ entry.Swapped (file_id n) o.old o.new.id ∷ []) targets (λ id. same_behind n front (entry.Swapped (file_id n) o.old o.new.id) id (λ c. refl) ∙ alike id) h.1,
  )

  left_alike : (front : List Entry) (gone : MirrorId) (cause : LeftCause) → ((id : MirrorId) → content_of front id ≡ content_of journal id) → (id : MirrorId) → content_of (front ++ entry.Left (file_id n) gone cause ∷ []) id ≡ content_of journal id
  left_alike front gone cause alike id = same_behind n front (entry.Left (file_id n) gone cause) id (λ c. refl) ∙ alike id

  less_live : (live : List Mirror) (all : List Mirror) → (live ≡ all) ⊎ ((places : List Bool) × (live ≡ unreported places all)) → AllByRecursion P (ids_of all) → AllByRecursion P (ids_of live)
  less_live live all (inl e) h = subst (λ (ms : List Mirror). AllByRecursion P (ids_of ms)) (sym e) h
  less_live live all (inr e) h = subst (λ (ms : List Mirror). AllByRecursion P (ids_of ms)) (sym e.1) (ids_to P (unreported e.0 all) (all_unreported (λ m. P m.id) e.0 all (ids_from P all h)))

  abbrev Then : FileStep → Type 0
  Then x = is_made x.file.layout.phase ≡ true → AllByRecursion P (ids_of x.file.layout.live) ⊎ (is_shut_phase x.file.layout.phase ≡ true)

  pub live_kind : {s : LayoutState} {a : Activity} {x : FileStep} → StepKind n fresh input s a x → (is_made s.phase ≡ true → AllByRecursion P (ids_of s.live)) → (front : List Entry) → ((id : MirrorId) → content_of front id ≡ content_of journal id) → AreEach (IsSwapWhole t uid) front x.entries → Then x
  live_kind (Rests s a) h front alike each = λ e. inl (h e)
  live_kind (Learnt s y a x same k) h front alike each = live_kind k (λ e. subst (AllByRecursion P) (sym same.ids) (h (sym (ap is_made same.phase) ∙ e))) front alike each
  live_kind (Recalled s holder is_recalled is) h front alike each = λ e. inl (h (ap is_made is))
  live_kind (Grants s holder writes is taken) h front alike each = λ e. inl (h (ap is_made is))
  live_kind (Ends s holder is_recalled left cause live end is leaving of kept) h front alike each = λ e. inl (less_live live s.live kept (h (ap is_made is)))
  live_kind (Resilvers s is) h front alike each = λ e. inl (h (ap is_made is))
  live_kind (MakingTurns s all next x same k) h front alike each = live_kind k h front alike each
  live_kind (MakingDone s all is) h front alike each = λ e. inr refl
  live_kind (FenceTurns s fence next x same k) h front alike each = live_kind k h front alike each
  live_kind (FenceLoses s fence id cause x some k) h front alike each =
      live_kind k (λ e. but_for_all P id s.live (h (made_without s.phase (is_source id s.live) e))) (front ++ entry.Left (file_id n) id cause ∷ []) (left_alike front id cause alike) each.1
  live_kind (FenceDone s fence next end is same done) h front alike each = λ e. inl (h (ap is_made is))
  live_kind (SettleTurns s stage next x outs k) h front alike each = live_kind k h front alike each
  live_kind (SettleLoses s stage m live cause is some) h front alike each = λ e. inl (but_for_all P m.id s.live (h (made_without s.phase (is_source m.id s.live) e)))
  live_kind (SettleFrees s stage copies is none by) h front alike each = λ e. inl (h (ap is_made is))
  live_kind (CopyBegins s stage copies is some by) h front alike each = λ e. inl (h (ap is_made is))
  live_kind (CopyTurns s c x k shown) h front alike each = live_kind k h front alike each
  live_kind (CopyLoses s c m live cause is some) h front alike each = λ e. inl (but_for_all P m.id s.live (h (made_without s.phase (is_source m.id s.live) e)))
  live_kind (TargetLost s c id cause x other k) h front alike each =
      live_kind k (λ e. but_for_all P id s.live (h (made_without s.phase (is_source id s.live) e))) (front ++ entry.Left (file_id n) id cause ∷ []) (left_alike front id cause alike) each.1
  live_kind (CopyFrees s c by copies is over none) h front alike each = λ e. inl (h (ap is_made is))
  live_kind (CopySwaps s c by copies is o targets over some) h front alike each =
      λ e. inl (ids_to P (with_targets (o ∷ targets) s.live) (all_targets (λ m. P m.id) (o ∷ targets) s.live (ids_from P s.live (h (ap is_made is))) (swapped_copies front (o ∷ targets) alike each)))
