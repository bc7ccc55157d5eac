-- The targets of a copy behind each kind of step.
use Rattle.std.proofs.Common.{◌≡◌, ℕ, ◌+◌, Bool, true, false, List, [], ◌∷◌, map, Some, None, refl, ap, ◌∙◌, arith}
use Rattle.std.specs.List.{AllByRecursion}
use Rattle.cluster_model.specs.declared.ids.MirrorId.{MirrorId}
use Rattle.cluster_model.specs.declared.ids.Mirror.{Mirror}
use Rattle.cluster_model.specs.declared.entry.Entry.{Entry}
use Rattle.cluster_model.specs.declared.layout_state.LayoutState.{LayoutState}
use Rattle.cluster_model.specs.declared.layout_state.FenceEnd.TheVariants.{Clean, Dirty, Copied}
use Rattle.copy_rule.specs.Copies.{CopyState, to_make, new_copy}
use Rattle.copy_rule.specs.declared.copy_target.CopyTarget.{CopyTarget}
use Rattle.copy_rule.specs.declared.copy_target.Target.{Target}
use Rattle.file_rule.specs.MdsFiles.{Activity, Idle, Makes, Fences, Settles, Copies, FileStep, plan_of, source_of}
use Rattle.file_rule.specs.declared.fresh.Fresh.{Fresh}
use Rattle.file_rule.specs.FilePhases.{FileInput}
use Rattle.cluster_laws.specs.Machine.{PacketValue, file_id}
use Rattle.cluster_laws.specs.Agreement.{bytes_of}
use Rattle.machine_walk.proofs.MoveCases.{IsHeard}
use Rattle.machine_walk.proofs.Stories.{Story, begun_copy}
use Rattle.machine_walk.proofs.StepKinds.{copy_turned, StepKind, Rests, Learnt, Recalled, Grants, Ends, Resilvers, MakingTurns, MakingDone, FenceTurns, FenceLoses, FenceDone, SettleTurns, SettleLoses, SettleFrees, CopyBegins, CopyTurns, CopyLoses, TargetLost, CopyFrees, CopySwaps}
use Rattle.machine_walk.proofs.Writers.{same_copier}
use Rattle.copied_bytes.proofs.TargetTurns.{IsSiteOf, IsTargetKept, IsMadeThen, targets_turn}
use Rattle.copied_bytes.proofs.TargetFacts.{KeepsTargets}

module _ (n names servers : ℕ) (input : FileInput) (t : Story) (uid more next_names : ℕ) (packets : List PacketValue) (last : ℕ) (was journal : List Entry) (heard : IsHeard packets input) where
  -- of a file that copies: what a CREATE that is answered leaves
  abbrev pub Mades : Activity → Type 0
  Mades Idle = Unit {0}
  Mades (Makes all) = Unit {0}
  Mades (Fences fence) = Unit {0}
  Mades (Settles stage) = Unit {0}
  Mades (Copies c) = (bytes : List ℕ) (by : ℕ) → t.copied by ≡ Some bytes → IsMadeThen t more next_names packets last journal n bytes input by

  abbrev its_fresh : Fresh
  its_fresh = record { uid = uid; name = names; servers = servers }

  abbrev Kept : Activity → Type 0
  Kept a = KeepsTargets t more next_names packets last journal n a

  abbrev pub AreSites : Activity → Type 0
  AreSites Idle = Unit {0}
  AreSites (Makes all) = Unit {0}
  AreSites (Fences fence) = Unit {0}
  AreSites (Settles stage) = Unit {0}
  AreSites (Copies c) = AllByRecursion (λ (z : CopyTarget). IsSiteOf t next_names n c.copier z.name) c.targets

  none_some : (m : Mirror) → None ≡ Some m → ⊥
  none_some m e = cc

  begun_each : (bytes : List ℕ) (plan : List Target) → AllByRecursion (λ (z : CopyTarget). IsSiteOf t next_names n uid z.name) (map to_make plan) → AllByRecursion (IsTargetKept (IsSiteOf t next_names n uid) packets last journal uid bytes 0 []) (map to_make plan)
  begun_each bytes [] h = tt
  begun_each bytes (x ∷ plan) h = (
    record {
      site = h.0;
      asks = λ xid o none. absurd cc;
      unmade = λ none up. (refl, refl);
      done = λ e. absurd cc;
      lost = λ e. absurd cc;
      holds = λ m e. absurd (none_some m e);
      owner = λ m e. absurd (none_some m e);
      outs = λ xid m o e. absurd (none_some m e);
    },
    begun_each bytes plan h.1,
  )

  begun : (source : MirrorId) (plan : List Target) → t.copied uid ≡ Some (bytes_of was (file_id n)) → more ≡ uid + 1 → AllByRecursion (λ (z : CopyTarget). IsSiteOf t next_names n uid z.name) (map to_make plan) → Kept (Copies (new_copy source plan uid))
  begun source plan copied count sites = record {
    bytes = bytes_of was (file_id n);
    copy = copied;
    kept = record {
      newest = λ u mine. let less = mine.drawn in omega (arith, less, count);
      all_over = λ xid e. absurd cc;
      empty = λ e. refl;
      each = begun_each (bytes_of was (file_id n)) plan sites;
    };
  }

  turned : (c : CopyState) → Mades (Copies c) → Kept (Copies c) → Kept (Copies (copy_turned input c).copy)
  turned c made k = record { bytes = k.bytes; copy = ap t.copied (same_copier input c) ∙ k.copy; kept = targets_turn t more next_names packets last journal n k.bytes c k.kept input heard (made k.bytes c.copier k.copy) }

  pub targets_kind : {s : LayoutState} {a : Activity} {x : FileStep} → StepKind n its_fresh input s a x → Mades a → Kept a → (x.uids ≡ 1 → t.copied uid ≡ begun_copy was n x.file.activity) → (x.uids ≡ 1 → more ≡ uid + 1) → AreSites x.file.activity → Kept x.file.activity
  targets_kind (Rests s a) made h copied count sites = h
  targets_kind (Learnt s y a x e k) made h copied count sites = targets_kind k made h copied count sites
  targets_kind (Recalled s holder is_recalled is) made h copied count sites = tt
  targets_kind (Grants s holder writes is taken) made h copied count sites = tt
  targets_kind (Ends s holder is_recalled left cause live end is leaving of kept) made h copied count sites = tt
  targets_kind (Resilvers s is) made h copied count sites = tt
  targets_kind (MakingTurns s all next x same k) made h copied count sites = targets_kind k tt tt copied count sites
  targets_kind (MakingDone s all is) made h copied count sites = tt
  targets_kind (FenceTurns s fence next x same k) made h copied count sites = targets_kind k tt tt copied count sites
  targets_kind (FenceLoses s fence id cause x some k) made h copied count sites = targets_kind k tt tt copied count sites
  targets_kind (FenceDone s fence next Clean is same done) made h copied count sites = tt
  targets_kind (FenceDone s fence next Dirty is same done) made h copied count sites = tt
  targets_kind (FenceDone s fence next Copied is same done) made h copied count sites = tt
  targets_kind (SettleTurns s stage next x outs k) made h copied count sites = targets_kind k tt tt copied count sites
  targets_kind (SettleLoses s stage m live cause is some) made h copied count sites = tt
  targets_kind (SettleFrees s stage copies is none by) made h copied count sites = tt
  targets_kind (CopyBegins s stage copies is some by) made h copied count sites = begun (source_of s.live) (plan_of copies s its_fresh) (copied refl) (count refl) sites
  targets_kind (CopyTurns s c x k shown) made h copied count sites = targets_kind k made (turned c made h) copied count sites
  targets_kind (CopyLoses s c m live cause is some) made h copied count sites = tt
  targets_kind (TargetLost s c id cause x other k) made h copied count sites = targets_kind k made h copied count sites
  targets_kind (CopyFrees s c by copies is over none) made h copied count sites = tt
  targets_kind (CopySwaps s c by copies is o targets over some) made h copied count sites = tt

-- a copy that draws a uid has ended
abbrev pub is_copies : Activity → Bool
is_copies Idle = false
is_copies (Makes all) = false
is_copies (Fences fence) = false
is_copies (Settles stage) = false
is_copies (Copies c) = true

pub copy_draws : (n : ℕ) (fresh : Fresh) (input : FileInput) {s : LayoutState} {a : Activity} {x : FileStep} → StepKind n fresh input s a x → is_copies a ≡ true → x.uids ≡ 1 → is_copies x.file.activity ≡ false
copy_draws n fresh input (Rests s a) e one = absurd (omega (arith, one))
copy_draws n fresh input (Learnt s y a x same k) e one = copy_draws n fresh input k e one
copy_draws n fresh input (Recalled s holder is_recalled is) e one = refl
copy_draws n fresh input (Grants s holder writes is taken) e one = refl
copy_draws n fresh input (Ends s holder is_recalled left cause live end is leaving of kept) e one = refl
copy_draws n fresh input (Resilvers s is) e one = refl
copy_draws n fresh input (MakingTurns s all next x same k) e one = absurd cc
copy_draws n fresh input (MakingDone s all is) e one = refl
copy_draws n fresh input (FenceTurns s fence next x same k) e one = absurd cc
copy_draws n fresh input (FenceLoses s fence id cause x some k) e one = absurd cc
copy_draws n fresh input (FenceDone s fence next Clean is same done) e one = refl
copy_draws n fresh input (FenceDone s fence next Dirty is same done) e one = refl
copy_draws n fresh input (FenceDone s fence next Copied is same done) e one = refl
copy_draws n fresh input (SettleTurns s stage next x outs k) e one = absurd cc
copy_draws n fresh input (SettleLoses s stage m live cause is some) e one = refl
copy_draws n fresh input (SettleFrees s stage copies is none by) e one = refl
copy_draws n fresh input (CopyBegins s stage copies is some by) e one = absurd cc
copy_draws n fresh input (CopyTurns s c x k shown) e one = copy_draws n fresh input k refl one
copy_draws n fresh input (CopyLoses s c m live cause is some) e one = refl
copy_draws n fresh input (TargetLost s c id cause x other k) e one = copy_draws n fresh input k refl one
copy_draws n fresh input (CopyFrees s c by copies is over none) e one = refl
copy_draws n fresh input (CopySwaps s c by copies is o targets over some) e one = refl
