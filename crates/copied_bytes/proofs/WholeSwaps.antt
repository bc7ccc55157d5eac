-- At each swap of a copy the first live mirror and the one that comes in have the same bytes, all stable (RFC 8435, section 8.3).
use Rattle.std.proofs.Common.{map, ◌<◌, ◌≡◌, ℕ, ◌+◌, Bool, true, false, cond, not, List, [], ◌∷◌, ◌++◌, filter, length, Option, Some, None, refl, sym, ap, subst, ◌∙◌}
use Rattle.std.specs.List.{AllByRecursion, flat_map, list_all}
use Rattle.std.specs.Prelude.{◌&&◌, ◌||◌}
use Rattle.std.proofs.lemmas.Bool.{and_parts}
use Rattle.std.proofs.lemmas.Option.{same_Some}
use Rattle.cluster_model.specs.declared.call_stage.CallStage.{CallStage}
use Rattle.cluster_model.specs.declared.call_stage.CallStage.TheVariants.{Waits, Out, KeptOut, KeptBack, Done, GivenUp}
use Rattle.cluster_model.specs.Fences.{is_over}
use Rattle.machine_walk.proofs.Writers.{same_copier}
use Rattle.cluster_model.specs.declared.ids.MirrorId.{MirrorId}
use Rattle.cluster_model.specs.declared.ids.Mirror.{Mirror}
use Rattle.cluster_model.specs.declared.phase.LeftCause.{LeftCause}
use Rattle.cluster_model.specs.declared.entry.Entry.{Entry}
use Rattle.cluster_model.specs.declared.entry.Entry.TheVariants as entry
use Rattle.cluster_model.specs.declared.ids.FileId.{FileId}
use Rattle.cluster_model.specs.declared.ids.Cred.{Cred}
use Rattle.cluster_model.specs.declared.layout_state.LayoutState.{LayoutState}
use Rattle.cluster_model.specs.declared.layout_state.FenceEnd.{FenceEnd}
use Rattle.cluster_model.specs.declared.layout_state.FenceEnd.TheVariants.{Clean, Dirty, Copied}
use Rattle.cluster_model.specs.declared.targets.SwappedIn.{SwappedIn}
use Rattle.cluster_model.specs.Journal.{copy_after, Copy, is_mirror, content_of}
use Rattle.cluster_model.specs.File.{FileOp, Writes, Commits, Sets, Restarts}
use Rattle.cluster_model.specs.Server.{ServerState, Effect, NoEffect, OnFile, NewFile, applied_entries, committed_entries, owner_entries, op_entries, entries_of}
use Rattle.cluster_model.specs.Phases.{is_source, ids_of, but_for, free_entries, swapped_entries}
use Rattle.copy_rule.specs.Copies.{CopyState, swap_of, swaps_of, is_given_up, is_none_left, have_answered, has_outcome}
use Rattle.copy_rule.specs.declared.copy_target.CopyTarget.{CopyTarget}
use Rattle.file_rule.specs.MdsFiles.{Activity, Idle, Makes, Fences, Settles, Copies, FileStep}
use Rattle.file_rule.specs.declared.fresh.Fresh.{Fresh}
use Rattle.file_rule.specs.FilePhases.{FileInput}
use Rattle.cluster_laws.specs.Machine.{PacketValue, file_id}
use Rattle.cluster_laws.specs.FenceLaw.{live_in, changed_live, swapped_in}
use Rattle.cluster_laws.proofs.Lists.{all_append, all_more, all_any}
use Rattle.cluster_laws.proofs.Lives.{own_file, ids_but_for}
use Rattle.machine_walk.proofs.MoveCases.{IsHeard}
use Rattle.machine_walk.proofs.Placed.{each_anywhere}
use Rattle.copied_bytes.proofs.SwapKinds.{first_stays, live_then, same_behind}
use Rattle.machine_walk.proofs.Stories.{Story, AreEach}
use Rattle.machine_walk.proofs.StepKinds.{copy_turned, IsAlike, IsLeaving, OneLeft, OneTold, IsTakenWith, NoWrite, OneWrite, StepKind, Rests, Learnt, Recalled, Grants, Ends, Resilvers, MakingTurns, MakingDone, FenceTurns, FenceLoses, FenceDone, SettleTurns, SettleLoses, SettleFrees, CopyBegins, CopyTurns, CopyLoses, TargetLost, CopyFrees, CopySwaps}
use Rattle.copied_bytes.proofs.Wholes.{IsWhole}
use Rattle.copied_bytes.proofs.Sources.{IsNotFirst, CopiesSo}
use Rattle.copied_bytes.proofs.SourceKinds.{turned_copy, left_copy}
use Rattle.copied_bytes.proofs.Parts.{IsPut, put_whole}
use Rattle.copied_bytes.proofs.TargetTurns.{IsSiteOf, IsTargetKept, TargetsKept, reach, all_both, IsMadeThen, targets_turn, all_over_of}
use Rattle.copied_bytes.proofs.TargetFacts.{CopiesTargets}
use Rattle.machine_walk.proofs.Writers.{IsCopier}
use Rattle.copied_bytes.proofs.Sources.{owner_of}
use Rattle.cluster_laws.specs.Periods.{was_granted}
use Rattle.cluster_laws.proofs.PeriodFacts.{granted_in}
use Rattle.machine_walk.proofs.WriterFacts.{ungranted}
use Rattle.cluster_laws.proofs.Lives.{all_filter}

-- The first live mirror of a file has bytes that are all stable, and so has a mirror that comes in.

-- a mirror that a copy alone writes to has its bytes
pub record IsBrought (t : Story) (uid : ℕ) (bytes : List ℕ) (c : Copy) : Type 0 where
  pub whole : IsWhole bytes c.content
  pub copier : IsCopier t uid c.owner
  pub copy : t.copied c.owner ≡ Some bytes

-- a mirror that nobody who was granted may write to
abbrev pub IsNobodys : List Entry → MirrorId → Type 0
IsNobodys front id = was_granted front (owner_of front id) ≡ false

pub record HasBoth (t : Story) (uid : ℕ) (before : List Entry) (f : FileId) (new : MirrorId) : Type 0 where
  pub first : MirrorId
  pub rest : List MirrorId
  pub live : live_in before f ≡ Some (first ∷ rest)
  pub bytes : List ℕ
  pub whole : IsWhole bytes (content_of before first).content
  pub target : IsBrought t uid bytes (content_of before new)
  pub unused : AllByRecursion (IsNobodys before) (first ∷ rest)

abbrev pub IsSwapWhole : Story → ℕ → List Entry → Entry → Type 0
IsSwapWhole t uid before (entry.Swapped f old new) = HasBoth t uid before f new
IsSwapWhole t uid before _ = Unit {0}

-- an entry of no swap
pub record IsSwapless (e : Entry) : Type 0 where
  pub so : (t : Story) (uid : ℕ) (before : List Entry) → IsSwapWhole t uid before e

leaving_no_swap : (n : ℕ) (e : Entry) → IsLeaving n e → IsSwapless e
leaving_no_swap n e (OneLeft id cause) = record { so = λ u v before. tt }
leaving_no_swap n e (OneTold cred at bytes) = record { so = λ u v before. tt }

pub swapless_each : (t : Story) (uid : ℕ) (front entries : List Entry) → AllByRecursion IsSwapless entries → AreEach (IsSwapWhole t uid) front entries
swapless_each t uid front entries h = each_anywhere (IsSwapWhole t uid) front entries (all_more IsSwapless (λ e. (b : List Entry) → IsSwapWhole t uid b e) entries (λ e k. k.so t uid) h)

free_each : (t : Story) (uid : ℕ) (front : List Entry) (n : ℕ) (end : FenceEnd) (live : List Mirror) → AreEach (IsSwapWhole t uid) front (free_entries (file_id n) end live)
free_each t uid front n Clean live = (tt, tt)
free_each t uid front n Dirty live = tt
free_each t uid front n Copied live = (tt, tt)

taken_each : (t : Story) (uid : ℕ) (front : List Entry) (n : ℕ) (cred : Cred) (writes : List Entry) → IsTakenWith n cred writes → AreEach (IsSwapWhole t uid) front writes
taken_each t uid front n cred _ NoWrite = tt
taken_each t uid front n cred _ (OneWrite at bytes) = (tt, tt)

-- ---- the entries of data servers

applied_no_swap : (id : MirrorId) (uid at : ℕ) (bytes : List ℕ) → AllByRecursion IsSwapless (applied_entries id uid at bytes)
applied_no_swap id uid at [] = tt
applied_no_swap id uid at (b ∷ bytes) = (record { so = λ u v before. tt }, tt)

committed_no_swap : (id : MirrorId) (synced : Bool) → AllByRecursion IsSwapless (committed_entries id synced)
committed_no_swap id false = tt
committed_no_swap id true = (record { so = λ u v before. tt }, tt)

owner_no_swap : (id : MirrorId) (owner : Option ℕ) → AllByRecursion IsSwapless (owner_entries id owner)
owner_no_swap id None = tt
owner_no_swap id (Some uid) = (record { so = λ u v before. tt }, tt)

op_no_swap : (id : MirrorId) (uid : ℕ) (op : FileOp) → AllByRecursion IsSwapless (op_entries id uid op)
op_no_swap id uid (Writes at synced bytes) = all_append IsSwapless (applied_entries id uid at bytes) (committed_entries id synced) (applied_no_swap id uid at bytes) (committed_no_swap id synced)
op_no_swap id uid Commits = committed_no_swap id true
op_no_swap id uid (Sets changes) = owner_no_swap id changes.owner
op_no_swap id uid (Restarts pieces) = tt

pub server_swapless : (s : ServerState) (uid : ℕ) (effect : Effect) → AllByRecursion IsSwapless (entries_of s uid effect)
server_swapless s uid NoEffect = tt
server_swapless s uid (OnFile index op) = op_no_swap _ uid op
server_swapless s uid (NewFile name owner group mode) = (record { so = λ u v before. tt }, tt)

-- ---- swaps one behind the other

swaps_not : (P : Option MirrorId → Type 0) (targets : List CopyTarget) → AllByRecursion (λ (x : CopyTarget). P x.replaced) targets → AllByRecursion (λ (o : SwappedIn). P o.old) (flat_map (λ (x : CopyTarget). swap_of x x.made) targets)
swaps_not P [] h = tt
swaps_not P (x ∷ targets) h = all_append (λ (o : SwappedIn). P o.old) (swap_of x x.made) (flat_map (λ (y : CopyTarget). swap_of y y.made) targets) (one x.made) (swaps_not P targets h.1)
  where
    one : (made : Option Mirror) → AllByRecursion (λ (o : SwappedIn). P o.old) (swap_of x made)
    one None = tt
    one (Some m) = (h.0, tt)

all_swapped : (P : MirrorId → Type 0) (old : Option MirrorId) (new : MirrorId) (ids : List MirrorId) → AllByRecursion P ids → P new → AllByRecursion P (swapped_in old new ids)
all_swapped P None new ids h k = all_append P ids (new ∷ []) h (k, tt)
all_swapped P (Some old) new ids h k = each ids h
  where
    by_test : (b : Bool) (m : MirrorId) → P m → P (cond b new m)
    by_test true m q = k
    by_test false m q = q

    each : (all : List MirrorId) → AllByRecursion P all → AllByRecursion P (map (λ m. cond (is_mirror m old) new m) all)
    each [] q = tt
    each (m ∷ all) q = (by_test (is_mirror m old) m q.0, each all q.1)

module _ (n : ℕ) where
  still_nobodys : (front : List Entry) (e : Entry) → granted_in e ≡ None → (id : MirrorId) → ((c : Copy) → copy_after id c e ≡ c) → IsNobodys front id → IsNobodys (front ++ e ∷ []) id
  still_nobodys front e none id same h = subst (λ (c : Copy). was_granted (front ++ e ∷ []) c.owner ≡ false) (sym (same_behind n front e id same)) (ungranted (content_of front id).owner front (e ∷ []) (none, tt) h)

  swaps_each : (t : Story) (uid : ℕ) (targets : List SwappedIn) (front : List Entry) (first : MirrorId) (rest : List MirrorId) (bytes : List ℕ) → live_in front (file_id n) ≡ Some (first ∷ rest) → IsWhole bytes (content_of front first).content → AllByRecursion (λ (o : SwappedIn). IsNotFirst first o.old) targets → AllByRecursion (λ (o : SwappedIn). IsBrought t uid bytes (content_of front o.new.id)) targets → AllByRecursion (IsNobodys front) (first ∷ rest) → ((u : ℕ) → IsCopier t uid u → was_granted front u ≡ false)
      → AreEach (IsSwapWhole t uid) front (swapped_entries (file_id n) targets)
  swaps_each t uid [] front first rest bytes live whole not news unused copiers = tt
  swaps_each t uid (o ∷ targets) front first rest bytes live whole not news unused copiers =
      let e : Entry = entry.Swapped (file_id n) o.old o.new.id in
      let stays = first_stays o.old o.new.id first rest not.0 in
      let next : live_in (front ++ e ∷ []) (file_id n) ≡ Some (first ∷ stays.0) =
      live_then n front e ∙ ap (λ (b : Bool). cond b (changed_live (swapped_in o.old o.new.id) (live_in front (file_id n))) (live_in front (file_id n))) (own_file (file_id n))
      ∙ ap (changed_live (swapped_in o.old o.new.id)) live ∙ ap Some stays.1 in (
        record { first = first; rest = rest; live = live; bytes = bytes; whole = whole; target = news.0; unused = unused },
        swaps_each t uid targets (front ++ e ∷ []) first stays.0 bytes next (subst (λ (c : Copy). IsWhole bytes c.content) (sym (same_behind n front e first (λ c. refl))) whole) not.1
            (all_more (λ (k : SwappedIn). IsBrought t uid bytes (content_of front k.new.id)) (λ (k : SwappedIn). IsBrought t uid bytes (content_of (front ++ e ∷ []) k.new.id)) targets (λ k h. subst (λ (c : Copy). IsBrought t uid bytes c) (sym (same_behind n front e k.new.id (λ c. refl))) h) news.1)
            (subst (AllByRecursion (IsNobodys (front ++ e ∷ []))) stays.1 (all_swapped (IsNobodys (front ++ e ∷ [])) o.old o.new.id (first ∷ rest) (all_more (IsNobodys front) (IsNobodys (front ++ e ∷ [])) (first ∷ rest) (λ id q. still_nobodys front e refl id (λ c. refl) q) unused) (still_nobodys front e refl o.new.id (λ c. refl) (copiers (owner_of front o.new.id) news.0.copier))))
            (λ u q. ungranted u front (e ∷ []) (refl, tt) (copiers u q)),
      )

  module _ (fresh : Fresh) (input : FileInput) (t : Story) (uid names : ℕ) (packets : List PacketValue) (last : ℕ) (journal : List Entry) (heard : IsHeard packets input) (made : (bytes : List ℕ) (by : ℕ) → t.copied by ≡ Some bytes → IsMadeThen t uid names packets last journal n bytes input by)
      (bound : (id : MirrorId) → owner_of journal id < uid) where
    -- what is known of a file that copies
    abbrev pub CopiesAt : List Entry → LayoutState → Activity → Type 0
    CopiesAt front s Idle = Unit {0}
    CopiesAt front s (Makes all) = Unit {0}
    CopiesAt front s (Fences fence) = Unit {0}
    CopiesAt front s (Settles stage) = Unit {0}
    CopiesAt front s (Copies c) = CopiesSo t packets last journal c (ids_of s.live) × (live_in front (file_id n) ≡ Some (ids_of s.live)) × CopiesTargets t uid names packets last journal n c × AllByRecursion (IsNobodys front) (ids_of s.live) × ((u : ℕ) → IsCopier t uid u → was_granted front u ≡ false)

    pub alike_copies : (front : List Entry) (s y : LayoutState) (a : Activity) → IsAlike s y → CopiesAt front s a → CopiesAt front y a
    alike_copies front s y Idle e h = tt
    alike_copies front s y (Makes all) e h = tt
    alike_copies front s y (Fences fence) e h = tt
    alike_copies front s y (Settles stage) e h = tt
    alike_copies front s y (Copies c) e h = subst (λ (ids : List MirrorId). CopiesSo t packets last journal c ids × (live_in front (file_id n) ≡ Some ids) × CopiesTargets t uid names packets last journal n c × AllByRecursion (IsNobodys front) ids × ((u : ℕ) → IsCopier t uid u → was_granted front u ≡ false)) (sym e.ids) h

    none_made : (m : Mirror) → None ≡ Some m → ⊥
    none_made m e = cc

    same_copy : (a b : List ℕ) (o : Option (List ℕ)) → o ≡ Some a → o ≡ Some b → b ≡ a
    same_copy a b o e f = same_Some b a (sym f ∙ e)

    -- each target that is left holds all
    made_whole : (c : CopyState) (bytes : List ℕ) → has_outcome c ≡ true → (c.ended ≡ true → c.at + length c.piece ≡ length bytes) → (x : CopyTarget) → (is_none_left c ≡ true → is_given_up x.stage ≡ true) → (have_answered c ≡ true → is_over x.stage ≡ true)
        → IsTargetKept (IsSiteOf t names n c.copier) packets last journal c.copier bytes c.at c.piece x → (m : Mirror) → x.made ≡ Some m → IsWhole bytes (content_of journal m.id).content
    made_whole c bytes over end x none all h m is = by_outcome (is_none_left c) refl over
      where
        by_stage : (stage : CallStage) → is_over stage ≡ true → (is_given_up stage ≡ true → x.made ≡ None) → c.at + length c.piece ≡ length bytes → IsPut bytes (reach stage c.at c.piece) (content_of journal m.id).content → IsWhole bytes (content_of journal m.id).content
        by_stage Waits e lost full k = absurd cc
        by_stage (Out xid timeouts) e lost full k = absurd cc
        by_stage (KeptOut xid) e lost full k = absurd cc
        by_stage KeptBack e lost full k = absurd cc
        by_stage Done e lost full k = put_whole bytes (content_of journal m.id).content (subst (λ (u : ℕ). IsPut bytes u (content_of journal m.id).content) full k)
        by_stage GivenUp e lost full k = absurd (none_made m (sym (lost refl) ∙ is))

        by_outcome : (b : Bool) → is_none_left c ≡ b → (b || (c.ended && have_answered c)) ≡ true → IsWhole bytes (content_of journal m.id).content
        by_outcome true e o = absurd (none_made m (sym (h.lost (none e)) ∙ is))
        by_outcome false e o = let parts = and_parts c.ended (have_answered c) o in by_stage x.stage (all parts.1) (λ g. h.lost g) (end parts.0) (h.holds m is)

    all_given : (targets : List CopyTarget) → list_all (λ (y : CopyTarget). is_given_up y.stage) targets ≡ true → AllByRecursion (λ (y : CopyTarget). is_given_up y.stage ≡ true) targets
    all_given [] h = tt
    all_given (x ∷ targets) h = let parts = and_parts (is_given_up x.stage) (list_all (λ (y : CopyTarget). is_given_up y.stage) targets) h in (parts.0, all_given targets parts.1)

    -- what holds of each where a test holds of all
    if_all : (P : CopyTarget → Type 0) (b : Bool) (targets : List CopyTarget) → (b ≡ true → AllByRecursion P targets) → AllByRecursion (λ x. b ≡ true → P x) targets
    if_all P true targets h = all_more P (λ x. true ≡ true → P x) targets (λ x k e. k) (h refl)
    if_all P false targets h = all_any (λ x. false ≡ true → P x) targets (λ x e. absurd (wrong e))
      where
        wrong : false ≡ true → ⊥
        wrong e = cc

    whole_swaps : (bytes : List ℕ) (targets : List CopyTarget) → AllByRecursion (λ (x : CopyTarget). (m : Mirror) → x.made ≡ Some m → IsBrought t uid bytes (content_of journal m.id)) targets
        → AllByRecursion (λ (o : SwappedIn). IsBrought t uid bytes (content_of journal o.new.id)) (flat_map (λ (x : CopyTarget). swap_of x x.made) targets)
    whole_swaps bytes [] h = tt
    whole_swaps bytes (x ∷ targets) h = all_append (λ (o : SwappedIn). IsBrought t uid bytes (content_of journal o.new.id)) (swap_of x x.made) (flat_map (λ (y : CopyTarget). swap_of y y.made) targets) (one x.made refl) (whole_swaps bytes targets h.1)
      where
        one : (made_ : Option Mirror) → x.made ≡ made_ → AllByRecursion (λ (o : SwappedIn). IsBrought t uid bytes (content_of journal o.new.id)) (swap_of x made_)
        one None is = tt
        one (Some m) is = (h.0 m is, tt)

    all_whole : (c : CopyState) (bytes : List ℕ) → has_outcome c ≡ true → (c.ended ≡ true → c.at + length c.piece ≡ length bytes) → t.copied c.copier ≡ Some bytes → TargetsKept t uid names packets last journal n bytes c
        → AllByRecursion (λ (x : CopyTarget). (m : Mirror) → x.made ≡ Some m → IsBrought t uid bytes (content_of journal m.id)) c.targets
    all_whole c bytes over end copy h =
        all_both (λ (x : CopyTarget). is_none_left c ≡ true → is_given_up x.stage ≡ true) _ (λ (x : CopyTarget). (m : Mirror) → x.made ≡ Some m → IsBrought t uid bytes (content_of journal m.id)) c.targets
        (λ x none k m is. record { whole = made_whole c bytes over end x none k.0 k.1 m is; copier = record { drawn = bound m.id; bytes = bytes; copy = ap t.copied (k.1.owner m is) ∙ copy }; copy = ap t.copied (k.1.owner m is) ∙ copy }) (if_all (λ y. is_given_up y.stage ≡ true) (is_none_left c) c.targets (all_given c.targets))
        (all_both (λ (x : CopyTarget). have_answered c ≡ true → is_over x.stage ≡ true) (IsTargetKept (IsSiteOf t names n c.copier) packets last journal c.copier bytes c.at c.piece) (λ (x : CopyTarget). (have_answered c ≡ true → is_over x.stage ≡ true) × IsTargetKept (IsSiteOf t names n c.copier) packets last journal c.copier bytes c.at c.piece x) c.targets
        (λ x a k. (a, k)) (if_all (λ y. is_over y.stage ≡ true) (have_answered c) c.targets (all_over_of c.targets)) h.each)

    swap_targets : (front : List Entry) (c : CopyState) (ids : List MirrorId) → CopiesSo t packets last journal c ids → CopiesTargets t uid names packets last journal n c → has_outcome c ≡ true → live_in front (file_id n) ≡ Some ids → ((id : MirrorId) → content_of front id ≡ content_of journal id) → (targets : List SwappedIn) → swaps_of c ≡ targets → AllByRecursion (IsNobodys front) ids → ((u : ℕ) → IsCopier t uid u → was_granted front u ≡ false)
        → AreEach (IsSwapWhole t uid) front (swapped_entries (file_id n) targets)
    swap_targets front c [] h k over live alike targets is unused copiers = absurd h
    swap_targets front c (id ∷ ids) h k over live alike targets is unused copiers =
        let same : k.bytes ≡ h.bytes = same_copy h.bytes k.bytes (t.copied c.copier) h.copy k.copy in
        let kept = subst (λ (b : List ℕ). TargetsKept t uid names packets last journal n b c) same k.kept in
        swaps_each t uid targets front id ids h.bytes live (subst (λ (y : Copy). IsWhole h.bytes y.content) (sym (alike id)) h.whole) (subst (AllByRecursion (λ (o : SwappedIn). IsNotFirst id o.old)) is (swaps_not (IsNotFirst id) c.targets h.replaced))
        (subst (AllByRecursion (λ (o : SwappedIn). IsBrought t uid h.bytes (content_of front o.new.id))) is
        (all_more (λ (o : SwappedIn). IsBrought t uid h.bytes (content_of journal o.new.id)) (λ (o : SwappedIn). IsBrought t uid h.bytes (content_of front o.new.id)) (swaps_of c) (λ o z. subst (λ (y : Copy). IsBrought t uid h.bytes y) (sym (alike o.new.id)) z) (whole_swaps h.bytes c.targets (all_whole c h.bytes over h.over h.copy kept)))) unused copiers

    pub turned_targets : (c : CopyState) → CopiesTargets t uid names packets last journal n c → CopiesTargets t uid names packets last journal n (copy_turned input c).copy
    turned_targets c k = record { bytes = k.bytes; copy = ap t.copied (same_copier input c) ∙ k.copy; kept = targets_turn t uid names packets last journal n k.bytes c k.kept input heard (made k.bytes c.copier k.copy) }

    pub left_alike : (front : List Entry) (gone : MirrorId) (cause : LeftCause) → ((id : MirrorId) → content_of front id ≡ content_of journal id) → (id : MirrorId) → content_of (front ++ entry.Left (file_id n) gone cause ∷ []) id ≡ content_of journal id
    left_alike front gone cause alike id = same_behind n front (entry.Left (file_id n) gone cause) id (λ c. refl) ∙ alike id

    left_live : (front : List Entry) (gone : MirrorId) (cause : LeftCause) (live : List Mirror) → live_in front (file_id n) ≡ Some (ids_of live) → live_in (front ++ entry.Left (file_id n) gone cause ∷ []) (file_id n) ≡ Some (ids_of (but_for gone live))
    left_live front gone cause live is =
        live_then n front (entry.Left (file_id n) gone cause) ∙ ap (λ (b : Bool). cond b (changed_live (filter (λ k. not (is_mirror k gone))) (live_in front (file_id n))) (live_in front (file_id n))) (own_file (file_id n))
        ∙ ap (changed_live (filter (λ k. not (is_mirror k gone)))) is ∙ ap Some (sym (ids_but_for gone live))

    left_nobodys : (front : List Entry) (gone : MirrorId) (cause : LeftCause) (live : List Mirror) → AllByRecursion (IsNobodys front) (ids_of live) → AllByRecursion (IsNobodys (front ++ entry.Left (file_id n) gone cause ∷ [])) (ids_of (but_for gone live))
    left_nobodys front gone cause live h =
        subst (AllByRecursion (IsNobodys (front ++ entry.Left (file_id n) gone cause ∷ []))) (sym (ids_but_for gone live))
        (all_filter (IsNobodys (front ++ entry.Left (file_id n) gone cause ∷ [])) (λ k. not (is_mirror k gone)) (ids_of live) (all_more (IsNobodys front) (IsNobodys (front ++ entry.Left (file_id n) gone cause ∷ [])) (ids_of live) (λ id q. still_nobodys front (entry.Left (file_id n) gone cause) refl id (λ c. refl) q) h))

    -- what comes in, and the source, have the same bytes
    pub swaps_brought : (c : CopyState) (id : MirrorId) (ids : List MirrorId) → (h : CopiesSo t packets last journal c (id ∷ ids)) → CopiesTargets t uid names packets last journal n c → has_outcome c ≡ true
        → AllByRecursion (λ (o : SwappedIn). IsBrought t uid h.bytes (content_of journal o.new.id)) (swaps_of c)
    swaps_brought c id ids h k over =
        let same : k.bytes ≡ h.bytes = same_copy h.bytes k.bytes (t.copied c.copier) h.copy k.copy in
        whole_swaps h.bytes c.targets (all_whole c h.bytes over h.over h.copy (subst (λ (b : List ℕ). TargetsKept t uid names packets last journal n b c) same k.kept))

    -- each of them belongs to the copy's uid
    pub swaps_owned : (c : CopyState) → CopiesTargets t uid names packets last journal n c → AllByRecursion (λ (o : SwappedIn). owner_of journal o.new.id ≡ c.copier) (swaps_of c)
    swaps_owned c k = by_targets c.targets k.kept.each
      where
        one : (x : CopyTarget) (made_ : Option Mirror) → x.made ≡ made_ → IsTargetKept (IsSiteOf t names n c.copier) packets last journal c.copier k.bytes c.at c.piece x → AllByRecursion (λ (o : SwappedIn). owner_of journal o.new.id ≡ c.copier) (swap_of x made_)
        one x None is h = tt
        one x (Some m) is h = (h.owner m is, tt)

        by_targets : (targets : List CopyTarget) → AllByRecursion (IsTargetKept (IsSiteOf t names n c.copier) packets last journal c.copier k.bytes c.at c.piece) targets
            → AllByRecursion (λ (o : SwappedIn). owner_of journal o.new.id ≡ c.copier) (flat_map (λ (x : CopyTarget). swap_of x x.made) targets)
        by_targets [] h = tt
        by_targets (x ∷ targets) h = all_append (λ (o : SwappedIn). owner_of journal o.new.id ≡ c.copier) (swap_of x x.made) (flat_map (λ (y : CopyTarget). swap_of y y.made) targets) (one x x.made refl h.0) (by_targets targets h.1)

    -- a copy goes on without a mirror that is not its source
    pub left_copies : (s : LayoutState) (c : CopyState) (front : List Entry) (id : MirrorId) (cause : LeftCause) (x : LayoutState) → is_source id s.live ≡ false → ids_of x.live ≡ ids_of (but_for id s.live) → CopiesAt front s (Copies c) → CopiesAt (front ++ entry.Left (file_id n) id cause ∷ []) x (Copies c)
    left_copies s c front id cause x other same h =
        subst (λ (ids : List MirrorId). CopiesSo t packets last journal c ids × (live_in (front ++ entry.Left (file_id n) id cause ∷ []) (file_id n) ≡ Some ids) × CopiesTargets t uid names packets last journal n c × AllByRecursion (IsNobodys (front ++ entry.Left (file_id n) id cause ∷ [])) ids × ((u : ℕ) → IsCopier t uid u → was_granted (front ++ entry.Left (file_id n) id cause ∷ []) u ≡ false)) (sym same)
        (left_copy n fresh input t uid packets last journal heard c id s.live other h.0, left_live front id cause s.live h.1, h.2, left_nobodys front id cause s.live h.3, λ u q. ungranted u front (entry.Left (file_id n) id cause ∷ []) (refl, tt) (h.4 u q))

    pub whole_kind : {s : LayoutState} {a : Activity} {x : FileStep} → StepKind n fresh input s a x → (front : List Entry) → ((id : MirrorId) → content_of front id ≡ content_of journal id) → CopiesAt front s a → AreEach (IsSwapWhole t uid) front x.entries
    whole_kind (Rests s a) front alike h = tt
    whole_kind (Learnt s y a x e k) front alike h = whole_kind k front alike (alike_copies front s y a e h)
    whole_kind (Recalled s holder is_recalled is) front alike h = tt
    whole_kind (Grants s holder writes is taken) front alike h = (tt, taken_each t uid _ n s.cred writes taken)
    whole_kind (Ends s holder is_recalled left cause live end is leaving of kept) front alike h = swapless_each t uid front _ (all_append IsSwapless left (entry.Ended (file_id n) s.cred cause ∷ []) (all_more (IsLeaving n) IsSwapless left (leaving_no_swap n) leaving) (record { so = λ u v before. tt }, tt))
    whole_kind (Resilvers s is) front alike h = tt
    whole_kind (MakingTurns s all next x same k) front alike h = whole_kind k front alike h
    whole_kind (MakingDone s all is) front alike h = (tt, tt)
    whole_kind (FenceTurns s fence next x same k) front alike h = whole_kind k front alike h
    whole_kind (FenceLoses s fence id cause x some k) front alike h = (tt, whole_kind k (front ++ entry.Left (file_id n) id cause ∷ []) (left_alike front id cause alike) h)
    whole_kind (FenceDone s fence next end is same done) front alike h = (tt, free_each t uid _ n end s.live)
    whole_kind (SettleTurns s stage next x outs k) front alike h = whole_kind k front alike h
    whole_kind (SettleLoses s stage m live cause is some) front alike h = (tt, tt)
    whole_kind (SettleFrees s stage copies is none by) front alike h = (tt, tt)
    whole_kind (CopyBegins s stage copies is some by) front alike h = tt
    whole_kind (CopyTurns s c x k shown) front alike h = whole_kind k front alike (turned_copy n fresh input t uid packets last journal heard c (ids_of s.live) h.0, h.1, turned_targets c h.2, h.3, h.4)
    whole_kind (CopyLoses s c m live cause is some) front alike h = (tt, tt)
    whole_kind (TargetLost s c id cause x other k) front alike h =
        (tt, whole_kind k (front ++ entry.Left (file_id n) id cause ∷ []) (left_alike front id cause alike) (left_copy n fresh input t uid packets last journal heard c id s.live other h.0, left_live front id cause s.live h.1, h.2, left_nobodys front id cause s.live h.3, λ u q. ungranted u front (entry.Left (file_id n) id cause ∷ []) (refl, tt) (h.4 u q)))
    whole_kind (CopyFrees s c by copies is over none) front alike h = (tt, tt)
    whole_kind (CopySwaps s c by copies is o targets over some) front alike h = swap_targets front c (ids_of s.live) h.0 h.2 over h.1 alike (o ∷ targets) some h.3 h.4
