-- At each swap of a copy the first live mirror has bytes that are all stable (RFC 8435, section 8.3).
use Rattle.std.proofs.Common.{◌≡◌, ℕ, Bool, true, false, cond, not, List, [], ◌∷◌, ◌++◌, filter, map, Option, Some, None, refl, sym, ap, subst, ◌∙◌}
use Rattle.std.specs.List.{AllByRecursion, flat_map}
use Rattle.cluster_model.specs.declared.ids.MirrorId.{MirrorId}
use Rattle.cluster_model.specs.declared.ids.Mirror.{Mirror}
use Rattle.cluster_model.specs.declared.phase.LeftCause.{LeftCause}
use Rattle.cluster_model.specs.declared.entry.Entry.{Entry}
use Rattle.cluster_model.specs.declared.entry.Entry.TheVariants as entry
use Rattle.cluster_model.specs.declared.ids.FileId.{FileId}
use Rattle.cluster_model.specs.declared.ids.Cred.{Cred}
use Rattle.cluster_model.specs.declared.layout_state.LayoutState.{LayoutState}
use Rattle.cluster_model.specs.declared.layout_state.FenceEnd.{FenceEnd}
use Rattle.cluster_model.specs.declared.layout_state.FenceEnd.TheVariants.{Clean, Dirty, Copied}
use Rattle.cluster_model.specs.declared.targets.SwappedIn.{SwappedIn}
use Rattle.cluster_model.specs.Journal.{Copy, no_copy, is_mirror, copy_after, content_of}
use Rattle.cluster_model.specs.File.{FileOp, Writes, Commits, Sets, Restarts}
use Rattle.cluster_model.specs.Server.{ServerState, Effect, NoEffect, OnFile, NewFile, applied_entries, committed_entries, owner_entries, op_entries, entries_of}
use Rattle.cluster_model.specs.Phases.{ids_of, but_for, free_entries, swapped_entries}
use Rattle.copy_rule.specs.Copies.{CopyState, swap_of, swaps_of}
use Rattle.copy_rule.specs.declared.copy_target.CopyTarget.{CopyTarget}
use Rattle.file_rule.specs.MdsFiles.{Activity, Idle, Makes, Fences, Settles, Copies, FileStep}
use Rattle.file_rule.specs.declared.fresh.Fresh.{Fresh}
use Rattle.file_rule.specs.FilePhases.{FileInput}
use Rattle.cluster_laws.specs.Machine.{PacketValue, file_id}
use Rattle.cluster_laws.specs.FenceLaw.{live_in, live_after, changed_live, swapped_in}
use Rattle.cluster_laws.proofs.Lists.{all_append, all_more}
use Rattle.cluster_laws.proofs.Lives.{own_file, ids_but_for}
use Rattle.cluster_laws.proofs.Journals.{live_append, copy_append}
use Rattle.machine_walk.proofs.MoveCases.{IsHeard}
use Rattle.machine_walk.proofs.Placed.{each_anywhere}
use Rattle.machine_walk.proofs.Stories.{Story, AreEach}
use Rattle.machine_walk.proofs.StepKinds.{IsAlike, IsLeaving, OneLeft, OneTold, IsTakenWith, NoWrite, OneWrite, StepKind, Rests, Learnt, Recalled, Grants, Ends, Resilvers, MakingTurns, MakingDone, FenceTurns, FenceLoses, FenceDone, SettleTurns, SettleLoses, SettleFrees, CopyBegins, CopyTurns, CopyLoses, TargetLost, CopyFrees, CopySwaps}
use Rattle.copied_bytes.proofs.Wholes.{IsWhole}
use Rattle.copied_bytes.proofs.Sources.{IsNotFirst, CopiesSo}
use Rattle.copied_bytes.proofs.SourceKinds.{turned_copy, left_copy}

-- the first live mirror of a file has bytes that are all stable
pub record HasSource (before : List Entry) (f : FileId) : Type 0 where
  pub first : MirrorId
  pub rest : List MirrorId
  pub live : live_in before f ≡ Some (first ∷ rest)
  pub bytes : List ℕ
  pub whole : IsWhole bytes (content_of before first).content

abbrev pub IsSwapSo : List Entry → Entry → Type 0
IsSwapSo before (entry.Swapped f old new) = HasSource before f
IsSwapSo before _ = Unit {0}

-- an entry of no swap
pub record IsNoSwap (e : Entry) : Type 0 where
  pub so : (before : List Entry) → IsSwapSo before e

leaving_no_swap : (n : ℕ) (e : Entry) → IsLeaving n e → IsNoSwap e
leaving_no_swap n e (OneLeft id cause) = record { so = λ before. tt }
leaving_no_swap n e (OneTold cred at bytes) = record { so = λ before. tt }

pub no_swaps_each : (front entries : List Entry) → AllByRecursion IsNoSwap entries → AreEach IsSwapSo front entries
no_swaps_each front entries h = each_anywhere IsSwapSo front entries (all_more IsNoSwap (λ e. (b : List Entry) → IsSwapSo b e) entries (λ e k. k.so) h)

free_each : (front : List Entry) (n : ℕ) (end : FenceEnd) (live : List Mirror) → AreEach IsSwapSo front (free_entries (file_id n) end live)
free_each front n Clean live = (tt, tt)
free_each front n Dirty live = tt
free_each front n Copied live = (tt, tt)

taken_each : (front : List Entry) (n : ℕ) (cred : Cred) (writes : List Entry) → IsTakenWith n cred writes → AreEach IsSwapSo front writes
taken_each front n cred _ NoWrite = tt
taken_each front n cred _ (OneWrite at bytes) = (tt, tt)

-- ---- the entries of data servers

applied_no_swap : (id : MirrorId) (uid at : ℕ) (bytes : List ℕ) → AllByRecursion IsNoSwap (applied_entries id uid at bytes)
applied_no_swap id uid at [] = tt
applied_no_swap id uid at (b ∷ bytes) = (record { so = λ before. tt }, tt)

committed_no_swap : (id : MirrorId) (synced : Bool) → AllByRecursion IsNoSwap (committed_entries id synced)
committed_no_swap id false = tt
committed_no_swap id true = (record { so = λ before. tt }, tt)

owner_no_swap : (id : MirrorId) (owner : Option ℕ) → AllByRecursion IsNoSwap (owner_entries id owner)
owner_no_swap id None = tt
owner_no_swap id (Some uid) = (record { so = λ before. tt }, tt)

op_no_swap : (id : MirrorId) (uid : ℕ) (op : FileOp) → AllByRecursion IsNoSwap (op_entries id uid op)
op_no_swap id uid (Writes at synced bytes) = all_append IsNoSwap (applied_entries id uid at bytes) (committed_entries id synced) (applied_no_swap id uid at bytes) (committed_no_swap id synced)
op_no_swap id uid Commits = committed_no_swap id true
op_no_swap id uid (Sets changes) = owner_no_swap id changes.owner
op_no_swap id uid (Restarts pieces) = tt

pub server_no_swap : (s : ServerState) (uid : ℕ) (effect : Effect) → AllByRecursion IsNoSwap (entries_of s uid effect)
server_no_swap s uid NoEffect = tt
server_no_swap s uid (OnFile index op) = op_no_swap _ uid op
server_no_swap s uid (NewFile name owner group mode) = (record { so = λ before. tt }, tt)

-- ---- swaps one behind the other

swaps_not : (P : Option MirrorId → Type 0) (targets : List CopyTarget) → AllByRecursion (λ (x : CopyTarget). P x.replaced) targets → AllByRecursion (λ (o : SwappedIn). P o.old) (flat_map (λ (x : CopyTarget). swap_of x x.made) targets)
swaps_not P [] h = tt
swaps_not P (x ∷ targets) h = all_append (λ (o : SwappedIn). P o.old) (swap_of x x.made) (flat_map (λ (y : CopyTarget). swap_of y y.made) targets) (one x.made) (swaps_not P targets h.1)
  where
    one : (made : Option Mirror) → AllByRecursion (λ (o : SwappedIn). P o.old) (swap_of x made)
    one None = tt
    one (Some m) = (h.0, tt)

-- the first one stays
pub first_stays : (old : Option MirrorId) (new first : MirrorId) (rest : List MirrorId) → IsNotFirst first old → (more : List MirrorId) × (swapped_in old new (first ∷ rest) ≡ first ∷ more)
first_stays None new first rest h = (rest ++ new ∷ [], refl)
first_stays (Some old) new first rest h = (map (λ m. cond (is_mirror m old) new m) rest, ap (λ (b : Bool). cond b new first ∷ map (λ m. cond (is_mirror m old) new m) rest) h)

module _ (n : ℕ) where
  pub live_then : (front : List Entry) (e : Entry) → live_in (front ++ e ∷ []) (file_id n) ≡ live_after (file_id n) (live_in front (file_id n)) e
  live_then front e = live_append (file_id n) None front (e ∷ [])

  pub same_behind : (front : List Entry) (e : Entry) (id : MirrorId) → ((c : Copy) → copy_after id c e ≡ c) → content_of (front ++ e ∷ []) id ≡ content_of front id
  same_behind front e id same = copy_append id no_copy front (e ∷ []) ∙ same (content_of front id)

  swaps_each : (targets : List SwappedIn) (front : List Entry) (first : MirrorId) (rest : List MirrorId) (bytes : List ℕ) → live_in front (file_id n) ≡ Some (first ∷ rest) → IsWhole bytes (content_of front first).content → AllByRecursion (λ (o : SwappedIn). IsNotFirst first o.old) targets
      → AreEach IsSwapSo front (swapped_entries (file_id n) targets)
  swaps_each [] front first rest bytes live whole not = tt
  swaps_each (o ∷ targets) front first rest bytes live whole not =
      let e : Entry = entry.Swapped (file_id n) o.old o.new.id in
      let stays = first_stays o.old o.new.id first rest not.0 in
      let next : live_in (front ++ e ∷ []) (file_id n) ≡ Some (first ∷ stays.0) =
      live_then front e ∙ ap (λ (b : Bool). cond b (changed_live (swapped_in o.old o.new.id) (live_in front (file_id n))) (live_in front (file_id n))) (own_file (file_id n))
      ∙ ap (changed_live (swapped_in o.old o.new.id)) live ∙ ap Some stays.1 in (
        record { first = first; rest = rest; live = live; bytes = bytes; whole = whole },
        swaps_each targets (front ++ e ∷ []) first stays.0 bytes next (subst (λ (c : Copy). IsWhole bytes c.content) (sym (same_behind front e first (λ c. refl))) whole) not.1,
      )

  module _ (fresh : Fresh) (input : FileInput) (t : Story) (uid : ℕ) (packets : List PacketValue) (last : ℕ) (journal : List Entry) (heard : IsHeard packets input) where
    -- what is known of a file that copies
    abbrev pub CopiesAt : List Entry → LayoutState → Activity → Type 0
    CopiesAt front s Idle = Unit {0}
    CopiesAt front s (Makes all) = Unit {0}
    CopiesAt front s (Fences fence) = Unit {0}
    CopiesAt front s (Settles stage) = Unit {0}
    CopiesAt front s (Copies c) = CopiesSo t packets last journal c (ids_of s.live) × (live_in front (file_id n) ≡ Some (ids_of s.live))

    alike_copies : (front : List Entry) (s y : LayoutState) (a : Activity) → IsAlike s y → CopiesAt front s a → CopiesAt front y a
    alike_copies front s y Idle e h = tt
    alike_copies front s y (Makes all) e h = tt
    alike_copies front s y (Fences fence) e h = tt
    alike_copies front s y (Settles stage) e h = tt
    alike_copies front s y (Copies c) e h = subst (λ (ids : List MirrorId). CopiesSo t packets last journal c ids × (live_in front (file_id n) ≡ Some ids)) (sym e.ids) h

    swap_targets : (front : List Entry) (c : CopyState) (ids : List MirrorId) → CopiesSo t packets last journal c ids → live_in front (file_id n) ≡ Some ids → ((id : MirrorId) → content_of front id ≡ content_of journal id) → (targets : List SwappedIn) → swaps_of c ≡ targets
        → AreEach IsSwapSo front (swapped_entries (file_id n) targets)
    swap_targets front c [] h live alike targets is = absurd h
    swap_targets front c (id ∷ ids) h live alike targets is =
        swaps_each targets front id ids h.bytes live (subst (λ (k : Copy). IsWhole h.bytes k.content) (sym (alike id)) h.whole) (subst (AllByRecursion (λ (o : SwappedIn). IsNotFirst id o.old)) is (swaps_not (IsNotFirst id) c.targets h.replaced))

    left_alike : (front : List Entry) (gone : MirrorId) (cause : LeftCause) → ((id : MirrorId) → content_of front id ≡ content_of journal id) → (id : MirrorId) → content_of (front ++ entry.Left (file_id n) gone cause ∷ []) id ≡ content_of journal id
    left_alike front gone cause alike id = same_behind front (entry.Left (file_id n) gone cause) id (λ c. refl) ∙ alike id

    left_live : (front : List Entry) (gone : MirrorId) (cause : LeftCause) (live : List Mirror) → live_in front (file_id n) ≡ Some (ids_of live) → live_in (front ++ entry.Left (file_id n) gone cause ∷ []) (file_id n) ≡ Some (ids_of (but_for gone live))
    left_live front gone cause live is =
        live_then front (entry.Left (file_id n) gone cause) ∙ ap (λ (b : Bool). cond b (changed_live (filter (λ k. not (is_mirror k gone))) (live_in front (file_id n))) (live_in front (file_id n))) (own_file (file_id n))
        ∙ ap (changed_live (filter (λ k. not (is_mirror k gone)))) is ∙ ap Some (sym (ids_but_for gone live))

    pub swap_kind : {s : LayoutState} {a : Activity} {x : FileStep} → StepKind n fresh input s a x → (front : List Entry) → ((id : MirrorId) → content_of front id ≡ content_of journal id) → CopiesAt front s a → AreEach IsSwapSo front x.entries
    swap_kind (Rests s a) front alike h = tt
    swap_kind (Learnt s y a x e k) front alike h = swap_kind k front alike (alike_copies front s y a e h)
    swap_kind (Recalled s holder is_recalled is) front alike h = tt
    swap_kind (Grants s holder writes is taken) front alike h = (tt, taken_each _ n s.cred writes taken)
    swap_kind (Ends s holder is_recalled left cause live end is leaving of kept) front alike h = no_swaps_each front _ (all_append IsNoSwap left (entry.Ended (file_id n) s.cred cause ∷ []) (all_more (IsLeaving n) IsNoSwap left (leaving_no_swap n) leaving) (record { so = λ before. tt }, tt))
    swap_kind (Resilvers s is) front alike h = tt
    swap_kind (MakingTurns s all next x same k) front alike h = swap_kind k front alike h
    swap_kind (MakingDone s all is) front alike h = (tt, tt)
    swap_kind (FenceTurns s fence next x same k) front alike h = swap_kind k front alike h
    swap_kind (FenceLoses s fence id cause x some k) front alike h = (tt, swap_kind k (front ++ entry.Left (file_id n) id cause ∷ []) (left_alike front id cause alike) h)
    swap_kind (FenceDone s fence next end is same done) front alike h = (tt, free_each _ n end s.live)
    swap_kind (SettleTurns s stage next x outs k) front alike h = swap_kind k front alike h
    swap_kind (SettleLoses s stage m live cause is some) front alike h = (tt, tt)
    swap_kind (SettleFrees s stage copies is none by) front alike h = (tt, tt)
    swap_kind (CopyBegins s stage copies is some by) front alike h = tt
    swap_kind (CopyTurns s c x k shown) front alike h = swap_kind k front alike (turned_copy n fresh input t uid packets last journal heard c (ids_of s.live) h.0, h.1)
    swap_kind (CopyLoses s c m live cause is some) front alike h = (tt, tt)
    swap_kind (TargetLost s c id cause x other k) front alike h =
        (tt, swap_kind k (front ++ entry.Left (file_id n) id cause ∷ []) (left_alike front id cause alike) (left_copy n fresh input t uid packets last journal heard c id s.live other h.0, left_live front id cause s.live h.1))
    swap_kind (CopyFrees s c by copies is over none) front alike h = (tt, tt)
    swap_kind (CopySwaps s c by copies is o targets over some) front alike h = swap_targets front c (ids_of s.live) h.0 h.1 alike (o ∷ targets) some
