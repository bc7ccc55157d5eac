-- The places to which a file's own calls go, and what is left of them behind each input of the table of phases.
use Rattle.std.proofs.Common.{◌≡◌, ℕ, Bool, true, false, List, [], ◌∷◌, length, Option, Some, None, refl, sym, ap, subst, ◌∙◌, inl, inr}
use Rattle.std.specs.Prelude.{◌==◌, ◌&&◌, ◌||◌, is_some, map, position, slice_get, slice_set, if◌then◌else◌}
use Rattle.std.specs.List.{list_any, list_all}
use Rattle.std.proofs.lemmas.Bool.{cond_both}
use Rattle.cluster_model.specs.declared.ids.FileId.{FileId}
use Rattle.cluster_model.specs.declared.ids.Cred.{Cred}
use Rattle.cluster_model.specs.declared.ids.Mirror.{Mirror}
use Rattle.cluster_model.specs.declared.ids.MirrorId.{MirrorId}
use Rattle.cluster_model.specs.declared.phase.LeftCause.{LeftCause}
use Rattle.cluster_model.specs.declared.phase.LeftCause.TheVariants.{Error}
use Rattle.cluster_model.specs.declared.call_stage.CallStage.{CallStage}
use Rattle.cluster_model.specs.declared.call_stage.CallStage.TheVariants.{Waits, Out, KeptOut, KeptBack, Done, GivenUp}
use Rattle.cluster_model.specs.declared.fence_mirror.FenceMirror.{FenceMirror}
use Rattle.cluster_model.specs.declared.fence_mirror.FenceStep.{FenceStep}
use Rattle.cluster_model.specs.declared.fence_mirror.FenceStep.TheVariants.{Stranger, Acked, Again, Failed as HasFailed}
use Rattle.cluster_model.specs.declared.layout_state.LayoutState.{LayoutState}
use Rattle.cluster_model.specs.declared.layout_state.LayoutPhase.{LayoutPhase}
use Rattle.cluster_model.specs.declared.layout_state.LayoutPhase.TheVariants.{Making, Free, Held, Fencing, Settling, Copying}
use Rattle.cluster_model.specs.declared.layout_state.CopyKind.{CopyKind}
use Rattle.cluster_model.specs.declared.targets.SwappedIn.{SwappedIn}
use Rattle.cluster_model.specs.DsCalls.{DsReplyValue, Created, Set, Written, Committed, Bytes, NotSync, Failed}
use Rattle.cluster_model.specs.Fences as fence
use Rattle.cluster_model.specs.Fences.{is_out, is_over, waits, stage_at_tick, FenceState, FenceAfter, MirrorStep, with_stage, is_done, to_fence}
use Rattle.cluster_model.specs.Journal.{is_mirror}
use Rattle.cluster_model.specs.Phases.{PhaseStep, is_last_live, is_source, phase_without, mirror_left, fence_done, has_targets, copied, freed, made, with_phase}
use Rattle.copy_rule.specs.declared.copy_target.CopyTarget.{CopyTarget}
use Rattle.copy_rule.specs.declared.copy_target.Target.{Target}
use Rattle.copy_rule.specs.declared.copy_target.CopyStep.{CopyStep}
use Rattle.copy_rule.specs.declared.copy_target.CopyStep.TheVariants as copy_step
use Rattle.copy_rule.specs.Copies as copy
use Rattle.copy_rule.specs.Copies.{CopyState, CopyAfter, TargetStep, is_given_up, to_make, has_outcome, have_answered, swaps_of}
use Rattle.file_rule.specs.declared.creation.Creation.{Creation}
use Rattle.file_rule.specs.declared.fresh.Fresh.{Fresh}
use Rattle.file_rule.specs.MdsFiles.{Creations, Activity, Idle, Makes, Fences, Settles, Copies, MdsFile, FileStep, stays, a_uid, goes_idle, goes_fencing, begun_by, goes_on, with_entries, fenced_on, fence_failed, fence_stepped, making_on, copying, settled, plan_of, source_left, settling_answered, copied_by, copied_on, target_left, copy_stepped, all_made}
use Rattle.file_rule.specs.FilePhases.{kind_of, first_is_on, is_outstanding_in}
use Rattle.mds_walk.proofs.Lists.{none_there}
use Rattle.standing_calls.proofs.Spots.{Spot, is_number, is_at, has_at, has_number, is_spot_of, Once, not_both, IsLeft, left_same, left_then, Less, Thin, thin_left, AreNone, none_left, map_thin, map_set, map_get, set_thin, set_taken, map_any, any_same}

-- ---- the places

abbrev pub number_of : CallStage → Option ℕ
number_of Waits = None
number_of (Out xid timeouts) = Some xid
number_of (KeptOut xid) = Some xid
number_of KeptBack = None
number_of Done = None
number_of GivenUp = None

abbrev pub creation_spot : Creation → Spot
creation_spot c = (c.server, number_of c.stage)

abbrev pub mirror_spot : FenceMirror → Spot
mirror_spot m = (m.id.server, number_of m.stage)

abbrev pub target_spot : CopyTarget → Spot
target_spot t = (t.server, number_of t.stage)

-- the COMMIT goes to the first live mirror
abbrev pub settle_spots : List Mirror → CallStage → List Spot
settle_spots [] stage = []
settle_spots (m ∷ live) stage = (m.id.server, number_of stage) ∷ []

-- the copy's READ, and its targets
abbrev pub copy_spots : CopyState → List Spot
copy_spots c = (c.source.server, number_of c.read) ∷ map target_spot c.targets

abbrev pub spots_in : List Mirror → Activity → List Spot
spots_in live Idle = []
spots_in live (Makes all) = map creation_spot all.items
spots_in live (Fences f) = map mirror_spot f.mirrors
spots_in live (Settles stage) = settle_spots live stage
spots_in live (Copies c) = copy_spots c

abbrev pub own_spots : MdsFile → List Spot
own_spots f = spots_in f.layout.live f.activity

pub out_number : (n : ℕ) (stage : CallStage) → is_out n stage ≡ is_number n (number_of stage)
out_number n Waits = refl
out_number n (Out xid timeouts) = refl
out_number n (KeptOut xid) = refl
out_number n KeptBack = refl
out_number n Done = refl
out_number n GivenUp = refl

-- a call that is outstanding is out to one of them, and the reverse
staged : {A : Type 0} (at : A → ℕ) (stage : A → CallStage) (server n : ℕ) (xs : List A)
    → list_any (λ (x : A). (at x == server) && is_out n (stage x)) xs ≡ has_at server n (map (λ (x : A). (at x, number_of (stage x))) xs)
staged {A = A} at stage server n xs =
    any_same (λ (x : A). (at x == server) && is_out n (stage x)) (λ (x : A). is_at server n (at x, number_of (stage x))) (λ x. ap (λ (b : Bool). (at x == server) && b) (out_number n (stage x))) xs
    ∙ sym (map_any (is_at server n) (λ (x : A). (at x, number_of (stage x))) xs)

settled_at : (server n : ℕ) (stage : CallStage) (live : List Mirror) → (is_out n stage && first_is_on live server) ≡ has_at server n (settle_spots live stage)
settled_at server n stage [] = by_test (is_out n stage)
  where
    by_test : (b : Bool) → (b && false) ≡ false
    by_test true = refl
    by_test false = refl
settled_at server n stage (m ∷ live) = ap (λ (b : Bool). b && (m.id.server == server)) (out_number n stage) ∙ by_test (is_number n (number_of stage)) (m.id.server == server)
  where
    by_test : (a b : Bool) → (a && b) ≡ ((b && a) || false)
    by_test true true = refl
    by_test true false = refl
    by_test false true = refl
    by_test false false = refl

copied_at : (server n : ℕ) (c : CopyState) → copy.is_outstanding c server n ≡ has_at server n (copy_spots c)
copied_at server n c =
    ap (λ (b : Bool). b || ((c.source.server == server) && is_out n c.read)) (staged (λ (t : CopyTarget). t.server) (λ (t : CopyTarget). t.stage) server n c.targets)
    ∙ (turned (has_at server n (map target_spot c.targets)) ((c.source.server == server) && is_out n c.read)
    ∙ ap (λ (b : Bool). ((c.source.server == server) && b) || has_at server n (map target_spot c.targets)) (out_number n c.read))
  where
    turned : (a b : Bool) → (a || b) ≡ (b || a)
    turned true true = refl
    turned true false = refl
    turned false true = refl
    turned false false = refl

pub outstanding_at : (f : MdsFile) (server n : ℕ) (a : Activity) → is_outstanding_in f server n a ≡ has_at server n (spots_in f.layout.live a)
outstanding_at f server n Idle = refl
outstanding_at f server n (Makes all) = staged (λ (c : Creation). c.server) (λ (c : Creation). c.stage) server n all.items
outstanding_at f server n (Fences g) = staged (λ (m : FenceMirror). m.id.server) (λ (m : FenceMirror). m.stage) server n g.mirrors
outstanding_at f server n (Settles stage) = settled_at server n stage f.layout.live
outstanding_at f server n (Copies c) = copied_at server n c

-- ---- a COMMIT is of a copy to come, and a copy of one that is under way

abbrev pub Kind : Activity → LayoutPhase → Type 0
Kind Idle p = Unit {0}
Kind (Makes all) p = Unit {0}
Kind (Fences f) p = Unit {0}
Kind (Settles stage) p = is_some (kind_of p) ≡ true
Kind (Copies c) p = is_some (kind_of p) ≡ true

-- where it is of none, it is neither
pub kind_none : (a : Activity) (p q : LayoutPhase) → kind_of p ≡ None → Kind a p → Kind a q
kind_none Idle p q none kind = tt
kind_none (Makes all) p q none kind = tt
kind_none (Fences f) p q none kind = tt
kind_none (Settles stage) p q none kind = absurd (not_both (sym kind ∙ ap is_some none))
kind_none (Copies c) p q none kind = absurd (not_both (sym kind ∙ ap is_some none))

kind_without : (p : LayoutPhase) (source : Bool) → is_some (kind_of p) ≡ true → is_some (kind_of (phase_without p source)) ≡ true
kind_without Making source is = is
kind_without Free source is = is
kind_without (Held holder recalled) source is = is
kind_without (Fencing next end) source is = is
kind_without (Settling copies) source is = is
kind_without (Copying copier copies) true is = refl
kind_without (Copying copier copies) false is = refl

-- ---- what is left of some places, as the file is then

pub record IsEnd (spots : List Spot) (f : MdsFile) : Type 0 where
  pub left : IsLeft (own_spots f) spots
  pub kind : Kind f.activity f.layout.phase

pub end_then : (ys xs : List Spot) (f : MdsFile) → IsLeft ys xs → IsEnd ys f → IsEnd xs f
end_then ys xs f l e = record { left = left_then (own_spots f) ys xs e.left l; kind = e.kind }

pub end_same : (f : MdsFile) → Kind f.activity f.layout.phase → IsEnd (own_spots f) f
end_same f kind = record { left = left_same (own_spots f); kind = kind }

-- no call of the file is out then
pub record HasNone (f : MdsFile) : Type 0 where
  pub none : AreNone (own_spots f)
  pub kind : Kind f.activity f.layout.phase

pub none_end : (xs : List Spot) (f : MdsFile) → HasNone f → IsEnd xs f
none_end xs f h = record { left = none_left (own_spots f) xs h.none; kind = h.kind }

-- of one item
pub item_left : {A : Type 0} (f : A → Spot) (xs : List A) (i : ℕ) (x y : A) → slice_get xs i ≡ Some x → Less (f x) (f y) → Thin (map f (slice_set xs i y)) (map f xs)
item_left f xs i x y at less = subst (λ (l : List Spot). Thin l (map f xs)) (sym (map_set f xs i y)) (set_thin (map f xs) i (f x) (f y) (map_get f xs i x at) less)

pub none_of : {A : Type 0} (at : A → ℕ) (stage : A → CallStage) (n : ℕ) (xs : List A) → position (λ (x : A). is_out n (stage x)) xs ≡ None → has_number n (map (λ (x : A). (at x, number_of (stage x))) xs) ≡ false
none_of {A = A} at stage n xs none =
    map_any (is_spot_of n) (λ (x : A). (at x, number_of (stage x))) xs
    ∙ (any_same (λ (x : A). is_number n (number_of (stage x))) (λ (x : A). is_out n (stage x)) (λ x. sym (out_number n (stage x))) xs ∙ none_there (λ (x : A). is_out n (stage x)) xs none)

pub item_taken : {A : Type 0} (f : A → Spot) (n : ℕ) (xs : List A) (i : ℕ) (x y : A) → slice_get xs i ≡ Some x → is_number n (f x).1 ≡ true → (f y).1 ≡ None → Once (map f xs) → has_number n (map f (slice_set xs i y)) ≡ false
item_taken f n xs i x y at is none once = ap (has_number n) (map_set f xs i y) ∙ set_taken n (map f xs) i (f x) (f y) (map_get f xs i x at) is none once

-- a stage with the number of the one before, or with none
pub tick_less : (server : ℕ) (stage : CallStage) → Less (server, number_of stage) (server, number_of (stage_at_tick stage))
tick_less server Waits = inr refl
tick_less server (Out xid timeouts) = inr refl
tick_less server (KeptOut xid) = inr refl
tick_less server KeptBack = inr refl
tick_less server Done = inr refl
tick_less server GivenUp = inr refl

pub settle_thin : (live : List Mirror) (before after : CallStage) → ((server : ℕ) → Less (server, number_of before) (server, number_of after)) → Thin (settle_spots live after) (settle_spots live before)
settle_thin [] before after less = tt
settle_thin (m ∷ live) before after less = (less m.id.server, tt)

pub settle_none : (live : List Mirror) (stage : CallStage) → number_of stage ≡ None → AreNone (settle_spots live stage)
settle_none [] stage none = tt
settle_none (m ∷ live) stage none = (none, tt)

-- ---- where a file goes on

fence_none : (mirrors : List Mirror) → AreNone (map mirror_spot (map to_fence mirrors))
fence_none [] = tt
fence_none (m ∷ mirrors) = (refl, fence_none mirrors)

pub fencing_none : (row : PhaseStep) (uid : ℕ) → HasNone (goes_fencing row uid).file
fencing_none row uid = record { none = fence_none row.file.live; kind = tt }

begun_none : (live : List Mirror) (p : LayoutPhase) → AreNone (spots_in live (begun_by p))
begun_none live Making = tt
begun_none live Free = tt
begun_none live (Held holder recalled) = tt
begun_none live (Fencing next end) = tt
begun_none live (Settling copies) = settle_none live Waits refl
begun_none live (Copying copier copies) = tt

begun_kind : (p : LayoutPhase) → Kind (begun_by p) p
begun_kind Making = tt
begun_kind Free = tt
begun_kind (Held holder recalled) = tt
begun_kind (Fencing next end) = tt
begun_kind (Settling copies) = refl
begun_kind (Copying copier copies) = tt

on_none : (row : PhaseStep) → HasNone (goes_on row).file
on_none row = record { none = begun_none row.file.live row.file.phase; kind = begun_kind row.file.phase }

module _ (file : FileId) where
  -- ---- a fence

  fenced_end : (layout : LayoutState) (g : FenceState) → IsEnd (map mirror_spot g.mirrors) (fenced_on file layout g).file
  fenced_end layout g =
      cond_both (is_done g) (goes_on (fence_done file layout)) (stays layout (Fences g)) (λ (s : FileStep). IsEnd (map mirror_spot g.mirrors) s.file)
      (λ is. none_end (map mirror_spot g.mirrors) (goes_on (fence_done file layout)).file (on_none (fence_done file layout))) (λ off. end_same (record { layout = layout; activity = Fences g }) tt)

  dropped_less : (id : MirrorId) (m : FenceMirror) → Less (mirror_spot m) (mirror_spot (fence.dropped_if id m))
  dropped_less id m = cond_both (is_mirror m.id id) (with_stage m GivenUp) m (λ (n : FenceMirror). Less (mirror_spot m) (mirror_spot n)) (λ is. inl refl) (λ off. inr refl)

  failed_end : (layout : LayoutState) (g : FenceState) (id : MirrorId) (cause : LeftCause) → IsEnd (map mirror_spot g.mirrors) (fence_failed file layout g id cause).file
  failed_end layout g id cause =
      cond_both (is_last_live layout.live) (stays layout (Fences g)) (with_entries (mirror_left file layout id cause).entries (fenced_on file (mirror_left file layout id cause).file (fence.without g id)))
      (λ (s : FileStep). IsEnd (map mirror_spot g.mirrors) s.file) (λ last. end_same (record { layout = layout; activity = Fences g }) tt)
      (λ more.
      end_then (map mirror_spot (fence.without g id).mirrors) (map mirror_spot g.mirrors) (fenced_on file (mirror_left file layout id cause).file (fence.without g id)).file
      (thin_left (map mirror_spot (fence.without g id).mirrors) (map mirror_spot g.mirrors) (map_thin mirror_spot (fence.dropped_if id) (dropped_less id) g.mirrors)) (fenced_end (mirror_left file layout id cause).file (fence.without g id)))

  pub fence_end : (layout : LayoutState) (g : FenceState) (step : FenceStep) → IsEnd (map mirror_spot g.mirrors) (fence_stepped file layout g step).file
  fence_end layout g Stranger = end_same (record { layout = layout; activity = Fences g }) tt
  fence_end layout g Acked = fenced_end layout g
  fence_end layout g Again = end_same (record { layout = layout; activity = Fences g }) tt
  fence_end layout g (HasFailed id cause) = failed_end layout g id cause

  -- ---- CREATEs

  pub making_end : (layout : LayoutState) (all : Creations) → IsEnd (map creation_spot all.items) (making_on file layout all).file
  making_end layout all =
      cond_both (list_all (λ (c : Creation). is_over c.stage) all.items) (goes_idle (made file layout (all_made all)) 0) (stays layout (Makes all))
      (λ (s : FileStep). IsEnd (map creation_spot all.items) s.file)
      (λ is. none_end (map creation_spot all.items) (goes_idle (made file layout (all_made all)) 0).file (record { none = tt; kind = tt }))
      (λ off. end_same (record { layout = layout; activity = Makes all }) tt)

  -- ---- a source that fails

  pub source_end : (layout : LayoutState) (live : List Mirror) (cause : LeftCause) (kept : Activity) → is_some (kind_of layout.phase) ≡ true → Kind kept layout.phase → IsEnd (spots_in layout.live kept) (source_left file layout live cause kept).file
  source_end layout [] cause kept is kind = end_same (record { layout = layout; activity = kept }) kind
  source_end layout (m ∷ live) cause kept is kind =
      cond_both (is_last_live layout.live) (stays layout kept)
      (record { file = record { layout = (mirror_left file layout m.id cause).file; activity = Settles Waits }; entries = (mirror_left file layout m.id cause).entries; uids = 0; names = 0 })
      (λ (s : FileStep). IsEnd (spots_in layout.live kept) s.file) (λ last. end_same (record { layout = layout; activity = kept }) kind)
      (λ more.
      none_end (spots_in layout.live kept) (record { layout = (mirror_left file layout m.id cause).file; activity = Settles Waits })
      (record { none = settle_none (mirror_left file layout m.id cause).file.live Waits refl; kind = kind_without layout.phase (is_source m.id layout.live) is }))

  -- ---- a copy

  module _ (fresh : Fresh) where
    swapped_none : (layout : LayoutState) (copier : Cred) (targets : List SwappedIn) → HasNone (copied_by file layout copier targets fresh).file
    swapped_none layout copier [] = record { none = tt; kind = tt }
    swapped_none layout copier (t ∷ targets) = fencing_none (copied file layout copier (t ∷ targets) (a_uid fresh.uid)) fresh.uid

    copied_end : (layout : LayoutState) (c : CopyState) → is_some (kind_of layout.phase) ≡ true → IsEnd (copy_spots c) (copied_on file layout c fresh).file
    copied_end layout c is =
        cond_both (has_outcome c) (copied_by file layout (a_uid c.copier) (swaps_of c) fresh) (stays layout (Copies c)) (λ (s : FileStep). IsEnd (copy_spots c) s.file)
        (λ has. none_end (copy_spots c) (copied_by file layout (a_uid c.copier) (swaps_of c) fresh).file (swapped_none layout (a_uid c.copier) (swaps_of c))) (λ off. end_same (record { layout = layout; activity = Copies c }) is)

    target_end : (layout : LayoutState) (c : CopyState) (cause : LeftCause) (replaced : Option MirrorId) → is_some (kind_of layout.phase) ≡ true → IsEnd (copy_spots c) (target_left file layout c fresh cause replaced).file
    target_end layout c cause None is = copied_end layout c is
    target_end layout c cause (Some id) is = let e = copied_end (mirror_left file layout id cause).file c (kind_without layout.phase (is_source id layout.live) is) in record { left = e.left; kind = e.kind }

    pub copy_end : (layout : LayoutState) (c : CopyState) (step : CopyStep) → is_some (kind_of layout.phase) ≡ true → IsEnd (copy_spots c) (copy_stepped file layout c fresh step).file
    copy_end layout c copy_step.Stranger is = end_same (record { layout = layout; activity = Copies c }) is
    copy_end layout c copy_step.Waiting is = end_same (record { layout = layout; activity = Copies c }) is
    copy_end layout c (copy_step.SourceFailed cause) is = source_end layout layout.live cause (Copies c) is is
    copy_end layout c (copy_step.TargetFailed server replaced cause) is = target_end layout c cause replaced is
    copy_end layout c copy_step.Done is = copied_end layout c is

    -- ---- the COMMIT of the source

    made_none : (plan : List Target) → AreNone (map target_spot (map to_make plan))
    made_none [] = tt
    made_none (t ∷ plan) = (refl, made_none plan)

    settled_none : (layout : LayoutState) (copies : CopyKind) → HasNone (settled file layout copies fresh).file
    settled_none layout copies =
        let row : Bool → PhaseStep = λ (b : Bool). if b then record { file = with_phase layout (Copying (a_uid fresh.uid) copies); entries = [] } else freed file layout in
        by_test (has_targets copies (length layout.live) layout.wanted) row refl
      where
        by_test : (b : Bool) (row : Bool → PhaseStep) → is_some (kind_of (row true).file.phase) ≡ true → HasNone (if b then copying (row b).file fresh (plan_of copies layout fresh) else goes_idle (row b) 0).file
        by_test true row is = record { none = (refl, made_none (plan_of copies layout fresh)); kind = is }
        by_test false row is = record { none = tt; kind = tt }

    kept_none : (layout : LayoutState) (cause : LeftCause) → is_some (kind_of layout.phase) ≡ true → HasNone (source_left file layout layout.live cause (Settles KeptBack)).file
    kept_none layout cause is = by_live layout.live
      where
        by_live : (live : List Mirror) → HasNone (source_left file layout live cause (Settles KeptBack)).file
        by_live [] = record { none = settle_none layout.live KeptBack refl; kind = is }
        by_live (m ∷ live) =
            cond_both (is_last_live layout.live) (stays layout (Settles KeptBack))
            (record { file = record { layout = (mirror_left file layout m.id cause).file; activity = Settles Waits }; entries = (mirror_left file layout m.id cause).entries; uids = 0; names = 0 }) (λ (s : FileStep). HasNone s.file)
            (λ last. record { none = settle_none layout.live KeptBack refl; kind = is })
            (λ more. record { none = settle_none (mirror_left file layout m.id cause).file.live Waits refl; kind = kind_without layout.phase (is_source m.id layout.live) is })

    pub answered_none : (layout : LayoutState) (copies : CopyKind) (reply : DsReplyValue) → is_some (kind_of layout.phase) ≡ true → HasNone (settling_answered file layout copies fresh reply).file
    answered_none layout copies (Created fileid shown) is = kept_none layout (Error fence.odd_status) is
    answered_none layout copies (Set shown) is = kept_none layout (Error fence.odd_status) is
    answered_none layout copies (Written shown verifier) is = kept_none layout (Error fence.odd_status) is
    answered_none layout copies (Committed shown verifier) is = settled_none layout copies
    answered_none layout copies (Bytes shown eof bytes) is = kept_none layout (Error fence.odd_status) is
    answered_none layout copies (NotSync shown) is = kept_none layout (Error fence.odd_status) is
    answered_none layout copies (Failed status shown) is = kept_none layout (Error status) is
