-- The fileids of a file's live mirrors are those that the entries tell.
use Rattle.std.proofs.Common.{◌≡◌, ◌≤◌, ◌<◌, ℕ, ◌^◌, Bool, true, List, [], ◌∷◌, length, Option, Some, None, refl, arith}
use Rattle.std.specs.Prelude.{not, map, filter, if◌then◌else◌}
use Rattle.std.specs.List.{AllByRecursion}
use Rattle.std.proofs.lemmas.Bool.{cond_both}
use Rattle.cluster_model.specs.declared.ids.FileId.{FileId}
use Rattle.cluster_model.specs.declared.ids.MirrorId.{MirrorId}
use Rattle.cluster_model.specs.declared.ids.Mirror.{Mirror}
use Rattle.cluster_model.specs.declared.entry.Entry.{Entry}
use Rattle.cluster_model.specs.declared.entry.Entry.TheVariants as entry
use Rattle.cluster_model.specs.declared.layout_state.LayoutPhase.{LayoutPhase}
use Rattle.cluster_model.specs.declared.layout_state.LayoutPhase.TheVariants.{Making, Free, Held, Fencing, Settling, Copying}
use Rattle.cluster_model.specs.Journal.{is_mirror}
use Rattle.cluster_model.specs.Phases.{ids_of}
use Rattle.cluster_laws.specs.FenceLaw.{is_file, swapped_in, first_free, changed_live, live_after, live_by}
use Rattle.cluster_laws.proofs.Invariant.{live_of}
use Rattle.cluster_laws.proofs.Lists.{all_append}
use Rattle.mds_walk.proofs.Lists.{AllOf}
use Rattle.mds_replies.specs.AnsweredRequests.{FitsMirrorId}
use Rattle.mds_laws.proofs.PeriodUids.{is_making}
use Rattle.mds_room.specs.Room.{IsLiveInRange}
use Rattle.mds_room.proofs.ServersIn.{IsIn}

abbrev pub HasEight : MirrorId → Type 0
HasEight m = m.fileid < 2 ^ 64

abbrev pub TellsEight : Option (List MirrorId) → Type 0
TellsEight None = Unit {0}
TellsEight (Some ids) = AllByRecursion HasEight ids

-- ---- what an entry makes of a live list

kept_eight : (p : MirrorId → Bool) (ids : List MirrorId) → AllByRecursion HasEight ids → AllByRecursion HasEight (filter p ids)
kept_eight p [] all = tt
kept_eight p (m ∷ ids) all =
    let rest : AllByRecursion HasEight (filter p ids) = kept_eight p ids all.1 in
    cond_both (p m) (m ∷ filter p ids) (filter p ids) (λ (l : List MirrorId). AllByRecursion HasEight l) (λ is. (all.0, rest)) (λ off. rest)

put_eight : (old new : MirrorId) (ids : List MirrorId) → HasEight new → AllByRecursion HasEight ids → AllByRecursion HasEight (map (λ (m : MirrorId). if is_mirror m old then new else m) ids)
put_eight old new [] its all = tt
put_eight old new (m ∷ ids) its all = (cond_both (is_mirror m old) new m HasEight (λ is. its) (λ off. all.0), put_eight old new ids its all.1)

swapped_eight : (old : Option MirrorId) (new : MirrorId) (ids : List MirrorId) → HasEight new → AllByRecursion HasEight ids → AllByRecursion HasEight (swapped_in old new ids)
swapped_eight None new ids its all = all_append HasEight ids (new ∷ []) all (its, tt)
swapped_eight (Some old) new ids its all = put_eight old new ids its all

first_eight : (ids : List MirrorId) (was : Option (List MirrorId)) → AllByRecursion HasEight ids → TellsEight was → TellsEight (first_free ids was)
first_eight ids None its all = its
first_eight ids (Some before) its all = all

changed_eight : (change : List MirrorId → List MirrorId) → ((ids : List MirrorId) → AllByRecursion HasEight ids → AllByRecursion HasEight (change ids)) → (was : Option (List MirrorId)) → TellsEight was → TellsEight (changed_live change was)
changed_eight change keeps None all = tt
changed_eight change keeps (Some ids) all = keeps ids all

after_eight : (f : FileId) (was : Option (List MirrorId)) (e : Entry) → IsLiveInRange e → TellsEight was → TellsEight (live_after f was e)
after_eight f was (entry.Free file live) its all = cond_both (is_file file f) (first_free live was) was TellsEight (λ is. first_eight live was its all) (λ off. all)
after_eight f was (entry.Left file mirror cause) its all =
    cond_both (is_file file f) (changed_live (filter (λ (m : MirrorId). not (is_mirror m mirror))) was) was TellsEight
    (λ is. changed_eight (filter (λ (m : MirrorId). not (is_mirror m mirror))) (λ ids so. kept_eight (λ (m : MirrorId). not (is_mirror m mirror)) ids so) was all) (λ off. all)
after_eight f was (entry.Swapped file old new) its all =
    cond_both (is_file file f) (changed_live (swapped_in old new) was) was TellsEight (λ is. changed_eight (swapped_in old new) (λ ids so. swapped_eight old new ids its so) was all) (λ off. all)
after_eight f was e its all = all

pub told_eight : (f : FileId) (was : Option (List MirrorId)) (entries : List Entry) → AllByRecursion IsLiveInRange entries → TellsEight was → TellsEight (live_by f was entries)
told_eight f was [] its all = all
told_eight f was (e ∷ entries) its all = told_eight f (live_after f was e) entries its.1 (after_eight f was e its.0 all)

-- ---- the live mirrors of a file

fit_so : (n : ℕ) (live : List Mirror) → n ≤ 4294967296 → AllByRecursion HasEight (ids_of live) → AllOf (IsIn n) live → AllByRecursion FitsMirrorId live
fit_so n [] few its all = tt
fit_so n (m ∷ live) few its all =
    let less : m.id.server < n = all.0 in
    ((omega (arith, few, less), its.0), fit_so n live few its.1 all.1)

no_live : (live : List Mirror) → length live ≡ 0 → AllByRecursion FitsMirrorId live
no_live [] is = tt
no_live (m ∷ live) is = absurd (not_so is)
  where
    not_so : length (m ∷ live) ≡ 0 → ⊥
    not_so one = omega (arith, one)

-- a file that is being made has none
pub live_fit : (n : ℕ) (p : LayoutPhase) (live : List Mirror) → n ≤ 4294967296 → TellsEight (live_of p (ids_of live)) → (is_making p ≡ true → length live ≡ 0) → AllOf (IsIn n) live → AllByRecursion FitsMirrorId live
live_fit n Making live few its none all = no_live live (none refl)
live_fit n Free live few its none all = fit_so n live few its all
live_fit n (Held holder recalled) live few its none all = fit_so n live few its all
live_fit n (Fencing next end) live few its none all = fit_so n live few its all
live_fit n (Settling copies) live few its none all = fit_so n live few its all
live_fit n (Copying copier copies) live few its none all = fit_so n live few its all
