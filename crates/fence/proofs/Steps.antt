-- One mirror of a fence takes a step.
use Rattle.std.proofs.Common.{◌≡◌, ℕ, ◌<◌, ◌+◌, Bool, true, false, List, [], ◌++◌, length, map, take, drop, set, get_or, cond, nat_lt, Option, Some, None, refl, sym, ap, ◌∙◌, append-nil, arith}
use Rattle.std.specs.Prelude.{slice_get}
use Rattle.std.specs.List.{position, position_or_len, refill}
use Rattle.std.proofs.lemmas.Bool.{ltb-true}
use Rattle.std.proofs.lemmas.List.{length-set, drop_all, take_all, get_or_default}
use Rattle.std.proofs.lemmas.List.Edits.{map_over_more}
use Rattle.std.proofs.lemmas.Option.{slice_get-get_or}
use Rattle.cluster_model.specs.declared.fence_mirror.FenceMirror.{FenceMirror}
use Rattle.cluster_model.specs.declared.fence_mirror.FenceStep.{FenceStep}
use Rattle.cluster_model.specs.declared.ids.MirrorId.{MirrorId}
use Rattle.cluster_model.specs.DsCalls.{DsCallValue}
use Rattle.cluster_model.specs.Fences.{FenceState, MirrorStep, FenceAfter, FenceCall, step_from, step_at, stepped, stranger, with_mirror, with_stage, call_to, call_from, fence_call_at, waiting_at, next_call}
use Rattle.cluster_model.specs.declared.call_stage.CallStage.TheVariants.{Out}

within_from : (b : Bool) (n place size : ℕ) → nat_lt n size ≡ b → cond b (Some n) None ≡ Some place → place < size
within_from true n place size less is = let same : n ≡ place = cc in rw (← same) (ltb-true n size less)
within_from false n place size less is = absurd cc

-- what is found stands in the list
pub place_within : (test : FenceMirror → Bool) (xs : List FenceMirror) (place : ℕ) → position test xs ≡ Some place → place < length xs
place_within test xs place is = within_from (nat_lt (position_or_len test xs) (length xs)) (position_or_len test xs) place (length xs) refl is

-- a list of the same length written over another
pub refilled : (xs ws : List FenceMirror) → length ws ≡ length xs → refill (length xs) xs ws ≡ ws
refilled xs ws same =
    ap (λ rest. take (length xs) (ws ++ rest)) (drop_all (length ws) xs (omega (arith, same)))
    ∙ ap (take (length xs)) (append-nil ws)
    ∙ ap (λ n. take n ws) (sym same)
    ∙ take_all (length ws) ws (omega arith)

pub step_here : (fresh : ℕ) (xs ys zs : List FenceMirror) (found : Option ℕ) (place : ℕ) (d : FenceMirror) (step : FenceMirror → MirrorStep) (s : MirrorStep)
    → found ≡ Some place → place < length xs → ys ≡ xs → zs ≡ xs → s ≡ step (get_or ys place d)
    → record { fence = record { cred = fresh; mirrors = refill (length xs) xs (set zs place s.mirror) }; step = s.step } ≡ step_from (record { cred = fresh; mirrors = xs }) step found
step_here fresh xs ys zs found place d step s is within same_ys same_zs does =
    let f : FenceState = record { cred = fresh; mirrors = xs } in
    let m : FenceMirror = get_or xs place d in
    let takes : s ≡ step m = does ∙ ap (λ l. step (get_or l place d)) same_ys in
    let new : refill (length xs) xs (set zs place s.mirror) ≡ set xs place s.mirror =
    ap (λ l. refill (length xs) xs (set l place s.mirror)) same_zs ∙ refilled xs (set xs place s.mirror) (length-set xs place s.mirror) in
    let make : List FenceMirror → FenceStep → FenceAfter = λ l t. record { fence = record { cred = fresh; mirrors = l }; step = t } in
    ap (λ l. make l s.step) new
    ∙ ap (stepped f place) takes
    ∙ ap (step_at f step place) (sym (slice_get-get_or xs place d within))
    ∙ ap (step_from f step) (sym is)

-- what was done to each mirror up to a place is done to the next
pub next_done : (f : FenceMirror → FenceMirror) (xs ys : List FenceMirror) (i : ℕ) (d new : FenceMirror) → i < length xs → length ys ≡ length xs
    → ys ≡ map f (take i xs) ++ drop i xs → new ≡ f (get_or ys i d) → set ys i new ≡ map f (take (i + 1) xs) ++ drop (i + 1) xs
next_done f xs ys i d new within same so_far does =
    let x : FenceMirror = get_or ys i d in
    ap (set ys i) does ∙ map_over_more f xs ys i x within so_far (get_or_default ys i d x (omega (arith, within, same)))

-- the call to the mirror that is found goes out
pub call_here : (fresh xid : ℕ) (xs ys zs : List FenceMirror) (place : ℕ) (d new : FenceMirror)
    → waiting_at (record { cred = fresh; mirrors = xs }) ≡ Some place → place < length xs → ys ≡ xs → zs ≡ xs → new ≡ with_stage (get_or ys place d) (Out xid 0)
    → next_call (record { cred = fresh; mirrors = xs }) xid
    ≡ Some (record { fence = record { cred = fresh; mirrors = refill (length xs) xs (set zs place new) }; id = (get_or ys place d).id; call = call_to (record { cred = fresh; mirrors = xs }) (get_or ys place d) })
call_here fresh xid xs ys zs place d new is within same_ys same_zs does =
    let f : FenceState = record { cred = fresh; mirrors = xs } in
    let made : FenceMirror → List FenceMirror → Option FenceCall = λ m l. Some (record { fence = record { cred = fresh; mirrors = l }; id = m.id; call = call_to f m }) in
    let written : set xs place (with_stage (get_or xs place d) (Out xid 0)) ≡ refill (length xs) xs (set zs place new) =
    sym (ap (λ l. refill (length xs) xs (set l place new)) same_zs ∙ refilled xs (set xs place new) (length-set xs place new)
    ∙ ap (set xs place) (does ∙ ap (λ l. with_stage (get_or l place d) (Out xid 0)) same_ys)) in
    ap (call_from f xid) is
    ∙ ap (fence_call_at f xid place) (slice_get-get_or xs place d within)
    ∙ ap (made (get_or xs place d)) written
    ∙ ap (λ l. made (get_or l place d) (refill (length xs) xs (set zs place new))) (sym same_ys)
