-- One target of a copy takes a step.
use Rattle.std.proofs.Common.{◌≡◌, ℕ, ◌<◌, ◌+◌, Bool, true, false, List, ◌++◌, length, map, take, drop, set, get_or, cond, nat_lt, Option, Some, None, refl, sym, ap, ◌∙◌, append-nil, arith}
use Rattle.std.specs.Prelude.{Result, Ok, Err, OnErr}
use Rattle.std.specs.List.{position, position_or_len, refill}
use Rattle.std.proofs.lemmas.Bool.{ltb-true}
use Rattle.std.proofs.lemmas.List.{length-set, drop_all, take_all, get_or_default}
use Rattle.std.proofs.lemmas.List.Edits.{map_over_more}
use Rattle.std.proofs.lemmas.Option.{slice_get-get_or}
use Rattle.cluster_model.specs.declared.ids.Mirror.{Mirror}
use Rattle.cluster_model.specs.declared.call_stage.CallStage.TheVariants.{Out}
use Rattle.cluster_model.specs.DsCalls.{DsCallValue, DsReplyValue}
use Rattle.cluster_model.specs.Fences.{is_out}
use Rattle.ff_xdr.specs.declared.error.NoMemory.{NoMemory}
use Rattle.copy_rule.specs.declared.copy_target.CopyTarget.{CopyTarget}
use Rattle.copy_rule.specs.declared.copy_target.CopyStep.{CopyStep}
use Rattle.copy_rule.specs.Copies.{CopyState, CopyCall, CopyAfter, TargetStep, at_stage, target_call, target_caller, target_call_at, call_from, waiting_at, target_of, target_answered, step_from, step_at, stepped, copy_then, by_read, read_answered, stranger}
use Rattle.resilver.specs.declared.call.NextCall.{NextCall}
use Rattle.resilver.specs.Calls.{TakesAnswer}
use Rattle.resilver.specs.Sends.{next_for, call_as, caller_for, SendsBeforeLent, TakesRead, BringsPiece, AsksForPiece}

abbrev with_targets : CopyState → List CopyTarget → CopyState
with_targets c targets = record { copier = c.copier; source = c.source; at = c.at; piece = c.piece; ended = c.ended; read = c.read; targets = targets }

within_from : (b : Bool) (n place size : ℕ) → nat_lt n size ≡ b → cond b (Some n) None ≡ Some place → place < size
within_from true n place size less is = let same : n ≡ place = cc in rw (← same) (ltb-true n size less)
within_from false n place size less is = absurd cc

-- what is found stands in the list
pub place_within : (test : CopyTarget → Bool) (xs : List CopyTarget) (place : ℕ) → position test xs ≡ Some place → place < length xs
place_within test xs place is = within_from (nat_lt (position_or_len test xs) (length xs)) (position_or_len test xs) place (length xs) refl is

-- a list of the same length written over another
refilled : (xs ws : List CopyTarget) → length ws ≡ length xs → refill (length xs) xs ws ≡ ws
refilled xs ws same =
    ap (λ rest. take (length xs) (ws ++ rest)) (drop_all (length ws) xs (omega (arith, same)))
    ∙ ap (take (length xs)) (append-nil ws)
    ∙ ap (λ n. take n ws) (sym same)
    ∙ take_all (length ws) ws (omega arith)

pub step_here : (c : CopyState) (ys zs : List CopyTarget) (found : Option ℕ) (place : ℕ) (d : CopyTarget) (step : CopyTarget → TargetStep) (reads : CopyAfter) (s : TargetStep)
    → found ≡ Some place → place < length c.targets → ys ≡ c.targets → zs ≡ c.targets → s ≡ step (get_or ys place d)
    → copy_then (with_targets c (refill (length c.targets) c.targets (set zs place s.target))) s.step ≡ step_from c step reads found
step_here c ys zs found place d step reads s is within same_ys same_zs does =
    let xs : List CopyTarget = c.targets in
    let t : CopyTarget = get_or xs place d in
    let takes : s ≡ step t = does ∙ ap (λ l. step (get_or l place d)) same_ys in
    let new : refill (length xs) xs (set zs place s.target) ≡ set xs place s.target =
    ap (λ l. refill (length xs) xs (set l place s.target)) same_zs ∙ refilled xs (set xs place s.target) (length-set xs place s.target) in
    ap (λ l. copy_then (with_targets c l) s.step) new
    ∙ ap (stepped c place) takes
    ∙ ap (step_at c step place) (sym (slice_get-get_or xs place d within))
    ∙ ap (step_from c step reads) (sym is)

-- what was done to each target up to a place is done to the next
pub next_done : (f : CopyTarget → CopyTarget) (xs ys : List CopyTarget) (i : ℕ) (d new : CopyTarget) → i < length xs → length ys ≡ length xs
    → ys ≡ map f (take i xs) ++ drop i xs → new ≡ f (get_or ys i d) → set ys i new ≡ map f (take (i + 1) xs) ++ drop (i + 1) xs
next_done f xs ys i d new within same so_far does =
    let x : CopyTarget = get_or ys i d in
    ap (set ys i) does ∙ map_over_more f xs ys i x within so_far (get_or_default ys i d x (omega (arith, within, same)))

-- the call of a target, as it is named
named_so : (c : CopyState) (targets : List CopyTarget) (name : ℕ) (made : Option Mirror) → target_call c.copier c.at c.piece name made ≡ call_as (with_targets c targets) (next_for c.copier name made)
named_so c targets name None = refl
named_so c targets name (Some m) = refl

-- by whom it is sent
sent_by : (copier name : ℕ) (made : Option Mirror) → target_caller copier made ≡ caller_for copier (next_for copier name made)
sent_by copier name None = refl
sent_by copier name (Some m) = refl

-- the call to the target that is found goes out
pub call_here : (c : CopyState) (xid : ℕ) (ys zs : List CopyTarget) (place : ℕ) (d new : CopyTarget) (next : NextCall) (uid : ℕ)
    → waiting_at c ≡ Some place → place < length c.targets → ys ≡ c.targets → zs ≡ c.targets → new ≡ at_stage (get_or ys place d) (Out xid 0)
    → next ≡ next_for c.copier (get_or ys place d).name (get_or ys place d).made → uid ≡ caller_for c.copier next
    → SendsBeforeLent c xid (Some (record { server = (get_or ys place d).server; uid = uid; call = next })) (with_targets c (refill (length c.targets) c.targets (set zs place new)))
call_here c xid ys zs place d new next uid is within same_ys same_zs does named by =
    let xs : List CopyTarget = c.targets in
    let t : CopyTarget = get_or xs place d in
    let all : List CopyTarget = refill (length xs) xs (set zs place new) in
    let written : set xs place (at_stage t (Out xid 0)) ≡ all =
    sym (ap (λ l. refill (length xs) xs (set l place new)) same_zs ∙ refilled xs (set xs place new) (length-set xs place new)
    ∙ ap (set xs place) (does ∙ ap (λ l. at_stage (get_or l place d) (Out xid 0)) same_ys)) in
    let goes : ℕ → ℕ → List CopyTarget → DsCallValue → Option CopyCall = λ server uid l call. Some (record { copy = with_targets c l; server = server; uid = uid; call = call }) in
    let u : CopyTarget = get_or ys place d in
    ap (call_from c xid) is
    ∙ ap (target_call_at c xid place) (slice_get-get_or xs place d within)
    ∙ ap (λ l. goes t.server (target_caller c.copier t.made) l (target_call c.copier c.at c.piece t.name t.made)) written
    ∙ ap (λ l. goes (get_or l place d).server (target_caller c.copier (get_or l place d).made) all (target_call c.copier c.at c.piece (get_or l place d).name (get_or l place d).made)) (sym same_ys)
    ∙ ap (goes u.server (target_caller c.copier u.made) all) (named_so c all u.name u.made ∙ ap (call_as (with_targets c all)) (sym named))
    ∙ ap (λ n. goes u.server n all (call_as (with_targets c all) next)) (sent_by c.copier u.name u.made ∙ ap (caller_for c.copier) (sym named) ∙ sym by)

-- the answer to the READ
pub read_taken : (c : CopyState) (xid : ℕ) (reply : DsReplyValue) (result : Result CopyStep NoMemory) (new : CopyState)
    → target_of c xid ≡ None → is_out xid c.read ≡ true → TakesRead c reply result new → TakesAnswer c xid reply result new
read_taken c xid reply (Ok step) new none out is =
    is
    ∙ ap (λ b. cond b (read_answered c reply) (stranger c)) (sym out)
    ∙ ap (step_from c (λ t. target_answered t reply t.made) (by_read c xid (read_answered c reply))) (sym none)
read_taken c xid reply (Err e) new none out same = same

-- where memory is wanted for the answer to the READ
pub asks_so : (c : CopyState) (xid : ℕ) (reply : DsReplyValue) (result : Result CopyStep NoMemory) → target_of c xid ≡ None → is_out xid c.read ≡ true
    → OnErr result (BringsPiece c reply) → OnErr result (AsksForPiece c xid reply)
asks_so c xid reply (Ok step) none out brings = tt
asks_so c xid reply (Err e) none out brings = record { of_none = none; of_read = out; piece = brings }
