-- One creation of a list takes a step.
use Rattle.std.proofs.Common.{◌≡◌, ℕ, ◌<◌, ◌+◌, Bool, true, false, List, ◌++◌, length, map, filter, take, drop, set, get_or, cond, nat_lt, Option, Some, None, refl, sym, ap, subst, ◌∙◌, append-nil, arith}
use Rattle.std.specs.List.{position, position_or_len, refill}
use Rattle.std.proofs.lemmas.Bool.{ltb-true}
use Rattle.std.proofs.lemmas.List.{length-set, drop_all, take_all, get_or_default}
use Rattle.std.proofs.lemmas.List.Edits.{map_over_more}
use Rattle.std.proofs.lemmas.List.Quantifiers.{position-Some}
use Rattle.std.proofs.lemmas.Option.{slice_get-get_or}
use Rattle.file_rule.specs.declared.creation.Creation.{Creation}
use Rattle.file_rule.specs.MdsFiles.{Creations}
use Rattle.cluster_model.specs.declared.ids.Cred.{Cred}
use Rattle.cluster_model.specs.declared.call_stage.CallStage.TheVariants.{Out}
use Rattle.cluster_model.specs.Fences.{waits}
use Rattle.file_rule.specs.MdsFiles.{in_stage}
use Rattle.mds_creations.specs.Makings.{put_at, put_there, stands, create_at, create_there, SendsCreate}

within_from : (b : Bool) (n place size : ℕ) → nat_lt n size ≡ b → cond b (Some n) None ≡ Some place → place < size
within_from true n place size less is = let same : n ≡ place = cc in rw (← same) (ltb-true n size less)
within_from false n place size less is = absurd cc

-- what is found stands in the list
pub place_within : (test : Creation → Bool) (xs : List Creation) (place : ℕ) → position test xs ≡ Some place → place < length xs
place_within test xs place is = within_from (nat_lt (position_or_len test xs) (length xs)) (position_or_len test xs) place (length xs) refl is

-- and passes the test
pub place_passes : (test : Creation → Bool) (xs : List Creation) (place : ℕ) (d : Creation) → position test xs ≡ Some place → test (get_or xs place d) ≡ true
place_passes test xs place d is = (position-Some test xs place d is).1

-- a list of the same length written over another
pub refilled : (xs ws : List Creation) → length ws ≡ length xs → refill (length xs) xs ws ≡ ws
refilled xs ws same =
    ap (λ rest. take (length xs) (ws ++ rest)) (drop_all (length ws) xs (omega (arith, same)))
    ∙ ap (take (length xs)) (append-nil ws)
    ∙ ap (λ n. take n ws) (sym same)
    ∙ take_all (length ws) ws (omega arith)

-- the list behind a step of the one at a place
pub set_here : (xs ys zs : List Creation) (place : ℕ) (d new : Creation) (step : Creation → Creation) → ys ≡ xs → zs ≡ xs → new ≡ step (get_or ys place d)
    → refill (length xs) xs (set zs place new) ≡ set xs place (step (get_or xs place d))
set_here xs ys zs place d new step same_ys same_zs does =
    ap (λ l. refill (length xs) xs (set l place new)) same_zs ∙ refilled xs (set xs place new) (length-set xs place new) ∙ ap (set xs place) (does ∙ ap (λ l. step (get_or l place d)) same_ys)

pub put_here : (owner : ℕ) (xs ys zs : List Creation) (found : Option ℕ) (place : ℕ) (d new : Creation) (step : Creation → Creation)
    → found ≡ Some place → place < length xs → ys ≡ xs → zs ≡ xs → new ≡ step (get_or ys place d)
    → ◌≡◌ {A = Creations} (record { owner = owner; items = refill (length xs) xs (set zs place new) }) (put_at (record { owner = owner; items = xs }) step found)
put_here owner xs ys zs found place d new step is within same_ys same_zs does =
    let all : Creations = record { owner = owner; items = xs } in
    let make : List Creation → Creations = λ l. record { owner = owner; items = l } in
    ap make (set_here xs ys zs place d new step same_ys same_zs does)
    ∙ ap (put_there all step place) (sym (slice_get-get_or xs place d within))
    ∙ ap (put_at all step) (sym is)

-- what was done to each up to a place is done to the next
pub next_done : (f : Creation → Creation) (xs ys : List Creation) (i : ℕ) (d new : Creation) → i < length xs → length ys ≡ length xs
    → ys ≡ map f (take i xs) ++ drop i xs → new ≡ f (get_or ys i d) → set ys i new ≡ map f (take (i + 1) xs) ++ drop (i + 1) xs
next_done f xs ys i d new within same so_far does =
    let x : Creation = get_or ys i d in
    ap (set ys i) does ∙ map_over_more f xs ys i x within so_far (get_or_default ys i d x (omega (arith, within, same)))

-- the same of a step that looks at whether another stands
abbrev spare_in : List Creation → Bool
spare_in xs = nat_lt 1 (length (filter stands xs))

spared : (xs ys ws : List Creation) (place : ℕ) (d new : Creation) (spare : Bool) (step : Bool → Creation → Creation) → ws ≡ xs → spare ≡ spare_in ws → new ≡ step spare (get_or ys place d) → new ≡ step (spare_in xs) (get_or ys place d)
spared xs ys ws place d new spare step same_ws is does = does ∙ ap (λ b. step b (get_or ys place d)) (is ∙ ap spare_in same_ws)

pub set_with : (xs ys zs ws : List Creation) (place : ℕ) (d new : Creation) (spare : Bool) (step : Bool → Creation → Creation) → ys ≡ xs → zs ≡ xs → ws ≡ xs → spare ≡ spare_in ws → new ≡ step spare (get_or ys place d)
    → refill (length xs) xs (set zs place new) ≡ set xs place (step (spare_in xs) (get_or xs place d))
set_with xs ys zs ws place d new spare step same_ys same_zs same_ws is does =
    set_here xs ys zs place d new (step (spare_in xs)) same_ys same_zs (spared xs ys ws place d new spare step same_ws is does)

pub put_with : (owner : ℕ) (xs ys zs ws : List Creation) (found : Option ℕ) (place : ℕ) (d new : Creation) (spare : Bool) (step : Bool → Creation → Creation)
    → found ≡ Some place → place < length xs → ys ≡ xs → zs ≡ xs → ws ≡ xs → spare ≡ spare_in ws → new ≡ step spare (get_or ys place d)
    → ◌≡◌ {A = Creations} (record { owner = owner; items = refill (length xs) xs (set zs place new) }) (put_at (record { owner = owner; items = xs }) (step (spare_in xs)) found)
put_with owner xs ys zs ws found place d new spare step is within same_ys same_zs same_ws shows does =
    put_here owner xs ys zs found place d new (step (spare_in xs)) is within same_ys same_zs (spared xs ys ws place d new spare step same_ws shows does)

-- the CREATE at a place goes out
pub sent_here : (owner xid : ℕ) (xs ys zs : List Creation) (place : ℕ) (d new : Creation) → position (λ c. waits c.stage) xs ≡ Some place → place < length xs → ys ≡ xs → zs ≡ xs → new ≡ in_stage (get_or ys place d) (Out xid 0)
    → SendsCreate (record { owner = owner; items = xs }) xid (Some ((get_or ys place d).server, (get_or ys place d).name, record { 0 = owner })) (record { owner = owner; items = refill (length xs) xs (set zs place new) })
sent_here owner xid xs ys zs place d new is within same_ys same_zs does =
    let all : Creations = record { owner = owner; items = xs } in
    let c : Creation = get_or xs place d in
    let sent : Creation → Option (ℕ × ℕ × Cred) = λ x. Some (x.server, x.name, record { 0 = owner }) in
    record {
      call = subst (λ (o : Option ℕ). create_at all (sent (get_or ys place d)) o) (sym is) (subst (λ (o : Option Creation). create_there o (sent (get_or ys place d)) owner) (sym (slice_get-get_or xs place d within)) (ap (λ l. sent (get_or l place d)) same_ys));
      file = put_here owner xs ys zs (position (λ x. waits x.stage) xs) place d new (λ x. in_stage x (Out xid 0)) is within same_ys same_zs does;
    }
