-- A log with more bodies goes on from what it said before them.
use Rattle.std.proofs.Common.{◌≡◌, ℕ, ◌+◌, true, List, [], ◌∷◌, ◌++◌, length, Option, Some, None, Result, Ok, Err, ap, ◌∙◌, arith}
use Rattle.std.proofs.lemmas.Option.{same_Some}
use Rattle.cluster_model.specs.Server.{ServerState}
use Rattle.gate_log.specs.Logs.{log_size}
use Rattle.ds_log.specs.Bodies.{Logged}
use Rattle.ds_log.specs.Durable.{applied, then_all, all_applied, applied_bytes, played, played_on, unbooted, ended_well, log_state_of}

pub played_append : (s mid : ServerState) (place : ℕ) (bodies more : List (List ℕ)) → played s place bodies ≡ Ok mid → played s place (bodies ++ more) ≡ played mid (place + log_size bodies) more
played_append s mid place [] more e =
    let same : s ≡ mid = cc (e) in
    let here : place ≡ place + 0 = omega arith in
    ap (λ (x : ServerState). played x place more) same ∙ ap (λ (n : ℕ). played mid n more) here
played_append s mid place (body ∷ bodies) more e = by_first (λ next. played_append next mid (place + 5 + length body) bodies more) (applied_bytes s body) e
  where
    by_first : ((next : ServerState) → played next (place + 5 + length body) bodies ≡ Ok mid → played next (place + 5 + length body) (bodies ++ more) ≡ played mid (place + 5 + length body + log_size bodies) more)
        → (o : Option ServerState) → played_on place bodies o (λ next. played next (place + 5 + length body) bodies) ≡ Ok mid
        → played_on place (bodies ++ more) o (λ next. played next (place + 5 + length body) (bodies ++ more)) ≡ played mid (place + log_size (body ∷ bodies)) more
    by_first rests None f = absurd (cc (f))
    by_first rests (Some next) f =
        let at : place + 5 + length body + log_size bodies ≡ place + (5 + length body + log_size bodies) = omega arith in
        rests next f ∙ ap (λ (n : ℕ). played mid n more) at

-- one body more: what it makes, or where it is bad
pub played_push : (s mid new : ServerState) (place : ℕ) (bodies : List (List ℕ)) (body : List ℕ) → played s place bodies ≡ Ok mid → applied_bytes mid body ≡ Some new → played s place (bodies ++ body ∷ []) ≡ Ok new
played_push s mid new place bodies body e made =
    played_append s mid place bodies (body ∷ []) e
    ∙ ap (λ (o : Option ServerState). played_on (place + log_size bodies) [] o (λ next. played next (place + log_size bodies + 5 + length body) [])) made

pub played_bad : (s mid : ServerState) (place : ℕ) (bodies more : List (List ℕ)) (body : List ℕ) → played s place bodies ≡ Ok mid → applied_bytes mid body ≡ None → played s place (bodies ++ body ∷ more) ≡ Err (place + log_size bodies)
played_bad s mid place bodies more body e none =
    played_append s mid place bodies (body ∷ more) e
    ∙ ap (λ (o : Option ServerState). played_on (place + log_size bodies) more o (λ next. played next (place + log_size bodies + 5 + length body) more)) none

-- the same of a whole log
pub log_push : (number : ℕ) (mid new : ServerState) (bodies : List (List ℕ)) (body : List ℕ) → log_state_of number (record { bodies = bodies; is_whole = true }) ≡ Ok mid → applied_bytes mid body ≡ Some new
    → log_state_of number (record { bodies = bodies ++ body ∷ []; is_whole = true }) ≡ Ok new
log_push number mid new bodies body e made =
    ap (ended_well (record { bodies = bodies ++ body ∷ []; is_whole = true })) (played_push (unbooted number) mid new 0 bodies body (well bodies (played (unbooted number) 0 bodies) e) made)
  where
    well : (all : List (List ℕ)) (r : Result ServerState ℕ) → ended_well (record { bodies = all; is_whole = true }) r ≡ Ok mid → r ≡ Ok mid
    well all (Ok s) f = f
    well all (Err place) f = absurd (cc (f))

-- ---- bodies that all fit

pub all_append : (s mid : ServerState) (bodies more : List Logged) → all_applied s bodies ≡ Some mid → all_applied s (bodies ++ more) ≡ all_applied mid more
all_append s mid [] more e = ap (λ (x : ServerState). all_applied x more) (same_Some s mid e)
all_append s mid (body ∷ bodies) more e = by_first (λ next. all_append next mid bodies more) (applied s body) e
  where
    by_first : ((next : ServerState) → all_applied next bodies ≡ Some mid → all_applied next (bodies ++ more) ≡ all_applied mid more)
        → (o : Option ServerState) → then_all o (λ next. all_applied next bodies) ≡ Some mid → then_all o (λ next. all_applied next (bodies ++ more)) ≡ all_applied mid more
    by_first rests None f = absurd (cc (f))
    by_first rests (Some next) f = rests next f
