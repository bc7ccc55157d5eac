-- EXCHANGE_ID, case by case.
use Rattle.std.proofs.Common.{◌≡◌, ℕ, zero, suc, ◌+◌, ◌<◌, Bool, true, false, List, [], ◌∷◌, ◌++◌, length, Option, Some, None, refl, sym, ap, ◌∙◌, arith}
use Rattle.std.specs.Prelude.{remove, if◌then◌else◌, option_copied}
use Rattle.std.specs.List.{find, list_any}
use Rattle.std.specs.Borrow.{Bor}
use Rattle.std.proofs.lemmas.Option.{same_Some}
use Rattle.nfs4_session.specs.declared.faults.Exchanged.{Exchanged}
use Rattle.nfs4_session.specs.Clients.{ClientState, SessionsState, has_id, change_first, renewed_at, with_clients}
use Rattle.nfs4_session.specs.ExchangeIds.{ExchangeCase, IsKnown, IsAgain, ReplacesUnconfirmed, Restarts, IsNewOwner, is_by, is_unconfirmed_of, is_confirmed_of, case_of_confirmed, case_of_unconfirmed, case_of_others, exchange_case, exchange_fault, new_client, given_client, exchanged, with_new_client, after_exchange}
use Rattle.nfs4_session.specs.Exchanging.{record_known}
use Rattle.nfs4_session.proofs.FirstLemmas.{FoundAt, IsMissing}

remove_push : {X : Type 0} (xs : List X) (x : X) (i : ℕ) → i < length xs → remove (xs ++ x ∷ []) i ≡ remove xs i ++ x ∷ []
remove_push [] x i within = absurd (omega (arith, within))
remove_push (y ∷ xs) x zero within = refl
remove_push (y ∷ xs) x (suc i) within = ap (λ ys. y ∷ ys) (remove_push xs x i (omega (arith, within)))

-- an unconfirmed record is thrown away behind the new one
pub takes_over : (s mid after : SessionsState) (v o : List ℕ) (now place : ℕ) → FoundAt (is_unconfirmed_of o) s.clients place
    → mid ≡ with_new_client s s.clients (new_client s v o now) → after ≡ with_clients mid (remove mid.clients place) → after ≡ after_exchange s v o now (case_of_others s.clients o)
takes_over s mid after v o now place there made gone =
    gone ∙ ap (λ (m : SessionsState). with_clients m (remove m.clients place)) made
    ∙ ap (λ cs. record { boot = s.boot; clients = cs; ids = s.ids + 1; numbers = s.numbers }) (remove_push s.clients (new_client s v o now) place there.within)
    ∙ ap (λ cs. with_new_client s cs (new_client s v o now)) (sym there.removes)
    ∙ sym (ap (λ b. after_exchange s v o now (if b then ReplacesUnconfirmed else (if list_any (is_confirmed_of o) s.clients then Restarts else IsNewOwner))) there.some)

pub takes_new : (s mid : SessionsState) (v o : List ℕ) (now : ℕ) → IsMissing (is_unconfirmed_of o) s.clients
    → mid ≡ with_new_client s s.clients (new_client s v o now) → mid ≡ after_exchange s v o now (case_of_others s.clients o)
takes_new s mid v o now gone made =
    made ∙ by_case (list_any (is_confirmed_of o) s.clients)
    ∙ sym (ap (λ b. after_exchange s v o now (if b then ReplacesUnconfirmed else (if list_any (is_confirmed_of o) s.clients then Restarts else IsNewOwner))) gone.none)
  where
    by_case : (b : Bool) → with_new_client s s.clients (new_client s v o now) ≡ after_exchange s v o now (if b then Restarts else IsNewOwner)
    by_case true = refl
    by_case false = refl

pub known_again : (cs : List ClientState) (v o : List ℕ) (c : ClientState) → find (is_by true v o) cs ≡ None → find (is_by false v o) cs ≡ Some c → record_known (exchange_case cs v o) ≡ Some (exchanged c)
known_again cs v o c none again =
    ap (λ f. record_known (case_of_confirmed cs v o f)) none ∙ ap (λ f. record_known (case_of_unconfirmed cs o f)) again

-- no reference was found
pub copied_none : {X : Type 0} (o : Option (Bor X)) (p : Option X) → option_copied o ≡ p → ((x : Bor X) → o ≡ Some x → ⊥) → p ≡ None
copied_none None p same none = sym same
copied_none (Some x) p same none = absurd (none x refl)

pub exchanges_known : (s s' : SessionsState) (v o : List ℕ) (now : ℕ) (known : Exchanged) (case : ExchangeCase) → record_known case ≡ Some known
    → s' ≡ with_clients s (change_first (has_id known.client) (renewed_at now) s.clients)
    → (exchange_fault s case ≡ None) × (known ≡ exchanged (given_client s v o now case)) × (s' ≡ after_exchange s v o now case)
exchanges_known s s' v o now known (IsKnown c) is does =
    let same : exchanged c ≡ known = same_Some (exchanged c) known is in
    (refl, sym same, does ∙ ap (λ (k : Exchanged). with_clients s (change_first (has_id k.client) (renewed_at now) s.clients)) (sym same))
exchanges_known s s' v o now known (IsAgain c) is does =
    let same : exchanged c ≡ known = same_Some (exchanged c) known is in
    (refl, sym same, does ∙ ap (λ (k : Exchanged). with_clients s (change_first (has_id k.client) (renewed_at now) s.clients)) (sym same))
exchanges_known s s' v o now known ReplacesUnconfirmed is does = absurd (cc (is))
exchanges_known s s' v o now known Restarts is does = absurd (cc (is))
exchanges_known s s' v o now known IsNewOwner is does = absurd (cc (is))
