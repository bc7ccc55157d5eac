-- A CREATE_SESSION that is answered with a session: whose the session is.
use Rattle.std.proofs.Common.{◌≡◌, ◌≤◌, ◌<◌, ℕ, Bool, true, false, List, [], ◌∷◌, ◌++◌, length, take, drop, Option, Some, None, refl, sym, ap, subst, ◌∙◌, arith}
use Rattle.std.specs.Prelude.{◌==◌, ◌&&◌, ◌^◌, not, nat_lt, if◌then◌else◌}
use Rattle.std.specs.Int.{w64, from_be_bytes}
use Rattle.std.specs.List.{find}
use Rattle.std.proofs.lemmas.Bool.{cond_both, eqb-true}
use Rattle.std.proofs.lemmas.Nat.{from_be_bytes-to_be_bytes_8}
use Rattle.std.proofs.lemmas.List.{length-append}
use Rattle.ff_xdr.specs.Form.{long}
use Rattle.ff_xdr.proofs.CutShort.{length-long}
use Rattle.cluster_model.specs.Members.{IsOneOf}
use Rattle.nfs4_session.specs.declared.client.TheConstants.{MAX_SESSIONS}
use Rattle.nfs4_session.specs.Clients.{ClientState, MadeSession, SessionsState, client_id, session_id, client_in, number_in, has_id}
use Rattle.nfs4_session.specs.CreateSessions.{CreateSessionCase, IsDue, IsReplay, IsMisordered, HasNoRoom, IsStale, numbers_are_spent, case_by_next, case_by_last, case_by_client, create_session_case}
use Rattle.mds_walk.proofs.Lists.{found_in, found_passes}
use Rattle.mds_replies.proofs.TableKeys.{FitsMade}
use Rattle.mds_replies.proofs.ClientRecords.{IsTable}

-- ---- a session's id names its client

take_front : (xs ys : List ℕ) → take (length xs) (xs ++ ys) ≡ xs
take_front [] ys = refl
take_front (x ∷ xs) ys = ap (λ (l : List ℕ). x ∷ l) (take_front xs ys)

long_again : (n : ℕ) → n < 2 ^ 64 → from_be_bytes w64 (long n) ≡ n
unfolding long
long_again n less = from_be_bytes-to_be_bytes_8 n less

pub session_client : (client number : ℕ) → client < 2 ^ 64 → client_in (session_id client number) ≡ client
session_client client number less =
    ap (λ (n : ℕ). from_be_bytes w64 (take n (long client ++ long number))) (sym (length-long client)) ∙ ap (from_be_bytes w64) (take_front (long client) (long number)) ∙ long_again client less

drop_front : (xs ys : List ℕ) → drop (length xs) (xs ++ ys) ≡ ys
drop_front [] ys = refl
drop_front (x ∷ xs) ys = drop_front xs ys

pub session_number : (client number : ℕ) → number < 2 ^ 64 → number_in (session_id client number) ≡ number
session_number client number less =
    ap (λ (n : ℕ). from_be_bytes w64 (drop n (long client ++ long number))) (sym (length-long client)) ∙ ap (from_be_bytes w64) (drop_front (long client) (long number)) ∙ long_again number less

pub session_length : (client number : ℕ) → length (session_id client number).0 ≡ 16
session_length client number = let size = length-append (long client) (long number) in let a = length-long client in let b = length-long number in omega (arith, size, a, b)

-- ---- what a case says of its call

-- the record is there, and the number fits
pub record IsKnown (s : SessionsState) (client sequence : ℕ) : Type 0 where
  pub within : client ≤ client_id 1 s.ids
  pub fits : sequence < 4294967296

abbrev pub Says : SessionsState → ℕ → ℕ → CreateSessionCase → Type 0
Says s client sequence (IsDue c) = IsKnown s client sequence
Says s client sequence (IsReplay number) = IsKnown s client sequence
Says s client sequence IsMisordered = Unit {0}
Says s client sequence HasNoRoom = Unit {0}
Says s client sequence IsStale = Unit {0}

module _ (s : SessionsState) (t : IsTable s) (client sequence : ℕ) where
  known : (c : ClientState) → IsOneOf c s.clients → c.id ≡ client → sequence < 4294967296 → IsKnown s client sequence
  known c inside is fits = record { within = subst (λ (n : ℕ). n ≤ client_id 1 s.ids) is (t.ids c inside); fits = fits }

  next_says : (c : ClientState) → IsOneOf c s.clients → c.id ≡ client → Says s client sequence (case_by_next s c sequence)
  next_says c inside is =
      cond_both (not (sequence == c.sequence)) IsMisordered (if nat_lt (length c.sessions) MAX_SESSIONS && not (numbers_are_spent s) then IsDue c else HasNoRoom) (Says s client sequence) (λ off. tt)
      (λ on.
      cond_both (nat_lt (length c.sessions) MAX_SESSIONS && not (numbers_are_spent s)) (IsDue c) HasNoRoom (Says s client sequence)
      (λ room. known c inside is (subst (λ (n : ℕ). n < 4294967296) (sym (eqb-true sequence c.sequence (it_is (sequence == c.sequence) on))) (t.sequences c inside).0)) (λ full. tt))
    where
      it_is : (b : Bool) → not b ≡ false → b ≡ true
      it_is true is = refl
      it_is false is = absurd cc

  last_says : (c : ClientState) → IsOneOf c s.clients → c.id ≡ client → (made : Option MadeSession) → c.made ≡ made → Says s client sequence (case_by_last s c sequence made)
  last_says c inside is None at = next_says c inside is
  last_says c inside is (Some made) at =
      cond_both (sequence == made.sequence) (IsReplay made.number) (case_by_next s c sequence) (Says s client sequence)
      (λ same. known c inside is (subst (λ (n : ℕ). n < 4294967296) (sym (eqb-true sequence made.sequence same)) (subst FitsMade at (t.sequences c inside).1))) (λ other. next_says c inside is)

  client_says : (o : Option ClientState) → find (has_id client) s.clients ≡ o → Says s client sequence (case_by_client s sequence o)
  client_says None is = tt
  client_says (Some c) is = last_says c (found_in (has_id client) s.clients c is) (eqb-true c.id client (found_passes (has_id client) s.clients c is)) c.made refl

  pub case_says : Says s client sequence (create_session_case s client sequence)
  case_says = client_says (find (has_id client) s.clients) refl

pub fits_long : (s : SessionsState) → IsTable s → (client sequence : ℕ) → IsKnown s client sequence → client < 2 ^ 64
fits_long s t client sequence k = let few : s.ids ≤ 4294967295 = t.few in let within : client ≤ client_id 1 s.ids = k.within in omega (arith, few, within)
