-- A change of one client's opens among those of all.
use Rattle.std.proofs.Common.{◌≡◌, ℕ, Bool, true, false, not, cond, eqb, List, [], ◌∷◌, filter, Option, refl, sym, ap, subst, ◌∙◌}
use Rattle.std.proofs.lemmas.Bool.{eq-eqb, eqb-true}
use Rattle.cluster_model.specs.declared.ids.FileId.{FileId}
use Rattle.open_state.specs.declared.open.Open.{Open}
use Rattle.open_state.specs.Opens.{OpensValue, opens_in, opens_of, open_of, is_other, put_opens, set_opens, without_opens, given, opens_with, opened, closed, ended, ClosesOpen}
use Rattle.open_state.specs.OneClient.{HasOpens}
use Rattle.open_state.proofs.OfClients.{turned}

module _ (client : ℕ) (opens : List Open) where
  own : (es : List (ℕ × List Open)) → opens_in ((client, opens) ∷ es) client ≡ opens
  own es = ap (λ b. cond b opens (opens_in es client)) (eq-eqb client client refl)

  put_its : (es : List (ℕ × List Open)) → opens_in (put_opens client opens es) client ≡ opens
  put_its [] = own []
  put_its (e ∷ es) = by_case (eqb e.0 client) refl (put_its es)
    where
      by_case : (b : Bool) → eqb e.0 client ≡ b → opens_in (put_opens client opens es) client ≡ opens → opens_in (put_opens client opens (e ∷ es)) client ≡ opens
      by_case true here rest = ap (λ b. opens_in (cond b ((client, opens) ∷ es) (e ∷ put_opens client opens es)) client) here ∙ own es
      by_case false behind rest =
          ap (λ b. opens_in (cond b ((client, opens) ∷ es) (e ∷ put_opens client opens es)) client) behind
          ∙ ap (λ b. cond b e.1 (opens_in (put_opens client opens es) client)) behind
          ∙ rest

  -- a client that has none gets none
  set_its : (es : List (ℕ × List Open)) → (opens_in es client ≡ [] → opens ≡ []) → opens_in (set_opens client opens es) client ≡ opens
  set_its [] empty = sym (empty refl)
  set_its (e ∷ es) empty = by_case (eqb e.0 client) refl (set_its es)
    where
      by_case : (b : Bool) → eqb e.0 client ≡ b → ((opens_in es client ≡ [] → opens ≡ []) → opens_in (set_opens client opens es) client ≡ opens) → opens_in (set_opens client opens (e ∷ es)) client ≡ opens
      by_case true here rest = ap (λ b. opens_in (cond b ((client, opens) ∷ es) (e ∷ set_opens client opens es)) client) here ∙ own es
      by_case false behind rest =
          ap (λ b. opens_in (cond b ((client, opens) ∷ es) (e ∷ set_opens client opens es)) client) behind
          ∙ ap (λ b. cond b e.1 (opens_in (set_opens client opens es) client)) behind
          ∙ rest (λ none. empty (ap (λ b. cond b e.1 (opens_in es client)) behind ∙ none))

  module _ (other : ℕ) (apart : eqb other client ≡ false) where
    foreign : (xs : List Open) (es : List (ℕ × List Open)) → opens_in ((client, xs) ∷ es) other ≡ opens_in es other
    foreign xs es = ap (λ b. cond b xs (opens_in es other)) (turned client other ∙ apart)

    passed : (e : ℕ × List Open) (es : List (ℕ × List Open)) → eqb e.0 client ≡ true → opens_in (e ∷ es) other ≡ opens_in es other
    passed e es here = ap (λ (k : ℕ). opens_in ((k, e.1) ∷ es) other) (eqb-true e.0 client here) ∙ foreign e.1 es

    put_others : (es : List (ℕ × List Open)) → opens_in (put_opens client opens es) other ≡ opens_in es other
    put_others [] = foreign opens []
    put_others (e ∷ es) = by_case (eqb e.0 client) refl (put_others es)
      where
        by_case : (b : Bool) → eqb e.0 client ≡ b → opens_in (put_opens client opens es) other ≡ opens_in es other → opens_in (put_opens client opens (e ∷ es)) other ≡ opens_in (e ∷ es) other
        by_case true here rest = ap (λ b. opens_in (cond b ((client, opens) ∷ es) (e ∷ put_opens client opens es)) other) here ∙ foreign opens es ∙ sym (passed e es here)
        by_case false behind rest =
            ap (λ b. opens_in (cond b ((client, opens) ∷ es) (e ∷ put_opens client opens es)) other) behind ∙ ap (λ (l : List Open). cond (eqb e.0 other) e.1 l) rest

    set_others : (es : List (ℕ × List Open)) → opens_in (set_opens client opens es) other ≡ opens_in es other
    set_others [] = refl
    set_others (e ∷ es) = by_case (eqb e.0 client) refl (set_others es)
      where
        by_case : (b : Bool) → eqb e.0 client ≡ b → opens_in (set_opens client opens es) other ≡ opens_in es other → opens_in (set_opens client opens (e ∷ es)) other ≡ opens_in (e ∷ es) other
        by_case true here rest = ap (λ b. opens_in (cond b ((client, opens) ∷ es) (e ∷ set_opens client opens es)) other) here ∙ foreign opens es ∙ sym (passed e es here)
        by_case false behind rest =
            ap (λ b. opens_in (cond b ((client, opens) ∷ es) (e ∷ set_opens client opens es)) other) behind ∙ ap (λ (l : List Open). cond (eqb e.0 other) e.1 l) rest

cut_its : (client : ℕ) (es : List (ℕ × List Open)) → opens_in (without_opens client es) client ≡ []
cut_its client [] = refl
cut_its client (e ∷ es) = by_case (eqb e.0 client) refl (cut_its client es)
  where
    by_case : (b : Bool) → eqb e.0 client ≡ b → opens_in (without_opens client es) client ≡ [] → opens_in (without_opens client (e ∷ es)) client ≡ []
    by_case true here rest = ap (λ b. opens_in (cond (not b) (e ∷ without_opens client es) (without_opens client es)) client) here ∙ rest
    by_case false behind rest =
        ap (λ b. opens_in (cond (not b) (e ∷ without_opens client es) (without_opens client es)) client) behind
        ∙ ap (λ b. cond b e.1 (opens_in (without_opens client es) client)) behind
        ∙ rest

cut_others : (client other : ℕ) → eqb other client ≡ false → (es : List (ℕ × List Open)) → opens_in (without_opens client es) other ≡ opens_in es other
cut_others client other apart [] = refl
cut_others client other apart (e ∷ es) = by_case (eqb e.0 client) refl (cut_others client other apart es)
  where
    by_case : (b : Bool) → eqb e.0 client ≡ b → opens_in (without_opens client es) other ≡ opens_in es other → opens_in (without_opens client (e ∷ es)) other ≡ opens_in (e ∷ es) other
    by_case true here rest =
        ap (λ b. opens_in (cond (not b) (e ∷ without_opens client es) (without_opens client es)) other) here ∙ rest ∙ sym (passed client [] other apart e es here)
    by_case false behind rest =
        ap (λ b. opens_in (cond (not b) (e ∷ without_opens client es) (without_opens client es)) other) behind ∙ ap (λ (l : List Open). cond (eqb e.0 other) e.1 l) rest

-- ---- the calls

pub opened_has : (s : OpensValue) (client : ℕ) (file : FileId)
    → HasOpens s client (opens_with (open_of s client file) (given (open_of s client file) file s.last) (opens_of s client)) (opened s client file)
opened_has s client file =
    let opens : List Open = opens_with (open_of s client file) (given (open_of s client file) file s.last) (opens_of s client) in
    record { its = put_its client opens s.clients; others = λ other apart. put_others client opens other apart s.clients }

pub closed_has : (s : OpensValue) (client : ℕ) (file : FileId) → HasOpens s client (filter (is_other file) (opens_of s client)) (closed s client file)
closed_has s client file =
    let opens : List Open = filter (is_other file) (opens_of s client) in
    record { its = set_its client opens s.clients (λ none. ap (filter (is_other file)) none); others = λ other apart. set_others client opens other apart s.clients }

pub ended_has : (s : OpensValue) (client : ℕ) → HasOpens s client [] (ended s client)
ended_has s client = record { its = cut_its client s.clients; others = λ other apart. cut_others client other apart s.clients }

-- the same of a value that is such
pub closes_has : (old new : OpensValue) (client : ℕ) (file : FileId) (r : Option Open) → ClosesOpen old client file r new → HasOpens old client (filter (is_other file) (opens_of old client)) new
closes_has old new client file r did = subst (λ (n : OpensValue). HasOpens old client (filter (is_other file) (opens_of old client)) n) (sym did.leaves) (closed_has old client file)

pub ends_has : (old new : OpensValue) (client : ℕ) → new ≡ ended old client → HasOpens old client [] new
ends_has old new client did = subst (λ (n : OpensValue). HasOpens old client [] n) (sym did) (ended_has old client)
