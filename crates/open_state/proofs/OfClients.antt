-- The lists of all clients, by what a map of them says.
use Rattle.std.proofs.Common.{◌≡◌, ℕ, ◌+◌, ◌<◌, Bool, true, false, not, cond, eqb, nat_eq, List, [], ◌∷◌, ◌++◌, length, map, take, drop, set, get_or, Some, None, refl, sym, ap, ◌∙◌, arith}
use Rattle.std.specs.Map.{lookup, set_value, remove_entry}
use Rattle.indexmap.specs.IndexMap.{insert_entry}
use Rattle.std.specs.Option.{unwrap_or}
use Rattle.std.proofs.lemmas.Bool.{eq-eqb, ne_eqb, eqb-true, eqb-false}
use Rattle.std.proofs.lemmas.List.{get_or_default}
use Rattle.std.proofs.lemmas.List.Edits.{map_over_more}
use Rattle.std.proofs.lemmas.Option.{same_Some, none-some}
use Rattle.open_state.specs.declared.open.Open.{Open}
use Rattle.open_state.specs.Opens.{opens_in, put_opens, set_opens, without_opens}

pub turned : (a b : ℕ) → eqb a b ≡ eqb b a
turned a b = by_case (eqb a b) refl
  where
    by_case : (t : Bool) → eqb a b ≡ t → t ≡ eqb b a
    by_case true same = sym (eq-eqb b a (sym (eqb-true a b same)))
    by_case false other = sym (ne_eqb b a (λ same. eqb-false a b other (sym same)))

-- the map's search is `opens_in`
pub found : (es : List (ℕ × List Open)) (client : ℕ) → opens_in es client ≡ unwrap_or (lookup (nat_eq client) es) []
found [] client = refl
found (e ∷ es) client =
    ap (λ b. cond b e.1 (opens_in es client)) (turned e.0 client) ∙ by_case (eqb client e.0) (found es client)
  where
    by_case : (b : Bool) → opens_in es client ≡ unwrap_or (lookup (nat_eq client) es) [] → cond b e.1 (opens_in es client) ≡ unwrap_or (cond b (Some e.1) (lookup (nat_eq client) es)) []
    by_case true rest = refl
    by_case false rest = rest

-- where the map has a list
pub found_some : (es : List (ℕ × List Open)) (client : ℕ) (opens : List Open) → Some opens ≡ lookup (nat_eq client) es → opens_in es client ≡ opens
found_some es client opens is = found es client ∙ ap (λ o. unwrap_or o []) (sym is)

-- and where it has none
pub found_none : (es : List (ℕ × List Open)) (client : ℕ) → None ≡ lookup (nat_eq client) es → opens_in es client ≡ []
found_none es client is = found es client ∙ ap (λ o. unwrap_or o []) (sym is)

-- what is written over the same changes nothing
pub set_same : (test : ℕ → Bool) (es : List (ℕ × List Open)) (was opens : List Open) → Some was ≡ lookup test es → opens ≡ was → set_value test es opens ≡ es
set_same test [] was opens is same = refl
set_same test (e ∷ es) was opens is same = by_case (test e.0) refl (set_same test es was opens)
  where
    by_case : (b : Bool) → test e.0 ≡ b → (Some was ≡ lookup test es → opens ≡ was → set_value test es opens ≡ es) → set_value test (e ∷ es) opens ≡ e ∷ es
    by_case true here rest =
        let first : Some was ≡ Some e.1 = is ∙ ap (λ b. cond b (Some e.1) (lookup test es)) here in
        ap (λ b. cond b ((e.0, opens) ∷ es) (e ∷ set_value test es opens)) here
        ∙ ap (λ (l : List Open). (e.0, l) ∷ es) (same ∙ same_Some was e.1 first)
    by_case false behind rest =
        let later : Some was ≡ lookup test es = is ∙ ap (λ b. cond b (Some e.1) (lookup test es)) behind in
        ap (λ b. cond b ((e.0, opens) ∷ es) (e ∷ set_value test es opens)) behind
        ∙ ap (λ (l : List (ℕ × List Open)). e ∷ l) (rest later same)

-- what was done to each up to a place is done to the next
pub next_done : {X : Type 0} (f : X → X) (xs ys : List X) (i : ℕ) (d new : X) → i < length xs → length ys ≡ length xs
    → ys ≡ map f (take i xs) ++ drop i xs → new ≡ f (get_or ys i d) → set ys i new ≡ map f (take (i + 1) xs) ++ drop (i + 1) xs
next_done {X} f xs ys i d new within same so_far does =
    let x : X = get_or ys i d in
    ap (set ys i) does ∙ map_over_more f xs ys i x within so_far (get_or_default ys i d x (omega (arith, within, same)))

module _ (client : ℕ) (opens : List Open) where
  -- the map's write to what it has is `set_opens`
  pub set_is : (es : List (ℕ × List Open)) → set_value (nat_eq client) es opens ≡ set_opens client opens es
  set_is [] = refl
  set_is (e ∷ es) = by_case (eqb client e.0) refl (set_is es)
    where
      by_case : (b : Bool) → eqb client e.0 ≡ b → set_value (nat_eq client) es opens ≡ set_opens client opens es → set_value (nat_eq client) (e ∷ es) opens ≡ set_opens client opens (e ∷ es)
      by_case true here rest =
          ap (λ b. cond b ((e.0, opens) ∷ es) (e ∷ set_value (nat_eq client) es opens)) here
          ∙ ap (λ (k : ℕ). (k, opens) ∷ es) (sym (eqb-true client e.0 here))
          ∙ sym (ap (λ b. cond b ((client, opens) ∷ es) (e ∷ set_opens client opens es)) (turned e.0 client ∙ here))
      by_case false behind rest =
          ap (λ b. cond b ((e.0, opens) ∷ es) (e ∷ set_value (nat_eq client) es opens)) behind
          ∙ ap (λ (l : List (ℕ × List Open)). e ∷ l) rest
          ∙ sym (ap (λ b. cond b ((client, opens) ∷ es) (e ∷ set_opens client opens es)) (turned e.0 client ∙ behind))

  -- its insert is `put_opens`
  pub put_is : (es : List (ℕ × List Open)) → insert_entry nat_eq es client opens ≡ put_opens client opens es
  put_is [] = refl
  put_is (e ∷ es) = by_case (eqb client e.0) refl (put_is es)
    where
      by_case : (b : Bool) → eqb client e.0 ≡ b → insert_entry nat_eq es client opens ≡ put_opens client opens es → insert_entry nat_eq (e ∷ es) client opens ≡ put_opens client opens (e ∷ es)
      by_case true here rest =
          ap (λ b. cond b ((e.0, opens) ∷ es) (e ∷ insert_entry nat_eq es client opens)) here
          ∙ ap (λ (k : ℕ). (k, opens) ∷ es) (sym (eqb-true client e.0 here))
          ∙ sym (ap (λ b. cond b ((client, opens) ∷ es) (e ∷ put_opens client opens es)) (turned e.0 client ∙ here))
      by_case false behind rest =
          ap (λ b. cond b ((e.0, opens) ∷ es) (e ∷ insert_entry nat_eq es client opens)) behind
          ∙ ap (λ (l : List (ℕ × List Open)). e ∷ l) rest
          ∙ sym (ap (λ b. cond b ((client, opens) ∷ es) (e ∷ put_opens client opens es)) (turned e.0 client ∙ behind))

  -- where the map has a list the two are one
  pub put_set : (es : List (ℕ × List Open)) (was : List Open) → Some was ≡ lookup (nat_eq client) es → put_opens client opens es ≡ set_opens client opens es
  put_set [] was is = absurd (none-some was (sym is))
  put_set (e ∷ es) was is = by_case (eqb client e.0) refl (put_set es was)
    where
      by_case : (b : Bool) → eqb client e.0 ≡ b → (Some was ≡ lookup (nat_eq client) es → put_opens client opens es ≡ set_opens client opens es) → put_opens client opens (e ∷ es) ≡ set_opens client opens (e ∷ es)
      by_case true here rest =
          ap (λ b. cond b ((client, opens) ∷ es) (e ∷ put_opens client opens es)) (turned e.0 client ∙ here)
          ∙ sym (ap (λ b. cond b ((client, opens) ∷ es) (e ∷ set_opens client opens es)) (turned e.0 client ∙ here))
      by_case false behind rest =
          ap (λ b. cond b ((client, opens) ∷ es) (e ∷ put_opens client opens es)) (turned e.0 client ∙ behind)
          ∙ ap (λ (l : List (ℕ × List Open)). e ∷ l) (rest (is ∙ ap (λ b. cond b (Some e.1) (lookup (nat_eq client) es)) behind))
          ∙ sym (ap (λ b. cond b ((client, opens) ∷ es) (e ∷ set_opens client opens es)) (turned e.0 client ∙ behind))

  -- what stood there already changes nothing
  pub set_kept : (es : List (ℕ × List Open)) → opens_in es client ≡ opens → set_opens client opens es ≡ es
  set_kept [] same = refl
  set_kept (e ∷ es) same = by_case (eqb e.0 client) refl (set_kept es)
    where
      by_case : (b : Bool) → eqb e.0 client ≡ b → (opens_in es client ≡ opens → set_opens client opens es ≡ es) → set_opens client opens (e ∷ es) ≡ e ∷ es
      by_case true here rest =
          let its : e.1 ≡ opens = sym (ap (λ b. cond b e.1 (opens_in es client)) here) ∙ same in
          ap (λ b. cond b ((client, opens) ∷ es) (e ∷ set_opens client opens es)) here
          ∙ ap (λ (k : ℕ). (k, opens) ∷ es) (sym (eqb-true e.0 client here))
          ∙ ap (λ (l : List Open). (e.0, l) ∷ es) (sym its)
      by_case false behind rest =
          ap (λ b. cond b ((client, opens) ∷ es) (e ∷ set_opens client opens es)) behind
          ∙ ap (λ (l : List (ℕ × List Open)). e ∷ l) (rest (sym (ap (λ b. cond b e.1 (opens_in es client)) behind) ∙ same))

-- nothing is written where the map has no list
pub set_none : (client : ℕ) (f : List Open → List Open) (es : List (ℕ × List Open)) → None ≡ lookup (nat_eq client) es → f [] ≡ [] → set_opens client (f (opens_in es client)) es ≡ es
set_none client f es none empty =
    let nothing : opens_in es client ≡ [] = found_none es client none in
    set_kept client (f (opens_in es client)) es (nothing ∙ sym empty ∙ ap f (sym nothing))

module _ (client : ℕ) where
  -- the first of the client's is taken out, and then all
  cut_first : (es : List (ℕ × List Open)) → without_opens client (remove_entry (nat_eq client) es) ≡ without_opens client es
  cut_first [] = refl
  cut_first (e ∷ es) = by_case (eqb client e.0) refl (cut_first es)
    where
      by_case : (b : Bool) → eqb client e.0 ≡ b → without_opens client (remove_entry (nat_eq client) es) ≡ without_opens client es → without_opens client (remove_entry (nat_eq client) (e ∷ es)) ≡ without_opens client (e ∷ es)
      by_case true here rest =
          ap (λ b. without_opens client (cond b es (e ∷ remove_entry (nat_eq client) es))) here
          ∙ sym (ap (λ b. cond (not b) (e ∷ without_opens client es) (without_opens client es)) (turned e.0 client ∙ here))
      by_case false other rest =
          ap (λ b. without_opens client (cond b es (e ∷ remove_entry (nat_eq client) es))) other
          ∙ ap (λ l. cond (not (eqb e.0 client)) (e ∷ l) l) rest

  -- where the map has none, all are kept
  cut_none : (es : List (ℕ × List Open)) → lookup (nat_eq client) es ≡ None → without_opens client es ≡ es
  cut_none [] none = refl
  cut_none (e ∷ es) none = by_case (eqb client e.0) refl (cut_none es)
    where
      by_case : (b : Bool) → eqb client e.0 ≡ b → (lookup (nat_eq client) es ≡ None → without_opens client es ≡ es) → without_opens client (e ∷ es) ≡ e ∷ es
      by_case true here rest = absurd (none-some e.1 (sym none ∙ ap (λ b. cond b (Some e.1) (lookup (nat_eq client) es)) here))
      by_case false other rest =
          ap (λ b. cond (not b) (e ∷ without_opens client es) (without_opens client es)) (turned e.0 client ∙ other)
          ∙ ap (λ (l : List (ℕ × List Open)). e ∷ l) (rest (sym (ap (λ b. cond b (Some e.1) (lookup (nat_eq client) es)) other) ∙ none))

  -- a map has a client once, so that what it removes are all of the client's
  pub removed : (old new : List (ℕ × List Open)) → new ≡ remove_entry (nat_eq client) old → lookup (nat_eq client) new ≡ None → new ≡ without_opens client old
  removed old new is gone = sym (cut_none new gone) ∙ ap (without_opens client) is ∙ cut_first old
