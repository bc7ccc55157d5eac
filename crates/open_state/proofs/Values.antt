-- What the calls owe, by what was done to the lists of all clients.
use Rattle.std.proofs.Common.{◌≡◌, ℕ, ◌+◌, ◌<◌, ◌≤◌, Bool, true, false, not, cond, eqb, nat_eq, List, [], ◌∷◌, ◌++◌, length, map, filter, Option, Some, None, Ok, Err, refl, sym, ap, subst, ◌∙◌}
use Rattle.std.specs.Prelude.{find}
use Rattle.std.specs.Map.{lookup}
use Rattle.std.specs.Option.{option_map}
use Rattle.std.proofs.lemmas.Bool.{lt-ltb, le-ltb, eq-eqb, ne_eqb}
use Rattle.std.proofs.lemmas.Option.{none-some}
use Rattle.cluster_model.specs.declared.ids.FileId.{FileId}
use Rattle.ff_xdr.specs.declared.error.NoMemory.{NoMemory as Wanted}
use Rattle.open_state.specs.declared.open.Open.{Open}
use Rattle.open_state.specs.declared.open.OpenFault.TheVariants.{TooMany, Spent, NoMemory}
use Rattle.open_state.specs.Opens.{OpensValue, opens_in, opens_of, open_of, is_of, is_other, put_opens, set_opens, without_opens, again, in_place, fault_at, open_fault, given, opens_with, last_with, opened, ended, Opens, Gives, Wants, ClosesOpen}
use Rattle.open_state.proofs.OfClients.{found_none, put_set, set_kept}

-- where no open is of a file, all are kept
pub all_kept : (file : FileId) (xs : List Open) → find (is_of file) xs ≡ None → filter (is_other file) xs ≡ xs
all_kept file [] none = refl
all_kept file (x ∷ xs) none = by_case (is_of file x) refl (all_kept file xs)
  where
    by_case : (b : Bool) → is_of file x ≡ b → (find (is_of file) xs ≡ None → filter (is_other file) xs ≡ xs) → filter (is_other file) (x ∷ xs) ≡ x ∷ xs
    by_case true here rest = absurd (none-some x (sym none ∙ ap (λ b. cond b (Some x) (find (is_of file) xs)) here))
    by_case false other rest =
        ap (λ b. cond (not b) (x ∷ filter (is_other file) xs) (filter (is_other file) xs)) other
        ∙ ap (λ (l : List Open). x ∷ l) (rest (sym (ap (λ b. cond b (Some x) (find (is_of file) xs)) other) ∙ none))

-- ---- OPEN

-- a client that has a file open has a place among all
has_place : (client : ℕ) (file : FileId) (was : Open) (opens : List Open) (es : List (ℕ × List Open)) → find (is_of file) (opens_in es client) ≡ Some was → put_opens client opens es ≡ set_opens client opens es
has_place client file was opens es is = by_case (lookup (nat_eq client) es) refl
  where
    by_case : (o : Option (List Open)) → lookup (nat_eq client) es ≡ o → put_opens client opens es ≡ set_opens client opens es
    by_case None none = absurd (none-some was (sym (ap (find (is_of file)) (found_none es client (sym none))) ∙ is))
    by_case (Some its) has = put_set client opens es its (sym has)

-- what an OPEN leaves, by the open that was found
abbrev opened_at : OpensValue → ℕ → FileId → Option Open → OpensValue
opened_at s client file found = record { clients = put_opens client (opens_with found (given found file s.last) (opens_of s client)) s.clients; last = last_with found s.last }

-- an answer and a value that are those of an OPEN
opened_so : (old new : OpensValue) (client : ℕ) (file : FileId) (o : Open) → open_fault old client file ≡ None → given (open_of old client file) file old.last ≡ o → opened old client file ≡ new → Opens old client file (Ok o) new
opened_so old new client file o none it leaves =
    subst (λ (n : OpensValue). Opens old client file (Ok o) n) leaves (subst (λ (x : Open). Opens old client file (Ok x) (opened old client file)) it (Gives none))

pub opened_again : (old : OpensValue) (client : ℕ) (file : FileId) (was o : Open) (lists : List (ℕ × List Open)) → open_of old client file ≡ Some was → o ≡ again was
    → lists ≡ set_opens client (map (in_place o) (opens_of old client)) old.clients → Opens old client file (Ok o) (record { clients = lists; last = old.last })
opened_again old client file was o lists is does same =
    let opens = opens_of old client in
    let with_lists : List (ℕ × List Open) → OpensValue = λ l. record { clients = l; last = old.last } in
    let its : put_opens client (map (in_place (again was)) opens) old.clients ≡ lists =
    ap (λ x. put_opens client (map (in_place x) opens) old.clients) (sym does) ∙ has_place client file was (map (in_place o) opens) old.clients is ∙ sym same in
    opened_so old (record { clients = lists; last = old.last }) client file o
    (ap (λ x. fault_at x (length opens) old.last) is)
    (ap (λ x. given x file old.last) is ∙ sym does)
    (ap (opened_at old client file) is ∙ ap with_lists its)

pub opened_new : (old : OpensValue) (client : ℕ) (file : FileId) (lists : List (ℕ × List Open)) → open_of old client file ≡ None → length (opens_of old client) < 64 → (old.last ≡ 4294967295 → ⊥)
    → lists ≡ put_opens client (opens_of old client ++ record { file = file; number = old.last + 1; seqid = 1 } ∷ []) old.clients
    → Opens old client file (Ok (record { file = file; number = old.last + 1; seqid = 1 })) (record { clients = lists; last = old.last + 1 })
opened_new old client file lists is few left same =
    let opens = opens_of old client in
    let with_lists : List (ℕ × List Open) → OpensValue = λ l. record { clients = l; last = old.last + 1 } in
    opened_so old (record { clients = lists; last = old.last + 1 }) client file (record { file = file; number = old.last + 1; seqid = 1 })
    (ap (λ x. fault_at x (length opens) old.last) is
    ∙ ap (λ t. cond t (cond (eqb old.last 4294967295) (Some Spent) None) (Some TooMany)) (lt-ltb (length opens) 64 few)
    ∙ ap (λ t. cond t (Some Spent) None) (ne_eqb old.last 4294967295 left))
    (ap (λ x. given x file old.last) is)
    (ap (opened_at old client file) is ∙ ap with_lists (sym same))

pub too_many : (old : OpensValue) (client : ℕ) (file : FileId) → open_of old client file ≡ None → 64 ≤ length (opens_of old client) → open_fault old client file ≡ Some TooMany
too_many old client file is full =
    let count = length (opens_of old client) in
    ap (λ x. fault_at x count old.last) is
    ∙ ap (λ t. cond t (cond (eqb old.last 4294967295) (Some Spent) None) (Some TooMany)) (le-ltb count 64 full)

pub spent : (old : OpensValue) (client : ℕ) (file : FileId) → open_of old client file ≡ None → length (opens_of old client) < 64 → old.last ≡ 4294967295 → open_fault old client file ≡ Some Spent
spent old client file is few last =
    let count = length (opens_of old client) in
    ap (λ x. fault_at x count old.last) is
    ∙ ap (λ t. cond t (cond (eqb old.last 4294967295) (Some Spent) None) (Some TooMany)) (lt-ltb count 64 few)
    ∙ ap (λ t. cond t (Some Spent) None) (eq-eqb old.last 4294967295 last)

pub wanted : (old : OpensValue) (client : ℕ) (file : FileId) (e : Wanted) (lists : List (ℕ × List Open)) → lists ≡ old.clients → Opens old client file (Err (NoMemory e)) (record { clients = lists; last = old.last })
wanted old client file e lists same =
    subst (λ (l : List (ℕ × List Open)). Opens old client file (Err (NoMemory e)) (record { clients = l; last = old.last })) (sym same) (Wants e)

-- ---- CLOSE

pub closed_none : (old : OpensValue) (client : ℕ) (file : FileId) → open_of old client file ≡ None → ClosesOpen old client file None old
closed_none old client file is =
    let opens = opens_of old client in
    let with_lists : List (ℕ × List Open) → OpensValue = λ l. record { clients = l; last = old.last } in
    record {
      told = sym (ap (option_map again) is);
      leaves = ap with_lists (sym (set_kept client (filter (is_other file) opens) old.clients (sym (all_kept file opens is))));
    }

pub closed_one : (old : OpensValue) (client : ℕ) (file : FileId) (was o : Open) (lists : List (ℕ × List Open)) → open_of old client file ≡ Some was → o ≡ again was
    → lists ≡ set_opens client (filter (is_other file) (opens_of old client)) old.clients → ClosesOpen old client file (Some o) (record { clients = lists; last = old.last })
closed_one old client file was o lists is does same =
    let with_lists : List (ℕ × List Open) → OpensValue = λ l. record { clients = l; last = old.last } in
    record { told = ap Some does ∙ sym (ap (option_map again) is); leaves = ap with_lists same }

-- ---- a client's end

pub ended_so : (old : OpensValue) (client : ℕ) (lists : List (ℕ × List Open)) → lists ≡ without_opens client old.clients → record { clients = lists; last = old.last } ≡ ended old client
ended_so old client lists same = let with_lists : List (ℕ × List Open) → OpensValue = λ l. record { clients = l; last = old.last } in ap with_lists same
