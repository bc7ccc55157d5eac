-- What a journal notes of users' writes stays noted, and is of users that were granted a file.
use Rattle.std.proofs.Common.{◌≡◌, ℕ, ◌⊎◌, Bool, true, false, eqb, cond, List, [], ◌∷◌, ◌++◌, Option, Some, None, refl, sym, subst, inl, inr}
use Rattle.std.specs.Prelude.{◌||◌}
use Rattle.std.specs.List.{AllByRecursion}
use Rattle.std.proofs.lemmas.Bool.{eqb-true}
use Rattle.cluster_model.specs.declared.entry.Entry.{Entry}
use Rattle.cluster_model.specs.declared.entry.Entry.TheVariants as entry
use Rattle.cluster_model.specs.Content.{Pending}
use Rattle.cluster_laws.specs.Periods.{grants, was_granted}
use Rattle.cluster_laws.specs.Agreement.{a_write, sent_in, strayed_in, sent_of, rogue_of}
use Rattle.cluster_laws.specs.Holders.{IsIn}
use Rattle.cluster_laws.proofs.Lists.{all_more}
use Rattle.cluster_laws.proofs.Invariant.{If}
use Rattle.machine_walk.proofs.Writers.{writer_in, IsSilent}

-- ---- lists

pub in_left : (w : Pending) (xs ys : List Pending) → IsIn w xs → IsIn w (xs ++ ys)
in_left w [] ys h = absurd h
in_left w (x ∷ xs) ys (inl e) = inl e
in_left w (x ∷ xs) ys (inr h) = inr (in_left w xs ys h)

pub in_right : (w : Pending) (xs ys : List Pending) → IsIn w ys → IsIn w (xs ++ ys)
in_right w [] ys h = h
in_right w (x ∷ xs) ys h = inr (in_right w xs ys h)

pub in_either : (w : Pending) (xs ys : List Pending) → IsIn w (xs ++ ys) → IsIn w xs ⊎ IsIn w ys
in_either w [] ys h = inr h
in_either w (x ∷ xs) ys (inl e) = inl (inl e)
in_either w (x ∷ xs) ys (inr h) =
    elim (in_either w xs ys h) [
      | inl k ↦ inl (inr k)
      | inr k ↦ inr k
    ]

-- ---- a longer journal

pub sent_on : (w : Pending) (uid : ℕ) (a b : List Entry) → IsIn w (sent_of uid a) → IsIn w (sent_of uid (a ++ b))
sent_on w uid [] b h = absurd h
sent_on w uid (e ∷ a) b h =
    elim (in_either w (sent_in uid e) (sent_of uid a) h) [
      | inl k ↦ in_left w (sent_in uid e) (sent_of uid (a ++ b)) k
      | inr k ↦ in_right w (sent_in uid e) (sent_of uid (a ++ b)) (sent_on w uid a b k)
    ]

pub rogue_on : (w : Pending) (uid : ℕ) (a b : List Entry) → IsIn w (rogue_of uid a) → IsIn w (rogue_of uid (a ++ b))
rogue_on w uid [] b h = absurd h
rogue_on w uid (e ∷ a) b h =
    elim (in_either w (strayed_in uid e) (rogue_of uid a) h) [
      | inl k ↦ in_left w (strayed_in uid e) (rogue_of uid (a ++ b)) k
      | inr k ↦ in_right w (strayed_in uid e) (rogue_of uid (a ++ b)) (rogue_on w uid a b k)
    ]

pub noted_on : (w : Pending) (uid : ℕ) (a b : List Entry) → IsIn w (sent_of uid a) ⊎ IsIn w (rogue_of uid a) → IsIn w (sent_of uid (a ++ b)) ⊎ IsIn w (rogue_of uid (a ++ b))
noted_on w uid a b (inl h) = inl (sent_on w uid a b h)
noted_on w uid a b (inr h) = inr (rogue_on w uid a b h)

or_right : (x y : Bool) → y ≡ true → (x || y) ≡ true
or_right true y h = refl
or_right false y h = h

or_either : (x y z : Bool) → (x || y) ≡ true → (y ≡ true → z ≡ true) → (x || z) ≡ true
or_either true y z h f = refl
or_either false y z h f = f h

pub granted_on : (uid : ℕ) (a b : List Entry) → was_granted a uid ≡ true → was_granted (a ++ b) uid ≡ true
granted_on uid [] b h = absurd cc
granted_on uid (e ∷ a) b h = or_either (grants uid e) (was_granted a uid) (was_granted (a ++ b) uid) h (granted_on uid a b)

pub granted_behind : (uid : ℕ) (a b : List Entry) → was_granted b uid ≡ true → was_granted (a ++ b) uid ≡ true
granted_behind uid [] b h = h
granted_behind uid (e ∷ a) b h = or_right (grants uid e) (was_granted (a ++ b) uid) (granted_behind uid a b h)

-- ---- whoever writes was granted a file

-- an entry of a write of somebody who was granted a file by then
abbrev pub IsByUser : List Entry → Entry → Type 0
IsByUser journal e = If (writer_in e) (λ u. was_granted journal u ≡ true)

one_write : (P : ℕ → Type 0) (w : Pending) (uid own : ℕ) (x : List Pending) → P own → IsIn w (cond (eqb own uid) x []) → P uid
one_write P w uid own x p h = by_test (eqb own uid) refl h
  where
    by_test : (b : Bool) → eqb own uid ≡ b → IsIn w (cond b x []) → P uid
    by_test true e k = subst P (eqb-true own uid e) p
    by_test false e k = absurd k

sent_by : (P : ℕ → Type 0) (w : Pending) (uid : ℕ) (e : Entry) → If (writer_in e) P → IsIn w (sent_in uid e) → P uid
sent_by P w uid (entry.Sent file cred at bytes) p h = one_write P w uid cred.0 (a_write at bytes) p h
sent_by P w uid _ p h = absurd h

strayed_by : (P : ℕ → Type 0) (w : Pending) (uid : ℕ) (e : Entry) → If (writer_in e) P → IsIn w (strayed_in uid e) → P uid
strayed_by P w uid (entry.Rogue file cred at bytes) p h = one_write P w uid cred.0 (a_write at bytes) p h
strayed_by P w uid _ p h = absurd h

pub sender : (P : ℕ → Type 0) (w : Pending) (uid : ℕ) (journal : List Entry) → AllByRecursion (λ e. If (writer_in e) P) journal → IsIn w (sent_of uid journal) → P uid
sender P w uid [] p h = absurd h
sender P w uid (e ∷ journal) p h =
    elim (in_either w (sent_in uid e) (sent_of uid journal) h) [
      | inl k ↦ sent_by P w uid e p.0 k
      | inr k ↦ sender P w uid journal p.1 k
    ]

pub strayer : (P : ℕ → Type 0) (w : Pending) (uid : ℕ) (journal : List Entry) → AllByRecursion (λ e. If (writer_in e) P) journal → IsIn w (rogue_of uid journal) → P uid
strayer P w uid [] p h = absurd h
strayer P w uid (e ∷ journal) p h =
    elim (in_either w (strayed_in uid e) (rogue_of uid journal) h) [
      | inl k ↦ strayed_by P w uid e p.0 k
      | inr k ↦ strayer P w uid journal p.1 k
    ]

pub noter : (P : ℕ → Type 0) (w : Pending) (uid : ℕ) (journal : List Entry) → AllByRecursion (λ e. If (writer_in e) P) journal → IsIn w (sent_of uid journal) ⊎ IsIn w (rogue_of uid journal) → P uid
noter P w uid journal p (inl h) = sender P w uid journal p h
noter P w uid journal p (inr h) = strayer P w uid journal p h

if_more : {A : Type 0} (P Q : A → Type 0) (x : Option A) → ((a : A) → P a → Q a) → If x P → If x Q
if_more P Q None f h = tt
if_more P Q (Some a) f h = f a h

pub users_on : (journal entries : List Entry) (list : List Entry) → AllByRecursion (IsByUser journal) list → AllByRecursion (IsByUser (journal ++ entries)) list
users_on journal entries list h = all_more (IsByUser journal) (IsByUser (journal ++ entries)) list (λ e k. if_more (λ u. was_granted journal u ≡ true) (λ u. was_granted (journal ++ entries) u ≡ true) (writer_in e) (λ u g. granted_on u journal entries g) k) h

pub silent_users : (journal entries : List Entry) → AllByRecursion IsSilent entries → AllByRecursion (IsByUser journal) entries
silent_users journal entries h = all_more IsSilent (IsByUser journal) entries (λ e k. subst (λ (x : Option ℕ). If x (λ u. was_granted journal u ≡ true)) (sym k.writer) tt) h
