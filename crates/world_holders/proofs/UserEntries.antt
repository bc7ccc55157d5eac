-- What a journal says of a user, by the places of its entries.
use Rattle.std.proofs.Common.{◌≡◌, ℕ, Bool, cond, List, [], ◌∷◌, ◌++◌, refl, sym, ap, subst, ◌∙◌, inl, inr}
use Rattle.std.specs.Prelude.{◌==◌}
use Rattle.std.specs.List.{AllByRecursion}
use Rattle.std.proofs.lemmas.Bool.{cond_both, eqb-true, eq-eqb}
use Rattle.cluster_model.specs.declared.ids.FileId.{FileId}
use Rattle.cluster_model.specs.declared.phase.EndCause.{EndCause}
use Rattle.cluster_model.specs.declared.entry.Entry.{Entry}
use Rattle.cluster_model.specs.declared.entry.Entry.TheVariants.{Sent, Rogue, Ended}
use Rattle.cluster_model.specs.Content.{Pending}
use Rattle.cluster_laws.specs.Agreement.{a_write, sent_in, strayed_in, sent_of, rogue_of, causes_of}
use Rattle.cluster_laws.specs.Holders.{IsIn, the_write}

-- ---- an entry that stands there

in_left : (w : Pending) (xs ys : List Pending) → IsIn w xs → IsIn w (xs ++ ys)
in_left w [] ys inside = absurd inside
in_left w (x ∷ xs) ys (inl is) = inl is
in_left w (x ∷ xs) ys (inr inside) = inr (in_left w xs ys inside)

in_right : (w : Pending) (xs ys : List Pending) → IsIn w ys → IsIn w (xs ++ ys)
in_right w [] ys inside = inside
in_right w (x ∷ xs) ys inside = inr (in_right w xs ys inside)

pub sent_there : (uid : ℕ) (a b : List Entry) (f : FileId) (at : ℕ) (bytes : List ℕ) → IsIn (the_write at bytes) (sent_of uid (a ++ Sent f (record { 0 = uid }) at bytes ∷ b))
sent_there uid [] b f at bytes = subst (λ (test : Bool). IsIn (the_write at bytes) (cond test (a_write at bytes) [] ++ sent_of uid b)) (sym (eq-eqb uid uid refl)) (inl refl)
sent_there uid (e ∷ a) b f at bytes = in_right (the_write at bytes) (sent_in uid e) (sent_of uid (a ++ Sent f (record { 0 = uid }) at bytes ∷ b)) (sent_there uid a b f at bytes)

pub rogue_there : (uid : ℕ) (a b : List Entry) (f : FileId) (at : ℕ) (bytes : List ℕ) → IsIn (the_write at bytes) (rogue_of uid (a ++ Rogue f (record { 0 = uid }) at bytes ∷ b))
rogue_there uid [] b f at bytes = subst (λ (test : Bool). IsIn (the_write at bytes) (cond test (a_write at bytes) [] ++ rogue_of uid b)) (sym (eq-eqb uid uid refl)) (inl refl)
rogue_there uid (e ∷ a) b f at bytes = in_right (the_write at bytes) (strayed_in uid e) (rogue_of uid (a ++ Rogue f (record { 0 = uid }) at bytes ∷ b)) (rogue_there uid a b f at bytes)

-- ---- each entry of a user

abbrev pub EachSent : (Pending → Type 0) → ℕ → List Entry → Type 0
EachSent P uid journal = (a b : List Entry) (f : FileId) (at : ℕ) (bytes : List ℕ) → journal ≡ a ++ Sent f (record { 0 = uid }) at bytes ∷ b → P (the_write at bytes)

sent_behind : (P : Pending → Type 0) (uid : ℕ) (e : Entry) (journal : List Entry) → EachSent P uid (e ∷ journal) → EachSent P uid journal
sent_behind P uid e journal each a b f at bytes is = each (e ∷ a) b f at bytes (ap (λ (l : List Entry). e ∷ l) is)

pub each_sent : (P : Pending → Type 0) (uid : ℕ) (journal : List Entry) → EachSent P uid journal → AllByRecursion P (sent_of uid journal)
each_sent P uid [] each = tt
each_sent P uid (Sent f cred at bytes ∷ journal) each =
    cond_both (cred.0 == uid) (a_write at bytes) [] (λ (l : List Pending). AllByRecursion P (l ++ sent_of uid journal))
    (λ is. (each [] journal f at bytes (ap (λ (u : ℕ). Sent f (record { 0 = u }) at bytes ∷ journal) (eqb-true cred.0 uid is)), each_sent P uid journal (sent_behind P uid (Sent f cred at bytes) journal each)))
    (λ off. each_sent P uid journal (sent_behind P uid (Sent f cred at bytes) journal each))
each_sent P uid (e ∷ journal) each = each_sent P uid journal (sent_behind P uid e journal each)

none_is : {A : Type 0} (xs : List A) → AllByRecursion (λ (x : A). ⊥) xs → xs ≡ []
none_is [] all = refl
none_is (x ∷ xs) all = absurd all.0

pub no_sent : (uid : ℕ) (journal : List Entry) → EachSent (λ (w : Pending). ⊥) uid journal → sent_of uid journal ≡ []
no_sent uid journal none = none_is (sent_of uid journal) (each_sent (λ (w : Pending). ⊥) uid journal none)

abbrev pub NoRogue : ℕ → List Entry → Type 0
NoRogue uid journal = (a b : List Entry) (f : FileId) (at : ℕ) (bytes : List ℕ) → journal ≡ a ++ Rogue f (record { 0 = uid }) at bytes ∷ b → ⊥

rogue_behind : (uid : ℕ) (e : Entry) (journal : List Entry) → NoRogue uid (e ∷ journal) → NoRogue uid journal
rogue_behind uid e journal none a b f at bytes is = none (e ∷ a) b f at bytes (ap (λ (l : List Entry). e ∷ l) is)

pub no_rogue : (uid : ℕ) (journal : List Entry) → NoRogue uid journal → rogue_of uid journal ≡ []
no_rogue uid [] none = refl
no_rogue uid (Rogue f cred at bytes ∷ journal) none =
    cond_both (cred.0 == uid) (a_write at bytes) [] (λ (l : List Pending). l ++ rogue_of uid journal ≡ [])
    (λ is. absurd (none [] journal f at bytes (ap (λ (u : ℕ). Rogue f (record { 0 = u }) at bytes ∷ journal) (eqb-true cred.0 uid is))))
    (λ off. no_rogue uid journal (rogue_behind uid (Rogue f cred at bytes) journal none))
no_rogue uid (e ∷ journal) none = no_rogue uid journal (rogue_behind uid e journal none)

abbrev pub EachCause : (EndCause → Type 0) → ℕ → List Entry → Type 0
EachCause P uid journal = (a b : List Entry) (f : FileId) (cause : EndCause) → journal ≡ a ++ Ended f (record { 0 = uid }) cause ∷ b → P cause

cause_behind : (P : EndCause → Type 0) (uid : ℕ) (e : Entry) (journal : List Entry) → EachCause P uid (e ∷ journal) → EachCause P uid journal
cause_behind P uid e journal each a b f cause is = each (e ∷ a) b f cause (ap (λ (l : List Entry). e ∷ l) is)

pub each_cause : (P : EndCause → Type 0) (uid : ℕ) (journal : List Entry) → EachCause P uid journal → AllByRecursion P (causes_of uid journal)
each_cause P uid [] each = tt
each_cause P uid (Ended f cred cause ∷ journal) each =
    cond_both (cred.0 == uid) (cause ∷ []) [] (λ (l : List EndCause). AllByRecursion P (l ++ causes_of uid journal))
    (λ is. (each [] journal f cause (ap (λ (u : ℕ). Ended f (record { 0 = u }) cause ∷ journal) (eqb-true cred.0 uid is)), each_cause P uid journal (cause_behind P uid (Ended f cred cause) journal each)))
    (λ off. each_cause P uid journal (cause_behind P uid (Ended f cred cause) journal each))
each_cause P uid (e ∷ journal) each = each_cause P uid journal (cause_behind P uid e journal each)

-- ---- one entry of a user

pub one_sent : (uid : ℕ) (a b : List Entry) (f : FileId) (at : ℕ) (bytes : List ℕ) → sent_of uid a ≡ [] → sent_of uid b ≡ [] → sent_of uid (a ++ Sent f (record { 0 = uid }) at bytes ∷ b) ≡ a_write at bytes
one_sent uid [] b f at bytes before behind =
    ap (λ (test : Bool). cond test (a_write at bytes) [] ++ sent_of uid b) (eq-eqb uid uid refl) ∙ ap (λ (l : List Pending). a_write at bytes ++ l) behind
one_sent uid (e ∷ a) b f at bytes before behind = by_parts (sent_in uid e) before (one_sent uid a b f at bytes)
  where
    by_parts : (here : List Pending) → here ++ sent_of uid a ≡ [] → (sent_of uid a ≡ [] → sent_of uid b ≡ [] → sent_of uid (a ++ Sent f (record { 0 = uid }) at bytes ∷ b) ≡ a_write at bytes)
        → here ++ sent_of uid (a ++ Sent f (record { 0 = uid }) at bytes ∷ b) ≡ a_write at bytes
    by_parts [] is again = again is behind
    by_parts (x ∷ here) is again = absurd cc
