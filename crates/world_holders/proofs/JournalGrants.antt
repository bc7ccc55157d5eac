-- A uid is granted once, and each grant is of a file with live mirrors (RFC 8435, section 2.2).
use Rattle.std.proofs.Common.{◌≡◌, ℕ, Bool, true, false, cond, List, [], ◌∷◌, ◌++◌, Option, Some, None, refl, sym, ap, ◌∙◌, append_assoc, append-nil}
use Rattle.std.specs.Prelude.{◌||◌}
use Rattle.std.proofs.lemmas.Bool.{eqb-true, eq-eqb}
use Rattle.cluster_model.specs.declared.ids.NodeId.{NodeId}
use Rattle.cluster_model.specs.declared.ids.FileId.{FileId}
use Rattle.cluster_model.specs.declared.ids.Cred.{Cred}
use Rattle.cluster_model.specs.declared.ids.MirrorId.{MirrorId}
use Rattle.cluster_model.specs.declared.entry.Entry.{Entry}
use Rattle.cluster_model.specs.declared.entry.Entry.TheVariants.{Granted, Free, Fenced, Left, Swapped}
use Rattle.cluster_laws.specs.FenceLaw.{is_file, swapped_in, first_free, changed_live, live_after, live_by, live_in, ObeysFences}
use Rattle.cluster_laws.specs.Periods.{user_when_free, user_after, user_by, user_in, grants, was_granted, ArePeriodsFenced}
use Rattle.world_reads.proofs.Steps.{Splits, Longer, Shorter, splits}

abbrev pub grant_to : FileId → ℕ → NodeId → Entry
grant_to f uid holder = Granted f (record { 0 = uid }) holder

-- ---- once

or_true : (b : Bool) → (b || true) ≡ true
or_true true = refl
or_true false = refl

granted_there : (uid : ℕ) (a b : List Entry) (f : FileId) (holder : NodeId) → was_granted (a ++ grant_to f uid holder ∷ b) uid ≡ true
granted_there uid [] b f holder = ap (λ (test : Bool). test || was_granted b uid) (eq-eqb uid uid refl)
granted_there uid (e ∷ a) b f holder = ap (λ (test : Bool). grants uid e || test) (granted_there uid a b f holder) ∙ or_true (grants uid e)

not_both : {A : Type 0} → false ≡ true → A
not_both is = absurd cc

head_entry : (x y : Entry) (a b : List Entry) → x ∷ a ≡ y ∷ b → x ≡ y
head_entry x y a b is = cc

pub record IsOneGrant (a c : List Entry) (x y : Entry) : Type 0 where
  pub before : a ≡ c
  pub is : x ≡ y

-- two grants of one uid in a journal are one
pub one_grant : (journal : List Entry) → ArePeriodsFenced journal → (a b c d : List Entry) (f g : FileId) (uid : ℕ) (h k : NodeId) → journal ≡ a ++ grant_to f uid h ∷ b → journal ≡ c ++ grant_to g uid k ∷ d
    → IsOneGrant a c (grant_to f uid h) (grant_to g uid k)
one_grant journal fenced a b c d f g uid h k first second = by_place (splits a (grant_to f uid h ∷ b) c (grant_to g uid k ∷ d) (sym first ∙ second))
  where
    again : {A : Type 0} (front middle : List Entry) (file : FileId) (holder : NodeId) (x : Entry) (its : FileId) (to : NodeId) (rest : List Entry) → journal ≡ front ++ grant_to its uid to ∷ rest → (start : List Entry) → front ≡ start ++ x ∷ middle → x ≡ grant_to file uid holder → A
    again front middle file holder x its to rest at start is same =
        let new : was_granted front uid ≡ false = (fenced front rest (grant_to its uid to) at).new in
        let old : was_granted front uid ≡ true = ap (λ (l : List Entry). was_granted l uid) (is ∙ ap (λ (y : Entry). start ++ y ∷ middle) same) ∙ granted_there uid start middle file holder in
        not_both (sym new ∙ old)

    by_middle : (middle : List Entry) → c ≡ a ++ middle → grant_to f uid h ∷ b ≡ middle ++ grant_to g uid k ∷ d → IsOneGrant a c (grant_to f uid h) (grant_to g uid k)
    by_middle [] front back = record { before = sym (append-nil a) ∙ sym front; is = head_entry (grant_to f uid h) (grant_to g uid k) b d back }
    by_middle (x ∷ middle) front back = again c middle f h x g k d second a front (sym (head_entry (grant_to f uid h) x b (middle ++ grant_to g uid k ∷ d) back))

    by_place : Splits a (grant_to f uid h ∷ b) c (grant_to g uid k ∷ d) → IsOneGrant a c (grant_to f uid h) (grant_to g uid k)
    by_place (Longer middle front back) = by_middle middle front back
    by_place (Shorter x middle front back) = again a middle g k x f h b first c front (sym (head_entry (grant_to g uid k) x d (middle ++ grant_to f uid h ∷ b) back))

-- ---- of a file with live mirrors

abbrev HasSome : {A : Type 0} → Option A → Type 0
HasSome None = ⊥
HasSome (Some x) = Unit {0}

changed_some : (change : List MirrorId → List MirrorId) (live : Option (List MirrorId)) → HasSome live → HasSome (changed_live change live)
changed_some change None has = has
changed_some change (Some live) has = tt

if_changed : (b : Bool) (change : List MirrorId → List MirrorId) (live : Option (List MirrorId)) → HasSome live → HasSome (cond b (changed_live change live) live)
if_changed true change live has = changed_some change live has
if_changed false change live has = has

freed_some : (mirrors : List MirrorId) (live : Option (List MirrorId)) → HasSome (first_free mirrors live)
freed_some mirrors None = tt
freed_some mirrors (Some before) = tt

by_free : (b : Bool) (mirrors : List MirrorId) (user uid : Option ℕ) (live : Option (List MirrorId)) → (HasSome uid → HasSome live) → HasSome (cond b user uid) → HasSome (cond b (first_free mirrors live) live)
by_free true mirrors user uid live was has = freed_some mirrors live
by_free false mirrors user uid live was has = was has

by_fence : (b : Bool) (new uid : Option ℕ) (live : Option (List MirrorId)) → (HasSome uid → HasSome live) → (b ≡ true → HasSome live) → HasSome (cond b new uid) → HasSome live
by_fence true new uid live was fenced has = fenced refl
by_fence false new uid live was fenced has = was has

-- at each fence of the file it has live mirrors
abbrev LiveAtFences : FileId → Option (List MirrorId) → List Entry → Type 0
LiveAtFences f live entries = (a b : List Entry) (old new : Cred) (mirrors : List MirrorId) → entries ≡ a ++ Fenced f old new mirrors ∷ b → HasSome (live_by f live a)

step_some : (f : FileId) (journal : List Entry) (uid : Option ℕ) (live : Option (List MirrorId)) (e : Entry) (entries : List Entry) → LiveAtFences f live (e ∷ entries) → (HasSome uid → HasSome live) → HasSome (user_after f journal uid e) → HasSome (live_after f live e)
step_some f journal uid live (Free file mirrors) entries fences was has = by_free (is_file file f) mirrors (user_when_free journal mirrors uid) uid live was has
step_some f journal uid live (Fenced file old new mirrors) entries fences was has =
    by_fence (is_file file f) (Some new.0) uid live was (λ is. fences [] entries old new mirrors (ap (λ (n : ℕ). Fenced (record { 0 = n }) old new mirrors ∷ entries) (eqb-true file.0 f.0 is))) has
step_some f journal uid live (Left file mirror cause) entries fences was has = if_changed (is_file file f) _ live (was has)
step_some f journal uid live (Swapped file old new) entries fences was has = if_changed (is_file file f) (swapped_in old new) live (was has)
step_some f journal uid live e entries fences was has = was has

live_with_user : (f : FileId) (journal entries : List Entry) (uid : Option ℕ) (live : Option (List MirrorId)) → LiveAtFences f live entries → (HasSome uid → HasSome live) → HasSome (user_by f journal uid entries) → HasSome (live_by f live entries)
live_with_user f journal [] uid live fences was has = was has
live_with_user f journal (e ∷ entries) uid live fences was has =
    live_with_user f (journal ++ e ∷ []) entries (user_after f journal uid e) (live_after f live e) (λ a b old new mirrors is. fences (e ∷ a) b old new mirrors (ap (λ (l : List Entry). e ∷ l) is)) (step_some f journal uid live e entries fences was) has

none_first : {A : Type 0} → HasSome {A = ℕ} None → A
none_first has = absurd has

some_is : (o : Option (List MirrorId)) → HasSome o → (mirrors : List MirrorId) × (o ≡ Some mirrors)
some_is None has = absurd has
some_is (Some mirrors) has = (mirrors, refl)

some_by : {A : Type 0} (o : Option A) (x : A) → o ≡ Some x → HasSome o
some_by None x is = absurd cc
some_by (Some y) x is = tt

pub live_at_grant : (journal : List Entry) → ArePeriodsFenced journal → ObeysFences journal → (before behind : List Entry) (f : FileId) (uid : ℕ) (holder : NodeId) → journal ≡ before ++ grant_to f uid holder ∷ behind
    → (mirrors : List MirrorId) × (live_in before f ≡ Some mirrors)
live_at_grant journal periods fences before behind f uid holder at =
    some_is (live_in before f) (live_with_user f [] before None None live_then none_first (some_by (user_in before f) uid (periods before behind (grant_to f uid holder) at).user))
  where
    live_then : LiveAtFences f None before
    live_then a b old new mirrors is =
        some_by (live_by f None a) mirrors
        (fences a (b ++ grant_to f uid holder ∷ behind) f old new mirrors (at ∙ (ap (λ (l : List Entry). l ++ grant_to f uid holder ∷ behind) is ∙ append_assoc a (Fenced f old new mirrors ∷ b) (grant_to f uid holder ∷ behind)))).live_list
