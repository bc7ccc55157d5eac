-- The entries of nodes in a list: where one stands, what is read there, and what a change of it leaves.
use Rattle.std.proofs.Common.{◌≡◌, ℕ, zero, suc, ◌+◌, ◌<◌, ◌≤◌, ◌⊎◌, inl, inr, Bool, true, false, cond, List, [], ◌∷◌, ◌++◌, length, get_or, set, Some, None, refl, sym, ap, ◌∙◌, arith, subst}
use Rattle.std.specs.Prelude.{◌&&◌, ◌==◌, slice_get}
use Rattle.std.specs.List.{position, position_from}
use Rattle.std.proofs.lemmas.Iterator.Adapters.{position_from-zero}
use Rattle.std.proofs.lemmas.Option.{same_Some, slice_get_read}
use Rattle.std.proofs.lemmas.Bool.{cases_lt, eq-eqb, eqb-true, and_from}
use Rattle.cluster_model.specs.declared.ids.NodeId.{NodeId}
use Rattle.cluster_model.specs.declared.ids.NodeId.TheVariants.{Mds, Server, Client}
use Rattle.cluster_model.specs.Nodes.{is_node}
use Rattle.waiting_calls.proofs.NodeLemmas.{is_one, is_itself}
use Rattle.node_link.specs.Callees.{callee_in, own_connection, is_connected_to, IsFrom, HasNoEntry, AreOnce, SetsCallee}

-- ---- nodes

not_both : {b : Bool} → b ≡ true → b ≡ false → ⊥
not_both is other = absurd cc

differs_back : (a b : NodeId) → is_node a b ≡ false → is_node b a ≡ false
differs_back a b other = by_test (is_node b a) refl
  where
    by_test : (t : Bool) → is_node b a ≡ t → t ≡ false
    by_test true is = absurd (not_both (ap (λ n. is_node n b) (sym (is_one b a is)) ∙ is_itself b) other)
    by_test false is = refl

-- ---- lists

pub no_entry : (node : NodeId) (xs : List (NodeId × ℕ)) → HasNoEntry node xs → callee_in xs node ≡ own_connection node
no_entry node [] none = refl
no_entry node (x ∷ xs) none = rw none.0 (no_entry node xs none.1)

-- an entry of another node stands before
past : (x : NodeId × ℕ) (node other : NodeId) (callee new old : ℕ) → is_node x.0 node ≡ false → new ≡ cond (is_node node other) callee old
    → cond (is_node x.0 other) x.1 new ≡ cond (is_node node other) callee (cond (is_node x.0 other) x.1 old)
past x node other callee new old fails rest = by_tests (is_node x.0 other) (is_node node other) refl refl rest
  where
    by_tests : (t m : Bool) → is_node x.0 other ≡ t → is_node node other ≡ m → new ≡ cond m callee old → cond t x.1 new ≡ cond m callee (cond t x.1 old)
    by_tests true true its is rest = absurd (not_both (ap (is_node x.0) (is_one node other is) ∙ its) fails)
    by_tests true false its is rest = refl
    by_tests false m its is rest = rest

-- ---- one more

pub pushed_sets : (node : NodeId) (callee : ℕ) (xs : List (NodeId × ℕ)) → HasNoEntry node xs → SetsCallee node callee xs (xs ++ (node, callee) ∷ [])
pushed_sets node callee [] none other = refl
pushed_sets node callee (x ∷ xs) none other = past x node other callee (callee_in (xs ++ (node, callee) ∷ []) other) (callee_in xs other) none.0 (pushed_sets node callee xs none.1 other)

pushed_none : (node other : NodeId) (callee : ℕ) (xs : List (NodeId × ℕ)) → is_node node other ≡ false → HasNoEntry other xs → HasNoEntry other (xs ++ (node, callee) ∷ [])
pushed_none node other callee [] differs none = (differs, tt)
pushed_none node other callee (x ∷ xs) differs none = (none.0, pushed_none node other callee xs differs none.1)

pub pushed_once : (node : NodeId) (callee : ℕ) (xs : List (NodeId × ℕ)) → HasNoEntry node xs → AreOnce xs → AreOnce (xs ++ (node, callee) ∷ [])
pushed_once node callee [] none once = (tt, tt)
pushed_once node callee (x ∷ xs) none once = (pushed_none node x.0 callee xs (differs_back x.0 node none.0) once.0, pushed_once node callee xs none.1 once.1)

-- ---- where the entry of a node stands

abbrev pub is_of : NodeId → NodeId × ℕ → Bool
is_of node entry = is_node entry.0 node

pub record IsPlaceOf (node : NodeId) (xs : List (NodeId × ℕ)) (place : ℕ) : Type 0 where
  pub item : NodeId × ℕ
  pub within : place < length xs
  pub at : slice_get xs place ≡ Some item
  pub reads : callee_in xs node ≡ item.1
  pub sets : (callee : ℕ) → SetsCallee node callee xs (set xs place (node, callee))
  pub set_none : (callee : ℕ) (other : NodeId) → HasNoEntry other xs → HasNoEntry other (set xs place (node, callee))
  pub set_once : (callee : ℕ) → AreOnce xs → AreOnce (set xs place (node, callee))

module _ (node : NodeId) where
  here : (x : NodeId × ℕ) (xs : List (NodeId × ℕ)) → is_node x.0 node ≡ true → IsPlaceOf node (x ∷ xs) 0
  here x xs passes = record {
    item = x;
    within = omega arith;
    at = refl;
    reads = rw passes refl;
    sets = λ callee other. subst
        (λ n. cond (is_node node other) callee (callee_in xs other) ≡ cond (is_node node other) callee (cond (is_node n other) x.1 (callee_in xs other)))
        (sym same) (covered (is_node node other) callee (callee_in xs other));
    set_none = λ callee other none. (subst (λ n. is_node n other ≡ false) same none.0, none.1);
    set_once = λ callee once. (subst (λ n. HasNoEntry n xs) same once.0, once.1);
  }
    where
      same : x.0 ≡ node
      same = is_one x.0 node passes

      covered : (t : Bool) (callee rest : ℕ) → cond t callee rest ≡ cond t callee (cond t x.1 rest)
      covered true callee rest = refl
      covered false callee rest = refl

  behind : (x : NodeId × ℕ) (xs : List (NodeId × ℕ)) (k : ℕ) → is_node x.0 node ≡ false → IsPlaceOf node xs k → IsPlaceOf node (x ∷ xs) (suc k)
  behind x xs k fails there = record {
    item = there.item;
    within = let within = there.within in omega arith;
    at = there.at;
    reads = rw fails there.reads;
    sets = λ callee other. past x node other callee (callee_in (set xs k (node, callee)) other) (callee_in xs other) fails (there.sets callee other);
    set_none = λ callee other none. (none.0, there.set_none callee other none.1);
    set_once = λ callee once. (there.set_none callee x.0 once.0, there.set_once callee once.1);
  }

  found_from : (xs : List (NodeId × ℕ)) (i place : ℕ) → position_from (is_of node) i xs ≡ Some place → (k : ℕ) × (place ≡ i + k) × IsPlaceOf node xs k
  found_from [] i place is = absurd (cc (is))
  found_from (x ∷ xs) i place is = by_case (is_node x.0 node) refl is (found_from xs (i + 1) place)
    where
      by_case : (b : Bool) → is_node x.0 node ≡ b → cond b (Some i) (position_from (is_of node) (i + 1) xs) ≡ Some place
          → (position_from (is_of node) (i + 1) xs ≡ Some place → (k : ℕ) × (place ≡ (i + 1) + k) × IsPlaceOf node xs k)
          → (k : ℕ) × (place ≡ i + k) × IsPlaceOf node (x ∷ xs) k
      by_case true passes is rest = let same : i ≡ place = same_Some i place is in (0, omega arith, here x xs passes)
      by_case false fails is rest = let r = rest is in let at = r.1 in (suc r.0, omega arith, behind x xs r.0 fails r.2)

  missing_from : (xs : List (NodeId × ℕ)) (i : ℕ) → position_from (is_of node) i xs ≡ None → HasNoEntry node xs
  missing_from [] i is = tt
  missing_from (x ∷ xs) i is = by_case (is_node x.0 node) refl is (missing_from xs (i + 1))
    where
      by_case : (b : Bool) → is_node x.0 node ≡ b → cond b (Some i) (position_from (is_of node) (i + 1) xs) ≡ None
          → (position_from (is_of node) (i + 1) xs ≡ None → HasNoEntry node xs) → HasNoEntry node (x ∷ xs)
      by_case true passes is rest = absurd (cc (is))
      by_case false fails is rest = (fails, rest is)

  pub found : (xs : List (NodeId × ℕ)) (place : ℕ) → position (is_of node) xs ≡ Some place → IsPlaceOf node xs place
  found xs place is =
      let r = found_from xs 0 place (sym (position_from-zero (is_of node) xs) ∙ is) in
      let at = r.1 in
      let same : r.0 ≡ place = omega arith in
      subst (λ k. IsPlaceOf node xs k) same r.2

  pub missing : (xs : List (NodeId × ℕ)) → position (is_of node) xs ≡ None → HasNoEntry node xs
  missing xs is = missing_from xs 0 (sym (position_from-zero (is_of node) xs) ∙ is)

  -- what is read there
  pub reads_there : (xs : List (NodeId × ℕ)) (place : ℕ) (x : NodeId × ℕ) → IsPlaceOf node xs place → x ≡ get_or xs place x → x.1 ≡ callee_in xs node
  reads_there xs place x there read =
      ap (λ (e : NodeId × ℕ). e.1) (same_Some x there.item (sym (slice_get_read xs (length xs) place x refl there.within read) ∙ there.at)) ∙ sym there.reads

-- ---- entry by entry

none_at : (node : NodeId) (xs : List (NodeId × ℕ)) (k : ℕ) (x : NodeId × ℕ) → HasNoEntry node xs → slice_get xs k ≡ Some x → is_node x.0 node ≡ false
none_at node [] k x none at = absurd (cc)
none_at node (y ∷ ys) zero x none at = ap (λ (e : NodeId × ℕ). is_node e.0 node) (sym (same_Some y x at)) ∙ none.0
none_at node (y ∷ ys) (suc k) x none at = none_at node ys k x none.1 at

-- each entry has the connection of its node
pub at_place : (xs : List (NodeId × ℕ)) (k : ℕ) (x : NodeId × ℕ) → AreOnce xs → slice_get xs k ≡ Some x → callee_in xs x.0 ≡ x.1
at_place [] k x once at = absurd (cc)
at_place (y ∷ ys) zero x once at = subst (λ (e : NodeId × ℕ). callee_in (y ∷ ys) e.0 ≡ e.1) (same_Some y x at) (rw (is_itself y.0) refl)
at_place (y ∷ ys) (suc k) x once at = rw (differs_back x.0 y.0 (none_at y.0 ys k x once.0 at)) (at_place ys k x once.1 at)

-- so it is with each entry before a place
abbrev pub Before : (NodeId × ℕ → Type 0) → List (NodeId × ℕ) → ℕ → Type 0
Before P xs n = (k : ℕ) → k < n → (x : NodeId × ℕ) → slice_get xs k ≡ Some x → P x

pub one_further : (P : NodeId × ℕ → Type 0) (xs : List (NodeId × ℕ)) (n : ℕ) (y : NodeId × ℕ) → slice_get xs n ≡ Some y → P y → Before P xs n → Before P xs (n + 1)
one_further P xs n y at is before k below x there = by_case (cases_lt k n)
  where
    by_case : (k < n) ⊎ (n ≤ k) → P x
    by_case (inl less) = before k less x there
    by_case (inr more) =
        let same : k ≡ n = omega arith in
        subst P (same_Some y x (sym at ∙ ap (slice_get xs) (sym same) ∙ there)) is

-- what holds of each entry, and of a node that has none, holds of all nodes
pub of_each : (Q : NodeId → ℕ → Type 0) (xs : List (NodeId × ℕ)) → ((node : NodeId) → Q node (own_connection node)) → Before (λ x. Q x.0 x.1) xs (length xs) → (node : NodeId) → Q node (callee_in xs node)
of_each Q [] fresh each node = fresh node
of_each Q (x ∷ xs) fresh each node = by_test (is_node x.0 node) refl (of_each Q xs fresh (λ k below y at. each (suc k) (omega arith) y at) node)
  where
    by_test : (t : Bool) → is_node x.0 node ≡ t → Q node (callee_in xs node) → Q node (cond t x.1 (callee_in xs node))
    by_test true is rest = subst (λ n. Q n x.1) (is_one x.0 node is) (each 0 (omega arith) x refl)
    by_test false is rest = rest

-- ---- the turns of a loop

read_at : (xs : List (NodeId × ℕ)) (n : ℕ) (d : NodeId × ℕ) → n < length xs → slice_get xs n ≡ Some (get_or xs n d)
read_at [] n d below = absurd (omega arith)
read_at (x ∷ xs) zero d below = refl
read_at (x ∷ xs) (suc n) d below = read_at xs n d (omega arith)

module _ (xs ys : List (NodeId × ℕ)) (n : ℕ) (same : ys ≡ xs) where
  read_so : (d : NodeId × ℕ) → n < length ys → slice_get xs n ≡ Some (get_or ys n d)
  read_so d below = subst (λ l. slice_get l n ≡ Some (get_or ys n d)) same (read_at ys n d below)

  pub turn : (P : NodeId × ℕ → Type 0) (d : NodeId × ℕ) → n < length ys → P (get_or ys n d) → Before P xs n → Before P xs (n + 1)
  turn P d below is before = one_further P xs n (get_or ys n d) (read_so d below) is before

  pub its_own : (d : NodeId × ℕ) → n < length ys → AreOnce xs → callee_in xs (get_or ys n d).0 ≡ (get_or ys n d).1
  its_own d below once = at_place xs n (get_or ys n d) once (read_so d below)

  pub all_of : (Q : NodeId → ℕ → Type 0) → length ys ≤ n → ((node : NodeId) → Q node (own_connection node)) → Before (λ x. Q x.0 x.1) xs n → (node : NodeId) → Q node (callee_in xs node)
  all_of Q end fresh each = of_each Q xs fresh (λ k below x at. each k (omega (arith, ap length same)) x at)

-- ---- which node a record is from

pub from_made : (number : ℕ) (xs : List (NodeId × ℕ)) (node : NodeId) (callee : ℕ) → callee_in xs node ≡ callee → (is_connected_to node && callee == number) ≡ true → IsFrom number xs node
from_made number xs Mds callee its is = its ∙ eqb-true callee number is
from_made number xs (Server k) callee its is = its ∙ eqb-true callee number is
from_made number xs (Client k) callee its is = absurd cc

pub new_made : (number : ℕ) (node : NodeId) → is_connected_to node ≡ true → own_connection node ≡ number → number ≡ 0
new_made number Mds made is = sym is
new_made number (Server k) made is = sym is
new_made number (Client k) made is = absurd cc

pub not_made_as : (number : ℕ) (node : NodeId) (callee : ℕ) → (is_connected_to node && callee == number) ≡ false → is_connected_to node ≡ true → callee ≡ number → number ≡ 0
not_made_as number node callee differs made is = absurd (not_both (and_from (is_connected_to node) (callee == number) made (eq-eqb callee number is)) differs)
