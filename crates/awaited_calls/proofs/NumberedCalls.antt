-- The calls of a map, by what the map says.
use Rattle.std.proofs.Common.{◌≡◌, ℕ, ◌<◌, Bool, true, false, not, cond, eqb, List, [], ◌∷◌, filter, map, Option, Some, None, Bor, refl, sym, ap, subst, ◌∙◌, arith}
use Rattle.std.specs.Prelude.{◌&&◌, ◌==◌, nat_lt, find, is_some, option_copied}
use Rattle.std.specs.Ordering.{nat_cmp, is_lt, match_ordering}
use Rattle.std.specs.declared.cmp.Ordering.TheVariants.{Less, Equal, Greater}
use Rattle.std.specs.declared.ops.Bound.TheVariants.{Unbounded}
use Rattle.std.specs.List.{AllByRecursion}
use Rattle.std.specs.List.Sorted.{IsStrictlySortedBy}
use Rattle.std.specs.Map.{keys_of, lookup, remove_entry}
use Rattle.std.specs.BTreeMap.{is_at, insert_entry}
use Rattle.std.specs.BTreeMap.Range.{entries_between, is_from_start}
use Rattle.std.proofs.lemmas.Bool.{eq-eqb, ne_eqb, eqb-true}
use Rattle.std.proofs.lemmas.Bool.Decides.{nat_tests}
use Rattle.std.proofs.lemmas.Cmp.{ranked}
use Rattle.std.proofs.lemmas.Option.{none-some}
use Rattle.std.proofs.lemmas.Map.Keys.{sorted_head, sorted_tail}
use Rattle.cluster_model.specs.declared.ids.NodeId.{NodeId}
use Rattle.cluster_model.specs.Nodes.{is_node}
use Rattle.mds_rule.specs.MdsStates.{AwaitedCall, with_call, is_call_to, without_call}
use Rattle.awaited_calls.specs.Awaited.{calls_of, AtNumbers, AtOwnNumbers, AreOrdered, is_behind, start_behind}

-- ---- a call more

module _ (call : AwaitedCall) where
  pub added : (es : List (ℕ × AwaitedCall)) → AtNumbers es → calls_of (insert_entry nat_cmp es call.xid call) ≡ with_call call (calls_of es)
  added [] at = refl
  added (e ∷ es) at =
      subst
      (λ (n : ℕ). calls_of (insert_entry nat_cmp (e ∷ es) call.xid call) ≡ cond (nat_lt call.xid n) (call ∷ e.1 ∷ calls_of es) (cond (call.xid == n) (call ∷ calls_of es) (e.1 ∷ with_call call (calls_of es))))
      at.0
      (by_tests (nat_lt call.xid e.0) (call.xid == e.0) (added es at.1))
    where
      by_tests : (below same : Bool) → calls_of (insert_entry nat_cmp es call.xid call) ≡ with_call call (calls_of es)
          → calls_of (match_ordering (cond below Less (cond same Equal Greater)) ((call.xid, call) ∷ e ∷ es) ((e.0, call) ∷ es) (e ∷ insert_entry nat_cmp es call.xid call))
          ≡ cond below (call ∷ e.1 ∷ calls_of es) (cond same (call ∷ calls_of es) (e.1 ∷ with_call call (calls_of es)))
      by_tests true same rest = refl
      by_tests false true rest = refl
      by_tests false false rest = ap (λ (l : List AwaitedCall). e.1 ∷ l) rest

  pub added_at : (es : List (ℕ × AwaitedCall)) → AtNumbers es → AtNumbers (insert_entry nat_cmp es call.xid call)
  added_at [] at = (refl, tt)
  added_at (e ∷ es) at = by_tests (nat_lt call.xid e.0) (call.xid == e.0) refl (added_at es at.1)
    where
      by_tests : (below same : Bool) → (call.xid == e.0) ≡ same → AtNumbers (insert_entry nat_cmp es call.xid call)
          → AtNumbers (match_ordering (cond below Less (cond same Equal Greater)) ((call.xid, call) ∷ e ∷ es) ((e.0, call) ∷ es) (e ∷ insert_entry nat_cmp es call.xid call))
      by_tests true same is rest = (refl, at)
      by_tests false true is rest = (sym (eqb-true call.xid e.0 is), at.1)
      by_tests false false is rest = (at.0, rest)

-- ---- a call less

pub removed_at : (test : ℕ → Bool) (es : List (ℕ × AwaitedCall)) → AtNumbers es → AtNumbers (remove_entry test es)
removed_at test [] at = tt
removed_at test (e ∷ es) at = by_test (test e.0) (removed_at test es at.1)
  where
    by_test : (b : Bool) → AtNumbers (remove_entry test es) → AtNumbers (cond b es (e ∷ remove_entry test es))
    by_test true rest = at.1
    by_test false rest = (at.0, rest)

pub none_is : (found : Option AwaitedCall) → is_some found ≡ false → found ≡ None
none_is None none = refl
none_is (Some call) none = absurd cc

pub lent_some : (found : Option (Bor AwaitedCall)) → is_some (option_copied found) ≡ is_some found
lent_some None = refl
lent_some (Some call) = refl

-- where no call passes, none is taken out
pub none_less : (test : AwaitedCall → Bool) (calls : List AwaitedCall) → find test calls ≡ None → calls ≡ filter (λ call. not (test call)) calls
none_less test [] none = refl
none_less test (c ∷ calls) none = by_test (test c) none (none_less test calls)
  where
    by_test : (b : Bool) → cond b (Some c) (find test calls) ≡ None → (find test calls ≡ None → calls ≡ filter (λ call. not (test call)) calls)
        → c ∷ calls ≡ cond (not b) (c ∷ filter (λ call. not (test call)) calls) (filter (λ call. not (test call)) calls)
    by_test true is rest = absurd (none-some c (sym is))
    by_test false is rest = ap (λ (l : List AwaitedCall). c ∷ l) (rest is)

-- ---- one number

number_is : (xid : ℕ) (e : ℕ × AwaitedCall) → e.0 ≡ e.1.xid → is_at (nat_cmp xid) e.0 ≡ true → eqb e.1.xid xid ≡ true
number_is xid e at is = let same : xid ≡ e.0 = grind (arith, nat_tests) in eq-eqb e.1.xid xid (sym at ∙ sym same)

number_differs : (xid : ℕ) (e : ℕ × AwaitedCall) → e.0 ≡ e.1.xid → is_at (nat_cmp xid) e.0 ≡ false → eqb e.1.xid xid ≡ false
number_differs xid e at is = ne_eqb e.1.xid xid (λ same. let key : xid ≡ e.0 = sym same ∙ sym at in grind (arith, nat_tests))

off : {A : Type 0} (b : Bool) (x y : A) → cond (b && false) x y ≡ y
off true x y = refl
off false x y = refl

-- what is found, where it goes to the node
abbrev pub to_node : NodeId → Option AwaitedCall → Option AwaitedCall
to_node node None = None
to_node node (Some call) = cond (is_node call.node node) (Some call) None

pub passed_on : (node : NodeId) (call : AwaitedCall) (goes : Bool) → goes ≡ is_node call.node node → to_node node (Some call) ≡ cond goes (Some call) None
passed_on node call goes is = ap (λ b. cond b (Some call) None) (sym is)

module _ (node : NodeId) (xid : ℕ) where
  abbrev IsSought : AwaitedCall → Bool
  IsSought = is_call_to node xid

  abbrev at_key : ℕ → Bool
  at_key = is_at (nat_cmp xid)

  -- no number behind the first is its own
  none_behind : (k : ℕ) (es : List (ℕ × AwaitedCall)) → k ≡ xid → AllByRecursion (λ y. nat_cmp k y ≡ Less) (keys_of es) → AtNumbers es → find IsSought (calls_of es) ≡ None
  none_behind k [] same above at = refl
  none_behind k (e ∷ es) same above at =
      let past : k < e.0 = ranked k e.0 Less (sym above.0) in
      let differs : eqb e.1.xid xid ≡ false = ne_eqb e.1.xid xid (λ is. omega (arith, past, same, is, at.0)) in
      ap (λ b. cond (is_node e.1.node node && b) (Some e.1) (find IsSought (calls_of es))) differs
      ∙ off (is_node e.1.node node) (Some e.1) (find IsSought (calls_of es))
      ∙ none_behind k es same above.1 at.1

  first_none : (e : ℕ × AwaitedCall) (es : List (ℕ × AwaitedCall)) → AtNumbers (e ∷ es) → IsStrictlySortedBy nat_cmp (keys_of (e ∷ es)) → at_key e.0 ≡ true → find IsSought (calls_of es) ≡ None
  first_none e es at sorted is = none_behind e.0 es (grind (arith, nat_tests)) (sorted_head nat_cmp e.0 (keys_of es) sorted) at.1

  -- what the map finds at the number is the call, where it goes to the node
  pub found_at : (es : List (ℕ × AwaitedCall)) → AtNumbers es → IsStrictlySortedBy nat_cmp (keys_of es) → find IsSought (calls_of es) ≡ to_node node (lookup at_key es)
  found_at [] at sorted = refl
  found_at (e ∷ es) at sorted = by_key (at_key e.0) refl (found_at es at.1 (sorted_tail nat_cmp e.0 (keys_of es) sorted))
    where
      by_node : (b : Bool) → find IsSought (calls_of es) ≡ None → cond (b && true) (Some e.1) (find IsSought (calls_of es)) ≡ cond b (Some e.1) None
      by_node true none = refl
      by_node false none = none

      by_key : (b : Bool) → at_key e.0 ≡ b → find IsSought (calls_of es) ≡ to_node node (lookup at_key es) → find IsSought (calls_of (e ∷ es)) ≡ to_node node (cond b (Some e.1) (lookup at_key es))
      by_key true is rest =
          ap (λ b. cond (is_node e.1.node node && b) (Some e.1) (find IsSought (calls_of es))) (number_is xid e at.0 is)
          ∙ by_node (is_node e.1.node node) (first_none e es at sorted is)
      by_key false is rest =
          ap (λ b. cond (is_node e.1.node node && b) (Some e.1) (find IsSought (calls_of es))) (number_differs xid e at.0 is)
          ∙ off (is_node e.1.node node) (Some e.1) (find IsSought (calls_of es))
          ∙ rest

  -- where there is one, the map has it, and without the map's entry all others are left
  pub has_it : (es : List (ℕ × AwaitedCall)) → AtNumbers es → IsStrictlySortedBy nat_cmp (keys_of es) → is_some (find IsSought (calls_of es)) ≡ true → lookup at_key es ≡ find IsSought (calls_of es)
  has_it es at sorted there = by_entry (lookup at_key es) (ap is_some (sym (found_at es at sorted)) ∙ there) ∙ sym (found_at es at sorted)
    where
      by_node : (call : AwaitedCall) (b : Bool) → is_some (cond b (Some call) None) ≡ true → Some call ≡ cond b (Some call) None
      by_node call true some = refl
      by_node call false some = absurd cc

      by_entry : (o : Option AwaitedCall) → is_some (to_node node o) ≡ true → o ≡ to_node node o
      by_entry None some = absurd cc
      by_entry (Some call) some = by_node call (is_node call.node node) some

  pub removed : (es : List (ℕ × AwaitedCall)) → AtNumbers es → IsStrictlySortedBy nat_cmp (keys_of es) → is_some (find IsSought (calls_of es)) ≡ true → calls_of (remove_entry at_key es) ≡ without_call node xid (calls_of es)
  removed [] at sorted there = refl
  removed (e ∷ es) at sorted there = by_key (at_key e.0) refl (removed es at.1 (sorted_tail nat_cmp e.0 (keys_of es) sorted))
    where
      by_node : (b : Bool) → find IsSought (calls_of es) ≡ None → is_some (cond (b && true) (Some e.1) (find IsSought (calls_of es))) ≡ true
          → calls_of es ≡ cond (not (b && true)) (e.1 ∷ without_call node xid (calls_of es)) (without_call node xid (calls_of es))
      by_node true none some = none_less IsSought (calls_of es) none
      by_node false none some = let bad : false ≡ true = sym (ap is_some none) ∙ some in absurd cc

      by_other : (b : Bool) → is_some (cond (b && false) (Some e.1) (find IsSought (calls_of es))) ≡ true
          → (is_some (find IsSought (calls_of es)) ≡ true → calls_of (remove_entry at_key es) ≡ without_call node xid (calls_of es))
          → e.1 ∷ calls_of (remove_entry at_key es) ≡ cond (not (b && false)) (e.1 ∷ without_call node xid (calls_of es)) (without_call node xid (calls_of es))
      by_other true some rest = ap (λ (l : List AwaitedCall). e.1 ∷ l) (rest some)
      by_other false some rest = ap (λ (l : List AwaitedCall). e.1 ∷ l) (rest some)

      by_key : (b : Bool) → at_key e.0 ≡ b
          → (is_some (find IsSought (calls_of es)) ≡ true → calls_of (remove_entry at_key es) ≡ without_call node xid (calls_of es))
          → calls_of (cond b es (e ∷ remove_entry at_key es)) ≡ without_call node xid (calls_of (e ∷ es))
      by_key true is rest =
          let number : eqb e.1.xid xid ≡ true = number_is xid e at.0 is in
          subst (λ t. is_some (cond (is_node e.1.node node && t) (Some e.1) (find IsSought (calls_of es))) ≡ true → calls_of es ≡ cond (not (is_node e.1.node node && t)) (e.1 ∷ without_call node xid (calls_of es)) (without_call node xid (calls_of es)))
          (sym number)
          (by_node (is_node e.1.node node) (first_none e es at sorted is))
          there
      by_key false is rest =
          let number : eqb e.1.xid xid ≡ false = number_differs xid e at.0 is in
          subst (λ t. is_some (cond (is_node e.1.node node && t) (Some e.1) (find IsSought (calls_of es))) ≡ true → e.1 ∷ calls_of (remove_entry at_key es) ≡ cond (not (is_node e.1.node node && t)) (e.1 ∷ without_call node xid (calls_of es)) (without_call node xid (calls_of es)))
          (sym number)
          (λ some. by_other (is_node e.1.node node) some rest)
          there

-- ---- from behind a number on

starts_there : (after : Option ℕ) (e : ℕ × AwaitedCall) → e.0 ≡ e.1.xid → is_from_start nat_cmp (start_behind after) e.0 ≡ is_behind after e.1.xid
starts_there None e at = refl
starts_there (Some n) e at = ap is_lt (ap (nat_cmp n) at) ∙ same (is_lt (nat_cmp n e.1.xid)) (nat_lt n e.1.xid) (λ there. grind (arith, nat_tests)) (λ there. grind (arith, nat_tests))
  where
    same : (a b : Bool) → (a ≡ true → b ≡ true) → (b ≡ true → a ≡ true) → a ≡ b
    same true b there back = sym (there refl)
    same false true there back = back refl
    same false false there back = refl

module _ (node : NodeId) (after : Option ℕ) where
  abbrev IsNext : AwaitedCall → Bool
  IsNext call = is_node call.node node && is_behind after call.xid

  abbrev behind : List (ℕ × AwaitedCall) → List (ℕ × AwaitedCall)
  behind es = entries_between nat_cmp (start_behind after) Unbounded es

  -- the first from there on is the first of the map's range that goes to the node
  pub next_there : (es : List (ℕ × AwaitedCall)) → AtNumbers es → find IsNext (calls_of es) ≡ find (λ call. is_node call.node node) (calls_of (behind es))
  next_there [] at = refl
  next_there (e ∷ es) at =
      ap (λ b. cond (is_node e.1.node node && b) (Some e.1) (find IsNext (calls_of es))) (sym (starts_there after e at.0))
      ∙ by_key (is_from_start nat_cmp (start_behind after) e.0) (next_there es at.1)
    where
      by_node : (b : Bool) → find IsNext (calls_of es) ≡ find (λ call. is_node call.node node) (calls_of (behind es))
          → cond (b && true) (Some e.1) (find IsNext (calls_of es)) ≡ cond b (Some e.1) (find (λ call. is_node call.node node) (calls_of (behind es)))
      by_node true rest = refl
      by_node false rest = rest

      by_key : (b : Bool) → find IsNext (calls_of es) ≡ find (λ call. is_node call.node node) (calls_of (behind es))
          → cond (is_node e.1.node node && b) (Some e.1) (find IsNext (calls_of es)) ≡ find (λ call. is_node call.node node) (calls_of (cond (b && true) (e ∷ behind es) (behind es)))
      by_key true rest = by_node (is_node e.1.node node) rest
      by_key false rest = off (is_node e.1.node node) (Some e.1) (find IsNext (calls_of es)) ∙ rest

module _ (after : Option ℕ) where
  abbrev from_there : List (ℕ × AwaitedCall) → List (ℕ × AwaitedCall)
  from_there es = entries_between nat_cmp (start_behind after) Unbounded es

  abbrev IsPast : AwaitedCall → Bool
  IsPast call = is_behind after call.xid

  -- the first from there on is the first of the map's range
  pub none_there : (es : List (ℕ × AwaitedCall)) → AtNumbers es → from_there es ≡ [] → find IsPast (calls_of es) ≡ None
  none_there [] at none = refl
  none_there (e ∷ es) at none =
      ap (λ b. cond b (Some e.1) (find IsPast (calls_of es))) (sym (starts_there after e at.0))
      ∙ by_key (is_from_start nat_cmp (start_behind after) e.0) none (none_there es at.1)
    where
      by_key : (b : Bool) → cond (b && true) (e ∷ from_there es) (from_there es) ≡ [] → (from_there es ≡ [] → find IsPast (calls_of es) ≡ None) → cond b (Some e.1) (find IsPast (calls_of es)) ≡ None
      by_key true is rest = absurd cc
      by_key false is rest = rest is

  pub first_there : (first : ℕ × AwaitedCall) (others es : List (ℕ × AwaitedCall)) → AtNumbers es → from_there es ≡ first ∷ others → find IsPast (calls_of es) ≡ Some first.1
  first_there first others [] at is = absurd cc
  first_there first others (e ∷ es) at is =
      ap (λ b. cond b (Some e.1) (find IsPast (calls_of es))) (sym (starts_there after e at.0))
      ∙ by_key (is_from_start nat_cmp (start_behind after) e.0) is (first_there first others es at.1)
    where
      by_key : (b : Bool) → cond (b && true) (e ∷ from_there es) (from_there es) ≡ first ∷ others → (from_there es ≡ first ∷ others → find IsPast (calls_of es) ≡ Some first.1)
          → cond b (Some e.1) (find IsPast (calls_of es)) ≡ Some first.1
      by_key true its rest = let same : e ≡ first = cc in ap (λ (x : ℕ × AwaitedCall). Some x.1) same
      by_key false its rest = rest its

-- ---- the order of the calls is that of the numbers at which they stand

numbers_are : (entries : List (ℕ × AwaitedCall)) → AtNumbers entries → keys_of entries ≡ map (λ (c : AwaitedCall). c.xid) (calls_of entries)
numbers_are [] at = refl
numbers_are (e ∷ entries) at = ap (λ x. x ∷ keys_of entries) at.0 ∙ ap (λ xs. e.1.xid ∷ xs) (numbers_are entries at.1)

pub are_ordered : (calls : List AwaitedCall) (entries : List (ℕ × AwaitedCall)) → calls ≡ calls_of entries → AtOwnNumbers entries → AreOrdered calls
are_ordered calls entries is own = subst AreOrdered (sym is) (subst (IsStrictlySortedBy nat_cmp) (numbers_are entries own.0) own.1)
