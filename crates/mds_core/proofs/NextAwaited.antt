-- The first of the calls to a node that is waited for, when the calls to the node are gone through by their numbers.
use Rattle.std.proofs.Common.{◌≡◌, ℕ, suc, ◌<◌, ◌≤◌, Bool, true, false, cond, List, [], ◌∷◌, length, filter, map, Option, Some, None, refl, sym, ap, subst, ◌∙◌, arith}
use Rattle.std.specs.Prelude.{◌&&◌, nat_lt, find}
use Rattle.std.specs.Ordering.{nat_cmp}
use Rattle.std.specs.declared.cmp.Ordering.TheVariants.{Less}
use Rattle.std.specs.List.{AllByRecursion}
use Rattle.std.proofs.lemmas.Bool.{ltb-true, lt-ltb, le-ltb}
use Rattle.std.proofs.lemmas.Cmp.{ranked}
use Rattle.std.proofs.lemmas.Option.{none-some}
use Rattle.std.proofs.lemmas.Map.Keys.{sorted_head, sorted_tail}
use Rattle.cluster_model.specs.declared.ids.NodeId.{NodeId}
use Rattle.cluster_model.specs.Nodes.{is_node}
use Rattle.mds_rule.specs.MdsStates.{AwaitedCall, MdsValue}
use Rattle.mds_rule.specs.Answers.{is_awaited}
use Rattle.mds_rule.specs.Events.{is_outstanding_to}
use Rattle.awaited_calls.specs.Awaited.{AreOrdered, is_behind}

-- ---- numbers

abbrev pub AreAbove : ℕ → List AwaitedCall → Type 0
AreAbove xid calls = AllByRecursion (λ y. nat_cmp xid y ≡ Less) (map (λ (c : AwaitedCall). c.xid) calls)

pub behind_too : (after : Option ℕ) (x y : ℕ) → is_behind after x ≡ true → x < y → is_behind after y ≡ true
behind_too None x y past lower = refl
behind_too (Some n) x y past lower = lt-ltb n y (omega (arith, ltb-true n x past, lower))

pub not_behind_itself : (x : ℕ) → nat_lt x x ≡ false
not_behind_itself x = le-ltb x x (omega arith)

-- ---- tests

and_true : (b : Bool) → b ≡ (b && true)
and_true true = refl
and_true false = refl

second_holds : (a b : Bool) → (a && b) ≡ true → b ≡ true
second_holds true b both = both
second_holds false b both = absurd cc

passed_over : {A : Type 0} (g b : Bool) (x y : A) → cond ((g && false) && b) x y ≡ y
passed_over true b x y = refl
passed_over false b x y = refl

fails_so : {A : Type 0} (g w b : Bool) (x y : A) → (g && b) ≡ false → cond ((g && w) && b) x y ≡ y
fails_so true true true x y fails = absurd cc
fails_so true true false x y fails = refl
fails_so true false b x y fails = refl
fails_so false w b x y fails = refl

fails_last : {A : Type 0} (a : Bool) (x y : A) → cond (a && false) x y ≡ y
fails_last true x y = refl
fails_last false x y = refl

module _ (goes waits : AwaitedCall → Bool) where
  abbrev next_behind : Option ℕ → AwaitedCall → Bool
  next_behind after call = goes call && is_behind after call.xid

  abbrev sought_behind : Option ℕ → AwaitedCall → Bool
  sought_behind after call = (goes call && waits call) && is_behind after call.xid

  -- behind none are all
  pub sought_first : (calls : List AwaitedCall) → find (λ (c : AwaitedCall). goes c && waits c) calls ≡ find (sought_behind None) calls
  sought_first [] = refl
  sought_first (c ∷ calls) =
      ap (λ (r : Option AwaitedCall). cond (goes c && waits c) (Some c) r) (sought_first calls)
      ∙ ap (λ b. cond b (Some c) (find (sought_behind None) calls)) (and_true (goes c && waits c))

  -- where none goes there, none is waited for
  pub none_left : (after : Option ℕ) (calls : List AwaitedCall) → find (next_behind after) calls ≡ None → find (sought_behind after) calls ≡ None
  none_left after [] none = refl
  none_left after (c ∷ calls) none = by_tests (goes c) (waits c) (is_behind after c.xid) none (none_left after calls)
    where
      by_tests : (g w b : Bool) → cond (g && b) (Some c) (find (next_behind after) calls) ≡ None → (find (next_behind after) calls ≡ None → find (sought_behind after) calls ≡ None)
          → cond ((g && w) && b) (Some c) (find (sought_behind after) calls) ≡ None
      by_tests true w true is rest = absurd (none-some c (sym is))
      by_tests true true false is rest = rest is
      by_tests true false false is rest = rest is
      by_tests false w b is rest = rest is

  -- the next one is waited for
  pub next_waits : (after : Option ℕ) (call : AwaitedCall) (calls : List AwaitedCall) → find (next_behind after) calls ≡ Some call → waits call ≡ true → find (sought_behind after) calls ≡ Some call
  next_waits after call [] found waiting = absurd (none-some call found)
  next_waits after call (c ∷ calls) found waiting = by_tests (goes c) (waits c) (is_behind after c.xid) refl found (λ is. next_waits after call calls is waiting)
    where
      by_tests : (g w b : Bool) → waits c ≡ w → cond (g && b) (Some c) (find (next_behind after) calls) ≡ Some call → (find (next_behind after) calls ≡ Some call → find (sought_behind after) calls ≡ Some call)
          → cond ((g && w) && b) (Some c) (find (sought_behind after) calls) ≡ Some call
      by_tests true true true at is rest = is
      by_tests true false true at is rest = let same : c ≡ call = cc in let bad : false ≡ true = sym at ∙ ap waits same ∙ waiting in absurd cc
      by_tests true true false at is rest = rest is
      by_tests true false false at is rest = rest is
      by_tests false w b at is rest = rest is

  -- ---- the next one is not waited for

  all_behind : (after : Option ℕ) (xid : ℕ) (calls : List AwaitedCall) → is_behind after xid ≡ true → AreAbove xid calls → find (sought_behind after) calls ≡ find (sought_behind (Some xid)) calls
  all_behind after xid [] past above = refl
  all_behind after xid (c ∷ calls) past above =
      let lower : xid < c.xid = ranked xid c.xid Less (sym above.0) in
      let both : is_behind after c.xid ≡ nat_lt xid c.xid = behind_too after xid c.xid past lower ∙ sym (lt-ltb xid c.xid lower) in
      ap (λ b. cond ((goes c && waits c) && b) (Some c) (find (sought_behind after) calls)) both
      ∙ ap (λ (r : Option AwaitedCall). cond ((goes c && waits c) && nat_lt xid c.xid) (Some c) r) (all_behind after xid calls past above.1)

  pub found_above : (test : AwaitedCall → Bool) (xid : ℕ) (call : AwaitedCall) (calls : List AwaitedCall) → find test calls ≡ Some call → AreAbove xid calls → xid < call.xid
  found_above test xid call [] found above = absurd (none-some call found)
  found_above test xid call (c ∷ calls) found above = by_test (test c) found (λ is. found_above test xid call calls is above.1)
    where
      by_test : (b : Bool) → cond b (Some c) (find test calls) ≡ Some call → (find test calls ≡ Some call → xid < call.xid) → xid < call.xid
      by_test true is rest = let same : c ≡ call = cc in subst (λ (d : AwaitedCall). xid < d.xid) same (ranked xid c.xid Less (sym above.0))
      by_test false is rest = rest is

  pub goes_behind : (after : Option ℕ) (call : AwaitedCall) (calls : List AwaitedCall) → AreOrdered calls → find (next_behind after) calls ≡ Some call → waits call ≡ false
      → find (sought_behind after) calls ≡ find (sought_behind (Some call.xid)) calls
  goes_behind after call [] ordered found idle = refl
  goes_behind after call (c ∷ calls) ordered found idle =
      by_first (goes c && is_behind after c.xid) refl found (λ is. goes_behind after call calls (sorted_tail nat_cmp c.xid (map (λ (d : AwaitedCall). d.xid) calls) ordered) is idle)
    where
      above : AreAbove c.xid calls
      above = sorted_head nat_cmp c.xid (map (λ (d : AwaitedCall). d.xid) calls) ordered

      by_first : (b : Bool) → (goes c && is_behind after c.xid) ≡ b → cond b (Some c) (find (next_behind after) calls) ≡ Some call
          → (find (next_behind after) calls ≡ Some call → find (sought_behind after) calls ≡ find (sought_behind (Some call.xid)) calls)
          → find (sought_behind after) (c ∷ calls) ≡ find (sought_behind (Some call.xid)) (c ∷ calls)
      by_first true at is rest =
          let same : c ≡ call = cc in
          let still : waits c ≡ false = ap waits same ∙ idle in
          let others : find (sought_behind after) calls ≡ find (sought_behind (Some call.xid)) calls =
          subst (λ (d : AwaitedCall). find (sought_behind after) calls ≡ find (sought_behind (Some d.xid)) calls) same
          (all_behind after c.xid calls (second_holds (goes c) (is_behind after c.xid) at) above) in
          ap (λ w. cond ((goes c && w) && is_behind after c.xid) (Some c) (find (sought_behind after) calls)) still
          ∙ passed_over (goes c) (is_behind after c.xid) (Some c) (find (sought_behind after) calls)
          ∙ others
          ∙ sym (ap (λ w. cond ((goes c && w) && nat_lt call.xid c.xid) (Some c) (find (sought_behind (Some call.xid)) calls)) still
          ∙ passed_over (goes c) (nat_lt call.xid c.xid) (Some c) (find (sought_behind (Some call.xid)) calls))
      by_first false at is rest =
          let higher : c.xid < call.xid = found_above (next_behind after) c.xid call calls is above in
          let before : nat_lt call.xid c.xid ≡ false = le-ltb call.xid c.xid (omega (arith, higher)) in
          fails_so (goes c) (waits c) (is_behind after c.xid) (Some c) (find (sought_behind after) calls) at
          ∙ rest is
          ∙ sym (ap (λ b. cond ((goes c && waits c) && b) (Some c) (find (sought_behind (Some call.xid)) calls)) before
          ∙ fails_last (goes c && waits c) (Some c) (find (sought_behind (Some call.xid)) calls))

  -- ---- each turn has fewer calls before it

  abbrev more : (AwaitedCall → Bool) → (AwaitedCall → Bool) → Type 0
  more p q = (d : AwaitedCall) → q d ≡ true → p d ≡ true

  no_more : (p q : AwaitedCall → Bool) → more p q → (calls : List AwaitedCall) → length (filter q calls) ≤ length (filter p calls)
  no_more p q wider [] = omega arith
  no_more p q wider (c ∷ calls) = by_tests (q c) refl (p c) refl (no_more p q wider calls)
    where
      by_tests : (a : Bool) → q c ≡ a → (b : Bool) → p c ≡ b → length (filter q calls) ≤ length (filter p calls)
          → length (cond a (c ∷ filter q calls) (filter q calls)) ≤ length (cond b (c ∷ filter p calls) (filter p calls))
      by_tests true is true at rest = omega (arith, rest)
      by_tests true is false at rest = let bad : false ≡ true = sym at ∙ wider c is in absurd cc
      by_tests false is true at rest = omega (arith, rest)
      by_tests false is false at rest = rest

  one_fewer : (p q : AwaitedCall → Bool) → more p q → (call : AwaitedCall) (calls : List AwaitedCall) → find (λ (c : AwaitedCall). goes c && p c) calls ≡ Some call → q call ≡ false
      → suc (length (filter q calls)) ≤ length (filter p calls)
  one_fewer p q wider call [] found out = absurd (none-some call found)
  one_fewer p q wider call (c ∷ calls) found out = by_tests (q c) refl (p c) refl (goes c) found (λ is. one_fewer p q wider call calls is out)
    where
      by_tests : (a : Bool) → q c ≡ a → (b : Bool) → p c ≡ b → (g : Bool) → cond (g && b) (Some c) (find (λ (d : AwaitedCall). goes d && p d) calls) ≡ Some call
          → (find (λ (d : AwaitedCall). goes d && p d) calls ≡ Some call → suc (length (filter q calls)) ≤ length (filter p calls))
          → suc (length (cond a (c ∷ filter q calls) (filter q calls))) ≤ length (cond b (c ∷ filter p calls) (filter p calls))
      by_tests true at true own true is rest = let same : c ≡ call = cc in let bad : true ≡ false = sym at ∙ ap q same ∙ out in absurd cc
      by_tests true at true own false is rest = let left = rest is in omega (arith, left)
      by_tests true at false own g is rest = let bad : false ≡ true = sym own ∙ wider c at in absurd cc
      by_tests false at true own true is rest = omega (arith, no_more p q wider calls)
      by_tests false at true own false is rest = let left = rest is in omega (arith, left)
      by_tests false at false own true is rest = rest is
      by_tests false at false own false is rest = rest is

  passes : (after : Option ℕ) (call : AwaitedCall) (calls : List AwaitedCall) → find (next_behind after) calls ≡ Some call → is_behind after call.xid ≡ true
  passes after call [] found = absurd (none-some call found)
  passes after call (c ∷ calls) found = by_test (goes c && is_behind after c.xid) refl found (passes after call calls)
    where
      by_test : (b : Bool) → (goes c && is_behind after c.xid) ≡ b → cond b (Some c) (find (next_behind after) calls) ≡ Some call → (find (next_behind after) calls ≡ Some call → is_behind after call.xid ≡ true)
          → is_behind after call.xid ≡ true
      by_test true at is rest = let same : c ≡ call = cc in ap (λ (d : AwaitedCall). is_behind after d.xid) (sym same) ∙ second_holds (goes c) (is_behind after c.xid) at
      by_test false at is rest = rest is

  pub fewer_behind : (after : Option ℕ) (call : AwaitedCall) (calls : List AwaitedCall) → find (next_behind after) calls ≡ Some call
      → suc (length (filter (λ (c : AwaitedCall). is_behind (Some call.xid) c.xid) calls)) ≤ length (filter (λ (c : AwaitedCall). is_behind after c.xid) calls)
  fewer_behind after call calls found =
      one_fewer (λ c. is_behind after c.xid) (λ c. is_behind (Some call.xid) c.xid)
      (λ d is. behind_too after call.xid d.xid (passes after call calls found) (ltb-true call.xid d.xid is)) call calls found (not_behind_itself call.xid)

-- ---- of a server

module _ (m : MdsValue) (node : NodeId) (after : Option ℕ) (calls : List AwaitedCall) (is : calls ≡ m.calls) where
  abbrev goes_to : AwaitedCall → Bool
  goes_to call = is_node call.node node

  abbrev Sought : Option ℕ → AwaitedCall → Bool
  Sought from call = is_outstanding_to m node call && is_behind from call.xid

  abbrev Next : AwaitedCall → Bool
  Next call = is_node call.node node && is_behind after call.xid

  there : (found : Option AwaitedCall) → found ≡ find Next calls → find Next m.calls ≡ found
  there found next = sym (next ∙ ap (λ (l : List AwaitedCall). find Next l) is)

  pub none_awaited : find (is_outstanding_to m node) m.calls ≡ find (Sought after) m.calls → None ≡ find Next calls → None ≡ find (is_outstanding_to m node) m.calls
  none_awaited so_far next = sym (so_far ∙ none_left goes_to (is_awaited m) after m.calls (there None next))

  pub first_found : (call : AwaitedCall) → find (is_outstanding_to m node) m.calls ≡ find (Sought after) m.calls → Some call ≡ find Next calls → is_awaited m call ≡ true → Some call ≡ find (is_outstanding_to m node) m.calls
  first_found call so_far next waiting = sym (so_far ∙ next_waits goes_to (is_awaited m) after call m.calls (there (Some call) next) waiting)

  pub sought_on : (call : AwaitedCall) → find (is_outstanding_to m node) m.calls ≡ find (Sought after) m.calls → Some call ≡ find Next calls → AreOrdered calls → is_awaited m call ≡ false
      → find (is_outstanding_to m node) m.calls ≡ find (Sought (Some call.xid)) m.calls
  sought_on call so_far next ordered idle = so_far ∙ goes_behind goes_to (is_awaited m) after call m.calls (subst AreOrdered is ordered) (there (Some call) next) idle

  pub fewer_left : (call : AwaitedCall) → Some call ≡ find Next calls → length (filter (λ (c : AwaitedCall). is_behind (Some call.xid) c.xid) m.calls) < length (filter (λ (c : AwaitedCall). is_behind after c.xid) m.calls)
  fewer_left call next = let fewer = fewer_behind goes_to (is_awaited m) after call m.calls (there (Some call) next) in omega (arith, fewer)
