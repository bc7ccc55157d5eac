-- Calls that nobody awaits are forgotten one after the other, by their numbers.
use Rattle.std.proofs.Common.{◌≡◌, ℕ, suc, ◌<◌, ◌≤◌, Bool, true, false, cond, not, List, [], ◌∷◌, length, filter, map, Option, Some, None, Bor, refl, sym, ap, subst, ◌∙◌, arith}
use Rattle.std.specs.Prelude.{◌&&◌, ◌||◌, ◌==◌, nat_lt, find, option_copied}
use Rattle.std.specs.Ordering.{nat_cmp}
use Rattle.std.specs.declared.cmp.Ordering.TheVariants.{Less}
use Rattle.std.proofs.lemmas.Bool.{lt-ltb, le-ltb, eq-eqb, ne_eqb}
use Rattle.std.proofs.lemmas.Cmp.{ranked}
use Rattle.std.proofs.lemmas.Option.{same_Some, none-some}
use Rattle.std.proofs.lemmas.Map.Keys.{sorted_head, sorted_tail}
use Rattle.cluster_model.specs.declared.ids.NodeId.{NodeId}
use Rattle.cluster_model.specs.declared.ids.NodeId.TheVariants.{Mds, Server, Client}
use Rattle.cluster_model.specs.Nodes.{is_node}
use Rattle.mds_rule.specs.MdsStates.{AwaitedCall, MdsValue, is_call_to}
use Rattle.mds_rule.specs.declared.waiter.Waiter.{Waiter}
use Rattle.mds_rule.specs.declared.waiter.Waiter.TheVariants.{ForFile, ForRead, ForWrite, ForRecall}
use Rattle.mds_rule.specs.Answers.{is_awaited_by, is_awaited}
use Rattle.awaited_calls.specs.Awaited.{AreOrdered, is_behind}
use Rattle.mds_core.proofs.NextAwaited.{AreAbove, behind_too, not_behind_itself, found_above, fewer_behind}

-- ---- filters

again : (p : AwaitedCall → Bool) (calls : List AwaitedCall) → filter p (filter p calls) ≡ filter p calls
again p [] = refl
again p (c ∷ calls) = by_test (p c) refl (again p calls)
  where
    by_test : (b : Bool) → p c ≡ b → filter p (filter p calls) ≡ filter p calls → filter p (cond b (c ∷ filter p calls) (filter p calls)) ≡ cond b (c ∷ filter p calls) (filter p calls)
    by_test true is rest = ap (λ b. cond b (c ∷ filter p (filter p calls)) (filter p (filter p calls))) is ∙ ap (λ (l : List AwaitedCall). c ∷ l) rest
    by_test false is rest = rest

-- one test after another that is wider
narrower : (p q : AwaitedCall → Bool) → ((d : AwaitedCall) → q d ≡ true → p d ≡ true) → (calls : List AwaitedCall) → filter q (filter p calls) ≡ filter q calls
narrower p q wider [] = refl
narrower p q wider (c ∷ calls) = by_tests (p c) refl (q c) refl (narrower p q wider calls)
  where
    by_tests : (a : Bool) → p c ≡ a → (b : Bool) → q c ≡ b → filter q (filter p calls) ≡ filter q calls → filter q (cond a (c ∷ filter p calls) (filter p calls)) ≡ cond b (c ∷ filter q calls) (filter q calls)
    by_tests true is b at rest = ap (λ t. cond t (c ∷ filter q (filter p calls)) (filter q (filter p calls))) at ∙ ap (λ (l : List AwaitedCall). cond b (c ∷ l) l) rest
    by_tests false is true at rest = let bad : false ≡ true = sym is ∙ wider c at in absurd cc
    by_tests false is false at rest = rest

found_both : (p q : AwaitedCall → Bool) (calls : List AwaitedCall) → find q (filter p calls) ≡ find (λ (d : AwaitedCall). p d && q d) calls
found_both p q [] = refl
found_both p q (c ∷ calls) = by_test (p c) (found_both p q calls)
  where
    by_test : (b : Bool) → find q (filter p calls) ≡ find (λ (d : AwaitedCall). p d && q d) calls
        → find q (cond b (c ∷ filter p calls) (filter p calls)) ≡ cond (b && q c) (Some c) (find (λ (d : AwaitedCall). p d && q d) calls)
    by_test true rest = ap (λ (r : Option AwaitedCall). cond (q c) (Some c) r) rest
    by_test false rest = rest

-- no more pass where some are gone
fewer_kept : (q s : AwaitedCall → Bool) (calls : List AwaitedCall) → length (filter q (filter s calls)) ≤ length (filter q calls)
fewer_kept q s [] = omega arith
fewer_kept q s (c ∷ calls) = by_tests (s c) (q c) refl (fewer_kept q s calls)
  where
    by_tests : (a b : Bool) → q c ≡ b → length (filter q (filter s calls)) ≤ length (filter q calls) → length (filter q (cond a (c ∷ filter s calls) (filter s calls))) ≤ length (cond b (c ∷ filter q calls) (filter q calls))
    by_tests true true is rest = subst (λ t. length (cond t (c ∷ filter q (filter s calls)) (filter q (filter s calls))) ≤ length (c ∷ filter q calls)) (sym is) (omega (arith, rest))
    by_tests true false is rest = subst (λ t. length (cond t (c ∷ filter q (filter s calls)) (filter q (filter s calls))) ≤ length (filter q calls)) (sym is) rest
    by_tests false true is rest = omega (arith, rest)
    by_tests false false is rest = rest

-- ---- tests

or_true : (w : Bool) → (w || true) ≡ true
or_true true = refl
or_true false = refl

or_false : (w : Bool) → (w || false) ≡ w
or_false true = refl
or_false false = refl

or_second : (b w : Bool) → w ≡ true → (b || w) ≡ true
or_second true w is = refl
or_second false w is = is

node_itself : (node : NodeId) → is_node node node ≡ true
node_itself Mds = refl
node_itself (Server n) = eq-eqb n n refl
node_itself (Client n) = eq-eqb n n refl

call_itself : (call : AwaitedCall) → is_call_to call.node call.xid call ≡ true
call_itself call = ap (λ b. b && (call.xid == call.xid)) (node_itself call.node) ∙ eq-eqb call.xid call.xid refl

other_number : (node : NodeId) (xid : ℕ) (call : AwaitedCall) → (call.xid == xid) ≡ false → is_call_to node xid call ≡ false
other_number node xid call is = ap (λ b. is_node call.node node && b) is ∙ none (is_node call.node node)
  where
    none : (b : Bool) → (b && false) ≡ false
    none true = refl
    none false = refl

module _ (waits : AwaitedCall → Bool) where
  abbrev past : Option ℕ → AwaitedCall → Bool
  past after call = is_behind after call.xid

  -- the calls, of which those up to a number were looked at
  abbrev left_behind : Option ℕ → List AwaitedCall → List AwaitedCall
  left_behind after calls = filter (λ (c : AwaitedCall). is_behind after c.xid || waits c) calls

  -- the others stay where a call was looked at
  abbrev stays : Bool → AwaitedCall → AwaitedCall → Bool
  stays waiting call other = waiting || not (is_call_to call.node call.xid other)

  -- none was looked at
  none_looked_at : (calls : List AwaitedCall) → left_behind None calls ≡ calls
  none_looked_at [] = refl
  none_looked_at (c ∷ calls) = ap (λ (l : List AwaitedCall). c ∷ l) (none_looked_at calls)

  -- all were looked at
  all_looked_at : (after : Option ℕ) (calls : List AwaitedCall) → find (past after) (left_behind after calls) ≡ None → left_behind after calls ≡ filter waits calls
  all_looked_at after [] none = refl
  all_looked_at after (c ∷ calls) none = by_tests (is_behind after c.xid) (waits c) refl none (all_looked_at after calls)
    where
      by_tests : (b w : Bool) → is_behind after c.xid ≡ b → find (past after) (cond (b || w) (c ∷ left_behind after calls) (left_behind after calls)) ≡ None
          → (find (past after) (left_behind after calls) ≡ None → left_behind after calls ≡ filter waits calls)
          → cond (b || w) (c ∷ left_behind after calls) (left_behind after calls) ≡ cond w (c ∷ filter waits calls) (filter waits calls)
      by_tests true w at is rest = absurd (none-some c (sym is ∙ ap (λ t. cond t (Some c) (find (past after) (left_behind after calls))) at))
      by_tests false true at is rest = ap (λ (l : List AwaitedCall). c ∷ l) (rest (sym (ap (λ t. cond t (Some c) (find (past after) (left_behind after calls))) at) ∙ is))
      by_tests false false at is rest = rest is

  -- ---- the next one was looked at

  -- those above it are as they were
  above_left : (after : Option ℕ) (xid : ℕ) (calls : List AwaitedCall) → is_behind after xid ≡ true → AreAbove xid calls → left_behind after calls ≡ calls
  above_left after xid [] is above = refl
  above_left after xid (c ∷ calls) is above =
      ap (λ b. cond (b || waits c) (c ∷ left_behind after calls) (left_behind after calls)) (behind_too after xid c.xid is (ranked xid c.xid Less (sym above.0)))
      ∙ ap (λ (l : List AwaitedCall). c ∷ l) (above_left after xid calls is above.1)

  next_left : (xid : ℕ) (calls : List AwaitedCall) → AreAbove xid calls → left_behind (Some xid) calls ≡ calls
  next_left xid [] above = refl
  next_left xid (c ∷ calls) above =
      ap (λ b. cond (b || waits c) (c ∷ left_behind (Some xid) calls) (left_behind (Some xid) calls)) (lt-ltb xid c.xid (ranked xid c.xid Less (sym above.0)))
      ∙ ap (λ (l : List AwaitedCall). c ∷ l) (next_left xid calls above.1)

  above_stay : (waiting : Bool) (call : AwaitedCall) (calls : List AwaitedCall) → AreAbove call.xid calls → filter (stays waiting call) calls ≡ calls
  above_stay waiting call [] above = refl
  above_stay waiting call (c ∷ calls) above =
      let past_it : call.xid < c.xid = ranked call.xid c.xid Less (sym above.0) in
      let other : is_call_to call.node call.xid c ≡ false = other_number call.node call.xid c (ne_eqb c.xid call.xid (λ is. omega (arith, is, past_it))) in
      ap (λ b. cond (waiting || not b) (c ∷ filter (stays waiting call) calls) (filter (stays waiting call) calls)) other
      ∙ ap (λ b. cond b (c ∷ filter (stays waiting call) calls) (filter (stays waiting call) calls)) (or_true waiting)
      ∙ ap (λ (l : List AwaitedCall). c ∷ l) (above_stay waiting call calls above.1)

  -- it is the first of the list
  first_looked_at : (after : Option ℕ) (c : AwaitedCall) (calls : List AwaitedCall) → AreAbove c.xid calls → is_behind after c.xid ≡ true → filter (stays (waits c) c) (left_behind after (c ∷ calls)) ≡ left_behind (Some c.xid) (c ∷ calls)
  first_looked_at after c calls above is =
      ap (λ b. filter (stays (waits c) c) (cond (b || waits c) (c ∷ left_behind after calls) (left_behind after calls))) is
      ∙ ap (λ (l : List AwaitedCall). filter (stays (waits c) c) (c ∷ l)) (above_left after c.xid calls is above)
      ∙ ap (λ b. cond (waits c || not b) (c ∷ filter (stays (waits c) c) calls) (filter (stays (waits c) c) calls)) (call_itself c)
      ∙ ap (λ b. cond b (c ∷ filter (stays (waits c) c) calls) (filter (stays (waits c) c) calls)) (or_false (waits c))
      ∙ ap (λ (l : List AwaitedCall). cond (waits c) (c ∷ l) l) (above_stay (waits c) c calls above ∙ sym (next_left c.xid calls above))
      ∙ sym (ap (λ b. cond (b || waits c) (c ∷ left_behind (Some c.xid) calls) (left_behind (Some c.xid) calls)) (not_behind_itself c.xid))

  looked_at : (after : Option ℕ) (call : AwaitedCall) (calls : List AwaitedCall) → AreOrdered calls → find (past after) (left_behind after calls) ≡ Some call
      → filter (stays (waits call) call) (left_behind after calls) ≡ left_behind (Some call.xid) calls
  looked_at after call [] ordered found = refl
  looked_at after call (c ∷ calls) ordered found =
      by_first (is_behind after c.xid) refl (waits c) refl found (looked_at after call calls (sorted_tail nat_cmp c.xid (map (λ (d : AwaitedCall). d.xid) calls) ordered))
    where
      above : AreAbove c.xid calls
      above = sorted_head nat_cmp c.xid (map (λ (d : AwaitedCall). d.xid) calls) ordered

      -- it stands before the call, and stays where it is awaited
      before : find (past after) (left_behind after calls) ≡ Some call → filter (stays (waits call) call) (left_behind after calls) ≡ left_behind (Some call.xid) calls → (w : Bool)
          → filter (stays (waits call) call) (cond w (c ∷ left_behind after calls) (left_behind after calls)) ≡ cond (nat_lt call.xid c.xid || w) (c ∷ left_behind (Some call.xid) calls) (left_behind (Some call.xid) calls)
      before is rest w =
          let higher : c.xid < call.xid = found_above (λ d. true) waits (λ d. (is_behind after d.xid || waits d) && is_behind after d.xid) c.xid call calls (sym (found_both (λ d. is_behind after d.xid || waits d) (past after) calls) ∙ is) above in
          let other : is_call_to call.node call.xid c ≡ false = other_number call.node call.xid c (ne_eqb c.xid call.xid (λ same. omega (arith, same, higher))) in
          let lower : nat_lt call.xid c.xid ≡ false = le-ltb call.xid c.xid (omega (arith, higher)) in
          by_wait w (ap (λ b. waits call || not b) other ∙ or_true (waits call)) rest
          ∙ sym (ap (λ b. cond (b || w) (c ∷ left_behind (Some call.xid) calls) (left_behind (Some call.xid) calls)) lower)
        where
          by_wait : (v : Bool) → stays (waits call) call c ≡ true → filter (stays (waits call) call) (left_behind after calls) ≡ left_behind (Some call.xid) calls
              → filter (stays (waits call) call) (cond v (c ∷ left_behind after calls) (left_behind after calls)) ≡ cond v (c ∷ left_behind (Some call.xid) calls) (left_behind (Some call.xid) calls)
          by_wait true stay rest =
              ap (λ b. cond b (c ∷ filter (stays (waits call) call) (left_behind after calls)) (filter (stays (waits call) call) (left_behind after calls))) stay
              ∙ ap (λ (l : List AwaitedCall). c ∷ l) rest
          by_wait false stay rest = rest

      by_first : (b : Bool) → is_behind after c.xid ≡ b → (w : Bool) → waits c ≡ w → find (past after) (cond (b || w) (c ∷ left_behind after calls) (left_behind after calls)) ≡ Some call
          → (find (past after) (left_behind after calls) ≡ Some call → filter (stays (waits call) call) (left_behind after calls) ≡ left_behind (Some call.xid) calls)
          → filter (stays (waits call) call) (cond (b || w) (c ∷ left_behind after calls) (left_behind after calls)) ≡ cond (nat_lt call.xid c.xid || w) (c ∷ left_behind (Some call.xid) calls) (left_behind (Some call.xid) calls)
      by_first true at w waiting is rest =
          let same : c ≡ call = same_Some c call (sym (ap (λ t. cond t (Some c) (find (past after) (left_behind after calls))) at) ∙ is) in
          let whole : filter (stays (waits c) c) (left_behind after (c ∷ calls)) ≡ left_behind (Some c.xid) (c ∷ calls) = first_looked_at after c calls above at in
          subst (λ (d : AwaitedCall). filter (stays (waits d) d) (c ∷ left_behind after calls) ≡ cond (nat_lt d.xid c.xid || w) (c ∷ left_behind (Some d.xid) calls) (left_behind (Some d.xid) calls)) same
          (subst (λ v. filter (stays (waits c) c) (cond (true || v) (c ∷ left_behind after calls) (left_behind after calls)) ≡ cond (nat_lt c.xid c.xid || v) (c ∷ left_behind (Some c.xid) calls) (left_behind (Some c.xid) calls)) waiting
          (subst (λ b. filter (stays (waits c) c) (cond (b || waits c) (c ∷ left_behind after calls) (left_behind after calls)) ≡ left_behind (Some c.xid) (c ∷ calls)) at whole))
      by_first false at true waiting is rest =
          let later : find (past after) (left_behind after calls) ≡ Some call = sym (ap (λ t. cond t (Some c) (find (past after) (left_behind after calls))) at) ∙ is in
          before later (rest later) true
      by_first false at false waiting is rest = before is (rest is) false

-- ---- of a server

-- whether a call is awaited does not go by the calls that stand
awaits_same : (m : MdsValue) (calls : List AwaitedCall) (node : NodeId) (xid : ℕ) (caller : Waiter) → is_awaited_by (record m { calls = calls }) node xid caller ≡ is_awaited_by m node xid caller
awaits_same m calls node xid (ForFile file) = refl
awaits_same m calls node xid (ForRead file) = refl
awaits_same m calls node xid (ForWrite file) = refl
awaits_same m calls node xid ForRecall = refl

-- of the calls that stood, those that nobody awaits are gone up to a number
pub record IsForgotten (m : MdsValue) (after : Option ℕ) (n : MdsValue) : Type 0 where
  pub awaited : filter (is_awaited m) n.calls ≡ filter (is_awaited m) m.calls
  pub left : left_behind (is_awaited m) after n.calls ≡ n.calls
  pub others : n ≡ record m { calls = n.calls }

pub begun : (m : MdsValue) → IsForgotten m None m
begun m = record { awaited = refl; left = none_looked_at (is_awaited m) m.calls; others = refl }

-- what the code has found of the calls
none_found : (found : Option (Bor AwaitedCall)) (o : Option AwaitedCall) → ((call : Bor AwaitedCall) → found ≡ Some call → ⊥) → option_copied found ≡ o → o ≡ None
none_found None o none is = sym is
none_found (Some call) o none is = absurd (none call refl)

pub done : (m n view : MdsValue) (after : Option ℕ) → view ≡ n → IsForgotten m after n → (found : Option (Bor AwaitedCall)) → ((call : Bor AwaitedCall) → found ≡ Some call → ⊥)
    → option_copied found ≡ find (λ (c : AwaitedCall). is_behind after c.xid) view.calls → n ≡ record m { calls = filter (is_awaited m) m.calls }
done m n view after is f found none next =
    let no_more : find (λ (c : AwaitedCall). is_behind after c.xid) n.calls ≡ None =
    sym (ap (λ (k : MdsValue). find (λ (c : AwaitedCall). is_behind after c.xid) k.calls) is) ∙ none_found found (find (λ (c : AwaitedCall). is_behind after c.xid) view.calls) none next in
    let gone : n.calls ≡ filter (is_awaited m) n.calls =
    sym f.left ∙ all_looked_at (is_awaited m) after n.calls (ap (λ (l : List AwaitedCall). find (λ (c : AwaitedCall). is_behind after c.xid) l) f.left ∙ no_more) in
    f.others ∙ ap (λ (l : List AwaitedCall). record m { calls = l }) (gone ∙ f.awaited)

module _ (m n view : MdsValue) (after : Option ℕ) (call : AwaitedCall) (is : view ≡ n) (f : IsForgotten m after n) (ordered : AreOrdered view.calls) (next : Some call ≡ find (λ (c : AwaitedCall). is_behind after c.xid) view.calls) where
  abbrev waits_for : AwaitedCall → Bool
  waits_for = is_awaited m

  abbrev others_than : AwaitedCall → Bool
  others_than other = not (is_call_to call.node call.xid other)

  it_is : find (λ (c : AwaitedCall). is_behind after c.xid) n.calls ≡ Some call
  it_is = sym (next ∙ ap (λ (k : MdsValue). find (λ (c : AwaitedCall). is_behind after c.xid) k.calls) is)

  list_is : filter (stays waits_for (waits_for call) call) n.calls ≡ left_behind waits_for (Some call.xid) n.calls
  list_is =
      ap (λ (l : List AwaitedCall). filter (stays waits_for (waits_for call) call) l) (sym f.left)
      ∙ looked_at waits_for after call n.calls (subst (λ (k : MdsValue). AreOrdered k.calls) is ordered)
      (ap (λ (l : List AwaitedCall). find (λ (c : AwaitedCall). is_behind after c.xid) l) f.left ∙ it_is)

  goes_on : (calls : List AwaitedCall) → calls ≡ left_behind waits_for (Some call.xid) n.calls → IsForgotten m (Some call.xid) (record n { calls = calls })
  goes_on calls at = record {
    awaited = ap (λ (l : List AwaitedCall). filter waits_for l) at
        ∙ narrower (λ c. is_behind (Some call.xid) c.xid || waits_for c) waits_for (λ d waiting. or_second (is_behind (Some call.xid) d.xid) (waits_for d) waiting) n.calls
        ∙ f.awaited;
    left = ap (λ (l : List AwaitedCall). left_behind waits_for (Some call.xid) l) at ∙ again (λ c. is_behind (Some call.xid) c.xid || waits_for c) n.calls ∙ sym at;
    others = ap (λ (k : MdsValue). record k { calls = calls }) f.others;
  }

  waits_so : is_awaited n call ≡ is_awaited m call
  waits_so = ap (λ (k : MdsValue). is_awaited k call) f.others ∙ awaits_same m n.calls call.node call.xid call.caller

  -- it is awaited, and stays
  pub one_stays : is_awaited n call ≡ true → IsForgotten m (Some call.xid) n
  one_stays waiting = goes_on n.calls (sym (all_stay n.calls) ∙ ap (λ w. filter (stays waits_for w call) n.calls) (sym (sym waits_so ∙ waiting)) ∙ list_is)
    where
      all_stay : (calls : List AwaitedCall) → filter (stays waits_for true call) calls ≡ calls
      all_stay [] = refl
      all_stay (c ∷ calls) = ap (λ (l : List AwaitedCall). c ∷ l) (all_stay calls)

  -- nobody awaits it, and it is gone
  pub one_goes : is_awaited n call ≡ false → (calls : List AwaitedCall) → calls ≡ filter others_than view.calls → IsForgotten m (Some call.xid) (record view { calls = calls })
  one_goes idle calls gone =
      subst (λ (k : MdsValue). IsForgotten m (Some call.xid) k)
      (ap (λ (k : MdsValue). record k { calls = filter others_than k.calls }) (sym is) ∙ ap (λ (l : List AwaitedCall). record view { calls = l }) (sym gone))
      (goes_on (filter others_than n.calls) (ap (λ w. filter (stays waits_for w call) n.calls) (sym (sym waits_so ∙ idle)) ∙ list_is))

  -- fewer are left to be looked at
  pub fewer_stay : length (filter (λ (c : AwaitedCall). is_behind (Some call.xid) c.xid) n.calls) < length (filter (λ (c : AwaitedCall). is_behind after c.xid) n.calls)
  fewer_stay = let fewer = fewer_behind (λ c. true) waits_for after call n.calls it_is in omega (arith, fewer)

  pub fewer_go : (calls : List AwaitedCall) → calls ≡ filter others_than view.calls
      → length (filter (λ (c : AwaitedCall). is_behind (Some call.xid) c.xid) calls) < length (filter (λ (c : AwaitedCall). is_behind after c.xid) n.calls)
  fewer_go calls gone =
      let fewer = fewer_behind (λ c. true) waits_for after call n.calls it_is in
      let kept = fewer_kept (λ c. is_behind (Some call.xid) c.xid) others_than n.calls in
      let same = ap (λ (l : List AwaitedCall). length (filter (λ (c : AwaitedCall). is_behind (Some call.xid) c.xid) l)) (gone ∙ ap (λ (k : MdsValue). filter others_than k.calls) is) in
      omega (arith, fewer, kept, same)
