-- Calls that stand in the table of those that were sent, through what becomes of the table.
use Rattle.std.proofs.Common.{arith, ◌≡◌, ◌≢◌, ◌<◌, ℕ, Bool, true, false, cond, List, [], ◌∷◌, Option, Some, refl, sym, ap, subst, ◌∙◌, ◌⊎◌, inl, inr, filter}
use Rattle.std.specs.Prelude.{◌==◌, ◌&&◌, not, nat_lt, slice_set, if◌then◌else◌}
use Rattle.std.specs.List.{find}
use Rattle.std.proofs.lemmas.Bool.{cond_both, and_parts, eqb-true, eq-eqb, ne_eqb}
use Rattle.std.proofs.lemmas.Option.{same_Some}
use Rattle.cluster_model.specs.Members.{IsOneOf}
use Rattle.cluster_model.specs.declared.ids.NodeId.{NodeId}
use Rattle.cluster_model.specs.declared.ids.NodeId.TheVariants.{Mds, Server, Client}
use Rattle.cluster_model.specs.Nodes.{is_node}
use Rattle.mds_rule.specs.MdsStates.{MdsSend, AwaitedCall, MdsValue, with_call, is_call_to, without_call}
use Rattle.mds_rule.specs.declared.waiter.Waiter.{Waiter}
use Rattle.mds_rule.specs.Answers.{is_awaited_by, is_awaited}
use Rattle.mds_walk.proofs.Lists.{found_in, found_passes}
use Rattle.mds_walk.proofs.EventWalk.{is_its}
use Rattle.mds_walk.proofs.TableKept.{IsTable}
use Rattle.standing_calls.proofs.Spots.{Spot, is_at, has_at, has_number, Once, not_both, is_off, at_number, number_at, IsLeft, out_at, out_once}

abbrev pub StandsIn : List AwaitedCall → ℕ → ℕ → Waiter → Type 0
StandsIn calls server n w = (call : AwaitedCall) × (find (is_call_to (Server server) n) calls ≡ Some call) × (call.caller ≡ w)

-- each call that is out to these places stands, sent by this waiter, and none is out twice
pub record Good (calls : List AwaitedCall) (w : Waiter) (xs : List Spot) : Type 0 where
  pub stand : (server n : ℕ) → has_at server n xs ≡ true → StandsIn calls server n w
  pub once : Once xs

pub good_left : (calls : List AwaitedCall) (w : Waiter) (ys xs : List Spot) → IsLeft ys xs → Good calls w xs → Good calls w ys
good_left calls w ys xs l g = record { stand = λ server n is. g.stand server n (l.at server n is); once = l.once g.once }

-- ---- nodes

server_is : (k : ℕ) (b : NodeId) → is_node (Server k) b ≡ true → Server k ≡ b
server_is k Mds is = absurd cc
server_is k (Server n) is = ap (λ (x : ℕ). Server x) (eqb-true k n is)
server_is k (Client n) is = absurd cc

client_is : (k : ℕ) (b : NodeId) → is_node (Client k) b ≡ true → Client k ≡ b
client_is k Mds is = absurd cc
client_is k (Server n) is = absurd cc
client_is k (Client n) is = ap (λ (x : ℕ). Client x) (eqb-true k n is)

mds_is : (b : NodeId) → is_node Mds b ≡ true → Mds ≡ b
mds_is Mds is = refl
mds_is (Server n) is = absurd cc
mds_is (Client n) is = absurd cc

pub node_is : (a b : NodeId) → is_node a b ≡ true → a ≡ b
node_is Mds b is = mds_is b is
node_is (Server k) b is = server_is k b is
node_is (Client k) b is = client_is k b is

-- ---- a call goes out

is_no_other : (node : NodeId) (n : ℕ) (c : AwaitedCall) → (c.xid == n) ≡ false → is_call_to node n c ≡ false
is_no_other node n c off = ap (λ b. is_node c.node node && b) off ∙ and_off (is_node c.node node)
  where
    and_off : (b : Bool) → (b && false) ≡ false
    and_off true = refl
    and_off false = refl

past : (node : NodeId) (n : ℕ) (c : AwaitedCall) (calls : List AwaitedCall) → (c.xid == n) ≡ false → find (is_call_to node n) (c ∷ calls) ≡ find (is_call_to node n) calls
past node n c calls off = ap (λ (b : Bool). if b then Some c else find (is_call_to node n) calls) (is_no_other node n c off)

first : (c : AwaitedCall) (calls : List AwaitedCall) → find (is_call_to c.node c.xid) (c ∷ calls) ≡ Some c
first c calls = ap (λ (b : Bool). if b then Some c else find (is_call_to c.node c.xid) calls) (is_its c)

-- one under another number is found as before
pub found_other : (node : NodeId) (n : ℕ) (c : AwaitedCall) (calls : List AwaitedCall) → c.xid ≢ n → find (is_call_to node n) (with_call c calls) ≡ find (is_call_to node n) calls
found_other node n c [] other = past node n c [] (ne_eqb c.xid n other)
found_other node n c (d ∷ calls) other =
    cond_both (nat_lt c.xid d.xid) (c ∷ d ∷ calls) (if c.xid == d.xid then c ∷ calls else d ∷ with_call c calls) (λ (l : List AwaitedCall). find (is_call_to node n) l ≡ find (is_call_to node n) (d ∷ calls))
    (λ below. past node n c (d ∷ calls) (ne_eqb c.xid n other))
    (λ off.
    cond_both (c.xid == d.xid) (c ∷ calls) (d ∷ with_call c calls) (λ (l : List AwaitedCall). find (is_call_to node n) l ≡ find (is_call_to node n) (d ∷ calls))
    (λ same. past node n c calls (ne_eqb c.xid n other) ∙ sym (past node n d calls (ne_eqb d.xid n (λ its. other (eqb-true c.xid d.xid same ∙ its)))))
    (λ away. ap (λ (o : Option AwaitedCall). if is_call_to node n d then Some d else o) (found_other node n c calls other)))

not_equal : (a b : ℕ) → (a == b) ≡ false → (b == a) ≡ false
not_equal a b off = ne_eqb b a (λ same. not_both (sym (eq-eqb a b (sym same)) ∙ off))

pub found_new : (c : AwaitedCall) (calls : List AwaitedCall) → find (is_call_to c.node c.xid) (with_call c calls) ≡ Some c
found_new c [] = first c []
found_new c (d ∷ calls) =
    cond_both (nat_lt c.xid d.xid) (c ∷ d ∷ calls) (if c.xid == d.xid then c ∷ calls else d ∷ with_call c calls) (λ (l : List AwaitedCall). find (is_call_to c.node c.xid) l ≡ Some c) (λ below. first c (d ∷ calls))
    (λ off.
    cond_both (c.xid == d.xid) (c ∷ calls) (d ∷ with_call c calls) (λ (l : List AwaitedCall). find (is_call_to c.node c.xid) l ≡ Some c) (λ same. first c calls)
    (λ away. past c.node c.xid d (with_call c calls) (not_equal c.xid d.xid away) ∙ found_new c calls))

-- what is found has its number and node
pub found_number : (node : NodeId) (n : ℕ) (calls : List AwaitedCall) (call : AwaitedCall) → find (is_call_to node n) calls ≡ Some call → call.xid ≡ n
found_number node n calls call is = eqb-true call.xid n (and_parts (is_node call.node node) (call.xid == n) (found_passes (is_call_to node n) calls call is)).1

pub found_node : (node : NodeId) (n : ℕ) (calls : List AwaitedCall) (call : AwaitedCall) → find (is_call_to node n) calls ≡ Some call → call.node ≡ node
found_node node n calls call is = node_is call.node node (and_parts (is_node call.node node) (call.xid == n) (found_passes (is_call_to node n) calls call is)).0

module _ (calls : List AwaitedCall) (next : ℕ) (ss : List MdsSend) (t : IsTable calls next ss) (has : not (next == 0) ≡ true) where
  -- a number that is out is below the next
  pub is_lower : (w : Waiter) (server n : ℕ) → StandsIn calls server n w → n < next
  is_lower w server n s =
      let less : s.0.xid < next = t.below has s.0 (found_in (is_call_to (Server server) n) calls s.0 s.1) in
      let is : s.0.xid ≡ n = found_number (Server server) n calls s.0 s.1 in
      omega (arith, less, is)

  pub next_free : (w : Waiter) (xs : List Spot) → Good calls w xs → has_number next xs ≡ false
  next_free w xs g =
      is_off (has_number next xs) (λ is.
      let at : (server : ℕ) × (has_at server next xs ≡ true) = number_at next xs is in
      let less : next < next = is_lower w at.0 next (g.stand at.0 next at.1) in
      omega (arith, less))

  module _ (c : AwaitedCall) (number : c.xid ≡ next) where
    stands_on : (w : Waiter) (server n : ℕ) → StandsIn calls server n w → StandsIn (with_call c calls) server n w
    stands_on w server n s =
        let less : n < next = is_lower w server n s in
        (s.0, found_other (Server server) n c calls (λ same. omega (arith, less, same, number)) ∙ s.1, s.2)

    pub good_called : (w : Waiter) (xs : List Spot) → Good calls w xs → Good (with_call c calls) w xs
    good_called w xs g = record { stand = λ server n is. stands_on w server n (g.stand server n is); once = g.once }

    -- it goes out to one of these places
    pub good_out : (w : Waiter) (xs : List Spot) (server i : ℕ) → c.node ≡ Server server → c.caller ≡ w → Good calls w xs → Good (with_call c calls) w (slice_set xs i (server, Some next))
    good_out w xs server i node caller g = record { stand = λ k n is. by_case k n (out_at k n xs i (server, Some next) is); once = out_once next xs i (server, Some next) refl (next_free w xs g) g.once }
      where
        found : find (is_call_to (Server server) next) (with_call c calls) ≡ Some c
        found = subst (λ (x : NodeId). find (is_call_to x next) (with_call c calls) ≡ Some c) node (subst (λ (x : ℕ). find (is_call_to c.node x) (with_call c calls) ≡ Some c) number (found_new c calls))

        by_case : (k n : ℕ) → (is_at k n (server, Some next) ≡ true) ⊎ (has_at k n xs ≡ true) → StandsIn (with_call c calls) k n w
        by_case k n (inl new) =
            let both = and_parts (server == k) (next == n) new in (
              c,
              subst (λ (x : ℕ). find (is_call_to (Server x) n) (with_call c calls) ≡ Some c) (eqb-true server k both.0)
                  (subst (λ (x : ℕ). find (is_call_to (Server server) x) (with_call c calls) ≡ Some c) (eqb-true next n both.1) found),
              caller,
            )
        by_case k n (inr old) = stands_on w k n (g.stand k n old)

-- ---- calls leave

find_filter : {A : Type 0} (p test : A → Bool) (xs : List A) (x : A) → find p xs ≡ Some x → test x ≡ true → find p (filter test xs) ≡ Some x
find_filter p test [] x is passes = is
find_filter {A = A} p test (y ∷ ys) x is passes = by_test (p y) (test y) refl refl is (find_filter p test ys x)
  where
    by_test : (b k : Bool) → p y ≡ b → test y ≡ k → cond b (Some y) (find p ys) ≡ Some x → (find p ys ≡ Some x → test x ≡ true → find p (filter test ys) ≡ Some x) → find p (cond k (y ∷ filter test ys) (filter test ys)) ≡ Some x
    by_test true true its it found rest = ap (λ (b : Bool). cond b (Some y) (find p (filter test ys))) its ∙ found
    by_test true false its it found rest = absurd (not_both (sym passes ∙ (ap test (sym (same_Some y x found)) ∙ it)))
    by_test false true its it found rest = ap (λ (b : Bool). cond b (Some y) (find p (filter test ys))) its ∙ rest found passes
    by_test false false its it found rest = rest found passes

pub good_filter : (calls : List AwaitedCall) (w : Waiter) (xs : List Spot) (test : AwaitedCall → Bool) → Good calls w xs
    → ((server n : ℕ) (call : AwaitedCall) → has_at server n xs ≡ true → find (is_call_to (Server server) n) calls ≡ Some call → call.caller ≡ w → test call ≡ true) → Good (filter test calls) w xs
good_filter calls w xs test g passes = record {
  stand = λ server n is. let s : StandsIn calls server n w = g.stand server n is in (s.0, find_filter (is_call_to (Server server) n) test calls s.0 s.1 (passes server n s.0 is s.1 s.2), s.2);
  once = g.once;
}

not_off : (b : Bool) → b ≡ false → not b ≡ true
not_off b off = ap not off

-- the call that is answered, with what is left of its waiter's
pub good_without : (calls : List AwaitedCall) (node : NodeId) (xid : ℕ) (call : AwaitedCall) (w : Waiter) (ys xs : List Spot) → find (is_call_to node xid) calls ≡ Some call → IsLeft ys xs
    → (w ≡ call.caller → has_number xid ys ≡ false) → Good calls w xs → Good (without_call node xid calls) w ys
good_without calls node xid call w ys xs found l taken g =
    good_filter calls w ys (λ (c : AwaitedCall). not (is_call_to node xid c)) (good_left calls w ys xs l g)
    (λ server n other is at caller. not_off (is_call_to node xid other) (is_off (is_call_to node xid other) (λ its. never server n other is at caller its)))
  where
    never : (server n : ℕ) (other : AwaitedCall) → has_at server n ys ≡ true → find (is_call_to (Server server) n) calls ≡ Some other → other.caller ≡ w → is_call_to node xid other ≡ true → ⊥
    never server n other is at caller its =
        let both = and_parts (is_node other.node node) (other.xid == xid) its in
        let number : n ≡ xid = sym (found_number (Server server) n calls other at) ∙ eqb-true other.xid xid both.1 in
        let to : Server server ≡ node = sym (found_node (Server server) n calls other at) ∙ node_is other.node node both.0 in
        let again : find (is_call_to node xid) calls ≡ Some other = subst (λ (x : NodeId). find (is_call_to x xid) calls ≡ Some other) to (subst (λ (x : ℕ). find (is_call_to (Server server) x) calls ≡ Some other) number at) in
        let same : other ≡ call = same_Some other call (sym again ∙ found) in
        not_both (sym (subst (λ (x : ℕ). has_number x ys ≡ true) number (at_number server n ys is)) ∙ taken (sym caller ∙ ap (λ (x : AwaitedCall). x.caller) same))

-- who waits for what is out there
abbrev pub Awaits : MdsValue → Waiter → List Spot → Type 0
Awaits m w xs = (server n : ℕ) → has_at server n xs ≡ true → is_awaited_by m (Server server) n w ≡ true

awaited_so : (m : MdsValue) (w : Waiter) (xs : List Spot) → Awaits m w xs → (server n : ℕ) (call : AwaitedCall) → has_at server n xs ≡ true → find (is_call_to (Server server) n) m.calls ≡ Some call → call.caller ≡ w → is_awaited m call ≡ true
awaited_so m w xs awaits server n call is at caller =
    ap (λ (x : NodeId). is_awaited_by m x call.xid call.caller) (found_node (Server server) n m.calls call at)
    ∙ (ap (λ (x : ℕ). is_awaited_by m (Server server) x call.caller) (found_number (Server server) n m.calls call at) ∙ (ap (λ (x : Waiter). is_awaited_by m (Server server) n x) caller ∙ awaits server n is))

-- one that nobody awaits
pub good_leaves : (m : MdsValue) (ss : List MdsSend) (node : NodeId) (xid : ℕ) (call : AwaitedCall) (w : Waiter) (xs : List Spot) → IsTable m.calls m.next_xid ss → IsOneOf call m.calls → is_call_to node xid call ≡ true → is_awaited m call ≡ false
    → Awaits m w xs → Good m.calls w xs → Good (without_call node xid m.calls) w xs
good_leaves m ss node xid call w xs t inside its off awaits g =
    good_filter m.calls w xs (λ (c : AwaitedCall). not (is_call_to node xid c)) g (λ server n other is at caller. not_off (is_call_to node xid other) (is_off (is_call_to node xid other) (λ too. never server n other is at caller too)))
  where
    never : (server n : ℕ) (other : AwaitedCall) → has_at server n xs ≡ true → find (is_call_to (Server server) n) m.calls ≡ Some other → other.caller ≡ w → is_call_to node xid other ≡ true → ⊥
    never server n other is at caller too =
        let a : other.xid ≡ xid = eqb-true other.xid xid (and_parts (is_node other.node node) (other.xid == xid) too).1 in
        let b : call.xid ≡ xid = eqb-true call.xid xid (and_parts (is_node call.node node) (call.xid == xid) its).1 in
        let same : other ≡ call = t.apart other call (found_in (is_call_to (Server server) n) m.calls other at) inside (a ∙ sym b) in
        not_both (sym (awaited_so m w xs awaits server n other is at caller) ∙ (ap (is_awaited m) same ∙ off))

-- all that nobody awaits
pub good_forgets : (m : MdsValue) (w : Waiter) (xs : List Spot) → Awaits m w xs → Good m.calls w xs → Good (filter (is_awaited m) m.calls) w xs
good_forgets m w xs awaits g = good_filter m.calls w xs (is_awaited m) g (λ server n call is at caller. awaited_so m w xs awaits server n call is at caller)
