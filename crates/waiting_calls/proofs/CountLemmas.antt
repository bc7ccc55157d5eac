-- How often a call stands among those of a link: once where it is out, and else never, whatever moves there were.
use Rattle.std.proofs.Common.{◌≡◌, ℕ, ◌+◌, ◌-◌, ◌<◌, ◌≤◌, ◌⊎◌, inl, inr, Bool, true, false, cond, List, [], ◌∷◌, ◌++◌, Option, Some, None, refl, sym, ap, ◌∙◌, arith, subst}
use Rattle.std.specs.Prelude.{max, ◌&&◌, ◌==◌, not, nat_le}
use Rattle.std.specs.List.{filter, AllByRecursion}
use Rattle.std.proofs.lemmas.Option.{same_Some}
use Rattle.std.proofs.lemmas.Bool.{cases_lt, cond_both, le-leb, eq-eqb, eqb-true, and_parts, and_from}
use Rattle.cluster_model.specs.declared.ids.NodeId.{NodeId}
use Rattle.cluster_model.specs.declared.ids.NodeId.TheVariants.{Mds, Server, Client}
use Rattle.cluster_model.specs.Nodes.{is_node}
use Rattle.waiting_calls.specs.declared.link_call.LinkCall.{LinkCall}
use Rattle.waiting_calls.specs.declared.server_news.ServerNews.{ServerNews}
use Rattle.waiting_calls.specs.ServerNews.{is_found_down, servers_called, servers_given_up, servers_heard}
use Rattle.waiting_calls.specs.LinkCalls.{LinkCallsValue, later, is_link_call, is_read_of, new_link_call, calls_without, calls_without_known, taken_out, with_waiting, with_servers, call_goes_out, record_comes, is_node_down, first_over_of, without_first, with_reads_over_if, node_given_up, call_given_up}
use Rattle.waiting_calls.specs.LinkMoves.{LinkMove, CallGoesOut, RecordComesIn, CallIsGivenUp, DoesMove, RunsMoves}
use Rattle.waiting_calls.specs.LinkLaws.{is_one_call, is_answer_to, out_since, times_here, IsDueBehind, IsKeptOnce}
use Rattle.waiting_calls.proofs.NodeLemmas.{is_one, is_itself}

pub not_both : {b : Bool} → b ≡ true → b ≡ false → ⊥
not_both is other = absurd cc

-- ---- names of calls

pub one_call : (node : NodeId) (xid : ℕ) (other : NodeId) (number : ℕ) → is_one_call node xid other number ≡ true → (node ≡ other) × (xid ≡ number)
one_call node xid other number is =
    let parts = and_parts (is_node node other) (xid == number) is in
    (is_one node other parts.0, eqb-true xid number parts.1)

pub same_call : (node : NodeId) (xid : ℕ) → is_one_call node xid node xid ≡ true
same_call node xid = and_from (is_node node node) (xid == xid) (is_itself node) (eq-eqb xid xid refl)

same_back : (node : NodeId) (xid : ℕ) (other : NodeId) (number : ℕ) → is_one_call node xid other number ≡ true → is_one_call other number node xid ≡ true
same_back node xid other number is =
    let one = one_call node xid other number is in
    subst (λ (n : NodeId). is_one_call n number node xid ≡ true) one.0 (subst (λ (x : ℕ). is_one_call node x node xid ≡ true) one.1 (same_call node xid))

-- whether two names are one does not depend on which comes first
pub turned : (node : NodeId) (xid : ℕ) (other : NodeId) (number : ℕ) → is_one_call node xid other number ≡ is_one_call other number node xid
turned node xid other number = by_tests (is_one_call node xid other number) (is_one_call other number node xid) refl refl
  where
    by_tests : (t u : Bool) → is_one_call node xid other number ≡ t → is_one_call other number node xid ≡ u → t ≡ u
    by_tests true true is back = refl
    by_tests true false is back = absurd (not_both (same_back node xid other number is) back)
    by_tests false true is back = absurd (not_both (same_back other number node xid back) is)
    by_tests false false is back = refl

-- a call that is the one is not another
pub not_another : (node : NodeId) (xid : ℕ) (other : NodeId) (number : ℕ) (call : LinkCall) → is_one_call node xid other number ≡ false → is_link_call other number call ≡ true → is_link_call node xid call ≡ false
not_another node xid other number call differs is =
    let one = one_call call.node call.xid other number is in
    let back : is_one_call other number node xid ≡ false = sym (turned node xid other number) ∙ differs in
    subst (λ (n : NodeId). is_one_call n call.xid node xid ≡ false) (sym one.0) (subst (λ (x : ℕ). is_one_call other x node xid ≡ false) (sym one.1) back)

-- ---- what holds of each of a list

module _ (P : LinkCall → Type 0) where
  pub all_joined : (xs ys : List LinkCall) → AllByRecursion P xs → AllByRecursion P ys → AllByRecursion P (xs ++ ys)
  all_joined [] ys all rest = rest
  all_joined (x ∷ xs) ys all rest = (all.0, all_joined xs ys all.1 rest)

  pub all_without : (node : NodeId) (xid : ℕ) (xs : List LinkCall) → AllByRecursion P xs → AllByRecursion P (calls_without node xid xs)
  all_without node xid [] all = all
  all_without node xid (x ∷ xs) all = by_case (is_link_call node xid x) (all_without node xid xs all.1)
    where
      by_case : (b : Bool) → AllByRecursion P (calls_without node xid xs) → AllByRecursion P (cond b xs (x ∷ calls_without node xid xs))
      by_case true rest = all.1
      by_case false rest = (all.0, rest)

  pub all_filtered : (test : LinkCall → Bool) (xs : List LinkCall) → AllByRecursion P xs → AllByRecursion P (filter test xs)
  all_filtered test [] all = all
  all_filtered test (x ∷ xs) all = by_case (test x) (all_filtered test xs all.1)
    where
      by_case : (b : Bool) → AllByRecursion P (filter test xs) → AllByRecursion P (cond b (x ∷ filter test xs) (filter test xs))
      by_case true rest = (all.0, rest)
      by_case false rest = rest

-- ---- how often one stands in a list

module _ (node : NodeId) (xid : ℕ) where
  abbrev times : List LinkCall → ℕ
  times calls = times_here node xid calls

  pub times_joined : (xs ys : List LinkCall) → times (xs ++ ys) ≡ times xs + times ys
  times_joined [] ys = omega arith
  times_joined (x ∷ xs) ys = joined (cond (is_link_call node xid x) 1 0) (times (xs ++ ys)) (times xs) (times ys) (times_joined xs ys)
    where
      joined : (one all first rest : ℕ) → all ≡ first + rest → one + all ≡ (one + first) + rest
      joined one all first rest is = omega arith

  -- it stands once less
  pub times_without : (xs : List LinkCall) → times (calls_without node xid xs) ≡ times xs - 1
  times_without [] = refl
  times_without (x ∷ xs) = by_case (is_link_call node xid x) refl (times_without xs)
    where
      by_case : (b : Bool) → is_link_call node xid x ≡ b → times (calls_without node xid xs) ≡ times xs - 1 → times (cond b xs (x ∷ calls_without node xid xs)) ≡ (cond b 1 0 + times xs) - 1
      by_case true is rest = omega arith
      by_case false is rest = rw is (omega (arith, rest))

  -- another is taken out
  pub times_other : (other : NodeId) (number : ℕ) → is_one_call node xid other number ≡ false → (xs : List LinkCall) → times (calls_without other number xs) ≡ times xs
  times_other other number differs [] = refl
  times_other other number differs (x ∷ xs) = by_case (is_link_call other number x) refl (times_other other number differs xs)
    where
      by_case : (b : Bool) → is_link_call other number x ≡ b → times (calls_without other number xs) ≡ times xs → times (cond b xs (x ∷ calls_without other number xs)) ≡ cond (is_link_call node xid x) 1 0 + times xs
      by_case true is rest = rw (not_another node xid other number x differs is) (omega arith)
      by_case false is rest = ap (λ (n : ℕ). cond (is_link_call node xid x) 1 0 + n) rest

  -- a list in two parts
  pub times_parted : (test : LinkCall → Bool) (xs : List LinkCall) → times (filter (λ call. not (test call)) xs) + times (filter (λ call. test call) xs) ≡ times xs
  times_parted test [] = refl
  times_parted test (x ∷ xs) = by_case (test x) (times_parted test xs)
    where
      by_case : (b : Bool) → times (filter (λ call. not (test call)) xs) + times (filter (λ call. test call) xs) ≡ times xs
          → times (cond (not b) (x ∷ filter (λ call. not (test call)) xs) (filter (λ call. not (test call)) xs)) + times (cond b (x ∷ filter (λ call. test call) xs) (filter (λ call. test call) xs))
          ≡ cond (is_link_call node xid x) 1 0 + times xs
      by_case true rest = in_second (cond (is_link_call node xid x) 1 0) (times (filter (λ call. not (test call)) xs)) (times (filter (λ call. test call) xs)) (times xs) rest
        where
          in_second : (one first second all : ℕ) → first + second ≡ all → first + (one + second) ≡ one + all
          in_second one first second all is = omega arith
      by_case false rest = in_first (cond (is_link_call node xid x) 1 0) (times (filter (λ call. not (test call)) xs)) (times (filter (λ call. test call) xs)) (times xs) rest
        where
          in_first : (one first second all : ℕ) → first + second ≡ all → (one + first) + second ≡ one + all
          in_first one first second all is = omega arith

  -- it is none of these
  pub none_here : (xs : List LinkCall) → times xs ≡ 0 → AllByRecursion (λ (call : LinkCall). is_link_call node xid call ≡ false) xs
  none_here [] none = tt
  none_here (x ∷ xs) none = by_case (is_link_call node xid x) refl none (none_here xs)
    where
      by_case : (b : Bool) → is_link_call node xid x ≡ b → cond b 1 0 + times xs ≡ 0 → (times xs ≡ 0 → AllByRecursion (λ (call : LinkCall). is_link_call node xid call ≡ false) xs)
          → AllByRecursion (λ (call : LinkCall). is_link_call node xid call ≡ false) (x ∷ xs)
      by_case true is none rest = absurd (omega arith)
      by_case false is none rest = (is, rest (omega arith))

  pub due_none : (at : ℕ) (xs : List LinkCall) → times xs ≡ 0 → IsDueBehind at node xid xs
  due_none at [] none = tt
  due_none at (x ∷ xs) none = by_case (is_link_call node xid x) refl none (due_none at xs)
    where
      by_case : (b : Bool) → is_link_call node xid x ≡ b → cond b 1 0 + times xs ≡ 0 → (times xs ≡ 0 → IsDueBehind at node xid xs) → IsDueBehind at node xid (x ∷ xs)
      by_case true is none rest = absurd (omega arith)
      by_case false is none rest = ((λ other. absurd (not_both other is)), rest (omega arith))

-- ---- how often one stands among the calls of a link

-- it stands once where it is out, under its moment if it waits, and else never
abbrev pub IsCounted : Option (ℕ × Bool) → NodeId → ℕ → LinkCallsValue → Type 0
IsCounted None node xid c = times_here node xid c.waiting + times_here node xid c.at_once ≡ 0
IsCounted (Some sending) node xid c = (times_here node xid c.waiting + times_here node xid c.at_once ≡ 1) × IsDueBehind sending.0 node xid c.waiting

pub at_most_once : (sending : Option (ℕ × Bool)) (node : NodeId) (xid : ℕ) (c : LinkCallsValue) → IsCounted sending node xid c → (k : ℕ) × (times_here node xid c.waiting + times_here node xid c.at_once + k ≡ 1)
at_most_once None node xid c counted = (1, omega arith)
at_most_once (Some sending) node xid c counted = let one = counted.0 in (0, omega arith)

-- it stands as often as before, and what waits is due as before
counted_so : (sending : Option (ℕ × Bool)) (node : NodeId) (xid : ℕ) (c c' : LinkCallsValue)
    → times_here node xid c'.waiting + times_here node xid c'.at_once ≡ times_here node xid c.waiting + times_here node xid c.at_once
    → ((at : ℕ) → IsDueBehind at node xid c.waiting → IsDueBehind at node xid c'.waiting) → IsCounted sending node xid c → IsCounted sending node xid c'
counted_so None node xid c c' same due counted = same ∙ counted
counted_so (Some sending) node xid c c' same due counted = (same ∙ counted.0, due sending.0 counted.1)

-- ---- numbers

-- no call of a number above the highest stands anywhere
pub record AreBelow (c : LinkCallsValue) : Type 0 where
  pub waiting : AllByRecursion (λ (call : LinkCall). call.xid ≤ c.highest) c.waiting
  pub at_once : AllByRecursion (λ (call : LinkCall). call.xid ≤ c.highest) c.at_once

none_above : (highest : ℕ) (node : NodeId) (xid : ℕ) (calls : List LinkCall) → highest < xid → AllByRecursion (λ (call : LinkCall). call.xid ≤ highest) calls → calls_without node xid calls ≡ calls
none_above highest node xid [] above all = refl
none_above highest node xid (call ∷ calls) above all = by_case (is_link_call node xid call) refl (none_above highest node xid calls above all.1)
  where
    by_case : (b : Bool) → is_link_call node xid call ≡ b → calls_without node xid calls ≡ calls → cond b calls (call ∷ calls_without node xid calls) ≡ call ∷ calls
    by_case true is rest = let same = (one_call call.node call.xid node xid is).1 in let below = all.0 in absurd (omega arith)
    by_case false is rest = ap (λ (xs : List LinkCall). call ∷ xs) rest

without_known : (highest : ℕ) (node : NodeId) (xid : ℕ) (calls : List LinkCall) → AllByRecursion (λ (call : LinkCall). call.xid ≤ highest) calls → calls_without_known highest node xid calls ≡ calls_without node xid calls
without_known highest node xid calls all = by_case (cases_lt highest xid)
  where
    by_case : (highest < xid) ⊎ (xid ≤ highest) → calls_without_known highest node xid calls ≡ calls_without node xid calls
    by_case (inl above) = cond_both (nat_le xid highest) (calls_without node xid calls) calls (λ (xs : List LinkCall). xs ≡ calls_without node xid calls) (λ is. refl) (λ is. sym (none_above highest node xid calls above all))
    by_case (inr below) = ap (λ (b : Bool). cond b (calls_without node xid calls) calls) (le-leb xid highest below)

-- a call goes, as if each were looked for
abbrev pub plain_goes : ℕ → LinkCall → LinkCallsValue → LinkCallsValue
plain_goes now call c =
    with_waiting (call.is_data_read && is_node_down now call.node c.servers) call
    (record { waiting = calls_without call.node call.xid c.waiting; at_once = calls_without call.node call.xid c.at_once; servers = servers_called now call.node c.servers; highest = max c.highest call.xid })

pub goes_plain : (now : ℕ) (call : LinkCall) (c : LinkCallsValue) → AreBelow c → call_goes_out now call c ≡ plain_goes now call c
goes_plain now call c below =
    let waits = without_known c.highest call.node call.xid c.waiting below.waiting in
    let over = without_known c.highest call.node call.xid c.at_once below.at_once in
    λ i. with_waiting (call.is_data_read && is_node_down now call.node c.servers) call (record { waiting = waits i; at_once = over i; servers = servers_called now call.node c.servers; highest = max c.highest call.xid })

below_more : (low high : ℕ) (calls : List LinkCall) → low ≤ high → AllByRecursion (λ (call : LinkCall). call.xid ≤ low) calls → AllByRecursion (λ (call : LinkCall). call.xid ≤ high) calls
below_more low high [] less all = tt
below_more low high (call ∷ calls) less all = let below = all.0 in (omega (arith, less, below), below_more low high calls less all.1)

plain_below : (call : LinkCall) (c : LinkCallsValue) (servers : List ServerNews) (b : Bool) → AreBelow c
    → AreBelow (with_waiting b call (record { waiting = calls_without call.node call.xid c.waiting; at_once = calls_without call.node call.xid c.at_once; servers = servers; highest = max c.highest call.xid }))
plain_below call c servers b below = by_case b waits over
  where
    waits : AllByRecursion (λ (x : LinkCall). x.xid ≤ max c.highest call.xid) (calls_without call.node call.xid c.waiting)
    waits = all_without (λ (x : LinkCall). x.xid ≤ max c.highest call.xid) call.node call.xid c.waiting (below_more c.highest (max c.highest call.xid) c.waiting (omega arith) below.waiting)

    over : AllByRecursion (λ (x : LinkCall). x.xid ≤ max c.highest call.xid) (calls_without call.node call.xid c.at_once)
    over = all_without (λ (x : LinkCall). x.xid ≤ max c.highest call.xid) call.node call.xid c.at_once (below_more c.highest (max c.highest call.xid) c.at_once (omega arith) below.at_once)

    by_case : (t : Bool) → AllByRecursion (λ (x : LinkCall). x.xid ≤ max c.highest call.xid) (calls_without call.node call.xid c.waiting) → AllByRecursion (λ (x : LinkCall). x.xid ≤ max c.highest call.xid) (calls_without call.node call.xid c.at_once)
        → AreBelow (with_waiting t call (record { waiting = calls_without call.node call.xid c.waiting; at_once = calls_without call.node call.xid c.at_once; servers = servers; highest = max c.highest call.xid }))
    by_case false waits over = record { waiting = all_joined (λ (x : LinkCall). x.xid ≤ max c.highest call.xid) (calls_without call.node call.xid c.waiting) (call ∷ []) waits (omega arith, tt); at_once = over }
    by_case true waits over = record { waiting = waits; at_once = all_joined (λ (x : LinkCall). x.xid ≤ max c.highest call.xid) (calls_without call.node call.xid c.at_once) (call ∷ []) over (omega arith, tt) }

comes_below : (now : ℕ) (from : NodeId) (answers : Option ℕ) (c : LinkCallsValue) → AreBelow c → AreBelow (record_comes now from answers c)
comes_below now from None c below = record { waiting = below.waiting; at_once = below.at_once }
comes_below now from (Some xid) c below = record { waiting = all_without (λ (x : LinkCall). x.xid ≤ c.highest) from xid c.waiting below.waiting; at_once = all_without (λ (x : LinkCall). x.xid ≤ c.highest) from xid c.at_once below.at_once }

first_below : (waiting at_once : List LinkCall) (servers : List ServerNews) (highest : ℕ) → AreBelow (record { waiting = waiting; at_once = at_once; servers = servers; highest = highest }) → AreBelow (without_first at_once (record { waiting = waiting; at_once = at_once; servers = servers; highest = highest }))
first_below [] [] servers highest below = below
first_below (x ∷ xs) [] servers highest below = record { waiting = below.waiting.1; at_once = tt }
first_below waiting (x ∷ xs) servers highest below = record { waiting = below.waiting; at_once = below.at_once.1 }

moved_below : (b : Bool) (number : ℕ) (c : LinkCallsValue) → AreBelow c → AreBelow (with_reads_over_if b number c)
moved_below false number c below = below
moved_below true number c below = record {
  waiting = all_filtered (λ (x : LinkCall). x.xid ≤ c.highest) (λ call. not (is_read_of number call)) c.waiting below.waiting;
  at_once = all_joined (λ (x : LinkCall). x.xid ≤ c.highest) c.at_once (filter (λ call. is_read_of number call) c.waiting) below.at_once (all_filtered (λ (x : LinkCall). x.xid ≤ c.highest) (λ call. is_read_of number call) c.waiting below.waiting);
}

node_below : (now : ℕ) (from : NodeId) (c : LinkCallsValue) → AreBelow c → AreBelow (node_given_up now from c)
node_below now Mds c below = below
node_below now (Server number) c below = moved_below (is_found_down now number c.servers) number (with_servers (servers_given_up now (Server number) c.servers) c) (record { waiting = below.waiting; at_once = below.at_once })
node_below now (Client k) c below = below

move_below : (move : LinkMove) (old new : LinkCallsValue) → DoesMove move old new → AreBelow old → AreBelow new
move_below (CallGoesOut now node xid is_data_read) old new does below =
    let call : LinkCall = new_link_call now node xid is_data_read in
    subst AreBelow (sym (does ∙ goes_plain now call old below)) (plain_below call old (servers_called now node old.servers) (is_data_read && is_node_down now node old.servers) below)
move_below (RecordComesIn now from answers) old new does below = subst AreBelow (sym does.1) (comes_below now from answers old below)
move_below (CallIsGivenUp now node xid) old new does below = subst AreBelow (sym does.4) (node_below now does.0.node (without_first old.at_once old) (first_below old.waiting old.at_once old.servers old.highest below))

pub below : (moves : List LinkMove) (c : LinkCallsValue) → RunsMoves moves c → AreBelow c
below [] c is = subst AreBelow (sym is) (record { waiting = tt; at_once = tt })
below (move ∷ past) c run = move_below move run.0 c run.2 (below past run.0 run.1)

-- ---- a call goes out

-- the one that goes
goes_itself : (now : ℕ) (node : NodeId) (xid : ℕ) (is_data_read : Bool) (servers : List ServerNews) (highest : ℕ) (waiting at_once : List LinkCall) (b : Bool) → (k : ℕ) → times_here node xid waiting + times_here node xid at_once + k ≡ 1
    → IsCounted (Some (now, is_data_read)) node xid (with_waiting b (new_link_call now node xid is_data_read) (record { waiting = calls_without node xid waiting; at_once = calls_without node xid at_once; servers = servers; highest = highest }))
goes_itself now node xid is_data_read servers highest waiting at_once false k few =
    let call : LinkCall = new_link_call now node xid is_data_read in
    let left = calls_without node xid waiting in
    let joined = times_joined node xid left (call ∷ []) in
    let first = times_without node xid waiting in
    let second = times_without node xid at_once in
    let itself : times_here node xid (call ∷ []) ≡ 1 = rw (same_call node xid) refl in
    let none : times_here node xid left ≡ 0 = omega arith in
    (omega arith, all_joined (λ (c : LinkCall). is_link_call node xid c ≡ true → c.due ≡ later now) left (call ∷ []) (due_none node xid now left none) ((λ is. refl), tt))
goes_itself now node xid is_data_read servers highest waiting at_once true k few =
    let call : LinkCall = new_link_call now node xid is_data_read in
    let left = calls_without node xid at_once in
    let joined = times_joined node xid left (call ∷ []) in
    let first = times_without node xid waiting in
    let second = times_without node xid at_once in
    let itself : times_here node xid (call ∷ []) ≡ 1 = rw (same_call node xid) refl in
    let none : times_here node xid (calls_without node xid waiting) ≡ 0 = omega arith in
    (omega arith, due_none node xid now (calls_without node xid waiting) none)

-- another one
goes_other : (sending : Option (ℕ × Bool)) (node : NodeId) (xid now : ℕ) (other : NodeId) (number : ℕ) (is_data_read : Bool) (servers : List ServerNews) (highest : ℕ) (c : LinkCallsValue) (b : Bool) → is_one_call node xid other number ≡ false
    → IsCounted sending node xid c → IsCounted sending node xid (with_waiting b (new_link_call now other number is_data_read) (record { waiting = calls_without other number c.waiting; at_once = calls_without other number c.at_once; servers = servers; highest = highest }))
goes_other sending node xid now other number is_data_read servers highest c false differs counted =
    let call : LinkCall = new_link_call now other number is_data_read in
    let left = calls_without other number c.waiting in
    let joined = times_joined node xid left (call ∷ []) in
    let first = times_other node xid other number differs c.waiting in
    let second = times_other node xid other number differs c.at_once in
    let fails : is_link_call node xid call ≡ false = sym (turned node xid other number) ∙ differs in
    let itself : times_here node xid (call ∷ []) ≡ 0 = rw fails refl in
    counted_so sending node xid c _ (omega arith)
    (λ at due. all_joined (λ (x : LinkCall). is_link_call node xid x ≡ true → x.due ≡ later at) left (call ∷ []) (all_without (λ (x : LinkCall). is_link_call node xid x ≡ true → x.due ≡ later at) other number c.waiting due) ((λ is. absurd (not_both is fails)), tt))
    counted
goes_other sending node xid now other number is_data_read servers highest c true differs counted =
    let call : LinkCall = new_link_call now other number is_data_read in
    let left = calls_without other number c.at_once in
    let joined = times_joined node xid left (call ∷ []) in
    let first = times_other node xid other number differs c.waiting in
    let second = times_other node xid other number differs c.at_once in
    let fails : is_link_call node xid call ≡ false = sym (turned node xid other number) ∙ differs in
    let itself : times_here node xid (call ∷ []) ≡ 0 = rw fails refl in
    counted_so sending node xid c _ (omega arith)
    (λ at due. all_without (λ (x : LinkCall). is_link_call node xid x ≡ true → x.due ≡ later at) other number c.waiting due)
    counted

goes_counted : (sending : Option (ℕ × Bool)) (node : NodeId) (xid now : ℕ) (other : NodeId) (number : ℕ) (is_data_read : Bool) (c : LinkCallsValue) → IsCounted sending node xid c
    → IsCounted (cond (is_one_call node xid other number) (Some (now, is_data_read)) sending) node xid (plain_goes now (new_link_call now other number is_data_read) c)
goes_counted sending node xid now other number is_data_read c counted = by_test (is_one_call node xid other number) refl
  where
    by_test : (t : Bool) → is_one_call node xid other number ≡ t → IsCounted (cond t (Some (now, is_data_read)) sending) node xid (plain_goes now (new_link_call now other number is_data_read) c)
    by_test true is =
        let one = one_call node xid other number is in
        let few = at_most_once sending node xid c counted in
        let itself = goes_itself now node xid is_data_read (servers_called now node c.servers) (max c.highest xid) c.waiting c.at_once (is_data_read && is_node_down now node c.servers) few.0 few.1 in
        subst (λ (n : NodeId). IsCounted (Some (now, is_data_read)) node xid (plain_goes now (new_link_call now n number is_data_read) c)) one.0
        (subst (λ (x : ℕ). IsCounted (Some (now, is_data_read)) node xid (plain_goes now (new_link_call now node x is_data_read) c)) one.1 itself)
    by_test false differs = goes_other sending node xid now other number is_data_read (servers_called now other c.servers) (max c.highest number) c (is_data_read && is_node_down now other c.servers) differs counted

-- ---- a record comes in

comes_counted : (sending : Option (ℕ × Bool)) (node : NodeId) (xid now : ℕ) (from : NodeId) (answers : Option ℕ) (c : LinkCallsValue) → IsCounted sending node xid c
    → IsCounted (cond (is_answer_to node xid from answers) None sending) node xid (record_comes now from answers c)
comes_counted sending node xid now from None c counted = counted_so sending node xid c _ refl (λ at due. due) counted
comes_counted sending node xid now from (Some number) c counted = by_test (is_one_call node xid from number) refl
  where
    by_test : (t : Bool) → is_one_call node xid from number ≡ t → IsCounted (cond t None sending) node xid (taken_out from number (with_servers (servers_heard now from c.servers) c))
    by_test true is =
        let one = one_call node xid from number is in
        let few = at_most_once sending node xid c counted in
        let sum = few.1 in
        let first = times_without node xid c.waiting in
        let second = times_without node xid c.at_once in
        let none : times_here node xid (calls_without node xid c.waiting) + times_here node xid (calls_without node xid c.at_once) ≡ 0 = omega arith in
        subst (λ (n : NodeId). times_here node xid (calls_without n number c.waiting) + times_here node xid (calls_without n number c.at_once) ≡ 0) one.0
        (subst (λ (x : ℕ). times_here node xid (calls_without node x c.waiting) + times_here node xid (calls_without node x c.at_once) ≡ 0) one.1 none)
    by_test false differs =
        let first = times_other node xid from number differs c.waiting in
        let second = times_other node xid from number differs c.at_once in
        counted_so sending node xid c _ (omega arith) (λ at due. all_without (λ (x : LinkCall). is_link_call node xid x ≡ true → x.due ≡ later at) from number c.waiting due) counted

-- ---- a call is given up

-- the first of all stands there no longer
pub first_counted : (sending : Option (ℕ × Bool)) (node : NodeId) (xid now : ℕ) (waiting at_once : List LinkCall) (servers : List ServerNews) (highest : ℕ) (call : LinkCall) → first_over_of now waiting at_once ≡ Some call
    → IsCounted sending node xid (record { waiting = waiting; at_once = at_once; servers = servers; highest = highest })
    → IsCounted (cond (is_one_call node xid call.node call.xid) None sending) node xid (without_first at_once (record { waiting = waiting; at_once = at_once; servers = servers; highest = highest }))
first_counted sending node xid now [] [] servers highest call is counted = absurd cc
first_counted sending node xid now (x ∷ xs) [] servers highest call is counted = by_moment (nat_le x.due now) is
  where
    by_test : (t : Bool) → is_one_call node xid x.node x.xid ≡ t → IsCounted (cond t None sending) node xid (record { waiting = xs; at_once = []; servers = servers; highest = highest })
    by_test true same =
        let few = at_most_once sending node xid (record { waiting = x ∷ xs; at_once = []; servers = servers; highest = highest }) counted in
        let sum = few.1 in
        let here : is_link_call node xid x ≡ true = sym (turned node xid x.node x.xid) ∙ same in
        let one : times_here node xid (x ∷ xs) ≡ 1 + times_here node xid xs = rw here refl in
        omega arith
    by_test false differs =
        let here : is_link_call node xid x ≡ false = sym (turned node xid x.node x.xid) ∙ differs in
        let one : times_here node xid (x ∷ xs) ≡ 0 + times_here node xid xs = rw here refl in
        counted_so sending node xid (record { waiting = x ∷ xs; at_once = []; servers = servers; highest = highest }) (record { waiting = xs; at_once = []; servers = servers; highest = highest }) (omega arith) (λ at due. due.1) counted

    by_moment : (b : Bool) → cond b (Some x) None ≡ Some call → IsCounted (cond (is_one_call node xid call.node call.xid) None sending) node xid (record { waiting = xs; at_once = []; servers = servers; highest = highest })
    by_moment true is = subst (λ (c : LinkCall). IsCounted (cond (is_one_call node xid c.node c.xid) None sending) node xid (record { waiting = xs; at_once = []; servers = servers; highest = highest })) (same_Some x call is) (by_test (is_one_call node xid x.node x.xid) refl)
    by_moment false is = absurd cc
first_counted sending node xid now waiting (x ∷ xs) servers highest call is counted =
    subst (λ (c : LinkCall). IsCounted (cond (is_one_call node xid c.node c.xid) None sending) node xid (record { waiting = waiting; at_once = xs; servers = servers; highest = highest })) (same_Some x call is) (by_test (is_one_call node xid x.node x.xid) refl)
  where
    by_test : (t : Bool) → is_one_call node xid x.node x.xid ≡ t → IsCounted (cond t None sending) node xid (record { waiting = waiting; at_once = xs; servers = servers; highest = highest })
    by_test true same =
        let few = at_most_once sending node xid (record { waiting = waiting; at_once = x ∷ xs; servers = servers; highest = highest }) counted in
        let sum = few.1 in
        let here : is_link_call node xid x ≡ true = sym (turned node xid x.node x.xid) ∙ same in
        let one : times_here node xid (x ∷ xs) ≡ 1 + times_here node xid xs = rw here refl in
        omega arith
    by_test false differs =
        let here : is_link_call node xid x ≡ false = sym (turned node xid x.node x.xid) ∙ differs in
        let one : times_here node xid (x ∷ xs) ≡ 0 + times_here node xid xs = rw here refl in
        counted_so sending node xid (record { waiting = waiting; at_once = x ∷ xs; servers = servers; highest = highest }) (record { waiting = waiting; at_once = xs; servers = servers; highest = highest }) (omega arith) (λ at due. due) counted

-- READs that are moved stand as often
moved_counted : (sending : Option (ℕ × Bool)) (node : NodeId) (xid : ℕ) (b : Bool) (number : ℕ) (c : LinkCallsValue) → IsCounted sending node xid c → IsCounted sending node xid (with_reads_over_if b number c)
moved_counted sending node xid false number c counted = counted
moved_counted sending node xid true number c counted =
    let parted = times_parted node xid (is_read_of number) c.waiting in
    let joined = times_joined node xid c.at_once (filter (λ call. is_read_of number call) c.waiting) in
    counted_so sending node xid c _ (omega arith) (λ at due. all_filtered (λ (x : LinkCall). is_link_call node xid x ≡ true → x.due ≡ later at) (λ call. not (is_read_of number call)) c.waiting due) counted

node_counted : (sending : Option (ℕ × Bool)) (node : NodeId) (xid now : ℕ) (from : NodeId) (c : LinkCallsValue) → IsCounted sending node xid c → IsCounted sending node xid (node_given_up now from c)
node_counted sending node xid now Mds c counted = counted
node_counted sending node xid now (Server number) c counted =
    moved_counted sending node xid (is_found_down now number c.servers) number (with_servers (servers_given_up now (Server number) c.servers) c)
    (counted_so sending node xid c (with_servers (servers_given_up now (Server number) c.servers) c) refl (λ at due. due) counted)
node_counted sending node xid now (Client k) c counted = counted

-- ---- moves

pub move_counted : (node : NodeId) (xid : ℕ) (move : LinkMove) (past : List LinkMove) (old new : LinkCallsValue) → DoesMove move old new → AreBelow old → IsCounted (out_since node xid past) node xid old → IsCounted (out_since node xid (move ∷ past)) node xid new
move_counted node xid (CallGoesOut now other number is_data_read) past old new does low counted =
    subst (λ (c : LinkCallsValue). IsCounted (out_since node xid (CallGoesOut now other number is_data_read ∷ past)) node xid c) (sym (does ∙ goes_plain now (new_link_call now other number is_data_read) old low)) (goes_counted (out_since node xid past) node xid now other number is_data_read old counted)
move_counted node xid (RecordComesIn now from answers) past old new does low counted =
    subst (λ (c : LinkCallsValue). IsCounted (out_since node xid (RecordComesIn now from answers ∷ past)) node xid c) (sym does.1) (comes_counted (out_since node xid past) node xid now from answers old counted)
move_counted node xid (CallIsGivenUp now other number) past old new does low counted =
    let call = does.0 in
    let sending = cond (is_one_call node xid call.node call.xid) None (out_since node xid past) in
    let ended = node_counted sending node xid now call.node (without_first old.at_once old) (first_counted (out_since node xid past) node xid now old.waiting old.at_once old.servers old.highest call does.1 counted) in
    subst (λ (c : LinkCallsValue). IsCounted (out_since node xid (CallIsGivenUp now other number ∷ past)) node xid c) (sym does.4)
    (subst (λ (n : NodeId). IsCounted (cond (is_one_call node xid n number) None (out_since node xid past)) node xid (call_given_up now call old)) does.2
    (subst (λ (x : ℕ). IsCounted (cond (is_one_call node xid call.node x) None (out_since node xid past)) node xid (call_given_up now call old)) does.3 ended))

pub counted : (moves : List LinkMove) (c : LinkCallsValue) → RunsMoves moves c → (node : NodeId) (xid : ℕ) → IsCounted (out_since node xid moves) node xid c
counted [] c is node xid = subst (λ (x : LinkCallsValue). IsCounted None node xid x) (sym is) refl
counted (move ∷ past) c run node xid = move_counted node xid move past run.0 c run.2 (below past run.0 run.1) (counted past run.0 run.1 node xid)

pub kept : (sending : Option (ℕ × Bool)) (node : NodeId) (xid : ℕ) (c : LinkCallsValue) → IsCounted sending node xid c → IsKeptOnce sending node xid c
kept None node xid c none = (omega arith, omega arith)
kept (Some sending) node xid c one = let sum = one.0 in by_case (cases_lt 0 (times_here node xid c.waiting))
  where
    by_case : (0 < times_here node xid c.waiting) ⊎ (times_here node xid c.waiting ≤ 0) → IsKeptOnce (Some sending) node xid c
    by_case (inl more) = let sum = one.0 in inl (omega arith, omega arith, one.1)
    by_case (inr less) = let sum = one.0 in inr (omega arith, omega arith)
