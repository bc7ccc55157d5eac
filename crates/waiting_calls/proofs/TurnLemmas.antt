-- That calls wait in the order of their last sending, and that those that are given up at once are READs of silent servers.
use Rattle.std.proofs.Common.{◌≡◌, ℕ, ◌+◌, ◌<◌, ◌≤◌, inl, inr, Bool, true, false, cond, List, [], ◌∷◌, ◌++◌, Option, Some, None, refl, sym, ap, ◌∙◌, arith, subst}
use Rattle.std.specs.Prelude.{max, ◌&&◌, not, nat_le}
use Rattle.std.specs.List.{filter, AllByRecursion}
use Rattle.std.proofs.lemmas.Option.{same_Some}
use Rattle.std.proofs.lemmas.Bool.{leb-true, and_parts}
use Rattle.cluster_model.specs.declared.ids.NodeId.{NodeId}
use Rattle.cluster_model.specs.declared.ids.NodeId.TheVariants.{Mds, Server, Client}
use Rattle.cluster_model.specs.Nodes.{is_node}
use Rattle.waiting_calls.specs.declared.link_call.LinkCall.{LinkCall}
use Rattle.waiting_calls.specs.declared.server_news.ServerNews.{ServerNews}
use Rattle.waiting_calls.specs.ServerNews.{is_server_down, is_found_down, servers_called, servers_given_up}
use Rattle.waiting_calls.specs.LinkCalls.{LinkCallsValue, later, is_link_call, is_read_of, is_node_down, new_link_call, calls_without, with_waiting, with_servers, with_reads_over_if, record_comes, first_over_of, call_over, without_first, node_given_up, call_given_up, first_due_moment, earliest_of, earliest}
use Rattle.waiting_calls.specs.LinkMoves.{LinkMove, CallGoesOut, RecordComesIn, CallIsGivenUp, DoesMove, RunsMoves, NeverFall, last_moment, move_moment}
use Rattle.waiting_calls.specs.LinkLaws.{is_one_call, is_answer_to, out_since, times_here, IsSilentBy, EndsRightly}
use Rattle.waiting_calls.proofs.NodeLemmas.{is_one}
use Rattle.waiting_calls.proofs.CountLemmas.{one_call, same_call, all_joined, all_without, none_here, times_without, IsCounted, at_most_once, counted, first_counted, AreBelow, below, goes_plain, plain_goes}
use Rattle.waiting_calls.proofs.NewsLemmas.{AreTold, IsNoneOf, silent_later, silent_on, down_silent, found_silent, told_behind_call, told_behind_record, told_behind_end, heard_up}

-- ---- what is told of one call

-- a call is due behind its last sending, and is what went then
pub record IsOut (moves : List LinkMove) (call : LinkCall) (at : ℕ) : Type 0 where
  pub is_data_read : Bool
  pub sent : out_since call.node call.xid moves ≡ Some (at, is_data_read)
  pub reads : call.is_data_read ≡ is_data_read
  pub due : call.due ≡ later at

-- calls that went out one after the other, none before this moment
abbrev pub AreInTurn : ℕ → List LinkMove → List LinkCall → Type 0
AreInTurn low moves [] = Unit {0}
AreInTurn low moves (call ∷ calls) = (at : ℕ) × IsOut moves call at × (low ≤ at) × AreInTurn at moves calls

-- a READ of a silent server
pub record IsHopeless (moves : List LinkMove) (call : LinkCall) : Type 0 where
  pub at : ℕ
  pub sent : out_since call.node call.xid moves ≡ Some (at, true)
  pub number : ℕ
  pub server : call.node ≡ Server number
  pub silent : IsSilentBy number (last_moment moves) moves

-- a move changes nothing of when a call went out
abbrev IsSame : List LinkMove → List LinkMove → LinkCall → Type 0
IsSame past moves call = out_since call.node call.xid moves ≡ out_since call.node call.xid past

turn_same : (low : ℕ) (past moves : List LinkMove) (calls : List LinkCall) → AllByRecursion (IsSame past moves) calls → AreInTurn low past calls → AreInTurn low moves calls
turn_same low past moves [] same turn = tt
turn_same low past moves (call ∷ calls) same turn =
    let out = turn.1 in
    (turn.0, record { is_data_read = out.is_data_read; sent = same.0 ∙ out.sent; reads = out.reads; due = out.due }, turn.2, turn_same turn.0 past moves calls same.1 turn.3)

turn_lower : (low at : ℕ) (moves : List LinkMove) (calls : List LinkCall) → low ≤ at → AreInTurn at moves calls → AreInTurn low moves calls
turn_lower low at moves [] less turn = tt
turn_lower low at moves (call ∷ calls) less turn = let more = turn.2 in (turn.0, turn.1, omega (arith, less, more), turn.3)

turn_without : (node : NodeId) (xid low : ℕ) (moves : List LinkMove) (calls : List LinkCall) → AreInTurn low moves calls → AreInTurn low moves (calls_without node xid calls)
turn_without node xid low moves [] turn = tt
turn_without node xid low moves (call ∷ calls) turn = by_case (is_link_call node xid call) (turn_without node xid turn.0 moves calls turn.3)
  where
    by_case : (b : Bool) → AreInTurn turn.0 moves (calls_without node xid calls) → AreInTurn low moves (cond b calls (call ∷ calls_without node xid calls))
    by_case true rest = turn_lower low turn.0 moves calls turn.2 turn.3
    by_case false rest = (turn.0, turn.1, turn.2, rest)

turn_filtered : (test : LinkCall → Bool) (low : ℕ) (moves : List LinkMove) (calls : List LinkCall) → AreInTurn low moves calls → AreInTurn low moves (filter test calls)
turn_filtered test low moves [] turn = tt
turn_filtered test low moves (call ∷ calls) turn = by_case (test call) (turn_filtered test turn.0 moves calls turn.3)
  where
    by_case : (b : Bool) → AreInTurn turn.0 moves (filter test calls) → AreInTurn low moves (cond b (call ∷ filter test calls) (filter test calls))
    by_case true rest = (turn.0, turn.1, turn.2, rest)
    by_case false rest = turn_lower low turn.0 moves (filter test calls) turn.2 rest

-- nothing went out behind the latest move
out_before : (node : NodeId) (xid : ℕ) (moves : List LinkMove) (at : ℕ) (is_data_read : Bool) → NeverFall moves → out_since node xid moves ≡ Some (at, is_data_read) → at ≤ last_moment moves
out_before node xid [] at is_data_read fall is = absurd cc
out_before node xid (CallGoesOut now to number r ∷ past) at is_data_read fall is = by_case (is_one_call node xid to number) is (out_before node xid past at is_data_read fall.1)
  where
    by_case : (b : Bool) → cond b (Some (now, r)) (out_since node xid past) ≡ Some (at, is_data_read) → (out_since node xid past ≡ Some (at, is_data_read) → at ≤ last_moment past) → at ≤ now
    by_case true is rest = let same : now ≡ at = ap (λ (p : ℕ × Bool). p.0) (same_Some (now, r) (at, is_data_read) is) in omega arith
    by_case false is rest = let before = rest is in let after = fall.0 in omega arith
out_before node xid (RecordComesIn now from answers ∷ past) at is_data_read fall is = by_case (is_answer_to node xid from answers) is (out_before node xid past at is_data_read fall.1)
  where
    by_case : (b : Bool) → cond b None (out_since node xid past) ≡ Some (at, is_data_read) → (out_since node xid past ≡ Some (at, is_data_read) → at ≤ last_moment past) → at ≤ now
    by_case true is rest = absurd cc
    by_case false is rest = let before = rest is in let after = fall.0 in omega arith
out_before node xid (CallIsGivenUp now to number ∷ past) at is_data_read fall is = by_case (is_one_call node xid to number) is (out_before node xid past at is_data_read fall.1)
  where
    by_case : (b : Bool) → cond b None (out_since node xid past) ≡ Some (at, is_data_read) → (out_since node xid past ≡ Some (at, is_data_read) → at ≤ last_moment past) → at ≤ now
    by_case true is rest = absurd cc
    by_case false is rest = let before = rest is in let after = fall.0 in omega arith

turn_pushed : (low now : ℕ) (moves : List LinkMove) (calls : List LinkCall) (call : LinkCall) → NeverFall moves → last_moment moves ≡ now → low ≤ now → IsOut moves call now → AreInTurn low moves calls → AreInTurn low moves (calls ++ call ∷ [])
turn_pushed low now moves [] call fall last less out turn = (now, out, less, tt)
turn_pushed low now moves (x ∷ xs) call fall last less out turn =
    let its = turn.1 in
    let before = out_before x.node x.xid moves turn.0 its.is_data_read fall its.sent in
    (turn.0, its, turn.2, turn_pushed turn.0 now moves xs call fall last (omega (arith, before, last)) out turn.3)

-- no call that waits went out before this moment
turn_least : (node : NodeId) (xid low : ℕ) (moves : List LinkMove) (calls : List LinkCall) (at : ℕ) (is_data_read : Bool) → out_since node xid moves ≡ Some (at, is_data_read) → 0 < times_here node xid calls → AreInTurn low moves calls → low ≤ at
turn_least node xid low moves [] at is_data_read is here turn = absurd (omega arith)
turn_least node xid low moves (call ∷ calls) at is_data_read is here turn = by_case (is_link_call node xid call) refl here (λ more. turn_least node xid turn.0 moves calls at is_data_read is more turn.3)
  where
    by_case : (b : Bool) → is_link_call node xid call ≡ b → 0 < cond b 1 0 + times_here node xid calls → (0 < times_here node xid calls → turn.0 ≤ at) → low ≤ at
    by_case true one here rest =
        let names = one_call call.node call.xid node xid one in
        let out = turn.1 in
        let its : out_since node xid moves ≡ Some (turn.0, out.is_data_read) =
        subst (λ (n : NodeId). out_since n xid moves ≡ Some (turn.0, out.is_data_read)) names.0 (subst (λ (x : ℕ). out_since call.node x moves ≡ Some (turn.0, out.is_data_read)) names.1 out.sent) in
        let same : turn.0 ≡ at = ap (λ (p : ℕ × Bool). p.0) (same_Some (turn.0, out.is_data_read) (at, is_data_read) (sym its ∙ is)) in
        let less = turn.2 in
        omega (arith, same, less)
    by_case false one here rest = let more = rest (omega arith) in let less = turn.2 in omega (arith, more, less)

-- ---- READs that are given up at once

abbrev AreHopeless : List LinkMove → List LinkCall → Type 0
AreHopeless moves calls = AllByRecursion (λ (call : LinkCall). IsHopeless moves call) calls

all_so : (P Q : LinkCall → Type 0) → ((call : LinkCall) → P call → Q call) → (calls : List LinkCall) → AllByRecursion P calls → AllByRecursion Q calls
all_so P Q says [] all = tt
all_so P Q says (call ∷ calls) all = (says call all.0, all_so P Q says calls all.1)

all_any : (P : LinkCall → Type 0) → ((call : LinkCall) → P call) → (calls : List LinkCall) → AllByRecursion P calls
all_any P says [] = tt
all_any P says (call ∷ calls) = (says call, all_any P says calls)

hopeless_on : (move : LinkMove) (past : List LinkMove) → last_moment past ≤ move_moment move → ((number : ℕ) → IsNoneOf number move) → (calls : List LinkCall) → AllByRecursion (IsSame past (move ∷ past)) calls → AreHopeless past calls → AreHopeless (move ∷ past) calls
hopeless_on move past after none [] same all = tt
hopeless_on move past after none (call ∷ calls) same all =
    let its = all.0 in (
      record { at = its.at; sent = same.0 ∙ its.sent; number = its.number; server = its.server; silent = silent_later its.number (last_moment past) (move_moment move) (move ∷ past) after (silent_on its.number (last_moment past) move past (none its.number) its.silent) },
      hopeless_on move past after none calls same.1 all.1,
    )

-- the READs of a server that is found silent
reads_hopeless : (moves : List LinkMove) (number low : ℕ) (calls : List LinkCall) → IsSilentBy number (last_moment moves) moves → AreInTurn low moves calls → AreHopeless moves (filter (λ call. is_read_of number call) calls)
reads_hopeless moves number low [] silent turn = tt
reads_hopeless moves number low (call ∷ calls) silent turn = by_case (is_read_of number call) refl (reads_hopeless moves number turn.0 calls silent turn.3)
  where
    by_case : (b : Bool) → is_read_of number call ≡ b → AreHopeless moves (filter (λ c. is_read_of number c) calls) → AreHopeless moves (cond b (call ∷ filter (λ c. is_read_of number c) calls) (filter (λ c. is_read_of number c) calls))
    by_case true is rest =
        let parts = and_parts call.is_data_read (is_node call.node (Server number)) is in
        let out = turn.1 in
        let reads : out.is_data_read ≡ true = sym out.reads ∙ parts.0 in
        (record { at = turn.0; sent = out.sent ∙ ap (λ (r : Bool). Some (turn.0, r)) reads; number = number; server = is_one call.node (Server number) parts.1; silent = silent }, rest)
    by_case false is rest = rest

-- ---- what holds of the calls behind moves

pub record IsRight (moves : List LinkMove) (c : LinkCallsValue) : Type 0 where
  pub turn : AreInTurn 0 moves c.waiting
  pub hopeless : AreHopeless moves c.at_once
  pub told : AreTold moves c.servers

-- one that was taken out stands nowhere
none_left : (node : NodeId) (xid : ℕ) (sending : Option (ℕ × Bool)) (c : LinkCallsValue) → IsCounted sending node xid c → (times_here node xid (calls_without node xid c.waiting) ≡ 0) × (times_here node xid (calls_without node xid c.at_once) ≡ 0)
none_left node xid sending c count =
    let few = at_most_once sending node xid c count in
    let sum = few.1 in
    let first = times_without node xid c.waiting in
    let second = times_without node xid c.at_once in
    (omega arith, omega arith)

node_down : (now : ℕ) (node : NodeId) (servers : List ServerNews) → is_node_down now node servers ≡ true → (number : ℕ) × (node ≡ Server number) × (is_server_down now number servers ≡ true)
node_down now Mds servers is = absurd cc
node_down now (Server number) servers is = (number, refl, is)
node_down now (Client k) servers is = absurd cc

-- a call goes out
goes_right : (now : ℕ) (node : NodeId) (xid : ℕ) (is_data_read : Bool) (past : List LinkMove) (c : LinkCallsValue) → NeverFall (CallGoesOut now node xid is_data_read ∷ past) → IsCounted (out_since node xid past) node xid c → IsRight past c
    → IsRight (CallGoesOut now node xid is_data_read ∷ past) (plain_goes now (new_link_call now node xid is_data_read) c)
goes_right now node xid is_data_read past c fall count right = by_case (is_data_read && is_node_down now node c.servers) refl
  where
    same : (calls : List LinkCall) → times_here node xid calls ≡ 0 → AllByRecursion (IsSame past (CallGoesOut now node xid is_data_read ∷ past)) calls
    same calls none = all_so (λ (x : LinkCall). is_link_call node xid x ≡ false) (IsSame past (CallGoesOut now node xid is_data_read ∷ past)) (λ x differs. ap (λ (b : Bool). cond b (Some (now, is_data_read)) (out_since x.node x.xid past)) differs) calls (none_here node xid calls none)

    sent : out_since node xid (CallGoesOut now node xid is_data_read ∷ past) ≡ Some (now, is_data_read)
    sent = rw (same_call node xid) refl

    by_case : (b : Bool) → (is_data_read && is_node_down now node c.servers) ≡ b → IsRight (CallGoesOut now node xid is_data_read ∷ past) (with_waiting b (new_link_call now node xid is_data_read) (record { waiting = calls_without node xid c.waiting; at_once = calls_without node xid c.at_once; servers = servers_called now node c.servers; highest = max c.highest xid }))
    by_case false is =
        let none = none_left node xid (out_since node xid past) c count in
        let waits = turn_same 0 past (CallGoesOut now node xid is_data_read ∷ past) (calls_without node xid c.waiting) (same (calls_without node xid c.waiting) none.0) (turn_without node xid 0 past c.waiting right.turn) in
        record {
          turn = turn_pushed 0 now (CallGoesOut now node xid is_data_read ∷ past) (calls_without node xid c.waiting) (new_link_call now node xid is_data_read) fall refl (omega arith) (record { is_data_read = is_data_read; sent = sent; reads = refl; due = refl }) waits;
          hopeless = hopeless_on (CallGoesOut now node xid is_data_read) past fall.0 (λ n. tt) (calls_without node xid c.at_once) (same (calls_without node xid c.at_once) none.1) (all_without (λ (x : LinkCall). IsHopeless past x) node xid c.at_once right.hopeless);
          told = told_behind_call now node xid is_data_read past c.servers fall.0 right.told;
        }
    by_case true is =
        let none = none_left node xid (out_since node xid past) c count in
        let parts = and_parts is_data_read (is_node_down now node c.servers) is in
        let down = node_down now node c.servers parts.1 in
        let silent = silent_on down.0 now (CallGoesOut now node xid is_data_read) past tt (down_silent now down.0 past c.servers right.told fall.0 down.2) in
        let its : IsHopeless (CallGoesOut now node xid is_data_read ∷ past) (new_link_call now node xid is_data_read) =
        record { at = now; sent = sent ∙ ap (λ (r : Bool). Some (now, r)) parts.0; number = down.0; server = down.1; silent = silent } in
        record {
          turn = turn_same 0 past (CallGoesOut now node xid is_data_read ∷ past) (calls_without node xid c.waiting) (same (calls_without node xid c.waiting) none.0) (turn_without node xid 0 past c.waiting right.turn);
          hopeless = all_joined (λ (x : LinkCall). IsHopeless (CallGoesOut now node xid is_data_read ∷ past) x) (calls_without node xid c.at_once) (new_link_call now node xid is_data_read ∷ [])
              (hopeless_on (CallGoesOut now node xid is_data_read) past fall.0 (λ n. tt) (calls_without node xid c.at_once) (same (calls_without node xid c.at_once) none.1) (all_without (λ (x : LinkCall). IsHopeless past x) node xid c.at_once right.hopeless)) (its, tt);
          told = told_behind_call now node xid is_data_read past c.servers fall.0 right.told;
        }

-- a record comes in
comes_right : (now : ℕ) (node : NodeId) (answers : Option ℕ) (past : List LinkMove) (c : LinkCallsValue) → last_moment past ≤ now → c.at_once ≡ [] → ((xid : ℕ) → IsCounted (out_since node xid past) node xid c) → IsRight past c
    → IsRight (RecordComesIn now node answers ∷ past) (record_comes now node answers c)
comes_right now node None past c after none count right = record {
  turn = turn_same 0 past (RecordComesIn now node None ∷ past) c.waiting (all_any (IsSame past (RecordComesIn now node None ∷ past)) (λ call. refl) c.waiting) right.turn;
  hopeless = subst (λ (calls : List LinkCall). AreHopeless (RecordComesIn now node None ∷ past) calls) (sym none) tt;
  told = told_behind_record now node None past c.servers after right.told;
}
comes_right now node (Some xid) past c after none count right =
    let left = none_left node xid (out_since node xid past) c (count xid) in
    record {
      turn = turn_same 0 past (RecordComesIn now node (Some xid) ∷ past) (calls_without node xid c.waiting)
          (all_so (λ (x : LinkCall). is_link_call node xid x ≡ false) (IsSame past (RecordComesIn now node (Some xid) ∷ past)) (λ x differs. ap (λ (b : Bool). cond b None (out_since x.node x.xid past)) differs) (calls_without node xid c.waiting) (none_here node xid (calls_without node xid c.waiting) left.0))
          (turn_without node xid 0 past c.waiting right.turn);
      hopeless = subst (λ (calls : List LinkCall). AreHopeless (RecordComesIn now node (Some xid) ∷ past) (calls_without node xid calls)) (sym none) tt;
      told = told_behind_record now node (Some xid) past c.servers after right.told;
    }

-- the first of all stands there no longer
first_right : (now : ℕ) (past : List LinkMove) (waiting at_once : List LinkCall) (servers : List ServerNews) (highest : ℕ) → IsRight past (record { waiting = waiting; at_once = at_once; servers = servers; highest = highest })
    → IsRight past (without_first at_once (record { waiting = waiting; at_once = at_once; servers = servers; highest = highest }))
first_right now past [] [] servers highest right = right
first_right now past (call ∷ calls) [] servers highest right = let turn = right.turn in record { turn = turn_lower 0 turn.0 past calls turn.2 turn.3; hopeless = tt; told = right.told }
first_right now past waiting (call ∷ calls) servers highest right = record { turn = right.turn; hopeless = right.hopeless.1; told = right.told }

-- the others went out as before
ended_lists : (now : ℕ) (node : NodeId) (xid : ℕ) (past : List LinkMove) (c : LinkCallsValue) → last_moment past ≤ now → IsCounted None node xid c → IsRight past c
    → AreInTurn 0 (CallIsGivenUp now node xid ∷ past) c.waiting × AreHopeless (CallIsGivenUp now node xid ∷ past) c.at_once
ended_lists now node xid past c after count right = (
  turn_same 0 past (CallIsGivenUp now node xid ∷ past) c.waiting (same c.waiting (omega (arith, count))) right.turn,
  hopeless_on (CallIsGivenUp now node xid) past after (λ n. tt) c.at_once (same c.at_once (omega (arith, count))) right.hopeless,
)
  where
    same : (calls : List LinkCall) → times_here node xid calls ≡ 0 → AllByRecursion (IsSame past (CallIsGivenUp now node xid ∷ past)) calls
    same calls none = all_so (λ (x : LinkCall). is_link_call node xid x ≡ false) (IsSame past (CallIsGivenUp now node xid ∷ past)) (λ x differs. ap (λ (b : Bool). cond b None (out_since x.node x.xid past)) differs) calls (none_here node xid calls none)

-- a call to a data server is given up
server_right : (now number xid : ℕ) (past : List LinkMove) (c : LinkCallsValue) → last_moment past ≤ now → IsCounted None (Server number) xid c → IsRight past c → (b : Bool) → is_found_down now number c.servers ≡ b
    → IsRight (CallIsGivenUp now (Server number) xid ∷ past) (with_reads_over_if b number (with_servers (servers_given_up now (Server number) c.servers) c))
server_right now number xid past c after count right false found =
    let lists = ended_lists now (Server number) xid past c after count right in
    record { turn = lists.0; hopeless = lists.1; told = told_behind_end now (Server number) (Server number) xid past c.servers after right.told }
server_right now number xid past c after count right true found =
    let lists = ended_lists now (Server number) xid past c after count right in
    let silent = silent_on number now (CallIsGivenUp now (Server number) xid) past tt (found_silent now number past c.servers right.told after found) in
    record {
      turn = turn_filtered (λ call. not (is_read_of number call)) 0 (CallIsGivenUp now (Server number) xid ∷ past) c.waiting lists.0;
      hopeless = all_joined (λ (x : LinkCall). IsHopeless (CallIsGivenUp now (Server number) xid ∷ past) x) c.at_once (filter (λ call. is_read_of number call) c.waiting) lists.1
          (reads_hopeless (CallIsGivenUp now (Server number) xid ∷ past) number 0 c.waiting silent lists.0);
      told = told_behind_end now (Server number) (Server number) xid past c.servers after right.told;
    }

-- a call to any node is
node_right : (now : ℕ) (node : NodeId) (xid : ℕ) (past : List LinkMove) (c : LinkCallsValue) → last_moment past ≤ now → IsCounted None node xid c → IsRight past c → IsRight (CallIsGivenUp now node xid ∷ past) (node_given_up now node c)
node_right now Mds xid past c after count right =
    let lists = ended_lists now Mds xid past c after count right in
    record { turn = lists.0; hopeless = lists.1; told = told_behind_end now Mds Mds xid past c.servers after right.told }
node_right now (Server number) xid past c after count right = server_right now number xid past c after count right (is_found_down now number c.servers) refl
node_right now (Client k) xid past c after count right =
    let lists = ended_lists now (Client k) xid past c after count right in
    record { turn = lists.0; hopeless = lists.1; told = told_behind_end now (Client k) (Client k) xid past c.servers after right.told }

-- the first of all is given up
ends_right : (now : ℕ) (past : List LinkMove) (c : LinkCallsValue) (call : LinkCall) → last_moment past ≤ now → call_over now c ≡ Some call → IsCounted (out_since call.node call.xid past) call.node call.xid c → IsRight past c
    → IsRight (CallIsGivenUp now call.node call.xid ∷ past) (call_given_up now call c)
ends_right now past c call after is count right =
    let ended = first_counted (out_since call.node call.xid past) call.node call.xid now c.waiting c.at_once c.servers c.highest call is count in
    let none : IsCounted None call.node call.xid (without_first c.at_once c) = subst (λ (b : Bool). IsCounted (cond b None (out_since call.node call.xid past)) call.node call.xid (without_first c.at_once c)) (same_call call.node call.xid) ended in
    node_right now call.node call.xid past (without_first c.at_once c) after none (first_right now past c.waiting c.at_once c.servers c.highest right)

move_right : (move : LinkMove) (past : List LinkMove) (old new : LinkCallsValue) → DoesMove move old new → AreBelow old → NeverFall (move ∷ past) → ((node : NodeId) (xid : ℕ) → IsCounted (out_since node xid past) node xid old) → IsRight past old → IsRight (move ∷ past) new
move_right (CallGoesOut now node xid is_data_read) past old new does low fall count right =
    subst (λ (c : LinkCallsValue). IsRight (CallGoesOut now node xid is_data_read ∷ past) c) (sym (does ∙ goes_plain now (new_link_call now node xid is_data_read) old low)) (goes_right now node xid is_data_read past old fall (count node xid) right)
move_right (RecordComesIn now node answers) past old new does low fall count right =
    subst (λ (c : LinkCallsValue). IsRight (RecordComesIn now node answers ∷ past) c) (sym does.1) (comes_right now node answers past old fall.0 does.0 (count node) right)
move_right (CallIsGivenUp now node xid) past old new does low fall count right =
    let call = does.0 in
    let ended = ends_right now past old call fall.0 does.1 (count call.node call.xid) right in
    subst (λ (c : LinkCallsValue). IsRight (CallIsGivenUp now node xid ∷ past) c) (sym does.4)
    (subst (λ (n : NodeId). IsRight (CallIsGivenUp now n xid ∷ past) (call_given_up now call old)) does.2
    (subst (λ (x : ℕ). IsRight (CallIsGivenUp now call.node x ∷ past) (call_given_up now call old)) does.3 ended))

pub right : (moves : List LinkMove) (c : LinkCallsValue) → RunsMoves moves c → NeverFall moves → IsRight moves c
right [] c is fall = subst (λ (x : LinkCallsValue). IsRight [] x) (sym is) (record { turn = tt; hopeless = tt; told = tt })
right (move ∷ past) c run fall = move_right move past run.0 c run.2 (below past run.0 run.1) fall (counted past run.0 run.1) (right past run.0 run.1 fall.1)

-- ---- the laws

-- those behind the first are due no sooner
later_more : (low at : ℕ) → low ≤ at → later low ≤ later at
later_more low at less = omega arith

due_in_turn : (low : ℕ) (moves : List LinkMove) (calls : List LinkCall) → AreInTurn low moves calls → AllByRecursion (λ (call : LinkCall). later low ≤ call.due) calls
due_in_turn low moves [] turn = tt
due_in_turn low moves (call ∷ calls) turn =
    let out = turn.1 in
    let less : later low ≤ call.due = subst (λ (d : ℕ). later low ≤ d) (sym out.due) (later_more low turn.0 turn.2) in
    (less, all_so (λ (x : LinkCall). later turn.0 ≤ x.due) (λ (x : LinkCall). later low ≤ x.due) (λ x more. omega (arith, more, later_more low turn.0 turn.2)) calls (due_in_turn turn.0 moves calls turn.3))

first_in_time : (moves : List LinkMove) (calls : List LinkCall) → AreInTurn 0 moves calls → AllByRecursion (λ (call : LinkCall). first_due_moment calls ≤ call.due) calls
first_in_time moves [] turn = tt
first_in_time moves (call ∷ calls) turn =
    let out = turn.1 in
    (omega arith, subst (λ (d : ℕ). AllByRecursion (λ (x : LinkCall). d ≤ x.due) calls) (sym out.due) (due_in_turn turn.0 moves calls turn.3))

pub in_time : (moves : List LinkMove) (c : LinkCallsValue) (now : ℕ) → RunsMoves moves c → NeverFall moves → c.at_once ≡ [] → AllByRecursion (λ (call : LinkCall). earliest now c ≤ call.due) c.waiting
in_time moves c now run fall none =
    subst (λ (calls : List LinkCall). AllByRecursion (λ (call : LinkCall). earliest_of now c.waiting calls ≤ call.due) c.waiting) (sym none) (first_in_time moves c.waiting (right moves c run fall).turn)

pub silent_if_down : (moves : List LinkMove) (c : LinkCallsValue) (number now : ℕ) → RunsMoves moves c → NeverFall moves → last_moment moves ≤ now → is_server_down now number c.servers ≡ true → IsSilentBy number now moves
silent_if_down moves c number now run fall after down = down_silent now number moves c.servers (right moves c run fall).told after down

up_behind : (then_at number now : ℕ) (answers : Option ℕ) (c : LinkCallsValue) → is_server_down now number (record_comes then_at (Server number) answers c).servers ≡ false
up_behind then_at number now None c = heard_up then_at now number c.servers
up_behind then_at number now (Some xid) c = heard_up then_at now number c.servers

pub up_behind_record : (past : List LinkMove) (c : LinkCallsValue) (number then_at now : ℕ) (answers : Option ℕ) → RunsMoves (RecordComesIn then_at (Server number) answers ∷ past) c → is_server_down now number c.servers ≡ false
up_behind_record past c number then_at now answers run = subst (λ (x : LinkCallsValue). is_server_down now number x.servers ≡ false) (sym run.2.1) (up_behind then_at number now answers run.0)

-- what is given up first
over_rightly : (now : ℕ) (past : List LinkMove) (waiting at_once : List LinkCall) (servers : List ServerNews) (highest : ℕ) (call : LinkCall) → last_moment past ≤ now → first_over_of now waiting at_once ≡ Some call
    → ((node : NodeId) (xid : ℕ) → IsCounted (out_since node xid past) node xid (record { waiting = waiting; at_once = at_once; servers = servers; highest = highest })) → IsRight past (record { waiting = waiting; at_once = at_once; servers = servers; highest = highest })
    → EndsRightly call.node call.xid now past
over_rightly now past [] [] servers highest call after is count right = absurd cc
over_rightly now past (x ∷ xs) [] servers highest call after is count right = by_moment (nat_le x.due now) refl is more
  where
    more : (node : NodeId) (xid : ℕ) (sending : ℕ × Bool) → out_since node xid past ≡ Some sending → 0 < times_here node xid (x ∷ xs)
    more node xid sending sent =
        let one = (subst (λ (o : Option (ℕ × Bool)). IsCounted o node xid (record { waiting = x ∷ xs; at_once = []; servers = servers; highest = highest })) sent (count node xid)).0 in
        omega (arith, one)

    by_moment : (b : Bool) → nat_le x.due now ≡ b → cond b (Some x) None ≡ Some call → ((node : NodeId) (xid : ℕ) (sending : ℕ × Bool) → out_since node xid past ≡ Some sending → 0 < times_here node xid (x ∷ xs))
        → EndsRightly call.node call.xid now past
    by_moment true due is here =
        let turn = right.turn in
        let out = turn.1 in
        let least : AreInTurn turn.0 past (x ∷ xs) = (turn.0, out, omega arith, turn.3) in
        let over : later turn.0 ≤ now = subst (λ (d : ℕ). d ≤ now) out.due (leb-true x.due now due) in
        subst (λ (c : LinkCall). EndsRightly c.node c.xid now past) (same_Some x call is)
        (turn.0, out.is_data_read, out.sent, inl (over, λ node xid first reads sent. turn_least node xid turn.0 past (x ∷ xs) first reads sent (here node xid (first, reads) sent) least))
    by_moment false due is here = absurd cc
over_rightly now past waiting (x ∷ xs) servers highest call after is count right =
    let its = right.hopeless.0 in
    subst (λ (c : LinkCall). EndsRightly c.node c.xid now past) (same_Some x call is)
    (its.at, true, its.sent, inr (refl, its.number, its.server, silent_later its.number (last_moment past) now past after its.silent))

pub end_rightly : (past : List LinkMove) (c : LinkCallsValue) (now : ℕ) (node : NodeId) (xid : ℕ) → RunsMoves (CallIsGivenUp now node xid ∷ past) c → NeverFall (CallIsGivenUp now node xid ∷ past) → EndsRightly node xid now past
end_rightly past c now node xid run fall =
    let mid = run.0 in
    let does = run.2 in
    let ends = over_rightly now past mid.waiting mid.at_once mid.servers mid.highest does.0 fall.0 does.1 (counted past mid run.1) (right past mid run.1 fall.1) in
    subst (λ (n : NodeId). EndsRightly n xid now past) does.2 (subst (λ (x : ℕ). EndsRightly does.0.node x now past) does.3 ends)
