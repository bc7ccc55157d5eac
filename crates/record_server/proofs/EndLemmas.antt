-- What is written at the end of all.
use Rattle.std.proofs.Common.{◌≡◌, ◌⊎◌, inl, inr, ℕ, ◌+◌, ◌-◌, ◌^◌, ◌<◌, ◌≤◌, Bool, true, false, List, [], ◌∷◌, ◌++◌, length, drop, get_or, refl, sym, subst, ap, ◌∙◌, arith, add-one, drop-cons}
use Rattle.std.specs.List.{All}
use Rattle.std.proofs.lemmas.List.{length-append, length-set}
use Rattle.std.proofs.lemmas.List.Elements.{All-nil, All-cons}
use Rattle.std.proofs.lemmas.Option.{slice_get_within}
use Rattle.record_link.specs.Peers.{PeerState, WritesIf, is_to_write, resumed}
use Rattle.record_server.specs.Server.{ServingState, IsOrderly, Pushes, Passes, RunsSteps, GoesBy, IsOfEnd, PushesAt, PushesAll, PassesUnless, PushesOn, PushesTurns, PushesOut, has_settled, pushes_from, with_peer}
use Rattle.record_server.proofs.NumberLemmas.{writes_number}
use Rattle.record_server.proofs.OrderLemmas.{orderly_set}
use Rattle.record_server.proofs.RunLemmas.{stays_as, did, goes_on}

-- ---- the connections of a turn

-- From the start on the connections before this place were written: whoever writes the others has written all.
pub record IsPushing (start now : ServingState) (time place : ℕ) : Type 0 where
  pub orderly : IsOrderly now.peers now.given now.place
  pub goes : (last : ServingState) → RunsSteps (pushes_from place (drop place start.peers)) now last → RunsSteps (pushes_from 0 start.peers) start last
  pub long : length now.peers ≡ length start.peers
  pub timed : now.time ≡ time

-- another was
pub pushes : (start now new : ServingState) (time place : ℕ) → PushesAt place time now.peers new.peers → new ≡ record now { peers = new.peers } → IsPushing start now time place → IsPushing start new time (place + 1)
pushes start now new time place pushed rest pushing =
    let e : PeerState = pushed.0 in
    let after : PeerState = pushed.1 in
    let is : new ≡ with_peer now place after = rest ∙ ap (λ (es : List PeerState). record now { peers = es }) pushed.4 in
    let number : after.number ≡ e.number = writes_number (is_to_write time (resumed e)) time (resumed e) after pushed.3 in
    let writes : WritesIf (is_to_write now.time (resumed e)) now.time (resumed e) after = subst (λ (t : ℕ). WritesIf (is_to_write t (resumed e)) t (resumed e) after) (sym pushing.timed) pushed.3 in
    let long = pushing.long in
    let within : place < length start.peers = omega (arith, slice_get_within now.peers place e pushed.2, long) in
    let left : drop place start.peers ≡ get_or start.peers place e ∷ drop (place + 1) start.peers = rw add-one (drop-cons start.peers place e within) in
    record {
      orderly = subst (λ (s : ServingState). IsOrderly s.peers s.given s.place) (sym is) (orderly_set now.peers now.given now.place place e after pushed.2 number pushing.orderly);
      goes = λ last runs. pushing.goes last (subst (λ (es : List PeerState). RunsSteps (pushes_from place es) now last) (sym left) (new, (e, after, pushed.2, writes, is), runs));
      long = ap (λ (s : ServingState). length s.peers) is ∙ length-set now.peers place after ∙ pushing.long;
      timed = ap (λ (s : ServingState). s.time) is ∙ pushing.timed;
    }

pub pushed_length : (place time : ℕ) (old new : List PeerState) → PushesAt place time old new → length new ≡ length old
pushed_length place time old new pushed = ap length pushed.4 ∙ length-set old place pushed.1

-- ---- turns

-- so many turns were made, behind each of which another is to come
pub record HasTurned (n : ℕ) (old new : ServingState) : Type 0 where
  pub mids : List ServingState
  pub many : length mids ≡ n
  pub turns : PushesTurns mids old new

turns_on : (mids : List ServingState) (a b c : ServingState) → PushesTurns mids a b → PushesOn b true c → PushesTurns (mids ++ c ∷ []) a c
turns_on [] a b c same turn = (subst (λ (s : ServingState). PushesOn s true c) same turn, refl)
turns_on (mid ∷ mids) a b c turns turn = (turns.0, turns_on mids mid b c turns.1 turn)

pub no_turn : (s : ServingState) → HasTurned 0 s s
no_turn s = record { mids = []; many = refl; turns = refl }

pub one_turn : (n : ℕ) (a b c : ServingState) (more : Bool) → more ≡ true → HasTurned n a b → PushesOn b more c → HasTurned (n + 1) a c
one_turn n a b c more is turned turn = record {
  mids = turned.mids ++ c ∷ [];
  many = omega (arith, turned.many, length-append turned.mids (c ∷ []));
  turns = turns_on turned.mids a b c turned.turns (subst (λ (m : Bool). PushesOn b m c) is turn);
}

-- the last of them was made
pub last_turn : (n : ℕ) (a b c : ServingState) (more : Bool) → more ≡ false → HasTurned n a b → PushesOn b more c → PushesOut a c
last_turn n a b c more is turned turn = (turned.mids, b, turned.turns, inl (subst (λ (m : Bool). PushesOn b m c) is turn))

-- very many were
pub very_many : (n : ℕ) (a b c : ServingState) → 2 ^ 64 - 1 ≤ n → n ≤ 2 ^ 64 - 1 → HasTurned n a b → c ≡ b → PushesOut a c
very_many n a b c more less turned is = (turned.mids, b, turned.turns, inr (omega (arith, more, less, turned.many), is))

-- ---- as steps

of_end : (place : ℕ) (es : List PeerState) → All IsOfEnd (pushes_from place es)
of_end place [] = All-nil IsOfEnd
of_end place (e ∷ es) = All-cons IsOfEnd (Pushes place) (pushes_from (place + 1) es) tt (of_end (place + 1) es)

pushed_all : (old new : ServingState) → PushesAll old new → GoesBy IsOfEnd 0 old new
pushed_all old new runs = record { steps = pushes_from 0 old.peers; kinds = of_end 0 old.peers; many = omega arith; runs = runs }

passed : (settled : Bool) (old : ServingState) (more : Bool) (new : ServingState) → PassesUnless settled old more new → GoesBy IsOfEnd 0 old new
passed true old more new rests = stays_as IsOfEnd old new rests.1
passed false old more new passes = did IsOfEnd (Passes more passes.0) old new tt passes.1

pushed_on : (old : ServingState) (more : Bool) (new : ServingState) → PushesOn old more new → GoesBy IsOfEnd 0 old new
pushed_on old more new turn =
    let mid : ServingState = turn.0 in
    goes_on IsOfEnd 0 0 0 old mid new (omega arith) (pushed_all old mid turn.1) (passed (has_settled mid.peers) mid more new turn.2)

turned_by : (mids : List ServingState) (old new : ServingState) → PushesTurns mids old new → GoesBy IsOfEnd 0 old new
turned_by [] old new same = stays_as IsOfEnd old new same
turned_by (mid ∷ mids) old new turns = goes_on IsOfEnd 0 0 0 old mid new (omega arith) (pushed_on old true mid turns.0) (turned_by mids mid new turns.1)

ended_by : (mids : List ServingState) (last new : ServingState) → PushesOn last false new ⊎ ((length mids ≡ 2 ^ 64 - 1) × (new ≡ last)) → GoesBy IsOfEnd 0 last new
ended_by mids last new (inl turn) = pushed_on last false new turn
ended_by mids last new (inr many) = stays_as IsOfEnd last new many.1

pub pushed_out : (old new : ServingState) → PushesOut old new → GoesBy IsOfEnd 0 old new
pushed_out old new out = goes_on IsOfEnd 0 0 0 old out.1 new (omega arith) (turned_by out.0 old out.1 out.2) (ended_by out.0 out.1 new out.3)
