-- The turns of connections, by induction over the events of a round.
use Rattle.std.proofs.Common.{◌≡◌, ℕ, ◌+◌, ◌-◌, ◌*◌, ◌≤◌, List, [], ◌∷◌, ap, arith}
use Rattle.std.specs.List.{All}
use Rattle.std.proofs.lemmas.List.Elements.{All-head, All-tail}
use Rattle.record_server.specs.declared.server.TheConstants.{MOST_HANDED}
use Rattle.record_server.specs.Server.{ServingState, Begins, Accepts, Visits, Leaves, Makes, Misses, Pushes, Passes, Ends}
use Rattle.record_server.specs.History.{Event, Does, Hands, Puts, Excuses, DoesEvent, HasHappened}
use Rattle.record_server.specs.Fairness.{IsInRound, IsFair, visits_in, hands_in}

-- What one event of a round does: so many connections were visited by it, and so many records handed out.
record Turns (visits hands : ℕ) (old new : ServingState) : Type 0 where
  place : new.place ≡ old.place + visits
  few : hands + (MOST_HANDED - new.handed) ≤ MOST_HANDED * visits + (MOST_HANDED - old.handed)

-- neither place nor count has changed
same_turn : (old new : ServingState) → new.place ≡ old.place → new.handed ≡ old.handed → Turns 0 0 old new
same_turn old new place handed = record { place = omega (arith, place); few = omega (arith, handed) }

-- the events behind one
fair_on : (visits hands : ℕ) (event : Event) (events : List Event) (old mid new : ServingState) → visits_in (event ∷ events) ≡ visits_in events + visits → hands_in (event ∷ events) ≡ hands_in events + hands → Turns visits hands old mid
    → IsFair events mid new → IsFair (event ∷ events) old new
fair_on visits hands event events old mid new seen given turns fair =
    let more : MOST_HANDED * visits_in (event ∷ events) ≡ MOST_HANDED * visits_in events + MOST_HANDED * visits = omega (arith, seen) in record {
      in_order = omega (arith, fair.in_order, turns.place, seen);
      few = omega (arith, fair.few, turns.few, given, more);
    }

fair_behind : (event : Event) (events : List Event) (old mid new : ServingState) → IsInRound event → DoesEvent event old mid → IsFair events mid new → IsFair (event ∷ events) old new
fair_behind (Does (Begins time reported)) events old mid new round did fair = absurd round
fair_behind (Does (Accepts number coming gone faults)) events old mid new round did fair =
    let room = did.4 in
    fair_on 0 0 (Does (Accepts number coming gone faults)) events old mid new (omega arith) (omega arith) (same_turn old mid (ap (λ s. s.place) room.2) (ap (λ s. s.handed) room.2)) fair
fair_behind (Does (Visits came)) events old mid new round did fair =
    let handed = ap (λ s. s.handed) did.4 in
    fair_on 1 0 (Does (Visits came)) events old mid new (omega arith) (omega arith) (record { place = ap (λ s. s.place) did.4; few = omega (arith, handed) }) fair
fair_behind (Does Leaves) events old mid new round did fair =
    fair_on 0 0 (Does Leaves) events old mid new (omega arith) (omega arith) (same_turn old mid (ap (λ s. s.place) did.6) (ap (λ s. s.handed) did.6)) fair
fair_behind (Does (Makes number address coming went faults)) events old mid new round did fair =
    fair_on 0 0 (Does (Makes number address coming went faults)) events old mid new (omega arith) (omega arith) (same_turn old mid (ap (λ s. s.place) did.3) (ap (λ s. s.handed) did.3)) fair
fair_behind (Does (Misses address)) events old mid new round did fair =
    fair_on 0 0 (Does (Misses address)) events old mid new (omega arith) (omega arith) (same_turn old mid (ap (λ s. s.place) did) (ap (λ s. s.handed) did)) fair
fair_behind (Does (Pushes place)) events old mid new round did fair =
    fair_on 0 0 (Does (Pushes place)) events old mid new (omega arith) (omega arith) (same_turn old mid (ap (λ s. s.place) did.4) (ap (λ s. s.handed) did.4)) fair
fair_behind (Does (Passes could time)) events old mid new round did fair =
    fair_on 0 0 (Does (Passes could time)) events old mid new (omega arith) (omega arith) (same_turn old mid (ap (λ s. s.place) did.1) (ap (λ s. s.handed) did.1)) fair
fair_behind (Does Ends) events old mid new round did fair = absurd round
fair_behind (Hands number message) events old mid new round did fair =
    let handed = ap (λ s. s.handed) did.rest in
    let few = did.few in
    fair_on 0 1 (Hands number message) events old mid new (omega arith) (omega arith) (record { place = omega (arith, ap (λ s. s.place) did.rest); few = omega (arith, handed, few) }) fair
fair_behind (Puts number message) events old mid new round did fair =
    fair_on 0 0 (Puts number message) events old mid new (omega arith) (omega arith) (same_turn old mid (ap (λ s. s.place) did.rest) (ap (λ s. s.handed) did.rest)) fair
fair_behind (Excuses number) events old mid new round did fair =
    fair_on 0 0 (Excuses number) events old mid new (omega arith) (omega arith) (same_turn old mid (ap (λ s. s.place) did.rest) (ap (λ s. s.handed) did.rest)) fair

pub is_fair : (events : List Event) (old new : ServingState) → All IsInRound events → HasHappened events old new → IsFair events old new
is_fair [] old new round same = record { in_order = omega (arith, ap (λ (s : ServingState). s.place) same); few = omega arith }
is_fair (event ∷ events) old new round did =
    fair_behind event events old did.0 new (All-head IsInRound event events round) did.1 (is_fair events did.0 new (All-tail IsInRound event events round) did.2)
