-- The parts of a round, and what they come to.
use Rattle.std.proofs.Common.{◌≡◌, ◌≢◌, inl, inr, ◌<◌, ◌≤◌, nat_le, ◌==◌, ◌+◌, ◌-◌, ◌^◌, max, ℕ, zero, suc, Bool, true, false, ◌||◌, if◌then◌else◌, List, [], ◌∷◌, ◌++◌, length, map, set, take, get_or, refl, sym, ap, subst, ◌∙◌, arith, Option, Some, None, Result, Ok, Err}
use Rattle.std.specs.Prelude.{slice_get}
use Rattle.std.proofs.lemmas.List.{length-set, take_more}
use Rattle.std.proofs.lemmas.List.Folds.{list_any-append}
use Rattle.std.proofs.lemmas.Bool.{leb-false, leb-true, eq-eqb, ne_eqb}
use Rattle.std.proofs.lemmas.Option.{same_Some, slice_get_within, get_or_from_slice_get}
use Rattle.ff_xdr.specs.declared.error.NoMemory.{NoMemory}
use Rattle.rpc_record.specs.declared.stream.Failed.{Failed}
use Rattle.rpc_record.specs.declared.stream.Failed.TheVariants as failed
use Rattle.record_link.specs.Peers.{PeerState, resumed}
use Rattle.record_server.specs.Network.{Waiting, ComesNext}
use Rattle.record_server.specs.Server.{ServingState, ServingStep, Begins, Accepts, Visits, Leaves, DoesStep, GoesBy, GoesRound, IsOfRound, AreRising, TriesAgain, Want, ToOpen, ToAccept, Wants, StopsBy, GoesAndEnds, HandsOrNot, LeavesOrNot, VisitsNext, Asks, Admits, AcceptsOne, AcceptsAll, BeginsRound, EndsRound, GivesRecord, MakesRoom, was_reported, resumed_by, swept, with_opened}
use Rattle.record_server.proofs.FindLemmas.{rising_above}
use Rattle.record_server.proofs.RunLemmas.{stays_as, one, did, goes_on}

pub same_element : (es : List PeerState) (i : ℕ) (a b : PeerState) → slice_get es i ≡ Some a → slice_get es i ≡ Some b → a ≡ b
same_element es i a b first second = same_Some a b (sym first ∙ second)

-- ---- what is tried again

if_same : (b : Bool) (e : PeerState) → (if b then e else e) ≡ e
if_same true e = refl
if_same false e = refl

other_number : (number : ℕ) (e : PeerState) → e.number ≢ number → resumed_by (number ∷ []) e ≡ e
other_number number e other =
    ap (λ (b : Bool). if b || false then resumed e else e) (ne_eqb number e.number (λ same. other (sym same)))

this_number : (number : ℕ) (e : PeerState) → e.number ≡ number → resumed_by (number ∷ []) e ≡ resumed e
this_number number e same =
    ap (λ (b : Bool). if b || false then resumed e else e) (eq-eqb number e.number (sym same))

-- no connection has this number
pub none_resumed : (number : ℕ) (es : List PeerState) → ((i : ℕ) (e : PeerState) → slice_get es i ≡ Some e → e.number ≢ number) → map (resumed_by (number ∷ [])) es ≡ es
none_resumed number [] none = refl
none_resumed number (e ∷ es) none = λ i. (other_number number e (none 0 e refl) i) ∷ (none_resumed number es (λ k. none (suc k)) i)

above : (low : ℕ) (es : List PeerState) → AreRising low es → (i : ℕ) (e : PeerState) → slice_get es i ≡ Some e → low < e.number
above low es rising i e there =
    subst (λ (x : PeerState). low < x.number) (get_or_from_slice_get es i e e there) (rising_above low es rising i e (slice_get_within es i e there))

-- one has it
pub one_resumed : (number low : ℕ) (es : List PeerState) (place : ℕ) (e : PeerState) → AreRising low es → slice_get es place ≡ Some e → e.number ≡ number → set es place (resumed e) ≡ map (resumed_by (number ∷ [])) es
one_resumed number low [] place e rising there same = refl
one_resumed number low (x ∷ es) zero e rising there same =
    let first : x ≡ e = same_Some x e there in
    let here : x.number ≡ number = ap (λ (y : PeerState). y.number) first ∙ same in
    λ i. ((ap resumed (sym first) ∙ sym (this_number number x here)) i)
    ∷ (sym (none_resumed number es (λ k y at is. let more = above x.number es rising.1 k y at in omega (arith, more, here, is))) i)
one_resumed number low (x ∷ es) (suc place) e rising there same =
    let more = above x.number es rising.1 place e there in
    λ i. (sym (other_number number x (λ is. omega (arith, more, is, same))) i) ∷ (one_resumed number x.number es place e rising.1 there same i)

twice : (b : Bool) (number : ℕ) (e : PeerState) → resumed_by (number ∷ []) (if b then resumed e else e) ≡ (if b || was_reported (number ∷ []) e.number then resumed e else e)
twice true number e = if_same (was_reported (number ∷ []) e.number) (resumed e)
twice false number e = refl

more_reported : (first : ℕ) (reported : List ℕ) (number : ℕ) (e : PeerState) → resumed_by (number ∷ []) (resumed_by (first ∷ reported) e) ≡ resumed_by (first ∷ (reported ++ number ∷ [])) e
more_reported first reported number e =
    twice (was_reported (first ∷ reported) e.number) number e
    ∙ ap (λ (b : Bool). if b then resumed e else e) (sym (list_any-append (λ (n : ℕ). n == e.number) (first ∷ reported) (number ∷ [])))

-- one more was reported
pub resumed_more : (first : ℕ) (reported : List ℕ) (number : ℕ) (es : List PeerState) → map (resumed_by (number ∷ [])) (map (resumed_by (first ∷ reported)) es) ≡ map (resumed_by (first ∷ (reported ++ number ∷ []))) es
resumed_more first reported number [] = refl
resumed_more first reported number (e ∷ es) = λ i. (more_reported first reported number e i) ∷ (resumed_more first reported number es i)

-- the next of what was reported
pub resumed_next : (reported rest : List ℕ) (first i : ℕ) (es : List PeerState) → reported ≡ first ∷ rest → i < length rest
    → map (resumed_by (get_or rest i 0 ∷ [])) (map (resumed_by (take (suc i) reported)) es) ≡ map (resumed_by (take (suc (i + 1)) reported)) es
resumed_next reported rest first i es is within =
    subst (λ (ns : List ℕ). map (resumed_by (get_or rest i 0 ∷ [])) (map (resumed_by (take (suc i) ns)) es) ≡ map (resumed_by (take (suc (i + 1)) ns)) es) (sym is)
    (resumed_more first (take i rest) (get_or rest i 0) es ∙ ap (λ (ns : List ℕ). map (resumed_by (first ∷ ns)) es) (sym (take_more rest i 0 within)))

-- ---- the beginning of a round

pub begun : (old mid new : ServingState) (r : Bool) → r ≡ true → length old.peers ≤ old.place → mid ≡ swept old → Asks mid r new → (time : ℕ) × (reported : List ℕ) × DoesStep (Begins time reported) old new
begun old mid new true is behind closed asks = (
  asks.0,
  asks.1,
  (
    behind,
    subst (λ (m : ℕ). m ≤ asks.0) (ap (λ (s : ServingState). s.moment) closed) asks.2,
    (
      asks.3.0,
      subst (λ (s : ServingState). TriesAgain asks.1 s.peers asks.3.0) closed asks.3.1,
      asks.3.2 ∙ ap (λ (s : ServingState). record s { peers = asks.3.0; time = max s.time asks.0; reported = asks.1; moment = asks.0 }) closed,
    ),
  ),
)
begun old mid new false is behind closed asks = absurd (cc)

pub began : (old mid new : ServingState) (r : Result (Unit {0}) Failed) (step : ServingStep) → IsOfRound step → DoesStep step old mid → AcceptsAll mid r new → BeginsRound old r new
began old mid new (Ok x) step is did accepts = goes_on IsOfRound 1 0 1 old mid new (omega arith) (one IsOfRound step old mid is did) accepts
began old mid new (Err e) step is did accepts = (accepts.0, goes_on IsOfRound 1 0 0 old mid accepts.0 (omega arith) (one IsOfRound step old mid is did) accepts.1, accepts.2)

pub accepted : (old new : ServingState) (more : Bool) → AcceptsOne old (Ok more) new → GoesRound old new
accepted old new more (inl is) = stays_as IsOfRound old new is
accepted old new more (inr does) = did IsOfRound (Accepts does.0 does.1 does.2 does.3) old new tt does.4

pub accepted_first : (old new : ServingState) (more : Bool) → AcceptsOne old (Ok more) new → old.place ≡ 0 → new.place ≡ 0
accepted_first old new more (inl is) first = ap (λ (s : ServingState). s.place) is ∙ first
accepted_first old new more (inr does) first = ap (λ (s : ServingState). s.place) does.4.4.2 ∙ first

-- one was accepted under the next number, and kept
pub accepts : (old mid new : ServingState) (coming went : Option (List ℕ)) (faults : ℕ) (x : Unit {0}) → mid ≡ record old { waiting = mid.waiting } → old.place ≡ 0 → old.given + 1 < 2 ^ 32 → ComesNext old.waiting coming mid.waiting
    → Admits mid coming went faults (Ok x) new → AcceptsOne old (Ok true) new
accepts old mid new coming went faults x same first few comes admits =
    let room = admits.0 in
    let waits : new.waiting ≡ mid.waiting = ap (λ (s : ServingState). s.waiting) admits.2 in
    inr (
      old.given + 1,
      coming,
      went,
      faults,
      (
        first,
        refl,
        few,
        subst (λ (w : Waiting). ComesNext old.waiting coming w) (sym waits) comes,
        (
          room,
          subst (λ (s : ServingState). MakesRoom s.time s.peers room) same admits.1,
          admits.2
              ∙ ap (λ (s : ServingState). with_opened s room (s.given + 1) coming went faults) same
              ∙ ap (λ (w : Waiting). record (with_opened old room (old.given + 1) coming went faults) { waiting = w }) (sym waits),
        ),
      ),
    )

-- one was accepted, and dropped
pub drops : (old mid new : ServingState) (coming went : Option (List ℕ)) (faults : ℕ) (e : NoMemory) → mid ≡ record old { waiting = mid.waiting } → ComesNext old.waiting coming mid.waiting
    → Admits mid coming went faults (Err e) new → AcceptsOne old (Err failed.NoMemory) new
drops old mid new coming went faults e same comes admits =
    let room = admits.0 in
    let waits : new.waiting ≡ mid.waiting = ap (λ (s : ServingState). s.waiting) admits.2 in
    inr (
      coming,
      subst (λ (w : Waiting). ComesNext old.waiting coming w) (sym waits) comes,
      (
        room,
        subst (λ (s : ServingState). MakesRoom s.time s.peers room) same admits.1,
        admits.2
            ∙ ap (λ (s : ServingState). record s { peers = room }) same
            ∙ ap (λ (w : Waiting). record old { peers = room; waiting = w }) (sym waits),
      ),
    )

pub accept_ends : (e : Failed) (old new : ServingState) → AcceptsOne old (Err e) new → StopsBy e old new
accept_ends failed.Fault old new is = inl is
accept_ends failed.NoMemory old new (inl wants) = (ToAccept, wants)
accept_ends failed.NoMemory old new (inr wants) = (ToOpen, wants)

-- ---- the rest of a round

pub not_handed : (old new : ServingState) (r : Option (ℕ × List ℕ)) → r ≡ None → HandsOrNot old (Ok r) new → new ≡ old
not_handed old new None is hands = hands
not_handed old new (Some handed) is hands = absurd (cc)

pub left : (old new : ServingState) → LeavesOrNot old new → GoesRound old new
left old new (inl stays) = stays_as IsOfRound old new stays.1
left old new (inr does) = did IsOfRound Leaves old new tt does

pub left_place : (old new : ServingState) → LeavesOrNot old new → new.place ≡ old.place
left_place old new (inl stays) = ap (λ (s : ServingState). s.place) stays.1
left_place old new (inr does) = ap (λ (s : ServingState). s.place) does.6

pub left_length : (old new : ServingState) → LeavesOrNot old new → length new.peers ≡ length old.peers
left_length old new (inl stays) = ap (λ (s : ServingState). length s.peers) stays.1
left_length old new (inr does) = ap (λ (s : ServingState). length s.peers) does.6 ∙ length-set old.peers does.0 does.2

pub visited : (old new : ServingState) (x : Unit {0}) → VisitsNext old (Ok x) new → GoesRound old new
visited old new x visits = did IsOfRound (Visits visits.0) old new tt visits.1

visited_place : (old new : ServingState) (x : Unit {0}) → VisitsNext old (Ok x) new → new.place ≡ old.place + 1
visited_place old new x visits = ap (λ (s : ServingState). s.place) visits.1.4

visited_length : (old new : ServingState) (x : Unit {0}) → VisitsNext old (Ok x) new → length new.peers ≡ length old.peers
visited_length old new x visits = ap (λ (s : ServingState). length s.peers) visits.1.4 ∙ length-set old.peers old.place visits.1.1

-- no record was handed out, and the one visited last was left
pub went : (start a b c : ServingState) → GoesRound start a → b ≡ a → LeavesOrNot b c → GoesRound start c
went start a b c came same leaves =
    goes_on IsOfRound 0 0 0 start a c (omega arith) came (left a c (subst (λ (s : ServingState). LeavesOrNot s c) same leaves))

pub turned : (start a b c d : ServingState) (x : Unit {0}) → GoesRound start a → b ≡ a → LeavesOrNot b c → VisitsNext c (Ok x) d → GoesRound start d
turned start a b c d x came same leaves visits =
    goes_on IsOfRound 0 0 0 start c d (omega arith) (went start a b c came same leaves) (visited c d x visits)

-- fewer are to be visited
pub shorter : (a b c d : ServingState) (x : Unit {0}) → nat_le (length a.peers) a.place ≡ false → b ≡ a → LeavesOrNot b c → VisitsNext c (Ok x) d → length d.peers - d.place < length a.peers - a.place
shorter a b c d x test same leaves visits =
    let more : a.place < length a.peers = leb-false (length a.peers) a.place test in
    let places : b.place ≡ a.place = ap (λ (s : ServingState). s.place) same in
    let lengths : length b.peers ≡ length a.peers = ap (λ (s : ServingState). length s.peers) same in
    omega (arith, more, places, lengths, left_place b c leaves, left_length b c leaves, visited_place c d x visits, visited_length c d x visits)

-- all were visited
pub rested : (a b c : ServingState) → nat_le (length a.peers) a.place ≡ true → b ≡ a → LeavesOrNot b c → length c.peers ≤ c.place
rested a b c test same leaves =
    let less : length a.peers ≤ a.place = leb-true (length a.peers) a.place test in
    let places : b.place ≡ a.place = ap (λ (s : ServingState). s.place) same in
    let lengths : length b.peers ≡ length a.peers = ap (λ (s : ServingState). length s.peers) same in
    omega (arith, less, places, lengths, left_place b c leaves, left_length b c leaves)

pub handed_as : (old new : ServingState) (r r' : Option (ℕ × List ℕ)) → r ≡ r' → HandsOrNot old (Ok r) new → HandsOrNot old (Ok r') new
handed_as old new r r' is hands = subst (λ (x : Option (ℕ × List ℕ)). HandsOrNot old (Ok x) new) is hands

pub wanted : (start a b : ServingState) (r : Result (Option (ℕ × List ℕ)) NoMemory) (e : NoMemory) → r ≡ Err e → GoesRound start a → (want : Want) → Wants want a b → EndsRound start r b
wanted start a b r e is came want wants = subst (λ (x : Result (Option (ℕ × List ℕ)) NoMemory). EndsRound start x b) (sym is) (a, came, (want, wants))

-- ---- rounds

pub ended_as : (old new : ServingState) (r r' : Option (ℕ × List ℕ)) → r ≡ r' → EndsRound old (Ok r) new → EndsRound old (Ok r') new
ended_as old new r r' is ends = subst (λ (x : Option (ℕ × List ℕ)). EndsRound old (Ok x) new) is ends

pub gave : (n : ℕ) (start a b : ServingState) (handed : ℕ × List ℕ) → GoesBy IsOfRound n start a → EndsRound a (Ok (Some handed)) b → GivesRecord 0 start (Ok (Some handed)) b
gave n start a b handed came ends = (ends.0, goes_on IsOfRound n 0 0 start a ends.0 (omega arith) came ends.1, ends.2)

pub failed_behind : (n : ℕ) (start a b : ServingState) (e : Failed) → GoesBy IsOfRound n start a → GoesAndEnds e a b → GoesAndEnds e start b
failed_behind n start a b e came ends = (ends.0, goes_on IsOfRound n 0 0 start a ends.0 (omega arith) came ends.1, ends.2)

-- the rest of a round goes on from where rounds came
pub ends_behind : (start a b : ServingState) (r : Result (Option (ℕ × List ℕ)) NoMemory) → GoesRound start a → EndsRound a r b → EndsRound start r b
ends_behind start a b (Ok (Some handed)) came ends = gave 0 start a b handed came ends
ends_behind start a b (Ok None) came ends = (goes_on IsOfRound 0 0 0 start a b (omega arith) came ends.0, ends.1)
ends_behind start a b (Err e) came ends = failed_behind 0 start a b failed.NoMemory came ends
