-- How serving goes on from turn to turn.
use Rattle.std.proofs.Common.{◌≡◌, inl, inr, ℕ, ◌+◌, ◌-◌, ◌<◌, ◌≤◌, true, false, Bool, List, [], ◌∷◌, ◌++◌, length, map, take, Option, Some, None, Result, Ok, Err, refl, sym, ap, subst, ◌∙◌, arith, append_assoc, append-nil}
use Rattle.std.specs.Prelude.{IsErr, MatchOption, is_err, min}
use Rattle.std.proofs.lemmas.List.{take_at, length-append, map-append}
use Rattle.ff_xdr.specs.declared.error.NoMemory.{NoMemory}
use Rattle.rpc_record.specs.declared.stream.Failed.{Failed}
use Rattle.rpc_record.specs.declared.stream.Failed.TheVariants as failed
use Rattle.rpc_record.specs.Stream.{counted, one_more}
use Rattle.cluster_model.specs.declared.ids.NodeId.{NodeId}
use Rattle.cluster_model.specs.declared.answer.FailCause.{FailCause}
use Rattle.node_link.specs.declared.link.Arrival.{Arrival}
use Rattle.node_link.specs.declared.link.Arrival.TheVariants.{Record}
use Rattle.node_link.specs.Clock.{GivesMoment}
use Rattle.node_link.specs.Link.{Gives, GivesReady, HandsOver}
use Rattle.line_runs.specs.Writing.{IsBeginningOf}
use Rattle.ff_node.specs.declared.end.NodeEnd.{NodeEnd}
use Rattle.ff_node.specs.Nodes.{NodeEvent, NodeRule, SentRecords, HasNotEndedBefore, event_at, sends_over, state_after, text_over}
use Rattle.store_disk.specs.Disks.{DiskLife, both_faults}
use Rattle.ff_node.specs.declared.fault.EventFault.{EventFault}
use Rattle.ff_node.specs.declared.fault.EventFault.TheVariants as fault
use Rattle.ff_node.specs.Serve.{AreOpen, Beside, DoesTogether, FailsIn, FindsClosed, GivesMoments, NodeBreaksOff, NodeServesOn, SendsAll, Served, Stops, TakesAll, TakesFront, TakesInPart, TakesMore, TookBeginning, beside, behind, broken_at, disk_counted, disk_faults, end_of_event, end_of_link, end_of_outcome, is_closed, last_end, link_faults, sink_counted, sink_faults}

-- ---- what is sent

pub more_more : {X : Type 0} (s : Option (List X)) (xs ys : List X) → behind (behind s xs) ys ≡ behind s (xs ++ ys)
more_more None xs ys = refl
more_more (Some sent) xs ys = ap Some (append_assoc sent xs ys)

pub no_more : {X : Type 0} (s : Option (List X)) → behind s [] ≡ s
no_more None = refl
no_more (Some sent) = ap Some (append-nil sent)

-- a node that writes nothing
pub wrote_none : (held : Option (List ℕ)) → held ≡ behind held []
wrote_none held = sym (no_more held)

pub began_none : (held : Option (List ℕ)) → TookBeginning held [] held
began_none None = refl
began_none (Some held) = ([], record { rest = []; whole = refl }, sym (no_more (Some held)))

pub sends_ok : (s : Option SentRecords) (to : NodeId) (bytes : List ℕ) (x : Unit {0}) (s' : Option SentRecords) → HandsOver s to bytes (Ok x) s' → s' ≡ behind s ((to, bytes) ∷ [])
sends_ok None to bytes x s' h = h
sends_ok (Some sent) to bytes x s' h = h

pub sends_err : (s : Option SentRecords) (to : NodeId) (bytes : List ℕ) (e : NoMemory) (s' : Option SentRecords) → HandsOver s to bytes (Err e) s' → s' ≡ s
sends_err None to bytes e s' h = h
sends_err (Some sent) to bytes e s' h = h

-- those before an item were sent, and that one was not
pub stopped : (s0 s s' : Option SentRecords) (records yielded rest : SentRecords) (item : NodeId × List ℕ) (r : Result (Unit {0}) NoMemory) → IsErr r → yielded ++ item ∷ rest ≡ records
    → s ≡ behind s0 yielded → s' ≡ s → SendsAll s0 records r s'
stopped s0 s s' records yielded rest item (Ok x) err all before same = absurd (cc (err))
stopped s0 s s' records yielded rest item (Err e) err all before same = (
  length yielded,
  omega (arith, ap length all, length-append yielded (item ∷ rest)),
  same ∙ before ∙ ap (behind s0) (sym (ap (take (length yielded)) (sym all) ∙ take_at yielded (item ∷ rest) (length yielded) refl)),
)

-- ---- what is beside a node

pub same_beside : (coming coming' : Option (List Arrival)) (sent sent' : Option SentRecords) (moments : Option (List ℕ)) (moment : ℕ) (held : Option (List ℕ)) → coming' ≡ coming → sent' ≡ sent
    → beside coming' sent' moments moment held ≡ beside coming sent moments moment held
same_beside coming coming' sent sent' moments moment held same-coming same-sent = rw (same-coming, same-sent) refl

-- with another link's state, all else is as it was
pub link_only : (b : Beside) (coming' : Option (List Arrival)) (sent' : Option SentRecords) → sent' ≡ b.sent → beside coming' sent' b.moments b.moment b.held ≡ record b { coming = coming' }
link_only b coming' sent' same = rw (same) refl

none_taken : (coming : Option (List Arrival)) → TakesFront coming [] coming
none_taken None = refl
none_taken (Some coming) = (coming, refl, refl)

-- this one came
one_taken : (a : Arrival) (coming next : Option (List Arrival)) → is_closed a ≡ false → Gives coming (Ok a) next → TakesFront coming (a ∷ []) next
one_taken a None next live gives = gives
one_taken a (Some []) next live gives = absurd (cc (live, ap is_closed gives.0))
one_taken a (Some (first ∷ coming)) next live gives = (coming, ap (λ x. x ∷ coming) gives.0, gives.1)

-- this record had come already
one_ready : (from : NodeId) (bytes : List ℕ) (coming next : Option (List Arrival)) → GivesReady coming (Some (from, bytes)) next → TakesFront coming (Record from bytes ∷ []) next
one_ready from bytes None next gives = gives
one_ready from bytes (Some []) next gives = absurd gives
one_ready from bytes (Some (first ∷ coming)) next gives = (coming, ap (λ x. x ∷ coming) (sym gives.0), gives.1)

taken_front : (coming mid : Option (List Arrival)) (xs ys : List Arrival) (last : Option (List Arrival)) → TakesFront coming xs mid → TakesFront mid ys last → TakesFront coming (xs ++ ys) last
taken_front None mid xs ys last first then = subst (λ (m : Option (List Arrival)). TakesFront m ys last) first then
taken_front (Some coming) mid xs ys last first then =
    let more : TakesFront (Some first.0) ys last = subst (λ (m : Option (List Arrival)). TakesFront m ys last) first.2 then in
    (more.0, append_assoc xs ys more.0 ∙ ap (λ (l : List Arrival). xs ++ l) more.1 ∙ first.1, more.2)

-- these moments, and those behind them
given_moments : (xs ys : List ℕ) (coming mid last : Option (List ℕ)) (m m' m'' : ℕ) → GivesMoments coming m xs mid m' → GivesMoments mid m' ys last m'' → GivesMoments coming m (xs ++ ys) last m''
given_moments [] ys coming mid last m m' m'' first then =
    subst (λ (n : ℕ). GivesMoments coming n ys last m'') first.1 (subst (λ (c : Option (List ℕ)). GivesMoments c m' ys last m'') first.0 then)
given_moments (x ∷ xs) ys coming mid last m m' m'' first then =
    (first.0, (first.1.0, first.1.1, given_moments xs ys first.1.0 mid last x m' m'' first.1.2 then))

gives_err : (coming coming' : Option (List Arrival)) (e : Failed) → Gives coming (Err e) coming' → coming' ≡ coming
gives_err None coming' e h = h
gives_err (Some []) coming' e h = h
gives_err (Some (first ∷ rest)) coming' e h = h

finds_closed : (a : Arrival) (coming coming' : Option (List Arrival)) → is_closed a ≡ true → Gives coming (Ok a) coming' → FindsClosed coming coming'
finds_closed a None coming' closed gives = gives
finds_closed a (Some []) coming' closed gives = gives.1
finds_closed a (Some (first ∷ rest)) coming' closed gives = (ap is_closed (sym gives.0) ∙ closed, gives.1)

-- the clock gave this moment
abbrev pub Clocked : Option (List ℕ) → ℕ → ℕ → Option (List ℕ) → ℕ → Type 0
Clocked moments last m moments' last' = (last ≤ m) × GivesMoment moments last m moments' × (last' ≡ m)

-- a beginning of the second text, behind all of the first, is one of both
began_behind : (held mid new : Option (List ℕ)) (xs ys : List ℕ) → mid ≡ behind held xs → TookBeginning mid ys new → TookBeginning held (xs ++ ys) new
began_behind None mid new xs ys first then = subst (λ (m : Option (List ℕ)). TookBeginning m ys new) first then
began_behind (Some held) mid new xs ys first then =
    let part : TookBeginning (Some (held ++ xs)) ys new = subst (λ (m : Option (List ℕ)). TookBeginning m ys new) first then in
    let began : IsBeginningOf part.0 ys = part.1 in
    let whole : IsBeginningOf (xs ++ part.0) (xs ++ ys) = record { rest = began.rest; whole = append_assoc xs part.0 began.rest ∙ ap (λ (l : List ℕ). xs ++ l) began.whole } in
    (xs ++ part.0, whole, part.2 ∙ ap Some (append_assoc held xs part.0))

-- all of a text is a beginning of it
began_all : (held : Option (List ℕ)) (text : List ℕ) (new : Option (List ℕ)) → new ≡ behind held text → TookBeginning held text new
began_all None text new all = all
began_all (Some held) text new all =
    let whole : IsBeginningOf text text = record { rest = []; whole = append-nil text } in
    (text, whole, all)

fault_is : (r : Result ℕ EventFault) (e e' : EventFault) → r ≡ Err e → r ≡ Err e' → e' ≡ e
fault_is r e e' one other = cc (one, other)

module _ {S : Type 0} (rule : NodeRule S) where
  -- ---- events behind events

  state_both : (xs ys : List NodeEvent) (s : S) → state_after rule s (xs ++ ys) ≡ state_after rule (state_after rule s xs) ys
  state_both [] ys s = refl
  state_both (x ∷ xs) ys s = state_both xs ys (rule.step s x).state

  sends_both : (xs ys : List NodeEvent) (s : S) → sends_over rule s (xs ++ ys) ≡ sends_over rule s xs ++ sends_over rule (state_after rule s xs) ys
  sends_both [] ys s = refl
  sends_both (x ∷ xs) ys s =
      let after = (rule.step s x).state in
      ap (λ (l : SentRecords). (rule.step s x).sends ++ l) (sends_both xs ys after) ∙ sym (append_assoc (rule.step s x).sends (sends_over rule after xs) (sends_over rule (state_after rule after xs) ys))

  text_both : (xs ys : List NodeEvent) (s : S) → text_over rule s (xs ++ ys) ≡ text_over rule s xs ++ text_over rule (state_after rule s xs) ys
  text_both [] ys s = refl
  text_both (x ∷ xs) ys s =
      let after = (rule.step s x).state in
      ap (λ (l : List ℕ). (rule.step s x).text ++ l) (text_both xs ys after) ∙ sym (append_assoc (rule.step s x).text (text_over rule after xs) (text_over rule (state_after rule after xs) ys))

  going_both : (xs ys : List NodeEvent) (s : S) → HasNotEndedBefore rule s xs → HasNotEndedBefore rule (state_after rule s xs) ys → HasNotEndedBefore rule s (xs ++ ys)
  going_both [] ys s first then = then
  going_both (x ∷ xs) ys s first then = (first.0, going_both xs ys (rule.step s x).state first.1 then)

  open_both : (xs ys : List NodeEvent) → AreOpen xs → AreOpen ys → AreOpen (xs ++ ys)
  open_both [] ys first then = then
  open_both (x ∷ xs) ys first then = (first.0, open_both xs ys first.1 then)

  -- These events were taken: they came, each at its moment, and none said that nothing more comes; before each the node had not ended.
  pub record EventsCame (s : S) (b : Beside) (events : List NodeEvent) (b' : Beside) : Type 0 where
    pub came : TakesFront b.coming (map (λ (e : NodeEvent). e.arrival) events) b'.coming
    pub moments : GivesMoments b.moments b.moment (map (λ (e : NodeEvent). e.moment) events) b'.moments b'.moment
    pub live : AreOpen events
    pub going : HasNotEndedBefore rule s events

  took_both : (s : S) (b b1 b2 : Beside) (xs ys : List NodeEvent) → EventsCame s b xs b1 → EventsCame (state_after rule s xs) b1 ys b2 → EventsCame s b (xs ++ ys) b2
  took_both s b b1 b2 xs ys first then =
      let arrivals : map (λ (e : NodeEvent). e.arrival) (xs ++ ys) ≡ map (λ (e : NodeEvent). e.arrival) xs ++ map (λ (e : NodeEvent). e.arrival) ys = map-append (λ (e : NodeEvent). e.arrival) xs ys in
      let moments : map (λ (e : NodeEvent). e.moment) (xs ++ ys) ≡ map (λ (e : NodeEvent). e.moment) xs ++ map (λ (e : NodeEvent). e.moment) ys = map-append (λ (e : NodeEvent). e.moment) xs ys in
      record {
        came = subst (λ (l : List Arrival). TakesFront b.coming l b2.coming) (sym arrivals)
            (taken_front b.coming b1.coming (map (λ (e : NodeEvent). e.arrival) xs) (map (λ (e : NodeEvent). e.arrival) ys) b2.coming first.came then.came);
        moments = subst (λ (l : List ℕ). GivesMoments b.moments b.moment l b2.moments b2.moment) (sym moments)
            (given_moments (map (λ (e : NodeEvent). e.moment) xs) (map (λ (e : NodeEvent). e.moment) ys) b.moments b1.moments b2.moments b.moment b1.moment b2.moment first.moments then.moments);
        live = open_both xs ys first.live then.live;
        going = going_both xs ys s first.going then.going;
      }

  took_one : (s : S) (b b' : Beside) (e : NodeEvent) → TakesFront b.coming (e.arrival ∷ []) b'.coming → Clocked b.moments b.moment e.moment b'.moments b'.moment → is_closed e.arrival ≡ false → rule.outcome s ≡ None → EventsCame s b (e ∷ []) b'
  took_one s b b' e came clocked live goes = record {
    came = came;
    moments = (clocked.0, (b'.moments, clocked.1, (refl, clocked.2)));
    live = (live, tt);
    going = (goes, tt);
  }

  -- what one event writes and sends, as what it and none behind it do
  text_one : (s : S) (e : NodeEvent) → text_over rule s (e ∷ []) ≡ (rule.step s e).text
  text_one s e = append-nil (rule.step s e).text

  sends_one : (s : S) (e : NodeEvent) → sends_over rule s (e ∷ []) ≡ (rule.step s e).sends
  sends_one s e = append-nil (rule.step s e).sends

  -- ---- serving behind serving

  pub served_none : (s : S) (b : Beside) → Served rule s b s b
  served_none s b = record {
    taken = [];
    came = none_taken b.coming;
    moments = (refl, refl);
    live = tt;
    going = tt;
    state = refl;
    sends = sym (no_more b.sent);
    text = sym (no_more b.held);
  }

  pub served_start : (s : S) (b : Beside) (turns : ℕ) → (served : Served rule s b s b) × (length served.taken + turns ≡ turns)
  unfolding served_none
  served_start s b turns = (served_none s b, omega arith)

  -- serving as told by what was taken
  served_of : (s : S) (b : Beside) (s' : S) (b' : Beside) (taken : List NodeEvent) → EventsCame s b taken b' → s' ≡ state_after rule s taken → b'.sent ≡ behind b.sent (sends_over rule s taken) → b'.held ≡ behind b.held (text_over rule s taken)
      → Served rule s b s' b'
  served_of s b s' b' taken took state sends text = record { taken = taken; came = took.came; moments = took.moments; live = took.live; going = took.going; state = state; sends = sends; text = text }

  took_served : (s : S) (b : Beside) (s' : S) (b' : Beside) (served : Served rule s b s' b') → EventsCame s b served.taken b'
  took_served s b s' b' served = record { came = served.came; moments = served.moments; live = served.live; going = served.going }

  pub served_both : (s s1 s2 : S) (b b1 b2 : Beside) → Served rule s b s1 b1 → Served rule s1 b1 s2 b2 → Served rule s b s2 b2
  unfolding served_of
  served_both s s1 s2 b b1 b2 first then =
      let xs = first.taken in
      let ys = then.taken in
      let from : s1 ≡ state_after rule s xs = first.state in
      let sends : b2.sent ≡ behind b1.sent (sends_over rule (state_after rule s xs) ys) = subst (λ (m : S). b2.sent ≡ behind b1.sent (sends_over rule m ys)) from then.sends in
      let text : b2.held ≡ behind b1.held (text_over rule (state_after rule s xs) ys) = subst (λ (m : S). b2.held ≡ behind b1.held (text_over rule m ys)) from then.text in
      let state : s2 ≡ state_after rule (state_after rule s xs) ys = subst (λ (m : S). s2 ≡ state_after rule m ys) from then.state in
      let took : EventsCame (state_after rule s xs) b1 ys b2 = subst (λ (m : S). EventsCame m b1 ys b2) from (took_served s1 b1 s2 b2 then) in
      served_of s b s2 b2 (xs ++ ys) (took_both s b b1 b2 xs ys (took_served s b s1 b1 first) took) (state ∙ sym (state_both xs ys s))
      (sends ∙ ap (λ (l : Option SentRecords). behind l (sends_over rule (state_after rule s xs) ys)) first.sends ∙ more_more b.sent (sends_over rule s xs) (sends_over rule (state_after rule s xs) ys)
      ∙ ap (λ (l : SentRecords). behind b.sent l) (sym (sends_both xs ys s)))
      (text ∙ ap (λ (l : Option (List ℕ)). behind l (text_over rule (state_after rule s xs) ys)) first.text ∙ more_more b.held (text_over rule s xs) (text_over rule (state_after rule s xs) ys)
      ∙ ap (λ (l : List ℕ). behind b.held l) (sym (text_both xs ys s)))

  count_both : (s s1 s2 : S) (b b1 b2 : Beside) (first : Served rule s b s1 b1) (then : Served rule s1 b1 s2 b2) → length (served_both s s1 s2 b b1 b2 first then).taken ≡ length first.taken + length then.taken
  unfolding served_both served_of
  count_both s s1 s2 b b1 b2 first then = length-append first.taken then.taken

  -- a turn behind those before
  pub served_more : (s s1 s2 : S) (b b1 b2 : Beside) (turns left n : ℕ) (first : Served rule s b s1 b1) → length first.taken + left ≡ turns → (then : Served rule s1 b1 s2 b2) → length then.taken ≡ n → n ≤ left
      → (served : Served rule s b s2 b2) × (length served.taken + (left - n) ≡ turns)
  served_more s s1 s2 b b1 b2 turns left n first all then count few =
      let size : length (served_both s s1 s2 b b1 b2 first then).taken ≡ length first.taken + length then.taken = count_both s s1 s2 b b1 b2 first then in
      (served_both s s1 s2 b b1 b2 first then, omega (arith, size, all, count, few))

  -- ---- serving that stops

  module _ (leaves : S → S → Option DiskLife → Option DiskLife → Type 0) (disk spare : Option DiskLife) where
    stops_now : (left : ℕ) (s : S) (b : Beside) (end : NodeEnd) (s' : S) (b' : Beside) (stops : Stops rule left s b end s' b') → leaves s (state_after rule s (broken_at stops)) disk spare → NodeServesOn leaves rule s left b end s' b' disk spare
    unfolding served_none
    stops_now left s b end s' b' stops has = record { mid = s; beside_mid = b; served = served_none s b; left = left; turns_are = omega arith; stops = stops; stands = has }

    -- whatever serving does from there on, it did from before
    pub serves_then : (s mid s' : S) (b b1 b' : Beside) (turns left : ℕ) (end : NodeEnd) (first : Served rule s b mid b1) → length first.taken + left ≡ turns → NodeServesOn leaves rule mid left b1 end s' b' disk spare
        → NodeServesOn leaves rule s turns b end s' b' disk spare
    serves_then s mid s' b b1 b' turns left end first all serves =
        let size : length (served_both s mid serves.mid b b1 serves.beside_mid first serves.served).taken ≡ length first.taken + length serves.served.taken = count_both s mid serves.mid b b1 serves.beside_mid first serves.served in
        let turns_are : length serves.served.taken + serves.left ≡ left = serves.turns_are in
        record {
          mid = serves.mid;
          beside_mid = serves.beside_mid;
          served = served_both s mid serves.mid b b1 serves.beside_mid first serves.served;
          left = serves.left;
          turns_are = omega (arith, size, turns_are, all);
          stops = serves.stops;
          stands = serves.stands;
        }

    pub turn_ended : (left : ℕ) (s : S) (b : Beside) (end : NodeEnd) (r : Result (Unit {0}) FailCause) → rule.outcome s ≡ Some r → end ≡ end_of_outcome r → leaves s s disk spare → NodeServesOn leaves rule s left b end s b disk spare
    turn_ended left s b end r ended is has = stops_now left s b end s b (inl (r, ended, is, (refl, refl))) has

    pub turn_failed : (left : ℕ) (s : S) (b b' : Beside) (end : NodeEnd) (e : Failed) → 0 < left → rule.outcome s ≡ None → end ≡ end_of_link e → Gives b.coming (Err e) b'.coming → b' ≡ record b { coming = b'.coming } → leaves s s disk spare
        → NodeServesOn leaves rule s left b end s b' disk spare
    turn_failed left s b b' end e more goes is gives rest has =
        let same : b' ≡ b = rest ∙ ap (λ c. record b { coming = c }) (gives_err b.coming b'.coming e gives) in
        stops_now left s b end s b' (inr (goes, inr (more, inl (e, is, (refl, same))))) has

    pub turn_closed : (left : ℕ) (s : S) (b b' : Beside) (end : NodeEnd) (a : Arrival) → 0 < left → rule.outcome s ≡ None → end ≡ last_end rule.is_server → is_closed a ≡ true → Gives b.coming (Ok a) b'.coming → b' ≡ record b { coming = b'.coming }
        → leaves s s disk spare → NodeServesOn leaves rule s left b end s b' disk spare
    turn_closed left s b b' end a more goes is closed gives rest has =
        stops_now left s b end s b' (inr (goes, inl (is, inr (more, (refl, finds_closed a b.coming b'.coming closed gives, rest))))) has

    turns_over : (s : S) (b : Beside) (end : NodeEnd) → rule.outcome s ≡ None → end ≡ last_end rule.is_server → leaves s s disk spare → NodeServesOn leaves rule s 0 b end s b disk spare
    turns_over s b end goes is has = stops_now 0 s b end s b (inr (goes, inl (is, inl (refl, (refl, refl))))) has

    pub turns_end : (s : S) (b : Beside) (end : NodeEnd) (o : Option (Result (Unit {0}) FailCause)) → rule.outcome s ≡ o → MatchOption o (end ≡ last_end rule.is_server) (λ r. end ≡ end_of_outcome r) → leaves s s disk spare
        → NodeServesOn leaves rule s 0 b end s b disk spare
    turns_end s b end None is ends has = turns_over s b end is ends has
    turns_end s b end (Some r) is ends has = turn_ended 0 s b end r is ends has

  -- ---- events that were taken together

  -- what the link has had and the clock has given, in one step: the first of them was taken, and the others behind it
  module _ (Left : S → Type 0) (s : S) (first : NodeEvent) (more left : ℕ) (b b1 b' : Beside) (s' : S) (goes : rule.outcome s ≡ None) (live : is_closed first.arrival ≡ false) (gives : Gives b.coming (Ok first.arrival) b1.coming)
      (clocked : Clocked b.moments b.moment first.moment b1.moments b1.moment) (sent : b1.sent ≡ b.sent) (held : b1.held ≡ b.held) where
    took_together : (taken : List NodeEvent) → EventsCame (rule.step s first).state b1 taken b' → EventsCame s b (first ∷ taken) b'
    took_together taken took = took_both s b b1 b' (first ∷ []) taken (took_one s b b1 first (one_taken first.arrival b.coming b1.coming live gives) clocked live goes) took

    together_took : (result : Result ℕ EventFault) (does : DoesTogether rule Left s first more b1 result s' b') → EventsCame (rule.step s first).state b1 does.taken b'
    together_took result does = record { came = does.came; moments = does.moments; live = does.live; going = does.going }

    pub turn_done : (n : ℕ) → more < left → DoesTogether rule Left s first more b1 (Ok n) s' b' → (served : Served rule s b s' b') × (length served.taken ≡ n) × (0 < n) × (n ≤ left)
    unfolding served_of
    turn_done n few does =
        let done = does.done n refl in
        let events = first ∷ does.taken in
        let count : n ≡ 1 + length does.taken = done.0 in
        let within : length does.taken ≤ more = does.few in
        let sends : b'.sent ≡ behind b.sent (sends_over rule s events) = done.2 ∙ ap (λ (l : Option SentRecords). behind l (sends_over rule s events)) sent in
        let text : b'.held ≡ behind b.held (text_over rule s events) = done.3 ∙ ap (λ (l : Option (List ℕ)). behind l (text_over rule s events)) held in
        (served_of s b s' b' events (took_together does.taken (together_took (Ok n) does)) done.1 sends text, omega (arith, count), omega (arith, count), omega (arith, count, within, few))

    pub turn_broken : (leaves : S → S → Option DiskLife → Option DiskLife → Type 0) (disk spare : Option DiskLife) (end : NodeEnd) (e : EventFault) → more < left → more ≤ rule.more_at_once → end ≡ end_of_event e → DoesTogether rule Left s first more b1 (Err e) s' b'
        → ((broken : S) → Left broken → leaves s broken disk spare) → NodeServesOn leaves rule s left b end s' b' disk spare
    turn_broken leaves disk spare end e few most is does has =
        let events = first ∷ does.taken in
        let within : length does.taken ≤ more = does.few in
        let took : EventsCame s b events b' = took_together does.taken (together_took (Err e) does) in
        let fails : FailsIn rule s events b.sent b.held e b'.sent b'.held =
        subst (λ (l : Option SentRecords). FailsIn rule s events l b.held e b'.sent b'.held) sent (subst (λ (h : Option (List ℕ)). FailsIn rule s events b1.sent h e b'.sent b'.held) held (does.broken e refl)) in
        let breaks : NodeBreaksOff rule left s b end b' = record {
          events = events;
          some = omega arith;
          few = omega (arith, within, most);
          within = omega (arith, within, few);
          came = took.came;
          moments = took.moments;
          live = took.live;
          going = took.going;
          error = e;
          fails = fails;
          end_is = is;
        } in
        stops_now leaves disk spare left s b end s' b' (inr (goes, inr (omega (arith, few), inr breaks))) (has (state_after rule s events) (does.left e refl))

  -- ---- more events, while none is answered

  pub takes_none : (s : S) (b : Beside) (sends : SentRecords) → TakesAll rule s b sends 0 s b sends
  takes_none s b sends = record {
    taken = [];
    count = refl;
    came = none_taken b.coming;
    moments = (refl, refl);
    live = tt;
    going = tt;
    state = refl;
    sends = sym (append-nil sends);
    sent = refl;
    text = sym (no_more b.held);
  }

  took_all : (s : S) (b : Beside) (sends : SentRecords) (n : ℕ) (s' : S) (b' : Beside) (sends' : SentRecords) (all : TakesAll rule s b sends n s' b' sends') → EventsCame s b all.taken b'
  took_all s b sends n s' b' sends' all = record { came = all.came; moments = all.moments; live = all.live; going = all.going }

  -- a record that had come already is taken behind those
  module _ (s : S) (b : Beside) (sends : SentRecords) (n : ℕ) (s1 : S) (b1 : Beside) (sends1 : SentRecords) (all : TakesAll rule s b sends n s1 b1 sends1) (from : NodeId) (bytes : List ℕ) (moment : ℕ) (b2 : Beside)
      (goes : rule.outcome s1 ≡ None) (gives : GivesReady b1.coming (Some (from, bytes)) b2.coming) (clocked : Clocked b1.moments b1.moment moment b2.moments b2.moment) (sent : b2.sent ≡ b1.sent) where
    abbrev event : NodeEvent
    event = event_at moment (Record from bytes)

    took_ready : EventsCame s b (all.taken ++ event ∷ []) b2
    took_ready =
        let last : EventsCame s1 b1 (event ∷ []) b2 = took_one s1 b1 b2 event (one_ready from bytes b1.coming b2.coming gives) clocked refl goes in
        took_both s b b1 b2 all.taken (event ∷ []) (took_all s b sends n s1 b1 sends1 all) (subst (λ (m : S). EventsCame m b1 (event ∷ []) b2) all.state last)

    pub takes_more : (s2 : S) (sends2 : SentRecords) → s2 ≡ (rule.step s1 event).state → sends2 ≡ sends1 ++ (rule.step s1 event).sends → b2.held ≡ behind b1.held (rule.step s1 event).text → TakesAll rule s b sends (n + 1) s2 b2 sends2
    takes_more s2 sends2 state puts text =
        let xs = all.taken in
        let end = state_after rule s xs in
        let from : s1 ≡ end = all.state in
        let puts_so : sends2 ≡ sends1 ++ (rule.step end event).sends = subst (λ (m : S). sends2 ≡ sends1 ++ (rule.step m event).sends) from puts in
        let text_so : b2.held ≡ behind b1.held (rule.step end event).text = subst (λ (m : S). b2.held ≡ behind b1.held (rule.step m event).text) from text in
        let state_so : s2 ≡ (rule.step end event).state = subst (λ (m : S). s2 ≡ (rule.step m event).state) from state in
        let puts_all : sends_over rule s (xs ++ event ∷ []) ≡ sends_over rule s xs ++ (rule.step end event).sends = sends_both xs (event ∷ []) s ∙ ap (λ (l : SentRecords). sends_over rule s xs ++ l) (sends_one end event) in
        let text_all : text_over rule s (xs ++ event ∷ []) ≡ text_over rule s xs ++ (rule.step end event).text = text_both xs (event ∷ []) s ∙ ap (λ (l : List ℕ). text_over rule s xs ++ l) (text_one end event) in
        let size : length (xs ++ event ∷ []) ≡ length xs + 1 = length-append xs (event ∷ []) in
        let count : length xs ≡ n = all.count in
        record {
          taken = xs ++ event ∷ [];
          count = omega (arith, size, count);
          came = took_ready.came;
          moments = took_ready.moments;
          live = took_ready.live;
          going = took_ready.going;
          state = state_so ∙ sym (state_both xs (event ∷ []) s);
          sends = puts_so ∙ ap (λ (l : SentRecords). l ++ (rule.step end event).sends) all.sends ∙ append_assoc sends (sends_over rule s xs) (rule.step end event).sends ∙ ap (λ (l : SentRecords). sends ++ l) (sym puts_all);
          sent = sent ∙ all.sent;
          text = text_so ∙ ap (λ (l : Option (List ℕ)). behind l (rule.step end event).text) all.text ∙ more_more b.held (text_over rule s xs) (rule.step end event).text ∙ ap (λ (l : List ℕ). behind b.held l) (sym text_all);
        }

    pub takes_in_part : (most : ℕ) → n < most → TookBeginning b1.held (rule.step s1 event).text b2.held → TakesInPart rule s b most b2
    takes_in_part most few text =
        let xs = all.taken in
        let end = state_after rule s xs in
        let text_so : TookBeginning b1.held (rule.step end event).text b2.held = subst (λ (m : S). TookBeginning b1.held (rule.step m event).text b2.held) all.state text in
        let text_all : text_over rule s (xs ++ event ∷ []) ≡ text_over rule s xs ++ (rule.step end event).text = text_both xs (event ∷ []) s ∙ ap (λ (l : List ℕ). text_over rule s xs ++ l) (text_one end event) in
        let size : length (xs ++ event ∷ []) ≡ length xs + 1 = length-append xs (event ∷ []) in
        let count : length xs ≡ n = all.count in
        record {
          taken = xs ++ event ∷ [];
          some = omega (arith, size);
          few = omega (arith, size, count, few);
          came = took_ready.came;
          moments = took_ready.moments;
          live = took_ready.live;
          going = took_ready.going;
          sent = sent ∙ all.sent;
          text = subst (λ (t : List ℕ). TookBeginning b.held t b2.held) (sym text_all) (began_behind b.held b1.held b2.held (text_over rule s xs) (rule.step end event).text all.text text_so);
        }

  -- the last of them failed
  pub in_part : (s : S) (b : Beside) (sends : SentRecords) (most : ℕ) (r : Result ℕ EventFault) (s' : S) (b' : Beside) (sends' : SentRecords) → IsErr r → TakesInPart rule s b most b' → TakesMore rule s b sends most r s' b' sends'
  in_part s b sends most (Ok n) s' b' sends' failed part = absurd (cc (failed))
  in_part s b sends most (Err e) s' b' sends' failed part = part

  -- ---- what was taken together, done or not

  module _ (Left : S → Type 0) (s : S) (first : NodeEvent) (more : ℕ) (b : Beside) (s' : S) (b' : Beside) where
    -- the first failed
    pub first_failed : (r : Result ℕ EventFault) → IsErr r → b'.coming ≡ b.coming → b'.moments ≡ b.moments → b'.moment ≡ b.moment → b'.sent ≡ b.sent → TookBeginning b.held (rule.step s first).text b'.held → Left (rule.step s first).state
        → DoesTogether rule Left s first more b r s' b'
    first_failed (Ok n) failed coming moments moment sent text has = absurd (cc (failed))
    first_failed (Err e) failed coming moments moment sent text has = record {
      taken = [];
      few = omega arith;
      came = subst (λ (c : Option (List Arrival)). TakesFront b.coming [] c) (sym coming) (none_taken b.coming);
      moments = (moments, moment);
      live = tt;
      going = tt;
      done = λ n ok. absurd (cc (ok));
      broken = λ e' err. inl (subst (λ (t : List ℕ). TookBeginning b.held t b'.held) (sym (text_one s first)) text, sent);
      left = λ e' err. has;
    }

    -- the first was done, and one behind it failed
    pub later_failed : (r : Result ℕ EventFault) (s1 : S) (b1 : Beside) → IsErr r → s1 ≡ (rule.step s first).state → b1.coming ≡ b.coming → b1.moments ≡ b.moments → b1.moment ≡ b.moment → b1.sent ≡ b.sent → b1.held ≡ behind b.held (rule.step s first).text
        → TakesInPart rule s1 b1 more b' → ((broken : S) → Left broken) → DoesTogether rule Left s first more b r s' b'
    later_failed (Ok n) s1 b1 failed state coming moments moment sent text part has = absurd (cc (failed))
    later_failed (Err e) s1 b1 failed state coming moments moment sent text part has =
        let after = (rule.step s first).state in
        let going : HasNotEndedBefore rule after part.taken = subst (λ (m : S). HasNotEndedBefore rule m part.taken) state part.going in
        let wrote : TookBeginning b1.held (text_over rule after part.taken) b'.held = subst (λ (m : S). TookBeginning b1.held (text_over rule m part.taken) b'.held) state part.text in
        record {
          taken = part.taken;
          few = part.few;
          came = subst (λ (c : Option (List Arrival)). TakesFront c (map (λ (e : NodeEvent). e.arrival) part.taken) b'.coming) coming part.came;
          moments = subst (λ (c : Option (List ℕ)). GivesMoments c b.moment (map (λ (e : NodeEvent). e.moment) part.taken) b'.moments b'.moment) moments
              (subst (λ (m : ℕ). GivesMoments b1.moments m (map (λ (e : NodeEvent). e.moment) part.taken) b'.moments b'.moment) moment part.moments);
          live = part.live;
          going = going;
          done = λ n ok. absurd (cc (ok));
          broken = λ e' err. inl (began_behind b.held b1.held b'.held (rule.step s first).text (text_over rule after part.taken) text wrote, part.sent ∙ sent);
          left = λ e' err. has (state_after rule s (first ∷ part.taken));
        }

    -- all were taken
    module _ (s1 : S) (b1 b2 : Beside) (sends : SentRecords) (n : ℕ) (s2 : S) (sends2 : SentRecords) (state : s1 ≡ (rule.step s first).state) (coming : b1.coming ≡ b.coming) (moments : b1.moments ≡ b.moments) (moment : b1.moment ≡ b.moment)
        (sent : b1.sent ≡ b.sent) (text : b1.held ≡ behind b.held (rule.step s first).text) (puts : sends ≡ (rule.step s first).sends) (all : TakesAll rule s1 b1 sends n s2 b2 sends2) (few : n ≤ more)
        (coming2 : b'.coming ≡ b2.coming) (moments2 : b'.moments ≡ b2.moments) (moment2 : b'.moment ≡ b2.moment) (held2 : b'.held ≡ b2.held) where
      abbrev events : List NodeEvent
      events = first ∷ all.taken

      all_text : b'.held ≡ behind b.held (text_over rule s events)
      all_text =
          let rest = text_over rule (rule.step s first).state all.taken in
          let last : b2.held ≡ behind b1.held rest = subst (λ (m : S). b2.held ≡ behind b1.held (text_over rule m all.taken)) state all.text in
          held2 ∙ last ∙ ap (λ (l : Option (List ℕ)). behind l rest) text ∙ more_more b.held (rule.step s first).text rest

      -- what is to be sent for them
      all_sends : sends2 ≡ sends_over rule s events
      all_sends =
          let rest = sends_over rule (rule.step s first).state all.taken in
          let last : sends2 ≡ sends ++ rest = subst (λ (m : S). sends2 ≡ sends ++ sends_over rule m all.taken) state all.sends in
          last ∙ ap (λ (l : SentRecords). l ++ rest) puts

      pub all_state : s2 ≡ state_after rule s events
      all_state = subst (λ (m : S). s2 ≡ state_after rule m all.taken) state all.state

      all_sent : b2.sent ≡ b.sent
      all_sent = all.sent ∙ sent

      all_came : TakesFront b.coming (map (λ (e : NodeEvent). e.arrival) all.taken) b'.coming
      all_came = subst (λ (c : Option (List Arrival)). TakesFront b.coming (map (λ (e : NodeEvent). e.arrival) all.taken) c) (sym coming2)
          (subst (λ (c : Option (List Arrival)). TakesFront c (map (λ (e : NodeEvent). e.arrival) all.taken) b2.coming) coming all.came)

      all_moments : GivesMoments b.moments b.moment (map (λ (e : NodeEvent). e.moment) all.taken) b'.moments b'.moment
      all_moments =
          let was : GivesMoments b.moments b.moment (map (λ (e : NodeEvent). e.moment) all.taken) b2.moments b2.moment =
          subst (λ (c : Option (List ℕ)). GivesMoments c b.moment (map (λ (e : NodeEvent). e.moment) all.taken) b2.moments b2.moment) moments
          (subst (λ (m : ℕ). GivesMoments b1.moments m (map (λ (e : NodeEvent). e.moment) all.taken) b2.moments b2.moment) moment all.moments) in
          subst (λ (c : Option (List ℕ)). GivesMoments b.moments b.moment (map (λ (e : NodeEvent). e.moment) all.taken) c b'.moment) (sym moments2)
          (subst (λ (m : ℕ). GivesMoments b.moments b.moment (map (λ (e : NodeEvent). e.moment) all.taken) b2.moments m) (sym moment2) was)

      all_going : HasNotEndedBefore rule (rule.step s first).state all.taken
      all_going = subst (λ (m : S). HasNotEndedBefore rule m all.taken) state all.going

      all_few : length all.taken ≤ more
      all_few =
          let count : length all.taken ≡ n = all.count in
          omega (arith, count, few)

      -- what is to be kept of them could not be
      pub unsettled : (e : EventFault) → b'.sent ≡ b2.sent → Left s2 → DoesTogether rule Left s first more b (Err e) s' b'
      unsettled e sent2 has = record {
        taken = all.taken;
        few = all_few;
        came = all_came;
        moments = all_moments;
        live = all.live;
        going = all_going;
        done = λ m ok. absurd (cc (ok));
        broken = λ e' err. inl (began_all b.held (text_over rule s events) b'.held all_text, sent2 ∙ all_sent);
        left = λ e' err. subst Left all_state has;
      }

      -- sending failed
      pub sent_in_part : (sent_by : Result (Unit {0}) NoMemory) → is_err sent_by ≡ true → SendsAll b2.sent sends2 sent_by b'.sent → Left s2 → DoesTogether rule Left s first more b (Err fault.NoMemory) s' b'
      sent_in_part (Ok x) failed sent_so has = absurd (cc (failed))
      sent_in_part (Err e) failed sent_so has =
          let part : (n : ℕ) × (n < length (sends_over rule s events)) × (b'.sent ≡ behind b.sent (take n (sends_over rule s events))) =
          subst (λ (o : Option SentRecords). (n : ℕ) × (n < length (sends_over rule s events)) × (b'.sent ≡ behind o (take n (sends_over rule s events)))) all_sent
          (subst (λ (l : SentRecords). (n : ℕ) × (n < length l) × (b'.sent ≡ behind b2.sent (take n l))) all_sends sent_so) in
          record {
            taken = all.taken;
            few = all_few;
            came = all_came;
            moments = all_moments;
            live = all.live;
            going = all_going;
            done = λ m ok. absurd (cc (ok));
            broken = λ e' err. inr (fault_is (Err fault.NoMemory) fault.NoMemory e' refl err, all_text, part);
            left = λ e' err. subst Left all_state has;
          }

      abbrev result_ok : ℕ → Result ℕ EventFault
      result_ok n = Ok n

      -- all were done
      pub all_done : (sent_by : Result (Unit {0}) NoMemory) → is_err sent_by ≡ false → SendsAll b2.sent sends2 sent_by b'.sent → s' ≡ s2 → (m : ℕ) → m ≡ 1 + n → DoesTogether rule Left s first more b (Ok m) s' b'
      all_done (Err e) none sent_so same m is = absurd (cc (none))
      all_done (Ok x) none sent_so same m is =
          let sent_all : b'.sent ≡ behind b.sent (sends_over rule s events) = sent_so ∙ ap (λ (o : Option SentRecords). behind o sends2) all_sent ∙ ap (behind b.sent) all_sends in
          let count : length all.taken ≡ n = all.count in
          record {
            taken = all.taken;
            few = all_few;
            came = all_came;
            moments = all_moments;
            live = all.live;
            going = all_going;
            done = λ k ok. (counts k ok count, same ∙ all_state, sent_all, all_text);
            broken = λ e err. absurd (cc (err));
            left = λ e err. absurd (cc (err));
          }
        where
          counts : (k : ℕ) → result_ok m ≡ result_ok k → length all.taken ≡ n → k ≡ 1 + length all.taken
          counts k ok count = let its : k ≡ m = cc (ok) in omega (arith, its, is, count)

-- ---- counts of faults

pub no_link_fault : (r : Result (Unit {0}) FailCause) (n : ℕ) → link_faults (end_of_outcome r) n ≡ n
no_link_fault (Ok x) n = refl
no_link_fault (Err cause) n = refl

pub no_sink_fault : (r : Result (Unit {0}) FailCause) (n : ℕ) → sink_faults (end_of_outcome r) n ≡ n
no_sink_fault (Ok x) n = refl
no_sink_fault (Err cause) n = refl

pub no_disk_fault : (r : Result (Unit {0}) FailCause) (n : ℕ) → disk_faults (end_of_outcome r) n ≡ n
no_disk_fault (Ok x) n = refl
no_disk_fault (Err cause) n = refl

pub no_fault_at_last : (is_server : Bool) (n : ℕ) → (link_faults (last_end is_server) n ≡ n) × (sink_faults (last_end is_server) n ≡ n) × (disk_faults (last_end is_server) n ≡ n)
no_fault_at_last true n = (refl, refl, refl)
no_fault_at_last false n = (refl, refl, refl)

pub link_counted : (e : Failed) (n : ℕ) → (link_faults (end_of_link e) n ≡ counted {T = Arrival} (Err e) n) × (sink_faults (end_of_link e) n ≡ n) × (disk_faults (end_of_link e) n ≡ n)
link_counted failed.Fault n = (refl, refl, refl)
link_counted failed.NoMemory n = (refl, refl, refl)

pub event_counted : (e : EventFault) (n : ℕ)
    → (sink_faults (end_of_event e) n ≡ sink_counted {T = Unit {0}} (Err e) n) × (disk_faults (end_of_event e) n ≡ disk_counted {T = Unit {0}} (Err e) n) × (link_faults (end_of_event e) n ≡ n)
event_counted fault.Sink n = (refl, refl, refl)
event_counted fault.Disk n = (refl, refl, refl)
event_counted fault.NoMemory n = (refl, refl, refl)

-- one fault more of the one disk, or of the other, is one of both
first_more : (most disk spare : ℕ) → min (min (disk + 1) most + spare) most ≡ min (min (disk + spare) most + 1) most
first_more most disk spare = omega arith

second_more : (most disk spare : ℕ) → min (disk + min (spare + 1) most) most ≡ min (min (disk + spare) most + 1) most
second_more most disk spare = omega arith

pub both_first : (disk spare : ℕ) → both_faults (one_more disk) spare ≡ one_more (both_faults disk spare)
both_first disk spare = first_more 18446744073709551615 disk spare

pub both_second : (disk spare : ℕ) → both_faults disk (one_more spare) ≡ one_more (both_faults disk spare)
both_second disk spare = second_more 18446744073709551615 disk spare
