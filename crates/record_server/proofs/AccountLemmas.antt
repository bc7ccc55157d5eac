-- One connection and its account.
use Rattle.std.proofs.Common.{◌≡◌, ◌≢◌, ℕ, Bool, true, false, List, [], ◌∷◌, ◌++◌, take, drop, refl, sym, ap, subst, ◌∙◌, Option, Some, None, Result, Ok, Err, append_assoc}
use Rattle.std.proofs.lemmas.List.{flat_map_more}
use Rattle.rpc_record.specs.declared.frames.RecordFault.{RecordFault}
use Rattle.rpc_record.specs.declared.frames.RecordFault.TheVariants as fault
use Rattle.rpc_record.specs.Frames.{Front, front_of, record_bytes, HasGiven}
use Rattle.rpc_record.specs.FramesView.{resume}
use Rattle.rpc_record.proofs.FrameSteps.{resume_of}
use Rattle.rpc_record.proofs.FrameCalls.{given_more}
use Rattle.record_link.specs.declared.stream.Halt.{Halt}
use Rattle.record_link.specs.declared.stream.Halt.TheVariants as halt
use Rattle.record_link.specs.Stream.{Comes, gone_more}
use Rattle.record_link.specs.Connection.{ConnectionState, HasCome, is_refused, Advances}
use Rattle.record_link.specs.Peers.{PeerState, new_peer, resumed, excused_peer, is_to_write, is_to_read, after_drain, ReadsAhead, FillsPeer, HandsPeer, PutsPeer, DrainsPeer, WritesIf, ReadsIf, VisitsPeer}
use Rattle.record_link.proofs.ConnectionLemmas.{not_refused, read_on, handed_on}
use Rattle.record_link.proofs.OutgoingLemmas.{gone_nil, gone_gone}
use Rattle.record_server.specs.History.{Account, new_account, with_message, with_sent, StandsAs}

-- the front is that of some bytes
abbrev pub HasFront : ConnectionState → Type 0
HasFront s = (fed : List ℕ) × (s.front ≡ front_of fed)

abbrev pub Good : Account → PeerState → Type 0
Good a e = StandsAs a e × HasFront e.connection

-- the records handed out of what came, where it is not refused
abbrev pub Came : List ℕ → List (List ℕ) → ConnectionState → Type 0
Came came messages s = is_refused s.front ≡ false → HasCome came messages s

pub comes_none : (a : Option (List ℕ)) → Comes a [] a
comes_none None = refl
comes_none (Some bytes) = (bytes, refl, refl)

pub comes_more : (a b c : Option (List ℕ)) (p q : List ℕ) → Comes a p b → Comes b q c → Comes a (p ++ q) c
comes_more None b c p q first next = subst (λ x. Comes x q c) first next
comes_more (Some bytes) b c p q first next =
    let more : Comes (Some first.0) q c = subst (λ x. Comes x q c) first.2 next in
    (more.0, first.1 ∙ ap (λ l. p ++ l) more.1 ∙ sym (append_assoc p q more.0), more.2)

-- what is read and what is ahead stay
came_kept : (came : List ℕ) (messages : List (List ℕ)) (s s' : ConnectionState) → s'.front ≡ s.front → s'.ahead ≡ s.ahead → Came came messages s → Came came messages s'
came_kept came messages s s' front ahead come not =
    let was = come (ap is_refused (sym front) ∙ not) in record {
      read = was.read;
      all = ap (λ l. was.read ++ l) ahead ∙ was.all;
      given = subst (λ (f : Front). HasGiven was.read messages f) (sym front) was.given;
    }

-- more came
came_more : (came piece : List ℕ) (messages : List (List ℕ)) (s s' : ConnectionState) → s'.front ≡ s.front → s'.ahead ≡ s.ahead ++ piece → Came came messages s → Came (came ++ piece) messages s'
came_more came piece messages s s' front ahead come not =
    let was = come (ap is_refused (sym front) ∙ not) in record {
      read = was.read;
      all = ap (λ l. was.read ++ l) ahead ∙ sym (append_assoc was.read s.ahead piece) ∙ ap (λ l. l ++ piece) was.all;
      given = subst (λ (f : Front). HasGiven was.read messages f) (sym front) was.given;
    }

record Settled (came : List ℕ) (messages : List (List ℕ)) (mid new : ConnectionState) : Type 0 where
  come : Came came messages new
  front : HasFront new
  to_go : new.to_go ≡ mid.to_go

-- what was ahead was read
settled_by : (came : List ℕ) (messages : List (List ℕ)) (mid new : ConnectionState) (fed : List ℕ) (is : mid.front ≡ front_of fed) (r : Result (Unit {0}) RecordFault) → r ≢ Err fault.NoMemory → Advances fed mid r new
    → Came came messages mid → Settled came messages mid new
settled_by came messages mid new fed is (Ok x) some adv come =
    let n = adv.0 in
    let takes = adv.1 in
    let front : new.front ≡ resume mid.front (take n mid.ahead) = takes.now ∙ resume_of fed (take n mid.ahead) ∙ ap (λ (f : Front). resume f (take n mid.ahead)) (sym is) in
    let was = come (not_refused fed mid.ahead (drop n mid.ahead) mid.front is takes.stops) in record {
      come = λ not. read_on came messages mid new mid.ahead n refl (ap (λ s. s.ahead) adv.2) (λ stream given. given_more stream messages mid.front (take n mid.ahead) new.front given front) was;
      front = (fed ++ take n mid.ahead, takes.now);
      to_go = ap (λ s. s.to_go) adv.2;
    }
settled_by came messages mid new fed is (Err fault.TooLong) some adv come = record {
  come = λ not. let yes = ap (λ s. is_refused s.front) adv.1 in absurd (cc (not, yes));
  front = (fed ++ mid.ahead, ap (λ s. s.front) adv.1 ∙ sym adv.0);
  to_go = ap (λ s. s.to_go) adv.1;
}
settled_by came messages mid new fed is (Err fault.TooManyFragments) some adv come = record {
  come = λ not. let yes = ap (λ s. is_refused s.front) adv.1 in absurd (cc (not, yes));
  front = (fed ++ mid.ahead, ap (λ s. s.front) adv.1 ∙ sym adv.0);
  to_go = ap (λ s. s.to_go) adv.1;
}
settled_by came messages mid new fed is (Err fault.NoMemory) some adv come = absurd (some refl)

settled : (came : List ℕ) (messages : List (List ℕ)) (mid new : ConnectionState) → ReadsAhead mid new → HasFront mid → Came came messages mid → Settled came messages mid new
settled came messages mid new settles front come = settled_by came messages mid new front.0 front.1 settles.0 settles.1 (settles.2 front.0 front.1) come

-- only its times have changed, and whether the peer has ended
kept : (a : Account) (old new : PeerState) → new.connection.front ≡ old.connection.front → new.connection.ahead ≡ old.connection.ahead → new.connection.to_go ≡ old.connection.to_go → new.coming ≡ old.coming → new.gone ≡ old.gone
    → Good a old → Good a new
kept a old new front ahead to_go coming gone good =
    let stands = good.0 in (
      record {
        came = stands.came;
        of_stream = subst (λ c. Comes a.to_come stands.came c) (sym coming) stands.of_stream;
        handed = came_kept stands.came a.messages old.connection new.connection front ahead stands.handed;
        left = stands.left;
        to_stream = gone ∙ stands.to_stream;
        put = ap (λ l. stands.left ++ l) to_go ∙ stands.put;
      },
      (good.1.0, front ∙ good.1.1),
    )

pub filled_good : (a : Account) (now : ℕ) (old new : PeerState) (r : Result (Unit {0}) Halt) → r ≢ Err halt.NoMemory → FillsPeer now old r new → Good a old → Good a new
filled_good a now old new (Ok x) some fills good =
    let stands = good.0 in
    let mid = fills.1 in
    let fill = fills.2 in
    let come = came_more stands.came fill.0 a.messages old.connection mid (ap (λ s. s.front) fill.2) (ap (λ s. s.ahead) fill.2) stands.handed in
    let after = settled (stands.came ++ fill.0) a.messages mid new.connection fills.3 (good.1.0, ap (λ s. s.front) fill.2 ∙ good.1.1) come in (
      record {
        came = stands.came ++ fill.0;
        of_stream = comes_more a.to_come old.coming new.coming stands.came fill.0 stands.of_stream fill.3;
        handed = after.come;
        left = stands.left;
        to_stream = ap (λ e. e.gone) fills.4 ∙ stands.to_stream;
        put = ap (λ l. stands.left ++ l) (after.to_go ∙ ap (λ s. s.to_go) fill.2) ∙ stands.put;
      },
      after.front,
    )
filled_good a now old new (Err halt.Ended) some fills good =
    let ended = fills.0 in
    kept a old new (ap (λ s. s.front) ended.0) (ap (λ s. s.ahead) ended.0) (ap (λ s. s.to_go) ended.0) ended.2 (ap (λ e. e.gone) fills.1) good
filled_good a now old new (Err halt.WouldBlock) some fills good =
    kept a old new (ap (λ e. e.connection.front) fills) (ap (λ e. e.connection.ahead) fills) (ap (λ e. e.connection.to_go) fills) (ap (λ e. e.coming) fills) (ap (λ e. e.gone) fills) good
filled_good a now old new (Err halt.Lost) some fills good =
    kept a old new (ap (λ e. e.connection.front) fills) (ap (λ e. e.connection.ahead) fills) (ap (λ e. e.connection.to_go) fills) (ap (λ e. e.coming) fills) (ap (λ e. e.gone) fills) good
filled_good a now old new (Err halt.NoMemory) some fills good = absurd (some refl)

filled_number : (now : ℕ) (old new : PeerState) (r : Result (Unit {0}) Halt) → FillsPeer now old r new → new.number ≡ old.number
filled_number now old new (Ok x) fills = ap (λ e. e.number) fills.4
filled_number now old new (Err halt.Ended) fills = ap (λ e. e.number) fills.1
filled_number now old new (Err halt.WouldBlock) fills = ap (λ e. e.number) fills
filled_number now old new (Err halt.Lost) fills = ap (λ e. e.number) fills
filled_number now old new (Err halt.NoMemory) fills = fills.2

drain_coming : (now : ℕ) (e : PeerState) (r : Result (Unit {0}) Halt) (c : ConnectionState) → (after_drain now e r c).coming ≡ e.coming
drain_coming now e (Ok x) c = refl
drain_coming now e (Err halt.WouldBlock) c = refl
drain_coming now e (Err halt.Ended) c = refl
drain_coming now e (Err halt.Lost) c = refl
drain_coming now e (Err halt.NoMemory) c = refl

drain_number : (now : ℕ) (e : PeerState) (r : Result (Unit {0}) Halt) (c : ConnectionState) → (after_drain now e r c).number ≡ e.number
drain_number now e (Ok x) c = refl
drain_number now e (Err halt.WouldBlock) c = refl
drain_number now e (Err halt.Ended) c = refl
drain_number now e (Err halt.Lost) c = refl
drain_number now e (Err halt.NoMemory) c = refl

drained_good : (a : Account) (now : ℕ) (old new : PeerState) → DrainsPeer now old new → Good a old → Good a new
drained_good a now old new drains good =
    let stands = good.0 in
    let rest = drains.drains.rest in
    let writes = drains.drains.writes in
    let coming : new.coming ≡ old.coming = ap (λ e. e.coming) drains.rest ∙ drain_coming now old drains.result new.connection in (
      record {
        came = stands.came;
        of_stream = subst (λ c. Comes a.to_come stands.came c) (sym coming) stands.of_stream;
        handed = came_kept stands.came a.messages old.connection new.connection (ap (λ s. s.front) rest) (ap (λ s. s.ahead) rest) stands.handed;
        left = stands.left ++ writes.went;
        to_stream = writes.told ∙ ap (λ g. gone_more g writes.went) stands.to_stream ∙ gone_gone a.went stands.left writes.went;
        put = append_assoc stands.left writes.went new.connection.to_go ∙ ap (λ l. stands.left ++ l) (sym writes.stands) ∙ stands.put;
      },
      (good.1.0, ap (λ s. s.front) rest ∙ good.1.1),
    )

-- ---- a visit

-- what is kept of one connection
pub record Goes (a : Account) (old new : PeerState) : Type 0 where
  pub number : new.number ≡ old.number
  pub good : Good a old → Good a new

pub writes_go : (a : Account) (test : Bool) (now : ℕ) (old new : PeerState) → WritesIf test now old new → Goes a old new
writes_go a false now old new same = record { number = ap (λ e. e.number) same; good = λ good. subst (λ (e : PeerState). Good a e) (sym same) good }
writes_go a true now old new drains = record {
  number = ap (λ e. e.number) drains.rest ∙ drain_number now old drains.result new.connection;
  good = λ good. drained_good a now old new drains good;
}

reads_go : (a : Account) (test : Bool) (now : ℕ) (old new : PeerState) (came : Bool) → ReadsIf test now old (Ok came) new → Goes a old new
reads_go a false now old new came same = record { number = ap (λ e. e.number) same.1; good = λ good. subst (λ (e : PeerState). Good a e) (sym same.1) good }
reads_go a true now old new true fills = record {
  number = filled_number now old new (Ok tt) fills;
  good = λ good. filled_good a now old new (Ok tt) (λ e. cc (e)) fills good;
}
reads_go a true now old new false fills = record {
  number = filled_number now old new (Err fills.0) fills.2;
  good = λ good. filled_good a now old new (Err fills.0) (λ e. fills.1 (cc (e))) fills.2 good;
}

pub visit_goes : (a : Account) (now : ℕ) (old new : PeerState) (came : Bool) → VisitsPeer now old (Ok came) new → Goes a old new
visit_goes a now old new came visits =
    let mid = visits.0 in
    let wrote = writes_go a (is_to_write now old) now old mid visits.1 in
    let read = reads_go a (is_to_read mid) now mid new came visits.2 in record {
      number = read.number ∙ wrote.number;
      good = λ good. read.good (wrote.good good);
    }

-- ---- the calls

pub resumed_good : (a : Account) (e : PeerState) → Good a e → Good a (resumed e)
resumed_good a e good = kept a e (resumed e) refl refl refl refl refl good

pub excused_good : (a : Account) (e : PeerState) → Good a e → Good a (excused_peer e)
excused_good a e good = kept a e (excused_peer e) refl refl refl refl refl good

pub put_good : (a : Account) (message : List ℕ) (old new : PeerState) → PutsPeer old message (Ok tt) new → Good a old → Good (with_sent a message) new
put_good a message old new puts good =
    let stands = good.0 in
    let does = puts.0 in (
      record {
        came = stands.came;
        of_stream = subst (λ c. Comes a.to_come stands.came c) (sym (ap (λ e. e.coming) puts.1)) stands.of_stream;
        handed = came_kept stands.came a.messages old.connection new.connection (ap (λ s. s.front) does) (ap (λ s. s.ahead) does) stands.handed;
        left = stands.left;
        to_stream = ap (λ e. e.gone) puts.1 ∙ stands.to_stream;
        put = ap (λ s. stands.left ++ s.to_go) does ∙ sym (append_assoc stands.left old.connection.to_go (record_bytes message)) ∙ ap (λ l. l ++ record_bytes message) stands.put
            ∙ flat_map_more record_bytes [] a.sent message;
      },
      (good.1.0, ap (λ s. s.front) does ∙ good.1.1),
    )

pub handed_good : (a : Account) (message : List ℕ) (old new : PeerState) → HandsPeer old (Ok (Some message)) new → Good a old → Good (with_message a message) new
handed_good a message old new hands good =
    let stands = good.0 in
    let mid = hands.0 in
    let hand = hands.1 in
    let whole = hand.0 in
    let was = stands.handed (ap is_refused whole) in
    let front = ap (λ s. s.front) hand.1 in
    let come = handed_on stands.came a.messages old.connection mid message whole front (ap (λ s. s.ahead) hand.1) was in
    let after = settled stands.came (a.messages ++ message ∷ []) mid new.connection hands.2 ([], front) (λ not. come) in (
      record {
        came = stands.came;
        of_stream = subst (λ c. Comes a.to_come stands.came c) (sym (ap (λ e. e.coming) hands.3)) stands.of_stream;
        handed = after.come;
        left = stands.left;
        to_stream = ap (λ e. e.gone) hands.3 ∙ stands.to_stream;
        put = ap (λ l. stands.left ++ l) (after.to_go ∙ ap (λ s. s.to_go) hand.1) ∙ stands.put;
      },
      after.front,
    )

pub new_good : (number now : ℕ) (coming gone : Option (List ℕ)) (faults : ℕ) → Good (new_account coming gone) (new_peer number now coming gone faults)
new_good number now coming gone faults = (
  record {
    came = [];
    of_stream = comes_none coming;
    handed = λ not. record { read = []; all = refl; given = refl };
    left = [];
    to_stream = gone_nil gone;
    put = refl;
  },
  ([], refl),
)
