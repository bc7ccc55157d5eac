-- What the calls of a writer make of its mirrors.
use Rattle.std.proofs.Common.{◌≡◌, ℕ, ◌+◌, ◌<◌, Bool, true, false, List, [], ◌∷◌, ◌++◌, length, take, drop, set, get_or, cond, nat_lt, Option, Some, None, IfSome, refl, sym, ap, subst, ◌∙◌, arith, inl, inr, ◌⊎◌, ◌≤◌}
use Rattle.std.specs.Prelude.{slice_get, option_map, nat_le, not, ◌&&◌, ◌||◌, ◌==◌, slice_set}
use Rattle.std.specs.List.{list_all, list_any, find, position, position_or_len, prefix_len}
use Rattle.std.proofs.lemmas.List.Folds.{list_all-map}
use Rattle.std.proofs.lemmas.List.{length-map, set-get_or}
use Rattle.std.proofs.lemmas.Option.{slice_get_within, slice_get-get_or, slice_get_past, slice_get_cases, some_pair_parts}
use Rattle.std.proofs.lemmas.Bool.{leb-true, leb-false}
use Rattle.mirror_writer.specs.declared.call.TakenWrite.{TakenWrite}
use Rattle.std.proofs.Math.Seq.{take-append_seam}
use Rattle.cluster_model.specs.declared.ids.MirrorId.{MirrorId}
use Rattle.cluster_model.specs.declared.phase.LeftCause.TheVariants.{Error, Timeouts}
use Rattle.cluster_model.specs.DsCalls.{DsCallValue, DsReplyValue, Created, Set, Written, Committed, Bytes, NotSync, Failed, Write, Commit}
use Rattle.mirror_writer.specs.declared.call.MirrorOutcome.{MirrorOutcome}
use Rattle.mirror_writer.specs.declared.call.MirrorOutcome.TheVariants as outcome
use Rattle.mirror_writer.specs.declared.call.NextCall.{NextCall}
use Rattle.mirror_writer.specs.declared.call.NextCall.TheVariants.{SendsWrite, SendsCommit}
use Rattle.mirror_writer.specs.declared.call.WriterCall.{WriterCall}
use Rattle.mirror_writer.specs.declared.call.WriterCall.TheVariants.{NoCall, OutWrite, OutCommit}
use Rattle.mirror_writer.specs.declared.step.WriterStep.TheVariants as step
use Rattle.mirror_writer.specs.Writers.{WriterMirror, WriterValue, WriterAfter, WriterSends, is_committed, open_committed, next_at, next_idle, next_of_call, next_place, is_some_call, next_sent, sends_at, sends_to, sends_next, sends_as, call_for, write_of_taken, with_out, with_writer_mirrors, with_writer_mirror, mirror_of_call, after_reply, answered_at, mirror_answered, call_answered, is_fenced_by, fails, is_stranger, without_call, after_timeout, timed_out_at, mirror_timed_out, call_timed_out, with_writer_call, after_commit}
use Rattle.mirror_writer.specs.Rooms.{RoomyMirror, mirrors_shown, CanSend}
use Rattle.mirror_writer.specs.MirrorSteps.{MirrorAfter, StepsAt, SetsAt, NextOf, answered_there, late_there, settled_as, failed_there}
use Rattle.mirror_writer.specs.Calls.{SendsNamed, IsNextAt, IsGone, WaitsAt}

-- the whole list was lent
pub lent : (items new : List RoomyMirror) (len : ℕ) → length new ≡ len → take len (new ++ drop (length new) items) ≡ new
lent items new len size = ap (λ (n : ℕ). take n (new ++ drop (length new) items)) (sym size) ∙ take-append_seam new (drop (length new) items)

-- ---- what is asked of the mirrors is asked of what they show

pub all_shown : (test : WriterMirror → Bool) (rs : List RoomyMirror) → list_all (λ r. test r.mirror) rs ≡ list_all test (mirrors_shown rs)
all_shown test rs = sym (list_all-map test (λ r. r.mirror) rs)

pub any_shown : (test : WriterMirror → Bool) (rs : List RoomyMirror) → list_any (λ r. test r.mirror) rs ≡ list_any test (mirrors_shown rs)
any_shown test [] = refl
any_shown test (r ∷ rs) = ap (λ b. test r.mirror || b) (any_shown test rs)

found_by : (b : Bool) (r : RoomyMirror) (rest : Option RoomyMirror) (rest' : Option WriterMirror) → option_map (λ r. r.mirror) rest ≡ rest'
    → option_map (λ r. r.mirror) (cond b (Some r) rest) ≡ cond b (Some r.mirror) rest'
found_by true r rest rest' is = refl
found_by false r rest rest' is = is

pub find_shown : (test : WriterMirror → Bool) (rs : List RoomyMirror) → option_map (λ r. r.mirror) (find (λ r. test r.mirror) rs) ≡ find test (mirrors_shown rs)
find_shown test [] = refl
find_shown test (r ∷ rs) = found_by (test r.mirror) r (find (λ r. test r.mirror) rs) (find test (mirrors_shown rs)) (find_shown test rs)

len_shown : (test : WriterMirror → Bool) (rs : List RoomyMirror) → prefix_len (λ r. test r.mirror) rs ≡ prefix_len test (mirrors_shown rs)
len_shown test [] = refl
len_shown test (r ∷ rs) = ap (λ n. cond (test r.mirror) (1 + n) 0) (len_shown test rs)

pub position_shown : (test : WriterMirror → Bool) (rs : List RoomyMirror) → position (λ r. test r.mirror) rs ≡ position test (mirrors_shown rs)
position_shown test rs =
    ap (λ n. cond (nat_lt n (length rs)) (Some n) None) (len_shown (λ m. not (test m)) rs)
    ∙ ap (λ k. cond (nat_lt (position_or_len test (mirrors_shown rs)) k) (Some (position_or_len test (mirrors_shown rs))) None) (sym (length-map rs (λ (r : RoomyMirror). r.mirror)))

pub shown_within : (rs : List RoomyMirror) (place : ℕ) (m : WriterMirror) → slice_get (mirrors_shown rs) place ≡ Some m → place < length rs
shown_within rs place m found = omega (arith, slice_get_within (mirrors_shown rs) place m found, length-map rs (λ (r : RoomyMirror). r.mirror))

-- ---- the next call

idle_can : (wants : Bool) (m : WriterMirror) (queue : List ℕ) (next : NextCall) → m.queue ≡ queue → next_idle wants m queue ≡ Some next → CanSend next m
idle_can wants m (n ∷ queue) (SendsWrite k) is next = ap-lt m.queue n queue is
  where
    ap-lt : (xs : List ℕ) (n : ℕ) (queue : List ℕ) → xs ≡ n ∷ queue → 0 < length xs
    ap-lt xs n queue is = omega (arith, ap length is)
idle_can wants m queue SendsCommit is next = tt
idle_can wants m [] (SendsWrite k) is next = absurd (by_wish (wants && not (is_committed m)) k next)
  where
    by_wish : (b : Bool) (k : ℕ) → cond b (Some SendsCommit) None ≡ Some (SendsWrite k) → ⊥
    by_wish true k is = absurd cc
    by_wish false k is = absurd cc

call_can : (wants : Bool) (m : WriterMirror) (call : WriterCall) (next : NextCall) → next_of_call wants m call ≡ Some next → CanSend next m
call_can wants m NoCall next is = idle_can wants m m.queue next refl is
call_can wants m (OutWrite xid write timeouts) next is = absurd cc
call_can wants m (OutCommit xid timeouts) next is = absurd cc

pub can_send : (wants : Bool) (m : WriterMirror) (next : NextCall) → next_at wants m ≡ Some next → CanSend next m
can_send wants m next is = by_failure m.has_failed is
  where
    by_failure : (b : Bool) → cond b None (next_of_call wants m m.call) ≡ Some next → CanSend next m
    by_failure true is = absurd cc
    by_failure false is = call_can wants m m.call next is

pub first_can : (s : WriterValue) (place : ℕ) (id : MirrorId) (next : NextCall) → IsNextAt s place id next → IfSome (slice_get s.mirrors place) (CanSend next)
first_can s place id next is = subst (λ (o : Option WriterMirror). IfSome o (CanSend next)) (sym is.found) (can_send s.wants_commit is.mirror next is.next_is)

same_call : (s : WriterValue) (mirrors : List WriterMirror) (id : MirrorId) (next : NextCall) → call_for (with_writer_mirrors s mirrors) id next ≡ call_for s id next
same_call s mirrors id (SendsWrite n) = refl
same_call s mirrors id SendsCommit = refl

pub first_waits : (s : WriterValue) (xid place : ℕ) (id : MirrorId) (next : NextCall) → IsNextAt s place id next → WaitsAt s xid (Some id)
first_waits s xid place id next is =
    let m : WriterMirror = is.mirror in (
      record { writer = with_writer_mirrors s (slice_set s.mirrors place (with_out xid next m)); id = m.id; call = is.call },
      ap (sends_at s xid) is.first
          ∙ ap (sends_to s xid place) is.found
          ∙ ap (sends_next s xid place m) is.next_is
          ∙ ap (sends_as s xid place m next) (ap (λ i. call_for s i next) (sym is.id_is) ∙ is.call_is),
      sym is.id_is,
    )

pub sends_first : (s : WriterValue) (xid place : ℕ) (id : MirrorId) (next : NextCall) (new : List WriterMirror) → IsNextAt s place id next
    → SetsAt s.mirrors place (with_out xid next) new → SendsNamed s xid (Some (id, next)) (with_writer_mirrors s new)
sends_first s xid place id next new is sets =
    let m : WriterMirror = is.mirror in
    let same : sets.mirror ≡ m = cc (sets.found, is.found) in
    let now : new ≡ slice_set s.mirrors place (with_out xid next m) = sets.set ∙ ap (λ k. slice_set s.mirrors place (with_out xid next k)) same in
    let made : List WriterMirror → MirrorId → Option WriterSends = λ l i. Some (record { writer = with_writer_mirrors s l; id = i; call = is.call }) in (
      is.call,
      same_call s new id next ∙ is.call_is,
      ap (sends_at s xid) is.first
          ∙ ap (sends_to s xid place) is.found
          ∙ ap (sends_next s xid place m) is.next_is
          ∙ ap (sends_as s xid place m next) (ap (λ i. call_for s i next) (sym is.id_is) ∙ is.call_is)
          ∙ ap (made (slice_set s.mirrors place (with_out xid next m))) (sym is.id_is)
          ∙ ap (λ l. made l id) (sym now),
    )

pub none_first : (s : WriterValue) (xid : ℕ) → next_place s ≡ None → next_sent s xid ≡ None
none_first s xid is = ap (sends_at s xid) is

pub none_next : (s : WriterValue) (xid place : ℕ) (m : WriterMirror) (next : Option NextCall) → next_place s ≡ Some place → slice_get s.mirrors place ≡ Some m → next_at s.wants_commit m ≡ next
    → next ≡ None → next_sent s xid ≡ None
none_next s xid place m next first found next_is none =
    ap (sends_at s xid) first ∙ ap (sends_to s xid place) found ∙ ap (sends_next s xid place m) (next_is ∙ none)

pub none_call : (s : WriterValue) (xid place : ℕ) (m : WriterMirror) (next : NextCall) → next_place s ≡ Some place → slice_get s.mirrors place ≡ Some m → next_at s.wants_commit m ≡ Some next
    → call_for s m.id next ≡ None → next_sent s xid ≡ None
none_call s xid place m next first found next_is none =
    ap (sends_at s xid) first ∙ ap (sends_to s xid place) found ∙ ap (sends_next s xid place m) next_is ∙ ap (sends_as s xid place m next) none

-- ---- answers and timeouts

refuses : (s : WriterValue) (place : ℕ) (m : WriterMirror) (status : ℕ) (b : Bool)
    → (let a : MirrorAfter = cond b (record { mirror = without_call m; outcome = outcome.Fenced status }) (failed_there m (Error status)) in settled_as (with_writer_mirror s place a.mirror) m.id a.outcome)
    ≡ cond b (is_fenced_by s place m status) (fails s place m (Error status))
refuses s place m status true = refl
refuses s place m status false = refl

abbrev pub settles : WriterValue → ℕ → WriterMirror → MirrorAfter → WriterAfter
settles s place m a = settled_as (with_writer_mirror s place a.mirror) m.id a.outcome

pub answer_settles : (s : WriterValue) (place : ℕ) (m : WriterMirror) (reply : DsReplyValue) (call : WriterCall) → slice_set s.mirrors place m ≡ s.mirrors
    → settles s place m (answered_there m reply call) ≡ call_answered s place m reply call
answer_settles s place m reply NoCall stays = ap (λ l. is_stranger (with_writer_mirrors s l)) stays
answer_settles s place m (Written shown verifier) (OutWrite xid write timeouts) stays = refl
answer_settles s place m (Failed status shown) (OutWrite xid write timeouts) stays = refuses s place m status ((status == 13) || (status == 70))
answer_settles s place m (Created fileid shown) (OutWrite xid write timeouts) stays = refl
answer_settles s place m (Set shown) (OutWrite xid write timeouts) stays = refl
answer_settles s place m (Committed shown verifier) (OutWrite xid write timeouts) stays = refl
answer_settles s place m (Bytes shown eof bytes) (OutWrite xid write timeouts) stays = refl
answer_settles s place m (NotSync shown) (OutWrite xid write timeouts) stays = refl
answer_settles s place m (Committed shown verifier) (OutCommit xid timeouts) stays = refl
answer_settles s place m (Failed status shown) (OutCommit xid timeouts) stays = refuses s place m status ((status == 13) || (status == 70))
answer_settles s place m (Created fileid shown) (OutCommit xid timeouts) stays = refl
answer_settles s place m (Set shown) (OutCommit xid timeouts) stays = refl
answer_settles s place m (Written shown verifier) (OutCommit xid timeouts) stays = refl
answer_settles s place m (Bytes shown eof bytes) (OutCommit xid timeouts) stays = refl
answer_settles s place m (NotSync shown) (OutCommit xid timeouts) stays = refl

lates : (s : WriterValue) (place : ℕ) (m : WriterMirror) (timeouts : ℕ) (again : WriterCall) (b : Bool)
    → settles s place m (cond b (failed_there m Timeouts) (record { mirror = with_writer_call again m; outcome = outcome.Waiting }))
    ≡ cond b (fails s place m Timeouts) (record { writer = with_writer_mirror s place (with_writer_call again m); step = step.Waiting })
lates s place m timeouts again true = refl
lates s place m timeouts again false = refl

pub late_settles : (s : WriterValue) (place : ℕ) (m : WriterMirror) (call : WriterCall) → slice_set s.mirrors place m ≡ s.mirrors → settles s place m (late_there m call) ≡ call_timed_out s place m call
late_settles s place m NoCall stays = ap (λ l. is_stranger (with_writer_mirrors s l)) stays
late_settles s place m (OutWrite xid write timeouts) stays = lates s place m timeouts (OutWrite xid write (timeouts + 1)) (timeouts == 2)
late_settles s place m (OutCommit xid timeouts) stays = lates s place m timeouts (OutCommit xid (timeouts + 1)) (timeouts == 2)

-- the mirror that is there is set there
pub stays_set : (ms : List WriterMirror) (place : ℕ) (m : WriterMirror) → slice_get ms place ≡ Some m → slice_set ms place m ≡ ms
stays_set ms place m found =
    let here : get_or ms place m ≡ m = cc (slice_get-get_or ms place m (slice_get_within ms place m found), found) in
    ap (set ms place) (sym here) ∙ set-get_or ms place m

joined : (s : WriterValue) (place : ℕ) (step' : WriterMirror → MirrorAfter) (id : MirrorId) (out : MirrorOutcome) (new : List WriterMirror) (steps : StepsAt step' s.mirrors place id out new)
    → settled_as (with_writer_mirrors s new) id out ≡ settles s place steps.mirror (step' steps.mirror)
joined s place step' id out new steps =
    let f : List WriterMirror → MirrorId → MirrorOutcome → WriterAfter = λ l i o. settled_as (with_writer_mirrors s l) i o in
    ap (λ l. f l id out) steps.set
    ∙ ap (λ i. f (slice_set s.mirrors place (step' steps.mirror).mirror) i out) steps.id_is
    ∙ ap (f (slice_set s.mirrors place (step' steps.mirror).mirror) steps.mirror.id) steps.outcome_is

pub reply_settles : (s : WriterValue) (xid place : ℕ) (reply : DsReplyValue) (id : MirrorId) (out : MirrorOutcome) (new : List WriterMirror) → mirror_of_call s xid ≡ Some place
    → StepsAt (λ m. answered_there m reply m.call) s.mirrors place id out new → settled_as (with_writer_mirrors s new) id out ≡ after_reply s xid reply
reply_settles s xid place reply id out new is steps =
    joined s place (λ m. answered_there m reply m.call) id out new steps
    ∙ answer_settles s place steps.mirror reply steps.mirror.call (stays_set s.mirrors place steps.mirror steps.found)
    ∙ sym (ap (answered_at s reply) is ∙ ap (mirror_answered s reply place) steps.found)

pub timeout_settles : (s : WriterValue) (xid place : ℕ) (id : MirrorId) (out : MirrorOutcome) (new : List WriterMirror) → mirror_of_call s xid ≡ Some place
    → StepsAt (λ m. late_there m m.call) s.mirrors place id out new → settled_as (with_writer_mirrors s new) id out ≡ after_timeout s xid
timeout_settles s xid place id out new is steps =
    joined s place (λ m. late_there m m.call) id out new steps
    ∙ late_settles s place steps.mirror steps.mirror.call (stays_set s.mirrors place steps.mirror steps.found)
    ∙ sym (ap (timed_out_at s) is ∙ ap (mirror_timed_out s place) steps.found)

-- whether each mirror that has not failed is committed
abbrev pub finished : WriterValue → WriterAfter
finished s = record { writer = record { cred = s.cred; taken = s.taken; mirrors = s.mirrors; wants_commit = false; is_fenced = s.is_fenced }; step = step.Committed }

abbrev pub waiting : WriterValue → WriterAfter
waiting s = record { writer = s; step = step.Waiting }

pub committed_now : (s : WriterValue) → open_committed s.mirrors ≡ true → finished s ≡ after_commit s
committed_now s is = ap (λ b. cond b (finished s) (waiting s)) (sym is)

pub waits_still : (s : WriterValue) → open_committed s.mirrors ≡ false → waiting s ≡ after_commit s
waits_still s is = ap (λ b. cond b (finished s) (waiting s)) (sym is)

-- ---- which call waits

taken_call : (s : WriterValue) (n : ℕ) (id : MirrorId) → n < length s.taken → ((x : TakenWrite) × (n < length s.taken) × (slice_get s.taken n ≡ Some x) × (get_or s.taken n x ≡ x)) ⊎ ((length s.taken ≤ n) × (slice_get s.taken n ≡ None))
    → (call : DsCallValue) × (write_of_taken id (slice_get s.taken n) ≡ Some call)
taken_call s n id below (inl (x, within, found, same)) = (Write id.fileid x.at false x.bytes, ap (write_of_taken id) found)
taken_call s n id below (inr (past, none)) = absurd (omega (arith, past, below))

gone_by : (s : WriterValue) (n len : ℕ) → len ≡ length s.taken → (b : Bool) → nat_le len n ≡ b → IsGone s (SendsWrite n) b
gone_by s n len size true past = λ id. ap (write_of_taken id) (slice_get_past s.taken n (omega (arith, size, leb-true len n past)))
gone_by s n len size false within = λ id. taken_call s n id (omega (arith, size, leb-false len n within)) (slice_get_cases s.taken n).1

-- a taken write has its WRITE
pub gone_write : (s : WriterValue) (n len : ℕ) (next : NextCall) → next ≡ SendsWrite n → len ≡ length s.taken → IsGone s next (nat_le len n)
gone_write s n len next is size = subst (λ (k : NextCall). IsGone s k (nat_le len n)) (sym is) (gone_by s n len size (nat_le len n) refl)

pub gone_commit : (s : WriterValue) (next : NextCall) → next ≡ SendsCommit → IsGone s next false
gone_commit s next is = subst (λ (k : NextCall). IsGone s k false) (sym is) (λ id. (Commit id.fileid, refl))

pub first_place : (s : WriterValue) (place : Option ℕ) → s.is_fenced ≡ false → position (λ m. is_some_call (next_at s.wants_commit m)) s.mirrors ≡ place → next_place s ≡ place
first_place s place free found = ap (λ b. cond b None (position (λ m. is_some_call (next_at s.wants_commit m)) s.mirrors)) free ∙ found

pub none_fenced : (s : WriterValue) (xid : ℕ) → s.is_fenced ≡ true → next_sent s xid ≡ None
none_fenced s xid is = none_first s xid (ap (λ b. cond b None (position (λ m. is_some_call (next_at s.wants_commit m)) s.mirrors)) is)

-- what the mirror at the place says
pub data SaysNext (s : WriterValue) (place : ℕ) (result : Option (MirrorId × NextCall)) : Type 0 where
  SaysNone : (m : WriterMirror) → slice_get s.mirrors place ≡ Some m → next_at s.wants_commit m ≡ None → result ≡ None → SaysNext s place result
  SaysSome : (m : WriterMirror) (id : MirrorId) (next : NextCall) → slice_get s.mirrors place ≡ Some m → next_at s.wants_commit m ≡ Some next → id ≡ m.id → result ≡ Some (id, next) → SaysNext s place result

says_by : (s : WriterValue) (place : ℕ) (o : Option WriterMirror) (result r : Option (MirrorId × NextCall)) → slice_get s.mirrors place ≡ o → result ≡ r → NextOf s.wants_commit o r → SaysNext s place result
says_by s place None result r at is says = absurd says
says_by s place (Some m) result None at is says = SaysNone m at says is
says_by s place (Some m) result (Some (id, next)) at is says = SaysSome m id next at says.0 says.1 is

says_next : (s : WriterValue) (place : ℕ) (result : Option (MirrorId × NextCall)) → NextOf s.wants_commit (slice_get s.mirrors place) result → SaysNext s place result
says_next s place result says = says_by s place (slice_get s.mirrors place) result result refl refl says

next_of_none : (s : WriterValue) (xid place : ℕ) (result : Option (MirrorId × NextCall)) → next_place s ≡ Some place → result ≡ None → SaysNext s place result → next_sent s xid ≡ None
next_of_none s xid place result first none (SaysNone m at next is) = none_next s xid place m None first at next refl
next_of_none s xid place result first none (SaysSome m id next at is named gives) = absurd cc

pub to_send_none : (s : WriterValue) (xid place : ℕ) (result : Option (MirrorId × NextCall)) → next_place s ≡ Some place → result ≡ None → NextOf s.wants_commit (slice_get s.mirrors place) result → next_sent s xid ≡ None
to_send_none s xid place result first none says = next_of_none s xid place result first none (says_next s place result says)

next_of_gone : (s : WriterValue) (xid place : ℕ) (result : Option (MirrorId × NextCall)) (id : MirrorId) (next : NextCall) → next_place s ≡ Some place → result ≡ Some (id, next) → IsGone s next true
    → SaysNext s place result → next_sent s xid ≡ None
next_of_gone s xid place result id next first some gone (SaysNone m at is none) = absurd (cc (some, none))
next_of_gone s xid place result id next first some gone (SaysSome m id' next' at is named gives) =
    let same : (id' ≡ id) × (next' ≡ next) = some_pair_parts id' id next' next (sym gives ∙ some) in
    none_call s xid place m next first at (is ∙ ap (λ k. Some k) same.1) (gone m.id)

pub to_send_gone : (s : WriterValue) (xid place : ℕ) (result : Option (MirrorId × NextCall)) (id : MirrorId) (next : NextCall) → next_place s ≡ Some place → result ≡ Some (id, next) → IsGone s next true
    → NextOf s.wants_commit (slice_get s.mirrors place) result → next_sent s xid ≡ None
to_send_gone s xid place result id next first some gone says = next_of_gone s xid place result id next first some gone (says_next s place result says)

next_of_some : (s : WriterValue) (place : ℕ) (result : Option (MirrorId × NextCall)) (id : MirrorId) (next : NextCall) → next_place s ≡ Some place → result ≡ Some (id, next) → IsGone s next false
    → SaysNext s place result → IsNextAt s place id next
next_of_some s place result id next first some there (SaysNone m at is none) = absurd (cc (some, none))
next_of_some s place result id next first some there (SaysSome m id' next' at is named gives) =
    let same : (id' ≡ id) × (next' ≡ next) = some_pair_parts id' id next' next (sym gives ∙ some) in
    record {
      mirror = m;
      first = first;
      found = at;
      next_is = is ∙ ap (λ k. Some k) same.1;
      id_is = sym same.0 ∙ named;
      call = (there id).0;
      call_is = (there id).1;
    }

pub to_send_some : (s : WriterValue) (place : ℕ) (result : Option (MirrorId × NextCall)) (id : MirrorId) (next : NextCall) → next_place s ≡ Some place → result ≡ Some (id, next) → IsGone s next false
    → NextOf s.wants_commit (slice_get s.mirrors place) result → IsNextAt s place id next
to_send_some s place result id next first some there says = next_of_some s place result id next first some there (says_next s place result says)
