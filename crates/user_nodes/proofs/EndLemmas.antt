-- What clients answered in a put or a get that ended well.
use Rattle.std.proofs.Common.{◌≡◌, ℕ, zero, suc, Bool, true, false, ◌||◌, ◌&&◌, List, [], ◌∷◌, ◌++◌, Option, Some, None, Result, Ok, refl, sym, ap, subst, ◌∙◌, arith, append_assoc, append-nil}
use Rattle.std.proofs.lemmas.Bool.{false≢true}
use Rattle.std.specs.List.{Contains, list_any}
use Rattle.cluster_model.specs.declared.ids.FileId.{FileId}
use Rattle.cluster_model.specs.declared.answer.UserAnswer.{UserAnswer}
use Rattle.cluster_model.specs.declared.answer.UserAnswer.TheVariants.{Opened, Written, Committed, Bytes, Returned, Failed}
use Rattle.cluster_model.specs.declared.answer.FailCause.{FailCause}
use Rattle.client_state.specs.ClientSends.{ClientStep}
use Rattle.ff_node.specs.declared.end.NodeEnd.TheVariants as ends
use Rattle.ff_node.specs.Nodes.{NodeEvent, HasNotEndedBefore, state_after, text_over}
use Rattle.ff_node.specs.Serve.{Beside, NodeServes}
use Rattle.user_nodes.specs.declared.put.Progress.{Progress}
use Rattle.user_nodes.specs.Users.{client_does, says_opened, says_committed, says_returned, first_failure, first_of_two, done_or_failed}
use Rattle.user_nodes.specs.Puts.{PutValue, no_progress, put_from, put_outcome, put_rule, with_answers}
use Rattle.user_nodes.specs.Gets.{GetValue, answer_bytes, answered_bytes, first_outcome, get_from, get_outcome, get_rule, says_end}
use Rattle.user_nodes.specs.Copies.{IsGot, IsPut, NeverFailed, all_put_answers, answers_over, put_answers}
use Rattle.user_nodes.proofs.AnswerLemmas.{with_more}
use Rattle.user_nodes.proofs.RunLemmas.{done_by_itself}

-- ---- answers that are joined

bytes_of_more : (answers more : List UserAnswer) → answered_bytes (answers ++ more) ≡ answered_bytes answers ++ answered_bytes more
bytes_of_more [] more = refl
bytes_of_more (a ∷ answers) more = ap (λ (l : List ℕ). answer_bytes a ++ l) (bytes_of_more answers more) ∙ sym (append_assoc (answer_bytes a) (answered_bytes answers) (answered_bytes more))

or_false : (b : Bool) → (b || false) ≡ b
or_false true = refl
or_false false = refl

or_none : (o : Option FailCause) → first_of_two o None ≡ o
or_none (Some cause) = refl
or_none None = refl

with_none : (p : Progress) → with_answers p [] ≡ p
with_none p = λ i. record { opened = or_false p.opened i; committed = or_false p.committed i; returned = or_false p.returned i; failed = or_none p.failed i }

with_append : (p : Progress) (answers more : List UserAnswer) → with_answers (with_answers p answers) more ≡ with_answers p (answers ++ more)
with_append p [] more = ap (λ q. with_answers q more) (with_none p)
with_append p (a ∷ answers) more =
    ap (λ q. with_answers q more) (sym (with_more p a answers)) ∙ with_append (with_answers p (a ∷ [])) answers more ∙ with_more p a (answers ++ more)

-- ---- what a get writes

pub get_reads : (g : GetValue) (events : List NodeEvent) → text_over get_rule g events ≡ answered_bytes (answers_over g events)
get_reads g [] = refl
get_reads g (e ∷ events) =
    let answers = (client_does g.last e g.client).client.answers in
    let next = (get_rule.step g e).state in
    ap (λ (l : List ℕ). answered_bytes answers ++ l) (get_reads next events) ∙ sym (bytes_of_more answers (answers_over next events))

-- ---- what answers say

contains_later : {X : Type 0} (x : X) (xs : List X) (y : X) → Contains xs y → Contains (x ∷ xs) y
contains_later x xs y (k, below, is) = (suc k, omega (arith, below), is)

contains_first : {X : Type 0} (x : X) (xs : List X) → Contains (x ∷ xs) x
contains_first x xs = (zero, omega arith, refl)

-- one passes the test
abbrev HasOne : (UserAnswer → Bool) → List UserAnswer → Type 0
HasOne test answers = (a : UserAnswer) × (test a ≡ true) × Contains answers a

one_of : (test : UserAnswer → Bool) (a : UserAnswer) (answers : List UserAnswer) (passes : Bool) → test a ≡ passes → (passes || list_any test answers) ≡ true → (list_any test answers ≡ true → HasOne test answers) → HasOne test (a ∷ answers)
one_of test a answers true is some later = (a, is, contains_first a answers)
one_of test a answers false is some later = let other = later some in (other.0, other.1, contains_later a answers other.0 other.2)

has_one : (test : UserAnswer → Bool) (answers : List UserAnswer) → list_any test answers ≡ true → HasOne test answers
has_one test [] some = absurd (false≢true some)
has_one test (a ∷ answers) some = one_of test a answers (test a) refl some (has_one test answers)

is_an_opening : (answers : List UserAnswer) (a : UserAnswer) → says_opened a ≡ true → Contains answers a → (file : FileId) × Contains answers (Opened file)
is_an_opening answers (Opened file) is at = (file, at)
is_an_opening answers a is at = absurd (false≢true is)

is_a_commit : (answers : List UserAnswer) (a : UserAnswer) → says_committed a ≡ true → Contains answers a → (writes : ℕ) × Contains answers (Committed writes)
is_a_commit answers (Committed writes) is at = (writes, at)
is_a_commit answers a is at = absurd (false≢true is)

is_a_return : (answers : List UserAnswer) (a : UserAnswer) → says_returned a ≡ true → Contains answers a → Contains answers Returned
is_a_return answers Returned is at = at
is_a_return answers a is at = absurd (false≢true is)

is_an_end : (answers : List UserAnswer) (a : UserAnswer) → says_end a ≡ true → Contains answers a → (bytes : List ℕ) × Contains answers (Bytes true bytes)
is_an_end answers (Bytes true bytes) is at = (bytes, at)
is_an_end answers a is at = absurd (false≢true is)

-- none says that a request was not done
none_failed_later : (a : UserAnswer) (answers : List UserAnswer) → first_failure (a ∷ answers) ≡ None → first_failure answers ≡ None
none_failed_later (Failed cause) answers none = absurd (cc)
none_failed_later (Opened file) answers none = none
none_failed_later Written answers none = none
none_failed_later (Committed writes) answers none = none
none_failed_later (Bytes eof bytes) answers none = none
none_failed_later Returned answers none = none

never_failed : (answers : List UserAnswer) → first_failure answers ≡ None → NeverFailed answers
never_failed [] none cause (k, below, is) = absurd (omega (arith, below))
never_failed (a ∷ answers) none cause (zero, below, is) = let failed : first_failure (Failed cause ∷ answers) ≡ None = subst (λ (x : UserAnswer). first_failure (x ∷ answers) ≡ None) is none in absurd (cc (failed))
never_failed (a ∷ answers) none cause (suc k, below, is) = never_failed answers (none_failed_later a answers none) cause (k, omega (arith, below), is)

-- ---- outcomes

done_by : (failure : Option FailCause) (done : Bool) (x : Unit {0}) → done_or_failed failure done ≡ Some (Ok x) → (failure ≡ None) × (done ≡ true)
done_by (Some cause) done x is = absurd (cc)
done_by None true x is = (refl, refl)
done_by None false x is = absurd (cc)

not_yet : (failure : Option FailCause) (done : Bool) → done_or_failed failure done ≡ None → failure ≡ None
not_yet (Some cause) done is = absurd (cc)
not_yet None done is = refl

both : (a b : Bool) → (a && b) ≡ true → (a ≡ true) × (b ≡ true)
both true b is = (refl, is)
both false b is = absurd (false≢true is)

-- ---- a put

put_counts : (p : PutValue) (events : List NodeEvent) → (state_after put_rule p events).progress ≡ with_answers p.progress (put_answers p events)
put_counts p [] = sym (with_none p.progress)
put_counts p (e ∷ events) =
    let next = (put_rule.step p e).state in
    put_counts next events ∙ with_append p.progress (client_does p.last e p.client).client.answers (put_answers next events)

is_put : (answers : List UserAnswer) (x : Unit {0}) → put_outcome (with_answers no_progress answers) ≡ Some (Ok x) → IsPut answers
is_put answers x done =
    let by = done_by (first_failure answers) ((list_any says_opened answers && list_any says_committed answers) && list_any says_returned answers) x done in
    let two = both (list_any says_opened answers && list_any says_committed answers) (list_any says_returned answers) by.1 in
    let one = both (list_any says_opened answers) (list_any says_committed answers) two.0 in
    let opening = has_one says_opened answers one.0 in
    let commit = has_one says_committed answers one.1 in
    let return = has_one says_returned answers two.1 in
    record {
      never_failed = never_failed answers by.0;
      opened = is_an_opening answers opening.0 opening.1 opening.2;
      committed = is_a_commit answers commit.0 commit.1 commit.2;
      returned = is_a_return answers return.0 return.1 return.2;
    }

pub put_done : (s : ClientStep) (turns : ℕ) (b : Beside) (last : PutValue) (b' : Beside) (serves : NodeServes put_rule (put_from s) turns b ends.Done last b') → IsPut (all_put_answers s serves.served.taken)
put_done s turns b last b' serves =
    let begun = put_from s in
    let events = serves.served.taken in
    let by_itself = done_by_itself put_rule refl serves.left serves.mid serves.beside_mid last b' serves.stops in
    let counts : serves.mid.progress ≡ with_answers no_progress (all_put_answers s events) =
    ap (λ (p : PutValue). p.progress) serves.served.state ∙ put_counts begun events ∙ with_append no_progress s.client.answers (put_answers begun events) in
    is_put (all_put_answers s events) by_itself.0.0 (ap put_outcome (sym counts) ∙ by_itself.0.1)

-- ---- a get

-- what answers join to
failure_behind : (a : UserAnswer) (answers more : List UserAnswer) → first_failure (a ∷ answers) ≡ None → first_failure (a ∷ more) ≡ first_failure more
failure_behind (Failed cause) answers more none = absurd (cc)
failure_behind (Opened file) answers more none = refl
failure_behind Written answers more none = refl
failure_behind (Committed writes) answers more none = refl
failure_behind (Bytes eof bytes) answers more none = refl
failure_behind Returned answers more none = refl

none_failed_join : (answers more : List UserAnswer) → first_failure answers ≡ None → first_failure (answers ++ more) ≡ first_failure more
none_failed_join [] more none = refl
none_failed_join (a ∷ answers) more none = failure_behind a answers (answers ++ more) none ∙ none_failed_join answers more (none_failed_later a answers none)

or_true : (b : Bool) → (b || true) ≡ true
or_true true = refl
or_true false = refl

any_join : (test : UserAnswer → Bool) (answers more : List UserAnswer) → list_any test more ≡ true → list_any test (answers ++ more) ≡ true
any_join test [] more some = some
any_join test (a ∷ answers) more some = ap (λ b. test a || b) (any_join test answers more some) ∙ or_true (test a)

-- no request failed, and the end was read
abbrev Ends : List UserAnswer → Type 0
Ends answers = (first_failure answers ≡ None) × (list_any says_end answers ≡ true)

-- it came to an end in a step, which is the last
ends_in : (answers : List UserAnswer) (next : GetValue) (events : List NodeEvent) (r : Result (Unit {0}) FailCause) (x : Unit {0}) → get_outcome answers ≡ Some r → next.outcome ≡ Some r → HasNotEndedBefore get_rule next events
    → (state_after get_rule next events).outcome ≡ Some (Ok x) → Ends (answers ++ answers_over next events)
ends_in answers next [] r x came is going done =
    subst (λ l. Ends l) (sym (append-nil answers)) (done_by (first_failure answers) (list_any says_end answers) x (came ∙ sym is ∙ done))
ends_in answers next (e ∷ events) r x came is going done = absurd (cc (is, going.0))

-- it did not, and goes on
ends_later : (answers more : List UserAnswer) → get_outcome answers ≡ None → Ends more → Ends (answers ++ more)
ends_later answers more none (no_failure, ended) = (
  none_failed_join answers more (not_yet (first_failure answers) (list_any says_end answers) none) ∙ no_failure,
  any_join says_end answers more ended,
)

by_outcome : (events : List NodeEvent) (answers : List UserAnswer) (next : GetValue) (o : Option (Result (Unit {0}) FailCause)) → get_outcome answers ≡ o → next.outcome ≡ o → (next.outcome ≡ None → Ends (answers_over next events))
    → ((r : Result (Unit {0}) FailCause) → get_outcome answers ≡ Some r → next.outcome ≡ Some r → Ends (answers ++ answers_over next events)) → Ends (answers ++ answers_over next events)
by_outcome events answers next None is came later now = ends_later answers (answers_over next events) is (later came)
by_outcome events answers next (Some r) is came later now = now r is came

get_ends : (g : GetValue) (events : List NodeEvent) (x : Unit {0}) → g.outcome ≡ None → HasNotEndedBefore get_rule g events → (state_after get_rule g events).outcome ≡ Some (Ok x) → Ends (answers_over g events)
get_ends g [] x none going done = absurd (cc (none, done))
get_ends g (e ∷ events) x none going done =
    let answers = (client_does g.last e g.client).client.answers in
    let next = (get_rule.step g e).state in
    let came : next.outcome ≡ get_outcome answers = ap (λ o. first_outcome o (get_outcome answers)) none in
    by_outcome events answers next (get_outcome answers) refl came (λ goes. get_ends next events x goes going.1 done) (λ r is came_to. ends_in answers next events r x is came_to going.1 done)

pub get_done : (s : ClientStep) (turns : ℕ) (b : Beside) (last : GetValue) (b' : Beside) (serves : NodeServes get_rule (get_from s) turns b ends.Done last b') → IsGot (answers_over (get_from s) serves.served.taken)
get_done s turns b last b' serves =
    let events = serves.served.taken in
    let answers = answers_over (get_from s) events in
    let by_itself = done_by_itself get_rule refl serves.left serves.mid serves.beside_mid last b' serves.stops in
    let ended = get_ends (get_from s) events by_itself.0.0 refl serves.served.going (ap (λ (g : GetValue). g.outcome) (sym serves.served.state) ∙ by_itself.0.1) in
    let end = has_one says_end answers ended.1 in
    record { never_failed = never_failed answers ended.0; ended = is_an_end answers end.0 end.1 end.2 }
