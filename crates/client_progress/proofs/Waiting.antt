-- How many mirrors wait to send: a call goes out to one of them, so behind four calls there is none.
use Rattle.std.proofs.Common.{◌≡◌, ℕ, zero, suc, ◌+◌, ◌≤◌, Bool, true, false, List, [], ◌∷◌, length, Option, Some, None, refl, sym, ap, subst, ◌∙◌, inl, inr, ◌⊎◌, arith}
use Rattle.std.specs.Prelude.{slice_get, slice_set, not, ◌==◌, ◌&&◌, if◌then◌else◌, nat_lt}
use Rattle.std.specs.List.{position, position_or_len}
use Rattle.std.proofs.lemmas.Bool.{ltb-true}
use Rattle.std.proofs.lemmas.Option.{none-some, same_Some}
use Rattle.mirror_writer.specs.declared.call.TakenWrite.{TakenWrite}
use Rattle.mirror_writer.specs.declared.call.WriterCall.TheVariants.{OutWrite, OutCommit}
use Rattle.mirror_writer.specs.declared.call.NextCall.{NextCall}
use Rattle.mirror_writer.specs.declared.call.NextCall.TheVariants.{SendsWrite, SendsCommit}
use Rattle.mirror_writer.specs.Writers.{WriterMirror, WriterValue, WriterSends, is_committed, with_out, next_idle, next_of_call, next_at, next_sent, sends_at, sends_to, sends_next, sends_as, call_for, write_of_taken, is_some_call, next_place}
use Rattle.client_laws.specs.ClientHistory.{HistoryItem}
use Rattle.client_laws.proofs.Counting.{waits}
use Rattle.client_laws.proofs.Places.{at_set, FirstPlace, first_place, equal, position_passes}
use Rattle.client_laws.proofs.Stands.{AtEach, times, CountsOnce, one_if, MirrorStands, WriterStands}
use Rattle.client_laws.proofs.NextSent.{Sending, sending}

not_both : true ≡ false → ⊥
not_both e = absurd cc

-- ---- a count

abbrev pub waits_in : Bool → List WriterMirror → ℕ
waits_in wants [] = 0
waits_in wants (m ∷ mirrors) = one_if (is_some_call (next_at wants m)) + waits_in wants mirrors

pub waits_few : (wants : Bool) (mirrors : List WriterMirror) → waits_in wants mirrors ≤ length mirrors
waits_few wants [] = omega arith
waits_few wants (m ∷ mirrors) = by_test (is_some_call (next_at wants m)) (waits_few wants mirrors)
  where
    by_test : (b : Bool) → waits_in wants mirrors ≤ length mirrors → one_if b + waits_in wants mirrors ≤ suc (length mirrors)
    by_test true few = omega (arith, few)
    by_test false few = omega (arith, few)

waits_set : (wants : Bool) (mirrors : List WriterMirror) (place : ℕ) (m new : WriterMirror) → slice_get mirrors place ≡ Some m → is_some_call (next_at wants m) ≡ true → is_some_call (next_at wants new) ≡ false
    → waits_in wants (slice_set mirrors place new) + 1 ≡ waits_in wants mirrors
waits_set wants [] place m new there on off = absurd (none-some m there)
waits_set wants (x ∷ mirrors) zero m new there on off = omega (arith, ap one_if off, ap one_if (ap (λ y. is_some_call (next_at wants y)) (same_Some x m there) ∙ on))
waits_set wants (x ∷ mirrors) (suc place) m new there on off = omega (arith, waits_set wants mirrors place m new there on off)

-- none waits
abbrev pub AreIdle : Bool → List WriterMirror → Type 0
AreIdle wants mirrors = AtEach mirrors (λ m. is_some_call (next_at wants m) ≡ false)

pub none_waits : (wants : Bool) (mirrors : List WriterMirror) → waits_in wants mirrors ≡ 0 → AreIdle wants mirrors
none_waits wants [] none place m there = absurd (none-some m there)
none_waits wants (x ∷ mirrors) none zero m there = by_test (is_some_call (next_at wants x)) refl
  where
    by_test : (b : Bool) → is_some_call (next_at wants x) ≡ b → is_some_call (next_at wants m) ≡ false
    by_test true at = absurd (omega (arith, none, ap one_if at))
    by_test false at = ap (λ y. is_some_call (next_at wants y)) (sym (same_Some x m there)) ∙ at
none_waits wants (x ∷ mirrors) none (suc place) m there = none_waits wants mirrors (omega (arith, none)) place m there

pub waits_none : (wants : Bool) (mirrors : List WriterMirror) → AreIdle wants mirrors → waits_in wants mirrors ≡ 0
waits_none wants [] idle = refl
waits_none wants (x ∷ mirrors) idle = omega (arith, ap one_if (idle 0 x refl), waits_none wants mirrors (λ place m there. idle (suc place) m there))

-- ---- what waits can go out

-- a WRITE that waits is of a write that was taken
abbrev pub IsCallable : List TakenWrite → NextCall → Type 0
IsCallable taken (SendsWrite n) = (t : TakenWrite) × (slice_get taken n ≡ Some t)
IsCallable taken SendsCommit = Unit {0}

abbrev pub AreCallable : WriterValue → Type 0
AreCallable w = AtEach w.mirrors (λ m. (next : NextCall) → next_at w.wants_commit m ≡ Some next → IsCallable w.taken next)

-- the first of its queue
first_of : (m : WriterMirror) (wants : Bool) (queue : List ℕ) (k : ℕ) → next_idle wants m queue ≡ Some (SendsWrite k) → 1 ≤ times k queue
first_of m wants (n ∷ queue) k is = omega (arith, ap one_if (ap (λ x. n == x) (sym (number (same_Some (SendsWrite n) (SendsWrite k) is))) ∙ equal n))
  where
    number : SendsWrite n ≡ SendsWrite k → n ≡ k
    number e = cc
first_of m wants [] k is = absurd (by_wish (wants && not (is_committed m)) is)
  where
    by_wish : (b : Bool) → (if b then Some SendsCommit else None) ≡ Some (SendsWrite k) → ⊥
    by_wish true is = absurd cc
    by_wish false is = none-some (SendsWrite k) is

past : {A : Type 0} (xs : List A) (k : ℕ) → slice_get xs k ≡ None → length xs ≤ k
past [] k none = omega arith
past (x ∷ xs) zero none = absurd (none-some x (sym none))
past (x ∷ xs) (suc k) none = omega (arith, past xs k none)

within : (taken : List TakenWrite) (m : WriterMirror) → length m.covered ≡ length taken → CountsOnce m → (n : ℕ) → 1 ≤ times n m.queue → (t : TakenWrite) × (slice_get taken n ≡ Some t)
within taken m size counts n some = by_end (slice_get taken n) refl
  where
    by_end : (o : Option TakenWrite) → slice_get taken n ≡ o → (t : TakenWrite) × (slice_get taken n ≡ Some t)
    by_end (Some t) at = (t, at)
    by_end None at = absurd (omega (arith, some, counts.taken n (omega (arith, size, past taken n at))))

pub callable : (h : List HistoryItem) (name : List ℕ) (reports : ℕ → Bool) (w : WriterValue) → WriterStands h name reports w → AreCallable w
callable h name reports w s place m there (SendsWrite n) is = by_its (waits w.wants_commit m (SendsWrite n) is).its
  where
    stands : MirrorStands h name w.cred w.taken reports m
    stands = s place m there

    by_its : next_idle true m m.queue ≡ Some (SendsWrite n) ⊎ next_idle false m m.queue ≡ Some (SendsWrite n) → (t : TakenWrite) × (slice_get w.taken n ≡ Some t)
    by_its (inl its) = within w.taken m stands.size stands.counts n (first_of m true m.queue n its)
    by_its (inr its) = within w.taken m stands.size stands.counts n (first_of m false m.queue n its)
callable h name reports w s place m there SendsCommit is = tt

-- where nothing goes out none waits
pub nothing_waits : (w : WriterValue) (xid : ℕ) → w.is_fenced ≡ false → AreCallable w → next_sent w xid ≡ None → AreIdle w.wants_commit w.mirrors
nothing_waits w xid free can none place m there = by_test (is_some_call (next_at w.wants_commit m)) refl
  where
    sent_call : (p : ℕ) (k : WriterMirror) (next : NextCall) → IsCallable w.taken next → (s : WriterSends) × (sends_as w xid p k next (call_for w k.id next) ≡ Some s)
    sent_call p k (SendsWrite n) is = (_, ap (λ t. sends_as w xid p k (SendsWrite n) (write_of_taken k.id t)) is.1)
    sent_call p k SendsCommit is = (_, refl)

    some_next : (o : Option NextCall) → is_some_call o ≡ true → (next : NextCall) × (o ≡ Some next)
    some_next (Some next) is = (next, refl)
    some_next None is = absurd cc

    by_next : (f : FirstPlace (λ k. is_some_call (next_at w.wants_commit k)) w.mirrors) → (next : NextCall) × (next_at w.wants_commit f.element ≡ Some next) → ⊥
    by_next f (next, at) = by_call (sent_call f.place f.element next (can f.place f.element f.there next at))
      where
        by_call : (s : WriterSends) × (sends_as w xid f.place f.element next (call_for w f.element.id next) ≡ Some s) → ⊥
        by_call (s, is) =
            none-some s (sym none ∙ ap (sends_at w xid) (ap (λ b. if b then None else position (λ k. is_some_call (next_at w.wants_commit k)) w.mirrors) free ∙ f.first) ∙ ap (sends_to w xid f.place) f.there ∙ ap (sends_next w xid f.place f.element) at ∙ is)

    by_first : FirstPlace (λ k. is_some_call (next_at w.wants_commit k)) w.mirrors → ⊥
    by_first f = by_next f (some_next (next_at w.wants_commit f.element) f.passes)

    by_test : (b : Bool) → is_some_call (next_at w.wants_commit m) ≡ b → is_some_call (next_at w.wants_commit m) ≡ false
    by_test true is = absurd (by_first (first_place (λ k. is_some_call (next_at w.wants_commit k)) w.mirrors place m there is))
    by_test false is = is

-- ---- a call goes out

out_idle : (xid : ℕ) (next : NextCall) (m : WriterMirror) (wants : Bool) → next_at wants (with_out xid next m) ≡ None
out_idle xid (SendsWrite n) m wants = by_failure m.has_failed
  where
    by_failure : (b : Bool) → (if b then None else next_of_call wants (with_out xid (SendsWrite n) m) (OutWrite xid n 0)) ≡ None
    by_failure true = refl
    by_failure false = refl
out_idle xid SendsCommit m wants = by_failure m.has_failed
  where
    by_failure : (b : Bool) → (if b then None else next_of_call wants (with_out xid SendsCommit m) (OutCommit xid 0)) ≡ None
    by_failure true = refl
    by_failure false = refl

pub record OneFewer (w new : WriterValue) : Type 0 where
  pub callable : AreCallable new
  pub fewer : waits_in new.wants_commit new.mirrors + 1 ≡ waits_in w.wants_commit w.mirrors

pub one_fewer : (w : WriterValue) (xid : ℕ) (s : WriterSends) → AreCallable w → next_sent w xid ≡ Some s → OneFewer w s.writer
one_fewer w xid s can is =
    let how : Sending w xid s = sending w xid s is in
    let new : WriterMirror = with_out xid how.next how.mirror in
    subst (OneFewer w) (sym how.writer_is) (record {
      callable = at_set (λ m. (next : NextCall) → next_at w.wants_commit m ≡ Some next → IsCallable w.taken next) w.mirrors how.place new can (λ next at. absurd (none-some next (sym (out_idle xid how.next how.mirror w.wants_commit) ∙ at)));
      fewer = waits_set w.wants_commit w.mirrors how.place how.mirror new how.found (ap is_some_call how.next_is) (ap is_some_call (out_idle xid how.next how.mirror w.wants_commit));
    })

-- ---- no place

no_place : {A : Type 0} (test : A → Bool) (xs : List A) → ((i : ℕ) (x : A) → slice_get xs i ≡ Some x → test x ≡ false) → position test xs ≡ None
no_place {A} test xs none = by_within (nat_lt (position_or_len test xs) (length xs)) refl
  where
    by_there : nat_lt (position_or_len test xs) (length xs) ≡ true → (o : Option A) → slice_get xs (position_or_len test xs) ≡ o → ⊥
    by_there is None at = absurd (omega (arith, ltb-true (position_or_len test xs) (length xs) is, past xs (position_or_len test xs) at))
    by_there is (Some x) at = not_both (sym (position_passes test xs (position_or_len test xs) x (ap (λ b. if b then Some (position_or_len test xs) else None) is) at) ∙ none (position_or_len test xs) x at)

    by_within : (b : Bool) → nat_lt (position_or_len test xs) (length xs) ≡ b → (if b then Some (position_or_len test xs) else None) ≡ None
    by_within true is = absurd (by_there is (slice_get xs (position_or_len test xs)) refl)
    by_within false is = refl

pub nowhere : (w : WriterValue) → AreIdle w.wants_commit w.mirrors → next_place w ≡ None
nowhere w idle = by_fence w.is_fenced
  where
    by_fence : (b : Bool) → (if b then None else position (λ m. is_some_call (next_at w.wants_commit m)) w.mirrors) ≡ None
    by_fence true = refl
    by_fence false = no_place (λ m. is_some_call (next_at w.wants_commit m)) w.mirrors idle
