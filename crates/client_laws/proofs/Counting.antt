-- A taken write waits at a mirror, is out, is answered or is covered, and one of these alone.
use Rattle.std.proofs.Common.{◌≡◌, ℕ, zero, suc, ◌+◌, ◌<◌, ◌≤◌, Bool, true, false, List, [], ◌∷◌, ◌++◌, length, get_or, cond, Some, None, refl, sym, ap, subst, ◌∙◌, inl, inr, ◌⊎◌, arith}
use Rattle.std.specs.Prelude.{slice_get, slice_set, map, not, ◌==◌, ◌||◌, ◌&&◌, if◌then◌else◌}
use Rattle.std.specs.List.{filter, list_all}
use Rattle.std.proofs.lemmas.Bool.{cases_lt}
use Rattle.std.proofs.lemmas.List.{length-append}
use Rattle.std.proofs.lemmas.Option.{none-some, same_Some, slice_get-get_or}
use Rattle.mirror_writer.specs.declared.call.WriteAnswer.{WriteAnswer}
use Rattle.mirror_writer.specs.declared.call.WriterCall.{WriterCall}
use Rattle.mirror_writer.specs.declared.call.WriterCall.TheVariants.{NoCall, OutWrite, OutCommit}
use Rattle.mirror_writer.specs.declared.call.NextCall.{NextCall}
use Rattle.mirror_writer.specs.declared.call.NextCall.TheVariants.{SendsWrite, SendsCommit}
use Rattle.mirror_writer.specs.Writers.{WriterMirror, queued, unqueued, with_out, with_write_answer, with_commit, with_writer_call, has_verifier, covered_by, covered_flag, is_committed, is_covered, next_at, next_of_call, next_idle}
use Rattle.client_laws.proofs.Places.{flag_set, covered_length, all_at, same_number, equal}
use Rattle.client_laws.proofs.Stands.{times, times_answered, times_out, times_at, one_if, is_commit_out, is_idle_call, CountsOnce, is_settled_there}

times_append : (n : ℕ) (xs ys : List ℕ) → times n (xs ++ ys) ≡ times n xs + times n ys
times_append n [] ys = omega arith
times_append n (x ∷ xs) ys = omega (arith, times_append n xs ys)

answered_append : (n : ℕ) (xs ys : List WriteAnswer) → times_answered n (xs ++ ys) ≡ times_answered n xs + times_answered n ys
answered_append n [] ys = omega arith
answered_append n (x ∷ xs) ys = omega (arith, answered_append n xs ys)

flag_push : (flags : List Bool) (n : ℕ) → covered_flag (slice_get (flags ++ false ∷ []) n) ≡ covered_flag (slice_get flags n)
flag_push [] zero = refl
flag_push [] (suc n) = refl
flag_push (b ∷ flags) zero = refl
flag_push (b ∷ flags) (suc n) = flag_push flags n

not_all : (flags : List Bool) → list_all is_covered (flags ++ false ∷ []) ≡ false
not_all [] = refl
not_all (true ∷ flags) = not_all flags
not_all (false ∷ flags) = refl

-- ---- a write is taken

pub taken_counts : (m : WriterMirror) (k : ℕ) → k ≡ length m.covered → CountsOnce m → CountsOnce (queued k m)
taken_counts m k at c = record {
  once = λ n. by_test n (k == n) refl;
  taken = λ n past. past_end n past (k == n) refl;
  wanted = λ out. not_all m.covered;
  idle = c.idle;
}
  where
    same : (n : ℕ) → times_at n (queued k m) ≡ times_at n m + (if k == n then 1 else 0)
    same n = omega (arith, times_append n m.queue (k ∷ []), ap one_if (flag_push m.covered n))

    by_test : (n : ℕ) (b : Bool) → (k == n) ≡ b → times_at n (queued k m) ≤ 1
    by_test n true is = omega (arith, same n, c.taken n (omega (arith, at, same_number k n is)), ap one_if is)
    by_test n false is = omega (arith, same n, c.once n, ap one_if is)

    past_end : (n : ℕ) → length (m.covered ++ false ∷ []) ≤ n → (b : Bool) → (k == n) ≡ b → times_at n (queued k m) ≡ 0
    past_end n past true is = absurd (omega (arith, past, length-append m.covered (false ∷ []), at, same_number k n is))
    past_end n past false is = omega (arith, same n, c.taken n (omega (arith, past, length-append m.covered (false ∷ []))), ap one_if is)

-- ---- a call goes out

-- what waits to go out at a mirror
pub record IsWaiting (m : WriterMirror) (next : NextCall) : Type 0 where
  pub failed : m.has_failed ≡ false
  pub call : m.call ≡ NoCall
  pub its : next_idle true m m.queue ≡ Some next ⊎ next_idle false m m.queue ≡ Some next

pub waits : (wants : Bool) (m : WriterMirror) (next : NextCall) → next_at wants m ≡ Some next → IsWaiting m next
waits wants m next is = by_failure m.has_failed refl is
  where
    by_call : (call : WriterCall) → m.call ≡ call → m.has_failed ≡ false → next_of_call wants m call ≡ Some next → IsWaiting m next
    by_call NoCall at failed is = record { failed = failed; call = at; its = by_wish wants is }
      where
        by_wish : (b : Bool) → next_idle b m m.queue ≡ Some next → next_idle true m m.queue ≡ Some next ⊎ next_idle false m m.queue ≡ Some next
        by_wish true is = inl is
        by_wish false is = inr is
    by_call (OutWrite xid n timeouts) at failed is = absurd (none-some next is)
    by_call (OutCommit xid timeouts) at failed is = absurd (none-some next is)

    by_failure : (b : Bool) → m.has_failed ≡ b → (if b then None else next_of_call wants m m.call) ≡ Some next → IsWaiting m next
    by_failure true at is = absurd (none-some next is)
    by_failure false at is = by_call m.call refl at is

-- the first of the queue goes out
first_of : (m : WriterMirror) (wants : Bool) (queue : List ℕ) (k : ℕ) → next_idle wants m queue ≡ Some (SendsWrite k) → queue ≡ k ∷ unqueued queue
first_of m wants (n ∷ queue) k is = ap (λ x. x ∷ queue) (number (same_Some (SendsWrite n) (SendsWrite k) is))
  where
    number : SendsWrite n ≡ SendsWrite k → n ≡ k
    number e = cc
first_of m wants [] k is = absurd (by_wish (wants && not (is_committed m)) is)
  where
    by_wish : (b : Bool) → (if b then Some SendsCommit else None) ≡ Some (SendsWrite k) → ⊥
    by_wish true is = absurd cc
    by_wish false is = none-some (SendsWrite k) is

uncommitted : (m : WriterMirror) (wants : Bool) (queue : List ℕ) → next_idle wants m queue ≡ Some SendsCommit → is_committed m ≡ false
uncommitted m wants (n ∷ queue) is = absurd cc
uncommitted m wants [] is = by_wish wants (is_committed m) refl is
  where
    by_wish : (a b : Bool) → is_committed m ≡ b → (if a && not b then Some SendsCommit else None) ≡ Some SendsCommit → is_committed m ≡ false
    by_wish true true at is = absurd (none-some SendsCommit is)
    by_wish true false at is = at
    by_wish false b at is = absurd (none-some SendsCommit is)

not_both : false ≡ true → ⊥
not_both e = absurd cc

pub out_counts : (m : WriterMirror) (xid : ℕ) (next : NextCall) → IsWaiting m next → CountsOnce m → CountsOnce (with_out xid next m)
out_counts m xid (SendsWrite k) w c = record {
  once = λ n. omega (arith, same n, c.once n);
  taken = λ n past. omega (arith, same n, c.taken n past);
  wanted = λ out. absurd (not_both out);
  idle = λ failed. absurd (not_both (sym w.failed ∙ failed));
}
  where
    queue_is : next_idle true m m.queue ≡ Some (SendsWrite k) ⊎ next_idle false m m.queue ≡ Some (SendsWrite k) → m.queue ≡ k ∷ unqueued m.queue
    queue_is (inl is) = first_of m true m.queue k is
    queue_is (inr is) = first_of m false m.queue k is

    same : (n : ℕ) → times_at n (with_out xid (SendsWrite k) m) ≡ times_at n m
    same n = omega (arith, ap (times n) (queue_is w.its), ap (times_out n) w.call)
out_counts m xid SendsCommit w c = record {
  once = λ n. omega (arith, same n, c.once n);
  taken = λ n past. omega (arith, same n, c.taken n past);
  wanted = λ out. by_its w.its;
  idle = λ failed. absurd (not_both (sym w.failed ∙ failed));
}
  where
    same : (n : ℕ) → times_at n (with_out xid SendsCommit m) ≡ times_at n m
    same n = omega (arith, ap (times_out n) w.call)

    by_its : next_idle true m m.queue ≡ Some SendsCommit ⊎ next_idle false m m.queue ≡ Some SendsCommit → is_committed m ≡ false
    by_its (inl is) = uncommitted m true m.queue is
    by_its (inr is) = uncommitted m false m.queue is

-- ---- an answer, and none

pub answer_counts : (m : WriterMirror) (xid k timeouts v : ℕ) → m.call ≡ OutWrite xid k timeouts → CountsOnce m → CountsOnce (with_write_answer k v m)
answer_counts m xid k timeouts v at c = record {
  once = λ n. omega (arith, same n, c.once n);
  taken = λ n past. omega (arith, same n, c.taken n past);
  wanted = λ out. absurd (not_both out);
  idle = λ failed. refl;
}
  where
    same : (n : ℕ) → times_at n (with_write_answer k v m) ≡ times_at n m
    same n = omega (arith, answered_append n m.answered (record { write = k; verifier = v } ∷ []), ap (times_out n) at)

pub dropped_counts : (m new : WriterMirror) → new.queue ≡ m.queue → new.call ≡ NoCall → new.answered ≡ m.answered → new.covered ≡ m.covered → CountsOnce m → CountsOnce new
dropped_counts m new queue call answered covered c = record {
  once = λ n. omega (arith, fewer n, c.once n);
  taken = λ n past. omega (arith, fewer n, c.taken n (subst (λ (l : List Bool). length l ≤ n) covered past));
  wanted = λ out. absurd (not_both (sym (ap is_commit_out call) ∙ out));
  idle = λ failed. ap is_idle_call call;
}
  where
    fewer : (n : ℕ) → times_at n new ≤ times_at n m
    fewer n = omega (arith, ap (times n) queue, ap (times_out n) call, ap (times_answered n) answered, ap (λ (l : List Bool). one_if (covered_flag (slice_get l n))) covered)

pub again_counts : (m : WriterMirror) (call : WriterCall) → ((n : ℕ) → times_out n call ≡ times_out n m.call) → is_commit_out call ≡ is_commit_out m.call → is_idle_call call ≡ is_idle_call m.call → CountsOnce m → CountsOnce (with_writer_call call m)
again_counts m call out commit idle c = record {
  once = λ n. omega (arith, c.once n, out n);
  taken = λ n past. omega (arith, c.taken n past, out n);
  wanted = λ is. c.wanted (sym commit ∙ is);
  idle = λ failed. idle ∙ c.idle failed;
}

-- ---- a COMMIT is answered

set_once : (flags : List Bool) (i n : ℕ) → one_if (covered_flag (slice_get (slice_set flags i true) n)) ≤ (if i == n then 1 else 0) + one_if (covered_flag (slice_get flags n))
set_once flags i n = by_flag (covered_flag (slice_get (slice_set flags i true) n)) refl
  where
    by_set : (covered_flag (slice_get flags n) ≡ true) ⊎ (n ≡ i) → 1 ≤ (if i == n then 1 else 0) + one_if (covered_flag (slice_get flags n))
    by_set (inl is) = omega (arith, ap one_if is)
    by_set (inr same) = omega (arith, ap one_if (ap (λ k. i == k) same ∙ equal i))

    by_flag : (b : Bool) → covered_flag (slice_get (slice_set flags i true) n) ≡ b → one_if b ≤ (if i == n then 1 else 0) + one_if (covered_flag (slice_get flags n))
    by_flag true is = by_set (flag_set flags i n is)
    by_flag false is = omega arith

covered_once : (answered : List WriteAnswer) (flags : List Bool) (n : ℕ) → one_if (covered_flag (slice_get (covered_by answered flags) n)) ≤ times_answered n answered + one_if (covered_flag (slice_get flags n))
covered_once [] flags n = omega arith
covered_once (a ∷ answered) flags n = omega (arith, covered_once answered (slice_set flags a.write true) n, set_once flags a.write n)

split_once : (test : WriteAnswer → Bool) (answered : List WriteAnswer) (n : ℕ)
    → times n (map (λ (a : WriteAnswer). a.write) (filter (λ a. not (test a)) answered)) + times_answered n (filter test answered) ≡ times_answered n answered
split_once test [] n = refl
split_once test (a ∷ answered) n = by_test (test a) (split_once test answered n)
  where
    rest : List WriteAnswer
    rest = filter (λ a. not (test a)) answered

    by_test : (b : Bool) → times n (map (λ (a : WriteAnswer). a.write) (filter (λ a. not (test a)) answered)) + times_answered n (filter test answered) ≡ times_answered n answered
        → times n (map (λ (a : WriteAnswer). a.write) (cond (not b) (a ∷ filter (λ a. not (test a)) answered) (filter (λ a. not (test a)) answered))) + times_answered n (cond b (a ∷ filter test answered) (filter test answered))
        ≡ (if a.write == n then 1 else 0) + times_answered n answered
    by_test true same = omega (arith, same)
    by_test false same = omega (arith, same)

pub commit_counts : (m : WriterMirror) (v : ℕ) → is_idle_call (with_commit v m).call ≡ true → CountsOnce m → CountsOnce (with_commit v m)
commit_counts m v none c = record {
  once = λ n. omega (arith, fewer n, c.once n);
  taken = λ n past. omega (arith, fewer n, c.taken n (omega (arith, past, covered_length (filter (has_verifier v) m.answered) m.covered)));
  wanted = λ out. absurd (not_both out);
  idle = λ failed. refl;
}
  where
    again : List ℕ
    again = map (λ (a : WriteAnswer). a.write) (filter (λ a. not (has_verifier v a)) m.answered)

    fewer : (n : ℕ) → times_at n (with_commit v m) ≤ times_at n m
    fewer n = omega (arith, times_append n m.queue (map (λ (a : WriteAnswer). a.write) (filter (λ a. not (has_verifier v a)) m.answered)), split_once (has_verifier v) m.answered n, covered_once (filter (has_verifier v) m.answered) m.covered n)

-- ---- a mirror that is settled sends nothing

two : (a b : ℕ) → 1 ≤ a → b ≡ 1 → a + b ≤ 1 → ⊥
two a b some one most = omega (arith, some, one, most)

-- a write that waits or is out is not covered
busy : (m : WriterMirror) → CountsOnce m → is_committed m ≡ true → (n : ℕ) → 1 ≤ times n m.queue + times_out n m.call → ⊥
busy m c all n some = by_end (cases_lt n (length m.covered))
  where
    by_end : (n < length m.covered) ⊎ (length m.covered ≤ n) → ⊥
    by_end (inl within) =
        let flag : slice_get m.covered n ≡ Some (get_or m.covered n false) = slice_get-get_or m.covered n false within in
        let set : covered_flag (slice_get m.covered n) ≡ true = ap covered_flag flag ∙ all_at is_covered m.covered all n (get_or m.covered n false) flag in
        omega (arith, c.once n, some, ap one_if set)
    by_end (inr past) = omega (arith, c.taken n past, some)

pub record IsStill (m : WriterMirror) : Type 0 where
  pub call : is_idle_call m.call ≡ true
  pub next : (wants : Bool) (next : NextCall) → next_at wants m ≡ Some next → ⊥

pub still : (m : WriterMirror) → CountsOnce m → is_settled_there m ≡ true → IsStill m
still m c settled = by_failure m.has_failed refl settled
  where
    by_call : is_committed m ≡ true → (call : WriterCall) → m.call ≡ call → is_idle_call call ≡ true
    by_call all NoCall at = refl
    by_call all (OutWrite xid k timeouts) at = absurd (busy m c all k (omega (arith, ap (times_out k) at, ap one_if (equal k))))
    by_call all (OutCommit xid timeouts) at = absurd (not_both (sym (c.wanted (ap is_commit_out at)) ∙ all))

    by_queue : is_committed m ≡ true → (wants : Bool) (queue : List ℕ) → m.queue ≡ queue → (next : NextCall) → next_idle wants m queue ≡ Some next → ⊥
    by_queue all wants (n ∷ queue) at next is = busy m c all n (omega (arith, ap (times n) at, ap one_if (equal n)))
    by_queue all wants [] at (SendsWrite n) is = absurd (cc (first_of m wants [] n is))
    by_queue all wants [] at SendsCommit is = not_both (sym (uncommitted m wants [] is) ∙ all)

    next_none : (b : Bool) → m.has_failed ≡ b → (b || is_committed m) ≡ true → (wants : Bool) (next : NextCall) → IsWaiting m next → next_at wants m ≡ Some next → ⊥
    next_none true failed is wants next w at = not_both (sym w.failed ∙ failed)
    next_none false failed is wants next w at = by_either w.its
      where
        by_either : next_idle true m m.queue ≡ Some next ⊎ next_idle false m m.queue ≡ Some next → ⊥
        by_either (inl its) = by_queue is true m.queue refl next its
        by_either (inr its) = by_queue is false m.queue refl next its

    by_failure : (b : Bool) → m.has_failed ≡ b → (b || is_committed m) ≡ true → IsStill m
    by_failure true failed is = record { call = c.idle failed; next = λ wants next at. next_none true failed is wants next (waits wants m next at) at }
    by_failure false failed is = record { call = by_call is m.call refl; next = λ wants next at. next_none false failed is wants next (waits wants m next at) at }
