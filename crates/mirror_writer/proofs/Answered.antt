-- Which writes are answered, which wait, and what a COMMIT's answer makes of them.
use Rattle.std.proofs.Common.{◌≡◌, ◌≢◌, ℕ, suc, zero, ◌+◌, ◌<◌, ◌≤◌, Bool, true, false, List, [], ◌∷◌, ◌++◌, length, map, cond, refl, sym, ap, ◌∙◌, arith, inl, inr, ◌⊎◌}
use Rattle.std.specs.Prelude.{slice_get, slice_set, ◌==◌, not}
use Rattle.std.specs.List.{filter}
use Rattle.std.proofs.lemmas.Bool.{both_ways, cases_eq}
use Rattle.std.proofs.lemmas.Bool.Decides.{nat_tests}
use Rattle.std.proofs.lemmas.List.{length-set}
use Rattle.cluster_model.proofs.Elements.{slice_get-set_other}
use Rattle.mirror_writer.specs.declared.call.WriteAnswer.{WriteAnswer}
use Rattle.mirror_writer.specs.declared.call.WriterCall.{WriterCall}
use Rattle.mirror_writer.specs.declared.call.WriterCall.TheVariants.{NoCall, OutWrite, OutCommit}
use Rattle.mirror_writer.specs.Writers.{WriterMirror, has_verifier, covered_by, covered_flag}
use Rattle.mirror_writer.proofs.PlainLaws.{flag_stays}

abbrev pub IsAnswered : List WriteAnswer → ℕ → ℕ → Type 0
IsAnswered [] k v = ⊥
IsAnswered (a ∷ answered) k v = ((a.write ≡ k) × (a.verifier ≡ v)) ⊎ IsAnswered answered k v

pub answered_push : (answered : List WriteAnswer) (b : WriteAnswer) (k v : ℕ) → IsAnswered answered k v → IsAnswered (answered ++ b ∷ []) k v
answered_push [] b k v is = absurd is
answered_push (a ∷ answered) b k v (inl is) = inl is
answered_push (a ∷ answered) b k v (inr is) = inr (answered_push answered b k v is)

pub answered_last : (answered : List WriteAnswer) (k v : ℕ) → IsAnswered (answered ++ (record { write = k; verifier = v }) ∷ []) k v
answered_last [] k v = inl (refl, refl)
answered_last (a ∷ answered) k v = inr (answered_last answered k v)

pub answered_back : (answered : List WriteAnswer) (b : WriteAnswer) (k v : ℕ) → IsAnswered (answered ++ b ∷ []) k v → IsAnswered answered k v ⊎ ((b.write ≡ k) × (b.verifier ≡ v))
answered_back [] b k v (inl is) = inr is
answered_back [] b k v (inr is) = absurd is
answered_back (a ∷ answered) b k v (inl is) = inl (inl is)
answered_back (a ∷ answered) b k v (inr is) = goes (answered_back answered b k v is)
  where
    goes : IsAnswered answered k v ⊎ ((b.write ≡ k) × (b.verifier ≡ v)) → (((a.write ≡ k) × (a.verifier ≡ v)) ⊎ IsAnswered answered k v) ⊎ ((b.write ≡ k) × (b.verifier ≡ v))
    goes (inl there) = inl (inr there)
    goes (inr last) = inr last

-- ---- how often a write stands somewhere

abbrev pub in_queue : ℕ → List ℕ → ℕ
in_queue k [] = 0
in_queue k (n ∷ queue) = cond (n == k) 1 0 + in_queue k queue

abbrev pub in_answers : ℕ → List WriteAnswer → ℕ
in_answers k [] = 0
in_answers k (a ∷ answered) = cond (a.write == k) 1 0 + in_answers k answered

abbrev pub in_call : ℕ → WriterCall → ℕ
in_call k NoCall = 0
in_call k (OutWrite xid write timeouts) = cond (write == k) 1 0
in_call k (OutCommit xid timeouts) = 0

abbrev pub places_of : ℕ → WriterMirror → ℕ
places_of k m = in_queue k m.queue + in_call k m.call + in_answers k m.answered

pub same_number : (a b : ℕ) → a ≡ b → (a == b) ≡ true
same_number a b same = grind (arith, nat_tests, same)

pub other_number : (a b : ℕ) → a ≢ b → (a == b) ≡ false
other_number a b other = grind (arith, nat_tests, other)

pub one_if : (b : Bool) → cond b 1 0 ≤ 1
one_if true = omega arith
one_if false = omega arith

pub queue_push : (k n : ℕ) (queue : List ℕ) → in_queue k (queue ++ n ∷ []) ≡ in_queue k queue + cond (n == k) 1 0
queue_push k n [] = omega arith
queue_push k n (x ∷ queue) = omega (arith, queue_push k n queue)

pub queue_append : (k : ℕ) (xs ys : List ℕ) → in_queue k (xs ++ ys) ≡ in_queue k xs + in_queue k ys
queue_append k [] ys = omega arith
queue_append k (x ∷ xs) ys = omega (arith, queue_append k xs ys)

pub answers_push : (k w v : ℕ) (answered : List WriteAnswer) → in_answers k (answered ++ (record { write = w; verifier = v }) ∷ []) ≡ in_answers k answered + cond (w == k) 1 0
answers_push k w v [] = omega arith
answers_push k w v (a ∷ answered) = omega (arith, answers_push k w v answered)

pub counted : (a b : ℕ) → a ≡ b → cond {A = ℕ} (a == b) 1 0 ≡ 1
counted a b same = ap (λ b. cond {A = ℕ} b 1 0) (same_number a b same)

pub uncounted : (a b : ℕ) → a ≢ b → cond {A = ℕ} (a == b) 1 0 ≡ 0
uncounted a b other = ap (λ b. cond {A = ℕ} b 1 0) (other_number a b other)

pub answered_counts : (answered : List WriteAnswer) (k v : ℕ) → IsAnswered answered k v → 0 < in_answers k answered
answered_counts [] k v is = absurd is
answered_counts (a ∷ answered) k v (inl is) = omega (arith, counted a.write k is.0)
answered_counts (a ∷ answered) k v (inr is) = omega (arith, answered_counts answered k v is)

-- ---- those that go out again

abbrev pub again : ℕ → List WriteAnswer → List ℕ
again verifier answered = map (λ a. a.write) (filter (λ a. not (has_verifier verifier a)) answered)

pub again_fewer : (k verifier : ℕ) (answered : List WriteAnswer) → in_queue k (again verifier answered) ≤ in_answers k answered
again_fewer k verifier [] = omega arith
again_fewer k verifier (a ∷ answered) = by_test (not (has_verifier verifier a)) (again_fewer k verifier answered)
  where
    by_test : (b : Bool) → in_queue k (again verifier answered) ≤ in_answers k answered
        → in_queue k (map (λ a. a.write) (cond b (a ∷ filter (λ a. not (has_verifier verifier a)) answered) (filter (λ a. not (has_verifier verifier a)) answered))) ≤ cond (a.write == k) 1 0 + in_answers k answered
    by_test true rest = omega (arith, rest)
    by_test false rest = omega (arith, rest)

pub flag_there : (flags : List Bool) (i k : ℕ) → i ≡ k → k < length flags → covered_flag (slice_get (slice_set flags i true) k) ≡ true
flag_there [] i k same within = absurd (omega (arith, within))
flag_there (b ∷ flags) zero zero same within = refl
flag_there (b ∷ flags) zero (suc k) same within = absurd (omega (arith, same))
flag_there (b ∷ flags) (suc i) zero same within = absurd (omega (arith, same))
flag_there (b ∷ flags) (suc i) (suc k) same within = flag_there flags i k (omega (arith, same)) (omega (arith, within))

-- an answered write is covered, or goes out again
pub covered_or_again : (answered : List WriteAnswer) (flags : List Bool) (k v verifier : ℕ) → IsAnswered answered k v → k < length flags
    → (covered_flag (slice_get (covered_by (filter (has_verifier verifier) answered) flags) k) ≡ true) ⊎ (0 < in_queue k (again verifier answered))
covered_or_again [] flags k v verifier is within = absurd is
covered_or_again (a ∷ answered) flags k v verifier is within = by_test (has_verifier verifier a) is (λ later flags within. covered_or_again answered flags k v verifier later within)
  where
    by_test : (b : Bool) → IsAnswered (a ∷ answered) k v
        → (IsAnswered answered k v → (flags : List Bool) → k < length flags → (covered_flag (slice_get (covered_by (filter (has_verifier verifier) answered) flags) k) ≡ true) ⊎ (0 < in_queue k (again verifier answered)))
        → (covered_flag (slice_get (covered_by (cond b (a ∷ filter (has_verifier verifier) answered) (filter (has_verifier verifier) answered)) flags) k) ≡ true)
        ⊎ (0 < in_queue k (map (λ a. a.write) (cond (not b) (a ∷ filter (λ a. not (has_verifier verifier a)) answered) (filter (λ a. not (has_verifier verifier a)) answered))))
    by_test true (inl is) rest = inl (flag_stays (filter (has_verifier verifier) answered) (slice_set flags a.write true) k (flag_there flags a.write k is.0 within))
    by_test true (inr is) rest = rest is (slice_set flags a.write true) (omega (arith, within, length-set flags a.write true))
    by_test false (inl is) rest = inr (omega (arith, counted a.write k is.0))
    by_test false (inr is) rest = later (rest is flags within)
      where
        later : (covered_flag (slice_get (covered_by (filter (has_verifier verifier) answered) flags) k) ≡ true) ⊎ (0 < in_queue k (again verifier answered))
            → (covered_flag (slice_get (covered_by (filter (has_verifier verifier) answered) flags) k) ≡ true) ⊎ (0 < in_queue k (a.write ∷ again verifier answered))
        later (inl so) = inl so
        later (inr so) = inr (omega (arith, so))

-- an answer with the COMMIT's verifier covers
pub flag_covered : (answered : List WriteAnswer) (flags : List Bool) (k v : ℕ) → IsAnswered answered k v → k < length flags → covered_flag (slice_get (covered_by (filter (has_verifier v) answered) flags) k) ≡ true
flag_covered [] flags k v is within = absurd is
flag_covered (a ∷ answered) flags k v is within = by_test (has_verifier v a) refl is (λ later flags within. flag_covered answered flags k v later within)
  where
    by_test : (b : Bool) → has_verifier v a ≡ b → IsAnswered (a ∷ answered) k v → (IsAnswered answered k v → (flags : List Bool) → k < length flags → covered_flag (slice_get (covered_by (filter (has_verifier v) answered) flags) k) ≡ true)
        → covered_flag (slice_get (covered_by (cond b (a ∷ filter (has_verifier v) answered) (filter (has_verifier v) answered)) flags) k) ≡ true
    by_test true test (inl is) rest = flag_stays (filter (has_verifier v) answered) (slice_set flags a.write true) k (flag_there flags a.write k is.0 within)
    by_test true test (inr is) rest = rest is (slice_set flags a.write true) (omega (arith, within, length-set flags a.write true))
    by_test false test (inl is) rest = absurd (both_ways (has_verifier v a) test (same_number a.verifier v is.1))
    by_test false test (inr is) rest = rest is flags within

-- what is covered was, or has such an answer
pub flag_from : (answered : List WriteAnswer) (flags : List Bool) (k v : ℕ) → covered_flag (slice_get (covered_by (filter (has_verifier v) answered) flags) k) ≡ true
    → (covered_flag (slice_get flags k) ≡ true) ⊎ IsAnswered answered k v
flag_from [] flags k v is = inl is
flag_from (a ∷ answered) flags k v is = by_test (has_verifier v a) refl is (λ flags so. flag_from answered flags k v so)
  where
    same_verifier : has_verifier v a ≡ true → a.verifier ≡ v
    same_verifier is = grind (arith, nat_tests, is)

    by_set : has_verifier v a ≡ true → (covered_flag (slice_get (slice_set flags a.write true) k) ≡ true) ⊎ IsAnswered answered k v → (k ≡ a.write) ⊎ (k ≡ a.write → ⊥) → (covered_flag (slice_get flags k) ≡ true) ⊎ IsAnswered (a ∷ answered) k v
    by_set test (inr later) where' = inr (inr later)
    by_set test (inl so) (inl same) = inr (inl (sym same, same_verifier test))
    by_set test (inl so) (inr other) = inl (sym (ap covered_flag (slice_get-set_other flags a.write k true other)) ∙ so)

    by_rest : (covered_flag (slice_get flags k) ≡ true) ⊎ IsAnswered answered k v → (covered_flag (slice_get flags k) ≡ true) ⊎ IsAnswered (a ∷ answered) k v
    by_rest (inl so) = inl so
    by_rest (inr later) = inr (inr later)

    by_test : (b : Bool) → has_verifier v a ≡ b → covered_flag (slice_get (covered_by (cond b (a ∷ filter (has_verifier v) answered) (filter (has_verifier v) answered)) flags) k) ≡ true
        → ((flags : List Bool) → covered_flag (slice_get (covered_by (filter (has_verifier v) answered) flags) k) ≡ true → (covered_flag (slice_get flags k) ≡ true) ⊎ IsAnswered answered k v)
        → (covered_flag (slice_get flags k) ≡ true) ⊎ IsAnswered (a ∷ answered) k v
    by_test true test so rest = by_set test (rest (slice_set flags a.write true) so) (cases_eq k a.write)
    by_test false test so rest = by_rest (rest flags so)

pub length-covered_by : (answered : List WriteAnswer) (flags : List Bool) → length (covered_by answered flags) ≡ length flags
length-covered_by [] flags = refl
length-covered_by (a ∷ answered) flags = length-covered_by answered (slice_set flags a.write true) ∙ length-set flags a.write true
