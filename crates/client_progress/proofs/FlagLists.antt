-- Lists of mirrors and of flags: what a test of each comes to behind a change.
use Rattle.std.proofs.Common.{◌≡◌, ℕ, zero, suc, ◌<◌, Bool, true, false, List, [], ◌∷◌, ◌++◌, length, get_or, Some, refl, sym, ap, subst, ◌∙◌}
use Rattle.std.specs.Prelude.{slice_get, slice_set, map, not, ◌||◌, ◌&&◌}
use Rattle.std.specs.List.{list_all}
use Rattle.std.proofs.lemmas.Option.{none-some, same_Some, slice_get-get_or}
use Rattle.cluster_model.specs.declared.ids.MirrorId.{MirrorId}
use Rattle.mirror_writer.specs.Writers.{WriterMirror, WriterValue, queued, is_committed, is_covered, covered_flag, all_committed, open_committed}
use Rattle.client_laws.proofs.Places.{all_at}
use Rattle.client_laws.proofs.Stands.{AtEach, is_settled_there}
use Rattle.client_progress.proofs.Fits.{not_both, IsUncovered, IsSound}

-- one is replaced that passes as before
pub all_set : {A : Type 0} (test : A → Bool) (xs : List A) (i : ℕ) (x y : A) → slice_get xs i ≡ Some x → test y ≡ test x → list_all test (slice_set xs i y) ≡ list_all test xs
all_set test [] i x y there same = absurd (none-some x there)
all_set test (z ∷ xs) zero x y there same = ap (λ b. b && list_all test xs) (same ∙ sym (ap test (same_Some z x there)))
all_set test (z ∷ xs) (suc i) x y there same = ap (λ b. test z && b) (all_set test xs i x y there same)

-- where not all pass, one does not
pub record Misses {A : Type 0} (test : A → Bool) (xs : List A) : Type 0 where
  pub place : ℕ
  pub element : A
  pub there : slice_get xs place ≡ Some element
  pub fails : test element ≡ false

pub missed : {A : Type 0} (test : A → Bool) (xs : List A) → list_all test xs ≡ false → Misses test xs
missed test [] is = absurd (not_both is)
missed {A} test (x ∷ xs) is = by_test (test x) refl is (missed test xs)
  where
    further : Misses test xs → Misses test (x ∷ xs)
    further m = record { place = suc m.place; element = m.element; there = m.there; fails = m.fails }

    by_test : (b : Bool) → test x ≡ b → b && list_all test xs ≡ false → (list_all test xs ≡ false → Misses test xs) → Misses test (x ∷ xs)
    by_test true at rest next = further (next rest)
    by_test false at rest next = record { place = 0; element = x; there = refl; fails = at }

-- where one does not pass, not all do
pub some_misses : {A : Type 0} (test : A → Bool) (xs : List A) (i : ℕ) (x : A) → slice_get xs i ≡ Some x → test x ≡ false → list_all test xs ≡ false
some_misses {A} test xs i x there fails = by_all (list_all test xs) refl
  where
    by_all : (b : Bool) → list_all test xs ≡ b → list_all test xs ≡ false
    by_all true all = absurd (not_both (sym (all_at test xs all i x there) ∙ fails))
    by_all false all = all

pub at_map : (P Q : WriterMirror → Type 0) (f : WriterMirror → WriterMirror) (xs : List WriterMirror) → ((m : WriterMirror) → P m → Q (f m)) → AtEach xs P → AtEach (map f xs) Q
at_map P Q f [] step all place m there = absurd (none-some m there)
at_map P Q f (x ∷ xs) step all zero m there = subst Q (same_Some (f x) m there) (step x (all 0 x refl))
at_map P Q f (x ∷ xs) step all (suc place) m there = at_map P Q f xs step (λ k n at. all (suc k) n at) place m there

-- ---- a write is taken

flag_push : (flags : List Bool) (n : ℕ) → covered_flag (slice_get (flags ++ false ∷ []) n) ≡ covered_flag (slice_get flags n)
flag_push [] zero = refl
flag_push [] (suc n) = refl
flag_push (b ∷ flags) zero = refl
flag_push (b ∷ flags) (suc n) = flag_push flags n

abbrev pub covers : ℕ → WriterMirror → Bool
covers n m = covered_flag (slice_get m.covered n)

pub queued_covers : (k n : ℕ) (mirrors : List WriterMirror) → list_all (covers n) (map (queued k) mirrors) ≡ list_all (covers n) mirrors
queued_covers k n [] = refl
queued_covers k n (m ∷ mirrors) = ap (λ b. b && list_all (covers n) (map (queued k) mirrors)) (flag_push m.covered n) ∙ ap (λ b. covers n m && b) (queued_covers k n mirrors)

pub queued_ids : (n : ℕ) (mirrors : List WriterMirror) → map (λ (m : WriterMirror). m.id) (map (queued n) mirrors) ≡ map (λ (m : WriterMirror). m.id) mirrors
queued_ids n [] = refl
queued_ids n (m ∷ mirrors) = ap (λ (ids : List MirrorId). m.id ∷ ids) (queued_ids n mirrors)

none_past : (flags : List Bool) → covered_flag (slice_get flags (length flags)) ≡ false
none_past [] = refl
none_past (b ∷ flags) = none_past flags

-- the write behind the last is covered nowhere
pub last_uncovered : (mirrors : List WriterMirror) (n : ℕ) → AtEach mirrors (λ m. length m.covered ≡ n) → (first : WriterMirror) → slice_get mirrors 0 ≡ Some first → list_all (covers n) mirrors ≡ false
last_uncovered mirrors n sizes first there =
    some_misses (covers n) mirrors 0 first there (ap (λ k. covered_flag (slice_get first.covered k)) (sym (sizes 0 first there)) ∙ none_past first.covered)

-- ---- a write that is not covered

uncovered_there : (m : WriterMirror) (n : ℕ) → n < length m.covered → covers n m ≡ false → is_committed m ≡ false
uncovered_there m n within fails = by_all (is_committed m) refl
  where
    by_all : (b : Bool) → is_committed m ≡ b → is_committed m ≡ false
    by_all false all = all
    by_all true all =
        let flag : slice_get m.covered n ≡ Some (get_or m.covered n false) = slice_get-get_or m.covered n false within in
        absurd (not_both (sym (ap covered_flag flag ∙ all_at is_covered m.covered all n (get_or m.covered n false) flag) ∙ fails))

pub record IsUncommitted (w : WriterValue) : Type 0 where
  pub wants : not (all_committed w) ≡ true
  pub unsettled : open_committed w.mirrors ≡ false

pub uncommitted : (w : WriterValue) (n : ℕ) → AtEach w.mirrors (λ m. length m.covered ≡ length w.taken) → IsSound w.mirrors → IsUncovered w n → IsUncommitted w
uncommitted w n sizes sound is =
    let one : Misses (covers n) w.mirrors = missed (covers n) w.mirrors is.1 in
    let m : WriterMirror = one.element in
    let none : is_committed m ≡ false = uncovered_there m n (subst (λ k. n < k) (sym (sizes one.place m one.there)) is.0) one.fails in
    record {
      wants = ap not (some_misses is_committed w.mirrors one.place m one.there none);
      unsettled = some_misses is_settled_there w.mirrors one.place m one.there (ap (λ b. b || is_committed m) (sound one.place m one.there) ∙ none);
    }
