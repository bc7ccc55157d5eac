-- The front of a stream, byte by byte and piece by piece.
use Rattle.std.proofs.Common.{◌≡◌, ℕ, zero, suc, ◌+◌, ◌-◌, ◌<◌, ◌≤◌, Bool, true, false, cond, ltb, List, [], ◌∷◌, ◌++◌, length, take, drop, set, refl, sym, ap, subst, ◌∙◌, append_assoc, arith, inl, inr}
use Rattle.std.specs.Prelude.{nat_lt, if◌then◌else◌}
use Rattle.std.specs.Int.{w32, from_be_bytes}
use Rattle.std.proofs.lemmas.Bool.{le-ltb, lt-ltb, cases_lt}
use Rattle.std.proofs.lemmas.List.{length-append, append-nil, take_at, drop_at, take_all, take_more_set, length-set, take-append-le, drop-append-le}
use Rattle.rpc_record.specs.Calls.{word_of}
use Rattle.rpc_record.specs.Frames.{max_record, max_fragments, length_in, is_last, Header, FragmentBody, Front, Open, Whole, TooLong, TooManyFragments, front_from, front_of, behind_header}
use Rattle.rpc_record.specs.FramesView.{front_settled, front_behind, resume, resume_part, Steps}

-- ---- headers

pub is_short : (n : ℕ) (g bytes : List ℕ) → length bytes < 4 → front_from n g bytes ≡ Open (record { gathered = g; headers = n; coming = Header bytes })
unfolding front_from
is_short zero g bytes lt =
    let short : ltb (length bytes) 4 ≡ true = lt-ltb _ _ lt in
    rw short refl
is_short (suc n) g bytes lt =
    let short : ltb (length bytes) 4 ≡ true = lt-ltb _ _ lt in
    rw short refl

-- what stands behind a header with this word
abbrev pub after_header : ℕ → List ℕ → ℕ → List ℕ → Front
after_header zero g w rest = if nat_lt max_record (length g + length_in w) then TooLong else TooManyFragments
after_header (suc n) g w rest = if nat_lt max_record (length g + length_in w) then TooLong else behind_header n g (length_in w) (is_last w) rest (front_from n)

pub is_header : (n : ℕ) (g bytes : List ℕ) → 4 ≤ length bytes → front_from n g bytes ≡ after_header n g (word_of bytes 0) (drop 4 bytes)
unfolding front_from
is_header zero g bytes le =
    let room : ltb (length bytes) 4 ≡ false = le-ltb _ _ le in
    rw room refl
is_header (suc n) g bytes le =
    let room : ltb (length bytes) 4 ≡ false = le-ltb _ _ le in
    rw room refl

word_front : (a b : List ℕ) → 4 ≤ length a → word_of (a ++ b) 0 ≡ word_of a 0
unfolding word_of
word_front a b le = ap (λ (t : List ℕ). from_be_bytes w32 t) (take-append-le 4 a b le)

-- ---- the bytes of a fragment

take_past : (p more : List ℕ) (n k : ℕ) → n ≡ length p + k → take n (p ++ more) ≡ p ++ take k more
take_past [] more n k e =
    let same : n ≡ k = omega arith in
    ap (λ (i : ℕ). take i more) same
take_past (x ∷ p) more zero k e = absurd (omega arith)
take_past (x ∷ p) more (suc n) k e = ap (λ (t : List ℕ). x ∷ t) (take_past p more n k (omega arith))

drop_past : (p more : List ℕ) (n k : ℕ) → n ≡ length p + k → drop n (p ++ more) ≡ drop k more
drop_past [] more n k e =
    let same : n ≡ k = omega arith in
    ap (λ (i : ℕ). drop i more) same
drop_past (x ∷ p) more zero k e = absurd (omega arith)
drop_past (x ∷ p) more (suc n) k e = drop_past p more n k (omega arith)

pub behind_more : (h : ℕ) (g : List ℕ) (left : ℕ) (last : Bool) (p more : List ℕ) → length p ≤ left → behind_header h g left last (p ++ more) (front_from h) ≡ behind_header h (g ++ p) (left - length p) last more (front_from h)
behind_more h g left last p more le =
    elim (cases_lt (length (p ++ more)) left) [
      | inl lt ↦
          let short : ltb (length (p ++ more)) left ≡ true = lt-ltb _ _ lt in
          let short' : ltb (length more) (left - length p) ≡ true = lt-ltb _ _ (omega (arith, length-append p more)) in
          let same : left - length (p ++ more) ≡ left - length p - length more = omega (arith, length-append p more) in
          rw (short, short', same, append_assoc g p more) refl
      | inr room ↦
          let split : left ≡ length p + (left - length p) = omega arith in
          let long : ltb (length (p ++ more)) left ≡ false = le-ltb _ _ room in
          let long' : ltb (length more) (left - length p) ≡ false = le-ltb _ _ (omega (arith, length-append p more)) in
          rw (long, long', take_past p more left (left - length p) split, drop_past p more left (left - length p) split, append_assoc g p (take (left - length p) more)) refl
    ]

pub settled_is : (h : ℕ) (g : List ℕ) (left : ℕ) (last : Bool) (more : List ℕ) → resume (front_settled g h left last) more ≡ behind_header h g left last more (front_from h)
unfolding resume resume_part
settled_is h g zero true more =
    let room : ltb (length more) 0 ≡ false = le-ltb _ _ (omega arith) in
    rw (room, append-nil g) refl
settled_is h g zero false more =
    let room : ltb (length more) 0 ≡ false = le-ltb _ _ (omega arith) in
    rw (room, append-nil g) refl
settled_is h g (suc left) last more =
    let some : ltb 0 (suc left) ≡ true = lt-ltb _ _ (omega arith) in
    rw some refl

cond_resume : (b : Bool) (x y : Front) (more : List ℕ) → resume (cond b x y) more ≡ cond b (resume x more) (resume y more)
cond_resume true x y more = refl
cond_resume false x y more = refl

pub behind_is : (h : ℕ) (g : List ℕ) (w : ℕ) (more : List ℕ) → resume (front_behind g h w) more ≡ after_header h g w more
unfolding resume
behind_is zero g w more = cond_resume (ltb max_record (length g + length_in w)) TooLong TooManyFragments more
behind_is (suc h) g w more =
    let some : ltb 0 (suc h) ≡ true = lt-ltb _ _ (omega arith) in
    let same : suc h - 1 ≡ h = omega arith in
    rw (some, same) (cond_resume (ltb max_record (length g + length_in w)) TooLong (front_settled g h (length_in w) (is_last w)) more
    ∙ ap (λ (f : Front). cond (ltb max_record (length g + length_in w)) TooLong f) (settled_is h g (length_in w) (is_last w) more))

-- ---- a front and more bytes

abbrev ResumesFrom : ℕ → Type 0
ResumesFrom n = (g a b : List ℕ) → front_from n g (a ++ b) ≡ resume (front_from n g a) b

last_resume : (n : ℕ) → ResumesFrom n → (last : Bool) (g x b : List ℕ) → cond last (Whole g (x ++ b)) (front_from n g (x ++ b)) ≡ resume (cond last (Whole g x) (front_from n g x)) b
unfolding resume
last_resume n rec true g x b = refl
last_resume n rec false g x b = rec g x b

behind_resume : (n : ℕ) → ResumesFrom n → (g : List ℕ) (len : ℕ) (last : Bool) (x b : List ℕ) → behind_header n g len last (x ++ b) (front_from n) ≡ resume (behind_header n g len last x (front_from n)) b
unfolding resume resume_part
behind_resume n rec g len last x b =
    elim (cases_lt (length x) len) [
      | inl lt ↦
          let short : ltb (length x) len ≡ true = lt-ltb _ _ lt in
          rw short (behind_more n g len last x b (omega arith))
      | inr room ↦
          let long : ltb (length x) len ≡ false = le-ltb _ _ room in
          let long' : ltb (length (x ++ b)) len ≡ false = le-ltb _ _ (omega (arith, length-append x b)) in
          rw (long, long', take-append-le len x b room, drop-append-le len x b room) (last_resume n rec last (g ++ take len x) (drop len x) b)
    ]

after_resume : (n : ℕ) → ((m : ℕ) → n ≡ suc m → ResumesFrom m) → (g : List ℕ) (w : ℕ) (x b : List ℕ) → after_header n g w (x ++ b) ≡ resume (after_header n g w x) b
unfolding resume
after_resume zero rec g w x b = sym (cond_resume (ltb max_record (length g + length_in w)) TooLong TooManyFragments b)
after_resume (suc n) rec g w x b =
    ap (λ (f : Front). cond (ltb max_record (length g + length_in w)) TooLong f) (behind_resume n (rec n refl) g (length_in w) (is_last w) x b)
    ∙ sym (cond_resume (ltb max_record (length g + length_in w)) TooLong (behind_header n g (length_in w) (is_last w) x (front_from n)) b)

step_resume : (n : ℕ) → ((m : ℕ) → n ≡ suc m → ResumesFrom m) → ResumesFrom n
unfolding resume resume_part
step_resume n rec g a b =
    elim (cases_lt (length a) 4) [
      | inl lt ↦ rw (is_short n g a lt) refl
      | inr le ↦
          let same = word_front a b le in
          let front_behind = drop-append-le 4 a b le in
          let le' : 4 ≤ length (a ++ b) = omega (arith, length-append a b) in
          is_header n g (a ++ b) le' ∙ rw (same, front_behind) (after_resume n rec g (word_of a 0) (drop 4 a) b) ∙ ap (λ (f : Front). resume f b) (sym (is_header n g a le))
    ]

pub resume_from : (n : ℕ) → ResumesFrom n
resume_from zero = step_resume zero (λ m e. absurd cc)
resume_from (suc n) = step_resume (suc n) (λ m e. let same : n ≡ m = cc in subst ResumesFrom same (resume_from n))

pub resume_of : (a b : List ℕ) → front_of (a ++ b) ≡ resume (front_of a) b
unfolding front_of
resume_of a b = resume_from max_fragments [] a b

-- ---- the bytes of a header

pub header_more : (h : ℕ) (g bytes text more : List ℕ) → resume (Open (record { gathered = g; headers = h; coming = Header bytes })) (text ++ more) ≡ resume (Open (record { gathered = g; headers = h; coming = Header (bytes ++ text) })) more
unfolding resume resume_part
header_more h g bytes text more = ap (λ (t : List ℕ). front_from h g t) (sym (append_assoc bytes text more))

word_of_front : (whole more : List ℕ) → length whole ≡ 4 → word_of (whole ++ more) 0 ≡ from_be_bytes w32 whole
unfolding word_of
word_of_front whole more four = ap (λ (t : List ℕ). from_be_bytes w32 t) (take_at whole more 4 four)

pub header_whole : (h : ℕ) (g whole more : List ℕ) → length whole ≡ 4 → resume (Open (record { gathered = g; headers = h; coming = Header whole })) more ≡ resume (front_behind g h (from_be_bytes w32 whole)) more
unfolding resume resume_part
header_whole h g whole more four =
    let le : 4 ≤ length (whole ++ more) = omega (arith, length-append whole more) in
    is_header h g (whole ++ more) le
    ∙ ap (λ (w : ℕ). after_header h g w (drop 4 (whole ++ more))) (word_of_front whole more four)
    ∙ ap (λ (t : List ℕ). after_header h g (from_be_bytes w32 whole) t) (drop_at whole more 4 four)
    ∙ sym (behind_is h g (from_be_bytes w32 whole) more)

pub byte_more : (h : ℕ) (g bytes : List ℕ) (count byte : ℕ) → count < length bytes → Steps (Open (record { gathered = g; headers = h; coming = Header (take count bytes) })) (byte ∷ []) (Open (record { gathered = g; headers = h; coming = Header (take (count + 1) (set bytes count byte)) }))
byte_more h g bytes count byte lt more =
    let same = take_more_set bytes count byte lt in
    header_more h g (take count bytes) (byte ∷ []) more
    ∙ ap (λ (t : List ℕ). resume (Open (record { gathered = g; headers = h; coming = Header t })) more) (sym same)

pub byte_last : (h : ℕ) (g bytes : List ℕ) (count byte : ℕ) → length bytes ≡ 4 → count ≡ 3 → Steps (Open (record { gathered = g; headers = h; coming = Header (take count bytes) })) (byte ∷ []) (front_behind g h (from_be_bytes w32 (set bytes count byte)))
byte_last h g bytes count byte four three more =
    let size : length (set bytes count byte) ≡ 4 = length-set bytes count byte ∙ four in
    let all : take (count + 1) (set bytes count byte) ≡ set bytes count byte = take_all (count + 1) (set bytes count byte) (omega (arith, size)) in
    byte_more h g bytes count byte (omega arith) more
    ∙ ap (λ (t : List ℕ). resume (Open (record { gathered = g; headers = h; coming = Header t })) more) all
    ∙ header_whole h g (set bytes count byte) more size

-- ---- the bytes of a body

pub body_steps : (h : ℕ) (g : List ℕ) (left : ℕ) (last : Bool) (p : List ℕ) → length p ≤ left → Steps (Open (record { gathered = g; headers = h; coming = FragmentBody left last })) p (front_settled (g ++ p) h (left - length p) last)
unfolding resume resume_part
body_steps h g left last p le more = behind_more h g left last p more le ∙ sym (settled_is h (g ++ p) (left - length p) last more)
