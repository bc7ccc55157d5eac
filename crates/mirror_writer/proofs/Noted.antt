-- What the notes say of one place, and what one more note changes.
use Rattle.std.proofs.Common.{◌≡◌, ◌≢◌, ℕ, suc, zero, Bool, true, false, List, [], ◌∷◌, ◌++◌, length, cond, get_or, drop, Option, Some, None, refl, sym, ap, subst, ◌∙◌, arith, inl, inr, ◌⊎◌, append_assoc, append-nil}
use Rattle.std.specs.Prelude.{◌==◌, ◌&&◌}
use Rattle.std.specs.List.{All}
use Rattle.std.proofs.lemmas.Bool.{both_ways}
use Rattle.std.proofs.lemmas.Bool.Decides.{nat_tests}
use Rattle.std.proofs.lemmas.List.Elements.{All-append}
use Rattle.std.proofs.lemmas.List.Sums.{fold-append}
use Rattle.mirror_writer.specs.WriterLaws.{WriterNote, CommitSent, WriteAnswered, CommitAnswered, later_verifier, last_verifier, is_commit_at, IsCoveredBy}
use Rattle.mirror_writer.proofs.Moved.{IsAway, NoNote, OtherNote, note_place}

last_more : (place k : ℕ) (notes : List WriterNote) (note : WriterNote) → last_verifier place k (notes ++ note ∷ []) ≡ later_verifier place k (last_verifier place k notes) note
last_more place k notes note = fold-append (later_verifier place k) None notes (note ∷ [])

not_equal : (a b : ℕ) → a ≢ b → (a == b) ≡ false
not_equal a b other = grind (arith, nat_tests, other)

equal : (a b : ℕ) → a ≡ b → (a == b) ≡ true
equal a b same = grind (arith, nat_tests, same)

later_other : (place k : ℕ) (last : Option ℕ) (note : WriterNote) → note_place note ≢ place → later_verifier place k last note ≡ last
later_other place k last (CommitSent p) other = refl
later_other place k last (WriteAnswered p w v) other = ap (λ b. cond (b && (w == k)) (Some v) last) (not_equal p place other)
later_other place k last (CommitAnswered p v) other = refl

pub last_away : (place k : ℕ) (notes added : List WriterNote) → IsAway place added → last_verifier place k (notes ++ added) ≡ last_verifier place k notes
last_away place k notes added (NoNote is) = ap (λ l. last_verifier place k (notes ++ l)) is ∙ ap (last_verifier place k) (append-nil notes)
last_away place k notes added (OtherNote note is other) = ap (λ l. last_verifier place k (notes ++ l)) is ∙ last_more place k notes note ∙ later_other place k (last_verifier place k notes) note other

pub last_none : (place k : ℕ) (notes added : List WriterNote) → added ≡ [] → last_verifier place k (notes ++ added) ≡ last_verifier place k notes
last_none place k notes added is = last_away place k notes added (NoNote is)

pub last_sent : (place k : ℕ) (notes : List WriterNote) → last_verifier place k (notes ++ CommitSent place ∷ []) ≡ last_verifier place k notes
last_sent place k notes = last_more place k notes (CommitSent place)

pub last_commit : (place k v : ℕ) (notes : List WriterNote) → last_verifier place k (notes ++ CommitAnswered place v ∷ []) ≡ last_verifier place k notes
last_commit place k v notes = last_more place k notes (CommitAnswered place v)

pub last_written : (place k v : ℕ) (notes : List WriterNote) → last_verifier place k (notes ++ WriteAnswered place k v ∷ []) ≡ Some v
last_written place k v notes =
    last_more place k notes (WriteAnswered place k v) ∙ ap (λ b. cond (b && (k == k)) (Some v) (last_verifier place k notes)) (equal place place refl)
    ∙ ap (λ b. cond b (Some v) (last_verifier place k notes)) (equal k k refl)

pub last_other : (place k w v : ℕ) (notes : List WriterNote) → w ≢ k → last_verifier place k (notes ++ WriteAnswered place w v ∷ []) ≡ last_verifier place k notes
last_other place k w v notes other =
    last_more place k notes (WriteAnswered place w v) ∙ ap (λ b. cond (b && (w == k)) (Some v) (last_verifier place k notes)) (equal place place refl)
    ∙ ap (λ b. cond b (Some v) (last_verifier place k notes)) (not_equal w k other)

-- ---- splits

tail_of : {X : Type 0} (a b : X) (xs ys : List X) → a ∷ xs ≡ b ∷ ys → xs ≡ ys
tail_of a b xs ys is = ap (drop 1) is

head_of : {X : Type 0} (a b : X) (xs ys : List X) → a ∷ xs ≡ b ∷ ys → a ≡ b
head_of a b xs ys is = ap (λ l. get_or l 0 a) is

pub none_some_list : {X : Type 0} (xs : List X) (y : X) (ys : List X) → [] ≡ xs ++ y ∷ ys → ⊥
none_some_list [] y ys is = absurd (omega (arith, ap length is))
none_some_list (x ∷ xs) y ys is = absurd (omega (arith, ap length is))

-- the last element is the one behind the split, or stands at the end of what is behind it
pub data LastOf {X : Type 0} (xs : List X) (x : X) (ys : List X) (y : X) (zs : List X) : Type 0 where
  IsLast : zs ≡ [] → xs ≡ ys → x ≡ y → LastOf xs x ys y zs
  IsBehind : (rest : List X) → zs ≡ rest ++ x ∷ [] → xs ≡ ys ++ y ∷ rest → LastOf xs x ys y zs

pub last_of : {X : Type 0} (xs : List X) (x : X) (ys : List X) (y : X) (zs : List X) → xs ++ x ∷ [] ≡ ys ++ y ∷ zs → LastOf xs x ys y zs
last_of [] x [] y zs is = IsLast (sym (tail_of x y [] zs is)) refl (head_of x y [] zs is)
last_of (a ∷ xs) x [] y zs is = IsBehind xs (sym (tail_of a y (xs ++ x ∷ []) zs is)) (ap (λ b. b ∷ xs) (head_of a y (xs ++ x ∷ []) zs is))
last_of [] x (b ∷ ys) y zs is = absurd (none_some_list ys y zs (tail_of x b [] (ys ++ y ∷ zs) is))
last_of (a ∷ xs) x (b ∷ ys) y zs is = goes (head_of a b (xs ++ x ∷ []) (ys ++ y ∷ zs) is) (last_of xs x ys y zs (tail_of a b (xs ++ x ∷ []) (ys ++ y ∷ zs) is))
  where
    goes : a ≡ b → LastOf xs x ys y zs → LastOf (a ∷ xs) x (b ∷ ys) y zs
    goes same (IsLast none eq last) = IsLast none (ap (λ c. c ∷ xs) same ∙ ap (λ l. b ∷ l) eq) last
    goes same (IsBehind rest ends eq) = IsBehind rest ends (ap (λ c. c ∷ xs) same ∙ ap (λ l. b ∷ l) eq)

pub middle : {X : Type 0} (P : X → Type 0) (xs : List X) (y : X) (ys : List X) → All P (xs ++ y ∷ ys) → P y
middle P [] y ys all = all 0 y (omega arith)
middle P (x ∷ xs) y ys all = middle P xs y ys (λ k d within. all (suc k) d (omega (arith, within)))

-- the last that passes a test is one
pub same_last : {X : Type 0} (test : X → Bool) (xs : List X) (x : X) (xs' : List X) (ys : List X) (y : X) (ys' : List X) → xs ++ x ∷ xs' ≡ ys ++ y ∷ ys' → test x ≡ true → test y ≡ true
    → All (λ a. test a ≡ false) xs' → All (λ a. test a ≡ false) ys' → xs ≡ ys
same_last test [] x xs' [] y ys' is one two first second = refl
same_last test [] x xs' (b ∷ ys) y ys' is one two first second =
    absurd (both_ways (test y) (middle (λ a. test a ≡ false) ys y ys' (subst (λ l. All (λ a. test a ≡ false) l) (tail_of x b xs' (ys ++ y ∷ ys') is) first)) two)
same_last test (a ∷ xs) x xs' [] y ys' is one two first second =
    absurd (both_ways (test x) (middle (λ a. test a ≡ false) xs x xs' (subst (λ l. All (λ a. test a ≡ false) l) (sym (tail_of a y (xs ++ x ∷ xs') ys' is)) second)) one)
same_last test (a ∷ xs) x xs' (b ∷ ys) y ys' is one two first second =
    ap (λ c. c ∷ xs) (head_of a b (xs ++ x ∷ xs') (ys ++ y ∷ ys') is) ∙ ap (λ l. b ∷ l) (same_last test xs x xs' ys y ys' (tail_of a b (xs ++ x ∷ xs') (ys ++ y ∷ ys') is) one two first second)

-- ---- covered by the notes

pub is_this_commit : (place : ℕ) → is_commit_at place (CommitSent place) ≡ true
is_this_commit place = equal place place refl

other_commit : (place : ℕ) (note : WriterNote) → note_place note ≢ place → is_commit_at place note ≡ false
other_commit place (CommitSent p) other = not_equal p place other
other_commit place (WriteAnswered p w v) other = refl
other_commit place (CommitAnswered p v) other = not_equal p place other

pub still_covered : (place k : ℕ) (notes added : List WriterNote) → IsCoveredBy place k notes → IsCoveredBy place k (notes ++ added)
still_covered place k notes added is = record {
  before = is.before;
  between = is.between;
  behind = is.behind ++ added;
  verifier = is.verifier;
  split = ap (λ l. l ++ added) is.split ∙ append_assoc is.before (CommitSent place ∷ (is.between ++ CommitAnswered place is.verifier ∷ is.behind)) added
      ∙ ap (λ l. is.before ++ CommitSent place ∷ l) (append_assoc is.between (CommitAnswered place is.verifier ∷ is.behind) added);
  its_answer = is.its_answer;
  last = is.last;
}

-- the answer to the COMMIT is the last note, or it stood before
pub data CoveredNow (place k : ℕ) (notes : List WriterNote) (note : WriterNote) : Type 0 where
  ByLast : (before between : List WriterNote) (v : ℕ) → notes ≡ before ++ CommitSent place ∷ between → All (λ n. is_commit_at place n ≡ false) between → last_verifier place k before ≡ Some v
      → note ≡ CommitAnswered place v → CoveredNow place k notes note
  Before : IsCoveredBy place k notes → CoveredNow place k notes note

pub covered_now : (place k : ℕ) (notes : List WriterNote) (note : WriterNote) → IsCoveredBy place k (notes ++ note ∷ []) → CoveredNow place k notes note
covered_now place k notes note is =
    by_last (last_of notes note (is.before ++ CommitSent place ∷ is.between) (CommitAnswered place is.verifier) is.behind
    (is.split ∙ sym (append_assoc is.before (CommitSent place ∷ is.between) (CommitAnswered place is.verifier ∷ is.behind))))
  where
    by_last : LastOf notes note (is.before ++ CommitSent place ∷ is.between) (CommitAnswered place is.verifier) is.behind → CoveredNow place k notes note
    by_last (IsLast none eq last) = ByLast is.before is.between is.verifier eq is.its_answer is.last last
    by_last (IsBehind rest ends eq) = Before (record {
      before = is.before;
      between = is.between;
      behind = rest;
      verifier = is.verifier;
      split = eq ∙ append_assoc is.before (CommitSent place ∷ is.between) (CommitAnswered place is.verifier ∷ rest);
      its_answer = is.its_answer;
      last = is.last;
    })

-- no answer to a COMMIT of this place is noted
abbrev pub IsQuiet : ℕ → List WriterNote → Type 0
IsQuiet place added = (added ≡ []) ⊎ ((note : WriterNote) × (added ≡ note ∷ []) × ((v : ℕ) → note ≢ CommitAnswered place v))

pub covered_before : (place k : ℕ) (notes added : List WriterNote) → IsQuiet place added → IsCoveredBy place k (notes ++ added) → IsCoveredBy place k notes
covered_before place k notes added (inl none) is = subst (λ l. IsCoveredBy place k l) (append-nil notes) (subst (λ l. IsCoveredBy place k (notes ++ l)) none is)
covered_before place k notes added (inr (note, one, other)) is = by_now (covered_now place k notes note (subst (λ l. IsCoveredBy place k (notes ++ l)) one is))
  where
    by_now : CoveredNow place k notes note → IsCoveredBy place k notes
    by_now (Before so) = so
    by_now (ByLast before between v split quiet last note_is) = absurd (other v note_is)

pub away_quiet : (place : ℕ) (added : List WriterNote) → IsAway place added → IsQuiet place added
away_quiet place added (NoNote is) = inl is
away_quiet place added (OtherNote note is other) = inr (note, is, λ v same. other (ap note_place same))

-- ---- a COMMIT is out

pub record SentNow (place : ℕ) (notes : List WriterNote) : Type 0 where
  pub before : List WriterNote
  pub between : List WriterNote
  pub split : notes ≡ before ++ CommitSent place ∷ between
  pub quiet : All (λ note. is_commit_at place note ≡ false) between
  pub same : (k : ℕ) → last_verifier place k before ≡ last_verifier place k notes

pub sent_still : (place : ℕ) (notes added : List WriterNote) → IsAway place added → SentNow place notes → SentNow place (notes ++ added)
sent_still place notes added away is = record {
  before = is.before;
  between = is.between ++ added;
  split = ap (λ l. l ++ added) is.split ∙ append_assoc is.before (CommitSent place ∷ is.between) added;
  quiet = All-append (λ note. is_commit_at place note ≡ false) is.between added is.quiet (quiet_added away);
  same = λ k. is.same k ∙ sym (last_away place k notes added away);
}
  where
    quiet_added : IsAway place added → All (λ note. is_commit_at place note ≡ false) added
    quiet_added (NoNote none) = subst (λ l. All (λ note. is_commit_at place note ≡ false) l) (sym none) (λ k d within. absurd (omega (arith, within)))
    quiet_added (OtherNote note one other) = subst (λ l. All (λ note. is_commit_at place note ≡ false) l) (sym one) (only note (other_commit place note other))
      where
        only : (note : WriterNote) → is_commit_at place note ≡ false → All (λ note. is_commit_at place note ≡ false) (note ∷ [])
        only note is zero d within = is
        only note is (suc k) d within = absurd (omega (arith, within))

pub sent_first : (place : ℕ) (notes : List WriterNote) → SentNow place (notes ++ CommitSent place ∷ [])
sent_first place notes = record {
  before = notes;
  between = [];
  split = refl;
  quiet = λ k d within. absurd (omega (arith, within));
  same = λ k. sym (last_sent place k notes);
}
