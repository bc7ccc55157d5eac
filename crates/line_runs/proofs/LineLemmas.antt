-- How a line is cut off bytes that come in pieces, and the lines of a script.
use Rattle.std.proofs.Common.{◌≡◌, ◌≢◌, ℕ, zero, suc, ◌+◌, ◌-◌, ◌<◌, ◌≤◌, Bool, true, false, cond, List, [], ◌∷◌, ◌++◌, length, take, drop, min, nat_lt, slice_range, get_or, Option, Some, None, Result, Ok, Err, refl, sym, ap, subst, ◌∙◌, arith, ⊎_elim, leb, eqb}
use Rattle.std.proofs.Math.Dec.{leb-suc-suc}
use Rattle.std.proofs.lemmas.List.{append-nil, append_assoc, length-append, length-take, drop-take, drop-drop, take-append-drop, take_at, take-take}
use Rattle.std.proofs.lemmas.Bool.{cases_eq, eq-eqb, eqb-true, ne_eqb, le-leb, lt-leb, lt-ltb, cond-true, cond-false}
use Rattle.memchr.specs.Find.{IsFirstByte, is_byte}
use Rattle.rpc_record.specs.declared.stream.Failed.{Failed}
use Rattle.rpc_record.specs.Stream.{Reads}
use Rattle.rpc_record.specs.declared.stream.Failed.TheVariants.{Fault, NoMemory}
use Rattle.line_runs.specs.declared.lines.Ended.{Ended}
use Rattle.line_runs.specs.declared.lines.Ended.TheVariants.{Newline, End, PastBudget as RanOver}
use Rattle.line_runs.specs.Lines.{Cut, Line, Last, PastBudget, onto, cut_line, onto_first, onto_ended, lines_of, ended_lines, script_lines, Drawn, Keeps, ReadsLine, IsWithinBudget, Refills, TakesLine, HoldsLine, HoldsNoLine, MovesOut}

-- these bytes in front of the line
abbrev pub before : List ℕ → Cut → Cut
before [] cut = cut
before (b ∷ bs) cut = onto b (before bs cut)

pub before-line : (bs line rest : List ℕ) → before bs (Line line rest) ≡ Line (bs ++ line) rest
before-line [] line rest = refl
before-line (b ∷ bs) line rest = ap (onto b) (before-line bs line rest)

pub before-last : (bs line : List ℕ) → before bs (Last line) ≡ Last (bs ++ line)
before-last [] line = refl
before-last (b ∷ bs) line = ap (onto b) (before-last bs line)

pub before-over : (bs : List ℕ) → before bs PastBudget ≡ PastBudget
before-over [] = refl
before-over (b ∷ bs) = ap (onto b) (before-over bs)

pub before-append : (bs cs : List ℕ) (cut : Cut) → before (bs ++ cs) cut ≡ before bs (before cs cut)
before-append [] cs cut = refl
before-append (b ∷ bs) cs cut = ap (onto b) (before-append bs cs cut)

-- what `onto` was given
pub onto-line : (b : ℕ) (cut : Cut) (line rest : List ℕ) → onto b cut ≡ Line line rest → (tail : List ℕ) × (cut ≡ Line tail rest) × (line ≡ b ∷ tail)
onto-line b (Line tail others) line rest h = (tail, cc, cc)
onto-line b (Last tail) line rest h = absurd (cc)
onto-line b PastBudget line rest h = absurd (cc)

pub onto-last : (b : ℕ) (cut : Cut) (line : List ℕ) → onto b cut ≡ Last line → (tail : List ℕ) × (cut ≡ Last tail) × (line ≡ b ∷ tail)
onto-last b (Line tail others) line h = absurd (cc)
onto-last b (Last tail) line h = (tail, refl, cc)
onto-last b PastBudget line h = absurd (cc)

pub onto-over : (b : ℕ) (cut : Cut) → onto b cut ≡ PastBudget → cut ≡ PastBudget
onto-over b (Line tail others) h = absurd (cc)
onto-over b (Last tail) h = absurd (cc)
onto-over b PastBudget h = refl

-- a step of `cut_line`
pub cut_newline : (n b : ℕ) (bs : List ℕ) → b ≡ 10 → cut_line (suc n) (b ∷ bs) ≡ Line [] bs
unfolding cut_line
cut_newline n b bs is = cond-true (eqb b 10) _ _ (eq-eqb b 10 is)

pub cut_other : (n b : ℕ) (bs : List ℕ) → b ≢ 10 → cut_line (suc n) (b ∷ bs) ≡ onto b (cut_line n bs)
unfolding cut_line
cut_other n b bs not = cond-false (eqb b 10) _ _ (ne_eqb b 10 not)

pub cut_nil : (n : ℕ) → cut_line n [] ≡ Last []
unfolding cut_line
cut_nil n = refl

pub cut_zero : (b : ℕ) (bs : List ℕ) → cut_line zero (b ∷ bs) ≡ PastBudget
unfolding cut_line
cut_zero b bs = refl

-- What the place of the first newline says of the cut.
pub cut_at : (n k : ℕ) (bs : List ℕ) → k < n → k < length bs → ((j : ℕ) → j < k → get_or bs j 0 ≢ 10) → get_or bs k 0 ≡ 10
    → cut_line n bs ≡ Line (take k bs) (drop (suc k) bs)
cut_at zero k bs room within none is = absurd (omega arith)
cut_at (suc n) k [] room within none is = absurd (omega arith)
cut_at (suc n) zero (b ∷ bs) room within none is = cut_newline n b bs is
cut_at (suc n) (suc k) (b ∷ bs) room within none is =
    cut_other n b bs (none 0 (omega arith)) ∙ ap (onto b) (cut_at n k bs (omega arith) (omega arith) (λ j below. none (suc j) (omega arith)) is)

pub cut_none : (n : ℕ) (bs : List ℕ) → length bs ≤ n → ((j : ℕ) → j < length bs → get_or bs j 0 ≢ 10) → cut_line n bs ≡ Last bs
cut_none n [] room none = cut_nil n
cut_none zero (b ∷ bs) room none = absurd (omega arith)
cut_none (suc n) (b ∷ bs) room none =
    cut_other n b bs (none 0 (omega arith)) ∙ ap (onto b) (cut_none n bs (omega arith) (λ j below. none (suc j) (omega arith)))

pub cut_beyond : (n : ℕ) (bs : List ℕ) → n < length bs → ((j : ℕ) → j < n → get_or bs j 0 ≢ 10) → cut_line n bs ≡ PastBudget
cut_beyond n [] beyond none = absurd (omega arith)
cut_beyond zero (b ∷ bs) beyond none = cut_zero b bs
cut_beyond (suc n) (b ∷ bs) beyond none =
    cut_other n b bs (none 0 (omega arith)) ∙ ap (onto b) (cut_beyond n bs (omega arith) (λ j below. none (suc j) (omega arith)))

-- The same, of what a search for the first newline found.
pub found_within : (room at : ℕ) (bs held : List ℕ) → bs ≡ held → at < room → IsFirstByte (is_byte 10) bs (Some at)
    → cut_line room held ≡ Line (take at bs) (drop (at + 1) held)
found_within room at bs held same within found =
    let next : suc at ≡ at + 1 = omega arith in
    ap (cut_line room) (sym same)
    ∙ cut_at room at bs within found.0.high (λ j below is. found.0.before j (omega arith) below (eq-eqb _ 10 is)) (eqb-true _ 10 found.1)
    ∙ ap (λ l. Line (take at bs) (drop (suc at) l)) same ∙ ap (λ k. Line (take at bs) (drop k held)) next

pub found_beyond : (room at : ℕ) (bs held : List ℕ) → bs ≡ held → room ≤ at → IsFirstByte (is_byte 10) bs (Some at) → cut_line room held ≡ PastBudget
found_beyond room at bs held same beyond found =
    ap (cut_line room) (sym same)
    ∙ cut_beyond room bs (omega (arith, found.0.high)) (λ j below is. found.0.before j (omega arith) (omega arith) (eq-eqb _ 10 is))

pub not_found_within : (room : ℕ) (bs held : List ℕ) → bs ≡ held → length bs ≤ room → IsFirstByte (is_byte 10) bs None → cut_line room held ≡ Last held
not_found_within room bs held same within found =
    ap (cut_line room) (sym same) ∙ cut_none room bs within (λ j below is. found j (omega arith) below (eq-eqb _ 10 is)) ∙ ap Last same

pub not_found_beyond : (room : ℕ) (bs held : List ℕ) → bs ≡ held → room < length bs → IsFirstByte (is_byte 10) bs None → cut_line room held ≡ PastBudget
not_found_beyond room bs held same beyond found =
    ap (cut_line room) (sym same) ∙ cut_beyond room bs beyond (λ j below is. found j (omega arith) (omega arith) (eq-eqb _ 10 is))

-- a part of a list, without its first bytes
pub slice_range-drop : (bs : List ℕ) (start end n : ℕ) → n ≤ end - start → slice_range bs (start + n) end ≡ drop n (slice_range bs start end)
slice_range-drop bs start end n within =
    let size : end - start ≡ n + (end - (start + n)) = omega arith in
    sym (ap (λ k. drop n (take k (drop start bs))) size ∙ drop-take n (end - (start + n)) (drop start bs) ∙ ap (take (end - (start + n))) (drop-drop n start bs))

-- what is held once bytes and a newline were taken
pub taken_rest : (piece : List ℕ) (start end at : ℕ) (held : List ℕ) → slice_range piece start end ≡ held → at < length held
    → drop (at + 1) held ≡ slice_range piece (start + (at + 1)) end
taken_rest piece start end at held is within =
    let size : length held ≡ min (end - start) (length (drop start piece)) = ap length (sym is) ∙ length-take (end - start) (drop start piece) in
    ap (drop (at + 1)) (sym is) ∙ sym (slice_range-drop piece start end (at + 1) (omega arith))

-- what was copied from the front of the held bytes was moved out of them
pub moved_out : (piece : List ℕ) (start end n : ℕ) (held copied others : List ℕ) → slice_range piece start end ≡ held → copied ≡ slice_range piece start (start + n) → length copied ≡ n → n ≤ end - start → n ≤ length held
    → MovesOut held (copied ++ others) n (slice_range piece (start + n) end)
moved_out piece start end n held copied others is copies size within held_within =
    let count : (start + n) - start ≡ n = omega arith in
    record {
      within = held_within;
      same = take_at copied others n size ∙ copies ∙ ap (λ k. take k (drop start piece)) count ∙ sym (take-take n (end - start) (drop start piece) within) ∙ ap (take n) is;
      rest = slice_range-drop piece start end n within ∙ ap (drop n) is;
    }

-- The cut of more bytes, by the cut of the first of them.
pub cut_more-line : (n : ℕ) (bs more line rest : List ℕ) → cut_line n bs ≡ Line line rest → cut_line n (bs ++ more) ≡ Line line (rest ++ more)
cut_more-line n [] more line rest is = absurd (cc (cut_nil n))
cut_more-line zero (b ∷ bs) more line rest is = absurd (cc (cut_zero b bs))
cut_more-line (suc n) (b ∷ bs) more line rest is =
    ⊎_elim
    (λ newline.
    let whole : cut_line (suc n) (b ∷ (bs ++ more)) ≡ Line [] (bs ++ more) = cut_newline n b (bs ++ more) newline in
    let first : Line [] bs ≡ Line line rest = sym (cut_newline n b bs newline) ∙ is in cc)
    (λ other.
    let parts = onto-line b (cut_line n bs) line rest (sym (cut_other n b bs other) ∙ is) in
    let whole : cut_line (suc n) (b ∷ (bs ++ more)) ≡ onto b (cut_line n (bs ++ more)) = cut_other n b (bs ++ more) other in
    whole ∙ ap (onto b) (cut_more-line n bs more parts.0 rest parts.1) ∙ ap (λ l. Line l (rest ++ more)) (sym parts.2))
    (cases_eq b 10)

pub cut_more-over : (n : ℕ) (bs more : List ℕ) → cut_line n bs ≡ PastBudget → cut_line n (bs ++ more) ≡ PastBudget
cut_more-over n [] more is = absurd (cc (cut_nil n))
cut_more-over zero (b ∷ bs) more is = cut_zero b (bs ++ more)
cut_more-over (suc n) (b ∷ bs) more is =
    ⊎_elim
    (λ newline. absurd (cc (cut_newline n b bs newline)))
    (λ other.
    let whole : cut_line (suc n) (b ∷ (bs ++ more)) ≡ onto b (cut_line n (bs ++ more)) = cut_other n b (bs ++ more) other in
    whole ∙ ap (onto b) (cut_more-over n bs more (onto-over b (cut_line n bs) (sym (cut_other n b bs other) ∙ is))))
    (cases_eq b 10)

pub cut_more-last : (n : ℕ) (bs more line : List ℕ) → cut_line n bs ≡ Last line → cut_line n (bs ++ more) ≡ before bs (cut_line (n - length bs) more)
cut_more-last n [] more line is = ap (λ k. cut_line k more) (let e : n ≡ n - 0 = omega arith in e)
cut_more-last zero (b ∷ bs) more line is = absurd (cc (cut_zero b bs))
cut_more-last (suc n) (b ∷ bs) more line is =
    ⊎_elim
    (λ newline. absurd (cc (cut_newline n b bs newline)))
    (λ other.
    let parts = onto-last b (cut_line n bs) line (sym (cut_other n b bs other) ∙ is) in
    let whole : cut_line (suc n) (b ∷ (bs ++ more)) ≡ onto b (cut_line n (bs ++ more)) = cut_other n b (bs ++ more) other in
    let room : n - length bs ≡ suc n - suc (length bs) = omega arith in
    whole ∙ ap (onto b) (cut_more-last n bs more parts.0 parts.1 ∙ ap (λ k. before bs (cut_line k more)) room))
    (cases_eq b 10)

-- How long the parts are.
pub line_length : (n : ℕ) (bs line rest : List ℕ) → cut_line n bs ≡ Line line rest → (length bs ≡ length line + 1 + length rest) × (length line + 1 ≤ n)
line_length n [] line rest is = absurd (cc (cut_nil n))
line_length zero (b ∷ bs) line rest is = absurd (cc (cut_zero b bs))
line_length (suc n) (b ∷ bs) line rest is =
    ⊎_elim
    (λ newline.
    let first : Line [] bs ≡ Line line rest = sym (cut_newline n b bs newline) ∙ is in
    let empty : [] ≡ line = cc in
    let behind : bs ≡ rest = cc in
    let none : 0 ≡ length line = ap length empty in
    let same : length bs ≡ length rest = ap length behind in (omega arith, omega arith))
    (λ other.
    let parts = onto-line b (cut_line n bs) line rest (sym (cut_other n b bs other) ∙ is) in
    let lengths = line_length n bs parts.0 rest parts.1 in
    let one_more : length line ≡ suc (length parts.0) = ap length parts.2 in (omega (arith, lengths.0), omega (arith, lengths.1)))
    (cases_eq b 10)

pub last_length : (n : ℕ) (bs line : List ℕ) → cut_line n bs ≡ Last line → (bs ≡ line) × (length bs ≤ n)
last_length n [] line is = (cc (cut_nil n), omega arith)
last_length zero (b ∷ bs) line is = absurd (cc (cut_zero b bs))
last_length (suc n) (b ∷ bs) line is =
    ⊎_elim
    (λ newline. absurd (cc (cut_newline n b bs newline)))
    (λ other.
    let parts = onto-last b (cut_line n bs) line (sym (cut_other n b bs other) ∙ is) in
    let rest = last_length n bs parts.0 parts.1 in (ap (λ l. b ∷ l) rest.0 ∙ sym parts.2, omega (arith, rest.1)))
    (cases_eq b 10)

pub over_length : (n : ℕ) (bs : List ℕ) → cut_line n bs ≡ PastBudget → n < length bs
over_length n [] is = absurd (cc (cut_nil n))
over_length zero (b ∷ bs) is = omega arith
over_length (suc n) (b ∷ bs) is =
    ⊎_elim
    (λ newline. absurd (cc (cut_newline n b bs newline)))
    (λ other. omega (arith, over_length n bs (onto-over b (cut_line n bs) (sym (cut_other n b bs other) ∙ is))))
    (cases_eq b 10)

-- A step of `script_lines`: both of its branches take it.
both_newline : (t u : Bool) (x y p q : List (List ℕ)) → u ≡ true → cond t (cond u ([] ∷ x) p) (cond u ([] ∷ y) q) ≡ [] ∷ cond t x y
both_newline true u x y p q is = cond-true u _ _ is
both_newline false u x y p q is = cond-true u _ _ is

both_other : (t u : Bool) (b : ℕ) (x y p q : List (List ℕ)) (line : List ℕ) (lines : List (List ℕ)) → u ≡ false → cond t x y ≡ line ∷ lines
    → cond t (cond u p (onto_first b x)) (cond u q (onto_ended b y)) ≡ (b ∷ line) ∷ lines
both_other true u b x y p q line lines not is = cond-false u _ _ not ∙ ap (onto_first b) is
both_other false u b x y p q line lines not is = cond-false u _ _ not ∙ ap (onto_ended b) is

script_newline : (n b : ℕ) (bs : List ℕ) → b ≡ 10 → script_lines (suc n) (b ∷ bs) ≡ [] ∷ script_lines n bs
unfolding script_lines lines_of ended_lines
script_newline n b bs newline =
    ap (λ t. cond t (lines_of (b ∷ bs)) (ended_lines (b ∷ take n bs))) (leb-suc-suc (length bs) n)
    ∙ both_newline (leb (length bs) n) (eqb b 10) (lines_of bs) (ended_lines (take n bs)) _ _ (eq-eqb b 10 newline)

script_other : (n b : ℕ) (bs line : List ℕ) (lines : List (List ℕ)) → b ≢ 10 → script_lines n bs ≡ line ∷ lines → script_lines (suc n) (b ∷ bs) ≡ (b ∷ line) ∷ lines
unfolding script_lines lines_of ended_lines
script_other n b bs line lines other is =
    ap (λ t. cond t (lines_of (b ∷ bs)) (ended_lines (b ∷ take n bs))) (leb-suc-suc (length bs) n)
    ∙ both_other (leb (length bs) n) (eqb b 10) b (lines_of bs) (ended_lines (take n bs)) _ _ line lines (ne_eqb b 10 other) is

-- The lines of a script, by its first cut.
pub script_line : (n : ℕ) (bs line rest : List ℕ) → cut_line n bs ≡ Line line rest → script_lines n bs ≡ line ∷ script_lines (n - (length line + 1)) rest
script_line n [] line rest is = absurd (cc (cut_nil n))
script_line zero (b ∷ bs) line rest is = absurd (cc (cut_zero b bs))
script_line (suc n) (b ∷ bs) line rest is =
    ⊎_elim
    (λ newline.
    let first : Line [] bs ≡ Line line rest = sym (cut_newline n b bs newline) ∙ is in
    let empty : [] ≡ line = cc in
    let none : 0 ≡ length line = ap length empty in
    let room : suc n - (length line + 1) ≡ n = omega arith in cc (script_newline n b bs newline))
    (λ other.
    let parts = onto-line b (cut_line n bs) line rest (sym (cut_other n b bs other) ∙ is) in
    let one_more : length line ≡ suc (length parts.0) = ap length parts.2 in
    let room : n - (length parts.0 + 1) ≡ suc n - (length line + 1) = omega arith in
    script_other n b bs parts.0 _ other (script_line n bs parts.0 rest parts.1)
    ∙ ap (λ l. l ∷ script_lines (n - (length parts.0 + 1)) rest) (sym parts.2) ∙ ap (λ k. line ∷ script_lines k rest) room)
    (cases_eq b 10)

-- the lines of bytes with no newline, behind one more
last_lines : (n b : ℕ) (bs line : List ℕ) → cut_line n bs ≡ Last line → onto_first b (lines_of bs) ≡ (b ∷ line) ∷ []
unfolding lines_of
last_lines n b [] line is = let empty : [] ≡ line = cc (cut_nil n) in ap (λ l. (b ∷ l) ∷ []) empty
last_lines zero b (c ∷ bs) line is = absurd (cc (cut_zero c bs))
last_lines (suc n) b (c ∷ bs) line is =
    ⊎_elim
    (λ newline. absurd (cc (cut_newline n c bs newline)))
    (λ other.
    let parts = onto-last c (cut_line n bs) line (sym (cut_other n c bs other) ∙ is) in
    ap (onto_first b) (cond-false (eqb c 10) _ _ (ne_eqb c 10 other) ∙ last_lines n c bs parts.0 parts.1) ∙ ap (λ l. (b ∷ l) ∷ []) (sym parts.2))
    (cases_eq c 10)

pub script_end : (n : ℕ) (bs : List ℕ) → cut_line n bs ≡ Last [] → (bs ≡ []) × (script_lines n bs ≡ [])
unfolding script_lines lines_of
script_end n [] is = (refl, cond-true (leb 0 n) _ _ (le-leb 0 n (omega arith)))
script_end n (b ∷ bs) is = let whole = last_length n (b ∷ bs) [] is in absurd (cc (whole.0))

pub script_last : (n : ℕ) (bs line : List ℕ) → cut_line n bs ≡ Last line → line ≢ [] → (script_lines n bs ≡ line ∷ []) × (bs ≡ line) × (length bs ≤ n)
unfolding script_lines lines_of
script_last n [] line is some = absurd (some (cc (cut_nil n)))
script_last zero (b ∷ bs) line is some = absurd (cc (cut_zero b bs))
script_last (suc n) (b ∷ bs) line is some =
    let whole = last_length (suc n) (b ∷ bs) line is in (
      ⊎_elim
          (λ newline. absurd (cc (cut_newline n b bs newline)))
          (λ other.
          let parts = onto-last b (cut_line n bs) line (sym (cut_other n b bs other) ∙ is) in
          cond-true (leb (suc (length bs)) (suc n)) _ _ (le-leb (suc (length bs)) (suc n) whole.1)
          ∙ cond-false (eqb b 10) _ _ (ne_eqb b 10 other) ∙ last_lines n b bs parts.0 parts.1 ∙ ap (λ l. l ∷ []) (sym parts.2))
          (cases_eq b 10),
      whole.0,
      whole.1,
    )

pub over_lines : (n : ℕ) (bs : List ℕ) → cut_line n bs ≡ PastBudget → ended_lines (take n bs) ≡ []
unfolding ended_lines
over_lines n [] is = absurd (cc (cut_nil n))
over_lines zero (b ∷ bs) is = refl
over_lines (suc n) (b ∷ bs) is =
    ⊎_elim
    (λ newline. absurd (cc (cut_newline n b bs newline)))
    (λ other.
    cond-false (eqb b 10) _ _ (ne_eqb b 10 other)
    ∙ ap (onto_ended b) (over_lines n bs (onto-over b (cut_line n bs) (sym (cut_other n b bs other) ∙ is))))
    (cases_eq b 10)

pub script_over : (n : ℕ) (bs : List ℕ) → cut_line n bs ≡ PastBudget → (script_lines n bs ≡ []) × (n < length bs)
unfolding script_lines
script_over n bs is =
    let beyond = over_length n bs is in (cond-false (leb (length bs) n) _ _ (lt-leb (length bs) n beyond) ∙ over_lines n bs is, beyond)

-- ---- filling a buffer

pub empty_range : (bs : List ℕ) (start end : ℕ) → end ≤ start → slice_range bs start end ≡ []
empty_range bs start end none = let none : end - start ≡ 0 = omega arith in ap (λ k. take k (drop start bs)) none

pub refills_held : (held : List ℕ) (left : Option (List ℕ)) → Refills held left (Ok true) held left
refills_held held None = refl
refills_held held (Some rest) = record { drawn = record { front = []; rest = rest; told = refl; whole = refl }; kept = sym (append-nil held) }

pub refills_read : (held new : List ℕ) (left left' : Option (List ℕ)) (piece : List ℕ) (count : ℕ) → held ≡ [] → new ≡ take count piece → 0 < length piece → Reads left piece (Ok count) left' → Refills held left (Ok (nat_lt 0 count)) new left'
refills_read held new None left' piece count none now some read = read
refills_read held new (Some rest) left' piece zero none now some read =
    let end = read.at_end refl some in (none, now, end, read.rest ∙ ap (λ bs. Some bs) end)
refills_read held new (Some rest) left' piece (suc n) none now some read =
    let keeps : Keeps held rest [] new left' = record {
      drawn = record { front = take (suc n) rest; rest = drop (suc n) rest; told = read.rest; whole = take-append-drop (suc n) rest };
      kept = now ∙ read.same ∙ ap (λ bs. bs ++ take (suc n) rest) (sym none);
    } in
    subst (λ (b : Bool). Refills held (Some rest) (Ok b) new left') (sym (lt-ltb 0 (suc n) (omega arith))) keeps

-- The lines that end in a newline, of bytes within the budget, by the first cut.
pub ended_line : (n : ℕ) (bs line rest : List ℕ) → cut_line n bs ≡ Line line rest → ended_lines (take n bs) ≡ line ∷ ended_lines (take (n - (length line + 1)) rest)
unfolding ended_lines
ended_line n [] line rest is = absurd (cc (cut_nil n))
ended_line zero (b ∷ bs) line rest is = absurd (cc (cut_zero b bs))
ended_line (suc n) (b ∷ bs) line rest is =
    ⊎_elim
    (λ newline.
    let first : Line [] bs ≡ Line line rest = sym (cut_newline n b bs newline) ∙ is in
    let empty : [] ≡ line = cc in
    let behind : bs ≡ rest = cc in
    let none : 0 ≡ length line = ap length empty in
    let room : n ≡ suc n - (length line + 1) = omega arith in
    cond-true (eqb b 10) _ _ (eq-eqb b 10 newline) ∙ ap (λ l. l ∷ ended_lines (take n bs)) empty
    ∙ ap (λ r. line ∷ ended_lines (take n r)) behind ∙ ap (λ k. line ∷ ended_lines (take k rest)) room)
    (λ other.
    let parts = onto-line b (cut_line n bs) line rest (sym (cut_other n b bs other) ∙ is) in
    let one_more : length line ≡ suc (length parts.0) = ap length parts.2 in
    let room : n - (length parts.0 + 1) ≡ suc n - (length line + 1) = omega arith in
    cond-false (eqb b 10) _ _ (ne_eqb b 10 other) ∙ ap (onto_ended b) (ended_line n bs parts.0 rest parts.1)
    ∙ ap (λ l. l ∷ ended_lines (take (n - (length parts.0 + 1)) rest)) (sym parts.2) ∙ ap (λ k. line ∷ ended_lines (take k rest)) room)
    (cases_eq b 10)

pub ended_last : (n : ℕ) (bs line : List ℕ) → cut_line n bs ≡ Last line → ended_lines (take n bs) ≡ []
unfolding ended_lines
ended_last zero [] line is = refl
ended_last (suc n) [] line is = refl
ended_last zero (b ∷ bs) line is = absurd (cc (cut_zero b bs))
ended_last (suc n) (b ∷ bs) line is =
    ⊎_elim
    (λ newline. absurd (cc (cut_newline n b bs newline)))
    (λ other.
    let parts = onto-last b (cut_line n bs) line (sym (cut_other n b bs other) ∙ is) in
    cond-false (eqb b 10) _ _ (ne_eqb b 10 other) ∙ ap (onto_ended b) (ended_last n bs parts.0 parts.1))
    (cases_eq b 10)

-- What is so before each piece: the line so far is the front of the bytes, and has no newline.
pub record IsBeginningOf (budget : ℕ) (old first line held : List ℕ) (left : Option (List ℕ)) : Type 0 where
  pub keeps : Keeps old first line held left
  pub cut : cut_line budget line ≡ Last line

abbrev pub Begun : ℕ → List ℕ → Option (List ℕ) → List ℕ → List ℕ → Option (List ℕ) → Type 0
Begun budget old None line held left = left ≡ None
Begun budget old (Some first) line held left = IsBeginningOf budget old first line held left

pub begun_at_first : (budget : ℕ) (old : List ℕ) (first : Option (List ℕ)) → Begun budget old first [] old first
begun_at_first budget old None = refl
begun_at_first budget old (Some first) = record {
  keeps = record { drawn = record { front = []; rest = first; told = refl; whole = refl }; kept = sym (append-nil old) };
  cut = cut_nil budget;
}

-- What the source gave at first and then.
pub drawn_again : (first left : List ℕ) (left1 left2 : Option (List ℕ)) (one : Drawn first left1) → left1 ≡ Some left → (two : Drawn left left2) → (both : Drawn first left2) × (both.front ≡ one.front ++ two.front)
drawn_again first left left1 left2 one is two =
    let same : left ≡ one.rest = some_list (sym is ∙ one.told) in (
      record {
        front = one.front ++ two.front;
        rest = two.rest;
        told = two.told;
        whole = append_assoc one.front two.front two.rest ∙ ap (λ bs. one.front ++ bs) (two.whole ∙ same) ∙ one.whole;
      },
      refl,
    )
  where
    some_list : {x y : List ℕ} → Some x ≡ Some y → x ≡ y
    some_list e = cc

-- after a piece was read
pub begun_refilled : (budget : ℕ) (old : List ℕ) (first : Option (List ℕ)) (line held : List ℕ) (left : Option (List ℕ)) (held' : List ℕ) (left' : Option (List ℕ))
    → Begun budget old first line held left → Refills held left (Ok true) held' left' → Begun budget old first line held' left'
begun_refilled budget old None line held None held' left' begun read = read
begun_refilled budget old None line held (Some rest) held' left' begun read = absurd (cc)
begun_refilled budget old (Some first) line held None held' left' begun read = absurd (cc (begun.keeps.drawn.told))
begun_refilled budget old (Some first) line held (Some rest) held' left' begun read =
    let one = begun.keeps.drawn in
    let both = drawn_again first rest (Some rest) left' one refl read.drawn in
    let kept : line ++ held' ≡ old ++ (one.front ++ read.drawn.front) =
    ap (λ bs. line ++ bs) read.kept ∙ sym (append_assoc line held read.drawn.front) ∙ ap (λ bs. bs ++ read.drawn.front) begun.keeps.kept ∙ append_assoc old one.front read.drawn.front in record {
      keeps = record { drawn = both.0; kept = kept ∙ ap (λ bs. old ++ bs) (sym both.1) };
      cut = begun.cut;
    }

-- the source failed, or has no more
none_left : (line old front : List ℕ) (held : List ℕ) → held ≡ [] → line ++ held ≡ old ++ front → line ≡ old ++ front
none_left line old front held none kept = sym (append-nil line) ∙ ap (λ bs. line ++ bs) (sym none) ∙ kept

pub reads_fault : (budget : ℕ) (old : List ℕ) (first : Option (List ℕ)) (line held : List ℕ) (left : Option (List ℕ)) (held' : List ℕ) (left' : Option (List ℕ)) (r : Result Bool Failed) (e : Failed) (q : Result Ended Failed) (f : Failed)
    → r ≡ Err e → q ≡ Err f → Begun budget old first line held left → Refills held left r held' left' → ReadsLine budget old first q line held' left'
reads_fault budget old first line held left held' left' (Ok b) e q f is so begun read = absurd (cc)
reads_fault budget old first line held left held' left' (Err d) e (Ok ended) f is so begun read = absurd (cc)
reads_fault budget old None line held None held' left' (Err d) e (Err g) f is so begun read = read
reads_fault budget old None line held (Some rest) held' left' (Err d) e (Err g) f is so begun read = absurd (cc)
reads_fault budget old (Some first) line held None held' left' (Err d) e (Err g) f is so begun read = absurd (cc (begun.keeps.drawn.told))
reads_fault budget old (Some first) line held (Some rest) held' left' (Err d) e (Err g) f is so begun read = at g
  where
    keeps : Keeps old first line held' left'
    keeps = record {
      drawn = record {
        front = begun.keeps.drawn.front;
        rest = begun.keeps.drawn.rest;
        told = read.2 ∙ begun.keeps.drawn.told;
        whole = begun.keeps.drawn.whole;
      };
      kept = ap (λ bs. line ++ bs) (read.1 ∙ sym read.0) ∙ begun.keeps.kept;
    }

    at : (h : Failed) → ReadsLine budget old (Some first) (Err h) line held' left'
    at Fault = record { keeps = keeps; none_held = read.1; cut = begun.cut }
    at NoMemory = keeps

pub reads_last : (budget : ℕ) (old : List ℕ) (first : Option (List ℕ)) (line held : List ℕ) (left : Option (List ℕ)) (held' : List ℕ) (left' : Option (List ℕ))
    → Begun budget old first line held left → Refills held left (Ok false) held' left' → ReadsLine budget old first (Ok End) line held' left'
reads_last budget old None line held None held' left' begun read = read
reads_last budget old None line held (Some rest) held' left' begun read = absurd (cc)
reads_last budget old (Some first) line held None held' left' begun read = absurd (cc (begun.keeps.drawn.told))
reads_last budget old (Some first) line held (Some rest) held' left' begun read =
    let one = begun.keeps.drawn in
    let rest_is : one.rest ≡ rest = cc (one.told) in
    let all : one.front ≡ first = sym (append-nil one.front) ∙ ap (λ bs. one.front ++ bs) (sym (rest_is ∙ read.2)) ∙ one.whole in
    let line_is : line ≡ old ++ first = none_left line old one.front held read.0 begun.keeps.kept ∙ ap (λ bs. old ++ bs) all in record {
      cut = ap (cut_line budget) (sym line_is) ∙ begun.cut;
      none_held = read.1;
      none_left = read.3;
    }

-- the cut of the line so far and what is held
cut_on : (budget room : ℕ) (line held : List ℕ) → room ≡ budget - length line → cut_line budget line ≡ Last line → cut_line budget (line ++ held) ≡ before line (cut_line room held)
cut_on budget room line held room_is whole = cut_more-last budget line held line whole ∙ ap (λ k. before line (cut_line k held)) (sym room_is)

-- After a line was looked for in what is held.
pub reads_line : (budget room : ℕ) (old : List ℕ) (first : Option (List ℕ)) (line held : List ℕ) (left : Option (List ℕ)) (ended : Ended) (held' line' : List ℕ)
    → room ≡ budget - length line → Begun budget old first line held left → TakesLine room held line (Ok (Some ended)) held' line'
    → ReadsLine budget old first (Ok ended) line' held' left
reads_line budget room old None line held left ended held' line' room_is begun takes = begun
reads_line budget room old (Some first) line held left Newline held' line' room_is begun takes = record {
  drawn = begun.keeps.drawn;
  cut = ap (cut_line budget) (sym begun.keeps.kept) ∙ cut_on budget room line held room_is begun.cut
      ∙ ap (before line) takes.2 ∙ before-line line takes.0 held' ∙ ap (λ l. Line l held') (sym takes.1);
}
reads_line budget room old (Some first) line held left End held' line' room_is begun takes = absurd takes
reads_line budget room old (Some first) line held left RanOver held' line' room_is begun takes = record {
  keeps = record { drawn = begun.keeps.drawn; kept = ap (λ l. l ++ held') takes.2 ∙ ap (λ h. line ++ h) takes.1 ∙ begun.keeps.kept };
  cut = ap (cut_line budget) (sym begun.keeps.kept) ∙ cut_on budget room line held room_is begun.cut ∙ ap (before line) takes.0 ∙ before-over line;
}

-- there was no memory for the line
pub reads_none : (budget room : ℕ) (old : List ℕ) (first : Option (List ℕ)) (line held : List ℕ) (left : Option (List ℕ)) (held' line' : List ℕ) (r : Result (Option Ended) Failed) (e : Failed) (q : Result Ended Failed) (f : Failed)
    → r ≡ Err e → q ≡ Err f → f ≡ e → Begun budget old first line held left → TakesLine room held line r held' line' → ReadsLine budget old first q line' held' left
reads_none budget room old first line held left held' line' (Ok o) e q f is so same begun takes = absurd (cc)
reads_none budget room old first line held left held' line' (Err d) e (Ok ended) f is so same begun takes = absurd (cc)
reads_none budget room old None line held left held' line' (Err d) e (Err g) f is so same begun takes = begun
reads_none budget room old (Some first) line held left held' line' (Err d) e (Err Fault) f is so same begun takes =
    let no : Fault ≡ NoMemory = cc (is, so, same, takes.0) in absurd (cc)
reads_none budget room old (Some first) line held left held' line' (Err d) e (Err NoMemory) f is so same begun takes =
    record { drawn = begun.keeps.drawn; kept = ap (λ l. l ++ held') takes.2 ∙ ap (λ h. line ++ h) takes.1 ∙ begun.keeps.kept }

pub begun_taken : (budget room : ℕ) (old : List ℕ) (first : Option (List ℕ)) (line held : List ℕ) (left : Option (List ℕ)) (held' line' : List ℕ)
    → room ≡ budget - length line → Begun budget old first line held left → TakesLine room held line (Ok None) held' line' → Begun budget old first line' held' left
begun_taken budget room old None line held left held' line' room_is begun takes = begun
begun_taken budget room old (Some first) line held left held' line' room_is begun takes = rw (takes.2, takes.1) record {
  keeps = record { drawn = begun.keeps.drawn; kept = append-nil (line ++ held) ∙ begun.keeps.kept };
  cut = cut_on budget room line held room_is begun.cut ∙ ap (before line) takes.0 ∙ before-last line held;
}

pub is_within : (budget room : ℕ) (line held : List ℕ) (ended : Ended) (held' line' : List ℕ) → room ≡ budget - length line → length line ≤ budget
    → TakesLine room held line (Ok (Some ended)) held' line' → IsWithinBudget budget ended line'
is_within budget room line held Newline held' line' room_is within takes =
    let size : length line' ≡ length line + length takes.0 = ap length takes.1 ∙ length-append line takes.0 in
    let more = line_length room held takes.0 held' takes.2 in omega (arith, more.1)
is_within budget room line held End held' line' room_is within takes = absurd takes
is_within budget room line held RanOver held' line' room_is within takes =
    let size : length line' ≡ length line = ap length takes.2 in omega arith

pub taken_length : (budget room : ℕ) (line held held' line' : List ℕ) → room ≡ budget - length line → length line ≤ budget
    → TakesLine room held line (Ok None) held' line' → (length line' ≤ budget) × (length line' ≡ length line + length held)
taken_length budget room line held held' line' room_is within takes =
    let size : length line' ≡ length line + length held = ap length takes.2 ∙ length-append line held in
    let fits = last_length room held held takes.0 in (omega (arith, fits.1), size)

-- ---- whether a line is held

pub holds_some : (held : List ℕ) → HoldsLine held → 0 < length held
holds_some held h = omega (arith, h.1)

-- what a search for the first newline says of it
pub line_found : (bs held : List ℕ) (at : ℕ) → bs ≡ held → IsFirstByte (is_byte 10) bs (Some at) → HoldsLine held
line_found bs held at same found = subst HoldsLine same (at, found.0.high, eqb-true _ 10 found.1)

pub none_found : (bs held : List ℕ) → bs ≡ held → IsFirstByte (is_byte 10) bs None → HoldsNoLine held
none_found bs held same found = subst HoldsNoLine same (λ j below is. found j (omega arith) below (eq-eqb _ 10 is))

-- a last line has no newline in it
pub last_holds_none : (n : ℕ) (bs line : List ℕ) → cut_line n bs ≡ Last line → HoldsLine bs → ⊥
last_holds_none n [] line is h = absurd (omega (arith, h.1))
last_holds_none zero (b ∷ bs) line is h = absurd (cc (cut_zero b bs))
last_holds_none (suc n) (b ∷ bs) line is (zero, below, newline) = absurd (cc (cut_newline n b bs newline))
last_holds_none (suc n) (b ∷ bs) line is (suc j, below, newline) =
    ⊎_elim
    (λ first. absurd (cc (cut_newline n b bs first)))
    (λ other.
    let parts = onto-last b (cut_line n bs) line (sym (cut_other n b bs other) ∙ is) in
    last_holds_none n bs parts.0 parts.1 (j, omega (arith, below), newline))
    (cases_eq b 10)

-- The source is not asked while a line is held.
pub unasked_again : {S : Type 0} (first held held' : List ℕ) (s s' s2 : S) → (HoldsLine first → (held ≡ first) × (s' ≡ s)) → (0 < length held → (held' ≡ held) × (s2 ≡ s')) → HoldsLine first → (held' ≡ first) × (s2 ≡ s)
unasked_again first held held' s s' s2 so far h =
    let one = so h in
    let some : 0 < length held = subst (λ (x : List ℕ). 0 < length x) (sym one.0) (holds_some first h) in
    let two = far some in (two.0 ∙ one.0, two.1 ∙ one.1)

-- so where a line was held first, refilling is no error
pub refill_holds : {S : Type 0} (first held : List ℕ) (s s' : S) (r : Result Bool Failed) (e : Failed) → r ≡ Err e → (HoldsLine first → (held ≡ first) × (s' ≡ s)) → (0 < length held → r ≡ Ok true) → HoldsLine first → ⊥
refill_holds first held s s' r e is so_far far h =
    let ok : r ≡ Ok true = far (subst (λ (x : List ℕ). 0 < length x) (sym (so_far h).0) (holds_some first h)) in
    absurd (cc (is, ok))

-- and taking a line is no fault of the source
pub taking_is_no_fault : (room : ℕ) (held line held' line' : List ℕ) (r : Result (Option Ended) Failed) (e : Failed) (q : Result Ended Failed) (f : Failed)
    → r ≡ Err e → q ≡ Err f → f ≡ e → TakesLine room held line r held' line' → q ≢ Err Fault
taking_is_no_fault room held line held' line' (Ok x) e q f is so same takes fault = absurd (cc)
taking_is_no_fault room held line held' line' (Err d) e q f is so same takes fault = let no : Fault ≡ NoMemory = cc (is, so, same, takes.0, fault) in absurd (cc)
