-- The counts of entries, one entry after the other.
use Rattle.std.proofs.Common.{◌≡◌, ℕ, zero, suc, ◌+◌, ◌<◌, ◌≤◌, Bool, true, false, List, [], ◌∷◌, length, length-take, map, min, take, set, get_or, Some, Bor, ◌++◌, refl, sym, ap, subst, ◌∙◌, arith}
use Rattle.std.specs.Prelude.{◌&&◌, not, slice_get, option_map}
use Rattle.std.specs.List.{list_all}
use Rattle.std.specs.Str.{bytes_eq}
use Rattle.std.proofs.lemmas.Bool.{and_parts}
use Rattle.std.proofs.lemmas.Slice.Eq.{bytes_eq-Decides}
use Rattle.std.proofs.lemmas.Option.{get_or_from_slice_get, slice_get-map}
use Rattle.std.proofs.lemmas.List.{append-nil, append_assoc}
use Rattle.std.proofs.lemmas.List.Sums.{count_by_more_yes, count_by_more_no, count_by-le-length}
use Rattle.cluster_model.specs.declared.entry.Entry.{Entry}
use Rattle.journal_print.specs.Counts.{kinds, kind_word, is_of_kind, count_of_kind, kind_line, kind_lines, counts}

-- ---- words that are not the same

abbrev differs : List ℕ → List ℕ → Bool
differs a b = not (bytes_eq a b) && not (bytes_eq b a)

abbrev are_apart : List (List ℕ) → Bool
are_apart [] = true
are_apart (word ∷ rest) = list_all (differs word) rest && are_apart rest

not_true : (b : Bool) → not b ≡ true → b ≡ false
not_true true is = absurd (cc)
not_true false is = refl

-- each of them differs from that at a place
among : (test : List ℕ → Bool) (ws : List (List ℕ)) (place : ℕ) (word : List ℕ) → list_all test ws ≡ true → slice_get ws place ≡ Some word → test word ≡ true
among test [] place word all at = absurd (cc)
among test (w ∷ ws) zero word all at = subst (λ v. test v ≡ true) (cc) (and_parts (test w) (list_all test ws) all).0
among test (w ∷ ws) (suc place) word all at = among test ws place word (and_parts (test w) (list_all test ws) all).1 at

-- ---- one more at a place

module _ (f g : List ℕ → ℕ) (word : List ℕ) (more : g word ≡ f word + 1) (same : (w : List ℕ) → bytes_eq word w ≡ false → g w ≡ f w) where
  others : (ws : List (List ℕ)) → list_all (differs word) ws ≡ true → map f ws ≡ map g ws
  others [] all = refl
  others (w ∷ ws) all =
      let parts = and_parts (differs word w) (list_all (differs word) ws) all in
      let here : g w ≡ f w = same w (not_true (bytes_eq word w) (and_parts (not (bytes_eq word w)) (not (bytes_eq w word)) parts.0).0) in
      (λ i. sym here i ∷ others ws parts.1 i)

  pub one_more_at : (ws : List (List ℕ)) (place : ℕ) → are_apart ws ≡ true → slice_get ws place ≡ Some word → set (map f ws) place (f word + 1) ≡ map g ws
  one_more_at [] place apart at = absurd (cc)
  one_more_at (w ∷ ws) zero apart at =
      let first : w ≡ word = cc in
      let parts = and_parts (list_all (differs w) ws) (are_apart ws) apart in
      let rest = subst (λ v. list_all (differs v) ws ≡ true) first parts.0 in
      (λ i. (sym more ∙ ap g (sym first)) i ∷ others ws rest i)
  one_more_at (w ∷ ws) (suc place) apart at =
      let parts = and_parts (list_all (differs w) ws) (are_apart ws) apart in
      let here = among (differs w) ws place word parts.0 at in
      let kept : g w ≡ f w = same w (not_true (bytes_eq word w) (and_parts (not (bytes_eq w word)) (not (bytes_eq word w)) here).1) in
      (λ i. sym kept i ∷ one_more_at ws place parts.1 at i)

-- ---- the counts

kinds_apart : are_apart kinds ≡ true
kinds_apart = refl

-- a word is the same as itself
bytes_same : (word : List ℕ) → bytes_eq word word ≡ true
bytes_same word = (bytes_eq-Decides word word).1 refl

at_kind : (f : List ℕ → ℕ) (place : ℕ) (word : List ℕ) (counted : List ℕ) → slice_get kinds place ≡ Some word → counted ≡ map f kinds → get_or counted place 0 ≡ f word
at_kind f place word counted at is = get_or_from_slice_get counted place (f word) 0 (ap (λ l. slice_get l place) is ∙ slice_get-map f kinds place ∙ ap (option_map f) at)

-- of the entries before, and of one more
pub counts_more : (entries : List Entry) (i : ℕ) (entry : Entry) (place : ℕ) (counted : List ℕ) → i < length entries → entry ≡ get_or entries i entry → slice_get kinds place ≡ Some (kind_word entry)
    → counted ≡ map (count_of_kind (take i entries)) kinds → set counted place (get_or counted place 0 + 1) ≡ map (count_of_kind (take (i + 1) entries)) kinds
counts_more entries i entry place counted within is at before =
    let f = count_of_kind (take i entries) in
    let g = count_of_kind (take (i + 1) entries) in
    let word = kind_word entry in
    let now : get_or counted place 0 ≡ f word = at_kind f place word counted at before in
    let more : g word ≡ f word + 1 = count_by_more_yes (is_of_kind word) entries i entry within (ap (is_of_kind word) (sym is) ∙ bytes_same word) in
    let same : (w : List ℕ) → bytes_eq word w ≡ false → g w ≡ f w = λ w other. count_by_more_no (is_of_kind w) entries i entry within (ap (is_of_kind w) (sym is) ∙ other) in
    (λ k. set (before k) place (now k + 1)) ∙ one_more_at f g word more same kinds place kinds_apart at

-- a count is no more than the entries
pub counts_few : (entries : List Entry) (i : ℕ) (place : ℕ) (word : List ℕ) (counted : List ℕ) → i ≤ length entries → slice_get kinds place ≡ Some word
    → counted ≡ map (count_of_kind (take i entries)) kinds → get_or counted place 0 ≤ i
counts_few entries i place word counted within at before =
    omega (arith, at_kind (count_of_kind (take i entries)) place word counted at before, count_by-le-length (is_of_kind word) (take i entries), length-take i entries)

-- ---- their lines

-- what references to texts point to
abbrev pub texts : List (Bor (List ℕ)) → List (List ℕ)
texts ws = map (λ (w : Bor (List ℕ)). w.now) ws

-- of no words, and of no numbers
pub no_lines : kind_lines [] [] ≡ []
unfolding kind_lines
no_lines = refl

no_words : (ns : List ℕ) → kind_lines [] ns ≡ []
unfolding kind_lines
no_words ns = refl

none_behind : (word : List ℕ) (words : List (List ℕ)) → kind_lines (word ∷ words) [] ≡ []
unfolding kind_lines
none_behind word words = refl

one_behind : (word : List ℕ) (words : List (List ℕ)) (n : ℕ) (ns : List ℕ) → kind_lines (word ∷ words) (n ∷ ns) ≡ kind_line word n ++ kind_lines words ns
unfolding kind_lines
one_behind word words n ns = refl

-- one kind more
lines_more_by : (ws : List (Bor (List ℕ))) (ns : List ℕ) (k : ℕ) (word : Bor (List ℕ)) (n : ℕ) → k < length ws → k < length ns → word ≡ get_or ws k word → n ≡ get_or ns k n
    → kind_lines (texts (take (suc k) ws)) (take (suc k) ns) ≡ kind_lines (texts (take k ws)) (take k ns) ++ kind_line word.now n
lines_more_by [] ns k word n here there is number = absurd (omega (arith, here))
lines_more_by (w ∷ ws) [] k word n here there is number = absurd (omega (arith, there))
lines_more_by (w ∷ ws) (m ∷ ns) zero word n here there is number =
    one_behind w.now [] m [] ∙ ap (λ t. kind_line w.now m ++ t) no_lines ∙ append-nil (kind_line w.now m) ∙ (λ i. kind_line (sym is i).now (sym number i)) ∙ ap (λ t. t ++ kind_line word.now n) (sym no_lines)
lines_more_by (w ∷ ws) (m ∷ ns) (suc k) word n here there is number =
    one_behind w.now (texts (take (suc k) ws)) m (take (suc k) ns)
    ∙ ap (λ t. kind_line w.now m ++ t) (lines_more_by ws ns k word n (omega (arith, here)) (omega (arith, there)) is number)
    ∙ sym (append_assoc (kind_line w.now m) (kind_lines (texts (take k ws)) (take k ns)) (kind_line word.now n))
    ∙ ap (λ t. t ++ kind_line word.now n) (sym (one_behind w.now (texts (take k ws)) m (take k ns)))

pub lines_more : (ws : List (Bor (List ℕ))) (ns : List ℕ) (k : ℕ) (word : Bor (List ℕ)) (n : ℕ) → k < length ws → k < length ns → word ≡ get_or ws k word → n ≡ get_or ns k n
    → kind_lines (texts (take (k + 1) ws)) (take (k + 1) ns) ≡ kind_lines (texts (take k ws)) (take k ns) ++ kind_line word.now n
lines_more ws ns k word n here there is number =
    let next : k + 1 ≡ suc k = omega arith in
    ap (λ j. kind_lines (texts (take j ws)) (take j ns)) next ∙ lines_more_by ws ns k word n here there is number

-- all of them
pub lines_all : (ws : List (Bor (List ℕ))) (ns : List ℕ) (k : ℕ) → min (length ws) (length ns) ≤ k → kind_lines (texts (take k ws)) (take k ns) ≡ kind_lines (texts ws) ns
lines_all [] ns zero over = no_lines ∙ sym (no_words ns)
lines_all [] ns (suc k) over = no_words (take (suc k) ns) ∙ sym (no_words ns)
lines_all (w ∷ ws) [] zero over = no_lines ∙ sym (none_behind w.now (texts ws))
lines_all (w ∷ ws) [] (suc k) over = none_behind w.now (texts (take k ws)) ∙ sym (none_behind w.now (texts ws))
lines_all (w ∷ ws) (n ∷ ns) zero over = absurd (omega (arith, over))
lines_all (w ∷ ws) (n ∷ ns) (suc k) over =
    one_behind w.now (texts (take k ws)) n (take k ns) ∙ ap (λ t. kind_line w.now n ++ t) (lines_all ws ns k (omega (arith, over))) ∙ sym (one_behind w.now (texts ws) n ns)

-- the lines of all kinds
pub lines_of_kinds : (entries : List Entry) → kind_lines kinds (map (count_of_kind entries) kinds) ≡ counts entries
unfolding kind_lines counts
lines_of_kinds entries = refl
