-- A page that takes the place of its number.
use Rattle.std.proofs.Common.{◌≡◌, ℕ, zero, suc, ◌+◌, ◌-◌, ◌<◌, ◌≤◌, ◌==◌, Bool, true, false, List, [], ◌∷◌, ◌++◌, length, get_or, set, take, drop, reverse, Option, Some, None, refl, sym, ap, subst, ◌∙◌, arith, inl, inr}
use Rattle.std.specs.Prelude.{slice_get, if◌then◌else◌}
use Rattle.std.specs.List.{insert}
use Rattle.std.proofs.lemmas.Bool.{cases_eq, eqb-true, eqb-false}
use Rattle.std.proofs.lemmas.Bool.Decides.{nat_tests}
use Rattle.std.proofs.lemmas.List.{take-append-drop, length-take, length-drop, length-append, take_at, append_assoc, set_split, reverse-append, take_more, get_or_default}
use Rattle.std.proofs.lemmas.Option.{slice_get_read}
use Rattle.file_pages.specs.Pages.{RiseFrom, AreWhole, kept_page, or_else, page_over}
use Rattle.file_pages.specs.Places.{AreSoundPages, AreNumberedBelow, AreNumberedBelowFirst, IsPagePlace, is_numbered}
use Rattle.file_pages.specs.Steps.{HasPut}
use Rattle.file_pages.proofs.PlaceLemmas.{Numbered, rise_weaker, kept_above, kept_behind, kept_at, numbered_at, below_append, below_weaker, get_dropped}

-- ---- each page is whole

pub whole_append : (front back : List Numbered) → AreWhole front → AreWhole back → AreWhole (front ++ back)
whole_append [] back whole more = more
whole_append (page ∷ front) back whole more = (whole.0, whole_append front back whole.1 more)

pub whole_take : (n : ℕ) (pages : List Numbered) → AreWhole pages → AreWhole (take n pages)
whole_take zero pages whole = tt
whole_take (suc n) [] whole = tt
whole_take (suc n) (page ∷ pages) whole = (whole.0, whole_take n pages whole.1)

pub whole_drop : (n : ℕ) (pages : List Numbered) → AreWhole pages → AreWhole (drop n pages)
whole_drop zero pages whole = whole
whole_drop (suc n) [] whole = tt
whole_drop (suc n) (page ∷ pages) whole = whole_drop n pages whole.1

-- ---- a page between those before its place and those behind it

pub put_other : (number : ℕ) (page : Numbered) (front rest back : List Numbered) → (page.0 ≡ number → ⊥) → kept_page number back ≡ kept_page number rest → kept_page number (front ++ page ∷ rest) ≡ kept_page number (front ++ back)
put_other number page [] rest back other same = grind (arith, nat_tests)
put_other number page (first ∷ front) rest back other same = ap (λ (later : Option (List ℕ)). if first.0 == number then Some first.1 else later) (put_other number page front rest back other same)

put_same : (number : ℕ) (page : Numbered) (front rest : List Numbered) → page.0 ≡ number → AreNumberedBelow page.0 front → kept_page number (front ++ page ∷ rest) ≡ Some page.1
put_same number page front rest same below =
    kept_behind number front (page ∷ rest) (subst (λ n. AreNumberedBelow n front) same below) ∙ grind (arith, nat_tests)

pub rise_put : (least : ℕ) (page : Numbered) (front back rest : List Numbered) → RiseFrom least (front ++ back) → AreNumberedBelow page.0 front → least ≤ page.0 → RiseFrom (page.0 + 1) rest → RiseFrom least (front ++ page ∷ rest)
rise_put least page [] back rest rise below less more = (less, more)
rise_put least page (first ∷ front) back rest rise below less more =
    let before = below.0 in
    (rise.0, rise_put (first.0 + 1) page front back rest rise.1 below.1 (omega (arith, before)) more)

-- what is left behind the place, and what it has of the numbers
module _ (page : Numbered) (pages : List Numbered) (place : ℕ) (is : IsPagePlace page.0 pages place) (kept : AreSoundPages pages) (whole : length page.1 ≡ 4096) (rest : List Numbered) (fewer : length rest ≤ length pages - place) (rest_rise : RiseFrom (page.0 + 1) rest) (rest_whole : AreWhole rest) (rest_same : (number : ℕ) → (page.0 ≡ number → ⊥) → kept_page number (drop place pages) ≡ kept_page number rest) where
  abbrev put_list : List Numbered
  put_list = take place pages ++ page ∷ rest

  put_over : (number : ℕ) → kept_page number put_list ≡ page_over pages (page ∷ []) number
  put_over number = elim (cases_eq page.0 number) [
    | inl same ↦ put_same number page (take place pages) rest same is.below ∙ grind (arith, nat_tests)
    | inr other ↦
        put_other number page (take place pages) rest (drop place pages) other (rest_same number other)
        ∙ ap (kept_page number) (take-append-drop place pages)
        ∙ grind (arith, nat_tests)
  ]

  front_long : length (take place pages) ≡ place
  front_long = let within = is.within in omega (arith, within, length-take place pages)

  pub has_put : HasPut page pages put_list (place + 1)
  has_put = record {
    over = put_over;
    kept = record {
      rise = rise_put 0 page (take place pages) (drop place pages) rest (subst (λ (ps : List Numbered). RiseFrom 0 ps) (sym (take-append-drop place pages)) kept.rise) is.below (omega arith) rest_rise;
      whole = whole_append (take place pages) (page ∷ rest) (whole_take place pages kept.whole) (whole, rest_whole);
    };
    within = let size = front_long in omega (arith, size, length-append (take place pages) (page ∷ rest));
    below =
        let size = front_long in
        let front : take (place + 1) put_list ≡ take place pages ++ page ∷ [] =
        ap (take (place + 1)) (sym (append_assoc (take place pages) (page ∷ []) rest))
        ∙ take_at (take place pages ++ page ∷ []) rest (place + 1) (omega (arith, size, length-append (take place pages) (page ∷ []))) in
        subst (λ (ps : List Numbered). AreNumberedBelow (page.0 + 1) ps) (sym front) (below_append (page.0 + 1) (take place pages) (page ∷ []) (below_weaker page.0 (page.0 + 1) (take place pages) (omega arith) is.below) (omega arith, tt));
    len = let size = front_long in let within = is.within in omega (arith, size, fewer, within, length-append (take place pages) (page ∷ rest));
  }

-- what stands at the place, as the first of what is behind it
pub no_first : (number : ℕ) (back : List Numbered) → RiseFrom number back → is_numbered number (slice_get back 0) ≡ false → RiseFrom (number + 1) back
no_first number [] rise absent = tt
no_first number (first ∷ back) rise absent =
    let least = rise.0 in
    let other = eqb-false first.0 number absent in
    (omega (arith, least, other), rise.1)

pub is_first : (number : ℕ) (back : List Numbered) → RiseFrom number back → is_numbered number (slice_get back 0) ≡ true → RiseFrom (number + 1) (drop 1 back)
is_first number [] rise there = tt
is_first number (first ∷ back) rise there = subst (λ n. RiseFrom (n + 1) back) (eqb-true first.0 number there) rise.1

without_first : (number : ℕ) (back : List Numbered) → is_numbered number (slice_get back 0) ≡ true → (other : ℕ) → (number ≡ other → ⊥) → kept_page other back ≡ kept_page other (drop 1 back)
without_first number [] there other not_same = refl
without_first number (first ∷ back) there other not_same =
    let same = eqb-true first.0 number there in
    grind (arith, nat_tests)

pub some_first : (number : ℕ) (back : List Numbered) → is_numbered number (slice_get back 0) ≡ true → 0 < length back
some_first number [] there = absurd (cc)
some_first number (first ∷ back) there = omega arith

pub drop_suc : (n : ℕ) (pages : List Numbered) → drop 1 (drop n pages) ≡ drop (suc n) pages
drop_suc zero [] = refl
drop_suc zero (page ∷ pages) = refl
drop_suc (suc n) [] = refl
drop_suc (suc n) (page ∷ pages) = drop_suc n pages

-- ---- the place of the next number, and the page of this one

module _ (number : ℕ) (pages : List Numbered) (place : ℕ) (is : IsPagePlace number pages place) where
  below_next : place < length pages → is_numbered number (slice_get pages place) ≡ true → AreNumberedBelow (number + 1) (take (place + 1) pages)
  below_next inside there =
      let page : Numbered = get_or pages place (0, []) in
      let got : slice_get pages place ≡ Some page = slice_get_read pages (length pages) place page refl inside (get_or_default pages place (0, []) page inside) in
      let same : page.0 ≡ number = eqb-true page.0 number (ap (is_numbered number) (sym got) ∙ there) in
      subst (λ (ps : List Numbered). AreNumberedBelow (number + 1) ps) (sym (take_more pages place (0, []) inside))
      (below_append (number + 1) (take place pages) (page ∷ []) (below_weaker number (number + 1) (take place pages) (omega arith) is.below) (omega (arith, same), tt))

  pub numbered_within : is_numbered number (slice_get pages place) ≡ true → place < length pages
  numbered_within there =
      omega (arith, length-drop place pages, some_first number (drop place pages) (ap (is_numbered number) (get_dropped place pages) ∙ there))

  pub place_kept : is_numbered number (slice_get pages place) ≡ true → IsPagePlace (number + 1) pages (place + 1)
  place_kept there =
      let inside = numbered_within there in
      record {
        within = omega (arith, inside);
        below = below_next inside there;
        behind = subst (λ (ps : List Numbered). RiseFrom (number + 1) ps) (drop_suc place pages ∙ ap (λ n. drop n pages) (let e : suc place ≡ place + 1 = omega arith in e)) (is_first number (drop place pages) is.behind (ap (is_numbered number) (get_dropped place pages) ∙ there));
      }

  pub place_absent : is_numbered number (slice_get pages place) ≡ false → IsPagePlace (number + 1) pages place
  place_absent absent = record {
    within = is.within;
    below = below_weaker number (number + 1) (take place pages) (omega arith) is.below;
    behind = no_first number (drop place pages) is.behind (ap (is_numbered number) (get_dropped place pages) ∙ absent);
  }

  pub kept_there : is_numbered number (slice_get pages place) ≡ true → (page : List ℕ) × (kept_page number pages ≡ Some page)
  kept_there there = go (slice_get pages place) there (kept_at number pages place is)
    where
      go : (some : Option Numbered) → is_numbered number some ≡ true → kept_page number pages ≡ numbered_at number some → (page : List ℕ) × (kept_page number pages ≡ Some page)
      go None here told = absurd (cc)
      go (Some page) here told = (page.1, told ∙ ap (λ (test : Bool). if test then Some page.1 else None) here)

  pub kept_nowhere : is_numbered number (slice_get pages place) ≡ false → kept_page number pages ≡ None
  kept_nowhere absent = go (slice_get pages place) absent (kept_at number pages place is)
    where
      go : (some : Option Numbered) → is_numbered number some ≡ false → kept_page number pages ≡ numbered_at number some → kept_page number pages ≡ None
      go None here told = told
      go (Some page) here told = told ∙ ap (λ (test : Bool). if test then Some page.1 else None) here

-- ---- a page is put in, or takes another's place

-- the page that stands there is not of its number
module _ (page : Numbered) (pages : List Numbered) (place : ℕ) (is : IsPagePlace page.0 pages place) (kept : AreSoundPages pages) (whole : length page.1 ≡ 4096) where
  pub put_inserts : is_numbered page.0 (slice_get pages place) ≡ false → HasPut page pages (insert pages place page) (place + 1)
  put_inserts absent =
      let first : is_numbered page.0 (slice_get (drop place pages) 0) ≡ false = ap (is_numbered page.0) (get_dropped place pages) ∙ absent in
      has_put page pages place is kept whole (drop place pages) (omega (arith, length-drop place pages)) (no_first page.0 (drop place pages) is.behind first) (whole_drop place pages kept.whole) (λ number other. refl)

  -- or it is, and is replaced
  pub put_replaces : is_numbered page.0 (slice_get pages place) ≡ true → HasPut page pages (set pages place page) (place + 1)
  put_replaces there =
      let first : is_numbered page.0 (slice_get (drop place pages) 0) ≡ true = ap (is_numbered page.0) (get_dropped place pages) ∙ there in
      let within : place < length pages = omega (arith, length-drop place pages, some_first page.0 (drop place pages) first) in
      let put = has_put page pages place is kept whole (drop (suc place) pages) (omega (arith, length-drop (suc place) pages))
      (subst (λ (ps : List Numbered). RiseFrom (page.0 + 1) ps) (drop_suc place pages) (is_first page.0 (drop place pages) is.behind first))
      (whole_drop (suc place) pages kept.whole)
      (λ number other. without_first page.0 (drop place pages) first number other ∙ ap (kept_page number) (drop_suc place pages)) in
      subst (λ (ps : List Numbered). HasPut page pages ps (place + 1)) (sym (set_split pages place page within)) put

-- ---- one page of those that are merged

module _ (page : Numbered) (rest old new : List Numbered) (next : ℕ) (put : HasPut page old new next) (left : AreSoundPages (page ∷ rest)) where
  -- those that are left, over what there is now
  pub merged : (number : ℕ) → page_over new rest number ≡ page_over old (page ∷ rest) number
  merged number = elim (cases_eq page.0 number) [
    | inl same ↦
        let none = kept_above number (page.0 + 1) rest left.rise.1 (omega (arith, same)) in
        let here = put.over number in
        grind (arith, nat_tests)
    | inr other ↦
        let here : kept_page number new ≡ kept_page number old = put.over number ∙ grind (arith, nat_tests) in
        ap (or_else (kept_page number rest)) here ∙ grind (arith, nat_tests)
  ]

  pub left_rest : AreSoundPages rest
  left_rest = record { rise = rise_weaker 0 (page.0 + 1) rest (omega arith) left.rise.1; whole = left.whole.1 }

  pub next_below : AreNumberedBelowFirst (take next new) rest
  next_below = go rest left.rise.1
    where
      go : (later : List Numbered) → RiseFrom (page.0 + 1) later → AreNumberedBelowFirst (take next new) later
      go [] rise = tt
      go (first ∷ later) rise = below_weaker (page.0 + 1) first.0 (take next new) rise.0 put.below

-- the last of a list that is taken from its end
pub reverse_last : (pages : List Numbered) (page : Numbered) → reverse (pages ++ page ∷ []) ≡ page ∷ reverse pages
reverse_last pages page = reverse-append pages (page ∷ [])
