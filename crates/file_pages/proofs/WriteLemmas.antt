-- Pages behind a write: those that were kept, and those that were made for it.
use Rattle.std.proofs.Common.{◌≡◌, ℕ, zero, suc, ◌+◌, ◌-◌, ◌<◌, ◌≤◌, ◌==◌, Bool, true, false, ◌&&◌, nat_lt, List, [], ◌∷◌, ◌++◌, length, get_or, set, take, drop, Option, Some, None, refl, sym, ap, subst, ◌∙◌, arith, inl, inr}
use Rattle.std.specs.Prelude.{slice_get, if◌then◌else◌, option_map}
use Rattle.std.proofs.lemmas.Bool.{cases_eq, cases_lt, ltb-true, ltb-false}
use Rattle.std.proofs.lemmas.Bool.Decides.{nat_tests}
use Rattle.std.proofs.lemmas.List.{append-nil, append_assoc, take-append-drop, length-take, length-drop, length-append, get_or-append_right, get_or-drop, drop_more, take_more, set_at}
use Rattle.file_pages.specs.Pages.{RiseFrom, AreWhole, kept_page, or_else, page_over, touches, page_written, byte_written}
use Rattle.file_pages.specs.Places.{AreSoundPages, AreNumberedBelow, AreNumberedBelowFirst, IsPagePlace, is_numbered}
use Rattle.file_pages.specs.Steps.{first_touched, end_touched, written_in, where_none, fresh_page, AreFresh, is_below, ArePagesWritten}
use Rattle.file_pages.proofs.PageBytes.{length_first_bytes}
use Rattle.file_pages.proofs.PartLemmas.{touched_apart}
use Rattle.file_pages.proofs.PlaceLemmas.{Numbered, rise_weaker, kept_behind, below_append, below_weaker}
use Rattle.file_pages.proofs.PutLemmas.{whole_append, put_other, rise_put, kept_there, kept_nowhere}

-- ---- which pages are touched

pub touched_between : (at count number : ℕ) → 0 < count → first_touched at ≤ number → number < end_touched at count → touches at count number ≡ true
touched_between at count number some low high = grind (arith, nat_tests)

pub untouched_before : (at count number : ℕ) → number < first_touched at → touches at count number ≡ false
untouched_before at count number before = grind (arith, nat_tests)

pub untouched_behind : (at count number : ℕ) → end_touched at count ≤ number → touches at count number ≡ false
untouched_behind at count number behind = grind (arith, nat_tests)

pub touched_end : (at count number : ℕ) → touches at count number ≡ true → number < end_touched at count
touched_end at count number touched = let apart = touched_apart at count number touched in omega (arith, apart.1)

page_long : (page : Option (List ℕ)) (number at : ℕ) (bytes : List ℕ) → length (page_written page number at bytes) ≡ 4096
page_long page number at bytes = length_first_bytes (byte_written page number at bytes) 4096

-- ---- the kept pages behind a write

module _ (at : ℕ) (bytes : List ℕ) where
  pub written_append : (front back : List Numbered) → written_in at bytes (front ++ back) ≡ written_in at bytes front ++ written_in at bytes back
  written_append [] back = refl
  written_append (page ∷ front) back =
      ap (λ (pages : List Numbered). (page.0, if touches at (length bytes) page.0 then page_written (Some page.1) page.0 at bytes else page.1) ∷ pages) (written_append front back)

  pub length_written : (pages : List Numbered) → length (written_in at bytes pages) ≡ length pages
  length_written [] = refl
  length_written (page ∷ pages) = ap suc (length_written pages)

  -- a page that is not touched stays
  stays : (page : Numbered) (pages : List Numbered) → touches at (length bytes) page.0 ≡ false → written_in at bytes pages ≡ pages → written_in at bytes (page ∷ pages) ≡ page ∷ pages
  stays page pages other same =
      ap (λ (test : Bool). let first : Numbered = (page.0, if test then page_written (Some page.1) page.0 at bytes else page.1) in first ∷ written_in at bytes pages) other
      ∙ ap (λ (later : List Numbered). page ∷ later) same

  pub written_before : (pages : List Numbered) → AreNumberedBelow (first_touched at) pages → written_in at bytes pages ≡ pages
  written_before [] below = refl
  written_before (page ∷ pages) below = stays page pages (untouched_before at (length bytes) page.0 below.0) (written_before pages below.1)

  pub written_behind : (least : ℕ) (pages : List Numbered) → end_touched at (length bytes) ≤ least → RiseFrom least pages → written_in at bytes pages ≡ pages
  written_behind least [] behind rise = refl
  written_behind least (page ∷ pages) behind rise =
      let first = rise.0 in
      stays page pages (untouched_behind at (length bytes) page.0 (omega (arith, first, behind))) (written_behind (page.0 + 1) pages (omega (arith, first, behind)) rise.1)

  -- one that is touched is written
  pub written_one : (page : Numbered) → touches at (length bytes) page.0 ≡ true → written_in at bytes (page ∷ []) ≡ (page.0, page_written (Some page.1) page.0 at bytes) ∷ []
  written_one page touched = ap (λ (test : Bool). let first : Numbered = (page.0, if test then page_written (Some page.1) page.0 at bytes else page.1) in first ∷ []) touched

  -- the numbers stay
  pub written_rise : (least : ℕ) (pages : List Numbered) → RiseFrom least pages → RiseFrom least (written_in at bytes pages)
  written_rise least [] rise = tt
  written_rise least (page ∷ pages) rise = (rise.0, written_rise (page.0 + 1) pages rise.1)

  pub written_below : (number : ℕ) (pages : List Numbered) → AreNumberedBelow number pages → AreNumberedBelow number (written_in at bytes pages)
  written_below number [] below = tt
  written_below number (page ∷ pages) below = (below.0, written_below number pages below.1)

  -- and each is whole
  whole_one : (test : Bool) (page : Numbered) → length page.1 ≡ 4096 → length (if test then page_written (Some page.1) page.0 at bytes else page.1) ≡ 4096
  whole_one true page whole = page_long (Some page.1) page.0 at bytes
  whole_one false page whole = whole

  pub written_whole : (pages : List Numbered) → AreWhole pages → AreWhole (written_in at bytes pages)
  written_whole [] whole = tt
  written_whole (page ∷ pages) whole = (whole_one (touches at (length bytes) page.0) page whole.0, written_whole pages whole.1)

  pub written_take : (n : ℕ) (pages : List Numbered) → take n (written_in at bytes pages) ≡ written_in at bytes (take n pages)
  written_take zero pages = refl
  written_take (suc n) [] = refl
  written_take (suc n) (page ∷ pages) =
      ap (λ (later : List Numbered). (page.0, if touches at (length bytes) page.0 then page_written (Some page.1) page.0 at bytes else page.1) ∷ later) (written_take n pages)

  -- which page a number has then
  pub kept_touched : (number : ℕ) (pages : List Numbered) → touches at (length bytes) number ≡ true → kept_page number (written_in at bytes pages) ≡ option_map (λ page. page_written (Some page) number at bytes) (kept_page number pages)
  kept_touched number [] touched = refl
  kept_touched number (page ∷ pages) touched = elim (cases_eq page.0 number) [
    | inl same ↦
        let here : touches at (length bytes) page.0 ≡ true = ap (touches at (length bytes)) same ∙ touched in
        let own : page_written (Some page.1) page.0 at bytes ≡ page_written (Some page.1) number at bytes = ap (λ n. page_written (Some page.1) n at bytes) same in
        grind (arith, nat_tests)
    | inr other ↦ let later = kept_touched number pages touched in grind (arith, nat_tests)
  ]

  pub kept_other : (number : ℕ) (pages : List Numbered) → touches at (length bytes) number ≡ false → kept_page number (written_in at bytes pages) ≡ kept_page number pages
  kept_other number [] untouched = refl
  kept_other number (page ∷ pages) untouched = elim (cases_eq page.0 number) [
    | inl same ↦
        let here : touches at (length bytes) page.0 ≡ false = ap (touches at (length bytes)) same ∙ untouched in
        grind (arith, nat_tests)
    | inr other ↦ let later = kept_other number pages untouched in grind (arith, nat_tests)
  ]

-- ---- the loop over them: so many are written, and the others are as they were

module _ (at : ℕ) (bytes : List ℕ) (old items : List Numbered) (place : ℕ) (within : place ≤ length old) (is : items ≡ written_in at bytes (take place old) ++ drop place old) where
  front_long : length (written_in at bytes (take place old)) ≡ place
  front_long = length_written at bytes (take place old) ∙ omega (arith, within, length-take place old)

  get_behind : (front back : List Numbered) (n : ℕ) → length front ≡ n → slice_get (front ++ back) n ≡ slice_get back 0
  get_behind [] back n long = ap (slice_get back) (sym long)
  get_behind (page ∷ front) back zero long = absurd (omega (arith, long))
  get_behind (page ∷ front) back (suc n) long = get_behind front back n (omega (arith, long))

  seen : slice_get items place ≡ slice_get (drop place old) 0
  seen = ap (λ (pages : List Numbered). slice_get pages place) is ∙ get_behind (written_in at bytes (take place old)) (drop place old) place front_long

  some_below : (number : ℕ) (back : List Numbered) → is_below number (slice_get back 0) ≡ true → 0 < length back
  some_below number [] below = absurd (cc)
  some_below number (page ∷ back) below = omega arith

  none_below : (least number : ℕ) (back : List Numbered) → RiseFrom least back → is_below number (slice_get back 0) ≡ false → RiseFrom number back
  none_below least number [] rise below = tt
  none_below least number (page ∷ back) rise below = (ltb-false page.0 number below, rise.1)

  pub goes_on : (number : ℕ) → is_below number (slice_get items place) ≡ true → place < length old
  goes_on number below = omega (arith, length-drop place old, some_below number (drop place old) (ap (is_below number) (sym seen) ∙ below))

  pub long_as_before : length items ≡ length old
  long_as_before =
      let size = front_long in
      ap length is ∙ omega (arith, size, within, length-append (written_in at bytes (take place old)) (drop place old), length-drop place old)

  -- all are written
  pub ends : RiseFrom (first_touched at) (drop place old) → is_below (end_touched at (length bytes)) (slice_get items place) ≡ false → items ≡ written_in at bytes old
  ends rise below =
      is
      ∙ ap (λ (back : List Numbered). written_in at bytes (take place old) ++ back) (sym (written_behind at bytes (end_touched at (length bytes)) (drop place old) (omega arith) (none_below (first_touched at) (end_touched at (length bytes)) (drop place old) rise (ap (is_below (end_touched at (length bytes))) (sym seen) ∙ below))))
      ∙ sym (written_append at bytes (take place old) (drop place old))
      ∙ ap (written_in at bytes) (take-append-drop place old)

  -- one more is
  module _ (page : Numbered) (there : page ≡ get_or items place page) (inside : place < length old) where
    page_is : get_or old place page ≡ page
    page_is =
        ap (λ n. get_or old n page) (let e : place ≡ place + (place - place) = omega arith in e)
        ∙ sym (get_or-drop place old (place - place) page)
        ∙ sym (get_or-append_right (written_in at bytes (take place old)) (drop place old) place place page front_long (omega arith))
        ∙ ap (λ (pages : List Numbered). get_or pages place page) (sym is)
        ∙ sym there

    back_is : drop place old ≡ page ∷ drop (place + 1) old
    back_is = drop_more old place page inside ∙ ap (λ (p : Numbered). p ∷ drop (place + 1) old) page_is

    pub touched_here : 0 < length bytes → RiseFrom (first_touched at) (drop place old) → is_below (end_touched at (length bytes)) (slice_get items place) ≡ true → touches at (length bytes) page.0 ≡ true
    touched_here some rise below =
        let least : first_touched at ≤ page.0 = (subst (λ (pages : List Numbered). RiseFrom (first_touched at) pages) back_is rise).0 in
        let most : nat_lt page.0 (end_touched at (length bytes)) ≡ true = ap (is_below (end_touched at (length bytes))) (ap (λ (pages : List Numbered). slice_get pages 0) (sym back_is) ∙ sym seen) ∙ below in
        touched_between at (length bytes) page.0 some least (ltb-true page.0 (end_touched at (length bytes)) most)

    pub rise_on : RiseFrom (first_touched at) (drop place old) → RiseFrom (first_touched at) (drop (place + 1) old)
    rise_on rise =
        let both : RiseFrom (first_touched at) (page ∷ drop (place + 1) old) = subst (λ (pages : List Numbered). RiseFrom (first_touched at) pages) back_is rise in
        let least = both.0 in
        rise_weaker (first_touched at) (page.0 + 1) (drop (place + 1) old) (omega (arith, least)) both.1

    pub one_more_written : (new : Numbered) → touches at (length bytes) page.0 ≡ true → new ≡ (page.0, page_written (Some page.1) page.0 at bytes) → set items place new ≡ written_in at bytes (take (place + 1) old) ++ drop (place + 1) old
    one_more_written new touched new_is =
        let front : List Numbered = written_in at bytes (take place old) in
        let rest : List Numbered = drop (place + 1) old in
        let own : List Numbered = (page.0, page_written (Some page.1) page.0 at bytes) ∷ [] in
        let more : written_in at bytes (take (place + 1) old) ≡ front ++ own =
        ap (written_in at bytes) (take_more old place page inside ∙ ap (λ (p : Numbered). take place old ++ p ∷ []) page_is)
        ∙ written_append at bytes (take place old) (page ∷ [])
        ∙ ap (λ (pages : List Numbered). front ++ pages) (written_one at bytes page touched) in
        ap (λ (pages : List Numbered). set pages place new) (is ∙ ap (λ (pages : List Numbered). front ++ pages) back_is)
        ∙ set_at front page rest new place front_long
        ∙ ap (λ (p : Numbered). front ++ p ∷ rest) new_is
        ∙ sym (append_assoc front own rest)
        ∙ ap (λ (pages : List Numbered). pages ++ rest) (sym more)

-- ---- the pages that are made

lt_next : (m n : ℕ) → (n ≡ m → ⊥) → nat_lt m (n + 1) ≡ nat_lt m n
lt_next m n other = grind (arith, nat_tests)

module _ (base old : List Numbered) (at : ℕ) (bytes : List ℕ) where
  -- of another number it is the same up to the next
  fresh_next : (upto number : ℕ) → (upto ≡ number → ⊥) → fresh_page base old at bytes (upto + 1) number ≡ fresh_page base old at bytes upto number
  fresh_next upto number other =
      ap (λ (early : Bool). if touches at (length bytes) number && early then where_none (kept_page number old) (Some (page_written (kept_page number base) number at bytes)) else None) (lt_next number upto other)

  both_none : (test : Bool) → let none : Option (List ℕ) = None in (if test then none else none) ≡ none
  both_none true = refl
  both_none false = refl

  -- there is none where one is kept
  fresh_kept : (upto number : ℕ) (page : List ℕ) → kept_page number old ≡ Some page → fresh_page base old at bytes upto number ≡ None
  fresh_kept upto number page kept =
      ap (λ (there : Option (List ℕ)). if touches at (length bytes) number && nat_lt number upto then where_none there (Some (page_written (kept_page number base) number at bytes)) else None) kept
      ∙ both_none (touches at (length bytes) number && nat_lt number upto)

  fresh_made : (upto number : ℕ) → touches at (length bytes) number ≡ true → number < upto → kept_page number old ≡ None → fresh_page base old at bytes upto number ≡ Some (page_written (kept_page number base) number at bytes)
  fresh_made upto number touched early none = grind (arith, nat_tests)

  fresh_untouched : (upto number : ℕ) → touches at (length bytes) number ≡ false → fresh_page base old at bytes upto number ≡ None
  fresh_untouched upto number untouched =
      ap (λ (touched : Bool). if touched && nat_lt number upto then where_none (kept_page number old) (Some (page_written (kept_page number base) number at bytes)) else None) untouched

  -- at first there are none
  fresh_before : (number : ℕ) → fresh_page base old at bytes (first_touched at) number ≡ None
  fresh_before number = elim (cases_lt number (first_touched at)) [
    | inl before ↦ fresh_untouched (first_touched at) number (untouched_before at (length bytes) number before)
    | inr from ↦
        let late : nat_lt number (first_touched at) ≡ false = grind (arith, nat_tests) in
        ap (λ (early : Bool). if touches at (length bytes) number && early then where_none (kept_page number old) (Some (page_written (kept_page number base) number at bytes)) else None) late
        ∙ no_and (touches at (length bytes) number)
  ]
    where
      no_and : (test : Bool) → (if test && false then where_none (kept_page number old) (Some (page_written (kept_page number base) number at bytes)) else None) ≡ None
      no_and true = refl
      no_and false = refl

  pub fresh_none : AreFresh base old at bytes (first_touched at) []
  fresh_none = record {
    pages = λ number. sym (fresh_before number);
    rise = tt;
    below = tt;
    whole = tt;
    few = omega arith;
  }

  -- one number more
  module _ (number place : ℕ) (fresh : List Numbered) (is : IsPagePlace number old place) (are : AreFresh base old at bytes number fresh) where
    least : first_touched at ≤ number
    least = let few = are.few in omega (arith, few)

    -- it is kept, so none is made
    pub next_kept : is_numbered number (slice_get old place) ≡ true → AreFresh base old at bytes (number + 1) fresh
    next_kept there = record {
      pages = λ n. elim (cases_eq number n) [
        | inl same ↦
            let kept = kept_there number old place is there in
            let own : kept_page n old ≡ Some kept.0 = ap (λ m. kept_page m old) (sym same) ∙ kept.1 in
            are.pages n ∙ fresh_kept number n kept.0 own ∙ sym (fresh_kept (number + 1) n kept.0 own)
        | inr other ↦ are.pages n ∙ sym (fresh_next number n other)
      ];
      rise = are.rise;
      below = below_weaker number (number + 1) fresh (omega arith) are.below;
      whole = are.whole;
      few = let few = are.few in omega (arith, few);
    }

    -- it is not, and is made
    module _ (absent : is_numbered number (slice_get old place) ≡ false) (touched : touches at (length bytes) number ≡ true) (page : Numbered) (page_is : page ≡ (number, page_written (kept_page number base) number at bytes)) where
      named : page.0 ≡ number
      named = ap (λ (p : Numbered). p.0) page_is

      filled : page.1 ≡ page_written (kept_page number base) number at bytes
      filled = ap (λ (p : Numbered). p.1) page_is

      below_page : AreNumberedBelow page.0 fresh
      below_page = subst (λ n. AreNumberedBelow n fresh) (sym named) are.below

      pub next_made : AreFresh base old at bytes (number + 1) (fresh ++ page ∷ [])
      next_made = record {
        pages = λ n. elim (cases_eq number n) [
          | inl same ↦ subst (λ m. kept_page m (fresh ++ page ∷ []) ≡ fresh_page base old at bytes (number + 1) m) same
              (kept_behind number fresh (page ∷ []) are.below
              ∙ (let own : (if page.0 == number then Some page.1 else None) ≡ Some page.1 = let e = named in grind (arith, nat_tests) in own)
              ∙ ap Some filled
              ∙ sym (fresh_made (number + 1) number touched (omega arith) (kept_nowhere number old place is absent)))
          | inr other ↦
              put_other n page fresh [] [] (λ same. other (sym named ∙ same)) refl
              ∙ ap (kept_page n) (append-nil fresh)
              ∙ are.pages n
              ∙ sym (fresh_next number n other)
        ];
        rise = rise_put (first_touched at) page fresh [] [] (subst (λ (pages : List Numbered). RiseFrom (first_touched at) pages) (sym (append-nil fresh)) are.rise) below_page (let low = least in let e = named in omega (arith, low, e)) tt;
        below = below_append (number + 1) fresh (page ∷ []) (below_weaker number (number + 1) fresh (omega arith) are.below) (let e = named in omega (arith, e), tt);
        whole = whole_append fresh (page ∷ []) are.whole (ap length filled ∙ page_long (kept_page number base) number at bytes, tt);
        few = let few = are.few in omega (arith, few, length-append fresh (page ∷ []));
      }

-- ---- both together

module _ (base old fresh new : List Numbered) (at : ℕ) (bytes : List ℕ) (are : AreFresh base old at bytes (end_touched at (length bytes)) fresh) (over : (number : ℕ) → kept_page number new ≡ page_over (written_in at bytes old) fresh number) where
  new_touched : (number : ℕ) → touches at (length bytes) number ≡ true → kept_page number new ≡ Some (page_written (page_over base old number) number at bytes)
  new_touched number touched = over number ∙ go (kept_page number old) refl
    where
      go : (page : Option (List ℕ)) → kept_page number old ≡ page → page_over (written_in at bytes old) fresh number ≡ Some (page_written (or_else page (kept_page number base)) number at bytes)
      go None is =
          ap (λ (made : Option (List ℕ)). or_else made (kept_page number (written_in at bytes old))) (are.pages number ∙ fresh_made base old at bytes (end_touched at (length bytes)) number touched (touched_end at (length bytes) number touched) is)
      go (Some page) is =
          ap (λ (made : Option (List ℕ)). or_else made (kept_page number (written_in at bytes old))) (are.pages number ∙ fresh_kept base old at bytes (end_touched at (length bytes)) number page is)
          ∙ kept_touched at bytes number old touched
          ∙ ap (option_map (λ there. page_written (Some there) number at bytes)) is

  new_others : (number : ℕ) → touches at (length bytes) number ≡ false → kept_page number new ≡ kept_page number old
  new_others number untouched =
      over number
      ∙ ap (λ (made : Option (List ℕ)). or_else made (kept_page number (written_in at bytes old))) (are.pages number ∙ fresh_untouched base old at bytes (end_touched at (length bytes)) number untouched)
      ∙ kept_other at bytes number old untouched

  pub pages_written : length new ≤ length (written_in at bytes old) + length fresh → AreSoundPages new → ArePagesWritten base old at bytes new
  pages_written size kept = record {
    touched = new_touched;
    others = new_others;
    few = let few = are.few in omega (arith, size, few, length_written at bytes old);
    kept = kept;
  }

-- ---- what the merge of both asks

pub written_kept : (at : ℕ) (bytes : List ℕ) (pages : List Numbered) → AreSoundPages pages → AreSoundPages (written_in at bytes pages)
written_kept at bytes pages kept = record { rise = written_rise at bytes 0 pages kept.rise; whole = written_whole at bytes pages kept.whole }

pub fresh_kept_all : (base old : List Numbered) (at : ℕ) (bytes : List ℕ) (upto : ℕ) (fresh : List Numbered) → AreFresh base old at bytes upto fresh → AreSoundPages fresh
fresh_kept_all base old at bytes upto fresh are = record { rise = rise_weaker 0 (first_touched at) fresh (omega arith) are.rise; whole = are.whole }

-- the pages before the first touched one are below all that were made
pub fresh_behind : (at : ℕ) (bytes : List ℕ) (old fresh : List Numbered) (place : ℕ) → IsPagePlace (first_touched at) old place → RiseFrom (first_touched at) fresh → AreNumberedBelowFirst (take place (written_in at bytes old)) fresh
fresh_behind at bytes old [] place is rise = tt
fresh_behind at bytes old (page ∷ fresh) place is rise =
    subst (λ (pages : List Numbered). AreNumberedBelow page.0 pages) (sym (written_take at bytes place old))
    (written_below at bytes page.0 (take place old) (below_weaker (first_touched at) page.0 (take place old) rise.0 is.below))
