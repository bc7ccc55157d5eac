-- The open of a file in a list that is changed.
use Rattle.std.proofs.Common.{◌≡◌, ℕ, ◌≤◌, Bool, true, false, not, cond, eqb, List, [], ◌∷◌, ◌++◌, length, map, filter, Option, Some, None, refl, sym, ap, ◌∙◌, arith}
use Rattle.std.specs.Prelude.{find}
use Rattle.std.specs.Option.{option_or}
use Rattle.std.proofs.lemmas.Bool.{eq-eqb, eqb-true}
use Rattle.std.proofs.lemmas.List.Folds.{find-append}
use Rattle.std.proofs.lemmas.Option.{same_Some, none-some}
use Rattle.cluster_model.specs.declared.ids.FileId.{FileId}
use Rattle.open_state.specs.declared.open.Open.{Open}
use Rattle.open_state.specs.Opens.{is_of, is_other, in_place}

pub same_file : (file : FileId) (o : Open) → is_of file o ≡ true → o.file ≡ file
same_file file o is = let make : ℕ → FileId = λ n. record { 0 = n } in ap make (eqb-true o.file.0 file.0 is)

pub is_own : (o : Open) → is_of o.file o ≡ true
is_own o = eq-eqb o.file.0 o.file.0 refl

module _ {X : Type 0} (test : X → Bool) where
  pub find_here : (x : X) (xs : List X) → test x ≡ true → find test (x ∷ xs) ≡ Some x
  find_here x xs is = ap (λ b. cond b (Some x) (find test xs)) is

  pub find_behind : (x : X) (xs : List X) → test x ≡ false → find test (x ∷ xs) ≡ find test xs
  find_behind x xs is = ap (λ b. cond b (Some x) (find test xs)) is

  -- what is found passes
  pub passes : (xs : List X) (r : X) → find test xs ≡ Some r → test r ≡ true
  passes [] r is = absurd (none-some r is)
  passes (x ∷ xs) r is = by_case (test x) refl (passes xs r)
    where
      by_case : (b : Bool) → test x ≡ b → (find test xs ≡ Some r → test r ≡ true) → test r ≡ true
      by_case true here rest = let same : x ≡ r = same_Some x r (sym (find_here x xs here) ∙ is) in ap test (sym same) ∙ here
      by_case false fails rest = rest (sym (find_behind x xs fails) ∙ is)

  pub length_kept : (xs : List X) → length (filter test xs) ≤ length xs
  length_kept [] = omega arith
  length_kept (x ∷ xs) = by_case (test x) (length_kept xs)
    where
      by_case : (b : Bool) → length (filter test xs) ≤ length xs → length (cond b (x ∷ filter test xs) (filter test xs)) ≤ length (x ∷ xs)
      by_case true rest = omega (arith, rest)
      by_case false rest = omega (arith, rest)

-- ---- an open in the place of one of its file

pub put_here : (o was : Open) (xs : List Open) → find (is_of o.file) xs ≡ Some was → find (is_of o.file) (map (in_place o) xs) ≡ Some o
put_here o was [] is = absurd (none-some was is)
put_here o was (x ∷ xs) is = by_case (is_of o.file x) refl (put_here o was xs)
  where
    by_case : (b : Bool) → is_of o.file x ≡ b → (find (is_of o.file) xs ≡ Some was → find (is_of o.file) (map (in_place o) xs) ≡ Some o) → find (is_of o.file) (map (in_place o) (x ∷ xs)) ≡ Some o
    by_case true here rest =
        ap (λ b. find (is_of o.file) (cond b o x ∷ map (in_place o) xs)) here ∙ find_here (is_of o.file) o (map (in_place o) xs) (is_own o)
    by_case false other rest =
        ap (λ b. find (is_of o.file) (cond b o x ∷ map (in_place o) xs)) other
        ∙ find_behind (is_of o.file) x (map (in_place o) xs) other
        ∙ rest (sym (find_behind (is_of o.file) x xs other) ∙ is)

-- what is of one file is of no other
apart : (o x : Open) (file : FileId) → is_of o.file x ≡ true → is_of file o ≡ false → is_of file x ≡ false
apart o x file here other = ap (λ (f : FileId). eqb f.0 file.0) (same_file o.file x here) ∙ other

pub put_other : (o : Open) (file : FileId) (xs : List Open) → is_of file o ≡ false → find (is_of file) (map (in_place o) xs) ≡ find (is_of file) xs
put_other o file [] other = refl
put_other o file (x ∷ xs) other = by_case (is_of o.file x) refl (put_other o file xs other)
  where
    by_case : (b : Bool) → is_of o.file x ≡ b → find (is_of file) (map (in_place o) xs) ≡ find (is_of file) xs → find (is_of file) (map (in_place o) (x ∷ xs)) ≡ find (is_of file) (x ∷ xs)
    by_case true here rest =
        ap (λ b. find (is_of file) (cond b o x ∷ map (in_place o) xs)) here
        ∙ find_behind (is_of file) o (map (in_place o) xs) other
        ∙ rest
        ∙ sym (find_behind (is_of file) x xs (apart o x file here other))
    by_case false not_its rest =
        ap (λ b. find (is_of file) (cond b o x ∷ map (in_place o) xs)) not_its ∙ ap (λ r. cond (is_of file x) (Some x) r) rest

-- ---- one more

pub push_here : (o : Open) (xs : List Open) → find (is_of o.file) xs ≡ None → find (is_of o.file) (xs ++ o ∷ []) ≡ Some o
push_here o xs none =
    find-append (is_of o.file) xs (o ∷ []) ∙ ap (λ r. option_or r (find (is_of o.file) (o ∷ []))) none ∙ find_here (is_of o.file) o [] (is_own o)

or_none : {X : Type 0} (r : Option X) → option_or r None ≡ r
or_none None = refl
or_none (Some x) = refl

pub push_other : (o : Open) (file : FileId) (xs : List Open) → is_of file o ≡ false → find (is_of file) (xs ++ o ∷ []) ≡ find (is_of file) xs
push_other o file xs other =
    find-append (is_of file) xs (o ∷ []) ∙ ap (λ r. option_or (find (is_of file) xs) r) (find_behind (is_of file) o [] other) ∙ or_none (find (is_of file) xs)

-- ---- without those of a file

pub cut_here : (file : FileId) (xs : List Open) → find (is_of file) (filter (is_other file) xs) ≡ None
cut_here file [] = refl
cut_here file (x ∷ xs) = by_case (is_of file x) refl (cut_here file xs)
  where
    by_case : (b : Bool) → is_of file x ≡ b → find (is_of file) (filter (is_other file) xs) ≡ None → find (is_of file) (filter (is_other file) (x ∷ xs)) ≡ None
    by_case true here rest = ap (λ b. find (is_of file) (cond (not b) (x ∷ filter (is_other file) xs) (filter (is_other file) xs))) here ∙ rest
    by_case false other rest =
        ap (λ b. find (is_of file) (cond (not b) (x ∷ filter (is_other file) xs) (filter (is_other file) xs))) other
        ∙ find_behind (is_of file) x (filter (is_other file) xs) other
        ∙ rest

pub cut_other : (o : Open) (file : FileId) (xs : List Open) → is_of file o ≡ false → find (is_of file) (filter (is_other o.file) xs) ≡ find (is_of file) xs
cut_other o file [] other = refl
cut_other o file (x ∷ xs) other = by_case (is_of o.file x) refl (cut_other o file xs other)
  where
    by_case : (b : Bool) → is_of o.file x ≡ b → find (is_of file) (filter (is_other o.file) xs) ≡ find (is_of file) xs → find (is_of file) (filter (is_other o.file) (x ∷ xs)) ≡ find (is_of file) (x ∷ xs)
    by_case true here rest =
        ap (λ b. find (is_of file) (cond (not b) (x ∷ filter (is_other o.file) xs) (filter (is_other o.file) xs))) here
        ∙ rest
        ∙ sym (find_behind (is_of file) x xs (apart o x file here other))
    by_case false not_its rest =
        ap (λ b. find (is_of file) (cond (not b) (x ∷ filter (is_other o.file) xs) (filter (is_other o.file) xs))) not_its
        ∙ ap (λ r. cond (is_of file x) (Some x) r) rest
