-- Going over lists from the first to the last.
use Rattle.std.proofs.Common.{◌≡◌, ℕ, ◌+◌, ◌<◌, ◌≤◌, List, [], ◌∷◌, ◌++◌, length, drop, Some, refl, sym, ap, ◌∙◌, get_or, drop-cons, add-one, zero, suc, Bool, true, false, cond, None, arith}
use Rattle.std.specs.Prelude.{slice_get}
use Rattle.std.specs.List.{position, position_from}
use Rattle.std.proofs.lemmas.Option.{slice_get_within, slice_get_read, get_or_from_slice_get}
use Rattle.std.proofs.lemmas.List.{drop_all, append_assoc}
use Rattle.cluster_model.specs.declared.ids.FileId.{FileId}
use Rattle.mds_rule.specs.MdsStates.{ServedFile, numbered}
use Rattle.mds_rule.specs.ServedFiles.{is_holder, held_from}

drop_here : {A : Type 0} (xs : List A) (i : ℕ) (x : A) → slice_get xs i ≡ Some x → drop i xs ≡ x ∷ drop (i + 1) xs
drop_here xs i x is =
    let within = slice_get_within xs i x is in
    drop-cons xs i x within ∙ ap (λ k. get_or xs i x ∷ drop k xs) (sym (add-one i)) ∙ ap (λ y. y ∷ drop (i + 1) xs) (get_or_from_slice_get xs i x x is)

-- ---- the first that passes a test

pub first_here : {A : Type 0} (test : A → Bool) (xs : List A) (i : ℕ) (x : A) → slice_get xs i ≡ Some x → position test xs ≡ position_from test i (drop i xs) → test x ≡ true → position test xs ≡ Some i
first_here test xs i x is before passes = before ∙ ap (position_from test i) (drop_here xs i x is) ∙ ap (λ b. cond b (Some i) (position_from test (i + 1) (drop (i + 1) xs))) passes

pub first_later : {A : Type 0} (test : A → Bool) (xs : List A) (i : ℕ) (x : A) → slice_get xs i ≡ Some x → position test xs ≡ position_from test i (drop i xs) → test x ≡ false
    → position test xs ≡ position_from test (i + 1) (drop (i + 1) xs)
first_later test xs i x is before fails = before ∙ ap (position_from test i) (drop_here xs i x is) ∙ ap (λ b. cond b (Some i) (position_from test (i + 1) (drop (i + 1) xs))) fails

pub first_none : {A : Type 0} (test : A → Bool) (xs : List A) (i : ℕ) → length xs ≤ i → position test xs ≡ position_from test i (drop i xs) → position test xs ≡ None
first_none test xs i le before = before ∙ ap (position_from test i) (drop_all i xs le)

pub none_at : {A : Type 0} (xs : List A) (i : ℕ) → slice_get xs i ≡ None → length xs ≤ i
none_at [] i is = omega arith
none_at (x ∷ xs) zero is = absurd cc
none_at (x ∷ xs) (suc i) is = let rest = none_at xs i is in omega (arith, rest)

-- ---- the files that a client holds

module _ (client : ℕ) (files : List ServedFile) (place : ℕ) (x : ServedFile) (within : place < length files) (read : x ≡ get_or files place x) where
  goes : held_from client (place + 1) (drop place files) ≡ cond (is_holder client x.holder) (numbered (place + 1) ∷ held_from client (place + 1 + 1) (drop (place + 1) files)) (held_from client (place + 1 + 1) (drop (place + 1) files))
  goes = ap (held_from client (place + 1)) (drop_here files place x (slice_get_read files (length files) place x refl within read))

  pub held_one : (held all : List FileId) → is_holder client x.holder ≡ true → all ≡ held ++ held_from client (place + 1) (drop place files) → all ≡ (held ++ numbered (place + 1) ∷ []) ++ held_from client (place + 1 + 1) (drop (place + 1) files)
  held_one held all is before =
      before
      ∙ ap (λ rest. held ++ rest) (goes ∙ ap (λ b. cond b (numbered (place + 1) ∷ held_from client (place + 1 + 1) (drop (place + 1) files)) (held_from client (place + 1 + 1) (drop (place + 1) files))) is)
      ∙ sym (append_assoc held (numbered (place + 1) ∷ []) (held_from client (place + 1 + 1) (drop (place + 1) files)))

  pub held_not : (held all : List FileId) → is_holder client x.holder ≡ false → all ≡ held ++ held_from client (place + 1) (drop place files) → all ≡ held ++ held_from client (place + 1 + 1) (drop (place + 1) files)
  held_not held all is before =
      before ∙ ap (λ rest. held ++ rest) (goes ∙ ap (λ b. cond b (numbered (place + 1) ∷ held_from client (place + 1 + 1) (drop (place + 1) files)) (held_from client (place + 1 + 1) (drop (place + 1) files))) is)
