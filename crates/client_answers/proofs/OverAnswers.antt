-- Going over writes and addresses from the first to the last.
use Rattle.std.proofs.Common.{◌≡◌, ℕ, ◌+◌, ◌<◌, ◌≤◌, List, [], ◌∷◌, ◌++◌, length, drop, Option, Some, refl, sym, ap, ◌∙◌, get_or, drop-cons, add-one, zero, suc, Bool, true, false, cond, None, arith}
use Rattle.std.specs.Prelude.{slice_get}
use Rattle.std.proofs.lemmas.Option.{slice_get_within, get_or_from_slice_get}
use Rattle.std.proofs.lemmas.List.{drop_all}
use Rattle.nfs4_types.specs.declared.ids.DeviceId.{DeviceId}
use Rattle.device_addr.specs.declared.net_addr.NetAddr.{NetAddr}
use Rattle.std.specs.List.{flat_map, position, position_from}
use Rattle.std.specs.Option.{option_to_list}
use Rattle.client_file_calls.specs.declared.open.OpenFile.{OpenFile}
use Rattle.mirror_writer.specs.Writers.{WriterValue}
use Rattle.client_answers.specs.ClientMirrors.{told_entry, told_entries}
use Rattle.client_answers.specs.ClientAnswers.{with_addresses}

pub drop_here : {A : Type 0} (xs : List A) (i : ℕ) (x : A) → slice_get xs i ≡ Some x → drop i xs ≡ x ∷ drop (i + 1) xs
drop_here xs i x is =
    let within = slice_get_within xs i x is in
    drop-cons xs i x within ∙ ap (λ k. get_or xs i x ∷ drop k xs) (sym (add-one i)) ∙ ap (λ y. y ∷ drop (i + 1) xs) (get_or_from_slice_get xs i x x is)

pub told_here : (file : OpenFile) (w : WriterValue) (ns : List ℕ) (i d : ℕ) → i < length ns
    → told_entries file w (drop i ns) ≡ told_entry file w.cred (slice_get w.taken (get_or ns i d)) ++ told_entries file w (drop (i + 1) ns)
told_here file w ns i d within = ap (told_entries file w) (drop-cons ns i d within ∙ ap (λ k. get_or ns i d ∷ drop k ns) (sym (add-one i)))

pub with_none : (devices : List (DeviceId × NetAddr)) (servers : List ℕ) → with_addresses devices servers [] ≡ devices
with_none devices [] = refl
with_none devices (s ∷ servers) = refl

pub addresses_done : (devices : List (DeviceId × NetAddr)) (servers : List ℕ) (places : List (Option NetAddr)) (i : ℕ) → length places ≤ i → with_addresses devices servers (flat_map option_to_list (drop i places)) ≡ devices
addresses_done devices servers places i le = ap (λ ps. with_addresses devices servers (flat_map option_to_list ps)) (drop_all i places le) ∙ with_none devices servers

pub first_here : {A : Type 0} (test : A → Bool) (xs : List A) (i : ℕ) (x : A) → slice_get xs i ≡ Some x → position test xs ≡ position_from test i (drop i xs) → test x ≡ true → position test xs ≡ Some i
first_here test xs i x is before passes = before ∙ ap (position_from test i) (drop_here xs i x is) ∙ ap (λ b. cond b (Some i) (position_from test (i + 1) (drop (i + 1) xs))) passes

pub first_later : {A : Type 0} (test : A → Bool) (xs : List A) (i : ℕ) (x : A) → slice_get xs i ≡ Some x → position test xs ≡ position_from test i (drop i xs) → test x ≡ false
    → position test xs ≡ position_from test (i + 1) (drop (i + 1) xs)
first_later test xs i x is before fails = before ∙ ap (position_from test i) (drop_here xs i x is) ∙ ap (λ b. cond b (Some i) (position_from test (i + 1) (drop (i + 1) xs))) fails

pub first_none : {A : Type 0} (test : A → Bool) (xs : List A) (i : ℕ) → length xs ≤ i → position test xs ≡ position_from test i (drop i xs) → position test xs ≡ None
first_none test xs i le before = before ∙ ap (position_from test i) (drop_all i xs le)

pub none_at : {A : Type 0} (xs : List A) (i : ℕ) → slice_get xs i ≡ None → length xs ≤ i
none_at [] i is = omega arith
none_at (x ∷ xs) zero is = absurd cc
none_at (x ∷ xs) (suc i) is = let rest = none_at xs i is in omega (arith, rest)
