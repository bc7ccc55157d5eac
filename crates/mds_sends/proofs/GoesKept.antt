-- What files have kept, one file after the other.
use Rattle.std.proofs.Common.{◌≡◌, ℕ, zero, suc, ◌+◌, ◌-◌, ◌<◌, ◌≤◌, Bool, true, false, cond, ◌==◌, List, [], ◌∷◌, ◌++◌, length, map, drop, Option, Some, None, refl, sym, ap, ◌∙◌, arith}
use Rattle.std.specs.Prelude.{slice_get}
use Rattle.std.proofs.lemmas.Bool.{ne_eqb, eqb-true}
use Rattle.std.proofs.lemmas.Bool.Decides.{nat_tests}
use Rattle.std.proofs.lemmas.Option.{none-some, same_Some}
use Rattle.cluster_model.specs.declared.ids.FileId.{FileId}
use Rattle.mds_activity.specs.FileCalls.{kept_out}
use Rattle.mds_rule.specs.Events.{kept_call_of}
use Rattle.mds_rule.specs.MdsStates.{ServedFile, MdsValue, served_in, numbered}
use Rattle.mds_rule.specs.Goes.{repeats}
use Rattle.served_files.specs.Quiet.{AreStill}
use Rattle.mds_sends.specs.declared.kept.NumberedCall.{NumberedCall}
use Rattle.mds_sends.specs.Kept.{kept_as, numbered_kept, kept_call, kept_in, FirstKept, first_number, kept_for, rest_behind}

-- ---- one list, from a place on

abbrev pub KeptList : Type 0
KeptList = List (Option (ℕ × ℕ))

-- what the file at one place has kept comes first
pub one_on : (n : ℕ) (list : KeptList) (i : ℕ) → numbered_kept n (drop i list) ≡ kept_as n (kept_in list i) ++ numbered_kept (suc n) (drop (suc i) list)
one_on n [] zero = refl
one_on n [] (suc i) = refl
one_on n (x ∷ list) zero = refl
one_on n (x ∷ list) (suc i) = one_on n list i

same_from : (list : KeptList) (n k i j : ℕ) → n ≡ k → i ≡ j → numbered_kept n (drop i list) ≡ numbered_kept k (drop j list)
same_from list n k i j same at = ap (λ (x : ℕ). numbered_kept x (drop i list)) same ∙ ap (λ (x : ℕ). numbered_kept k (drop x list)) at

-- where none has kept one, it is the same from further on
none_on : (d n : ℕ) (list : KeptList) (i : ℕ) → ((k : ℕ) → i ≤ k → k < i + d → kept_in list k ≡ None) → numbered_kept n (drop i list) ≡ numbered_kept (n + d) (drop (i + d) list)
none_on zero n list i none = same_from list n (n + 0) i (i + 0) (omega arith) (omega arith)
none_on (suc d) n list i none =
    one_on n list i ∙ ap (λ (o : Option (ℕ × ℕ)). kept_as n o ++ numbered_kept (suc n) (drop (suc i) list)) (none i (omega arith) (omega arith))
    ∙ none_on d (suc n) list (suc i) (λ k from before. none k (omega (arith, from)) (omega (arith, before)))
    ∙ same_from list (suc n + d) (n + suc d) (suc i + d) (i + suc d) (omega arith) (omega arith)

all_none : (n : ℕ) (list : KeptList) (i : ℕ) → ((k : ℕ) → i ≤ k → kept_in list k ≡ None) → numbered_kept n (drop i list) ≡ []
all_none n [] zero none = refl
all_none n [] (suc i) none = refl
all_none n (x ∷ list) zero none = ap (λ (o : Option (ℕ × ℕ)). kept_as n o ++ numbered_kept (suc n) list) (none 0 (omega arith)) ∙ all_none (suc n) list 0 (λ k from. none (suc k) (omega arith))
all_none n (x ∷ list) (suc i) none = all_none n list i (λ k from. none (suc k) (omega (arith, from)))

-- ---- what files have kept, as they are visited

abbrev pub kept_of : List ServedFile → KeptList
kept_of files = map (λ (s : ServedFile). kept_out s.file) files

kept_at : (files : List ServedFile) (i : ℕ) → kept_in (kept_of files) i ≡ kept_call_of (slice_get files i)
kept_at [] i = refl
kept_at (s ∷ files) zero = refl
kept_at (s ∷ files) (suc i) = kept_at files i

-- the file of a number stands one place before it
pub file_at : (files : List ServedFile) (n : ℕ) → served_in files (numbered (n + 1)) ≡ slice_get files n
file_at files n =
    let same : n + 1 - 1 ≡ n = omega arith in
    ap (λ (b : Bool). cond b None (slice_get files (n + 1 - 1))) (ne_eqb (n + 1) 0 (λ is. let no : n + 1 ≡ 0 = is in absurd (omega (arith, no)))) ∙ ap (slice_get files) same

-- one that is still has kept none
still_none : (files : List ServedFile) (from end i : ℕ) → AreStill files from end → from ≤ i + 1 → i + 1 < end → kept_in (kept_of files) i ≡ None
still_none files from end i still behind before = kept_at files i ∙ by_file (slice_get files i) refl
  where
    by_file : (o : Option ServedFile) → slice_get files i ≡ o → kept_call_of (slice_get files i) ≡ None
    by_file None is = ap kept_call_of is
    by_file (Some s) is = ap kept_call_of is ∙ (still (numbered (i + 1)) s behind before (file_at files i ∙ is)).kept

-- what is left from a number on
abbrev pub left_from : List ServedFile → ℕ → List NumberedCall
left_from files from = numbered_kept from (drop (from - 1) (kept_of files))

-- up to the next file that a tick may change, and what it has kept
pub left_at : (files : List ServedFile) (from : ℕ) (file : FileId) → 1 ≤ from → from ≤ file.0 → AreStill files from file.0 → left_from files from ≡ kept_as file.0 (kept_call_of (served_in files file)) ++ left_from files (file.0 + 1)
left_at files from file some behind still =
    let list = kept_of files in
    let n = file.0 in
    let here : served_in files file ≡ slice_get files (n - 1) = ap (served_in files) (numbered_again file (omega (arith, some, behind))) ∙ file_at files (n - 1) in
    none_on (n - from) from list (from - 1) (λ k after before. still_none files from n k still (omega (arith, after, some)) (omega (arith, before, some, behind)))
    ∙ same_from list (from + (n - from)) n (from - 1 + (n - from)) (n - 1) (omega (arith, behind)) (omega (arith, some, behind))
    ∙ one_on n list (n - 1)
    ∙ ap (λ (o : Option (ℕ × ℕ)). kept_as n o ++ numbered_kept (suc n) (drop (suc (n - 1)) list)) (kept_at files (n - 1) ∙ ap kept_call_of (sym here))
    ∙ ap (λ (l : List NumberedCall). kept_as n (kept_call_of (served_in files file)) ++ l) (same_from list (suc n) (n + 1) (suc (n - 1)) (n + 1 - 1) (omega arith) (omega (arith, some, behind)))
  where
    numbered_again : (f : FileId) → 1 ≤ f.0 → f ≡ numbered (f.0 - 1 + 1)
    numbered_again f past = let same : f.0 ≡ f.0 - 1 + 1 = omega (arith, past) in ap numbered same

some_within : (files : List ServedFile) (k : ℕ) (s : ServedFile) → slice_get files k ≡ Some s → k < length files
some_within [] k s is = absurd (none-some s is)
some_within (f ∷ files) zero s is = omega arith
some_within (f ∷ files) (suc k) s is = let less = some_within files k s is in omega (arith, less)

-- none is left
pub left_none : (files : List ServedFile) (from : ℕ) → 1 ≤ from → AreStill files from (length files + 1) → left_from files from ≡ []
left_none files from some still = all_none from (kept_of files) (from - 1) (λ k after. kept_at files k ∙ by_file k after (slice_get files k) refl)
  where
    by_file : (k : ℕ) → from - 1 ≤ k → (o : Option ServedFile) → slice_get files k ≡ o → kept_call_of (slice_get files k) ≡ None
    by_file k after None is = ap kept_call_of is
    by_file k after (Some s) is =
        let within = some_within files k s is in
        ap kept_call_of is ∙ (still (numbered (k + 1)) s (omega (arith, after, some)) (omega (arith, within)) (file_at files k ∙ is)).kept

-- ---- what is sent of them, one after the other

abbrev first_or : NumberedCall → List NumberedCall → NumberedCall
first_or other [] = other
first_or other (call ∷ rest) = call

abbrev behind_first : List NumberedCall → List NumberedCall
behind_first [] = []
behind_first (call ∷ rest) = rest

-- the first of them stands so many places on, and those before it have kept none
record IsFirst (n : ℕ) (list : KeptList) (call : NumberedCall) (rest : List NumberedCall) : Type 0 where
  at : ℕ
  number : call.number ≡ n + at
  none : (i : ℕ) → i < at → kept_in list i ≡ None
  here : kept_in list at ≡ Some (call.server, call.xid)
  others : rest ≡ numbered_kept (suc call.number) (drop (suc at) list)

none_more : (list : KeptList) (at : ℕ) → ((i : ℕ) → i < at → kept_in list i ≡ None) → (i : ℕ) → i < suc at → kept_in (None ∷ list) i ≡ None
none_more list at none zero before = refl
none_more list at none (suc i) before = none i (omega (arith, before))

is_first : (n : ℕ) (list : KeptList) (call : NumberedCall) (rest : List NumberedCall) → numbered_kept n list ≡ call ∷ rest → IsFirst n list call rest
is_first n [] call rest is = absurd (cc)
is_first n (None ∷ list) call rest is =
    let f = is_first (suc n) list call rest is in
    record { at = suc f.at; number = omega (arith, f.number); none = none_more list f.at f.none; here = f.here; others = f.others }
is_first n (Some k ∷ list) call rest is =
    let same = ap (first_or call) is in
    let number = ap (λ (c : NumberedCall). c.number) same in
    record {
      at = 0;
      number = omega (arith, number);
      none = λ i before. absurd (omega (arith, before));
      here = ap (λ (c : NumberedCall). Some (c.server, c.xid)) same;
      others = sym (ap behind_first is) ∙ ap (λ (x : ℕ). numbered_kept (suc x) list) number;
    }

is_none : (n : ℕ) (list : KeptList) → numbered_kept n list ≡ [] → (i : ℕ) → kept_in list i ≡ None
is_none n [] is i = refl
is_none n (None ∷ list) is zero = refl
is_none n (None ∷ list) is (suc i) = is_none (suc n) list is i
is_none n (Some k ∷ list) is i = absurd (cc)

kept_drop : (list : KeptList) (i j : ℕ) → kept_in (drop i list) j ≡ kept_in list (i + j)
kept_drop list zero j = let same : j ≡ 0 + j = omega arith in ap (kept_in list) same
kept_drop [] (suc i) j = refl
kept_drop (x ∷ list) (suc i) j = let same : suc (i + j) ≡ suc i + j = omega arith in kept_drop list i j ∙ ap (kept_in (x ∷ list)) same

drop_nil : (n : ℕ) → drop {A = Option (ℕ × ℕ)} n [] ≡ []
drop_nil zero = refl
drop_nil (suc n) = refl

drop_drop : (list : KeptList) (i j : ℕ) → drop j (drop i list) ≡ drop (i + j) list
drop_drop list zero j = let same : j ≡ 0 + j = omega arith in ap (λ (x : ℕ). drop x list) same
drop_drop [] (suc i) j = drop_nil j ∙ sym (drop_nil (suc i + j))
drop_drop (x ∷ list) (suc i) j = let same : suc (i + j) ≡ suc i + j = omega arith in drop_drop list i j ∙ ap (λ (k : ℕ). drop k (x ∷ list)) same

-- what is left of them from a number on
abbrev pub IsLeft : KeptList → ℕ → List NumberedCall → Type 0
IsLeft list from rest = rest ≡ numbered_kept from (drop (from - 1) list)

none_behind : (list : KeptList) (from : ℕ) → 1 ≤ from → IsLeft list from [] → (place : ℕ) → from ≤ suc place → kept_in list place ≡ None
none_behind list from some left place behind =
    let at : from - 1 + (place - (from - 1)) ≡ place = omega (arith, some, behind) in
    ap (kept_in list) (sym at) ∙ sym (kept_drop list (from - 1) (place - (from - 1))) ∙ is_none from (drop (from - 1) list) (sym left) (place - (from - 1))

none_before : (list : KeptList) (from : ℕ) (call : NumberedCall) (rest : List NumberedCall) → 1 ≤ from → IsLeft list from (call ∷ rest) → (place : ℕ) → from ≤ suc place → suc place < call.number → kept_in list place ≡ None
none_before list from call rest some left place behind before =
    let f = is_first from (drop (from - 1) list) call rest (sym left) in
    let at : from - 1 + (place - (from - 1)) ≡ place = omega (arith, some, behind) in
    ap (kept_in list) (sym at) ∙ sym (kept_drop list (from - 1) (place - (from - 1))) ∙ f.none (place - (from - 1)) (omega (arith, f.number, behind, before, some))

pub first_kept : (list : KeptList) (from : ℕ) (rest : List NumberedCall) → 1 ≤ from → IsLeft list from rest → FirstKept list from (first_number rest)
first_kept list from [] some left = λ end place behind before. none_behind list from some left place behind
first_kept list from (call ∷ rest) some left =
    let f = is_first from (drop (from - 1) list) call rest (sym left) in
    (omega (arith, f.number), none_before list from call rest some left)

pub kept_after : (list : KeptList) (from : ℕ) (rest : List NumberedCall) → 1 ≤ from → IsLeft list from rest → (k : ℕ) → first_number rest ≡ Some k → from ≤ k
kept_after list from [] some left k is = absurd (none-some k is)
kept_after list from (call ∷ rest) some left k is =
    let f = is_first from (drop (from - 1) list) call rest (sym left) in
    let same = same_Some call.number k is in
    omega (arith, f.number, same)

less_than : (a n from : ℕ) → (a == n) ≡ false → n ≤ a → 1 ≤ from → from ≤ n → suc (n - 1) < a
less_than a n from other most some behind = grind (arith, nat_tests, other, most, some, behind)

below_other : (a n from k : ℕ) → (a == n) ≡ false → n ≤ a → 1 ≤ from → from ≤ n → k < from - 1 + (n + 1 - from) → suc k < a
below_other a n from k other most some behind before = let less = less_than a n from other most some behind in omega (arith, less, before, some, behind)

-- what the file with this number has kept, and what is left behind it
pub kept_here : (list : KeptList) (from n : ℕ) (rest : List NumberedCall) → 1 ≤ from → IsLeft list from rest → from ≤ n → ((k : ℕ) → first_number rest ≡ Some k → n ≤ k) → kept_in list (n - 1) ≡ kept_for n rest
kept_here list from n [] some left behind least = none_behind list from some left (n - 1) (omega (arith, behind))
kept_here list from n (call ∷ rest) some left behind least = by_test (call.number == n) refl (least call.number refl)
  where
    by_test : (b : Bool) → (call.number == n) ≡ b → n ≤ call.number → kept_in list (n - 1) ≡ cond b (Some (call.server, call.xid)) None
    by_test true is most =
        let f = is_first from (drop (from - 1) list) call rest (sym left) in
        let same = eqb-true call.number n is in
        let at : from - 1 + f.at ≡ n - 1 = omega (arith, f.number, same, some) in
        ap (kept_in list) (sym at) ∙ sym (kept_drop list (from - 1) f.at) ∙ f.here
    by_test false is most = none_before list from call rest some left (n - 1) (omega (arith, behind)) (less_than call.number n from is most some behind)

pub left_behind : (list : KeptList) (from n : ℕ) (rest : List NumberedCall) → 1 ≤ from → IsLeft list from rest → from ≤ n → ((k : ℕ) → first_number rest ≡ Some k → n ≤ k) → IsLeft list (n + 1) (rest_behind n rest)
left_behind list from n [] some left behind least = sym (all_none (n + 1) list (n + 1 - 1) (λ k after. none_behind list from some left k (omega (arith, after, behind))))
left_behind list from n (call ∷ rest) some left behind least = by_test (call.number == n) refl (least call.number refl)
  where
    by_test : (b : Bool) → (call.number == n) ≡ b → n ≤ call.number → cond b rest (call ∷ rest) ≡ numbered_kept (n + 1) (drop (n + 1 - 1) list)
    by_test true is most =
        let f = is_first from (drop (from - 1) list) call rest (sym left) in
        let same = eqb-true call.number n is in
        f.others ∙ ap (numbered_kept (suc call.number)) (drop_drop list (from - 1) (suc f.at)) ∙ same_from list (suc call.number) (n + 1) (from - 1 + suc f.at) (n + 1 - 1) (omega (arith, same)) (omega (arith, f.number, same, some))
    by_test false is most =
        left
        ∙ none_on (n + 1 - from) from list (from - 1) (λ k after before. none_before list from call rest some left k (omega (arith, after, some)) (below_other call.number n from k is most some behind before))
        ∙ same_from list (from + (n + 1 - from)) (n + 1) (from - 1 + (n + 1 - from)) (n + 1 - 1) (omega (arith, behind)) (omega (arith, behind, some))

-- ---- what goes again

pub repeats_as : (o : Option (Option (ℕ × ℕ))) (kept : Option (ℕ × ℕ)) (m : MdsValue) → kept_call o ≡ kept → repeats (Some kept) m ≡ repeats o m
repeats_as None kept m is = ap (λ (k : Option (ℕ × ℕ)). repeats (Some k) m) (sym is)
repeats_as (Some k) kept m is = ap (λ (k : Option (ℕ × ℕ)). repeats (Some k) m) (sym is)
