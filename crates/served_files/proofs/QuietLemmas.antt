-- Files that are so but for those that are marked, where one of them changes or another place is marked; whether a file is quiet.
use Rattle.std.proofs.Common.{◌≡◌, ℕ, ◌+◌, ◌-◌, ◌==◌, ◌<◌, cond, ◌≤◌, Bool, true, false, List, [], ◌∷◌, ◌++◌, length, set, Option, Some, None, refl, sym, ap, subst, ◌∙◌, inl, inr, ◌⊎◌, arith}
use Rattle.std.specs.Prelude.{◌≢◌, slice_get, is_some}
use Rattle.std.specs.BTreeMap.{is_at}
use Rattle.std.specs.Ordering.{nat_cmp}
use Rattle.std.proofs.lemmas.Bool.{cases_eq, cases_lt, eq-eqb}
use Rattle.std.proofs.lemmas.Bool.Decides.{nat_tests}
use Rattle.std.proofs.lemmas.Option.{none-some, same_Some, slice_get_past}
use Rattle.cluster_model.proofs.Elements.{slice_get-set_same, slice_get-set_other, Pushed, Old, New, pushed}
use Rattle.cluster_model.specs.declared.ids.FileId.{FileId}
use Rattle.mds_rule.specs.MdsStates.{ServedFile, served_in, numbered}
use Rattle.served_files.specs.Sending.{OwnWaits, ReadWaits, read_sent}
use Rattle.served_files.specs.Quiet.{IsFileQuiet, AreAll, is_marked, AreAllBut, IsFirstMarked}

-- ---- the places that are marked

-- each place that was marked still is
abbrev pub StayMarked : List ℕ → List ℕ → Type 0
StayMarked old new = (place : ℕ) → is_marked new place ≡ false → is_marked old place ≡ false

marked_twice : (marked : List ℕ) (i j : ℕ) → i ≡ j → is_marked marked i ≡ false → is_marked marked j ≡ true → ⊥
marked_twice marked i j same not is = let bad : false ≡ true = sym not ∙ ap (is_marked marked) same ∙ is in absurd (cc)

other_place : (i place : ℕ) → place ≢ i → is_at (nat_cmp i) place ≡ false
other_place i place differs = grind (arith, nat_tests, differs)

module _ (P : ServedFile → Type 0) where
  pub still_all : (old new : List ℕ) (files : List ServedFile) → StayMarked old new → AreAllBut P old files → AreAllBut P new files
  still_all old new files stay all = λ place s there not. all place s there (stay place not)

  -- a file changes whose place is marked
  pub all_set : (marked : List ℕ) (files : List ServedFile) (i : ℕ) (y : ServedFile) → is_marked marked i ≡ true → AreAllBut P marked files → AreAllBut P marked (set files i y)
  all_set marked files i y is all = λ place s there not. all place s (sym (slice_get-set_other files i place y (λ same. marked_twice marked place i same not is)) ∙ there) not

  -- a file comes whose place is marked
  pub all_push : (marked : List ℕ) (files : List ServedFile) (y : ServedFile) → is_marked marked (length files) ≡ true → AreAllBut P marked files → AreAllBut P marked (files ++ y ∷ [])
  all_push marked files y is all = λ place s there not. by_place place s not (pushed files y place s there)
    where
      by_place : (place : ℕ) (s : ServedFile) → is_marked marked place ≡ false → Pushed files y place s → P s
      by_place place s not (Old there) = all place s there not
      by_place place s not (New at same) = absurd (marked_twice marked place (length files) at not is)

  -- a file that is so is marked no more
  pub all_settled : (old new : List ℕ) (files : List ServedFile) (i : ℕ) (x : ServedFile) → slice_get files i ≡ Some x → P x → ((place : ℕ) → is_at (nat_cmp i) place ≡ false → is_marked new place ≡ is_marked old place)
      → AreAllBut P old files → AreAllBut P new files
  all_settled old new files i x here is others all = λ place s there not. by_place place s there not (cases_eq place i)
    where
      by_place : (place : ℕ) (s : ServedFile) → slice_get files place ≡ Some s → is_marked new place ≡ false → (place ≡ i) ⊎ (place ≢ i) → P s
      by_place place s there not (inl same) = subst P (same_Some x s (sym here ∙ ap (slice_get files) (sym same) ∙ there)) is
      by_place place s there not (inr other) = all place s there (sym (others place (other_place i place other)) ∙ not)

-- ---- the files before the first place that is marked

served_at : (files : List ServedFile) (file : FileId) (s : ServedFile) → served_in files file ≡ Some s → slice_get files (file.0 - 1) ≡ Some s
served_at files file s there = by_test (file.0 == 0) there
  where
    by_test : (b : Bool) → cond b None (slice_get files (file.0 - 1)) ≡ Some s → slice_get files (file.0 - 1) ≡ Some s
    by_test true is = absurd (cc)
    by_test false is = is

served_past : (files : List ServedFile) (file : FileId) (s : ServedFile) → served_in files file ≡ Some s → 1 ≤ file.0
served_past files file s there = by_place (cases_lt 0 file.0)
  where
    by_place : (0 < file.0) ⊎ (file.0 ≤ 0) → 1 ≤ file.0
    by_place (inl some) = omega (arith, some)
    by_place (inr none) =
        let zero : file.0 ≡ 0 = omega (arith, none) in
        absurd (none-some s (sym (ap (λ (b : Bool). cond b None (slice_get files (file.0 - 1))) (eq-eqb file.0 0 zero)) ∙ there))

unmarked : (marked : List ℕ) (first place p : ℕ) → IsFirstMarked marked first place → first ≤ p → p < place → is_marked marked p ≡ false
unmarked marked first place p found from before = by_test (is_marked marked p) refl
  where
    by_test : (b : Bool) → is_marked marked p ≡ b → is_marked marked p ≡ false
    by_test false is = is
    by_test true is = let over : place ≤ p = found.least p from is in absurd (omega (arith, over, before))

module _ (P : ServedFile → Type 0) where
  -- none is marked
  pub all_from : (marked : List ℕ) (files : List ServedFile) (from first end : ℕ) → first ≡ from - 1 → ((p : ℕ) → first ≤ p → is_marked marked p ≡ false) → AreAllBut P marked files → AreAll P files from end
  all_from marked files from first end begins none all = λ file s behind before there.
      let past = served_past files file s there in
      all (file.0 - 1) s (served_at files file s there) (none (file.0 - 1) (omega (arith, begins, behind, past)))

  -- this one is the first
  pub all_before : (marked : List ℕ) (files : List ServedFile) (from first place end : ℕ) → first ≡ from - 1 → IsFirstMarked marked first place → end ≤ place + 1 → AreAllBut P marked files → AreAll P files from end
  all_before marked files from first place end begins found within all = λ file s behind before there.
      let past = served_past files file s there in
      all (file.0 - 1) s (served_at files file s there)
      (unmarked marked first place (file.0 - 1) found (omega (arith, begins, behind, past)) (omega (arith, before, within, past)))

-- ---- whether a file is quiet, by what waits in it

pub own_rests : (s : ServedFile) (o : Option ℕ) → is_some o ≡ false → ((file : FileId) (xid : ℕ) → OwnWaits s file xid o) → (file : FileId) (xid : ℕ) → OwnWaits s file xid None
own_rests s None none waits = waits
own_rests s (Some server) none waits = absurd (cc)

pub own_waits : (s : ServedFile) (o : Option ℕ) → is_some o ≡ true → ((file : FileId) (xid : ℕ) → OwnWaits s file xid o) → IsFileQuiet s → ⊥
own_waits s None some waits quiet = absurd (cc)
own_waits s (Some server) some waits quiet = let call = waits (numbered 0) 0 in none-some call.0 (sym (quiet.own (numbered 0) 0) ∙ call.1)

pub read_rests : (s : ServedFile) (n : ℕ) (o : Option ℕ) → is_some o ≡ false → ((xid : ℕ) → ReadWaits s n xid o) → (xid : ℕ) → ReadWaits s n xid None
read_rests s n None none waits = waits
read_rests s n (Some server) none waits = absurd (cc)

pub read_waits : (s : ServedFile) (n : ℕ) (o : Option ℕ) → is_some o ≡ true → ((xid : ℕ) → ReadWaits s n xid o) → IsFileQuiet s → ⊥
read_waits s n None some waits quiet = absurd (cc)
read_waits s n (Some server) some waits quiet = let sent = waits 0 in none-some sent.0 (sym (quiet.reads n 0) ∙ sent.1)

-- none of its first READs waits
abbrev pub ReadsRest : ServedFile → ℕ → Type 0
ReadsRest s n = (k : ℕ) → k < n → (xid : ℕ) → ReadWaits s k xid None

pub reads_rest : (s : ServedFile) (n : ℕ) → length s.reads ≤ n → ReadsRest s n → (k xid : ℕ) → ReadWaits s k xid None
reads_rest s n all rest k xid = by_place (cases_lt k n)
  where
    by_place : (k < n) ⊎ (n ≤ k) → ReadWaits s k xid None
    by_place (inl below) = rest k below xid
    by_place (inr past) = ap (read_sent s xid) (slice_get_past s.reads k (omega (arith, all, past)))
