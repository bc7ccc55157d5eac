-- Why of a file's own calls none waits behind the calls that go out, where they wait in order.
use Rattle.std.proofs.Common.{◌≡◌, ◌≢◌, ◌≤◌, ◌⊎◌, inl, inr, ℕ, zero, suc, true, false, List, [], ◌∷◌, length, map, Option, Some, None, refl, sym, ap, subst, ◌∙◌, arith}
use Rattle.std.specs.Prelude.{◌-◌, ◌==◌, slice_get, slice_set}
use Rattle.std.specs.List.{range_with_len}
use Rattle.std.proofs.lemmas.Bool.{cond_both, eq-eqb, eqb-true}
use Rattle.std.proofs.lemmas.Option.{none-some, same_Some}
use Rattle.cluster_model.specs.Members.{IsOneOf}
use Rattle.cluster_model.proofs.Elements.{slice_get-set_same}
use Rattle.cluster_model.specs.declared.ids.FileId.{FileId}
use Rattle.mds_io.specs.Reads.{ReadSends}
use Rattle.mds_rule.specs.MdsStates.{WaitingRead, ServedFile, MdsValue, MdsStep, sends_none, and_then, served, numbered}
use Rattle.mds_rule.specs.Goes.{calls_server, OwnCall, own_by, place_of, has_xids, own_call_at, own_next, own_call, recall_call, repeats, each, place_calls, file_calls, calls_out}
use Rattle.mds_quiet.specs.Resting.{own_servers, PlacesRise, RestsFile}
use Rattle.mds_quiet.specs.RestLaw.{FilesGoOut}
use Rattle.mds_quiet.proofs.OutWalk.{read_sent, each_so, reads_so, front_so, file_so}
use Rattle.mds_quiet.proofs.FileOuts.{served_suc, off_on, none_left, FileCases, Has, At, at_more, out_cases}
use Rattle.mds_quiet.proofs.OwnCalls.{goes_first, Idles, idles_from, idles_so}
use Rattle.mds_quiet.proofs.ReadsOut.{own_beside, same_place, numbered_in}

-- ---- the places of the servers to which own calls wait

abbrev servers : ServedFile → List ℕ
servers s = own_servers s.write s.file

abbrev places : ServedFile → List ℕ
places s = map (place_of s) (servers s)

abbrev rests : ServedFile → Type 0
rests s = Idles s.write s.file

lower : (low high : ℕ) (all : List ℕ) → low ≤ high → PlacesRise high all → PlacesRise low all
lower low high [] le rise = tt
lower low high (p ∷ all) le (up, few, rest) = (omega (arith, le, up), few, rest)

none_rise : (low high : ℕ) (all : List ℕ) → length all ≤ 0 → PlacesRise low all → PlacesRise high all
none_rise low high [] few rise = tt
none_rise low high (p ∷ all) few rise = absurd (omega (arith, few))

map_few : (g : ℕ → ℕ) (all : List ℕ) (k : ℕ) → length all ≤ k → length (map g all) ≤ k
map_few g [] k few = few
map_few g (x ∷ all) zero few = absurd (omega (arith, few))
map_few g (x ∷ all) (suc k) few = let rest = map_few g all k (omega (arith, few)) in omega (arith, rest)

same_places : (s t : ServedFile) (all : List ℕ) → t.file.layout ≡ s.file.layout → map (place_of t) all ≡ map (place_of s) all
same_places s t [] same = refl
same_places s t (n ∷ all) same = ap (λ (k : ℕ). k ∷ map (place_of t) all) (same_place s t n same) ∙ ap (λ (l : List ℕ). place_of s n ∷ l) (same_places s t all same)

-- ---- what is left of them

-- they rise from one place on, and are so few
pub record AreLeft (low few : ℕ) (s : ServedFile) : Type 0 where
  pub rise : PlacesRise low (places s)
  pub few_left : length (servers s) ≤ few

-- behind a call of them
taken : (low few : ℕ) (file : FileId) (s : ServedFile) (xid : ℕ) (c : OwnCall) → own_by file s xid s.write ≡ Some c → AreLeft low (suc few) s → (low ≤ place_of s c.server) × AreLeft low few c.served
taken low few file s xid c is left =
    let first : servers s ≡ c.server ∷ servers c.served = goes_first file s xid s.write refl c is in
    let rise : PlacesRise low (place_of s c.server ∷ map (place_of s) (servers c.served)) = subst (λ (l : List ℕ). PlacesRise low (map (place_of s) l)) first left.rise in
    let size : length (c.server ∷ servers c.served) ≤ suc few = subst (λ (l : List ℕ). length l ≤ suc few) first left.few_left in (
      rise.0,
      record {
        rise = subst (PlacesRise low) (sym (same_places s c.served (servers c.served) (own_beside file s xid c s.write is).layout)) (lower low (place_of s c.server) (map (place_of s) (servers c.served)) rise.0 rise.2);
        few_left = omega (arith, size);
      },
    )

more_left : (low few : ℕ) (s : ServedFile) → AreLeft low few s → AreLeft low (suc few) s
more_left low few s left = let few_so = left.few_left in record { rise = left.rise; few_left = omega (arith, few_so) }

-- within the pass of a place: those of lower places are out, and of this place so many are left
abbrev Within : ℕ → ℕ → ServedFile → Type 0
Within q k s = rests s ⊎ (AreLeft (suc q) 4 s ⊎ (AreLeft q 4 s × AreLeft q k s))

not_idle : (file : FileId) (s : ServedFile) (xid : ℕ) (c : OwnCall) → own_by file s xid s.write ≡ Some c → rests s → ⊥
not_idle file s xid c is idle = none-some c (sym (idles_so file s xid s.write idle) ∙ is)

fewer : (low few : ℕ) (file : FileId) (s : ServedFile) (xid : ℕ) (c : OwnCall) → own_by file s xid s.write ≡ Some c → AreLeft low few s → AreLeft low few c.served
fewer low few file s xid c is left = (taken low few file s xid c is (more_left low few s left)).1

within_cases : (q k : ℕ) → FileCases (Within q k)
within_cases q k = record { reads = λ s n r sent xid at goes i. beside s n r sent i; own = own_within }
  where
    beside : (s : ServedFile) (n : ℕ) (r : WaitingRead) (sent : ReadSends) → Within q k s → Within q k (read_sent s n r sent)
    beside s n r sent (inl idle) = inl idle
    beside s n r sent (inr (inl left)) = inr (inl (record { rise = left.rise; few_left = left.few_left }))
    beside s n r sent (inr (inr (all, left))) = inr (inr (record { rise = all.rise; few_left = all.few_left }, record { rise = left.rise; few_left = left.few_left }))

    own_within : (file : FileId) (s : ServedFile) (xid : ℕ) (c : OwnCall) → own_by file s xid s.write ≡ Some c → Within q k s → Within q k c.served
    own_within file s xid c is (inl idle) = absurd (not_idle file s xid c is idle)
    own_within file s xid c is (inr (inl left)) = inr (inl (fewer (suc q) 4 file s xid c is left))
    own_within file s xid c is (inr (inr (all, left))) = inr (inr (fewer q 4 file s xid c is all, fewer q k file s xid c is left))

module _ (p : ℕ) where
  abbrev file_at : FileId
  file_at = numbered (suc p)

  only : (R : ServedFile → Type 0) (m : MdsValue) (s : ServedFile) → served m file_at ≡ Some s → R s → Has p R m
  only R m s is its u at = subst R (same_Some s u (sym is ∙ served_suc m p ∙ at)) its

  -- ---- one call

  module _ (q k : ℕ) where
    step_at : (m : MdsValue) (s : ServedFile) (o : Option OwnCall) → served m file_at ≡ Some s → own_by file_at s m.next_xid s.write ≡ o → Within q (suc k) s → At p (Within q k) (own_call_at m file_at s q o).mds
    step_at m s None is its i = inr (only (Within q k) m s is (inl (idles_from file_at s m.next_xid s.write its)))
    step_at m s (Some c) is its (inl idle) = absurd (not_idle file_at s m.next_xid c its idle)
    step_at m s (Some c) is its (inr (inl left)) =
        let t = taken (suc q) 4 file_at s m.next_xid c its (more_left (suc q) 4 s left) in
        cond_both (place_of s c.server == q) (calls_server m file_at c.served c.caller c.server c.uid c.call) (sends_none m) (λ (x : MdsStep). At p (Within q k) x.mds)
        (λ here. absurd (over (place_of s c.server) t.0 (eqb-true (place_of s c.server) q here))) (λ off. inr (only (Within q k) m s is (inr (inl left))))
      where
        over : (n : ℕ) → suc q ≤ n → n ≡ q → ⊥
        over n up same = absurd (omega (arith, up, same))
    step_at m s (Some c) is its (inr (inr (all, left))) =
        let t = taken q k file_at s m.next_xid c its left in
        cond_both (place_of s c.server == q) (calls_server m file_at c.served c.caller c.server c.uid c.call) (sends_none m) (λ (x : MdsStep). At p (Within q k) x.mds)
        (λ here. inr (λ u there. subst (Within q k) (same_Some c.served u (sym put_there ∙ there)) (inr (inr (fewer q 4 file_at s m.next_xid c its all, t.1)))))
        (λ off. inr (only (Within q k) m s is (inr (inl (above off)))))
      where
        put_there : slice_get (slice_set m.files (file_at.0 - 1) c.served) p ≡ Some c.served
        put_there =
            let here : file_at.0 - 1 ≡ p = omega arith in
            subst (λ (i : ℕ). slice_get (slice_set m.files i c.served) p ≡ Some c.served) (sym here) (slice_get-set_same m.files p s c.served (sym (served_suc m p) ∙ is))

        above : (place_of s c.server == q) ≡ false → AreLeft (suc q) 4 s
        above off =
            let first : servers s ≡ c.server ∷ servers c.served = goes_first file_at s m.next_xid s.write refl c its in
            let rise : PlacesRise q (place_of s c.server ∷ map (place_of s) (servers c.served)) = subst (λ (l : List ℕ). PlacesRise q (map (place_of s) l)) first all.rise in
            record {
              rise = subst (λ (l : List ℕ). PlacesRise (suc q) (map (place_of s) l)) (sym first) (strict (place_of s c.server) rise.0 (λ same. off_on (sym off ∙ eq-eqb (place_of s c.server) q same)), rise.1, rise.2);
              few_left = all.few_left;
            }
          where
            strict : (n : ℕ) → q ≤ n → n ≢ q → suc q ≤ n
            strict n up ne = omega (arith, up, ne)

    step_next : (m : MdsValue) (o : Option ServedFile) → served m file_at ≡ o → Has p (Within q (suc k)) m → At p (Within q k) (own_next m file_at q o).mds
    step_next m None is all = inr (λ s at. absurd (none-some s (sym is ∙ served_suc m p ∙ at)))
    step_next m (Some s) is all = step_at m s (own_by file_at s m.next_xid s.write) is refl (all s (sym (served_suc m p) ∙ is))

    step : (m : MdsValue) → At p (Within q (suc k)) m → At p (Within q k) (own_call file_at q m).mds
    step m (inl none) = cond_both (has_xids m) (own_next m file_at q (served m file_at)) (sends_none m) (λ (x : MdsStep). At p (Within q k) x.mds) (λ has. absurd (none_has has)) (λ off. inl none)
      where
        none_has : has_xids m ≡ true → ⊥
        none_has has = Rattle.mds_progress.proofs.OutWalk.some_number m has none
    step m (inr all) = cond_both (has_xids m) (own_next m file_at q (served m file_at)) (sends_none m) (λ (x : MdsStep). At p (Within q k) x.mds) (λ has. step_next m (served m file_at) refl all) (λ off. inl (none_left m off))

  -- ---- the pass of a place

  abbrev From : ℕ → ServedFile → Type 0
  From q s = Within q 4 s

  next_place : (q : ℕ) (s : ServedFile) → Within q 0 s → From (suc q) s
  next_place q s (inl idle) = inl idle
  next_place q s (inr (inl left)) = inr (inr (left, left))
  next_place q s (inr (inr (all, left))) =
      let none : length (servers s) ≤ 0 = left.few_left in
      let next : AreLeft (suc q) 4 s = record { rise = none_rise q (suc q) (places s) (map_few (place_of s) (servers s) 0 none) all.rise; few_left = all.few_left } in
      inr (inr (next, next))

  behind_place : (q : ℕ) (m : MdsValue) → At p (From q) m → At p (From (suc q)) (place_calls file_at q m).mds
  behind_place q m i =
      let one : MdsValue = (own_call file_at q m).mds in
      let two : MdsValue = (own_call file_at q one).mds in
      let three : MdsValue = (own_call file_at q two).mds in
      let four : MdsValue = (own_call file_at q three).mds in
      reads_so (At p (From (suc q))) (out_cases p (From (suc q)) (within_cases (suc q) 4)) file_at q four
      (at_more p (Within q 0) (From (suc q)) four (next_place q) (step q 0 three (step q 1 two (step q 2 one (step q 3 m i)))))

  passes : (m : MdsValue) → At p (From 0) m → At p (From 5) (each (place_calls file_at) (0 ∷ 1 ∷ 2 ∷ 3 ∷ 4 ∷ []) m).mds
  passes m i =
      let one : MdsValue = (place_calls file_at 0 m).mds in
      let two : MdsValue = (place_calls file_at 1 one).mds in
      let three : MdsValue = (place_calls file_at 2 two).mds in
      let four : MdsValue = (place_calls file_at 3 three).mds in
      behind_place 4 four (behind_place 3 three (behind_place 2 two (behind_place 1 one (behind_place 0 m i))))

  of_files : (kept : List (Option (ℕ × ℕ))) (list : List ℕ) (m : MdsValue) → IsOneOf (suc p) list → At p (From 0) m → At p (From 5) (each (file_calls kept) list m).mds
  of_files kept [] m inside i = absurd inside
  of_files kept (n ∷ list) m (inl same) i =
      each_so (At p (From 5)) (out_cases p (From 5) (within_cases 5 4)) (file_calls kept) (λ j x. file_so (At p (From 5)) (out_cases p (From 5) (within_cases 5 4)) kept j x) list (file_calls kept n m).mds
      (subst (λ (j : ℕ). At p (From 5) (file_calls kept j m).mds) same
      (passes (and_then (recall_call (numbered (suc p)) m) (repeats (slice_get kept (suc p - 1)))).mds (front_so (At p (From 0)) (out_cases p (From 0) (within_cases 0 4)) kept (suc p) m i)))
  of_files kept (n ∷ list) m (inr inside) i = of_files kept list (file_calls kept n m).mds inside (file_so (At p (From 0)) (out_cases p (From 0) (within_cases 0 4)) kept n m i)

  -- behind all places none waits
  none_above : (all : List ℕ) → PlacesRise 5 all → all ≡ []
  none_above [] rise = refl
  none_above (n ∷ all) (up, few, rest) = absurd (omega (arith, up, few))

  high_none : (s : ServedFile) → AreLeft 5 4 s → RestsFile s
  high_none s left file xid = by_call (own_by file s xid s.write) refl
    where
      by_call : (o : Option OwnCall) → own_by file s xid s.write ≡ o → o ≡ None
      by_call None is = refl
      by_call (Some c) is =
          let first : servers s ≡ c.server ∷ servers c.served = goes_first file s xid s.write refl c is in
          let rise : PlacesRise 5 (place_of s c.server ∷ map (place_of s) (servers c.served)) = subst (λ (l : List ℕ). PlacesRise 5 (map (place_of s) l)) first left.rise in
          absurd (not_nil (place_of s c.server) (map (place_of s) (servers c.served)) (none_above (place_of s c.server ∷ map (place_of s) (servers c.served)) rise))
        where
          not_nil : (n : ℕ) (l : List ℕ) → n ∷ l ≡ [] → ⊥
          not_nil n l e = absurd cc

  all_rest : (s : ServedFile) → From 5 s → RestsFile s
  all_rest s (inl idle) = λ file xid. idles_so file s xid s.write idle
  all_rest s (inr (inl left)) = high_none s (record { rise = lower 5 6 (places s) (omega arith) left.rise; few_left = left.few_left })
  all_rest s (inr (inr (all, left))) = high_none s all

pub files_go : (kept : List (Option (ℕ × ℕ))) (m : MdsValue) → FilesGoOut kept m
files_go kept m p s t at order there some = by_number (of_files p kept (range_with_len 1 (length m.files)) m (numbered_in m p s at) (inr begun))
  where
    begun : (u : ServedFile) → slice_get m.files p ≡ Some u → Within 0 4 u
    begun u is =
        let left : AreLeft 0 4 s = record { rise = order.rise; few_left = order.few } in
        subst (Within 0 4) (same_Some s u (sym at ∙ is)) (inr (inr (left, left)))

    by_number : At p (Within 5 4) (calls_out kept m).mds → RestsFile t
    by_number (inl none) = absurd (some none)
    by_number (inr all) = all_rest p t (all t there)
