-- An outcome is there just where each target that is left has taken all bytes of the source.
use Rattle.std.proofs.Common.{◌≡◌, ℕ, zero, suc, ◌+◌, Bool, true, false, cond, List, [], ◌∷◌, ◌++◌, length, map, Option, Some, None, refl, sym, ap, subst, ◌∙◌, append-nil, append_assoc, length-append, arith}
use Rattle.std.specs.Prelude.{◌&&◌, ◌||◌, not, slice_get, fold, filter}
use Rattle.std.specs.List.{list_all, flat_map, All, AllByRecursion}
use Rattle.std.proofs.lemmas.Bool.{and_parts}
use Rattle.std.proofs.lemmas.Grind.{common_steps}
use Rattle.std.proofs.lemmas.Option.{same_Some, none-some}
use Rattle.cluster_model.specs.declared.ids.MirrorId.{MirrorId}
use Rattle.cluster_model.specs.declared.ids.Mirror.{Mirror}
use Rattle.cluster_model.specs.declared.targets.SwappedIn.{SwappedIn}
use Rattle.cluster_model.specs.declared.call_stage.CallStage.{CallStage}
use Rattle.cluster_model.specs.declared.call_stage.CallStage.TheVariants.{Waits, Out, KeptOut, KeptBack, Done, GivenUp}
use Rattle.cluster_model.specs.Content.{Pending, overlay}
use Rattle.cluster_model.specs.Fences.{is_over}
use Rattle.copy_rule.specs.declared.copy_target.Target.{Target}
use Rattle.copy_rule.specs.declared.copy_target.CopyTarget.{CopyTarget}
use Rattle.copy_rule.specs.Copies.{CopyState, is_given_up, have_answered, is_none_left, has_outcome, swap_of, swaps_of, outcome}
use Rattle.resilver.specs.CopyLaws.{CopyMove, CopyNote, Piece, pieces_read, AreInTurn, said_end, bytes_read, write_for, writes_for, shown_by, writes_taken, was_created, was_lost, are_left, HoldsSource, HasOutcome, IsUnfinished, AreTargetsApart, copy_run}
use Rattle.resilver.proofs.Lists.{apart, all_at}
use Rattle.resilver.proofs.Turns.{in_turn_of, said_so}
use Rattle.resilver.proofs.Standing.{TargetAt, Standing, Unmade, Writing, Holding, Lost, open_over}
use Rattle.resilver.proofs.Held.{Stands, stands_run}

-- ---- lists

split_at : {A : Type 0} (xs : List A) (i : ℕ) (x : A) → slice_get xs i ≡ Some x → (before behind : List A) × (xs ≡ before ++ x ∷ behind)
split_at [] i x e = absurd cc
split_at (y ∷ xs) zero x e = ([], xs, ap (λ z. z ∷ xs) (same_Some y x e))
split_at (y ∷ xs) (suc i) x e = let s = split_at xs i x e in (y ∷ s.0, s.1, ap (λ l. y ∷ l) s.2)

filtered_split : {A : Type 0} (test : A → Bool) (before : List A) (x : A) (behind : List A) → test x ≡ true → filter test (before ++ x ∷ behind) ≡ filter test before ++ x ∷ filter test behind
filtered_split test [] x behind passes = ap (λ b. cond b (x ∷ filter test behind) (filter test behind)) passes
filtered_split {A = A} test (y ∷ before) x behind passes = by_test (test y) (filtered_split test before x behind passes)
  where
    by_test : (b : Bool) → filter test (before ++ x ∷ behind) ≡ filter test before ++ x ∷ filter test behind
        → cond b (y ∷ filter test (before ++ x ∷ behind)) (filter test (before ++ x ∷ behind)) ≡ cond b (y ∷ filter test before) (filter test before) ++ x ∷ filter test behind
    by_test true rest = ap (λ l. y ∷ l) rest
    by_test false rest = rest

-- one does not pass
some_fails : {A : Type 0} (test : A → Bool) (xs : List A) → list_all test xs ≡ false → (i : ℕ) × (x : A) × (slice_get xs i ≡ Some x) × (test x ≡ false)
some_fails test [] is = absurd cc
some_fails {A = A} test (y ∷ xs) is = by_test (test y) refl is (some_fails test xs)
  where
    by_test : (b : Bool) → test y ≡ b → (b && list_all test xs) ≡ false → (list_all test xs ≡ false → (i : ℕ) × (x : A) × (slice_get xs i ≡ Some x) × (test x ≡ false))
        → (i : ℕ) × (x : A) × (slice_get (y ∷ xs) i ≡ Some x) × (test x ≡ false)
    by_test false fails rest more = (0, y, refl, fails)
    by_test true passes rest more = let m = more rest in (suc m.0, m.1, m.2, m.3)

all_of : {X : Type 0} (P : X → Type 0) (xs : List X) → AllByRecursion P xs → All P xs
all_of P [] all k d within = absurd (omega (arith, within))
all_of P (x ∷ xs) all zero d within = all.0
all_of P (x ∷ xs) all (suc k) d within = all_of P xs all.1 k d (omega (arith, within))

-- two lists, place by place
abbrev Zip : (Target → CopyTarget → Type 0) → List Target → List CopyTarget → Type 0
Zip R [] [] = Unit {0}
Zip R (p ∷ ps) (t ∷ ts) = R p t × Zip R ps ts
Zip R [] (t ∷ ts) = ⊥
Zip R (p ∷ ps) [] = ⊥

zip_by : (R : Target → CopyTarget → Type 0) (ps : List Target) (ts : List CopyTarget)
    → ((place : ℕ) (t : CopyTarget) → slice_get ts place ≡ Some t → (from : Target) × (slice_get ps place ≡ Some from) × R from t)
    → ((place : ℕ) → slice_get ts place ≡ None → slice_get ps place ≡ None) → Zip R ps ts
zip_by R [] [] at whole = tt
zip_by R [] (t ∷ ts) at whole = let f = at 0 t refl in absurd (none-some f.0 f.1)
zip_by R (p ∷ ps) [] at whole = absurd (none-some p (sym (whole 0 refl)))
zip_by R (p ∷ ps) (t ∷ ts) at whole =
    let f = at 0 t refl in
    (subst (λ (k : Target). R k t) (sym (same_Some p f.0 f.1)) f.2, zip_by R ps ts (λ place. at (suc place)) (λ place. whole (suc place)))

-- ---- what a file shows

at_end : (old : List ℕ) (b : ℕ) (bytes : List ℕ) → overlay old (length old) (b ∷ bytes) ≡ old ++ b ∷ bytes
at_end old b bytes = grind (arith, common_steps)

-- the pieces put one behind the other
shows_from : (pieces : List Piece) (old : List ℕ) → AreInTurn (length old) pieces → fold (λ (bytes : List ℕ) (w : Pending). overlay bytes w.at w.bytes) old (writes_for pieces) ≡ old ++ bytes_read pieces
shows_from [] old turn = sym (append-nil old)
shows_from (p ∷ pieces) old turn = by_bytes p.bytes refl (shows_from pieces)
  where
    by_bytes : (l : List ℕ) → p.bytes ≡ l → ((old' : List ℕ) → AreInTurn (length old') pieces → fold (λ (bytes : List ℕ) (w : Pending). overlay bytes w.at w.bytes) old' (writes_for pieces) ≡ old' ++ bytes_read pieces)
        → fold (λ (bytes : List ℕ) (w : Pending). overlay bytes w.at w.bytes) old (write_for p l ++ writes_for pieces) ≡ old ++ (p.bytes ++ bytes_read pieces)
    by_bytes [] is more =
        let size : length old + length p.bytes ≡ length old = let none : length p.bytes ≡ 0 = ap length is in omega (arith, none) in
        more old (subst (λ n. AreInTurn n pieces) size turn.1.1) ∙ ap (λ (l : List ℕ). old ++ (l ++ bytes_read pieces)) (sym is)
    by_bytes (b ∷ l) is more =
        let size : length old + length p.bytes ≡ length (old ++ b ∷ l) = ap (λ (k : List ℕ). length old + length k) is ∙ sym (length-append old (b ∷ l)) in
        ap (λ (new : List ℕ). fold (λ (bytes : List ℕ) (w : Pending). overlay bytes w.at w.bytes) new (writes_for pieces)) (ap (λ n. overlay old n (b ∷ l)) turn.0 ∙ at_end old b l)
        ∙ more (old ++ b ∷ l) (subst (λ n. AreInTurn n pieces) size turn.1.1)
        ∙ append_assoc old (b ∷ l) (bytes_read pieces)
        ∙ ap (λ (k : List ℕ). old ++ (k ++ bytes_read pieces)) (sym is)

-- ---- the outcome

-- a target whose call is over, by its notes
data Settled (plan : List Target) (copier : ℕ) (notes : List CopyNote) (from : Target) (t : CopyTarget) : Type 0 where
  IsLeft : (m : Mirror) → t.made ≡ Some m → is_given_up t.stage ≡ false → was_lost from.server notes ≡ false → m.id.server ≡ from.server
      → HoldsSource plan copier notes (record { new = m; old = t.replaced }) → Settled plan copier notes from t
  IsLost : t.made ≡ None → was_lost from.server notes ≡ true → Settled plan copier notes from t

module _ (plan : List Target) (copier : ℕ) (c : CopyState) (notes : List CopyNote) (s : Stands plan copier c notes) where
  target_there : (place : ℕ) (t : CopyTarget) → slice_get c.targets place ≡ Some t → TargetAt plan copier c.at c.piece notes place t
  target_there place t there = subst (λ (k : ℕ). TargetAt plan k c.at c.piece notes place t) s.held.copier_is (s.held.at place t there)

  settled_at : (place : ℕ) (t : CopyTarget) → is_over t.stage ≡ true → (a : TargetAt plan copier c.at c.piece notes place t) → Settled plan copier notes a.from t
  settled_at place t over a = by_standing a.stands
    where
      lost_is : was_lost a.from.server notes ≡ is_given_up t.stage
      lost_is = ap (λ n. was_lost n notes) a.server ∙ sym a.lost

      by_standing : Standing copier c.at c.piece notes t → Settled plan copier notes a.from t
      by_standing (Unmade open' none nothing untouched) = absurd (open_over t.stage open' over)
      by_standing (Writing m open' is made taken) = absurd (open_over t.stage open' over)
      by_standing (Lost lost none) = IsLost none (lost_is ∙ ap is_given_up lost)
      by_standing (Holding m done is made taken) =
          IsLeft m is (ap is_given_up done) (lost_is ∙ ap is_given_up done) (made.server_is ∙ sym a.server)
          (record {
            target = a.from;
            planned = split_at plan place a.from a.planned;
            server = a.server ∙ sym made.server_is;
            replaces = a.replaced;
            made = ap (λ n. was_created m.id n copier notes) a.name ∙ made.created;
            taken = taken;
            shows = ap shown_by taken ∙ shows_from (pieces_read notes) [] (in_turn_of c notes s.turn);
            seen = made.seen;
          })

  -- where all calls are over
  settled : list_all (λ t. is_over t.stage) c.targets ≡ true → Zip (Settled plan copier notes) plan c.targets
  settled all =
      zip_by (Settled plan copier notes) plan c.targets
      (λ place t there.
      let a = target_there place t there in
      (a.from, a.planned, settled_at place t (all_at (λ k. is_over k.stage) c.targets place t all there) a))
      s.held.whole

left_zip : (plan : List Target) (copier : ℕ) (notes : List CopyNote) (ps : List Target) (ts : List CopyTarget) → Zip (Settled plan copier notes) ps ts
    → map (λ (t : SwappedIn). t.new.id.server) (flat_map (λ t. swap_of t t.made) ts) ≡ map (λ (t : Target). t.server) (are_left ps notes)
left_zip plan copier notes [] [] z = refl
left_zip plan copier notes [] (t ∷ ts) z = absurd z
left_zip plan copier notes (p ∷ ps) [] z = absurd z
left_zip plan copier notes (p ∷ ps) (t ∷ ts) z = by_head z.0 (left_zip plan copier notes ps ts z.1)
  where
    by_head : Settled plan copier notes p t → map (λ (k : SwappedIn). k.new.id.server) (flat_map (λ k. swap_of k k.made) ts) ≡ map (λ (k : Target). k.server) (are_left ps notes)
        → map (λ (k : SwappedIn). k.new.id.server) (swap_of t t.made ++ flat_map (λ k. swap_of k k.made) ts) ≡ map (λ (k : Target). k.server) (cond (not (was_lost p.server notes)) (p ∷ are_left ps notes) (are_left ps notes))
    by_head (IsLeft m is left kept server holds) more =
        ap (λ (o : Option Mirror). map (λ (k : SwappedIn). k.new.id.server) (swap_of t o ++ flat_map (λ k. swap_of k k.made) ts)) is
        ∙ ap (λ n. n ∷ map (λ (k : SwappedIn). k.new.id.server) (flat_map (λ k. swap_of k k.made) ts)) server
        ∙ ap (λ l. p.server ∷ l) more
        ∙ ap (λ b. map (λ (k : Target). k.server) (cond (not b) (p ∷ are_left ps notes) (are_left ps notes))) (sym kept)
    by_head (IsLost none lost) more =
        ap (λ (o : Option Mirror). map (λ (k : SwappedIn). k.new.id.server) (swap_of t o ++ flat_map (λ k. swap_of k k.made) ts)) none
        ∙ more
        ∙ ap (λ b. map (λ (k : Target). k.server) (cond (not b) (p ∷ are_left ps notes) (are_left ps notes))) (sym lost)

hold_zip : (plan : List Target) (copier : ℕ) (notes : List CopyNote) (ps : List Target) (ts : List CopyTarget) → Zip (Settled plan copier notes) ps ts
    → AllByRecursion (HoldsSource plan copier notes) (flat_map (λ t. swap_of t t.made) ts)
hold_zip plan copier notes [] [] z = tt
hold_zip plan copier notes [] (t ∷ ts) z = absurd z
hold_zip plan copier notes (p ∷ ps) [] z = absurd z
hold_zip plan copier notes (p ∷ ps) (t ∷ ts) z = by_head z.0 (hold_zip plan copier notes ps ts z.1)
  where
    by_head : Settled plan copier notes p t → AllByRecursion (HoldsSource plan copier notes) (flat_map (λ k. swap_of k k.made) ts)
        → AllByRecursion (HoldsSource plan copier notes) (swap_of t t.made ++ flat_map (λ k. swap_of k k.made) ts)
    by_head (IsLeft m is left kept server holds) more =
        subst (λ (o : Option Mirror). AllByRecursion (HoldsSource plan copier notes) (swap_of t o ++ flat_map (λ k. swap_of k k.made) ts)) (sym is) (holds, more)
    by_head (IsLost none lost) more =
        subst (λ (o : Option Mirror). AllByRecursion (HoldsSource plan copier notes) (swap_of t o ++ flat_map (λ k. swap_of k k.made) ts)) (sym none) more

none_zip : (plan : List Target) (copier : ℕ) (notes : List CopyNote) (ps : List Target) (ts : List CopyTarget) → Zip (Settled plan copier notes) ps ts → list_all (λ t. is_given_up t.stage) ts ≡ true → are_left ps notes ≡ []
none_zip plan copier notes [] [] z all = refl
none_zip plan copier notes [] (t ∷ ts) z all = absurd z
none_zip plan copier notes (p ∷ ps) [] z all = absurd z
none_zip plan copier notes (p ∷ ps) (t ∷ ts) z all =
    let both = and_parts (is_given_up t.stage) (list_all (λ k. is_given_up k.stage) ts) all in
    by_head z.0 both.0 (none_zip plan copier notes ps ts z.1 both.1)
  where
    by_head : Settled plan copier notes p t → is_given_up t.stage ≡ true → are_left ps notes ≡ [] → cond (not (was_lost p.server notes)) (p ∷ are_left ps notes) (are_left ps notes) ≡ []
    by_head (IsLeft m is left kept server holds) gone more = absurd (apart (is_given_up t.stage) gone left)
    by_head (IsLost none lost) gone more = ap (λ b. cond (not b) (p ∷ are_left ps notes) (are_left ps notes)) lost ∙ more

pub given_up_over : (ts : List CopyTarget) → list_all (λ t. is_given_up t.stage) ts ≡ true → list_all (λ t. is_over t.stage) ts ≡ true
given_up_over [] all = refl
given_up_over (t ∷ ts) all =
    let both = and_parts (is_given_up t.stage) (list_all (λ k. is_given_up k.stage) ts) all in
    ap (λ b. b && list_all (λ k. is_over k.stage) ts) (one t.stage both.0) ∙ given_up_over ts both.1
  where
    one : (k : CallStage) → is_given_up k ≡ true → is_over k ≡ true
    one GivenUp is = refl
    one Waits is = absurd cc
    one (Out x n) is = absurd cc
    one (KeptOut x) is = absurd cc
    one KeptBack is = absurd cc
    one Done is = absurd cc

outcome_holds : (plan : List Target) (copier : ℕ) (c : CopyState) (notes : List CopyNote) → Stands plan copier c notes → has_outcome c ≡ true → HasOutcome plan copier notes (swaps_of c)
outcome_holds plan copier c notes s is = by_left (is_none_left c) refl is
  where
    holds : list_all (λ t. is_over t.stage) c.targets ≡ true → ((are_left plan notes ≡ [] → ⊥) → said_end (pieces_read notes) ≡ true) → HasOutcome plan copier notes (swaps_of c)
    holds all ended =
        let z = settled plan copier c notes s all in
        record {
          left = left_zip plan copier notes plan c.targets z;
          ended = ended;
          hold = all_of (HoldsSource plan copier notes) (swaps_of c) (hold_zip plan copier notes plan c.targets z);
        }

    by_left : (b : Bool) → is_none_left c ≡ b → (b || (c.ended && have_answered c)) ≡ true → HasOutcome plan copier notes (swaps_of c)
    by_left true none so =
        let all = given_up_over c.targets none in
        holds all (λ left. absurd (left (none_zip plan copier notes plan c.targets (settled plan copier c notes s all) none)))
    by_left false left so =
        let both = and_parts c.ended (have_answered c) so in
        holds both.1 (λ some. said_so c notes s.turn ∙ both.0)

pub outcomes : (source : MirrorId) (plan : List Target) (copier : ℕ) (moves : List CopyMove) (targets : List SwappedIn) → AreTargetsApart plan
    → outcome (copy_run source plan copier moves).copy ≡ Some targets → HasOutcome plan copier (copy_run source plan copier moves).notes targets
outcomes source plan copier moves targets different is = by_end (has_outcome (copy_run source plan copier moves).copy) refl is
  where
    by_end : (b : Bool) → has_outcome (copy_run source plan copier moves).copy ≡ b → cond {A = Option (List SwappedIn)} b (Some (swaps_of (copy_run source plan copier moves).copy)) None ≡ Some targets
        → HasOutcome plan copier (copy_run source plan copier moves).notes targets
    by_end true ended is =
        subst (λ (l : List SwappedIn). HasOutcome plan copier (copy_run source plan copier moves).notes l) (same_Some _ targets is)
        (outcome_holds plan copier (copy_run source plan copier moves).copy (copy_run source plan copier moves).notes (stands_run source plan copier moves different) ended)
    by_end false going is = absurd (none-some targets is)

-- ---- no outcome

module _ (plan : List Target) (copier : ℕ) (c : CopyState) (notes : List CopyNote) (s : Stands plan copier c notes) where
  -- this target is left, and what it misses
  goes_at : (place : ℕ) (t : CopyTarget) → slice_get c.targets place ≡ Some t → is_given_up t.stage ≡ false
      → (said_end (pieces_read notes) ≡ true → (id : MirrorId) → id.server ≡ t.server → was_created id t.name copier notes ≡ true → writes_taken id notes ≡ writes_for (pieces_read notes) → ⊥)
      → IsUnfinished plan copier notes
  goes_at place t there left misses =
      let a = target_there plan copier c notes s place t there in
      let split = split_at plan place a.from a.planned in
      let kept : not (was_lost a.from.server notes) ≡ true = ap not (ap (λ n. was_lost n notes) a.server ∙ sym a.lost ∙ left) in
      record {
        target = a.from;
        left = (
          filter (λ (k : Target). not (was_lost k.server notes)) split.0,
          filter (λ (k : Target). not (was_lost k.server notes)) split.1,
          ap (λ l. are_left l notes) split.2 ∙ filtered_split (λ (k : Target). not (was_lost k.server notes)) split.0 a.from split.1 kept,
        );
        misses = λ end id on made taken. misses end id (on ∙ a.server) (ap (λ n. was_created id n copier notes) (sym a.name) ∙ made) taken;
      }

  -- one that has not answered has not taken each piece
  misses_one : (place : ℕ) (t : CopyTarget) → slice_get c.targets place ≡ Some t → is_over t.stage ≡ false → (id : MirrorId) → id.server ≡ t.server → was_created id t.name copier notes ≡ true
      → writes_taken id notes ≡ writes_for (pieces_read notes) → ⊥
  misses_one place t there going id on created taken = by_standing (target_there plan copier c notes s place t there).stands
    where
      by_standing : Standing copier c.at c.piece notes t → ⊥
      by_standing (Unmade open' none nothing untouched) = apart (was_created id t.name copier notes) created (untouched id on).1
      by_standing (Writing m open' is made writes) =
          let same : id ≡ m.id = made.only id on created in
          let sizes : length (writes_taken m.id notes ++ record { at = c.at; bytes = c.piece } ∷ []) ≡ length (writes_taken m.id notes) = ap length (writes ∙ sym taken ∙ ap (λ k. writes_taken k notes) same) in
          let more : length (writes_taken m.id notes ++ record { at = c.at; bytes = c.piece } ∷ []) ≡ length (writes_taken m.id notes) + 1 = length-append (writes_taken m.id notes) (record { at = c.at; bytes = c.piece } ∷ []) in
          absurd (omega (arith, sizes, more))
      by_standing (Holding m done is made writes) = apart (is_over t.stage) (ap is_over done) going
      by_standing (Lost lost none) = apart (is_over t.stage) (ap is_over lost) going

  over_if_lost : (k : CallStage) → is_over k ≡ false → is_given_up k ≡ false
  over_if_lost Waits is = refl
  over_if_lost (Out x n) is = refl
  over_if_lost (KeptOut x) is = refl
  over_if_lost KeptBack is = refl
  over_if_lost Done is = refl
  over_if_lost GivenUp is = absurd cc

  going_on : has_outcome c ≡ false → IsUnfinished plan copier notes
  going_on is = by_answered (have_answered c) refl
    where
      none_false : (a b : Bool) → (a || b) ≡ false → (a ≡ false) × (b ≡ false)
      none_false false false is = (refl, refl)
      none_false false true is = absurd cc
      none_false true b is = absurd cc

      parts : (is_none_left c ≡ false) × ((c.ended && have_answered c) ≡ false)
      parts = none_false (is_none_left c) (c.ended && have_answered c) is

      not_ended : (a b : Bool) → (a && b) ≡ false → b ≡ true → a ≡ false
      not_ended false b is so = refl
      not_ended true true is so = absurd cc
      not_ended true false is so = absurd cc

      by_answered : (b : Bool) → have_answered c ≡ b → IsUnfinished plan copier notes
      by_answered true all =
          let left = some_fails (λ (t : CopyTarget). is_given_up t.stage) c.targets parts.0 in
          goes_at left.0 left.1 left.2 left.3
          (λ end. absurd (apart (said_end (pieces_read notes)) end (said_so c notes s.turn ∙ not_ended c.ended (have_answered c) parts.1 all)))
      by_answered false some =
          let going = some_fails (λ (t : CopyTarget). is_over t.stage) c.targets some in
          goes_at going.0 going.1 going.2 (over_if_lost going.1.stage going.3) (λ end. misses_one going.0 going.1 going.2 going.3)

pub goes_on : (source : MirrorId) (plan : List Target) (copier : ℕ) (moves : List CopyMove) → AreTargetsApart plan
    → outcome (copy_run source plan copier moves).copy ≡ None → IsUnfinished plan copier (copy_run source plan copier moves).notes
goes_on source plan copier moves different is =
    going_on plan copier (copy_run source plan copier moves).copy (copy_run source plan copier moves).notes (stands_run source plan copier moves different) (by_end (has_outcome (copy_run source plan copier moves).copy) is)
  where
    by_end : (b : Bool) → cond {A = Option (List SwappedIn)} b (Some (swaps_of (copy_run source plan copier moves).copy)) None ≡ None → b ≡ false
    by_end false is = refl
    by_end true is = absurd cc
