-- Going over a list of mirrors from its first to its last, and making another list of it.
use Rattle.std.proofs.Common.{◌≡◌, ℕ, ◌+◌, ◌<◌, ◌≤◌, Bool, true, false, List, [], ◌∷◌, ◌++◌, length, map, drop, cond, Some, refl, sym, ap, ◌∙◌, arith, append_assoc, length-append, get_or, drop-cons, add-one}
use Rattle.std.specs.Prelude.{◌==◌, ◌&&◌, ◌||◌, not, slice_get}
use Rattle.std.specs.List.{list_any}
use Rattle.std.proofs.lemmas.Bool.{and_parts, eqb-true}
use Rattle.std.proofs.lemmas.List.Folds.{list_any-append}
use Rattle.std.proofs.lemmas.Option.{slice_get_within, get_or_from_slice_get}
use Rattle.cluster_model.specs.declared.ids.Mirror.{Mirror}
use Rattle.cluster_model.specs.declared.ids.MirrorId.{MirrorId}
use Rattle.cluster_model.specs.declared.tick.Tick.{Tick}
use Rattle.cluster_model.specs.Journal.{is_mirror}
use Rattle.cluster_model.specs.Phases.{but_for, seen_if, seen_at, unreported, put_if}
use Rattle.cluster_model.specs.Mirrors.{has_server, are_on_different_servers, are_mirrors, can_add}
use Rattle.cluster_model.proofs.MirrorLists.{both, no_more, mirrors_push, mirrors_first}

-- ---- one of them left out, or with another ctime

one_out : (a b c : Bool) → (a || (b || c)) ≡ false → (a || c) ≡ false
one_out true b c h = h
one_out false true c h = absurd (cc)
one_out false false c h = h

not_false : (a : Bool) → not a ≡ true → a ≡ false
not_false true h = absurd cc
not_false false h = refl

different_without : (xs ys : List Mirror) (m : Mirror) → are_on_different_servers (xs ++ m ∷ ys) ≡ true → are_on_different_servers (xs ++ ys) ≡ true
different_without [] ys m h = (and_parts _ _ h).1
different_without (x ∷ xs) ys m h =
    let parts = and_parts _ _ h in
    let test : Mirror → Bool = λ y. y.id.server == x.id.server in
    let none : (list_any test xs || (test m || list_any test ys)) ≡ false = sym (list_any-append test xs (m ∷ ys)) ∙ not_false _ parts.0 in
    let less : list_any test (xs ++ ys) ≡ false = list_any-append test xs ys ∙ one_out (list_any test xs) (test m) (list_any test ys) none in
    both _ _ (ap not less) (different_without xs ys m parts.1)

different_like : (xs ys : List Mirror) (m n : Mirror) → m.id.server ≡ n.id.server → are_on_different_servers (xs ++ m ∷ ys) ≡ are_on_different_servers (xs ++ n ∷ ys)
different_like [] ys m n same = ap (λ s. not (has_server ys s) && are_on_different_servers ys) same
different_like (x ∷ xs) ys m n same =
    let test : Mirror → Bool = λ y. y.id.server == x.id.server in
    let any : list_any test (xs ++ m ∷ ys) ≡ list_any test (xs ++ n ∷ ys) =
    list_any-append test xs (m ∷ ys) ∙ ap (λ s. list_any test xs || ((s == x.id.server) || list_any test ys)) same ∙ sym (list_any-append test xs (n ∷ ys)) in
    ap (λ (b : Bool). not b && are_on_different_servers (xs ++ m ∷ ys)) any
    ∙ ap (λ (b : Bool). not (list_any test (xs ++ n ∷ ys)) && b) (different_like xs ys m n same)

longer : (xs ys : List Mirror) (m : Mirror) → length (xs ++ ys) ≤ length (xs ++ m ∷ ys)
longer xs ys m = omega (arith, length-append xs ys, length-append xs (m ∷ ys))

as_long : (xs ys : List Mirror) (m n : Mirror) → length (xs ++ m ∷ ys) ≡ length (xs ++ n ∷ ys)
as_long xs ys m n = length-append xs (m ∷ ys) ∙ sym (length-append xs (n ∷ ys))

mirrors_without : (xs ys : List Mirror) (m : Mirror) → are_mirrors (xs ++ m ∷ ys) ≡ true → are_mirrors (xs ++ ys) ≡ true
mirrors_without xs ys m h =
    let parts = and_parts _ _ h in
    both _ _ (no_more _ _ (longer xs ys m) parts.0) (different_without xs ys m parts.1)

mirrors_like : (xs ys : List Mirror) (m n : Mirror) → m.id.server ≡ n.id.server → are_mirrors (xs ++ m ∷ ys) ≡ true → are_mirrors (xs ++ n ∷ ys) ≡ true
mirrors_like xs ys m n same h =
    let parts = and_parts _ _ h in
    both _ _ (no_more (length (xs ++ n ∷ ys)) (length (xs ++ m ∷ ys)) (omega (arith, as_long xs ys m n)) parts.0) (sym (different_like xs ys m n same) ∙ parts.1)

-- ---- up to a place

-- What was made so far, and what is still to come of the rest, are the whole; and there is room for the rest.
pub record GoesOver (ms : List Mirror) (i : ℕ) (all rest whole : List Mirror) : Type 0 where
  pub list : all ++ rest ≡ whole
  pub room : are_mirrors (all ++ drop i ms) ≡ true

pub drop_here : (ms : List Mirror) (i : ℕ) (m : Mirror) → slice_get ms i ≡ Some m → drop i ms ≡ m ∷ drop (i + 1) ms
drop_here ms i m is =
    let within = slice_get_within ms i m is in
    drop-cons ms i m within ∙ ap (λ k. get_or ms i m ∷ drop k ms) (sym (add-one i)) ∙ ap (λ x. x ∷ drop (i + 1) ms) (get_or_from_slice_get ms i m m is)

pub skips : (ms all rest rest' whole : List Mirror) (i : ℕ) (m : Mirror) → slice_get ms i ≡ Some m → rest ≡ rest' → GoesOver ms i all rest whole → GoesOver ms (i + 1) all rest' whole
skips ms all rest rest' whole i m is same h = record {
  list = ap (λ xs. all ++ xs) (sym same) ∙ h.list;
  room = mirrors_without all (drop (i + 1) ms) m (sym (ap (λ xs. are_mirrors (all ++ xs)) (drop_here ms i m is)) ∙ h.room);
}

pub adds : (ms all new rest rest' whole : List Mirror) (i : ℕ) (m n : Mirror) (added : Bool) → slice_get ms i ≡ Some m → m.id.server ≡ n.id.server → rest ≡ n ∷ rest'
    → added ≡ can_add all n → new ≡ cond added (all ++ n ∷ []) all → GoesOver ms i all rest whole → GoesOver ms (i + 1) new rest' whole
adds ms all new rest rest' whole i m n added is same next can longer_by h =
    let room : are_mirrors (all ++ n ∷ drop (i + 1) ms) ≡ true =
    mirrors_like all (drop (i + 1) ms) m n same (sym (ap (λ xs. are_mirrors (all ++ xs)) (drop_here ms i m is)) ∙ h.room) in
    let grouped : are_mirrors ((all ++ n ∷ []) ++ drop (i + 1) ms) ≡ true = ap are_mirrors (append_assoc all (n ∷ []) (drop (i + 1) ms)) ∙ room in
    let joined : are_mirrors (all ++ n ∷ []) ≡ true = mirrors_first (all ++ n ∷ []) (drop (i + 1) ms) grouped in
    let fits : can_add all n ≡ true = sym (mirrors_push all n (mirrors_first all (n ∷ drop (i + 1) ms) room)) ∙ joined in
    let is_new : new ≡ all ++ n ∷ [] = longer_by ∙ ap (λ (b : Bool). cond b (all ++ n ∷ []) all) (can ∙ fits) in
    record {
      list = ap (λ xs. xs ++ rest') is_new ∙ append_assoc all (n ∷ []) rest' ∙ ap (λ xs. all ++ xs) (sym next) ∙ h.list;
      room = ap (λ xs. are_mirrors (xs ++ drop (i + 1) ms)) is_new ∙ grouped;
    }

-- ---- what each list makes of the mirror at a place

pub but_for_this : (ms : List Mirror) (i : ℕ) (m : Mirror) (id : MirrorId) → slice_get ms i ≡ Some m → is_mirror m.id id ≡ true → but_for id (drop i ms) ≡ but_for id (drop (i + 1) ms)
but_for_this ms i m id is this = ap (but_for id) (drop_here ms i m is) ∙ ap (λ (b : Bool). cond (not b) (m ∷ but_for id (drop (i + 1) ms)) (but_for id (drop (i + 1) ms))) this

pub but_for_other : (ms : List Mirror) (i : ℕ) (m : Mirror) (id : MirrorId) → slice_get ms i ≡ Some m → is_mirror m.id id ≡ false → but_for id (drop i ms) ≡ m ∷ but_for id (drop (i + 1) ms)
but_for_other ms i m id is other = ap (but_for id) (drop_here ms i m is) ∙ ap (λ (b : Bool). cond (not b) (m ∷ but_for id (drop (i + 1) ms)) (but_for id (drop (i + 1) ms))) other

pub seen_here : (ms : List Mirror) (i : ℕ) (m : Mirror) (id : MirrorId) (tick : Tick) → slice_get ms i ≡ Some m → seen_at id tick (drop i ms) ≡ seen_if id tick m ∷ seen_at id tick (drop (i + 1) ms)
seen_here ms i m id tick is = ap (seen_at id tick) (drop_here ms i m is)

on_its_server : (m : Mirror) (id : MirrorId) (tick : Tick) (b : Bool) → m.id.server ≡ (cond b (record { id = m.id; seen = tick }) m).id.server
on_its_server m id tick true = refl
on_its_server m id tick false = refl

pub same_server : (m : Mirror) (id : MirrorId) (tick : Tick) → m.id.server ≡ (seen_if id tick m).id.server
same_server m id tick = on_its_server m id tick (is_mirror m.id id)

-- one in another's place, on its server
pub put_here : (ms : List Mirror) (i : ℕ) (m : Mirror) (old : MirrorId) (new : Mirror) → slice_get ms i ≡ Some m → map (put_if old new) (drop i ms) ≡ put_if old new m ∷ map (put_if old new) (drop (i + 1) ms)
put_here ms i m old new is = ap (map (put_if old new)) (drop_here ms i m is)

server_of_put : (m new : Mirror) (old : MirrorId) → new.id.server ≡ old.server → (b : Bool) → is_mirror m.id old ≡ b → m.id.server ≡ (cond b new m).id.server
server_of_put m new old same true h = eqb-true _ _ (and_parts _ _ h).0 ∙ sym same
server_of_put m new old same false h = refl

pub put_server : (old : MirrorId) (new m : Mirror) → new.id.server ≡ old.server → m.id.server ≡ (put_if old new m).id.server
put_server old new m same = server_of_put m new old same (is_mirror m.id old) refl

-- a place among four flags
pub flag_here : (places : List Bool) (i : ℕ) (d : Bool) → i < length places → drop i places ≡ get_or places i d ∷ drop (i + 1) places
flag_here places i d within = drop-cons places i d within ∙ ap (λ k. get_or places i d ∷ drop k places) (sym (add-one i))

pub unreported_here : (ms : List Mirror) (places : List Bool) (i : ℕ) (m : Mirror) (gone : Bool) → slice_get ms i ≡ Some m → i < length places → get_or places i false ≡ gone
    → unreported (drop i places) (drop i ms) ≡ cond gone (unreported (drop (i + 1) places) (drop (i + 1) ms)) (m ∷ unreported (drop (i + 1) places) (drop (i + 1) ms))
unreported_here ms places i m gone is within flag =
    ap (λ xs. unreported (drop i places) xs) (drop_here ms i m is)
    ∙ ap (λ fs. unreported fs (m ∷ drop (i + 1) ms)) (flag_here places i false within ∙ ap (λ f. f ∷ drop (i + 1) places) flag)
