-- Numbers that rise, and are given.
use Rattle.std.proofs.Common.{◌≡◌, ◌<◌, ◌≤◌, ℕ, zero, suc, ◌+◌, Bool, true, false, cond, List, [], ◌∷◌, ◌++◌, map, take, drop, set, sym, ap, subst, ◌∙◌, arith, Some}
use Rattle.std.specs.Prelude.{slice_get}
use Rattle.std.specs.List.{filter}
use Rattle.std.proofs.lemmas.List.{length-append, length-map, length-set}
use Rattle.std.proofs.lemmas.Option.{same_Some, slice_get_within}
use Rattle.record_link.specs.Peers.{PeerState}
use Rattle.record_server.specs.Server.{AreRising, AreGiven, IsOrderly}

pub rising_lower : (low low' : ℕ) (es : List PeerState) → low ≤ low' → AreRising low' es → AreRising low es
rising_lower low low' [] less rising = rising
rising_lower low low' (e ∷ es) less rising = (omega (arith, less, rising.0), rising.1)

-- one became another of its number
pub rising_set : (low : ℕ) (es : List PeerState) (i : ℕ) (e after : PeerState) → slice_get es i ≡ Some e → after.number ≡ e.number → AreRising low es → AreRising low (set es i after)
rising_set low [] i e after there same rising = rising
rising_set low (x ∷ es) zero e after there same rising =
    let number : after.number ≡ x.number = same ∙ sym (ap (λ (y : PeerState). y.number) (same_Some x e there)) in
    (omega (arith, rising.0, number), subst (λ (n : ℕ). AreRising n es) (sym number) rising.1)
rising_set low (x ∷ es) (suc i) e after there same rising = (rising.0, rising_set x.number es i e after there same rising.1)

pub given_set : (given : ℕ) (es : List PeerState) (i : ℕ) (e after : PeerState) → slice_get es i ≡ Some e → after.number ≡ e.number → AreGiven given es → AreGiven given (set es i after)
given_set given [] i e after there same are = are
given_set given (x ∷ es) zero e after there same are =
    let number : after.number ≡ x.number = same ∙ sym (ap (λ (y : PeerState). y.number) (same_Some x e there)) in
    (omega (arith, are.0, number), are.1)
given_set given (x ∷ es) (suc i) e after there same are = (are.0, given_set given es i e after there same are.1)

-- one came behind the others
pub rising_push : (low given : ℕ) (es : List PeerState) (e : PeerState) → low ≤ given → given < e.number → AreRising low es → AreGiven given es → AreRising low (es ++ e ∷ [])
rising_push low given [] e most more rising are = (omega (arith, most, more), tt)
rising_push low given (x ∷ es) e most more rising are = (rising.0, rising_push x.number given es e are.0 more rising.1 are.1)

pub given_push : (given more : ℕ) (es : List PeerState) (e : PeerState) → given ≤ more → e.number ≤ more → AreGiven given es → AreGiven more (es ++ e ∷ [])
given_push given more [] e most within are = (within, tt)
given_push given more (x ∷ es) e most within are = (omega (arith, are.0, most), given_push given more es e most within are.1)

-- one was taken out
pub rising_removed : (low : ℕ) (es : List PeerState) (i : ℕ) → AreRising low es → AreRising low (take i es ++ drop (i + 1) es)
rising_removed low [] zero rising = rising
rising_removed low [] (suc i) rising =
    let next : suc i + 1 ≡ suc (i + 1) = omega arith in
    subst (λ (n : ℕ). AreRising low (take {A = PeerState} (suc i) [] ++ drop {A = PeerState} n [])) (sym next) rising
rising_removed low (x ∷ es) zero rising = let less = rising.0 in rising_lower low x.number es (omega (arith, less)) rising.1
rising_removed low (x ∷ es) (suc i) rising =
    let next : suc i + 1 ≡ suc (i + 1) = omega arith in
    subst (λ (n : ℕ). AreRising low (x ∷ (take i es ++ drop n (x ∷ es)))) (sym next) (rising.0, rising_removed x.number es i rising.1)

pub given_removed : (given : ℕ) (es : List PeerState) (i : ℕ) → AreGiven given es → AreGiven given (take i es ++ drop (i + 1) es)
given_removed given [] zero are = are
given_removed given [] (suc i) are =
    let next : suc i + 1 ≡ suc (i + 1) = omega arith in
    subst (λ (n : ℕ). AreGiven given (take {A = PeerState} (suc i) [] ++ drop {A = PeerState} n [])) (sym next) are
given_removed given (x ∷ es) zero are = are.1
given_removed given (x ∷ es) (suc i) are =
    let next : suc i + 1 ≡ suc (i + 1) = omega arith in
    subst (λ (n : ℕ). AreGiven given (x ∷ (take i es ++ drop n (x ∷ es)))) (sym next) (are.0, given_removed given es i are.1)

-- some were taken out
rising_if : (kept : Bool) (low : ℕ) (e : PeerState) (es : List PeerState) → low < e.number → AreRising e.number es → AreRising low (cond kept (e ∷ es) es)
rising_if true low e es less rising = (less, rising)
rising_if false low e es less rising = rising_lower low e.number es (omega (arith, less)) rising

pub rising_filter : (test : PeerState → Bool) (low : ℕ) (es : List PeerState) → AreRising low es → AreRising low (filter test es)
rising_filter test low [] rising = rising
rising_filter test low (e ∷ es) rising = rising_if (test e) low e (filter test es) rising.0 (rising_filter test e.number es rising.1)

given_if : (kept : Bool) (given : ℕ) (e : PeerState) (es : List PeerState) → e.number ≤ given → AreGiven given es → AreGiven given (cond kept (e ∷ es) es)
given_if true given e es most are = (most, are)
given_if false given e es most are = are

pub given_filter : (test : PeerState → Bool) (given : ℕ) (es : List PeerState) → AreGiven given es → AreGiven given (filter test es)
given_filter test given [] are = are
given_filter test given (e ∷ es) are = given_if (test e) given e (filter test es) are.0 (given_filter test given es are.1)

-- each became another of its number
pub rising_map : (f : PeerState → PeerState) → ((e : PeerState) → (f e).number ≡ e.number) → (low : ℕ) (es : List PeerState) → AreRising low es → AreRising low (map f es)
rising_map f same low [] rising = rising
rising_map f same low (e ∷ es) rising = (
  omega (arith, rising.0, same e),
  subst (λ (n : ℕ). AreRising n (map f es)) (sym (same e)) (rising_map f same e.number es rising.1),
)

pub given_map : (f : PeerState → PeerState) → ((e : PeerState) → (f e).number ≡ e.number) → (given : ℕ) (es : List PeerState) → AreGiven given es → AreGiven given (map f es)
given_map f same given [] are = are
given_map f same given (e ∷ es) are = (omega (arith, are.0, same e), given_map f same given es are.1)

-- ---- a server's connections

pub orderly_set : (es : List PeerState) (given place i : ℕ) (e after : PeerState) → slice_get es i ≡ Some e → after.number ≡ e.number → IsOrderly es given place → IsOrderly (set es i after) given place
orderly_set es given place i e after there same orderly = record {
  rising = rising_set 0 es i e after there same orderly.rising;
  numbered = given_set given es i e after there same orderly.numbered;
  within = omega (arith, orderly.within, length-set es i after);
}

-- the next of a round was visited
pub orderly_visit : (es : List PeerState) (given place : ℕ) (e after : PeerState) → slice_get es place ≡ Some e → after.number ≡ e.number → IsOrderly es given place → IsOrderly (set es place after) given (place + 1)
orderly_visit es given place e after there same orderly = record {
  rising = rising_set 0 es place e after there same orderly.rising;
  numbered = given_set given es place e after there same orderly.numbered;
  within = omega (arith, slice_get_within es place e there, length-set es place after);
}

pub orderly_filter : (test : PeerState → Bool) (es : List PeerState) (given place : ℕ) → IsOrderly es given place → IsOrderly (filter test es) given 0
orderly_filter test es given place orderly = record {
  rising = rising_filter test 0 es orderly.rising;
  numbered = given_filter test given es orderly.numbered;
  within = omega arith;
}

pub orderly_map : (f : PeerState → PeerState) → ((e : PeerState) → (f e).number ≡ e.number) → (es : List PeerState) (given place : ℕ) → IsOrderly es given place → IsOrderly (map f es) given place
orderly_map f same es given place orderly = record {
  rising = rising_map f same 0 es orderly.rising;
  numbered = given_map f same given es orderly.numbered;
  within = omega (arith, orderly.within, length-map es f);
}

pub orderly_push : (es : List PeerState) (given place : ℕ) (e : PeerState) → e.number ≡ given + 1 → IsOrderly es given place → IsOrderly (es ++ e ∷ []) e.number place
orderly_push es given place e next orderly = record {
  rising = rising_push 0 given es e (omega arith) (omega (arith, next)) orderly.rising orderly.numbered;
  numbered = given_push given e.number es e (omega (arith, next)) (omega arith) orderly.numbered;
  within = omega (arith, orderly.within, length-append es (e ∷ []));
}

pub orderly_removed : (es : List PeerState) (given i : ℕ) → IsOrderly es given 0 → IsOrderly (take i es ++ drop (i + 1) es) given 0
orderly_removed es given i orderly = record {
  rising = rising_removed 0 es i orderly.rising;
  numbered = given_removed given es i orderly.numbered;
  within = omega arith;
}
