-- Over every list of requests, with all their repeats, each takes effect once.
use Rattle.std.proofs.Common.{◌≡◌, ℕ, ◌+◌, ◌%◌, ◌<◌, Bool, true, false, List, [], ◌∷◌, length, refl, sym, ap, ◌∙◌, arith}
use Rattle.std.specs.Prelude.{◌==◌, ◌&&◌, not, fold, if◌then◌else◌}
use Rattle.std.proofs.lemmas.Bool.{eqb-true}
use Rattle.std.proofs.lemmas.List.{length_push}
use Rattle.std.proofs.lemmas.Option.{same_Some}
use Rattle.std.proofs.Math.Nat.{mod-lt, mod-eq_of_lt, mod-add-mod, div-add-mod}
use Rattle.nfs4_types.specs.declared.status.Stat4.TheVariants.{SeqMisordered}
use Rattle.nfs4_session.specs.Slots.{SlotReply, NoRequest, InProgress, Cached, Uncached, SlotState, SlotAnswer, TakesEffect, Repeats, Refuses, new_slot, slot_answer, answer_again, is_in_progress, sequence_after, slot_finished, kept_as}
use Rattle.nfs4_session.specs.SlotsLaw.{SlotMove, Requests, Finishes, SlotRun, requested, slot_moved, slot_run, AreNumbered, TakeEffectOnce, EachOnce}
use Rattle.nfs4_session.proofs.Numbered.{numbered_push}

-- the number behind the nth, modulo 2^32
sequence_mod : (n : ℕ) → sequence_after (n % 4294967296) ≡ (n + 1) % 4294967296
sequence_mod n = by_case (n % 4294967296 == 4294967295) refl
  where
    below : n % 4294967296 < 4294967296
    below = mod-lt n (omega arith)

    by_case : (b : Bool) → (n % 4294967296 == 4294967295) ≡ b → (if b then 0 else n % 4294967296 + 1) ≡ (n + 1) % 4294967296
    by_case true is =
        let last : n % 4294967296 ≡ 4294967295 = eqb-true (n % 4294967296) 4294967295 is in
        sym (sym (mod-add-mod n 4294967296 1) ∙ ap (λ m. (m + 1) % 4294967296) last)
    by_case false is =
        let other : (n % 4294967296 ≡ 4294967295 → ⊥) = λ last. absurd (cc (ap (λ m. m == 4294967295) last, is)) in
        sym (sym (mod-add-mod n 4294967296 1) ∙ mod-eq_of_lt (below_last (n % 4294967296) below other))
      where
        below_last : (m : ℕ) → m < 4294967296 → (m ≡ 4294967295 → ⊥) → m + 1 < 4294967296
        below_last m below other = omega (arith, below, other)

-- a request that takes effect has the next number
again_never : (reply : SlotReply) → answer_again reply ≡ TakesEffect → ⊥
again_never NoRequest is = absurd (cc (is))
again_never InProgress is = absurd (cc (is))
again_never (Cached reply) is = absurd (cc (is))
again_never Uncached is = absurd (cc (is))

takes_next : (s : SlotState) (number : ℕ) → slot_answer s number ≡ TakesEffect → number ≡ sequence_after s.last
takes_next s number is = by_case (number == s.last) (number == sequence_after s.last) refl (not (is_in_progress s.reply)) is
  where
    by_case : (a b : Bool) → (number == sequence_after s.last) ≡ b → (free : Bool) → (if a then answer_again s.reply else (if b && free then TakesEffect else Refuses SeqMisordered)) ≡ TakesEffect → number ≡ sequence_after s.last
    by_case true b next free is = absurd (again_never s.reply is)
    by_case false true next free is = eqb-true number (sequence_after s.last) next
    by_case false false next true is = absurd (cc (is))
    by_case false false next false is = absurd (cc (is))

finished_last : (number : ℕ) (reply : List ℕ) (s : SlotState) → (slot_finished number reply s).last ≡ s.last
finished_last number reply s = by_case (s.last == number) refl (is_in_progress s.reply)
  where
    by_case : (a : Bool) → (s.last == number) ≡ a → (b : Bool) → (if a && b then record { last = number; reply = kept_as reply } else s).last ≡ s.last
    by_case true is true = sym (eqb-true s.last number is)
    by_case true is false = refl
    by_case false is true = refl
    by_case false is false = refl

pub record IsRun (run : SlotRun) : Type 0 where
  pub numbered : AreNumbered run.effects
  pub last : run.slot.last ≡ length run.effects % 4294967296

run_requested : (run : SlotRun) (number : ℕ) → IsRun run → (a : SlotAnswer) → slot_answer run.slot number ≡ a → IsRun (requested run number a)
run_requested run number good TakesEffect is =
    let next : number ≡ (length run.effects + 1) % 4294967296 = takes_next run.slot number is ∙ ap sequence_after good.last ∙ sequence_mod (length run.effects) in record {
      numbered = numbered_push (λ k. (k + 1) % 4294967296) run.effects number good.numbered next;
      last = next ∙ ap (λ n. n % 4294967296) (sym (length_push run.effects number));
    }
run_requested run number good (Repeats reply) is = good
run_requested run number good (Refuses status) is = good

run_moved : (run : SlotRun) (move : SlotMove) → IsRun run → IsRun (slot_moved run move)
run_moved run (Requests number) good = run_requested run number good (slot_answer run.slot number) refl
run_moved run (Finishes number reply) good = record { numbered = good.numbered; last = finished_last number reply run.slot ∙ good.last }

run_all : (moves : List SlotMove) (run : SlotRun) → IsRun run → IsRun (fold slot_moved run moves)
run_all [] run good = good
run_all (move ∷ moves) run good = run_all moves (slot_moved run move) (run_moved run move good)

-- two numbers that are less than 2^32 apart differ modulo 2^32
apart : (i j : ℕ) → i < j → j < i + 4294967296 → (i + 1) % 4294967296 ≡ (j + 1) % 4294967296 → ⊥
apart i j less near same =
    let first = div-add-mod (i + 1) 4294967296 in
    let second = div-add-mod (j + 1) 4294967296 in
    absurd (omega (arith, less, near, same, first, second))

once : (effects : List ℕ) → AreNumbered effects → TakeEffectOnce effects
once effects numbered i j less near within same =
    apart i j less near (same_Some _ _ (sym (numbered i (omega (arith, less, within))) ∙ same ∙ numbered j within))

pub each_once : EachOnce
each_once moves =
    let good : IsRun (slot_run moves) = run_all moves (record { slot = new_slot; effects = [] }) (record { numbered = λ k within. absurd (omega (arith, within)); last = refl }) in
    (good.numbered, once (slot_run moves).effects good.numbered)
