-- What the bodies of a file say, and what two files say together.
use Rattle.std.proofs.Common.{◌≡◌, ℕ, ◌+◌, ◌<◌, Bool, true, false, eqb, cond, List, [], ◌∷◌, ◌++◌, length, Ok, ltb, ◌^◌, append-nil, Some, refl, ap, subst, ◌∙◌, arith, inl, inr}
use Rattle.std.proofs.lemmas.Option.{same_Some}
use Rattle.std.proofs.lemmas.Bool.{cond_both, cases_Bool, le-ltb}
use Rattle.std.proofs.lemmas.List.{length-append}
use Rattle.ff_xdr.specs.Form.{word, long}
use Rattle.ff_xdr.proofs.Fields.{length-word}
use Rattle.ff_xdr.specs.Reading.{Read, reading, whole}
use Rattle.ff_xdr.proofs.Again.{again}
use Rattle.ff_xdr.proofs.CutShort.{length-long}
use Rattle.gate_log.specs.Logs.{Log, log_size}
use Rattle.gate_log.specs.Appends.{whole_log}
use Rattle.twin_log.specs.Twins.{first_generation, generation_body, generation_form, generation_read, generation_value, generation_by, generation_in}
use Rattle.twin_log.specs.KeptLogs.{SaysLog}

-- a whole log that has a record
pub whole_is : (log : Log) → log.is_whole ≡ true → log ≡ whole_log log.bodies
whole_is log is = ap (λ (whole : Bool). let l : Log = record { bodies = log.bodies; is_whole = whole } in l) is

pub generation_some : (bodies : List (List ℕ)) (whole : Bool) (g : ℕ) → generation_by bodies whole ≡ Some g → whole ≡ true → (generation_by bodies true ≡ Some g) × (first_generation bodies ≡ g)
generation_some [] true g is w = absurd (cc (is))
generation_some [] false g is w = absurd (cc (w))
generation_some (body ∷ bodies) whole g is w = (is, same_Some (generation_in body) g is)

-- more bodies behind them say the same, and are more of it
pub says_more : (all : List (List ℕ)) (generation start : ℕ) (bodies more : List (List ℕ)) → SaysLog all generation start bodies → SaysLog (all ++ more) generation start (bodies ++ more)
says_more [] generation start bodies more says = absurd (cc (says.generation_is))
says_more (body ∷ all) generation start bodies more says = record {
  generation_is = says.generation_is;
  start_is = says.start_is;
  bodies_are = front (generation_in body) ∙ ap (λ (xs : List (List ℕ)). xs ++ more) says.bodies_are;
}
  where
    front : (g : ℕ) → cond (eqb g 0) (body ∷ (all ++ more)) (all ++ more) ≡ cond (eqb g 0) (body ∷ all) all ++ more
    front g = cond_both (eqb g 0) (body ∷ all) all (λ (xs : List (List ℕ)). cond (eqb g 0) (body ∷ (all ++ more)) (all ++ more) ≡ xs ++ more) (λ is. rw is refl) (λ is. rw is refl)

-- the place behind what was read
pub places_add : (all : List (List ℕ)) (generation start : ℕ) (bodies : List (List ℕ)) → SaysLog all generation start bodies → log_size all ≡ start + log_size bodies
places_add [] generation start bodies says = absurd (cc (says.generation_is))
places_add (body ∷ all) generation start bodies says =
    rw (← says.start_is, ← says.bodies_are) (sides (generation_in body))
  where
    sides : (g : ℕ) → 5 + length body + log_size all ≡ cond (eqb g 0) 0 (5 + length body) + log_size (cond (eqb g 0) (body ∷ all) all)
    sides g = elim (cases_Bool (eqb g 0)) [ inl is ↦ rw is (omega arith) | inr is ↦ rw is refl ]

pub length_generation : (g : ℕ) → length (generation_body g) ≡ 12
length_generation g = omega (arith, length-append (word 5) (long g), length-word 5, length-long g)

whole_all : {M : Type 0} (bytes : List ℕ) (x : M × ℕ) (r : Read M) → r ≡ Ok x → x.1 ≡ length bytes → whole bytes r ≡ Ok x.0
whole_all bytes x r is end =
    let left : ltb x.1 (length bytes) ≡ false = le-ltb _ _ (omega (arith, end)) in
    rw is (rw left refl)

-- a generation is read from its body
pub generation_again : (g : ℕ) → g < 2 ^ 64 → generation_in (generation_body g) ≡ g
generation_again g fits =
    let text = generation_body g in
    let size : 0 + length text ≡ length text = omega arith in
    let read : reading generation_form text 0 ≡ Ok (generation_value g, 0 + length text) = subst (λ (t : List ℕ). reading generation_form t 0 ≡ Ok (generation_value g, 0 + length text)) (append-nil text) (again generation_form refl (generation_value g) [] [] fits) in
    ap generation_read (whole_all text (generation_value g, 0 + length text) (reading generation_form text 0) read size)
