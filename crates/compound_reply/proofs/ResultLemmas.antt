-- Results are read in their bytes.
use Rattle.std.proofs.Common.{◌≡◌, ℕ, ◌+◌, List, [], ◌∷◌, ◌++◌, length, Ok, refl, sym, ap, subst, ◌∙◌, arith, append_assoc, append-nil, length-append}
use Rattle.std.specs.Prelude.{IsTrue}
use Rattle.std.specs.List.{AllByRecursion, flat_map}
use Rattle.std.proofs.Math.Seq.{take-length}
use Rattle.ff_xdr.specs.Form.{Form, Value, Fits, is_sound, spelling}
use Rattle.ff_xdr.specs.Items.{values_of}
use Rattle.ff_xdr.specs.Laws.{Stands}
use Rattle.ff_xdr.specs.Reading.{many_at, reading}
use Rattle.ff_xdr.proofs.Again.{again_where}
use Rattle.ff_xdr.proofs.Places.{stands_first, stands_second}
use Rattle.nfs4_compound.specs.Results.{resop4}
use Rattle.compound_reply.specs.Replied.{AreResults, results_in}

all_stand : (bytes : List ℕ) → Stands bytes 0 bytes (length bytes)
all_stand bytes = record { stands = take-length bytes; ends = omega arith; within = omega arith }

module _ (form : Form) (sound : IsTrue (is_sound form)) where
  abbrev texts : List (Value form) → List ℕ
  texts vs = flat_map (λ v. spelling form v) vs

  abbrev read_in : List ℕ → ℕ → List (Value form)
  read_in bytes count = values_of (many_at (λ place. reading form bytes place) count 0)

  many_again : (bytes : List ℕ) (vs : List (Value form)) (at to : ℕ) → AllByRecursion (Fits form) vs → Stands bytes at (texts vs) to
      → many_at (λ place. reading form bytes place) (length vs) at ≡ Ok (vs, to)
  many_again bytes [] at to fit s =
      let same : at ≡ to = omega (arith, s.ends) in
      ap (λ (k : ℕ). Ok ([], k)) same
  many_again bytes (v ∷ vs) at to fit s =
      let first = stands_first bytes at (spelling form v) (texts vs) to s in
      let second = stands_second bytes at (spelling form v) (texts vs) to s in
      let read = again_where form sound v bytes at _ fit.0 first in
      let others = many_again bytes vs (at + length (spelling form v)) to fit.1 second in
      rw (read, others) refl

  read_again : (vs : List (Value form)) → AllByRecursion (Fits form) vs → read_in (texts vs) (length vs) ≡ vs
  read_again vs fit = ap values_of (many_again (texts vs) vs 0 (length (texts vs)) fit (all_stand (texts vs)))

  -- one value more

  text_more : (vs : List (Value form)) (v : Value form) → texts (vs ++ v ∷ []) ≡ texts vs ++ spelling form v
  text_more [] v = append-nil (spelling form v)
  text_more (w ∷ vs) v = ap (λ (xs : List ℕ). spelling form w ++ xs) (text_more vs v) ∙ sym (append_assoc (spelling form w) (texts vs) (spelling form v))

  fits_more : (vs : List (Value form)) (v : Value form) → AllByRecursion (Fits form) vs → Fits form v → AllByRecursion (Fits form) (vs ++ v ∷ [])
  fits_more [] v fit last = (last, tt)
  fits_more (w ∷ vs) v fit last = (fit.0, fits_more vs v fit.1 last)

  count_more : (vs : List (Value form)) (v : Value form) (count : ℕ) → length vs ≡ count → count + 1 ≡ length (vs ++ v ∷ [])
  count_more vs v count many = omega (arith, length-append vs (v ∷ []), many)

  text_is : (bytes new : List ℕ) (vs : List (Value form)) (v : Value form) → bytes ≡ texts vs → new ≡ bytes ++ spelling form v → new ≡ texts (vs ++ v ∷ [])
  text_is bytes new vs v old put = put ∙ ap (λ (xs : List ℕ). xs ++ spelling form v) old ∙ sym (text_more vs v)

  pub values_more : (bytes new : List ℕ) (count : ℕ) (vs : List (Value form)) (v : Value form) → bytes ≡ texts vs → length vs ≡ count → AllByRecursion (Fits form) vs → Fits form v
      → new ≡ bytes ++ spelling form v → read_in new (count + 1) ≡ vs ++ v ∷ []
  values_more bytes new count vs v old many fit last put =
      let text = text_is bytes new vs v old put in
      let number = count_more vs v count many in
      (λ i. read_in (text i) (number i)) ∙ read_again (vs ++ v ∷ []) (fits_more vs v fit last)

pub view_more : (bytes new : List ℕ) (count : ℕ) (v : Value resop4) → AreResults bytes count → Fits resop4 v → new ≡ bytes ++ spelling resop4 v
    → results_in new (count + 1) ≡ results_in bytes count ++ v ∷ []
view_more bytes new count v are last put = values_more resop4 refl bytes new count (results_in bytes count) v are.text are.many are.fit last put

pub results_more : (bytes new : List ℕ) (count : ℕ) (v : Value resop4) → AreResults bytes count → Fits resop4 v → new ≡ bytes ++ spelling resop4 v → AreResults new (count + 1)
results_more bytes new count v are last put =
    let vs = results_in bytes count in
    let more = view_more bytes new count v are last put in
    record {
      many = ap length more ∙ sym (count_more resop4 refl vs v count are.many);
      fit = subst (AllByRecursion (Fits resop4)) (sym more) (fits_more resop4 refl vs v are.fit last);
      text = text_is resop4 refl bytes new vs v are.text put ∙ ap (texts resop4 refl) (sym more);
    }
