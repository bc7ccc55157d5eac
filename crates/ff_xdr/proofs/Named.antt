-- What stands at a refused place, by the name of the refusal, of every form.
use Rattle.std.proofs.Common.{◌≡◌, ℕ, ◌-◌, ◌≤◌, List, length, take, Err, refl, ap, subst, ◌∙◌, arith, inl, inr}
use Rattle.std.specs.Prelude.{IsTrue}
use Rattle.std.proofs.lemmas.List.{take_at}
use Rattle.ff_xdr.specs.declared.error.XdrError.{XdrError}
use Rattle.ff_xdr.specs.declared.error.XdrWhy.TheVariants.{Short}
use Rattle.ff_xdr.specs.Form.{Form, Fits, spelling, is_sound}
use Rattle.ff_xdr.specs.Laws.{IsBytes, Stands, is_filled}
use Rattle.ff_xdr.specs.Reading.{reading}
use Rattle.ff_xdr.specs.Faults.{Item, IsItemAt, IsWrong, HasFaultOf, EndsInOneOf, IsNamedRight, EndsInValue}
use Rattle.ff_xdr.proofs.Stopped.{Stopped}
use Rattle.ff_xdr.proofs.StoppedForms.{stopped_in}

module _ {V : Type 0} (spell : V → List ℕ) (P : V → Type 0) (items : V → ℕ → Item → Type 0) (bytes : List ℕ) (at : ℕ) (e : XdrError) (s : Stopped spell P items bytes at e) where
  -- what stands is the beginning of the value's spelling
  part_is : take (s.to - at) (spell s.value) ≡ s.part
  part_is = ap (λ (t : List ℕ). take (s.to - at) t) s.spelt ∙ take_at s.part s.rest (s.to - at) (omega (arith, s.there.ends))

  begins_there : Stands bytes at (take (s.to - at) (spell s.value)) s.to
  begins_there = rw part_is s.there

  size_is : length s.part ≡ s.to - at
  size_is = omega (arith, s.there.ends)

  -- what is refused, and not as short, is wrong
  pub fault_from : ¬ (e.why ≡ Short) → HasFaultOf spell P items bytes at e
  fault_from other =
      elim s.stop [
        | inl h ↦ absurd (other h.0)
        | inr h ↦
            elim h.2 [
              | inl wrong ↦ record {
                value = s.value;
                fits = s.fits;
                begins = subst (λ (k : ℕ). Stands bytes at (take (k - at) (spell s.value)) k) wrong.0 begins_there;
                item = h.0;
                there = subst (λ (k : ℕ). items s.value k h.0) (size_is ∙ ap (λ (k : ℕ). k - at) wrong.0) h.1;
                wrong = subst (λ (k : ℕ). IsWrong e.why h.0 bytes k) wrong.0 wrong.1;
              }
              | inr cut ↦ absurd (other cut.0)
            ]
      ]

  -- what is short ends in the value
  pub end_from : e ≡ record { place = length bytes; why = Short } → EndsInOneOf spell P items bytes at
  end_from same =
      record {
        value = s.value;
        fits = s.fits;
        to = s.to;
        begins = begins_there;
        ends = elim s.stop [
          | inl h ↦ inl (h.1, omega (arith, h.1, h.2, s.there.ends))
          | inr h ↦
              elim h.2 [
                | inl wrong ↦ absurd (subst (λ (d : XdrError). IsWrong d.why h.0 bytes s.to) same wrong.1)
                | inr cut ↦ inr (h.0, subst (λ (k : ℕ). items s.value k h.0) size_is h.1, cut.1)
              ]
        ];
      }

pub named_right : (form : Form) → IsTrue (is_sound form) → IsTrue (is_filled form) → IsNamedRight form
named_right form sound filled = λ bytes at e fits le is other.
    fault_from (λ v. spelling form v) (λ v. Fits form v) (λ v k item. IsItemAt form v k item) bytes at e (stopped_in form sound filled bytes fits at e le is) other

pub short_ends : (form : Form) → IsTrue (is_sound form) → IsTrue (is_filled form) → (bytes : List ℕ) (at : ℕ) → IsBytes bytes → at ≤ length bytes → reading form bytes at ≡ Err (record { place = length bytes; why = Short }) → EndsInValue form bytes at
short_ends form sound filled bytes at fits le is =
    end_from (λ v. spelling form v) (λ v. Fits form v) (λ v k item. IsItemAt form v k item) bytes at (record { place = length bytes; why = Short })
    (stopped_in form sound filled bytes fits at (record { place = length bytes; why = Short }) le is) refl
