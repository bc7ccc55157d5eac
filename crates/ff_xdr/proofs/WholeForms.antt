-- The laws of a value with nothing behind it that speak of what is left over, and of no value.
use Rattle.std.proofs.Common.{◌≡◌, ℕ, ◌<◌, List, length, Ok, Err, refl, sym, ap, subst, inl, inr}
use Rattle.std.specs.Prelude.{IsTrue}
use Rattle.ff_xdr.specs.declared.error.XdrError.{XdrError}
use Rattle.ff_xdr.specs.declared.error.XdrWhy.TheVariants.{Rest}
use Rattle.ff_xdr.specs.Form.{Form, Value, is_sound}
use Rattle.ff_xdr.specs.Laws.{HasRestJustWhere, HasNoWhole}
use Rattle.ff_xdr.specs.Reading.{reading, whole}
use Rattle.ff_xdr.proofs.Again.{again_where}
use Rattle.ff_xdr.proofs.Refusals.{whole_cases, whole_all, whole_rest, not_both}
use Rattle.ff_xdr.proofs.NotRest.{never_rest_at}

abbrev HasRest : Form → List ℕ → ℕ → ℕ → Type 0
HasRest form bytes at place = (v : Value form) × (reading form bytes at ≡ Ok (v, place)) × (place < length bytes)

pub rest_just_where : (form : Form) → HasRestJustWhere form
rest_just_where form = λ bytes at place. (
  λ is. elim (whole_cases bytes (reading form bytes at) (record { place = place; why = Rest }) is) [
    | inl refusal ↦ absurd (never_rest_at form bytes at (record { place = place; why = Rest }) refusal refl)
    | inr rest ↦
        let same : rest.value.1 ≡ place = sym (ap (λ (d : XdrError). d.place) rest.refusal) in
        subst (λ (k : ℕ). HasRest form bytes at k) same (rest.value.0, rest.read, rest.left)
  ],
  λ h. whole_rest bytes (h.0, place) (reading form bytes at) h.1 h.2,
)

pub no_whole : (form : Form) → IsTrue (is_sound form) → HasNoWhole form
no_whole form sound = λ bytes at e is v fits stands.
    let value = again_where form sound v bytes at (length bytes) fits stands in
    not_both (whole bytes (reading form bytes at)) e v is (whole_all bytes (v, length bytes) (reading form bytes at) value refl)
