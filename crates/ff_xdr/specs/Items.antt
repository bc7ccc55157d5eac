-- The values of a list, wherever they are.
use Rattle.std.specs.Prelude.{◌≡◌, ◌^◌, Bool, List, [], length, map, Result, Ok, Err, is_ok, nat_lt, nat_le, ◌&&◌}
use Rattle.ff_xdr.specs.declared.error.XdrError.{XdrError}
use Rattle.ff_xdr.specs.declared.place.ItemsPlace.{ItemsPlace}
use Rattle.ff_xdr.specs.declared.place.ItemsPlace.TheVariants.{InBytes, Made}
use Rattle.ff_xdr.specs.Form.{Form, Value}
use Rattle.ff_xdr.specs.Calls.{Place}
use Rattle.ff_xdr.specs.Reading.{Read, many_at, reading}

-- the values that were read, none at a refusal
abbrev pub values_of : {M : Type 0} → Read (List M) → List M
values_of (Ok x) = x.0
values_of (Err e) = []

abbrev pub contents : {T : Type 0} → (form : Form) → (T → Value form) → ItemsPlace T → List (Value form)
contents form meaning (InBytes bytes at count) = values_of (many_at (λ place. reading form bytes.now place) count at)
contents form meaning (Made values) = map meaning values.now

-- the bytes have their form, and the values a count that fits a word
abbrev pub is_list : {T : Type 0} → (form : Form) → ItemsPlace T → Bool
is_list form (InBytes bytes at count) = nat_le at (length bytes.now) && is_ok (many_at (λ place. reading form bytes.now place) count at)
is_list form (Made values) = nat_lt (length values.now) (2 ^ 32)

-- A call went over the values that `read` gives; at a refusal the cursor may stand anywhere.
abbrev pub Walks : {M : Type 0} → Place → Result (Unit {0}) XdrError → Place → Read (List M) → Type 0
Walks old (Ok x) new read = (read ≡ Ok (values_of read, new.at)) × (new.bytes ≡ old.bytes)
Walks old (Err e) new read = read ≡ Err e
