-- What the list of a compound's operations says of its bytes.
use Rattle.std.specs.Prelude.{◌≡◌, ℕ, zero, suc, ◌+◌, ◌≤◌, true, false, List, ◌++◌, length, Ok, Err, nat_eq}
use Rattle.std.specs.Int.{w32}
use Rattle.std.specs.List.{AllByRecursion, flat_map, list_any}
use Rattle.ff_xdr.specs.declared.error.XdrError.{XdrError}
use Rattle.ff_xdr.specs.declared.error.XdrWhy.TheVariants.{NotEnum}
use Rattle.ff_xdr.specs.Form.{Form, Value, Fits, spelling}
use Rattle.ff_xdr.specs.Reading.{number_at, reading, many_at}
use Rattle.ff_xdr.specs.Laws.{IsBytes, Stands}
use Rattle.nfs4_compound.specs.declared.stop.Stop.{Stop}
use Rattle.nfs4_compound.specs.declared.stop.Stop.TheVariants as stop
use Rattle.nfs4_compound.specs.Args.{argop4}
use Rattle.nfs4_compound.specs.Operations.{OpList, left_at, stop_at, operations}
use Rattle.nfs4_compound.specs.AllOps.{served_ops}
use Rattle.nfs4_compound.specs.Compounds.{whole_stop}

-- Why no operation is read at a place where so many are to come: none are; or the one that stands there is refused.
abbrev pub IsStop : Form → List ℕ → ℕ → ℕ → Stop → Type 0
IsStop form bytes at zero s = s ≡ stop.End (left_at bytes at)
IsStop form bytes at (suc left) s = (e : XdrError) × (reading form bytes at ≡ Err e) × (s ≡ stop_at form bytes at e)

-- So many operations are to come from a place on: the bytes spell those of the list, and behind them no further one is read.
pub record SpellsOps (form : Form) (count : ℕ) (bytes : List ℕ) (at : ℕ) (list : OpList form) : Type 0 where
  pub to : ℕ
  pub left : ℕ
  pub all : count ≡ length list.values + left
  pub fits : AllByRecursion (λ v. Fits form v) list.values
  pub stands : Stands bytes at (flat_map (λ v. spelling form v) list.values) to
  pub stops : IsStop form bytes to left list.stop

-- The operations that are given are spelled so,
abbrev pub AreSpelledSo : Form → Type 0
AreSpelledSo form = (count : ℕ) (bytes : List ℕ) (at : ℕ) → IsBytes bytes → at ≤ length bytes → SpellsOps form count bytes at (operations form count bytes at)

-- and what is spelled is given.
abbrev pub AreReadAgain : Form → Type 0
AreReadAgain form = (values : List (Value form)) (left : ℕ) (front rest : List ℕ) (s : Stop) → AllByRecursion (λ v. Fits form v) values
    → IsStop form (front ++ flat_map (λ v. spelling form v) values ++ rest) (length front + length (flat_map (λ v. spelling form v) values)) left s
    → operations form (length values + left) (front ++ flat_map (λ v. spelling form v) values ++ rest) (length front) ≡ record { values = values; stop = s }

-- What is read as an array is given whole.
abbrev pub AreGivenWhole : Form → Type 0
AreGivenWhole form = (count : ℕ) (bytes : List ℕ) (at : ℕ) (values : List (Value form)) (to : ℕ)
    → many_at (λ place. reading form bytes place) count at ≡ Ok (values, to) → operations form count bytes at ≡ record { values = values; stop = stop.End (left_at bytes to) }

-- What is read as an array of operations that are carried out is given whole, and nothing else.
pub record GivesWhole (count : ℕ) (bytes : List ℕ) (at : ℕ) (values : List (Value argop4)) (to : ℕ) : Type 0 where
  pub ops : served_ops count bytes at ≡ record { values = values; stop = stop.End (left_at bytes to) }
  pub ends : whole_stop count bytes at ≡ stop.End (left_at bytes to)

abbrev pub AreServedWhole : Type 0
AreServedWhole = (count : ℕ) (bytes : List ℕ) (at : ℕ) (values : List (Value argop4)) (to : ℕ)
    → many_at (λ place. reading argop4 bytes place) count at ≡ Ok (values, to) → GivesWhole count bytes at values to

-- Where a number is refused of an operation, the operation or an arm of a union in it is not built, but for the operations of these
-- numbers: there it is an enum's, and out of form. Any other refusal is one of form.
pub record TellsUnbuilt (form : Form) (with_enums : List ℕ) : Type 0 where
  pub unread : (bytes : List ℕ) (at n to : ℕ) (e : XdrError) → reading form bytes at ≡ Err e → e.why ≡ NotEnum → number_at w32 bytes at ≡ Ok (n, to)
      → list_any (nat_eq n) with_enums ≡ false → stop_at form bytes at e ≡ stop.Unread n
  pub bad : (bytes : List ℕ) (at n to : ℕ) (e : XdrError) → reading form bytes at ≡ Err e → e.why ≡ NotEnum → number_at w32 bytes at ≡ Ok (n, to)
      → list_any (nat_eq n) with_enums ≡ true → stop_at form bytes at e ≡ stop.Bad e
  pub other : (bytes : List ℕ) (at : ℕ) (e : XdrError) → reading form bytes at ≡ Err e → ¬ (e.why ≡ NotEnum) → stop_at form bytes at e ≡ stop.Bad e
