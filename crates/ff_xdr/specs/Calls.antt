-- What the calls of `Cursor` and `Out` say.
use Rattle.std.specs.Prelude.{◌≡◌, ℕ, List, ◌++◌, Result, Ok, Err}
use Rattle.ff_xdr.specs.declared.error.XdrError.{XdrError}
use Rattle.ff_xdr.specs.declared.error.NoMemory.{NoMemory}
use Rattle.ff_xdr.specs.Reading.{Read}

-- a slice, and the place from which on it is read
pub record Place : Type 0 where
  pub bytes : List ℕ
  pub at : ℕ

-- A call read what `read` says: at a value the cursor stands behind it, at a refusal where it stood.
abbrev pub Decodes : {X M : Type 0} → (X → M) → Place → Result X XdrError → Place → Read M → Type 0
Decodes view old (Ok x) new read = (read ≡ Ok (view x, new.at)) × (new.bytes ≡ old.bytes)
Decodes view old (Err e) new read = (read ≡ Err e) × (new ≡ old)

-- What was found, seen by `view`, is what `read` says.
abbrev pub Finds : {X M E : Type 0} → (X → M) → Result X E → Result M E → Type 0
Finds view (Ok x) read = read ≡ Ok (view x)
Finds view (Err e) read = read ≡ Err e

-- A call appended this text; at an error all is as before.
abbrev pub Puts : List ℕ → Result (Unit {0}) NoMemory → List ℕ → List ℕ → Type 0
Puts old (Ok x) new text = new ≡ old ++ text
Puts old (Err e) new text = new ≡ old

-- A call appended this text; at an error it may have appended a part of it.
abbrev pub Grows : List ℕ → Result (Unit {0}) NoMemory → List ℕ → List ℕ → Type 0
Grows old (Ok x) new text = new ≡ old ++ text
Grows old (Err e) new text = (part : List ℕ) × (new ≡ old ++ part)
