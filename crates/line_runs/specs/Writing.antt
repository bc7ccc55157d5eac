-- Text that is written to a sink, or printed to a buffer.
use Rattle.std.specs.Prelude.{◌≡◌, List, ℕ, ◌++◌, Option, Some, None, Result, Ok, Err}
use Rattle.rpc_record.specs.declared.stream.Failed.{Failed}
use Rattle.ff_xdr.specs.declared.error.NoMemory.{NoMemory}

-- the part is the beginning of the text
pub record IsBeginningOf (part text : List ℕ) : Type 0 where
  pub rest : List ℕ
  pub whole : part ++ rest ≡ text

-- The sink took the text; at an error a beginning of it.
abbrev pub WritesText : Option (List ℕ) → List ℕ → Result (Unit {0}) Failed → Option (List ℕ) → Type 0
WritesText None text result new = new ≡ None
WritesText (Some held) text (Ok x) new = new ≡ Some (held ++ text)
WritesText (Some held) text (Err e) new = (part : List ℕ) × IsBeginningOf part text × (new ≡ Some (held ++ part))

-- A buffer took the text; at an error a beginning of it.
abbrev pub PrintsText : List ℕ → List ℕ → Result (Unit {0}) NoMemory → List ℕ → Type 0
PrintsText old text (Ok x) new = new ≡ old ++ text
PrintsText old text (Err e) new = (part : List ℕ) × IsBeginningOf part text × (new ≡ old ++ part)

-- The sink has taken all of the text but the rest.
abbrev pub HasWritten : Option (List ℕ) → List ℕ → List ℕ → Option (List ℕ) → Type 0
HasWritten None text rest new = new ≡ None
HasWritten (Some held) text rest new = (part : List ℕ) × (part ++ rest ≡ text) × (new ≡ Some (held ++ part))
