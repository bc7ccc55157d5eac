-- The lines of a script.
use Rattle.std.specs.Prelude.{ℕ, List, [], ◌∷◌, length, take, drop, codes, nat_le, ◌==◌, Option, Some, None, option_and_then, option_map, if◌then◌else◌}
use Rattle.std.specs.Str.{bytes_eq}
use Rattle.ff_script.specs.declared.line.BareEvent.{BareEvent}
use Rattle.ff_script.specs.declared.line.BareEvent.TheVariants as event
use Rattle.rpc_record.specs.Frames.{max_record}
use Rattle.cluster_model.specs.Event.{EventValue, Deliver, Restart}
use Rattle.ff_script.specs.Digits.{bytes_of_digits}
use Rattle.ff_script.specs.Pieces.{pieces_at}

-- what stands behind a word at the text's start
abbrev pub after_word : List ℕ → List ℕ → Option (List ℕ)
after_word word text = if bytes_eq (take (length word) text) word then Some (drop (length word) text) else None

-- a record that is not too long to be marked (RFC 5531, section 11)
abbrev pub short_record : List ℕ → Option (List ℕ)
short_record bytes = if nat_le (length bytes) max_record then Some bytes else None

infixl 10 ◌>>=◌
abbrev pub ◌>>=◌ : {A B : Type 0} → Option A → (A → Option B) → Option B
o >>= f = option_and_then f o

-- the first of two that is there
abbrev pub first_of : {A : Type 0} → Option A → Option A → Option A
first_of (Some a) other = Some a
first_of None other = other

-- `deliver`, one space and a record
abbrev pub deliver_at : List ℕ → Option EventValue
deliver_at text = do
  digits ← after_word (codes "deliver ") text
  bytes ← bytes_of_digits digits
  few ← short_record bytes
  Some (Deliver few)

-- `restart d1`, alone or with one space and pieces
abbrev pub restart_at : List ℕ → Option EventValue
restart_at text =
    if bytes_eq text (codes "restart d1") then Some (Restart 1 [])
    else option_map (Restart 1) (after_word (codes "restart d1 ") text >>= pieces_at)

-- the line of an event
abbrev pub event_at : List ℕ → Option EventValue
event_at text = first_of (deliver_at text) (restart_at text)

-- what the code's event says
abbrev pub event_value : BareEvent → EventValue
event_value (event.Deliver bytes) = Deliver bytes
event_value (event.Restart pieces) = Restart 1 pieces
