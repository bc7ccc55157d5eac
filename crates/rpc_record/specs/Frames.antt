-- Record marking: a stream of bytes as records (RFC 5531, section 11).
use Rattle.std.specs.Prelude.{◌≡◌, ℕ, zero, suc, ◌+◌, ◌-◌, ◌^◌, ◌≤◌, nat_lt, nat_le, Bool, true, false, if◌then◌else◌, List, [], ◌∷◌, ◌++◌, length, take, drop, Option, Some, None, Result, Ok, Err}
use Rattle.rpc_record.specs.declared.frames.TheConstants.{MAX_FRAGMENTS, MAX_RECORD}
use Rattle.ff_xdr.specs.Form.{word}
use Rattle.rpc_record.specs.declared.frames.RecordFault.{RecordFault}
use Rattle.rpc_record.specs.declared.frames.RecordFault.TheVariants as fault
use Rattle.rpc_record.specs.Calls.{word_of}

-- the most bytes of a record, and the most fragments
abbrev pub max_record : ℕ
max_record = MAX_RECORD

abbrev pub max_fragments : ℕ
max_fragments = MAX_FRAGMENTS

-- the word of a fragment's header: its length, and the highest bit at the last fragment of a record
abbrev pub header_word : ℕ → Bool → ℕ
header_word len last = if last then 2 ^ 31 + len else len

-- the same, read: the length, and whether it is the last
abbrev pub length_in : ℕ → ℕ
length_in w = if nat_le (2 ^ 31) w then w - 2 ^ 31 else w

abbrev pub is_last : ℕ → Bool
is_last w = nat_le (2 ^ 31) w

-- the bytes of a record that is one fragment
abbrev pub record_bytes : List ℕ → List ℕ
record_bytes message = word (header_word (length message) true) ++ message

-- What has come of the next fragment of a record: fewer than the four bytes of its header; or the header and not all of
-- its bytes, of which so many are still to come.
pub data Coming : Type 0 where
  Header : (bytes : List ℕ) → Coming
  FragmentBody : (left : ℕ) (last : Bool) → Coming

-- a record that is not whole: the bytes of its fragments so far, how many headers may still come, and the next fragment
pub record Part : Type 0 where
  pub gathered : List ℕ
  pub headers : ℕ
  pub coming : Coming

-- The front of a stream: a record that is not whole, a whole record with what stands behind it, or a header that passes a
-- limit.
pub data Front : Type 0 where
  Open : (part : Part) → Front
  Whole : (message rest : List ℕ) → Front
  TooLong : Front
  TooManyFragments : Front

-- what stands behind a header of a fragment of so many bytes; behind a whole one that is not the last comes the next
abbrev pub behind_header : ℕ → List ℕ → ℕ → Bool → List ℕ → (List ℕ → List ℕ → Front) → Front
behind_header headers gathered len last bytes next =
    if nat_lt (length bytes) len then Open (record { gathered = gathered ++ bytes; headers = headers; coming = FragmentBody (len - length bytes) last })
    else (if last then Whole (gathered ++ take len bytes) (drop len bytes) else next (gathered ++ take len bytes) (drop len bytes))

-- The front of these bytes, which stand behind fragments with so many bytes, where so many headers may still come. A header
-- that passes both limits passes that of the length.
unfoldable pub front_from : ℕ → List ℕ → List ℕ → Front
front_from zero gathered bytes =
    if nat_lt (length bytes) 4 then Open (record { gathered = gathered; headers = 0; coming = Header bytes })
    else (if nat_lt max_record (length gathered + length_in (word_of bytes 0)) then TooLong else TooManyFragments)
front_from (suc n) gathered bytes =
    if nat_lt (length bytes) 4 then Open (record { gathered = gathered; headers = suc n; coming = Header bytes })
    else (if nat_lt max_record (length gathered + length_in (word_of bytes 0)) then TooLong
    else behind_header n gathered (length_in (word_of bytes 0)) (is_last (word_of bytes 0)) (drop 4 bytes) (front_from n))

-- the front of a stream
unfoldable pub front_of : List ℕ → Front
front_of bytes = front_from max_fragments [] bytes

abbrev pub is_whole : Front → Bool
is_whole (Open part) = false
is_whole (Whole message rest) = true
is_whole TooLong = false
is_whole TooManyFragments = false

-- how many bytes of a record are there: those of its fragments; a stream that is refused gathers no record
abbrev pub held_of : Front → ℕ
held_of (Open part) = length part.gathered
held_of (Whole message rest) = length message
held_of TooLong = 0
held_of TooManyFragments = 0

-- ---- what the calls of `Frames` do

-- The stream gave these records in order, and this is the front of what stands behind them.
abbrev pub HasGiven : List ℕ → List (List ℕ) → Front → Type 0
HasGiven stream [] front = front ≡ front_of stream
HasGiven stream (message ∷ messages) front = (rest : List ℕ) × (front_of stream ≡ Whole message rest) × HasGiven rest messages front

-- Of a front and what is left of a piece: all was taken, or all up to the end of a whole record.
abbrev pub StopsAt : Front → List ℕ → Type 0
StopsAt (Open part) left = left ≡ []
StopsAt (Whole message rest) left = left ≡ rest
StopsAt TooLong left = ⊥
StopsAt TooManyFragments left = ⊥

-- so many bytes of the piece were taken behind those that had been fed since the last record was taken out
pub record Takes (fed piece : List ℕ) (n : ℕ) (new : Front) : Type 0 where
  pub within : n ≤ length piece
  pub now : new ≡ front_of (fed ++ take n piece)
  pub stops : StopsAt (front_of (fed ++ piece)) (drop n piece)

-- What feeding a piece did: bytes were taken; a header in it passes a limit, and all is refused from then on; or memory was
-- wanted, and nothing has changed.
abbrev pub Feeds : List ℕ → List ℕ → Result ℕ RecordFault → Front → Type 0
Feeds fed piece (Ok n) new = Takes fed piece n new
Feeds fed piece (Err fault.TooLong) new = (front_of (fed ++ piece) ≡ TooLong) × (new ≡ TooLong)
Feeds fed piece (Err fault.TooManyFragments) new = (front_of (fed ++ piece) ≡ TooManyFragments) × (new ≡ TooManyFragments)
Feeds fed piece (Err fault.NoMemory) new = new ≡ front_of fed

-- What taking a record out did: it was whole, and nothing of the next has come; or none is whole.
abbrev pub TakesOut : Front → Option (List ℕ) → Front → Type 0
TakesOut old (Some message) new = (old ≡ Whole message []) × (new ≡ front_of [])
TakesOut old None new = (is_whole old ≡ false) × (new ≡ old)

-- the records that were given, with the one that was taken out
abbrev pub with_taken : List (List ℕ) → Option (List ℕ) → List (List ℕ)
with_taken messages None = messages
with_taken messages (Some message) = messages ++ message ∷ []
