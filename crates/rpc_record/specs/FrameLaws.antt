-- The laws of record marking (RFC 5531, section 11), in words of fragments.
use Rattle.std.specs.Prelude.{⊤, ◌≡◌, ℕ, ◌+◌, ◌^◌, ◌<◌, ◌≤◌, Bool, true, false, List, [], ◌∷◌, ◌++◌, length, take, flat_map}
use Rattle.ff_xdr.specs.Form.{word}
use Rattle.ff_xdr.specs.Laws.{IsBytes}
use Rattle.rpc_record.specs.Frames.{max_record, max_fragments, header_word, length_in, record_bytes, Front, Open, Whole, TooLong, TooManyFragments, front_of, is_whole, HasGiven}

-- a fragment's bytes, and whether it is the last of its record
pub record Fragment : Type 0 where
  pub bytes : List ℕ
  pub last : Bool

-- a fragment on the stream: its header, then its bytes
abbrev pub fragment_bytes : Fragment → List ℕ
fragment_bytes f = word (header_word (length f.bytes) f.last) ++ f.bytes

-- fragments on the stream, and the bytes in them
abbrev pub stream_of : List Fragment → List ℕ
stream_of fragments = flat_map fragment_bytes fragments

abbrev pub message_of : List Fragment → List ℕ
message_of fragments = flat_map (λ f. f.bytes) fragments

-- none of them is the last of its record
abbrev pub AreInner : List Fragment → Type 0
AreInner [] = ⊤
AreInner (f ∷ fragments) = (f.last ≡ false) × AreInner fragments

-- the last of them is the last of its record, and no other
abbrev pub AreRecord : List Fragment → Type 0
AreRecord [] = ⊥
AreRecord (f ∷ []) = f.last ≡ true
AreRecord (f ∷ g ∷ fragments) = (f.last ≡ false) × AreRecord (g ∷ fragments)

-- fragments within both limits
pub record AreWithin (fragments : List Fragment) : Type 0 where
  pub few : length fragments ≤ max_fragments
  pub short : length (message_of fragments) ≤ max_record

-- The fragments of a record are read as the record, whatever stands behind them.
abbrev pub IsRecordRead : List Fragment → List ℕ → Type 0
IsRecordRead fragments rest = AreRecord fragments → AreWithin fragments → front_of (stream_of fragments ++ rest) ≡ Whole (message_of fragments) rest

-- A record that is read stands there in fragments.
pub record StandsIn (bytes message rest : List ℕ) : Type 0 where
  pub fragments : List Fragment
  pub are : AreRecord fragments
  pub within : AreWithin fragments
  pub stands : bytes ≡ stream_of fragments ++ rest
  pub whole : message ≡ message_of fragments

abbrev pub IsRecordSpelled : List ℕ → List ℕ → List ℕ → Type 0
IsRecordSpelled bytes message rest = IsBytes bytes → front_of bytes ≡ Whole message rest → StandsIn bytes message rest

-- what is written as one fragment is read again
abbrev pub IsMarkedRead : List ℕ → List ℕ → Type 0
IsMarkedRead message rest = length message ≤ max_record → front_of (record_bytes message ++ rest) ≡ Whole message rest

abbrev pub IsOpen : Front → Type 0
IsOpen (Open part) = ⊤
IsOpen (Whole message rest) = ⊥
IsOpen TooLong = ⊥
IsOpen TooManyFragments = ⊥

-- Behind fragments within the limits, of which none is the last, stands this header. Before its last byte no limit is passed.
pub record HeaderAt (bytes : List ℕ) (fragments : List Fragment) (number : ℕ) : Type 0 where
  pub more : List ℕ
  pub inner : AreInner fragments
  pub within : AreWithin fragments
  pub small : number < 2 ^ 32
  pub stands : bytes ≡ stream_of fragments ++ (word number ++ more)
  pub before : (n : ℕ) → n < 4 → IsOpen (front_of (stream_of fragments ++ take n (word number)))

-- a header with which the record would have too many bytes
pub record HasLongHeader (bytes : List ℕ) : Type 0 where
  pub fragments : List Fragment
  pub number : ℕ
  pub header : HeaderAt bytes fragments number
  pub long : max_record < length (message_of fragments) + length_in number

-- one header more than a record may have, where it would not have too many bytes
pub record HasHeaderTooMany (bytes : List ℕ) : Type 0 where
  pub fragments : List Fragment
  pub number : ℕ
  pub header : HeaderAt bytes fragments number
  pub full : length fragments ≡ max_fragments
  pub short : length (message_of fragments) + length_in number ≤ max_record

-- A stream is refused just where a header passes a limit.
abbrev pub IsLongJustWhere : List ℕ → Type 0
IsLongJustWhere bytes = IsBytes bytes → (front_of bytes ≡ TooLong → HasLongHeader bytes) × (HasLongHeader bytes → front_of bytes ≡ TooLong)

abbrev pub IsTooManyJustWhere : List ℕ → Type 0
IsTooManyJustWhere bytes = IsBytes bytes → (front_of bytes ≡ TooManyFragments → HasHeaderTooMany bytes) × (HasHeaderTooMany bytes → front_of bytes ≡ TooManyFragments)

-- what stands at the front stands whatever follows
abbrev pub with_more : Front → List ℕ → Front → Type 0
with_more (Open part) more front = ⊤
with_more (Whole message rest) more front = front ≡ Whole message (rest ++ more)
with_more TooLong more front = front ≡ TooLong
with_more TooManyFragments more front = front ≡ TooManyFragments

abbrev pub StandsBefore : List ℕ → List ℕ → Type 0
StandsBefore bytes more = with_more (front_of bytes) more (front_of (bytes ++ more))

-- A stream has one list of records, and one front behind them, however it was cut when it was fed.
abbrev pub HasOneReading : List ℕ → Type 0
HasOneReading stream = (messages messages' : List (List ℕ)) (front front' : Front) → HasGiven stream messages front → HasGiven stream messages' front'
    → is_whole front ≡ false → is_whole front' ≡ false → (messages ≡ messages') × (front ≡ front')
