-- How the fields of `Connection` stand for its state.
use Rattle.std.specs.Prelude.{◌≡◌, ℕ, Bool, false, List, [], Option, None, Some}
use Rattle.rpc_record.specs.Frames.{Front, Whole, front_of, is_whole}
use Rattle.record_link.specs.Connection.{ConnectionState, is_refused}

-- the front, where a record that is whole is kept beside the frames
abbrev pub front_with : Front → Option (List ℕ) → Front
front_with frames None = frames
front_with frames (Some message) = Whole message []

abbrev pub connection_state : Front → Option (List ℕ) → List ℕ → List ℕ → ℕ → Bool → ConnectionState
connection_state frames whole ahead to_go unanswered ended = record { front = front_with frames whole; ahead = ahead; to_go = to_go; unanswered = unanswered; ended = ended }

-- nothing has come of a record behind one that is kept
abbrev pub HoldsFront : Front → Option (List ℕ) → Type 0
HoldsFront frames None = is_whole frames ≡ false
HoldsFront frames (Some message) = frames ≡ front_of []

pub record IsKept (frames : Front) (whole : Option (List ℕ)) (refused : Bool) : Type 0 where
  pub fed : List ℕ
  pub front : front_with frames whole ≡ front_of fed
  pub behind : HoldsFront frames whole
  pub marked : refused ≡ is_refused (front_with frames whole)
