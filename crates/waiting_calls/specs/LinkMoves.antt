-- What happens to the calls of a link, move by move.
use Rattle.std.specs.Prelude.{⊤, ◌≡◌, ℕ, ◌≤◌, Bool, List, [], ◌∷◌, Option, Some, Result, Ok, Err}
use Rattle.ff_xdr.specs.declared.error.NoMemory.{NoMemory}
use Rattle.cluster_model.specs.declared.ids.NodeId.{NodeId}
use Rattle.waiting_calls.specs.declared.link_call.LinkCall.{LinkCall}
use Rattle.waiting_calls.specs.LinkCalls.{LinkCallsValue, no_link_calls, new_link_call, call_goes_out, record_comes, call_over, call_given_up}

pub data LinkMove : Type 0 where
  -- a call under this number goes to a node at this moment; it is a READ of a data server, or is not
  CallGoesOut : (now : ℕ) (node : NodeId) (xid : ℕ) (is_data_read : Bool) → LinkMove
  -- a record comes from a node: the reply to the call of this number, or no reply
  RecordComesIn : (now : ℕ) (node : NodeId) (answers : Option ℕ) → LinkMove
  -- the call of this number to this node is given up
  CallIsGivenUp : (now : ℕ) (node : NodeId) (xid : ℕ) → LinkMove

-- What a move does. A record is only waited for where nothing is to be given up at once; what is given up is what is to be given up first.
abbrev pub DoesMove : LinkMove → LinkCallsValue → LinkCallsValue → Type 0
DoesMove (CallGoesOut now node xid is_data_read) old new = new ≡ call_goes_out now (new_link_call now node xid is_data_read) old
DoesMove (RecordComesIn now node answers) old new = (old.at_once ≡ []) × (new ≡ record_comes now node answers old)
DoesMove (CallIsGivenUp now node xid) old new = (call : LinkCall) × (call_over now old ≡ Some call) × (call.node ≡ node) × (call.xid ≡ xid) × (new ≡ call_given_up now call old)

-- it did the move, or memory was wanted and it did not
abbrev pub DoesMoveOr : LinkMove → LinkCallsValue → Result (Unit {0}) NoMemory → LinkCallsValue → Type 0
DoesMoveOr move old (Ok x) new = DoesMove move old new
DoesMoveOr move old (Err e) new = new ≡ old

-- moves from no calls on, the latest first
abbrev pub RunsMoves : List LinkMove → LinkCallsValue → Type 0
RunsMoves [] c = c ≡ no_link_calls
RunsMoves (move ∷ past) c = (mid : LinkCallsValue) × RunsMoves past mid × DoesMove move mid c

abbrev pub move_moment : LinkMove → ℕ
move_moment (CallGoesOut now node xid is_data_read) = now
move_moment (RecordComesIn now node answers) = now
move_moment (CallIsGivenUp now node xid) = now

-- the moment of the latest
abbrev pub last_moment : List LinkMove → ℕ
last_moment [] = 0
last_moment (move ∷ past) = move_moment move

-- their moments never fall
abbrev pub NeverFall : List LinkMove → Type 0
NeverFall [] = ⊤
NeverFall (move ∷ past) = (last_moment past ≤ move_moment move) × NeverFall past
