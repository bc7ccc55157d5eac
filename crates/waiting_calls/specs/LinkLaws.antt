-- What holds of the calls of a link, told by its moves, of which the latest comes first.
use Rattle.std.specs.Prelude.{◌≡◌, ◌≢◌, ◌⊎◌, ℕ, ◌+◌, ◌≤◌, ◌==◌, ◌&&◌, Bool, true, false, if◌then◌else◌, List, [], ◌∷◌, Option, None, Some}
use Rattle.std.specs.List.{AllByRecursion}
use Rattle.cluster_model.specs.declared.ids.NodeId.{NodeId}
use Rattle.cluster_model.specs.declared.ids.NodeId.TheVariants.{Server}
use Rattle.cluster_model.specs.Nodes.{is_node}
use Rattle.waiting_calls.specs.declared.link_call.LinkCall.{LinkCall}
use Rattle.waiting_calls.specs.declared.server_news.TheConstants.{DOWN_LIMIT}
use Rattle.waiting_calls.specs.ServerNews.{is_server_down}
use Rattle.waiting_calls.specs.LinkCalls.{LinkCallsValue, later, earliest, is_link_call}
use Rattle.waiting_calls.specs.LinkMoves.{LinkMove, CallGoesOut, RecordComesIn, CallIsGivenUp, RunsMoves, NeverFall, last_moment}

-- ---- where a call is kept

abbrev pub is_one_call : NodeId → ℕ → NodeId → ℕ → Bool
is_one_call node xid other number = is_node node other && xid == number

-- the move answers the call of this number to this node
abbrev pub is_answer_to : NodeId → ℕ → NodeId → Option ℕ → Bool
is_answer_to node xid from None = false
is_answer_to node xid from (Some number) = is_one_call node xid from number

-- When a call went out last, and whether as a READ, where it was neither answered nor given up since.
abbrev pub out_since : NodeId → ℕ → List LinkMove → Option (ℕ × Bool)
out_since node xid [] = None
out_since node xid (CallGoesOut now to number is_data_read ∷ past) = if is_one_call node xid to number then Some (now, is_data_read) else out_since node xid past
out_since node xid (RecordComesIn now from answers ∷ past) = if is_answer_to node xid from answers then None else out_since node xid past
out_since node xid (CallIsGivenUp now to number ∷ past) = if is_one_call node xid to number then None else out_since node xid past

-- how often the call of this number to this node stands here
abbrev pub times_here : NodeId → ℕ → List LinkCall → ℕ
times_here node xid [] = 0
times_here node xid (call ∷ calls) = (if is_link_call node xid call then 1 else 0) + times_here node xid calls

-- where it stands here, it is given up two seconds behind this moment
abbrev pub IsDueBehind : ℕ → NodeId → ℕ → List LinkCall → Type 0
IsDueBehind at node xid calls = AllByRecursion (λ call. is_link_call node xid call ≡ true → call.due ≡ later at) calls

-- One that went out at a moment waits, once, and is given up two seconds behind it; or is to be given up at once, once; and never both. One
-- that is not out stands nowhere.
abbrev pub IsKeptOnce : Option (ℕ × Bool) → NodeId → ℕ → LinkCallsValue → Type 0
IsKeptOnce None node xid c = (times_here node xid c.waiting ≡ 0) × (times_here node xid c.at_once ≡ 0)
IsKeptOnce (Some (at, is_data_read)) node xid c =
    ((times_here node xid c.waiting ≡ 1) × (times_here node xid c.at_once ≡ 0) × IsDueBehind at node xid c.waiting)
    ⊎ ((times_here node xid c.waiting ≡ 0) × (times_here node xid c.at_once ≡ 1))

abbrev pub AreKeptOnce : Type 0
AreKeptOnce = (moves : List LinkMove) (c : LinkCallsValue) → RunsMoves moves c → (node : NodeId) (xid : ℕ) → IsKeptOnce (out_since node xid moves) node xid c

-- ---- which servers are down

-- no record came from this server since a call went to it at this moment
abbrev pub IsMuteSince : ℕ → ℕ → List LinkMove → Type 0
IsMuteSince number since [] = ⊥
IsMuteSince number since (CallGoesOut now node xid is_data_read ∷ past) = ((node ≡ Server number) × (now ≡ since)) ⊎ IsMuteSince number since past
IsMuteSince number since (RecordComesIn now node answers ∷ past) = (node ≢ Server number) × IsMuteSince number since past
IsMuteSince number since (CallIsGivenUp now node xid ∷ past) = IsMuteSince number since past

-- a record came from another server at this moment or later
abbrev pub HasOtherCome : ℕ → ℕ → List LinkMove → Type 0
HasOtherCome number since [] = ⊥
HasOtherCome number since (CallGoesOut now node xid is_data_read ∷ past) = HasOtherCome number since past
HasOtherCome number since (RecordComesIn now node answers ∷ past) = ((other : ℕ) × (node ≡ Server other) × (other ≢ number) × (since ≤ now)) ⊎ HasOtherCome number since past
HasOtherCome number since (CallIsGivenUp now node xid ∷ past) = HasOtherCome number since past

-- For six seconds or longer, up to this moment, nothing came from this server, to which a call went, while something came from another.
abbrev pub IsSilentBy : ℕ → ℕ → List LinkMove → Type 0
IsSilentBy number now moves = (since : ℕ) × (since + DOWN_LIMIT ≤ now) × IsMuteSince number since moves × HasOtherCome number since moves

-- a server that is down is silent so
abbrev pub AreSilentIfDown : Type 0
AreSilentIfDown =
    (moves : List LinkMove) (c : LinkCallsValue) (number now : ℕ) → RunsMoves moves c → NeverFall moves → last_moment moves ≤ now
    → is_server_down now number c.servers ≡ true → IsSilentBy number now moves

-- one that gave a record is up
abbrev pub AreUpBehindRecords : Type 0
AreUpBehindRecords =
    (past : List LinkMove) (c : LinkCallsValue) (number then_at now : ℕ) (answers : Option ℕ) → RunsMoves (RecordComesIn then_at (Server number) answers ∷ past) c
    → is_server_down now number c.servers ≡ false

-- ---- what is given up

-- its moment has come, and no call that is out went before it
abbrev pub IsDueFirst : ℕ → ℕ → List LinkMove → Type 0
IsDueFirst at now past = (later at ≤ now) × ((node : NodeId) (xid : ℕ) (first : ℕ) (reads : Bool) → out_since node xid past ≡ Some (first, reads) → at ≤ first)

-- it is a READ of a server that is silent
abbrev pub IsReadOfSilent : NodeId → Bool → ℕ → List LinkMove → Type 0
IsReadOfSilent node is_data_read now past = (is_data_read ≡ true) × (number : ℕ) × (node ≡ Server number) × IsSilentBy number now past

-- What is given up was out, and its time was over before that of all others; or it is a READ of a silent server.
abbrev pub EndsRightly : NodeId → ℕ → ℕ → List LinkMove → Type 0
EndsRightly node xid now past =
    (at : ℕ) × (is_data_read : Bool) × (out_since node xid past ≡ Some (at, is_data_read)) × (IsDueFirst at now past ⊎ IsReadOfSilent node is_data_read now past)

abbrev pub EndRightly : Type 0
EndRightly =
    (past : List LinkMove) (c : LinkCallsValue) (now : ℕ) (node : NodeId) (xid : ℕ)
    → RunsMoves (CallIsGivenUp now node xid ∷ past) c → NeverFall (CallIsGivenUp now node xid ∷ past) → EndsRightly node xid now past

-- No call that waits is due before the moment at which the first is given up.
abbrev pub AreInTime : Type 0
AreInTime =
    (moves : List LinkMove) (c : LinkCallsValue) (now : ℕ) → RunsMoves moves c → NeverFall moves → c.at_once ≡ []
    → AllByRecursion (λ (call : LinkCall). earliest now c ≤ call.due) c.waiting
