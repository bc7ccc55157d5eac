-- Recalls of a layout, and what is taken behind them (RFC 8881, sections 12.5.5, 20.3 and 20.9).
use Rattle.std.specs.Prelude.{◌≡◌, ℕ, false, List, [], ◌∷◌, ◌++◌, take, Option, Some, None, Ok, ◌⊎◌}
use Rattle.std.proofs.Common.{inl, inr}
use Rattle.ff_xdr.specs.Form.{Value, word}
use Rattle.rpc_record.specs.Calls.{RpcCall, call_at}
use Rattle.rpc_record.specs.Replies.{RpcReply}
use Rattle.nfs4_types.specs.declared.ids.SessionId.{SessionId}
use Rattle.nfs4_types.specs.declared.stateid.Stateid.{Stateid}
use Rattle.nfs4_compound.specs.CbArgs.{cb_argop4}
use Rattle.nfs4_compound.specs.Compounds.{CbCompoundValue, cb_compound_at}
use Rattle.cluster_model.specs.declared.ids.NodeId.TheVariants.{Mds}
use Rattle.cluster_model.specs.declared.ids.FileId.{FileId}
use Rattle.cluster_model.specs.declared.answer.UserAnswer.TheVariants as answer
use Rattle.cluster_model.specs.declared.answer.FailCause.TheVariants as failing
use Rattle.cluster_model.specs.declared.entry.Entry.{Entry}
use Rattle.cluster_model.specs.declared.entry.Entry.TheVariants.{Sent, Answer}
use Rattle.client_file_calls.specs.declared.grant.LayoutGrant.{LayoutGrant}
use Rattle.client_file_calls.specs.declared.layout_return.FailedMirror.{FailedMirror}
use Rattle.client_mds_calls.specs.MdsCalls.{OnSlot}
use Rattle.client_mds_calls.specs.MdsCalls as slot
use Rattle.client_state.specs.declared.layout.Layout.{Layout}
use Rattle.client_state.specs.ClientStates.{ClientValue, fresh_client}
use Rattle.client_state.specs.ClientQueue.{is_writing}
use Rattle.client_state.specs.ClientSends.{CallsMds, RepliesToMds}
use Rattle.client_callbacks.specs.Callbacks.{recalled_state}
use Rattle.client_laws.specs.ClientHistory.{ClientInput, Recorded, HistoryItem, Hears, Enters, Sends, HasItem, client_history, client_after}
use Rattle.client_laws.specs.ClientRunLaws.{WasGranted, AreGrantedOnce}

-- ---- a callback

-- the session and the number of a callback compound, by its CB_SEQUENCE
abbrev pub sequence_of : List (Value cb_argop4) → Option (List ℕ × ℕ)
sequence_of (inr (inl (session, (number, rest))) ∷ ops) = Some (session, number)
sequence_of ops = None

-- the record is a callback of this session under this number
pub record IsCallback (bytes session : List ℕ) (number : ℕ) : Type 0 where
  pub call : RpcCall
  pub call_is : call_at bytes ≡ Ok call
  pub cb : CbCompoundValue
  pub compound : cb_compound_at call.args ≡ Ok cb
  pub sequence : sequence_of cb.ops.values ≡ Some (session, number)

-- one of these operations asks the layout of this state back
abbrev pub AsksBack : List (Value cb_argop4) → List ℕ → Type 0
AsksBack [] state = ⊥
AsksBack (inl (kind, (iomode, (changed, recall))) ∷ ops) state = (recalled_state recall ≡ Some state) ⊎ AsksBack ops state
AsksBack (inr other ∷ ops) state = AsksBack ops state

-- ---- what was heard last

pub record LastHeard : Type 0 where
  pub earlier : List HistoryItem
  pub input : ClientInput

abbrev pub heard_behind : HistoryItem → Option LastHeard → Option LastHeard
heard_behind item (Some last) = Some (record { earlier = item ∷ last.earlier; input = last.input })
heard_behind (Hears input) None = Some (record { earlier = []; input = input })
heard_behind (Enters entry) None = None
heard_behind (Sends send) None = None

-- with what came before it
abbrev pub last_heard : List HistoryItem → Option LastHeard
last_heard [] = None
last_heard (item ∷ items) = heard_behind item (last_heard items)

-- ---- a recall is answered

-- The record that was heard last is a callback that was not heard before, and asks the layout of this state back; and the reply says OK: its
-- status, the first four bytes of its results, is NFS4_OK.
pub record WasRecalled (past : List HistoryItem) (reply : RpcReply) (state : List ℕ) : Type 0 where
  pub earlier : List HistoryItem
  pub bytes : List ℕ
  pub now : ℕ
  pub last : last_heard past ≡ Some (record { earlier = earlier; input = Recorded Mds bytes now })
  pub session : List ℕ
  pub number : ℕ
  pub callback : IsCallback bytes session number
  pub asks : AsksBack callback.cb.ops.values state
  pub new : (other : List ℕ) (moment : ℕ) → HasItem earlier (Hears (Recorded Mds other moment)) → IsCallback other session number → ⊥
  pub ok : take 4 reply.results ≡ word 0

-- what came before the first item of a grant's `since` that stands there
abbrev pub up_to : {past : List HistoryItem} {grant : LayoutGrant} → WasGranted past grant → List HistoryItem → List HistoryItem
up_to granted items = granted.before ++ Sends (CallsMds granted.xid granted.name (OnSlot granted.session granted.sequence (slot.LayoutGet granted.file))) ∷ items

-- since the grant a recall of it was answered OK
pub record RecalledSince {past : List HistoryItem} {grant : LayoutGrant} (granted : WasGranted past grant) : Type 0 where
  pub items : List HistoryItem
  pub behind : List HistoryItem
  pub reply : RpcReply
  pub split : granted.since ≡ items ++ Sends (RepliesToMds reply) ∷ behind
  pub recalled : WasRecalled (up_to granted items) reply grant.stateid.other

abbrev pub TakesUnrecalled : List HistoryItem → Entry → Type 0
TakesUnrecalled past (Sent file uid at bytes) = AreGrantedOnce past → (grant : LayoutGrant) (i : WasGranted past grant) → grant.uid.0 ≡ uid.0 → RecalledSince i → ⊥
TakesUnrecalled past entry = Unit {0}

-- once a recall of a layout was answered OK, no write is taken under it
abbrev pub KeepsRecalled : List HistoryItem → HistoryItem → Type 0
KeepsRecalled past (Enters entry) = TakesUnrecalled past entry
KeepsRecalled past item = Unit {0}

-- ---- a layout that is recalled does go

-- a LAYOUTRETURN of the layout of this state was sent (RFC 8881, section 18.44)
pub record WasGivenBack (past : List HistoryItem) (state : List ℕ) : Type 0 where
  pub xid : ℕ
  pub name : List ℕ
  pub session : SessionId
  pub sequence : ℕ
  pub file : FileId
  pub stateid : Stateid
  pub failed : List FailedMirror
  pub its_state : stateid.other ≡ state
  pub sent : HasItem past (Sends (CallsMds xid name (OnSlot session sequence (slot.LayoutReturn file stateid failed))))

-- the client has the layout still, and takes no write under it
pub record IsGoing (c : ClientValue) (state : List ℕ) : Type 0 where
  pub layout : Layout
  pub there : c.layout ≡ Some layout
  pub its_state : layout.stateid.other ≡ state
  pub stage : is_writing layout.stage ≡ false

-- what has become of it, by all that came and by what came behind the recall
pub data LayoutHasGone (past behind : List HistoryItem) (c : ClientValue) (state : List ℕ) : Type 0 where
  WasReturned : WasGivenBack past state → LayoutHasGone past behind c state
  -- the user was answered since that it was taken away
  WasLost : (client : ℕ) → HasItem behind (Enters (Answer client (answer.Failed failing.Revoked))) → LayoutHasGone past behind c state
  GoesStill : IsGoing c state → LayoutHasGone past behind c state

-- At every moment behind a recall that was answered OK the layout was given back, was found lost, or is held still with no write taken
-- under it (RFC 8881, section 20.3).
abbrev pub RecalledGoes : Type 0
RecalledGoes =
    (number verifier first_xid : ℕ) (inputs : List ClientInput) (before behind : List HistoryItem) (reply : RpcReply) (state : List ℕ)
    → client_history (fresh_client number verifier first_xid) inputs ≡ before ++ Sends (RepliesToMds reply) ∷ behind → WasRecalled before reply state
    → LayoutHasGone (client_history (fresh_client number verifier first_xid) inputs) behind (client_after (fresh_client number verifier first_xid) inputs) state
