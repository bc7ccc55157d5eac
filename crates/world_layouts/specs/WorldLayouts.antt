-- The layouts of the clients of a world: each is granted once, as the journal says, and ends as the metadata server says (RFC 8881, sections
-- 12.5.5, 18.43 and 18.44; RFC 8435, section 2.2).
use Rattle.std.specs.Prelude.{◌≡◌, ℕ, ◌+◌, ◌<◌, ◌≤◌, ◌^◌, true, false, List, [], ◌∷◌, ◌++◌, length, Some}
use Rattle.nfs4_types.specs.declared.ids.SessionId.{SessionId}
use Rattle.nfs4_types.specs.declared.stateid.Stateid.{Stateid}
use Rattle.cluster_model.specs.declared.ids.NodeId.TheVariants.{Client}
use Rattle.cluster_model.specs.declared.ids.FileId.{FileId}
use Rattle.cluster_model.specs.declared.ids.MirrorId.{MirrorId}
use Rattle.cluster_model.specs.declared.phase.EndCause.TheVariants.{Returned}
use Rattle.cluster_model.specs.declared.entry.Entry.{Entry}
use Rattle.cluster_model.specs.declared.entry.Entry.TheVariants.{Delivered, Granted, Ended}
use Rattle.cluster_model.specs.Phases.{ids_of}
use Rattle.cluster_model.specs.Members.{IsOneOf}
use Rattle.cluster_laws.specs.FenceLaw.{live_in}
use Rattle.cluster_laws.specs.Agreement.{causes_of}
use Rattle.cluster_laws.specs.Holders.{HasEndedClean}
use Rattle.holder_parts.specs.HeldOwners.{DoHoldersOwn}
use Rattle.client_file_calls.specs.declared.grant.LayoutGrant.{LayoutGrant}
use Rattle.client_file_calls.specs.declared.layout_return.FailedMirror.{FailedMirror}
use Rattle.client_mds_calls.specs.FittingCalls.{reports_server}
use Rattle.client_mds_calls.specs.MdsCalls.{SlotCallValue, OnSlot}
use Rattle.table_slots.specs.TableSlots.{is_of_session}
use Rattle.client_mds_calls.specs.MdsCalls as slot
use Rattle.client_state.specs.ClientSends.{CallsMds}
use Rattle.client_laws.specs.ClientHistory.{HistoryItem, Sends, HasItem, client_history}
use Rattle.client_laws.specs.ClientRunLaws.{WasGranted, AreGrantedOnce, CoveredByReturn}
use Rattle.client_sessions.specs.LayoutEnds.{HasUnreported, WasFenced}
use Rattle.world_rule.specs.ClusterWorlds.{ClusterState}
use Rattle.node_histories.specs.Weaves.{WeaveStep, Seen, entries_in, items_in}
use Rattle.node_histories.specs.ClientLives.{Life, start_of}
use Rattle.node_histories.specs.NodeHistories.{HasLife, IsToldByNodes}
use Rattle.world_journal.specs.Journal.{IsJournalInRange}
use Rattle.mds_replies.specs.AnsweredRequests.{StaysRoomy}

-- ---- moments of a life

-- the journal at a moment of a life, behind these steps of it
abbrev pub journal_at : Life → List (WeaveStep HistoryItem) → List Entry
journal_at l earlier = l.begun ++ entries_in earlier

-- ---- what holds of every life

-- two grants under one uid that a life heard are one
abbrev pub GrantsAreOnce : {w : ClusterState} → IsToldByNodes w → Type 0
GrantsAreOnce told = (n : ℕ) (l : Life) → HasLife told.stories n l → AreGrantedOnce (client_history (start_of n l) l.inputs)

-- the period of this file began for the client, under the uid of the grant, while the mirrors of the grant were live
pub record WasBegunFor (journal : List Entry) (n : ℕ) (file : FileId) (grant : LayoutGrant) : Type 0 where
  pub before : List Entry
  pub behind : List Entry
  pub split : journal ≡ before ++ Granted file grant.uid (Client n) ∷ behind
  pub live : live_in before file ≡ Some (ids_of grant.mirrors)

-- what a life was granted, the journal had granted before
abbrev pub GrantsAreTold : {w : ClusterState} → IsToldByNodes w → Type 0
GrantsAreTold told =
    (n : ℕ) (l : Life) (earlier later : List (WeaveStep HistoryItem)) (grant : LayoutGrant) → HasLife told.stories n l → l.steps ≡ earlier ++ later → (granted : WasGranted (items_in earlier) grant)
    → WasBegunFor (journal_at l earlier) n granted.file.file grant

-- one life has a uid
abbrev pub UidsAreOwn : {w : ClusterState} → IsToldByNodes w → Type 0
UidsAreOwn told =
    (n k : ℕ) (l o : Life) (grant other : LayoutGrant) → HasLife told.stories n l → HasLife told.stories k o → WasGranted (client_history (start_of n l) l.inputs) grant
    → WasGranted (client_history (start_of k o) o.inputs) other → grant.uid.0 ≡ other.uid.0 → (n ≡ k) × (l ≡ o)

-- of a life, two layouts under one stateid are under one uid (RFC 8881, section 12.5.2)
abbrev pub StateidsAreOnce : {w : ClusterState} → IsToldByNodes w → Type 0
StateidsAreOnce told =
    (n : ℕ) (l : Life) (grant other : LayoutGrant) → HasLife told.stories n l → WasGranted (client_history (start_of n l) l.inputs) grant → WasGranted (client_history (start_of n l) l.inputs) other → grant.stateid ≡ other.stateid
    → grant.uid.0 ≡ other.uid.0

-- ---- what a period that ends as returned stands on

-- a life sent a LAYOUTRETURN of its grant under this uid, behind these steps and before the end; the mirrors that are live at the end are the
-- grant's, and not reported
pub record WasReturnedBy {w : ClusterState} (told : IsToldByNodes w) (past : List Entry) (file : FileId) (uid : ℕ) : Type 0 where
  pub n : ℕ
  pub life : Life
  pub its : HasLife told.stories n life
  pub earlier : List (WeaveStep HistoryItem)
  pub later : List (WeaveStep HistoryItem)
  pub xid : ℕ
  pub name : List ℕ
  pub session : SessionId
  pub sequence : ℕ
  pub stateid : Stateid
  pub failed : List FailedMirror
  pub posted : Entry
  pub split : life.steps ≡ earlier ++ Seen (Sends (CallsMds xid name (OnSlot session sequence (slot.LayoutReturn file stateid failed)))) posted ∷ later
  pub since : List Entry
  pub before : past ≡ journal_at life earlier ++ posted ∷ since
  pub grant : LayoutGrant
  pub granted : WasGranted (items_in earlier) grant
  pub its_stateid : grant.stateid ≡ stateid
  pub its_uid : grant.uid.0 ≡ uid
  pub live : (ids : List MirrorId) → live_in past file ≡ Some ids → (id : MirrorId) → IsOneOf id ids → IsOneOf id (ids_of grant.mirrors) × (reports_server failed id.server ≡ false)

abbrev pub ReturnsAreSent : {w : ClusterState} → IsToldByNodes w → Type 0
ReturnsAreSent {w} told =
    (past behind : List Entry) (file : FileId) (uid : ℕ) → w.journal ≡ past ++ Ended file (record { 0 = uid }) Returned ∷ behind → WasReturnedBy told past file uid

-- ---- what a LAYOUTRETURN that was accepted stands on

-- where it kept a mirror, the period has ended clean
abbrev pub ReturnsHaveEnded : {w : ClusterState} → IsToldByNodes w → Type 0
ReturnsHaveEnded told =
    (n : ℕ) (l : Life) (earlier later : List (WeaveStep HistoryItem)) (grant : LayoutGrant) (at : ℕ) (bytes : List ℕ) → HasLife told.stories n l → l.steps ≡ earlier ++ later
    → WasGranted (items_in earlier) grant → (returned : CoveredByReturn (items_in earlier) grant at bytes) → HasUnreported grant returned.failed → HasEndedClean (journal_at l earlier) grant.uid.0

-- of a life, one request has a number of a session (RFC 8881, section 2.10.6.1)
abbrev pub IsOneRequestEach : {w : ClusterState} → IsToldByNodes w → Type 0
IsOneRequestEach told =
    (n : ℕ) (l : Life) → HasLife told.stories n l → (xid other : ℕ) (name names : List ℕ) (session asked : SessionId) (number : ℕ) (c d : SlotCallValue)
    → HasItem (items_in l.steps) (Sends (CallsMds xid name (OnSlot session number c))) → HasItem (items_in l.steps) (Sends (CallsMds other names (OnSlot asked number d))) → is_of_session session asked ≡ true
    → (session ≡ asked) × (c ≡ d)

-- ---- what it means that a data server refuses a call of a holder

-- the journal has entered that the period of this uid ended
abbrev pub HasPeriodEnded : List Entry → ℕ → Type 0
HasPeriodEnded journal uid = causes_of uid journal ≡ [] → ⊥

-- where a life heard that a call to a mirror of its layout was refused as one whose layout is no more, the period had ended (RFC 8435, section 2.2)
abbrev pub RefusalsAreEnds : {w : ClusterState} → IsToldByNodes w → Type 0
RefusalsAreEnds told =
    (n : ℕ) (l : Life) (earlier later : List (WeaveStep HistoryItem)) (grant : LayoutGrant) → HasLife told.stories n l → l.steps ≡ earlier ++ later → WasGranted (items_in earlier) grant → WasFenced (items_in earlier) grant
    → HasPeriodEnded (journal_at l earlier) grant.uid.0

-- what is asked for that: whenever a record came, the mirrors of each period that had not ended belonged to its uid
abbrev pub HoldersOwnAtDeliveries : List Entry → Type 0
HoldersOwnAtDeliveries journal = (past behind : List Entry) (number : ℕ) → journal ≡ past ++ Delivered number ∷ behind → DoHoldersOwn past

-- ---- what is asked of a world

-- each client starts fewer than 2^64 times, so its verifiers differ
abbrev pub StartsAreFew : {w : ClusterState} → IsToldByNodes w → Type 0
StartsAreFew told = (n : ℕ) (l : Life) (its : HasLife told.stories n l) → length its.story.older + 1 < 2 ^ 64

-- There are fewer than 2^32 clients, a file has at most four mirrors, records are of bytes and fileids have eight, the metadata server has room for
-- its numbers at each moment, and each client has verifiers left.
pub record IsWorldRoomy {w : ClusterState} (told : IsToldByNodes w) : Type 0 where
  pub few_clients : length w.machines.clients < 2 ^ 32
  pub few_mirrors : told.mds.mirrors ≤ 4
  pub range : IsJournalInRange w.journal
  pub mds : StaysRoomy told.mds.servers told.mds.mirrors told.mds.events
  pub starts : StartsAreFew told
