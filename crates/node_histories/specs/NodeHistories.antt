-- The world of a cluster, told by its nodes: its journal is woven of the histories of its clients and of its metadata server, and of what
-- its data servers answer; each entry has its origin.
use Rattle.std.specs.Prelude.{◌≡◌, ℕ, ◌+◌, Bool, true, false, List, [], ◌∷◌, ◌++◌, length, ◌≤◌, Some, ◌⊎◌}
use Rattle.std.specs.List.{AllByRecursion}
use Rattle.cluster_model.specs.declared.limits.TheConstants.{MAX_FILE, PIECE_SIZE}
use Rattle.cluster_model.specs.Event.{EventValue, Open, Write, Through, Fill, Read, Stray}
use Rattle.cluster_model.specs.declared.ids.NodeId.{NodeId}
use Rattle.cluster_model.specs.declared.ids.NodeId.TheVariants.{Mds, Server, Client}
use Rattle.cluster_model.specs.declared.entry.Entry.{Entry}
use Rattle.cluster_model.specs.declared.entry.Entry.TheVariants as entry
use Rattle.cluster_model.specs.Server.{ServerState}
use Rattle.cluster_model.specs.GuardLaws.{IsTold}
use Rattle.cluster_model.specs.Members.{IsOneOf}
use Rattle.ds_files.specs.Receive.{outcome_of}
use Rattle.proper_servers.specs.ProperServers.{IsProper}
use Rattle.device_addr.specs.Universal.{AddressValue}
use Rattle.mds_rule.specs.MdsStates.{MdsSend, MdsValue, new_mds}
use Rattle.mds_rule.specs.Spelled.{spelled_send}
use Rattle.mds_walk.specs.MdsRuns.{MdsEvent, MdsInput, Hears, IsTimedOut, Ticks, RecallsFile, Resilvers, mds_run}
use Rattle.mds_histories.specs.MdsHistory.{MdsItem, Comes, Enters, Sends, mds_history}
use Rattle.client_state.specs.declared.request.UserRequest.{UserRequest}
use Rattle.client_state.specs.declared.request.UserRequest.TheVariants as request
use Rattle.client_state.specs.ClientStates.{ClientValue}
use Rattle.client_state.specs.ClientSends.{ClientSend}
use Rattle.client_laws.specs.ClientHistory.{ClientInput, HistoryItem}
use Rattle.client_laws.specs.ClientHistory as client
use Rattle.world_rule.specs.Machines.{nth}
use Rattle.world_rule.specs.ClusterWorlds.{ClusterState, new_cluster, behind}
use Rattle.node_histories.specs.Weaves.{ItemShown, IsUnseen, IsArrival, IsEntry, IsSending, WeaveStep, Passes, Unseen, Seen, entries_in, items_in, AreWoven, HasPacket, StandsInWeave}
use Rattle.node_histories.specs.ClientLives.{Life, client_of, journal_of, AreLives}

-- ---- the metadata server

abbrev pub input_shown : MdsInput → ItemShown
input_shown (Hears from bytes) = IsArrival from bytes
input_shown (IsTimedOut to which) = IsUnseen
input_shown Ticks = IsUnseen
input_shown (RecallsFile file) = IsUnseen
input_shown (Resilvers file) = IsUnseen

abbrev pub mds_shown : MdsItem → ItemShown
mds_shown (Comes event) = input_shown event.input
mds_shown (Enters entry) = IsEntry entry
mds_shown (Sends send) = IsSending (spelled_send send).0 (spelled_send send).1

-- The entries of one event stand together in the journal: where the next item behind an entry is an entry too, so is the journal's next.
abbrev pub IsEntryNext : List (WeaveStep MdsItem) → Type 0
IsEntryNext steps = (y : Entry) (more : List MdsItem) → items_in steps ≡ Enters y ∷ more → (rest : List Entry) × (entries_in steps ≡ y ∷ rest)

abbrev pub AreTogether : List (WeaveStep MdsItem) → Type 0
AreTogether [] = Unit {0}
AreTogether (Passes e ∷ steps) = AreTogether steps
AreTogether (Unseen item ∷ steps) = AreTogether steps
AreTogether (Seen (Comes event) e ∷ steps) = AreTogether steps
AreTogether (Seen (Enters x) e ∷ steps) = IsEntryNext steps × AreTogether steps
AreTogether (Seen (Sends send) e ∷ steps) = AreTogether steps

-- what has come to it, and how its history goes on in the journal
pub record MdsStory : Type 0 where
  pub servers : List AddressValue
  pub mirrors : ℕ
  pub events : List MdsEvent
  pub steps : List (WeaveStep MdsItem)

pub record IsMdsStory (s : MdsStory) (m : MdsValue) (journal : List Entry) : Type 0 where
  pub mds : (mds_run s.servers s.mirrors s.events).mds ≡ m
  pub history : mds_history (new_mds s.servers s.mirrors) s.events ≡ items_in s.steps
  pub woven : AreWoven mds_shown Mds [] s.steps
  pub together : AreTogether s.steps
  pub told : entries_in s.steps ≡ journal

-- ---- the clients

pub record ClientStory : Type 0 where
  pub newest : Life
  pub older : List Life

pub record IsClientStory (n verifier : ℕ) (s : ClientStory) (c : ClientValue) (journal : List Entry) : Type 0 where
  pub lives : AreLives n s.newest s.older
  pub client : client_of n s.newest ≡ c
  pub verifier_is : s.newest.verifier ≡ verifier
  pub told : journal_of s.newest ≡ journal

-- of each client, by its number
abbrev pub AreClientStories : ℕ → List ClientStory → List ClientValue → List ℕ → List Entry → Type 0
AreClientStories n [] [] [] journal = Unit {0}
AreClientStories n (s ∷ stories) (c ∷ clients) (v ∷ verifiers) journal = IsClientStory n v s c journal × AreClientStories (n + 1) stories clients verifiers journal
AreClientStories n stories clients verifiers journal = ⊥

-- ---- the data servers

-- A packet of a data server is its answer to a packet that came to it in the same event, as it stood then; its numbers have room in their
-- fields, and the journal tells the truth of it.
pub record AnswersArrival (past : List Entry) (n : ℕ) (to : NodeId) (bytes : List ℕ) : Type 0 where
  pub before : List Entry
  pub number : ℕ
  pub asked : List ℕ
  pub came : HasPacket before number to (Server n) asked
  pub server : ServerState
  pub its_number : server.number ≡ n
  pub truth : IsTold server before
  pub proper : IsProper server
  pub reply : (outcome_of server asked).reply ≡ Some bytes
  pub split : past ≡ before ++ entry.Delivered number ∷ (outcome_of server asked).entries

-- ---- the origin of each entry

-- what a client enters
abbrev pub is_client_entry : Entry → Bool
is_client_entry (entry.Sent file cred at bytes) = true
is_client_entry (entry.Rogue file cred at bytes) = true
is_client_entry (entry.Told file cred at bytes) = true
is_client_entry (entry.TimedOut node xid) = true
is_client_entry (entry.Answer client answer) = true
is_client_entry e = false

-- what a metadata server enters
abbrev pub is_mds_entry : Entry → Bool
is_mds_entry (entry.TimedOut node xid) = true
is_mds_entry (entry.Granted file cred holder) = true
is_mds_entry (entry.Sent file cred at bytes) = true
is_mds_entry (entry.Told file cred at bytes) = true
is_mds_entry (entry.Ended file cred cause) = true
is_mds_entry (entry.Left file mirror cause) = true
is_mds_entry (entry.Swapped file old new) = true
is_mds_entry (entry.Fenced file old new live) = true
is_mds_entry (entry.Free file live) = true
is_mds_entry (entry.ReadAnswer file status bytes) = true
is_mds_entry (entry.Failed mirror xid) = true
is_mds_entry (entry.Later file phase) = true
is_mds_entry e = false

-- what a data server enters
abbrev pub is_server_entry : Entry → Bool
is_server_entry (entry.Applied mirror cred at bytes) = true
is_server_entry (entry.Committed mirror) = true
is_server_entry (entry.Owner mirror cred) = true
is_server_entry e = false

-- what the world itself enters
abbrev pub is_world_entry : Entry → Bool
is_world_entry (entry.Delivered number) = true
is_world_entry (entry.Hold from to) = true
is_world_entry (entry.Pass from to) = true
is_world_entry (entry.Tick seconds) = true
is_world_entry (entry.Turned client) = true
is_world_entry (entry.Rebooted client) = true
is_world_entry (entry.Restarted server pieces) = true
is_world_entry (entry.Audit file mirror length bytes) = true
is_world_entry e = false

-- one of the lives of client n
pub record HasLife (stories : List ClientStory) (n : ℕ) (l : Life) : Type 0 where
  pub story : ClientStory
  pub there : nth stories n ≡ Some story
  pub life : (l ≡ story.newest) ⊎ IsOneOf l story.older

pub data Origin (stories : List ClientStory) (mds : MdsStory) (past : List Entry) (e : Entry) : Type 0 where
  EnteredByClient : (n : ℕ) (l : Life) → HasLife stories n l → is_client_entry e ≡ true → StandsInWeave l.begun l.steps past (client.Enters e) e → Origin stories mds past e
  EnteredByMds : is_mds_entry e ≡ true → StandsInWeave [] mds.steps past (Enters e) e → Origin stories mds past e
  EnteredByServer : is_server_entry e ≡ true → Origin stories mds past e
  EnteredByWorld : is_world_entry e ≡ true → Origin stories mds past e
  SentByClient : (n number : ℕ) (to : NodeId) (bytes : List ℕ) (l : Life) (send : ClientSend) → e ≡ entry.Packet number (Client n) to bytes → HasLife stories n l
      → StandsInWeave l.begun l.steps past (client.Sends send) e → Origin stories mds past e
  SentByMds : (number : ℕ) (to : NodeId) (bytes : List ℕ) (send : MdsSend) → e ≡ entry.Packet number Mds to bytes → StandsInWeave [] mds.steps past (Sends send) e → Origin stories mds past e
  SentByServer : (n number : ℕ) (to : NodeId) (bytes : List ℕ) → e ≡ entry.Packet number (Server n) to bytes → AnswersArrival past n to bytes → Origin stories mds past e

-- ---- what users ask, in the ranges of a script

abbrev pub IsRequestOfScript : UserRequest → Type 0
IsRequestOfScript (request.Open name) = length name ≤ 255
IsRequestOfScript (request.Write at bytes) = (1 ≤ length bytes) × (length bytes ≤ PIECE_SIZE)
IsRequestOfScript (request.Through at bytes) = (1 ≤ length bytes) × (length bytes ≤ PIECE_SIZE)
IsRequestOfScript request.Commit = Unit {0}
IsRequestOfScript (request.Read at count) = (at ≤ MAX_FILE) × (count ≤ PIECE_SIZE)
IsRequestOfScript request.Return = Unit {0}

abbrev pub IsInputOfScript : ClientInput → Type 0
IsInputOfScript (client.Requested request) = IsRequestOfScript request
IsInputOfScript (client.Strayed place at bytes) = (at ≤ MAX_FILE) × (length bytes ≤ PIECE_SIZE)
IsInputOfScript input = Unit {0}

-- so all that came in a life
abbrev pub LivesOfScript : Life → List Life → Type 0
LivesOfScript l [] = AllByRecursion IsInputOfScript l.inputs
LivesOfScript l (old ∷ older) = AllByRecursion IsInputOfScript l.inputs × LivesOfScript old older

-- the events of a script
abbrev pub IsEventInRange : EventValue → Type 0
IsEventInRange (Open client name) = length name ≤ 255
IsEventInRange (Write client at bytes) = (1 ≤ length bytes) × (length bytes ≤ PIECE_SIZE)
IsEventInRange (Through client at bytes) = (1 ≤ length bytes) × (length bytes ≤ PIECE_SIZE)
IsEventInRange (Fill client at count byte) = (1 ≤ count) × (count ≤ PIECE_SIZE)
IsEventInRange (Read client at count) = (at ≤ MAX_FILE) × (count ≤ PIECE_SIZE)
IsEventInRange (Stray client place at bytes) = (at ≤ MAX_FILE) × (length bytes ≤ PIECE_SIZE)
IsEventInRange event = Unit {0}

-- ---- a world

-- packets have their numbers in order: those of a journal are the next behind one number, up to another
abbrev pub PacketsAreNumbered : ℕ → List Entry → ℕ → Type 0
PacketsAreNumbered last [] sent = last ≡ sent
PacketsAreNumbered last (entry.Packet number from to bytes ∷ journal) sent = (number ≡ last + 1) × PacketsAreNumbered (last + 1) journal sent
PacketsAreNumbered last (e ∷ journal) sent = PacketsAreNumbered last journal sent

pub record IsToldByNodes (w : ClusterState) : Type 0 where
  pub stories : List ClientStory
  pub clients : AreClientStories 1 stories w.machines.clients w.verifiers w.journal
  pub asked : AllByRecursion (λ (s : ClientStory). LivesOfScript s.newest s.older) stories
  pub mds : MdsStory
  pub mds_is : IsMdsStory mds w.machines.mds w.journal
  pub origins : (past behind : List Entry) (e : Entry) → w.journal ≡ past ++ e ∷ behind → Origin stories mds past e
  -- so what comes under a number is the packet of that number
  pub numbers : PacketsAreNumbered 0 w.journal w.sent
  -- the metadata server sends itself nothing
  pub apart : (past behind : List Entry) (number : ℕ) (bytes : List ℕ) → w.journal ≡ past ++ entry.Packet number Mds Mds bytes ∷ behind → ⊥

-- what the journal says of each mirror's bytes, pending writes and owner is so at its data server, whose numbers have room in their fields
abbrev pub TellsTruth : ClusterState → Type 0
TellsTruth w = (n : ℕ) (s : ServerState) → nth w.machines.servers n ≡ Some s → (s.number ≡ n) × IsTold s w.journal × IsProper s

-- a new world, and each event
abbrev pub NewIsToldByNodes : Type 0
NewIsToldByNodes = (servers mirrors clients : ℕ) → IsToldByNodes (new_cluster servers mirrors clients)

abbrev pub StaysToldByNodes : Type 0
StaysToldByNodes = (w : ClusterState) (event : EventValue) → IsToldByNodes w → TellsTruth w → IsEventInRange event → IsToldByNodes (behind event w)
