-- What holds at every moment of a run: of the data servers, of each packet that was ever sent, of each file of the metadata server, and of
-- the journal so far.
use Rattle.std.proofs.Common.{◌≡◌, ℕ, ◌+◌, ◌<◌, ◌≤◌, ◌⊎◌, Bool, true, false, ◌&&◌, ◌==◌, not, List, [], ◌∷◌, ◌++◌, length, map, filter, Option, Some, None}
use Rattle.std.specs.Prelude.{slice_get}
use Rattle.std.specs.List.{AllByRecursion, list_any}
use Rattle.cluster_model.specs.declared.tick.Tick.{Tick}
use Rattle.cluster_model.specs.declared.ids.NodeId.{NodeId}
use Rattle.cluster_model.specs.declared.ids.NodeId.TheVariants.{Mds, Server, Client}
use Rattle.cluster_model.specs.declared.ids.Cred.{Cred}
use Rattle.cluster_model.specs.declared.ids.MirrorId.{MirrorId}
use Rattle.cluster_model.specs.declared.ids.Mirror.{Mirror}
use Rattle.cluster_model.specs.declared.entry.Entry.{Entry}
use Rattle.cluster_model.specs.declared.entry.Entry.TheVariants as entry
use Rattle.cluster_model.specs.declared.ds_call.Shown.{Shown}
use Rattle.cluster_model.specs.declared.call_stage.CallStage.{CallStage}
use Rattle.cluster_model.specs.declared.call_stage.CallStage.TheVariants.{Waits, Out, KeptOut, KeptBack, Done, GivenUp}
use Rattle.cluster_model.specs.declared.fence_mirror.FenceMirror.{FenceMirror}
use Rattle.cluster_model.specs.declared.layout_state.LayoutState.{LayoutState}
use Rattle.cluster_model.specs.declared.layout_state.LayoutPhase.{LayoutPhase}
use Rattle.cluster_model.specs.declared.layout_state.LayoutPhase.TheVariants.{Making, Free, Held, Fencing, Settling, Copying}
use Rattle.cluster_model.specs.declared.layout_state.FenceEnd.{FenceEnd}
use Rattle.cluster_model.specs.declared.layout_state.CopyKind.{CopyKind}
use Rattle.cluster_model.specs.declared.limits.TheConstants.{MAX_FILE, PIECE_SIZE}
use Rattle.cluster_model.specs.File.{StoredFile}
use Rattle.cluster_model.specs.Journal.{content_of}
use Rattle.cluster_model.specs.Mirrors.{has_server, are_on_different_servers}
use Rattle.cluster_model.specs.Server.{ServerState}
use Rattle.cluster_model.specs.DsCalls.{DsCallValue, Create, SetAttr, Write, Commit, Read, DsReplyValue, Created, Set, Written, Committed, Bytes, NotSync, Failed, mirror_name}
use Rattle.cluster_model.specs.GuardLaws.{IsInOrder, target, IsTold}
use Rattle.cluster_model.specs.Fences.{FenceState, is_out}
use Rattle.cluster_model.specs.Phases.{ids_of, is_source}
use Rattle.copy_rule.specs.Copies.{CopyState, is_given_up, target_call}
use Rattle.copy_rule.specs.declared.copy_target.CopyTarget.{CopyTarget}
use Rattle.file_rule.specs.MdsFiles.{Creations, Activity, Idle, Makes, Fences, Settles, Copies, MdsFile}
use Rattle.file_rule.specs.declared.creation.Creation.{Creation}
use Rattle.cluster_laws.specs.Machine.{PacketValue, Call, Reply, Machine, numbered_at, file_id}
use Rattle.cluster_laws.specs.FenceLaw.{live_in, is_among}
use Rattle.cluster_laws.proofs.Facts.{Bears, OwnedFrom, HasGiven, AskedAt}
use Rattle.cluster_laws.proofs.FewTicks.{HasFewTicks}

-- ---- what was drawn: the file that each name number and its uid were drawn for, and the highest uid that was drawn for each file

pub record Drawn : Type 0 where
  pub home : ℕ → ℕ
  pub low : ℕ → ℕ
  pub top : ℕ → ℕ

-- ---- packets

-- each call of the metadata server of this number is this one
abbrev pub IsThisCall : ℕ → ℕ → DsCallValue → PacketValue → Type 0
IsThisCall xid server call (Call Mds to number uid gid asked) = number ≡ xid → (to ≡ server) × (asked ≡ call)
IsThisCall xid server call (Call (Server n) to number uid gid asked) = Unit {0}
IsThisCall xid server call (Call (Client n) to number uid gid asked) = Unit {0}
IsThisCall xid server call (Reply place from to number reply) = Unit {0}

abbrev pub AreThisCall : List PacketValue → ℕ → ℕ → DsCallValue → Type 0
AreThisCall packets xid server call = AllByRecursion (IsThisCall xid server call) packets

-- a call is such as is ever made: a CREATE under the uid that its name was drawn with, a SETATTR up to the highest uid of the file
abbrev pub at_server : ℕ → ℕ → MirrorId
at_server n fileid = record { server = n; fileid = fileid }

pub record IsAskedFor (d : Drawn) (servers : List ServerState) (next_name n fileid uid : ℕ) (guard : Tick) : Type 0 where
  pub asked : AskedAt servers n fileid uid guard
  pub name : ℕ
  pub drawn : name < next_name
  pub bears : Bears servers (at_server n fileid) name
  pub up : uid ≤ d.top (d.home name)

abbrev pub IsCallOf : Drawn → List ServerState → ℕ → ℕ → DsCallValue → Type 0
IsCallOf d servers next_name n (Create name owner) = (name < next_name) × (owner ≡ d.low name)
IsCallOf d servers next_name n (SetAttr fileid uid guard) = IsAskedFor d servers next_name n fileid uid guard
IsCallOf d servers next_name n (Write fileid at synced bytes) = Unit {0}
IsCallOf d servers next_name n (Commit fileid) = Unit {0}
IsCallOf d servers next_name n (Read fileid at count) = Unit {0}

-- what a reply shows is so from then on
abbrev pub IsGiven : List ServerState → ℕ → Option Shown → Type 0
IsGiven servers n None = Unit {0}
IsGiven servers n (Some shown) = HasGiven servers n shown.seen

pub record IsCreated (servers : List ServerState) (n : ℕ) (call : DsCallValue) (fileid : ℕ) (shown : Shown) : Type 0 where
  pub name : ℕ
  pub owner : ℕ
  pub asked : call ≡ Create name owner
  pub bears : Bears servers (at_server n fileid) name
  pub given : HasGiven servers n shown.seen

pub record IsSet (servers : List ServerState) (n : ℕ) (call : DsCallValue) : Type 0 where
  pub fileid : ℕ
  pub uid : ℕ
  pub guard : Tick
  pub asked : call ≡ SetAttr fileid uid guard
  pub owned : OwnedFrom servers (at_server n fileid) uid

abbrev pub IsReplyTo : List ServerState → ℕ → DsCallValue → DsReplyValue → Type 0
IsReplyTo servers n call (Created fileid shown) = IsCreated servers n call fileid shown
IsReplyTo servers n call (Set shown) = IsSet servers n call × IsGiven servers n shown
IsReplyTo servers n call (Written shown verifier) = IsGiven servers n shown
IsReplyTo servers n call (Committed shown verifier) = IsGiven servers n shown
IsReplyTo servers n call (Bytes shown eof bytes) = IsGiven servers n shown
IsReplyTo servers n call (NotSync shown) = OwnedFrom servers (at_server n (target call)) shown.owner.0 × HasGiven servers n shown.seen
IsReplyTo servers n call (Failed status shown) = IsGiven servers n shown

-- the metadata server's numbers that were used
abbrev pub IsUsed : ℕ → NodeId → ℕ → Type 0
IsUsed last_xid Mds xid = xid ≤ last_xid
IsUsed last_xid (Server n) xid = Unit {0}
IsUsed last_xid (Client n) xid = Unit {0}

pub record HasCall (packets : List PacketValue) (from : NodeId) (server xid : ℕ) (call : DsCallValue) : Type 0 where
  pub place : ℕ
  pub uid : ℕ
  pub gid : ℕ
  pub there : slice_get packets place ≡ Some (Call from server xid uid gid call)

pub record IsAnswer (packets : List PacketValue) (servers : List ServerState) (n : ℕ) (to : NodeId) (xid : ℕ) (reply : DsReplyValue) : Type 0 where
  pub call : DsCallValue
  pub sent : HasCall packets to n xid call
  pub shows : IsReplyTo servers n call reply

-- to the call at this place
pub record IsReplyPacket (packets : List PacketValue) (servers : List ServerState) (place n : ℕ) (to : NodeId) (xid : ℕ) (reply : DsReplyValue) : Type 0 where
  pub answer : IsAnswer packets servers n to xid reply
  pub at : answer.sent.place ≡ place

-- the network: the data servers, the packets, and what was drawn and numbered
pub record Net : Type 0 where
  pub servers : List ServerState
  pub packets : List PacketValue
  pub last_xid : ℕ
  pub next_name : ℕ
  pub drawn : Drawn

abbrev pub IsPacket : Net → PacketValue → Type 0
IsPacket net (Call from server xid uid gid call) = IsUsed net.last_xid from xid × IsCallOf net.drawn net.servers net.next_name server call
IsPacket net (Reply place server to xid reply) = IsReplyPacket net.packets net.servers place server to xid reply

-- ---- entries

-- what an entry of a fence says, if it is one; and the file that an entry frees
pub record FenceNote : Type 0 where
  pub file : ℕ
  pub old : ℕ
  pub new : ℕ
  pub live : List MirrorId

abbrev pub fence_in : Entry → Option FenceNote
fence_in (entry.Fenced file old new live) = Some (record { file = file.0; old = old.0; new = new.0; live = live })
fence_in _ = None

abbrev pub freed_in : Entry → Option ℕ
freed_in (entry.Free file live) = Some file.0
freed_in _ = None

abbrev pub If : {A : Type 0} → Option A → (A → Type 0) → Type 0
If None P = Unit {0}
If (Some x) P = P x

-- An entry of a fence tells of an earlier uid and a later one, of a file that is there; only files that are there are freed.
pub record IsFenceNote (files next_uid : ℕ) (x : FenceNote) : Type 0 where
  pub some : 0 < x.file
  pub there : x.file ≤ files
  pub first : 0 < x.old
  pub later : x.old < x.new
  pub drawn : x.new < next_uid

pub record IsEntry (files next_uid : ℕ) (e : Entry) : Type 0 where
  pub fence : If (fence_in e) (IsFenceNote files next_uid)
  pub freed : If (freed_in e) (λ n. n ≤ files)

-- a mirror of a file belongs to the uid of each of its fences, or to a later one
abbrev pub KeepsOwner : List ServerState → ℕ → MirrorId → Entry → Type 0
KeepsOwner servers n id e = If (fence_in e) (λ x. x.file ≡ n → OwnedFrom servers id x.new)

-- the fences of a file are of uids up to this one
abbrev pub IsFencedTo : ℕ → ℕ → Entry → Type 0
IsFencedTo n uid e = If (fence_in e) (λ x. x.file ≡ n → x.new ≤ uid)

-- ---- files

pub record IsMirrorOf (net : Net) (n : ℕ) (journal : List Entry) (m : Mirror) : Type 0 where
  pub name : ℕ
  pub drawn : name < net.next_name
  pub bears : Bears net.servers m.id name
  pub home : net.drawn.home name ≡ n
  pub seen : HasGiven net.servers m.id.server m.seen
  pub owned : AllByRecursion (KeepsOwner net.servers n m.id) journal

pub record IsCreationOf (net : Net) (n owner : ℕ) (c : Creation) : Type 0 where
  pub drawn : c.name < net.next_name
  pub home : net.drawn.home c.name ≡ n
  pub low : net.drawn.low c.name ≡ owner
  pub out : (xid : ℕ) → is_out xid c.stage ≡ true → (xid ≤ net.last_xid) × AreThisCall net.packets xid c.server (Create c.name owner)
  pub made : (m : Mirror) → c.made ≡ Some m → (m.id.server ≡ c.server) × Bears net.servers m.id c.name × HasGiven net.servers m.id.server m.seen

-- a target of a copy under this uid, which has this piece in hand
pub record IsTargetOf (net : Net) (n copier at : ℕ) (piece : List ℕ) (t : CopyTarget) : Type 0 where
  pub drawn : t.name < net.next_name
  pub home : net.drawn.home t.name ≡ n
  pub low : net.drawn.low t.name ≡ copier
  pub out : (xid : ℕ) → is_out xid t.stage ≡ true → (xid ≤ net.last_xid) × AreThisCall net.packets xid t.server (target_call copier at piece t.name t.made)
  pub made : (m : Mirror) → t.made ≡ Some m → (m.id.server ≡ t.server) × Bears net.servers m.id t.name × HasGiven net.servers m.id.server m.seen

-- the call to a mirror that is outstanding
pub record IsFenceCall (net : Net) (fresh xid : ℕ) (id : MirrorId) : Type 0 where
  pub used : xid ≤ net.last_xid
  pub guard : Tick
  pub calls : AreThisCall net.packets xid id.server (SetAttr id.fileid fresh guard)

abbrev pub is_answered : CallStage → Bool
is_answered Waits = false
is_answered (Out xid timeouts) = false
is_answered (KeptOut xid) = false
is_answered KeptBack = false
is_answered Done = true
is_answered GivenUp = false

pub record IsInFence (net : Net) (n fresh : ℕ) (m : FenceMirror) : Type 0 where
  pub name : ℕ
  pub drawn : name < net.next_name
  pub bears : Bears net.servers m.id name
  pub home : net.drawn.home name ≡ n
  pub seen : HasGiven net.servers m.id.server m.seen
  pub out : (xid : ℕ) → is_out xid m.stage ≡ true → IsFenceCall net fresh xid m.id
  pub done : is_answered m.stage ≡ true → OwnedFrom net.servers m.id fresh

abbrev pub servers_of : List Creation → List ℕ
servers_of items = map (λ c. c.server) items

abbrev pub are_apart : List ℕ → Bool
are_apart [] = true
are_apart (n ∷ servers) = not (list_any (λ k. k == n) servers) && are_apart servers

-- where a target of a copy is to be, and which mirror it is to replace
pub record Site : Type 0 where
  pub server : ℕ
  pub replaced : Option MirrorId

abbrev pub site_of : CopyTarget → Site
site_of t = record { server = t.server; replaced = t.replaced }

-- in the place of a mirror of its server, or on a server without a live mirror
abbrev pub FitsIn : List Mirror → ℕ → Option MirrorId → Type 0
FitsIn live server None = has_server live server ≡ false
FitsIn live server (Some id) = id.server ≡ server

abbrev pub site_servers : List Site → List ℕ
site_servers sites = map (λ x. x.server) sites

pub record IsPlan (live : List Mirror) (sites : List Site) : Type 0 where
  pub fits : AllByRecursion (λ x. FitsIn live x.server x.replaced) sites
  pub apart : are_apart (site_servers sites) ≡ true

-- the mirrors that a fence has not given up
abbrev pub kept_ids : List FenceMirror → List MirrorId
kept_ids mirrors = map (λ m. m.id) (filter (λ m. not (is_given_up m.stage)) mirrors)

pub record IsMaking (net : Net) (journal : List Entry) (n : ℕ) (s : LayoutState) (all : Creations) : Type 0 where
  pub phase : s.phase ≡ Making
  pub owner : all.owner ≡ s.cred.0
  pub least : net.drawn.top n ≡ all.owner
  pub items : AllByRecursion (IsCreationOf net n all.owner) all.items
  pub apart : are_apart (servers_of all.items) ≡ true
  pub fences : AllByRecursion (IsFencedTo n 0) journal

pub record IsFencing (net : Net) (n : ℕ) (s : LayoutState) (fence : FenceState) : Type 0 where
  pub next : Cred
  pub end : FenceEnd
  pub phase : s.phase ≡ Fencing next end
  pub fresh : next.0 ≡ fence.cred
  pub top : net.drawn.top n ≡ fence.cred
  pub later : s.cred.0 < fence.cred
  pub mirrors : AllByRecursion (IsInFence net n fence.cred) fence.mirrors
  pub ids : ids_of s.live ≡ kept_ids fence.mirrors

-- the mirror that a target is to replace is not the source
abbrev pub IsNotSource : List Mirror → Option MirrorId → Type 0
IsNotSource live None = Unit {0}
IsNotSource live (Some id) = is_source id live ≡ false

-- the file from which a copy is made has a name, where there is one
abbrev pub IsNamedSource : List ServerState → MirrorId → Type 0
IsNamedSource servers id = (id.fileid ≡ 0) ⊎ ((name : ℕ) × Bears servers id name)

-- a piece of a copy is not too long, and ends within the longest file
pub record IsShort (at : ℕ) (piece : List ℕ) : Type 0 where
  pub size : length piece ≤ PIECE_SIZE
  pub end : at + length piece ≤ MAX_FILE

pub record IsCopying (net : Net) (journal : List Entry) (n : ℕ) (s : LayoutState) (c : CopyState) : Type 0 where
  pub copier : Cred
  pub copies : CopyKind
  pub phase : s.phase ≡ Copying copier copies
  pub targets : AllByRecursion (IsTargetOf net n c.copier c.at c.piece) c.targets
  pub later : s.cred.0 < c.copier
  pub top : c.copier ≤ net.drawn.top n
  pub fences : AllByRecursion (IsFencedTo n c.copier) journal
  pub sources : AllByRecursion (λ t. IsNotSource s.live t.replaced) c.targets
  pub plan : IsPlan s.live (map site_of c.targets)
  pub source : IsNamedSource net.servers c.source
  pub short : IsShort c.at c.piece

pub record IsSettling (s : LayoutState) : Type 0 where
  pub copies : CopyKind
  pub phase : s.phase ≡ Settling copies

-- nobody has calls under way for it
abbrev pub is_idle : LayoutPhase → Bool
is_idle Making = false
is_idle Free = true
is_idle (Held holder is_recalled) = true
is_idle (Fencing next end) = false
is_idle (Settling copies) = false
is_idle (Copying copier copies) = false

abbrev pub IsBusyWith : Net → List Entry → ℕ → LayoutState → Activity → Type 0
IsBusyWith net journal n s Idle = is_idle s.phase ≡ true
IsBusyWith net journal n s (Makes all) = IsMaking net journal n s all
IsBusyWith net journal n s (Fences fence) = IsFencing net n s fence
IsBusyWith net journal n s (Settles stage) = IsSettling s
IsBusyWith net journal n s (Copies c) = IsCopying net journal n s c

-- the live list, once the file was free
abbrev pub live_of : LayoutPhase → List MirrorId → Option (List MirrorId)
live_of Making live = None
live_of Free live = Some live
live_of (Held holder is_recalled) live = Some live
live_of (Fencing next end) live = Some live
live_of (Settling copies) live = Some live
live_of (Copying copier copies) live = Some live

pub record IsFile (net : Net) (journal : List Entry) (n : ℕ) (f : MdsFile) : Type 0 where
  pub live : live_in journal (file_id n) ≡ live_of f.layout.phase (ids_of f.layout.live)
  pub apart : are_on_different_servers f.layout.live ≡ true
  pub mirrors : AllByRecursion (IsMirrorOf net n journal) f.layout.live
  pub cred : 0 < f.layout.cred.0
  pub top : f.layout.cred.0 ≤ net.drawn.top n
  pub busy : IsBusyWith net journal n f.layout f.activity

-- ---- data servers

pub record IsServer (net : Net) (journal : List Entry) (n : ℕ) (s : ServerState) : Type 0 where
  pub number : s.number ≡ n
  pub in_order : IsInOrder s
  pub names : (index : ℕ) (name : List ℕ) → slice_get s.names index ≡ Some name → (k : ℕ) × (name ≡ mirror_name k) × (k < net.next_name)
  pub owners : (index : ℕ) (file : StoredFile) (k : ℕ) → slice_get s.files index ≡ Some file → slice_get s.names index ≡ Some (mirror_name k) → k < net.next_name
      → (net.drawn.low k ≤ file.owner) × (file.owner ≤ net.drawn.top (net.drawn.home k))
  pub told : IsTold s journal
  pub ticks : HasFewTicks s

-- ---- the journal

-- no fence of a user has this mirror live in the journal so far
abbrev pub IsNotShutOut : List Entry → MirrorId → Cred → Entry → Type 0
IsNotShutOut journal m cred e = If (fence_in e) (λ x. x.old ≡ cred.0 → is_among m (live_in journal (file_id x.file)) ≡ false)

-- an entry is right behind those before it
abbrev pub IsRight : List Entry → Entry → Type 0
IsRight before (entry.Fenced file old new live) = (live_in before file ≡ Some live) × AllByRecursion (λ m. (content_of before m).owner ≡ new.0) live
IsRight before (entry.Applied mirror cred at bytes) = AllByRecursion (IsNotShutOut before mirror cred) before
IsRight before _ = Unit {0}

abbrev pub AreRight : List Entry → List Entry → Type 0
AreRight before [] = Unit {0}
AreRight before (e ∷ entries) = IsRight before e × AreRight (before ++ e ∷ []) entries

-- ---- all together

abbrev pub net_of : Machine → Drawn → Net
net_of m d = record { servers = m.servers; packets = m.packets; last_xid = m.last_xid Mds; next_name = m.next_name; drawn = d }

pub record Holds (m : Machine) (journal : List Entry) (d : Drawn) : Type 0 where
  pub servers : (n : ℕ) (s : ServerState) → numbered_at m.servers n ≡ Some s → IsServer (net_of m d) journal n s
  pub packets : AllByRecursion (IsPacket (net_of m d)) m.packets
  pub files : (n : ℕ) (f : MdsFile) → numbered_at m.files n ≡ Some f → IsFile (net_of m d) journal n f
  pub tops : (n : ℕ) → d.top n < m.next_uid
  pub lows : (k : ℕ) → k < m.next_name → d.low k ≤ d.top (d.home k)
  pub few_names : m.next_name ≤ 18446744073709551616
  pub entries : AllByRecursion (IsEntry (length m.files) m.next_uid) journal
  pub right : AreRight [] journal
