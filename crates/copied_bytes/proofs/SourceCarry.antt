-- What is known of a file's source goes on where the file takes no step.
use Rattle.std.proofs.Common.{◌≡◌, ℕ, ◌+◌, ◌<◌, ◌≤◌, Bool, true, false, List, [], ◌∷◌, length, Some, refl, sym, ap, subst, ◌∙◌, arith}
use Rattle.std.specs.Prelude.{slice_get}
use Rattle.std.specs.List.{AllByRecursion}
use Rattle.std.proofs.lemmas.Option.{slice_get_within}
use Rattle.cluster_model.specs.declared.ids.MirrorId.{MirrorId}
use Rattle.cluster_model.specs.declared.ids.Mirror.{Mirror}
use Rattle.cluster_model.specs.declared.entry.Entry.{Entry}
use Rattle.cluster_model.specs.declared.ids.NodeId.TheVariants.{Mds}
use Rattle.cluster_model.specs.declared.call_stage.CallStage.{CallStage}
use Rattle.copy_rule.specs.Copies.{CopyState}
use Rattle.cluster_model.specs.declared.layout_state.LayoutState.{LayoutState}
use Rattle.cluster_model.specs.declared.limits.TheConstants.{PIECE_SIZE}
use Rattle.cluster_model.specs.File.{StoredFile}
use Rattle.cluster_model.specs.Journal.{Copy, content_of}
use Rattle.cluster_model.specs.Server.{ServerState, mirror_of}
use Rattle.cluster_model.specs.DsCalls.{DsCallValue, Create, SetAttr, Write, Commit, Read, mirror_name}
use Rattle.cluster_model.specs.Phases.{ids_of}
use Rattle.file_rule.specs.MdsFiles.{Activity, Idle, Makes, Fences, Settles, Copies, MdsFile}
use Rattle.cluster_laws.specs.Machine.{PacketValue, Call, Reply, Machine, numbered_at}
use Rattle.cluster_laws.proofs.Facts.{Bears, OwnedFrom}
use Rattle.cluster_laws.proofs.Lists.{at_place}
use Rattle.cluster_laws.proofs.Invariant.{at_server, IsMirrorOf, IsFile, net_of, Holds}
use Rattle.cluster_laws.proofs.KnownNow.{id_by}
use Rattle.cluster_laws.proofs.PeriodStates.{IsMine}
use Rattle.machine_walk.proofs.Stories.{Story}
use Rattle.machine_walk.proofs.Writers.{IsPlainUid, HasUids}
use Rattle.copied_bytes.proofs.Wholes.{IsWhole}
use Rattle.copied_bytes.proofs.Slices.{IsSlice}
use Rattle.copied_bytes.proofs.CallsKept.{IsOutSo}
use Rattle.copied_bytes.proofs.Sources.{owner_of, IsShut, AreShut, is_shut_phase, shut_in, shut_by, IsCommitReply, IsReadReply, SettlesSo, CopiesSo, IsBusySo, KeepsFile, IsShutNow, shut_now, GoesOnAt, GoesOnWith, unused_from, all_shut_on}

-- ---- the whole machine

-- a SETATTR names a uid of the file that its mirror is of, and no copy's
pub record SetsOwner (t : Story) (uid names : ℕ) (servers : List ServerState) (n fileid owner : ℕ) : Type 0 where
  pub name : ℕ
  pub drawn : name < names
  pub bears : Bears servers (at_server n fileid) name
  pub plain : IsPlainUid t uid (t.drawn.home name) owner

abbrev pub IsSetCall : Story → ℕ → ℕ → List ServerState → ℕ → DsCallValue → Type 0
IsSetCall t uid names servers n (Create name owner) = Unit {0}
IsSetCall t uid names servers n (SetAttr fileid owner guard) = SetsOwner t uid names servers n fileid owner
IsSetCall t uid names servers n (Write fileid at synced bytes) = Unit {0}
IsSetCall t uid names servers n (Commit fileid) = Unit {0}
IsSetCall t uid names servers n (Read fileid at count) = Unit {0}

abbrev pub IsSetPacket : Story → ℕ → ℕ → List ServerState → PacketValue → Type 0
IsSetPacket t uid names servers (Call from n xid user gid call) = IsSetCall t uid names servers n call
IsSetPacket t uid names servers (Reply place n to xid reply) = Unit {0}

abbrev pub AreOwnersMine : Story → ℕ → ℕ → List ServerState → Type 0
AreOwnersMine t uid names servers =
    (n : ℕ) (s : ServerState) (index : ℕ) (file : StoredFile) (k : ℕ) → numbered_at servers n ≡ Some s → slice_get s.files index ≡ Some file → slice_get s.names index ≡ Some (mirror_name k) → k < names
    → IsMine t.whose uid (t.drawn.home k) file.owner

pub record KnowsSources (t : Story) (m : Machine) (journal : List Entry) : Type 0 where
  pub lows : (k : ℕ) → k < m.next_name → IsMine t.whose m.next_uid (t.drawn.home k) (t.drawn.low k)
  pub owners : AreOwnersMine t m.next_uid m.next_name m.servers
  pub known : (u : ℕ) → u < m.next_uid → t.whose u ≤ length m.files
  pub packets : AllByRecursion (IsSetPacket t m.next_uid m.next_name m.servers) m.packets
  pub files : (n : ℕ) (f : MdsFile) → numbered_at m.files n ≡ Some f → KeepsFile t m.next_uid m.packets (m.last_xid Mds) journal n f.layout f.activity

-- ---- whom a mirror belongs to

pub record IsOwnedAt (t : Story) (m : Machine) (journal : List Entry) (n : ℕ) (id : MirrorId) : Type 0 where
  pub mine : IsMine t.whose m.next_uid n (owner_of journal id)
  pub owned : OwnedFrom m.servers id (owner_of journal id)

module _ (t : Story) (m : Machine) (journal : List Entry) (h : Holds m journal t.drawn) (owners : AreOwnersMine t m.next_uid m.next_name m.servers) where
  pub owned_at : (id : MirrorId) (name n : ℕ) → Bears m.servers id name → name < m.next_name → t.drawn.home name ≡ n → IsOwnedAt t m journal n id
  owned_at id name n bears less home =
      let s : ServerState = bears.server in
      let o = h.servers id.server s bears.there in
      let within = slice_get_within s.names bears.index (mirror_name name) bears.named in
      let size = o.in_order.names in
      let file = at_place s.files bears.index (omega (arith, within, size)) in
      let is : id ≡ mirror_of s bears.index = id_by id s.number (bears.index + 2) (sym o.number) bears.place in
      let owner : owner_of journal id ≡ file.0.owner = ap (owner_of journal) is ∙ sym (ap (λ (c : Copy). c.owner) (o.told.each bears.index file.0 file.1)) in
      record {
        mine = subst (λ (u : ℕ). IsMine t.whose m.next_uid n u) (sym owner) (subst (λ (j : ℕ). IsMine t.whose m.next_uid j file.0.owner) home (owners id.server s bears.index file.0 name bears.there file.1 bears.named less));
        owned = record { server = s; there = bears.there; index = bears.index; place = bears.place; file = file.0; is = file.1; up = omega (arith, owner) };
      }

  ids_owned : (n : ℕ) (live : List Mirror) → AllByRecursion (IsMirrorOf (net_of m t.drawn) n journal) live → AllByRecursion (IsOwnedAt t m journal n) (ids_of live)
  ids_owned n [] k = tt
  ids_owned n (x ∷ live) k = (owned_at x.id k.0.name n k.0.bears k.0.drawn k.0.home, ids_owned n live k.1)

  pub file_owned : (n : ℕ) (f : MdsFile) → numbered_at m.files n ≡ Some f → AllByRecursion (IsOwnedAt t m journal n) (ids_of f.layout.live)
  file_owned n f there = ids_owned n f.layout.live (h.files n f there).mirrors

-- ---- a file that settles or copies is shut

abbrev pub has_source : Activity → Bool
has_source Idle = false
has_source (Makes all) = false
has_source (Fences fence) = false
has_source (Settles stage) = true
has_source (Copies c) = true

abbrev pub is_making : Activity → Bool
is_making Idle = false
is_making (Makes all) = true
is_making (Fences fence) = false
is_making (Settles stage) = false
is_making (Copies c) = false

source_phase : (t : Story) (m : Machine) (journal : List Entry) (n : ℕ) (s : LayoutState) (a : Activity) → IsFile (net_of m t.drawn) journal n (record { layout = s; activity = a }) → has_source a ≡ true → is_shut_phase s.phase ≡ true
source_phase t m journal n s Idle h e = absurd cc
source_phase t m journal n s (Makes all) h e = absurd cc
source_phase t m journal n s (Fences fence) h e = absurd cc
source_phase t m journal n s (Settles stage) h e = ap is_shut_phase h.busy.phase
source_phase t m journal n s (Copies c) h e = ap is_shut_phase h.busy.phase

nows : (t : Story) (m : Machine) (journal : List Entry) (n : ℕ) (ids : List MirrorId) → AllByRecursion (IsOwnedAt t m journal n) ids → AllByRecursion (IsShut t m.next_uid journal n) ids → AllByRecursion (IsShutNow t journal) ids
nows t m journal n [] h k = tt
nows t m journal n (id ∷ ids) h k = (shut_now t m.next_uid journal n id h.0.mine k.0, nows t m journal n ids h.1 k.1)

pub file_nows : (t : Story) (m : Machine) (journal : List Entry) (n : ℕ) (f : MdsFile) → IsFile (net_of m t.drawn) journal n f → AllByRecursion (IsOwnedAt t m journal n) (ids_of f.layout.live) → AreShut t m.next_uid journal n f.layout.phase (ids_of f.layout.live) → has_source f.activity ≡ true
    → AllByRecursion (IsShutNow t journal) (ids_of f.layout.live)
file_nows t m journal n f h owned shut e = nows t m journal n (ids_of f.layout.live) owned (shut_in t m.next_uid journal n f.layout.phase (ids_of f.layout.live) (source_phase t m journal n f.layout f.activity h e) shut)

-- ---- one file

module _ (t : Story) (uid : ℕ) (then : Story) (more n : ℕ) (journal later : List Entry) (on : GoesOnWith t uid then more n journal later) (packets behind : List PacketValue) (last next : ℕ)
    (commits : (xid : ℕ) (id : MirrorId) → GoesOnAt t then journal later id → IsShutNow t journal id → IsOutSo packets last xid id.server (Commit id.fileid) (IsCommitReply journal id) → IsOutSo behind next xid id.server (Commit id.fileid) (IsCommitReply later id))
    (reads : (xid : ℕ) (id : MirrorId) (bytes : List ℕ) (pos : ℕ) → pos ≤ length bytes → IsWhole bytes (content_of journal id).content → IsOutSo packets last xid id.server (Read id.fileid pos PIECE_SIZE) (IsReadReply bytes pos)
    → IsOutSo behind next xid id.server (Read id.fileid pos PIECE_SIZE) (IsReadReply bytes pos))
    (copied : (u : ℕ) (bytes : List ℕ) → u < uid → t.copied u ≡ Some bytes → then.copied u ≡ Some bytes) where
  settles_on : (stage : CallStage) (ids : List MirrorId) → AllByRecursion (GoesOnAt t then journal later) ids → AllByRecursion (IsShutNow t journal) ids → SettlesSo packets last journal stage ids → SettlesSo behind next later stage ids
  settles_on stage [] at now h = tt
  settles_on stage (id ∷ ids) at now h = λ xid e. commits xid id at.0 now.0 (h xid e)

  slice_up : (bytes : List ℕ) (pos : ℕ) (piece : List ℕ) → IsSlice bytes pos piece → pos ≤ length bytes
  slice_up bytes pos piece h = let within = h.within in omega (arith, within)

  copies_on : (c : CopyState) (ids : List MirrorId) → c.copier < uid → AllByRecursion (GoesOnAt t then journal later) ids → AllByRecursion (IsShutNow t journal) ids → CopiesSo t packets last journal c ids → CopiesSo then behind next later c ids
  copies_on c [] less at now h = h
  copies_on c (id ∷ ids) less at now h = record {
    from = h.from;
    bytes = h.bytes;
    copy = copied c.copier h.bytes less h.copy;
    whole = at.0.whole h.bytes now.0 h.whole;
    slice = h.slice;
    over = h.over;
    reads = λ xid e. reads xid id h.bytes c.at (slice_up h.bytes c.at c.piece h.slice) h.whole (h.reads xid e);
    replaced = h.replaced;
  }

  pub busy_on : (s : LayoutState) (a : Activity) → HasUids t uid n s a → (is_making a ≡ true → (u : ℕ) → IsMine then.whose more n u → IsMine t.whose uid n u) → AllByRecursion (GoesOnAt t then journal later) (ids_of s.live) → (has_source a ≡ true → AllByRecursion (IsShutNow t journal) (ids_of s.live))
      → IsBusySo t uid packets last journal n s a → IsBusySo then more behind next later n s a
  busy_on s Idle uids only at now h = tt
  busy_on s (Makes all) uids only at now h = λ u mine. h u (only refl u mine)
  busy_on s (Fences fence) uids only at now h = tt
  busy_on s (Settles stage) uids only at now h = settles_on stage (ids_of s.live) at (now refl) h
  busy_on s (Copies c) uids only at now h = copies_on c (ids_of s.live) uids.copier.mine.drawn at (now refl) h

  pub keeps_on : (s : LayoutState) (a : Activity) → HasUids t uid n s a → (is_making a ≡ true → (u : ℕ) → IsMine then.whose more n u → IsMine t.whose uid n u) → AllByRecursion (GoesOnAt t then journal later) (ids_of s.live)
      → (has_source a ≡ true → AllByRecursion (IsShutNow t journal) (ids_of s.live)) → KeepsFile t uid packets last journal n s a → KeepsFile then more behind next later n s a
  keeps_on s a uids only at now h = record {
    above = unused_from t uid then more n journal later on (s.cred.0 + 1) (s.cred.0 + 1) (omega arith) h.above;
    shut = shut_by then more later n s.phase (ids_of s.live) (λ e. all_shut_on t uid then more n journal later on (ids_of s.live) at (shut_in t uid journal n s.phase (ids_of s.live) e h.shut));
    busy = busy_on s a uids only at now h.busy;
  }
