-- The targets of each copy at a moment of a run, and that they go on where their file takes no step.
use Rattle.std.proofs.Common.{◌≡◌, ℕ, ◌+◌, ◌<◌, true, List, length, Some, subst}
use Rattle.std.specs.List.{AllByRecursion}
use Rattle.cluster_model.specs.declared.ids.NodeId.TheVariants.{Mds}
use Rattle.cluster_model.specs.declared.ids.MirrorId.{MirrorId}
use Rattle.cluster_model.specs.declared.ids.Mirror.{Mirror}
use Rattle.cluster_model.specs.declared.entry.Entry.{Entry}
use Rattle.cluster_model.specs.declared.layout_state.LayoutState.{LayoutState}
use Rattle.cluster_model.specs.Journal.{content_of}
use Rattle.cluster_model.specs.DsCalls.{DsCallValue, Create, Write, DsReplyValue, Created, Set, Written, Committed, Bytes, NotSync, Failed}
use Rattle.copy_rule.specs.Copies.{CopyState}
use Rattle.copy_rule.specs.declared.copy_target.CopyTarget.{CopyTarget}
use Rattle.file_rule.specs.MdsFiles.{Activity, Idle, Makes, Fences, Settles, Copies, MdsFile}
use Rattle.cluster_laws.specs.Machine.{PacketValue, Call, Reply, Machine, numbered_at}
use Rattle.cluster_laws.proofs.Lists.{all_more}
use Rattle.cluster_laws.proofs.Invariant.{IsTargetOf, IsFile, net_of, Holds}
use Rattle.cluster_laws.proofs.PeriodStates.{IsMine}
use Rattle.machine_walk.proofs.Stories.{Story}
use Rattle.copied_bytes.proofs.CallsKept.{IsOutSo, out_more}
use Rattle.copied_bytes.proofs.Parts.{IsPart, IsPut}
use Rattle.copied_bytes.proofs.Sources.{owner_of}
use Rattle.copied_bytes.proofs.SourceCarry.{AreOwnersMine, IsOwnedAt, owned_at}
use Rattle.copied_bytes.proofs.TargetServes.{IsWriteReply, IsPieceCall}
use Rattle.copied_bytes.proofs.TargetTurns.{IsSiteOf, IsTargetKept, TargetsKept, reach_out, all_both}

abbrev pub IsPieceFor : Story → ℕ → ℕ → DsCallValue → Type 0
IsPieceFor t uid user call = (bytes : List ℕ) → user < uid → IsPieceCall t bytes user call

abbrev pub IsPiecePacket : Story → ℕ → PacketValue → Type 0
IsPiecePacket t uid (Call from n xid user gid call) = IsPieceFor t uid user call
IsPiecePacket t uid (Reply place n to xid reply) = Unit {0}

pub record CopiesTargets (t : Story) (uid names : ℕ) (packets : List PacketValue) (last : ℕ) (journal : List Entry) (n : ℕ) (c : CopyState) : Type 0 where
  pub bytes : List ℕ
  pub copy : t.copied c.copier ≡ Some bytes
  pub kept : TargetsKept t uid names packets last journal n bytes c

abbrev pub KeepsTargets : Story → ℕ → ℕ → List PacketValue → ℕ → List Entry → ℕ → Activity → Type 0
KeepsTargets t uid names packets last journal n Idle = Unit {0}
KeepsTargets t uid names packets last journal n (Makes all) = Unit {0}
KeepsTargets t uid names packets last journal n (Fences fence) = Unit {0}
KeepsTargets t uid names packets last journal n (Settles stage) = Unit {0}
KeepsTargets t uid names packets last journal n (Copies c) = CopiesTargets t uid names packets last journal n c

pub record KnowsTargets (t : Story) (m : Machine) (journal : List Entry) : Type 0 where
  pub bound : (id : MirrorId) → owner_of journal id < m.next_uid
  pub parts : (id : MirrorId) (bytes : List ℕ) → owner_of journal id < m.next_uid → t.copied (owner_of journal id) ≡ Some bytes → IsPart bytes (content_of journal id).content
  pub pieces : AllByRecursion (IsPiecePacket t m.next_uid) m.packets
  pub files : (n : ℕ) (f : MdsFile) → numbered_at m.files n ≡ Some f → KeepsTargets t m.next_uid m.next_name m.packets (m.last_xid Mds) journal n f.activity

-- ---- where targets stand

abbrev pub IsOwnedTarget : Story → Machine → List Entry → ℕ → CopyTarget → Type 0
IsOwnedTarget t m journal n x = (y : Mirror) → x.made ≡ Some y → IsOwnedAt t m journal n y.id

pub targets_owned : (t : Story) (m : Machine) (journal : List Entry) (h : Holds m journal t.drawn) (owners : AreOwnersMine t m.next_uid m.next_name m.servers) (n : ℕ) (s : LayoutState) (c : CopyState) → IsFile (net_of m t.drawn) journal n (record { layout = s; activity = Copies c })
    → AllByRecursion (IsOwnedTarget t m journal n) c.targets
targets_owned t m journal h owners n s c file =
    all_more (IsTargetOf (net_of m t.drawn) n c.copier c.at c.piece) (IsOwnedTarget t m journal n) c.targets (λ x k y made. owned_at t m journal h owners y.id x.name n (k.made y made).1 k.drawn k.home) file.busy.targets

-- ---- a file that takes no step

pub written_more : (journal behind : List Entry) (bytes : List ℕ) (upto : ℕ) (id : MirrorId) → (IsPut bytes upto (content_of journal id).content → IsPut bytes upto (content_of behind id).content) → (r : DsReplyValue) → IsWriteReply journal bytes upto id r → IsWriteReply behind bytes upto id r
written_more journal behind bytes upto id put (Created fileid shown) h = tt
written_more journal behind bytes upto id put (Set shown) h = tt
written_more journal behind bytes upto id put (Written shown verifier) h = put h
written_more journal behind bytes upto id put (Committed shown verifier) h = tt
written_more journal behind bytes upto id put (Bytes shown eof more) h = tt
written_more journal behind bytes upto id put (NotSync shown) h = tt
written_more journal behind bytes upto id put (Failed status shown) h = tt

module _ (t : Story) (uid names : ℕ) (then : Story) (more next_names n : ℕ) (packets behind : List PacketValue) (last next : ℕ) (journal later : List Entry) (bytes : List ℕ) (c : CopyState)
    (only : (u : ℕ) → IsMine then.whose more n u → IsMine t.whose uid n u)
    (sites : (k : ℕ) → IsSiteOf t names n c.copier k → IsSiteOf then next_names n c.copier k)
    (put_on : (id : MirrorId) (upto : ℕ) → owner_of journal id ≡ c.copier → IsPut bytes upto (content_of journal id).content → IsPut bytes upto (content_of later id).content)
    (asks_on : (xid server : ℕ) (call : DsCallValue) → IsOutSo packets last xid server call (λ r. Unit {0}) → IsOutSo behind next xid server call (λ r. Unit {0}))
    (outs_on : (xid : ℕ) (id : MirrorId) → owner_of journal id ≡ c.copier → IsPut bytes c.at (content_of journal id).content → IsOutSo packets last xid id.server (Write id.fileid c.at true c.piece) (IsWriteReply journal bytes (c.at + length c.piece) id)
    → IsOutSo behind next xid id.server (Write id.fileid c.at true c.piece) (IsWriteReply later bytes (c.at + length c.piece) id)) where
  abbrev pub OwnedOn : CopyTarget → Type 0
  OwnedOn x = (y : Mirror) → x.made ≡ Some y → owner_of journal y.id ≡ c.copier → owner_of later y.id ≡ c.copier

  target_on : (x : CopyTarget) → OwnedOn x → IsTargetKept (IsSiteOf t names n c.copier) packets last journal c.copier bytes c.at c.piece x → IsTargetKept (IsSiteOf then next_names n c.copier) behind next later c.copier bytes c.at c.piece x
  target_on x owned h = record {
    site = sites x.name h.site;
    asks = λ xid o none. asks_on xid x.server (Create x.name c.copier) (h.asks xid o none);
    unmade = h.unmade;
    done = h.done;
    lost = h.lost;
    holds = λ y made. put_on y.id _ (h.owner y made) (h.holds y made);
    owner = λ y made. owned y made (h.owner y made);
    outs = λ xid y o made. outs_on xid y.id (h.owner y made) (subst (λ (k : ℕ). IsPut bytes k (content_of journal y.id).content) (reach_out x.stage xid c.at c.piece o) (h.holds y made)) (h.outs xid y o made);
  }

  pub targets_on : AllByRecursion OwnedOn c.targets → TargetsKept t uid names packets last journal n bytes c → TargetsKept then more next_names behind next later n bytes c
  targets_on owned h = record {
    newest = λ u mine. h.newest u (only u mine);
    all_over = h.all_over;
    empty = h.empty;
    each = all_both OwnedOn (IsTargetKept (IsSiteOf t names n c.copier) packets last journal c.copier bytes c.at c.piece) (IsTargetKept (IsSiteOf then next_names n c.copier) behind next later c.copier bytes c.at c.piece) c.targets target_on owned h.each;
  }

-- a write's reply says the same of the same bytes
pub write_later : (packets : List PacketValue) (last xid server : ℕ) (call : DsCallValue) (journal later : List Entry) (bytes : List ℕ) (upto : ℕ) (id : MirrorId) → (IsPut bytes upto (content_of journal id).content → IsPut bytes upto (content_of later id).content)
    → IsOutSo packets last xid server call (IsWriteReply journal bytes upto id) → IsOutSo packets last xid server call (IsWriteReply later bytes upto id)
write_later packets last xid server call journal later bytes upto id put h = out_more (IsWriteReply journal bytes upto id) (IsWriteReply later bytes upto id) (written_more journal later bytes upto id put) xid packets last server call h
