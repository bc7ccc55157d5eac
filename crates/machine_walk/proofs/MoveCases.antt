-- A predicate of moments that each kind of move keeps holds behind every bound run.
use Rattle.std.proofs.Common.{◌≡◌, ◌≢◌, ℕ, ◌+◌, ◌-◌, ◌<◌, ◌≤◌, true, List, [], ◌∷◌, ◌++◌, length, set, Option, Some, None}
use Rattle.std.specs.Prelude.{slice_get}
use Rattle.std.specs.List.{AllByRecursion}
use Rattle.cluster_model.specs.declared.piece.Piece.{Piece}
use Rattle.cluster_model.specs.declared.ids.FileId.{FileId}
use Rattle.cluster_model.specs.declared.ids.NodeId.{NodeId}
use Rattle.cluster_model.specs.declared.ids.NodeId.TheVariants.{Mds}
use Rattle.cluster_model.specs.declared.ids.MirrorId.{MirrorId}
use Rattle.cluster_model.specs.declared.entry.Entry.{Entry}
use Rattle.cluster_model.specs.declared.entry.Entry.TheVariants as entry
use Rattle.cluster_model.specs.Journal.{Copy, copy_after}
use Rattle.cluster_model.specs.Server.{ServerState, restart_of}
use Rattle.cluster_model.specs.DsCalls.{DsCallValue, DsReplyValue, ds_step}
use Rattle.cluster_model.specs.Phases.{ids_of}
use Rattle.file_rule.specs.MdsFiles.{MdsFile, FileStep, a_uid}
use Rattle.file_rule.specs.FilePhases.{FileInput, Answers, CallOut, call_out, new_mds_file, phase}
use Rattle.cluster_laws.specs.Machine.{PacketValue, Call, Reply, Machine, numbered_at, with_number, with_file, with_server, with_packets, puts_out, served, held_by, file_id, fresh_of, caller_by, may_create, may_use, may_number}
use Rattle.cluster_laws.specs.FenceLaw.{live_after}
use Rattle.cluster_laws.specs.Holders.{HeldUnder, MayTake, HasNotEndedClean, MayTell, IsBoundCall, IsBoundInput}
use Rattle.cluster_laws.proofs.Invariant.{AreRight, net_of, Holds}
use Rattle.cluster_laws.proofs.PhaseOk.{IsInput}
use Rattle.cluster_laws.proofs.CallsOut.{mds_call}
use Rattle.cluster_laws.proofs.PeriodFacts.{AreInPlace}
use Rattle.machine_walk.proofs.Stories.{Story, begun_copy, drawn_story, IsOnward, AreEach, IsMoment}

-- the story behind a step of a file
pub data Drew (t : Story) (m : Machine) (journal : List Entry) (n : ℕ) (s : FileStep) : Story → Type 0 where
  DrewNone : s.uids ≡ 0 → s.names ≡ 0 → Drew t m journal n s t
  DrewOne : s.uids ≡ 1 → Drew t m journal n s (drawn_story t m.next_name n m.next_uid (begun_copy journal n s.file.activity))

-- the machine behind moves of each kind
abbrev pub after_step : Machine → ℕ → FileStep → Machine
after_step m n s = with_file m n s (held_by (ids_of s.file.layout.live) s.entries)

abbrev pub after_call : Machine → ℕ → ℕ → CallOut → Machine
after_call m n xid c = record {
  servers = m.servers;
  files = set m.files (n - 1) c.file;
  next_uid = m.next_uid;
  next_name = m.next_name;
  last_xid = with_number m.last_xid Mds xid;
  packets = m.packets ++ mds_call xid c ∷ [];
  holdings = m.holdings;
}

abbrev pub created_machine : Machine → List ℕ → Machine
created_machine m servers = record {
  servers = m.servers;
  files = m.files ++ new_mds_file (fresh_of m) servers ∷ [];
  next_uid = m.next_uid + 1;
  next_name = m.next_name + 1;
  last_xid = m.last_xid;
  packets = m.packets;
  holdings = m.holdings;
}

-- an answer that is taken stands among the packets
pub record HasReply (packets : List PacketValue) (xid : ℕ) (reply : DsReplyValue) : Type 0 where
  pub place : ℕ
  pub call : ℕ
  pub server : ℕ
  pub there : slice_get packets place ≡ Some (Reply call server Mds xid reply)

abbrev pub IsHeard : List PacketValue → FileInput → Type 0
IsHeard packets (Answers xid reply) = HasReply packets xid reply
IsHeard packets _ = Unit {0}

-- what a step of a file comes with
pub record IsStepBy (t : Story) (m : Machine) (journal : List Entry) (n : ℕ) (f : MdsFile) (input : FileInput) (then : Story) : Type 0 where
  pub there : numbered_at m.files n ≡ Some f
  pub brought : IsInput (net_of m t.drawn) f input
  pub bound : IsBoundInput m.packets journal input (Some f)
  pub drew : Drew t m journal n (phase (file_id n) f input (fresh_of m)) then
  pub heard : IsHeard m.packets input
  pub right : AreRight journal (phase (file_id n) f input (fresh_of m)).entries
  pub place : AreInPlace journal (phase (file_id n) f input (fresh_of m)).entries
  pub copies : AllByRecursion (λ e. (id : MirrorId) (c : Copy) → copy_after id c e ≡ c) (phase (file_id n) f input (fresh_of m)).entries
  pub others : AllByRecursion (λ e. (k : ℕ) → k ≢ n → (x : Option (List MirrorId)) → live_after (file_id k) x e ≡ x) (phase (file_id n) f input (fresh_of m)).entries
  pub holds : Holds (after_step m n (phase (file_id n) f input (fresh_of m))) (journal ++ (phase (file_id n) f input (fresh_of m)).entries) then.drawn

-- what has to be shown of a predicate, and of the entries
pub record Cases (P : Story → Machine → List Entry → Type 0) (Q : Story → ℕ → List Entry → Entry → Type 0) : Type 0 where
  pub later : (t : Story) (uid name : ℕ) (then : Story) (more : ℕ) (before : List Entry) (e : Entry) → IsOnward t uid name then → uid ≤ more → Q t uid before e → Q then more before e
  pub steps : (t : Story) (m : Machine) (journal : List Entry) → IsMoment t m journal → P t m journal → (n : ℕ) (f : MdsFile) (input : FileInput) (then : Story) → IsStepBy t m journal n f input then
      → P then (after_step m n (phase (file_id n) f input (fresh_of m))) (journal ++ (phase (file_id n) f input (fresh_of m)).entries)
      × AreEach (Q then (m.next_uid + (phase (file_id n) f input (fresh_of m)).uids)) journal (phase (file_id n) f input (fresh_of m)).entries
  pub calls : (t : Story) (m : Machine) (journal : List Entry) → IsMoment t m journal → P t m journal → (n xid : ℕ) (f : MdsFile) (c : CallOut) → numbered_at m.files n ≡ Some f → call_out f xid ≡ Some c → m.last_xid Mds < xid
      → Holds (after_call m n xid c) journal t.drawn → P t (after_call m n xid c) journal
  pub serves : (t : Story) (m : Machine) (journal : List Entry) → IsMoment t m journal → P t m journal → (place : ℕ) (from : NodeId) (n xid uid gid : ℕ) (call : DsCallValue) (s : ServerState)
      → slice_get m.packets place ≡ Some (Call from n xid uid gid call) → numbered_at m.servers n ≡ Some s
      → Holds (served m place from n xid (ds_step s (caller_by uid gid) call)).machine (journal ++ (ds_step s (caller_by uid gid) call).entries) t.drawn
      → P t (served m place from n xid (ds_step s (caller_by uid gid) call)).machine (journal ++ (ds_step s (caller_by uid gid) call).entries) × AreEach (Q t m.next_uid) journal (ds_step s (caller_by uid gid) call).entries
  pub restarts : (t : Story) (m : Machine) (journal : List Entry) → IsMoment t m journal → P t m journal → (n : ℕ) (pieces : List Piece) (s new : ServerState) → numbered_at m.servers n ≡ Some s → restart_of s pieces ≡ Some new
      → Holds (with_server m n new m.packets) (journal ++ entry.Restarted n pieces ∷ []) t.drawn
      → P t (with_server m n new m.packets) (journal ++ entry.Restarted n pieces ∷ []) × AreEach (Q t m.next_uid) journal (entry.Restarted n pieces ∷ [])
  pub again : (t : Story) (m : Machine) (journal : List Entry) → IsMoment t m journal → P t m journal → (place : ℕ) (p : PacketValue) → slice_get m.packets place ≡ Some p → P t (with_packets m (m.packets ++ p ∷ [])) journal
  pub uses : (t : Story) (m : Machine) (journal : List Entry) → IsMoment t m journal → P t m journal → (node : NodeId) (n xid uid gid : ℕ) (call : DsCallValue) → may_use call ≡ true → may_number m node xid ≡ true → IsBoundCall journal uid call
      → P t (puts_out m node xid (Call node n xid uid gid call)) journal
  pub takes : (t : Story) (m : Machine) (journal : List Entry) → IsMoment t m journal → P t m journal → (file : FileId) (uid at : ℕ) (bytes : List ℕ) → HeldUnder m uid (λ h. MayTake journal uid at bytes)
      → P t m (journal ++ entry.Sent file (a_uid uid) at bytes ∷ []) × AreEach (Q t m.next_uid) journal (entry.Sent file (a_uid uid) at bytes ∷ [])
  pub strays : (t : Story) (m : Machine) (journal : List Entry) → IsMoment t m journal → P t m journal → (file : FileId) (uid at : ℕ) (bytes : List ℕ) → HeldUnder m uid (λ h. HasNotEndedClean journal uid)
      → P t m (journal ++ entry.Rogue file (a_uid uid) at bytes ∷ []) × AreEach (Q t m.next_uid) journal (entry.Rogue file (a_uid uid) at bytes ∷ [])
  pub tells : (t : Story) (m : Machine) (journal : List Entry) → IsMoment t m journal → P t m journal → (file : FileId) (uid at : ℕ) (bytes : List ℕ) → HeldUnder m uid (λ h. MayTell m.packets journal h at bytes)
      → P t m (journal ++ entry.Told file (a_uid uid) at bytes ∷ []) × AreEach (Q t m.next_uid) journal (entry.Told file (a_uid uid) at bytes ∷ [])
  pub creates : (t : Story) (m : Machine) (journal : List Entry) → IsMoment t m journal → P t m journal → (servers : List ℕ) → may_create m servers ≡ true
      → Holds (created_machine m servers) journal (drawn_story t m.next_name (length m.files + 1) m.next_uid None).drawn → P (drawn_story t m.next_name (length m.files + 1) m.next_uid None) (created_machine m servers) journal
