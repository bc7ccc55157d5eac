-- Which WRITEs there are at a moment of a run, by whom, and what an entry of one says.
use Rattle.std.proofs.Common.{◌≡◌, ◌≢◌, ℕ, ◌≤◌, ◌⊎◌, Bool, true, false, List, ◌++◌, Option, Some, None, sym, subst, inl, inr}
use Rattle.std.specs.List.{AllByRecursion}
use Rattle.cluster_model.specs.declared.ids.MirrorId.{MirrorId}
use Rattle.cluster_model.specs.declared.entry.Entry.{Entry}
use Rattle.cluster_model.specs.declared.entry.Entry.TheVariants as entry
use Rattle.cluster_model.specs.Content.{Pending}
use Rattle.cluster_model.specs.Journal.{content_of}
use Rattle.cluster_model.specs.DsCalls.{DsCallValue, Create, SetAttr, Write, Commit, Read}
use Rattle.file_rule.specs.MdsFiles.{MdsFile}
use Rattle.cluster_laws.specs.Machine.{PacketValue, Call, Reply, Machine, Holding, numbered_at}
use Rattle.cluster_laws.specs.Periods.{was_granted}
use Rattle.cluster_laws.specs.Agreement.{sent_of, rogue_of}
use Rattle.cluster_laws.specs.Holders.{IsIn, the_write}
use Rattle.machine_walk.specs.Owners.{IsUsersWrite}
use Rattle.cluster_laws.proofs.Lists.{all_more}
use Rattle.cluster_laws.proofs.Invariant.{If}
use Rattle.cluster_laws.proofs.PeriodFacts.{granted_in, none_granted, granted_append}
use Rattle.machine_walk.proofs.Stories.{Story, IsOnward}
use Rattle.machine_walk.proofs.Writers.{IsCopier, copier_on, HasUids}
use Rattle.machine_walk.proofs.Noted.{noted_on, granted_on, IsByUser}

-- a WRITE of a copy: it is stable at once
pub record IsCopysCall (t : Story) (uid user : ℕ) (synced : Bool) : Type 0 where
  pub by : IsCopier t uid user
  pub at_once : synced ≡ true

abbrev pub IsWriteCall : Story → ℕ → List Entry → ℕ → DsCallValue → Type 0
IsWriteCall t uid journal user (Create name owner) = Unit {0}
IsWriteCall t uid journal user (SetAttr fileid owner guard) = Unit {0}
IsWriteCall t uid journal user (Write fileid at synced bytes) = (IsIn (the_write at bytes) (sent_of user journal) ⊎ IsIn (the_write at bytes) (rogue_of user journal)) ⊎ IsCopysCall t uid user synced
IsWriteCall t uid journal user (Commit fileid) = Unit {0}
IsWriteCall t uid journal user (Read fileid at count) = Unit {0}

abbrev pub IsKnownPacket : Story → ℕ → List Entry → PacketValue → Type 0
IsKnownPacket t uid journal (Call from server xid user gid call) = IsWriteCall t uid journal user call
IsKnownPacket t uid journal (Reply place server to xid reply) = Unit {0}

pub record KnowsWriters (t : Story) (m : Machine) (journal : List Entry) : Type 0 where
  pub held : AllByRecursion (λ h. was_granted journal h.uid ≡ true) m.holdings
  pub wrote : AllByRecursion (IsByUser journal) journal
  pub nobody : was_granted journal 0 ≡ false
  pub none : t.copied 0 ≡ None
  pub copiers : (u : ℕ) → IsCopier t m.next_uid u → was_granted journal u ≡ false
  pub packets : AllByRecursion (IsKnownPacket t m.next_uid journal) m.packets
  pub files : (n : ℕ) (f : MdsFile) → numbered_at m.files n ≡ Some f → HasUids t m.next_uid n f.layout f.activity

-- what an entry of a write says
pub record IsAppliedSo (t : Story) (uid : ℕ) (before : List Entry) (m : MirrorId) (user : ℕ) (w : Pending) : Type 0 where
  pub owner : user ≡ (content_of before m).owner
  pub whose : IsUsersWrite before user w ⊎ IsCopier t uid user

abbrev pub IsWrittenSo : Story → ℕ → List Entry → Entry → Type 0
IsWrittenSo t uid before (entry.Applied m cred at bytes) = IsAppliedSo t uid before m cred.0 (the_write at bytes)
IsWrittenSo t uid before _ = Unit {0}

-- an entry of no write
pub record IsNoWrite (e : Entry) : Type 0 where
  pub so : (t : Story) (uid : ℕ) (before : List Entry) → IsWrittenSo t uid before e

-- ---- later on

module _ (t : Story) (uid name : ℕ) (then : Story) (more : ℕ) (on : IsOnward t uid name then) (up : uid ≤ more) where
  pub written_on : (before : List Entry) (e : Entry) → IsWrittenSo t uid before e → IsWrittenSo then more before e
  written_on before (entry.Applied m cred at bytes) h = record { owner = h.owner; whose = whose h.whose }
    where
      whose : IsUsersWrite before cred.0 (the_write at bytes) ⊎ IsCopier t uid cred.0 → IsUsersWrite before cred.0 (the_write at bytes) ⊎ IsCopier then more cred.0
      whose (inl k) = inl k
      whose (inr k) = inr (copier_on t uid name then more on up cred.0 k)
  written_on before _ h = tt

  call_on : (journal entries : List Entry) (user : ℕ) (call : DsCallValue) → IsWriteCall t uid journal user call → IsWriteCall then more (journal ++ entries) user call
  call_on journal entries user (Create name_ owner) h = tt
  call_on journal entries user (SetAttr fileid owner guard) h = tt
  call_on journal entries user (Write fileid at synced bytes) (inl h) = inl (noted_on (the_write at bytes) user journal entries h)
  call_on journal entries user (Write fileid at synced bytes) (inr h) = inr (record { by = copier_on t uid name then more on up user h.by; at_once = h.at_once })
  call_on journal entries user (Commit fileid) h = tt
  call_on journal entries user (Read fileid at count) h = tt

  packet_on : (journal entries : List Entry) (p : PacketValue) → IsKnownPacket t uid journal p → IsKnownPacket then more (journal ++ entries) p
  packet_on journal entries (Call from server xid user gid call) h = call_on journal entries user call h
  packet_on journal entries (Reply place server to xid reply) h = tt

  pub packets_on : (journal entries : List Entry) (packets : List PacketValue) → AllByRecursion (IsKnownPacket t uid journal) packets → AllByRecursion (IsKnownPacket then more (journal ++ entries)) packets
  packets_on journal entries packets h = all_more (IsKnownPacket t uid journal) (IsKnownPacket then more (journal ++ entries)) packets (packet_on journal entries) h

pub held_on : (journal entries : List Entry) (holdings : List Holding) → AllByRecursion (λ h. was_granted journal h.uid ≡ true) holdings → AllByRecursion (λ h. was_granted (journal ++ entries) h.uid ≡ true) holdings
held_on journal entries holdings h = all_more (λ x. was_granted journal x.uid ≡ true) (λ x. was_granted (journal ++ entries) x.uid ≡ true) holdings (λ x k. granted_on x.uid journal entries k) h

-- where nothing is granted
pub ungranted : (uid : ℕ) (journal entries : List Entry) → AllByRecursion (λ e. granted_in e ≡ None) entries → was_granted journal uid ≡ false → was_granted (journal ++ entries) uid ≡ false
ungranted uid journal entries h k = granted_append uid journal entries k (none_granted uid entries (all_more (λ e. granted_in e ≡ None) (λ e. If (granted_in e) (λ u. u ≢ uid)) entries (λ e q. subst (λ (x : Option ℕ). If x (λ u. u ≢ uid)) (sym q) tt) h))
