-- What a call comes to at a data server, as one of seven kinds (RFC 1813, sections 3.3.2, 3.3.6 to 3.3.8 and 3.3.21).
use Rattle.std.proofs.Common.{◌≡◌, ℕ, ◌+◌, ◌-◌, Bool, true, eqb, ltb, cond, not, List, length, Option, Some, None, refl, arith}
use Rattle.std.specs.Prelude.{slice_get}
use Rattle.std.proofs.lemmas.Bool.{cond_both, ltb-false}
use Rattle.cluster_model.specs.declared.tick.Tick.{Tick}
use Rattle.cluster_model.specs.declared.ds_call.Shown.{Shown}
use Rattle.cluster_model.specs.File.{StoredFile, Writes, Commits, Sets}
use Rattle.cluster_model.specs.Server.{ServerState, Caller, Named, Nothing, Root, File, file_at, named, Refusal, Acces, Inval, NotSync as OutOfSync, Fbig, NoSpc, Jukebox, write_refusal, commit_refusal, set_refusal, read_refusal, tick_refusal, bytes_read, Effect, NoEffect, OnFile, NewFile, index_of}
use Rattle.cluster_model.specs.DsCalls.{DsCallValue, Create, SetAttr, Write, Commit, Read, DsReplyValue, Created, Set, Written, Committed, NotSync, Failed, shown_by, DsPlan, refusal_reply, unless, write_at, commit_at, set_at, read_at, bytes_reply, owner_changes, created_before, made_unless, created_by, create_in_root, mirror_name, ds_plan}

abbrev pub IsRefusal : DsReplyValue → Type 0
IsRefusal (Failed status shown) = Unit {0}
IsRefusal (NotSync shown) = Unit {0}
IsRefusal _ = ⊥

pub data PlanKind (s : ServerState) (caller : Caller) : DsCallValue → DsPlan → Type 0 where
  Refused : (call : DsCallValue) (reply : DsReplyValue) → IsRefusal reply → PlanKind s caller call (record { reply = reply; effect = NoEffect })
  WroteTo : (fileid at : ℕ) (synced : Bool) (bytes : List ℕ) (index : ℕ) (f : StoredFile) (shown : Option Shown) (verifier : ℕ) → fileid ≡ index + 2 → slice_get s.files index ≡ Some f
      → PlanKind s caller (Write fileid at synced bytes) (record { reply = Written shown verifier; effect = OnFile index (Writes at synced bytes) })
  CommittedAt : (fileid index : ℕ) (f : StoredFile) (shown : Option Shown) (verifier : ℕ) → fileid ≡ index + 2 → slice_get s.files index ≡ Some f
      → PlanKind s caller (Commit fileid) (record { reply = Committed shown verifier; effect = OnFile index Commits })
  SetTo : (fileid owner : ℕ) (guard : Tick) (index : ℕ) (f : StoredFile) (shown : Option Shown) → fileid ≡ index + 2 → slice_get s.files index ≡ Some f
      → PlanKind s caller (SetAttr fileid owner guard) (record { reply = Set shown; effect = OnFile index (Sets (owner_changes owner)) })
  ReadFrom : (fileid at count index : ℕ) (f : StoredFile) → fileid ≡ index + 2 → slice_get s.files index ≡ Some f
      → PlanKind s caller (Read fileid at count) (record { reply = bytes_reply f at (bytes_read f at count); effect = NoEffect })
  WasThere : (name owner fileid : ℕ) (shown : Shown) → PlanKind s caller (Create name owner) (record { reply = Created fileid shown; effect = NoEffect })
  NewMade : (name owner : ℕ) (shown : Shown) → PlanKind s caller (Create name owner) (record { reply = Created (length s.files + 2) shown; effect = NewFile (mirror_name name) owner owner 416 })

-- ---- by what a fileid names

module _ (files : List StoredFile) (fileid : ℕ) (P : Named → Type 0) (nothing : P Nothing) (root : P Root) (file : (index : ℕ) (f : StoredFile) → fileid ≡ index + 2 → slice_get files index ≡ Some f → P (File index f)) where
  found_file : (index : ℕ) (found : Option StoredFile) → fileid ≡ index + 2 → slice_get files index ≡ found → P (file_at index found)
  found_file index None place e = nothing
  found_file index (Some f) place e = file index f place e

  pub named_file : P (named files fileid)
  named_file =
      cond_both (eqb fileid 1) Root (cond (ltb fileid 2) Nothing (file_at (fileid - 2) (slice_get files (fileid - 2)))) P (λ e. root) (λ e.
      cond_both (ltb fileid 2) Nothing (file_at (fileid - 2) (slice_get files (fileid - 2))) P (λ e2. nothing) (λ e2.
      let le = ltb-false _ _ e2 in
      found_file (fileid - 2) (slice_get files (fileid - 2)) (omega (arith, le)) refl))

refusal_is : (r : Refusal) (shown : Shown) → IsRefusal (refusal_reply r shown)
refusal_is OutOfSync shown = tt
refusal_is Acces shown = tt
refusal_is Inval shown = tt
refusal_is Fbig shown = tt
refusal_is NoSpc shown = tt
refusal_is Jukebox shown = tt

module _ (s : ServerState) (caller : Caller) where
  abbrev Kind : DsCallValue → DsPlan → Type 0
  Kind call plan = PlanKind s caller call plan

  unless_kind : (call : DsCallValue) (f : StoredFile) (r : Option Refusal) (reply : DsReplyValue) (does : Effect) → Kind call (record { reply = reply; effect = does }) → Kind call (unless f r reply does)
  unless_kind call f None reply does k = k
  unless_kind call f (Some r) reply does k = Refused call (refusal_reply r (shown_by f)) (refusal_is r (shown_by f))

  write_kind : (fileid at : ℕ) (synced : Bool) (bytes : List ℕ) → Kind (Write fileid at synced bytes) (write_at s caller at synced bytes (named s.files fileid))
  write_kind fileid at synced bytes =
      named_file s.files fileid (λ x. Kind (Write fileid at synced bytes) (write_at s caller at synced bytes x)) (Refused _ _ tt) (Refused _ _ tt)
      (λ index f place there. unless_kind (Write fileid at synced bytes) f (write_refusal s index f caller true at bytes) _ (OnFile index (Writes at synced bytes)) (WroteTo fileid at synced bytes index f _ _ place there))

  commit_kind : (fileid : ℕ) → Kind (Commit fileid) (commit_at s caller (named s.files fileid))
  commit_kind fileid =
      named_file s.files fileid (λ x. Kind (Commit fileid) (commit_at s caller x)) (Refused _ _ tt) (Refused _ _ tt)
      (λ index f place there. unless_kind (Commit fileid) f (commit_refusal f caller) _ (OnFile index Commits) (CommittedAt fileid index f _ _ place there))

  set_kind : (fileid owner : ℕ) (guard : Tick) → Kind (SetAttr fileid owner guard) (set_at s caller owner guard (named s.files fileid))
  set_kind fileid owner guard =
      named_file s.files fileid (λ x. Kind (SetAttr fileid owner guard) (set_at s caller owner guard x)) (Refused _ _ tt) (Refused _ _ tt)
      (λ index f place there. unless_kind (SetAttr fileid owner guard) f (set_refusal s f caller true (Some guard)) _ (OnFile index (Sets (owner_changes owner))) (SetTo fileid owner guard index f _ place there))

  read_kind : (fileid at count : ℕ) → Kind (Read fileid at count) (read_at s caller at count (named s.files fileid))
  read_kind fileid at count =
      named_file s.files fileid (λ x. Kind (Read fileid at count) (read_at s caller at count x)) (Refused _ _ tt) (Refused _ _ tt)
      (λ index f place there. unless_kind (Read fileid at count) f (read_refusal f caller) _ NoEffect (ReadFrom fileid at count index f place there))

  made_kind : (name owner : ℕ) (r : Option Refusal) → Kind (Create name owner) (made_unless s (mirror_name name) owner r)
  made_kind name owner None = NewMade name owner _
  made_kind name owner (Some r) = Refused _ _ tt

  before_kind : (name owner index : ℕ) (f : Option StoredFile) → Kind (Create name owner) (created_before index f)
  before_kind name owner index None = Refused _ _ tt
  before_kind name owner index (Some f) = WasThere name owner (index + 2) (shown_by f)

  created_kind : (name owner : ℕ) (found : Option ℕ) → Kind (Create name owner) (created_by s (mirror_name name) owner found)
  created_kind name owner None = made_kind name owner (tick_refusal s.clock)
  created_kind name owner (Some index) = before_kind name owner index (slice_get s.files index)

  create_kind : (name owner : ℕ) → Kind (Create name owner) (create_in_root s caller (mirror_name name) owner)
  create_kind name owner =
      cond_both (not (eqb caller.uid 0)) _ (created_by s (mirror_name name) owner (index_of s.names (mirror_name name))) (Kind (Create name owner)) (λ e. Refused _ _ tt) (λ e. created_kind name owner (index_of s.names (mirror_name name)))

  pub plan_kind : (call : DsCallValue) → Kind call (ds_plan s caller call)
  plan_kind (Create name owner) = create_kind name owner
  plan_kind (SetAttr fileid owner guard) = set_kind fileid owner guard
  plan_kind (Write fileid at synced bytes) = write_kind fileid at synced bytes
  plan_kind (Commit fileid) = commit_kind fileid
  plan_kind (Read fileid at count) = read_kind fileid at count
