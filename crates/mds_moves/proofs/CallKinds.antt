-- Which calls a file and an own write send.
use Rattle.std.proofs.Common.{◌≡◌, ℕ, true, Option, Some, None, List, [], ◌∷◌, refl, subst, arith}
use Rattle.std.specs.Prelude.{slice_get, ◌&&◌}
use Rattle.std.proofs.lemmas.Bool.{cond_both}
use Rattle.cluster_model.specs.declared.ids.Mirror.{Mirror}
use Rattle.cluster_model.specs.DsCalls.{DsCallValue, Create, SetAttr, Write, Commit, Read}
use Rattle.cluster_model.specs.Fences.{FenceState, waits}
use Rattle.cluster_model.specs.Fences as fence
use Rattle.copy_rule.specs.Copies.{CopyState, CopyCall, may_read_on, target_call, target_call_at, call_from, waiting_at}
use Rattle.copy_rule.specs.declared.copy_target.CopyTarget.{CopyTarget}
use Rattle.cluster_model.specs.declared.fence_mirror.FenceMirror.{FenceMirror}
use Rattle.file_rule.specs.declared.creation.Creation.{Creation}
use Rattle.file_rule.specs.MdsFiles.{Creations, Activity, Idle, Makes, Fences, Settles, Copies, MdsFile}
use Rattle.file_rule.specs.FilePhases.{FileInput, AsksLayout, OwnWrite, Recall, Returns, Revokes, OwnEnds, Resilver, Answers, TimesOut, Ticks, Sees, CallOut, creation_waiting, create_out_at, create_out, fence_out, settle_out, copy_out, call_out_of, call_out}
use Rattle.cluster_laws.specs.Machine.{comes_by_itself as comes_in_machine, may_use}
use Rattle.cluster_model.specs.declared.entry.Entry.{Entry}
use Rattle.cluster_laws.specs.Holders.{IsBoundCall}
use Rattle.mds_laws.proofs.Keeping.{is_read_call, is_write_call, comes_by_itself}
use Rattle.mds_moves.specs.MdsMoves.{ReadsBytes, IsOfWrite}

-- ---- a file's calls

module _ (f : MdsFile) where
  abbrev OutReads : Option CallOut → Type 0
  OutReads None = Unit {0}
  OutReads (Some c) = ReadsBytes c.call

  create_at : (all : Creations) (xid place : ℕ) (o : Option Creation) → OutReads (create_out_at f all xid place o)
  create_at all xid place None = tt
  create_at all xid place (Some c) = tt

  creates : (all : Creations) (xid : ℕ) (o : Option ℕ) → OutReads (create_out f all xid o)
  creates all xid None = tt
  creates all xid (Some place) = create_at all xid place (slice_get all.items place)

  fence_at : (x : FenceState) (xid place : ℕ) (o : Option FenceMirror) → OutReads (fence_out f (fence.fence_call_at x xid place o))
  fence_at x xid place None = tt
  fence_at x xid place (Some m) = tt

  fence_from : (x : FenceState) (xid : ℕ) (o : Option ℕ) → OutReads (fence_out f (fence.call_from x xid o))
  fence_from x xid None = tt
  fence_from x xid (Some place) = fence_at x xid place (slice_get x.mirrors place)

  settles : (xid : ℕ) (live : List Mirror) → OutReads (settle_out f xid live)
  settles xid [] = tt
  settles xid (m ∷ live) = tt

  target : (c : CopyState) (name : ℕ) (o : Option Mirror) → ReadsBytes (target_call c.copier c.at c.piece name o)
  target c name None = tt
  target c name (Some m) = tt

  target_at : (c : CopyState) (xid place : ℕ) (o : Option CopyTarget) → OutReads (copy_out f (target_call_at c xid place o))
  target_at c xid place None = tt
  target_at c xid place (Some t) = target c t.name t.made

  copies : (c : CopyState) (xid : ℕ) (o : Option ℕ) → OutReads (copy_out f (call_from c xid o))
  copies c xid None = cond_both (waits c.read && may_read_on c) (Some _) None (λ (o : Option CopyCall). OutReads (copy_out f o)) (λ is. omega arith) (λ off. tt)
  copies c xid (Some place) = target_at c xid place (slice_get c.targets place)

  out_of : (xid : ℕ) (a : Activity) → OutReads (call_out_of f xid a)
  out_of xid Idle = tt
  out_of xid (Makes all) = creates all xid (creation_waiting all)
  out_of xid (Fences x) = fence_from x xid (fence.waiting_at x)
  out_of xid (Settles stage) = cond_both (waits stage) (settle_out f xid f.layout.live) None OutReads (λ is. settles xid f.layout.live) (λ off. tt)
  out_of xid (Copies c) = copies c xid (waiting_at c)

  pub reads_bytes : (xid : ℕ) (c : CallOut) → call_out f xid ≡ Some c → ReadsBytes c.call
  reads_bytes xid c is = subst OutReads is (out_of xid f.activity)

-- ---- those of an own write, and of a read

pub of_write : (call : DsCallValue) → is_write_call call ≡ true → IsOfWrite call
of_write (Create name owner) is = absurd cc
of_write (SetAttr fileid owner guard) is = absurd cc
of_write (Write fileid at synced bytes) is = tt
of_write (Commit fileid) is = tt
of_write (Read fileid at count) is = absurd cc

pub write_used : (call : DsCallValue) → is_write_call call ≡ true → may_use call ≡ true
write_used (Create name owner) is = is
write_used (SetAttr fileid owner guard) is = is
write_used (Write fileid at synced bytes) is = refl
write_used (Commit fileid) is = refl
write_used (Read fileid at count) is = refl

pub read_used : (call : DsCallValue) → is_read_call call ≡ true → may_use call ≡ true
read_used (Create name owner) is = is
read_used (SetAttr fileid owner guard) is = is
read_used (Write fileid at synced bytes) is = refl
read_used (Commit fileid) is = refl
read_used (Read fileid at count) is = refl

pub read_bound : (journal : List Entry) (call : DsCallValue) → is_read_call call ≡ true → IsBoundCall journal 0 call
read_bound journal (Create name owner) is = tt
read_bound journal (SetAttr fileid owner guard) is = tt
read_bound journal (Write fileid at synced bytes) is = absurd cc
read_bound journal (Commit fileid) is = tt
read_bound journal (Read fileid at count) is = tt

-- ---- inputs that come by themselves

pub same_input : (input : FileInput) → comes_in_machine input ≡ comes_by_itself input
same_input (AsksLayout client) = refl
same_input (OwnWrite at bytes) = refl
same_input Recall = refl
same_input (Returns client claimed places) = refl
same_input (Revokes cause) = refl
same_input (OwnEnds causes at bytes) = refl
same_input Resilver = refl
same_input (Answers xid reply) = refl
same_input (TimesOut xid) = refl
same_input Ticks = refl
same_input (Sees id seen) = refl
