-- The rule of a data server on the five calls of a cluster, without handles and names of objects (RFC 1813, sections 3.3.2, 3.3.6 to
-- 3.3.8 and 3.3.21).
use Rattle.std.specs.Prelude.{ℕ, ◌+◌, Bool, true, not, List, [], ◌++◌, length, codes, decimal, Option, Some, None, ◌==◌, if◌then◌else◌, slice_get}
use Rattle.cluster_model.specs.declared.limits.TheConstants.{FILE_MODE}
use Rattle.cluster_model.specs.declared.tick.Tick.{Tick}
use Rattle.cluster_model.specs.declared.tick.Times.{Times}
use Rattle.cluster_model.specs.declared.change.NewTime.TheVariants.{Keep}
use Rattle.cluster_model.specs.declared.change.Changes.{Changes}
use Rattle.cluster_model.specs.declared.entry.Entry.{Entry}
use Rattle.cluster_model.specs.declared.ds_call.Shown.{Shown}
use Rattle.cluster_model.specs.declared.ds_call.DsCall.{DsCall}
use Rattle.cluster_model.specs.declared.ds_call.DsCall.TheVariants as declared
use Rattle.cluster_model.specs.declared.ds_call.DsReply.{DsReply}
use Rattle.cluster_model.specs.declared.ds_call.DsReply.TheVariants as declared_reply
use Rattle.cluster_model.specs.File.{StoredFile, FileOp, Writes, Commits, Sets, shown, file_after, new_file}
use Rattle.cluster_model.specs.Ticks.{next_tick}
use Rattle.cluster_model.specs.Server.{ServerState, Named, Nothing, Root, File, named, index_of, Caller, Refusal, Acces, Inval, NotSync as OutOfSync, Fbig, NoSpc, Jukebox, tick_refusal, read_refusal, write_refusal, commit_refusal, set_refusal, bytes_read, ends_at, Effect, NoEffect, OnFile, NewFile, server_after, entries_of}

-- ---- calls and replies as plain values

pub data DsCallValue : Type 0 where
  Create : (name owner : ℕ) → DsCallValue
  SetAttr : (fileid owner : ℕ) (guard : Tick) → DsCallValue
  Write : (fileid at : ℕ) (synced : Bool) (bytes : List ℕ) → DsCallValue
  Commit : (fileid : ℕ) → DsCallValue
  Read : (fileid at count : ℕ) → DsCallValue

pub data DsReplyValue : Type 0 where
  Created : (fileid : ℕ) (shown : Shown) → DsReplyValue
  Set : (shown : Option Shown) → DsReplyValue
  Written : (shown : Option Shown) (verifier : ℕ) → DsReplyValue
  Committed : (shown : Option Shown) (verifier : ℕ) → DsReplyValue
  Bytes : (shown : Option Shown) (eof : Bool) (bytes : List ℕ) → DsReplyValue
  NotSync : (shown : Shown) → DsReplyValue
  Failed : (status : ℕ) (shown : Option Shown) → DsReplyValue

abbrev pub plain_ds_call : DsCall → DsCallValue
plain_ds_call (declared.Create name owner) = Create name owner.0
plain_ds_call (declared.SetAttr fileid owner guard) = SetAttr fileid owner.0 guard
plain_ds_call (declared.Write fileid at synced bytes) = Write fileid at synced bytes.now
plain_ds_call (declared.Commit fileid) = Commit fileid
plain_ds_call (declared.Read fileid at count) = Read fileid at count

-- the data of a WRITE; of another call none
abbrev pub data_in : DsCallValue → List ℕ
data_in (Write fileid at synced bytes) = bytes
data_in call = []

abbrev pub plain_ds_reply : DsReply → DsReplyValue
plain_ds_reply (declared_reply.Created fileid shown) = Created fileid shown
plain_ds_reply (declared_reply.Set shown) = Set shown
plain_ds_reply (declared_reply.Written shown verifier) = Written shown verifier
plain_ds_reply (declared_reply.Committed shown verifier) = Committed shown verifier
plain_ds_reply (declared_reply.Bytes shown eof bytes) = Bytes shown eof bytes.now
plain_ds_reply (declared_reply.NotSync shown) = NotSync shown
plain_ds_reply (declared_reply.Failed status shown) = Failed status shown

-- ---- what is shown of a file, and of the root

abbrev pub shown_by : StoredFile → Shown
shown_by f = record { owner = record { 0 = f.owner }; seen = f.times.ctime; size = length (shown f) }

abbrev pub shown_root : Times → Shown
shown_root root = record { owner = record { 0 = 0 }; seen = root.ctime; size = 4096 }

-- ---- the rule

-- what a call comes to: its reply, and what is done
pub record DsPlan : Type 0 where
  pub reply : DsReplyValue
  pub effect : Effect

abbrev pub replies : DsReplyValue → DsPlan
replies reply = record { reply = reply; effect = NoEffect }

-- the number of a refusal's status (section 2.6)
abbrev pub refusal_number : Refusal → ℕ
refusal_number Acces = 13
refusal_number Inval = 22
refusal_number Fbig = 27
refusal_number NoSpc = 28
refusal_number OutOfSync = 10002
refusal_number Jukebox = 10008

abbrev pub refusal_reply : Refusal → Shown → DsReplyValue
refusal_reply OutOfSync shown = NotSync shown
refusal_reply Acces shown = Failed (refusal_number Acces) (Some shown)
refusal_reply Inval shown = Failed (refusal_number Inval) (Some shown)
refusal_reply Fbig shown = Failed (refusal_number Fbig) (Some shown)
refusal_reply NoSpc shown = Failed (refusal_number NoSpc) (Some shown)
refusal_reply Jukebox shown = Failed (refusal_number Jukebox) (Some shown)

-- STALE 70 at nothing, INVAL at the root
abbrev pub no_file : DsReplyValue
no_file = Failed 70 None

abbrev pub at_root : ServerState → DsReplyValue
at_root s = refusal_reply Inval (shown_root s.root)

-- what is done to a file, unless it is refused, and what is replied then
abbrev pub unless : StoredFile → Option Refusal → DsReplyValue → Effect → DsPlan
unless f (Some refusal) reply does = replies (refusal_reply refusal (shown_by f))
unless f None reply does = record { reply = reply; effect = does }

-- the file as it is shown then
abbrev pub shown_after : ServerState → StoredFile → FileOp → Option Shown
shown_after s f op = Some (shown_by (file_after f s.clock op))

abbrev pub write_at : ServerState → Caller → ℕ → Bool → List ℕ → Named → DsPlan
write_at s caller at synced bytes Nothing = replies no_file
write_at s caller at synced bytes Root = replies (at_root s)
write_at s caller at synced bytes (File index f) =
    unless f (write_refusal s index f caller true at bytes) (Written (shown_after s f (Writes at synced bytes)) s.clock.boot) (OnFile index (Writes at synced bytes))

abbrev pub commit_at : ServerState → Caller → Named → DsPlan
commit_at s caller Nothing = replies no_file
commit_at s caller Root = replies (at_root s)
commit_at s caller (File index f) = unless f (commit_refusal f caller) (Committed (shown_after s f Commits) s.clock.boot) (OnFile index Commits)

-- the user and the group, and nothing else
abbrev pub owner_changes : ℕ → Changes
owner_changes owner = record { owner = Some owner; group = Some owner; mode = None; atime = Keep; mtime = Keep }

abbrev pub set_at : ServerState → Caller → ℕ → Tick → Named → DsPlan
set_at s caller owner guard Nothing = replies no_file
set_at s caller owner guard Root = replies (at_root s)
set_at s caller owner guard (File index f) =
    unless f (set_refusal s f caller true (Some guard)) (Set (shown_after s f (Sets (owner_changes owner)))) (OnFile index (Sets (owner_changes owner)))

abbrev pub bytes_reply : StoredFile → ℕ → List ℕ → DsReplyValue
bytes_reply f at bytes = Bytes (Some (shown_by f)) (ends_at f at bytes) bytes

abbrev pub read_at : ServerState → Caller → ℕ → ℕ → Named → DsPlan
read_at s caller at count Nothing = replies no_file
read_at s caller at count Root = replies (at_root s)
read_at s caller at count (File index f) = unless f (read_refusal f caller) (bytes_reply f at (bytes_read f at count)) NoEffect

-- the name in the root that has a number: m, and the number
abbrev pub mirror_name : ℕ → List ℕ
mirror_name number = codes "m" ++ decimal number

-- a file that has the name already stays as it is
abbrev pub created_before : ℕ → Option StoredFile → DsPlan
created_before index None = replies no_file
created_before index (Some f) = replies (Created (index + 2) (shown_by f))

abbrev pub made_unless : ServerState → List ℕ → ℕ → Option Refusal → DsPlan
made_unless s name owner (Some refusal) = replies (Failed (refusal_number refusal) None)
made_unless s name owner None = record {
  reply = Created (length s.files + 2) (shown_by (new_file owner owner FILE_MODE (next_tick s.clock)));
  effect = NewFile name owner owner FILE_MODE;
}

abbrev pub created_by : ServerState → List ℕ → ℕ → Option ℕ → DsPlan
created_by s name owner (Some index) = created_before index (slice_get s.files index)
created_by s name owner None = made_unless s name owner (tick_refusal s.clock)

-- only uid 0 may
abbrev pub create_in_root : ServerState → Caller → List ℕ → ℕ → DsPlan
create_in_root s caller name owner = if not (caller.uid == 0) then replies (Failed (refusal_number Acces) None) else created_by s name owner (index_of s.names name)

abbrev pub ds_plan : ServerState → Caller → DsCallValue → DsPlan
ds_plan s caller (Create name owner) = create_in_root s caller (mirror_name name) owner
ds_plan s caller (SetAttr fileid owner guard) = set_at s caller owner guard (named s.files fileid)
ds_plan s caller (Write fileid at synced bytes) = write_at s caller at synced bytes (named s.files fileid)
ds_plan s caller (Commit fileid) = commit_at s caller (named s.files fileid)
ds_plan s caller (Read fileid at count) = read_at s caller at count (named s.files fileid)

-- one step: the server after it, the reply, and the entries of the journal
pub record DsStep : Type 0 where
  pub server : ServerState
  pub reply : DsReplyValue
  pub entries : List Entry

abbrev pub ds_step : ServerState → Caller → DsCallValue → DsStep
ds_step s caller call =
    let plan = ds_plan s caller call in
    record { server = server_after s plan.effect; reply = plan.reply; entries = entries_of s caller.uid plan.effect }
