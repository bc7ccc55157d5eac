-- What the rule does, one may do who calls.
use Rattle.std.proofs.Common.{◌≡◌, ◌≢◌, ℕ, ◌+◌, ◌-◌, Bool, true, false, eqb, ltb, cond, List, [], ◌∷◌, length, Option, Some, None, refl}
use Rattle.std.specs.Prelude.{not, slice_get, slice_set}
use Rattle.std.proofs.lemmas.Bool.{cond_both, eqb-true, eqb-false}
use Rattle.cluster_model.specs.declared.tick.Tick.{Tick}
use Rattle.cluster_model.specs.declared.change.Changes.{Changes}
use Rattle.cluster_model.specs.File.{StoredFile, FileOp, Writes, Commits, Sets, taken}
use Rattle.cluster_model.specs.Ticks.{next_tick}
use Rattle.cluster_model.specs.Server.{ServerState, Named, Nothing, Root, File, file_at, named, total_size, Caller, may_write, max_file, max_total, max_ticks, Refusal, Acces, Inval, NotSync, Fbig, NoSpc, Jukebox, tick_refusal, write_refusal, commit_refusal, set_refusal, differs, index_of, NoEffect, OnFile}
use Rattle.cluster_model.specs.DsCalls.{DsCallValue, Create, SetAttr, Write, Commit, Read, DsReplyValue, DsPlan, unless, owner_changes, ds_plan, write_at, commit_at, set_at, read_at, made_unless, created_by, created_before, mirror_name}
use Rattle.cluster_model.specs.ServerLaws.{MayDo, IsPermitted}

pub stops : {A : Type 0} (b : Bool) (x : A) (r : Option A) → cond b (Some x) r ≡ None → (b ≡ false) × (r ≡ None)
stops true x r e = absurd cc
stops false x r e = (refl, e)

pub not_false : (b : Bool) → not b ≡ false → b ≡ true
not_false true e = refl
not_false false e = absurd cc

-- a tick is left for a change that is not refused for want of one
pub tick_left : (clock : Tick) → tick_refusal clock ≡ None → clock.count ≢ max_ticks
tick_left clock e = eqb-false _ _ (stops (eqb clock.count max_ticks) Jukebox None e).0

-- a WRITE that is not refused
pub write_may : (s : ServerState) (index : ℕ) (f : StoredFile) (caller : Caller) (agree : Bool) (at : ℕ) (synced : Bool) (bytes : List ℕ) → write_refusal s index f caller agree at bytes ≡ None → MayDo s.clock f caller (Writes at synced bytes)
write_may s index f caller agree at synced [] e = not_false _ (stops (not (may_write f caller)) Acces _ e).0
write_may s index f caller agree at synced (b ∷ bytes) e =
    let access = stops (not (may_write f caller)) Acces _ e in
    let good = stops (not agree) Inval _ access.1 in
    let short = stops (ltb max_file (at + length (b ∷ bytes))) Fbig _ good.1 in
    let room = stops (ltb max_total (total_size (slice_set s.files index (taken f (next_tick s.clock) at (b ∷ bytes))))) NoSpc _ short.1 in
    (not_false _ access.0, tick_left s.clock room.1)

-- a COMMIT
pub commit_may : (clock : Tick) (f : StoredFile) (caller : Caller) → commit_refusal f caller ≡ None → MayDo clock f caller Commits
commit_may clock f caller = commit_by (may_write f caller)
  where
    commit_by : (may : Bool) → cond may None (Some Acces) ≡ None → may ≡ true
    commit_by true e = refl
    commit_by false e = absurd cc

-- a SETATTR
pub set_may : (s : ServerState) (f : StoredFile) (caller : Caller) (agree : Bool) (guard : Option Tick) (changes : Changes) → set_refusal s f caller agree guard ≡ None → MayDo s.clock f caller (Sets changes)
set_may s f caller agree guard changes e =
    let access = stops (not (eqb caller.uid 0)) Acces _ e in
    let good = stops (not agree) Inval _ access.1 in
    let same = stops (differs guard f.times.ctime) NotSync _ good.1 in
    (eqb-true _ _ (not_false _ access.0), tick_left s.clock same.1)

-- what holds of a call whatever its fileid names
module _ (files : List StoredFile) (P : Named → Type 0) (nothing : P Nothing) (root : P Root) (file : (index : ℕ) (f : StoredFile) → slice_get files index ≡ Some f → P (File index f)) where
  at_found : (index : ℕ) (found : Option StoredFile) → slice_get files index ≡ found → P (file_at index found)
  at_found index None e = nothing
  at_found index (Some f) e = file index f e

  pub at_fileid : (fileid : ℕ) → P (named files fileid)
  at_fileid fileid =
      cond_both (eqb fileid 1) Root (cond (ltb fileid 2) Nothing (file_at (fileid - 2) (slice_get files (fileid - 2)))) P (λ e. root) (λ e.
      cond_both (ltb fileid 2) Nothing (file_at (fileid - 2) (slice_get files (fileid - 2))) P (λ e. nothing) (λ e. at_found (fileid - 2) (slice_get files (fileid - 2)) refl))

done_unless : (s : ServerState) (caller : Caller) (index : ℕ) (f : StoredFile) (op : FileOp) (reply : DsReplyValue) (refusal : Option Refusal) → slice_get s.files index ≡ Some f → (refusal ≡ None → MayDo s.clock f caller op) → IsPermitted s caller (unless f refusal reply (OnFile index op)).effect
done_unless s caller index f op reply (Some refusal) there may = tt
done_unless s caller index f op reply None there may = (f, there, may refl)

asks : (s : ServerState) (caller : Caller) (f : StoredFile) (reply : DsReplyValue) (refusal : Option Refusal) → IsPermitted s caller (unless f refusal reply NoEffect).effect
asks s caller f reply (Some refusal) = tt
asks s caller f reply None = tt

made_by : (s : ServerState) (caller : Caller) (name : List ℕ) (owner : ℕ) (refusal : Option Refusal) → caller.uid ≡ 0 → (refusal ≡ None → s.clock.count ≢ max_ticks) → IsPermitted s caller (made_unless s name owner refusal).effect
made_by s caller name owner (Some refusal) root left = tt
made_by s caller name owner None root left = (root, left refl)

before : (s : ServerState) (caller : Caller) (index : ℕ) (found : Option StoredFile) → IsPermitted s caller (created_before index found).effect
before s caller index None = tt
before s caller index (Some f) = tt

by_name : (s : ServerState) (caller : Caller) (name : List ℕ) (owner : ℕ) (found : Option ℕ) → caller.uid ≡ 0 → IsPermitted s caller (created_by s name owner found).effect
by_name s caller name owner (Some index) root = before s caller index (slice_get s.files index)
by_name s caller name owner None root = made_by s caller name owner (tick_refusal s.clock) root (tick_left s.clock)

pub permitted : (s : ServerState) (caller : Caller) (call : DsCallValue) → IsPermitted s caller (ds_plan s caller call).effect
permitted s caller (Create name owner) =
    cond_both (not (eqb caller.uid 0)) _ (created_by s (mirror_name name) owner (index_of s.names (mirror_name name))) (λ (p : DsPlan). IsPermitted s caller p.effect) (λ e. tt) (λ e. by_name s caller (mirror_name name) owner (index_of s.names (mirror_name name)) (eqb-true _ _ (not_false _ e)))
permitted s caller (SetAttr fileid owner guard) =
    at_fileid s.files (λ (n : Named). IsPermitted s caller (set_at s caller owner guard n).effect) tt tt (λ index f there. done_unless s caller index f _ _ (set_refusal s f caller true (Some guard)) there (set_may s f caller true (Some guard) (owner_changes owner))) fileid
permitted s caller (Write fileid at synced bytes) =
    at_fileid s.files (λ (n : Named). IsPermitted s caller (write_at s caller at synced bytes n).effect) tt tt (λ index f there. done_unless s caller index f _ _ (write_refusal s index f caller true at bytes) there (write_may s index f caller true at synced bytes)) fileid
permitted s caller (Commit fileid) =
    at_fileid s.files (λ (n : Named). IsPermitted s caller (commit_at s caller n).effect) tt tt (λ index f there. done_unless s caller index f _ _ (commit_refusal f caller) there (commit_may s.clock f caller)) fileid
permitted s caller (Read fileid at count) =
    at_fileid s.files (λ (n : Named). IsPermitted s caller (read_at s caller at count n).effect) tt tt (λ index f there. asks s caller f _ _) fileid
