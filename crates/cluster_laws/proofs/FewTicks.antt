-- Each tick that a data server shows is one of those that a boot has.
use Rattle.std.proofs.Common.{◌≡◌, ◌≢◌, ℕ, ◌+◌, ◌≤◌, Bool, true, false, eqb, ltb, cond, List, [], ◌∷◌, length, Option, Some, None, refl, sym, subst, arith}
use Rattle.std.specs.Prelude.{not, slice_get, slice_set}
use Rattle.std.specs.List.{AllByRecursion}
use Rattle.std.proofs.lemmas.Bool.{cond_both}
use Rattle.cluster_model.specs.declared.piece.Piece.{Piece}
use Rattle.cluster_model.specs.declared.tick.Tick.{Tick}
use Rattle.cluster_model.specs.declared.ds_call.Shown.{Shown}
use Rattle.cluster_model.specs.File.{StoredFile, FileOp, Writes, Commits, Sets, Restarts, file_after, clock_after, new_file, taken}
use Rattle.cluster_model.specs.Ticks.{next_tick}
use Rattle.cluster_model.specs.Server.{ServerState, Named, Caller, Refusal, Acces, Inval, NotSync as OutOfSync, Fbig, NoSpc, Jukebox, max_boot, max_file, max_ticks, max_total, total_size, may_write, differs, tick_refusal, index_of, write_refusal, set_refusal, commit_refusal, read_refusal, Effect, NoEffect, OnFile, NewFile, on_file, server_after, new_server, files_restarted, server_restarted, restart_of}
use Rattle.cluster_model.specs.ServerLaws.{IsPermitted, IsTimed}
use Rattle.cluster_model.specs.DsCalls.{DsCallValue, Create, SetAttr, Write, Commit, Read, DsReplyValue, Created, Set, Written, Committed, Bytes, NotSync, Failed, DsPlan, shown_by, refusal_reply, unless, write_at, commit_at, set_at, read_at, mirror_name, created_before, made_unless, created_by, ds_plan, ds_step}
use Rattle.cluster_model.proofs.Permitted.{stops, tick_left, at_fileid, permitted}
use Rattle.cluster_model.proofs.Servers.{timed}
use Rattle.cluster_laws.proofs.Lists.{all_append, all_at, all_set}

-- the ctimes of a file, and all ticks of a server
pub record FileHasFewTicks (f : StoredFile) : Type 0 where
  pub now : f.times.ctime.count ≤ max_ticks
  pub stable : f.stable_times.ctime.count ≤ max_ticks

pub record HasFewTicks (s : ServerState) : Type 0 where
  pub last : s.clock.count ≤ max_ticks
  pub root : s.root.ctime.count ≤ max_ticks
  pub files : AllByRecursion FileHasFewTicks s.files

-- what a reply shows
abbrev pub ShownIsFew : Option Shown → Type 0
ShownIsFew None = Unit {0}
ShownIsFew (Some shown) = shown.seen.count ≤ max_ticks

abbrev pub ShowsFewTicks : DsReplyValue → Type 0
ShowsFewTicks (Created fileid shown) = shown.seen.count ≤ max_ticks
ShowsFewTicks (Set shown) = ShownIsFew shown
ShowsFewTicks (Written shown verifier) = ShownIsFew shown
ShowsFewTicks (Committed shown verifier) = ShownIsFew shown
ShowsFewTicks (Bytes shown eof bytes) = ShownIsFew shown
ShowsFewTicks (NotSync shown) = shown.seen.count ≤ max_ticks
ShowsFewTicks (Failed status shown) = ShownIsFew shown

-- ---- a file

-- where the last tick then is one that a boot has
op_few : (f : StoredFile) (clock : Tick) (op : FileOp) → (clock_after clock op).count ≤ max_ticks → FileHasFewTicks f → FileHasFewTicks (file_after f clock op)
op_few f clock (Writes at false []) few h = record { now = h.now; stable = h.stable }
op_few f clock (Writes at false (b ∷ bytes)) few h = record { now = few; stable = h.stable }
op_few f clock (Writes at true []) few h = record { now = h.now; stable = h.now }
op_few f clock (Writes at true (b ∷ bytes)) few h = record { now = few; stable = few }
op_few f clock Commits few h = record { now = h.now; stable = h.now }
op_few f clock (Sets changes) few h = record { now = few; stable = few }
op_few f clock (Restarts pieces) few h = record { now = h.stable; stable = h.stable }

-- ---- a server

effect_few : (s : ServerState) (caller : Caller) (effect : Effect) → IsPermitted s caller effect → HasFewTicks s → HasFewTicks (server_after s effect)
effect_few s caller NoEffect may h = h
effect_few s caller (OnFile index op) may h =
    let f : StoredFile = may.0 in
    let time = subst (λ (o : Option StoredFile). IsTimed s (on_file s index op o)) may.1 (timed s caller (OnFile index op) may) in
    let few = time.bounded h.last in
    subst (λ (o : Option StoredFile). HasFewTicks (on_file s index op o)) (sym may.1)
    (record { last = few; root = h.root; files = all_set FileHasFewTicks s.files index (file_after f s.clock op) h.files (op_few f s.clock op few (all_at FileHasFewTicks s.files index f h.files may.1)) })
effect_few s caller (NewFile name owner group mode) may h =
    let few = (timed s caller (NewFile name owner group mode) may).bounded h.last in
    record { last = few; root = few; files = all_append FileHasFewTicks s.files (new_file owner group mode (next_tick s.clock) ∷ []) h.files (record { now = few; stable = few }, tt) }

pub step_few : (s : ServerState) (caller : Caller) (call : DsCallValue) → HasFewTicks s → HasFewTicks (ds_step s caller call).server
step_few s caller call h = effect_few s caller (ds_plan s caller call).effect (permitted s caller call) h

pub start_few : (number boot : ℕ) → HasFewTicks (new_server number boot)
start_few number boot = record { last = omega arith; root = omega arith; files = tt }

files_few : (n : ℕ) (files : List StoredFile) (pieces : List Piece) → AllByRecursion FileHasFewTicks files → AllByRecursion FileHasFewTicks (files_restarted n files pieces)
files_few n [] pieces h = tt
files_few n (f ∷ files) pieces h = (record { now = h.0.stable; stable = h.0.stable }, files_few (n + 1) files pieces h.1)

some_by : (b : Bool) (x y : ServerState) → cond b None (Some x) ≡ Some y → x ≡ y
some_by true x y e = absurd cc
some_by false x y e = cc

pub restart_few : (s : ServerState) (pieces : List Piece) (new : ServerState) → restart_of s pieces ≡ Some new → HasFewTicks s → HasFewTicks new
restart_few s pieces new is h =
    subst HasFewTicks (some_by (eqb s.clock.boot max_boot) (server_restarted s pieces) new is) (record { last = omega arith; root = h.root; files = files_few 2 s.files pieces h.files })

-- ---- a reply

module _ (s : ServerState) (h : HasFewTicks s) where
  next_few : s.clock.count ≢ max_ticks → s.clock.count + 1 ≤ max_ticks
  next_few left = let few = h.last in omega (arith, left, few)

  refused_few : (f : StoredFile) (refusal : Refusal) → FileHasFewTicks f → ShowsFewTicks (refusal_reply refusal (shown_by f))
  refused_few f OutOfSync k = k.now
  refused_few f Acces k = k.now
  refused_few f Inval k = k.now
  refused_few f Fbig k = k.now
  refused_few f NoSpc k = k.now
  refused_few f Jukebox k = k.now

  unless_few : (f : StoredFile) (r : Option Refusal) (reply : DsReplyValue) (does : Effect) → FileHasFewTicks f → (r ≡ None → ShowsFewTicks reply) → ShowsFewTicks (unless f r reply does).reply
  unless_few f None reply does k shows = shows refl
  unless_few f (Some refusal) reply does k shows = refused_few f refusal k

  file_at : (index : ℕ) (f : StoredFile) → slice_get s.files index ≡ Some f → FileHasFewTicks f
  file_at index f there = all_at FileHasFewTicks s.files index f h.files there

  -- a tick is left for what is done
  write_left : (index : ℕ) (f : StoredFile) (caller : Caller) (at : ℕ) (synced : Bool) (bytes : List ℕ) → write_refusal s index f caller true at bytes ≡ None → (clock_after s.clock (Writes at synced bytes)).count ≤ max_ticks
  write_left index f caller at synced [] e = h.last
  write_left index f caller at synced (b ∷ bytes) e =
      let access = stops (not (may_write f caller)) Acces _ e in
      let good = stops (not true) Inval _ access.1 in
      let short = stops (ltb max_file (at + length (b ∷ bytes))) Fbig _ good.1 in
      let room = stops (ltb max_total (total_size (slice_set s.files index (taken f (next_tick s.clock) at (b ∷ bytes))))) NoSpc _ short.1 in
      next_few (tick_left s.clock room.1)

  set_left : (f : StoredFile) (caller : Caller) (guard : Tick) → set_refusal s f caller true (Some guard) ≡ None → s.clock.count + 1 ≤ max_ticks
  set_left f caller guard e =
      let access = stops (not (eqb caller.uid 0)) Acces _ e in
      let good = stops (not true) Inval _ access.1 in
      let same = stops (differs (Some guard) f.times.ctime) OutOfSync _ good.1 in
      next_few (tick_left s.clock same.1)

  before_few : (index : ℕ) (o : Option StoredFile) → slice_get s.files index ≡ o → ShowsFewTicks (created_before index o).reply
  before_few index None there = tt
  before_few index (Some f) there = (file_at index f there).now

  made_few : (name : List ℕ) (owner : ℕ) (r : Option Refusal) → (r ≡ None → s.clock.count + 1 ≤ max_ticks) → ShowsFewTicks (made_unless s name owner r).reply
  made_few name owner None few = few refl
  made_few name owner (Some refusal) few = tt

  created_few : (name : List ℕ) (owner : ℕ) (found : Option ℕ) → ShowsFewTicks (created_by s name owner found).reply
  created_few name owner None = made_few name owner (tick_refusal s.clock) (λ e. next_few (tick_left s.clock e))
  created_few name owner (Some index) = before_few index (slice_get s.files index) refl

  pub reply_few : (caller : Caller) (call : DsCallValue) → ShowsFewTicks (ds_step s caller call).reply
  reply_few caller (Create name owner) =
      cond_both (not (eqb caller.uid 0)) _ (created_by s (mirror_name name) owner (index_of s.names (mirror_name name))) (λ (p : DsPlan). ShowsFewTicks p.reply) (λ e. tt) (λ e. created_few (mirror_name name) owner (index_of s.names (mirror_name name)))
  reply_few caller (SetAttr fileid owner guard) =
      at_fileid s.files (λ (n : Named). ShowsFewTicks (set_at s caller owner guard n).reply) tt h.root
      (λ index f there. unless_few f (set_refusal s f caller true (Some guard)) _ _ (file_at index f there) (λ e. set_left f caller guard e)) fileid
  reply_few caller (Write fileid at synced bytes) =
      at_fileid s.files (λ (n : Named). ShowsFewTicks (write_at s caller at synced bytes n).reply) tt h.root
      (λ index f there. unless_few f (write_refusal s index f caller true at bytes) _ _ (file_at index f there) (λ e. (op_few f s.clock (Writes at synced bytes) (write_left index f caller at synced bytes e) (file_at index f there)).now)) fileid
  reply_few caller (Commit fileid) =
      at_fileid s.files (λ (n : Named). ShowsFewTicks (commit_at s caller n).reply) tt h.root (λ index f there. unless_few f (commit_refusal f caller) _ _ (file_at index f there) (λ e. (file_at index f there).now)) fileid
  reply_few caller (Read fileid at count) =
      at_fileid s.files (λ (n : Named). ShowsFewTicks (read_at s caller at count n).reply) tt h.root (λ index f there. unless_few f (read_refusal f caller) _ _ (file_at index f there) (λ e. (file_at index f there).now)) fileid
