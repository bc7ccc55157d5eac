-- What a call leaves at a data server, by its kind (RFC 1813, sections 3.3.2, 3.3.6 to 3.3.8 and 3.3.21).
use Rattle.std.proofs.Common.{◌≡◌, ◌≢◌, ℕ, ◌+◌, ◌-◌, ◌<◌, ◌≤◌, Bool, true, false, eqb, ltb, cond, List, [], ◌∷◌, length, Option, Some, None, refl, sym, ap, subst, arith}
use Rattle.std.specs.Prelude.{not, slice_get, slice_set}
use Rattle.std.specs.List.{AllByRecursion}
use Rattle.std.proofs.lemmas.Bool.{cond_both, ltb-false}
use Rattle.cluster_model.specs.declared.tick.Tick.{Tick}
use Rattle.cluster_model.specs.declared.ids.Cred.{Cred}
use Rattle.cluster_model.specs.declared.ids.MirrorId.{MirrorId}
use Rattle.cluster_model.specs.declared.ds_call.Shown.{Shown}
use Rattle.cluster_model.specs.declared.entry.Entry.{Entry}
use Rattle.cluster_model.specs.declared.entry.Entry.TheVariants as entry
use Rattle.cluster_model.specs.declared.piece.Piece.{Piece}
use Rattle.cluster_model.specs.Content.{Pending}
use Rattle.cluster_model.specs.File.{StoredFile, Writes, Commits, Sets, taken}
use Rattle.cluster_model.specs.Ticks.{next_tick}
use Rattle.cluster_model.specs.Server.{ServerState, Named, Nothing, Root, File, file_at, named, total_size, Caller, may_write, may_read, max_file, max_total, max_ticks, max_boot, Refusal, Acces, Inval, NotSync as OutOfSync, Fbig, NoSpc, Jukebox, tick_refusal, room_refusal, write_refusal, commit_refusal, set_refusal, read_refusal, index_of, mirror_of, op_entries, entries_of, Effect, NoEffect, OnFile, server_restarted, restart_of}
use Rattle.cluster_model.specs.DsCalls.{DsCallValue, Create, SetAttr, Write, Commit, Read, DsReplyValue, Set, Written, Committed, Failed, DsPlan, refusal_reply, unless, shown_by, owner_changes, ds_plan, ds_step, write_at, commit_at, set_at, read_at, mirror_name, made_unless, created_by, created_before, create_in_root}
use Rattle.cluster_model.specs.ServerLaws.{IsTimed}
use Rattle.cluster_model.proofs.Permitted.{permitted}
use Rattle.cluster_model.proofs.Servers.{timed}
use Rattle.cluster_laws.specs.Holders.{IsIn, the_write}
use Rattle.sound_journals.specs.Marks.{UserMarks, marks_after, marks_by}
use Rattle.covered_writes.specs.CoveredWrites.{answers_call}
use Rattle.covered_writes.proofs.MarkSteps.{IsNotRestartOf, applied_here, committed_covers, here_by, mirror_at, same_mirror}

-- the same server in the same boot
pub same_boot : (s : ServerState) (caller : Caller) (call : DsCallValue) → IsTimed s (ds_step s caller call).server
same_boot s caller call = timed s caller (ds_plan s caller call).effect (permitted s caller call)

-- ---- entries of a call

-- a write that is applied is that of the call, under the caller's user
pub record IsWriteOf (n uid : ℕ) (call : DsCallValue) (mirror : MirrorId) (cred : Cred) (at : ℕ) (bytes : List ℕ) : Type 0 where
  pub server : mirror.server ≡ n
  pub user : cred.0 ≡ uid
  pub synced : Bool
  pub call_is : call ≡ Write mirror.fileid at synced bytes

abbrev pub IsOfStep : ℕ → ℕ → DsCallValue → Entry → Type 0
IsOfStep n uid call (entry.Applied mirror cred at bytes) = IsWriteOf n uid call mirror cred at bytes
IsOfStep n uid call (entry.Restarted server pieces) = ⊥
IsOfStep n uid call _ = Unit {0}

pub no_restart : (k n uid : ℕ) (call : DsCallValue) (e : Entry) → IsOfStep n uid call e → IsNotRestartOf k e
no_restart k n uid call (entry.Restarted server pieces) of_step = absurd of_step
no_restart k n uid call (entry.Applied mirror cred at bytes) of_step = tt
no_restart k n uid call _ of_step = tt

-- ---- what a call comes to, whatever its fileid names

module _ (files : List StoredFile) (P : Named → Type 0) (nothing : P Nothing) (root : P Root) (fileid : ℕ) (file : (f : StoredFile) → 2 ≤ fileid → P (File (fileid - 2) f)) where
  at_found : 2 ≤ fileid → (found : Option StoredFile) → P (file_at (fileid - 2) found)
  at_found up None = nothing
  at_found up (Some f) = file f up

  at_named : P (named files fileid)
  at_named =
      cond_both (eqb fileid 1) Root (cond (ltb fileid 2) Nothing (file_at (fileid - 2) (slice_get files (fileid - 2)))) P (λ e. root) (λ e.
      cond_both (ltb fileid 2) Nothing (file_at (fileid - 2) (slice_get files (fileid - 2))) P (λ e. nothing) (λ e. at_found (ltb-false fileid 2 e) (slice_get files (fileid - 2))))

place_again : (fileid : ℕ) → 2 ≤ fileid → fileid - 2 + 2 ≡ fileid
place_again fileid up = omega (arith, up)

-- a reply of the call's kind, and entries of it
pub record IsPlanOf (s : ServerState) (caller : Caller) (call : DsCallValue) (plan : DsPlan) : Type 0 where
  pub kind : answers_call call plan.reply ≡ true
  pub entries : AllByRecursion (IsOfStep s.number caller.uid call) (entries_of s caller.uid plan.effect)

-- a failure is a reply to any call
fails : (call : DsCallValue) (status : ℕ) (shown : Option Shown) → answers_call call (Failed status shown) ≡ true
fails (Create name owner) status shown = refl
fails (SetAttr fileid owner guard) status shown = refl
fails (Write fileid at synced bytes) status shown = refl
fails (Commit fileid) status shown = refl
fails (Read fileid at count) status shown = refl

module _ (s : ServerState) (caller : Caller) where
  failed : (call : DsCallValue) (status : ℕ) (shown : Option Shown) → IsPlanOf s caller call (record { reply = Failed status shown; effect = NoEffect })
  failed call status shown = record { kind = fails call status shown; entries = tt }

  -- it is refused with another status than NOT_SYNC
  refused : (call : DsCallValue) (f : StoredFile) (r : Refusal) → r ≢ OutOfSync → IsPlanOf s caller call (record { reply = refusal_reply r (shown_by f); effect = NoEffect })
  refused call f OutOfSync other = absurd (other refl)
  refused call f Acces other = failed call _ _
  refused call f Inval other = failed call _ _
  refused call f Fbig other = failed call _ _
  refused call f NoSpc other = failed call _ _
  refused call f Jukebox other = failed call _ _

  done_unless : (call : DsCallValue) (f : StoredFile) (r : Option Refusal) (reply : DsReplyValue) (does : Effect) → r ≢ Some OutOfSync → IsPlanOf s caller call (record { reply = reply; effect = does }) → IsPlanOf s caller call (unless f r reply does)
  done_unless call f None reply does other is = is
  done_unless call f (Some r) reply does other is = refused call f r (λ e. other (ap Some e))

  -- ---- no WRITE, COMMIT or READ is out of sync

  no_tick : (clock : Tick) → tick_refusal clock ≢ Some OutOfSync
  no_tick clock = cond_both (eqb clock.count max_ticks) (Some Jukebox) None (λ (r : Option Refusal). r ≢ Some OutOfSync) (λ e is. absurd cc) (λ e is. absurd cc)

  no_room : (index : ℕ) (f : StoredFile) (at : ℕ) (bytes : List ℕ) → room_refusal s index f at bytes ≢ Some OutOfSync
  no_room index f at [] = λ is. absurd cc
  no_room index f at (b ∷ bytes) =
      cond_both (ltb max_file (at + length (b ∷ bytes))) (Some Fbig) _ (λ (r : Option Refusal). r ≢ Some OutOfSync) (λ e is. absurd cc)
      (λ e. cond_both (ltb max_total (total_size (slice_set s.files index (taken f (next_tick s.clock) at (b ∷ bytes))))) (Some NoSpc) (tick_refusal s.clock) (λ (r : Option Refusal). r ≢ Some OutOfSync) (λ e is. absurd cc) (λ e. no_tick s.clock))

  no_write : (index : ℕ) (f : StoredFile) (at : ℕ) (bytes : List ℕ) → write_refusal s index f caller true at bytes ≢ Some OutOfSync
  no_write index f at bytes = cond_both (not (may_write f caller)) (Some Acces) (room_refusal s index f at bytes) (λ (r : Option Refusal). r ≢ Some OutOfSync) (λ e is. absurd cc) (λ e. no_room index f at bytes)

  no_commit : (f : StoredFile) → commit_refusal f caller ≢ Some OutOfSync
  no_commit f = cond_both (may_write f caller) None (Some Acces) (λ (r : Option Refusal). r ≢ Some OutOfSync) (λ e is. absurd cc) (λ e is. absurd cc)

  no_read : (f : StoredFile) → read_refusal f caller ≢ Some OutOfSync
  no_read f = cond_both (may_read f caller) None (Some Acces) (λ (r : Option Refusal). r ≢ Some OutOfSync) (λ e is. absurd cc) (λ e is. absurd cc)

  -- ---- by the kind of the call

  write_entries : (fileid at : ℕ) (synced : Bool) (bytes : List ℕ) → 2 ≤ fileid → AllByRecursion (IsOfStep s.number caller.uid (Write fileid at synced bytes)) (op_entries (mirror_of s (fileid - 2)) caller.uid (Writes at synced bytes))
  write_entries fileid at false [] up = tt
  write_entries fileid at true [] up = (tt, tt)
  write_entries fileid at false (b ∷ bytes) up = (record { server = refl; user = refl; synced = false; call_is = ap (λ k. Write k at false (b ∷ bytes)) (sym (place_again fileid up)) }, tt)
  write_entries fileid at true (b ∷ bytes) up = (record { server = refl; user = refl; synced = true; call_is = ap (λ k. Write k at true (b ∷ bytes)) (sym (place_again fileid up)) }, (tt, tt))

  writes : (fileid at : ℕ) (synced : Bool) (bytes : List ℕ) → IsPlanOf s caller (Write fileid at synced bytes) (write_at s caller at synced bytes (named s.files fileid))
  writes fileid at synced bytes =
      let call : DsCallValue = Write fileid at synced bytes in
      at_named s.files (λ (n : Named). IsPlanOf s caller call (write_at s caller at synced bytes n)) (failed call _ _) (failed call _ _) fileid
      (λ f up. done_unless call f (write_refusal s (fileid - 2) f caller true at bytes) _ _ (no_write (fileid - 2) f at bytes) (record { kind = refl; entries = write_entries fileid at synced bytes up }))

  commits : (fileid : ℕ) → IsPlanOf s caller (Commit fileid) (commit_at s caller (named s.files fileid))
  commits fileid =
      at_named s.files (λ (n : Named). IsPlanOf s caller (Commit fileid) (commit_at s caller n)) (failed (Commit fileid) _ _) (failed (Commit fileid) _ _) fileid
      (λ f up. done_unless (Commit fileid) f (commit_refusal f caller) _ _ (no_commit f) (record { kind = refl; entries = (tt, tt) }))

  reads : (fileid at count : ℕ) → IsPlanOf s caller (Read fileid at count) (read_at s caller at count (named s.files fileid))
  reads fileid at count =
      at_named s.files (λ (n : Named). IsPlanOf s caller (Read fileid at count) (read_at s caller at count n)) (failed (Read fileid at count) _ _) (failed (Read fileid at count) _ _) fileid
      (λ f up. done_unless (Read fileid at count) f (read_refusal f caller) _ NoEffect (no_read f) (record { kind = refl; entries = tt }))

  set_refused : (fileid owner : ℕ) (guard : Tick) (f : StoredFile) (r : Refusal) → IsPlanOf s caller (SetAttr fileid owner guard) (record { reply = refusal_reply r (shown_by f); effect = NoEffect })
  set_refused fileid owner guard f OutOfSync = record { kind = refl; entries = tt }
  set_refused fileid owner guard f Acces = failed (SetAttr fileid owner guard) _ _
  set_refused fileid owner guard f Inval = failed (SetAttr fileid owner guard) _ _
  set_refused fileid owner guard f Fbig = failed (SetAttr fileid owner guard) _ _
  set_refused fileid owner guard f NoSpc = failed (SetAttr fileid owner guard) _ _
  set_refused fileid owner guard f Jukebox = failed (SetAttr fileid owner guard) _ _

  set_unless : (fileid owner : ℕ) (guard : Tick) (index : ℕ) (f : StoredFile) (r : Option Refusal) (shown : Option Shown) → IsPlanOf s caller (SetAttr fileid owner guard) (unless f r (Set shown) (OnFile index (Sets (owner_changes owner))))
  set_unless fileid owner guard index f None shown = record { kind = refl; entries = (tt, tt) }
  set_unless fileid owner guard index f (Some r) shown = set_refused fileid owner guard f r

  sets : (fileid owner : ℕ) (guard : Tick) → IsPlanOf s caller (SetAttr fileid owner guard) (set_at s caller owner guard (named s.files fileid))
  sets fileid owner guard =
      at_named s.files (λ (n : Named). IsPlanOf s caller (SetAttr fileid owner guard) (set_at s caller owner guard n)) (failed (SetAttr fileid owner guard) _ _) (failed (SetAttr fileid owner guard) _ _) fileid
      (λ f up. set_unless fileid owner guard (fileid - 2) f (set_refusal s f caller true (Some guard)) _)

  before : (name owner index : ℕ) (found : Option StoredFile) → IsPlanOf s caller (Create name owner) (created_before index found)
  before name owner index None = failed (Create name owner) _ _
  before name owner index (Some f) = record { kind = refl; entries = tt }

  made : (name owner : ℕ) (r : Option Refusal) → IsPlanOf s caller (Create name owner) (made_unless s (mirror_name name) owner r)
  made name owner None = record { kind = refl; entries = (tt, tt) }
  made name owner (Some r) = failed (Create name owner) _ _

  created : (name owner : ℕ) (found : Option ℕ) → IsPlanOf s caller (Create name owner) (created_by s (mirror_name name) owner found)
  created name owner None = made name owner (tick_refusal s.clock)
  created name owner (Some index) = before name owner index (slice_get s.files index)

  creates : (name owner : ℕ) → IsPlanOf s caller (Create name owner) (create_in_root s caller (mirror_name name) owner)
  creates name owner =
      cond_both (not (eqb caller.uid 0)) _ (created_by s (mirror_name name) owner (index_of s.names (mirror_name name))) (IsPlanOf s caller (Create name owner)) (λ e. failed (Create name owner) _ _) (λ e. created name owner (index_of s.names (mirror_name name)))

  pub plan_of_call : (call : DsCallValue) → IsPlanOf s caller call (ds_plan s caller call)
  plan_of_call (Create name owner) = creates name owner
  plan_of_call (SetAttr fileid owner guard) = sets fileid owner guard
  plan_of_call (Write fileid at synced bytes) = writes fileid at synced bytes
  plan_of_call (Commit fileid) = commits fileid
  plan_of_call (Read fileid at count) = reads fileid at count

  -- ---- a WRITE that is answered

  pub record HasWritten (fileid at : ℕ) (bytes : List ℕ) (verifier : ℕ) (entries : List Entry) : Type 0 where
    pub boot : verifier ≡ s.clock.boot
    pub here : 0 < length bytes → (k : UserMarks) → IsIn (the_write at bytes) (marks_by caller.uid (mirror_at s.number fileid) k entries).here

  not_written : (f : StoredFile) (r : Refusal) (shown : Option Shown) (verifier : ℕ) → refusal_reply r (shown_by f) ≢ Written shown verifier
  not_written f OutOfSync shown verifier is = cc
  not_written f Acces shown verifier is = cc
  not_written f Inval shown verifier is = cc
  not_written f Fbig shown verifier is = cc
  not_written f NoSpc shown verifier is = cc
  not_written f Jukebox shown verifier is = cc

  its_verifier : (a b : Option Shown) (v u : ℕ) → Written a v ≡ Written b u → u ≡ v
  its_verifier a b v u is = cc

  here_then : (fileid at : ℕ) (synced : Bool) (bytes : List ℕ) → 2 ≤ fileid → 0 < length bytes → (k : UserMarks)
      → IsIn (the_write at bytes) (marks_by caller.uid (mirror_at s.number fileid) k (op_entries (mirror_of s (fileid - 2)) caller.uid (Writes at synced bytes))).here
  here_then fileid at synced [] up some k = absurd (omega (arith, some))
  here_then fileid at false (b ∷ bytes) up some k =
      applied_here caller.uid (mirror_at s.number fileid) k (mirror_of s (fileid - 2)) (record { 0 = caller.uid }) at (b ∷ bytes) (same_mirror (mirror_of s (fileid - 2)) (mirror_at s.number fileid) refl (place_again fileid up)) refl
  here_then fileid at true (b ∷ bytes) up some k =
      let mirror : MirrorId = mirror_of s (fileid - 2) in
      let e : Entry = entry.Applied mirror (record { 0 = caller.uid }) at (b ∷ bytes) in
      here_by caller.uid (mirror_at s.number fileid) (entry.Committed mirror ∷ []) (tt, tt) (marks_after caller.uid (mirror_at s.number fileid) k e) (the_write at (b ∷ bytes))
      (applied_here caller.uid (mirror_at s.number fileid) k mirror (record { 0 = caller.uid }) at (b ∷ bytes) (same_mirror mirror (mirror_at s.number fileid) refl (place_again fileid up)) refl)

  written_unless : (fileid at : ℕ) (synced : Bool) (bytes : List ℕ) (f : StoredFile) → 2 ≤ fileid → (a : Option Shown) (r : Option Refusal) (shown : Option Shown) (verifier : ℕ)
      → (unless f r (Written a s.clock.boot) (OnFile (fileid - 2) (Writes at synced bytes))).reply ≡ Written shown verifier
      → HasWritten fileid at bytes verifier (entries_of s caller.uid (unless f r (Written a s.clock.boot) (OnFile (fileid - 2) (Writes at synced bytes))).effect)
  written_unless fileid at synced bytes f up a (Some r) shown verifier is = absurd (not_written f r shown verifier is)
  written_unless fileid at synced bytes f up a None shown verifier is = record { boot = its_verifier a shown s.clock.boot verifier is; here = here_then fileid at synced bytes up }

  written_at : (fileid at : ℕ) (synced : Bool) (bytes : List ℕ) (shown : Option Shown) (verifier : ℕ)
      → (ds_step s caller (Write fileid at synced bytes)).reply ≡ Written shown verifier → HasWritten fileid at bytes verifier (ds_step s caller (Write fileid at synced bytes)).entries
  written_at fileid at synced bytes shown verifier =
      at_named s.files (λ (n : Named). (write_at s caller at synced bytes n).reply ≡ Written shown verifier → HasWritten fileid at bytes verifier (entries_of s caller.uid (write_at s caller at synced bytes n).effect))
      (λ is. absurd cc) (λ is. absurd cc) fileid (λ f up. written_unless fileid at synced bytes f up _ (write_refusal s (fileid - 2) f caller true at bytes) shown verifier)

  pub has_written : (call : DsCallValue) (fileid at : ℕ) (synced : Bool) (bytes : List ℕ) → call ≡ Write fileid at synced bytes → (shown : Option Shown) (verifier : ℕ)
      → (ds_step s caller call).reply ≡ Written shown verifier → HasWritten fileid at bytes verifier (ds_step s caller call).entries
  has_written call fileid at synced bytes is shown verifier =
      subst (λ (c : DsCallValue). (ds_step s caller c).reply ≡ Written shown verifier → HasWritten fileid at bytes verifier (ds_step s caller c).entries) (sym is) (written_at fileid at synced bytes shown verifier)

  -- ---- a COMMIT that is answered

  pub record HasCommitted (fileid verifier : ℕ) (entries : List Entry) : Type 0 where
    pub boot : verifier ≡ s.clock.boot
    pub covers : (uid : ℕ) (k : UserMarks) (w : Pending) → IsIn w k.here → IsIn w (marks_by uid (mirror_at s.number fileid) k entries).covered

  not_committed : (f : StoredFile) (r : Refusal) (shown : Option Shown) (verifier : ℕ) → refusal_reply r (shown_by f) ≢ Committed shown verifier
  not_committed f OutOfSync shown verifier is = cc
  not_committed f Acces shown verifier is = cc
  not_committed f Inval shown verifier is = cc
  not_committed f Fbig shown verifier is = cc
  not_committed f NoSpc shown verifier is = cc
  not_committed f Jukebox shown verifier is = cc

  commit_verifier : (a b : Option Shown) (v u : ℕ) → Committed a v ≡ Committed b u → u ≡ v
  commit_verifier a b v u is = cc

  committed_unless : (fileid : ℕ) (f : StoredFile) → 2 ≤ fileid → (a : Option Shown) (r : Option Refusal) (shown : Option Shown) (verifier : ℕ)
      → (unless f r (Committed a s.clock.boot) (OnFile (fileid - 2) Commits)).reply ≡ Committed shown verifier
      → HasCommitted fileid verifier (entries_of s caller.uid (unless f r (Committed a s.clock.boot) (OnFile (fileid - 2) Commits)).effect)
  committed_unless fileid f up a (Some r) shown verifier is = absurd (not_committed f r shown verifier is)
  committed_unless fileid f up a None shown verifier is = record {
    boot = commit_verifier a shown s.clock.boot verifier is;
    covers = λ uid k w here. committed_covers uid (mirror_at s.number fileid) k (mirror_of s (fileid - 2)) (same_mirror (mirror_of s (fileid - 2)) (mirror_at s.number fileid) refl (place_again fileid up)) w here;
  }

  committed_at : (fileid : ℕ) (shown : Option Shown) (verifier : ℕ) → (ds_step s caller (Commit fileid)).reply ≡ Committed shown verifier → HasCommitted fileid verifier (ds_step s caller (Commit fileid)).entries
  committed_at fileid shown verifier =
      at_named s.files (λ (n : Named). (commit_at s caller n).reply ≡ Committed shown verifier → HasCommitted fileid verifier (entries_of s caller.uid (commit_at s caller n).effect))
      (λ is. absurd cc) (λ is. absurd cc) fileid (λ f up. committed_unless fileid f up _ (commit_refusal f caller) shown verifier)

  pub has_committed : (call : DsCallValue) (fileid : ℕ) → call ≡ Commit fileid → (shown : Option Shown) (verifier : ℕ) → (ds_step s caller call).reply ≡ Committed shown verifier → HasCommitted fileid verifier (ds_step s caller call).entries
  has_committed call fileid is shown verifier =
      subst (λ (c : DsCallValue). (ds_step s caller c).reply ≡ Committed shown verifier → HasCommitted fileid verifier (ds_step s caller c).entries) (sym is) (committed_at fileid shown verifier)

-- ---- a restart

-- the same server in the next boot
pub record IsInNextBoot (s new : ServerState) : Type 0 where
  pub number : new.number ≡ s.number
  pub boot : s.clock.boot < new.clock.boot

some_by : (b : Bool) (x y : ServerState) → cond b None (Some x) ≡ Some y → x ≡ y
some_by true x y e = absurd cc
some_by false x y e = cc

pub next_boot : (s : ServerState) (pieces : List Piece) (new : ServerState) → restart_of s pieces ≡ Some new → IsInNextBoot s new
next_boot s pieces new is =
    subst (IsInNextBoot s) (some_by (eqb s.clock.boot max_boot) (server_restarted s pieces) new is) (record { number = refl; boot = omega arith })
