-- What a call at a data server enters: a write under the uid that the file belongs to, by whoever may write under it.
use Rattle.std.proofs.Common.{◌≡◌, ◌≢◌, ℕ, ◌⊎◌, Bool, true, false, eqb, not, List, [], ◌∷◌, ◌++◌, Option, Some, None, refl, sym, ap, subst, ◌∙◌, inl, inr}
use Rattle.std.specs.Prelude.{slice_get}
use Rattle.std.specs.List.{AllByRecursion}
use Rattle.std.proofs.lemmas.Bool.{cond_both}
use Rattle.cluster_model.specs.declared.tick.Tick.{Tick}
use Rattle.cluster_model.specs.declared.ids.Cred.{Cred}
use Rattle.cluster_model.specs.declared.ids.MirrorId.{MirrorId}
use Rattle.cluster_model.specs.declared.entry.Entry.{Entry}
use Rattle.cluster_model.specs.Content.{Pending}
use Rattle.cluster_model.specs.File.{StoredFile, FileOp, Writes, Commits, Sets, Restarts}
use Rattle.cluster_model.specs.Journal.{Copy, content_of}
use Rattle.cluster_model.specs.Server.{ServerState, Caller, Named, Nothing, Root, File, named, mirror_of, Refusal, write_refusal, commit_refusal, set_refusal, read_refusal, tick_refusal, Effect, NoEffect, OnFile, NewFile, applied_entries, committed_entries, owner_entries, op_entries, entries_of, index_of}
use Rattle.cluster_model.specs.DsCalls.{DsCallValue, Create, SetAttr, Write, Commit, Read, DsReplyValue, DsPlan, unless, write_at, commit_at, set_at, read_at, created_before, made_unless, created_by, create_in_root, mirror_name, ds_step}
use Rattle.cluster_model.specs.GuardLaws.{IsOwners, IsByOwner, IsTold}
use Rattle.cluster_laws.specs.Periods.{was_granted}
use Rattle.cluster_laws.specs.Holders.{the_write}
use Rattle.machine_walk.specs.Owners.{IsUsersWrite}
use Rattle.cluster_laws.proofs.Lists.{all_append, all_more}
use Rattle.cluster_laws.proofs.PeriodFacts.{granted_in}
use Rattle.machine_walk.proofs.Stories.{Story, AreEach}
use Rattle.machine_walk.proofs.Placed.{each_anywhere}
use Rattle.machine_walk.proofs.Writers.{IsCopier, writer_in, is_applied}
use Rattle.machine_walk.proofs.Noted.{noter, IsByUser}
use Rattle.machine_walk.proofs.WriterSteps.{no_write}
use Rattle.machine_walk.proofs.WriterFacts.{IsWriteCall, IsWrittenSo}

-- ---- the entries of data servers grant nothing, and note nothing of users

pub record IsOfServerOnly (e : Entry) : Type 0 where
  pub grant : granted_in e ≡ None
  pub writer : writer_in e ≡ None

applied_only : (id : MirrorId) (uid at : ℕ) (bytes : List ℕ) → AllByRecursion IsOfServerOnly (applied_entries id uid at bytes)
applied_only id uid at [] = tt
applied_only id uid at (b ∷ bytes) = (record { grant = refl; writer = refl }, tt)

committed_only : (id : MirrorId) (synced : Bool) → AllByRecursion IsOfServerOnly (committed_entries id synced)
committed_only id false = tt
committed_only id true = (record { grant = refl; writer = refl }, tt)

owner_only : (id : MirrorId) (owner : Option ℕ) → AllByRecursion IsOfServerOnly (owner_entries id owner)
owner_only id None = tt
owner_only id (Some uid) = (record { grant = refl; writer = refl }, tt)

op_only : (id : MirrorId) (uid : ℕ) (op : FileOp) → AllByRecursion IsOfServerOnly (op_entries id uid op)
op_only id uid (Writes at synced bytes) = all_append IsOfServerOnly (applied_entries id uid at bytes) (committed_entries id synced) (applied_only id uid at bytes) (committed_only id synced)
op_only id uid Commits = committed_only id true
op_only id uid (Sets changes) = owner_only id changes.owner
op_only id uid (Restarts pieces) = tt

pub server_only : (s : ServerState) (uid : ℕ) (effect : Effect) → AllByRecursion IsOfServerOnly (entries_of s uid effect)
server_only s uid NoEffect = tt
server_only s uid (OnFile index op) = op_only _ uid op
server_only s uid (NewFile name owner group mode) = (record { grant = refl; writer = refl }, tt)

-- ---- the entries of a WRITE, and of other calls

module _ (s : ServerState) (caller : Caller) where
  abbrev Made : List Entry → ℕ → Bool → List ℕ → Type 0
  Made entries at synced bytes = (entries ≡ []) ⊎ ((index : ℕ) × (entries ≡ applied_entries (mirror_of s index) caller.uid at bytes ++ committed_entries (mirror_of s index) synced))

  pub write_made : (fileid at : ℕ) (synced : Bool) (bytes : List ℕ) → Made (ds_step s caller (Write fileid at synced bytes)).entries at synced bytes
  write_made fileid at synced bytes = by_named (named s.files fileid)
    where
      by_refusal : (index : ℕ) (f : StoredFile) (r : Option Refusal) (reply : DsReplyValue) → Made (entries_of s caller.uid (unless f r reply (OnFile index (Writes at synced bytes))).effect) at synced bytes
      by_refusal index f None reply = inr (index, refl)
      by_refusal index f (Some r) reply = inl refl

      by_named : (x : Named) → Made (entries_of s caller.uid (write_at s caller at synced bytes x).effect) at synced bytes
      by_named Nothing = inl refl
      by_named Root = inl refl
      by_named (File index f) = by_refusal index f (write_refusal s index f caller true at bytes) _

  abbrev AreNoWrites : Effect → Type 0
  AreNoWrites effect = AllByRecursion (λ e. is_applied e ≡ false) (entries_of s caller.uid effect)

  unless_quiet : (f : StoredFile) (r : Option Refusal) (reply : DsReplyValue) (does : Effect) → AreNoWrites does → AreNoWrites (unless f r reply does).effect
  unless_quiet f None reply does k = k
  unless_quiet f (Some r) reply does k = tt

  owners_quiet : (id : MirrorId) (owner : Option ℕ) → AllByRecursion (λ e. is_applied e ≡ false) (owner_entries id owner)
  owners_quiet id None = tt
  owners_quiet id (Some uid) = (refl, tt)

  commit_quiet : (x : Named) → AreNoWrites (commit_at s caller x).effect
  commit_quiet Nothing = tt
  commit_quiet Root = tt
  commit_quiet (File index f) = unless_quiet f (commit_refusal f caller) _ (OnFile index Commits) (refl, tt)

  set_quiet : (owner : ℕ) (guard : Tick) (x : Named) → AreNoWrites (set_at s caller owner guard x).effect
  set_quiet owner guard Nothing = tt
  set_quiet owner guard Root = tt
  set_quiet owner guard (File index f) = unless_quiet f (set_refusal s f caller true (Some guard)) _ (OnFile index (Sets _)) (refl, tt)

  read_quiet : (at count : ℕ) (x : Named) → AreNoWrites (read_at s caller at count x).effect
  read_quiet at count Nothing = tt
  read_quiet at count Root = tt
  read_quiet at count (File index f) = unless_quiet f (read_refusal f caller) _ NoEffect tt

  made_quiet : (name : List ℕ) (owner : ℕ) (r : Option Refusal) → AreNoWrites (made_unless s name owner r).effect
  made_quiet name owner None = (refl, tt)
  made_quiet name owner (Some r) = tt

  before_quiet : (index : ℕ) (f : Option StoredFile) → AreNoWrites (created_before index f).effect
  before_quiet index None = tt
  before_quiet index (Some f) = tt

  created_quiet : (name : List ℕ) (owner : ℕ) (found : Option ℕ) → AreNoWrites (created_by s name owner found).effect
  created_quiet name owner None = made_quiet name owner (tick_refusal s.clock)
  created_quiet name owner (Some index) = before_quiet index (slice_get s.files index)

  create_quiet : (name : List ℕ) (owner : ℕ) → AreNoWrites (create_in_root s caller name owner).effect
  create_quiet name owner = cond_both (not (eqb caller.uid 0)) _ (created_by s name owner (index_of s.names name)) (λ (p : DsPlan). AreNoWrites p.effect) (λ e. tt) (λ e. created_quiet name owner (index_of s.names name))

-- ---- who writes

module _ (t : Story) (uid : ℕ) (journal : List Entry) (wrote : AllByRecursion (IsByUser journal) journal) (nobody : was_granted journal 0 ≡ false) (none : t.copied 0 ≡ None) where
  pub whose_call : (user fileid at : ℕ) (synced : Bool) (bytes : List ℕ) → IsWriteCall t uid journal user (Write fileid at synced bytes) → IsUsersWrite journal user (the_write at bytes) ⊎ IsCopier t uid user
  whose_call user fileid at synced bytes (inl k) = inl (record { noted = k; granted = noter (λ u. was_granted journal u ≡ true) (the_write at bytes) user journal wrote k })
  whose_call user fileid at synced bytes (inr k) = inr k.by

  pub not_root : (user : ℕ) (w : Pending) → IsUsersWrite journal user w ⊎ IsCopier t uid user → user ≢ 0
  not_root user w (inl k) = λ e. absurd_by (sym (ap (λ u. was_granted journal u) e ∙ nobody) ∙ k.granted)
    where
      absurd_by : false ≡ true → ⊥
      absurd_by e = cc
  not_root user w (inr k) = λ e. absurd_by k.bytes (sym (ap t.copied e ∙ none) ∙ k.copy)
    where
      absurd_by : (bytes : List ℕ) → None ≡ Some bytes → ⊥
      absurd_by bytes e = cc

  module _ (s : ServerState) (caller : Caller) (told : IsTold s journal) where
    owner_is : (m : MirrorId) (w : Pending) (cred : Cred) → IsUsersWrite journal caller.uid w ⊎ IsCopier t uid caller.uid → IsOwners s caller m cred → caller.uid ≡ (content_of journal m).owner
    owner_is m w cred whose k =
        elim k.owner [
          | inl zero ↦ absurd (not_root caller.uid w whose zero)
          | inr own ↦ own ∙ ap (λ (c : Copy). c.owner) (told.each k.index k.file k.there) ∙ ap (λ (x : MirrorId). (content_of journal x).owner) (sym k.is)
        ]

    committed_each : (before : List Entry) (id : MirrorId) (synced : Bool) → AreEach (IsWrittenSo t uid) before (committed_entries id synced)
    committed_each before id false = tt
    committed_each before id true = (tt, tt)

    written_each : (at index : ℕ) (synced : Bool) (bytes : List ℕ) → IsUsersWrite journal caller.uid (the_write at bytes) ⊎ IsCopier t uid caller.uid
        → AllByRecursion (IsByOwner s caller) (applied_entries (mirror_of s index) caller.uid at bytes ++ committed_entries (mirror_of s index) synced)
        → AreEach (IsWrittenSo t uid) journal (applied_entries (mirror_of s index) caller.uid at bytes ++ committed_entries (mirror_of s index) synced)
    written_each at index synced [] whose owners = committed_each journal (mirror_of s index) synced
    written_each at index synced (b ∷ bytes) whose owners = (record { owner = owner_is (mirror_of s index) (the_write at (b ∷ bytes)) (record { 0 = caller.uid }) whose owners.0; whose = whose }, committed_each _ (mirror_of s index) synced)

    write_each : (at : ℕ) (synced : Bool) (bytes : List ℕ) (entries : List Entry) → Made s caller entries at synced bytes → IsUsersWrite journal caller.uid (the_write at bytes) ⊎ IsCopier t uid caller.uid
        → AllByRecursion (IsByOwner s caller) entries → AreEach (IsWrittenSo t uid) journal entries
    write_each at synced bytes entries (inl e) whose owners = subst (AreEach (IsWrittenSo t uid) journal) (sym e) tt
    write_each at synced bytes entries (inr k) whose owners =
        subst (AreEach (IsWrittenSo t uid) journal) (sym k.1) (written_each at k.0 synced bytes whose (subst (AllByRecursion (IsByOwner s caller)) k.1 owners))

    quiet_each : (entries : List Entry) → AllByRecursion (λ e. is_applied e ≡ false) entries → AreEach (IsWrittenSo t uid) journal entries
    quiet_each entries h = each_anywhere (IsWrittenSo t uid) journal entries (all_more (λ e. is_applied e ≡ false) (λ e. (b : List Entry) → IsWrittenSo t uid b e) entries (λ e k. (no_write e k).so t uid) h)

    pub call_each : (call : DsCallValue) → IsWriteCall t uid journal caller.uid call → AllByRecursion (IsByOwner s caller) (ds_step s caller call).entries → AreEach (IsWrittenSo t uid) journal (ds_step s caller call).entries
    call_each (Create name owner) k owners = quiet_each _ (create_quiet s caller (mirror_name name) owner)
    call_each (SetAttr fileid owner guard) k owners = quiet_each _ (set_quiet s caller owner guard (named s.files fileid))
    call_each (Write fileid at synced bytes) k owners = write_each at synced bytes _ (write_made s caller fileid at synced bytes) (whose_call caller.uid fileid at synced bytes k) owners
    call_each (Commit fileid) k owners = quiet_each _ (commit_quiet s caller (named s.files fileid))
    call_each (Read fileid at count) k owners = quiet_each _ (read_quiet s caller at count (named s.files fileid))
