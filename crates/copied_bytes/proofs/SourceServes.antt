-- What a call at a data server leaves of a mirror that nobody may write to, and what its reply says (RFC 1813, sections 3.3.6 and 3.3.21).
use Rattle.std.proofs.Common.{◌≡◌, ◌≢◌, ℕ, ◌+◌, ◌≤◌, ◌⊎◌, Bool, true, false, cond, List, [], ◌∷◌, ◌++◌, length, take, drop, Option, Some, None, refl, sym, ap, subst, ◌∙◌, inl, inr}
use Rattle.std.specs.Prelude.{min}
use Rattle.std.specs.List.{AllByRecursion}
use Rattle.cluster_model.specs.declared.ids.Cred.{Cred}
use Rattle.cluster_model.specs.declared.ids.MirrorId.{MirrorId}
use Rattle.cluster_model.specs.declared.entry.Entry.{Entry}
use Rattle.cluster_model.specs.declared.entry.Entry.TheVariants as entry
use Rattle.cluster_model.specs.declared.limits.TheConstants.{PIECE_SIZE}
use Rattle.cluster_model.specs.declared.tick.Tick.{Tick}
use Rattle.cluster_model.specs.Content.{Content, shown_of, joined, settled}
use Rattle.cluster_model.specs.File.{shown}
use Rattle.cluster_model.specs.Journal.{Copy, is_mirror, copy_after, copy_by, content_of}
use Rattle.cluster_model.specs.Server.{ServerState, Caller, mirror_of, max_read, applied_entries, committed_entries, entries_of}
use Rattle.cluster_model.specs.DsCalls.{DsCallValue, SetAttr, Commit, Read, Created, Set, Written, Committed, Bytes, NotSync, Failed, DsPlan}
use Rattle.cluster_model.specs.GuardLaws.{IsTold}
use Rattle.cluster_laws.specs.Holders.{the_write}
use Rattle.cluster_laws.specs.Periods.{was_granted}
use Rattle.machine_walk.specs.Owners.{IsUsersWrite}
use Rattle.cluster_laws.proofs.Lives.{itself}
use Rattle.cluster_laws.proofs.KnownNow.{id_by}
use Rattle.machine_walk.proofs.Stories.{Story, AreEach}
use Rattle.machine_walk.proofs.Writers.{IsCopier, is_applied}
use Rattle.machine_walk.proofs.WriterFacts.{IsWrittenSo}
use Rattle.copied_bytes.proofs.ServerPlans.{PlanKind, Refused, WroteTo, CommittedAt, SetTo, ReadFrom, WasThere, NewMade}
use Rattle.copied_bytes.proofs.Wholes.{IsWhole, whole_shown, settled_whole, whole_by, is_that}
use Rattle.copied_bytes.proofs.Slices.{slice_read, read_ends}
use Rattle.copied_bytes.proofs.Sources.{owner_of, IsCommitReply, IsReadReply, IsShutNow}

module _ (t : Story) (uid : ℕ) (journal : List Entry) (s : ServerState) (caller : Caller) (id : MirrorId) where
  abbrev After : List Entry → Copy
  After entries = copy_by id (content_of journal id) entries

  same_mirror : (m : MirrorId) → is_mirror m id ≡ true → content_of journal m ≡ content_of journal id
  same_mirror m e = ap (content_of journal) (is_that m id e)

  -- a write to it is none
  not_here : (m : MirrorId) (cred : Cred) (at : ℕ) (bytes : List ℕ) → IsShutNow t journal id → IsWrittenSo t uid journal (entry.Applied m cred at bytes) → is_mirror m id ≡ false
  not_here m cred at bytes shut so = by_test (is_mirror m id) refl
    where
      owner : is_mirror m id ≡ true → cred.0 ≡ owner_of journal id
      owner e = so.owner ∙ ap (λ (c : Copy). c.owner) (same_mirror m e)

      granted_not : (b : Bool) → b ≡ true → b ≡ false → ⊥
      granted_not true x y = cc
      granted_not false x y = cc

      copied_not : (o : Option (List ℕ)) (k : List ℕ) → o ≡ Some k → o ≡ None → ⊥
      copied_not None k x y = cc
      copied_not (Some z) k x y = cc

      nobody : is_mirror m id ≡ true → IsUsersWrite journal cred.0 (the_write at bytes) ⊎ IsCopier t uid cred.0 → ⊥
      nobody e (inl k) = granted_not (was_granted journal cred.0) k.granted (ap (was_granted journal) (owner e) ∙ shut.unused)
      nobody e (inr k) = copied_not (t.copied cred.0) k.bytes k.copy (ap t.copied (owner e) ∙ shut.plain)

      by_test : (b : Bool) → is_mirror m id ≡ b → is_mirror m id ≡ false
      by_test true e = absurd (nobody e so.whose)
      by_test false e = e

  pub committed_off : (m : MirrorId) (synced : Bool) → AllByRecursion (λ e. is_applied e ≡ false) (committed_entries m synced)
  committed_off m false = tt
  committed_off m true = (refl, tt)

  whole_written : (bytes : List ℕ) (m : MirrorId) (user at : ℕ) (synced : Bool) (data_ : List ℕ) → IsShutNow t journal id → AreEach (IsWrittenSo t uid) journal (applied_entries m user at data_ ++ committed_entries m synced)
      → IsWhole bytes (content_of journal id).content → IsWhole bytes (After (applied_entries m user at data_ ++ committed_entries m synced)).content
  whole_written bytes m user at synced [] shut each h = whole_by id bytes (committed_entries m synced) (content_of journal id) (committed_off m synced) h
  whole_written bytes m user at synced (b ∷ data_) shut each h =
      let cred : Cred = record { 0 = user } in
      let e : Entry = entry.Applied m cred at (b ∷ data_) in
      let same : copy_after id (content_of journal id) e ≡ content_of journal id = ap (λ (x : Bool). cond x (record { content = joined_with at (b ∷ data_); owner = owner_of journal id }) (content_of journal id)) (not_here m cred at (b ∷ data_) shut each.0) in
      whole_by id bytes (committed_entries m synced) (copy_after id (content_of journal id) e) (committed_off m synced) (subst (λ (c : Copy). IsWhole bytes c.content) (sym same) h)
    where
      joined_with : ℕ → List ℕ → Content
      joined_with at_ more = joined (content_of journal id).content at_ more

  -- a mirror that nobody may write to, behind any call
  pub whole_kept : (bytes : List ℕ) {call : DsCallValue} {plan : DsPlan} → PlanKind s caller call plan → IsShutNow t journal id → AreEach (IsWrittenSo t uid) journal (entries_of s caller.uid plan.effect)
      → IsWhole bytes (content_of journal id).content → IsWhole bytes (After (entries_of s caller.uid plan.effect)).content
  whole_kept bytes (Refused call reply k) shut each h = h
  whole_kept bytes (WroteTo fileid at synced data_ index f shown_ verifier place there) shut each h = whole_written bytes (mirror_of s index) caller.uid at synced data_ shut each h
  whole_kept bytes (CommittedAt fileid index f shown_ verifier place there) shut each h = whole_by id bytes (entry.Committed (mirror_of s index) ∷ []) (content_of journal id) (refl, tt) h
  whole_kept bytes (SetTo fileid owner guard index f shown_ place there) shut each h = whole_by id bytes (entry.Owner (mirror_of s index) (record { 0 = owner }) ∷ []) (content_of journal id) (refl, tt) h
  whole_kept bytes (ReadFrom fileid at count index f place there) shut each h = h
  whole_kept bytes (WasThere name owner fileid shown_) shut each h = h
  whole_kept bytes (NewMade name owner shown_) shut each h = whole_by id bytes (entry.Owner (mirror_of s (length s.files)) (record { 0 = owner }) ∷ []) (content_of journal id) (refl, tt) h

  -- ---- the mirror that a call names

  here : (fileid index : ℕ) → id.server ≡ s.number → id.fileid ≡ fileid → fileid ≡ index + 2 → id ≡ mirror_of s index
  here fileid index on is place = id_by id s.number (index + 2) on (is ∙ place)

  committed_here : (index : ℕ) → id ≡ mirror_of s index → IsWhole (shown_of (content_of journal id).content) (After (entry.Committed (mirror_of s index) ∷ [])).content
  committed_here index is =
      subst (λ (m : MirrorId). IsWhole (shown_of (content_of journal id).content) (copy_after id (content_of journal id) (entry.Committed m)).content) is
      (subst (λ (b : Bool). IsWhole (shown_of (content_of journal id).content) (cond b (record { content = settled (content_of journal id).content; owner = owner_of journal id }) (content_of journal id)).content) (sym (itself id)) (settled_whole (content_of journal id).content))

  -- the reply to a COMMIT of it
  pub commit_reply : {call : DsCallValue} {plan : DsPlan} → PlanKind s caller call plan → id.server ≡ s.number → call ≡ Commit id.fileid → (after : List Entry) → content_of after id ≡ After (entries_of s caller.uid plan.effect) → IsCommitReply after id plan.reply
  commit_reply (Refused call (Failed status shown_) k) on is after same = tt
  commit_reply (Refused call (NotSync shown_) k) on is after same = tt
  commit_reply (Refused call (Created fileid shown_) k) on is after same = absurd k
  commit_reply (Refused call (Set shown_) k) on is after same = absurd k
  commit_reply (Refused call (Written shown_ verifier) k) on is after same = absurd k
  commit_reply (Refused call (Committed shown_ verifier) k) on is after same = absurd k
  commit_reply (Refused call (Bytes shown_ eof bytes) k) on is after same = absurd k
  commit_reply (WroteTo fileid at synced data_ index f shown_ verifier place there) on is after same = tt
  commit_reply (CommittedAt fileid index f shown_ verifier place there) on is after same =
      (shown_of (content_of journal id).content, subst (λ (c : Copy). IsWhole (shown_of (content_of journal id).content) c.content) (sym same) (committed_here index (here fileid index on (sym (same_fileid fileid is)) place)))
    where
      same_fileid : (k : ℕ) → Commit k ≡ Commit id.fileid → k ≡ id.fileid
      same_fileid k e = cc
  commit_reply (SetTo fileid owner guard index f shown_ place there) on is after same = tt
  commit_reply (ReadFrom fileid at count index f place there) on is after same = tt
  commit_reply (WasThere name owner fileid shown_) on is after same = tt
  commit_reply (NewMade name owner shown_) on is after same = tt

  -- the reply to a READ of it, where all its bytes are stable
  pub read_reply : (told : IsTold s journal) (bytes : List ℕ) (pos : ℕ) → pos ≤ length bytes → IsWhole bytes (content_of journal id).content → {call : DsCallValue} {plan : DsPlan} → PlanKind s caller call plan → id.server ≡ s.number → call ≡ Read id.fileid pos PIECE_SIZE → IsReadReply bytes pos plan.reply
  read_reply told bytes pos up h (Refused call (Failed status shown_) k) on is = tt
  read_reply told bytes pos up h (Refused call (NotSync shown_) k) on is = tt
  read_reply told bytes pos up h (Refused call (Created fileid shown_) k) on is = absurd k
  read_reply told bytes pos up h (Refused call (Set shown_) k) on is = absurd k
  read_reply told bytes pos up h (Refused call (Written shown_ verifier) k) on is = absurd k
  read_reply told bytes pos up h (Refused call (Committed shown_ verifier) k) on is = absurd k
  read_reply told bytes pos up h (Refused call (Bytes shown_ eof more) k) on is = absurd k
  read_reply told bytes pos up h (WroteTo fileid at synced data_ index f shown_ verifier place there) on is = tt
  read_reply told bytes pos up h (CommittedAt fileid index f shown_ verifier place there) on is = tt
  read_reply told bytes pos up h (SetTo fileid owner guard index f shown_ place there) on is = tt
  read_reply told bytes pos up h (ReadFrom fileid at count index f place there) on is =
      let same_at : at ≡ pos = cc in
      let same_id : fileid ≡ id.fileid = cc in
      let m : id ≡ mirror_of s index = here fileid index on (sym same_id) place in
      let shows : shown f ≡ bytes = ap (λ (c : Copy). shown_of c.content) (told.each index f there ∙ ap (content_of journal) (sym m)) ∙ whole_shown bytes (content_of journal id).content h in
      let slice = slice_read (min count max_read) bytes pos up in
      rw (shows, same_at) (slice, λ e. read_ends bytes pos (take (min count max_read) (drop pos bytes)) slice e)
  read_reply told bytes pos up h (WasThere name owner fileid shown_) on is = tt
  read_reply told bytes pos up h (NewMade name owner shown_) on is = tt

  -- ---- whom it belongs to

  pub cond_owner : (P : ℕ → Type 0) (b : Bool) (x y : Copy) → (b ≡ true → P x.owner) → P y.owner → P (cond b x y).owner
  cond_owner P true x y h k = h refl
  cond_owner P false x y h k = k

  pub committed_owner : (m : MirrorId) (synced : Bool) (c : Copy) → (copy_by id c (committed_entries m synced)).owner ≡ c.owner
  committed_owner m false c = refl
  committed_owner m true c = cond_owner (λ o. o ≡ c.owner) (is_mirror m id) (record { content = settled c.content; owner = c.owner }) c (λ e. refl) refl

  pub written_owner : (m : MirrorId) (user at : ℕ) (synced : Bool) (data_ : List ℕ) (c : Copy) → (copy_by id c (applied_entries m user at data_ ++ committed_entries m synced)).owner ≡ c.owner
  written_owner m user at synced [] c = committed_owner m synced c
  written_owner m user at synced (b ∷ data_) c =
      committed_owner m synced (copy_after id c (entry.Applied m (record { 0 = user }) at (b ∷ data_)))
      ∙ cond_owner (λ o. o ≡ c.owner) (is_mirror m id) (record { content = joined c.content at (b ∷ data_); owner = c.owner }) c (λ e. refl) refl

  -- a mirror that is no copy's stays so: a SETATTR names no copy, and a new file stands where there was none
  pub plain_then : {call : DsCallValue} {plan : DsPlan} → PlanKind s caller call plan → ((fileid owner : ℕ) (guard : Tick) → call ≡ SetAttr fileid owner guard → t.copied owner ≡ None) → id ≢ mirror_of s (length s.files) → t.copied (owner_of journal id) ≡ None
      → t.copied (After (entries_of s caller.uid plan.effect)).owner ≡ None
  plain_then (Refused call reply k) set other h = h
  plain_then (WroteTo fileid at synced data_ index f shown_ verifier place there) set other h = ap t.copied (written_owner (mirror_of s index) caller.uid at synced data_ (content_of journal id)) ∙ h
  plain_then (CommittedAt fileid index f shown_ verifier place there) set other h = ap t.copied (committed_owner (mirror_of s index) true (content_of journal id)) ∙ h
  plain_then (SetTo fileid owner guard index f shown_ place there) set other h =
      cond_owner (λ o. t.copied o ≡ None) (is_mirror (mirror_of s index) id) (record { content = (content_of journal id).content; owner = owner }) (content_of journal id) (λ e. set fileid owner guard refl) h
  plain_then (ReadFrom fileid at count index f place there) set other h = h
  plain_then (WasThere name owner fileid shown_) set other h = h
  plain_then (NewMade name owner shown_) set other h =
      cond_owner (λ o. t.copied o ≡ None) (is_mirror (mirror_of s (length s.files)) id) (record { content = (content_of journal id).content; owner = owner }) (content_of journal id) (λ e. absurd (other (sym (is_that (mirror_of s (length s.files)) id e)))) h
