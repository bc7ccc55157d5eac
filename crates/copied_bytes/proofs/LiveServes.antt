-- Live mirrors that belong to copies, behind a call at a data server, and what its entries say of them (RFC 1813, section 3.3.7).
use Rattle.std.proofs.Common.{◌≡◌, ℕ, ◌+◌, ◌⊎◌, Bool, true, false, cond, List, [], ◌∷◌, ◌++◌, length, Option, Some, None, refl, sym, ap, subst, ◌∙◌, arith, inl, inr}
use Rattle.std.specs.Prelude.{slice_get}
use Rattle.std.specs.List.{AllByRecursion}
use Rattle.std.proofs.lemmas.Option.{slice_get_within}
use Rattle.cluster_model.specs.declared.tick.Tick.{Tick}
use Rattle.cluster_model.specs.declared.piece.Piece.{Piece}
use Rattle.cluster_model.specs.declared.ids.NodeId.{NodeId}
use Rattle.cluster_model.specs.declared.ids.MirrorId.{MirrorId}
use Rattle.cluster_model.specs.declared.entry.Entry.{Entry}
use Rattle.cluster_model.specs.declared.entry.Entry.TheVariants as entry
use Rattle.cluster_model.specs.Content.{Content, shown_of}
use Rattle.cluster_model.specs.File.{FileOp, Writes, Commits, Sets, Restarts}
use Rattle.cluster_model.specs.Journal.{Copy, no_copy, is_mirror, copy_after, copy_by, content_of}
use Rattle.cluster_model.specs.Server.{ServerState, Caller, Effect, NoEffect, OnFile, NewFile, mirror_of, applied_entries, committed_entries, owner_entries, op_entries, entries_of}
use Rattle.cluster_model.specs.DsCalls.{DsCallValue, SetAttr, DsPlan, ds_plan, ds_step}
use Rattle.cluster_model.specs.Phases.{ids_of}
use Rattle.file_rule.specs.MdsFiles.{MdsFile}
use Rattle.cluster_laws.specs.Machine.{Call, Machine, numbered_at, file_id, with_server, served, caller_by}
use Rattle.cluster_laws.specs.FenceLaw.{live_after, live_in}
use Rattle.cluster_laws.specs.Agreement.{IsNoChange}
use Rattle.cluster_laws.specs.Holders.{the_write}
use Rattle.cluster_laws.proofs.Lists.{all_append, all_more, all_at, same_numbered}
use Rattle.cluster_laws.proofs.Journals.{copy_append}
use Rattle.cluster_laws.proofs.Facts.{OwnedFrom}
use Rattle.machine_walk.specs.Owners.{IsUsersWrite}
use Rattle.copied_bytes.specs.CopiedBytes.{LeavesAsShown}
use Rattle.machine_walk.proofs.Stories.{Story, AreEach, IsMoment}
use Rattle.machine_walk.proofs.Writers.{IsCopier, is_applied}
use Rattle.machine_walk.proofs.WriterFacts.{KnowsWriters, IsKnownPacket, IsWrittenSo}
use Rattle.copied_bytes.proofs.ServerPlans.{PlanKind, Refused, WroteTo, CommittedAt, SetTo, ReadFrom, WasThere, NewMade, plan_kind}
use Rattle.copied_bytes.proofs.Wholes.{IsWhole, whole_shown, whole_by, whole_after, is_that}
use Rattle.copied_bytes.proofs.Slices.{IsSlice, slice_no_change}
use Rattle.copied_bytes.proofs.Parts.{IsPut, put_became, put_whole}
use Rattle.copied_bytes.proofs.Sources.{owner_of}
use Rattle.copied_bytes.proofs.SourceServes.{written_owner, committed_owner}
use Rattle.copied_bytes.proofs.SourceCarry.{IsSetCall, IsSetPacket, KnowsSources, IsOwnedAt, file_owned}
use Rattle.copied_bytes.proofs.TargetServes.{IsPieceCall, comes}
use Rattle.copied_bytes.proofs.TargetFacts.{IsPiecePacket, KnowsTargets}
use Rattle.copied_bytes.proofs.TargetCases.{piece_known}
use Rattle.copied_bytes.proofs.TargetMoves.{owner_same}
use Rattle.copied_bytes.proofs.LiveCopies.{IsWholeCopy, KnowsLive, made_of}
use Rattle.copied_bytes.proofs.LiveSteps.{live_behind}

-- ---- data servers say nothing of live lists

abbrev pub IsLifeless : Entry → Type 0
IsLifeless e = (f : ℕ) (x : Option (List MirrorId)) → live_after (file_id f) x e ≡ x

applied_lifeless : (id : MirrorId) (uid at : ℕ) (bytes : List ℕ) → AllByRecursion IsLifeless (applied_entries id uid at bytes)
applied_lifeless id uid at [] = tt
applied_lifeless id uid at (b ∷ bytes) = (λ f x. refl, tt)

committed_lifeless : (id : MirrorId) (synced : Bool) → AllByRecursion IsLifeless (committed_entries id synced)
committed_lifeless id false = tt
committed_lifeless id true = (λ f x. refl, tt)

owner_lifeless : (id : MirrorId) (owner : Option ℕ) → AllByRecursion IsLifeless (owner_entries id owner)
owner_lifeless id None = tt
owner_lifeless id (Some uid) = (λ f x. refl, tt)

op_lifeless : (id : MirrorId) (uid : ℕ) (op : FileOp) → AllByRecursion IsLifeless (op_entries id uid op)
op_lifeless id uid (Writes at synced bytes) = all_append IsLifeless (applied_entries id uid at bytes) (committed_entries id synced) (applied_lifeless id uid at bytes) (committed_lifeless id synced)
op_lifeless id uid Commits = committed_lifeless id true
op_lifeless id uid (Sets changes) = owner_lifeless id changes.owner
op_lifeless id uid (Restarts pieces) = tt

pub server_lifeless : (s : ServerState) (uid : ℕ) (effect : Effect) → AllByRecursion IsLifeless (entries_of s uid effect)
server_lifeless s uid NoEffect = tt
server_lifeless s uid (OnFile index op) = op_lifeless _ uid op
server_lifeless s uid (NewFile name owner group mode) = (λ f x. refl, tt)

-- ---- what the entries say

abbrev pub IsQuietEntry : List Entry → Entry → Type 0
IsQuietEntry before (entry.Applied m cred at bytes) = IsUsersWrite before cred.0 (the_write at bytes) ⊎ LeavesAsShown before m (the_write at bytes)
IsQuietEntry before _ = Unit {0}

pub unapplied : (before : List Entry) (e : Entry) → is_applied e ≡ false → IsQuietEntry before e
unapplied before (entry.Applied m cred at bytes) off = absurd cc
unapplied before _ off = tt

committed_quiet : (before : List Entry) (id : MirrorId) (synced : Bool) → AreEach IsQuietEntry before (committed_entries id synced)
committed_quiet before id false = tt
committed_quiet before id true = (tt, tt)

-- ---- a whole mirror stays whole

pub whole_put : (bytes : List ℕ) (c : Content) → IsWhole bytes c → IsPut bytes (length bytes) c
whole_put bytes c h = subst (IsPut bytes (length bytes)) (sym h.is) (record { part = record { none = refl; most = omega arith }; stands = λ place less. (less, refl) })

module _ (t : Story) (uid : ℕ) (journal : List Entry) (s : ServerState) (caller : Caller) where
  module _ (id : MirrorId) (bytes : List ℕ) where
    abbrev Then : List Entry → Copy
    Then entries = copy_by id (content_of journal id) entries

    abbrev c : Copy
    c = content_of journal id

    pub whole_then : {call : DsCallValue} {plan : DsPlan} → PlanKind s caller call plan → IsPieceCall t bytes caller.uid call → ((fileid user : ℕ) (guard : Tick) → call ≡ SetAttr fileid user guard → t.copied user ≡ None) → (is_mirror (mirror_of s (length s.files)) id ≡ true → ⊥)
        → AreEach (IsWrittenSo t uid) journal (entries_of s caller.uid plan.effect) → (t.copied (owner_of journal id) ≡ Some bytes → IsWhole bytes c.content)
        → t.copied (Then (entries_of s caller.uid plan.effect)).owner ≡ Some bytes → IsWhole bytes (Then (entries_of s caller.uid plan.effect)).content
    whole_then (Refused call reply k) write set other each h owner = h owner
    whole_then (WroteTo fileid at synced piece index f shown_ verifier place there) write set other each h owner =
        let was : t.copied (owner_of journal id) ≡ Some bytes = sym (ap t.copied (written_owner t uid journal s caller id (mirror_of s index) caller.uid at synced piece c)) ∙ owner in
        let put = whole_put bytes c.content (h was) in
        put_whole bytes _ (put_became bytes (length bytes) c.content _ (comes t uid journal s caller id bytes (WroteTo fileid at synced piece index f shown_ verifier place there) write was each put.part) put)
    whole_then (CommittedAt fileid index f shown_ verifier place there) write set other each h owner =
        let was : t.copied (owner_of journal id) ≡ Some bytes = sym (ap t.copied (committed_owner t uid journal s caller id (mirror_of s index) true c)) ∙ owner in
        whole_by id bytes (entry.Committed (mirror_of s index) ∷ []) c (refl, tt) (h was)
    whole_then (SetTo fileid user guard index f shown_ place there) write set other each h owner = by_test (is_mirror (mirror_of s index) id) refl owner
      where
        by_test : (x : Bool) → is_mirror (mirror_of s index) id ≡ x → t.copied (cond x (record { content = c.content; owner = user }) c).owner ≡ Some bytes → IsWhole bytes (cond (is_mirror (mirror_of s index) id) (record { content = c.content; owner = user }) c).content
        by_test true e k = let wrong : None ≡ Some bytes = sym (set fileid user guard refl) ∙ k in absurd cc
        by_test false e k = subst (λ (x : Bool). IsWhole bytes (cond x (record { content = c.content; owner = user }) c).content) (sym e) (h k)
    whole_then (ReadFrom fileid at count index f place there) write set other each h owner = h owner
    whole_then (WasThere name user fileid shown_) write set other each h owner = h owner
    whole_then (NewMade name user shown_) write set other each h owner = by_test (is_mirror (mirror_of s (length s.files)) id) refl owner
      where
        by_test : (x : Bool) → is_mirror (mirror_of s (length s.files)) id ≡ x → t.copied (cond x (record { content = c.content; owner = user }) c).owner ≡ Some bytes → IsWhole bytes (cond (is_mirror (mirror_of s (length s.files)) id) (record { content = c.content; owner = user }) c).content
        by_test true e k = absurd (other e)
        by_test false e k = subst (λ (x : Bool). IsWhole bytes (cond x (record { content = c.content; owner = user }) c).content) (sym e) (h k)

  -- ---- a write of a copy changes nothing there

  module _ (copies : (n : ℕ) (ids : List MirrorId) → live_in journal (file_id n) ≡ Some ids → AllByRecursion (λ id. IsWholeCopy t (content_of journal id)) ids) where
    leaves : (m : MirrorId) (user at : ℕ) (synced : Bool) (piece : List ℕ) → user ≡ owner_of journal m → (k : IsCopier t uid user) → ((bytes : List ℕ) → t.copied user ≡ Some bytes → (synced ≡ true) × IsSlice bytes at piece) → LeavesAsShown journal m (the_write at piece)
    leaves m user at synced piece owner k write = λ f live is. all_more (λ id. IsWholeCopy t (content_of journal id)) (λ id. is_mirror m id ≡ true → IsNoChange (shown_of (content_of journal id).content) (the_write at piece)) live (λ id whole e. here id whole e) (copies f.0 live is)
      where
        here : (id : MirrorId) → IsWholeCopy t (content_of journal id) → is_mirror m id ≡ true → IsNoChange (shown_of (content_of journal id).content) (the_write at piece)
        here id whole e =
            let same : user ≡ owner_of journal id = owner ∙ ap (λ (x : MirrorId). owner_of journal x) (is_that m id e) in
            let all = whole k.bytes (sym (ap t.copied same) ∙ k.copy) in
            subst (λ (b : List ℕ). IsNoChange b (the_write at piece)) (sym (whole_shown k.bytes (content_of journal id).content all)) (slice_no_change k.bytes at piece (write k.bytes k.copy).1)

    written_quiet : (m : MirrorId) (at : ℕ) (synced : Bool) (piece : List ℕ) → ((bytes : List ℕ) → t.copied caller.uid ≡ Some bytes → (synced ≡ true) × IsSlice bytes at piece) → AreEach (IsWrittenSo t uid) journal (applied_entries m caller.uid at piece ++ committed_entries m synced)
        → AreEach IsQuietEntry journal (applied_entries m caller.uid at piece ++ committed_entries m synced)
    written_quiet m at synced [] write each = committed_quiet journal m synced
    written_quiet m at synced (b ∷ piece) write each = (by_user each.0.whose, committed_quiet _ m synced)
      where
        by_user : IsUsersWrite journal caller.uid (the_write at (b ∷ piece)) ⊎ IsCopier t uid caller.uid → IsUsersWrite journal caller.uid (the_write at (b ∷ piece)) ⊎ LeavesAsShown journal m (the_write at (b ∷ piece))
        by_user (inl user) = inl user
        by_user (inr k) = inr (leaves m caller.uid at synced (b ∷ piece) each.0.owner k write)

    pub quiet_each : {call : DsCallValue} {plan : DsPlan} → PlanKind s caller call plan → ((bytes : List ℕ) → IsPieceCall t bytes caller.uid call) → AreEach (IsWrittenSo t uid) journal (entries_of s caller.uid plan.effect) → AreEach IsQuietEntry journal (entries_of s caller.uid plan.effect)
    quiet_each (Refused call reply k) write each = tt
    quiet_each (WroteTo fileid at synced piece index f shown_ verifier place there) write each = written_quiet (mirror_of s index) at synced piece write each
    quiet_each (CommittedAt fileid index f shown_ verifier place there) write each = (tt, tt)
    quiet_each (SetTo fileid user guard index f shown_ place there) write each = (tt, tt)
    quiet_each (ReadFrom fileid at count index f place there) write each = tt
    quiet_each (WasThere name user fileid shown_) write each = tt
    quiet_each (NewMade name user shown_) write each = (tt, tt)

-- ---- the machine behind it

module _ (t : Story) (m : Machine) (journal : List Entry) (at : IsMoment t m journal) (w : KnowsWriters t m journal) (p : KnowsSources t m journal) (q : KnowsTargets t m journal) (r : KnowsLive t m journal) where
  module _ (place : ℕ) (from : NodeId) (n xid uid gid : ℕ) (call : DsCallValue) (s : ServerState) (sent : slice_get m.packets place ≡ Some (Call from n xid uid gid call)) (there : numbered_at m.servers n ≡ Some s)
      (each : AreEach (IsWrittenSo t m.next_uid) journal (ds_step s (caller_by uid gid) call).entries) where
    abbrev caller : Caller
    caller = caller_by uid gid

    abbrev entries : List Entry
    entries = (ds_step s caller call).entries

    kind : PlanKind s caller call (ds_plan s caller call)
    kind = plan_kind s caller call

    plain_set : (fileid owner : ℕ) (guard : Tick) → call ≡ SetAttr fileid owner guard → t.copied owner ≡ None
    plain_set fileid owner guard is = (subst (IsSetCall t m.next_uid m.next_name m.servers n) is (all_at (IsSetPacket t m.next_uid m.next_name m.servers) m.packets place (Call from n xid uid gid call) p.packets sent)).plain.no_copy

    piece : (bytes : List ℕ) → IsPieceCall t bytes uid call
    piece bytes = piece_known t m journal at w p q uid call (all_at (IsKnownPacket t m.next_uid journal) m.packets place (Call from n xid uid gid call) w.packets sent) (all_at (IsPiecePacket t m.next_uid) m.packets place (Call from n xid uid gid call) q.pieces sent) bytes

    -- a mirror that is there is no new one
    not_new : (id : MirrorId) (user : ℕ) → OwnedFrom m.servers id user → is_mirror (mirror_of s (length s.files)) id ≡ true → ⊥
    not_new id user o e =
        let is : mirror_of s (length s.files) ≡ id = is_that (mirror_of s (length s.files)) id e in
        let number : s.number ≡ n = (at.holds.servers n s there).number in
        let on : id.server ≡ n = sym (ap (λ (x : MirrorId). x.server) is) ∙ number in
        let same : s ≡ o.server = same_numbered m.servers n s o.server there (sym (ap (numbered_at m.servers) on) ∙ o.there) in
        let less = slice_get_within o.server.files o.index o.file o.is in
        let count : length s.files ≡ length o.server.files = ap (λ (x : ServerState). length x.files) same in
        let at_place : length s.files + 2 ≡ id.fileid = ap (λ (x : MirrorId). x.fileid) is in
        let its = o.place in
        omega (arith, less, count, at_place, its)

    whole_copy : (k : ℕ) (id : MirrorId) → IsOwnedAt t m journal k id → IsWholeCopy t (content_of journal id) → IsWholeCopy t (content_of (journal ++ entries) id)
    whole_copy k id o h = λ bytes copy.
        let joined : content_of (journal ++ entries) id ≡ copy_by id (content_of journal id) entries = copy_append id no_copy journal entries in
        subst (λ (x : Copy). IsWhole bytes x.content) (sym joined) (whole_then t m.next_uid journal s caller id bytes kind (piece bytes) plain_set (not_new id (owner_of journal id) o.owned) each (λ was. h bytes was) (sym (ap (λ (x : Copy). t.copied x.owner) joined) ∙ copy))

    copies_then : (k : ℕ) (ids : List MirrorId) → live_in journal (file_id k) ≡ Some ids → AllByRecursion (λ id. IsWholeCopy t (content_of (journal ++ entries) id)) ids
    copies_then k ids is = by_file (numbered_at m.files k) refl
      where
        wrong : None ≡ Some ids → ⊥
        wrong e = cc

        both : (all : List MirrorId) → AllByRecursion (IsOwnedAt t m journal k) all → AllByRecursion (λ id. IsWholeCopy t (content_of journal id)) all → AllByRecursion (λ id. IsWholeCopy t (content_of (journal ++ entries) id)) all
        both [] a b = tt
        both (id ∷ all) a b = (whole_copy k id a.0 b.0, both all a.1 b.1)

        by_file : (f : Option MdsFile) → numbered_at m.files k ≡ f → AllByRecursion (λ id. IsWholeCopy t (content_of (journal ++ entries) id)) ids
        by_file None none = absurd (wrong (sym (r.absent k none) ∙ is))
        by_file (Some f) found =
            let same = (made_of f.layout.phase (ids_of f.layout.live) ids (sym (at.holds.files k f found).live ∙ is)).1 in
            both ids (subst (AllByRecursion (IsOwnedAt t m journal k)) same (file_owned t m journal at.holds p.owners k f found)) (r.copies k ids is)

    pub served_live : KnowsLive t (served m place from n xid (ds_step s caller call)).machine (journal ++ entries)
    served_live = live_behind t m journal r (served m place from n xid (ds_step s caller call)).machine entries refl (server_lifeless s uid (ds_plan s caller call).effect) copies_then

    pub served_quiet : AreEach IsQuietEntry journal entries
    served_quiet = quiet_each t m.next_uid journal s caller r.copies kind piece each

  -- ---- a restart

  pub restarted_live : (n : ℕ) (pieces : List Piece) (next : ServerState) → KnowsLive t (with_server m n next m.packets) (journal ++ entry.Restarted n pieces ∷ [])
  restarted_live n pieces next =
      let e : Entry = entry.Restarted n pieces in
      live_behind t m journal r (with_server m n next m.packets) (e ∷ []) refl (λ f x. refl, tt)
      (λ k ids is. all_more (λ id. IsWholeCopy t (content_of journal id)) (λ id. IsWholeCopy t (content_of (journal ++ e ∷ []) id)) ids
      (λ id h bytes copy.
      let joined : content_of (journal ++ e ∷ []) id ≡ copy_after id (content_of journal id) e = copy_append id no_copy journal (e ∷ []) in
      subst (λ (x : Copy). IsWhole bytes x.content) (sym joined) (whole_after id bytes (content_of journal id) e refl (h bytes (owner_kept id joined ∙ copy)))) (r.copies k ids is))
    where
      owner_kept : (id : MirrorId) → content_of (journal ++ entry.Restarted n pieces ∷ []) id ≡ copy_after id (content_of journal id) (entry.Restarted n pieces) → t.copied (owner_of journal id) ≡ t.copied (owner_of (journal ++ entry.Restarted n pieces ∷ []) id)
      owner_kept id joined = ap t.copied (sym (owner_same t m journal at w p q n pieces id))
