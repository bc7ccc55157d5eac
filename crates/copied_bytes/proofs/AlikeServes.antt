-- Live mirrors behind a copy, where data servers are called and start again, and where files take no step.
use Rattle.std.specs.List.{AllByRecursion}
use Rattle.cluster_model.specs.declared.ids.FileId.{FileId}
use Rattle.cluster_model.specs.declared.ids.MirrorId.{MirrorId}
use Rattle.cluster_model.specs.declared.entry.Entry.{Entry}
use Rattle.cluster_model.specs.declared.entry.Entry.TheVariants as entry
use Rattle.cluster_model.specs.declared.layout_state.LayoutPhase.{LayoutPhase}
use Rattle.cluster_model.specs.declared.layout_state.LayoutPhase.TheVariants.{Making, Free, Held, Fencing, Settling, Copying}
use Rattle.cluster_model.specs.Content.{Content}
use Rattle.cluster_model.specs.Journal.{Copy, content_of}
use Rattle.cluster_model.specs.Phases.{ids_of}
use Rattle.cluster_laws.proofs.Lists.{all_append, all_more}
use Rattle.copied_bytes.specs.CopiedBytes.{users_since}
use Rattle.machine_walk.proofs.Stories.{Story, AreEach}
use Rattle.machine_walk.proofs.Placed.{each_anywhere}
use Rattle.copied_bytes.proofs.Wholes.{IsWhole}
use Rattle.copied_bytes.proofs.TargetTurns.{all_both}
use Rattle.std.proofs.Common.{◌≡◌, ℕ, ◌+◌, Bool, true, false, List, [], ◌∷◌, ◌++◌, length, Option, Some, None, refl, sym, ap, subst, ◌∙◌, inl, inr, arith}
use Rattle.std.specs.Prelude.{slice_get}
use Rattle.std.proofs.lemmas.Bool.{cases_lt}
use Rattle.cluster_model.specs.declared.piece.Piece.{Piece}
use Rattle.cluster_model.specs.declared.ids.NodeId.{NodeId}
use Rattle.cluster_model.specs.Journal.{no_copy, copy_after, copy_by}
use Rattle.cluster_model.specs.Server.{ServerState, Caller, Effect, NoEffect, OnFile, NewFile, applied_entries, committed_entries, owner_entries, op_entries, entries_of}
use Rattle.cluster_model.specs.File.{FileOp, Writes, Commits, Sets, Restarts}
use Rattle.cluster_model.specs.DsCalls.{DsCallValue, ds_plan, ds_step}
use Rattle.cluster_model.specs.GuardLaws.{IsInOrder, CallLaws}
use Rattle.file_rule.specs.MdsFiles.{MdsFile}
use Rattle.file_rule.specs.FilePhases.{new_mds_file}
use Rattle.cluster_laws.specs.Machine.{Call, Machine, numbered_at, file_id, fresh_of, served, caller_by}
use Rattle.cluster_laws.specs.Periods.{was_granted}
use Rattle.cluster_laws.proofs.Journals.{copy_append, content_same}
use Rattle.cluster_laws.proofs.NewFiles.{pushed}
use Rattle.cluster_laws.proofs.Invariant.{Holds}
use Rattle.cluster_laws.proofs.PeriodFacts.{granted_in}
use Rattle.machine_walk.proofs.Stories.{IsOnward, IsMoment, drawn_story, onward_drawn}
use Rattle.machine_walk.proofs.WriterFacts.{KnowsWriters, IsWrittenSo}
use Rattle.machine_walk.proofs.WriterCases.{not_drawn}
use Rattle.copied_bytes.proofs.Wholes.{whole_after}
use Rattle.copied_bytes.proofs.Parts.{put_became, put_whole}
use Rattle.copied_bytes.proofs.Sources.{owner_of, GoesOnWith, unused_from}
use Rattle.copied_bytes.proofs.SourceCarry.{KnowsSources, IsOwnedAt, file_owned}
use Rattle.copied_bytes.proofs.SourceServes.{whole_kept}
use Rattle.copied_bytes.proofs.SourceServed.{grants_nothing, its_at, none_granted_here}
use Rattle.copied_bytes.proofs.ServerPlans.{plan_kind}
use Rattle.copied_bytes.proofs.TargetServes.{IsPieceCall, comes}
use Rattle.copied_bytes.proofs.TargetFacts.{KnowsTargets}
use Rattle.copied_bytes.proofs.LiveCopies.{IsWholeCopy, is_made, live_made}
use Rattle.copied_bytes.proofs.LiveServes.{whole_put}
use Rattle.copied_bytes.proofs.Replaced.{NoneLost}
use Rattle.copied_bytes.proofs.SinceFree.{IsUserless, users_same, users_on}
use Rattle.machine_walk.proofs.WriterFacts.{IsKnownPacket}
use Rattle.copied_bytes.proofs.TargetFacts.{IsPiecePacket}
use Rattle.copied_bytes.proofs.TargetCases.{piece_known}
use Rattle.copied_bytes.proofs.TargetTurns.{all_both}
use Rattle.copied_bytes.proofs.LiveCopies.{KnowsLive}
use Rattle.copied_bytes.proofs.TargetMoves.{owner_same}
use Rattle.cluster_laws.proofs.Lists.{all_at}
use Rattle.copied_bytes.proofs.AlikeKinds.{IsFreedAlike, alike_map, is_behind_copy}
use Rattle.copied_bytes.proofs.AlikeSteps.{IsSteadyAt, AreSteadyAt, IsFileAlike, KnowsAlike, file_on, steady_same}

-- ---- data servers say nothing of users, and free no file

pub record IsOfNoFile (e : Entry) : Type 0 where
  pub users : (f : FileId) → IsUserless f e
  pub freed : (b : List Entry) → IsFreedAlike b e

applied_only : (id : MirrorId) (uid at : ℕ) (bytes : List ℕ) → AllByRecursion IsOfNoFile (applied_entries id uid at bytes)
applied_only id uid at [] = tt
applied_only id uid at (b ∷ bytes) = (record { users = λ f us. refl; freed = λ j. tt }, tt)

committed_only : (id : MirrorId) (synced : Bool) → AllByRecursion IsOfNoFile (committed_entries id synced)
committed_only id false = tt
committed_only id true = (record { users = λ f us. refl; freed = λ j. tt }, tt)

owner_only : (id : MirrorId) (owner : Option ℕ) → AllByRecursion IsOfNoFile (owner_entries id owner)
owner_only id None = tt
owner_only id (Some uid) = (record { users = λ f us. refl; freed = λ j. tt }, tt)

op_only : (id : MirrorId) (uid : ℕ) (op : FileOp) → AllByRecursion IsOfNoFile (op_entries id uid op)
op_only id uid (Writes at synced bytes) = all_append IsOfNoFile (applied_entries id uid at bytes) (committed_entries id synced) (applied_only id uid at bytes) (committed_only id synced)
op_only id uid Commits = committed_only id true
op_only id uid (Sets changes) = owner_only id changes.owner
op_only id uid (Restarts pieces) = tt

pub server_fileless : (s : ServerState) (uid : ℕ) (effect : Effect) → AllByRecursion IsOfNoFile (entries_of s uid effect)
server_fileless s uid NoEffect = tt
server_fileless s uid (OnFile index op) = op_only _ uid op
server_fileless s uid (NewFile name owner group mode) = (record { users = λ f us. refl; freed = λ j. tt }, tt)

pub fileless_each : (front entries : List Entry) → AllByRecursion IsOfNoFile entries → AreEach IsFreedAlike front entries
fileless_each front entries h = each_anywhere IsFreedAlike front entries (all_more IsOfNoFile (λ e. (b : List Entry) → IsFreedAlike b e) entries (λ e k. k.freed) h)

module _ (t : Story) (m : Machine) (journal : List Entry) (at : IsMoment t m journal) (w : KnowsWriters t m journal) (p : KnowsSources t m journal) (q : KnowsTargets t m journal) (live : KnowsLive t m journal) (r : KnowsAlike t m.next_uid m.files journal) where
  -- ---- a call at a data server

  module _ (calls : (s : ServerState) (caller : Caller) (call : DsCallValue) → IsInOrder s → CallLaws s caller call (ds_step s caller call).server (ds_step s caller call).reply (ds_step s caller call).entries)
      (place : ℕ) (from : NodeId) (n xid uid gid : ℕ) (call : DsCallValue) (s : ServerState) (sent : slice_get m.packets place ≡ Some (Call from n xid uid gid call)) (there : numbered_at m.servers n ≡ Some s)
      (each : AreEach (IsWrittenSo t m.next_uid) journal (ds_step s (caller_by uid gid) call).entries) (h : Holds (served m place from n xid (ds_step s (caller_by uid gid) call)).machine (journal ++ (ds_step s (caller_by uid gid) call).entries) t.drawn) where
    abbrev caller : Caller
    caller = caller_by uid gid

    abbrev entries : List Entry
    entries = (ds_step s caller call).entries

    piece : (bytes : List ℕ) → IsPieceCall t bytes uid call
    piece bytes = piece_known t m journal at w p q uid call (all_at (IsKnownPacket t m.next_uid journal) m.packets place (Call from n xid uid gid call) w.packets sent) (all_at (IsPiecePacket t m.next_uid) m.packets place (Call from n xid uid gid call) q.pieces sent) bytes

    whole_now : (id : MirrorId) (bytes : List ℕ) → IsWhole bytes (content_of journal id).content → IsWholeCopy t (content_of journal id) → was_granted journal (owner_of journal id) ≡ false → IsWhole bytes (content_of (journal ++ entries) id).content
    whole_now id bytes whole copies unused = subst (λ (c : Copy). IsWhole bytes c.content) (sym (copy_append id no_copy journal entries)) (by_copier (t.copied (owner_of journal id)) refl)
      where
        by_copier : (o : Option (List ℕ)) → t.copied (owner_of journal id) ≡ o → IsWhole bytes (copy_by id (content_of journal id) entries).content
        by_copier None is = whole_kept t m.next_uid journal s caller id bytes (plan_kind s caller call) (record { plain = is; unused = unused }) each whole
        by_copier (Some b) is =
            let same : b ≡ bytes = ap (λ (c : Content). c.stable) (sym (copies b is).is ∙ whole.is) in
            let put = whole_put bytes (content_of journal id).content whole in
            put_whole bytes _ (put_became bytes (length bytes) (content_of journal id).content _ (comes t m.next_uid journal s caller id bytes (plan_kind s caller call) (piece bytes) (is ∙ ap Some same) each put.part) put)

    steady_then : (k : ℕ) (bytes : List ℕ) (id : MirrorId) → IsOwnedAt t m journal k id → IsWholeCopy t (content_of journal id) × IsSteadyAt t m.next_uid journal k bytes id → IsSteadyAt t m.next_uid (journal ++ entries) k bytes id
    steady_then k bytes id o z = (
      whole_now id bytes z.1.0 z.0 (z.1.1.none (owner_of journal id) o.mine (omega arith)),
      unused_from t m.next_uid t m.next_uid k journal (journal ++ entries) (grants_nothing t m journal at w p entries (none_granted_here t m journal at w p calls place from n xid uid gid call s sent there each h) k) (owner_of journal id) (owner_of (journal ++ entries) id)
          (its_at t m journal at w p calls place from n xid uid gid call s sent there each h k id o).rises z.1.1,
    )

    -- what is known of the copies among a file's live mirrors
    whole_copies : (k : ℕ) (f : MdsFile) → numbered_at m.files k ≡ Some f → is_made f.layout.phase ≡ true → AllByRecursion (λ id. IsWholeCopy t (content_of journal id)) (ids_of f.layout.live)
    whole_copies k f found made = live.copies k (ids_of f.layout.live) ((at.holds.files k f found).live ∙ live_made f.layout.phase (ids_of f.layout.live) made)

    behind_made : (p : LayoutPhase) → is_behind_copy p ≡ true → is_made p ≡ true
    behind_made Making e = absurd cc
    behind_made Free e = refl
    behind_made (Held holder is_recalled) e = refl
    behind_made (Fencing next end) e = refl
    behind_made (Settling copies) e = refl
    behind_made (Copying copier copies) e = refl

    userless : (f : FileId) → AllByRecursion (IsUserless f) entries
    userless f = all_more IsOfNoFile (IsUserless f) entries (λ e k. k.users f) (server_fileless s uid (ds_plan s caller call).effect)

    served_file : (k : ℕ) (f : MdsFile) → numbered_at m.files k ≡ Some f → IsFileAlike t m.next_uid journal k f.layout f.activity → IsFileAlike t m.next_uid (journal ++ entries) k f.layout f.activity
    served_file k f found z = record {
      users = users_on journal entries k f.layout.cred.0 (userless (file_id k)) f.layout.phase z.users;
      alike = alike_map k (AreSteadyAt t m.next_uid journal k) (AreSteadyAt t m.next_uid (journal ++ entries) k) NoneLost journal (journal ++ entries) (ids_of f.layout.live) f.activity (λ e. users_same (file_id k) journal entries (userless (file_id k)) ∙ e) f.layout.phase
          (λ b st. (
            st.0,
            all_both (IsOwnedAt t m journal k) (λ id. IsWholeCopy t (content_of journal id) × IsSteadyAt t m.next_uid journal k st.0 id) (IsSteadyAt t m.next_uid (journal ++ entries) k st.0) (ids_of f.layout.live) (λ id o x. steady_then k st.0 id o x) (file_owned t m journal at.holds p.owners k f found)
                (all_both (λ id. IsWholeCopy t (content_of journal id)) (IsSteadyAt t m.next_uid journal k st.0) (λ id. IsWholeCopy t (content_of journal id) × IsSteadyAt t m.next_uid journal k st.0 id) (ids_of f.layout.live) (λ id x y. (x, y)) (whole_copies k f found (behind_made f.layout.phase b)) st.1),
          )) z.alike;
    }

    pub served_alike : KnowsAlike t m.next_uid m.files (journal ++ entries)
    served_alike = record { files = λ k f found. served_file k f found (r.files k f found) }

    pub served_freed : AreEach IsFreedAlike journal entries
    served_freed = fileless_each journal entries (server_fileless s uid (ds_plan s caller call).effect)

  -- ---- a restart

  pub restarted_alike : (n : ℕ) (pieces : List Piece) → KnowsAlike t m.next_uid m.files (journal ++ entry.Restarted n pieces ∷ [])
  restarted_alike n pieces =
      let e : Entry = entry.Restarted n pieces in
      record {
        files = λ k f found. file_on t m.next_uid t m.next_uid k journal (e ∷ []) f.layout f.activity (λ us. refl, tt)
            (λ bytes z. all_more (IsSteadyAt t m.next_uid journal k bytes) (IsSteadyAt t m.next_uid (journal ++ e ∷ []) k bytes) (ids_of f.layout.live)
            (λ id x.
            let owner : owner_of (journal ++ e ∷ []) id ≡ owner_of journal id = owner_same t m journal at w p q n pieces id in
            (subst (λ (c : Copy). IsWhole bytes c.content) (sym (copy_append id no_copy journal (e ∷ []))) (whole_after id bytes (content_of journal id) e refl x.0), unused_from t m.next_uid t m.next_uid k journal (journal ++ e ∷ []) (grants_nothing t m journal at w p (e ∷ []) (refl, tt) k) (owner_of journal id) (owner_of (journal ++ e ∷ []) id) (omega (arith, owner)) x.1)) z) (r.files k f found);
      }

  -- ---- a note

  pub noted_alike : (e : Entry) → granted_in e ≡ None → ((id : MirrorId) (c : Copy) → copy_after id c e ≡ c) → ((f : FileId) → IsUserless f e) → KnowsAlike t m.next_uid m.files (journal ++ e ∷ [])
  noted_alike e none copies users = record {
    files = λ k f found. file_on t m.next_uid t m.next_uid k journal (e ∷ []) f.layout f.activity (users (file_id k), tt)
        (λ bytes z. all_more (IsSteadyAt t m.next_uid journal k bytes) (IsSteadyAt t m.next_uid (journal ++ e ∷ []) k bytes) (ids_of f.layout.live)
        (λ id x. steady_same t m.next_uid t m.next_uid k journal (journal ++ e ∷ []) (grants_nothing t m journal at w p (e ∷ []) (none, tt) k) bytes id (content_same id journal (e ∷ []) (copies id, tt)) x) z) (r.files k f found);
  }

  -- ---- a new file

  module _ (servers : List ℕ) where
    abbrev next : Story
    next = drawn_story t m.next_name (length m.files + 1) m.next_uid None

    onward : IsOnward t m.next_uid m.next_name next
    onward = onward_drawn t m.next_uid m.next_name (length m.files + 1) None

    goes : (k : ℕ) → GoesOnWith t m.next_uid next (m.next_uid + 1) k journal journal
    goes k = record {
      mine = λ u mine.
          elim (cases_lt u m.next_uid) [
            | inl less ↦ inl (record { mine = sym (onward.whose u less) ∙ mine.mine; drawn = less })
            | inr le ↦ inr le
          ];
      unused = λ u mine was. was;
      fresh = λ u le. not_drawn m.next_uid u journal at.periods.below le;
    }

    old_file : (k : ℕ) (f : MdsFile) → IsFileAlike t m.next_uid journal k f.layout f.activity → IsFileAlike next (m.next_uid + 1) journal k f.layout f.activity
    old_file k f z = record {
      users = z.users;
      alike = alike_map k (AreSteadyAt t m.next_uid journal k) (AreSteadyAt next (m.next_uid + 1) journal k) NoneLost journal journal (ids_of f.layout.live) f.activity (λ e. e) f.layout.phase
          (λ b st. (st.0, all_more (IsSteadyAt t m.next_uid journal k st.0) (IsSteadyAt next (m.next_uid + 1) journal k st.0) (ids_of f.layout.live) (λ id x. steady_same t m.next_uid next (m.next_uid + 1) k journal journal (goes k) st.0 id refl x) st.1)) z.alike;
    }

    pub created_alike : users_since journal (file_id (length m.files + 1)) ≡ [] → KnowsAlike next (m.next_uid + 1) (m.files ++ new_mds_file (fresh_of m) servers ∷ []) journal
    created_alike none = record {
      files = λ k g is.
          elim (pushed m.files (new_mds_file (fresh_of m) servers) k g is) [
            | inl old ↦ old_file k g (r.files k g old)
            | inr last ↦ subst (λ (j : ℕ). IsFileAlike next (m.next_uid + 1) journal j g.layout g.activity) (sym last.0)
                (subst (λ (y : MdsFile). IsFileAlike next (m.next_uid + 1) journal (length m.files + 1) y.layout y.activity) last.1 (record { users = none; alike = tt }))
          ];
    }
