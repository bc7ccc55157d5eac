-- Targets behind a new file, and at each swap of a bound run.
use Rattle.std.proofs.Common.{◌∷◌, false, ◌≡◌, ℕ, ◌+◌, ◌≤◌, arith, List, [], Some, None, refl, sym, ap, subst, ◌∙◌, ◌<◌, Bool, true, cond, length, inl, inr}
use Rattle.cluster_model.specs.declared.piece.Piece.{Piece}
use Rattle.cluster_model.specs.declared.ids.FileId.{FileId}
use Rattle.cluster_model.specs.declared.ids.NodeId.TheVariants.{Mds}
use Rattle.cluster_model.specs.declared.ids.MirrorId.{MirrorId}
use Rattle.cluster_model.specs.declared.entry.Entry.{Entry}
use Rattle.cluster_model.specs.declared.layout_state.LayoutState.{LayoutState}
use Rattle.cluster_model.specs.Journal.{content_of}
use Rattle.cluster_model.specs.Server.{ServerState, Caller, new_server, restart_of}
use Rattle.cluster_model.specs.DsCalls.{DsCallValue, ds_plan, ds_step, Create, SetAttr, Write, Commit, Read}
use Rattle.cluster_model.specs.GuardLaws.{IsInOrder, IsTold, CallLaws, RestartLaws}
use Rattle.file_rule.specs.MdsFiles.{Activity, Idle, Makes, Fences, Settles, Copies, MdsFile, a_uid}
use Rattle.file_rule.specs.FilePhases.{phase, new_mds_file}
use Rattle.cluster_laws.specs.Machine.{machine_after, file_id, Machine, Move, PacketValue, Call, caller_by, fresh_of, journal_of, new_machine, Reply, numbered_at}
use Rattle.cluster_laws.specs.FenceLaw.{new_servers}
use Rattle.cluster_laws.specs.Agreement.{shown_at, bytes_of, Has}
use Rattle.cluster_laws.specs.Holders.{AreBound, the_write}
use Rattle.copied_bytes.specs.CopiedBytes.{IsCopyOfAll, SwapsInAlike}
use Rattle.machine_walk.proofs.Stories.{each_weaker, Story, AreEach, each_at, IsMoment, drawn_story, IsOnward, onward_drawn}
use Rattle.machine_walk.proofs.MoveCases.{Cases, created_machine}
use Rattle.machine_walk.proofs.MoveRuns.{RunDone, run_done}
use Rattle.machine_walk.proofs.WriterFacts.{KnowsWriters, IsWrittenSo, IsKnownPacket, IsWriteCall}
use Rattle.machine_walk.proofs.WriterCases.{writer_cases, not_drawn}
use Rattle.machine_walk.proofs.WriterRuns.{first_story, first_moment, first_writers, no_files}
use Rattle.copied_bytes.proofs.Wholes.{whole_has, whole_shown}
use Rattle.copied_bytes.proofs.Sources.{owner_of}
use Rattle.copied_bytes.proofs.SourceCarry.{KnowsSources}
use Rattle.std.proofs.lemmas.Bool.{cases_lt, eq-eqb}
use Rattle.cluster_laws.proofs.PeriodStates.{IsMine}
use Rattle.cluster_laws.proofs.NewFiles.{pushed}
use Rattle.cluster_laws.specs.Periods.{was_granted}
use Rattle.machine_walk.proofs.Writers.{IsCopier, copier_on, HasUids}
use Rattle.machine_walk.proofs.Noted.{noter}
use Rattle.copied_bytes.proofs.Parts.{IsPart}
use Rattle.copied_bytes.proofs.TargetTurns.{IsSiteOf, all_both}
use Rattle.copied_bytes.proofs.TargetFacts.{IsPieceFor, IsPiecePacket, KeepsTargets, KnowsTargets, targets_on}
use Rattle.copied_bytes.proofs.TargetCases.{own_all, both_wrong, called_targets, again_targets, used_targets, noted_targets}
use Rattle.copied_bytes.proofs.WholeSwaps.{IsSwapWhole, HasBoth, swapless_each, server_swapless}
use Rattle.copied_bytes.proofs.SourceRuns.{KnowsBoth, IsSwapOf, source_cases, first_sources}
use Rattle.copied_bytes.proofs.TargetSteps.{stepped_targets, stepped_whole}
use Rattle.copied_bytes.proofs.TargetMoves.{served_targets, restarted_targets}
use Rattle.cluster_model.specs.declared.entry.Entry.TheVariants as entry
use Rattle.cluster_laws.proofs.Lists.{within_number}
use Rattle.machine_walk.proofs.WriterSteps.{drew_on}
use Rattle.copied_bytes.proofs.WholeSwaps.{IsNobodys}
use Rattle.std.specs.List.{AllByRecursion}
use Rattle.std.proofs.lemmas.Option.{same_Some}

-- ---- a new file

module _ (t : Story) (m : Machine) (journal : List Entry) (at : IsMoment t m journal) (w : KnowsWriters t m journal) (p : KnowsSources t m journal) (q : KnowsTargets t m journal) (servers : List ℕ) where
  abbrev number : ℕ
  number = length m.files + 1

  abbrev then : Story
  then = drawn_story t m.next_name number m.next_uid None

  abbrev uids : ℕ
  uids = m.next_uid + 1

  abbrev names : ℕ
  names = m.next_name + 1

  onward : IsOnward t m.next_uid m.next_name then
  onward = onward_drawn t m.next_uid m.next_name number None

  piece_then : (user : ℕ) (call : DsCallValue) → IsWriteCall t m.next_uid journal user call → IsPieceFor t m.next_uid user call → IsPieceFor then uids user call
  piece_then user (Create name owner) known piece = λ bytes less. tt
  piece_then user (SetAttr fileid owner guard) known piece = λ bytes less. tt
  piece_then user (Write fileid pos synced data_) known piece = λ bytes less copy.
      elim (cases_lt user m.next_uid) [
        | inl old ↦ piece bytes old (sym (onward.copied user old) ∙ copy)
        | inr le ↦ absurd (past fileid pos synced data_ known le)
      ]
    where
      past : (a b : ℕ) (c : Bool) (d : List ℕ) → IsWriteCall t m.next_uid journal user (Write a b c d) → m.next_uid ≤ user → ⊥
      past a b c d (inl noted) le = both_wrong (was_granted journal user) (noter (λ u. was_granted journal u ≡ true) (the_write b d) user journal w.wrote noted) (not_drawn m.next_uid user journal at.periods.below le)
      past a b c d (inr k) le = let less = k.by.drawn in omega (arith, less, le)
  piece_then user (Commit fileid) known piece = λ bytes less. tt
  piece_then user (Read fileid pos count) known piece = λ bytes less. tt

  packet_then : (z : PacketValue) → IsKnownPacket t m.next_uid journal z → IsPiecePacket t m.next_uid z → IsPiecePacket then uids z
  packet_then (Call from i xid user gid call) known piece = piece_then user call known piece
  packet_then (Reply place i to xid reply) known piece = tt

  old_mine : (k u : ℕ) → u < m.next_uid → IsMine then.whose uids k u → IsMine t.whose m.next_uid k u
  old_mine k u less h = record { mine = sym (onward.whose u less) ∙ h.mine; drawn = less }

  site_then : (k by_ name : ℕ) → IsSiteOf t m.next_name k by_ name → IsSiteOf then names k by_ name
  site_then k by_ name h = let less = h.drawn in record { drawn = omega (arith, less); home = onward.home name h.drawn ∙ h.home; low = onward.low name h.drawn ∙ h.low }

  new_whose : then.whose m.next_uid ≡ number
  new_whose = ap (λ (b : Bool). cond b number (t.whose m.next_uid)) (eq-eqb m.next_uid m.next_uid refl)

  old_by : (k : ℕ) (a : Activity) (s : LayoutState) → HasUids t m.next_uid k s a → ((u : ℕ) → IsMine then.whose uids k u → IsMine t.whose m.next_uid k u) → KeepsTargets t m.next_uid m.next_name m.packets (m.last_xid Mds) journal k a
      → KeepsTargets then uids names m.packets (m.last_xid Mds) journal k a
  old_by k Idle s has only h = tt
  old_by k (Makes all) s has only h = tt
  old_by k (Fences fence) s has only h = tt
  old_by k (Settles stage) s has only h = tt
  old_by k (Copies c) s has only h = record {
    bytes = h.bytes;
    copy = onward.copied c.copier has.copier.mine.drawn ∙ h.copy;
    kept = targets_on t m.next_uid m.next_name then uids names k m.packets m.packets (m.last_xid Mds) (m.last_xid Mds) journal journal h.bytes c only (λ name site. site_then k c.copier name site) (λ id upto owner put. put) (λ xid server call o. o)
        (λ xid id owner put o. o) (own_all journal journal c (λ z v made owner. owner)) h.kept;
  }

  old_file : (k : ℕ) (g : MdsFile) → numbered_at m.files k ≡ Some g → KeepsTargets then uids names m.packets (m.last_xid Mds) journal k g.activity
  old_file k g found = old_by k g.activity g.layout (w.files k g found) only (q.files k g found)
    where
      only : (u : ℕ) → IsMine then.whose uids k u → IsMine t.whose m.next_uid k u
      only u mine =
          elim (cases_lt u m.next_uid) [
            | inl less ↦ old_mine k u less mine
            | inr le ↦
                let less = mine.drawn in
                let last : u ≡ m.next_uid = omega (arith, le, less) in
                let same : k ≡ number = sym mine.mine ∙ ap then.whose last ∙ new_whose in
                let within = within_number m.files k g found in
                absurd (omega (arith, same, within.1))
          ]

  parts_then : (id : MirrorId) (bytes : List ℕ) → then.copied (owner_of journal id) ≡ Some bytes → IsPart bytes (content_of journal id).content
  parts_then id bytes copy = q.parts id bytes (q.bound id) (sym (onward.copied (owner_of journal id) (q.bound id)) ∙ copy)

  pub created_targets : KnowsTargets then (created_machine m servers) journal
  created_targets = record {
    bound = λ id. (let less = q.bound id in omega (arith, less));
    parts = λ id bytes less copy. parts_then id bytes copy;
    pieces = all_both (IsKnownPacket t m.next_uid journal) (IsPiecePacket t m.next_uid) (IsPiecePacket then uids) m.packets packet_then w.packets q.pieces;
    files = λ k g is.
        elim (pushed m.files (new_mds_file (fresh_of m) servers) k g is) [
          | inl old ↦ old_file k g old
          | inr last ↦ subst (λ (y : MdsFile). KeepsTargets then uids names m.packets (m.last_xid Mds) journal k y.activity) last.1 tt
        ];
  }

-- ---- all moves

abbrev pub KnowsAll : Story → Machine → List Entry → Type 0
KnowsAll t m journal = KnowsBoth t m journal × KnowsTargets t m journal

abbrev pub IsWholeOf : Story → ℕ → List Entry → Entry → Type 0
IsWholeOf t uid before e = IsSwapWhole t uid before e

whole_on : (t : Story) (uid name : ℕ) (then : Story) (more : ℕ) (before : List Entry) (e : Entry) → IsOnward t uid name then → uid ≤ more → IsSwapWhole t uid before e → IsSwapWhole then more before e
whole_on t uid name next more before (entry.Swapped f old into) on up h = record { first = h.first; rest = h.rest; live = h.live; bytes = h.bytes; whole = h.whole; target = record { whole = h.target.whole; copier = copier_on t uid name next more on up (content_of before into).owner h.target.copier; copy = on.copied (content_of before into).owner h.target.copier.drawn ∙ h.target.copy }; unused = h.unused }
whole_on t uid name next more before _ on up h = tt

module _ (calls : (s : ServerState) (caller : Caller) (call : DsCallValue) → IsInOrder s → CallLaws s caller call (ds_step s caller call).server (ds_step s caller call).reply (ds_step s caller call).entries)
    (restarts : (s : ServerState) (pieces : List Piece) (next : ServerState) → restart_of s pieces ≡ Some next → IsInOrder s → RestartLaws s pieces next) where
  abbrev both : Cases KnowsBoth IsSwapOf
  both = source_cases calls restarts

  abbrev writers : Cases KnowsWriters IsWrittenSo
  writers = writer_cases calls

  pub target_cases : Cases KnowsAll IsWholeOf
  target_cases = record {
    later = λ t uid name then more before e on up q. whole_on t uid name then more before e on up q;
    steps = λ t m journal at p n f input then by. (
      ((both.steps t m journal at p.0 n f input then by).0, stepped_targets t m journal at p.0.0 p.0.1 p.1 n f input then by),
      each_weaker (IsSwapWhole t m.next_uid) (IsSwapWhole then (m.next_uid + (phase (file_id n) f input (fresh_of m)).uids)) journal (phase (file_id n) f input (fresh_of m)).entries
          (λ b e z. whole_on t m.next_uid m.next_name then (m.next_uid + (phase (file_id n) f input (fresh_of m)).uids) b e (drew_on t m journal n (phase (file_id n) f input (fresh_of m)) then by.drew) (omega arith) z) (stepped_whole t m journal at p.0.0 p.0.1 p.1 n f input then by),
    );
    calls = λ t m journal at p n xid f c there is less h. (both.calls t m journal at p.0 n xid f c there is less h, called_targets t m journal at p.0.0 p.0.1 p.1 n xid f c there is less);
    serves = λ t m journal at p place from n xid uid gid call s sent there h.
        let each = (writers.serves t m journal at p.0.0 place from n xid uid gid call s sent there h).1 in
        let done = (both.serves t m journal at p.0 place from n xid uid gid call s sent there h).0 in
        ((done, served_targets t m journal at p.0.0 p.0.1 p.1 calls place from n xid uid gid call s sent there each h done.1), swapless_each t m.next_uid journal (ds_step s (caller_by uid gid) call).entries (server_swapless s uid (ds_plan s (caller_by uid gid) call).effect));
    restarts = λ t m journal at p n pieces s new there is h. (((both.restarts t m journal at p.0 n pieces s new there is h).0, restarted_targets t m journal at p.0.0 p.0.1 p.1 n pieces new), (tt, tt));
    again = λ t m journal at p place x there. (both.again t m journal at p.0 place x there, again_targets t m journal at p.0.0 p.0.1 p.1 place x there);
    uses = λ t m journal at p node n xid uid gid call may new bound. (both.uses t m journal at p.0 node n xid uid gid call may new bound, used_targets t m journal at p.0.0 p.0.1 p.1 node n xid uid gid call new bound);
    takes = λ t m journal at p file uid pos bytes bound. (((both.takes t m journal at p.0 file uid pos bytes bound).0, noted_targets t m journal at p.0.0 p.0.1 p.1 (entry.Sent file (a_uid uid) pos bytes) (λ id c. refl)), (tt, tt));
    strays = λ t m journal at p file uid pos bytes bound. (((both.strays t m journal at p.0 file uid pos bytes bound).0, noted_targets t m journal at p.0.0 p.0.1 p.1 (entry.Rogue file (a_uid uid) pos bytes) (λ id c. refl)), (tt, tt));
    tells = λ t m journal at p file uid pos bytes bound. (((both.tells t m journal at p.0 file uid pos bytes bound).0, noted_targets t m journal at p.0.0 p.0.1 p.1 (entry.Told file (a_uid uid) pos bytes) (λ id c. refl)), (tt, tt));
    creates = λ t m journal at p servers may h. (both.creates t m journal at p.0 servers may h, created_targets t m journal at p.0.0 p.0.1 p.1 servers);
  }

  module _ (new : (number boot : ℕ) → IsInOrder (new_server number boot) × IsTold (new_server number boot) []) (boots : List ℕ) where
    abbrev begin : Machine
    begin = new_machine (new_servers 1 boots)

    pub first_targets : KnowsTargets first_story begin []
    first_targets = record {
      bound = λ id. omega arith;
      parts = λ id bytes less copy. absurd cc;
      pieces = tt;
      files = λ n f is. absurd (no_files n f is);
    }

    targets_run : (moves : List Move) → AreBound boots moves → RunDone KnowsAll IsWholeOf target_cases calls restarts first_story begin [] moves
    targets_run moves bound = run_done KnowsAll IsWholeOf target_cases calls restarts moves first_story begin [] (first_moment new calls restarts boots) ((first_writers new calls restarts boots, first_sources calls restarts new boots), first_targets) bound

    alike : (t : Story) (uid : ℕ) (journal before : List Entry) (f : FileId) (into : MirrorId) → ((u : ℕ) → IsCopier t uid u → was_granted journal u ≡ false) → HasBoth t uid before f into → IsCopyOfAll journal before f into
    alike t uid journal before f into copiers h =
        let shown : bytes_of before f ≡ h.bytes = ap (shown_at before) h.live ∙ whole_shown h.bytes (content_of before h.first).content h.whole in
        record { has = subst (λ (b : List ℕ). Has b (content_of before into).content) (sym shown) (whole_has h.bytes (content_of before into).content h.target.whole); owner = copiers (content_of before into).owner h.target.copier; others = λ live is. subst (AllByRecursion (IsNobodys before)) (same_Some (h.first ∷ h.rest) live (sym h.live ∙ is)) h.unused }

    pub swaps_in_alike : (moves : List Move) → AreBound boots moves → SwapsInAlike (journal_of begin moves)
    swaps_in_alike moves bound before behind f old new_one is =
        let run = targets_run moves bound in
        alike run.last (machine_after begin moves).next_uid (journal_of begin moves) before f new_one run.kept.0.0.copiers (each_at (IsSwapWhole run.last (machine_after begin moves).next_uid) [] before (entry.Swapped f old new_one) behind (subst (AreEach (IsSwapWhole run.last (machine_after begin moves).next_uid) []) is run.each))
