-- Who may write, at every moment of a bound run.
use Rattle.std.proofs.Common.{◌≡◌, ◌≢◌, ℕ, ◌+◌, ◌<◌, ◌≤◌, Bool, true, false, cond, List, [], ◌∷◌, ◌++◌, length, Option, Some, None, refl, sym, ap, subst, ◌∙◌, arith, inl, inr, append-nil}
use Rattle.std.specs.List.{AllByRecursion}
use Rattle.std.proofs.lemmas.Bool.{cases_lt, eq-eqb}
use Rattle.cluster_model.specs.declared.piece.Piece.{Piece}
use Rattle.cluster_model.specs.declared.ids.NodeId.{NodeId}
use Rattle.cluster_model.specs.declared.entry.Entry.{Entry}
use Rattle.cluster_model.specs.declared.entry.Entry.TheVariants as entry
use Rattle.cluster_model.specs.Server.{ServerState, Caller}
use Rattle.cluster_model.specs.DsCalls.{DsCallValue, Create, SetAttr, Write, Commit, Read, ds_plan, ds_step}
use Rattle.cluster_model.specs.GuardLaws.{IsInOrder, CallLaws}
use Rattle.cluster_model.specs.Phases.{ids_of}
use Rattle.file_rule.specs.MdsFiles.{MdsFile, FileStep, a_uid}
use Rattle.file_rule.specs.FilePhases.{FileInput, CallOut, call_out, new_mds_file, phase}
use Rattle.cluster_laws.specs.Machine.{PacketValue, Call, Reply, Machine, Holding, numbered_at, with_server, served, held_by, file_id, fresh_of, caller_by}
use Rattle.cluster_laws.specs.Periods.{was_granted}
use Rattle.cluster_laws.specs.Holders.{HeldUnder, IsBoundCall}
use Rattle.cluster_laws.proofs.Lists.{all_append, all_more, all_at}
use Rattle.cluster_laws.proofs.Invariant.{If, net_of}
use Rattle.cluster_laws.proofs.PeriodFacts.{granted_in, none_granted, granted_append}
use Rattle.cluster_laws.proofs.NewFiles.{pushed}
use Rattle.cluster_laws.proofs.CallsOut.{mds_call}
use Rattle.machine_walk.proofs.Stories.{Story, drawn_story, IsOnward, onward_same, onward_drawn, AreEach, IsMoment}
use Rattle.machine_walk.proofs.MoveCases.{after_step, after_call, created_machine, IsStepBy, Cases}
use Rattle.machine_walk.proofs.StepKinds.{StepKind}
use Rattle.machine_walk.proofs.StepsByKind.{phase_kind}
use Rattle.machine_walk.proofs.Placed.{files_set, each_anywhere, its_call}
use Rattle.machine_walk.proofs.Writers.{IsPlainUid, IsCopier, HasUids, uids_on, writer_in, grant_or, uids_kind}
use Rattle.machine_walk.proofs.Noted.{granted_on, IsByUser, users_on}
use Rattle.machine_walk.proofs.WriterFacts.{IsWriteCall, IsKnownPacket, KnowsWriters, IsWrittenSo, written_on, packets_on, held_on, ungranted}
use Rattle.machine_walk.proofs.WriterSteps.{drew_on, drew_new, AreKnown, step_known, held_known, out_known}
use Rattle.machine_walk.proofs.WriterServes.{IsOfServerOnly, server_only, call_each}

-- ---- uids that were granted are below what is to be drawn

pub not_drawn : (uid u : ℕ) (journal : List Entry) → AllByRecursion (λ e. If (granted_in e) (λ k. k < uid)) journal → uid ≤ u → was_granted journal u ≡ false
not_drawn uid u journal h up = none_granted u journal (all_more (λ e. If (granted_in e) (λ k. k < uid)) (λ e. If (granted_in e) (λ k. k ≢ u)) journal (λ e. other (granted_in e)) h)
  where
    other : (x : Option ℕ) → If x (λ k. k < uid) → If x (λ k. k ≢ u)
    other None k = tt
    other (Some v) k = λ e. absurd (omega (arith, e, k, up))

module _ (t : Story) (m : Machine) (journal : List Entry) (at : IsMoment t m journal) (p : KnowsWriters t m journal) where
  -- ---- nothing was drawn, and the entries grant nothing

  module _ (servers : List ServerState) (last_xid : NodeId → ℕ) (packets : List PacketValue) (next_name : ℕ) where
    abbrev then_so : Machine
    then_so = record { servers = servers; files = m.files; next_uid = m.next_uid; next_name = next_name; last_xid = last_xid; packets = packets; holdings = m.holdings }

    pub grown : (entries : List Entry) → AllByRecursion (λ e. granted_in e ≡ None) entries → AllByRecursion (IsByUser (journal ++ entries)) entries → AllByRecursion (IsKnownPacket t m.next_uid (journal ++ entries)) packets → KnowsWriters t then_so (journal ++ entries)
    grown entries none wrote known = record {
      held = held_on journal entries m.holdings p.held;
      wrote = all_append (IsByUser (journal ++ entries)) journal entries (users_on journal entries journal p.wrote) wrote;
      nobody = ungranted 0 journal entries none p.nobody;
      none = p.none;
      copiers = λ u k. ungranted u journal entries none (p.copiers u k);
      packets = known;
      files = p.files;
    }

    pub packed : AllByRecursion (IsKnownPacket t m.next_uid journal) packets → KnowsWriters t then_so journal
    packed known = record { held = p.held; wrote = p.wrote; nobody = p.nobody; none = p.none; copiers = p.copiers; packets = known; files = p.files }

  still_known : (entries : List Entry) → AllByRecursion (IsKnownPacket t m.next_uid (journal ++ entries)) m.packets
  still_known entries = packets_on t m.next_uid m.next_name t m.next_uid (onward_same t m.next_uid m.next_name) (omega arith) journal entries m.packets p.packets

  only_grants : (entries : List Entry) → AllByRecursion IsOfServerOnly entries → AllByRecursion (λ e. granted_in e ≡ None) entries
  only_grants entries h = all_more IsOfServerOnly (λ e. granted_in e ≡ None) entries (λ e k. k.grant) h

  only_users : (all entries : List Entry) → AllByRecursion IsOfServerOnly entries → AllByRecursion (IsByUser all) entries
  only_users all entries h = all_more IsOfServerOnly (IsByUser all) entries (λ e k. subst (λ (x : Option ℕ). If x (λ u. was_granted all u ≡ true)) (sym k.writer) tt) h

  -- ---- a step of a file

  module _ (n : ℕ) (f : MdsFile) (input : FileInput) (then : Story) (by : IsStepBy t m journal n f input then) where
    abbrev pub x : FileStep
    x = phase (file_id n) f input (fresh_of m)

    abbrev pub more : ℕ
    more = m.next_uid + x.uids

    pub on : IsOnward t m.next_uid m.next_name then
    on = drew_on t m journal n x then by.drew

    pub up : m.next_uid ≤ more
    up = omega arith

    pub kind : StepKind n (fresh_of m) input f.layout f.activity x
    kind = phase_kind n (fresh_of m) (net_of m t.drawn) journal f (at.holds.files n f by.there) input

    pub its_known : AreKnown t m.next_uid n journal x.entries
    its_known = step_known t m.next_uid n journal f.layout x.entries (at.holds.files n f by.there).cred (grant_or n (fresh_of m) input t m.next_uid kind (p.files n f by.there))

    pub its_uids : HasUids then more n x.file.layout x.file.activity
    its_uids = uids_kind t m.next_uid m.next_name then more on up n m.next_name (length m.servers) input journal kind (p.files n f by.there) (drew_new t m journal n x then by.drew)

    if_weaker : (P Q : ℕ → Type 0) (o : Option ℕ) → ((u : ℕ) → P u → Q u) → If o P → If o Q
    if_weaker P Q None g k = tt
    if_weaker P Q (Some u) g k = g u k

    pub granted_then : (u : ℕ) → was_granted journal u ≡ false → ((v : ℕ) → IsPlainUid t m.next_uid n v × (0 < v) × (was_granted (journal ++ x.entries) v ≡ true) → v ≢ u) → was_granted (journal ++ x.entries) u ≡ false
    granted_then u was other =
        granted_append u journal x.entries was (none_granted u x.entries
        (all_more (λ e. If (granted_in e) (λ v. IsPlainUid t m.next_uid n v × (0 < v) × (was_granted (journal ++ x.entries) v ≡ true))) (λ e. If (granted_in e) (λ v. v ≢ u)) x.entries
        (λ e k. if_weaker (λ v. IsPlainUid t m.next_uid n v × (0 < v) × (was_granted (journal ++ x.entries) v ≡ true)) (λ v. v ≢ u) (granted_in e) other k) its_known.grants))

    some_none : (bytes : List ℕ) → Some bytes ≡ None → ⊥
    some_none bytes e = cc

    copier_then : (u : ℕ) → IsCopier then more u → was_granted (journal ++ x.entries) u ≡ false
    copier_then u k =
        elim (cases_lt u m.next_uid) [
          | inl less ↦
              let copy : t.copied u ≡ Some k.bytes = sym (on.copied u less) ∙ k.copy in
              granted_then u (p.copiers u (record { drawn = less; bytes = k.bytes; copy = copy })) (λ v q e. some_none k.bytes (sym copy ∙ ap t.copied (sym e) ∙ q.0.no_copy))
          | inr le ↦ granted_then u (not_drawn m.next_uid u journal at.periods.below le) (λ v q e. let less = q.0.mine.drawn in absurd (omega (arith, less, le, e)))
        ]

    some_uid : 0 < m.next_uid
    some_uid = let top = at.holds.tops 0 in omega (arith, top)

    pub stepped_writers : KnowsWriters then (after_step m n x) (journal ++ x.entries)
    stepped_writers = record {
      held = all_append (λ h. was_granted (journal ++ x.entries) h.uid ≡ true) m.holdings (held_by (ids_of x.file.layout.live) x.entries) (held_on journal x.entries m.holdings p.held)
          (held_known (λ u. was_granted (journal ++ x.entries) u ≡ true) (ids_of x.file.layout.live) x.entries
          (all_more (λ e. If (granted_in e) (λ v. IsPlainUid t m.next_uid n v × (0 < v) × (was_granted (journal ++ x.entries) v ≡ true))) (λ e. If (granted_in e) (λ v. was_granted (journal ++ x.entries) v ≡ true)) x.entries
          (λ e k. if_weaker (λ v. IsPlainUid t m.next_uid n v × (0 < v) × (was_granted (journal ++ x.entries) v ≡ true)) (λ v. was_granted (journal ++ x.entries) v ≡ true) (granted_in e) (λ v q. q.2) k) its_known.grants));
      wrote = all_append (IsByUser (journal ++ x.entries)) journal x.entries (users_on journal x.entries journal p.wrote) its_known.writers;
      nobody = granted_then 0 p.nobody (λ v q e. let some = q.1 in absurd (omega (arith, some, e)));
      none = on.copied 0 some_uid ∙ p.none;
      copiers = copier_then;
      packets = packets_on t m.next_uid m.next_name then more on up journal x.entries m.packets p.packets;
      files = files_set (λ k g. HasUids then more k g.layout g.activity) m.files n f x.file by.there its_uids (λ k g other there. uids_on t m.next_uid m.next_name then more on up k g.layout g.activity (p.files k g there));
    }

    pub stepped_each : AreEach (IsWrittenSo then more) journal x.entries
    stepped_each = each_anywhere (IsWrittenSo then more) journal x.entries (all_more _ (λ e. (b : List Entry) → IsWrittenSo then more b e) x.entries (λ e k. k.so then more) its_known.quiet)

  -- ---- a call goes out

  pub called_writers : (n xid : ℕ) (f : MdsFile) (c : CallOut) → numbered_at m.files n ≡ Some f → call_out f xid ≡ Some c → KnowsWriters t (after_call m n xid c) journal
  called_writers n xid f c there is =
      let k = its_call (λ o. IsWriteCall t m.next_uid journal o.uid o.call × HasUids t m.next_uid n o.file.layout o.file.activity) (call_out f xid) c (out_known t m.next_uid journal n xid f.layout f.activity (p.files n f there)) is in
      record {
        held = p.held;
        wrote = p.wrote;
        nobody = p.nobody;
        none = p.none;
        copiers = p.copiers;
        packets = all_append (IsKnownPacket t m.next_uid journal) m.packets (mds_call xid c ∷ []) p.packets (k.0, tt);
        files = files_set (λ j g. HasUids t m.next_uid j g.layout g.activity) m.files n f c.file there k.1 (λ j g other found. p.files j g found);
      }

  -- ---- a call of a node

  pub used_call : (uid : ℕ) (call : DsCallValue) → IsBoundCall journal uid call → IsWriteCall t m.next_uid journal uid call
  used_call uid (Create name owner) k = tt
  used_call uid (SetAttr fileid owner guard) k = tt
  used_call uid (Write fileid pos synced bytes) k = inl k
  used_call uid (Commit fileid) k = tt
  used_call uid (Read fileid pos count) k = tt

  -- ---- a note of a holder

  held_uid : (uid : ℕ) (P : Holding → Type 0) → HeldUnder m uid P → was_granted journal uid ≡ true
  held_uid uid P h = subst (λ (u : ℕ). was_granted journal u ≡ true) h.its_uid (all_at (λ x. was_granted journal x.uid ≡ true) m.holdings h.place h.held p.held h.there)

  pub noted_writers : (e : Entry) → granted_in e ≡ None → If (writer_in e) (λ u. was_granted journal u ≡ true) → KnowsWriters t m (journal ++ e ∷ [])
  noted_writers e none writer =
      grown m.servers m.last_xid m.packets m.next_name (e ∷ []) (none, tt)
      (by_writer (writer_in e) writer, tt) (still_known (e ∷ []))
    where
      by_writer : (o : Option ℕ) → If o (λ u. was_granted journal u ≡ true) → If o (λ u. was_granted (journal ++ e ∷ []) u ≡ true)
      by_writer None k = tt
      by_writer (Some u) k = granted_on u journal (e ∷ []) k

  -- ---- a new file

  module _ (servers : List ℕ) where
    abbrev number : ℕ
    number = length m.files + 1

    abbrev drawn_then : Story
    drawn_then = drawn_story t m.next_name number m.next_uid None

    on_then : IsOnward t m.next_uid m.next_name drawn_then
    on_then = onward_drawn t m.next_uid m.next_name number None

    no_copy : drawn_then.copied m.next_uid ≡ None
    no_copy = ap (λ (b : Bool). cond b None (t.copied m.next_uid)) (eq-eqb m.next_uid m.next_uid refl)

    new_uid : IsPlainUid drawn_then (m.next_uid + 1) number m.next_uid
    new_uid = record { mine = record { mine = ap (λ (b : Bool). cond b number (t.whose m.next_uid)) (eq-eqb m.next_uid m.next_uid refl); drawn = omega arith }; no_copy = no_copy }

    none_copied : (u : ℕ) (bytes : List ℕ) → u ≡ m.next_uid → drawn_then.copied u ≡ Some bytes → ⊥
    none_copied u bytes e k = wrong (sym (ap drawn_then.copied e ∙ no_copy) ∙ k)
      where
        wrong : None ≡ Some bytes → ⊥
        wrong w = cc

    old_copier : (u : ℕ) → IsCopier drawn_then (m.next_uid + 1) u → was_granted journal u ≡ false
    old_copier u k =
        elim (cases_lt u m.next_uid) [
          | inl less ↦ p.copiers u (record { drawn = less; bytes = k.bytes; copy = sym (on_then.copied u less) ∙ k.copy })
          | inr le ↦ let less = k.drawn in absurd (none_copied u k.bytes (omega (arith, le, less)) k.copy)
        ]

    files_then : (k : ℕ) (g : MdsFile) → numbered_at (created_machine m servers).files k ≡ Some g → HasUids drawn_then (m.next_uid + 1) k g.layout g.activity
    files_then k g is =
        elim (pushed m.files (new_mds_file (fresh_of m) servers) k g is) [
          | inl old ↦ uids_on t m.next_uid m.next_name drawn_then (m.next_uid + 1) on_then (omega arith) k g.layout g.activity (p.files k g old)
          | inr last ↦ subst (λ (j : ℕ). HasUids drawn_then (m.next_uid + 1) j g.layout g.activity) (sym last.0) (subst (λ (y : MdsFile). HasUids drawn_then (m.next_uid + 1) number y.layout y.activity) last.1 new_uid)
        ]

    pub created_writers : KnowsWriters drawn_then (created_machine m servers) journal
    created_writers = record {
      held = p.held;
      wrote = p.wrote;
      nobody = p.nobody;
      none = let top = at.holds.tops 0 in on_then.copied 0 (omega (arith, top)) ∙ p.none;
      copiers = old_copier;
      packets = subst (λ (j : List Entry). AllByRecursion (IsKnownPacket drawn_then (m.next_uid + 1) j) m.packets) (append-nil journal) (packets_on t m.next_uid m.next_name drawn_then (m.next_uid + 1) on_then (omega arith) journal [] m.packets p.packets);
      files = files_then;
    }

  -- ---- data servers

  pub served_writers : (place : ℕ) (from : NodeId) (n xid : ℕ) (caller : Caller) (call : DsCallValue) (s : ServerState) → KnowsWriters t (served m place from n xid (ds_step s caller call)).machine (journal ++ (ds_step s caller call).entries)
  served_writers place from n xid caller call s =
      let entries : List Entry = (ds_step s caller call).entries in
      let only = server_only s caller.uid (ds_plan s caller call).effect in
      grown _ m.last_xid (m.packets ++ Reply place n from xid (ds_step s caller call).reply ∷ []) m.next_name entries (only_grants entries only) (only_users (journal ++ entries) entries only)
      (all_append (IsKnownPacket t m.next_uid (journal ++ entries)) m.packets (Reply place n from xid (ds_step s caller call).reply ∷ []) (still_known entries) (tt, tt))

  pub restarted_writers : (n : ℕ) (pieces : List Piece) (new : ServerState) → KnowsWriters t (with_server m n new m.packets) (journal ++ entry.Restarted n pieces ∷ [])
  restarted_writers n pieces new = grown _ m.last_xid m.packets m.next_name (entry.Restarted n pieces ∷ []) (refl, tt) (tt, tt) (still_known (entry.Restarted n pieces ∷ []))

-- ---- all moves

module _ (calls : (s : ServerState) (caller : Caller) (call : DsCallValue) → IsInOrder s → CallLaws s caller call (ds_step s caller call).server (ds_step s caller call).reply (ds_step s caller call).entries) where
  pub writer_cases : Cases KnowsWriters IsWrittenSo
  writer_cases = record {
    later = λ t uid name then more before e on up q. written_on t uid name then more on up before e q;
    steps = λ t m journal at p n f input then by. (stepped_writers t m journal at p n f input then by, stepped_each t m journal at p n f input then by);
    calls = λ t m journal at p n xid f c there is less h. called_writers t m journal at p n xid f c there is;
    serves = λ t m journal at p place from n xid uid gid call s sent there h.
        let known = all_at (IsKnownPacket t m.next_uid journal) m.packets place (Call from n xid uid gid call) p.packets sent in
        let server = at.holds.servers n s there in (
          served_writers t m journal at p place from n xid (caller_by uid gid) call s,
          call_each t m.next_uid journal p.wrote p.nobody p.none s (caller_by uid gid) server.told call known (calls s (caller_by uid gid) call server.in_order).owners,
        );
    restarts = λ t m journal at p n pieces s new there is h. (restarted_writers t m journal at p n pieces new, (tt, tt));
    again = λ t m journal at p place x there. packed t m journal at p m.servers m.last_xid (m.packets ++ x ∷ []) m.next_name (all_append (IsKnownPacket t m.next_uid journal) m.packets (x ∷ []) p.packets (all_at (IsKnownPacket t m.next_uid journal) m.packets place x p.packets there, tt));
    uses = λ t m journal at p node n xid uid gid call may new bound.
        packed t m journal at p m.servers _ (m.packets ++ Call node n xid uid gid call ∷ []) m.next_name (all_append (IsKnownPacket t m.next_uid journal) m.packets (Call node n xid uid gid call ∷ []) p.packets (used_call t m journal at p uid call bound, tt));
    takes = λ t m journal at p file uid pos bytes bound. (noted_writers t m journal at p (entry.Sent file (a_uid uid) pos bytes) refl (held_uid t m journal at p uid _ bound), (tt, tt));
    strays = λ t m journal at p file uid pos bytes bound. (noted_writers t m journal at p (entry.Rogue file (a_uid uid) pos bytes) refl (held_uid t m journal at p uid _ bound), (tt, tt));
    tells = λ t m journal at p file uid pos bytes bound. (noted_writers t m journal at p (entry.Told file (a_uid uid) pos bytes) refl tt, (tt, tt));
    creates = λ t m journal at p servers may h. created_writers t m journal at p servers;
  }
