-- Behind a bound run each file is free for the first time with empty mirrors.
use Rattle.std.proofs.Common.{◌≡◌, ℕ, ◌+◌, ◌<◌, ◌≤◌, ◌⊎◌, Bool, true, false, List, [], ◌∷◌, ◌++◌, length, Option, Some, None, is_some, refl, sym, ap, subst, ◌∙◌, inl, inr, arith, append-nil, eq-eqb, cond}
use Rattle.std.specs.List.{AllByRecursion}
use Rattle.std.proofs.lemmas.Bool.{cases_lt}
use Rattle.cluster_model.specs.declared.ids.MirrorId.{MirrorId}
use Rattle.cluster_model.specs.declared.piece.Piece.{Piece}
use Rattle.cluster_model.specs.declared.entry.Entry.{Entry}
use Rattle.cluster_model.specs.declared.entry.Entry.TheVariants as entry
use Rattle.cluster_model.specs.declared.layout_state.LayoutPhase.{LayoutPhase}
use Rattle.cluster_model.specs.declared.layout_state.LayoutState.{LayoutState}
use Rattle.cluster_model.specs.Content.{Pending}
use Rattle.cluster_model.specs.Phases.{ids_of}
use Rattle.cluster_model.specs.Server.{ServerState, Caller, restart_of}
use Rattle.cluster_model.specs.DsCalls.{DsCallValue, ds_plan, ds_step}
use Rattle.cluster_model.specs.GuardLaws.{IsInOrder, IsOfServer, CallLaws, RestartLaws}
use Rattle.file_rule.specs.MdsFiles.{Activity, Idle, Makes, Fences, Settles, Copies, MdsFile, FileStep, a_uid}
use Rattle.file_rule.specs.FilePhases.{FileInput, phase}
use Rattle.cluster_laws.specs.Machine.{Machine, Move, new_machine, numbered_at, file_id, fresh_of, caller_by, machine_after, journal_of}
use Rattle.cluster_laws.specs.FenceLaw.{live_in, new_servers}
use Rattle.cluster_laws.specs.Holders.{IsCovered, IsIn}
use Rattle.sound_journals.specs.Marks.{marks_of}
use Rattle.cluster_laws.proofs.Lists.{all_more, put_same}
use Rattle.cluster_laws.proofs.Invariant.{Net, IsFile, IsBusyWith, live_of, net_of}
use Rattle.machine_walk.proofs.Stories.{Story, begun_copy, drawn_story, onward_drawn, IsOnward, IsMoment, AreEach}
use Rattle.machine_walk.proofs.MoveCases.{Drew, DrewNone, DrewOne, after_step, created_machine, IsStepBy, Cases}
use Rattle.machine_walk.proofs.Placed.{each_anywhere}
use Rattle.sound_runs.proofs.FileTurns.{is_making}
use Rattle.machine_walk.proofs.StepKinds.{StepKind}
use Rattle.machine_walk.proofs.StepsByKind.{phase_kind}
use Rattle.machine_walk.proofs.Writers.{is_applied, IsCopier, IsNewUid, grant_or}
use Rattle.machine_walk.proofs.WriterSteps.{drew_on, drew_new}
use Rattle.machine_walk.proofs.WriterCases.{writer_cases}
use Rattle.sound_runs.proofs.SoundSteps.{call_laws, call_follows}
use Rattle.sound_runs.proofs.AllCases.{IsAllNoted, AllSo, AllNoted, all_cases, step_quiet}
use Rattle.sound_runs.proofs.FirstFrees.{FreesEmpty, some_on, listed_of, first_or, later_frees, server_frees}
use Rattle.sound_runs.proofs.BlankFiles.{AreBlank, KnowsBlank, blank_on, call_blank, servers_blank, mirrors_blank, moved_blank, noted_blank}

pub record AllAndBlank (t : Story) (m : Machine) (journal : List Entry) : Type 0 where
  pub all : AllSo t m journal
  pub blank : KnowsBlank t m journal

abbrev pub NotedAndEmpty : Story → ℕ → List Entry → Entry → Type 0
NotedAndEmpty t uid before e = IsAllNoted before e × FreesEmpty before e

both_empty : (t : Story) (uid : ℕ) (before es : List Entry) → AreEach (AllNoted t uid) before es → AreEach FreesEmpty before es → AreEach (NotedAndEmpty t uid) before es
both_empty t uid before [] a b = tt
both_empty t uid before (e ∷ es) a b = ((a.0, b.0), both_empty t uid (before ++ e ∷ []) es a.1 b.1)

-- ---- a copy begins of a file that was free

begun_listed : (journal now : List Entry) (net : Net) (n : ℕ) (s : LayoutState) (a : Activity) (bytes : List ℕ) → begun_copy journal n a ≡ Some bytes → IsBusyWith net now n s a → is_some (live_of s.phase (ids_of s.live)) ≡ true
begun_listed journal now net n s Idle bytes e h = absurd cc
begun_listed journal now net n s (Makes all) bytes e h = absurd cc
begun_listed journal now net n s (Fences fence) bytes e h = absurd cc
begun_listed journal now net n s (Settles stage) bytes e h = absurd cc
begun_listed journal now net n s (Copies c) bytes e h = ap (λ (q : LayoutPhase). is_some (live_of q (ids_of s.live))) h.phase

-- ---- a step of a file

drew_uids : (t : Story) (m : Machine) (journal : List Entry) (n : ℕ) (x : FileStep) (then : Story) → Drew t m journal n x then → (x.uids ≡ 0) ⊎ (x.uids ≡ 1)
drew_uids t m journal n x then (DrewNone uids names) = inl uids
drew_uids t m journal n x then (DrewOne uids) = inr uids

module _ (t : Story) (m : Machine) (journal : List Entry) (at : IsMoment t m journal) (p : AllAndBlank t m journal) (n : ℕ) (f : MdsFile) (input : FileInput) (then : Story) (by : IsStepBy t m journal n f input then) where
  abbrev x : FileStep
  x = phase (file_id n) f input (fresh_of m)

  abbrev next : Machine
  next = after_step m n x

  abbrev all : List Entry
  all = journal ++ x.entries

  on : IsOnward t m.next_uid m.next_name then
  on = drew_on t m journal n x then by.drew

  kind : StepKind n (fresh_of m) input f.layout f.activity x
  kind = phase_kind n (fresh_of m) (net_of m t.drawn) journal f (at.holds.files n f by.there) input

  quiet : AllByRecursion (λ e. is_applied e ≡ false) x.entries
  quiet = step_quiet t m.next_uid n f.layout x.entries (grant_or n (fresh_of m) input t m.next_uid kind (p.all.writers.files n f by.there))

  its_file : IsFile (net_of next then.drawn) all n x.file
  its_file = by.holds.files n x.file (put_same m.files n f x.file by.there)

  new_copy : (bytes : List ℕ) → then.copied m.next_uid ≡ Some bytes → IsNewUid journal n m.next_uid then (m.next_uid + x.uids) x.file.activity → is_some (live_in all (file_id (then.whose m.next_uid))) ≡ true
  new_copy bytes e new =
      let listed = begun_listed journal all (net_of next then.drawn) n x.file.layout x.file.activity bytes (sym new.copied ∙ e) its_file.busy in
      subst (λ (k : ℕ). is_some (live_in all (file_id k)) ≡ true) (sym new.mine.mine) (ap (λ (o : Option (List MirrorId)). is_some o) its_file.live ∙ listed)

  copies : (u : ℕ) → IsCopier then (m.next_uid + x.uids) u → is_some (live_in all (file_id (then.whose u))) ≡ true
  copies u c =
      elim (cases_lt u m.next_uid) [
        | inl less ↦
            let old = p.blank.copies u (record { drawn = less; bytes = c.bytes; copy = sym (on.copied u less) ∙ c.copy }) in
            subst (λ (k : ℕ). is_some (live_in all (file_id k)) ≡ true) (sym (on.whose u less)) (some_on (file_id (t.whose u)) journal x.entries old)
        | inr le ↦ by_drew le by.drew
      ]
    where
      last : m.next_uid ≤ u → x.uids ≡ 1 → u ≡ m.next_uid
      last le one = let less = c.drawn in omega (arith, less, le, one)

      by_drew : m.next_uid ≤ u → Drew t m journal n x then → is_some (live_in all (file_id (then.whose u))) ≡ true
      by_drew le drew = by_uids (drew_uids t m journal n x then drew)
        where
          by_uids : (x.uids ≡ 0) ⊎ (x.uids ≡ 1) → is_some (live_in all (file_id (then.whose u))) ≡ true
          by_uids (inl none) = let less = c.drawn in absurd (omega (arith, less, le, none))
          by_uids (inr one) =
              let same : u ≡ m.next_uid = last le one in
              subst (λ (k : ℕ). is_some (live_in all (file_id (then.whose k))) ≡ true) (sym same) (new_copy c.bytes (ap then.copied (sym same) ∙ c.copy) (drew_new t m journal n x then drew one))

  pub step_blank : KnowsBlank then next all
  step_blank = record { copies = copies; servers = servers_blank t m journal at p.all p.blank then (m.next_name + x.names) by.holds.few_names on x.entries quiet }

  pub step_frees : AreEach FreesEmpty journal x.entries
  step_frees =
      elim (first_or n (fresh_of m) input kind) [
        | inl is ↦ subst (AreEach FreesEmpty journal) (sym is) (mirrors_blank t m journal at p.all p.blank then (m.next_name + x.names) by.holds.few_names on next refl refl all n x.file.layout.live its_file.mirrors, tt)
        | inr own ↦ later_frees n (is_making f.layout.phase) journal x.entries own (λ w. ap (λ (o : Option (List MirrorId)). is_some o) (at.holds.files n f by.there).live ∙ listed_of f.layout.phase (ids_of f.layout.live) w)
      ]

-- ---- a new file

module _ (t : Story) (m : Machine) (journal : List Entry) (at : IsMoment t m journal) (p : AllAndBlank t m journal) (servers : List ℕ) where
  abbrev created : Story
  created = drawn_story t m.next_name (length m.files + 1) m.next_uid None

  created_on : IsOnward t m.next_uid m.next_name created
  created_on = onward_drawn t m.next_uid m.next_name (length m.files + 1) None

  no_copy : (u : ℕ) (bytes : List ℕ) → u ≡ m.next_uid → created.copied u ≡ Some bytes → ⊥
  no_copy u bytes e k = wrong (sym (ap created.copied e ∙ ap (λ (b : Bool). cond b None (t.copied m.next_uid)) (eq-eqb m.next_uid m.next_uid refl)) ∙ k)
    where
      wrong : None ≡ Some bytes → ⊥
      wrong w = cc

  pub create_blank : m.next_name + 1 ≤ 18446744073709551616 → KnowsBlank created (created_machine m servers) journal
  create_blank few = record {
    copies = λ u c. elim (cases_lt u m.next_uid) [
      | inl less ↦
          let old = p.blank.copies u (record { drawn = less; bytes = c.bytes; copy = sym (created_on.copied u less) ∙ c.copy }) in
          subst (λ (k : ℕ). is_some (live_in journal (file_id k)) ≡ true) (sym (created_on.whose u less)) old
      | inr le ↦ let less = c.drawn in absurd (no_copy u c.bytes (omega (arith, le, less)) c.copy)
    ];
    servers = subst (λ (j : List Entry). (k : ℕ) (s : ServerState) → numbered_at m.servers k ≡ Some s → AreBlank created j (m.next_name + 1) s) (append-nil journal) (servers_blank t m journal at p.all p.blank created (m.next_name + 1) few created_on [] tt);
  }

-- ---- all moves

module _ (coverage : (boots : List ℕ) (moves : List Move) (uid : ℕ) (id : MirrorId) (w : Pending) → 0 < length w.bytes → IsCovered (machine_after (new_machine (new_servers 1 boots)) moves).packets uid id w → IsIn w (marks_of (journal_of (new_machine (new_servers 1 boots)) moves) uid id).covered)
    (calls : (s : ServerState) (caller : Caller) (call : DsCallValue) → IsInOrder s → CallLaws s caller call (ds_step s caller call).server (ds_step s caller call).reply (ds_step s caller call).entries)
    (restarts : (s : ServerState) (pieces : List Piece) (new : ServerState) → restart_of s pieces ≡ Some new → IsInOrder s → RestartLaws s pieces new) where
  every : Cases AllSo AllNoted
  every = all_cases coverage calls restarts

  -- a note of a holder
  noted_both : (t : Story) (m : Machine) (journal : List Entry) → IsMoment t m journal → AllAndBlank t m journal → (e : Entry) → is_applied e ≡ false → FreesEmpty journal e → AllSo t m (journal ++ e ∷ []) × AreEach (AllNoted t m.next_uid) journal (e ∷ [])
      → AllAndBlank t m (journal ++ e ∷ []) × AreEach (NotedAndEmpty t m.next_uid) journal (e ∷ [])
  noted_both t m journal at p e quiet frees one = (record { all = one.0; blank = noted_blank t m journal at p.all p.blank (e ∷ []) (quiet, tt) }, both_empty t m.next_uid journal (e ∷ []) one.1 (frees, tt))

  pub blank_cases : Cases AllAndBlank NotedAndEmpty
  blank_cases = record {
    later = λ t uid name then more before e on up q. q;
    steps = λ t m journal at p n f input then by.
        let one = every.steps t m journal at p.all n f input then by in
        let x : FileStep = phase (file_id n) f input (fresh_of m) in (
          record { all = one.0; blank = step_blank t m journal at p n f input then by },
          both_empty then (m.next_uid + x.uids) journal x.entries one.1 (step_frees t m journal at p n f input then by),
        );
    calls = λ t m journal at p n xid f c there out less holds. record { all = every.calls t m journal at p.all n xid f c there out less holds; blank = record { copies = p.blank.copies; servers = p.blank.servers } };
    serves = λ t m journal at p place from n xid uid gid call s sent there holds.
        let one = every.serves t m journal at p.all place from n xid uid gid call s sent there holds in
        let follows = call_follows coverage calls t m journal at p.all.so place from n xid uid gid call s sent there in
        let laws = call_laws coverage calls t m journal at p.all.so place from n xid uid gid call s sent there in
        let each = ((writer_cases calls).serves t m journal at p.all.writers place from n xid uid gid call s sent there holds).1 in
        let es : List Entry = (ds_step s (caller_by uid gid) call).entries in (
          record {
            all = one.0;
            blank = moved_blank t m journal at p.all p.blank es (λ id k none b. call_blank t m journal at p.all p.blank id k none b s uid (ds_plan s (caller_by uid gid) call).effect each) n s (ds_step s (caller_by uid gid) call).server _ there follows;
          },
          both_empty t m.next_uid journal es one.1 (each_anywhere FreesEmpty journal es (all_more (IsOfServer s.number) (λ e. (b : List Entry) → FreesEmpty b e) es (server_frees s.number) laws.of_server)),
        );
    restarts = λ t m journal at p n pieces s new there is holds.
        let one = every.restarts t m journal at p.all n pieces s new there is holds in
        let laws = restarts s pieces new is (at.holds.servers n s there).in_order in (
          record {
            all = one.0;
            blank = moved_blank t m journal at p.all p.blank (entry.Restarted n pieces ∷ []) (λ id k none b. blank_on id journal (entry.Restarted n pieces ∷ []) (refl, tt) b.blank) n s new m.packets there laws.follows;
          },
          both_empty t m.next_uid journal (entry.Restarted n pieces ∷ []) one.1 (tt, tt),
        );
    again = λ t m journal at p place x there. record { all = every.again t m journal at p.all place x there; blank = record { copies = p.blank.copies; servers = p.blank.servers } };
    uses = λ t m journal at p node n xid uid gid call may number bound. record { all = every.uses t m journal at p.all node n xid uid gid call may number bound; blank = record { copies = p.blank.copies; servers = p.blank.servers } };
    takes = λ t m journal at p file uid pos bytes h. noted_both t m journal at p (entry.Sent file (a_uid uid) pos bytes) refl tt (every.takes t m journal at p.all file uid pos bytes h);
    strays = λ t m journal at p file uid pos bytes h. noted_both t m journal at p (entry.Rogue file (a_uid uid) pos bytes) refl tt (every.strays t m journal at p.all file uid pos bytes h);
    tells = λ t m journal at p file uid pos bytes h. noted_both t m journal at p (entry.Told file (a_uid uid) pos bytes) refl tt (every.tells t m journal at p.all file uid pos bytes h);
    creates = λ t m journal at p servers may holds. record { all = every.creates t m journal at p.all servers may holds; blank = create_blank t m journal at p servers holds.few_names };
  }
