-- Each kind of move keeps what holds of all files and users, and its entries are noted so.
use Rattle.std.proofs.Common.{◌≡◌, ℕ, zero, suc, ◌-◌, ◌<◌, ◌≤◌, ◌⊎◌, Bool, true, false, ◌||◌, eqb, cond, List, [], ◌∷◌, ◌++◌, length, set, Option, Some, None, refl, sym, ap, subst, ◌∙◌, inl, inr, append-nil}
use Rattle.std.specs.Prelude.{slice_get}
use Rattle.std.specs.List.{AllByRecursion, list_any}
use Rattle.std.proofs.lemmas.Bool.{cond_both, ne_eqb, cases_eq}
use Rattle.std.proofs.lemmas.Option.{same_Some}
use Rattle.cluster_model.specs.declared.ids.FileId.{FileId}
use Rattle.cluster_model.specs.declared.ids.NodeId.{NodeId}
use Rattle.cluster_model.specs.declared.ids.MirrorId.{MirrorId}
use Rattle.cluster_model.specs.declared.phase.EndCause.{EndCause}
use Rattle.cluster_model.specs.declared.entry.Entry.{Entry}
use Rattle.cluster_model.specs.declared.entry.Entry.TheVariants as entry
use Rattle.cluster_model.specs.declared.layout_state.LayoutState.{LayoutState}
use Rattle.cluster_model.specs.Content.{Pending}
use Rattle.cluster_model.specs.Laws.{AreDisjoint}
use Rattle.cluster_model.specs.Journal.{Copy, is_mirror}
use Rattle.cluster_model.specs.Server.{ServerState, Caller}
use Rattle.cluster_model.specs.Mirrors.{are_on_different_servers}
use Rattle.cluster_model.specs.DsCalls.{DsCallValue, Create, SetAttr, Write, Commit, Read, ds_plan, ds_step}
use Rattle.cluster_model.specs.GuardLaws.{IsInOrder, WasAsked, MayCome, Follows, CallLaws}
use Rattle.cluster_model.specs.Phases.{is_clean}
use Rattle.file_rule.specs.MdsFiles.{MdsFile, FileStep, a_uid}
use Rattle.file_rule.specs.FilePhases.{FileInput, CallOut, new_mds_file, phase}
use Rattle.cluster_laws.specs.Machine.{Call, Machine, Holding, Move, new_machine, numbered_at, served, file_id, fresh_of, caller_by, machine_after, journal_of}
use Rattle.cluster_laws.specs.FenceLaw.{new_servers}
use Rattle.cluster_laws.specs.Periods.{was_granted}
use Rattle.cluster_laws.specs.Agreement.{sent_in, sent_of}
use Rattle.cluster_laws.specs.Holders.{IsCovered, IsIn, the_write, HeldUnder, MayTake, HasNotEndedClean, MayTell, MayEndClean}
use Rattle.sound_journals.specs.Marks.{UserMarks, marks_of}
use Rattle.sound_journals.specs.Views.{FileView, view_after, view_of}
use Rattle.sound_journals.specs.Sound.{IsFineLive, IsToldSoundly, AfterEnd, AtAll}
use Rattle.cluster_laws.proofs.Lists.{all_append, all_more, all_at, put_same, put_other, same_numbered}
use Rattle.cluster_laws.proofs.Invariant.{IsCallOf, IsPacket, net_of}
use Rattle.cluster_laws.proofs.KnownNow.{known_now}
use Rattle.cluster_laws.proofs.RunFacts.{owner_told}
use Rattle.cluster_laws.proofs.PeriodFacts.{AreInPlace}
use Rattle.machine_walk.proofs.Stories.{Story, IsMoment, AreEach}
use Rattle.machine_walk.proofs.MoveCases.{after_step, after_call, created_machine, IsStepBy}
use Rattle.sound_runs.proofs.ViewFolds.{view_push, users_of, sent_is, rogue_is, causes_are, marks_are, copy_is}
use Rattle.sound_runs.proofs.FileTurns.{FileTurn, IsCoveredAt}
use Rattle.sound_runs.proofs.FileSo.{IsReached, IsFileSo}
use Rattle.sound_runs.proofs.TurnKept.{TurnKept}
use Rattle.sound_runs.proofs.TurnsKeep.{turn_kept}
use Rattle.sound_runs.proofs.TurnSays.{turn_of, turn_says, turn_told}
use Rattle.sound_runs.proofs.PhaseTurns.{KnownUsers, phase_turn}
use Rattle.sound_runs.proofs.StaySo.{reached_stays, same_mirror, sent_stays, rogue_stays, stays_same}
use Rattle.sound_runs.proofs.OnceGranted.{once, not_both, users_push}
use Rattle.sound_runs.proofs.UserNotes.{IsHeldSo, flat_append, unnoted_on, unnoted_blank}
use Rattle.sound_runs.proofs.Serving.{AreServing, IsServing, serving_stays, serving_users, all_stay, all_plain, all_users, all_told, effect_serving}
use Rattle.sound_runs.proofs.SoFar.{IsNotedSo, each_noted, IsUnseen, IsSoFar, quiet_on, plain_on, turned_on}

-- ---- writes in lists

in_all : (P : Pending → Type 0) (ws : List Pending) → AllByRecursion P ws → (w : Pending) → IsIn w ws → P w
in_all P [] h w i = absurd i
in_all P (x ∷ ws) h w (inl e) = subst P e h.0
in_all P (x ∷ ws) h w (inr i) = in_all P ws h.1 w i

all_both : {A : Type 0} (P R Q : A → Type 0) (xs : List A) → ((x : A) → P x → R x → Q x) → AllByRecursion P xs → AllByRecursion R xs → AllByRecursion Q xs
all_both P R Q [] f h k = tt
all_both P R Q (x ∷ xs) f h k = (f x h.0 k.0, all_both P R Q xs f h.1 k.1)

among_all : (P : MirrorId → Type 0) (ids : List MirrorId) → AllByRecursion P ids → (m : MirrorId) → list_any (λ k. is_mirror k m) ids ≡ true → P m
among_all P [] h m e = absurd cc
among_all P (k ∷ ids) h m e = by_test (is_mirror k m) refl e (among_all P ids h.1 m)
  where
    by_test : (b : Bool) → is_mirror k m ≡ b → (b || list_any (λ x. is_mirror x m) ids) ≡ true → (list_any (λ x. is_mirror x m) ids ≡ true → P m) → P m
    by_test true is on rest = subst P (same_mirror k m is) h.0
    by_test false is on rest = rest on

-- ---- files that are numbered

pushed_get : {A : Type 0} (xs : List A) (g : A) (i : ℕ) (x : A) → slice_get (xs ++ g ∷ []) i ≡ Some x → (slice_get xs i ≡ Some x) ⊎ ((slice_get xs i ≡ None) × (g ≡ x))
pushed_get [] g zero x e = inr (refl, same_Some g x e)
pushed_get [] g (suc i) x e = absurd cc
pushed_get (y ∷ xs) g zero x e = inl e
pushed_get (y ∷ xs) g (suc i) x e = pushed_get xs g i x e

pushed_none : {A : Type 0} (xs : List A) (g : A) (i : ℕ) → slice_get (xs ++ g ∷ []) i ≡ None → slice_get xs i ≡ None
pushed_none [] g zero e = absurd cc
pushed_none [] g (suc i) e = refl
pushed_none (y ∷ xs) g zero e = absurd cc
pushed_none (y ∷ xs) g (suc i) e = pushed_none xs g i e

pushed_file : (fs : List MdsFile) (g : MdsFile) (k : ℕ) (x : MdsFile) → numbered_at (fs ++ g ∷ []) k ≡ Some x → (numbered_at fs k ≡ Some x) ⊎ ((numbered_at fs k ≡ None) × (g ≡ x))
pushed_file fs g k x = by_test (eqb k 0)
  where
    by_test : (b : Bool) → cond b None (slice_get (fs ++ g ∷ []) (k - 1)) ≡ Some x → (cond b None (slice_get fs (k - 1)) ≡ Some x) ⊎ ((cond b None (slice_get fs (k - 1)) ≡ None) × (g ≡ x))
    by_test true e = absurd cc
    by_test false e = pushed_get fs g (k - 1) x e

unpushed_file : (fs : List MdsFile) (g : MdsFile) (k : ℕ) → numbered_at (fs ++ g ∷ []) k ≡ None → numbered_at fs k ≡ None
unpushed_file fs g k = by_test (eqb k 0)
  where
    by_test : (b : Bool) → cond b None (slice_get (fs ++ g ∷ []) (k - 1)) ≡ None → cond b None (slice_get fs (k - 1)) ≡ None
    by_test true e = refl
    by_test false e = pushed_none fs g (k - 1) e

module _ (coverage : (boots : List ℕ) (moves : List Move) (uid : ℕ) (id : MirrorId) (w : Pending) → 0 < length w.bytes → IsCovered (machine_after (new_machine (new_servers 1 boots)) moves).packets uid id w → IsIn w (marks_of (journal_of (new_machine (new_servers 1 boots)) moves) uid id).covered)
    (calls : (s : ServerState) (caller : Caller) (call : DsCallValue) → IsInOrder s → CallLaws s caller call (ds_step s caller call).server (ds_step s caller call).reply (ds_step s caller call).entries) where
  module _ (t : Story) (m : Machine) (journal : List Entry) (at : IsMoment t m journal) (p : IsSoFar t m journal) where
    covers : (uid : ℕ) (id : MirrorId) (w : Pending) → 0 < length w.bytes → IsCovered m.packets uid id w → IsIn w (marks_of journal uid id).covered
    covers uid id w some c =
        subst (λ (j : List Entry). IsIn w (marks_of j uid id).covered) at.came.says (coverage at.came.boots at.came.moves uid id w some (subst (λ (x : Machine). IsCovered x.packets uid id w) (sym at.came.machine) c))

    covers_all : (f : FileId) (uid : ℕ) (ids : List MirrorId) → MayEndClean m.packets journal uid ids → IsCoveredAt (view_of journal f) uid ids
    covers_all f uid ids may = record {
      rogue = rogue_is f uid journal ∙ may.follows;
      covered = all_more (λ id. AllByRecursion (IsCovered m.packets uid id) (sent_of uid journal)) (λ id. AllByRecursion (λ w. IsIn w ((view_of journal f).marks uid id).covered) ((view_of journal f).sent uid)) ids
          (λ id all. subst (λ (l : List Pending). AllByRecursion (λ w. IsIn w ((view_of journal f).marks uid id).covered) l) (sym (sent_is f uid journal))
          (all_both (λ w. 0 < length w.bytes) (IsCovered m.packets uid id) (λ w. IsIn w ((view_of journal f).marks uid id).covered) (sent_of uid journal)
          (λ w some c. subst (λ (k : UserMarks). IsIn w k.covered) (sym (marks_are f uid id journal)) (covers uid id w some c)) (p.some uid) all)) may.covered;
    }

    -- ---- a step of a file

    pub steps : (n : ℕ) (f : MdsFile) (input : FileInput) (then : Story) → IsStepBy t m journal n f input then
        → IsSoFar then (after_step m n (phase (file_id n) f input (fresh_of m))) (journal ++ (phase (file_id n) f input (fresh_of m)).entries) × AreEach IsNotedSo journal (phase (file_id n) f input (fresh_of m)).entries
    steps n f input then k =
        let s : FileStep = phase (file_id n) f input (fresh_of m) in
        let v : FileView = view_of journal (file_id n) in
        let users : KnownUsers n m.packets journal = record { blank = λ uid none. unnoted_blank (file_id n) journal uid (p.users uid none); covers = λ uid ids may. covers_all (file_id n) uid ids may } in
        let apart : are_on_different_servers s.file.layout.live ≡ true = (k.holds.files n s.file (put_same m.files n f s.file k.there)).apart in
        let turn : FileTurn n m.next_uid v f.layout s.file.layout s.entries =
        phase_turn n (fresh_of m) (net_of m t.drawn) (length m.files) journal (known_now m journal t.drawn at.holds) (owner_told m journal t.drawn at.holds) users f (at.holds.files n f k.there) input k.brought k.bound k.right k.place apart in
        let kept : TurnKept n v (users_of journal (file_id n)) s.file.layout s.entries = turn_kept n m.next_uid v (users_of journal (file_id n)) f.layout s.file.layout s.entries turn (p.files n f k.there) in
        let of = turn_of n m.next_uid v f.layout s.file.layout s.entries turn in (
          turned_on t then m journal (once journal at.periods.place) p n m.next_uid f s.file k.there s.entries kept of (turn_says n m.next_uid v f.layout s.file.layout s.entries turn)
              (λ g. turn_told n m.next_uid g (view_of journal g) v f.layout s.file.layout s.entries turn) (λ holder writes is. (subst (AreInPlace journal) is k.place).0.new) (after_step m n s) refl refl,
          each_noted n f.layout.cred.0 journal s.entries of kept.entries_so,
        )

    -- ---- nothing of files, users or the journal changes

    pub same_files : (then : Story) (next : Machine) → next.files ≡ m.files → next.holdings ≡ m.holdings → IsSoFar then next journal
    same_files then next files_are holdings_are = record {
      files = λ n f is. p.files n f (ap (λ fs. numbered_at fs n) (sym files_are) ∙ is);
      past = λ n is. p.past n (ap (λ fs. numbered_at fs n) (sym files_are) ∙ is);
      users = p.users;
      some = p.some;
      held = subst (AllByRecursion (IsHeldSo journal)) (sym holdings_are) p.held;
      told = p.told;
    }

    none_some : {A : Type 0} {x : A} → Some x ≡ None → ⊥
    none_some e = cc

    pub calls_out : (n xid : ℕ) (f : MdsFile) (c : CallOut) → numbered_at m.files n ≡ Some f → c.file.layout ≡ f.layout → IsSoFar t (after_call m n xid c) journal
    calls_out n xid f c there same = record {
      files = λ k x is.
          elim (cases_eq k n) [
            | inl it ↦
                let x_is : c.file ≡ x = same_numbered (set m.files (n - 1) c.file) n c.file x (put_same m.files n f c.file there) (sym (ap (numbered_at (set m.files (n - 1) c.file)) it) ∙ is) in
                rw (← x_is, it) (subst (λ (l : LayoutState). IsFileSo (view_of journal (file_id n)) (users_of journal (file_id n)) l) (sym same) (p.files n f there))
            | inr other ↦ p.files k x (sym (put_other m.files n k f c.file there other) ∙ is)
          ];
      past = λ k is.
          elim (cases_eq k n) [
            | inl it ↦ absurd (none_some (sym (ap (numbered_at (set m.files (n - 1) c.file)) it ∙ put_same m.files n f c.file there) ∙ is))
            | inr other ↦ p.past k (sym (put_other m.files n k f c.file there other) ∙ is)
          ];
      users = p.users;
      some = p.some;
      held = p.held;
      told = p.told;
    }

    pub creates : (then : Story) (servers : List ℕ) → IsSoFar then (created_machine m servers) journal
    creates then servers = record { files = files_now; past = λ k is. p.past k (unpushed_file m.files (new_mds_file (fresh_of m) servers) k is); users = p.users; some = p.some; held = p.held; told = p.told }
      where
        new_so : (k : ℕ) → IsUnseen journal k → IsFileSo (view_of journal (file_id k)) (users_of journal (file_id k)) (new_mds_file (fresh_of m) servers).layout
        new_so k u = record {
          live = u.live;
          fine = subst IsFineLive (sym u.live) tt;
          phase = u.base;
          least = subst (λ (us : List ℕ). AllByRecursion (λ x. x ≤ m.next_uid) us) (sym u.users) tt;
          reach = subst (IsReached (view_of journal (file_id k))) (sym u.users) tt;
          made = λ e. u.users;
        }

        files_now : (k : ℕ) (x : MdsFile) → numbered_at (m.files ++ new_mds_file (fresh_of m) servers ∷ []) k ≡ Some x → IsFileSo (view_of journal (file_id k)) (users_of journal (file_id k)) x.layout
        files_now k x is =
            elim (pushed_file m.files (new_mds_file (fresh_of m) servers) k x is) [
              | inl old ↦ p.files k x old
              | inr new ↦ subst (λ (y : MdsFile). IsFileSo (view_of journal (file_id k)) (users_of journal (file_id k)) y.layout) new.1 (new_so k (p.past k new.0))
            ]

    -- ---- data servers

    finds_now : (f : FileId) → IsReached (view_of journal f) (users_of journal f)
    finds_now f = by_file (numbered_at m.files f.0) refl
      where
        by_file : (o : Option MdsFile) → numbered_at m.files f.0 ≡ o → IsReached (view_of journal f) (users_of journal f)
        by_file None is = subst (IsReached (view_of journal f)) (sym (p.past f.0 is).users) tt
        by_file (Some g) is = (p.files f.0 g is).reach

  serving_noted : (before : List Entry) (e : Entry) → IsServing before e → ((f : FileId) → IsReached (view_of before f) (users_of before f)) → IsNotedSo before e
  serving_noted before (entry.Applied mirror cred at bytes) h finds = record { so = tt; finds = finds }
  serving_noted before (entry.Committed mirror) h finds = record { so = tt; finds = tt }
  serving_noted before (entry.Owner mirror cred) h finds = record { so = subst (λ (c : Copy). c.owner ≤ cred.0) (sym (copy_is (file_id 0) mirror before)) h; finds = tt }
  serving_noted before (entry.Restarted server pieces) h finds = record { so = tt; finds = tt }
  serving_noted before _ h finds = absurd h

  each_served : (before es : List Entry) → AreServing before es → ((f : FileId) → IsReached (view_of before f) (users_of before f)) → AreEach IsNotedSo before es
  each_served before [] h finds = tt
  each_served before (e ∷ es) h finds = (
    serving_noted before e h.0 finds,
    each_served (before ++ e ∷ []) es h.1 (λ f. subst (λ (v : FileView). IsReached v (users_of (before ++ e ∷ []) f)) (sym (view_push f before e))
        (subst (IsReached (view_after f (view_of before f) e)) (sym (users_push before e f ∙ serving_users f (users_of before f) before e h.0))
        (reached_stays (view_of before f) (view_after f (view_of before f) e) (serving_stays f before e h.0) (users_of before f) (finds f)))),
  )

  module _ (t : Story) (m : Machine) (journal : List Entry) (at : IsMoment t m journal) (p : IsSoFar t m journal) where
    pub served_so : (next : Machine) → next.files ≡ m.files → next.holdings ≡ m.holdings → (es : List Entry) → AreServing journal es → IsSoFar t next (journal ++ es) × AreEach IsNotedSo journal es
    served_so next files_are holdings_are es h = (
      plain_on t t m journal p next files_are holdings_are es (λ f. all_stay f journal es h) (λ f. all_users f (users_of journal f) journal es h) (λ c. all_plain journal es c h) (λ f. all_told f (view_of journal f) journal es h),
      each_served journal es h (finds_now t m journal at p),
    )

    pub call_is : (place : ℕ) (from : NodeId) (n xid uid gid : ℕ) (call : DsCallValue) → slice_get m.packets place ≡ Some (Call from n xid uid gid call) → IsCallOf t.drawn m.servers m.next_name n call
    call_is place from n xid uid gid call sent = (all_at (IsPacket (net_of m t.drawn)) m.packets place (Call from n xid uid gid call) at.holds.packets sent).1

    may_come : (n : ℕ) (s : ServerState) → numbered_at m.servers n ≡ Some s → (c : DsCallValue) → IsCallOf t.drawn m.servers m.next_name n c → MayCome s c
    may_come n s there (Create name owner) k = tt
    may_come n s there (SetAttr fileid owner guard) k = subst (λ (x : ServerState). WasAsked x fileid owner guard) (same_numbered m.servers n k.asked.server s k.asked.there there) k.asked.asked
    may_come n s there (Write fileid at synced bytes) k = tt
    may_come n s there (Commit fileid) k = tt
    may_come n s there (Read fileid at count) k = tt

    module _ (place : ℕ) (from : NodeId) (n xid uid gid : ℕ) (call : DsCallValue) (s : ServerState) (sent : slice_get m.packets place ≡ Some (Call from n xid uid gid call)) (there : numbered_at m.servers n ≡ Some s) where
      pub call_laws : CallLaws s (caller_by uid gid) call (ds_step s (caller_by uid gid) call).server (ds_step s (caller_by uid gid) call).reply (ds_step s (caller_by uid gid) call).entries
      call_laws = calls s (caller_by uid gid) call (at.holds.servers n s there).in_order

      pub call_follows : Follows s (ds_step s (caller_by uid gid) call).server
      call_follows = call_laws.follows (may_come n s there call (call_is place from n xid uid gid call sent))

      pub call_serving : AreServing journal (ds_step s (caller_by uid gid) call).entries
      call_serving = effect_serving s (ds_step s (caller_by uid gid) call).server journal call_follows (at.holds.servers n s there).told uid (ds_plan s (caller_by uid gid) call).effect (call_laws.told journal (at.holds.servers n s there).told)

      pub serves : IsSoFar t (served m place from n xid (ds_step s (caller_by uid gid) call)).machine (journal ++ (ds_step s (caller_by uid gid) call).entries) × AreEach IsNotedSo journal (ds_step s (caller_by uid gid) call).entries
      serves = served_so (served m place from n xid (ds_step s (caller_by uid gid) call)).machine refl refl (ds_step s (caller_by uid gid) call).entries call_serving

    -- ---- notes

    held_at : (uid : ℕ) (P : Holding → Type 0) → HeldUnder m uid P → was_granted journal uid ≡ true
    held_at uid P h = subst (λ (u : ℕ). was_granted journal u ≡ true) h.its_uid (all_at (IsHeldSo journal) m.holdings h.place h.held p.held h.there).granted

    other_uid : (uid u : ℕ) → was_granted journal uid ≡ true → was_granted journal u ≡ false → eqb uid u ≡ false
    other_uid uid u granted none = ne_eqb uid u (λ same. not_both (was_granted journal u) (ap (was_granted journal) (sym same) ∙ granted) none)

    pub takes : (file : FileId) (uid pos : ℕ) (bytes : List ℕ) → HeldUnder m uid (λ h. MayTake journal uid pos bytes) → IsSoFar t m (journal ++ entry.Sent file (a_uid uid) pos bytes ∷ []) × AreEach IsNotedSo journal (entry.Sent file (a_uid uid) pos bytes ∷ [])
    takes file uid pos bytes h =
        let e : Entry = entry.Sent file (a_uid uid) pos bytes in
        let granted = held_at uid (λ x. MayTake journal uid pos bytes) h in (
          quiet_on t t m journal p m refl refl (e ∷ []) (λ f. sent_stays f file (view_of journal f) (a_uid uid) pos bytes) (λ f. refl)
              (λ u none. unnoted_on journal (e ∷ []) u (record { sent = ap (λ b. cond b (the_write pos bytes ∷ []) []) (other_uid uid u granted none); strayed = refl; causes = refl; grants = refl }, tt) (p.users u none))
              (λ u. (refl, tt)) (λ u. some_more u) (λ f. (tt, tt)),
          (
            record {
              so = record {
                not_clean = subst (λ (l : List EndCause). AllByRecursion (λ c. is_clean c ≡ false) l) (sym (causes_are file uid journal)) h.so.not_clean;
                none_strayed = rogue_is file uid journal ∙ h.so.follows;
                apart = λ w i. in_all (λ x. AreDisjoint x.at x.bytes pos bytes) (sent_of uid journal) h.so.apart w (subst (IsIn w) (sent_is file uid journal) i);
              };
              finds = tt;
            },
            tt,
          ),
        )
      where
        some_more : (u : ℕ) → AllByRecursion (λ w. 0 < length w.bytes) (sent_of u (journal ++ entry.Sent file (a_uid uid) pos bytes ∷ []))
        some_more u =
            subst (λ (l : List Pending). AllByRecursion (λ w. 0 < length w.bytes) l) (sym (flat_append (sent_in u) journal (entry.Sent file (a_uid uid) pos bytes ∷ [])))
            (all_append (λ w. 0 < length w.bytes) (sent_of u journal) (sent_of u (entry.Sent file (a_uid uid) pos bytes ∷ [])) (p.some u)
            (cond_both (eqb uid u) (the_write pos bytes ∷ []) [] (λ (l : List Pending). AllByRecursion (λ w. 0 < length w.bytes) (l ++ [])) (λ e. (h.so.some, tt)) (λ e. tt)))

    pub strays : (file : FileId) (uid pos : ℕ) (bytes : List ℕ) → HeldUnder m uid (λ h. HasNotEndedClean journal uid) → IsSoFar t m (journal ++ entry.Rogue file (a_uid uid) pos bytes ∷ []) × AreEach IsNotedSo journal (entry.Rogue file (a_uid uid) pos bytes ∷ [])
    strays file uid pos bytes h =
        let e : Entry = entry.Rogue file (a_uid uid) pos bytes in
        let granted = held_at uid (λ x. HasNotEndedClean journal uid) h in (
          quiet_on t t m journal p m refl refl (e ∷ []) (λ f. rogue_stays f file (view_of journal f) (a_uid uid) pos bytes) (λ f. refl)
              (λ u none. unnoted_on journal (e ∷ []) u (record { sent = refl; strayed = ap (λ b. cond b (the_write pos bytes ∷ []) []) (other_uid uid u granted none); causes = refl; grants = refl }, tt) (p.users u none))
              (λ u. (refl, tt)) (λ u. subst (λ (l : List Pending). AllByRecursion (λ w. 0 < length w.bytes) l) (sym (flat_append (sent_in u) journal (e ∷ []) ∙ append-nil (sent_of u journal))) (p.some u)) (λ f. (tt, tt)),
          (record { so = subst (λ (l : List EndCause). AllByRecursion (λ c. is_clean c ≡ false) l) (sym (causes_are file uid journal)) h.so; finds = tt }, tt),
        )

    pub tells : (file : FileId) (uid pos : ℕ) (bytes : List ℕ) → HeldUnder m uid (λ h. MayTell m.packets journal h pos bytes) → IsSoFar t m (journal ++ entry.Told file (a_uid uid) pos bytes ∷ []) × AreEach IsNotedSo journal (entry.Told file (a_uid uid) pos bytes ∷ [])
    tells file uid pos bytes h = (
      plain_on t t m journal p m refl refl (entry.Told file (a_uid uid) pos bytes ∷ []) (λ f. stays_same (view_of journal f)) (λ f. refl) (λ c. (record { sent = λ u. refl; strayed = λ u. refl; grants = λ u. refl; held = λ x. refl; causes = λ u other. refl }, tt))
          (λ f. (subst (λ (u : ℕ). IsToldSoundly (view_of journal f) u pos bytes []) h.its_uid (told f h.so), tt)),
      (record { so = tt; finds = tt }, tt),
    )
      where
        told : (f : FileId) → MayTell m.packets journal h.held pos bytes → IsToldSoundly (view_of journal f) h.held.uid pos bytes []
        told f (inl e) = AfterEnd (record { cause = e.cause; more = e.more; causes = causes_are f h.held.uid journal ∙ e.causes; clean = e.clean })
        told f (inr c) = AtAll (record {
          some = c.some;
          sent = subst (IsIn (the_write pos bytes)) (sym (sent_is f h.held.uid journal)) c.sent;
          covered = λ k is.
              let among = (all_at (IsHeldSo journal) m.holdings h.place h.held p.held h.there).mirrors f k is in
              subst (λ (x : UserMarks). IsIn (the_write pos bytes) x.covered) (sym (marks_are f h.held.uid k journal))
              (covers t m journal at p h.held.uid k (the_write pos bytes) c.some (among_all (λ id. IsCovered m.packets h.held.uid id (the_write pos bytes)) h.held.mirrors c.covered k among));
        })
