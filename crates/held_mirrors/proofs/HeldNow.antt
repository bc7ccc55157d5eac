-- Behind every bound run a file whose period was not entered as ended is held, with the mirrors with which it was granted; and so they belong to
-- its uid.
use Rattle.std.proofs.Common.{◌≡◌, ◌≢◌, ℕ, zero, suc, ◌+◌, ◌-◌, Bool, true, false, cond, List, [], ◌∷◌, ◌++◌, set, length, Option, Some, None, refl, sym, ap, subst, ◌∙◌, inl, inr, ◌⊎◌, arith}
use Rattle.std.specs.Prelude.{slice_get, map, ◌==◌}
use Rattle.std.specs.List.{AllByRecursion, flat_map}
use Rattle.std.proofs.lemmas.Bool.{cases_eq, eq-eqb}
use Rattle.std.proofs.lemmas.List.{append_assoc, append-nil}
use Rattle.std.proofs.lemmas.Option.{same_Some}
use Rattle.cluster_model.specs.declared.ids.NodeId.{NodeId}
use Rattle.cluster_model.specs.declared.ids.FileId.{FileId}
use Rattle.cluster_model.specs.declared.ids.Cred.{Cred}
use Rattle.cluster_model.specs.declared.ids.MirrorId.{MirrorId}
use Rattle.cluster_model.specs.declared.phase.EndCause.{EndCause}
use Rattle.cluster_model.specs.declared.piece.Piece.{Piece}
use Rattle.cluster_model.specs.declared.entry.Entry.{Entry}
use Rattle.cluster_model.specs.declared.entry.Entry.TheVariants as entry
use Rattle.cluster_model.specs.declared.layout_state.LayoutState.{LayoutState}
use Rattle.cluster_model.specs.declared.layout_state.LayoutPhase.{LayoutPhase}
use Rattle.cluster_model.specs.declared.layout_state.LayoutPhase.TheVariants.{Making, Free, Held, Fencing, Settling, Copying}
use Rattle.cluster_model.specs.Journal.{Copy, content_of}
use Rattle.cluster_model.specs.Phases.{ids_of}
use Rattle.cluster_model.specs.Server.{ServerState, Caller, mirror_of, new_server, restart_of}
use Rattle.cluster_model.specs.DsCalls.{DsCallValue, ds_plan, ds_step}
use Rattle.cluster_model.specs.GuardLaws.{IsInOrder, IsTold, CallLaws, RestartLaws}
use Rattle.file_rule.specs.MdsFiles.{Activity, Idle, Makes, Fences, Settles, Copies, MdsFile, FileStep, a_uid}
use Rattle.file_rule.specs.FilePhases.{FileInput, CallOut, call_out, new_mds_file, phase}
use Rattle.cluster_laws.specs.Machine.{Machine, Move, new_machine, numbered_at, file_id, fresh_of, caller_by, machine_after, journal_of}
use Rattle.cluster_laws.specs.FenceLaw.{live_in, new_servers}
use Rattle.cluster_laws.specs.Agreement.{cause_in, causes_of}
use Rattle.cluster_laws.proofs.Lists.{all_more, put_same, put_other, same_numbered}
use Rattle.cluster_laws.proofs.Invariant.{IsBusyWith, is_idle, net_of, live_of, Holds}
use Rattle.cluster_laws.proofs.KnownNow.{id_by}
use Rattle.cluster_laws.proofs.NewFiles.{pushed}
use Rattle.cluster_laws.proofs.PeriodFacts.{granted_in}
use Rattle.machine_walk.proofs.Stories.{Story, IsMoment, AreEach}
use Rattle.machine_walk.proofs.MoveCases.{after_step, after_call, created_machine, Cases}
use Rattle.machine_walk.proofs.MoveRuns.{RunDone, run_done}
use Rattle.sound_runs.proofs.CallLayouts.{layout_kept}
use Rattle.machine_walk.proofs.StepKinds.{StepKind, IsTakenWith}
use Rattle.machine_walk.proofs.StepsByKind.{phase_kind}
use Rattle.sound_runs.proofs.UserNotes.{flat_append}
use Rattle.machine_walk.proofs.Writers.{IsSilent, has_calls}
use Rattle.machine_walk.proofs.WriterRuns.{first_story, first_moment}
use Rattle.holder_parts.specs.HeldOwners.{BelongTo, DoHoldersOwn}
use Rattle.held_mirrors.specs.HeldMirrors.{EachHolderOwns}
use Rattle.held_mirrors.proofs.GrantSteps.{GrantsFile, grants_or, HeldStep, GoesOnHeld, EntersItsEnd, held_or_ended}
use Rattle.held_mirrors.proofs.Holdings.{StandsIn, InFirst, InSecond, stands_in, grantless, effect_grantless, taken_grantless, all_silent, each_nothing, NoMore}
use Rattle.held_mirrors.proofs.SettledSteps.{is_settled}
use Rattle.held_mirrors.proofs.Owning.{OwnsFile, IsOwned, AreOwned, KnowsOwned}
use Rattle.held_mirrors.proofs.OwningCases.{steps_owned, calls_owned, serves_owned, restarts_owned, again_owned, uses_owned}

-- ---- what is known

-- the file is held under this uid, with these mirrors
pub record IsHeldStill (files : List MdsFile) (f : FileId) (uid : ℕ) (live : List MirrorId) : Type 0 where
  pub file : MdsFile
  pub there : numbered_at files f.0 ≡ Some file
  pub node : NodeId
  pub is_recalled : Bool
  pub phase : file.layout.phase ≡ Held node is_recalled
  pub cred : file.layout.cred.0 ≡ uid
  pub ids : ids_of file.layout.live ≡ live

abbrev pub KnowsHeld : List MdsFile → List Entry → Type 0
KnowsHeld files journal =
    (before since : List Entry) (f : FileId) (uid : ℕ) (holder : NodeId) (live : List MirrorId) → journal ≡ before ++ entry.Granted f (record { 0 = uid }) holder ∷ since → live_in before f ≡ Some live → causes_of uid since ≡ []
    → IsHeldStill files f uid live

-- ---- causes

none_first : {A : Type 0} (a b : List A) → a ++ b ≡ [] → a ≡ []
none_first [] b is = refl
none_first (x ∷ a) b is = absurd cc

none_second : {A : Type 0} (a b : List A) → a ++ b ≡ [] → b ≡ []
none_second [] b is = is
none_second (x ∷ a) b is = absurd cc

fewer_causes : (uid : ℕ) (a b : List Entry) → causes_of uid (a ++ b) ≡ [] → causes_of uid a ≡ []
fewer_causes uid a b none = none_first (causes_of uid a) (causes_of uid b) (sym (flat_append (cause_in uid) a b) ∙ none)

later_causes : (uid : ℕ) (a b : List Entry) → causes_of uid (a ++ b) ≡ [] → causes_of uid b ≡ []
later_causes uid a b none = none_second (causes_of uid a) (causes_of uid b) (sym (flat_append (cause_in uid) a b) ∙ none)

has_cause : (n : ℕ) (cred : Cred) (uid : ℕ) (front : List Entry) (cause : EndCause) (rest : List Entry) → cred.0 ≡ uid → causes_of uid (front ++ entry.Ended (file_id n) cred cause ∷ rest) ≡ [] → ⊥
has_cause n cred uid front cause rest same none =
    let here : causes_of uid (entry.Ended (file_id n) cred cause ∷ rest) ≡ [] = later_causes uid front (entry.Ended (file_id n) cred cause ∷ rest) none in
    let one : cond (cred.0 == uid) (cause ∷ []) [] ≡ [] = none_first (cond (cred.0 == uid) (cause ∷ []) []) (causes_of uid rest) here in
    let wrong : cause ∷ [] ≡ [] = sym (ap (λ (b : Bool). cond b (cause ∷ []) []) (eq-eqb cred.0 uid same)) ∙ one in
    absurd cc

-- ---- entries that grant nothing, and files that keep their layouts

abbrev KeepLayouts : List MdsFile → List MdsFile → Type 0
KeepLayouts old new = (k : ℕ) (f : MdsFile) → numbered_at old k ≡ Some f → (g : MdsFile) × (numbered_at new k ≡ Some g) × (g.layout ≡ f.layout)

still : (old new : List MdsFile) → KeepLayouts old new → (f : FileId) (uid : ℕ) (live : List MirrorId) → IsHeldStill old f uid live → IsHeldStill new f uid live
still old new keep f uid live h =
    let g = keep f.0 h.file h.there in
    record {
      file = g.0;
      there = g.1;
      node = h.node;
      is_recalled = h.is_recalled;
      phase = ap (λ (s : LayoutState). s.phase) g.2 ∙ h.phase;
      cred = ap (λ (s : LayoutState). s.cred.0) g.2 ∙ h.cred;
      ids = ap (λ (s : LayoutState). ids_of s.live) g.2 ∙ h.ids;
    }

quietly_held : (old new : List MdsFile) (journal entries : List Entry) → KeepLayouts old new → AllByRecursion (λ (e : Entry). granted_in e ≡ None) entries → KnowsHeld old journal → KnowsHeld new (journal ++ entries)
quietly_held old new journal entries keep none held before since f uid holder live split at_live no_cause = by_place (stands_in journal entries before (entry.Granted f (record { 0 = uid }) holder) since split)
  where
    by_place : StandsIn journal entries before (entry.Granted f (record { 0 = uid }) holder) since → IsHeldStill new f uid live
    by_place (InFirst rest first) =
        let whole : since ≡ rest ++ entries = same_rest before (entry.Granted f (record { 0 = uid }) holder) since (rest ++ entries) (sym split ∙ (ap (λ (l : List Entry). l ++ entries) first ∙ append_assoc before (entry.Granted f (record { 0 = uid }) holder ∷ rest) entries)) in
        still old new keep f uid live (held before rest f uid holder live first at_live (fewer_causes uid rest entries (ap (causes_of uid) (sym whole) ∙ no_cause)))
      where
        same_rest : (front : List Entry) (e : Entry) (a b : List Entry) → front ++ e ∷ a ≡ front ++ e ∷ b → a ≡ b
        same_rest [] e a b is = cc (is)
        same_rest (x ∷ front) e a b is = let rest : front ++ e ∷ a ≡ front ++ e ∷ b = cc (is) in same_rest front e a b rest
    by_place (InSecond front first second) = absurd (grantless front f uid holder since entries second none)

same_files : (files : List MdsFile) → KeepLayouts files files
same_files files k f there = (f, there, refl)

kept_held : (old new : List MdsFile) (journal : List Entry) → KeepLayouts old new → KnowsHeld old journal → KnowsHeld new journal
kept_held old new journal keep held = subst (KnowsHeld new) (append-nil journal) (quietly_held old new journal [] keep tt held)

-- ---- a step of a file

module _ (t : Story) (m : Machine) (journal : List Entry) (at : IsMoment t m journal) (held : KnowsHeld m.files journal) (n : ℕ) (f : MdsFile) (input : FileInput) (there : numbered_at m.files n ≡ Some f) where
  abbrev x : FileStep
  x = phase (file_id n) f input (fresh_of m)

  kind : StepKind n (fresh_of m) input f.layout f.activity x
  kind = phase_kind n (fresh_of m) (net_of m t.drawn) journal f (at.holds.files n f there) input

  -- who is held does nothing
  no_calls : (a : Activity) (s : LayoutState) (node : NodeId) (is_recalled : Bool) → s.phase ≡ Held node is_recalled → IsBusyWith (net_of m t.drawn) journal n s a → has_calls a ≡ false
  no_calls Idle s node is_recalled phase busy = refl
  no_calls (Makes all) s node is_recalled phase busy = let wrong : Held node is_recalled ≡ Making = sym phase ∙ busy.phase in absurd cc
  no_calls (Fences fence) s node is_recalled phase busy = let wrong : Held node is_recalled ≡ Fencing busy.next busy.end = sym phase ∙ busy.phase in absurd cc
  no_calls (Settles stage) s node is_recalled phase busy = let wrong : Held node is_recalled ≡ Settling busy.copies = sym phase ∙ busy.phase in absurd cc
  no_calls (Copies c) s node is_recalled phase busy = let wrong : Held node is_recalled ≡ Copying busy.copier busy.copies = sym phase ∙ busy.phase in absurd cc

  here : numbered_at (set m.files (n - 1) x.file) n ≡ Some x.file
  here = put_same m.files n f x.file there

  -- a period that went on before the step
  went_on : (g : FileId) (uid : ℕ) (live : List MirrorId) → causes_of uid x.entries ≡ [] → IsHeldStill m.files g uid live → IsHeldStill (set m.files (n - 1) x.file) g uid live
  went_on g uid live none h = elim (cases_eq g.0 n) [ inl same ↦ its same | inr other ↦ record { file = h.file; there = put_other m.files n g.0 f x.file there other ∙ h.there; node = h.node; is_recalled = h.is_recalled; phase = h.phase; cred = h.cred; ids = h.ids } ]
    where
      its : g.0 ≡ n → IsHeldStill (set m.files (n - 1) x.file) g uid live
      its same = by_step (held_or_ended n (fresh_of m) input kind (no_calls f.activity f.layout h.node h.is_recalled phase (at.holds.files n f there).busy) h.node h.is_recalled phase)
        where
          one : h.file ≡ f
          one = same_numbered m.files n h.file f (subst (λ (k : ℕ). numbered_at m.files k ≡ Some h.file) same h.there) there

          phase : f.layout.phase ≡ Held h.node h.is_recalled
          phase = ap (λ (y : MdsFile). y.layout.phase) (sym one) ∙ h.phase

          cred : f.layout.cred.0 ≡ uid
          cred = ap (λ (y : MdsFile). y.layout.cred.0) (sym one) ∙ h.cred

          by_step : HeldStep n f.layout x → IsHeldStill (set m.files (n - 1) x.file) g uid live
          by_step (GoesOnHeld node is_recalled now same_cred ids) = record {
            file = x.file;
            there = subst (λ (k : ℕ). numbered_at (set m.files (n - 1) x.file) k ≡ Some x.file) (sym same) here;
            node = node;
            is_recalled = is_recalled;
            phase = now;
            cred = ap (λ (c : Cred). c.0) same_cred ∙ cred;
            ids = ids ∙ (ap (λ (y : MdsFile). ids_of y.layout.live) (sym one) ∙ h.ids);
          }
          by_step (EntersItsEnd front cause rest is) = absurd (has_cause n f.layout.cred uid front cause rest cred (ap (causes_of uid) (sym is) ∙ none))

  step_held : KnowsHeld (set m.files (n - 1) x.file) (journal ++ x.entries)
  step_held before since g uid holder live split at_live no_cause = by_place (stands_in journal x.entries before (entry.Granted g (record { 0 = uid }) holder) since split)
    where
      same_rest : (front : List Entry) (e : Entry) (a b : List Entry) → front ++ e ∷ a ≡ front ++ e ∷ b → a ≡ b
      same_rest [] e a b is = cc (is)
      same_rest (z ∷ front) e a b is = let rest : front ++ e ∷ a ≡ front ++ e ∷ b = cc (is) in same_rest front e a b rest

      granted_now : (front : List Entry) → before ≡ journal ++ front → x.entries ≡ front ++ entry.Granted g (record { 0 = uid }) holder ∷ since → GrantsFile n f.layout x ⊎ AllByRecursion IsSilent x.entries → IsHeldStill (set m.files (n - 1) x.file) g uid live
      granted_now front before_is second (inr silent) = absurd (grantless front g uid holder since x.entries second (all_silent x.entries silent))
      granted_now [] before_is second (inl k) =
          let head : entry.Granted g (record { 0 = uid }) holder ≡ entry.Granted (file_id n) f.layout.cred k.holder = let both = sym second ∙ k.is in cc (both) in
          let files : g ≡ file_id n = cc (head) in
          let uids : f.layout.cred.0 ≡ uid = cc (head) in
          let now : live_in journal g ≡ Some live = subst (λ (l : List Entry). live_in l g ≡ Some live) (before_is ∙ append-nil journal) at_live in
          let was : live_in journal (file_id n) ≡ Some (ids_of f.layout.live) = (at.holds.files n f there).live ∙ ap (λ (y : LayoutPhase). live_of y (ids_of f.layout.live)) k.phase in
          let ids : ids_of f.layout.live ≡ live = same_Some (ids_of f.layout.live) live (sym was ∙ subst (λ (y : FileId). live_in journal y ≡ Some live) files now) in
          record {
            file = x.file;
            there = subst (λ (y : FileId). numbered_at (set m.files (n - 1) x.file) y.0 ≡ Some x.file) (sym files) here;
            node = k.holder;
            is_recalled = false;
            phase = k.held;
            cred = ap (λ (c : Cred). c.0) k.cred ∙ uids;
            ids = k.live ∙ ids;
          }
      granted_now (z ∷ front) before_is second (inl k) =
          let rest : k.writes ≡ front ++ entry.Granted g (record { 0 = uid }) holder ∷ since = let both = sym k.is ∙ second in cc (both) in
          absurd (grantless front g uid holder since k.writes rest (taken_grantless n f.layout.cred k.writes k.taken))

      by_place : StandsIn journal x.entries before (entry.Granted g (record { 0 = uid }) holder) since → IsHeldStill (set m.files (n - 1) x.file) g uid live
      by_place (InFirst rest first) =
          let whole : since ≡ rest ++ x.entries = same_rest before (entry.Granted g (record { 0 = uid }) holder) since (rest ++ x.entries) (sym split ∙ (ap (λ (l : List Entry). l ++ x.entries) first ∙ append_assoc before (entry.Granted g (record { 0 = uid }) holder ∷ rest) x.entries)) in
          let none : causes_of uid (rest ++ x.entries) ≡ [] = ap (causes_of uid) (sym whole) ∙ no_cause in
          went_on g uid live (later_causes uid rest x.entries none) (held before rest g uid holder live first at_live (fewer_causes uid rest x.entries none))
      by_place (InSecond front first second) = granted_now front first second (grants_or n (fresh_of m) input kind)

-- ---- every bound run

abbrev Knows : Story → Machine → List Entry → Type 0
Knows t m journal = KnowsOwned m × KnowsHeld m.files journal

called_layouts : (files : List MdsFile) (n xid : ℕ) (f : MdsFile) (c : CallOut) → numbered_at files n ≡ Some f → call_out f xid ≡ Some c → KeepLayouts files (set files (n - 1) c.file)
called_layouts files n xid f c there out k g is =
    elim (cases_eq k n) [
      | inl same ↦
          let one : g ≡ f = same_numbered files n g f (subst (λ (j : ℕ). numbered_at files j ≡ Some g) same is) there in
          (c.file, ap (numbered_at (set files (n - 1) c.file)) same ∙ put_same files n f c.file there, layout_kept f xid c out ∙ ap (λ (y : MdsFile). y.layout) (sym one))
      | inr other ↦ (g, put_other files n k f c.file there other ∙ is, refl)
    ]

longer_slice : {A : Type 0} (xs more : List A) (k : ℕ) (x : A) → slice_get xs k ≡ Some x → slice_get (xs ++ more) k ≡ Some x
longer_slice [] more k x is = absurd cc
longer_slice (y ∷ xs) more zero x is = is
longer_slice (y ∷ xs) more (suc k) x is = longer_slice xs more k x is

longer_numbered : {A : Type 0} (xs more : List A) (k : ℕ) (x : A) → numbered_at xs k ≡ Some x → numbered_at (xs ++ more) k ≡ Some x
longer_numbered xs more k x = by_test (k == 0)
  where
    by_test : (b : Bool) → cond b None (slice_get xs (k - 1)) ≡ Some x → cond b None (slice_get (xs ++ more) (k - 1)) ≡ Some x
    by_test true is = is
    by_test false is = longer_slice xs more (k - 1) x is

pushed_layouts : (files : List MdsFile) (f : MdsFile) → KeepLayouts files (files ++ f ∷ [])
pushed_layouts files f k g is = (g, longer_numbered files (f ∷ []) k g is, refl)

module _ (calls : (s : ServerState) (caller : Caller) (call : DsCallValue) → IsInOrder s → CallLaws s caller call (ds_step s caller call).server (ds_step s caller call).reply (ds_step s caller call).entries)
    (restarts : (s : ServerState) (pieces : List Piece) (new : ServerState) → restart_of s pieces ≡ Some new → IsInOrder s → RestartLaws s pieces new) where
  owning_cases : Cases Knows NoMore
  owning_cases = record {
    later = λ t uid name then more before e on up q. q;
    steps = λ t m journal at p n f input then by. (
      (steps_owned t m journal at p.0 n f input by.there then by, step_held t m journal at p.1 n f input by.there),
      each_nothing then (m.next_uid + (phase (file_id n) f input (fresh_of m)).uids) journal (phase (file_id n) f input (fresh_of m)).entries,
    );
    calls = λ t m journal at p n xid f c there is less h. (calls_owned t m journal at p.0 n xid f c there is, kept_held m.files (set m.files (n - 1) c.file) journal (called_layouts m.files n xid f c there is) p.1);
    serves = λ t m journal at p place from n xid uid gid call s sent there h. (
      (
        serves_owned t m journal at p.0 calls place from n xid uid gid call s sent there,
        quietly_held m.files m.files journal (ds_step s (caller_by uid gid) call).entries (same_files m.files) (effect_grantless s uid (ds_plan s (caller_by uid gid) call).effect) p.1,
      ),
      each_nothing t m.next_uid journal (ds_step s (caller_by uid gid) call).entries,
    );
    restarts = λ t m journal at p n pieces s new there is h. ((restarts_owned t m journal at p.0 restarts n pieces s new there is, quietly_held m.files m.files journal (entry.Restarted n pieces ∷ []) (same_files m.files) (refl, tt) p.1), (tt, tt));
    again = λ t m journal at p place q there. (again_owned t m journal at p.0 place q there, p.1);
    uses = λ t m journal at p node n xid uid gid call may new bound. (uses_owned t m journal at p.0 node n xid uid gid call may, p.1);
    takes = λ t m journal at p file uid pos bytes bound. ((p.0, quietly_held m.files m.files journal (entry.Sent file (a_uid uid) pos bytes ∷ []) (same_files m.files) (refl, tt) p.1), (tt, tt));
    strays = λ t m journal at p file uid pos bytes bound. ((p.0, quietly_held m.files m.files journal (entry.Rogue file (a_uid uid) pos bytes ∷ []) (same_files m.files) (refl, tt) p.1), (tt, tt));
    tells = λ t m journal at p file uid pos bytes bound. ((p.0, quietly_held m.files m.files journal (entry.Told file (a_uid uid) pos bytes ∷ []) (same_files m.files) (refl, tt) p.1), (tt, tt));
    creates = λ t m journal at p servers may h. (created_owned t m journal p.0 servers, kept_held m.files (m.files ++ new_mds_file (fresh_of m) servers ∷ []) journal (pushed_layouts m.files (new_mds_file (fresh_of m) servers)) p.1);
  }
    where
      created_owned : (t : Story) (m : Machine) (journal : List Entry) → KnowsOwned m → (servers : List ℕ) → KnowsOwned (created_machine m servers)
      created_owned t m journal owned servers k f is settled =
          elim (pushed m.files (new_mds_file (fresh_of m) servers) k f is) [
            | inl old ↦ owned k f old settled
            | inr last ↦ absurd (making settled (ap (λ (y : MdsFile). is_settled y.layout.phase) (sym last.1)))
          ]
        where
          making : is_settled f.layout.phase ≡ true → is_settled f.layout.phase ≡ false → ⊥
          making was is_not = let wrong : false ≡ true = sym is_not ∙ was in absurd cc

  module _ (new : (number boot : ℕ) → IsInOrder (new_server number boot) × IsTold (new_server number boot) []) (boots : List ℕ) where
    abbrev begun : Machine
    begun = new_machine (new_servers 1 boots)

    none_there : (n : ℕ) (f : MdsFile) → numbered_at begun.files n ≡ Some f → ⊥
    none_there n f = by_test (n == 0)
      where
        by_test : (b : Bool) → cond b None None ≡ Some f → ⊥
        by_test true e = cc
        by_test false e = cc

    none_held : KnowsHeld begun.files []
    none_held [] since f uid holder live split at_live none = absurd cc
    none_held (e ∷ before) since f uid holder live split at_live none = absurd cc

    pub holders_own : (moves : List Move) → EachHolderOwns boots moves
    holders_own moves bound before since f uid holder live split at_live none =
        let done = run_done Knows NoMore owning_cases calls restarts moves first_story begun [] (first_moment new calls restarts boots) ((λ n g is settled. absurd (none_there n g is)), none_held) bound in
        let h : IsHeldStill (machine_after begun moves).files f uid live = done.kept.1 before since f uid holder live split at_live none in
        let owned : AreOwned (machine_after begun moves).servers (machine_after begun moves).packets h.file.layout.cred.0 (ids_of h.file.layout.live) = done.kept.0 f.0 h.file h.there (ap is_settled h.phase) in
        subst (λ (l : List MirrorId). BelongTo (journal_of begun moves) uid l) h.ids
        (subst (λ (u : ℕ). BelongTo (journal_of begun moves) u (ids_of h.file.layout.live)) h.cred
        (all_more (IsOwned (machine_after begun moves).servers (machine_after begun moves).packets h.file.layout.cred.0) (λ (i : MirrorId). (content_of (journal_of begun moves) i).owner ≡ h.file.layout.cred.0) (ids_of h.file.layout.live)
        (λ i o. as_told done.last i h.file.layout.cred.0 done.moment.holds o.owns) owned))
      where
        as_told : (t : Story) (i : MirrorId) (u : ℕ) → Holds (machine_after begun moves) (journal_of begun moves) t.drawn → OwnsFile (machine_after begun moves).servers u i → (content_of (journal_of begun moves) i).owner ≡ u
        as_told t i u holds o =
            let s = holds.servers i.server o.server o.there in
            let same : i ≡ mirror_of o.server o.index = id_by i o.server.number (o.index + 2) (sym s.number) o.place in
            ap (λ (k : MirrorId). (content_of (journal_of begun moves) k).owner) same ∙ (sym (ap (λ (c : Copy). c.owner) (s.told.each o.index o.file o.is)) ∙ o.owner)
