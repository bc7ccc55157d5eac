-- Behind every bound run each grant is held, with the mirrors that were live.
use Rattle.std.proofs.Common.{◌≡◌, ℕ, zero, suc, ◌+◌, ◌-◌, Bool, true, false, List, [], ◌∷◌, ◌++◌, Option, Some, None, refl, sym, ap, subst, ◌∙◌, inl, inr, ◌⊎◌, length}
use Rattle.std.specs.Prelude.{slice_get}
use Rattle.std.specs.List.{AllByRecursion, flat_map}
use Rattle.std.proofs.lemmas.List.{append_assoc, append-nil}
use Rattle.std.proofs.lemmas.Option.{same_Some}
use Rattle.cluster_model.specs.declared.ids.NodeId.{NodeId}
use Rattle.cluster_model.specs.declared.ids.FileId.{FileId}
use Rattle.cluster_model.specs.declared.ids.MirrorId.{MirrorId}
use Rattle.cluster_model.specs.declared.ids.Cred.{Cred}
use Rattle.cluster_model.specs.declared.piece.Piece.{Piece}
use Rattle.cluster_model.specs.declared.entry.Entry.{Entry}
use Rattle.cluster_model.specs.declared.entry.Entry.TheVariants as entry
use Rattle.cluster_model.specs.declared.layout_state.LayoutPhase.{LayoutPhase}
use Rattle.cluster_model.specs.declared.layout_state.LayoutPhase.TheVariants.{Free}
use Rattle.cluster_model.specs.Phases.{ids_of}
use Rattle.cluster_model.specs.File.{Writes, Commits, Sets, Restarts}
use Rattle.cluster_model.specs.Server.{ServerState, Caller, new_server, restart_of, Effect, NoEffect, OnFile, NewFile, applied_entries, committed_entries, owner_entries, entries_of, mirror_of}
use Rattle.cluster_model.specs.DsCalls.{DsCallValue, ds_plan, ds_step}
use Rattle.cluster_model.specs.GuardLaws.{IsInOrder, IsTold, CallLaws, RestartLaws}
use Rattle.file_rule.specs.MdsFiles.{MdsFile, FileStep, a_uid}
use Rattle.file_rule.specs.FilePhases.{FileInput, phase}
use Rattle.cluster_laws.specs.Machine.{Holding, Machine, Move, new_machine, file_id, fresh_of, held_by, held_by_entry, caller_by, machine_after, journal_of}
use Rattle.cluster_laws.specs.FenceLaw.{live_in, new_servers}
use Rattle.cluster_laws.specs.Holders.{AreBound}
use Rattle.cluster_laws.proofs.Invariant.{net_of, live_of}
use Rattle.cluster_laws.proofs.PeriodFacts.{granted_in}
use Rattle.machine_walk.proofs.Stories.{Story, IsMoment, AreEach}
use Rattle.machine_walk.proofs.MoveCases.{after_step, Cases}
use Rattle.machine_walk.proofs.MoveRuns.{RunDone, run_done}
use Rattle.machine_walk.proofs.StepKinds.{IsTakenWith, NoWrite, OneWrite, StepKind}
use Rattle.machine_walk.proofs.StepsByKind.{phase_kind}
use Rattle.machine_walk.proofs.Writers.{IsSilent}
use Rattle.machine_walk.proofs.WriterRuns.{first_story, first_moment}
use Rattle.held_mirrors.specs.HeldMirrors.{HasHolding, AreGrantsHeld, EachGrantIsHeld}
use Rattle.held_mirrors.proofs.GrantSteps.{GrantsFile, grants_or}

-- ---- where an entry stands in a joined journal

pub data StandsIn (a b before : List Entry) (e : Entry) (behind : List Entry) : Type 0 where
  InFirst : (rest : List Entry) → a ≡ before ++ e ∷ rest → StandsIn a b before e behind
  InSecond : (front : List Entry) → before ≡ a ++ front → b ≡ front ++ e ∷ behind → StandsIn a b before e behind

pub stands_in : (a b before : List Entry) (e : Entry) (behind : List Entry) → a ++ b ≡ before ++ e ∷ behind → StandsIn a b before e behind
stands_in [] b before e behind is = InSecond before refl is
stands_in (x ∷ a) b [] e behind is = let same : x ≡ e = cc (is) in InFirst a (ap (λ (h : Entry). h ∷ a) same)
stands_in (x ∷ a) b (y ∷ before) e behind is =
    let same : x ≡ y = cc (is) in
    let rest : a ++ b ≡ before ++ e ∷ behind = cc (is) in
    with_rest same (stands_in a b before e behind rest)
  where
    with_rest : x ≡ y → StandsIn a b before e behind → StandsIn (x ∷ a) b (y ∷ before) e behind
    with_rest same (InFirst more first) = InFirst more (ap (λ (h : Entry). h ∷ a) same ∙ ap (λ (l : List Entry). y ∷ l) first)
    with_rest same (InSecond front first second) = InSecond front (ap (λ (h : Entry). h ∷ before) (sym same) ∙ ap (λ (l : List Entry). x ∷ l) first) second

-- ---- holdings stay

longer : {A : Type 0} (xs more : List A) (k : ℕ) (x : A) → slice_get xs k ≡ Some x → slice_get (xs ++ more) k ≡ Some x
longer [] more k x is = absurd cc
longer (y ∷ xs) more zero x is = is
longer (y ∷ xs) more (suc k) x is = longer xs more k x is

first_there : {A : Type 0} (xs : List A) (x : A) (more : List A) → slice_get (xs ++ x ∷ more) (length xs) ≡ Some x
first_there [] x more = refl
first_there (y ∷ xs) x more = first_there xs x more

still_held : (m n : Machine) (more : List Holding) → n.holdings ≡ m.holdings ++ more → (file : FileId) (uid : ℕ) (mirrors : List MirrorId) → HasHolding m file uid mirrors → HasHolding n file uid mirrors
still_held m n more is file uid mirrors h = record {
  place = h.place;
  held = h.held;
  there = ap (λ (l : List Holding). slice_get l h.place) is ∙ longer m.holdings more h.place h.held h.there;
  its_file = h.its_file;
  its_uid = h.its_uid;
  its_mirrors = h.its_mirrors;
}

-- ---- entries that grant nothing

pub grantless : (front : List Entry) (file : FileId) (uid : ℕ) (holder : NodeId) (behind entries : List Entry) → entries ≡ front ++ entry.Granted file (record { 0 = uid }) holder ∷ behind → AllByRecursion (λ (e : Entry). granted_in e ≡ None) entries → ⊥
grantless [] file uid holder behind [] is all = absurd cc
grantless [] file uid holder behind (e ∷ entries) is all =
    let same : e ≡ entry.Granted file (record { 0 = uid }) holder = cc (is) in
    let none : granted_in (entry.Granted file (record { 0 = uid }) holder) ≡ None = subst (λ (x : Entry). granted_in x ≡ None) same all.0 in
    absurd cc
grantless (x ∷ front) file uid holder behind [] is all = absurd cc
grantless (x ∷ front) file uid holder behind (e ∷ entries) is all =
    let rest : entries ≡ front ++ entry.Granted file (record { 0 = uid }) holder ∷ behind = cc (is) in
    grantless front file uid holder behind entries rest all.1

pub quietly : (m n : Machine) (more : List Holding) (journal entries : List Entry) → n.holdings ≡ m.holdings ++ more → AllByRecursion (λ (e : Entry). granted_in e ≡ None) entries → AreGrantsHeld m journal → AreGrantsHeld n (journal ++ entries)
quietly m n more journal entries is none held before behind file uid holder mirrors split live = by_place (stands_in journal entries before (entry.Granted file (record { 0 = uid }) holder) behind split)
  where
    by_place : StandsIn journal entries before (entry.Granted file (record { 0 = uid }) holder) behind → HasHolding n file uid mirrors
    by_place (InFirst rest first) = still_held m n more is file uid mirrors (held before rest file uid holder mirrors first live)
    by_place (InSecond front first second) = absurd (grantless front file uid holder behind entries second none)

same_journal : (m n : Machine) (journal : List Entry) → n.holdings ≡ m.holdings → AreGrantsHeld m journal → AreGrantsHeld n journal
same_journal m n journal is held =
    subst (AreGrantsHeld n) (append-nil journal) (quietly m n [] journal [] (is ∙ sym (append-nil m.holdings)) tt held)

-- a data server grants nothing
applied_grantless : (m : MirrorId) (uid at : ℕ) (bytes : List ℕ) (more : List Entry) → AllByRecursion (λ (e : Entry). granted_in e ≡ None) more → AllByRecursion (λ (e : Entry). granted_in e ≡ None) (applied_entries m uid at bytes ++ more)
applied_grantless m uid at [] more none = none
applied_grantless m uid at (b ∷ bytes) more none = (refl, none)

committed_grantless : (m : MirrorId) (synced : Bool) → AllByRecursion (λ (e : Entry). granted_in e ≡ None) (committed_entries m synced)
committed_grantless m true = (refl, tt)
committed_grantless m false = tt

owner_grantless : (m : MirrorId) (owner : Option ℕ) → AllByRecursion (λ (e : Entry). granted_in e ≡ None) (owner_entries m owner)
owner_grantless m None = tt
owner_grantless m (Some uid) = (refl, tt)

pub effect_grantless : (s : ServerState) (uid : ℕ) (does : Effect) → AllByRecursion (λ (e : Entry). granted_in e ≡ None) (entries_of s uid does)
effect_grantless s uid NoEffect = tt
effect_grantless s uid (OnFile index (Writes at synced bytes)) = applied_grantless (mirror_of s index) uid at bytes (committed_entries (mirror_of s index) synced) (committed_grantless (mirror_of s index) synced)
effect_grantless s uid (OnFile index Commits) = (refl, tt)
effect_grantless s uid (OnFile index (Sets changes)) = owner_grantless (mirror_of s index) changes.owner
effect_grantless s uid (OnFile index (Restarts pieces)) = tt
effect_grantless s uid (NewFile name owner group mode) = (refl, tt)

-- ---- a step of a file

pub taken_grantless : (n : ℕ) (cred : Cred) (writes : List Entry) → IsTakenWith n cred writes → AllByRecursion (λ (e : Entry). granted_in e ≡ None) writes
taken_grantless n cred writes NoWrite = tt
taken_grantless n cred writes (OneWrite at bytes) = (refl, tt)

pub all_silent : (entries : List Entry) → AllByRecursion IsSilent entries → AllByRecursion (λ (e : Entry). granted_in e ≡ None) entries
all_silent [] all = tt
all_silent (e ∷ entries) all = (all.0.grant, all_silent entries all.1)

module _ (m : Machine) (journal : List Entry) (held : AreGrantsHeld m journal) (n : ℕ) (f : MdsFile) (x : FileStep) (live_is : f.layout.phase ≡ Free → live_in journal (file_id n) ≡ Some (ids_of f.layout.live)) where
  grants_step : GrantsFile n f.layout x → AreGrantsHeld (after_step m n x) (journal ++ x.entries)
  grants_step g before behind file uid holder mirrors split live = by_place (stands_in journal (entry.Granted (file_id n) f.layout.cred g.holder ∷ g.writes) before (entry.Granted file (record { 0 = uid }) holder) behind (ap (λ (l : List Entry). journal ++ l) (sym g.is) ∙ split))
    where
      made : Holding
      made = record { node = g.holder; file = file_id n; uid = f.layout.cred.0; mirrors = ids_of x.file.layout.live }

      holdings : (after_step m n x).holdings ≡ m.holdings ++ made ∷ held_by (ids_of x.file.layout.live) g.writes
      holdings = ap (λ (l : List Entry). m.holdings ++ held_by (ids_of x.file.layout.live) l) g.is

      at_first : (front : List Entry) → before ≡ journal ++ front → entry.Granted (file_id n) f.layout.cred g.holder ∷ g.writes ≡ front ++ entry.Granted file (record { 0 = uid }) holder ∷ behind → HasHolding (after_step m n x) file uid mirrors
      at_first [] before_is same =
          let head : entry.Granted (file_id n) f.layout.cred g.holder ≡ entry.Granted file (record { 0 = uid }) holder = cc (same) in
          let files : file_id n ≡ file = cc (head) in
          let uids : f.layout.cred.0 ≡ uid = cc (head) in
          let now : live_in journal file ≡ Some mirrors = subst (λ (l : List Entry). live_in l file ≡ Some mirrors) (before_is ∙ append-nil journal) live in
          let was : live_in journal file ≡ Some (ids_of f.layout.live) = subst (λ (k : FileId). live_in journal k ≡ Some (ids_of f.layout.live)) files (live_is g.phase) in
          let ids : ids_of f.layout.live ≡ mirrors = same_Some (ids_of f.layout.live) mirrors (sym was ∙ now) in
          record {
            place = length m.holdings;
            held = made;
            there = ap (λ (l : List Holding). slice_get l (length m.holdings)) holdings ∙ first_there m.holdings made (held_by (ids_of x.file.layout.live) g.writes);
            its_file = files;
            its_uid = uids;
            its_mirrors = g.live ∙ ids;
          }
      at_first (y ∷ front) before_is same =
          let rest : g.writes ≡ front ++ entry.Granted file (record { 0 = uid }) holder ∷ behind = cc (same) in
          absurd (grantless front file uid holder behind g.writes rest (taken_grantless n f.layout.cred g.writes g.taken))

      by_place : StandsIn journal (entry.Granted (file_id n) f.layout.cred g.holder ∷ g.writes) before (entry.Granted file (record { 0 = uid }) holder) behind → HasHolding (after_step m n x) file uid mirrors
      by_place (InFirst rest first) = still_held m (after_step m n x) (held_by (ids_of x.file.layout.live) x.entries) refl file uid mirrors (held before rest file uid holder mirrors first live)
      by_place (InSecond front first second) = at_first front first second

  held_step : GrantsFile n f.layout x ⊎ AllByRecursion IsSilent x.entries → AreGrantsHeld (after_step m n x) (journal ++ x.entries)
  held_step (inl g) = grants_step g
  held_step (inr silent) = quietly m (after_step m n x) (held_by (ids_of x.file.layout.live) x.entries) journal x.entries refl (all_silent x.entries silent) held

-- ---- every bound run

abbrev Knows : Story → Machine → List Entry → Type 0
Knows t m journal = AreGrantsHeld m journal

abbrev pub NoMore : Story → ℕ → List Entry → Entry → Type 0
NoMore t uid before e = Unit {0}

pub each_nothing : (t : Story) (uid : ℕ) (before entries : List Entry) → AreEach (NoMore t uid) before entries
each_nothing t uid before [] = tt
each_nothing t uid before (e ∷ entries) = (tt, each_nothing t uid (before ++ e ∷ []) entries)

module _ (calls : (s : ServerState) (caller : Caller) (call : DsCallValue) → IsInOrder s → CallLaws s caller call (ds_step s caller call).server (ds_step s caller call).reply (ds_step s caller call).entries)
    (restarts : (s : ServerState) (pieces : List Piece) (new : ServerState) → restart_of s pieces ≡ Some new → IsInOrder s → RestartLaws s pieces new) where
  grant_cases : Cases Knows NoMore
  grant_cases = record {
    later = λ t uid name then more before e on up q. q;
    steps = λ t m journal at p n f input then by. (
      held_step m journal p n f (phase (file_id n) f input (fresh_of m))
          (λ free. (at.holds.files n f by.there).live ∙ ap (λ (x : LayoutPhase). live_of x (ids_of f.layout.live)) free)
          (grants_or n (fresh_of m) input (phase_kind n (fresh_of m) (net_of m t.drawn) journal f (at.holds.files n f by.there) input)),
      each_nothing then (m.next_uid + (phase (file_id n) f input (fresh_of m)).uids) journal (phase (file_id n) f input (fresh_of m)).entries,
    );
    calls = λ t m journal at p n xid f c there is less h. same_journal m _ journal refl p;
    serves = λ t m journal at p place from n xid uid gid call s sent there h. (
      quietly m _ [] journal (ds_step s (caller_by uid gid) call).entries (sym (append-nil m.holdings)) (effect_grantless s uid (ds_plan s (caller_by uid gid) call).effect) p,
      each_nothing t m.next_uid journal (ds_step s (caller_by uid gid) call).entries,
    );
    restarts = λ t m journal at p n pieces s new there is h. (quietly m _ [] journal (entry.Restarted n pieces ∷ []) (sym (append-nil m.holdings)) (refl, tt) p, (tt, tt));
    again = λ t m journal at p place x there. same_journal m _ journal refl p;
    uses = λ t m journal at p node n xid uid gid call may new bound. same_journal m _ journal refl p;
    takes = λ t m journal at p file uid pos bytes bound. (quietly m m [] journal (entry.Sent file (a_uid uid) pos bytes ∷ []) (sym (append-nil m.holdings)) (refl, tt) p, (tt, tt));
    strays = λ t m journal at p file uid pos bytes bound. (quietly m m [] journal (entry.Rogue file (a_uid uid) pos bytes ∷ []) (sym (append-nil m.holdings)) (refl, tt) p, (tt, tt));
    tells = λ t m journal at p file uid pos bytes bound. (quietly m m [] journal (entry.Told file (a_uid uid) pos bytes ∷ []) (sym (append-nil m.holdings)) (refl, tt) p, (tt, tt));
    creates = λ t m journal at p servers may h. same_journal m _ journal refl p;
  }

  module _ (new : (number boot : ℕ) → IsInOrder (new_server number boot) × IsTold (new_server number boot) []) (boots : List ℕ) where
    none_yet : AreGrantsHeld (new_machine (new_servers 1 boots)) []
    none_yet [] behind file uid holder mirrors split live = absurd cc
    none_yet (e ∷ before) behind file uid holder mirrors split live = absurd cc

    pub grants_held : (moves : List Move) → EachGrantIsHeld boots moves
    grants_held moves bound = (run_done Knows NoMore grant_cases calls restarts moves first_story (new_machine (new_servers 1 boots)) [] (first_moment new calls restarts boots) none_yet bound).kept
