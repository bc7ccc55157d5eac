-- Live mirrors behind a copy that follows a dirty end, over the moves of a run.
use Rattle.std.specs.List.{AllByRecursion}
use Rattle.cluster_model.specs.declared.ids.MirrorId.{MirrorId}
use Rattle.cluster_model.specs.declared.entry.Entry.{Entry}
use Rattle.cluster_model.specs.declared.layout_state.LayoutState.{LayoutState}
use Rattle.cluster_model.specs.declared.layout_state.FenceEnd.TheVariants.{Clean, Dirty, Copied}
use Rattle.cluster_model.specs.Journal.{Copy, content_of}
use Rattle.cluster_model.specs.Phases.{ids_of}
use Rattle.file_rule.specs.declared.fresh.Fresh.{Fresh}
use Rattle.cluster_laws.proofs.Lists.{all_more}
use Rattle.machine_walk.proofs.Stories.{Story, AreEach}
use Rattle.machine_walk.proofs.StepKinds.{StepKind, Rests, Learnt, Recalled, Grants, Ends, Resilvers, MakingTurns, MakingDone, FenceTurns, FenceLoses, FenceDone, SettleTurns, SettleLoses, SettleFrees, CopyBegins, CopyTurns, CopyLoses, TargetLost, CopyFrees, CopySwaps}
use Rattle.copied_bytes.proofs.Wholes.{IsWhole}
use Rattle.std.proofs.Common.{◌≡◌, ℕ, ◌+◌, ◌-◌, ◌<◌, true, false, List, ◌++◌, set, Some, refl, sym, ap, subst, ◌∙◌, arith}
use Rattle.cluster_model.specs.declared.ids.NodeId.TheVariants.{Mds}
use Rattle.file_rule.specs.MdsFiles.{Activity, Idle, Makes, Fences, Settles, Copies, MdsFile, FileStep}
use Rattle.file_rule.specs.FilePhases.{FileInput, phase}
use Rattle.cluster_laws.specs.Machine.{Machine, numbered_at, file_id, fresh_of}
use Rattle.machine_walk.proofs.Stories.{IsMoment}
use Rattle.machine_walk.proofs.MoveCases.{IsStepBy}
use Rattle.machine_walk.proofs.Placed.{files_set}
use Rattle.machine_walk.proofs.Writers.{HasUids}
use Rattle.machine_walk.proofs.WriterFacts.{KnowsWriters}
use Rattle.copied_bytes.proofs.Sources.{owner_of, IsUnusedFrom, IsShut, IsBusySo, shut_in, GoesOnWith, unused_from}
use Rattle.copied_bytes.proofs.SourceCarry.{KnowsSources}
use Rattle.copied_bytes.proofs.SourceKinds.{is_grant}
use Rattle.copied_bytes.proofs.SourceSteps.{its_kind, busy_now, on_own, on_other, no_grant}
use Rattle.copied_bytes.proofs.TargetFacts.{KnowsTargets}
use Rattle.copied_bytes.proofs.TargetSteps.{copies_at, made_by, content_is, owner_is}
use Rattle.copied_bytes.proofs.Replaced.{NoneLost}
use Rattle.copied_bytes.proofs.SinceFree.{HasUsers, IsUserless, users_same, users_on, users_kind, others_kind}
use Rattle.copied_bytes.proofs.AlikeKinds.{AreAlikeBy, alike_map, is_behind_copy, IsFreedAlike}
use Rattle.copied_bytes.proofs.AlikeTurns.{Known, Steady, IsNewFor, SettlesIn, alike_kind}

-- a mirror has all of these bytes, and nobody is granted a uid that could write there
abbrev pub IsSteadyAt : Story → ℕ → List Entry → ℕ → List ℕ → MirrorId → Type 0
IsSteadyAt t uid journal n bytes id = IsWhole bytes (content_of journal id).content × IsUnusedFrom t uid journal n (owner_of journal id)

abbrev pub AreSteadyAt : Story → ℕ → List Entry → ℕ → List MirrorId → Type 0
AreSteadyAt t uid journal n ids = (bytes : List ℕ) × AllByRecursion (IsSteadyAt t uid journal n bytes) ids

pub record IsFileAlike (t : Story) (uid : ℕ) (journal : List Entry) (n : ℕ) (s : LayoutState) (a : Activity) : Type 0 where
  pub users : HasUsers journal n s.phase s.cred.0
  pub alike : AreAlikeBy n (AreSteadyAt t uid journal n) NoneLost journal s.phase (ids_of s.live) a

pub record KnowsAlike (t : Story) (uid : ℕ) (all : List MdsFile) (journal : List Entry) : Type 0 where
  pub files : (n : ℕ) (f : MdsFile) → numbered_at all n ≡ Some f → IsFileAlike t uid journal n f.layout f.activity

-- a file that takes no step
pub file_on : (t : Story) (uid : ℕ) (then : Story) (more n : ℕ) (journal entries : List Entry) (s : LayoutState) (a : Activity) → AllByRecursion (IsUserless (file_id n)) entries
    → ((bytes : List ℕ) → AllByRecursion (IsSteadyAt t uid journal n bytes) (ids_of s.live) → AllByRecursion (IsSteadyAt then more (journal ++ entries) n bytes) (ids_of s.live)) → IsFileAlike t uid journal n s a → IsFileAlike then more (journal ++ entries) n s a
file_on t uid then more n journal entries s a none steady h = record {
  users = users_on journal entries n s.cred.0 none s.phase h.users;
  alike = alike_map n (AreSteadyAt t uid journal n) (AreSteadyAt then more (journal ++ entries) n) NoneLost journal (journal ++ entries) (ids_of s.live) a (λ e. users_same (file_id n) journal entries none ∙ e) s.phase (λ b st. (st.0, steady st.0 st.1)) h.alike;
}

-- a mirror of which nothing is said
pub steady_same : (t : Story) (uid : ℕ) (then : Story) (more n : ℕ) (journal later : List Entry) → GoesOnWith t uid then more n journal later → (bytes : List ℕ) (id : MirrorId) → content_of later id ≡ content_of journal id → IsSteadyAt t uid journal n bytes id → IsSteadyAt then more later n bytes id
steady_same t uid then more n journal later on bytes id same h =
    let owner : owner_of later id ≡ owner_of journal id = ap (λ (c : Copy). c.owner) same in
    (subst (λ (c : Copy). IsWhole bytes c.content) (sym same) h.0, unused_from t uid then more n journal later on (owner_of journal id) (owner_of later id) (omega (arith, owner)) h.1)

-- behind a copy nothing is granted
behind_silent : (n : ℕ) (fresh : Fresh) (input : FileInput) {s : LayoutState} {a : Activity} {x : FileStep} → StepKind n fresh input s a x → is_behind_copy x.file.layout.phase ≡ true → is_grant x.entries ≡ false
behind_silent n fresh input (Rests s a) e = refl
behind_silent n fresh input (Learnt s y a x same q) e = behind_silent n fresh input q e
behind_silent n fresh input (Recalled s holder is_recalled is) e = refl
behind_silent n fresh input (Grants s holder writes is taken) e = absurd cc
behind_silent n fresh input (Ends s holder is_recalled left cause live Clean is leaving of kept) e = absurd cc
behind_silent n fresh input (Ends s holder is_recalled left cause live Dirty is leaving of kept) e = absurd cc
behind_silent n fresh input (Ends s holder is_recalled left cause live Copied is leaving of kept) e = absurd of
behind_silent n fresh input (Resilvers s is) e = refl
behind_silent n fresh input (MakingTurns s all next x same q) e = behind_silent n fresh input q e
behind_silent n fresh input (MakingDone s all is) e = refl
behind_silent n fresh input (FenceTurns s fence next x same q) e = behind_silent n fresh input q e
behind_silent n fresh input (FenceLoses s fence id cause x some q) e = refl
behind_silent n fresh input (FenceDone s fence next end is same done) e = refl
behind_silent n fresh input (SettleTurns s stage next x outs q) e = behind_silent n fresh input q e
behind_silent n fresh input (SettleLoses s stage m live cause is some) e = refl
behind_silent n fresh input (SettleFrees s stage copies is none by) e = refl
behind_silent n fresh input (CopyBegins s stage copies is some by) e = refl
behind_silent n fresh input (CopyTurns s c x q shown) e = behind_silent n fresh input q e
behind_silent n fresh input (CopyLoses s c m live cause is some) e = refl
behind_silent n fresh input (TargetLost s c id cause x other q) e = refl
behind_silent n fresh input (CopyFrees s c by copies is over none) e = refl
behind_silent n fresh input (CopySwaps s c by copies is o targets over some) e = refl

-- ---- a step of a file

module _ (t : Story) (m : Machine) (journal : List Entry) (at : IsMoment t m journal) (w : KnowsWriters t m journal) (p : KnowsSources t m journal) (q : KnowsTargets t m journal) (r : KnowsAlike t m.next_uid m.files journal) (n : ℕ) (f : MdsFile) (input : FileInput) (then : Story) (by : IsStepBy t m journal n f input then) where
  abbrev y : FileStep
  y = phase (file_id n) f input (fresh_of m)

  abbrev later : List Entry
  later = journal ++ y.entries

  abbrev more : ℕ
  more = m.next_uid + y.uids

  abbrev U : MirrorId → Type 0
  U id = IsUnusedFrom t m.next_uid journal n (owner_of journal id)

  kind : StepKind n (fresh_of m) input f.layout f.activity y
  kind = its_kind t m journal at w p n f input then by

  same : (id : MirrorId) → content_of later id ≡ content_of journal id
  same id = content_is t m journal at w p q n f input then by id

  owners : (id : MirrorId) → owner_of later id < m.next_uid
  owners id = (let e = owner_is t m journal at w p q n f input then by id in let less = q.bound id in omega (arith, e, less))

  new_by : (a : Activity) → f.activity ≡ a → IsNewFor n (fresh_of m) input t m.next_uid m.next_name m.packets (m.last_xid Mds) later by.heard (λ bytes by_ copy. made_by t m journal at w p q n f input then by input refl bytes by_ copy) owners U a
  new_by Idle is = tt
  new_by (Makes all) is = tt
  new_by (Fences fence) is = tt
  new_by (Settles stage) is = tt
  new_by (Copies c) is = λ id owner. record {
    none = λ u mine le.
        let uids = subst (HasUids t m.next_uid n f.layout) is (w.files n f by.there) in
        let less = uids.later in
        let e = owner_is t m journal at w p q n f input then by id in
        (p.files n f by.there).above.none u mine (omega (arith, less, le, e, owner));
  }

  settles_by : (a : Activity) → f.activity ≡ a → SettlesIn n (fresh_of m) input t m.next_uid m.next_name m.packets (m.last_xid Mds) later by.heard (λ bytes by_ copy. made_by t m journal at w p q n f input then by input refl bytes by_ copy) owners U a (ids_of f.layout.live)
  settles_by Idle is = tt
  settles_by (Makes all) is = tt
  settles_by (Fences fence) is = tt
  settles_by (Settles stage) is = busy_now t m journal at w p n f input then by (Settles stage) is (subst (λ (a : Activity). IsBusySo t m.next_uid m.packets (m.last_xid Mds) journal n f.layout a) is (p.files n f by.there).busy)
  settles_by (Copies c) is = tt

  known : Known n (fresh_of m) input t m.next_uid m.next_name m.packets (m.last_xid Mds) later by.heard (λ bytes by_ copy. made_by t m journal at w p q n f input then by input refl bytes by_ copy) owners U journal f.layout f.activity
  known = record {
    users = (r.files n f by.there).users;
    live = (at.holds.files n f by.there).live;
    shut = λ e. all_more (IsShut t m.next_uid journal n) U (ids_of f.layout.live) (λ id h. h.unused) (shut_in t m.next_uid journal n f.layout.phase (ids_of f.layout.live) e (p.files n f by.there).shut);
    copies = copies_at t m journal at w p q n f input then by f.activity refl;
    new = new_by f.activity refl;
    settles = settles_by f.activity refl;
  }

  stepped : AreAlikeBy n (Steady n (fresh_of m) input t m.next_uid m.next_name m.packets (m.last_xid Mds) later by.heard (λ bytes by_ copy. made_by t m journal at w p q n f input then by input refl bytes by_ copy) owners U) NoneLost later y.file.layout.phase (ids_of y.file.layout.live) y.file.activity
      × AreEach IsFreedAlike journal y.entries
  stepped =
      alike_kind n (fresh_of m) input t m.next_uid m.next_name m.packets (m.last_xid Mds) later by.heard (λ bytes by_ copy. made_by t m journal at w p q n f input then by input refl bytes by_ copy) owners U kind journal (λ id. sym (same id)) known NoneLost (λ id l. absurd l)
      (alike_map n (AreSteadyAt t m.next_uid journal n) (Steady n (fresh_of m) input t m.next_uid m.next_name m.packets (m.last_xid Mds) later by.heard (λ bytes by_ copy. made_by t m journal at w p q n f input then by input refl bytes by_ copy) owners U) NoneLost journal journal (ids_of f.layout.live) f.activity (λ e. e) f.layout.phase
      (λ b st. (st.0, all_more (IsSteadyAt t m.next_uid journal n st.0) (λ id. IsWhole st.0 (content_of later id).content × U id) (ids_of f.layout.live) (λ id h. (subst (λ (c : Copy). IsWhole st.0 c.content) (sym (same id)) h.0, h.1)) st.1)) (r.files n f by.there).alike)

  its_alike : IsFileAlike then more later n y.file.layout y.file.activity
  its_alike = record {
    users = users_kind n (fresh_of m) input kind journal (r.files n f by.there).users;
    alike = alike_map n (Steady n (fresh_of m) input t m.next_uid m.next_name m.packets (m.last_xid Mds) later by.heard (λ bytes by_ copy. made_by t m journal at w p q n f input then by input refl bytes by_ copy) owners U) (AreSteadyAt then more later n) NoneLost later later (ids_of y.file.layout.live) y.file.activity (λ e. e) y.file.layout.phase
        (λ b st. (
          st.0,
          all_more (λ id. IsWhole st.0 (content_of later id).content × U id) (IsSteadyAt then more later n st.0) (ids_of y.file.layout.live)
              (λ id h.
              let e = owner_is t m journal at w p q n f input then by id in
              (h.0, unused_from t m.next_uid then more n journal later (on_own t m journal at w p n f input then by (no_grant t m journal at w p n f input then by (behind_silent n (fresh_of m) input kind b))) (owner_of journal id) (owner_of later id) (omega (arith, e)) h.1)) st.1,
        )) stepped.0;
  }

  pub stepped_alike : KnowsAlike then more (set m.files (n - 1) y.file) later
  stepped_alike = record {
    files = files_set (λ k g. IsFileAlike then more later k g.layout g.activity) m.files n f y.file by.there its_alike
        (λ k g other found. file_on t m.next_uid then more k journal y.entries g.layout g.activity (others_kind n (fresh_of m) input k other kind)
        (λ bytes h. all_more (IsSteadyAt t m.next_uid journal k bytes) (IsSteadyAt then more later k bytes) (ids_of g.layout.live) (λ id z. steady_same t m.next_uid then more k journal later (on_other t m journal at w p n f input then by k other) bytes id (same id) z) h) (r.files k g found));
  }

  pub stepped_freed : AreEach IsFreedAlike journal y.entries
  stepped_freed = stepped.1
