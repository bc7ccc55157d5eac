-- Each kind of move keeps that mirrors belong to the uids of their files.
use Rattle.std.proofs.Common.{◌≡◌, ◌≢◌, ℕ, ◌+◌, ◌-◌, ◌<◌, ◌≤◌, ◌⊎◌, Bool, true, false, cond, List, [], ◌∷◌, ◌++◌, set, length, Option, Some, None, refl, sym, ap, subst, ◌∙◌, inl, inr, arith}
use Rattle.std.specs.Prelude.{slice_get, map, ◌&&◌, not}
use Rattle.std.specs.List.{AllByRecursion}
use Rattle.std.proofs.lemmas.Bool.{cond_both, cases_eq, and_parts, eq-eqb}
use Rattle.std.proofs.lemmas.List.{append_assoc, append-nil}
use Rattle.std.proofs.lemmas.Option.{same_Some}
use Rattle.cluster_model.specs.declared.ids.NodeId.{NodeId}
use Rattle.cluster_model.specs.declared.ids.NodeId.TheVariants.{Mds}
use Rattle.cluster_model.specs.declared.ids.FileId.{FileId}
use Rattle.cluster_model.specs.declared.ids.Cred.{Cred}
use Rattle.cluster_model.specs.declared.ids.MirrorId.{MirrorId}
use Rattle.cluster_model.specs.declared.ids.Mirror.{Mirror}
use Rattle.cluster_model.specs.declared.piece.Piece.{Piece}
use Rattle.cluster_model.specs.declared.entry.Entry.{Entry}
use Rattle.cluster_model.specs.declared.entry.Entry.TheVariants as entry
use Rattle.cluster_model.specs.declared.fence_mirror.FenceMirror.{FenceMirror}
use Rattle.cluster_model.specs.declared.layout_state.LayoutState.{LayoutState}
use Rattle.cluster_model.specs.declared.layout_state.LayoutPhase.{LayoutPhase}
use Rattle.cluster_model.specs.declared.layout_state.LayoutPhase.TheVariants.{Making, Free, Held, Fencing, Settling, Copying}
use Rattle.cluster_model.specs.File.{StoredFile}
use Rattle.cluster_model.specs.Journal.{Copy, no_copy, content_of}
use Rattle.cluster_model.specs.Phases.{ids_of}
use Rattle.cluster_model.specs.Fences.{waits, FenceState}
use Rattle.cluster_model.specs.Fences as fences
use Rattle.cluster_model.specs.Server.{ServerState, Caller, restart_of}
use Rattle.cluster_model.specs.DsCalls.{DsCallValue, Create, SetAttr, Write, Commit, Read, ds_step}
use Rattle.cluster_model.specs.GuardLaws.{IsInOrder, WasAsked, MayCome, Follows, CallLaws, RestartLaws}
use Rattle.copy_rule.specs.Copies.{CopyState, CopyCall, target_call, target_call_at}
use Rattle.copy_rule.specs.Copies as copy
use Rattle.copy_rule.specs.declared.copy_target.CopyTarget.{CopyTarget}
use Rattle.file_rule.specs.declared.creation.Creation.{Creation}
use Rattle.file_rule.specs.MdsFiles.{Creations, Activity, Idle, Makes, Fences, Settles, Copies, MdsFile, FileStep}
use Rattle.file_rule.specs.FilePhases.{FileInput, CallOut, call_out, call_out_of, create_out, create_out_at, creation_waiting, fence_out, settle_out, copy_out, phase}
use Rattle.cluster_laws.specs.Machine.{PacketValue, Call, Reply, Machine, numbered_at, file_id, fresh_of, caller_by, may_use, may_number, with_server, served}
use Rattle.cluster_laws.specs.Periods.{user_in, user_when_free, first_owner, AreAlike}
use Rattle.cluster_laws.proofs.Facts.{AllFollow, Bears, OwnedFrom}
use Rattle.cluster_laws.proofs.Lives.{own_file}
use Rattle.cluster_laws.proofs.Lists.{all_append, all_more, all_at, put_same, put_other, same_numbered}
use Rattle.cluster_laws.proofs.Invariant.{IsCallOf, IsPacket, IsInFence, IsMirrorOf, KeepsOwner, IsFile, IsBusyWith, is_idle, net_of, Holds}
use Rattle.cluster_laws.proofs.CallsOut.{mds_call}
use Rattle.cluster_laws.proofs.Journals.{copy_append}
use Rattle.cluster_laws.proofs.KnownNow.{known_now, stands, id_by}
use Rattle.cluster_laws.proofs.PeriodFacts.{AreInPlace, user_then}
use Rattle.cluster_laws.proofs.PeriodStates.{IsActive, PeriodOk, PeriodRow, Plain as PlainPeriod, Draws as DrawsPeriod, IsPeriod}
use Rattle.cluster_laws.proofs.PeriodPhases.{phase_row}
use Rattle.machine_walk.proofs.Stories.{Story, IsMoment}
use Rattle.machine_walk.proofs.MoveCases.{Drew, DrewNone, DrewOne, after_step, after_call, IsStepBy}
use Rattle.machine_walk.proofs.Placed.{files_set, IfCall, its_call}
use Rattle.sound_runs.proofs.CallLayouts.{layout_kept}
use Rattle.machine_walk.proofs.StepsByKind.{phase_kind}
use Rattle.held_mirrors.proofs.SettledSteps.{is_settled, SettledStep, Remains, IsFencedNow, IsMadeNow, IsUnsettled, MakesTo, FencesTo, TopIs, settles}
use Rattle.held_mirrors.proofs.Owning.{OwnsFile, GivesAtMost, AsksAtMost, IsOwned, AreOwned, KnowsOwned, by_fence, by_making, one_home, came_so}

never : false ≡ true → ⊥
never e = absurd cc

-- ---- what a file does

idle_settled : (phase : LayoutPhase) → is_idle phase ≡ true → is_settled phase ≡ true
idle_settled Making is = is
idle_settled Free is = refl
idle_settled (Held holder is_recalled) is = refl
idle_settled (Fencing next end) is = is
idle_settled (Settling copies) is = refl
idle_settled (Copying copier copies) is = refl

module _ (t : Story) (m : Machine) (journal : List Entry) (at : IsMoment t m journal) (p : KnowsOwned m) where
  top_is : (n : ℕ) (s : LayoutState) (a : Activity) → IsBusyWith (net_of m t.drawn) journal n s a → TopIs (t.drawn.top n) s a
  top_is n s Idle busy = idle_settled s.phase busy
  top_is n s (Makes all) busy = record { top_is = busy.least; owner = busy.owner; phase = busy.phase }
  top_is n s (Fences fence) busy = record { top_is = busy.top; next = busy.next; end = busy.end; phase = busy.phase }
  top_is n s (Settles stage) busy = ap is_settled busy.phase
  top_is n s (Copies c) busy = ap is_settled busy.phase

  -- a file that is made has no user before
  no_user : (n : ℕ) (s : LayoutState) (a : Activity) → IsBusyWith (net_of m t.drawn) journal n s a → IsActive at.fenced m.next_uid journal n s a → s.phase ≡ Making → user_in journal (file_id n) ≡ None
  no_user n s Idle busy active making = absurd (never (sym (ap is_idle making) ∙ busy))
  no_user n s (Makes all) busy active making = active.user
  no_user n s (Fences fence) busy active making = let wrong : Making ≡ Fencing busy.next busy.end = sym making ∙ busy.phase in absurd cc
  no_user n s (Settles stage) busy active making = let wrong : Making ≡ Settling busy.copies = sym making ∙ busy.phase in absurd cc
  no_user n s (Copies c) busy active making = let wrong : Making ≡ Copying busy.copier busy.copies = sym making ∙ busy.phase in absurd cc

  -- whose the mirrors are when it is made
  all_alike : (ids : List MirrorId) (uid : ℕ) → AreAlike journal ids → first_owner journal ids ≡ Some uid → AllByRecursion (λ (i : MirrorId). (content_of journal i).owner ≡ uid) ids
  all_alike [] uid alike first = tt
  all_alike (i ∷ ids) uid alike first =
      let mine : (content_of journal i).owner ≡ uid = same_Some (content_of journal i).owner uid first in
      (mine, all_more (λ (k : MirrorId). (content_of journal k).owner ≡ (content_of journal i).owner) (λ (k : MirrorId). (content_of journal k).owner ≡ uid) ids (λ k is. is ∙ mine) alike)

  -- ---- a step of a file

  module _ (n : ℕ) (f : MdsFile) (input : FileInput) (there : numbered_at m.files n ≡ Some f) where
    abbrev x : FileStep
    x = phase (file_id n) f input (fresh_of m)

    kind : SettledStep n (t.drawn.top n) f.layout x
    kind = settles n (fresh_of m) input (t.drawn.top n) (phase_kind n (fresh_of m) (net_of m t.drawn) journal f (at.holds.files n f there) input) (top_is n f.layout f.activity (at.holds.files n f there).busy)

    -- the fence's entry says whose the mirrors are
    owned_by_entry : (live : List MirrorId) (old cred : Cred) (front rest : List Entry) (y : Mirror) (k : List Entry) → k ≡ front ++ entry.Fenced (file_id n) old cred live ∷ rest → AllByRecursion (KeepsOwner m.servers n y.id) k → OwnedFrom m.servers y.id cred.0
    owned_by_entry live old cred front rest y k is all = at_entry front (subst (AllByRecursion (KeepsOwner m.servers n y.id)) is all)
      where
        at_entry : (front : List Entry) → AllByRecursion (KeepsOwner m.servers n y.id) (front ++ entry.Fenced (file_id n) old cred live ∷ rest) → OwnedFrom m.servers y.id cred.0
        at_entry [] all = all.0 refl
        at_entry (e ∷ front) all = at_entry front all.1

    drew_none : (then : Story) → Drew t m journal n x then → x.uids ≡ 0 → then ≡ t
    drew_none then (DrewNone uids names) none = refl
    drew_none then (DrewOne uids) none = let wrong : 0 ≡ 1 = sym none ∙ uids in absurd cc

    behind_top : (then : Story) → Drew t m journal n x then → Holds (after_step m n x) (journal ++ x.entries) then.drawn → x.uids ≡ 0 → Holds (after_step m n x) (journal ++ x.entries) t.drawn
    behind_top then drew h none = subst (λ (s : Story). Holds (after_step m n x) (journal ++ x.entries) s.drawn) (drew_none then drew none) h

    its_file : (then : Story) → Holds (after_step m n x) (journal ++ x.entries) then.drawn → IsFile (net_of (after_step m n x) then.drawn) (journal ++ x.entries) n x.file
    its_file then h = h.files n x.file (put_same m.files n f x.file there)

    joined_owned : (live : List MirrorId) (old : Cred) (front rest : List Entry) → x.entries ≡ front ++ entry.Fenced (file_id n) old x.file.layout.cred live ∷ rest → (y : Mirror)
        → AllByRecursion (KeepsOwner m.servers n y.id) (journal ++ x.entries) → OwnedFrom m.servers y.id x.file.layout.cred.0
    joined_owned live old front rest is y all =
        owned_by_entry live old x.file.layout.cred (journal ++ front) rest y (journal ++ x.entries) (ap (λ (l : List Entry). journal ++ l) is ∙ sym (append_assoc journal front (entry.Fenced (file_id n) old x.file.layout.cred live ∷ rest))) all

    made_owners : IsStepBy t m journal n f input t → f.layout.phase ≡ Making → x.entries ≡ entry.Free (file_id n) (ids_of x.file.layout.live) ∷ [] → x.file.activity ≡ Idle
        → AllByRecursion (λ (i : MirrorId). (content_of journal i).owner ≡ x.file.layout.cred.0) (ids_of x.file.layout.live)
    made_owners by making is idle = by_row (phase_row (net_of m t.drawn) at.fenced n m.next_uid (length m.files) (length m.servers) journal (known_now m journal t.drawn at.holds) at.periods.below f (at.holds.files n f there) (at.periods.files n f there) input by.brought)
      where
        none : user_in journal (file_id n) ≡ None
        none = no_user n f.layout f.activity (at.holds.files n f there).busy (at.periods.files n f there).active making

        alike : AreAlike journal (ids_of x.file.layout.live)
        alike = (subst (AreInPlace journal) is by.place).0.alike none

        at_user : (user : Option ℕ) → user_in (journal ++ x.entries) (file_id n) ≡ user → first_owner journal (ids_of x.file.layout.live) ≡ user
        at_user user said =
            let one : user_in (journal ++ entry.Free (file_id n) (ids_of x.file.layout.live) ∷ []) (file_id n) ≡ first_owner journal (ids_of x.file.layout.live) =
            user_then (file_id n) journal (entry.Free (file_id n) (ids_of x.file.layout.live))
            ∙ (ap (λ (b : Bool). cond b (user_when_free journal (ids_of x.file.layout.live) (user_in journal (file_id n))) (user_in journal (file_id n))) (own_file (file_id n))
            ∙ ap (user_when_free journal (ids_of x.file.layout.live)) none) in
            sym one ∙ (ap (λ (l : List Entry). user_in (journal ++ l) (file_id n)) (sym is) ∙ said)

        by_active : (whose : ℕ → ℕ) (uid : ℕ) (a : Activity) → a ≡ Idle → IsActive whose uid (journal ++ x.entries) n x.file.layout a → user_in (journal ++ x.entries) (file_id n) ≡ Some x.file.layout.cred.0
        by_active whose uid a is active = (subst (IsActive whose uid (journal ++ x.entries) n x.file.layout) is active).fenced.user

        by_period : (whose : ℕ → ℕ) (uid : ℕ) → IsPeriod whose uid (journal ++ x.entries) n x.file → AllByRecursion (λ (i : MirrorId). (content_of journal i).owner ≡ x.file.layout.cred.0) (ids_of x.file.layout.live)
        by_period whose uid period = all_alike (ids_of x.file.layout.live) x.file.layout.cred.0 alike (at_user (Some x.file.layout.cred.0) (by_active whose uid x.file.activity idle period.active))

        by_row : PeriodOk at.fenced m.next_uid journal n x → AllByRecursion (λ (i : MirrorId). (content_of journal i).owner ≡ x.file.layout.cred.0) (ids_of x.file.layout.live)
        by_row (PlainPeriod uids row) = by_period at.fenced m.next_uid row.period
        by_row (DrawsPeriod uids row) = by_period _ (m.next_uid + 1) row.period

    -- the content of a mirror is not changed by a step of a file: the servers stay
    step_owned : (then : Story) → IsStepBy t m journal n f input then → SettledStep n (t.drawn.top n) f.layout x → is_settled x.file.layout.phase ≡ true → AreOwned m.servers m.packets x.file.layout.cred.0 (ids_of x.file.layout.live)
    step_owned then by (Remains was cred within) settled =
        subst (λ (u : ℕ). AreOwned m.servers m.packets u (ids_of x.file.layout.live)) (sym cred) (within (IsOwned m.servers m.packets f.layout.cred.0) (p n f there was))
    step_owned then by (IsFencedNow front old live rest top is none) settled =
        let h : Holds (after_step m n x) (journal ++ x.entries) t.drawn = behind_top then by.drew by.holds none in
        by_fence (after_step m n x) (journal ++ x.entries) t h n x.file.layout.cred.0 top x.file.layout.live (its_file t h).mirrors (λ y k. joined_owned live old front rest is y k.owned)
    step_owned then by (IsMadeNow making top is idle none) settled =
        let same : then ≡ t = drew_none then by.drew none in
        let by_t : IsStepBy t m journal n f input t = subst (IsStepBy t m journal n f input) same by in
        made_all by_t (made_owners by_t making is idle) top
      where
        made_all : IsStepBy t m journal n f input t → AllByRecursion (λ (i : MirrorId). (content_of journal i).owner ≡ x.file.layout.cred.0) (ids_of x.file.layout.live) → t.drawn.top n ≡ x.file.layout.cred.0
            → AreOwned m.servers m.packets x.file.layout.cred.0 (ids_of x.file.layout.live)
        made_all by_t owners top =
            by_making (after_step m n x) (journal ++ x.entries) t by_t.holds n x.file.layout.cred.0 top x.file.layout.live (its_file t by_t.holds).mirrors
            (all_more (λ (i : MirrorId). (content_of journal i).owner ≡ x.file.layout.cred.0) (λ (i : MirrorId). (content_of (journal ++ x.entries) i).owner ≡ x.file.layout.cred.0) (ids_of x.file.layout.live)
            (λ i owner. subst (λ (l : List Entry). (content_of (journal ++ l) i).owner ≡ x.file.layout.cred.0) (sym is) (free_content i owner)) owners)
          where
            free_content : (i : MirrorId) → (content_of journal i).owner ≡ x.file.layout.cred.0 → (content_of (journal ++ entry.Free (file_id n) (ids_of x.file.layout.live) ∷ []) i).owner ≡ x.file.layout.cred.0
            free_content i owner = ap (λ (c : Copy). c.owner) (copy_append i no_copy journal (entry.Free (file_id n) (ids_of x.file.layout.live) ∷ [])) ∙ owner
    step_owned then by (IsUnsettled is) settled = absurd (never (sym is ∙ settled))

    pub steps_owned : (then : Story) → IsStepBy t m journal n f input then → KnowsOwned (after_step m n x)
    steps_owned then by = files_set (λ k y. is_settled y.layout.phase ≡ true → AreOwned m.servers m.packets y.layout.cred.0 (ids_of y.layout.live)) m.files n f x.file there (step_owned then by kind) (λ k y other is settled. p k y is settled)

  -- ---- each mirror of a file

  each_live : (n : ℕ) (servers : List ServerState) (packets : List PacketValue) (uid : ℕ) (live : List Mirror) → AllByRecursion (IsMirrorOf (net_of m t.drawn) n journal) live → AreOwned m.servers m.packets uid (ids_of live)
      → ((y : Mirror) → IsMirrorOf (net_of m t.drawn) n journal y → IsOwned m.servers m.packets uid y.id → IsOwned servers packets uid y.id) → AreOwned servers packets uid (ids_of live)
  each_live n servers packets uid [] mirrors owned each = tt
  each_live n servers packets uid (y ∷ live) mirrors owned each = (each y mirrors.0 owned.0, each_live n servers packets uid live mirrors.1 owned.1 each)

  -- more packets, none of which gives a mirror away
  with_packet : (q : PacketValue) → ((uid : ℕ) (id : MirrorId) → AsksAtMost uid id q) → (k : ℕ) (f : MdsFile) → numbered_at m.files k ≡ Some f → is_settled f.layout.phase ≡ true → AreOwned m.servers (m.packets ++ q ∷ []) f.layout.cred.0 (ids_of f.layout.live)
  with_packet q asks k f there settled =
      each_live k m.servers (m.packets ++ q ∷ []) f.layout.cred.0 f.layout.live (at.holds.files k f there).mirrors (p k f there settled)
      (λ y mirror owned. record { owns = owned.owns; asked = all_append (AsksAtMost f.layout.cred.0 y.id) m.packets (q ∷ []) owned.asked (asks f.layout.cred.0 y.id, tt) })

  -- ---- a call that goes out

  module _ (n xid : ℕ) (f : MdsFile) (there : numbered_at m.files n ≡ Some f) (k : ℕ) (g : MdsFile) (at_k : numbered_at m.files k ≡ Some g) (settled : is_settled g.layout.phase ≡ true) (y : Mirror) (mirror : IsMirrorOf (net_of m t.drawn) k journal y) (uid : ℕ) where
    abbrev Goes : CallOut → Type 0
    Goes c = GivesAtMost uid y.id c.server c.call

    making_goes : (all : Creations) (found : Option ℕ) → IfCall Goes (create_out (record { layout = f.layout; activity = Makes all }) all xid found)
    making_goes all None = tt
    making_goes all (Some place) = at_one (slice_get all.items place)
      where
        at_one : (got : Option Creation) → IfCall Goes (create_out_at (record { layout = f.layout; activity = Makes all }) all xid place got)
        at_one None = tt
        at_one (Some c) = tt

    fencing_goes : (fence : FenceState) (next : Cred) → (end : _) → f.layout.phase ≡ Fencing next end → AllByRecursion (IsInFence (net_of m t.drawn) n fence.cred) fence.mirrors → (found : Option ℕ)
        → IfCall Goes (fence_out (record { layout = f.layout; activity = Fences fence }) (fences.call_from fence xid found))
    fencing_goes fence next end fencing all None = tt
    fencing_goes fence next end fencing all (Some place) = at_one (slice_get fence.mirrors place) refl
      where
        at_one : (got : Option FenceMirror) → slice_get fence.mirrors place ≡ got → IfCall Goes (fence_out (record { layout = f.layout; activity = Fences fence }) (fences.fence_call_at fence xid place got))
        at_one None is = tt
        at_one (Some z) is = λ server fileid.
            let i = all_at (IsInFence (net_of m t.drawn) n fence.cred) fence.mirrors place z all is in
            let one : z.id ≡ y.id = id_by z.id y.id.server y.id.fileid server fileid in
            let home : n ≡ k = one_home m journal t at.holds n k y.id i.name mirror.name (subst (λ (d : MirrorId). Bears m.servers d i.name) one i.bears) mirror.bears i.drawn mirror.drawn i.home mirror.home in
            let same : f ≡ g = same_numbered m.files k f g (subst (λ (j : ℕ). numbered_at m.files j ≡ Some f) home there) at_k in
            absurd (never (sym (ap is_settled fencing) ∙ (ap (λ (h : MdsFile). is_settled h.layout.phase) same ∙ settled)))

    settling_goes : (stage : _) (live : List Mirror) → IfCall Goes (settle_out (record { layout = f.layout; activity = Settles stage }) xid live)
    settling_goes stage [] = tt
    settling_goes stage (z ∷ live) = tt

    copying_goes : (c : CopyState) (found : Option ℕ) → IfCall Goes (copy_out (record { layout = f.layout; activity = Copies c }) (copy.call_from c xid found))
    copying_goes c None =
        cond_both (waits c.read && copy.may_read_on c) (Some (record { copy = copy.with_read c _; server = c.source.server; uid = 0; call = Read c.source.fileid c.at _ })) None
        (λ (o : Option CopyCall). IfCall Goes (copy_out (record { layout = f.layout; activity = Copies c }) o)) (λ e. tt) (λ e. tt)
    copying_goes c (Some place) = at_one (slice_get c.targets place)
      where
        by_made : (server name : ℕ) (made : Option Mirror) → GivesAtMost uid y.id server (target_call c.copier c.at c.piece name made)
        by_made server name None = tt
        by_made server name (Some z) = tt

        at_one : (got : Option CopyTarget) → IfCall Goes (copy_out (record { layout = f.layout; activity = Copies c }) (target_call_at c xid place got))
        at_one None = tt
        at_one (Some z) = by_made z.server z.name z.made

    goes : (a : Activity) → IsBusyWith (net_of m t.drawn) journal n f.layout a → IfCall Goes (call_out_of (record { layout = f.layout; activity = a }) xid a)
    goes Idle busy = tt
    goes (Makes all) busy = making_goes all (creation_waiting all)
    goes (Fences fence) busy = fencing_goes fence busy.next busy.end busy.phase busy.mirrors (fences.waiting_at fence)
    goes (Settles stage) busy = cond_both (waits stage) (settle_out (record { layout = f.layout; activity = Settles stage }) xid f.layout.live) None (IfCall Goes) (λ e. settling_goes stage f.layout.live) (λ e. tt)
    goes (Copies c) busy = copying_goes c (copy.waiting_at c)

  pub calls_owned : (n xid : ℕ) (f : MdsFile) (c : CallOut) → numbered_at m.files n ≡ Some f → call_out f xid ≡ Some c → KnowsOwned (after_call m n xid c)
  calls_owned n xid f c there out = files_set (λ k g. is_settled g.layout.phase ≡ true → AreOwned m.servers (m.packets ++ mds_call xid c ∷ []) g.layout.cred.0 (ids_of g.layout.live)) m.files n f c.file there (λ settled. its_own settled) (λ k g other is settled. behind k g is settled)
    where
      behind : (k : ℕ) (g : MdsFile) → numbered_at m.files k ≡ Some g → is_settled g.layout.phase ≡ true → AreOwned m.servers (m.packets ++ mds_call xid c ∷ []) g.layout.cred.0 (ids_of g.layout.live)
      behind k g is settled =
          each_live k m.servers (m.packets ++ mds_call xid c ∷ []) g.layout.cred.0 g.layout.live (at.holds.files k g is).mirrors (p k g is settled)
          (λ y mirror owned. record {
            owns = owned.owns;
            asked = all_append (AsksAtMost g.layout.cred.0 y.id) m.packets (mds_call xid c ∷ []) owned.asked
                (its_call (λ (o : CallOut). GivesAtMost g.layout.cred.0 y.id o.server o.call) (call_out f xid) c (goes n xid f there k g is settled y mirror g.layout.cred.0 f.activity (at.holds.files n f there).busy) out, tt);
          })

      its_own : is_settled c.file.layout.phase ≡ true → AreOwned m.servers (m.packets ++ mds_call xid c ∷ []) c.file.layout.cred.0 (ids_of c.file.layout.live)
      its_own settled =
          let same : c.file.layout ≡ f.layout = layout_kept f xid c out in
          subst (λ (s : LayoutState). AreOwned m.servers (m.packets ++ mds_call xid c ∷ []) s.cred.0 (ids_of s.live)) (sym same) (behind n f there (subst (λ (s : LayoutState). is_settled s.phase ≡ true) same settled))

  -- ---- a data server

  -- what it has of a mirror
  server_owned : (n : ℕ) (s new : ServerState) (packets : List PacketValue) → numbered_at m.servers n ≡ Some s
      → ((uid : ℕ) (id : MirrorId) (index : ℕ) (file : StoredFile) → n ≡ id.server → id.fileid ≡ index + 2 → slice_get s.files index ≡ Some file → file.owner ≡ uid → AllByRecursion (AsksAtMost uid id) m.packets
      → (later : StoredFile) × (slice_get new.files index ≡ Some later) × (later.owner ≡ uid))
      → ((uid : ℕ) (id : MirrorId) → AllByRecursion (AsksAtMost uid id) m.packets → AllByRecursion (AsksAtMost uid id) packets)
      → (k : ℕ) (f : MdsFile) → numbered_at m.files k ≡ Some f → is_settled f.layout.phase ≡ true → AreOwned (set m.servers (n - 1) new) packets f.layout.cred.0 (ids_of f.layout.live)
  server_owned n s new packets at_n keeps more k f there settled =
      each_live k (set m.servers (n - 1) new) packets f.layout.cred.0 f.layout.live (at.holds.files k f there).mirrors (p k f there settled) (λ y mirror owned. record { owns = owns_now f.layout.cred.0 y.id owned; asked = more f.layout.cred.0 y.id owned.asked })
    where
      owns_now : (uid : ℕ) (id : MirrorId) → IsOwned m.servers m.packets uid id → OwnsFile (set m.servers (n - 1) new) uid id
      owns_now uid id owned =
          let o = owned.owns in
          elim (cases_eq id.server n) [
            | inl same ↦
                let its : o.server ≡ s = same_numbered m.servers n o.server s (subst (λ (j : ℕ). numbered_at m.servers j ≡ Some o.server) same o.there) at_n in
                let l = keeps uid id o.index o.file (sym same) o.place (ap (λ (z : ServerState). slice_get z.files o.index) (sym its) ∙ o.is) o.owner owned.asked in
                record {
                  server = new;
                  there = ap (numbered_at (set m.servers (n - 1) new)) same ∙ put_same m.servers n s new at_n;
                  index = o.index;
                  place = o.place;
                  file = l.0;
                  is = l.1;
                  owner = l.2;
                }
            | inr other ↦ record { server = o.server; there = put_other m.servers n id.server s new at_n other ∙ o.there; index = o.index; place = o.place; file = o.file; is = o.is; owner = o.owner }
          ]

  module _ (calls : (s : ServerState) (caller : Caller) (call : DsCallValue) → IsInOrder s → CallLaws s caller call (ds_step s caller call).server (ds_step s caller call).reply (ds_step s caller call).entries) where
    may_come : (n : ℕ) (s : ServerState) → numbered_at m.servers n ≡ Some s → (c : DsCallValue) → IsCallOf t.drawn m.servers m.next_name n c → MayCome s c
    may_come n s there (Create name owner) k = tt
    may_come n s there (SetAttr fileid owner guard) k = subst (λ (z : ServerState). WasAsked z fileid owner guard) (same_numbered m.servers n k.asked.server s k.asked.there there) k.asked.asked
    may_come n s there (Write fileid at synced bytes) k = tt
    may_come n s there (Commit fileid) k = tt
    may_come n s there (Read fileid at count) k = tt

    pub serves_owned : (place : ℕ) (from : NodeId) (n xid uid gid : ℕ) (call : DsCallValue) (s : ServerState) → slice_get m.packets place ≡ Some (Call from n xid uid gid call) → numbered_at m.servers n ≡ Some s
        → KnowsOwned (served m place from n xid (ds_step s (caller_by uid gid) call)).machine
    serves_owned place from n xid uid gid call s sent there =
        let laws = calls s (caller_by uid gid) call (at.holds.servers n s there).in_order in
        let is_call : IsCallOf t.drawn m.servers m.next_name n call = (all_at (IsPacket (net_of m t.drawn)) m.packets place (Call from n xid uid gid call) at.holds.packets sent).1 in
        let follows : Follows s (ds_step s (caller_by uid gid) call).server = laws.follows (may_come n s there call is_call) in
        server_owned n s (ds_step s (caller_by uid gid) call).server (m.packets ++ Reply place n from xid (ds_step s (caller_by uid gid) call).reply ∷ []) there
        (λ u id index file at_id fileid is owner asked.
        let l = follows.owners index file is in
        let gives : GivesAtMost u id n call = all_at (AsksAtMost u id) m.packets place (Call from n xid uid gid call) asked sent in
        (l.0, l.1, came_so s (ds_step s (caller_by uid gid) call).server u id n follows call index l.0 at_id fileid gives file is owner l.2 (laws.came index l.0 l.1)))
        (λ u id asked. all_append (AsksAtMost u id) m.packets (Reply place n from xid (ds_step s (caller_by uid gid) call).reply ∷ []) asked (tt, tt))

  pub restarts_owned : (restarts : (s : ServerState) (pieces : List Piece) (new : ServerState) → restart_of s pieces ≡ Some new → IsInOrder s → RestartLaws s pieces new) (n : ℕ) (pieces : List Piece) (s new : ServerState)
      → numbered_at m.servers n ≡ Some s → restart_of s pieces ≡ Some new → KnowsOwned (with_server m n new m.packets)
  restarts_owned restarts n pieces s new there is =
      let laws = restarts s pieces new is (at.holds.servers n s there).in_order in
      server_owned n s new m.packets there
      (λ u id index file at_id fileid file_is owner asked.
      let l = laws.follows.owners index file file_is in
      let old = laws.owners index l.0 l.1 in
      let same : old.0 ≡ file = same_Some old.0 file (sym old.1 ∙ file_is) in
      (l.0, l.1, old.2 ∙ (ap (λ (z : StoredFile). z.owner) same ∙ owner)))
      (λ u id asked. asked)

  pub again_owned : (place : ℕ) (q : PacketValue) → slice_get m.packets place ≡ Some q → (k : ℕ) (f : MdsFile) → numbered_at m.files k ≡ Some f → is_settled f.layout.phase ≡ true → AreOwned m.servers (m.packets ++ q ∷ []) f.layout.cred.0 (ids_of f.layout.live)
  again_owned place q there k f is settled =
      each_live k m.servers (m.packets ++ q ∷ []) f.layout.cred.0 f.layout.live (at.holds.files k f is).mirrors (p k f is settled)
      (λ y mirror owned. record { owns = owned.owns; asked = all_append (AsksAtMost f.layout.cred.0 y.id) m.packets (q ∷ []) owned.asked (all_at (AsksAtMost f.layout.cred.0 y.id) m.packets place q owned.asked there, tt) })

  used_gives : (call : DsCallValue) → may_use call ≡ true → (uid : ℕ) (id : MirrorId) (server : ℕ) → GivesAtMost uid id server call
  used_gives (Create name owner) may uid id server = tt
  used_gives (SetAttr fileid owner guard) may uid id server = absurd (never may)
  used_gives (Write fileid at synced bytes) may uid id server = tt
  used_gives (Commit fileid) may uid id server = tt
  used_gives (Read fileid at count) may uid id server = tt

  pub uses_owned : (node : NodeId) (n xid uid gid : ℕ) (call : DsCallValue) → may_use call ≡ true → (k : ℕ) (f : MdsFile) → numbered_at m.files k ≡ Some f → is_settled f.layout.phase ≡ true
      → AreOwned m.servers (m.packets ++ Call node n xid uid gid call ∷ []) f.layout.cred.0 (ids_of f.layout.live)
  uses_owned node n xid uid gid call may = with_packet (Call node n xid uid gid call) (λ u id. used_gives call may u id n)
