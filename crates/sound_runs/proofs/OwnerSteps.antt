-- Each kind of move keeps whose each data file is, and a write at a live mirror finds a user of the mirror's file.
use Rattle.std.proofs.Common.{◌≡◌, ℕ, ◌+◌, ◌<◌, ◌⊎◌, Bool, true, false, ◌&&◌, ◌||◌, cond, List, [], ◌∷◌, ◌++◌, Option, Some, None, refl, sym, ap, subst, ◌∙◌, inl, inr, arith}
use Rattle.std.specs.Prelude.{slice_get}
use Rattle.std.specs.List.{AllByRecursion, list_any}
use Rattle.std.proofs.lemmas.Bool.{cond_both, eqb-true}
use Rattle.cluster_model.specs.declared.ids.FileId.{FileId}
use Rattle.cluster_model.specs.declared.ids.Cred.{Cred}
use Rattle.cluster_model.specs.declared.ids.MirrorId.{MirrorId}
use Rattle.cluster_model.specs.declared.ids.Mirror.{Mirror}
use Rattle.cluster_model.specs.declared.fence_mirror.FenceMirror.{FenceMirror}
use Rattle.cluster_model.specs.declared.entry.Entry.{Entry}
use Rattle.cluster_model.specs.declared.entry.Entry.TheVariants as entry
use Rattle.cluster_model.specs.declared.layout_state.LayoutState.{LayoutState}
use Rattle.cluster_model.specs.declared.layout_state.LayoutPhase.{LayoutPhase}
use Rattle.cluster_model.specs.declared.layout_state.LayoutPhase.TheVariants.{Making, Free, Held, Fencing, Settling, Copying}
use Rattle.cluster_model.specs.Journal.{Copy, is_mirror, content_of}
use Rattle.cluster_model.specs.Phases.{ids_of}
use Rattle.cluster_model.specs.Fences.{waits, next_call, fence_call_at, FenceState}
use Rattle.cluster_model.specs.Fences as fences
use Rattle.cluster_model.specs.Server.{ServerState, mirror_of}
use Rattle.cluster_model.specs.DsCalls.{Read}
use Rattle.copy_rule.specs.Copies.{CopyState, CopyCall, target_call, target_call_at}
use Rattle.copy_rule.specs.Copies as copy
use Rattle.copy_rule.specs.declared.copy_target.CopyTarget.{CopyTarget}
use Rattle.file_rule.specs.declared.creation.Creation.{Creation}
use Rattle.file_rule.specs.MdsFiles.{Creations, Activity, Idle, Makes, Fences, Settles, Copies, MdsFile, FileStep}
use Rattle.file_rule.specs.FilePhases.{FileInput, CallOut, call_out_of, create_out, create_out_at, creation_waiting, fence_out, settle_out, copy_out, phase}
use Rattle.cluster_laws.specs.Machine.{Machine, numbered_at, file_id, fresh_of}
use Rattle.cluster_laws.specs.FenceLaw.{is_file, live_in, is_among}
use Rattle.cluster_laws.specs.Periods.{was_granted}
use Rattle.cluster_laws.proofs.Lists.{all_at, same_numbered}
use Rattle.cluster_laws.proofs.Invariant.{IsFile, IsInFence, IsMirrorOf, live_of, net_of}
use Rattle.cluster_laws.proofs.KnownNow.{all_stand, known_now, id_by}
use Rattle.cluster_laws.proofs.PeriodFacts.{granted_in}
use Rattle.cluster_laws.proofs.PeriodStates.{IsMine}
use Rattle.machine_walk.proofs.Stories.{Story, begun_copy, IsOnward, IsMoment}
use Rattle.machine_walk.proofs.MoveCases.{Drew, DrewNone, DrewOne, after_step, IsStepBy}
use Rattle.machine_walk.proofs.Placed.{IfCall}
use Rattle.machine_walk.proofs.StepKinds.{IsTakenWith, NoWrite, OneWrite, StepKind}
use Rattle.machine_walk.proofs.StepsByKind.{phase_kind}
use Rattle.machine_walk.proofs.Writers.{HasUids, IsSilent, IsGrantOf, grant_or}
use Rattle.machine_walk.proofs.WriterFacts.{KnowsWriters}
use Rattle.machine_walk.proofs.WriterSteps.{drew_on}
use Rattle.sound_runs.proofs.ViewFolds.{users_after, users_by, users_of, users_append}
use Rattle.sound_runs.proofs.StaySo.{same_mirror}
use Rattle.sound_runs.proofs.OnceGranted.{IsUser}
use Rattle.sound_runs.proofs.Owners.{IsOwnCall, IsOwnPacket, AreOwn, KnowsOwners, own_packets_on, servers_on, names_drawn, some_file}

-- ---- users behind the entries of a step

silent_one : (f : FileId) (us : List ℕ) (e : Entry) → granted_in e ≡ None → users_after f us e ≡ us
silent_one f us (entry.Granted file cred holder) h = absurd cc
silent_one f us _ h = refl

silent_users : (f : FileId) (us : List ℕ) (es : List Entry) → AllByRecursion IsSilent es → users_by f us es ≡ us
silent_users f us [] h = refl
silent_users f us (e ∷ es) h = ap (λ (x : List ℕ). users_by f x es) (silent_one f us e h.0.grant) ∙ silent_users f us es h.1

writes_users : (n : ℕ) (cred : Cred) (f : FileId) (us writes : List _) → IsTakenWith n cred writes → users_by f us writes ≡ us
writes_users n cred f us writes NoWrite = refl
writes_users n cred f us writes (OneWrite at bytes) = refl

module _ (t : Story) (uid n : ℕ) (s : LayoutState) (f : FileId) (us : List ℕ) (es : List Entry) where
  -- an old user, or one of the file's own uids
  pub user_then : IsGrantOf t uid n s es ⊎ AllByRecursion IsSilent es → (u : ℕ) → IsUser u (users_by f us es) → IsUser u us ⊎ ((n ≡ f.0) × IsMine t.whose uid n u)
  user_then (inl g) u i = by_file (is_file (file_id n) f) refl (subst (IsUser u) (ap (users_by f us) g.is ∙ writes_users n g.cred f (users_after f us (entry.Granted (file_id n) g.cred g.holder)) g.writes g.taken) i)
    where
      by_file : (b : Bool) → is_file (file_id n) f ≡ b → IsUser u (cond b (g.cred.0 ∷ us) us) → IsUser u us ⊎ ((n ≡ f.0) × IsMine t.whose uid n u)
      by_file true is (inl e) = inr (eqb-true n f.0 is, subst (IsMine t.whose uid n) e g.plain.mine)
      by_file true is (inr k) = inl k
      by_file false is k = inl k
  user_then (inr silent) u i = inl (subst (IsUser u) (silent_users f us es silent) i)

-- ---- a call that goes out

module _ (t : Story) (m : Machine) (journal : List Entry) (n xid : ℕ) (s : LayoutState) where
  abbrev Goes : CallOut → Type 0
  Goes c = IsOwnCall t m.servers m.next_uid m.next_name c.server c.call

  making_goes : (all : Creations) (found : Option ℕ) → IfCall Goes (create_out (record { layout = s; activity = Makes all }) all xid found)
  making_goes all None = tt
  making_goes all (Some place) = at_one (slice_get all.items place)
    where
      at_one : (got : Option Creation) → IfCall Goes (create_out_at (record { layout = s; activity = Makes all }) all xid place got)
      at_one None = tt
      at_one (Some c) = tt

  fencing_goes : (fence : FenceState) → IsMine t.whose m.next_uid n fence.cred → AllByRecursion (IsInFence (net_of m t.drawn) n fence.cred) fence.mirrors → (found : Option ℕ) → IfCall Goes (fence_out (record { layout = s; activity = Fences fence }) (fences.call_from fence xid found))
  fencing_goes fence mine all None = tt
  fencing_goes fence mine all (Some place) = at_one (slice_get fence.mirrors place) refl
    where
      at_one : (got : Option FenceMirror) → slice_get fence.mirrors place ≡ got → IfCall Goes (fence_out (record { layout = s; activity = Fences fence }) (fence_call_at fence xid place got))
      at_one None is = tt
      at_one (Some x) is =
          let k = all_at (IsInFence (net_of m t.drawn) n fence.cred) fence.mirrors place x all is in
          record { name = k.name; drawn = k.drawn; bears = k.bears; whose = mine.mine ∙ sym k.home; less = mine.drawn }

  settling_goes : (stage : _) (live : List Mirror) → IfCall Goes (settle_out (record { layout = s; activity = Settles stage }) xid live)
  settling_goes stage [] = tt
  settling_goes stage (x ∷ live) = tt

  copying_goes : (c : CopyState) (found : Option ℕ) → IfCall Goes (copy_out (record { layout = s; activity = Copies c }) (copy.call_from c xid found))
  copying_goes c None =
      cond_both (waits c.read && copy.may_read_on c) (Some (record { copy = copy.with_read c _; server = c.source.server; uid = 0; call = Read c.source.fileid c.at _ })) None
      (λ (o : Option CopyCall). IfCall Goes (copy_out (record { layout = s; activity = Copies c }) o)) (λ e. tt) (λ e. tt)
  copying_goes c (Some place) = at_one (slice_get c.targets place)
    where
      by_made : (server name : ℕ) (made : Option Mirror) → IsOwnCall t m.servers m.next_uid m.next_name server (target_call c.copier c.at c.piece name made)
      by_made server name None = tt
      by_made server name (Some x) = tt

      at_one : (got : Option CopyTarget) → IfCall Goes (copy_out (record { layout = s; activity = Copies c }) (target_call_at c xid place got))
      at_one None = tt
      at_one (Some x) = by_made x.server x.name x.made

  pub own_goes : (a : Activity) → HasUids t m.next_uid n s a → IsFile (net_of m t.drawn) journal n (record { layout = s; activity = a }) → IfCall Goes (call_out_of (record { layout = s; activity = a }) xid a)
  own_goes Idle h file = tt
  own_goes (Makes all) h file = making_goes all (creation_waiting all)
  own_goes (Fences fence) h file = fencing_goes fence h.new.mine file.busy.mirrors (fences.waiting_at fence)
  own_goes (Settles stage) h file = cond_both (waits stage) (settle_out (record { layout = s; activity = Settles stage }) xid s.live) None (IfCall Goes) (λ e. settling_goes stage s.live) (λ e. tt)
  own_goes (Copies c) h file = copying_goes c (copy.waiting_at c)

-- ---- moments

module _ (t : Story) (m : Machine) (journal : List Entry) (at : IsMoment t m journal) (w : KnowsWriters t m journal) (p : KnowsOwners t m journal) where
  -- a step of a file
  pub owners_step : (n : ℕ) (f : MdsFile) (input : FileInput) (then : Story) → IsStepBy t m journal n f input then → KnowsOwners then (after_step m n (phase (file_id n) f input (fresh_of m))) (journal ++ (phase (file_id n) f input (fresh_of m)).entries)
  owners_step n f input then by =
      let x : FileStep = phase (file_id n) f input (fresh_of m) in
      let on : IsOnward t m.next_uid m.next_name then = drew_on t m journal n x then by.drew in
      let kind : StepKind n (fresh_of m) input f.layout f.activity x = phase_kind n (fresh_of m) (net_of m t.drawn) journal f (at.holds.files n f by.there) input in
      let grant = grant_or n (fresh_of m) input t m.next_uid kind (w.files n f by.there) in
      record {
        names = by_drew then by.drew;
        packets = own_packets_on t m.servers m.next_uid m.next_name then m.servers (m.next_uid + x.uids) (m.next_name + x.names) on (all_stand m journal t.drawn at.holds) (omega arith) (omega arith) m.packets p.packets;
        servers = servers_on t m journal at.holds p then (m.next_name + x.names) by.holds.few_names on;
        granted = λ g u i. granted on g u (user_then t m.next_uid n f.layout g (users_of journal g) x.entries grant u (subst (IsUser u) (users_append g [] journal x.entries) i));
      }
    where
      granted : {then : Story} → IsOnward t m.next_uid m.next_name then → (g : FileId) (u : ℕ) → IsUser u (users_of journal g) ⊎ ((n ≡ g.0) × IsMine t.whose m.next_uid n u) → (then.whose u ≡ g.0) × (u < m.next_uid + (phase (file_id n) f input (fresh_of m)).uids)
      granted on g u (inl i) = let old = p.granted g u i in let less = old.1 in (on.whose u old.1 ∙ old.0, omega (arith, less))
      granted on g u (inr k) = let less = k.1.drawn in (on.whose u k.1.drawn ∙ (k.1.mine ∙ k.0), omega (arith, less))

      by_drew : (last : Story) → Drew t m journal n (phase (file_id n) f input (fresh_of m)) last → (k : ℕ) → k < m.next_name + (phase (file_id n) f input (fresh_of m)).names → last.whose (last.drawn.low k) ≡ last.drawn.home k
      by_drew last (DrewNone uids names) k less = p.names k (omega (arith, less, names))
      by_drew last (DrewOne uids) k less = names_drawn t m journal at.holds p n (begun_copy journal n (phase (file_id n) f input (fresh_of m)).file.activity) k

  -- other packets, servers or files
  pub owners_same : (next : Machine) → next.next_uid ≡ m.next_uid → next.next_name ≡ m.next_name → (es : List Entry) → ((f : FileId) → users_of (journal ++ es) f ≡ users_of journal f) → AllByRecursion (IsOwnPacket t next.servers m.next_uid m.next_name) next.packets
      → ((n : ℕ) (s : ServerState) → numbered_at next.servers n ≡ Some s → AreOwn t m.next_name s) → KnowsOwners t next (journal ++ es)
  owners_same next uids names es same packets servers = record {
    names = λ k less. p.names k (omega (arith, less, names));
    packets = subst (λ (u : ℕ). AllByRecursion (IsOwnPacket t next.servers u next.next_name) next.packets) (sym uids) (subst (λ (k : ℕ). AllByRecursion (IsOwnPacket t next.servers m.next_uid k) next.packets) (sym names) packets);
    servers = λ n s is. subst (λ (k : ℕ). AreOwn t k s) (sym names) (servers n s is);
    granted = λ f u i. let old = p.granted f u (subst (IsUser u) (same f) i) in let less = old.1 in (old.0, omega (arith, less, uids));
  }

  -- ---- a live mirror that belongs to a user belongs to one of its file

  mirror_owner : (n : ℕ) (y : Mirror) → IsMirrorOf (net_of m t.drawn) n journal y → t.whose (content_of journal y.id).owner ≡ n
  mirror_owner n y k =
      let s : ServerState = k.bears.server in
      let on = at.holds.servers y.id.server s k.bears.there in
      let owned = (known_now m journal t.drawn at.holds).lowest y.id k.name k.bears k.drawn in
      let server : owned.server ≡ s = same_numbered m.servers y.id.server owned.server s owned.there k.bears.there in
      let one = owned.place in
      let two = k.bears.place in
      let index : owned.index ≡ k.bears.index = omega (arith, one, two) in
      let file : slice_get s.files k.bears.index ≡ Some owned.file = sym (ap (λ (x : ServerState). slice_get x.files owned.index) server ∙ ap (slice_get s.files) index) ∙ owned.is in
      let it : y.id ≡ mirror_of s k.bears.index = id_by y.id s.number (k.bears.index + 2) (sym on.number) k.bears.place in
      let told : (content_of journal y.id).owner ≡ owned.file.owner = ap (λ (i : MirrorId). (content_of journal i).owner) it ∙ sym (ap (λ (c : Copy). c.owner) (on.told.each k.bears.index owned.file file)) in
      ap t.whose told ∙ (p.servers y.id.server s k.bears.there k.bears.index owned.file k.name file k.bears.named k.drawn ∙ k.home)

  mirror_at : (n : ℕ) (live : List Mirror) → AllByRecursion (IsMirrorOf (net_of m t.drawn) n journal) live → (id : MirrorId) → list_any (λ k. is_mirror k id) (ids_of live) ≡ true → t.whose (content_of journal id).owner ≡ n
  mirror_at n [] all id e = absurd cc
  mirror_at n (y ∷ live) all id e = by_test (is_mirror y.id id) refl e (mirror_at n live all.1 id)
    where
      by_test : (b : Bool) → is_mirror y.id id ≡ b → (b || list_any (λ k. is_mirror k id) (ids_of live)) ≡ true → (list_any (λ k. is_mirror k id) (ids_of live) ≡ true → t.whose (content_of journal id).owner ≡ n) → t.whose (content_of journal id).owner ≡ n
      by_test true is on rest = subst (λ (k : MirrorId). t.whose (content_of journal k).owner ≡ n) (same_mirror y.id id is) (mirror_owner n y all.0)
      by_test false is on rest = rest on

  among_phase : (q : LayoutPhase) (ids : List MirrorId) (id : MirrorId) → is_among id (live_of q ids) ≡ true → list_any (λ k. is_mirror k id) ids ≡ true
  among_phase Making ids id e = absurd cc
  among_phase Free ids id e = e
  among_phase (Held holder is_recalled) ids id e = e
  among_phase (Fencing next end) ids id e = e
  among_phase (Settling copies) ids id e = e
  among_phase (Copying copier copies) ids id e = e

  pub own_live : (f : FileId) (g : MdsFile) → numbered_at m.files f.0 ≡ Some g → (id : MirrorId) → is_among id (live_in journal f) ≡ true → was_granted journal (content_of journal id).owner ≡ true → IsUser (content_of journal id).owner (users_of journal f)
  own_live f g is id among granted =
      let file = at.holds.files f.0 g is in
      let whose : t.whose (content_of journal id).owner ≡ f.0 = mirror_at f.0 g.layout.live file.mirrors id (among_phase g.layout.phase (ids_of g.layout.live) id (sym (ap (is_among id) file.live) ∙ among)) in
      let some = some_file (λ k. []) journal (content_of journal id).owner granted in
      let same : some.0 ≡ f = ap (λ (k : ℕ). file_id k) (sym (p.granted some.0 (content_of journal id).owner some.1).0 ∙ whose) in
      subst (λ (k : FileId). IsUser (content_of journal id).owner (users_of journal k)) same some.1
