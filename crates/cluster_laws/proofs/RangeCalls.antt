-- Where the data servers are in range, each number of a call that goes out fits its field.
use Rattle.std.proofs.Common.{◌≡◌, ℕ, ◌^◌, ◌<◌, ◌≤◌, List, [], ◌∷◌, Option, Some, None, refl, subst, arith, inl, inr}
use Rattle.std.specs.Prelude.{slice_get, ◌&&◌}
use Rattle.std.specs.List.{AllByRecursion}
use Rattle.std.proofs.lemmas.Bool.{cond_both}
use Rattle.std.proofs.lemmas.Option.{slice_get_within}
use Rattle.cluster_model.specs.declared.tick.Tick.{Tick}
use Rattle.cluster_model.specs.declared.ids.MirrorId.{MirrorId}
use Rattle.cluster_model.specs.declared.ids.Mirror.{Mirror}
use Rattle.cluster_model.specs.declared.limits.TheConstants.{PIECE_SIZE}
use Rattle.cluster_model.specs.declared.entry.Entry.{Entry}
use Rattle.cluster_model.specs.declared.call_stage.CallStage.TheVariants.{Out}
use Rattle.cluster_model.specs.declared.fence_mirror.FenceMirror.{FenceMirror}
use Rattle.cluster_model.specs.declared.layout_state.LayoutState.{LayoutState}
use Rattle.cluster_model.specs.DsCalls.{Read, mirror_name}
use Rattle.cluster_model.specs.Fences.{FenceState, waits}
use Rattle.cluster_model.specs.Fences as fence
use Rattle.copy_rule.specs.declared.copy_target.CopyTarget.{CopyTarget}
use Rattle.copy_rule.specs.Copies.{CopyState, CopyCall, at_stage, with_target, with_read, may_read_on, target_call, target_caller, waiting_at, target_call_at, call_from}
use Rattle.file_rule.specs.declared.creation.Creation.{Creation}
use Rattle.file_rule.specs.MdsFiles.{Creations, Activity, Idle, Makes, Fences, Settles, Copies, MdsFile}
use Rattle.file_rule.specs.FilePhases.{end_of_uids, CallOut, creation_waiting, create_out_at, create_out, fence_out, settle_out, copy_out, call_out_of}
use Rattle.cluster_laws.specs.Machine.{Machine, Move, new_machine, journal_of}
use Rattle.cluster_laws.specs.FenceLaw.{new_servers}
use Rattle.cluster_laws.specs.RunBounds.{machine_of_run}
use Rattle.cluster_laws.specs.CallRanges.{AreServersInRange, IsCallInRange, CallsInRange, IsFileInRange, MirrorsInRange}
use Rattle.cluster_laws.proofs.Lists.{all_at, all_more}
use Rattle.cluster_laws.proofs.Facts.{Bears, HasGiven}
use Rattle.cluster_laws.proofs.Invariant.{Drawn, Net, IsCreationOf, IsTargetOf, IsInFence, IsMirrorOf, IsNamedSource, IsFile, net_of, Holds}
use Rattle.cluster_laws.proofs.FewRuns.{uids_end}

module _ (m : Machine) (journal : List Entry) (d : Drawn) (h : Holds m journal d) (uids : m.next_uid ≤ end_of_uids) (ranges : AreServersInRange m) where
  abbrev net : Net
  net = net_of m d

  -- ---- numbers

  -- a file's place is among those of its server
  fileid_fits : (id : MirrorId) (name : ℕ) → Bears m.servers id name → id.fileid < 2 ^ 64
  fileid_fits id name b =
      let room = (ranges id.server b.server b.there).files in
      let within = slice_get_within b.server.names b.index (mirror_name name) b.named in
      let size = (h.servers id.server b.server b.there).in_order.names in
      let place = b.place in
      omega (arith, room, within, size, place)

  source_fits : (id : MirrorId) → IsNamedSource m.servers id → id.fileid < 2 ^ 64
  source_fits id (inl none) = omega (arith, none)
  source_fits id (inr named) = fileid_fits id named.0 named.1

  -- a tick that was given is of no later boot
  boot_fits : (n : ℕ) (t : Tick) → HasGiven m.servers n t → t.boot < 2 ^ 32
  boot_fits n t g =
      let room = (ranges n g.server g.there).boot in
      elim g.seen [
        | inl less ↦ omega (arith, less, room)
        | inr same ↦ let boot = same.0 in omega (arith, boot, room)
      ]

  count_fits : (n : ℕ) (t : Tick) → HasGiven m.servers n t → t.count < 2 ^ 32
  count_fits n t g = let few = g.few in omega (arith, few)

  uid_fits : (k uid : ℕ) → uid ≤ d.top k → uid < 2 ^ 32
  uid_fits k uid up = let less = h.tops k in omega (arith, up, less, uids)

  name_fits : (name : ℕ) → name < m.next_name → name < 2 ^ 64
  name_fits name less = let few = h.few_names in omega (arith, less, few)

  -- ---- the calls that go out

  abbrev OutFits : Option CallOut → Type 0
  OutFits None = Unit {0}
  OutFits (Some c) = IsCallInRange c

  module _ (n : ℕ) (s : LayoutState) where
    abbrev Busy : Activity → Type 0
    Busy activity = IsFile net journal n (record { layout = s; activity = activity })

    create_at_fits : (all : Creations) (f : Busy (Makes all)) (xid place : ℕ) (o : Option Creation) → slice_get all.items place ≡ o → OutFits (create_out_at (record { layout = s; activity = Makes all }) all xid place o)
    create_at_fits all f xid place None there = tt
    create_at_fits all f xid place (Some c) there =
        let it = all_at (IsCreationOf net n all.owner) all.items place c f.busy.items there in
        let owner = f.busy.owner in
        let top = f.top in
        record { call = (name_fits c.name it.drawn, uid_fits n all.owner (omega (arith, owner, top))); uid = omega arith; some = tt }

    create_fits : (all : Creations) (f : Busy (Makes all)) (xid : ℕ) (o : Option ℕ) → OutFits (create_out (record { layout = s; activity = Makes all }) all xid o)
    create_fits all f xid None = tt
    create_fits all f xid (Some place) = create_at_fits all f xid place (slice_get all.items place) refl

    fence_at_fits : (x : FenceState) (f : Busy (Fences x)) (xid place : ℕ) (o : Option FenceMirror) → slice_get x.mirrors place ≡ o → OutFits (fence_out (record { layout = s; activity = Fences x }) (fence.fence_call_at x xid place o))
    fence_at_fits x f xid place None there = tt
    fence_at_fits x f xid place (Some y) there =
        let it = all_at (IsInFence net n x.cred) x.mirrors place y f.busy.mirrors there in
        let top = f.busy.top in
        record {
          call = (fileid_fits y.id it.name it.bears, uid_fits n x.cred (omega (arith, top)), boot_fits y.id.server y.seen it.seen, count_fits y.id.server y.seen it.seen);
          uid = omega arith;
          some = tt;
        }

    fence_fits : (x : FenceState) (f : Busy (Fences x)) (xid : ℕ) (o : Option ℕ) → OutFits (fence_out (record { layout = s; activity = Fences x }) (fence.call_from x xid o))
    fence_fits x f xid None = tt
    fence_fits x f xid (Some place) = fence_at_fits x f xid place (slice_get x.mirrors place) refl

    settle_fits : (f : MdsFile) (xid : ℕ) (live : List Mirror) → AllByRecursion (IsMirrorOf net n journal) live → OutFits (settle_out f xid live)
    settle_fits f xid [] all = tt
    settle_fits f xid (y ∷ live) all = record { call = fileid_fits y.id all.0.name all.0.bears; uid = omega arith; some = tt }

    -- a target of a copy, and its source
    module _ (c : CopyState) (f : Busy (Copies c)) where
      copier_fits : c.copier < 2 ^ 32
      copier_fits = uid_fits n c.copier f.busy.top

      at_fits : c.at < 2 ^ 64
      at_fits = let end = f.busy.short.end in omega (arith, end)

      abbrev CopyFits : Option CopyCall → Type 0
      CopyFits o = OutFits (copy_out (record { layout = s; activity = Copies c }) o)

      target_fits : (xid place : ℕ) (t : CopyTarget) (made : Option Mirror) → t.made ≡ made → IsTargetOf net n c.copier c.at c.piece t
          → CopyFits (Some (record { copy = with_target c place (at_stage t (Out xid 0)); server = t.server; uid = target_caller c.copier made; call = target_call c.copier c.at c.piece t.name made }))
      target_fits xid place t None is it = record { call = (name_fits t.name it.drawn, copier_fits); uid = omega arith; some = tt }
      target_fits xid place t (Some y) is it =
          let size = f.busy.short.size in
          record { call = (fileid_fits y.id t.name (it.made y is).1, at_fits, omega (arith, size)); uid = copier_fits; some = tt }

      target_at_fits : (xid place : ℕ) (o : Option CopyTarget) → slice_get c.targets place ≡ o → CopyFits (target_call_at c xid place o)
      target_at_fits xid place None there = tt
      target_at_fits xid place (Some t) there = target_fits xid place t t.made refl (all_at (IsTargetOf net n c.copier c.at c.piece) c.targets place t f.busy.targets there)

      copy_fits : (xid : ℕ) (o : Option ℕ) → CopyFits (call_from c xid o)
      copy_fits xid None =
          cond_both (waits c.read && may_read_on c) (Some (record { copy = with_read c (Out xid 0); server = c.source.server; uid = 0; call = Read c.source.fileid c.at PIECE_SIZE })) None CopyFits
          (λ e. record { call = (source_fits c.source f.busy.source, at_fits, omega arith); uid = omega arith; some = omega arith }) (λ e. tt)
      copy_fits xid (Some place) = target_at_fits xid place (slice_get c.targets place) refl

    out_fits : (xid : ℕ) (activity : Activity) → Busy activity → OutFits (call_out_of (record { layout = s; activity = activity }) xid activity)
    out_fits xid Idle f = tt
    out_fits xid (Makes all) f = create_fits all f xid (creation_waiting all)
    out_fits xid (Fences x) f = fence_fits x f xid (fence.waiting_at x)
    out_fits xid (Settles stage) f =
        cond_both (waits stage) (settle_out (record { layout = s; activity = Settles stage }) xid s.live) None OutFits (λ e. settle_fits (record { layout = s; activity = Settles stage }) xid s.live f.mirrors) (λ e. tt)
    out_fits xid (Copies c) f = copy_fits c f xid (waiting_at c)

  -- ---- a file

  file_fits : (n : ℕ) (f : MdsFile) → IsFile net journal n f → IsFileInRange f
  file_fits n f i = record { cred = uid_fits n f.layout.cred.0 i.top; live = all_more (IsMirrorOf net n journal) (λ x. x.id.fileid < 2 ^ 64) f.layout.live (λ x k. fileid_fits x.id k.name k.bears) i.mirrors }

-- ---- behind a run

abbrev pub HoldsBehind : List ℕ → List Move → Type 0
HoldsBehind boots moves = (d : Drawn) × Holds (machine_of_run boots moves) (journal_of (new_machine (new_servers 1 boots)) moves) d

pub calls_fit : (boots : List ℕ) (moves : List Move) → HoldsBehind boots moves → CallsInRange boots moves
calls_fit boots moves holds ranges n xid f c there is =
    let m : Machine = machine_of_run boots moves in
    let journal : List Entry = journal_of (new_machine (new_servers 1 boots)) moves in
    subst (OutFits m journal holds.0 holds.1 (uids_end boots moves) ranges) is (out_fits m journal holds.0 holds.1 (uids_end boots moves) ranges n f.layout xid f.activity (holds.1.files n f there))

pub mirrors_fit : (boots : List ℕ) (moves : List Move) → HoldsBehind boots moves → MirrorsInRange boots moves
mirrors_fit boots moves holds ranges n f there =
    file_fits (machine_of_run boots moves) (journal_of (new_machine (new_servers 1 boots)) moves) holds.0 holds.1 (uids_end boots moves) ranges n f (holds.1.files n f there)
