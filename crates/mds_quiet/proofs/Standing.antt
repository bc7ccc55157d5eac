-- How a file stands whose own calls wait in order; and that it stood so before a call that went out.
use Rattle.std.proofs.Common.{◌≡◌, ◌≤◌, ◌⊎◌, inl, inr, ℕ, zero, suc, Bool, true, false, cond, List, [], ◌∷◌, length, map, filter, set, Option, Some, None, refl, sym, ap, subst, ◌∙◌, arith, length-set}
use Rattle.std.specs.Prelude.{◌==◌, ◌&&◌, not, slice_get}
use Rattle.std.specs.Option.{option_map}
use Rattle.std.specs.List.{AllByRecursion}
use Rattle.std.proofs.lemmas.Bool.{cond_both}
use Rattle.std.proofs.lemmas.List.{length-map}
use Rattle.std.proofs.lemmas.Iterator.Adapters.{position_from-zero}
use Rattle.std.proofs.lemmas.Option.{none-some, same_Some}
use Rattle.cluster_model.proofs.Elements.{slice_get-set_same}
use Rattle.cluster_model.specs.declared.ids.FileId.{FileId}
use Rattle.cluster_model.specs.declared.ids.Mirror.{Mirror}
use Rattle.cluster_model.specs.declared.ids.MirrorId.{MirrorId}
use Rattle.cluster_model.specs.declared.call_stage.CallStage.{CallStage}
use Rattle.cluster_model.specs.declared.call_stage.CallStage.TheVariants.{Out}
use Rattle.cluster_model.specs.declared.fence_mirror.FenceMirror.{FenceMirror}
use Rattle.cluster_model.specs.declared.layout_state.LayoutState.{LayoutState}
use Rattle.cluster_model.specs.Mirrors.{has_server, are_on_different_servers}
use Rattle.cluster_model.specs.Fences.{waits, FenceState, with_stage, waiting_at, fence_call_at, call_from}
use Rattle.cluster_model.specs.Phases.{ids_of}
use Rattle.copy_rule.specs.declared.copy_target.CopyTarget.{CopyTarget}
use Rattle.copy_rule.specs.Copies.{CopyState, CopyCall, is_given_up, may_read_on, is_read_due, target_call_at}
use Rattle.copy_rule.specs.Copies as copy
use Rattle.file_rule.specs.declared.creation.Creation.{Creation}
use Rattle.file_rule.specs.MdsFiles.{Creations, Activity, Idle, Makes, Fences, Settles, Copies, MdsFile, in_stage}
use Rattle.file_rule.specs.FilePhases.{CallOut, creation_waiting, create_out_at, create_out, fence_out, settle_out, copy_out, call_out_of, call_out}
use Rattle.mirror_writer.specs.Writers.{WriterMirror, WriterValue, WriterSends, is_some_call, next_at}
use Rattle.mirror_writer.specs.Writers as writer
use Rattle.resilver.specs.Calls.{servers_from}
use Rattle.mds_activity.specs.FileCalls.{first_server, servers_by}
use Rattle.mds_rule.specs.MdsStates.{WaitingWrite, ServedFile}
use Rattle.mds_rule.specs.Goes.{OwnCall, own_of_file, own_of_write, own_by, place_of, place_or_last}
use Rattle.cluster_laws.proofs.Invariant.{kept_ids}
use Rattle.cluster_laws.proofs.FewMirrors.{adds, added_by, HasRoom, FileHasFew, filter_less, adds_set}
use Rattle.mds_quiet.specs.Resting.{own_servers, writer_servers, PlacesRise, WaitsInOrder}
use Rattle.mds_quiet.proofs.OwnCalls.{out_layout}
use Rattle.mds_quiet.proofs.ReadsOut.{few_places}
use Rattle.mds_quiet.proofs.Parts.{IsPart, part_map, part_narrow, part_of_part, part_length, part_more, servers_of, place_from, part_rises, none_rise}
use Rattle.mds_quiet.proofs.Ordered.{kept_servers, is_left, IsAdded, AreTargets, AreCreations, IsBusy, IsOrdered, creations_set, fence_set, targets_set, waits_left}
use Rattle.mds_quiet.proofs.WriterServers.{mirror_servers, sends_same}

-- an own write goes to the live mirrors
abbrev pub WritesThere : MdsFile → Option WaitingWrite → Type 0
WritesThere f None = Unit {0}
WritesThere f (Some w) = mirror_servers w.writer ≡ servers_of f.layout.live

pub record FileStands (f : MdsFile) : Type 0 where
  pub ordered : IsOrdered f
  pub few : FileHasFew f

pub record Stands (s : ServedFile) : Type 0 where
  pub file_stands : FileStands s.file
  pub writes : WritesThere s.file s.write

-- ---- before a call that went out

pub set_back : {A : Type 0} (xs : List A) (place : ℕ) (x y : A) → slice_get xs place ≡ Some x → set (set xs place y) place x ≡ xs
set_back [] place x y at = refl
set_back (z ∷ xs) zero x y at = ap (λ w. w ∷ xs) (sym (same_Some z x at))
set_back (z ∷ xs) (suc place) x y at = ap (λ l. z ∷ l) (set_back xs place x y at)

module _ (f : MdsFile) where
  abbrev with_activity : Activity → MdsFile
  with_activity a = record { layout = f.layout; activity = a }

  abbrev Back : Activity → Option CallOut → Type 0
  Back a None = Unit {0}
  Back a (Some c) = FileStands c.file → FileStands (with_activity a)

  create_at_back : (all : Creations) (xid place : ℕ) (o : Option Creation) → slice_get all.items place ≡ o → Back (Makes all) (create_out_at f all xid place o)
  create_at_back all xid place None at = tt
  create_at_back all xid place (Some c) at = λ b.
      (let new : Creation = in_stage c (Out xid 0) in
      let room = b.few.room in
      let size = length-set all.items place new in
      record {
        ordered = record {
          apart = b.ordered.apart;
          busy = subst (AreCreations f.layout.live) (set_back all.items place c new at) (creations_set f.layout.live (set all.items place new) place new c (slice_get-set_same all.items place c new at) refl (λ its. its) b.ordered.busy);
        };
        few = record { mirrors = b.few.mirrors; room = omega (arith, room, size) };
      })

  create_back : (all : Creations) (xid : ℕ) (o : Option ℕ) → Back (Makes all) (create_out f all xid o)
  create_back all xid None = tt
  create_back all xid (Some place) = create_at_back all xid place (slice_get all.items place) refl

  fence_at_back : (x : FenceState) (xid place : ℕ) (o : Option FenceMirror) → slice_get x.mirrors place ≡ o → Back (Fences x) (fence_out f (fence_call_at x xid place o))
  fence_at_back x xid place None at = tt
  fence_at_back x xid place (Some m) at = λ b.
      (let new : FenceMirror = with_stage m (Out xid 0) in
      record {
        ordered = record {
          apart = b.ordered.apart;
          busy = subst (λ (l : List FenceMirror). IsPart (kept_ids l) (ids_of f.layout.live)) (set_back x.mirrors place m new at)
              (fence_set (set x.mirrors place new) place new m (ids_of f.layout.live) (slice_get-set_same x.mirrors place m new at) refl refl b.ordered.busy);
        };
        few = record { mirrors = b.few.mirrors; room = tt };
      })

  fence_back : (x : FenceState) (xid : ℕ) (o : Option ℕ) → Back (Fences x) (fence_out f (call_from x xid o))
  fence_back x xid None = tt
  fence_back x xid (Some place) = fence_at_back x xid place (slice_get x.mirrors place) refl

  settle_back : (stage : CallStage) (xid : ℕ) (live : List Mirror) → Back (Settles stage) (settle_out f xid live)
  settle_back stage xid [] = tt
  settle_back stage xid (m ∷ live) = λ b. record { ordered = record { apart = b.ordered.apart; busy = tt }; few = record { mirrors = b.few.mirrors; room = tt } }

  target_back : (c : CopyState) (xid place : ℕ) (o : Option CopyTarget) → slice_get c.targets place ≡ o → Back (Copies c) (copy_out f (target_call_at c xid place o))
  target_back c xid place None at = tt
  target_back c xid place (Some t) at = λ b.
      (let new : CopyTarget = copy.at_stage t (Out xid 0) in
      let room = b.few.room in
      let size = adds_set c.targets place t new at refl in
      record {
        ordered = record {
          apart = b.ordered.apart;
          busy = subst (AreTargets f.layout.live) (set_back c.targets place t new at) (targets_set f.layout.live (set c.targets place new) place new t (slice_get-set_same c.targets place t new at) refl refl (λ its. its) refl b.ordered.busy);
        };
        few = record { mirrors = b.few.mirrors; room = omega (arith, room, size) };
      })

  copy_back : (c : CopyState) (xid : ℕ) (o : Option ℕ) → Back (Copies c) (copy_out f (copy.call_from c xid o))
  copy_back c xid None = cond_both (waits c.read && may_read_on c) (Some _) None (λ (x : Option CopyCall). Back (Copies c) (copy_out f x)) (λ due b. record { ordered = record { apart = b.ordered.apart; busy = b.ordered.busy }; few = record { mirrors = b.few.mirrors; room = b.few.room } }) (λ off. tt)
  copy_back c xid (Some place) = target_back c xid place (slice_get c.targets place) refl

  out_of_back : (xid : ℕ) (a : Activity) → Back a (call_out_of f xid a)
  out_of_back xid Idle = tt
  out_of_back xid (Makes all) = create_back all xid (creation_waiting all)
  out_of_back xid (Fences x) = fence_back x xid (waiting_at x)
  out_of_back xid (Settles stage) = cond_both (waits stage) (settle_out f xid f.layout.live) None (Back (Settles stage)) (λ is. settle_back stage xid f.layout.live) (λ off. tt)
  out_of_back xid (Copies c) = copy_back c xid (copy.waiting_at c)

  pub file_back : (xid : ℕ) (c : CallOut) → call_out f xid ≡ Some c → FileStands c.file → FileStands f
  file_back xid c is = subst (Back f.activity) is (out_of_back xid f.activity)

layout_writes : (f g : MdsFile) (o : Option WaitingWrite) → g.layout ≡ f.layout → WritesThere g o → WritesThere f o
layout_writes f g None same i = tt
layout_writes f g (Some w) same i = i ∙ ap (λ (l : LayoutState). servers_of l.live) same

pub own_back : (file : FileId) (s : ServedFile) (xid : ℕ) (o : Option WaitingWrite) → s.write ≡ o → (c : OwnCall) → own_by file s xid o ≡ Some c → Stands c.served → Stands s
own_back file s xid None none c is = by_call (call_out s.file xid) refl is
  where
    by_call : (o : Option CallOut) → call_out s.file xid ≡ o → option_map (own_of_file file s) o ≡ Some c → Stands c.served → Stands s
    by_call None at its i = absurd (none-some c its)
    by_call (Some d) at its i =
        let k : Stands (own_of_file file s d).served = subst (λ (x : OwnCall). Stands x.served) (sym (same_Some (own_of_file file s d) c its)) i in
        record { file_stands = file_back s.file xid d at k.file_stands; writes = layout_writes s.file d.file s.write (out_layout s.file xid d at) k.writes }
own_back file s xid (Some w) waits_so c is = by_call (writer.next_sent w.writer xid) refl is
  where
    by_call : (o : Option WriterSends) → writer.next_sent w.writer xid ≡ o → option_map (own_of_write file s w) o ≡ Some c → Stands c.served → Stands s
    by_call None at its i = absurd (none-some c its)
    by_call (Some d) at its i =
        let k : Stands (own_of_write file s w d).served = subst (λ (x : OwnCall). Stands x.served) (sym (same_Some (own_of_write file s w d) c its)) i in
        record { file_stands = k.file_stands; writes = subst (WritesThere s.file) (sym waits_so) (sym (sends_same w.writer xid d at) ∙ k.writes) }

-- ---- its calls wait in order

map_twice : {A B C : Type 0} (g : B → C) (f : A → B) (xs : List A) → map g (map f xs) ≡ map (λ x. g (f x)) xs
map_twice g f [] = refl
map_twice g f (x ∷ xs) = ap (λ l. g (f x) ∷ l) (map_twice g f xs)

part_of_all : {A : Type 0} (p : A → Bool) (xs : List A) → IsPart (filter p xs) xs
part_of_all p [] = tt
part_of_all {A = A} p (x ∷ xs) = by_test (p x) (part_of_all p xs)
  where
    by_test : (b : Bool) → IsPart (filter p xs) xs → IsPart (cond b (x ∷ filter p xs) (filter p xs)) (x ∷ xs)
    by_test true rest = inl (refl, rest)
    by_test false rest = part_more (filter p xs) x xs rest

-- targets that add mirrors are as many as these
pub added_size : (live : List Mirror) (targets : List CopyTarget) → AllByRecursion (IsAdded live) targets → length targets ≤ adds targets
added_size live [] none = omega arith
added_size live (t ∷ targets) none =
    let rest = added_size live targets none.1 in
    let first : added_by t.replaced ≡ 1 = ap added_by none.0.0 in
    omega (arith, rest, first)

module _ (s : ServedFile) (few : length s.file.layout.live ≤ 4) (apart : are_on_different_servers s.file.layout.live ≡ true) where
  abbrev live : List Mirror
  live = s.file.layout.live

  -- so many of these servers, in this order
  pub record InOrder (servers : List ℕ) : Type 0 where
    pub rise : PlacesRise 0 (map (place_of s) servers)
    pub size : length servers ≤ 4

  same_place : (n : ℕ) → place_of s n ≡ place_from 0 s.file.layout.live n
  same_place n = ap place_or_last (position_from-zero (λ (m : Mirror). m.id.server == n) s.file.layout.live)

  same_places : (ns : List ℕ) → map (place_of s) ns ≡ map (place_from 0 s.file.layout.live) ns
  same_places [] = refl
  same_places (n ∷ ns) = ap (λ (k : ℕ). k ∷ map (place_of s) ns) (same_place n) ∙ ap (λ (l : List ℕ). place_from 0 s.file.layout.live n ∷ l) (same_places ns)

  part_order : (ns : List ℕ) → IsPart ns (servers_of s.file.layout.live) → InOrder ns
  part_order ns part =
      let less = part_length ns (servers_of s.file.layout.live) part in
      let same = length-map s.file.layout.live (λ (m : Mirror). m.id.server) in
      record {
        rise = subst (PlacesRise 0) (sym (same_places ns)) (part_rises 0 s.file.layout.live ns (omega (arith, few)) apart part);
        size = omega (arith, few, less, same);
      }

  none_order : (ns : List ℕ) → length ns ≤ 4 → AllByRecursion (λ (n : ℕ). has_server s.file.layout.live n ≡ false) ns → InOrder ns
  none_order ns size none = record { rise = subst (PlacesRise 0) (sym (same_places ns)) (none_rise 0 s.file.layout.live ns (omega arith) none); size = size }

  no_order : InOrder []
  no_order = record { rise = tt; size = omega arith }

  one_order : (n : ℕ) → InOrder (n ∷ [])
  one_order n = record { rise = (omega arith, few_places s n few, tt); size = omega arith }

  -- ---- by what is under way

  none_made : (ns : List ℕ) → s.file.layout.live ≡ [] → AllByRecursion (λ (n : ℕ). has_server s.file.layout.live n ≡ false) ns
  none_made [] none = tt
  none_made (n ∷ ns) none = (ap (λ (l : List Mirror). has_server l n) none, none_made ns none)

  creates_order : (all : Creations) → length all.items ≤ 4 → AreCreations s.file.layout.live all.items → InOrder (servers_by s.file.layout.live (Makes all))
  creates_order all room busy =
      let waiting : List Creation = filter (λ (c : Creation). waits c.stage) all.items in
      let less = filter_less (λ (c : Creation). waits c.stage) all.items in
      let same = length-map waiting (λ (c : Creation). c.server) in
      none_order (map (λ (c : Creation). c.server) waiting) (omega (arith, room, less, same)) (none_made (map (λ (c : Creation). c.server) waiting) busy.none)

  waits_kept : (stage : CallStage) → waits stage ≡ true → not (is_given_up stage) ≡ true
  waits_kept stage is = ap not (waits_left stage is)

  fence_order : (x : FenceState) → IsPart (kept_ids x.mirrors) (ids_of s.file.layout.live) → InOrder (servers_by s.file.layout.live (Fences x))
  fence_order x part =
      let waiting : List FenceMirror = filter (λ (m : FenceMirror). waits m.stage) x.mirrors in
      let kept : List FenceMirror = filter (λ (m : FenceMirror). not (is_given_up m.stage)) x.mirrors in
      let narrow : IsPart (map (λ (m : FenceMirror). m.id) waiting) (kept_ids x.mirrors) =
      part_map (λ (m : FenceMirror). m.id) waiting kept (part_narrow (λ (m : FenceMirror). waits m.stage) (λ (m : FenceMirror). not (is_given_up m.stage)) (λ m is. waits_kept m.stage is) x.mirrors) in
      let ids : IsPart (map (λ (m : FenceMirror). m.id) waiting) (ids_of s.file.layout.live) = part_of_part (map (λ (m : FenceMirror). m.id) waiting) (kept_ids x.mirrors) (ids_of s.file.layout.live) narrow part in
      let servers : IsPart (map (λ (k : MirrorId). k.server) (map (λ (m : FenceMirror). m.id) waiting)) (map (λ (k : MirrorId). k.server) (ids_of s.file.layout.live)) =
      part_map (λ (k : MirrorId). k.server) (map (λ (m : FenceMirror). m.id) waiting) (ids_of s.file.layout.live) ids in
      part_order (map (λ (m : FenceMirror). m.id.server) waiting)
      (subst (λ (l : List ℕ). IsPart l (servers_of s.file.layout.live)) (map_twice (λ (k : MirrorId). k.server) (λ (m : FenceMirror). m.id) waiting)
      (subst (λ (l : List ℕ). IsPart (map (λ (k : MirrorId). k.server) (map (λ (m : FenceMirror). m.id) waiting)) l) (map_twice (λ (k : MirrorId). k.server) (λ (m : Mirror). m.id) s.file.layout.live) servers))

  commit_order : (l : List Mirror) (b : Bool) → InOrder (cond b (first_server l) [])
  commit_order [] true = no_order
  commit_order (m ∷ l) true = one_order m.id.server
  commit_order l false = no_order

  added_servers : (targets : List CopyTarget) → AllByRecursion (IsAdded s.file.layout.live) targets → AllByRecursion (λ (n : ℕ). has_server s.file.layout.live n ≡ false) (map (λ (t : CopyTarget). t.server) (filter (λ (t : CopyTarget). waits t.stage) targets))
  added_servers [] none = tt
  added_servers (t ∷ targets) none = by_test (waits t.stage) (added_servers targets none.1)
    where
      by_test : (b : Bool) → AllByRecursion (λ (n : ℕ). has_server s.file.layout.live n ≡ false) (map (λ (x : CopyTarget). x.server) (filter (λ (x : CopyTarget). waits x.stage) targets))
          → AllByRecursion (λ (n : ℕ). has_server s.file.layout.live n ≡ false) (map (λ (x : CopyTarget). x.server) (cond b (t ∷ filter (λ (x : CopyTarget). waits x.stage) targets) (filter (λ (x : CopyTarget). waits x.stage) targets)))
      by_test true rest = (none.0.1, rest)
      by_test false rest = rest

  targets_order : (targets : List CopyTarget) → adds targets ≤ 4 → IsPart (kept_servers targets) (servers_of s.file.layout.live) ⊎ AllByRecursion (IsAdded s.file.layout.live) targets → InOrder (map (λ (t : CopyTarget). t.server) (filter (λ (t : CopyTarget). waits t.stage) targets))
  targets_order targets room (inl part) =
      let waiting : List CopyTarget = filter (λ (t : CopyTarget). waits t.stage) targets in
      let narrow : IsPart (map (λ (t : CopyTarget). t.server) waiting) (kept_servers targets) =
      part_map (λ (t : CopyTarget). t.server) waiting (filter is_left targets) (part_narrow (λ (t : CopyTarget). waits t.stage) is_left (λ t is. waits_kept t.stage is) targets) in
      part_order (map (λ (t : CopyTarget). t.server) waiting) (part_of_part (map (λ (t : CopyTarget). t.server) waiting) (kept_servers targets) (servers_of s.file.layout.live) narrow part)
  targets_order targets room (inr none) =
      let waiting : List CopyTarget = filter (λ (t : CopyTarget). waits t.stage) targets in
      let less = filter_less (λ (t : CopyTarget). waits t.stage) targets in
      let same = length-map waiting (λ (t : CopyTarget). t.server) in
      let size = added_size s.file.layout.live targets none in
      none_order (map (λ (t : CopyTarget). t.server) waiting) (omega (arith, room, less, same, size)) (added_servers targets none)

  copy_order : (c : CopyState) (o : Option ℕ) → adds c.targets ≤ 4 → AreTargets s.file.layout.live c.targets → InOrder (servers_from c o)
  copy_order c None room busy = cond_both (is_read_due c) (c.source.server ∷ []) [] InOrder (λ due. one_order c.source.server) (λ off. no_order)
  copy_order c (Some place) room busy = targets_order c.targets room busy.order

  by_activity : (a : Activity) → IsBusy s.file.layout.live a → HasRoom (length s.file.layout.live) a → InOrder (servers_by s.file.layout.live a)
  by_activity Idle busy room = no_order
  by_activity (Makes all) busy room = creates_order all room busy
  by_activity (Fences x) busy room = fence_order x busy
  by_activity (Settles stage) busy room = commit_order s.file.layout.live (waits stage)
  by_activity (Copies c) busy room = copy_order c (copy.waiting_at c) (omega (arith, room)) busy

  write_order : (w : WaitingWrite) → mirror_servers w.writer ≡ servers_of s.file.layout.live → InOrder (writer_servers w.writer)
  write_order w there =
      let next : WriterMirror → Bool = λ m. is_some_call (next_at w.writer.wants_commit m) in
      cond_both w.writer.is_fenced [] (map (λ (m : WriterMirror). m.id.server) (filter next w.writer.mirrors)) InOrder (λ off. no_order)
      (λ on. part_order (map (λ (m : WriterMirror). m.id.server) (filter next w.writer.mirrors))
      (subst (IsPart (map (λ (m : WriterMirror). m.id.server) (filter next w.writer.mirrors))) there (part_map (λ (m : WriterMirror). m.id.server) (filter next w.writer.mirrors) w.writer.mirrors (part_of_all next w.writer.mirrors))))

  by_write : (o : Option WaitingWrite) → IsBusy s.file.layout.live s.file.activity → HasRoom (length s.file.layout.live) s.file.activity → WritesThere s.file o → InOrder (own_servers o s.file)
  by_write None busy room writes = by_activity s.file.activity busy room
  by_write (Some w) busy room writes = write_order w writes

pub waits_in_order : (s : ServedFile) → Stands s → WaitsInOrder s
waits_in_order s i =
    let few : length s.file.layout.live ≤ 4 = i.file_stands.few.mirrors.few_live in
    let k : InOrder s few i.file_stands.ordered.apart (own_servers s.write s.file) = by_write s few i.file_stands.ordered.apart s.write i.file_stands.ordered.busy i.file_stands.few.room i.writes in
    record { rise = k.rise; few = k.size }
