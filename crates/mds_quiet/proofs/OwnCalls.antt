-- What a call of a file's own that goes out leaves of those that wait: it was the first, and the others stay in their order.
use Rattle.std.proofs.Common.{◌≡◌, ℕ, zero, suc, ◌+◌, Bool, true, false, cond, List, [], ◌∷◌, map, filter, Option, Some, None, refl, sym, ap, subst, ◌∙◌, arith}
use Rattle.std.specs.Prelude.{not, ◌&&◌, if◌then◌else◌, slice_get, slice_set}
use Rattle.std.specs.Option.{option_map}
use Rattle.std.specs.List.{position, position_from, list_all}
use Rattle.std.proofs.lemmas.Iterator.Adapters.{position_from-zero}
use Rattle.std.proofs.lemmas.Option.{none-some, same_Some}
use Rattle.cluster_model.specs.declared.ids.FileId.{FileId}
use Rattle.cluster_model.specs.declared.ids.Mirror.{Mirror}
use Rattle.cluster_model.specs.declared.limits.TheConstants.{PIECE_SIZE}
use Rattle.cluster_model.specs.declared.call_stage.CallStage.TheVariants.{Out}
use Rattle.cluster_model.specs.declared.fence_mirror.FenceMirror.{FenceMirror}
use Rattle.cluster_model.specs.DsCalls.{DsCallValue, Read}
use Rattle.cluster_model.specs.Fences.{waits, is_over, FenceState, with_stage, waiting_at, fence_call_at, call_from}
use Rattle.copy_rule.specs.declared.copy_target.CopyTarget.{CopyTarget}
use Rattle.copy_rule.specs.Copies.{CopyState, CopyCall, have_answered, has_outcome, may_read_on, with_target, with_read, target_call_at}
use Rattle.copy_rule.specs.Copies as copy
use Rattle.file_rule.specs.declared.creation.Creation.{Creation}
use Rattle.file_rule.specs.MdsFiles.{Creations, Activity, Idle, Makes, Fences, Settles, Copies, MdsFile, in_stage}
use Rattle.file_rule.specs.FilePhases.{CallOut, creation_waiting, create_out_at, create_out, fence_out, settle_out, copy_out, call_out_of, call_out}
use Rattle.mirror_writer.specs.declared.call.NextCall.{NextCall}
use Rattle.mirror_writer.specs.declared.call.NextCall.TheVariants.{SendsWrite, SendsCommit}
use Rattle.mirror_writer.specs.Writers.{WriterMirror, WriterValue, WriterSends, is_some_call, next_at, next_place, with_out, call_for, sends_as, sends_next, sends_to, sends_at, next_sent}
use Rattle.resilver.specs.Calls.{servers_from}
use Rattle.mds_activity.specs.FileCalls.{first_server, servers_by, servers_waiting}
use Rattle.mds_rule.specs.MdsStates.{WaitingWrite, ServedFile}
use Rattle.mds_rule.specs.Goes.{OwnCall, own_of_file, own_of_write, own_by}
use Rattle.mds_quiet.specs.Resting.{writer_servers, own_servers}

-- ---- a list, and the first of it that passes a test

pub record FoundOff {X : Type 0} (test : X → Bool) (xs : List X) (i : ℕ) : Type 0 where
  pub x : X
  pub at : slice_get xs i ≡ Some x
  pub passes : test x ≡ true
  pub off : (y : X) → test y ≡ false → filter test xs ≡ x ∷ filter test (slice_set xs i y)

found_from : {X : Type 0} (test : X → Bool) (xs : List X) (k j : ℕ) → position_from test k xs ≡ Some j → (i : ℕ) × (j ≡ k + i) × FoundOff test xs i
found_from test [] k j is = absurd (none-some j is)
found_from {X = X} test (x ∷ xs) k j is = by_test (test x) refl is (found_from test xs (k + 1) j)
  where
    by_test : (b : Bool) → test x ≡ b → cond b (Some k) (position_from test (k + 1) xs) ≡ Some j → (position_from test (k + 1) xs ≡ Some j → (i : ℕ) × (j ≡ k + 1 + i) × FoundOff test xs i)
        → (i : ℕ) × (j ≡ k + i) × FoundOff test (x ∷ xs) i
    by_test true on its more =
        let same : k ≡ j = same_Some k j its in (
          0,
          omega (arith, same),
          record {
            x = x;
            at = refl;
            passes = on;
            off = λ y fails. ap (λ (b : Bool). cond b (x ∷ filter test xs) (filter test xs)) on ∙ ap (λ (b : Bool). x ∷ cond b (y ∷ filter test xs) (filter test xs)) (sym fails);
          },
        )
    by_test false on its more =
        let rest = more its in
        let far = rest.1 in
        let f : FoundOff test xs rest.0 = rest.2 in (
          suc rest.0,
          omega (arith, far),
          record {
            x = f.x;
            at = f.at;
            passes = f.passes;
            off = λ y fails.
                ap (λ (b : Bool). cond b (x ∷ filter test xs) (filter test xs)) on ∙ f.off y fails ∙ ap (λ (b : Bool). f.x ∷ cond b (x ∷ filter test (slice_set xs rest.0 y)) (filter test (slice_set xs rest.0 y))) (sym on);
          },
        )

pub found_off : {X : Type 0} (test : X → Bool) (xs : List X) (i : ℕ) → position test xs ≡ Some i → FoundOff test xs i
found_off test xs i is =
    let f = found_from test xs 0 i (sym (position_from-zero test xs) ∙ is) in
    let same : f.0 ≡ i = omega (arith, f.1) in
    subst (FoundOff test xs) same f.2

none_from : {X : Type 0} (test : X → Bool) (xs : List X) (k : ℕ) → position_from test k xs ≡ None → filter test xs ≡ []
none_from test [] k is = refl
none_from {X = X} test (x ∷ xs) k is = by_test (test x) is (none_from test xs (k + 1))
  where
    by_test : (b : Bool) → cond b (Some k) (position_from test (k + 1) xs) ≡ None → (position_from test (k + 1) xs ≡ None → filter test xs ≡ []) → cond b (x ∷ filter test xs) (filter test xs) ≡ []
    by_test true its more = absurd (none-some k (sym its))
    by_test false its more = more its

pub none_found : {X : Type 0} (test : X → Bool) (xs : List X) → position test xs ≡ None → filter test xs ≡ []
none_found test xs is = none_from test xs 0 (sym (position_from-zero test xs) ∙ is)

-- ---- a file's call: the first of the servers to which one waits

-- the call is to the first of these servers, and the others are left in this file; or there are none
abbrev pub TakesFirst : MdsFile → List ℕ → Option CallOut → Type 0
TakesFirst f servers None = servers ≡ []
TakesFirst f servers (Some c) = (servers ≡ c.server ∷ servers_waiting c.file) × (c.file.layout ≡ f.layout)

create_at_first : (f : MdsFile) (all : Creations) (xid place : ℕ) → FoundOff (λ (c : Creation). waits c.stage) all.items place → (o : Option Creation) → slice_get all.items place ≡ o → TakesFirst f (servers_by f.layout.live (Makes all)) (create_out_at f all xid place o)
create_at_first f all xid place found None at = absurd (none-some found.x (sym at ∙ found.at))
create_at_first f all xid place found (Some c) at =
    let same : found.x ≡ c = same_Some found.x c (sym found.at ∙ at) in
    (ap (map (λ (d : Creation). d.server)) (found.off (in_stage c (Out xid 0)) refl) ∙ ap (λ (d : Creation). d.server ∷ map (λ (e : Creation). e.server) (filter (λ (e : Creation). waits e.stage) (slice_set all.items place (in_stage c (Out xid 0))))) same, refl)

creates_first : (f : MdsFile) (all : Creations) (xid : ℕ) (o : Option ℕ) → creation_waiting all ≡ o → TakesFirst f (servers_by f.layout.live (Makes all)) (create_out f all xid o)
creates_first f all xid None is = ap (map (λ (d : Creation). d.server)) (none_found (λ (c : Creation). waits c.stage) all.items is)
creates_first f all xid (Some place) is = create_at_first f all xid place (found_off (λ (c : Creation). waits c.stage) all.items place is) (slice_get all.items place) refl

fence_at_first : (f : MdsFile) (fence : FenceState) (xid place : ℕ) → FoundOff (λ (m : FenceMirror). waits m.stage) fence.mirrors place → (o : Option FenceMirror) → slice_get fence.mirrors place ≡ o → TakesFirst f (servers_by f.layout.live (Fences fence)) (fence_out f (fence_call_at fence xid place o))
fence_at_first f fence xid place found None at = absurd (none-some found.x (sym at ∙ found.at))
fence_at_first f fence xid place found (Some m) at =
    let same : found.x ≡ m = same_Some found.x m (sym found.at ∙ at) in
    (ap (map (λ (d : FenceMirror). d.id.server)) (found.off (with_stage m (Out xid 0)) refl) ∙ ap (λ (d : FenceMirror). d.id.server ∷ map (λ (e : FenceMirror). e.id.server) (filter (λ (e : FenceMirror). waits e.stage) (slice_set fence.mirrors place (with_stage m (Out xid 0))))) same, refl)

fence_first : (f : MdsFile) (fence : FenceState) (xid : ℕ) (o : Option ℕ) → waiting_at fence ≡ o → TakesFirst f (servers_by f.layout.live (Fences fence)) (fence_out f (call_from fence xid o))
fence_first f fence xid None is = ap (map (λ (d : FenceMirror). d.id.server)) (none_found (λ (m : FenceMirror). waits m.stage) fence.mirrors is)
fence_first f fence xid (Some place) is = fence_at_first f fence xid place (found_off (λ (m : FenceMirror). waits m.stage) fence.mirrors place is) (slice_get fence.mirrors place) refl

commit_first : (f : MdsFile) (xid : ℕ) (live : List Mirror) (b : Bool) → TakesFirst f (cond b (first_server live) []) (cond b (settle_out f xid live) None)
commit_first f xid [] true = refl
commit_first f xid (m ∷ live) true = (refl, refl)
commit_first f xid live false = refl

-- where a target has not answered, the servers are those of the targets
copy_unanswered : (c : CopyState) → have_answered c ≡ false → (o : Option ℕ) → copy.waiting_at c ≡ o → servers_from c o ≡ map (λ (t : CopyTarget). t.server) (filter (λ (t : CopyTarget). waits t.stage) c.targets)
copy_unanswered c off None is =
    ap (λ (b : Bool). if waits c.read && (b && not (has_outcome c)) then c.source.server ∷ [] else []) off ∙ none_due (waits c.read) ∙ sym (ap (map (λ (t : CopyTarget). t.server)) (none_found (λ (t : CopyTarget). waits t.stage) c.targets is))
  where
    none_due : (b : Bool) → (if b && false then c.source.server ∷ [] else []) ≡ []
    none_due true = refl
    none_due false = refl
copy_unanswered c off (Some place) is = refl

-- one that is out has not answered
still_out : (targets : List CopyTarget) (place : ℕ) (t new : CopyTarget) → slice_get targets place ≡ Some t → is_over new.stage ≡ false → list_all (λ (x : CopyTarget). is_over x.stage) (slice_set targets place new) ≡ false
still_out [] place t new at off = absurd (none-some t at)
still_out (x ∷ targets) zero t new at off = ap (λ (b : Bool). b && list_all (λ (y : CopyTarget). is_over y.stage) targets) off
still_out (x ∷ targets) (suc place) t new at off = ap (λ (b : Bool). is_over x.stage && b) (still_out targets place t new at off) ∙ and_off (is_over x.stage)
  where
    and_off : (b : Bool) → (b && false) ≡ false
    and_off true = refl
    and_off false = refl

target_first : (f : MdsFile) (c : CopyState) (xid place : ℕ) → FoundOff (λ (t : CopyTarget). waits t.stage) c.targets place → (o : Option CopyTarget) → slice_get c.targets place ≡ o → TakesFirst f (servers_from c (Some place)) (copy_out f (target_call_at c xid place o))
target_first f c xid place found None at = absurd (none-some found.x (sym at ∙ found.at))
target_first f c xid place found (Some t) at =
    let same : found.x ≡ t = same_Some found.x t (sym found.at ∙ at) in
    let new : CopyTarget = copy.at_stage t (Out xid 0) in
    let d : CopyState = with_target c place new in (
      ap (map (λ (x : CopyTarget). x.server)) (found.off new refl)
          ∙ ap (λ (x : CopyTarget). x.server ∷ map (λ (y : CopyTarget). y.server) (filter (λ (y : CopyTarget). waits y.stage) (slice_set c.targets place new))) same
          ∙ ap (λ (l : List ℕ). t.server ∷ l) (sym (copy_unanswered d (still_out c.targets place t new at refl) (copy.waiting_at d) refl)),
      refl,
    )

copy_first : (f : MdsFile) (c : CopyState) (xid : ℕ) (o : Option ℕ) → copy.waiting_at c ≡ o → TakesFirst f (servers_from c o) (copy_out f (copy.call_from c xid o))
copy_first f c xid None is = by_test (waits c.read && may_read_on c)
  where
    d : CopyState
    d = with_read c (Out xid 0)

    by_test : (b : Bool) → TakesFirst f (cond b (c.source.server ∷ []) []) (copy_out f (cond {A = Option CopyCall} b (Some (record { copy = with_read c (Out xid 0); server = c.source.server; uid = 0; call = Read c.source.fileid c.at PIECE_SIZE })) None))
    by_test true = (ap (λ (l : List ℕ). c.source.server ∷ l) (sym (ap (servers_from (with_read c (Out xid 0))) is)), refl)
    by_test false = refl
copy_first f c xid (Some place) is = target_first f c xid place (found_off (λ (t : CopyTarget). waits t.stage) c.targets place is) (slice_get c.targets place) refl

first_by : (f : MdsFile) (xid : ℕ) (a : Activity) → TakesFirst f (servers_by f.layout.live a) (call_out_of f xid a)
first_by f xid Idle = refl
first_by f xid (Makes all) = creates_first f all xid (creation_waiting all) refl
first_by f xid (Fences fence) = fence_first f fence xid (waiting_at fence) refl
first_by f xid (Settles stage) = commit_first f xid f.layout.live (waits stage)
first_by f xid (Copies c) = copy_first f c xid (copy.waiting_at c) refl

pub file_first : (f : MdsFile) (xid : ℕ) → TakesFirst f (servers_waiting f) (call_out f xid)
file_first f xid = first_by f xid f.activity

-- ---- the same of an own write, whose call may want a write that was not taken

abbrev WritesFirst : WriterValue → Option WriterSends → Type 0
WritesFirst w None = Unit {0}
WritesFirst w (Some c) = writer_servers w ≡ c.id.server ∷ writer_servers c.writer

abbrev has_next : WriterValue → WriterMirror → Bool
has_next w m = is_some_call (next_at w.wants_commit m)

out_rests : (w : WriterValue) (xid : ℕ) (next : NextCall) (m : WriterMirror) → has_next w (with_out xid next m) ≡ false
out_rests w xid (SendsWrite n) m = by_failed m.has_failed
  where
    by_failed : (b : Bool) → is_some_call (if b then None else None) ≡ false
    by_failed true = refl
    by_failed false = refl
out_rests w xid SendsCommit m = by_failed m.has_failed
  where
    by_failed : (b : Bool) → is_some_call (if b then None else None) ≡ false
    by_failed true = refl
    by_failed false = refl

as_first : (w : WriterValue) → w.is_fenced ≡ false → (xid place : ℕ) (m : WriterMirror) (next : NextCall) (o : Option DsCallValue) → FoundOff (has_next w) w.mirrors place → slice_get w.mirrors place ≡ Some m → WritesFirst w (sends_as w xid place m next o)
as_first w free xid place m next None found at = tt
as_first w free xid place m next (Some call) found at =
    let same : found.x ≡ m = same_Some found.x m (sym found.at ∙ at) in
    let new : WriterMirror = with_out xid next m in
    let rest : List ℕ = map (λ (y : WriterMirror). y.id.server) (filter (has_next w) (slice_set w.mirrors place new)) in
    ap (λ (b : Bool). if b then [] else map (λ (x : WriterMirror). x.id.server) (filter (has_next w) w.mirrors)) free
    ∙ ap (map (λ (x : WriterMirror). x.id.server)) (found.off new (out_rests w xid next m))
    ∙ ap (λ (x : WriterMirror). x.id.server ∷ rest) same
    ∙ ap (λ (b : Bool). m.id.server ∷ (if b then [] else rest)) (sym free)

next_first : (w : WriterValue) → w.is_fenced ≡ false → (xid place : ℕ) (m : WriterMirror) (o : Option NextCall) → FoundOff (has_next w) w.mirrors place → slice_get w.mirrors place ≡ Some m → WritesFirst w (sends_next w xid place m o)
next_first w free xid place m None found at = tt
next_first w free xid place m (Some next) found at = as_first w free xid place m next (call_for w m.id next) found at

to_first : (w : WriterValue) → w.is_fenced ≡ false → (xid place : ℕ) (o : Option WriterMirror) → FoundOff (has_next w) w.mirrors place → slice_get w.mirrors place ≡ o → WritesFirst w (sends_to w xid place o)
to_first w free xid place None found at = tt
to_first w free xid place (Some m) found at = next_first w free xid place m (next_at w.wants_commit m) found at

at_first : (w : WriterValue) (xid : ℕ) (o : Option ℕ) → next_place w ≡ o → WritesFirst w (sends_at w xid o)
at_first w xid None is = tt
at_first w xid (Some place) is = by_fenced w.is_fenced refl is
  where
    by_fenced : (b : Bool) → w.is_fenced ≡ b → (if b then None else position (has_next w) w.mirrors) ≡ Some place → WritesFirst w (sends_to w xid place (slice_get w.mirrors place))
    by_fenced true off its = absurd (none-some place its)
    by_fenced false free its = to_first w free xid place (slice_get w.mirrors place) (found_off (has_next w) w.mirrors place its) refl

write_first : (w : WriterValue) (xid : ℕ) → WritesFirst w (next_sent w xid)
write_first w xid = at_first w xid (next_place w) refl

-- ---- of a file that is served

-- the call went to the first of the servers
pub goes_first : (file : FileId) (s : ServedFile) (xid : ℕ) (o : Option WaitingWrite) → s.write ≡ o → (c : OwnCall) → own_by file s xid o ≡ Some c → own_servers s.write s.file ≡ c.server ∷ own_servers c.served.write c.served.file
goes_first file s xid None none c is = by_call (call_out s.file xid) (file_first s.file xid) is
  where
    by_call : (o : Option CallOut) → TakesFirst s.file (servers_waiting s.file) o → option_map (own_of_file file s) o ≡ Some c → own_servers s.write s.file ≡ c.server ∷ own_servers c.served.write c.served.file
    by_call None first its = absurd (none-some c its)
    by_call (Some d) first its =
        subst (λ (x : OwnCall). own_servers s.write s.file ≡ x.server ∷ own_servers x.served.write x.served.file) (same_Some (own_of_file file s d) c its)
        (ap (λ (w : Option WaitingWrite). own_servers w s.file) none ∙ first.0 ∙ ap (λ (w : Option WaitingWrite). d.server ∷ own_servers w d.file) (sym none))
goes_first file s xid (Some w) at c is = by_call (next_sent w.writer xid) (write_first w.writer xid) is
  where
    by_call : (o : Option WriterSends) → WritesFirst w.writer o → option_map (own_of_write file s w) o ≡ Some c → own_servers s.write s.file ≡ c.server ∷ own_servers c.served.write c.served.file
    by_call None first its = absurd (none-some c its)
    by_call (Some d) first its =
        subst (λ (x : OwnCall). own_servers s.write s.file ≡ x.server ∷ own_servers x.served.write x.served.file) (same_Some (own_of_write file s w d) c its) (ap (λ (v : Option WaitingWrite). own_servers v s.file) at ∙ first)

-- its layout stays
pub out_layout : (f : MdsFile) (xid : ℕ) (c : CallOut) → call_out f xid ≡ Some c → c.file.layout ≡ f.layout
out_layout f xid c is = (subst (TakesFirst f (servers_waiting f)) is (file_first f xid)).1

-- ---- none waits, under whichever number

writes_none : (w : WriterValue) (x y : ℕ) → next_sent w x ≡ None → next_sent w y ≡ None
writes_none w x y is = by_place (next_place w) is
  where
    by_call : (place : ℕ) (m : WriterMirror) (next : NextCall) (o : Option DsCallValue) → sends_as w x place m next o ≡ None → sends_as w y place m next o ≡ None
    by_call place m next None its = refl
    by_call place m next (Some call) its = absurd (none-some _ (sym its))

    by_next : (place : ℕ) (m : WriterMirror) (o : Option NextCall) → sends_next w x place m o ≡ None → sends_next w y place m o ≡ None
    by_next place m None its = refl
    by_next place m (Some next) its = by_call place m next (call_for w m.id next) its

    by_mirror : (place : ℕ) (o : Option WriterMirror) → sends_to w x place o ≡ None → sends_to w y place o ≡ None
    by_mirror place None its = refl
    by_mirror place (Some m) its = by_next place m (next_at w.wants_commit m) its

    by_place : (o : Option ℕ) → sends_at w x o ≡ None → sends_at w y o ≡ None
    by_place None its = refl
    by_place (Some place) its = by_mirror place (slice_get w.mirrors place) its

file_none : (f : MdsFile) (x y : ℕ) → call_out f x ≡ None → call_out f y ≡ None
file_none f x y is = by_call (call_out f y) (file_first f y) (subst (TakesFirst f (servers_waiting f)) is (file_first f x))
  where
    by_call : (o : Option CallOut) → TakesFirst f (servers_waiting f) o → servers_waiting f ≡ [] → o ≡ None
    by_call None first none = refl
    by_call (Some c) first none = absurd (not_nil (sym first.0 ∙ none))
      where
        not_nil : c.server ∷ servers_waiting c.file ≡ [] → ⊥
        not_nil e = absurd cc

-- that no call of the file waits, told by its parts alone
abbrev pub Idles : Option WaitingWrite → MdsFile → Type 0
Idles None f = (xid : ℕ) → call_out f xid ≡ None
Idles (Some w) f = (xid : ℕ) → next_sent w.writer xid ≡ None

map_none : {A B : Type 0} (g : A → B) (o : Option A) → option_map g o ≡ None → o ≡ None
map_none g None is = refl
map_none g (Some a) is = absurd (none-some (g a) (sym is))

pub idles_from : (file : FileId) (s : ServedFile) (xid : ℕ) (o : Option WaitingWrite) → own_by file s xid o ≡ None → Idles o s.file
idles_from file s xid None is = λ x. file_none s.file xid x (map_none (own_of_file file s) (call_out s.file xid) is)
idles_from file s xid (Some w) is = λ x. writes_none w.writer xid x (map_none (own_of_write file s w) (next_sent w.writer xid) is)

pub idles_so : (file : FileId) (s : ServedFile) (xid : ℕ) (o : Option WaitingWrite) → Idles o s.file → own_by file s xid o ≡ None
idles_so file s xid None rests = ap (option_map (own_of_file file s)) (rests xid)
idles_so file s xid (Some w) rests = ap (option_map (own_of_write file s w)) (rests xid)
