-- Why the calls that are sent and not answered are few behind a tick: each is awaited, so its number is out at one of the places of who waits.
use Rattle.std.proofs.Common.{arith, ◌≡◌, ◌≤◌, ◌<◌, ℕ, suc, ◌+◌, Bool, true, false, cond, List, [], ◌∷◌, ◌++◌, length, map, filter, Option, Some, None, is_some, refl, sym, ap, subst, ◌∙◌, ◌⊎◌, inl, inr}
use Rattle.std.specs.Prelude.{◌-◌, ◌==◌, ◌||◌, not, slice_get, if◌then◌else◌}
use Rattle.std.specs.List.{AllByRecursion, list_all, list_any}
use Rattle.std.proofs.lemmas.Bool.{and_parts, eq-eqb, eqb-true, ne_eqb}
use Rattle.std.proofs.lemmas.List.{length-map}
use Rattle.device_addr.specs.Universal.{AddressValue}
use Rattle.cluster_model.specs.Members.{IsOneOf}
use Rattle.cluster_model.specs.declared.ids.FileId.{FileId}
use Rattle.cluster_model.specs.declared.ids.Mirror.{Mirror}
use Rattle.cluster_model.specs.declared.call_stage.CallStage.{CallStage}
use Rattle.cluster_model.specs.declared.call_stage.CallStage.TheVariants.{Waits, Out, KeptOut, KeptBack, Done, GivenUp}
use Rattle.cluster_model.specs.declared.fence_mirror.FenceMirror.{FenceMirror}
use Rattle.cluster_model.specs.declared.layout_state.LayoutPhase.{LayoutPhase}
use Rattle.cluster_model.specs.Fences.{is_over}
use Rattle.cluster_model.specs.Phases.{ids_of}
use Rattle.copy_rule.specs.declared.copy_target.CopyTarget.{CopyTarget}
use Rattle.copy_rule.specs.Copies.{CopyState, is_given_up}
use Rattle.file_rule.specs.MdsFiles.{Activity, Idle, Makes, Fences, Settles, Copies, MdsFile}
use Rattle.file_rule.specs.FilePhases.{is_outstanding}
use Rattle.mds_rule.specs.MdsStates.{WaitingWrite, ServedFile, AwaitedCall, MdsValue, MdsStep, served, numbered, new_mds}
use Rattle.mds_rule.specs.declared.waiter.Waiter.{Waiter}
use Rattle.mds_rule.specs.declared.waiter.Waiter.TheVariants.{ForFile, ForRead, ForWrite, ForRecall}
use Rattle.mds_rule.specs.Answers.{server_number, is_file_out, has_read_out, has_write_out, is_awaited_by, is_awaited}
use Rattle.recall.specs.declared.recall.Recall.{Recall}
use Rattle.recall.specs.Recalls.{is_out_as, out_at}
use Rattle.cluster_laws.proofs.Invariant.{is_idle, kept_ids}
use Rattle.cluster_laws.proofs.FewMirrors.{adds, HasRoom}
use Rattle.mds_walk.specs.MdsRuns.{MdsEvent, Ticks as IsTick, mds_run}
use Rattle.mds_walk.proofs.Parts.{HeardAny, AnyCompound}
use Rattle.mds_walk.proofs.Keeping.{hears_any}
use Rattle.mds_laws.proofs.GoesWalk.{each_event, behind_each_run}
use Rattle.mds_rule.specs.Events.{takes_tick}
use Rattle.mds_progress.proofs.Awaits.{awaits_each}
use Rattle.mds_walk.proofs.Lists.{in_filtered}
use Rattle.mds_walk.proofs.TableKept.{new_table}
use Rattle.mds_walk.proofs.EventWalk.{event_walk, in_each_run}
use Rattle.standing_calls.proofs.Spots.{Spot, is_number, has_number, not_both, or_split, or_first, or_second, number_is, at_number, map_get, got_number}
use Rattle.standing_calls.proofs.OwnSpots.{number_of, creation_spot, mirror_spot, target_spot, settle_spots, copy_spots, spots_in, own_spots, outstanding_at}
use Rattle.standing_calls.proofs.ReadSpots.{read_spot, read_spots, any_out as any_read}
use Rattle.standing_calls.proofs.WriteSpots.{writer_spot, write_spots, writer_out}
use Rattle.standing_calls.proofs.RecallSpots.{recall_spot, recall_spots, out_number as recall_out}
use Rattle.mds_quiet.specs.CallCounts.{is_for_file, is_for_read, is_for_write, is_for_recall, is_of, calls_of, IsFreeOrHeld, FileCallsAreFew, TicksLeaveFew}
use Rattle.mds_quiet.proofs.Parts.{IsPart, part_length, servers_of}
use Rattle.mds_quiet.proofs.Ordered.{is_left, kept_servers, IsAdded, AreTargets, IsBusy}
use Rattle.mds_quiet.proofs.OwnPhases.{nothing_under_way}
use Rattle.mds_quiet.proofs.OwnCalls.{FoundOff, found_off}
use Rattle.mds_quiet.proofs.Standing.{WritesThere, added_size}
use Rattle.mds_quiet.proofs.Turns.{TurnsOf, TakesTurns}
use Rattle.mds_quiet.proofs.RunsStand.{Fits, IsSo, cases, begun, each_fits}
use Rattle.mds_quiet.proofs.TableRises.{CallsRise, filter_rises, Rising, rising_whole}

-- ---- numbers that are out

abbrev with_number : Option ℕ → List ℕ → List ℕ
with_number None ns = ns
with_number (Some n) ns = n ∷ ns

abbrev numbers : List Spot → List ℕ
numbers [] = []
numbers (p ∷ ps) = with_number p.1 (numbers ps)

abbrev is_there : ℕ → List ℕ → Bool
is_there n ns = list_any (λ (k : ℕ). k == n) ns

there_more : (n : ℕ) (o : Option ℕ) (ns : List ℕ) → is_there n ns ≡ true → is_there n (with_number o ns) ≡ true
there_more n None ns is = is
there_more n (Some k) ns is = or_second (k == n) (is_there n ns) is

number_there : (n : ℕ) (ps : List Spot) → has_number n ps ≡ true → is_there n (numbers ps) ≡ true
number_there n [] is = is
number_there n (p ∷ ps) is = by_case (or_split (is_number n p.1) (has_number n ps) is) (number_there n ps)
  where
    by_case : (is_number n p.1 ≡ true) ⊎ (has_number n ps ≡ true) → (has_number n ps ≡ true → is_there n (numbers ps) ≡ true) → is_there n (with_number p.1 (numbers ps)) ≡ true
    by_case (inl here) rest = ap (λ (o : Option ℕ). is_there n (with_number o (numbers ps))) (number_is n p.1 here) ∙ or_first (n == n) (is_there n (numbers ps)) (eq-eqb n n refl)
    by_case (inr there) rest = there_more n p.1 (numbers ps) (rest there)

-- ---- no more calls than numbers

abbrev taken_out : ℕ → List ℕ → List ℕ
taken_out n [] = []
taken_out n (k ∷ ns) = if k == n then ns else k ∷ taken_out n ns

one_less : (n : ℕ) (ns : List ℕ) → is_there n ns ≡ true → length ns ≡ suc (length (taken_out n ns))
one_less n [] is = absurd (not_both (sym is))
one_less n (k ∷ ns) is = by_test (k == n) is (one_less n ns)
  where
    by_test : (b : Bool) → (b || is_there n ns) ≡ true → (is_there n ns ≡ true → length ns ≡ suc (length (taken_out n ns))) → suc (length ns) ≡ suc (length (if b then ns else k ∷ taken_out n ns))
    by_test true its more = refl
    by_test false its more = ap suc (more its)

stays_there : (n m : ℕ) (ns : List ℕ) → n < m → is_there m ns ≡ true → is_there m (taken_out n ns) ≡ true
stays_there n m [] less is = is
stays_there n m (k ∷ ns) less is = by_test (k == n) refl (or_split (k == m) (is_there m ns) is) (stays_there n m ns less)
  where
    never : (k == n) ≡ true → (k == m) ≡ true → ⊥
    never first second = let a = eqb-true k n first in let b = eqb-true k m second in absurd (omega (arith, a, b, less))

    by_test : (b : Bool) → (k == n) ≡ b → ((k == m) ≡ true) ⊎ (is_there m ns ≡ true) → (is_there m ns ≡ true → is_there m (taken_out n ns) ≡ true) → is_there m (if b then ns else k ∷ taken_out n ns) ≡ true
    by_test true at (inl here) more = absurd (never at here)
    by_test true at (inr there) more = there
    by_test false at (inl here) more = or_first (k == m) (is_there m (taken_out n ns)) here
    by_test false at (inr there) more = or_second (k == m) (is_there m (taken_out n ns)) (more there)

-- calls in the order of their numbers, each of which is there
no_more : (calls : List AwaitedCall) (ns : List ℕ) → CallsRise calls → ((call : AwaitedCall) → IsOneOf call calls → is_there call.xid ns ≡ true) → length calls ≤ length ns
no_more [] ns rise all = omega arith
no_more (c ∷ calls) ns rise all =
    let rest : length calls ≤ length (taken_out c.xid ns) = no_more calls (taken_out c.xid ns) rise.1 (λ call inside. stays_there c.xid call.xid ns (rise.0 call inside) (all call (inr inside))) in
    let size = one_less c.xid ns (all c (inl refl)) in
    omega (arith, rest, size)

passes : (test : AwaitedCall → Bool) (x : AwaitedCall) (xs : List AwaitedCall) → IsOneOf x (filter test xs) → test x ≡ true
passes test x [] inside = absurd inside
passes test x (y ∷ ys) inside = by_test (test y) refl inside (passes test x ys)
  where
    by_test : (b : Bool) → test y ≡ b → IsOneOf x (if b then y ∷ filter test ys else filter test ys) → (IsOneOf x (filter test ys) → test x ≡ true) → test x ≡ true
    by_test true is (inl same) rest = ap test same ∙ is
    by_test true is (inr behind) rest = rest behind
    by_test false is behind rest = rest behind

-- those of one waiter, where each has its number out at one of these places
counted : (caller : Waiter) (m : MdsValue) (ps : List Spot) → CallsRise m.calls → ((call : AwaitedCall) → IsOneOf call m.calls → is_of caller call ≡ true → has_number call.xid ps ≡ true) → calls_of caller m ≤ length (numbers ps)
counted caller m ps rise all =
    no_more (filter (is_of caller) m.calls) (numbers ps) (filter_rises (is_of caller) m.calls rise)
    (λ call inside. number_there call.xid ps (all call (in_filtered (is_of caller) call m.calls inside) (passes (is_of caller) call m.calls inside)))

-- ---- how many numbers

number_less : (o : Option ℕ) (ns : List ℕ) → length (with_number o ns) ≤ suc (length ns)
number_less None ns = omega arith
number_less (Some n) ns = omega arith

numbers_less : (ps : List Spot) → length (numbers ps) ≤ length ps
numbers_less [] = omega arith
numbers_less (p ∷ ps) = let rest = numbers_less ps in let first = number_less p.1 (numbers ps) in omega (arith, rest, first)

-- where only those that pass a test have one
passing_less : {A : Type 0} (spot : A → Spot) (keep : A → Bool) → ((x : A) → keep x ≡ false → (spot x).1 ≡ None) → (xs : List A) → length (numbers (map spot xs)) ≤ length (filter keep xs)
passing_less spot keep none [] = omega arith
passing_less {A = A} spot keep none (x ∷ xs) = by_test (keep x) refl (passing_less spot keep none xs)
  where
    by_test : (b : Bool) → keep x ≡ b → length (numbers (map spot xs)) ≤ length (filter keep xs) → length (with_number (spot x).1 (numbers (map spot xs))) ≤ length (cond b (x ∷ filter keep xs) (filter keep xs))
    by_test true is rest = let first = number_less (spot x).1 (numbers (map spot xs)) in omega (arith, rest, first)
    by_test false is rest = subst (λ (o : Option ℕ). length (with_number o (numbers (map spot xs))) ≤ length (filter keep xs)) (sym (none x is)) rest

off_given : (stage : CallStage) → not (is_given_up stage) ≡ false → number_of stage ≡ None
off_given Waits off = refl
off_given (Out xid timeouts) off = absurd cc
off_given (KeptOut xid) off = absurd cc
off_given KeptBack off = refl
off_given Done off = refl
off_given GivenUp off = refl

over_none : (stage : CallStage) → is_over stage ≡ true → number_of stage ≡ None
over_none Waits is = refl
over_none (Out xid timeouts) is = absurd cc
over_none (KeptOut xid) is = absurd cc
over_none KeptBack is = refl
over_none Done is = refl
over_none GivenUp is = refl

answered_none : (targets : List CopyTarget) → list_all (λ (t : CopyTarget). is_over t.stage) targets ≡ true → length (numbers (map target_spot targets)) ≡ 0
answered_none [] all = refl
answered_none (t ∷ targets) all =
    let both = and_parts (is_over t.stage) (list_all (λ (x : CopyTarget). is_over x.stage) targets) all in
    ap (λ (o : Option ℕ). length (with_number o (numbers (map target_spot targets)))) (over_none t.stage both.0) ∙ answered_none targets both.1

targets_few : (live : List Mirror) (targets : List CopyTarget) → length live + adds targets ≤ 4 → AreTargets live targets → length (numbers (map target_spot targets)) ≤ 4
targets_few live targets room busy = by_order busy.order
  where
    by_order : IsPart (kept_servers targets) (servers_of live) ⊎ AllByRecursion (IsAdded live) targets → length (numbers (map target_spot targets)) ≤ 4
    by_order (inl part) =
        let out = passing_less target_spot is_left (λ t off. off_given t.stage off) targets in
        let kept = length-map (filter is_left targets) (λ (t : CopyTarget). t.server) in
        let less = part_length (kept_servers targets) (servers_of live) part in
        let same = length-map live (λ (m : Mirror). m.id.server) in
        omega (arith, out, kept, less, same, room)
    by_order (inr none) =
        let out = numbers_less (map target_spot targets) in
        let same = length-map targets target_spot in
        let size = added_size live targets none in
        omega (arith, out, same, size, room)

copy_few : (live : List Mirror) (c : CopyState) → length live + adds c.targets ≤ 4 → AreTargets live c.targets → TurnsOf c → length (numbers (copy_spots c)) ≤ 4
copy_few live c room busy (inl none) =
    subst (λ (o : Option ℕ). length (with_number o (numbers (map target_spot c.targets))) ≤ 4) (sym none) (targets_few live c.targets room busy)
copy_few live c room busy (inr answered) =
    let rest = answered_none c.targets answered in
    let first = number_less (number_of c.read) (numbers (map target_spot c.targets)) in
    omega (arith, rest, first)

settle_few : (live : List Mirror) (stage : CallStage) → length (numbers (settle_spots live stage)) ≤ 4
settle_few [] stage = omega arith
settle_few (m ∷ live) stage = let first = number_less (number_of stage) [] in omega (arith, first)

own_few : (live : List Mirror) (a : Activity) → length live ≤ 4 → IsBusy live a → HasRoom (length live) a → TakesTurns a → length (numbers (spots_in live a)) ≤ 4
own_few live Idle few busy room turns = omega arith
own_few live (Makes all) few busy room turns = let out = numbers_less (map creation_spot all.items) in let same = length-map all.items creation_spot in omega (arith, out, same, room)
own_few live (Fences x) few busy room turns =
    let out = passing_less mirror_spot (λ (m : FenceMirror). not (is_given_up m.stage)) (λ m off. off_given m.stage off) x.mirrors in
    let kept = length-map (filter (λ (m : FenceMirror). not (is_given_up m.stage)) x.mirrors) (λ (m : FenceMirror). m.id) in
    let less = part_length (kept_ids x.mirrors) (ids_of live) busy in
    let same = length-map live (λ (m : Mirror). m.id) in
    omega (arith, out, kept, less, same, few)
own_few live (Settles stage) few busy room turns = settle_few live stage
own_few live (Copies c) few busy room turns = copy_few live c room busy turns

write_few : (f : MdsFile) (o : Option WaitingWrite) → length f.layout.live ≤ 4 → WritesThere f o → length (numbers (write_spots o)) ≤ 4
write_few f None few there = omega arith
write_few f (Some w) few there =
    let out = numbers_less (map writer_spot w.writer.mirrors) in
    let spots = length-map w.writer.mirrors writer_spot in
    let servers = length-map w.writer.mirrors (λ m. m.id.server) in
    let live = length-map f.layout.live (λ (m : Mirror). m.id.server) in
    let same = ap (λ (l : List ℕ). length l) there in
    omega (arith, out, spots, servers, live, same, few)

-- ---- whose a call is

its_file : (a b : FileId) → (a.0 == b.0) ≡ true → a ≡ b
its_file a b is = ap numbered (eqb-true a.0 b.0 is)

for_file : (file : FileId) (caller : Waiter) → is_for_file file caller ≡ true → caller ≡ ForFile file
for_file file (ForFile own) is = ap (λ (x : FileId). ForFile x) (its_file own file is)
for_file file (ForRead own) is = absurd (not_both (sym is))
for_file file (ForWrite own) is = absurd (not_both (sym is))
for_file file ForRecall is = absurd (not_both (sym is))

for_read : (file : FileId) (caller : Waiter) → is_for_read file caller ≡ true → caller ≡ ForRead file
for_read file (ForFile own) is = absurd (not_both (sym is))
for_read file (ForRead own) is = ap (λ (x : FileId). ForRead x) (its_file own file is)
for_read file (ForWrite own) is = absurd (not_both (sym is))
for_read file ForRecall is = absurd (not_both (sym is))

for_write : (file : FileId) (caller : Waiter) → is_for_write file caller ≡ true → caller ≡ ForWrite file
for_write file (ForFile own) is = absurd (not_both (sym is))
for_write file (ForRead own) is = absurd (not_both (sym is))
for_write file (ForWrite own) is = ap (λ (x : FileId). ForWrite x) (its_file own file is)
for_write file ForRecall is = absurd (not_both (sym is))

for_recall : (caller : Waiter) → is_for_recall caller ≡ true → caller ≡ ForRecall
for_recall (ForFile own) is = absurd (not_both (sym is))
for_recall (ForRead own) is = absurd (not_both (sym is))
for_recall (ForWrite own) is = absurd (not_both (sym is))
for_recall ForRecall is = refl

-- ---- where each call is awaited

module _ (m : MdsValue) (rise : CallsRise m.calls) (awaits : (call : AwaitedCall) → IsOneOf call m.calls → is_awaited m call ≡ true) where
  awaited : (call : AwaitedCall) → IsOneOf call m.calls → (caller : Waiter) → call.caller ≡ caller → is_awaited_by m call.node call.xid caller ≡ true
  awaited call inside caller is = ap (is_awaited_by m call.node call.xid) (sym is) ∙ awaits call inside

  module _ (file : FileId) (s : ServedFile) (there : served m file ≡ Some s) where
    own_numbers : (call : AwaitedCall) → IsOneOf call m.calls → is_for_file file call.caller ≡ true → has_number call.xid (own_spots s.file) ≡ true
    own_numbers call inside is =
        let out : is_outstanding s.file (server_number call.node) call.xid ≡ true = ap (is_file_out call.node call.xid) (sym there) ∙ awaited call inside (ForFile file) (for_file file call.caller is) in
        at_number (server_number call.node) call.xid (own_spots s.file) (sym (outstanding_at s.file (server_number call.node) call.xid s.file.activity) ∙ out)

    read_numbers : (call : AwaitedCall) → IsOneOf call m.calls → is_for_read file call.caller ≡ true → has_number call.xid (read_spots s.reads) ≡ true
    read_numbers call inside is = sym (any_read call.xid s.reads) ∙ (ap (has_read_out call.xid) (sym there) ∙ awaited call inside (ForRead file) (for_read file call.caller is))

    write_numbers : (call : AwaitedCall) → IsOneOf call m.calls → is_for_write file call.caller ≡ true → has_number call.xid (write_spots s.write) ≡ true
    write_numbers call inside is = sym (writer_out call.xid s.write) ∙ (ap (has_write_out call.xid) (sym there) ∙ awaited call inside (ForWrite file) (for_write file call.caller is))

    none_own : s.file.activity ≡ Idle → calls_of (ForFile file) m ≡ 0
    none_own idle =
        let less : calls_of (ForFile file) m ≤ length (numbers (own_spots s.file)) = counted (ForFile file) m (own_spots s.file) rise own_numbers in
        let none = ap (λ (a : Activity). length (numbers (spots_in s.file.layout.live a))) idle in
        omega (arith, less, none)

    pub file_few : (i : Fits m.fresh s) → FileCallsAreFew m file s
    file_few i =
        let live : length s.file.layout.live ≤ 4 = i.stands.file_stands.few.mirrors.few_live in
        let own = counted (ForFile file) m (own_spots s.file) rise own_numbers in
        let own_less = own_few s.file.layout.live s.file.activity live i.stands.file_stands.ordered.busy i.stands.file_stands.few.room i.turns in
        let reads = counted (ForRead file) m (read_spots s.reads) rise read_numbers in
        let reads_less = numbers_less (read_spots s.reads) in
        let reads_same = length-map s.reads read_spot in
        let write = counted (ForWrite file) m (write_spots s.write) rise write_numbers in
        let write_less = write_few s.file s.write live i.stands.writes in
        record {
          own = omega (arith, own, own_less);
          none = λ rests. none_own (nothing_under_way s.file.activity s.file.layout.phase (idle_at s.file.layout.phase rests) i.agrees);
          reads = omega (arith, reads, reads_less, reads_same);
          write = omega (arith, write, write_less);
        }
      where
        idle_at : (p : LayoutPhase) → IsFreeOrHeld p → is_idle p ≡ true
        idle_at p (inl free) = ap is_idle free
        idle_at p (inr held) = ap is_idle held.2

  recall_numbers : (call : AwaitedCall) → IsOneOf call m.calls → is_for_recall call.caller ≡ true → has_number call.xid (recall_spots m.recalls) ≡ true
  recall_numbers call inside is = by_place (out_at m.recalls call.xid) refl (awaited call inside ForRecall (for_recall call.caller is))
    where
      by_place : (o : Option ℕ) → out_at m.recalls call.xid ≡ o → is_some o ≡ true → has_number call.xid (recall_spots m.recalls) ≡ true
      by_place None at some = absurd (not_both (sym some))
      by_place (Some place) at some =
          let k : FoundOff (λ (r : Recall). is_out_as call.xid r.stage) m.recalls place = found_off (λ (r : Recall). is_out_as call.xid r.stage) m.recalls place at in
          got_number call.xid (recall_spots m.recalls) place (recall_spot k.x) (map_get recall_spot m.recalls place k.x k.at) (sym (recall_out call.xid k.x.stage) ∙ k.passes)

  pub recalls_few : calls_of ForRecall m ≤ length m.recalls
  recalls_few =
      let all = counted ForRecall m (recall_spots m.recalls) rise recall_numbers in
      let less = numbers_less (recall_spots m.recalls) in
      let same = length-map m.recalls recall_spot in
      omega (arith, all, less, same)

-- ---- the law

at_place : (m : MdsValue) (place : ℕ) (s : ServedFile) → slice_get m.files place ≡ Some s → served m (numbered (suc place)) ≡ Some s
at_place m place s is =
    let pred : suc place - 1 ≡ place = omega arith in
    ap (λ (b : Bool). if b then None else slice_get m.files (suc place - 1)) (ne_eqb (suc place) 0 (λ e. omega (arith, e))) ∙ (ap (λ (k : ℕ). slice_get m.files k) pred ∙ is)

pub ticks_leave_few : (servers : List AddressValue) (mirrors : ℕ) (events : List MdsEvent) (now : ℕ) → TicksLeaveFew servers mirrors events now
ticks_leave_few servers mirrors events now few there =
    let run : MdsStep = mds_run servers mirrors events in
    let tick : MdsEvent = record { now = now; input = IsTick } in
    let step : MdsStep = takes_tick now run.mds in
    let n : MdsValue = step.mds in
    let before : Rising run.mds run.entries run.sends = in_each_run Rising AnyCompound rising_whole (new_mds servers mirrors) events (new_table, tt) in
    let rising : Rising n (run.entries ++ step.entries) (run.sends ++ step.sends) = event_walk Rising HeardAny AnyCompound rising_whole tick (hears_any Rising IsTick) run.mds run.entries run.sends before in
    let stood : IsSo run.mds run.entries run.sends = behind_each_run IsSo cases (λ m request moment es ss i. i) (new_mds servers mirrors) events (begun servers mirrors few there) in
    let stands : IsSo n (run.entries ++ step.entries) (run.sends ++ step.sends) = each_event IsSo HeardAny cases (λ m request moment es ss i. i) tick (hears_any IsSo IsTick) run.mds run.entries run.sends stood in
    let awaits : (call : AwaitedCall) → IsOneOf call n.calls → is_awaited n call ≡ true = awaits_each now run.mds in
    record {
      files = λ place s at. file_few n rising.1 awaits (numbered (suc place)) s (at_place n place s at) (each_fits n (run.entries ++ step.entries) (run.sends ++ step.sends) stands place s at);
      recalls = recalls_few n rising.1 awaits;
    }
