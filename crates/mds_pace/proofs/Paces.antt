-- What goes out again in each event, by what came.
use Rattle.std.proofs.Common.{◌≡◌, ℕ, ◌+◌, suc, Bool, true, false, List, [], ◌∷◌, ◌++◌, length, Option, Some, None, refl, sym, ap, subst, ◌∙◌, arith}
use Rattle.std.specs.Prelude.{◌-◌, not, map, slice_get, if◌then◌else◌}
use Rattle.std.specs.List.{filter, flat_map, range_with_len}
use Rattle.std.proofs.lemmas.Bool.{cond_both}
use Rattle.std.proofs.lemmas.List.{append-nil, length-map}
use Rattle.cluster_model.specs.declared.ids.NodeId.{NodeId}
use Rattle.file_rule.specs.FilePhases.{Resilver, Ticks as TickInput}
use Rattle.ds_calls.specs.GivenReplies.{reply_of_call}
use Rattle.recall_calls.specs.RecallAnswers.{recall_status}
use Rattle.mds_activity.specs.FileCalls.{kept_out}
use Rattle.mds_receive.specs.MdsReceive.{IncomingValue, PassedOver, IsReply, IsAnswered, IsCompound, incoming_of}
use Rattle.mds_rule.specs.MdsStates.{ServedFile, MdsSend, AwaitedCall, MdsValue, MdsStep, sends_none, and_then, without_call, numbered}
use Rattle.mds_rule.specs.ServedFiles.{takes_input, asks_back}
use Rattle.mds_rule.specs.Compounds.{runs_compound}
use Rattle.mds_rule.specs.Answers.{is_awaited, takes_answer, timed_out_for}
use Rattle.mds_rule.specs.Goes.{each, calls_out}
use Rattle.mds_rule.specs.Events.{takes_incoming, late_call, is_kept_by, goes_again, times_out, kept_calls}
use Rattle.mds_walk.specs.MdsRuns.{MdsInput, Hears, IsTimedOut, Ticks, RecallsFile, Resilvers}
use Rattle.mds_progress.specs.TickLaw.{ends_with}
use Rattle.mds_progress.proofs.Ticked.{each_length}
use Rattle.mds_pace.specs.MdsPace.{went_before, repeats_in, IsOneAtMost, IsOfLate, kept_record, kept_records, NumbersTaken, RepeatsKept, PacesEvent}
use Rattle.mds_pace.proofs.Taken.{IsFrom, from_itself, both_again}
use Rattle.mds_pace.proofs.Calling.{Stands, begun, none_again, record_at, kept_again}
use Rattle.mds_pace.proofs.Still.{Still, takes_still, asks_still, ends_still, pass_still}
use Rattle.mds_pace.proofs.OpsFrom.{Quiet, quiet_still, compound_quiet}
use Rattle.mds_pace.proofs.Heard.{answers_quiet, timeout_quiet}

-- nothing goes out again at the end of an event that kept nothing
out_none : (x : ℕ) (m : MdsValue) → IsFrom x m.next_xid → filter (went_before x) (calls_out [] m).sends ≡ []
out_none x m f = (none_again x m.calls m (begun x m.calls m.calls m.next_xid refl f)).1

then_none : (m : MdsValue) (s : MdsStep) → Quiet m.next_xid m s → repeats_in m (and_then s (calls_out [])) ≡ []
then_none m s q =
    let n : IsFrom m.next_xid s.mds.next_xid × (filter (went_before m.next_xid) s.sends ≡ []) = q (from_itself m.next_xid) in
    both_again m.next_xid s.sends (calls_out [] s.mds).sends [] [] n.1 (out_none m.next_xid s.mds n.0)

-- ---- a record

incoming_none : (now : ℕ) (m : MdsValue) (node : NodeId) (v : IncomingValue) → repeats_in m (takes_incoming now m node v) ≡ []
incoming_none now m node PassedOver = refl
incoming_none now m node (IsReply reply) =
    let call : MdsStep = takes_answer now m node reply.xid (λ call. reply_of_call call reply) (recall_status reply.stat reply.results) in
    then_none m call (answers_quiet m.next_xid now m node reply.xid (λ call. reply_of_call call reply) (recall_status reply.stat reply.results))
incoming_none now m node (IsAnswered bytes) = refl
incoming_none now m node (IsCompound xid v) = then_none m (runs_compound now m node xid v) (compound_quiet m.next_xid now m node xid v)

-- ---- a timeout

-- its record goes again, or not
again_most : (x : ℕ) (P : MdsSend → Type 0) (call : AwaitedCall) (m : MdsValue) → P call.sent → IsOneAtMost P (filter (went_before x) (goes_again call m).sends)
again_most x P call m its =
    cond_both (not (is_awaited m call)) (sends_none (record m { calls = without_call call.node call.xid m.calls })) (if is_kept_by m call.xid call.caller then sends_none m else again) (λ (s : MdsStep). IsOneAtMost P (filter (went_before x) s.sends)) (λ off. tt)
    (λ on. cond_both (is_kept_by m call.xid call.caller) (sends_none m) again (λ (s : MdsStep). IsOneAtMost P (filter (went_before x) s.sends)) (λ kept. tt) (λ other. by_again (went_before x call.sent)))
  where
    again : MdsStep
    again = record { mds = m; entries = []; sends = call.sent ∷ [] }

    by_again : (b : Bool) → IsOneAtMost P (if b then call.sent ∷ [] else [])
    by_again true = its
    by_again false = tt

same_number : (call : AwaitedCall) (m : MdsValue) → (goes_again call m).mds.next_xid ≡ m.next_xid
same_number call m =
    cond_both (not (is_awaited m call)) (sends_none (record m { calls = without_call call.node call.xid m.calls })) (if is_kept_by m call.xid call.caller then sends_none m else again) (λ (s : MdsStep). s.mds.next_xid ≡ m.next_xid) (λ off. refl)
    (λ on. cond_both (is_kept_by m call.xid call.caller) (sends_none m) again (λ (s : MdsStep). s.mds.next_xid ≡ m.next_xid) (λ kept. refl) (λ other. refl))
  where
    again : MdsStep
    again = record { mds = m; entries = []; sends = call.sent ∷ [] }

late_most : (now : ℕ) (m : MdsValue) (P : MdsSend → Type 0) (o : Option AwaitedCall) → ((call : AwaitedCall) → o ≡ Some call → P call.sent) → IsOneAtMost P (repeats_in m (times_out now m o))
late_most now m P None its = tt
late_most now m P (Some call) its =
    let x : ℕ = m.next_xid in
    let timed : MdsStep = timed_out_for now m call.xid call.caller in
    let again : MdsStep = goes_again call timed.mds in
    let out : MdsStep = calls_out [] again.mds in
    let n : IsFrom x timed.mds.next_xid × (filter (went_before x) timed.sends ≡ []) = timeout_quiet x now m call.xid call.caller (from_itself x) in
    let first : filter (went_before x) (timed.sends ++ again.sends) ≡ filter (went_before x) again.sends = both_again x timed.sends again.sends [] (filter (went_before x) again.sends) n.1 refl in
    let all : filter (went_before x) ((timed.sends ++ again.sends) ++ out.sends) ≡ filter (went_before x) again.sends ++ [] =
    both_again x (timed.sends ++ again.sends) out.sends (filter (went_before x) again.sends) [] first (out_none x again.mds (subst (λ (y : ℕ). IsFrom x y) (sym (same_number call timed.mds)) n.0)) in
    subst (λ (l : List MdsSend). IsOneAtMost P l) (sym (all ∙ append-nil (filter (went_before x) again.sends))) (again_most x P call timed.mds (its call refl))

-- ---- a tick

-- each element of a list by its place
by_places : {A : Type 0} (f : Option A → List MdsSend) (look : ℕ → Option A) (list : List A) (from : ℕ) → ((i : ℕ) → look (from + i) ≡ slice_get list i)
    → flat_map (λ (n : ℕ). f (look n)) (range_with_len from (length list)) ≡ flat_map (λ (a : A). f (Some a)) list
by_places f look [] from at = refl
by_places {A = A} f look (a ∷ list) from at =
    ap (λ (l : List MdsSend). l ++ flat_map (λ (n : ℕ). f (look n)) (range_with_len (from + 1) (length list))) (ap f (ap look (no_more from) ∙ at 0))
    ∙ ap (λ (l : List MdsSend). f (Some a) ++ l) (by_places f look list (from + 1) (λ i. ap look (one_more from i) ∙ at (suc i)))
  where
    no_more : (n : ℕ) → n ≡ n + 0
    no_more n = omega arith

    one_more : (n i : ℕ) → n + 1 + i ≡ n + suc i
    one_more n i = omega arith

of_mapped : {A B : Type 0} (f : B → List MdsSend) (g : A → B) (list : List A) → flat_map f (map g list) ≡ flat_map (λ (a : A). f (g a)) list
of_mapped f g [] = refl
of_mapped f g (a ∷ list) = ap (λ (l : List MdsSend). f (g a) ++ l) (of_mapped f g list)

kept_in_order : (x : ℕ) (calls : List AwaitedCall) (files : List ServedFile)
    → flat_map (λ (n : ℕ). record_at x calls (slice_get (map (λ (s : ServedFile). kept_out s.file) files) (n - 1))) (range_with_len 1 (length files)) ≡ flat_map (λ (s : ServedFile). kept_record calls (kept_out s.file)) files
kept_in_order x calls files =
    let kept : List (Option (ℕ × ℕ)) = map (λ (s : ServedFile). kept_out s.file) files in
    ap (λ (k : ℕ). flat_map (λ (n : ℕ). record_at x calls (slice_get kept (n - 1))) (range_with_len 1 k)) (sym (length-map files (λ (s : ServedFile). kept_out s.file)))
    ∙ by_places (record_at x calls) (λ (n : ℕ). slice_get kept (n - 1)) kept 1 (λ i. ap (λ (k : ℕ). slice_get kept k) (first_at i))
    ∙ of_mapped (λ (o : Option (ℕ × ℕ)). kept_record calls o) (λ (s : ServedFile). kept_out s.file) files
  where
    first_at : (i : ℕ) → 1 + i - 1 ≡ i
    first_at i = omega arith

pub repeats_kept : (now : ℕ) (m : MdsValue) → NumbersTaken m → RepeatsKept now m
repeats_kept now m taken =
    let x : ℕ = m.next_xid in
    let ends : MdsStep = ends_with now m in
    let pass : MdsStep = each (λ n k. takes_input k (numbered n) TickInput) (range_with_len 1 (length ends.mds.files)) ends.mds in
    let out : MdsStep = calls_out (kept_calls ends.mds) pass.mds in
    let e : Still m ends = ends_still now m in
    let p : Still ends.mds pass = pass_still (range_with_len 1 (length ends.mds.files)) ends.mds in
    let start : Stands x m.calls pass.mds.calls pass.mds.next_xid = begun x m.calls pass.mds.calls pass.mds.next_xid (p.calls ∙ e.calls) (subst (λ (n : ℕ). IsFrom x n) (sym (p.number ∙ e.number)) (from_itself x)) in
    let ends_none : filter (went_before x) ends.sends ≡ [] = ap (λ (l : List MdsSend). filter (went_before x) l) e.none in
    let pass_none : filter (went_before x) pass.sends ≡ [] = ap (λ (l : List MdsSend). filter (went_before x) l) p.none in
    let went : filter (went_before x) out.sends ≡ flat_map (λ (n : ℕ). record_at x m.calls (slice_get (kept_calls ends.mds) (n - 1))) (range_with_len 1 (length pass.mds.files)) = (kept_again x m.calls taken (kept_calls ends.mds) pass.mds start).1 in
    let order : filter (went_before x) out.sends ≡ flat_map (λ (s : ServedFile). kept_record m.calls (kept_out s.file)) ends.mds.files =
    went
    ∙ ap (λ (k : ℕ). flat_map (λ (n : ℕ). record_at x m.calls (slice_get (kept_calls ends.mds) (n - 1))) (range_with_len 1 k)) (each_length (range_with_len 1 (length ends.mds.files)) ends.mds)
    ∙ kept_in_order x m.calls ends.mds.files in
    let its : filter (went_before x) out.sends ≡ kept_records ends.mds = order ∙ ap (λ (l : List AwaitedCall). flat_map (λ (s : ServedFile). kept_record l (kept_out s.file)) ends.mds.files) (sym e.calls) in
    both_again x (ends.sends ++ (pass.sends ++ out.sends)) [] (kept_records ends.mds) []
    (both_again x ends.sends (pass.sends ++ out.sends) [] (kept_records ends.mds) ends_none (both_again x pass.sends out.sends [] (kept_records ends.mds) pass_none its)) refl
    ∙ append-nil (kept_records ends.mds)

-- ---- each event

pub paces : (now : ℕ) (input : MdsInput) (m : MdsValue) → PacesEvent now input m
paces now (Hears from bytes) m = incoming_none now m from (incoming_of bytes)
paces now (IsTimedOut to which) m = late_most now m (IsOfLate m to which) (late_call m to which) (λ call is. (call, is, refl))
paces now Ticks m = repeats_kept now m
paces now (RecallsFile file) m = then_none m (asks_back m file now) (quiet_still m.next_xid m (asks_back m file now) (asks_still m file now))
paces now (Resilvers file) m = then_none m (takes_input m file Resilver) (quiet_still m.next_xid m (takes_input m file Resilver) (takes_still m file Resilver))
