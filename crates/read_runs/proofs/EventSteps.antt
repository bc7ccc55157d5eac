-- Each event keeps what holds by the history, and so each run.
use Rattle.std.proofs.Common.{◌≡◌, ◌≤◌, ℕ, zero, suc, Bool, true, false, cond, List, [], ◌∷◌, ◌++◌, length, Option, Some, None, refl, sym, subst, inl, inr}
use Rattle.std.specs.Prelude.{not, ◌==◌, if◌then◌else◌, map, filter}
use Rattle.std.specs.List.{find, range_with_len}
use Rattle.std.proofs.lemmas.Bool.{cond_both}
use Rattle.std.proofs.lemmas.List.{append_assoc, append-nil}
use Rattle.std.proofs.lemmas.Option.{none-some}
use Rattle.cluster_model.specs.declared.ids.NodeId.{NodeId}
use Rattle.cluster_model.specs.declared.ids.NodeId.TheVariants.{Mds}
use Rattle.cluster_model.specs.declared.ids.FileId.{FileId}
use Rattle.cluster_model.specs.declared.ids.Cred.{Cred}
use Rattle.cluster_model.specs.declared.phase.EndCause.TheVariants.{Lease, Recalled}
use Rattle.cluster_model.specs.declared.entry.Entry.TheVariants as entry
use Rattle.cluster_model.specs.Members.{IsOneOf}
use Rattle.device_addr.specs.Universal.{AddressValue}
use Rattle.file_rule.specs.FilePhases.{Revokes, Resilver, Ticks}
use Rattle.ds_calls.specs.GivenReplies.{reply_of_call}
use Rattle.recall_calls.specs.RecallAnswers.{recall_status}
use Rattle.nfs4_session.specs.Clients.{ClientState}
use Rattle.nfs4_session.specs.Ends.{has_ended, without_client}
use Rattle.recall.specs.Recalls.{after_tick}
use Rattle.mds_receive.specs.MdsReceive.{IncomingValue, PassedOver, IsReply, IsAnswered, IsCompound, incoming_of}
use Rattle.nfs4_compound.specs.Compounds.{CompoundValue}
use Rattle.mds_rule.specs.MdsStates.{ServedFile, MdsSend, Answers, AwaitedCall, MdsValue, MdsStep, sends_none, and_then, without_call, served_in, numbered, new_mds, is_call_to}
use Rattle.mds_rule.specs.ServedFiles.{takes_input, asks_back, ends_client}
use Rattle.mds_rule.specs.Compounds.{runs_compound}
use Rattle.mds_rule.specs.Answers.{is_awaited, takes_answer, timed_out_for}
use Rattle.mds_rule.specs.Goes.{each, calls_out}
use Rattle.mds_rule.specs.Events.{takes_incoming, late_call, is_kept_by, goes_again, times_out, takes_timeout, lease_ends, leases_end, recall_expires, recalls_expire, kept_calls, files_tick, forgets_calls, takes_tick}
use Rattle.mds_walk.specs.MdsRuns.{MdsInput, MdsEvent, Hears, IsTimedOut, Ticks as IsTick, RecallsFile, Resilvers, by_input, after_event, run_from}
use Rattle.mds_walk.proofs.Lists.{in_more}
use Rattle.mds_walk.proofs.LateFound.{late_is}
use Rattle.mds_histories.specs.MdsHistory.{MdsItem, Comes, Enters, Sends, items_of, mds_history, sends_in}
use Rattle.mds_histories.proofs.Histories.{sends_joined}
use Rattle.read_runs.specs.ReadRuns.{HearsInForm, AreInForm, ReadsInForm, EachReadIsAnswered}
use Rattle.read_runs.proofs.Answered.{AreRight, right_at}
use Rattle.read_runs.proofs.Holding.{Holds, holds_still, holds_replied, holds_again, holds_forget}
use Rattle.read_runs.proofs.Steps.{KeepsAt, Keeps, Silent, Mute, items_in, same, enters_keeps_at, silent_then, silent_none, silent_same, silent_keeps, becomes_silent, silent_first, mute_keeps, last_at, mute_last_at, mute_last, mute_none}
use Rattle.read_runs.proofs.ServedSteps.{takes, asks, client_ends}
use Rattle.read_runs.proofs.CompoundSteps.{compound_step, timeout_step}
use Rattle.read_runs.proofs.ReadCompounds.{reads_step}
use Rattle.read_runs.proofs.ReplySteps.{answer_step}
use Rattle.read_runs.proofs.GoesSteps.{out_step}

-- ---- records

-- the history with what has come
abbrev with_event : List MdsItem → ℕ → MdsInput → List MdsItem
with_event past now input = past ++ Comes (record { now = now; input = input }) ∷ []

it_came : (past : List MdsItem) (now : ℕ) (input : MdsInput) (m : MdsValue) → Holds m past → Holds m (with_event past now input)
it_came past now input m i = holds_still m.mirrors m.files m.calls m.next_xid past i (Comes (record { now = now; input = input }) ∷ []) (tt, tt) refl

compound_at : (past : List MdsItem) (now : ℕ) (m : MdsValue) (node : NodeId) (bytes : List ℕ) (xid : ℕ) (v : CompoundValue) → incoming_of bytes ≡ IsCompound xid v → ReadsInForm v
    → KeepsAt (with_event past now (Hears node bytes)) m (runs_compound now m node xid v)
compound_at past now m node bytes xid v is (inl none) = compound_step now m node xid v none (with_event past now (Hears node bytes))
compound_at past now m node bytes xid v is (inr (file, at, count, reads)) = reads_step past now m node xid bytes v file at count is reads

answers_so : (m : MdsValue) (node : NodeId) (bytes : List ℕ) → Mute m (record { mds = m; entries = []; sends = Answers node bytes ∷ [] })
answers_so m node bytes = record { sends = λ h i. holds_replied m.mirrors m.files m.calls m.next_xid h i (Answers node bytes) refl; none = refl }

incoming_step : (past : List MdsItem) (now : ℕ) (m : MdsValue) (node : NodeId) (bytes : List ℕ) → HearsInForm (Hears node bytes) → Holds m past → (v : IncomingValue) → incoming_of bytes ≡ v
    → Holds (takes_incoming now m node v).mds (with_event past now (Hears node bytes) ++ items_in (takes_incoming now m node v))
incoming_step past now m node bytes form i PassedOver is = same m (with_event past now (Hears node bytes)) (it_came past now (Hears node bytes) m i)
incoming_step past now m node bytes form i (IsReply reply) is =
    let status : ℕ = recall_status reply.stat reply.results in
    mute_last_at (with_event past now (Hears node bytes)) m (takes_answer now m node reply.xid (λ call. reply_of_call call reply) status) (calls_out [])
    (λ j. answer_step past now node bytes reply is m i status) (λ n. out_step [] n) (it_came past now (Hears node bytes) m i)
incoming_step past now m node bytes form i (IsAnswered given) is = mute_keeps m _ (answers_so m node given) (with_event past now (Hears node bytes)) (it_came past now (Hears node bytes) m i)
incoming_step past now m node bytes form i (IsCompound xid v) is =
    mute_last_at (with_event past now (Hears node bytes)) m (runs_compound now m node xid v) (calls_out []) (compound_at past now m node bytes xid v is (form xid v is)) (λ n. out_step [] n) (it_came past now (Hears node bytes) m i)

-- ---- a timeout

again_sends : (call : AwaitedCall) (m : MdsValue) (h : List MdsItem) → IsOneOf call.sent (sends_in h) → Holds m h → Holds (goes_again call m).mds (h ++ map Sends (goes_again call m).sends)
again_sends call m h inside i =
    cond_both (not (is_awaited m call)) (sends_none forgotten) (if is_kept_by m call.xid call.caller then sends_none m else again) (λ (s : MdsStep). Holds s.mds (h ++ map Sends s.sends))
    (λ none. subst (λ (l : List MdsItem). Holds forgotten l) (sym (append-nil h)) (holds_forget m.mirrors m.files m.calls m.next_xid h i (λ c. not (is_call_to call.node call.xid c))))
    (λ some.
    cond_both (is_kept_by m call.xid call.caller) (sends_none m) again (λ (s : MdsStep). Holds s.mds (h ++ map Sends s.sends)) (λ kept. subst (λ (l : List MdsItem). Holds m l) (sym (append-nil h)) i)
    (λ other. holds_again m.mirrors m.files m.calls m.next_xid h i call.sent inside))
  where
    forgotten : MdsValue
    forgotten = record m { calls = without_call call.node call.xid m.calls }

    again : MdsStep
    again = record { mds = m; entries = []; sends = call.sent ∷ [] }

again_enters : (call : AwaitedCall) (m : MdsValue) → (goes_again call m).entries ≡ []
again_enters call m =
    cond_both (not (is_awaited m call)) (sends_none forgotten) (if is_kept_by m call.xid call.caller then sends_none m else again) (λ (s : MdsStep). s.entries ≡ []) (λ none. refl)
    (λ some. cond_both (is_kept_by m call.xid call.caller) (sends_none m) again (λ (s : MdsStep). s.entries ≡ []) (λ kept. refl) (λ other. refl))
  where
    forgotten : MdsValue
    forgotten = record m { calls = without_call call.node call.xid m.calls }

    again : MdsStep
    again = record { mds = m; entries = []; sends = call.sent ∷ [] }

sent_on : (h more : List MdsItem) (s : MdsSend) → IsOneOf s (sends_in h) → IsOneOf s (sends_in (h ++ more))
sent_on h more s inside = subst (λ (ss : List MdsSend). IsOneOf s ss) (sym (sends_joined h more)) (in_more s (sends_in h) (sends_in more) inside)

late_step : (now : ℕ) (m : MdsValue) (call : AwaitedCall) → IsOneOf call m.calls → Keeps m (times_out now m (Some call))
late_step now m call inside h i =
    let timed : MdsStep = timed_out_for now m call.xid call.caller in
    let noted : List MdsItem = Enters (entry.TimedOut Mds call.xid) ∷ [] in
    let g : List MdsItem = h ++ noted in
    enters_keeps_at h m m (entry.TimedOut Mds call.xid ∷ []) (and_then (and_then timed (goes_again call)) (calls_out []))
    (λ j. holds_still m.mirrors m.files m.calls m.next_xid h j noted (refl, tt) refl)
    (mute_last_at g m (and_then timed (goes_again call)) (calls_out [])
    (last_at g m timed (goes_again call) (timeout_step now m call.xid call.caller g)
    (again_sends call timed.mds (g ++ items_in timed) (sent_on g (items_in timed) call.sent (sent_on h noted call.sent (i.numbered.were call inside)))) (again_enters call timed.mds))
    (λ n. out_step [] n))
    i

times_step : (now : ℕ) (m : MdsValue) (o : Option AwaitedCall) → ((call : AwaitedCall) → o ≡ Some call → IsOneOf call m.calls) → Keeps m (times_out now m o)
times_step now m None inside = same m
times_step now m (Some call) inside = late_step now m call (inside call refl)

timeouts_step : (now : ℕ) (m : MdsValue) (node : NodeId) (which : Option ℕ) → Keeps m (takes_timeout now m node which)
timeouts_step now m node which = times_step now m (late_call m node which) (λ call is. (late_is m node which call is).inside)

-- ---- a tick

lease_step : (m : MdsValue) (o : Option ClientState) (next : MdsValue → MdsStep) → ((n : MdsValue) → Silent n (next n)) → Silent m (lease_ends m o next)
lease_step m None next all = silent_same m
lease_step m (Some c) next all =
    let n : MdsValue = record m { sessions = without_client m.sessions c.id } in
    silent_then m (ends_client n c.id Lease) next (becomes_silent m n (ends_client n c.id Lease) (λ h i. i) (client_ends n c.id Lease)) all

leases_step : (now n : ℕ) (m : MdsValue) → Silent m (leases_end now n m)
leases_step now zero m = silent_same m
leases_step now (suc n) m = lease_step m (find (has_ended now) m.sessions.clients) (leases_end now n) (λ x. leases_step now n x)

expires_step : (m : MdsValue) (o : Option (FileId × Cred)) (next : MdsValue → MdsStep) → ((n : MdsValue) → Silent n (next n)) → Silent m (recall_expires m o next)
expires_step m None next all = silent_same m
expires_step m (Some grant) next all = silent_then m (takes_input m grant.0 (Revokes Recalled)) next (takes m grant.0 (Revokes Recalled) (λ s. tt)) all

recalls_step : (now n : ℕ) (m : MdsValue) → Silent m (recalls_expire now n m)
recalls_step now zero m = silent_none m (record m { recalls = (after_tick m.recalls now).recalls }) (λ h i. i)
recalls_step now (suc n) m =
    let x : MdsValue = record m { recalls = (after_tick m.recalls now).recalls } in
    becomes_silent m x (recall_expires x (after_tick m.recalls now).expired (recalls_expire now n)) (λ h i. i) (expires_step x (after_tick m.recalls now).expired (recalls_expire now n) (λ y. recalls_step now n y))

each_silent : {A : Type 0} (step : A → MdsValue → MdsStep) → ((a : A) (m : MdsValue) → Silent m (step a m)) → (list : List A) (m : MdsValue) → Silent m (each step list m)
each_silent step all [] m = silent_same m
each_silent step all (a ∷ list) m = silent_then m (step a m) (λ n. each step list n) (all a m) (λ n. each_silent step all list n)

files_step : (m : MdsValue) → Keeps m (files_tick m)
files_step m =
    let all : MdsStep = each (λ n x. takes_input x (numbered n) Ticks) (range_with_len 1 (length m.files)) m in
    mute_last m all (calls_out (kept_calls m))
    (silent_keeps m all (each_silent (λ n x. takes_input x (numbered n) Ticks) (λ n x. takes x (numbered n) Ticks (λ s. tt)) (range_with_len 1 (length m.files)) m)) (λ n. out_step (kept_calls m) n)

forgets_step : (m : MdsValue) → Mute m (forgets_calls m)
forgets_step m = mute_none m (record m { calls = filter (is_awaited m) m.calls }) (λ h i. holds_forget m.mirrors m.files m.calls m.next_xid h i (is_awaited m))

tick_step : (now : ℕ) (m : MdsValue) → Keeps m (takes_tick now m)
tick_step now m =
    let leases : MdsStep = leases_end now (length m.sessions.clients) m in
    let expired : MdsStep = and_then leases (λ n. recalls_expire now (length n.recalls) n) in
    mute_last m (and_then expired files_tick) forgets_calls
    (silent_first m expired files_tick
    (silent_then m leases (λ n. recalls_expire now (length n.recalls) n) (leases_step now (length m.sessions.clients) m) (λ n. recalls_step now (length n.recalls) n)) (λ n. files_step n))
    (λ n. forgets_step n)

-- ---- an event

event_step : (past : List MdsItem) (now : ℕ) (input : MdsInput) (m : MdsValue) → HearsInForm input → Holds m past → Holds (by_input now input m).mds (with_event past now input ++ items_in (by_input now input m))
event_step past now (Hears node bytes) m form i = incoming_step past now m node bytes form i (incoming_of bytes) refl
event_step past now (IsTimedOut to which) m form i = timeouts_step now m to which (with_event past now (IsTimedOut to which)) (it_came past now (IsTimedOut to which) m i)
event_step past now IsTick m form i = tick_step now m (with_event past now IsTick) (it_came past now IsTick m i)
event_step past now (RecallsFile file) m form i =
    mute_last m (asks_back m file now) (calls_out []) (silent_keeps m (asks_back m file now) (asks m file now)) (λ n. out_step [] n) (with_event past now (RecallsFile file)) (it_came past now (RecallsFile file) m i)
event_step past now (Resilvers file) m form i =
    mute_last m (takes_input m file Resilver) (calls_out []) (silent_keeps m (takes_input m file Resilver) (takes m file Resilver (λ s. tt))) (λ n. out_step [] n) (with_event past now (Resilvers file)) (it_came past now (Resilvers file) m i)

run_step : (events : List MdsEvent) (m : MdsValue) (past : List MdsItem) → AreInForm events → Holds m past → Holds (run_from m events).mds (past ++ mds_history m events)
run_step [] m past form i = subst (λ (l : List MdsItem). Holds m l) (sym (append-nil past)) i
run_step (e ∷ events) m past form i =
    let s : MdsStep = after_event e m in
    subst (λ (l : List MdsItem). Holds (run_from s.mds events).mds l) (append_assoc past (items_of e s) (mds_history s.mds events))
    (run_step events s.mds (past ++ items_of e s) form.1 (subst (λ (l : List MdsItem). Holds s.mds l) (append_assoc past (Comes e ∷ []) (items_in s)) (event_step past e.now e.input m form.0 i)))

-- ---- a new server

none_served : (file : FileId) (s : ServedFile) → served_in [] file ≡ Some s → ⊥
none_served file s is = by_zero (file.0 == 0) is
  where
    by_zero : (b : Bool) → cond {A = Option ServedFile} b None None ≡ Some s → ⊥
    by_zero true its = none-some s its
    by_zero false its = none-some s its

begun : (servers : List AddressValue) (mirrors : ℕ) → mirrors ≤ 4 → Holds (new_mds servers mirrors) []
begun servers mirrors few = record {
  few = few;
  files_so = λ file s is. absurd (none_served file s is);
  not_told = λ file is. refl;
  numbered = record { below = λ has. tt; once = λ a b xid first second as_a as_b. absurd first; were = λ call inside. absurd inside; are = λ call inside. absurd inside };
  right = tt;
}

-- each READ that is answered has what its answer rests on
pub each_answered : EachReadIsAnswered
each_answered servers mirrors events few form past behind file status bytes is =
    right_at [] past behind (Enters (entry.ReadAnswer file status bytes)) (subst (λ (l : List MdsItem). AreRight [] l) is (run_step events (new_mds servers mirrors) [] form (begun servers mirrors few)).right)
