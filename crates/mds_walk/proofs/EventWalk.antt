-- Each event, and so each run, keeps what is kept in each case.
use Rattle.std.proofs.Common.{◌≡◌, ℕ, zero, suc, true, Bool, false, List, [], ◌∷◌, ◌++◌, length, Option, Some, None, refl, sym, ap, subst, ◌∙◌}
use Rattle.std.specs.Prelude.{not, ◌==◌, ◌&&◌, if◌then◌else◌, filter}
use Rattle.std.specs.List.{find, list_any, range_with_len}
use Rattle.std.proofs.lemmas.Bool.{cond_both, eq-eqb}
use Rattle.std.proofs.lemmas.List.{append-nil}
use Rattle.cluster_model.specs.declared.ids.NodeId.{NodeId}
use Rattle.cluster_model.specs.declared.ids.NodeId.TheVariants.{Mds, Server, Client}
use Rattle.cluster_model.specs.declared.ids.FileId.{FileId}
use Rattle.cluster_model.specs.declared.ids.Cred.{Cred}
use Rattle.cluster_model.specs.declared.phase.EndCause.TheVariants.{Lease, Recalled}
use Rattle.cluster_model.specs.declared.entry.Entry.{Entry}
use Rattle.cluster_model.specs.declared.entry.Entry.TheVariants as entry
use Rattle.file_rule.specs.FilePhases.{OwnWrite, TimesOut, phase, Revokes, Resilver, Ticks, AsksLayout, Returns}
use Rattle.rpc_record.specs.Replies.{RpcReply}
use Rattle.cluster_model.specs.Members.{IsOneOf}
use Rattle.ds_calls.specs.GivenReplies.{reply_of_call}
use Rattle.recall_calls.specs.RecallAnswers.{recall_status}
use Rattle.nfs4_session.specs.Clients.{ClientState}
use Rattle.nfs4_session.specs.Ends.{has_ended, without_client}
use Rattle.nfs4_session.specs.TableLaw.{Expire, expired_by}
use Rattle.recall.specs.Recalls.{after_tick, without_file}
use Rattle.mds_receive.proofs.ReceivedSo.{numbered as answers_numbered}
use Rattle.mds_receive.specs.MdsReceive.{IncomingValue, PassedOver, IsReply, IsAnswered, IsCompound, incoming_of}
use Rattle.nfs4_compound.specs.Compounds.{CompoundValue}
use Rattle.mds_rule.specs.declared.waiter.Waiter.{Waiter}
use Rattle.mds_rule.specs.MdsStates.{CompoundRun, ServedFile, MdsSend, Answers, AwaitedCall, MdsValue, MdsStep, sends_none, and_then, is_call_to, without_call, numbered, with_served}
use Rattle.mds_rule.specs.ServedFiles.{takes_input, asks_back, ends_client, is_period_end, file_behind, file_stepped}
use Rattle.mds_rule.specs.Compounds.{runs_compound}
use Rattle.mds_rule.specs.Answers.{is_awaited, is_awaited_by, takes_answer, timed_out_for}
use Rattle.mds_rule.specs.Goes.{each, calls_out}
use Rattle.mds_rule.specs.Events.{takes_incoming, late_call, is_kept_by, goes_again, times_out, takes_timeout, lease_ends, leases_end, recall_expires, recalls_expire, kept_calls, files_tick, forgets_calls, takes_tick}
use Rattle.mds_walk.specs.MdsRuns.{MdsInput, MdsEvent, Hears, IsTimedOut, Ticks as IsTick, RecallsFile, Resilvers, by_input, after_event, run_from}
use Rattle.mds_walk.specs.FirstRequests.{first_request, request_in}
use Rattle.mds_rows.specs.Draws.{drawn}
use Rattle.cluster_model.specs.Nodes.{is_node}
use Rattle.file_rule.specs.MdsFiles.{FileStep}
use Rattle.mds_walk.proofs.Parts.{Becomes, Keeps, HeardOf, HeardAny, Hearing, HearsSo, AnyCompound, any_wait, end_input, without_write, Parts, RunParts, Resumes, GivesAnswers, Calls, OutParts, EventParts}
use Rattle.mds_walk.proofs.Keeping.{joined, hears_any, then_keeps, none_keeps, same, becomes_keeps, enters_keeps, silent_keeps}
use Rattle.mds_walk.proofs.LateFound.{IsAwaitedCall, late_is}
use Rattle.mds_walk.proofs.Requested.{behind_request, behind_begin, begin_kept}
use Rattle.mds_walk.proofs.ServedWalk.{takes, asks, client_ends}
use Rattle.mds_walk.proofs.FewBytes.{reply_few}
use Rattle.mds_walk.proofs.CompoundWalk.{compound_walk, resumed, timeout_walk}
use Rattle.mds_walk.proofs.AnswerWalk.{answer_walk}
use Rattle.mds_walk.proofs.GoesWalk.{each_walk, out_walk}
use Rattle.mds_rule.specs.LayoutOps.{client_number}
use Rattle.cluster_model.specs.Phases.{holder_of}
use Rattle.layout_report.specs.Reports.{report_of}

pub itself : (node : NodeId) → is_node node node ≡ true
itself Mds = refl
itself (Server n) = eq-eqb n n refl
itself (Client n) = eq-eqb n n refl

pub is_its : (call : AwaitedCall) → is_call_to call.node call.xid call ≡ true
is_its call = ap (λ (b : Bool). b && (call.xid == call.xid)) (itself call.node) ∙ eq-eqb call.xid call.xid refl

-- ---- the taking of an event leaves the calls that were sent as they are

abbrev SameCalls : List AwaitedCall → MdsValue → List Entry → List MdsSend → Type 0
SameCalls calls m es ss = m.calls ≡ calls

stepped_calls : (m : MdsValue) (file : FileId) (s : ServedFile) (step : FileStep) → (file_stepped m file s step).mds.calls ≡ m.calls
stepped_calls m file s step =
    let n : MdsValue = with_served (record m { fresh = drawn m.fresh step }) file (file_behind s step) in
    cond_both (list_any is_period_end step.entries) (record n { recalls = without_file file n.recalls }) n (λ (x : MdsValue). x.calls ≡ m.calls) (λ end. refl) (λ other. refl)

same_parts : (calls : List AwaitedCall) → Parts (SameCalls calls) HeardAny AnyCompound
same_parts calls = record {
  wait = λ m es ss j file s there. any_wait s.reads s.write;
  opens = λ m client file es ss j. j;
  closes = λ m client file es ss j. j;
  reclaims = λ m client es ss j. j;
  gone = λ m client es ss j. j;
  tables = λ m move no es ss j. j;
  asks_recall = λ m file s n recalled client now there held off es ss j. j;
  times_recall = λ m xid out es ss j. j;
  ticks_recalls = λ m now es ss j. j;
  later = λ m file p es ss j. j;
  sizes = λ m file s server fileid size there es ss j. j;
  gives_again = λ m file s client there its es ss j. j;
  grants = λ m file s client n from there free left fresh es ss j. stepped_calls m file s (phase file s.file (AsksLayout n) m.fresh) ∙ j;
  grants_alone = λ m file s client n from there free left spent es ss j. j;
  inputs = λ m file s input unasked there fresh es ss j. stepped_calls m file s (phase file s.file input m.fresh) ∙ j;
  timeouts = λ m file s node xid out there fresh es ss j. stepped_calls m file s (phase file s.file (TimesOut xid) m.fresh) ∙ j;
  learns = λ m file s call server own uid c replies fileid shown heard caller sent named shows there fresh es ss j. j;
  begins_read = λ m file s c at count any there es ss j. j;
  times_read = λ m file s xid place r at on es ss j. j;
  loses_read = λ m file s xid place r e at over es ss j. j;
  begins_write = λ m file s c at bytes any there can fresh es ss j. stepped_calls m file s (phase file s.file (OwnWrite at bytes) m.fresh) ∙ j;
  begins_alone = λ m file s c at bytes any there can spent es ss j. j;
  times_write = λ m file s w xid there waits out es ss j. j;
  ends_write = λ m file s w places there waits over fresh es ss j. stepped_calls (with_served m file (without_write s)) file (without_write s) (phase file s.file (end_input s w) m.fresh) ∙ j;
  drops_write = λ m file s w places there waits over spent es ss j. j;
  makes = λ m name may es ss j. j;
}

same_runs : (calls : List AwaitedCall) → RunParts (SameCalls calls)
same_runs calls = record {
  confirmed = λ m client node es ss j. j;
  destroys = λ m session es ss j. j;
  returns = λ m file s errors there fresh es ss j. stepped_calls m file s (phase file s.file (Returns (client_number (holder_of s.file.layout.phase)) s.file.layout.cred (report_of errors s.file.layout.live)) m.fresh) ∙ j;
  replies = λ m node xid bytes es ss j. j;
  finishes = λ m pass bytes es ss j. j;
}

calls_stay : (now : ℕ) (m : MdsValue) (node : NodeId) (xid : ℕ) (caller : Waiter) → is_awaited_by m node xid caller ≡ true → (timed_out_for now m xid caller).mds.calls ≡ m.calls
calls_stay now m node xid caller awaited =
    let k : Parts (SameCalls m.calls) HeardAny AnyCompound = same_parts m.calls in
    timeout_walk (SameCalls m.calls) HeardAny AnyCompound k (resumed (SameCalls m.calls) HeardAny AnyCompound k (same_runs m.calls) (λ c. tt)) now m node xid caller awaited [] [] refl

-- ---- events

module _ (I : MdsValue → List Entry → List MdsSend → Type 0) where
  -- of the compound that an event brings, and of what is answered at once
  abbrev pub RunsSo : ℕ → MdsInput → MdsValue → Type 0
  RunsSo now (Hears from bytes) m =
      ((xid : ℕ) (c : CompoundValue) → incoming_of bytes ≡ IsCompound xid c → Keeps I (behind_request now m from (first_request c.ops.values)) (runs_compound now m from xid c))
      × ((given : List ℕ) → incoming_of bytes ≡ IsAnswered given → (es : List Entry) (ss : List MdsSend) → I m es ss → I m es (ss ++ Answers from given ∷ []))
  RunsSo now (IsTimedOut to which) m = Unit {0}
  RunsSo now IsTick m = Unit {0}
  RunsSo now (RecallsFile file) m = Unit {0}
  RunsSo now (Resilvers file) m = Unit {0}

-- compounds run as they may
module _ (I : MdsValue → List Entry → List MdsSend → Type 0) (Heard : HeardOf) (W : CompoundRun → Type 0) (k : Parts I Heard W) (g : Resumes I W) (c : Calls I Heard) (o : OutParts I) where
  incoming_walk : (now : ℕ) (m : MdsValue) (node : NodeId) (v : IncomingValue) → ((reply : RpcReply) → v ≡ IsReply reply → Hearing I Heard node reply.xid (λ call. reply_of_call call reply))
      → ((bytes : List ℕ) → v ≡ IsAnswered bytes → (es : List Entry) (ss : List MdsSend) → I m es ss → I m es (ss ++ Answers node bytes ∷ []))
      → ((xid : ℕ) (x : CompoundValue) → v ≡ IsCompound xid x → Keeps I (behind_request now m node (first_request x.ops.values)) (runs_compound now m node xid x)) → Keeps I (behind_request now m node (request_in v)) (takes_incoming now m node v)
  incoming_walk now m node PassedOver hearing replied run = same I m
  incoming_walk now m node (IsReply reply) hearing replied run =
      then_keeps I m (takes_answer now m node reply.xid (λ call. reply_of_call call reply) (recall_status reply.stat reply.results)) (calls_out [])
      (answer_walk I Heard W k g c now m node reply.xid (λ call. reply_of_call call reply) (recall_status reply.stat reply.results) (hearing reply refl) (λ call. reply_few call reply)) (λ n. out_walk I o [] n)
  incoming_walk now m node (IsAnswered bytes) hearing replied run =
      λ es ss i. subst (λ (l : List Entry). I m l (ss ++ Answers node bytes ∷ [])) (sym (append-nil es)) (replied bytes refl es ss i)
  incoming_walk now m node (IsCompound xid v) hearing replied run =
      then_keeps I (behind_request now m node (first_request v.ops.values)) (runs_compound now m node xid v) (calls_out []) (run xid v refl) (λ n. out_walk I o [] n)

  again_walk : (call : AwaitedCall) (m : MdsValue) → IsOneOf call m.calls → Keeps I m (goes_again call m)
  again_walk call m inside = by_awaited (is_awaited m call) refl
    where
      sent_again : is_awaited m call ≡ true → Keeps I m (record { mds = m; entries = []; sends = call.sent ∷ [] })
      sent_again is es ss i = subst (λ (l : List Entry). I m l (ss ++ call.sent ∷ [])) (sym (append-nil es)) (c.again m call inside is es ss i)

      by_awaited : (b : Bool) → is_awaited m call ≡ b
          → Keeps I m (if not b then sends_none (record m { calls = without_call call.node call.xid m.calls }) else if is_kept_by m call.xid call.caller then sends_none m else record { mds = m; entries = []; sends = call.sent ∷ [] })
      by_awaited true is =
          cond_both (is_kept_by m call.xid call.caller) (sends_none m) (record { mds = m; entries = []; sends = call.sent ∷ [] }) (λ (s : MdsStep). Keeps I m s) (λ kept. same I m) (λ other. sent_again is)
      by_awaited false off = none_keeps I m (record m { calls = without_call call.node call.xid m.calls }) (c.leaves m call.node call.xid call inside (is_its call) off)

  -- the calls are as they were where it goes again
  late_again : (now : ℕ) (m : MdsValue) (call : AwaitedCall) → IsOneOf call m.calls → is_awaited m call ≡ true → Keeps I m (and_then (timed_out_for now m call.xid call.caller) (goes_again call))
  late_again now m call inside awaited es ss i =
      let timed : MdsStep = timed_out_for now m call.xid call.caller in
      let stay : timed.mds.calls ≡ m.calls = calls_stay now m call.node call.xid call.caller awaited in
      joined I (goes_again call timed.mds).mds es timed.entries (goes_again call timed.mds).entries ss timed.sends (goes_again call timed.mds).sends
      (again_walk call timed.mds (subst (λ (l : List AwaitedCall). IsOneOf call l) (sym stay) inside) (es ++ timed.entries) (ss ++ timed.sends)
      (timeout_walk I Heard W k g now m call.node call.xid call.caller awaited es ss i))

  late_walk : (now : ℕ) (m : MdsValue) (call : AwaitedCall) → IsAwaitedCall m call → Keeps I m (times_out now m (Some call))
  late_walk now m call is =
      let again : MdsStep = and_then (timed_out_for now m call.xid call.caller) (goes_again call) in
      enters_keeps I m m (entry.TimedOut Mds call.xid ∷ []) (and_then again (calls_out [])) (c.late m call is.inside is.awaited)
      (then_keeps I m again (calls_out []) (late_again now m call is.inside is.awaited) (λ n. out_walk I o [] n))

  times_walk : (now : ℕ) (m : MdsValue) (o : Option AwaitedCall) → ((call : AwaitedCall) → o ≡ Some call → IsAwaitedCall m call) → Keeps I m (times_out now m o)
  times_walk now m None is = same I m
  times_walk now m (Some call) is = late_walk now m call (is call refl)

  timeouts_walk : (now : ℕ) (m : MdsValue) (node : NodeId) (which : Option ℕ) → Keeps I m (takes_timeout now m node which)
  timeouts_walk now m node which = times_walk now m (late_call m node which) (λ call is. late_is m node which call is)

  lease_walk : (m : MdsValue) (o : Option ClientState) → Becomes I m (record m { sessions = expired_by m.sessions o }) → (next : MdsValue → MdsStep) → ((n : MdsValue) → Keeps I n (next n)) → Keeps I m (lease_ends m o next)
  lease_walk m None b next all = same I m
  lease_walk m (Some c) b next all =
      let n : MdsValue = record m { sessions = without_client m.sessions c.id } in
      then_keeps I m (ends_client n c.id Lease) next
      (becomes_keeps I m n (ends_client n c.id Lease) b (silent_keeps I n (ends_client n c.id Lease) (client_ends I Heard W k n c.id Lease))) all

  leases_walk : (now n : ℕ) (m : MdsValue) → Keeps I m (leases_end now n m)
  leases_walk now zero m = same I m
  leases_walk now (suc n) m = lease_walk m (find (has_ended now) m.sessions.clients) (k.tables m (Expire now) tt) (leases_end now n) (λ x. leases_walk now n x)

  expires_walk : (m : MdsValue) (o : Option (FileId × Cred)) (next : MdsValue → MdsStep) → ((n : MdsValue) → Keeps I n (next n)) → Keeps I m (recall_expires m o next)
  expires_walk m None next all = same I m
  expires_walk m (Some grant) next all =
      then_keeps I m (takes_input m grant.0 (Revokes Recalled)) next (silent_keeps I m (takes_input m grant.0 (Revokes Recalled)) (takes I Heard W k m grant.0 (Revokes Recalled) refl)) all

  recalls_walk : (now n : ℕ) (m : MdsValue) → Keeps I m (recalls_expire now n m)
  recalls_walk now zero m = none_keeps I m (record m { recalls = (after_tick m.recalls now).recalls }) (k.ticks_recalls m now)
  recalls_walk now (suc n) m =
      let x : MdsValue = record m { recalls = (after_tick m.recalls now).recalls } in
      becomes_keeps I m x (recall_expires x (after_tick m.recalls now).expired (recalls_expire now n)) (k.ticks_recalls m now) (expires_walk x (after_tick m.recalls now).expired (recalls_expire now n) (λ y. recalls_walk now n y))

  files_walk : (m : MdsValue) → Keeps I m (files_tick m)
  files_walk m =
      let all : MdsStep = each (λ n x. takes_input x (numbered n) Ticks) (range_with_len 1 (length m.files)) m in
      then_keeps I m all (calls_out (kept_calls m))
      (each_walk I (λ n x. takes_input x (numbered n) Ticks) (λ n x. silent_keeps I x (takes_input x (numbered n) Ticks) (takes I Heard W k x (numbered n) Ticks refl)) (range_with_len 1 (length m.files)) m) (λ n. out_walk I o (kept_calls m) n)

  forgets_walk : (m : MdsValue) → Keeps I m (forgets_calls m)
  forgets_walk m = none_keeps I m (record m { calls = filter (is_awaited m) m.calls }) (c.forgets m)

  tick_walk : (now : ℕ) (m : MdsValue) → Keeps I m (takes_tick now m)
  tick_walk now m =
      let leases : MdsStep = leases_end now (length m.sessions.clients) m in
      let expired : MdsStep = and_then leases (λ n. recalls_expire now (length n.recalls) n) in
      then_keeps I m (and_then expired files_tick) forgets_calls
      (then_keeps I m expired files_tick
      (then_keeps I m leases (λ n. recalls_expire now (length n.recalls) n) (leases_walk now (length m.sessions.clients) m) (λ n. recalls_walk now (length n.recalls) n)) (λ n. files_walk n))
      (λ n. forgets_walk n)

  -- of an event, behind what the request that it makes leaves of the table of clients
  pub input_walk : (now : ℕ) (input : MdsInput) (m : MdsValue) → HearsSo I Heard input → RunsSo I now input m → Keeps I (behind_begin now input m) (by_input now input m)
  input_walk now (Hears from bytes) m hears run = incoming_walk now m from (incoming_of bytes) hears run.1 run.0
  input_walk now (IsTimedOut to which) m hears run = timeouts_walk now m to which
  input_walk now IsTick m hears run = tick_walk now m
  input_walk now (RecallsFile file) m hears run = then_keeps I m (asks_back m file now) (calls_out []) (silent_keeps I m (asks_back m file now) (asks I Heard W k m file now)) (λ n. out_walk I o [] n)
  input_walk now (Resilvers file) m hears run =
      then_keeps I m (takes_input m file Resilver) (calls_out []) (silent_keeps I m (takes_input m file Resilver) (takes I Heard W k m file Resilver refl)) (λ n. out_walk I o [] n)

-- ---- an event, and each run

module _ (I : MdsValue → List Entry → List MdsSend → Type 0) (Heard : HeardOf) (W : CompoundRun → Type 0) (k : Parts I Heard W) (r : RunParts I) (any : (c : CompoundRun) → W c) (gives : GivesAnswers I) (c : Calls I Heard) (o : OutParts I) where
  runs_so : (now : ℕ) (input : MdsInput) (m : MdsValue) → RunsSo I now input m
  runs_so now (Hears from bytes) m = (λ xid v is. compound_walk I Heard W k r any now m from xid v, λ given is. let u = answers_numbered bytes given is in gives m from given u.said u.spelled)
  runs_so now (IsTimedOut to which) m = tt
  runs_so now IsTick m = tt
  runs_so now (RecallsFile file) m = tt
  runs_so now (Resilvers file) m = tt

  -- behind what the request that it makes leaves of the table of clients
  pub begun_walk : (now : ℕ) (input : MdsInput) (m : MdsValue) → HearsSo I Heard input → Keeps I (behind_begin now input m) (by_input now input m)
  begun_walk now input m hears = input_walk I Heard W k (resumed I Heard W k r any) c o now input m hears (runs_so now input m)

module _ (I : MdsValue → List Entry → List MdsSend → Type 0) (Heard : HeardOf) (W : CompoundRun → Type 0) (p : EventParts I Heard W) where
  pub event_walk : (e : MdsEvent) → HearsSo I Heard e.input → (m : MdsValue) → Keeps I m (after_event e m)
  event_walk e hears m = becomes_keeps I m (behind_begin e.now e.input m) (after_event e m) (begin_kept I Heard W p.parts p.begins e.now e.input m) (begun_walk I Heard W p.parts p.runs p.any p.answers p.calls p.outs e.now e.input m hears)

module _ (I : MdsValue → List Entry → List MdsSend → Type 0) (W : CompoundRun → Type 0) (p : EventParts I HeardAny W) where
  pub each_run : (events : List MdsEvent) (m : MdsValue) → Keeps I m (run_from m events)
  each_run [] m = same I m
  each_run (e ∷ events) m = then_keeps I m (after_event e m) (λ n. run_from n events) (event_walk I HeardAny W p e (hears_any I e.input) m) (λ n. each_run events n)

  -- what holds of a new server holds behind every run
  pub in_each_run : (m : MdsValue) (events : List MdsEvent) → I m [] [] → I (run_from m events).mds (run_from m events).entries (run_from m events).sends
  in_each_run m events i = each_run events m [] [] i
