-- The calls that go out, and so each event from other nodes, leave a server that knows no node as itself, and send elsewhere.
use Rattle.std.proofs.Common.{◌≡◌, ℕ, zero, suc, Bool, List, [], ◌∷◌, length, Option, Some, None, refl}
use Rattle.std.specs.Prelude.{◌-◌, not, ◌==◌, ◌&&◌, if◌then◌else◌, slice_get, slice_set, filter}
use Rattle.std.specs.Option.{option_map}
use Rattle.std.specs.List.{find, range_with_len}
use Rattle.std.proofs.lemmas.Bool.{cond_both}
use Rattle.cluster_model.specs.declared.ids.NodeId.{NodeId}
use Rattle.cluster_model.specs.declared.ids.NodeId.TheVariants.{Server}
use Rattle.cluster_model.specs.Members.{IsOneOf}
use Rattle.cluster_model.specs.declared.ids.FileId.{FileId}
use Rattle.cluster_model.specs.declared.ids.Cred.{Cred}
use Rattle.cluster_model.specs.declared.phase.EndCause.TheVariants.{Lease, Recalled}
use Rattle.cluster_model.specs.DsCalls.{DsCallValue}
use Rattle.file_rule.specs.FilePhases.{CallOut, call_out, Revokes, Resilver, Ticks}
use Rattle.ds_calls.specs.GivenReplies.{reply_of_call}
use Rattle.recall_calls.specs.RecallAnswers.{recall_status}
use Rattle.mds_io.specs.Reads.{ReadSends}
use Rattle.mds_io.specs.Reads as read
use Rattle.mirror_writer.specs.Writers.{WriterSends}
use Rattle.mirror_writer.specs.Writers as writer
use Rattle.nfs4_session.specs.Clients.{ClientState, SessionState, has_id, change_first, with_clients}
use Rattle.nfs4_session.specs.Bindings.{last_session, back_call, client_called_back}
use Rattle.nfs4_session.specs.Ends.{has_ended, without_client}
use Rattle.nfs4_types.specs.Stateids.{layout_stateid_of}
use Rattle.recall.specs.declared.recall.RecallCall.{RecallCall}
use Rattle.recall.specs.Recalls.{RecallSends, next_sent, after_tick}
use Rattle.mds_receive.specs.MdsReceive.{IncomingValue, PassedOver, IsReply, IsAnswered, IsCompound, incoming_of}
use Rattle.mds_rule.specs.declared.waiter.Waiter.{Waiter}
use Rattle.mds_rule.specs.declared.waiter.Waiter.TheVariants.{ForRead, ForRecall}
use Rattle.mds_rule.specs.MdsStates.{WaitingRead, WaitingWrite, ServedFile, MdsSend, CallsBack, AwaitedCall, MdsValue, MdsStep, sends_none, and_then, is_call_to, without_call, served, with_served, numbered}
use Rattle.mds_rule.specs.ServedFiles.{takes_input, asks_back, ends_client}
use Rattle.mds_rule.specs.Compounds.{runs_compound}
use Rattle.mds_rule.specs.Answers.{is_awaited, takes_answer, timed_out_for}
use Rattle.mds_rule.specs.Goes.{xid_after, stateid_seqid, calls_as, calls_server, OwnCall, own_of_file, own_of_write, own_by, place_of, own_call_at, own_next, has_xids, own_call, own_two, own_calls, read_goes, read_call, read_call_in, each, read_count, read_calls, calls_back, recall_goes, recall_call, repeats_call, repeats, place_calls, file_calls, calls_out}
use Rattle.mds_rule.specs.Events.{takes_incoming, late_call, is_kept_by, goes_again, times_out, lease_ends, leases_end, recall_expires, recalls_expire, kept_calls, files_tick, forgets_calls, takes_tick}
use Rattle.mds_walk.specs.MdsRuns.{MdsInput, MdsEvent, Hears, IsTimedOut, Ticks as IsTick, RecallsFile, Resilvers, by_input, after_event, run_from}
use Rattle.mds_walk.proofs.Lists.{AllOf, all_set, all_got, all_in}
use Rattle.mds_walk.proofs.LateFound.{late_is}
use Rattle.node_histories.proofs.Elsewhere.{IsElse, SendElse, CallElse, ReadElse, WriteElse, FileElse, Else, StepElse, all_found, gone_else, called_else, last_session_else, with_table, with_file_else, served_else, with_call_else, without_calls_else, none_goes, then_goes}
use Rattle.node_histories.proofs.ElseInputs.{takes_else, asks_else, client_ends_else}
use Rattle.node_histories.proofs.ElseCompounds.{compound_else, answer_else, timeout_else}

-- ---- one call

called_so : (m : MdsValue) (node : NodeId) (caller : Waiter) (sent : MdsSend) → Else m → SendElse sent → StepElse (calls_as m node caller sent)
called_so m node caller sent e its = (record { table = e.table; files_else = e.files_else; calls_else = with_call_else _ m.calls its e.calls_else }, (its, tt))

server_called : (m : MdsValue) (file : FileId) (t : ServedFile) (caller : Waiter) (server uid : ℕ) (call : DsCallValue) → Else m → FileElse t → StepElse (calls_server m file t caller server uid call)
server_called m file t caller server uid call e its = called_so (with_served m file t) (Server server) caller _ (with_file_else m file t e its) tt

each_else : {A : Type 0} (step : A → MdsValue → MdsStep) → ((a : A) (m : MdsValue) → Else m → StepElse (step a m)) → (list : List A) (m : MdsValue) → Else m → StepElse (each step list m)
each_else step all [] m e = none_goes m e
each_else step all (a ∷ list) m e = then_goes (step a m) (λ n. each step list n) (all a m e) (λ n k. each_else step all list n k)

-- ---- a file's own calls

own_at_else : (m : MdsValue) (file : FileId) (s : ServedFile) (place : ℕ) (c : OwnCall) → Else m → FileElse c.served → StepElse (own_call_at m file s place (Some c))
own_at_else m file s place c e its =
    cond_both (place_of s c.server == place) (calls_server m file c.served c.caller c.server c.uid c.call) (sends_none m) (λ (x : MdsStep). StepElse x) (λ is. server_called m file c.served c.caller c.server c.uid c.call e its) (λ off. none_goes m e)

own_file_else : (m : MdsValue) (file : FileId) (place : ℕ) (s : ServedFile) → Else m → FileElse s → (o : Option CallOut) → StepElse (own_call_at m file s place (option_map (own_of_file file s) o))
own_file_else m file place s e its None = none_goes m e
own_file_else m file place s e its (Some c) = own_at_else m file s place (own_of_file file s c) e its

own_write_else : (m : MdsValue) (file : FileId) (place : ℕ) (s : ServedFile) → Else m → FileElse s → (w : WaitingWrite) → IsElse w.compound.node → (o : Option WriterSends)
    → StepElse (own_call_at m file s place (option_map (own_of_write file s w) o))
own_write_else m file place s e its w one None = none_goes m e
own_write_else m file place s e its w one (Some c) = own_at_else m file s place (own_of_write file s w c) e (one, its.1)

own_by_else : (m : MdsValue) (file : FileId) (place : ℕ) (s : ServedFile) → Else m → FileElse s → (o : Option WaitingWrite) → WriteElse o → StepElse (own_call_at m file s place (own_by file s m.next_xid o))
own_by_else m file place s e its None one = own_file_else m file place s e its (call_out s.file m.next_xid)
own_by_else m file place s e its (Some w) one = own_write_else m file place s e its w one (writer.next_sent w.writer m.next_xid)

own_next_else : (m : MdsValue) (file : FileId) (place : ℕ) → Else m → (o : Option ServedFile) → served m file ≡ o → StepElse (own_next m file place o)
own_next_else m file place e None is = none_goes m e
own_next_else m file place e (Some s) is = let its : FileElse s = served_else m file s e is in own_by_else m file place s e its s.write its.0

own_one_else : (file : FileId) (place : ℕ) (m : MdsValue) → Else m → StepElse (own_call file place m)
own_one_else file place m e =
    cond_both (has_xids m) (own_next m file place (served m file)) (sends_none m) (λ (s : MdsStep). StepElse s) (λ has. own_next_else m file place e (served m file) refl) (λ off. none_goes m e)

own_two_else : (file : FileId) (place : ℕ) (m : MdsValue) → Else m → StepElse (own_two file place m)
own_two_else file place m e = then_goes (own_call file place m) (own_call file place) (own_one_else file place m e) (λ n k. own_one_else file place n k)

own_else : (file : FileId) (place : ℕ) (m : MdsValue) → Else m → StepElse (own_calls file place m)
own_else file place m e = then_goes (own_two file place m) (own_two file place) (own_two_else file place m e) (λ n k. own_two_else file place n k)

-- ---- READs

read_goes_else : (m : MdsValue) (file : FileId) (s : ServedFile) (n place : ℕ) (r : WaitingRead) → Else m → FileElse s → IsElse r.compound.node → (o : Option ReadSends) → StepElse (read_goes m file s n place r o)
read_goes_else m file s n place r e its one None = none_goes m e
read_goes_else m file s n place r e its one (Some sent) =
    cond_both ((place_of s sent.id.server == place) && has_xids m)
    (calls_server m file (record s { reads = slice_set s.reads n (record { compound = r.compound; read = sent.read }) }) (ForRead file) sent.id.server 0 sent.call) (sends_none m) (λ (x : MdsStep). StepElse x)
    (λ is.
    server_called m file (record s { reads = slice_set s.reads n (record { compound = r.compound; read = sent.read }) }) (ForRead file) sent.id.server 0 sent.call e
    (its.0, all_set ReadElse s.reads n (record { compound = r.compound; read = sent.read }) its.1 one))
    (λ off. none_goes m e)

read_call_else : (m : MdsValue) (file : FileId) (s : ServedFile) (n place : ℕ) → Else m → FileElse s → (o : Option WaitingRead) → slice_get s.reads n ≡ o → StepElse (read_call m file s n place o)
read_call_else m file s n place e its None there = none_goes m e
read_call_else m file s n place e its (Some r) there = read_goes_else m file s n place r e its (all_got ReadElse s.reads n r its.1 there) (read.next_sent r.read m.next_xid)

read_in_else : (file : FileId) (place n : ℕ) (m : MdsValue) → Else m → (o : Option ServedFile) → served m file ≡ o → StepElse (read_call_in file place n m o)
read_in_else file place n m e None is = none_goes m e
read_in_else file place n m e (Some s) is = read_call_else m file s n place e (served_else m file s e is) (slice_get s.reads n) refl

reads_else : (file : FileId) (place : ℕ) (m : MdsValue) → Else m → StepElse (read_calls file place m)
reads_else file place m e = each_else (λ n x. read_call_in file place n x (served x file)) (λ n x k. read_in_else file place n x k (served x file) refl) (range_with_len 0 (read_count (served m file))) m e

-- ---- recalls

back_else : (m : MdsValue) (call : RecallCall) → Else m → (o : Option SessionState) → last_session (find (has_id call.client) m.sessions.clients) ≡ o → StepElse (calls_back m call o)
back_else m call e None is = none_goes (record m { next_xid = xid_after m.next_xid }) (record { table = e.table; files_else = e.files_else; calls_else = e.calls_else })
back_else m call e (Some session) is =
    let n : MdsValue = record m { sessions = with_clients m.sessions (change_first (has_id call.client) (client_called_back session.number) m.sessions.clients) } in
    called_so n session.node ForRecall (CallsBack m.next_xid (back_call call.client session) call.file (layout_stateid_of call.file.0 call.cred.0 (stateid_seqid (served m call.file))))
    (with_table m (with_clients m.sessions (change_first (has_id call.client) (client_called_back session.number) m.sessions.clients)) e (called_else m.sessions call.client session.number e.table)) (last_session_else m.sessions.clients call.client session e.table is)

recall_goes_else : (m : MdsValue) (file : FileId) → Else m → (o : Option RecallSends) → StepElse (recall_goes m file o)
recall_goes_else m file e None = none_goes m e
recall_goes_else m file e (Some sent) =
    let n : MdsValue = record m { recalls = sent.recalls } in
    cond_both (sent.call.file.0 == file.0) (calls_back n sent.call (last_session (find (has_id sent.call.client) m.sessions.clients))) (sends_none m) (λ (s : MdsStep). StepElse s)
    (λ is. back_else n sent.call (record { table = e.table; files_else = e.files_else; calls_else = e.calls_else }) (last_session (find (has_id sent.call.client) m.sessions.clients)) refl) (λ off. none_goes m e)

recall_else : (file : FileId) (m : MdsValue) → Else m → StepElse (recall_call file m)
recall_else file m e =
    cond_both (has_xids m) (recall_goes m file (next_sent m.recalls m.next_xid)) (sends_none m) (λ (s : MdsStep). StepElse s) (λ has. recall_goes_else m file e (next_sent m.recalls m.next_xid)) (λ off. none_goes m e)

-- ---- what goes out again

repeat_else : (m : MdsValue) (test : AwaitedCall → Bool) → Else m → (o : Option AwaitedCall) → find test m.calls ≡ o → StepElse (repeats_call m o)
repeat_else m test e None is = none_goes m e
repeat_else m test e (Some call) is = (e, (all_found CallElse test m.calls call e.calls_else is, tt))

repeats_else : (kept : Option (Option (ℕ × ℕ))) (m : MdsValue) → Else m → StepElse (repeats kept m)
repeats_else None m e = none_goes m e
repeats_else (Some None) m e = none_goes m e
repeats_else (Some (Some kept)) m e = repeat_else m (is_call_to (Server kept.0) kept.1) e (find (is_call_to (Server kept.0) kept.1) m.calls) refl

-- ---- all of them

place_else : (file : FileId) (place : ℕ) (m : MdsValue) → Else m → StepElse (place_calls file place m)
place_else file place m e = then_goes (own_calls file place m) (read_calls file place) (own_else file place m e) (λ n k. reads_else file place n k)

file_else : (kept : List (Option (ℕ × ℕ))) (n : ℕ) (m : MdsValue) → Else m → StepElse (file_calls kept n m)
file_else kept n m e =
    then_goes (and_then (recall_call (numbered n) m) (repeats (slice_get kept (n - 1)))) (each (place_calls (numbered n)) (0 ∷ 1 ∷ 2 ∷ 3 ∷ 4 ∷ []))
    (then_goes (recall_call (numbered n) m) (repeats (slice_get kept (n - 1))) (recall_else (numbered n) m e) (λ x k. repeats_else (slice_get kept (n - 1)) x k))
    (λ x k. each_else (place_calls (numbered n)) (λ place y j. place_else (numbered n) place y j) (0 ∷ 1 ∷ 2 ∷ 3 ∷ 4 ∷ []) x k)

out_else : (kept : List (Option (ℕ × ℕ))) (m : MdsValue) → Else m → StepElse (calls_out kept m)
out_else kept m e = each_else (file_calls kept) (λ n x k. file_else kept n x k) (range_with_len 1 (length m.files)) m e

-- ---- events

incoming_else : (now : ℕ) (m : MdsValue) (node : NodeId) (v : IncomingValue) → Else m → IsElse node → StepElse (takes_incoming now m node v)
incoming_else now m node PassedOver e its = none_goes m e
incoming_else now m node (IsReply reply) e its =
    then_goes (takes_answer now m node reply.xid (λ call. reply_of_call call reply) (recall_status reply.stat reply.results)) (calls_out [])
    (answer_else now m node reply.xid (λ call. reply_of_call call reply) (recall_status reply.stat reply.results) e) (λ n k. out_else [] n k)
incoming_else now m node (IsAnswered bytes) e its = (e, (its, tt))
incoming_else now m node (IsCompound xid v) e its = then_goes (runs_compound now m node xid v) (calls_out []) (compound_else now m node xid v e its) (λ n k. out_else [] n k)

again_else : (call : AwaitedCall) → CallElse call → (m : MdsValue) → Else m → StepElse (goes_again call m)
again_else call its m e =
    cond_both (not (is_awaited m call)) (sends_none forgotten) (if is_kept_by m call.xid call.caller then sends_none m else again) (λ (s : MdsStep). StepElse s)
    (λ none. none_goes forgotten (without_calls_else m (λ x. not (is_call_to call.node call.xid x)) e))
    (λ some. cond_both (is_kept_by m call.xid call.caller) (sends_none m) again (λ (s : MdsStep). StepElse s) (λ kept. none_goes m e) (λ other. (e, (its, tt))))
  where
    forgotten : MdsValue
    forgotten = record m { calls = without_call call.node call.xid m.calls }

    again : MdsStep
    again = record { mds = m; entries = []; sends = call.sent ∷ [] }

late_else : (now : ℕ) (m : MdsValue) → Else m → (o : Option AwaitedCall) → ((call : AwaitedCall) → o ≡ Some call → IsOneOf call m.calls) → StepElse (times_out now m o)
late_else now m e None inside = none_goes m e
late_else now m e (Some call) inside =
    let its : CallElse call = all_in CallElse m.calls call e.calls_else (inside call refl) in
    then_goes (and_then (timed_out_for now m call.xid call.caller) (goes_again call)) (calls_out [])
    (then_goes (timed_out_for now m call.xid call.caller) (goes_again call) (timeout_else now m call.xid call.caller e) (λ n k. again_else call its n k)) (λ n k. out_else [] n k)

lease_else : (m : MdsValue) (o : Option ClientState) → Else m → (next : MdsValue → MdsStep) → ((n : MdsValue) → Else n → StepElse (next n)) → StepElse (lease_ends m o next)
lease_else m None e next all = none_goes m e
lease_else m (Some c) e next all =
    let n : MdsValue = record m { sessions = without_client m.sessions c.id } in
    then_goes (ends_client n c.id Lease) next (client_ends_else n c.id Lease (with_table m (without_client m.sessions c.id) e (gone_else m.sessions c.id e.table))) all

leases_else : (now n : ℕ) (m : MdsValue) → Else m → StepElse (leases_end now n m)
leases_else now zero m e = none_goes m e
leases_else now (suc n) m e = lease_else m (find (has_ended now) m.sessions.clients) e (leases_end now n) (λ x k. leases_else now n x k)

expires_else : (m : MdsValue) (o : Option (FileId × Cred)) → Else m → (next : MdsValue → MdsStep) → ((n : MdsValue) → Else n → StepElse (next n)) → StepElse (recall_expires m o next)
expires_else m None e next all = none_goes m e
expires_else m (Some grant) e next all = then_goes (takes_input m grant.0 (Revokes Recalled)) next (takes_else m grant.0 (Revokes Recalled) e) all

recalls_else : (now n : ℕ) (m : MdsValue) → Else m → StepElse (recalls_expire now n m)
recalls_else now zero m e = none_goes (record m { recalls = (after_tick m.recalls now).recalls }) (record { table = e.table; files_else = e.files_else; calls_else = e.calls_else })
recalls_else now (suc n) m e =
    expires_else (record m { recalls = (after_tick m.recalls now).recalls }) (after_tick m.recalls now).expired (record { table = e.table; files_else = e.files_else; calls_else = e.calls_else }) (recalls_expire now n)
    (λ y k. recalls_else now n y k)

files_else_tick : (m : MdsValue) → Else m → StepElse (files_tick m)
files_else_tick m e =
    then_goes (each (λ n x. takes_input x (numbered n) Ticks) (range_with_len 1 (length m.files)) m) (calls_out (kept_calls m))
    (each_else (λ n x. takes_input x (numbered n) Ticks) (λ n x k. takes_else x (numbered n) Ticks k) (range_with_len 1 (length m.files)) m e) (λ n k. out_else (kept_calls m) n k)

tick_else : (now : ℕ) (m : MdsValue) → Else m → StepElse (takes_tick now m)
tick_else now m e =
    let leases : MdsStep = leases_end now (length m.sessions.clients) m in
    let expired : MdsStep = and_then leases (λ n. recalls_expire now (length n.recalls) n) in
    then_goes (and_then expired files_tick) forgets_calls
    (then_goes expired files_tick
    (then_goes leases (λ n. recalls_expire now (length n.recalls) n) (leases_else now (length m.sessions.clients) m e) (λ n k. recalls_else now (length n.recalls) n k)) (λ n k. files_else_tick n k))
    (λ n k. none_goes (record n { calls = filter (is_awaited n) n.calls }) (without_calls_else n (is_awaited n) k))

-- what comes, comes from another node
abbrev pub InputElse : MdsInput → Type 0
InputElse (Hears from bytes) = IsElse from
InputElse (IsTimedOut to which) = Unit {0}
InputElse IsTick = Unit {0}
InputElse (RecallsFile file) = Unit {0}
InputElse (Resilvers file) = Unit {0}

input_else : (now : ℕ) (input : MdsInput) (m : MdsValue) → Else m → InputElse input → StepElse (by_input now input m)
input_else now (Hears from bytes) m e its = incoming_else now m from (incoming_of bytes) e its
input_else now (IsTimedOut to which) m e its = late_else now m e (late_call m to which) (λ call is. (late_is m to which call is).inside)
input_else now IsTick m e its = tick_else now m e
input_else now (RecallsFile file) m e its = then_goes (asks_back m file now) (calls_out []) (asks_else m file now e) (λ n k. out_else [] n k)
input_else now (Resilvers file) m e its = then_goes (takes_input m file Resilver) (calls_out []) (takes_else m file Resilver e) (λ n k. out_else [] n k)

abbrev pub EventElse : MdsEvent → Type 0
EventElse event = InputElse event.input

pub event_else : (event : MdsEvent) (m : MdsValue) → Else m → EventElse event → StepElse (after_event event m)
event_else event m e its = input_else event.now event.input m e its

-- behind all of them
pub all_else : (events : List MdsEvent) (m : MdsValue) → Else m → AllOf EventElse events → Else (run_from m events).mds
all_else [] m e all = e
all_else (event ∷ events) m e all = all_else events (after_event event m).mds (event_else event m e all.0).0 all.1
