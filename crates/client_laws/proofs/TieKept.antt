-- What a client does with its queue and its layout leaves how far it is with its metadata server.
use Rattle.std.proofs.Common.{◌≡◌, ℕ, Bool, true, false, List, [], ◌∷◌, length, Option, Some, None, refl, ◌∙◌}
use Rattle.std.specs.Prelude.{◌==◌, if◌then◌else◌}
use Rattle.cluster_model.specs.declared.answer.UserAnswer.TheVariants as answer
use Rattle.cluster_model.specs.declared.ids.MirrorId.{MirrorId}
use Rattle.cluster_model.specs.declared.phase.LeftCause.{LeftCause}
use Rattle.mirror_writer.specs.declared.step.WriterStep.{WriterStep}
use Rattle.mirror_writer.specs.declared.step.WriterStep.TheVariants as step
use Rattle.mirror_writer.specs.Writers.{overlaps_taken, WriterSends, next_sent, after_reply}
use Rattle.mirror_writer.specs.Outstanding.{OutCall, out_at, has_no_mirror}
use Rattle.cluster_model.specs.DsCalls.{DsCallValue, DsReplyValue}
use Rattle.client_file_calls.specs.declared.open.OpenFile.{OpenFile}
use Rattle.client_mds_calls.specs.declared.ask.MdsAsk.{MdsAsk}
use Rattle.client_mds_calls.specs.declared.ask.MdsAsk.TheVariants as ask
use Rattle.client_mds_calls.specs.MdsCalls.{MdsCallValue}
use Rattle.client_state.specs.declared.request.UserRequest.{UserRequest}
use Rattle.client_state.specs.declared.request.UserRequest.TheVariants.{Open, Write, Through, Commit, Read, Return}
use Rattle.client_state.specs.declared.layout.Layout.{Layout}
use Rattle.client_state.specs.declared.tie.Tie.{Tie}
use Rattle.client_state.specs.ClientStates.{ClientValue, ClientRun, unmoved}
use Rattle.client_state.specs.ClientSends.{ClientStep, sends_none}
use Rattle.client_state.specs.ClientQueue.{HeadStep, IsDone, IsWaiting, Asks, answers_user, refuses_request, answers_committed, with_layout, ending, is_writing, unknown_servers, is_past, taken_write, write_under, write_to, write_by, behind_return, is_all_told, layout_committing, on_open_file, head_step, QueueRun, after_head, awake, with_rest, run_requests, run_queue, lost_mirrors}
use Rattle.client_calls.specs.ClientCalls.{calls_next, calls_under, calls_mirror, calls_two, calls_mirrors, asks_as, asks, call_by_ask, may_ask, due_ask, calls_mds, calls_all, ends_event}
use Rattle.client_answers.specs.ClientMirrors.{is_commit, tells_covered, with_failed, mirror_failed, after_step, has_writer, answered_out, ds_answered_by, ds_answered}

-- ---- the queue

abbrev Holds : Tie → HeadStep → Type 0
Holds tie (IsDone r) = r.client.tie ≡ tie
Holds tie (IsWaiting c) = c.tie ≡ tie
Holds tie (Asks kind) = Unit {0}

by_if : (tie : Tie) (b : Bool) (x y : HeadStep) → Holds tie x → Holds tie y → Holds tie (if b then x else y)
by_if tie true x y first second = first
by_if tie false x y first second = second

write_holds : (c : ClientValue) (file : OpenFile) (layout : Option Layout) (at : ℕ) (bytes : List ℕ) → Holds c.tie (write_by c file layout at bytes)
write_holds c file None at bytes = tt
write_holds c file (Some l) at bytes =
    by_if c.tie (is_writing l.stage) (write_to c file l at bytes (length (unknown_servers c l))) (IsWaiting c)
    (by_if c.tie (length (unknown_servers c l) == 0) (write_under c file l at bytes) (Asks (ask.DeviceInfo (length (unknown_servers c l))))
    (by_if c.tie (overlaps_taken l.writer at (length bytes)) (IsWaiting (with_layout c (ending l))) (IsDone (taken_write c file l at bytes)) refl refl) tt)
    refl

return_holds : (c : ClientValue) (layout : Option Layout) (step : HeadStep) → Holds c.tie step → Holds c.tie (behind_return step c layout)
return_holds c None step holds = holds
return_holds c (Some l) step holds = refl

commits_hold : (c : ClientValue) (layout : Option Layout) → (layout_committing c layout).tie ≡ c.tie
commits_hold c None = refl
commits_hold c (Some l) = refl

file_holds : (c : ClientValue) (file : OpenFile) (request : UserRequest) → Holds c.tie (on_open_file c file request)
file_holds c file (Open name) = refl
file_holds c file (Write at bytes) = by_if c.tie (is_past at bytes) (IsDone (refuses_request 27 c)) (write_by c file c.layout at bytes) refl (write_holds c file c.layout at bytes)
file_holds c file (Through at bytes) = by_if c.tie (is_past at bytes) (IsDone (refuses_request 27 c)) (behind_return (Asks ask.Write) c c.layout) refl (return_holds c c.layout (Asks ask.Write) tt)
file_holds c file Commit = by_if c.tie (is_all_told c.layout) (IsDone (answers_committed c)) (IsWaiting (layout_committing c c.layout)) refl (commits_hold c c.layout)
file_holds c file (Read at count) = tt
file_holds c file Return = return_holds c c.layout (IsDone (answers_user answer.Returned c)) refl

head_holds : (c : ClientValue) (file : Option OpenFile) (request : UserRequest) → Holds c.tie (head_step c file request)
head_holds c None (Open name) = tt
head_holds c None (Write at bytes) = refl
head_holds c None (Through at bytes) = refl
head_holds c None Commit = refl
head_holds c None (Read at count) = refl
head_holds c None Return = refl
head_holds c (Some file) request = file_holds c file request

after_holds : (request : UserRequest) (c : ClientValue) (step : HeadStep) (next : ClientValue → QueueRun) → Holds c.tie step → ((d : ClientValue) → (next d).run.client.tie ≡ d.tie) → (after_head request c step next).run.client.tie ≡ c.tie
after_holds request c (IsDone r) next holds further = further (awake r).client ∙ holds
after_holds request c (IsWaiting d) next holds further = holds
after_holds request c (Asks kind) next holds further = refl

requests_hold : (requests : List UserRequest) (c : ClientValue) → (run_requests requests c).run.client.tie ≡ c.tie
requests_hold [] c = refl
requests_hold (request ∷ rest) c = after_holds request (with_rest c rest) (head_step (with_rest c rest) c.file request) (run_requests rest) (head_holds (with_rest c rest) c.file request) (requests_hold rest)

queue_tie : (c : ClientValue) → (run_queue c).run.client.tie ≡ c.tie
queue_tie c = requests_hold c.queue c

-- ---- calls

pub step_if : (tie : Tie) (b : Bool) (x y : ClientStep) → x.client.tie ≡ tie → y.client.tie ≡ tie
    → (let s : ClientStep = if b then x else y in s.client.tie ≡ tie)
step_if tie true x y first second = first
step_if tie false x y first second = second

next_tie : (c : ClientValue) (l : Layout) (o : Option WriterSends) → (calls_next c l o).client.tie ≡ c.tie
next_tie c l None = refl
next_tie c l (Some sends) = refl

under_tie : (c : ClientValue) (layout : Option Layout) → (calls_under c layout).client.tie ≡ c.tie
under_tie c None = refl
under_tie c (Some l) = next_tie c l (next_sent l.writer c.next_xid)

mirror_tie : (c : ClientValue) → (calls_mirror c).client.tie ≡ c.tie
mirror_tie c = step_if c.tie (c.next_xid == 0) (sends_none c) (calls_under c c.layout) refl (under_tie c c.layout)

two_tie : (c : ClientValue) → (calls_two c).client.tie ≡ c.tie
two_tie c = mirror_tie (calls_mirror c).client ∙ mirror_tie c

mirrors_tie : (c : ClientValue) → (calls_mirrors c).client.tie ≡ c.tie
mirrors_tie c = two_tie (calls_two c).client ∙ two_tie c

as_tie : (c : ClientValue) (kind : MdsAsk) (o : Option MdsCallValue) → (asks_as c kind o).client.tie ≡ c.tie
as_tie c kind None = refl
as_tie c kind (Some call) = refl

pub asks_tie : (c : ClientValue) (kind : Option MdsAsk) → (asks c kind).client.tie ≡ c.tie
asks_tie c None = refl
asks_tie c (Some kind) = as_tie c kind (call_by_ask c kind)

mds_tie : (c : ClientValue) (wants : Option MdsAsk) → (calls_mds wants c).client.tie ≡ c.tie
mds_tie c wants = step_if c.tie (may_ask c c.asked) (asks c (due_ask wants c)) (sends_none c) (asks_tie c (due_ask wants c)) refl

all_tie : (c : ClientValue) (wants : Option MdsAsk) → (calls_all wants c).client.tie ≡ c.tie
all_tie c wants = mds_tie (calls_mirrors c).client wants ∙ mirrors_tie c

pub ends_tie : (c : ClientValue) → (ends_event c).client.tie ≡ c.tie
ends_tie c = all_tie (run_queue c).run.client (run_queue c).wants ∙ queue_tie c

-- ---- answers of data servers

run_if : (tie : Tie) (b : Bool) (x y : ClientRun) → x.client.tie ≡ tie → y.client.tie ≡ tie
    → (let r : ClientRun = if b then x else y in r.client.tie ≡ tie)
run_if tie true x y first second = first
run_if tie false x y first second = second

tells_tie : (file : OpenFile) (layout : Option Layout) (c : ClientValue) → (tells_covered file layout c).client.tie ≡ c.tie
tells_tie file None c = refl
tells_tie file (Some l) c = refl

failed_tie : (id : MirrorId) (cause : LeftCause) (layout : Option Layout) (c : ClientValue) → (mirror_failed id cause layout c).client.tie ≡ c.tie
failed_tie id cause None c = refl
failed_tie id cause (Some l) c = run_if c.tie (has_no_mirror l.writer) (lost_mirrors (with_failed l id cause) c) (unmoved (with_layout c (ending (with_failed l id cause)))) refl refl

pub step_tie : (commit : Bool) (file : OpenFile) (came : WriterStep) (c : ClientValue) → (after_step commit file came c).client.tie ≡ c.tie
step_tie commit file step.Stranger c = refl
step_tie commit file step.Waiting c = run_if c.tie commit (tells_covered file c.layout c) (unmoved c) (tells_tie file c.layout c) refl
step_tie commit file step.Committed c = run_if c.tie commit (tells_covered file c.layout c) (unmoved c) (tells_tie file c.layout c) refl
step_tie commit file (step.Failed id cause) c = failed_tie id cause c.layout c
step_tie commit file (step.Fenced id status) c = refl

out_tie : (file : OpenFile) (l : Layout) (xid : ℕ) (reply : DsCallValue → DsReplyValue) (o : Option OutCall) (c : ClientValue) → (answered_out file l xid reply o c).client.tie ≡ c.tie
out_tie file l xid reply None c = refl
out_tie file l xid reply (Some out) c =
    run_if c.tie (out.xid == xid) (after_step (is_commit out.call) file (after_reply l.writer xid (reply out.call)).step (has_writer c l (after_reply l.writer xid (reply out.call)))) (unmoved c)
    (step_tie (is_commit out.call) file (after_reply l.writer xid (reply out.call)).step (has_writer c l (after_reply l.writer xid (reply out.call)))) refl

by_tie : (file : Option OpenFile) (layout : Option Layout) (server xid : ℕ) (reply : DsCallValue → DsReplyValue) (c : ClientValue) → (ds_answered_by file layout server xid reply c).client.tie ≡ c.tie
by_tie (Some file) (Some l) server xid reply c = out_tie file l xid reply (out_at l.writer server) c
by_tie (Some file) None server xid reply c = refl
by_tie None layout server xid reply c = refl

pub answered_tie : (server xid : ℕ) (reply : DsCallValue → DsReplyValue) (c : ClientValue) → (ds_answered server xid reply c).client.tie ≡ c.tie
answered_tie server xid reply c = by_tie c.file c.layout server xid reply c
