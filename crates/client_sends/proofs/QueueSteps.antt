-- The requests of the user.
use Rattle.std.proofs.Common.{ℕ, Bool, true, false, List, [], ◌∷◌, length, Option, Some, None, refl}
use Rattle.std.specs.Prelude.{◌==◌, if◌then◌else◌}
use Rattle.client_state.specs.declared.head.TheConstants.{FBIG}
use Rattle.cluster_model.specs.declared.answer.UserAnswer.{UserAnswer}
use Rattle.cluster_model.specs.declared.answer.UserAnswer.TheVariants as answer
use Rattle.mirror_writer.specs.Writers.{overlaps_taken}
use Rattle.client_file_calls.specs.declared.open.OpenFile.{OpenFile}
use Rattle.client_mds_calls.specs.declared.ask.MdsAsk.TheVariants as ask
use Rattle.client_state.specs.declared.request.UserRequest.{UserRequest}
use Rattle.client_state.specs.declared.request.UserRequest.TheVariants.{Open, Write, Through, Commit, Read, Return}
use Rattle.client_state.specs.declared.layout.Layout.{Layout}
use Rattle.client_state.specs.ClientStates.{ClientValue}
use Rattle.client_state.specs.ClientQueue.{HeadStep, IsDone, IsWaiting, Asks, answers_user, refuses_request, answers_committed, with_layout, ending, is_writing, unknown_servers, is_past, taken_write, write_under, write_to, write_by, behind_return, is_all_told, layout_committing, on_open_file, head_step, QueueRun, keeps_head, awake, after_head, with_rest, run_requests, run_queue}
use Rattle.client_sends.proofs.UserSteps.{UserRun, run_nothing, run_follows}

pub answer_enters : (a : UserAnswer) (c : ClientValue) → UserRun (answers_user a c)
answer_enters a c = record { entries = (refl, tt) }

-- what the head comes to enters so
abbrev HeadEnters : HeadStep → Type 0
HeadEnters (IsDone r) = UserRun r
HeadEnters (IsWaiting c) = Unit {0}
HeadEnters (Asks kind) = Unit {0}

head_either : (b : Bool) (x y : HeadStep) → HeadEnters x → HeadEnters y → HeadEnters (if b then x else y)
head_either true x y first second = first
head_either false x y first second = second

write_enters : (c : ClientValue) (file : OpenFile) (layout : Option Layout) (at : ℕ) (bytes : List ℕ) → HeadEnters (write_by c file layout at bytes)
write_enters c file None at bytes = tt
write_enters c file (Some l) at bytes =
    head_either (is_writing l.stage) (write_to c file l at bytes (length (unknown_servers c l))) (IsWaiting c)
    (head_either (length (unknown_servers c l) == 0) (write_under c file l at bytes) (Asks (ask.DeviceInfo (length (unknown_servers c l))))
    (head_either (overlaps_taken l.writer at (length bytes)) (IsWaiting (with_layout c (ending l))) (IsDone (taken_write c file l at bytes)) tt (record { entries = (refl, tt) })) tt) tt

return_enters : (c : ClientValue) (layout : Option Layout) (step : HeadStep) → HeadEnters step → HeadEnters (behind_return step c layout)
return_enters c None step enters = enters
return_enters c (Some l) step enters = tt

file_enters : (c : ClientValue) (file : OpenFile) (request : UserRequest) → HeadEnters (on_open_file c file request)
file_enters c file (Open name) = answer_enters _ c
file_enters c file (Write at bytes) = head_either (is_past at bytes) (IsDone (refuses_request FBIG c)) (write_by c file c.layout at bytes) (answer_enters _ c) (write_enters c file c.layout at bytes)
file_enters c file (Through at bytes) = head_either (is_past at bytes) (IsDone (refuses_request FBIG c)) (behind_return (Asks ask.Write) c c.layout) (answer_enters _ c) (return_enters c c.layout (Asks ask.Write) tt)
file_enters c file Commit = head_either (is_all_told c.layout) (IsDone (answers_committed c)) (IsWaiting (layout_committing c c.layout)) (answer_enters _ (record c { told = 0 })) tt
file_enters c file (Read at count) = tt
file_enters c file Return = return_enters c c.layout (IsDone (answers_user answer.Returned c)) (answer_enters answer.Returned c)

head_enters : (c : ClientValue) (file : Option OpenFile) (request : UserRequest) → HeadEnters (head_step c file request)
head_enters c None (Open name) = tt
head_enters c None (Write at bytes) = answer_enters _ c
head_enters c None (Through at bytes) = answer_enters _ c
head_enters c None Commit = answer_enters _ c
head_enters c None (Read at count) = answer_enters _ c
head_enters c None Return = answer_enters _ c
head_enters c (Some file) request = file_enters c file request

head_then : (request : UserRequest) (c : ClientValue) (step : HeadStep) (next : ClientValue → QueueRun) → HeadEnters step → ((d : ClientValue) → UserRun (next d).run) → UserRun (after_head request c step next).run
head_then request c (IsDone r) next enters further = run_follows (awake r) (λ d. (next d).run) (record { entries = enters.entries }) further
head_then request c (IsWaiting d) next enters further = run_nothing (keeps_head request d)
head_then request c (Asks kind) next enters further = run_nothing (keeps_head request c)

requests_enter : (requests : List UserRequest) (c : ClientValue) → UserRun (run_requests requests c).run
requests_enter [] c = run_nothing c
requests_enter (request ∷ rest) c = head_then request (with_rest c rest) (head_step (with_rest c rest) c.file request) (run_requests rest) (head_enters (with_rest c rest) c.file request) (requests_enter rest)

pub queue_enters : (c : ClientValue) → UserRun (run_queue c).run
queue_enters c = requests_enter c.queue c
