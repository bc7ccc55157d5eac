-- The queue leaves the uid of a layout, and whether it was given back.
use Rattle.std.proofs.Common.{◌≡◌, ℕ, Bool, true, false, List, [], ◌∷◌, length, Option, Some, None, refl, sym, ap, ◌∙◌}
use Rattle.std.specs.Prelude.{◌==◌, if◌then◌else◌}
use Rattle.mirror_writer.specs.Writers.{overlaps_taken}
use Rattle.client_file_calls.specs.declared.open.OpenFile.{OpenFile}
use Rattle.client_mds_calls.specs.declared.ask.MdsAsk.TheVariants as ask
use Rattle.cluster_model.specs.declared.answer.UserAnswer.TheVariants as answer
use Rattle.client_state.specs.declared.stage.LayoutStage.{LayoutStage}
use Rattle.client_state.specs.declared.stage.LayoutStage.TheVariants.{Writing, Ending, Deferred, Returning}
use Rattle.client_state.specs.declared.request.UserRequest.{UserRequest}
use Rattle.client_state.specs.declared.request.UserRequest.TheVariants.{Open, Write, Through, Commit, Read, Return}
use Rattle.client_state.specs.declared.layout.Layout.{Layout}
use Rattle.client_state.specs.ClientStates.{ClientValue}
use Rattle.client_state.specs.ClientQueue.{HeadStep, IsDone, IsWaiting, Asks, answers_user, refuses_request, answers_committed, with_layout, ends_layout, ending, is_writing, unknown_servers, is_past, taken_write, write_under, write_to, write_by, behind_return, is_all_told, layout_committing, on_open_file, head_step, QueueRun, after_head, awake, with_rest, run_requests, run_queue}

-- the uid of a layout, and whether a LAYOUTRETURN of it was sent
pub record HeldLayout : Type 0 where
  pub uid : ℕ
  pub was_sent : Bool

abbrev pub held_of : Option Layout → Option HeldLayout
held_of None = None
held_of (Some l) = Some (record { uid = l.writer.cred; was_sent = l.was_sent })

abbrev Holds : Option Layout → HeadStep → Type 0
Holds layout (IsDone r) = held_of r.client.layout ≡ held_of layout
Holds layout (IsWaiting c) = held_of c.layout ≡ held_of layout
Holds layout (Asks kind) = Unit {0}

by_if : (layout : Option Layout) (b : Bool) (x y : HeadStep) → Holds layout x → Holds layout y → Holds layout (if b then x else y)
by_if layout true x y first second = first
by_if layout false x y first second = second

ends : (l : Layout) (stage : LayoutStage) → held_of (Some (ends_layout l stage)) ≡ held_of (Some l)
ends l Writing = refl
ends l Ending = refl
ends l Deferred = refl
ends l Returning = refl

write_holds : (c : ClientValue) (file : OpenFile) (layout : Option Layout) (at : ℕ) (bytes : List ℕ) → c.layout ≡ layout → Holds c.layout (write_by c file layout at bytes)
write_holds c file None at bytes there = tt
write_holds c file (Some l) at bytes there =
    by_if c.layout (is_writing l.stage) (write_to c file l at bytes (length (unknown_servers c l))) (IsWaiting c)
    (by_if c.layout (length (unknown_servers c l) == 0) (write_under c file l at bytes) (Asks (ask.DeviceInfo (length (unknown_servers c l))))
    (by_if c.layout (overlaps_taken l.writer at (length bytes)) (IsWaiting (with_layout c (ending l))) (IsDone (taken_write c file l at bytes)) (ends l l.stage ∙ sym (ap held_of there)) (sym (ap held_of there))) tt)
    refl

return_holds : (c : ClientValue) (layout : Option Layout) (step : HeadStep) → c.layout ≡ layout → Holds c.layout step → Holds c.layout (behind_return step c layout)
return_holds c None step there holds = holds
return_holds c (Some l) step there holds = ends l l.stage ∙ sym (ap held_of there)

commits_hold : (c : ClientValue) (layout : Option Layout) → c.layout ≡ layout → held_of (layout_committing c layout).layout ≡ held_of c.layout
commits_hold c None there = refl
commits_hold c (Some l) there = sym (ap held_of there)

file_holds : (c : ClientValue) (file : OpenFile) (request : UserRequest) → Holds c.layout (on_open_file c file request)
file_holds c file (Open name) = refl
file_holds c file (Write at bytes) = by_if c.layout (is_past at bytes) (IsDone (refuses_request 27 c)) (write_by c file c.layout at bytes) refl (write_holds c file c.layout at bytes refl)
file_holds c file (Through at bytes) = by_if c.layout (is_past at bytes) (IsDone (refuses_request 27 c)) (behind_return (Asks ask.Write) c c.layout) refl (return_holds c c.layout (Asks ask.Write) refl tt)
file_holds c file Commit = by_if c.layout (is_all_told c.layout) (IsDone (answers_committed c)) (IsWaiting (layout_committing c c.layout)) refl (commits_hold c c.layout refl)
file_holds c file (Read at count) = tt
file_holds c file Return = return_holds c c.layout (IsDone (answers_user answer.Returned c)) refl refl

head_holds : (c : ClientValue) (file : Option OpenFile) (request : UserRequest) → Holds c.layout (head_step c file request)
head_holds c None (Open name) = tt
head_holds c None (Write at bytes) = refl
head_holds c None (Through at bytes) = refl
head_holds c None Commit = refl
head_holds c None (Read at count) = refl
head_holds c None Return = refl
head_holds c (Some file) request = file_holds c file request

after_holds : (request : UserRequest) (c : ClientValue) (step : HeadStep) (next : ClientValue → QueueRun) → Holds c.layout step → ((d : ClientValue) → held_of (next d).run.client.layout ≡ held_of d.layout)
    → held_of (after_head request c step next).run.client.layout ≡ held_of c.layout
after_holds request c (IsDone r) next holds further = further (awake r).client ∙ holds
after_holds request c (IsWaiting d) next holds further = holds
after_holds request c (Asks kind) next holds further = refl

requests_hold : (requests : List UserRequest) (c : ClientValue) → held_of (run_requests requests c).run.client.layout ≡ held_of c.layout
requests_hold [] c = refl
requests_hold (request ∷ rest) c = after_holds request (with_rest c rest) (head_step (with_rest c rest) c.file request) (run_requests rest) (head_holds (with_rest c rest) c.file request) (requests_hold rest)

pub queue_holds : (c : ClientValue) → held_of (run_queue c).run.client.layout ≡ held_of c.layout
queue_holds c = requests_hold c.queue c
