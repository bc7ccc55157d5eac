-- A request at the head that is kept waits for something that is under way.
use Rattle.std.proofs.Common.{◌≡◌, ℕ, Bool, true, false, ◌||◌, not, List, Option, Some, None, refl, ap, ◌∙◌, length}
use Rattle.std.specs.Prelude.{◌==◌, if◌then◌else◌}
use Rattle.client_file_calls.specs.declared.open.OpenFile.{OpenFile}
use Rattle.client_mds_calls.specs.declared.ask.MdsAsk.TheVariants as ask
use Rattle.cluster_model.specs.declared.answer.UserAnswer.TheVariants as answer
use Rattle.mirror_writer.specs.Writers.{overlaps_taken}
use Rattle.client_state.specs.declared.stage.LayoutStage.{LayoutStage}
use Rattle.client_state.specs.declared.stage.LayoutStage.TheVariants.{Writing, Ending, Deferred, Returning}
use Rattle.client_state.specs.declared.request.UserRequest.{UserRequest}
use Rattle.client_state.specs.declared.request.UserRequest.TheVariants.{Open, Write, Through, Commit, Read, Return}
use Rattle.client_state.specs.declared.layout.Layout.{Layout}
use Rattle.client_state.specs.ClientStates.{ClientValue}
use Rattle.client_state.specs.ClientQueue.{HeadStep, IsDone, IsWaiting, Asks, unknown_servers, is_writing, answers_user, ends_layout, ending, with_layout, answers_committed, refuses_request, is_past, taken_write, write_under, write_to, write_by, behind_return, is_all_told, layout_committing, on_open_file, head_step}
use Rattle.client_state.specs.QueueLaws.{is_under_way, WaitsForCause}

by_if : (b : Bool) (x y : HeadStep) → (b ≡ true → WaitsForCause x) → (b ≡ false → WaitsForCause y) → WaitsForCause (if b then x else y)
by_if true x y first second = first refl
by_if false x y first second = second refl

or_true : (a : Bool) → (a || true) ≡ true
or_true true = refl
or_true false = refl

-- a layout that is to be given back
is_given_back : (l : Layout) (stage : LayoutStage) → l.stage ≡ stage → is_under_way (Some (ends_layout l stage)) ≡ true
is_given_back l Writing at = refl
is_given_back l Ending at = ap (λ s. not (is_writing s) || not (length l.untold == 0)) at
is_given_back l Deferred at = ap (λ s. not (is_writing s) || not (length l.untold == 0)) at
is_given_back l Returning at = ap (λ s. not (is_writing s) || not (length l.untold == 0)) at

ending_waits : (l : Layout) → is_under_way (Some (ending l)) ≡ true
ending_waits l = is_given_back l l.stage refl

write_waits : (c : ClientValue) (file : OpenFile) (layout : Option Layout) (at : ℕ) (bytes : List ℕ) → c.layout ≡ layout → WaitsForCause (write_by c file layout at bytes)
write_waits c file None at bytes is = tt
write_waits c file (Some l) at bytes is =
    let unknown = length (unknown_servers c l) in
    by_if (is_writing l.stage) (write_to c file l at bytes unknown) (IsWaiting c)
    (λ writing. by_if (unknown == 0) (write_under c file l at bytes) (Asks (ask.DeviceInfo unknown))
    (λ known. by_if (overlaps_taken l.writer at (length bytes)) (IsWaiting (with_layout c (ending l))) (IsDone (taken_write c file l at bytes)) (λ over. ending_waits l) (λ apart. tt)) (λ some. tt))
    (λ returning. ap is_under_way is ∙ ap (λ w. not w || not (length l.untold == 0)) returning)

return_waits : (c : ClientValue) (layout : Option Layout) (step : HeadStep) → WaitsForCause step → WaitsForCause (behind_return step c layout)
return_waits c None step waits = waits
return_waits c (Some l) step waits = ending_waits l

untold_waits : (c : ClientValue) (layout : Option Layout) → is_all_told layout ≡ false → is_under_way (layout_committing c layout).layout ≡ true
untold_waits c None untold = absurd cc
untold_waits c (Some l) untold = ap (λ told. not (is_writing l.stage) || not told) untold ∙ or_true (not (is_writing l.stage))

file_waits : (c : ClientValue) (file : OpenFile) (request : UserRequest) → WaitsForCause (on_open_file c file request)
file_waits c file (Open name) = tt
file_waits c file (Write at bytes) = by_if (is_past at bytes) (IsDone (refuses_request 27 c)) (write_by c file c.layout at bytes) (λ past. tt) (λ within. write_waits c file c.layout at bytes refl)
file_waits c file (Through at bytes) = by_if (is_past at bytes) (IsDone (refuses_request 27 c)) (behind_return (Asks ask.Write) c c.layout) (λ past. tt) (λ within. return_waits c c.layout (Asks ask.Write) tt)
file_waits c file Commit = by_if (is_all_told c.layout) (IsDone (answers_committed c)) (IsWaiting (layout_committing c c.layout)) (λ told. tt) (untold_waits c c.layout)
file_waits c file (Read at count) = tt
file_waits c file Return = return_waits c c.layout (IsDone (answers_user answer.Returned c)) tt

pub all_waits : (c : ClientValue) (file : Option OpenFile) (request : UserRequest) → WaitsForCause (head_step c file request)
all_waits c None (Open name) = tt
all_waits c None (Write at bytes) = tt
all_waits c None (Through at bytes) = tt
all_waits c None Commit = tt
all_waits c None (Read at count) = tt
all_waits c None Return = tt
all_waits c (Some file) request = file_waits c file request
