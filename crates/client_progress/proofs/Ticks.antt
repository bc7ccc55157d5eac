-- Why nothing of a client waits for a moment behind a tick: the queue and the calls leave nothing for later.
use Rattle.std.proofs.Common.{◌≡◌, ℕ, Bool, true, false, List, [], ◌∷◌, length, Option, Some, None, refl, sym, ap, ◌∙◌}
use Rattle.std.specs.Prelude.{◌==◌, ◌&&◌, if◌then◌else◌}
use Rattle.cluster_model.specs.declared.answer.UserAnswer.TheVariants as answer
use Rattle.mirror_writer.specs.Writers.{overlaps_taken, WriterSends, next_sent}
use Rattle.client_file_calls.specs.declared.open.OpenFile.{OpenFile}
use Rattle.client_mds_calls.specs.declared.ask.MdsAsk.{MdsAsk}
use Rattle.client_mds_calls.specs.declared.ask.MdsAsk.TheVariants as ask
use Rattle.client_mds_calls.specs.MdsCalls.{MdsCallValue}
use Rattle.client_state.specs.declared.stage.LayoutStage.{LayoutStage}
use Rattle.client_state.specs.declared.stage.LayoutStage.TheVariants.{Writing, Ending, Deferred, Returning}
use Rattle.client_state.specs.declared.request.UserRequest.{UserRequest}
use Rattle.client_state.specs.declared.request.UserRequest.TheVariants.{Open, Write, Through, Commit, Read, Return}
use Rattle.client_state.specs.declared.layout.Layout.{Layout}
use Rattle.client_state.specs.declared.asked.Asked.{Asked}
use Rattle.client_state.specs.ClientStates.{ClientValue}
use Rattle.client_state.specs.ClientSends.{RepeatsToMds, ClientStep, sends_none}
use Rattle.client_state.specs.ClientQueue.{HeadStep, IsDone, IsWaiting, Asks, answers_user, refuses_request, answers_committed, with_layout, ends_layout, ending, is_writing, unknown_servers, is_past, taken_write, write_under, write_to, write_by, behind_return, is_all_told, layout_committing, on_open_file, head_step, QueueRun, after_head, awake, with_rest, run_requests, run_queue}
use Rattle.client_calls.specs.ClientCalls.{calls_next, calls_under, calls_mirror, calls_two, calls_mirrors, due_ask, call_by_ask, layout_asked, returning, asks_as, asks, may_ask, calls_mds, ends_event}
use Rattle.mirror_client.specs.ClientRule.{stage_after_tick, layout_at_tick, client_at_tick, resends_late, is_stale_tie, renews, ticks_on}
use Rattle.client_laws.specs.ClientHistory.{Ticked, input_step}
use Rattle.client_progress.specs.Going.{is_deferred_stage, is_deferred, has_late_record, AwaitsNoTick}

-- neither the head nor the layout waits for a tick
record CalmOf (waits : Bool) (layout : Option Layout) : Type 0 where
  head : waits ≡ false
  still : is_deferred layout ≡ false

abbrev Calm : ClientValue → Type 0
Calm c = CalmOf c.waits c.layout

-- ---- the queue

abbrev HeadCalm : HeadStep → Type 0
HeadCalm (IsDone r) = is_deferred r.client.layout ≡ false
HeadCalm (IsWaiting d) = Calm d
HeadCalm (Asks kind) = Unit {0}

head_if : (b : Bool) (x y : HeadStep) → HeadCalm x → HeadCalm y → HeadCalm (if b then x else y)
head_if true x y first second = first
head_if false x y first second = second

with_calm : (c : ClientValue) (l new : Layout) → c.layout ≡ Some l → (is_deferred_stage l.stage ≡ false → is_deferred_stage new.stage ≡ false) → Calm c → Calm (with_layout c new)
with_calm c l new at stays calm = record { head = calm.head; still = stays (sym (ap is_deferred at) ∙ calm.still) }

ending_calm : (l : Layout) → is_deferred_stage l.stage ≡ false → is_deferred_stage (ending l).stage ≡ false
ending_calm l = by_stage l.stage
  where
    by_stage : (stage : LayoutStage) → is_deferred_stage l.stage ≡ false → is_deferred_stage (ends_layout l stage).stage ≡ false
    by_stage Writing is = refl
    by_stage Ending is = is
    by_stage Deferred is = is
    by_stage Returning is = is

write_calm : (c : ClientValue) (file : OpenFile) (layout : Option Layout) (at : ℕ) (bytes : List ℕ) → c.layout ≡ layout → Calm c → HeadCalm (write_by c file layout at bytes)
write_calm c file None at bytes there calm = tt
write_calm c file (Some l) at bytes there calm =
    head_if (is_writing l.stage) (write_to c file l at bytes (length (unknown_servers c l))) (IsWaiting c)
    (head_if (length (unknown_servers c l) == 0) (write_under c file l at bytes) (Asks (ask.DeviceInfo (length (unknown_servers c l))))
    (head_if (overlaps_taken l.writer at (length bytes)) (IsWaiting (with_layout c (ending l))) (IsDone (taken_write c file l at bytes)) (with_calm c l (ending l) there (ending_calm l) calm) (sym (ap is_deferred there) ∙ calm.still)) tt)
    calm

return_calm : (c : ClientValue) (layout : Option Layout) (step : HeadStep) → c.layout ≡ layout → Calm c → HeadCalm step → HeadCalm (behind_return step c layout)
return_calm c None step there calm keeps = keeps
return_calm c (Some l) step there calm keeps = with_calm c l (ending l) there (ending_calm l) calm

commits_calm : (c : ClientValue) (layout : Option Layout) → c.layout ≡ layout → Calm c → Calm (layout_committing c layout)
commits_calm c None there calm = calm
commits_calm c (Some l) there calm = record { head = calm.head; still = sym (ap is_deferred there) ∙ calm.still }

file_calm : (c : ClientValue) (file : OpenFile) (request : UserRequest) → Calm c → HeadCalm (on_open_file c file request)
file_calm c file (Open name) calm = calm.still
file_calm c file (Write at bytes) calm = head_if (is_past at bytes) (IsDone (refuses_request 27 c)) (write_by c file c.layout at bytes) calm.still (write_calm c file c.layout at bytes refl calm)
file_calm c file (Through at bytes) calm = head_if (is_past at bytes) (IsDone (refuses_request 27 c)) (behind_return (Asks ask.Write) c c.layout) calm.still (return_calm c c.layout (Asks ask.Write) refl calm tt)
file_calm c file Commit calm = head_if (is_all_told c.layout) (IsDone (answers_committed c)) (IsWaiting (layout_committing c c.layout)) calm.still (commits_calm c c.layout refl calm)
file_calm c file (Read at count) calm = tt
file_calm c file Return calm = return_calm c c.layout (IsDone (answers_user answer.Returned c)) refl calm calm.still

head_calm : (c : ClientValue) (file : Option OpenFile) (request : UserRequest) → Calm c → HeadCalm (head_step c file request)
head_calm c None (Open name) calm = tt
head_calm c None (Write at bytes) calm = calm.still
head_calm c None (Through at bytes) calm = calm.still
head_calm c None Commit calm = calm.still
head_calm c None (Read at count) calm = calm.still
head_calm c None Return calm = calm.still
head_calm c (Some file) request calm = file_calm c file request calm

after_calm : (request : UserRequest) (c : ClientValue) (step : HeadStep) (next : ClientValue → QueueRun) → Calm c → HeadCalm step → ((d : ClientValue) → Calm d → Calm (next d).run.client) → Calm (after_head request c step next).run.client
after_calm request c (IsDone r) next calm keeps further = further (awake r).client (record { head = refl; still = keeps })
after_calm request c (IsWaiting d) next calm keeps further = record { head = keeps.head; still = keeps.still }
after_calm request c (Asks kind) next calm keeps further = record { head = calm.head; still = calm.still }

requests_calm : (requests : List UserRequest) (c : ClientValue) → Calm c → Calm (run_requests requests c).run.client
requests_calm [] c calm = calm
requests_calm (request ∷ rest) c calm =
    let here : Calm (with_rest c rest) = record { head = calm.head; still = calm.still } in
    after_calm request (with_rest c rest) (head_step (with_rest c rest) c.file request) (run_requests rest) here (head_calm (with_rest c rest) c.file request here) (requests_calm rest)

-- ---- calls

pub step_if : (P : ClientValue → Type 0) (b : Bool) (x y : ClientStep) → (b ≡ true → P x.client) → (b ≡ false → P y.client) → P (if b then x else y).client
step_if P true x y first second = first refl
step_if P false x y first second = second refl

next_calm : (c : ClientValue) (l : Layout) (o : Option WriterSends) → c.layout ≡ Some l → Calm c → Calm (calls_next c l o).client
next_calm c l None at calm = calm
next_calm c l (Some s) at calm = record { head = calm.head; still = sym (ap is_deferred at) ∙ calm.still }

under_calm : (c : ClientValue) (layout : Option Layout) → c.layout ≡ layout → Calm c → Calm (calls_under c layout).client
under_calm c None at calm = calm
under_calm c (Some l) at calm = next_calm c l (next_sent l.writer c.next_xid) at calm

mirror_calm : (c : ClientValue) → Calm c → Calm (calls_mirror c).client
mirror_calm c calm = step_if Calm (c.next_xid == 0) (sends_none c) (calls_under c c.layout) (λ is. calm) (λ is. under_calm c c.layout refl calm)

two_calm : (c : ClientValue) → Calm c → Calm (calls_two c).client
two_calm c calm = mirror_calm (calls_mirror c).client (mirror_calm c calm)

mirrors_calm : (c : ClientValue) → Calm c → Calm (calls_mirrors c).client
mirrors_calm c calm = two_calm (calls_two c).client (two_calm c calm)

asked_calm : (kind : MdsAsk) (layout : Option Layout) → is_deferred layout ≡ false → is_deferred (layout_asked kind layout) ≡ false
asked_calm ask.LayoutReturn layout is = by_layout layout
  where
    by_layout : (layout : Option Layout) → is_deferred (returning layout) ≡ false
    by_layout None = refl
    by_layout (Some l) = refl
asked_calm ask.ExchangeId layout is = is
asked_calm ask.CreateSession layout is = is
asked_calm ask.ReclaimComplete layout is = is
asked_calm ask.Open layout is = is
asked_calm ask.LayoutGet layout is = is
asked_calm (ask.DeviceInfo count) layout is = is
asked_calm ask.Write layout is = is
asked_calm (ask.Read at count) layout is = is
asked_calm ask.Renew layout is = is

as_calm : (c : ClientValue) (kind : MdsAsk) (o : Option MdsCallValue) → Calm c → Calm (asks_as c kind o).client
as_calm c kind None calm = calm
as_calm c kind (Some call) calm = record { head = calm.head; still = asked_calm kind c.layout calm.still }

asks_calm : (c : ClientValue) (kind : Option MdsAsk) → Calm c → Calm (asks c kind).client
asks_calm c None calm = calm
asks_calm c (Some kind) calm = as_calm c kind (call_by_ask c kind) calm

mds_calm : (c : ClientValue) (wants : Option MdsAsk) → Calm c → Calm (calls_mds wants c).client
mds_calm c wants calm = step_if Calm (may_ask c c.asked) (asks c (due_ask wants c)) (sends_none c) (λ is. asks_calm c (due_ask wants c) calm) (λ is. calm)

ends_calm : (c : ClientValue) → Calm c → Calm (ends_event c).client
ends_calm c calm =
    let d : ClientValue = (run_queue c).run.client in
    mds_calm (calls_mirrors d).client (run_queue c).wants (mirrors_calm d (requests_calm c.queue c calm))

-- ---- a tick

-- and no compound waits for it
record QuietOf (waits : Bool) (layout : Option Layout) (asked : Option Asked) : Type 0 where
  calm : CalmOf waits layout
  compound : has_late_record asked ≡ false

abbrev Quiet : ClientValue → Type 0
Quiet c = QuietOf c.waits c.layout c.asked

resent_quiet : (c : ClientValue) (asked : Option Asked) → c.asked ≡ asked → Calm c → Quiet (resends_late c asked).client
resent_quiet c None at calm = record { calm = calm; compound = ap has_late_record at }
resent_quiet c (Some a) at calm =
    step_if Quiet a.is_late (record { client = record c { asked = Some (record a { is_late = false }) }; entries = []; sends = RepeatsToMds a.xid a.message ∷ [] }) (sends_none c)
    (λ late. record { calm = record { head = calm.head; still = calm.still }; compound = refl }) (λ late. record { calm = calm; compound = ap has_late_record at ∙ late })

as_quiet : (c : ClientValue) (kind : MdsAsk) (o : Option MdsCallValue) → Quiet c → Quiet (asks_as c kind o).client
as_quiet c kind None quiet = quiet
as_quiet c kind (Some call) quiet = record { calm = as_calm c kind (Some call) quiet.calm; compound = refl }

renewed_quiet : (now : ℕ) (c : ClientValue) → Quiet c → Quiet (renews now c).client
renewed_quiet now c quiet = step_if Quiet (may_ask c c.asked && is_stale_tie now c.tie) (asks c (Some ask.Renew)) (sends_none c) (λ is. as_quiet c ask.Renew (call_by_ask c ask.Renew) quiet) (λ is. quiet)

ticked_quiet : (now : ℕ) (c : ClientValue) → Calm c → Quiet (ticks_on now c).client
ticked_quiet now c calm =
    let d : ClientValue = (ends_event c).client in
    renewed_quiet now (resends_late d d.asked).client (resent_quiet d d.asked refl (ends_calm c calm))

tick_calm : (layout : Option Layout) → is_deferred (layout_at_tick layout) ≡ false
tick_calm None = refl
tick_calm (Some l) = by_stage l.stage
  where
    by_stage : (stage : LayoutStage) → is_deferred_stage (stage_after_tick stage) ≡ false
    by_stage Writing = refl
    by_stage Ending = refl
    by_stage Deferred = refl
    by_stage Returning = refl

pub awaits_none : (now : ℕ) (c : ClientValue) → c.has_left ≡ false → AwaitsNoTick (input_step (Ticked now) c).client
awaits_none now c stays = by_flag c.has_left stays
  where
    quiet : Quiet (ticks_on now (client_at_tick c)).client
    quiet = ticked_quiet now (client_at_tick c) (record { head = refl; still = tick_calm c.layout })

    by_flag : (b : Bool) → b ≡ false → AwaitsNoTick (if b then sends_none c else ticks_on now (client_at_tick c)).client
    by_flag true is = absurd cc
    by_flag false is = record { head = quiet.calm.head; layout = quiet.calm.still; compound = quiet.compound }
