-- Answers of the metadata server.
use Rattle.std.proofs.Common.{ℕ, List, [], ◌∷◌, Option, Some, None, refl}
use Rattle.std.specs.Prelude.{◌&&◌, ◌==◌, if◌then◌else◌}
use Rattle.client_answers.specs.declared.answers.TheConstants.{BADSESSION, BAD_STATEID}
use Rattle.client_file_calls.specs.declared.open.OpenFile.{OpenFile}
use Rattle.client_mds_calls.specs.declared.ask.MdsAsk.{MdsAsk}
use Rattle.client_mds_calls.specs.declared.reply.SlotReport.{SlotReport}
use Rattle.client_mds_calls.specs.declared.reply.SlotReport.TheVariants.{Taken, Uncached, Delayed, Unknown}
use Rattle.client_mds_calls.specs.MdsReplies.{MdsAnswerValue, Client, Session, Complete, Opened, Granted, Devices, Written, Bytes, Returned, Renewed, Refused, MdsReplyValue}
use Rattle.client_state.specs.declared.request.UserRequest.{UserRequest}
use Rattle.client_state.specs.declared.layout.Layout.{Layout}
use Rattle.client_state.specs.ClientStates.{ClientValue, ClientRun, unmoved, as_new, is_layout_return}
use Rattle.client_state.specs.ClientQueue.{revoked_layout}
use Rattle.client_answers.specs.ClientAnswers.{next_on_slot, without_head, layout_returned, head_refused, after_refusal, refused_otherwise, is_for_later, asks_later, session_lost, refused_by_mds, by_answer, without_asked, mds_answered}
use Rattle.client_sends.proofs.UserSteps.{UserRun, run_nothing, run_ends, run_either}
use Rattle.client_sends.proofs.QueueSteps.{answer_enters}
use Rattle.client_sends.proofs.ServerSteps.{tells_enters, revoked_enters}

returned_enters : (file : Option OpenFile) (layout : Option Layout) (c : ClientValue) → UserRun (layout_returned file layout c)
returned_enters None layout c = run_nothing c
returned_enters (Some file) None c = run_nothing c
returned_enters (Some file) (Some l) c = tells_enters file l.writer l.untold (record c { layout = None })

head_enters : (status : ℕ) (queue : List UserRequest) (c : ClientValue) → UserRun (head_refused status queue c)
head_enters status [] c = run_nothing c
head_enters status (request ∷ rest) c = answer_enters _ (without_head c)

lost_enters : (layout : Option Layout) (c : ClientValue) → UserRun (session_lost layout c)
lost_enters None c = run_ends (head_refused BADSESSION c.queue c) as_new (head_enters BADSESSION c.queue c)
lost_enters (Some l) c = run_ends (revoked_layout c) as_new (revoked_enters c)

otherwise_enters : (kind : MdsAsk) (status : ℕ) (c : ClientValue) → UserRun (refused_otherwise kind status c)
otherwise_enters kind status c = run_ends (head_refused status c.queue c) (after_refusal kind) (head_enters status c.queue c)

-- behind BADSESSION, and behind what is asked again later
abbrev taken_away : MdsAsk → ℕ → ClientValue → ClientRun
taken_away kind status c = if (status == BAD_STATEID) && is_layout_return kind then revoked_layout c else refused_otherwise kind status c

abbrev later_or : MdsAsk → ℕ → ClientValue → ClientRun
later_or kind status c = if is_for_later status then unmoved (asks_later kind c) else taken_away kind status c

refused_enters : (kind : MdsAsk) (status : ℕ) (c : ClientValue) → UserRun (refused_by_mds kind status c)
refused_enters kind status c =
    run_either (status == BADSESSION) (session_lost c.layout c) (later_or kind status c) (lost_enters c.layout c)
    (run_either (is_for_later status) (unmoved (asks_later kind c)) (taken_away kind status c) (run_nothing (asks_later kind c))
    (run_either ((status == BAD_STATEID) && is_layout_return kind) (revoked_layout c) (refused_otherwise kind status c) (revoked_enters c) (otherwise_enters kind status c)))

answer_comes : (kind : MdsAsk) (a : MdsAnswerValue) (c : ClientValue) → UserRun (by_answer kind a c)
answer_comes kind (Refused status) c = refused_enters kind status c
answer_comes kind (Client clientid sequence) c = record { entries = tt }
answer_comes kind (Session session) c = record { entries = tt }
answer_comes kind Complete c = record { entries = tt }
answer_comes kind (Opened file) c = record { entries = (refl, tt) }
answer_comes kind (Granted grant) c = record { entries = tt }
answer_comes kind (Devices addresses) c = record { entries = tt }
answer_comes kind Written c = record { entries = (refl, tt) }
answer_comes kind (Bytes eof bytes) c = record { entries = (refl, tt) }
answer_comes kind Returned c = returned_enters c.file c.layout c
answer_comes kind Renewed c = run_nothing c

by_slot : (kind : MdsAsk) (slot : SlotReport) (a : MdsAnswerValue) (now : ℕ) (c : ClientValue) → UserRun (mds_answered kind (record { slot = slot; answer = a }) now c)
by_slot kind Taken a now c = answer_comes kind a (without_asked (next_on_slot now c))
by_slot kind Unknown a now c = answer_comes kind a (without_asked c)
by_slot kind Uncached a now c = record { entries = tt }
by_slot kind Delayed a now c = record { entries = tt }

pub mds_answer : (kind : MdsAsk) (reply : MdsReplyValue) (now : ℕ) (c : ClientValue) → UserRun (mds_answered kind reply now c)
mds_answer kind reply now c = by_slot kind reply.slot reply.answer now c
