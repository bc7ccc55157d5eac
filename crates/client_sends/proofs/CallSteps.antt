-- What goes out at the end of an event.
use Rattle.std.proofs.Common.{◌≡◌, ℕ, true, Option, Some, None, refl}
use Rattle.std.specs.Prelude.{◌==◌, slice_get}
use Rattle.std.specs.List.{find}
use Rattle.cluster_model.specs.declared.ids.MirrorId.{MirrorId}
use Rattle.cluster_model.specs.DsCalls.{DsCallValue}
use Rattle.cluster_laws.specs.Machine.{may_use}
use Rattle.mirror_writer.specs.declared.call.TakenWrite.{TakenWrite}
use Rattle.mirror_writer.specs.declared.call.WriterCall.{WriterCall}
use Rattle.mirror_writer.specs.declared.call.WriterCall.TheVariants.{NoCall, OutWrite, OutCommit}
use Rattle.mirror_writer.specs.declared.call.NextCall.{NextCall}
use Rattle.mirror_writer.specs.declared.call.NextCall.TheVariants.{SendsWrite, SendsCommit}
use Rattle.mirror_writer.specs.Writers.{WriterMirror, WriterValue, WriterSends, write_of_taken, call_for, sends_as, sends_next, sends_to, sends_at, next_at, next_place, next_sent}
use Rattle.mirror_writer.specs.Outstanding.{OutCall, out_as, out_call, out_at_mirror, out_at}
use Rattle.client_mds_calls.specs.declared.ask.MdsAsk.{MdsAsk}
use Rattle.client_mds_calls.specs.MdsCalls.{MdsCallValue}
use Rattle.client_state.specs.declared.layout.Layout.{Layout}
use Rattle.client_state.specs.ClientStates.{ClientValue}
use Rattle.client_state.specs.ClientQueue.{run_queue}
use Rattle.client_state.specs.ClientSends.{sends_none}
use Rattle.client_calls.specs.ClientCalls.{calls_next, calls_under, calls_mirror, calls_two, calls_mirrors, call_by_ask, asks_as, asks, may_ask, due_ask, calls_mds, calls_all, ends_event}
use Rattle.client_sends.proofs.UserSteps.{UserStep, step_nothing, step_steps, run_steps, step_either}
use Rattle.client_sends.proofs.QueueSteps.{queue_enters}

-- ---- a writer makes its calls as WRITE or COMMIT

abbrev IsUsed : Option DsCallValue → Type 0
IsUsed None = Unit {0}
IsUsed (Some call) = may_use call ≡ true

abbrev IsUsedNext : Option WriterSends → Type 0
IsUsedNext None = Unit {0}
IsUsedNext (Some s) = may_use s.call ≡ true

abbrev pub IsUsedOut : Option OutCall → Type 0
IsUsedOut None = Unit {0}
IsUsedOut (Some out) = may_use out.call ≡ true

taken_used : (id : MirrorId) (o : Option TakenWrite) → IsUsed (write_of_taken id o)
taken_used id None = tt
taken_used id (Some w) = refl

call_used : (s : WriterValue) (id : MirrorId) (next : NextCall) → IsUsed (call_for s id next)
call_used s id (SendsWrite n) = taken_used id (slice_get s.taken n)
call_used s id SendsCommit = refl

module _ (s : WriterValue) (xid : ℕ) where
  used_as : (place : ℕ) (m : WriterMirror) (next : NextCall) (o : Option DsCallValue) → IsUsed o → IsUsedNext (sends_as s xid place m next o)
  used_as place m next None used = tt
  used_as place m next (Some call) used = used

  used_next : (place : ℕ) (m : WriterMirror) (o : Option NextCall) → IsUsedNext (sends_next s xid place m o)
  used_next place m None = tt
  used_next place m (Some next) = used_as place m next (call_for s m.id next) (call_used s m.id next)

  used_to : (place : ℕ) (o : Option WriterMirror) → IsUsedNext (sends_to s xid place o)
  used_to place None = tt
  used_to place (Some m) = used_next place m (next_at s.wants_commit m)

  used_at : (o : Option ℕ) → IsUsedNext (sends_at s xid o)
  used_at None = tt
  used_at (Some place) = used_to place (slice_get s.mirrors place)

  next_used : IsUsedNext (next_sent s xid)
  next_used = used_at (next_place s)

out_used_as : (xid : ℕ) (o : Option DsCallValue) → IsUsed o → IsUsedOut (out_as xid o)
out_used_as xid None used = tt
out_used_as xid (Some call) used = used

out_used_call : (w : WriterValue) (id : MirrorId) (call : WriterCall) → IsUsedOut (out_call w id call)
out_used_call w id NoCall = tt
out_used_call w id (OutWrite xid n timeouts) = out_used_as xid (write_of_taken id (slice_get w.taken n)) (taken_used id (slice_get w.taken n))
out_used_call w id (OutCommit xid timeouts) = refl

out_used_mirror : (w : WriterValue) (o : Option WriterMirror) → IsUsedOut (out_at_mirror w o)
out_used_mirror w None = tt
out_used_mirror w (Some m) = out_used_call w m.id m.call

pub out_used : (w : WriterValue) (server : ℕ) → IsUsedOut (out_at w server)
out_used w server = out_used_mirror w (find (λ (m : WriterMirror). m.id.server == server) w.mirrors)

-- ---- calls to data servers

next_sends : (c : ClientValue) (l : Layout) (o : Option WriterSends) → IsUsedNext o → UserStep (calls_next c l o)
next_sends c l None used = step_nothing c
next_sends c l (Some s) used = record { entries = tt; sends = (used, tt) }

under_sends : (c : ClientValue) (layout : Option Layout) → UserStep (calls_under c layout)
under_sends c None = step_nothing c
under_sends c (Some l) = next_sends c l (next_sent l.writer c.next_xid) (next_used l.writer c.next_xid)

mirror_sends : (c : ClientValue) → UserStep (calls_mirror c)
mirror_sends c = step_either (c.next_xid == 0) (sends_none c) (calls_under c c.layout) (step_nothing c) (under_sends c c.layout)

two_send : (c : ClientValue) → UserStep (calls_two c)
two_send c = step_steps (calls_mirror c) calls_mirror (mirror_sends c) mirror_sends

mirrors_send : (c : ClientValue) → UserStep (calls_mirrors c)
mirrors_send c = step_steps (calls_two c) calls_two (two_send c) two_send

-- ---- the compound

asks_send : (c : ClientValue) (kind : MdsAsk) (o : Option MdsCallValue) → UserStep (asks_as c kind o)
asks_send c kind None = step_nothing c
asks_send c kind (Some call) = record { entries = tt; sends = (tt, tt) }

pub ask_sends : (c : ClientValue) (o : Option MdsAsk) → UserStep (asks c o)
ask_sends c None = step_nothing c
ask_sends c (Some kind) = asks_send c kind (call_by_ask c kind)

mds_sends : (wants : Option MdsAsk) (c : ClientValue) → UserStep (calls_mds wants c)
mds_sends wants c = step_either (may_ask c c.asked) (asks c (due_ask wants c)) (sends_none c) (ask_sends c (due_ask wants c)) (step_nothing c)

-- ---- the end of an event

all_send : (wants : Option MdsAsk) (c : ClientValue) → UserStep (calls_all wants c)
all_send wants c = step_steps (calls_mirrors c) (calls_mds wants) (mirrors_send c) (mds_sends wants)

pub event_ends : (c : ClientValue) → UserStep (ends_event c)
event_ends c = run_steps (run_queue c).run (calls_all (run_queue c).wants) (queue_enters c) (all_send (run_queue c).wants)
