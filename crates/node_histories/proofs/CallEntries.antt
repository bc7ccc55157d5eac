-- What goes out at the end of an event enters what a client does.
use Rattle.std.proofs.Common.{Option, Some, None}
use Rattle.std.specs.Prelude.{◌==◌}
use Rattle.mirror_writer.specs.Writers.{WriterSends, next_sent}
use Rattle.client_mds_calls.specs.declared.ask.MdsAsk.{MdsAsk}
use Rattle.client_mds_calls.specs.MdsCalls.{MdsCallValue}
use Rattle.client_state.specs.declared.layout.Layout.{Layout}
use Rattle.client_state.specs.ClientStates.{ClientValue}
use Rattle.client_state.specs.ClientQueue.{run_queue}
use Rattle.client_state.specs.ClientSends.{sends_none}
use Rattle.client_calls.specs.ClientCalls.{calls_next, calls_under, calls_mirror, calls_two, calls_mirrors, call_by_ask, asks_as, asks, may_ask, due_ask, calls_mds, calls_all, ends_event}
use Rattle.node_histories.proofs.ClientSteps.{EntersStep, step_nothing, step_steps, run_steps, step_either}
use Rattle.node_histories.proofs.QueueEntries.{queue_enters}

-- ---- calls to data servers

next_enters : (c : ClientValue) (l : Layout) (o : Option WriterSends) → EntersStep (calls_next c l o)
next_enters c l None = step_nothing c
next_enters c l (Some s) = record { entries = tt }

under_enters : (c : ClientValue) (layout : Option Layout) → EntersStep (calls_under c layout)
under_enters c None = step_nothing c
under_enters c (Some l) = next_enters c l (next_sent l.writer c.next_xid)

mirror_enters : (c : ClientValue) → EntersStep (calls_mirror c)
mirror_enters c = step_either (c.next_xid == 0) (sends_none c) (calls_under c c.layout) (step_nothing c) (under_enters c c.layout)

two_enter : (c : ClientValue) → EntersStep (calls_two c)
two_enter c = step_steps (calls_mirror c) calls_mirror (mirror_enters c) mirror_enters

mirrors_enter : (c : ClientValue) → EntersStep (calls_mirrors c)
mirrors_enter c = step_steps (calls_two c) calls_two (two_enter c) two_enter

-- ---- the compound

asks_enter : (c : ClientValue) (kind : MdsAsk) (o : Option MdsCallValue) → EntersStep (asks_as c kind o)
asks_enter c kind None = step_nothing c
asks_enter c kind (Some call) = record { entries = tt }

pub ask_enters : (c : ClientValue) (o : Option MdsAsk) → EntersStep (asks c o)
ask_enters c None = step_nothing c
ask_enters c (Some kind) = asks_enter c kind (call_by_ask c kind)

mds_enters : (wants : Option MdsAsk) (c : ClientValue) → EntersStep (calls_mds wants c)
mds_enters wants c = step_either (may_ask c c.asked) (asks c (due_ask wants c)) (sends_none c) (ask_enters c (due_ask wants c)) (step_nothing c)

-- ---- the end of an event

all_enter : (wants : Option MdsAsk) (c : ClientValue) → EntersStep (calls_all wants c)
all_enter wants c = step_steps (calls_mirrors c) (calls_mds wants) (mirrors_enter c) (mds_enters wants)

pub event_ends : (c : ClientValue) → EntersStep (ends_event c)
event_ends c = run_steps (run_queue c).run (calls_all (run_queue c).wants) (queue_enters c) (all_enter (run_queue c).wants)
